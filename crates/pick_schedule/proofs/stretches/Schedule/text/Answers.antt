use Rattle.std.proofs.Common.{◌≡◌, ◌≤◌, List, length, take, subst, sym, ap, ◌∙◌, arith}
use Rattle.std.specs.Prelude.{Ok}
use Rattle.std.proofs.lemmas.List.{take_all}
use Rattle.event_core.specs.declared.pick.Pick.{Pick}
use Rattle.pick_schedule.specs.declared.stretches.Stretch.{Stretch}
use Rattle.pick_schedule.specs.Schedule.{schedule_of}
use Rattle.pick_schedule.specs.Stretches.{picks_in}
use Rattle.pick_schedule.specs.Printing.{AreOfThreads, schedule_text}
use Rattle.pick_schedule.proofs.ReadBack.{read_back}
use Rattle.pick_schedule.proofs.stretches.Schedule.text.Goals as goal

pub returns : goal.returns
returns c =
    let items : List Stretch = c.stretches-stretch-items.result.now in
    let same : picks_in items ≡ c.args.self.now = c.stretches-stretch-items.ensures.picks in
    let few : length (picks_in items) ≤ 1000000 = subst (λ (ps : List Pick). length ps ≤ 1000000) (sym same) c.stretches-stretch-items.ensures.few in
    let whole : take c.loop-stretch.stretch-index items ≡ items = take_all c.loop-stretch.stretch-index items (omega arith) in
    ap schedule_of (c.loop-stretch.invariant ∙ ap schedule_text whole)
    ∙ read_back items (subst (λ (ps : List Pick). AreOfThreads ps) (sym same) c.requires) few
    ∙ ap (λ (ps : List Pick). Ok ps) same
