-- What the workers leave is the world of a run, and the rest of it is recorded.
use Rattle.std.proofs.Common.{◌≡◌, ◌∙◌, length, ap, sym}
use Rattle.std.specs.Prelude.{Result, Ok, Err, IfOk}
use Rattle.rw_objects.specs.Memory.{memory_of}
use Rattle.event_core.specs.World.{world_of}
use Rattle.workers.proofs.Recordings.{ran_sound, ran_logs, ran_recording}
use Rattle.workers.proofs.recording_workers.record_history.Goals as goal

if_ok_more : {A E : Type 0} (r : Result A E) (P Q : A → Type 0) → ((a : A) → P a → Q a) → IfOk r P → IfOk r Q
if_ok_more (Ok a) P Q f p = f a p
if_ok_more (Err e) P Q f p = p

pub resume-world-requires : goal.resume-world-requires
resume-world-requires g c =
    let h = c.requires in
    ran_sound g.S.ObjectSpace.meaning g.M.Machine.code g.M.Machine.state h.may c.args.steps h.fixed h.values h.machines
    c.args.history.order.items c.args.history.entries.items (memory_of c.args.history.memory) c.args.workers.items c.in_ok-threads.threads.items
    c.in_ok-threads.ensures h.ran c.are_lawful.ensures.space c.are_lawful.ensures.code h.few h.fresh

pub record_rest-requires : goal.record_rest-requires
record_rest-requires g c =
    let h = c.requires in
    ran_logs g.S.ObjectSpace.meaning g.M.Machine.code g.M.Machine.state h.may c.args.steps h.fixed h.values h.machines
    c.args.history.order.items c.args.history.entries.items (memory_of c.args.history.memory) c.args.workers.items c.in_ok-threads.threads.items
    c.in_ok-threads.ensures h.ran ∙ ap length (sym c.resume-world.ensures.threads)

pub returns : goal.returns
returns g c =
    if_ok_more c.record_rest.result _ _ (λ recorded d h.
    ran_recording g.S.ObjectSpace.meaning g.M.Machine.code g.M.Machine.state h.may c.args.steps h.fixed h.values h.machines
    c.args.history.order.items c.args.history.entries.items (memory_of c.args.history.memory) c.args.workers.items c.in_ok-threads.threads.items
    c.in_ok-threads.ensures h.ran (world_of c.resume-world.result) c.resume-world.ensures.threads c.resume-world.ensures.memory recorded d) c.record_rest.ensures
