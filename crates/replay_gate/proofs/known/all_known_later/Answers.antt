use Rattle.std.proofs.Common.{◌<◌, ◌≤◌, length, sym, ap, ◌∙◌, arith, inl, inr}
use Rattle.std.specs.Prelude.{option_map}
use Rattle.std.proofs.lemmas.Bool.{cases_lt}
use Rattle.std.proofs.lemmas.List.{length-set}
use Rattle.std.proofs.lemmas.Option.{slice_get_past}
use Rattle.replay_gate.specs.Known.{known_later}
use Rattle.replay_gate.proofs.KnownTurns.{later_before, later_behind}
use Rattle.replay_gate.proofs.known.all_known_later.Goals as goal

pub loop-at-preserved : goal.loop-at-preserved
loop-at-preserved c =
    let inv = c.loop-at.invariant in
    let within : c.loop-at.at < length c.loop-at.all = let e = inv.long in let f = c.told-all in let l = c.loop-at-test.true in omega (arith, e, f, l) in
    record {
      before = later_before c.loop-at.all c.args.all.now c.loop-at.at c.known_later.result within c.known_later.ensures inv.before inv.behind;
      behind = later_behind c.loop-at.all c.args.all.now c.loop-at.at c.known_later.result inv.behind;
      long = length-set c.loop-at.all c.loop-at.at c.known_later.result ∙ inv.long;
    }

pub returns : goal.returns
returns c = λ t.
    let inv = c.loop-at.invariant in
    elim (cases_lt t c.loop-at.at) [
      | inl l ↦ inv.before t l
      | inr l ↦
          let far : length c.args.all.now ≤ t = let f = c.told-all in let e = c.loop-at-test.false in omega (arith, f, e, l) in
          inv.behind t l ∙ slice_get_past c.args.all.now t far ∙ sym (ap (option_map known_later) (slice_get_past c.args.all.now t far))
    ]
