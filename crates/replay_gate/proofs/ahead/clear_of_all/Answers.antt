use Rattle.std.proofs.Common.{◌≡◌, Some, slice_get, subst, arith, inl, inr}
use Rattle.std.proofs.lemmas.Bool.{cases_lt}
use Rattle.std.proofs.lemmas.Option.{get_or_from_slice_get, slice_get_within}
use Rattle.event_core.specs.World.{world_of}
use Rattle.replay_gate.specs.declared.breaks.Break.{Break}
use Rattle.replay_gate.specs.Clear.{IsClear}
use Rattle.replay_gate.proofs.LocalRounds.{fewer_clear}
use Rattle.replay_gate.proofs.ahead.clear_of_all.Goals as goal

pub loop-one-preserved : goal.loop-one-preserved
loop-one-preserved g c =
    let code = g.M.Machine.code in
    let w = world_of c.args.world.now in
    let breaks = c.args.breaks.now in
    let n = c.loop-one.one-index in
    let inv = c.loop-one.invariant in
    let few = c.clear_of-clear.ensures.few in
    let most = inv.few in
    let clear = IsClear code w c.clear_of-clear.result in
    let here : (b : Break) → slice_get breaks n ≡ Some b → clear b = λ b is. subst clear (get_or_from_slice_get breaks n b _ is) c.clear_of-clear.ensures.clear in
    record {
      few = omega (arith, few, most);
      clear = λ j b l is.
          elim (cases_lt j n) [
            | inl m ↦ fewer_clear code w c.loop-one.clear c.clear_of-clear.result b few (inv.clear j b m is)
            | inr m ↦ here b (subst (λ i. slice_get breaks i ≡ Some b) (let e : j ≡ n = omega (arith, l, m) in e) is)
          ];
    }

pub returns-clause-clear : goal.returns-clause-clear
returns-clause-clear g c = λ j b is.
    c.loop-one.invariant.clear j b (let l = slice_get_within c.args.breaks.now j b is in let e = c.loop-one.auto.one-index-end in let t = c.loop-one-test.false in omega (arith, l, e, t)) is
