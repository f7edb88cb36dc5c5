use Rattle.std.proofs.Common.{◌≡◌, Some, slice_get, sym, ap, ◌∙◌, subst, arith, inl, inr}
use Rattle.std.proofs.lemmas.Bool.{cases_lt}
use Rattle.std.proofs.lemmas.Option.{get_or_from_slice_get, slice_get_within}
use Rattle.replay_gate.specs.declared.breaks.Break.{Break}
use Rattle.event_core.specs.Threads.{ThreadAt}
use Rattle.event_core.specs.World.{world_of}
use Rattle.replay_gate.specs.Free.{IsFreeOf}
use Rattle.replay_gate.proofs.FreeSteps.{fewer_free_of, made_by}
use Rattle.replay_gate.proofs.free.free_steps.Goals as goal

pub loop-one-preserved : goal.loop-one-preserved
loop-one-preserved g c =
    let breaks = c.args.breaks.now in
    let n = c.loop-one.one-index in
    let inv = c.loop-one.invariant in
    let t = c.args.thread in
    let made = c.in-Some.made in
    let free = c.free_of-free.result in
    let few = c.free_of-free.ensures.few in
    let most = inv.few in
    let here : (b : Break) → slice_get breaks n ≡ Some b → IsFreeOf t made free b = λ b is. subst (IsFreeOf t made free) (get_or_from_slice_get breaks n b _ is) c.free_of-free.ensures.free in
    record {
      few = omega (arith, few, most);
      clear = λ j b l is.
          elim (cases_lt j n) [
            | inl m ↦ fewer_free_of t made c.loop-one.free free b few (inv.clear j b m is)
            | inr m ↦ here b (subst (λ i. slice_get breaks i ≡ Some b) (let e : j ≡ n = omega (arith, l, m) in e) is)
          ];
    }

pub returns : goal.returns
returns g c = record {
  within = c.loop-one.invariant.few;
  clear = λ thread is j b at.
      let made = made_by g.M.Machine.code (world_of c.args.replay.now.world) c.args.thread c.in-Some.made thread (c.in-Some.ensures ∙ ap (λ w. Rattle.std.specs.Prelude.option_map (λ (x : ThreadAt _). g.M.Machine.code.steps x.state) (slice_get (world_of w).threads c.args.thread)) c.world.ensures.same) is in
      subst (λ k. IsFreeOf c.args.thread k c.loop-one.free b) (sym made)
      (c.loop-one.invariant.clear j b (let l = slice_get_within c.args.breaks.now j b at in let e = c.loop-one.auto.one-index-end in let x = c.loop-one-test.false in omega (arith, l, e, x)) at);
}
