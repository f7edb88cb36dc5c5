use Rattle.std.proofs.Common.{◌≡◌, ◌<◌, length, Some, slice_get, sym, ap, ◌∙◌, subst, arith, inl, inr}
use Rattle.std.proofs.lemmas.Bool.{cases_eq}
use Rattle.std.proofs.lemmas.Option.{slice_get-get_or, same_Some}
use Rattle.replay_gate.specs.declared.known.Known.TheVariants as known
use Rattle.replay_gate.proofs.known.lone.Goals.{in-Rests, in-Nothing+in-None}
use Rattle.replay_gate.proofs.known.lone.Goals as goal

pub loop-thread-preserved : goal.loop-thread-preserved
loop-thread-preserved c =
    let inv = c.loop-thread.invariant in
    let all = c.args.all.now in
    let t = c.loop-thread.thread in
    let within : t < length all = let e = c.told-all in let l = c.loop-thread-test.true in let f = c.requires in omega (arith, e, l, f) in
    elim c.match-all-thread.branch [
      | in-Rests w ↦ record {
        rest = λ i l d. elim (cases_eq i t) [
          | inl e ↦ (w.in-Rests.field-0, ap (slice_get all) e ∙ slice_get-get_or all t known.Nothing within ∙ ap Some w.in-Rests.is)
          | inr n ↦ inv.rest i (omega (arith, l, n)) (λ q. d (w.lone-is ∙ q))
        ];
        nothing = λ i h. inv.nothing i (sym w.lone-is ∙ h);
      }
      | in-Nothing+in-None w ↦ record {
        rest = λ i l d. elim (cases_eq i t) [
          | inl e ↦ absurd (d (w.lone-is ∙ ap Some (sym e)))
          | inr n ↦ inv.rest i (omega (arith, l, n)) (λ q. let none = w.in-None.is in cc)
        ];
        nothing = λ i h.
            let same : t ≡ i = same_Some t i (sym w.lone-is ∙ h) in
            subst (λ j. slice_get all j ≡ Some known.Nothing) same (slice_get-get_or all t known.Nothing within ∙ ap Some w.in-Nothing.is);
      }
    ]
