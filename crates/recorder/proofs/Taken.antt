-- The picks that can be drawn, thread by thread.
use Rattle.std.proofs.Common.{◌≡◌, ℕ, ◌+◌, Bool, true, false, cond, List, [], ◌∷◌, ◌++◌, sym, ap, ◌∙◌, arith, append_assoc}
use Rattle.std.specs.List.{filter}
use Rattle.std.proofs.lemmas.List.{append-nil}
use Rattle.std.proofs.lemmas.List.FromFn.{filter_of_map_range_with_len_more}
use Rattle.event_core.specs.declared.pick.Pick.{Pick}
use Rattle.event_core.specs.declared.pick.Input.{Input}
use Rattle.replay_laws.specs.Turns.{pick_of}
use Rattle.recorder.specs.Draw.{picks_by}

one_more : (p : Pick → Bool) (input : Input) (t : ℕ) → filter p (picks_by input (t + 1)) ≡ filter p (picks_by input t) ++ cond (p (pick_of t input)) (pick_of t input ∷ []) []
one_more p input t = filter_of_map_range_with_len_more p (λ x. pick_of x input) 0 t t (omega arith)

-- behind a thread whose pick is taken
pub picks_more : (p : Pick → Bool) (input : Input) (t : ℕ) (before picks : List Pick) → picks ≡ before ++ filter p (picks_by input t) → p (pick_of t input) ≡ true → picks ++ pick_of t input ∷ [] ≡ before ++ filter p (picks_by input (t + 1))
picks_more p input t before picks are h =
    ap (λ l. l ++ pick_of t input ∷ []) are ∙ append_assoc before (filter p (picks_by input t)) (pick_of t input ∷ [])
    ∙ ap (λ l. before ++ l) (sym (one_more p input t ∙ ap (λ b. filter p (picks_by input t) ++ cond b (pick_of t input ∷ []) []) h))

-- behind one whose pick is not
pub picks_same : (p : Pick → Bool) (input : Input) (t : ℕ) (before picks : List Pick) → picks ≡ before ++ filter p (picks_by input t) → p (pick_of t input) ≡ false → picks ≡ before ++ filter p (picks_by input (t + 1))
picks_same p input t before picks are h =
    are ∙ ap (λ l. before ++ l) (sym (one_more p input t ∙ ap (λ b. filter p (picks_by input t) ++ cond b (pick_of t input ∷ []) []) h ∙ append-nil (filter p (picks_by input t))))
