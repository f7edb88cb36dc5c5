-- A thread of the list, in the code and in the world.
use Rattle.std.proofs.Common.{zero, suc, [], ◌∷◌, slice_set, ◌≡◌, ℕ, ◌<◌, ◌≤◌, true, false, List, length, map, Some, None, get_or, slice_get, sym, ap, ◌∙◌, refl, subst, arith}
use Rattle.std.proofs.lemmas.List.{length-map, get_or-set_same}
use Rattle.std.proofs.Math.Dec.{ltb}
use Rattle.std.proofs.lemmas.Option.{slice_get-map, slice_get_past, slice_get_within, slice_get_read, get_or_from_slice_get}
use Rattle.std.proofs.lemmas.Bool.{lt-ltb, le-ltb, ltb-true, ltb-false}
use Rattle.rw_objects.specs.Space.{Space}
use Rattle.rw_objects.specs.Code.{Code}
use Rattle.event_core.specs.declared.thread.Thread.{Thread}
use Rattle.event_core.specs.declared.pick.Pick.{Pick}
use Rattle.event_core.specs.declared.step.StepFault.TheVariants as fault
use Rattle.event_core.specs.declared.step.PickStep.TheVariants as step
use Rattle.event_core.specs.Threads.{ThreadAt, thread_of, threads_of, change_at, ThreadIs, ThreadHasRoom}
use Rattle.event_core.specs.PickStep.{step_of_next}
use Rattle.event_core.specs.World.{WorldAt, step_of_pick, step_of_thread}

module _ {M State : Type 0} (state : M → State) where
  pub seen_at : (ts : List (Thread M)) (i : ℕ) (t : Thread M) → i < length ts → t ≡ get_or ts i t → slice_get (threads_of state ts) i ≡ Some (thread_of state t)
  seen_at ts i t h e =
      slice_get-map (thread_of state) ts i ∙ rw (slice_get_read ts (length ts) i t refl h e)

  pub seen_past : (ts : List (Thread M)) (i : ℕ) → length ts ≤ i → slice_get (threads_of state ts) i ≡ None
  seen_past ts i h = slice_get_past (threads_of state ts) i (rw length-map h)

  -- what `get` reads
  pub read_at : (ts read : List (Thread M)) (i : ℕ) (t : Thread M) → read ≡ ts → true ≡ ltb i (length read) → t ≡ get_or read i t → slice_get (threads_of state ts) i ≡ Some (thread_of state t)
  read_at ts read i t same h e = seen_at ts i t (ltb-true _ _ (rw same at (sym h))) (rw same at e)

  pub read_past : (ts read : List (Thread M)) (i : ℕ) → read ≡ ts → false ≡ ltb i (length read) → slice_get (threads_of state ts) i ≡ None
  read_past ts read i same h = seen_past ts i (ltb-false _ _ (rw same at (sym h)))

  -- what is asked of the thread at a place holds of the one that is read there
  pub is_at : (P : ThreadAt State → Type 0) (ts : List (Thread M)) (i : ℕ) (t : Thread M) → ThreadIs state ts i P → i < length ts → t ≡ get_or ts i t → P (thread_of state t)
  is_at P ts i t all h e = all (thread_of state t) (seen_at ts i t h e)

  pub seen_within : (ts us : List (Thread M)) (i : ℕ) (t : ThreadAt State) → slice_get (threads_of state ts) i ≡ Some t → threads_of state us ≡ threads_of state ts → i < length us
  seen_within ts us i t e same =
      let h : i < length (threads_of state us) = rw same (slice_get_within (threads_of state ts) i t e) in
      rw length-map at h

module _ {M : Type 0} (has_room : M → Type 0) where
  pub room_at : (ts : List (Thread M)) (i : ℕ) (t : Thread M) → ThreadHasRoom has_room ts i → i < length ts → t ≡ get_or ts i t → has_room t.machine
  room_at ts i t all h e = all t (slice_get_read ts (length ts) i t refl h e)

  pub room_set : (ts : List (Thread M)) (i : ℕ) (t : Thread M) → i < length ts → has_room t.machine → ThreadHasRoom has_room (slice_set ts i t) i
  room_set ts i t h room u is =
      let e : t ≡ u = sym (get_or-set_same ts i t u h) ∙ get_or_from_slice_get (slice_set ts i t) i u u is in
      subst (λ (v : Thread M). has_room v.machine) e room

-- one element written
pub set_is : {A : Type 0} (f : A → A) (xs : List A) (i : ℕ) (x y : A) → i < length xs → x ≡ get_or xs i x → y ≡ f x → slice_set xs i y ≡ change_at xs i f
set_is f [] i x y h e is = absurd (omega arith)
set_is f (x0 ∷ xs) zero x y h e is = ap (λ z. z ∷ xs) (is ∙ ap f e)
set_is f (x0 ∷ xs) (suc i) x y h e is = ap (λ zs. x0 ∷ zs) (set_is f xs i x y (omega arith) e is)

-- a map over a list with one element written
pub map_set : {A B : Type 0} (v : A → B) (f : B → B) (xs : List A) (i : ℕ) (x y : A) → i < length xs → x ≡ get_or xs i x → v y ≡ f (v x) → map v (slice_set xs i y) ≡ change_at (map v xs) i f
map_set v f [] i x y h e is = absurd (omega arith)
map_set v f (x0 ∷ xs) zero x y h e is = ap (λ z. z ∷ map v xs) (is ∙ ap (λ z. f (v z)) e)
map_set v f (x0 ∷ xs) (suc i) x y h e is = ap (λ zs. v x0 ∷ zs) (map_set v f xs i x y (omega arith) e is)

-- nothing that is seen was changed
pub map_set_same : {A B : Type 0} (v : A → B) (xs : List A) (i : ℕ) (x y : A) → i < length xs → x ≡ get_or xs i x → v y ≡ v x → map v (slice_set xs i y) ≡ map v xs
map_set_same v [] i x y h e is = absurd (omega arith)
map_set_same v (x0 ∷ xs) zero x y h e is = ap (λ z. z ∷ map v xs) (is ∙ ap v e)
map_set_same v (x0 ∷ xs) (suc i) x y h e is = ap (λ zs. v x0 ∷ zs) (map_set_same v xs i x y (omega arith) e is)

module _ {State Op Reply Value Fixed : Type 0} (space : Space Op Reply Value Fixed) (code : Code State Op Reply Fixed) where
  pub step_none : (w : WorldAt State Value Fixed) (pick : Pick) → slice_get w.threads pick.thread ≡ None → step_of_pick space code w pick ≡ step.Refused fault.Halted
  step_none w pick e = ap (λ o. step_of_thread space code w.memory o pick.input) e

  pub step_some : (w : WorldAt State Value Fixed) (pick : Pick) (t : ThreadAt State) → slice_get w.threads pick.thread ≡ Some t → code.steps t.state < 1000000000 → step_of_pick space code w pick ≡ step_of_next space w.memory (code.next t.state) pick.input
  step_some w pick t e h = ap (λ o. step_of_thread space code w.memory o pick.input) e ∙ rw (lt-ltb _ _ h)

  pub step_worn : (w : WorldAt State Value Fixed) (pick : Pick) (t : ThreadAt State) → slice_get w.threads pick.thread ≡ Some t → 1000000000 ≤ code.steps t.state → step_of_pick space code w pick ≡ step.Refused fault.Halted
  step_worn w pick t e h = ap (λ o. step_of_thread space code w.memory o pick.input) e ∙ rw (le-ltb _ _ h)
