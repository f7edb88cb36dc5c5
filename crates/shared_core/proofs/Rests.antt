-- Seats none of which rests; seats none of which can go on.
use Rattle.std.specs.Prelude.{replicate, slice_set}
use Rattle.std.specs.List.{list_any}
use Rattle.std.proofs.Common.{zero, suc, ◌≡◌, ℕ, ◌+◌, ◌&&◌, Bool, true, false, List, [], ◌∷◌, refl, sym, ◌∙◌}
use Rattle.shared_core.specs.declared.resting.SeatState.{SeatState}
use Rattle.shared_core.specs.declared.resting.SeatState.TheVariants.{Goes, RestsUntil, Left}
use Rattle.shared_core.specs.Resting.{awaiting, rests, is_still, none_goes}

-- none of them is woken
pub none_awaiting : (length number : ℕ) (ss : List SeatState) → list_any rests ss ≡ false → awaiting length number ss ≡ []
none_awaiting length number [] none = refl
none_awaiting length number (Goes ∷ ss) none = none_awaiting length (number + 1) ss none
none_awaiting length number (RestsUntil until ∷ ss) none = absurd (cc none)
none_awaiting length number (Left ∷ ss) none = none_awaiting length (number + 1) ss none

-- a seat that does not rest before others none of which does
none_more : (s : SeatState) (ss : List SeatState) → rests s ≡ false → list_any rests ss ≡ false → list_any rests (s ∷ ss) ≡ false
none_more Goes ss still none = none
none_more (RestsUntil until) ss still none = absurd (cc still)
none_more Left ss still none = none

first_still : (s : SeatState) (ss : List SeatState) → list_any rests (s ∷ ss) ≡ false → rests s ≡ false
first_still Goes ss none = refl
first_still (RestsUntil until) ss none = absurd (cc none)
first_still Left ss none = refl

others_still : (s : SeatState) (ss : List SeatState) → list_any rests (s ∷ ss) ≡ false → list_any rests ss ≡ false
others_still Goes ss none = none
others_still (RestsUntil until) ss none = absurd (cc none)
others_still Left ss none = none

-- nor where one of them does something else that is no rest
pub none_rests_set : (ss : List SeatState) (i : ℕ) (s : SeatState) → rests s ≡ false → list_any rests ss ≡ false → list_any rests (slice_set ss i s) ≡ false
none_rests_set [] i s still none = refl
none_rests_set (r ∷ ss) zero s still none = none_more s ss still (others_still r ss none)
none_rests_set (r ∷ ss) (suc i) s still none = none_more r (slice_set ss i s) (first_still r ss none) (none_rests_set ss i s still (others_still r ss none))

-- nor where each can go on
pub none_rests_new : (n : ℕ) → list_any rests (replicate n Goes) ≡ false
none_rests_new zero = refl
none_rests_new (suc n) = none_rests_new n

-- what may rest only where some may does not, where none may
pub still_where_quiet : (s : SeatState) (some : Bool) → (rests s ≡ true → some ≡ true) → some ≡ false → rests s ≡ false
still_where_quiet Goes some f quiet = refl
still_where_quiet Left some f quiet = refl
still_where_quiet (RestsUntil until) some f quiet = let both : false ≡ true = sym quiet ∙ f refl in absurd (cc both)

and_rest : (a b : Bool) → (a && b) ≡ true → b ≡ true
and_rest true b e = e
and_rest false b e = absurd (cc e)

and_both : (a b c : Bool) → (a && b) ≡ true → (b ≡ true → c ≡ true) → (a && c) ≡ true
and_both true b c e f = f e
and_both false b c e f = absurd (cc e)

-- where no seat can go on, none can once one of them has left
pub none_goes_left : (length : ℕ) (ss : List SeatState) (i : ℕ) → none_goes length ss ≡ true → none_goes length (slice_set ss i Left) ≡ true
none_goes_left length [] i none = refl
none_goes_left length (s ∷ ss) zero none = and_rest (is_still length s) (none_goes length ss) none
none_goes_left length (s ∷ ss) (suc i) none = and_both (is_still length s) (none_goes length ss) (none_goes length (slice_set ss i Left)) none (none_goes_left length ss i)
