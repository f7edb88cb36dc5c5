-- Seven touches of object 3, by rising thread and place.
use Rattle.std.specs.Prelude.{ℕ, Bool, true, false, List, [], ◌∷◌}
use Rattle.replica.specs.declared.touch.ObjectTouch.{ObjectTouch}

abbrev touched : Bool → ℕ → ℕ → ℕ → ObjectTouch
touched is_write found thread place = record { object = 3; found = found; is_write = is_write; thread = thread; place = place }

abbrev pub example : List ObjectTouch
example =
    touched false 0 0 1 ∷ touched true 0 0 2 ∷ touched false 0 1 0 ∷ touched false 1 1 1 ∷ touched false 1 2 4 ∷ touched true 1 3 0 ∷ touched false 4 3 5 ∷ []
