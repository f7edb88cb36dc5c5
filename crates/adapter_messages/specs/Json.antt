-- JSON by its fields.
use Rattle.std.specs.Prelude.{◌≡◌, ℕ, List, [], ◌∷◌, Option, Some, None, Bool, false, map}
use Rattle.std.proofs.Common.{refl, ap, ◌∙◌}
use Rattle.std.specs.Prelude.{◌||◌}
use Rattle.serde_json.specs.Data.{Data, null, number, string, unsigned, array, object, Members, no_members, put}
use Rattle.serde_json.specs.View.{items_of}
use Rattle.serde_json.specs.Written.{has_float, items_have_float}

abbrev pub fields_from : List (List ℕ × Data) → Members → Members
fields_from [] ms = ms
fields_from (f ∷ fs) ms = fields_from fs (put f.0 f.1 ms)

-- an object with these fields
abbrev pub fields : List (List ℕ × Data) → Data
fields fs = object (fields_from fs no_members)

abbrev pub natural : ℕ → Data
natural n = number (unsigned n)

abbrev pub text_or_null : Option (List ℕ) → Data
text_or_null None = null
text_or_null (Some text) = string text

-- a list of what each item is written as
abbrev pub list : {X : Type 0} → (X → Data) → List X → Data
list json xs = array (items_of (map json xs))

pub list_no_float : {X : Type 0} (json : X → Data) → ((x : X) → has_float (json x) ≡ false) → (xs : List X) → has_float (list json xs) ≡ false
list_no_float json no_float [] = refl
list_no_float json no_float (x ∷ xs) = ap (λ (b : Bool). b || items_have_float (items_of (map json xs))) (no_float x) ∙ list_no_float json no_float xs
