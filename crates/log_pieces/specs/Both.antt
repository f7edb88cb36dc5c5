-- The join of two values side by side.
use Rattle.std.specs.Prelude.{◌≡◌, ◌⊎◌}
use Rattle.log_pieces.specs.declared.both.Both.{Both}

-- the same part by part
abbrev pub both_same : {A B : Type 0} → (A → A → Type 0) → (B → B → Type 0) → Both A B → Both A B → Type 0
both_same same_first same_second a b = same_first a.first b.first × same_second a.second b.second

-- joined part by part
abbrev pub both_joined : {A B : Type 0} → (A → A → A) → (B → B → B) → Both A B → Both A B → Both A B
both_joined join_first join_second a b = record { first = join_first a.first b.first; second = join_second a.second b.second }

-- the first part is joined in part and the second is untouched, or the first is joined and the second in part
abbrev pub both_partly : {A B : Type 0} → (A → A → Type 0) → (A → A → A) → (A → A → A → Type 0) → (B → B → B → Type 0)
    → Both A B → Both A B → Both A B → Type 0
both_partly same join partly_first partly_second a b c =
    (partly_first a.first b.first c.first × (c.second ≡ a.second))
    ⊎ (same c.first (join a.first b.first) × partly_second a.second b.second c.second)
