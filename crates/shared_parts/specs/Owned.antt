-- What the tokens own: a share of the right to say what a list or a number is now, or the knowledge that a list was
-- reached.
use Rattle.std.specs.Prelude.{ℕ, List, map}
use base.Fraction.{full_share, left}
use base.Stored.{Gv, Coded}
use base.Growing.{Order, prefixes, numbers, latest, at_least}
use base.Fml.{Lft, Share, Fml, fshr_bor}

abbrev pub itself : Coded Gv
itself = record { code = λ g. g; inj = λ x y p. p }

-- lists of ghost values, each before those that it begins. They name no type parameter
abbrev pub lists : Order (List Gv)
lists = prefixes itself

module _ {C : Type 0} (c : C → Gv) (name : ℕ) (items : List C) where
  -- a share of the right to say that the list is `items`
  unfoldable pub share_of_list : Share → Fml
  share_of_list q = latest lists q name (map c items)

  -- all of that right
  abbrev pub whole_owns : Fml
  whole_owns = share_of_list full_share

  -- a share of it to each who asks, for the lifetime
  abbrev pub whole_shares : Lft → Fml
  whole_shares κ = fshr_bor κ share_of_list

  -- the list has begun with `items`
  unfoldable pub past_owns : Fml
  past_owns = at_least lists name (map c items)

module _ (name number : ℕ) where
  -- a share of the right to say that the number is `number`
  unfoldable pub share_of_number : Share → Fml
  share_of_number q = latest numbers q name number

  -- one half of it. The other is the same fraction
  abbrev pub half_owns : Fml
  half_owns = share_of_number (left full_share)

  abbrev pub half_shares : Lft → Fml
  half_shares κ = fshr_bor κ share_of_number
