-- One item more, the last one, and the first that is damaged.
use Rattle.std.proofs.Common.{◌≡◌, ℕ, suc, ◌+◌, ◌-◌, ◌<◌, ◌≤◌, List, [], ◌∷◌, cond, eqb, Option, Some, None, Ok, Err, sym, ap, ◌∙◌, arith}
use Rattle.binary_decoder.specs.Fault.{Reading, Malformed}
use Rattle.binary_decoder.specs.Moves.{Fails, IsRefusal}
use Rattle.binary_decoder.specs.declared.fault.DecodeFault.{DecodeFault}
use Rattle.binary_decoder.specs.declared.fault.DecodeFault.TheVariants.{Refused, TooLarge, NoMemory}
use Rattle.binary_decoder.specs.Names.{with_next, whole_items, part_at, content_of, or_behind, first_content, entry_at, named_or}
use Rattle.binary_decoder.specs.declared.name_parts.Wanted.{Wanted}

pub malformed : {X : Type 0} (e : DecodeFault) (r : Reading X) → IsRefusal e → Fails e r → r ≡ Err Malformed
malformed (Refused offset place cause) r refusal fails = fails
malformed (TooLarge limit count place) r refusal fails = absurd refusal
malformed NoMemory r refusal fails = absurd refusal

more_by : {X : Type 0} (item : List ℕ → Reading X) (n m : ℕ) (bytes : List ℕ) (r : Reading X) → n ≡ suc m → item bytes ≡ r → whole_items item n bytes ≡ with_next r (whole_items item m)
unfolding whole_items
more_by item n m bytes r left is = ap (λ (k : ℕ). whole_items item k bytes) left ∙ ap (λ (q : Reading _). with_next q (whole_items item m)) is

none_by : {X : Type 0} (item : List ℕ → Reading X) (n : ℕ) (bytes : List ℕ) → n ≡ 0 → whole_items item n bytes ≡ []
unfolding whole_items
none_by item n bytes left = ap (λ (k : ℕ). whole_items item k bytes) left

module _ {X : Type 0} (item : List ℕ → Reading X) (end counter : ℕ) (bytes : List ℕ) where
  -- an item is at the front
  pub more : (x : X) (rest : List ℕ) → counter < end → item bytes ≡ Ok (x, rest) → whole_items item (end - counter) bytes ≡ x ∷ whole_items item (end - (counter + 1)) rest
  more x rest below is = more_by item (end - counter) (end - (counter + 1)) bytes (Ok (x, rest)) (omega (arith, below)) is

  -- it is damaged
  pub damaged : (e : DecodeFault) → counter < end → IsRefusal e → Fails e (item bytes) → whole_items item (end - counter) bytes ≡ []
  damaged e below refusal fails = more_by item (end - counter) (end - (counter + 1)) bytes (Err Malformed) (omega (arith, below)) (malformed e (item bytes) refusal fails)

  -- no more are asked for
  pub no_more : end ≤ counter → whole_items item (end - counter) bytes ≡ []
  no_more past = none_by item (end - counter) bytes (omega (arith, past))

module _ (wanted : Wanted) (end counter : ℕ) (bytes : List ℕ) (total : Option (List ℕ)) (so_far : first_content wanted (whole_items part_at (end - counter) bytes) ≡ total) where
  pub nothing_behind : whole_items part_at (end - counter) bytes ≡ [] → None ≡ total
  nothing_behind none = sym (ap (first_content wanted) none) ∙ so_far

  first_by : (p : ℕ × List ℕ) (rest : List ℕ) → counter < end → part_at bytes ≡ Ok (p, rest) → or_behind (content_of wanted p) (first_content wanted (whole_items part_at (end - (counter + 1)) rest)) ≡ total
  first_by p rest below is = sym (ap (first_content wanted) (more part_at end counter bytes p rest below is)) ∙ so_far

  pub found : (p : ℕ × List ℕ) (rest content : List ℕ) → counter < end → part_at bytes ≡ Ok (p, rest) → Some content ≡ content_of wanted p → Some content ≡ total
  found p rest content below is here =
      ap (λ (o : Option (List ℕ)). or_behind o (first_content wanted (whole_items part_at (end - (counter + 1)) rest))) here ∙ first_by p rest below is

  pub passed : (p : ℕ × List ℕ) (rest : List ℕ) → counter < end → part_at bytes ≡ Ok (p, rest) → None ≡ content_of wanted p → first_content wanted (whole_items part_at (end - (counter + 1)) rest) ≡ total
  passed p rest below is other =
      ap (λ (o : Option (List ℕ)). or_behind o (first_content wanted (whole_items part_at (end - (counter + 1)) rest))) other ∙ first_by p rest below is

module _ (function end counter : ℕ) (bytes : List ℕ) (name total : Option (List ℕ)) (so_far : named_or name function (whole_items entry_at (end - counter) bytes) ≡ total) where
  pub all_named : whole_items entry_at (end - counter) bytes ≡ [] → name ≡ total
  all_named none = sym (ap (named_or name function) none) ∙ so_far

  pub named : (g : ℕ) (own rest : List ℕ) (next : Option (List ℕ)) → counter < end → entry_at bytes ≡ Ok ((g, own), rest) → next ≡ cond (eqb g function) (Some own) name
      → named_or next function (whole_items entry_at (end - (counter + 1)) rest) ≡ total
  named g own rest next below is put =
      ap (λ (o : Option (List ℕ)). named_or o function (whole_items entry_at (end - (counter + 1)) rest)) put
      ∙ sym (ap (named_or name function) (more entry_at end counter bytes (g, own) rest below is))
      ∙ so_far
