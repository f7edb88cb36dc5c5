-- Each part of a recorded thread keeps the rules of a piece.
use Rattle.std.proofs.Common.{◌≡◌, ℕ, ◌+◌, ◌-◌, ◌*◌, ◌<◌, ◌≤◌, ◌==◌, Bool, true, false, cond, List, [], ◌∷◌, length, take, drop, min, Option, Some, None, Result, Ok, Err, refl, ap, ◌∙◌, arith, inl, inr, eq-eqb, length-drop}
use Rattle.std.proofs.Math.Nat.{div-le_self}
use Rattle.std.proofs.lemmas.List.{length-take}
use Rattle.std.specs.Prelude.{MatchOption}
use Rattle.std.proofs.lemmas.Option.{MatchOption-at_none}
use Rattle.std.proofs.lemmas.Bool.{le-ltb, cases_lt}
use Rattle.wasm_types.specs.declared.key.RunKey.{RunKey}
use Rattle.rw_objects.specs.declared.entry.Entry.{Entry}
use Rattle.log_pieces.specs.declared.end.End.{End}
use Rattle.log_pieces.specs.declared.fault.PieceFault.{PieceFault}
use Rattle.log_pieces.specs.Piece.{PieceValue, piece_fault, IsPiece, is_empty, passes_end, is_entry, greatest_object}
use Rattle.log_pieces.specs.Rules.{is_piece}
use Rattle.recorder.specs.ThreadLogAt.{ThreadLogAt}
use Rattle.run_pieces.specs.Cut.{end_at, piece_count, piece_at}
use Rattle.run_pieces.specs.Keeps.{KeepsThread}
use Rattle.run_pieces.proofs.Parts.{all_take, all_drop}
use Rattle.run_pieces.proofs.Counting.{begins}

has_end : (entries : List Entry) (b : Bool) (end : End) → b ≡ true → is_empty entries (cond b (Some end) None) ≡ false
has_end [] true end e = refl
has_end (x ∷ xs) true end e = refl
has_end entries false end e = absurd cc

has_entries : (entries : List Entry) (o : Option End) → 0 < length entries → is_empty entries o ≡ false
has_entries [] o l = absurd (omega (arith, l))
has_entries (x ∷ xs) o l = refl

keeps_end : (places : ℕ) (b : Bool) (end : End) → places ≤ end.places → end.places ≤ end.steps → end.steps ≤ 1000000000 → passes_end places (cond b (Some end) None) ≡ false
keeps_end places true end a b c = rw (le-ltb _ _ a, le-ltb _ _ b, le-ltb _ _ c) refl
keeps_end places false end a b c = le-ltb _ _ (let most : places ≤ 1000000000 = omega (arith, a, b, c) in most)

module _ (key : RunKey) (thread : ℕ) (log : ThreadLogAt) (size index : ℕ) where
  part : List Entry
  part = take size (drop (index * size) log.entries)

  part_length : length part ≡ min size (length log.entries - index * size)
  unfolding part
  part_length = length-take size (drop (index * size) log.entries) ∙ ap (min size) (length-drop (index * size) log.entries)

  -- a part of no entry is the last
  is_something : 0 < size → index < piece_count size (length log.entries) → is_empty part (end_at log size index) ≡ false
  is_something some l =
      let low = begins size (length log.entries) index l in
      elim (cases_lt 0 (length log.entries)) [
        | inl h ↦ has_entries part _ (omega (arith, part_length, low, h, some))
        | inr h ↦ has_end part (index + 1 == piece_count size (length log.entries)) log.end (eq-eqb _ _ (omega (arith, l, h, div-le_self (length log.entries - 1) size)))
      ]

  pub part_is_piece : thread ≤ 15 → KeepsThread key.profile log → 0 < size → size ≤ 4096 → index < piece_count size (length log.entries) → IsPiece (piece_at key thread log size index)
  unfolding part
  part_is_piece small keeps some few l =
      let low = begins size (length log.entries) index l in
      let inside : index * size + length part ≤ log.end.places = omega (arith, part_length, low, keeps.places) in
      is_piece (piece_at key thread log size index)
      (record {
        something = is_something some l;
        count = let h : length part ≤ 4096 = omega (arith, part_length, few) in h;
        inside = keeps_end (index * size + length part) (index + 1 == piece_count size (length log.entries)) log.end inside keeps.steps keeps.limit;
        thread = small;
        entries = all_take (is_entry (greatest_object key.profile)) (drop (index * size) log.entries) size (all_drop (is_entry (greatest_object key.profile)) log.entries (index * size) keeps.entries);
      })

  -- what is given to make a piece of the part
  abbrev pub given : List Entry → Option End → PieceValue
  given entries end = record { key = key; thread = thread; first = index * size; entries = entries; end = end }

  -- the part is made a piece
  pub made : (entries : List Entry) (end : Option End) (answer : Result PieceValue PieceFault) → entries ≡ take size (drop (index * size) log.entries) → end ≡ end_at log size index
      → IsPiece (piece_at key thread log size index) → MatchOption (piece_fault (given entries end)) (answer ≡ Ok (given entries end)) (λ fault. answer ≡ Err fault) → answer ≡ Ok (piece_at key thread log size index)
  made entries end answer part_is end_is keeps is =
      let same : given entries end ≡ piece_at key thread log size index = ap (λ es. given es end) part_is ∙ ap (given (take size (drop (index * size) log.entries))) end_is in
      MatchOption-at_none (answer ≡ Ok (given entries end)) (λ fault. answer ≡ Err fault) (ap piece_fault same ∙ keeps) is ∙ ap Ok same
