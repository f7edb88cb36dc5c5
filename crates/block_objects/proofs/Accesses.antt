-- An access of the bytes of a memory is one of the objects that it touches.
use Rattle.std.proofs.Common.{◌≡◌, ℕ, ◌+◌, ◌-◌, ◌*◌, ◌%◌, ◌^◌, ◌<◌, ◌≤◌, ◌≢◌, inl, inr, Bool, true, false, cond, ◌==◌, List, length, take, drop, Option, Some, None, refl, sym, ap, ◌∙◌, arith}
use Rattle.std.specs.Int.{Width, byte_len, to_le_bytes}
use Rattle.std.proofs.Math.Nat.{mul-le-mul_right}
use Rattle.std.proofs.lemmas.List.{take-take, drop-take, drop-drop}
use Rattle.std.proofs.lemmas.Bool.{cases_eq, cases_lt}
use Rattle.rw_objects.specs.declared.touch.Mode.{Mode}
use Rattle.rw_objects.specs.declared.touch.Mode.TheVariants.{Write}
use Rattle.rw_objects.specs.Space.{mode_at, is_written, touched_values}
use Rattle.wasm_types.specs.declared.operation.Reply.{Reply}
use Rattle.block_objects.specs.Objects.{ObjectAt, Bytes, QueueAt, block_of, block_object, queue_object, blocks_in, block_bytes, object_value}
use Rattle.block_objects.specs.Access.{number_at, with_number_if, is_within}
use Rattle.block_objects.specs.Effects.{pages_seen, bytes_seen, access_reply, access_bytes, block_values, out_of_bounds}
use Rattle.block_objects.proofs.Values.{value_block, value_queue, kinds_of, differ_no, equal_yes, no_differ}
use Rattle.block_objects.proofs.Windows.{window_before, window_behind}
use Rattle.block_objects.proofs.Geometry.{span, place_is, next_block, ends_in, within_capacity, joined_is, end_is, end_low}
use Rattle.block_objects.proofs.NumbersIn.{some_bytes, to_le_bytes_len, number_in, access_in}
use Rattle.block_objects.proofs.Modes.{ranged, first_written, last_written, others_stay}
use Rattle.block_objects.proofs.Seen.{pages_found, bytes_found, bounds_agree}

module _ (ini p c pages : ℕ) (bytes : List ℕ) (queues : ℕ → QueueAt) (low : 6 ≤ p) (from : ini ≤ pages) (all : length bytes ≡ c * 65536)
    (address : ℕ) (w : Width) (small : byte_len w ≤ 8) (fits : block_of p (address + byte_len w - 1) < blocks_in p c) where
  abbrev first : ℕ
  first = block_of p address

  abbrev last : ℕ
  last = block_of p (address + byte_len w - 1)

  abbrev same : Bool
  same = first == last

  abbrev within : Bool
  within = is_within pages address (byte_len w)

  abbrev at : ℕ
  at = address % 2 ^ p

  abbrev V : ℕ → ObjectAt
  V = object_value p pages bytes queues

  abbrev seen : Mode → List ObjectAt
  seen mode = touched_values (ranged (is_within ini address (byte_len w)) same mode first last) V

  pub within_found : (mode : Mode) → is_within (pages_seen ini (seen mode)) address (byte_len w) ≡ within
  within_found mode =
      ap (λ n. is_within n address (byte_len w)) (pages_found p pages bytes queues ini (is_within ini address (byte_len w)) same mode first last) ∙
      bounds_agree ini pages address (byte_len w) (is_within ini address (byte_len w)) from refl

  part_found : (mode : Mode) → bytes_seen (seen mode) ≡ take (span p same) (drop (first * 2 ^ p) bytes)
  part_found mode =
      bytes_found p pages bytes queues (is_within ini address (byte_len w)) same mode first last ∙
      joined_is p address (byte_len w) low (some_bytes w) small bytes same refl

  at_fits : at + byte_len w ≤ span p same
  at_fits = ends_in p address (byte_len w) low (some_bytes w) small same refl

  part_fits : first * 2 ^ p + span p same ≤ length bytes
  part_fits = let h = within_capacity p address (byte_len w) low (some_bytes w) small c same refl fits in omega (arith, h, all)

  place : first * 2 ^ p + at ≡ address
  place = place_is p address (byte_len w) low (some_bytes w) small

  number_found : (mode : Mode) → number_at w at (bytes_seen (seen mode)) ≡ number_at w address bytes
  number_found mode =
      ap (number_at w at) (part_found mode) ∙
      (number_in w (first * 2 ^ p) (span p same) at bytes at_fits ∙ ap (λ a. number_at w a bytes) place)

  -- the answer
  pub answer_found : (mode : Mode) (reply : ℕ → Reply) → access_reply (is_within (pages_seen ini (seen mode)) address (byte_len w)) w at reply (bytes_seen (seen mode)) ≡ access_reply within w address reply bytes
  answer_found mode reply =
      ap (λ b. cond b (reply (number_at w at (bytes_seen (seen mode)))) out_of_bounds) (within_found mode) ∙
      ap (λ n. cond within (reply n) out_of_bounds) (number_found mode)

  module _ (stored : ℕ → Option ℕ) where
    abbrev left : List ℕ
    left = access_bytes within w address stored bytes

    abbrev part_left : List ℕ
    part_left = take (span p same) (drop (first * 2 ^ p) left)

    part_after : (mode : Mode) → access_bytes (is_within (pages_seen ini (seen mode)) address (byte_len w)) w at stored (bytes_seen (seen mode)) ≡ part_left
    part_after mode =
        ap (λ b. access_bytes b w at stored (bytes_seen (seen mode))) (within_found mode) ∙
        (ap (access_bytes within w at stored) (part_found mode) ∙
        (access_in within w (first * 2 ^ p) (span p same) at bytes stored at_fits part_fits ∙
        ap (λ a. take (span p same) (drop (first * 2 ^ p) (access_bytes within w a stored bytes))) place))

    first_after : (b : Bool) → take (2 ^ p) (take (span p b) (drop (first * 2 ^ p) left)) ≡ block_bytes p left first
    first_after true = take-take (2 ^ p) (2 ^ p) (drop (first * 2 ^ p) left) (omega arith)
    first_after false = take-take (2 ^ p) (2 ^ p + 2 ^ p) (drop (first * 2 ^ p) left) (omega arith)

    last_after : first ≢ last → drop (2 ^ p) (take (span p false) (drop (first * 2 ^ p) left)) ≡ block_bytes p left last
    last_after ne =
        let next = next_block p address (byte_len w) low (some_bytes w) small ne in
        let start : last * 2 ^ p ≡ first * 2 ^ p + 2 ^ p = ap (λ b. b * 2 ^ p) next ∙ omega arith in
        drop-take (2 ^ p) (2 ^ p) (drop (first * 2 ^ p) left) ∙
        (ap (take (2 ^ p)) (drop-drop (2 ^ p) (first * 2 ^ p) left) ∙ ap (λ k. take (2 ^ p) (drop k left)) (sym start))

    -- blocks that the access does not touch
    ends_by : address + byte_len w ≤ (last + 1) * 2 ^ p
    ends_by =
        let product : (last + 1) * 2 ^ p ≡ last * 2 ^ p + 2 ^ p = omega arith in
        omega (arith, product, some_bytes w, end_is p address (byte_len w) low (some_bytes w) small, end_low p address (byte_len w) low (some_bytes w) small)

    in_bytes : address + byte_len w ≤ length bytes
    in_bytes = omega (arith, part_fits, at_fits, place)

    before : (b number : ℕ) → b < first → block_bytes p (with_number_if w address (Some number) bytes) b ≡ block_bytes p bytes b
    before b number h =
        let up : (b + 1) * 2 ^ p ≤ first * 2 ^ p = mul-le-mul_right (2 ^ p) (omega arith) in
        let product : (b + 1) * 2 ^ p ≡ b * 2 ^ p + 2 ^ p = omega arith in
        window_before (b * 2 ^ p) (2 ^ p) address (to_le_bytes w number) bytes (omega (arith, up, product, place)) (omega (arith, to_le_bytes_len w number, in_bytes))

    behind : (b number : ℕ) → last < b → block_bytes p (with_number_if w address (Some number) bytes) b ≡ block_bytes p bytes b
    behind b number h =
        let up : (last + 1) * 2 ^ p ≤ b * 2 ^ p = mul-le-mul_right (2 ^ p) (omega arith) in
        window_behind (b * 2 ^ p) (2 ^ p) address (to_le_bytes w number) bytes (omega (arith, to_le_bytes_len w number, up, ends_by)) (omega (arith, to_le_bytes_len w number, in_bytes))

    not_between : (b : ℕ) → first ≤ b → b ≤ last → b ≢ first → b ≢ last → ⊥
    not_between b over under ne nl =
        let apart : first ≢ last = λ e. nl (omega (arith, e)) in
        let next = next_block p address (byte_len w) low (some_bytes w) small apart in
        absurd (omega (arith, next))

    other_number : (b number : ℕ) → b ≢ first → b ≢ last → block_bytes p (with_number_if w address (Some number) bytes) b ≡ block_bytes p bytes b
    other_number b number ne nl = elim (cases_lt b first) [ inl h ↦ before b number h | inr le ↦ elim (cases_lt last b) [ inl h ↦ behind b number h | inr high ↦ absurd (not_between b le high ne nl) ] ]

    other_stored : (b : ℕ) (new : Option ℕ) → b ≢ first → b ≢ last → block_bytes p (with_number_if w address new bytes) b ≡ block_bytes p bytes b
    other_stored b None ne nl = refl
    other_stored b (Some number) ne nl = other_number b number ne nl

    other_bytes : (b : ℕ) (inside : Bool) → b ≢ first → b ≢ last → block_bytes p (access_bytes inside w address stored bytes) b ≡ block_bytes p bytes b
    other_bytes b true ne nl = other_stored b (stored (number_at w address bytes)) ne nl
    other_bytes b false ne nl = refl

    other_stays : (o : ℕ) → o ≢ block_object first → o ≢ block_object last → V o ≡ object_value p pages left queues o
    other_stays o ne nl = elim (kinds_of o) [ inl zero ↦ rw zero refl | inr (inl (b, is)) ↦ block b is | inr (inr (b, is)) ↦ queue b is ] where
      block : (b : ℕ) → o ≡ block_object b → V o ≡ object_value p pages left queues o
      block b is =
          let not_first : b ≢ first = λ e. ne (is ∙ ap block_object e) in
          let not_last : b ≢ last = λ e. nl (is ∙ ap block_object e) in
          ap V is ∙ (value_block p pages bytes queues b ∙ (ap Bytes (sym (other_bytes b within not_first not_last)) ∙ (sym (value_block p pages left queues b) ∙ ap (object_value p pages left queues) (sym is))))

      queue : (b : ℕ) → o ≡ queue_object b → V o ≡ object_value p pages left queues o
      queue b is = ap V is ∙ (value_queue p pages bytes queues b ∙ (sym (value_queue p pages left queues b) ∙ ap (object_value p pages left queues) (sym is)))

    abbrev Then : ℕ → List ℕ → Type 0
    Then o part = cond (is_written (mode_at (ranged (is_within ini address (byte_len w)) same Write first last) o)) (block_values p first part o) (V o) ≡ object_value p pages left queues o

    not_zero : (b o : ℕ) → o ≡ block_object b → (0 == o) ≡ false
    not_zero b o is = differ_no 0 o (λ e. absurd (omega (arith, is, e)))

    at_first : (o : ℕ) → o ≡ block_object first → Then o part_left
    at_first o is =
        let yes_first : (block_object first == o) ≡ true = equal_yes (block_object first) o (sym is) in
        let yes_o : (o == block_object first) ≡ true = equal_yes o (block_object first) is in
        rw (first_written (is_within ini address (byte_len w)) same first last o (not_zero first o is) yes_first, yes_o)
        (ap Bytes (first_after same) ∙ (sym (value_block p pages left queues first) ∙ ap (object_value p pages left queues) (sym is)))

    at_last : (o : ℕ) (b : Bool) → (first == last) ≡ b → o ≢ block_object first → o ≡ block_object last →
        cond (is_written (mode_at (ranged (is_within ini address (byte_len w)) b Write first last) o)) (block_values p first (take (span p b) (drop (first * 2 ^ p) left)) o) (V o) ≡ object_value p pages left queues o
    at_last o true same_is ne is = absurd (ne (is ∙ ap block_object (sym (first_is same_is)))) where
      first_is : (first == last) ≡ true → first ≡ last
      first_is e = elim (cases_eq first last) [ inl h ↦ h | inr h ↦ absurd (let no_h = differ_no first last h in let bad : true ≡ false = sym e ∙ no_h in cc) ]
    at_last o false same_is ne is =
        let no_first : (block_object first == o) ≡ false = differ_no (block_object first) o (λ e. ne (sym e)) in
        let no_o : (o == block_object first) ≡ false = differ_no o (block_object first) ne in
        let yes_last : (block_object last == o) ≡ true = equal_yes (block_object last) o (sym is) in
        rw (last_written (is_within ini address (byte_len w)) first last o (not_zero last o is) no_first yes_last, no_o)
        (ap Bytes (last_after (no_differ first last same_is)) ∙ (sym (value_block p pages left queues last) ∙ ap (object_value p pages left queues) (sym is)))

    at_others : (o : ℕ) → o ≢ block_object first → o ≢ block_object last → Then o part_left
    at_others o ne nl =
        let no_first : (block_object first == o) ≡ false = differ_no (block_object first) o (λ e. ne (sym e)) in
        let no_last : (block_object last == o) ≡ false = differ_no (block_object last) o (λ e. nl (sym e)) in
        rw (others_stay (is_within ini address (byte_len w)) same first last o no_first no_last) (other_stays o ne nl)

    each : (o : ℕ) → Then o part_left
    each o = elim (cases_eq o (block_object first)) [ inl is ↦ at_first o is | inr ne ↦ elim (cases_eq o (block_object last)) [ inl is ↦ at_last o same refl ne is | inr nl ↦ at_others o ne nl ] ]

    -- what a store leaves of each object
    pub object_after : (o : ℕ) → Then o (access_bytes (is_within (pages_seen ini (seen Write)) address (byte_len w)) w at stored (bytes_seen (seen Write)))
    object_after o = rw (part_after Write) (each o)
