-- What a recorded run is cut into.
use Rattle.std.proofs.Common.{◌≡◌, ℕ, zero, suc, ◌+◌, ◌-◌, ◌*◌, ◌/◌, ◌<◌, ◌⊎◌, ◌==◌, cond, List, [], ◌∷◌, ◌++◌, length, map, drop, Option, Some, None, slice_get, refl, sym, ap, ◌∙◌, subst, arith, inl, inr, eq-eqb}
use Rattle.std.specs.List.{range_with_len}
use Rattle.std.specs.Prelude.{option_map, option_and_then}
use Rattle.std.proofs.lemmas.Option.{cond_some, slice_get_within}
use Rattle.wasm_types.specs.declared.key.RunKey.{RunKey}
use Rattle.rw_objects.specs.declared.entry.Entry.{Entry}
use Rattle.log_pieces.specs.declared.flat.Flat.TheVariants.{Known}
use Rattle.log_pieces.specs.declared.end.End.{End}
use Rattle.log_pieces.specs.Piece.{PieceValue}
use Rattle.replica.specs.LogOf.{ClaimsEntry, ClaimsEnd, Among}
use Rattle.replay_laws.specs.Log.{known}
use Rattle.recorder.specs.ThreadLogAt.{ThreadLogAt, log_of}
use Rattle.run_pieces.specs.PieceOf.{IsPieceOf, EachPieceOf, IsClaimed, IsCovered}
use Rattle.run_pieces.specs.Cut.{piece_count, piece_at, thread_pieces, pieces_from, pieces_of}
use Rattle.run_pieces.specs.Laws.{CutsArePieces}
use Rattle.run_pieces.proofs.Parts.{get_drop, get_take, take_get}
use Rattle.run_pieces.proofs.Counting.{counted, starts, within}
use Rattle.run_pieces.proofs.Joining.{covering_pieces_make_the_log}

-- ---- one of several

among_front : (xs ys : List PieceValue) (p : PieceValue) → Among xs p → Among (xs ++ ys) p
among_front [] ys p h = absurd h
among_front (x ∷ xs) ys p (inl e) = inl e
among_front (x ∷ xs) ys p (inr h) = inr (among_front xs ys p h)

among_back : (xs ys : List PieceValue) (p : PieceValue) → Among ys p → Among (xs ++ ys) p
among_back [] ys p h = h
among_back (x ∷ xs) ys p h = inr (among_back xs ys p h)

among_either : (xs ys : List PieceValue) (p : PieceValue) → Among (xs ++ ys) p → Among xs p ⊎ Among ys p
among_either [] ys p h = inr h
among_either (x ∷ xs) ys p (inl e) = inl (inl e)
among_either (x ∷ xs) ys p (inr h) = elim (among_either xs ys p h) [ inl a ↦ inl (inr a) | inr b ↦ inr b ]

among_made : (f : ℕ → PieceValue) (a n i : ℕ) → i < n → Among (map f (range_with_len a n)) (f (a + i))
among_made f a zero i l = absurd (omega (arith, l))
among_made f a (suc n) zero l = inl (ap f (let e : a + 0 ≡ a = omega arith in e))
among_made f a (suc n) (suc i) l =
    inr (subst (λ k. Among (map f (range_with_len (a + 1) n)) (f k)) (let e : (a + 1) + i ≡ a + suc i = omega arith in e) (among_made f (a + 1) n i (omega (arith, l))))

among_first : (f : ℕ → PieceValue) (n i : ℕ) → i < n → Among (map f (range_with_len 0 n)) (f i)
among_first f n i l = subst (λ k. Among (map f (range_with_len 0 n)) (f k)) (let e : 0 + i ≡ i = omega arith in e) (among_made f 0 n i l)

made_among : (f : ℕ → PieceValue) (a n : ℕ) (p : PieceValue) → Among (map f (range_with_len a n)) p → (i : ℕ) × (p ≡ f i)
made_among f a zero p h = absurd h
made_among f a (suc n) p (inl e) = (a, e)
made_among f a (suc n) p (inr h) = made_among f (a + 1) n p h

-- ---- the pieces of threads

module _ (key : RunKey) (size : ℕ) where
  -- a piece is one of a thread
  record IsCut (first : ℕ) (logs : List ThreadLogAt) (piece : PieceValue) : Type 0 where
    behind : ℕ
    log : ThreadLogAt
    stands : slice_get logs behind ≡ Some log
    index : ℕ
    is : piece ≡ piece_at key (first + behind) log size index

  cut_of : (first : ℕ) (logs : List ThreadLogAt) (piece : PieceValue) → Among (pieces_from key first logs size) piece → IsCut first logs piece
  cut_of first [] piece h = absurd h
  cut_of first (log ∷ logs) piece h = elim (among_either (thread_pieces key first log size) (pieces_from key (first + 1) logs size) piece h) [ inl a ↦ here a | inr b ↦ further (cut_of (first + 1) logs piece b) ]
    where
      here : Among (thread_pieces key first log size) piece → IsCut first (log ∷ logs) piece
      here a =
          let m = made_among (piece_at key first log size) 0 (piece_count size (length log.entries)) piece a in
          record { behind = 0; log = log; stands = refl; index = m.0; is = m.1 ∙ ap (λ t. piece_at key t log size m.0) (let e : first ≡ first + 0 = omega arith in e) }

      further : IsCut (first + 1) logs piece → IsCut first (log ∷ logs) piece
      further c = record { behind = suc c.behind; log = c.log; stands = c.stands; index = c.index; is = c.is ∙ ap (λ t. piece_at key t c.log size c.index) (let e : (first + 1) + c.behind ≡ first + suc c.behind = omega arith in e) }

  cut_among : (first : ℕ) (logs : List ThreadLogAt) (t : ℕ) (log : ThreadLogAt) (index : ℕ) → slice_get logs t ≡ Some log → index < piece_count size (length log.entries)
      → Among (pieces_from key first logs size) (piece_at key (first + t) log size index)
  cut_among first [] t log index e l = absurd cc
  cut_among first (x ∷ logs) zero log index e l =
      let same : x ≡ log = cc in
      let at : first ≡ first + 0 = omega arith in
      among_front (thread_pieces key first x size) (pieces_from key (first + 1) logs size) _
      (subst (λ t. Among (thread_pieces key first x size) (piece_at key t log size index)) at
      (subst (λ y. Among (thread_pieces key first y size) (piece_at key first log size index)) (sym same)
      (among_first (piece_at key first log size) (piece_count size (length log.entries)) index l)))
  cut_among first (x ∷ logs) (suc t) log index e l =
      among_back (thread_pieces key first x size) (pieces_from key (first + 1) logs size) _
      (subst (λ n. Among (pieces_from key (first + 1) logs size) (piece_at key n log size index)) (let e : (first + 1) + t ≡ first + suc t = omega arith in e) (cut_among (first + 1) logs t log index e l))

  -- ---- the pieces of a recorded run

  module _ (threads : List ThreadLogAt) where
    entry_is : (t p : ℕ) (log : ThreadLogAt) (entry : Entry) → slice_get threads t ≡ Some log → slice_get log.entries p ≡ Some entry → (log_of threads).entry t p ≡ Some (Known entry)
    entry_is t p log entry e f = ap (λ o. known (option_and_then (λ l. slice_get l.entries p) o)) e ∙ ap known f

    end_is : (t : ℕ) (log : ThreadLogAt) → slice_get threads t ≡ Some log → (log_of threads).end t ≡ Some (Known log.end)
    end_is t log e = ap (λ o. known (option_map (λ l. l.end) o)) e

    cut_is_piece : (t : ℕ) (log : ThreadLogAt) (index : ℕ) → slice_get threads t ≡ Some log → IsPieceOf key (log_of threads) (piece_at key t log size index)
    cut_is_piece t log index stands = record {
      of_run = refl;
      entries = λ i entry e. entry_is t (index * size + i) log entry stands (sym (get_drop log.entries (index * size) i) ∙ get_take (drop (index * size) log.entries) size i entry e);
      ends = λ end e.
          let c = cond_some (index + 1 == piece_count size (length log.entries)) log.end end e in
          end_is t log stands ∙ ap (λ x. Some (Known x)) c.1;
    }

    each_cut : EachPieceOf key (log_of threads) (pieces_of key threads size)
    each_cut piece a =
        let c = cut_of 0 threads piece a in
        let at : 0 + c.behind ≡ c.behind = omega arith in
        subst (IsPieceOf key (log_of threads)) (sym (c.is ∙ ap (λ t. piece_at key t c.log size c.index) at)) (cut_is_piece c.behind c.log c.index c.stands)

    among_cuts : (t : ℕ) (log : ThreadLogAt) (index : ℕ) → slice_get threads t ≡ Some log → index < piece_count size (length log.entries) → Among (pieces_of key threads size) (piece_at key t log size index)
    among_cuts t log index e l = subst (λ n. Among (pieces_of key threads size) (piece_at key n log size index)) (let z : 0 + t ≡ t = omega arith in z) (cut_among 0 threads t log index e l)

    abbrev HasEntry : ℕ → ℕ → Entry → Type 0
    HasEntry t p entry = (piece : PieceValue) × Among (pieces_of key threads size) piece × ClaimsEntry piece t p entry

    abbrev HasEnd : ℕ → End → Type 0
    HasEnd t end = (piece : PieceValue) × Among (pieces_of key threads size) piece × ClaimsEnd piece t end

    has_entry : 0 < size → (t p : ℕ) (log : ThreadLogAt) (entry : Entry) → slice_get threads t ≡ Some log → slice_get log.entries p ≡ Some entry → HasEntry t p entry
    has_entry some t p log entry e f =
        let i = p / size in
        let low = starts size p in
        let back : p ≡ i * size + (p - i * size) = omega (arith, low) in
        let there : slice_get (drop (i * size) log.entries) (p - i * size) ≡ Some entry = get_drop log.entries (i * size) (p - i * size) ∙ (ap (slice_get log.entries) (sym back) ∙ f) in (
          piece_at key t log size i,
          among_cuts t log i e (counted size (length log.entries) p some (slice_get_within log.entries p entry f)),
          (refl, low, take_get (drop (i * size) log.entries) size (p - i * size) entry (within size p some) there),
        )

    has_end : (t : ℕ) (log : ThreadLogAt) → slice_get threads t ≡ Some log → HasEnd t log.end
    has_end t log e =
        let last = (length log.entries - 1) / size in
        (piece_at key t log size last, among_cuts t log last e (omega arith), (refl, ap (λ b. cond b (Some log.end) None) (eq-eqb (last + 1) (last + 1) refl)))

    covered_entry : 0 < size → (t p : ℕ) (o : Option ThreadLogAt) → slice_get threads t ≡ o → IsClaimed (HasEntry t p) (known (option_and_then (λ l. slice_get l.entries p) o))
    covered_entry some t p None e = tt
    covered_entry some t p (Some log) e = by (slice_get log.entries p) refl
      where
        by : (o : Option Entry) → slice_get log.entries p ≡ o → IsClaimed (HasEntry t p) (known o)
        by None f = tt
        by (Some entry) f = has_entry some t p log entry e f

    covered_end : (t : ℕ) (o : Option ThreadLogAt) → slice_get threads t ≡ o → IsClaimed (HasEnd t) (known (option_map (λ l. l.end) o))
    covered_end t None e = tt
    covered_end t (Some log) e = has_end t log e

    covered : 0 < size → IsCovered (pieces_of key threads size) (log_of threads)
    covered some = record {
      entries = λ t p. covered_entry some t p (slice_get threads t) refl;
      ends = λ t. covered_end t (slice_get threads t) refl;
    }

pub cuts_are_pieces : CutsArePieces
cuts_are_pieces key threads size some =
    let each = each_cut key size threads in
    record { each = each; joined = covering_pieces_make_the_log key (log_of threads) (pieces_of key threads size) each (covered key size threads some) }
