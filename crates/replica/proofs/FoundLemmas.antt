-- What is found in one more line.
use Rattle.std.proofs.Common.{◌≡◌, ◌≢◌, ℕ, ◌+◌, ◌-◌, ◌^◌, ◌<◌, ◌≤◌, List, [], ◌∷◌, ◌++◌, length, refl, sym, ap, subst, ◌∙◌, arith, inl, inr}
use Rattle.std.specs.Prelude.{Option, Some, None, min}
use Rattle.std.proofs.Math.ListN.{length-append}
use Rattle.wasm_types.specs.declared.key.RunKey.{RunKey}
use Rattle.log_pieces.specs.Piece.{PieceValue}
use Rattle.replica.specs.declared.replica.Replica.{Replica}
use Rattle.replica.specs.declared.skipping.Skipped.{Skipped}
use Rattle.replica.specs.Log.{key_of, log_of}
use Rattle.replica.specs.LogOf.{IsLogOf, Among}
use Rattle.replica.specs.declared.form.ListingForm.{ListingForm}
use Rattle.replica.specs.Gathered.{AreOfRun, IsGathered, IsListing, found_listing, found_ordered}
use Rattle.replica.specs.Judged.{good, AreThoseOf, AreKept, in_u64, IsFound, HasFound, Finds, Skips}
use Rattle.replica.proofs.RestLemmas.{run_push, log_like}

good_bad : (lines : List (Option PieceValue)) → good (lines ++ None ∷ []) ≡ good lines
good_bad [] = refl
good_bad (None ∷ lines) = good_bad lines
good_bad (Some piece ∷ lines) = ap (λ (ps : List PieceValue). piece ∷ ps) (good_bad lines)

good_push : (lines : List (Option PieceValue)) (piece : PieceValue) → good (lines ++ Some piece ∷ []) ≡ good lines ++ piece ∷ []
good_push [] piece = refl
good_push (None ∷ lines) piece = good_push lines piece
good_push (Some first ∷ lines) piece = ap (λ (ps : List PieceValue). first ∷ ps) (good_push lines piece)

few_good : (lines : List (Option PieceValue)) → length (good lines) ≤ length lines
few_good [] = omega arith
few_good (None ∷ lines) = let few = few_good lines in omega arith
few_good (Some piece ∷ lines) = let few = few_good lines in omega arith

few_those : (key : RunKey) (pieces kept : List PieceValue) → AreThoseOf key pieces kept → length kept ≤ length pieces
few_those key [] kept h = let none = ap length h in omega arith
few_those key (piece ∷ pieces) kept h = elim h [
  | inl w ↦ let few = few_those key pieces w.1 w.3 in let one = ap length w.2 in omega arith
  | inr w ↦ let few = few_those key pieces kept w.1 in omega arith
]

those_push : (key : RunKey) (pieces kept : List PieceValue) (piece : PieceValue) → piece.key ≡ key → AreThoseOf key pieces kept → AreThoseOf key (pieces ++ piece ∷ []) (kept ++ piece ∷ [])
those_push key [] kept piece is h = inl (is, [], ap (λ (ps : List PieceValue). ps ++ piece ∷ []) h, refl)
those_push key (first ∷ pieces) kept piece is h = elim h [
  | inl w ↦ inl (w.0, w.1 ++ piece ∷ [], ap (λ (ps : List PieceValue). ps ++ piece ∷ []) w.2, those_push key pieces w.1 piece is w.3)
  | inr w ↦ inr (w.0, those_push key pieces kept piece is w.1)
]

those_stay : (key : RunKey) (pieces kept : List PieceValue) (piece : PieceValue) → piece.key ≢ key → AreThoseOf key pieces kept → AreThoseOf key (pieces ++ piece ∷ []) kept
those_stay key [] kept piece other h = inr (other, h)
those_stay key (first ∷ pieces) kept piece other h = elim h [
  | inl w ↦ inl (w.0, w.1, w.2, those_stay key pieces w.1 piece other w.3)
  | inr w ↦ inr (w.0, those_stay key pieces kept piece other w.1)
]

-- what is kept where something was found begins with the first good line's piece
kept_first : (first : PieceValue) (pieces kept : List PieceValue) → AreKept (first ∷ pieces) kept → (rest : List PieceValue) × (kept ≡ first ∷ rest)
kept_first first pieces kept h = elim h [ inl w ↦ (w.1, w.2) | inr w ↦ absurd (w.0 refl) ]

found_first : (first : PieceValue) (rest kept : List PieceValue) (old : Replica) → kept ≡ first ∷ rest → IsFound kept (Some old) → IsGathered (first ∷ rest) (log_of old)
found_first first rest kept old is found =
    let f = subst (λ (ps : List PieceValue). IsFound ps (Some old)) is found in
    let same : f.0 ≡ old = cc in
    subst (λ (r : Replica). IsGathered (first ∷ rest) (log_of r)) same f.2

found_gathered : (kept : List PieceValue) (first : PieceValue) (rest : List PieceValue) (new : Replica) → kept ≡ first ∷ rest → IsGathered kept (log_of new) → IsFound kept (Some new)
found_gathered kept first rest new is h = subst (λ (ps : List PieceValue). IsFound ps (Some new)) (sym is) (new, refl, subst (λ (ps : List PieceValue). IsGathered ps (log_of new)) is h)

among_push : (ps : List PieceValue) (piece p : PieceValue) → Among (piece ∷ ps) p → Among (ps ++ piece ∷ []) p
among_push [] piece p h = h
among_push (first ∷ ps) piece p h = elim h [
  | inl is ↦ inr (among_push ps piece p (inl is))
  | inr k ↦ elim k [ inl is ↦ inl is | inr m ↦ inr (among_push ps piece p (inr m)) ]
]

among_pushed : (ps : List PieceValue) (piece p : PieceValue) → Among (ps ++ piece ∷ []) p → Among (piece ∷ ps) p
among_pushed [] piece p h = h
among_pushed (first ∷ ps) piece p h = elim h [
  | inl is ↦ inr (inl is)
  | inr k ↦ elim (among_pushed ps piece p k) [ inl is ↦ inl is | inr m ↦ inr (inr m) ]
]

-- one more piece of the run
gathered_push : (kept : List PieceValue) (piece : PieceValue) (old new : Replica) → IsGathered kept (log_of old) → piece.key ≡ key_of (log_of old) → key_of (log_of new) ≡ key_of (log_of old)
    → ((ps : List PieceValue) → IsLogOf (Among ps) (log_of old) → IsLogOf (Among (piece ∷ ps)) (log_of new)) → IsGathered (kept ++ piece ∷ []) (log_of new)
gathered_push kept piece old new h is same joined = record {
  items = log_like (Among (piece ∷ kept)) (Among (kept ++ piece ∷ [])) (log_of new) (among_push kept piece) (among_pushed kept piece) (joined kept h.items);
  run = subst (λ (k : RunKey). AreOfRun k (kept ++ piece ∷ [])) (sym same) (run_push (key_of (log_of old)) kept piece h.run is);
}

abbrev Counts : List (Option PieceValue) → List PieceValue → Skipped → Type 0
Counts lines kept skipped = (skipped.bad ≡ in_u64 (length lines - length (good lines))) × (skipped.foreign ≡ in_u64 (length (good lines) - length kept))

module _ (lines : List (Option PieceValue)) (found : Option Replica) (old : Skipped) (h : HasFound lines found old) (new : Skipped) where
  -- a bad line
  pub put_bad : new.bad ≡ min (old.bad + 1) (2 ^ 64 - 1) → new.foreign ≡ old.foreign → HasFound (lines ++ None ∷ []) found new
  put_bad bad foreign =
      let same = good_bad lines in
      let few = few_good lines in
      let more = length-append lines (None ∷ []) in
      let counted = h.is_skipped.bad in
      let good_count = ap length same in
      record {
        kept = h.kept;
        is_skipped = record {
          are_kept = subst (λ (ps : List PieceValue). AreKept ps h.kept) (sym same) h.is_skipped.are_kept;
          bad = omega arith;
          foreign = foreign ∙ h.is_skipped.foreign ∙ ap (λ (ps : List PieceValue). in_u64 (length ps - length h.kept)) (sym same);
        };
        is_found = h.is_found;
      }

  module _ (piece : PieceValue) where
    counts_kept : (kept : List PieceValue) → length kept ≡ length h.kept + 1 → new.bad ≡ old.bad → new.foreign ≡ old.foreign → Counts (lines ++ Some piece ∷ []) kept new
    counts_kept kept one bad foreign =
        let pushed = ap length (good_push lines piece) ∙ length-append (good lines) (piece ∷ []) in
        let more = length-append lines (Some piece ∷ []) in
        let bad_before = h.is_skipped.bad in
        let foreign_before = h.is_skipped.foreign in
        (omega arith, omega arith)

    -- the first good line
    pub put_first : (replica : Replica) → found ≡ None → key_of (log_of replica) ≡ piece.key → IsLogOf (Among (piece ∷ [])) (log_of replica) → new.bad ≡ old.bad → new.foreign ≡ old.foreign → HasFound (lines ++ Some piece ∷ []) (Some replica) new
    put_first replica none key log bad foreign = first (good lines) h.kept refl refl h.is_skipped.are_kept (subst (IsFound h.kept) none h.is_found) where
      first : (pieces kept : List PieceValue) → pieces ≡ good lines → kept ≡ h.kept → AreKept pieces kept → IsFound kept None → HasFound (lines ++ Some piece ∷ []) (Some replica) new
      first (p ∷ pieces) kept is same are found =
          let k = kept_first p pieces kept are in
          let f = subst (λ (ps : List PieceValue). IsFound ps None) k.1 found in
          absurd cc
      first [] kept is same are found =
          let none : h.kept ≡ [] = sym same ∙ are in
          let count = counts_kept (piece ∷ []) (let zero = ap length none in omega arith) bad foreign in
          let pushed : good (lines ++ Some piece ∷ []) ≡ piece ∷ [] = good_push lines piece ∙ ap (λ (ps : List PieceValue). ps ++ piece ∷ []) (sym is) in
          record {
            kept = piece ∷ [];
            is_skipped = record {
              are_kept = subst (λ (ps : List PieceValue). AreKept ps (piece ∷ [])) (sym pushed) (inl (refl, [], refl, refl));
              bad = count.0;
              foreign = count.1;
            };
            is_found = (replica, refl, record { items = log; run = (sym key, tt) });
          }

    -- a later one of that run
    pub put_kept : (before after : Replica) → found ≡ Some before → piece.key ≡ key_of (log_of before) → key_of (log_of after) ≡ key_of (log_of before)
        → ((ps : List PieceValue) → IsLogOf (Among ps) (log_of before) → IsLogOf (Among (piece ∷ ps)) (log_of after)) → new.bad ≡ old.bad → new.foreign ≡ old.foreign → HasFound (lines ++ Some piece ∷ []) (Some after) new
    put_kept before after some is same joined bad foreign = push (good lines) h.kept refl refl h.is_skipped.are_kept (subst (IsFound h.kept) some h.is_found) where
      push : (pieces kept : List PieceValue) → pieces ≡ good lines → kept ≡ h.kept → AreKept pieces kept → IsFound kept (Some before) → HasFound (lines ++ Some piece ∷ []) (Some after) new
      push [] kept all these are found = let f = subst (λ (ps : List PieceValue). IsFound ps (Some before)) are found in absurd cc
      push (first ∷ pieces) kept all these are found =
          let k = kept_first first pieces kept are in
          let gathered = found_first first k.0 kept before k.1 found in
          let of_run : piece.key ≡ first.key = is ∙ sym gathered.run.0 in
          let count = counts_kept (kept ++ piece ∷ []) (length-append kept (piece ∷ []) ∙ ap (λ (ps : List PieceValue). length ps + 1) these) bad foreign in
          let pushed : good (lines ++ Some piece ∷ []) ≡ first ∷ (pieces ++ piece ∷ []) = good_push lines piece ∙ ap (λ (ps : List PieceValue). ps ++ piece ∷ []) (sym all) in
          record {
            kept = kept ++ piece ∷ [];
            is_skipped = record {
              are_kept = subst (λ (ps : List PieceValue). AreKept ps (kept ++ piece ∷ [])) (sym pushed) (those_push first.key (first ∷ pieces) kept piece of_run are);
              bad = count.0;
              foreign = count.1;
            };
            is_found = found_gathered (kept ++ piece ∷ []) first (k.0 ++ piece ∷ []) after (ap (λ (ps : List PieceValue). ps ++ piece ∷ []) k.1)
                (gathered_push kept piece before after (subst (λ (ps : List PieceValue). IsGathered ps (log_of before)) (sym k.1) gathered) is same joined);
          }

    -- a later one of another run
    pub put_foreign : (before after : Replica) → found ≡ Some before → after ≡ before → piece.key ≢ key_of (log_of before) → new.bad ≡ old.bad → new.foreign ≡ min (old.foreign + 1) (2 ^ 64 - 1) → HasFound (lines ++ Some piece ∷ []) (Some after) new
    put_foreign before after some same other bad foreign = stay (good lines) refl h.is_skipped.are_kept (subst (IsFound h.kept) some h.is_found) where
      stay : (pieces : List PieceValue) → pieces ≡ good lines → AreKept pieces h.kept → IsFound h.kept (Some before) → HasFound (lines ++ Some piece ∷ []) (Some after) new
      stay [] all are found = let f = subst (λ (ps : List PieceValue). IsFound ps (Some before)) are found in absurd cc
      stay (first ∷ pieces) all are found =
          let k = kept_first first pieces h.kept are in
          let gathered = found_first first k.0 h.kept before k.1 found in
          let pushed : good (lines ++ Some piece ∷ []) ≡ first ∷ (pieces ++ piece ∷ []) = good_push lines piece ∙ ap (λ (ps : List PieceValue). ps ++ piece ∷ []) (sym all) in
          let good_count = ap length (good_push lines piece) ∙ length-append (good lines) (piece ∷ []) in
          let more = length-append lines (Some piece ∷ []) in
          let few = few_those first.key (first ∷ pieces) h.kept are in
          let all_count = ap length all in
          let bad_before = h.is_skipped.bad in
          let foreign_before = h.is_skipped.foreign in
          record {
            kept = h.kept;
            is_skipped = record {
              are_kept = subst (λ (ps : List PieceValue). AreKept ps h.kept) (sym pushed) (those_stay first.key (first ∷ pieces) h.kept piece (λ e. other (e ∙ gathered.run.0)) are);
              bad = omega arith;
              foreign = omega arith;
            };
            is_found = subst (λ (r : Replica). IsFound h.kept (Some r)) (sym same) found;
          }

-- the listing of what was found went where `takes` says
pub skips_found : (form : ListingForm) {Source : Type 0} (brings : List ℕ → Source → Type 0) (ended : Type 0) (source : Source) (skipped : Skipped) (takes : List ℕ → Type 0) (found : Option Replica)
    → Finds brings ended source found skipped → found_ordered found → takes (found_listing form found) → Skips brings form ended source skipped takes
skips_found form brings ended source skipped takes found h rising taken = record {
  text = h.text;
  came = h.came;
  end = h.end;
  lines = h.lines;
  judged = h.judged;
  kept = h.has_found.kept;
  is_skipped = h.has_found.is_skipped;
  listed = found_listing form found;
  is_listing = listed h.has_found.kept found h.has_found.is_found rising;
  taken = taken;
} where
  listed : (kept : List PieceValue) (found : Option Replica) → IsFound kept found → found_ordered found → IsListing form kept (found_listing form found)
  listed [] found is rising = ap (λ (o : Option Replica). found_listing form o) is
  listed (first ∷ pieces) found is rising = (log_of is.0, is.2, subst (λ (o : Option Replica). found_ordered o) is.1 rising, ap (λ (o : Option Replica). found_listing form o) is.1)

-- some pieces that were gathered are found
pub found_gathered_some : (pieces : List PieceValue) (replica : Replica) → 0 < length pieces → IsGathered pieces (log_of replica) → IsFound pieces (Some replica)
found_gathered_some [] replica some h = absurd (omega (arith, some))
found_gathered_some (first ∷ pieces) replica some h = (replica, refl, h)
