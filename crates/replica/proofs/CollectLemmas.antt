-- The first line, and those behind it.
use Rattle.std.proofs.Common.{◌≡◌, ℕ, ◌<◌, List, [], ◌∷◌, ◌++◌, length, refl, sym, ap, subst, ◌∙◌, arith, inl, append_assoc}
use Rattle.std.specs.Prelude.{Option, Some, None}
use Rattle.wasm_types.specs.declared.key.RunKey.{RunKey}
use Rattle.wasm_types.specs.declared.key.Profile.TheVariants.{One}
use Rattle.log_pieces.specs.Piece.{PieceValue}
use Rattle.log_pieces.specs.Line.{IsLineOf}
use Rattle.replica.specs.declared.log.Log.{Log}
use Rattle.replica.specs.declared.replica.Replica.{Replica}
use Rattle.replica.specs.Log.{key_of, log_of}
use Rattle.replica.specs.declared.form.ListingForm.{ListingForm}
use Rattle.replica.specs.Listing.{listing, empty_listing}
use Rattle.replica.specs.LogOf.{IsLogOf, Among}
use Rattle.replica.specs.Lines.{HasNoEnd}
use Rattle.replica.specs.Gathered.{IsText, AreOfRun, BeginsWith, HasNoLine, IsBadLine, IsOtherRun, IsCutText, IsGathered, Collects, Refuses, Lists, found_listing, found_ordered}
use Rattle.replica.specs.Rest.{RestGathered, RestBad, RestOther, RestCut}
use Rattle.replica.proofs.RestLemmas.{lines_none, begins_none, begins_first, text_first}

any_key : RunKey
any_key = record { digest = []; run = 0; profile = One }

pub first_bad : (ended : Type 0) (held got : List ℕ) (n : ℕ) → held ≡ [] → n ≡ 1 → HasNoLine ended (held ++ got) → IsBadLine ended got n
first_bad ended held got n none is bad = record {
  key = any_key;
  pieces = [];
  rest = got;
  begins = begins_none any_key got;
  counted = omega arith;
  bad = subst (λ l. HasNoLine ended (l ++ got)) none bad;
}

pub first_cut : (held got : List ℕ) → held ≡ [] → HasNoEnd (held ++ got) → IsCutText got
first_cut held got none cut = record {
  key = any_key;
  pieces = [];
  rest = got;
  begins = begins_none any_key got;
  cut = subst (λ l. HasNoEnd (l ++ got)) none cut;
}

module _ {Source : Type 0} (brings : List ℕ → Source → Type 0) (step : Source → List ℕ → Source → Type 0) (more_brought : (s t : Source) (got more : List ℕ) → brings got s → step s more t → brings (got ++ more) t) where
  module _ (held got line chunk : List ℕ) (first : PieceValue) (source next : Source) (none : held ≡ []) (came : brings got source) (is_line : IsLineOf line first) (parts : held ++ got ≡ line ++ chunk) where
    whole : (more : List ℕ) → got ++ more ≡ line ++ (chunk ++ more)
    whole more = ap (λ l. l ++ more) (ap (λ l. l ++ got) (sym none) ∙ parts) ∙ append_assoc line chunk more

    pub all_gathered : (ended : Type 0) (old new : Log) → key_of old ≡ first.key → IsLogOf (Among (first ∷ [])) old → RestGathered (step source) ended chunk next old new → Collects brings ended next new
    all_gathered ended old new key log rest = record {
      text = got ++ rest.got;
      came = more_brought source next got rest.got came rest.came;
      end = rest.end;
      pieces = first ∷ rest.pieces;
      lines = subst (λ l. IsText l (first ∷ rest.pieces)) (sym (whole rest.got)) (text_first (chunk ++ rest.got) line rest.pieces first is_line rest.text);
      some = omega arith;
      gathered = record {
        items = rest.log first log;
        run = subst (λ (k : RunKey). AreOfRun k (first ∷ rest.pieces)) (sym rest.same_run) (sym key, rest.run);
      };
    }

    pub all_bad : (ended : Type 0) (key : RunKey) (n : ℕ) → key ≡ first.key → RestBad (step source) ended chunk next key n → Refuses brings next (λ text. IsBadLine ended text n)
    all_bad ended key n is rest = (
      got ++ rest.got,
      more_brought source next got rest.got came rest.came,
      record {
        key = key;
        pieces = first ∷ rest.pieces;
        rest = rest.rest;
        begins = subst (λ l. BeginsWith key l (first ∷ rest.pieces) rest.rest) (sym (whole rest.got)) (begins_first key (chunk ++ rest.got) line rest.rest rest.pieces first is_line (sym is) rest.begins);
        counted = rest.counted;
        bad = rest.bad;
      },
    )

    pub all_other : (key : RunKey) (n : ℕ) (own : RunKey) → key ≡ first.key → RestOther (step source) chunk next key n own → Refuses brings next (λ text. IsOtherRun text n own key)
    all_other key n own is rest = (
      got ++ rest.got,
      more_brought source next got rest.got came rest.came,
      record {
        pieces = first ∷ rest.pieces;
        rest = rest.rest;
        begins = subst (λ l. BeginsWith key l (first ∷ rest.pieces) rest.rest) (sym (whole rest.got)) (begins_first key (chunk ++ rest.got) line rest.rest rest.pieces first is_line (sym is) rest.begins);
        some = omega arith;
        counted = rest.counted;
        piece = rest.piece;
        line = rest.line;
        is_line = rest.is_line;
        stands = rest.stands;
        of = rest.of;
        other = rest.other;
      },
    )

    pub all_cut : (key : RunKey) → key ≡ first.key → RestCut (step source) chunk next key → Refuses brings next IsCutText
    all_cut key is rest = (
      got ++ rest.got,
      more_brought source next got rest.got came rest.came,
      record {
        key = key;
        pieces = first ∷ rest.pieces;
        rest = rest.rest;
        begins = subst (λ l. BeginsWith key l (first ∷ rest.pieces) rest.rest) (sym (whole rest.got)) (begins_first key (chunk ++ rest.got) line rest.rest rest.pieces first is_line (sym is) rest.begins);
        cut = rest.cut;
      },
    )

-- the listing of what was collected went where `takes` says
pub lists_found : (form : ListingForm) {Source : Type 0} (brings : List ℕ → Source → Type 0) (ended : Type 0) (source : Source) (takes : List ℕ → Type 0) (found : Option Replica)
    → ((replica : Replica) → found ≡ Some replica → Collects brings ended source (log_of replica)) → (found ≡ None → brings [] source × ended) → found_ordered found → takes (found_listing form found) → Lists brings form ended source takes
lists_found form brings ended source takes None some none rising taken = record {
  text = [];
  came = (none refl).0;
  end = (none refl).1;
  pieces = [];
  lines = inl lines_none;
  listed = empty_listing;
  is_listing = refl;
  taken = taken;
}
lists_found form brings ended source takes (Some replica) some none rising taken = let h = some replica refl in listed h h.pieces h.lines h.some h.gathered where
  listed : (h : Collects brings ended source (log_of replica)) (pieces : List PieceValue) → IsText h.text pieces → 0 < length pieces → IsGathered pieces (log_of replica) → Lists brings form ended source takes
  listed h [] lines few gathered = absurd (omega arith)
  listed h (first ∷ pieces) lines few gathered = record {
    text = h.text;
    came = h.came;
    end = h.end;
    pieces = first ∷ pieces;
    lines = lines;
    listed = listing form (log_of replica);
    is_listing = (log_of replica, gathered, rising, refl);
    taken = taken;
  }
