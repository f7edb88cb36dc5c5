-- How a text of a log is shown or stops.
use Rattle.std.proofs.Common.{◌≡◌, ℕ, List, [], ◌++◌, Bool, Result, Ok, Err, OnOk, OnErr, IfErr, inl, inr, ap, sym, subst, refl, ◌∙◌}
use Rattle.std.specs.Prelude.{Option, Some, None, option_map}
use Rattle.std.specs.Global.{Vec}
use Rattle.log_pieces.specs.Piece.{PieceValue}
use Rattle.replica.specs.declared.replica.Replica.{Replica}
use Rattle.replica.specs.Log.{log_of}
use Rattle.replica.specs.Judged.{IsFound}
use Rattle.replica.specs.Gathered.{Collects}
use Rattle.replica.proofs.FoundLemmas.{found_gathered_some}
use Rattle.replica.specs.declared.diverging.EventAt.{EventAt}
use Rattle.replica.specs.Chosen.{IsObjectListing}
use Rattle.replica.specs.Chart.{IsChart}
use Rattle.command_words.specs.declared.requests.GatherForm.{GatherForm}
use Rattle.command_words.specs.declared.requests.GatherForm.TheVariants as forms
use Rattle.command_words.specs.declared.requests.ThreadCount.{ThreadCount}
use Rattle.commands.specs.declared.fault.Fault.{Fault}
use Rattle.commands.specs.declared.fault.Fault.TheVariants.{SinkFailed}
use Rattle.replica.specs.declared.skipping.Skipped.{Skipped}
use Rattle.program.specs.Answers.{IsShown, IsListed, IsInForm, IsGatheredText, IsNotGathered, IsTextStopped, event_of}

module _ (is took : List ℕ → Type 0) {T : Type 0} (result : Result T Fault) (text items : List ℕ) (same : items ≡ text) (listed : is text) where
  -- what was listed is shown where the output took it
  pub listed_shown : OnOk result (took items) → OnOk result (IsShown took is)
  listed_shown shown = go result shown
    where
      go : (r : Result T Fault) → OnOk r (took items) → OnOk r (IsShown took is)
      go (Ok x) h = (text, listed, subst took same h)
      go (Err fault) h = tt

  -- and stops where that failed
  pub listed_stops : (refused : Fault → Type 0) (unwritten unwritable : Type 0) → IfErr result (λ fault. fault ≡ SinkFailed) → OnErr result unwritable → OnErr result ((part rest : List ℕ) × (items ≡ part ++ rest) × took part)
      → IfErr result (IsTextStopped refused is took unwritten unwritable)
  listed_stops refused unwritten unwritable error failed begun = go result error failed begun
    where
      go : (r : Result T Fault) → IfErr r (λ fault. fault ≡ SinkFailed) → OnErr r unwritable → OnErr r ((part rest : List ℕ) × (items ≡ part ++ rest) × took part) → IfErr r (IsTextStopped refused is took unwritten unwritable)
      go (Ok x) e f b = tt
      go (Err fault) e f b = inr (e, f, (text, b.0, b.1, listed, subst (λ (l : List ℕ). l ≡ b.0 ++ b.1) same b.2, b.3))

-- a text of what was collected
pub text_listed : {Source : Type 0} (brings : List ℕ → Source → Type 0) (ended : Type 0) (source : Source) (is_of : List PieceValue → List ℕ → Type 0) (found : Option Replica) (text : List ℕ)
    → ((pieces : List PieceValue) → IsFound pieces found → is_of pieces text)
    → ((replica : Replica) → found ≡ Some replica → Collects brings ended source (log_of replica)) → (found ≡ None → brings [] source × ended)
    → IsListed is_of (λ came. brings came source) ended text
text_listed brings ended source is_of None text of some none =
    record { text = []; came = (none refl).0; end = (none refl).1; pieces = []; lines = inl (record { rules = tt; fits = tt; written = refl }); is_listing = of [] refl }
text_listed brings ended source is_of (Some replica) text of some none =
    let c = some replica refl in
    record { text = c.text; came = c.came; end = c.end; pieces = c.pieces; lines = c.lines; is_listing = of c.pieces (found_gathered_some c.pieces replica c.some c.gathered) }

-- the listing and the picture that are asked for
pub objects_form : (form : GatherForm) (only : Vec ℕ) (shared : Bool) (named : List ℕ) → form ≡ forms.ByObject only shared → named ≡ only.items → IsInForm form ≡ IsObjectListing (record { only = named; shared = shared })
objects_form form only shared named is same = ap (λ (f : GatherForm). IsInForm f) is ∙ ap (λ (l : List ℕ). IsObjectListing (record { only = l; shared = shared })) (sym same)

pub chart_form : (form : GatherForm) (only : Vec ℕ) (from to : Option ThreadCount) (named : List ℕ) (first last : Option EventAt) → form ≡ forms.Chart only from to → named ≡ only.items → first ≡ option_map event_of from → last ≡ option_map event_of to
    → IsInForm form ≡ IsChart (record { only = named; from = first; to = last })
chart_form form only from to named first last is same since until =
    ap (λ (f : GatherForm). IsInForm f) is
    ∙ ap (λ (l : List ℕ). IsChart (record { only = l; from = option_map event_of from; to = option_map event_of to })) (sym same)
    ∙ ap (λ (f : Option EventAt). IsChart (record { only = named; from = f; to = option_map event_of to })) (sym since)
    ∙ ap (λ (t : Option EventAt). IsChart (record { only = named; from = first; to = t })) (sym until)

-- what is written of a log stands in the form that is asked for where that comes to the same
module _ (brought : List ℕ → Type 0) (ended broke : Type 0) (took : List ℕ → Type 0) (skips : Bool) {T : Type 0} (result : Result T Fault) (is_of made : List PieceValue → List ℕ → Type 0) (same : is_of ≡ made) where
  pub done_as : (counted : Skipped → Type 0) (said : Type 0) → OnOk result (IsShown took (IsGatheredText brought ended counted said skips made)) → OnOk result (IsShown took (IsGatheredText brought ended counted said skips is_of))
  done_as counted said = subst (λ (is : List PieceValue → List ℕ → Type 0). OnOk result (IsShown took (IsGatheredText brought ended counted said skips is))) (sym same)

  pub stopped_as : (unwritten unwritable : Type 0) → IfErr result (IsTextStopped (IsNotGathered brought ended broke skips) (IsGatheredText brought ended (λ skipped. Unit {0}) (Unit {0}) skips made) took unwritten unwritable)
      → IfErr result (IsTextStopped (IsNotGathered brought ended broke skips) (IsGatheredText brought ended (λ skipped. Unit {0}) (Unit {0}) skips is_of) took unwritten unwritable)
  stopped_as unwritten unwritable =
      subst (λ (is : List PieceValue → List ℕ → Type 0). IfErr result (IsTextStopped (IsNotGathered brought ended broke skips) (IsGatheredText brought ended (λ skipped. Unit {0}) (Unit {0}) skips is) took unwritten unwritable)) (sym same)
