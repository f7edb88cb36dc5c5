-- Headers that go on by a line, and that stop.
use Rattle.std.proofs.Common.{◌≡◌, ◌≢◌, ℕ, ◌+◌, Bool, true, false, List, [], ◌∷◌, ◌++◌, All, Option, Some, None, refl, sym, ap, ◌∙◌, subst, inr}
use Rattle.std.specs.List.{filter_map}
use Rattle.std.proofs.lemmas.List.{append-nil}
use Rattle.std.proofs.lemmas.List.Elements.{All-append, All-cons, All-nil, filter_map-append}
use Rattle.std.proofs.lemmas.Grind.{flat_map-append}
use Rattle.adapter_messages.specs.Fields.{field_in}
use Rattle.adapter_messages.specs.HeaderLines.{IsLine}
use Rattle.adapter_messages.specs.Frames.{lines_text, length_in, IsSound, IsHeader, IsStopped, Stops, Breaks, EndsWithin, failures_of}
use Rattle.adapter_messages.specs.declared.fields.Field.{Field}
use Rattle.adapter_messages.specs.declared.fields.Field.TheVariants.{Length, Other, TooLong}
use Rattle.adapter_messages.specs.declared.fault.FrameFault.{FrameFault}
use Rattle.adapter_messages.specs.declared.fault.FrameFault.TheVariants as fault

abbrev pub given : Option ℕ → List ℕ
given None = []
given (Some n) = n ∷ []

abbrev pub has_lines : List (List ℕ) → Bool
has_lines [] = false
has_lines (line ∷ lines) = true

-- lines of fields came, which give at most one length
pub record HeaderCame (brought : List ℕ → Type 0) (announced : Option ℕ) (is_begun : Bool) : Type 0 where
  pub lines : List (List ℕ)
  pub header : IsHeader lines (given announced)
  pub begun : has_lines lines ≡ is_begun
  pub came : brought (lines_text lines)

lines_text_more : (lines : List (List ℕ)) (line : List ℕ) → lines_text (lines ++ line ∷ []) ≡ lines_text lines ++ (line ++ 10 ∷ [])
lines_text_more lines line = flat_map-append (λ (l : List ℕ). l ++ 10 ∷ []) lines (line ∷ []) ∙ ap (λ (l : List ℕ). lines_text lines ++ l) (append-nil (line ++ 10 ∷ []))

all_more : (P : List ℕ → Type 0) (lines : List (List ℕ)) (line : List ℕ) → All P lines → P line → All P (lines ++ line ∷ [])
all_more P lines line all more = All-append P lines (line ∷ []) all (All-cons P line [] more (All-nil P))

has_lines_more : (lines : List (List ℕ)) (line : List ℕ) → has_lines (lines ++ line ∷ []) ≡ true
has_lines_more [] line = refl
has_lines_more (first ∷ lines) line = refl

-- ---- one more line

gives_line : (line : List ℕ) (f : Field) → field_in line ≡ f → filter_map (λ (l : List ℕ). length_in (field_in l)) (line ∷ []) ≡ filter_map length_in (f ∷ [])
gives_line line f is = ap (λ (x : Field). filter_map length_in (x ∷ [])) is

give_more : (lines : List (List ℕ)) (lengths : List ℕ) (line : List ℕ) (f : Field) → field_in line ≡ f → filter_map (λ (l : List ℕ). length_in (field_in l)) lines ≡ lengths
    → filter_map (λ (l : List ℕ). length_in (field_in l)) (lines ++ line ∷ []) ≡ lengths ++ filter_map length_in (f ∷ [])
give_more lines lengths line f is give =
    filter_map-append (λ (l : List ℕ). length_in (field_in l)) lines (line ∷ [])
    ∙ ap (λ (xs : List ℕ). xs ++ filter_map (λ (l : List ℕ). length_in (field_in l)) (line ∷ [])) give
    ∙ ap (λ (xs : List ℕ). lengths ++ xs) (gives_line line f is)

sound_by : (line : List ℕ) (f : Field) → field_in line ≡ f → IsSound f → IsSound (field_in line)
sound_by line f is sound = subst IsSound (sym is) sound

header_more : (lines : List (List ℕ)) (lengths : List ℕ) (line : List ℕ) (f : Field) → IsHeader lines lengths → IsLine line → field_in line ≡ f → IsSound f → IsHeader (lines ++ line ∷ []) (lengths ++ filter_map length_in (f ∷ []))
header_more lines lengths line f header short is sound = record {
  are_lines = all_more IsLine lines line header.are_lines short;
  are_sound = all_more (λ (l : List ℕ). IsSound (field_in l)) lines line header.are_sound (sound_by line f is sound);
  give = give_more lines lengths line f is header.give;
}

module _ (brought next : List ℕ → Type 0) where
  came_more : (announced : Option ℕ) (is_begun : Bool) (line : List ℕ) (f : Field) (now : Option ℕ) → HeaderCame brought announced is_begun → IsLine line → field_in line ≡ f → IsSound f
      → given announced ++ filter_map length_in (f ∷ []) ≡ given now → ((text : List ℕ) → brought text → next (text ++ (line ++ 10 ∷ []))) → HeaderCame next now true
  came_more announced is_begun line f now h short is sound same on = record {
    lines = h.lines ++ line ∷ [];
    header = subst (λ (lengths : List ℕ). IsHeader (h.lines ++ line ∷ []) lengths) same (header_more h.lines (given announced) line f h.header short is sound);
    begun = has_lines_more h.lines line;
    came = subst next (sym (lines_text_more h.lines line)) (on (lines_text h.lines) h.came);
  }

  pub passed_over : (announced : Option ℕ) (is_begun : Bool) (line : List ℕ) → HeaderCame brought announced is_begun → IsLine line → field_in line ≡ Other
      → ((text : List ℕ) → brought text → next (text ++ (line ++ 10 ∷ []))) → HeaderCame next announced true
  passed_over announced is_begun line h short is on = came_more announced is_begun line Other announced h short is tt (append-nil (given announced)) on

  pub given_now : (is_begun : Bool) (line : List ℕ) (n : ℕ) → HeaderCame brought None is_begun → IsLine line → field_in line ≡ Length n
      → ((text : List ℕ) → brought text → next (text ++ (line ++ 10 ∷ []))) → HeaderCame next (Some n) true
  given_now is_begun line n h short is on = came_more None is_begun line (Length n) (Some n) h short is tt refl on

-- something came

some_behind : (text last : List ℕ) → last ≢ [] → text ++ last ≢ []
some_behind [] last some e = some e
some_behind (b ∷ bs) last some e = absurd cc

some_line : (line : List ℕ) (text : List ℕ) → (line ++ 10 ∷ []) ++ text ≢ []
some_line [] text e = absurd cc
some_line (b ∷ bs) text e = absurd cc

some_before : (text last : List ℕ) → text ≢ [] → text ++ last ≢ []
some_before [] last some e = some refl
some_before (b ∷ bs) last some e = absurd cc

pub some_lines : (lines : List (List ℕ)) (last : List ℕ) → has_lines lines ≡ true → lines_text lines ++ last ≢ []
some_lines [] last h e = absurd cc
some_lines (line ∷ lines) last h e = some_before ((line ++ 10 ∷ []) ++ lines_text lines) last (some_line line (lines_text lines)) e

pub some_last : (lines : List (List ℕ)) (last : List ℕ) → last ≢ [] → lines_text lines ++ last ≢ []
some_last lines last some = some_behind (lines_text lines) last some

pub no_lines : (lines : List (List ℕ)) → has_lines lines ≡ false → lines_text lines ≡ []
no_lines [] h = refl
no_lines (line ∷ lines) h = absurd cc

-- ---- where nothing more of the frame is read

pub broken_by : (lengths line : List ℕ) (f : Field) → field_in line ≡ f → Breaks lengths f → Stops fault.Broken lengths (line ++ 10 ∷ [])
broken_by lengths line f is breaks = (line, refl, subst (Breaks lengths) (sym is) breaks)

pub long_by : (lengths line : List ℕ) → field_in line ≡ TooLong → Stops fault.TooLong lengths (line ++ 10 ∷ [])
long_by lengths line is = inr (line, refl, is)

module _ {S : Type 0} (brings : S → List ℕ → S → Type 0) (more : (s t u : S) (xs ys : List ℕ) → brings s xs t → brings t ys u → brings s (xs ++ ys) u) (start mid end : S) where
  pub stopped : (ended : Type 0) (announced : Option ℕ) (is_begun : Bool) (f : FrameFault) (last : List ℕ) (before after : ℕ) (h : HeaderCame (λ text. brings start text mid) announced is_begun)
      → Stops f (given announced) last → EndsWithin f ended (lines_text h.lines ++ last) → brings mid last end → after ≡ before + failures_of f
      → (text : List ℕ) × IsStopped ended f text × brings start text end × (after ≡ before + failures_of f)
  stopped ended announced is_begun f last before after h stops within came count = (
    lines_text h.lines ++ last,
    record { lines = h.lines; lengths = given announced; last = last; header = h.header; stops = stops; is = refl; ends_within = within },
    more start mid end (lines_text h.lines) last h.came came,
    count,
  )

pub some_given : (announced : Option ℕ) (n : ℕ) → announced ≡ Some n → given announced ≢ []
some_given None n is e = absurd cc
some_given (Some m) n is e = absurd cc
