-- Frames, whole and left.
use Rattle.std.proofs.Common.{◌≡◌, ◌≢◌, ℕ, List, [], ◌∷◌, ◌++◌, length, refl, sym, subst, append_assoc, inr}
use Rattle.adapter_messages.specs.Frames.{lines_text, IsHeader, IsFrame, IsStopped, Stops, EndsWithin, LeavesOff, IsLeft}
use Rattle.adapter_messages.specs.declared.fault.FrameFault.{FrameFault}
use Rattle.adapter_messages.specs.declared.fault.FrameFault.TheVariants as fault
use Rattle.adapter_messages.proofs.Headers.{some_last}

module _ {S : Type 0} (brings : S → List ℕ → S → Type 0) (more : (s t u : S) (xs ys : List ℕ) → brings s xs t → brings t ys u → brings s (xs ++ ys) u) (start mid end : S) where
  behind_header : (lines : List (List ℕ)) (part : List ℕ) → brings start (lines_text lines ++ 13 ∷ 10 ∷ []) mid → brings mid part end → brings start (lines_text lines ++ 13 ∷ 10 ∷ part) end
  behind_header lines part first last = subst (λ (t : List ℕ). brings start t end) (append_assoc (lines_text lines) (13 ∷ 10 ∷ []) part) (more start mid end (lines_text lines ++ 13 ∷ 10 ∷ []) part first last)

  pub whole : (n : ℕ) (content : List ℕ) (lines : List (List ℕ)) → IsHeader lines (n ∷ []) → brings start (lines_text lines ++ 13 ∷ 10 ∷ []) mid → brings mid content end → length content ≡ n
      → (text : List ℕ) × IsFrame text content × brings start text end
  whole n content lines header first last long = (
    lines_text lines ++ 13 ∷ 10 ∷ content,
    record { lines = lines; header = subst (λ (k : ℕ). IsHeader lines (k ∷ [])) (sym long) header; is = refl },
    behind_header lines content first last,
  )

  module _ (ended : Type 0) where
    left_stops : (f : FrameFault) (n : ℕ) (part : List ℕ) → LeavesOff (λ text. brings mid text end) ended f (length part) n → Stops f (n ∷ []) (13 ∷ 10 ∷ part)
    left_stops fault.SourceFailed n part h = inr (part, n, refl, refl, h)
    left_stops fault.Ended n part h = inr (part, n, refl, refl, h.0)
    left_stops fault.Broken n part h = absurd h
    left_stops fault.TooLong n part h = absurd h
    left_stops fault.NoMemory n part h = (part, n, refl, refl, h)

    left_within : (f : FrameFault) (n : ℕ) (part text : List ℕ) → LeavesOff (λ text. brings mid text end) ended f (length part) n → text ≢ [] → EndsWithin f ended text
    left_within fault.SourceFailed n part text h some = tt
    left_within fault.Ended n part text h some = (some, h.1)
    left_within fault.Broken n part text h some = tt
    left_within fault.TooLong n part text h some = tt
    left_within fault.NoMemory n part text h some = tt

    pub left : (n : ℕ) (f : FrameFault) (lines : List (List ℕ)) → IsHeader lines (n ∷ []) → brings start (lines_text lines ++ 13 ∷ 10 ∷ []) mid → IsLeft (λ text. brings mid text end) ended n f
        → (text : List ℕ) × IsStopped ended f text × brings start text end
    left n f lines header first rest = (
      lines_text lines ++ 13 ∷ 10 ∷ rest.part,
      record {
        lines = lines;
        lengths = n ∷ [];
        last = 13 ∷ 10 ∷ rest.part;
        header = header;
        stops = left_stops f n rest.part rest.leaves_off;
        is = refl;
        ends_within = left_within f n rest.part (lines_text lines ++ 13 ∷ 10 ∷ rest.part) rest.leaves_off (some_last lines (13 ∷ 10 ∷ rest.part) (λ e. absurd cc));
      },
      behind_header lines rest.part first rest.came,
    )
