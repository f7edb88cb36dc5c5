-- The frames of events by parts.
use Rattle.std.proofs.Common.{◌≡◌, ℕ, List, [], ◌∷◌, ◌++◌, refl, ap, ◌∙◌, sym, append_assoc}
use Rattle.adapter_messages.specs.declared.event.EventKind.{EventKind}
use Rattle.adapter_messages.specs.Sent.{event_frame, event_frames, number_after, number_behind}

frames_more : (n : ℕ) (ks ls : List EventKind) → event_frames n (ks ++ ls) ≡ event_frames n ks ++ event_frames (number_behind n ks) ls
frames_more n [] ls = refl
frames_more n (k ∷ ks) ls =
    ap (λ (t : List ℕ). event_frame (record { seq = n; kind = k }) ++ t) (frames_more (number_after n) ks ls)
    ∙ sym (append_assoc (event_frame (record { seq = n; kind = k })) (event_frames (number_after n) ks) (event_frames (number_behind (number_after n) ks) ls))

number_more : (n : ℕ) (ks ls : List EventKind) → number_behind n (ks ++ ls) ≡ number_behind (number_behind n ks) ls
number_more n [] ls = refl
number_more n (k ∷ ks) ls = number_more (number_after n) ks ls

-- ---- three lists, of which the first ones end at m and k

pub three_frames : (n m k : ℕ) (told a b c : List EventKind) → a ++ (b ++ c) ≡ told → m ≡ number_behind n a → k ≡ number_behind m b
    → event_frames n a ++ (event_frames m b ++ event_frames k c) ≡ event_frames n told
three_frames n m k told a b c is second third =
    ap (λ (x : ℕ). event_frames n a ++ (event_frames m b ++ event_frames x c)) third
    ∙ ap (λ (t : List ℕ). event_frames n a ++ t) (sym (frames_more m b c))
    ∙ ap (λ (x : ℕ). event_frames n a ++ event_frames x (b ++ c)) second
    ∙ sym (frames_more n a (b ++ c))
    ∙ ap (event_frames n) is

pub three_numbers : (n m k : ℕ) (told a b c : List EventKind) → a ++ (b ++ c) ≡ told → m ≡ number_behind n a → k ≡ number_behind m b
    → number_behind k c ≡ number_behind n told
three_numbers n m k told a b c is second third =
    ap (λ (x : ℕ). number_behind x c) third
    ∙ sym (number_more m b c)
    ∙ ap (λ (x : ℕ). number_behind x (b ++ c)) second
    ∙ sym (number_more n a (b ++ c))
    ∙ ap (number_behind n) is
