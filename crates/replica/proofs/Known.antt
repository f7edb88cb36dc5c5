-- The touches of an object before a version, of which the last ones alone can be of the version before it.
use Rattle.std.proofs.Common.{◌≡◌, ℕ, ◌+◌, ◌<◌, ◌≤◌, Bool, true, false, ◌&&◌, ◌||◌, List, [], ◌∷◌, ◌++◌, refl, sym, ap, ◌∙◌, arith, append_assoc}
use Rattle.std.specs.Prelude.{◌==◌}
use Rattle.std.specs.List.{AllByRecursion}
use Rattle.std.proofs.lemmas.Bool.{ne_eqb}
use Rattle.std.proofs.lemmas.List.Folds.{list_any-append}
use Rattle.replica.specs.declared.touch.ObjectTouch.{ObjectTouch}
use Rattle.replica.specs.Touched.{thread_of, version_of}
use Rattle.replica.specs.Versions.{knew}
use Rattle.replica.specs.Order.{Rises}
use Rattle.replica.proofs.Groups.{all_implied}
use Rattle.replica.proofs.Fronts.{IsFront}

-- of the touches, those behind the ones of a version, and the others by rising version
pub record Seen (touches before rest : List ObjectTouch) : Type 0 where
  pub done : List ObjectTouch
  pub low : ℕ
  pub whole : touches ≡ done ++ (before ++ rest)
  pub done_below : AllByRecursion (λ t. version_of t + 1 < low) done
  pub before_below : AllByRecursion (λ t. version_of t < low) before
  pub rest_above : AllByRecursion (λ t. low ≤ version_of t) rest
  pub rises : Rises version_of rest

all_any : (ts : List ObjectTouch) → AllByRecursion (λ t. 0 ≤ version_of t) ts
all_any [] = tt
all_any (t ∷ ts) = (omega arith, all_any ts)

pub seen_none : (touches : List ObjectTouch) → Rises version_of touches → Seen touches [] touches
seen_none touches up = record { done = []; low = 0; whole = refl; done_below = tt; before_below = tt; rest_above = all_any touches; rises = up }

and_false : (b : Bool) → (b && false) ≡ false
and_false true = refl
and_false false = refl

none_known : (v thread : ℕ) (ts : List ObjectTouch) → AllByRecursion (λ t. version_of t + 1 ≡ v → ⊥) ts → knew ts v thread ≡ false
none_known v thread [] h = refl
none_known v thread (t ∷ ts) h =
    ap (λ (b : Bool). (thread_of t == thread && b) || knew ts v thread) (ne_eqb (version_of t + 1) v h.0)
    ∙ ap (λ (b : Bool). b || knew ts v thread) (and_false (thread_of t == thread)) ∙ none_known v thread ts h.1

or_false : (b : Bool) → (b || false) ≡ b
or_false true = refl
or_false false = refl

all_rising : (v : ℕ) (t : ObjectTouch) (ts : List ObjectTouch) → version_of t ≡ v → Rises version_of (t ∷ ts) → AllByRecursion (λ u. version_of u + 1 ≡ v → ⊥) (t ∷ ts)
all_rising v t ts is up =
    (λ (e : version_of t + 1 ≡ v). omega arith, all_implied version_of (λ u. version_of t ≤ version_of u) (λ u. version_of u + 1 ≡ v → ⊥) ts (λ u (h : version_of t ≤ version_of u) (e : version_of u + 1 ≡ v). omega arith) up.0)

-- a thread knew the version before one, by all touches and by those just before
pub seen_knew : (touches before : List ObjectTouch) (t : ObjectTouch) (ts : List ObjectTouch) → Seen touches before (t ∷ ts) → (thread : ℕ) → knew before (version_of t) thread ≡ knew touches (version_of t) thread
seen_knew touches before t ts h thread =
    let v = version_of t in
    let test : ObjectTouch → Bool = λ (u : ObjectTouch). thread_of u == thread && version_of u + 1 == v in
    let least : h.low ≤ v = h.rest_above.0 in
    let first : knew h.done v thread ≡ false = none_known v thread h.done (all_implied version_of (λ u. version_of u + 1 < h.low) (λ u. version_of u + 1 ≡ v → ⊥) h.done (λ u (lt : version_of u + 1 < h.low) (e : version_of u + 1 ≡ v). omega arith) h.done_below) in
    let last : knew (t ∷ ts) v thread ≡ false = none_known v thread (t ∷ ts) (all_rising v t ts refl h.rises) in
    sym (ap (λ (l : List ObjectTouch). knew l v thread) h.whole ∙ list_any-append test h.done (before ++ t ∷ ts) ∙ ap (λ (b : Bool). b || knew (before ++ t ∷ ts) v thread) first
    ∙ list_any-append test before (t ∷ ts) ∙ ap (λ (b : Bool). knew before v thread || b) last ∙ or_false (knew before v thread))

all_append : (P : ObjectTouch → Type 0) (xs ys : List ObjectTouch) → AllByRecursion P xs → AllByRecursion P ys → AllByRecursion P (xs ++ ys)
all_append P [] ys g h = h
all_append P (x ∷ xs) ys g h = (g.0, all_append P xs ys g.1 h)

-- one version more
pub seen_more : (touches before : List ObjectTouch) (t : ObjectTouch) (ts front back : List ObjectTouch) → Seen touches before (t ∷ ts) → IsFront version_of (version_of t) (t ∷ ts) front back → Seen touches front back
seen_more touches before t ts front back h parts =
    let v = version_of t in
    let least : h.low ≤ v = h.rest_above.0 in
    record {
      done = h.done ++ before;
      low = v + 1;
      whole = h.whole ∙ ap (λ (l : List ObjectTouch). h.done ++ (before ++ l)) parts.parts ∙ sym (append_assoc h.done before (front ++ back));
      done_below = all_append (λ u. version_of u + 1 < v + 1) h.done before
          (all_implied version_of (λ u. version_of u + 1 < h.low) (λ u. version_of u + 1 < v + 1) h.done (λ u (lt : version_of u + 1 < h.low). omega arith) h.done_below)
          (all_implied version_of (λ u. version_of u < h.low) (λ u. version_of u + 1 < v + 1) before (λ u (lt : version_of u < h.low). omega arith) h.before_below);
      before_below = all_implied version_of (λ u. version_of u ≡ v) (λ u. version_of u < v + 1) front (λ u (is : version_of u ≡ v). omega arith) parts.same;
      rest_above = all_implied version_of (λ u. v < version_of u) (λ u. v + 1 ≤ version_of u) back (λ u (lt : v < version_of u). omega arith) parts.above;
      rises = parts.rises;
    }
