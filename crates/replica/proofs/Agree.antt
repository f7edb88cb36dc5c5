-- Lists of touches with the same lines.
use Rattle.std.proofs.Common.{◌≡◌, ℕ, ◌+◌, Bool, true, false, cond, ◌&&◌, ◌||◌, not, List, [], ◌∷◌, ◌++◌, length, refl, sym, ap, ◌∙◌}
use Rattle.std.specs.Prelude.{◌==◌, nat_lt, map, codes, if◌then◌else◌}
use Rattle.std.specs.List.{flat_map, filter, list_any}
use Rattle.std.specs.Fmt.{decimal}
use Rattle.replica.specs.Contradictions.{event_text}
use Rattle.replica.specs.declared.touch.ObjectTouch.{ObjectTouch}
use Rattle.replica.specs.Rising.{rising, having}
use Rattle.replica.specs.Touched.{object_of, thread_of, event_of, version_of}
use Rattle.replica.specs.Versions.{is_write, knew, write_text, reads_text, version_line}
use Rattle.replica.specs.Chosen.{ObjectsAsked, is_shared, is_named, versions_text, header_line, object_lines, lines}
use Rattle.replica.specs.Order.{AreSame}
use Rattle.replica.proofs.Numbers.{rising_agree}

-- ---- lists

pub flat_map_same : {K A : Type 0} (f g : K → List A) → ((k : K) → f k ≡ g k) → (ks : List K) → flat_map f ks ≡ flat_map g ks
flat_map_same f g same [] = refl
flat_map_same f g same (k ∷ ks) = ap (λ l. l ++ flat_map f ks) (same k) ∙ ap (λ l. g k ++ l) (flat_map_same f g same ks)

module _ {X : Type 0} where
  pub any_map : (p : ℕ → Bool) (f : X → ℕ) (xs : List X) → list_any p (map f xs) ≡ list_any (λ x. p (f x)) xs
  any_map p f [] = refl
  any_map p f (x ∷ xs) = ap (λ (b : Bool). p (f x) || b) (any_map p f xs)

  any_filter : (p q : X → Bool) (xs : List X) → list_any p (filter q xs) ≡ list_any (λ x. q x && p x) xs
  any_filter p q [] = refl
  any_filter p q (x ∷ xs) = go (q x) (any_filter p q xs)
    where
      go : (b : Bool) → list_any p (filter q xs) ≡ list_any (λ y. q y && p y) xs → list_any p (cond b (x ∷ filter q xs) (filter q xs)) ≡ ((b && p x) || list_any (λ y. q y && p y) xs)
      go true rest = ap (λ (b : Bool). p x || b) rest
      go false rest = rest

  filter_filter : (p q : X → Bool) (xs : List X) → filter p (filter q xs) ≡ filter (λ x. q x && p x) xs
  filter_filter p q [] = refl
  filter_filter p q (x ∷ xs) = go (q x) (filter_filter p q xs)
    where
      go : (b : Bool) → filter p (filter q xs) ≡ filter (λ y. q y && p y) xs
          → filter p (cond b (x ∷ filter q xs) (filter q xs)) ≡ cond (b && p x) (x ∷ filter (λ y. q y && p y) xs) (filter (λ y. q y && p y) xs)
      go true rest = ap (λ (l : List X). cond (p x) (x ∷ l) l) rest
      go false rest = rest

-- ---- the line of a version

write_agree : (version : ℕ) (p q : ℕ → Bool) → ((n : ℕ) → p n ≡ q n) → (t : ObjectTouch) → write_text version p t ≡ write_text version q t
write_agree version p q same t = ap (λ (b : Bool). codes " written by " ++ event_text (event_of t) ++ (if version == 1 || b then [] else codes " unread")) (same (thread_of t))

pub version_line_agree : (object version : ℕ) (p q : ℕ → Bool) → ((n : ℕ) → p n ≡ q n) → (ts : List ObjectTouch) → version_line object version p ts ≡ version_line object version q ts
version_line_agree object version p q same ts =
    ap (λ (l : List ℕ). decimal object ++ codes "@" ++ decimal version ++ (if list_any is_write ts then l else if version == 0 then [] else codes " write unknown") ++ reads_text ts ++ codes "\n")
    (flat_map_same (write_text version p) (write_text version q) (write_agree version p q same) (filter is_write ts))

-- ---- the lines of an object

record Alike (ts us : List ObjectTouch) : Type 0 where
  any : (p : ObjectTouch → Bool) → list_any p ts ≡ list_any p us
  at : (version : ℕ) → having version_of version ts ≡ having version_of version us

rising_same : (number : ObjectTouch → ℕ) (ts us : List ObjectTouch) → ((p : ObjectTouch → Bool) → list_any p ts ≡ list_any p us) → rising (map number ts) ≡ rising (map number us)
rising_same number ts us any =
    rising_agree (map number ts) (map number us) (λ (q : ℕ). any_map (λ n. n == q) number ts ∙ any (λ t. number t == q) ∙ sym (any_map (λ n. n == q) number us))

shared_alike : (ts us : List ObjectTouch) → Alike ts us → is_shared ts ≡ is_shared us
shared_alike ts us h =
    ap (λ (ns : List ℕ). nat_lt 1 (length ns) && list_any is_write ts) (rising_same thread_of ts us h.any)
    ∙ ap (λ (b : Bool). nat_lt 1 (length (rising (map thread_of us))) && b) (h.any is_write)

versions_alike : (object : ℕ) (ts us : List ObjectTouch) → Alike ts us → versions_text object ts ≡ versions_text object us
versions_alike object ts us h =
    let first : ℕ → List ℕ = λ (v : ℕ). version_line object v (knew ts v) (having version_of v ts) in
    let second : ℕ → List ℕ = λ (v : ℕ). version_line object v (knew us v) (having version_of v us) in
    flat_map_same first second
    (λ (v : ℕ). version_line_agree object v (knew ts v) (knew us v) (λ thread. h.any (λ t. thread_of t == thread && version_of t + 1 == v)) (having version_of v ts)
    ∙ ap (λ (l : List ObjectTouch). version_line object v (knew us v) l) (h.at v))
    (rising (map version_of ts))
    ∙ ap (flat_map second) (rising_same version_of ts us h.any)

object_alike : (choice : ObjectsAsked) (text : ℕ → List ℕ) (object : ℕ) (ts us : List ObjectTouch) → Alike ts us → object_lines choice text object ts ≡ object_lines choice text object us
object_alike choice text object ts us h =
    let lines_by : Bool → List ℕ → List ℕ =
    λ (b : Bool) (l : List ℕ). if is_named choice.only object && (not choice.shared || b) then header_line text object ++ l else [] in
    ap (λ (b : Bool). lines_by b (versions_text object ts)) (shared_alike ts us h) ∙ ap (lines_by (is_shared us)) (versions_alike object ts us h)

-- ---- the lines of all objects

alike_of : (ts us : List ObjectTouch) → AreSame ts us → (object : ℕ) → Alike (having object_of object ts) (having object_of object us)
alike_of ts us h object =
    let of : ObjectTouch → Bool = λ (t : ObjectTouch). object_of t == object in
    record {
      any = λ (p : ObjectTouch → Bool). any_filter p of ts ∙ h.any (λ t. of t && p t) ∙ sym (any_filter p of us);
      at = λ (version : ℕ). filter_filter (λ t. version_of t == version) of ts ∙ h.at object version ∙ sym (filter_filter (λ t. version_of t == version) of us);
    }

pub lines_same : (choice : ObjectsAsked) (text : ℕ → List ℕ) (ts us : List ObjectTouch) → AreSame ts us → lines choice text ts ≡ lines choice text us
lines_same choice text ts us h =
    let first : ℕ → List ℕ = λ (o : ℕ). object_lines choice text o (having object_of o ts) in
    let second : ℕ → List ℕ = λ (o : ℕ). object_lines choice text o (having object_of o us) in
    flat_map_same first second (λ (o : ℕ). object_alike choice text o (having object_of o ts) (having object_of o us) (alike_of ts us h o)) (rising (map object_of ts))
    ∙ ap (flat_map second) (rising_same object_of ts us h.any)
