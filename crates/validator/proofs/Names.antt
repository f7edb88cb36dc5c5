-- The names of exports: which were seen, and the map that has their numbers.
use Rattle.std.proofs.Common.{◌≡◌, ℕ, zero, suc, ◌+◌, ◌<◌, Bool, true, false, List, [], ◌∷◌, ◌++◌, Option, Some, None, refl, sym, ◌∙◌, ap, subst, take, drop, length, get_or, length-take, arith, Global, cond, ◌&&◌, ◌||◌, not, if◌then◌else◌, drop-cons, String, string_bytes, string_eq}
use Rattle.std.specs.Prelude.{is_none, is_some}
use Rattle.std.specs.List.{list_any, position_from}
use Rattle.std.specs.Str.{IsUtf8, bytes_eq}
use Rattle.std.proofs.lemmas.Slice.Eq.{bytes_eq-Decides}
use Rattle.std.proofs.lemmas.List.{take-append-drop}
use Rattle.std.proofs.lemmas.List.Quantifiers.{position-Some}
use Rattle.std.proofs.lemmas.Iterator.Adapters.{position_from-zero}
use Rattle.std.proofs.Math.Seq.{take-suc}
use Rattle.indexmap.specs.IndexMap.{insert_entry}
use Rattle.wasm_types.specs.declared.modules.Export.{Export}
use Rattle.validator.specs.Exports.{function_index, found_by, find_export, distinct, only_some, exported_function, value_of, number_of, AreNames, PutsNumber}

abbrev pub Entry : Type 0
Entry = String Global × ℕ

abbrev pub put : {X : Type 0} → Bool → X → Option X → Option X
put b x others = cond b (Some x) others

-- what the map has at a name once another was put in
pub value_put : (name : List ℕ) (es : List Entry) (k : String Global) (v : ℕ) → value_of (insert_entry string_eq es k v) name ≡ put (bytes_eq name (string_bytes k)) v (value_of es name)
value_put name [] k v = refl
value_put name (e ∷ es) k v = by (string_eq k e.0) refl (value_put name es k v)
  where
    over : (b : Bool) (x : ℕ) (rest : Option ℕ) → put b v rest ≡ put b v (put b x rest)
    over true x rest = refl
    over false x rest = refl

    apart : string_eq k e.0 ≡ false → bytes_eq name (string_bytes k) ≡ true → bytes_eq name (string_bytes e.0) ≡ true → ⊥
    apart q p r = let same = (bytes_eq-Decides (string_bytes k) (string_bytes e.0)).1 (sym ((bytes_eq-Decides name (string_bytes k)).0 p) ∙ (bytes_eq-Decides name (string_bytes e.0)).0 r) in let f : true ≡ false = sym same ∙ q in cc

    swap : (b c : Bool) → string_eq k e.0 ≡ false → bytes_eq name (string_bytes e.0) ≡ b → bytes_eq name (string_bytes k) ≡ c → put b e.1 (put c v (value_of es name)) ≡ put c v (put b e.1 (value_of es name))
    swap true true q p r = absurd (apart q r p)
    swap true false q p r = refl
    swap false true q p r = refl
    swap false false q p r = refl

    by : (b : Bool) → string_eq k e.0 ≡ b → value_of (insert_entry string_eq es k v) name ≡ put (bytes_eq name (string_bytes k)) v (value_of es name)
        → value_of (if b then (e.0, v) ∷ es else e ∷ insert_entry string_eq es k v) name ≡ put (bytes_eq name (string_bytes k)) v (value_of (e ∷ es) name)
    by true q rest =
        let same : string_bytes k ≡ string_bytes e.0 = (bytes_eq-Decides (string_bytes k) (string_bytes e.0)).0 q in
        over (bytes_eq name (string_bytes e.0)) e.1 (value_of es name)
        ∙ ap (λ x. put (bytes_eq name x) v (put (bytes_eq name (string_bytes e.0)) e.1 (value_of es name))) (sym same)
    by false q rest =
        ap (put (bytes_eq name (string_bytes e.0)) e.1) rest
        ∙ swap (bytes_eq name (string_bytes e.0)) (bytes_eq name (string_bytes k)) q refl refl

same_name : (a b : List ℕ) → bytes_eq a b ≡ bytes_eq b a
same_name a b = by (bytes_eq a b) (bytes_eq b a) refl refl
  where
    by : (x y : Bool) → bytes_eq a b ≡ x → bytes_eq b a ≡ y → bytes_eq a b ≡ bytes_eq b a
    by true true p q = p ∙ sym q
    by false false p q = p ∙ sym q
    by true false p q = let r = (bytes_eq-Decides b a).1 (sym ((bytes_eq-Decides a b).0 p)) in cc
    by false true p q = let r = (bytes_eq-Decides a b).1 (sym ((bytes_eq-Decides b a).0 q)) in cc

is_none_is : {X : Type 0} (o : Option X) → is_none o ≡ true → o ≡ None
is_none_is None h = refl
is_none_is (Some x) h = cc

both_are : (a b : Bool) → (a && b) ≡ true → (a ≡ true) × (b ≡ true)
both_are true b h = (refl, h)
both_are false b h = cc

not_first : (name : List ℕ) (x : Export) (xs : List Export) → find_export name (x ∷ xs) ≡ None → (bytes_eq name x.name ≡ false) × (find_export name xs ≡ None)
not_first name x xs h = by (bytes_eq name x.name) refl h
  where
    by : (b : Bool) → bytes_eq name x.name ≡ b → found_by b (function_index x.kind x.index) (find_export name xs) ≡ None → (bytes_eq name x.name ≡ false) × (find_export name xs ≡ None)
    by true q h = cc
    by false q h = (q, h)

at_end : (name : List ℕ) (xs : List Export) (e : Export) → bytes_eq name e.name ≡ true → find_export name xs ≡ None → find_export name (xs ++ e ∷ []) ≡ Some (function_index e.kind e.index)
at_end name [] e q h = ap (λ b. found_by b (function_index e.kind e.index) None) q
at_end name (x ∷ xs) e q h = let n = not_first name x xs h in ap (λ b. found_by b (function_index x.kind x.index) (find_export name (xs ++ e ∷ []))) n.0 ∙ at_end name xs e q n.1

behind : (name : List ℕ) (xs : List Export) (e : Export) → bytes_eq name e.name ≡ false → find_export name (xs ++ e ∷ []) ≡ find_export name xs
behind name [] e q = ap (λ b. found_by b (function_index e.kind e.index) None) q
behind name (x ∷ xs) e q = ap (found_by (bytes_eq name x.name) (function_index x.kind x.index)) (behind name xs e q)

-- a new name behind distinct ones
distinct_more : (xs : List Export) (e : Export) → distinct xs ≡ true → find_export e.name xs ≡ None → distinct (xs ++ e ∷ []) ≡ true
distinct_more [] e d h = refl
distinct_more (x ∷ xs) e d h =
    let b = both_are (is_none (find_export x.name xs)) (distinct xs) d in
    let n = not_first e.name x xs h in
    ap (λ o. is_none o && distinct (xs ++ e ∷ [])) (behind x.name xs e (same_name x.name e.name ∙ n.0) ∙ is_none_is (find_export x.name xs) b.0)
    ∙ distinct_more xs e b.1 n.1

there : (name : List ℕ) (xs rest : List Export) (e : Export) → bytes_eq name e.name ≡ true → is_none (find_export name (xs ++ e ∷ rest)) ≡ false
there name [] rest e q = ap (λ b. is_none (found_by b (function_index e.kind e.index) (find_export name rest))) q
there name (x ∷ xs) rest e q = by (bytes_eq name x.name) (there name xs rest e q)
  where
    by : (b : Bool) → is_none (find_export name (xs ++ e ∷ rest)) ≡ false → is_none (found_by b (function_index x.kind x.index) (find_export name (xs ++ e ∷ rest))) ≡ false
    by true k = refl
    by false k = k

and_false : (a : Bool) → (a && false) ≡ false
and_false true = refl
and_false false = refl

-- a name that was there is there twice
twice : (xs rest : List Export) (e : Export) (v : Option ℕ) → find_export e.name xs ≡ Some v → distinct (xs ++ e ∷ rest) ≡ false
twice [] rest e v h = cc
twice (x ∷ xs) rest e v h = by (bytes_eq e.name x.name) refl h (λ k. twice xs rest e v k)
  where
    by : (b : Bool) → bytes_eq e.name x.name ≡ b → found_by b (function_index x.kind x.index) (find_export e.name xs) ≡ Some v → (find_export e.name xs ≡ Some v → distinct (xs ++ e ∷ rest) ≡ false)
        → (is_none (find_export x.name (xs ++ e ∷ rest)) && distinct (xs ++ e ∷ rest)) ≡ false
    by true q h k = ap (λ b. b && distinct (xs ++ e ∷ rest)) (there x.name xs rest e (same_name x.name e.name ∙ q))
    by false q h k = ap (λ b. is_none (find_export x.name (xs ++ e ∷ rest)) && b) (k h) ∙ and_false (is_none (find_export x.name (xs ++ e ∷ rest)))

-- what a name comes to with one export more, whose own name is new
find_more : (name : List ℕ) (xs : List Export) (e : Export) → find_export e.name xs ≡ None → find_export name (xs ++ e ∷ []) ≡ put (bytes_eq name e.name) (function_index e.kind e.index) (find_export name xs)
find_more name xs e h = by (bytes_eq name e.name) refl
  where
    by : (b : Bool) → bytes_eq name e.name ≡ b → find_export name (xs ++ e ∷ []) ≡ put b (function_index e.kind e.index) (find_export name xs)
    by true q = at_end name xs e q (ap (λ x. find_export x xs) ((bytes_eq-Decides name e.name).0 q) ∙ h)
    by false q = behind name xs e q

one_more : (exports : List Export) (count : ℕ) (e : Export) → count < length exports → get_or exports count e ≡ e → take (count + 1) exports ≡ take count exports ++ e ∷ []
one_more exports count e l g =
    ap (λ n. take n exports) (let q : count + 1 ≡ suc count = omega arith in q) ∙ take-suc exports count e l ∙ ap (λ x. take count exports ++ x ∷ []) g

is_some_none : {X : Type 0} (o : Option X) → is_some o ≡ false → o ≡ None
is_some_none None h = refl
is_some_none (Some x) h = cc

any_push : {K : Type 0} (test : K → Bool) (keys : List K) (k : K) → list_any test (keys ++ k ∷ []) ≡ (test k || list_any test keys)
any_push test [] k = refl
any_push test (x ∷ xs) k = ap (λ b. test x || b) (any_push test xs k) ∙ turn (test x) (test k) (list_any test xs)
  where
    turn : (a b c : Bool) → (a || (b || c)) ≡ (b || (a || c))
    turn true true c = refl
    turn true false c = refl
    turn false true c = refl
    turn false false c = refl

some_put : {X : Type 0} (b : Bool) (x : X) (o : Option X) → is_some (put b x o) ≡ (b || is_some o)
some_put true x o = refl
some_put false x o = refl

is_none_not : {X : Type 0} (o : Option X) → is_none o ≡ false → is_some o ≡ true
is_none_not None h = cc
is_none_not (Some x) h = refl

found_twice : (exports : List Export) (count : ℕ) (e : Export) → count < length exports → get_or exports count e ≡ e → is_some (find_export e.name (take count exports)) ≡ true → distinct exports ≡ false
found_twice exports count e l g h = by (find_export e.name (take count exports)) refl h
  where
    d : drop count exports ≡ e ∷ drop (suc count) exports
    d = drop-cons exports count e l ∙ ap (λ x. x ∷ drop (suc count) exports) g

    by : (o : Option (Option ℕ)) → find_export e.name (take count exports) ≡ o → is_some o ≡ true → distinct exports ≡ false
    by None q k = cc
    by (Some v) q k = ap distinct (sym (take-append-drop count exports) ∙ ap (λ x. take count exports ++ x) d) ∙ twice (take count exports) (drop (suc count) exports) e v q

pub was_there : (there added : Bool) → added ≡ not there → added ≡ false → there ≡ true
was_there true added h k = refl
was_there false true h k = cc
was_there false false h k = cc

pub was_new : (there added : Bool) → added ≡ not there → added ≡ true → there ≡ false
was_new true true h k = cc
was_new true false h k = cc
was_new false added h k = refl

pub pushed : {K : Type 0} (there : Bool) (keys : List K) (k : K) → there ≡ false → (if there then keys else keys ++ k ∷ []) ≡ keys ++ k ∷ []
pushed true keys k h = cc
pushed false keys k h = refl

-- a name has a number where an export has it
has_number_from : (name : List ℕ) (first : ℕ) (xs : List Export) → is_some (position_from (λ x. bytes_eq name x.name) first xs) ≡ is_some (find_export name xs)
has_number_from name first [] = refl
has_number_from name first (x ∷ xs) = by (bytes_eq name x.name) (has_number_from name (first + 1) xs)
  where
    by : (b : Bool) → is_some (position_from (λ y. bytes_eq name y.name) (first + 1) xs) ≡ is_some (find_export name xs)
        → is_some (cond b (Some first) (position_from (λ y. bytes_eq name y.name) (first + 1) xs)) ≡ is_some (found_by b (function_index x.kind x.index) (find_export name xs))
    by true k = refl
    by false k = k

has_number : (name : List ℕ) (xs : List Export) → is_some (number_of xs name) ≡ is_some (find_export name xs)
has_number name xs = ap is_some (position_from-zero (λ (x : Export). bytes_eq name x.name) xs) ∙ has_number_from name 0 xs

-- the number of a name with one export more, whose own name is new
number_from_more : (name : List ℕ) (first : ℕ) (xs : List Export) (e : Export) → (bytes_eq name e.name ≡ true → find_export name xs ≡ None)
    → position_from (λ x. bytes_eq name x.name) first (xs ++ e ∷ []) ≡ put (bytes_eq name e.name) (first + length xs) (position_from (λ x. bytes_eq name x.name) first xs)
number_from_more name first [] e new = ap (λ n. put (bytes_eq name e.name) n None) (let q : first ≡ first + 0 = omega arith in q)
number_from_more name first (x ∷ xs) e new = by (bytes_eq name x.name) (bytes_eq name e.name) refl refl (number_from_more name (first + 1) xs e)
  where
    by : (b c : Bool) → bytes_eq name x.name ≡ b → bytes_eq name e.name ≡ c
        → ((bytes_eq name e.name ≡ true → find_export name xs ≡ None) → position_from (λ y. bytes_eq name y.name) (first + 1) (xs ++ e ∷ []) ≡ put (bytes_eq name e.name) (first + 1 + length xs) (position_from (λ y. bytes_eq name y.name) (first + 1) xs))
        → cond b (Some first) (position_from (λ y. bytes_eq name y.name) (first + 1) (xs ++ e ∷ [])) ≡ put (bytes_eq name e.name) (first + suc (length xs)) (cond b (Some first) (position_from (λ y. bytes_eq name y.name) (first + 1) xs))
    by true true q r rest = let n = not_first name x xs (new r) in let f : true ≡ false = sym q ∙ n.0 in cc
    by true false q r rest = sym (ap (λ c. put c (first + suc (length xs)) (Some first)) r)
    by false c q r rest =
        rest (λ t. (not_first name x xs (new t)).1)
        ∙ ap (λ n. put (bytes_eq name e.name) n (position_from (λ y. bytes_eq name y.name) (first + 1) xs)) (let s : first + 1 + length xs ≡ first + suc (length xs) = omega arith in s)

number_more : (name : List ℕ) (xs : List Export) (e : Export) → find_export e.name xs ≡ None → number_of (xs ++ e ∷ []) name ≡ put (bytes_eq name e.name) (length xs) (number_of xs name)
number_more name xs e new =
    position_from-zero (λ (x : Export). bytes_eq name x.name) (xs ++ e ∷ [])
    ∙ number_from_more name 0 xs e (λ q. ap (λ x. find_export x xs) ((bytes_eq-Decides name e.name).0 q) ∙ new)
    ∙ ap (λ n. put (bytes_eq name e.name) n (position_from (λ x. bytes_eq name x.name) 0 xs)) (let s : 0 + length xs ≡ length xs = omega arith in s)
    ∙ ap (put (bytes_eq name e.name) (length xs)) (sym (position_from-zero (λ (x : Export). bytes_eq name x.name) xs))

-- the first export of a name
found_at : (name : List ℕ) (xs : List Export) (number : ℕ) (d : Export) → number < length xs → bytes_eq name (get_or xs number d).name ≡ true
    → ((k : ℕ) → k < number → bytes_eq name (get_or xs k d).name ≡ false) → find_export name xs ≡ Some (function_index (get_or xs number d).kind (get_or xs number d).index)
found_at name [] number d l q before = absurd (omega arith)
found_at name (x ∷ xs) zero d l q before = ap (λ b. found_by b (function_index x.kind x.index) (find_export name xs)) q
found_at name (x ∷ xs) (suc number) d l q before =
    ap (λ b. found_by b (function_index x.kind x.index) (find_export name xs)) (before 0 (omega arith))
    ∙ found_at name xs number d (omega arith) q (λ k j. before (suc k) (omega arith))

-- the function of the export at a name's number
pub exported_at : (exports : List Export) (name : List ℕ) (number : ℕ) (e : Export) → number_of exports name ≡ Some number → e ≡ get_or exports number e → exported_function exports name ≡ function_index e.kind e.index
exported_at exports name number e p g =
    let s = position-Some (λ x. bytes_eq name x.name) exports number e p in
    ap only_some (found_at name exports number e s.0 s.1 s.2) ∙ ap (λ x. function_index x.kind x.index) (sym g)

pub number_within : (exports : List Export) (name : List ℕ) (number : ℕ) → number_of exports name ≡ Some number → number < length exports
number_within [] name number p = cc
number_within (x ∷ xs) name number p = (position-Some (λ y. bytes_eq name y.name) (x ∷ xs) number x p).0

pub exported_nowhere : (exports : List Export) (name : List ℕ) → number_of exports name ≡ None → exported_function exports name ≡ None
exported_nowhere exports name p = ap only_some (is_some_none (find_export name exports) (sym (has_number name exports) ∙ ap is_some p))

apart : (a b : List ℕ) → (a ≡ b → ⊥) → bytes_eq a b ≡ false
apart a b unlike = by (bytes_eq a b) refl
  where
    by : (c : Bool) → bytes_eq a b ≡ c → bytes_eq a b ≡ false
    by true q = absurd (unlike ((bytes_eq-Decides a b).0 q))
    by false q = q

-- the exports so far have names of their own: the map has the texts' numbers, and the set the other names
pub record Noted {K : Type 0} (bytes : K → List ℕ) (names : List Entry) (others : List K) (exports : List Export) : Type 0 where
  pub texts : AreNames names exports
  pub other_names : (name : List ℕ) → (IsUtf8 name → ⊥) → list_any (λ k. bytes_eq name (bytes k)) others ≡ is_some (find_export name exports)
  pub distinct_names : distinct exports ≡ true

module _ {K : Type 0} (bytes : K → List ℕ) (names : List Entry) (others : List K) (exports : List Export) (count : ℕ) (e : Export) where
  text_is_there : Noted bytes names others (take count exports) → IsUtf8 e.name → is_some (find_export e.name (take count exports)) ≡ is_some (value_of names e.name)
  text_is_there n u = sym (has_number e.name (take count exports)) ∙ ap is_some (sym (n.texts e.name u))

  pub text_next : count < length exports → get_or exports count e ≡ e → Noted bytes names others (take count exports) → IsUtf8 e.name → (later : List Entry) → PutsNumber names e.name count later
      → is_none (value_of names e.name) ≡ true → Noted bytes later others (take (count + 1) exports)
  text_next l g n u later puts new =
      let t = one_more exports count e l g in
      let f = is_some_none (find_export e.name (take count exports)) (text_is_there n u ∙ ap is_some (is_none_is (value_of names e.name) new)) in
      subst (Noted bytes later others) (sym t)
      (record {
        texts = λ name v.
            puts name ∙ ap (put (bytes_eq name e.name) count) (n.texts name v)
            ∙ ap (λ x. put (bytes_eq name e.name) x (number_of (take count exports) name)) (let q : count ≡ length (take count exports) = omega (arith, length-take count exports) in q)
            ∙ sym (number_more name (take count exports) e f);
        other_names = λ name raw. n.other_names name raw ∙ ap is_some (sym (behind name (take count exports) e (apart name e.name (λ q. raw (subst IsUtf8 (sym q) u)))));
        distinct_names = distinct_more (take count exports) e n.distinct_names f;
      })

  pub text_twice : count < length exports → get_or exports count e ≡ e → Noted bytes names others (take count exports) → IsUtf8 e.name → is_none (value_of names e.name) ≡ false → distinct exports ≡ false
  text_twice l g n u h = found_twice exports count e l g (text_is_there n u ∙ is_none_not (value_of names e.name) h)

  other_is_there : Noted bytes names others (take count exports) → (IsUtf8 e.name → ⊥) → (k : K) → bytes k ≡ e.name
      → is_some (find_export e.name (take count exports)) ≡ list_any (λ x. bytes_eq (bytes k) (bytes x)) others
  other_is_there n raw k ks = sym (n.other_names e.name raw) ∙ ap (λ name. list_any (λ x. bytes_eq name (bytes x)) others) (sym ks)

  pub other_next : count < length exports → get_or exports count e ≡ e → Noted bytes names others (take count exports) → (IsUtf8 e.name → ⊥) → (k : K) → bytes k ≡ e.name → (later : List K) → later ≡ others ++ k ∷ []
      → list_any (λ x. bytes_eq (bytes k) (bytes x)) others ≡ false → Noted bytes names later (take (count + 1) exports)
  other_next l g n raw k ks later p new =
      let t = one_more exports count e l g in
      let f = is_some_none (find_export e.name (take count exports)) (other_is_there n raw k ks ∙ new) in
      subst (Noted bytes names later) (sym t)
      (record {
        texts = λ name v.
            n.texts name v
            ∙ sym (number_more name (take count exports) e f ∙ ap (λ b. put b (length (take count exports)) (number_of (take count exports) name)) (apart name e.name (λ q. raw (subst IsUtf8 q v))));
        other_names = λ name other.
            ap (list_any (λ x. bytes_eq name (bytes x))) p ∙ any_push (λ x. bytes_eq name (bytes x)) others k
            ∙ ap (λ x. bytes_eq name x || list_any (λ y. bytes_eq name (bytes y)) others) ks ∙ ap (λ b. bytes_eq name e.name || b) (n.other_names name other)
            ∙ sym (some_put (bytes_eq name e.name) (function_index e.kind e.index) (find_export name (take count exports)))
            ∙ ap is_some (sym (find_more name (take count exports) e f));
        distinct_names = distinct_more (take count exports) e n.distinct_names f;
      })

  pub other_twice : count < length exports → get_or exports count e ≡ e → Noted bytes names others (take count exports) → (IsUtf8 e.name → ⊥) → (k : K) → bytes k ≡ e.name
      → list_any (λ x. bytes_eq (bytes k) (bytes x)) others ≡ true → distinct exports ≡ false
  other_twice l g n raw k ks h = found_twice exports count e l g (other_is_there n raw k ks ∙ h)

pub same_noted : {K : Type 0} (bytes : K → List ℕ) (names later : List Entry) (others more : List K) (exports : List Export) → later ≡ names → more ≡ others → Noted bytes names others exports → Noted bytes later more exports
same_noted bytes names later others more exports p q n = subst (λ x. Noted bytes later x exports) (sym q) (subst (λ x. Noted bytes x others exports) (sym p) n)

-- the map with a number put at a name
pub puts_number : (names later : List Entry) (name : List ℕ) (k : String Global) (number : ℕ) → string_bytes k ≡ name → later ≡ insert_entry string_eq names k number → PutsNumber names name number later
puts_number names later name k number ks p = λ text.
    ap (λ x. value_of x text) p ∙ value_put text names k number ∙ ap (λ x. put (bytes_eq text x) number (value_of names text)) ks
