-- A plan that was read suits the module.
use Rattle.std.proofs.Common.{◌≡◌, ℕ, suc, subst, lit<, ◌+◌, ◌-◌, ◌^◌, ◌<◌, ◌≤◌, Bool, true, false, List, [], ◌∷◌, length, take, map, refl, ap, ◌∙◌, arith}
use Rattle.std.specs.Prelude.{Result, Ok, Err, Option, Some, None, ℤ, pos, negsuc, All, option_map, nat_lt, not, ◌&&◌, codes, cond, min}
use Rattle.std.specs.Str.{bytes_eq}
use Rattle.std.specs.Str.Parse.{signed_digits_value}
use Rattle.std.proofs.lemmas.Bool.{ltb-true, lt-ltb}
use Rattle.std.proofs.lemmas.Option.{cond_some}
use Rattle.std.proofs.lemmas.List.{length-take}
use Rattle.std.proofs.lemmas.List.Elements.{All-cons}
use Rattle.wasm_types.specs.declared.value.ValType.{ValType}
use Rattle.wasm_types.specs.declared.value.ValType.TheVariants as type
use Rattle.wasm_types.specs.declared.value.Value.{Value}
use Rattle.wasm_types.specs.declared.value.Value.TheVariants.{I32, I64}
use Rattle.wasm_types.specs.declared.modules.Module.{Module}
use Rattle.wasm_types.specs.declared.modules.FuncType.{FuncType}
use Rattle.validator.specs.Context.{function_type}
use Rattle.validator.specs.Exports.{exported_function}
use Rattle.thread_plan.specs.declared.planned_thread.PlannedThread.{PlannedThread}
use Rattle.thread_plan.specs.Refusals.{Refusal, BadLine, NotShared, SegmentOutOfBounds}
use Rattle.text_lines.specs.Parts.{words, lines}
use Rattle.text_lines.specs.Integers.{bits_of}
use Rattle.thread_plan.specs.Arguments.{value_of, both, values_of}
use Rattle.wasm_types.specs.Memories.{allows_threads}
use Rattle.wasm_types.specs.Segments.{segments_fit}
use Rattle.thread_plan.specs.Threads.{form_of, values_by, thread_by, called, judged, thread_at}
use Rattle.wasm_types.specs.Values.{type_of}
use Rattle.thread_plan.specs.Plans.{PlanValue, and_then, threads_from, at_most_16, threads_of, threads_in, planned, plan_of, IsThreadOf, IsPlanOf, IsInRange}

ok_is : {X : Type 0} (s t : X) → (let r : Result X Refusal = Ok s in r ≡ Ok t) → s ≡ t
ok_is s t e = cc

some_is : {X : Type 0} (s t : X) → (let o : Option X = Some s in o ≡ Some t) → s ≡ t
some_is s t e = cc

map_some : {X Y : Type 0} (f : X → Y) (o : Option X) (y : Y) → option_map f o ≡ Some y → (x : X) × (o ≡ Some x) × (f x ≡ y)
map_some f None y e = absurd cc
map_some f (Some x) y e = (x, refl, cc)

bits_below : (n : ℕ) (z : ℤ) (bits : ℕ) → 0 < 2 ^ n → bits_of n z ≡ Some bits → bits < 2 ^ n
bits_below n (pos number) bits some e = let p = cond_some (nat_lt number (2 ^ n)) number bits e in let below = ltb-true _ _ p.0 in omega arith
bits_below n (negsuc number) bits some e = let p = cond_some (nat_lt number (2 ^ (n - 1))) (2 ^ n - suc number) bits e in omega arith

value_fits : (t : ValType) (z : ℤ) (value : Value) → value_of t z ≡ Some value → (type_of value ≡ t) × IsInRange value
value_fits type.I32 z value e =
    let m = map_some (λ bits. I32 bits) (bits_of 32 z) value e in
    subst (λ (v : Value). (type_of v ≡ type.I32) × IsInRange v) m.2 (refl, bits_below 32 z m.0 (lit< tt) m.1)
value_fits type.I64 z value e =
    let m = map_some (λ bits. I64 bits) (bits_of 64 z) value e in
    subst (λ (v : Value). (type_of v ≡ type.I64) × IsInRange v) m.2 (refl, bits_below 64 z m.0 (lit< tt) m.1)

both_some : (o : Option Value) (os : Option (List Value)) (values : List Value) → both o os ≡ Some values → (v : Value) × (vs : List Value) × (o ≡ Some v) × (os ≡ Some vs) × (v ∷ vs ≡ values)
both_some None os values e = absurd cc
both_some (Some v) None values e = absurd cc
both_some (Some v) (Some vs) values e = (v, vs, refl, refl, cc)

-- values of these types
abbrev Suit : List ValType → List Value → Type 0
Suit ts values = (map type_of values ≡ ts) × All IsInRange values

suit_more : (t : ValType) (ts : List ValType) (v : Value) (vs : List Value) → (type_of v ≡ t) × IsInRange v → Suit ts vs → Suit (t ∷ ts) (v ∷ vs)
suit_more t ts v vs one others = (ap (λ u. u ∷ map type_of vs) one.0 ∙ ap (λ us. t ∷ us) others.0, All-cons IsInRange v vs one.1 others.1)

values_fit : (ts : List ValType) (texts : List (List ℕ)) (values : List Value) → values_of ts texts ≡ Some values → Suit ts values
values_fit [] [] values e = subst (λ (vs : List Value). Suit [] vs) (some_is _ _ e) (refl, λ k d lt. absurd (omega arith))
values_fit [] (text ∷ texts) values e = absurd cc
values_fit (t ∷ ts) [] values e = absurd cc
values_fit (t ∷ ts) (text ∷ texts) values e =
    let p = both_some (value_of t (signed_digits_value 10 text)) (values_of ts texts) values e in
    subst (λ (vs : List Value). Suit (t ∷ ts) vs) p.4 (suit_more t ts p.0 p.1 (value_fits t (signed_digits_value 10 text) p.0 p.2) (values_fit ts texts p.1 p.3))

by_values : (m : Module) (n function : ℕ) (kind : FuncType) (values : Option (List Value)) (thread : PlannedThread) → function_type m function ≡ Some kind
    → ((vs : List Value) → values ≡ Some vs → Suit kind.params vs) → thread_by n function values ≡ Ok thread → IsThreadOf m thread
by_values m n function kind None thread has fit e = absurd cc
by_values m n function kind (Some vs) thread has fit e =
    subst (λ (t : PlannedThread). IsThreadOf m t) (ok_is _ _ e) (record { kind = kind; has_type = has; typed = (fit vs refl).0; in_range = (fit vs refl).1 })

by_type : (m : Module) (n function : ℕ) (kind : Option FuncType) (texts : List (List ℕ)) (thread : PlannedThread) → function_type m function ≡ kind
    → thread_by n function (values_by kind texts) ≡ Ok thread → IsThreadOf m thread
by_type m n function None texts thread has e = absurd cc
by_type m n function (Some kind) texts thread has e = by_values m n function kind (values_of kind.params texts) thread has (values_fit kind.params texts) e

by_export : (m : Module) (n : ℕ) (texts : List (List ℕ)) (function : Option ℕ) (thread : PlannedThread) → called m n texts function ≡ Ok thread → IsThreadOf m thread
by_export m n texts None thread e = absurd cc
by_export m n texts (Some function) thread e = by_type m n function (function_type m function) texts thread refl e

by_form : (m : Module) (n : ℕ) (form : Option (List ℕ × List (List ℕ))) (thread : PlannedThread) → judged m n form ≡ Ok thread → IsThreadOf m thread
by_form m n None thread e = absurd cc
by_form m n (Some form) thread e = by_export m n form.1 (exported_function m.exports form.0) thread e

thread_suits : (m : Module) (n : ℕ) (line : List ℕ) (thread : PlannedThread) → thread_at m n line ≡ Ok thread → IsThreadOf m thread
thread_suits m n line thread e = by_form m n (form_of (words line)) thread e

and_then_ok : {X Y : Type 0} (r : Result X Refusal) (f : X → Result Y Refusal) (y : Y) → and_then r f ≡ Ok y → (x : X) × (r ≡ Ok x) × (f x ≡ Ok y)
and_then_ok (Ok x) f y e = (x, refl, e)
and_then_ok (Err refusal) f y e = absurd cc

-- one thread for each of so many lines
record Suits (m : Module) (count : ℕ) (threads : List PlannedThread) : Type 0 where
  counted : length threads ≡ count
  each : All (IsThreadOf m) threads

threads_suit : (m : Module) (n : ℕ) (ls : List (List ℕ)) (threads : List PlannedThread) → threads_from m n ls ≡ Ok threads → Suits m (length ls) threads
threads_suit m n [] threads e = subst (λ (ts : List PlannedThread). Suits m 0 ts) (ok_is _ _ e) (record { counted = refl; each = λ k d lt. absurd (omega arith) })
threads_suit m n (l ∷ ls) threads e =
    let one = and_then_ok (thread_at m n l) (λ thread. and_then (threads_from m (n + 1) ls) (λ others. Ok (thread ∷ others))) threads e in
    let more = and_then_ok (threads_from m (n + 1) ls) (λ others. Ok (one.0 ∷ others)) threads one.2 in
    let others : Suits m (length ls) more.0 = threads_suit m (n + 1) ls more.0 more.1 in
    subst (λ (ts : List PlannedThread). Suits m (length (l ∷ ls)) ts) (ok_is _ _ more.2) (record { counted = ap suc others.counted; each = All-cons (IsThreadOf m) one.0 more.0 (thread_suits m n l one.0 one.1) others.each })

-- 1 to 16 threads
record SuitAll (m : Module) (threads : List PlannedThread) : Type 0 where
  some : 0 < length threads
  at_most : length threads ≤ 16
  each : All (IsThreadOf m) threads

lines_suit : (m : Module) (ls : List (List ℕ)) (threads : List PlannedThread) → threads_of m ls ≡ Ok threads → SuitAll m threads
lines_suit m [] threads e = absurd cc
lines_suit m (l ∷ ls) threads e =
    let p = and_then_ok (threads_from m 2 (take 16 (l ∷ ls))) (at_most_16 (length (l ∷ ls))) threads e in
    let s : Suits m (length (take 16 (l ∷ ls))) p.0 = threads_suit m 2 (take 16 (l ∷ ls)) p.0 p.1 in
    let n : length (take 16 (l ∷ ls)) ≡ min 16 (length (l ∷ ls)) = length-take 16 (l ∷ ls) in
    subst (λ (ts : List PlannedThread). SuitAll m ts) (few (nat_lt 16 (length (l ∷ ls))) p.0 p.2) (record { some = omega (arith, s.counted); at_most = omega (arith, s.counted); each = s.each })
  where
    few : (many : Bool) (ts : List PlannedThread) → cond many (Err (BadLine 18)) (Ok ts) ≡ Ok threads → ts ≡ threads
    few true ts h = absurd cc
    few false ts h = ok_is _ _ h

text_suits : (m : Module) (ls : List (List ℕ)) (threads : List PlannedThread) → threads_in m ls ≡ Ok threads → SuitAll m threads
text_suits m [] threads e = absurd cc
text_suits m (l ∷ ls) threads e = lines_suit m ls threads (first (bytes_eq l (codes "wreplay plan 1")) e)
  where
    first : (is : Bool) → cond is (threads_of m ls) (Err (BadLine 1)) ≡ Ok threads → threads_of m ls ≡ Ok threads
    first true h = h
    first false h = absurd cc

not_both : (a b : Bool) → (a && not b) ≡ false → a ≡ true → b ≡ true
not_both a true e h = refl
not_both true false e h = absurd cc
not_both false false e h = absurd cc

by_tests : (m : Module) (bytes : List ℕ) (threads : List PlannedThread) (plan : PlanValue) (refused fits : Bool)
    → (nat_lt 1 (length threads) && not (allows_threads m)) ≡ refused → segments_fit m ≡ fits → SuitAll m threads
    → cond refused (Err NotShared) (cond fits (Ok (record { bytes = bytes; threads = threads })) (Err SegmentOutOfBounds)) ≡ Ok plan → IsPlanOf m plan
by_tests m bytes threads plan true fits r f s e = absurd cc
by_tests m bytes threads plan false false r f s e = absurd cc
by_tests m bytes threads plan false true r f s e =
    subst (λ (p : PlanValue). IsPlanOf m p) (ok_is _ _ e) (record {
      some_thread = s.some;
      at_most_16_threads = s.at_most;
      threads = s.each;
      shared = λ lt. not_both (nat_lt 1 (length threads)) (allows_threads m) r (lt-ltb _ _ lt);
      segments = f;
    })

pub plan_suits : (m : Module) (bytes : List ℕ) (plan : PlanValue) → plan_of m bytes ≡ Ok plan → IsPlanOf m plan
plan_suits m bytes plan e =
    let p = and_then_ok (threads_in m (lines bytes)) (planned m bytes) plan e in
    by_tests m bytes p.0 plan _ _ refl refl (text_suits m (lines bytes) p.0 p.1) p.2
