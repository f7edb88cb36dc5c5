-- Arguments one after another.
use Rattle.std.proofs.Common.{◌≡◌, ℕ, List, [], ◌∷◌, ◌++◌, refl, sym, ap, ◌∙◌, append_assoc, ◌<◌, ◌+◌, suc, length, drop, get_or, arith, add-one}
use Rattle.std.specs.Prelude.{Option, Some, None, option_map}
use Rattle.std.specs.Str.Parse.{signed_digits_value}
use Rattle.std.proofs.Math.Seq.{drop-cons}
use Rattle.wasm_types.specs.declared.value.ValType.{ValType}
use Rattle.wasm_types.specs.declared.value.ValType.TheVariants.{I32}
use Rattle.wasm_types.specs.declared.value.Value.{Value}
use Rattle.thread_plan.specs.Arguments.{value_of, both, values_of}

-- these values, and those that are left
abbrev pub behind : List Value → Option (List Value) → Option (List Value)
behind values rest = option_map (λ others. values ++ others) rest

pub behind_nil : (rest : Option (List Value)) → rest ≡ behind [] rest
behind_nil None = refl
behind_nil (Some others) = refl

both_more : (values : List Value) (value : Value) (rest : Option (List Value)) → behind values (both (Some value) rest) ≡ behind (values ++ value ∷ []) rest
both_more values value None = refl
both_more values value (Some others) = ap (λ (vs : List Value). Some vs) (sym (append_assoc values (value ∷ []) others))

pub one_more : (values : List Value) (value : Value) (t : ValType) (ts : List ValType) (text : List ℕ) (texts : List (List ℕ)) → value_of t (signed_digits_value 10 text) ≡ Some value
    → behind values (values_of (t ∷ ts) (text ∷ texts)) ≡ behind (values ++ value ∷ []) (values_of ts texts)
one_more values value t ts text texts e = ap (λ v. behind values (both v (values_of ts texts))) e ∙ both_more values value (values_of ts texts)

pub out_of_range : (values : List Value) (t : ValType) (ts : List ValType) (text : List ℕ) (texts : List (List ℕ)) → value_of t (signed_digits_value 10 text) ≡ None
    → behind values (values_of (t ∷ ts) (text ∷ texts)) ≡ None
out_of_range values t ts text texts e = ap (λ v. behind values (both v (values_of ts texts))) e

pub too_few : (values : List Value) (ts : List ValType) (texts : List (List ℕ)) → 0 < length ts → texts ≡ [] → behind values (values_of ts texts) ≡ None
too_few values [] texts some e = absurd (omega arith)
too_few values (t ∷ ts) texts some e = ap (λ l. behind values (values_of (t ∷ ts) l)) e

pub next_value : (values : List Value) (value : Value) (ts : List ValType) (texts texts' : List (List ℕ)) (text : List ℕ) (i : ℕ) → i < length ts → texts ≡ text ∷ texts'
    → value_of (get_or ts i I32) (signed_digits_value 10 text) ≡ Some value
    → behind values (values_of (drop i ts) texts) ≡ behind (values ++ value ∷ []) (values_of (drop (i + 1) ts) texts')
next_value values value ts texts texts' text i lt e v =
    ap (λ l. behind values (values_of (drop i ts) l)) e
    ∙ ap (λ l. behind values (values_of l (text ∷ texts'))) (drop-cons ts i I32 lt)
    ∙ one_more values value (get_or ts i I32) (drop (suc i) ts) text texts' v
    ∙ ap (λ n. behind (values ++ value ∷ []) (values_of (drop n ts) texts')) (sym (add-one i))
