use Rattle.std.proofs.Common.{rules, arith, ◌≡◌, ◌∙◌, ◌-◌, ◌+◌, ◌++◌, ◌∷◌, [], true, false, length, take, replicate, refl, sym, ap}
use Rattle.wasm_types.specs.declared.modules.Body.{Body}
use Rattle.wasm_types.specs.declared.modules.FuncType.{FuncType}
use Rattle.wasm_types.specs.Locals.{locals_of}
use Rattle.thread_words.specs.Calling.{locals_by, declared_of}
use Rattle.thread_words.proofs.Entering.{callee, is_called, function_is, words_enough, goes_in, level_eq}
use Rattle.thread_words.proofs.calls.enter_function.Goals as goal

no : false ≡ true → ⊥
no h = cc

pub type_of_function-requires : goal.type_of_function-requires
type_of_function-requires c = let k = c.requires.can in let e = callee c.args.valid.now c.args.function c.args.taken k.0 k.1 c.args.m.now k.2 c.requires.fits in (record { kind = k.2.kind; body = e.body }, function_is c.args.valid.now c.args.function c.args.taken k.0 k.1 c.args.m.now k.2 e)

pub body_of_function-requires : goal.body_of_function-requires
body_of_function-requires c = let k = c.requires.can in let e = callee c.args.valid.now c.args.function c.args.taken k.0 k.1 c.args.m.now k.2 c.requires.fits in (record { kind = k.2.kind; body = e.body }, function_is c.args.valid.now c.args.function c.args.taken k.0 k.1 c.args.m.now k.2 e)

pub overflow_sub-low-2 : goal.overflow_sub-low-2
overflow_sub-low-2 c =
    let k = c.requires.can in
    let e = callee c.args.valid.now c.args.function c.args.taken k.0 k.1 c.args.m.now k.2 c.requires.fits in
    let f = function_is c.args.valid.now c.args.function c.args.taken k.0 k.1 c.args.m.now k.2 e in
    let p : length c.as_slice-params.result.now ≡ length k.2.kind.params = ap length (c.as_slice-params.ensures ∙ ap (λ (x : FuncType). x.params) (c.type_of_function.ensures (record { kind = k.2.kind; body = e.body }) f)) in
    let n = words_enough c.args.valid.now c.args.function c.args.taken k.0 k.1 c.args.m.now k.2 in
    let size : c.len.result ≡ length c.args.m.now.words.items = search rules in
    omega arith

pub returns-in_err-declared-clause-room : goal.returns-in_err-declared-clause-room
returns-in_err-declared-clause-room c = λ h.
    let k = c.requires.can in
    let e = callee c.args.valid.now c.args.function c.args.taken k.0 k.1 c.args.m.now k.2 c.requires.fits in
    let f = function_is c.args.valid.now c.args.function c.args.taken k.0 k.1 c.args.m.now k.2 e in
    let d : length (locals_of c.body_of_function.result.now.locals) ≡ declared_of c.args.valid.now c.args.function =
    ap (λ (x : Body). length (locals_of x.locals)) (c.body_of_function.ensures (record { kind = k.2.kind; body = e.body }) f) ∙ sym (ap locals_by e.has_body) in
    let w = h.words in
    let big = c.in_err-declared.ensures.err in
    let small = c.args.m.now.words.small in
    absurd (omega (arith, d, w, big, small))

pub returns-in_err-put_zeros-clause-room : goal.returns-in_err-put_zeros-clause-room
returns-in_err-put_zeros-clause-room c = λ h.
    let k = c.requires.can in
    let e = callee c.args.valid.now c.args.function c.args.taken k.0 k.1 c.args.m.now k.2 c.requires.fits in
    let f = function_is c.args.valid.now c.args.function c.args.taken k.0 k.1 c.args.m.now k.2 e in
    let d : c.in_ok-declared.declared ≡ declared_of c.args.valid.now c.args.function =
    c.in_ok-declared.ensures.ok ∙ ap (λ (x : Body). length (locals_of x.locals)) (c.body_of_function.ensures (record { kind = k.2.kind; body = e.body }) f) ∙ sym (ap locals_by e.has_body) in
    let w = h.words in
    absurd (no (c.in_err-put_zeros.ensures.room (omega arith)))

pub returns-clause-ok : goal.returns-clause-ok
returns-clause-ok c = λ s after k.
    let e = callee c.args.valid.now c.args.function c.args.taken s after c.args.m.now k c.requires.fits in
    let f = function_is c.args.valid.now c.args.function c.args.taken s after c.args.m.now k e in
    let q = is_called c.args.valid.now c.args.function c.args.taken s after c.args.m.now k in
    let p : length c.as_slice-params.result.now ≡ length k.kind.params = ap length (c.as_slice-params.ensures ∙ ap (λ (x : FuncType). x.params) (c.type_of_function.ensures (record { kind = k.kind; body = e.body }) f)) in
    let size : c.len.result ≡ length c.args.m.now.words.items = search rules in
    let labels : c.len-2.result ≡ length c.args.m.now.labels.items = search rules in
    let d : c.in_ok-declared.declared ≡ length (locals_of e.body.locals) = c.in_ok-declared.ensures.ok ∙ ap (λ (x : Body). length (locals_of x.locals)) (c.body_of_function.ensures (record { kind = k.kind; body = e.body }) f) in
    goes_in c.args.valid.now c.args.function c.args.taken s after c.args.m.now _ k e q.enough refl refl
    (c.push_reserved.ensures.items ∙ ap (λ y. y ++ record { function = c.args.m.now.here.function; place = c.args.m.now.here.place + 1; words = c.args.m.now.here.words; labels = c.args.m.now.here.labels } ∷ []) c.reserve.ensures.items)
    (level_eq c.args.function _ _ _ _ (ap (λ y. y - c.args.taken - length c.as_slice-params.result.now) size ∙ ap (λ y. length c.args.m.now.words.items - c.args.taken - y) p) labels)
    (c.in_ok-put_zeros.ensures.ok ∙ ap (λ y. take (length c.args.m.now.words.items - c.args.taken) c.args.m.now.words.items ++ replicate y 0) d) refl refl
