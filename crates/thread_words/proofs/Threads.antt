-- Whole threads have steps, which lead to threads that fit.
use Rattle.std.proofs.Common.{◌≡◌, ℕ, ◌≤◌, Bool, true, false, List, [], ◌∷◌, ◌++◌, Option, Some, None, refl, sym, ◌∙◌, ap, subst, slice_get, length, reverse, map, arith, ℤ}
use Rattle.wasm_types.specs.declared.value.Value.{Value}
use Rattle.wasm_types.specs.declared.value.ValType.{ValType}
use Rattle.wasm_types.specs.declared.value.ValType.TheVariants.{I32}
use Rattle.wasm_types.specs.declared.trap.Trap.TheVariants.{StackExhausted}
use Rattle.wasm_types.specs.declared.outcome.Outcome.TheVariants.{Done, Trapped}
use Rattle.wasm_types.specs.declared.operation.Action.TheVariants as action
use Rattle.wasm_types.specs.declared.operation.Reply.{Reply}
use Rattle.wasm_types.specs.declared.operation.Reply.TheVariants as reply
use Rattle.wasm_types.specs.declared.modules.Module.{Module}
use Rattle.wasm_types.specs.declared.modules.FuncType.{FuncType}
use Rattle.wasm_types.specs.declared.modules.Body.{Body}
use Rattle.wasm_types.specs.Locals.{locals_of}
use Rattle.validator.specs.Context.{function_type}
use Rattle.validator.specs.Walk.{start}
use Rattle.validator.specs.Module.{rules}
use Rattle.validator.specs.Valid.{WellTyped}
use Rattle.validator.proofs.Complete.{complete}
use Rattle.validator.proofs.Ruled.{kind_has_one_result, typed_has_body}
use Rattle.wasm_types.specs.Values.{bits_of}
use Rattle.thread_words.specs.Instance.{Instance, HasFunctions}
use Rattle.thread_words.specs.Activation.{Activation, at_place, with_globals, types}
use Rattle.thread_words.specs.Step.{Next, Stays, Calls, Returns, Traps, Asks, AsksToWait, act}
use Rattle.thread_words.specs.Fits.{ActivationFits, WaitsFor, Good, global_types}
use Rattle.thread_words.specs.Thread.{given, Function, function_at, context, Invocation, CallStack, State, Runs, Sleeps, Ends, in_function, stack_with, with_top, zero_of, entered, waiting, returned, may_call, called, answers, replied, waited, address_of, time_out, Move, Local, Ask, Asleep, Halted, local, move_by, move}
use Rattle.wasm_types.specs.Globals.{opening_globals}
use Rattle.thread_words.specs.Opening.{enter, opening_by, opening, instance_of}
use Rattle.thread_words.specs.ThreadFits.{WaitsWith, CallersFit, OutcomeFits, StateFits, MoveFits, ThreadsAreSafe, Reaches, Begins, GoesOn, IsAnswered, Wakes, ThreadsGoOn}
use Rattle.thread_words.proofs.Frames.{types_append}
use Rattle.thread_words.proofs.Safety.{one_again, safe}
use Rattle.thread_words.proofs.Beginning.{zeros_types, answers_types, opening_globals_types, start_is, instance_has_functions}

-- ---- functions

-- a function's type and body
pub at_has_parts : (m : Module) (n : ℕ) (f : Function) → function_at m n ≡ Some f → (function_type m n ≡ Some f.kind) × (slice_get m.bodies n ≡ Some f.body)
at_has_parts m n f h = by_kind (function_type m n) (slice_get m.bodies n) h
  where
    by_body : (kind : FuncType) (b : Option Body) → given b (λ body. Some (record { kind = kind; body = body })) ≡ Some f → (kind ≡ f.kind) × (b ≡ Some f.body)
    by_body kind None h = cc
    by_body kind (Some body) h =
        let e : record { kind = kind; body = body } ≡ f = cc in
        (ap (λ (x : Function). x.kind) e, ap (λ (x : Function). Some x.body) e)

    by_kind : (k : Option FuncType) (b : Option Body) → given k (λ kind. given b (λ body. Some (record { kind = kind; body = body }))) ≡ Some f → (k ≡ Some f.kind) × (b ≡ Some f.body)
    by_kind None b h = cc
    by_kind (Some kind) b h = let p = by_body kind b h in (ap Some p.0, p.1)

-- a function with a type is there
pub function_there : (m : Module) (n : ℕ) (kind : FuncType) → rules m ≡ true → function_type m n ≡ Some kind → (f : Function) × (function_at m n ≡ Some f) × (f.kind ≡ kind)
function_there m n kind h e =
    let b = typed_has_body m n kind h e in
    let f : Function = record { kind = kind; body = b.0 } in
    (f, ap (λ o. given o (λ kind2. given (slice_get m.bodies n) (λ body. Some (record { kind = kind2; body = body })))) e ∙ ap (λ o. given o (λ body. Some (record { kind = kind; body = body }))) b.1, refl)

one_result : (m : Module) (n : ℕ) (f : Function) → rules m ≡ true → function_at m n ≡ Some f → length f.kind.results ≤ 1
one_result m n f h e = kind_has_one_result m n f.kind h (at_has_parts m n f e).0

-- ---- entering

-- a function as it is entered fits
pub enters : (m : Module) (n : ℕ) (f : Function) (arguments globals : List Value) → WellTyped m → function_at m n ≡ Some f → types arguments ≡ f.kind.params → types globals ≡ global_types (context m f)
    → ActivationFits (context m f) f.body.code (entered n f.body arguments globals).activation
enters m n f arguments globals w e ta tg =
    let parts = at_has_parts m n f e in (
      types_append arguments (map zero_of (locals_of f.body.locals)) ∙ ap (λ x. x ++ types (map zero_of (locals_of f.body.locals))) ta ∙ ap (λ x. f.kind.params ++ x) (zeros_types (locals_of f.body.locals)),
      tg,
      start (context m f),
      (refl, complete (context m f) f.body.code (w.functions_typed n f.kind f.body parts.0 parts.1)),
      (refl, refl, refl, refl, refl),
    )

-- ---- waiting

-- an activation that waits with its globals waits with others of their types
sets_aside : (m : Module) (f : Function) (ts : List ValType) (n : ℕ) (a : Activation) → WaitsFor (context m f) f.body.code ts a → WaitsWith m f ts (waiting (in_function n a))
sets_aside m f ts n a w globals g vs e = let z = w vs e in (z.0, g, z.2, z.3, z.4)

-- where a number of operands is waited for, the globals have their types
waits_globals : (m : Module) (f : Function) (ts : List ValType) (a : Activation) → WaitsFor (context m f) f.body.code ts a → types a.globals ≡ global_types (context m f)
waits_globals m f ts a w = (w (answers ts 0) (answers_types ts 0)).1

-- ---- returns

first_of : (results : List ValType) (vs : List Value) → length results ≤ 1 → types vs ≡ results → OutcomeFits results (Done (slice_get vs 0))
first_of results [] l e = sym e
first_of results (v ∷ []) l e = sym e
first_of [] (v ∷ u ∷ vs) l e = cc
first_of (t ∷ []) (v ∷ u ∷ vs) l e = cc
first_of (t ∷ s ∷ ts) (v ∷ u ∷ vs) l e = absurd (omega (arith, l))

-- the outermost function's results are the thread's
resumes : (m : Module) (n : ℕ) (f : Function) (results : List ValType) (vs globals : List Value) (callers : List Invocation) (starting : Bool) → rules m ≡ true → function_at m n ≡ Some f
    → CallersFit m f.kind.results results callers → types vs ≡ f.kind.results → types globals ≡ global_types (context m f) → StateFits m results (returned vs globals callers starting)
resumes m n f results vs globals [] starting h e k t g = first_of results vs (subst (λ x. length x ≤ 1) k (one_result m n f h e)) (t ∙ k)
resumes m n f results vs globals (c ∷ callers) starting h e k t g =
    let short = one_again f.kind.results (one_result m n f h e) in
    (k.0, k.1, k.2 globals g vs (t ∙ sym short), k.3)

-- ---- calls

calls : (b : Bool) (m : Module) (n : ℕ) (f : Function) (results : List ValType) (g : ℕ) (arguments : List Value) (a : Activation) (callers : List Invocation) (starting : Bool) → WellTyped m → function_at m n ≡ Some f
    → CallersFit m f.kind.results results callers → Good (context m f) f.body.code (Calls g arguments a)
    → (x : Move) × (given (called b m g arguments (stack_with (in_function n a) callers starting)) local ≡ Some x) × MoveFits m results x
calls false m n f results g arguments a callers starting w e k d = (Local (Ends (Trapped StackExhausted)), refl, tt)
calls true m n f results g arguments a callers starting w e k d =
    let t = function_there m g d.0 w.keeps_rules d.1 in
    let callee = t.0 in
    let parts = at_has_parts m g callee t.1 in (
      Local (Runs (stack_with (entered g callee.body arguments a.globals) (waiting (in_function n a) ∷ callers) starting)),
      ap (λ o. given (given o (λ body. Some (Runs (stack_with (entered g body arguments a.globals) (waiting (in_function n a) ∷ callers) starting)))) local) parts.1,
      (
        callee,
        t.1,
        enters m g callee arguments a.globals w t.1 (d.2 ∙ sym (ap (λ x. x.params) t.2)) (waits_globals m f (reverse d.0.results) a d.3),
        (f, e, subst (λ x. WaitsWith m f (reverse x.results) (waiting (in_function n a))) (sym t.2) (sets_aside m f (reverse d.0.results) n a d.3), k),
      ),
    )

-- ---- replies

replies : (m : Module) (n : ℕ) (f : Function) (results ts : List ValType) (a : Activation) (callers : List Invocation) (starting : Bool) → function_at m n ≡ Some f
    → CallersFit m f.kind.results results callers → WaitsFor (context m f) f.body.code (reverse ts) a → (r : Reply) → StateFits m results (replied ts (stack_with (in_function n a) callers starting) r)
replies m n f results ts a callers starting e k w (reply.Trap trap) = tt
replies m n f results ts a callers starting e k w (reply.Value v) = (f, e, w (answers (reverse ts) (bits_of v)) (answers_types (reverse ts) (bits_of v)), k)
replies m n f results ts a callers starting e k w reply.Stored = (f, e, w (answers (reverse ts) 0) (answers_types (reverse ts) 0), k)
replies m n f results ts a callers starting e k w reply.Sleeps = (f, e, w (answers (reverse ts) 0) (answers_types (reverse ts) 0), k)

waits : (m : Module) (n : ℕ) (f : Function) (results : List ValType) (address : ℕ) (time : ℤ) (a : Activation) (callers : List Invocation) (starting : Bool) → function_at m n ≡ Some f
    → CallersFit m f.kind.results results callers → WaitsFor (context m f) f.body.code (I32 ∷ []) a → (r : Reply) → StateFits m results (waited address time (stack_with (in_function n a) callers starting) r)
waits m n f results address time a callers starting e k w (reply.Trap trap) = tt
waits m n f results address time a callers starting e k w (reply.Value v) = (f, e, w (answers (I32 ∷ []) (bits_of v)) refl, k)
waits m n f results address time a callers starting e k w reply.Stored = (f, e, w (answers (I32 ∷ []) 0) refl, k)
waits m n f results address time a callers starting e k w reply.Sleeps = (f, e, w, k)

-- ---- steps

moves : (m : Module) (instance : Instance) (s : CallStack) (f : Function) (results : List ValType) (n : Next) → WellTyped m → function_at m s.top.function ≡ Some f → types s.top.activation.globals ≡ global_types (context m f)
    → CallersFit m f.kind.results results s.callers → Good (context m f) f.body.code n → (x : Move) × (move_by m s n ≡ Some x) × MoveFits m results x
moves m instance s f results (Stays a) w e g k d = (Local (Runs (with_top a s)), refl, (f, e, d, k))
moves m instance s f results (Calls function arguments a) w e g k d = calls (may_call s) m s.top.function f results function arguments a s.callers s.starting w e k d
moves m instance s f results (Returns vs) w e g k d =
    (Local (returned vs s.top.activation.globals s.callers s.starting), refl, resumes m s.top.function f results vs s.top.activation.globals s.callers s.starting w.keeps_rules e k d g)
moves m instance s f results (Traps trap) w e g k d = (Local (Ends (Trapped trap)), refl, tt)
moves m instance s f results (Asks action ts a) w e g k d = (Ask action (λ reply. replied ts (with_top a s) reply), refl, replies m s.top.function f results ts a s.callers s.starting e k d)
moves m instance s f results (AsksToWait action time a) w e g k d =
    (Ask action (λ reply. waited (address_of action) time (with_top a s) reply), refl, waits m s.top.function f results (address_of action) time a s.callers s.starting e k d)

pub threads_safe : ThreadsAreSafe
threads_safe m instance results (Runs s) w has k =
    let f = k.0 in
    let one = one_result m s.top.function f w.keeps_rules k.1 in
    let p = safe instance (context m f) f.body.code s.top.activation has one k.2 in
    let q = moves m instance s f results p.0 w k.1 k.2.1 k.3 p.2 in (
      q.0,
      ap (λ o. given o (λ f2. given (act instance (context m f2) f2.body.code s.top.activation) (λ n. move_by m s n))) k.1
          ∙ ap (λ o. given o (λ n. move_by m s n)) p.1 ∙ q.1,
      q.2,
    )
threads_safe m instance results (Sleeps address time s) w has k = (
  Asleep (action.Resume instance.thread address) (time_out instance.thread address time) (λ reply. replied (I32 ∷ []) s reply),
  refl,
  replies m s.top.function k.0 results (I32 ∷ []) s.top.activation s.callers s.starting k.1 k.3 k.2,
)
threads_safe m instance results (Ends outcome) w has k = (Halted outcome, refl, k)

pub good_move : (m : Module) (instance : Instance) (results : List ValType) (s : State) (x : Move) → WellTyped m → HasFunctions m instance → StateFits m results s → move m instance s ≡ Some x → MoveFits m results x
good_move m instance results s x w has k h = let p = threads_safe m instance results s w has k in let e : p.0 ≡ x = cc in subst (MoveFits m results) e p.2

reaches_fit : {m : Module} {instance : Instance} {first s : State} (results : List ValType) → WellTyped m → HasFunctions m instance → StateFits m results first → Reaches m instance first s → StateFits m results s
reaches_fit results w has k Begins = k
reaches_fit {m} {instance} results w has k (GoesOn a b r h) = good_move m instance results a (Local b) w has (reaches_fit results w has k r) h
reaches_fit {m} {instance} results w has k (IsAnswered a action after reply r h) = good_move m instance results a (Ask action after) w has (reaches_fit results w has k r) h reply
reaches_fit {m} {instance} results w has k (Wakes a resume out after reply r h) = good_move m instance results a (Asleep resume out after) w has (reaches_fit results w has k r) h reply

-- ---- beginning

given_is : {X Y : Type 0} (o : Option X) (f : X → Option Y) (y : Y) → given o f ≡ Some y → (x : X) × (o ≡ Some x) × (f x ≡ Some y)
given_is None f y h = cc
given_is (Some x) f y h = (x, refl, h)

-- the exported function alone
begins_alone : (m : Module) (n : ℕ) (f : Function) (arguments : List Value) → WellTyped m → function_at m n ≡ Some f → types arguments ≡ f.kind.params
    → StateFits m f.kind.results (Runs (stack_with (entered n f.body arguments (opening_globals m)) [] false))
begins_alone m n f arguments w e t = (f, e, enters m n f arguments (opening_globals m) w e t (opening_globals_types m w.keeps_rules), refl)

no_values : (vs : List Value) → types vs ≡ [] → vs ≡ []
no_values [] h = refl
no_values (v ∷ vs) h = cc

-- the start function, for which the exported one waits
begins_started : (m : Module) (start n : ℕ) (f : Function) (body : Body) (arguments : List Value) → WellTyped m → m.start ≡ Some start → slice_get m.bodies start ≡ Some body → function_at m n ≡ Some f
    → types arguments ≡ f.kind.params
    → StateFits m f.kind.results (Runs (stack_with (entered start body [] (opening_globals m)) (waiting (entered n f.body arguments (opening_globals m)) ∷ []) true))
begins_started m start n f body arguments w s b e t =
    let k = start_is m start w.keeps_rules s in
    let g = function_there m start k.0 w.keeps_rules k.1 in
    let parts = at_has_parts m start g.0 g.1 in
    let bodies : Some g.0.body ≡ Some body = sym parts.1 ∙ b in
    let same : g.0.body ≡ body = cc in
    let typed = opening_globals_types m w.keeps_rules in
    let main = (entered n f.body arguments []).activation in (
      g.0,
      g.1,
      subst (λ x. ActivationFits (context m g.0) g.0.body.code (entered start x [] (opening_globals m)).activation) same
          (enters m start g.0 [] (opening_globals m) w g.1 (sym (ap (λ x. x.params) g.2 ∙ k.2)) typed),
      (
        f,
        e,
        λ globals tg vs q. subst (λ x. ActivationFits (context m f) f.body.code (at_place 0 (x ++ []) [] (with_globals globals main)))
            (sym (no_values vs (q ∙ ap reverse (ap (λ x. x.results) g.2 ∙ k.3)))) (enters m n f arguments globals w e t tg),
        refl,
      ),
    )

pub begins : (m : Module) (n : ℕ) (f : Function) (arguments : List Value) (first : State) → WellTyped m → function_at m n ≡ Some f → types arguments ≡ f.kind.params → opening m n arguments ≡ Some first → StateFits m f.kind.results first
begins m n f arguments first w e t o = by_start m.start refl (sym (ap (λ b. given (given b (λ body. Some (entered n body arguments (opening_globals m)))) (λ main. opening_by m m.start main)) (at_has_parts m n f e).1) ∙ o)
  where
    main : Invocation
    main = entered n f.body arguments (opening_globals m)

    by_start : (start : Option ℕ) → m.start ≡ start → opening_by m start main ≡ Some first → StateFits m f.kind.results first
    by_start None s h =
        let q : Runs (stack_with main [] false) ≡ first = cc in
        subst (StateFits m f.kind.results) q (begins_alone m n f arguments w e t)
    by_start (Some start) s h =
        let p = given_is (enter m start []) (λ first2. Some (Runs (stack_with first2 (waiting main ∷ []) true))) first h in
        let b = given_is (slice_get m.bodies start) (λ body. Some (entered start body [] (opening_globals m))) p.0 p.1 in
        let same : entered start b.0 [] (opening_globals m) ≡ p.0 = cc in
        let q : Runs (stack_with p.0 (waiting main ∷ []) true) ≡ first = cc in
        subst (StateFits m f.kind.results) (ap (λ x. Runs (stack_with x (waiting main ∷ []) true)) same ∙ q) (begins_started m start n f b.0 arguments w s b.1 e t)

pub threads_go_on : ThreadsGoOn
threads_go_on m profile thread n f arguments first s w e t o r =
    let has = instance_has_functions m profile thread w.keeps_rules in
    threads_safe m (instance_of m profile thread) f.kind.results s w has (reaches_fit f.kind.results w has (begins m n f arguments first w e t o) r)
