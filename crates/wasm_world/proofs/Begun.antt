-- The threads of a plan and the memory of its module before the first step.
use Rattle.std.proofs.Common.{◌≡◌, ℕ, zero, suc, ◌+◌, ◌*◌, ◌<◌, ◌≤◌, true, false, ◌&&◌, Option, Some, None, refl, sym, ◌∙◌, ap, subst, slice_get, arith, List, [], ◌∷◌, ◌++◌, length, map, take, add-one}
use Rattle.std.specs.Prelude.{option_map}
use Rattle.std.proofs.lemmas.Bool.{le-leb}
use Rattle.std.proofs.lemmas.List.{length-map, take_all}
use Rattle.wasm_types.specs.declared.sizes.TheConstants.{PAGE_SIZE}
use Rattle.wasm_types.specs.declared.value.Value.{Value}
use Rattle.wasm_types.specs.declared.key.Profile.{Profile}
use Rattle.wasm_types.specs.declared.modules.Module.{Module}
use Rattle.event_core.specs.Opening.{IsFresh, IsOpeningWorld}
use Rattle.event_core.specs.Threads as threads
use Rattle.thread_plan.specs.Plans.{PlanValue, IsPlanOf}
use Rattle.thread_plan.specs.declared.planned_thread.PlannedThread.{PlannedThread}
use Rattle.wasm_types.specs.Memories.{block_power}
use Rattle.thread_words.specs.Opening.{instance_of, opening, opening_by, enter}
use Rattle.thread_words.specs.Thread.{given, State, Runs, Invocation, stack_with, waiting}
use Rattle.thread_words.specs.ThreadCode.{ThreadAt, thread_code, limits_of, sleeps_within}
use Rattle.integer_machine.specs.First.{first_of, beginning}
use Rattle.wasm_world.specs.Opening.{WasmWorld, with_thread, opening_threads, limits_in, opening_memory, opening_world_of}

-- ---- a thread does not begin by sleeping

same_state : (a b : State) → Some a ≡ Some b → a ≡ b
same_state a b h = cc

awake_by : (m : Module) (start : Option ℕ) (main : Invocation) (s : State) (bytes : ℕ) → opening_by m start main ≡ Some s → sleeps_within bytes s ≡ true
awake_by m None main s bytes h = ap (sleeps_within bytes) (sym (same_state (Runs (stack_with main [] false)) s h))
awake_by m (Some start) main s bytes h = by (enter m start []) h
  where
    by : (o : Option Invocation) → given o (λ first. Some (Runs (stack_with first (waiting main ∷ []) true))) ≡ Some s → sleeps_within bytes s ≡ true
    by None h = absurd cc
    by (Some first) h = ap (sleeps_within bytes) (sym (same_state (Runs (stack_with first (waiting main ∷ []) true)) s h))

awake : (m : Module) (function : ℕ) (arguments : List Value) (s : State) (bytes : ℕ) → opening m function arguments ≡ Some s → sleeps_within bytes s ≡ true
awake m function arguments s bytes h = by (enter m function arguments) h
  where
    by : (o : Option Invocation) → given o (λ main. opening_by m m.start main) ≡ Some s → sleeps_within bytes s ≡ true
    by None h = absurd cc
    by (Some main) h = awake_by m m.start main s bytes h

-- ---- a thread is fresh

record Begun (m : Module) (profile : Profile) (number : ℕ) (t : ThreadAt) : Type 0 where
  instance : t.instance ≡ instance_of m profile number
  steps : t.steps ≡ 0
  awake : (bytes : ℕ) → sleeps_within bytes t.state ≡ true

begun_by : (m : Module) (profile : Profile) (number : ℕ) (first : Option State) (t : ThreadAt) → ((s : State) (bytes : ℕ) → first ≡ Some s → sleeps_within bytes s ≡ true)
    → option_map (λ s. record { within = m; instance = instance_of m profile number; state = s; steps = 0 }) first ≡ Some t → Begun m profile number t
begun_by m profile number None t a h = absurd cc
begun_by m profile number (Some s) t a h = subst (Begun m profile number) same (record { instance = refl; steps = refl; awake = λ bytes. a s bytes refl })
  where
    same : record { within = m; instance = instance_of m profile number; state = s; steps = 0 } ≡ t
    same = cc

fresh : (m : Module) (profile : Profile) (number : ℕ) (planned : PlannedThread) (t : ThreadAt) → block_power profile ≤ 12 → beginning m profile number (Some planned) ≡ Some t
    → IsFresh thread_code (limits_in m profile) t
fresh m profile number planned t low h =
    let b = begun_by m profile number (opening m planned.function planned.arguments) t (λ s bytes e. awake m planned.function planned.arguments s bytes e) h in
    let small : t.instance.extent.block ≤ 16 = omega (arith, low, ap (λ x. x.extent.block) b.instance) in
    record {
      no_steps = b.steps;
      made_for = ap limits_of b.instance;
      is_suited = ap (λ x. x && sleeps_within (t.instance.capacity * PAGE_SIZE) t.state) (le-leb _ _ small) ∙ b.awake (t.instance.capacity * PAGE_SIZE);
    }

-- ---- all threads

-- each of these threads is fresh
abbrev pub Fresh : Module → Profile → List ThreadAt → Type 0
Fresh m profile [] = Unit {0}
Fresh m profile (t ∷ ts) = IsFresh thread_code (limits_in m profile) t × Fresh m profile ts

-- the threads of a plan, and as many of them
record Opened (m : Module) (profile : Profile) (count : ℕ) (ts : List ThreadAt) : Type 0 where
  all : Fresh m profile ts
  counted : length ts ≡ count

opened : (m : Module) (profile : Profile) (number : ℕ) (ps : List PlannedThread) (ts : List ThreadAt) → block_power profile ≤ 12 → opening_threads m profile number ps ≡ Some ts → Opened m profile (length ps) ts
opened m profile number [] ts low h = subst (Opened m profile 0) same (record { all = tt; counted = refl })
  where
    same : [] ≡ ts
    same = cc
opened m profile number (p ∷ ps) ts low h = by (beginning m profile number (Some p)) (opening_threads m profile (number + 1) ps) (λ others f. opened m profile (number + 1) ps others low f) refl refl h
  where
    by : (o : Option ThreadAt) (os : Option (List ThreadAt)) → ((others : List ThreadAt) → opening_threads m profile (number + 1) ps ≡ Some others → Opened m profile (length ps) others)
        → beginning m profile number (Some p) ≡ o → opening_threads m profile (number + 1) ps ≡ os → with_thread o os ≡ Some ts → Opened m profile (length (p ∷ ps)) ts
    by None os more e f g = absurd cc
    by (Some t) None more e f g = absurd cc
    by (Some t) (Some others) more e f g =
        let rest = more others f in
        let same : t ∷ others ≡ ts = cc in
        subst (Opened m profile (length (p ∷ ps))) same (record { all = (fresh m profile number p t low e, rest.all); counted = ap suc rest.counted })

pub fresh_at : (m : Module) (profile : Profile) (ts : List ThreadAt) (n : ℕ) (t : ThreadAt) → Fresh m profile ts → slice_get ts n ≡ Some t → IsFresh thread_code (limits_in m profile) t
fresh_at m profile [] n t f h = absurd cc
fresh_at m profile (x ∷ ts) zero t f h = let same : x ≡ t = cc in subst (IsFresh thread_code (limits_in m profile)) same f.0
fresh_at m profile (x ∷ ts) (suc n) t f h = fresh_at m profile ts n t f.1 h

pub all_fresh : (m : Module) (profile : Profile) (ps : List PlannedThread) (ts : List ThreadAt) → block_power profile ≤ 12 → opening_threads m profile 0 ps ≡ Some ts
    → (n : ℕ) (t : ThreadAt) → slice_get ts n ≡ Some t → IsFresh thread_code (limits_in m profile) t
all_fresh m profile ps ts low h n t e = fresh_at m profile ts n t (opened m profile 0 ps ts low h).all e

pub as_many : (m : Module) (profile : Profile) (ps : List PlannedThread) (ts : List ThreadAt) → block_power profile ≤ 12 → opening_threads m profile 0 ps ≡ Some ts → length ts ≡ length ps
as_many m profile ps ts low h = (opened m profile 0 ps ts low h).counted

-- ---- one thread more

one_more_from : (m : Module) (profile : Profile) (number n : ℕ) (ps : List PlannedThread) (ts : List ThreadAt) (p : PlannedThread) (t : ThreadAt) → slice_get ps n ≡ Some p
    → opening_threads m profile number (take n ps) ≡ Some ts → beginning m profile (number + n) (Some p) ≡ Some t → opening_threads m profile number (take (suc n) ps) ≡ Some (ts ++ t ∷ [])
one_more_from m profile number n [] ts p t at h b = absurd cc
one_more_from m profile number zero (q ∷ ps) ts p t at h b =
    let first : q ≡ p = cc in
    let none : [] ≡ ts = cc in
    let here : number + 0 ≡ number = omega arith in
    ap (λ (x : PlannedThread). with_thread (beginning m profile number (Some x)) (Some [])) first
    ∙ ap (λ (o : Option ThreadAt). with_thread o (Some [])) (ap (λ (k : ℕ). beginning m profile k (Some p)) (sym here) ∙ b)
    ∙ ap (λ (x : List ThreadAt). Some (x ++ t ∷ [])) none
one_more_from m profile number (suc n) (q ∷ ps) ts p t at h b =
    by (beginning m profile number (Some q)) (opening_threads m profile (number + 1) (take n ps))
    (λ xs f. one_more_from m profile (number + 1) n ps xs p t at f (ap (λ (k : ℕ). beginning m profile k (Some p)) (sym next) ∙ b)) refl refl h
  where
    next : number + suc n ≡ (number + 1) + n
    next = omega arith

    by : (o : Option ThreadAt) (os : Option (List ThreadAt)) → ((xs : List ThreadAt) → opening_threads m profile (number + 1) (take n ps) ≡ Some xs → opening_threads m profile (number + 1) (take (suc n) ps) ≡ Some (xs ++ t ∷ []))
        → beginning m profile number (Some q) ≡ o → opening_threads m profile (number + 1) (take n ps) ≡ os → with_thread o os ≡ Some ts
        → with_thread (beginning m profile number (Some q)) (opening_threads m profile (number + 1) (take (suc n) ps)) ≡ Some (ts ++ t ∷ [])
    by None os rest e f g = absurd cc
    by (Some x) None rest e f g = absurd cc
    by (Some x) (Some xs) rest e f g =
        let more : opening_threads m profile (number + 1) (take (suc n) ps) ≡ Some (xs ++ t ∷ []) = rest xs f in
        let same : x ∷ xs ≡ ts = cc in
        ap (λ (o : Option ThreadAt). with_thread o (opening_threads m profile (number + 1) (take (suc n) ps))) e
        ∙ ap (λ (os : Option (List ThreadAt)). with_thread (Some x) os) more
        ∙ ap (λ (ys : List ThreadAt). Some (ys ++ t ∷ [])) same

pub one_more : (m : Module) (plan : PlanValue) (profile : Profile) (n : ℕ) (ts : List ThreadAt) (t : ThreadAt) → opening_threads m profile 0 (take n plan.threads) ≡ Some ts → first_of m plan profile n ≡ Some t
    → opening_threads m profile 0 (take (n + 1) plan.threads) ≡ Some (ts ++ t ∷ [])
one_more m plan profile n ts t h f =
    let p = planned (slice_get plan.threads n) refl f in
    ap (λ (k : ℕ). opening_threads m profile 0 (take k plan.threads)) (add-one n) ∙ one_more_from m profile 0 n plan.threads ts p.0 t p.1 h (ap (λ (k : ℕ). beginning m profile k (Some p.0)) zero_more ∙ p.2)
  where
    zero_more : 0 + n ≡ n
    zero_more = omega arith

    planned : (o : Option PlannedThread) → slice_get plan.threads n ≡ o → beginning m profile n o ≡ Some t → (q : PlannedThread) × (slice_get plan.threads n ≡ Some q) × (beginning m profile n (Some q) ≡ Some t)
    planned None e h = absurd cc
    planned (Some q) e h = (q, e, h)

pub all_threads : (m : Module) (plan : PlanValue) (profile : Profile) (n : ℕ) (ts : List ThreadAt) → length plan.threads ≤ n → opening_threads m profile 0 (take n plan.threads) ≡ Some ts → opening_threads m profile 0 plan.threads ≡ Some ts
all_threads m plan profile n ts le h = ap (opening_threads m profile 0) (sym (take_all n plan.threads le)) ∙ h

-- ---- the world

opens_with : (m : Module) (plan : PlanValue) (profile : Profile) (w : WasmWorld) (ts : List ThreadAt) → IsPlanOf m plan → block_power profile ≤ 12 → opening_threads m profile 0 plan.threads ≡ Some ts
    → w ≡ record { threads = map threads.opening_thread ts; memory = opening_memory m profile } → IsOpeningWorld thread_code w
opens_with m plan profile w ts is low h e =
    let few = is.at_most_16_threads in
    let many = as_many m profile plan.threads ts low h in
    subst (IsOpeningWorld thread_code) (sym e) (record {
      few = omega (arith, few, many, length-map ts threads.opening_thread);
      fresh = λ n t at. fresh_of n t at;
      no_places = λ n t at. places_of n t at;
      no_counts = λ o. refl;
    })
  where
    state_at : (xs : List ThreadAt) (n : ℕ) (t : threads.ThreadAt ThreadAt) → slice_get (map threads.opening_thread xs) n ≡ Some t → (slice_get xs n ≡ Some t.state) × (t.places ≡ 0)
    state_at [] n t at = absurd cc
    state_at (x ∷ xs) zero t at =
        let same : threads.opening_thread x ≡ t = cc in
        (ap (λ (y : threads.ThreadAt ThreadAt). Some y.state) same, sym (ap (λ (y : threads.ThreadAt ThreadAt). y.places) same))
    state_at (x ∷ xs) (suc n) t at = state_at xs n t at

    fresh_of : (n : ℕ) (t : threads.ThreadAt ThreadAt) → slice_get (map threads.opening_thread ts) n ≡ Some t → IsFresh thread_code (limits_in m profile) t.state
    fresh_of n t at = all_fresh m profile plan.threads ts low h n t.state (state_at ts n t at).0

    places_of : (n : ℕ) (t : threads.ThreadAt ThreadAt) → slice_get (map threads.opening_thread ts) n ≡ Some t → t.places ≡ 0
    places_of n t at = (state_at ts n t at).1

pub opens : (m : Module) (plan : PlanValue) (profile : Profile) (w : WasmWorld) → IsPlanOf m plan → block_power profile ≤ 12 → opening_world_of m plan profile ≡ Some w → IsOpeningWorld thread_code w
opens m plan profile w is low e = by (opening_threads m profile 0 plan.threads) refl e
  where
    by : (o : Option (List ThreadAt)) → opening_threads m profile 0 plan.threads ≡ o → option_map (λ ts. record { threads = map threads.opening_thread ts; memory = opening_memory m profile }) o ≡ Some w → IsOpeningWorld thread_code w
    by None h e = absurd cc
    by (Some ts) h e = let made : WasmWorld = record { threads = map threads.opening_thread ts; memory = opening_memory m profile } in let same : w ≡ made = cc in opens_with m plan profile w ts is low h same
