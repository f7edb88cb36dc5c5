-- A thread of a plan and its memory before the first step.
use Rattle.std.proofs.Common.{◌≡◌, ℕ, ◌+◌, ◌*◌, ◌<◌, ◌≤◌, inl, inr, true, false, ◌&&◌, Option, Some, None, refl, sym, ◌∙◌, ap, subst, slice_get, arith, List, [], ◌∷◌}
use Rattle.std.specs.Prelude.{option_map, Result, Ok, OnOk}
use Rattle.std.proofs.lemmas.Bool.{le-leb, cases_lt}
use Rattle.wasm_types.specs.declared.sizes.TheConstants.{PAGE_SIZE}
use Rattle.wasm_types.specs.declared.value.Value.{Value}
use Rattle.wasm_types.specs.declared.key.Profile.TheVariants.{Two}
use Rattle.wasm_types.specs.declared.modules.Module.{Module}
use Rattle.rw_objects.specs.Counts.{no_counts}
use Rattle.rw_objects.specs.Memory.{Memory, memory_with}
use Rattle.block_objects.specs.declared.limits.MemoryLimits.{MemoryLimits}
use Rattle.block_objects.specs.Objects.{ObjectAt}
use Rattle.striped_memory.specs.Shared.{opening_values}
use Rattle.block_objects.specs.SharedMemory.{shared_memory}
use Rattle.rw_objects.specs.Alone.{IsSoundAlone}
use Rattle.rw_objects.specs.Alone as alone
use Rattle.event_core.specs.End.{outcome_of}
use Rattle.rw_objects.proofs.Alone.{goes_steps}
use Rattle.thread_plan.specs.Plans.{PlanValue}
use Rattle.thread_plan.specs.declared.planned_thread.PlannedThread.{PlannedThread}
use Rattle.thread_words.specs.Opening.{instance_of, opening, opening_by, enter}
use Rattle.thread_words.specs.Thread.{given, State, Runs, Invocation, stack_with, waiting}
use Rattle.thread_words.specs.ThreadCode.{ThreadAt, thread_code, limits_of, sleeps_within}
use Rattle.thread_words.proofs.Machine.{threads_are_machines}
use Rattle.integer_machine.specs.First.{first_of, beginning}
use Rattle.wreplay_bench.specs.declared.ended.Ended.{Ended}
use Rattle.wreplay_bench.specs.Alone.{AloneAt, alone_with, no_entry, Goes, GoesTo, IsOpening, IsOver, RunsTo}

-- ---- the thread

same_state : (a b : State) → Some a ≡ Some b → a ≡ b
same_state a b h = cc

awake_by : (m : Module) (start : Option ℕ) (main : Invocation) (s : State) (bytes : ℕ) → opening_by m start main ≡ Some s → sleeps_within bytes s ≡ true
awake_by m None main s bytes h = ap (sleeps_within bytes) (sym (same_state (Runs (stack_with main [] false)) s h))
awake_by m (Some start) main s bytes h = by (enter m start []) h
  where
    by : (o : Option Invocation) → given o (λ first. Some (Runs (stack_with first (waiting main ∷ []) true))) ≡ Some s → sleeps_within bytes s ≡ true
    by None h = absurd cc
    by (Some first) h = ap (sleeps_within bytes) (sym (same_state (Runs (stack_with first (waiting main ∷ []) true)) s h))

-- a thread does not begin by sleeping
awake : (m : Module) (function : ℕ) (arguments : List Value) (s : State) (bytes : ℕ) → opening m function arguments ≡ Some s → sleeps_within bytes s ≡ true
awake m function arguments s bytes h = by (enter m function arguments) h
  where
    by : (o : Option Invocation) → given o (λ main. opening_by m m.start main) ≡ Some s → sleeps_within bytes s ≡ true
    by None h = absurd cc
    by (Some main) h = awake_by m m.start main s bytes h

-- what is known of the first thread of a plan
pub record Begun (m : Module) (block : ℕ) (t : ThreadAt) : Type 0 where
  pub within : t.within ≡ m
  pub instance : t.instance ≡ instance_of m (Two block) 0
  pub steps : t.steps ≡ 0
  pub awake : (bytes : ℕ) → sleeps_within bytes t.state ≡ true

begun_by : (m : Module) (block : ℕ) (first : Option State) (t : ThreadAt) → ((s : State) (bytes : ℕ) → first ≡ Some s → sleeps_within bytes s ≡ true)
    → option_map (λ s. record { within = m; instance = instance_of m (Two block) 0; state = s; steps = 0 }) first ≡ Some t → Begun m block t
begun_by m block None t a h = absurd cc
begun_by m block (Some s) t a h = subst (Begun m block) same (record { within = refl; instance = refl; steps = refl; awake = λ bytes. a s bytes refl })
  where
    same : record { within = m; instance = instance_of m (Two block) 0; state = s; steps = 0 } ≡ t
    same = cc

pub begun : (m : Module) (plan : PlanValue) (block : ℕ) (t : ThreadAt) → first_of m plan (Two block) 0 ≡ Some t → Begun m block t
begun m plan block t h = by (slice_get plan.threads 0) h
  where
    by : (o : Option PlannedThread) → beginning m (Two block) 0 o ≡ Some t → Begun m block t
    by None h = absurd cc
    by (Some planned) h = begun_by m block (opening m planned.function planned.arguments) t (λ s bytes e. awake m planned.function planned.arguments s bytes e) h

-- ---- the memory

limits_are : (m : Module) (block : ℕ) (t : ThreadAt) (limits : MemoryLimits) → Begun m block t → limits ≡ limits_of (instance_of m (Two block) 0) → limits ≡ limits_of t.instance
limits_are m block t limits b e = e ∙ ap limits_of (sym b.instance)

pub opens : (m n : Module) (plan : PlanValue) (block : ℕ) (t : ThreadAt) (limits : MemoryLimits) (memory : Memory ObjectAt MemoryLimits) → first_of m plan (Two block) 0 ≡ Some t → n ≡ m
    → limits ≡ limits_of (instance_of n (Two block) 0) → memory ≡ memory_with limits (opening_values limits n.«data») no_counts → IsOpening m plan block (alone_with t memory)
opens m n plan block t limits memory first same l made =
    let b = begun m plan block t first in
    let e = limits_are m block t limits b (l ∙ ap (λ x. limits_of (instance_of x (Two block) 0)) same) in
    record {
      thread = first;
      memory = made ∙ ap (λ x. memory_with x (opening_values x n.«data») no_counts) e ∙ ap (λ (x : Module). memory_with (limits_of t.instance) (opening_values (limits_of t.instance) x.«data») no_counts) (same ∙ sym b.within);
    }

suited : (m : Module) (block : ℕ) (t : ThreadAt) → block ≤ 12 → Begun m block t → thread_code.is_suited t ≡ true
suited m block t low b =
    let small : t.instance.extent.block ≤ 16 = omega (arith, low, ap (λ x. x.extent.block) b.instance) in
    ap (λ x. x && sleeps_within (t.instance.capacity * PAGE_SIZE) t.state) (le-leb _ _ small) ∙ b.awake (t.instance.capacity * PAGE_SIZE)

pub opens_sound : (m : Module) (plan : PlanValue) (block : ℕ) (a : AloneAt) → block ≤ 12 → IsOpening m plan block a → IsSoundAlone thread_code a.thread a.memory
opens_sound m plan block a low o =
    let b = begun m plan block a.thread o.thread in
    record {
      fixed = sym (ap (λ x. x.fixed) o.memory);
      is_suited = suited m block a.thread low b;
      others = 0;
      few = omega arith;
      versions = λ x. omega (arith, ap (λ y. (y.counts x).version) o.memory);
      reads = λ x. omega (arith, ap (λ y. (y.counts x).reads) o.memory);
    }

-- ---- the run

counted : (a b : AloneAt) (made : ℕ) → Goes made a b → b.thread.steps ≡ a.thread.steps + made
counted a b made g = goes_steps shared_memory thread_code no_entry threads_are_machines made (alone.alone_with a.thread a.memory tt 0) (alone.alone_with b.thread b.memory tt g.0) g.1

pub runs_to : (m : Module) (plan : PlanValue) (block : ℕ) (first last : AloneAt) (ended : Ended) → IsOpening m plan block first → GoesTo first last → IsOver last → ended.steps ≡ last.thread.steps
    → ended.outcome ≡ outcome_of (thread_code.next last.thread) → RunsTo m plan block ended
runs_to m plan block first last ended o g over steps outcome =
    let none : first.thread.steps ≡ 0 = (begun m plan block first.thread o.thread).steps in
    let made : g.0 ≡ ended.steps = omega (arith, none, steps, counted first last g.0 g.1) in
    record { first = first; last = last; opens = o; goes = subst (λ n. Goes n first last) made g.1; is_over = over; outcome = outcome }

-- as many steps as there are, or as a thread may make
pub over_behind : (a b : AloneAt) (made most : ℕ) → 1000000000 ≤ most → Goes made a b → (made < most → IsOver b) → IsOver b
over_behind a b made most many g all = elim (cases_lt made most) [
  | inl h ↦ all h
  | inr h ↦ inr (omega (arith, counted a b made g, h, many))
]

-- what holds where a run came to its end
pub of_ok : {X E : Type 0} {P : Type 0} (r : Result X E) (x : X) → r ≡ Ok x → OnOk r P → P
of_ok {P = P} r x is h = subst (λ y. OnOk y P) is h
