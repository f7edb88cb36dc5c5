-- Where threads pause at breaks, some of which are at instructions.
use Rattle.std.proofs.Common.{eqb, vec_len, ◌≡◌, ℕ, zero, suc, add-one, ◌+◌, ◌-◌, true, false, length, map, List, [], ◌∷◌, arith, Option, None, Some, inl, inr, sym, ap, ◌∙◌, subst, refl}
use Rattle.std.specs.Global.{Vec}
use Rattle.std.proofs.lemmas.Bool.{eqb-true}
use Rattle.std.proofs.lemmas.Option.{slice_get_within}
use Rattle.wasm_world.specs.SharedMemory.{shared_memory}
use Rattle.event_core.specs.Threads.{all_steps}
use Rattle.wasm_world.specs.CodePlace.{CodePlace}
use Rattle.wasm_world.specs.Opening.{WasmWorld}
use Rattle.wasm_world.specs.ThreadCode.{thread_code}
use Rattle.replay_laws.specs.Log.{Log}
use Rattle.replay_laws.specs.Ordered.{ordered_world, thread_of_turn}
use Rattle.replay_laws.specs.Turns.{turn_of, world_after_turn}
use Rattle.replay_gate.specs.declared.breaks.Break.{Break}
use Rattle.replay_gate.specs.declared.breaks.Stopped.{Stopped}
use Rattle.replay_gate.specs.declared.breaks.Stopped.TheVariants as stopped
use Rattle.replay_gate.specs.Stops.{StopsAt, StopsRight, StopsFree}
use Rattle.replay_session.specs.declared.paused.Met.{Met}
use Rattle.replay_session.specs.declared.paused.Met.TheVariants as met
use Rattle.replay_session.specs.declared.paused.Paused.{Paused}
use Rattle.replay_session.specs.declared.paused.Paused.TheVariants as paused
use Rattle.replay_session.specs.Legs.{with_rounds}
use Rattle.replay_session.specs.Pauses.{paused_of, NoneTested, PausesAt, PausesRight, PausesFree}
use Rattle.wasm_replay.specs.Replays.{gathered_log}
use Rattle.debug_views.specs.Standing.{PlaceForm}
use Rattle.debugger.specs.CodeTests.{is_behind, or_watched, place_among, place_in, stands_at}
use Rattle.debugger.specs.Watches.{seen_now}
use Rattle.debugger.specs.declared.watching.WatchedNumber.{WatchedNumber}
use Rattle.debugger.specs.Replies.{DebugAt, IsMove, IsPauseOf, Passed, RunsOn, RunsPast, moved}

-- no thread stands at an instruction of an empty list
none_among : (o : Option CodePlace) → place_among [] o ≡ None
none_among None = refl
none_among (Some p) = refl

pub none_stands : (w : WasmWorld) (t : ℕ) → stands_at [] w t ≡ None
none_stands w t = none_among (place_in w t)

-- and nothing is watched in one
pub none_behind : (w : WasmWorld) (t : ℕ) → is_behind [] [] w t ≡ None
none_behind w t = ap (λ (o : Option ℕ). or_watched o 0 false) (none_stands w t)

untested_so : (log : Log) (breaks : List Break) (start : WasmWorld) (k : ℕ) → NoneTested shared_memory thread_code log breaks (is_behind [] []) start k
untested_so log breaks start k i below step =
    let x = ordered_world shared_memory thread_code log start [] i in
    let t = thread_of_turn [] (length start.threads) i in
    none_behind (world_after_turn shared_memory thread_code x t (turn_of shared_memory thread_code log x t)) t

-- a stop at breaks is a pause where there are none at instructions, and nothing is watched
pub pauses_so : (log : Log) (breaks : List Break) (start v : WasmWorld) (s : Stopped) → StopsAt shared_memory thread_code log start [] breaks v s → PausesAt shared_memory thread_code log breaks (is_behind [] []) start v (paused_of s)
pauses_so log breaks start v (stopped.Break index) h = record { turns = h.turns; world = h.world; behind = h.behind; untested = untested_so log breaks start h.turns; pauses = h.stops }
pauses_so log breaks start v stopped.Finished h = (record { out = h.0; untested = untested_so log breaks start (h.0).turns }, h.1)
pauses_so log breaks start v stopped.Stuck h = (record { out = h.0; untested = untested_so log breaks start (h.0).turns }, h.1)
pauses_so log breaks start v (stopped.Fault f) h = record { turns = h.turns; world = h.world; behind = h.behind; untested = untested_so log breaks start h.turns; pauses = h.stops }

pub right_so : (log : Log) (opened : WasmWorld) (s : Stopped) → StopsRight shared_memory thread_code log opened s → PausesRight shared_memory thread_code log opened (paused_of s)
right_so log opened (stopped.Break index) h = λ picks run below. tt
right_so log opened stopped.Finished h = λ picks run below. tt
right_so log opened stopped.Stuck h = λ picks run below. tt
right_so log opened (stopped.Fault f) h = λ picks run below. h picks run below

pub free_so : (log : Log) (opened : WasmWorld) (s : Stopped) → StopsFree shared_memory thread_code log opened s → PausesFree shared_memory thread_code log opened (paused_of s)
free_so log opened (stopped.Break index) h = λ picks run below whole. tt
free_so log opened stopped.Finished h = λ picks run below whole. tt
free_so log opened stopped.Stuck h = λ picks run below whole. h picks run below whole
free_so log opened (stopped.Fault f) h = λ picks run below whole. h picks run below whole

-- a pause at a break is at one of the list
pub pause_within : (log : Log) (breaks : List Break) (holds : WasmWorld → ℕ → Option ℕ) (start v : WasmWorld) (how : Paused) → PausesAt shared_memory thread_code log breaks holds start v how → IsPauseOf how breaks
pause_within log breaks holds start v (paused.Met (met.Break index)) h = let first = h.pauses.0 in slice_get_within breaks index first.one first.is
pause_within log breaks holds start v (paused.Met (met.Test index)) h = tt
pause_within log breaks holds start v paused.Finished h = tt
pause_within log breaks holds start v paused.Stuck h = tt
pause_within log breaks holds start v (paused.Fault f) h = tt

none_of_length : {A : Type 0} (xs : List A) → length xs ≡ 0 → xs ≡ []
none_of_length [] h = refl
none_of_length (x ∷ xs) h = absurd (omega (arith, h))

pub none_when : {A : Type 0} (v : Vec A) → true ≡ eqb (vec_len v) 0 → v.items ≡ []
none_when v e = let k : vec_len v ≡ 0 = eqb-true _ _ (sym e) in none_of_length v.items (omega (arith, v.ok.0, k))

-- where there are no breaks at instructions, and nothing is watched, the threads pause just where they stop
pub runs_so : (s u : DebugAt) (how : Stopped) → s.instructions ≡ [] → s.watches ≡ [] → StopsAt shared_memory thread_code (gathered_log s.log) s.world [] s.breaks u.world how → StopsRight shared_memory thread_code (gathered_log s.log) s.opening how
    → StopsFree shared_memory thread_code (gathered_log s.log) s.opening how → u.legs ≡ with_rounds s.legs (all_steps thread_code u.world.threads - all_steps thread_code s.world.threads) → u ≡ moved s u.legs u.world → RunsOn s u (paused_of how)
runs_so s u how none unwatched stops right free legs same = record {
  pauses = subst (λ (places : List CodePlace). PausesAt shared_memory thread_code (gathered_log s.log) s.breaks (is_behind places (map (seen_now s.world) s.watches)) s.world u.world (paused_of how)) (sym none)
      (subst (λ (ks : List WatchedNumber). PausesAt shared_memory thread_code (gathered_log s.log) s.breaks (is_behind [] (map (seen_now s.world) ks)) s.world u.world (paused_of how)) (sym unwatched)
      (pauses_so (gathered_log s.log) s.breaks s.world u.world how stops));
  right = right_so (gathered_log s.log) s.opening how right;
  free = free_so (gathered_log s.log) s.opening how free;
  legs = legs;
  same = same;
}

-- moves leave all but the way and the world
pub passed_moves : (n : ℕ) (s x : DebugAt) → Passed n s x → x ≡ moved s x.legs x.world
passed_moves zero s x h = subst (λ (y : DebugAt). y ≡ moved s y.legs y.world) (sym h) refl
passed_moves (suc n) s x h =
    let before = passed_moves n s h.0 h.2 in
    (h.3).same ∙ ap (λ (z : DebugAt). moved z x.legs x.world) before

-- the last of so many moves, too
pub past_moves : (s : DebugAt) (n : ℕ) (u : DebugAt) (how : Paused) → RunsPast s n u how → u ≡ moved s u.legs u.world
past_moves s n u how h =
    let before = passed_moves h.passed s h.last h.way in
    elim h.runs [
      | inl r ↦ r.same ∙ ap (λ (z : DebugAt). moved z u.legs u.world) before
      | inr w ↦ subst (λ (y : DebugAt). y ≡ moved s y.legs y.world) (sym w.0) before
    ]

-- one break more
pub passed_more : (n : ℕ) (s y x : DebugAt) (m : Met) → Passed n s y → RunsOn y x (paused.Met m) → Passed (n + 1) s x
passed_more n s y x m way run = subst (λ (k : ℕ). Passed k s x) (sym (add-one n)) (y, m, way, run)

pub past_within : (s : DebugAt) (n : ℕ) (u : DebugAt) (how : Paused) → RunsPast s n u how → IsPauseOf how u.breaks
past_within s n u how h = elim h.runs [
  | inl r ↦ subst (λ (bs : List Break). IsPauseOf how bs) (sym (ap (λ (z : DebugAt). z.breaks) r.same)) (pause_within _ _ _ _ _ how r.pauses)
  | inr w ↦ subst (λ (p : Paused). IsPauseOf p u.breaks) (sym w.1) tt
]

-- what a move says of the state that it leads to
pub move_told : (s u : DebugAt) (head line text : List ℕ) → u ≡ moved s u.legs u.world → head ≡ line → IsMove head u.form u.world text → IsMove line s.form u.world text
move_told s u head line text same is h =
    subst (λ (l : List ℕ). IsMove l s.form u.world text) is (subst (λ (f : PlaceForm). IsMove head f u.world text) (ap (λ (z : DebugAt). z.form) same) h)
