-- Events that are told.
use Rattle.std.proofs.Common.{◌≡◌, ◌≤◌, ◌+◌, List, length, Result, Ok, Err, IfOk, inl, inr, ap, ◌∙◌, subst}
use Rattle.std.specs.Prelude.{ℕ, Option, Some, String, string_bytes}
use Rattle.std.specs.Global.{Global}
use Rattle.wasm_types.specs.declared.no_memory.NoMemory.{NoMemory}
use Rattle.rw_objects.specs.declared.count.Count.{Count}
use Rattle.wasm_world.specs.Objects.{block_of, block_object}
use Rattle.wasm_world.specs.SharedMemory.{shared_memory}
use Rattle.wasm_world.specs.Opening.{WasmWorld}
use Rattle.replay_laws.specs.Log.{Log}
use Rattle.wasm_replay.specs.Replays.{gathered_log}
use Rattle.debug_views.specs.Values.{memory_bytes}
use Rattle.debugger.specs.declared.touched.Events.TheVariants.{Made}
use Rattle.debugger.specs.declared.touched.Role.{Role}
use Rattle.debugger.specs.declared.touched.Sought.{Sought}
use Rattle.debugger.specs.Answers.{body_text}
use Rattle.debugger.specs.Replies.{AreTold, DebugAt, IsBody, IsObject, counted, sought_at}
use Rattle.debugger.specs.Touched.{events_of, object_text, sought_line}

pub sought_is : (s : DebugAt) (r : Role) (address object : ℕ) (count : Count) (counts : ℕ → Count) → object ≡ block_object (block_of s.power address) → count ≡ counts object → counts ≡ s.world.memory.counts
    → record { role = r; object = object; version = count.version } ≡ sought_at s r address
sought_is s r address object count counts is found same =
    let there : count ≡ s.world.memory.counts (block_object (block_of s.power address)) = found ∙ ap (λ (f : ℕ → Count). f object) same ∙ ap s.world.memory.counts is in
    let named : ℕ → Sought = λ o. record { role = r; object = o; version = count.version } in
    let counted : Count → Sought = λ k. record { role = r; object = block_object (block_of s.power address); version = k.version } in
    ap named is ∙ ap counted there

is_body : (lines text : List ℕ) (body : Result (String Global) NoMemory) → text ≡ body_text body → IfOk body (λ t. string_bytes t ≡ lines) → IsBody lines text
is_body lines text (Ok t) is h = inl (is ∙ h)
is_body lines text (Err e) is h = inr is

pub told_of : (s : DebugAt) (r : Role) (address : ℕ) (w : WasmWorld) (log : Log) (sought : Sought) (text : List ℕ) (body : Result (String Global) NoMemory) → w ≡ s.world → log ≡ gathered_log s.log → sought ≡ sought_at s r address
    → address + 1 ≤ length (memory_bytes shared_memory w) → text ≡ body_text body → IfOk body (λ t. string_bytes t ≡ sought_line sought (events_of log sought Made 0 w.threads)) → AreTold s r address text
told_of s r address w log sought text body same logged asked within is h = record {
  within = subst (λ (x : WasmWorld). address + 1 ≤ length (memory_bytes shared_memory x)) same within;
  is = subst (λ (x : WasmWorld). IsBody (sought_line (sought_at s r address) (events_of (gathered_log s.log) (sought_at s r address) Made 0 x.threads)) text) same
      (subst (λ (l : Log). IsBody (sought_line (sought_at s r address) (events_of l (sought_at s r address) Made 0 w.threads)) text) logged
      (subst (λ (q : Sought). IsBody (sought_line q (events_of log q Made 0 w.threads)) text) asked (is_body (sought_line sought (events_of log sought Made 0 w.threads)) text body is h)));
}

pub object_told : (s : DebugAt) (object : ℕ) (w : WasmWorld) (log : Log) (count : Count) (text : List ℕ) (body : Result (String Global) NoMemory) → w ≡ s.world → log ≡ gathered_log s.log → Some count ≡ counted s object
    → text ≡ body_text body → IfOk body (λ t. string_bytes t ≡ object_text log s.power w.threads object count) → IsObject s object (counted s object) text
object_told s object w log count text body same logged counts is h =
    subst (λ (o : Option Count). IsObject s object o text) counts
    (subst (λ (x : WasmWorld). IsBody (object_text (gathered_log s.log) s.power x.threads object count) text) same
    (subst (λ (l : Log). IsBody (object_text l s.power w.threads object count) text) logged (is_body (object_text log s.power w.threads object count) text body is h)))
