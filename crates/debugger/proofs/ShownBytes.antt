-- Bytes that are shown.
use Rattle.std.proofs.Common.{◌≡◌, ◌≤◌, ◌+◌, List, length, Result, Ok, Err, IfOk, inl, inr, ap, ◌∙◌, subst}
use Rattle.std.specs.Prelude.{ℕ, String, string_bytes}
use Rattle.std.specs.Global.{Global}
use Rattle.wasm_types.specs.declared.no_memory.NoMemory.{NoMemory}
use Rattle.wasm_types.specs.declared.range.ByteRange.{ByteRange}
use Rattle.wasm_world.specs.SharedMemory.{shared_memory}
use Rattle.wasm_world.specs.Opening.{WasmWorld}
use Rattle.debug_views.specs.Blocks.{AreHolding}
use Rattle.debug_views.specs.declared.blocks.BlockRange.{BlockRange}
use Rattle.debug_views.specs.Values.{memory_bytes}
use Rattle.debugger.specs.Answers.{body_text}
use Rattle.debugger.specs.Replies.{AreShown, DebugAt, bytes_text}

pub shown_of : (s : DebugAt) (r : ByteRange) (w : WasmWorld) (text : List ℕ) (body : Result (String Global) NoMemory) → w ≡ s.world → r.from + r.len ≤ length (memory_bytes shared_memory w) → text ≡ body_text body
    → IfOk body (λ t. (blocks : BlockRange) × AreHolding s.power r.from r.len blocks × (string_bytes t ≡ bytes_text w blocks r)) → AreShown s r text
shown_of s r w text (Ok t) same within is h = record {
  within = subst (λ (x : WasmWorld). r.from + r.len ≤ length (memory_bytes shared_memory x)) same within;
  is = inl (h.0, h.1, is ∙ h.2 ∙ ap (λ (x : WasmWorld). bytes_text x h.0 r) same);
}
shown_of s r w text (Err e) same within is h = record {
  within = subst (λ (x : WasmWorld). r.from + r.len ≤ length (memory_bytes shared_memory x)) same within;
  is = inr is;
}
