-- Streams of files over memory.
use Rattle.std.proofs.Common.{◌≡◌, ◌≢◌, ◌<◌, ℕ, List, [], ◌++◌, refl, sym, ap, subst, ◌∙◌, arith}
use Rattle.std.specs.Prelude.{Option, Some, None}
use Rattle.std.proofs.lemmas.List.{append-nil}
use Rattle.debugger.specs.MemorySource.{MemorySource}
use Rattle.commands.specs.declared.memory.MemoryFile.{MemoryFile}
use Rattle.commands.specs.Files.{IsOpened}
use Rattle.commands.specs.Memory.{HoldsBytes, Fails}

-- what a stream of a file over memory brings, from one state to another
abbrev came_between : MemorySource → List ℕ → MemorySource → Type 0
came_between s xs t = (s.rest.now ≡ xs ++ t.rest.now) × (s.fails_at ≡ None → (t.fails_at ≡ None) × (t.failures ≡ s.failures))

-- a stream is opened at the first byte of a file
module _ (file : MemoryFile) (stream : MemorySource) (bytes : stream.rest.now ≡ file.bytes.now) (none_failed : stream.failures ≡ 0) (fails_at : stream.fails_at ≡ file.fails_at) where
  may_fail : (call : Option ℕ) → file.fails_at ≡ call → (later : MemorySource) → (stream.fails_at ≡ None → (later.fails_at ≡ None) × (later.failures ≡ stream.failures)) → stream.failures < later.failures → file.fails_at ≢ None
  may_fail None is later same more = let e : later.failures ≡ stream.failures = (same (fails_at ∙ is)).1 in absurd (omega (arith, more, e))
  may_fail (Some n) is later same more = λ none. let some : Some n ≡ None = sym is ∙ none in absurd cc

  opened_one : IsOpened came_between (λ s. s.failures) (λ s. s.rest.now ≡ []) (HoldsBytes (Some file)) (Fails (Some file)) stream
  opened_one = record {
    begins = λ came later h. (later.rest.now, sym h.0 ∙ bytes);
    whole = λ came later h end. sym (append-nil came) ∙ ap (λ (l : List ℕ). came ++ l) (sym end) ∙ sym h.0 ∙ bytes;
    none_failed = none_failed;
    breaks = λ came later h more. may_fail file.fails_at refl later h.1 more;
  }

pub opened_at : (found : Option MemoryFile) (file : MemoryFile) (stream : MemorySource) → found ≡ Some file → stream.rest.now ≡ file.bytes.now → stream.failures ≡ 0 → stream.fails_at ≡ file.fails_at
    → IsOpened came_between (λ s. s.failures) (λ s. s.rest.now ≡ []) (HoldsBytes found) (Fails found) stream
opened_at found file stream is bytes none_failed fails_at =
    subst (λ (o : Option MemoryFile). IsOpened came_between (λ s. s.failures) (λ s. s.rest.now ≡ []) (HoldsBytes o) (Fails o) stream) (sym is) (opened_one file stream bytes none_failed fails_at)
