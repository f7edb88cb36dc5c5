-- What is gathered from a file that is read as a stream.
use Rattle.std.proofs.Common.{◌≡◌, ℕ, List, [], ◌++◌, inl, inr, refl, sym, ap, ◌<◌, ◌+◌, arith, Option, Some, None, Result, Ok, Err}
use Rattle.std.proofs.lemmas.List.{append-nil}
use Rattle.wasm_types.specs.declared.key.RunKey.{RunKey}
use Rattle.replica.specs.declared.log.Log.{Log}
use Rattle.replica.specs.declared.fault.GatherFault.{GatherFault}
use Rattle.replica.specs.declared.fault.GatherFault.TheVariants as gathering
use Rattle.replica.specs.declared.replica.Replica.{Replica}
use Rattle.replica.specs.Log.{log_of}
use Rattle.replica.specs.Lines.{IsCollectFault}
use Rattle.replica.specs.LineFault.{LineFault}
use Rattle.replica.specs.Gathered.{Collects, Refuses, IsBadLine, IsOtherRun, IsCutText, HasNoLine}
use Rattle.commands.specs.declared.fault.Fault.{Fault}
use Rattle.commands.specs.Files.{IsOpened}
use Rattle.commands.specs.Inputs.{IsLogOfLines, IsLinesFault, IsLinesRefused, lines_fault}

abbrev what_was_found : Result (Option Replica) Fault → Option Replica
what_was_found (Ok found) = found
what_was_found (Err fault) = None

module _ {Stream : Type 0} {brings : Stream → List ℕ → Stream → Type 0} {failed : Stream → ℕ} {ended : Stream → Type 0} {holds : List ℕ → Type 0} {fails : Type 0} {stream : Stream} (opened : IsOpened brings failed ended holds fails stream) (later : Stream) where
  log_in : (log : Log) → Collects (brings stream) (ended later) later log → (text : List ℕ) × holds text × IsLogOfLines text log
  log_in log k = (k.text, opened.whole k.text later k.came k.end, record { pieces = k.pieces; lines = k.lines; some = k.some; gathered = k.gathered })

  pub found_in : (found : Option Replica) → ((replica : Replica) → ◌≡◌ {A = Result (Option Replica) GatherFault} (Ok found) (Ok (Some replica)) → Collects (brings stream) (ended later) later (log_of replica))
      → (replica : Replica) → ◌≡◌ {A = Result (Option Replica) Fault} (Ok found) (Ok (Some replica)) → (text : List ℕ) × holds text × IsLogOfLines text (log_of replica)
  found_in found k replica h = log_in (log_of replica) (k replica (ap (λ (o : Option Replica). Ok o) (ap what_was_found h)))

  -- where the text ends there, the file is the text; else it goes on
  at_end : (text : List ℕ) (n : ℕ) (reason : LineFault) (came : brings stream text later) (bad : IsBadLine (ended later) text n) → HasNoLine (ended later) bad.rest → (bytes : List ℕ) × holds bytes × IsLinesFault bytes (gathering.BadLine n reason)
  at_end text n reason came bad (inl unlike) =
      let more : (rest : List ℕ) × holds (text ++ rest) = opened.begins text later came in
      (text ++ more.0, more.1, (text, more.0, refl, record { key = bad.key; pieces = bad.pieces; rest = bad.rest; begins = bad.begins; counted = bad.counted; bad = inl unlike }))
  at_end text n reason came bad (inr h) =
      (text, opened.whole text later came h.0, (text, [], sym (append-nil text), record { key = bad.key; pieces = bad.pieces; rest = bad.rest; begins = bad.begins; counted = bad.counted; bad = inr (refl, h.1, h.2) }))

  other_run_in : (n : ℕ) (own first : RunKey) → Refuses (brings stream) later (λ text. IsOtherRun text n own first) → (bytes : List ℕ) × holds bytes × IsLinesFault bytes (gathering.OtherRun n own first)
  other_run_in n own first h =
      let more : (rest : List ℕ) × holds (h.0 ++ rest) = opened.begins h.0 later h.1 in
      (h.0 ++ more.0, more.1, (h.0, more.0, refl, h.2))

  pub fault_in : (fault : GatherFault) → IsCollectFault fault → brings stream [] stream
      → ((n : ℕ) (reason : LineFault) → ◌≡◌ {A = Result (Option Replica) GatherFault} (Err fault) (Err (gathering.BadLine n reason)) → Refuses (brings stream) later (λ text. IsBadLine (ended later) text n))
      → ((n : ℕ) (own first : RunKey) → ◌≡◌ {A = Result (Option Replica) GatherFault} (Err fault) (Err (gathering.OtherRun n own first)) → Refuses (brings stream) later (λ text. IsOtherRun text n own first))
      → (◌≡◌ {A = Result (Option Replica) GatherFault} (Err fault) (Err gathering.SourceFailed) → Refuses (brings stream) later IsCutText × (failed later ≡ failed stream + 1))
      → IsLinesRefused holds fails (lines_fault fault)
  fault_in gathering.NoMemory may nothing bad other broke =
      let more : (rest : List ℕ) × holds ([] ++ rest) = opened.begins [] stream nothing in
      (more.0, more.1, tt)
  fault_in (gathering.OtherRun n own first) may nothing bad other broke = other_run_in n own first (other n own first refl)
  fault_in (gathering.BadLine n reason) may nothing bad other broke =
      let h : Refuses (brings stream) later (λ text. IsBadLine (ended later) text n) = bad n reason refl in
      at_end h.0 n reason h.1 h.2 h.2.bad
  fault_in gathering.SourceFailed may nothing bad other broke =
      let h : Refuses (brings stream) later IsCutText × (failed later ≡ failed stream + 1) = broke refl in
      let more : failed stream < failed later = omega (arith, h.1) in
      (refl, opened.breaks h.0.0 later h.0.1 more)
  fault_in gathering.SinkFailed may nothing bad other broke = absurd may
