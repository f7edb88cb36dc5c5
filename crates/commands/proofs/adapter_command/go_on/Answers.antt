use Rattle.std.proofs.Common.{inl, inr, refl}
use Rattle.commands.specs.Adapts.{no_files, IsAnsweredBehind, IsBrokenBehind}
use Rattle.commands.specs.Texts.{fault_text}
use Rattle.replica.specs.Log.{log_of}
use Rattle.commands.proofs.Adapted.{done_so, stopped_so}
use Rattle.commands.proofs.adapter_command.go_on.Goals as goal

pub returns-in-None-clause-done : goal.returns-in-None-clause-done
returns-in-None-clause-done g c =
    done_so (λ came. g.R.Source.brings c.args.source.now came c.go_without.new.source) (λ text. g.W.Sink.takes c.args.output.now text c.go_without.new.output) _
    (λ came text. IsAnsweredBehind came (g.R.Source.ended c.go_without.new.source) c.args.launch.request c.args.launch.number (g.F.Files.holds c.args.files.now) (g.F.Files.fails c.args.files.now) text)
    c.go_without.result (λ came text h. inr (no_files, inl (c.in-None.ensures.none, refl), h.0, h.1, h.2)) c.go_without.ensures.done

pub returns-in-None-clause-stopped : goal.returns-in-None-clause-stopped
returns-in-None-clause-stopped g c =
    stopped_so (λ came. g.R.Source.brings c.args.source.now came c.go_without.new.source) (λ text. g.W.Sink.takes c.args.output.now text c.go_without.new.output) _
    (λ fault came text. IsBrokenBehind came (g.R.Source.ended c.go_without.new.source) c.args.launch.request c.args.launch.number (g.F.Files.holds c.args.files.now) (g.F.Files.fails c.args.files.now) fault text)
    c.go_without.result (λ fault came text h. inr (no_files, inl (c.in-None.ensures.none, refl), h.0, h.1, h.2, h.3)) c.go_without.ensures.stopped

pub returns-in-Err-clause-done : goal.returns-in-Err-clause-done
returns-in-Err-clause-done g c =
    done_so (λ came. g.R.Source.brings c.args.source.now came c.go_without-in-Err.new.source) (λ text. g.W.Sink.takes c.args.output.now text c.go_without-in-Err.new.output) _
    (λ came text. IsAnsweredBehind came (g.R.Source.ended c.go_without-in-Err.new.source) c.args.launch.request c.args.launch.number (g.F.Files.holds c.args.files.now) (g.F.Files.fails c.args.files.now) text)
    c.go_without-in-Err.result (λ came text h. inr (fault_text c.in-Err.fault, inr (c.in-Some.wanted, c.in-Err.fault, c.in-Some.ensures.named, c.in-Err.ensures.refused, refl), h.0, h.1, h.2)) (rw (c.as_str.ensures.value, c.text.ensures.text) at c.go_without-in-Err.ensures.done)

pub returns-in-Err-clause-stopped : goal.returns-in-Err-clause-stopped
returns-in-Err-clause-stopped g c =
    stopped_so (λ came. g.R.Source.brings c.args.source.now came c.go_without-in-Err.new.source) (λ text. g.W.Sink.takes c.args.output.now text c.go_without-in-Err.new.output) _
    (λ fault came text. IsBrokenBehind came (g.R.Source.ended c.go_without-in-Err.new.source) c.args.launch.request c.args.launch.number (g.F.Files.holds c.args.files.now) (g.F.Files.fails c.args.files.now) fault text)
    c.go_without-in-Err.result (λ fault came text h. inr (fault_text c.in-Err.fault, inr (c.in-Some.wanted, c.in-Err.fault, c.in-Some.ensures.named, c.in-Err.ensures.refused, refl), h.0, h.1, h.2, h.3)) (rw (c.as_str.ensures.value, c.text.ensures.text) at c.go_without-in-Err.ensures.stopped)

pub returns-clause-done : goal.returns-clause-done
returns-clause-done g c =
    done_so (λ came. g.R.Source.brings c.args.source.now came c.go_in.new.source) (λ text. g.W.Sink.takes c.args.output.now text c.go_in.new.output) _
    (λ came text. IsAnsweredBehind came (g.R.Source.ended c.go_in.new.source) c.args.launch.request c.args.launch.number (g.F.Files.holds c.args.files.now) (g.F.Files.fails c.args.files.now) text)
    c.go_in.result (λ came text h. inl (c.in-Ok.input.program.valid, c.in-Ok.input.program.plan, log_of c.in-Ok.input.replica, (c.in-Some.wanted, c.in-Some.ensures.named, c.in-Ok.ensures.found), h)) c.go_in.ensures.done

pub returns-clause-stopped : goal.returns-clause-stopped
returns-clause-stopped g c =
    stopped_so (λ came. g.R.Source.brings c.args.source.now came c.go_in.new.source) (λ text. g.W.Sink.takes c.args.output.now text c.go_in.new.output) _
    (λ fault came text. IsBrokenBehind came (g.R.Source.ended c.go_in.new.source) c.args.launch.request c.args.launch.number (g.F.Files.holds c.args.files.now) (g.F.Files.fails c.args.files.now) fault text)
    c.go_in.result (λ fault came text h. inl (c.in-Ok.input.program.valid, c.in-Ok.input.program.plan, log_of c.in-Ok.input.replica, (c.in-Some.wanted, c.in-Some.ensures.named, c.in-Ok.ensures.found), h)) c.go_in.ensures.stopped
