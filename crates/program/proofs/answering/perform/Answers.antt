use Rattle.std.proofs.Common.{◌≡◌, ◌⊎◌, ◌+◌, ◌++◌, ℕ, List, [], ◌∷◌, inl, rules, refl, subst, sym}
use Rattle.commands.specs.Texts.{skipped_text}
use Rattle.program.specs.Answers.{IsSaid}
use Rattle.program.proofs.Stops.{none_said, shown_done, gathered_done, shown_stops, record_done, hunt_done, gathered_stops, replay_stops, replayed_as, debug_done, debug_stops, adapter_done, adapter_stops, failure_in, worked_in, written_in}
use Rattle.program.proofs.answering.perform.Goals as goal

pub returns-in-Gather-clause-stopped : goal.returns-in-Gather-clause-stopped
returns-in-Gather-clause-stopped g c =
    gathered_stops _ _ _ _ _ _ _ _ _ c.args.request.now c.in-Gather.skips c.in-Gather.form c.list.result (cc (c.in-Gather.is)) c.list.ensures.stopped

pub returns-in-Gather-clause-done : goal.returns-in-Gather-clause-done
returns-in-Gather-clause-done g c =
    let took : List ℕ → Type 0 = λ text. g.W.Sink.takes c.args.output.now text c.list.new.output in
    let brought : List ℕ → Type 0 = λ text. g.R.Source.brings c.args.source.now text c.list.new.source in
    let tells : List ℕ → Type 0 = λ text. g.E.Sink.takes c.args.errors.now text c.list.new.errors ⊎ (g.E.Sink.failed c.list.new.errors ≡ g.E.Sink.failed c.args.errors.now + 1) in
    let none = λ (same : c.list.new.errors ≡ c.args.errors.now). none_said tells c.args.why (inl (subst (λ e. g.E.Sink.takes c.args.errors.now [] e) (sym same) (g.met.E.Sink.takes_nothing c.args.errors.now))) in
    gathered_done _ (g.F.Files.fails c.args.files.now) brought (g.R.Source.ended c.list.new.source) (Unit {0}) took (Unit {0}) (Unit {0}) (Unit {0}) c.args.request.now c.in-Gather.skips c.in-Gather.form (λ skipped. tells (skipped_text skipped ++ 10 ∷ [])) (IsSaid tells c.args.why) tells
    (c.list.new.errors ≡ c.args.errors.now) c.list.result (cc (c.in-Gather.is)) none c.list.ensures.done

pub returns-in-Ok-clause-stopped : goal.returns-in-Ok-clause-stopped
returns-in-Ok-clause-stopped g c =
    shown_stops _ _ _ _ _ _ _ _ _ c.args.request.now _ c.deref.result.now c.in-Ok.text.items c.show.result c.in-Check.is refl c.deref.ensures.value (c.in-Ok.ensures.checked, tt) c.show.ensures.error c.show.ensures.one_failed c.show.ensures.begun

pub returns-in-Ok-record-clause-done : goal.returns-in-Ok-record-clause-done
returns-in-Ok-record-clause-done g c =
    let took : List ℕ → Type 0 = λ text. g.W.Sink.takes c.args.output.now text c.show_and_tell.new.output in
    let tells : List ℕ → Type 0 = λ text. g.E.Sink.takes c.args.errors.now text c.show_and_tell.new.errors ⊎ (g.E.Sink.failed c.show_and_tell.new.errors ≡ g.E.Sink.failed c.args.errors.now + 1) in
    record_done _ (g.F.Files.fails c.args.files.now) _ _ (Unit {0}) took (Unit {0}) (Unit {0}) (Unit {0}) c.args.request.now _ c.in-Ok-record.answer (λ skipped. tells (skipped_text skipped ++ 10 ∷ [])) (IsSaid tells c.args.why) tells c.show_and_tell.result c.in-Record.is c.in-Ok-record.ensures.recorded c.show_and_tell.ensures.shown
    c.show_and_tell.ensures.told

pub returns-in-Ok-hunt-clause-done : goal.returns-in-Ok-hunt-clause-done
returns-in-Ok-hunt-clause-done g c =
    let took : List ℕ → Type 0 = λ text. g.W.Sink.takes c.args.output.now text c.show_and_tell-in-Ok-hunt.new.output in
    let tells : List ℕ → Type 0 = λ text. g.E.Sink.takes c.args.errors.now text c.show_and_tell-in-Ok-hunt.new.errors ⊎ (g.E.Sink.failed c.show_and_tell-in-Ok-hunt.new.errors ≡ g.E.Sink.failed c.args.errors.now + 1) in
    hunt_done _ (g.F.Files.fails c.args.files.now) _ _ (Unit {0}) took (Unit {0}) (Unit {0}) (Unit {0}) c.args.request.now _ c.in-Ok-hunt.answer (λ skipped. tells (skipped_text skipped ++ 10 ∷ [])) (IsSaid tells c.args.why) tells c.show_and_tell-in-Ok-hunt.result c.in-Hunt.is c.in-Ok-hunt.ensures.hunted c.show_and_tell-in-Ok-hunt.ensures.shown
    c.show_and_tell-in-Ok-hunt.ensures.told

pub returns-in-Ok-clause-done : goal.returns-in-Ok-clause-done
returns-in-Ok-clause-done g c =
    let took : List ℕ → Type 0 = λ text. g.W.Sink.takes c.args.output.now text c.show.new.output in
    let tells : List ℕ → Type 0 = λ text. g.E.Sink.takes c.args.errors.now text c.args.errors.now ⊎ (g.E.Sink.failed c.args.errors.now ≡ g.E.Sink.failed c.args.errors.now + 1) in
    let none = none_said tells c.args.why (inl (g.met.E.Sink.takes_nothing c.args.errors.now)) in
    shown_done _ (g.F.Files.fails c.args.files.now) _ _ (Unit {0}) took (Unit {0}) (Unit {0}) (Unit {0}) c.args.request.now _ c.deref.result.now c.in-Ok.text.items (λ skipped. tells (skipped_text skipped ++ 10 ∷ [])) (IsSaid tells c.args.why) tells c.show.result c.in-Check.is c.deref.ensures.value (c.in-Ok.ensures.checked, none) c.show.ensures.shown

pub returns-in-Ok-replay-clause-done : goal.returns-in-Ok-replay-clause-done
returns-in-Ok-replay-clause-done g c =
    let took : List ℕ → Type 0 = λ text. g.W.Sink.takes c.args.output.now text c.show-in-Ok-replay.new.output in
    let tells : List ℕ → Type 0 = λ text. g.E.Sink.takes c.args.errors.now text c.args.errors.now ⊎ (g.E.Sink.failed c.args.errors.now ≡ g.E.Sink.failed c.args.errors.now + 1) in
    let none = none_said tells c.args.why (inl (g.met.E.Sink.takes_nothing c.args.errors.now)) in
    shown_done _ (g.F.Files.fails c.args.files.now) _ _ (Unit {0}) took (Unit {0}) (Unit {0}) (Unit {0}) c.args.request.now _ c.as_bytes.result.now _ (λ skipped. tells (skipped_text skipped ++ 10 ∷ [])) (IsSaid tells c.args.why) tells c.show-in-Ok-replay.result c.in-Replay.is (search rules) (replayed_as _ _ _ _ _ c.notes_by-asked.ensures c.in-Ok-replay.ensures.replayed, none) c.show-in-Ok-replay.ensures.shown

pub returns-in-Ok-view-clause-done : goal.returns-in-Ok-view-clause-done
returns-in-Ok-view-clause-done g c =
    let took : List ℕ → Type 0 = λ text. g.W.Sink.takes c.args.output.now text c.show-in-Ok-view.new.output in
    let tells : List ℕ → Type 0 = λ text. g.E.Sink.takes c.args.errors.now text c.args.errors.now ⊎ (g.E.Sink.failed c.args.errors.now ≡ g.E.Sink.failed c.args.errors.now + 1) in
    let none = none_said tells c.args.why (inl (g.met.E.Sink.takes_nothing c.args.errors.now)) in
    shown_done _ (g.F.Files.fails c.args.files.now) _ _ (Unit {0}) took (Unit {0}) (Unit {0}) (Unit {0}) c.args.request.now _ c.as_bytes-in-Ok-view.result.now _ (λ skipped. tells (skipped_text skipped ++ 10 ∷ [])) (IsSaid tells c.args.why) tells c.show-in-Ok-view.result c.in-View.is (search rules) (c.in-Ok-view.ensures.viewed, none) c.show-in-Ok-view.ensures.shown

pub returns-in-Ok-record-clause-stopped : goal.returns-in-Ok-record-clause-stopped
returns-in-Ok-record-clause-stopped g c =
    let a = c.in-Ok-record.answer in
    shown_stops _ _ _ _ _ _ _ _ _ c.args.request.now _ a.text a.text c.show_and_tell.result c.in-Record.is refl refl (a, c.in-Ok-record.ensures.recorded, refl, tt) c.show_and_tell.ensures.error c.show_and_tell.ensures.one_failed c.show_and_tell.ensures.begun

pub returns-in-Ok-hunt-clause-stopped : goal.returns-in-Ok-hunt-clause-stopped
returns-in-Ok-hunt-clause-stopped g c =
    let a = c.in-Ok-hunt.answer in
    shown_stops _ _ _ _ _ _ _ _ _ c.args.request.now _ a.text a.text c.show_and_tell-in-Ok-hunt.result c.in-Hunt.is refl refl (a, c.in-Ok-hunt.ensures.hunted, refl, tt) c.show_and_tell-in-Ok-hunt.ensures.error c.show_and_tell-in-Ok-hunt.ensures.one_failed c.show_and_tell-in-Ok-hunt.ensures.begun

pub returns-in-Ok-replay-clause-stopped : goal.returns-in-Ok-replay-clause-stopped
returns-in-Ok-replay-clause-stopped g c =
    shown_stops _ _ _ _ _ _ _ _ _ c.args.request.now _ c.as_bytes.result.now _ c.show-in-Ok-replay.result c.in-Replay.is refl (search rules) (replayed_as _ _ _ _ _ c.notes_by-asked.ensures c.in-Ok-replay.ensures.replayed, tt) c.show-in-Ok-replay.ensures.error c.show-in-Ok-replay.ensures.one_failed c.show-in-Ok-replay.ensures.begun

pub returns-in-Ok-view-clause-stopped : goal.returns-in-Ok-view-clause-stopped
returns-in-Ok-view-clause-stopped g c =
    shown_stops _ _ _ _ _ _ _ _ _ c.args.request.now _ c.as_bytes-in-Ok-view.result.now _ c.show-in-Ok-view.result c.in-View.is refl (search rules) (c.in-Ok-view.ensures.viewed, tt) c.show-in-Ok-view.ensures.error c.show-in-Ok-view.ensures.one_failed c.show-in-Ok-view.ensures.begun

pub returns-in-Err-replay-clause-stopped : goal.returns-in-Err-replay-clause-stopped
returns-in-Err-replay-clause-stopped g c =
    replay_stops _ _ _ _ _ _ _ _ _ c.args.request.now _ _ _ _ c.in-Err-replay.fault c.in-Replay.is c.in-Err-replay.ensures.refused refl

pub returns-in-Ok-trace-clause-done : goal.returns-in-Ok-trace-clause-done
returns-in-Ok-trace-clause-done g c =
    let took : List ℕ → Type 0 = λ text. g.W.Sink.takes c.args.output.now text c.show-in-Ok-trace.new.output in
    let tells : List ℕ → Type 0 = λ text. g.E.Sink.takes c.args.errors.now text c.args.errors.now ⊎ (g.E.Sink.failed c.args.errors.now ≡ g.E.Sink.failed c.args.errors.now + 1) in
    let none = none_said tells c.args.why (inl (g.met.E.Sink.takes_nothing c.args.errors.now)) in
    shown_done _ (g.F.Files.fails c.args.files.now) _ _ (Unit {0}) took (Unit {0}) (Unit {0}) (Unit {0}) c.args.request.now _ c.as_bytes-in-Ok-trace.result.now _ (λ skipped. tells (skipped_text skipped ++ 10 ∷ [])) (IsSaid tells c.args.why) tells c.show-in-Ok-trace.result c.in-Trace.is (search rules) (c.in-Ok-trace.ensures.traced, none) c.show-in-Ok-trace.ensures.shown

pub returns-in-Ok-trace-clause-stopped : goal.returns-in-Ok-trace-clause-stopped
returns-in-Ok-trace-clause-stopped g c =
    shown_stops _ _ _ _ _ _ _ _ _ c.args.request.now _ c.as_bytes-in-Ok-trace.result.now _ c.show-in-Ok-trace.result c.in-Trace.is refl (search rules) (c.in-Ok-trace.ensures.traced, tt) c.show-in-Ok-trace.ensures.error c.show-in-Ok-trace.ensures.one_failed c.show-in-Ok-trace.ensures.begun

pub returns-in-Debug-clause-done : goal.returns-in-Debug-clause-done
returns-in-Debug-clause-done g c =
    let took : List ℕ → Type 0 = λ text. g.W.Sink.takes c.args.output.now text c.debug.new.output in
    let brought : List ℕ → Type 0 = λ text. g.R.Source.brings c.args.source.now text c.debug.new.source in
    let tells : List ℕ → Type 0 = λ text. g.E.Sink.takes c.args.errors.now text c.args.errors.now ⊎ (g.E.Sink.failed c.args.errors.now ≡ g.E.Sink.failed c.args.errors.now + 1) in
    let none = none_said tells c.args.why (inl (g.met.E.Sink.takes_nothing c.args.errors.now)) in
    debug_done (g.F.Files.holds c.args.files.now) (g.F.Files.fails c.args.files.now) brought (g.R.Source.ended c.debug.new.source) (Unit {0}) took (Unit {0}) (Unit {0}) (Unit {0}) c.args.request.now c.in-Debug.request (λ skipped. tells (skipped_text skipped ++ 10 ∷ [])) (IsSaid tells c.args.why) tells
    c.debug.result (cc (c.in-Debug.is)) none c.debug.ensures.done

pub returns-in-Debug-clause-stopped : goal.returns-in-Debug-clause-stopped
returns-in-Debug-clause-stopped g c =
    let took : List ℕ → Type 0 = λ text. g.W.Sink.takes c.args.output.now text c.debug.new.output in
    let brought : List ℕ → Type 0 = λ text. g.R.Source.brings c.args.source.now text c.debug.new.source in
    let broke : Type 0 = g.R.Source.failed c.debug.new.source ≡ g.R.Source.failed c.args.source.now + 1 in
    let unheard : Type 0 = c.debug.new.source ≡ c.args.source.now in
    let unwritten : Type 0 = c.debug.new.output ≡ c.args.output.now in
    let unwritable : Type 0 = g.W.Sink.failed c.debug.new.output ≡ g.W.Sink.failed c.args.output.now + 1 in
    debug_stops (g.F.Files.holds c.args.files.now) (g.F.Files.fails c.args.files.now) brought (g.R.Source.ended c.debug.new.source) broke took unheard unwritten unwritable c.args.request.now c.in-Debug.request c.debug.result (cc (c.in-Debug.is)) c.debug.ensures.stopped

pub returns-in-Adapter-clause-done : goal.returns-in-Adapter-clause-done
returns-in-Adapter-clause-done g c =
    let took : List ℕ → Type 0 = λ text. g.W.Sink.takes c.args.output.now text c.adapt.new.output in
    let brought : List ℕ → Type 0 = λ text. g.R.Source.brings c.args.source.now text c.adapt.new.source in
    let tells : List ℕ → Type 0 = λ text. g.E.Sink.takes c.args.errors.now text c.args.errors.now ⊎ (g.E.Sink.failed c.args.errors.now ≡ g.E.Sink.failed c.args.errors.now + 1) in
    let none = none_said tells c.args.why (inl (g.met.E.Sink.takes_nothing c.args.errors.now)) in
    adapter_done (g.F.Files.holds c.args.files.now) (g.F.Files.fails c.args.files.now) brought (g.R.Source.ended c.adapt.new.source) (Unit {0}) took (Unit {0}) (Unit {0}) (Unit {0}) c.args.request.now (λ skipped. tells (skipped_text skipped ++ 10 ∷ [])) (IsSaid tells c.args.why) tells
    c.adapt.result (cc (c.in-Adapter.is)) none c.adapt.ensures.done

pub returns-in-Adapter-clause-stopped : goal.returns-in-Adapter-clause-stopped
returns-in-Adapter-clause-stopped g c =
    let took : List ℕ → Type 0 = λ text. g.W.Sink.takes c.args.output.now text c.adapt.new.output in
    let brought : List ℕ → Type 0 = λ text. g.R.Source.brings c.args.source.now text c.adapt.new.source in
    let broke : Type 0 = g.R.Source.failed c.adapt.new.source ≡ g.R.Source.failed c.args.source.now + 1 in
    let unheard : Type 0 = c.adapt.new.source ≡ c.args.source.now in
    let unwritten : Type 0 = c.adapt.new.output ≡ c.args.output.now in
    let unwritable : Type 0 = g.W.Sink.failed c.adapt.new.output ≡ g.W.Sink.failed c.args.output.now + 1 in
    adapter_stops (g.F.Files.holds c.args.files.now) (g.F.Files.fails c.args.files.now) brought (g.R.Source.ended c.adapt.new.source) broke took unheard unwritten unwritable c.args.request.now c.adapt.result (cc (c.in-Adapter.is))
    (failure_in c.adapt.result (g.R.Source.failed c.args.source.now) (g.R.Source.failed c.adapt.new.source) (g.W.Sink.failed c.args.output.now) (g.W.Sink.failed c.adapt.new.output) c.adapt.ensures.source_failures c.adapt.ensures.output_failures)
    c.adapt.ensures.stopped

pub returns-in-Adapter-clause-source_worked : goal.returns-in-Adapter-clause-source_worked
returns-in-Adapter-clause-source_worked g c = worked_in c.adapt.result (g.R.Source.failed c.args.source.now) (g.R.Source.failed c.adapt.new.source) c.adapt.ensures.source_failures

pub returns-in-Adapter-clause-output_worked : goal.returns-in-Adapter-clause-output_worked
returns-in-Adapter-clause-output_worked g c = written_in c.adapt.result (g.W.Sink.failed c.args.output.now) (g.W.Sink.failed c.adapt.new.output) c.adapt.ensures.output_failures
