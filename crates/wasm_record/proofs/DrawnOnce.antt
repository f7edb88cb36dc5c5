-- A number draws one run of a module and a plan.
use Rattle.std.proofs.Common.{◌≡◌, sym, ap, ◌∙◌, subst}
use Rattle.std.proofs.lemmas.Option.{same_Some}
use Rattle.block_objects.specs.SharedMemory.{shared_memory}
use Rattle.event_core.specs.Run.{IsRun, run_end}
use Rattle.thread_words.specs.ThreadCode.{thread_code}
use Rattle.run_pieces.specs.RunLog.{run_log}
use Rattle.recorder.specs.Picks.{picks_taken, picks_passed}
use Rattle.recorder.specs.Draw.{IsDrawnWhole, IsRandomRun}
use Rattle.recorder.specs.Stretches.{picks_in}
use Rattle.recorder.proofs.Once.{drawn_once}
use Rattle.wasm_world.specs.Opening.{WasmWorld}
use Rattle.wasm_record.specs.Recordings.{DrawnRunsAreOne, DrawnSchedulesRecord}

pub drawn_runs_are_one : DrawnRunsAreOne
drawn_runs_are_one m plan profile number timeouts steps one other x y =
    let same : x.world ≡ y.world = same_Some x.world y.world (sym x.opens ∙ y.opens) in
    let a = subst (λ (w : WasmWorld). IsRandomRun shared_memory thread_code steps number timeouts w one) same x.random in
    let b = y.random in
    let drawn = drawn_once shared_memory thread_code steps number timeouts y.world a.stretches b.stretches a.drawn b.drawn in (
      a.log ∙ ap (λ ss. run_log shared_memory thread_code y.world (picks_in ss)) drawn ∙ sym b.log,
      a.end ∙ ap (λ ss. run_end shared_memory thread_code y.world (picks_in ss)) drawn ∙ sym b.end,
    )

pub drawn_schedules_record : DrawnSchedulesRecord
drawn_schedules_record m plan profile number timeouts steps picks recorded d x =
    let ds = d.1 in
    let a = x.random in
    let same : ds.world ≡ x.world = same_Some ds.world x.world (sym ds.opens ∙ x.opens) in
    let whole = subst (λ (w : WasmWorld). IsDrawnWhole shared_memory thread_code steps number timeouts w d.0) same ds.drawn in
    let are : picks_in a.stretches ≡ picks = ap picks_in (drawn_once shared_memory thread_code steps number timeouts x.world a.stretches d.0 a.drawn whole.drawn) ∙ sym d.2 in
    let all : picks_in a.stretches ≡ picks_taken shared_memory thread_code steps x.world picks =
    are ∙ sym (subst (λ ps. picks_taken shared_memory thread_code steps x.world ps ≡ ps) (sym d.2) whole.taken) in
    record {
      world = x.world;
      opens = x.opens;
      run = subst (IsRun shared_memory thread_code x.world) all a.run;
      log = a.log ∙ ap (run_log shared_memory thread_code x.world) all;
      end = a.end ∙ ap (run_end shared_memory thread_code x.world) all;
      passed = a.none_passed ∙ sym (subst (λ ps. picks_passed shared_memory thread_code steps x.world ps ≡ 0) (sym d.2) whole.none_passed);
    }
