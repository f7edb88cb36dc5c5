-- What the timer can say is what was asked for.
use Rattle.std.proofs.Common.{Bool, min, sym, subst}
use Rattle.std.proofs.lemmas.Result.{IfOk-weaker}
use Rattle.wasm_types.specs.declared.key.Profile.TheVariants.{Two}
use Rattle.wasm_types.specs.declared.sizes.TheConstants.{MOST_STEPS}
use Rattle.wasm_record.specs.Recordings.{RecordsThreads}
use Rattle.commands.proofs.thread_runs.recording_by_threads.Goals as goal

pub returns-then-times_out-clause-records : goal.returns-then-times_out-clause-records
returns-then-times_out-clause-records g c =
    IfOk-weaker c.record_threads.result _ _
    (λ r h. subst (λ (b : Bool). RecordsThreads c.args.program.now.valid c.args.program.now.plan (Two c.args.block) (λ t s. b) (min c.args.steps MOST_STEPS) r.recorded) (sym c.if-times_out.true) h)
    c.record_threads.ensures.records

pub returns-else-times_out-clause-records : goal.returns-else-times_out-clause-records
returns-else-times_out-clause-records g c =
    IfOk-weaker c.record_threads-else-times_out.result _ _
    (λ r h. subst (λ (b : Bool). RecordsThreads c.args.program.now.valid c.args.program.now.plan (Two c.args.block) (λ t s. b) (min c.args.steps MOST_STEPS) r.recorded) (sym c.if-times_out.false) h)
    c.record_threads-else-times_out.ensures.records
