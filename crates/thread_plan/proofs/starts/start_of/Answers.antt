use Rattle.std.proofs.Common.{◌∙◌, sym, refl}
use Rattle.std.proofs.lemmas.List.{drop_more}
use Rattle.thread_plan.specs.declared.global_use.GlobalUse.TheVariants.{Gets, Sets}
use Rattle.thread_plan.proofs.First.{none_named, one_named}
use Rattle.thread_plan.proofs.starts.start_of.Goals as goal
use Rattle.thread_plan.proofs.starts.start_of.Goals.{in-Gets, in-Sets, in-Nothing}

pub loop-instr-preserved : goal.loop-instr-preserved
loop-instr-preserved c =
    let split = drop_more c.args.code.now c.loop-instr.instr-index _ c.loop-instr-test.true in
    elim c.match-use_of.branch [
      | in-Gets w ↦ (
          let noted = one_named c.args.globals c.args.code.now c.loop-instr.instr-index _ c.loop-instr.first.items split c.loop-instr.invariant.noted w.note.new.first.items w.in-Gets.global _ (Gets w.in-Gets.global) (sym c.use_of.ensures ∙ w.in-Gets.is) (λ g. refl) refl c.loop-instr.invariant.count w.note.ensures.noted w.note.ensures.others in
          rw w.first-is (record { count = w.note.ensures.count ∙ c.loop-instr.invariant.count; noted = noted }))
      | in-Sets w ↦ (
          let noted = one_named c.args.globals c.args.code.now c.loop-instr.instr-index _ c.loop-instr.first.items split c.loop-instr.invariant.noted w.note-in-Sets.new.first.items w.in-Sets.global _ (Sets w.in-Sets.global) (sym c.use_of.ensures ∙ w.in-Sets.is) (λ g. refl) refl c.loop-instr.invariant.count w.note-in-Sets.ensures.noted w.note-in-Sets.ensures.others in
          rw w.first-is (record { count = w.note-in-Sets.ensures.count ∙ c.loop-instr.invariant.count; noted = noted }))
      | in-Nothing w ↦ (
          let noted = none_named c.args.globals c.args.code.now c.loop-instr.instr-index _ c.loop-instr.first.items split c.loop-instr.invariant.noted (sym c.use_of.ensures ∙ w.in-Nothing.is) in
          rw w.first-is (record { count = c.loop-instr.invariant.count; noted = noted }))
    ]
