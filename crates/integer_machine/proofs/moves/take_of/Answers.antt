use Rattle.std.proofs.lemmas.Result.{on_ok_weaker}
use Rattle.thread_words.specs.Words.{instance_at}
use Rattle.integer_machine.proofs.Moving.{moving}
use Rattle.integer_machine.proofs.Going.{reads, ask_at, asks_by_access, sleeps, wakes_to}
use Rattle.integer_machine.proofs.moves.take_of.Goals as goal

pub instruction-instr-requires : goal.instruction-instr-requires
instruction-instr-requires c = reads c.args.valid.now c.args.instance.now c.args.m.now c.requires.sound.results (moving c.args.valid.now c.args.instance.now c.args.m.now c.requires.sound c.in-Running.is)

pub answer-requires-clause-access : goal.answer-requires-clause-access
answer-requires-clause-access c =
    let a = ask_at c.args.valid.now c.args.instance.now c.args.m.now c.requires.sound c.instruction-instr.result.now c.in-Running.is c.requires.next c.instruction-instr.ensures in
    asks_by_access c.args.valid.now (instance_at c.args.instance.now) c.instruction-instr.result.now a.stack a.action a.after c.args.m.now a.at

pub answer-requires-clause-can : goal.answer-requires-clause-can
answer-requires-clause-can c =
    let a = ask_at c.args.valid.now c.args.instance.now c.args.m.now c.requires.sound c.instruction-instr.result.now c.in-Running.is c.requires.next c.instruction-instr.ensures in
    (c.args.valid.now, instance_at c.args.instance.now, a.stack, a.action, a.after, a.at, c.args.instance.now.limit)

pub returns-in-Running-clause-ok : goal.returns-in-Running-clause-ok
returns-in-Running-clause-ok c =
    let a = ask_at c.args.valid.now c.args.instance.now c.args.m.now c.requires.sound c.instruction-instr.result.now c.in-Running.is c.requires.next c.instruction-instr.ensures in
    on_ok_weaker c.answer.result (λ h. (a.gives c.args.reply c.answer.new.m (h c.args.valid.now (instance_at c.args.instance.now) a.stack a.action a.after a.at)).means) c.answer.ensures.ok

pub returns-in-Running-clause-sound : goal.returns-in-Running-clause-sound
returns-in-Running-clause-sound c =
    let a = ask_at c.args.valid.now c.args.instance.now c.args.m.now c.requires.sound c.instruction-instr.result.now c.in-Running.is c.requires.next c.instruction-instr.ensures in
    on_ok_weaker c.answer.result (λ h. (a.gives c.args.reply c.answer.new.m (h c.args.valid.now (instance_at c.args.instance.now) a.stack a.action a.after a.at)).sound) c.answer.ensures.ok

pub returns-in_default : goal.returns-in_default
returns-in_default c =
    let z = sleeps c.args.valid.now c.args.instance.now c.args.m.now c.requires.sound c.requires.next c.in_default.not-Running in
    record {
      ok = on_ok_weaker c.wake.result (λ h. (wakes_to c.args.valid.now c.args.instance.now c.args.reply c.args.m.now c.wake.new.m c.requires.sound z (h z.address z.time z.stack z.stands)).means) c.wake.ensures.ok;
      sound = on_ok_weaker c.wake.result (λ h. (wakes_to c.args.valid.now c.args.instance.now c.args.reply c.args.m.now c.wake.new.m c.requires.sound z (h z.address z.time z.stack z.stands)).sound) c.wake.ensures.ok;
      err = c.wake.ensures.err;
      room = λ h. c.wake.ensures.room h.words;
    }
