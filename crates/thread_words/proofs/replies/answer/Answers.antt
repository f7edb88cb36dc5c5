use Rattle.std.proofs.Common.{◌∙◌, refl, sym, ap, subst}
use Rattle.std.proofs.lemmas.Result.{on_ok_weaker}
use Rattle.wasm_types.specs.declared.operation.Reply.TheVariants as reply
use Rattle.thread_words.specs.Thread.{goes_on}
use Rattle.thread_words.specs.Accesses.{Answers}
use Rattle.thread_words.proofs.Replying.{GoesOn, can_resume, answers_by, stops_by}
use Rattle.thread_words.proofs.replies.answer.Goals as goal

pub resume-requires : goal.resume-requires
resume-requires c = let p = can_resume c.args.instr c.args.m.now c.operand_count-taken.result c.requires.can c.requires.access c.operand_count-taken.ensures in record { place = p.0; enough = p.1 }

pub resume-requires-in-Stored : goal.resume-requires-in-Stored
resume-requires-in-Stored c = let p = can_resume c.args.instr c.args.m.now c.operand_count-taken.result c.requires.can c.requires.access c.operand_count-taken.ensures in record { place = p.0; enough = p.1 }

pub resume-requires-in-None : goal.resume-requires-in-None
resume-requires-in-None c = let p = can_resume c.args.instr c.args.m.now c.operand_count-taken.result c.requires.can c.requires.access c.operand_count-taken.ensures in record { place = p.0; enough = p.1 }

pub returns-in-Trap-clause-ok : goal.returns-in-Trap-clause-ok
returns-in-Trap-clause-ok c = stops_by c.args.instr c.args.reply c.in-Trap.trap c.args.m.now _ c.requires.access c.in-Trap.is refl

pub returns-in-Value-clause-ok : goal.returns-in-Value-clause-ok
returns-in-Value-clause-ok c =
    on_ok_weaker c.resume.result
    (answers_by c.args.instr c.args.reply (reply.Value c.in-Value.value) c.args.m.now c.resume.new.m c.word.result c.operand_count-taken.result c.reply_type-t.result c.requires.access tt c.in-Value.is c.operand_count-taken.ensures c.reply_type-t.ensures (λ ts s. ap (λ b. goes_on ts b s) (sym c.word.ensures.bits))) c.resume.ensures.ok

pub returns-in-Stored-clause-ok : goal.returns-in-Stored-clause-ok
returns-in-Stored-clause-ok c =
    on_ok_weaker c.resume-in-Stored.result
    (answers_by c.args.instr c.args.reply (reply.Stored) c.args.m.now c.resume-in-Stored.new.m 0 c.operand_count-taken.result c.reply_type-t.result c.requires.access tt c.in-Stored.is c.operand_count-taken.ensures c.reply_type-t.ensures (λ ts s. refl)) c.resume-in-Stored.ensures.ok

pub returns-in-None-clause-ok : goal.returns-in-None-clause-ok
returns-in-None-clause-ok c =
    on_ok_weaker c.resume-in-None.result
    (answers_by c.args.instr c.args.reply (reply.Sleeps) c.args.m.now c.resume-in-None.new.m 0 c.operand_count-taken.result c.reply_type-t.result c.requires.access (subst (λ y. GoesOn reply.Sleeps y) (sym c.in-None.is ∙ c.wait_offset.ensures) tt) c.in-Sleeps.is c.operand_count-taken.ensures c.reply_type-t.ensures (λ ts s. refl)) c.resume-in-None.ensures.ok

pub returns-in-Some-clause-ok : goal.returns-in-Some-clause-ok
returns-in-Some-clause-ok c = subst (λ y. Answers c.args.instr y c.args.m.now c.fall_asleep.new.m) (sym c.in-Sleeps.is) (c.fall_asleep.ensures c.args.instr (sym c.in-Some.ensures))
