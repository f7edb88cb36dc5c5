-- A load and a store of one block do what they mean.
use Rattle.std.proofs.Common.{◌∙◌}
use Rattle.waiter_queues.proofs.Applies.{load_answers, store_leads}
use Rattle.waiter_queues.proofs.space.SharedSpaceObjectSpace.act.Goals as goal

pub returns-in-Some-clause-reply : goal.returns-in-Some-clause-reply
returns-in-Some-clause-reply c = c.load_alone.ensures.reply ∙ load_answers c.args.self.now.blocks c.args.self.now.queues c.args.op.now c.requires.fits c.limits-from_initial.ensures.sound c.in-Load.load c.in-Load.address c.in-Load.is

pub returns-in-Some-lone_block-clause-values : goal.returns-in-Some-lone_block-clause-values
returns-in-Some-lone_block-clause-values c = rw (c.store_alone.ensures.blocks, c.store_alone.ensures.queues) (store_leads c.args.self.now.blocks c.args.self.now.queues c.args.op.now c.requires.fits c.limits-from_initial.ensures.sound c.in-Store.access c.in-Store.address c.in-Store.operand c.in-Store.is)
