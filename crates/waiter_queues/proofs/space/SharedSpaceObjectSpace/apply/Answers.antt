-- Each operation does what it means.
use Rattle.std.proofs.Common.{◌∙◌}
use Rattle.waiter_queues.proofs.Applies.{load_answers, load_leads, store_leads, rmw_answers, rmw_leads, exchange_answers, exchange_leads, wait_answers, wait_leads, notify_leads, resume_leads, time_out_leads}
use Rattle.waiter_queues.proofs.space.SharedSpaceObjectSpace.apply.Goals as goal

pub returns-in-Load-clause-reply : goal.returns-in-Load-clause-reply
returns-in-Load-clause-reply c = c.load.ensures ∙ load_answers c.args.self.now.blocks c.args.self.now.queues c.args.op.now c.requires.fits c.limits-limits.ensures.sound c.in-Load.load c.in-Load.address c.in-Load.is

pub returns-in-Load-clause-values : goal.returns-in-Load-clause-values
returns-in-Load-clause-values c = load_leads c.args.self.now.blocks c.args.self.now.queues c.args.op.now c.requires.fits c.limits-limits.ensures.sound c.in-Load.load c.in-Load.address c.in-Load.is

pub returns-in-Store-clause-values : goal.returns-in-Store-clause-values
returns-in-Store-clause-values c = rw c.store.ensures.memory (store_leads c.args.self.now.blocks c.args.self.now.queues c.args.op.now c.requires.fits c.limits-limits.ensures.sound c.in-Store.access c.in-Store.address c.in-Store.operand c.in-Store.is)

pub returns-in-Rmw-clause-reply : goal.returns-in-Rmw-clause-reply
returns-in-Rmw-clause-reply c = c.rmw.ensures.reply ∙ rmw_answers c.args.self.now.blocks c.args.self.now.queues c.args.op.now c.requires.fits c.limits-limits.ensures.sound c.in-Rmw.op c.in-Rmw.access c.in-Rmw.address c.in-Rmw.operand c.in-Rmw.is

pub returns-in-Rmw-clause-values : goal.returns-in-Rmw-clause-values
returns-in-Rmw-clause-values c = rw c.rmw.ensures.memory (rmw_leads c.args.self.now.blocks c.args.self.now.queues c.args.op.now c.requires.fits c.limits-limits.ensures.sound c.in-Rmw.op c.in-Rmw.access c.in-Rmw.address c.in-Rmw.operand c.in-Rmw.is)

pub returns-in-CompareExchange-clause-reply : goal.returns-in-CompareExchange-clause-reply
returns-in-CompareExchange-clause-reply c = c.compare_exchange.ensures.reply ∙ exchange_answers c.args.self.now.blocks c.args.self.now.queues c.args.op.now c.requires.fits c.limits-limits.ensures.sound c.in-CompareExchange.access c.in-CompareExchange.address c.in-CompareExchange.expected c.in-CompareExchange.replacement c.in-CompareExchange.is

pub returns-in-CompareExchange-clause-values : goal.returns-in-CompareExchange-clause-values
returns-in-CompareExchange-clause-values c = rw c.compare_exchange.ensures.memory (exchange_leads c.args.self.now.blocks c.args.self.now.queues c.args.op.now c.requires.fits c.limits-limits.ensures.sound c.in-CompareExchange.access c.in-CompareExchange.address c.in-CompareExchange.expected c.in-CompareExchange.replacement c.in-CompareExchange.is)

pub returns-in-Wait-clause-reply : goal.returns-in-Wait-clause-reply
returns-in-Wait-clause-reply c = c.wait.ensures.reply ∙ wait_answers c.args.self.now.blocks c.args.self.now.queues c.args.op.now c.requires.fits c.limits-limits.ensures.sound c.args.self.now.sized c.in-Wait.width c.in-Wait.thread c.in-Wait.address c.in-Wait.expected c.in-Wait.is

pub returns-in-Wait-clause-values : goal.returns-in-Wait-clause-values
returns-in-Wait-clause-values c = rw (c.wait.ensures.blocks, c.wait.ensures.queues, c.limits-limits.ensures.limits) (wait_leads c.args.self.now.blocks c.args.self.now.queues c.args.op.now c.requires.fits c.limits-limits.ensures.sound c.args.self.now.sized c.in-Wait.width c.in-Wait.thread c.in-Wait.address c.in-Wait.expected c.in-Wait.is)

pub returns-in-Notify-clause-values : goal.returns-in-Notify-clause-values
returns-in-Notify-clause-values c = rw (c.notify.ensures.blocks, c.notify.ensures.queues, c.limits-limits.ensures.limits) (notify_leads c.args.self.now.blocks c.args.self.now.queues c.args.op.now c.requires.fits c.limits-limits.ensures.sound c.args.self.now.sized c.in-Notify.address c.in-Notify.count c.in-Notify.is)

pub returns-in-Resume-clause-values : goal.returns-in-Resume-clause-values
returns-in-Resume-clause-values c = rw (c.resume.ensures.blocks, c.resume.ensures.queues, c.limits-limits.ensures.limits) (resume_leads c.args.self.now.blocks c.args.self.now.queues c.args.op.now c.requires.fits c.limits-limits.ensures.sound c.args.self.now.sized c.in-Resume.thread c.in-Resume.address c.in-Resume.is)

pub returns-in-TimeOut-clause-values : goal.returns-in-TimeOut-clause-values
returns-in-TimeOut-clause-values c = rw (c.time_out.ensures.blocks, c.time_out.ensures.queues, c.limits-limits.ensures.limits) (time_out_leads c.args.self.now.blocks c.args.self.now.queues c.args.op.now c.requires.fits c.limits-limits.ensures.sound c.args.self.now.sized c.in-TimeOut.thread c.in-TimeOut.address c.in-TimeOut.is)
