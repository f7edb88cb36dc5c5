use Rattle.std.proofs.Common.{true}
use Rattle.std.proofs.lemmas.Result.{err_from_is_err_and}
use Rattle.binary_decoder.specs.Reader.{groups_at}
use Rattle.binary_decoder.proofs.Loop.{groups_go_on, groups_fail, groups_done}
use Rattle.binary_decoder.proofs.functions.groups.Goals as goal

pub returns-in_err-group : goal.returns-in_err-group
returns-in_err-group c =
    let p = err_from_is_err_and c.from_residual.result c.from_residual.ensures.1 in
    rw (p.1, p.2) (groups_fail c.loop.groups.items c.loop.used c.args.count c.loop.counter c.loop.cursor.rest.now (groups_at true c.args.params c.args.count c.args.cursor.now.rest.now) c.loop.invariant.1 c.in_err-group.field-0.0 c.loop-test.true c.in_err-group.ensures.value)

pub loop-preserved : goal.loop-preserved
loop-preserved c =
    (c.in_ok-group.ensures.fits, rw c.in_ok-push.ensures.items (groups_go_on c.loop.groups.items c.loop.used c.args.count c.loop.counter c.loop.cursor.rest.now (groups_at true c.args.params c.args.count c.args.cursor.now.rest.now) c.loop.invariant.1 c.in_ok-group.group c.group.new.cursor.rest.now c.loop-test.true c.in_ok-group.ensures.value))

pub returns : goal.returns
returns c = groups_done c.loop.groups.items c.loop.used c.args.count c.loop.counter c.loop.cursor.rest.now (groups_at true c.args.params c.args.count c.args.cursor.now.rest.now) c.loop.invariant.1 c.loop-test.false
