-- One thread more is cut.
use Rattle.std.proofs.Common.{length, refl, arith}
use Rattle.std.proofs.lemmas.Option.{slice_get_read}
use Rattle.run_pieces.proofs.Loops.{thread_more, all_threads}
use Rattle.run_pieces.proofs.cutting.all_pieces.Goals as goal

pub put_pieces-requires : goal.put_pieces-requires
put_pieces-requires c =
    let log = c.index-logs-thread.result in
    let inside = c.loop-thread-test.true in
    let few = c.requires.keeps.few in
    record {
      numbered = omega (arith, inside, few);
      keeps = c.requires.keeps.each c.loop-thread.thread log (slice_get_read c.args.logs.now (length c.args.logs.now) c.loop-thread.thread log refl inside c.index-logs-thread.is);
      some = c.requires.some;
      few = c.requires.few;
    }

pub loop-thread-preserved : goal.loop-thread-preserved
loop-thread-preserved c =
    thread_more c.args.key.now c.args.size c.args.logs.now c.loop-thread.pieces.items c.put_pieces.new.pieces.items c.index-logs-thread.result c.loop-thread.thread c.loop-thread-test.true c.index-logs-thread.is c.in_ok-put_pieces.ensures c.loop-thread.invariant

pub returns : goal.returns
returns c = all_threads c.args.key.now c.args.size c.args.logs.now c.loop-thread.pieces.items c.loop-thread.thread c.loop-thread-test.false c.loop-thread.invariant
