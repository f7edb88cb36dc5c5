-- The lines of the threads through the room, and then what is left in it.
use Rattle.std.proofs.lemmas.Result.{err_from_is_err_and, on_ok_weaker, on_err_weaker}
use Rattle.run_pieces.proofs.LineText.{begun_through, taken_through, begun_last}
use Rattle.run_pieces.proofs.line_writing.write_lines.Goals as goal

pub returns-in_err-write_threads-clause-begun : goal.returns-in_err-write_threads-clause-begun
returns-in_err-write_threads-clause-begun g c =
    rw (err_from_is_err_and c.from_residual.result c.from_residual.ensures.1).1
    (begun_through c.clear.ensures (rw c.log.ensures at c.in_err-write_threads.ensures.began))

pub returns-clause-taken : goal.returns-clause-taken
returns-clause-taken g c =
    on_ok_weaker c.write_all.result
    (λ t. taken_through g.met.W.Sink.takes_more c.clear.ensures (rw c.log.ensures at c.in_ok-write_threads.ensures.wrote) c.write_all.new.sink (rw c.as_slice.ensures at t))
    c.write_all.ensures.taken

pub returns-clause-begun : goal.returns-clause-begun
returns-clause-begun g c =
    on_err_weaker c.write_all.result
    (λ b. begun_last g.met.W.Sink.takes_more c.clear.ensures (rw c.log.ensures at c.in_ok-write_threads.ensures.wrote) c.write_all.new.sink (rw c.as_slice.ensures at b))
    c.write_all.ensures.begun
