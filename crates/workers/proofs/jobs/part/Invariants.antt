-- The seats and states so far, and those of the jobs that are left, are those of the jobs.
use Rattle.std.proofs.Common.{◌≡◌, ◌++◌, length, map}
use Rattle.std.specs.Vec.Iter.{into_iter_items, into_iter_len}
use Rattle.workers.proofs.jobs.part.Given as goal

abbrev pub invariant-loop-job : goal.invariant-loop-job
invariant-loop-job g l =
    let rest = into_iter_items l.job-iterator in
    (l.seats.items ++ map (λ j. j.seat) rest ≡ map (λ j. j.seat) l.fn.jobs.items)
    × (l.states.items ++ map (λ j. j.state) rest ≡ map (λ j. j.state) l.fn.jobs.items)
    × (into_iter_len l.job-iterator ≡ length rest)
