use Rattle.std.proofs.lemmas.Result.{IfOk-weaker}
use Rattle.rw_objects.specs.Memory.{memory_of}
use Rattle.wreplay_bench.proofs.Counting.{none_made}
use Rattle.wreplay_bench.proofs.versioned.open.Goals as goal

pub returns : goal.returns
returns c =
    IfOk-weaker c.new-2.result _ _ (λ memory is. none_made c.args.limits (memory_of memory) is c.in_ok-space.ensures.fixed) c.new-2.ensures
