use Rattle.std.proofs.Common.{arith}
use Rattle.rw_objects.specs.Alone.{alone_with}
use Rattle.rw_objects.specs.Memory.{memory_of}
use Rattle.rw_objects.proofs.Alone.{goes_sound}
use Rattle.block_objects.specs.SharedMemory.{shared_memory}
use Rattle.thread_words.specs.ThreadCode.{thread_code}
use Rattle.thread_words.proofs.Machine.{threads_are_machines}
use Rattle.wreplay_bench.specs.Alone as bench
use Rattle.wreplay_bench.specs.Alone.{no_entry, alone_of}
use Rattle.wreplay_bench.proofs.Opening.{over_behind, of_ok}
use Rattle.wreplay_bench.proofs.alone.Alone.run.Goals as goal

pub returns-in_err-end-clause-sound : goal.returns-in_err-end-clause-sound
returns-in_err-end-clause-sound c =
    goes_sound shared_memory thread_code no_entry threads_are_machines c.run-end.result.0.steps (alone_with c.args.self.now.thread.thread (memory_of c.args.self.now.memory) tt 0)
    (alone_with c.run-end.new.self.thread (memory_of c.run-end.new.memory) tt c.run-end.result.0.events) c.run-end.ensures.goes c.requires

pub returns-clause-sound : goal.returns-clause-sound
returns-clause-sound c =
    goes_sound shared_memory thread_code no_entry threads_are_machines c.run-end.result.0.steps (alone_with c.args.self.now.thread.thread (memory_of c.args.self.now.memory) tt 0)
    (alone_with c.run-end.new.self.thread (memory_of c.run-end.new.memory) tt c.run-end.result.0.events) c.run-end.ensures.goes c.requires

pub returns-clause-over : goal.returns-clause-over
returns-clause-over c =
    over_behind (alone_of c.args.self.now) (bench.alone_with c.run-end.new.self.thread (memory_of c.run-end.new.memory)) c.run-end.result.0.steps 4294967295 (omega arith) (c.run-end.result.0.events, c.run-end.ensures.goes)
    (of_ok c.run-end.result.1 c.in_ok-end.field-0 c.in_ok-end.was c.run-end.ensures.all)
