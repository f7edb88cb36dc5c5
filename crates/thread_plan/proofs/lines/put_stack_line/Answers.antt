use Rattle.thread_plan.proofs.Numbers.{put_behind}
use Rattle.thread_plan.proofs.lines.put_stack_line.Goals as goal

pub returns : goal.returns
returns c = put_behind _ _ _ _ _ _ _ c.in_ok-push_str.ensures.bytes c.in_ok-put_threads.ensures c.in_ok-write.ensures.bytes
