use Rattle.std.proofs.Common.{◌∙◌, length, map, ap, subst}
use Rattle.event_core.specs.World.{world_of}
use Rattle.recorder.specs.Rounds.{GoesBy}
use Rattle.recorder.proofs.rounds.record_rest.Goals as goal

pub thread_logs-requires : goal.thread_logs-requires
thread_logs-requires g c = ap length c.into_lists.ensures ∙ c.in_ok-finish.ensures.goes.lists

pub returns : goal.returns
returns g c =
    let seen = c.new.ensures.threads in
    record {
      last = world_of c.finish.new.world;
      after = c.finish.new.logs;
      goes = subst (λ l. GoesBy g.S.ObjectSpace.meaning g.M.Machine.code c.args.steps (world_of c.args.world) (world_of c.finish.new.world) l c.finish.new.logs) c.of-logs.ensures c.in_ok-finish.ensures.goes;
      none = c.in_ok-finish.ensures.none;
      logged = ap (map (λ l. l.entries)) seen ∙ (c.in_ok-threads.ensures.entries ∙ c.into_lists.ensures);
      ends = ap (map (λ l. l.end)) seen ∙ c.in_ok-threads.ensures.ends;
      ended = c.new.ensures.end ∙ c.in_ok-end.ensures;
      none_passed = c.new.ensures.passed;
    }
