use Rattle.std.proofs.Common.{Some, sym, ap, ◌∙◌}
use Rattle.event_core.specs.World.{world_of}
use Rattle.replay_gate.proofs.Turning.{not_at_end}
use Rattle.replay_gate.proofs.freely.stands_at_end.Goals as goal

pub returns-in-Some-Known-clause-not : goal.returns-in-Some-Known-clause-not
returns-in-Some-Known-clause-not g c =
    λ other. not_at_end g.S.ObjectSpace.meaning g.M.Machine.code (g.L.ReadLog.log c.args.log.now) (world_of c.args.world.now) c.args.thread c.in-Some.steps c.in-Some-places.places c.in-Some-outcome.outcome c.in-Some-Known.end c.in-Some.ensures c.in-Some-places.ensures
    c.in-Some-outcome.ensures (sym c.in-Some-Known.ensures ∙ ap Some c.in-Some-Known.field-0-is) (sym c.eq.ensures ∙ other)
