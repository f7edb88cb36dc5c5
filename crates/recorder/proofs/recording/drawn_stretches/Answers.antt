use Rattle.std.proofs.Common.{[], length, refl, ap, ◌∙◌}
use Rattle.std.proofs.lemmas.List.{length-replicate}
use Rattle.std.proofs.lemmas.Result.{IfOk-weaker}
use Rattle.event_core.specs.World.{world_of}
use Rattle.recorder.proofs.Drawing.{whole_drawn}
use Rattle.recorder.proofs.recording.drawn_stretches.Goals as goal

pub make_drawn-requires : goal.make_drawn-requires
make_drawn-requires g c = ap length c.in_ok-logs.ensures ∙ length-replicate c.count.result [] ∙ c.count.ensures.count

pub returns : goal.returns
returns g c =
    IfOk-weaker c.make_drawn.result _ _
    (λ kept h. whole_drawn g.S.ObjectSpace.meaning g.M.Machine.code c.args.draw.steps c.args.draw.timeouts c.args.draw.number (world_of c.args.world) (world_of c.make_drawn.new.world) h.0 kept.items c.in_ok-logs.logs c.make_drawn.new.logs (h.1 refl) h.2)
    c.make_drawn.ensures
