use Rattle.std.proofs.Common.{◌≡◌, List}
use Rattle.event_core.specs.World.{world_of}
use Rattle.pick_schedule.specs.declared.stretches.Stretch.{Stretch}
use Rattle.recorder.specs.Words.{generator_of, behind_word, exponent_of}
use Rattle.recorder.specs.Making.{DrawsOn, IsKept}
use Rattle.recorder.proofs.recording.make_drawn.Given as goal

abbrev pub invariant-loop : goal.invariant-loop
invariant-loop g l =
    (goal.iterator-loop g).can_next l.iterator' × (goal.iterator-loop g).is_finite l.iterator'
    × ((ss : List Stretch) × IsKept l.keeps l.kept.items ss × DrawsOn g.S.ObjectSpace.meaning g.M.Machine.code l.draw.steps l.draw.timeouts (exponent_of l.draw.number) (behind_word (generator_of l.draw.number)) l.draws.generator (world_of l.initial.world) (world_of l.world) ss l.initial.logs l.logs)
    × (l.draws.exponent ≡ exponent_of l.draw.number)
