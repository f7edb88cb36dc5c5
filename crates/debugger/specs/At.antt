-- Where a debugger stands.
use Rattle.std.specs.Prelude.{◌≡◌}
use Rattle.event_core.specs.World.{world_of}
use Rattle.wasm_replay.specs.Replays.{Suits, opened_world}
use Rattle.debugger.specs.Replies.{DebugAt}
use Rattle.debugger.specs.declared.debugger.Debugger.{Debugger}

abbrev pub at_of : Debugger → DebugAt
at_of d = record {
  code = d.valid.now;
  log = d.session.replay.log.log.now;
  form = d.places;
  power = d.block;
  opening = opened_world d.session.replay.opens.valid.now d.session.replay.opens.plan.now d.session.replay.opens.profile;
  legs = d.session.legs.items;
  world = world_of d.session.replay.world;
  breaks = d.breaks.items;
  instructions = d.instructions.items;
  watches = d.watches.items;
}

-- its opening world is that of the other
abbrev pub IsOpenedAs : Debugger → Debugger → Type 0
IsOpenedAs d e = e.session.replay.opens ≡ d.session.replay.opens

-- its opening world can be opened again
abbrev pub CanOpen : Debugger → Type 0
CanOpen d = Suits d.session.replay.opens.valid.now d.session.replay.opens.plan.now d.session.replay.opens.profile
