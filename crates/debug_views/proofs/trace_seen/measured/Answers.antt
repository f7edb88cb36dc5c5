use Rattle.std.proofs.Common.{ℕ, Option, sym, ap, ◌∙◌}
use Rattle.event_core.specs.World.{world_of}
use Rattle.wasm_types.specs.declared.instruction.Access.{Access}
use Rattle.debug_views.specs.Trace.{is_of_length, measured_by}
use Rattle.debug_views.proofs.trace_seen.measured.Goals as goal

pub returns-in-Some : goal.returns-in-Some
returns-in-Some c =
    c.number_in.ensures ∙ sym (ap (λ (a : Option (Access × ℕ)). measured_by a (is_of_length c.args.action.now) (world_of c.args.world.now)) (sym c.accessed.ensures ∙ c.in-Some.is))
