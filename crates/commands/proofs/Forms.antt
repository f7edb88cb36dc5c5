-- What is written of a hunt, by what is wanted.
use Rattle.std.proofs.Common.{◌≡◌, Bool, true, false}
use Rattle.wasm_types.specs.declared.modules.Module.{Module}
use Rattle.thread_plan.specs.Plans.{PlanValue}
use Rattle.command_words.specs.declared.requests.HuntForm.{HuntForm}
use Rattle.command_words.specs.declared.requests.HuntForm.TheVariants.{Pieces, Schedule, List}
use Rattle.command_words.specs.declared.requests.HuntRequest.{HuntRequest}
use Rattle.commands.specs.Records.{AnswerAt}
use Rattle.commands.specs.Hunts.{is_as_drawn, lists, IsCaughtAnswer, IsScheduleAnswer, IsHuntedBy}

module _ (m : Module) (plan : PlanValue) (r : HuntRequest) (answer : AnswerAt) where
  -- the pieces of the run as its number draws it
  pub as_drawn : (form : HuntForm) (shrinks : Bool) → is_as_drawn form shrinks ≡ true → IsCaughtAnswer m plan r answer → IsHuntedBy m plan r form shrinks answer
  as_drawn Pieces false e h = h
  as_drawn Pieces true e h = absurd (cc)
  as_drawn Schedule shrinks e h = absurd (cc)
  as_drawn List shrinks e h = absurd (cc)

  -- the run by its schedule
  pub by_schedule : (form : HuntForm) (shrinks : Bool) → is_as_drawn form shrinks ≡ false → lists form ≡ false → IsScheduleAnswer m plan r answer → IsHuntedBy m plan r form shrinks answer
  by_schedule Pieces false e l h = absurd (cc)
  by_schedule Pieces true e l h = h
  by_schedule Schedule shrinks e l h = h
  by_schedule List shrinks e l h = absurd (cc)
