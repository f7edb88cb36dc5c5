-- What the check of a module with a plan answers, by what their files may hold.
use Rattle.std.specs.Prelude.{◌≡◌, ◌⊎◌, ℕ, List, ◌++◌, Option, Some, None}
use Rattle.std.specs.Borrow.{Bor}
use Rattle.wasm_types.specs.declared.modules.Module.{Module}
use Rattle.thread_plan.specs.Plans.{PlanValue}
use Rattle.thread_plan.specs.Hints.{hints_text}
use Rattle.commands.specs.Checks.{IsChecked, IsCheckRefused, valid_text}
use Rattle.commands.specs.Inputs.{IsProgram, IsProgramRefused}
use Rattle.commands.specs.declared.fault.Fault.{Fault}
use Rattle.commands.specs.declared.fault.Fault.TheVariants.{NoMemory}

-- the text of a module, and behind it the hints of a plan for it
abbrev pub hinted_text : Module → PlanValue → List ℕ
hinted_text m plan = valid_text m ++ hints_text m plan

module _ (holds : List ℕ → List ℕ → Type 0) where
  -- the text of the module and the plan in the files
  abbrev pub IsHinted : List ℕ → List ℕ → List ℕ → Type 0
  IsHinted module_path plan_path text = (m : Module) × (plan : PlanValue) × IsProgram holds module_path plan_path m plan × (text ≡ hinted_text m plan)

  -- what is answered of a module, or of a module and the plan that is named
  abbrev pub IsCheckAnswer : List ℕ → Option (Bor (List ℕ)) → List ℕ → Type 0
  IsCheckAnswer module_path None text = IsChecked (holds module_path) text
  IsCheckAnswer module_path (Some plan) text = IsHinted module_path plan.now text

  -- the first refusal: of the module, else of the plan, if one is named; or there is no memory for the text
  abbrev pub IsNotChecked : (List ℕ → Type 0) → List ℕ → Option (Bor (List ℕ)) → Fault → Type 0
  IsNotChecked fails module_path None fault = IsCheckRefused (holds module_path) (fails module_path) fault
  IsNotChecked fails module_path (Some plan) fault = IsProgramRefused holds fails module_path plan.now fault ⊎ (fault ≡ NoMemory)
