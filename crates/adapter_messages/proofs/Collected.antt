-- What each item gives, item by item.
use Rattle.std.proofs.Common.{◌≡◌, List, ◌++◌, Option}
use Rattle.std.specs.Prelude.{option_map}
use Rattle.serde_json.specs.Data.{Data}
use Rattle.serde_json.specs.View.{items_view}
use Rattle.serde_json.specs.declared.value.Value.{Value}
use Rattle.adapter_messages.specs.ArgumentLists.{each}

-- what each item gives, where those before the rest gave `done`
abbrev pub Gives : {X : Type 0} → (Data → Option X) → Option (List X) → List X → List Value → Type 0
Gives f whole done rest = whole ≡ option_map (λ xs. done ++ xs) (each f (items_view rest))
