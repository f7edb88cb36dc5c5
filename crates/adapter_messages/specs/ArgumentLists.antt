-- Lists among the arguments of a request.
use Rattle.std.specs.Prelude.{ℕ, ℤ, pos, List, [], ◌∷◌, Option, Some, None, codes, option_and_then, option_map}
use Rattle.serde_json.specs.Data.{Data, Items, no_items, item}
use Rattle.serde_json.specs.Events.{items_len}
use Rattle.serde_json.specs.Find.{get, as_str, as_array}
use Rattle.adapter_messages.specs.Arguments.{argument, integer_of, or_else}
use Rattle.adapter_messages.specs.declared.request.InstructionBreakpoint.{InstructionBreakpoint}

-- what each item gives, where each gives something
abbrev pub each : {X : Type 0} → (Data → Option X) → Items → Option (List X)
each f no_items = Some []
each f (item d ds) = option_and_then (λ x. option_map (λ xs. x ∷ xs) (each f ds)) (f d)

-- the text that an item is, or that it has as this member
abbrev pub item_text : Option (List ℕ) → Data → Option (List ℕ)
item_text None d = as_str d
item_text (Some member) d = option_and_then as_str (get member d)

abbrev pub list : List ℕ → Data → Option Items
list name message = option_and_then as_array (argument name message)

abbrev pub texts : (member : Option (List ℕ)) (name : List ℕ) → Data → Option (List (List ℕ))
texts member name message = option_and_then (each (item_text member)) (list name message)

abbrev pub offset_of : Data → Option ℤ
offset_of d = or_else (pos 0) integer_of (get (codes "offset") d)

abbrev pub breakpoint_at : List ℕ → ℤ → InstructionBreakpoint
breakpoint_at place further = record { reference = place; offset = further }

abbrev pub breakpoint_of : Data → Option InstructionBreakpoint
breakpoint_of d = option_and_then (λ place. option_map (breakpoint_at place) (offset_of d)) (item_text (Some (codes "instructionReference")) d)

abbrev pub breakpoints : List ℕ → Data → Option (List InstructionBreakpoint)
breakpoints name message = option_and_then (each breakpoint_of) (list name message)

-- how many items a list has
abbrev pub count_of : Data → Option ℕ
count_of d = option_map items_len (as_array d)

abbrev pub count_or_zero : List ℕ → Data → Option ℕ
count_or_zero name message = or_else 0 count_of (argument name message)
