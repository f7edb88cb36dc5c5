-- The items so far gave what was found.
use Rattle.std.proofs.Common.{drop}
use Rattle.std.specs.Option.{option_copied}
use Rattle.serde_json.specs.View.{items_view}
use Rattle.adapter_messages.specs.ArgumentLists.{each, item_text}
use Rattle.adapter_messages.proofs.Collected.{Gives}
use Rattle.adapter_messages.proofs.argument_lists.texts_of.Given as goal

abbrev pub invariant-loop-item : goal.invariant-loop-item
invariant-loop-item l = Gives (item_text (option_copied l.member)) (each (item_text (option_copied l.member)) (items_view l.items)) l.found (drop l.item-index l.items)
