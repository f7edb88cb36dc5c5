-- The items so far gave what was found.
use Rattle.std.proofs.Common.{drop}
use Rattle.serde_json.specs.View.{items_view}
use Rattle.adapter_messages.specs.ArgumentLists.{each, breakpoint_of}
use Rattle.adapter_messages.proofs.Collected.{Gives}
use Rattle.adapter_messages.proofs.argument_lists.breakpoints_of.Given as goal

abbrev pub invariant-loop-item : goal.invariant-loop-item
invariant-loop-item l = Gives breakpoint_of (each breakpoint_of (items_view l.items)) l.found (drop l.item-index l.items)
