use Rattle.std.proofs.Common.{length, ap, sym, ◌∙◌, Some}
use Rattle.std.specs.Prelude.{option_map}
use Rattle.serde_json.specs.Events.{items_len}
use Rattle.serde_json.proofs.Views.{items_len-items_view}
use Rattle.adapter_messages.specs.Arguments.{or_else}
use Rattle.adapter_messages.specs.ArgumentLists.{count_of}
use Rattle.adapter_messages.proofs.argument_lists.count_or_zero.Goals as goal

pub returns-in-Some-as_array : goal.returns-in-Some-as_array
returns-in-Some-as_array c =
    ap Some (ap length c.as_slice.ensures.value ∙ sym (items_len-items_view c.in-Some-as_array.items.now.items))
    ∙ ap (option_map items_len) c.in-Some-as_array.ensures
    ∙ ap (or_else 0 count_of) c.in-Some.ensures
