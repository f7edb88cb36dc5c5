use Rattle.std.proofs.Common.{◌∙◌, ap, slice_index}
use Rattle.striped_memory.proofs.Looks.{front_alone}
use Rattle.striped_memory.proofs.decide.front_of.Goals as goal

pub returns-in_default : goal.returns-in_default
returns-in_default c k low =
    front_alone c.first_bytes.result.now c.append.new.bytes c.append.result c.append.ensures.count c.first_bytes.ensures.few c.append.ensures.part c.append.ensures.behind k low
    ∙ ap (λ l. slice_index l k) c.first_bytes.ensures.bytes
