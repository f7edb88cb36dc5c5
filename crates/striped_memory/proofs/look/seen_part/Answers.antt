use Rattle.std.proofs.Common.{◌≡◌, ◌++◌, ap, ◌∙◌, drop, length, replicate}
use Rattle.memory_parts.specs.declared.seen.Seen.TheVariants as see
use Rattle.striped_memory.proofs.Looks.{padded}
use Rattle.striped_memory.proofs.look.seen_part.Goals as goal

pub returns-in_default : goal.returns-in_default
returns-in_default c = ap (λ l. see.Part (length c.args.part.now) l) (ap (λ l. l ++ drop (length c.args.part.now) (replicate 8 0)) c.copy_from_slice.ensures.after ∙ padded 8 c.args.part.now c.requires)
