use Rattle.std.proofs.Common.{sym, subst}
use Rattle.instruction_groups.specs.Groups.{Describes}
use Rattle.thread_words.proofs.functions.tables_of_function.Goals as goal

pub returns : goal.returns
returns c =
    let f = c.requires.0 in
    let found = c.requires.1 in
    record {
      code = c.code_of_function.ensures;
      groups = subst (λ y. Describes y c.groups_of_function.result.now) (sym (c.code_of_function.ensures f found)) (c.groups_of_function.ensures f found);
      targets = c.targets_of_function.ensures;
    }
