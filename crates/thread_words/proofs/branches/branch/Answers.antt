use Rattle.thread_words.proofs.Landings.{branching}
use Rattle.thread_words.proofs.branches.branch.Goals as goal

pub branch_to-requires : goal.branch_to-requires
branch_to-requires c = let k = c.requires.1 in (k.0, k.1, branching c.args.valid.now c.requires.0 c.args.depth k.0 k.1 c.args.m.now k.2)

pub returns-clause-steps : goal.returns-clause-steps
returns-clause-steps c = λ instance s after k. c.branch_to.ensures.steps s after (branching c.args.valid.now instance c.args.depth s after c.args.m.now k)
