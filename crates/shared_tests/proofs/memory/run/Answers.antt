use Rattle.std.proofs.Common.{sym, subst, ap, ◌∙◌}
use Rattle.std.specs.Prelude.{Contains}
use Rattle.std.specs.List.{All}
use Rattle.std.proofs.lemmas.List.Elements.{All-weaker, All-contains_itself}
use Rattle.shared_tests.proofs.memory.run.Goals as goal

pub run_threads-requires-clause-begins : goal.run_threads-requires-clause-begins
run_threads-requires-clause-begins g c κs within =
    let states = c.args.states.items in
    let begins = g.W.Work.begins in
    subst (λ l. All (begins l) states) (sym (ap (λ s. s.space.blocks.limits) c.new-opened.ensures.0 ∙ (c.in_ok-space.ensures.fixed ∙ c.limits.ensures)))
    (All-weaker (Contains states) (begins _) (λ s h. c.requires.begins s) states (All-contains_itself states))
