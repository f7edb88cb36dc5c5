use Rattle.std.proofs.Common.{◌≡◌, ◌∙◌, ◌++◌, subst}
use Rattle.std.specs.Option.{option_to_list}
use Rattle.std.proofs.Math.Logic.{∥∥₁_elim}
use Rattle.std.specs.Coded.{Coded-set}
use Rattle.replay_session.proofs.KeptLists.{all_left, of_last}
use Rattle.replay_session.proofs.keeps.Keeps.nearest.Goals as goal

pub invariant_of-self : goal.invariant_of-self
invariant_of-self g c =
    let old = c.loop-kept.self in
    record { same = all_left (λ k. (k.replay.log ≡ old.log) × (k.replay.opens ≡ old.opens)) old.kept.items c.pop.new.self.items c.pop.result c.pop.ensures.items old.same }

pub keep-requires-clause-log : goal.keep-requires-clause-log
keep-requires-clause-log g c =
    let old = c.loop-kept.self in
    let there = subst (λ r. old.kept.items ≡ c.pop.new.self.items ++ option_to_list r) c.in-Some.is c.pop.ensures.items in
    ∥∥₁_elim old.same (Coded-set g.row.L.coded _ _) (λ all. (of_last (λ k. (k.replay.log ≡ old.log) × (k.replay.opens ≡ old.opens)) old.kept.items c.pop.new.self.items c.in-Some.kept there all).0)

pub keep-requires-clause-opens : goal.keep-requires-clause-opens
keep-requires-clause-opens g c =
    let old = c.loop-kept.self in
    let there = subst (λ r. old.kept.items ≡ c.pop.new.self.items ++ option_to_list r) c.in-Some.is c.pop.ensures.items in
    ∥∥₁_elim old.same (Coded-set g.row.O.coded _ _) (λ all. (of_last (λ k. (k.replay.log ≡ old.log) × (k.replay.opens ≡ old.opens)) old.kept.items c.pop.new.self.items c.in-Some.kept there all).1)

pub returns-then-is_some-clause-kept_opens : goal.returns-then-is_some-clause-kept_opens
returns-then-is_some-clause-kept_opens g c =
    let old = c.loop-kept.self in
    let there = subst (λ r. old.kept.items ≡ c.pop.new.self.items ++ option_to_list r) c.in-Some.is c.pop.ensures.items in
    ∥∥₁_elim old.same (Coded-set g.row.O.coded _ _) (λ all. (of_last (λ k. (k.replay.log ≡ old.log) × (k.replay.opens ≡ old.opens)) old.kept.items c.pop.new.self.items c.in-Some.kept there all).1 ∙ c.loop-kept.invariant.opens)

pub returns-then-is_some-clause-kept_log : goal.returns-then-is_some-clause-kept_log
returns-then-is_some-clause-kept_log g c =
    let old = c.loop-kept.self in
    let there = subst (λ r. old.kept.items ≡ c.pop.new.self.items ++ option_to_list r) c.in-Some.is c.pop.ensures.items in
    ∥∥₁_elim old.same (Coded-set g.row.L.coded _ _) (λ all. (of_last (λ k. (k.replay.log ≡ old.log) × (k.replay.opens ≡ old.opens)) old.kept.items c.pop.new.self.items c.in-Some.kept there all).0 ∙ c.loop-kept.invariant.log)
