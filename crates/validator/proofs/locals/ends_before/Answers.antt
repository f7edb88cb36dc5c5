use Rattle.std.proofs.Common.{ℕ, leb, leb-true, leb-false, arith, rules}
use Rattle.std.proofs.lemmas.List.Sorted.{IsPartitionPoint-from_clause, IsPartitionedBy-leb}
use Rattle.validator.proofs.locals.ends_before.Goals as goal

pub returns-clause-before : goal.returns-clause-before
returns-clause-before c =
    let parted = IsPartitionedBy-leb (λ (n : ℕ). n) _ c.args.at c.requires in
    let point = IsPartitionPoint-from_clause (λ (n : ℕ). leb n c.args.at) _ _ c.partition_point.ensures.partitioned parted (λ a r q k. search rules) in
    λ k h. leb-true _ _ (point.0 k 0 (omega arith) h)

pub returns-clause-behind : goal.returns-clause-behind
returns-clause-behind c =
    let parted = IsPartitionedBy-leb (λ (n : ℕ). n) _ c.args.at c.requires in
    let point = IsPartitionPoint-from_clause (λ (n : ℕ). leb n c.args.at) _ _ c.partition_point.ensures.partitioned parted (λ a r q k. search rules) in
    λ h. let e = leb-false _ _ (point.1 c.partition_point.result 0 (omega arith) h) in omega (arith, e)
