use Rattle.std.proofs.Common.{rules, ◌≡◌, ◌++◌, List, Option, Some, None, Bor}
use Rattle.std.specs.Prelude.{IfSome, MatchOption}
use Rattle.std.proofs.lemmas.Slice.Eq.{strip_prefix_is}
use Rattle.replay_session.specs.declared.legs.Leg.{Leg}
use Rattle.replay_session.proofs.kept.legs_behind.Goals as goal

told : (N : Type 0) (way legs : List Leg) (o : Option (Bor (List Leg))) → MatchOption o N (λ x. way ≡ legs ++ x.now) → IfSome o (λ x. way ≡ legs ++ x.now)
told N way legs None h = tt
told N way legs (Some x) h = h

pub returns : goal.returns
returns c = told _ c.args.way.now c.args.legs.now c.strip_prefix.result (strip_prefix_is (λ a b. search rules) c.args.way.now c.args.legs.now c.strip_prefix.result c.strip_prefix.ensures.cases)
