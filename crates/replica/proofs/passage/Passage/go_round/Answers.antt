use Rattle.std.proofs.Common.{arith, ℕ, subst}
use Rattle.replica.proofs.PassageLaws.{longer_self, round_more}
use Rattle.replica.specs.Passage.{IsStuck}
use Rattle.replica.proofs.passage.Passage.go_round.Goals as goal

pub loop-number-init : goal.loop-number-init
loop-number-init c = record { longer = longer_self c.args.log.now c.args.self.now c.requires; stuck = λ same thread low. absurd (omega (arith, low)) }

pub loop-number-preserved : goal.loop-number-preserved
loop-number-preserved c =
    let more = round_more c.args.log.now c.args.self.now c.loop-number.self c.go_on.new.self c.loop-number.number c.loop-number.invariant.longer c.in_ok-go_on.ensures.longer
    c.loop-number.invariant.stuck (subst (λ (t : ℕ). IsStuck c.args.log.now c.go_on.new.self.rows.items t) c.new.ensures c.in_ok-go_on.ensures.stuck) in
    record { longer = more.0; stuck = more.1 }
