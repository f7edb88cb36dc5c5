use Rattle.integer_machine.proofs.state.ThreadState.operands.Goals as goal

pub operands_at-requires : goal.operands_at-requires
operands_at-requires c = (c.self.inside.instance, c.self.invariant.0)
