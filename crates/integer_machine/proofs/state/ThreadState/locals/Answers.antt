use Rattle.integer_machine.proofs.state.ThreadState.locals.Goals as goal

pub locals_at-requires : goal.locals_at-requires
locals_at-requires c = (c.self.inside.instance, c.self.invariant.0)
