use Rattle.integer_machine.proofs.Copying.{sound_copied}
use Rattle.integer_machine.proofs.state.ThreadStateMachineSharedSpace.copied.Goals as goal

pub invariant_of-result : goal.invariant_of-result
invariant_of-result c =
    let s = c.self.inside in (
      sound_copied s.valid.now s.instance c.in_ok-copied.field-0 s.stacks c.in_ok-copied-2.field-0 c.in_ok-copied.ensures c.in_ok-copied-2.ensures c.self.invariant.0,
      c.self.invariant.1,
    )
