use Rattle.std.proofs.Common.{◌≡◌, true, false, sym, ap}
use Rattle.integer_machine.specs.Sound.{ThreadWithRoom}
use Rattle.integer_machine.proofs.Going.{room_left}
use Rattle.integer_machine.proofs.state.ThreadStateMachineSharedSpace.local.Goals as goal

no : false ≡ true → ⊥
no h = cc

pub returns-in_err-local_of-clause-room : goal.returns-in_err-local_of-clause-room
returns-in_err-local_of-clause-room c = λ h.
    let room = room_left c.args.self.now c.self.inside.most_locals c.self.inside.stacks (ap (λ (t : ThreadWithRoom). t.most_locals) (sym c.self.view_is)) (ap (λ (t : ThreadWithRoom). t.words_left) (sym c.self.view_is))
    (ap (λ (t : ThreadWithRoom). t.labels_left) (sym c.self.view_is)) (ap (λ (t : ThreadWithRoom). t.callers_left) (sym c.self.view_is)) h in
    absurd (no (c.in_err-local_of.ensures.room c.self.inside.most_locals c.self.invariant.1 room))
