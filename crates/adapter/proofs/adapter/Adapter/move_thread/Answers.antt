use Rattle.std.proofs.Common.{◌≡◌, ◌∙◌, inr, sym, ap, length, Some}
use Rattle.adapter.specs.Ids.{thread_of}
use Rattle.adapter.specs.State.{state_of}
use Rattle.adapter.specs.Moves.{went_reply}
use Rattle.adapter.proofs.Keeping.{err_so, moves_by}
use Rattle.adapter.proofs.adapter.Adapter.move_thread.Goals as goal

pub returns-clause-wanting : goal.returns-clause-wanting
returns-clause-wanting c =
    let d : thread_of (length (state_of c.args.self.now).debugger.world.threads) c.args.id ≡ Some c.in-Some.thread =
    sym (ap (λ w. thread_of (length w.threads) c.args.id) c.world.ensures.same) ∙ sym c.thread_of.ensures ∙ c.in-Some.is in
    err_so c.went_reply.result (inr (went_reply (state_of c.go-went.new.self) c.args.id c.go-went.result, moves_by c.args.motion c.args.id (thread_of (length (state_of c.args.self.now).debugger.world.threads) c.args.id) c.in-Some.thread (state_of c.args.self.now) c.go-went.result (state_of c.go-went.new.self) d c.go-went.ensures.goes c.go-went.ensures.functions))
