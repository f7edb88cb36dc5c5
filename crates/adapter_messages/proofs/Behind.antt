-- Exchanges that go on behind a request that was held back.
use Rattle.std.proofs.Common.{◌≡◌, ℕ, List, [], ◌++◌, Result, Ok, Err, inl, inr, refl}
use Rattle.std.specs.Prelude.{Bool, IfOk, IfErr}
use Rattle.adapter_messages.specs.declared.request.Command.{Command}
use Rattle.adapter_messages.specs.declared.request.Request.{Request}
use Rattle.adapter_messages.specs.Exchanges.{At, behind_reply, IsEnded, IsBroken, IsResumed, IsUnresumed}
use Rattle.adapter_messages.specs.Failures.{unsent}
use Rattle.adapter_messages.specs.Sent.{reply_text}
use Rattle.adapter_messages.specs.declared.exchanging.Ended.{Ended}
use Rattle.adapter_messages.specs.declared.exchanging.ExchangeFault.{ExchangeFault}
use Rattle.adapter_messages.specs.declared.reply.Reply.{Reply}
use Rattle.adapter_messages.specs.declared.replying.SendFault.{SendFault}

module _ {State : Type 0} (holds_back : Command → State → Bool) (Attends : Command → State → Reply → State → Type 0)
    {Sink : Type 0} (takes : Sink → List ℕ → Sink → Type 0) (takes_more : (s t u : Sink) (xs ys : List ℕ) → takes s xs t → takes t ys u → takes s (xs ++ ys) u)
    (start : At State) (ended : Type 0) (request : Request) (reply : Reply) (brought : List ℕ → Type 0) (begun sink taken : Sink) (u : At State) where
  abbrev pub head : List ℕ
  head = reply_text start.number request.seq request.name reply

  -- how it ends behind the reply
  pub resumed : (r : Result Ended ExchangeFault) → takes begun head sink
      → IfOk r (λ end. (came text : List ℕ) × brought came × takes sink text taken × IsEnded holds_back Attends came (behind_reply start reply) ended end text u)
      → IfOk r (λ end. (came text : List ℕ) × brought came × takes begun text taken × IsResumed holds_back Attends came start ended request reply end text u)
  resumed (Ok end) took h = (h.0, head ++ h.1, h.2, takes_more begun sink taken head h.1 took h.3, record { behind = h.1; is_ended = h.4; is = refl })
  resumed (Err f) took h = _

  -- how it stops behind the reply
  pub broken_behind : (r : Result Ended ExchangeFault) → takes begun head sink
      → IfErr r (λ f. (came text : List ℕ) × brought came × takes sink text taken × IsBroken holds_back Attends came (behind_reply start reply) ended f text u)
      → IfErr r (λ f. (came text : List ℕ) × brought came × takes begun text taken × IsUnresumed holds_back Attends came start ended request reply f text u)
  broken_behind (Ok end) took h = _
  broken_behind (Err f) took h = (h.0, head ++ h.1, h.2, takes_more begun sink taken head h.1 took h.3, inr record { behind = h.1; is_broken = h.4; is = refl })

  -- the reply is not sent, but for a beginning
  pub reply_cut : (sending : SendFault) (part rest : List ℕ) → head ≡ part ++ rest → takes begun part taken → brought [] → u ≡ start
      → (came text : List ℕ) × brought came × takes begun text taken × IsUnresumed holds_back Attends came start ended request reply (unsent sending) text u
  reply_cut sending part rest cut took none same = ([], part, none, took, inl (sending, refl, record { rest = rest; is = cut; none_came = refl; same = same }))
