-- What comes of one content.
use Rattle.std.specs.Prelude.{◌≡◌, ℕ, Bool, List, [], Result, Ok, Err}
use Rattle.adapter_messages.specs.declared.request.Command.{Command}
use Rattle.adapter_messages.specs.Exchanges.{At, IsAnswered, IsHeldBack, IsUnsent}
use Rattle.adapter_messages.specs.declared.answering.Turn.{Turn}
use Rattle.adapter_messages.specs.declared.answering.Turn.TheVariants.{Answered, HeldBack}
use Rattle.adapter_messages.specs.declared.reply.Reply.{Reply}
use Rattle.adapter_messages.specs.declared.replying.SendFault.{SendFault}

-- Where the exchange stood before it, which text was taken, and where the exchange stands then.
module _ {State : Type 0} (holds_back : Command → State → Bool) (Attends : Command → State → Reply → State → Type 0)
    (content : List ℕ) (s : At State) (took : List ℕ → Type 0) (u : At State) where
  abbrev pub TurnSo : Result Turn SendFault → Type 0
  TurnSo (Ok (Answered goes_on)) = (text : List ℕ) × IsAnswered holds_back Attends content s goes_on text u × took text
  TurnSo (Ok (HeldBack request)) = IsHeldBack holds_back Attends content s request × (u ≡ s) × took []
  TurnSo (Err f) = (part : List ℕ) × IsUnsent holds_back Attends f content s part u × took part
