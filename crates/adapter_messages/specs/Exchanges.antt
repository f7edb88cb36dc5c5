-- Exchanges: contents that come, each of a frame, and what is sent for each.
use Rattle.std.specs.Prelude.{◌≡◌, ◌⊎◌, ℕ, Bool, true, false, List, [], ◌∷◌, ◌++◌, Some, None, IsUtf8, option_and_then}
use Rattle.serde_json.specs.Read.{read}
use Rattle.adapter_messages.specs.Frames.{IsFrame, IsStopped}
use Rattle.adapter_messages.specs.Requests.{request_of}
use Rattle.adapter_messages.specs.declared.fault.FrameFault.{FrameFault}
use Rattle.adapter_messages.specs.declared.request.Command.{Command}
use Rattle.adapter_messages.specs.declared.request.Request.{Request}
use Rattle.adapter_messages.specs.Failures.{unsent}
use Rattle.adapter_messages.specs.Sent.{complaint_of, event_frame, number_after, number_behind_reply, reply_text}
use Rattle.adapter_messages.specs.declared.exchanging.Ended.{Ended}
use Rattle.adapter_messages.specs.declared.exchanging.Ended.TheVariants.{Asked, HeldBack, NothingMore}
use Rattle.adapter_messages.specs.declared.exchanging.ExchangeFault.{ExchangeFault}
use Rattle.adapter_messages.specs.declared.exchanging.ExchangeFault.TheVariants as fault
use Rattle.adapter_messages.specs.declared.reply.Reply.{Reply}
use Rattle.adapter_messages.specs.declared.replying.SendFault.{SendFault}
use Rattle.adapter_messages.specs.declared.replying.SendFault.TheVariants.{SinkFailed, NoMemory}

-- where an exchange stands: the state of what answers, and the number of the next message
pub record At (State : Type 0) : Type 0 where
  pub state : State
  pub number : ℕ

abbrev pub at_of : {State : Type 0} → State → ℕ → At State
at_of state number = record { state = state; number = number }

-- where an exchange stands behind a reply
abbrev pub behind_reply : {State : Type 0} → At State → Reply → At State
behind_reply s reply = at_of s.state (number_behind_reply s.number reply)

-- a content is that request
pub record IsRequest (content : List ℕ) (request : Request) : Type 0 where
  pub is_text : IsUtf8 content
  pub is : option_and_then request_of (read content) ≡ Some request

-- a content is no request: no text, no JSON, or one with no number or no command
abbrev pub IsNoRequest : List ℕ → Type 0
IsNoRequest content = IsUtf8 content → option_and_then request_of (read content) ≡ None

-- these contents are framed, one behind the other
abbrev pub AreFrames : (contents : List (List ℕ)) → List ℕ → Type 0
AreFrames [] text = text ≡ []
AreFrames (content ∷ contents) text = (frame : List ℕ) × (behind : List ℕ) × IsFrame frame content × AreFrames contents behind × (text ≡ frame ++ behind)

-- Which requests are held back in a state, which replies one may have, and to which state it leads.
module _ {State : Type 0} (holds_back : Command → State → Bool) (Attends : Command → State → Reply → State → Type 0) where
  -- ---- one content, and the text that is sent for it

  -- a request: its response, and its events
  pub record IsAttended (content : List ℕ) (s : At State) (goes_on : Bool) (text : List ℕ) (u : At State) : Type 0 where
    pub request : Request
    pub is_request : IsRequest content request
    pub is_free : holds_back request.command s.state ≡ false
    pub reply : Reply
    pub attends : Attends request.command s.state reply u.state
    pub goes : goes_on ≡ reply.goes_on
    pub number : u.number ≡ number_behind_reply s.number reply
    pub is : text ≡ reply_text s.number request.seq request.name reply

  -- no request: a response would name the number and the command of one, so an event says what came
  pub record IsRefused (content : List ℕ) (s : At State) (text : List ℕ) (u : At State) : Type 0 where
    pub is_no_request : IsNoRequest content
    pub same : u.state ≡ s.state
    pub number : u.number ≡ number_after s.number
    pub is : text ≡ event_frame (complaint_of s.number)

  -- either, and whether the exchange goes on behind it
  abbrev pub IsAnswered : (content : List ℕ) → At State → (goes_on : Bool) → (text : List ℕ) → At State → Type 0
  IsAnswered content s goes_on text u = IsAttended content s goes_on text u ⊎ ((goes_on ≡ true) × IsRefused content s text u)

  -- a request that is held back
  pub record IsHeldBack (content : List ℕ) (s : At State) (request : Request) : Type 0 where
    pub is_request : IsRequest content request
    pub is_held : holds_back request.command s.state ≡ true

  -- a beginning of the text was taken; the number is as before
  pub record IsBegun (content : List ℕ) (s : At State) (part : List ℕ) (u : At State) : Type 0 where
    pub goes_on : Bool
    pub rest : List ℕ
    pub v : At State
    pub answer : IsAnswered content s goes_on (part ++ rest) v
    pub state : u.state ≡ v.state
    pub number : u.number ≡ s.number

  -- why not all of the text was taken; where memory is wanting, nothing may have been done
  abbrev pub IsUnsent : SendFault → (content : List ℕ) → At State → (part : List ℕ) → At State → Type 0
  IsUnsent SinkFailed content s part u = IsBegun content s part u
  IsUnsent NoMemory content s part u = IsBegun content s part u ⊎ ((part ≡ []) × (u ≡ s))

  -- ---- contents, one behind the other

  -- each is answered, and the exchange goes on behind it
  abbrev pub Exchanges : List (List ℕ) → At State → List ℕ → At State → Type 0
  Exchanges [] s text u = (text ≡ []) × (u ≡ s)
  Exchanges (content ∷ contents) s text u = (here : List ℕ) × (behind : List ℕ) × (v : At State) × IsAnswered content s true here v × Exchanges contents v behind u × (text ≡ here ++ behind)

  -- What came, and where the exchange stood before the first content.
  module _ (came : List ℕ) (start : At State) where
    -- frames came, and these bytes behind them; the contents of the frames are answered
    pub record IsExchange (behind answers : List ℕ) (u : At State) : Type 0 where
      pub contents : List (List ℕ)
      pub frames : List ℕ
      pub are_frames : AreFrames contents frames
      pub is_came : came ≡ frames ++ behind
      pub exchanges : Exchanges contents start answers u

    -- and one more frame came, whose content is this
    pub record IsBefore (content answers : List ℕ) (u : At State) : Type 0 where
      pub frame : List ℕ
      pub is_frame : IsFrame frame content
      pub exchange : IsExchange frame answers u

    -- ---- how an exchange ends, where nothing more is read

    -- all contents are answered, up to a request that ends the exchange
    pub record IsAsked (text : List ℕ) (u : At State) : Type 0 where
      pub content : List ℕ
      pub answers : List ℕ
      pub back : List ℕ
      pub v : At State
      pub before : IsBefore content answers v
      pub answer : IsAnswered content v false back u
      pub is : text ≡ answers ++ back

    -- all contents are answered, up to a request that is held back
    pub record IsWaiting (request : Request) (text : List ℕ) (u : At State) : Type 0 where
      pub content : List ℕ
      pub before : IsBefore content text u
      pub is_held : IsHeldBack content u request

    -- all contents are answered, the last one by a part of its answer
    pub record IsCutShort (f : SendFault) (text : List ℕ) (u : At State) : Type 0 where
      pub content : List ℕ
      pub answers : List ℕ
      pub part : List ℕ
      pub v : At State
      pub before : IsBefore content answers v
      pub unsent : IsUnsent f content v part u
      pub is : text ≡ answers ++ part

    -- Whether nothing more comes.
    module _ (ended : Type 0) where
      -- all contents are answered, and no further frame is had
      pub record IsUnframed (f : FrameFault) (text : List ℕ) (u : At State) : Type 0 where
        pub part : List ℕ
        pub stopped : IsStopped ended f part
        pub exchange : IsExchange part text u

      -- what was sent before an end, and where the exchange stands then
      abbrev pub IsEnded : Ended → List ℕ → At State → Type 0
      IsEnded Asked text u = IsAsked text u
      IsEnded NothingMore text u = IsExchange [] text u × ended
      IsEnded (HeldBack request) text u = IsWaiting request text u

      -- what was sent before a fault, and where the exchange stands then
      abbrev pub IsBroken : ExchangeFault → List ℕ → At State → Type 0
      IsBroken (fault.Frame f) text u = IsUnframed f text u
      IsBroken fault.SinkFailed text u = IsCutShort SinkFailed text u
      IsBroken fault.NoMemory text u = IsCutShort NoMemory text u

  -- ---- exchanges that go on behind a request that was held back

  -- What came behind that request, where the exchange stood then, whether nothing more comes, and what is answered to it.
  module _ (came : List ℕ) (start : At State) (ended : Type 0) (request : Request) (reply : Reply) where
    -- the reply is sent, and the exchange goes on up to such an end
    pub record IsResumed (end : Ended) (text : List ℕ) (u : At State) : Type 0 where
      pub behind : List ℕ
      pub is_ended : IsEnded came (behind_reply start reply) ended end behind u
      pub is : text ≡ reply_text start.number request.seq request.name reply ++ behind

    -- a beginning of the reply is sent, and nothing more is read
    pub record IsReplyCut (f : SendFault) (part : List ℕ) (u : At State) : Type 0 where
      pub rest : List ℕ
      pub is : reply_text start.number request.seq request.name reply ≡ part ++ rest
      pub none_came : came ≡ []
      pub same : u ≡ start

    -- the reply is sent, and the exchange stops behind it
    pub record IsBrokenBehind (f : ExchangeFault) (text : List ℕ) (u : At State) : Type 0 where
      pub behind : List ℕ
      pub is_broken : IsBroken came (behind_reply start reply) ended f behind u
      pub is : text ≡ reply_text start.number request.seq request.name reply ++ behind

    -- what was sent before a fault
    abbrev pub IsUnresumed : ExchangeFault → List ℕ → At State → Type 0
    IsUnresumed f text u = ((sending : SendFault) × (f ≡ unsent sending) × IsReplyCut sending text u) ⊎ IsBrokenBehind f text u
