-- What comes of one content.
use Rattle.std.proofs.Common.{◌≡◌, ℕ, List, [], ◌++◌, inl, inr, refl, sym, ap, subst, Result, Ok, Err}
use Rattle.std.specs.Prelude.{◌⊎◌, Bool, true, false, IsErrAnd}
use Rattle.adapter_messages.specs.declared.request.Command.{Command}
use Rattle.adapter_messages.specs.declared.request.Request.{Request}
use Rattle.adapter_messages.specs.Exchanges.{At, at_of, IsRequest, IsNoRequest, IsAnswered, IsBegun, IsHeldBack, IsUnsent}
use Rattle.adapter_messages.specs.Sent.{complaint_of, event_frame, number_after, number_behind_reply, reply_text}
use Rattle.adapter_messages.specs.Turns.{TurnSo}
use Rattle.adapter_messages.specs.declared.answering.Turn.{Turn}
use Rattle.adapter_messages.specs.declared.answering.Turn.TheVariants.{Answered, HeldBack}
use Rattle.adapter_messages.specs.declared.reply.Reply.{Reply}
use Rattle.adapter_messages.specs.declared.replying.SendFault.{SendFault}
use Rattle.adapter_messages.specs.declared.replying.SendFault.TheVariants.{SinkFailed, NoMemory}

module _ {State : Type 0} (holds_back : Command → State → Bool) (Attends : Command → State → Reply → State → Type 0) (content : List ℕ) where
  pub refused : (state : State) (n : ℕ) → IsNoRequest content → IsAnswered holds_back Attends content (at_of state n) true (event_frame (complaint_of n)) (at_of state (number_after n))
  refused state n none = inr (refl, record { is_no_request = none; same = refl; number = refl; is = refl })

  pub begun : (s : At State) (goes_on : Bool) (text part rest : List ℕ) (v u : At State) → IsAnswered holds_back Attends content s goes_on text v → text ≡ part ++ rest → u.state ≡ v.state → u.number ≡ s.number
      → IsBegun holds_back Attends content s part u
  begun s goes_on text part rest v u answer cut state number = record {
    goes_on = goes_on;
    rest = rest;
    v = v;
    answer = subst (λ (t : List ℕ). IsAnswered holds_back Attends content s goes_on t v) cut answer;
    state = state;
    number = number;
  }

  unsent_by : (f : SendFault) (s : At State) (part : List ℕ) (u : At State) → IsBegun holds_back Attends content s part u → IsUnsent holds_back Attends f content s part u
  unsent_by SinkFailed s part u h = h
  unsent_by NoMemory s part u h = inl h

  -- an answer that was begun, and its fault
  pub turn_begun : (s : At State) (took : List ℕ → Type 0) (u : At State) (r : Result Turn SendFault) (f : SendFault) (part : List ℕ) → IsErrAnd r (λ e. e ≡ f) → IsBegun holds_back Attends content s part u → took part
      → TurnSo holds_back Attends content s took u r
  turn_begun s took u (Ok turn) f part same h k = absurd same
  turn_begun s took u (Err e) f part same h k = (part, unsent_by e s part u h, k)

  -- what came of a content that is answered
  pub turn_answered : (s : At State) (took : List ℕ → Type 0) (u : At State) (turn : Turn) (goes_on b : Bool) → turn ≡ Answered goes_on → goes_on ≡ b → TurnSo holds_back Attends content s took u (Ok turn)
      → (text : List ℕ) × IsAnswered holds_back Attends content s b text u × took text
  turn_answered s took u turn goes_on b is test h =
      subst (λ (x : Bool). (text : List ℕ) × IsAnswered holds_back Attends content s x text u × took text) test (subst (λ (t : Turn). TurnSo holds_back Attends content s took u (Ok t)) is h)

  -- and of one that is held back
  pub turn_held : (s : At State) (took : List ℕ → Type 0) (u : At State) (turn : Turn) (request : Request) → turn ≡ HeldBack request → TurnSo holds_back Attends content s took u (Ok turn)
      → IsHeldBack holds_back Attends content s request × (u ≡ s) × took []
  turn_held s took u turn request is h = subst (λ (t : Turn). TurnSo holds_back Attends content s took u (Ok t)) is h

  module _ (request : Request) (is_request : IsRequest content request) (s u : State) (n : ℕ) (is_free : holds_back request.command s ≡ false) where
    pub attended : (reply : Reply) → Attends request.command s reply u
        → IsAnswered holds_back Attends content (at_of s n) reply.goes_on (reply_text n request.seq request.name reply) (at_of u (number_behind_reply n reply))
    attended reply attends = inl record { request = request; is_request = is_request; is_free = is_free; reply = reply; attends = attends; goes = refl; number = refl; is = refl }

    unattended : (u ≡ s) ⊎ ((reply : Reply) × Attends request.command s reply u) → IsUnsent holds_back Attends NoMemory content (at_of s n) [] (at_of u n)
    unattended (inl same) = inr (refl, ap (λ (x : State). at_of x n) same)
    unattended (inr (reply, attends)) = inl (begun (at_of s n) reply.goes_on (reply_text n request.seq request.name reply) [] (reply_text n request.seq request.name reply) (at_of u (number_behind_reply n reply)) (at_of u n) (attended reply attends) refl refl refl)

    -- there was no memory for a reply
    pub turn_unattended : (took : List ℕ → Type 0) (r : Result Turn SendFault) → IsErrAnd r (λ e. e ≡ NoMemory) → (u ≡ s) ⊎ ((reply : Reply) × Attends request.command s reply u) → took []
        → TurnSo holds_back Attends content (at_of s n) took (at_of u n) r
    turn_unattended took (Ok turn) same h k = absurd same
    turn_unattended took (Err e) same h k = ([], subst (λ (f : SendFault). IsUnsent holds_back Attends f content (at_of s n) [] (at_of u n)) (sym same) (unattended h), k)
