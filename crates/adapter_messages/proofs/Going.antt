-- How exchanges go on and end.
use Rattle.std.proofs.Common.{◌≡◌, ℕ, ◌+◌, List, [], ◌∷◌, ◌++◌, refl, sym, ap, ◌∙◌, subst, add-zero, append_assoc, Result, Ok, Err}
use Rattle.std.specs.Prelude.{Bool, true, false, IsErrAnd, IfErr}
use Rattle.std.proofs.lemmas.List.{append-nil}
use Rattle.adapter_messages.specs.Frames.{IsFrame, IsStopped}
use Rattle.adapter_messages.specs.declared.fault.FrameFault.{FrameFault}
use Rattle.adapter_messages.specs.declared.request.Command.{Command}
use Rattle.adapter_messages.specs.declared.request.Request.{Request}
use Rattle.adapter_messages.specs.Exchanges.{At, AreFrames, Exchanges, IsAnswered, IsHeldBack, IsUnsent, IsExchange, IsBefore, IsAsked, IsWaiting, IsCutShort, IsUnframed, IsBroken}
use Rattle.adapter_messages.specs.Failures.{unsent}
use Rattle.adapter_messages.specs.declared.reply.Reply.{Reply}
use Rattle.adapter_messages.specs.declared.replying.SendFault.{SendFault}
use Rattle.adapter_messages.specs.declared.replying.SendFault.TheVariants.{SinkFailed, NoMemory}

pub none_more : (first before now : ℕ) → now ≡ before + 0 → before ≡ first → now ≡ first
none_more first before now same so = same ∙ add-zero before ∙ so

pub err_is : {X E : Type 0} (P : E → Type 0) (r : Result X E) (e : E) → IsErrAnd r (λ x. x ≡ e) → P e → IfErr r P
err_is P (Ok x) e same h = _
err_is P (Err x) e same h = subst P (sym same) h

are_frames_more : (contents : List (List ℕ)) (frames frame content : List ℕ) → AreFrames contents frames → IsFrame frame content → AreFrames (contents ++ content ∷ []) (frames ++ frame)
are_frames_more [] frames frame content none is = (frame, [], is, refl, ap (λ (t : List ℕ). t ++ frame) none ∙ sym (append-nil frame))
are_frames_more (first ∷ contents) frames frame content (one, behind, is_one, others, cut) is =
    (one, behind ++ frame, is_one, are_frames_more contents behind frame content others is, ap (λ (t : List ℕ). t ++ frame) cut ∙ append_assoc one behind frame)

module _ {State : Type 0} (holds_back : Command → State → Bool) (Attends : Command → State → Reply → State → Type 0) where
  exchanges_more : (contents : List (List ℕ)) (s : At State) (text : List ℕ) (u : At State) (content here : List ℕ) (v : At State) → Exchanges holds_back Attends contents s text u → IsAnswered holds_back Attends content u true here v
      → Exchanges holds_back Attends (contents ++ content ∷ []) s (text ++ here) v
  exchanges_more [] s text u content here v (none, same) answer =
      (here, [], v, subst (λ (x : At State). IsAnswered holds_back Attends content x true here v) same answer, (refl, refl), ap (λ (t : List ℕ). t ++ here) none ∙ sym (append-nil here))
  exchanges_more (first ∷ contents) s text u content here v (one, behind, w, answers, others, is) answer =
      (one, behind ++ here, w, answers, exchanges_more contents w behind u content here v others answer, ap (λ (t : List ℕ). t ++ here) is ∙ append_assoc one behind here)

  module _ {Source Sink : Type 0} (brings : Source → List ℕ → Source → Type 0) (brings_more : (s t u : Source) (xs ys : List ℕ) → brings s xs t → brings t ys u → brings s (xs ++ ys) u)
      (takes : Sink → List ℕ → Sink → Type 0) (takes_more : (s t u : Sink) (xs ys : List ℕ) → takes s xs t → takes t ys u → takes s (xs ++ ys) u) (first : Source) (begun : Sink) (start : At State) where
    -- the contents that came up to here are answered, and the answers are taken
    abbrev pub IsSoFar : Source → Sink → At State → Type 0
    IsSoFar source sink u = (came answers : List ℕ) × brings first came source × takes begun answers sink × IsExchange holds_back Attends came start [] answers u

    abbrev pub Came : Source → List ℕ → Source → Type 0
    Came source content next = (frame : List ℕ) × IsFrame frame content × brings source frame next

    pub came_as : (source : Source) (items content : List ℕ) (next : Source) → content ≡ items → Came source items next → Came source content next
    came_as source items content next is h = (h.0, subst (IsFrame h.0) (sym is) h.1, h.2)

    -- before the first one
    pub none_yet : brings first [] first → takes begun [] begun → IsSoFar first begun start
    none_yet came took = ([], [], came, took, record { contents = []; frames = []; are_frames = refl; is_came = refl; exchanges = (refl, refl) })

    module _ (source : Source) (sink : Sink) (u : At State) (so : IsSoFar source sink u) (next : Source) where
      abbrev frames : List ℕ
      frames = (so.4).frames

      -- with these bytes behind the frames
      more : (part : List ℕ) → so.0 ++ part ≡ frames ++ part
      more part = ap (λ (t : List ℕ). t ++ part) ((so.4).is_came ∙ append-nil frames)

      behind : (part : List ℕ) → IsExchange holds_back Attends (so.0 ++ part) start part so.1 u
      behind part = record { contents = (so.4).contents; frames = frames; are_frames = (so.4).are_frames; is_came = more part; exchanges = (so.4).exchanges }

      -- bytes came that are no frame
      pub unframed : (ended : Type 0) (f : FrameFault) (part : List ℕ) → IsStopped ended f part → brings source part next
          → (came text : List ℕ) × brings first came next × takes begun text sink × IsUnframed holds_back Attends came start ended f text u
      unframed ended f part stopped came = (so.0 ++ part, so.1, brings_more first source next so.0 part so.2 came, so.3, record { part = part; stopped = stopped; exchange = behind part })

      module _ (content : List ℕ) (came : Came source content next) where
        abbrev now : List ℕ
        now = so.0 ++ came.0

        brought : brings first now next
        brought = brings_more first source next so.0 came.0 so.2 came.2

        before : IsBefore holds_back Attends now start content so.1 u
        before = record { frame = came.0; is_frame = came.1; exchange = behind came.0 }

        pub goes_on : (here : List ℕ) (v : At State) (taken : Sink) → IsAnswered holds_back Attends content u true here v → takes sink here taken → IsSoFar next taken v
        goes_on here v taken answer took = (
          now,
          so.1 ++ here,
          brought,
          takes_more begun sink taken so.1 here so.3 took,
          record {
            contents = (so.4).contents ++ content ∷ [];
            frames = frames ++ came.0;
            are_frames = are_frames_more (so.4).contents frames came.0 content (so.4).are_frames came.1;
            is_came = more came.0 ∙ sym (append-nil (frames ++ came.0));
            exchanges = exchanges_more (so.4).contents start so.1 u content here v (so.4).exchanges answer;
          },
        )

        pub asked : (back : List ℕ) (v : At State) (taken : Sink) → IsAnswered holds_back Attends content u false back v → takes sink back taken
            → (came text : List ℕ) × brings first came next × takes begun text taken × IsAsked holds_back Attends came start text v
        asked back v taken answer took = (
          now,
          so.1 ++ back,
          brought,
          takes_more begun sink taken so.1 back so.3 took,
          record { content = content; answers = so.1; back = back; v = u; before = before; answer = answer; is = refl },
        )

        pub waiting : (request : Request) (v : At State) (taken : Sink) → IsHeldBack holds_back Attends content u request → v ≡ u → takes sink [] taken
            → (came text : List ℕ) × brings first came next × takes begun text taken × IsWaiting holds_back Attends came start request text v
        waiting request v taken held same took = (
          now,
          so.1,
          brought,
          subst (λ (t : List ℕ). takes begun t taken) (append-nil so.1) (takes_more begun sink taken so.1 [] so.3 took),
          subst (IsWaiting holds_back Attends now start request so.1) (sym same) (record { content = content; before = before; is_held = held }),
        )

        broken_by : (ended : Type 0) (f : SendFault) (text : List ℕ) (v : At State) → IsCutShort holds_back Attends now start f text v
            → IsBroken holds_back Attends now start ended (unsent f) text v
        broken_by ended SinkFailed text v h = h
        broken_by ended NoMemory text v h = h

        pub cut_short : (ended : Type 0) (f : SendFault) (part : List ℕ) (v : At State) (taken : Sink) → IsUnsent holds_back Attends f content u part v → takes sink part taken
            → (came text : List ℕ) × brings first came next × takes begun text taken × IsBroken holds_back Attends came start ended (unsent f) text v
        cut_short ended f part v taken unsent took = (
          now,
          so.1 ++ part,
          brought,
          takes_more begun sink taken so.1 part so.3 took,
          broken_by ended f (so.1 ++ part) v (record { content = content; answers = so.1; part = part; v = u; before = before; unsent = unsent; is = refl }),
        )
