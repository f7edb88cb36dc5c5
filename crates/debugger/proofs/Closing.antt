-- How dialogues go on and end.
use Rattle.std.proofs.Common.{◌≡◌, ℕ, List, [], ◌∷◌, ◌++◌, inl, inr, refl, sym, subst}
use Rattle.std.specs.Prelude.{true, false}
use Rattle.std.proofs.lemmas.List.{append-nil}
use Rattle.debugger.specs.declared.command.Command.{Command}
use Rattle.debugger.specs.declared.command.Line.{Line}
use Rattle.debugger.specs.Lines.{HasNoEnd, is_end, line_of}
use Rattle.debugger.specs.Talks.{Answers, RepliesTo, IsTalk, IsTail, IsTaken, IsUnended, IsUntaken}
use Rattle.debugger.proofs.MoreLines.{talk_more, talk_behind}

module _ {State : Type 0} (Replies : Command → State → List ℕ → State → Type 0) where
  pub answer_of : (line : Line) (last : List ℕ) (s : State) (text : List ℕ) (u : State) → line ≡ line_of last → is_end line ≡ false → RepliesTo Replies line s text u → Answers Replies last s text u
  answer_of line last s text u is on reply = record {
    goes_on = subst (λ (l : Line). is_end l ≡ false) is on;
    reply = subst (λ (l : Line). RepliesTo Replies l s text u) is reply;
  }

  module _ {Source Sink : Type 0} (brings : Source → List ℕ → Source → Type 0) (brings_more : (s t u : Source) (xs ys : List ℕ) → brings s xs t → brings t ys u → brings s (xs ++ ys) u)
      (takes : Sink → List ℕ → Sink → Type 0) (takes_more : (s t u : Sink) (xs ys : List ℕ) → takes s xs t → takes t ys u → takes s (xs ++ ys) u) (first : Source) (begun : Sink) (start : State) where
    -- the lines that came up to here are answered, and the answers are taken
    abbrev pub IsSoFar : Source → Sink → State → Type 0
    IsSoFar source sink u = (answers : List ℕ) × IsTalk Replies (λ text. brings first text source) start [] answers u × takes begun answers sink

    module _ (source : Source) (sink : Sink) (u : State) (so : IsSoFar source sink u) (next : Source) (last : List ℕ) (plain : HasNoEnd last) where
      pub goes_on : (here : List ℕ) (v : State) (taken : Sink) → brings source (last ++ 10 ∷ []) next → Answers Replies last u here v → takes sink here taken → IsSoFar next taken v
      goes_on here v taken came answer took = (
        so.0 ++ here,
        talk_more Replies (λ text. brings first text source) (λ text. brings first text next) start so.0 u last here v so.1 plain (λ text got. brings_more first source next text (last ++ 10 ∷ []) got came) answer,
        takes_more begun sink taken so.0 here so.2 took,
      )

      behind : (tail : List ℕ) → brings source tail next → IsTalk Replies (λ text. brings first text next) start tail so.0 u
      behind tail came = talk_behind Replies (λ text. brings first text source) (λ text. brings first text next) start so.0 u tail so.1 (λ text got. brings_more first source next text tail got came)

      nothing_behind : brings source last next → brings source (last ++ []) next
      nothing_behind came = subst (λ (l : List ℕ). brings source l next) (sym (append-nil last)) came

      pub unended : brings source last next → (text : List ℕ) × IsUnended Replies (λ text. brings first text next) start text × takes begun text sink
      unended came = (so.0, record { last = last; u = u; talk = behind last came; has_no_end = plain }, so.2)

      module _ (ended : Type 0) where
        -- the last line asks for the end
        pub closed : (tail : List ℕ) → brings source (last ++ tail) next → IsTail Replies (λ text. brings first text next) start ended tail → is_end (line_of last) ≡ true
            → IsTaken Replies (λ text. brings first text next) start ended (λ text. takes begun text sink)
        closed tail came is_tail end = (
          so.0,
          record {
            last = last;
            tail = tail;
            answers = so.0;
            back = [];
            u = u;
            talk = behind (last ++ tail) came;
            has_no_end = plain;
            closes = inl (end, is_tail, refl);
            is = sym (append-nil so.0);
          },
          so.2,
        )

        pub closed_by_end : brings source last next → ended → is_end (line_of last) ≡ true → IsTaken Replies (λ text. brings first text next) start ended (λ text. takes begun text sink)
        closed_by_end came is_over end = closed [] (nothing_behind came) (inr (refl, is_over)) end

        -- nothing comes behind it
        pub answered : (back : List ℕ) (v : State) (taken : Sink) → brings source last next → ended → Answers Replies last u back v → takes sink back taken
            → IsTaken Replies (λ text. brings first text next) start ended (λ text. takes begun text taken)
        answered back v taken came is_over answer took = (
          so.0 ++ back,
          record {
            last = last;
            tail = [];
            answers = so.0;
            back = back;
            u = u;
            talk = behind (last ++ []) (nothing_behind came);
            has_no_end = plain;
            closes = inr (refl, is_over, v, answer);
            is = refl;
          },
          takes_more begun sink taken so.0 back so.2 took,
        )

        pub untaken : (tail : List ℕ) (part rest : List ℕ) (v : State) (taken : Sink) → brings source (last ++ tail) next → IsTail Replies (λ text. brings first text next) start ended tail
            → Answers Replies last u (part ++ rest) v → takes sink part taken → (text : List ℕ) × IsUntaken Replies (λ text. brings first text next) start ended text × takes begun text taken
        untaken tail part rest v taken came is_tail answer took = (
          so.0 ++ part,
          record {
            last = last;
            tail = tail;
            answers = so.0;
            u = u;
            talk = behind (last ++ tail) came;
            has_no_end = plain;
            is_tail = is_tail;
            part = part;
            rest = rest;
            v = v;
            answer = answer;
            is = refl;
          },
          takes_more begun sink taken so.0 part so.2 took,
        )

        pub untaken_at_end : (part rest : List ℕ) (v : State) (taken : Sink) → brings source last next → ended → Answers Replies last u (part ++ rest) v → takes sink part taken
            → (text : List ℕ) × IsUntaken Replies (λ text. brings first text next) start ended text × takes begun text taken
        untaken_at_end part rest v taken came is_over answer took = untaken [] part rest v taken (nothing_behind came) (inr (refl, is_over)) answer took
