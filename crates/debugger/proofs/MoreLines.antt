-- Dialogues that go on by a line.
use Rattle.std.proofs.Common.{◌≡◌, ℕ, List, [], ◌∷◌, ◌++◌, refl, sym, ap, ◌∙◌, subst, append_assoc}
use Rattle.std.proofs.lemmas.List.{append-nil}
use Rattle.std.proofs.lemmas.List.Elements.{All-append, All-cons, All-nil}
use Rattle.debugger.specs.declared.command.Command.{Command}
use Rattle.debugger.specs.Lines.{HasNoEnd, text_of}
use Rattle.debugger.specs.Talks.{Answers, Talks, IsTalk}

text_of_more : (lines : List (List ℕ)) (last : List ℕ) → text_of (lines ++ last ∷ []) ≡ text_of lines ++ (last ++ 10 ∷ [])
text_of_more [] last = append-nil (last ++ 10 ∷ [])
text_of_more (line ∷ lines) last = ap (λ (l : List ℕ). (line ++ 10 ∷ []) ++ l) (text_of_more lines last) ∙ sym (append_assoc (line ++ 10 ∷ []) (text_of lines) (last ++ 10 ∷ []))

module _ {State : Type 0} (Replies : Command → State → List ℕ → State → Type 0) where
  talks_more : (lines : List (List ℕ)) (s : State) (text : List ℕ) (u : State) (last here : List ℕ) (v : State) → Talks Replies lines s text u → Answers Replies last u here v → Talks Replies (lines ++ last ∷ []) s (text ++ here) v
  talks_more [] s text u last here v (none, same) answer =
      (here, [], v, subst (λ (x : State). Answers Replies last x here v) same answer, (refl, refl), ap (λ (t : List ℕ). t ++ here) none ∙ sym (append-nil here))
  talks_more (line ∷ lines) s text u last here v (first, behind, w, answers, others, is) answer =
      (first, behind ++ here, w, answers, talks_more lines w behind u last here v others answer, ap (λ (t : List ℕ). t ++ here) is ∙ append_assoc first behind here)

  module _ (brought next : List ℕ → Type 0) (start : State) where
    -- one more line came, and was answered
    pub talk_more : (answers : List ℕ) (u : State) (last here : List ℕ) (v : State) → IsTalk Replies brought start [] answers u → HasNoEnd last
        → ((text : List ℕ) → brought text → next (text ++ (last ++ 10 ∷ []))) → Answers Replies last u here v → IsTalk Replies next start [] (answers ++ here) v
    talk_more answers u last here v talk plain on answer = record {
      lines = talk.lines ++ last ∷ [];
      have_no_end = All-append HasNoEnd talk.lines (last ∷ []) talk.have_no_end (All-cons HasNoEnd last [] plain (All-nil HasNoEnd));
      came = subst next (ap (λ (t : List ℕ). t ++ (last ++ 10 ∷ [])) (append-nil (text_of talk.lines)) ∙ sym (text_of_more talk.lines last) ∙ sym (append-nil (text_of (talk.lines ++ last ∷ [])))) (on (text_of talk.lines ++ []) talk.came);
      talks = talks_more talk.lines start answers u last here v talk.talks answer;
    }

    -- more came behind
    pub talk_behind : (answers : List ℕ) (u : State) (behind : List ℕ) → IsTalk Replies brought start [] answers u → ((text : List ℕ) → brought text → next (text ++ behind)) → IsTalk Replies next start behind answers u
    talk_behind answers u behind talk on = record {
      lines = talk.lines;
      have_no_end = talk.have_no_end;
      came = subst next (ap (λ (t : List ℕ). t ++ behind) (append-nil (text_of talk.lines))) (on (text_of talk.lines ++ []) talk.came);
      talks = talk.talks;
    }
