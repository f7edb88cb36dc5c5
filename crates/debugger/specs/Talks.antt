-- Dialogues: lines that come, and what is answered to them.
use Rattle.std.specs.Prelude.{◌≡◌, ◌⊎◌, ℕ, true, false, List, [], ◌∷◌, ◌++◌, All, codes}
use Rattle.debugger.specs.declared.command.Command.{Command}
use Rattle.debugger.specs.declared.command.Line.{Line}
use Rattle.debugger.specs.declared.command.Line.TheVariants as line
use Rattle.debugger.specs.declared.talking.TalkFault.{TalkFault}
use Rattle.debugger.specs.declared.talking.TalkFault.TheVariants.{SourceFailed, SinkFailed}
use Rattle.debugger.specs.Lines.{HasNoEnd, is_end, line_of, text_of}

-- what is said of a line that is no command
abbrev pub unknown_line : List ℕ
unknown_line = codes "error: no such command, try help\n"

-- States, and which answers a command may have in one, and to which it leads.
module _ {State : Type 0} (Replies : Command → State → List ℕ → State → Type 0) where
  -- the answer to a line that does not ask for the end
  abbrev pub RepliesTo : Line → State → List ℕ → State → Type 0
  RepliesTo line.Empty s text u = (text ≡ []) × (u ≡ s)
  RepliesTo (line.Command command) s text u = Replies command s text u
  RepliesTo line.Unknown s text u = (text ≡ unknown_line) × (u ≡ s)

  pub record Answers (bytes : List ℕ) (s : State) (text : List ℕ) (u : State) : Type 0 where
    pub goes_on : is_end (line_of bytes) ≡ false
    pub reply : RepliesTo (line_of bytes) s text u

  -- the answers to lines, one behind the other
  abbrev pub Talks : List (List ℕ) → State → List ℕ → State → Type 0
  Talks [] s text u = (text ≡ []) × (u ≡ s)
  Talks (bytes ∷ lines) s text u = (here : List ℕ) × (behind : List ℕ) × (v : State) × Answers bytes s here v × Talks lines v behind u × (text ≡ here ++ behind)

  -- What came, and the state before the first line.
  module _ (brought : List ℕ → Type 0) (start : State) where
    -- lines came with their ends, and these bytes behind them; so the lines were answered
    pub record IsTalk (behind answers : List ℕ) (u : State) : Type 0 where
      pub lines : List (List ℕ)
      pub have_no_end : All HasNoEnd lines
      pub came : brought (text_of lines ++ behind)
      pub talks : Talks lines start answers u

    -- all whole lines that came were answered, and so much more came
    pub record IsUnended (text : List ℕ) : Type 0 where
      pub last : List ℕ
      pub u : State
      pub talk : IsTalk last text u
      pub has_no_end : HasNoEnd last

    -- Whether nothing more comes.
    module _ (ended : Type 0) where
      -- how a last line ends: by its line end, or where nothing more comes
      abbrev pub IsTail : List ℕ → Type 0
      IsTail tail = (tail ≡ 10 ∷ []) ⊎ ((tail ≡ []) × ended)

      -- the last line, and its answer: it asks for the end; or nothing more comes behind it
      abbrev pub Closes : State → List ℕ → List ℕ → List ℕ → Type 0
      Closes u last tail back = ((is_end (line_of last) ≡ true) × IsTail tail × (back ≡ []))
          ⊎ ((tail ≡ []) × ended × (v : State) × Answers last u back v)

      -- all lines were answered, up to the one that asks for the end, or to the end of what came
      pub record IsWhole (text : List ℕ) : Type 0 where
        pub last : List ℕ
        pub tail : List ℕ
        pub answers : List ℕ
        pub back : List ℕ
        pub u : State
        pub talk : IsTalk (last ++ tail) answers u
        pub has_no_end : HasNoEnd last
        pub closes : Closes u last tail back
        pub is : text ≡ answers ++ back

      -- all lines that came were answered, the last one by a part of its answer
      pub record IsUntaken (text : List ℕ) : Type 0 where
        pub last : List ℕ
        pub tail : List ℕ
        pub answers : List ℕ
        pub u : State
        pub talk : IsTalk (last ++ tail) answers u
        pub has_no_end : HasNoEnd last
        pub is_tail : IsTail tail
        pub part : List ℕ
        pub rest : List ℕ
        pub v : State
        pub answer : Answers last u (part ++ rest) v
        pub is : text ≡ answers ++ part

      -- Which text was taken.
      module _ (took : List ℕ → Type 0) where
        abbrev pub IsTaken : Type 0
        IsTaken = (text : List ℕ) × IsWhole text × took text

        -- why a dialogue stops: what brings lines failed, or what takes answers
        abbrev pub IsBroken : Type 0 → Type 0 → TalkFault → Type 0
        IsBroken broke unwritable SourceFailed = broke × (text : List ℕ) × IsUnended text × took text
        IsBroken broke unwritable SinkFailed = unwritable × (text : List ℕ) × IsUntaken text × took text
