-- What the program answers of files over memory.
use Rattle.std.proofs.Common.{◌≡◌, ◌⊎◌, ℕ, List, [], true, false, refl, sym, ap, subst, ◌∙◌, inl, inr}
use Rattle.std.specs.Prelude.{Option, Some, None, codes}
use Rattle.std.specs.Borrow.{Bor}
use Rattle.std.specs.Str.{bytes_eq}
use Rattle.clap.specs.Words.{Text, Row, fault_of, subcommand_of, IsAmong, Kinds}
use Rattle.clap.specs.declared.error.kind.ErrorKind.TheVariants as kind
use Rattle.command_words.specs.Commands.{program}
use Rattle.command_words.specs.Asked.{Asks, IsFoundBy, asks_why}
use Rattle.command_words.specs.declared.requests.Request.{Request}
use Rattle.command_words.specs.declared.requests.Request.TheVariants as request
use Rattle.command_words.specs.declared.requests.GatherForm.TheVariants as forms
use Rattle.replica.specs.declared.skipping.Skipped.{Skipped}
use Rattle.commands.specs.declared.memory.MemoryFile.{MemoryFile}
use Rattle.commands.specs.Memory.{HoldsBytes, Fails, file_at}
use Rattle.commands.specs.PlanChecks.{IsCheckAnswer}
use Rattle.program.specs.Answers.{IsDone, IsDoneBy, IsSaid}
use Rattle.program.specs.InMemory.{HasValidModule}

another : (name other : List ℕ) → name ≡ codes "check" → name ≡ other → bytes_eq other (codes "check") ≡ false → ⊥
another name other is is_other differs =
    let yes : true ≡ bytes_eq other (codes "check") = ap (λ (l : List ℕ). bytes_eq l (codes "check")) (sym is ∙ is_other) in
    absurd cc

abbrev text_of : Option Text → List ℕ
text_of None = []
text_of (Some text) = text

-- where the words ask for a command, they do not ask for a text
no_text : (kinds : Kinds) → kinds ≡ [] → IsAmong kind.DisplayHelp kinds ⊎ IsAmong kind.DisplayVersion kinds → ⊥
no_text kinds none (inl h) = subst (λ (k : Kinds). IsAmong kind.DisplayHelp k) none h
no_text kinds none (inr h) = subst (λ (k : Kinds). IsAmong kind.DisplayVersion k) none h

module _ (files : List MemoryFile) where
  -- what was checked was read from the file at that path
  valid : (path : List ℕ) (plan : Option (Bor (List ℕ))) (text : List ℕ) → IsCheckAnswer (λ at. HoldsBytes (file_at files at)) path plan text → HasValidModule files path
  valid path None text done = record { bytes = done.1.bytes; held = done.1.held; m = done.0; is_module = done.1.is_module; typed = done.1.typed }
  valid path (Some plan) text done = let file = done.2.has_module in record { bytes = file.bytes; held = file.held; m = done.0; is_module = file.is_module; typed = file.typed }

  module _ (brought : List ℕ → Type 0) (ended broke : Type 0) (counted : Skipped → Type 0) where
    -- the words ask for no other command
    by_request : (said told : List ℕ → Type 0) (found : Option (Text × List Row)) (path : Bor (List ℕ)) (plan : Option (Bor (List ℕ))) → IsFoundBy found (request.Check path plan) → (r : Request) → IsFoundBy found r
        → (text : List ℕ) → IsDone (λ at. HoldsBytes (file_at files at)) (λ at. Fails (file_at files at)) brought ended broke counted said told r text → HasValidModule files path.now
    by_request said told None path plan h r k text done = absurd h
    by_request said told (Some p) path plan h (request.Check other beside) k text done =
        let same : other.now ≡ path.now = ap text_of (sym k.1 ∙ h.1) in
        subst (λ (l : List ℕ). HasValidModule files l) same (valid other.now beside text done.0)
    by_request said told (Some p) path plan h (request.Gather skips (forms.ByThread objects contradictions)) k text done = absurd (another p.0 (codes "gather") h.0 k.1.0 refl)
    by_request said told (Some p) path plan h (request.Gather skips (forms.ByObject only shared)) k text done = absurd (another p.0 (codes "gather") h.0 k.1.0 refl)
    by_request said told (Some p) path plan h (request.Gather skips (forms.Chart only from to)) k text done = absurd (another p.0 (codes "chart") h.0 k.1.0 refl)
    by_request said told (Some p) path plan h (request.Record r) k text done = absurd (another p.0 (codes "record") h.0 k.0 refl)
    by_request said told (Some p) path plan h (request.Hunt r) k text done = absurd (another p.0 (codes "hunt") h.0 k.0 refl)
    by_request said told (Some p) path plan h (request.Replay r by_threads names offsets) k text done = absurd (another p.0 (codes "replay") h.0 k.0 refl)
    by_request said told (Some p) path plan h (request.View v) k text done = absurd (another p.0 (codes "view") h.0 k.0 refl)
    by_request said told (Some p) path plan h (request.Trace v) k text done = absurd (another p.0 (codes "trace") h.0 k.0 refl)
    by_request said told (Some p) path plan h (request.Debug r) k text done = absurd (another p.0 (codes "debug") h.0 k.0 refl)
    by_request said told (Some p) path plan h request.Adapter k text done = absurd (another p.0 (codes "dap") h.0 k refl)

    module _ (took : List ℕ → Type 0) (tells : List ℕ → Type 0) (unheard unread : Type 0) (words : List Text) (path : Bor (List ℕ)) (plan : Option (Bor (List ℕ))) (asks : Asks words (request.Check path plan)) where
      pub is_valid : IsDoneBy (λ at. HoldsBytes (file_at files at)) (λ at. Fails (file_at files at)) brought ended broke took unheard (Unit {0}) (Unit {0}) counted tells unread words → HasValidModule files path.now
      is_valid (inl h) = by_request (IsSaid tells (asks_why words)) tells (subcommand_of program words) path plan asks.found h.0 h.1.found h.2.0 h.2.1
      is_valid (inr h) = absurd (no_text (fault_of program words) asks.taken h.0)
