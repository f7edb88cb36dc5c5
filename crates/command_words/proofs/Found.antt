-- What words ask for, by what a parser answers.
use Rattle.std.proofs.Common.{◌≡◌, ◌≢◌, ◌∙◌, ◌⊎◌, List, [], ap, refl, sym, subst, inl, inr}
use Rattle.std.specs.Prelude.{Option}
use Rattle.clap.specs.Words.{Text, Row, subcommand_of, fault_of, IsAmong}
use Rattle.clap.specs.declared.error.kind.ErrorKind.{ErrorKind}
use Rattle.clap.specs.declared.error.kind.ErrorKind.TheVariants as kind
use Rattle.command_words.specs.Commands.{program}
use Rattle.command_words.specs.Asked.{IsFoundBy, IsFound, IsRequested, why_of, AsksNothing, AsksForText}
use Rattle.command_words.specs.declared.command.Asked.{Asked}
use Rattle.command_words.specs.declared.command.Asked.TheVariants as asked

pub by_found : (words : List Text) → fault_of program words ≡ [] → (found : Option (Text × List Row)) → found ≡ subcommand_of program words → (x : Asked) → IsFound found x → IsRequested words x
by_found words taken found e (asked.Request r why) h = (record { taken = taken; found = subst (λ f. IsFoundBy f r) e h.0 }, h.1 ∙ ap why_of e)
by_found words taken found e (asked.Text t) h = absurd h
by_found words taken found e (asked.Unknown t) h = absurd h
by_found words taken found e (asked.Wrong t) h = λ r a. h r (subst (λ f. IsFoundBy f r) (sym e) a.found)

pub by_kind : (words : List Text) (k : ErrorKind) → (k ≡ kind.OutOfMemory) ⊎ IsAmong k (fault_of program words) → (k ≡ kind.OutOfMemory → ⊥) → AsksNothing words
by_kind words k (inl memory) other = λ r a. other memory
by_kind words k (inr among) other = λ r a. subst (λ kinds. IsAmong k kinds) a.taken among

text_kind : (k : ErrorKind) → ((k ≢ kind.DisplayHelp) × (k ≢ kind.DisplayVersion) → ⊥) → (k ≡ kind.DisplayHelp) ⊎ (k ≡ kind.DisplayVersion)
text_kind kind.DisplayHelp h = inl refl
text_kind kind.DisplayVersion h = inr refl
text_kind k h = absurd (h ((λ e. absurd cc), (λ e. absurd cc)))

pub by_text : (words : List Text) (k : ErrorKind) → (k ≡ kind.OutOfMemory) ⊎ IsAmong k (fault_of program words) → (k ≡ kind.OutOfMemory → ⊥) → ((k ≢ kind.DisplayHelp) × (k ≢ kind.DisplayVersion) → ⊥) → AsksForText words
by_text words k (inl memory) other h = absurd (other memory)
by_text words k (inr among) other h = elim (text_kind k h) [
  | inl help ↦ inl (subst (λ x. IsAmong x (fault_of program words)) help among)
  | inr version ↦ inr (subst (λ x. IsAmong x (fault_of program words)) version among)
]
