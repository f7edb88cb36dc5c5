use Rattle.std.proofs.Common.{rules, ◌≡◌, ◌≢◌, ◌∙◌, [], map, true, ap, subst, refl}
use Rattle.std.proofs.lemmas.Result.{IfOk-weaker}
use Rattle.clap.specs.Words.{App, subcommand_of, subcommand_rows_of, fault_of, is_simple, is_simple_and_free, kind_of, HasKind}
use Rattle.clap.specs.declared.error.kind.ErrorKind.TheVariants as kind
use Rattle.command_words.specs.Commands.{program}
use Rattle.command_words.proofs.Found.{by_found, by_kind, by_text}
use Rattle.command_words.proofs.command.requested.Goals as goal

simple : is_simple program ≡ true
simple = refl

free : is_simple_and_free program ≡ true
free = refl

pub returns-in-Ok : goal.returns-in-Ok
returns-in-Ok g c =
    let words = map g.S.AsStr.text c.args.words.now in
    let taken : fault_of program words ≡ [] = subst (λ (a : App). fault_of a words ≡ []) c.in_ok-commands.ensures (c.in-Ok.ensures.kinds (ap is_simple_and_free c.in_ok-commands.ensures ∙ free)) in
    let found = (c.in-Ok.ensures.matches (ap is_simple c.in_ok-commands.ensures ∙ simple)).1 ∙ ap (λ (a : App). subcommand_of a words) c.in_ok-commands.ensures in
    IfOk-weaker c.found_in.result _ _ (λ x h. by_found words taken (subcommand_rows_of c.in-Ok.matches) found x h) c.found_in.ensures

pub returns-then-use_stderr : goal.returns-then-use_stderr
returns-then-use_stderr g c =
    let words = map g.S.AsStr.text c.args.words.now in
    let kinds : HasKind (fault_of program words) c.in-Err.error = subst (λ (a : App). HasKind (fault_of a words) c.in-Err.error) c.in_ok-commands.ensures (c.in-Err.ensures.kinds (ap is_simple_and_free c.in_ok-commands.ensures ∙ free)) in
    by_kind words (kind_of c.in-Err.error) kinds (λ e. c.in_default.not-OutOfMemory (search rules))

pub returns : goal.returns
returns g c =
    let words = map g.S.AsStr.text c.args.words.now in
    let kinds : HasKind (fault_of program words) c.in-Err.error = subst (λ (a : App). HasKind (fault_of a words) c.in-Err.error) c.in_ok-commands.ensures (c.in-Err.ensures.kinds (ap is_simple_and_free c.in_ok-commands.ensures ∙ free)) in
    let other : kind_of c.in-Err.error ≡ kind.OutOfMemory → ⊥ = λ e. c.in_default.not-OutOfMemory (search rules) in
    let shown : (kind_of c.in-Err.error ≢ kind.DisplayHelp) × (kind_of c.in-Err.error ≢ kind.DisplayVersion) → ⊥ = λ h. search rules in
    (by_kind words (kind_of c.in-Err.error) kinds other, by_text words (kind_of c.in-Err.error) kinds other shown)
