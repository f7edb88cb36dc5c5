use Rattle.std.proofs.Common.{◌≡◌, ◌∙◌, ◌++◌, ◌∷◌, [], true, false, rules, refl, sym, ap, subst, length, Some, None}
use Rattle.wasm_types.specs.declared.modules.Module.{Module}
use Rattle.thread_words.specs.declared.stacks.Level.{Level}
use Rattle.thread_words.specs.Words.{words_of}
use Rattle.integer_machine.specs.Entry.{entry_words}
use Rattle.integer_machine.proofs.Beginning.{begins_alone, begins_started}
use Rattle.integer_machine.proofs.opening.opening_stacks.Goals.{in-None, in-Some+in_ok-push-in-Some+in_ok-push_entry-in-Some}
use Rattle.integer_machine.proofs.opening.opening_stacks.Goals as goal

pub returns : goal.returns
returns c = λ first h.
    let m : c.module-module.result.now ≡ c.args.valid.now = c.module-module.ensures.module in
    let bodies : c.as_slice-bodies.result.now ≡ c.args.valid.now.bodies = c.as_slice-bodies.ensures ∙ ap (λ (x : Module). x.bodies) m in
    let globals : c.in_ok-globals.globals.items ≡ words_of (Rattle.wasm_types.specs.Globals.opening_globals c.args.valid.now) = c.in_ok-globals.ensures.words ∙ ap (λ x. words_of (Rattle.wasm_types.specs.Globals.opening_globals x)) m in
    let range = subst (λ x. Rattle.thread_words.specs.Words.AreInRange (Rattle.wasm_types.specs.Globals.opening_globals x)) m c.in_ok-globals.ensures.range in
    let labels : c.new.result.items ≡ [] = search rules in
    let exported : c.entered-exported.result ≡ record { function = c.args.function; place = 0; words = 0; labels = 0 } = c.entered-exported.ensures in
    elim c.match-module.branch [
      | in-None w ↦
          let starting : c.is_some.result ≡ false = search rules in
          let words : c.match-module.words.items ≡ entry_words c.index-bodies-function.result c.args.arguments.now = search rules in
          let callers : c.match-module.callers.items ≡ [] = search rules in
          let here : c.match-module.here ≡ c.entered-exported.result = search rules in
          let none : c.args.valid.now.start ≡ None = ap (λ (x : Module). x.start) (sym m) ∙ w.in-None.is in
          begins_alone c.args.valid.now c.args.function c.args.arguments.now c.as_slice-bodies.result.now c.index-bodies-function.result first _ bodies c.index-bodies-function.is none
          h refl (here ∙ exported) callers starting words labels globals c.in_ok-push_entry.ensures.range range
      | in-Some+in_ok-push-in-Some+in_ok-push_entry-in-Some w ↦
          let starting : c.is_some.result ≡ true = search rules in
          let size : w.len-below.result ≡ length (entry_words c.index-bodies-function.result c.args.arguments.now) = search rules in
          let words : c.match-module.words.items ≡ entry_words c.index-bodies-function.result c.args.arguments.now ++ entry_words w.index-bodies-start.result [] = search rules in
          let callers : c.match-module.callers.items ≡ c.entered-exported.result ∷ [] = search rules in
          let here : c.match-module.here ≡ record { function = w.in-Some.start; place = 0; words = w.len-below.result; labels = 0 } = search rules in
          let some : c.args.valid.now.start ≡ Some w.in-Some.start = ap (λ (x : Module). x.start) (sym m) ∙ w.in-Some.is in
          begins_started c.args.valid.now c.args.function w.in-Some.start c.args.arguments.now c.as_slice-bodies.result.now c.index-bodies-function.result w.index-bodies-start.result first _ w.len-below.result bodies c.index-bodies-function.is
          w.index-bodies-start.is some h refl here (callers ∙ ap (λ (x : Level). x ∷ []) exported) starting size words labels globals c.in_ok-push_entry.ensures.range range
    ]
