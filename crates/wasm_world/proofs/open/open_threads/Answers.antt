use Rattle.std.proofs.Common.{◌≡◌, ◌++◌, ◌∷◌, [], sym, ap, ◌∙◌, map, List}
use Rattle.std.specs.Prelude.{Some}
use Rattle.std.proofs.lemmas.List.{map-append}
use Rattle.integer_machine.specs.Sound.{thread_of}
use Rattle.thread_words.specs.ThreadCode.{ThreadAt}
use Rattle.wasm_world.proofs.Begun.{one_more}
use Rattle.wasm_world.proofs.open.open_threads.Goals as goal

pub loop-thread-preserved : goal.loop-thread-preserved
loop-thread-preserved c =
    rw c.in_ok-push.ensures.items
    (one_more c.args.valid.now c.args.plan.now c.args.profile.now c.loop-thread.thread (map thread_of c.loop-thread.threads.items) (thread_of c.in_ok-opened.opened) c.loop-thread.invariant c.in_ok-opened.ensures
    ∙ ap (λ (ts : List ThreadAt). Some ts) (sym (map-append thread_of c.loop-thread.threads.items (c.in_ok-opened.opened ∷ []))))
