use Rattle.std.proofs.Common.{◌≡◌, List, sym, subst, length, ◌≤◌}
use Rattle.std.specs.Prelude.{Some}
use Rattle.event_core.specs.Opening.{AllFresh, opening_world}
use Rattle.wasm_world.specs.Sound.{ThreadWithRoom, thread_of}
use Rattle.thread_words.specs.ThreadCode.{thread_code}
use Rattle.wasm_world.specs.Shared.{shared_values}
use Rattle.wasm_world.specs.Opening.{opening_world_of}
use Rattle.wasm_types.specs.declared.sizes.TheConstants.{MOST_THREADS}
use Rattle.threaded_replay.proofs.replaying.begin.Goals as goal

pub returns-clause-world : goal.returns-clause-world
returns-clause-world c =
    let space = c.in_ok-parts.parts.space in
    subst (λ (l : List ThreadWithRoom). opening_world_of c.args.valid.now c.args.plan.now c.args.profile ≡ Some (opening_world thread_of space.blocks.limits (shared_values space.blocks space.queues) l)) (sym c.in_ok-threads.ensures) c.in_ok-parts.ensures.world

pub returns-clause-few : goal.returns-clause-few
returns-clause-few c = subst (λ (l : List ThreadWithRoom). length l ≤ MOST_THREADS) (sym c.in_ok-threads.ensures) c.in_ok-parts.ensures.few

pub returns-clause-fresh : goal.returns-clause-fresh
returns-clause-fresh c = subst (λ (l : List ThreadWithRoom). AllFresh thread_code thread_of c.in_ok-parts.parts.space.blocks.limits l) (sym c.in_ok-threads.ensures) c.in_ok-parts.ensures.fresh
