use Rattle.std.proofs.Common.{subst, ap, ◌≡◌, IfOk, List, map}
use Rattle.event_core.specs.World.{world_of}
use Rattle.wasm_world.specs.Opening.{WasmWorld}
use Rattle.debugger.specs.declared.watching.WatchedNumber.{WatchedNumber}
use Rattle.debugger.specs.At.{at_of}
use Rattle.debugger.specs.Watches.{seen_now}
use Rattle.debugger.proofs.debugger.Debugger.seen.Goals as goal

pub returns : goal.returns
returns c =
    subst (λ (w : WasmWorld). IfOk c.seen_now.result (λ seen. seen.items ≡ map (seen_now w) (at_of c.args.self.now).watches)) (ap world_of c.world.ensures.same)
    (subst (λ (ks : List WatchedNumber). IfOk c.seen_now.result (λ seen. seen.items ≡ map (seen_now (world_of c.world.result.now)) ks)) c.as_slice.ensures.value c.seen_now.ensures)
