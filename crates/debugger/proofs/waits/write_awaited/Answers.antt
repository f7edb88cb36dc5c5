use Rattle.std.proofs.Common.{◌≡◌, ◌++◌, ◌∙◌, ℕ, Option, OnOk, ap, subst}
use Rattle.std.specs.Prelude.{string_bytes}
use Rattle.rw_objects.specs.declared.count.Count.{Count}
use Rattle.event_core.specs.World.{world_of}
use Rattle.debugger.specs.declared.touched.Sought.{Sought}
use Rattle.debugger.specs.Waits.{awaited_line}
use Rattle.debugger.proofs.Awaited.{awaited_is}
use Rattle.debugger.proofs.waits.write_awaited.Goals as goal

pub returns : goal.returns
returns g c =
    let log = g.L.ReadLog.log c.args.log.now in
    let w = world_of c.args.world.now in
    let there : c.at-here.result ≡ w.memory.counts c.object.result = c.at-here.ensures ∙ ap (λ (counts : ℕ → Count). counts c.object.result) c.versions.ensures in
    subst (λ (s : Option Sought). OnOk c.write_sought.result (string_bytes c.write_sought.new.text ≡ string_bytes c.args.text.now ++ awaited_line log w.threads s))
    (awaited_is c.args.found.now c.object.result c.at-here.result w.memory.counts c.awaited.result c.awaited.ensures there c.object.ensures) c.write_sought.ensures
