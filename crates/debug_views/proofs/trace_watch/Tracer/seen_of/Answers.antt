use Rattle.std.proofs.Common.{◌<◌, false, sym, ◌∙◌, arith}
use Rattle.std.proofs.lemmas.Option.{get_or_from_slice_get}
use Rattle.event_core.specs.World.{world_of}
use Rattle.debug_views.specs.Trace.{is_of_threads, seen_of}
use Rattle.debug_views.proofs.TraceLaws.{seen_asked, seen_not, seen_past}
use Rattle.debug_views.proofs.trace_watch.Tracer.seen_of.Goals.{then-at-count-via-then-at-count, then-at-count-via-else-at-count+then-not-self-at}
use Rattle.debug_views.proofs.trace_watch.Tracer.seen_of.Goals as goal

pub returns-then-at-count : goal.returns-then-at-count
returns-then-at-count c =
    let choice = c.args.self.now.choice in
    let w = world_of c.args.world.now in
    let t = c.args.thread in
    elim c.then-at-count.branch [
      | then-at-count-via-then-at-count b ↦ sym (seen_past choice.only.now choice.bytes.now w t (let h = b.if-at-count.true in let n = c.count.ensures.count in omega (arith, h, n)))
      | then-at-count-via-else-at-count+then-not-self-at b ↦
          let within : t < 16 = let h = b.if-at-count.false in let n = c.count.ensures.few in omega (arith, h, n) in
          let told = get_or_from_slice_get c.args.self.now.threads t (is_of_threads choice.only.now t) false (c.args.self.now.chosen t within) in
          sym (seen_not choice.only.now choice.bytes.now t (seen_of w t) (sym told ∙ b.if-not-self-at.true))
    ]

pub returns : goal.returns
returns c =
    let choice = c.args.self.now.choice in
    let w = world_of c.args.world.now in
    let t = c.args.thread in
    let within : t < 16 = let h = c.if-at-count.false in let n = c.count.ensures.few in omega (arith, h, n) in
    let told = get_or_from_slice_get c.args.self.now.threads t (is_of_threads choice.only.now t) false (c.args.self.now.chosen t within) in
    c.seen_of.ensures ∙ seen_asked choice.only.now choice.bytes.now w t c.in_ok-action.action (sym told ∙ c.if-not-self-at.false) (sym c.has_action.ensures ∙ c.if-not-has_action.false) c.in_ok-action.ensures
