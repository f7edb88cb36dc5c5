use Rattle.std.proofs.Common.{◌≡◌, Option, Some, None, sym, ap, ◌∙◌}
use Rattle.std.specs.Prelude.{option_copied}
use Rattle.rw_objects.specs.declared.entry.Entry.{Entry}
use Rattle.log_pieces.specs.declared.flat.Flat.{Flat}
use Rattle.log_pieces.specs.declared.flat.Flat.TheVariants.{Known, Clash}
use Rattle.rw_objects.specs.Memory.{memory_of, entry_of}
use Rattle.replay_gate.specs.Following.{LogPlace}
use Rattle.replay_gate.proofs.Taking.{known_takes, none_takes}
use Rattle.replay_gate.proofs.following.FollowingEntryLog.takes.Goals.{in-None, in-Some-Clash, in-Some-Known}
use Rattle.replay_gate.proofs.following.FollowingEntryLog.takes.Goals as goal

not_known : {o : Option (Flat Entry)} {item : Entry} → o ≡ None → o ≡ Some (Known item) → ⊥
not_known p q = cc

not_clashing : {o : Option (Flat Entry)} {item : Entry} → o ≡ Some Clash → o ≡ Some (Known item) → ⊥
not_clashing p q = cc

pub returns-clause-takes : goal.returns-clause-takes
returns-clause-takes g c =
    let log = g.L.ReadLog.log in
    let at : LogPlace _ = record { log = c.self.inside.log.now; thread = c.self.inside.thread; place = c.self.inside.place; places = c.self.inside.places } in
    let entry = entry_of g.S.ObjectSpace.meaning (memory_of c.args.memory.now) c.args.op.now in
    elim c.match-held.branch [
      | in-None w ↦
          let none : (log at.log).entry at.thread at.place ≡ None = sym c.read.ensures.holds ∙ sym c.held.ensures ∙ ap option_copied w.in-None.is in
          rw w.result-is (none_takes log at c.args.self.now entry c.self.view_is (λ item h. not_known none h))
      | in-Some-Clash w ↦
          let clash : (log at.log).entry at.thread at.place ≡ Some Clash = sym c.read.ensures.holds ∙ sym c.held.ensures ∙ ap option_copied w.in-Some-Clash.is ∙ ap Some w.in-Some-Clash.field-0-is in
          rw w.result-is (none_takes log at c.args.self.now entry c.self.view_is (λ item h. not_clashing clash h))
      | in-Some-Known w ↦
          let known : (log at.log).entry at.thread at.place ≡ Some (Known w.in-Some-Known.item) = sym c.read.ensures.holds ∙ sym c.held.ensures ∙ ap option_copied w.in-Some-Known.is ∙ ap Some w.in-Some-Known.field-0-is in
          rw w.result-is (known_takes log at c.args.self.now w.in-Some-Known.item entry w.logs.result c.self.view_is c.if-self.false known w.logs.ensures)
    ]
