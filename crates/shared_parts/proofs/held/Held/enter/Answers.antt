-- A call that is entered: the journal, the versions and the seat get it, and the parts what it makes of them.
use Rattle.std.proofs.Common.{rules, arith, ◌≡◌, ◌≤◌, ◌++◌, ◌∷◌, [], true, sym, ap, ◌∙◌, length, length-append, subst}
use Rattle.rw_objects.specs.declared.entry.Kind.{Kind}
use Rattle.rw_objects.specs.declared.entry.Entry.{Entry}
use Rattle.rw_objects.specs.declared.touch.Found.{Found}
use Rattle.std.proofs.Common.{List}
use Rattle.rw_objects.specs.Space.{is_ready, reply_of}
use Rattle.rw_objects.specs.Counts.{all_found, count_at, counts_after}
use Rattle.rw_objects.specs.Memory.{entry_of, memory_after}
use Rattle.shared_parts.specs.Cut.{AllSound, decision_at}
use Rattle.shared_parts.specs.Calls.{memory_after_calls, entries_in, threads_in}
use Rattle.shared_parts.proofs.Writes.{memory_with_call, values_with_call, fixed_after}
use Rattle.shared_parts.proofs.Grows.{seat_grows}
use Rattle.shared_parts.proofs.Enters.{few_after, entries-push, threads-push, legal_with, sound_after}
use Rattle.shared_parts.proofs.held.Held.enter.Goals as goal

abbrev entry_with : Kind → List Found → Entry
entry_with k f = record { kind = k; found = f }

pub advance-requires-clause-step : goal.advance-requires-clause-step
advance-requires-clause-step g c =
    let space = g.S.ObjectSpace.meaning in
    let cut = g.S.Striped.cut in
    let m = g.J.Opening.named.memory in
    let cs = c.self.inside.latest in
    let before = sym c.reached-before.ensures in record {
      fits = c.requires.fits;
      touches = c.requires.touches;
      grown = (c.of.result.value, c.push-2.ensures.items ∙ ap (λ l. l ++ c.of.result.value ∷ []) before, ap (λ x. x.op) c.of.ensures);
      decided = c.requires.decided (memory_after_calls space m cs).values c.meet.ensures.here ∙ ap (λ l. decision_at space cut m.fixed (memory_after_calls space m l).values c.args.op.now) before;
      sound = subst (λ l. AllSound cut m.fixed (memory_after_calls space m l).values) before c.self.invariant.sound;
    }

pub advance-requires-clause-here : goal.advance-requires-clause-here
advance-requires-clause-here g c =
    subst (λ cs. g.K.Keeps.here c.args.kept.now (memory_after_calls g.S.ObjectSpace.meaning g.J.Opening.named.memory cs).values) (sym c.reached-before.ensures) c.meet.ensures.here

pub invariant_of-self-2 : goal.invariant_of-self-2
invariant_of-self-2 g c =
    let space = g.S.ObjectSpace.meaning in
    let cut = g.S.Striped.cut in
    let laws = g.met.S.Striped.laws in
    let m = g.J.Opening.named.memory in
    let op = c.args.op.now in
    let inv = c.self.invariant in
    let cs = c.self.inside.latest in
    let fits = c.requires.fits in
    let before = memory_after_calls space m cs in
    let made = c.of.ensures in
    let grown : c.push-2.new.self ≡ cs ++ c.of.result.value ∷ [] = c.push-2.ensures.items in
    let op_is : c.of.result.value.op ≡ op = ap (λ x. x.op) made in
    let decided : c.args.decision.now ≡ decision_at space cut m.fixed before.values op = c.requires.decided before.values c.meet.ensures.here in
    let yes : c.is_ready.result ≡ true = search rules in
    let ready : is_ready space m.fixed before.values op ≡ true = sym (laws.ready m.fixed op before.values fits inv.sound) ∙ (ap cut.ready (sym decided) ∙ (sym c.is_ready.ensures ∙ yes)) in
    let replied : c.reply-reply.result ≡ reply_of space m.fixed before.values op = c.reply-reply.ensures ∙ (ap cut.reply decided ∙ laws.reply m.fixed op before.values fits inv.sound) in
    let found : c.find.result ≡ all_found (space.touches op) before.counts = c.find.ensures ∙ (ap (λ ts. all_found ts (count_at c.self.inside.versions)) c.requires.touches ∙ ap (all_found (space.touches op)) inv.counts) in
    let entered : entry_with c.kind.result c.find.result ≡ entry_of space before op = ap (λ k. entry_with k c.find.result) c.kind.ensures ∙ ap (entry_with (space.kind op)) found in
    let then : memory_after_calls space m c.push-2.new.self ≡ memory_after space before op = memory_with_call space m cs c.push-2.new.self c.of.result.value op grown op_is in
    let few = few_after (space.touches op) (count_at c.self.inside.versions) (length c.self.inside.order.items) inv.few_versions inv.few_reads in
    let counts : count_at c.touch_all.new.self ≡ counts_after (space.touches op) (count_at c.self.inside.versions) = c.touch_all.ensures.counts ∙ ap (λ ts. counts_after ts (count_at c.self.inside.versions)) c.requires.touches in
    let pushed : c.push_reserved.new.self.items ≡ c.self.inside.order.items ++ c.seat.inside.thread ∷ [] = search rules in
    let longer = ap length pushed ∙ length-append c.self.inside.order.items (c.seat.inside.thread ∷ []) in record {
      legal = legal_with space m cs c.push-2.new.self c.of.result.value m.fixed (fixed_after space m cs) grown inv.legal
          (ap (is_ready space m.fixed before.values) op_is ∙ ready)
          (ap (λ x. x.reply) made ∙ (replied ∙ ap (reply_of space m.fixed before.values) (sym op_is)))
          (ap (λ x. x.entry) made ∙ (entered ∙ ap (entry_of space before) (sym op_is)));
      sound = subst (AllSound cut m.fixed) (sym (values_with_call space m cs c.push-2.new.self c.of.result.value op grown op_is)) (sound_after space cut laws m.fixed before.values op fits inv.sound);
      counts = counts ∙ (ap (counts_after (space.touches op)) inv.counts ∙ sym (ap (λ x. x.counts) then));
      sized = c.touch_all.ensures.len ∙ inv.sized;
      few_versions = λ o. subst (λ f. (f o).version ≤ length c.push_reserved.new.self.items) (sym counts) (let h = (few o).0 in omega (arith, longer, h));
      few_reads = λ o. subst (λ f. (f o).reads ≤ length c.push_reserved.new.self.items) (sym counts) (let h = (few o).1 in omega (arith, longer, h));
      order = pushed ∙ (ap (λ l. l ++ c.seat.inside.thread ∷ []) inv.order
          ∙ (ap (λ t. threads_in cs ++ t ∷ []) (sym (ap (λ x. x.thread) made ∙ c.from.ensures)) ∙ (sym (threads-push cs c.of.result.value) ∙ ap threads_in (sym grown))));
      written = c.advance.ensures;
      total = (let a = c.add.ensures.total in let b = inv.total in let d = ap length grown ∙ length-append cs (c.of.result.value ∷ []) in omega (arith, a, b, d));
      rest = inv.rest;
      none = inv.none;
    }

pub invariant_of-seat-2 : goal.invariant_of-seat-2
invariant_of-seat-2 g c =
    let own = c.seat.invariant in
    let cs = c.self.inside.latest in
    let calls = c.seat.inside.calls in
    let made = c.of.ensures in
    let same : c.of-2.result.value ≡ c.of.result.value = c.of-2.ensures ∙ sym made in
    let grown : c.push-2.new.self ≡ cs ++ c.of.result.value ∷ [] = c.push-2.ensures.items in
    let mine : c.push-3.new.self ≡ calls ++ c.of.result.value ∷ [] = c.push-3.ensures ∙ ap (λ x. calls ++ x ∷ []) same in
    let noted : c.push.new.self ≡ c.seat.inside.entries ++ entry_with c.kind.result c.find.result ∷ [] = search rules in
    let longer = ap length mine ∙ length-append calls (c.of.result.value ∷ []) in (
      c.add.ensures.parts ∙ own.0,
      omega (arith, c.add.ensures.amount, own.1, longer),
      noted ∙ (ap (λ l. l ++ entry_with c.kind.result c.find.result ∷ []) own.2 ∙ (ap (λ e. entries_in calls ++ e ∷ []) (sym (ap (λ x. x.entry) made)) ∙ (sym (entries-push calls c.of.result.value) ∙ ap entries_in (sym mine)))),
      seat_grows c.seat.inside.thread calls c.push-3.new.self c.seat.inside.reached cs c.reached.result c.of.result.value c.meet-2.ensures.begins own.3 mine (c.reached.ensures ∙ grown) (ap (λ x. x.thread) made ∙ c.from.ensures),
    )

pub returns-clause-done : goal.returns-clause-done
returns-clause-done g c =
    let space = g.S.ObjectSpace.meaning in
    let cut = g.S.Striped.cut in
    let laws = g.met.S.Striped.laws in
    let m = g.J.Opening.named.memory in
    let op = c.args.op.now in
    let inv = c.self.invariant in
    let cs = c.self.inside.latest in
    let fits = c.requires.fits in
    let before = memory_after_calls space m cs in
    let made = c.of.ensures in
    let grown : c.push-2.new.self ≡ cs ++ c.of.result.value ∷ [] = c.push-2.ensures.items in
    let op_is : c.of.result.value.op ≡ op = ap (λ x. x.op) made in
    let decided : c.args.decision.now ≡ decision_at space cut m.fixed before.values op = c.requires.decided before.values c.meet.ensures.here in
    let yes : c.is_ready.result ≡ true = search rules in
    let ready : is_ready space m.fixed before.values op ≡ true = sym (laws.ready m.fixed op before.values fits inv.sound) ∙ (ap cut.ready (sym decided) ∙ (sym c.is_ready.ensures ∙ yes)) in
    let replied : c.reply-reply.result ≡ reply_of space m.fixed before.values op = c.reply-reply.ensures ∙ (ap cut.reply decided ∙ laws.reply m.fixed op before.values fits inv.sound) in
    let found : c.find.result ≡ all_found (space.touches op) before.counts = c.find.ensures ∙ (ap (λ ts. all_found ts (count_at c.self.inside.versions)) c.requires.touches ∙ ap (all_found (space.touches op)) inv.counts) in
    let entered : entry_with c.kind.result c.find.result ≡ entry_of space before op = ap (λ k. entry_with k c.find.result) c.kind.ensures ∙ ap (entry_with (space.kind op)) found in
    let then : memory_after_calls space m c.push-2.new.self ≡ memory_after space before op = memory_with_call space m cs c.push-2.new.self c.of.result.value op grown op_is in
    let at : cs ≡ c.args.self.now = c.self.view_is in (
      subst (λ l. is_ready space m.fixed (memory_after_calls space m l).values op ≡ true) at ready,
      replied ∙ ap (λ l. reply_of space m.fixed (memory_after_calls space m l).values op) at,
      entered ∙ ap (λ l. entry_of space (memory_after_calls space m l) op) at,
      then ∙ ap (λ l. memory_after space (memory_after_calls space m l) op) at,
    )
