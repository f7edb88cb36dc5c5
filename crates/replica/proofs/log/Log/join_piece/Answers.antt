use Rattle.std.proofs.Common.{◌≡◌, ℕ, ◌<◌, length, get_or, Option, Some, None, rules, arith, refl, sym, ap, subst, ◌∙◌}
use Rattle.std.specs.Prelude.{slice_get}
use Rattle.std.specs.Option.{option_map}
use Rattle.std.proofs.lemmas.Option.{slice_get-get_or}
use Rattle.std.proofs.lemmas.Result.{err_from_is_err_and}
use Rattle.log_pieces.specs.declared.end.End.{End}
use Rattle.log_pieces.specs.declared.flat.Flat.{Flat}
use Rattle.log_pieces.specs.declared.flat.Flat.TheVariants.{Known}
use Rattle.log_pieces.specs.Flat.{flat_joined}
use Rattle.log_pieces.specs.Keyed.{option_joined}
use Rattle.replica.specs.Items.{end_eq}
use Rattle.replica.specs.LogOf.{IsJoinedWith, first_items}
use Rattle.replica.proofs.LogLemmas.{thread_joined, thread_left, with_thread, nothing_joined}
use Rattle.replica.proofs.Limits.{piece_few}
use Rattle.replica.proofs.log.Log.join_piece.Goals as goal

pub join_end-requires : goal.join_end-requires
join_end-requires c = piece_few c.args.piece.now c.in-Some.end c.end.ensures.rules (sym c.end.ensures.value ∙ c.in-Some.is)

pub returns-in_err-join_entries-clause-left : goal.returns-in_err-join_entries-clause-left
returns-in_err-join_entries-clause-left c =
    let refused = err_from_is_err_and c.from_residual.result c.from_residual.ensures.1 in
    let log = c.args.self.now in
    let piece = c.args.piece.now in
    let sixteen : length log.threads ≡ 16 = search rules in
    let few : c.thread.result < 16 = omega (arith, c.thread.ensures.at_most) in
    let old = get_or log.threads c.thread.result c.index-self-thread.result in
    let had : slice_get log.threads piece.thread ≡ Some old = subst (λ (t : ℕ). slice_get log.threads t ≡ Some old) c.thread.ensures.value (slice_get-get_or log.threads c.thread.result c.index-self-thread.result (omega arith)) in
    let left = c.in_err-join_entries.ensures.left in
    let all = thread_left log old c.join_entries.new.self piece left.0 had (rw (← c.first.ensures.value, ← c.entries.ensures.value) left.1) c.in_err-join_entries.ensures.end in
    rw refused.1 (all.0, subst (λ (t : ℕ). IsJoinedWith log (first_items all.0 piece) (with_thread log t c.join_entries.new.self)) (sym c.thread.ensures.value) all.1)

pub returns-in-Some-clause-joined : goal.returns-in-Some-clause-joined
returns-in-Some-clause-joined c =
    let log = c.args.self.now in
    let piece = c.args.piece.now in
    let sixteen : length log.threads ≡ 16 = search rules in
    let few : c.thread.result < 16 = omega (arith, c.thread.ensures.at_most) in
    let old = get_or log.threads c.thread.result c.index-self-thread.result in
    let had : slice_get log.threads piece.thread ≡ Some old = subst (λ (t : ℕ). slice_get log.threads t ≡ Some old) c.thread.ensures.value (slice_get-get_or log.threads c.thread.result c.index-self-thread.result (omega arith)) in
    let end : piece.end ≡ Some c.in-Some.end = sym c.end.ensures.value ∙ c.in-Some.is in
    let joined : (o : Option (Flat End)) → o ≡ old.end → option_joined (flat_joined end_eq) o (Some (Known c.in-Some.end)) ≡ option_joined (flat_joined end_eq) old.end (option_map (λ (e : End). Known e) piece.end) =
    (λ o is. ap (λ (p : Option (Flat End)). option_joined (flat_joined end_eq) p (Some (Known c.in-Some.end))) is ∙ rw end refl) in
    subst (λ (t : ℕ). IsJoinedWith log piece (with_thread log t c.join_end.new.self)) (sym c.thread.ensures.value)
    (thread_joined log old c.join_end.new.self piece had
    (rw (← c.first.ensures.value, ← c.entries.ensures.value, c.join_end.ensures.entries) c.in_ok-join_entries.ensures.joined)
    (c.join_end.ensures.end ∙ joined c.join_entries.new.self.end c.in_ok-join_entries.ensures.end))

pub returns-in_default-clause-joined : goal.returns-in_default-clause-joined
returns-in_default-clause-joined c =
    let log = c.args.self.now in
    let piece = c.args.piece.now in
    let sixteen : length log.threads ≡ 16 = search rules in
    let few : c.thread.result < 16 = omega (arith, c.thread.ensures.at_most) in
    let old = get_or log.threads c.thread.result c.index-self-thread.result in
    let had : slice_get log.threads piece.thread ≡ Some old = subst (λ (t : ℕ). slice_get log.threads t ≡ Some old) c.thread.ensures.value (slice_get-get_or log.threads c.thread.result c.index-self-thread.result (omega arith)) in
    let end : piece.end ≡ None = sym c.end.ensures.value ∙ c.in_default.is in
    subst (λ (t : ℕ). IsJoinedWith log piece (with_thread log t c.join_entries.new.self)) (sym c.thread.ensures.value)
    (thread_joined log old c.join_entries.new.self piece had
    (rw (← c.first.ensures.value, ← c.entries.ensures.value) c.in_ok-join_entries.ensures.joined)
    (c.in_ok-join_entries.ensures.end ∙ sym (nothing_joined end_eq old.end) ∙ rw end refl))
