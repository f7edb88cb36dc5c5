use Rattle.std.proofs.Common.{◌≡◌, ◌+◌, ◌-◌, ◌<◌, ◌⊎◌, ◌++◌, suc, arith, false, length, take, drop, None, IfNone, ap, ◌∙◌, subst}
use Rattle.std.proofs.lemmas.List.{take_rest}
use Rattle.pick_schedule.specs.Printing.{are_of_threads}
use Rattle.pick_schedule.specs.Stretches.{picks_in}
use Rattle.recorder.specs.Least.{without}
use Rattle.recorder.proofs.Fitting.{is_schedule}
use Rattle.recorder.proofs.changed_schedules.without.Goals as goal

pub unreachable-requires : goal.unreachable-requires
unreachable-requires c =
    let ss = c.args.stretches.now in
    let at = c.args.at in
    let next : at + 1 ≡ suc at = omega arith in
    let are : c.deref.result.now ≡ without at ss =
    c.deref.ensures.value ∙ c.in_ok-extend_from_slice.ensures.items
    ∙ ap (λ l. l ++ take (length ss - (at + 1)) (drop (at + 1) ss)) c.in_ok-others.ensures.items ∙ ap (λ l. take at ss ++ l) (take_rest ss (at + 1)) ∙ ap (λ n. take at ss ++ drop n ss) next in
    let none = subst (λ o. IfNone o ((1000000 < length (picks_in c.deref.result.now)) ⊎ (are_of_threads (picks_in c.deref.result.now) ≡ false))) c.in-None.is c.in_ok-schedule.ensures.none in
    is_schedule ss at c.requires.few c.requires.of_threads
    (subst (λ xs. (1000000 < length (picks_in xs)) ⊎ (are_of_threads (picks_in xs) ≡ false)) are none)
