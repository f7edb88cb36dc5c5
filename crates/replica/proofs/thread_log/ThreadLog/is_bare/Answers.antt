use Rattle.std.proofs.Common.{◌≡◌, ℕ, List, None, rules, subst, sym, refl}
use Rattle.std.specs.Ordering.{nat_cmp}
use Rattle.log_pieces.specs.Keyed.{value_at}
use Rattle.rw_objects.specs.declared.entry.Entry.{Entry}
use Rattle.log_pieces.specs.declared.flat.Flat.{Flat}
use Rattle.replica.proofs.Filling.{bare}
use Rattle.replica.proofs.thread_log.ThreadLog.is_bare.Goals as goal

pub returns-then-is_none : goal.returns-then-is_none
returns-then-is_none c =
    let end : c.args.self.now.end ≡ None = search rules in
    (λ yes. (end, λ place. subst (λ (l : List (ℕ × Flat Entry)). value_at nat_cmp l place ≡ None) (sym (c.is_empty.ensures.0 yes)) refl), λ none. c.is_empty.ensures.1 (bare c.args.self.now.entries none.1))
