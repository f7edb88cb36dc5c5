use Rattle.std.proofs.Common.{◌≡◌, ◌++◌, [], ◌∷◌, ◌+◌, List, take, get_or, None, Some, Option, cond, sym, ap, ◌∙◌, append-nil}
use Rattle.std.specs.BTreeMap as tree
use Rattle.std.proofs.lemmas.List.{take_more}
use Rattle.replica.specs.declared.diverging.EventAt.{EventAt}
use Rattle.replica.specs.declared.writes.WriteAt.{WriteAt}
use Rattle.replica.specs.declared.writes.Written.{Written}
use Rattle.replica.specs.Divergence.{doubles, first_of}
use Rattle.replica.proofs.DoubleSteps.{double_more}
use Rattle.replica.proofs.FirstWrites.{written_cmp, first_kept, first_added}
use Rattle.replica.proofs.doubles.add_doubles.Goals as goal
use Rattle.replica.proofs.doubles.add_doubles.Goals.{in-Some+in_ok-push-in-Some, in-None+in_ok-insert-in-None}

-- any write
any : WriteAt
any = record { written = record { object = 0; version = 0 }; at = record { thread = 0; place = 0 } }

pub loop-write-preserved : goal.loop-write-preserved
unfolding any
loop-write-preserved c =
    let xs = c.args.writes.now in
    let i = c.loop-write.write-index in
    let x = get_or xs i any in
    let kept = c.loop-write.invariant in
    let all = c.args.found.now.items ++ doubles [] xs in
    let one : take (i + 1) xs ≡ take i xs ++ x ∷ [] = take_more xs i any c.loop-write-test.true in
    elim c.match-get.branch [
      | in-Some+in_ok-push-in-Some w ↦
          let first = w.in-Some.first.now in
          let had : first_of (take i xs) x.written ≡ Some first = sym (kept.first x.written) ∙ sym w.in-Some.ensures.value in
          record {
            made = double_more c.loop-write.found.items c.match-get.found.items all xs i any (Some first) c.loop-write-test.true had (ap (λ v. v.items) w.found-is ∙ w.in_ok-push-in-Some.ensures.items) kept.made;
            first = λ (v : Written). ap (λ m. tree.get written_cmp m v) w.earlier-is ∙ kept.first v ∙ sym (first_kept (take i xs) x first v had) ∙ ap (λ (l : List WriteAt). first_of l v) (sym one);
          }
      | in-None+in_ok-insert-in-None w ↦
          let had : first_of (take i xs) x.written ≡ None = sym (kept.first x.written) ∙ sym w.in-None.ensures.value in
          record {
            made = double_more c.loop-write.found.items c.match-get.found.items all xs i any None c.loop-write-test.true had (ap (λ v. v.items) w.found-is ∙ sym (append-nil c.loop-write.found.items)) kept.made;
            first = λ (v : Written). ap (λ m. tree.get written_cmp m v) w.earlier-is ∙ w.in_ok-insert-in-None.ensures.updates.0 v ∙ ap (λ (o : Option EventAt). cond (tree.is_at (written_cmp x.written) v) (Some x.at) o) (kept.first v) ∙ first_added (take i xs) x v had ∙ ap (λ (l : List WriteAt). first_of l v) (sym one);
          }
    ]
