-- What the workers did is recorded.
use Rattle.std.proofs.Common.{sym, subst}
use Rattle.std.specs.Prelude.{Result, Ok, Err, IfOk}
use Rattle.std.specs.List.{All}
use Rattle.rw_objects.specs.Counts.{no_counts}
use Rattle.rw_objects.specs.Memory.{memory_of, memory_with}
use Rattle.workers.specs.Ran.{AreRun}
use Rattle.workers.specs.Work.{CanBegin, HasWorked}
use Rattle.workers.specs.Recording.{HaveRun}
use Rattle.workers.proofs.Recordings.{all_begin}
use Rattle.workers.proofs.recording_workers.record_workers.Goals as goal

if_ok_more : {A E : Type 0} (r : Result A E) (P Q : A → Type 0) → ((a : A) → P a → Q a) → IfOk r P → IfOk r Q
if_ok_more (Ok a) P Q f p = f a p
if_ok_more (Err e) P Q f p = p

pub run_threads-requires-clause-begins : goal.run_threads-requires-clause-begins
run_threads-requires-clause-begins g c κs within =
    subst (λ l. All (CanBegin g.M.Machine.code g.M.Machine.state (g.S.ObjectSpace.fixed c.args.opened.space)) l) (sym c.in_ok-workers.ensures)
    (all_begin g.M.Machine.code g.M.Machine.state c.args.steps (g.S.ObjectSpace.fixed c.args.opened.space) c.args.machines.items c.requires.limit c.requires.fresh)

have_run : (g : _) (c : goal.In_ok-history g) → HaveRun g.S.ObjectSpace.meaning g.M.Machine.code g.M.Machine.state c.args.steps c.in_ok-history.history.order.items c.in_ok-history.history.entries.items (memory_of c.in_ok-history.history.memory) c.in_ok-history.workers.items
have_run g c = record {
  machines = c.args.machines.items;
  may = λ t s. g.T.Timer.can_expire t (g.M.Machine.nanos_of s);
  fixed = g.S.ObjectSpace.fixed c.args.opened.space;
  values = g.S.ObjectSpace.values c.args.opened.space;
  few = c.requires.few;
  fresh = c.requires.fresh;
  ran = subst (λ l. AreRun g.S.ObjectSpace.meaning (HasWorked g.M.Machine.code g.M.Machine.state (λ t s. g.T.Timer.can_expire t (g.M.Machine.nanos_of s))) (memory_with (g.S.ObjectSpace.fixed c.args.opened.space) (g.S.ObjectSpace.values c.args.opened.space) no_counts) l c.in_ok-history.history.order.items c.in_ok-history.history.entries.items (memory_of c.in_ok-history.history.memory) c.in_ok-history.workers.items) c.in_ok-workers.ensures c.in_ok-history.ensures;
}

pub record_history-requires : goal.record_history-requires
record_history-requires g c = have_run g c

have_run_then : (g : _) (c : goal.After-record_history g) → HaveRun g.S.ObjectSpace.meaning g.M.Machine.code g.M.Machine.state c.args.steps c.in_ok-history.history.order.items c.in_ok-history.history.entries.items (memory_of c.in_ok-history.history.memory) c.in_ok-history.workers.items
have_run_then g c = record {
  machines = c.args.machines.items;
  may = λ t s. g.T.Timer.can_expire t (g.M.Machine.nanos_of s);
  fixed = g.S.ObjectSpace.fixed c.args.opened.space;
  values = g.S.ObjectSpace.values c.args.opened.space;
  few = c.requires.few;
  fresh = c.requires.fresh;
  ran = subst (λ l. AreRun g.S.ObjectSpace.meaning (HasWorked g.M.Machine.code g.M.Machine.state (λ t s. g.T.Timer.can_expire t (g.M.Machine.nanos_of s))) (memory_with (g.S.ObjectSpace.fixed c.args.opened.space) (g.S.ObjectSpace.values c.args.opened.space) no_counts) l c.in_ok-history.history.order.items c.in_ok-history.history.entries.items (memory_of c.in_ok-history.history.memory) c.in_ok-history.workers.items) c.in_ok-workers.ensures c.in_ok-history.ensures;
}

pub returns : goal.returns
unfolding have_run_then
returns g c = if_ok_more c.record_history.result _ _ (λ recorded d. (d (have_run_then g c)).recording) c.record_history.ensures
