-- The seats that come back are those that were opened, with their threads' calls.
use Rattle.std.proofs.Common.{arith, ◌≡◌, length, map, sym, ap, ◌∙◌, subst}
use Rattle.std.specs.List.{All}
use Rattle.shared_parts.specs.Calls.{IsLegalHistory, memory_after_calls, IsNumbered, AreNew, AreParts}
use Rattle.workers.specs.Ran.{AllLead}
use Rattle.workers.proofs.Seats.{all_of_map, all_new, same_numbers, same_length, entries_of_seats, all_lead}
use Rattle.workers.proofs.run.run_threads.Goals as goal

pub work_all-requires-clause-begins : goal.work_all-requires-clause-begins
work_all-requires-clause-begins g c κs within =
    let begins = g.W.Work.begins in
    let fixed = ap (λ n. n.memory.fixed) c.requires.named in
    all_of_map (begins g.J.Opening.named.memory.fixed) (λ j. j.state) c.in_ok-jobs.jobs.items
    (subst (λ l. All (begins g.J.Opening.named.memory.fixed) l) (sym c.in_ok-jobs.ensures.states) (subst (λ f. All (begins f) c.args.states.items) fixed c.requires.begins))

pub work_all-requires-clause-new : goal.work_all-requires-clause-new
work_all-requires-clause-new g c κs within =
    all_new (λ j. j.seat) (λ j. j.state) c.in_ok-jobs.jobs.items (subst AreNew (sym c.in_ok-jobs.ensures.seats) c.in_ok-shared.ensures.seats.2)

all_here : (g : _) (c : goal.In_ok-seats g) → length c.in_ok-seats.seats.items ≡ g.J.Opening.named.threads
all_here g c =
    ap length c.in_ok-seats.ensures.seats
    ∙ (same_length (λ j. j.seat) (λ j. j.state) g.W.Work.leads c.in_ok-jobs.jobs.items c.in_ok-done.done.items c.in_ok-done.ensures
    ∙ (ap length c.in_ok-jobs.ensures.seats ∙ c.in_ok-shared.ensures.seats.0))

in_order : (g : _) (c : goal.In_ok-seats g) → IsNumbered 0 (map (λ j. j.seat) c.in_ok-done.done.items)
in_order g c =
    same_numbers (λ j. j.seat) (λ j. j.state) g.W.Work.leads 0 c.in_ok-jobs.jobs.items c.in_ok-done.done.items c.in_ok-done.ensures
    (subst (IsNumbered 0) (sym c.in_ok-jobs.ensures.seats) c.in_ok-shared.ensures.seats.1)

pub close-requires-clause-all : goal.close-requires-clause-all
close-requires-clause-all g c = all_here g c

pub close-requires-clause-numbered : goal.close-requires-clause-numbered
close-requires-clause-numbered g c = subst (IsNumbered 0) (sym c.in_ok-seats.ensures.seats) (in_order g c)

pub returns : goal.returns
returns g c =
    let space = g.S.ObjectSpace.meaning in
    let leads = g.W.Work.leads in
    let h = c.in_ok-history.ensures in
    let opening = ap (λ n. n.memory) c.requires.named in
    let done = c.in_ok-done.done.items in
    let jobs = c.in_ok-jobs.jobs.items in
    let numbered = same_numbers (λ j. j.seat) (λ j. j.state) leads 0 jobs done c.in_ok-done.ensures (subst (IsNumbered 0) (sym c.in_ok-jobs.ensures.seats) c.in_ok-shared.ensures.seats.1) in
    let all = ap length c.in_ok-seats.ensures.seats
    ∙ (same_length (λ j. j.seat) (λ j. j.state) leads jobs done c.in_ok-done.ensures ∙ (ap length c.in_ok-jobs.ensures.seats ∙ c.in_ok-shared.ensures.seats.0)) in
    let parts = subst (AreParts h.0) c.in_ok-seats.ensures.seats h.4 in
    record {
      calls = h.0;
      legal = subst (λ m. IsLegalHistory space m h.0) (sym opening) h.1;
      led = h.2 ∙ ap (λ m. memory_after_calls space m h.0) (sym opening);
      ordered = h.3;
      no_others = λ t l. let n = all ∙ sym (c.requires.threads ∙ ap (λ n. n.threads) c.requires.named) in h.5 t (omega (arith, n, l));
      entered = h.6 ∙ entries_of_seats 0 h.0 c.in_ok-seats.seats.items c.args.states.items
          (all ∙ sym (c.requires.threads ∙ ap (λ n. n.threads) c.requires.named))
          (subst (IsNumbered 0) (sym c.in_ok-seats.ensures.seats) numbered) h.4;
      each = subst (λ l. AllLead leads 0 h.0 l c.in_ok-seats.states.items) c.in_ok-jobs.ensures.states
          (subst (λ l. AllLead leads 0 h.0 (map (λ j. j.state) jobs) l) (sym c.in_ok-seats.ensures.states)
          (all_lead (λ j. j.seat) (λ j. j.state) leads 0 h.0 jobs done c.in_ok-done.ensures numbered parts));
    }
