use Rattle.std.proofs.Common.{◌≡◌, ◌<◌, ◌≤◌, suc, [], ◌∷◌, ◌++◌, length, drop, Some, slice_get, sym, ap, ◌∙◌, subst, arith}
use Rattle.std.proofs.lemmas.Option.{slice_get_within}
use Rattle.event_core.specs.World.{world_of}
use Rattle.replay_gate.specs.declared.looking.Ahead.TheVariants as ahead
use Rattle.replay_gate.proofs.Putting.{drop_more, ArePut, put_goes, put_rests, length_more}
use Rattle.replay_gate.proofs.looking.put.Goals as goal
use Rattle.replay_gate.proofs.looking.put.Goals.{in-Goes, in_default}

pub go_on_as-requires : goal.go_on_as-requires
go_on_as-requires g c t is =
    let inv = c.loop-ahead.invariant in
    let n = length c.loop-ahead.yielded in
    let next = drop_more c.args.aheads.items n c.in-Some.ahead _ (sym inv.rest ∙ c.in-Some.ensures.steps.0) in
    let at : slice_get c.args.aheads.items c.loop-ahead.thread ≡ Some (ahead.Goes c.in-Goes.machine) = ap (slice_get c.args.aheads.items) inv.thread ∙ next.0 ∙ ap (λ a. Some a) c.in-Goes.is in
    let goes = c.requires.each c.loop-ahead.thread (ahead.Goes c.in-Goes.machine) at t (sym (inv.before c.loop-ahead.thread (omega arith)) ∙ is) in
    (c.args.rounds, goes.goes)

pub loop-ahead-preserved : goal.loop-ahead-preserved
loop-ahead-preserved g c =
    let inv = c.loop-ahead.invariant in
    let space = g.S.ObjectSpace.meaning in
    let code = g.M.Machine.code in
    let log = g.L.ReadLog.log c.args.log.now in
    let k = c.args.rounds in
    let first = world_of c.args.world.now in
    let w = world_of c.loop-ahead.world in
    let v = world_of c.match-ahead.world in
    let aheads = c.args.aheads.items in
    let n = length c.loop-ahead.yielded in
    let t = c.loop-ahead.thread in
    let next = drop_more aheads n c.in-Some.ahead _ (sym inv.rest ∙ c.in-Some.ensures.steps.0) in
    let at : slice_get aheads t ≡ Some c.in-Some.ahead = ap (slice_get aheads) inv.thread ∙ next.0 in
    let within : t < length first.threads = let l = slice_get_within aheads t c.in-Some.ahead at in let e = c.requires.len in omega (arith, l, e) in
    let p : ArePut space code log k first t w = record { memory = inv.memory; len = inv.len; behind = inv.behind; before = inv.before; leads = inv.leads } in
    let more : length (c.loop-ahead.yielded ++ c.in-Some.ahead ∷ []) ≡ suc n = length_more c.loop-ahead.yielded c.in-Some.ahead in
    let q : ArePut space code log k first (suc t) v =
    elim c.match-ahead.branch [
      | in-Goes b ↦
          let is = at ∙ ap (λ a. Some a) b.in-Goes.is in
          subst (λ x. ArePut space code log k first (suc t) (world_of x)) (sym b.world-is)
          (put_goes space code log k first g.met.M.Machine.laws t w (world_of b.go_on_as.new.self) (g.M.Machine.state b.in-Goes.machine) within p
          (λ th e. c.requires.each t (ahead.Goes b.in-Goes.machine) is th e) b.go_on_as.ensures.threads b.go_on_as.ensures.memory)
      | in_default b ↦
          subst (λ x. ArePut space code log k first (suc t) (world_of x)) (sym b.world-is)
          (put_rests space code log k first t w p (λ th e. c.requires.each t ahead.Rests (at ∙ ap (λ a. Some a) b.in_default.is) th e))
    ] in
    record {
      rest = next.1 ∙ ap (λ j. drop j aheads) (sym more);
      left = let l = inv.left in let s = c.in-Some.ensures.steps.1 in omega (arith, l, s, more);
      thread = let e = inv.thread in omega (arith, e, more);
      memory = q.memory;
      len = q.len;
      behind = λ i th after l is got. q.behind i th after (omega (arith, l)) is got;
      before = λ i l. q.before i (omega (arith, l));
      leads = q.leads;
    }

pub returns-clause-rounds : goal.returns-clause-rounds
returns-clause-rounds g c =
    let inv = c.loop-ahead.invariant in
    let past : length c.args.aheads.items ≤ length c.loop-ahead.yielded = let l = inv.left in let s = c.in-None.ensures.steps.0 in omega (arith, l, s) in
    record {
      memory = inv.memory;
      len = inv.len;
      each = λ t th after is got.
          inv.behind t th after (let l = slice_get_within (world_of c.args.world.now).threads t th is in let e = c.requires.len in let i = inv.thread in omega (arith, l, e, i, past)) is got;
    }
