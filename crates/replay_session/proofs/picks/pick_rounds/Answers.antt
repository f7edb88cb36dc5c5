use Rattle.std.proofs.Common.{◌≡◌, refl, ap, ◌∙◌, subst, arith, length}
use Rattle.event_core.specs.World.{world_of}
use Rattle.replay_session.specs.Picks.{ArePut}
use Rattle.replay_session.proofs.PutPicks.{none_put, put_length, turn_answered}
use Rattle.replay_session.proofs.RoundsSoFar.{none_so_far, turn_so_far, round_so_far, all_so_far, never_stuck}
use Rattle.replay_session.proofs.picks.pick_rounds.Goals as goal

pub loop-made-init : goal.loop-made-init
loop-made-init g c =
    let space = g.S.ObjectSpace.meaning in
    let code = g.M.Machine.code in
    let w = world_of c.args.replay.now.world in
    let all = c.count-count.ensures.count ∙ ap (λ x. length (world_of x).threads) c.world.ensures.same in
    let most = c.count-count.ensures.few in
    record {
      rounds = none_so_far space code (g.L.ReadLog.log c.args.replay.now.log) w c.args.steps c.count-count.result all most;
      put = none_put space code (g.L.ReadLog.log c.args.replay.now.log) c.args.picks.now w;
      threads = omega (arith, all, most);
      reads = c.reader-reader.ensures;
      log = refl;
      opens = refl;
    }

pub put_pick-requires : goal.put_pick-requires
put_pick-requires g c =
    let count = put_length g.S.ObjectSpace.meaning g.M.Machine.code (g.L.ReadLog.log c.args.replay.now.log) c.loop-made.made c.args.picks.now c.loop-made.picks _ _ c.loop-made.invariant.put in
    let below = c.loop-made-test.true in
    let room = c.requires.room in
    omega (arith, count, below, room)

pub loop-made-preserved-then-next-count : goal.loop-made-preserved-then-next-count
loop-made-preserved-then-next-count g c =
    let space = g.S.ObjectSpace.meaning in
    let code = g.M.Machine.code in
    let laws = g.met.M.Machine.laws in
    let spaces = g.met.S.ObjectSpace.laws in
    let log = g.L.ReadLog.log c.args.replay.now.log in
    let limits = g.met.L.ReadLog.limits c.args.replay.now.log in
    let w = world_of c.args.replay.now.world in
    let u = world_of c.loop-made.replay.world in
    let v = world_of c.pick_turn.new.replay.world in
    let k = c.loop-made.next in
    let m = c.loop-made.made in
    let inv = c.loop-made.invariant in
    let turned = c.in_ok-input.ensures in
    let n = c.in_ok-made.field-0 in
    let on = turn_answered space code log spaces laws limits (g.L.ReadLog.log c.loop-made.replay.log) (ap g.L.ReadLog.log inv.log) k m n c.args.picks.now c.loop-made.picks c.put_pick.new.picks w u v c.in_ok-input.input inv.threads inv.put turned.input turned.world c.in_ok-made.ensures.put c.in_ok-made.ensures.count in
    record {
      rounds = turn_so_far space code log w c.args.steps laws m c.loop-made.before k _ u inv.rounds spaces limits c.loop-made-test.true c.if-next-count.true n v on.1;
      put = on.0;
      threads = on.2;
      reads = turned.reads;
      log = turned.log ∙ inv.log;
      opens = turned.opens ∙ inv.opens;
    }

pub loop-made-preserved : goal.loop-made-preserved
loop-made-preserved g c =
    let inv = c.loop-made.invariant in
    record {
      rounds = round_so_far g.S.ObjectSpace.meaning g.M.Machine.code (g.L.ReadLog.log c.args.replay.now.log) (world_of c.args.replay.now.world) c.args.steps g.met.M.Machine.laws c.loop-made.made c.loop-made.before c.loop-made.next _ (world_of c.loop-made.replay.world)
          inv.rounds c.if-next-count.false;
      put = inv.put;
      threads = inv.threads;
      reads = inv.reads;
      log = inv.log;
      opens = inv.opens;
    }

pub unreachable-requires : goal.unreachable-requires
unreachable-requires g c =
    never_stuck g.S.ObjectSpace.meaning g.M.Machine.code (g.L.ReadLog.log c.args.replay.now.log) (world_of c.args.replay.now.world) c.args.steps g.met.M.Machine.laws c.loop-made.made c.loop-made.before c.loop-made.next _ (world_of c.loop-made.replay.world)
    c.loop-made.invariant.rounds c.if-next-count.false c.if-before-made.false c.loop-made-test.true c.requires.leads

pub returns-clause-leads : goal.returns-clause-leads
returns-clause-leads g c =
    all_so_far g.S.ObjectSpace.meaning g.M.Machine.code (g.L.ReadLog.log c.args.replay.now.log) (world_of c.args.replay.now.world) c.args.steps c.loop-made.made c.loop-made.before c.loop-made.next _ (world_of c.loop-made.replay.world)
    c.loop-made.invariant.rounds c.loop-made-test.false

pub returns-clause-put : goal.returns-clause-put
returns-clause-put g c =
    let inv = c.loop-made.invariant in
    let few = inv.rounds.few in
    let past = c.loop-made-test.false in
    let end : c.loop-made.made ≡ c.args.steps = omega (arith, few, past) in
    subst (λ n. ArePut g.S.ObjectSpace.meaning g.M.Machine.code (g.L.ReadLog.log c.args.replay.now.log) n c.args.picks.now c.loop-made.picks (world_of c.args.replay.now.world) (world_of c.loop-made.replay.world)) end inv.put
