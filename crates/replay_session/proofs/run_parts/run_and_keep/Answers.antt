use Rattle.std.proofs.Common.{◌-◌, ◌∙◌, length, refl, sym, ap, subst, arith}
use Rattle.event_core.specs.Threads.{all_steps}
use Rattle.event_core.specs.World.{world_of}
use Rattle.replay_session.specs.declared.legs.Leg.TheVariants as leg
use Rattle.replay_session.specs.Parts.{HasParts}
use Rattle.replay_session.proofs.KeptWays.{stands_same}
use Rattle.replay_session.proofs.PartByPart.{between_none, more_between, kept_between, ends, goes_on, stops_in_part}
use Rattle.replay_session.proofs.Reaching.{same_right, same_free}
use Rattle.replay_session.proofs.run_parts.run_and_keep.Goals as goal

pub loop-part-init : goal.loop-part-init
loop-part-init g c = record {
  between = between_none g.S.ObjectSpace.meaning g.M.Machine.code g.met.M.Machine.laws (g.L.ReadLog.log c.args.replay.now.log) c.args.breaks.now (world_of c.args.replay.now.world);
  log = refl;
  opens = refl;
  keeps_log = refl;
  keeps_opens = refl;
}

pub loop-part-preserved : goal.loop-part-preserved
loop-part-preserved g c =
    let inv = c.loop-part.invariant in
    let ran = c.run_to-stopped.ensures in
    let parts = subst (HasParts _ c.args.breaks.now) (sym c.as_slice.ensures.value) c.in-Ok.ensures in
    let some = c.if-count-eq0.false in
    let all = c.count-count.ensures.count in
    let few = c.count-count.ensures.few in
    let e = ap (λ w. length (world_of w).threads) c.world.ensures.same in
    record {
      between = goes_on g.S.ObjectSpace.meaning g.M.Machine.code g.met.M.Machine.laws (g.L.ReadLog.log c.args.replay.now.log) c.args.breaks.now (world_of c.args.replay.now.world) _ (ap g.L.ReadLog.log inv.log) (world_of c.loop-part.replay.world) (world_of c.run_to-stopped.new.replay.world) inv.between
          c.as_slice.result.now _ parts (omega (arith, some, all, few, e)) c.run_to-stopped.result (sym c.is_part.ensures ∙ c.if-not-is_part.false) ran.stops;
      log = ran.log ∙ inv.log;
      opens = ran.opens ∙ inv.opens;
      keeps_log = c.keep_rounds.ensures.log ∙ inv.keeps_log;
      keeps_opens = c.keep_rounds.ensures.opens ∙ inv.keeps_opens;
    }

pub overflow_sub-made : goal.overflow_sub-made
overflow_sub-made g c =
    let inv = c.loop-part.invariant in
    let space = g.S.ObjectSpace.meaning in
    let code = g.M.Machine.code in
    let parts = subst (HasParts _ c.args.breaks.now) (sym c.as_slice.ensures.value) c.in-Ok.ensures in
    let some = c.if-count-eq0.false in
    let all = c.count-count.ensures.count in
    let few = c.count-count.ensures.few in
    let e = ap (λ w. length (world_of w).threads) c.world.ensures.same in
    let v = world_of c.run_to-stopped.new.replay.world in
    let between = goes_on space code g.met.M.Machine.laws (g.L.ReadLog.log c.args.replay.now.log) c.args.breaks.now (world_of c.args.replay.now.world) _ (ap g.L.ReadLog.log inv.log) (world_of c.loop-part.replay.world) v inv.between
    c.as_slice.result.now _ parts (omega (arith, some, all, few, e)) c.run_to-stopped.result (sym c.is_part.ensures ∙ c.if-not-is_part.false) c.run_to-stopped.ensures.stops in
    let more = more_between space code g.met.M.Machine.laws (g.L.ReadLog.log c.args.replay.now.log) c.args.breaks.now (world_of c.args.replay.now.world) v between in
    let before = c.steps_of_world-before.ensures.steps in
    let now = c.steps_of_world.ensures.steps in
    let a = ap (λ w. all_steps code (world_of w).threads) c.world-2.ensures.same in
    let b = ap (λ w. all_steps code (world_of w).threads) c.world-in-loop-part-2.ensures.same in
    omega (arith, more, before, now, a, b)

pub keep_rounds-requires-clause-stands : goal.keep_rounds-requires-clause-stands
keep_rounds-requires-clause-stands g c =
    let inv = c.loop-part.invariant in
    let ran = c.run_to-stopped.ensures in
    let space = g.S.ObjectSpace.meaning in
    let code = g.M.Machine.code in
    let log = g.L.ReadLog.log c.args.replay.now.log in
    let opened = g.O.OpenWorld.opened c.args.replay.now.opens in
    let w = world_of c.args.replay.now.world in
    let v = world_of c.run_to-stopped.new.replay.world in
    let parts = subst (HasParts _ c.args.breaks.now) (sym c.as_slice.ensures.value) c.in-Ok.ensures in
    let some = c.if-count-eq0.false in
    let all = c.count-count.ensures.count in
    let few = c.count-count.ensures.few in
    let e = ap (λ x. length (world_of x).threads) c.world.ensures.same in
    let between = goes_on space code g.met.M.Machine.laws log c.args.breaks.now w _ (ap g.L.ReadLog.log inv.log) (world_of c.loop-part.replay.world) v inv.between c.as_slice.result.now _ parts (omega (arith, some, all, few, e)) c.run_to-stopped.result (sym c.is_part.ensures ∙ c.if-not-is_part.false) ran.stops in
    let before = c.steps_of_world-before.ensures.steps in
    let now = c.steps_of_world.ensures.steps in
    let a = ap (λ x. all_steps code (world_of x).threads) c.world-2.ensures.same in
    let b = ap (λ x. all_steps code (world_of x).threads) c.world-in-loop-part-2.ensures.same in
    let made = c.steps_of_world.result - c.steps_of_world-before.result in
    stands_same space code log _ opened _ v v c.args.legs.now c.args.legs.now (leg.Rounds made) (leg.Rounds made) (ap g.L.ReadLog.log (ran.log ∙ inv.log)) (ap g.O.OpenWorld.opened (ran.opens ∙ inv.opens)) refl refl refl
    (kept_between space code g.met.M.Machine.laws log c.args.breaks.now w c.args.legs.now opened v made (omega (arith, before, now, a, b)) between c.requires.way)

pub returns-then-not-is_part-clause-stops : goal.returns-then-not-is_part-clause-stops
returns-then-not-is_part-clause-stops g c =
    let inv = c.loop-part.invariant in
    let parts = subst (HasParts _ c.args.breaks.now) (sym c.as_slice.ensures.value) c.in-Ok.ensures in
    stops_in_part g.S.ObjectSpace.meaning g.M.Machine.code g.met.M.Machine.laws (g.L.ReadLog.log c.args.replay.now.log) c.args.breaks.now (world_of c.args.replay.now.world) _ (ap g.L.ReadLog.log inv.log) (world_of c.loop-part.replay.world) (world_of c.run_to-stopped.new.replay.world) inv.between
    c.as_slice.result.now _ parts c.run_to-stopped.result (sym c.is_part.ensures ∙ c.if-not-is_part.true) c.run_to-stopped.ensures.stops

pub returns-then-not-is_part-clause-right : goal.returns-then-not-is_part-clause-right
returns-then-not-is_part-clause-right g c =
    let inv = c.loop-part.invariant in
    same_right g.S.ObjectSpace.meaning g.M.Machine.code _ _ _ _ (ap g.L.ReadLog.log inv.log) (ap g.O.OpenWorld.opened inv.opens) c.run_to-stopped.result c.run_to-stopped.ensures.right

pub returns-then-not-is_part-clause-free : goal.returns-then-not-is_part-clause-free
returns-then-not-is_part-clause-free g c =
    let inv = c.loop-part.invariant in
    same_free g.S.ObjectSpace.meaning g.M.Machine.code _ _ _ _ (ap g.L.ReadLog.log inv.log) (ap g.O.OpenWorld.opened inv.opens) c.run_to-stopped.result c.run_to-stopped.ensures.free

pub returns-clause-stops : goal.returns-clause-stops
returns-clause-stops g c =
    let inv = c.loop-part.invariant in
    ends g.S.ObjectSpace.meaning g.M.Machine.code g.met.M.Machine.laws (g.L.ReadLog.log c.args.replay.now.log) c.args.breaks.now (world_of c.args.replay.now.world) _ (ap g.L.ReadLog.log inv.log) (world_of c.loop-part.replay.world) (world_of c.run_to.new.replay.world) inv.between c.run_to.result c.run_to.ensures.stops

pub returns-clause-right : goal.returns-clause-right
returns-clause-right g c =
    let inv = c.loop-part.invariant in
    same_right g.S.ObjectSpace.meaning g.M.Machine.code _ _ _ _ (ap g.L.ReadLog.log inv.log) (ap g.O.OpenWorld.opened inv.opens) c.run_to.result c.run_to.ensures.right

pub returns-clause-free : goal.returns-clause-free
returns-clause-free g c =
    let inv = c.loop-part.invariant in
    same_free g.S.ObjectSpace.meaning g.M.Machine.code _ _ _ _ (ap g.L.ReadLog.log inv.log) (ap g.O.OpenWorld.opened inv.opens) c.run_to.result c.run_to.ensures.free
