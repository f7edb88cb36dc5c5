use Rattle.std.proofs.Common.{◌≡◌, ◌+◌, ◌-◌, replicate, subst, arith}
use Rattle.std.proofs.lemmas.List.{length-replicate}
use Rattle.event_core.specs.World.{world_of}
use Rattle.recorder.specs.Recorded.{AreRecorded}
use Rattle.recorder.proofs.Stretches.{none_recorded, stretch_joined, still_threads, few_counted}
use Rattle.recorder.proofs.schedule_recording.record_stretch.Goals as goal

pub loop-times-init : goal.loop-times-init
loop-times-init g c =
    let none : c.args.stretch.times - c.args.stretch.times ≡ 0 = omega arith in
    record {
      left = omega arith;
      recorded = rw none (none_recorded g.S.ObjectSpace.meaning g.M.Machine.code c.args.steps (world_of c.args.world.now) c.args.logs.now c.args.passed.now);
    }

pub run_steps-requires : goal.run_steps-requires
run_steps-requires g c = still_threads g.S.ObjectSpace.meaning g.M.Machine.code c.args.steps _ _ (world_of c.loop-times.world) _ _ _ _ c.loop-times.invariant.recorded c.requires.threads

pub try_stretch-requires-clause-threads : goal.try_stretch-requires-clause-threads
try_stretch-requires-clause-threads g c =
    let space = g.S.ObjectSpace.meaning in
    let code = g.M.Machine.code in
    let batch = stretch_joined space code c.args.steps c.args.stretch.pick (c.args.stretch.times - c.loop-times.times) c.in_ok-made.made (world_of c.args.world.now) (world_of c.loop-times.world) (world_of c.run_steps.new.world) c.args.logs.now c.loop-times.logs c.run_steps.new.logs c.args.passed.now c.loop-times.passed c.loop-times.passed c.loop-times.invariant.recorded (c.in_ok-made.ensures.recorded c.loop-times.passed) in
    still_threads space code c.args.steps _ _ (world_of c.run_steps.new.world) _ _ _ _ batch c.requires.threads

pub try_stretch-requires-clause-room : goal.try_stretch-requires-clause-room
try_stretch-requires-clause-room g c =
    let few = few_counted g.S.ObjectSpace.meaning g.M.Machine.code c.args.steps _ _ _ _ _ _ _ c.loop-times.invariant.recorded in
    let many = length-replicate (c.args.stretch.times - c.loop-times.times) c.args.stretch.pick in
    let left = c.loop-times.invariant.left in
    let some = c.loop-times-test.true in
    let room = c.requires.room in
    omega (arith, few, many, left, some, room)

pub loop-times-preserved-then-times-gt0 : goal.loop-times-preserved-then-times-gt0
loop-times-preserved-then-times-gt0 g c =
    let space = g.S.ObjectSpace.meaning in
    let code = g.M.Machine.code in
    let start = world_of c.args.world.now in
    let v = world_of c.loop-times.world in
    let w = world_of c.run_steps.new.world in
    let u = world_of c.try_stretch.new.world in
    let p = c.args.stretch.pick in
    let before = c.args.stretch.times - c.loop-times.times in
    let left = c.loop-times.invariant.left in
    let few = c.in_ok-made.ensures.few in
    let tried = c.in_ok-tried.ensures.few in
    let more : c.args.stretch.times - (c.loop-times.times - c.in_ok-made.made - c.in_ok-tried.tried) ≡ before + c.in_ok-made.made + c.in_ok-tried.tried = omega (arith, left, few, tried) in
    let batch = stretch_joined space code c.args.steps p before c.in_ok-made.made start v w c.args.logs.now c.loop-times.logs c.run_steps.new.logs c.args.passed.now c.loop-times.passed c.loop-times.passed c.loop-times.invariant.recorded (c.in_ok-made.ensures.recorded c.loop-times.passed) in
    record {
      left = omega (arith, left);
      recorded = rw more (stretch_joined space code c.args.steps p (before + c.in_ok-made.made) c.in_ok-tried.tried start w u c.args.logs.now c.run_steps.new.logs c.try_stretch.new.logs c.args.passed.now c.loop-times.passed c.try_stretch.new.passed batch c.in_ok-tried.ensures.recorded);
    }

pub loop-times-preserved : goal.loop-times-preserved
loop-times-preserved g c =
    let before = c.args.stretch.times - c.loop-times.times in
    let left = c.loop-times.invariant.left in
    let few = c.in_ok-made.ensures.few in
    let more : c.args.stretch.times - (c.loop-times.times - c.in_ok-made.made) ≡ before + c.in_ok-made.made = omega (arith, left, few) in
    record {
      left = omega (arith, left);
      recorded = rw more (stretch_joined g.S.ObjectSpace.meaning g.M.Machine.code c.args.steps c.args.stretch.pick before c.in_ok-made.made (world_of c.args.world.now) (world_of c.loop-times.world) (world_of c.run_steps.new.world) c.args.logs.now c.loop-times.logs c.run_steps.new.logs c.args.passed.now c.loop-times.passed c.loop-times.passed c.loop-times.invariant.recorded (c.in_ok-made.ensures.recorded c.loop-times.passed));
    }

pub returns : goal.returns
returns g c =
    let done = c.loop-times-test.false in
    let all : c.args.stretch.times - c.loop-times.times ≡ c.args.stretch.times = omega (arith, done) in
    subst (λ n. AreRecorded g.S.ObjectSpace.meaning g.M.Machine.code c.args.steps (replicate n c.args.stretch.pick) (world_of c.args.world.now) (world_of c.loop-times.world) c.args.logs.now c.loop-times.logs c.args.passed.now c.loop-times.passed) all c.loop-times.invariant.recorded
