use Rattle.std.proofs.Common.{◌≡◌, ◌<◌, ◌≤◌, ℕ, Result, Ok, Err, IfOk, length, subst, arith}
use Rattle.event_core.specs.World.{world_of}
use Rattle.replay_session.specs.Rounds.{RoundsGo, AllRest}
use Rattle.replay_session.specs.Ways.{TurnsLead}
use Rattle.replay_session.proofs.RoundTurns.{nowhere, turns_of}
use Rattle.replay_session.proofs.rounds.go_some.Goals as goal

-- a round makes fewer steps than come, where more come than there are threads
fewer : {E : Type 0} (n most : ℕ) (P : ℕ → Type 0) (r : Result ℕ E) → IfOk r (λ made. made ≤ n) → IfOk r (λ made. made < most → P made) → IfOk r (λ made. n < most → P made)
fewer n most P (Ok made) few whole = λ more. whole (omega (arith, few, more))
fewer n most P (Err e) few whole = tt

pub returns-then-together-gt0-clause-leads : goal.returns-then-together-gt0-clause-leads
returns-then-together-gt0-clause-leads g c =
    turns_of g.S.ObjectSpace.meaning g.M.Machine.code g.met.M.Machine.laws (g.L.ReadLog.log c.args.replay.now.log) (world_of c.args.replay.now.world) c.go_together-together.result (world_of c.go_together-together.new.replay.world) c.go_together-together.ensures.rounds

pub returns-else-together-gt0-clause-leads : goal.returns-else-together-gt0-clause-leads
returns-else-together-gt0-clause-leads g c =
    let space = g.S.ObjectSpace.meaning in
    let code = g.M.Machine.code in
    let log = g.L.ReadLog.log c.args.replay.now.log in
    let w = world_of c.args.replay.now.world in
    let u = world_of c.go_together-together.new.replay.world in
    let v = world_of c.go_round.new.replay.world in
    let h = c.if-together-gt0.false in
    let none : c.go_together-together.result ≡ 0 = omega (arith, h) in
    let same = nowhere space code g.met.M.Machine.laws log w u (subst (λ n. RoundsGo space code log n w u) none c.go_together-together.ensures.rounds) in
    subst (λ x. IfOk c.go_round.result (λ made. TurnsLead space code log made x v)) same
    (subst (λ r. IfOk c.go_round.result (λ made. TurnsLead space code (g.L.ReadLog.log r) made u v)) c.go_together-together.ensures.log c.go_round.ensures.leads)

pub returns-else-together-gt0-clause-whole : goal.returns-else-together-gt0-clause-whole
returns-else-together-gt0-clause-whole g c =
    let space = g.S.ObjectSpace.meaning in
    let code = g.M.Machine.code in
    let log = g.L.ReadLog.log c.args.replay.now.log in
    let w = world_of c.args.replay.now.world in
    let u = world_of c.go_together-together.new.replay.world in
    let v = world_of c.go_round.new.replay.world in
    let h = c.if-together-gt0.false in
    let none : c.go_together-together.result ≡ 0 = omega (arith, h) in
    let same = nowhere space code g.met.M.Machine.laws log w u (subst (λ n. RoundsGo space code log n w u) none c.go_together-together.ensures.rounds) in
    subst (λ x. IfOk c.go_round.result (λ made. made < c.args.most → RoundsGo space code log made x v)) same
    (subst (λ r. IfOk c.go_round.result (λ made. made < c.args.most → RoundsGo space code (g.L.ReadLog.log r) made u v)) c.go_together-together.ensures.log c.go_round.ensures.whole)

pub returns-else-together-gt0-clause-rounds : goal.returns-else-together-gt0-clause-rounds
returns-else-together-gt0-clause-rounds g c =
    let space = g.S.ObjectSpace.meaning in
    let code = g.M.Machine.code in
    let log = g.L.ReadLog.log c.args.replay.now.log in
    let w = world_of c.args.replay.now.world in
    let u = world_of c.go_together-together.new.replay.world in
    let v = world_of c.go_round.new.replay.world in
    let h = c.if-together-gt0.false in
    let none : c.go_together-together.result ≡ 0 = omega (arith, h) in
    let same = nowhere space code g.met.M.Machine.laws log w u (subst (λ n. RoundsGo space code log n w u) none c.go_together-together.ensures.rounds) in
    fewer _ c.args.most (λ made. RoundsGo space code log made w v) c.go_round.result
    (subst (λ x. IfOk c.go_round.result (λ made. made ≤ length x.threads)) same c.go_round.ensures.round)
    (returns-else-together-gt0-clause-whole g c)

pub returns-else-together-gt0-clause-rest : goal.returns-else-together-gt0-clause-rest
returns-else-together-gt0-clause-rest g c =
    let v = world_of c.go_round.new.replay.world in
    subst (λ r. IfOk c.go_round.result (λ made. made < c.args.most → made ≡ 0 → AllRest g.S.ObjectSpace.meaning g.M.Machine.code (g.L.ReadLog.log r) v)) c.go_together-together.ensures.log c.go_round.ensures.rest
