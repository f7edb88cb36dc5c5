use Rattle.std.proofs.Common.{◌≡◌, true, Some, refl, sym, ap, ◌∙◌, arith}
use Rattle.replica.specs.Flat.TheVariants.{Known}
use Rattle.replay_laws.specs.History.{op_at}
use Rattle.workers.specs.Driving.{driven, went_on}
use Rattle.workers.proofs.Advancing.{advances_nowhere}
use Rattle.threaded_replay.proofs.Along.{following_if, advances_at}
use Rattle.threaded_replay.proofs.following.pass_event.Goals as goal

pub returns-in-Some-clause-following : goal.returns-in-Some-clause-following
returns-in-Some-clause-following g c =
    let code = g.M.Machine.code in
    let log = g.L.ReadLog.log c.args.log.now in
    let a = driven g.M.Machine.state c.args.thread.now c.args.seat.now in
    let b = driven g.M.Machine.state c.pass.new.thread c.pass.new.seat in
    let asks : op_at (code.next a.thread.state) c.input_for-input.result ≡ Some c.in-Some.op = ap (λ n. op_at n c.input_for-input.result) (sym c.next.ensures) ∙ (ap (op_at c.next.result) c.input_for-input.ensures ∙ c.in-Some.ensures) in
    let is : log.entry a.seat.thread a.thread.places ≡ Some (Known c.in-Some-Known.item) = let number = c.thread-number.ensures in let read = c.read.ensures.holds in let held = c.in-Some-Known.ensures in let is = c.in-Some-Known.field-0-is in cc in
    following_if g.S.ObjectSpace.meaning code g.met.M.Machine.laws log c.args.end a b c.input_for-input.result c.in-Some.op c.in-Some-Known.item (went_on c.pass.result) asks c.if-place-end.false c.requires.below is c.pass.ensures.entered c.pass.ensures.kept c.requires.following

pub returns-in-Some-clause-advances : goal.returns-in-Some-clause-advances
returns-in-Some-clause-advances g c =
    let code = g.M.Machine.code in
    let log = g.L.ReadLog.log c.args.log.now in
    let a = driven g.M.Machine.state c.args.thread.now c.args.seat.now in
    let b = driven g.M.Machine.state c.pass.new.thread c.pass.new.seat in
    let asks : op_at (code.next a.thread.state) c.input_for-input.result ≡ Some c.in-Some.op = ap (λ n. op_at n c.input_for-input.result) (sym c.next.ensures) ∙ (ap (op_at c.next.result) c.input_for-input.ensures ∙ c.in-Some.ensures) in
    advances_at g.S.ObjectSpace.meaning code g.met.M.Machine.laws log c.args.end a b c.input_for-input.result c.in-Some.op c.in-Some-Known.item (went_on c.pass.result) asks (omega (arith, c.requires.below, c.requires.limit)) c.pass.ensures.entered c.pass.ensures.kept

pub returns-then-place-end-clause-advances : goal.returns-then-place-end-clause-advances
returns-then-place-end-clause-advances g c = advances_nowhere g.S.ObjectSpace.meaning g.M.Machine.code (λ t s. true) _ (driven g.M.Machine.state c.args.thread.now c.args.seat.now) refl

pub returns-in-None-clause-advances : goal.returns-in-None-clause-advances
returns-in-None-clause-advances g c = advances_nowhere g.S.ObjectSpace.meaning g.M.Machine.code (λ t s. true) _ (driven g.M.Machine.state c.args.thread.now c.args.seat.now) refl

pub returns-in_default-clause-advances : goal.returns-in_default-clause-advances
returns-in_default-clause-advances g c = advances_nowhere g.S.ObjectSpace.meaning g.M.Machine.code (λ t s. true) _ (driven g.M.Machine.state c.args.thread.now c.args.seat.now) refl

pub returns-in_default-2-clause-advances : goal.returns-in_default-2-clause-advances
returns-in_default-2-clause-advances g c = advances_nowhere g.S.ObjectSpace.meaning g.M.Machine.code (λ t s. true) _ (driven g.M.Machine.state c.args.thread.now c.args.seat.now) refl
