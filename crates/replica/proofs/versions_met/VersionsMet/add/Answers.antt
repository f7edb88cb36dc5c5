use Rattle.std.proofs.Common.{ℕ, Bool, cond, ◌&&◌, ◌||◌, ap, ◌∙◌}
use Rattle.std.specs.Prelude.{◌==◌, Option, Some}
use Rattle.replica.specs.declared.versions_met.LineAt.{LineAt}
use Rattle.replica.specs.ObjectLines.{line_at}
use Rattle.replica.specs.Met.{met_in, maker_in, is_known_in}
use Rattle.replica.proofs.MetLaws.{is_same_pair, met_more}
use Rattle.replica.proofs.versions_met.VersionsMet.add.Goals as goal

pub returns : goal.returns
returns c seen has =
    let touch = c.args.touch in
    let old = c.args.self.now in
    met_more old (record { versions = c.insert.new.self }) touch c.args.line c.with.result seen has
    (c.with.ensures.maker ∙ ap (λ (m : Option LineAt). cond (touch.is_write) (line_at touch c.args.line) m) (c.version-met.ensures.maker ∙ ap (λ (n : ℕ). maker_in old touch.object n) c.version.ensures.version))
    (λ (thread : ℕ). c.with.ensures.threads thread ∙ ap (λ (b : Bool). touch.thread == thread || b) (c.version-met.ensures.threads thread ∙ ap (λ (n : ℕ). is_known_in old touch.object n thread) c.version.ensures.version))
    (λ (o v : ℕ). c.in_ok-insert.ensures.updates.0 (record { object = o; version = v })
    ∙ ap (λ (b : Bool). cond b (Some c.with.result) (met_in old o v)) (is_same_pair touch.object c.version.result o v ∙ ap (λ (n : ℕ). touch.object == o && n == v) c.version.ensures.version))
