use Rattle.std.proofs.Common.{length, sym, ap, ◌∙◌, arith}
use Rattle.std.proofs.lemmas.List.{length-take-le}
use Rattle.recorder.proofs.candidates.Picks.len.Goals as goal

pub returns : goal.returns
returns c = sym (ap length (sym c.self.view_is) ∙ length-take-le c.self.inside.len c.self.inside.picks (let few = c.self.invariant.0 in let all = c.self.invariant.1 in omega (arith, few, all)))
