use Rattle.std.proofs.Common.{◌≡◌, ◌++◌, ◌∷◌, [], rules}
use Rattle.integer_machine.proofs.Beginning.{more_globals}
use Rattle.integer_machine.proofs.opening.first_globals.Goals as goal

pub loop-global-preserved : goal.loop-global-preserved
loop-global-preserved c =
    let n : c.push.new.self.items ≡ c.loop-global.words.items ++ c.word.result ∷ [] = search rules in
    more_globals c.as_slice-global-items.result.now c.args.module.now.globals c.loop-global.global-index _ c.loop-global.words.items c.push.new.self.items c.word.result c.as_slice-global-items.ensures c.loop-global-test.true c.word.ensures.bits c.word.ensures.range c.loop-global.invariant n
