use Rattle.std.proofs.Common.{◌≡◌, ◌++◌, ◌∷◌, [], length, sym, ap, ◌∙◌, arith}
use Rattle.std.proofs.lemmas.List.{length_push}
use Rattle.event_core.specs.World.{world_of}
use Rattle.recorder.specs.Picks.{is_taken}
use Rattle.recorder.proofs.Taken.{picks_more, picks_same}
use Rattle.recorder.proofs.candidates.add_taken.Goals.{then-is_taken, else-is_taken}
use Rattle.recorder.proofs.candidates.add_taken.Goals as goal

pub loop-thread-preserved : goal.loop-thread-preserved
loop-thread-preserved g c =
    let inv = c.loop-thread.invariant in
    let test = is_taken g.S.ObjectSpace.meaning g.M.Machine.code c.args.steps (world_of c.args.world.now) in
    elim c.if-is_taken.branch [
      | then-is_taken w ↦
          let more : c.if-is_taken.picks ≡ c.loop-thread.picks ++ record { thread = c.loop-thread.thread; input = c.args.input } ∷ [] = w.picks-is ∙ w.push.ensures in
          record {
            picks = more ∙ picks_more test c.args.input c.loop-thread.thread c.args.picks.now c.loop-thread.picks inv.picks (sym c.is_taken.ensures ∙ w.if-is_taken.true);
            few = let few = inv.few in let len = ap length more ∙ length_push c.loop-thread.picks (record { thread = c.loop-thread.thread; input = c.args.input }) in omega (arith, few, len);
          }
      | else-is_taken w ↦ record {
        picks = w.picks-is ∙ picks_same test c.args.input c.loop-thread.thread c.args.picks.now c.loop-thread.picks inv.picks (sym c.is_taken.ensures ∙ w.if-is_taken.false);
        few = let few = inv.few in let len = ap length w.picks-is in omega (arith, few, len);
      }
    ]
