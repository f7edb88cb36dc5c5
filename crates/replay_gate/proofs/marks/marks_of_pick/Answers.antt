use Rattle.std.proofs.Common.{◌++◌, ◌∷◌, [], List, map, take, get_or, add-one, sym, ap, ◌∙◌, arith}
use Rattle.std.proofs.lemmas.List.{length-append}
use Rattle.rw_objects.specs.declared.touch.Touch.{Touch}
use Rattle.rw_objects.specs.declared.touch.Mode.TheVariants.{Read}
use Rattle.event_core.specs.World.{world_of}
use Rattle.replay_gate.specs.declared.marks.Mark.{Mark}
use Rattle.replay_gate.specs.Marks.{mark_of}
use Rattle.replay_gate.proofs.Marking.{mark_next, mark_is}
use Rattle.replay_gate.proofs.marks.marks_of_pick.Goals as goal

pub loop-touch-preserved : goal.loop-touch-preserved
loop-touch-preserved g c =
    let counts = (world_of c.args.world.now).memory.counts in
    let all : List Touch = c.as_slice-touch-items.result.now in
    let i = c.loop-touch.touch-index in
    let t : Touch = get_or all i (record { object = 0; mode = Read }) in
    let inv = c.loop-touch.invariant in
    let is = mark_is counts t c.at-version.result (c.at-version.ensures ∙ ap (λ f. f t.object) c.versions.ensures) in
    record {
      marks =
          c.push.ensures
          ∙ ap (λ (ms : List Mark). ms ++ record { object = t.object; version = c.at-version.result.version } ∷ []) inv.marks
          ∙ ap (λ (m : Mark). map (mark_of counts) (take i all) ++ m ∷ []) is
          ∙ mark_next counts all i (record { object = 0; mode = Read }) c.loop-touch-test.true
          ∙ ap (λ k. map (mark_of counts) (take k all)) (sym (add-one i));
      some = rw c.push.ensures (rw length-append (omega (arith, inv.some)));
    }
