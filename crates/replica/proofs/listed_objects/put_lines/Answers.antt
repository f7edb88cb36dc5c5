use Rattle.std.proofs.Common.{◌++◌, refl}
use Rattle.std.specs.String.{string_bytes}
use Rattle.replica.specs.Objects.{object_text}
use Rattle.replica.specs.Chosen.{lines}
use Rattle.replica.proofs.ObjectSteps.{group_rises, objects_step}
use Rattle.replica.proofs.listed_objects.put_lines.Goals as goal

pub loop-first-init : goal.loop-first-init
loop-first-init c = record { lines = refl; order = c.requires }

pub put_object-requires : goal.put_object-requires
put_object-requires c =
    group_rises c.loop-first.rest.now c.split_at.result.0.now c.split_at.result.1.now c.in-Some.first.now c.in-Some.first.now.object c.object_len.result
    (c.in-Some.ensures.value, refl, c.object_len.ensures.len, c.split_at.ensures.front, c.split_at.ensures.back, c.loop-first.invariant.order)

pub loop-first-preserved : goal.loop-first-preserved
loop-first-preserved c =
    let step = objects_step c.args.chosen.now (object_text c.args.block) c.loop-first.rest.now c.split_at.result.0.now c.split_at.result.1.now c.in-Some.first.now c.in-Some.first.now.object c.object_len.result
    (string_bytes c.loop-first.text) (string_bytes c.put_object.new.text) (string_bytes c.args.text.now ++ lines c.args.chosen.now (object_text c.args.block) c.args.touches.now)
    (c.in-Some.ensures.value, refl, c.object_len.ensures.len, c.split_at.ensures.front, c.split_at.ensures.back, c.loop-first.invariant.order)
    c.in_ok-put_object.ensures c.loop-first.invariant.lines in
    record { lines = step.0; order = step.1 }
