-- A stretch more is joined, or the first of its items.
use Rattle.std.proofs.Common.{refl}
use Rattle.std.proofs.Math.Nat.{div-add-mod}
use Rattle.std.proofs.lemmas.Result.{err_from_is_err_and}
use Rattle.log_pieces.specs.Runs.{claims}
use Rattle.log_pieces.proofs.Stretches.{stretch_more, stretch_left}
use Rattle.log_pieces.proofs.runs.join_all.Goals as goal

pub returns-in_err-join_stretch-clause-left : goal.returns-in_err-join_stretch-clause-left
returns-in_err-join_stretch-clause-left g c =
    let left = c.in_err-join_stretch.ensures.left in
    rw (err_from_is_err_and c.from_residual.result c.from_residual.ensures.1).1
    (stretch_left c.loop-rest.invariant.joined g.met.T.Same.decides c.split_at.result.0.now c.split_at.result.1.now c.split_at.ensures.by_index.0 _ (div-add-mod c.loop-rest.place 128) (claims g.T.Packed.read c.join_stretch.new.pages.entries) left.0 left.1)

pub loop-rest-preserved : goal.loop-rest-preserved
loop-rest-preserved g c = record {
  pages = c.join_stretch.ensures.pages;
  joined = stretch_more c.loop-rest.invariant.joined g.met.T.Same.decides c.split_at.result.0.now c.split_at.result.1.now c.split_at.ensures.by_index.0 _ (div-add-mod c.loop-rest.place 128) (claims g.T.Packed.read c.join_stretch.new.pages.entries) c.in_ok-join_stretch.ensures.joined _ refl;
}
