use Rattle.std.proofs.Common.{◌≡◌, ◌+◌, ◌<◌, ◌++◌, ◌∷◌, [], length, take, sym, ap, ◌∙◌, arith, add-one}
use Rattle.std.proofs.Math.Seq.{take-suc}
use Rattle.std.proofs.lemmas.List.{length-take-le}
use Rattle.log_pieces.specs.Pages.{pairs_of}
use Rattle.log_pieces.proofs.Joining.{joined_more}
use Rattle.log_pieces.proofs.page.join_items.Goals as goal

pub loop-item-preserved : goal.loop-item-preserved
loop-item-preserved g c =
    let i = c.loop-item.item-index in
    let items = c.args.items.now in
    let within : i < length items = c.loop-item-test.true in
    let so_many = length-take-le i items (omega arith) in
    let place : c.loop-item.place ≡ c.args.at + length (take i items) = omega (arith, c.loop-item.invariant.place) in
    let parts : take (i + 1) items ≡ take i items ++ c.item-item.result ∷ [] = rw (add-one i) (take-suc items i c.item-item.result within ∙ ap (λ (e : _). take i items ++ e ∷ []) (sym c.item-item.is)) in
    rw parts (record {
      page = c.join_one.ensures.page;
      joined = joined_more g.T.PartialEq.eq g.met.T.Same.decides (pairs_of g.T.Packed.read c.args.page.now) (pairs_of g.T.Packed.read c.loop-item.page) (pairs_of g.T.Packed.read c.join_one.new.page) c.args.at c.loop-item.place (take i items) (c.item-item.result ∷ []) place
          c.loop-item.invariant.joined c.in_ok-join_one.ensures.joined;
      place = omega (arith, c.loop-item.invariant.place);
    })
