use Rattle.std.proofs.Common.{◌≡◌, ◌+◌, ◌<◌, ◌++◌, ◌∷◌, [], length, take, sym, ap, ◌∙◌, arith, add-one}
use Rattle.std.proofs.Math.Seq.{take-suc}
use Rattle.std.proofs.lemmas.List.{length-take-le, take_all}
use Rattle.log_pieces.proofs.Joining.{put_more, fit_more}
use Rattle.log_pieces.proofs.page.put_items.Goals as goal

pub loop-item-preserved : goal.loop-item-preserved
loop-item-preserved g c =
    let i = c.loop-item.item-index in
    let items = c.args.items.now in
    let within : i < length items = c.loop-item-test.true in
    let so_many = length-take-le i items (omega arith) in
    let place : c.loop-item.place ≡ c.args.at + length (take i items) = omega (arith, c.loop-item.invariant.place) in
    let parts : take (i + 1) items ≡ take i items ++ c.item-item.result ∷ [] = rw (add-one i) (take-suc items i c.item-item.result within ∙ ap (λ (e : _). take i items ++ e ∷ []) (sym c.item-item.is)) in
    rw parts (record {
      put = put_more g.T.Packed.spelled c.args.at c.loop-item.place (take i items) c.item-item.result c.args.bytes.now.items c.loop-item.bytes.items place c.loop-item.invariant.put _ (c.in_ok-put.ensures.put ∙ ap (λ l. l ++ g.T.Packed.spelled c.item-item.result) c.in_ok-push.ensures.items);
      fits = fit_more g.T.Packed.Fits c.args.at (take i items) c.item-item.result c.loop-item.invariant.fits c.in_ok-put.ensures.fits;
      place = omega (arith, c.loop-item.invariant.place);
    })

pub returns-clause-put : goal.returns-clause-put
returns-clause-put g c =
    let all = take_all c.loop-item.item-index c.args.items.now c.loop-item-test.false in
    rw (← all) c.loop-item.invariant.put
