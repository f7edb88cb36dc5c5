-- The same bytes spell the same pairs.
use Rattle.std.proofs.Common.{◌≡◌, ◌∙◌, ◌++◌, List, ℕ, length, true, ap, sym}
use Rattle.std.specs.List.{flat_map}
use Rattle.std.proofs.lemmas.Slice.Eq.{bytes_eq-Decides}
use Rattle.log_pieces.specs.PackedClaim.{pair_bytes, placed}
use Rattle.log_pieces.proofs.Pages.{read_spelled}
use Rattle.log_pieces.proofs.Joining.{stretch_spelled}
use Rattle.log_pieces.proofs.page.has_items.Goals as goal

pub returns : goal.returns
returns g c is =
    let equal : c.are_same.result ≡ true = cc (is) in
    let same = (bytes_eq-Decides c.as_slice.result.now c.as_slice-2.result.now).0 (sym c.are_same.ensures ∙ equal) in
    let put : c.args.page.now.bytes.items ≡ flat_map (pair_bytes g.T.Packed.spelled) (placed c.args.at c.args.items.now) =
    sym c.as_slice.ensures.value ∙ same ∙ c.as_slice-2.ensures.value ∙ c.in_ok-put_items.ensures.put ∙ ap (λ (l : List ℕ). l ++ flat_map (pair_bytes g.T.Packed.spelled) (placed c.args.at c.args.items.now)) c.clear.ensures.items in
    let s = stretch_spelled g.T.Packed.spelled g.T.Packed.Fits c.args.at c.args.items.now c.args.page.now.bytes.items c.requires put c.in_ok-put_items.ensures.fits in
    let count : c.args.page.now.count ≡ length c.args.items.now = c.if-page-items.false in
    rw count (read_spelled g.met.T.Packed.reads_back s)
