use Rattle.std.proofs.Common.{◌≡◌, ◌∙◌, ◌++◌, List, ℕ, ap}
use Rattle.std.specs.List.{flat_map}
use Rattle.log_pieces.specs.PackedClaim.{pair_bytes, placed}
use Rattle.log_pieces.proofs.Pages.{read_spelled}
use Rattle.log_pieces.proofs.Joining.{stretch_spelled}
use Rattle.log_pieces.proofs.page.page_of.Goals as goal

pub returns-clause-page : goal.returns-clause-page
returns-clause-page g c =
    let put : c.in_ok-from_slice.field-0.items ≡ flat_map (pair_bytes g.T.Packed.spelled) (placed c.args.at c.args.items.now) =
    c.in_ok-from_slice.ensures.items ∙ c.deref.ensures.value ∙ c.in_ok-put_items.ensures.put ∙ ap (λ (l : List ℕ). l ++ flat_map (pair_bytes g.T.Packed.spelled) (placed c.args.at c.args.items.now)) c.clear.ensures.items in
    let s = stretch_spelled g.T.Packed.spelled g.T.Packed.Fits c.args.at c.args.items.now c.in_ok-from_slice.field-0.items c.requires put c.in_ok-put_items.ensures.fits in
    rw (read_spelled g.met.T.Packed.reads_back s) s

pub returns-clause-pairs : goal.returns-clause-pairs
returns-clause-pairs g c =
    let put : c.in_ok-from_slice.field-0.items ≡ flat_map (pair_bytes g.T.Packed.spelled) (placed c.args.at c.args.items.now) =
    c.in_ok-from_slice.ensures.items ∙ c.deref.ensures.value ∙ c.in_ok-put_items.ensures.put ∙ ap (λ (l : List ℕ). l ++ flat_map (pair_bytes g.T.Packed.spelled) (placed c.args.at c.args.items.now)) c.clear.ensures.items in
    let s = stretch_spelled g.T.Packed.spelled g.T.Packed.Fits c.args.at c.args.items.now c.in_ok-from_slice.field-0.items c.requires put c.in_ok-put_items.ensures.fits in
    read_spelled g.met.T.Packed.reads_back s
