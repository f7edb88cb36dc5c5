use Rattle.std.proofs.Common.{◌≡◌, ℕ, ◌+◌, length, ap, ◌∙◌, rules}
use Rattle.std.specs.Prelude.{slice_set}
use Rattle.replica.proofs.PassageLaws.{keeps_more}
use Rattle.replica.proofs.passage.Passage.add.Goals as goal

pub returns-clause-keeps : goal.returns-clause-keeps
returns-clause-keeps c =
    let places = c.args.self.now.places in
    let sixteen : length c.args.self.now.places ≡ 16 = search rules in
    keeps_more c.args.self.now _ c.args.row c.requires.keeps c.requires.next c.number.ensures.few sixteen c.in_ok-push.ensures.items c.in_ok-add_entry.ensures.counts c.in_ok-add_entry.ensures.few
    (ap (λ (n : ℕ). slice_set places n (c.from.result + 1)) c.number.ensures.value ∙ ap (λ (n : ℕ). slice_set places c.args.row.thread (n + 1)) c.from.ensures)
