-- What is left behind still spells its entries, and the bytes in front are those of the others.
use Rattle.std.proofs.Common.{◌≡◌, ◌-◌, length, take, drop, rules, ap, ◌∙◌}
use Rattle.std.specs.List.{flat_map}
use Rattle.log_pieces.specs.Spelling.{entry_bytes}
use Rattle.log_pieces.proofs.Packing.{left_behind, passed_bytes}
use Rattle.log_pieces.proofs.reader.EntriesReader.next_bytes.Goals as goal

pub invariant_of-self : goal.invariant_of-self
invariant_of-self c = (left_behind c.self.inside.left c.args.most c.min-count.result c.self.inside.bytes.now c.pass_entries-behind.result.now c.self.invariant c.min-count.ensures c.pass_entries-behind.ensures.behind).packed

pub returns-clause-left : goal.returns-clause-left
returns-clause-left c =
    (left_behind c.self.inside.left c.args.most c.min-count.result c.self.inside.bytes.now c.pass_entries-behind.result.now c.self.invariant c.min-count.ensures c.pass_entries-behind.ensures.behind).read
    ∙ ap (drop c.args.most) c.self.view_is

pub returns-clause-bytes : goal.returns-clause-bytes
returns-clause-bytes c =
    let front : c.split_at.result.0.now ≡ take (length c.self.inside.bytes.now - length c.pass_entries-behind.result.now) c.self.inside.bytes.now = search (rules, c.split_at.ensures) in
    front
    ∙ passed_bytes c.self.inside.left c.args.most c.min-count.result c.self.inside.bytes.now c.pass_entries-behind.result.now c.self.invariant c.min-count.ensures c.pass_entries-behind.ensures.behind
    ∙ ap (λ es. flat_map entry_bytes (take c.args.most es)) c.self.view_is
