use Rattle.std.proofs.Common.{◌≡◌, ◌∙◌, ap, rules, string_eq}
use Rattle.indexmap.specs.IndexMap.{insert_entry}
use Rattle.validator.proofs.Names.{puts_number}
use Rattle.validator.proofs.exports.add_name.Goals as goal

pub returns-clause-puts : goal.returns-clause-puts
returns-clause-puts c =
    let same : c.in-Ok.number ≡ c.args.number = search rules in
    puts_number c.args.names.now.entries c.insert.new.self.entries c.args.name.now c.in_ok-name.name c.args.number c.in_ok-name.ensures.ok
    (c.in_ok-insert.ensures.entries ∙ ap (insert_entry string_eq c.args.names.now.entries c.in_ok-name.name) same)
