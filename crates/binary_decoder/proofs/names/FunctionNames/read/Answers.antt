use Rattle.binary_decoder.specs.Names.{entry_at, entries_of, named_or}
use Rattle.binary_decoder.specs.Kept.{name_of}
use Rattle.binary_decoder.proofs.NameItems.{damaged, no_more, all_named, named}
use Rattle.binary_decoder.proofs.names.FunctionNames.read.Goals as goal

pub returns-in_default-next_entry : goal.returns-in_default-next_entry
returns-in_default-next_entry c function =
    all_named function c.in-Ok.count c.loop.counter c.loop.cursor.rest.now (name_of c.loop.self function) (named_or (name_of c.args.self.now function) function (entries_of c.args.cursor.now.rest.now)) (c.loop.invariant function)
    (damaged entry_at c.in-Ok.count c.loop.counter c.loop.cursor.rest.now c.in_default-next_entry.field-0 c.loop-test.true c.in_default-next_entry.ensures.refusal c.in_default-next_entry.ensures.value)

pub loop-preserved : goal.loop-preserved
loop-preserved c function =
    named function c.in-Ok.count c.loop.counter c.loop.cursor.rest.now (name_of c.loop.self function) (named_or (name_of c.args.self.now function) function (entries_of c.args.cursor.now.rest.now)) (c.loop.invariant function)
    c.in-Ok-next_entry.entry.function c.in-Ok-next_entry.entry.name.now c.next_entry.new.cursor.rest.now (name_of c.put.new.self function) c.loop-test.true c.in-Ok-next_entry.ensures.value (c.in_ok-put.ensures function)

pub returns : goal.returns
returns c function =
    all_named function c.in-Ok.count c.loop.counter c.loop.cursor.rest.now (name_of c.loop.self function) (named_or (name_of c.args.self.now function) function (entries_of c.args.cursor.now.rest.now)) (c.loop.invariant function)
    (no_more entry_at c.in-Ok.count c.loop.counter c.loop.cursor.rest.now c.loop-test.false)
