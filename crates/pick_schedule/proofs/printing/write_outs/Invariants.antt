use Rattle.std.proofs.Common.{◌≡◌, ◌++◌}
use Rattle.std.specs.Prelude.{string_bytes, replicate}
use Rattle.pick_schedule.specs.Printing.{out_line, text_of}
use Rattle.pick_schedule.proofs.printing.write_outs.Given as goal

-- the lines so far are written
abbrev pub invariant-loop : goal.invariant-loop
invariant-loop l = string_bytes l.text ≡ string_bytes l.fn.text ++ text_of (replicate l.counter (out_line l.thread))
