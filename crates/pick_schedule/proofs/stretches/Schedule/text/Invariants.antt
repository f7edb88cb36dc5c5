use Rattle.std.proofs.Common.{◌≡◌, take}
use Rattle.std.specs.Prelude.{string_bytes}
use Rattle.pick_schedule.specs.Printing.{schedule_text}
use Rattle.pick_schedule.proofs.stretches.Schedule.text.Given as goal

-- the stretches so far are written
abbrev pub invariant-loop-stretch : goal.invariant-loop-stretch
invariant-loop-stretch l = string_bytes l.text ≡ schedule_text (take l.stretch-index l.stretch-items)
