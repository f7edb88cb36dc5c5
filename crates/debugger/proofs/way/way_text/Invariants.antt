-- the legs so far are written
use Rattle.std.proofs.Common.{◌≡◌, take}
use Rattle.std.specs.Prelude.{string_bytes}
use Rattle.debugger.specs.Replies.{way_text}
use Rattle.debugger.proofs.way.way_text.Given as goal

abbrev pub invariant-loop-leg : goal.invariant-loop-leg
invariant-loop-leg l = string_bytes l.text ≡ way_text (take l.leg-index l.legs)
