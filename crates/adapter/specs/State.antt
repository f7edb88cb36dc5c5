-- Where a debug adapter stands.
use Rattle.std.specs.Prelude.{◌≡◌, ℕ, ◌≤◌, length}
use Rattle.debugger.specs.At.{at_of, CanOpen}
use Rattle.debugger.specs.Replies.{DebugAt}
use Rattle.adapter.specs.declared.adapter.Adapter.{Adapter}

-- where its debugger stands, and how many of the breaks at instructions are function breakpoints, which come first
pub record AdapterAt : Type 0 where
  pub debugger : DebugAt
  pub functions : ℕ

abbrev pub state_of : Adapter → AdapterAt
state_of a = record { debugger = at_of a.debugger; functions = a.functions }

-- before the first request
abbrev pub opening_of : DebugAt → AdapterAt
opening_of s = record { debugger = s; functions = 0 }

-- its opening world can be opened again, its code is that of the module, and there are so many breaks at instructions
pub record Suits (a : Adapter) : Type 0 where
  pub can_open : CanOpen a.debugger
  pub code : a.code ≡ (at_of a.debugger).code.source
  pub few : a.functions ≤ length (at_of a.debugger).instructions
