-- What a try answers.
use Rattle.std.specs.Prelude.{Bool, true, false, Result, Ok, Err}
use Rattle.rw_objects.specs.declared.entry.Entry.{Entry}
use Rattle.shared_parts.specs.declared.tried.Tried.{Tried}
use Rattle.shared_parts.specs.declared.tried.Tried.TheVariants.{Done, Shut, NotReady}

-- the fact, where the call was entered
abbrev pub IfDone : {R : Type 0} → Tried R → (R → Entry → Type 0) → Type 0
IfDone (Done r e) p = p r e
IfDone Shut p = Unit {0}
IfDone NotReady p = Unit {0}

abbrev pub IfShut : {R : Type 0} → Tried R → Type 0 → Type 0
IfShut (Done r e) p = Unit {0}
IfShut Shut p = p
IfShut NotReady p = Unit {0}

abbrev pub IfNotReady : {R : Type 0} → Tried R → Type 0 → Type 0
IfNotReady (Done r e) p = Unit {0}
IfNotReady Shut p = Unit {0}
IfNotReady NotReady p = p

-- whether a call was entered
abbrev pub IsDone : {R E : Type 0} → Result (Tried R) E → Bool
IsDone (Ok (Done r e)) = true
IsDone (Ok Shut) = false
IsDone (Ok NotReady) = false
IsDone (Err e) = false
