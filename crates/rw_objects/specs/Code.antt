-- What a machine means: a thread's steps as functions of its state.
use Rattle.std.specs.Prelude.{Bool, true, ◌≡◌, ℕ, ◌+◌, Some, None}
use Rattle.rw_objects.specs.declared.next.Next.{Next}
use Rattle.rw_objects.specs.declared.next.Next.TheVariants.{Local, Ask, Asleep, Halted}
use Rattle.rw_objects.specs.declared.entry.Kind.TheVariants.{Access, Woken, TimedOut}
use Rattle.rw_objects.specs.Space.{Space, Fits}

-- what a thread does next, how many steps it made, its state after a local step and after a reply, the fixed numbers of
-- the space that it was made for, and whether all that it will ask for fits that space
pub record Code (State Op Reply Fixed : Type 0) : Type 1 where
  pub next : State → Next Op
  pub steps : State → ℕ
  pub local : State → State
  pub take : State → Reply → State
  pub fixed : State → Fixed
  pub is_suited : State → Bool

-- the next step takes a reply
abbrev pub TakesReply : {Op : Type 0} → Next Op → Type 0
TakesReply Local = ⊥
TakesReply (Ask op) = Unit {0}
TakesReply (Asleep resume out) = Unit {0}
TakesReply (Halted outcome) = ⊥

module _ {Op Reply Value Fixed : Type 0} (space : Space Op Reply Value Fixed) where
  -- an operation that is asked for is an access, one by which a thread goes on is of the kind woken, and of the kind
  -- timed out where that is by a time-out
  abbrev pub NextKinds : Next Op → Type 0
  NextKinds Local = Unit {0}
  NextKinds (Halted outcome) = Unit {0}
  NextKinds (Ask op) = space.kind op ≡ Access
  NextKinds (Asleep resume None) = space.kind resume ≡ Woken
  NextKinds (Asleep resume (Some out)) = (space.kind resume ≡ Woken) × (space.kind out ≡ TimedOut)

  -- what is asked for fits
  abbrev pub NextFits : Fixed → Next Op → Type 0
  NextFits fixed Local = Unit {0}
  NextFits fixed (Halted outcome) = Unit {0}
  NextFits fixed (Ask op) = Fits space fixed op
  NextFits fixed (Asleep resume None) = Fits space fixed resume
  NextFits fixed (Asleep resume (Some out)) = Fits space fixed resume × Fits space fixed out

module _ {State Op Reply Value Fixed : Type 0} (space : Space Op Reply Value Fixed) (code : Code State Op Reply Fixed) where
  -- each step counts one, leaves the fixed numbers, and leaves a suited thread suited, which asks for what fits
  pub record CodeLaws : Type 0 where
    pub local_steps : (s : State) → code.next s ≡ Local → code.steps (code.local s) ≡ code.steps s + 1
    pub take_steps : (s : State) (reply : Reply) → TakesReply (code.next s) → code.steps (code.take s reply) ≡ code.steps s + 1
    pub local_fixed : (s : State) → code.next s ≡ Local → code.fixed (code.local s) ≡ code.fixed s
    pub take_fixed : (s : State) (reply : Reply) → TakesReply (code.next s) → code.fixed (code.take s reply) ≡ code.fixed s
    pub kinds : (s : State) → NextKinds space (code.next s)
    pub local_suited : (s : State) → code.next s ≡ Local → code.is_suited s ≡ true → code.is_suited (code.local s) ≡ true
    pub take_suited : (s : State) (reply : Reply) → TakesReply (code.next s) → code.is_suited s ≡ true → code.is_suited (code.take s reply) ≡ true
    pub fits : (s : State) → code.is_suited s ≡ true → NextFits space (code.fixed s) (code.next s)
