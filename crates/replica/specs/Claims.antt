-- What a log claims, of every thread and place, and that no known end has more than 1,000,000,000 steps.
use Rattle.std.specs.Prelude.{◌≡◌, ℕ, ◌≤◌, Option, Some, None, IsTrue, nat_le, slice_get}
use Rattle.std.proofs.Common.{subst, arith}
use Rattle.rw_objects.specs.declared.entry.Entry.{Entry}
use Rattle.log_pieces.specs.declared.end.End.{End}
use Rattle.log_pieces.specs.declared.flat.Flat.{Flat}
use Rattle.log_pieces.specs.declared.flat.Flat.TheVariants.{Known}
use Rattle.wasm_types.specs.declared.sizes.TheConstants.{MOST_STEPS}
use Rattle.replica.specs.declared.thread_log.ThreadLog.{ThreadLog}
use Rattle.replica.specs.declared.log.Log.{Log}
use Rattle.replica.specs.Flats.{few_steps}
use Rattle.replica.specs.Log.{entry_at, end_at, end_of}

-- by thread and place nothing, an entry or a clash, and by thread nothing, an end or a clash
pub record Claims : Type 0 where
  pub entry : ℕ → ℕ → Option (Flat Entry)
  pub end : ℕ → Option (Flat End)

abbrev pub claims_of : Log → Claims
claims_of log = record { entry = entry_at log; end = end_at log }

-- no thread's known end has more than 1,000,000,000 steps
abbrev pub HasLimits : Claims → Type 0
HasLimits claims = (thread : ℕ) (end : End) → claims.end thread ≡ Some (Known end) → end.steps ≤ MOST_STEPS

few_of : (thread : Option ThreadLog) (end : End) → end_of thread ≡ Some (Known end) → IsTrue (few_steps (Some (Known end)))
few_of None end h = absurd (let bad : None ≡ Some (Known end) = h in cc)
few_of (Some thread) end h = subst (λ (o : Option (Flat End)). IsTrue (few_steps o)) h thread.few

at_most : (n : ℕ) → IsTrue (nat_le n MOST_STEPS) → n ≤ MOST_STEPS
at_most n h = grind arith

pub has_limits : (log : Log) → HasLimits (claims_of log)
has_limits log thread end h = at_most end.steps (few_of (slice_get log.threads thread) end h)
