-- Thread lines one after another.
use Rattle.std.proofs.Common.{◌≡◌, ℕ, zero, suc, ◌+◌, ◌-◌, ◌<◌, ◌≤◌, List, [], ◌∷◌, ◌++◌, length, take, refl, sym, ap, ◌∙◌, arith, append_assoc, subst}
use Rattle.std.specs.Prelude.{Result, Ok, Err}
use Rattle.std.proofs.Math.ListN.{length-append}
use Rattle.std.proofs.lemmas.Bool.{cond-false, le-ltb}
use Rattle.wasm_types.specs.declared.modules.Module.{Module}
use Rattle.thread_plan.specs.declared.planned_thread.PlannedThread.{PlannedThread}
use Rattle.thread_plan.specs.declared.fault.PlanFault.{PlanFault}
use Rattle.thread_plan.specs.declared.fault.PlanFault.TheVariants as fault
use Rattle.thread_plan.specs.Refusals.{Refusal, BadLine, NoExport, WrongArguments, NotShared, SegmentOutOfBounds, IsFaultOf}
use Rattle.thread_plan.specs.Threads.{thread_at}
use Rattle.thread_plan.specs.Plans.{and_then, threads_from, at_most_16, threads_of}

-- the threads of some lines, and those of the lines behind them
abbrev pub behind : List PlannedThread → Result (List PlannedThread) Refusal → Result (List PlannedThread) Refusal
behind threads rest = and_then rest (λ others. Ok (threads ++ others))

-- what is left of the first 16 lines behind `threads`, and all lines
pub record IsReadUpTo (m : Module) (all : List (List ℕ)) (threads : List PlannedThread) (rest : List (List ℕ)) : Type 0 where
  pub at_most : length threads ≤ 16
  pub counted : length all ≡ length threads + length rest
  pub same : threads_from m 2 (take 16 all) ≡ behind threads (threads_from m (length threads + 2) (take (16 - length threads) rest))

behind_nil : (rest : Result (List PlannedThread) Refusal) → behind [] rest ≡ rest
behind_nil (Ok threads) = refl
behind_nil (Err refusal) = refl

behind_more : (threads : List PlannedThread) (thread : PlannedThread) (rest : Result (List PlannedThread) Refusal)
    → behind threads (and_then rest (λ others. Ok (thread ∷ others))) ≡ behind (threads ++ thread ∷ []) rest
behind_more threads thread (Ok others) = ap (λ (ts : List PlannedThread). Ok ts) (sym (append_assoc threads (thread ∷ []) others))
behind_more threads thread (Err refusal) = refl

line_ok : (m : Module) (n : ℕ) (line : List ℕ) (lines : List (List ℕ)) (thread : PlannedThread) → thread_at m n line ≡ Ok thread
    → threads_from m n (line ∷ lines) ≡ and_then (threads_from m (n + 1) lines) (λ others. Ok (thread ∷ others))
line_ok m n line lines thread e = ap (λ r. and_then r (λ (t : PlannedThread). and_then (threads_from m (n + 1) lines) (λ others. Ok (t ∷ others)))) e

line_err : (m : Module) (n : ℕ) (line : List ℕ) (lines : List (List ℕ)) (refusal : Refusal) → thread_at m n line ≡ Err refusal
    → threads_from m n (line ∷ lines) ≡ Err refusal
line_err m n line lines refusal e = ap (λ r. and_then r (λ (t : PlannedThread). and_then (threads_from m (n + 1) lines) (λ others. Ok (t ∷ others)))) e

take_first : (room : ℕ) (line : List ℕ) (rest : List (List ℕ)) → 0 < room → take room (line ∷ rest) ≡ line ∷ take (room - 1) rest
take_first zero line rest h = absurd (omega arith)
take_first (suc k) line rest h = ap (λ n. line ∷ take n rest) (omega arith)

pub read_more : (m : Module) (all rest : List (List ℕ)) (threads : List PlannedThread) (thread : PlannedThread) (line : List ℕ)
    → IsReadUpTo m all threads (line ∷ rest) → length threads < 16 → thread_at m (length threads + 2) line ≡ Ok thread → IsReadUpTo m all (threads ++ thread ∷ []) rest
read_more m all rest threads thread line read room e =
    let n : length (threads ++ thread ∷ []) ≡ length threads + 1 = length-append threads (thread ∷ []) in
    record {
      at_most = omega arith;
      counted = omega (arith, read.counted);
      same =
          read.same
          ∙ ap (behind threads) (ap (threads_from m (length threads + 2)) (take_first (16 - length threads) line rest (omega arith)) ∙ line_ok m (length threads + 2) line (take (16 - length threads - 1) rest) thread e)
          ∙ behind_more threads thread (threads_from m (length threads + 2 + 1) (take (16 - length threads - 1) rest))
          ∙ ap (λ k. behind (threads ++ thread ∷ []) (threads_from m k (take (16 - length threads - 1) rest))) (omega arith)
          ∙ ap (λ k. behind (threads ++ thread ∷ []) (threads_from m (length (threads ++ thread ∷ []) + 2) (take k rest))) (omega arith);
    }

by_first : (m : Module) (all : List (List ℕ)) (answer : Result (List PlannedThread) Refusal) → 0 < length all → threads_from m 2 (take 16 all) ≡ answer
    → threads_of m all ≡ and_then answer (at_most_16 (length all))
by_first m [] answer h e = absurd (omega arith)
by_first m (line ∷ lines) answer h e = ap (λ r. and_then r (at_most_16 (length (line ∷ lines)))) e

pub read_fails : (m : Module) (all rest : List (List ℕ)) (threads : List PlannedThread) (line : List ℕ) (refusal : Refusal)
    → IsReadUpTo m all threads (line ∷ rest) → length threads < 16 → thread_at m (length threads + 2) line ≡ Err refusal → threads_of m all ≡ Err refusal
read_fails m all rest threads line refusal read room e =
    by_first m all (Err refusal) (omega (arith, read.counted))
    (read.same ∙ ap (behind threads) (ap (threads_from m (length threads + 2)) (take_first (16 - length threads) line rest (omega arith)) ∙ line_err m (length threads + 2) line (take (16 - length threads - 1) rest) refusal e))

not_more : (n : ℕ) (threads : List PlannedThread) → n ≤ 16 → at_most_16 n threads ≡ Ok threads
not_more n threads h = cond-false _ _ _ (le-ltb 16 n h)

pub left_is : (m : Module) (all left rest : List (List ℕ)) (threads : List PlannedThread) (line : List ℕ) → left ≡ line ∷ rest → IsReadUpTo m all threads left → IsReadUpTo m all threads (line ∷ rest)
left_is m all left rest threads line e read = subst (λ (l : List (List ℕ)). IsReadUpTo m all threads l) e read

pub read_faults : (m : Module) (all rest : List (List ℕ)) (threads : List PlannedThread) (line : List ℕ) (fault : PlanFault)
    → IsReadUpTo m all threads (line ∷ rest) → length threads < 16 → IsFaultOf (thread_at m (length threads + 2) line) fault → IsFaultOf (threads_of m all) fault
read_faults m all rest threads line (fault.BadLine n cause) read room e = read_fails m all rest threads line (BadLine n) read room e
read_faults m all rest threads line (fault.NoExport n cause) read room e = read_fails m all rest threads line (NoExport n) read room e
read_faults m all rest threads line (fault.WrongArguments n cause) read room e = read_fails m all rest threads line (WrongArguments n) read room e
read_faults m all rest threads line fault.NotShared read room e = read_fails m all rest threads line NotShared read room e
read_faults m all rest threads line fault.SegmentOutOfBounds read room e = read_fails m all rest threads line SegmentOutOfBounds read room e
read_faults m all rest threads line fault.NoMemory read room e = tt
