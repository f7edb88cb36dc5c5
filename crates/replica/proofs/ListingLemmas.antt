-- The lines of the threads of a log.
use Rattle.std.proofs.Common.{◌≡◌, ℕ, zero, suc, ◌+◌, ◌<◌, List, [], ◌∷◌, ◌++◌, length, get_or, take, Option, sym, ap, ◌∙◌, arith, append_assoc}
use Rattle.std.proofs.lemmas.List.{append-nil}
use Rattle.replica.specs.declared.thread_log.ThreadLog.{ThreadLog}
use Rattle.std.specs.Prelude.{None, codes}
use Rattle.wasm_types.specs.Text.{key_text}
use Rattle.replica.specs.declared.log.Log.{Log}
use Rattle.replica.specs.Counts.{ends, missing, strays, clashes}
use Rattle.replica.specs.Listing.{thread_lines, lines_from, counts_line, listing, plain}

-- the lines of one thread more
pub lines_more : (blocks : Option ℕ) (first i : ℕ) (logs : List ThreadLog) (d : ThreadLog) → i < length logs → lines_from blocks first (take (i + 1) logs) ≡ lines_from blocks first (take i logs) ++ thread_lines blocks (first + i) (get_or logs i d)
lines_more blocks first i [] d lt = absurd (omega arith)
lines_more blocks first zero (log ∷ logs) d lt = let e : first + 0 ≡ first = omega arith in append-nil (thread_lines blocks first log) ∙ ap (λ (t : ℕ). thread_lines blocks t log) (sym e)
lines_more blocks first (suc i) (log ∷ logs) d lt =
    let more : suc i + 1 ≡ suc (i + 1) = omega arith in
    let at : suc first + i ≡ first + suc i = omega arith in
    rw more (ap (λ (l : List ℕ). thread_lines blocks first log ++ l) (lines_more blocks (suc first) i logs d (omega arith) ∙ ap (λ (t : ℕ). lines_from blocks (suc first) (take i logs) ++ thread_lines blocks t (get_or logs i d)) at)
    ∙ sym (append_assoc (thread_lines blocks first log) (lines_from blocks (suc first) (take i logs)) (thread_lines blocks (first + suc i) (get_or logs i d))))

-- the form that says nothing more has no line behind the counts
pub plain_listing : (log : Log)
    → codes "run " ++ key_text log.key ++ 10 ∷ [] ++ lines_from None 0 log.threads ++ counts_line (ends log) (missing log) (strays log) (clashes log) ≡ listing plain log
plain_listing log = sym (append-nil _)
