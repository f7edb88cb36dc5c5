use Rattle.std.proofs.Common.{◌≡◌, ℕ, ◌+◌, ◌<◌, ◌≤◌, List, ◌++◌, length, take, get_or, rules, sym, ap, ◌∙◌, arith}
use Rattle.std.specs.Prelude.{None}
use Rattle.std.proofs.Output.{has_written_append, has_written_of_eq}
use Rattle.std.proofs.lemmas.List.{take_all}
use Rattle.replica.specs.declared.thread_log.ThreadLog.{ThreadLog}
use Rattle.replica.specs.Listing.{thread_lines, lines_from}
use Rattle.replica.proofs.ListingLemmas.{lines_more, plain_listing}
use Rattle.replica.proofs.texts.LogDisplay.fmt.Goals as goal

pub loop-thread-preserved : goal.loop-thread-preserved
loop-thread-preserved g c plain =
    let so_far = c.loop-thread.invariant plain in
    let written = c.in_ok-write.ensures.writes so_far.plain (search rules) in
    let i = c.loop-thread.thread in
    let within : i < length c.args.self.now.threads = rw (← c.threads-log-items.ensures.value) c.loop-thread-test.true in
    let more = lines_more None 0 i c.args.self.now.threads c.log-item.result within in
    let item : c.log-item.result ≡ get_or c.args.self.now.threads i c.log-item.result = c.log-item.is ∙ ap (λ (l : List ThreadLog). get_or l i c.log-item.result) c.threads-log-items.ensures.value in
    let number : 0 + i ≡ i = omega arith in
    let line : thread_lines None i c.log-item.result ≡ thread_lines None (0 + i) (get_or c.args.self.now.threads i c.log-item.result) = ap (thread_lines None i) item ∙ ap (λ (t : ℕ). thread_lines None t (get_or c.args.self.now.threads i c.log-item.result)) (sym number) in
    has_written_of_eq _ _ _ _ _ (ap (λ (l : List ℕ). lines_from None 0 (take i c.args.self.now.threads) ++ l) line ∙ sym more) (has_written_append _ _ _ _ _ _ so_far written)

pub returns-clause-writes : goal.returns-clause-writes
returns-clause-writes g c plain ok =
    let run = c.in_ok-writeln.ensures.writes plain (search rules) in
    let threads = c.loop-thread.invariant run.plain in
    let counts = c.write-2.ensures.writes threads.plain ok in
    let past : length c.args.self.now.threads ≤ c.loop-thread.thread = rw (← c.threads-log-items.ensures.value) c.loop-thread-test.false in
    let all : take c.loop-thread.thread c.args.self.now.threads ≡ c.args.self.now.threads = take_all c.loop-thread.thread c.args.self.now.threads past in
    has_written_of_eq _ _ _ _ _ (rw (c.key.ensures, all, c.ends.ensures, c.missing.ensures, c.strays.ensures, c.clashes.ensures) (plain_listing c.args.self.now)) (has_written_append _ _ _ _ _ _ (has_written_append _ _ _ _ _ _ run threads) counts)
