use Rattle.std.proofs.Common.{refl}
use Rattle.command_words.specs.Asked.{times_out_in}
use Rattle.clap.specs.Words.{rows_of}
use Rattle.clap.specs.Matches.{found_of}
use Rattle.command_words.proofs.wanted.recording_of.Goals as goal

pub returns-in-Err-clause-none : goal.returns-in-Err-clause-none
returns-in-Err-clause-none c = λ r asked. c.in-Err.ensures.none (record { times_out = times_out_in (rows_of (found_of c.args.matches.now)); steps = r.steps; size = r.size; block = r.block })
    (record { has_timeouts = asked.has_timeouts; has_times_out = refl; has_steps = asked.has_steps; has_size = asked.has_size; has_block = asked.has_block })
