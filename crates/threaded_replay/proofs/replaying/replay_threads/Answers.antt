use Rattle.std.proofs.Common.{◌≡◌, true, sym, subst, ◌∙◌}
use Rattle.wasm_world.specs.Valid.{fits_profile}
use Rattle.threaded_replay.proofs.Ending.{threads_end, threads_refusal, every_order, as_recorded}
use Rattle.threaded_replay.proofs.replaying.replay_threads.Goals as goal

pub replay_in-requires-clause-fits : goal.replay_in-requires-clause-fits
replay_in-requires-clause-fits g c κs within = subst (λ p. fits_profile c.args.valid.now p ≡ true) (sym (c.profile-profile.ensures ∙ c.in-Ok.ensures.opener.profile)) c.in-Ok.ensures.of_run.fits

pub returns-in-Ok-replay_in-clause-ended : goal.returns-in-Ok-replay_in-clause-ended
returns-in-Ok-replay_in-clause-ended g c = threads_end c.args.valid.now c.args.plan.now c.args.log.now c.profile-profile.result (c.profile-profile.ensures ∙ c.in-Ok.ensures.opener.profile) c.in-Ok-replay_in.ended c.in-Ok-replay_in.ensures.ended

pub returns-in-Ok-replay_in-clause-ordered : goal.returns-in-Ok-replay_in-clause-ordered
returns-in-Ok-replay_in-clause-ordered g c =
    every_order c.args.valid.now c.args.plan.now c.args.log.now c.in-Ok-replay_in.ended
    (threads_end c.args.valid.now c.args.plan.now c.args.log.now c.profile-profile.result (c.profile-profile.ensures ∙ c.in-Ok.ensures.opener.profile) c.in-Ok-replay_in.ended c.in-Ok-replay_in.ensures.ended)

pub returns-in-Ok-replay_in-clause-recorded : goal.returns-in-Ok-replay_in-clause-recorded
returns-in-Ok-replay_in-clause-recorded g c =
    as_recorded c.args.valid.now c.args.plan.now c.args.log.now c.in-Ok-replay_in.ended
    (threads_end c.args.valid.now c.args.plan.now c.args.log.now c.profile-profile.result (c.profile-profile.ensures ∙ c.in-Ok.ensures.opener.profile) c.in-Ok-replay_in.ended c.in-Ok-replay_in.ensures.ended)

pub returns-in-Err-replay_in-clause-refused : goal.returns-in-Err-replay_in-clause-refused
returns-in-Err-replay_in-clause-refused g c =
    threads_refusal c.args.valid.now c.args.plan.now c.args.log.now c.profile-profile.result (c.profile-profile.ensures ∙ c.in-Ok.ensures.opener.profile) c.in-Err-replay_in.refused.fault c.in-Ok.ensures.of_run c.in-Err-replay_in.ensures.refused
