use Rattle.std.proofs.Common.{◌++◌, refl}
use Rattle.replica.specs.Members.{has_thread}
use Rattle.std.specs.String.{string_bytes}
use Rattle.replica.specs.Chosen.{versions_text}
use Rattle.replica.proofs.Known.{seen_none}
use Rattle.replica.proofs.ObjectSteps.{versions_step}
use Rattle.replica.proofs.versions.put_versions.Goals as goal

pub loop-first-init : goal.loop-first-init
loop-first-init c = record { lines = refl; seen = seen_none c.args.touches.now c.requires }

pub loop-first-preserved : goal.loop-first-preserved
loop-first-preserved c =
    let step = versions_step c.args.object c.args.touches.now c.loop-first.before.now c.loop-first.rest.now c.split_at.result.0.now c.split_at.result.1.now c.in-Some.first.now c.version-version.result c.version_len.result
    (has_thread c.threads_before-threads.result) (string_bytes c.loop-first.text) (string_bytes c.put_version.new.text) (string_bytes c.args.text.now ++ versions_text c.args.object c.args.touches.now)
    c.in-Some.ensures.value c.version-version.ensures.version c.version_len.ensures.len c.split_at.ensures.front c.split_at.ensures.back
    c.threads_before-threads.ensures c.in_ok-put_version.ensures c.loop-first.invariant.seen c.loop-first.invariant.lines in
    record { lines = step.0; seen = step.1 }
