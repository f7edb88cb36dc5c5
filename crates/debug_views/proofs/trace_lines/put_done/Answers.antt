use Rattle.std.proofs.Common.{◌++◌}
use Rattle.std.specs.Prelude.{codes, string_bytes}
use Rattle.event_core.specs.World.{world_of}
use Rattle.debug_views.specs.Trace.{measured, outcome_in}
use Rattle.debug_views.specs.TraceLines.{action_text, stopped_text}
use Rattle.debug_views.proofs.Behind.{line_more, two_more}
use Rattle.debug_views.proofs.trace_lines.put_done.Goals as goal

pub returns : goal.returns
returns c =
    let w = world_of c.args.world.now in
    let seen = c.args.seen.now in
    let line = c.args.line.now.bytes in
    let text = string_bytes c.args.text.now in
    let acted_line = c.put_action.new.line.bytes in
    let action = action_text seen.action seen.found (measured seen.action w) in
    let stopped = stopped_text (outcome_in w c.args.thread) in
    let behind = string_bytes c.put_stopped.new.text in
    let behind_line = c.put_stopped.new.line.bytes in
    let acted = line_more text line acted_line action c.put_action.ensures.text in
    let ended = line_more behind behind_line c.push_str.new.self.bytes (codes "\n") c.push_str.ensures.bytes in
    two_more (text ++ line) (text ++ acted_line) _ action (stopped ++ codes "\n") acted (two_more (text ++ acted_line) (behind ++ behind_line) _ stopped (codes "\n") c.in_ok-put_stopped.ensures.text ended)
