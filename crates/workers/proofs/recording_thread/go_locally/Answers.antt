use Rattle.workers.proofs.recording_thread.go_locally.Goals as goal

pub returns-in-Ok : goal.returns-in-Ok
returns-in-Ok g c = (c.in-Ok._made, c.in-Ok.ensures.goes, c.in-Ok.ensures.few)
