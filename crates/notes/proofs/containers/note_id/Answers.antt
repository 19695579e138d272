use Rattle.notes.proofs.LeftSteps.{learns_one}
use Rattle.notes.proofs.containers.note_id.Goals as goal

pub returns : goal.returns
returns c = rw (c.in_ok-put.ensures.ok, c.in_ok-copy.ensures) (learns_one c.args.known.now c.args.id.now)
