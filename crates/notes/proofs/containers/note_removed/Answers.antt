use Rattle.std.proofs.Common.{subst}
use Rattle.std.specs.Option.{option_to_list}
use Rattle.notes.specs.Containers.{Learns}
use Rattle.notes.proofs.LeftSteps.{learns_none}
use Rattle.notes.proofs.containers.note_removed.Goals as goal

pub returns-in-None : goal.returns-in-None
returns-in-None c = subst (λ id. Learns c.args.known.now c.args.known.now (option_to_list id)) c.in-None.ensures (learns_none c.args.known.now)
