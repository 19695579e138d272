use Rattle.std.proofs.Common.{rules}
use Rattle.declared_slots.proofs.Looking.{no_value}
use Rattle.declared_slots.proofs.refusing.is_unknown.Goals as goal

pub returns : goal.returns
returns c = search (rules, no_value c.args.ranges.now c.args.scale.now.service)
