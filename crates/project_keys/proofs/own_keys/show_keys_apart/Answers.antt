use Rattle.std.specs.Map.{keys_of}
use Rattle.project_keys.proofs.Apart.{differ_apart}
use Rattle.project_keys.proofs.own_keys.show_keys_apart.Goals as goal

pub returns : goal.returns
returns c = differ_apart (keys_of c.args.entries.now) c.len.ensures.distinct
