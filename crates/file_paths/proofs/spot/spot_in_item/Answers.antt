use Rattle.std.specs.Prelude.{codes}
use Rattle.std.proofs.Common.{refl}
use Rattle.attribute_paths.proofs.Lines.{apart}
use Rattle.file_paths.specs.PathRules.{path_rules}
use Rattle.file_paths.specs.Spots.{include_rules, item_rules}
use Rattle.file_paths.proofs.spot.spot_in_item.Goals as goal

pub returns-in_default : goal.returns-in_default
unfolding path_rules include_rules item_rules
returns-in_default c =
    let k = c.args.key.now in
    let n = c.in_default in
    rw (apart (codes "path") k n.not-path, apart (codes "project_directory") k n.not-project_directory, apart (codes "env_file") k n.not-env_file) refl
