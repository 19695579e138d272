use Rattle.std.specs.Prelude.{codes}
use Rattle.std.proofs.Common.{refl}
use Rattle.attribute_paths.proofs.Lines.{apart}
use Rattle.file_paths.specs.PathRules.{path_rules}
use Rattle.file_paths.specs.Spots.{service_rules, services_rules}
use Rattle.file_paths.proofs.spot.spot_in_service.Goals as goal

pub returns-in_default : goal.returns-in_default
unfolding path_rules services_rules service_rules
returns-in_default c =
    let k = c.args.key.now in
    let n = c.in_default in
    rw (apart (codes "volumes") k n.not-volumes, apart (codes "build") k n.not-build, apart (codes "env_file") k n.not-env_file, apart (codes "extends") k n.not-extends) refl
