use Rattle.std.specs.Prelude.{codes}
use Rattle.std.proofs.Common.{refl}
use Rattle.merge_tables.specs.Attributes.{overlay_rules}
use Rattle.merge_tables.specs.Spots.{service_rules, services_rules}
use Rattle.attribute_paths.proofs.Lines.{apart}
use Rattle.merge_tables.proofs.spot.spot_in_service.Goals as goal

pub returns-in_default : goal.returns-in_default
unfolding overlay_rules service_rules services_rules
returns-in_default c =
    let k = c.args.key.now in
    let n = c.in_default in
    rw (apart (codes "command") k n.not-command, apart (codes "entrypoint") k n.not-entrypoint, apart (codes "healthcheck") k n.not-healthcheck, apart (codes "ports") k n.not-ports, apart (codes "volumes") k n.not-volumes, apart (codes "secrets") k n.not-secrets, apart (codes "configs") k n.not-configs) refl
