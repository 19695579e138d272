use Rattle.std.proofs.Common.{◌≡◌, map, take}
use Rattle.std.specs.Prelude.{filter}
use Rattle.active_services.specs.Profiles.{is_enabled, service_kept}
use Rattle.tree_base.specs.declared.Tree.{out-Tree}
use Rattle.active_services.proofs.kept.services_kept.Given as goal

-- those of the services that were gone through
abbrev pub invariant-loop-at : goal.invariant-loop-at
invariant-loop-at l =
    l.kept ≡ map (λ service. (service.0, service_kept (is_enabled l.profiles) l.services service.1 (out-Tree service.1))) (filter (λ service. is_enabled l.profiles service.1) (take l.at l.services))
