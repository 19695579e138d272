-- Projects, and the order of what they declare.
use Rattle.std.specs.Prelude.{List}
use Rattle.typed_project.specs.declared.project.Project.{Project}
use Rattle.typed_project.specs.declared.service.Service.{Service}
use Rattle.tree_base.specs.ByteOrder.{IsAscending, is_before}

-- services in byte order of their keys, which differ (the Compose Specification, services)
abbrev pub IsInOrder : List Service → Type 0
IsInOrder = IsAscending (λ service other. is_before service.key other.key)

-- a project with each of its lists in byte order of the keys, which differ (the Compose Specification, top-level elements)
pub record IsOrdered (project : Project) : Type 0 where
  pub services : IsInOrder project.services
  pub networks : IsAscending (λ network other. is_before network.key other.key) project.networks
  pub volumes : IsAscending (λ volume other. is_before volume.key other.key) project.volumes
  pub secrets : IsAscending (λ secret other. is_before secret.key other.key) project.secrets
  pub configs : IsAscending (λ config other. is_before config.key other.key) project.configs
