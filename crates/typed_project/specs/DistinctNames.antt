-- Names that differ: those of attributes, and the keys in their values (a mapping has no key twice, YAML 1.2, chapter 3.2.1.1).
use Rattle.std.specs.Prelude.{List, map}
use Rattle.std.specs.List.{All, IsDistinct}
use Rattle.std.specs.Str.{bytes_eq}
use Rattle.attribute_types.specs.declared.attribute.Attribute.{Attribute}
use Rattle.attribute_types.specs.declared.attribute.Value.{Value}
use Rattle.typed_project.specs.Projects.{IsOrdered}
use Rattle.typed_project.specs.declared.project.Project.{Project}

-- the limits, networks or dependencies of a value have different keys
abbrev pub HasDistinctParts : Value → Type 0
HasDistinctParts (Value.Ulimits limits) = IsDistinct bytes_eq (map (λ limit. limit.key) limits)
HasDistinctParts (Value.Networks networks) = IsDistinct bytes_eq (map (λ joined. joined.key) networks)
HasDistinctParts (Value.Dependencies needs) = IsDistinct bytes_eq (map (λ need. need.key) needs)
HasDistinctParts value = Unit {0}

-- attributes have different names, and the parts of each of them different keys
pub record HaveDistinctNames (attributes : List Attribute) : Type 0 where
  pub names : IsDistinct bytes_eq (map (λ attribute. attribute.name) attributes)
  pub parts : All (λ attribute. HasDistinctParts attribute.value) attributes

-- the attributes of each service, network and volume have different names
pub record HasDistinctNames (project : Project) : Type 0 where
  pub services : All (λ service. HaveDistinctNames service.attributes) project.services
  pub networks : All (λ network. HaveDistinctNames network.attributes) project.networks
  pub volumes : All (λ volume. HaveDistinctNames volume.attributes) project.volumes

-- what a project declares is in order, and its names differ
pub record IsKeyed (project : Project) : Type 0 where
  pub order : IsOrdered project
  pub names : HasDistinctNames project
