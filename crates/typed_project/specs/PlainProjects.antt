-- Projects of services by their images, which join no network.
use Rattle.std.specs.Prelude.{ℕ, List, [], ◌∷◌, codes, map}
use Rattle.attribute_types.specs.declared.attribute.Value.{Value}
use Rattle.tree_base.specs.ByteOrder.{IsAscending, is_before}
use Rattle.typed_project.specs.declared.project.Project.{Project}
use Rattle.typed_project.specs.declared.service.Service.{Service}

-- a service by its key and its image
pub record PlainService : Type 0 where
  pub key : List ℕ
  pub image : List ℕ

-- a project by its name and such services
pub record PlainProject : Type 0 where
  pub name : List ℕ
  pub services : List PlainService

-- the service that has this image and no network
abbrev pub service_of : PlainService → Service
service_of plain = record {
  key = plain.key;
  attributes =
      record { name = codes "image"; value = Value.Text plain.image }
      ∷ record { name = codes "network_mode"; value = Value.Text (codes "none") } ∷ [];
}

-- the project of such services
abbrev pub project_of : PlainProject → Project
project_of plain = record {
  name = plain.name;
  services = map service_of plain.services;
  networks = [];
  volumes = [];
  secrets = [];
  configs = [];
}

-- services in byte order of their keys, which differ
abbrev pub AreInOrder : List PlainService → Type 0
AreInOrder = IsAscending (λ service other. is_before service.key other.key)
