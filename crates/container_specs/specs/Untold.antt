-- What the description of a container says nothing of.
use Rattle.std.specs.Prelude.{◌≡◌, ℕ, not, List, [], ◌∷◌, codes, filter}
use Rattle.std.specs.List.{list_any}
use Rattle.std.specs.Str.{bytes_eq}
use Rattle.tree_base.specs.declared.Var.{Var}
use Rattle.attribute_types.specs.declared.attribute.Attribute.{Attribute}
use Rattle.typed_project.specs.declared.project.Project.{Project}
use Rattle.typed_project.specs.declared.service.Service.{Service}
use Rattle.container_specs.specs.Specs.{container_spec}

-- the attributes that say how a service is run among others, and not what its container is; its image and labels are given beside it
abbrev pub untold : List (List ℕ)
untold =
    codes "build"
    ∷ codes "container_name"
    ∷ codes "depends_on"
    ∷ codes "deploy"
    ∷ codes "image"
    ∷ codes "labels"
    ∷ codes "profiles"
    ∷ codes "pull_policy"
    ∷ codes "scale" ∷ []

-- attributes without these
abbrev pub told : List Attribute → List Attribute
told attributes = filter (λ attribute. not (list_any (bytes_eq attribute.name) untold)) attributes

-- services of one key whose other attributes are the same have the same description
abbrev pub AreDescribedAlike : Type 0
AreDescribedAlike =
    (project : Project) (service other : Service) (labels : List Var) (image : List ℕ)
    → service.key ≡ other.key → told service.attributes ≡ told other.attributes
    → container_spec project service labels image ≡ container_spec project other labels image
