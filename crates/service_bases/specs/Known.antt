-- Services over all that they extend in their own file, each of which is made once.
use Rattle.std.specs.Prelude.{◌≡◌, ◌⊎◌, ℕ, ◌+◌, ◌≤◌, List, [], ◌∷◌, ◌++◌, length, reverse, Some, None, Ok}
use Rattle.file_paths.specs.Paths.{Variables}
use Rattle.file_paths.specs.Resolving.{Entries}
use Rattle.loaded_files.specs.Reads.{give}
use Rattle.service_bases.specs.Bases.{base_named, extends_of, service_in}
use Rattle.service_bases.specs.Chains.{laid_up, layer_for, layer_over}
use Rattle.service_bases.specs.Extending.{extended}
use Rattle.service_bases.specs.declared.chain.Layer.{Layer}
use Rattle.service_bases.specs.declared.known.Met.{Met}
use Rattle.service_bases.specs.declared.known.Whole.{Whole}
use Rattle.service_bases.specs.declared.source.Source.{Source}
use Rattle.tree_base.specs.Entries.{value_at}

-- the services of a chain that stays in one file, from the one of this name on: the last extends nothing
abbrev pub Chains : Variables → Source → List ℕ → List Layer → Type 0
Chains env source name [] = ⊥
Chains env source name (layer ∷ more) =
    (service : Entries) × (layer ≡ layer_for source.file name service)
    × (service_in env source name ≡ Ok service)
    × (((extends_of service ≡ None) × (more ≡ []))
    ⊎ ((base : List ℕ) × (extends_of service ≡ Some (base_named None base)) × Chains env source base more))

-- from the service of this name on these were met, the last first, and then comes the other
abbrev pub Leads : Variables → Source → List ℕ → List Layer → List ℕ → Type 0
Leads env source name [] next = name ≡ next
Leads env source name (layer ∷ met) next =
    (own : List ℕ) × (service : Entries) × Leads env source name met own
    × (layer ≡ layer_for source.file own service)
    × (service_in env source own ≡ Ok service) × (extends_of service ≡ Some (base_named None next))

-- what a service is over its chain, which stays in its file, and how long that chain is
pub record IsWhole (env : Variables) (source : Source) (name : List ℕ) (whole : Whole) : Type 0 where
  pub chain : List Layer
  pub chains : Chains env source name chain
  pub laid : laid_up (reverse chain) ≡ Ok whole.service
  pub length_is : length chain ≡ whole.length
  pub within : whole.length ≤ length source.services

-- services by their names, each over all that it extends
abbrev pub AreWhole : Variables → Source → List (List ℕ × Whole) → Type 0
AreWhole env source known =
    (name : List ℕ) (whole : Whole) → value_at known name ≡ Some whole → IsWhole env source name whole

-- a service over all that it extends, for which no file is read
abbrev pub IsExtended : Variables → Source → List ℕ → Entries → Type 0
IsExtended env source name service = (left : ℕ) → extended env source name left ≡ give (service, left)

-- what is met at a name behind layers: a service that is known, one that goes on at a base in its file, or something else
abbrev pub Meets : Variables → Source → List ℕ → List Layer → Met → Type 0
Meets env source name layers (Met.Known above) = above ≡ layers
Meets env source name layers (Met.Further base above) =
    (service : Entries) × (above ≡ layers ++ layer_for source.file name service ∷ [])
    × (service_in env source name ≡ Ok service) × (extends_of service ≡ Some (base_named None base))
Meets env source name layers Met.Away = Unit {0}

-- one layer more over what its base is
pub record IsOver (source : Source) (below : Whole) (layer : Layer) (whole : Whole) : Type 0 where
  pub laid : layer_over below.service layer ≡ Ok whole.service
  pub length_is : whole.length ≡ below.length + 1
  pub within : whole.length ≤ length source.services
