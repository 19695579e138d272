-- How many containers services have, and how many of them are replaced at a time (Compose Specification: scale, deploy).
use Rattle.std.specs.Prelude.{ℕ, zero, suc, ◌+◌, ◌^◌, ◌-◌, List, [], ◌∷◌, Option, Some, None, codes, find, min, option_map, unwrap_or}
use Rattle.std.specs.Option.{option_and_then, option_or}
use Rattle.std.specs.Str.{bytes_eq}
use Rattle.tree_base.specs.Entries.{value_at}
use Rattle.tree_base.specs.declared.Tree.{Tree, out-Tree}
use Rattle.tree_base.specs.declared.Tree.TheOpen.{Tree-F}
use Rattle.attribute_scalars.specs.Scalars.{num_of}
use Rattle.attribute_scalars.specs.Walks.{Entries}
use Rattle.attribute_types.specs.Lookups.{kept_at, number_at}
use Rattle.attribute_values.specs.Forms.{count_of, entries_of, text_under}
use Rattle.compose_words.specs.declared.options.Scale.{Scale}
use Rattle.typed_project.specs.declared.service.Service.{Service}
use Rattle.declared_slots.specs.declared.counts.Range.{Range}

-- the text under a key of a mapping
abbrev pub text_within : List ℕ → Tree → Option (List ℕ)
text_within key tree = text_under (entries_of (out-Tree tree)) key

-- what stands in `deploy` of a service
abbrev pub deploy_of : Service → Option Tree
deploy_of service = kept_at service.attributes (codes "deploy")

-- `replicas` of `deploy` (Compose Deploy Specification)
abbrev pub replicas_of : Service → Option ℕ
replicas_of service =
    option_and_then (λ deploy. option_and_then count_of (text_within (codes "replicas") deploy)) (deploy_of service)

-- the number that `--scale` gives a service
abbrev pub number_given : List Scale → Service → Option ℕ
number_given scales service =
    option_map (λ scale. scale.number) (find (λ scale. bytes_eq scale.service service.key) scales)

-- how many containers a service has: what the words say, else `scale`, else `replicas`, else one
abbrev pub scale_of : List Scale → Service → ℕ
scale_of scales service =
    unwrap_or
    (option_or (number_given scales service)
    (option_or (number_at service.attributes (codes "scale")) (replicas_of service))) 1

-- the slots of services by their keys, where so many slots stand before them: each service's stand behind those of the services before it
abbrev pub ranges_from : List Scale → ℕ → List Service → List (List ℕ × Range)
ranges_from scales first [] = []
ranges_from scales first (service ∷ services) =
    (service.key, record { first = first; count = scale_of scales service })
    ∷ ranges_from scales (first + scale_of scales service) services

-- the slots of each service
abbrev pub ranges_of : List Scale → List Service → List (List ℕ × Range)
ranges_of scales services = ranges_from scales 0 services

-- a mapping, and not null
abbrev pub as_mapping : Tree-F Tree → Option Entries
as_mapping (Tree-F.Map entries) = Some entries
as_mapping tree = None

-- `update_config` of `deploy`
abbrev pub updates_of : Service → Option Entries
updates_of service =
    option_and_then (λ deploy. option_and_then (λ tree. as_mapping (out-Tree tree))
    (value_at (entries_of (out-Tree deploy)) (codes "update_config"))) (deploy_of service)

-- so many at a time, where zero is no bound; a number of more than 32 bits is the greatest of these
abbrev pub bound_of : ℕ → Option ℕ
bound_of zero = None
bound_of (suc n) = Some (min (suc n) (2 ^ 32 - 1))

-- how many containers of a service a rolling update replaces at a time: `parallelism` of `update_config`, else one
abbrev pub roll_of : Service → Option ℕ
roll_of service =
    option_and_then (λ updates. bound_of (unwrap_or (option_and_then num_of (text_under updates (codes "parallelism"))) 1))
    (updates_of service)
