-- Creates that the Engine refuses since their name is used, and what shows that the one who uses it is there.
use Rattle.std.specs.Prelude.{ℕ, Bool, true, false, ◌&&◌, ◌==◌, List, Option, Some, None}
use Rattle.std.specs.List.{list_any}
use Rattle.std.specs.Option.{option_map_or}
use Rattle.std.specs.Str.{bytes_eq}
use Rattle.engine_types.specs.Labels as the
use Rattle.engine_types.specs.Labels.{label}
use Rattle.engine_types.specs.declared.Outcome.{Outcome}
use Rattle.engine_types.specs.declared.Reply.{Reply}
use Rattle.engine_types.specs.declared.Request.{Request}
use Rattle.name_conflicts.specs.declared.look_end.LookEnd.{LookEnd}
use Rattle.run_model.specs.EngineRules.{has_label, is_of_project}
use Rattle.tree_base.specs.declared.Var.{Var}

-- a request that makes a container, a network or a volume
abbrev pub is_create : Request → Bool
is_create (Request.Create name spec) = true
is_create (Request.MakeNetwork spec) = true
is_create (Request.MakeVolume spec) = true
is_create _ = false

-- the Engine refused with 409, Conflict (Engine API, "ContainerCreate")
abbrev pub is_conflict : Outcome → Bool
is_conflict (Outcome.Answered (Reply.Refused status message)) = status == 409
is_conflict _ = false

-- a request that makes a container of this name
abbrev pub makes_container : List ℕ → Request → Bool
makes_container name (Request.Create other spec) = bytes_eq name other
makes_container name _ = false

-- a request that makes a network of this name
abbrev pub makes_network : List ℕ → Request → Bool
makes_network name (Request.MakeNetwork spec) = bytes_eq name spec.name
makes_network name _ = false

-- a request that makes a volume of this name
abbrev pub makes_volume : List ℕ → Request → Bool
makes_volume name (Request.MakeVolume spec) = bytes_eq name spec.name
makes_volume name _ = false

-- both requests make one thing: a container, a network or a volume of one name
abbrev pub is_same_create : Request → Request → Bool
is_same_create (Request.Create name spec) other = makes_container name other
is_same_create (Request.MakeNetwork spec) other = makes_network spec.name other
is_same_create (Request.MakeVolume spec) other = makes_volume spec.name other
is_same_create _ other = false

-- what the Engine is asked, to see whether what a create would make is there: for the project's containers, for its networks or for
-- its volumes
abbrev pub listing_for : List ℕ → Request → Request
listing_for project (Request.MakeNetwork spec) = Request.ListNetworks
listing_for project (Request.MakeVolume spec) = Request.ListVolumes
listing_for project _ = Request.ListContainers project

-- labels have under this name what others have there
abbrev pub has_same : List ℕ → List Var → List Var → Bool
has_same name others labels =
    option_map_or (λ value. has_label labels name value) (label others name) false

-- labels of a container of the project that has the service and the number that others say, as those of a slot's container do
abbrev pub is_twin : List ℕ → List Var → List Var → Bool
is_twin project others labels =
    is_of_project project labels && has_same the.service_label others labels
    && has_same the.number_label others labels

-- whether a listing of containers shows such a one; None where a reply lists none
abbrev pub twin_listed : List ℕ → List Var → Reply → Option Bool
twin_listed project others (Reply.Containers rows) =
    Some (list_any (λ row. is_twin project others row.labels) rows)
twin_listed project others _ = None

-- whether a listing of networks shows one of this name; None where a reply lists none
abbrev pub network_listed : List ℕ → Reply → Option Bool
network_listed name (Reply.Networks rows) = Some (list_any (λ row. bytes_eq row.name name) rows)
network_listed name _ = None

-- whether a listing of volumes shows one of this name; None where a reply lists none
abbrev pub volume_listed : List ℕ → Reply → Option Bool
volume_listed name (Reply.Volumes names) = Some (list_any (λ own. bytes_eq own name) names)
volume_listed name _ = None

-- whether a listing shows what a create would make: a container of the project with its service and its number, a network or a
-- volume of its name; None where a reply isn't that listing
abbrev pub shown : List ℕ → Request → Reply → Option Bool
shown project (Request.Create name spec) reply = twin_listed project spec.labels reply
shown project (Request.MakeNetwork spec) reply = network_listed spec.name reply
shown project (Request.MakeVolume spec) reply = volume_listed spec.name reply
shown project _ reply = None

-- how looking ends with what a listing shows, if it is one; None where it goes on
abbrev pub end_by : Option Bool → Option LookEnd
end_by (Some true) = Some LookEnd.Came
end_by (Some false) = None
end_by None = Some LookEnd.Unlisted

-- how looking for what a create would make ends with an outcome; None where it goes on
abbrev pub look_end : List ℕ → Request → Outcome → Option LookEnd
look_end project request (Outcome.Answered reply) = end_by (shown project request reply)
look_end project request (Outcome.Lost cause) = Some LookEnd.Unlisted
look_end project request Outcome.NotSent = Some LookEnd.Unlisted
look_end project request Outcome.Memory = Some LookEnd.Memory
