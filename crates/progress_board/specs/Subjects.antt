-- What requests and reports speak of.
use Rattle.std.specs.Prelude.{ℕ, List, Bool, true, false, ◌||◌, Option, Some, None}
use Rattle.engine_types.specs.declared.ContainerState.{ContainerState}
use Rattle.engine_types.specs.declared.Health.{Health}
use Rattle.engine_types.specs.declared.Report.{Report}
use Rattle.engine_types.specs.declared.Request.{Request}
use Rattle.progress_board.specs.declared.subject.Subject.{Subject}

-- what the outcome of a request tells something of (Docker Engine API v1.43): what was made gets an id, and what was looked at a report
abbrev pub subject_of : Request → Subject
subject_of (Request.Create name spec) = Subject.Made name
subject_of (Request.MakeNetwork spec) = Subject.Made spec.name
subject_of (Request.Inspect id) = Subject.LookedAt id
subject_of _ = Subject.Other

-- the id of the container or network that a request speaks of (Docker Engine API v1.43)
abbrev pub id_in : Request → Option (List ℕ)
id_in (Request.Inspect id) = Some id
id_in (Request.Logs id) = Some id
id_in (Request.Start id) = Some id
id_in (Request.Stop id seconds) = Some id
id_in (Request.Remove id) = Some id
id_in (Request.RemoveNetwork id) = Some id
id_in (Request.Connect network container aliases) = Some container
id_in _ = None

-- the same request with a name in place of that id
abbrev pub named : Request → Option (List ℕ) → Request
named (Request.Inspect id) (Some name) = Request.Inspect name
named (Request.Logs id) (Some name) = Request.Logs name
named (Request.Start id) (Some name) = Request.Start name
named (Request.Stop id seconds) (Some name) = Request.Stop name seconds
named (Request.Remove id) (Some name) = Request.Remove name
named (Request.RemoveNetwork id) (Some name) = Request.RemoveNetwork name
named (Request.Connect network container aliases) (Some name) = Request.Connect network name aliases
named request name = request

-- a state in which a container doesn't run any more
abbrev pub is_over : ContainerState → Bool
is_over ContainerState.Exited = true
is_over ContainerState.Dead = true
is_over ContainerState.Removing = true
is_over _ = false

-- what a health check says once it has passed or failed
abbrev pub is_told : Health → Bool
is_told Health.Healthy = true
is_told Health.Unhealthy = true
is_told _ = false

-- a report after which there is nothing to wait for, but for the exit of what runs on
abbrev pub is_settled : Report → Bool
is_settled report = is_over report.state || is_told report.health
