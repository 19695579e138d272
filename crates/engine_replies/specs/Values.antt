-- What the replies of the Docker Engine API v1.43 say as JSON, member by member.
use Rattle.std.specs.Prelude.{ℕ, List, [], ◌∷◌, Option, Some, None, codes}
use Rattle.serde_json.specs.Data.{Data, string}
use Rattle.engine_types.specs.declared.ContainerState.{ContainerState}
use Rattle.engine_types.specs.declared.Health.{Health}
use Rattle.engine_types.specs.declared.Listed.{Listed}
use Rattle.engine_types.specs.declared.NetRow.{NetRow}
use Rattle.engine_types.specs.declared.Reply.{Reply}
use Rattle.engine_types.specs.declared.Report.{Report}
use Rattle.engine_bodies.specs.Json.{Member, array_of, integer, object_of, pairs, set_of, texts}

-- the word of a state
abbrev pub state_word : ContainerState → List ℕ
state_word ContainerState.Created = codes "created"
state_word ContainerState.Running = codes "running"
state_word ContainerState.Paused = codes "paused"
state_word ContainerState.Restarting = codes "restarting"
state_word ContainerState.Removing = codes "removing"
state_word ContainerState.Exited = codes "exited"
state_word ContainerState.Dead = codes "dead"

-- the word of a health
abbrev pub health_word : Health → List ℕ
health_word Health.Absent = codes "none"
health_word Health.Starting = codes "starting"
health_word Health.Healthy = codes "healthy"
health_word Health.Unhealthy = codes "unhealthy"

-- an object of one member
abbrev pub object_with : List ℕ → Data → Data
object_with name value = object_of ((name, Some value) ∷ [])

-- a row of `GET /containers/json`, member by member; its name stands behind a slash
abbrev pub listed_members : Listed → List Member
listed_members row =
    (codes "Id", Some (string row.id))
    ∷ (codes "ImageID", Some (string row.image_id))
    ∷ (codes "Labels", Some (pairs row.labels))
    ∷ (codes "Names", Some (texts ((47 ∷ row.name) ∷ [])))
    ∷ (codes "NetworkSettings", Some (object_with (codes "Networks") (set_of row.networks)))
    ∷ (codes "State", Some (string (state_word row.state))) ∷ []

-- the row
abbrev pub listed_value : Listed → Data
listed_value row = object_of (listed_members row)

-- the `State` of `GET /containers/{id}/json`, member by member
abbrev pub report_members : Report → List Member
report_members report =
    (codes "ExitCode", Some (integer report.exit_code))
    ∷ (codes "Health", Some (object_with (codes "Status") (string (health_word report.health))))
    ∷ (codes "Status", Some (string (state_word report.state))) ∷ []

-- the state
abbrev pub report_value : Report → Data
report_value report = object_of (report_members report)

-- a row of `GET /networks`, member by member
abbrev pub network_members : NetRow → List Member
network_members row =
    (codes "Id", Some (string row.id))
    ∷ (codes "Labels", Some (pairs row.labels))
    ∷ (codes "Name", Some (string row.name)) ∷ []

-- the row
abbrev pub network_value : NetRow → Data
network_value row = object_of (network_members row)

-- a row of `GET /volumes`
abbrev pub volume_value : List ℕ → Data
volume_value name = object_with (codes "Name") (string name)

-- what a reply says as JSON; None for one without a body, and for what a container has written
abbrev pub value_of : Reply → Option Data
value_of (Reply.Containers rows) = Some (array_of listed_value rows)
value_of (Reply.State report) = Some (object_with (codes "State") (report_value report))
value_of (Reply.Made id) = Some (object_with (codes "Id") (string id))
value_of (Reply.Networks rows) = Some (array_of network_value rows)
value_of (Reply.Volumes names) = Some (object_with (codes "Volumes") (array_of volume_value names))
value_of (Reply.ImageId id) = Some (object_with (codes "Id") (string id))
value_of (Reply.PullFailed message) = Some (object_with (codes "error") (string message))
value_of (Reply.Refused status message) = Some (object_with (codes "message") (string message))
value_of reply = None
