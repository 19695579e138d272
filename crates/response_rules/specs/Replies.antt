-- The reply that a response's status and body are, for each request of the Docker Engine API v1.43.
use Rattle.std.specs.Prelude.{ℕ, Bool, not, List, [], ◌∷◌, Option, Some, None, option_map, unwrap_or, map, filter, filter_map, codes, if◌then◌else◌, ◌==◌, ◌||◌}
use Rattle.std.specs.List.{list_all}
use Rattle.serde_json.specs.Data.{Data, null}
use Rattle.serde_json.specs.Find.{get, as_str, as_number, as_i64, as_object}
use Rattle.engine_types.specs.declared.ContainerState.{ContainerState}
use Rattle.engine_types.specs.declared.Health.{Health}
use Rattle.engine_types.specs.declared.Report.{Report}
use Rattle.engine_types.specs.declared.Listed.{Listed}
use Rattle.engine_types.specs.declared.NetRow.{NetRow}
use Rattle.engine_types.specs.declared.Request.{Request}
use Rattle.engine_types.specs.declared.Reply.{Reply}
use Rattle.response_rules.specs.Lines.{lines}
use Rattle.response_rules.specs.Json.{given, json_of, of_each, entries, rows, text_at, pairs_of, meaning}

-- the state that a word of the API names
abbrev pub state_of : List ℕ → Option ContainerState
state_of = meaning ((codes "created", ContainerState.Created)
    ∷ (codes "running", ContainerState.Running)
    ∷ (codes "paused", ContainerState.Paused) ∷ (codes "restarting", ContainerState.Restarting)
    ∷ (codes "removing", ContainerState.Removing) ∷ (codes "exited", ContainerState.Exited)
    ∷ (codes "dead", ContainerState.Dead) ∷ [])

-- the health that a word of the API names
abbrev pub health_named : List ℕ → Option Health
health_named = meaning ((codes "none", Health.Absent) ∷ (codes "starting", Health.Starting)
    ∷ (codes "healthy", Health.Healthy) ∷ (codes "unhealthy", Health.Unhealthy) ∷ [])

-- a name without its leading slash
abbrev pub without_slash : List ℕ → List ℕ
without_slash [] = []
without_slash (b ∷ name) = if b == 47 then name else b ∷ name

-- the first of a container's names
abbrev pub first_name : List Data → Option (List ℕ)
first_name [] = None
first_name (d ∷ more) = option_map without_slash (as_str d)

-- the names of a container's networks: the keys of NetworkSettings.Networks
abbrev pub network_names : Data → Option (List (List ℕ))
network_names d =
    given (get (codes "NetworkSettings") d) (λ settings.
    given (get (codes "Networks") settings)
    (λ networks.
    option_map (λ members. map (λ entry. entry.0) (entries members)) (as_object networks)))

-- a row of `GET /containers/json`: Id, Names, ImageID, Labels, State and NetworkSettings.Networks
abbrev pub container_of : Data → Option Listed
container_of d =
    given (text_at (codes "Id") d) (λ id.
    given (given (get (codes "Names") d) (rows Some)) (λ names.
    given (first_name names) (λ name.
    given (text_at (codes "ImageID") d) (λ image.
    given (given (get (codes "Labels") d) pairs_of) (λ labels.
    given (given (text_at (codes "State") d) state_of) (λ state.
    option_map (λ networks. record {
      id = id;
      name = name;
      image_id = image;
      labels = labels;
      state = state;
      networks = networks;
    }) (network_names d)))))))

-- the health of a state: Absent where Health isn't there or is null, else by the word at
-- Health.Status
abbrev pub health_by : Option Data → Option Health
health_by None = Some Health.Absent
health_by (Some null) = Some Health.Absent
health_by (Some d) = given (text_at (codes "Status") d) health_named

-- the State of `GET /containers/{id}/json`: Status, ExitCode and Health.Status
abbrev pub report_in : Data → Option Report
report_in d =
    given (given (text_at (codes "Status") d) state_of) (λ state.
    given (given (given (get (codes "ExitCode") d) as_number) as_i64) (λ code.
    option_map (λ health. record { state = state; exit_code = code; health = health })
    (health_by (get (codes "Health") d))))

-- a row of `GET /networks`: Id, Name and Labels
abbrev pub network_of : Data → Option NetRow
network_of d =
    given (text_at (codes "Id") d) (λ id.
    given (text_at (codes "Name") d) (λ name.
    option_map (λ labels. record { id = id; name = name; labels = labels })
    (given (get (codes "Labels") d) pairs_of)))

-- the Volumes of `GET /volumes`: the Name of each, and none of null
abbrev pub volume_names : Data → Option (List (List ℕ))
volume_names null = Some []
volume_names d = rows (text_at (codes "Name")) d

-- a line of spaces, tabs and CR alone
abbrev pub is_blank : List ℕ → Bool
is_blank line = list_all (λ b. b == 32 || (b == 9 || b == 13)) line

-- the object that a line is
abbrev pub object_on : List ℕ → Option Data
object_on line = given (json_of line) (λ d. option_map (λ members. d) (as_object d))

-- a pull whose stream has these errors: it failed with the first
abbrev pub pulled : List (List ℕ) → Reply
pulled [] = Reply.Pulled
pulled (message ∷ more) = Reply.PullFailed message

-- the stream of `POST /images/create`: lines, each blank or an object, with the first text at
-- `error`
abbrev pub pull_in : List ℕ → Option Reply
pull_in body =
    option_map (λ objects. pulled (filter_map (text_at (codes "error")) objects))
    (of_each object_on (filter (λ line. not (is_blank line)) (lines body)))

-- the message of a refusal: the text at `message` of a body of JSON, else empty
abbrev pub message_in : List ℕ → List ℕ
message_in body = unwrap_or (given (json_of body) (text_at (codes "message"))) []

-- a refusal
abbrev pub refused : ℕ → List ℕ → Option Reply
refused status body = Some (Reply.Refused status (message_in body))

-- what the one good status gives, and else a refusal
abbrev pub good_at : ℕ → Option Reply → ℕ → List ℕ → Option Reply
good_at good reply status body = if status == good then reply else refused status body

-- Done at 204 and Already at 304, as of a start and a stop
abbrev pub done_or_already : ℕ → List ℕ → Option Reply
done_or_already status body =
    if status == 304 then Some Reply.Already else good_at 204 (Some Reply.Done) status body

-- the reply of a request, where its body is of the form that the API gives it
abbrev pub reply_of : Request → ℕ → List ℕ → Option Reply
reply_of (Request.ListContainers project) status body =
    good_at 200 (option_map Reply.Containers (given (json_of body) (rows container_of))) status body
reply_of (Request.Inspect id) status body =
    good_at 200 (option_map Reply.State
    (given (given (json_of body) (get (codes "State"))) report_in))
    status body
reply_of (Request.Logs id) status body = good_at 200 (Some (Reply.Bytes body)) status body
reply_of (Request.Create name spec) status body =
    good_at 201 (option_map Reply.Made (given (json_of body) (text_at (codes "Id")))) status body
reply_of (Request.Start id) status body = done_or_already status body
reply_of (Request.Stop id seconds) status body = done_or_already status body
reply_of (Request.Remove id) status body = good_at 204 (Some Reply.Done) status body
reply_of Request.ListNetworks status body =
    good_at 200 (option_map Reply.Networks (given (json_of body) (rows network_of))) status body
reply_of (Request.MakeNetwork spec) status body =
    good_at 201 (option_map Reply.Made (given (json_of body) (text_at (codes "Id")))) status body
reply_of (Request.Connect network container aliases) status body =
    good_at 200 (Some Reply.Done) status body
reply_of (Request.RemoveNetwork id) status body = good_at 204 (Some Reply.Done) status body
reply_of Request.ListVolumes status body =
    good_at 200
    (option_map Reply.Volumes (given (given (json_of body) (get (codes "Volumes"))) volume_names))
    status body
reply_of (Request.MakeVolume spec) status body = good_at 201 (Some Reply.Done) status body
reply_of (Request.RemoveVolume name) status body = good_at 204 (Some Reply.Done) status body
reply_of (Request.Image name) status body =
    good_at 200 (option_map Reply.ImageId (given (json_of body) (text_at (codes "Id")))) status body
reply_of (Request.Pull name) status body = good_at 200 (pull_in body) status body
