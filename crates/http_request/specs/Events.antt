-- The request for the events of a project's containers, `GET /events` of the Docker Engine API v1.43.
use Rattle.std.specs.Prelude.{ℕ, List, ◌++◌, codes, None}
use Rattle.json.specs.Print.{quoted}
use Rattle.http_request.specs.Escapes.{escaped, stays_in_query}
use Rattle.http_request.specs.Requests.{header_lines}
use Rattle.http_request.specs.declared.method.Method.{Method}

-- the filter of events of containers by a label, as a text of JSON
unfoldable pub events_filter : List ℕ → List ℕ
events_filter label = codes "{\"label\":[" ++ quoted label ++ codes "],\"type\":[\"container\"]}"

-- the label of a project's containers
abbrev pub project_events : List ℕ → List ℕ
project_events project = events_filter (codes "com.docker.compose.project=" ++ project)

-- the target: version, path and query (RFC 9112, section 3.2.1)
abbrev pub events_target : List ℕ → List ℕ
events_target project =
    codes "/v1.43/events?filters=" ++ escaped stays_in_query (project_events project)

-- the bytes of the request for the events of a project's containers, which has no body (RFC 9112,
-- section 2.1)
abbrev pub events_request : List ℕ → List ℕ
events_request project =
    codes "GET " ++ events_target project ++ codes " HTTP/1.1\r\n"
    ++ header_lines Method.Get None ++ codes "\r\n"
