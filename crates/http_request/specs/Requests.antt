-- What a request is on the wire: its method, path and query by the Docker Engine API v1.43, and its
-- bytes (RFC 9112, section 3).
use Rattle.std.specs.Prelude.{ℕ, List, [], ◌∷◌, ◌++◌, length, flat_map, codes, decimal, Option, Some, None}
use Rattle.json.specs.Print.{quoted}
use Rattle.tree_base.specs.declared.Var.{Var}
use Rattle.engine_types.specs.declared.Request.{Request}
use Rattle.http_request.specs.declared.method.Method.{Method}
use Rattle.http_request.specs.Escapes.{escaped, stays_in_path, stays_in_query}
use Rattle.http_request.specs.Images.{image_of, tag_of}

-- a method's name (RFC 9110, section 9.1)
abbrev pub method_name : Method → List ℕ
method_name Method.Get = codes "GET"
method_name Method.Post = codes "POST"
method_name Method.Delete = codes "DELETE"

-- the method of a request
abbrev pub method_of : Request → Method
method_of (Request.ListContainers project) = Method.Get
method_of (Request.Inspect id) = Method.Get
method_of (Request.Logs id) = Method.Get
method_of (Request.Create name spec) = Method.Post
method_of (Request.Start id) = Method.Post
method_of (Request.Stop id seconds) = Method.Post
method_of (Request.Remove id) = Method.Delete
method_of Request.ListNetworks = Method.Get
method_of (Request.MakeNetwork spec) = Method.Post
method_of (Request.Connect network container aliases) = Method.Post
method_of (Request.RemoveNetwork id) = Method.Delete
method_of Request.ListVolumes = Method.Get
method_of (Request.MakeVolume spec) = Method.Post
method_of (Request.RemoveVolume name) = Method.Delete
method_of (Request.Image name) = Method.Get
method_of (Request.Pull name) = Method.Post

-- the path of a request below the API's version, not yet escaped
abbrev pub path_of : Request → List ℕ
path_of (Request.ListContainers project) = codes "/containers/json"
path_of (Request.Inspect id) = codes "/containers/" ++ id ++ codes "/json"
path_of (Request.Logs id) = codes "/containers/" ++ id ++ codes "/logs"
path_of (Request.Create name spec) = codes "/containers/create"
path_of (Request.Start id) = codes "/containers/" ++ id ++ codes "/start"
path_of (Request.Stop id seconds) = codes "/containers/" ++ id ++ codes "/stop"
path_of (Request.Remove id) = codes "/containers/" ++ id
path_of Request.ListNetworks = codes "/networks"
path_of (Request.MakeNetwork spec) = codes "/networks/create"
path_of (Request.Connect network container aliases) =
    codes "/networks/" ++ network ++ codes "/connect"
path_of (Request.RemoveNetwork id) = codes "/networks/" ++ id
path_of Request.ListVolumes = codes "/volumes"
path_of (Request.MakeVolume spec) = codes "/volumes/create"
path_of (Request.RemoveVolume name) = codes "/volumes/" ++ name
path_of (Request.Image name) = codes "/images/" ++ name ++ codes "/json"
path_of (Request.Pull name) = codes "/images/create"

-- the filter of containers by a label, without those that were made to run one command, as a text of
-- JSON
unfoldable pub filter_text : List ℕ → List ℕ
filter_text label =
    codes "{\"label\":[" ++ quoted label ++ codes ",\"com.docker.compose.oneoff=False\"]}"

-- the label of a project's containers
abbrev pub project_filter : List ℕ → List ℕ
project_filter project = filter_text (codes "com.docker.compose.project=" ++ project)

-- a name with its value
abbrev pub pair : List ℕ → List ℕ → Var
pair name value = record { name = name; value = value }

-- a name with its value, where there is one
abbrev pub pairs_for : List ℕ → Option (List ℕ) → List Var
pairs_for name None = []
pairs_for name (Some value) = pair name value ∷ []

-- the query of a request, not yet escaped
abbrev pub query_of : Request → List Var
query_of (Request.ListContainers project) =
    pair (codes "all") (codes "true") ∷ pair (codes "filters") (project_filter project) ∷ []
query_of (Request.Logs id) =
    pair (codes "stdout") (codes "true") ∷ pair (codes "stderr") (codes "true") ∷ []
query_of (Request.Create name spec) =
    pair (codes "name") name ∷ pairs_for (codes "platform") spec.platform
query_of (Request.Stop id seconds) = pair (codes "t") (decimal seconds) ∷ []
query_of (Request.Pull name) =
    pair (codes "fromImage") (image_of name) ∷ pair (codes "tag") (tag_of name) ∷ []
query_of _ = []

-- a pair of a query, its value escaped
abbrev pub print_pair : Var → List ℕ
print_pair p = p.name ++ codes "=" ++ escaped stays_in_query p.value

-- pairs behind the first as they are sent
abbrev pub print_more : List Var → List ℕ
print_more pairs = flat_map (λ p. codes "&" ++ print_pair p) pairs

-- a query as it is sent, with a question mark before it; nothing where there is no pair
abbrev pub print_query : List Var → List ℕ
print_query [] = []
print_query (p ∷ more) = codes "?" ++ print_pair p ++ print_more more

-- the target of a request: version, path and query (RFC 9112, section 3.2.1)
unfoldable pub target_of : Request → List ℕ
target_of request =
    codes "/v1.43" ++ escaped stays_in_path (path_of request) ++ print_query (query_of request)

-- the bytes of a body, and none where there is none
abbrev pub body_bytes : Option (List ℕ) → List ℕ
body_bytes None = []
body_bytes (Some body) = body

-- the header line that tells the type of a body that is there
abbrev pub type_line : Option (List ℕ) → List ℕ
type_line None = []
type_line (Some body) = codes "Content-Type: application/json\r\n"

-- the header line that tells the length of what is posted (RFC 9110, section 8.6)
abbrev pub length_line : Method → Option (List ℕ) → List ℕ
length_line Method.Post body =
    codes "Content-Length: " ++ decimal (length (body_bytes body)) ++ codes "\r\n"
length_line _ body = []

-- the header lines of a request with this method and body
unfoldable pub header_lines : Method → Option (List ℕ) → List ℕ
header_lines method body =
    codes "Host: localhost\r\nConnection: close\r\n" ++ type_line body ++ length_line method body

-- the bytes of a request with this body: its request line, its header lines, an empty line, and the
-- body (RFC 9112, section 2.1)
abbrev pub request_with : Request → Option (List ℕ) → List ℕ
request_with request body =
    method_name (method_of request) ++ codes " " ++ target_of request ++ codes " HTTP/1.1\r\n"
    ++ header_lines (method_of request) body ++ codes "\r\n" ++ body_bytes body
