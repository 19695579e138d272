-- What holds of the values of bodies, and of the bytes of requests.
use Rattle.std.specs.Prelude.{◌≡◌, ◌<◌, ◌^◌, ℕ, Bool, true, not, ◌&&◌, List, [], ◌∷◌, length, All, Some, None}
use Rattle.std.specs.Str.{bytes_eq}
use Rattle.serde_json.specs.Data.{Data}
use Rattle.serde_json.specs.Find.{get}
use Rattle.engine_types.specs.declared.ContainerSpec.{ContainerSpec}
use Rattle.engine_types.specs.declared.NetworkSpec.{NetworkSpec}
use Rattle.engine_types.specs.declared.Request.{Request}
use Rattle.engine_types.specs.declared.VolumeSpec.{VolumeSpec}
use Rattle.httparse.specs.Grammar.{ReadsRequest}
use Rattle.http_request.specs.Heads.{head_of}
use Rattle.http_request.specs.Requests.{body_bytes}
use Rattle.engine_bodies.specs.Containers.{container_members, container_value, host_members, host_value}
use Rattle.engine_bodies.specs.Json.{Member, object_of}
use Rattle.engine_bodies.specs.Requests.{body_of, bytes_of}
use Rattle.engine_bodies.specs.Resources.{connect_members, connect_value, network_members, network_value, volume_members, volume_value}

-- a name is that of none of these rows
abbrev pub is_new : List ℕ → List Member → Bool
is_new name [] = true
is_new name (row ∷ rows) = not (bytes_eq name row.0) && is_new name rows

-- each row has a name of its own
abbrev pub names_differ : List Member → Bool
names_differ [] = true
names_differ (row ∷ rows) = is_new row.0 rows && names_differ rows

-- an object says what its table says: each row's value stands under its name, nothing where the row has none, and
-- nothing stands under another name
pub record SaysExactly (value : Data) (rows : List Member) : Type 0 where
  pub found : All (λ row. get row.0 value ≡ row.1) rows
  pub nothing_else : (name : List ℕ) → is_new name rows ≡ true → get name value ≡ None

-- so does the object of each table whose rows have names of their own
abbrev pub TablesSayExactly : Type 0
TablesSayExactly =
    (rows : List Member) → names_differ rows ≡ true → SaysExactly (object_of rows) rows

-- and so do the bodies of containers, with what they say of the host, of networks, volumes and connections
abbrev pub BodiesSayExactly : Type 0
BodiesSayExactly =
    ((spec : ContainerSpec) → SaysExactly (container_value spec) (container_members spec))
    × ((spec : ContainerSpec) (host : Data) → host_value spec ≡ Some host
    → SaysExactly host (host_members spec))
    × ((spec : NetworkSpec) → SaysExactly (network_value spec) (network_members spec))
    × ((spec : VolumeSpec) → SaysExactly (volume_value spec) (volume_members spec))
    × ((container : List ℕ) (aliases : List (List ℕ))
    → SaysExactly (connect_value container aliases) (connect_members container aliases))

-- the bytes of a request are one head of HTTP's grammar, with its method, target and fields, and then its body (RFC 9112,
-- section 2.1)
abbrev pub RequestsAreWhole : Type 0
RequestsAreWhole =
    (request : Request) → length (body_bytes (body_of request)) < 2 ^ 64
    → ReadsRequest (bytes_of request) (head_of request (body_of request)) (body_bytes (body_of request))
