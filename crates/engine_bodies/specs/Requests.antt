-- The body of a request to the Docker Engine API v1.43, and the request's bytes with it.
use Rattle.std.specs.Prelude.{ℕ, List, Option, Some, None}
use Rattle.std.specs.Option.{option_map}
use Rattle.serde_json.specs.Data.{Data}
use Rattle.serde_json.specs.Written.{compact_text}
use Rattle.engine_types.specs.declared.Request.{Request}
use Rattle.http_request.specs.Requests.{request_with}
use Rattle.engine_bodies.specs.Containers.{container_value}
use Rattle.engine_bodies.specs.Resources.{connect_value, network_value, volume_value}

-- what the body says as JSON; None for a request without a body
abbrev pub value_of : Request → Option Data
value_of (Request.Create name spec) = Some (container_value spec)
value_of (Request.MakeNetwork spec) = Some (network_value spec)
value_of (Request.Connect network container aliases) = Some (connect_value container aliases)
value_of (Request.MakeVolume spec) = Some (volume_value spec)
value_of request = None

-- the body: that value without spaces
abbrev pub body_of : Request → Option (List ℕ)
body_of request = option_map compact_text (value_of request)

-- the request's bytes with its body (RFC 9112, section 2.1)
abbrev pub bytes_of : Request → List ℕ
bytes_of request = request_with request (body_of request)
