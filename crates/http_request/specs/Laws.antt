-- What holds of all bytes of requests.
use Rattle.std.specs.Prelude.{ℕ, ◌<◌, ◌^◌, List, length, Option}
use Rattle.httparse.specs.Grammar.{ReadsRequest}
use Rattle.engine_types.specs.declared.Request.{Request}
use Rattle.http_request.specs.Heads.{head_of}
use Rattle.http_request.specs.Requests.{body_bytes, request_with}

-- the bytes of a request are one head of HTTP's grammar, with its method, target and fields, and
-- then its body (RFC 9112, section 2.1)
abbrev pub BytesAreOneRequest : Type 0
BytesAreOneRequest =
    (request : Request) (body : Option (List ℕ)) → length (body_bytes body) < 2 ^ 64
    → ReadsRequest (request_with request body) (head_of request body) (body_bytes body)
