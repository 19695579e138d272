-- A request as a head of HTTP's grammar (RFC 9112, sections 2.1, 3 and 5).
use Rattle.std.specs.Prelude.{ℕ, List, [], ◌∷◌, ◌++◌, length, codes, decimal, Option, Some, None}
use Rattle.httparse.specs.Grammar.{Field, RequestHead, crlf}
use Rattle.engine_types.specs.declared.Request.{Request}
use Rattle.http_request.specs.declared.method.Method.{Method}
use Rattle.http_request.specs.Requests.{body_bytes, method_name, method_of, target_of}

-- a header field, with a space before its value
abbrev pub field : List ℕ → List ℕ → Field
field name value = record { name = name; raw = 32 ∷ value; end = crlf }

-- the type of a body that is there
abbrev pub type_fields : Option (List ℕ) → List Field
type_fields None = []
type_fields (Some body) = field (codes "Content-Type") (codes "application/json") ∷ []

-- the length of what is posted (RFC 9110, section 8.6)
abbrev pub length_fields : Method → Option (List ℕ) → List Field
length_fields Method.Post body =
    field (codes "Content-Length") (decimal (length (body_bytes body))) ∷ []
length_fields _ body = []

-- the header fields of a request with this method and body
abbrev pub fields_of : Method → Option (List ℕ) → List Field
fields_of method body =
    field (codes "Host") (codes "localhost") ∷ field (codes "Connection") (codes "close")
    ∷ (type_fields body ++ length_fields method body)

-- the head of a request with this body: its method, its target, HTTP/1.1, and its fields
abbrev pub head_of : Request → Option (List ℕ) → RequestHead
head_of request body = record {
  blank = [];
  method = method_name (method_of request);
  target = target_of request;
  minor = 1;
  line_end = crlf;
  fields = fields_of (method_of request) body;
  last = crlf;
}
