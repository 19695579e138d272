-- The bytes of a request are one request of HTTP's grammar.
use Rattle.std.proofs.Common.{◌≡◌, ℕ, ◌<◌, ◌^◌, List, [], ◌∷◌, ◌++◌, length, refl, sym, ap, ◌∙◌, arith, append_assoc}
use Rattle.std.proofs.lemmas.List.{append-nil}
use Rattle.std.proofs.lemmas.List.Elements.{All-append, All-cons, All-nil}
use Rattle.std.proofs.lemmas.List.Sums.{AllPass-from_list_all}
use Rattle.std.specs.List.{flat_map}
use Rattle.std.specs.Prelude.{All, codes, decimal, Option, Some, None}
use Rattle.std.proofs.lemmas.Grind.{flat_map-append}
use Rattle.httparse.specs.Grammar.{AllPass, IsField, IsToken, ReadsRequest, crlf, is_token_byte, is_value_byte, print_field, print_request, print_section}
use Rattle.engine_types.specs.declared.Request.{Request}
use Rattle.http_request.specs.declared.method.Method.{Method}
use Rattle.http_request.specs.Heads.{field, fields_of, head_of, length_fields, type_fields}
use Rattle.http_request.specs.Requests.{body_bytes, header_lines, length_line, method_name, method_of, request_with, target_of, type_line}
use Rattle.http_request.proofs.Targets.{digits_of_value, target_some, target_utf8, target_visible}

method_is_token : (method : Method) → IsToken (method_name method)
unfolding is_token_byte
method_is_token Method.Get = (omega arith, AllPass-from_list_all is_token_byte (codes "GET") refl)
method_is_token Method.Post = (omega arith, AllPass-from_list_all is_token_byte (codes "POST") refl)
method_is_token Method.Delete = (omega arith, AllPass-from_list_all is_token_byte (codes "DELETE") refl)

-- the header lines are those of the fields

type_printed : (body : Option (List ℕ)) → flat_map print_field (type_fields body) ≡ type_line body
type_printed None = refl
type_printed (Some body) = refl

length_printed : (method : Method) (body : Option (List ℕ)) → flat_map print_field (length_fields method body) ≡ length_line method body
length_printed Method.Get body = refl
length_printed Method.Post body = append-nil (length_line Method.Post body)
length_printed Method.Delete body = refl

fields_printed : (method : Method) (body : Option (List ℕ)) → print_section (fields_of method body) crlf ≡ header_lines method body ++ codes "\r\n"
unfolding header_lines
fields_printed method body =
    ap (λ (t : List ℕ). (codes "Host: localhost\r\nConnection: close\r\n" ++ t) ++ codes "\r\n")
    (flat_map-append print_field (type_fields body) (length_fields method body)
    ∙ ap (λ (t : List ℕ). t ++ flat_map print_field (length_fields method body)) (type_printed body)
    ∙ ap (λ (t : List ℕ). type_line body ++ t) (length_printed method body))
    ∙ ap (λ (t : List ℕ). t ++ codes "\r\n") (sym (append_assoc (codes "Host: localhost\r\nConnection: close\r\n") (type_line body) (length_line method body)))

-- they are fields

fixed_field : (name value : List ℕ) → IsToken name → AllPass is_value_byte (32 ∷ value) → IsField (field name value)
fixed_field name value n v = record { name = n; raw = v }

host_field : IsField (field (codes "Host") (codes "localhost"))
unfolding is_token_byte
host_field =
    fixed_field (codes "Host") (codes "localhost") (omega arith, AllPass-from_list_all is_token_byte (codes "Host") refl)
    (AllPass-from_list_all is_value_byte (codes " localhost") refl)

connection_field : IsField (field (codes "Connection") (codes "close"))
unfolding is_token_byte
connection_field =
    fixed_field (codes "Connection") (codes "close") (omega arith, AllPass-from_list_all is_token_byte (codes "Connection") refl)
    (AllPass-from_list_all is_value_byte (codes " close") refl)

type_field : IsField (field (codes "Content-Type") (codes "application/json"))
unfolding is_token_byte
type_field =
    fixed_field (codes "Content-Type") (codes "application/json") (omega arith, AllPass-from_list_all is_token_byte (codes "Content-Type") refl)
    (AllPass-from_list_all is_value_byte (codes " application/json") refl)

length_field : (n : ℕ) → n < 2 ^ 64 → IsField (field (codes "Content-Length") (decimal n))
unfolding is_token_byte
length_field n fits =
    fixed_field (codes "Content-Length") (decimal n) (omega arith, AllPass-from_list_all is_token_byte (codes "Content-Length") refl)
    (digits_of_value n fits)

type_fields_are : (body : Option (List ℕ)) → All IsField (type_fields body)
type_fields_are None = All-nil IsField
type_fields_are (Some body) = All-cons IsField (field (codes "Content-Type") (codes "application/json")) [] type_field (All-nil IsField)

length_fields_are : (method : Method) (body : Option (List ℕ)) → length (body_bytes body) < 2 ^ 64 → All IsField (length_fields method body)
length_fields_are Method.Get body fits = All-nil IsField
length_fields_are Method.Post body fits =
    All-cons IsField (field (codes "Content-Length") (decimal (length (body_bytes body)))) [] (length_field (length (body_bytes body)) fits) (All-nil IsField)
length_fields_are Method.Delete body fits = All-nil IsField

fields_are : (method : Method) (body : Option (List ℕ)) → length (body_bytes body) < 2 ^ 64 → All IsField (fields_of method body)
fields_are method body fits =
    All-cons IsField (field (codes "Host") (codes "localhost")) (field (codes "Connection") (codes "close") ∷ (type_fields body ++ length_fields method body)) host_field
    (All-cons IsField (field (codes "Connection") (codes "close")) (type_fields body ++ length_fields method body) connection_field
    (All-append IsField (type_fields body) (length_fields method body) (type_fields_are body) (length_fields_are method body fits)))

flat_request : (m s t v h e b : List ℕ) → m ++ s ++ t ++ v ++ h ++ e ++ b ≡ m ++ (s ++ (t ++ (v ++ (h ++ (e ++ b)))))
flat_request m s t v h e b = simp append_assoc

flat_head : (m t v e x b : List ℕ) → (((m ++ t) ++ v) ++ e ++ x) ++ b ≡ m ++ (t ++ (v ++ (e ++ (x ++ b))))
flat_head m t v e x b = simp append_assoc

-- the request line and the section, put together as the grammar does
printed : (request : Request) (body : Option (List ℕ)) → request_with request body ≡ print_request (head_of request body) ++ body_bytes body
unfolding print_request
printed request body =
    let m : List ℕ = method_name (method_of request) in
    let t : List ℕ = target_of request in
    let h : List ℕ = header_lines (method_of request) body in
    let b : List ℕ = body_bytes body in
    let section : List ℕ = print_section (fields_of (method_of request) body) crlf in
    flat_request m (codes " ") t (codes " HTTP/1.1\r\n") h (codes "\r\n") b
    ∙ ap (λ (x : List ℕ). m ++ (32 ∷ (t ++ (codes " HTTP/1.1\r\n" ++ x))))
    (sym (append_assoc h (codes "\r\n") b) ∙ ap (λ (s : List ℕ). s ++ b) (sym (fields_printed (method_of request) body)))
    ∙ sym (flat_head m (32 ∷ t) (codes " HTTP/1.1") (codes "\r\n") section b)

pub is_one_request : (request : Request) (body : Option (List ℕ)) → length (body_bytes body) < 2 ^ 64
    → ReadsRequest (request_with request body) (head_of request body) (body_bytes body)
is_one_request request body fits = (
  record {
    method = method_is_token (method_of request);
    target = (target_some request, target_visible request);
    target_text = target_utf8 request;
    minor = omega arith;
    fields = fields_are (method_of request) body fits;
  },
  printed request body,
)
