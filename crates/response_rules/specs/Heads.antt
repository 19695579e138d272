-- What the header fields of a response's head say of its body, and when they are wrong (RFC 9112,
-- section 6, and RFC 9110, sections 8.4 and 8.6).
use Rattle.std.specs.Prelude.{ℕ, Bool, true, false, not, List, [], ◌∷◌, length, map, filter, Option, Some, None, codes, if◌then◌else◌, nat_lt, nat_le, ◌==◌, ◌&&◌, ◌||◌}
use Rattle.std.specs.List.{list_all, list_any}
use Rattle.std.specs.Char.{is_ascii_digit}
use Rattle.std.specs.Str.{str_eq_ignore_ascii_case}
use Rattle.std.specs.Str.Parse.{digits_value}
use Rattle.tree_base.specs.Limits.{most_body_bytes}
use Rattle.httparse.specs.Grammar.{Field, field_value}
use Rattle.engine_types.specs.declared.WireEnd.{WireEnd}

-- the values of the fields with a name, in whatever case it is written (RFC 9110, section 5.1)
abbrev pub values : List ℕ → List Field → List (List ℕ)
values name fields = map field_value (filter (λ f. str_eq_ignore_ascii_case f.name name) fields)

-- where a body ends: with the connection, after so many bytes, or with its last chunk (RFC 9112,
-- section 6.3)
pub data Framing : Type 0 where
  to_end : Framing
  sized : ℕ → Framing
  chunked : Framing

-- digits alone, and at least one (RFC 9110, section 8.6)
abbrev pub is_length : List ℕ → Bool
is_length value = nat_lt 0 (length value) && list_all is_ascii_digit value

-- the framing by the values of Transfer-Encoding and of Content-Length. None where both are there,
-- where a length isn't digits alone, where two lengths differ as numbers, or where the coding isn't
-- chunked alone (RFC 9112, section 6.3)
abbrev pub framing : List (List ℕ) → List (List ℕ) → Option Framing
framing [] [] = Some to_end
framing [] (first ∷ more) =
    if list_all is_length (first ∷ more)
    && list_all (λ value. digits_value 10 value == digits_value 10 first) more
    then Some (sized (digits_value 10 first)) else None
framing (coding ∷ []) [] =
    if str_eq_ignore_ascii_case coding (codes "chunked") then Some chunked else None
framing _ _ = None

-- the framing that a head's fields say
abbrev pub framing_of : List Field → Option Framing
framing_of fields =
    framing (values (codes "transfer-encoding") fields) (values (codes "content-length") fields)

-- whether the content has another coding than identity (RFC 9110, section 8.4)
abbrev pub is_encoded : List Field → Bool
is_encoded fields =
    list_any (λ value. not (str_eq_ignore_ascii_case value (codes "identity")))
    (values (codes "content-encoding") fields)

-- the fault of a head at a place, where a body has so many bytes at most: a wrong framing before a
-- coding of the content, and this before a length past the limit
abbrev pub fault_within : ℕ → ℕ → Option Framing → Bool → Option WireEnd
fault_within limit at None encoded = Some (WireEnd.Malformed at)
fault_within limit at (Some f) true = Some WireEnd.Encoded
fault_within limit at (Some to_end) false = None
fault_within limit at (Some (sized n)) false = if nat_lt limit n then Some WireEnd.TooLarge else None
fault_within limit at (Some chunked) false = None

-- the fault of a head with these fields, which begins at a place, where a body has so many bytes at
-- most
abbrev pub head_fault_within : ℕ → ℕ → List Field → Option WireEnd
head_fault_within limit at fields = fault_within limit at (framing_of fields) (is_encoded fields)

-- the same within the limit of a body
abbrev pub fault_by : ℕ → Option Framing → Bool → Option WireEnd
fault_by = fault_within most_body_bytes

-- the same within the limit of a body
abbrev pub head_fault : ℕ → List Field → Option WireEnd
head_fault = head_fault_within most_body_bytes

-- the status of a head that another follows, 1xx (RFC 9110, section 15.2)
abbrev pub is_interim : ℕ → Bool
is_interim status = nat_le 100 status && nat_lt status 200

-- a status that says by itself that there is no body (RFC 9112, section 6.3)
abbrev pub has_no_body : ℕ → Bool
has_no_body status = is_interim status || (status == 204 || status == 304)
