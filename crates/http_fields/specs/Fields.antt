-- The fields of a head by the spans that the parser answers.
use Rattle.std.specs.Prelude.{◌≡◌, ℕ, ◌<◌, min, nat_lt, Bool, false, List, ◌∷◌, length, map, filter, Option, Some, None, Result, Ok, Err, All}
use Rattle.std.specs.Str.{str_eq_ignore_ascii_case}
use Rattle.engine_types.specs.declared.WireEnd.{WireEnd}
use Rattle.httparse.specs.Grammar.{Field}
use Rattle.httparse.specs.Spans.{IsHeaderWithin, header_bytes, name_and_value}
use Rattle.httparse.specs.declared.spans.HeaderSpan.{HeaderSpan}
use Rattle.response_rules.specs.Heads.{Framing, chunked, fault_within, sized, to_end}
use Rattle.http_fields.specs.declared.fields.Framing.{Framing as ReadFraming}

-- the values with a name, in whatever case it is written (RFC 9110, section 5.1)
abbrev pub named : List ℕ → List (List ℕ × List ℕ) → List (List ℕ)
named name pairs =
    map (λ pair. pair.1) (filter (λ pair. str_eq_ignore_ascii_case pair.0 name) pairs)

-- the values with a name that spans cover
abbrev pub values_at : List ℕ → List HeaderSpan → List ℕ → List (List ℕ)
values_at head headers name = named name (map (header_bytes head) headers)

-- each span lies in the head
abbrev pub AreWithin : List ℕ → List HeaderSpan → Type 0
AreWithin head headers = All (IsHeaderWithin (length head)) headers

-- the headers cover the names and the values of the fields
abbrev pub Cover : List ℕ → List HeaderSpan → List Field → Type 0
Cover head headers fields = map (header_bytes head) headers ≡ map name_and_value fields

-- this is the first value with a name, and the others stand in the headers behind it
pub record IsFirst
    (head : List ℕ) (headers : List HeaderSpan) (name value : List ℕ)
    (behind : List HeaderSpan) : Type 0 where
  pub values_are : values_at head headers name ≡ value ∷ values_at head behind name
  pub fewer : length behind < length headers
  pub are_within : AreWithin head behind

-- the framing that the reader names
abbrev pub framing_told : ReadFraming → Framing
framing_told ReadFraming.ToEnd = to_end
framing_told (ReadFraming.Sized n) = sized n
framing_told ReadFraming.Chunked = chunked

-- the framing as the reader names it, where a length past 64 bits is the greatest number of these
abbrev pub capped : Option Framing → Option ReadFraming
capped None = None
capped (Some to_end) = Some ReadFraming.ToEnd
capped (Some (sized n)) = Some (ReadFraming.Sized (min n 18446744073709551615))
capped (Some chunked) = Some ReadFraming.Chunked

-- whether a length is past the limit of a body
abbrev pub is_past_limit : ℕ → ReadFraming → Bool
is_past_limit limit (ReadFraming.Sized n) = nat_lt limit n
is_past_limit limit _ = false

-- what is read of a framing and of a coding of the content, where a body has so many bytes at most:
-- the framing without a fault, or their fault
abbrev pub FramingBy : ℕ → ℕ → Option Framing → Bool → Result ReadFraming WireEnd → Type 0
FramingBy limit at found encoded (Ok f) =
    (found ≡ Some (framing_told f)) × (fault_within limit at found encoded ≡ None)
FramingBy limit at found encoded (Err cause) = fault_within limit at found encoded ≡ Some cause
