-- Percent-encoding of a request target's parts (RFC 3986, section 2.1).
use Rattle.std.specs.Prelude.{ℕ, Bool, ◌||◌, List, [], ◌∷◌, codes, flat_map, if◌then◌else◌, ◌==◌}
use Rattle.std.specs.List.{list_any}
use Rattle.std.specs.Char.{is_ascii_alphanumeric}
use Rattle.percent_encoding.specs.Percent.{percent_encode_byte}

-- a byte that stands for itself in a query's value: unreserved (RFC 3986, section 2.3)
abbrev pub stays_in_query : ℕ → Bool
stays_in_query b = is_ascii_alphanumeric b || list_any (λ c. c == b) (codes "-._~")

-- a byte that stands for itself in a path: unreserved, or one of / : @ (RFC 3986, section 3.3)
abbrev pub stays_in_path : ℕ → Bool
stays_in_path b = is_ascii_alphanumeric b || list_any (λ c. c == b) (codes "-._~/:@")

-- a text with each byte that doesn't stay as % and two upper-case hexadecimal digits
abbrev pub escaped : (ℕ → Bool) → List ℕ → List ℕ
escaped stays text = flat_map (λ b. if stays b then b ∷ [] else percent_encode_byte b) text
