-- What an Engine sent, as it is printed: without control characters, so that an Engine moves no terminal.
use Rattle.std.specs.Prelude.{ℕ, ◌/◌, ◌%◌, Bool, List, [], ◌∷◌, ◌++◌, codes, flat_map, nat_le, nat_lt, ◌&&◌, ◌||◌, if◌then◌else◌}
use Rattle.std.specs.Char.{digit_char, encode_utf8}
use Rattle.std.specs.Str.{chars}

-- a control character: U+0000 to U+001F and U+007F to U+009F (Unicode's category Cc)
abbrev pub is_control : ℕ → Bool
is_control c = nat_lt c 32 || (nat_le 127 c && nat_lt c 160)

-- a control character as JSON escapes it, with four hexadecimal digits (RFC 8259, section 7)
abbrev pub escaped_control : ℕ → List ℕ
escaped_control c = codes "\\u00" ++ digit_char (c / 16) ∷ digit_char (c % 16) ∷ []

-- a character as it is printed
abbrev pub shown_char : ℕ → List ℕ
shown_char c = if is_control c then escaped_control c else encode_utf8 c

-- a text of an Engine as it is printed
abbrev pub shown : List ℕ → List ℕ
shown text = flat_map shown_char (chars text)
