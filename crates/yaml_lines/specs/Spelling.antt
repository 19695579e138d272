-- What characters spell, and how many of them do.
use Rattle.std.specs.Prelude.{ℕ, ◌+◌, List, ◌++◌, Option}
use Rattle.std.specs.Option.{option_map}
use Rattle.std.specs.Str.{encode_utf8_all}

-- characters that were read and how many spell them: more of both in front
abbrev pub after : List ℕ → ℕ → Option (List ℕ × ℕ) → Option (List ℕ × ℕ)
after cs n read = option_map (λ p. (cs ++ p.0, n + p.1)) read

-- the same as a text, which is the UTF-8 of the characters
abbrev pub spelled : Option (List ℕ × ℕ) → Option (List ℕ × ℕ)
spelled read = option_map (λ p. (encode_utf8_all p.0, p.1)) read
