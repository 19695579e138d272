-- Values in quotes, by characters, from behind the opening quote on.
use Rattle.std.specs.Prelude.{ℕ, ◌+◌, List, [], ◌∷◌, ◌++◌, Option, Some, None, ◌==◌, if◌then◌else◌}
use Rattle.std.specs.Map.{lookup}
use Rattle.std.specs.Option.{option_map, option_map_or}
use Rattle.std.specs.Str.{encode_utf8_all}
use Rattle.dotenv.specs.declared.quote.Quote.{Quote}
use Rattle.dotenv.specs.declared.quote.Quote.TheVariants.{Single, Double}

-- the character that opens and closes quotes
abbrev pub mark : Quote → ℕ
mark Single = 39
mark Double = 34

-- what stands behind a backslash, and what the two spell: in single quotes a quote, in double quotes `n`, `r`, `t`, a
-- backslash and a quote
abbrev pub escapes : Quote → List (ℕ × ℕ)
escapes Single = (39, 39) ∷ []
escapes Double = (110, 10) ∷ (114, 13) ∷ (116, 9) ∷ (92, 92) ∷ (34, 34) ∷ []

-- the character that two characters spell, where the first is a backslash that takes the second
abbrev pub escaped : Quote → ℕ → ℕ → Option ℕ
escaped quote c d = if c == 92 then lookup (λ key. d == key) (escapes quote) else None

-- characters that were read and how many spell them: more of both in front
abbrev pub after : List ℕ → ℕ → Option (List ℕ × ℕ) → Option (List ℕ × ℕ)
after cs n read = option_map (λ p. (cs ++ p.0, n + p.1)) read

-- the characters in quotes, and how many characters spell them with the closing quote; none where it isn't closed. A
-- backslash that takes nothing stands for itself
abbrev pub quoted_of : Quote → List ℕ → Option (List ℕ × ℕ)
quoted_of quote [] = None
quoted_of quote (c ∷ []) = if c == mark quote then Some ([], 1) else None
quoted_of quote (c ∷ d ∷ cs) =
    if c == mark quote then Some ([], 1)
    else option_map_or (λ e. after (e ∷ []) 2 (quoted_of quote cs)) (escaped quote c d) (after (c ∷ []) 1 (quoted_of quote (d ∷ cs)))

-- the same as a text
abbrev pub spelled : Option (List ℕ × ℕ) → Option (List ℕ × ℕ)
spelled read = option_map (λ p. (encode_utf8_all p.0, p.1)) read

-- the character that is escaped in front, where one is
abbrev pub escape_in_front : Quote → List ℕ → Option ℕ
escape_in_front quote [] = None
escape_in_front quote (c ∷ []) = None
escape_in_front quote (c ∷ d ∷ cs) = escaped quote c d
