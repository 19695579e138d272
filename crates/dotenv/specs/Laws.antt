-- Laws of env files, above their definition.
use Rattle.std.specs.Prelude.{◌≡◌, ◌≢◌, ℕ, List, [], ◌∷◌, ◌++◌, Option, Some, None, Ok, All, length, ◌==◌, ◌||◌, if◌then◌else◌}
use Rattle.std.specs.Str.{chars}
use Rattle.std.specs.Str.Lines.{lines}
use Rattle.tree_base.specs.Entries.{value_at}
use Rattle.interpolate.specs.Substitution.{substituted}
use Rattle.dotenv.specs.declared.given.Given.{Given}
use Rattle.dotenv.specs.declared.line.Line.{Line}
use Rattle.dotenv.specs.declared.line.Line.TheVariants.{Nothing, Alone, Literal, Substituted}
use Rattle.dotenv.specs.declared.quote.Quote.TheVariants.{Double}
use Rattle.dotenv.specs.Quotes.{quoted_of}
use Rattle.dotenv.specs.Variables.{Entries, value}
use Rattle.dotenv.specs.Lines.{line_of}
use Rattle.dotenv.specs.Files.{with_lines, nothing_given, env_file}

-- the bytes of a line say this
abbrev pub Says : List ℕ → Line → Type 0
Says bytes line = line_of (chars bytes) ≡ Ok line

-- the key of a line
abbrev pub key_of : Line → Option (List ℕ)
key_of Nothing = None
key_of (Alone key) = Some key
key_of (Literal key text) = Some key
key_of (Substituted key text) = Some key

-- a line gives a key this value, where the lines before gave these variables
abbrev pub GivesValue : Entries → Entries → List ℕ → List ℕ → Line → Type 0
GivesValue outer before key text Nothing = ⊥
GivesValue outer before key text (Alone name) = (name ≡ key) × (value_at outer key ≡ Some text)
GivesValue outer before key text (Literal name written) = (name ≡ key) × (written ≡ text)
GivesValue outer before key text (Substituted name written) = (name ≡ key) × (substituted (value outer before) written ≡ Ok text)

-- none of the lines has this key
abbrev pub NoneHasKey : List ℕ → List (List ℕ) → Type 0
NoneHasKey key later = All (λ bytes. (line : Line) → Says bytes line → key_of line ≢ Some key) later

-- the value of a later line wins: the last line of a file that has a key gives it its value
abbrev pub LaterLineWins : Type 0
LaterLineWins =
    (outer after : Entries) (before : Given) (file : List ℕ) (earlier later : List (List ℕ)) (bytes key text : List ℕ) (line : Line)
    → lines file ≡ earlier ++ bytes ∷ later → with_lines outer 1 nothing_given earlier ≡ Ok before → Says bytes line
    → GivesValue outer before.env key text line
    → NoneHasKey key later → env_file outer file ≡ Ok after → value_at after key ≡ Some text

-- a character in double quotes: a quote, a backslash, a line feed, a carriage return and a tab are escaped
abbrev pub in_quotes : ℕ → List ℕ
in_quotes c =
    if (c == 34) || (c == 92) then 92 ∷ c ∷ []
    else (if c == 10 then 92 ∷ 110 ∷ [] else (if c == 13 then 92 ∷ 114 ∷ [] else (if c == 9 then 92 ∷ 116 ∷ [] else c ∷ [])))

-- characters and the closing quote
abbrev pub closed : List ℕ → List ℕ
closed [] = 34 ∷ []
closed (c ∷ cs) = in_quotes c ++ closed cs

-- characters put into double quotes read back as themselves, whatever follows them
abbrev pub DoubleQuotesReadBack : Type 0
DoubleQuotesReadBack = (cs rest : List ℕ) → quoted_of Double (closed cs ++ rest) ≡ Some (cs, length (closed cs))
