-- What a line of an env file says, by its characters.
use Rattle.std.specs.Prelude.{ℕ, ◌+◌, List, [], ◌∷◌, Bool, true, false, Option, Some, None, Result, Ok, Err, take, drop, nat_eq, ◌==◌, if◌then◌else◌}
use Rattle.std.specs.List.{starts_with}
use Rattle.std.specs.Str.{encode_utf8_all}
use Rattle.tree_base.specs.Answers as answers
use Rattle.dotenv.specs.declared.line.Line.{Line}
use Rattle.dotenv.specs.declared.line.Line.TheVariants.{Nothing, Alone, Literal, Substituted}
use Rattle.dotenv.specs.declared.quote.Quote.{Quote}
use Rattle.dotenv.specs.declared.quote.Quote.TheVariants.{Single, Double}
use Rattle.dotenv.specs.declared.refusal.LineRefusal.{LineRefusal}
use Rattle.dotenv.specs.declared.refusal.LineRefusal.TheVariants.{BadLine, BadQuote, Memory}
use Rattle.dotenv.specs.Characters.{blanks_len, key_len, plain_len, trimmed}
use Rattle.dotenv.specs.Quotes.{quoted_of, spelled}

-- characters begin with this one
abbrev pub starts : ℕ → List ℕ → Bool
starts c [] = false
starts c (d ∷ cs) = d == c

-- nothing stands here, or a comment
abbrev pub is_nothing : List ℕ → Bool
is_nothing [] = true
is_nothing (c ∷ cs) = c == 35

-- the word `export` and a space
abbrev pub export_word : List ℕ
export_word = 101 ∷ 120 ∷ 112 ∷ 111 ∷ 114 ∷ 116 ∷ 32 ∷ []

-- how many characters `export` takes with the spaces and tabs behind it, 0 where no key follows
abbrev pub export_len : List ℕ → ℕ
export_len cs =
    let n = blanks_len (drop 7 cs) + 7 in
    if starts_with nat_eq cs export_word then (if key_len (drop n cs) == 0 then 0 else n) else 0

-- a value in quotes: literal in single ones
abbrev pub line_in : Quote → List ℕ → List ℕ → Line
line_in Single key value = Literal key value
line_in Double key value = Substituted key value

-- a value in quotes that was read, with what stands behind the opening quote: only a comment may follow
abbrev pub closed_line : Quote → List ℕ → List ℕ → Option (List ℕ × ℕ) → Result Line LineRefusal
closed_line quote key cs None = Err BadQuote
closed_line quote key cs (Some read) =
    let rest = drop read.1 cs in
    if is_nothing (drop (blanks_len rest) rest) then Ok (line_in quote key read.0) else Err BadQuote

-- a value in quotes, by what stands behind the opening quote
abbrev pub quoted_line : Quote → List ℕ → List ℕ → Result Line LineRefusal
quoted_line quote key cs = closed_line quote key cs (spelled (quoted_of quote cs))

-- a value without quotes: it ends before a comment
abbrev pub plain_line : List ℕ → List ℕ → Result Line LineRefusal
plain_line key cs = Ok (Substituted key (encode_utf8_all (trimmed (take (plain_len false cs) cs))))

-- a value, by what stands behind the `=`
abbrev pub value_line : List ℕ → List ℕ → Result Line LineRefusal
value_line key cs =
    let value = drop (blanks_len cs) cs in
    if starts 39 value then quoted_line Single key (drop 1 value)
    else (if starts 34 value then quoted_line Double key (drop 1 value)
    else plain_line key cs)

-- what follows a key
abbrev pub after_key : List ℕ → List ℕ → Result Line LineRefusal
after_key key [] = Ok (Alone key)
after_key key (c ∷ cs) = if c == 61 then value_line key cs else Err BadLine

-- a line that begins with its key
abbrev pub key_line : List ℕ → Result Line LineRefusal
key_line cs =
    let n = key_len cs in
    let rest = drop n cs in
    if n == 0 then Err BadLine else after_key (encode_utf8_all (take n cs)) (drop (blanks_len rest) rest)

-- a line
abbrev pub line_of : List ℕ → Result Line LineRefusal
line_of cs =
    let body = drop (blanks_len cs) cs in
    if is_nothing body then Ok Nothing else key_line (drop (export_len body) body)

-- a refusal for want of memory
abbrev pub wants_memory : LineRefusal → Bool
wants_memory Memory = true
wants_memory BadLine = false
wants_memory BadQuote = false

-- a call refused, for want of memory or as the answer does
abbrev pub LineFails : LineRefusal → Result Line LineRefusal → Type 0
LineFails refusal answer = answers.Fails wants_memory refusal answer

-- what a call gave is the answer, unless it found no memory
abbrev pub LineGives : Result Line LineRefusal → Result Line LineRefusal → Type 0
LineGives given answer = answers.Gives wants_memory given answer
