-- The variables that an env file gives.
use Rattle.std.specs.Prelude.{ℕ, ◌+◌, List, [], ◌∷◌, Bool, true, false, Option, Some, None, Result, Ok, Err, length, min, nat_le, ◌==◌, if◌then◌else◌}
use Rattle.std.specs.Str.{is_utf8, chars}
use Rattle.std.specs.Str.Lines.{lines}
use Rattle.tree_base.specs.Limits.{greatest_place, most_text}
use Rattle.tree_base.specs.Answers.{◌>>=◌}
use Rattle.tree_base.specs.Answers as answers
use Rattle.tree_base.specs.Entries.{value_at, with_entry}
use Rattle.interpolate.specs.declared.SubstRefusal.{SubstRefusal}
use Rattle.interpolate.specs.declared.SubstRefusal.TheVariants as causes
use Rattle.interpolate.specs.Substitution.{substituted}
use Rattle.dotenv.specs.declared.given.Given.{Given}
use Rattle.dotenv.specs.declared.line.Line.{Line}
use Rattle.dotenv.specs.declared.line.Line.TheVariants.{Nothing, Alone, Literal, Substituted}
use Rattle.dotenv.specs.declared.refusal.LineRefusal.{LineRefusal}
use Rattle.dotenv.specs.declared.refusal.LineRefusal.TheVariants as line_refusals
use Rattle.dotenv.specs.declared.refusal.EnvRefusal.{EnvRefusal}
use Rattle.dotenv.specs.declared.refusal.EnvRefusal.TheVariants as refusals
use Rattle.dotenv.specs.Variables.{Entries, value}
use Rattle.dotenv.specs.Lines.{line_of}

-- how many bytes stand before the first line feed
abbrev pub feed_len : List ℕ → ℕ
feed_len [] = 0
feed_len (c ∷ cs) = if c == 10 then 0 else feed_len cs + 1

-- the number of a line as a `u32`, where one past the greatest is that
abbrev pub line_number : ℕ → ℕ
line_number n = min n greatest_place

-- why a line isn't read, with its number
abbrev pub numbered : ℕ → LineRefusal → EnvRefusal
numbered number line_refusals.BadLine = refusals.BadLine number
numbered number line_refusals.BadQuote = refusals.BadQuote number
numbered number line_refusals.Memory = refusals.Memory

-- what a line says, or why it isn't read, with its number
abbrev pub on_line : ℕ → Result Line LineRefusal → Result Line EnvRefusal
on_line number (Ok line) = Ok line
on_line number (Err e) = Err (numbered number e)

-- so many bytes of values more, of which there may be 16,777,216: a line that gives more is refused
abbrev pub with_bytes : ℕ → ℕ → ℕ → Result ℕ EnvRefusal
with_bytes number size more = if nat_le (size + more) most_text then Ok (size + more) else Err (refusals.TooMuchText number)

-- a variable with the value that a line gives it, whose bytes count
abbrev pub with_given : ℕ → Given → List ℕ → List ℕ → Result Given EnvRefusal
with_given number given key value =
    with_bytes number given.size (length value) >>= λ size. Ok (record { env = with_entry given.env key value; size = size })

-- a variable with the value that the caller's environment has, where it has one
abbrev pub with_outer : ℕ → Given → List ℕ → Option (List ℕ) → Result Given EnvRefusal
with_outer number given key None = Ok given
with_outer number given key (Some value) = with_given number given key value

-- why a value isn't substituted, with its line's number: one past the limit is refused by a name of its own
abbrev pub unsubstituted : ℕ → SubstRefusal → EnvRefusal
unsubstituted number causes.Memory = refusals.Memory
unsubstituted number (causes.Unclosed at) = refusals.Subst number (causes.Unclosed at)
unsubstituted number (causes.BadForm at) = refusals.Subst number (causes.BadForm at)
unsubstituted number (causes.RequiredVariable name message) = refusals.Subst number (causes.RequiredVariable name message)
unsubstituted number causes.TooMuchText = refusals.TooMuchText number

-- a variable with a value that is substituted
abbrev pub with_value : ℕ → Given → List ℕ → Result (List ℕ) SubstRefusal → Result Given EnvRefusal
with_value number given key (Ok value) = with_given number given key value
with_value number given key (Err cause) = Err (unsubstituted number cause)

-- the variables after what a line says: a value sees the outer variables first, then the lines before
abbrev pub told : Entries → ℕ → Given → Line → Result Given EnvRefusal
told outer number given Nothing = Ok given
told outer number given (Alone key) = with_outer number given key (value_at outer key)
told outer number given (Literal key text) = with_given number given key text
told outer number given (Substituted key text) = with_value number given key (substituted (value outer given.env) text)

-- the variables after a line, by its bytes
abbrev pub with_line : Entries → ℕ → Given → List ℕ → Result Given EnvRefusal
with_line outer number given bytes =
    if is_utf8 bytes then (on_line number (line_of (chars bytes)) >>= told outer number given) else Err (refusals.BadLine number)

-- the variables after lines, of which the first has a number
abbrev pub with_lines : Entries → ℕ → Given → List (List ℕ) → Result Given EnvRefusal
with_lines outer number given [] = Ok given
with_lines outer number given (line ∷ more) = with_line outer (line_number number) given line >>= λ given. with_lines outer (number + 1) given more

-- no variable, of no line
abbrev pub nothing_given : Given
nothing_given = record { env = []; size = 0 }

-- the variables that lines gave
abbrev pub variables_of : Result Given EnvRefusal → Result Entries EnvRefusal
variables_of read = read >>= λ given. Ok given.env

-- the variables of an env file, whose lines end with a line feed or a carriage return and a line feed
unfoldable pub env_file : Entries → List ℕ → Result Entries EnvRefusal
env_file outer bytes = variables_of (with_lines outer 1 nothing_given (lines bytes))

-- a refusal for want of memory
abbrev pub wants_memory : EnvRefusal → Bool
wants_memory refusals.Memory = true
wants_memory (refusals.BadLine line) = false
wants_memory (refusals.BadQuote line) = false
wants_memory (refusals.Subst line cause) = false
wants_memory (refusals.TooMuchText line) = false

-- a call refused, for want of memory or as the answer does
abbrev pub Fails : {X : Type 0} → EnvRefusal → Result X EnvRefusal → Type 0
Fails refusal answer = answers.Fails wants_memory refusal answer

-- what a call gave is the answer, unless it found no memory
abbrev pub Gives : {X : Type 0} → Result X EnvRefusal → Result X EnvRefusal → Type 0
Gives given answer = answers.Gives wants_memory given answer

-- what a function left, where it returned
abbrev pub result_and : {A X : Type 0} → Result A EnvRefusal → X → Result X EnvRefusal
result_and (Ok a) x = Ok x
result_and (Err e) x = Err e
