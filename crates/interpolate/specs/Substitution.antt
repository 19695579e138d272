-- The value of a text: the values of its parts, by the table of the Compose Specification's chapter on interpolation.
use Rattle.std.specs.Prelude.{ℕ, ◌+◌, ◌-◌, List, [], ◌∷◌, ◌++◌, Bool, true, false, Option, Some, None, unwrap_or, length, take, drop, Result, Ok, Err, nat_le, ◌==◌, ◌&&◌, if◌then◌else◌}
use Rattle.tree_base.specs.Limits.{most_form_levels, most_text}
use Rattle.tree_base.specs.Answers.{◌>>=◌}
use Rattle.tree_base.specs.Answers as answers
use Rattle.interpolate.specs.declared.part.Action.{Action}
use Rattle.interpolate.specs.declared.part.Action.TheVariants.{Default, Require, Replace}
use Rattle.interpolate.specs.declared.refusal.SubstRefusal.{SubstRefusal}
use Rattle.interpolate.specs.declared.refusal.SubstRefusal.TheVariants as refusals
use Rattle.interpolate.specs.Shapes.{Part, Literal, Dollar, Name, Value, Form, Unclosed, Wrong, first_part, tail_start}
use Rattle.interpolate.specs.Parts.{Parts, End, Text, Dollars, Variable, Braced, Reader, place, parts, tails}

-- what the variables are: the value of a name, where it is set
abbrev pub Variables : Type 0
Variables = List ℕ → Option (List ℕ)

-- a value in a form: with a colon an empty one counts as unset
abbrev pub counted : Bool → Option (List ℕ) → Option (List ℕ)
counted colon None = None
counted colon (Some value) = if colon && (length value == 0) then None else Some value

-- a text within the limit, of 16,777,216 bytes
abbrev pub within_limit : List ℕ → Option (List ℕ)
within_limit text = if nat_le (length text) most_text then Some text else None

-- a required variable that is missing, with its message, where that is within the limit
abbrev pub missing : List ℕ → Option (List ℕ) → SubstRefusal
missing name None = refusals.TooMuchText
missing name (Some message) = refusals.RequiredVariable name message

-- what a form gives, by its variable and the value of its tail, which counts only where the tail is taken
abbrev pub form_value : List ℕ → Action → Option (List ℕ) → Result (List ℕ) SubstRefusal → Result (List ℕ) SubstRefusal
form_value name Default (Some value) tail = Ok value
form_value name Default None tail = tail
form_value name Require (Some value) tail = Ok value
form_value name Require None tail = tail >>= λ message. Err (missing name (within_limit message))
form_value name Replace (Some value) tail = tail
form_value name Replace None tail = Ok []

-- the value of parts: the values of all, or the refusal of the first required variable that is missing
abbrev pub value : Variables → Parts → Result (List ℕ) SubstRefusal
value env End = Ok []
value env (Text text rest) = value env rest >>= λ more. Ok (text ++ more)
value env (Dollars rest) = value env rest >>= λ more. Ok (36 ∷ more)
value env (Variable name rest) = value env rest >>= λ more. Ok (unwrap_or (env name) [] ++ more)
value env (Braced name colon action tail rest) =
    form_value name action (counted colon (env name)) (value env tail) >>= λ text. value env rest >>= λ more. Ok (text ++ more)

-- the value of a text, however long it is, where so many forms may stand in one another
abbrev pub valued_within : ℕ → Variables → List ℕ → Result (List ℕ) SubstRefusal
valued_within levels env text = parts levels 0 text >>= value env

-- a value that is within the limit
abbrev pub limited : Option (List ℕ) → Result (List ℕ) SubstRefusal
limited None = Err refusals.TooMuchText
limited (Some text) = Ok text

-- the value of a text, where it is within the limit
abbrev pub substituted_within : ℕ → Variables → List ℕ → Result (List ℕ) SubstRefusal
substituted_within levels env text = valued_within levels env text >>= λ value. limited (within_limit value)

-- the value of a text: forms stand in one another at most 32 deep, a wrong one is refused before a missing variable, and that
-- before a value past the limit
unfoldable pub substituted : Variables → List ℕ → Result (List ℕ) SubstRefusal
substituted = substituted_within most_form_levels

-- a refusal for want of memory
abbrev pub wants_memory : SubstRefusal → Bool
wants_memory refusals.Memory = true
wants_memory (refusals.Unclosed at) = false
wants_memory (refusals.BadForm at) = false
wants_memory (refusals.RequiredVariable name message) = false
wants_memory refusals.TooMuchText = false

-- a call refused, for want of memory or as the answer does
abbrev pub Fails : {X : Type 0} → SubstRefusal → Result X SubstRefusal → Type 0
Fails refusal answer = answers.Fails wants_memory refusal answer

-- what a call gave is the answer, unless it found no memory
abbrev pub Gives : {X : Type 0} → Result X SubstRefusal → Result X SubstRefusal → Type 0
Gives given answer = answers.Gives wants_memory given answer

-- what a function left, where it returned
abbrev pub result_and : {A X : Type 0} → Result A SubstRefusal → X → Result X SubstRefusal
result_and (Ok a) x = Ok x
result_and (Err e) x = Err e

-- bytes behind a text, where there is room for them within the limit, and where there was for what stands before them
abbrev pub put_on : Option (List ℕ) → List ℕ → Option (List ℕ)
put_on None more = None
put_on (Some text) more = if nat_le (length more) (most_text - length text) then Some (text ++ more) else None

-- a value behind a text
abbrev pub appended : Option (List ℕ) → Result (List ℕ) SubstRefusal → Result (Option (List ℕ)) SubstRefusal
appended out read = read >>= λ text. Ok (put_on out text)

-- the value of a text at a place
abbrev pub text_value : Reader → Variables → ℕ → List ℕ → Result (List ℕ) SubstRefusal
text_value read env at text = read at text >>= value env

-- the value of the part that a text at a place begins with, where read reads its tail
abbrev pub part_value : Reader → Variables → ℕ → List ℕ → Part → Result (List ℕ) SubstRefusal
part_value read env at text (Literal len) = Ok (take len text)
part_value read env at text Dollar = Ok (36 ∷ [])
part_value read env at text (Name len) = Ok (unwrap_or (env (take len (drop 1 text))) [])
part_value read env at text (Value len) = Ok (unwrap_or (env (take len (drop 2 text))) [])
part_value read env at text (Form name colon action tail) =
    let start = tail_start name colon in
    form_value (take name (drop 2 text)) action (counted colon (env (take name (drop 2 text)))) (text_value read env (at + start) (take tail (drop start text)))
part_value read env at text Unclosed = Err (refusals.Unclosed (place at))
part_value read env at text Wrong = Err (refusals.BadForm (place at))

-- the value of the first part of a text at a place
abbrev pub first_value : ℕ → Variables → ℕ → List ℕ → Result (List ℕ) SubstRefusal
first_value levels env at text = part_value (tails levels) env at text (first_part levels text)
