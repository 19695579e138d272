-- The part that a text begins with, by how many bytes it is made of: the forms of the Compose Specification's chapter on
-- interpolation, of which `${NAME-tail}` and its kin have a tail that runs to the `}`.
use Rattle.std.specs.Prelude.{ℕ, ◌+◌, List, [], ◌∷◌, Bool, true, false, length, take, drop, ◌==◌, if◌then◌else◌}
use Rattle.interpolate.specs.declared.part.Action.{Action}
use Rattle.interpolate.specs.declared.part.Action.TheVariants.{Default, Require, Replace}
use Rattle.interpolate.specs.Lengths.{starts_name, name_len, literal_len, inside_len}

-- a part: bytes that stand for themselves, `$$`, `$NAME`, `${NAME}`, a form by its name, whether a colon stands behind it, its operator
-- and its tail, a `${` that no `}` closes, and one that is closed and is none of the forms or stands in too many others
pub data Part : Type 0 where
  Literal : ℕ → Part
  Dollar : Part
  Name : ℕ → Part
  Value : ℕ → Part
  Form : ℕ → Bool → Action → ℕ → Part
  Unclosed : Part
  Wrong : Part

-- a form by its operator, `-`, `?` or `+`: what follows that is its tail
abbrev pub action_part : ℕ → Bool → List ℕ → Part
action_part name colon [] = Wrong
action_part name colon (c ∷ tail) =
    if c == 45 then Form name colon Default (length tail)
    else (if c == 63 then Form name colon Require (length tail)
    else (if c == 43 then Form name colon Replace (length tail) else Wrong))

-- a form by what follows its name: nothing, or an operator with or without a colon
abbrev pub operator_part : ℕ → List ℕ → Part
operator_part name [] = Value name
operator_part name (c ∷ cs) = if c == 58 then action_part name true cs else action_part name false (c ∷ cs)

-- a form by what stands in its braces, which has to begin with a name
abbrev pub form_part : List ℕ → Part
form_part text = let name = name_len text in if name == 0 then Wrong else operator_part name (drop name text)

-- what a `${` begins, by what stands behind it, where so many levels are left for forms in forms
abbrev pub braced_part : ℕ → List ℕ → Part
braced_part levels text =
    let len = inside_len 0 false text in
    if len == length text then Unclosed else (if levels == 0 then Wrong else form_part (take len text))

-- what a `$` begins, by what stands behind it: one that begins nothing stands for itself
abbrev pub dollar_part : ℕ → List ℕ → Part
dollar_part levels [] = Literal 1
dollar_part levels (c ∷ cs) =
    if c == 36 then Dollar
    else (if c == 123 then braced_part levels cs
    else (if starts_name c then Name (name_len (c ∷ cs)) else Literal 1))

-- what a text begins with
abbrev pub first_part : ℕ → List ℕ → Part
first_part levels [] = Literal 0
first_part levels (c ∷ cs) = if c == 36 then dollar_part levels cs else Literal (literal_len (c ∷ cs))

-- where the tail of a form begins, from its `$`
abbrev pub tail_start : ℕ → Bool → ℕ
tail_start name colon = if colon then name + 4 else name + 3

-- how many bytes a part has
abbrev pub part_len : Part → ℕ
part_len (Literal len) = len
part_len Dollar = 2
part_len (Name len) = len + 1
part_len (Value len) = len + 3
part_len (Form name colon action tail) = tail_start name colon + tail + 1
part_len Unclosed = 2
part_len Wrong = 2
