-- The parts of a text: bytes that stand for themselves, `$$`, variables, and forms whose tails are parts again.
use Rattle.std.specs.Prelude.{ℕ, zero, suc, ◌+◌, ◌-◌, List, [], ◌∷◌, Bool, take, drop, min, Result, Ok, Err}
use Rattle.tree_base.specs.Limits.{greatest_place}
use Rattle.tree_base.specs.Answers.{◌>>=◌}
use Rattle.interpolate.specs.declared.part.Action.{Action}
use Rattle.interpolate.specs.declared.refusal.SubstRefusal.{SubstRefusal}
use Rattle.interpolate.specs.declared.refusal.SubstRefusal.TheVariants as refusals
use Rattle.interpolate.specs.Shapes.{Part, Literal, Dollar, Name, Value, Form, Unclosed, Wrong, first_part, part_len, tail_start}

-- the parts of a text, each before those that follow it
pub data Parts : Type 0 where
  End : Parts
  Text : List ℕ → Parts → Parts
  Dollars : Parts → Parts
  Variable : List ℕ → Parts → Parts
  Braced : List ℕ → Bool → Action → Parts → Parts → Parts

-- a place as a `u32`, where one past the greatest is that
abbrev pub place : ℕ → ℕ
place at = min at greatest_place

-- a reader of the parts of a text that stands at a place
abbrev pub Reader : Type 0
Reader = ℕ → List ℕ → Result Parts SubstRefusal

-- a part before those that follow it
abbrev pub before : (Parts → Parts) → Result Parts SubstRefusal → Result Parts SubstRefusal
before part rest = rest >>= λ parts. Ok (part parts)

-- the part that a text at a place begins with, before those that follow it, where read reads its tail
abbrev pub with_part : Reader → ℕ → List ℕ → Part → Result Parts SubstRefusal → Result Parts SubstRefusal
with_part read at text (Literal len) rest = before (Text (take len text)) rest
with_part read at text Dollar rest = before Dollars rest
with_part read at text (Name len) rest = before (Variable (take len (drop 1 text))) rest
with_part read at text (Value len) rest = before (Variable (take len (drop 2 text))) rest
with_part read at text (Form name colon action tail) rest =
    let start = tail_start name colon in
    read (at + start) (take tail (drop start text)) >>= λ inner. before (Braced (take name (drop 2 text)) colon action inner) rest
with_part read at text Unclosed rest = Err (refusals.Unclosed (place at))
with_part read at text Wrong rest = Err (refusals.BadForm (place at))

-- the parts of a text at a place, where so many bytes in front belong to a part before it
abbrev pub cut : ℕ → Reader → ℕ → ℕ → List ℕ → Result Parts SubstRefusal
cut levels read at skip [] = Ok End
cut levels read at (suc skip) (c ∷ cs) = cut levels read (at + 1) skip cs
cut levels read at zero (c ∷ cs) =
    let part = first_part levels (c ∷ cs) in
    with_part read at (c ∷ cs) part (cut levels read (at + 1) (part_len part - 1) cs)

-- the parts of the tail of a form, where so many levels are left for it and the forms in it
abbrev pub tails : ℕ → Reader
tails zero at text = Ok End
tails (suc levels) at text = cut levels (tails levels) at 0 text

-- the parts of a text at a place, or the refusal of the first wrong `$` from the left, where so many levels are left for forms in forms
abbrev pub parts : ℕ → Reader
parts levels at text = cut levels (tails levels) at 0 text

-- whether there are parts, else the refusal
abbrev pub well_formed : Result Parts SubstRefusal → Result (Unit {0}) SubstRefusal
well_formed read = read >>= λ _. Ok tt

-- how many bytes a text has, where it is well formed
abbrev pub sound_len : Result Parts SubstRefusal → ℕ → Result ℕ SubstRefusal
sound_len read len = well_formed read >>= λ _. Ok len

-- how many bytes the first part has, where it and its tail are well formed
abbrev pub first_len : ℕ → ℕ → List ℕ → Result ℕ SubstRefusal
first_len levels at text =
    let part = first_part levels text in
    with_part (tails levels) at text part (Ok End) >>= λ _. Ok (part_len part)
