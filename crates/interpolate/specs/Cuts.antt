-- Where a text may be cut at its first part.
use Rattle.std.specs.Prelude.{ℕ, ◌+◌, ◌<◌, List}
use Rattle.std.specs.Str.{IsCharBoundary}
use Rattle.interpolate.specs.Shapes.{Part, Literal, Dollar, Name, Value, Form, Unclosed, Wrong, tail_start}

-- a name between two places
pub record HasName (text : List ℕ) (from to : ℕ) : Type 0 where
  pub from_cut : IsCharBoundary text from
  pub to_cut : IsCharBoundary text to

-- a tail after a name
pub record HasTail (text : List ℕ) (from to : ℕ) : Type 0 where
  pub from_cut : IsCharBoundary text from
  pub to_cut : IsCharBoundary text to
  pub after_cut : IsCharBoundary text (to + 1)

-- the part and what it is made of begin and end between characters, and a form has a level left
abbrev pub FitsIn : ℕ → List ℕ → Part → Type 0
FitsIn levels text (Literal len) = (0 < len) × IsCharBoundary text len
FitsIn levels text Dollar = IsCharBoundary text 2
FitsIn levels text (Name len) = HasName text 1 (len + 1)
FitsIn levels text (Value len) = HasName text 2 (len + 2) × IsCharBoundary text (len + 3)
FitsIn levels text (Form name colon action tail) =
    (0 < levels) × HasName text 2 (name + 2) × HasTail text (tail_start name colon) (tail_start name colon + tail)
FitsIn levels text Unclosed = Unit {0}
FitsIn levels text Wrong = Unit {0}
