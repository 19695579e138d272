-- What is read of a part before its tail, in a text that may go on behind the `}` of the form that it stands in.
use Rattle.std.specs.Prelude.{ℕ, ◌<◌, List, [], ◌∷◌, Bool, true, false, length, take, drop, ◌==◌, ◌&&◌, ◌||◌}
use Rattle.interpolate.specs.declared.part.Head.{Head}
use Rattle.interpolate.specs.declared.part.Head.TheVariants as heads
use Rattle.interpolate.specs.Lengths.{inside_len}
use Rattle.interpolate.specs.Shapes.{Part, Literal, Dollar, Name, Value, Form, Unclosed, Wrong, tail_start}

-- the text that stands in a form: up to the `}` that closes it
abbrev pub inner : List ℕ → List ℕ
inner text = take (inside_len 0 false text) text

-- the text that is read: one that stands in a form ends at the form's `}`
abbrev pub own : Bool → List ℕ → List ℕ
own true text = inner text
own false text = text

-- the form that a text stands in, where it stands in one, is closed
abbrev pub IsClosed : Bool → List ℕ → Type 0
IsClosed true text = inside_len 0 false text < length text
IsClosed false text = Unit {0}

-- nothing is left to read
abbrev pub ends : Bool → List ℕ → Bool
ends inside [] = true
ends inside (c ∷ cs) = inside && (c == 125)

-- bytes that stand for themselves end before a `$`, and before the `}` of the form that they stand in
abbrev pub stops : Bool → ℕ → Bool
stops inside c = (c == 36) || (inside && (c == 125))

-- what is read of a part
abbrev pub head_of : Part → Head
head_of (Literal len) = heads.Literal len
head_of Dollar = heads.Dollar
head_of (Name len) = heads.Name len
head_of (Value len) = heads.Value len
head_of (Form name colon action tail) = heads.Form name colon action
head_of Unclosed = heads.Unclosed
head_of Wrong = heads.Wrong

-- the part that is read so in a text: a tail ends at the `}` of its form
abbrev pub part_of : List ℕ → Head → Part
part_of text (heads.Literal len) = Literal len
part_of text heads.Dollar = Dollar
part_of text (heads.Name len) = Name len
part_of text (heads.Value len) = Value len
part_of text (heads.Form name colon action) = Form name colon action (inside_len 0 false (drop (tail_start name colon) text))
part_of text heads.Unclosed = Unclosed
part_of text heads.Wrong = Wrong
