-- The lines of bytes, and those of a container's logs.
use Rattle.std.specs.Prelude.{ℕ, Bool, true, false, not, ◌==◌, if◌then◌else◌, List, [], ◌∷◌, ◌++◌, filter, flat_map, slice_range}
use Rattle.log_frames.specs.declared.frame.Frame.{Frame}
use Rattle.log_frames.specs.declared.line.LogLine.{LogLine}
use Rattle.log_frames.specs.Frames.{is_err}

-- the lines that bytes end, without their line feeds, where a line was begun
abbrev pub ended_in : List ℕ → List ℕ → List (List ℕ)
ended_in kept [] = []
ended_in kept (b ∷ bytes) = if b == 10 then kept ∷ ended_in [] bytes else ended_in (kept ++ b ∷ []) bytes

-- the line that they leave open
abbrev pub open_in : List ℕ → List ℕ → List ℕ
open_in kept [] = kept
open_in kept (b ∷ bytes) = if b == 10 then open_in [] bytes else open_in (kept ++ b ∷ []) bytes

-- a last line without a line feed is a line if it isn't empty
abbrev pub last_line : List ℕ → List (List ℕ)
last_line [] = []
last_line (b ∷ bytes) = (b ∷ bytes) ∷ []

-- the lines of bytes
abbrev pub cut_lines : List ℕ → List (List ℕ)
cut_lines bytes = ended_in [] bytes ++ last_line (open_in [] bytes)

-- whether what was written to the standard error, or not, is of a side
abbrev pub same_side : Bool → Bool → Bool
same_side true err = err
same_side false err = not err

-- the content of a frame
abbrev pub content : List ℕ → Frame → List ℕ
content bytes frame = slice_range bytes frame.start frame.end

-- the contents of the frames of one side, joined
abbrev pub side_bytes : List ℕ → Bool → List Frame → List ℕ
side_bytes bytes err frames =
    flat_map (content bytes) (filter (λ frame. same_side err (is_err frame)) frames)

-- the lines of one side of a reply that is these frames
abbrev pub lines_of : List ℕ → List Frame → Bool → List (List ℕ)
lines_of bytes frames err = cut_lines (side_bytes bytes err frames)

-- a line of a container and a side
abbrev pub line : ℕ → Bool → List ℕ → LogLine
line container err text = record { container = container; is_err = err; text = text }
