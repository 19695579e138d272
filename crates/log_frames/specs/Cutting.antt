-- What a cutter gives and holds.
use Rattle.std.specs.Prelude.{ℕ, Bool, true, false, List, [], ◌∷◌, ◌++◌, map}
use Rattle.log_frames.specs.declared.frame.Frame.{Frame}
use Rattle.log_frames.specs.declared.line.LogLine.{LogLine}
use Rattle.log_frames.specs.Frames.{is_err}
use Rattle.log_frames.specs.Lines.{content, ended_in, open_in, last_line, line}
use Rattle.log_frames.specs.Sides.{Sides}

-- nothing is held
abbrev pub begun : Sides
begun = record { out = []; err = [] }

-- what is held of one side
abbrev pub side : Sides → Bool → List ℕ
side sides false = sides.out
side sides true = sides.err

-- what is held after more bytes of one side
abbrev pub after_content : Sides → Bool → List ℕ → Sides
after_content sides false bytes = record { out = open_in sides.out bytes; err = sides.err }
after_content sides true bytes = record { out = sides.out; err = open_in sides.err bytes }

-- what is held after frames
abbrev pub after : Sides → List ℕ → List Frame → Sides
after sides bytes [] = sides
after sides bytes (frame ∷ frames) =
    after (after_content sides (is_err frame) (content bytes frame)) bytes frames

-- the lines that frames end, frame by frame
abbrev pub ended : Sides → List ℕ → ℕ → List Frame → List LogLine
ended sides bytes container [] = []
ended sides bytes container (frame ∷ frames) =
    map (line container (is_err frame)) (ended_in (side sides (is_err frame)) (content bytes frame))
    ++ ended (after_content sides (is_err frame) (content bytes frame)) bytes container frames

-- the lines that no line feed ended, output before errors
abbrev pub rest_lines : Sides → ℕ → List LogLine
rest_lines sides container =
    map (line container false) (last_line sides.out) ++ map (line container true) (last_line sides.err)

-- what is given for parts one after the other, and at the end
abbrev pub given : Sides → List ℕ → ℕ → List (List Frame) → List LogLine
given sides bytes container [] = rest_lines sides container
given sides bytes container (part ∷ parts) =
    ended sides bytes container part ++ given (after sides bytes part) bytes container parts
