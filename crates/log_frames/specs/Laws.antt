-- What is proved of the lines of logs, whatever they are.
use Rattle.std.specs.Prelude.{◌≡◌, ◌≢◌, ℕ, ◌/◌, ◌%◌, ◌≤◌, Bool, true, false, not, ◌⊎◌, ◌==◌, List, [], ◌∷◌, ◌++◌, filter, flat_map, length, map, Result, Err}
use Rattle.std.specs.List.{list_all}
use Rattle.log_frames.specs.declared.frame.Frame.{Frame}
use Rattle.log_frames.specs.declared.frame.FrameRefusal.{FrameRefusal}
use Rattle.log_frames.specs.declared.frame.FrameRefusal.TheVariants as refusals
use Rattle.log_frames.specs.declared.line.LogLine.{LogLine}
use Rattle.log_frames.specs.Frames.{AreRead, IsReply}
use Rattle.log_frames.specs.Lines.{content, cut_lines, ended_in, lines_of, open_in, same_side}
use Rattle.log_frames.specs.Cutting.{after, begun, ended, given, rest_lines}
use Rattle.log_frames.specs.Parts.{parts_of}
use Rattle.log_frames.specs.Sides.{Sides}

-- how a reply is read is one: two answers that aren't for want of memory are the same
abbrev pub ReplyIsReadOneWay : Type 0
ReplyIsReadOneWay =
    (bytes : List ℕ) (one other : Result (List Frame) FrameRefusal)
    → one ≢ Err refusals.Memory → other ≢ Err refusals.Memory
    → AreRead bytes one → AreRead bytes other → one ≡ other

-- a frame as it is sent: its kind, three zeros, four bytes of length, big-endian, and its content
abbrev pub sent_frame : ℕ × List ℕ → List ℕ
sent_frame (kind, text) =
    kind ∷ 0 ∷ 0 ∷ 0 ∷ (length text / 256 / 256 / 256) ∷ (length text / 256 / 256 % 256)
    ∷ (length text / 256 % 256) ∷ (length text % 256) ∷ text

-- each kind is 0, 1 or 2
abbrev pub HaveKinds : List (ℕ × List ℕ) → Type 0
HaveKinds [] = Unit {0}
HaveKinds ((kind, text) ∷ more) = (kind ≤ 2) × HaveKinds more

-- the kind and the content of a frame
abbrev pub told : List ℕ → Frame → ℕ × List ℕ
told bytes frame = (frame.kind, content bytes frame)

-- frames that are sent one after the other are read, with their kinds and contents
abbrev pub SentFramesAreRead : Type 0
SentFramesAreRead =
    (sent : List (ℕ × List ℕ)) → HaveKinds sent
    → (frames : List Frame) × IsReply (flat_map sent_frame sent) frames
    × (map (told (flat_map sent_frame sent)) frames ≡ sent)

-- parts one after the other
abbrev pub joined : List (List Frame) → List Frame
joined parts = flat_map (λ part. part) parts

-- the texts of the lines of one side
abbrev pub texts_of : Bool → List LogLine → List (List ℕ)
texts_of err lines = map (λ l. l.text) (filter (λ l. same_side err l.is_err) lines)

-- a reply that is frames, cut into any parts of frames one after the other: the lines that are given
-- part by part and at the end are, side by side, those of the whole reply, in order, each once, and
-- all have the number of the container
abbrev pub PartsGiveTheLines : Type 0
PartsGiveTheLines =
    (bytes : List ℕ) (frames : List Frame) (parts : List (List Frame)) (container : ℕ)
    → IsReply bytes frames → joined parts ≡ frames
    → ((err : Bool) → texts_of err (given begun bytes container parts) ≡ lines_of bytes frames err)
    × (list_all (λ l. l.container == container) (given begun bytes container parts) ≡ true)

-- the lines that bytes end, each with its line feed, and the one that they leave open are the bytes,
-- and no line holds a line feed
abbrev pub LinesJoinToTheirBytes : Type 0
LinesJoinToTheirBytes =
    (bytes : List ℕ)
    → (flat_map (λ l. l ++ 10 ∷ []) (ended_in [] bytes) ++ open_in [] bytes ≡ bytes)
    × (list_all (λ l. list_all (λ b. not (b == 10)) l) (cut_lines bytes) ≡ true)

-- the lines of each part by themselves, and with the last part's those that no line feed ended
abbrev pub entries : Sides → List ℕ → ℕ → List (List Frame) → List (List LogLine)
entries sides bytes container [] = []
entries sides bytes container (part ∷ []) =
    (ended sides bytes container part ++ rest_lines (after sides bytes part) container) ∷ []
entries sides bytes container (part ∷ next ∷ parts) =
    ended sides bytes container part ∷ entries (after sides bytes part) bytes container (next ∷ parts)

-- the lines of entries one after the other
abbrev pub lines_in : List (List LogLine) → List LogLine
lines_in es = flat_map (λ ls. ls) es

-- entries that are full have no lines, and the last ones may be missing
abbrev pub AreLeft : List (List LogLine) → List (List LogLine) → Type 0
AreLeft [] es = Unit {0}
AreLeft (l ∷ ls) [] = ⊥
AreLeft (l ∷ ls) (e ∷ es) = ((l ≡ e) ⊎ (l ≡ [])) × AreLeft ls es

-- the elements of a list at whose places a list of marks has true
abbrev pub picked : {X : Type 0} → List Bool → List X → List X
picked [] xs = []
picked (mark ∷ marks) [] = []
picked (true ∷ marks) (x ∷ xs) = x ∷ picked marks xs
picked (false ∷ marks) (x ∷ xs) = picked marks xs

-- the elements are some of the others, in order, each at most once
abbrev pub AreSome : {X : Type 0} → List X → List X → Type 0
AreSome some all = (marks : List Bool) × (some ≡ picked marks all)

-- a reply that is frames, cut into parts one after the other, with an entry for each: the lines of
-- the entries are those of the whole reply, and where entries lack lines they are some of these
abbrev pub EntriesGiveTheLines : Type 0
EntriesGiveTheLines =
    (bytes : List ℕ) (frames : List Frame) (parts : List (List Frame)) (container : ℕ) (err : Bool)
    → IsReply bytes frames → joined parts ≡ frames
    → (texts_of err (lines_in (entries begun bytes container parts)) ≡ lines_of bytes frames err)
    × ((left : List (List LogLine)) → AreLeft left (entries begun bytes container parts)
    → AreSome (texts_of err (lines_in left)) (lines_of bytes frames err))

-- the parts of a reply's frames are the frames, and at most 8
abbrev pub PartsAreTheFrames : Type 0
PartsAreTheFrames =
    (frames : List Frame) → (joined (parts_of frames) ≡ frames) × (length (parts_of frames) ≤ 8)
