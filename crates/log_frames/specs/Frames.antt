-- The frames in which the Engine sends a container's logs (the Engine API's
-- `GET /containers/{id}/attach`, "Stream format").
use Rattle.std.specs.Prelude.{◌≡◌, ℕ, ◌+◌, ◌*◌, ◌<◌, ◌≤◌, nat_le, Bool, ◌&&◌, ◌==◌, if◌then◌else◌, List, [], ◌∷◌, All, length, drop, Option, Some, None, Result, Ok, Err}
use Rattle.log_frames.specs.declared.frame.Frame.{Frame}
use Rattle.log_frames.specs.declared.frame.FrameRefusal.{FrameRefusal}
use Rattle.log_frames.specs.declared.frame.FrameRefusal.TheVariants as refusals

-- the number that four bytes are, big-endian
abbrev pub size_of : ℕ → ℕ → ℕ → ℕ → ℕ
size_of a b c d = a * 16777216 + b * 65536 + c * 256 + d

-- the first four bytes of a frame: a kind of 0, 1 or 2, and three zeros
abbrev pub is_head : ℕ → ℕ → ℕ → ℕ → Bool
is_head kind x y z = nat_le kind 2 && (x == 0 && (y == 0 && z == 0))

-- the frame at a place whose bytes begin so: four bytes of head, four bytes of length, and that many
-- bytes
abbrev pub frame_in : ℕ → List ℕ → Option Frame
frame_in at (kind ∷ x ∷ y ∷ z ∷ a ∷ b ∷ c ∷ d ∷ content) =
    if is_head kind x y z && nat_le (size_of a b c d) (length content)
    then Some (record { kind = kind; start = at + 8; end = at + 8 + size_of a b c d }) else None
frame_in at _ = None

-- frames lie end to end from one place of the bytes to another
abbrev pub AreFrames : List ℕ → ℕ → List Frame → ℕ → Type 0
AreFrames bytes at [] to = at ≡ to
AreFrames bytes at (frame ∷ frames) to =
    (frame_in at (drop at bytes) ≡ Some frame) × AreFrames bytes frame.end frames to

-- the bytes are frames from the first byte to the last
abbrev pub IsReply : List ℕ → List Frame → Type 0
IsReply bytes frames = AreFrames bytes 0 frames (length bytes)

-- some frames lie end to end up to a place where bytes are left that begin with no frame
abbrev pub IsBadAt : List ℕ → ℕ → Type 0
IsBadAt bytes at =
    (frames : List Frame) × AreFrames bytes 0 frames at × (at < length bytes)
    × (frame_in at (drop at bytes) ≡ None)

-- how bytes are cut into frames
abbrev pub AreRead : List ℕ → Result (List Frame) FrameRefusal → Type 0
AreRead bytes (Ok frames) = IsReply bytes frames
AreRead bytes (Err (refusals.BadFrame at)) = IsBadAt bytes at
AreRead bytes (Err refusals.Memory) = Unit {0}

-- each frame's content lies in the bytes
abbrev pub LieIn : List ℕ → List Frame → Type 0
LieIn bytes frames = All (λ frame. (frame.start ≤ frame.end) × (frame.end ≤ length bytes)) frames

-- whether a frame's content was written to the standard error
abbrev pub is_err : Frame → Bool
is_err frame = frame.kind == 2
