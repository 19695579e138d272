-- The bytes that were read of a connection.
use Rattle.std.specs.Prelude.{◌≡◌, ℕ, ◌<◌, ◌≤◌, ◌||◌, Bool, false, List, [], ◌++◌, length, Option, Some, None, Result, Ok, Err, IsSomeAnd, IsTrue, min}
use Rattle.tree_base.specs.Limits.{most_body_bytes}
use Rattle.engine_types.specs.declared.WireEnd.{WireEnd}
use Rattle.httparse.specs.Grammar.{RequestHead, print_request}
use Rattle.response_rules.specs.Lines.{ends, head_part, passed, unfinished}
use Rattle.request_reading.specs.Hearing.{ComesTo}
use Rattle.request_reading.specs.Requests.{BeginsWithHead, Breaks, body_length}
use Rattle.request_reading.specs.declared.heads.Head.{Head}
use Rattle.request_reading.specs.declared.received.RequestEnd.{RequestEnd}
use Rattle.request_reading.specs.declared.stock.Stock.{Stock}

-- these bytes stand behind those that were read
pub record IsFilled (old new : Stock) (more : List ℕ) (found_end : Bool) : Type 0 where
  pub bytes_are : new.bytes ≡ old.bytes ++ more
  pub ended_is : new.ended ≡ (old.ended || found_end)

-- a piece was read, which isn't empty, or the end was found; or the connection failed; where the end was found before, it has
-- ended early
abbrev pub ReadsOnBy : Stock → Stock → ℕ → ℕ → Result Unit RequestEnd → List ℕ → Bool → Type 0
ReadsOnBy old new f g answer more found_end =
    ComesTo
    (λ (done : Unit {0}). IsFilled old new more found_end × (old.ended ≡ false)
    × (found_end ≡ false → 0 < length more))
    (λ cause. (cause ≡ WireEnd.Ended) × IsTrue old.ended × (more ≡ []) × (found_end ≡ false))
    f g answer

-- the head's end isn't there: the bytes ended before, or it passes a limit
abbrev pub MissesHead : List ℕ → Bool → WireEnd → Type 0
MissesHead read ended WireEnd.Ended = (head_part 0 read ≡ unfinished) × IsTrue ended
MissesHead read ended WireEnd.TooLarge = head_part 0 read ≡ passed
MissesHead read ended cause = ⊥

-- enough was read to find where the head ends
abbrev pub FindsHeadBy : Stock → Stock → ℕ → ℕ → Result ℕ RequestEnd → List ℕ → Bool → Type 0
FindsHeadBy old new f g answer more found_end =
    ComesTo (λ n. IsFilled old new more found_end × (head_part 0 (old.bytes ++ more) ≡ ends n))
    (MissesHead (old.bytes ++ more) (old.ended || found_end)) f g answer

-- so many bytes were read, or the connection ended before
abbrev pub FillsToBy : ℕ → Stock → Stock → ℕ → ℕ → Result Unit RequestEnd → List ℕ → Bool → Type 0
FillsToBy end old new f g answer more found_end =
    ComesTo (λ (done : Unit {0}). IsFilled old new more found_end × (end ≤ length new.bytes))
    (λ cause. (cause ≡ WireEnd.Ended) × (length (old.bytes ++ more) < end) × IsTrue (old.ended || found_end))
    f g answer

-- a length as a number of 64 bits: what is past these is the greatest of them
abbrev pub capped : ℕ → ℕ
capped n = min n 18446744073709551615

-- what is read of a head that has so many bytes
pub record IsHeadRead (len : ℕ) (head : RequestHead) (found : Head) : Type 0 where
  pub method_is : found.method ≡ head.method
  pub target_is : found.target ≡ head.target
  pub length_known : found.length ≡ len
  pub length_is : body_length head ≡ Some found.size
  pub small : found.size ≤ most_body_bytes

-- what a head says, or why its request isn't read
abbrev pub SaysBy : ℕ → RequestHead → Result Head RequestEnd → Type 0
SaysBy len head (Ok found) = IsHeadRead len head found
SaysBy len head (Err (RequestEnd.Wire (WireEnd.Malformed at))) = (at ≡ 0) × (body_length head ≡ None)
SaysBy len head (Err (RequestEnd.Wire WireEnd.TooLarge)) = IsSomeAnd (body_length head) (λ n. most_body_bytes < n)
SaysBy len head (Err (RequestEnd.Wire cause)) = ⊥
SaysBy len head (Err RequestEnd.Memory) = Unit {0}

-- what is read of bytes that begin with a whole head, and of others behind them
abbrev pub ParsedBy : List ℕ → Result Head RequestEnd → Type 0
ParsedBy read (Ok found) = (head : RequestHead) × (rest : List ℕ) × BeginsWithHead read head rest
    × IsHeadRead (length (print_request head)) head found
ParsedBy read (Err (RequestEnd.Wire WireEnd.Fault)) = ⊥
ParsedBy read (Err (RequestEnd.Wire WireEnd.BadBody)) = ⊥
ParsedBy read (Err (RequestEnd.Wire WireEnd.Encoded)) = ⊥
ParsedBy read (Err (RequestEnd.Wire cause)) = (ended : Bool) → Breaks read ended cause
ParsedBy read (Err RequestEnd.Memory) = Unit {0}

-- the head was read, and what else was read stands in the stock
abbrev pub OpensBy : Stock → ℕ → ℕ → Result Head RequestEnd → List ℕ → Bool → Type 0
OpensBy new f g answer read ended =
    ComesTo (λ found. (new.bytes ≡ read) × (new.ended ≡ ended) × ((head : RequestHead) × (rest : List ℕ)
    × BeginsWithHead read head rest × IsHeadRead (length (print_request head)) head found))
    (Breaks read ended) f g answer
