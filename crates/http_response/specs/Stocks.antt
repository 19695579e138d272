-- The bytes that were read of a connection and that nothing was made of yet.
use Rattle.std.specs.Prelude.{◌≡◌, ℕ, ◌+◌, ◌<◌, ◌^◌, ◌||◌, Bool, false, List, [], ◌++◌, length, drop, Result, IsTrue}
use Rattle.engine_types.specs.declared.WireEnd.{WireEnd}
use Rattle.response_rules.specs.Lines.{Part, ends, passed, unfinished}
use Rattle.http_response.specs.Hearing.{ComesTo}
use Rattle.http_response.specs.declared.response.ResponseEnd.{ResponseEnd}
use Rattle.http_response.specs.declared.stock.Stock.{Stock}

-- the bytes of a stock that are left
abbrev pub left : Stock → List ℕ
left stock = drop stock.used stock.bytes

-- how many bytes of the connection stand before those
abbrev pub place : Stock → ℕ
place stock = stock.before + stock.used

-- these bytes stand behind what was left
pub record IsFilled (old new : Stock) (more : List ℕ) (found_end : Bool) : Type 0 where
  pub left_is : left new ≡ left old ++ more
  pub ended_is : new.ended ≡ (old.ended || found_end)
  pub place_is : place old < 2 ^ 64 → place new ≡ place old

-- a piece was read, which isn't empty, or the end was found; or the connection failed
abbrev pub FillsBy : Stock → Stock → ℕ → ℕ → Result Unit ResponseEnd → List ℕ → Bool → Type 0
FillsBy old new f g answer more found_end =
    ComesTo
    (λ (done : Unit {0}). IsFilled old new more found_end × (found_end ≡ false → 0 < length more))
    (λ (cause : WireEnd). ⊥) f g answer

-- the same where more has to come: it has ended early where the end was found before
abbrev pub ReadsOnBy : Stock → Stock → ℕ → ℕ → Result Unit ResponseEnd → List ℕ → Bool → Type 0
ReadsOnBy old new f g answer more found_end =
    ComesTo
    (λ (done : Unit {0}). IsFilled old new more found_end × (old.ended ≡ false)
    × (found_end ≡ false → 0 < length more))
    (λ cause. (cause ≡ WireEnd.Ended) × IsTrue old.ended × (more ≡ []) × (found_end ≡ false))
    f g answer

-- so many bytes are left, a piece of which was read where there were none, and none only behind the
-- connection's end
abbrev pub ReadiesBy : Stock → Stock → ℕ → ℕ → Result ℕ ResponseEnd → List ℕ → Bool → Type 0
ReadiesBy old new f g answer more found_end =
    ComesTo
    (λ count. IsFilled old new more found_end × (count ≡ length (left new))
    × (count ≡ 0 → IsTrue new.ended))
    (λ (cause : WireEnd). ⊥) f g answer

-- the part that was looked for isn't there: the bytes ended before, or it passes a limit
abbrev pub MissesEnd : Part → Bool → WireEnd → Type 0
MissesEnd part ended WireEnd.Ended = (part ≡ unfinished) × IsTrue ended
MissesEnd part ended WireEnd.TooLarge = part ≡ passed
MissesEnd part ended cause = ⊥

-- enough was read to find where the part of the bytes ends that was looked for
abbrev pub FindsEndBy
    : (List ℕ → Part) → Stock → Stock → ℕ → ℕ → Result ℕ ResponseEnd → List ℕ → Bool → Type 0
FindsEndBy part old new f g answer more found_end =
    ComesTo (λ n. IsFilled old new more found_end × (part (left old ++ more) ≡ ends n))
    (MissesEnd (part (left old ++ more)) (old.ended || found_end)) f g answer
