-- Bytes that are UTF-8 or not, as a test.
use Rattle.std.proofs.Common.{◌≡◌, ℕ, List, Bool, true, false, refl}
use Rattle.std.specs.Str.{IsUtf8, is_utf8}
use Rattle.std.proofs.lemmas.Str.{IsUtf8-from_is_utf8}

fails_by : (bytes : List ℕ) (b : Bool) → is_utf8 bytes ≡ b → ¬ (IsUtf8 bytes) → is_utf8 bytes ≡ false
fails_by bytes true e bad = absurd (bad (IsUtf8-from_is_utf8 bytes e))
fails_by bytes false e bad = e

pub fails : (bytes : List ℕ) → ¬ (IsUtf8 bytes) → is_utf8 bytes ≡ false
fails bytes bad = fails_by bytes (is_utf8 bytes) refl bad
