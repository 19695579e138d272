-- Numbers as a page prints them.
use Rattle.std.specs.Prelude.{ℕ, zero, suc, ◌+◌, ◌/◌, ◌%◌, ◌^◌, ◌==◌, if◌then◌else◌, List, [], ◌∷◌, ◌++◌, codes}
use Rattle.std.specs.Fmt.{decimal}

-- a number and a unit, where the number isn't zero
abbrev pub amount_text : ℕ → List ℕ → List ℕ
amount_text count unit = if count == 0 then [] else decimal count ++ unit

-- the units of a duration that aren't zero, from `h` to `us`
abbrev pub amounts_text : ℕ → List ℕ
amounts_text micros =
    amount_text (micros / 3600000000) (codes "h") ++ (amount_text (micros % 3600000000 / 60000000) (codes "m") ++ (amount_text (micros % 60000000 / 1000000) (codes "s") ++ (amount_text (micros % 1000000 / 1000) (codes "ms") ++ amount_text (micros % 1000) (codes "us"))))

-- a duration: these, or `0s`
abbrev pub duration_text : ℕ → List ℕ
duration_text micros = if micros == 0 then codes "0s" else amounts_text micros

-- so many places behind a point, but for zeros at the end
abbrev pub fraction_text : ℕ → ℕ → List ℕ
fraction_text zero parts = []
fraction_text (suc places) parts = if parts == 0 then [] else (48 + parts / 10 ^ places) ∷ fraction_text places (parts % 10 ^ places)

-- a decimal without needless zeros
abbrev pub decimal_text : ℕ → List ℕ
decimal_text billionths =
    if billionths % 10 ^ 9 == 0 then decimal (billionths / 10 ^ 9) else decimal (billionths / 10 ^ 9) ++ 46 ∷ fraction_text 9 (billionths % 10 ^ 9)
