-- Which calls of an object in memory fail: those whose numbers it was told.
use Rattle.std.specs.Prelude.{ℕ, Bool, ◌==◌, List}
use Rattle.std.specs.List.{list_any}
use Rattle.outside_files.specs.Counts.{one_more}

-- whether a number is told
abbrev pub is_told : List ℕ → ℕ → Bool
is_told numbers number = list_any (λ told. told == number) numbers

-- whether the next call is to fail, after so many calls; they are numbered from 1, and those past the greatest number of
-- 64 bits share it
abbrev pub next_fails : List ℕ → ℕ → Bool
next_fails numbers calls = is_told numbers (one_more calls)
