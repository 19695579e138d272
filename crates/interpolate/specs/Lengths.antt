-- How long the things in a text are. A name and a form are the Compose Specification's, in its chapter on interpolation.
use Rattle.std.specs.Prelude.{ℕ, ◌+◌, ◌-◌, List, [], ◌∷◌, Bool, false, not, ◌==◌, ◌&&◌, ◌||◌, if◌then◌else◌}
use Rattle.std.specs.Char.{is_ascii_alphabetic, is_ascii_alphanumeric}

-- a name begins with an ASCII letter or `_`
abbrev pub starts_name : ℕ → Bool
starts_name c = is_ascii_alphabetic c || (c == 95)

-- and goes on with letters, digits and `_`
abbrev pub goes_on_name : ℕ → Bool
goes_on_name c = is_ascii_alphanumeric c || (c == 95)

-- how many bytes in front go on with a name
abbrev pub run_len : List ℕ → ℕ
run_len [] = 0
run_len (c ∷ cs) = if goes_on_name c then run_len cs + 1 else 0

-- how long the name is that stands in front, 0 where none does
abbrev pub name_len : List ℕ → ℕ
name_len [] = 0
name_len (c ∷ cs) = if starts_name c then run_len cs + 1 else 0

-- how many bytes stand before the first `$`
abbrev pub literal_len : List ℕ → ℕ
literal_len [] = 0
literal_len (c ∷ cs) = if c == 36 then 0 else literal_len cs + 1

-- how many bytes stand before the `}` that closes a form, all where none does: each `${` within opens one more form,
-- where the `$` isn't the second of a `$$`
abbrev pub inside_len : ℕ → Bool → List ℕ → ℕ
inside_len opened dollar [] = 0
inside_len opened dollar (c ∷ cs) =
    if c == 125 then (if opened == 0 then 0 else inside_len (opened - 1) false cs + 1)
    else inside_len (if dollar && (c == 123) then opened + 1 else opened) ((c == 36) && not dollar) cs + 1
