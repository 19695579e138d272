-- A text that is laid out with a precision and no width.
use Rattle.std.proofs.Common.{◌≡◌, ◌-◌, ℕ, List, append-nil, arith}
use Rattle.std.specs.Fmt.{char_count, format_spec, padded, styled_text, take_chars}

-- nothing is left of a width that isn't there
no_fill : (n : ℕ) → 0 - n ≡ 0
no_fill n = omega arith

-- so it is cut and not filled
pub cut : (text : List ℕ) → styled_text (format_spec 32 0 0 0 79) text ≡ take_chars 79 text
unfolding padded
cut text = rw (no_fill (char_count (take_chars 79 text))) (append-nil (take_chars 79 text))
