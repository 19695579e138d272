-- Different numbers spell different ids.
use Rattle.std.proofs.Common.{◌≡◌, ℕ, zero, suc, ◌-◌, ◌^◌, ◌<◌, false, List, ◌++◌, length, replicate, refl, sym, ap, ◌∙◌, lit≤, arith}
use Rattle.std.specs.Fmt.{digits}
use Rattle.std.specs.Str.{bytes_eq}
use Rattle.std.specs.Str.Parse.{digits_value}
use Rattle.std.proofs.lemmas.Fmt.{digits_is_IsNumeral}
use Rattle.memory_engine.specs.Ids.{id_text}
use Rattle.memory_engine.proofs.Texts.{by_cases, same_text}

-- zeros in front leave the number
zeros_first : (count : ℕ) (ds : List ℕ) → digits_value 16 (replicate count 48 ++ ds) ≡ digits_value 16 ds
zeros_first zero ds = refl
zeros_first (suc count) ds = zeros_first count ds

number_spelled : (n : ℕ) → n < 16 ^ 64 → digits_value 16 (id_text n) ≡ n
unfolding id_text
number_spelled n short =
    zeros_first (64 - length (digits 16 false n)) (digits 16 false n) ∙ (digits_is_IsNumeral 16 false (lit≤ tt) (lit≤ tt) n short).1

pub id_text-apart : (m n : ℕ) → m < n → n < 16 ^ 64 → bytes_eq (id_text m) (id_text n) ≡ false
id_text-apart m n below short = by_cases (bytes_eq (id_text m) (id_text n))
    (λ e. let same = same_text (id_text m) (id_text n) e in
    let low : m < 16 ^ 64 = omega arith in
    let one : m ≡ n = sym (number_spelled m low) ∙ ap (digits_value 16) same ∙ number_spelled n short in
    absurd (omega (arith, one, below)))
    (λ e. e)
