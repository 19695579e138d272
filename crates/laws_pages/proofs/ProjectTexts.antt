-- A text as a page shows it has the value that it was shown for.
use Rattle.std.proofs.Common.{◌≡◌, ◌∙◌, ℕ, suc, ◌≤◌, Bool, true, false, cond, eqb, List, [], ◌∷◌, ◌++◌, length, Ok, refl, sym, ap, flat_map, arith}
use Rattle.std.proofs.lemmas.Bool.{and_parts}
use Rattle.std.proofs.lemmas.Bool.Decides.{nat_tests}
use Rattle.std.specs.List.{list_all}
use Rattle.interpolate.proofs.Filling.{valued_gives}
use Rattle.interpolate.proofs.Plain.{doubled_value}
use Rattle.interpolate.specs.Laws as written
use Rattle.interpolate.specs.Substitution.{Variables, substituted}
use Rattle.project_print.specs.Scalars.{doubled, doubled_byte, is_plain_byte}

-- each dollar is doubled alike
same_doubled : (text : List ℕ) → doubled text ≡ written.doubled text
same_doubled [] = refl
same_doubled (c ∷ cs) = by (eqb c 36) ∙ ap (λ l. cond (eqb c 36) (36 ∷ 36 ∷ l) (c ∷ l)) (same_doubled cs)
  where
    by : (b : Bool) → cond b (36 ∷ 36 ∷ []) (c ∷ []) ++ flat_map doubled_byte cs ≡ cond b (36 ∷ 36 ∷ flat_map doubled_byte cs) (c ∷ flat_map doubled_byte cs)
    by true = refl
    by false = refl

-- a text within the limit whose dollars are doubled has the text as its value
pub text_value : (env : Variables) (text : List ℕ) → length text ≤ 16777216 → substituted env (doubled text) ≡ Ok text
unfolding substituted
text_value env text fits = ap (substituted env) (same_doubled text) ∙ valued_gives 32 env (written.doubled text) text (doubled_value 32 env 0 text) fits

-- and is no shorter
pub is_longer : (text : List ℕ) → length text ≤ length (doubled text)
is_longer [] = omega arith
is_longer (c ∷ cs) = by (is_longer cs) (eqb c 36)
  where
    by : length cs ≤ length (flat_map doubled_byte cs) → (b : Bool) → suc (length cs) ≤ length (cond b (36 ∷ 36 ∷ []) (c ∷ []) ++ flat_map doubled_byte cs)
    by more true = omega (arith, more)
    by more false = omega (arith, more)

no_dollar : (c : ℕ) → is_plain_byte c ≡ true → eqb c 36 ≡ false
no_dollar c plain = grind (arith, nat_tests)

-- a word has no dollars
word_same : (text : List ℕ) → list_all is_plain_byte text ≡ true → doubled text ≡ text
word_same [] plain = refl
word_same (c ∷ cs) plain =
    let parts = and_parts (is_plain_byte c) (list_all is_plain_byte cs) plain in
    ap (λ b. cond b (36 ∷ 36 ∷ []) (c ∷ []) ++ flat_map doubled_byte cs) (no_dollar c parts.0) ∙ ap (λ l. c ∷ l) (word_same cs parts.1)

-- a word within the limit is its own value
pub word_value : (env : Variables) (text : List ℕ) → list_all is_plain_byte text ≡ true → length text ≤ 16777216 → substituted env text ≡ Ok text
word_value env text plain fits = ap (substituted env) (sym (word_same text plain)) ∙ text_value env text fits
