-- Places of bytes and of characters.
use lib.Utf8.{encode, next}
use Rattle.std.proofs.Common.{◌≡◌, ◌∙◌, ℕ, ◌+◌, ◌/◌, ◌%◌, ◌≤◌, List, [], ◌∷◌, ◌++◌, true, false, eqb, ltb, if◌then◌else◌, refl, ap, inl, inr, arith}
use Rattle.std.proofs.lemmas.Bool.{cases_Bool}
use Rattle.std.specs.Str.{encode_utf8_all}
use Rattle.yaml_lines.specs.Rows.{one_more}
use Rattle.yaml_lines.specs.Scan.{place_after_bytes}
use Rattle.yaml_lines.specs.Laws.{PlacesCountCharacters}

-- a byte that begins no character counts nothing
continuation : (file line column bits : ℕ) (rest : List ℕ) → place_after_bytes file line column (next bits ∷ rest) ≡ place_after_bytes file line column rest
continuation file line column bits rest =
    let feed : eqb (128 + bits % 64) 10 ≡ false = grind arith in
    let high : ltb 127 (128 + bits % 64) ≡ true = grind arith in
    let low : ltb (128 + bits % 64) 192 ≡ true = grind arith in
    rw (feed, high, low) refl

-- a byte that begins a character of several bytes is a column
lead : (file line column b : ℕ) (rest : List ℕ) → 192 ≤ b → place_after_bytes file line column (b ∷ rest) ≡ place_after_bytes file line (one_more column) rest
lead file line column b rest h =
    let feed : eqb b 10 ≡ false = grind arith in
    let high : ltb 127 b ≡ true = grind arith in
    let low : ltb b 192 ≡ false = grind arith in
    rw (feed, high, low) refl

-- a character of one byte is a column, or ends a line
ascii : (file line column c : ℕ) (rest : List ℕ) → ltb c 128 ≡ true
    → place_after_bytes file line column (c ∷ rest) ≡ (if eqb c 10 then place_after_bytes file (one_more line) 1 rest else place_after_bytes file line (one_more column) rest)
ascii file line column c rest h =
    let high : ltb 127 c ≡ false = grind arith in
    rw high refl

-- a character of several bytes is a column
long : (file line column c : ℕ) (rest : List ℕ) → ltb c 128 ≡ false → place_after_bytes file line column (encode c ++ rest) ≡ place_after_bytes file line (one_more column) rest
unfolding encode
long file line column c rest h =
    elim (cases_Bool (ltb c 2048)) [
      | inl two ↦ rw (h, two) (lead file line column (192 + c / 64) (next c ∷ rest) (omega arith) ∙ continuation file line (one_more column) c rest)
      | inr more ↦ elim (cases_Bool (ltb c 65536)) [
        | inl three ↦ rw (h, more, three) (lead file line column (224 + c / 4096) (next (c / 64) ∷ next c ∷ rest) (omega arith) ∙ continuation file line (one_more column) (c / 64) (next c ∷ rest) ∙ continuation file line (one_more column) c rest)
        | inr four ↦ rw (h, more, four) (lead file line column (240 + c / 262144) (next (c / 4096) ∷ next (c / 64) ∷ next c ∷ rest) (omega arith) ∙ continuation file line (one_more column) (c / 4096) (next (c / 64) ∷ next c ∷ rest) ∙ continuation file line (one_more column) (c / 64) (next c ∷ rest) ∙ continuation file line (one_more column) c rest)
      ]
    ]

-- one byte spells a character below 128
short : (c : ℕ) (rest : List ℕ) → ltb c 128 ≡ true → encode c ++ rest ≡ c ∷ rest
unfolding encode
short c rest h = rw h refl

-- the place behind one character
one : (file line column c : ℕ) (rest : List ℕ)
    → place_after_bytes file line column (encode c ++ rest) ≡ (if eqb c 10 then place_after_bytes file (one_more line) 1 rest else place_after_bytes file line (one_more column) rest)
one file line column c rest =
    elim (cases_Bool (ltb c 128)) [
      | inl below ↦ ap (place_after_bytes file line column) (short c rest below) ∙ ascii file line column c rest below
      | inr above ↦ let feed : eqb c 10 ≡ false = grind arith in rw feed (long file line column c rest above)
    ]

pub places : PlacesCountCharacters
places file line column [] = refl
places file line column (c ∷ cs) =
    one file line column c (encode_utf8_all cs)
    ∙ (λ i. if eqb c 10 then places file (one_more line) 1 cs i else places file line (one_more column) cs i)
