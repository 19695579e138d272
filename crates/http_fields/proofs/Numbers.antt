-- Digits are one number where they are the same but for zeros in front.
use Rattle.std.proofs.Common.{◌≡◌, ℕ, zero, suc, ◌+◌, ◌*◌, ◌<◌, ◌≤◌, Bool, true, false, ◌&&◌, nat_le, nat_lt, if◌then◌else◌, List, [], ◌∷◌, ◌++◌, length, get_or, replicate, ◌==◌, refl, sym, ap, ◌∙◌, arith, true≢false}
use Rattle.std.proofs.lemmas.Bool.{and_parts, eqb-true, eq-eqb, ne_eqb, leb-true, lt-ltb}
use Rattle.std.proofs.lemmas.Slice.Eq.{bytes_eq-Decides}
use Rattle.std.proofs.lemmas.Str.{digit_value_digit}
use Rattle.std.specs.Char.{digit_value, is_ascii_digit}
use Rattle.std.specs.List.{list_all}
use Rattle.std.specs.Str.{bytes_eq}
use Rattle.std.specs.Str.Parse.{digits_value, digits_value_after}
use Rattle.response_rules.specs.Heads.{is_length}
use Rattle.http_fields.specs.Digits.{stripped}

abbrev pub AreDigits : List ℕ → Type 0
AreDigits ds = list_all is_ascii_digit ds ≡ true

-- a digit is told by its value
pub digit_is : (d : ℕ) → is_ascii_digit d ≡ true → (digit_value d + 48 ≡ d) × (digit_value d < 10)
digit_is d h =
    let p = and_parts (nat_le 48 d) (nat_le d 57) h in
    let low : 48 ≤ d = leb-true 48 d p.0 in
    let high : d ≤ 57 = leb-true d 57 p.1 in
    let e : digit_value d + 48 ≡ d = digit_value_digit d (low, high) in
    (e, omega (arith, e))

same_long : (m n : ℕ) (xs ys : List ℕ) → AreDigits xs → AreDigits ys → length xs ≡ length ys
    → digits_value_after 10 m xs ≡ digits_value_after 10 n ys → (m ≡ n) × (xs ≡ ys)
same_long m n [] [] a b l e = (e, refl)
same_long m n [] (y ∷ ys) a b l e = absurd (omega arith)
same_long m n (x ∷ xs) [] a b l e = absurd (omega arith)
same_long m n (x ∷ xs) (y ∷ ys) a b l e =
    let p = and_parts (is_ascii_digit x) (list_all is_ascii_digit xs) a in
    let q = and_parts (is_ascii_digit y) (list_all is_ascii_digit ys) b in
    let i = digit_is x p.0 in
    let j = digit_is y q.0 in
    let r = same_long (m * 10 + digit_value x) (n * 10 + digit_value y) xs ys p.1 q.1 (omega arith) e in
    let s : x ≡ y = omega (arith, r.0, i, j) in
    (omega (arith, r.0, i, j), cc)

pub digit_at : (ds : List ℕ) (i : ℕ) → AreDigits ds → i < length ds → is_ascii_digit (get_or ds i 0) ≡ true
digit_at [] i h l = absurd (omega arith)
digit_at (d ∷ ds) zero h l = (and_parts (is_ascii_digit d) (list_all is_ascii_digit ds) h).0
digit_at (d ∷ ds) (suc i) h l = digit_at ds i (and_parts (is_ascii_digit d) (list_all is_ascii_digit ds) h).1 (omega arith)

-- zeros in front

zeros : ℕ → List ℕ
zeros n = replicate n 48

zeros_digits : (n : ℕ) (ds : List ℕ) → AreDigits ds → AreDigits (zeros n ++ ds)
unfolding zeros
zeros_digits zero ds h = h
zeros_digits (suc n) ds h = zeros_digits n ds h

zeros_value : (n : ℕ) (ds : List ℕ) → digits_value 10 (zeros n ++ ds) ≡ digits_value 10 ds
unfolding zeros
zeros_value zero ds = refl
zeros_value (suc n) ds = zeros_value n ds

zeros_length : (n : ℕ) (ds : List ℕ) → length (zeros n ++ ds) ≡ n + length ds
unfolding zeros
zeros_length zero ds = omega arith
zeros_length (suc n) ds = omega (arith, zeros_length n ds)

zeros_stripped : (n : ℕ) (ds : List ℕ) → stripped (zeros n ++ ds) ≡ stripped ds
unfolding zeros
zeros_stripped zero ds = refl
zeros_stripped (suc n) ds = zeros_stripped n ds

stripped_value : (ds : List ℕ) → digits_value 10 (stripped ds) ≡ digits_value 10 ds
stripped_value [] = refl
stripped_value (d ∷ ds) = at (d == 48) refl (stripped_value ds)
  where
    at : (v : Bool) → (d == 48) ≡ v → digits_value 10 (stripped ds) ≡ digits_value 10 ds → digits_value 10 (if v then stripped ds else d ∷ ds) ≡ digits_value 10 (d ∷ ds)
    at true e more = more ∙ ap (λ (n : ℕ). digits_value 10 (n ∷ ds)) (sym (eqb-true d 48 e))
    at false e more = refl

one_value : (xs ys : List ℕ) → AreDigits xs → AreDigits ys → digits_value 10 xs ≡ digits_value 10 ys → stripped xs ≡ stripped ys
one_value xs ys a b e =
    let front = zeros (length ys) ++ xs in
    let other = zeros (length xs) ++ ys in
    let same = same_long 0 0 front other (zeros_digits (length ys) xs a) (zeros_digits (length xs) ys b)
    (omega (arith, zeros_length (length ys) xs, zeros_length (length xs) ys))
    (zeros_value (length ys) xs ∙ e ∙ sym (zeros_value (length xs) ys)) in
    sym (zeros_stripped (length ys) xs) ∙ ap stripped same.1 ∙ zeros_stripped (length xs) ys

pub compared : (xs ys : List ℕ) → AreDigits xs → AreDigits ys → bytes_eq (stripped xs) (stripped ys) ≡ (digits_value 10 xs == digits_value 10 ys)
compared xs ys a b = at (bytes_eq (stripped xs) (stripped ys)) refl
  where
    at : (v : Bool) → bytes_eq (stripped xs) (stripped ys) ≡ v → v ≡ (digits_value 10 xs == digits_value 10 ys)
    at true e =
        let same : stripped xs ≡ stripped ys = (bytes_eq-Decides (stripped xs) (stripped ys)).0 e in
        sym (eq-eqb (digits_value 10 xs) (digits_value 10 ys) (sym (stripped_value xs) ∙ ap (digits_value 10) same ∙ stripped_value ys))
    at false e =
        sym (ne_eqb (digits_value 10 xs) (digits_value 10 ys) (λ (n : digits_value 10 xs ≡ digits_value 10 ys).
        true≢false (sym ((bytes_eq-Decides (stripped xs) (stripped ys)).1 (one_value xs ys a b n)) ∙ e)))

pub is_length_by : (value : List ℕ) (digits : Bool) → (value ≡ [] → ⊥) → digits ≡ list_all is_ascii_digit value → digits ≡ is_length value
is_length_by [] digits some e = absurd (some refl)
is_length_by (b ∷ value) digits some e = e ∙ ap (λ (v : Bool). v && list_all is_ascii_digit (b ∷ value)) (sym (lt-ltb 0 (length (b ∷ value)) (omega arith)))

pub digits_of_length : (value : List ℕ) → is_length value ≡ true → AreDigits value
digits_of_length value h = (and_parts (nat_lt 0 (length value)) (list_all is_ascii_digit value) h).1
