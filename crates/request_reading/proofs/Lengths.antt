-- The length that the values of Content-Length say.
use Rattle.std.proofs.Common.{◌≡◌, ℕ, zero, suc, ◌+◌, ◌<◌, ◌≤◌, min, Bool, true, false, ◌&&◌, nat_le, nat_lt, if◌then◌else◌, List, [], ◌∷◌, length, get_or, Option, Some, None, refl, sym, ap, ◌∙◌, arith}
use Rattle.std.proofs.lemmas.Bool.{and_parts, leb-true, lt-ltb}
use Rattle.std.proofs.lemmas.Str.{digit_value_digit}
use Rattle.std.specs.Char.{digit_value, is_ascii_digit}
use Rattle.std.specs.List.{list_all}
use Rattle.std.specs.Option.{option_map}
use Rattle.std.specs.Str.Parse.{digits_value}
use Rattle.response_rules.specs.Heads.{is_length}
use Rattle.request_reading.specs.Requests.{one_length}
use Rattle.request_reading.specs.Stocks.{capped}

abbrev pub AreDigits : List ℕ → Type 0
AreDigits ds = list_all is_ascii_digit ds ≡ true

-- a digit is told by its value
pub digit_is : (d : ℕ) → is_ascii_digit d ≡ true → (digit_value d + 48 ≡ d) × (digit_value d < 10)
digit_is d h =
    let p = and_parts (nat_le 48 d) (nat_le d 57) h in
    let low : 48 ≤ d = leb-true 48 d p.0 in
    let high : d ≤ 57 = leb-true d 57 p.1 in
    let e : digit_value d + 48 ≡ d = digit_value_digit d (low, high) in
    (e, omega (arith, e))

pub digit_at : (ds : List ℕ) (i : ℕ) → AreDigits ds → i < length ds → is_ascii_digit (get_or ds i 0) ≡ true
digit_at [] i h l = absurd (omega arith)
digit_at (d ∷ ds) zero h l = (and_parts (is_ascii_digit d) (list_all is_ascii_digit ds) h).0
digit_at (d ∷ ds) (suc i) h l = digit_at ds i (and_parts (is_ascii_digit d) (list_all is_ascii_digit ds) h).1 (omega arith)

pub is_length_by : (value : List ℕ) (digits : Bool) → (value ≡ [] → ⊥) → digits ≡ list_all is_ascii_digit value → digits ≡ is_length value
is_length_by [] digits some e = absurd (some refl)
is_length_by (b ∷ value) digits some e = e ∙ ap (λ (v : Bool). v && list_all is_ascii_digit (b ∷ value)) (sym (lt-ltb 0 (length (b ∷ value)) (omega arith)))

pub digits_of_length : (value : List ℕ) → is_length value ≡ true → AreDigits value
digits_of_length value h = (and_parts (nat_lt 0 (length value)) (list_all is_ascii_digit value) h).1

-- ---- one value, and no other

pub not_said : (lengths : List (List ℕ)) → lengths ≡ [] → None ≡ option_map capped (one_length lengths)
not_said lengths none = ap (λ (l : List (List ℕ)). option_map capped (one_length l)) (sym none)

two_said : (first second : List ℕ) (more : List (List ℕ)) → None ≡ option_map capped (one_length (first ∷ second ∷ more))
two_said first second more = refl

pub said_twice : (lengths more behind : List (List ℕ)) (first second : List ℕ) → lengths ≡ first ∷ more → more ≡ second ∷ behind
    → None ≡ option_map capped (one_length lengths)
said_twice lengths more behind first second is other =
    two_said first second behind ∙ ap (λ (l : List (List ℕ)). option_map capped (one_length l)) (sym (is ∙ ap (λ (m : List (List ℕ)). first ∷ m) other))

alone : (lengths more : List (List ℕ)) (first : List ℕ) (v : Bool) → lengths ≡ first ∷ more → more ≡ [] → is_length first ≡ v
    → one_length lengths ≡ (if v then Some (digits_value 10 first) else None)
alone lengths more first v is none e =
    ap one_length (is ∙ ap (λ (m : List (List ℕ)). first ∷ m) none) ∙ ap (λ (b : Bool). if b then Some (digits_value 10 first) else None) e

pub said_badly : (lengths more : List (List ℕ)) (first : List ℕ) → lengths ≡ first ∷ more → more ≡ [] → is_length first ≡ false
    → None ≡ option_map capped (one_length lengths)
said_badly lengths more first is none e = sym (ap (option_map capped) (alone lengths more first false is none e))

pub said_once : (lengths more : List (List ℕ)) (first : List ℕ) (n : ℕ) → lengths ≡ first ∷ more → more ≡ [] → is_length first ≡ true
    → n ≡ min (digits_value 10 first) 18446744073709551615 → Some n ≡ option_map capped (one_length lengths)
said_once lengths more first n is none e same = ap Some same ∙ sym (ap (option_map capped) (alone lengths more first true is none e))
