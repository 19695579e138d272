-- The JSON of a failed pull is one line.
use Rattle.std.proofs.Common.{◌≡◌, ◌<◌, ◌≤◌, ◌∙◌, ℕ, inl, inr, Bool, true, false, not, ◌&&◌, ◌==◌, List, [], ◌∷◌, ◌++◌, if◌then◌else◌, refl, sym, ap, arith, codes, true≢false}
use Rattle.std.proofs.lemmas.Bool.{agree_below_at, and_parts, cases_lt, ne_eqb}
use Rattle.std.specs.List.{list_all}
use Rattle.json.proofs.Printed.Strings.{escape_byte_plain}
use Rattle.json.specs.Print.{escape, escape_byte, quoted}
use Rattle.serde_json.specs.Data.{string}
use Rattle.serde_json.specs.Written.{compact_text}
use Rattle.engine_bodies.specs.Json.{with_member}
use Rattle.response_rules.specs.Lines.{lines, with_byte}
use Rattle.engine_replies.specs.Values.{object_with}

-- no byte is a line feed
abbrev IsLine : List ℕ → Type 0
IsLine text = list_all (λ b. not (b == 10)) text ≡ true

negated : (x : Bool) → not x ≡ true → x ≡ false
negated true e = absurd (true≢false (sym e))
negated false e = refl

both : (x y : Bool) → x ≡ true → y ≡ true → (x && y) ≡ true
both true y e f = f
both false y e f = absurd (true≢false (sym e))

pub one_line : (text : List ℕ) → IsLine text → lines text ≡ text ∷ []
one_line [] h = refl
one_line (b ∷ text) h =
    let p = and_parts (not (b == 10)) (list_all (λ c. not (c == 10)) text) h in
    ap (λ (v : Bool). if v then [] ∷ lines text else with_byte b (lines text)) (negated (b == 10) p.0) ∙ ap (with_byte b) (one_line text p.1)

behind : (s t : List ℕ) → IsLine s → IsLine t → IsLine (s ++ t)
behind [] t h k = k
behind (b ∷ s) t h k =
    let p = and_parts (not (b == 10)) (list_all (λ c. not (c == 10)) s) h in
    both (not (b == 10)) (list_all (λ c. not (c == 10)) (s ++ t)) p.0 (behind s t p.1 k)

low_line : (b : ℕ) → b < 128 → IsLine (escape_byte b)
unfolding escape_byte
low_line b low = agree_below_at (λ x. list_all (λ c. not (c == 10)) (escape_byte x)) (λ _. true) 128 b refl low

high_line : (b : ℕ) → 128 ≤ b → IsLine (escape_byte b)
high_line b high =
    ap (list_all (λ c. not (c == 10))) (escape_byte_plain b (λ e. omega (arith, e, high)) (λ e. omega (arith, e, high)) (omega (arith, high)))
    ∙ ap (λ (v : Bool). not v && true) (ne_eqb b 10 (λ e. omega (arith, e, high)))

byte_line : (b : ℕ) → IsLine (escape_byte b)
byte_line b = elim (cases_lt b 128) [ inl low ↦ low_line b low | inr high ↦ high_line b high ]

escaped_line : (s : List ℕ) → IsLine (escape s)
escaped_line [] = refl
escaped_line (b ∷ s) = behind (escape_byte b) (escape s) (byte_line b) (escaped_line s)

quoted_line : (s : List ℕ) → IsLine (quoted s)
quoted_line s = behind (escape s) (34 ∷ []) (escaped_line s) refl

pub error_line : (message : List ℕ) → IsLine (compact_text (object_with (codes "error") (string message)))
unfolding with_member
error_line message = behind (quoted (codes "error")) (58 ∷ (quoted message ++ (125 ∷ []))) (quoted_line (codes "error")) (behind (quoted message) (125 ∷ []) (quoted_line message) refl)
