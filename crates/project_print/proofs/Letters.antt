-- Functions of bytes that leave the bytes of other characters than ASCII's as they are.
use Rattle.std.proofs.Common.{◌≡◌, ◌∙◌, ℕ, ◌+◌, ◌/◌, ◌%◌, ◌≤◌, ◌<◌, List, [], ◌∷◌, ◌++◌, Bool, true, false, cond, eqb, ltb, flat_map, refl, sym, ap, inl, inr, append_assoc, arith, tests}
use lib.Utf8.{encode}
use Rattle.std.specs.List.{list_all, list_any}
use Rattle.std.proofs.lemmas.Bool.{and_parts, cases_lt, ltb-true, or_parts}
use Rattle.std.proofs.lemmas.Bool.Decides.{nat_tests}
use Rattle.std.proofs.lemmas.Grind.{flat_map-append}
use Rattle.std.proofs.lemmas.List.{append-nil}
use Rattle.std.proofs.lemmas.Str.{encode_ascii}
use Rattle.project_print.specs.Scalars.{doubled, doubled_byte, escaped, stands_in_quotes}

-- bytes past ASCII
abbrev AreHigh : List ℕ → Type 0
AreHigh [] = Unit {0}
AreHigh (b ∷ bs) = (128 ≤ b) × AreHigh bs

-- the bytes of a character past ASCII
high : (c : ℕ) → 128 ≤ c → AreHigh (encode c)
unfolding encode
high c h = by (ltb c 128) refl
  where
    three : (b : Bool) → AreHigh (cond b ((224 + c / 4096) ∷ (128 + (c / 64) % 64) ∷ (128 + c % 64) ∷ []) ((240 + c / 262144) ∷ (128 + (c / 4096) % 64) ∷ (128 + (c / 64) % 64) ∷ (128 + c % 64) ∷ []))
    three true = (omega arith, (omega arith, (omega arith, tt)))
    three false = (omega arith, (omega arith, (omega arith, (omega arith, tt))))

    two : (b : Bool) → AreHigh (cond b ((192 + c / 64) ∷ (128 + c % 64) ∷ []) (cond (ltb c 65536) ((224 + c / 4096) ∷ (128 + (c / 64) % 64) ∷ (128 + c % 64) ∷ []) ((240 + c / 262144) ∷ (128 + (c / 4096) % 64) ∷ (128 + (c / 64) % 64) ∷ (128 + c % 64) ∷ [])))
    two true = (omega arith, (omega arith, tt))
    two false = three (ltb c 65536)

    by : (b : Bool) → ltb c 128 ≡ b → AreHigh (cond b (c ∷ []) (cond (ltb c 2048) ((192 + c / 64) ∷ (128 + c % 64) ∷ []) (cond (ltb c 65536) ((224 + c / 4096) ∷ (128 + (c / 64) % 64) ∷ (128 + c % 64) ∷ []) ((240 + c / 262144) ∷ (128 + (c / 4096) % 64) ∷ (128 + (c / 64) % 64) ∷ (128 + c % 64) ∷ []))))
    by true e = let low : c < 128 = ltb-true c 128 e in absurd (omega arith)
    by false e = two (ltb c 2048)

module _ (f : ℕ → List ℕ) where
  kept : ((b : ℕ) → 128 ≤ b → f b ≡ b ∷ []) → (bs : List ℕ) → AreHigh bs → flat_map f bs ≡ bs
  kept k [] h = refl
  kept k (b ∷ bs) h = λ i. k b h.0 i ++ kept k bs h.1 i

  -- a character past ASCII stays
  pub high_kept : ((b : ℕ) → 128 ≤ b → f b ≡ b ∷ []) → (c : ℕ) → 128 ≤ c → flat_map f (encode c) ≡ encode c
  high_kept k c h = kept k (encode c) (high c h)

  -- a character of ASCII is one byte
  pub low_mapped : (c : ℕ) → c < 128 → flat_map f (encode c) ≡ f c
  low_mapped c h = ap (flat_map f) (encode_ascii c h) ∙ append-nil (f c)

-- a byte that is no control character, no quote and no backslash stands as it is
pub escaped_plain : (c : ℕ) → 32 ≤ c → eqb c 34 ≡ false → eqb c 92 ≡ false → eqb c 127 ≡ false → escaped c ≡ c ∷ []
escaped_plain c h p q r =
    let a : eqb c 10 ≡ false = grind arith in
    let b : eqb c 13 ≡ false = grind arith in
    let d : eqb c 9 ≡ false = grind arith in
    let e : ltb c 32 ≡ false = grind arith in
    rw (p, q, a, b, d, e, r) refl

pub escaped_high : (c : ℕ) → 128 ≤ c → escaped c ≡ c ∷ []
escaped_high c h = escaped_plain c (omega arith) (grind arith) (grind arith) (grind arith)

pub doubled_high : (c : ℕ) → 128 ≤ c → doubled_byte c ≡ c ∷ []
doubled_high c h = let a : eqb c 36 ≡ false = grind arith in rw a refl

-- a character that needs no escape stands as it is
pub escaped_same : (c : ℕ) → 32 ≤ c → eqb c 34 ≡ false → eqb c 92 ≡ false → eqb c 127 ≡ false → flat_map escaped (encode c) ≡ encode c
escaped_same c h p q r =
    elim (cases_lt c 128) [
      | inl low ↦ low_mapped escaped c low ∙ escaped_plain c h p q r ∙ sym (encode_ascii c low)
      | inr past ↦ high_kept escaped escaped_high c past
    ]

-- and so does one that is no dollar
pub doubled_same : (c : ℕ) → eqb c 36 ≡ false → flat_map doubled_byte (encode c) ≡ encode c
doubled_same c p =
    elim (cases_lt c 128) [
      | inl low ↦ low_mapped doubled_byte c low ∙ rw p refl ∙ sym (encode_ascii c low)
      | inr past ↦ high_kept doubled_byte doubled_high c past
    ]

-- and a text that has none
pub no_dollars : (text : List ℕ) → list_any (λ c. eqb c 36) text ≡ false → doubled text ≡ text
no_dollars [] none = refl
no_dollars (c ∷ cs) none =
    let parts = or_parts (eqb c 36) (list_any (λ c. eqb c 36) cs) none in
    rw parts.0 (ap (λ xs. c ∷ xs) (no_dollars cs parts.1))

byte_stands : (c : ℕ) → stands_in_quotes c ≡ true → escaped c ≡ c ∷ []
byte_stands c h =
    let low : 32 ≤ c = grind (arith, nat_tests, tests) in
    let quote : eqb c 34 ≡ false = grind (arith, nat_tests, tests) in
    let slash : eqb c 92 ≡ false = grind (arith, nat_tests, tests) in
    let gone : eqb c 127 ≡ false = grind (arith, nat_tests, tests) in
    escaped_plain c low quote slash gone

-- a text of which each byte stands in quotes as it is stands in them as it is
pub all_stand : (text : List ℕ) → list_all stands_in_quotes text ≡ true → flat_map escaped text ≡ text
all_stand [] all = refl
all_stand (c ∷ cs) all =
    let parts = and_parts (stands_in_quotes c) (list_all stands_in_quotes cs) all in
    λ i. byte_stands c parts.0 i ++ all_stand cs parts.1 i

-- one character more of those that are mapped
pub mapped_step : (f : ℕ → List ℕ) (c : ℕ) (out new rest text : List ℕ) → text ≡ encode c ++ rest → new ≡ out ++ flat_map f (encode c) → new ++ flat_map f rest ≡ out ++ flat_map f text
mapped_step f c out new rest text e n =
    ap (λ x. x ++ flat_map f rest) n
    ∙ append_assoc out (flat_map f (encode c)) (flat_map f rest)
    ∙ ap (λ x. out ++ x) (sym (flat_map-append f (encode c) rest) ∙ ap (flat_map f) (sym e))
