-- The first part of a text and what it is made of begin and end between characters.
use Rattle.std.proofs.Common.{◌≡◌, ◌≢◌, ◌∙◌, ◌&&◌, not, ℕ, zero, suc, ◌+◌, ◌-◌, ◌<◌, ◌≤◌, Bool, true, false, cond, eqb, List, [], ◌∷◌, length, get_or, take, drop, refl, sym, ap, subst, inl, inr, arith, tests}
use Rattle.std.specs.Str.{IsUtf8, IsCharBoundary}
use Rattle.std.proofs.lemmas.Bool.{cases_lt}
use Rattle.std.proofs.lemmas.Bool.Decides.{nat_tests}
use Rattle.std.proofs.lemmas.List.{length-take, length-drop, get_or-drop, get_or-take}
use Rattle.std.proofs.lemmas.Str.{IsCharBoundary-before_ascii, IsCharBoundary-after_ascii, IsCharBoundary-end}
use Rattle.interpolate.specs.declared.part.Action.{Action}
use Rattle.interpolate.specs.declared.part.Action.TheVariants.{Default, Require, Replace}
use Rattle.interpolate.specs.Lengths.{starts_name, goes_on_name, run_len, name_len, literal_len, inside_len}
use Rattle.interpolate.specs.Shapes.{Value, Form, Unclosed, Wrong, action_part, operator_part, form_part, braced_part, dollar_part, first_part, tail_start}
use Rattle.interpolate.specs.Cuts.{FitsIn, HasName}

goes_on_ascii : (c : ℕ) → goes_on_name c ≡ true → c < 128
goes_on_ascii c e = grind (arith, nat_tests, tests)

starts_ascii : (c : ℕ) → starts_name c ≡ true → c < 128
starts_ascii c e = grind (arith, nat_tests, tests)

run_step : (c : ℕ) (cs : List ℕ) (i : ℕ) (b : Bool) → goes_on_name c ≡ b → ((j : ℕ) → j < run_len cs → get_or cs j 0 < 128) → i < run_len (c ∷ cs) → get_or (c ∷ cs) i 0 < 128
run_step c cs zero true e more h = goes_on_ascii c e
run_step c cs (suc i) true e more h = let k : suc i < run_len cs + 1 = rw e at h in more i (omega arith)
run_step c cs i false e more h = let k : i < 0 = rw e at h in absurd (omega arith)

run_ascii : (cs : List ℕ) (i : ℕ) → i < run_len cs → get_or cs i 0 < 128
run_ascii [] i h = absurd (omega arith)
run_ascii (c ∷ cs) i h = run_step c cs i (goes_on_name c) refl (run_ascii cs) h

name_step : (c : ℕ) (cs : List ℕ) (i : ℕ) (b : Bool) → starts_name c ≡ b → i < name_len (c ∷ cs) → get_or (c ∷ cs) i 0 < 128
name_step c cs zero true e h = starts_ascii c e
name_step c cs (suc i) true e h = let k : suc i < run_len cs + 1 = rw e at h in run_ascii cs i (omega arith)
name_step c cs i false e h = let k : i < 0 = rw e at h in absurd (omega arith)

-- each byte of a name is ASCII
pub name_ascii : (cs : List ℕ) (i : ℕ) → i < name_len cs → get_or cs i 0 < 128
name_ascii [] i h = absurd (omega arith)
name_ascii (c ∷ cs) i h = name_step c cs i (starts_name c) refl h

run_within : (cs : List ℕ) → run_len cs ≤ length cs
run_within [] = omega arith
run_within (c ∷ cs) = elim (goes_on_name c) as (λ b. cond b (run_len cs + 1) 0 ≤ suc (length cs)) [ true ↦ omega (arith, run_within cs) | false ↦ omega arith ]

pub name_within : (cs : List ℕ) → name_len cs ≤ length cs
name_within [] = omega arith
name_within (c ∷ cs) = elim (starts_name c) as (λ b. cond b (run_len cs + 1) 0 ≤ suc (length cs)) [ true ↦ omega (arith, run_within cs) | false ↦ omega arith ]

literal_step : (c : ℕ) (cs : List ℕ) (b : Bool) → eqb c 36 ≡ b → (literal_len cs < length cs → get_or cs (literal_len cs) 0 ≡ 36) → literal_len (c ∷ cs) < length (c ∷ cs) → get_or (c ∷ cs) (literal_len (c ∷ cs)) 0 ≡ 36
literal_step c cs true e more h = rw e (grind (arith, nat_tests, tests))
literal_step c cs false e more h =
    let k : literal_len cs + 1 < suc (length cs) = rw e at h in
    let one : literal_len cs + 1 ≡ suc (literal_len cs) = omega arith in
    rw (e, one) (more (omega arith))

-- what stands behind the bytes before the first `$`
literal_end : (cs : List ℕ) → literal_len cs < length cs → get_or cs (literal_len cs) 0 ≡ 36
literal_end [] h = absurd (omega arith)
literal_end (c ∷ cs) h = literal_step c cs (eqb c 36) refl (literal_end cs) h

pub literal_within : (cs : List ℕ) → literal_len cs ≤ length cs
literal_within [] = omega arith
literal_within (c ∷ cs) = elim (eqb c 36) as (λ b. cond b 0 (literal_len cs + 1) ≤ suc (length cs)) [ true ↦ omega arith | false ↦ omega (arith, literal_within cs) ]

inside_more : (n : ℕ) (c : ℕ) (cs : List ℕ) → (n < length cs → get_or cs n 0 ≡ 125) → n + 1 < suc (length cs) → get_or (c ∷ cs) (n + 1) 0 ≡ 125
inside_more n c cs more h = let one : n + 1 ≡ suc n = omega arith in rw one (more (omega arith))

-- what stands behind the inside of a form
inside_end : (opened : ℕ) (dollar : Bool) (cs : List ℕ) → inside_len opened dollar cs < length cs → get_or cs (inside_len opened dollar cs) 0 ≡ 125
inside_end opened dollar [] h = absurd (omega arith)
inside_end opened dollar (c ∷ cs) h = at (eqb c 125) refl (eqb opened 0) refl (inside_end (opened - 1) false cs) (inside_end _ _ cs) h
  where
    at : (b : Bool) → eqb c 125 ≡ b → (z : Bool) → eqb opened 0 ≡ z
        → (inside_len (opened - 1) false cs < length cs → get_or cs (inside_len (opened - 1) false cs) 0 ≡ 125)
        → (inside_len (cond (dollar && eqb c 123) (opened + 1) opened) (eqb c 36 && not dollar) cs < length cs → get_or cs (inside_len (cond (dollar && eqb c 123) (opened + 1) opened) (eqb c 36 && not dollar) cs) 0 ≡ 125)
        → inside_len opened dollar (c ∷ cs) < length (c ∷ cs) → get_or (c ∷ cs) (inside_len opened dollar (c ∷ cs)) 0 ≡ 125
    at true e true z less more h = rw (e, z) (grind (arith, nat_tests, tests))
    at true e false z less more h = rw (e, z) (inside_more _ c cs less (rw (e, z) at h))
    at false e z f less more h = rw e (inside_more _ c cs more (rw e at h))

pub inside_within : (opened : ℕ) (dollar : Bool) (cs : List ℕ) → inside_len opened dollar cs ≤ length cs
inside_within opened dollar [] = omega arith
inside_within opened dollar (c ∷ cs) =
    elim (eqb c 125) as (λ b. cond b (cond (eqb opened 0) 0 (inside_len (opened - 1) false cs + 1)) (inside_len (cond (dollar && eqb c 123) (opened + 1) opened) (eqb c 36 && not dollar) cs + 1) ≤ suc (length cs)) [
      | true ↦ elim (eqb opened 0) as (λ b. cond b 0 (inside_len (opened - 1) false cs + 1) ≤ suc (length cs)) [ true ↦ omega arith | false ↦ omega (arith, inside_within (opened - 1) false cs) ]
      | false ↦ omega (arith, inside_within (cond (dollar && eqb c 123) (opened + 1) opened) (eqb c 36 && not dollar) cs)
    ]

byte_at : (inner : List ℕ) (n i : ℕ) → i ≡ n + 2 → get_or (36 ∷ 123 ∷ inner) i 0 ≡ get_or inner n 0
byte_at inner n i e = let two : n + 2 ≡ suc (suc n) = omega arith in rw (e, two) refl

-- a place in a form behind an ASCII byte, and before one
behind : (inner : List ℕ) (n i : ℕ) → IsUtf8 (36 ∷ 123 ∷ inner) → n < length inner → get_or inner n 0 < 128 → i ≡ n + 3 → IsCharBoundary (36 ∷ 123 ∷ inner) i
behind inner n i u lt h e =
    let three : i ≡ n + 2 + 1 = omega arith in
    rw three (IsCharBoundary-after_ascii (36 ∷ 123 ∷ inner) (n + 2) u (omega arith) (rw (byte_at inner n (n + 2) refl) h))

ahead : (inner : List ℕ) (n i : ℕ) → n < length inner → get_or inner n 0 < 128 → i ≡ n + 2 → IsCharBoundary (36 ∷ 123 ∷ inner) i
ahead inner n i lt h e = IsCharBoundary-before_ascii (36 ∷ 123 ∷ inner) i (omega arith) (rw (byte_at inner n i e) h)

module _ (levels : ℕ) (inner : List ℕ) (u : IsUtf8 (36 ∷ 123 ∷ inner)) (len : ℕ) (within : len < length inner) (closed : get_or inner len 0 ≡ 125) (left : 0 < levels)
    (name : ℕ) (some : 0 < name) (ends : name ≤ len) (ascii : (i : ℕ) → i < name → get_or inner i 0 < 128) where
  named : HasName (36 ∷ 123 ∷ inner) 2 (name + 2)
  named = record {
    from_cut = IsCharBoundary-after_ascii (36 ∷ 123 ∷ inner) 1 u (omega arith) (omega arith);
    to_cut = behind inner (name - 1) (name + 2) u (omega arith) (ascii (name - 1) (omega arith)) (omega arith);
  }

  value_fits : len ≤ name → FitsIn levels (36 ∷ 123 ∷ inner) (Value name)
  value_fits le = (named, behind inner len (name + 3) u within (omega arith) (omega arith))

  form_fits : (colon : Bool) (action : Action) (tail operator : ℕ) → tail_start name colon ≡ operator + 3 → get_or inner operator 0 < 128 → operator + 1 + tail ≡ len
      → FitsIn levels (36 ∷ 123 ∷ inner) (Form name colon action tail)
  form_fits colon action tail operator is byte sum = (
    left,
    named,
    record {
      from_cut = behind inner operator (tail_start name colon) u (omega arith) byte is;
      to_cut = ahead inner len (tail_start name colon + tail) within (omega arith) (omega (arith, is));
      after_cut = behind inner len (tail_start name colon + tail + 1) u within (omega arith) (omega (arith, is));
    },
  )

  action_fits : (colon : Bool) (rest : List ℕ) (operator : ℕ) → tail_start name colon ≡ operator + 3 → operator + length rest ≡ len → ((c : ℕ) (cs : List ℕ) → rest ≡ c ∷ cs → get_or inner operator 0 ≡ c)
      → FitsIn levels (36 ∷ 123 ∷ inner) (action_part name colon rest)
  action_fits colon [] operator is sum here = tt
  action_fits colon (c ∷ tail) operator is sum here = at (eqb c 45) refl (eqb c 63) refl (eqb c 43) refl
    where
      at : (b : Bool) → eqb c 45 ≡ b → (d : Bool) → eqb c 63 ≡ d → (e : Bool) → eqb c 43 ≡ e → FitsIn levels (36 ∷ 123 ∷ inner) (action_part name colon (c ∷ tail))
      at true p d q e r = rw p (form_fits colon Default (length tail) operator is (rw (here c tail refl) (grind (arith, nat_tests, tests))) (omega arith))
      at false p true q e r = rw (p, q) (form_fits colon Require (length tail) operator is (rw (here c tail refl) (grind (arith, nat_tests, tests))) (omega arith))
      at false p false q true r = rw (p, q, r) (form_fits colon Replace (length tail) operator is (rw (here c tail refl) (grind (arith, nat_tests, tests))) (omega arith))
      at false p false q false r = rw (p, q, r) tt

  operator_fits : (rest : List ℕ) → name + length rest ≡ len → ((i : ℕ) → i < length rest → get_or rest i 0 ≡ get_or inner (name + i) 0)
      → FitsIn levels (36 ∷ 123 ∷ inner) (operator_part name rest)
  operator_fits [] sum at = value_fits (omega arith)
  operator_fits (c ∷ cs) sum at = by (eqb c 58) refl
    where
      first_is : (d : ℕ) (ds : List ℕ) → c ∷ cs ≡ d ∷ ds → get_or inner name 0 ≡ d
      first_is d ds e = let same : c ≡ d = cc in let zero_more : name + 0 ≡ name = omega arith in sym (rw zero_more at (at 0 (omega arith))) ∙ same

      second_is : (d : ℕ) (ds : List ℕ) → cs ≡ d ∷ ds → get_or inner (name + 1) 0 ≡ d
      second_is d ds e = sym (at 1 (omega (arith, ap length e))) ∙ ap (λ (l : List ℕ). get_or l 0 0) e

      by : (b : Bool) → eqb c 58 ≡ b → FitsIn levels (36 ∷ 123 ∷ inner) (operator_part name (c ∷ cs))
      by true e = rw e (action_fits true cs (name + 1) (omega arith) (omega arith) second_is)
      by false e = rw e (action_fits false (c ∷ cs) name refl sum first_is)

form_at : (levels : ℕ) (inner : List ℕ) → IsUtf8 (36 ∷ 123 ∷ inner) → (len : ℕ) → len < length inner → get_or inner len 0 ≡ 125 → 0 < levels
    → (name : ℕ) → name_len (take len inner) ≡ name → (b : Bool) → eqb name 0 ≡ b → FitsIn levels (36 ∷ 123 ∷ inner) (cond b Wrong (operator_part name (drop name (take len inner))))
form_at levels inner u len within closed left name is true e = tt
form_at levels inner u len within closed left name is false e =
    let some : 0 < name = grind (arith, nat_tests, tests) in
    let size : length (take len inner) ≡ len = omega (arith, length-take len inner) in
    let ends : name ≤ len = omega (arith, name_within (take len inner)) in
    let ascii : (i : ℕ) → i < name → get_or inner i 0 < 128 = λ i h. (rw (get_or-take len inner i 0 (omega arith)) at (name_ascii (take len inner) i (omega arith))) in
    operator_fits levels inner u len within closed left name some ends ascii (drop name (take len inner)) (omega (arith, length-drop name (take len inner)))
    (λ i h. get_or-drop name (take len inner) i 0 ∙ get_or-take len inner (name + i) 0 (omega (arith, length-drop name (take len inner))))

braced_fits : (levels : ℕ) (inner : List ℕ) → IsUtf8 (36 ∷ 123 ∷ inner) → (b : Bool) → eqb (inside_len 0 false inner) (length inner) ≡ b → (z : Bool) → eqb levels 0 ≡ z
    → FitsIn levels (36 ∷ 123 ∷ inner) (cond b Unclosed (cond z Wrong (form_part (take (inside_len 0 false inner) inner))))
braced_fits levels inner u true e z f = tt
braced_fits levels inner u false e true f = tt
braced_fits levels inner u false e false f =
    let ne : inside_len 0 false inner ≢ length inner = grind (arith, nat_tests, tests) in
    let left : 0 < levels = grind (arith, nat_tests, tests) in
    let within : inside_len 0 false inner < length inner = omega (arith, inside_within 0 false inner) in
    form_at levels inner u (inside_len 0 false inner) within (inside_end 0 false inner within) left (name_len (take (inside_len 0 false inner) inner)) refl _ refl

dollar_fits : (levels c : ℕ) (cs : List ℕ) → IsUtf8 (36 ∷ c ∷ cs) → (b : Bool) → eqb c 36 ≡ b → (d : Bool) → eqb c 123 ≡ d → (s : Bool) → starts_name c ≡ s → FitsIn levels (36 ∷ c ∷ cs) (dollar_part levels (c ∷ cs))
dollar_fits levels c cs u true e d f s g = rw e (IsCharBoundary-after_ascii (36 ∷ c ∷ cs) 1 u (omega arith) (grind (arith, nat_tests, tests)))
dollar_fits levels c cs u false e true f s g =
    let is : c ≡ 123 = grind (arith, nat_tests, tests) in
    rw (e, f) (subst (λ (x : ℕ). FitsIn levels (36 ∷ x ∷ cs) (braced_part levels cs)) (sym is) (braced_fits levels cs (subst (λ (x : ℕ). IsUtf8 (36 ∷ x ∷ cs)) is u) _ refl _ refl))
dollar_fits levels c cs u false e false f true g =
    let long : 0 < name_len (c ∷ cs) = rw g (omega arith) in
    let one : name_len (c ∷ cs) ≡ suc (name_len (c ∷ cs) - 1) = omega arith in
    rw (e, f, g) (record {
      from_cut = IsCharBoundary-after_ascii (36 ∷ c ∷ cs) 0 u (omega arith) (omega arith);
      to_cut = rw g at (IsCharBoundary-after_ascii (36 ∷ c ∷ cs) (name_len (c ∷ cs)) u (omega (arith, name_within (c ∷ cs))) (rw one (name_ascii (c ∷ cs) (name_len (c ∷ cs) - 1) (omega arith))));
    })
dollar_fits levels c cs u false e false f false g = rw (e, f, g) (omega arith, IsCharBoundary-after_ascii (36 ∷ c ∷ cs) 0 u (omega arith) (omega arith))

literal_cut : (c : ℕ) (cs : List ℕ) → IsCharBoundary (c ∷ cs) (literal_len cs + 1)
literal_cut c cs =
    let one : literal_len cs + 1 ≡ suc (literal_len cs) = omega arith in
    elim (cases_lt (literal_len cs) (length cs)) [
      | inl lt ↦ rw one (IsCharBoundary-before_ascii (c ∷ cs) (suc (literal_len cs)) (omega arith) (omega (arith, literal_end cs lt)))
      | inr le ↦ let all : literal_len cs ≡ length cs = omega (arith, literal_within cs) in rw (one, all) (IsCharBoundary-end (c ∷ cs))
    ]

first_fits : (levels c : ℕ) (cs : List ℕ) → IsUtf8 (c ∷ cs) → (b : Bool) → eqb c 36 ≡ b → FitsIn levels (c ∷ cs) (first_part levels (c ∷ cs))
first_fits levels c [] u true e =
    let is : c ≡ 36 = grind (arith, nat_tests, tests) in
    rw e (omega arith, IsCharBoundary-end (c ∷ []))
first_fits levels c (d ∷ ds) u true e =
    let is : c ≡ 36 = grind (arith, nat_tests, tests) in
    rw e (subst (λ (x : ℕ). FitsIn levels (x ∷ d ∷ ds) (dollar_part levels (d ∷ ds))) (sym is) (dollar_fits levels d ds (subst (λ (x : ℕ). IsUtf8 (x ∷ d ∷ ds)) is u) _ refl _ refl _ refl))
first_fits levels c cs u false e = rw e (omega arith, literal_cut c cs)

pub fits : (levels : ℕ) (text : List ℕ) → IsUtf8 text → text ≢ [] → FitsIn levels text (first_part levels text)
fits levels [] u ne = absurd (ne refl)
fits levels (c ∷ cs) u ne = first_fits levels c cs u _ refl
