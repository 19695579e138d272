-- Bytes that stand for themselves, one at a time.
use Rattle.std.proofs.Common.{◌≡◌, ◌≢◌, ◌∙◌, ℕ, zero, suc, ◌+◌, ◌<◌, Bool, true, false, eqb, List, [], ◌∷◌, ◌++◌, take, drop, Result, Ok, Err, refl, sym, ap, subst, arith, tests}
use Rattle.std.proofs.lemmas.Bool.Decides.{nat_tests}
use Rattle.tree_base.specs.Answers.{◌>>=◌}
use Rattle.interpolate.specs.declared.refusal.SubstRefusal.{SubstRefusal}
use Rattle.interpolate.specs.Lengths.{literal_len}
use Rattle.interpolate.specs.Shapes.{Part, Literal, first_part}
use Rattle.interpolate.specs.Parts.{Parts, Text, Dollars, before, with_part, tails, parts}
use Rattle.interpolate.specs.Substitution.{Variables, value, text_value}
use Rattle.interpolate.specs.Laws.{HasNoDollar, doubled}
use Rattle.interpolate.proofs.Cutting.{parts_first}
use Rattle.interpolate.proofs.Fitting.{literal_within}

abbrev done : List ℕ → Result (List ℕ) SubstRefusal
done text = Ok text

-- a byte before a value
abbrev pub byte_then : ℕ → Result (List ℕ) SubstRefusal → Result (List ℕ) SubstRefusal
byte_then c rest = rest >>= λ more. Ok (c ∷ more)

literal_by : (levels d : ℕ) (ds : List ℕ) (b : Bool) → eqb d 36 ≡ b → 0 < literal_len (d ∷ ds) → first_part levels (d ∷ ds) ≡ Literal (literal_len (d ∷ ds))
literal_by levels d ds true e h = let k : 0 < 0 = rw e at h in absurd (omega arith)
literal_by levels d ds false e h = rw e refl

-- a text that begins with bytes that stand for themselves
literal_first : (levels : ℕ) (cs : List ℕ) → 0 < literal_len cs → first_part levels cs ≡ Literal (literal_len cs)
literal_first levels [] h = absurd (omega arith)
literal_first levels (d ∷ ds) h = literal_by levels d ds (eqb d 36) refl h

run_value : (env : Variables) (run : List ℕ) (c : ℕ) (rest : Result Parts SubstRefusal) → (before (Text (c ∷ run)) rest >>= value env) ≡ byte_then c (before (Text run) rest >>= value env)
run_value env run c (Err e) = refl
run_value env run c (Ok more) = by (value env more)
  where
    by : (r : Result (List ℕ) SubstRefusal) → (r >>= λ more. Ok ((c ∷ run) ++ more)) ≡ byte_then c (r >>= λ more. Ok (run ++ more))
    by (Ok v) = refl
    by (Err e) = refl

one_value : (env : Variables) (c : ℕ) (rest : Result Parts SubstRefusal) → (before (Text (c ∷ [])) rest >>= value env) ≡ byte_then c (rest >>= value env)
one_value env c (Err e) = refl
one_value env c (Ok more) = refl

module _ (levels : ℕ) (env : Variables) where
  parts_literal : (at : ℕ) (text : List ℕ) → 0 < literal_len text → parts levels at text ≡ before (Text (take (literal_len text) text)) (parts levels (at + literal_len text) (drop (literal_len text) text))
  parts_literal at text h =
      let some : text ≢ [] = λ e. (let k : 0 < 0 = subst (λ (l : List ℕ). 0 < literal_len l) e h in omega arith) in
      let is = literal_first levels text h in
      parts_first levels at text (literal_len text) some (rw is refl) h (literal_within text)
      ∙ ap (λ (part : Part). with_part (tails levels) at text part (parts levels (at + literal_len text) (drop (literal_len text) text))) is

  byte_by : (at c : ℕ) (cs : List ℕ) → literal_len (c ∷ cs) ≡ suc (literal_len cs) → (m : ℕ) → literal_len cs ≡ m
      → text_value (parts levels) env at (c ∷ cs) ≡ byte_then c (text_value (parts levels) env (at + 1) cs)
  byte_by at c cs len zero e =
      let one : literal_len (c ∷ cs) ≡ 1 = omega arith in
      ap (λ (r : Result Parts SubstRefusal). r >>= value env) (parts_literal at (c ∷ cs) (omega arith))
      ∙ ap (λ (n : ℕ). before (Text (take n (c ∷ cs))) (parts levels (at + n) (drop n (c ∷ cs))) >>= value env) one
      ∙ one_value env c (parts levels (at + 1) cs)
  byte_by at c cs len (suc m) e =
      let place : at + suc (literal_len cs) ≡ at + 1 + literal_len cs = omega arith in
      ap (λ (r : Result Parts SubstRefusal). r >>= value env) (parts_literal at (c ∷ cs) (omega arith))
      ∙ ap (λ (n : ℕ). before (Text (take n (c ∷ cs))) (parts levels (at + n) (drop n (c ∷ cs))) >>= value env) len
      ∙ ap (λ (k : ℕ). before (Text (c ∷ take (literal_len cs) cs)) (parts levels k (drop (literal_len cs) cs)) >>= value env) place
      ∙ run_value env (take (literal_len cs) cs) c (parts levels (at + 1 + literal_len cs) (drop (literal_len cs) cs))
      ∙ ap (λ (r : Result Parts SubstRefusal). byte_then c (r >>= value env)) (sym (parts_literal (at + 1) cs (omega arith)))

  -- a byte that is no `$` stands before the value of what follows
  pub byte_value : (at c : ℕ) (cs : List ℕ) → eqb c 36 ≡ false → text_value (parts levels) env at (c ∷ cs) ≡ byte_then c (text_value (parts levels) env (at + 1) cs)
  byte_value at c cs e = let k : literal_len cs + 1 ≡ suc (literal_len cs) = omega arith in byte_by at c cs (rw (e, k) refl) (literal_len cs) refl

  pub plain_value : (at : ℕ) (text : List ℕ) → HasNoDollar text → text_value (parts levels) env at text ≡ Ok text
  plain_value at [] h = refl
  plain_value at (c ∷ cs) h =
      let ne : c ≢ 36 = h 0 (omega arith) in
      let e : eqb c 36 ≡ false = grind (arith, nat_tests, tests) in
      byte_value at c cs e ∙ ap (byte_then c) (plain_value (at + 1) cs (λ i lt. h (suc i) (omega arith)))

  dollar_value : (at : ℕ) (cs : List ℕ) → text_value (parts levels) env at (36 ∷ 36 ∷ cs) ≡ byte_then 36 (text_value (parts levels) env (at + 2) cs)
  dollar_value at cs =
      ap (λ (r : Result Parts SubstRefusal). r >>= value env) (parts_first levels at (36 ∷ 36 ∷ cs) 2 (λ e. cc) refl (omega arith) (omega arith))
      ∙ by (parts levels (at + 2) cs)
    where
      by : (r : Result Parts SubstRefusal) → (before Dollars r >>= value env) ≡ byte_then 36 (r >>= value env)
      by (Ok more) = refl
      by (Err e) = refl

  doubled_by : (at c : ℕ) (cs : List ℕ) (b : Bool) → eqb c 36 ≡ b → ((at : ℕ) → text_value (parts levels) env at (doubled cs) ≡ Ok cs) → text_value (parts levels) env at (doubled (c ∷ cs)) ≡ Ok (c ∷ cs)
  doubled_by at c cs true e more =
      let is : c ≡ 36 = grind (arith, nat_tests, tests) in
      rw e (dollar_value at (doubled cs) ∙ ap (byte_then 36) (more (at + 2)) ∙ ap (λ (d : ℕ). done (d ∷ cs)) (sym is))
  doubled_by at c cs false e more = rw e (byte_value at c (doubled cs) e ∙ ap (byte_then c) (more (at + 1)))

  pub doubled_value : (at : ℕ) (text : List ℕ) → text_value (parts levels) env at (doubled text) ≡ Ok text
  doubled_value at [] = refl
  doubled_value at (c ∷ cs) = doubled_by at c cs (eqb c 36) refl (λ k. doubled_value k cs)
