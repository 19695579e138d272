-- How far the inside of a form goes: over a name, an operator, and a tail whose braces nest.
use Rattle.std.proofs.Common.{◌≡◌, ◌≢◌, ℕ, suc, ◌+◌, ◌-◌, Bool, true, false, eqb, List, [], ◌∷◌, ◌++◌, append_assoc, length, length-append, refl, ap, arith, tests}
use Rattle.std.proofs.lemmas.Bool.Decides.{nat_tests}
use Rattle.interpolate.specs.Lengths.{starts_name, goes_on_name, run_len, name_len, inside_len}
use Rattle.laws_loading.specs.Defaults.{EndsDollar, NestsBraces, nothing, byte, two_dollars, one_dollar, braces}

runs_by : (x : ℕ) (xs : List ℕ) → (b : Bool) → starts_name x ≡ b → name_len (x ∷ xs) ≡ suc (length xs) → run_len (x ∷ xs) ≡ suc (length xs)
runs_by x xs true e h =
    let k : run_len xs + 1 ≡ suc (length xs) = rw e at h in
    let goes : goes_on_name x ≡ true = grind (arith, nat_tests, tests) in
    rw goes k
runs_by x xs false e h = let k : 0 ≡ suc (length xs) = rw e at h in absurd (omega arith)

-- a name is a run of bytes that go on with a name
pub name_runs : (xs : List ℕ) → name_len xs ≡ length xs → run_len xs ≡ length xs
name_runs [] h = refl
name_runs (x ∷ xs) h = runs_by x xs _ refl h

run_by : (x : ℕ) (xs more : List ℕ) → (b : Bool) → goes_on_name x ≡ b → run_len (x ∷ xs) ≡ suc (length xs) → (run_len xs ≡ length xs → run_len (xs ++ more) ≡ length xs) → run_len (x ∷ (xs ++ more)) ≡ suc (length xs)
run_by x xs more true e h go = let k : run_len xs + 1 ≡ suc (length xs) = rw e at h in rw e (omega (arith, go (omega arith)))
run_by x xs more false e h go = let k : 0 ≡ suc (length xs) = rw e at h in absurd (omega arith)

run_ends : (xs : List ℕ) (c : ℕ) (more : List ℕ) → run_len xs ≡ length xs → goes_on_name c ≡ false → run_len (xs ++ c ∷ more) ≡ length xs
run_ends [] c more h e = rw e refl
run_ends (x ∷ xs) c more h e = run_by x xs (c ∷ more) _ refl h (λ k. run_ends xs c more k e)

name_by : (x : ℕ) (xs more : List ℕ) → (b : Bool) → starts_name x ≡ b → name_len (x ∷ xs) ≡ suc (length xs) → (run_len xs ≡ length xs → run_len (xs ++ more) ≡ length xs) → name_len (x ∷ (xs ++ more)) ≡ suc (length xs)
name_by x xs more true e h go = let k : run_len xs + 1 ≡ suc (length xs) = rw e at h in rw e (omega (arith, go (omega arith)))
name_by x xs more false e h go = let k : 0 ≡ suc (length xs) = rw e at h in absurd (omega arith)

-- a name ends before a byte that doesn't go on with it
pub name_ends : (xs : List ℕ) (c : ℕ) (more : List ℕ) → xs ≢ [] → name_len xs ≡ length xs → goes_on_name c ≡ false → name_len (xs ++ c ∷ more) ≡ length xs
name_ends [] c more some h e = absurd (some refl)
name_ends (x ∷ xs) c more some h e = name_by x xs (c ∷ more) _ refl h (λ k. run_ends xs c more k e)

-- a byte that is no brace and no dollar
pub plain_inside : (opened c : ℕ) (more : List ℕ) → eqb c 125 ≡ false → eqb c 36 ≡ false → inside_len opened false (c ∷ more) ≡ inside_len opened false more + 1
plain_inside opened c more e f = rw (e, f) refl

inside_by : (x : ℕ) (xs more : List ℕ) → (b : Bool) → goes_on_name x ≡ b → run_len (x ∷ xs) ≡ suc (length xs) → (run_len xs ≡ length xs → inside_len 0 false (xs ++ more) ≡ length xs + inside_len 0 false more)
    → inside_len 0 false (x ∷ (xs ++ more)) ≡ suc (length xs) + inside_len 0 false more
inside_by x xs more true e h go =
    let k : run_len xs + 1 ≡ suc (length xs) = rw e at h in
    let brace : eqb x 125 ≡ false = grind (arith, nat_tests, tests) in
    let dollar : eqb x 36 ≡ false = grind (arith, nat_tests, tests) in
    omega (arith, plain_inside 0 x (xs ++ more) brace dollar, go (omega arith))
inside_by x xs more false e h go = let k : 0 ≡ suc (length xs) = rw e at h in absurd (omega arith)

-- a name opens and closes no braces
pub name_inside : (xs more : List ℕ) → run_len xs ≡ length xs → inside_len 0 false (xs ++ more) ≡ length xs + inside_len 0 false more
name_inside [] more h = omega arith
name_inside (x ∷ xs) more h = inside_by x xs more _ refl h (name_inside xs more)

-- a dollar that stands for itself opens nothing
dollar_passed : (opened : ℕ) (rest more : List ℕ) → EndsDollar rest → inside_len opened true (rest ++ 125 ∷ more) ≡ inside_len opened false (rest ++ 125 ∷ more)
dollar_passed opened [] more ends = refl
dollar_passed opened (c ∷ cs) more (not_dollar, not_brace) =
    let e : eqb c 36 ≡ false = grind (arith, nat_tests, tests) in
    let f : eqb c 123 ≡ false = grind (arith, nat_tests, tests) in
    rw (e, f) refl

closed : (opened : ℕ) (more : List ℕ) → inside_len (opened + 1) false (125 ∷ more) ≡ inside_len opened false more + 1
closed opened more =
    let e : eqb (opened + 1) 0 ≡ false = grind (arith, nat_tests, tests) in
    let one : opened + 1 - 1 ≡ opened = omega arith in
    rw (e, one) refl

-- a text whose braces nest is passed as a whole
pub nested_inside : (text : List ℕ) → NestsBraces text → (opened : ℕ) (more : List ℕ) → inside_len opened false (text ++ 125 ∷ more) ≡ length text + inside_len opened false (125 ∷ more)
nested_inside text nothing opened more = omega arith
nested_inside text (byte c rest not_dollar not_brace nested) opened more =
    let e : eqb c 125 ≡ false = grind (arith, nat_tests, tests) in
    let f : eqb c 36 ≡ false = grind (arith, nat_tests, tests) in
    omega (arith, plain_inside opened c (rest ++ 125 ∷ more) e f, nested_inside rest nested opened more)
nested_inside text (two_dollars rest nested) opened more =
    let two : inside_len opened false (36 ∷ 36 ∷ (rest ++ 125 ∷ more)) ≡ inside_len opened false (rest ++ 125 ∷ more) + 1 + 1 = refl in
    omega (arith, two, nested_inside rest nested opened more)
nested_inside text (one_dollar rest ends nested) opened more =
    let one : inside_len opened false (36 ∷ (rest ++ 125 ∷ more)) ≡ inside_len opened true (rest ++ 125 ∷ more) + 1 = refl in
    omega (arith, one, dollar_passed opened rest more ends, nested_inside rest nested opened more)
nested_inside text (braces inner rest inside behind) opened more =
    let two : inside_len opened false (36 ∷ 123 ∷ ((inner ++ 125 ∷ rest) ++ 125 ∷ more)) ≡ inside_len (opened + 1) false ((inner ++ 125 ∷ rest) ++ 125 ∷ more) + 1 + 1 = refl in
    let cut : inside_len (opened + 1) false ((inner ++ 125 ∷ rest) ++ 125 ∷ more) ≡ inside_len (opened + 1) false (inner ++ 125 ∷ (rest ++ 125 ∷ more)) =
    ap (inside_len (opened + 1) false) (append_assoc inner (125 ∷ rest) (125 ∷ more)) in
    let size : length (inner ++ 125 ∷ rest) ≡ length inner + suc (length rest) = length-append inner (125 ∷ rest) in
    omega (arith, two, cut, size, nested_inside inner inside (opened + 1) (rest ++ 125 ∷ more), closed opened (rest ++ 125 ∷ more), nested_inside rest behind opened more)
