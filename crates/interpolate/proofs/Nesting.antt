-- How far the inside of a form goes: over the forms in it, over a name, and in a text that is cut behind it.
use Rattle.std.proofs.Common.{◌≡◌, ◌∙◌, ◌&&◌, not, ℕ, zero, suc, ◌+◌, ◌-◌, ◌<◌, ◌≤◌, Bool, true, false, cond, eqb, List, [], ◌∷◌, length, take, drop, refl, ap, arith, tests}
use Rattle.std.proofs.lemmas.Bool.Decides.{nat_tests}
use Rattle.std.proofs.lemmas.List.{drop-take}
use Rattle.interpolate.specs.Lengths.{starts_name, goes_on_name, run_len, name_len, inside_len}
use Rattle.interpolate.specs.Heads.{inner}

-- a form within a form ends before it
abbrev Nests : List ℕ → Type 0
Nests cs = (opened above : ℕ) (dollar : Bool) → above ≡ opened + 1 → inside_len opened dollar cs < length cs
    → inside_len above dollar cs ≡ inside_len opened dollar cs + 1 + inside_len 0 false (drop (inside_len opened dollar cs + 1) cs)

above_more : (b : Bool) (opened above : ℕ) → above ≡ opened + 1 → cond b (above + 1) above ≡ cond b (opened + 1) opened + 1
above_more true opened above e = omega arith
above_more false opened above e = e

nest_more : (n m c : ℕ) (cs : List ℕ) → m ≡ n + 1 + inside_len 0 false (drop (n + 1) cs) → m + 1 ≡ n + 1 + 1 + inside_len 0 false (drop (n + 1 + 1) (c ∷ cs))
nest_more n m c cs h = let s : n + 1 + 1 ≡ suc (n + 1) = omega arith in rw s (omega arith)

nest_at : (c : ℕ) (cs : List ℕ) → Nests cs → (opened above : ℕ) (dollar : Bool) → above ≡ opened + 1 → (b : Bool) → eqb c 125 ≡ b → (z : Bool) → eqb opened 0 ≡ z
    → inside_len opened dollar (c ∷ cs) < length (c ∷ cs)
    → inside_len above dollar (c ∷ cs) ≡ inside_len opened dollar (c ∷ cs) + 1 + inside_len 0 false (drop (inside_len opened dollar (c ∷ cs) + 1) (c ∷ cs))
nest_at c cs ih opened above dollar up true e true z h =
    let some : eqb above 0 ≡ false = grind (arith, nat_tests, tests) in
    let none : above - 1 ≡ 0 = grind (arith, nat_tests, tests) in
    rw (e, z, some, none) (omega arith)
nest_at c cs ih opened above dollar up true e false z h =
    let some : eqb above 0 ≡ false = grind (arith, nat_tests, tests) in
    let more : above - 1 ≡ opened - 1 + 1 = grind (arith, nat_tests, tests) in
    let less : inside_len (opened - 1) false cs + 1 < suc (length cs) = rw (e, z) at h in
    rw (e, z, some) (nest_more (inside_len (opened - 1) false cs) (inside_len (above - 1) false cs) c cs (ih (opened - 1) (above - 1) false more (omega arith)))
nest_at c cs ih opened above dollar up false e z f h =
    let o = cond (dollar && eqb c 123) (opened + 1) opened in
    let a = cond (dollar && eqb c 123) (above + 1) above in
    let d = eqb c 36 && not dollar in
    let less : inside_len o d cs + 1 < suc (length cs) = rw e at h in
    rw e (nest_more (inside_len o d cs) (inside_len a d cs) c cs (ih o a d (above_more (dollar && eqb c 123) opened above up) (omega arith)))

pub nest : (cs : List ℕ) → Nests cs
nest [] opened above dollar up h = absurd (omega arith)
nest (c ∷ cs) opened above dollar up h = nest_at c cs (nest cs) opened above dollar up (eqb c 125) refl (eqb opened 0) refl h

abbrev IsWithin : List ℕ → Type 0
IsWithin cs = (opened above : ℕ) (dollar : Bool) → above ≡ opened + 1 → inside_len opened dollar cs ≤ inside_len above dollar cs

within_at : (c : ℕ) (cs : List ℕ) → IsWithin cs → (opened above : ℕ) (dollar : Bool) → above ≡ opened + 1 → (b : Bool) → eqb c 125 ≡ b → (z : Bool) → eqb opened 0 ≡ z
    → inside_len opened dollar (c ∷ cs) ≤ inside_len above dollar (c ∷ cs)
within_at c cs ih opened above dollar up true e true z = rw (e, z) (omega arith)
within_at c cs ih opened above dollar up true e false z =
    let some : eqb above 0 ≡ false = grind (arith, nat_tests, tests) in
    let more : above - 1 ≡ opened - 1 + 1 = grind (arith, nat_tests, tests) in
    rw (e, z, some) (omega (arith, ih (opened - 1) (above - 1) false more))
within_at c cs ih opened above dollar up false e z f =
    let o = cond (dollar && eqb c 123) (opened + 1) opened in
    let a = cond (dollar && eqb c 123) (above + 1) above in
    rw e (omega (arith, ih o a (eqb c 36 && not dollar) (above_more (dollar && eqb c 123) opened above up)))

inside_deeper : (cs : List ℕ) → IsWithin cs
inside_deeper [] opened above dollar up = omega arith
inside_deeper (c ∷ cs) opened above dollar up = within_at c cs (inside_deeper cs) opened above dollar up (eqb c 125) refl (eqb opened 0) refl

abbrev IsKept : List ℕ → Type 0
IsKept cs = (many opened : ℕ) (dollar : Bool) → inside_len opened dollar cs < many → inside_len opened dollar (take many cs) ≡ inside_len opened dollar cs

kept_at : (c : ℕ) (cs : List ℕ) → IsKept cs → (many opened : ℕ) (dollar : Bool) → (b : Bool) → eqb c 125 ≡ b → (z : Bool) → eqb opened 0 ≡ z
    → inside_len opened dollar (c ∷ cs) < suc many → inside_len opened dollar (c ∷ take many cs) ≡ inside_len opened dollar (c ∷ cs)
kept_at c cs ih many opened dollar true e true z h = rw (e, z) refl
kept_at c cs ih many opened dollar true e false z h =
    let less : inside_len (opened - 1) false cs + 1 < suc many = rw (e, z) at h in
    rw (e, z) (omega (arith, ih many (opened - 1) false (omega arith)))
kept_at c cs ih many opened dollar false e z f h =
    let o = cond (dollar && eqb c 123) (opened + 1) opened in
    let d = eqb c 36 && not dollar in
    let less : inside_len o d cs + 1 < suc many = rw e at h in
    rw e (omega (arith, ih many o d (omega arith)))

-- a text that is cut behind the inside of a form has the same
pub inside_kept : (cs : List ℕ) → IsKept cs
inside_kept cs zero opened dollar h = absurd (omega arith)
inside_kept [] (suc many) opened dollar h = refl
inside_kept (c ∷ cs) (suc many) opened dollar h = kept_at c cs (inside_kept cs) many opened dollar (eqb c 125) refl (eqb opened 0) refl h

-- a byte that is no brace and no dollar
pub plain_inside : (opened c : ℕ) (cs : List ℕ) → eqb c 125 ≡ false → eqb c 36 ≡ false → inside_len opened false (c ∷ cs) ≡ inside_len opened false cs + 1
plain_inside opened c cs e f = rw (e, f) refl

-- a `$` before a byte that it begins nothing with
pub dollar_alone : (opened c : ℕ) (cs : List ℕ) → eqb c 36 ≡ false → eqb c 123 ≡ false → inside_len opened true (c ∷ cs) ≡ inside_len opened false (c ∷ cs)
dollar_alone opened c cs e f = rw (e, f) refl

-- what stands in a form, where it begins with a byte that is no `}`
pub inner_more : (c : ℕ) (cs : List ℕ) → eqb c 125 ≡ false → eqb c 36 ≡ false → inner (c ∷ cs) ≡ c ∷ inner cs
inner_more c cs e f =
    let size : inside_len 0 false (c ∷ cs) ≡ suc (inside_len 0 false cs) = omega (arith, plain_inside 0 c cs e f) in
    ap (λ (n : ℕ). take n (c ∷ cs)) size

pub inner_none : (c : ℕ) (cs : List ℕ) → eqb c 125 ≡ true → inner (c ∷ cs) ≡ []
inner_none c cs e = let size : inside_len 0 false (c ∷ cs) ≡ 0 = rw e refl in ap (λ (n : ℕ). take n (c ∷ cs)) size

run_none : (many c : ℕ) (cs : List ℕ) → goes_on_name c ≡ false → run_len (take many (c ∷ cs)) ≡ 0
run_none zero c cs e = refl
run_none (suc many) c cs e = rw e refl

run_inner_at : (c : ℕ) (cs : List ℕ) → run_len (inner cs) ≡ run_len cs → (b : Bool) → goes_on_name c ≡ b → run_len (inner (c ∷ cs)) ≡ run_len (c ∷ cs)
run_inner_at c cs ih true e =
    let brace : eqb c 125 ≡ false = grind (arith, nat_tests, tests) in
    let dollar : eqb c 36 ≡ false = grind (arith, nat_tests, tests) in
    ap run_len (inner_more c cs brace dollar) ∙ rw e (ap (λ (n : ℕ). n + 1) ih)
run_inner_at c cs ih false e = run_none (inside_len 0 false (c ∷ cs)) c cs e ∙ rw e refl

-- a name in a form ends there
pub run_inner : (cs : List ℕ) → run_len (inner cs) ≡ run_len cs
run_inner [] = refl
run_inner (c ∷ cs) = run_inner_at c cs (run_inner cs) (goes_on_name c) refl

name_none : (many c : ℕ) (cs : List ℕ) → starts_name c ≡ false → name_len (take many (c ∷ cs)) ≡ 0
name_none zero c cs e = refl
name_none (suc many) c cs e = rw e refl

name_inner_at : (c : ℕ) (cs : List ℕ) → (b : Bool) → starts_name c ≡ b → name_len (inner (c ∷ cs)) ≡ name_len (c ∷ cs)
name_inner_at c cs true e =
    let brace : eqb c 125 ≡ false = grind (arith, nat_tests, tests) in
    let dollar : eqb c 36 ≡ false = grind (arith, nat_tests, tests) in
    ap name_len (inner_more c cs brace dollar) ∙ rw e (ap (λ (n : ℕ). n + 1) (run_inner cs))
name_inner_at c cs false e = name_none (inside_len 0 false (c ∷ cs)) c cs e ∙ rw e refl

pub name_inner : (cs : List ℕ) → name_len (inner cs) ≡ name_len cs
name_inner [] = refl
name_inner (c ∷ cs) = name_inner_at c cs (starts_name c) refl

-- so many bytes in front open and close nothing
abbrev pub Adds : List ℕ → ℕ → Type 0
Adds cs n = inside_len 0 false cs ≡ n + inside_len 0 false (drop n cs)

pub adds_none : (cs : List ℕ) → Adds cs 0
adds_none cs = omega arith

pub adds_more : (c : ℕ) (cs : List ℕ) (n m : ℕ) → eqb c 125 ≡ false → eqb c 36 ≡ false → Adds cs n → m ≡ suc n → Adds (c ∷ cs) m
adds_more c cs n m e f h s = rw s (omega (arith, plain_inside 0 c cs e f))

run_adds_at : (c : ℕ) (cs : List ℕ) → Adds cs (run_len cs) → (b : Bool) → goes_on_name c ≡ b → Adds (c ∷ cs) (run_len (c ∷ cs))
run_adds_at c cs ih true e =
    let brace : eqb c 125 ≡ false = grind (arith, nat_tests, tests) in
    let dollar : eqb c 36 ≡ false = grind (arith, nat_tests, tests) in
    let one : run_len (c ∷ cs) ≡ suc (run_len cs) = rw e (omega arith) in
    adds_more c cs (run_len cs) (run_len (c ∷ cs)) brace dollar ih one
run_adds_at c cs ih false e = let none : run_len (c ∷ cs) ≡ 0 = rw e refl in rw none (adds_none (c ∷ cs))

-- a name opens and closes nothing
pub run_adds : (cs : List ℕ) → Adds cs (run_len cs)
run_adds [] = refl
run_adds (c ∷ cs) = run_adds_at c cs (run_adds cs) (goes_on_name c) refl

name_adds_at : (c : ℕ) (cs : List ℕ) → (b : Bool) → starts_name c ≡ b → Adds (c ∷ cs) (name_len (c ∷ cs))
name_adds_at c cs true e =
    let brace : eqb c 125 ≡ false = grind (arith, nat_tests, tests) in
    let dollar : eqb c 36 ≡ false = grind (arith, nat_tests, tests) in
    let one : name_len (c ∷ cs) ≡ suc (run_len cs) = rw e (omega arith) in
    adds_more c cs (run_len cs) (name_len (c ∷ cs)) brace dollar (run_adds cs) one
name_adds_at c cs false e = let none : name_len (c ∷ cs) ≡ 0 = rw e refl in rw none (adds_none (c ∷ cs))

pub name_adds : (cs : List ℕ) → Adds cs (name_len cs)
name_adds [] = refl
name_adds (c ∷ cs) = name_adds_at c cs (starts_name c) refl

-- what stands in a form, behind bytes of it that open and close nothing
pub inner_behind : (cs : List ℕ) (n : ℕ) → Adds cs n → drop n (inner cs) ≡ inner (drop n cs)
inner_behind cs n h = ap (λ (m : ℕ). drop n (take m cs)) h ∙ drop-take n (inside_len 0 false (drop n cs)) cs

-- a form in a closed form is closed
pub deeper_closed : (cs : List ℕ) → inside_len 1 false cs < length cs → inside_len 0 false cs < length cs
deeper_closed cs h = omega (arith, inside_deeper cs 0 1 false refl)
