-- A text is cut into the same parts wherever it stands, and however many more levels are left than its forms need.
use Rattle.std.proofs.Common.{◌≡◌, ◌∙◌, ℕ, zero, suc, ◌+◌, ◌-◌, ◌<◌, ◌≤◌, ◌⊎◌, inl, inr, Bool, true, false, eqb, List, [], ◌∷◌, length, take, drop, Result, Ok, Err, refl, ap, subst, arith, tests}
use Rattle.std.proofs.lemmas.Bool.Decides.{nat_tests}
use Rattle.tree_base.specs.Answers.{◌>>=◌}
use Rattle.interpolate.specs.declared.refusal.SubstRefusal.{SubstRefusal}
use Rattle.interpolate.specs.Lengths.{starts_name, inside_len}
use Rattle.interpolate.specs.Shapes.{Part, Literal, Dollar, Name, Value, Form, Unclosed, Wrong, braced_part, dollar_part, first_part, part_len, tail_start}
use Rattle.interpolate.specs.Parts.{Parts, Text, Dollars, Variable, Braced, Reader, before, with_part, cut, tails, parts}

-- a form stands where a level is left
abbrev HasLevel : ℕ → Part → Type 0
HasLevel levels (Literal len) = Unit {0}
HasLevel levels Dollar = Unit {0}
HasLevel levels (Name len) = Unit {0}
HasLevel levels (Value len) = Unit {0}
HasLevel levels (Form name colon action tail) = 0 < levels
HasLevel levels Unclosed = Unit {0}
HasLevel levels Wrong = Unit {0}

any_level : (levels : ℕ) → 0 < levels → (part : Part) → HasLevel levels part
any_level levels some (Literal len) = tt
any_level levels some Dollar = tt
any_level levels some (Name len) = tt
any_level levels some (Value len) = tt
any_level levels some (Form name colon action tail) = some
any_level levels some Unclosed = tt
any_level levels some Wrong = tt

-- with more levels a part is wrong or the same
abbrev IsSame : ℕ → Part → Part → Type 0
IsSame levels part more = (part ≡ Wrong) ⊎ ((more ≡ part) × HasLevel levels part)

module _ (levels more : ℕ) (le : levels ≤ more) where
  braced_same : (text : List ℕ) → (b : Bool) → eqb (inside_len 0 false text) (length text) ≡ b → (z : Bool) → eqb levels 0 ≡ z → IsSame levels (braced_part levels text) (braced_part more text)
  braced_same text true e z f = rw e (inr (refl, tt))
  braced_same text false e true f = rw (e, f) (inl refl)
  braced_same text false e false f =
      let some : 0 < levels = grind (arith, nat_tests, tests) in
      let g : eqb more 0 ≡ false = grind (arith, nat_tests, tests) in
      rw (e, f, g) (inr (refl, any_level levels some _))

  dollar_same : (c : ℕ) (cs : List ℕ) → (b : Bool) → eqb c 36 ≡ b → (d : Bool) → eqb c 123 ≡ d → (s : Bool) → starts_name c ≡ s → IsSame levels (dollar_part levels (c ∷ cs)) (dollar_part more (c ∷ cs))
  dollar_same c cs true e d f s g = rw e (inr (refl, tt))
  dollar_same c cs false e true f s g = rw (e, f) (braced_same cs _ refl _ refl)
  dollar_same c cs false e false f true g = rw (e, f, g) (inr (refl, tt))
  dollar_same c cs false e false f false g = rw (e, f, g) (inr (refl, tt))

  first_by : (c : ℕ) (cs : List ℕ) → (b : Bool) → eqb c 36 ≡ b → IsSame levels (first_part levels (c ∷ cs)) (first_part more (c ∷ cs))
  first_by c [] true e = rw e (inr (refl, tt))
  first_by c (d ∷ ds) true e = rw e (dollar_same d ds _ refl _ refl _ refl)
  first_by c cs false e = rw e (inr (refl, tt))

-- what follows reads as well
abbrev Reads : Result Parts SubstRefusal → Result Parts SubstRefusal → Type 0
Reads read other = (all : Parts) → read ≡ Ok all → other ≡ Ok all

before_same : (part : Parts → Parts) (rest other : Result Parts SubstRefusal) → Reads rest other → Reads (before part rest) (before part other)
before_same part (Ok more) other go all h = ap (before part) (go more refl) ∙ h
before_same part (Err e) other go all h = absurd cc

form_same : (part : Parts → Parts → Parts) (tail other_tail rest other : Result Parts SubstRefusal) → Reads tail other_tail → Reads rest other
    → Reads (tail >>= λ inner. before (part inner) rest) (other_tail >>= λ inner. before (part inner) other)
form_same part (Ok inner) other_tail rest other tails_go go all h =
    ap (λ (r : Result Parts SubstRefusal). r >>= λ inner. before (part inner) other) (tails_go inner refl) ∙ before_same (part inner) rest other go all h
form_same part (Err e) other_tail rest other tails_go go all h = absurd cc

-- a reader of tails reads, at any place, what another one reads
abbrev AllRead : Reader → Reader → Type 0
AllRead read other = (at there : ℕ) (text : List ℕ) → Reads (read at text) (other there text)

with_same : (levels : ℕ) (part : Part) → HasLevel levels part → (read other_read : Reader) → (0 < levels → AllRead read other_read) → (at there : ℕ) (text : List ℕ) (rest other : Result Parts SubstRefusal) → Reads rest other
    → Reads (with_part read at text part rest) (with_part other_read there text part other)
with_same levels (Literal len) level read other_read tails_go at there text rest other go = before_same (Text (take len text)) rest other go
with_same levels Dollar level read other_read tails_go at there text rest other go = before_same Dollars rest other go
with_same levels (Name len) level read other_read tails_go at there text rest other go = before_same (Variable (take len (drop 1 text))) rest other go
with_same levels (Value len) level read other_read tails_go at there text rest other go = before_same (Variable (take len (drop 2 text))) rest other go
with_same levels (Form name colon action tail) level read other_read tails_go at there text rest other go =
    let start = tail_start name colon in
    let inner = take tail (drop start text) in
    form_same (Braced (take name (drop 2 text)) colon action) (read (at + start) inner) (other_read (there + start) inner) rest other (tails_go level (at + start) (there + start) inner) go
with_same levels Unclosed level read other_read tails_go at there text rest other go = λ all h. absurd cc
with_same levels Wrong level read other_read tails_go at there text rest other go = λ all h. absurd cc

module _ (levels more : ℕ) (le : levels ≤ more) (tails_go : 0 < levels → AllRead (tails levels) (tails more)) where
  first_step : (at there c : ℕ) (cs : List ℕ) → IsSame levels (first_part levels (c ∷ cs)) (first_part more (c ∷ cs))
      → ((skip : ℕ) → Reads (cut levels (tails levels) (at + 1) skip cs) (cut more (tails more) (there + 1) skip cs))
      → Reads (cut levels (tails levels) at 0 (c ∷ cs)) (cut more (tails more) there 0 (c ∷ cs))
  first_step at there c cs (inl wrong) go all h =
      let k : with_part (tails levels) at (c ∷ cs) Wrong (cut levels (tails levels) (at + 1) (part_len (first_part levels (c ∷ cs)) - 1) cs) ≡ Ok all =
      subst (λ (part : Part). with_part (tails levels) at (c ∷ cs) part (cut levels (tails levels) (at + 1) (part_len (first_part levels (c ∷ cs)) - 1) cs) ≡ Ok all) wrong h in
      absurd cc
  first_step at there c cs (inr (same, level)) go all h =
      let part = first_part levels (c ∷ cs) in
      ap (λ (p : Part). with_part (tails more) there (c ∷ cs) p (cut more (tails more) (there + 1) (part_len p - 1) cs)) same
      ∙ with_same levels part level (tails levels) (tails more) tails_go at there (c ∷ cs) (cut levels (tails levels) (at + 1) (part_len part - 1) cs) (cut more (tails more) (there + 1) (part_len part - 1) cs) (go (part_len part - 1)) all h

  cut_same : (text : List ℕ) (at there skip : ℕ) → Reads (cut levels (tails levels) at skip text) (cut more (tails more) there skip text)
  cut_same [] at there zero = λ all h. h
  cut_same [] at there (suc skip) = λ all h. h
  cut_same (c ∷ cs) at there (suc skip) = cut_same cs (at + 1) (there + 1) skip
  cut_same (c ∷ cs) at there zero = first_step at there c cs (first_by levels more le c cs _ refl) (cut_same cs (at + 1) (there + 1))

tails_same : (levels more : ℕ) → levels ≤ more → 0 < levels → AllRead (tails levels) (tails more)
tails_same zero more le some = absurd (omega arith)
tails_same (suc levels) zero le some = absurd (omega arith)
tails_same (suc levels) (suc more) le some = λ at there text. cut_same levels more (omega arith) (tails_same levels more (omega arith)) text at there 0

-- the parts of a text, at another place and with more levels
pub parts_same : (levels more : ℕ) → levels ≤ more → (at there : ℕ) (text : List ℕ) (all : Parts) → parts levels at text ≡ Ok all → parts more there text ≡ Ok all
parts_same levels more le at there text all h = cut_same levels more le (tails_same levels more le) text at there 0 all h
