-- What is read of the first part of a text that may stand in a form, and how the inside of that form goes on behind it.
use Rattle.std.proofs.Common.{◌≡◌, ◌≢◌, ◌∙◌, ℕ, zero, suc, ◌+◌, ◌-◌, ◌<◌, ◌≤◌, Bool, true, false, cond, eqb, List, [], ◌∷◌, length, get_or, take, drop, refl, sym, ap, subst, arith, tests}
use Rattle.std.specs.Str.{IsUtf8}
use Rattle.std.proofs.lemmas.Bool.Decides.{nat_tests}
use Rattle.std.proofs.lemmas.List.{at_drop_more, drop-drop, length-drop, length-take-le, take_all, take-take}
use Rattle.std.proofs.lemmas.Str.{IsCharBoundary-before_ascii}
use Rattle.interpolate.specs.declared.part.Action.{Action}
use Rattle.interpolate.specs.declared.part.Action.TheVariants.{Default, Require, Replace}
use Rattle.interpolate.specs.declared.part.Head.TheVariants as heads
use Rattle.interpolate.specs.Lengths.{starts_name, name_len, literal_len, inside_len}
use Rattle.interpolate.specs.Shapes.{Part, Literal, Dollar, Name, Value, Form, Unclosed, Wrong, action_part, operator_part, form_part, braced_part, dollar_part, first_part, tail_start}
use Rattle.interpolate.specs.Heads.{inner, own, IsClosed, stops, head_of, part_of}
use Rattle.interpolate.specs.Cuts.{FitsIn}
use Rattle.interpolate.proofs.Fitting.{fits, inside_within}
use Rattle.interpolate.proofs.Nesting.{nest, inside_kept, plain_inside, dollar_alone, inner_more, inner_none, run_inner, name_inner, Adds, adds_none, adds_more, name_adds, inner_behind, deeper_closed}

-- bytes that stand for themselves

literal_none : (many c : ℕ) (cs : List ℕ) → eqb c 36 ≡ true → literal_len (take many (c ∷ cs)) ≡ 0
literal_none zero c cs e = refl
literal_none (suc many) c cs e = rw e refl

literal_at : (inside : Bool) (c : ℕ) (cs : List ℕ) → (d : Bool) → eqb c 36 ≡ d → (b : Bool) → eqb c 125 ≡ b → literal_len (own inside (c ∷ cs)) ≡ cond (stops inside c) 0 (literal_len (own inside cs) + 1)
literal_at true c cs true e b f = literal_none (inside_len 0 false (c ∷ cs)) c cs e ∙ rw e refl
literal_at true c cs false e true f = ap literal_len (inner_none c cs f) ∙ rw (e, f) refl
literal_at true c cs false e false f = ap literal_len (inner_more c cs f e) ∙ rw (e, f) refl
literal_at false c cs true e b f = rw e refl
literal_at false c cs false e b f = rw e refl

pub literal_own : (inside : Bool) (c : ℕ) (cs : List ℕ) → literal_len (own inside (c ∷ cs)) ≡ cond (stops inside c) 0 (literal_len (own inside cs) + 1)
literal_own inside c cs = literal_at inside c cs (eqb c 36) refl (eqb c 125) refl

literal_adds_at : (c : ℕ) (cs : List ℕ) → Adds cs (literal_len (inner cs)) → (d : Bool) → eqb c 36 ≡ d → (b : Bool) → eqb c 125 ≡ b → Adds (c ∷ cs) (literal_len (inner (c ∷ cs)))
literal_adds_at c cs ih true e b f = let none : literal_len (inner (c ∷ cs)) ≡ 0 = literal_own true c cs ∙ rw e refl in subst (Adds (c ∷ cs)) (sym none) (adds_none (c ∷ cs))
literal_adds_at c cs ih false e true f = let none : literal_len (inner (c ∷ cs)) ≡ 0 = literal_own true c cs ∙ rw (e, f) refl in subst (Adds (c ∷ cs)) (sym none) (adds_none (c ∷ cs))
literal_adds_at c cs ih false e false f =
    let more : literal_len (inner (c ∷ cs)) ≡ literal_len (inner cs) + 1 = literal_own true c cs ∙ rw (e, f) refl in
    adds_more c cs (literal_len (inner cs)) (literal_len (inner (c ∷ cs))) f e ih (omega arith)

literal_adds : (cs : List ℕ) → Adds cs (literal_len (inner cs))
literal_adds [] = refl
literal_adds (c ∷ cs) = literal_adds_at c cs (literal_adds cs) (eqb c 36) refl (eqb c 125) refl

-- behind them stands an ASCII byte
abbrev StopsAscii : List ℕ → ℕ → Type 0
StopsAscii cs n = (n < length cs) × (get_or cs n 0 < 128)

stop_more : (c : ℕ) (cs : List ℕ) (n m : ℕ) → StopsAscii cs n → m ≡ suc n → StopsAscii (c ∷ cs) m
stop_more c cs n m h s = rw s (omega (arith, h.0), h.1)

literal_stops_at : (c : ℕ) (cs : List ℕ) → (inside_len 0 false cs < length cs → StopsAscii cs (literal_len (inner cs))) → (d : Bool) → eqb c 36 ≡ d → (b : Bool) → eqb c 125 ≡ b → inside_len 0 false (c ∷ cs) < length (c ∷ cs)
    → StopsAscii (c ∷ cs) (literal_len (inner (c ∷ cs)))
literal_stops_at c cs ih true e b f h =
    let none : literal_len (inner (c ∷ cs)) ≡ 0 = literal_own true c cs ∙ rw e refl in
    subst (StopsAscii (c ∷ cs)) (sym none) (omega arith, grind (arith, nat_tests, tests))
literal_stops_at c cs ih false e true f h =
    let none : literal_len (inner (c ∷ cs)) ≡ 0 = literal_own true c cs ∙ rw (e, f) refl in
    subst (StopsAscii (c ∷ cs)) (sym none) (omega arith, grind (arith, nat_tests, tests))
literal_stops_at c cs ih false e false f h =
    let more : literal_len (inner (c ∷ cs)) ≡ literal_len (inner cs) + 1 = literal_own true c cs ∙ rw (e, f) refl in
    stop_more c cs (literal_len (inner cs)) (literal_len (inner (c ∷ cs))) (ih (omega (arith, plain_inside 0 c cs f e))) (omega arith)

literal_stops : (cs : List ℕ) → inside_len 0 false cs < length cs → StopsAscii cs (literal_len (inner cs))
literal_stops [] h = absurd (omega arith)
literal_stops (c ∷ cs) h = literal_stops_at c cs (literal_stops cs) (eqb c 36) refl (eqb c 125) refl h

-- an operator

action_other : (name : ℕ) (colon : Bool) (many c : ℕ) (cs : List ℕ) → eqb c 45 ≡ false → eqb c 63 ≡ false → eqb c 43 ≡ false → action_part name colon (take many (c ∷ cs)) ≡ Wrong
action_other name colon zero c cs e f g = refl
action_other name colon (suc many) c cs e f g = rw (e, f, g) refl

module _ (name : ℕ) (colon : Bool) (c : ℕ) (cs : List ℕ) where
  action_taken : (action : Action) → eqb c 125 ≡ false → eqb c 36 ≡ false → action_part name colon (c ∷ inner cs) ≡ Form name colon action (length (inner cs)) → action_part name colon (inner (c ∷ cs)) ≡ Form name colon action (inside_len 0 false cs)
  action_taken action e f is =
      ap (action_part name colon) (inner_more c cs e f) ∙ is ∙ ap (Form name colon action) (length-take-le (inside_len 0 false cs) cs (inside_within 0 false cs))

  -- what an operator begins, by its byte
  action_is : (b : Bool) → eqb c 45 ≡ b → (d : Bool) → eqb c 63 ≡ d → (e : Bool) → eqb c 43 ≡ e
      → action_part name colon (inner (c ∷ cs)) ≡ cond (eqb c 45) (Form name colon Default (inside_len 0 false cs)) (cond (eqb c 63) (Form name colon Require (inside_len 0 false cs)) (cond (eqb c 43) (Form name colon Replace (inside_len 0 false cs)) Wrong))
  action_is true p d q e r = rw p (action_taken Default (grind (arith, nat_tests, tests)) (grind (arith, nat_tests, tests)) (rw p refl))
  action_is false p true q e r = rw (p, q) (action_taken Require (grind (arith, nat_tests, tests)) (grind (arith, nat_tests, tests)) (rw (p, q) refl))
  action_is false p false q true r = rw (p, q, r) (action_taken Replace (grind (arith, nat_tests, tests)) (grind (arith, nat_tests, tests)) (rw (p, q, r) refl))
  action_is false p false q false r = rw (p, q, r) (action_other name colon (inside_len 0 false (c ∷ cs)) c cs p q r)

  -- what is read of it is the same without the `}`
  action_head : (b : Bool) → eqb c 45 ≡ b → (d : Bool) → eqb c 63 ≡ d → (e : Bool) → eqb c 43 ≡ e → head_of (action_part name colon (inner (c ∷ cs))) ≡ head_of (action_part name colon (c ∷ cs))
  action_head b p d q e r = ap head_of (action_is b p d q e r) ∙ forget b p d q e r
    where
      forget : (b : Bool) → eqb c 45 ≡ b → (d : Bool) → eqb c 63 ≡ d → (e : Bool) → eqb c 43 ≡ e
          → head_of (cond (eqb c 45) (Form name colon Default (inside_len 0 false cs)) (cond (eqb c 63) (Form name colon Require (inside_len 0 false cs)) (cond (eqb c 43) (Form name colon Replace (inside_len 0 false cs)) Wrong))) ≡ head_of (action_part name colon (c ∷ cs))
      forget true p d q e r = rw p refl
      forget false p true q e r = rw (p, q) refl
      forget false p false q true r = rw (p, q, r) refl
      forget false p false q false r = rw (p, q, r) refl

action_inner : (name : ℕ) (colon : Bool) (cs : List ℕ) → head_of (action_part name colon (inner cs)) ≡ head_of (action_part name colon cs)
action_inner name colon [] = refl
action_inner name colon (c ∷ cs) = action_head name colon c cs (eqb c 45) refl (eqb c 63) refl (eqb c 43) refl

operator_other : (name many c : ℕ) (cs : List ℕ) → eqb c 58 ≡ false → 0 < many → operator_part name (take many (c ∷ cs)) ≡ action_part name false (take many (c ∷ cs))
operator_other name zero c cs e h = absurd (omega arith)
operator_other name (suc many) c cs e h = rw e refl

operator_colon : (name c : ℕ) (cs : List ℕ) → eqb c 58 ≡ true → operator_part name (inner (c ∷ cs)) ≡ action_part name true (inner cs)
operator_colon name c cs e = ap (operator_part name) (inner_more c cs (grind (arith, nat_tests, tests)) (grind (arith, nat_tests, tests))) ∙ rw e refl

pub some_inside : (c : ℕ) (cs : List ℕ) → eqb c 125 ≡ false → 0 < inside_len 0 false (c ∷ cs)
some_inside c cs e = rw e (omega arith)

operator_plain : (name c : ℕ) (cs : List ℕ) → eqb c 125 ≡ false → eqb c 58 ≡ false → operator_part name (inner (c ∷ cs)) ≡ action_part name false (inner (c ∷ cs))
operator_plain name c cs e f = operator_other name (inside_len 0 false (c ∷ cs)) c cs f (some_inside c cs e)

operator_at : (name c : ℕ) (cs : List ℕ) → (b : Bool) → eqb c 125 ≡ b → (d : Bool) → eqb c 58 ≡ d
    → head_of (operator_part name (inner (c ∷ cs))) ≡ cond (eqb c 125) (heads.Value name) (cond (eqb c 58) (head_of (action_part name true cs)) (head_of (action_part name false (c ∷ cs))))
operator_at name c cs true e d f = ap (λ (l : List ℕ). head_of (operator_part name l)) (inner_none c cs e) ∙ rw e refl
operator_at name c cs false e true f = ap head_of (operator_colon name c cs f) ∙ action_inner name true cs ∙ rw (e, f) refl
operator_at name c cs false e false f = ap head_of (operator_plain name c cs e f) ∙ action_inner name false (c ∷ cs) ∙ rw (e, f) refl

-- what is read behind a name in braces
pub operator_inner : (name c : ℕ) (cs : List ℕ)
    → head_of (operator_part name (inner (c ∷ cs))) ≡ cond (eqb c 125) (heads.Value name) (cond (eqb c 58) (head_of (action_part name true cs)) (head_of (action_part name false (c ∷ cs))))
operator_inner name c cs = operator_at name c cs (eqb c 125) refl (eqb c 58) refl

form_is : (cs : List ℕ) → form_part (inner cs) ≡ cond (eqb (name_len cs) 0) Wrong (operator_part (name_len cs) (inner (drop (name_len cs) cs)))
form_is cs =
    ap (λ (n : ℕ). cond (eqb n 0) Wrong (operator_part n (drop n (inner cs)))) (name_inner cs)
    ∙ ap (λ (l : List ℕ). cond (eqb (name_len cs) 0) Wrong (operator_part (name_len cs) l)) (inner_behind cs (name_len cs) (name_adds cs))

-- what is read in the braces of a form
pub form_inner : (cs : List ℕ) → head_of (form_part (inner cs)) ≡ cond (eqb (name_len cs) 0) heads.Wrong (head_of (operator_part (name_len cs) (inner (drop (name_len cs) cs))))
form_inner cs = ap head_of (form_is cs) ∙ by (eqb (name_len cs) 0)
  where
    by : (b : Bool) → head_of (cond b Wrong (operator_part (name_len cs) (inner (drop (name_len cs) cs)))) ≡ cond b heads.Wrong (head_of (operator_part (name_len cs) (inner (drop (name_len cs) cs))))
    by true = refl
    by false = refl

-- how a text goes on behind its first part

-- the part opens and closes nothing, and a tail is what its form has up to its `}`
abbrev pub IsRead : List ℕ → Part → Type 0
IsRead text (Literal len) = Adds text len
IsRead text Dollar = Adds text 2
IsRead text (Name len) = Adds text (len + 1)
IsRead text (Value len) = Adds text (len + 3)
IsRead text (Form name colon action tail) = Adds text (tail_start name colon + tail + 1) × (inside_len 0 false (drop (tail_start name colon) text) ≡ tail)
IsRead text Unclosed = Unit {0}
IsRead text Wrong = Unit {0}

abbrev pub width : Bool → ℕ
width colon = cond colon 2 1

pub start_is : (name : ℕ) (colon : Bool) → tail_start name colon ≡ name + width colon + 2
start_is name true = omega arith
start_is name false = omega arith

-- what stands behind a name in braces, by the part that it makes
abbrev IsOperator : ℕ → List ℕ → Part → Type 0
IsOperator name cs (Literal len) = ⊥
IsOperator name cs Dollar = ⊥
IsOperator name cs (Name len) = ⊥
IsOperator name cs (Value len) = (len ≡ name) × (inside_len 0 false cs ≡ 0)
IsOperator name cs (Form n colon action tail) = (n ≡ name) × ((inside_len 0 false cs ≡ width colon + tail) × (inside_len 0 false (drop (width colon) cs) ≡ tail))
IsOperator name cs Unclosed = Unit {0}
IsOperator name cs Wrong = Unit {0}

-- an operator with its colon, from the colon on, and without one
abbrev IsAction : ℕ → Bool → List ℕ → Part → Type 0
IsAction name colon cs (Literal len) = ⊥
IsAction name colon cs Dollar = ⊥
IsAction name colon cs (Name len) = ⊥
IsAction name colon cs (Value len) = ⊥
IsAction name colon cs (Form n with_colon action tail) = (n ≡ name) × ((with_colon ≡ colon) × ((inside_len 0 false cs ≡ 1 + tail) × (inside_len 0 false (drop 1 cs) ≡ tail)))
IsAction name colon cs Unclosed = Unit {0}
IsAction name colon cs Wrong = Unit {0}

action_read_at : (name : ℕ) (colon : Bool) (c : ℕ) (cs : List ℕ) → (b : Bool) → eqb c 45 ≡ b → (d : Bool) → eqb c 63 ≡ d → (e : Bool) → eqb c 43 ≡ e
    → IsAction name colon (c ∷ cs) (cond (eqb c 45) (Form name colon Default (inside_len 0 false cs)) (cond (eqb c 63) (Form name colon Require (inside_len 0 false cs)) (cond (eqb c 43) (Form name colon Replace (inside_len 0 false cs)) Wrong)))
action_read_at name colon c cs true p d q e r =
    let size : inside_len 0 false (c ∷ cs) ≡ inside_len 0 false cs + 1 = plain_inside 0 c cs (grind (arith, nat_tests, tests)) (grind (arith, nat_tests, tests)) in
    rw p (refl, (refl, (omega (arith, size), refl)))
action_read_at name colon c cs false p true q e r =
    let size : inside_len 0 false (c ∷ cs) ≡ inside_len 0 false cs + 1 = plain_inside 0 c cs (grind (arith, nat_tests, tests)) (grind (arith, nat_tests, tests)) in
    rw (p, q) (refl, (refl, (omega (arith, size), refl)))
action_read_at name colon c cs false p false q true r =
    let size : inside_len 0 false (c ∷ cs) ≡ inside_len 0 false cs + 1 = plain_inside 0 c cs (grind (arith, nat_tests, tests)) (grind (arith, nat_tests, tests)) in
    rw (p, q, r) (refl, (refl, (omega (arith, size), refl)))
action_read_at name colon c cs false p false q false r = rw (p, q, r) tt

action_read : (name : ℕ) (colon : Bool) (cs : List ℕ) → IsAction name colon cs (action_part name colon (inner cs))
action_read name colon [] = tt
action_read name colon (c ∷ cs) =
    subst (IsAction name colon (c ∷ cs)) (sym (action_is name colon c cs (eqb c 45) refl (eqb c 63) refl (eqb c 43) refl)) (action_read_at name colon c cs (eqb c 45) refl (eqb c 63) refl (eqb c 43) refl)

colon_read : (name c : ℕ) (cs : List ℕ) → eqb c 58 ≡ true → (part : Part) → IsAction name true cs part → IsOperator name (c ∷ cs) part
colon_read name c cs e (Literal len) h = h
colon_read name c cs e Dollar h = h
colon_read name c cs e (Name len) h = h
colon_read name c cs e (Value len) h = absurd h
colon_read name c cs e (Form n colon action tail) h =
    let size : inside_len 0 false (c ∷ cs) ≡ inside_len 0 false cs + 1 = plain_inside 0 c cs (grind (arith, nat_tests, tests)) (grind (arith, nat_tests, tests)) in
    let with_colon = h.1.0 in
    rw with_colon (h.0, (omega (arith, size, h.1.1.0), h.1.1.1))
colon_read name c cs e Unclosed h = tt
colon_read name c cs e Wrong h = tt

plain_read : (name : ℕ) (cs : List ℕ) (part : Part) → IsAction name false cs part → IsOperator name cs part
plain_read name cs (Literal len) h = h
plain_read name cs Dollar h = h
plain_read name cs (Name len) h = h
plain_read name cs (Value len) h = absurd h
plain_read name cs (Form n colon action tail) h = let with_colon = h.1.0 in rw with_colon (h.0, h.1.1)
plain_read name cs Unclosed h = tt
plain_read name cs Wrong h = tt

operator_read_at : (name c : ℕ) (cs : List ℕ) → (b : Bool) → eqb c 125 ≡ b → (d : Bool) → eqb c 58 ≡ d → IsOperator name (c ∷ cs) (operator_part name (inner (c ∷ cs)))
operator_read_at name c cs true e d f = let none : inside_len 0 false (c ∷ cs) ≡ 0 = rw e refl in subst (λ (l : List ℕ). IsOperator name (c ∷ cs) (operator_part name l)) (sym (inner_none c cs e)) (refl, none)
operator_read_at name c cs false e true f = subst (IsOperator name (c ∷ cs)) (sym (operator_colon name c cs f)) (colon_read name c cs f (action_part name true (inner cs)) (action_read name true cs))
operator_read_at name c cs false e false f =
    subst (IsOperator name (c ∷ cs)) (sym (operator_plain name c cs e f)) (plain_read name (c ∷ cs) (action_part name false (inner (c ∷ cs))) (action_read name false (c ∷ cs)))

operator_read : (name : ℕ) (cs : List ℕ) → IsOperator name cs (operator_part name (inner cs))
operator_read name [] = (refl, refl)
operator_read name (c ∷ cs) = operator_read_at name c cs (eqb c 125) refl (eqb c 58) refl

-- a form that is closed, from its `$` on
braces_add : (cs : List ℕ) (n : ℕ) → inside_len 0 false cs < length cs → n ≡ inside_len 0 false cs + 3 → Adds (36 ∷ 123 ∷ cs) n
braces_add cs n h s =
    let there : n ≡ suc (suc (inside_len 0 false cs + 1)) = omega arith in
    let two : inside_len 0 false (36 ∷ 123 ∷ cs) ≡ inside_len 1 false cs + 1 + 1 = refl in
    rw there (omega (arith, two, nest cs 0 1 false refl h))

braces_read : (cs : List ℕ) (name : ℕ) → inside_len 0 false cs < length cs → Adds cs name → (part : Part) → IsOperator name (drop name cs) part → IsRead (36 ∷ 123 ∷ cs) part
braces_read cs name h adds (Literal len) o = absurd o
braces_read cs name h adds Dollar o = absurd o
braces_read cs name h adds (Name len) o = absurd o
braces_read cs name h adds (Value len) o = braces_add cs (len + 3) h (omega (arith, o.0, o.1, adds))
braces_read cs name h adds (Form n colon action tail) o =
    let there : tail_start n colon ≡ suc (suc (name + width colon)) = omega (arith, start_is n colon, o.0) in (
      braces_add cs (tail_start n colon + tail + 1) h (omega (arith, there, o.1.0, adds)),
      ap (λ (k : ℕ). inside_len 0 false (drop k (36 ∷ 123 ∷ cs))) there ∙ ap (inside_len 0 false) (sym (drop-drop (width colon) name cs)) ∙ o.1.1,
    )
braces_read cs name h adds Unclosed o = tt
braces_read cs name h adds Wrong o = tt

named_read : (cs : List ℕ) → inside_len 0 false cs < length cs → (b : Bool) → eqb (name_len cs) 0 ≡ b → IsRead (36 ∷ 123 ∷ cs) (cond (eqb (name_len cs) 0) Wrong (operator_part (name_len cs) (inner (drop (name_len cs) cs))))
named_read cs h true e = rw e tt
named_read cs h false e = rw e (braces_read cs (name_len cs) h (name_adds cs) (operator_part (name_len cs) (inner (drop (name_len cs) cs))) (operator_read (name_len cs) (drop (name_len cs) cs)))

braced_read : (levels : ℕ) (cs : List ℕ) → (b : Bool) → eqb (inside_len 0 false cs) (length cs) ≡ b → (z : Bool) → eqb levels 0 ≡ z → IsRead (36 ∷ 123 ∷ cs) (braced_part levels cs)
braced_read levels cs true e z f = rw e tt
braced_read levels cs false e true f = rw (e, f) tt
braced_read levels cs false e false f =
    let ne : inside_len 0 false cs ≢ length cs = grind (arith, nat_tests, tests) in
    let within : inside_len 0 false cs < length cs = omega (arith, inside_within 0 false cs) in
    rw (e, f) (subst (IsRead (36 ∷ 123 ∷ cs)) (sym (form_is cs)) (named_read cs within (eqb (name_len cs) 0) refl))

dollar_read_at : (levels c : ℕ) (cs : List ℕ) → (b : Bool) → eqb c 36 ≡ b → (d : Bool) → eqb c 123 ≡ d → (s : Bool) → starts_name c ≡ s → IsRead (36 ∷ c ∷ cs) (dollar_part levels (c ∷ cs))
dollar_read_at levels c cs true e d f s g =
    let is : 36 ≡ c = grind (arith, nat_tests, tests) in
    subst (λ (x : ℕ). IsRead (36 ∷ x ∷ cs) (dollar_part levels (x ∷ cs))) is (let two : Adds (36 ∷ 36 ∷ cs) 2 = omega arith in two)
dollar_read_at levels c cs false e true f s g =
    let is : 123 ≡ c = grind (arith, nat_tests, tests) in
    subst (λ (x : ℕ). IsRead (36 ∷ x ∷ cs) (dollar_part levels (x ∷ cs))) is (braced_read levels cs (eqb (inside_len 0 false cs) (length cs)) refl (eqb levels 0) refl)
dollar_read_at levels c cs false e false f true g =
    let alone : inside_len 0 true (c ∷ cs) ≡ inside_len 0 false (c ∷ cs) = dollar_alone 0 c cs e f in
    let one : inside_len 0 false (36 ∷ c ∷ cs) ≡ inside_len 0 true (c ∷ cs) + 1 = refl in
    let name : Adds (c ∷ cs) (name_len (c ∷ cs)) = name_adds (c ∷ cs) in
    let there : suc (name_len (c ∷ cs)) ≡ name_len (c ∷ cs) + 1 = omega arith in
    let adds : Adds (36 ∷ c ∷ cs) (suc (name_len (c ∷ cs))) = omega (arith, one, alone, name) in
    let part : Name (name_len (c ∷ cs)) ≡ dollar_part levels (c ∷ cs) = rw (e, f, g) refl in
    subst (IsRead (36 ∷ c ∷ cs)) part (subst (Adds (36 ∷ c ∷ cs)) there adds)
dollar_read_at levels c cs false e false f false g =
    let alone : inside_len 0 true (c ∷ cs) ≡ inside_len 0 false (c ∷ cs) = dollar_alone 0 c cs e f in
    let one : inside_len 0 false (36 ∷ c ∷ cs) ≡ inside_len 0 true (c ∷ cs) + 1 = refl in
    let adds : Adds (36 ∷ c ∷ cs) 1 = omega (arith, one, alone) in
    let part : Literal 1 ≡ dollar_part levels (c ∷ cs) = rw (e, f, g) refl in
    subst (IsRead (36 ∷ c ∷ cs)) part adds

dollar_read : (levels : ℕ) (cs : List ℕ) → IsRead (36 ∷ cs) (dollar_part levels cs)
dollar_read levels [] = refl
dollar_read levels (c ∷ cs) = dollar_read_at levels c cs (eqb c 36) refl (eqb c 123) refl (starts_name c) refl

-- a part that begins with a `$` is the same in a form that is closed

braced_same : (levels many : ℕ) (cs : List ℕ) → inside_len 0 false cs < many → many ≤ length cs → braced_part levels (take many cs) ≡ braced_part levels cs
braced_same levels many cs h le =
    let e = inside_len 0 false cs in
    let p : eqb e many ≡ false = grind (arith, nat_tests, tests) in
    let q : eqb e (length cs) ≡ false = grind (arith, nat_tests, tests) in
    ap (λ (n : ℕ). cond (eqb n (length (take many cs))) Unclosed (cond (eqb levels 0) Wrong (form_part (take n (take many cs))))) (inside_kept cs many 0 false h)
    ∙ ap (λ (n : ℕ). cond (eqb e n) Unclosed (cond (eqb levels 0) Wrong (form_part (take e (take many cs))))) (length-take-le many cs le)
    ∙ ap (λ (l : List ℕ). cond (eqb e many) Unclosed (cond (eqb levels 0) Wrong (form_part l))) (take-take e many cs (omega arith))
    ∙ rw (p, q) refl

dollar_same_at : (levels c : ℕ) (cs : List ℕ) → (b : Bool) → eqb c 36 ≡ b → (d : Bool) → eqb c 123 ≡ d → (s : Bool) → starts_name c ≡ s → (a : Bool) → eqb c 125 ≡ a
    → inside_len 0 true (c ∷ cs) < length (c ∷ cs) → dollar_part levels (take (inside_len 0 true (c ∷ cs)) (c ∷ cs)) ≡ dollar_part levels (c ∷ cs)
dollar_same_at levels c cs true e d f s g a k h =
    let is : 36 ≡ c = grind (arith, nat_tests, tests) in
    let one : inside_len 0 false cs + 1 ≡ suc (inside_len 0 false cs) = omega arith in
    subst (λ (x : ℕ). dollar_part levels (take (inside_len 0 true (x ∷ cs)) (x ∷ cs)) ≡ dollar_part levels (x ∷ cs)) is (ap (λ (n : ℕ). dollar_part levels (take n (36 ∷ cs))) one)
dollar_same_at levels c cs false e true f s g a k h =
    let is : 123 ≡ c = grind (arith, nat_tests, tests) in
    let one : inside_len 1 false cs + 1 ≡ suc (inside_len 1 false cs) = omega arith in
    let closed : inside_len 1 false cs + 1 < suc (length cs) = subst (λ (x : ℕ). inside_len 0 true (x ∷ cs) < length (x ∷ cs)) (sym is) h in
    let deeper : inside_len 0 false cs < length cs = deeper_closed cs (omega arith) in
    subst (λ (x : ℕ). dollar_part levels (take (inside_len 0 true (x ∷ cs)) (x ∷ cs)) ≡ dollar_part levels (x ∷ cs)) is
    (ap (λ (n : ℕ). dollar_part levels (take n (123 ∷ cs))) one ∙ braced_same levels (inside_len 1 false cs) cs (omega (arith, nest cs 0 1 false refl deeper)) (omega arith))
dollar_same_at levels c cs false e false f true g a k h =
    let brace : eqb c 125 ≡ false = grind (arith, nat_tests, tests) in
    let size : inside_len 0 true (c ∷ cs) ≡ suc (inside_len 0 false cs) = omega (arith, dollar_alone 0 c cs e f, plain_inside 0 c cs brace e) in
    ap (λ (n : ℕ). dollar_part levels (take n (c ∷ cs))) size ∙ rw (e, f, g) (ap (λ (n : ℕ). Name (n + 1)) (run_inner cs))
dollar_same_at levels c cs false e false f false g true k h =
    let none : inside_len 0 true (c ∷ cs) ≡ 0 = rw k refl in
    ap (λ (n : ℕ). dollar_part levels (take n (c ∷ cs))) none ∙ rw (e, f, g) refl
dollar_same_at levels c cs false e false f false g false k h =
    let size : inside_len 0 true (c ∷ cs) ≡ suc (inside_len 0 false cs) = omega (arith, dollar_alone 0 c cs e f, plain_inside 0 c cs k e) in
    ap (λ (n : ℕ). dollar_part levels (take n (c ∷ cs))) size ∙ rw (e, f, g) refl

dollar_same : (levels : ℕ) (cs : List ℕ) → inside_len 0 true cs < length cs → dollar_part levels (take (inside_len 0 true cs) cs) ≡ dollar_part levels cs
dollar_same levels [] h = absurd (omega arith)
dollar_same levels (c ∷ cs) h = dollar_same_at levels c cs (eqb c 36) refl (eqb c 123) refl (starts_name c) refl (eqb c 125) refl h

-- a `$` in a form, of what stands behind it
pub behind_closed : (inside : Bool) (c : ℕ) (cs : List ℕ) → eqb c 36 ≡ true → IsClosed inside (c ∷ cs) → inside ≡ true → inside_len 0 true cs < length cs
behind_closed false c cs e h is = absurd cc
behind_closed true c cs e h is =
    let same : 36 ≡ c = grind (arith, nat_tests, tests) in
    let closed : inside_len 0 true cs + 1 < suc (length cs) = subst (λ (x : ℕ). inside_len 0 false (x ∷ cs) < length (x ∷ cs)) (sym same) h in
    omega arith

-- a form in a form, of what stands behind its `${`
pub braces_closed : (c : ℕ) (cs : List ℕ) → eqb c 123 ≡ true → inside_len 0 true (c ∷ cs) < length (c ∷ cs) → inside_len 0 false cs < length cs
braces_closed c cs e h =
    let same : 123 ≡ c = grind (arith, nat_tests, tests) in
    let closed : inside_len 1 false cs + 1 < suc (length cs) = subst (λ (x : ℕ). inside_len 0 true (x ∷ cs) < length (x ∷ cs)) (sym same) h in
    deeper_closed cs (omega arith)

dollar_own : (levels : ℕ) (inside : Bool) (cs : List ℕ) → IsClosed inside (36 ∷ cs) → first_part levels (own inside (36 ∷ cs)) ≡ dollar_part levels cs
dollar_own levels false cs h = refl
dollar_own levels true cs h =
    let one : inside_len 0 true cs + 1 ≡ suc (inside_len 0 true cs) = omega arith in
    ap (λ (n : ℕ). first_part levels (take n (36 ∷ cs))) one ∙ dollar_same levels cs (behind_closed true 36 cs refl h refl)

literal_first_at : (levels : ℕ) (c : ℕ) (cs : List ℕ) → eqb c 36 ≡ false → (b : Bool) → eqb c 125 ≡ b → first_part levels (inner (c ∷ cs)) ≡ Literal (literal_len (inner (c ∷ cs)))
literal_first_at levels c cs e true f = let none = inner_none c cs f in ap (first_part levels) none ∙ ap (λ (l : List ℕ). Literal (literal_len l)) (sym none)
literal_first_at levels c cs e false f =
    let more = inner_more c cs f e in
    let here : first_part levels (c ∷ inner cs) ≡ Literal (literal_len (c ∷ inner cs)) = rw e refl in
    ap (first_part levels) more ∙ here ∙ ap (λ (l : List ℕ). Literal (literal_len l)) (sym more)

first_own_at : (levels : ℕ) (inside : Bool) (c : ℕ) (cs : List ℕ) → IsClosed inside (c ∷ cs) → (d : Bool) → eqb c 36 ≡ d → first_part levels (own inside (c ∷ cs)) ≡ cond (eqb c 36) (dollar_part levels cs) (Literal (literal_len (own inside (c ∷ cs))))
first_own_at levels inside c cs h true e =
    let is : 36 ≡ c = grind (arith, nat_tests, tests) in
    rw e (subst (λ (x : ℕ). IsClosed inside (x ∷ cs) → first_part levels (own inside (x ∷ cs)) ≡ dollar_part levels cs) is (dollar_own levels inside cs) h)
first_own_at levels true c cs h false e = literal_first_at levels c cs e (eqb c 125) refl ∙ rw e refl
first_own_at levels false c cs h false e = rw e refl

-- the first part of a text that may stand in a form
pub first_own : (levels : ℕ) (inside : Bool) (c : ℕ) (cs : List ℕ) → IsClosed inside (c ∷ cs) → first_part levels (own inside (c ∷ cs)) ≡ cond (eqb c 36) (dollar_part levels cs) (Literal (literal_len (own inside (c ∷ cs))))
first_own levels inside c cs h = first_own_at levels inside c cs h (eqb c 36) refl

pub own_nothing : (inside : Bool) → own inside [] ≡ []
own_nothing true = refl
own_nothing false = refl

-- of a part in a form, and of a form anywhere, what stands behind is known
abbrev pub GoesOn : Bool → List ℕ → Part → Type 0
GoesOn true text part = IsRead text part
GoesOn false text part = (name : ℕ) (colon : Bool) (action : Action) (tail : ℕ) → part ≡ Form name colon action tail → inside_len 0 false (drop (tail_start name colon) text) ≡ tail

read_tail : (text : List ℕ) (part : Part) → IsRead text part → (name : ℕ) (colon : Bool) (action : Action) (tail : ℕ) → part ≡ Form name colon action tail → inside_len 0 false (drop (tail_start name colon) text) ≡ tail
read_tail text part h name colon action tail e = let read : IsRead text (Form name colon action tail) = subst (IsRead text) e h in read.1

literal_read_at : (inside : Bool) (c : ℕ) (cs : List ℕ) → GoesOn inside (c ∷ cs) (Literal (literal_len (own inside (c ∷ cs))))
literal_read_at true c cs = literal_adds (c ∷ cs)
literal_read_at false c cs = λ name colon action tail e. absurd cc

dollar_goes : (levels : ℕ) (inside : Bool) (cs : List ℕ) → GoesOn inside (36 ∷ cs) (dollar_part levels cs)
dollar_goes levels true cs = dollar_read levels cs
dollar_goes levels false cs = read_tail (36 ∷ cs) (dollar_part levels cs) (dollar_read levels cs)

goes_at : (levels : ℕ) (inside : Bool) (c : ℕ) (cs : List ℕ) → (d : Bool) → eqb c 36 ≡ d → GoesOn inside (c ∷ cs) (cond (eqb c 36) (dollar_part levels cs) (Literal (literal_len (own inside (c ∷ cs)))))
goes_at levels inside c cs true e =
    let is : 36 ≡ c = grind (arith, nat_tests, tests) in
    rw e (subst (λ (x : ℕ). GoesOn inside (x ∷ cs) (dollar_part levels cs)) is (dollar_goes levels inside cs))
goes_at levels inside c cs false e = rw e (literal_read_at inside c cs)

pub goes_on : (levels : ℕ) (inside : Bool) (text : List ℕ) → IsClosed inside text → own inside text ≢ [] → GoesOn inside text (first_part levels (own inside text))
goes_on levels inside [] h ne = absurd (ne (own_nothing inside))
goes_on levels inside (c ∷ cs) h ne = subst (GoesOn inside (c ∷ cs)) (sym (first_own levels inside c cs h)) (goes_at levels inside c cs (eqb c 36) refl)

-- the tail of a form in a text
pub tail_is : (levels : ℕ) (inside : Bool) (text : List ℕ) → IsClosed inside text → own inside text ≢ [] → (name : ℕ) (colon : Bool) (action : Action) (tail : ℕ)
    → first_part levels (own inside text) ≡ Form name colon action tail → inside_len 0 false (drop (tail_start name colon) text) ≡ tail
tail_is levels true text h ne name colon action tail e = read_tail text (first_part levels (inner text)) (goes_on levels true text h ne) name colon action tail e
tail_is levels false text h ne name colon action tail e = goes_on levels false text h ne name colon action tail e

part_back : (text : List ℕ) (part : Part) → ((name : ℕ) (colon : Bool) (action : Action) (tail : ℕ) → part ≡ Form name colon action tail → inside_len 0 false (drop (tail_start name colon) text) ≡ tail) → part_of text (head_of part) ≡ part
part_back text (Literal len) h = refl
part_back text Dollar h = refl
part_back text (Name len) h = refl
part_back text (Value len) h = refl
part_back text (Form name colon action tail) h = ap (Form name colon action) (h name colon action tail refl)
part_back text Unclosed h = refl
part_back text Wrong h = refl

-- a part is known by what is read of it
pub part_is : (levels : ℕ) (inside : Bool) (text : List ℕ) → IsClosed inside text → own inside text ≢ [] → part_of text (head_of (first_part levels (own inside text))) ≡ first_part levels (own inside text)
part_is levels inside text h ne = part_back text (first_part levels (own inside text)) (tail_is levels inside text h ne)

-- where it may be cut

literal_fits : (inside : Bool) (levels c : ℕ) (cs : List ℕ) → IsUtf8 (c ∷ cs) → IsClosed inside (c ∷ cs) → own inside (c ∷ cs) ≢ [] → eqb c 36 ≡ false → (b : Bool) → eqb c 125 ≡ b → FitsIn levels (c ∷ cs) (Literal (literal_len (own inside (c ∷ cs))))
literal_fits false levels c cs u h ne e b f = (let k : FitsIn levels (c ∷ cs) (first_part levels (c ∷ cs)) = fits levels (c ∷ cs) u ne in let l = rw e at k in rw e l)
literal_fits true levels c cs u h ne e true f = absurd (ne (inner_none c cs f))
literal_fits true levels c cs u h ne e false f =
    let more : literal_len (inner (c ∷ cs)) ≡ literal_len (inner cs) + 1 = literal_own true c cs ∙ rw (e, f) refl in
    let stop = literal_stops (c ∷ cs) h in
    (omega arith, IsCharBoundary-before_ascii (c ∷ cs) (literal_len (inner (c ∷ cs))) stop.0 stop.1)

fits_at : (levels : ℕ) (inside : Bool) (c : ℕ) (cs : List ℕ) → IsUtf8 (c ∷ cs) → IsClosed inside (c ∷ cs) → own inside (c ∷ cs) ≢ [] → (d : Bool) → eqb c 36 ≡ d
    → FitsIn levels (c ∷ cs) (cond (eqb c 36) (dollar_part levels cs) (Literal (literal_len (own inside (c ∷ cs)))))
fits_at levels inside c cs u h ne true e = (let k : FitsIn levels (c ∷ cs) (first_part levels (c ∷ cs)) = fits levels (c ∷ cs) u (λ w. cc) in let l = rw e at k in rw e l)
fits_at levels inside c cs u h ne false e = rw e (literal_fits inside levels c cs u h ne e (eqb c 125) refl)

pub fits_own : (levels : ℕ) (inside : Bool) (text : List ℕ) → IsUtf8 text → IsClosed inside text → own inside text ≢ [] → FitsIn levels text (first_part levels (own inside text))
fits_own levels inside [] u h ne = absurd (ne (own_nothing inside))
fits_own levels inside (c ∷ cs) u h ne = subst (FitsIn levels (c ∷ cs)) (sym (first_own levels inside c cs h)) (fits_at levels inside c cs u h ne (eqb c 36) refl)

-- what is read of a text of bytes, by its first byte and what stands behind it
abbrev pub behind : List ℕ → List ℕ
behind text = take (length text - 1) (drop 1 text)

pub whole_behind : (c : ℕ) (cs : List ℕ) → behind (c ∷ cs) ≡ cs
whole_behind c cs = take_all (length (c ∷ cs) - 1) cs (omega arith)

pub operator_with_colon : (name : ℕ) (text : List ℕ) → 1 ≤ length text → get_or text 0 0 ≡ 58 → head_of (action_part name true (behind text)) ≡ head_of (operator_part name (inner text))
operator_with_colon name [] h e = absurd (omega arith)
operator_with_colon name (c ∷ cs) h e =
    let colon : eqb c 58 ≡ true = grind (arith, nat_tests, tests) in
    ap (λ (l : List ℕ). head_of (action_part name true l)) (whole_behind c cs) ∙ sym (action_inner name true cs) ∙ sym (ap head_of (operator_colon name c cs colon))

pub form_named : (text : List ℕ) (name : ℕ) → name ≡ name_len text → (name ≡ 0 → ⊥) → head_of (operator_part name (inner (take (length text - name) (drop name text)))) ≡ head_of (form_part (inner text))
form_named text name is some =
    let named : eqb (name_len text) 0 ≡ false = grind (arith, nat_tests, tests) in
    let part : form_part (inner text) ≡ operator_part (name_len text) (inner (drop (name_len text) text)) = form_is text ∙ rw named refl in
    ap (λ (l : List ℕ). head_of (operator_part name (inner l))) (take_all (length text - name) (drop name text) (omega (arith, length-drop name text)))
    ∙ ap (λ (n : ℕ). head_of (operator_part n (inner (drop n text)))) is
    ∙ sym (ap head_of part)

pub braces_behind : (text : List ℕ) → 1 ≤ length text → get_or text 0 0 ≡ 123 → inside_len 0 true text < length text → inside_len 0 false (behind text) < length (behind text)
braces_behind [] h e closed = absurd (omega arith)
braces_behind (c ∷ cs) h e closed =
    let brace : eqb c 123 ≡ true = grind (arith, nat_tests, tests) in
    subst (λ (l : List ℕ). inside_len 0 false l < length l) (sym (whole_behind c cs)) (braces_closed c cs brace closed)

pub front_dollar : (levels : ℕ) (inside : Bool) (text : List ℕ) → 1 ≤ length text → get_or text 0 0 ≡ 36 → IsClosed inside text → head_of (dollar_part levels (behind text)) ≡ head_of (first_part levels (own inside text))
front_dollar levels inside [] h e closed = absurd (omega arith)
front_dollar levels inside (c ∷ cs) h e closed =
    let dollar : eqb c 36 ≡ true = grind (arith, nat_tests, tests) in
    let part : first_part levels (own inside (c ∷ cs)) ≡ dollar_part levels cs = first_own levels inside c cs closed ∙ rw dollar refl in
    ap (λ (l : List ℕ). head_of (dollar_part levels l)) (whole_behind c cs) ∙ sym (ap head_of part)

-- bytes that stand for themselves, from a place on

literal_there : (inside : Bool) (text : List ℕ) (at : ℕ) → at < length text → literal_len (own inside (drop at text)) ≡ cond (stops inside (get_or text at 0)) 0 (literal_len (own inside (drop (at + 1) text)) + 1)
literal_there inside text at h = at_drop_more (λ (l : List ℕ). literal_len (own inside l)) text at 0 h ∙ literal_own inside (get_or text at 0) (drop (at + 1) text)

pub literal_stop : (inside : Bool) (text : List ℕ) (at : ℕ) → at < length text → stops inside (get_or text at 0) ≡ true → literal_len (own inside (drop at text)) ≡ 0
literal_stop inside text at h s = literal_there inside text at h ∙ ap (λ (b : Bool). cond b 0 (literal_len (own inside (drop (at + 1) text)) + 1)) s

pub literal_go : (inside : Bool) (text : List ℕ) (at : ℕ) → at < length text → stops inside (get_or text at 0) ≡ false → literal_len (own inside (drop at text)) ≡ literal_len (own inside (drop (at + 1) text)) + 1
literal_go inside text at h s = literal_there inside text at h ∙ ap (λ (b : Bool). cond b 0 (literal_len (own inside (drop (at + 1) text)) + 1)) s
