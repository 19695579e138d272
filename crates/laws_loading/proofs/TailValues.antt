-- The value of a default: its form is the text's one part, and where its variable is unset, its value is the tail's.
use Rattle.std.proofs.Common.{◌≡◌, ◌≢◌, ◌∙◌, ℕ, ◌+◌, ◌<◌, Bool, true, false, eqb, List, [], ◌∷◌, ◌++◌, append-nil, append_assoc, length, length-append, take, drop, Option, None, Result, Ok, Err, IsOk, refl, sym, ap, arith, tests}
use Rattle.std.proofs.lemmas.Bool.Decides.{nat_tests}
use Rattle.std.proofs.lemmas.List.{drop_all, drop_at, take_at}
use Rattle.tree_base.specs.Answers.{◌>>=◌}
use Rattle.interpolate.specs.declared.part.Action.TheVariants.{Default}
use Rattle.interpolate.specs.declared.refusal.SubstRefusal.{SubstRefusal}
use Rattle.interpolate.specs.Lengths.{name_len, inside_len}
use Rattle.interpolate.specs.Shapes.{Part, Form, operator_part, form_part, braced_part, first_part, part_len, tail_start}
use Rattle.interpolate.specs.Parts.{Parts, End, Braced, before, with_part, tails, parts}
use Rattle.interpolate.specs.Substitution.{Variables, value, counted, form_value, limited, substituted_within, valued_within, within_limit}
use Rattle.interpolate.proofs.Cutting.{parts_first}
use Rattle.interpolate.proofs.Joining.{Value_}
use Rattle.laws_loading.specs.Defaults.{IsName, NestsBraces, IsTail, operator, with_default}
use Rattle.laws_loading.proofs.Braces.{name_ends, name_inside, name_runs, nested_inside}
use Rattle.laws_loading.proofs.Levels.{parts_same}

operator_inside : (colon : Bool) (more : List ℕ) → inside_len 0 false (operator colon ++ more) ≡ length (operator colon) + inside_len 0 false more
operator_inside true more = let k : inside_len 0 false (58 ∷ 45 ∷ more) ≡ inside_len 0 false more + 1 + 1 = refl in omega (arith, k)
operator_inside false more = let k : inside_len 0 false (45 ∷ more) ≡ inside_len 0 false more + 1 = refl in omega (arith, k)

name_before : (colon : Bool) (name more : List ℕ) → IsName name → name_len (name ++ (operator colon ++ more)) ≡ length name
name_before true name more is = name_ends name 58 (45 ∷ more) is.some is.whole refl
name_before false name more is = name_ends name 45 more is.some is.whole refl

operator_form : (colon : Bool) (name : ℕ) (tail : List ℕ) → operator_part name (operator colon ++ tail) ≡ Form name colon Default (length tail)
operator_form true name tail = refl
operator_form false name tail = refl

operator_start : (colon : Bool) (name : ℕ) → tail_start name colon ≡ 2 + (name + length (operator colon))
operator_start true name = omega arith
operator_start false name = omega arith

braced_is : (levels : ℕ) (text : List ℕ) (len : ℕ) → inside_len 0 false text ≡ len → len < length text → 0 < levels → braced_part levels text ≡ form_part (take len text)
braced_is levels text len is within some =
    let e : eqb len (length text) ≡ false = grind (arith, nat_tests, tests) in
    let f : eqb levels 0 ≡ false = grind (arith, nat_tests, tests) in
    rw (is, e, f) refl

form_is : (text : List ℕ) (name : ℕ) → name_len text ≡ name → 0 < name → form_part text ≡ operator_part name (drop name text)
form_is text name is some =
    let e : eqb name 0 ≡ false = grind (arith, nat_tests, tests) in
    rw (is, e) refl

has_length : (text : List ℕ) → text ≢ [] → 0 < length text
has_length [] some = absurd (some refl)
has_length (c ∷ cs) some = omega arith

nothing_more : (v : Value_) → (v >>= λ text. Ok (text ++ [])) ≡ v
nothing_more (Ok text) = ap Ok (append-nil text)
nothing_more (Err e) = refl

-- a form whose variable counts as unset gives the value of its tail
taken : (env : Variables) (colon : Bool) (name : List ℕ) (read : Result Parts SubstRefusal) → counted colon (env name) ≡ None
    → ((read >>= λ inner. before (Braced name colon Default inner) (Ok End)) >>= value env) ≡ (read >>= value env)
taken env colon name (Ok inner) unset =
    ap (λ (o : Option (List ℕ)). form_value name Default o (value env inner) >>= λ text. value env End >>= λ more. Ok (text ++ more)) unset
    ∙ nothing_more (value env inner)
taken env colon name (Err e) unset = refl

module _ (colon : Bool) (name tail : List ℕ) (is : IsName name) (nests : NestsBraces tail) where
  abbrev signs : List ℕ
  signs = operator colon

  abbrev inside : List ℕ
  inside = name ++ (signs ++ tail)

  abbrev body : List ℕ
  body = name ++ (signs ++ (tail ++ 125 ∷ []))

  abbrev start : ℕ
  start = tail_start (length name) colon

  abbrev form : Part
  form = Form (length name) colon Default (length tail)

  body_is : body ≡ inside ++ 125 ∷ []
  body_is = sym (append_assoc name (signs ++ tail) (125 ∷ []) ∙ ap (λ (l : List ℕ). name ++ l) (append_assoc signs tail (125 ∷ [])))

  inside_size : length inside ≡ length name + (length signs + length tail)
  inside_size = length-append name (signs ++ tail) ∙ ap (λ (n : ℕ). length name + n) (length-append signs tail)

  body_size : length body ≡ length inside + 1
  body_size = ap length body_is ∙ length-append inside (125 ∷ [])

  body_inside : inside_len 0 false body ≡ length inside
  body_inside =
      let a = name_inside name (signs ++ (tail ++ 125 ∷ [])) (name_runs name is.whole) in
      let b = operator_inside colon (tail ++ 125 ∷ []) in
      let c : inside_len 0 false (tail ++ 125 ∷ []) ≡ length tail + 0 = nested_inside tail nests 0 [] in
      omega (arith, a, b, c, inside_size)

  form_first : first_part 32 (36 ∷ 123 ∷ body) ≡ form
  form_first =
      braced_is 32 body (length inside) body_inside (omega (arith, body_size)) (omega arith)
      ∙ ap (λ (l : List ℕ). form_part (take (length inside) l)) body_is
      ∙ ap form_part (take_at inside (125 ∷ []) (length inside) refl)
      ∙ form_is inside (length name) (name_before colon name tail is) (has_length name is.some)
      ∙ ap (operator_part (length name)) (drop_at name (signs ++ tail) (length name) refl)
      ∙ operator_form colon (length name) tail

  text_size : length (36 ∷ 123 ∷ body) ≡ part_len form
  text_size = omega (arith, body_size, inside_size, operator_start colon (length name))

  tail_is : take (length tail) (drop start (36 ∷ 123 ∷ body)) ≡ tail
  tail_is =
      let split : 36 ∷ 123 ∷ body ≡ (36 ∷ 123 ∷ (name ++ signs)) ++ (tail ++ 125 ∷ []) = ap (λ (l : List ℕ). 36 ∷ 123 ∷ l) (sym (append_assoc name signs (tail ++ 125 ∷ []))) in
      let size : length (36 ∷ 123 ∷ (name ++ signs)) ≡ start = omega (arith, length-append name signs, operator_start colon (length name)) in
      ap (λ (l : List ℕ). take (length tail) (drop start l)) split
      ∙ ap (take (length tail)) (drop_at (36 ∷ 123 ∷ (name ++ signs)) (tail ++ 125 ∷ []) start size)
      ∙ take_at tail (125 ∷ []) (length tail) refl

  name_is : take (length name) body ≡ name
  name_is = take_at name (signs ++ (tail ++ 125 ∷ [])) (length name) refl

  form_parts : parts 32 0 (36 ∷ 123 ∷ body) ≡ (tails 32 (0 + start) tail >>= λ inner. before (Braced name colon Default inner) (Ok End))
  form_parts =
      let len = part_len form in
      parts_first 32 0 (36 ∷ 123 ∷ body) len (λ e. cc) (ap part_len (sym form_first)) (omega (arith, text_size)) (omega (arith, text_size))
      ∙ ap (λ (l : List ℕ). with_part (tails 32) 0 (36 ∷ 123 ∷ body) (first_part 32 (36 ∷ 123 ∷ body)) (parts 32 (0 + len) l)) (drop_all len (36 ∷ 123 ∷ body) (omega (arith, text_size)))
      ∙ ap (λ (part : Part). with_part (tails 32) 0 (36 ∷ 123 ∷ body) part (Ok End)) form_first
      ∙ ap (λ (l : List ℕ). tails 32 (0 + start) l >>= λ inner. before (Braced (take (length name) body) colon Default inner) (Ok End)) tail_is
      ∙ ap (λ (l : List ℕ). tails 32 (0 + start) tail >>= λ inner. before (Braced l colon Default inner) (Ok End)) name_is

moved : (env : Variables) (there : ℕ) (tail : List ℕ) (read : Result Parts SubstRefusal) → parts 31 0 tail ≡ read → IsOk read → (tails 32 there tail >>= value env) ≡ valued_within 32 env tail
moved env there tail (Ok all) is fine =
    let here : tails 32 there tail ≡ Ok all = parts_same 31 31 (omega arith) 0 there tail all is in
    let alone : parts 32 0 tail ≡ Ok all = parts_same 31 32 (omega arith) 0 0 tail all is in
    ap (λ (r : Result Parts SubstRefusal). r >>= value env) (here ∙ sym alone)
moved env there tail (Err e) is fine = absurd cc

-- where a variable counts as unset, its form has the value that its tail has
default_valued : (env : Variables) (colon : Bool) (name tail : List ℕ) → IsName name → IsTail tail → counted colon (env name) ≡ None
    → valued_within 32 env (with_default colon name tail) ≡ valued_within 32 env tail
default_valued env colon name tail is fits unset =
    let there = 0 + tail_start (length name) colon in
    ap (λ (r : Result Parts SubstRefusal). r >>= value env) (form_parts colon name tail is fits.nests)
    ∙ taken env colon name (tails 32 there tail) unset
    ∙ moved env there tail (parts 31 0 tail) refl fits.well_formed

-- and so gives what its tail gives, within the limit
pub default_value : (env : Variables) (colon : Bool) (name tail : List ℕ) → IsName name → IsTail tail → counted colon (env name) ≡ None
    → substituted_within 32 env (with_default colon name tail) ≡ substituted_within 32 env tail
default_value env colon name tail is fits unset =
    ap (λ (r : Result (List ℕ) SubstRefusal). r >>= λ value. limited (within_limit value)) (default_valued env colon name tail is fits unset)
