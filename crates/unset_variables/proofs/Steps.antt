-- Names that are put for the first part of a text, and then for what stands behind it.
use Rattle.std.proofs.Common.{◌≡◌, ◌≢◌, ◌∙◌, ◌+◌, ◌-◌, ◌<◌, ◌≤◌, ℕ, Bool, true, false, cond, List, [], ◌∷◌, ◌++◌, Option, Some, None, Result, Ok, Err, append-nil, drop, is_some, length, take, option_and_then, refl, sym, ap, subst, arith}
use Rattle.std.specs.Str.{IsCharBoundary}
use Rattle.interpolate.proofs.Cutting.{parts_first, tails_below}
use Rattle.interpolate.specs.declared.part.Action.{Action}
use Rattle.interpolate.specs.declared.refusal.SubstRefusal.{SubstRefusal}
use Rattle.interpolate.specs.Parts.{Parts, End, Text, Dollars, Variable, Braced, Reader, before, cut, parts, tails, with_part}
use Rattle.interpolate.specs.Shapes.{Part, Literal, Dollar, Name, Value, Form, Unclosed, Wrong, first_part, part_len, tail_start}
use Rattle.interpolate.specs.Substitution.{Variables, counted}
use Rattle.tree_base.specs.Answers.{◌>>=◌}
use Rattle.tree_base.specs.Entries.{with_entry}
use Rattle.unset_variables.specs.Unset.{GivesFirst, Names, is_taken, unless_set, unset, where_whole, with_first, with_form, with_names, with_unset}

-- names that stand behind one another are put one after the other
names_both : (names : Names) (xs ys : List (List ℕ)) → with_names names (xs ++ ys) ≡ with_names (with_names names xs) ys
names_both names [] ys = refl
names_both names (x ∷ xs) ys = names_both (with_entry names x true) xs ys

-- names with those of what follows
abbrev pub then_rest : Variables → Option Names → Result Parts SubstRefusal → Option Names
then_rest env first rest = option_and_then (λ names. with_unset env names rest) first

module _ (env : Variables) (names : Names) where
  -- a part, and then the rest
  both : (part : Parts → Parts) → ((more : Parts) → unset env (part more) ≡ unset env (part End) ++ unset env more) → (rest : Result Parts SubstRefusal)
      → with_unset env names (before part rest) ≡ then_rest env (with_unset env names (before part (Ok End))) rest
  both part splits (Ok more) = ap Some (ap (with_names names) (splits more) ∙ names_both names (unset env (part End)) (unset env more))
  both part splits (Err e) = refl

  form_both : (name : List ℕ) (colon : Bool) (action : Action) (tail rest : Result Parts SubstRefusal)
      → with_unset env names (tail >>= λ inner. before (Braced name colon action inner) rest) ≡ then_rest env (with_form env names name colon action tail) rest
  form_both name colon action (Ok inner) rest = both (Braced name colon action inner) (λ more. ap (λ l. l ++ unset env more) (sym (append-nil _))) rest
  form_both name colon action (Err e) rest = refl

  part_both : (read : Reader) (at : ℕ) (text : List ℕ) (part : Part) (rest : Result Parts SubstRefusal)
      → with_unset env names (with_part read at text part rest) ≡ then_rest env (with_unset env names (with_part read at text part (Ok End))) rest
  part_both read at text (Literal len) rest = both (Text (take len text)) (λ more. refl) rest
  part_both read at text Dollar rest = both Dollars (λ more. refl) rest
  part_both read at text (Name len) rest = both (Variable (take len (drop 1 text))) (λ more. ap (λ l. l ++ unset env more) (sym (append-nil _))) rest
  part_both read at text (Value len) rest = both (Variable (take len (drop 2 text))) (λ more. ap (λ l. l ++ unset env more) (sym (append-nil _))) rest
  part_both read at text (Form name colon action tail) rest =
      form_both (take name (drop 2 text)) colon action (read (at + tail_start name colon) (take tail (drop (tail_start name colon) text))) rest
  part_both read at text Unclosed rest = refl
  part_both read at text Wrong rest = refl

  -- a text whose first part is well formed, and what stands behind it
  pub first_fine : (new : Names) (levels at : ℕ) (text : List ℕ) (n : ℕ) → text ≢ [] → n ≡ part_len (first_part levels text) → 0 < n → n ≤ length text → with_first env names levels at text ≡ Some new
      → with_unset env names (parts levels at text) ≡ with_unset env new (parts levels (at + n) (drop n text))
  first_fine new levels at text n ne len some le is =
      ap (with_unset env names) (parts_first levels at text n ne len some le)
      ∙ part_both (tails levels) at text (first_part levels text) (parts levels (at + n) (drop n text))
      ∙ ap (λ first. then_rest env first (parts levels (at + n) (drop n text))) is

  -- a text whose first part is wrong
  pub first_wrong : (levels at : ℕ) (text : List ℕ) → text ≢ [] → with_first env names levels at text ≡ None → with_unset env names (parts levels at text) ≡ None
  first_wrong levels at [] ne is = absurd (ne refl)
  first_wrong levels at (c ∷ cs) ne is =
      let rest = cut levels (tails levels) (at + 1) (part_len (first_part levels (c ∷ cs)) - 1) cs in
      part_both (tails levels) at (c ∷ cs) (first_part levels (c ∷ cs)) rest ∙ ap (λ first. then_rest env first rest) is

  -- a form whose tail is taken gives what the tail gives
  pub form_taken : (name : List ℕ) (colon : Bool) (action : Action) (tail : Result Parts SubstRefusal) → is_taken action (is_some (counted colon (env name))) ≡ true
      → with_form env names name colon action tail ≡ with_unset env names tail
  form_taken name colon action (Ok inner) is = ap (λ taken. Some (with_names names (cond taken (unset env inner) [] ++ []))) is ∙ ap (λ l. Some (with_names names l)) (append-nil (unset env inner))
  form_taken name colon action (Err e) is = refl

  -- a form whose tail isn't gives nothing, where the tail is well formed
  pub form_passed : (other others : Names) (whole : Bool) (name : List ℕ) (colon : Bool) (action : Action) (tail : Result Parts SubstRefusal) → is_taken action (is_some (counted colon (env name))) ≡ false
      → with_unset env other tail ≡ where_whole whole others → with_form env names name colon action tail ≡ where_whole whole names
  form_passed other others true name colon action (Ok inner) is h = ap (λ taken. Some (with_names names (cond taken (unset env inner) [] ++ []))) is
  form_passed other others false name colon action (Ok inner) is h = absurd cc
  form_passed other others true name colon action (Err e) is h = absurd cc
  form_passed other others false name colon action (Err e) is h = refl

-- the first part, where it is a form, by its tail
pub form_first : (env : Variables) (names : Names) (levels at : ℕ) (text inner named : List ℕ) (name : ℕ) (colon : Bool) (action : Action) (tail start : ℕ) → Form name colon action tail ≡ first_part levels text → 0 < levels
    → start ≡ tail_start name colon → inner ≡ take tail (drop start text) → named ≡ take name (drop 2 text)
    → with_first env names levels at text ≡ with_form env names named colon action (parts (levels - 1) (at + start) inner)
form_first env names levels at text inner named name colon action tail start is left from same names_it =
    ap (λ part. with_unset env names (with_part (tails levels) at text part (Ok End))) (sym is)
    ∙ ap (λ (read : Reader). with_form env names (take name (drop 2 text)) colon action (read (at + tail_start name colon) (take tail (drop (tail_start name colon) text)))) (tails_below levels left)
    ∙ ap (λ k. with_form env names (take name (drop 2 text)) colon action (parts (levels - 1) (at + k) (take tail (drop k text)))) (sym from)
    ∙ ap (λ l. with_form env names (take name (drop 2 text)) colon action (parts (levels - 1) (at + start) l)) (sym same)
    ∙ ap (λ l. with_form env names l colon action (parts (levels - 1) (at + start) inner)) (sym names_it)

-- what is given of a first part, by what it is

module _ (env : Variables) (names : Names) (levels : ℕ) (text : List ℕ) where
  pub literal_given : (len : ℕ) → Literal len ≡ first_part levels text → (0 < len) × IsCharBoundary text len → GivesFirst env names levels text (Some len) names
  literal_given len is fits = ((λ at. ap (λ part. with_unset env names (with_part (tails levels) at text part (Ok End))) (sym is)), ap part_len is, fits.0, fits.1)

  pub dollar_given : Dollar ≡ first_part levels text → IsCharBoundary text 2 → GivesFirst env names levels text (Some 2) names
  dollar_given is fits = ((λ at. ap (λ part. with_unset env names (with_part (tails levels) at text part (Ok End))) (sym is)), ap part_len is, omega arith, fits)

  one_name : (new : Names) (named : List ℕ) → new ≡ with_names names (unless_set named (env named)) → Some (with_names names (unless_set named (env named) ++ [])) ≡ Some new
  one_name new named is = ap (λ l. Some (with_names names l)) (append-nil (unless_set named (env named))) ∙ ap Some (sym is)

  pub name_given : (new : Names) (named : List ℕ) (len : ℕ) → Name len ≡ first_part levels text → IsCharBoundary text (len + 1) → named ≡ take len (drop 1 text) → new ≡ with_names names (unless_set named (env named))
      → GivesFirst env names levels text (Some (len + 1)) new
  name_given new named len is fits same given = (
    (λ at. ap (λ part. with_unset env names (with_part (tails levels) at text part (Ok End))) (sym is)
        ∙ ap (λ l. Some (with_names names (unless_set l (env l) ++ []))) (sym same) ∙ one_name new named given),
    ap part_len is,
    omega arith,
    fits,
  )

  pub value_given : (new : Names) (named : List ℕ) (len : ℕ) → Value len ≡ first_part levels text → IsCharBoundary text (len + 3) → named ≡ take len (drop 2 text) → new ≡ with_names names (unless_set named (env named))
      → GivesFirst env names levels text (Some (len + 3)) new
  value_given new named len is fits same given = (
    (λ at. ap (λ part. with_unset env names (with_part (tails levels) at text part (Ok End))) (sym is)
        ∙ ap (λ l. Some (with_names names (unless_set l (env l) ++ []))) (sym same) ∙ one_name new named given),
    ap part_len is,
    omega arith,
    fits,
  )

  pub form_given : (new : Names) (given : Option ℕ) (inner named : List ℕ) (whole : Bool) (name : ℕ) (colon : Bool) (action : Action) (tail start : ℕ) → Form name colon action tail ≡ first_part levels text → 0 < levels
      → start ≡ tail_start name colon → inner ≡ take tail (drop start text) → named ≡ take name (drop 2 text) → IsCharBoundary text (tail_start name colon + tail + 1)
      → ((at : ℕ) → with_form env names named colon action (parts (levels - 1) at inner) ≡ where_whole whole new) → given ≡ cond whole (Some (start + tail + 1)) None → GivesFirst env names levels text given new
  form_given new given inner named true name colon action tail start is left from same names_it fits tail_is given_is = subst (λ given. GivesFirst env names levels text given new) (sym given_is) (
    (λ at. form_first env names levels at text inner named name colon action tail start is left from same names_it ∙ tail_is (at + start)),
    ap (λ k. k + tail + 1) from ∙ ap part_len is,
    omega arith,
    subst (λ k. IsCharBoundary text (k + tail + 1)) (sym from) fits,
  )
  form_given new given inner named false name colon action tail start is left from same names_it fits tail_is given_is = subst (λ given. GivesFirst env names levels text given new) (sym given_is)
      (λ at. form_first env names levels at text inner named name colon action tail start is left from same names_it ∙ tail_is (at + start))

  pub unclosed_given : Unclosed ≡ first_part levels text → GivesFirst env names levels text None names
  unclosed_given is = λ at. ap (λ part. with_unset env names (with_part (tails levels) at text part (Ok End))) (sym is)

  pub wrong_given : Wrong ≡ first_part levels text → GivesFirst env names levels text None names
  wrong_given is = λ at. ap (λ part. with_unset env names (with_part (tails levels) at text part (Ok End))) (sym is)
