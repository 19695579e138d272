-- What is put behind a text within the limit.
use Rattle.std.proofs.Common.{◌≡◌, ◌∙◌, ℕ, ◌-◌, ◌≤◌, ◌<◌, leb, List, [], ◌++◌, append-nil, append_assoc, length, length-append, Option, Some, None, Result, Ok, Err, inl, inr, refl, sym, ap, arith}
use Rattle.std.proofs.lemmas.Bool.{cases_Bool, le-leb, lt-leb, leb-true, leb-false}
use Rattle.tree_base.specs.Answers.{◌>>=◌}
use Rattle.tree_base.specs.Limits.{most_text}
use Rattle.interpolate.specs.declared.refusal.SubstRefusal.{SubstRefusal}
use Rattle.interpolate.specs.declared.refusal.SubstRefusal.TheVariants as refusals
use Rattle.interpolate.specs.Substitution.{Variables, Fails, appended, limited, put_on, substituted_within, valued_within, within_limit}

-- nothing put behind a text leaves it as it is
pub put_nothing : (out : Option (List ℕ)) → put_on out [] ≡ out
put_nothing None = refl
put_nothing (Some text) = rw (le-leb 0 (most_text - length text) (omega arith)) (ap Some (append-nil text))

pub fits : (text more : List ℕ) → length more ≤ most_text - length text → put_on (Some text) more ≡ Some (text ++ more)
fits text more h = rw (le-leb (length more) (most_text - length text) h) refl

pub passes : (text more : List ℕ) → most_text - length text < length more → put_on (Some text) more ≡ None
passes text more h = rw (lt-leb (length more) (most_text - length text) h) refl

-- what is put in two pieces is put as a whole
pub put_more : (out : Option (List ℕ)) (first more : List ℕ) → put_on (put_on out first) more ≡ put_on out (first ++ more)
put_more None first more = refl
put_more (Some text) first more =
    let sizes = length-append first more in
    let longer = length-append text first in
    elim (cases_Bool (leb (length first) (most_text - length text))) [
      | inl room ↦
          let some = leb-true (length first) (most_text - length text) room in
          ap (λ out. put_on out more) (fits text first some)
          ∙ elim (cases_Bool (leb (length more) (most_text - length (text ++ first)))) [
            | inl rest ↦
                let h = leb-true (length more) (most_text - length (text ++ first)) rest in
                fits (text ++ first) more h ∙ ap Some (append_assoc text first more) ∙ sym (fits text (first ++ more) (omega (arith, sizes, longer, h, some)))
            | inr none ↦
                let h = leb-false (length more) (most_text - length (text ++ first)) none in
                passes (text ++ first) more h ∙ sym (passes text (first ++ more) (omega (arith, sizes, longer, h, some)))
          ]
      | inr none ↦
          let h = leb-false (length first) (most_text - length text) none in
          ap (λ out. put_on out more) (passes text first h) ∙ sym (passes text (first ++ more) (omega (arith, sizes, h)))
    ]

-- what is put behind nothing has to be within the limit
pub put_first : (text : List ℕ) → put_on (Some []) text ≡ within_limit text
put_first text = refl

-- what fails while it is put together fails as a whole
pub whole_fails : (e : SubstRefusal) (read : Result (List ℕ) SubstRefusal) → Fails e (appended (Some []) read) → Fails e (read >>= λ value. limited (within_limit value))
whole_fails refusals.Memory (Err d) h = tt
whole_fails (refusals.Unclosed at) (Err d) h = let same : d ≡ refusals.Unclosed at = cc in ap Err same
whole_fails (refusals.BadForm at) (Err d) h = let same : d ≡ refusals.BadForm at = cc in ap Err same
whole_fails (refusals.RequiredVariable name message) (Err d) h = let same : d ≡ refusals.RequiredVariable name message = cc in ap Err same
whole_fails refusals.TooMuchText (Err d) h = let same : d ≡ refusals.TooMuchText = cc in ap Err same
whole_fails refusals.Memory (Ok value) h = tt
whole_fails (refusals.Unclosed at) (Ok value) h = absurd cc
whole_fails (refusals.BadForm at) (Ok value) h = absurd cc
whole_fails (refusals.RequiredVariable name message) (Ok value) h = absurd cc
whole_fails refusals.TooMuchText (Ok value) h = absurd cc

-- what was put together as a whole is the value, where it is within the limit
pub whole_given : (out : Option (List ℕ)) (read : Result (List ℕ) SubstRefusal) → appended (Some []) read ≡ Ok out → (read >>= λ value. limited (within_limit value)) ≡ limited out
whole_given out (Err d) h = absurd cc
whole_given out (Ok value) h = let same : within_limit value ≡ out = cc in ap limited same

pub is_within : (text : List ℕ) → length text ≤ most_text → within_limit text ≡ Some text
is_within text h = rw (le-leb (length text) most_text h) refl

-- a value within the limit is what its text gives
pub valued_gives : (levels : ℕ) (env : Variables) (text value : List ℕ) → valued_within levels env text ≡ Ok value → length value ≤ most_text → substituted_within levels env text ≡ Ok value
valued_gives levels env text value is fits =
    ap (λ (r : Result (List ℕ) SubstRefusal). r >>= λ value. limited (within_limit value)) is ∙ ap limited (is_within value fits)
