-- The least slot that is refused.
use Rattle.std.proofs.Common.{◌≡◌, ℕ, ◌+◌, ◌<◌, ◌≤◌, List, [], ◌∷◌, ◌++◌, Option, Some, None, map, refl, ap, subst, inl, inr, arith}
use Rattle.std.proofs.lemmas.Bool.{cases_lt, le-ltb, lt-ltb}
use Rattle.std.specs.Prelude.{◌⊎◌}
use Rattle.turn_ledger.specs.Own.{Each}
use Rattle.logs_run.specs.declared.fetching.Fault.{Fault}
use Rattle.logs_run.specs.declared.tasks.Task.{Task}
use Rattle.logs_run.specs.Crew.{lesser}
use Rattle.logs_run.specs.Ending.{Has}
use Rattle.logs_run.specs.Fetching.{Fetch}
use Rattle.logs_run.specs.Met.{IsFirstFault, IsGood}
use Rattle.logs_run.specs.Refusing.{IsLeastFault}
use Rattle.logs_run.specs.Slots.{AreAscending}

abbrev pub slots_of : List Fetch → List Task
slots_of fs = map (λ (f : Fetch). f.task) fs

pub has_above : (n : ℕ) (fs : List Fetch) (f : Fetch) → Each (λ (t : Task). n < t.slot) (slots_of fs) → Has f fs → n < f.task.slot
has_above n [] f h has = absurd has
has_above n (g ∷ fs) f (one, more) (inl same) = subst (λ (x : Fetch). n < x.task.slot) same one
has_above n (g ∷ fs) f (one, more) (inr has) = has_above n fs f more has

good_so : (g f : Fetch) → g ≡ f → IsGood g → IsGood f
good_so g f same good = subst (λ (x : Fetch). IsGood x) same good

-- where slots ascend, the first fault is that of the least slot
none_bad : (fs : List Fetch) → IsFirstFault fs None → (f : Fetch) → Has f fs → IsGood f
none_bad [] h f has = absurd has
none_bad (g ∷ fs) (good, h) f (inl same) = good_so g f same good
none_bad (g ∷ fs) (good, h) f (inr has) = none_bad fs h f has

some_bad : (fs : List Fetch) (x : Fault) → AreAscending (slots_of fs) → IsFirstFault fs (Some x) → IsLeastFault fs (Some x)
some_bad [] x asc h = absurd h
some_bad (g ∷ fs) x (above, asc) (inl (good, h)) =
    let rec = some_bad fs x asc h in (
      rec.0,
      inr rec.1,
      rec.2,
      rec.3,
      λ other has less. elim has [
        | inl same ↦ good_so g other same good
        | inr more ↦ rec.4 other more less
      ],
    )
some_bad (g ∷ fs) x (above, asc) (inr (slot, reason)) = (
  g,
  inl refl,
  slot,
  reason,
  λ other has less. elim has [
    | inl same ↦ absurd (let is : g.task.slot ≡ other.task.slot = ap (λ (f : Fetch). f.task.slot) same in omega (arith, is, slot, less))
    | inr more ↦ absurd (let far = has_above g.task.slot fs other above more in omega (arith, far, slot, less))
  ],
)

pub first_least : (fs : List Fetch) (fault : Option Fault) → AreAscending (slots_of fs) → IsFirstFault fs fault → IsLeastFault fs fault
first_least fs None asc h = none_bad fs h
first_least fs (Some x) asc h = some_bad fs x asc h

pub has_in : (xs ys : List Fetch) (f : Fetch) → Has f (xs ++ ys) → Has f xs ⊎ Has f ys
has_in [] ys f h = inr h
has_in (x ∷ xs) ys f (inl same) = inl (inl same)
has_in (x ∷ xs) ys f (inr h) = elim (has_in xs ys f h) [
  | inl here ↦ inl (inr here)
  | inr there ↦ inr there
]

pub has_left : (xs ys : List Fetch) (f : Fetch) → Has f xs → Has f (xs ++ ys)
has_left [] ys f h = absurd h
has_left (x ∷ xs) ys f (inl same) = inl same
has_left (x ∷ xs) ys f (inr h) = inr (has_left xs ys f h)

pub has_right : (xs ys : List Fetch) (f : Fetch) → Has f ys → Has f (xs ++ ys)
has_right [] ys f h = h
has_right (x ∷ xs) ys f h = inr (has_right xs ys f h)

module _ (xs ys : List Fetch) where
  least_left : (x : Fault) → IsLeastFault xs (Some x) → ((f : Fetch) → Has f ys → f.task.slot < x.slot → IsGood f) → IsLeastFault (xs ++ ys) (Some x)
  least_left x a good = (
    a.0,
    has_left xs ys a.0 a.1,
    a.2,
    a.3,
    λ other has less. elim (has_in xs ys other has) [
      | inl here ↦ a.4 other here less
      | inr there ↦ good other there less
    ],
  )

  least_right : (y : Fault) → IsLeastFault ys (Some y) → ((f : Fetch) → Has f xs → f.task.slot < y.slot → IsGood f) → IsLeastFault (xs ++ ys) (Some y)
  least_right y b good = (
    b.0,
    has_right xs ys b.0 b.1,
    b.2,
    b.3,
    λ other has less. elim (has_in xs ys other has) [
      | inl here ↦ good other here less
      | inr there ↦ b.4 other there less
    ],
  )

  least_of : (x y : Fault) → IsLeastFault xs (Some x) → IsLeastFault ys (Some y) → (y.slot < x.slot) ⊎ (x.slot ≤ y.slot) → IsLeastFault (xs ++ ys) (lesser (Some x) (Some y))
  least_of x y a b (inl less) = rw (lt-ltb y.slot x.slot less) (least_right y b (λ f has below. a.4 f has (omega (arith, below, less))))
  least_of x y a b (inr far) = rw (le-ltb y.slot x.slot far) (least_left x a (λ f has below. b.4 f has (omega (arith, below, far))))

  -- of two lists of fetches
  pub least_append : (a b : Option Fault) → IsLeastFault xs a → IsLeastFault ys b → IsLeastFault (xs ++ ys) (lesser a b)
  least_append None None h k = λ f has. elim (has_in xs ys f has) [
    | inl here ↦ h f here
    | inr there ↦ k f there
  ]
  least_append None (Some y) h k = least_right y k (λ f has less. h f has)
  least_append (Some x) None h k = least_left x h (λ f has less. k f has)
  least_append (Some x) (Some y) h k = least_of x y h k (cases_lt y.slot x.slot)
