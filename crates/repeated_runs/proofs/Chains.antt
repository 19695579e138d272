-- Runs that are made again, one after another.
use Rattle.std.proofs.Common.{◌≡◌, ◌⊎◌, ℕ, Bool, true, false, List, [], ◌∷◌, ◌++◌, Option, Some, refl, sym, subst, inl, inr}
use Rattle.std.specs.Prelude.{◌||◌}
use Rattle.std.specs.List.{list_any}
use Rattle.std.specs.Option.{option_map_or}
use Rattle.compose_cli.specs.declared.Ended.{Ended}
use Rattle.engine_types.specs.declared.Request.{Request}
use Rattle.ledger_run.specs.Tellings.{Telling}
use Rattle.outside_api.specs.declared.dial.Dial.{Dial}
use Rattle.repeated_runs.specs.Attempts.{AreMadeAgain, IsMadeAgain, first_hands}
use Rattle.repeated_runs.specs.Conflicts.{AreApart, conflict_of, is_refused_of, is_repeated, was_repeated_for}
use Rattle.repeated_runs.specs.Moments.{Moment}
use Rattle.repeated_runs.specs.declared.attempt.Attempt.{Attempt}
use Rattle.run_model.specs.EngineRules.{Among}
use Rattle.run_model.specs.Runs.{Task}

-- one run more
pub made_more : {H : Type 0} (tell : H → Telling) (Place : ℕ → Dial → Type 0) (workers : ℕ) (task : Task) (earlier : List (Attempt H)) (attempt : Attempt H) (first mid last : Moment)
    → AreMadeAgain tell Place workers task earlier first mid → IsMadeAgain tell Place workers task attempt mid last → AreMadeAgain tell Place workers task (earlier ++ attempt ∷ []) first last
made_more tell Place workers task [] attempt first mid last made one = (last, subst (λ (m : Moment). IsMadeAgain tell Place workers task attempt m last) made one, refl)
made_more tell Place workers task (a ∷ rest) attempt first mid last made one = (made.0, made.1, made_more tell Place workers task rest attempt made.0 mid last made.2 one)

-- the hands of the first run stay
pub same_first : {H : Type 0} (earlier : List (Attempt H)) (attempt : Attempt H) (last : Ended H) → first_hands (earlier ++ attempt ∷ []) last ≡ first_hands earlier attempt.ended
same_first [] attempt last = refl
same_first (a ∷ rest) attempt last = refl

-- an end with the same hands has the same first ones
pub first_by : {H : Type 0} (earlier : List (Attempt H)) (last other : Ended H) → last.hands ≡ other.hands → first_hands earlier last ≡ first_hands earlier other
first_by [] last other same = same
first_by (a ∷ rest) last other same = refl

either : (a b : Bool) → (a || b) ≡ false → (a ≡ false) × (b ≡ false)
either false b e = (refl, e)
either true b e = absurd (cc e)

none_of : {X : Type 0} (test : X → Bool) (xs : List X) → list_any test xs ≡ false → (x : X) → Among xs x → test x ≡ false
none_of test [] none x m = absurd m
none_of {X} test (y ∷ ys) none x m = at (either (test y) (list_any test ys) none) (λ left. none_of test ys left x) m
  where
    at : (test y ≡ false) × (list_any test ys ≡ false) → (list_any test ys ≡ false → Among ys x → test x ≡ false) → (x ≡ y) ⊎ Among ys x → test x ≡ false
    at both behind (inl e) = subst (λ (z : X). test z ≡ false) (sym e) both.0
    at both behind (inr n) = behind both.1 n

among_last : {X : Type 0} (xs : List X) (x y : X) → Among (xs ++ x ∷ []) y → Among xs y ⊎ (y ≡ x)
among_last [] x y (inl e) = inr e
among_last [] x y (inr h) = absurd h
among_last (z ∷ xs) x y (inl e) = inl (inl e)
among_last (z ∷ xs) x y (inr m) = at (among_last xs x y m)
  where
    at : Among xs y ⊎ (y ≡ x) → Among (z ∷ xs) y ⊎ (y ≡ x)
    at (inl n) = inl (inr n)
    at (inr e) = inr e

module _ {H : Type 0} (attempt : Attempt H) (request : Request) (conflict : conflict_of attempt.ended.refusal ≡ Some request) where
  repeats_none : (other : Attempt H) → is_refused_of request other.ended.refusal ≡ false → is_repeated attempt.ended.refusal other.ended.refusal ≡ false
  repeats_none other e = subst (λ (found : Option Request). option_map_or (λ r. is_refused_of r other.ended.refusal) found false ≡ false) (sym conflict) e

  apart_by : (earlier : List (Attempt H)) → AreApart earlier → ((other : Attempt H) → Among earlier other → is_refused_of request other.ended.refusal ≡ false) → AreApart (earlier ++ attempt ∷ [])
  apart_by [] apart none = (λ other m. absurd m, tt)
  apart_by (a ∷ rest) apart none = (λ other m. at other (among_last rest attempt other m), apart_by rest apart.1 (λ other m. none other (inr m)))
    where
      at : (other : Attempt H) → Among rest other ⊎ (other ≡ attempt) → is_repeated other.ended.refusal a.ended.refusal ≡ false
      at other (inl m) = apart.0 other m
      at other (inr e) = subst (λ (o : Attempt H). is_repeated o.ended.refusal a.ended.refusal ≡ false) (sym e) (repeats_none a (none a (inl refl)))

  -- one for another resource more
  pub apart_more : (earlier : List (Attempt H)) → AreApart earlier → was_repeated_for earlier request ≡ false → AreApart (earlier ++ attempt ∷ [])
  apart_more earlier apart fresh = apart_by earlier apart (none_of (λ (other : Attempt H). is_refused_of request other.ended.refusal) earlier fresh)
