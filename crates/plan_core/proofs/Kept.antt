-- What is known of the kept containers, which are looked up once.
use Rattle.std.proofs.Common.{◌≡◌, ℕ, Bool, List, [], ◌∷◌, map, Option, Some, None, slice_get, refl, sym, ap, ◌∙◌, ◌||◌}
use Rattle.std.specs.List.{list_any}
use Rattle.std.specs.Option.{option_map, option_and_then}
use Rattle.plan_core.proofs.Loops.{slice_get-map}

pub any_mapped : {X Y : Type 0} (p : Y → Bool) (f : X → Y) (xs : List X) → list_any p (map f xs) ≡ list_any (λ x. p (f x)) xs
any_mapped p f [] = refl
any_mapped p f (x ∷ xs) = ap (λ (b : Bool). p (f x) || b) (any_mapped p f xs)

module _ {X Y Z : Type 0} (f : X → Option Z) (g : Y → Option Z) (xs : List X) (ys : List Y) (same : map f xs ≡ map g ys) where
  -- a test of some kept container
  pub any_same : (p : Option Z → Bool) → list_any (λ x. p (f x)) xs ≡ list_any (λ y. p (g y)) ys
  any_same p = sym (any_mapped p f xs) ∙ ap (list_any p) same ∙ any_mapped p g ys

  joined : (o : Option X) (q : Option Y) → option_map f o ≡ option_map g q → option_and_then f o ≡ option_and_then g q
  joined None None e = refl
  joined None (Some y) e = absurd (cc e)
  joined (Some x) None e = absurd (cc e)
  joined (Some x) (Some y) e = cc e

  -- the kept container of one slot
  pub at_same : (s : ℕ) → option_and_then f (slice_get xs s) ≡ option_and_then g (slice_get ys s)
  at_same s = joined (slice_get xs s) (slice_get ys s) (sym (slice_get-map f xs s) ∙ ap (λ (l : List (Option Z)). slice_get l s) same ∙ slice_get-map g ys s)
