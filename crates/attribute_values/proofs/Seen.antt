-- Tests of views.
use Rattle.std.proofs.Common.{◌≡◌, Bool, List, [], ◌∷◌, map, refl}
use Rattle.std.specs.List.{list_any}

-- a test of what is seen of some things is a test of them
pub any_seen : {X Y : Type 0} (test : Y → Bool) (view : X → Y) (xs : List X) → list_any test (map view xs) ≡ list_any (λ x. test (view x)) xs
any_seen test view [] = refl
any_seen test view (x ∷ xs) = rw (any_seen test view xs) refl
