-- As many places for values as the limit are too many.
use Rattle.std.proofs.Common.{◌≡◌, ◌⊎◌, ℕ, ◌+◌, ◌<◌, ◌≤◌, true, false, nat_le, nat_lt, sym, ◌∙◌, inl, inr, arith}
use Rattle.std.proofs.lemmas.Bool.{le-ltb, lt-ltb}
use Rattle.std.proofs.lemmas.Bool.Decides.{leb_tells}
use Rattle.tree_base.specs.Limits.{most_body_values}

-- as many places as the limit are more values
pub past_most : (n : ℕ) → nat_le most_body_values n ≡ nat_lt most_body_values (1 + n)
past_most n = at (leb_tells most_body_values n)
  where
    at : ((nat_le most_body_values n ≡ true) × (most_body_values ≤ n)) ⊎ ((nat_le most_body_values n ≡ false) × (n < most_body_values))
        → nat_le most_body_values n ≡ nat_lt most_body_values (1 + n)
    at (inl t) = let w = t.1 in t.0 ∙ sym (lt-ltb most_body_values (1 + n) (omega (arith, w)))
    at (inr t) = let w = t.1 in t.0 ∙ sym (le-ltb most_body_values (1 + n) (omega (arith, w)))
