-- Readings that go on into what is made of them.
use Rattle.std.proofs.Common.{◌≡◌, ap}
use Rattle.std.specs.Prelude.{Ok, Err}
use Rattle.tree_base.specs.Answers.{◌>>=◌}
use Rattle.attribute_scalars.specs.Walks.{Read}

-- what is made of what was read
pub made_of : {A B C : Type 0} (r : Read A) (read : A → Read B) (make : B → C) (b : B) → (r >>= read) ≡ Ok b
    → (r >>= λ a. read a >>= λ found. Ok (make found)) ≡ Ok (make b)
made_of {A} {B} {C} (Ok a) read make b h = ap (λ (x : Read B). x >>= λ found. Ok (make found)) h
made_of (Err refusal) read make b h = absurd (cc h)
