-- What a record that was made of copies is.
use Rattle.std.proofs.Common.{◌≡◌, ◌∙◌, Result, Ok, Err}
use Rattle.std.specs.Prelude.{IfOk}

-- the whole is a value, where what was made equals it unless a copy failed
pub whole_is : {X E P : Type 0} {made value : X} (result : Result X E) → IfOk result (λ _. P) → IfOk result (λ whole. whole ≡ made) → (P → made ≡ value)
    → IfOk result (λ whole. whole ≡ value)
whole_is (Ok whole) unfailed same is = same ∙ is unfailed
whole_is (Err e) unfailed same is = tt
