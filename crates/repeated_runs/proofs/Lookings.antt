-- A hand that is dialled to look.
use Rattle.std.proofs.Common.{◌≡◌, ◌⊎◌, List, [], ◌∷◌, ◌++◌, Some, ℕ, inl, inr, subst}
use Rattle.outside_api.specs.declared.dial.Dial.{Dial}
use Rattle.repeated_runs.specs.Dials.{AddsDialOf, refusal_of}
use Rattle.repeated_runs.specs.declared.dialling.DialFault.{DialFault}

-- the dial of a hand that the plug didn't make
pub adds_plug : (old new : List Dial) (dial : Dial) (fault : DialFault) → fault ≡ DialFault.Plug → AddsDialOf old dial new (Some (refusal_of fault)) → new ≡ old ++ dial ∷ []
adds_plug old new dial fault e h = subst (λ (f : DialFault). AddsDialOf old dial new (Some (refusal_of f))) e h

-- that of one for which memory was wanted, or none
pub adds_memory : (Place : ℕ → Dial → Type 0) (old new : List Dial) (dial : Dial) (fault : DialFault) → Place 0 dial → fault ≡ DialFault.Memory → AddsDialOf old dial new (Some (refusal_of fault))
    → (new ≡ old) ⊎ ((asked : Dial) × Place 0 asked × (new ≡ old ++ asked ∷ []))
adds_memory Place old new dial fault here e h = at (subst (λ (f : DialFault). AddsDialOf old dial new (Some (refusal_of f))) e h)
  where
    at : (new ≡ old) ⊎ (new ≡ old ++ dial ∷ []) → (new ≡ old) ⊎ ((asked : Dial) × Place 0 asked × (new ≡ old ++ asked ∷ []))
    at (inl same) = inl same
    at (inr grown) = inr (dial, here, grown)
