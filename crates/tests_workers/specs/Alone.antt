-- A declared service of two slots that stand alone.
use Rattle.std.specs.Prelude.{◌≡◌, ℕ, List, [], ◌∷◌, None}
use Rattle.engine_types.specs.declared.DeclaredService.{DeclaredService}
use Rattle.engine_types.specs.declared.Slot.{Slot}

-- a slot of a service with a number, on no network, which needs no other one
abbrev pub IsAlone : List ℕ → ℕ → Slot → Type 0
IsAlone key number slot =
    (slot.service ≡ key) × (slot.number ≡ number) × (slot.attach ≡ []) × (slot.needs ≡ [])

-- the slots of a service with the numbers 1 and 2
abbrev pub AreFirstTwo : List ℕ → List Slot → Type 0
AreFirstTwo key [] = ⊥
AreFirstTwo key (one ∷ []) = ⊥
AreFirstTwo key (one ∷ two ∷ []) = IsAlone key 1 one × IsAlone key 2 two
AreFirstTwo key (one ∷ two ∷ three ∷ more) = ⊥

-- a service that depends on no other one, and whose slots are replaced all at once
abbrev pub IsOfNone : List ℕ → DeclaredService → Type 0
IsOfNone key service =
    (service.key ≡ key) × (service.depends_on ≡ []) × (service.roll ≡ None)

-- one such service
abbrev pub IsOne : List ℕ → List DeclaredService → Type 0
IsOne key [] = ⊥
IsOne key (service ∷ []) = IsOfNone key service
IsOne key (service ∷ other ∷ more) = ⊥
