-- Steps that may give nothing.
use Rattle.std.proofs.Common.{◌≡◌, Option, None, Some, refl}

infixl 10 ◌>>?◌
-- one step after another
abbrev pub ◌>>?◌ : {A B : Type 0} → Option A → (A → Option B) → Option B
None >>? next = None
(Some a) >>? next = next a

-- a fact on what is given, where something is
abbrev pub OfGiven : {A : Type 0} → (A → Type 0) → Option A → Type 0
OfGiven P None = Unit {0}
OfGiven P (Some a) = P a

pub next_next : {A B C : Type 0} (o : Option A) (f : A → Option B) (g : B → Option C) → ((o >>? f) >>? g) ≡ (o >>? λ a. f a >>? g)
next_next None f g = refl
next_next (Some a) f g = refl

pub same_next : {A B : Type 0} (o : Option A) (f g : A → Option B) → ((a : A) → f a ≡ g a) → (o >>? f) ≡ (o >>? g)
same_next None f g h = refl
same_next (Some a) f g h = h a

pub same_given : {A B : Type 0} (P : A → Type 0) (o : Option A) (f g : A → Option B) → OfGiven P o → ((a : A) → P a → f a ≡ g a) → (o >>? f) ≡ (o >>? g)
same_given P None f g is h = refl
same_given P (Some a) f g is h = h a is

pub ends : {A : Type 0} (o : Option A) → (o >>? λ a. Some a) ≡ o
ends None = refl
ends (Some a) = refl

pub swaps : {A B C : Type 0} (o : Option A) (p : Option B) (f : A → B → Option C) → (o >>? λ a. p >>? λ b. f a b) ≡ (p >>? λ b. o >>? λ a. f a b)
swaps None None f = refl
swaps None (Some b) f = refl
swaps (Some a) None f = refl
swaps (Some a) (Some b) f = refl

pub gives_none : {A B : Type 0} (o : Option A) (f : A → Option B) → ((a : A) → f a ≡ None) → (o >>? f) ≡ None
gives_none None f h = refl
gives_none (Some a) f h = h a

pub of_next : {A B : Type 0} (P : A → Type 0) (Q : B → Type 0) (o : Option A) (f : A → Option B) → OfGiven P o → ((a : A) → P a → OfGiven Q (f a)) → OfGiven Q (o >>? f)
of_next P Q None f is h = tt
of_next P Q (Some a) f is h = h a is
