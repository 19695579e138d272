-- What holds of a refusal that is said.
use Rattle.std.proofs.Common.{◌≡◌, Some, None, sym, subst, refl}
use Rattle.std.specs.Prelude.{Option}
use Rattle.refusals.specs.declared.refusal.Refusal.{Refusal}
use Rattle.refusals.specs.Saying.{IsSaid, IsSaidIfAny}

-- what holds of the refusal, and of a want of memory, holds of what is said
pub said : (refusal : Refusal) (found : Option Refusal) → IsSaid refusal found → (P : Option Refusal → Type 0) → P (Some Refusal.Memory) → P (Some refusal) → P found
said refusal None h P memory is = subst P (sym h) is
said refusal (Some Refusal.Memory) h P memory is = memory
said refusal (Some (Refusal.Words words)) h P memory is = subst P (sym h) is
said refusal (Some (Refusal.NotBuilt unbuilt)) h P memory is = subst P (sym h) is
said refusal (Some (Refusal.Load load)) h P memory is = subst P (sym h) is
said refusal (Some (Refusal.Name name)) h P memory is = subst P (sym h) is
said refusal (Some (Refusal.Active active)) h P memory is = subst P (sym h) is
said refusal (Some (Refusal.Project project)) h P memory is = subst P (sym h) is
said refusal (Some (Refusal.Digest digest)) h P memory is = subst P (sym h) is
said refusal (Some (Refusal.Identity identity)) h P memory is = subst P (sym h) is
said refusal (Some (Refusal.Seen fault)) h P memory is = subst P (sym h) is
said refusal (Some (Refusal.Request request outcome)) h P memory is = subst P (sym h) is
said refusal (Some (Refusal.Condition slot condition report)) h P memory is = subst P (sym h) is
said refusal (Some Refusal.Stopped) h P memory is = subst P (sym h) is
said refusal (Some (Refusal.Late why)) h P memory is = subst P (sym h) is
said refusal (Some (Refusal.Outside part)) h P memory is = subst P (sym h) is

-- the same of a refusal, if any
pub said_if_any : (refusal found : Option Refusal) → IsSaidIfAny refusal found → (P : Option Refusal → Type 0) → P (Some Refusal.Memory) → P refusal → P found
said_if_any None found h P memory is = subst P (sym h) is
said_if_any (Some refusal) found h P memory is = said refusal found h P memory is

-- where nothing is said, there was no refusal
pub unsaid : (refusal found : Option Refusal) → IsSaidIfAny refusal found → found ≡ None → refusal ≡ None
unsaid None found h e = refl
unsaid (Some refusal) found h e = let is : IsSaid refusal None = subst (IsSaid refusal) e h in absurd (cc is)
