-- A container before and after an answer.
use Rattle.std.proofs.Common.{◌≡◌, ◌⊎◌, ℕ, Bool, true, false, List, Option, Some, None, refl, sym, ap, ◌∙◌, subst, inl, inr}
use Rattle.std.proofs.lemmas.Slice.Eq.{bytes_eq-Decides}
use Rattle.std.specs.Prelude.{if◌then◌else◌}
use Rattle.std.specs.Str.{bytes_eq}
use Rattle.engine_types.specs.declared.ContainerRow.{ContainerRow}
use Rattle.engine_types.specs.declared.ContainerSpec.{ContainerSpec}
use Rattle.engine_types.specs.declared.Engine.{Engine}
use Rattle.engine_types.specs.declared.Reply.{Reply}
use Rattle.engine_types.specs.declared.Request.{Request}
use Rattle.run_model.specs.EngineRules.{Creates, container_at, created_row}
use Rattle.world_laws.proofs.Bodies.{AlikeAt, IsAlike, Keeps, Makes, Takes, Turn, alike_at, is_taking}

-- the answer took away the container at this id
abbrev pub IsTaken : Request → Reply → List ℕ → Type 0
IsTaken request reply id = (request ≡ Request.Remove id) × (reply ≡ Reply.Done)

-- where a container came from that is there after an answer: it was there before, or was made
pub data Came (old : Engine) (request : Request) (reply : Reply) (new : Engine) (id : List ℕ) (row : ContainerRow) : Type 0 where
  Stayed : (was : ContainerRow) → container_at old id ≡ Some was → IsAlike was row → (IsTaken request reply id → ⊥) → Came old request reply new id row
  Made : (name : List ℕ) (spec : ContainerSpec) → request ≡ Request.Create name spec → reply ≡ Reply.Made id → Creates old new name spec id → row.labels ≡ spec.labels
      → Came old request reply new id row

module _ (old : Engine) (request : Request) (reply : Reply) (new : Engine) (i : List ℕ) (row : ContainerRow) where
  -- a container that is there before an answer stays as it was, or is taken away
  pub stays_or_taken : Turn old request reply new → container_at old i ≡ Some row → AlikeAt (container_at old i) (container_at new i) ⊎ IsTaken request reply i
  stays_or_taken (Keeps m t keeps) e = inl (keeps i)
  stays_or_taken (Makes name spec id q r c) e = at (bytes_eq id i) refl (c.changes.containers i)
    where
      at : (t : Bool) → bytes_eq id i ≡ t → container_at new i ≡ (if t then Some (created_row id name spec c.image c.networks) else container_at old i)
          → AlikeAt (container_at old i) (container_at new i) ⊎ IsTaken request reply i
      at true h f =
          let none : container_at old i ≡ None = subst (λ (x : List ℕ). container_at old x ≡ None) ((bytes_eq-Decides id i).0 h) c.fresh in
          let bad : None ≡ Some row = sym none ∙ e in absurd (cc bad)
      at false h f = inl (subst (λ (o : Option ContainerRow). AlikeAt (container_at old i) o) (sym f) (alike_at (container_at old i)))
  stays_or_taken (Takes id q r puts) e = at (bytes_eq id i) refl (puts i)
    where
      at : (t : Bool) → bytes_eq id i ≡ t → container_at new i ≡ (if t then None else container_at old i)
          → AlikeAt (container_at old i) (container_at new i) ⊎ IsTaken request reply i
      at true h f = inr (q ∙ ap (λ (x : List ℕ). Request.Remove x) ((bytes_eq-Decides id i).0 h), r)
      at false h f = inl (subst (λ (o : Option ContainerRow). AlikeAt (container_at old i) o) (sym f) (alike_at (container_at old i)))

  stayed : (o : Option ContainerRow) → container_at old i ≡ o → AlikeAt o (Some row) → (IsTaken request reply i → ⊥) → Came old request reply new i row
  stayed None h a apart = absurd a
  stayed (Some was) h a apart = Stayed was h a apart

  same_as : (o : Option ContainerRow) → o ≡ Some row → AlikeAt o (Some row)
  same_as o e = subst (λ (p : Option ContainerRow). AlikeAt o p) e (alike_at o)

  -- a container that is there after an answer was there before, or was made
  pub came_from : Turn old request reply new → container_at new i ≡ Some row → Came old request reply new i row
  came_from (Keeps m t keeps) e = stayed (container_at old i) refl (subst (λ (o : Option ContainerRow). AlikeAt (container_at old i) o) e (keeps i)) apart
    where
      apart : IsTaken request reply i → ⊥
      apart taken = let here : is_taking (Request.Remove i) Reply.Done ≡ false = rw (taken.0, taken.1) at t in cc here
  came_from (Makes name spec id q r c) e = at (bytes_eq id i) refl (c.changes.containers i)
    where
      apart : IsTaken request reply i → ⊥
      apart taken = let bad : Request.Create name spec ≡ Request.Remove i = sym q ∙ taken.0 in cc bad

      at : (t : Bool) → bytes_eq id i ≡ t → container_at new i ≡ (if t then Some (created_row id name spec c.image c.networks) else container_at old i)
          → Came old request reply new i row
      at true h f =
          let one : id ≡ i = (bytes_eq-Decides id i).0 h in
          let same : Some (created_row id name spec c.image c.networks) ≡ Some row = sym f ∙ e in
          let is : created_row id name spec c.image c.networks ≡ row = cc same in
          Made name spec q (r ∙ ap (λ (x : List ℕ). Reply.Made x) one) (subst (λ (x : List ℕ). Creates old new name spec x) one c) (ap (λ (x : ContainerRow). x.labels) (sym is))
      at false h f = stayed (container_at old i) refl (same_as (container_at old i) (sym f ∙ e)) apart
  came_from (Takes id q r puts) e = at (bytes_eq id i) refl (puts i)
    where
      at : (t : Bool) → bytes_eq id i ≡ t → container_at new i ≡ (if t then None else container_at old i) → Came old request reply new i row
      at true h f = let bad : None ≡ Some row = sym f ∙ e in absurd (cc bad)
      at false h f = stayed (container_at old i) refl (same_as (container_at old i) (sym f ∙ e)) (λ taken.
          let both_ids : Request.Remove id ≡ Request.Remove i = sym q ∙ taken.0 in
          let one : id ≡ i = cc both_ids in
          let bad : true ≡ false = sym ((bytes_eq-Decides id i).1 one) ∙ h in cc bad)
