-- Which slot labels name, and what a container that agrees with a slot is.
use Rattle.std.proofs.Common.{◌≡◌, ◌⊎◌, ℕ, ◌<◌, ◌^◌, Bool, true, false, not, ◌&&◌, List, Option, Some, None, refl, sym, ap, ◌∙◌, subst, inl, inr, arith}
use Rattle.std.proofs.lemmas.Bool.{cases_order, le-ltb}
use Rattle.std.proofs.lemmas.Cmp.{nat_list_cmp_total, tied_itself}
use Rattle.std.proofs.lemmas.Fmt.{decimal_injective}
use Rattle.std.proofs.lemmas.Slice.Eq.{bytes_eq-Decides}
use Rattle.std.specs.Ordering.{is_lt}
use Rattle.std.specs.Prelude.{decimal, nat_lt}
use Rattle.std.specs.Str.{bytes_eq}
use Rattle.tree_base.specs.declared.Var.{Var}
use Rattle.engine_types.specs.Labels as the
use Rattle.engine_types.specs.Labels.{label}
use Rattle.engine_types.specs.declared.ContainerState.{ContainerState}
use Rattle.engine_types.specs.declared.Declared.{Declared}
use Rattle.engine_types.specs.declared.Slot.{Slot}
use Rattle.run_model.specs.EngineRules.{Among, has_label, is_of_project}
use Rattle.run_model.specs.Labels.{agrees, hash_for, is_lost_state, is_of_slot, names_service}
use Rattle.run_model.specs.Plans.{IsWhole, is_slot_before, slot_at}
use Rattle.tree_base.specs.ByteOrder.{is_before}
use Rattle.run_model.proofs.DistinctLists.{from_place}
use Rattle.run_model.proofs.PlanLaws.{both, some_from}
use Rattle.world_laws.specs.OwnSpecs.{HasOwnSpecs}

-- a label has one value
one_value : (labels : List Var) (name v w : List ℕ) → has_label labels name v ≡ true → has_label labels name w ≡ true → v ≡ w
one_value labels name v w e f =
    let x = some_from (bytes_eq v) (label labels name) e in
    let y = some_from (bytes_eq w) (label labels name) f in
    let same : Some x.0 ≡ Some y.0 = sym x.1 ∙ y.1 in
    let one : x.0 ≡ y.0 = cc same in (bytes_eq-Decides v x.0).0 x.2 ∙ one ∙ sym ((bytes_eq-Decides w y.0).0 y.2)

-- labels that are a slot's
pub record IsLabelled (project : List ℕ) (slot : Slot) (labels : List Var) : Type 0 where
  pub of_project : is_of_project project labels ≡ true
  pub service : names_service slot.service labels ≡ true
  pub number : has_label labels the.number_label (decimal slot.number) ≡ true

pub is_labelled : (project : List ℕ) (slot : Slot) (labels : List Var) → is_of_slot project slot labels ≡ true → IsLabelled project slot labels
is_labelled project slot labels e =
    let x = both _ _ e in let y = both (names_service slot.service labels) _ x.1 in record { of_project = x.0; service = y.0; number = y.1 }

-- a container that agrees with a slot
pub record Agrees (project : List ℕ) (slot : Slot) (o : Option (List ℕ)) (labels : List Var) (image_id : List ℕ) (state : ContainerState) : Type 0 where
  pub image : List ℕ
  pub image_is : o ≡ Some image
  pub of_slot : is_of_slot project slot labels ≡ true
  pub hash : has_label labels the.hash_label (hash_for slot labels) ≡ true
  pub same_image : image ≡ image_id
  pub here : is_lost_state state ≡ false

pub agrees_to : (project : List ℕ) (slot : Slot) (o : Option (List ℕ)) (labels : List Var) (image_id : List ℕ) (state : ContainerState)
    → agrees project slot o labels image_id state ≡ true → Agrees project slot o labels image_id state
agrees_to project slot None labels image_id state e = absurd (cc e)
agrees_to project slot (Some image) labels image_id state e =
    let x = both _ _ e in let y = both _ _ x.0 in let z = both (is_of_slot project slot labels) _ y.0 in
    record { image = image; image_is = refl; of_slot = z.0; hash = z.1; same_image = (bytes_eq-Decides image image_id).0 y.1; here = negated (is_lost_state state) x.1 }
  where
    negated : (t : Bool) → not t ≡ true → t ≡ false
    negated true f = absurd (cc f)
    negated false f = refl

pub agrees_by : (project : List ℕ) (slot : Slot) (o : Option (List ℕ)) (labels : List Var) (image_id : List ℕ) (state : ContainerState)
    → Agrees project slot o labels image_id state → agrees project slot o labels image_id state ≡ true
agrees_by project slot o labels image_id state a =
    rw (a.image_is, a.of_slot, a.hash, (bytes_eq-Decides a.image image_id).1 a.same_image, a.here) refl

-- no text stands before itself, and no slot before one of its service and number
not_before_itself : (s : List ℕ) → is_before s s ≡ false
not_before_itself s = ap is_lt (tied_itself nat_list_cmp_total s)

module _ (declared : Declared) (whole : IsWhole declared) (own : HasOwnSpecs declared) where
  -- two slots whose labels these are are one
  pub one_slot : (i j : ℕ) (slot other : Slot) (labels : List Var) → slot_at declared i ≡ Some slot → slot_at declared j ≡ Some other
      → is_of_slot declared.project slot labels ≡ true → is_of_slot declared.project other labels ≡ true → i ≡ j
  one_slot i j slot other labels h k e f = at (cases_order i j)
    where
      x : IsLabelled declared.project slot labels
      x = is_labelled declared.project slot labels e

      y : IsLabelled declared.project other labels
      y = is_labelled declared.project other labels f

      below : (a : Slot) → Among declared.slots a → a.number < 2 ^ 64
      below a m = let fits = (own a m).number in omega (arith, fits)

      service : slot.service ≡ other.service
      service = one_value labels the.service_label slot.service other.service x.service y.service

      number : slot.number ≡ other.number
      number = decimal_injective slot.number other.number (below slot (from_place declared.slots i slot h)) (below other (from_place declared.slots j other k))
          (one_value labels the.number_label (decimal slot.number) (decimal other.number) x.number y.number)

      never : (a b : Slot) → a.service ≡ b.service → a.number ≡ b.number → is_slot_before a b ≡ true → ⊥
      never a b s n before =
          let first : is_before a.service b.service ≡ false = subst (λ (t : List ℕ). is_before a.service t ≡ false) s (not_before_itself a.service) in
          let second : nat_lt a.number b.number ≡ false = subst (λ (m : ℕ). nat_lt a.number m ≡ false) n (not_less a.number) in
          let none : is_slot_before a b ≡ false = rw (first, second) (at_end (bytes_eq a.service b.service)) in
          let bad : false ≡ true = sym none ∙ before in cc bad
        where
          not_less : (m : ℕ) → nat_lt m m ≡ false
          not_less m = le-ltb m m (omega arith)

          at_end : (t : Bool) → (t && false) ≡ false
          at_end true = refl
          at_end false = refl

      at : (i ≡ j) ⊎ ((i < j) ⊎ (j < i)) → i ≡ j
      at (inl same) = same
      at (inr (inl less)) = absurd (never slot other service number (whole.slots i j slot other less h k))
      at (inr (inr more)) = absurd (never other slot (sym service) (sym number) (whole.slots j i other slot more k h))
