-- A declared service of two slots that stand alone is whole, and nothing in it needs anything else.
use Rattle.std.proofs.Common.{◌≡◌, ℕ, zero, suc, ◌<◌, ◌^◌, Bool, true, false, ◌&&◌, ◌||◌, List, [], ◌∷◌, ◌++◌, Option, None, Some, length, slice_get, nat_lt, refl, sym, ◌∙◌, ap, subst, inl, inr, arith}
use Rattle.std.specs.List.{list_any}
use Rattle.std.specs.Str.{bytes_eq}
use Rattle.std.proofs.lemmas.Bool.Decides.{Decides-ltb}
use Rattle.std.proofs.lemmas.Slice.Eq.{bytes_eq-Decides}
use Rattle.engine_types.specs.declared.Attach.{Attach}
use Rattle.engine_types.specs.declared.Declared.{Declared}
use Rattle.engine_types.specs.declared.DeclaredService.{DeclaredService}
use Rattle.engine_types.specs.declared.Need.{Need}
use Rattle.engine_types.specs.declared.NetworkSpec.{NetworkSpec}
use Rattle.engine_types.specs.declared.Slot.{Slot}
use Rattle.engine_types.specs.declared.VolumeSpec.{VolumeSpec}
use Rattle.plan_core.specs.Order.{HasNoCycle}
use Rattle.run_laws.specs.Orders.{NeedsDependencies}
use Rattle.run_model.specs.EngineRules.{Among}
use Rattle.run_model.specs.Plans.{HasSmallNumbers, IsWhole, is_slot_before}
use Rattle.tree_base.specs.ByteOrder.{IsAscending, is_before}
use Rattle.tests_workers.specs.Alone.{AreFirstTwo, IsAlone, IsOfNone, IsOne}

or_left : (a b : Bool) → a ≡ true → (a || b) ≡ true
or_left true b e = refl
or_left false b e = absurd (cc e)

or_right : (a b : Bool) → b ≡ true → (a || b) ≡ true
or_right true b e = refl
or_right false b e = e

both : (a b : Bool) → a ≡ true → b ≡ true → (a && b) ≡ true
both true b e f = f
both false b e f = absurd (cc e)

module _ {X : Type 0} (before : X → X → Bool) where
  none_ascends : IsAscending before []
  none_ascends i j x y l e f = absurd (cc e)

  one_ascends : (a : X) → IsAscending before (a ∷ [])
  one_ascends a zero zero x y l e f = absurd (omega (arith, l))
  one_ascends a zero (suc j) x y l e f = absurd (cc f)
  one_ascends a (suc i) j x y l e f = absurd (cc e)

  two_ascend : (a b : X) → before a b ≡ true → IsAscending before (a ∷ b ∷ [])
  two_ascend a b less zero zero x y l e f = absurd (omega (arith, l))
  two_ascend a b less zero (suc zero) x y l e f =
      let first : a ≡ x = cc e in
      let second : b ≡ y = cc f in
      subst (λ (z : X). before z y ≡ true) first (subst (λ (z : X). before a z ≡ true) second less)
  two_ascend a b less zero (suc (suc j)) x y l e f = absurd (cc f)
  two_ascend a b less (suc zero) zero x y l e f = absurd (omega (arith, l))
  two_ascend a b less (suc zero) (suc zero) x y l e f = absurd (omega (arith, l))
  two_ascend a b less (suc zero) (suc (suc j)) x y l e f = absurd (cc f)
  two_ascend a b less (suc (suc i)) j x y l e f = absurd (cc e)

at_among : {X : Type 0} (xs : List X) (s : ℕ) (x : X) → slice_get xs s ≡ Some x → Among xs x
at_among [] s x e = absurd (cc e)
at_among (y ∷ ys) zero x e = let same : y ≡ x = cc e in inl (sym same)
at_among (y ∷ ys) (suc s) x e = inr (at_among ys s x e)

-- what is declared of a project
abbrev pub made : List ℕ → List Slot → List DeclaredService → List NetworkSpec → List VolumeSpec → Declared
made project slots services networks volumes =
    record { project = project; slots = slots; services = services; networks = networks; volumes = volumes }

-- what a run asks of it
pub record Stands (declared : Declared) : Type 0 where
  pub whole : IsWhole declared
  pub small : HasSmallNumbers declared
  pub acyclic : HasNoCycle declared
  pub needs : NeedsDependencies declared

module _ (project name : List ℕ) (a b : Slot) (s : DeclaredService) (one : IsAlone name 1 a) (two : IsAlone name 2 b) (own : IsOfNone name s)
    (networks : List NetworkSpec) (volumes : List VolumeSpec) (no_networks : networks ≡ []) (no_volumes : volumes ≡ []) where
  of_slots : (P : Slot → Type 0) → P a → P b → (slot : Slot) → Among (a ∷ b ∷ []) slot → P slot
  of_slots P p q slot (inl same) = subst P (sym same) p
  of_slots P p q slot (inr (inl same)) = subst P (sym same) q
  of_slots P p q slot (inr (inr none)) = absurd none

  of_services : (P : DeclaredService → Type 0) → P s → (service : DeclaredService) → Among (s ∷ []) service → P service
  of_services P p service (inl same) = subst P (sym same) p
  of_services P p service (inr none) = absurd none

  no_need : {P : Type 0} (slot : Slot) (need : Need) → Among (a ∷ b ∷ []) slot → Among slot.needs need → P
  no_need slot need among needed =
      let none : Among [] need = subst (λ (needs : List Need). Among needs need) (of_slots (λ (slot : Slot). slot.needs ≡ []) one.3 two.3 slot among) needed in
      absurd none

  no_attach : {P : Type 0} (slot : Slot) (attach : Attach) → Among (a ∷ b ∷ []) slot → Among slot.attach attach → P
  no_attach slot attach among joined =
      let none : Among [] attach = subst (λ (all : List Attach). Among all attach) (of_slots (λ (slot : Slot). slot.attach ≡ []) one.2 two.2 slot among) joined in
      absurd none

  no_dependency : {P : Type 0} (service : DeclaredService) (key : List ℕ) → Among (s ∷ []) service → Among service.depends_on key → P
  no_dependency service key among depended =
      let none : Among [] key = subst (λ (keys : List (List ℕ)). Among keys key) (of_services (λ (service : DeclaredService). service.depends_on ≡ []) own.1 service among) depended in
      absurd none

  owned : (slot : Slot) → slot.service ≡ name → list_any (λ service. bytes_eq service.key slot.service) (s ∷ []) ≡ true
  owned slot e = or_left (bytes_eq s.key slot.service) false ((bytes_eq-Decides s.key slot.service).1 (own.0 ∙ sym e))

  in_order : is_slot_before a b ≡ true
  in_order =
      or_right (is_before a.service b.service) (bytes_eq a.service b.service && nat_lt a.number b.number)
      (both (bytes_eq a.service b.service) (nat_lt a.number b.number)
      ((bytes_eq-Decides a.service b.service).1 (one.0 ∙ sym two.0))
      ((Decides-ltb a.number b.number).1 (omega (arith, one.1, two.1))))

  never_none : (service : DeclaredService) → Among (s ∷ []) service → service.roll ≡ Some 0 → ⊥
  never_none service among e =
      let clash : None ≡ Some 0 = sym (of_services (λ (service : DeclaredService). service.roll ≡ None) own.2 service among) ∙ e in
      cc clash

  two_stand : Stands (made project (a ∷ b ∷ []) (s ∷ []) networks volumes)
  two_stand = record {
    whole = record {
      slots = two_ascend is_slot_before a b in_order;
      services = one_ascends (λ service other. is_before service.key other.key) s;
      owners = of_slots (λ (slot : Slot). list_any (λ service. bytes_eq service.key slot.service) (s ∷ []) ≡ true) (owned a one.0) (owned b two.0);
      networks = subst (λ (all : List NetworkSpec). IsAscending (λ network other. is_before network.name other.name) all) (sym no_networks) (none_ascends (λ network other. is_before network.name other.name));
      volumes = subst (λ (all : List VolumeSpec). IsAscending (λ volume other. is_before volume.name other.name) all) (sym no_volumes) (none_ascends (λ volume other. is_before volume.name other.name));
      attaches = λ slot attach among joined. no_attach slot attach among joined;
      needs = λ slot need among needed. no_need slot need among needed;
      conditions = λ slot need among needed. no_need slot need among needed;
      rolls = never_none;
    };
    small = of_slots (λ (slot : Slot). slot.number < 2 ^ 32) (omega (arith, one.1)) (omega (arith, two.1));
    acyclic = record {
      rank = λ s. 0;
      falls = λ s slot need at needed. no_need slot need (at_among (a ∷ b ∷ []) s slot at) needed;
      height = λ key. 0;
      sinks = λ service key among depended. no_dependency service key among depended;
    };
    needs = λ s slot other need at needed there. no_need slot need (at_among (a ∷ b ∷ []) s slot at) needed;
  }

pub stands : (project name : List ℕ) (slots : List Slot) (services : List DeclaredService) (networks : List NetworkSpec) (volumes : List VolumeSpec)
    → AreFirstTwo name slots → IsOne name services → networks ≡ [] → volumes ≡ [] → Stands (made project slots services networks volumes)
stands project name [] services networks volumes two one none nothing = absurd two
stands project name (a ∷ []) services networks volumes two one none nothing = absurd two
stands project name (a ∷ b ∷ c ∷ more) services networks volumes two one none nothing = absurd two
stands project name (a ∷ b ∷ []) [] networks volumes two one none nothing = absurd one
stands project name (a ∷ b ∷ []) (s ∷ t ∷ more) networks volumes two one none nothing = absurd one
stands project name (a ∷ b ∷ []) (s ∷ []) networks volumes two one none nothing = two_stand project name a b s two.0 two.1 one networks volumes none nothing

pub first_two : (name : List ℕ) (none some all : List Slot) (a b : Slot) → none ≡ [] → some ≡ none ++ a ∷ [] → all ≡ some ++ b ∷ [] → IsAlone name 1 a → IsAlone name 2 b → AreFirstTwo name all
first_two name none some all a b e f g one two =
    let both : all ≡ a ∷ b ∷ [] = g ∙ ap (λ (xs : List Slot). xs ++ b ∷ []) (f ∙ ap (λ (xs : List Slot). xs ++ a ∷ []) e) in
    subst (AreFirstTwo name) (sym both) (one, two)

pub lone : (name : List ℕ) (none all : List DeclaredService) (s : DeclaredService) → none ≡ [] → all ≡ none ++ s ∷ [] → IsOfNone name s → IsOne name all
lone name none all s e f own =
    let only : all ≡ s ∷ [] = f ∙ ap (λ (xs : List DeclaredService). xs ++ s ∷ []) e in
    subst (IsOne name) (sym only) own
