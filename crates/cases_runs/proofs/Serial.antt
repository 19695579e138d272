-- A declared set that passes the test is whole, and nothing in it waits for anything else.
use Rattle.std.proofs.Common.{◌≡◌, ℕ, zero, suc, ◌<◌, Bool, true, false, ◌&&◌, List, [], ◌∷◌, Option, None, Some, length, slice_get, nat_lt, refl, sym, ◌∙◌, subst, inl, inr, arith}
use Rattle.std.specs.List.{list_all}
use Rattle.std.proofs.lemmas.Bool.{and_parts, ltb-true}
use Rattle.engine_types.specs.declared.Attach.{Attach}
use Rattle.engine_types.specs.declared.Declared.{Declared}
use Rattle.engine_types.specs.declared.DeclaredService.{DeclaredService}
use Rattle.engine_types.specs.declared.Need.{Need}
use Rattle.engine_types.specs.declared.Slot.{Slot}
use Rattle.plan_core.specs.Order.{HasNoCycle}
use Rattle.run_laws.specs.Orders.{NeedsDependencies}
use Rattle.run_model.specs.EngineRules.{Among}
use Rattle.run_model.specs.Plans.{HasSmallNumbers, IsWhole, is_running, is_slot_before}
use Rattle.tree_base.specs.ByteOrder.{IsAscending, is_before}
use Rattle.cases_runs.specs.Whole.{are_served, is_alone, is_ascending, is_attached, is_nil, is_owned, is_serial, is_served, some_at_a_time, stand_alone}

module _ {X : Type 0} where
  each_at : (p : X → Bool) (xs : List X) (j : ℕ) (y : X) → list_all p xs ≡ true → slice_get xs j ≡ Some y → p y ≡ true
  each_at p [] j y all e = absurd (cc e)
  each_at p (x ∷ xs) zero y all e = let same : x ≡ y = cc e in subst (λ z. p z ≡ true) same (and_parts (p x) (list_all p xs) all).0
  each_at p (x ∷ xs) (suc j) y all e = each_at p xs j y (and_parts (p x) (list_all p xs) all).1 e

  ascends : (before : X → X → Bool) (xs : List X) → is_ascending before xs ≡ true → IsAscending before xs
  ascends before [] rises i j x y l e f = absurd (cc e)
  ascends before (z ∷ zs) rises zero zero x y l e f = absurd (omega (arith, l))
  ascends before (z ∷ zs) rises zero (suc j) x y l e f =
      let same : z ≡ x = cc e in
      subst (λ (w : X). before w y ≡ true) same (each_at (before z) zs j y (and_parts (list_all (before z) zs) (is_ascending before zs) rises).0 f)
  ascends before (z ∷ zs) rises (suc i) zero x y l e f = absurd (omega (arith, l))
  ascends before (z ∷ zs) rises (suc i) (suc j) x y l e f =
      ascends before zs (and_parts (list_all (before z) zs) (is_ascending before zs) rises).1 i j x y (omega (arith, l)) e f

  all_each : (p : X → Bool) (xs : List X) (x : X) → list_all p xs ≡ true → Among xs x → p x ≡ true
  all_each p [] x all among = absurd among
  all_each p (y ∷ ys) x all (inl same) = rw same ((and_parts (p y) (list_all p ys) all).0)
  all_each p (y ∷ ys) x all (inr among) = all_each p ys x (and_parts (p y) (list_all p ys) all).1 among

  at_among : (xs : List X) (s : ℕ) (x : X) → slice_get xs s ≡ Some x → Among xs x
  at_among [] s x e = absurd (cc e)
  at_among (y ∷ ys) zero x e = let same : y ≡ x = cc e in inl (sym same)
  at_among (y ∷ ys) (suc s) x e = inr (at_among ys s x e)

  nil_of : (xs : List X) → is_nil xs ≡ true → xs ≡ []
  nil_of [] e = refl
  nil_of (x ∷ xs) e = let clash : false ≡ true = e in absurd (cc clash)

-- six tests that all pass
record Six (a b c d e f : Bool) : Type 0 where
  one : a ≡ true
  two : b ≡ true
  three : c ≡ true
  four : d ≡ true
  five : e ≡ true
  six : f ≡ true

all_six : (a b c d e f : Bool) → (a && b && c && d && e && f) ≡ true → Six a b c d e f
all_six a b c d e f p =
    let p6 = and_parts (a && b && c && d && e) f p in
    let p5 = and_parts (a && b && c && d) e p6.0 in
    let p4 = and_parts (a && b && c) d p5.0 in
    let p3 = and_parts (a && b) c p4.0 in
    let p2 = and_parts a b p3.0 in
    record { one = p2.0; two = p2.1; three = p3.1; four = p4.1; five = p5.1; six = p6.1 }

never_none : (o : Option ℕ) → some_at_a_time o ≡ true → o ≡ Some 0 → ⊥
never_none None e f = cc f
never_none (Some zero) e f = cc e
never_none (Some (suc n)) e f = cc f

module _ (declared : Declared) (serial : is_serial declared ≡ true) where
  tests : Six (is_ascending is_slot_before declared.slots) (is_ascending (λ service other. is_before service.key other.key) declared.services)
      (is_ascending (λ network other. is_before network.name other.name) declared.networks) (is_ascending (λ volume other. is_before volume.name other.name) declared.volumes)
      (are_served declared.services declared.networks declared.slots) (stand_alone declared.services)
  tests = all_six (is_ascending is_slot_before declared.slots) (is_ascending (λ service other. is_before service.key other.key) declared.services)
      (is_ascending (λ network other. is_before network.name other.name) declared.networks) (is_ascending (λ volume other. is_before volume.name other.name) declared.volumes)
      (are_served declared.services declared.networks declared.slots) (stand_alone declared.services) serial

  -- a slot's own tests
  served : (slot : Slot) → Among declared.slots slot → is_served declared.services declared.networks slot ≡ true
  served slot among = all_each (is_served declared.services declared.networks) declared.slots slot tests.five among

  unnumbered : (slot : Slot) → Among declared.slots slot → (is_owned declared.services slot.service && is_attached declared.networks slot && is_nil slot.needs) ≡ true
  unnumbered slot among =
      (and_parts (is_owned declared.services slot.service && is_attached declared.networks slot && is_nil slot.needs) (nat_lt slot.number 4294967296) (served slot among)).0

  attached : (slot : Slot) → Among declared.slots slot → (is_owned declared.services slot.service && is_attached declared.networks slot) ≡ true
  attached slot among = (and_parts (is_owned declared.services slot.service && is_attached declared.networks slot) (is_nil slot.needs) (unnumbered slot among)).0

  no_needs : (slot : Slot) → Among declared.slots slot → slot.needs ≡ []
  no_needs slot among = nil_of slot.needs
      (and_parts (is_owned declared.services slot.service && is_attached declared.networks slot) (is_nil slot.needs) (unnumbered slot among)).1

  -- the numbers of its slots have 32 bits
  pub small : HasSmallNumbers declared
  small slot among = ltb-true slot.number 4294967296
      (and_parts (is_owned declared.services slot.service && is_attached declared.networks slot && is_nil slot.needs) (nat_lt slot.number 4294967296) (served slot among)).1

  alone : (service : DeclaredService) → Among declared.services service → (is_nil service.depends_on ≡ true) × (some_at_a_time service.roll ≡ true)
  alone service among = and_parts (is_nil service.depends_on) (some_at_a_time service.roll) (all_each is_alone declared.services service tests.six among)

  no_dependency : {P : Type 0} (service : DeclaredService) (key : List ℕ) → Among declared.services service → Among service.depends_on key → P
  no_dependency service key among depended =
      let none : Among [] key = subst (λ (keys : List (List ℕ)). Among keys key) (nil_of service.depends_on (alone service among).0) depended in absurd none

  no_need : {P : Type 0} (slot : Slot) (need : Need) → Among declared.slots slot → Among slot.needs need → P
  no_need slot need among needed =
      let none : Among [] need = subst (λ (needs : List Need). Among needs need) (no_needs slot among) needed in absurd none

  -- nothing in it needs anything else, and so nothing in a circle
  pub acyclic : HasNoCycle declared
  acyclic = record {
    rank = λ s. 0;
    falls = λ s slot need at needed. no_need slot need (at_among declared.slots s slot at) needed;
    height = λ key. 0;
    sinks = no_dependency;
  }

  pub needs : NeedsDependencies declared
  needs s slot other need at needed there = no_need slot need (at_among declared.slots s slot at) needed

  attached_within : (slot : Slot) (attach : Attach) → Among declared.slots slot → Among slot.attach attach → attach.network < length declared.networks
  attached_within slot attach among joined =
      ltb-true attach.network (length declared.networks)
      (all_each (λ attach. nat_lt attach.network (length declared.networks)) slot.attach attach
      (and_parts (is_owned declared.services slot.service) (is_attached declared.networks slot) (attached slot among)).1 joined)

  none_rolls : (service : DeclaredService) → Among declared.services service → service.roll ≡ Some 0 → ⊥
  none_rolls service among e = never_none service.roll (alone service among).1 e

  -- and it is whole
  pub whole : IsWhole declared
  whole = record {
    slots = ascends is_slot_before declared.slots tests.one;
    services = ascends (λ service other. is_before service.key other.key) declared.services tests.two;
    owners = λ slot among. (and_parts (is_owned declared.services slot.service) (is_attached declared.networks slot) (attached slot among)).0;
    networks = ascends (λ network other. is_before network.name other.name) declared.networks tests.three;
    volumes = ascends (λ volume other. is_before volume.name other.name) declared.volumes tests.four;
    attaches = attached_within;
    needs = λ slot need among needed. no_need slot need among needed;
    conditions = λ slot need among needed. no_need slot need among needed;
    rolls = none_rolls;
  }
