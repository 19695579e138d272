-- A run of two services may begin.
use Rattle.std.proofs.Common.{◌≡◌, ℕ, zero, suc, ◌<◌, true, length, slice_get, Some, None, refl, sym, ap, ◌∙◌, subst, inl, inr, arith}
use Rattle.std.specs.List.{list_any}
use Rattle.std.specs.Str.{bytes_eq}
use Rattle.engine_types.specs.declared.Attach.{Attach}
use Rattle.engine_types.specs.declared.DeclaredService.{DeclaredService}
use Rattle.engine_types.specs.declared.Need.{Need}
use Rattle.engine_types.specs.declared.Slot.{Slot}
use Rattle.tree_base.specs.ByteOrder.{is_before}
use Rattle.run_model.specs.EngineRules.{Among}
use Rattle.run_model.specs.Plans.{IsOrderly, IsWhole, basis_of, is_running, is_slot_before, kind_of, needs_of, slot_needs, start_of}
use Rattle.run_model.proofs.RollLaws.{has_plan}
use Rattle.ledger_core.specs.Beginning.{MayBegin}
use Rattle.ledger_start.specs.TwoServices.{db, db_service, found, healthy_db, limits, plan, seen, shop, to_up, web, web_service}

some_is : {X : Type 0} (x y : X) → Some x ≡ Some y → x ≡ y
some_is x y h = cc h

slots_rise : (i j : ℕ) (x y : Slot) → i < j → slice_get shop.slots i ≡ Some x → slice_get shop.slots j ≡ Some y → is_slot_before x y ≡ true
slots_rise i zero x y l e f = absurd (omega arith)
slots_rise zero (suc zero) x y l e f = subst (λ (s : Slot). is_slot_before s y ≡ true) (some_is db x e) (subst (λ (s : Slot). is_slot_before db s ≡ true) (some_is web y f) refl)
slots_rise (suc i) (suc zero) x y l e f = absurd (omega arith)
slots_rise i (suc (suc j)) x y l e f = absurd (cc f)

services_rise : (i j : ℕ) (x y : DeclaredService) → i < j → slice_get shop.services i ≡ Some x → slice_get shop.services j ≡ Some y → is_before x.key y.key ≡ true
services_rise i zero x y l e f = absurd (omega arith)
services_rise zero (suc zero) x y l e f =
    subst (λ (s : DeclaredService). is_before s.key y.key ≡ true) (some_is db_service x e) (subst (λ (s : DeclaredService). is_before db_service.key s.key ≡ true) (some_is web_service y f) refl)
services_rise (suc i) (suc zero) x y l e f = absurd (omega arith)
services_rise i (suc (suc j)) x y l e f = absurd (cc f)

owners : (slot : Slot) → Among shop.slots slot → list_any (λ service. bytes_eq service.key slot.service) shop.services ≡ true
owners slot (inl e) = ap (λ (s : Slot). list_any (λ service. bytes_eq service.key s.service) shop.services) e
owners slot (inr (inl e)) = ap (λ (s : Slot). list_any (λ service. bytes_eq service.key s.service) shop.services) e
owners slot (inr (inr m)) = absurd m

attaches : (slot : Slot) (attach : Attach) → Among shop.slots slot → Among slot.attach attach → attach.network < length shop.networks
attaches slot attach (inl e) n = let h : Among db.attach attach = subst (λ (s : Slot). Among s.attach attach) e n in absurd h
attaches slot attach (inr (inl e)) n = let h : Among web.attach attach = subst (λ (s : Slot). Among s.attach attach) e n in absurd h
attaches slot attach (inr (inr m)) n = absurd m

-- the one need
one_need : (slot : Slot) (need : Need) → Among shop.slots slot → Among slot.needs need → need ≡ healthy_db
one_need slot need (inl e) n = let h : Among db.needs need = subst (λ (s : Slot). Among s.needs need) e n in absurd h
one_need slot need (inr (inl e)) n = by (subst (λ (s : Slot). Among s.needs need) e n)
  where
    by : Among web.needs need → need ≡ healthy_db
    by (inl k) = k
    by (inr k) = absurd k
one_need slot need (inr (inr m)) n = absurd m

rolls : (service : DeclaredService) → Among shop.services service → service.roll ≡ Some 0 → ⊥
rolls service (inl k) e = let r : None ≡ Some 0 = sym (ap (λ (s : DeclaredService). s.roll) k) ∙ e in cc r
rolls service (inr (inl k)) e = let r : None ≡ Some 0 = sym (ap (λ (s : DeclaredService). s.roll) k) ∙ e in cc r
rolls service (inr (inr m)) e = absurd m

whole : IsWhole shop
whole = record {
  slots = slots_rise;
  services = services_rise;
  owners = owners;
  networks = λ i j x y l e f. absurd (cc e);
  volumes = λ i j x y l e f. absurd (cc e);
  attaches = attaches;
  needs = λ slot need m n. let s : need.slot ≡ 0 = ap (λ (x : Need). x.slot) (one_need slot need m n) in omega (arith, s);
  conditions = λ slot need m n. ap (λ (x : Need). is_running x.condition) (one_need slot need m n);
  rolls = rolls;
}

needs_before : (a b : ℕ) → Among (needs_of plan.actions a) b → (b < a) × (b < 4)
needs_before zero b m = absurd m
needs_before (suc zero) b m = absurd m
needs_before (suc (suc zero)) b (inl e) = (omega (arith, e), omega (arith, e))
needs_before (suc (suc zero)) b (inr m) = absurd m
needs_before (suc (suc (suc zero))) b (inl e) = (omega (arith, e), omega (arith, e))
needs_before (suc (suc (suc zero))) b (inr m) = absurd m
needs_before (suc (suc (suc (suc a)))) b m = absurd m

starts_before : (a b : ℕ) (need : Need) → Among (slot_needs shop (kind_of plan.actions a)) need → start_of plan.actions need.slot ≡ Some b → b < a
starts_before zero b need m e = absurd m
starts_before (suc zero) b need m e = absurd m
starts_before (suc (suc zero)) b need m e = absurd m
starts_before (suc (suc (suc zero))) b need (inl k) e =
    let two : Some 2 ≡ Some b = sym (ap (λ (x : Need). start_of plan.actions x.slot) k) ∙ e in
    let same : 2 ≡ b = cc two in
    omega (arith, same)
starts_before (suc (suc (suc zero))) b need (inr m) e = absurd m
starts_before (suc (suc (suc (suc a)))) b need m e = absurd m

orderly : IsOrderly shop plan.actions
orderly = record {
  rank = λ a. a;
  within = λ a l. l;
  there = λ a b m. (needs_before a b m).1;
  needs = λ a b m. (needs_before a b m).0;
  starts = starts_before;
}

pub begins : MayBegin shop seen plan limits
begins = record {
  aim = to_up;
  seen = found;
  good = refl;
  was_observed = inl refl;
  whole = whole;
  has_plan = has_plan (basis_of shop found to_up);
  orderly = orderly;
  kept = refl;
  waits_up = λ e. refl;
  some_worker = omega arith;
  few_workers = omega arith;
}
