-- The set that declares one service is whole, and its slot's spec is made for it.
use Rattle.std.proofs.Common.{◌≡◌, zero, suc, ◌<◌, Bool, [], ◌∷◌, None, Some, refl, subst, arith, lit<, sym, inl, inr, length}
use Rattle.std.specs.Fmt.{digits}
use Rattle.std.specs.Prelude.{codes}
use Rattle.engine_types.specs.declared.Attach.{Attach}
use Rattle.engine_types.specs.declared.DeclaredService.{DeclaredService}
use Rattle.engine_types.specs.declared.Need.{Need}
use Rattle.engine_types.specs.declared.Slot.{Slot}
use Rattle.run_model.specs.EngineRules.{Among}
use Rattle.run_laws.specs.OneService.{service_of, shop, web}
use Rattle.run_model.specs.Plans.{HasServices, IsWhole}
use Rattle.tree_base.specs.ByteOrder.{IsAscending}
use Rattle.world_laws.specs.OwnSpecs.{HasOwnSpecs, IsOwnSpec}

module _ {X : Type 0} (before : X → X → Bool) where
  pub none_ascends : IsAscending before []
  none_ascends i j x y l e f = absurd (cc e)

  pub one_ascends : (z : X) → IsAscending before (z ∷ [])
  one_ascends z i zero x y l e f = absurd (omega (arith, l))
  one_ascends z i (suc j) x y l e f = absurd (cc f)

attaches : (slot : Slot) (attach : Attach) → Among shop.slots slot → Among slot.attach attach → attach.network < length shop.networks
attaches slot attach (inl e) m = let none : Among web.attach attach = subst (λ (s : Slot). Among s.attach attach) e m in absurd none
attaches slot attach (inr n) m = absurd n

no_need : (slot : Slot) (need : Need) → Among shop.slots slot → Among slot.needs need → ⊥
no_need slot need (inl e) m = let none : Among web.needs need = subst (λ (s : Slot). Among s.needs need) e m in none
no_need slot need (inr n) m = n

owners : HasServices shop
owners slot (inl e) = rw e refl
owners slot (inr m) = absurd m

rolls : (service : DeclaredService) → Among shop.services service → service.roll ≡ Some 0 → ⊥
rolls service (inl e) r = let bad : None ≡ Some 0 = rw e at r in cc bad
rolls service (inr m) r = m

pub whole : IsWhole shop
whole = record {
  slots = one_ascends _ web;
  services = one_ascends _ (service_of (codes "web"));
  owners = owners;
  networks = none_ascends _;
  volumes = none_ascends _;
  attaches = attaches;
  needs = λ slot need m n. absurd (no_need slot need m n);
  conditions = λ slot need m n. absurd (no_need slot need m n);
  rolls = rolls;
}

own_web : IsOwnSpec shop web
unfolding digits
own_web = record { labels = refl; hash = refl; image = refl; endpoint = λ attach e. absurd (cc e); number = lit< tt }

pub own : HasOwnSpecs shop
own slot (inl e) = subst (λ (s : Slot). IsOwnSpec shop s) (sym e) own_web
own slot (inr m) = absurd m
