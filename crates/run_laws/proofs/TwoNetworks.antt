-- The set that declares one service on two networks is whole, and its slot's spec is made for it.
use Rattle.std.proofs.Common.{◌≡◌, zero, suc, ◌<◌, [], ◌∷◌, None, Some, refl, sym, subst, inl, inr, arith, lit<}
use Rattle.std.specs.Fmt.{digits}
use Rattle.std.specs.Prelude.{codes}
use Rattle.engine_types.specs.declared.Attach.{Attach}
use Rattle.engine_types.specs.declared.DeclaredService.{DeclaredService}
use Rattle.engine_types.specs.declared.NetworkSpec.{NetworkSpec}
use Rattle.engine_types.specs.declared.Slot.{Slot}
use Rattle.run_model.specs.EngineRules.{Among}
use Rattle.run_laws.specs.OneService.{service_of}
use Rattle.run_model.specs.Plans.{HasServices, IsWhole}
use Rattle.tree_base.specs.ByteOrder.{IsAscending, is_before}
use Rattle.run_laws.specs.TwoNetworks as two
use Rattle.run_laws.proofs.OneService.{none_ascends, one_ascends}
use Rattle.world_laws.specs.OwnSpecs.{HasOwnSpecs, IsOwnSpec}

networks_ascend : IsAscending (λ (network other : NetworkSpec). is_before network.name other.name) two.shop.networks
networks_ascend zero zero x y l e f = absurd (omega (arith, l))
networks_ascend zero (suc zero) x y l e f = let a : two.network_of (codes "a") ≡ x = cc e in let b : two.network_of (codes "b") ≡ y = cc f in rw (sym a, sym b) refl
networks_ascend zero (suc (suc j)) x y l e f = absurd (cc f)
networks_ascend (suc zero) zero x y l e f = absurd (omega (arith, l))
networks_ascend (suc zero) (suc zero) x y l e f = absurd (omega (arith, l))
networks_ascend (suc zero) (suc (suc j)) x y l e f = absurd (cc f)
networks_ascend (suc (suc i)) j x y l e f = absurd (cc e)

pub whole : IsWhole two.shop
whole = record {
  slots = one_ascends _ two.web;
  services = one_ascends _ (service_of (codes "web"));
  owners = owners;
  networks = networks_ascend;
  volumes = none_ascends _;
  attaches = λ slot attach m n. within attach (subst (λ (s : Slot). Among s.attach attach) (only slot m) n);
  needs = λ slot need m n. absurd (subst (λ (s : Slot). Among s.needs need) (only slot m) n);
  conditions = λ slot need m n. absurd (subst (λ (s : Slot). Among s.needs need) (only slot m) n);
  rolls = rolls;
}
  where
    only : (slot : Slot) → Among two.shop.slots slot → slot ≡ two.web
    only slot (inl e) = e
    only slot (inr m) = absurd m

    owners : HasServices two.shop
    owners slot (inl e) = rw e refl
    owners slot (inr m) = absurd m

    rolls : (service : DeclaredService) → Among two.shop.services service → service.roll ≡ Some 0 → ⊥
    rolls service (inl e) r = let bad : None ≡ Some 0 = rw e at r in cc bad
    rolls service (inr m) r = m

    within : (attach : Attach) → Among two.web.attach attach → attach.network < 2
    within attach (inl e) = rw e (omega arith)
    within attach (inr (inl e)) = rw e (omega arith)
    within attach (inr (inr m)) = absurd m

abbrev first : Attach
first = record { network = 0; aliases = codes "web" ∷ [] }

own_web : IsOwnSpec two.shop two.web
unfolding digits
own_web = record { labels = refl; hash = refl; image = refl; number = lit< tt; endpoint = λ attach e. let same : first ≡ attach = cc e in rw (sym same) refl }

pub own : HasOwnSpecs two.shop
own slot (inl e) = subst (IsOwnSpec two.shop) (sym e) own_web
own slot (inr m) = absurd m
