-- The first of two slots that are replaced one at a time is stopped: this moment has all that the laws ask for.
use Rattle.std.proofs.Common.{◌≡◌, ◌⊎◌, ℕ, zero, suc, Bool, true, false, List, [], ◌∷◌, Some, None, refl, sym, subst, inl, inr, arith, drop, lit<, reverse}
use Rattle.std.specs.Fmt.{digits}
use Rattle.std.specs.List.{IsDistinct}
use Rattle.std.specs.Prelude.{codes, if◌then◌else◌}
use Rattle.std.specs.Str.{bytes_eq}
use Rattle.engine_types.specs.declared.Attach.{Attach}
use Rattle.engine_types.specs.declared.ContainerRow.{ContainerRow}
use Rattle.engine_types.specs.declared.DeclaredService.{DeclaredService}
use Rattle.engine_types.specs.declared.Listed.{Listed}
use Rattle.engine_types.specs.declared.Need.{Need}
use Rattle.engine_types.specs.declared.Slot.{Slot}
use Rattle.tree_base.specs.ByteOrder.{IsAscending}
use Rattle.run_model.specs.EngineRules.{Among, ListsContainers, Shows, Updates, container_at, is_live, is_of_project, stopped_row}
use Rattle.run_model.specs.Journals.{Setup}
use Rattle.run_model.specs.Legal.{IsLegal}
use Rattle.run_model.specs.Plans.{HasServices, IsWhole, is_slot_before}
use Rattle.run_model.specs.Runs.{run_setup}
use Rattle.run_model.specs.Worlds.{World}
use Rattle.world_laws.specs.OwnSpecs.{HasOwnSpecs, IsOwnSpec}
use Rattle.rolling_update.specs.WorkedEngine.{before, between, journal, moves, rows, running_at, shop, task, web_at}

module _ {X : Type 0} (ahead : X → X → Bool) where
  none_ascends : IsAscending ahead []
  none_ascends i j x y l e f = absurd (cc e)

  one_ascends : (z : X) → IsAscending ahead (z ∷ [])
  one_ascends z i zero x y l e f = absurd (omega (arith, l))
  one_ascends z i (suc j) x y l e f = absurd (cc f)

  two_ascend : (w z : X) → ahead w z ≡ true → IsAscending ahead (w ∷ z ∷ [])
  two_ascend w z less i zero x y l e f = absurd (omega (arith, l))
  two_ascend w z less zero (suc zero) x y l e f = let a : w ≡ x = cc e in let b : z ≡ y = cc f in rw (sym a, sym b) less
  two_ascend w z less (suc i) (suc zero) x y l e f = absurd (omega (arith, l))
  two_ascend w z less i (suc (suc j)) x y l e f = absurd (cc f)

-- a slot of the two
which : (slot : Slot) → Among shop.slots slot → (slot ≡ web_at 1) ⊎ (slot ≡ web_at 2)
which slot (inl e) = inl e
which slot (inr (inl e)) = inr e
which slot (inr (inr m)) = absurd m

no_attach : (slot : Slot) (attach : Attach) → Among shop.slots slot → Among slot.attach attach → ⊥
no_attach slot attach m n = at (which slot m)
  where
    at : (slot ≡ web_at 1) ⊎ (slot ≡ web_at 2) → ⊥
    at (inl e) = let none : Among (web_at 1).attach attach = subst (λ (s : Slot). Among s.attach attach) e n in none
    at (inr e) = let none : Among (web_at 2).attach attach = subst (λ (s : Slot). Among s.attach attach) e n in none

no_need : (slot : Slot) (need : Need) → Among shop.slots slot → Among slot.needs need → ⊥
no_need slot need m n = at (which slot m)
  where
    at : (slot ≡ web_at 1) ⊎ (slot ≡ web_at 2) → ⊥
    at (inl e) = let none : Among (web_at 1).needs need = subst (λ (s : Slot). Among s.needs need) e n in none
    at (inr e) = let none : Among (web_at 2).needs need = subst (λ (s : Slot). Among s.needs need) e n in none

owners : HasServices shop
owners slot (inl e) = rw e refl
owners slot (inr (inl e)) = rw e refl
owners slot (inr (inr m)) = absurd m

rolls : (service : DeclaredService) → Among shop.services service → service.roll ≡ Some 0 → ⊥
rolls service (inl e) r = let bad : Some 1 ≡ Some 0 = rw e at r in cc bad
rolls service (inr m) r = m

pub whole : IsWhole shop
whole = record {
  slots = two_ascend is_slot_before (web_at 1) (web_at 2) refl;
  services = one_ascends _ _;
  owners = owners;
  networks = none_ascends _;
  volumes = none_ascends _;
  attaches = λ slot attach m n. absurd (no_attach slot attach m n);
  needs = λ slot need m n. absurd (no_need slot need m n);
  conditions = λ slot need m n. absurd (no_need slot need m n);
  rolls = rolls;
}

own_first : IsOwnSpec shop (web_at 1)
unfolding digits
own_first = record { labels = refl; hash = refl; image = refl; endpoint = λ attach e. absurd (cc e); number = lit< tt }

own_second : IsOwnSpec shop (web_at 2)
unfolding digits
own_second = record { labels = refl; hash = refl; image = refl; endpoint = λ attach e. absurd (cc e); number = lit< tt }

pub own : HasOwnSpecs shop
own slot (inl e) = subst (IsOwnSpec shop) (sym e) own_first
own slot (inr (inl e)) = subst (IsOwnSpec shop) (sym e) own_second
own slot (inr (inr m)) = absurd m

abbrev setup : Setup
setup = run_setup task journal

pub legal : IsLegal task.aim setup (reverse journal)
unfolding digits
legal = ((tt, (refl, inl refl, refl)), (record { begun = refl; below = omega arith; idle = refl; here = refl }, refl))

-- the container that is there at an id is one of the two
which_row : (id : List ℕ) (row : ContainerRow) → container_at before id ≡ Some row → (row ≡ running_at 1) ⊎ (row ≡ running_at 2)
which_row id row e = at (bytes_eq (running_at 1).id id) (bytes_eq (running_at 2).id id) e
  where
    at : (s t : Bool) → (if s then Some (running_at 1) else (if t then Some (running_at 2) else None)) ≡ Some row → (row ≡ running_at 1) ⊎ (row ≡ running_at 2)
    at true t f = inl (cc f)
    at false true f = inr (cc f)
    at false false f = absurd (cc f)

lists : ListsContainers before (codes "shop") rows
unfolding IsDistinct digits
lists = record { distinct = ((refl, tt), (tt, tt)); shown = each; all = λ id row e p. all row (which_row id row e) }
  where
    each : (row : Listed) → Among rows row → (kept : ContainerRow)
        × (container_at before row.id ≡ Some kept) × (is_of_project (codes "shop") kept.labels ≡ true) × Shows before kept row
    each row (inl e) = rw e (running_at 1, refl, refl, record { id = refl; name = refl; image_id = refl; labels = refl; state = refl; networks = λ n. refl })
    each row (inr (inl e)) = rw e (running_at 2, refl, refl, record { id = refl; name = refl; image_id = refl; labels = refl; state = refl; networks = λ n. refl })
    each row (inr (inr m)) = absurd m

    all : (row : ContainerRow) → (row ≡ running_at 1) ⊎ (row ≡ running_at 2) → (listed : Listed) × Among rows listed × Shows before row listed
    all row (inl e) = rw e (_, inl refl, record { id = refl; name = refl; image_id = refl; labels = refl; state = refl; networks = λ n. refl })
    all row (inr e) = rw e (_, inr (inl refl), record { id = refl; name = refl; image_id = refl; labels = refl; state = refl; networks = λ n. refl })

stopped : Updates before between (codes "c1") is_live (λ row. Some (stopped_row row))
unfolding digits
stopped = record {
  row = running_at 1;
  was = refl;
  could = refl;
  changes = record { containers = λ i. at (bytes_eq (codes "c1") i) (bytes_eq (codes "c2") i); networks = λ i. refl; volumes = λ n. refl; images = λ n. refl };
}
  where
    at : (s t : Bool) → (if s then Some (stopped_row (running_at 1)) else (if t then Some (running_at 2) else None))
        ≡ (if s then Some (stopped_row (running_at 1)) else (if s then Some (running_at 1) else (if t then Some (running_at 2) else None)))
    at true t = refl
    at false t = refl

listing : World setup before (drop 4 moves) before
unfolding digits
listing = (before, refl, (record { may_act = refl; no_effect = refl }, (lists, refl)))

looking : World setup before (drop 3 moves) before
unfolding digits
looking = (before, listing, (record { may_act = refl; no_effect = refl }, (refl, refl)))

seeing : World setup before (drop 2 moves) before
unfolding digits
seeing = (before, looking, ((refl, refl, (refl, refl, refl)), refl))

claiming : World setup before (drop 1 moves) before
unfolding digits
claiming = (before, seeing, (tt, refl))

pub stopping : World setup before moves between
unfolding digits
stopping = (before, claiming, (record { may_act = (refl, refl); no_effect = refl }, stopped))
