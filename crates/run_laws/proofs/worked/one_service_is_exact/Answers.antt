use Rattle.std.proofs.Common.{◌≡◌, ℕ, List, [], ◌∷◌, Some, None, Bool, true, false, not, ◌&&◌, ◌||◌, refl, sym, subst, inl, inr, drop}
use Rattle.std.proofs.lemmas.Slice.Eq.{bytes_eq-Decides}
use Rattle.std.specs.Fmt.{digits}
use Rattle.std.specs.List.{IsDistinct, list_any}
use Rattle.std.specs.Prelude.{codes, if◌then◌else◌, option_map}
use Rattle.std.specs.Str.{bytes_eq}
use Rattle.engine_types.specs.declared.ContainerRow.{ContainerRow}
use Rattle.engine_types.specs.declared.ImageRow.{ImageRow}
use Rattle.engine_types.specs.declared.Slot.{Slot}
use Rattle.run_model.specs.EngineRules.{Among, Creates, ListsContainers, Updates, container_at, image_at, can_start, started_row, is_of_project}
use Rattle.run_model.specs.Exact.{IsExact, IsExactSlot}
use Rattle.run_model.specs.Journals.{Setup}
use Rattle.run_model.specs.Labels.{is_of_slot, is_orphan}
use Rattle.run_laws.specs.OneService.{nginx, shop, upping, comes_up, web}
use Rattle.run_laws.specs.OneWorld.{engine_with, fresh, made, moves, pulled, up}
use Rattle.run_model.specs.Runs.{run_setup}
use Rattle.run_model.specs.Worlds.{World}
use Rattle.run_laws.proofs.worked.one_service_is_exact.Goals as goal

lists_none : ListsContainers fresh (codes "shop") []
unfolding IsDistinct
lists_none = record { distinct = tt; shown = λ listed m. absurd m; all = λ id row e p. absurd (cc e) }

pull_images : (n : List ℕ) → image_at (engine_with [] pulled) n ≡ (if bytes_eq nginx n then Some (codes "sha") else image_at fresh n)
pull_images n = at (bytes_eq nginx n)
  where
    at : (t : Bool) → option_map (λ (r : ImageRow). r.id) (if t then Some (record { name = nginx; id = codes "sha" }) else None) ≡ (if t then Some (codes "sha") else None)
    at true = refl
    at false = refl

created : Creates (engine_with [] pulled) (engine_with (made ∷ []) pulled) web.name web.spec (codes "c1")
created = record {
  name_free = refl;
  image = codes "sha";
  image_is = refl;
  networks = [];
  networks_are = tt;
  fresh = refl;
  changes = record { containers = λ i. refl; networks = λ i. refl; volumes = λ n. refl; images = λ n. refl };
}

again : (i : List ℕ) → container_at up i ≡ (if bytes_eq (codes "c1") i then Some (started_row made) else container_at (engine_with (made ∷ []) pulled) i)
again i = at (bytes_eq (codes "c1") i)
  where
    at : (t : Bool) → (if t then Some (started_row made) else None) ≡ (if t then Some (started_row made) else (if t then Some made else None))
    at true = refl
    at false = refl

started : Updates (engine_with (made ∷ []) pulled) up (codes "c1") can_start (λ row. Some (started_row row))
started = record { row = made; was = refl; could = refl; changes = record { containers = again; networks = λ i. refl; volumes = λ n. refl; images = λ n. refl } }

abbrev setup : Setup
setup = run_setup (upping shop) comes_up

listed : World setup fresh (drop 11 moves) fresh
listed = (fresh, refl, (record { may_act = refl; no_effect = refl }, (lists_none, refl)))

missed : World setup fresh (drop 10 moves) fresh
missed = (fresh, listed, (record { may_act = refl; no_effect = refl }, refl))

image_there : World setup fresh (drop 9 moves) (engine_with [] pulled)
image_there = (fresh, missed, (record { may_act = refl; no_effect = refl }, (codes "sha", record { containers = λ i. refl; networks = λ i. refl; volumes = λ n. refl; images = pull_images })))

looked : World setup fresh (drop 8 moves) (engine_with [] pulled)
looked = (engine_with [] pulled, image_there, (record { may_act = refl; no_effect = refl }, (refl, refl)))

seen : World setup fresh (drop 7 moves) (engine_with [] pulled)
seen = (engine_with [] pulled, looked, ((refl, refl, (refl, refl, (refl, refl, (refl, refl, refl)))), refl))

claimed : World setup fresh (drop 6 moves) (engine_with [] pulled)
claimed = (engine_with [] pulled, seen, (tt, refl))

is_made : World setup fresh (drop 5 moves) (engine_with (made ∷ []) pulled)
is_made = (engine_with [] pulled, claimed, (record { may_act = (refl, refl); no_effect = refl }, created))

made_told : World setup fresh (drop 4 moves) (engine_with (made ∷ []) pulled)
made_told = (engine_with (made ∷ []) pulled, is_made, (refl, refl))

claimed_start : World setup fresh (drop 3 moves) (engine_with (made ∷ []) pulled)
claimed_start = (engine_with (made ∷ []) pulled, made_told, (tt, refl))

is_started : World setup fresh (drop 2 moves) up
is_started = (engine_with (made ∷ []) pulled, claimed_start, (record { may_act = (refl, refl); no_effect = refl }, started))

start_told : World setup fresh (drop 1 moves) up
start_told = (up, is_started, (refl, refl))

world : World setup fresh moves up
world = (up, start_told, (tt, refl))

-- the one container is the only one
only_one : (i : List ℕ) (other : ContainerRow) → container_at up i ≡ Some other → (codes "c1" ≡ i) × (other ≡ started_row made)
only_one i other e = at (bytes_eq (codes "c1") i) refl e
  where
    at : (t : Bool) → bytes_eq (codes "c1") i ≡ t → (if t then Some (started_row made) else None) ≡ Some other → (codes "c1" ≡ i) × (other ≡ started_row made)
    at true h k = ((bytes_eq-Decides (codes "c1") i).0 h, cc k)
    at false h k = absurd (cc k)

exact_web : IsExactSlot shop up web
unfolding digits
exact_web = record { id = codes "c1"; row = started_row made; is_there = refl; of_slot = refl; attached = refl; only = λ i other e p. sym (only_one i other e).0 }

slots : (slot : Slot) → Among shop.slots slot → IsExactSlot shop up slot
slots slot (inl e) = subst (λ (s : Slot). IsExactSlot shop up s) (sym e) exact_web
slots slot (inr m) = absurd m

others : (orphans : Bool) (id : List ℕ) (row : ContainerRow) → container_at up id ≡ Some row → is_of_project shop.project row.labels ≡ true
    → (list_any (λ slot. is_of_slot shop.project slot row.labels) shop.slots || (not orphans && is_orphan shop row.labels)) ≡ true
unfolding digits
others orphans id row e p = let same = (only_one id row e).1 in rw same refl

exact : (orphans : Bool) → IsExact shop up orphans
exact orphans = record { slots = slots; networks = λ network m. absurd m; volumes = λ volume m. absurd m; others = others orphans }

pub returns : goal.returns
unfolding digits
returns c = record { world = record { journal = refl; world = world }; exact = exact; once = refl }
