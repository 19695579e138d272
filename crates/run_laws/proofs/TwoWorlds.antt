-- A world of the run whose create is lost, and of the next one.
use Rattle.std.proofs.Common.{◌≡◌, ◌⊎◌, ℕ, List, [], ◌∷◌, Option, Some, None, Bool, true, false, not, ◌&&◌, ◌||◌, refl, sym, ap, subst, inl, inr, drop}
use Rattle.std.proofs.lemmas.Slice.Eq.{bytes_eq-Decides}
use Rattle.std.specs.Fmt.{digits}
use Rattle.std.specs.List.{IsDistinct, list_any}
use Rattle.std.specs.Option.{option_map_or}
use Rattle.std.specs.Prelude.{codes, if◌then◌else◌}
use Rattle.std.specs.Str.{bytes_eq}
use Rattle.engine_types.specs.declared.ContainerRow.{ContainerRow}
use Rattle.engine_types.specs.declared.ContainerState.{ContainerState}
use Rattle.engine_types.specs.declared.Exchange.{Exchange}
use Rattle.engine_types.specs.declared.Listed.{Listed}
use Rattle.engine_types.specs.declared.NetRow.{NetRow}
use Rattle.engine_types.specs.declared.NetworkSpec.{NetworkSpec}
use Rattle.engine_types.specs.declared.Outcome.{Outcome}
use Rattle.engine_types.specs.declared.Reply.{Reply}
use Rattle.engine_types.specs.declared.Request.{Request}
use Rattle.engine_types.specs.declared.Slot.{Slot}
use Rattle.run_model.specs.Cuts.{IsRan, Runs}
use Rattle.run_model.specs.EngineRules.{Among, Connects, Creates, ListsContainers, ListsNetworks, Shows, Updates, can_start, container_at, is_of_project, network_at, network_has_name, started_row}
use Rattle.run_model.specs.Exact.{IsExact, IsExactNetwork, IsExactSlot}
use Rattle.run_model.specs.Labels.{is_of_slot, is_orphan}
use Rattle.run_laws.specs.OneService.{to_up}
use Rattle.run_laws.specs.TwoNetworks.{both, listed, network_row, seen_as, shop, web}
use Rattle.run_laws.specs.TwoWorlds.{after, bare, between, both_runs, engine_with, first_moves, joined, made, one, second_moves, two}
use Rattle.run_model.specs.Told.{answered}
use Rattle.run_model.specs.Worlds.{World}
use Rattle.run_laws.proofs.LostCreate.{first, first_legal, legal, second}

no_containers : (networks : List NetRow) → ListsContainers (engine_with [] networks) (codes "shop") []
unfolding IsDistinct
no_containers networks = record { distinct = tt; shown = λ listed m. absurd m; all = λ id row e p. absurd (cc e) }

no_networks : ListsNetworks bare []
unfolding IsDistinct
no_networks = record { distinct = tt; shown = λ row m. absurd m; all = λ id row e. absurd (cc e) }

created : Creates (engine_with [] two) between web.name web.spec (codes "c1")
created = record {
  name_free = refl;
  image = codes "sha";
  image_is = refl;
  networks = codes "n1" ∷ [];
  networks_are = (refl, tt);
  fresh = refl;
  changes = record { containers = λ i. refl; networks = λ i. refl; volumes = λ n. refl; images = λ n. refl };
}

first_1 : World first bare (drop 13 first_moves) (bare)
first_1 = (bare, refl, (record { may_act = refl; no_effect = refl }, (no_containers [], refl)))

first_2 : World first bare (drop 12 first_moves) (bare)
first_2 = (bare, first_1, (record { may_act = refl; no_effect = refl }, (no_networks, refl)))

first_3 : World first bare (drop 11 first_moves) (bare)
first_3 = (bare, first_2, (record { may_act = refl; no_effect = refl }, (refl, refl)))

first_4 : World first bare (drop 10 first_moves) (bare)
first_4 = (bare, first_3, ((refl, refl, (refl, refl, (refl, refl, refl))), refl))

first_5 : World first bare (drop 9 first_moves) (bare)
first_5 = (bare, first_4, (tt, refl))

first_6 : World first bare (drop 8 first_moves) (engine_with [] one)
first_6 = (bare, first_5, (record { may_act = (refl, refl); no_effect = refl }, (refl, record { containers = λ i. refl; networks = λ i. refl; volumes = λ n. refl; images = λ n. refl })))

first_7 : World first bare (drop 7 first_moves) (engine_with [] one)
first_7 = (engine_with [] one, first_6, (refl, refl))

first_8 : World first bare (drop 6 first_moves) (engine_with [] one)
first_8 = (engine_with [] one, first_7, (tt, refl))

first_9 : World first bare (drop 5 first_moves) (engine_with [] two)
first_9 = (engine_with [] one, first_8, (record { may_act = (refl, refl); no_effect = refl }, (refl, record { containers = λ i. refl; networks = λ i. refl; volumes = λ n. refl; images = λ n. refl })))

first_10 : World first bare (drop 4 first_moves) (engine_with [] two)
first_10 = (engine_with [] two, first_9, (refl, refl))

first_11 : World first bare (drop 3 first_moves) (engine_with [] two)
first_11 = (engine_with [] two, first_10, (tt, refl))

first_12 : World first bare (drop 2 first_moves) (engine_with [] two)
first_12 = (engine_with [] two, first_11, (tt, refl))

pub first_13 : World first bare (drop 1 first_moves) (engine_with [] two)
first_13 = (engine_with [] two, first_12, (tt, refl))

first_14 : World first bare first_moves (between)
first_14 = (engine_with [] two, first_13, (record { may_act = (refl, refl); no_effect = refl }, created))

-- the container that is there is the one that was made
only_one : (row : ContainerRow) (networks : List NetRow) (i : List ℕ) (other : ContainerRow) → bytes_eq row.id (codes "c1") ≡ true
    → container_at (engine_with (row ∷ []) networks) i ≡ Some other → (row.id ≡ i) × (other ≡ row)
only_one row networks i other c e = at (bytes_eq row.id i) refl e
  where
    at : (t : Bool) → bytes_eq row.id i ≡ t → (if t then Some row else None) ≡ Some other → (row.id ≡ i) × (other ≡ row)
    at true h k = ((bytes_eq-Decides row.id i).0 h, cc k)
    at false h k = absurd (cc k)

shown : Shows between made (listed ContainerState.Created (codes "shop_a" ∷ []))
shown = record { id = refl; name = refl; image_id = refl; labels = refl; state = refl; networks = λ n. refl }

lists_made : ListsContainers between (codes "shop") (listed ContainerState.Created (codes "shop_a" ∷ []) ∷ [])
unfolding IsDistinct
lists_made = record { distinct = (tt, tt); shown = each; all = all }
  where
    each : (row : Listed) → Among (listed ContainerState.Created (codes "shop_a" ∷ []) ∷ []) row → (kept : ContainerRow)
        × (container_at between row.id ≡ Some kept) × (is_of_project (codes "shop") kept.labels ≡ true) × Shows between kept row
    each row (inl e) = rw e (made, refl, refl, shown)
    each row (inr m) = absurd m

    all : (id : List ℕ) (row : ContainerRow) → container_at between id ≡ Some row → is_of_project (codes "shop") row.labels ≡ true
        → (listed_row : Listed) × Among (listed ContainerState.Created (codes "shop_a" ∷ []) ∷ []) listed_row × Shows between row listed_row
    all id row e p = let same = (only_one made two id row refl e).1 in (listed ContainerState.Created (codes "shop_a" ∷ []), inl refl, rw same shown)

-- the network that is there at an id is one of the two
which_network : (containers : List ContainerRow) (id : List ℕ) (row : NetRow) → network_at (engine_with containers two) id ≡ Some row
    → ((codes "n2" ≡ id) × (row ≡ network_row (codes "n2") (codes "b"))) ⊎ ((codes "n1" ≡ id) × (row ≡ network_row (codes "n1") (codes "a")))
which_network containers id row e = at (bytes_eq (codes "n2") id) refl (bytes_eq (codes "n1") id) refl e
  where
    at : (s : Bool) → bytes_eq (codes "n2") id ≡ s → (t : Bool) → bytes_eq (codes "n1") id ≡ t
        → (if s then Some (network_row (codes "n2") (codes "b")) else (if t then Some (network_row (codes "n1") (codes "a")) else None)) ≡ Some row
        → ((codes "n2" ≡ id) × (row ≡ network_row (codes "n2") (codes "b"))) ⊎ ((codes "n1" ≡ id) × (row ≡ network_row (codes "n1") (codes "a")))
    at true h t k f = inl ((bytes_eq-Decides (codes "n2") id).0 h, cc f)
    at false h true k f = inr ((bytes_eq-Decides (codes "n1") id).0 k, cc f)
    at false h false k f = absurd (cc f)

lists_both : ListsNetworks between both
unfolding IsDistinct
lists_both = record { distinct = ((refl, tt), (tt, tt)); shown = each; all = λ id row e. at row (which_network (made ∷ []) id row e) }
  where
    each : (row : NetRow) → Among both row → network_at between row.id ≡ Some row
    each row (inl e) = rw e refl
    each row (inr (inl e)) = rw e refl
    each row (inr (inr m)) = absurd m

    at : {id : List ℕ} (row : NetRow) → ((codes "n2" ≡ id) × (row ≡ network_row (codes "n2") (codes "b"))) ⊎ ((codes "n1" ≡ id) × (row ≡ network_row (codes "n1") (codes "a"))) → Among both row
    at row (inl x) = inr (inl x.1)
    at row (inr x) = inl x.1

-- a container takes another's place
replaced : (old new : ContainerRow) (t : Bool) → (if t then Some new else None) ≡ (if t then Some new else (if t then Some old else None))
replaced old new true = refl
replaced old new false = refl

connected : Connects between (engine_with (joined ∷ []) two) (codes "n2") (codes "c1")
connected = record {
  row = made;
  was = refl;
  network_there = refl;
  apart = refl;
  networks = codes "n2" ∷ codes "n1" ∷ [];
  joined = λ i. refl;
  changes = record { containers = λ i. replaced made joined (bytes_eq (codes "c1") i); networks = λ i. refl; volumes = λ n. refl; images = λ n. refl };
}

started : Updates (engine_with (joined ∷ []) two) after (codes "c1") can_start (λ row. Some (started_row row))
started = record {
  row = joined;
  was = refl;
  could = refl;
  changes = record { containers = λ i. replaced joined (started_row joined) (bytes_eq (codes "c1") i); networks = λ i. refl; volumes = λ n. refl; images = λ n. refl };
}

second_1 : World second between (drop 10 second_moves) (between)
unfolding digits
second_1 = (between, refl, (record { may_act = refl; no_effect = refl }, (lists_made, refl)))

second_2 : World second between (drop 9 second_moves) (between)
unfolding digits
second_2 = (between, second_1, (record { may_act = refl; no_effect = refl }, (lists_both, refl)))

second_3 : World second between (drop 8 second_moves) (between)
unfolding digits
second_3 = (between, second_2, (record { may_act = refl; no_effect = refl }, (refl, refl)))

second_4 : World second between (drop 7 second_moves) (between)
unfolding digits
second_4 = (between, second_3, ((refl, refl, (refl, refl, (refl, refl, refl))), refl))

second_5 : World second between (drop 6 second_moves) (between)
unfolding digits
second_5 = (between, second_4, (tt, refl))

second_6 : World second between (drop 5 second_moves) (engine_with (joined ∷ []) two)
unfolding digits
second_6 = (between, second_5, (record { may_act = (refl, refl); no_effect = refl }, connected))

second_7 : World second between (drop 4 second_moves) (engine_with (joined ∷ []) two)
unfolding digits
second_7 = (engine_with (joined ∷ []) two, second_6, (refl, refl))

second_8 : World second between (drop 3 second_moves) (engine_with (joined ∷ []) two)
unfolding digits
second_8 = (engine_with (joined ∷ []) two, second_7, (tt, refl))

second_9 : World second between (drop 2 second_moves) (after)
unfolding digits
second_9 = (engine_with (joined ∷ []) two, second_8, (record { may_act = (refl, refl); no_effect = refl }, started))

second_10 : World second between (drop 1 second_moves) (after)
unfolding digits
second_10 = (after, second_9, (refl, refl))

second_11 : World second between second_moves (after)
unfolding digits
second_11 = (after, second_10, (tt, refl))

-- an observation that tells of an image tells its one id
pub tells_sha : (containers : List Listed) (networks : List NetRow) (name id : List ℕ) → Among (seen_as containers networks).exchanges (answered (Request.Image name) (Reply.ImageId id))
    → id ≡ codes "sha"
tells_sha containers networks name id (inl e) =
    let bad : Request.Image name ≡ Request.ListContainers (codes "shop") = ap (λ (x : Exchange). x.request) e in absurd (cc bad)
tells_sha containers networks name id (inr (inl e)) =
    let bad : Request.Image name ≡ Request.ListNetworks = ap (λ (x : Exchange). x.request) e in absurd (cc bad)
tells_sha containers networks name id (inr (inr (inl e))) =
    let outcome : Outcome.Answered (Reply.ImageId id) ≡ Outcome.Answered (Reply.ImageId (codes "sha")) = ap (λ (x : Exchange). x.outcome) e in
    let reply : Reply.ImageId id ≡ Reply.ImageId (codes "sha") = cc outcome in
    cc reply
tells_sha containers networks name id (inr (inr (inr m))) = absurd m

pub runs : Runs shop (λ image. codes "sha") bare both_runs after
runs = (between, (bare, refl, first_ran), second_ran)
  where
    first_ran : IsRan shop (λ image. codes "sha") bare (record { aim = to_up; setup = first; moves = first_moves }) between
    first_ran = record { declares = refl; up = refl; plan = refl; journal = first_legal; told = tells_sha [] []; world = first_14 }

    second_ran : IsRan shop (λ image. codes "sha") between (record { aim = to_up; setup = second; moves = second_moves }) after
    second_ran = record { declares = refl; up = refl; plan = refl; journal = legal; told = tells_sha _ both; world = second_11 }

exact_web : IsExactSlot shop after web
unfolding digits
exact_web = record {
  id = codes "c1";
  row = started_row joined;
  is_there = refl;
  of_slot = refl;
  attached = refl;
  only = λ i other e p. sym (only_one (started_row joined) two i other refl e).0;
}

slots : (slot : Slot) → Among shop.slots slot → IsExactSlot shop after slot
slots slot (inl e) = subst (λ (s : Slot). IsExactSlot shop after s) (sym e) exact_web
slots slot (inr m) = absurd m

named : (name id : List ℕ) → network_has_name after name id ≡ true → (row : NetRow) × (network_at after id ≡ Some row) × (bytes_eq name row.name ≡ true)
named name id e = at (network_at after id) refl e
  where
    at : (o : Option NetRow) → network_at after id ≡ o → option_map_or (λ (row : NetRow). bytes_eq name row.name) o false ≡ true
        → (row : NetRow) × (network_at after id ≡ Some row) × (bytes_eq name row.name ≡ true)
    at None h k = absurd (cc k)
    at (Some row) h k = (row, h, k)

exact_a : IsExactNetwork after (codes "shop_a")
exact_a = record { id = codes "n1"; is_there = refl; only = λ i e. let r = named (codes "shop_a") i e in at i r.0 (which_network (started_row joined ∷ []) i r.0 r.1) r.2 }
  where
    at : (i : List ℕ) (row : NetRow) → ((codes "n2" ≡ i) × (row ≡ network_row (codes "n2") (codes "b"))) ⊎ ((codes "n1" ≡ i) × (row ≡ network_row (codes "n1") (codes "a")))
        → bytes_eq (codes "shop_a") row.name ≡ true → i ≡ codes "n1"
    at i row (inl x) b = let bad : bytes_eq (codes "shop_a") (codes "shop_b") ≡ true = rw x.1 at b in absurd (cc bad)
    at i row (inr x) b = sym x.0

exact_b : IsExactNetwork after (codes "shop_b")
exact_b = record { id = codes "n2"; is_there = refl; only = λ i e. let r = named (codes "shop_b") i e in at i r.0 (which_network (started_row joined ∷ []) i r.0 r.1) r.2 }
  where
    at : (i : List ℕ) (row : NetRow) → ((codes "n2" ≡ i) × (row ≡ network_row (codes "n2") (codes "b"))) ⊎ ((codes "n1" ≡ i) × (row ≡ network_row (codes "n1") (codes "a")))
        → bytes_eq (codes "shop_b") row.name ≡ true → i ≡ codes "n2"
    at i row (inl x) b = sym x.0
    at i row (inr x) b = let bad : bytes_eq (codes "shop_b") (codes "shop_a") ≡ true = rw x.1 at b in absurd (cc bad)

networks : (network : NetworkSpec) → Among shop.networks network → IsExactNetwork after network.name
networks network (inl e) = rw e exact_a
networks network (inr (inl e)) = rw e exact_b
networks network (inr (inr m)) = absurd m

pub exact : IsExact shop after true
unfolding digits
exact = record { slots = slots; networks = networks; volumes = λ volume m. absurd m; others = others }
  where
    others : (id : List ℕ) (row : ContainerRow) → container_at after id ≡ Some row → is_of_project shop.project row.labels ≡ true
        → (list_any (λ slot. is_of_slot shop.project slot row.labels) shop.slots || (not true && is_orphan shop row.labels)) ≡ true
    others id row e p = let same = (only_one (started_row joined) two id row refl e).1 in rw same refl
