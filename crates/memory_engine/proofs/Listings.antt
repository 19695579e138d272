-- The listings of an Engine in memory show each of its rows once.
use Rattle.std.proofs.Common.{◌≡◌, ℕ, true, false, ◌||◌, List, [], ◌∷◌, Option, Some, None, map, fold, refl, sym, ap, ◌∙◌, subst}
use Rattle.std.specs.Prelude.{filter}
use Rattle.std.specs.List.{list_any, filter_map, cons_option}
use Rattle.std.specs.Option.{option_map, option_map_or}
use Rattle.std.specs.Ordering.{nat_cmp, is_eq}
use Rattle.std.specs.declared.cmp.Ordering.{Ordering}
use Rattle.std.specs.Cmp.Lexicographic.{slice_cmp, texts_ties}
use Rattle.std.specs.Str.{bytes_eq}
use Rattle.engine_types.specs.declared.ContainerRow.{ContainerRow}
use Rattle.engine_types.specs.declared.Engine.{Engine}
use Rattle.engine_types.specs.declared.Listed.{Listed}
use Rattle.engine_types.specs.declared.NetRow.{NetRow}
use Rattle.run_model.specs.EngineRules.{Among, IsSound, ListsContainers, ListsNetworks, ListsVolumes, Shows, container_at, is_of_project, network_at, network_has_name}
use Rattle.memory_engine.specs.Listing.{listed_row, listing, network_name, put_at, with_name}
use Rattle.memory_engine.proofs.Texts.{by_cases, same_text}
use Rattle.memory_engine.proofs.AnyAll.{among-filter, among-find, among-map, among-mapped, or_assoc, or_comm}
use Rattle.memory_engine.proofs.Distinct.{distinct-filter, find-among}

abbrev id_of : ContainerRow → List ℕ
id_of row = row.id

abbrev network_id_of : NetRow → List ℕ
network_id_of row = row.id

-- texts that compare as equal are equal
same_order : (xs ys : List ℕ) → slice_cmp nat_cmp xs ys ≡ Ordering.Equal → xs ≡ ys
same_order xs ys equal = same_text xs ys (texts_ties xs ys ∙ ap is_eq equal)

-- a name is among names in order where it is put there or was among them
any-with_name : (n name : List ℕ) (names : List (List ℕ)) → list_any (bytes_eq n) (with_name names name) ≡ (bytes_eq n name || list_any (bytes_eq n) names)
any-with_name n name [] = refl
any-with_name n name (first ∷ rest) =
    let later = any-with_name n name rest in
    let placed : (order : Ordering) → slice_cmp nat_cmp name first ≡ order
    → list_any (bytes_eq n) (put_at order name first rest (with_name rest name)) ≡ (bytes_eq n name || (bytes_eq n first || list_any (bytes_eq n) rest))
    = λ order. elim order as (λ order. slice_cmp nat_cmp name first ≡ order
    → list_any (bytes_eq n) (put_at order name first rest (with_name rest name)) ≡ (bytes_eq n name || (bytes_eq n first || list_any (bytes_eq n) rest))) [
      | Ordering.Less ↦ λ _. refl
      | Ordering.Equal ↦ λ equal. let same = same_order name first equal in
          rw same (by_cases (bytes_eq n first) (λ e. rw e refl) (λ e. rw e refl))
      | Ordering.Greater ↦ λ _. rw later
          (sym (or_assoc (bytes_eq n first) (bytes_eq n name) (list_any (bytes_eq n) rest))
          ∙ ap (λ b. b || list_any (bytes_eq n) rest) (or_comm (bytes_eq n first) (bytes_eq n name))
          ∙ or_assoc (bytes_eq n name) (bytes_eq n first) (list_any (bytes_eq n) rest))
    ]
    in placed (slice_cmp nat_cmp name first) refl

any-fold : (n : List ℕ) (names done : List (List ℕ)) → list_any (bytes_eq n) (fold with_name done names) ≡ (list_any (bytes_eq n) done || list_any (bytes_eq n) names)
any-fold n [] done = or_comm false (list_any (bytes_eq n) done)
any-fold n (name ∷ names) done =
    any-fold n names (with_name done name)
    ∙ ap (λ b. b || list_any (bytes_eq n) names) (any-with_name n name done ∙ or_comm (bytes_eq n name) (list_any (bytes_eq n) done))
    ∙ or_assoc (list_any (bytes_eq n) done) (bytes_eq n name) (list_any (bytes_eq n) names)

any-names : (engine : Engine) (n : List ℕ) (ids : List (List ℕ)) → list_any (bytes_eq n) (filter_map (network_name engine) ids) ≡ list_any (network_has_name engine n) ids
any-names engine n [] = refl
any-names engine n (id ∷ ids) =
    let rest = any-names engine n ids in
    let named : (o : Option NetRow) → list_any (bytes_eq n) (cons_option (option_map (λ row. row.name) o) (filter_map (network_name engine) ids))
    ≡ (option_map_or (λ row. bytes_eq n row.name) o false || list_any (network_has_name engine n) ids)
    = λ o. elim o as (λ o. list_any (bytes_eq n) (cons_option (option_map (λ row. row.name) o) (filter_map (network_name engine) ids))
    ≡ (option_map_or (λ row. bytes_eq n row.name) o false || list_any (network_has_name engine n) ids)) [
      | None ↦ rest
      | Some row ↦ ap (λ b. bytes_eq n row.name || b) rest
    ]
    in named (network_at engine id)

-- a row as it is listed
shows_listed : (engine : Engine) (row : ContainerRow) → Shows engine row (listed_row engine row)
shows_listed engine row = record {
  id = refl;
  name = refl;
  image_id = refl;
  labels = refl;
  state = refl;
  networks = λ n. any-fold n (filter_map (network_name engine) row.networks) [] ∙ any-names engine n row.networks;
}

same_ids : (engine : Engine) (rows : List ContainerRow) → map (λ listed. listed.id) (map (listed_row engine) rows) ≡ map id_of rows
same_ids engine [] = refl
same_ids engine (row ∷ rows) = ap (λ ids. row.id ∷ ids) (same_ids engine rows)

pub lists_containers : (engine : Engine) (project : List ℕ) → IsSound engine → ListsContainers engine project (listing engine project)
lists_containers engine project sound =
    let wanted = λ (row : ContainerRow). is_of_project project row.labels in
    let shown : (listed : Listed) (row : ContainerRow) → Among engine.containers row → wanted row ≡ true → listed ≡ listed_row engine row
    → (r : ContainerRow) × (container_at engine listed.id ≡ Some r) × (wanted r ≡ true) × Shows engine r listed
    = λ listed row among passes same.
    subst (λ (l : Listed). (r : ContainerRow) × (container_at engine l.id ≡ Some r) × (wanted r ≡ true) × Shows engine r l) (sym same)
    (row, find-among id_of engine.containers row sound.container_ids among, passes, shows_listed engine row) in record {
      distinct = rw (same_ids engine (filter wanted engine.containers)) (distinct-filter id_of wanted engine.containers sound.container_ids);
      shown = λ listed among.
          let from = among-mapped (listed_row engine) wanted engine.containers listed among in
          shown listed from.0 from.1 from.2 from.3;
      all = λ id row there passes.
          let among = (among-find (λ (r : ContainerRow). bytes_eq r.id id) engine.containers row there).0 in
          (listed_row engine row, among-map (listed_row engine) (filter wanted engine.containers) row (among-filter wanted engine.containers row among passes), shows_listed engine row);
    }

pub lists_networks : (engine : Engine) → IsSound engine → ListsNetworks engine engine.networks
lists_networks engine sound = record {
  distinct = sound.network_ids;
  shown = λ row among. find-among network_id_of engine.networks row sound.network_ids among;
  all = λ id row there. (among-find (λ (r : NetRow). bytes_eq r.id id) engine.networks row there).0;
}

pub lists_volumes : (engine : Engine) → IsSound engine → ListsVolumes engine engine.volumes
lists_volumes engine sound = record { distinct = sound.volume_names; same = λ n. refl }
