-- What names in byte order tell is what the names tell.
use Rattle.std.proofs.Common.{◌≡◌, ◌+◌, ℕ, Bool, not, List, [], ◌∷◌, Some, None, drop, map, slice_get, codes, refl, ap, sym, ◌∙◌}
use Rattle.std.specs.Prelude.{Option, filter, find, flat_map}
use Rattle.std.specs.Option.{option_map, option_or}
use Rattle.attribute_types.specs.declared.attribute.Value.{Value}
use Rattle.attribute_types.specs.declared.rows.Dependency.{Dependency}
use Rattle.attribute_scalars.specs.Lists.{if_any}
use Rattle.attribute_scalars.specs.Walks.{is_in}
use Rattle.attribute_scalars.proofs.Walks.{item_left}
use Rattle.loaded_files.specs.declared.refusal.Kind.{Kind}
use Rattle.loading_words.specs.declared.refusal.ProjectRefusal.{ProjectRefusal}
use Rattle.service_graph.specs.Cycles.{dependencies_of, first_of}
use Rattle.typed_project.specs.declared.project.Project.{Project}
use Rattle.typed_project.specs.declared.service.Service.{Service}
use Rattle.project_meaning.specs.declared.keys.Keys.{Keys}
use Rattle.project_meaning.specs.Completing.{is_used, least_missing, settled, undefined_as, undefined_in, with_default, with_value, without}
use Rattle.project_meaning.specs.Names.{declared, keys_as, named, sorted, undefined_among, undefined_of_kind}
use Rattle.project_meaning.proofs.Searching.{in_each, in_sorted}

-- to be among names in byte order is to be among them
same_test : (names : List (List ℕ)) → is_in (sorted names) ≡ is_in names
same_test names = λ i name. in_sorted names name i

-- to be among all that services name is to be used
pub used_test : (names : Service → List (List ℕ)) (services : List Service) → is_in (sorted (flat_map names services)) ≡ is_used names services
used_test names services = λ i name. (in_sorted (flat_map names services) name ∙ in_each names services name) i

settled_same : (keys : List (List ℕ)) (service : Service) → settled (sorted keys) service ≡ settled keys service
settled_same keys service =
    ap (λ (test : List ℕ → Bool). settled_by test) (same_test keys)
  where
    settled_by : (List ℕ → Bool) → Service
    settled_by test = record {
      key = service.key;
      attributes = with_default
          (with_value (codes "depends_on") (option_map Value.Dependencies (if_any (filter (λ (need : Dependency). test need.key) (dependencies_of service))))
          (without (codes "depends_on") service.attributes));
    }

-- services are settled by their keys, in whatever order these stand
pub all_settled : (keys : List (List ℕ)) (services : List Service) → map (settled (sorted keys)) services ≡ map (settled keys) services
all_settled keys services = ap (λ (f : Service → Service). map f services) (λ i service. settled_same keys service i)

least_same : (all names : List (List ℕ)) → least_missing (sorted all) names ≡ least_missing all names
least_same all names = ap (λ (test : List ℕ → Bool). find (λ name. not (test name)) (sorted names)) (same_test all)

module _ (keys : Keys) (project : Project) (are : (kind : Kind) → keys_as kind keys ≡ sorted (declared kind project)) where
  kind_same : (service : Service) (kind : Kind) → undefined_of_kind keys service kind ≡ undefined_as kind service (least_missing (declared kind project) (named kind service))
  kind_same service kind =
      ap (λ (there : List (List ℕ)). undefined_as kind service (least_missing there (named kind service))) (are kind)
      ∙ ap (undefined_as kind service) (least_same (declared kind project) (named kind service))

  undefined_same : (service : Service) → undefined_among keys service ≡ undefined_in project service
  undefined_same service =
      let e = kind_same service in
      λ i. first_of (e Kind.Network i ∷ e Kind.Volume i ∷ e Kind.Service i ∷ e Kind.Secret i ∷ e Kind.Config i ∷ [])

  -- what is undefined is told by the keys
  pub all_undefined : (services : List Service) → first_of (map (undefined_among keys) services) ≡ first_of (map (undefined_in project) services)
  all_undefined services = ap (λ (f : Service → Option ProjectRefusal). first_of (map f services)) (λ i service. undefined_same service i)

-- what holds of each kind holds of all
pub each_kind : (P : Kind → Type 0) → P Kind.Network → P Kind.Volume → P Kind.Service → P Kind.Secret → P Kind.Config → (kind : Kind) → P kind
each_kind P n v s t c Kind.Network = n
each_kind P n v s t c Kind.Volume = v
each_kind P n v s t c Kind.Service = s
each_kind P n v s t c Kind.Secret = t
each_kind P n v s t c Kind.Config = c

module _ {X Y : Type 0} (f : X → Option Y) (xs : List X) (i : ℕ) (x : X) (at : slice_get xs i ≡ Some x) where
  -- the first of what elements give, where one gives something
  pub stopped : (y : Y) → f x ≡ Some y → Some y ≡ first_of (map f (drop i xs))
  stopped y some =
      sym (ap (λ (l : List X). first_of (map f l)) (item_left xs i x at) ∙ ap (λ (o : Option Y). option_or o (first_of (map f (drop (i + 1) xs)))) some)

  -- and where it gives nothing
  pub passed : f x ≡ None → first_of (map f (drop (i + 1) xs)) ≡ first_of (map f (drop i xs))
  passed none =
      sym (ap (λ (l : List X). first_of (map f l)) (item_left xs i x at) ∙ ap (λ (o : Option Y). option_or o (first_of (map f (drop (i + 1) xs)))) none)

pub none_from : {Y : Type 0} (o : Option Y) → ((y : Y) → o ≡ Some y → ⊥) → o ≡ None
none_from None never = refl
none_from (Some y) never = absurd (never y refl)
