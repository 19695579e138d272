-- What a project of services by their images, as a file has it, means.
use Rattle.std.proofs.Common.{◌≡◌, ◌∙◌, ◌≤◌, ℕ, suc, Bool, true, false, cond, List, [], ◌∷◌, None, Some, Ok, codes, length, map, refl, ap, arith, rules, tests}
use Rattle.std.proofs.lemmas.Bool.{and_parts}
use Rattle.std.proofs.lemmas.Cmp.{nat_list_cmp_total}
use Rattle.std.proofs.lemmas.List.{length-map}
use Rattle.std.specs.Cmp.Lexicographic.{slice_cmp}
use Rattle.std.specs.List.{list_all}
use Rattle.std.specs.Ordering.{is_lt, nat_cmp, ordering_reverse}
use Rattle.std.specs.Prelude.{Result, nat_lt}
use Rattle.std.specs.declared.cmp.Ordering.{Ordering}
use Rattle.std.specs.declared.cmp.Ordering.TheVariants.{Less, Equal, Greater}
use Rattle.attribute_rows.specs.Attributes.{attributes_of}
use Rattle.attribute_scalars.specs.Walks.{Entries, Read, each_entry, in_byte_order}
use Rattle.attribute_types.specs.Tables.{form_of, host_lines, joining_lines, process_lines, resource_lines}
use Rattle.attribute_types.specs.declared.attribute.Attribute.{Attribute}
use Rattle.attribute_types.specs.declared.form.Form.TheVariants as forms
use Rattle.attribute_types.specs.declared.form.Plain.TheVariants as plains
use Rattle.loading_words.specs.declared.refusal.TreeRefusal.{TreeRefusal}
use Rattle.project_meaning.specs.Completing.{completed, default_key, is_used, networks_named, settled, undefined_in}
use Rattle.project_meaning.specs.Meaning.{declarations, declared_as, elements_in, few_services, is_key, project_of, service_of}
use Rattle.laws_pages.proofs.NoCircle.{no_circle}
use Rattle.laws_pages.specs.PlainTrees.{entry_of, tree_of_project}
use Rattle.service_graph.specs.Cycles.{first_of}
use Rattle.tree_base.specs.Answers.{◌>>=◌}
use Rattle.tree_base.specs.ByteOrder.{is_before, placed}
use Rattle.tree_base.specs.declared.tree.Tree.{Tree, out-Tree}
use Rattle.tree_base.specs.declared.tree.Tree.TheVariants.{Map, Scalar, outs-Map, outs-Scalar}
use Rattle.typed_project.specs.PlainProjects.{AreInOrder, PlainProject, PlainService}
use Rattle.typed_project.specs.PlainProjects as plain
use Rattle.typed_project.specs.declared.project.Project.{Project}
use Rattle.typed_project.specs.declared.service.Service.{Service}

-- the attributes of a service as a file has it, and the elements of a project
abbrev pub attributes : PlainService → Entries
attributes service = (codes "image", Scalar service.image) ∷ (codes "network_mode", Scalar (codes "none")) ∷ []

abbrev pub elements : PlainProject → Entries
elements project = (codes "name", Scalar project.name) ∷ (codes "services", Map (map entry_of project.services)) ∷ []

-- the lines of the tables
image_form : form_of (codes "image") ≡ Some (forms.Plain plains.Text)
unfolding process_lines
image_form = refl

mode_form : form_of (codes "network_mode") ≡ Some (forms.Plain plains.NetworkMode)
unfolding process_lines host_lines resource_lines joining_lines
mode_form = refl

attributes_back : (service : PlainService) → attributes_of (attributes service) ≡ Ok (plain.service_of service).attributes
attributes_back service = rw (image_form, mode_form, outs-Scalar service.image, outs-Scalar (codes "none")) refl

-- a service as a file has it is that service
one_back : (service : PlainService) → service_of service.key (out-Tree (entry_of service).1) ≡ Ok (plain.service_of service)
one_back service =
    ap (service_of service.key) (outs-Map (attributes service))
    ∙ ap (λ (r : Read (List Attribute)). r >>= λ found. Ok (record { key = service.key; attributes = found })) (attributes_back service)

each_back : (services : List PlainService) → list_all is_key (map (λ service. service.key) services) ≡ true
    → each_entry (declared_as service_of) (map entry_of services) ≡ Ok (map plain.service_of services)
each_back [] keys = refl
each_back (service ∷ services) keys =
    let parts = and_parts (is_key service.key) (list_all is_key (map (λ service. service.key) services)) keys in
    rw (parts.0, one_back service, each_back services parts.1) refl

within_limit : (entries : Entries) → length entries ≤ 1000 → few_services entries ≡ Ok entries
within_limit entries h = let past : nat_lt 1000 (length entries) ≡ false = search (rules, tests) in rw past refl

-- what is before another isn't after it
before_not_after : (x y : List ℕ) → is_before x y ≡ true → is_before y x ≡ false
before_not_after x y e = ap is_lt (nat_list_cmp_total.antisymm y x) ∙ at (slice_cmp nat_cmp x y) e
  where
    at : (o : Ordering) → is_lt o ≡ true → is_lt (ordering_reverse o) ≡ false
    at Less f = refl
    at Equal f = refl
    at Greater f = absurd (cc f)

-- services in order stay so when they are sorted
stays : (services : List PlainService) → AreInOrder services → in_byte_order (map entry_of services) ≡ map entry_of services
stays [] h = refl
stays (x ∷ []) h = refl
stays (x ∷ y ∷ more) h =
    let after : is_before y.key x.key ≡ false = before_not_after x.key y.key (h 0 1 x y (omega arith) refl refl) in
    let later : in_byte_order (map entry_of (y ∷ more)) ≡ map entry_of (y ∷ more) =
    stays (y ∷ more) (λ i j one other less e f. h (suc i) (suc j) one other (omega (arith, less)) e f) in
    rw later (ap (λ (b : Bool). cond b (entry_of y ∷ placed (λ (entry : List ℕ × Tree). entry.0) (entry_of x) (map entry_of more)) (map entry_of (x ∷ y ∷ more))) after)

elements_back : (project : PlainProject) → elements_in (out-Tree (tree_of_project project)) ≡ Ok (elements project)
elements_back project = rw (outs-Map (elements project), outs-Scalar project.name, outs-Map (map entry_of project.services)) refl

-- what a project as a file has it declares
declared : (project : PlainProject) → length project.services ≤ 1000 → AreInOrder project.services → list_all is_key (map (λ service. service.key) project.services) ≡ true
    → declarations project.name (out-Tree (tree_of_project project)) ≡ Ok (plain.project_of project)
declared project few order keys =
    let number : length (map entry_of project.services) ≤ 1000 = omega (arith, length-map project.services entry_of) in
    rw (
      elements_back project,
      outs-Map (map entry_of project.services),
      within_limit (map entry_of project.services) number,
      stays project.services order,
      each_back project.services keys,
    ) refl

-- nothing that such a service uses isn't there
none_undefined : (project : Project) (services : List PlainService) → first_of (map (undefined_in project) (map plain.service_of services)) ≡ None
none_undefined project [] = refl
none_undefined project (service ∷ services) = none_undefined project services

-- such services are settled
are_settled : (keys : List (List ℕ)) (services : List PlainService) → map (settled keys) (map plain.service_of services) ≡ map plain.service_of services
are_settled keys [] = refl
are_settled keys (service ∷ services) = ap (λ l. plain.service_of service ∷ l) (are_settled keys services)

-- and use no network
none_used : (key : List ℕ) (services : List PlainService) → is_used networks_named (map plain.service_of services) key ≡ false
none_used key [] = refl
none_used key (service ∷ services) = none_used key services

whole : (project : PlainProject) → completed (plain.project_of project) ≡ Ok (plain.project_of project)
whole project =
    let keys : List (List ℕ) = map (λ (service : Service). service.key) (map plain.service_of project.services) in
    rw (
      none_undefined (plain.project_of project) project.services,
      are_settled keys project.services,
      no_circle project.services,
      none_used default_key project.services,
    ) refl

-- a project as a file has it means that project
pub meant : (project : PlainProject) → length project.services ≤ 1000 → AreInOrder project.services → list_all is_key (map (λ service. service.key) project.services) ≡ true
    → project_of project.name (tree_of_project project) ≡ Ok (plain.project_of project)
meant project few order keys =
    ap (λ (r : Result Project TreeRefusal). r >>= completed) (declared project few order keys) ∙ whole project
