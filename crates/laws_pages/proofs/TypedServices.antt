-- The attributes of the services of a project that a tree means: none is used up by loading, and variables stand at `environment`.
use Rattle.std.proofs.Common.{◌≡◌, ◌∙◌, ℕ, Bool, true, false, cond, List, [], ◌∷◌, Option, Some, None, Result, Ok, Err, codes, refl, sym, ap, subst}
use Rattle.std.specs.Prelude.{find}
use Rattle.std.specs.Option.{option_map}
use Rattle.std.specs.Str.{bytes_eq}
use Rattle.std.proofs.lemmas.Slice.Eq.{bytes_eq-Decides}
use Rattle.tree_base.specs.Answers.{◌>>=◌}
use Rattle.tree_base.specs.declared.tree.Tree.{Tree, out-Tree}
use Rattle.tree_base.specs.declared.tree.Tree.TheOpen.{Tree-F}
use Rattle.merge_rules.specs.Laws.{no_mark, own_keys}
use Rattle.attribute_types.specs.Tables.{form_of, host_lines, joining_lines, process_lines, resource_lines, running_lines}
use Rattle.attribute_types.specs.Values.{value_at}
use Rattle.attribute_types.specs.declared.attribute.Attribute.{Attribute}
use Rattle.attribute_types.specs.declared.attribute.Value.{Value}
use Rattle.attribute_types.specs.declared.form.Form.{Form}
use Rattle.attribute_types.specs.declared.form.Plain.{Plain}
use Rattle.attribute_scalars.specs.Lists.{pairs_of}
use Rattle.attribute_scalars.specs.Walks.{Entries, Read, in_byte_order, is_in, own_entries, with_wanting}
use Rattle.attribute_values.specs.Fields.{named}
use Rattle.attribute_values.specs.Forms.{plain_value}
use Rattle.attribute_rows.specs.Attributes.{attribute_by, attribute_under, attributes_of, form_value, wanted_of_service}
use Rattle.laws_attributes.proofs.Fields.{unless_given}
use Rattle.laws_attributes.proofs.PlainForms.{any_given}
use Rattle.typed_project.specs.declared.network.Network.{Network}
use Rattle.typed_project.specs.declared.project.FileItem.{FileItem}
use Rattle.typed_project.specs.declared.project.Project.{Project}
use Rattle.typed_project.specs.declared.service.Service.{Service}
use Rattle.typed_project.specs.declared.volume.Volume.{Volume}
use Rattle.loading_words.specs.declared.refusal.TreeRefusal.{TreeRefusal}
use Rattle.project_meaning.specs.Completing.{completed, says_networks, service_keys, settled, with_default, with_value, without, without_missing, needs_there}
use Rattle.project_meaning.specs.Meaning.{all_declared, declarations, elements_in, few_services, file_of, is_key, network_of, of_attributes, project_of, section, service_of, volume_of}
use Rattle.laws_pages.proofs.CompletedTwice.{completed_is}
use Rattle.laws_pages.proofs.Declared.{AreGood, GoodOut, bound, good_elements, good_out, items_declared}
use Rattle.laws_pages.proofs.Each.{Each, each-filter, each-map, each-placed, each_of-map}
use Rattle.laws_pages.proofs.GivenEntries.{OneOf, each_given}
use Rattle.laws_pages.proofs.PagesMean.{service_key}
use Rattle.laws_pages.proofs.Rising.{Rises}
use Rattle.laws_pages.proofs.Settled.{is_other, joins_default, name_of}
use Rattle.laws_pages.proofs.ShownAttributes.{attributes_rise, each_any}

-- an attribute that loading leaves as it is
pub record IsTyped (attribute : Attribute) : Type 0 where
  pub no_extends : bytes_eq attribute.name (codes "extends") ≡ false
  pub no_env_file : bytes_eq attribute.name (codes "env_file") ≡ false
  pub variables : bytes_eq attribute.name (codes "environment") ≡ true → (pairs : List (List ℕ × Option (List ℕ))) × (attribute.value ≡ Value.Pairs pairs)

extends_form : form_of (codes "extends") ≡ Some Form.Consumed
unfolding process_lines host_lines resource_lines joining_lines running_lines
extends_form = refl

env_file_form : form_of (codes "env_file") ≡ Some Form.Consumed
unfolding process_lines host_lines resource_lines joining_lines running_lines
env_file_form = refl

environment_form : form_of (codes "environment") ≡ Some (Form.Plain Plain.Pairs)
unfolding process_lines host_lines resource_lines joining_lines running_lines
environment_form = refl

-- what stands under a name gives a value by the name's form
module _ (beside : Entries) (wanted : Bool) (name : List ℕ) (tree : Tree) (form : Form) (value : Value) (is : form_of name ≡ Some form) (given : form_value form wanted beside tree ≡ Ok (Some value)) where
  -- the form of a name that is this one
  form_as : (key : List ℕ) (other : Form) → form_of key ≡ Some other → bytes_eq name key ≡ true → form_value other wanted beside tree ≡ Ok (Some value)
  form_as key other known e =
      let same : name ≡ key = (bytes_eq-Decides name key).0 e in
      let both : Some form ≡ Some other = sym is ∙ ap form_of same ∙ known in
      let one : form ≡ other = cc both in
      ap (λ (f : Form). form_value f wanted beside tree) (sym one) ∙ given

  unlike : (key : List ℕ) → form_of key ≡ Some Form.Consumed → bytes_eq name key ≡ false
  unlike key used = at (bytes_eq name key) refl
    where
      at : (b : Bool) → bytes_eq name key ≡ b → b ≡ false
      at true e = absurd (cc (form_as key Form.Consumed used e))
      at false e = refl

  value_typed : IsTyped (record { name = name; value = value })
  value_typed = record {
    no_extends = unlike (codes "extends") extends_form;
    no_env_file = unlike (codes "env_file") env_file_form;
    variables = λ e.
        let u = unless_given wanted (plain_value Plain.Pairs beside tree) (out-Tree tree) value (form_as (codes "environment") (Form.Plain Plain.Pairs) environment_form e) in
        let p = any_given Value.Pairs (pairs_of (out-Tree tree)) value u.1 in
        (p.0, sym p.3);
  }

one_typed : (wanted : List (List ℕ)) (beside : Entries) (e : List ℕ × Tree) (found : List Attribute) → Unit {0} → attribute_under wanted beside e.0 e.1 ≡ Ok found → OneOf name_of IsTyped e.0 found
one_typed wanted beside e found u h = by (form_of e.0) refl h
  where
    gives : (form : Form) (r : Read (Option Value)) → form_of e.0 ≡ Some form → form_value form (is_in wanted e.0) beside e.1 ≡ r → (r >>= λ value. Ok (named e.0 value)) ≡ Ok found → OneOf name_of IsTyped e.0 found
    gives form (Err refusal) is given f = absurd (cc f)
    gives form (Ok None) is given f = let same : [] ≡ found = cc f in subst (OneOf name_of IsTyped e.0) same tt
    gives form (Ok (Some value)) is given f =
        let one : Attribute = record { name = e.0; value = value } in
        let same : one ∷ [] ≡ found = cc f in
        subst (OneOf name_of IsTyped e.0) same (refl, value_typed beside (is_in wanted e.0) e.0 e.1 form value is given)

    by : (o : Option Form) → form_of e.0 ≡ o → attribute_by o (is_in wanted e.0) beside e.0 e.1 ≡ Ok found → OneOf name_of IsTyped e.0 found
    by None is f = absurd (cc f)
    by (Some form) is f = gives form (form_value form (is_in wanted e.0) beside e.1) is refl f

attributes_typed : (entries : Entries) (attributes : List Attribute) → attributes_of entries ≡ Ok attributes → Each IsTyped attributes
attributes_typed entries attributes h =
    let own = own_entries entries in let wanted = wanted_of_service own in let es : Entries = with_wanting wanted own in
    each_given name_of (attribute_under wanted own) (λ e. Unit {0}) IsTyped (one_typed wanted own) (in_byte_order es) attributes (each_any (in_byte_order es)) h

-- a service whose attributes are such
abbrev pub AreTyped : Service → Type 0
AreTyped service = Each IsTyped service.attributes

record IsDeclared (service : Service) : Type 0 where
  rises : Rises name_of service.attributes
  typed : AreTyped service

abbrev service_made : List ℕ → List Attribute → Service
service_made name attributes = record { key = name; attributes = attributes }

service_declared : (name : List ℕ) (v : Tree-F Tree) (service : Service) → GoodOut v → is_key name ≡ true → service_of name v ≡ Ok service → (service.key ≡ name) × IsDeclared service
service_declared name Tree-F.Null service good key h = absurd (cc h)
service_declared name (Tree-F.Scalar text) service good key h = absurd (cc h)
service_declared name (Tree-F.Map es) service good key h =
    let b = bound (attributes_of es) (λ attributes. Ok (service_made name attributes)) service h in
    let same : service_made name b.first ≡ service = cc (b.rest) in
    subst (λ (s : Service). (s.key ≡ name) × IsDeclared s) same (refl, record { rises = attributes_rise es b.first b.is; typed = attributes_typed es b.first b.is })
service_declared name (Tree-F.Seq items) service good key h = absurd (cc h)
service_declared name Tree-F.Reset service good key h = absurd (cc h)
service_declared name (Tree-F.Override inner) service good key h = absurd (cc h)

of_given : {X : Type 0} (r : Read X) (x : X) → of_attributes r ≡ Ok x → r ≡ Ok x
of_given (Ok y) x h = let same : y ≡ x = cc h in ap (λ z. Ok z) same
of_given (Err refusal) x h = absurd (cc h)

abbrev made : List ℕ → List Service → List Network → List Volume → List FileItem → List FileItem → Project
made name services networks volumes secrets configs = record { name = name; services = services; networks = networks; volumes = volumes; secrets = secrets; configs = configs }

-- what is declared behind each part
abbrev after_few : List ℕ → Entries → List Network → List Volume → List FileItem → List FileItem → Result Project TreeRefusal
after_few name elements networks volumes secrets configs =
    of_attributes (all_declared service_of elements (codes "services")) >>= λ services. Ok (made name services networks volumes secrets configs)

abbrev after_configs : List ℕ → Entries → List Network → List Volume → List FileItem → List FileItem → Result Project TreeRefusal
after_configs name elements networks volumes secrets configs = few_services (section elements (codes "services")) >>= λ few. after_few name elements networks volumes secrets configs

abbrev after_secrets : List ℕ → Entries → List Network → List Volume → List FileItem → Result Project TreeRefusal
after_secrets name elements networks volumes secrets = of_attributes (all_declared file_of elements (codes "configs")) >>= λ configs. after_configs name elements networks volumes secrets configs

abbrev after_volumes : List ℕ → Entries → List Network → List Volume → Result Project TreeRefusal
after_volumes name elements networks volumes = of_attributes (all_declared file_of elements (codes "secrets")) >>= λ secrets. after_secrets name elements networks volumes secrets

abbrev after_networks : List ℕ → Entries → List Network → Result Project TreeRefusal
after_networks name elements networks = of_attributes (all_declared (volume_of name) elements (codes "volumes")) >>= λ volumes. after_volumes name elements networks volumes

abbrev after_elements : List ℕ → Entries → Result Project TreeRefusal
after_elements name elements = of_attributes (all_declared (network_of name) elements (codes "networks")) >>= λ networks. after_networks name elements networks

served : (name : List ℕ) (services : List Service) (networks : List Network) (volumes : List Volume) (secrets configs : List FileItem) (declared : Project)
    → ◌≡◌ {A = Result Project TreeRefusal} (Ok (made name services networks volumes secrets configs)) (Ok declared) → services ≡ declared.services
served name services networks volumes secrets configs declared h = let same : made name services networks volumes secrets configs ≡ declared = cc h in ap (λ (p : Project). p.services) same

services_declared : (name : List ℕ) (declared : Project) (elements : Entries) → AreGood elements → after_elements name elements ≡ Ok declared → Each IsDeclared declared.services
services_declared name declared elements good h =
    let b = bound (of_attributes (all_declared (network_of name) elements (codes "networks"))) (after_networks name elements) declared h in
    let c = bound (of_attributes (all_declared (volume_of name) elements (codes "volumes"))) (after_volumes name elements b.first) declared b.rest in
    let d = bound (of_attributes (all_declared file_of elements (codes "secrets"))) (after_secrets name elements b.first c.first) declared c.rest in
    let e = bound (of_attributes (all_declared file_of elements (codes "configs"))) (after_configs name elements b.first c.first d.first) declared d.rest in
    let f = bound (few_services (section elements (codes "services"))) (λ few. after_few name elements b.first c.first d.first e.first) declared e.rest in
    let g = bound (of_attributes (all_declared service_of elements (codes "services"))) (λ services. Ok (made name services b.first c.first d.first e.first)) declared f.rest in
    let services = items_declared service_key service_of IsDeclared service_declared elements (codes "services") g.first good (of_given (all_declared service_of elements (codes "services")) g.first g.is) in
    subst (Each IsDeclared) (served name g.first b.first c.first d.first e.first declared g.rest) services.each

-- what goes without saying is none of these attributes
needs_typed : (value : Value) → IsTyped (record { name = codes "depends_on"; value = value })
needs_typed value = record { no_extends = refl; no_env_file = refl; variables = λ e. absurd (cc e) }

networks_typed : IsTyped joins_default
networks_typed = record { no_extends = refl; no_env_file = refl; variables = λ e. absurd (cc e) }

settled_typed : (keys : List (List ℕ)) (service : Service) → AreTyped service → AreTyped (settled keys service)
settled_typed keys service typed = defaulted (without_missing keys service) (needing (needs_there keys service))
  where
    others : List Attribute
    others = without (codes "depends_on") service.attributes

    needing : (o : Option Value) → Each IsTyped (with_value (codes "depends_on") o others)
    needing None = each-filter IsTyped (is_other (codes "depends_on")) service.attributes typed
    needing (Some value) =
        each-placed name_of IsTyped (record { name = codes "depends_on"; value = value }) others (needs_typed value) (each-filter IsTyped (is_other (codes "depends_on")) service.attributes typed)

    by : (says : Bool) (attributes : List Attribute) → Each IsTyped attributes → Each IsTyped (cond says attributes (with_value (codes "networks") (Some joins_default.value) attributes))
    by true attributes h = h
    by false attributes h = each-placed name_of IsTyped joins_default attributes networks_typed h

    defaulted : (attributes : List Attribute) → Each IsTyped attributes → Each IsTyped (with_default attributes)
    defaulted attributes h = by (says_networks attributes) attributes h

-- so are the services of a project that a tree means
pub services_typed : (name : List ℕ) (tree : Tree) (project : Project) → no_mark tree ≡ true → own_keys tree ≡ true → project_of name tree ≡ Ok project → Each AreTyped project.services
services_typed name tree project marks keys h =
    let a = bound (declarations name (out-Tree tree)) completed project h in
    let declared : Project = a.first in
    let e = bound (of_attributes (elements_in (out-Tree tree))) (after_elements name) declared a.is in
    let all = services_declared name declared e.first (good_elements (out-Tree tree) e.first (good_out tree (marks, keys)) (of_given (elements_in (out-Tree tree)) e.first e.is)) e.rest in
    let rises = each-map IsDeclared (λ service. Rises name_of service.attributes) (λ service r. r.rises) declared.services all in
    let is = completed_is declared rises project a.rest in
    subst (λ (p : Project). Each AreTyped p.services) (sym is)
    (each_of-map (settled (service_keys declared)) AreTyped declared.services
    (each-map IsDeclared (λ service. AreTyped (settled (service_keys declared) service)) (λ service r. settled_typed (service_keys declared) service r.typed) declared.services all))

-- no attribute stands under a name that none has
pub no_value : (name : List ℕ) (attributes : List Attribute) → Each (λ a. bytes_eq a.name name ≡ false) attributes → value_at attributes name ≡ None
no_value name [] h = refl
no_value name (a ∷ attributes) h =
    ap (λ (b : Bool). option_map (λ attribute. attribute.value) (cond b (Some a) (find (λ x. bytes_eq x.name name) attributes))) h.0 ∙ no_value name attributes h.1

-- variables stand at `environment`
pub variables_there : (attributes : List Attribute) (value : Value) → Each IsTyped attributes → value_at attributes (codes "environment") ≡ Some value → (pairs : List (List ℕ × Option (List ℕ))) × (value ≡ Value.Pairs pairs)
variables_there [] value typed e = absurd (cc e)
variables_there (a ∷ attributes) value typed e = at (bytes_eq a.name (codes "environment")) refl (variables_there attributes value typed.1) e
  where
    at : (b : Bool) → bytes_eq a.name (codes "environment") ≡ b → (value_at attributes (codes "environment") ≡ Some value → (pairs : List (List ℕ × Option (List ℕ))) × (value ≡ Value.Pairs pairs))
        → option_map (λ attribute. attribute.value) (cond b (Some a) (find (λ x. bytes_eq x.name (codes "environment")) attributes)) ≡ Some value → (pairs : List (List ℕ × Option (List ℕ))) × (value ≡ Value.Pairs pairs)
    at true is more f =
        let p = typed.0.variables is in
        let same : a.value ≡ value = cc f in (p.0, sym same ∙ p.1)
    at false is more f = more f
