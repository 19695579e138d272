-- A tree that means a project has the form that loading asks.
use Rattle.std.proofs.Common.{◌≡◌, ◌∙◌, ℕ, Bool, true, false, cond, List, [], ◌∷◌, Some, None, Ok, codes, refl, sym, ap, subst}
use Rattle.std.specs.Prelude.{Option, All, filter, is_some, if◌then◌else◌}
use Rattle.std.specs.Option.{option_map, option_map_or, option_or}
use Rattle.std.proofs.lemmas.List.Elements.{All-head, All-tail}
use Rattle.tree_base.specs.ByteOrder.{least_by}
use Rattle.tree_base.specs.Entries.{value_at}
use Rattle.tree_base.specs.declared.Step.TheVariants.{Key}
use Rattle.tree_base.specs.declared.tree.Tree.{Tree, out-Tree}
use Rattle.tree_base.specs.declared.tree.Tree.TheOpen.{Tree-F}
use Rattle.attribute_paths.proofs.Trees.{OfAll}
use Rattle.attribute_types.specs.Tables.{form_of, host_lines, joining_lines, process_lines, resource_lines, running_lines}
use Rattle.attribute_types.specs.declared.attribute.Attribute.{Attribute}
use Rattle.attribute_types.specs.declared.form.Form.{Form}
use Rattle.attribute_types.specs.declared.form.Form.TheVariants.{Own, Plain}
use Rattle.attribute_types.specs.declared.form.Plain.TheVariants as plain
use Rattle.attribute_types.specs.declared.form.Row.TheVariants as row
use Rattle.attribute_scalars.specs.Walks.{Entries, is_extension, is_in, own_entries, with_wanting}
use Rattle.attribute_values.specs.Fields as fields
use Rattle.attribute_rows.specs.Attributes.{attribute_by, attribute_under, attributes_of, form_value, wanted_of_service}
use Rattle.file_paths.specs.Shapes.{FormRules, entries_at, entries_in, faulty_path, fits, has_if, is_faulty, is_mapping, is_scalar, or_null, other_form, service_fault, service_forms, services_fault, shape_fault, top_forms}
use Rattle.file_paths.specs.declared.form.Form.{Form as Asked}
use Rattle.file_paths.specs.declared.form.Form.TheVariants as asked
use Rattle.project_meaning.specs.Meaning.{element_form, section_form, service_of}
use Rattle.laws_attributes.proofs.Declaring.{Declared, Declares, HasForm, declares, found_holds, name_looks, section_at, section_looks, service_read}
use Rattle.laws_attributes.proofs.Entering.{IsRead, of_own, sorted_read, unwanted}
use Rattle.laws_attributes.proofs.Looks.{bound, form_kind, form_looks, looks}
use Rattle.laws_attributes.specs.Accepted.{AcceptedTreesAreShaped, IsWhole, services_in}

-- where each name has its form there is none of another
abbrev HasRule : Entries → List ℕ × Asked → Type 0
HasRule es rule = has_if rule.0 (or_null (fits rule.1)) es ≡ true

none_other : (rules : FormRules) (es : Entries) → OfAll (HasRule es) rules → other_form rules es ≡ None
none_other [] es h = refl
none_other (rule ∷ rules) es h = ap (λ (b : Bool). if b then other_form rules es else Some rule.0) h.0 ∙ none_other rules es h.1

-- what is there has its form, and so has what isn't
has_by : (key : List ℕ) (test : Tree-F Tree → Bool) (es : Entries) → ((tree : Tree) → value_at es key ≡ Some tree → test (out-Tree tree) ≡ true) → has_if key test es ≡ true
has_by key test es so = at (value_at es key) refl
  where
    at : (o : Option Tree) → value_at es key ≡ o → option_map_or (λ tree. test (out-Tree tree)) o true ≡ true
    at None is = refl
    at (Some tree) is = so tree is

has_none : (key : List ℕ) (test : Tree-F Tree → Bool) (es : Entries) → value_at es key ≡ None → has_if key test es ≡ true
has_none key test es none = ap (λ (o : Option Tree). option_map_or (λ tree. test (out-Tree tree)) o true) none

-- the forms of the attributes that are asked
needs_form : form_of (codes "depends_on") ≡ Some (Own row.Dependencies)
unfolding process_lines host_lines resource_lines joining_lines running_lines
needs_form = refl

settings_form : form_of (codes "environment") ≡ Some (Plain plain.Pairs)
unfolding process_lines host_lines resource_lines joining_lines running_lines
settings_form = refl

profiles_form : form_of (codes "profiles") ≡ Some (Plain plain.List)
unfolding process_lines host_lines resource_lines joining_lines running_lines
profiles_form = refl

-- an attribute of a service that is accepted, by its form
module _ (es : Entries) (attributes : List Attribute) (e : attributes_of es ≡ Ok attributes) where
  abbrev own : Entries
  own = own_entries es

  abbrev wanted : List (List ℕ)
  wanted = wanted_of_service own

  all_read : OfAll (λ e. is_extension e.0 ≡ false → IsRead (attribute_under wanted own) e) es
  all_read = of_own (IsRead (attribute_under wanted own)) es (unwanted (IsRead (attribute_under wanted own)) wanted own (sorted_read (attribute_under wanted own) (with_wanting wanted own) attributes e))

  attribute_looks : (key : List ℕ) (form : Form) → is_extension key ≡ false → form_of key ≡ Some form → (tree : Tree) → value_at es key ≡ Some tree → or_null (looks (form_kind form)) (out-Tree tree) ≡ true
  attribute_looks key form plain_key is tree at =
      let r = found_holds (λ e. is_extension e.0 ≡ false → IsRead (attribute_under wanted own) e) es key tree all_read at plain_key in
      let so : attribute_by (Some form) (is_in wanted key) own key tree ≡ Ok r.0 = ap (λ (o : Option Form). attribute_by o (is_in wanted key) own key tree) (sym is) ∙ r.1 in
      let b = bound (form_value form (is_in wanted key) own tree) (λ value. Ok (fields.named key value)) r.0 so in
      form_looks form (is_in wanted key) own tree b.0 b.1

  has_all : value_at es (codes "extends") ≡ None → value_at es (codes "env_file") ≡ None → OfAll (HasRule es) service_forms
  has_all extends env_file = (
    has_by (codes "depends_on") (or_null (fits asked.Needs)) es (attribute_looks (codes "depends_on") (Own row.Dependencies) refl needs_form),
    (
      has_none (codes "env_file") (or_null (fits asked.EnvFiles)) es env_file,
      (
        has_by (codes "environment") (or_null (fits asked.Settings)) es (attribute_looks (codes "environment") (Plain plain.Pairs) refl settings_form),
        (
          has_none (codes "extends") (or_null (fits asked.Extends)) es extends,
          (has_by (codes "profiles") (or_null (fits asked.Texts)) es (attribute_looks (codes "profiles") (Plain plain.List) refl profiles_form), tt),
        ),
      ),
    ),
  )

-- a service that is accepted has no fault
not_faulty : (entry : List ℕ × Tree) → Declared service_of entry → IsWhole entry.1 → is_faulty entry ≡ false
not_faulty entry h whole =
    let r = service_read entry.0 (out-Tree entry.1) h.0 h.1 in
    let extends : value_at r.0 (codes "extends") ≡ None = ap (λ (s : Tree-F Tree). value_at (entries_in s) (codes "extends")) (sym r.2) ∙ whole.0 in
    let env_file : value_at r.0 (codes "env_file") ≡ None = ap (λ (s : Tree-F Tree). value_at (entries_in s) (codes "env_file")) (sym r.2) ∙ whole.1 in
    ap (λ (s : Tree-F Tree). is_some (service_fault s)) r.2
    ∙ ap (λ (o : Option (List ℕ)). is_some (option_map (λ key. Key key ∷ []) o)) (none_other service_forms r.0 (has_all r.0 r.1 r.3 extends env_file))

none_faulty : (services : Entries) → OfAll (Declared service_of) services → All (λ service. IsWhole service.1) services → filter is_faulty services ≡ []
none_faulty [] h whole = refl
none_faulty (entry ∷ services) h whole =
    let P : List ℕ × Tree → Type 0 = λ service. IsWhole service.1 in
    ap (λ (b : Bool). cond b (entry ∷ filter is_faulty services) (filter is_faulty services)) (not_faulty entry h.0 (All-head P entry services whole))
    ∙ none_faulty services h.1 (All-tail P entry services whole)

no_fault : (services : Entries) → filter is_faulty services ≡ [] → services_fault services ≡ None
no_fault services none = ap (λ (l : Entries). option_map faulty_path (least_by (λ entry. entry.0) l)) none

module _ (name : List ℕ) (tree : Tree) (is_declared : Declares name tree) (none : value_at (entries_in (out-Tree tree)) (codes "include") ≡ None)
    (whole : All (λ service. IsWhole service.1) (services_in tree)) where
  abbrev elements : Entries
  elements = entries_in (out-Tree tree)

  has_section : (key : List ℕ) → ((s : Tree-F Tree) → element_form key s ≡ section_form s) → has_if key (or_null is_mapping) elements ≡ true
  has_section key same =
      has_by key (or_null is_mapping) elements
      (λ tree is. (let f = found_holds HasForm elements key tree is_declared.formed is in section_looks (out-Tree tree) f.0 (sym (same (out-Tree tree)) ∙ f.1)))

  has_name : has_if (codes "name") (or_null is_scalar) elements ≡ true
  has_name =
      has_by (codes "name") (or_null is_scalar) elements
      (λ tree is. (let f = found_holds HasForm elements (codes "name") tree is_declared.formed is in name_looks (out-Tree tree) f.0 f.1))

  has_top : OfAll (HasRule elements) top_forms
  has_top = (
    has_name,
    (
      has_section (codes "services") (λ s. refl),
      (
        has_section (codes "networks") (λ s. refl),
        (
          has_section (codes "volumes") (λ s. refl),
          (has_section (codes "secrets") (λ s. refl), (has_section (codes "configs") (λ s. refl), (has_none (codes "include") (or_null (fits asked.Includes)) elements none, tt))),
        ),
      ),
    ),
  )

  services_whole : services_fault (services_in tree) ≡ None
  services_whole =
      no_fault (services_in tree)
      (none_faulty (services_in tree) (subst (OfAll (Declared service_of)) (section_at elements (codes "services")) is_declared.services) whole)

  whole_shaped : shape_fault (out-Tree tree) ≡ None
  whole_shaped = at (out-Tree tree) refl is_declared.rooted
    where
      at : (s : Tree-F Tree) → out-Tree tree ≡ s → or_null is_mapping s ≡ true → shape_fault (out-Tree tree) ≡ None
      at Tree-F.Null is e = ap shape_fault is
      at (Tree-F.Scalar text) is e = absurd (cc e)
      at (Tree-F.Map es) is e =
          let top : other_form top_forms es ≡ None = ap (λ (s : Tree-F Tree). other_form top_forms (entries_in s)) (sym is) ∙ none_other top_forms elements has_top in
          let under : services_fault (entries_at (codes "services") es) ≡ None = ap (λ (s : Tree-F Tree). services_fault (entries_at (codes "services") (entries_in s))) (sym is) ∙ services_whole in
          ap shape_fault is ∙ (λ i. option_or (option_map (λ key. Key key ∷ []) (top i)) (under i))
      at (Tree-F.Seq items) is e = absurd (cc e)
      at Tree-F.Reset is e = absurd (cc e)
      at (Tree-F.Override inner) is e = absurd (cc e)

pub accepted_trees_shaped : AcceptedTreesAreShaped
accepted_trees_shaped name tree project h keys there = whole_shaped name tree (declares name tree project h) there.0 there.1
