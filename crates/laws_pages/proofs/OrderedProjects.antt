-- What a tree means that is put in order: the same.
use Rattle.std.proofs.Common.{◌≡◌, ◌∙◌, ℕ, Bool, true, false, List, [], ◌∷◌, Some, None, Ok, Err, length, map, codes, refl, sym, ap}
use Rattle.std.specs.Prelude.{Option, Result, if◌then◌else◌, nat_lt, unwrap_or}
use Rattle.std.specs.Option.{option_map}
use Rattle.std.specs.Str.{bytes_eq}
use Rattle.std.proofs.lemmas.List.{length-map}
use Rattle.tree_base.specs.Answers.{◌>>=◌}
use Rattle.tree_base.specs.Entries.{value_at}
use Rattle.tree_base.specs.declared.Step.TheVariants.{Key}
use Rattle.tree_base.specs.declared.Tree.{Tree, out-Tree}
use Rattle.tree_base.specs.declared.Tree.TheOpen.{Tree-F}
use Rattle.attribute_types.specs.Answers.{refused, under}
use Rattle.attribute_types.specs.Lookups.{text_at}
use Rattle.attribute_types.specs.Tables.{Lines, file_lines, network_lines, volume_lines}
use Rattle.attribute_types.specs.declared.attribute.Attribute.{Attribute}
use Rattle.attribute_types.specs.declared.form.Plain.{Plain}
use Rattle.attribute_types.specs.declared.refusal.Fault.{Fault}
use Rattle.attribute_values.specs.Fields.{fields_of}
use Rattle.attribute_scalars.specs.Lists.{ordered}
use Rattle.attribute_scalars.specs.Walks.{Entries, Read, each_entry, in_byte_order, is_in, own_entries}
use Rattle.typed_project.specs.declared.network.Network.{Network}
use Rattle.typed_project.specs.declared.project.FileItem.{FileItem}
use Rattle.typed_project.specs.declared.project.Project.{Project}
use Rattle.typed_project.specs.declared.service.Service.{Service}
use Rattle.typed_project.specs.declared.volume.Volume.{Volume}
use Rattle.loading_words.specs.declared.refusal.ProjectRefusal.{ProjectRefusal}
use Rattle.loading_words.specs.declared.refusal.TreeRefusal.{TreeRefusal}
use Rattle.project_meaning.specs.Completing.{completed}
use Rattle.project_meaning.specs.Meaning.{all_declared, counted, declarations, declared_as, element_form, elements_in, entries_or_none, entries_under, few_services, file_of, is_key, is_passed_over, name_form, network_of, of_attributes, project_of, section, section_form, section_names, service_of, volume_of, with_name}
use Rattle.laws_pages.specs.MeaningLaws.{OrderDoesNotMatter}
use Rattle.laws_pages.proofs.OrderedFields.{fields_same}
use Rattle.laws_pages.proofs.OrderedForms.{Same, of_tree, walk_same, walk_seen}
use Rattle.laws_pages.proofs.OrderedRows.{attributes_same}
use Rattle.laws_pages.proofs.OrderedTrees.{are_ordered, entry_key, ordered_entries, ordered_entry, ordered_out, out-ordered, own_ordered}
use Rattle.laws_pages.proofs.Rising.{length-by_key}

section_same : Same section_form
section_same Tree-F.Null = refl
section_same (Tree-F.Scalar text) = refl
section_same (Tree-F.Map entries) = refl
section_same (Tree-F.Seq items) = refl
section_same Tree-F.Reset = refl
section_same (Tree-F.Override inner) = refl

name_same : Same name_form
name_same Tree-F.Null = refl
name_same (Tree-F.Scalar text) = refl
name_same (Tree-F.Map entries) = refl
name_same (Tree-F.Seq items) = refl
name_same Tree-F.Reset = refl
name_same (Tree-F.Override inner) = refl

element_same : (key : List ℕ) → Same (element_form key)
element_same key v =
    (λ i. if is_passed_over key then Ok []
    else (if is_in section_names key then section_same v i
    else (if bytes_eq key (codes "name") then name_same v i else refused Fault.UnknownAttribute)))

-- the elements of a tree in order are the elements in order
elements_same : (v : Tree-F Tree) → elements_in (ordered_out v) ≡ (elements_in v >>= λ elements. Ok (ordered_entries elements))
elements_same Tree-F.Null = refl
elements_same (Tree-F.Scalar text) = refl
elements_same (Tree-F.Map entries) =
    ap (λ (r : Read (List Attribute)). r >>= λ none. Ok (ordered_entries entries)) (walk_seen element_form element_same (ordered_entries entries) entries (are_ordered entries))
    ∙ at (each_entry (λ key tree. element_form key (out-Tree tree)) (in_byte_order entries))
  where
    at : (r : Read (List Attribute)) → (r >>= λ none. Ok (ordered_entries entries)) ≡ ((r >>= λ none. Ok entries) >>= λ elements. Ok (ordered_entries elements))
    at (Ok none) = refl
    at (Err refusal) = refl
elements_same (Tree-F.Seq items) = refl
elements_same Tree-F.Reset = refl
elements_same (Tree-F.Override inner) = refl

-- what stands under a key, by what is seen of it
seen_under : (tree : Tree) (v : Tree-F Tree) → out-Tree tree ≡ v → out-Tree (ordered tree) ≡ ordered_out v → entries_under (Some (ordered tree)) ≡ ordered_entries (entries_under (Some tree))
seen_under tree Tree-F.Null e f = rw (e, f) refl
seen_under tree (Tree-F.Scalar text) e f = rw (e, f) refl
seen_under tree (Tree-F.Map entries) e f = rw (e, f) refl
seen_under tree (Tree-F.Seq items) e f = rw (e, f) refl
seen_under tree Tree-F.Reset e f = rw (e, f) refl
seen_under tree (Tree-F.Override inner) e f = rw (e, f) refl

under_same : (o : Option Tree) → entries_under (option_map ordered o) ≡ ordered_entries (entries_under o)
under_same None = refl
under_same (Some tree) = seen_under tree (out-Tree tree) refl (out-ordered tree)

sections_same : (elements : Entries) (name : List ℕ) → section (ordered_entries elements) name ≡ ordered_entries (section elements name)
sections_same elements name = ap entries_under ((are_ordered elements).values name) ∙ under_same (value_at elements name)

declared_same : {X : Type 0} (read : List ℕ → Tree-F Tree → Read X) → ((key : List ℕ) → Same (read key)) → (elements : Entries) (name : List ℕ) → all_declared read (ordered_entries elements) name ≡ all_declared read elements name
declared_same {X} read same elements name =
    ap (λ (es : Entries). under (Key name) (each_entry (declared_as read) (in_byte_order es))) (sections_same elements name)
    ∙ ap (under (Key name))
    (walk_same (declared_as read) (declared_as read)
    (λ key tree. ap (λ (r : Read X). if is_key key then (r >>= λ item. Ok (item ∷ [])) else refused Fault.BadValue) (of_tree (read key) (same key) tree))
    (ordered_entries (section elements name)) (section elements name) (are_ordered (section elements name)))

-- the attributes of a mapping, or of null
abbrev own_fields : Lines Plain → List (List ℕ) → Tree-F Tree → Read (List Attribute)
own_fields lines wanted v = entries_or_none v >>= λ entries. fields_of lines wanted (own_entries entries)

own_same : (lines : Lines Plain) (wanted : List (List ℕ)) → Same (own_fields lines wanted)
own_same lines wanted Tree-F.Null = refl
own_same lines wanted (Tree-F.Scalar text) = refl
own_same lines wanted (Tree-F.Map entries) =
    ap (fields_of lines wanted) (own_ordered entries) ∙ fields_same lines wanted (ordered_entries (own_entries entries)) (own_entries entries) (are_ordered (own_entries entries))
own_same lines wanted (Tree-F.Seq items) = refl
own_same lines wanted Tree-F.Reset = refl
own_same lines wanted (Tree-F.Override inner) = refl

chained : {A B C : Type 0} (r : Read A) (next : A → Read B) (last : B → Read C) → (r >>= λ a. next a >>= last) ≡ ((r >>= next) >>= last)
chained (Ok a) next last = refl
chained (Err refusal) next last = refl

made_same : {X : Type 0} (lines : Lines Plain) (wanted : List (List ℕ)) (make : List Attribute → Read X)
    → Same (λ v. entries_or_none v >>= λ entries. fields_of lines wanted (own_entries entries) >>= make)
made_same {X} lines wanted make v =
    chained (entries_or_none (ordered_out v)) (λ entries. fields_of lines wanted (own_entries entries)) make
    ∙ ap (λ (r : Read (List Attribute)). r >>= make) (own_same lines wanted v)
    ∙ sym (chained (entries_or_none v) (λ entries. fields_of lines wanted (own_entries entries)) make)

abbrev network_with : List ℕ → List Attribute → Network
network_with key attributes = record { key = key; attributes = attributes }

abbrev volume_with : List ℕ → List Attribute → Volume
volume_with key attributes = record { key = key; attributes = attributes }

abbrev file_with : List ℕ → List ℕ → FileItem
file_with key file = record { key = key; file = file }

abbrev service_with : List ℕ → List Attribute → Service
service_with key attributes = record { key = key; attributes = attributes }

network_same : (project key : List ℕ) → Same (network_of project key)
network_same project key v = made_same network_lines [] (λ attributes. Ok (network_with key (with_name project key attributes))) v

volume_same : (project key : List ℕ) → Same (volume_of project key)
volume_same project key v = made_same volume_lines [] (λ attributes. Ok (volume_with key (with_name project key attributes))) v

file_same : (key : List ℕ) → Same (file_of key)
file_same key v = made_same file_lines (codes "file" ∷ []) (λ attributes. Ok (file_with key (unwrap_or (text_at attributes (codes "file")) []))) v

service_same : (key : List ℕ) → Same (service_of key)
service_same key Tree-F.Null = refl
service_same key (Tree-F.Scalar text) = refl
service_same key (Tree-F.Map entries) = ap (λ (r : Read (List Attribute)). r >>= λ attributes. Ok (service_with key attributes)) (attributes_same entries)
service_same key (Tree-F.Seq items) = refl
service_same key Tree-F.Reset = refl
service_same key (Tree-F.Override inner) = refl

length_same : (es : Entries) → length (ordered_entries es) ≡ length es
length_same es = length-by_key entry_key (map ordered_entry es) ∙ length-map es ordered_entry

-- the number of services, and what stands behind it
few_same : {X : Type 0} (es : Entries) (next : Result X TreeRefusal) → (few_services (ordered_entries es) >>= λ few. next) ≡ (few_services es >>= λ few. next)
few_same {X} es next =
    ap (λ (n : ℕ). (if nat_lt 1000 n then Err (TreeRefusal.Project (ProjectRefusal.TooManyServices (counted n))) else Ok (ordered_entries es)) >>= λ few. next) (length_same es)
    ∙ at (nat_lt 1000 (length es))
  where
    at : (b : Bool) → ((if b then Err (TreeRefusal.Project (ProjectRefusal.TooManyServices (counted (length es)))) else Ok (ordered_entries es)) >>= λ few. next)
        ≡ ((if b then Err (TreeRefusal.Project (ProjectRefusal.TooManyServices (counted (length es)))) else Ok es) >>= λ few. next)
    at true = refl
    at false = refl

-- the services behind the other sections
abbrev with_services : List ℕ → Entries → List Network → List Volume → List FileItem → List FileItem → Result Project TreeRefusal
with_services name elements networks volumes secrets configs =
    of_attributes (all_declared service_of elements (codes "services")) >>= λ services.
    Ok (record {
      name = name;
      services = services;
      networks = networks;
      volumes = volumes;
      secrets = secrets;
      configs = configs;
    })

-- what a tree's elements declare
abbrev declared_by : List ℕ → Entries → Result Project TreeRefusal
declared_by name elements =
    of_attributes (all_declared (network_of name) elements (codes "networks")) >>= λ networks.
    of_attributes (all_declared (volume_of name) elements (codes "volumes")) >>= λ volumes.
    of_attributes (all_declared file_of elements (codes "secrets")) >>= λ secrets.
    of_attributes (all_declared file_of elements (codes "configs")) >>= λ configs.
    few_services (section elements (codes "services")) >>= λ few.
    with_services name elements networks volumes secrets configs

module _ (name : List ℕ) (elements : Entries) where
  services_same : (networks : List Network) (volumes : List Volume) (secrets configs : List FileItem)
      → (few_services (section (ordered_entries elements) (codes "services")) >>= λ few. with_services name (ordered_entries elements) networks volumes secrets configs)
      ≡ (few_services (section elements (codes "services")) >>= λ few. with_services name elements networks volumes secrets configs)
  services_same networks volumes secrets configs =
      ap (λ (es : Entries). few_services es >>= λ few. with_services name (ordered_entries elements) networks volumes secrets configs) (sections_same elements (codes "services"))
      ∙ few_same (section elements (codes "services")) (with_services name (ordered_entries elements) networks volumes secrets configs)
      ∙ (λ i. few_services (section elements (codes "services")) >>= λ few.
      of_attributes (declared_same service_of service_same elements (codes "services") i) >>= λ services.
      Ok (record { name = name; services = services; networks = networks; volumes = volumes; secrets = secrets; configs = configs }))

  by_same : declared_by name (ordered_entries elements) ≡ declared_by name elements
  by_same =
      (λ i. of_attributes (declared_same (network_of name) (network_same name) elements (codes "networks") i) >>= λ networks.
      of_attributes (declared_same (volume_of name) (volume_same name) elements (codes "volumes") i) >>= λ volumes.
      of_attributes (declared_same file_of file_same elements (codes "secrets") i) >>= λ secrets.
      of_attributes (declared_same file_of file_same elements (codes "configs") i) >>= λ configs.
      services_same networks volumes secrets configs i)

declarations_same : (name : List ℕ) → Same (declarations name)
declarations_same name v = ap (λ (r : Read Entries). of_attributes r >>= declared_by name) (elements_same v) ∙ at (elements_in v)
  where
    at : (r : Read Entries) → (of_attributes (r >>= λ elements. Ok (ordered_entries elements)) >>= declared_by name) ≡ (of_attributes r >>= declared_by name)
    at (Ok elements) = by_same name elements
    at (Err refusal) = refl

-- a tree that is put in order means the same
pub ordered_means : (name : List ℕ) (tree : Tree) → project_of name (ordered tree) ≡ project_of name tree
ordered_means name tree = ap (λ (r : Result Project TreeRefusal). r >>= completed) (of_tree (declarations name) (declarations_same name) tree)

pub order_does_not_matter : OrderDoesNotMatter
order_does_not_matter name tree other same = sym (ordered_means name tree) ∙ ap (project_of name) same ∙ ordered_means name other
