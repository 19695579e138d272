-- What is known of the elements of a tree that means a project: each is read.
use Rattle.std.proofs.Common.{◌≡◌, ◌∙◌, ℕ, Bool, true, false, cond, not, List, [], ◌∷◌, Some, None, Ok, Err, codes, map, refl, sym, ap, subst}
use Rattle.std.specs.Prelude.{Option, Result, ◌||◌, if◌then◌else◌}
use Rattle.std.specs.List.{list_any}
use Rattle.std.specs.Map.{keys_of}
use Rattle.std.specs.Option.{option_map_or}
use Rattle.std.specs.Str.{bytes_eq}
use Rattle.std.proofs.lemmas.Bool.{and_parts}
use Rattle.std.proofs.lemmas.Slice.Eq.{bytes_eq-Decides}
use Rattle.tree_base.specs.Answers.{◌>>=◌}
use Rattle.tree_base.specs.Entries.{value_at}
use Rattle.tree_base.specs.declared.Step.{Step}
use Rattle.tree_base.specs.declared.Step.TheVariants.{Key}
use Rattle.tree_base.specs.declared.tree.Tree.{Tree, out-Tree}
use Rattle.tree_base.specs.declared.tree.Tree.TheFolds.{fold_out-Tree, map-Tree}
use Rattle.tree_base.specs.declared.tree.Tree.TheOpen.{Tree-F}
use Rattle.attribute_paths.proofs.Trees.{OfAll}
use Rattle.attribute_types.specs.Answers.{refused, under}
use Rattle.attribute_types.specs.declared.attribute.Attribute.{Attribute}
use Rattle.attribute_types.specs.declared.refusal.Fault.{Fault}
use Rattle.attribute_rows.specs.Attributes.{attributes_of}
use Rattle.attribute_scalars.specs.Walks.{Entries, Read, each_entry, in_byte_order}
use Rattle.file_paths.specs.Shapes.{entries_at, entries_in, is_mapping, is_scalar, or_null}
use Rattle.loading_words.specs.declared.refusal.TreeRefusal.{TreeRefusal}
use Rattle.merge_rules.specs.Laws.{are_apart, own_keys, own_keys_step}
use Rattle.project_meaning.specs.Completing.{completed}
use Rattle.project_meaning.specs.Meaning.{all_declared, declarations, declared_as, element_form, elements_in, entries_under, few_services, file_of, is_key, name_form, network_of, of_attributes, project_of, section, section_form, service_of, volume_of}
use Rattle.typed_project.specs.declared.network.Network.{Network}
use Rattle.typed_project.specs.declared.project.FileItem.{FileItem}
use Rattle.typed_project.specs.declared.project.Project.{Project}
use Rattle.typed_project.specs.declared.service.Service.{Service}
use Rattle.typed_project.specs.declared.volume.Volume.{Volume}
use Rattle.laws_attributes.proofs.Entering.{IsRead, sorted_read, weaker}

-- what was given in one step after another
then_given : {A B : Type 0} (r : Result A TreeRefusal) (next : A → Result B TreeRefusal) (b : B) → (r >>= next) ≡ Ok b → (a : A) × (r ≡ Ok a) × (next a ≡ Ok b)
then_given (Ok a) next b e = (a, refl, e)
then_given (Err refusal) next b e = absurd (cc e)

of_given : {X : Type 0} (r : Read X) (x : X) → of_attributes r ≡ Ok x → r ≡ Ok x
of_given (Ok y) x h = let same : y ≡ x = cc h in ap (λ z. Ok z) same
of_given (Err refusal) x h = absurd (cc h)

under_given : {X : Type 0} (step : Step) (r : Read X) (x : X) → under step r ≡ Ok x → r ≡ Ok x
under_given step (Ok y) x h = h
under_given step (Err refusal) x h = absurd (cc h)

-- what is read of an item that a section declares
abbrev pub Declared : {X : Type 0} → (List ℕ → Tree-F Tree → Read X) → List ℕ × Tree → Type 0
Declared {X} read entry = (x : X) × (read entry.0 (out-Tree entry.1) ≡ Ok x)

one_declared : {X : Type 0} (read : List ℕ → Tree-F Tree → Read X) (entry : List ℕ × Tree) → IsRead (declared_as read) entry → Declared read entry
one_declared {X} read entry h = at (is_key entry.0) h.1
  where
    then_one : (r : Read X) → read entry.0 (out-Tree entry.1) ≡ r → (r >>= λ item. Ok (item ∷ [])) ≡ Ok h.0 → Declared read entry
    then_one (Ok x) is e = (x, is)
    then_one (Err refusal) is e = absurd (cc e)

    at : (b : Bool) → (if b then (read entry.0 (out-Tree entry.1) >>= λ item. Ok (item ∷ [])) else refused Fault.BadValue) ≡ Ok h.0 → Declared read entry
    at true e = then_one (read entry.0 (out-Tree entry.1)) refl e
    at false e = absurd (cc e)

all_read : {X : Type 0} (read : List ℕ → Tree-F Tree → Read X) (elements : Entries) (name : List ℕ) (items : List X) → of_attributes (all_declared read elements name) ≡ Ok items
    → OfAll (Declared read) (section elements name)
all_read read elements name items h =
    weaker (IsRead (declared_as read)) (Declared read) (one_declared read) (section elements name)
    (sorted_read (declared_as read) (section elements name) items
    (under_given (Key name) (each_entry (declared_as read) (in_byte_order (section elements name))) items
    (of_given (all_declared read elements name) items h)))

-- an element has its form
abbrev pub HasForm : List ℕ × Tree → Type 0
HasForm entry = (found : List Attribute) × (element_form entry.0 (out-Tree entry.1) ≡ Ok found)

-- a tree that declares something: its elements have their forms, and what they declare is read
pub record Declares (name : List ℕ) (tree : Tree) : Type 0 where
  pub rooted : or_null is_mapping (out-Tree tree) ≡ true
  pub formed : OfAll HasForm (entries_in (out-Tree tree))
  pub networks : OfAll (Declared (network_of name)) (section (entries_in (out-Tree tree)) (codes "networks"))
  pub volumes : OfAll (Declared (volume_of name)) (section (entries_in (out-Tree tree)) (codes "volumes"))
  pub services : OfAll (Declared service_of) (section (entries_in (out-Tree tree)) (codes "services"))

-- the elements of a tree are its entries
elements_are : (s : Tree-F Tree) (elements : Entries) → elements_in s ≡ Ok elements → (elements ≡ entries_in s) × OfAll HasForm (entries_in s) × (or_null is_mapping s ≡ true)
elements_are Tree-F.Null elements e = (let same : [] ≡ elements = cc e in sym same, tt, refl)
elements_are (Tree-F.Scalar text) elements e = absurd (cc e)
elements_are (Tree-F.Map es) elements e = at (each_entry (λ key tree. element_form key (out-Tree tree)) (in_byte_order es)) refl e
  where
    at : (r : Read (List Attribute)) → each_entry (λ key tree. element_form key (out-Tree tree)) (in_byte_order es) ≡ r → (r >>= λ none. Ok es) ≡ Ok elements → (elements ≡ es) × OfAll HasForm es × (or_null is_mapping (Tree-F.Map es) ≡ true)
    at (Ok none) is f = (let same : es ≡ elements = cc f in sym same, sorted_read (λ key tree. element_form key (out-Tree tree)) es none is, refl)
    at (Err refusal) is f = absurd (cc f)
elements_are (Tree-F.Seq items) elements e = absurd (cc e)
elements_are Tree-F.Reset elements e = absurd (cc e)
elements_are (Tree-F.Override inner) elements e = absurd (cc e)

abbrev made : List ℕ → List Service → List Network → List Volume → List FileItem → List FileItem → Project
made name services networks volumes secrets configs = record { name = name; services = services; networks = networks; volumes = volumes; secrets = secrets; configs = configs }

-- what is declared behind each part
abbrev after_few : List ℕ → Entries → List Network → List Volume → List FileItem → List FileItem → Result Project TreeRefusal
after_few name elements networks volumes secrets configs =
    of_attributes (all_declared service_of elements (codes "services")) >>= λ services. Ok (made name services networks volumes secrets configs)

abbrev after_configs : List ℕ → Entries → List Network → List Volume → List FileItem → List FileItem → Result Project TreeRefusal
after_configs name elements networks volumes secrets configs = few_services (section elements (codes "services")) >>= λ few. after_few name elements networks volumes secrets configs

abbrev after_secrets : List ℕ → Entries → List Network → List Volume → List FileItem → Result Project TreeRefusal
after_secrets name elements networks volumes secrets = of_attributes (all_declared file_of elements (codes "configs")) >>= λ configs. after_configs name elements networks volumes secrets configs

abbrev after_volumes : List ℕ → Entries → List Network → List Volume → Result Project TreeRefusal
after_volumes name elements networks volumes = of_attributes (all_declared file_of elements (codes "secrets")) >>= λ secrets. after_secrets name elements networks volumes secrets

abbrev after_networks : List ℕ → Entries → List Network → Result Project TreeRefusal
after_networks name elements networks = of_attributes (all_declared (volume_of name) elements (codes "volumes")) >>= λ volumes. after_volumes name elements networks volumes

abbrev after_elements : List ℕ → Entries → Result Project TreeRefusal
after_elements name elements = of_attributes (all_declared (network_of name) elements (codes "networks")) >>= λ networks. after_networks name elements networks

pub declares : (name : List ℕ) (tree : Tree) (project : Project) → project_of name tree ≡ Ok project → Declares name tree
declares name tree project h =
    let p = then_given (declarations name (out-Tree tree)) completed project h in
    let a = then_given (of_attributes (elements_in (out-Tree tree))) (after_elements name) p.0 p.1 in
    let b = then_given (of_attributes (all_declared (network_of name) a.0 (codes "networks"))) (after_networks name a.0) p.0 a.2 in
    let c = then_given (of_attributes (all_declared (volume_of name) a.0 (codes "volumes"))) (after_volumes name a.0 b.0) p.0 b.2 in
    let d = then_given (of_attributes (all_declared file_of a.0 (codes "secrets"))) (after_secrets name a.0 b.0 c.0) p.0 c.2 in
    let e = then_given (of_attributes (all_declared file_of a.0 (codes "configs"))) (after_configs name a.0 b.0 c.0 d.0) p.0 d.2 in
    let f = then_given (few_services (section a.0 (codes "services"))) (λ few. after_few name a.0 b.0 c.0 d.0 e.0) p.0 e.2 in
    let g = then_given (of_attributes (all_declared service_of a.0 (codes "services"))) (λ services. Ok (made name services b.0 c.0 d.0 e.0)) p.0 f.2 in
    let is = elements_are (out-Tree tree) a.0 (of_given (elements_in (out-Tree tree)) a.0 a.1) in
    record {
      rooted = is.2;
      formed = is.1;
      networks = subst (λ (es : Entries). OfAll (Declared (network_of name)) (section es (codes "networks"))) is.0 (all_read (network_of name) a.0 (codes "networks") b.0 b.1);
      volumes = subst (λ (es : Entries). OfAll (Declared (volume_of name)) (section es (codes "volumes"))) is.0 (all_read (volume_of name) a.0 (codes "volumes") c.0 c.1);
      services = subst (λ (es : Entries). OfAll (Declared service_of) (section es (codes "services"))) is.0 (all_read service_of a.0 (codes "services") g.0 g.1);
    }

-- keys that stand once each, so that each entry is what is found under its key
abbrev pub IsFound : Entries → List ℕ × Tree → Type 0
IsFound es entry = value_at es entry.0 ≡ Some entry.1

differs : (key : List ℕ) (keys : List (List ℕ)) → not (list_any (λ other. bytes_eq other key) keys) ≡ true → OfAll (λ other. bytes_eq other key ≡ false) keys
differs key [] h = tt
differs key (k ∷ keys) h = at (bytes_eq k key) refl h (differs key keys)
  where
    at : (b : Bool) → bytes_eq k key ≡ b → not (b || list_any (λ other. bytes_eq other key) keys) ≡ true → (not (list_any (λ other. bytes_eq other key) keys) ≡ true → OfAll (λ other. bytes_eq other key ≡ false) keys)
        → OfAll (λ other. bytes_eq other key ≡ false) (k ∷ keys)
    at true is f more = absurd (cc f)
    at false is f more = (is, more f)

found_behind : (e : List ℕ × Tree) (es os : Entries) → OfAll (λ other. bytes_eq other e.0 ≡ false) (keys_of os) → OfAll (IsFound es) os → OfAll (IsFound (e ∷ es)) os
found_behind e es [] apart h = tt
found_behind e es (o ∷ os) apart h = (ap (λ (b : Bool). cond b (Some e.1) (value_at es o.0)) apart.0 ∙ h.0, found_behind e es os apart.1 h.1)

pub all_found : (es : Entries) → are_apart (keys_of es) ≡ true → OfAll (IsFound es) es
all_found [] h = tt
all_found (e ∷ es) h =
    let both = and_parts (not (list_any (λ other. bytes_eq other e.0) (keys_of es))) (are_apart (keys_of es)) h in
    (ap (λ (b : Bool). cond b (Some e.1) (value_at es e.0)) ((bytes_eq-Decides e.0 e.0).1 refl), found_behind e es es (differs e.0 (keys_of es) both.0) (all_found es both.1))

-- so are those of a tree with no key twice
owned_keys : (es : Entries) → keys_of (map (λ (e : List ℕ × Tree). (e.0, own_keys e.1)) es) ≡ keys_of es
owned_keys [] = refl
owned_keys (e ∷ es) = ap (λ (keys : List (List ℕ)). e.0 ∷ keys) (owned_keys es)

pub tree_found : (tree : Tree) → own_keys tree ≡ true → OfAll (IsFound (entries_in (out-Tree tree))) (entries_in (out-Tree tree))
tree_found tree h = at (out-Tree tree) (sym (fold_out-Tree Bool own_keys_step tree) ∙ h)
  where
    at : (s : Tree-F Tree) → own_keys_step (map-Tree Tree Bool own_keys s) ≡ true → OfAll (IsFound (entries_in s)) (entries_in s)
    at Tree-F.Null e = tt
    at (Tree-F.Scalar text) e = tt
    at (Tree-F.Map es) e = all_found es (ap are_apart (sym (owned_keys es)) ∙ (and_parts (are_apart (keys_of (map (λ (e : List ℕ × Tree). (e.0, own_keys e.1)) es))) _ e).0)
    at (Tree-F.Seq items) e = tt
    at Tree-F.Reset e = tt
    at (Tree-F.Override inner) e = tt

-- what is found holds what all hold
pub found_holds : (P : List ℕ × Tree → Type 0) (es : Entries) (key : List ℕ) (tree : Tree) → OfAll P es → value_at es key ≡ Some tree → P (key, tree)
found_holds P [] key tree h e = absurd (cc e)
found_holds P (entry ∷ es) key tree h e = at (bytes_eq key entry.0) refl (found_holds P es key tree h.1) e
  where
    at : (b : Bool) → bytes_eq key entry.0 ≡ b → (value_at es key ≡ Some tree → P (key, tree)) → cond b (Some entry.1) (value_at es key) ≡ Some tree → P (key, tree)
    at true is more f =
        let name : entry.0 ≡ key = sym ((bytes_eq-Decides key entry.0).0 is) in
        let same : entry.1 ≡ tree = cc f in
        let whole : entry ≡ (key, tree) = (λ i. (name i, same i)) in subst P whole h.0
    at false is more f = more f

-- a section is what stands there
under_is : (o : Option Tree) → entries_under o ≡ option_map_or (λ tree. entries_in (out-Tree tree)) o []
under_is None = refl
under_is (Some tree) = at (out-Tree tree) refl
  where
    at : (s : Tree-F Tree) → out-Tree tree ≡ s → entries_under (Some tree) ≡ entries_in (out-Tree tree)
    at Tree-F.Null e = rw e refl
    at (Tree-F.Scalar text) e = rw e refl
    at (Tree-F.Map entries) e = rw e refl
    at (Tree-F.Seq items) e = rw e refl
    at Tree-F.Reset e = rw e refl
    at (Tree-F.Override inner) e = rw e refl

pub section_at : (es : Entries) (name : List ℕ) → section es name ≡ entries_at name es
section_at es name = under_is (value_at es name)

-- and where a tree is there, its entries
pub entries_there : (es : Entries) (name : List ℕ) (tree : Tree) → value_at es name ≡ Some tree → entries_at name es ≡ entries_in (out-Tree tree)
entries_there es name tree is = ap (λ (o : Option Tree). option_map_or (λ tree. entries_in (out-Tree tree)) o []) is

-- a service that is read is a mapping
pub service_read : (key : List ℕ) (s : Tree-F Tree) (service : Service) → service_of key s ≡ Ok service → (es : Entries) × (attributes : List Attribute) × (s ≡ Tree-F.Map es) × (attributes_of es ≡ Ok attributes)
service_read key Tree-F.Null service e = absurd (cc e)
service_read key (Tree-F.Scalar text) service e = absurd (cc e)
service_read key (Tree-F.Map es) service e = at (attributes_of es) refl e
  where
    at : (r : Read (List Attribute)) → attributes_of es ≡ r → (r >>= λ attributes. Ok (record { key = key; attributes = attributes })) ≡ Ok service
        → (os : Entries) × (attributes : List Attribute) × (Tree-F.Map es ≡ Tree-F.Map os) × (attributes_of os ≡ Ok attributes)
    at (Ok attributes) is f = (es, attributes, refl, is)
    at (Err refusal) is f = absurd (cc f)
service_read key (Tree-F.Seq items) service e = absurd (cc e)
service_read key Tree-F.Reset service e = absurd (cc e)
service_read key (Tree-F.Override inner) service e = absurd (cc e)

-- what a section's form says of its tree, and what that of a name says
pub section_looks : (s : Tree-F Tree) (found : List Attribute) → section_form s ≡ Ok found → or_null is_mapping s ≡ true
section_looks Tree-F.Null found e = refl
section_looks (Tree-F.Scalar text) found e = absurd (cc e)
section_looks (Tree-F.Map es) found e = refl
section_looks (Tree-F.Seq items) found e = absurd (cc e)
section_looks Tree-F.Reset found e = absurd (cc e)
section_looks (Tree-F.Override inner) found e = absurd (cc e)

pub name_looks : (s : Tree-F Tree) (found : List Attribute) → name_form s ≡ Ok found → or_null is_scalar s ≡ true
name_looks Tree-F.Null found e = refl
name_looks (Tree-F.Scalar text) found e = refl
name_looks (Tree-F.Map es) found e = absurd (cc e)
name_looks (Tree-F.Seq items) found e = absurd (cc e)
name_looks Tree-F.Reset found e = absurd (cc e)
name_looks (Tree-F.Override inner) found e = absurd (cc e)
