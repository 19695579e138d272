-- What a tree without marks, with no key twice, declares: items whose attributes are read again
-- from what is shown of them.
use Rattle.std.proofs.Common.{◌≡◌, ◌∙◌, ◌≤◌, ℕ, Bool, true, false, cond, List, [], ◌∷◌, Some, None, Ok, Err, length, map, codes, refl, sym, ap, subst, arith}
use Rattle.std.specs.Prelude.{Option, Result, if◌then◌else◌, is_some, unwrap_or}
use Rattle.std.specs.List.{list_all}
use Rattle.std.specs.Map.{keys_of, values_of}
use Rattle.std.specs.Str.{bytes_eq}
use Rattle.std.proofs.lemmas.Bool.{and_parts}
use Rattle.tree_base.specs.Answers.{◌>>=◌}
use Rattle.tree_base.specs.Entries as entries
use Rattle.tree_base.specs.declared.Step.{Step}
use Rattle.tree_base.specs.declared.Step.TheVariants.{Key}
use Rattle.tree_base.specs.declared.tree.Tree.{Tree, out-Tree}
use Rattle.tree_base.specs.declared.tree.Tree.TheFolds.{fold_out-Tree, map-Tree}
use Rattle.tree_base.specs.declared.tree.Tree.TheOpen.{Tree-F}
use Rattle.tree_base.specs.declared.tree.Tree.TheVariants.{Map, outs-Map}
use Rattle.merge_rules.specs.Laws.{are_apart, no_mark, no_mark_step, own_keys, own_keys_step}
use Rattle.attribute_types.specs.Answers.{refused, under}
use Rattle.attribute_types.specs.Tables.{file_lines, network_lines, volume_lines}
use Rattle.attribute_types.specs.Lookups.{text_at}
use Rattle.attribute_types.specs.Values.{value_at}
use Rattle.attribute_types.specs.declared.attribute.Attribute.{Attribute}
use Rattle.attribute_types.specs.declared.refusal.Fault.{Fault}
use Rattle.attribute_scalars.specs.Walks.{Entries, Read, each_entry, in_byte_order, own_entries}
use Rattle.attribute_values.specs.Fields.{fields_of}
use Rattle.attribute_rows.specs.Attributes.{attributes_of}
use Rattle.typed_project.specs.declared.network.Network.{Network}
use Rattle.typed_project.specs.declared.project.FileItem.{FileItem}
use Rattle.typed_project.specs.declared.service.Service.{Service}
use Rattle.typed_project.specs.declared.volume.Volume.{Volume}
use Rattle.project_meaning.specs.Meaning.{all_declared, declared_as, element_form, elements_in, entries_or_none, entries_under, file_of, is_key, network_of, section, service_of, volume_of, with_name}
use Rattle.laws_attributes.specs.ReadBack.{entries_shown}
use Rattle.laws_attributes.proofs.FilesNamed.{HavePlacesUnder, all_have_places}
use Rattle.laws_attributes.proofs.ReadBackLaws.{networks_law, services_law, volumes_law}
use Rattle.laws_pages.proofs.Each.{Each, each-by_key}
use Rattle.laws_pages.proofs.GivenEntries.{OneOf, each_given, entry_key, given_within, one_weaker, rises_given}
use Rattle.laws_pages.proofs.NamedBack.{is_named_after, named_back, network_name, volume_name}
use Rattle.laws_pages.proofs.Rising.{Rises, length-by_key, rises-by_key}
use Rattle.laws_pages.proofs.ServicesBack.{Back, reads_back}
use Rattle.laws_pages.proofs.Settled.{name_of}
use Rattle.laws_pages.proofs.ShownAttributes.{attributes_own, attributes_rise, fields_own, fields_rise}

-- a tree without marks, with no key twice
abbrev pub IsGood : Tree → Type 0
IsGood tree = (no_mark tree ≡ true) × (own_keys tree ≡ true)

-- and so by what is seen of it
abbrev pub GoodOut : Tree-F Tree → Type 0
GoodOut v = (no_mark_step (map-Tree Tree Bool no_mark v) ≡ true) × (own_keys_step (map-Tree Tree Bool own_keys v) ≡ true)

pub good_out : (tree : Tree) → IsGood tree → GoodOut (out-Tree tree)
good_out tree good = (sym (fold_out-Tree Bool no_mark_step tree) ∙ good.0, sym (fold_out-Tree Bool own_keys_step tree) ∙ good.1)

-- a mapping whose entries are seen so is one itself
pub good_map : (es : Entries) → GoodOut (Tree-F.Map es) → IsGood (Map es)
good_map es good = (
  fold_out-Tree Bool no_mark_step (Map es) ∙ ap (λ v. no_mark_step (map-Tree Tree Bool no_mark v)) (outs-Map es) ∙ good.0,
  fold_out-Tree Bool own_keys_step (Map es) ∙ ap (λ v. own_keys_step (map-Tree Tree Bool own_keys v)) (outs-Map es) ∙ good.1,
)

abbrev pub AreGood : Entries → Type 0
AreGood es = Each (λ e. IsGood e.1) es

pub good_entries : (es : Entries) → GoodOut (Tree-F.Map es) → AreGood es
good_entries es good = each es good.0 (and_parts (are_apart (keys_of (map (λ (e : List ℕ × Tree). (e.0, own_keys e.1)) es))) _ good.1).1
  where
    each : (os : Entries) → list_all (λ is. is) (values_of (map (λ (e : List ℕ × Tree). (e.0, no_mark e.1)) os)) ≡ true
        → list_all (λ is. is) (values_of (map (λ (e : List ℕ × Tree). (e.0, own_keys e.1)) os)) ≡ true → AreGood os
    each [] m k = tt
    each (e ∷ os) m k =
        let marks = and_parts (no_mark e.1) _ m in let keys = and_parts (own_keys e.1) _ k in ((marks.0, keys.0), each os marks.1 keys.1)

-- what follows a reading that was given
pub record Bound {A B E : Type 0} (r : Result A E) (next : A → Result B E) (b : B) : Type 0 where
  pub first : A
  pub is : r ≡ Ok first
  pub rest : next first ≡ Ok b

pub bound : {A B E : Type 0} (r : Result A E) (next : A → Result B E) (b : B) → (r >>= next) ≡ Ok b → Bound r next b
bound (Ok a) next b h = record { first = a; is = refl; rest = h }
bound (Err refusal) next b h = absurd (cc h)

-- elements of a good tree
pub good_elements : (v : Tree-F Tree) (elements : Entries) → GoodOut v → elements_in v ≡ Ok elements → AreGood elements
good_elements Tree-F.Null elements good h = let same : [] ≡ elements = cc h in subst AreGood same tt
good_elements (Tree-F.Scalar text) elements good h = absurd (cc h)
good_elements (Tree-F.Map es) elements good h =
    let b = bound (each_entry (λ key tree. element_form key (out-Tree tree)) (in_byte_order es)) (λ none. Ok es) elements h in
    let same : es ≡ elements = cc (b.rest) in subst AreGood same (good_entries es good)
good_elements (Tree-F.Seq items) elements good h = absurd (cc h)
good_elements Tree-F.Reset elements good h = absurd (cc h)
good_elements (Tree-F.Override inner) elements good h = absurd (cc h)

good_seen : (tree : Tree) (v : Tree-F Tree) → out-Tree tree ≡ v → GoodOut v → AreGood (entries_under (Some tree))
good_seen tree Tree-F.Null e good = rw e tt
good_seen tree (Tree-F.Scalar text) e good = rw e tt
good_seen tree (Tree-F.Map es) e good = rw e (good_entries es good)
good_seen tree (Tree-F.Seq items) e good = rw e tt
good_seen tree Tree-F.Reset e good = rw e tt
good_seen tree (Tree-F.Override inner) e good = rw e tt

abbrev MaybeGood : Option Tree → Type 0
MaybeGood None = Unit {0}
MaybeGood (Some tree) = IsGood tree

good_value : (es : Entries) (name : List ℕ) → AreGood es → MaybeGood (entries.value_at es name)
good_value [] name good = tt
good_value (e ∷ es) name good = at (bytes_eq name e.0) (good_value es name good.1)
  where
    at : (b : Bool) → MaybeGood (entries.value_at es name) → MaybeGood (cond b (Some e.1) (entries.value_at es name))
    at true rest = good.0
    at false rest = rest

good_under : (o : Option Tree) → MaybeGood o → AreGood (entries_under o)
good_under None good = tt
good_under (Some tree) good = good_seen tree (out-Tree tree) refl (good_out tree good)

-- what a section of good elements declares is good
pub good_section : (elements : Entries) (name : List ℕ) → AreGood elements → AreGood (section elements name)
good_section elements name good = good_under (entries.value_at elements name) (good_value elements name good)

-- items that are declared
module _ {X : Type 0} (key : X → List ℕ) (read : List ℕ → Tree-F Tree → Read X) (P : X → Type 0)
    (item : (name : List ℕ) (v : Tree-F Tree) (x : X) → GoodOut v → is_key name ≡ true → read name v ≡ Ok x → (key x ≡ name) × P x) where
  one_by : (name : List ℕ) (tree : Tree) (found : List X) (b : Bool) → is_key name ≡ b → IsGood tree
      → (if b then (read name (out-Tree tree) >>= λ x. Ok (x ∷ [])) else refused Fault.BadValue) ≡ Ok found → OneOf key P name found
  one_by name tree found true e good h =
      let b = bound (read name (out-Tree tree)) (λ x. Ok (x ∷ [])) found h in
      let same : b.first ∷ [] ≡ found = cc (b.rest) in
      subst (OneOf key P name) same (item name (out-Tree tree) b.first (good_out tree good) e b.is)
  one_by name tree found false e good h = absurd (cc h)

  one : (e : List ℕ × Tree) (found : List X) → IsGood e.1 → declared_as read e.0 e.1 ≡ Ok found → OneOf key P e.0 found
  one e found good h = one_by e.0 e.1 found (is_key e.0) refl good h

  plain_one : (e : List ℕ × Tree) (found : List X) → IsGood e.1 → declared_as read e.0 e.1 ≡ Ok found → OneOf key (λ x. Unit {0}) e.0 found
  plain_one e found good h = one_weaker key P (λ x. Unit {0}) e.0 (λ x same p. tt) found (one e found good h)

  -- what is known of items that a section declares
  pub record Items (es : Entries) (items : List X) : Type 0 where
    pub each : Each P items
    pub rises : Rises key items
    pub few : length items ≤ length es

  under_given : (step : Step) (r : Read (List X)) (items : List X) → under step r ≡ Ok items → r ≡ Ok items
  under_given step (Ok x) items h = h
  under_given step (Err refusal) items h = absurd (cc h)

  pub items_declared : (elements : Entries) (name : List ℕ) (items : List X) → AreGood elements → all_declared read elements name ≡ Ok items → Items (section elements name) items
  items_declared elements name items good h =
      let es : Entries = section elements name in
      let given = under_given (Key name) (each_entry (declared_as read) (in_byte_order es)) items h in
      let all : AreGood (in_byte_order es) = each-by_key entry_key (λ e. IsGood e.1) es (good_section elements name good) in
      let size : length (in_byte_order es) ≡ length es = length-by_key entry_key es in
      let within : length items ≤ length (in_byte_order es) = given_within key (declared_as read) (λ e. IsGood e.1) plain_one (in_byte_order es) items all given in
      record {
        each = each_given key (declared_as read) (λ e. IsGood e.1) P one (in_byte_order es) items all given;
        rises = rises_given key (declared_as read) (λ e. IsGood e.1) plain_one (in_byte_order es) items all (rises-by_key entry_key es) given;
        few = omega arith;
      }

abbrev network_made : List ℕ → List ℕ → List Attribute → Network
network_made project name attributes = record { key = name; attributes = with_name project name attributes }

abbrev volume_made : List ℕ → List ℕ → List Attribute → Volume
volume_made project name attributes = record { key = name; attributes = with_name project name attributes }

abbrev service_made : List ℕ → List Attribute → Service
service_made name attributes = record { key = name; attributes = attributes }

abbrev file_made : List ℕ → List Attribute → FileItem
file_made name attributes = record { key = name; file = unwrap_or (text_at attributes (codes "file")) [] }

-- a service whose attributes are read again if its files have places
pub record ServiceCame (service : Service) : Type 0 where
  pub came_keyed : is_key service.key ≡ true
  pub rises : Rises name_of service.attributes
  pub back_if : HavePlacesUnder service.attributes (codes "secrets") → HavePlacesUnder service.attributes (codes "configs") → Back service.attributes

-- a service whose attributes are read again
pub record ServiceReads (service : Service) : Type 0 where
  pub keyed : is_key service.key ≡ true
  pub back : Back service.attributes

-- a network and a volume, which have a name
pub record NetworkReads (network : Network) : Type 0 where
  pub keyed : is_key network.key ≡ true
  pub named : is_some (value_at network.attributes (codes "name")) ≡ true
  pub back : fields_of network_lines [] (own_entries (entries_shown network.attributes)) ≡ Ok network.attributes

pub record VolumeReads (volume : Volume) : Type 0 where
  pub keyed : is_key volume.key ≡ true
  pub named : is_some (value_at volume.attributes (codes "name")) ≡ true
  pub back : fields_of volume_lines [] (own_entries (entries_shown volume.attributes)) ≡ Ok volume.attributes

abbrev pub FileReads : FileItem → Type 0
FileReads item = is_key item.key ≡ true

service_with : (name : List ℕ) (es : Entries) (attributes : List Attribute) → GoodOut (Tree-F.Map es) → is_key name ≡ true → attributes_of es ≡ Ok attributes → ServiceCame (service_made name attributes)
service_with name es attributes good key h =
    let map_is = good_map es good in
    record {
      came_keyed = key;
      rises = attributes_rise es attributes h;
      back_if = λ secrets configs. reads_back attributes (attributes_rise es attributes h) (attributes_own es attributes h) (services_law es attributes map_is h (all_have_places es attributes map_is h secrets configs));
    }

pub service_item : (name : List ℕ) (v : Tree-F Tree) (service : Service) → GoodOut v → is_key name ≡ true → service_of name v ≡ Ok service → (service.key ≡ name) × ServiceCame service
service_item name Tree-F.Null service good key h = absurd (cc h)
service_item name (Tree-F.Scalar text) service good key h = absurd (cc h)
service_item name (Tree-F.Map es) service good key h =
    let b = bound (attributes_of es) (λ attributes. Ok (service_made name attributes)) service h in
    let same : service_made name b.first ≡ service = cc (b.rest) in
    subst (λ (s : Service). (s.key ≡ name) × ServiceCame s) same (refl, service_with name es b.first good key b.is)
service_item name (Tree-F.Seq items) service good key h = absurd (cc h)
service_item name Tree-F.Reset service good key h = absurd (cc h)
service_item name (Tree-F.Override inner) service good key h = absurd (cc h)

nothing_good : GoodOut (Tree-F.Map [])
nothing_good = (refl, refl)

network_from : (project name : List ℕ) (es : Entries) (network : Network) → GoodOut (Tree-F.Map es) → is_key name ≡ true
    → (fields_of network_lines [] (own_entries es) >>= λ attributes. Ok (network_made project name attributes)) ≡ Ok network → (network.key ≡ name) × NetworkReads network
network_from project name es network good key h =
    let b = bound (fields_of network_lines [] (own_entries es)) (λ attributes. Ok (network_made project name attributes)) network h in
    let map_is = good_map es good in
    let made : Network = network_made project name b.first in
    let same : made ≡ network = cc (b.rest) in
    subst (λ (n : Network). (n.key ≡ name) × NetworkReads n) same (
      refl,
      record {
        keyed = key;
        named = is_named_after project name b.first;
        back = named_back network_lines network_name b.first (fields_rise network_lines (own_entries es) b.first b.is) (fields_own network_lines es b.first b.is)
            (networks_law es b.first map_is b.is) project name;
      },
    )

pub network_item : (project name : List ℕ) (v : Tree-F Tree) (network : Network) → GoodOut v → is_key name ≡ true → network_of project name v ≡ Ok network → (network.key ≡ name) × NetworkReads network
network_item project name Tree-F.Null network good key h = network_from project name [] network nothing_good key h
network_item project name (Tree-F.Scalar text) network good key h = absurd (cc h)
network_item project name (Tree-F.Map es) network good key h = network_from project name es network good key h
network_item project name (Tree-F.Seq items) network good key h = absurd (cc h)
network_item project name Tree-F.Reset network good key h = absurd (cc h)
network_item project name (Tree-F.Override inner) network good key h = absurd (cc h)

volume_from : (project name : List ℕ) (es : Entries) (volume : Volume) → GoodOut (Tree-F.Map es) → is_key name ≡ true
    → (fields_of volume_lines [] (own_entries es) >>= λ attributes. Ok (volume_made project name attributes)) ≡ Ok volume → (volume.key ≡ name) × VolumeReads volume
volume_from project name es volume good key h =
    let b = bound (fields_of volume_lines [] (own_entries es)) (λ attributes. Ok (volume_made project name attributes)) volume h in
    let map_is = good_map es good in
    let made : Volume = volume_made project name b.first in
    let same : made ≡ volume = cc (b.rest) in
    subst (λ (n : Volume). (n.key ≡ name) × VolumeReads n) same (
      refl,
      record {
        keyed = key;
        named = is_named_after project name b.first;
        back = named_back volume_lines volume_name b.first (fields_rise volume_lines (own_entries es) b.first b.is) (fields_own volume_lines es b.first b.is)
            (volumes_law es b.first map_is b.is) project name;
      },
    )

pub volume_item : (project name : List ℕ) (v : Tree-F Tree) (volume : Volume) → GoodOut v → is_key name ≡ true → volume_of project name v ≡ Ok volume → (volume.key ≡ name) × VolumeReads volume
volume_item project name Tree-F.Null volume good key h = volume_from project name [] volume nothing_good key h
volume_item project name (Tree-F.Scalar text) volume good key h = absurd (cc h)
volume_item project name (Tree-F.Map es) volume good key h = volume_from project name es volume good key h
volume_item project name (Tree-F.Seq items) volume good key h = absurd (cc h)
volume_item project name Tree-F.Reset volume good key h = absurd (cc h)
volume_item project name (Tree-F.Override inner) volume good key h = absurd (cc h)

pub file_item : (name : List ℕ) (v : Tree-F Tree) (item : FileItem) → GoodOut v → is_key name ≡ true → file_of name v ≡ Ok item → (item.key ≡ name) × FileReads item
file_item name v item good key h =
    let b = bound (entries_or_none v) _ item h in
    let c = bound (fields_of file_lines (codes "file" ∷ []) (own_entries b.first)) _ item (b.rest) in
    let same : file_made name c.first ≡ item = cc (c.rest) in
    subst (λ (f : FileItem). (f.key ≡ name) × FileReads f) same (refl, key)
