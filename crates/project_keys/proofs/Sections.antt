-- What the sections of a tree declare stands in byte order of its keys, and has good attributes.
use Rattle.std.proofs.Common.{◌≡◌, ℕ, Bool, true, false, cond, List, [], ◌∷◌, ◌++◌, Some, None, Ok, Err, map, codes, refl, ap, sym, ◌∙◌, subst, ◌⊎◌, inl, inr}
use Rattle.std.specs.Prelude.{All, Option, Result, find, is_some, not, unwrap_or}
use Rattle.std.specs.List.{IsDistinct}
use Rattle.std.specs.Option.{option_map}
use Rattle.std.specs.Str.{bytes_eq}
use Rattle.std.proofs.lemmas.Cmp.{nat_list_eq_equiv}
use Rattle.std.proofs.lemmas.List.Elements.{All-cons, All-head, All-nil, All-tail}
use Rattle.tree_base.specs.Answers.{◌>>=◌}
use Rattle.tree_base.specs.Entries.{HasDistinctKeys, value_at}
use Rattle.tree_base.specs.ByteOrder.{placed}
use Rattle.tree_base.specs.declared.Step.TheVariants.{Key}
use Rattle.tree_base.specs.declared.tree.Tree.{Tree, out-Tree}
use Rattle.tree_base.specs.declared.tree.Tree.TheOpen.{Tree-F}
use Rattle.tree_base.specs.declared.tree.Tree.TheVariants.{outs-Map, outs-Null, outs-Override, outs-Reset, outs-Scalar, outs-Seq}
use Rattle.attribute_paths.proofs.Trees.{of_every}
use Rattle.merge_rules.specs.Laws.{own_keys}
use Rattle.attribute_types.specs.Answers.{refused, under}
use Rattle.attribute_types.specs.Lookups.{text_at}
use Rattle.attribute_types.specs.Tables.{file_lines, network_lines, volume_lines}
use Rattle.attribute_types.specs.Values as values
use Rattle.attribute_types.specs.declared.attribute.Attribute.{Attribute}
use Rattle.attribute_types.specs.declared.attribute.Value.{Value}
use Rattle.attribute_types.specs.declared.refusal.Fault.{Fault}
use Rattle.attribute_scalars.specs.Walks.{Entries, Read, each_entry, in_byte_order, is_extension, own_entries}
use Rattle.attribute_scalars.proofs.EntryOrder.{own_distinct}
use Rattle.attribute_scalars.proofs.Ordering.{All-by_key, All-placed, Rises, rises-by_key, rises-placed}
use Rattle.std.proofs.lemmas.List.Elements.{All-filter}
use Rattle.attribute_values.specs.Fields.{fields_of}
use Rattle.attribute_rows.specs.Attributes.{attributes_of}
use Rattle.attribute_rows.specs.Rows.{entries_in}
use Rattle.project_meaning.specs.Meaning.{all_declared, declared_as, entries_or_none, entries_under, file_of, is_key, name_for, network_of, section, service_of, volume_of, with_name}
use Rattle.typed_project.specs.declared.network.Network.{Network}
use Rattle.typed_project.specs.declared.project.FileItem.{FileItem}
use Rattle.typed_project.specs.declared.service.Service.{Service}
use Rattle.typed_project.specs.declared.volume.Volume.{Volume}
use Rattle.project_keys.proofs.Apart.{Own, map_parts}
use Rattle.project_keys.proofs.Attributes.{AreGood, AreOwn, HasParts, OwnParts, attributes_good, fields_good, name_of, own_parts}
use Rattle.project_keys.proofs.Rising.{gifts_all, gifts_rise}

abbrev key_in : List ℕ × Tree → List ℕ
key_in entry = entry.0

-- no attribute has a name that is not found
pub others : (name : List ℕ) (attributes : List Attribute) → is_some (values.value_at attributes name) ≡ false → All (λ attribute. bytes_eq name attribute.name ≡ false) attributes
others name [] e = All-nil (λ attribute. bytes_eq name attribute.name ≡ false)
others name (attribute ∷ attributes) e = at (others name attributes) (bytes_eq attribute.name name) refl e
  where
    at : (is_some (values.value_at attributes name) ≡ false → All (λ attribute. bytes_eq name attribute.name ≡ false) attributes)
        → (b : Bool) → bytes_eq attribute.name name ≡ b
        → is_some (option_map (λ (a : Attribute). a.value) (cond b (Some attribute) (find (λ (a : Attribute). bytes_eq a.name name) attributes))) ≡ false
        → All (λ attribute. bytes_eq name attribute.name ≡ false) (attribute ∷ attributes)
    at rest true f g = absurd (cc g)
    at rest false f g = All-cons (λ attribute. bytes_eq name attribute.name ≡ false) attribute attributes (nat_list_eq_equiv.symm name attribute.name ∙ f) (rest g)

-- one attribute more, of a name that none has, at its place
pub placed_good : (attribute : Attribute) (attributes : List Attribute) → All (λ other. bytes_eq attribute.name other.name ≡ false) attributes → HasParts attribute → AreGood attributes
    → AreGood (placed {X = Attribute} (λ attribute. attribute.name) attribute attributes)
placed_good attribute attributes apart parts good = record {
  rise = rises-placed name_of attribute attributes apart good.rise;
  parts = All-placed name_of HasParts attribute attributes parts good.parts;
}

-- attributes with a name
named_good : (project key : List ℕ) (attributes : List Attribute) → AreGood attributes → AreGood (with_name project key attributes)
named_good project key attributes good = at (is_some (values.value_at attributes (codes "name"))) refl
  where
    name : Attribute
    name = record { name = codes "name"; value = Value.Text (name_for project key attributes) }

    at : (b : Bool) → is_some (values.value_at attributes (codes "name")) ≡ b → AreGood (cond b attributes (placed {X = Attribute} (λ attribute. attribute.name) name attributes))
    at true e = good
    at false e = placed_good name attributes (others (codes "name") attributes e) tt good

-- entries of a tree, none of null
own_in : (tree : Tree-F Tree) → OwnParts tree → (entries : Entries) → entries_in tree ≡ Ok entries → AreOwn entries
own_in (Tree-F.Map es) own entries e = let same : es ≡ entries = cc e in subst AreOwn same own
own_in Tree-F.Null own entries e = absurd (cc e)
own_in (Tree-F.Scalar text) own entries e = absurd (cc e)
own_in (Tree-F.Seq items) own entries e = absurd (cc e)
own_in Tree-F.Reset own entries e = absurd (cc e)
own_in (Tree-F.Override inner) own entries e = absurd (cc e)

pub none_own : AreOwn []
unfolding IsDistinct
none_own = (tt, All-nil Own)

pub own_or_none : (tree : Tree-F Tree) → OwnParts tree → (entries : Entries) → entries_or_none tree ≡ Ok entries → AreOwn entries
own_or_none Tree-F.Null own entries e = let same : [] ≡ entries = cc e in subst AreOwn same none_own
own_or_none (Tree-F.Scalar text) own entries e = absurd (cc e)
own_or_none (Tree-F.Map es) own entries e = own_in (Tree-F.Map es) own entries e
own_or_none (Tree-F.Seq items) own entries e = absurd (cc e)
own_or_none Tree-F.Reset own entries e = absurd (cc e)
own_or_none (Tree-F.Override inner) own entries e = absurd (cc e)

own_kept : (entries : Entries) → AreOwn entries → AreOwn (own_entries entries)
own_kept entries own = (own_distinct entries own.0, All-filter (λ entry. not (is_extension entry.0)) Own entries own.1)

-- what is read of entries, once there are such
module _ {X Y : Type 0} (P : Y → Type 0) (read : Entries → Read X) (of : X → Y) (good : (entries : Entries) → AreOwn entries → (x : X) → read entries ≡ Ok x → P (of x)) where
  next : (entries : Entries) → AreOwn entries → (r : Read X) → read entries ≡ r → (y : Y) → (r >>= λ x. Ok (of x)) ≡ Ok y → P y
  next entries own (Ok x) a y e = let same : of x ≡ y = cc e in subst P same (good entries own x a)
  next entries own (Err refusal) a y e = absurd (cc e)

  pub once : (found : Read Entries) → ((entries : Entries) → found ≡ Ok entries → AreOwn entries) → (y : Y) → (found >>= λ entries. read entries >>= λ x. Ok (of x)) ≡ Ok y → P y
  once (Ok entries) own y e = next entries (own entries refl) (read entries) refl y e
  once (Err refusal) own y e = absurd (cc e)

  pub once_read : (found : Read Entries) → ((entries : Entries) → found ≡ Ok entries → AreOwn entries) → (y : Y) → ((found >>= read) >>= λ x. Ok (of x)) ≡ Ok y → P y
  once_read (Ok entries) own y e = next entries (own entries refl) (read entries) refl y e
  once_read (Err refusal) own y e = absurd (cc e)

abbrev pub HasGood : Service → Type 0
HasGood service = AreGood service.attributes

abbrev pub NetworkGood : Network → Type 0
NetworkGood network = AreGood network.attributes

abbrev pub VolumeGood : Volume → Type 0
VolumeGood volume = AreGood volume.attributes

pub service_good : (key : List ℕ) (tree : Tree) → own_keys tree ≡ true → (service : Service) → service_of key (out-Tree tree) ≡ Ok service → HasGood service
service_good key tree own service e =
    once_read HasGood attributes_of (λ (attributes : List Attribute). record { key = key; attributes = attributes }) attributes_good (entries_in (out-Tree tree)) (own_in (out-Tree tree) (own_parts tree own)) service e

pub network_good : (project key : List ℕ) (tree : Tree) → own_keys tree ≡ true → (network : Network) → network_of project key (out-Tree tree) ≡ Ok network → NetworkGood network
network_good project key tree own network e =
    once NetworkGood (λ entries. fields_of network_lines [] (own_entries entries)) (λ (attributes : List Attribute). record { key = key; attributes = with_name project key attributes })
    (λ entries own attributes f. named_good project key attributes (fields_good network_lines [] (own_entries entries) (own_kept entries own) attributes f))
    (entries_or_none (out-Tree tree)) (own_or_none (out-Tree tree) (own_parts tree own)) network e

pub volume_good : (project key : List ℕ) (tree : Tree) → own_keys tree ≡ true → (volume : Volume) → volume_of project key (out-Tree tree) ≡ Ok volume → VolumeGood volume
volume_good project key tree own volume e =
    once VolumeGood (λ entries. fields_of volume_lines [] (own_entries entries)) (λ (attributes : List Attribute). record { key = key; attributes = with_name project key attributes })
    (λ entries own attributes f. named_good project key attributes (fields_good volume_lines [] (own_entries entries) (own_kept entries own) attributes f))
    (entries_or_none (out-Tree tree)) (own_or_none (out-Tree tree) (own_parts tree own)) volume e

under_tree : (tree : Tree) → own_keys tree ≡ true → AreOwn (entries_under (Some tree))
under_tree =
    of_every (λ tree. own_keys tree ≡ true → AreOwn (entries_under (Some tree)))
    (λ own. rw outs-Null none_own)
    (λ text own. rw (outs-Scalar text) none_own)
    (λ entries all own. rw (outs-Map entries) (map_parts entries own))
    (λ items all own. rw (outs-Seq items) none_own)
    (λ own. rw outs-Reset none_own)
    (λ inner is own. rw (outs-Override inner) none_own)

-- what stands under a name, which may be nothing
under_own : (found : Option Tree) → ((tree : Tree) → found ≡ Some tree → own_keys tree ≡ true) → AreOwn (entries_under found)
under_own None own = none_own
under_own (Some tree) own = under_tree tree (own tree refl)

value_own : (entries : Entries) (name : List ℕ) → All Own entries → (tree : Tree) → value_at entries name ≡ Some tree → own_keys tree ≡ true
value_own [] name all tree e = absurd (cc e)
value_own (entry ∷ entries) name all tree e = at (value_own entries name (All-tail Own entry entries all) tree) (bytes_eq name entry.0) e
  where
    at : (value_at entries name ≡ Some tree → own_keys tree ≡ true) → (b : Bool) → cond b (Some entry.1) (value_at entries name) ≡ Some tree → own_keys tree ≡ true
    at rest true f = let same : entry.1 ≡ tree = cc f in subst (λ (t : Tree). own_keys t ≡ true) same (All-head Own entry entries all)
    at rest false f = rest f

-- one is declared under each key
module _ {X : Type 0} (key_of : X → List ℕ) (P : X → Type 0) (read : List ℕ → Tree-F Tree → Read X)
    (keyed : (key : List ℕ) (tree : Tree-F Tree) (x : X) → read key tree ≡ Ok x → key_of x ≡ key)
    (good : (key : List ℕ) (tree : Tree) → own_keys tree ≡ true → (x : X) → read key (out-Tree tree) ≡ Ok x → P x) where
  found_one : (key : List ℕ) (tree : Tree) (found : List X) → declared_as read key tree ≡ Ok found → (x : X) × (found ≡ x ∷ []) × (read key (out-Tree tree) ≡ Ok x)
  found_one key tree found e = by (is_key key) e
    where
      inner : (r : Read X) → read key (out-Tree tree) ≡ r → (r >>= λ item. Ok (item ∷ [])) ≡ Ok found → (x : X) × (found ≡ x ∷ []) × (read key (out-Tree tree) ≡ Ok x)
      inner (Ok x) a f = let same : x ∷ [] ≡ found = cc f in (x, sym same, a)
      inner (Err refusal) a f = absurd (cc f)

      by : (b : Bool) → cond b (read key (out-Tree tree) >>= λ item. Ok (item ∷ [])) (refused Fault.BadValue) ≡ Ok found → (x : X) × (found ≡ x ∷ []) × (read key (out-Tree tree) ≡ Ok x)
      by true f = inner (read key (out-Tree tree)) refl f
      by false f = absurd (cc f)

  single : (key : List ℕ) (tree : Tree) (found : List X) → declared_as read key tree ≡ Ok found → (found ≡ []) ⊎ ((x : X) × (found ≡ x ∷ []) × (key_of x ≡ key))
  single key tree found e = let one = found_one key tree found e in inr (one.0, one.1, keyed key (out-Tree tree) one.0 one.2)

  goods : (key : List ℕ) (tree : Tree) (found : List X) → own_keys tree ≡ true → declared_as read key tree ≡ Ok found → All P found
  goods key tree found own e = let one = found_one key tree found e in subst (All P) (sym one.1) (All-cons P one.0 [] (good key tree own one.0 one.2) (All-nil P))

  under_ok : (key : List ℕ) (r : Read (List X)) (xs : List X) → under (Key key) r ≡ Ok xs → r ≡ Ok xs
  under_ok key (Ok ys) xs e = e
  under_ok key (Err refusal) xs e = absurd (cc e)

  -- all that a section declares
  pub declared_good : (elements : Entries) → All Own elements → (name : List ℕ) (xs : List X) → all_declared read elements name ≡ Ok xs → Rises key_of xs × All P xs
  declared_good elements own name xs e = (
    gifts_rise (declared_as read) key_of single (in_byte_order entries) xs given (rises-by_key key_in entries are_own.0),
    gifts_all (declared_as read) Own P goods (in_byte_order entries) xs (All-by_key key_in Own entries are_own.1) given,
  )
    where
      entries : Entries
      entries = section elements name

      are_own : AreOwn entries
      are_own = under_own (value_at elements name) (value_own elements name own)

      given : each_entry (declared_as read) (in_byte_order entries) ≡ Ok xs
      given = under_ok name (each_entry (declared_as read) (in_byte_order entries)) xs e
