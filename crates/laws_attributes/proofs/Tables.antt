-- The attributes of networks, volumes, secrets and configs are read again of what is shown of them.
use Rattle.std.proofs.Common.{◌≡◌, ◌∙◌, ℕ, Bool, true, false, cond, not, List, [], ◌∷◌, codes, Some, Ok, is_some, refl, ap, sym, subst}
use Rattle.std.specs.Prelude.{◌&&◌, ◌||◌, find}
use Rattle.std.specs.List.{list_all, list_any}
use Rattle.std.specs.Option.{option_map}
use Rattle.std.specs.Str.{bytes_eq}
use Rattle.std.proofs.lemmas.Bool.{and_parts}
use Rattle.tree_base.specs.Answers.{◌>>=◌}
use Rattle.tree_base.specs.declared.tree.Tree.{Tree, out-Tree}
use Rattle.attribute_types.specs.Tables.{Lines, file_lines, line_of, network_lines, volume_lines}
use Rattle.attribute_types.specs.Values.{value_at}
use Rattle.attribute_types.specs.declared.attribute.Attribute.{Attribute}
use Rattle.attribute_types.specs.declared.attribute.Value.{Value}
use Rattle.attribute_types.specs.declared.form.Plain.{Plain}
use Rattle.attribute_scalars.specs.Scalars.{bool_of, written}
use Rattle.attribute_scalars.specs.Walks.{Entries, is_in, is_null, own_entries}
use Rattle.attribute_values.specs.Fields.{fields_of}
use Rattle.attribute_values.specs.Forms.{external_among, if_right, is_of_own, plain_value}
use Rattle.attribute_paths.proofs.Trees.{OfAll}
use Rattle.laws_attributes.proofs.Order.{all_weaker}
use Rattle.laws_attributes.proofs.Lookups.{Apart}
use Rattle.laws_attributes.proofs.Fields.{Came, Reads, fields_back, fields_came, fields_full, fields_in_order}
use Rattle.laws_attributes.proofs.Gifts.{name_of, shown_by}
use Rattle.laws_attributes.proofs.OrdinaryForms.{is_ordinary, ordinary_back}
use Rattle.laws_attributes.proofs.PlainForms.{bound_given, scalar_there, written_scalar}
use Rattle.laws_attributes.proofs.Shown.{plain_tree, whole}
use Rattle.laws_attributes.proofs.Wanting.{IsOwn, own_stay, wanted_there}

-- the forms of a table
module _ {F : Type 0} (test : F → Bool) where
  -- what holds of each line's form holds of what stands under a name
  pub line_holds : (lines : Lines F) → list_all (λ line. test line.1) lines ≡ true → (name : List ℕ) (form : F) → line_of lines name ≡ Some form → test form ≡ true
  line_holds [] h name form e = absurd (cc e)
  line_holds (l ∷ ls) h name form e =
      let both = and_parts (test l.1) (list_all (λ line. test line.1) ls) h in at (bytes_eq l.0 name) both.0 (line_holds ls both.1 name form) e
    where
      at : (b : Bool) → test l.1 ≡ true → (line_of ls name ≡ Some form → test form ≡ true)
          → option_map (λ line. line.1) (cond b (Some l) (find (λ (line : List ℕ × F). bytes_eq line.0 name) ls)) ≡ Some form → test form ≡ true
      at true p more f = let same : l.1 ≡ form = cc f in subst (λ g. test g ≡ true) same p
      at false p more f = more f

-- nothing else is said of what is external
pub external_given : (es : Entries) (given : Bool) (v : Value) → external_among es given ≡ Ok (Some v) → (list_any is_of_own es ≡ false) × (Value.Bool true ≡ v)
external_given es true v e = at (list_any is_of_own es) e
  where
    at : (b : Bool) → if_right (not b) (Some (Value.Bool true)) ≡ Ok (Some v) → (b ≡ false) × (Value.Bool true ≡ v)
    at true f = absurd (cc f)
    at false f = (refl, cc f)
external_given es false v e = absurd (cc e)

pub none_any : {X : Type 0} (test : X → Bool) (xs : List X) → list_any test xs ≡ false → OfAll (λ x. test x ≡ false) xs
none_any test [] h = tt
none_any test (x ∷ xs) h = at (test x) refl (none_any test xs) h
  where
    at : (b : Bool) → test x ≡ b → (list_any test xs ≡ false → OfAll (λ y. test y ≡ false) xs) → (b || list_any test xs) ≡ false → OfAll (λ y. test y ≡ false) (x ∷ xs)
    at true e more f = absurd (cc f)
    at false e more f = (e, more f)

-- a name that an external one may have, by an entry that isn't null
pub may_have : (key : List ℕ) (tree : Tree) → is_of_own (key, tree) ≡ false → is_null (out-Tree tree) ≡ false → is_in (codes "external" ∷ codes "name" ∷ []) key ≡ true
may_have key tree h there = at (is_in (codes "external" ∷ codes "name" ∷ []) key) (ap (λ n. not (is_in (codes "external" ∷ codes "name" ∷ []) key) && not n) (sym there) ∙ h)
  where
    at : (b : Bool) → (not b && true) ≡ false → b ≡ true
    at true f = refl
    at false f = absurd (cc f)

pub none_own : (attributes : List Attribute) → OfAll (λ a. is_in (codes "external" ∷ codes "name" ∷ []) (name_of a) ≡ true) attributes → list_any is_of_own (shown_by whole attributes) ≡ false
none_own [] h = refl
none_own (a ∷ others) h =
    (λ i. (not (h.0 i) && not (is_null (out-Tree (whole a)))) || list_any is_of_own (shown_by whole others)) ∙ none_own others h.1

-- the forms of networks, volumes and files
abbrev pub is_simple : Plain → Bool
is_simple Plain.External = true
is_simple plain = is_ordinary plain

module _ (lines : Lines Plain) (wanted : List (List ℕ)) (simple : list_all (λ line. is_simple line.1) lines ≡ true) (es : Entries) (attributes : List Attribute) (e : fields_of lines wanted es ≡ Ok attributes) where
  abbrev shown : Entries
  shown = shown_by whole attributes

  external_back : list_any is_of_own es ≡ false → external_among shown true ≡ Ok (Some (Value.Bool true))
  external_back alone =
      let each = fields_came lines wanted es attributes e (λ entry. is_of_own entry ≡ false) (none_any is_of_own es alone) in
      let names = all_weaker (Came lines wanted es (λ entry. is_of_own entry ≡ false)) (λ a. is_in (codes "external" ∷ codes "name" ∷ []) (name_of a) ≡ true)
      (λ a c. may_have a.name c.2 c.3 c.4) attributes each in
      ap (λ b. if_right (not b) (Some (Value.Bool true))) (none_own attributes names)

  read_again : (a : Attribute) (plain : Plain) → line_of lines a.name ≡ Some plain → is_simple plain ≡ true → (tree : Tree)
      → plain_value plain es tree (out-Tree tree) ≡ Ok (Some a.value) → Reads lines wanted shown whole a
  read_again a Plain.External line s tree f =
      let b = bound_given (written bool_of (out-Tree tree)) (external_among es) (Some a.value) f in
      let x = external_given es b.0 a.value b.2 in (
        Plain.External,
        line,
        subst (λ v. is_null (out-Tree (plain_tree v)) ≡ false) x.1 (scalar_there (codes "true")),
        subst (λ v. (written bool_of (out-Tree (plain_tree v)) >>= external_among shown) ≡ Ok (Some v)) x.1
            (ap (λ r. r >>= external_among shown) (written_scalar bool_of (codes "true") true refl) ∙ external_back x.0),
      )
  read_again a plain line s tree f = by (is_ordinary plain) refl
    where
      by : (b : Bool) → is_ordinary plain ≡ b → Reads lines wanted shown whole a
      by true o = let back = ordinary_back plain o es tree a.value f in (plain, line, back.0, back.1 shown)
      by false o = absurd (let bad : true ≡ false = sym s ∙ o in cc bad)

  unit_all : (l : Entries) → OfAll (λ (entry : List ℕ × Tree). Unit {0}) l
  unit_all [] = tt
  unit_all (x ∷ xs) = (tt, unit_all xs)

  all_read : OfAll (Reads lines wanted shown whole) attributes
  all_read =
      all_weaker (Came lines wanted es (λ entry. Unit {0})) (Reads lines wanted shown whole)
      (λ a c. read_again a c.0 c.1 (line_holds is_simple lines simple a.name c.0 c.1) c.2 c.5) attributes
      (fields_came lines wanted es attributes e (λ entry. Unit {0}) (unit_all es))

  -- attributes that a table of simple forms reads are read again
  pub table_back : OfAll (λ name. is_some (value_at attributes name) ≡ true) wanted → fields_of lines wanted (shown_by whole attributes) ≡ Ok attributes
  table_back there = fields_back lines wanted whole attributes (fields_in_order lines wanted es attributes e) there all_read

  own_shown : (l : List Attribute) → OfAll (Came lines wanted es IsOwn) l → OfAll IsOwn (shown_by whole l)
  own_shown [] h = tt
  own_shown (a ∷ others) h = (h.0.3, own_shown others h.1)

  -- their names extend nothing
  pub table_own : OfAll IsOwn es → own_entries (shown_by whole attributes) ≡ shown_by whole attributes
  table_own h = own_stay (shown_by whole attributes) (own_shown attributes (fields_came lines wanted es attributes e IsOwn h))

pub networks_simple : list_all (λ line. is_simple line.1) network_lines ≡ true
unfolding network_lines
networks_simple = refl

pub volumes_simple : list_all (λ line. is_simple line.1) volume_lines ≡ true
unfolding volume_lines
volumes_simple = refl

files_simple : list_all (λ line. is_simple line.1) file_lines ≡ true
unfolding file_lines
files_simple = refl

pub network_back : (es : Entries) (attributes : List Attribute) → OfAll IsOwn es → fields_of network_lines [] es ≡ Ok attributes
    → fields_of network_lines [] (own_entries (shown_by whole attributes)) ≡ Ok attributes
network_back es attributes own e =
    ap (fields_of network_lines []) (table_own network_lines [] networks_simple es attributes e own) ∙ table_back network_lines [] networks_simple es attributes e tt

pub volume_back : (es : Entries) (attributes : List Attribute) → OfAll IsOwn es → fields_of volume_lines [] es ≡ Ok attributes
    → fields_of volume_lines [] (own_entries (shown_by whole attributes)) ≡ Ok attributes
volume_back es attributes own e =
    ap (fields_of volume_lines []) (table_own volume_lines [] volumes_simple es attributes e own) ∙ table_back volume_lines [] volumes_simple es attributes e tt

file_line : line_of file_lines (codes "file") ≡ Some Plain.Text
unfolding file_lines
file_line = refl

pub file_back : (es : Entries) (attributes : List Attribute) → Apart es → OfAll IsOwn es → fields_of file_lines (codes "file" ∷ []) es ≡ Ok attributes
    → fields_of file_lines (codes "file" ∷ []) (own_entries (shown_by whole attributes)) ≡ Ok attributes
file_back es attributes apart own e =
    let names = codes "file" ∷ [] in
    let there = fields_full file_lines names es attributes e apart (codes "file") Plain.Text file_line refl refl (wanted_there names es).0 in
    ap (fields_of file_lines names) (table_own file_lines names files_simple es attributes e own) ∙ table_back file_lines names files_simple es attributes e (there, tt)
