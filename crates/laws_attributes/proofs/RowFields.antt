-- Rows: names in order, each with a value or none, as attributes that are read again.
use Rattle.std.proofs.Common.{◌≡◌, ◌∙◌, ℕ, Bool, true, false, cond, not, List, [], ◌∷◌, ◌++◌, Some, None, Ok, is_some, refl, ap, sym, subst}
use Rattle.std.specs.Prelude.{◌&&◌, Option, find}
use Rattle.std.specs.List.{list_all}
use Rattle.std.specs.Option.{option_map}
use Rattle.std.specs.Str.{bytes_eq}
use Rattle.std.proofs.lemmas.Bool.{and_parts}
use Rattle.tree_base.specs.ByteOrder.{is_before}
use Rattle.tree_base.specs.declared.tree.Tree.{Tree, out-Tree}
use Rattle.attribute_types.specs.Tables.{Lines, line_of}
use Rattle.attribute_types.specs.Values.{value_at}
use Rattle.attribute_types.specs.declared.attribute.Attribute.{Attribute}
use Rattle.attribute_types.specs.declared.attribute.Value.{Value}
use Rattle.attribute_types.specs.declared.form.Plain.{Plain}
use Rattle.attribute_scalars.specs.Walks.{Entries, is_null}
use Rattle.attribute_values.specs.Fields.{fields_of, named}
use Rattle.attribute_values.specs.Forms.{plain_value}
use Rattle.attribute_paths.proofs.Trees.{OfAll}
use Rattle.laws_attributes.proofs.Order.{InOrder, all_weaker}
use Rattle.laws_attributes.proofs.Lookups.{same_text}
use Rattle.laws_attributes.proofs.Fields.{Came, Reads, fields_back, fields_came, value_holds}
use Rattle.laws_attributes.proofs.Gifts.{name_of, shown_by}
use Rattle.laws_attributes.proofs.PlainForms.{Back}
use Rattle.laws_attributes.proofs.Shown.{Rows, leaf, leaf_tree, plain_tree, present}

-- one, or else another
abbrev pub or_else : Option Value → Option Value → Option Value
or_else None other = other
or_else (Some v) other = Some v

-- the value of a row by its name
abbrev pub row_at : Rows → List ℕ → Option Value
row_at [] k = None
row_at (row ∷ rows) k = cond (bytes_eq row.0 k) (or_else row.1 (row_at rows k)) (row_at rows k)

pub present_at : (rows : Rows) (k : List ℕ) → value_at (present rows) k ≡ row_at rows k
present_at [] k = refl
present_at (row ∷ rows) k = at row.1 (bytes_eq row.0 k) refl (present_at rows k)
  where
    at : (o : Option Value) (b : Bool) → bytes_eq row.0 k ≡ b → value_at (present rows) k ≡ row_at rows k
        → value_at (named row.0 o ++ present rows) k ≡ cond b (or_else o (row_at rows k)) (row_at rows k)
    at None true is h = h
    at None false is h = h
    at (Some v) true is h = ap (λ b. option_map (λ (a : Attribute). a.value) (cond b (Some (record { name = row.0; value = v })) (find (λ (a : Attribute). bytes_eq a.name k) (present rows)))) is
    at (Some v) false is h =
        ap (λ b. option_map (λ (a : Attribute). a.value) (cond b (Some (record { name = row.0; value = v })) (find (λ (a : Attribute). bytes_eq a.name k) (present rows)))) is ∙ h

-- names none of which is before an earlier one
abbrev pub ascend : Rows → Bool
ascend [] = true
ascend (row ∷ rows) = list_all (λ other. not (is_before other.0 row.0)) rows && ascend rows

none_before : (name : List ℕ) (rows : Rows) → list_all (λ other. not (is_before other.0 name)) rows ≡ true → OfAll (λ a. is_before (name_of a) name ≡ false) (present rows)
none_before name [] h = tt
none_before name (row ∷ rows) h =
    let both = and_parts (not (is_before row.0 name)) (list_all (λ other. not (is_before other.0 name)) rows) h in at row.1 (isnt (is_before row.0 name) both.0) (none_before name rows both.1)
  where
    isnt : (b : Bool) → not b ≡ true → b ≡ false
    isnt true h = absurd (cc h)
    isnt false h = refl

    at : (o : Option Value) → is_before row.0 name ≡ false → OfAll (λ a. is_before (name_of a) name ≡ false) (present rows) → OfAll (λ a. is_before (name_of a) name ≡ false) (named row.0 o ++ present rows)
    at None is rest = rest
    at (Some v) is rest = (is, rest)

pub present_in_order : (rows : Rows) → ascend rows ≡ true → InOrder name_of (present rows)
present_in_order [] h = tt
present_in_order (row ∷ rows) h =
    let both = and_parts (list_all (λ other. not (is_before other.0 row.0)) rows) (ascend rows) h in at row.1 (none_before row.0 rows both.0) (present_in_order rows both.1)
  where
    at : (o : Option Value) → OfAll (λ a. is_before (name_of a) row.0 ≡ false) (present rows) → InOrder name_of (present rows) → InOrder name_of (named row.0 o ++ present rows)
    at None first rest = rest
    at (Some v) first rest = (first, rest)

-- what holds of the value of each row holds of each that is present
abbrev pub OfRow : (Attribute → Type 0) → List ℕ × Option Value → Type 0
OfRow Q row = (v : Value) → row.1 ≡ Some v → Q (record { name = row.0; value = v })

pub present_all : (Q : Attribute → Type 0) (rows : Rows) → OfAll (OfRow Q) rows → OfAll Q (present rows)
present_all Q [] h = tt
present_all Q (row ∷ rows) h = at row.1 h.0 (present_all Q rows h.1)
  where
    at : (o : Option Value) → ((v : Value) → o ≡ Some v → Q (record { name = row.0; value = v })) → OfAll Q (present rows) → OfAll Q (named row.0 o ++ present rows)
    at None q rest = rest
    at (Some v) q rest = (q v refl, rest)

-- the value under a name of a table, read again by its form, and shown as it is
abbrev pub LeafAt : Lines Plain → Attribute → Type 0
LeafAt lines a = (plain : Plain) × (line_of lines a.name ≡ Some plain) × Back plain a.value × (plain_tree a.value ≡ leaf_tree a.value)

leaf_reads : (lines : Lines Plain) (wanted : List (List ℕ)) (es : Entries) (a : Attribute) → LeafAt lines a → Reads lines wanted es leaf a
leaf_reads lines wanted es a l =
    (l.0, l.1, subst (λ t. is_null (out-Tree t) ≡ false) l.3 l.2.0, subst (λ t. plain_value l.0 es t (out-Tree t) ≡ Ok (Some a.value)) l.3 (l.2.1 es))

-- rows of a table are read again of what is shown of them
pub rows_back : (lines : Lines Plain) (wanted : List (List ℕ)) (rows : Rows) → ascend rows ≡ true → OfAll (λ name. is_some (row_at rows name) ≡ true) wanted
    → OfAll (OfRow (LeafAt lines)) rows → fields_of lines wanted (shown_by leaf (present rows)) ≡ Ok (present rows)
rows_back lines wanted rows order there each =
    fields_back lines wanted leaf (present rows) (present_in_order rows order)
    (all_weaker (λ name. is_some (row_at rows name) ≡ true) (λ name. is_some (value_at (present rows) name) ≡ true) (λ name h. ap is_some (present_at rows name) ∙ h) wanted there)
    (all_weaker (LeafAt lines) (Reads lines wanted (shown_by leaf (present rows)) leaf) (leaf_reads lines wanted (shown_by leaf (present rows))) (present rows)
    (present_all (LeafAt lines) rows each))

-- what is made of one that may be there
pub mapped_row : {X : Type 0} (Q : Attribute → Type 0) (name : List ℕ) (make : X → Value) (o : Option X) → ((x : X) → o ≡ Some x → Q (record { name = name; value = make x }))
    → OfRow Q (name, option_map make o)
mapped_row Q name make None h v e = absurd (cc e)
mapped_row Q name make (Some x) h v e =
    let same : make x ≡ v = cc e in subst (λ w. Q (record { name = name; value = w })) same (h x refl)

pub one_row : (Q : Attribute → Type 0) (name : List ℕ) (value : Value) → Q (record { name = name; value = value }) → OfRow Q (name, Some value)
one_row Q name value h v e = let same : value ≡ v = cc e in subst (λ w. Q (record { name = name; value = w })) same h

-- the attribute of a name that a table has read, by what its form makes
module _ (lines : Lines Plain) (wanted : List (List ℕ)) (es : Entries) (attributes : List Attribute) (e : fields_of lines wanted es ≡ Ok attributes) where
  unit_all : (l : Entries) → OfAll (λ (entry : List ℕ × Tree). Unit {0}) l
  unit_all [] = tt
  unit_all (x ∷ xs) = (tt, unit_all xs)

  -- an attribute by its name: what its form gave of some tree
  pub came_at : (k : List ℕ) (plain : Plain) → line_of lines k ≡ Some plain → (v : Value) → value_at attributes k ≡ Some v → (tree : Tree) × (plain_value plain es tree (out-Tree tree) ≡ Ok (Some v))
  came_at k plain line v is =
      let c = value_holds (Came lines wanted es (λ entry. Unit {0})) attributes k v (fields_came lines wanted es attributes e (λ entry. Unit {0}) (unit_all es)) is in
      let both : Some c.0 ≡ Some plain = sym c.1 ∙ line in
      let same : c.0 ≡ plain = cc both in
      (c.2, subst (λ p. plain_value p es c.2 (out-Tree c.2) ≡ Ok (Some v)) same c.5)

  -- the one that is made of what is there
  pub made_at : {X : Type 0} (make : X → Value) (Q : X → Type 0) (k : List ℕ) (plain : Plain) → line_of lines k ≡ Some plain
      → ((tree : Tree) (v : Value) → plain_value plain es tree (out-Tree tree) ≡ Ok (Some v) → (x : X) × (make x ≡ v) × Q x)
      → (o : Option X) × (value_at attributes k ≡ option_map make o) × ((x : X) → o ≡ Some x → Q x)
  made_at {X} make Q k plain line makes = at (value_at attributes k) refl
    where
      at : (o : Option Value) → value_at attributes k ≡ o → (p : Option X) × (o ≡ option_map make p) × ((x : X) → p ≡ Some x → Q x)
      at None is = (None, refl, λ x some. absurd (cc some))
      at (Some v) is =
          let c = came_at k plain line v is in
          let m = makes c.0 v c.1 in
          (Some m.0, (λ i. Some (sym m.1 i)), λ x some. (let same : m.0 ≡ x = cc some in subst Q same m.2))

  -- a name of the table whose every attribute is none has none
  pub none_at : (ls : Lines Plain) → OfAll (λ line. value_at attributes line.0 ≡ None) ls → (name : List ℕ) (plain : Plain) → line_of ls name ≡ Some plain → value_at attributes name ≡ None
  none_at [] h name plain f = absurd (cc f)
  none_at (l ∷ ls) h name plain f = at (bytes_eq l.0 name) refl (none_at ls h.1 name plain) f
    where
      at : (b : Bool) → bytes_eq l.0 name ≡ b → (line_of ls name ≡ Some plain → value_at attributes name ≡ None)
          → option_map (λ line. line.1) (cond b (Some l) (find (λ (line : List ℕ × Plain). bytes_eq line.0 name) ls)) ≡ Some plain → value_at attributes name ≡ None
      at true same more g = ap (value_at attributes) (sym (same_text l.0 name same)) ∙ h.0
      at false differs more g = more g
