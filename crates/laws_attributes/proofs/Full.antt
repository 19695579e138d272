-- A wanted name whose form always gives a value has an attribute, of its first entry.
use Rattle.std.proofs.Common.{◌≡◌, ◌∙◌, ℕ, Bool, true, false, cond, List, [], ◌∷◌, ◌++◌, Some, None, Ok, is_some, refl, ap, sym, subst}
use Rattle.std.specs.Prelude.{Option, find}
use Rattle.std.specs.Option.{option_map}
use Rattle.std.specs.Str.{bytes_eq}
use Rattle.tree_base.specs.Entries as entries
use Rattle.tree_base.specs.declared.tree.Tree.{Tree, out-Tree}
use Rattle.attribute_types.specs.Tables.{Lines, line_of}
use Rattle.attribute_types.specs.Values.{value_at}
use Rattle.attribute_types.specs.declared.attribute.Attribute.{Attribute}
use Rattle.attribute_types.specs.declared.attribute.Value.{Value}
use Rattle.attribute_types.specs.declared.form.Plain.{Plain}
use Rattle.attribute_scalars.specs.Walks.{Entries, Read, in_byte_order, is_in, with_wanting}
use Rattle.attribute_values.specs.Fields.{fields_of, named}
use Rattle.attribute_values.specs.Forms.{plain_value}
use Rattle.laws_attributes.proofs.Fields.{field_one, full_value, is_full, one_by, unless_wanted, walked}
use Rattle.laws_attributes.proofs.Gifts.{Gave, gave}
use Rattle.laws_attributes.proofs.Lookups.{own_text, same_text, sorted_value, turned_text}

module _ (one : List ℕ → Tree → Read (Option Value)) (k : List ℕ) (full : (tree : Tree) (found : Option Value) → one k tree ≡ Ok found → is_some found ≡ true) where
  -- the first entry of the name, and what it gave
  abbrev pub First : Entries → List Attribute → Type 0
  First es attributes = (tree : Tree) × (entries.value_at es k ≡ Some tree) × (one k tree ≡ Ok (value_at attributes k)) × (is_some (value_at attributes k) ≡ true)

  pub first_gave : (es : Entries) (attributes : List Attribute) → Gave one es attributes → is_some (entries.value_at es k) ≡ true → First es attributes
  first_gave [] attributes g some = absurd (cc some)
  first_gave (e ∷ es) attributes g some = subst (First (e ∷ es)) (sym g.3) (at (bytes_eq k e.0) refl g.0 g.2 (first_gave es g.1 g.4) some)
    where
      here : (found : Option Value) → bytes_eq k e.0 ≡ true → one e.0 e.1 ≡ Ok found → is_some found ≡ true → First (e ∷ es) (named e.0 found ++ g.1)
      here None same is some = absurd (cc some)
      here (Some v) same is some =
          let text : k ≡ e.0 = same_text k e.0 same in
          let value : value_at (named e.0 (Some v) ++ g.1) k ≡ Some v =
          ap (λ b. option_map (λ (a : Attribute). a.value) (cond b (Some (record { name = e.0; value = v })) (find (λ (a : Attribute). bytes_eq a.name k) g.1)))
          (ap (λ (t : List ℕ). bytes_eq e.0 t) text ∙ own_text e.0) in
          (e.1, ap (λ b. cond b (Some e.1) (entries.value_at es k)) same, ap (λ (t : List ℕ). one t e.1) text ∙ is ∙ (λ i. Ok (sym value i)), ap is_some value)

      other : (found : Option Value) → bytes_eq e.0 k ≡ false → value_at (named e.0 found ++ g.1) k ≡ value_at g.1 k
      other None differs = refl
      other (Some v) differs = ap (λ b. option_map (λ (a : Attribute). a.value) (cond b (Some (record { name = e.0; value = v })) (find (λ (a : Attribute). bytes_eq a.name k) g.1))) differs

      at : (b : Bool) → bytes_eq k e.0 ≡ b → (found : Option Value) → one e.0 e.1 ≡ Ok found → (is_some (entries.value_at es k) ≡ true → First es g.1)
          → is_some (cond b (Some e.1) (entries.value_at es k)) ≡ true → First (e ∷ es) (named e.0 found ++ g.1)
      at true same found is more some = here found same is (full e.1 found (ap (λ (t : List ℕ). one t e.1) (same_text k e.0 same) ∙ is))
      at false differs found is more some =
          let m = more some in
          let value = other found (turned_text k e.0 differs) in
          (m.0, ap (λ b. cond b (Some e.1) (entries.value_at es k)) differs ∙ m.1, m.2 ∙ (λ i. Ok (sym value i)), ap is_some value ∙ m.3)

-- the attribute of a wanted name of a table
pub fields_there : (lines : Lines Plain) (wanted : List (List ℕ)) (es : Entries) (attributes : List Attribute) → fields_of lines wanted es ≡ Ok attributes
    → (k : List ℕ) (plain : Plain) → line_of lines k ≡ Some plain → is_full plain ≡ true → is_in wanted k ≡ true → is_some (entries.value_at (with_wanting wanted es) k) ≡ true
    → (tree : Tree) × (entries.value_at (with_wanting wanted es) k ≡ Some tree) × (plain_value plain es tree (out-Tree tree) ≡ Ok (value_at attributes k)) × (is_some (value_at attributes k) ≡ true)
fields_there lines wanted es attributes f k plain line is among there =
    let all = with_wanting wanted es in
    let first = first_gave (field_one lines wanted es) k full (in_byte_order all) attributes (gave (field_one lines wanted es) (in_byte_order all) attributes (walked lines wanted es attributes f))
    (ap is_some (sorted_value all k) ∙ there) in
    (first.0, sym (sorted_value all k) ∙ first.1, gives first.0 (value_at attributes k) first.2, first.3)
  where
    gives : (tree : Tree) (found : Option Value) → field_one lines wanted es k tree ≡ Ok found → plain_value plain es tree (out-Tree tree) ≡ Ok found
    gives tree found e = unless_wanted (plain_value plain es tree) (out-Tree tree) found ((λ i. one_by (sym line i) (sym among i) es tree) ∙ e)

    full : (tree : Tree) (found : Option Value) → field_one lines wanted es k tree ≡ Ok found → is_some found ≡ true
    full tree found e = full_value plain is es tree (out-Tree tree) found (gives tree found e)
