-- Attributes of networks and volumes with a name placed among them are read again.
use Rattle.std.proofs.Common.{◌≡◌, ◌∙◌, ℕ, Bool, true, false, not, List, [], ◌∷◌, codes, Some, Ok, refl, ap, sym, subst}
use Rattle.std.specs.List.{list_all, list_any}
use Rattle.tree_base.specs.Answers.{◌>>=◌}
use Rattle.tree_base.specs.ByteOrder.{placed}
use Rattle.tree_base.specs.declared.tree.Tree.{Tree, out-Tree}
use Rattle.attribute_types.specs.Tables.{Lines, line_of, network_lines, volume_lines}
use Rattle.attribute_types.specs.declared.attribute.Attribute.{Attribute}
use Rattle.attribute_types.specs.declared.attribute.Value.{Value}
use Rattle.attribute_types.specs.declared.form.Plain.{Plain}
use Rattle.attribute_scalars.specs.Scalars.{bool_of, written}
use Rattle.attribute_scalars.specs.Walks.{Entries, is_extension, is_in, is_null, own_entries}
use Rattle.attribute_values.specs.Fields.{fields_of}
use Rattle.attribute_values.specs.Forms.{external_among, if_right, is_of_own, plain_value}
use Rattle.attribute_paths.proofs.Trees.{OfAll}
use Rattle.laws_attributes.proofs.Order.{all_placed, all_weaker, placed_in_order}
use Rattle.laws_attributes.proofs.Fields.{Came, Reads, fields_back, fields_came, fields_in_order}
use Rattle.laws_attributes.proofs.Gifts.{name_of, shown_by}
use Rattle.laws_attributes.proofs.OrdinaryForms.{is_ordinary, ordinary_back}
use Rattle.laws_attributes.proofs.PlainForms.{bound_given, scalar_there, text_back, written_scalar}
use Rattle.laws_attributes.proofs.Shown.{plain_tree, whole}
use Rattle.laws_attributes.proofs.Tables.{external_given, is_simple, line_holds, may_have, networks_simple, none_any, none_own, volumes_simple}
use Rattle.laws_attributes.proofs.Wanting.{IsOwn, own_stay}

-- a name, as an attribute
abbrev pub name_attribute : List ℕ → Attribute
name_attribute text = record { name = codes "name"; value = Value.Text text }

module _ (lines : Lines Plain) (simple : list_all (λ line. is_simple line.1) lines ≡ true) (name_line : line_of lines (codes "name") ≡ Some Plain.Text)
    (es : Entries) (attributes : List Attribute) (e : fields_of lines [] es ≡ Ok attributes) (text : List ℕ) where
  abbrev named_list : List Attribute
  named_list = placed name_of (name_attribute text) attributes

  abbrev shown : Entries
  shown = shown_by whole named_list

  abbrev Among : Attribute → Type 0
  Among a = is_in (codes "external" ∷ codes "name" ∷ []) (name_of a) ≡ true

  external_back : list_any is_of_own es ≡ false → external_among shown true ≡ Ok (Some (Value.Bool true))
  external_back alone =
      let each = fields_came lines [] es attributes e (λ entry. is_of_own entry ≡ false) (none_any is_of_own es alone) in
      let names = all_weaker (Came lines [] es (λ entry. is_of_own entry ≡ false)) Among (λ a c. may_have a.name c.2 c.3 c.4) attributes each in
      ap (λ b. if_right (not b) (Some (Value.Bool true))) (none_own named_list (all_placed name_of Among (name_attribute text) attributes refl names))

  read_again : (a : Attribute) (plain : Plain) → line_of lines a.name ≡ Some plain → is_simple plain ≡ true → (tree : Tree)
      → plain_value plain es tree (out-Tree tree) ≡ Ok (Some a.value) → Reads lines [] shown whole a
  read_again a Plain.External line s tree f =
      let b = bound_given (written bool_of (out-Tree tree)) (external_among es) (Some a.value) f in
      let x = external_given es b.0 a.value b.2 in (
        Plain.External,
        line,
        subst (λ v. is_null (out-Tree (plain_tree v)) ≡ false) x.1 (scalar_there (codes "true")),
        subst (λ v. (written bool_of (out-Tree (plain_tree v)) >>= external_among shown) ≡ Ok (Some v)) x.1
            (ap (λ r. r >>= external_among shown) (written_scalar bool_of (codes "true") true refl) ∙ external_back x.0),
      )
  read_again a plain line s tree f = by (is_ordinary plain) refl
    where
      by : (b : Bool) → is_ordinary plain ≡ b → Reads lines [] shown whole a
      by true o = let back = ordinary_back plain o es tree a.value f in (plain, line, back.0, back.1 shown)
      by false o = absurd (let bad : true ≡ false = sym s ∙ o in cc bad)

  unit_all : (l : Entries) → OfAll (λ (entry : List ℕ × Tree). Unit {0}) l
  unit_all [] = tt
  unit_all (x ∷ xs) = (tt, unit_all xs)

  all_read : OfAll (Reads lines [] shown whole) named_list
  all_read =
      all_placed name_of (Reads lines [] shown whole) (name_attribute text) attributes
      (let back = text_back text in (Plain.Text, name_line, back.0, back.1 shown))
      (all_weaker (Came lines [] es (λ entry. Unit {0})) (Reads lines [] shown whole)
      (λ a c. read_again a c.0 c.1 (line_holds is_simple lines simple a.name c.0 c.1) c.2 c.5) attributes
      (fields_came lines [] es attributes e (λ entry. Unit {0}) (unit_all es)))

  own_shown : (l : List Attribute) → OfAll (λ a. is_extension (name_of a) ≡ false) l → OfAll IsOwn (shown_by whole l)
  own_shown [] h = tt
  own_shown (a ∷ others) h = (h.0, own_shown others h.1)

  all_own : OfAll IsOwn es → OfAll IsOwn shown
  all_own h =
      own_shown named_list
      (all_placed name_of (λ a. is_extension (name_of a) ≡ false) (name_attribute text) attributes refl
      (all_weaker (Came lines [] es IsOwn) (λ a. is_extension (name_of a) ≡ false) (λ a c. c.3) attributes (fields_came lines [] es attributes e IsOwn h)))

  -- they are read again
  pub named_back : OfAll IsOwn es → fields_of lines [] (own_entries shown) ≡ Ok named_list
  named_back own =
      ap (fields_of lines []) (own_stay shown (all_own own))
      ∙ fields_back lines [] whole named_list (placed_in_order name_of (name_attribute text) attributes (fields_in_order lines [] es attributes e)) tt all_read

network_name : line_of network_lines (codes "name") ≡ Some Plain.Text
unfolding network_lines
network_name = refl

volume_name : line_of volume_lines (codes "name") ≡ Some Plain.Text
unfolding volume_lines
volume_name = refl

pub network_named : (es : Entries) (attributes : List Attribute) → OfAll IsOwn es → fields_of network_lines [] es ≡ Ok attributes → (text : List ℕ)
    → fields_of network_lines [] (own_entries (shown_by whole (placed name_of (name_attribute text) attributes))) ≡ Ok (placed name_of (name_attribute text) attributes)
network_named es attributes own e text = named_back network_lines networks_simple network_name es attributes e text own

pub volume_named : (es : Entries) (attributes : List Attribute) → OfAll IsOwn es → fields_of volume_lines [] es ≡ Ok attributes → (text : List ℕ)
    → fields_of volume_lines [] (own_entries (shown_by whole (placed name_of (name_attribute text) attributes))) ≡ Ok (placed name_of (name_attribute text) attributes)
volume_named es attributes own e text = named_back volume_lines volumes_simple volume_name es attributes e text own
