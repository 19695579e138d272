-- What a mapping of attributes gives when it is put in order: the same.
use Rattle.std.proofs.Common.{◌≡◌, ◌∙◌, ℕ, Bool, List, Some, None, Ok, refl, ap}
use Rattle.std.specs.Prelude.{Option}
use Rattle.tree_base.specs.Answers.{◌>>=◌}
use Rattle.tree_base.specs.declared.Tree.{Tree, out-Tree}
use Rattle.tree_base.specs.declared.Tree.TheOpen.{Tree-F}
use Rattle.attribute_types.specs.Tables.{Lines, line_of}
use Rattle.attribute_types.specs.declared.attribute.Value.{Value}
use Rattle.attribute_types.specs.declared.form.Plain.{Plain}
use Rattle.attribute_scalars.specs.Lists.{ordered}
use Rattle.attribute_scalars.specs.Walks.{Entries, Read, is_in, with_wanting}
use Rattle.attribute_values.specs.Fields.{field_by, field_of, fields_of, named, unless_null}
use Rattle.attribute_values.specs.Forms.{plain_value}
use Rattle.laws_pages.proofs.OrderedForms.{plain_same, walk_same}
use Rattle.laws_pages.proofs.OrderedTrees.{AreOrdered, ordered_out, out-ordered, wanting_ordered}

-- null is absence on both sides
pub unless_same : (wanted : Bool) (read other : Tree-F Tree → Read (Option Value)) → ((v : Tree-F Tree) → read (ordered_out v) ≡ other v) → (v : Tree-F Tree) → unless_null wanted read (ordered_out v) ≡ unless_null wanted other v
unless_same wanted read other same Tree-F.Null = refl
unless_same wanted read other same (Tree-F.Scalar text) = same (Tree-F.Scalar text)
unless_same wanted read other same (Tree-F.Map entries) = same (Tree-F.Map entries)
unless_same wanted read other same (Tree-F.Seq items) = same (Tree-F.Seq items)
unless_same wanted read other same Tree-F.Reset = same Tree-F.Reset
unless_same wanted read other same (Tree-F.Override inner) = same (Tree-F.Override inner)

module _ (entries others : Entries) (are : AreOrdered entries others) where
  -- what stands at a plain attribute
  pub plain_seen : (plain : Plain) (wanted : Bool) (tree : Tree)
      → unless_null wanted (plain_value plain entries (ordered tree)) (out-Tree (ordered tree)) ≡ unless_null wanted (plain_value plain others tree) (out-Tree tree)
  plain_seen plain wanted tree =
      ap (unless_null wanted (plain_value plain entries (ordered tree))) (out-ordered tree)
      ∙ unless_same wanted (plain_value plain entries (ordered tree)) (plain_value plain others tree) (λ v. plain_same entries others are tree v plain) (out-Tree tree)

  field_by_same : (plain : Option Plain) (wanted : Bool) (name : List ℕ) (tree : Tree) → field_by plain wanted entries name (ordered tree) ≡ field_by plain wanted others name tree
  field_by_same None wanted name tree = refl
  field_by_same (Some plain) wanted name tree = ap (λ (r : Read (Option Value)). r >>= λ value. Ok (named name value)) (plain_seen plain wanted tree)

-- the attributes of entries in order
pub fields_same : (lines : Lines Plain) (wanted : List (List ℕ)) (entries others : Entries) → AreOrdered entries others → fields_of lines wanted entries ≡ fields_of lines wanted others
fields_same lines wanted entries others are =
    walk_same (field_of lines wanted entries) (field_of lines wanted others)
    (λ name tree. field_by_same entries others are (line_of lines name) (is_in wanted name) name tree)
    (with_wanting wanted entries) (with_wanting wanted others) (wanting_ordered wanted entries others are)
