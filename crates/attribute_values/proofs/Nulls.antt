-- Trees that are null, and those that aren't.
use Rattle.std.proofs.Common.{◌≡◌, Bool, true, false, refl}
use Rattle.std.specs.Prelude.{Option}
use Rattle.tree_base.specs.declared.Tree.{Tree}
use Rattle.tree_base.specs.declared.Tree.TheOpen.{Tree-F}
use Rattle.attribute_types.specs.declared.attribute.Value.{Value}
use Rattle.attribute_values.specs.Fields.{unless_null}
use Rattle.attribute_scalars.specs.Walks.{Read, is_null}

-- a tree that isn't null is read
pub not_null : (wanted : Bool) (read : Tree-F Tree → Read (Option Value)) (tree : Tree-F Tree) → is_null tree ≡ false → unless_null wanted read tree ≡ read tree
not_null wanted read Tree-F.Null h = absurd (cc h)
not_null wanted read (Tree-F.Scalar text) h = refl
not_null wanted read (Tree-F.Map entries) h = refl
not_null wanted read (Tree-F.Seq items) h = refl
not_null wanted read Tree-F.Reset h = refl
not_null wanted read (Tree-F.Override inner) h = refl

-- what is null is that
pub null_so : (tree : Tree-F Tree) → is_null tree ≡ true → tree ≡ Tree-F.Null
null_so Tree-F.Null h = refl
null_so (Tree-F.Scalar text) h = absurd (cc h)
null_so (Tree-F.Map entries) h = absurd (cc h)
null_so (Tree-F.Seq items) h = absurd (cc h)
null_so Tree-F.Reset h = absurd (cc h)
null_so (Tree-F.Override inner) h = absurd (cc h)
