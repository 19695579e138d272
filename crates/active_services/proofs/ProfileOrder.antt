-- Profiles that name the same ones enable the same services.
use Rattle.std.proofs.Common.{◌≡◌, ◌==◌, ◌||◌, ℕ, true, List, codes, length, refl}
use Rattle.std.specs.List.{list_any}
use Rattle.std.specs.Option.{option_map_or}
use Rattle.active_services.specs.Laws.{OrderOfProfilesIsFree}
use Rattle.active_services.specs.Profiles.{Profiles, active_in, attribute_at, enables, is_enabled, is_given, names_given}
use Rattle.tree_base.specs.declared.Tree.{Tree, out-Tree}
use Rattle.tree_base.specs.declared.Tree.TheOpen.{Tree-F}

module _ (these those : Profiles) (same : (name : List ℕ) → is_given these name ≡ is_given those name) where
  names_same : (tree : Tree-F Tree) → names_given these tree ≡ names_given those tree
  names_same (Tree-F.Scalar name) = same name
  names_same tree = refl

  enables_same : (tree : Tree-F Tree) → enables these tree ≡ enables those tree
  enables_same (Tree-F.Seq items) = λ i. (length items == 0) || list_any (λ item. names_same (out-Tree item) i) items
  enables_same tree = refl

  enabled_same : (service : Tree) → is_enabled these service ≡ is_enabled those service
  enabled_same service = λ i. same (codes "*") i || option_map_or (λ names. enables_same (out-Tree names) i) (attribute_at (codes "profiles") (out-Tree service)) true

pub order_free : OrderOfProfilesIsFree
order_free these those same tree = λ i. active_in (λ service. enabled_same these those same service i) tree (out-Tree tree)
