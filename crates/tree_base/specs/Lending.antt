-- What a list or a map ends as, once a `&mut` to one of its values has ended.
use Rattle.std.specs.Prelude.{◌≡◌, ℕ, List, Option, slice_set, OnSome}
use Rattle.std.specs.Borrow.{Fml, RattleType, MutBor, LendsIf, LendsSo}
use Rattle.tree_base.specs.Entries.{with_entry}
use Rattle.tree_base.specs.contracts.list.List as list
use Rattle.tree_base.specs.contracts.text_map.TextMap as text_map

module _ (T : RattleType) where
  -- the item at a place ends as what was last written there, and without that place the list stays as it was
  abbrev pub LendsItem : MutBor (List T.Denot) → ℕ → Option (MutBor T.Denot) → Fml
  LendsItem items at r = LendsIf (list.the_row T) T items r (slice_set items.now at) items.now

  -- the value under a key ends as what was last written there, and without that key the map stays as it was
  abbrev pub LendsValue : MutBor (List (List ℕ × T.Denot)) → List ℕ → Option (MutBor T.Denot) → Fml
  LendsValue entries key r =
      LendsSo (text_map.the_row T) T entries r (λ after value. OnSome r (after ≡ with_entry entries.now key value)) (λ after. after ≡ entries.now)
