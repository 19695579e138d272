-- A file that is laid over nothing, by the table.
use Rattle.std.specs.Prelude.{◌≡◌, ℕ, Bool, true, not, ◌&&◌, if◌then◌else◌, List, [], ◌∷◌, ◌++◌, Ok, Option, Some}
use Rattle.std.specs.List.{flat_map, list_all, list_any}
use Rattle.std.specs.Str.{bytes_eq}
use Rattle.tree_base.specs.declared.Tree.{Tree, out-Tree, Null}
use Rattle.tree_base.specs.declared.Tree.TheOpen.{Tree-F}
use Rattle.attribute_paths.specs.Patterns.{Pattern, any_item, any_key, named}
use Rattle.merge_tables.specs.declared.rules.EntryKind.{EntryKind}
use Rattle.merge_tables.specs.declared.rules.Joining.{Joining}
use Rattle.merge_tables.specs.declared.rules.Joining.TheVariants.{Replaced, Unique}
use Rattle.merge_tables.specs.declared.rules.Standing.{Standing}
use Rattle.merge_tables.specs.declared.rules.Standing.TheVariants.{Item}
use Rattle.merge_tables.specs.Answers.{within}
use Rattle.merge_tables.specs.Attributes.{JoiningRules, overlay_rules}
use Rattle.merge_rules.specs.Laws.{no_mark, own_keys}
use Rattle.merge_rules.specs.Overlay.{Lay, item_joined, laid, over_files}
use Rattle.merge_rules.specs.Uniqueness.{are_one}
use Rattle.merge_tables.specs.Parts.{entries_in, items_in}

-- the trees that a path leads to
abbrev pub led_to : Pattern → Tree → List Tree
led_to [] tree = tree ∷ []
led_to (named name ∷ more) tree = flat_map (λ entry. if bytes_eq name entry.0 then led_to more entry.1 else []) (entries_in (out-Tree tree))
led_to (any_key ∷ more) tree = flat_map (λ entry. led_to more entry.1) (entries_in (out-Tree tree))
led_to (any_item ∷ more) tree = flat_map (led_to more) (items_in (out-Tree tree))

-- whether no two of some items are one
abbrev pub none_is_one : EntryKind → List Tree → Bool
none_is_one kind [] = true
none_is_one kind (item ∷ items) = not (list_any (λ other. are_one kind other item) items) && none_is_one kind items

-- whether no two items of a tree are one, where its entries are unique
abbrev pub has_no_twins : Joining → Tree → Bool
has_no_twins Replaced tree = true
has_no_twins (Unique kind) tree = none_is_one kind (items_in (out-Tree tree))

-- whether no two entries of a list are one, in all lists of a tree whose entries are unique
abbrev pub no_twins : JoiningRules → Tree → Bool
no_twins rules tree = list_all (λ rule. list_all (has_no_twins rule.1) (led_to rule.0 tree)) rules

-- a tree that is laid over nothing as it is, by the rules that hold there
abbrev pub StandsAlone : JoiningRules → Tree → Type 0
StandsAlone rules tree = (standing : Standing) → laid tree standing rules Null ≡ Ok (Some tree)

-- an item that is put behind others as it is, where it is laid over nothing as it is
abbrev pub JoinsNew : Option Joining → List Tree → Tree → Type 0
JoinsNew joining items item = (lay : Lay) → lay Item [] Null ≡ Ok (Some item) → item_joined joining items lay ≡ Ok (items ++ item ∷ [])

-- a tree without marks in which no two entries are one, laid over nothing, is that tree, as far as it is within the limits
abbrev pub FilesStand : Type 0
FilesStand = (tree : Tree) → no_mark tree ≡ true → own_keys tree ≡ true → no_twins overlay_rules tree ≡ true → over_files Null tree ≡ within tree
