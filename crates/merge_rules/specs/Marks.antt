-- Marks of entries: texts by which those that are one are found.
use Rattle.std.specs.Prelude.{◌≡◌, ℕ, ◌+◌, ◌<◌, ◌≤◌, false, List, ◌++◌, Option, Some, unwrap_or, flat_map, length, slice_get, codes, decimal}
use Rattle.std.specs.Option.{option_map}
use Rattle.tree_base.specs.Entries.{value_at}
use Rattle.tree_base.specs.declared.Tree.{Tree, fold-Tree, out-Tree}
use Rattle.tree_base.specs.declared.Tree.TheOpen.{Tree-F}
use Rattle.merge_tables.specs.declared.rules.EntryKind.{EntryKind}
use Rattle.merge_tables.specs.declared.rules.Joining.{Joining}
use Rattle.merge_tables.specs.declared.rules.Joining.TheVariants.{Unique}
use Rattle.merge_rules.specs.Uniqueness.{are_one, key_in}

-- a text behind its length
abbrev pub counted : List ℕ → List ℕ
counted text = decimal (length text) ++ (codes ":" ++ text)

-- a value under its key in a mark: the key behind its length, and then the value
abbrev pub entry_written : List ℕ × List ℕ → List ℕ
entry_written entry = counted entry.0 ++ entry.1

-- a tree in a mark, where its parts are given by theirs: each kind has signs of its own, and texts stand behind their lengths
abbrev pub written_step : Tree-F (List ℕ) → List ℕ
written_step Tree-F.Null = codes "~"
written_step (Tree-F.Scalar text) = counted text
written_step (Tree-F.Map entries) = codes "{" ++ (flat_map entry_written entries ++ codes "}")
written_step (Tree-F.Seq items) = codes "[" ++ (flat_map (λ item. item) items ++ codes "]")
written_step Tree-F.Reset = codes "-"
written_step (Tree-F.Override inner) = codes "!" ++ inner

-- a tree in a mark, which is a part of a key
abbrev pub written : Tree → List ℕ
written = fold-Tree (List ℕ) written_step

-- the parts of a key, one behind the other
abbrev pub mark_text : List Tree → List ℕ
mark_text key = flat_map written key

-- the mark of an item: the parts of what it is known by. Items that are one have the same mark
abbrev pub mark_of : EntryKind → Tree → Option (List ℕ)
mark_of kind item = option_map mark_text (key_in kind (out-Tree item))

-- a mark is noted with a place that isn't behind this one
abbrev pub IsNoted : List (List ℕ × ℕ) → List ℕ → ℕ → Type 0
IsNoted firsts mark at = unwrap_or (value_at firsts mark) (at + 1) ≤ at

-- the mark of each item is noted with the place of the item, or with one before it
abbrev pub AreNoted : EntryKind → List (List ℕ × ℕ) → List Tree → Type 0
AreNoted kind firsts items =
    (at : ℕ) (item : Tree) (mark : List ℕ) → slice_get items at ≡ Some item → mark_of kind item ≡ Some mark
    → IsNoted firsts mark at

-- the same of items that are joined in this way, where they are unique
abbrev pub AreNotedBy : Option Joining → List (List ℕ × ℕ) → List Tree → Type 0
AreNotedBy (Some (Unique kind)) firsts items = AreNoted kind firsts items
AreNotedBy joining firsts items = Unit {0}

-- what was noted stays noted
abbrev pub StaysNoted : List (List ℕ × ℕ) → List (List ℕ × ℕ) → Type 0
StaysNoted old new = (mark : List ℕ) (at : ℕ) → IsNoted old mark at → IsNoted new mark at

-- the mark of an item, if it has one, is noted with a place that isn't behind this one
abbrev pub ItemIsNoted : EntryKind → List (List ℕ × ℕ) → Tree → ℕ → Type 0
ItemIsNoted kind firsts item at = (mark : List ℕ) → mark_of kind item ≡ Some mark → IsNoted firsts mark at

-- none of the items before a place is one with an item
abbrev pub NoneBefore : EntryKind → Tree → List Tree → ℕ → Type 0
NoneBefore kind item items n =
    (at : ℕ) (other : Tree) → at < n → slice_get items at ≡ Some other → are_one kind item other ≡ false
