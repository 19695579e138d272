-- Marks in a service that extends another one in the same file (Compose Specification, "Merge" and "Extend"). Marks act among
-- files alone: what the base gives would stay, so they are refused.
use Rattle.std.specs.Prelude.{◌≡◌, ℕ, ◌+◌, Bool, true, false, List, [], ◌∷◌, map, Result, Ok, Err, codes, if◌then◌else◌}
use Rattle.tree_base.specs.Answers.{◌>>=◌}
use Rattle.tree_base.specs.declared.Step.TheVariants.{Index, Key}
use Rattle.tree_base.specs.declared.Tree.{Tree, fold-Tree, out-Tree}
use Rattle.tree_base.specs.declared.Tree.TheOpen.{Tree-F}
use Rattle.merge_tables.specs.declared.refusal.MergeRefusal.{MergeRefusal}
use Rattle.merge_tables.specs.declared.refusal.MergeRefusal.TheVariants.{MarkUnderExtends}
use Rattle.merge_tables.specs.Answers.{place, under}
use Rattle.merge_tables.specs.Parts.{entries_in, field}
use Rattle.merge_rules.specs.Laws.{no_mark}
use Rattle.merge_rules.specs.Overlay.{over_files}

-- nothing, or a refusal
abbrev pub Asked : Type 0
Asked = Result (Unit {0}) MergeRefusal

-- the first refusal of values under their keys, in their order
abbrev pub entries_asked : List (List ℕ × Asked) → Asked
entries_asked [] = Ok tt
entries_asked (entry ∷ more) = under (Key entry.0) entry.1 >>= λ ok. entries_asked more

-- the first refusal of items, from a place on
abbrev pub items_asked : ℕ → List Asked → Asked
items_asked at [] = Ok tt
items_asked at (item ∷ more) = under (Index (place at)) item >>= λ ok. items_asked (at + 1) more

-- the first mark of a tree, by those of its parts
abbrev pub unmarked_step : Tree-F Asked → Asked
unmarked_step Tree-F.Null = Ok tt
unmarked_step (Tree-F.Scalar text) = Ok tt
unmarked_step (Tree-F.Map entries) = entries_asked entries
unmarked_step (Tree-F.Seq items) = items_asked 0 items
unmarked_step Tree-F.Reset = Err (MarkUnderExtends [])
unmarked_step (Tree-F.Override inner) = Err (MarkUnderExtends [])

-- the first mark of a tree, in its order
abbrev pub unmarked : Tree → Asked
unmarked = fold-Tree Asked unmarked_step

-- values by their keys, each asked for its first mark
abbrev pub values_unmarked : List (List ℕ × Tree) → Asked
values_unmarked entries = entries_asked (map (λ entry. (entry.0, unmarked entry.1)) entries)

-- a tree, or what a mark `!override` has, by its parts
abbrev pub content : Tree-F Tree → Tree-F Tree
content (Tree-F.Override inner) = out-Tree inner
content parts = parts

-- the entries of a mapping, which may stand under a mark `!override`
abbrev pub entries_of : Tree → List (List ℕ × Tree)
entries_of tree = entries_in (content (out-Tree tree))

-- whether a value names something: null doesn't, nor does one that is taken away
abbrev pub is_given : Tree-F Tree → Bool
is_given Tree-F.Null = false
is_given Tree-F.Reset = false
is_given parts = true

-- whether a service extends another one, by its entries in one file
abbrev pub extends_one : List (List ℕ × Tree) → Bool
extends_one entries = is_given (content (out-Tree (field entries (codes "extends"))))

-- the first mark below a service that extends another one
abbrev pub entries_allowed : List (List ℕ × Tree) → Asked
entries_allowed entries = if extends_one entries then values_unmarked entries else Ok tt

-- the same of the service's tree
abbrev pub service_allowed : Tree → Asked
service_allowed service = entries_allowed (entries_of service)

-- the first of all services, in their order
abbrev pub each_allowed : List (List ℕ × Tree) → Asked
each_allowed services = entries_asked (map (λ entry. (entry.0, service_allowed entry.1)) services)

-- the same of the tree that has them
abbrev pub services_allowed : Tree → Asked
services_allowed services = each_allowed (entries_of services)

-- the first of a file
abbrev pub marks_allowed : Tree → Asked
marks_allowed tree = under (Key (codes "services")) (services_allowed (field (entries_of tree) (codes "services")))

-- a file's tree over what the files before it gave, where no mark stands in a service that extends another one
abbrev pub file_over : Tree → Tree → Result Tree MergeRefusal
file_over base over = marks_allowed over >>= λ ok. over_files base over

-- a file without marks is laid over what the files before it gave
abbrev pub UnmarkedFilesLaid : Type 0
UnmarkedFilesLaid = (base over : Tree) → no_mark over ≡ true → file_over base over ≡ over_files base over
