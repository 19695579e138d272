-- A tree laid over another one (Compose Specification, "Merge").
use Rattle.std.specs.Prelude.{ℕ, List, [], ◌∷◌, ◌++◌, Option, Some, None, map, unwrap_or, Result, Ok, Err, slice_get, slice_set, codes}
use Rattle.tree_base.specs.Answers.{◌>>=◌}
use Rattle.tree_base.specs.Entries.{value_at, with_entry, without_entry}
use Rattle.tree_base.specs.declared.Tree.{Tree, fold-Tree, out-Tree, Null, Scalar, Map, Seq}
use Rattle.tree_base.specs.declared.Tree.TheOpen.{Tree-F}
use Rattle.tree_base.specs.declared.Step.TheVariants.{Key, Index}
use Rattle.merge_tables.specs.declared.refusal.MergeRefusal.{MergeRefusal}
use Rattle.merge_tables.specs.declared.refusal.MergeRefusal.TheVariants.{KindMismatch}
use Rattle.merge_tables.specs.declared.rules.EntryKind.{EntryKind}
use Rattle.merge_tables.specs.declared.rules.Joining.{Joining}
use Rattle.merge_tables.specs.declared.rules.Joining.TheVariants.{Replaced, Unique}
use Rattle.merge_tables.specs.declared.rules.Standing.{Standing}
use Rattle.merge_tables.specs.declared.rules.Standing.TheVariants.{Value, Item}
use Rattle.merge_tables.specs.Answers.{under, place, within}
use Rattle.merge_tables.specs.Attributes.{JoiningRules, overlay_rules}
use Rattle.merge_tables.specs.Spots.{service_rules}
use Rattle.attribute_paths.specs.Patterns.{below_key, here}
use Rattle.merge_rules.specs.Uniqueness.{place_of}
use Rattle.merge_tables.specs.Parts.{or_null}

-- what a tree makes of the one that it is laid over, by how it stands and by the rules that hold there: a tree, or none where that is taken away.
-- What it is laid over is null where nothing stands there
abbrev pub Lay : Type 0
Lay = Standing → JoiningRules → Tree → Result (Option Tree) MergeRefusal

-- a scalar is laid over nothing and over a scalar
abbrev pub scalar_over : List ℕ → Tree-F Tree → Result (Option Tree) MergeRefusal
scalar_over text Tree-F.Null = Ok (Some (Scalar text))
scalar_over text (Tree-F.Scalar old) = Ok (Some (Scalar text))
scalar_over text other = Err (KindMismatch [])

-- the entries that a mapping is laid over
abbrev pub entries_below : Tree-F Tree → Result (List (List ℕ × Tree)) MergeRefusal
entries_below Tree-F.Null = Ok []
entries_below (Tree-F.Map entries) = Ok entries
entries_below other = Err (KindMismatch [])

-- the items that a sequence is laid over
abbrev pub items_below : Tree-F Tree → Result (List Tree) MergeRefusal
items_below Tree-F.Null = Ok []
items_below (Tree-F.Seq items) = Ok items
items_below other = Err (KindMismatch [])

-- the entries with the new value of a key, or without the key
abbrev pub with_value : List (List ℕ × Tree) → List ℕ → Option Tree → List (List ℕ × Tree)
with_value entries key None = without_entry entries key
with_value entries key (Some value) = with_entry entries key value

-- one entry laid over a mapping
abbrev pub entry_over : JoiningRules → List (List ℕ × Tree) → List ℕ × Lay → Result (List (List ℕ × Tree)) MergeRefusal
entry_over rules entries entry =
    under (Key entry.0) (entry.1 Value (below_key entry.0 rules) (or_null (value_at entries entry.0))) >>= λ value. Ok (with_value entries entry.0 value)

-- entries laid over a mapping in their order: a key that is there keeps its place, and new ones follow
abbrev pub entries_over : JoiningRules → List (List ℕ × Lay) → List (List ℕ × Tree) → Result (List (List ℕ × Tree)) MergeRefusal
entries_over rules [] entries = Ok entries
entries_over rules (entry ∷ more) entries = entry_over rules entries entry >>= entries_over rules more

-- a mapping laid over a tree, by its entries
abbrev pub entries_laid : JoiningRules → List (List ℕ × Lay) → Tree → Result (Option Tree) MergeRefusal
entries_laid rules entries base = entries_below (out-Tree base) >>= entries_over rules entries >>= λ all. Ok (Some (Map all))

-- an item that is there, or none
abbrev pub one_of : Option Tree → List Tree
one_of None = []
one_of (Some tree) = tree ∷ []

-- an item behind others
abbrev pub item_appended : List Tree → Lay → Result (List Tree) MergeRefusal
item_appended items lay = lay Item [] Null >>= λ item. Ok (items ++ one_of item)

-- an entry in the place of the one that it is laid over, or behind the others
abbrev pub entry_placed : List Tree → Lay → Tree → Option ℕ → Result (List Tree) MergeRefusal
entry_placed items lay entry None = Ok (items ++ entry ∷ [])
entry_placed items lay entry (Some at) =
    under (Index (place at)) (lay Item [] (or_null (slice_get items at))) >>= λ merged. Ok (slice_set items at (unwrap_or merged entry))

-- an entry taken in among unique ones: it is laid over the first that is one with it
abbrev pub entry_taken : EntryKind → List Tree → Lay → Option Tree → Result (List Tree) MergeRefusal
entry_taken kind items lay None = Ok items
entry_taken kind items lay (Some entry) = entry_placed items lay entry (place_of kind entry items)

-- one item more, by how the sequences are joined
abbrev pub item_joined : Option Joining → List Tree → Lay → Result (List Tree) MergeRefusal
item_joined None items lay = item_appended items lay
item_joined (Some Replaced) items lay = item_appended items lay
item_joined (Some (Unique kind)) items lay = lay Item [] Null >>= entry_taken kind items lay

-- items taken in one by one
abbrev pub items_joined : Option Joining → List Lay → List Tree → Result (List Tree) MergeRefusal
items_joined joining [] items = Ok items
items_joined joining (lay ∷ more) items = item_joined joining items lay >>= items_joined joining more

-- what is left of the items below
abbrev pub items_kept : Option Joining → List Tree → List Tree
items_kept (Some Replaced) items = []
items_kept joining items = items

-- a sequence laid over a tree, by its items
abbrev pub items_laid : Option Joining → List Lay → Tree → Result (Option Tree) MergeRefusal
items_laid joining items base = items_below (out-Tree base) >>= λ below. items_joined joining items (items_kept joining below) >>= λ all. Ok (Some (Seq all))

-- what a mark `!override` leaves of the tree below: nothing of a key's value; an item has nothing of its own below it
abbrev pub kept_below : Standing → Tree → Tree
kept_below Value base = Null
kept_below Item base = base

-- what a tree makes of the one below, by what its parts make of theirs
abbrev pub lay_step : Tree-F Lay → Lay
lay_step Tree-F.Null = λ standing rules base. Ok (Some base)
lay_step (Tree-F.Scalar text) = λ standing rules base. scalar_over text (out-Tree base)
lay_step (Tree-F.Map entries) = λ standing rules base. entries_laid rules entries base
lay_step (Tree-F.Seq items) = λ standing rules base. items_laid (here rules) items base
lay_step Tree-F.Reset = λ standing rules base. Ok None
lay_step (Tree-F.Override inner) = λ standing rules base. inner standing rules (kept_below standing base)

-- what a tree makes of the one that it is laid over
abbrev pub laid : Tree → Lay
laid = fold-Tree Lay lay_step

-- entries as they are laid
abbrev pub layers : List (List ℕ × Tree) → List (List ℕ × Lay)
layers entries = map (λ entry. (entry.0, laid entry.1)) entries

-- a file's tree over what the files before it gave, which has no mark; a whole tree that is taken away is null
unfoldable pub over_files : Tree → Tree → Result Tree MergeRefusal
over_files base over = laid over Value overlay_rules base >>= λ tree. within (or_null tree)

-- a tree over any other, which loses its marks first: it is laid over nothing, by no rule
unfoldable pub overlaid : Tree → Tree → Result Tree MergeRefusal
overlaid base over = laid base Value [] Null >>= λ tree. over_files (or_null tree) over

-- a service of this name over one that it extends, which has no mark either
unfoldable pub service_over : List ℕ → List (List ℕ × Tree) → List (List ℕ × Tree) → Result (List (List ℕ × Tree)) MergeRefusal
service_over name base over = under (Key (codes "services")) (under (Key name) (entries_over service_rules (layers over) base))
