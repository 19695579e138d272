-- The paths of a file's tree taken absolute, in the tree's order.
use Rattle.std.specs.Prelude.{ℕ, Bool, false, ◌||◌, nat_eq, if◌then◌else◌, List, [], ◌∷◌, ◌++◌, Option, Some, Result, Ok, codes}
use Rattle.std.specs.List.{starts_with, zip}
use Rattle.std.specs.Map.{keys_of}
use Rattle.std.specs.Option.{option_map, option_map_or}
use Rattle.std.specs.Str.{bytes_eq}
use Rattle.attribute_paths.specs.Patterns.{below_item, below_key, here}
use Rattle.file_paths.specs.PathRules.{PathRules, path_rules}
use Rattle.file_paths.specs.Paths.{Variables, homed}
use Rattle.file_paths.specs.Spots.{service_rules}
use Rattle.file_paths.specs.declared.refusal.PathRefusal.{PathRefusal}
use Rattle.file_paths.specs.declared.spot.PathKind.{PathKind}
use Rattle.file_paths.specs.declared.spot.PathKind.TheVariants.{Text, Context, Bind}
use Rattle.tree_base.specs.Answers.{◌>>=◌}
use Rattle.tree_base.specs.Entries.{value_at, with_entry}
use Rattle.tree_base.specs.declared.Tree.{Tree, fold-Tree, out-Tree, Null, Scalar, Map, Seq, Reset, Override}
use Rattle.tree_base.specs.declared.Tree.TheOpen.{Tree-F}

-- trees under their keys
abbrev pub Entries : Type 0
Entries = List (List ℕ × Tree)

-- what makes a path absolute
abbrev pub Home : Type 0
Home = List ℕ → Result (List ℕ) PathRefusal

-- a text that names a scheme, as a URL does
abbrev pub has_scheme : List ℕ → Bool
has_scheme [] = false
has_scheme (b ∷ bs) = starts_with nat_eq (b ∷ bs) (codes "://") || has_scheme bs

-- a path as it is then
abbrev pub path_homed : Home → List ℕ → Result Tree PathRefusal
path_homed home text = home text >>= λ path. Ok (Scalar path)

-- a text of a file, by what its rule says: a path is taken absolute, and so is the context of a build that names no
-- scheme; another text stays
abbrev pub text_homed : Home → Option PathKind → List ℕ → Result Tree PathRefusal
text_homed home (Some Text) text = path_homed home text
text_homed home (Some Context) text =
    if has_scheme text then Ok (Scalar text) else path_homed home text
text_homed home other text = Ok (Scalar text)

-- a tree is this text
abbrev pub is_text : List ℕ → Tree-F Tree → Bool
is_text text (Tree-F.Scalar found) = bytes_eq found text
is_text text tree = false

-- an entry of `volumes` that is a bind
abbrev pub is_bind : Entries → Bool
is_bind entries =
    option_map_or (λ tree. is_text (codes "bind") (out-Tree tree))
    (value_at entries (codes "type")) false

-- a mount, by what stands at its source
abbrev pub source_homed : Home → Entries → Option (Tree-F Tree) → Result Entries PathRefusal
source_homed home entries (Some (Tree-F.Scalar text)) =
    path_homed home text >>= λ path. Ok (with_entry entries (codes "source") path)
source_homed home entries source = Ok entries

-- a mount whose source is a path, where it is a bind
abbrev pub mount_homed : Home → Entries → Result Entries PathRefusal
mount_homed home entries =
    if is_bind entries
    then source_homed home entries (option_map out-Tree (value_at entries (codes "source")))
    else Ok entries

-- a mapping of a file: a mount, or another one, which stays
abbrev pub entries_homed : Home → Option PathKind → Entries → Result Entries PathRefusal
entries_homed home (Some Bind) entries = mount_homed home entries
entries_homed home other entries = Ok entries

-- what the rules that hold there make of a tree
abbrev pub Homed : Type 0
Homed = PathRules → Result Tree PathRefusal

-- the values of a mapping, behind those that are done
abbrev pub values_homed :
    PathRules → List Tree → List (List ℕ × Homed) → Result (List Tree) PathRefusal
values_homed rules done [] = Ok done
values_homed rules done (entry ∷ more) =
    entry.1 (below_key entry.0 rules) >>= λ value. values_homed rules (done ++ value ∷ []) more

-- the items of a sequence, by the rules that hold of each, behind those that are done
abbrev pub items_homed : PathRules → List Tree → List Homed → Result (List Tree) PathRefusal
items_homed rules done [] = Ok done
items_homed rules done (item ∷ more) =
    item rules >>= λ value. items_homed rules (done ++ value ∷ []) more

-- a tree whose paths are absolute, by its parts whose are
abbrev pub resolve_step : Home → Tree-F Homed → Homed
resolve_step home Tree-F.Null = λ rules. Ok Null
resolve_step home (Tree-F.Scalar text) = λ rules. text_homed home (here rules) text
resolve_step home (Tree-F.Map entries) = λ rules.
    values_homed rules [] entries >>= λ all.
    entries_homed home (here rules) (zip (keys_of entries) all) >>= λ whole. Ok (Map whole)
resolve_step home (Tree-F.Seq items) = λ rules.
    items_homed (below_item rules) [] items >>= λ all. Ok (Seq all)
resolve_step home Tree-F.Reset = λ rules. Ok Reset
resolve_step home (Tree-F.Override inner) = λ rules. inner rules >>= λ tree. Ok (Override tree)

-- a tree whose paths are absolute, by the rules that hold there
abbrev pub resolved_by : Home → Tree → Homed
resolved_by home = fold-Tree Homed (resolve_step home)

-- the tree of a model, its paths taken against the model's directory and the home that its variables name; the first
-- path without a home, in the tree's order, is refused
unfoldable pub resolved : List ℕ → Variables → Tree → Result Tree PathRefusal
resolved directory env tree = resolved_by (homed directory env) tree path_rules

-- one service of a file, its paths taken against a directory in the same way
unfoldable pub resolved_service : List ℕ → Variables → Tree → Result Tree PathRefusal
resolved_service directory env service = resolved_by (homed directory env) service service_rules
