-- What sequences and mappings of scalars write.
use Rattle.std.specs.Prelude.{ℕ, Bool, true, false, if◌then◌else◌, List, [], ◌∷◌, Option, Some, None, Ok, codes, position, not, unwrap_or}
use Rattle.std.specs.List.{zip}
use Rattle.std.specs.Map.{keys_of, values_of}
use Rattle.std.specs.Option.{ok_or, option_and_then, option_map, option_map_or}
use Rattle.tree_base.specs.ByteOrder.{by_key}
use Rattle.tree_base.specs.declared.Step.TheVariants.{Index}
use Rattle.tree_base.specs.declared.Tree.{Tree, fold-Tree, out-Tree, Null, Scalar, Map, Seq, Reset, Override}
use Rattle.tree_base.specs.declared.Tree.TheOpen.{Tree-F}
use Rattle.attribute_types.specs.Answers.{refused, under}
use Rattle.attribute_types.specs.declared.refusal.AttributeRefusal.TheVariants.{At}
use Rattle.attribute_types.specs.declared.refusal.Fault.{Fault}
pub use Rattle.attribute_scalars.specs.Scalars.{text_in}
use Rattle.attribute_scalars.specs.Walks.{Entries, Read, in_byte_order, is_in, place}

-- what each tree gives, where each gives something
abbrev pub collected : {X : Type 0} → (Tree → Option X) → List Tree → Option (List X)
collected read [] = Some []
collected read (tree ∷ trees) =
    option_and_then (λ x. option_map (λ xs. x ∷ xs) (collected read trees)) (read tree)

-- the text of a scalar, or nothing of null
abbrev pub nullable_in : Tree-F Tree → Option (Option (List ℕ))
nullable_in (Tree-F.Scalar text) = Some (Some text)
nullable_in Tree-F.Null = Some None
nullable_in tree = None

-- a scalar or null
abbrev pub is_nullable : Tree-F Tree → Bool
is_nullable (Tree-F.Scalar text) = true
is_nullable Tree-F.Null = true
is_nullable tree = false

-- a key and the text of the scalar under it, or nothing where no scalar stands
abbrev pub pair_of : List ℕ × Tree → List ℕ × Option (List ℕ)
pair_of (key, tree) = (key, text_in (out-Tree tree))

-- the texts of a sequence of scalars; whatever stands in another place, the kind is the whole attribute's
abbrev pub texts_of : Tree-F Tree → Read (List (List ℕ))
texts_of (Tree-F.Seq items) =
    ok_or (collected (λ tree. text_in (out-Tree tree)) items) (At Fault.WrongKind [])
texts_of tree = refused Fault.WrongKind

-- texts, where none fails a test; the first that does is refused at its place
abbrev pub all_passing : (List ℕ → Bool) → List (List ℕ) → Read (List (List ℕ))
all_passing test texts =
    option_map_or (λ at. under (Index (place at)) (refused Fault.BadValue))
    (position (λ text. not (test text)) texts) (Ok texts)

-- how a health check's command is run: not at all, as it is, or by a shell (Compose Specification, `healthcheck`)
abbrev pub test_words : List (List ℕ)
test_words = codes "NONE" ∷ codes "CMD" ∷ codes "CMD-SHELL" ∷ []

-- the first word of a command, which says how it is run
abbrev pub runs_test : List (List ℕ) → Bool
runs_test [] = false
runs_test (first ∷ more) = is_in test_words first

-- the words of a test, of which the first says how it is run
abbrev pub as_test : List (List ℕ) → Read (List (List ℕ))
as_test words = if runs_test words then Ok words else refused Fault.BadValue

-- pairs of keys and of what stands under them
abbrev pub pairs_from : Entries → Read (List (List ℕ × Option (List ℕ)))
pairs_from entries =
    ok_or
    (option_map (zip (keys_of entries))
    (collected (λ tree. nullable_in (out-Tree tree)) (values_of entries)))
    (At Fault.WrongKind [])

-- the pairs of a mapping of scalars and nulls, in byte order
abbrev pub pairs_of : Tree-F Tree → Read (List (List ℕ × Option (List ℕ)))
pairs_of (Tree-F.Map entries) = pairs_from (in_byte_order entries)
pairs_of tree = refused Fault.WrongKind

-- a label, of which null is the empty text
abbrev pub labelled : List ℕ × Option (List ℕ) → List ℕ × Option (List ℕ)
labelled (key, value) = (key, Some (unwrap_or value []))

-- a tree with the keys of this mapping in byte order, where its parts have theirs so
abbrev pub ordered_step : Tree-F Tree → Tree
ordered_step Tree-F.Null = Null
ordered_step (Tree-F.Scalar text) = Scalar text
ordered_step (Tree-F.Map entries) = Map (by_key (λ entry. entry.0) entries)
ordered_step (Tree-F.Seq items) = Seq items
ordered_step Tree-F.Reset = Reset
ordered_step (Tree-F.Override inner) = Override inner

-- a tree with the keys of each of its mappings in byte order
abbrev pub ordered : Tree → Tree
ordered = fold-Tree Tree ordered_step

-- a mapping as it is read
abbrev pub mapping_in : Tree → Tree-F Tree → Read Tree
mapping_in tree (Tree-F.Map entries) = Ok (ordered tree)
mapping_in tree other = refused Fault.WrongKind

-- a list that isn't empty
abbrev pub if_any : {X : Type 0} → List X → Option (List X)
if_any [] = None
if_any (x ∷ xs) = Some (x ∷ xs)
