-- A file's tree in long forms (Compose Specification, the short syntaxes of its attributes).
use Rattle.std.specs.Prelude.{ℕ, ◌+◌, List, [], ◌∷◌, ◌++◌, Option, Some, None, map, Result, Ok, codes}
use Rattle.std.specs.List.{zip}
use Rattle.std.specs.Map.{keys_of}
use Rattle.std.specs.Option.{option_map, option_map_or, option_and_then, ok_or}
use Rattle.tree_base.specs.Answers.{◌>>=◌}
use Rattle.tree_base.specs.Entries.{with_entry}
use Rattle.tree_base.specs.declared.Tree.{Tree, fold-Tree, out-Tree, Null, Scalar, Map, Seq, Reset, Override}
use Rattle.tree_base.specs.declared.Tree.TheOpen.{Tree-F}
use Rattle.tree_base.specs.declared.Step.TheVariants.{Key, Index}
use Rattle.short_forms.specs.Cuts.{cut_once}
use Rattle.short_forms.specs.Pairs.{key_value_of, pair_of}
use Rattle.short_forms.specs.Ports.{ports_of}
use Rattle.short_forms.specs.PortLaws.{long_port}
use Rattle.short_forms.specs.Mounts.{mount_of}
use Rattle.short_forms.specs.MountLaws.{long_mount}
use Rattle.short_forms.specs.Words.{words_of}
use Rattle.merge_tables.specs.declared.refusal.MergeRefusal.{MergeRefusal}
use Rattle.merge_tables.specs.declared.refusal.MergeRefusal.TheVariants.{BadUniqueEntry}
use Rattle.merge_tables.specs.declared.rules.ShortForm.{ShortForm}
use Rattle.merge_tables.specs.declared.rules.ShortForm.TheVariants.{Mapping, Entries, OneText, Context, Test, Words}
use Rattle.merge_tables.specs.declared.rules.PairForm.{PairForm}
use Rattle.merge_tables.specs.declared.rules.PairForm.TheVariants.{KeyValue, Host, Name}
use Rattle.merge_tables.specs.declared.rules.EntryForm.{EntryForm}
use Rattle.merge_tables.specs.declared.rules.EntryForm.TheVariants.{Port, Mount, File}
use Rattle.merge_tables.specs.Answers.{under, place, within}
use Rattle.merge_tables.specs.Attributes.{ShortRules, short_rules}
use Rattle.attribute_paths.specs.Patterns.{below_key, here}
use Rattle.merge_tables.specs.Parts.{text_in}

-- how a text is cut into a key and maybe a value, where it is of the form
abbrev pub Cut : Type 0
Cut = List ℕ → Option (List ℕ × Option (List ℕ))

-- a host and its address: cut at the first `=`, and without one at the first `:`
abbrev pub host_at : List ℕ → Option (List ℕ × List ℕ) → Option (List ℕ × Option (List ℕ))
host_at text None = pair_of text (cut_once 58 text)
host_at text (Some pair) = pair_of text (Some pair)

-- the key and the value of a text by its form; a name has no value
abbrev pub cut_by : PairForm → Cut
cut_by KeyValue text = key_value_of text
cut_by Host text = host_at text (cut_once 61 text)
cut_by Name text = Some (text, None)

-- a text, and null where there is none
abbrev pub text_or_null : Option (List ℕ) → Tree
text_or_null value = option_map_or Scalar value Null

-- the entries of the texts of a list, of which the later wins; nothing where an item is no text of the form
abbrev pub pairs_from : Cut → List Tree → List (List ℕ × Tree) → Option (List (List ℕ × Tree))
pairs_from cut [] entries = Some entries
pairs_from cut (item ∷ items) entries =
    option_and_then (λ pair. pairs_from cut items (with_entry entries pair.0 (text_or_null pair.1))) (option_and_then cut (text_in (out-Tree item)))

-- a list as a mapping; a list with an item that is no text of the form stays
abbrev pub mapping_of : Cut → List Tree → Tree
mapping_of cut items = option_map_or Map (pairs_from cut items []) (Seq items)

-- a secret or a config as a text is its source
abbrev pub file_entry : List ℕ → Tree
file_entry text = Map ((codes "source", Scalar text) ∷ [])

-- the entries that a text stands for, where it is of the form
abbrev pub Made : Type 0
Made = List ℕ → Option (List Tree)

-- the entries of a text by its form: maybe several ports, one mount, or one secret or config
abbrev pub made_by : EntryForm → Made
made_by Port text = option_map (map long_port) (ports_of text)
made_by Mount text = option_map (λ mount. long_mount mount ∷ []) (mount_of text)
made_by File text = Some (file_entry text ∷ [])

-- the entries that an item stands for: a text by its form, which it has to have, and another tree for itself
abbrev pub entries_for : Made → ℕ → Option (List ℕ) → Tree → Result (List Tree) MergeRefusal
entries_for form at (Some text) item = ok_or (form text) (BadUniqueEntry (Index (place at) ∷ []))
entries_for form at None item = Ok (item ∷ [])

-- the entries that an item at a place stands for, behind those that are done
abbrev pub entries_with : Made → ℕ → List Tree → Tree → Result (List Tree) MergeRefusal
entries_with form at done item = entries_for form at (text_in (out-Tree item)) item >>= λ made. Ok (done ++ made)

-- and those of the items from a place on
abbrev pub entries_from : Made → ℕ → List Tree → List Tree → Result (List Tree) MergeRefusal
entries_from form at done [] = Ok done
entries_from form at done (item ∷ items) = entries_with form at done item >>= λ all. entries_from form (at + 1) all items

-- a list whose items are entries
abbrev pub entries_long : Made → List Tree → Result Tree MergeRefusal
entries_long form items = entries_from form 0 [] items >>= λ all. Ok (Seq all)

-- a list in the long form of its attribute
abbrev pub list_long : Option ShortForm → List Tree → Result Tree MergeRefusal
list_long (Some (Mapping form)) items = Ok (mapping_of (cut_by form) items)
list_long (Some (Entries form)) items = entries_long (made_by form) items
list_long form items = Ok (Seq items)

-- the words of a command line, and the text itself where it is none
abbrev pub words_long : List ℕ → Tree
words_long text = option_map_or (λ words. Seq (map Scalar words)) (words_of text) (Scalar text)

-- a text in the long form of its attribute
abbrev pub text_long : Option ShortForm → List ℕ → Tree
text_long (Some OneText) text = Seq (Scalar text ∷ [])
text_long (Some Context) text = Map ((codes "context", Scalar text) ∷ [])
text_long (Some Test) text = Seq (Scalar (codes "CMD-SHELL") ∷ Scalar text ∷ [])
text_long (Some Words) text = words_long text
text_long form text = Scalar text

-- a tree in long forms, by the rules that hold there
abbrev pub Lengthened : Type 0
Lengthened = ShortRules → Result Tree MergeRefusal

-- the values of a mapping, behind those that are done
abbrev pub values_long : ShortRules → List Tree → List (List ℕ × Lengthened) → Result (List Tree) MergeRefusal
values_long rules done [] = Ok done
values_long rules done (entry ∷ more) = under (Key entry.0) (entry.1 (below_key entry.0 rules)) >>= λ value. values_long rules (done ++ value ∷ []) more

-- the items of a sequence, behind those that are done; no rule holds in them
abbrev pub items_long : List Tree → List Lengthened → Result (List Tree) MergeRefusal
items_long done [] = Ok done
items_long done (item ∷ more) = item [] >>= λ tree. items_long (done ++ tree ∷ []) more

-- a tree in long forms, by its parts in theirs
abbrev pub long_step : Tree-F Lengthened → Lengthened
long_step Tree-F.Null = λ rules. Ok Null
long_step (Tree-F.Scalar text) = λ rules. Ok (text_long (here rules) text)
long_step (Tree-F.Map entries) = λ rules. values_long rules [] entries >>= λ all. Ok (Map (zip (keys_of entries) all))
long_step (Tree-F.Seq items) = λ rules. items_long [] items >>= list_long (here rules)
long_step Tree-F.Reset = λ rules. Ok Reset
long_step (Tree-F.Override inner) = λ rules. inner rules >>= λ tree. Ok (Override tree)

-- a tree in long forms
abbrev pub lengthened : Tree → Lengthened
lengthened = fold-Tree Lengthened long_step

-- a file's tree in long forms, within the limits
unfoldable pub long_forms : Tree → Result Tree MergeRefusal
long_forms tree = lengthened tree short_rules >>= within
