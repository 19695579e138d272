-- Steps of asking whether a tree is in long forms already.
use Rattle.std.proofs.Common.{◌≡◌, ◌∙◌, ℕ, ◌+◌, ◌≤◌, List, [], ◌∷◌, ◌++◌, map, drop, take, length, slice_get, None, Some, Option, Ok, ap, sym}
use Rattle.std.specs.List.{zip}
use Rattle.std.specs.Map.{keys_of, values_of}
use Rattle.tree_base.specs.Answers.{◌>>=◌}
use Rattle.tree_base.specs.declared.Step.TheVariants.{Key}
use Rattle.tree_base.specs.declared.Tree.{Tree, Map, Seq, out-Tree}
use Rattle.attribute_paths.specs.Patterns.{below_key}
use Rattle.attribute_paths.proofs.Walks.{drop_next, entry_next, no_entry}
use Rattle.merge_tables.specs.Answers.{under}
use Rattle.merge_tables.specs.Attributes.{ShortRules}
use Rattle.long_forms.specs.LongForms.{Made, entries_for, entries_from, entries_long, entries_with, lengthened, values_long}
use Rattle.merge_tables.specs.Parts.{text_in}
use Rattle.merge_tables.proofs.Taking.{none_more, take_all, take_next}
use Rattle.merge_tables.proofs.Answering.{goes_on}
use Rattle.long_forms.proofs.Lengthening.{entries_whole, map_done, values_go}

-- one value more that stays
pub long_value : (lines : ShortRules) (keys : List (List ℕ)) (values : List Tree) (i : ℕ) (key : List ℕ) (value : Tree) → slice_get keys i ≡ Some key → slice_get values i ≡ Some value → lengthened value (below_key key lines) ≡ Ok value
    → values_long lines (take (i + 1) values) (drop (i + 1) (zip keys (map lengthened values))) ≡ values_long lines (take i values) (drop i (zip keys (map lengthened values)))
long_value lines keys values i key value k v stays =
    let rest = drop (i + 1) (zip keys (map lengthened values)) in
    ap (λ (done : List Tree). values_long lines done rest) (take_next values i value v)
    ∙ sym (values_go lines (take i values) key value value rest (ap (under (Key key)) stays))
    ∙ sym (ap (values_long lines (take i values)) (entry_next lengthened keys values i key value k v))

pub long_values : (lines : ShortRules) (keys : List (List ℕ)) (values : List Tree) (i : ℕ) → length values ≤ i → values_long lines (take i values) (drop i (zip keys (map lengthened values))) ≡ Ok values
long_values lines keys values i h =
    ap (values_long lines (take i values)) (no_entry lengthened keys values i h) ∙ ap Ok (take_all values i h)

-- a mapping whose values stay
pub long_map : (lines : ShortRules) (es : List (List ℕ × Tree)) (keys : List (List ℕ)) (values : List Tree) → keys ≡ keys_of es → values ≡ values_of es
    → values_long lines [] (zip keys (map lengthened values)) ≡ Ok values → lengthened (Map es) lines ≡ Ok (Map es)
long_map lines es keys values k v h =
    map_done es keys values lines k v values h ∙ ap (λ (l : List (List ℕ × Tree)). Ok (Map l)) (ap (zip (keys_of es)) v ∙ entries_whole es)

-- one entry more that is no text
pub own_entry : (form : Made) (items : List Tree) (i : ℕ) (item : Tree) → slice_get items i ≡ Some item → text_in (out-Tree item) ≡ None
    → entries_from form (i + 1) (take (i + 1) items) (drop (i + 1) items) ≡ entries_from form i (take i items) (drop i items)
own_entry form items i item at none =
    let rest = drop (i + 1) items in
    let one : entries_with form i (take i items) item ≡ Ok (take i items ++ item ∷ []) =
    ap (λ (text : Option (List ℕ)). entries_for form i text item >>= λ made. Ok (take i items ++ made)) none in
    ap (λ (done : List Tree). entries_from form (i + 1) done rest) (take_next items i item at)
    ∙ sym (goes_on (entries_with form i (take i items) item) (λ (all : List Tree). entries_from form (i + 1) all rest) (take i items ++ item ∷ []) one)
    ∙ sym (ap (entries_from form i (take i items)) (drop_next items i item at))

pub own_entries : (form : Made) (items : List Tree) (i : ℕ) → length items ≤ i → entries_from form i (take i items) (drop i items) ≡ entries_from form 0 [] items → entries_long form items ≡ Ok (Seq items)
own_entries form items i h all =
    goes_on (entries_from form 0 [] items) (λ (all : List Tree). Ok (Seq all)) items
    (sym all ∙ ap (entries_from form i (take i items)) (none_more items i h) ∙ ap Ok (take_all items i h))
