-- The long form of a long form is itself, by a table in which no line goes on where another one made a mapping.
use Rattle.std.proofs.Common.{◌≡◌, ◌∙◌, ℕ, ◌+◌, Bool, true, false, not, List, [], ◌∷◌, ◌++◌, map, Option, None, Some, Result, Ok, Err, ap, cond, refl, subst, sym, true≢false, rules}
use Rattle.std.specs.Prelude.{codes, if◌then◌else◌, nat_le}
use Rattle.std.specs.List.{list_all, zip}
use Rattle.std.specs.Map.{keys_of, values_of}
use Rattle.std.specs.Option.{ok_or, option_map, option_map_or}
use Rattle.std.specs.Str.{bytes_eq}
use Rattle.std.proofs.lemmas.Bool.{and_parts}
use Rattle.std.proofs.lemmas.List.{append-nil, append_assoc}
use Rattle.std.proofs.lemmas.Slice.Eq.{bytes_eq-Decides}
use Rattle.tree_base.specs.Answers.{◌>>=◌}
use Rattle.tree_base.specs.Trees.{node_count, text_size}
use Rattle.tree_base.specs.declared.Tree.{Tree, Map, Null, Override, Reset, Scalar, Seq, out-Tree, the_lemmas}
use Rattle.tree_base.specs.declared.Step.TheVariants.{Key, Index}
use Rattle.short_forms.specs.PortLaws.{long_port}
use Rattle.short_forms.specs.MountLaws.{long_mount}
use Rattle.short_forms.specs.Mounts.{mount_of}
use Rattle.short_forms.specs.Ports.{ports_of}
use Rattle.short_forms.specs.Words.{words_of}
use Rattle.short_forms.specs.declared.mounts.Mount.{Mount}
use Rattle.short_forms.specs.declared.ports.Port.{Port}
use Rattle.attribute_paths.proofs.Trees.{OfAll, of_every}
use Rattle.attribute_paths.specs.Patterns.{Part, Pattern, any_item, any_key, below_key, here, named}
use Rattle.merge_tables.specs.declared.refusal.MergeRefusal.{MergeRefusal}
use Rattle.merge_tables.specs.declared.refusal.MergeRefusal.TheVariants.{BadUniqueEntry, TooManyNodes, TooMuchText}
use Rattle.merge_tables.specs.declared.rules.EntryForm.{EntryForm}
use Rattle.merge_tables.specs.declared.rules.EntryForm.TheVariants as forms
use Rattle.merge_tables.specs.declared.rules.PairForm.{PairForm}
use Rattle.merge_tables.specs.declared.rules.ShortForm.{ShortForm}
use Rattle.merge_tables.specs.declared.rules.ShortForm.TheVariants.{Mapping, Entries, OneText, Context, Test, Words}
use Rattle.merge_tables.specs.Answers.{place, stepped, under, within}
use Rattle.merge_tables.specs.Attributes.{ShortRules, short_rules}
use Rattle.long_forms.specs.Laws.{LongFormsStay}
use Rattle.long_forms.specs.LongForms.{Made, cut_by, entries_for, entries_from, entries_long, entries_with, file_entry, lengthened, list_long, long_forms, made_by, mapping_of, pairs_from, text_long, values_long}
use Rattle.merge_tables.specs.Parts.{text_in}
use Rattle.merge_tables.proofs.Answering.{goes_on}
use Rattle.long_forms.proofs.Lengthening.{entries_whole, map_long, parts, seq_long, stays, values_go}

abbrev Line : Type 0
Line = Pattern × ShortForm

-- whether two steps lead to one place
abbrev meets : Part → Part → Bool
meets (named name) (named other) = bytes_eq name other
meets (named name) any_key = true
meets (named name) any_item = false
meets any_key (named other) = true
meets any_key any_key = true
meets any_key any_item = false
meets any_item (named other) = false
meets any_item any_key = false
meets any_item any_item = true

-- what a path goes on with behind another one, where it goes through its place
abbrev behind : Pattern → Pattern → Option Pattern
behind [] path = Some path
behind (part ∷ more) [] = None
behind (part ∷ more) (other ∷ path) = if meets part other then behind more path else None

-- whether a step leads under a key
abbrev leads : Part → List ℕ → Bool
leads (named name) key = bytes_eq name key
leads any_key key = true
leads any_item key = false

-- whether a line may go on so where another one has a form: not through a mapping that the form made
abbrev goes : ShortForm → Option Pattern → Bool
goes (Mapping form) None = true
goes (Mapping form) (Some []) = true
goes (Mapping form) (Some (part ∷ more)) = false
goes Context None = true
goes Context (Some []) = true
goes Context (Some (part ∷ more)) = not (leads part (codes "context"))
goes (Entries form) path = true
goes OneText path = true
goes Test path = true
goes Words path = true

-- lines that may go on so from a path with a form
abbrev Go : Pattern → ShortForm → ShortRules → Type 0
Go path form lines = OfAll (λ (line : Line). goes form (behind path line.0) ≡ true) lines

-- lines of which each may go on so from each
abbrev AllGo : ShortRules → ShortRules → Type 0
AllGo lines others = OfAll (λ (line : Line). Go line.0 line.1 others) lines

abbrev Goes : ShortRules → Type 0
Goes lines = AllGo lines lines

same_name : (key name other : List ℕ) → bytes_eq name key ≡ true → bytes_eq other key ≡ true → bytes_eq name other ≡ true
same_name key name other p q =
    let one : name ≡ key = (bytes_eq-Decides name key).0 p in
    let two : other ≡ key = (bytes_eq-Decides other key).0 q in
    (bytes_eq-Decides name other).1 (one ∙ sym two)

-- what goes on behind a path goes on so under a key that the path leads through
go_below : (key : List ℕ) (part : Part) (path : Pattern) (form : ShortForm) → leads part key ≡ true → (lines : ShortRules) → Go (part ∷ path) form lines → Go path form (below_key key lines)
go_below key part path form there [] go = tt
go_below key part path form there (([], said) ∷ lines) go = go_below key part path form there lines go.1
go_below key (named name) path form there ((named other ∷ more, said) ∷ lines) go = by (go_below key (named name) path form there lines go.1) (bytes_eq other key) refl
  where
    by : Go path form (below_key key lines) → (b : Bool) → bytes_eq other key ≡ b → Go path form (cond b ((more, said) ∷ []) [] ++ below_key key lines)
    by rest true e = (rw (same_name key name other there e) at go.0, rest)
    by rest false e = rest
go_below key any_key path form there ((named other ∷ more, said) ∷ lines) go = by (go_below key any_key path form there lines go.1) (bytes_eq other key)
  where
    by : Go path form (below_key key lines) → (b : Bool) → Go path form (cond b ((more, said) ∷ []) [] ++ below_key key lines)
    by rest true = (go.0, rest)
    by rest false = rest
go_below key any_item path form there ((named other ∷ more, said) ∷ lines) go = absurd (true≢false (sym there))
go_below key (named name) path form there ((any_key ∷ more, said) ∷ lines) go = (go.0, go_below key (named name) path form there lines go.1)
go_below key any_key path form there ((any_key ∷ more, said) ∷ lines) go = (go.0, go_below key any_key path form there lines go.1)
go_below key any_item path form there ((any_key ∷ more, said) ∷ lines) go = absurd (true≢false (sym there))
go_below key part path form there ((any_item ∷ more, said) ∷ lines) go = go_below key part path form there lines go.1

-- lines that go on so from each other do under a key too
all_below : (key : List ℕ) (lines others : ShortRules) → AllGo lines others → AllGo (below_key key lines) (below_key key others)
all_below key [] others go = tt
all_below key (([], said) ∷ lines) others go = all_below key lines others go.1
all_below key ((named name ∷ more, said) ∷ lines) others go = by (all_below key lines others go.1) (bytes_eq name key) refl
  where
    by : AllGo (below_key key lines) (below_key key others) → (b : Bool) → bytes_eq name key ≡ b → AllGo (cond b ((more, said) ∷ []) [] ++ below_key key lines) (below_key key others)
    by rest true e = (go_below key (named name) more said e others go.0, rest)
    by rest false e = rest
all_below key ((any_key ∷ more, said) ∷ lines) others go = (go_below key any_key more said refl others go.0, all_below key lines others go.1)
all_below key ((any_item ∷ more, said) ∷ lines) others go = all_below key lines others go.1

-- the form that holds here is one that all lines go on so from
go_here : (form : ShortForm) (lines others : ShortRules) → here lines ≡ Some form → AllGo lines others → Go [] form others
go_here form [] others e go = absurd (let wrong : ⊥ = cc in wrong)
go_here form (([], said) ∷ lines) others e go = let same : said ≡ form = cc in subst (λ (w : ShortForm). Go [] w others) same go.0
go_here form ((part ∷ more, said) ∷ lines) others e go = go_here form lines others e go.1

-- nothing has a form in a mapping that a form of pairs made
none_in_mapping : (form : PairForm) (key : List ℕ) (lines : ShortRules) → Go [] (Mapping form) lines → below_key key lines ≡ []
none_in_mapping form key [] go = refl
none_in_mapping form key (([], said) ∷ lines) go = none_in_mapping form key lines go.1
none_in_mapping form key ((part ∷ more, said) ∷ lines) go = absurd (true≢false (sym go.0))

-- nor in the context of what is built from
none_in_context : (lines : ShortRules) → Go [] Context lines → below_key (codes "context") lines ≡ []
none_in_context [] go = refl
none_in_context (([], said) ∷ lines) go = none_in_context lines go.1
none_in_context ((named name ∷ more, said) ∷ lines) go = by (none_in_context lines go.1) (bytes_eq name (codes "context")) go.0
  where
    by : below_key (codes "context") lines ≡ [] → (b : Bool) → not b ≡ true → cond b ((more, said) ∷ []) [] ++ below_key (codes "context") lines ≡ []
    by rest true e = absurd (true≢false (sym e))
    by rest false e = rest
none_in_context ((any_key ∷ more, said) ∷ lines) go = absurd (true≢false (sym go.0))
none_in_context ((any_item ∷ more, said) ∷ lines) go = none_in_context lines go.1

-- a tree that is in its long form
abbrev IsLong : ShortRules → Tree → Type 0
IsLong lines tree = lengthened tree lines ≡ Ok tree

-- a tree whose long form is
abbrev GetsLong : Tree → Type 0
GetsLong tree = (lines : ShortRules) → Goes lines → (long : Tree) → lengthened tree lines ≡ Ok long → IsLong lines long

-- the one answer of a call
one_answer : (lines : ShortRules) (tree made long : Tree) → lengthened tree lines ≡ Ok made → lengthened tree lines ≡ Ok long → IsLong lines made → IsLong lines long
one_answer lines tree made long p q is = let same : made ≡ long = cc in subst (IsLong lines) same is

-- a step that fails gives nothing
stops : {A B : Type 0} (read : Result A MergeRefusal) (f : A → Result B MergeRefusal) (b : B) (refusal : MergeRefusal) → read ≡ Err refusal → (read >>= f) ≡ Ok b → ⊥
stops (Ok a) f b refusal p e = cc
stops (Err other) f b refusal p e = cc

-- the values of a mapping whose long form is there are those of a mapping that is in its long form
abbrev Made_of : ShortRules → List (List ℕ × Tree) → List Tree → List Tree → Type 0
Made_of lines es done all =
    (made : List (List ℕ × Tree)) × (keys_of made ≡ keys_of es) × (all ≡ done ++ values_of made)
    × ((front : List Tree) → values_long lines front (parts made) ≡ Ok (front ++ values_of made))

none_made : (lines : ShortRules) (done all : List Tree) → values_long lines done (parts []) ≡ Ok all → Made_of lines [] done all
none_made lines done all e = let same : done ≡ all = cc in ([], refl, sym same ∙ sym (append-nil done), λ front. ap Ok (sym (append-nil front)))

values_made : (lines : ShortRules) → Goes lines → (es : List (List ℕ × Tree)) → OfAll (λ (e : List ℕ × Tree). GetsLong e.1) es → (done all : List Tree) → values_long lines done (parts es) ≡ Ok all → Made_of lines es done all
values_made lines go [] get done all e = none_made lines done all e
values_made lines go (entry ∷ es) get done all e =
    by (lengthened entry.1 (below_key entry.0 lines)) refl (values_made lines go es get.1)
  where
    by : (r : Result Tree MergeRefusal) → lengthened entry.1 (below_key entry.0 lines) ≡ r
        → ((done all : List Tree) → values_long lines done (parts es) ≡ Ok all → Made_of lines es done all) → Made_of lines (entry ∷ es) done all
    by (Err refusal) p more =
        absurd (stops (under (Key entry.0) (lengthened entry.1 (below_key entry.0 lines))) (λ (tree : Tree). values_long lines (done ++ tree ∷ []) (parts es)) all (stepped (Key entry.0) refusal) (ap (under (Key entry.0)) p) e)
    by (Ok value) p more =
        let q : under (Key entry.0) (lengthened entry.1 (below_key entry.0 lines)) ≡ Ok value = ap (under (Key entry.0)) p in
        let m = more (done ++ value ∷ []) all (sym (values_go lines done entry.0 entry.1 value (parts es) q) ∙ e) in
        let is = get.0 (below_key entry.0 lines) (all_below entry.0 lines lines go) value p in (
          (entry.0, value) ∷ m.0,
          ap (λ (keys : List (List ℕ)). entry.0 ∷ keys) m.1,
          m.2 ∙ append_assoc done (value ∷ []) (values_of m.0),
          λ front. values_go lines front entry.0 value value (parts m.0) (ap (under (Key entry.0)) is) ∙ m.3 (front ++ value ∷ []) ∙ ap Ok (append_assoc front (value ∷ []) (values_of m.0)),
        )

-- a mapping with the same keys and values in their long forms is in its own
map_is : (lines : ShortRules) (made : List (List ℕ × Tree)) → values_long lines [] (parts made) ≡ Ok (values_of made) → IsLong lines (Map made)
map_is lines made e =
    map_long made lines ∙ goes_on (values_long lines [] (parts made)) (λ (all : List Tree). Ok (Map (zip (keys_of made) all))) (values_of made) e
    ∙ ap (λ (es : List (List ℕ × Tree)). Ok (Map es)) (entries_whole made)

map_gets : (es : List (List ℕ × Tree)) → OfAll (λ (e : List ℕ × Tree). GetsLong e.1) es → GetsLong (Map es)
map_gets es get lines go long e = by (values_long lines [] (parts es)) refl
  where
    by : (r : Result (List Tree) MergeRefusal) → values_long lines [] (parts es) ≡ r → IsLong lines long
    by (Err refusal) p = absurd (stops (values_long lines [] (parts es)) (λ (all : List Tree). Ok (Map (zip (keys_of es) all))) long refusal p (sym (map_long es lines) ∙ e))
    by (Ok all) p =
        let m = values_made lines go es get [] all p in
        let whole : zip (keys_of es) all ≡ m.0 = (λ i. zip (sym m.1 i) (m.2 i)) ∙ entries_whole m.0 in
        one_answer lines (Map es) (Map m.0) long
        (map_long es lines ∙ goes_on (values_long lines [] (parts es)) (λ (all : List Tree). Ok (Map (zip (keys_of es) all))) all p ∙ ap (λ (l : List (List ℕ × Tree)). Ok (Map l)) whole)
        e (map_is lines m.0 (m.3 []))

-- a mapping in which no line is left is in its long form
plain_values : (lines : ShortRules) (es : List (List ℕ × Tree)) → OfAll (λ (e : List ℕ × Tree). below_key e.0 lines ≡ []) es → (front : List Tree) → values_long lines front (parts es) ≡ Ok (front ++ values_of es)
plain_values lines [] none front = ap Ok (sym (append-nil front))
plain_values lines (e ∷ es) none front =
    values_go lines front e.0 e.1 e.1 (parts es) (ap (λ (l : ShortRules). under (Key e.0) (lengthened e.1 l)) none.0 ∙ ap (under (Key e.0)) (stays e.1))
    ∙ plain_values lines es none.1 (front ++ e.1 ∷ []) ∙ ap Ok (append_assoc front (e.1 ∷ []) (values_of es))

plain_map : (lines : ShortRules) (es : List (List ℕ × Tree)) → OfAll (λ (e : List ℕ × Tree). below_key e.0 lines ≡ []) es → IsLong lines (Map es)
plain_map lines es none = map_is lines es (plain_values lines es none [])

under_all : (lines : ShortRules) → ((key : List ℕ) → below_key key lines ≡ []) → (es : List (List ℕ × Tree)) → OfAll (λ (e : List ℕ × Tree). below_key e.0 lines ≡ []) es
under_all lines none [] = tt
under_all lines none (e ∷ es) = (none e.0, under_all lines none es)

-- a list that its form leaves is in its long form
seq_is : (lines : ShortRules) (form : Option ShortForm) (xs : List Tree) → here lines ≡ form → list_long form xs ≡ Ok (Seq xs) → IsLong lines (Seq xs)
seq_is lines form xs at e = seq_long xs lines ∙ ap (λ (f : Option ShortForm). list_long f xs) at ∙ e

-- a list of pairs is a mapping in its long form, and another one stays
mapping_is : (lines : ShortRules) (form : PairForm) (xs : List Tree) → Goes lines → here lines ≡ Some (Mapping form) → (made : Option (List (List ℕ × Tree))) → pairs_from (cut_by form) xs [] ≡ made
    → IsLong lines (option_map_or Map made (Seq xs))
mapping_is lines form xs go at None e = seq_is lines (Some (Mapping form)) xs at (ap (λ (made : Option (List (List ℕ × Tree))). Ok (option_map_or Map made (Seq xs))) e)
mapping_is lines form xs go at (Some es) e = let g = go_here (Mapping form) lines lines at go in plain_map lines es (under_all lines (λ key. none_in_mapping form key lines g) es)

-- a tree that is no text
abbrev IsNoText : Tree → Type 0
IsNoText tree = text_in (out-Tree tree) ≡ None

no_texts : (made : Made) (at : ℕ) (done items : List Tree) → OfAll IsNoText items → entries_from made at done items ≡ Ok (done ++ items)
no_texts made at done [] none = ap Ok (sym (append-nil done))
no_texts made at done (item ∷ items) none =
    goes_on (entries_with made at done item) (λ (all : List Tree). entries_from made (at + 1) all items) (done ++ item ∷ [])
    (ap (λ (text : Option (List ℕ)). entries_for made at text item >>= λ more. Ok (done ++ more)) none.0)
    ∙ no_texts made (at + 1) (done ++ item ∷ []) items none.1 ∙ ap Ok (append_assoc done (item ∷ []) items)

map_no_text : (es : List (List ℕ × Tree)) → IsNoText (Map es)
map_no_text es = search (rules, the_lemmas)

port_no_text : (port : Port) → IsNoText (long_port port)
port_no_text port = search (rules, the_lemmas)

ports_no_texts : (ports : List Port) → OfAll IsNoText (map long_port ports)
ports_no_texts [] = tt
ports_no_texts (port ∷ ports) = (port_no_text port, ports_no_texts ports)

mount_no_text : (mount : Mount) → IsNoText (long_mount mount)
mount_no_text mount = search (rules, the_lemmas)

file_no_text : (text : List ℕ) → IsNoText (file_entry text)
file_no_text text = search (rules, the_lemmas)

-- what a text stands for is no text
made_no_texts : (form : EntryForm) (text : List ℕ) (made : List Tree) → made_by form text ≡ Some made → OfAll IsNoText made
made_no_texts forms.Port text made e = by (ports_of text) e
  where
    by : (ports : Option (List Port)) → option_map (map long_port) ports ≡ Some made → OfAll IsNoText made
    by None e = absurd (let wrong : ⊥ = cc in wrong)
    by (Some ports) e = let same : map long_port ports ≡ made = cc in subst (OfAll IsNoText) same (ports_no_texts ports)
made_no_texts forms.Mount text made e = by (mount_of text) e
  where
    by : (mount : Option Mount) → option_map (λ mount. long_mount mount ∷ []) mount ≡ Some made → OfAll IsNoText made
    by None e = absurd (let wrong : ⊥ = cc in wrong)
    by (Some mount) e = let same : long_mount mount ∷ [] ≡ made = cc in subst (OfAll IsNoText) same (mount_no_text mount, tt)
made_no_texts forms.File text made e = let same : file_entry text ∷ [] ≡ made = cc in subst (OfAll IsNoText) same (file_no_text text, tt)

no_texts_behind : (done made : List Tree) → OfAll IsNoText done → OfAll IsNoText made → OfAll IsNoText (done ++ made)
no_texts_behind [] made none more = more
no_texts_behind (x ∷ done) made none more = (none.0, no_texts_behind done made none.1 more)

-- behind others, what an item stands for is no text either
text_taken : (form : EntryForm) (at : ℕ) (done : List Tree) (text : List ℕ) (made : Option (List Tree)) → made_by form text ≡ made → (next : List Tree)
    → (ok_or made (BadUniqueEntry (Index (place at) ∷ [])) >>= λ more. Ok (done ++ more)) ≡ Ok next → OfAll IsNoText done → OfAll IsNoText next
text_taken form at done text None p next e none = absurd (let wrong : ⊥ = cc in wrong)
text_taken form at done text (Some made) p next e none =
    let same : done ++ made ≡ next = cc in subst (OfAll IsNoText) same (no_texts_behind done made none (made_no_texts form text made p))

item_taken : (form : EntryForm) (at : ℕ) (done : List Tree) (item : Tree) (text : Option (List ℕ)) → text_in (out-Tree item) ≡ text → (next : List Tree)
    → (entries_for (made_by form) at text item >>= λ more. Ok (done ++ more)) ≡ Ok next → OfAll IsNoText done → OfAll IsNoText next
item_taken form at done item None p next e none =
    let same : done ++ item ∷ [] ≡ next = cc in subst (OfAll IsNoText) same (no_texts_behind done (item ∷ []) none (p, tt))
item_taken form at done item (Some text) p next e none = text_taken form at done text (made_by form text) refl next e none

-- the items of a list of entries in its long form are no texts
entries_made : (form : EntryForm) (at : ℕ) (done items all : List Tree) → entries_from (made_by form) at done items ≡ Ok all → OfAll IsNoText done → OfAll IsNoText all
entries_made form at done [] all e none = let same : done ≡ all = cc in subst (OfAll IsNoText) same none
entries_made form at done (item ∷ items) all e none = by (entries_with (made_by form) at done item) refl (λ (next : List Tree). entries_made form (at + 1) next items all)
  where
    by : (r : Result (List Tree) MergeRefusal) → entries_with (made_by form) at done item ≡ r
        → ((next : List Tree) → entries_from (made_by form) (at + 1) next items ≡ Ok all → OfAll IsNoText next → OfAll IsNoText all) → OfAll IsNoText all
    by (Err refusal) p more = absurd (stops (entries_with (made_by form) at done item) (λ (next : List Tree). entries_from (made_by form) (at + 1) next items) all refusal p e)
    by (Ok next) p more =
        more next (sym (goes_on (entries_with (made_by form) at done item) (λ (next : List Tree). entries_from (made_by form) (at + 1) next items) next p) ∙ e)
        (item_taken form at done item (text_in (out-Tree item)) refl next p none)

entries_get : (xs : List Tree) (form : EntryForm) (lines : ShortRules) → here lines ≡ Some (Entries form) → (long : Tree) → lengthened (Seq xs) lines ≡ Ok long → IsLong lines long
entries_get xs form lines at long e = by (entries_from (made_by form) 0 [] xs) refl
  where
    opened : lengthened (Seq xs) lines ≡ entries_long (made_by form) xs
    opened = seq_long xs lines ∙ ap (λ (f : Option ShortForm). list_long f xs) at

    by : (r : Result (List Tree) MergeRefusal) → entries_from (made_by form) 0 [] xs ≡ r → IsLong lines long
    by (Err refusal) p = absurd (stops (entries_from (made_by form) 0 [] xs) (λ (all : List Tree). Ok (Seq all)) long refusal p (sym opened ∙ e))
    by (Ok all) p =
        one_answer lines (Seq xs) (Seq all) long (opened ∙ goes_on (entries_from (made_by form) 0 [] xs) (λ (all : List Tree). Ok (Seq all)) all p) e
        (seq_is lines (Some (Entries form)) all at
        (goes_on (entries_from (made_by form) 0 [] all) (λ (all : List Tree). Ok (Seq all)) all (no_texts (made_by form) 0 [] all (entries_made form 0 [] xs all p tt))))

seq_gets : (xs : List Tree) → GetsLong (Seq xs)
seq_gets xs lines go long e = by (here lines) refl
  where
    opens : (form : Option ShortForm) → here lines ≡ form → lengthened (Seq xs) lines ≡ list_long form xs
    opens form at = seq_long xs lines ∙ ap (λ (f : Option ShortForm). list_long f xs) at

    left : (form : Option ShortForm) → here lines ≡ form → list_long form xs ≡ Ok (Seq xs) → IsLong lines long
    left form at is = one_answer lines (Seq xs) (Seq xs) long (opens form at ∙ is) e (seq_is lines form xs at is)

    by : (form : Option ShortForm) → here lines ≡ form → IsLong lines long
    by None at = left None at refl
    by (Some (Mapping form)) at =
        one_answer lines (Seq xs) (mapping_of (cut_by form) xs) long (opens (Some (Mapping form)) at) e (mapping_is lines form xs go at (pairs_from (cut_by form) xs []) refl)
    by (Some (Entries form)) at = entries_get xs form lines at long e
    by (Some OneText) at = left (Some OneText) at refl
    by (Some Context) at = left (Some Context) at refl
    by (Some Test) at = left (Some Test) at refl
    by (Some Words) at = left (Some Words) at refl

scalar_opens : (text : List ℕ) (lines : ShortRules) → lengthened (Scalar text) lines ≡ Ok (text_long (here lines) text)
scalar_opens text lines = search (rules, the_lemmas)

-- the long form of a text, by what the form there says
scalar_long : (text : List ℕ) (lines : ShortRules) (form : Option ShortForm) → here lines ≡ form → lengthened (Scalar text) lines ≡ Ok (text_long form text)
scalar_long text lines form at = scalar_opens text lines ∙ ap (λ (f : Option ShortForm). Ok (text_long f text)) at

words_are : (text : List ℕ) (lines : ShortRules) → here lines ≡ Some Words → (words : Option (List (List ℕ))) → words_of text ≡ words → IsLong lines (option_map_or (λ words. Seq (map Scalar words)) words (Scalar text))
words_are text lines at None p =
    scalar_long text lines (Some Words) at ∙ ap (λ (words : Option (List (List ℕ))). Ok (option_map_or (λ words. Seq (map Scalar words)) words (Scalar text))) p
words_are text lines at (Some words) p = seq_is lines (Some Words) (map Scalar words) at refl

scalar_gets : (text : List ℕ) → GetsLong (Scalar text)
scalar_gets text lines go long e = by (here lines) refl
  where
    left : (form : Option ShortForm) → here lines ≡ form → IsLong lines (text_long form text) → IsLong lines long
    left form at is = one_answer lines (Scalar text) (text_long form text) long (scalar_long text lines form at) e is

    by : (form : Option ShortForm) → here lines ≡ form → IsLong lines long
    by None at = left None at (scalar_long text lines None at)
    by (Some (Mapping form)) at = left (Some (Mapping form)) at (scalar_long text lines (Some (Mapping form)) at)
    by (Some (Entries form)) at = left (Some (Entries form)) at (scalar_long text lines (Some (Entries form)) at)
    by (Some OneText) at = left (Some OneText) at (seq_is lines (Some OneText) (Scalar text ∷ []) at refl)
    by (Some Context) at = left (Some Context) at (plain_map lines ((codes "context", Scalar text) ∷ []) (none_in_context lines (go_here Context lines lines at go), tt))
    by (Some Test) at = left (Some Test) at (seq_is lines (Some Test) (Scalar (codes "CMD-SHELL") ∷ Scalar text ∷ []) at refl)
    by (Some Words) at = left (Some Words) at (words_are text lines at (words_of text) refl)

null_opens : (lines : ShortRules) → lengthened Null lines ≡ Ok Null
null_opens lines = search (rules, the_lemmas)

reset_opens : (lines : ShortRules) → lengthened Reset lines ≡ Ok Reset
reset_opens lines = search (rules, the_lemmas)

mark_opens : (inner : Tree) (lines : ShortRules) → lengthened (Override inner) lines ≡ (lengthened inner lines >>= λ tree. Ok (Override tree))
mark_opens inner lines = search (rules, the_lemmas)

mark_gets : (inner : Tree) → GetsLong inner → GetsLong (Override inner)
mark_gets inner get lines go long e = by (lengthened inner lines) refl
  where
    by : (r : Result Tree MergeRefusal) → lengthened inner lines ≡ r → IsLong lines long
    by (Err refusal) p = absurd (stops (lengthened inner lines) (λ (tree : Tree). Ok (Override tree)) long refusal p (sym (mark_opens inner lines) ∙ e))
    by (Ok made) p =
        one_answer lines (Override inner) (Override made) long (mark_opens inner lines ∙ goes_on (lengthened inner lines) (λ (tree : Tree). Ok (Override tree)) made p) e
        (mark_opens made lines ∙ goes_on (lengthened made lines) (λ (tree : Tree). Ok (Override tree)) made (get lines go made p))

gets_long : (tree : Tree) → GetsLong tree
gets_long =
    of_every GetsLong
    (λ lines go long e. one_answer lines Null Null long (null_opens lines) e (null_opens lines))
    scalar_gets
    map_gets
    (λ xs get. seq_gets xs)
    (λ lines go long e. one_answer lines Reset Reset long (reset_opens lines) e (reset_opens lines))
    mark_gets

-- a tree within the limits is that tree
within_is : (tree long : Tree) → within tree ≡ Ok long → tree ≡ long
within_is tree long e = by (nat_le (node_count tree) 200000) (nat_le (text_size tree) 16777216) e
  where
    by : (nodes texts : Bool) → cond nodes (cond texts (Ok tree) (Err TooMuchText)) (Err TooManyNodes) ≡ Ok long → tree ≡ long
    by true true e = cc
    by true false e = absurd (let wrong : ⊥ = cc in wrong)
    by false texts e = absurd (let wrong : ⊥ = cc in wrong)

of_all : {X : Type 0} (f : X → Bool) (xs : List X) → list_all f xs ≡ true → OfAll (λ (x : X). f x ≡ true) xs
of_all f [] e = tt
of_all f (x ∷ xs) e = let p = and_parts (f x) (list_all f xs) e in (p.0, of_all f xs p.1)

all_are : (lines others : ShortRules) → list_all (λ line. list_all (λ other. goes line.1 (behind line.0 other.0)) others) lines ≡ true → AllGo lines others
all_are [] others e = tt
all_are (line ∷ lines) others e =
    let f : Line → Bool = λ other. goes line.1 (behind line.0 other.0) in
    let p = and_parts (list_all f others) (list_all (λ line. list_all (λ other. goes line.1 (behind line.0 other.0)) others) lines) e in
    (of_all f others p.0, all_are lines others p.1)

table_goes : Goes short_rules
unfolding short_rules
table_goes = all_are short_rules short_rules refl

-- what a file's long form is, and that it is within the limits
pub made_long : (tree long : Tree) → long_forms tree ≡ Ok long → (lengthened tree short_rules ≡ Ok long) × (within long ≡ Ok long)
unfolding long_forms
made_long tree long e = by (lengthened tree short_rules) refl
  where
    by : (r : Result Tree MergeRefusal) → lengthened tree short_rules ≡ r → (lengthened tree short_rules ≡ Ok long) × (within long ≡ Ok long)
    by (Err refusal) p = absurd (stops (lengthened tree short_rules) within long refusal p e)
    by (Ok made) p =
        let w : within made ≡ Ok long = sym (goes_on (lengthened tree short_rules) within made p) ∙ e in
        let same : made ≡ long = within_is made long w in
        (p ∙ ap Ok same, subst (λ (t : Tree). within t ≡ Ok long) same w)

pub long_forms_stay : LongFormsStay
unfolding long_forms
long_forms_stay tree long e =
    let made = made_long tree long e in
    goes_on (lengthened long short_rules) within long (gets_long tree short_rules table_goes long made.0) ∙ made.1
