-- A service that is accepted is in long forms.
use Rattle.std.proofs.Common.{◌≡◌, ◌∙◌, ◌⊎◌, ℕ, ◌+◌, Bool, true, false, cond, not, List, [], ◌∷◌, ◌++◌, Some, None, Ok, codes, inl, inr, refl, sym, ap, subst, rules}
use Rattle.std.specs.Prelude.{Option, ◌&&◌, ◌||◌, All, find}
use Rattle.std.specs.List.{list_all, zip}
use Rattle.std.specs.Map.{keys_of, values_of}
use Rattle.std.specs.Option.{option_map, option_or}
use Rattle.std.specs.Str.{bytes_eq}
use Rattle.std.proofs.lemmas.Bool.{and_parts}
use Rattle.std.proofs.lemmas.List.{append-nil, append_assoc}
use Rattle.std.proofs.lemmas.List.Elements.{All-head, All-tail}
use Rattle.std.proofs.lemmas.Slice.Eq.{bytes_eq-Decides}
use Rattle.tree_base.specs.Answers.{◌>>=◌}
use Rattle.tree_base.specs.declared.Step.TheVariants.{Key}
use Rattle.tree_base.specs.declared.tree.Tree.{Tree, out-Tree, roll-Tree, roll-out-Tree, the_lemmas}
use Rattle.tree_base.specs.declared.tree.Tree.TheOpen.{Tree-F}
use Rattle.tree_base.specs.declared.tree.Tree.TheVariants.{Map, Null, Scalar, Seq, rolls-Map, rolls-Null, rolls-Scalar, rolls-Seq}
use Rattle.attribute_paths.proofs.Trees.{OfAll}
use Rattle.attribute_paths.specs.Patterns.{Pattern, any_item, any_key, below_key, here, named}
use Rattle.attribute_types.specs.Tables.{Lines, form_of, host_lines, joining_lines, line_of, process_lines, resource_lines, running_lines}
use Rattle.attribute_types.specs.declared.attribute.Attribute.{Attribute}
use Rattle.attribute_types.specs.declared.form.Form.{Form}
use Rattle.attribute_scalars.specs.Walks.{Entries, is_extension, is_in, own_entries, with_wanting}
use Rattle.attribute_values.specs.Fields as fields
use Rattle.attribute_rows.specs.Attributes.{attribute_by, attribute_under, form_value, wanted_of_service}
use Rattle.file_paths.specs.Shapes.{is_mapping, is_scalar, mapping_of, or_null, sequence_of}
use Rattle.merge_tables.specs.declared.rules.ShortForm.{ShortForm}
use Rattle.merge_tables.specs.declared.rules.ShortForm.TheVariants as shorts
use Rattle.merge_tables.specs.Answers.{under}
use Rattle.merge_tables.specs.Attributes.{ShortRules, short_rules}
use Rattle.long_forms.specs.LongForms.{Made, entries_for, entries_from, entries_with, lengthened, list_long, made_by, text_long, values_long}
use Rattle.merge_tables.specs.Spots.{service_forms, services_forms}
use Rattle.merge_tables.specs.Parts.{text_in}
use Rattle.merge_tables.proofs.Answering.{goes_on}
use Rattle.long_forms.proofs.Lengthening.{entries_whole, map_long, parts, seq_long, stays, values_go}
use Rattle.laws_attributes.proofs.Entering.{IsRead, of_all, of_own, sorted_read, unwanted, weaker}
use Rattle.laws_attributes.proofs.Looks.{Kind, a_check, a_mapping, a_text, anything, bound, form_kind, form_looks, is_checked, looks, maps, pairs, rows, texts}
use Rattle.laws_attributes.specs.Accepted.{AcceptedServicesAreLong, IsLongIfLoose, little_asked}

-- lines under which a text, texts or mappings in a list, and a mapping stay as they are
abbrev keeps_text : Option ShortForm → Bool
keeps_text None = true
keeps_text (Some (shorts.Mapping form)) = true
keeps_text (Some (shorts.Entries form)) = true
keeps_text (Some shorts.OneText) = false
keeps_text (Some shorts.Context) = false
keeps_text (Some shorts.Test) = false
keeps_text (Some shorts.Words) = false

abbrev keeps_texts : Option ShortForm → Bool
keeps_texts (Some (shorts.Mapping form)) = false
keeps_texts (Some (shorts.Entries form)) = false
keeps_texts form = true

abbrev keeps_maps : Option ShortForm → Bool
keeps_maps (Some (shorts.Mapping form)) = false
keeps_maps form = true

abbrev ends_here : Pattern → Bool
ends_here [] = true
ends_here (part ∷ more) = false

abbrev all_end : ShortRules → Bool
all_end lines = list_all (λ line. ends_here line.0) lines

-- a line that goes on at one key alone
abbrev goes_at : List ℕ → Pattern → Bool
goes_at key [] = true
goes_at key (named name ∷ more) = bytes_eq name key
goes_at key (any_key ∷ more) = false
goes_at key (any_item ∷ more) = true

abbrev of_check : ShortRules → Bool
of_check lines = list_all (λ line. goes_at (codes "test") line.0) lines && keeps_texts (here (below_key (codes "test") lines))

abbrev is_none : ShortRules → Bool
is_none [] = true
is_none (line ∷ lines) = false

-- lines under which a tree that looks so is in its long form
abbrev pub agrees : Kind → ShortRules → Bool
agrees a_text lines = keeps_text (here lines)
agrees texts lines = keeps_texts (here lines)
agrees maps lines = keeps_maps (here lines)
agrees pairs lines = all_end lines
agrees rows lines = all_end lines
agrees a_mapping lines = all_end lines
agrees a_check lines = of_check lines
agrees anything lines = is_none lines

abbrev pub IsLong : ShortRules → Tree → Type 0
IsLong lines tree = lengthened tree lines ≡ Ok tree

-- trees by what they open to
pub null_out : (tree : Tree) → out-Tree tree ≡ Tree-F.Null → tree ≡ Null
null_out tree is = sym (roll-out-Tree tree) ∙ ap roll-Tree is ∙ rolls-Null

scalar_out : (tree : Tree) (text : List ℕ) → out-Tree tree ≡ Tree-F.Scalar text → tree ≡ Scalar text
scalar_out tree text is = sym (roll-out-Tree tree) ∙ ap roll-Tree is ∙ rolls-Scalar text

pub map_out : (tree : Tree) (es : Entries) → out-Tree tree ≡ Tree-F.Map es → tree ≡ Map es
map_out tree es is = sym (roll-out-Tree tree) ∙ ap roll-Tree is ∙ rolls-Map es

seq_out : (tree : Tree) (items : List Tree) → out-Tree tree ≡ Tree-F.Seq items → tree ≡ Seq items
seq_out tree items is = sym (roll-out-Tree tree) ∙ ap roll-Tree is ∙ rolls-Seq items

pub null_long : (lines : ShortRules) → IsLong lines Null
null_long lines = search (rules, the_lemmas)

scalar_opens : (text : List ℕ) (lines : ShortRules) → lengthened (Scalar text) lines ≡ Ok (text_long (here lines) text)
scalar_opens text lines = search (rules, the_lemmas)

text_stays : (form : Option ShortForm) (text : List ℕ) → keeps_text form ≡ true → text_long form text ≡ Scalar text
text_stays None text e = refl
text_stays (Some (shorts.Mapping form)) text e = refl
text_stays (Some (shorts.Entries form)) text e = refl
text_stays (Some shorts.OneText) text e = absurd (cc e)
text_stays (Some shorts.Context) text e = absurd (cc e)
text_stays (Some shorts.Test) text e = absurd (cc e)
text_stays (Some shorts.Words) text e = absurd (cc e)

text_is_long : (lines : ShortRules) (text : List ℕ) → keeps_text (here lines) ≡ true → IsLong lines (Scalar text)
text_is_long lines text e = scalar_opens text lines ∙ ap (λ (t : Tree). Ok t) (text_stays (here lines) text e)

-- lists
texts_stay : (form : Option ShortForm) (items : List Tree) → keeps_texts form ≡ true → list_long form items ≡ Ok (Seq items)
texts_stay None items e = refl
texts_stay (Some (shorts.Mapping form)) items e = absurd (cc e)
texts_stay (Some (shorts.Entries form)) items e = absurd (cc e)
texts_stay (Some shorts.OneText) items e = refl
texts_stay (Some shorts.Context) items e = refl
texts_stay (Some shorts.Test) items e = refl
texts_stay (Some shorts.Words) items e = refl

texts_are_long : (lines : ShortRules) (items : List Tree) → keeps_texts (here lines) ≡ true → IsLong lines (Seq items)
texts_are_long lines items e = seq_long items lines ∙ texts_stay (here lines) items e

no_text : (s : Tree-F Tree) → is_mapping s ≡ true → text_in s ≡ None
no_text Tree-F.Null e = refl
no_text (Tree-F.Scalar text) e = absurd (cc e)
no_text (Tree-F.Map es) e = refl
no_text (Tree-F.Seq items) e = refl
no_text Tree-F.Reset e = refl
no_text (Tree-F.Override inner) e = refl

no_texts : (made : Made) (at : ℕ) (done items : List Tree) → OfAll (λ item. is_mapping (out-Tree item) ≡ true) items → entries_from made at done items ≡ Ok (done ++ items)
no_texts made at done [] h = ap (λ (l : List Tree). Ok l) (sym (append-nil done))
no_texts made at done (item ∷ items) h =
    goes_on (entries_with made at done item) (λ (all : List Tree). entries_from made (at + 1) all items) (done ++ item ∷ [])
    (ap (λ (text : Option (List ℕ)). entries_for made at text item >>= λ more. Ok (done ++ more)) (no_text (out-Tree item) h.0))
    ∙ no_texts made (at + 1) (done ++ item ∷ []) items h.1 ∙ ap (λ (l : List Tree). Ok l) (append_assoc done (item ∷ []) items)

maps_stay : (form : Option ShortForm) (items : List Tree) → keeps_maps form ≡ true → OfAll (λ item. is_mapping (out-Tree item) ≡ true) items → list_long form items ≡ Ok (Seq items)
maps_stay None items e h = refl
maps_stay (Some (shorts.Mapping form)) items e h = absurd (cc e)
maps_stay (Some (shorts.Entries form)) items e h = goes_on (entries_from (made_by form) 0 [] items) (λ (all : List Tree). Ok (Seq all)) items (no_texts (made_by form) 0 [] items h)
maps_stay (Some shorts.OneText) items e h = refl
maps_stay (Some shorts.Context) items e h = refl
maps_stay (Some shorts.Test) items e h = refl
maps_stay (Some shorts.Words) items e h = refl

-- a mapping of values that are in their long forms
abbrev pub Keeps : ShortRules → List ℕ × Tree → Type 0
Keeps lines entry = lengthened entry.1 (below_key entry.0 lines) ≡ Ok entry.1

values_stay : (lines : ShortRules) (es : Entries) (done : List Tree) → OfAll (Keeps lines) es → values_long lines done (parts es) ≡ Ok (done ++ values_of es)
values_stay lines [] done keep = ap (λ (l : List Tree). Ok l) (sym (append-nil done))
values_stay lines (e ∷ es) done keep =
    values_go lines done e.0 e.1 e.1 (parts es) (ap (under (Key e.0)) keep.0)
    ∙ values_stay lines es (done ++ e.1 ∷ []) keep.1
    ∙ ap (λ (l : List Tree). Ok l) (append_assoc done (e.1 ∷ []) (values_of es))

pub mapping_stays : (lines : ShortRules) (es : Entries) → OfAll (Keeps lines) es → lengthened (Map es) lines ≡ Ok (Map es)
mapping_stays lines es keep =
    map_long es lines
    ∙ goes_on (values_long lines [] (parts es)) (λ (all : List Tree). Ok (Map (zip (keys_of es) all))) (values_of es) (values_stay lines es [] keep)
    ∙ ap (λ (l : Entries). Ok (Map l)) (entries_whole es)

-- nothing goes on where all ends
none_below : (lines : ShortRules) (key : List ℕ) → all_end lines ≡ true → below_key key lines ≡ []
none_below [] key e = refl
none_below (([], form) ∷ lines) key e = none_below lines key e
none_below ((part ∷ more, form) ∷ lines) key e = absurd (cc e)

nothing_below : (lines : ShortRules) (es : Entries) → ((key : List ℕ) → below_key key lines ≡ []) → OfAll (Keeps lines) es
nothing_below lines [] none = tt
nothing_below lines (e ∷ es) none = (ap (lengthened e.1) (none e.0) ∙ stays e.1, nothing_below lines es none)

mapping_is_long : (lines : ShortRules) (es : Entries) → all_end lines ≡ true → IsLong lines (Map es)
mapping_is_long lines es e = mapping_stays lines es (nothing_below lines es (λ key. none_below lines key e))

-- what goes on at one key alone goes on at no other
none_at : (lines : ShortRules) (at key : List ℕ) → bytes_eq key at ≡ false → list_all (λ line. goes_at at line.0) lines ≡ true → below_key key lines ≡ []
none_at [] at key other e = refl
none_at (([], form) ∷ lines) at key other e = none_at lines at key other e
none_at ((named name ∷ more, form) ∷ lines) at key other e =
    let both = and_parts (bytes_eq name at) (list_all (λ line. goes_at at line.0) lines) e in by (bytes_eq name key) refl both.0 (none_at lines at key other both.1)
  where
    by : (b : Bool) → bytes_eq name key ≡ b → bytes_eq name at ≡ true → below_key key lines ≡ [] → cond b ((more, form) ∷ []) [] ++ below_key key lines ≡ []
    by true is same rest =
        let one : name ≡ key = (bytes_eq-Decides name key).0 is in
        let bad : true ≡ false = sym (ap (λ (n : List ℕ). bytes_eq n at) (sym one) ∙ same) ∙ other in absurd (cc bad)
    by false is same rest = rest
none_at ((any_key ∷ more, form) ∷ lines) at key other e = absurd (cc e)
none_at ((any_item ∷ more, form) ∷ lines) at key other e = none_at lines at key other e

-- trees that look so are in their long forms
module _ (lines : ShortRules) (tree : Tree) where
  as_text : (s : Tree-F Tree) → out-Tree tree ≡ s → keeps_text (here lines) ≡ true → or_null is_scalar s ≡ true → IsLong lines tree
  as_text Tree-F.Null is a e = subst (IsLong lines) (sym (null_out tree is)) (null_long lines)
  as_text (Tree-F.Scalar text) is a e = subst (IsLong lines) (sym (scalar_out tree text is)) (text_is_long lines text a)
  as_text (Tree-F.Map es) is a e = absurd (cc e)
  as_text (Tree-F.Seq items) is a e = absurd (cc e)
  as_text Tree-F.Reset is a e = absurd (cc e)
  as_text (Tree-F.Override inner) is a e = absurd (cc e)

  as_texts : (s : Tree-F Tree) → out-Tree tree ≡ s → keeps_texts (here lines) ≡ true → or_null (sequence_of is_scalar) s ≡ true → IsLong lines tree
  as_texts Tree-F.Null is a e = subst (IsLong lines) (sym (null_out tree is)) (null_long lines)
  as_texts (Tree-F.Scalar text) is a e = absurd (cc e)
  as_texts (Tree-F.Map es) is a e = absurd (cc e)
  as_texts (Tree-F.Seq items) is a e = subst (IsLong lines) (sym (seq_out tree items is)) (texts_are_long lines items a)
  as_texts Tree-F.Reset is a e = absurd (cc e)
  as_texts (Tree-F.Override inner) is a e = absurd (cc e)

  as_maps : (s : Tree-F Tree) → out-Tree tree ≡ s → keeps_maps (here lines) ≡ true → or_null (sequence_of is_mapping) s ≡ true → IsLong lines tree
  as_maps Tree-F.Null is a e = subst (IsLong lines) (sym (null_out tree is)) (null_long lines)
  as_maps (Tree-F.Scalar text) is a e = absurd (cc e)
  as_maps (Tree-F.Map es) is a e = absurd (cc e)
  as_maps (Tree-F.Seq items) is a e =
      subst (IsLong lines) (sym (seq_out tree items is)) (seq_long items lines ∙ maps_stay (here lines) items a (of_all (λ item. is_mapping (out-Tree item)) items e))
  as_maps Tree-F.Reset is a e = absurd (cc e)
  as_maps (Tree-F.Override inner) is a e = absurd (cc e)

  as_mapping : (test : Tree-F Tree → Bool) → ((s : Tree-F Tree) → test s ≡ true → is_mapping s ≡ true) → (s : Tree-F Tree) → out-Tree tree ≡ s → all_end lines ≡ true → or_null test s ≡ true → IsLong lines tree
  as_mapping test so Tree-F.Null is a e = subst (IsLong lines) (sym (null_out tree is)) (null_long lines)
  as_mapping test so (Tree-F.Scalar text) is a e = absurd (cc (so (Tree-F.Scalar text) e))
  as_mapping test so (Tree-F.Map es) is a e = subst (IsLong lines) (sym (map_out tree es is)) (mapping_is_long lines es a)
  as_mapping test so (Tree-F.Seq items) is a e = absurd (cc (so (Tree-F.Seq items) e))
  as_mapping test so Tree-F.Reset is a e = absurd (cc (so Tree-F.Reset e))
  as_mapping test so (Tree-F.Override inner) is a e = absurd (cc (so (Tree-F.Override inner) e))

of_mapping : (test : Tree-F Tree → Bool) (s : Tree-F Tree) → mapping_of test s ≡ true → is_mapping s ≡ true
of_mapping test Tree-F.Null e = absurd (cc e)
of_mapping test (Tree-F.Scalar text) e = absurd (cc e)
of_mapping test (Tree-F.Map es) e = refl
of_mapping test (Tree-F.Seq items) e = absurd (cc e)
of_mapping test Tree-F.Reset e = absurd (cc e)
of_mapping test (Tree-F.Override inner) e = absurd (cc e)

-- a health check, whose command alone has a short form
module _ (lines : ShortRules) (only : list_all (λ line. goes_at (codes "test") line.0) lines ≡ true) (keeps : keeps_texts (here (below_key (codes "test") lines)) ≡ true) where
  field_stays : (entry : List ℕ × Tree) → is_checked entry ≡ true → Keeps lines entry
  field_stays entry e = at (bytes_eq entry.0 (codes "test")) refl e
    where
      at : (b : Bool) → bytes_eq entry.0 (codes "test") ≡ b → (not b || or_null (sequence_of is_scalar) (out-Tree entry.1)) ≡ true → Keeps lines entry
      at true is f =
          let name : entry.0 ≡ codes "test" = (bytes_eq-Decides entry.0 (codes "test")).0 is in
          as_texts (below_key entry.0 lines) entry.1 (out-Tree entry.1) refl (ap (λ (n : List ℕ). keeps_texts (here (below_key n lines))) name ∙ keeps) f
      at false is f = ap (lengthened entry.1) (none_at lines (codes "test") entry.0 is only) ∙ stays entry.1

  fields_stay : (es : Entries) → list_all is_checked es ≡ true → OfAll (Keeps lines) es
  fields_stay es e = weaker (λ entry. is_checked entry ≡ true) (Keeps lines) field_stays es (of_all is_checked es e)

  as_check : (tree : Tree) (s : Tree-F Tree) → out-Tree tree ≡ s → or_null (looks a_check) s ≡ true → IsLong lines tree
  as_check tree Tree-F.Null is e = subst (IsLong lines) (sym (null_out tree is)) (null_long lines)
  as_check tree (Tree-F.Scalar text) is e = absurd (cc e)
  as_check tree (Tree-F.Map es) is e = subst (IsLong lines) (sym (map_out tree es is)) (mapping_stays lines es (fields_stay es e))
  as_check tree (Tree-F.Seq items) is e = absurd (cc e)
  as_check tree Tree-F.Reset is e = absurd (cc e)
  as_check tree (Tree-F.Override inner) is e = absurd (cc e)

as_anything : (lines : ShortRules) (tree : Tree) → is_none lines ≡ true → IsLong lines tree
as_anything [] tree e = stays tree
as_anything (line ∷ lines) tree e = absurd (cc e)

pub looks_long : (kind : Kind) (lines : ShortRules) (tree : Tree) → agrees kind lines ≡ true → or_null (looks kind) (out-Tree tree) ≡ true → IsLong lines tree
looks_long a_text lines tree a e = as_text lines tree (out-Tree tree) refl a e
looks_long texts lines tree a e = as_texts lines tree (out-Tree tree) refl a e
looks_long maps lines tree a e = as_maps lines tree (out-Tree tree) refl a e
looks_long pairs lines tree a e = as_mapping lines tree (mapping_of (or_null is_scalar)) (of_mapping (or_null is_scalar)) (out-Tree tree) refl a e
looks_long rows lines tree a e = as_mapping lines tree (mapping_of (or_null is_mapping)) (of_mapping (or_null is_mapping)) (out-Tree tree) refl a e
looks_long a_mapping lines tree a e = as_mapping lines tree is_mapping (λ s h. h) (out-Tree tree) refl a e
looks_long a_check lines tree a e =
    let both = and_parts (list_all (λ line. goes_at (codes "test") line.0) lines) (keeps_texts (here (below_key (codes "test") lines))) a in
    as_check lines both.0 both.1 tree (out-Tree tree) refl e
looks_long anything lines tree a e = as_anything lines tree a

-- each line of the tables agrees with the short form of its attribute, or little is asked of it
abbrev fits_line : List ℕ × Form → Bool
fits_line line = is_in little_asked line.0 || agrees (form_kind line.1) (below_key line.0 service_forms)

process_fits : list_all fits_line process_lines ≡ true
unfolding process_lines service_forms services_forms short_rules
process_fits = refl

host_fits : list_all fits_line host_lines ≡ true
unfolding host_lines service_forms services_forms short_rules
host_fits = refl

resource_fits : list_all fits_line resource_lines ≡ true
unfolding resource_lines service_forms services_forms short_rules
resource_fits = refl

joining_fits : list_all fits_line joining_lines ≡ true
unfolding joining_lines service_forms services_forms short_rules
joining_fits = refl

running_fits : list_all fits_line running_lines ≡ true
unfolding running_lines service_forms services_forms short_rules
running_fits = refl

line_fits : (lines : Lines Form) → list_all fits_line lines ≡ true → (name : List ℕ) (form : Form) → line_of lines name ≡ Some form → fits_line (name, form) ≡ true
line_fits [] h name form e = absurd (cc e)
line_fits (l ∷ ls) h name form e =
    let both = and_parts (fits_line l) (list_all fits_line ls) h in at (bytes_eq l.0 name) refl both.0 (line_fits ls both.1 name form) e
  where
    at : (b : Bool) → bytes_eq l.0 name ≡ b → fits_line l ≡ true → (line_of ls name ≡ Some form → fits_line (name, form) ≡ true)
        → option_map (λ line. line.1) (cond b (Some l) (find (λ (line : List ℕ × Form). bytes_eq line.0 name) ls)) ≡ Some form → fits_line (name, form) ≡ true
    at true is p more f =
        let same : l.1 ≡ form = cc f in
        let text : l.0 ≡ name = (bytes_eq-Decides l.0 name).0 is in
        let whole : l ≡ (name, form) = (λ i. (text i, same i)) in subst (λ (line : List ℕ × Form). fits_line line ≡ true) whole p
    at false is p more f = more f

or_either : (o p : Option Form) (form : Form) → option_or o p ≡ Some form → (o ≡ Some form) ⊎ (p ≡ Some form)
or_either None p form e = inr e
or_either (Some other) p form e = inl e

form_fits : (name : List ℕ) (form : Form) → form_of name ≡ Some form → fits_line (name, form) ≡ true
form_fits name form e =
    elim (or_either (line_of process_lines name) _ form e) [
      | inl a ↦ line_fits process_lines process_fits name form a
      | inr b ↦ elim (or_either (line_of host_lines name) _ form b) [
        | inl a ↦ line_fits host_lines host_fits name form a
        | inr b ↦ elim (or_either (line_of resource_lines name) _ form b) [
          | inl a ↦ line_fits resource_lines resource_fits name form a
          | inr b ↦ elim (or_either (line_of joining_lines name) _ form b) [
            | inl a ↦ line_fits joining_lines joining_fits name form a
            | inr b ↦ line_fits running_lines running_fits name form b
          ]
        ]
      ]
    ]

-- no line goes on at a key that extends a file
abbrev pub is_named : Pattern → Bool
is_named [] = true
is_named (named name ∷ more) = not (is_extension name)
is_named (any_key ∷ more) = false
is_named (any_item ∷ more) = true

pub none_extends : (lines : ShortRules) (key : List ℕ) → is_extension key ≡ true → list_all (λ line. is_named line.0) lines ≡ true → below_key key lines ≡ []
none_extends [] key ext e = refl
none_extends (([], form) ∷ lines) key ext e = none_extends lines key ext e
none_extends ((named name ∷ more, form) ∷ lines) key ext e =
    let both = and_parts (not (is_extension name)) (list_all (λ line. is_named line.0) lines) e in by (bytes_eq name key) refl both.0 (none_extends lines key ext both.1)
  where
    by : (b : Bool) → bytes_eq name key ≡ b → not (is_extension name) ≡ true → below_key key lines ≡ [] → cond b ((more, form) ∷ []) [] ++ below_key key lines ≡ []
    by true is own rest =
        let one : name ≡ key = (bytes_eq-Decides name key).0 is in
        let bad : false ≡ true = sym (ap (λ (n : List ℕ). not (is_extension n)) one ∙ ap not ext) ∙ own in absurd (cc bad)
    by false is own rest = rest
none_extends ((any_key ∷ more, form) ∷ lines) key ext e = absurd (cc e)
none_extends ((any_item ∷ more, form) ∷ lines) key ext e = none_extends lines key ext e

service_names : list_all (λ line. is_named line.0) service_forms ≡ true
unfolding service_forms services_forms short_rules
service_names = refl

-- an entry that is read
module _ (wanted : List (List ℕ)) (beside : Entries) (entry : List ℕ × Tree) (loose : IsLongIfLoose entry) where
  by_look : (form : Form) → form_of entry.0 ≡ Some form → or_null (looks (form_kind form)) (out-Tree entry.1) ≡ true → Keeps service_forms entry
  by_look form is look = at (is_in little_asked entry.0) refl (form_fits entry.0 form is)
    where
      at : (b : Bool) → is_in little_asked entry.0 ≡ b → (b || agrees (form_kind form) (below_key entry.0 service_forms)) ≡ true → Keeps service_forms entry
      at true little a = loose little
      at false little a = looks_long (form_kind form) (below_key entry.0 service_forms) entry.1 a look

  by_form : (o : Option Form) → form_of entry.0 ≡ o → (found : List Attribute) → attribute_by o (is_in wanted entry.0) beside entry.0 entry.1 ≡ Ok found → Keeps service_forms entry
  by_form None is found e = absurd (cc e)
  by_form (Some form) is found e =
      let b = bound (form_value form (is_in wanted entry.0) beside entry.1) (λ value. Ok (fields.named entry.0 value)) found e in
      by_look form is (form_looks form (is_in wanted entry.0) beside entry.1 b.0 b.1)

  read_long : (is_extension entry.0 ≡ false → IsRead (attribute_under wanted beside) entry) → Keeps service_forms entry
  read_long read = at (is_extension entry.0) refl
    where
      at : (b : Bool) → is_extension entry.0 ≡ b → Keeps service_forms entry
      at true is = ap (lengthened entry.1) (none_extends service_forms entry.0 is service_names) ∙ stays entry.1
      at false is = let r = read is in by_form (form_of entry.0) refl r.0 r.1

all_long : (wanted : List (List ℕ)) (beside es : Entries) → All IsLongIfLoose es → OfAll (λ e. is_extension e.0 ≡ false → IsRead (attribute_under wanted beside) e) es → OfAll (Keeps service_forms) es
all_long wanted beside [] loose h = tt
all_long wanted beside (e ∷ es) loose h =
    (read_long wanted beside e (All-head IsLongIfLoose e es loose) h.0, all_long wanted beside es (All-tail IsLongIfLoose e es loose) h.1)

pub accepted_long : AcceptedServicesAreLong
accepted_long entries attributes e loose =
    let es = own_entries entries in
    let wanted = wanted_of_service es in
    let read = unwanted (IsRead (attribute_under wanted es)) wanted es (sorted_read (attribute_under wanted es) (with_wanting wanted es) attributes e) in
    mapping_stays service_forms entries (all_long wanted es entries loose (of_own (IsRead (attribute_under wanted es)) entries read))
