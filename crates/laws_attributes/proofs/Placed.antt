-- A file has the same long forms with an attribute and with its long form in that place.
use Rattle.std.proofs.Common.{◌≡◌, ◌∙◌, ℕ, Bool, true, false, cond, List, [], ◌∷◌, ◌++◌, Result, Ok, Err, refl, sym, ap}
use Rattle.std.specs.List.{zip}
use Rattle.std.specs.Map.{keys_of}
use Rattle.std.specs.Str.{bytes_eq}
use Rattle.std.proofs.lemmas.Slice.Eq.{bytes_eq-Decides}
use Rattle.tree_base.specs.Answers.{◌>>=◌}
use Rattle.tree_base.specs.Entries.{with_entry}
use Rattle.tree_base.specs.declared.Step.TheVariants.{Key}
use Rattle.tree_base.specs.declared.tree.Tree.{Tree, out-Tree}
use Rattle.tree_base.specs.declared.tree.Tree.TheOpen.{Tree-F}
use Rattle.tree_base.specs.declared.tree.Tree.TheVariants.{Map, Null, outs-Map, outs-Null}
use Rattle.attribute_paths.specs.Patterns.{below_key}
use Rattle.merge_tables.specs.declared.refusal.MergeRefusal.{MergeRefusal}
use Rattle.merge_tables.specs.Parts.{entries_in, field}
use Rattle.merge_tables.specs.Answers.{under, within}
use Rattle.merge_tables.specs.Attributes.{ShortRules, short_rules}
use Rattle.long_forms.specs.LongForms.{lengthened, long_forms, values_long}
use Rattle.long_forms.proofs.Lengthening.{map_long, parts}
use Rattle.long_forms.proofs.LongStays.{long_forms_stay, made_long}
use Rattle.laws_attributes.specs.Forms.{FormsAreFree, with_attribute}

abbrev Entries : Type 0
Entries = List (List ℕ × Tree)

-- the lines that hold at a path of keys
abbrev below : List (List ℕ) → ShortRules → ShortRules
below [] lines = lines
below (key ∷ path) lines = below path (below_key key lines)

-- a file of one attribute alone, key by key
alone_is : (key : List ℕ) (path : List (List ℕ)) (attribute : Tree) → with_attribute (key ∷ path) attribute Null ≡ Map ((key, with_attribute path attribute Null) ∷ [])
alone_is key path attribute = ap (λ (t : Tree-F Tree). Map (with_entry (entries_in t) key (with_attribute path attribute (field (entries_in t) key)))) outs-Null

-- a mapping of one entry, in its long form
one_long : (lines : ShortRules) (key : List ℕ) (value : Tree) → lengthened (Map ((key, value) ∷ [])) lines ≡ (under (Key key) (lengthened value (below_key key lines)) >>= λ made. Ok (Map ((key, made) ∷ [])))
one_long lines key value = map_long ((key, value) ∷ []) lines ∙ at (under (Key key) (lengthened value (below_key key lines)))
  where
    at : (r : Result Tree MergeRefusal) → ((r >>= λ made. values_long lines ([] ++ made ∷ []) []) >>= λ all. Ok (Map (zip (key ∷ []) all))) ≡ (r >>= λ made. Ok (Map ((key, made) ∷ [])))
    at (Ok made) = refl
    at (Err refusal) = refl

-- two mappings that are the same have the same entries
same_entries : (es os : Entries) → Map es ≡ Map os → es ≡ os
same_entries es os e = let seen : Tree-F.Map es ≡ Tree-F.Map os = sym (outs-Map es) ∙ ap out-Tree e ∙ outs-Map os in cc seen

abbrev first_value : Tree → Entries → Tree
first_value other [] = other
first_value other (e ∷ es) = e.1

-- the long form of an attribute, of that of a file that has it alone
inner_long : (path : List (List ℕ)) (lines : ShortRules) (attribute long : Tree) → lengthened (with_attribute path attribute Null) lines ≡ Ok (with_attribute path long Null)
    → lengthened attribute (below path lines) ≡ Ok long
inner_long [] lines attribute long e = e
inner_long (key ∷ path) lines attribute long e =
    inner_long path (below_key key lines) attribute long
    (at (lengthened (with_attribute path attribute Null) (below_key key lines))
    (sym (one_long lines key (with_attribute path attribute Null)) ∙ ap (λ (t : Tree). lengthened t lines) (sym (alone_is key path attribute)) ∙ e ∙ ap (λ (t : Tree). Ok t) (alone_is key path long)))
  where
    at : (r : Result Tree MergeRefusal) → (under (Key key) r >>= λ made. Ok (Map ((key, made) ∷ []))) ≡ Ok (Map ((key, with_attribute path long Null) ∷ [])) → r ≡ Ok (with_attribute path long Null)
    at (Ok made) f =
        let whole : Map ((key, made) ∷ []) ≡ Map ((key, with_attribute path long Null) ∷ []) = cc f in
        ap (λ (l : Entries). Ok (first_value Null l)) (same_entries ((key, made) ∷ []) ((key, with_attribute path long Null) ∷ []) whole)
    at (Err refusal) f = absurd (cc f)

module _ (lines : ShortRules) (key : List ℕ) (one other : Tree) (same : lengthened one (below_key key lines) ≡ lengthened other (below_key key lines)) where
  -- at a key that is the same
  same_there : (name : List ℕ) → bytes_eq key name ≡ true → lengthened one (below_key name lines) ≡ lengthened other (below_key name lines)
  same_there name is = let text : key ≡ name = (bytes_eq-Decides key name).0 is in ap (λ (k : List ℕ). lengthened one (below_key k lines)) (sym text) ∙ same ∙ ap (λ (k : List ℕ). lengthened other (below_key k lines)) text

  abbrev go_on : Entries → List Tree → List ℕ → Result Tree MergeRefusal → Result (List Tree) MergeRefusal
  go_on es done name read = under (Key name) read >>= λ value. values_long lines (done ++ value ∷ []) (parts es)

  -- values whose long forms are the same
  values_same : (es : Entries) (done : List Tree) → values_long lines done (parts (with_entry es key one)) ≡ values_long lines done (parts (with_entry es key other))
  values_same [] done = ap (go_on [] done key) same
  values_same (e ∷ es) done = at (bytes_eq key e.0) refl (lengthened e.1 (below_key e.0 lines)) (values_same es)
    where
      further : (r : Result Tree MergeRefusal) → ((done : List Tree) → values_long lines done (parts (with_entry es key one)) ≡ values_long lines done (parts (with_entry es key other)))
          → go_on (with_entry es key one) done e.0 r ≡ go_on (with_entry es key other) done e.0 r
      further (Ok value) more = more (done ++ value ∷ [])
      further (Err refusal) more = refl

      at : (b : Bool) → bytes_eq key e.0 ≡ b → (r : Result Tree MergeRefusal) → ((done : List Tree) → values_long lines done (parts (with_entry es key one)) ≡ values_long lines done (parts (with_entry es key other)))
          → values_long lines done (parts (cond b ((e.0, one) ∷ es) (e ∷ with_entry es key one))) ≡ values_long lines done (parts (cond b ((e.0, other) ∷ es) (e ∷ with_entry es key other)))
      at true is r more = ap (go_on es done e.0) (same_there e.0 is)
      at false is r more = further (lengthened e.1 (below_key e.0 lines)) more

  keys_same : (es : Entries) → keys_of (with_entry es key one) ≡ keys_of (with_entry es key other)
  keys_same [] = refl
  keys_same (e ∷ es) = at (bytes_eq key e.0) (keys_same es)
    where
      at : (b : Bool) → keys_of (with_entry es key one) ≡ keys_of (with_entry es key other)
          → keys_of (cond b ((e.0, one) ∷ es) (e ∷ with_entry es key one)) ≡ keys_of (cond b ((e.0, other) ∷ es) (e ∷ with_entry es key other))
      at true rest = refl
      at false rest = ap (λ (keys : List (List ℕ)). e.0 ∷ keys) rest

  -- so the mappings have the same long form
  mappings_same : (es : Entries) → lengthened (Map (with_entry es key one)) lines ≡ lengthened (Map (with_entry es key other)) lines
  mappings_same es =
      map_long (with_entry es key one) lines
      ∙ (λ i. values_same es [] i >>= λ all. Ok (Map (zip (keys_same es i) all)))
      ∙ sym (map_long (with_entry es key other) lines)

-- trees with attributes in one place whose long forms are the same
placed_same : (path : List (List ℕ)) (lines : ShortRules) (one other tree : Tree) → lengthened one (below path lines) ≡ lengthened other (below path lines)
    → lengthened (with_attribute path one tree) lines ≡ lengthened (with_attribute path other tree) lines
placed_same [] lines one other tree same = same
placed_same (key ∷ path) lines one other tree same =
    let es : Entries = entries_in (out-Tree tree) in
    mappings_same lines key (with_attribute path one (field es key)) (with_attribute path other (field es key))
    (placed_same path (below_key key lines) one other (field es key) same) es

pub forms_are_free : FormsAreFree
unfolding long_forms
forms_are_free path short long tree is =
    let first = inner_long path short_rules short long (made_long (with_attribute path short Null) (with_attribute path long Null) is).0 in
    let again = long_forms_stay (with_attribute path short Null) (with_attribute path long Null) is in
    let second = inner_long path short_rules long long (made_long (with_attribute path long Null) (with_attribute path long Null) again).0 in
    ap (λ (r : Result Tree MergeRefusal). r >>= within) (placed_same path short_rules long short tree (second ∙ sym first))
