-- Steps of bringing a tree to long forms.
use Rattle.std.proofs.Common.{◌≡◌, ◌∙◌, ℕ, List, [], ◌∷◌, ◌++◌, map, Ok, refl, sym, ap, rules}
use Rattle.std.proofs.lemmas.List.{append-nil, append_assoc}
use Rattle.std.specs.List.{zip}
use Rattle.std.specs.Map.{keys_of, values_of}
use Rattle.tree_base.specs.Answers.{◌>>=◌}
use Rattle.tree_base.specs.declared.Tree.{Tree, Map, Null, Override, Reset, Scalar, Seq, the_lemmas}
use Rattle.tree_base.specs.declared.Step.TheVariants.{Key}
use Rattle.merge_tables.specs.declared.refusal.MergeRefusal.{MergeRefusal}
use Rattle.merge_tables.specs.Answers.{Fails, under}
use Rattle.merge_tables.specs.Attributes.{ShortRules}
use Rattle.long_forms.specs.LongForms.{Lengthened, items_long, lengthened, list_long, values_long}
use Rattle.attribute_paths.specs.Patterns.{below_key, here}
use Rattle.merge_tables.proofs.Answering.{fails_on, goes_on, same_fails}
use Rattle.attribute_paths.proofs.Walks.{entries_are}
use Rattle.attribute_paths.proofs.Trees.{OfAll, of_every}

-- entries with what brings their values to long forms
abbrev pub parts : List (List ℕ × Tree) → List (List ℕ × Lengthened)
parts es = map (λ (e : List ℕ × Tree). (e.0, lengthened e.1)) es

keys_same : (es : List (List ℕ × Tree)) → keys_of (parts es) ≡ keys_of es
keys_same [] = refl
keys_same (e ∷ es) = ap (λ (l : List (List ℕ)). e.0 ∷ l) (keys_same es)

pub entries_whole : (es : List (List ℕ × Tree)) → zip (keys_of es) (values_of es) ≡ es
entries_whole [] = refl
entries_whole (e ∷ es) = ap (λ (l : List (List ℕ × Tree)). e ∷ l) (entries_whole es)

map_opens : (es : List (List ℕ × Tree)) (lines : ShortRules) → lengthened (Map es) lines ≡ (values_long lines [] (parts es) >>= λ all. Ok (Map (zip (keys_of (parts es)) all)))
map_opens es lines = search (rules, the_lemmas)

-- a mapping in long forms keeps its keys
pub map_long : (es : List (List ℕ × Tree)) (lines : ShortRules) → lengthened (Map es) lines ≡ (values_long lines [] (parts es) >>= λ all. Ok (Map (zip (keys_of es) all)))
map_long es lines = map_opens es lines ∙ ap (λ (keys : List (List ℕ)). values_long lines [] (parts es) >>= λ all. Ok (Map (zip keys all))) (keys_same es)

-- one more value, which fails or is done
pub values_fail : (lines : ShortRules) (done : List Tree) (key : List ℕ) (value : Tree) (rest : List (List ℕ × Lengthened)) (e : MergeRefusal) → Fails e (under (Key key) (lengthened value (below_key key lines)))
    → Fails e (values_long lines done ((key, lengthened value) ∷ rest))
values_fail lines done key value rest e h = fails_on e (under (Key key) (lengthened value (below_key key lines))) (λ (tree : Tree). values_long lines (done ++ tree ∷ []) rest) h

pub values_go : (lines : ShortRules) (done : List Tree) (key : List ℕ) (value made : Tree) (rest : List (List ℕ × Lengthened)) → under (Key key) (lengthened value (below_key key lines)) ≡ Ok made
    → values_long lines done ((key, lengthened value) ∷ rest) ≡ values_long lines (done ++ made ∷ []) rest
values_go lines done key value made rest h = goes_on (under (Key key) (lengthened value (below_key key lines))) (λ (tree : Tree). values_long lines (done ++ tree ∷ []) rest) made h

module _ (es : List (List ℕ × Tree)) (keys : List (List ℕ)) (values : List Tree) (lines : ShortRules) (same_keys : keys ≡ keys_of es) (same_values : values ≡ values_of es) where
  -- a mapping by its keys and its values, which fails or is done
  pub map_fails : (e : MergeRefusal) → Fails e (values_long lines [] (zip keys (map lengthened values))) → Fails e (lengthened (Map es) lines)
  map_fails e h =
      same_fails e _ _ (sym (map_long es lines))
      (fails_on e (values_long lines [] (parts es)) (λ (all : List Tree). Ok (Map (zip (keys_of es) all)))
      (same_fails e _ _ (ap (values_long lines []) (entries_are lengthened es keys values same_keys same_values)) h))

  pub map_done : (done : List Tree) → values_long lines [] (zip keys (map lengthened values)) ≡ Ok done → lengthened (Map es) lines ≡ Ok (Map (zip (keys_of es) done))
  map_done done h =
      map_long es lines
      ∙ goes_on (values_long lines [] (parts es)) (λ (all : List Tree). Ok (Map (zip (keys_of es) all))) done (sym (ap (values_long lines []) (entries_are lengthened es keys values same_keys same_values)) ∙ h)

-- where no line is left a tree stays
abbrev Stays : Tree → Type 0
Stays tree = lengthened tree [] ≡ Ok tree

values_stay : (es : List (List ℕ × Tree)) (done : List Tree) → OfAll (λ (e : List ℕ × Tree). Stays e.1) es → values_long [] done (parts es) ≡ Ok (done ++ values_of es)
values_stay [] done h = ap Ok (sym (append-nil done))
values_stay (e ∷ es) done h =
    values_go [] done e.0 e.1 e.1 (parts es) (ap (under (Key e.0)) h.0)
    ∙ values_stay es (done ++ e.1 ∷ []) h.1
    ∙ ap Ok (append_assoc done (e.1 ∷ []) (values_of es))

items_stay : (xs : List Tree) (done : List Tree) → OfAll Stays xs → items_long done (map lengthened xs) ≡ Ok (done ++ xs)
items_stay [] done h = ap Ok (sym (append-nil done))
items_stay (x ∷ xs) done h =
    goes_on (lengthened x []) (λ (tree : Tree). items_long (done ++ tree ∷ []) (map lengthened xs)) x h.0
    ∙ items_stay xs (done ++ x ∷ []) h.1
    ∙ ap Ok (append_assoc done (x ∷ []) xs)

seq_opens : (xs : List Tree) (lines : ShortRules) → lengthened (Seq xs) lines ≡ (items_long [] (map lengthened xs) >>= list_long (here lines))
seq_opens xs lines = search (rules, the_lemmas)

null_stays : Stays Null
null_stays = search (rules, the_lemmas)

scalar_stays : (text : List ℕ) → Stays (Scalar text)
scalar_stays text = search (rules, the_lemmas)

reset_stays : Stays Reset
reset_stays = search (rules, the_lemmas)

override_opens : (inner : Tree) → lengthened (Override inner) [] ≡ (lengthened inner [] >>= λ tree. Ok (Override tree))
override_opens inner = search (rules, the_lemmas)

pub stays : (tree : Tree) → lengthened tree [] ≡ Ok tree
stays =
    of_every Stays
    null_stays
    scalar_stays
    (λ es h. map_long es [] ∙ goes_on (values_long [] [] (parts es)) (λ (all : List Tree). Ok (Map (zip (keys_of es) all))) (values_of es) (values_stay es [] h)
    ∙ ap (λ (l : List (List ℕ × Tree)). Ok (Map l)) (entries_whole es))
    (λ xs h. seq_opens xs [] ∙ goes_on (items_long [] (map lengthened xs)) (list_long (here [])) xs (items_stay xs [] h))
    reset_stays
    (λ inner h. override_opens inner ∙ goes_on (lengthened inner []) (λ (tree : Tree). Ok (Override tree)) inner h)

each_stays : (xs : List Tree) → OfAll Stays xs
each_stays [] = tt
each_stays (x ∷ xs) = (stays x, each_stays xs)

-- a sequence is brought to its long form as it is
pub seq_long : (xs : List Tree) (lines : ShortRules) → lengthened (Seq xs) lines ≡ list_long (here lines) xs
seq_long xs lines = seq_opens xs lines ∙ goes_on (items_long [] (map lengthened xs)) (list_long (here lines)) xs (items_stay xs [] (each_stays xs))
