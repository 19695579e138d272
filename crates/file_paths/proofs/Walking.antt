-- The paths of a tree taken absolute, a value or an item further.
use Rattle.std.proofs.Common.{◌≡◌, ◌∙◌, ℕ, List, [], ◌∷◌, ◌++◌, map, None, Option, Result, Ok, refl, sym, ap, rules}
use Rattle.std.proofs.lemmas.List.{append-nil, append_assoc}
use Rattle.std.specs.List.{zip}
use Rattle.std.specs.Map.{keys_of, values_of}
use Rattle.attribute_paths.specs.Patterns.{below_item, below_key, here}
use Rattle.attribute_paths.proofs.Trees.{OfAll, of_every}
use Rattle.attribute_paths.proofs.Walks.{entries_are}
use Rattle.file_paths.specs.Answers.{Fails}
use Rattle.file_paths.specs.PathRules.{PathRules}
use Rattle.file_paths.specs.Resolving.{Entries, Home, Homed, entries_homed, items_homed, resolved_by, values_homed}
use Rattle.file_paths.specs.declared.refusal.PathRefusal.{PathRefusal}
use Rattle.file_paths.specs.declared.refusal.PathRefusal.TheVariants.{NoHome, Memory}
use Rattle.file_paths.specs.declared.spot.PathKind.{PathKind}
use Rattle.tree_base.specs.Answers.{◌>>=◌}
use Rattle.tree_base.specs.declared.Tree.{Tree, Map, Null, Override, Reset, Scalar, Seq, the_lemmas}

-- what fails at first fails as a whole
pub fails_on : {A B : Type 0} (e : PathRefusal) (read : Result A PathRefusal) (f : A → Result B PathRefusal) → Fails e read → Fails e (read >>= f)
fails_on {A} {B} (NoHome path) read f h = ap (λ (r : Result A PathRefusal). r >>= f) h
fails_on Memory read f h = tt

-- what gives its value goes on with it
pub goes_on : {A B : Type 0} (read : Result A PathRefusal) (f : A → Result B PathRefusal) (a : A) → read ≡ Ok a → (read >>= f) ≡ f a
goes_on {A} {B} read f a h = ap (λ (r : Result A PathRefusal). r >>= f) h

-- what fails as one answer fails as an equal one
pub same_fails : {A : Type 0} (e : PathRefusal) (read other : Result A PathRefusal) → read ≡ other → Fails e read → Fails e other
same_fails (NoHome path) read other s h = sym s ∙ h
same_fails Memory read other s h = tt

module _ (home : Home) where
  abbrev pub whole : Tree → Homed
  whole tree = resolved_by home tree

  -- one more value, which fails or is done
  pub values_fail : (rules : PathRules) (done : List Tree) (key : List ℕ) (value : Tree) (rest : List (List ℕ × Homed)) (e : PathRefusal) → Fails e (whole value (below_key key rules))
      → Fails e (values_homed rules done ((key, whole value) ∷ rest))
  values_fail rules done key value rest e h = fails_on e (whole value (below_key key rules)) (λ (tree : Tree). values_homed rules (done ++ tree ∷ []) rest) h

  pub values_go : (rules : PathRules) (done : List Tree) (key : List ℕ) (value made : Tree) (rest : List (List ℕ × Homed)) → whole value (below_key key rules) ≡ Ok made
      → values_homed rules done ((key, whole value) ∷ rest) ≡ values_homed rules (done ++ made ∷ []) rest
  values_go rules done key value made rest h = goes_on (whole value (below_key key rules)) (λ (tree : Tree). values_homed rules (done ++ tree ∷ []) rest) made h

  -- one more item, which fails or is done
  pub items_fail : (rules : PathRules) (done : List Tree) (item : Tree) (rest : List Homed) (e : PathRefusal) → Fails e (whole item rules) → Fails e (items_homed rules done (whole item ∷ rest))
  items_fail rules done item rest e h = fails_on e (whole item rules) (λ (tree : Tree). items_homed rules (done ++ tree ∷ []) rest) h

  pub items_go : (rules : PathRules) (done : List Tree) (item made : Tree) (rest : List Homed) → whole item rules ≡ Ok made → items_homed rules done (whole item ∷ rest) ≡ items_homed rules (done ++ made ∷ []) rest
  items_go rules done item made rest h = goes_on (whole item rules) (λ (tree : Tree). items_homed rules (done ++ tree ∷ []) rest) made h

  -- entries with what takes the paths of their values
  abbrev pub parts : Entries → List (List ℕ × Homed)
  parts es = map (λ (e : List ℕ × Tree). (e.0, whole e.1)) es

  keys_same : (es : Entries) → keys_of (parts es) ≡ keys_of es
  keys_same [] = refl
  keys_same (e ∷ es) = ap (λ (l : List (List ℕ)). e.0 ∷ l) (keys_same es)

  -- what a mapping is whose values are done
  abbrev pub as_mapping : PathRules → List (List ℕ) → List Tree → Result Tree PathRefusal
  as_mapping rules keys all = entries_homed home (here rules) (zip keys all) >>= λ es. Ok (Map es)

  map_opens : (es : Entries) (rules : PathRules) → whole (Map es) rules ≡ (values_homed rules [] (parts es) >>= as_mapping rules (keys_of (parts es)))
  map_opens es lines = search (rules, the_lemmas)

  map_homed : (es : Entries) (rules : PathRules) → whole (Map es) rules ≡ (values_homed rules [] (parts es) >>= as_mapping rules (keys_of es))
  map_homed es rules = map_opens es rules ∙ ap (λ (keys : List (List ℕ)). values_homed rules [] (parts es) >>= as_mapping rules keys) (keys_same es)

  module _ (es : Entries) (keys : List (List ℕ)) (values : List Tree) (rules : PathRules) (same_keys : keys ≡ keys_of es) (same_values : values ≡ values_of es) where
    -- a mapping by its keys and its values, which fails, fails as a mount, or is done
    pub map_fails : (e : PathRefusal) → Fails e (values_homed rules [] (zip keys (map whole values))) → Fails e (whole (Map es) rules)
    map_fails e h =
        same_fails e _ _ (sym (map_homed es rules))
        (fails_on e (values_homed rules [] (parts es)) (as_mapping rules (keys_of es))
        (same_fails e _ _ (ap (values_homed rules []) (entries_are whole es keys values same_keys same_values)) h))

    by_values : (done : List Tree) → values_homed rules [] (zip keys (map whole values)) ≡ Ok done → whole (Map es) rules ≡ as_mapping rules (keys_of es) done
    by_values done h =
        map_homed es rules
        ∙ goes_on (values_homed rules [] (parts es)) (as_mapping rules (keys_of es)) done (sym (ap (values_homed rules []) (entries_are whole es keys values same_keys same_values)) ∙ h)

    pub mount_fails : (e : PathRefusal) (done : List Tree) → values_homed rules [] (zip keys (map whole values)) ≡ Ok done → Fails e (entries_homed home (here rules) (zip (keys_of es) done))
        → Fails e (whole (Map es) rules)
    mount_fails e done h k = same_fails e _ _ (sym (by_values done h)) (fails_on e (entries_homed home (here rules) (zip (keys_of es) done)) (λ (all : Entries). Ok (Map all)) k)

    pub map_done : (done : List Tree) (all : Entries) → values_homed rules [] (zip keys (map whole values)) ≡ Ok done → entries_homed home (here rules) (zip (keys_of es) done) ≡ Ok all
        → whole (Map es) rules ≡ Ok (Map all)
    map_done done all h k = by_values done h ∙ goes_on (entries_homed home (here rules) (zip (keys_of es) done)) (λ (all : Entries). Ok (Map all)) all k

  -- a sequence by its items
  seq_opens : (xs : List Tree) (rules : PathRules) → whole (Seq xs) rules ≡ (items_homed (below_item rules) [] (map whole xs) >>= λ all. Ok (Seq all))
  seq_opens xs lines = search (rules, the_lemmas)

  pub seq_fails : (xs : List Tree) (rules : PathRules) (e : PathRefusal) → Fails e (items_homed (below_item rules) [] (map whole xs)) → Fails e (whole (Seq xs) rules)
  seq_fails xs rules e h = same_fails e _ _ (sym (seq_opens xs rules)) (fails_on e (items_homed (below_item rules) [] (map whole xs)) (λ (all : List Tree). Ok (Seq all)) h)

  pub seq_done : (xs : List Tree) (rules : PathRules) (all : List Tree) → items_homed (below_item rules) [] (map whole xs) ≡ Ok all → whole (Seq xs) rules ≡ Ok (Seq all)
  seq_done xs rules all h = seq_opens xs rules ∙ goes_on (items_homed (below_item rules) [] (map whole xs)) (λ (all : List Tree). Ok (Seq all)) all h

  -- values that stay, each by the rules that hold there
  abbrev pub Keeps : PathRules → List ℕ × Tree → Type 0
  Keeps rules entry = whole entry.1 (below_key entry.0 rules) ≡ Ok entry.1

  values_stay : (rules : PathRules) (es : Entries) (done : List Tree) → OfAll (Keeps rules) es → values_homed rules done (parts es) ≡ Ok (done ++ values_of es)
  values_stay rules [] done h = ap Ok (sym (append-nil done))
  values_stay rules (e ∷ es) done h =
      values_go rules done e.0 e.1 e.1 (parts es) h.0
      ∙ values_stay rules es (done ++ e.1 ∷ []) h.1
      ∙ ap Ok (append_assoc done (e.1 ∷ []) (values_of es))

  pub entries_whole : (es : Entries) → zip (keys_of es) (values_of es) ≡ es
  entries_whole [] = refl
  entries_whole (e ∷ es) = ap (λ (l : Entries). e ∷ l) (entries_whole es)

  -- a mapping whose values stay, and which is no mount itself, stays
  pub map_stays : (es : Entries) (rules : PathRules) → here rules ≡ None → OfAll (Keeps rules) es → whole (Map es) rules ≡ Ok (Map es)
  map_stays es rules none h =
      map_homed es rules
      ∙ goes_on (values_homed rules [] (parts es)) (as_mapping rules (keys_of es)) (values_of es) (values_stay rules es [] h)
      ∙ ap (λ (kind : Option PathKind). entries_homed home kind (zip (keys_of es) (values_of es)) >>= λ all. Ok (Map all)) none
      ∙ ap (λ (l : Entries). Ok (Map l)) (entries_whole es)

  -- where no rule is left a tree stays
  abbrev pub Stays : Tree → Type 0
  Stays tree = whole tree [] ≡ Ok tree

  items_stay : (xs : List Tree) (done : List Tree) → OfAll Stays xs → items_homed [] done (map whole xs) ≡ Ok (done ++ xs)
  items_stay [] done h = ap Ok (sym (append-nil done))
  items_stay (x ∷ xs) done h =
      items_go [] done x x (map whole xs) h.0
      ∙ items_stay xs (done ++ x ∷ []) h.1
      ∙ ap Ok (append_assoc done (x ∷ []) xs)

  null_stays : Stays Null
  null_stays = search (rules, the_lemmas)

  scalar_stays : (text : List ℕ) → Stays (Scalar text)
  scalar_stays text = search (rules, the_lemmas)

  reset_stays : Stays Reset
  reset_stays = search (rules, the_lemmas)

  override_opens : (inner : Tree) → whole (Override inner) [] ≡ (whole inner [] >>= λ tree. Ok (Override tree))
  override_opens inner = search (rules, the_lemmas)

  pub stays : (tree : Tree) → whole tree [] ≡ Ok tree
  stays =
      of_every Stays
      null_stays
      scalar_stays
      (λ es h. map_stays es [] refl h)
      (λ xs h. seq_done xs [] xs (items_stay xs [] h))
      reset_stays
      (λ inner h. override_opens inner ∙ goes_on (whole inner []) (λ (tree : Tree). Ok (Override tree)) inner h)
