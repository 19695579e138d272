-- Steps of a walk over a tree.
use Rattle.std.proofs.Common.{◌≡◌, ◌∙◌, ℕ, zero, suc, ◌+◌, List, [], ◌∷◌, ◌++◌, map, drop, add-one, slice_get, Some, length, reverse, ◌≤◌, arith, Result, Ok, Err, refl, sym, ap, rules}
use Rattle.std.specs.List.{zip}
use Rattle.std.specs.Map.{keys_of, values_of}
use Rattle.tree_base.specs.Answers.{◌>>=◌}
use Rattle.tree_base.specs.declared.Tree.{Tree, Map, the_lemmas}
use Rattle.tree_base.specs.declared.Step.{Step}
use Rattle.tree_base.specs.declared.Step.TheVariants.{Index}
use Rattle.tree_base.proofs.Pairs.{values_mapped}
use Rattle.interpolate.specs.declared.refusal.SubstRefusal.{SubstRefusal}
use Rattle.interpolate.specs.declared.refusal.SubstRefusal.TheVariants as refusals
use Rattle.interpolate.specs.declared.refusal.SubstTreeRefusal.{SubstTreeRefusal}
use Rattle.interpolate.specs.declared.refusal.SubstTreeRefusal.TheVariants.{At, TooMuchText, Memory}
use Rattle.interpolate.specs.Parts.{place}
use Rattle.interpolate.specs.Substitution.{Variables, Fails}
use Rattle.interpolate.specs.Walking.{Walk, root_refusal, here, under, one_more, items_walk, entry_walk, entries_walk, tree_walk, TreeFails, outer, turned}
use Rattle.std.proofs.lemmas.List.{reverse-append}

-- what fails at first fails as a whole
pub fails_on : {A B : Type 0} (e : SubstTreeRefusal) (read : Result A SubstTreeRefusal) (f : A → Result B SubstTreeRefusal) → TreeFails (turned e) read → TreeFails (turned e) (read >>= f)
fails_on Memory read f h = tt
fails_on {A} {B} TooMuchText read f h = ap (λ (r : Result A SubstTreeRefusal). r >>= f) h
fails_on {A} {B} (At path cause) read f h = ap (λ (r : Result A SubstTreeRefusal). r >>= f) h

pub goes_on : {A B : Type 0} (read : Result A SubstTreeRefusal) (f : A → Result B SubstTreeRefusal) (a : A) → read ≡ Ok a → (read >>= f) ≡ f a
goes_on {A} {B} read f a h = ap (λ (r : Result A SubstTreeRefusal). r >>= f) h

pub same_fails : {A : Type 0} (e : SubstTreeRefusal) (read other : Result A SubstTreeRefusal) → read ≡ other → TreeFails (turned e) read → TreeFails (turned e) other
same_fails Memory read other s h = tt
same_fails TooMuchText read other s h = sym s ∙ h
same_fails (At path cause) read other s h = sym s ∙ h

reverse_step : (path : List Step) (step : Step) → reverse (path ++ step ∷ []) ≡ step ∷ reverse path
reverse_step path step = reverse-append path (step ∷ [])

abbrev failed : (A : Type 0) → SubstTreeRefusal → Result A SubstTreeRefusal
failed A e = Err e

-- what fails fails a step below, with that step
pub under_fails : {A : Type 0} (step : Step) (e : SubstTreeRefusal) (read : Result A SubstTreeRefusal) → TreeFails (turned e) read → TreeFails (turned (outer step e)) (under step read)
under_fails step Memory read h = tt
under_fails step TooMuchText read h = ap (under step) h
under_fails {A} step (At path cause) read h = ap (under step) h ∙ ap (λ (p : List Step). failed A (At p cause)) (sym (reverse_step path step))

pub root_fails : {B : Type 0} (cause : SubstRefusal) (read : Result (List ℕ) SubstRefusal) (f : List ℕ → Result B SubstTreeRefusal) → Fails cause read → TreeFails (turned (root_refusal cause)) (here read >>= f)
root_fails refusals.Memory read f h = tt
root_fails (refusals.Unclosed at) read f h = ap (λ (r : Result (List ℕ) SubstRefusal). here r >>= f) h
root_fails (refusals.BadForm at) read f h = ap (λ (r : Result (List ℕ) SubstRefusal). here r >>= f) h
root_fails (refusals.RequiredVariable name message) read f h = ap (λ (r : Result (List ℕ) SubstRefusal). here r >>= f) h
root_fails refusals.TooMuchText read f h = ap (λ (r : Result (List ℕ) SubstRefusal). here r >>= f) h

module _ (f : Tree → Walk) where
  next_item : (items : List Tree) (i : ℕ) (item : Tree) → slice_get items i ≡ Some item → drop i (map f items) ≡ f item ∷ drop (suc i) (map f items)
  next_item [] i item e = absurd cc
  next_item (x ∷ items) zero item e = let same : x ≡ item = cc in ap (λ (t : Tree). f t ∷ map f items) same
  next_item (x ∷ items) (suc i) item e = next_item items i item e

  -- the items from a place on begin with the one there
  pub item_next : (items : List Tree) (i : ℕ) (item : Tree) → slice_get items i ≡ Some item → drop i (map f items) ≡ f item ∷ drop (i + 1) (map f items)
  item_next items i item e = rw add-one (next_item items i item e)

  next_entry : (keys : List (List ℕ)) (values : List Tree) (i : ℕ) (key : List ℕ) (value : Tree) → slice_get keys i ≡ Some key → slice_get values i ≡ Some value
      → drop i (zip keys (map f values)) ≡ (key, f value) ∷ drop (suc i) (zip keys (map f values))
  next_entry [] values i key value p q = absurd cc
  next_entry (k ∷ keys) [] i key value p q = absurd cc
  next_entry (k ∷ keys) (x ∷ values) zero key value p q =
      let one : k ≡ key = cc in
      let two : x ≡ value = cc in
      (λ i. (one i, f (two i)) ∷ zip keys (map f values))
  next_entry (k ∷ keys) (x ∷ values) (suc i) key value p q = next_entry keys values i key value p q

  -- no entry stands past the values
  pub no_entry : (keys : List (List ℕ)) (values : List Tree) (i : ℕ) → length values ≤ i → drop i (zip keys (map f values)) ≡ []
  no_entry [] values zero h = refl
  no_entry [] values (suc i) h = refl
  no_entry (k ∷ keys) [] zero h = refl
  no_entry (k ∷ keys) [] (suc i) h = refl
  no_entry (k ∷ keys) (x ∷ values) zero h = absurd (omega arith)
  no_entry (k ∷ keys) (x ∷ values) (suc i) h = no_entry keys values i (omega arith)

  -- the entries from a place on begin with the one there
  pub entry_next : (keys : List (List ℕ)) (values : List Tree) (i : ℕ) (key : List ℕ) (value : Tree) → slice_get keys i ≡ Some key → slice_get values i ≡ Some value
      → drop i (zip keys (map f values)) ≡ (key, f value) ∷ drop (i + 1) (zip keys (map f values))
  entry_next keys values i key value p q = rw add-one (next_entry keys values i key value p q)

keys_same : (f : Tree → Walk) (es : List (List ℕ × Tree)) → keys_of (map (λ (e : List ℕ × Tree). (e.0, f e.1)) es) ≡ keys_of es
keys_same f [] = refl
keys_same f (e ∷ es) = ap (λ (l : List (List ℕ)). e.0 ∷ l) (keys_same f es)

module _ (env : Variables) where
  -- one more item, which fails or is done
  pub items_fail : (done : List Tree × ℕ) (at : ℕ) (item : Tree) (rest : List Walk) (e : SubstTreeRefusal) → TreeFails (turned e) (under (Index (place at)) (tree_walk env item done.1))
      → TreeFails (turned e) (items_walk done at (tree_walk env item ∷ rest))
  items_fail done at item rest e h =
      fails_on e (one_more done.0 (under (Index (place at)) (tree_walk env item done.1))) (λ (more : List Tree × ℕ). items_walk more (at + 1) rest)
      (fails_on e (under (Index (place at)) (tree_walk env item done.1)) (λ (got : Tree × ℕ). Ok (done.0 ++ got.0 ∷ [], got.1)) h)

  pub items_go : (done : List Tree × ℕ) (at : ℕ) (item : Tree) (rest : List Walk) (value : Tree) (size : ℕ) → under (Index (place at)) (tree_walk env item done.1) ≡ Ok (value, size)
      → items_walk done at (tree_walk env item ∷ rest) ≡ items_walk (done.0 ++ value ∷ [], size) (at + 1) rest
  items_go done at item rest value size h =
      goes_on (one_more done.0 (under (Index (place at)) (tree_walk env item done.1))) (λ (more : List Tree × ℕ). items_walk more (at + 1) rest) (done.0 ++ value ∷ [], size)
      (goes_on (under (Index (place at)) (tree_walk env item done.1)) (λ (got : Tree × ℕ). Ok (done.0 ++ got.0 ∷ [], got.1)) (value, size) h)

  -- one more entry, which fails or is done
  pub entries_fail : (done : List Tree × ℕ) (entry : List ℕ × Walk) (rest : List (List ℕ × Walk)) (e : SubstTreeRefusal) → TreeFails (turned e) (entry_walk entry done.1)
      → TreeFails (turned e) (entries_walk done (entry ∷ rest))
  entries_fail done entry rest e h =
      fails_on e (one_more done.0 (entry_walk entry done.1)) (λ (more : List Tree × ℕ). entries_walk more rest)
      (fails_on e (entry_walk entry done.1) (λ (got : Tree × ℕ). Ok (done.0 ++ got.0 ∷ [], got.1)) h)

  pub entries_go : (done : List Tree × ℕ) (entry : List ℕ × Walk) (rest : List (List ℕ × Walk)) (value : Tree) (size : ℕ) → entry_walk entry done.1 ≡ Ok (value, size)
      → entries_walk done (entry ∷ rest) ≡ entries_walk (done.0 ++ value ∷ [], size) rest
  entries_go done entry rest value size h =
      goes_on (one_more done.0 (entry_walk entry done.1)) (λ (more : List Tree × ℕ). entries_walk more rest) (done.0 ++ value ∷ [], size)
      (goes_on (entry_walk entry done.1) (λ (got : Tree × ℕ). Ok (done.0 ++ got.0 ∷ [], got.1)) (value, size) h)

  pub map_walk : (entries : List (List ℕ × Tree)) (size : ℕ)
      → tree_walk env (Map entries) size ≡ (entries_walk ([], size) (map (λ e. (e.0, tree_walk env e.1)) entries) >>= λ got. Ok (Map (zip (keys_of (map (λ e. (e.0, tree_walk env e.1)) entries)) got.0), got.1))
  map_walk entries size = search (rules, the_lemmas)

  -- the entries of a mapping, by its keys and its values
  entries_are : (es : List (List ℕ × Tree)) (keys : List (List ℕ)) (values : List Tree) → keys ≡ keys_of es → values ≡ values_of es
      → zip keys (map (tree_walk env) values) ≡ map (λ (e : List ℕ × Tree). (e.0, tree_walk env e.1)) es
  entries_are es keys values p q = (λ i. zip (p i) (map (tree_walk env) (q i))) ∙ values_mapped (tree_walk env) es

  pub map_fails : (es : List (List ℕ × Tree)) (keys : List (List ℕ)) (values : List Tree) (size : ℕ) (e : SubstTreeRefusal) → keys ≡ keys_of es → values ≡ values_of es
      → TreeFails (turned e) (entries_walk ([], size) (zip keys (map (tree_walk env) values))) → TreeFails (turned e) (tree_walk env (Map es) size)
  map_fails es keys values size e p q h =
      let entries : List (List ℕ × Walk) = map (λ (x : List ℕ × Tree). (x.0, tree_walk env x.1)) es in
      same_fails e _ _ (sym (map_walk es size))
      (fails_on e (entries_walk ([], size) entries) (λ (got : List Tree × ℕ). Ok (Map (zip (keys_of entries) got.0), got.1))
      (same_fails e _ _ (ap (entries_walk ([], size)) (entries_are es keys values p q)) h))

  pub map_done : (es : List (List ℕ × Tree)) (keys : List (List ℕ)) (values done : List Tree) (size new : ℕ) → keys ≡ keys_of es → values ≡ values_of es
      → entries_walk ([], size) (zip keys (map (tree_walk env) values)) ≡ Ok (done, new) → tree_walk env (Map es) size ≡ Ok (Map (zip (keys_of es) done), new)
  map_done es keys values done size new p q h =
      let entries : List (List ℕ × Walk) = map (λ (x : List ℕ × Tree). (x.0, tree_walk env x.1)) es in
      map_walk es size
      ∙ goes_on (entries_walk ([], size) entries) (λ (got : List Tree × ℕ). Ok (Map (zip (keys_of entries) got.0), got.1)) (done, new) (sym (ap (entries_walk ([], size)) (entries_are es keys values p q)) ∙ h)
      ∙ ap (λ (ks : List (List ℕ)). Ok (Map (zip ks done), new)) (keys_same (tree_walk env) es)
