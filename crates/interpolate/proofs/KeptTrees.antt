-- Steps of asking whether a tree keeps its scalars.
use Rattle.std.proofs.Common.{◌≡◌, ◌∙◌, ℕ, zero, suc, ◌+◌, ◌≤◌, Bool, true, false, leb, List, [], ◌∷◌, ◌++◌, map, drop, take, add-one, length, slice_get, IfSome, None, Some, Option, Result, Ok, Err, refl, ap, sym, arith, rules}
use Rattle.std.proofs.lemmas.Bool.{leb-true}
use Rattle.std.specs.List.{zip}
use Rattle.std.specs.Map.{keys_of, values_of}
use Rattle.tree_base.specs.Answers.{◌>>=◌}
use Rattle.tree_base.specs.Limits.{most_text}
use Rattle.tree_base.specs.declared.Tree.{Tree, Map, Override, Scalar, Seq, the_lemmas}
use Rattle.tree_base.specs.declared.Step.TheVariants.{Index, Key}
use Rattle.interpolate.specs.declared.refusal.SubstTreeRefusal.TheVariants.{TooMuchText}
use Rattle.interpolate.specs.declared.refusal.SubstRefusal.{SubstRefusal}
use Rattle.interpolate.specs.Laws.{HasNoDollar}
use Rattle.interpolate.specs.Parts.{place}
use Rattle.interpolate.specs.Substitution.{Variables, substituted}
use Rattle.interpolate.specs.Walking.{Stays, entries_walk, entry_walk, items_walk, scalar_walk, tree_walk, under, with_bytes}
use Rattle.interpolate.proofs.Filling.{valued_gives}
use Rattle.interpolate.proofs.Plain.{plain_value}
use Rattle.interpolate.proofs.Walks.{entries_go, entry_next, goes_on, item_next, items_go, map_done, no_entry}

module _ {X : Type 0} where
  -- one more of the first
  take_next : (xs : List X) (i : ℕ) (x : X) → slice_get xs i ≡ Some x → take (i + 1) xs ≡ take i xs ++ x ∷ []
  take_next xs i x e = rw add-one (next xs i x e)
    where
      next : (xs : List X) (i : ℕ) (x : X) → slice_get xs i ≡ Some x → take (suc i) xs ≡ take i xs ++ x ∷ []
      next [] i x e = absurd cc
      next (y ∷ xs) zero x e = let same : y ≡ x = cc in ap (λ (t : X). t ∷ []) same
      next (y ∷ xs) (suc i) x e = ap (λ (l : List X). y ∷ l) (next xs i x e)

  -- the first are all, where there are no more
  take_all : (xs : List X) (i : ℕ) → length xs ≤ i → take i xs ≡ xs
  take_all [] zero h = refl
  take_all [] (suc i) h = refl
  take_all (x ∷ xs) zero h = absurd (omega arith)
  take_all (x ∷ xs) (suc i) h = ap (λ (l : List X). x ∷ l) (take_all xs i (omega arith))

  none_left : {Y : Type 0} (f : X → Y) (xs : List X) (i : ℕ) → length xs ≤ i → drop i (map f xs) ≡ []
  none_left f [] zero h = refl
  none_left f [] (suc i) h = refl
  none_left f (x ∷ xs) zero h = absurd (omega arith)
  none_left f (x ∷ xs) (suc i) h = none_left f xs i (omega arith)

  zip_back : (es : List (List ℕ × X)) → zip (keys_of es) (values_of es) ≡ es
  zip_back [] = refl
  zip_back (e ∷ es) = ap (λ (l : List (List ℕ × X)). e ∷ l) (zip_back es)

-- what there is room for is within the limit
room_for : (size more all : ℕ) → with_bytes size more ≡ Ok all → more ≤ most_text
room_for size more all h = by (leb (size + more) most_text) refl
  where
    by : (b : Bool) → leb (size + more) most_text ≡ b → more ≤ most_text
    by true e = let k = leb-true (size + more) most_text e in omega (arith, k)
    by false e = let none : with_bytes size more ≡ Err TooMuchText = rw e refl in absurd (cc (sym none ∙ h))

-- a text without `$` is its value, which counts
pub text_kept : (env : Variables) (text : List ℕ) (size more : ℕ) → HasNoDollar text → with_bytes size (length text) ≡ Ok more → scalar_walk (substituted env text) size ≡ Ok (Scalar text, more)
unfolding substituted
text_kept env text size more h fits =
    ap (λ (read : Result (List ℕ) SubstRefusal). scalar_walk read size) (valued_gives 32 env text text (plain_value 32 env 0 text h) (room_for size (length text) more fits))
    ∙ goes_on (with_bytes size (length text)) (λ (size : ℕ). Ok (Scalar text, size)) more fits

-- one item more that keeps its scalars
pub item_kept : (env : Variables) (items : List Tree) (i : ℕ) (item : Tree) (size more : ℕ) → slice_get items i ≡ Some item → tree_walk env item size ≡ Ok (item, more)
    → items_walk (take (i + 1) items, more) (i + 1) (drop (i + 1) (map (tree_walk env) items)) ≡ items_walk (take i items, size) i (drop i (map (tree_walk env) items))
item_kept env items i item size more at kept =
    let rest = drop (i + 1) (map (tree_walk env) items) in
    ap (λ (done : List Tree). items_walk (done, more) (i + 1) rest) (take_next items i item at)
    ∙ sym (items_go env (take i items, size) i item rest item more (ap (under (Index (place i))) kept))
    ∙ sym (ap (items_walk (take i items, size) i) (item_next (tree_walk env) items i item at))

pub items_kept : (env : Variables) (items : List Tree) (i size : ℕ) → length items ≤ i → items_walk (take i items, size) i (drop i (map (tree_walk env) items)) ≡ Ok (items, size)
items_kept env items i size h =
    ap (items_walk (take i items, size) i) (none_left (tree_walk env) items i h) ∙ ap (λ (done : List Tree). Ok (done, size)) (take_all items i h)

-- an entry that keeps its scalars, whose key counts
pub entry_kept : (env : Variables) (key : List ℕ) (value : Tree) (size counted more : ℕ) → with_bytes size (length key) ≡ Ok counted → Stays value counted more → entry_walk (key, tree_walk env value) size ≡ Ok (value, more)
entry_kept env key value size counted more fits kept =
    goes_on (with_bytes size (length key)) (λ (size : ℕ). under (Key key) (tree_walk env value size)) counted fits ∙ ap (under (Key key)) (kept env)

-- one entry more that keeps its scalars
pub value_kept : (env : Variables) (keys : List (List ℕ)) (values : List Tree) (i : ℕ) (key : List ℕ) (value : Tree) (size more : ℕ) → slice_get keys i ≡ Some key → slice_get values i ≡ Some value → entry_walk (key, tree_walk env value) size ≡ Ok (value, more)
    → entries_walk (take (i + 1) values, more) (drop (i + 1) (zip keys (map (tree_walk env) values))) ≡ entries_walk (take i values, size) (drop i (zip keys (map (tree_walk env) values)))
value_kept env keys values i key value size more k v kept =
    let rest = drop (i + 1) (zip keys (map (tree_walk env) values)) in
    ap (λ (done : List Tree). entries_walk (done, more) rest) (take_next values i value v)
    ∙ sym (entries_go env (take i values, size) (key, tree_walk env value) rest value more kept)
    ∙ sym (ap (entries_walk (take i values, size)) (entry_next (tree_walk env) keys values i key value k v))

pub values_kept : (env : Variables) (keys : List (List ℕ)) (values : List Tree) (i size : ℕ) → length values ≤ i → entries_walk (take i values, size) (drop i (zip keys (map (tree_walk env) values))) ≡ Ok (values, size)
values_kept env keys values i size h =
    ap (entries_walk (take i values, size)) (no_entry (tree_walk env) keys values i h) ∙ ap (λ (done : List Tree). Ok (done, size)) (take_all values i h)

pub map_kept : (env : Variables) (es : List (List ℕ × Tree)) (keys : List (List ℕ)) (values : List Tree) (size more : ℕ) → keys ≡ keys_of es → values ≡ values_of es
    → entries_walk ([], size) (zip keys (map (tree_walk env) values)) ≡ Ok (values, more) → tree_walk env (Map es) size ≡ Ok (Map es, more)
map_kept env es keys values size more k v h =
    map_done env es keys values values size more k v h
    ∙ ap (λ (new : List (List ℕ × Tree)). Ok (Map new, more)) (ap (zip (keys_of es)) v ∙ zip_back es)

-- a sequence whose items keep their scalars
seq_walk : (env : Variables) (xs : List Tree) (size : ℕ) → tree_walk env (Seq xs) size ≡ (items_walk ([], size) 0 (map (tree_walk env) xs) >>= λ got. Ok (Seq got.0, got.1))
seq_walk env xs size = search (rules, the_lemmas)

pub seq_kept : (env : Variables) (xs : List Tree) (size more : ℕ) → items_walk ([], size) 0 (map (tree_walk env) xs) ≡ Ok (xs, more) → tree_walk env (Seq xs) size ≡ Ok (Seq xs, more)
seq_kept env xs size more h =
    seq_walk env xs size ∙ goes_on (items_walk ([], size) 0 (map (tree_walk env) xs)) (λ (got : List Tree × ℕ). Ok (Seq got.0, got.1)) (xs, more) h

override_walk : (env : Variables) (inner : Tree) (size : ℕ) → tree_walk env (Override inner) size ≡ (tree_walk env inner size >>= λ got. Ok (Override got.0, got.1))
override_walk env inner size = search (rules, the_lemmas)

pub override_kept : (env : Variables) (inner : Tree) (size more : ℕ) → Stays inner size more → tree_walk env (Override inner) size ≡ Ok (Override inner, more)
override_kept env inner size more kept =
    override_walk env inner size ∙ goes_on (tree_walk env inner size) (λ (got : Tree × ℕ). Ok (Override got.0, got.1)) (inner, more) (kept env)

-- what follows of what is there
pub if_some : {A : Type 0} {P Q : A → Type 0} (found : Option A) → ((a : A) → P a → Q a) → IfSome found P → IfSome found Q
if_some None follows h = tt
if_some (Some a) follows h = follows a h
