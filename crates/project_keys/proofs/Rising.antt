-- What stands in byte order of its keys stays so: what is left of it, what it is turned into, and what its entries give.
use Rattle.std.proofs.Common.{◌≡◌, ℕ, Bool, true, false, cond, List, [], ◌∷◌, ◌++◌, Ok, Err, map, refl, ap, sym, ◌∙◌, subst, ◌⊎◌, inl, inr}
use Rattle.std.specs.Prelude.{All, Result, filter}
use Rattle.std.specs.Cmp.Lexicographic.{slice_cmp, texts_ties}
use Rattle.std.specs.List.{AllByRecursion, IsDistinct}
use Rattle.std.specs.Ordering.{is_eq, is_lt, nat_cmp}
use Rattle.std.specs.Str.{bytes_eq}
use Rattle.std.specs.declared.cmp.Ordering.{Ordering}
use Rattle.std.specs.declared.cmp.Ordering.TheVariants.{Equal, Greater, Less}
use Rattle.std.proofs.lemmas.List.Elements.{All-append, All-cons, All-filter, All-head, All-nil, All-tail, All-weaker}
use Rattle.tree_base.specs.Answers.{◌>>=◌}
use Rattle.tree_base.specs.ByteOrder.{is_before}
use Rattle.tree_base.specs.declared.Step.TheVariants.{Key}
use Rattle.tree_base.specs.declared.Tree.{Tree}
use Rattle.attribute_types.specs.Answers.{under}
use Rattle.attribute_types.specs.declared.refusal.AttributeRefusal.{AttributeRefusal}
use Rattle.attribute_scalars.specs.Walks.{Entries, Read, each_entry}
use Rattle.attribute_scalars.proofs.Ordering.{Rises}

-- of two texts that stand in order, each is another
pub differ : (s t : List ℕ) → is_before s t ≡ true → bytes_eq s t ≡ false
differ s t e = texts_ties s t ∙ by (slice_cmp nat_cmp s t) e
  where
    by : (o : Ordering) → is_lt o ≡ true → is_eq o ≡ false
    by Less e = refl
    by Equal e = absurd (cc e)
    by Greater e = refl

module _ {X : Type 0} (key : X → List ℕ) where
  -- what is left of a list
  pub filter-rises : (p : X → Bool) (xs : List X) → Rises key xs → Rises key (filter p xs)
  filter-rises p [] rise = tt
  filter-rises p (x ∷ xs) rise = at (filter-rises p xs rise.1) (p x)
    where
      at : Rises key (filter p xs) → (b : Bool) → Rises key (cond b (x ∷ filter p xs) (filter p xs))
      at rest true = (All-filter p (λ y. is_before (key x) (key y) ≡ true) xs rise.0, rest)
      at rest false = rest

  others : (x : X) (xs : List X) → All (λ y. is_before (key x) (key y) ≡ true) xs → AllByRecursion (λ t. bytes_eq (key x) t ≡ false) (map key xs)
  others x [] all = tt
  others x (y ∷ ys) all =
      (differ (key x) (key y) (All-head (λ y. is_before (key x) (key y) ≡ true) y ys all), others x ys (All-tail (λ y. is_before (key x) (key y) ≡ true) y ys all))

  -- keys differ
  pub rises_differ : (xs : List X) → Rises key xs → IsDistinct bytes_eq (map key xs)
  unfolding IsDistinct
  rises_differ [] rise = tt
  rises_differ (x ∷ xs) rise = (others x xs rise.0, rises_differ xs rise.1)

module _ {X Y : Type 0} (key : X → List ℕ) (other : Y → List ℕ) (f : X → Y) (same : (x : X) → other (f x) ≡ key x) where
  turned : (k : List ℕ) (xs : List X) → All (λ x. is_before k (key x) ≡ true) xs → All (λ y. is_before k (other y) ≡ true) (map f xs)
  turned k [] all = All-nil (λ y. is_before k (other y) ≡ true)
  turned k (x ∷ xs) all =
      All-cons (λ y. is_before k (other y) ≡ true) (f x) (map f xs) (ap (is_before k) (same x) ∙ All-head (λ x. is_before k (key x) ≡ true) x xs all)
      (turned k xs (All-tail (λ x. is_before k (key x) ≡ true) x xs all))

  -- what each is turned into that keeps its key
  pub map-rises : (xs : List X) → Rises key xs → Rises other (map f xs)
  map-rises [] rise = tt
  map-rises (x ∷ xs) rise =
      (subst (λ (k : List ℕ). All (λ y. is_before k (other y) ≡ true) (map f xs)) (sym (same x)) (turned (key x) xs rise.0), map-rises xs rise.1)

-- what entries give
module _ {X : Type 0} (read : List ℕ → Tree → Read (List X)) where
  -- what the first gives, and what the others do
  pub record Parts (key : List ℕ) (tree : Tree) (entries : Entries) (found : List X) : Type 0 where
    pub first : List X
    pub more : List X
    pub one : read key tree ≡ Ok first
    pub rest : each_entry read entries ≡ Ok more
    pub both : found ≡ first ++ more

  pub parts_of : (key : List ℕ) (tree : Tree) (entries : Entries) (found : List X) → each_entry read ((key, tree) ∷ entries) ≡ Ok found → Parts key tree entries found
  parts_of key tree entries found e = by (read key tree) refl (each_entry read entries) refl e
    where
      by : (r : Read (List X)) → read key tree ≡ r → (s : Read (List X)) → each_entry read entries ≡ s
          → (under (Key key) r >>= λ found. s >>= λ more. Ok (found ++ more)) ≡ Ok found → Parts key tree entries found
      by (Err refusal) a s b f = absurd (cc f)
      by (Ok first) a (Err refusal) b f = absurd (cc f)
      by (Ok first) a (Ok more) b f =
          let same : first ++ more ≡ found = cc f in record { first = first; more = more; one = a; rest = b; both = sym same }

  -- what holds of all that each entry gives which is as it has to be
  module _ (Q : List ℕ × Tree → Type 0) (P : X → Type 0) (gives : (key : List ℕ) (tree : Tree) (found : List X) → Q (key, tree) → read key tree ≡ Ok found → All P found) where
    pub gifts_all : (entries : Entries) (found : List X) → All Q entries → each_entry read entries ≡ Ok found → All P found
    gifts_all [] found all e = let none : [] ≡ found = cc e in subst (All P) none (All-nil P)
    gifts_all ((key, tree) ∷ entries) found all e =
        let parts = parts_of key tree entries found e in
        subst (All P) (sym parts.both)
        (All-append P parts.first parts.more (gives key tree parts.first (All-head Q (key, tree) entries all) parts.one)
        (gifts_all entries parts.more (All-tail Q (key, tree) entries all) parts.rest))

  -- where each gives nothing, or one of its own key
  module _ (name : X → List ℕ) where
    abbrev pub Single : List ℕ → List X → Type 0
    Single key found = (found ≡ []) ⊎ ((x : X) × (found ≡ x ∷ []) × (name x ≡ key))

    module _ (gives : (key : List ℕ) (tree : Tree) (found : List X) → read key tree ≡ Ok found → Single key found) where
      all_later : (k : List ℕ) (entries : Entries) (found : List X) → each_entry read entries ≡ Ok found → All (λ e. is_before k e.0 ≡ true) entries → All (λ x. is_before k (name x) ≡ true) found
      all_later k [] found e all = let none : [] ≡ found = cc e in subst (All (λ x. is_before k (name x) ≡ true)) none (All-nil (λ x. is_before k (name x) ≡ true))
      all_later k ((key, tree) ∷ entries) found e all =
          let parts = parts_of key tree entries found e in
          let first : is_before k key ≡ true = All-head (λ e. is_before k e.0 ≡ true) (key, tree) entries all in
          let rest = all_later k entries parts.more parts.rest (All-tail (λ e. is_before k e.0 ≡ true) (key, tree) entries all) in
          subst (All (λ x. is_before k (name x) ≡ true)) (sym parts.both) (at parts.first parts.more first rest (gives key tree parts.first parts.one))
        where
          at : (xs ys : List X) → is_before k key ≡ true → All (λ x. is_before k (name x) ≡ true) ys → Single key xs → All (λ x. is_before k (name x) ≡ true) (xs ++ ys)
          at xs ys first rest (inl none) = subst (λ (l : List X). All (λ x. is_before k (name x) ≡ true) (l ++ ys)) (sym none) rest
          at xs ys first rest (inr (x, is, same)) =
              subst (λ (l : List X). All (λ x. is_before k (name x) ≡ true) (l ++ ys)) (sym is)
              (All-cons (λ x. is_before k (name x) ≡ true) x ys (ap (is_before k) same ∙ first) rest)

      pub gifts_rise : (entries : Entries) (found : List X) → each_entry read entries ≡ Ok found → Rises (λ (e : List ℕ × Tree). e.0) entries → Rises name found
      gifts_rise [] found e rise = let none : [] ≡ found = cc e in subst (Rises name) none tt
      gifts_rise ((key, tree) ∷ entries) found e rise =
          let parts = parts_of key tree entries found e in
          let rest = gifts_rise entries parts.more parts.rest rise.1 in
          let later = all_later key entries parts.more parts.rest rise.0 in
          subst (Rises name) (sym parts.both) (at parts.first parts.more later rest (gives key tree parts.first parts.one))
        where
          at : (xs ys : List X) → All (λ x. is_before key (name x) ≡ true) ys → Rises name ys → Single key xs → Rises name (xs ++ ys)
          at xs ys later rest (inl none) = subst (λ (l : List X). Rises name (l ++ ys)) (sym none) rest
          at xs ys later rest (inr (x, is, same)) =
              subst (λ (l : List X). Rises name (l ++ ys)) (sym is)
              (subst (λ (k : List ℕ). All (λ x. is_before k (name x) ≡ true) ys) (sym same) later, rest)
