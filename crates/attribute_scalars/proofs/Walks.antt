-- Walks over entries and items, one further: what any reader gives, for all loops that read several things.
use Rattle.std.proofs.Common.{◌≡◌, ℕ, zero, suc, List, [], ◌∷◌, Some, None, ◌++◌, ◌+◌, ◌≤◌, length, take, drop, map, slice_get, refl, ap, sym, subst, ◌∙◌, add-one, append_assoc, arith}
use Rattle.std.specs.Prelude.{Option, Ok, Err}
use Rattle.std.specs.Option.{option_map}
use Rattle.std.proofs.lemmas.List.{append-nil, length-map, map-append, take_all, take_more}
use Rattle.std.proofs.lemmas.Option.{get_or_from_slice_get, slice_get_within}
use Rattle.tree_base.specs.Answers.{◌>>=◌}
use Rattle.tree_base.specs.declared.Step.{Step}
use Rattle.tree_base.specs.declared.Step.TheVariants.{Key, Index}
use Rattle.tree_base.specs.declared.Tree.{Tree}
use Rattle.attribute_types.specs.Answers.{Gives, stepped, under}
use Rattle.attribute_types.specs.declared.refusal.AttributeRefusal.{AttributeRefusal}
use Rattle.attribute_types.specs.declared.refusal.AttributeRefusal.TheVariants as refusals
use Rattle.attribute_scalars.specs.Lists.{collected}
use Rattle.attribute_scalars.specs.Walks.{Entries, Read, each_entry, each_item, place}

next_of : {X Y : Type 0} (f : X → Y) (xs : List X) (i : ℕ) (x : X) → slice_get xs i ≡ Some x → drop i (map f xs) ≡ f x ∷ drop (suc i) (map f xs)
next_of f [] i x e = absurd cc
next_of {X} f (y ∷ xs) zero x e = let same : y ≡ x = cc in ap (λ (z : X). f z ∷ map f xs) same
next_of f (y ∷ xs) (suc i) x e = next_of f xs i x e

-- the views from a place on begin with that of the item there
pub item_next : {X Y : Type 0} (f : X → Y) (xs : List X) (i : ℕ) (x : X) → slice_get xs i ≡ Some x → drop i (map f xs) ≡ f x ∷ drop (i + 1) (map f xs)
item_next f xs i x e = rw add-one (next_of f xs i x e)

-- no view is left past the items
pub none_past : {X Y : Type 0} (f : X → Y) (xs : List X) (i : ℕ) → length xs ≤ i → drop i (map f xs) ≡ []
none_past f [] zero h = refl
none_past f [] (suc i) h = refl
none_past f (x ∷ xs) zero h = absurd (omega arith)
none_past f (x ∷ xs) (suc i) h = none_past f xs i (omega arith)

-- a view of a view
pub map_seen : {X Y Z : Type 0} (f : Y → Z) (view : X → Y) (xs : List X) → map f (map view xs) ≡ map (λ x. f (view x)) xs
map_seen f view [] = refl
map_seen f view (x ∷ xs) = ap (λ l. f (view x) ∷ l) (map_seen f view xs)

-- the first items of a list, and one more
pub one_more : {X Y : Type 0} (view : Y → X) (list more : List Y) (y : Y) (xs : List X) (i : ℕ) → more ≡ list ++ y ∷ [] → map view list ≡ take i xs → slice_get xs i ≡ Some (view y) → map view more ≡ take (i + 1) xs
one_more {X} {Y} view list more y xs i e so at =
    ap (λ (l : List Y). map view l) e
    ∙ map-append view list (y ∷ [])
    ∙ ap (λ (l : List X). l ++ view y ∷ []) so
    ∙ ap (λ (x : X). take i xs ++ x ∷ []) (sym (get_or_from_slice_get xs i (view y) (view y) at))
    ∙ sym (take_more xs i (view y) (slice_get_within xs i (view y) at))

one_taken : {X : Type 0} (xs : List X) (i : ℕ) (x : X) → slice_get xs i ≡ Some x → take i xs ++ x ∷ [] ≡ take (i + 1) xs
one_taken {X} xs i x at =
    ap (λ (y : X). take i xs ++ y ∷ []) (sym (get_or_from_slice_get xs i x x at)) ∙ sym (take_more xs i x (slice_get_within xs i x at))

-- what is made of the first items of a list, and of one more
pub one_made : {X Y : Type 0} (f : X → Y) (xs : List X) (i : ℕ) (x : X) (done new : List Y) → done ≡ map f (take i xs) → slice_get xs i ≡ Some x → new ≡ done ++ f x ∷ [] → new ≡ map f (take (i + 1) xs)
one_made {X} {Y} f xs i x done new so at e =
    e ∙ ap (λ (l : List Y). l ++ f x ∷ []) so ∙ sym (map-append f (take i xs) (x ∷ [])) ∙ ap (map f) (one_taken xs i x at)

-- what is made of all items
pub all_made : {X Y : Type 0} (f : X → Y) (xs : List X) (i : ℕ) (done : List Y) → done ≡ map f (take i xs) → length xs ≤ i → done ≡ map f xs
all_made f xs i done so past = so ∙ ap (map f) (take_all i xs past)

-- the views that are there are all
pub all_seen : {X Y : Type 0} (f : X → Y) (xs : List X) (i : ℕ) → length xs ≤ i → take i (map f xs) ≡ map f xs
all_seen f xs i past = take_all i (map f xs) (subst (λ (n : ℕ). n ≤ i) (sym (length-map xs f)) past)

-- a refusal that goes on into another answer
pub gives_on : {A B : Type 0} (r : AttributeRefusal) (x : Read A) (y : Read B) → (x ≡ Err r → y ≡ Err r) → Gives (Err r) x → Gives (Err r) y
gives_on refusals.Memory x y k h = tt
gives_on (refusals.At fault path) x y k h = k h

pub gives_same : {A : Type 0} (given : Read A) (x y : Read A) → x ≡ y → Gives given x → Gives given y
gives_same {A} given x y e h = subst (λ (z : Read A). Gives given z) e h

-- a refusal is told so whatever would have been given
pub told_so : (X Y : Type 0) (given told : AttributeRefusal) → Gives {X = X} (Err given) (Err told) → Gives {X = Y} (Err given) (Err told)
told_so X Y refusals.Memory told h = tt
told_so X Y (refusals.At fault path) told h = let same : told ≡ refusals.At fault path = cc h in ap (λ r. Err r) same

-- what a call refused is refused a step below
pub refused_under : {X : Type 0} (step : Step) (inner : Read X) (refusal told : AttributeRefusal)
    → Gives (Err refusal) inner → Gives {X = Unit {0}} (Err told) (Err (stepped step refusal)) → Gives (Err told) (under step inner)
refused_under step inner refusal refusals.Memory h told = tt
refused_under step inner refusals.Memory (refusals.At fault path) h told = absurd (cc told)
refused_under {X} step inner (refusals.At why at) (refusals.At fault path) h told =
    let same : refusals.At why (step ∷ at) ≡ refusals.At fault path = cc told in ap (under step) h ∙ ap (λ r. Err r) same

-- and so is what goes on from there
pub refused_on : {X Y : Type 0} (step : Step) (inner : Read X) (next : X → Read Y) (refusal told : AttributeRefusal)
    → Gives (Err refusal) inner → Gives {X = Unit {0}} (Err told) (Err (stepped step refusal)) → Gives (Err told) (under step inner >>= next)
refused_on step inner next refusal told h under_told =
    gives_on told (under step inner) (under step inner >>= next) (λ e. ap (λ r. r >>= next) e) (refused_under step inner refusal told h under_told)

-- what is read behind nothing is what is read
pub none_read : {X : Type 0} (r : Read (List X)) → (r >>= λ more. Ok ([] ++ more)) ≡ r
none_read (Ok more) = refl
none_read (Err refusal) = refl

module _ {X : Type 0} (read : List ℕ → Tree → Read (List X)) where
  -- what the entries give behind what is done
  abbrev pub Behind : List X → Entries → Read (List X)
  Behind done entries = each_entry read entries >>= λ more. Ok (done ++ more)

  -- one more entry, whose gifts a call has put behind what was done
  pub one_put : (entry : List ℕ × Tree) (entries : Entries) (done new : List X)
      → (under (Key entry.0) (read entry.0 entry.1) >>= λ found. Ok (done ++ found)) ≡ Ok new
      → Behind new entries ≡ Behind done (entry ∷ entries)
  one_put entry entries done new e = by (under (Key entry.0) (read entry.0 entry.1)) e
    where
      at : (found : List X) → done ++ found ≡ new → (rest : Read (List X))
          → (rest >>= λ more. Ok (new ++ more)) ≡ ((rest >>= λ more. Ok (found ++ more)) >>= λ more. Ok (done ++ more))
      at found same (Err refusal) = refl
      at found same (Ok more) = ap (λ l. Ok l) (ap (λ (l : List X). l ++ more) (sym same) ∙ append_assoc done found more)

      by : (r : Read (List X)) → (r >>= λ found. Ok (done ++ found)) ≡ Ok new
          → (each_entry read entries >>= λ more. Ok (new ++ more))
          ≡ ((r >>= λ found. each_entry read entries >>= λ more. Ok (found ++ more)) >>= λ more. Ok (done ++ more))
      by (Err refusal) e = absurd (cc e)
      by (Ok found) e = let same : done ++ found ≡ new = cc e in at found same (each_entry read entries)

  -- an entry that is refused
  pub one_refused : (entry : List ℕ × Tree) (entries : Entries) (done : List X) (refusal : AttributeRefusal)
      → (under (Key entry.0) (read entry.0 entry.1) >>= λ found. Ok (done ++ found)) ≡ Err refusal
      → Behind done (entry ∷ entries) ≡ Err refusal
  one_refused entry entries done refusal e = by (under (Key entry.0) (read entry.0 entry.1)) e
    where
      by : (r : Read (List X)) → (r >>= λ found. Ok (done ++ found)) ≡ Err refusal
          → ((r >>= λ found. each_entry read entries >>= λ more. Ok (found ++ more)) >>= λ more. Ok (done ++ more)) ≡ Err refusal
      by (Err other) e = let same : other ≡ refusal = cc e in ap (λ (r : AttributeRefusal). Err r) same
      by (Ok found) e = absurd (cc e)

  -- the first entry that a call refused is the refusal of all
  pub refused_first : (entry : List ℕ × Tree) (entries : Entries) (done : List X) (refusal : AttributeRefusal) (whole : Read (List X))
      → Behind done (entry ∷ entries) ≡ whole
      → Gives (Err refusal) (under (Key entry.0) (read entry.0 entry.1) >>= λ found. Ok (done ++ found))
      → Gives (Err refusal) whole
  refused_first entry entries done refusal whole same h =
      gives_on refusal (under (Key entry.0) (read entry.0 entry.1) >>= λ found. Ok (done ++ found)) whole (λ e. sym same ∙ one_refused entry entries done refusal e) h

  -- an entry that is asked, and gives nothing
  pub one_passed : (entry : List ℕ × Tree) (entries : Entries) → under (Key entry.0) (read entry.0 entry.1) ≡ Ok [] → Behind [] entries ≡ Behind [] (entry ∷ entries)
  one_passed entry entries e = one_put entry entries [] [] (none_read (under (Key entry.0) (read entry.0 entry.1)) ∙ e)

  -- the first of those that are asked that is refused
  pub refused_asked : (entry : List ℕ × Tree) (entries : Entries) (refusal : AttributeRefusal) (whole : Read (List X)) → Behind [] (entry ∷ entries) ≡ whole
      → Gives (Err refusal) (under (Key entry.0) (read entry.0 entry.1)) → Gives (Err refusal) whole
  refused_asked entry entries refusal whole same h =
      let r = under (Key entry.0) (read entry.0 entry.1) in
      refused_first entry entries [] refusal whole same (gives_same (Err refusal) r (r >>= λ found. Ok ([] ++ found)) (sym (none_read r)) h)

  -- all entries are read
  pub all_read : {Y : Type 0} (view : Y → List ℕ × Tree) (ys : List Y) (i : ℕ) (done : List X) → length ys ≤ i
      → Behind done (drop i (map view ys)) ≡ Ok done
  all_read view ys i done past = rw (none_past view ys i past) (ap (λ l. Ok l) (append-nil done))

next_left : {X : Type 0} (xs : List X) (i : ℕ) (x : X) → slice_get xs i ≡ Some x → drop i xs ≡ x ∷ drop (suc i) xs
next_left [] i x e = absurd cc
next_left {X} (y ∷ xs) zero x e = let same : y ≡ x = cc in ap (λ (z : X). z ∷ xs) same
next_left (y ∷ xs) (suc i) x e = next_left xs i x e

-- the items from a place on begin with the one there
pub item_left : {X : Type 0} (xs : List X) (i : ℕ) (x : X) → slice_get xs i ≡ Some x → drop i xs ≡ x ∷ drop (i + 1) xs
item_left xs i x e = rw add-one (next_left xs i x e)

-- no item is left past the last
pub none_left : {X : Type 0} (xs : List X) (i : ℕ) → length xs ≤ i → drop i xs ≡ []
none_left [] zero h = refl
none_left [] (suc i) h = refl
none_left (x ∷ xs) zero h = absurd (omega arith)
none_left (x ∷ xs) (suc i) h = none_left xs i (omega arith)

module _ {X : Type 0} (read : Tree → Read X) where
  -- what the items from a place on give behind what is done
  abbrev pub ItemsBehind : List X → ℕ → List Tree → Read (List X)
  ItemsBehind done at items = each_item read at items >>= λ more. Ok (done ++ more)

  -- one more item, which a call has put behind what was done
  pub item_put : (item : Tree) (items : List Tree) (at : ℕ) (done new : List X)
      → (under (Index (place at)) (read item) >>= λ one. Ok (done ++ one ∷ [])) ≡ Ok new
      → ItemsBehind new (at + 1) items ≡ ItemsBehind done at (item ∷ items)
  item_put item items at done new e = by (under (Index (place at)) (read item)) e
    where
      behind : (one : X) → done ++ one ∷ [] ≡ new → (rest : Read (List X))
          → (rest >>= λ more. Ok (new ++ more)) ≡ ((rest >>= λ more. Ok (one ∷ more)) >>= λ more. Ok (done ++ more))
      behind one same (Err refusal) = refl
      behind one same (Ok more) = ap (λ l. Ok l) (ap (λ (l : List X). l ++ more) (sym same) ∙ append_assoc done (one ∷ []) more)

      by : (r : Read X) → (r >>= λ one. Ok (done ++ one ∷ [])) ≡ Ok new
          → (each_item read (at + 1) items >>= λ more. Ok (new ++ more))
          ≡ ((r >>= λ found. each_item read (at + 1) items >>= λ more. Ok (found ∷ more)) >>= λ more. Ok (done ++ more))
      by (Err refusal) e = absurd (cc e)
      by (Ok one) e = let same : done ++ one ∷ [] ≡ new = cc e in behind one same (each_item read (at + 1) items)

  -- the first item that a call refused is the refusal of all
  pub refused_item : (item : Tree) (items : List Tree) (at : ℕ) (done : List X) (refusal : AttributeRefusal) (whole : Read (List X))
      → ItemsBehind done at (item ∷ items) ≡ whole
      → Gives (Err refusal) (under (Index (place at)) (read item) >>= λ one. Ok (done ++ one ∷ []))
      → Gives (Err refusal) whole
  refused_item item items at done refusal whole same h =
      gives_on refusal (under (Index (place at)) (read item) >>= λ one. Ok (done ++ one ∷ [])) whole (λ e. sym same ∙ by (under (Index (place at)) (read item)) e) h
    where
      by : (r : Read X) → (r >>= λ one. Ok (done ++ one ∷ [])) ≡ Err refusal
          → ((r >>= λ found. each_item read (at + 1) items >>= λ more. Ok (found ∷ more)) >>= λ more. Ok (done ++ more)) ≡ Err refusal
      by (Err other) e = let same : other ≡ refusal = cc e in ap (λ (r : AttributeRefusal). Err r) same
      by (Ok found) e = absurd (cc e)

  -- all items are read
  pub all_listed : (items : List Tree) (i : ℕ) (done : List X) → length items ≤ i → ItemsBehind done i (drop i items) ≡ Ok done
  all_listed items i done past = rw (none_left items i past) (ap (λ l. Ok l) (append-nil done))

module _ {X : Type 0} (f : Tree → Option X) where
  -- one more value of trees that all have one
  pub one_collected : (done : List X) (tree : Tree) (rest : List Tree) (x : X) → f tree ≡ Some x
      → option_map (λ xs. (done ++ x ∷ []) ++ xs) (collected f rest) ≡ option_map (λ xs. done ++ xs) (collected f (tree ∷ rest))
  one_collected done tree rest x e = rw e (by (collected f rest))
    where
      by : (o : Option (List X)) → option_map (λ xs. (done ++ x ∷ []) ++ xs) o ≡ option_map (λ xs. done ++ xs) (option_map (λ xs. x ∷ xs) o)
      by None = refl
      by (Some xs) = ap Some (append_assoc done (x ∷ []) xs)
