-- What stands in byte order is read of its object as it was.
use Rattle.std.proofs.Common.{◌≡◌, ◌<◌, ◌∙◌, ℕ, suc, true, List, [], ◌∷◌, fold, map, refl, sym, ap, arith, Option, Some, slice_get}
use Rattle.std.specs.Prelude.{⊤}
use Rattle.std.specs.List.{AllByRecursion}
use Rattle.std.specs.Option.{option_map}
use Rattle.std.specs.Cmp.Lexicographic.{slice_cmp}
use Rattle.std.specs.Ordering.{is_lt, nat_cmp, ordering_reverse}
use Rattle.std.specs.declared.cmp.Ordering.{Ordering}
use Rattle.std.specs.declared.cmp.Ordering.TheVariants.{Equal, Greater, Less}
use Rattle.std.proofs.lemmas.Cmp.{nat_list_cmp_total}
use Rattle.serde_json.specs.Data.{Data, Members, member, no_members, string}
use Rattle.serde_json.specs.Find.{as_object}
use Rattle.tree_base.specs.ByteOrder.{IsAscending, is_before}
use Rattle.tree_base.specs.declared.place.Var.{Var}
use Rattle.response_rules.specs.Json.{entries, of_each, pair_of, pairs_of}
use Rattle.engine_bodies.specs.Json.{Member, empty_object, pairs, set_of, with_member}

-- each stands before all later ones
abbrev Ordered : {X : Type 0} → (X → List ℕ) → List X → Type 0
Ordered key [] = ⊤
Ordered key (x ∷ xs) = AllByRecursion (λ y. slice_cmp nat_cmp (key y) (key x) ≡ Greater) xs × Ordered key xs

above : (s t : List ℕ) → is_before s t ≡ true → slice_cmp nat_cmp t s ≡ Greater
above s t e = nat_list_cmp_total.antisymm t s ∙ ap ordering_reverse (less (slice_cmp nat_cmp s t) e)
  where
    less : (o : Ordering) → is_lt o ≡ true → o ≡ Less
    less Less e = refl
    less Equal e = absurd (cc e)
    less Greater e = absurd (cc e)

all_above : {X : Type 0} (key : X → List ℕ) (x : X) (xs : List X) → ((j : ℕ) (y : X) → slice_get xs j ≡ Some y → is_before (key x) (key y) ≡ true) → AllByRecursion (λ y. slice_cmp nat_cmp (key y) (key x) ≡ Greater) xs
all_above key x [] before = tt
all_above key x (y ∷ ys) before = (above (key x) (key y) (before 0 y refl), all_above key x ys (λ j z e. before (suc j) z e))

ordered : {X : Type 0} (key : X → List ℕ) (xs : List X) → IsAscending (λ x y. is_before (key x) (key y)) xs → Ordered key xs
ordered key [] h = tt
ordered key (x ∷ xs) h = (
  all_above key x xs (λ j y e. h 0 (suc j) x y (omega arith) refl e),
  ordered key xs (λ i j y z l e f. h (suc i) (suc j) y z (omega arith) e f),
)

-- the members in this order
abbrev listed : {X : Type 0} → (X → List ℕ) → (X → Data) → List X → Members
listed key told [] = no_members
listed key told (x ∷ xs) = member (key x) (told x) (listed key told xs)

stays : (k : List ℕ) (d : Data) (ms : Members) (name : List ℕ) (value : Data) → slice_cmp nat_cmp name k ≡ Greater → with_member (member k d ms) (name, Some value) ≡ member k d (with_member ms (name, Some value))
unfolding with_member
stays k d ms name value e = rw e

first_stays : {X : Type 0} (key : X → List ℕ) (told : X → Data) (k : List ℕ) (d : Data) (xs : List X) (ms : Members) → AllByRecursion (λ y. slice_cmp nat_cmp (key y) k ≡ Greater) xs
    → fold with_member (member k d ms) (map (λ x. (key x, Some (told x))) xs) ≡ member k d (fold with_member ms (map (λ x. (key x, Some (told x))) xs))
first_stays key told k d [] ms p = refl
first_stays key told k d (x ∷ xs) ms p =
    ap (λ (m : Members). fold with_member m (map (λ x. (key x, Some (told x))) xs)) (stays k d ms (key x) (told x) p.0)
    ∙ first_stays key told k d xs (with_member ms (key x, Some (told x))) p.1

alone : (name : List ℕ) (value : Data) → with_member no_members (name, Some value) ≡ member name value no_members
unfolding with_member
alone name value = refl

in_order : {X : Type 0} (key : X → List ℕ) (told : X → Data) (xs : List X) → Ordered key xs → fold with_member no_members (map (λ x. (key x, Some (told x))) xs) ≡ listed key told xs
in_order key told [] p = refl
in_order key told (x ∷ xs) p =
    ap (λ (m : Members). fold with_member m (map (λ x. (key x, Some (told x))) xs)) (alone (key x) (told x))
    ∙ first_stays key told (key x) (told x) xs no_members p.0
    ∙ ap (member (key x) (told x)) (in_order key told xs p.1)

-- ---- pairs

pairs_each : (labels : List Var) → of_each pair_of (entries (listed (λ pair. pair.name) (λ pair. string pair.value) labels)) ≡ Some labels
pairs_each [] = refl
pairs_each (x ∷ xs) = ap (option_map (λ (ys : List Var). x ∷ ys)) (pairs_each xs)

pub pairs_back : (labels : List Var) → IsAscending (λ x y. is_before x.name y.name) labels → pairs_of (pairs labels) ≡ Some labels
pairs_back labels order =
    ap (λ (ms : Members). of_each pair_of (entries ms))
    (in_order (λ pair. pair.name) (λ pair. string pair.value) labels (ordered (λ (pair : Var). pair.name) labels order))
    ∙ pairs_each labels

-- ---- names

names_each : (names : List (List ℕ)) → map (λ (entry : List ℕ × Data). entry.0) (entries (listed (λ name. name) (λ name. empty_object) names)) ≡ names
names_each [] = refl
names_each (x ∷ xs) = ap (λ (ys : List (List ℕ)). x ∷ ys) (names_each xs)

pub names_back : (names : List (List ℕ)) → IsAscending is_before names
    → option_map (λ members. map (λ entry. entry.0) (entries members)) (as_object (set_of names)) ≡ Some names
names_back names order =
    ap (λ (ms : Members). Some (map (λ (entry : List ℕ × Data). entry.0) (entries ms)))
    (in_order (λ name. name) (λ name. empty_object) names (ordered (λ (name : List ℕ). name) names order))
    ∙ ap Some (names_each names)
