-- Two values that are one come from one thing.
use Rattle.std.proofs.Common.{◌≡◌, ◌<◌, ◌∙◌, ℕ, suc, ℤ, pos, negsuc, Bool, true, List, [], ◌∷◌, length, get_or, fold, map, refl, sym, ap, arith, Option, Some, None, slice_get}
use Rattle.std.specs.Prelude.{⊤}
use Rattle.std.specs.List.{AllByRecursion}
use Rattle.std.specs.Option.{option_map}
use Rattle.std.specs.Cmp.Lexicographic.{slice_cmp}
use Rattle.std.specs.Ordering.{is_lt, nat_cmp, ordering_reverse}
use Rattle.std.specs.declared.cmp.Ordering.{Ordering}
use Rattle.std.specs.declared.cmp.Ordering.TheVariants.{Equal, Greater, Less}
use Rattle.std.proofs.lemmas.Cmp.{nat_list_cmp_total}
use Rattle.serde_json.specs.Data.{Data, Members, boolean, member, no_members, object, string}
use Rattle.serde_json.specs.Find.{get}
use Rattle.serde_json.specs.View.{items_of}
use Rattle.tree_base.specs.ByteOrder.{is_before}
use Rattle.tree_base.specs.declared.place.Var.{Var}
use Rattle.laws_bytes.specs.Differences.{InOrder, IfAny}
use Rattle.engine_bodies.specs.Json.{Member, array_of, empty_object, if_any, integer, mapping_of, object_of, pairs, set_of, texts, with_member}
use Rattle.laws_bytes.specs.BodyLaws.{names_differ}
use Rattle.laws_bytes.proofs.Lookups.{tables}

-- single values

pub string_same : (s t : List ℕ) → string s ≡ string t → s ≡ t
string_same s t e = cc

pub boolean_same : (a b : Bool) → boolean a ≡ boolean b → a ≡ b
boolean_same a b e = cc

pub integer_same : (a b : ℤ) → integer a ≡ integer b → a ≡ b
integer_same (pos a) (pos b) e = let same : a ≡ b = cc in ap pos same
integer_same (pos a) (negsuc b) e = absurd (cc e)
integer_same (negsuc a) (pos b) e = absurd (cc e)
integer_same (negsuc a) (negsuc b) e = cc

pub option_same : {X : Type 0} (told : X → Data) → ((x y : X) → told x ≡ told y → x ≡ y) → (a b : Option X) → option_map told a ≡ option_map told b → a ≡ b
option_same told same None None e = refl
option_same told same None (Some y) e = absurd (cc e)
option_same told same (Some x) None e = absurd (cc e)
option_same told same (Some x) (Some y) e = let is : told x ≡ told y = cc in ap Some (same x y is)

pub some_same : (d e : Data) → Some d ≡ Some e → d ≡ e
some_same d e is = cc

-- lists

items_same : {X : Type 0} (told : X → Data) → ((x y : X) → told x ≡ told y → x ≡ y) → (xs ys : List X) → items_of (map told xs) ≡ items_of (map told ys) → xs ≡ ys
items_same told same [] [] e = refl
items_same told same [] (y ∷ ys) e = absurd (cc e)
items_same told same (x ∷ xs) [] e = absurd (cc e)
items_same told same (x ∷ xs) (y ∷ ys) e =
    let here : told x ≡ told y = cc in
    let later : items_of (map told xs) ≡ items_of (map told ys) = cc in
    (λ i. same x y here i ∷ items_same told same xs ys later i)

pub array_same : {X : Type 0} (told : X → Data) → ((x y : X) → told x ≡ told y → x ≡ y) → (xs ys : List X) → array_of told xs ≡ array_of told ys → xs ≡ ys
array_same told same xs ys e = let is : items_of (map told xs) ≡ items_of (map told ys) = cc in items_same told same xs ys is

pub texts_same : (xs ys : List (List ℕ)) → texts xs ≡ texts ys → xs ≡ ys
texts_same xs ys e = array_same string string_same xs ys e

-- mappings

-- each stands before all later ones
abbrev Ordered : {X : Type 0} → (X → List ℕ) → List X → Type 0
Ordered key [] = ⊤
Ordered key (x ∷ xs) = AllByRecursion (λ y. slice_cmp nat_cmp (key y) (key x) ≡ Greater) xs × Ordered key xs

above : (s t : List ℕ) → is_before s t ≡ true → slice_cmp nat_cmp t s ≡ Greater
above s t e = nat_list_cmp_total.antisymm t s ∙ ap ordering_reverse (less (slice_cmp nat_cmp s t) e)
  where
    less : (o : Ordering) → is_lt o ≡ true → o ≡ Less
    less Less e = refl
    less Equal e = absurd (cc e)
    less Greater e = absurd (cc e)

all_above : {X : Type 0} (key : X → List ℕ) (x : X) (xs : List X) → ((j : ℕ) (y : X) → slice_get xs j ≡ Some y → is_before (key x) (key y) ≡ true) → AllByRecursion (λ y. slice_cmp nat_cmp (key y) (key x) ≡ Greater) xs
all_above key x [] before = tt
all_above key x (y ∷ ys) before = (above (key x) (key y) (before 0 y refl), all_above key x ys (λ j z e. before (suc j) z e))

ordered : {X : Type 0} (key : X → List ℕ) (xs : List X) → InOrder key xs → Ordered key xs
ordered key [] h = tt
ordered key (x ∷ xs) h = (
  all_above key x xs (λ j y e. h 0 (suc j) x y (omega arith) refl e),
  ordered key xs (λ i j y z l e f. h (suc i) (suc j) y z (omega arith) e f),
)

-- the members in this order
abbrev listed : {X : Type 0} → (X → List ℕ) → (X → Data) → List X → Members
listed key told [] = no_members
listed key told (x ∷ xs) = member (key x) (told x) (listed key told xs)

stays : (k : List ℕ) (d : Data) (ms : Members) (name : List ℕ) (value : Data) → slice_cmp nat_cmp name k ≡ Greater → with_member (member k d ms) (name, Some value) ≡ member k d (with_member ms (name, Some value))
unfolding with_member
stays k d ms name value e = rw e

first_stays : {X : Type 0} (key : X → List ℕ) (told : X → Data) (k : List ℕ) (d : Data) (xs : List X) (ms : Members) → AllByRecursion (λ y. slice_cmp nat_cmp (key y) k ≡ Greater) xs
    → fold with_member (member k d ms) (map (λ x. (key x, Some (told x))) xs) ≡ member k d (fold with_member ms (map (λ x. (key x, Some (told x))) xs))
first_stays key told k d [] ms p = refl
first_stays key told k d (x ∷ xs) ms p =
    ap (λ (m : Members). fold with_member m (map (λ x. (key x, Some (told x))) xs)) (stays k d ms (key x) (told x) p.0)
    ∙ first_stays key told k d xs (with_member ms (key x, Some (told x))) p.1

alone : (name : List ℕ) (value : Data) → with_member no_members (name, Some value) ≡ member name value no_members
unfolding with_member
alone name value = refl

in_order : {X : Type 0} (key : X → List ℕ) (told : X → Data) (xs : List X) → Ordered key xs → fold with_member no_members (map (λ x. (key x, Some (told x))) xs) ≡ listed key told xs
in_order key told [] p = refl
in_order key told (x ∷ xs) p =
    ap (λ (m : Members). fold with_member m (map (λ x. (key x, Some (told x))) xs)) (alone (key x) (told x))
    ∙ first_stays key told (key x) (told x) xs no_members p.0
    ∙ ap (member (key x) (told x)) (in_order key told xs p.1)

listed_same : {X : Type 0} (key : X → List ℕ) (told : X → Data) → ((x y : X) → key x ≡ key y → told x ≡ told y → x ≡ y) → (xs ys : List X) → listed key told xs ≡ listed key told ys → xs ≡ ys
listed_same key told same [] [] e = refl
listed_same key told same [] (y ∷ ys) e = absurd (cc e)
listed_same key told same (x ∷ xs) [] e = absurd (cc e)
listed_same key told same (x ∷ xs) (y ∷ ys) e =
    let named : key x ≡ key y = cc in
    let here : told x ≡ told y = cc in
    let later : listed key told xs ≡ listed key told ys = cc in
    (λ i. same x y named here i ∷ listed_same key told same xs ys later i)

pub mapping_same : {X : Type 0} (key : X → List ℕ) (told : X → Data) → ((x y : X) → key x ≡ key y → told x ≡ told y → x ≡ y) → (xs ys : List X) → InOrder key xs → InOrder key ys → mapping_of key told xs ≡ mapping_of key told ys → xs ≡ ys
mapping_same key told same xs ys p q e =
    let members : fold with_member no_members (map (λ x. (key x, Some (told x))) xs) ≡ fold with_member no_members (map (λ x. (key x, Some (told x))) ys) = cc in
    listed_same key told same xs ys (sym (in_order key told xs (ordered key xs p)) ∙ members ∙ in_order key told ys (ordered key ys q))

var_same : (x y : Var) → x.name ≡ y.name → string x.value ≡ string y.value → x ≡ y
var_same x y n e = let v : x.value ≡ y.value = cc in (λ i. record { name = n i; value = v i })

pub pairs_same : (xs ys : List Var) → InOrder (λ pair. pair.name) xs → InOrder (λ pair. pair.name) ys → pairs xs ≡ pairs ys → xs ≡ ys
pairs_same xs ys p q e = mapping_same (λ pair. pair.name) (λ pair. string pair.value) var_same xs ys p q e

pub set_same : (xs ys : List (List ℕ)) → InOrder (λ name. name) xs → InOrder (λ name. name) ys → set_of xs ≡ set_of ys → xs ≡ ys
set_same xs ys p q e = mapping_same (λ name. name) (λ name. empty_object) (λ x y n d. n) xs ys p q e

pub option_same_if : {X : Type 0} (P : X → Type 0) (told : X → Data) → ((x y : X) → P x → P y → told x ≡ told y → x ≡ y) → (a b : Option X) → IfAny P a → IfAny P b → option_map told a ≡ option_map told b → a ≡ b
option_same_if P told same None None p q e = refl
option_same_if P told same None (Some y) p q e = absurd (cc e)
option_same_if P told same (Some x) None p q e = absurd (cc e)
option_same_if P told same (Some x) (Some y) p q e = let is : told x ≡ told y = cc in ap Some (same x y p q is)

pub any_same : (a b : Members) → if_any a ≡ if_any b → object a ≡ object b
any_same no_members no_members e = refl
any_same no_members (member l v ns) e = absurd (cc e)
any_same (member k d ms) no_members e = absurd (cc e)
any_same (member k d ms) (member l v ns) e = cc

-- the values of two tables whose objects are one
pub same_at : (xs ys : List Member) → names_differ xs ≡ true → names_differ ys ≡ true → object_of xs ≡ object_of ys → (k : ℕ) → k < length xs → k < length ys
    → (get_or xs k ([], None)).0 ≡ (get_or ys k ([], None)).0 → (get_or xs k ([], None)).1 ≡ (get_or ys k ([], None)).1
same_at xs ys p q e k l m named = sym ((tables xs p).found k ([], None) l) ∙ (λ i. get (named i) (e i)) ∙ (tables ys q).found k ([], None) m
