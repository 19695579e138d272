-- Members that are added one after another are those of a table.
use Rattle.std.proofs.Common.{◌≡◌, ◌∙◌, ◌+◌, ◌<◌, ◌≤◌, ℕ, true, false, List, [], ◌∷◌, ◌++◌, length, get_or, fold, map, take, refl, subst, sym, ap, Result, Ok, Err, Option, Some, true≢false}
use Rattle.std.specs.Prelude.{IfOk, MatchResult}
use Rattle.std.proofs.lemmas.List.{map-append, take_all, take_more}
use Rattle.serde_json.specs.Data.{Data, Members, array, no_members, object, string}
use Rattle.serde_json.specs.View.{items_of, items_view, view}
use Rattle.serde_json.specs.declared.value.Value.{Value}
use Rattle.tree_base.specs.declared.memory.Memory.{Memory}
use Rattle.engine_replies.specs.declared.objects.Object.{Object}
use Rattle.engine_bodies.specs.Json.{Member, array_of, empty_object, object_of, with_member}
use Rattle.engine_replies.specs.Objects.{Adds, members_of}

fold_append : (ms : Members) (xs ys : List Member) → fold with_member (fold with_member ms xs) ys ≡ fold with_member ms (xs ++ ys)
fold_append ms [] ys = refl
fold_append ms (x ∷ xs) ys = fold_append (with_member ms x) xs ys

-- an item under its key
abbrev pub keyed : {X : Type 0} → (X → List ℕ) → (X → Data) → X → Member
keyed key told item = (key item, Some (told item))

-- a name without anything to say
abbrev pub alone : List ℕ → Member
alone name = (name, Some empty_object)

-- what is added after what was added
pub then : {a b c : Object} {xs ys : List Member} → Adds a b xs → Adds b c ys → Adds a c (xs ++ ys)
then {a} {b} {c} {xs} {ys} first later = record {
  kept = λ f. first.kept (later.kept f);
  members = λ f. later.members f ∙ ap (λ (m : Members). fold with_member m ys) (first.members (later.kept f)) ∙ fold_append (members_of a) xs ys;
}

-- a value that was made is added
pub made_is : {a b : Object} (told : Data) (name : List ℕ) (value : Result Value Memory) → MatchResult value (λ v. Adds a b ((name, Some (view v)) ∷ [])) (λ _. b.failed ≡ true)
    → IfOk value (λ v. view v ≡ told) → Adds a b ((name, Some told) ∷ [])
made_is {a} told name (Ok v) adds is = record {
  kept = adds.kept;
  members = λ f. adds.members f ∙ ap (λ (d : Data). with_member (members_of a) (name, Some d)) is;
}
made_is told name (Err e) failed is = record {
  kept = λ f. absurd (true≢false (sym failed ∙ f));
  members = λ f. absurd (true≢false (sym failed ∙ f));
}

-- a member under a name that is another's
pub named : {a b : Object} {told : Option Data} (name other : List ℕ) → name ≡ other → Adds a b ((name, told) ∷ []) → Adds a b ((other, told) ∷ [])
named {a} {b} {told} name other is adds = subst (λ (n : List ℕ). Adds a b ((n, told) ∷ [])) is adds

module _ {X : Type 0} (told : X → Member) {a b : Object} (xs : List X) (i : ℕ) where
  -- what is added of the first items, and of one more
  pub one_more : (c : Object) (x : X) → i < length xs → x ≡ get_or xs i x → Adds a b (map told (take i xs)) → Adds b c (told x ∷ []) → Adds a c (map told (take (i + 1) xs))
  one_more c x within is first later =
      let same : map told (take i xs) ++ told x ∷ [] ≡ map told (take (i + 1) xs) =
      sym (map-append told (take i xs) (x ∷ [])) ∙ ap (λ (z : X). map told (take i xs ++ z ∷ [])) is ∙ ap (map told) (sym (take_more xs i x within)) in
      subst (λ (rows : List Member). Adds a c rows) same (then first later)

  -- and of all
  pub all_items : (ys : List X) → length xs ≤ i → xs ≡ ys → Adds a b (map told (take i xs)) → Adds a b (map told ys)
  all_items ys past same adds = subst (λ (rows : List Member). Adds a b rows) (ap (map told) (take_all i xs past ∙ same)) adds

module _ {X : Type 0} (told : X → Data) (xs : List X) (i : ℕ) where
  -- the values of the first items, and of one more
  pub one_value : (x : X) (values new : List Value) (value : Value) → i < length xs → x ≡ get_or xs i x → map view values ≡ map told (take i xs)
      → view value ≡ told x → new ≡ values ++ value ∷ [] → map view new ≡ map told (take (i + 1) xs)
  one_value x values new value within is first later e =
      ap (map view) e
      ∙ map-append view values (value ∷ [])
      ∙ (λ j. first j ++ later j ∷ [])
      ∙ sym (map-append told (take i xs) (x ∷ []))
      ∙ ap (λ (z : X). map told (take i xs ++ z ∷ [])) is
      ∙ ap (map told) (sym (take_more xs i x within))

  -- and of all
  pub all_values : (ys : List X) (values : List Value) → length xs ≤ i → xs ≡ ys → map view values ≡ map told (take i xs) → array (items_view values) ≡ array_of told ys
  all_values ys values past same first = ap (λ (ds : List Data). array (items_of ds)) (first ∙ ap (map told) (take_all i xs past ∙ same))

-- no item was looked at
pub none_yet : {X : Type 0} (told : X → Member) (a : Object) (xs : List X) → Adds a a (map told (take 0 xs))
none_yet told a [] = record { kept = λ f. f; members = λ f. refl }
none_yet told a (x ∷ xs) = record { kept = λ f. f; members = λ f. refl }

-- an object that was ended is that of the table
pub ended : {a b : Object} {rows : List Member} (result : Result Value Memory) → members_of a ≡ no_members → Adds a b rows
    → IfOk result (λ value. (b.failed ≡ false) × (view value ≡ object (members_of b))) → IfOk result (λ value. view value ≡ object_of rows)
ended {rows = rows} (Ok value) empty adds whole = whole.1 ∙ ap object (adds.members whole.0 ∙ ap (λ (m : Members). fold with_member m rows) empty)
ended (Err e) empty adds whole = tt

-- a text that is another
pub worded : {a b : Object} (name text word : List ℕ) → text ≡ word → Adds a b ((name, Some (string text)) ∷ []) → Adds a b ((name, Some (string word)) ∷ [])
worded {a} {b} name text word is adds = subst (λ (t : List ℕ). Adds a b ((name, Some (string t)) ∷ [])) is adds
