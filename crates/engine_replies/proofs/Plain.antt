-- The values of replies have no float and nest a few levels deep.
use Rattle.std.proofs.Common.{◌≡◌, ◌≤◌, ℕ, suc, ℤ, pos, negsuc, false, List, [], ◌∷◌, fold, map, refl, arith, Option, Some, None}
use Rattle.std.specs.Prelude.{⊤}
use Rattle.std.specs.Cmp.Lexicographic.{slice_cmp}
use Rattle.std.specs.Ordering.{match_ordering, nat_cmp}
use Rattle.std.specs.declared.cmp.Ordering.{Ordering}
use Rattle.std.specs.declared.cmp.Ordering.TheVariants.{Equal, Greater, Less}
use Rattle.std.proofs.lemmas.Bool.{or_from, or_parts}
use Rattle.serde_json.specs.Data.{Data, Items, Members, depth, items_depth, member, members_depth, no_members, put, string}
use Rattle.serde_json.specs.View.{items_of}
use Rattle.serde_json.specs.Written.{has_float, items_have_float, members_have_float}
use Rattle.tree_base.specs.declared.place.Var.{Var}
use Rattle.engine_bodies.specs.Json.{Member, array_of, empty_object, integer, mapping_of, object_of, pairs, set_of, texts, with_member}

-- no float, and at most n levels
pub record IsPlain (n : ℕ) (d : Data) : Type 0 where
  pub no_float : has_float d ≡ false
  pub shallow : depth d ≤ n

-- the same of items
record ArePlainItems (n : ℕ) (ds : Items) : Type 0 where
  no_float : items_have_float ds ≡ false
  shallow : items_depth ds ≤ n

-- the same of members
pub record ArePlain (n : ℕ) (ms : Members) : Type 0 where
  pub no_float : members_have_float ms ≡ false
  pub shallow : members_depth ms ≤ n

-- the same of what there may be
abbrev pub PlainIfAny : ℕ → Option Data → Type 0
PlainIfAny n None = ⊤
PlainIfAny n (Some d) = IsPlain n d

-- the same of each row of a table
abbrev pub PlainRows : ℕ → List Member → Type 0
PlainRows n [] = ⊤
PlainRows n (m ∷ ms) = PlainIfAny n m.1 × PlainRows n ms

-- single values

pub string_plain : (n : ℕ) (s : List ℕ) → IsPlain n (string s)
string_plain n s = record { no_float = refl; shallow = omega arith }

pub integer_plain : (n : ℕ) (z : ℤ) → IsPlain n (integer z)
integer_plain n (pos z) = record { no_float = refl; shallow = omega arith }
integer_plain n (negsuc z) = record { no_float = refl; shallow = omega arith }

pub empty_plain : (n : ℕ) → IsPlain (suc n) empty_object
empty_plain n = record { no_float = refl; shallow = omega arith }

-- lists

items_plain : {X : Type 0} (n : ℕ) (told : X → Data) → ((x : X) → IsPlain n (told x)) → (xs : List X) → ArePlainItems n (items_of (map told xs))
items_plain n told each [] = record { no_float = refl; shallow = omega arith }
items_plain n told each (x ∷ xs) =
    let here = each x in
    let later = items_plain n told each xs in
    record {
      no_float = or_from (has_float (told x)) (items_have_float (items_of (map told xs))) here.no_float later.no_float;
      shallow = let a : depth (told x) ≤ n = here.shallow in let b : items_depth (items_of (map told xs)) ≤ n = later.shallow in omega arith;
    }

pub array_plain : {X : Type 0} (n : ℕ) (told : X → Data) → ((x : X) → IsPlain n (told x)) → (xs : List X) → IsPlain (suc n) (array_of told xs)
array_plain n told each xs =
    let items = items_plain n told each xs in
    record { no_float = items.no_float; shallow = let a : items_depth (items_of (map told xs)) ≤ n = items.shallow in omega arith }

pub texts_plain : (n : ℕ) (ts : List (List ℕ)) → IsPlain (suc n) (texts ts)
texts_plain n ts = array_plain n string (string_plain n) ts

-- objects

more : (n : ℕ) (k : List ℕ) (d : Data) (ms : Members) → IsPlain n d → ArePlain n ms → ArePlain n (member k d ms)
more n k d ms p q = record {
  no_float = or_from (has_float d) (members_have_float ms) p.no_float q.no_float;
  shallow = let a : depth d ≤ n = p.shallow in let b : members_depth ms ≤ n = q.shallow in omega arith;
}

first : (n : ℕ) (k : List ℕ) (d : Data) (ms : Members) → ArePlain n (member k d ms) → IsPlain n d
first n k d ms p = record {
  no_float = (or_parts (has_float d) (members_have_float ms) p.no_float).0;
  shallow = let a : members_depth (member k d ms) ≤ n = p.shallow in omega arith;
}

rest : (n : ℕ) (k : List ℕ) (d : Data) (ms : Members) → ArePlain n (member k d ms) → ArePlain n ms
rest n k d ms p = record {
  no_float = (or_parts (has_float d) (members_have_float ms) p.no_float).1;
  shallow = let a : members_depth (member k d ms) ≤ n = p.shallow in omega arith;
}

put_at : (n : ℕ) (o : Ordering) (k l : List ℕ) (d e : Data) (ms : Members) → IsPlain n d → ArePlain n (member l e ms) → ArePlain n (put k d ms)
    → ArePlain n (match_ordering o (member k d (member l e ms)) (member l d ms) (member l e (put k d ms)))
put_at n Less k l d e ms p q later = more n k d (member l e ms) p q
put_at n Equal k l d e ms p q later = more n l d ms p (rest n l e ms q)
put_at n Greater k l d e ms p q later = more n l e (put k d ms) (first n l e ms q) later

none_plain : (n : ℕ) → ArePlain n no_members
none_plain n = record { no_float = refl; shallow = omega arith }

put_plain : (n : ℕ) (k : List ℕ) (d : Data) (ms : Members) → IsPlain n d → ArePlain n ms → ArePlain n (put k d ms)
put_plain n k d no_members p q = more n k d no_members p q
put_plain n k d (member l e ms) p q = put_at n (slice_cmp nat_cmp k l) k l d e ms p q (put_plain n k d ms p (rest n l e ms q))

with_plain : (n : ℕ) (ms : Members) (name : List ℕ) (value : Option Data) → PlainIfAny n value → ArePlain n ms → ArePlain n (with_member ms (name, value))
unfolding with_member
with_plain n ms name None p q = q
with_plain n ms name (Some d) p q = put_plain n name d ms p q

fold_plain : (n : ℕ) (ms : Members) (rows : List Member) → PlainRows n rows → ArePlain n ms → ArePlain n (fold with_member ms rows)
fold_plain n ms [] p q = q
fold_plain n ms (m ∷ rows) p q = fold_plain n (with_member ms m) rows p.1 (with_plain n ms m.0 m.1 p.0 q)

pub object_plain : (n : ℕ) (rows : List Member) → PlainRows n rows → IsPlain (suc n) (object_of rows)
object_plain n rows p =
    let made = fold_plain n no_members rows p (none_plain n) in
    record { no_float = made.no_float; shallow = let a : members_depth (fold with_member no_members rows) ≤ n = made.shallow in omega arith }

keyed_plain : {X : Type 0} (n : ℕ) (key : X → List ℕ) (told : X → Data) → ((x : X) → IsPlain n (told x)) → (xs : List X) → PlainRows n (map (λ x. (key x, Some (told x))) xs)
keyed_plain n key told each [] = tt
keyed_plain n key told each (x ∷ xs) = (each x, keyed_plain n key told each xs)

pub mapping_plain : {X : Type 0} (n : ℕ) (key : X → List ℕ) (told : X → Data) → ((x : X) → IsPlain n (told x)) → (xs : List X) → IsPlain (suc n) (mapping_of key told xs)
mapping_plain n key told each xs = object_plain n (map (λ x. (key x, Some (told x))) xs) (keyed_plain n key told each xs)

pub pairs_plain : (n : ℕ) (given : List Var) → IsPlain (suc n) (pairs given)
pairs_plain n given = mapping_plain n (λ pair. pair.name) (λ pair. string pair.value) (λ pair. string_plain n pair.value) given

pub set_plain : (n : ℕ) (names : List (List ℕ)) → IsPlain (suc (suc n)) (set_of names)
set_plain n names = mapping_plain (suc n) (λ name. name) (λ name. empty_object) (λ name. empty_plain n) names
