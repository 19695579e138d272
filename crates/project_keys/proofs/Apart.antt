-- Trees whose mappings have no key twice: what their parts have, and what they have by their parts.
use Rattle.std.proofs.Common.{◌≡◌, ℕ, Bool, true, false, List, [], ◌∷◌, map, refl, ap, sym, ◌∙◌, rules}
use Rattle.std.specs.Prelude.{All, ◌&&◌, ◌||◌, not}
use Rattle.std.specs.List.{AllByRecursion, IsDistinct, list_all, list_any}
use Rattle.std.specs.Map.{keys_of, values_of}
use Rattle.std.specs.Str.{bytes_eq}
use Rattle.std.proofs.lemmas.Cmp.{nat_list_eq_equiv}
use Rattle.std.proofs.lemmas.List.Elements.{All-cons, All-nil}
use Rattle.tree_base.specs.Entries.{HasDistinctKeys}
use Rattle.tree_base.specs.declared.tree.Tree.{Tree, the_lemmas}
use Rattle.tree_base.specs.declared.tree.Tree.TheVariants.{Map, Null, Seq}
use Rattle.merge_rules.specs.Laws.{are_apart, own_keys}
use Rattle.attribute_scalars.specs.Walks.{Entries}

both : (a b : Bool) → (a && b) ≡ true → (a ≡ true) × (b ≡ true)
both true b e = (refl, e)
both false b e = absurd (cc e)

no_other : (key : List ℕ) (keys : List (List ℕ)) → AllByRecursion (λ t. bytes_eq key t ≡ false) keys → list_any (λ other. bytes_eq other key) keys ≡ false
no_other key [] h = refl
no_other key (t ∷ ts) h = λ i. (nat_list_eq_equiv.symm t key ∙ h.0) i || no_other key ts h.1 i

-- keys that differ are apart
pub differ_apart : (keys : List (List ℕ)) → IsDistinct bytes_eq keys → are_apart keys ≡ true
unfolding IsDistinct
differ_apart [] d = refl
differ_apart (key ∷ keys) d = λ i. not (no_other key keys d.0 i) && differ_apart keys d.1 i

each_other : (key : List ℕ) (keys : List (List ℕ)) → not (list_any (λ other. bytes_eq other key) keys) ≡ true → AllByRecursion (λ t. bytes_eq key t ≡ false) keys
each_other key [] h = tt
each_other key (t ∷ ts) h = at (each_other key ts) (bytes_eq t key) refl h
  where
    at : (not (list_any (λ other. bytes_eq other key) ts) ≡ true → AllByRecursion (λ t. bytes_eq key t ≡ false) ts)
        → (b : Bool) → bytes_eq t key ≡ b → not (b || list_any (λ other. bytes_eq other key) ts) ≡ true → AllByRecursion (λ t. bytes_eq key t ≡ false) (t ∷ ts)
    at rest true e f = absurd (cc f)
    at rest false e f = (nat_list_eq_equiv.symm key t ∙ e, rest f)

-- keys that are apart differ
pub apart_differ : (keys : List (List ℕ)) → are_apart keys ≡ true → IsDistinct bytes_eq keys
unfolding IsDistinct
apart_differ [] e = tt
apart_differ (key ∷ keys) e =
    let parts = both (not (list_any (λ other. bytes_eq other key) keys)) (are_apart keys) e in
    (each_other key keys parts.0, apart_differ keys parts.1)

map_opens : (es : Entries) → own_keys (Map es) ≡ (are_apart (keys_of (map (λ (e : List ℕ × Tree). (e.0, own_keys e.1)) es)) && list_all (λ is. is) (values_of (map (λ (e : List ℕ × Tree). (e.0, own_keys e.1)) es)))
map_opens es = search (rules, the_lemmas)

seq_opens : (xs : List Tree) → own_keys (Seq xs) ≡ list_all (λ is. is) (map own_keys xs)
seq_opens xs = search (rules, the_lemmas)

pub null_owns : own_keys Null ≡ true
null_owns = search (rules, the_lemmas)

keys_same : (es : Entries) → keys_of (map (λ (e : List ℕ × Tree). (e.0, own_keys e.1)) es) ≡ keys_of es
keys_same [] = refl
keys_same (e ∷ es) = ap (λ (l : List (List ℕ)). e.0 ∷ l) (keys_same es)

values_same : (es : Entries) → list_all (λ is. is) (values_of (map (λ (e : List ℕ × Tree). (e.0, own_keys e.1)) es)) ≡ list_all own_keys (values_of es)
values_same [] = refl
values_same (e ∷ es) = ap (λ (b : Bool). own_keys e.1 && b) (values_same es)

items_same : (xs : List Tree) → list_all (λ is. is) (map own_keys xs) ≡ list_all own_keys xs
items_same [] = refl
items_same (x ∷ xs) = ap (λ (b : Bool). own_keys x && b) (items_same xs)

pub map_owns : (es : Entries) → are_apart (keys_of es) ≡ true → list_all own_keys (values_of es) ≡ true → own_keys (Map es) ≡ true
map_owns es apart own = map_opens es ∙ (λ i. (ap are_apart (keys_same es) ∙ apart) i && (values_same es ∙ own) i)

pub seq_owns : (xs : List Tree) → list_all own_keys xs ≡ true → own_keys (Seq xs) ≡ true
seq_owns xs own = seq_opens xs ∙ items_same xs ∙ own

-- what stands under each key has no key twice either
abbrev pub Own : List ℕ × Tree → Type 0
Own entry = own_keys entry.1 ≡ true

each_own : (es : Entries) → list_all own_keys (values_of es) ≡ true → All Own es
each_own [] e = All-nil Own
each_own (entry ∷ es) e =
    let parts = both (own_keys entry.1) (list_all own_keys (values_of es)) e in
    All-cons Own entry es parts.0 (each_own es parts.1)

-- a mapping without keys that stand twice
pub map_parts : (es : Entries) → own_keys (Map es) ≡ true → HasDistinctKeys es × All Own es
map_parts es e =
    let parts = both (are_apart (keys_of (map (λ (e : List ℕ × Tree). (e.0, own_keys e.1)) es))) (list_all (λ is. is) (values_of (map (λ (e : List ℕ × Tree). (e.0, own_keys e.1)) es))) (sym (map_opens es) ∙ e) in
    (apart_differ (keys_of es) (ap are_apart (sym (keys_same es)) ∙ parts.0), each_own es (sym (values_same es) ∙ parts.1))
