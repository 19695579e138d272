-- Trees without marks, with keys of their own.
use Rattle.std.proofs.Common.{◌≡◌, ◌∙◌, ℕ, Bool, true, false, ◌&&◌, List, [], ◌∷◌, map, ap, refl, sym, subst, true≢false, rules}
use Rattle.std.proofs.lemmas.Bool.{and_parts}
use Rattle.std.specs.List.{list_all}
use Rattle.std.specs.Map.{keys_of, values_of}
use Rattle.tree_base.specs.declared.tree.Tree.{Tree, the_lemmas}
use Rattle.tree_base.specs.declared.tree.Tree.TheVariants.{Map, Override, Reset, Seq}
use Rattle.attribute_paths.proofs.Trees.{OfAll, of_every}
use Rattle.merge_rules.specs.Laws.{are_apart, no_mark, own_keys}
use Rattle.laws_merging.proofs.Entries.{Entries}
use Rattle.laws_merging.proofs.Over.{IsBare, Stays, bare_map, bare_scalar, bare_seq, null_lays}

-- a tree without marks and with keys of its own
abbrev pub IsClean : Tree → Type 0
IsClean tree = (no_mark tree ≡ true) × (own_keys tree ≡ true)

abbrev pub AreClean : Entries → Type 0
AreClean es = OfAll (λ (e : List ℕ × Tree). IsClean e.1) es

abbrev marks : Entries → List (List ℕ × Bool)
marks es = map (λ (e : List ℕ × Tree). (e.0, no_mark e.1)) es

abbrev owns : Entries → List (List ℕ × Bool)
owns es = map (λ (e : List ℕ × Tree). (e.0, own_keys e.1)) es

marks_open : (es : Entries) → no_mark (Map es) ≡ list_all (λ is. is) (values_of (marks es))
marks_open es = search (rules, the_lemmas)

owns_open : (es : Entries) → own_keys (Map es) ≡ (are_apart (keys_of (owns es)) && list_all (λ is. is) (values_of (owns es)))
owns_open es = search (rules, the_lemmas)

keys_same : (es : Entries) → keys_of (owns es) ≡ keys_of es
keys_same [] = refl
keys_same (e ∷ es) = ap (λ (l : List (List ℕ)). e.0 ∷ l) (keys_same es)

each_clean : (es : Entries) → list_all (λ is. is) (values_of (marks es)) ≡ true → list_all (λ is. is) (values_of (owns es)) ≡ true → AreClean es
each_clean [] h k = tt
each_clean (e ∷ es) h k =
    let p = and_parts (no_mark e.1) (list_all (λ is. is) (values_of (marks es))) h in
    let q = and_parts (own_keys e.1) (list_all (λ is. is) (values_of (owns es))) k in
    ((p.0, q.0), each_clean es p.1 q.1)

pub map_clean : (es : Entries) → IsClean (Map es) → (are_apart (keys_of es) ≡ true) × AreClean es
map_clean es h =
    let p = and_parts (are_apart (keys_of (owns es))) (list_all (λ is. is) (values_of (owns es))) (sym (owns_open es) ∙ h.1) in
    (ap are_apart (sym (keys_same es)) ∙ p.0, each_clean es (sym (marks_open es) ∙ h.0) p.1)

pub reset_marks : no_mark Reset ≡ false
reset_marks = search (rules, the_lemmas)

pub override_marks : (inner : Tree) → no_mark (Override inner) ≡ false
override_marks inner = search (rules, the_lemmas)

-- a tree without marks takes nothing away
pub bare : (tree : Tree) → no_mark tree ≡ true → IsBare tree
bare =
    of_every (λ tree. no_mark tree ≡ true → IsBare tree)
    (λ h s l b. subst Stays (sym (null_lays s l b)) tt)
    (λ text h. bare_scalar text)
    (λ es is h. bare_map es)
    (λ xs is h. bare_seq xs)
    (λ h. absurd (true≢false (sym h ∙ reset_marks)))
    (λ inner is h. absurd (true≢false (sym h ∙ override_marks inner)))

-- a sequence has such items
seq_marks : (xs : List Tree) → no_mark (Seq xs) ≡ list_all (λ is. is) (map no_mark xs)
seq_marks xs = search (rules, the_lemmas)

seq_owns : (xs : List Tree) → own_keys (Seq xs) ≡ list_all (λ is. is) (map own_keys xs)
seq_owns xs = search (rules, the_lemmas)

each_item : (xs : List Tree) → list_all (λ is. is) (map no_mark xs) ≡ true → list_all (λ is. is) (map own_keys xs) ≡ true → OfAll IsClean xs
each_item [] h k = tt
each_item (x ∷ xs) h k =
    let p = and_parts (no_mark x) (list_all (λ is. is) (map no_mark xs)) h in
    let q = and_parts (own_keys x) (list_all (λ is. is) (map own_keys xs)) k in
    ((p.0, q.0), each_item xs p.1 q.1)

pub seq_clean : (xs : List Tree) → IsClean (Seq xs) → OfAll IsClean xs
seq_clean xs h = each_item xs (sym (seq_marks xs) ∙ h.0) (sym (seq_owns xs) ∙ h.1)
