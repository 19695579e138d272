-- The tree that a node means has no mark, and no key twice where the node's page is read back.
use Rattle.std.proofs.Common.{◌≡◌, ◌∙◌, ℕ, ◌&&◌, ◌||◌, Bool, true, false, not, List, [], ◌∷◌, map, refl, sym, ap, rules, true≢false}
use Rattle.std.proofs.lemmas.Bool.{and_from, and_parts}
use Rattle.std.proofs.lemmas.Slice.Eq.{bytes_eq-Decides}
use Rattle.std.specs.List.{list_all, list_any}
use Rattle.std.specs.Map.{keys_of, values_of}
use Rattle.std.specs.Str.{bytes_eq, is_utf8}
use Rattle.merge_rules.specs.Laws.{are_apart, no_mark, own_keys}
use Rattle.laws_pages.proofs.Values.{value_entry, value_map, value_null, value_seq, value_text, value_word}
use Rattle.project_print.specs.Values.{value_of}
use Rattle.project_print.specs.declared.node.Node.{Node}
use Rattle.project_print.specs.declared.node.Node.TheVariants.{Map}
use Rattle.tree_base.specs.declared.tree.Tree.{Tree, the_lemmas}
use Rattle.tree_base.specs.declared.tree.Tree.TheVariants as trees
use Rattle.laws_yaml.proofs.Induction.{OfAll, of_every}
use Rattle.laws_yaml.specs.Readable.{are_distinct, is_so}
use Rattle.laws_yaml.proofs.Decoded.{keys_in, printable_in, printable_map, printable_seq}
use Rattle.laws_yaml.specs.Printed.{is_printable}

abbrev Entries : Type 0
Entries = List (List ℕ × Tree)

-- marks
abbrev cleans : Entries → List (List ℕ × Bool)
cleans es = map (λ (e : List ℕ × Tree). (e.0, no_mark e.1)) es

null_clean : no_mark trees.Null ≡ true
null_clean = search (rules, the_lemmas)

scalar_clean : (text : List ℕ) → no_mark (trees.Scalar text) ≡ true
scalar_clean text = search (rules, the_lemmas)

map_clean : (es : Entries) → no_mark (trees.Map es) ≡ list_all (λ is. is) (values_of (cleans es))
map_clean es = search (rules, the_lemmas)

seq_clean : (xs : List Tree) → no_mark (trees.Seq xs) ≡ list_all (λ is. is) (map no_mark xs)
seq_clean xs = search (rules, the_lemmas)

abbrev Clean : Node → Type 0
Clean node = no_mark (value_of node) ≡ true

entries_clean : (es : List (List ℕ × Node)) → OfAll (λ (e : List ℕ × Node). Clean e.1) es → list_all (λ is. is) (values_of (cleans (map value_entry es))) ≡ true
entries_clean [] h = refl
entries_clean (e ∷ es) h = and_from (no_mark (value_of e.1)) (list_all (λ is. is) (values_of (cleans (map value_entry es)))) h.0 (entries_clean es h.1)

items_clean : (xs : List Node) → OfAll Clean xs → list_all (λ is. is) (map no_mark (map value_of xs)) ≡ true
items_clean [] h = refl
items_clean (x ∷ xs) h = and_from (no_mark (value_of x)) (list_all (λ is. is) (map no_mark (map value_of xs))) h.0 (items_clean xs h.1)

pub value_clean : (node : Node) → no_mark (value_of node) ≡ true
value_clean =
    of_every Clean (ap no_mark value_null ∙ null_clean) (λ text. ap no_mark (value_word text) ∙ scalar_clean text) (λ text. ap no_mark (value_text text) ∙ scalar_clean text)
    (λ es h. ap no_mark (value_map es) ∙ map_clean (map value_entry es) ∙ entries_clean es h)
    (λ xs h. ap no_mark (value_seq xs) ∙ seq_clean (map value_of xs) ∙ items_clean xs h)

-- keys
abbrev owns : Entries → List (List ℕ × Bool)
owns es = map (λ (e : List ℕ × Tree). (e.0, own_keys e.1)) es

null_own : own_keys trees.Null ≡ true
null_own = search (rules, the_lemmas)

scalar_own : (text : List ℕ) → own_keys (trees.Scalar text) ≡ true
scalar_own text = search (rules, the_lemmas)

map_own : (es : Entries) → own_keys (trees.Map es) ≡ (are_apart (keys_of (owns es)) && list_all (λ is. is) (values_of (owns es)))
map_own es = search (rules, the_lemmas)

seq_own : (xs : List Tree) → own_keys (trees.Seq xs) ≡ list_all (λ is. is) (map own_keys xs)
seq_own xs = search (rules, the_lemmas)

turned : (one other : List ℕ) → bytes_eq one other ≡ bytes_eq other one
turned one other = at (bytes_eq one other) refl (bytes_eq other one) refl
  where
    at : (b : Bool) → bytes_eq one other ≡ b → (c : Bool) → bytes_eq other one ≡ c → b ≡ c
    at true p true q = refl
    at false p false q = refl
    at true p false q = absurd (true≢false (sym ((bytes_eq-Decides other one).1 (sym ((bytes_eq-Decides one other).0 p))) ∙ q))
    at false p true q = absurd (true≢false (sym ((bytes_eq-Decides one other).1 (sym ((bytes_eq-Decides other one).0 q))) ∙ p))

any_turned : (key : List ℕ) (keys : List (List ℕ)) → list_any (bytes_eq key) keys ≡ list_any (λ other. bytes_eq other key) keys
any_turned key [] = refl
any_turned key (k ∷ keys) = (λ i. turned key k i || any_turned key keys i)

apart : (keys : List (List ℕ)) → are_distinct keys ≡ are_apart keys
apart [] = refl
apart (key ∷ keys) = (λ i. not (any_turned key keys i) && apart keys i)

same_keys : (es : List (List ℕ × Node)) → keys_of (owns (map value_entry es)) ≡ keys_in es
same_keys [] = refl
same_keys (e ∷ es) = ap (λ (keys : List (List ℕ)). e.0 ∷ keys) (same_keys es)

abbrev Owns : Node → Type 0
Owns node = is_printable node ≡ true → own_keys (value_of node) ≡ true

entries_own : (es : List (List ℕ × Node)) → OfAll (λ (e : List ℕ × Node). Owns e.1) es → list_all is_so (printable_in es) ≡ true → list_all (λ is. is) (values_of (owns (map value_entry es))) ≡ true
entries_own [] h all = refl
entries_own (e ∷ es) h all =
    let both = and_parts (is_printable e.1) (list_all is_so (printable_in es)) all in
    and_from (own_keys (value_of e.1)) (list_all (λ is. is) (values_of (owns (map value_entry es)))) (h.0 both.0) (entries_own es h.1 both.1)

items_own : (xs : List Node) → OfAll Owns xs → list_all is_so (map is_printable xs) ≡ true → list_all (λ is. is) (map own_keys (map value_of xs)) ≡ true
items_own [] h all = refl
items_own (x ∷ xs) h all =
    let both = and_parts (is_printable x) (list_all is_so (map is_printable xs)) all in
    and_from (own_keys (value_of x)) (list_all (λ is. is) (map own_keys (map value_of xs))) (h.0 both.0) (items_own xs h.1 both.1)

of_map : (es : List (List ℕ × Node)) → OfAll (λ (e : List ℕ × Node). Owns e.1) es → Owns (Map es)
of_map es h printable =
    let parts = and_parts (list_all is_utf8 (keys_in es)) (are_distinct (keys_in es) && list_all is_so (printable_in es)) (sym (printable_map es) ∙ printable) in
    let rest = and_parts (are_distinct (keys_in es)) (list_all is_so (printable_in es)) parts.1 in
    ap own_keys (value_map es) ∙ map_own (map value_entry es)
    ∙ and_from (are_apart (keys_of (owns (map value_entry es)))) (list_all (λ is. is) (values_of (owns (map value_entry es))))
    (ap are_apart (same_keys es) ∙ sym (apart (keys_in es)) ∙ rest.0) (entries_own es h rest.1)

pub value_own : (node : Node) → is_printable node ≡ true → own_keys (value_of node) ≡ true
value_own =
    of_every Owns (λ printable. ap own_keys value_null ∙ null_own) (λ text printable. ap own_keys (value_word text) ∙ scalar_own text) (λ text printable. ap own_keys (value_text text) ∙ scalar_own text)
    of_map
    (λ xs h printable. ap own_keys (value_seq xs) ∙ seq_own (map value_of xs) ∙ items_own xs h (sym (printable_seq xs) ∙ printable))
