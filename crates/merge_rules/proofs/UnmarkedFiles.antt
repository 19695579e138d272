-- A file without marks is laid, whatever its services extend.
use Rattle.std.proofs.Common.{◌≡◌, ◌∙◌, ℕ, ◌+◌, Bool, true, false, cond, List, [], ◌∷◌, map, Ok, ap, refl, subst, sym, true≢false, codes, rules}
use Rattle.tree_base.specs.Answers.{◌>>=◌}
use Rattle.tree_base.specs.declared.tree.Tree.{Tree, the_lemmas}
use Rattle.tree_base.specs.declared.tree.Tree.TheVariants.{Map, Null, Override, Reset, Scalar, Seq}
use Rattle.tree_base.specs.declared.Step.TheVariants.{Index, Key}
use Rattle.merge_tables.specs.Answers.{place, under}
use Rattle.merge_tables.specs.Parts.{field}
use Rattle.attribute_paths.proofs.Trees.{OfAll, of_every}
use Rattle.merge_rules.specs.Laws.{no_mark}
use Rattle.merge_rules.specs.Overlay.{over_files}
use Rattle.merge_rules.specs.UnderExtends.{Asked, UnmarkedFilesLaid, entries_asked, entries_of, extends_one, items_asked, marks_allowed, service_allowed, services_allowed, unmarked, values_unmarked}
use Rattle.merge_rules.proofs.AskedSteps.{map_asked, seq_asked}
use Rattle.merge_rules.proofs.Unmarked.{AreClean, IsClean, map_cleans, seq_cleans, value_clean}

reset_marks : no_mark Reset ≡ false
reset_marks = search (rules, the_lemmas)

override_marks : (inner : Tree) → no_mark (Override inner) ≡ false
override_marks inner = search (rules, the_lemmas)

-- parts of which none is refused
entries_pass : (f : Tree → Asked) (es : List (List ℕ × Tree)) → OfAll (λ (e : List ℕ × Tree). f e.1 ≡ Ok tt) es → entries_asked (map (λ (e : List ℕ × Tree). (e.0, f e.1)) es) ≡ Ok tt
entries_pass f [] h = refl
entries_pass f (e ∷ es) h =
    ap (λ (r : Asked). under (Key e.0) r >>= λ ok. entries_asked (map (λ (e : List ℕ × Tree). (e.0, f e.1)) es)) h.0 ∙ entries_pass f es h.1

items_pass : (at : ℕ) (xs : List Tree) → OfAll (λ (x : Tree). unmarked x ≡ Ok tt) xs → items_asked at (map unmarked xs) ≡ Ok tt
items_pass at [] h = refl
items_pass at (x ∷ xs) h = ap (λ (r : Asked). under (Index (place at)) r >>= λ ok. items_asked (at + 1) (map unmarked xs)) h.0 ∙ items_pass (at + 1) xs h.1

-- a tree without marks
abbrev Passes : Tree → Type 0
Passes tree = IsClean tree → unmarked tree ≡ Ok tt

each_passes : (es : List (List ℕ × Tree)) → OfAll (λ (e : List ℕ × Tree). Passes e.1) es → AreClean es → OfAll (λ (e : List ℕ × Tree). unmarked e.1 ≡ Ok tt) es
each_passes [] h c = tt
each_passes (e ∷ es) h c = (h.0 c.0, each_passes es h.1 c.1)

all_pass : (xs : List Tree) → OfAll Passes xs → OfAll IsClean xs → OfAll (λ (x : Tree). unmarked x ≡ Ok tt) xs
all_pass [] h c = tt
all_pass (x ∷ xs) h c = (h.0 c.0, all_pass xs h.1 c.1)

null_passes : unmarked Null ≡ Ok tt
null_passes = search (rules, the_lemmas)

scalar_passes : (text : List ℕ) → unmarked (Scalar text) ≡ Ok tt
scalar_passes text = search (rules, the_lemmas)

passes : (tree : Tree) → Passes tree
passes =
    of_every Passes
    (λ clean. null_passes)
    (λ text clean. scalar_passes text)
    (λ es h clean. map_asked es ∙ entries_pass unmarked es (each_passes es h (map_cleans es clean)))
    (λ xs h clean. seq_asked xs ∙ items_pass 0 xs (all_pass xs h (seq_cleans xs clean)))
    (λ clean. absurd (true≢false (sym clean ∙ reset_marks)))
    (λ inner h clean. absurd (true≢false (sym clean ∙ override_marks inner)))

of_values : (es : List (List ℕ × Tree)) → AreClean es → OfAll (λ (e : List ℕ × Tree). unmarked e.1 ≡ Ok tt) es
of_values [] c = tt
of_values (e ∷ es) c = (passes e.1 c.0, of_values es c.1)

-- the entries of a tree without marks
null_entries : entries_of Null ≡ []
null_entries = search (rules, the_lemmas)

scalar_entries : (text : List ℕ) → entries_of (Scalar text) ≡ []
scalar_entries text = search (rules, the_lemmas)

map_entries : (es : List (List ℕ × Tree)) → entries_of (Map es) ≡ es
map_entries es = search (rules, the_lemmas)

seq_entries : (xs : List Tree) → entries_of (Seq xs) ≡ []
seq_entries xs = search (rules, the_lemmas)

entries_clean : (tree : Tree) → IsClean tree → AreClean (entries_of tree)
entries_clean =
    of_every (λ tree. IsClean tree → AreClean (entries_of tree))
    (λ clean. subst AreClean (sym null_entries) tt)
    (λ text clean. subst AreClean (sym (scalar_entries text)) tt)
    (λ es h clean. subst AreClean (sym (map_entries es)) (map_cleans es clean))
    (λ xs h clean. subst AreClean (sym (seq_entries xs)) tt)
    (λ clean. absurd (true≢false (sym clean ∙ reset_marks)))
    (λ inner h clean. absurd (true≢false (sym clean ∙ override_marks inner)))

-- a service without marks, and services of such
service_passes : (service : Tree) → IsClean service → service_allowed service ≡ Ok tt
service_passes service clean = by (extends_one (entries_of service))
  where
    by : (b : Bool) → cond {A = Asked} b (values_unmarked (entries_of service)) (Ok tt) ≡ Ok tt
    by true = entries_pass unmarked (entries_of service) (of_values (entries_of service) (entries_clean service clean))
    by false = refl

of_services : (es : List (List ℕ × Tree)) → AreClean es → OfAll (λ (e : List ℕ × Tree). service_allowed e.1 ≡ Ok tt) es
of_services [] c = tt
of_services (e ∷ es) c = (service_passes e.1 c.0, of_services es c.1)

services_pass : (services : Tree) → IsClean services → services_allowed services ≡ Ok tt
services_pass services clean = entries_pass service_allowed (entries_of services) (of_services (entries_of services) (entries_clean services clean))

file_passes : (tree : Tree) → IsClean tree → marks_allowed tree ≡ Ok tt
file_passes tree clean =
    ap (under (Key (codes "services"))) (services_pass (field (entries_of tree) (codes "services")) (value_clean (entries_of tree) (codes "services") (entries_clean tree clean)))

pub unmarked_files_laid : UnmarkedFilesLaid
unmarked_files_laid base over clean = ap (λ (r : Asked). r >>= λ ok. over_files base over) (file_passes over clean)
