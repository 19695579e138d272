-- Worked examples of long forms, by computation.
use Rattle.std.proofs.Common.{◌≡◌, ℕ, List, [], ◌∷◌, Ok, Err, rules}
use Rattle.std.specs.Prelude.{codes}
use Rattle.tree_base.specs.declared.tree.Tree.{Tree, the_lemmas}
use Rattle.tree_base.specs.declared.tree.Tree.TheVariants.{Map, Null, Scalar, Seq}
use Rattle.tree_base.specs.declared.Step.TheVariants.{Index, Key}
use Rattle.merge_tables.specs.declared.refusal.MergeRefusal.TheVariants.{BadUniqueEntry}
use Rattle.merge_tables.specs.Attributes.{short_rules}
use Rattle.long_forms.specs.LongForms.{long_forms}

-- a file with one service of one attribute
abbrev web : List ℕ → Tree → Tree
web name value = Map ((codes "services", Map ((codes "web", Map ((name, value) ∷ [])) ∷ [])) ∷ [])

abbrev both : List ℕ → List ℕ → Tree
both text other = Seq (Scalar text ∷ Scalar other ∷ [])

abbrev field : List ℕ → List ℕ → Tree
field name value = Map ((name, Scalar value) ∷ [])

-- a list of variables is a mapping
environment_long : long_forms (web (codes "environment") (both (codes "A=1") (codes "B"))) ≡ Ok (web (codes "environment") (Map ((codes "A", Scalar (codes "1")) ∷ (codes "B", Null) ∷ [])))
unfolding short_rules long_forms
environment_long = search (rules, the_lemmas)

-- a text that is no mount is named by its place
bad_mount : long_forms (web (codes "volumes") (both (codes "data:/d") (codes "d:d:d:d"))) ≡ Err (BadUniqueEntry (Key (codes "services") ∷ Key (codes "web") ∷ Key (codes "volumes") ∷ Index 1 ∷ []))
unfolding short_rules long_forms
bad_mount = search (rules, the_lemmas)
