-- Worked examples of files that are brought to long forms and merged, by computation.
use Rattle.std.proofs.Common.{◌≡◌, ℕ, List, [], ◌∷◌, Result, Ok, Err, rules}
use Rattle.std.specs.Prelude.{codes}
use Rattle.tree_base.specs.Answers.{◌>>=◌}
use Rattle.tree_base.specs.declared.tree.Tree.{Tree, the_lemmas}
use Rattle.tree_base.specs.declared.tree.Tree.TheVariants.{Map, Null, Scalar, Seq}
use Rattle.tree_base.specs.declared.Step.TheVariants.{Key}
use Rattle.merge_tables.specs.declared.refusal.MergeRefusal.{MergeRefusal}
use Rattle.merge_tables.specs.declared.refusal.MergeRefusal.TheVariants.{KindMismatch}
use Rattle.merge_tables.specs.Attributes.{overlay_rules, short_rules}
use Rattle.long_forms.specs.LongForms.{long_forms}
use Rattle.merge_rules.specs.Overlay.{over_files}

-- what two files give, the second over the first
abbrev merged : Tree → Tree → Result Tree MergeRefusal
merged first second = long_forms first >>= λ one. over_files Null one >>= λ base. long_forms second >>= λ two. over_files base two

-- a file with one service of one attribute
abbrev web : List ℕ → Tree → Tree
web name value = Map ((codes "services", Map ((codes "web", Map ((name, value) ∷ [])) ∷ [])) ∷ [])

abbrev one : List ℕ → Tree
one text = Seq (Scalar text ∷ [])

abbrev both : List ℕ → List ℕ → Tree
both text other = Seq (Scalar text ∷ Scalar other ∷ [])

abbrev field : List ℕ → List ℕ → Tree
field name value = Map ((name, Scalar value) ∷ [])

-- a command takes the place of the one below
command_replaced : merged (web (codes "command") (one (codes "a"))) (web (codes "command") (one (codes "b"))) ≡ Ok (web (codes "command") (one (codes "b")))
unfolding overlay_rules over_files short_rules long_forms
command_replaced = search (rules, the_lemmas)

-- a server's name alone is a list of one, and lists are put behind one another
dns_appended : merged (web (codes "dns") (Scalar (codes "a"))) (web (codes "dns") (one (codes "b"))) ≡ Ok (web (codes "dns") (both (codes "a") (codes "b")))
unfolding overlay_rules over_files short_rules long_forms
dns_appended = search (rules, the_lemmas)

-- null leaves a variable's value
null_leaves : merged (web (codes "environment") (field (codes "A") (codes "1"))) (web (codes "environment") (Map ((codes "A", Null) ∷ []))) ≡ Ok (web (codes "environment") (field (codes "A") (codes "1")))
unfolding overlay_rules over_files short_rules long_forms
null_leaves = search (rules, the_lemmas)

-- a sequence isn't laid over a mapping
kinds_differ : merged (web (codes "dns") Null) (Map ((codes "services", Seq []) ∷ [])) ≡ Err (KindMismatch (Key (codes "services") ∷ []))
unfolding overlay_rules over_files short_rules long_forms
kinds_differ = search (rules, the_lemmas)
