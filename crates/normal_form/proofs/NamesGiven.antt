-- Names that a call gives.
use Rattle.std.proofs.Common.{◌≡◌, ℕ, true, false, Bool, cond, List, Ok, Err, refl, ap, ◌∙◌}
use Rattle.std.specs.Prelude.{IsTrue, Result}
use Rattle.tree_base.specs.declared.tree.Tree.{out-Tree}
use Rattle.loading_words.specs.declared.ProjectRefusal.{ProjectRefusal}
use Rattle.loading_words.specs.declared.TreeRefusal.{TreeRefusal}
use Rattle.normal_form.specs.Laws.{GivenNamesWin}
use Rattle.normal_form.specs.ProjectNames.{base_name, is_name}
use Rattle.normal_form.specs.Projects.{checked, name_in, name_or}

is_checked : (name : List ℕ) → IsTrue (is_name name) → checked name ≡ Ok name
is_checked name h = at (is_name name) h
  where
    at : (b : Bool) → IsTrue b → cond b (Ok name) (Err (TreeRefusal.Name (ProjectRefusal.BadName name))) ≡ Ok name
    at true h = refl
    at false h = absurd (cc h)

-- a name that a call gives
pub given_wins : GivenNamesWin
given_wins option loaded name given is_one =
    ap (λ o. name_or o (name_in (base_name loaded.directory) (out-Tree loaded.tree))) given ∙ is_checked name is_one
