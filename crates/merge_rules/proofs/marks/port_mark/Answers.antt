use Rattle.std.proofs.Common.{◌∙◌, List, ◌∷◌, Option, Some, ap, ℕ}
use Rattle.std.specs.Option.{option_map}
use Rattle.tree_base.specs.declared.tree.Tree.TheVariants.{Scalar}
use Rattle.merge_rules.specs.Marks.{mark_text}
use Rattle.merge_rules.specs.Uniqueness.{binding}
use Rattle.merge_rules.proofs.marks.port_mark.Goals as goal

pub returns-in_ok-mark-in-Some : goal.returns-in_ok-mark-in-Some
returns-in_ok-mark-in-Some c =
    ap Some c.in_ok-mark-in-Some.ensures
    ∙ ap (λ (target : Option (List ℕ)). option_map mark_text (option_map (λ (text : List ℕ). Scalar text ∷ binding c.args.entries.now) target)) c.in-Some.ensures
