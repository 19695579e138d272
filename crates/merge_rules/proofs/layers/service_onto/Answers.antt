use Rattle.std.proofs.Common.{◌∙◌, List, ℕ, Result, ap, codes, sym}
use Rattle.tree_base.specs.declared.Tree.{Tree}
use Rattle.tree_base.specs.declared.Step.TheVariants.{Key}
use Rattle.merge_tables.specs.declared.refusal.MergeRefusal.{MergeRefusal}
use Rattle.merge_tables.specs.Answers.{outer, turned, under}
use Rattle.merge_rules.specs.Overlay.{Lay, entries_over, laid, service_over}
use Rattle.merge_tables.specs.Spots.{service_rules}
use Rattle.merge_tables.proofs.Answering.{same_fails, under_fails}
use Rattle.attribute_paths.proofs.Walks.{entries_are}
use Rattle.merge_rules.proofs.layers.service_onto.Goals as goal

module _ (name : List ℕ) where
  abbrev in_service : Result (List (List ℕ × Tree)) MergeRefusal → Result (List (List ℕ × Tree)) MergeRefusal
  in_service laid = under (Key (codes "services")) (under (Key name) laid)

pub returns-in-Ok : goal.returns-in-Ok
unfolding service_over
returns-in-Ok c =
    let a = c.args in
    let same = sym (entries_are laid a.over.now c.keys.result.now c.values.result.now c.keys.ensures c.values.ensures) in
    ap (λ (all : List (List ℕ × Lay)). in_service a.name.now (entries_over service_rules all a.base)) same
    ∙ ap (in_service a.name.now) c.in-Ok.ensures

pub returns-in_ok-in_service-in-Err : goal.returns-in_ok-in_service-in-Err
unfolding service_over
returns-in_ok-in_service-in-Err c =
    let a = c.args in
    let e = c.in-Err.refusal in
    let same = entries_are laid a.over.now c.keys.result.now c.values.result.now c.keys.ensures c.values.ensures in
    rw (c.from_root.ensures, c.in_ok-in_service-in-Err.ensures)
    (same_fails (turned (outer (Key (codes "services")) (outer (Key a.name.now) e))) _ _
    (ap (λ (all : List (List ℕ × Lay)). in_service a.name.now (entries_over service_rules all a.base)) same)
    (under_fails (Key (codes "services")) (outer (Key a.name.now) e) _ (under_fails (Key a.name.now) e _ c.in-Err.ensures)))
