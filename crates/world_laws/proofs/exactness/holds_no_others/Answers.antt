-- The rows are looked at behind their references.
use Rattle.std.proofs.Common.{◌≡◌, ◌∙◌, false, sym, ap, Bor}
use Rattle.std.specs.List.{list_all}
use Rattle.std.proofs.lemmas.List.{take_all}
use Rattle.std.proofs.lemmas.List.Folds.{list_all-map, list_all_at}
use Rattle.engine_types.specs.declared.ContainerRow.{ContainerRow}
use Rattle.world_laws.specs.Exactly.{may_be_there}
use Rattle.world_laws.proofs.exactness.holds_no_others.Goals as goal

pub returns-then-not-branch : goal.returns-then-not-branch
returns-then-not-branch c =
    let test = λ (row : Bor ContainerRow). may_be_there c.args.declared.now c.args.orphans row.now.labels in
    let no : test c.row-item.result ≡ false = sym c.in_ok-may_be_there.ensures ∙ c.if-not-branch.true in
    sym (list_all-map (λ (row : ContainerRow). may_be_there c.args.declared.now c.args.orphans row.labels) (λ (row : Bor ContainerRow). row.now) c.args.rows.now
    ∙ list_all_at test c.args.rows.now c.loop-row.row-index c.row-item.result c.loop-row-test.true (ap test (sym c.row-item.is) ∙ no))

pub returns : goal.returns
returns c =
    let test = λ (row : Bor ContainerRow). may_be_there c.args.declared.now c.args.orphans row.now.labels in
    sym (list_all-map (λ (row : ContainerRow). may_be_there c.args.declared.now c.args.orphans row.labels) (λ (row : Bor ContainerRow). row.now) c.args.rows.now
    ∙ ap (list_all test) (sym (take_all c.loop-row.row-index c.args.rows.now c.loop-row-test.false)) ∙ c.loop-row.invariant)
