use Rattle.std.proofs.Common.{◌∙◌, ◌++◌, sym, ap}
use Rattle.std.proofs.lemmas.List.{append-nil}
use Rattle.std.proofs.lemmas.Result.{on_ok_weaker}
use Rattle.project_pages.proofs.PageLines.{none_by, section_none, section_some, shown_mapping, some_by}
use Rattle.project_pages.proofs.lines.put_section_lines.Goals as goal

pub returns-then-is_empty : goal.returns-then-is_empty
returns-then-is_empty g c =
    sym (append-nil c.args.out.now) ∙ ap (λ x. c.args.out.now ++ x) (section_none c.args.key.now (shown_mapping g.T.Keyed.name g.T.ToNode.shown) c.args.items.now (none_by c.is_empty.result c.args.items.now c.is_empty.ensures c.if-is_empty.true))

pub returns : goal.returns
returns g c =
    on_ok_weaker c.put_mapping_entry.result (λ e. e ∙ ap (λ x. c.args.out.now ++ x)
    (section_some c.args.key.now (shown_mapping g.T.Keyed.name g.T.ToNode.shown) c.args.items.now (some_by c.is_empty.result c.args.items.now c.is_empty.ensures c.if-is_empty.false))) c.put_mapping_entry.ensures
