use Rattle.std.proofs.Common.{◌≡◌, ◌∙◌, ◌+◌, drop, sym, ap, arith}
use Rattle.std.proofs.lemmas.List.{drop-drop}
use Rattle.yaml_lines.specs.Blanks.{blanks}
use Rattle.yaml_lines.specs.declared.plain.Context.TheVariants.{Block}
use Rattle.yaml_lines.specs.Rows.{text_at}
use Rattle.yaml_nodes.specs.Marks.{key_len}
use Rattle.yaml_tree.proofs.parts.colon_behind.Goals as goal

pub returns-clause-is : goal.returns-clause-is
returns-clause-is c =
    let row = c.args.row.now in
    let at = c.args.at in
    let n = key_len Block (text_at row at) in
    let len = c.requires.read in
    let behind = c.args.at + c.args.key.now.len in
    let same : text_at row behind ≡ drop n (text_at row at) = ap (λ m. text_at row (at + m)) len ∙ sym (drop-drop n at row.chars) in
    let white : blanks (text_at row behind) ≡ blanks (drop n (text_at row at)) = ap blanks same in
    let found : c.blanks.result ≡ blanks (text_at row behind) = c.blanks.ensures.is ∙ ap blanks c.text_at.ensures.is in
    omega (arith, len, white, found)
