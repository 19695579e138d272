use Rattle.std.proofs.Common.{◌∙◌, ◌++◌, ap}
use Rattle.std.proofs.lemmas.Iterator.{YieldsList-from_chars}
use Rattle.std.proofs.lemmas.Iterator.Adapters.{items_from_extend}
use Rattle.std.specs.Str.{chars}
use Rattle.yaml_lines.proofs.row.decoded.Goals as goal

pub returns : goal.returns
returns c =
    let h = items_from_extend c.extend.result c.extend.ensures.ran (YieldsList-from_chars c.args.text.now c.utf8.text c.chars.ensures.rest) in
    let k = rw c.in_ok-extend.was at h in
    c.from_vec.ensures ∙ k.0 ∙ ap (λ xs. xs ++ chars c.args.text.now) c.in_ok-chars.ensures.items
