use Rattle.std.proofs.Common.{◌≡◌, ◌∙◌, sym, ap, subst}
use Rattle.std.proofs.lemmas.Str.{chars-IsAscii}
use Rattle.std.specs.Prelude.{IfOk}
use Rattle.std.specs.Str.{chars}
use Rattle.yaml_lines.proofs.row.characters.Goals as goal

pub returns-then-is_ascii : goal.returns-then-is_ascii
returns-then-is_ascii c =
    let ascii = rw c.if-is_ascii.true at c.is_ascii.ensures.cases in
    let same = c.as_bytes.ensures.value ∙ sym (chars-IsAscii c.as_str-text.result.now ascii) ∙ ap chars c.as_str-text.ensures.value in
    subst (λ bs. IfOk c.bytes_as_characters.result (λ l. l ≡ bs)) same c.bytes_as_characters.ensures
