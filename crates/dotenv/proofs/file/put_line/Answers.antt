use Rattle.std.proofs.Common.{◌≡◌, ◌∙◌, sym, ap, subst, Result}
use Rattle.std.specs.Str.{chars}
use Rattle.dotenv.specs.declared.refusal.EnvRefusal.{EnvRefusal}
use Rattle.dotenv.specs.declared.given.Given.{Given}
use Rattle.dotenv.specs.Files.{result_and, Gives}
use Rattle.dotenv.proofs.Refusing.{line_unread, line_told, line_refused}
use Rattle.dotenv.proofs.file.put_line.Goals as goal

pub returns-in-Ok-read_line-clause-is : goal.returns-in-Ok-read_line-clause-is
returns-in-Ok-read_line-clause-is c =
    let a = c.args in
    let text = c.in-Ok.ensures.cases in
    let cs : c.as_slice.result.now ≡ chars a.bytes.now = c.as_slice.ensures.value ∙ c.in_ok-chars-in-Ok.ensures ∙ ap chars text.0 in
    let same = line_told a.outer.now a.given.now a.number a.bytes.now c.as_slice.result.now c.in-Ok-read_line.line text.1 cs c.in-Ok-read_line.ensures in
    subst (λ (r : Result Given EnvRefusal). Gives (result_and c.put_told.result c.put_told.new.given) r) (sym same) c.put_told.ensures.is

pub returns-in-Ok-clause-is : goal.returns-in-Ok-clause-is
returns-in-Ok-clause-is c =
    let a = c.args in
    let text = c.in-Ok.ensures.cases in
    let cs : c.as_slice.result.now ≡ chars a.bytes.now = c.as_slice.ensures.value ∙ c.in_ok-chars-in-Ok.ensures ∙ ap chars text.0 in
    rw c.numbered.ensures (line_refused a.outer.now a.given.now a.number a.bytes.now c.as_slice.result.now c.in-Err-read_line.refusal text.1 cs c.in-Err-read_line.ensures)

pub returns-clause-is : goal.returns-clause-is
returns-clause-is c = line_unread c.args.outer.now c.args.given.now c.args.number c.args.bytes.now c.in-Err.ensures.cases.0
