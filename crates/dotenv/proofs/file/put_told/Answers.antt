use Rattle.std.proofs.Common.{Result, subst, sym}
use Rattle.dotenv.specs.declared.given.Given.{Given}
use Rattle.dotenv.specs.declared.refusal.EnvRefusal.{EnvRefusal}
use Rattle.dotenv.specs.Files.{result_and, Gives}
use Rattle.dotenv.proofs.Refusing.{told_given, told_fails}
use Rattle.dotenv.proofs.file.put_told.Goals as goal

pub returns-in-Ok-clause-is : goal.returns-in-Ok-clause-is
returns-in-Ok-clause-is c =
    let a = c.args in
    let s = c.in-Substituted in
    subst (λ (r : Result Given EnvRefusal). Gives (result_and c.put-in-Ok.result c.put-in-Ok.new.given) r)
    (sym (told_given a.outer.now a.given.now a.seen.now a.number a.line s.key s.value c.in-Ok.value c.requires s.is c.in-Ok.ensures)) c.put-in-Ok.ensures.is

pub returns-in-Err-clause-is : goal.returns-in-Err-clause-is
returns-in-Err-clause-is c =
    let a = c.args in
    let s = c.in-Substituted in
    rw c.unsubstituted.ensures (told_fails a.outer.now a.given.now a.seen.now a.number a.line s.key s.value c.in-Err.cause c.requires s.is c.in-Err.ensures)
