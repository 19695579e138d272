use Rattle.std.proofs.Common.{◌≡◌, [], Ok, ap, subst}
use Rattle.std.specs.Str.Lines.{lines}
use Rattle.dotenv.specs.declared.given.Given.{Given}
use Rattle.dotenv.specs.Variables.{Entries}
use Rattle.dotenv.specs.Files.{with_lines, variables_of, env_file, Fails}
use Rattle.dotenv.proofs.Refusing.{fails_on}
use Rattle.dotenv.proofs.file.read_env.Goals as goal

pub returns-in-Ok : goal.returns-in-Ok
unfolding env_file
returns-in-Ok c =
    ap variables_of
    (subst (λ (es : Entries). with_lines c.args.outer.now 1 (record { env = es; size = 0 }) (lines c.args.bytes.now) ≡ Ok c.put_lines.new.given) c.new-env.ensures c.in-Ok.ensures)

pub returns-in-Err : goal.returns-in-Err
unfolding env_file
returns-in-Err c =
    fails_on c.in-Err.refusal (with_lines c.args.outer.now 1 (record { env = []; size = 0 }) (lines c.args.bytes.now)) (λ (given : Given). Ok given.env)
    (subst (λ (es : Entries). Fails c.in-Err.refusal (with_lines c.args.outer.now 1 (record { env = es; size = 0 }) (lines c.args.bytes.now))) c.new-env.ensures c.in-Err.ensures)
