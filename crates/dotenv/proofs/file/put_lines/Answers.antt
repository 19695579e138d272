use Rattle.std.proofs.Common.{◌≡◌, ◌∙◌, ◌+◌, ap, sym, subst, List, ℕ, Ok, arith}
use Rattle.std.proofs.lemmas.Result.{err_from_is_err_and}
use Rattle.std.specs.Str.Lines.{lines}
use Rattle.dotenv.specs.declared.given.Given.{Given}
use Rattle.dotenv.specs.Files.{line_number, with_line, with_lines, Fails}
use Rattle.dotenv.proofs.Refusing.{fails_on, goes_on, same_fails}
use Rattle.dotenv.proofs.file.put_lines.Goals as goal

pub returns-in_err-put_line : goal.returns-in_err-put_line
returns-in_err-put_line c =
    let l = c.loop-rest in
    let outer = c.args.outer.now in
    let line = c.first_line.result.0.now in
    let e = c.in_err-put_line.field-0.0 in
    let p = err_from_is_err_and c.from_residual.result c.from_residual.ensures.1 in
    let failed = subst (λ (n : ℕ). Fails e (with_line outer n l.given line)) c.line_number.ensures c.in_err-put_line.ensures.is in
    let all = fails_on e (with_line outer (line_number l.number) l.given line) (λ (given : Given). with_lines outer (l.number + 1) given (lines c.first_line.result.1.now)) failed in
    rw (p.1, p.2) (same_fails e _ _ (ap (λ (ls : List (List ℕ)). with_lines outer l.number l.given ls) (sym c.first_line.ensures.lines) ∙ l.invariant.same) all)

pub loop-rest-preserved : goal.loop-rest-preserved
loop-rest-preserved c =
    let l = c.loop-rest in
    let outer = c.args.outer.now in
    let line = c.first_line.result.0.now in
    let shorter = c.first_line.ensures.shorter in
    let next : with_line outer (line_number l.number) l.given line ≡ Ok c.put_line.new.given = ap (λ (n : ℕ). with_line outer n l.given line) (sym c.line_number.ensures) ∙ c.in_ok-put_line.ensures.is in
    record {
      sees = c.in_ok-put_line.ensures.sees;
      few = omega (arith, l.invariant.few, shorter);
      same =
          sym (goes_on (with_line outer (line_number l.number) l.given line) (λ (given : Given). with_lines outer (l.number + 1) given (lines c.first_line.result.1.now)) c.put_line.new.given next)
          ∙ ap (λ (ls : List (List ℕ)). with_lines outer l.number l.given ls) (sym c.first_line.ensures.lines)
          ∙ l.invariant.same;
    }
