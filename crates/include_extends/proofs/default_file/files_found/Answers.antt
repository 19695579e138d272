use Rattle.std.proofs.Common.{◌≡◌, ◌∙◌, ℕ, Bool, true, false, List, [], sym}
use Rattle.std.proofs.lemmas.Result.{err_from_is_err_and}
use Rattle.std.specs.Prelude.{◌↔◌, IsTrue}
use Rattle.include_extends.proofs.Named.{default_there, given_there, no_default}
use Rattle.include_extends.proofs.default_file.files_found.Goals as goal

some_given : (files : List (List ℕ)) (empty : Bool) → (IsTrue empty ↔ (files ≡ [])) → empty ≡ false → files ≡ [] → ⊥
some_given files empty means is none = let clash : false ≡ true = sym is ∙ means.1 none in cc

-- where files are given they are the ones, and nothing is looked at
pub returns-then-not-is_empty-clause-given : goal.returns-then-not-is_empty-clause-given
returns-then-not-is_empty-clause-given g c =
    given_there (g.F.Files.told c.args.files.now) c.args.directory.now c.args.given (some_given c.args.given c.is_empty.result c.is_empty.ensures c.if-not-is_empty.true)

pub returns-in_err-path-clause-given : goal.returns-in_err-path-clause-given
returns-in_err-path-clause-given g c =
    let told = g.F.Files.told c.args.files.now in
    let p = err_from_is_err_and c.from_residual.result c.from_residual.ensures.1 in
    rw (p.1, p.2, c.is_empty.ensures.0 c.if-not-is_empty.false) (no_default told c.args.directory.now c.in_err-path.field-0.0 c.in_err-path.ensures.given)

pub returns-clause-given : goal.returns-clause-given
returns-clause-given g c =
    let told = g.F.Files.told c.args.files.now in
    rw (c.in_ok-push.ensures.ok, c.is_empty.ensures.0 c.if-not-is_empty.false) (default_there told c.args.directory.now c.in_ok-path.path c.in_ok-path.found c.in_ok-path.ensures.given)

pub returns-in_err-path-clause-reads : goal.returns-in_err-path-clause-reads
returns-in_err-path-clause-reads g c =
    let p = err_from_is_err_and c.from_residual.result c.from_residual.ensures.1 in
    rw (p.1, p.2) c.in_err-path.ensures.reads
