use Rattle.std.proofs.Common.{[], subst, ℕ, List}
use Rattle.loaded_files.specs.EnvFiles.{with_file_if}
use Rattle.loaded_files.specs.Paths.{Variables}
use Rattle.loaded_files.specs.Reads.{Gives}
use Rattle.loaded_files.proofs.variables.default_env.Goals as goal

pub returns-clause-given : goal.returns-clause-given
returns-clause-given g c =
    let a = c.args in
    let told = g.F.Files.told a.files.now in
    let r = c.with_file_if.result in
    let given = subst (λ (v : Variables). Gives told r (with_file_if a.caller.now c.in_ok-path.path v a.left)) c.new.ensures c.with_file_if.ensures.given in
    subst (λ (p : List ℕ). Gives told r (with_file_if a.caller.now p [] a.left)) c.in_ok-path.ensures given
