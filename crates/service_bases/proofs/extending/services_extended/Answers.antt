use Rattle.std.proofs.Common.{ℕ, Ok, Result, refl, subst, sym}
use Rattle.file_paths.specs.Resolving.{Entries}
use Rattle.loaded_files.specs.Reads.{Load, Ran}
use Rattle.loaded_files.specs.declared.refusal.LoadRefusal.{LoadRefusal}
use Rattle.service_bases.proofs.Standing.{services_stand}
use Rattle.service_bases.proofs.extending.services_extended.Goals as goal

-- services with how many files may still be read
abbrev loaded : ℕ → Entries → Result (Entries × ℕ) LoadRefusal
loaded left all = Ok (all, left)

pub returns-then-extend_nothing-clause-given : goal.returns-then-extend_nothing-clause-given
returns-then-extend_nothing-clause-given g c = λ n.
    let a = c.args in
    let told = g.F.Files.told a.files.now in
    let stand = services_stand a.env.now a.file.now a.services a.left (c.extend_nothing.ensures c.if-extend_nothing.true) in
    subst (λ (load : Load (Entries × ℕ)). Ran told load (loaded a.left a.services)) (sym stand) refl
