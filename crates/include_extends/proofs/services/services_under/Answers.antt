use Rattle.std.proofs.Common.{◌∙◌, Some, sym, ap}
use Rattle.std.proofs.lemmas.Result.{err_from_is_err_and}
use Rattle.std.specs.Cmp.Lexicographic.{nat_list_eq_equiv}
use Rattle.std.specs.Prelude.{codes}
use Rattle.file_paths.specs.Resolving.{Entries}
use Rattle.include_extends.proofs.Completed.{services_refused, services_there}
use Rattle.include_extends.proofs.services.services_under.Goals as goal
use Rattle.tree_base.proofs.Pairs.{put_twice}
use Rattle.tree_base.specs.Entries.{with_entry}
use Rattle.tree_base.specs.declared.Tree.{Map, Null}

-- the services are taken out, loaded, and put in their place
pub returns-in_err-all-in-Some-clause-given : goal.returns-in_err-all-in-Some-clause-given
returns-in_err-all-in-Some-clause-given g c =
    let a = c.args in
    let p = err_from_is_err_and c.from_residual-in_err-all-in-Some.result c.from_residual-in_err-all-in-Some.ensures.1 in
    let found = sym c.in-Some.ensures in
    let same = c.in_ok-services-in-Some.ensures.services c.in-Some.field-0.now found in
    rw (p.1, p.2) (services_refused (g.F.Files.told a.files.now) a.env.now a.file.now a.top a.left c.in_ok-services-in-Some.services c.in_err-all-in-Some.field-0.0 (found ∙ ap Some (sym same)) c.in_err-all-in-Some.ensures.given)

pub returns-in_ok-put_services-in-Some-clause-given : goal.returns-in_ok-put_services-in-Some-clause-given
returns-in_ok-put_services-in-Some-clause-given g c =
    let a = c.args in
    let found = sym c.in-Some.ensures in
    let same = c.in_ok-services-in-Some.ensures.services c.in-Some.field-0.now found in
    let all = c.in_ok-all-in-Some.all in
    let put = c.in_ok-put_services-in-Some.ensures
    ∙ ap (λ (top : Entries). with_entry top (codes "services") (Map all)) c.in_ok-services-in-Some.ensures.rest
    ∙ put_twice nat_list_eq_equiv a.top (codes "services") Null (Map all) in
    services_there (g.F.Files.told a.files.now) a.env.now a.file.now a.top a.left c.in_ok-services-in-Some.services all c.in_ok-put_services-in-Some.field-0 c.in_ok-all-in-Some.left (found ∙ ap Some (sym same))
    c.in_ok-all-in-Some.ensures.given put

pub returns-in_err-all-in-Some-clause-reads : goal.returns-in_err-all-in-Some-clause-reads
returns-in_err-all-in-Some-clause-reads g c =
    let p = err_from_is_err_and c.from_residual-in_err-all-in-Some.result c.from_residual-in_err-all-in-Some.ensures.1 in
    rw (p.1, p.2) c.in_err-all-in-Some.ensures.reads
