use Rattle.std.proofs.Common.{List, Ok, Err, Option, subst}
use Rattle.std.proofs.lemmas.Result.{err_from_is_err_and}
use Rattle.engine_types.specs.declared.declared.Kind.{Kind}
use Rattle.outside_files.specs.Files.{Contents}
use Rattle.typed_project.specs.declared.project.FileItem.{FileItem}
use Rattle.file_digests.specs.Digests.{Digested}
use Rattle.file_digests.proofs.Runs.{both_on, configs_out, secrets_out}
use Rattle.file_digests.proofs.reading.digests.Goals as goal

pub returns-in_err-configs-clause-given : goal.returns-in_err-configs-clause-given
returns-in_err-configs-clause-given g c =
    let told = g.F.Files.told c.args.files.now in
    let refusal = c.in_err-configs.field-0.0 in
    let p = err_from_is_err_and c.from_residual.result c.from_residual.ensures.1 in
    rw (p.1, p.2) (λ n. configs_out told c.args.project.now refusal
    (subst (λ (items : List FileItem). Digested told Kind.Config items (Err refusal)) c.as_slice.ensures (c.in_err-configs.ensures.given n)))

pub returns-in_err-secrets-clause-given : goal.returns-in_err-secrets-clause-given
returns-in_err-secrets-clause-given g c =
    let told = g.F.Files.told c.args.files.now in
    let project = c.args.project.now in
    let configs = c.in_ok-configs.configs in
    let refusal = c.in_err-secrets.field-0.0 in
    let p = err_from_is_err_and c.from_residual-in_err-secrets.result c.from_residual-in_err-secrets.ensures.1 in
    rw (p.1, p.2) (λ n. secrets_out told project configs refusal
    (subst (λ (items : List FileItem). Digested told Kind.Config items (Ok configs)) c.as_slice.ensures (c.in_ok-configs.ensures.given (λ e. cc e)))
    (subst (λ (t : Option Contents). Digested t Kind.Secret project.secrets (Err refusal)) c.in_ok-configs.ensures.kept
    (subst (λ (items : List FileItem). Digested (g.F.Files.told c.digests_of.new.files) Kind.Secret items (Err refusal)) c.as_slice-2.ensures (c.in_err-secrets.ensures.given n))))

pub returns-clause-given : goal.returns-clause-given
returns-clause-given g c =
    let told = g.F.Files.told c.args.files.now in
    let project = c.args.project.now in
    let configs = c.in_ok-configs.configs in
    let secrets = c.in_ok-secrets.secrets in
    λ n. both_on told project configs secrets c.in_ok-joined.field-0
    (subst (λ (items : List FileItem). Digested told Kind.Config items (Ok configs)) c.as_slice.ensures (c.in_ok-configs.ensures.given (λ e. cc e)))
    (subst (λ (t : Option Contents). Digested t Kind.Secret project.secrets (Ok secrets)) c.in_ok-configs.ensures.kept
    (subst (λ (items : List FileItem). Digested (g.F.Files.told c.digests_of.new.files) Kind.Secret items (Ok secrets)) c.as_slice-2.ensures (c.in_ok-secrets.ensures.given (λ e. cc e))))
    c.in_ok-joined.ensures

pub returns-in_err-configs-clause-reads : goal.returns-in_err-configs-clause-reads
returns-in_err-configs-clause-reads g c =
    let p = err_from_is_err_and c.from_residual.result c.from_residual.ensures.1 in
    rw (p.1, p.2) c.in_err-configs.ensures.reads

pub returns-in_err-secrets-clause-reads : goal.returns-in_err-secrets-clause-reads
returns-in_err-secrets-clause-reads g c =
    let p = err_from_is_err_and c.from_residual-in_err-secrets.result c.from_residual-in_err-secrets.ensures.1 in
    rw (p.1, p.2) (λ well. c.in_err-secrets.ensures.reads (c.in_ok-configs.ensures.reads well))
