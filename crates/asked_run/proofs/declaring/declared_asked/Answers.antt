use Rattle.std.proofs.Common.{◌≡◌, Err, List, ap, subst, ◌∙◌, sym}
use Rattle.asked_run.proofs.Declared.{declares_refused, declares_with, is_declared, no_read, read_failed, told_as}
use Rattle.asked_run.specs.Declaring.{declared_with}
use Rattle.file_digests.specs.declared.DigestRefusal.{DigestRefusal}
use Rattle.refusals.specs.Refused.{wants_memory}
use Rattle.refusals.specs.declared.Refusal.{Refusal}
use Rattle.service_hashes.specs.declared.digest.FileDigest.{FileDigest}
use Rattle.tree_base.specs.Answers.{Gives}
use Rattle.refusals.proofs.AfterReads.{declared_went, digest_went}
use Rattle.asked_run.proofs.declaring.declared_asked.Goals as goal

pub returns-in-Ok-clause-given : goal.returns-in-Ok-clause-given
returns-in-Ok-clause-given g c =
    declares_with (g.F.Files.told c.args.files.now) c.args.command.now c.args.loaded.now c.in-Ok.digests c.declared_with-declared.result (c.in-Ok.ensures.given (λ e. cc e))
    (subst (λ (digests : List FileDigest). Gives wants_memory c.declared_with-declared.result (declared_with c.args.command.now c.args.loaded.now digests)) c.as_slice.ensures c.declared_with-declared.ensures.told)

pub returns-in-Ok-clause-told : goal.returns-in-Ok-clause-told
returns-in-Ok-clause-told g c =
    told_as (g.F.Files.told c.args.files.now) c.args.command.now c.args.loaded.now c.declared_with-declared.result
    (declares_with (g.F.Files.told c.args.files.now) c.args.command.now c.args.loaded.now c.in-Ok.digests c.declared_with-declared.result (c.in-Ok.ensures.given (λ e. cc e))
    (subst (λ (digests : List FileDigest). Gives wants_memory c.declared_with-declared.result (declared_with c.args.command.now c.args.loaded.now digests)) c.as_slice.ensures c.declared_with-declared.ensures.told))

pub returns-in-Ok-clause-declared : goal.returns-in-Ok-clause-declared
returns-in-Ok-clause-declared g c =
    is_declared (g.F.Files.told c.args.files.now) c.args.command.now c.args.loaded.now c.in-Ok.digests c.declared_with-declared.result (c.in-Ok.ensures.given (λ e. cc e))
    (subst (λ (digests : List FileDigest). Gives wants_memory c.declared_with-declared.result (declared_with c.args.command.now c.args.loaded.now digests)) c.as_slice.ensures c.declared_with-declared.ensures.told)

pub returns-in-Ok-clause-read : goal.returns-in-Ok-clause-read
returns-in-Ok-clause-read g c = λ path e. absurd (no_read c.declared_with-declared.result path c.declared_with-declared.ensures.read e)

pub returns-in-Err-clause-given : goal.returns-in-Err-clause-given
returns-in-Err-clause-given g c =
    declares_refused (g.F.Files.told c.args.files.now) c.args.command.now c.args.loaded.now c.in-Err.refusal c.from.result c.from.ensures.refusal
    (λ n. c.in-Err.ensures.given (λ e. let wanted : c.in-Err.refusal ≡ DigestRefusal.Memory = cc e in n wanted))

pub returns-in-Err-clause-told : goal.returns-in-Err-clause-told
returns-in-Err-clause-told g c =
    told_as (g.F.Files.told c.args.files.now) c.args.command.now c.args.loaded.now (Err c.from.result)
    (declares_refused (g.F.Files.told c.args.files.now) c.args.command.now c.args.loaded.now c.in-Err.refusal c.from.result c.from.ensures.refusal
    (λ n. c.in-Err.ensures.given (λ e. let wanted : c.in-Err.refusal ≡ DigestRefusal.Memory = cc e in n wanted)))

pub returns-in-Err-clause-read : goal.returns-in-Err-clause-read
returns-in-Err-clause-read g c = λ path e.
    let same : c.from.result ≡ Refusal.Digest (DigestRefusal.ReadFault path) = cc e in
    read_failed (g.F.Files.told c.args.files.now) c.args.command.now c.args.loaded.now c.in-Err.refusal c.from.result path _ _ c.from.ensures.refusal same
    (λ n. c.in-Err.ensures.given (λ q. let wanted : c.in-Err.refusal ≡ DigestRefusal.Memory = cc q in n wanted))
    (λ at f. c.in-Err.ensures.fault at (ap Err f))

pub returns-in-Ok-clause-reads : goal.returns-in-Ok-clause-reads
returns-in-Ok-clause-reads g c = λ well. c.in-Ok.ensures.reads well ∙ sym (declared_went c.declared_with-declared.result c.declared_with-declared.ensures.kind c.declared_with-declared.ensures.read)

pub returns-in-Err-clause-reads : goal.returns-in-Err-clause-reads
returns-in-Err-clause-reads g c = λ well. c.in-Err.ensures.reads well ∙ sym (digest_went c.in-Err.refusal c.from.result c.from.ensures.refusal)
