use Rattle.std.proofs.Common.{◌≡◌, Err, ap}
use Rattle.std.proofs.lemmas.Result.{err_from_is_err_and}
use Rattle.loaded_files.specs.declared.refusal.LoadRefusal.{LoadRefusal}
use Rattle.loaded_files.specs.declared.refusal.LoadRefusal.TheVariants.{ReadFault}
use Rattle.loaded_files.proofs.Steps.{there_refused, there_taken}
use Rattle.loaded_files.proofs.reads.taken_if.Goals as goal

pub returns-in_err-bytes-in_default : goal.returns-in_err-bytes-in_default
returns-in_err-bytes-in_default c =
    let p = err_from_is_err_and c.from_residual.result c.from_residual.ensures.1 in
    record {
      given = λ told. rw (p.1, p.2) (there_refused told c.args.path.now c.args.seen c.args.left c.in_default.not-Missing c.in_err-bytes-in_default.field-0.0 (c.in_err-bytes-in_default.ensures.given told));
      fault = λ at. rw (p.1, p.2) (λ q. c.in_err-bytes-in_default.ensures.fault at (let same : c.in_err-bytes-in_default.field-0.0 ≡ ReadFault at = cc in ap (λ (e : LoadRefusal). Err e) same));
    }

pub returns-in_ok-bytes-in_default : goal.returns-in_ok-bytes-in_default
returns-in_ok-bytes-in_default c = record {
  given = λ told. there_taken told c.args.path.now c.args.seen c.args.left c.in_default.not-Missing c.in_ok-bytes-in_default.bytes c.in_ok-bytes-in_default.left (c.in_ok-bytes-in_default.ensures.given told);
  fault = λ at e. cc;
}
