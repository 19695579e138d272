-- The request is written whole, or a part of it, or none was made.
use Rattle.std.proofs.Common.{◌≡◌, ◌<◌, ◌∙◌, ℕ, List, ap, inl, inr, length, refl, subst, take, arith}
use Rattle.std.proofs.lemmas.Result.{err_from_is_err_and}
use Rattle.http_request.specs.Events.{events_request}
use Rattle.outside_api.specs.Pipes.{ToldBy, after_write}
use Rattle.wait_run.proofs.Opening.{sent_all, sent_none}
use Rattle.wait_run.proofs.stream.send.Goals as goal

pub returns-in_err-bytes : goal.returns-in_err-bytes
returns-in_err-bytes g c =
    let p = err_from_is_err_and c.from_residual.result c.from_residual.ensures.1 in
    rw (p.1, p.2) (record { counted = omega arith; sends = (0, sent_none (events_request c.args.project.now) _, inl refl) })

pub returns-then-written-whole : goal.returns-then-written-whole
returns-then-written-whole g c =
    let is : c.as_slice.result.now ≡ events_request c.args.project.now = c.as_slice.ensures ∙ c.in_ok-bytes.ensures in
    let all = ap length c.as_slice.ensures in
    let part : c.write_on-written.result < length c.as_slice.result.now = omega (arith, all, c.len-whole.ensures, c.if-written-whole.true) in
    record {
      counted = c.write_on-written.ensures.counted;
      sends = (
        c.write_on-written.result,
        subst (λ (l : List ℕ). ToldBy (after_write (take c.write_on-written.result l)) (g.P.Pipe.talk c.args.stream.now) (g.P.Pipe.talk c.write_on-written.new.pipe)) is c.write_on-written.ensures.told,
        inr (refl, c.write_on-written.ensures.failed part),
      );
    }

pub returns : goal.returns
returns g c =
    let is : c.as_slice.result.now ≡ events_request c.args.project.now = c.as_slice.ensures ∙ c.in_ok-bytes.ensures in
    let all = ap length c.in_ok-bytes.ensures in
    record {
      counted = c.write_on-written.ensures.counted;
      sends = sent_all c.write_on-written.result (events_request c.args.project.now) _ _ (omega (arith, all, c.len-whole.ensures, c.if-written-whole.false))
          (subst (λ (l : List ℕ). ToldBy (after_write (take c.write_on-written.result l)) (g.P.Pipe.talk c.args.stream.now) (g.P.Pipe.talk c.write_on-written.new.pipe)) is c.write_on-written.ensures.told);
    }
