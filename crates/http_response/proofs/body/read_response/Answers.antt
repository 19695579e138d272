-- Behind its head the body is read, and both are the response.
use Rattle.std.proofs.Common.{sym, ap, ◌∙◌, subst}
use Rattle.std.proofs.lemmas.Result.{err_from_is_err_and}
use Rattle.std.specs.Prelude.{Err, Result}
use Rattle.http_response.specs.Reading.{Reads}
use Rattle.http_response.specs.declared.response.Response.{Response}
use Rattle.http_response.specs.declared.response.ResponseEnd.{ResponseEnd}
use Rattle.http_response.proofs.Resting.{begins_so, reads_lost, reads_none, reads_whole}
use Rattle.http_response.proofs.body.read_response.Goals as goal

pub returns-in_err-open-clause-reads : goal.returns-in_err-open-clause-reads
returns-in_err-open-clause-reads g c =
    let p = err_from_is_err_and c.from_residual.result c.from_residual.ensures.1 in
    subst (λ (r : Result Response ResponseEnd). Reads (g.P.Pipe.talk c.args.pipe.now) (g.P.Pipe.talk c.open_response.new.pipe)
    (g.P.Pipe.faults c.args.pipe.now) (g.P.Pipe.faults c.open_response.new.pipe) r)
    (sym (p.1 ∙ ap Err p.2))
    (reads_none (g.P.Pipe.talk c.args.pipe.now) (g.P.Pipe.talk c.open_response.new.pipe)
    (g.P.Pipe.faults c.args.pipe.now) (g.P.Pipe.faults c.open_response.new.pipe) _ c.in_err-open.ensures.opens)

pub read_rest-requires : goal.read_rest-requires
read_rest-requires g c =
    let o = c.in_ok-open.ensures.opens in
    record {
      begun = (
        o.read,
        o.ended,
        begins_so c.in_ok-open.«open» c.new-body.result (g.P.Pipe.talk c.args.pipe.now) (g.P.Pipe.talk c.open_response.new.pipe)
            (g.P.Pipe.faults c.args.pipe.now) (g.P.Pipe.faults c.open_response.new.pipe) c.new-body.ensures o,
      );
    }

pub returns-in_err-read_rest-clause-reads : goal.returns-in_err-read_rest-clause-reads
returns-in_err-read_rest-clause-reads g c =
    let p = err_from_is_err_and c.from_residual-in_err-read_rest.result c.from_residual-in_err-read_rest.ensures.1 in
    let o = c.in_ok-open.ensures.opens in
    subst (λ (r : Result Response ResponseEnd). Reads (g.P.Pipe.talk c.args.pipe.now) (g.P.Pipe.talk c.read_rest.new.pipe)
    (g.P.Pipe.faults c.args.pipe.now) (g.P.Pipe.faults c.read_rest.new.pipe) r)
    (sym (p.1 ∙ ap Err p.2))
    (reads_lost c.in_ok-open.«open» c.read_rest.new.response c.read_rest.new.body (g.P.Pipe.talk c.args.pipe.now) (g.P.Pipe.talk c.open_response.new.pipe)
    (g.P.Pipe.talk c.read_rest.new.pipe) (g.P.Pipe.faults c.args.pipe.now) (g.P.Pipe.faults c.open_response.new.pipe) (g.P.Pipe.faults c.read_rest.new.pipe)
    o _ c.open_response.ensures.counted c.read_rest.ensures.counted
    (c.in_err-read_rest.ensures.reads o.read o.ended
    (begins_so c.in_ok-open.«open» c.new-body.result (g.P.Pipe.talk c.args.pipe.now) (g.P.Pipe.talk c.open_response.new.pipe)
    (g.P.Pipe.faults c.args.pipe.now) (g.P.Pipe.faults c.open_response.new.pipe) c.new-body.ensures o)))

pub returns-clause-reads : goal.returns-clause-reads
returns-clause-reads g c =
    let o = c.in_ok-open.ensures.opens in
    reads_whole c.in_ok-open.«open» c.read_rest.new.response c.read_rest.new.body (g.P.Pipe.talk c.args.pipe.now) (g.P.Pipe.talk c.open_response.new.pipe)
    (g.P.Pipe.talk c.read_rest.new.pipe) (g.P.Pipe.faults c.args.pipe.now) (g.P.Pipe.faults c.open_response.new.pipe) (g.P.Pipe.faults c.read_rest.new.pipe)
    o c.status.result c.status.ensures
    (c.in_ok-read_rest.ensures.reads o.read o.ended
    (begins_so c.in_ok-open.«open» c.new-body.result (g.P.Pipe.talk c.args.pipe.now) (g.P.Pipe.talk c.open_response.new.pipe)
    (g.P.Pipe.faults c.args.pipe.now) (g.P.Pipe.faults c.open_response.new.pipe) c.new-body.ensures o))
