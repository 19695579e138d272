-- Behind its head the response is open.
use Rattle.std.proofs.Common.{sym, ap, ◌∙◌, subst}
use Rattle.std.proofs.lemmas.Result.{err_from_is_err_and}
use Rattle.std.specs.Prelude.{Err, Result}
use Rattle.http_response.specs.Bodies.{OpensWithin}
use Rattle.http_response.specs.declared.body.OpenBody.{OpenBody}
use Rattle.http_response.specs.declared.response.ResponseEnd.{ResponseEnd}
use Rattle.http_response.proofs.Opening.{opens_as, opens_not}
use Rattle.http_response.proofs.body.open_response.Goals as goal

pub returns-in_err-head-clause-opens : goal.returns-in_err-head-clause-opens
returns-in_err-head-clause-opens g c =
    let p = err_from_is_err_and c.from_residual.result c.from_residual.ensures.1 in
    subst (λ (r : Result OpenBody ResponseEnd). OpensWithin c.args.limit (g.P.Pipe.talk c.args.pipe.now) (g.P.Pipe.talk c.read_head.new.pipe)
    (g.P.Pipe.faults c.args.pipe.now) (g.P.Pipe.faults c.read_head.new.pipe) r)
    (sym (p.1 ∙ ap Err p.2))
    (opens_not c.args.limit c.requires c.new-stock.result c.read_head.new.stock (g.P.Pipe.talk c.args.pipe.now) (g.P.Pipe.talk c.read_head.new.pipe) (g.P.Pipe.faults c.args.pipe.now)
    (g.P.Pipe.faults c.read_head.new.pipe) c.new-stock.ensures.left c.new-stock.ensures.place c.new-stock.ensures.ended _ c.in_err-head.ensures.reads)

pub returns-clause-opens : goal.returns-clause-opens
returns-clause-opens g c =
    opens_as c.args.limit c.requires c.new-stock.result c.read_head.new.stock (g.P.Pipe.talk c.args.pipe.now) (g.P.Pipe.talk c.read_head.new.pipe) (g.P.Pipe.faults c.args.pipe.now)
    (g.P.Pipe.faults c.read_head.new.pipe) c.new-stock.ensures.left c.new-stock.ensures.place c.new-stock.ensures.ended c.in_ok-head.head c.rest_of.result
    c.rest_of.ensures c.in_ok-head.ensures.reads
