-- The end that was found before is one that came early, and else a piece is read.
use Rattle.std.proofs.Common.{refl}
use Rattle.std.specs.Prelude.{Err}
use Rattle.engine_types.specs.declared.WireEnd.{WireEnd}
use Rattle.http_response.specs.Stocks.{FillsBy, ReadsOnBy}
use Rattle.http_response.specs.declared.response.ResponseEnd.{ResponseEnd}
use Rattle.http_response.proofs.Listening.{hears_as, hears_nothing, reads_on_by}
use Rattle.http_response.proofs.stock.Stock.read_on.Goals as goal

pub returns-then-self-clause-reads : goal.returns-then-self-clause-reads
returns-then-self-clause-reads g c =
    hears_nothing (g.P.Pipe.talk c.args.pipe.now)
    (ReadsOnBy c.args.self.now c.args.self.now (g.P.Pipe.faults c.args.pipe.now) (g.P.Pipe.faults c.args.pipe.now) (Err (ResponseEnd.Wire WireEnd.Ended)))
    (refl, c.if-self.true, refl, refl)

pub returns-clause-reads : goal.returns-clause-reads
returns-clause-reads g c =
    hears_as (g.P.Pipe.talk c.args.pipe.now) (g.P.Pipe.talk c.fill.new.pipe)
    (FillsBy c.args.self.now c.fill.new.self (g.P.Pipe.faults c.args.pipe.now) (g.P.Pipe.faults c.fill.new.pipe) c.fill.result)
    (ReadsOnBy c.args.self.now c.fill.new.self (g.P.Pipe.faults c.args.pipe.now) (g.P.Pipe.faults c.fill.new.pipe) c.fill.result) c.fill.ensures.fills
    (reads_on_by c.args.self.now c.fill.new.self (g.P.Pipe.faults c.args.pipe.now) (g.P.Pipe.faults c.fill.new.pipe) c.fill.result c.if-self.false)
