-- What is left is ready, and else a piece is read.
use Rattle.std.proofs.Common.{ℕ, length, sym, ap, ◌∙◌, subst}
use Rattle.std.proofs.lemmas.Result.{err_from_is_err_and}
use Rattle.std.specs.Prelude.{Err, Result}
use Rattle.http_response.specs.Hearing.{Hears}
use Rattle.http_response.specs.Stocks.{ReadiesBy}
use Rattle.http_response.specs.declared.response.ResponseEnd.{ResponseEnd}
use Rattle.http_response.proofs.Listening.{readies_filled, readies_here, readies_not}
use Rattle.http_response.proofs.stock.Stock.ready.Goals as goal

pub returns-clause-readies : goal.returns-clause-readies
returns-clause-readies g c =
    readies_here c.args.self.now (g.P.Pipe.talk c.args.pipe.now) (g.P.Pipe.faults c.args.pipe.now) _ (ap length c.left-2.ensures) (sym c.is_dry.ensures ∙ c.if-is_dry.false)

pub returns-then-is_dry-clause-readies : goal.returns-then-is_dry-clause-readies
returns-then-is_dry-clause-readies g c =
    readies_filled c.args.self.now c.fill.new.self (g.P.Pipe.talk c.args.pipe.now) (g.P.Pipe.talk c.fill.new.pipe) (g.P.Pipe.faults c.args.pipe.now) (g.P.Pipe.faults c.fill.new.pipe) _ (ap length c.left.ensures) c.in_ok-fill.ensures.fills

pub returns-in_err-fill-clause-readies : goal.returns-in_err-fill-clause-readies
returns-in_err-fill-clause-readies g c =
    let p = err_from_is_err_and c.from_residual.result c.from_residual.ensures.1 in
    subst (λ (r : Result ℕ ResponseEnd). Hears (g.P.Pipe.talk c.args.pipe.now) (g.P.Pipe.talk c.fill.new.pipe)
    (ReadiesBy c.args.self.now c.fill.new.self (g.P.Pipe.faults c.args.pipe.now) (g.P.Pipe.faults c.fill.new.pipe) r))
    (sym (p.1 ∙ ap Err p.2))
    (readies_not c.args.self.now c.fill.new.self (g.P.Pipe.talk c.args.pipe.now) (g.P.Pipe.talk c.fill.new.pipe) (g.P.Pipe.faults c.args.pipe.now) (g.P.Pipe.faults c.fill.new.pipe) _ c.fill.ensures.counted c.in_err-fill.ensures.fills)
