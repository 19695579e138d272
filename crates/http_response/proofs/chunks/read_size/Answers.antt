-- The parser's answer to the line that was found is its size, or that it is none.
use Rattle.std.proofs.Common.{sym, ap, ◌∙◌, subst}
use Rattle.std.proofs.lemmas.Result.{err_from_is_err_and}
use Rattle.std.specs.Prelude.{Err, Result}
use Rattle.http_response.specs.ChunksRead.{ReadsSizeBy}
use Rattle.http_response.specs.Hearing.{Hears}
use Rattle.http_response.specs.declared.chunks.LineRead.{LineRead}
use Rattle.http_response.specs.declared.response.ResponseEnd.{ResponseEnd}
use Rattle.http_response.proofs.ChunkLines.{end_fits, line_fits, never_line, size_lost, size_read, size_wrong}
use Rattle.http_response.proofs.chunks.read_size.Goals as goal

pub returns-in_err-end-clause-reads : goal.returns-in_err-end-clause-reads
returns-in_err-end-clause-reads g c =
    let p = err_from_is_err_and c.from_residual.result c.from_residual.ensures.1 in
    subst (λ (r : Result LineRead ResponseEnd). Hears (g.P.Pipe.talk c.args.pipe.now) (g.P.Pipe.talk c.line_end.new.pipe)
    (ReadsSizeBy c.args.stock.now c.line_end.new.stock (g.P.Pipe.faults c.args.pipe.now) (g.P.Pipe.faults c.line_end.new.pipe) r))
    (sym (p.1 ∙ ap Err p.2))
    (size_lost c.args.stock.now c.line_end.new.stock (g.P.Pipe.talk c.args.pipe.now) (g.P.Pipe.talk c.line_end.new.pipe)
    (g.P.Pipe.faults c.args.pipe.now) (g.P.Pipe.faults c.line_end.new.pipe) _ c.line_end.ensures.counted c.in_err-end.ensures.finds)

pub split_at-requires : goal.split_at-requires
split_at-requires g c =
    end_fits c.args.stock.now c.line_end.new.stock (g.P.Pipe.talk c.args.pipe.now) (g.P.Pipe.talk c.line_end.new.pipe)
    (g.P.Pipe.faults c.args.pipe.now) (g.P.Pipe.faults c.line_end.new.pipe) c.in_ok-end.end c.in_ok-end.ensures.finds c.left.result.now c.left.ensures

pub use_up-requires : goal.use_up-requires
use_up-requires g c =
    let found = rw c.in-Ok-Complete.field-0-is at c.in-Ok-Complete.ensures.complete in
    line_fits c.args.stock.now c.line_end.new.stock (g.P.Pipe.talk c.args.pipe.now) (g.P.Pipe.talk c.line_end.new.pipe)
    (g.P.Pipe.faults c.args.pipe.now) (g.P.Pipe.faults c.line_end.new.pipe) c.in_ok-end.end c.in_ok-end.ensures.finds
    c.left.result.now c.split_at.result.0.now c.split_at.ensures.front c.left.ensures c.in-Ok-Complete.length c.in-Ok-Complete.size found.0 found.1

pub returns-in-Ok-Complete-clause-reads : goal.returns-in-Ok-Complete-clause-reads
returns-in-Ok-Complete-clause-reads g c =
    let found = rw c.in-Ok-Complete.field-0-is at c.in-Ok-Complete.ensures.complete in
    size_read c.args.stock.now c.line_end.new.stock (g.P.Pipe.talk c.args.pipe.now) (g.P.Pipe.talk c.line_end.new.pipe)
    (g.P.Pipe.faults c.args.pipe.now) (g.P.Pipe.faults c.line_end.new.pipe) c.in_ok-end.end c.in_ok-end.ensures.finds
    c.left.result.now c.split_at.result.0.now c.split_at.ensures.front c.left.ensures c.in-Ok-Complete.length c.in-Ok-Complete.size found.0 found.1
    c.use_up.new.self c.use_up.ensures.left c.use_up.ensures.place c.use_up.ensures.ended

pub returns-in-Ok-Partial-clause-reads : goal.returns-in-Ok-Partial-clause-reads
returns-in-Ok-Partial-clause-reads g c =
    size_wrong c.args.stock.now c.line_end.new.stock (g.P.Pipe.talk c.args.pipe.now) (g.P.Pipe.talk c.line_end.new.pipe)
    (g.P.Pipe.faults c.args.pipe.now) (g.P.Pipe.faults c.line_end.new.pipe) c.in_ok-end.end c.in_ok-end.ensures.finds
    c.left.result.now c.split_at.result.0.now c.split_at.ensures.front c.left.ensures c.place-at.result c.place-at.ensures
    (rw c.in-Ok-Partial.field-0-is at c.in-Ok-Partial.ensures.partial) c.line_end.new.stock

pub returns-in-Err-clause-reads : goal.returns-in-Err-clause-reads
returns-in-Err-clause-reads g c =
    size_wrong c.args.stock.now c.line_end.new.stock (g.P.Pipe.talk c.args.pipe.now) (g.P.Pipe.talk c.line_end.new.pipe)
    (g.P.Pipe.faults c.args.pipe.now) (g.P.Pipe.faults c.line_end.new.pipe) c.in_ok-end.end c.in_ok-end.ensures.finds
    c.left.result.now c.split_at.result.0.now c.split_at.ensures.front c.left.ensures c.place-at.result c.place-at.ensures
    (never_line c.split_at.result.0.now c.in-Err.ensures.invalid) c.line_end.new.stock
