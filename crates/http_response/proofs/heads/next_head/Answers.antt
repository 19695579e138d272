-- The bytes up to the end of the head are those that are parsed.
use Rattle.std.proofs.Common.{◌≤◌, ◌++◌, ℕ, List, length, drop, take, refl, sym, ap, ◌∙◌, subst, arith}
use Rattle.std.proofs.lemmas.Result.{err_from_is_err_and}
use Rattle.std.specs.Prelude.{Err, Result}
use Rattle.http_response.specs.Found.{NextHeadBy}
use Rattle.http_response.specs.Hearing.{Hears}
use Rattle.http_response.specs.Stocks.{left}
use Rattle.http_response.specs.declared.heads.Head.{Head}
use Rattle.http_response.specs.declared.response.ResponseEnd.{ResponseEnd}
use Rattle.http_response.proofs.Searching.{end_within, longer}
use Rattle.http_response.proofs.Skipping.{next_lost, next_read, next_wrong}
use Rattle.http_response.proofs.heads.next_head.Goals as goal

pub split_at-requires : goal.split_at-requires
split_at-requires g c =
    let found = c.in_ok-end.ensures.finds in
    let l = longer c.args.stock.now c.head_end.new.stock found.more found.found_end found.comes.0 in
    let e = ap length c.left.ensures in
    omega (arith, l, e, c.requires.within)

pub split_at-requires-2 : goal.split_at-requires-2
split_at-requires-2 g c =
    let found = c.in_ok-end.ensures.finds in
    subst (λ (l : List ℕ). c.in_ok-end.end ≤ length l)
    (sym (c.split_at.ensures.back ∙ ap (drop c.args.skipped) (c.left.ensures ∙ found.comes.0.left_is)))
    (end_within c.args.skipped c.in_ok-end.end (drop c.args.skipped (left c.args.stock.now ++ found.more)) found.comes.1)

pub returns-in_err-end-clause-reads : goal.returns-in_err-end-clause-reads
returns-in_err-end-clause-reads g c =
    let p = err_from_is_err_and c.from_residual.result c.from_residual.ensures.1 in
    subst (λ (r : Result Head ResponseEnd). Hears (g.P.Pipe.talk c.args.pipe.now) (g.P.Pipe.talk c.head_end.new.pipe)
    (NextHeadBy c.args.limit c.args.stock.now c.head_end.new.stock c.args.skipped (g.P.Pipe.faults c.args.pipe.now) (g.P.Pipe.faults c.head_end.new.pipe) r))
    (sym (p.1 ∙ ap Err p.2))
    (next_lost c.args.limit c.args.stock.now c.head_end.new.stock c.args.skipped (g.P.Pipe.talk c.args.pipe.now) (g.P.Pipe.talk c.head_end.new.pipe)
    (g.P.Pipe.faults c.args.pipe.now) (g.P.Pipe.faults c.head_end.new.pipe) _ c.head_end.ensures.counted c.in_err-end.ensures.finds)

pub returns-in-Ok-clause-reads : goal.returns-in-Ok-clause-reads
returns-in-Ok-clause-reads g c =
    next_read c.args.limit c.args.stock.now c.head_end.new.stock c.args.skipped c.in_ok-end.end c.args.skipped (g.P.Pipe.talk c.args.pipe.now) (g.P.Pipe.talk c.head_end.new.pipe)
    (g.P.Pipe.faults c.args.pipe.now) (g.P.Pipe.faults c.head_end.new.pipe) c.split_at-2.result.0.now c.in_ok-end.ensures.finds
    (c.split_at-2.ensures.front ∙ ap (take c.in_ok-end.end) (c.split_at.ensures.back ∙ ap (drop c.args.skipped) c.left.ensures)) refl c.in-Ok.head c.in-Ok.ensures

pub returns-in-Err-clause-reads : goal.returns-in-Err-clause-reads
returns-in-Err-clause-reads g c =
    next_wrong c.args.limit c.args.stock.now c.head_end.new.stock c.args.skipped c.in_ok-end.end c.args.skipped (g.P.Pipe.talk c.args.pipe.now) (g.P.Pipe.talk c.head_end.new.pipe)
    (g.P.Pipe.faults c.args.pipe.now) (g.P.Pipe.faults c.head_end.new.pipe) c.split_at-2.result.0.now c.in_ok-end.ensures.finds
    (c.split_at-2.ensures.front ∙ ap (take c.in_ok-end.end) (c.split_at.ensures.back ∙ ap (drop c.args.skipped) c.left.ensures)) refl c.in-Err.cause c.in-Err.ensures
