-- Behind its head the body is read, and both are the request.
use Rattle.std.proofs.Common.{◌≡◌, ◌+◌, ◌≤◌, ℕ, List, length, take, drop, sym, ap, ◌∙◌, subst, arith}
use Rattle.std.proofs.lemmas.List.{length-take-le}
use Rattle.std.proofs.lemmas.Result.{err_from_is_err_and}
use Rattle.std.specs.Prelude.{Err, Result}
use Rattle.request_reading.specs.Hearing.{AnswersTo, Hears}
use Rattle.request_reading.specs.declared.received.Received.{Received}
use Rattle.request_reading.specs.declared.received.RequestEnd.{RequestEnd}
use Rattle.request_reading.proofs.Bodies.{body_lost, body_read, body_short, head_refused}
use Rattle.request_reading.proofs.reading.read_request.Goals as goal

pub returns-in_err-head-clause-answers : goal.returns-in_err-head-clause-answers
returns-in_err-head-clause-answers g c =
    let p = err_from_is_err_and c.from_residual.result c.from_residual.ensures.1 in
    subst (λ (r : Result Received RequestEnd). Hears (g.P.Pipe.talk c.args.pipe.now) (g.P.Pipe.talk c.read_head.new.pipe)
    (AnswersTo (g.P.Pipe.faults c.args.pipe.now) (g.P.Pipe.faults c.read_head.new.pipe) r))
    (sym (p.1 ∙ ap Err p.2))
    (head_refused c.read_head.new.stock (g.P.Pipe.talk c.args.pipe.now) (g.P.Pipe.talk c.read_head.new.pipe)
    (g.P.Pipe.faults c.args.pipe.now) (g.P.Pipe.faults c.read_head.new.pipe) _ c.read_head.ensures.counted c.in_err-head.ensures.opens)

pub overflow_add-end : goal.overflow_add-end
overflow_add-end g c =
    let read = c.in_ok-head.ensures.opens.comes.2.3 in
    let begins = c.in_ok-head.ensures.opens.comes.2.2 in
    let known = read.length_known in
    let within = begins.within in
    let small = read.small in
    omega (arith, known, within, small)

pub returns-in_err-fill_to-clause-answers : goal.returns-in_err-fill_to-clause-answers
returns-in_err-fill_to-clause-answers g c =
    let p = err_from_is_err_and c.from_residual-in_err-fill_to.result c.from_residual-in_err-fill_to.ensures.1 in
    subst (λ (r : Result Received RequestEnd). Hears (g.P.Pipe.talk c.args.pipe.now) (g.P.Pipe.talk c.fill_to.new.pipe)
    (AnswersTo (g.P.Pipe.faults c.args.pipe.now) (g.P.Pipe.faults c.fill_to.new.pipe) r))
    (sym (p.1 ∙ ap Err p.2))
    (body_lost c.read_head.new.stock c.fill_to.new.self (g.P.Pipe.talk c.args.pipe.now) (g.P.Pipe.talk c.read_head.new.pipe) (g.P.Pipe.talk c.fill_to.new.pipe)
    (g.P.Pipe.faults c.args.pipe.now) (g.P.Pipe.faults c.read_head.new.pipe) (g.P.Pipe.faults c.fill_to.new.pipe) c.in_ok-head.head
    c.read_head.ensures.counted c.fill_to.ensures.counted c.in_ok-head.ensures.opens _ c.in_err-fill_to.ensures.fills)

pub split_at-requires : goal.split_at-requires
split_at-requires g c =
    subst (λ (l : List ℕ). c.in_ok-head.head.length + c.in_ok-head.head.size ≤ length l) (sym c.as_slice.ensures) c.in_ok-fill_to.ensures.fills.comes.1

pub split_at-requires-2 : goal.split_at-requires-2
split_at-requires-2 g c =
    let long : length c.split_at.result.0.now ≡ c.in_ok-head.head.length + c.in_ok-head.head.size =
    ap length (c.split_at.ensures.front ∙ ap (take (c.in_ok-head.head.length + c.in_ok-head.head.size)) c.as_slice.ensures) ∙ length-take-le (c.in_ok-head.head.length + c.in_ok-head.head.size) c.fill_to.new.self.bytes c.in_ok-fill_to.ensures.fills.comes.1 in
    omega (arith, long)

pub returns-in_err-body-clause-answers : goal.returns-in_err-body-clause-answers
returns-in_err-body-clause-answers g c =
    let p = err_from_is_err_and c.from_residual-in_err-body.result c.from_residual-in_err-body.ensures.1 in
    subst (λ (r : Result Received RequestEnd). Hears (g.P.Pipe.talk c.args.pipe.now) (g.P.Pipe.talk c.fill_to.new.pipe)
    (AnswersTo (g.P.Pipe.faults c.args.pipe.now) (g.P.Pipe.faults c.fill_to.new.pipe) r))
    (sym (p.1 ∙ ap Err p.2))
    (body_short c.read_head.new.stock c.fill_to.new.self (g.P.Pipe.talk c.args.pipe.now) (g.P.Pipe.talk c.read_head.new.pipe) (g.P.Pipe.talk c.fill_to.new.pipe)
    (g.P.Pipe.faults c.args.pipe.now) (g.P.Pipe.faults c.read_head.new.pipe) (g.P.Pipe.faults c.fill_to.new.pipe) c.in_ok-head.head
    c.read_head.ensures.counted c.fill_to.ensures.counted c.in_ok-head.ensures.opens c.in_ok-fill_to.ensures.fills)

pub returns-clause-answers : goal.returns-clause-answers
returns-clause-answers g c =
    body_read c.read_head.new.stock c.fill_to.new.self (g.P.Pipe.talk c.args.pipe.now) (g.P.Pipe.talk c.read_head.new.pipe) (g.P.Pipe.talk c.fill_to.new.pipe)
    (g.P.Pipe.faults c.args.pipe.now) (g.P.Pipe.faults c.read_head.new.pipe) (g.P.Pipe.faults c.fill_to.new.pipe) c.in_ok-head.head
    c.read_head.ensures.counted c.fill_to.ensures.counted c.in_ok-head.ensures.opens _ c.in_ok-fill_to.ensures.fills
    (c.in_ok-body.ensures ∙ c.split_at-2.ensures.back ∙ ap (drop c.in_ok-head.head.length) (c.split_at.ensures.front ∙ ap (take (c.in_ok-head.head.length + c.in_ok-head.head.size)) c.as_slice.ensures))
