-- The head is looked for, and then parsed.
use Rattle.std.proofs.Common.{◌≡◌, ◌≤◌, ◌++◌, ℕ, List, length, take, sym, ap, ◌∙◌, subst}
use Rattle.std.proofs.lemmas.List.{length-take-le}
use Rattle.std.proofs.lemmas.Result.{err_from_is_err_and}
use Rattle.std.specs.Prelude.{Err, Result}
use Rattle.response_rules.specs.Lines.{ends, head_part}
use Rattle.request_reading.specs.Hearing.{Hears}
use Rattle.request_reading.specs.Stocks.{OpensBy}
use Rattle.request_reading.specs.declared.heads.Head.{Head}
use Rattle.request_reading.specs.declared.received.RequestEnd.{RequestEnd}
use Rattle.request_reading.proofs.Bodies.{head_lost, head_read}
use Rattle.request_reading.proofs.Searching.{ends_small}
use Rattle.request_reading.proofs.heads.read_head.Goals as goal

pub returns-in_err-end-clause-opens : goal.returns-in_err-end-clause-opens
returns-in_err-end-clause-opens g c =
    let p = err_from_is_err_and c.from_residual.result c.from_residual.ensures.1 in
    subst (λ (r : Result Head RequestEnd). Hears (g.P.Pipe.talk c.args.pipe.now) (g.P.Pipe.talk c.head_end.new.pipe)
    (OpensBy c.head_end.new.stock (g.P.Pipe.faults c.args.pipe.now) (g.P.Pipe.faults c.head_end.new.pipe) r))
    (sym (p.1 ∙ ap Err p.2))
    (head_lost c.args.stock.now c.head_end.new.stock (g.P.Pipe.talk c.args.pipe.now) (g.P.Pipe.talk c.head_end.new.pipe)
    (g.P.Pipe.faults c.args.pipe.now) (g.P.Pipe.faults c.head_end.new.pipe) c.requires.empty c.requires.open _ c.head_end.ensures.counted c.in_err-end.ensures.finds)

pub split_at-requires : goal.split_at-requires
split_at-requires g c =
    let h = c.in_ok-end.ensures.finds in
    let s = ends_small c.in_ok-end.end (c.args.stock.now.bytes ++ h.more) h.comes.1 in
    subst (λ (l : List ℕ). c.in_ok-end.end ≤ length l) (sym (c.as_slice.ensures ∙ h.comes.0.bytes_are)) s.1

pub returns-clause-opens : goal.returns-clause-opens
returns-clause-opens g c =
    let h = c.in_ok-end.ensures.finds in
    let same : c.args.stock.now.bytes ++ h.more ≡ h.more = ap (λ (l : List ℕ). l ++ h.more) c.requires.empty in
    let part : head_part 0 h.more ≡ ends c.in_ok-end.end = ap (head_part 0) (sym same) ∙ h.comes.1 in
    let bytes : c.split_at.result.0.now ≡ take c.in_ok-end.end h.more = c.split_at.ensures.front ∙ ap (take c.in_ok-end.end) (c.as_slice.ensures ∙ h.comes.0.bytes_are ∙ same) in
    let s = ends_small c.in_ok-end.end h.more part in
    let long : length c.split_at.result.0.now ≡ c.in_ok-end.end = ap length bytes ∙ length-take-le c.in_ok-end.end h.more s.1 in
    head_read c.args.stock.now c.head_end.new.stock (g.P.Pipe.talk c.args.pipe.now) (g.P.Pipe.talk c.head_end.new.pipe)
    (g.P.Pipe.faults c.args.pipe.now) (g.P.Pipe.faults c.head_end.new.pipe) c.requires.empty c.requires.open c.in_ok-end.end c.parsed.result h
    (c.parsed.ensures h.more (part ∙ ap ends (sym long)) (bytes ∙ ap (λ (n : ℕ). take n h.more) (sym long)))
