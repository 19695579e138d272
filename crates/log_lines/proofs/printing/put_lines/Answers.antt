use Rattle.std.proofs.Common.{◌≡◌, ◌∙◌, ℕ, ◌+◌, ◌++◌, Bool, false, List, Ok, ap, arith, drop, subst, sym}
use Rattle.std.specs.Prelude.{flat_map}
use Rattle.std.proofs.lemmas.Result.{err_from_is_err_and}
use Rattle.log_lines.specs.Lines.{line_text}
use Rattle.log_lines.specs.Writing.{HasPut}
use Rattle.log_lines.proofs.Putting.{left_here, rose_on, took_more, took_part}
use Rattle.log_lines.proofs.printing.put_lines.Goals as goal

pub returns-in_err-put_line-clause-put : goal.returns-in_err-put_line-clause-put
returns-in_err-put_line-clause-put g c =
    let l = c.loop-line in
    let name = c.in-Some.slot.now.name in
    let line = c.line-item.result in
    let held = l.held.items in
    let rest = flat_map (line_text name) (drop (l.line-index + 1) c.args.lines.now) in
    let here : held ++ flat_map (line_text name) (drop l.line-index c.args.lines.now) ≡ (held ++ line_text c.as_str.result.now line) ++ rest =
    left_here (line_text name) c.args.lines.now l.line-index line held (omega arith) c.line-item.is
    ∙ ap (λ (n : List ℕ). (held ++ line_text n line) ++ rest) (sym c.as_str.ensures.value) in
    let p = err_from_is_err_and c.from_residual.result c.from_residual.ensures.1 in
    rw (p.1, c.in-Some.is) (took_part (c.args.held.now.items ++ flat_map (line_text name) c.args.lines.now)
    (held ++ flat_map (line_text name) (drop l.line-index c.args.lines.now)) (held ++ line_text c.as_str.result.now line) rest
    (g.O.Sink.written c.args.out.now) (g.O.Sink.written l.out) (g.O.Sink.written c.put_line.new.out) here l.invariant.took c.in_err-put_line.ensures.put)

pub returns-then-not-branch-clause-put : goal.returns-then-not-branch-clause-put
returns-then-not-branch-clause-put g c =
    let l = c.loop-line in
    let name = c.in-Some.slot.now.name in
    let line = c.line-item.result in
    let held = l.held.items in
    let rest = flat_map (line_text name) (drop (l.line-index + 1) c.args.lines.now) in
    let here : held ++ flat_map (line_text name) (drop l.line-index c.args.lines.now) ≡ (held ++ line_text c.as_str.result.now line) ++ rest =
    left_here (line_text name) c.args.lines.now l.line-index line held (omega arith) c.line-item.is
    ∙ ap (λ (n : List ℕ). (held ++ line_text n line) ++ rest) (sym c.as_str.ensures.value) in
    let P : Bool → Type 0 = λ b. HasPut (Ok b) (line_text c.as_str.result.now line) held c.put_line.new.held.items
    (g.O.Sink.written l.out) (g.O.Sink.written c.put_line.new.out) (g.O.Sink.faults l.out) (g.O.Sink.faults c.put_line.new.out) in
    let put : P false = subst P c.if-not-branch.true c.in_ok-put_line.ensures.put in
    rw (c.in-Some.is) (
      rose_on (g.O.Sink.faults c.args.out.now) (g.O.Sink.faults l.out) (g.O.Sink.faults c.put_line.new.out)
          l.invariant.counted c.in_ok-put_line.ensures.counted put.0,
      took_part (c.args.held.now.items ++ flat_map (line_text name) c.args.lines.now)
          (held ++ flat_map (line_text name) (drop l.line-index c.args.lines.now)) (held ++ line_text c.as_str.result.now line) rest
          (g.O.Sink.written c.args.out.now) (g.O.Sink.written l.out) (g.O.Sink.written c.put_line.new.out) here l.invariant.took put.1,
    )

pub loop-line-preserved : goal.loop-line-preserved
loop-line-preserved g c =
    let l = c.loop-line in
    let name = c.in-Some.slot.now.name in
    let line = c.line-item.result in
    let held = l.held.items in
    let rest = flat_map (line_text name) (drop (l.line-index + 1) c.args.lines.now) in
    let here : held ++ flat_map (line_text name) (drop l.line-index c.args.lines.now) ≡ (held ++ line_text c.as_str.result.now line) ++ rest =
    left_here (line_text name) c.args.lines.now l.line-index line held (omega arith) c.line-item.is
    ∙ ap (λ (n : List ℕ). (held ++ line_text n line) ++ rest) (sym c.as_str.ensures.value) in
    let P : Bool → Type 0 = λ b. HasPut (Ok b) (line_text c.as_str.result.now line) held c.put_line.new.held.items
    (g.O.Sink.written l.out) (g.O.Sink.written c.put_line.new.out) (g.O.Sink.faults l.out) (g.O.Sink.faults c.put_line.new.out) in
    record {
      counted = omega (arith, l.invariant.counted, c.in_ok-put_line.ensures.counted);
      took = took_more (c.args.held.now.items ++ flat_map (line_text name) c.args.lines.now)
          (held ++ flat_map (line_text name) (drop l.line-index c.args.lines.now)) (held ++ line_text c.as_str.result.now line) rest
          c.put_line.new.held.items (g.O.Sink.written c.args.out.now) (g.O.Sink.written l.out) (g.O.Sink.written c.put_line.new.out) here
          l.invariant.took (subst P c.if-not-branch.false c.in_ok-put_line.ensures.put);
    }
