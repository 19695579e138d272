use Rattle.std.proofs.Common.{◌≡◌, ◌∙◌, ℕ, ◌+◌, ◌++◌, Bool, false, List, Ok, ap, arith, drop, subst, sym}
use Rattle.std.proofs.lemmas.Result.{err_from_is_err_and}
use Rattle.std.specs.Option.{option_copied}
use Rattle.log_lines.specs.Lines.{entry_text, log_text, text_under}
use Rattle.log_lines.specs.Writing.{HasPut}
use Rattle.log_lines.proofs.Putting.{entry_read, left_here, left_last, printed_all, rose_on, took_more, took_part}
use Rattle.log_lines.proofs.printing.write_entries.Goals as goal

pub returns-in_err-put_lines-clause-printed : goal.returns-in_err-put_lines-clause-printed
returns-in_err-put_lines-clause-printed g c =
    let l = c.loop-entry in
    let declared = c.args.declared.now in
    let entries = c.args.entries.now in
    let entry = c.entry-item.result in
    let held = l.held.items in
    let text = text_under (option_copied c.get-slot.result) c.as_slice.result.now in
    let rest = log_text declared (drop (l.entry-index + 1) entries) in
    let read : text ≡ entry_text declared entry =
    entry_read declared entry (option_copied c.get-slot.result) c.as_slice.result.now c.get-slot.ensures.value c.as_slice.ensures in
    let here : held ++ log_text declared (drop l.entry-index entries) ≡ (held ++ text) ++ rest =
    left_here (entry_text declared) entries l.entry-index entry held (omega arith) c.entry-item.is
    ∙ ap (λ (t : List ℕ). (held ++ t) ++ rest) (sym read) in
    let p = err_from_is_err_and c.from_residual.result c.from_residual.ensures.1 in
    rw (p.1) (took_part (log_text declared entries) (held ++ log_text declared (drop l.entry-index entries)) (held ++ text) rest
    (g.O.Sink.written c.args.out.now) (g.O.Sink.written l.out) (g.O.Sink.written c.put_lines.new.out) here l.invariant.took c.in_err-put_lines.ensures.put)

pub returns-then-not-branch-clause-printed : goal.returns-then-not-branch-clause-printed
returns-then-not-branch-clause-printed g c =
    let l = c.loop-entry in
    let declared = c.args.declared.now in
    let entries = c.args.entries.now in
    let entry = c.entry-item.result in
    let held = l.held.items in
    let text = text_under (option_copied c.get-slot.result) c.as_slice.result.now in
    let rest = log_text declared (drop (l.entry-index + 1) entries) in
    let read : text ≡ entry_text declared entry =
    entry_read declared entry (option_copied c.get-slot.result) c.as_slice.result.now c.get-slot.ensures.value c.as_slice.ensures in
    let here : held ++ log_text declared (drop l.entry-index entries) ≡ (held ++ text) ++ rest =
    left_here (entry_text declared) entries l.entry-index entry held (omega arith) c.entry-item.is
    ∙ ap (λ (t : List ℕ). (held ++ t) ++ rest) (sym read) in
    let P : Bool → Type 0 = λ b. HasPut (Ok b) text held c.put_lines.new.held.items
    (g.O.Sink.written l.out) (g.O.Sink.written c.put_lines.new.out) (g.O.Sink.faults l.out) (g.O.Sink.faults c.put_lines.new.out) in
    let put : P false = subst P c.if-not-branch.true c.in_ok-put_lines.ensures.put in (
      rose_on (g.O.Sink.faults c.args.out.now) (g.O.Sink.faults l.out) (g.O.Sink.faults c.put_lines.new.out)
          l.invariant.counted c.in_ok-put_lines.ensures.counted put.0,
      took_part (log_text declared entries) (held ++ log_text declared (drop l.entry-index entries)) (held ++ text) rest
          (g.O.Sink.written c.args.out.now) (g.O.Sink.written l.out) (g.O.Sink.written c.put_lines.new.out) here l.invariant.took put.1,
    )

pub loop-entry-preserved : goal.loop-entry-preserved
loop-entry-preserved g c =
    let l = c.loop-entry in
    let declared = c.args.declared.now in
    let entries = c.args.entries.now in
    let entry = c.entry-item.result in
    let held = l.held.items in
    let text = text_under (option_copied c.get-slot.result) c.as_slice.result.now in
    let rest = log_text declared (drop (l.entry-index + 1) entries) in
    let read : text ≡ entry_text declared entry =
    entry_read declared entry (option_copied c.get-slot.result) c.as_slice.result.now c.get-slot.ensures.value c.as_slice.ensures in
    let here : held ++ log_text declared (drop l.entry-index entries) ≡ (held ++ text) ++ rest =
    left_here (entry_text declared) entries l.entry-index entry held (omega arith) c.entry-item.is
    ∙ ap (λ (t : List ℕ). (held ++ t) ++ rest) (sym read) in
    let P : Bool → Type 0 = λ b. HasPut (Ok b) text held c.put_lines.new.held.items
    (g.O.Sink.written l.out) (g.O.Sink.written c.put_lines.new.out) (g.O.Sink.faults l.out) (g.O.Sink.faults c.put_lines.new.out) in
    record {
      counted = omega (arith, l.invariant.counted, c.in_ok-put_lines.ensures.counted);
      took = took_more (log_text declared entries) (held ++ log_text declared (drop l.entry-index entries)) (held ++ text) rest
          c.put_lines.new.held.items (g.O.Sink.written c.args.out.now) (g.O.Sink.written l.out) (g.O.Sink.written c.put_lines.new.out) here
          l.invariant.took (subst P c.if-not-branch.false c.in_ok-put_lines.ensures.put);
    }

pub returns-clause-printed : goal.returns-clause-printed
returns-clause-printed g c =
    let l = c.loop-entry in
    let declared = c.args.declared.now in
    let entries = c.args.entries.now in
    let held = l.held.items in
    let left = held ++ log_text declared (drop l.entry-index entries) in
    printed_all (log_text declared entries) left c.as_slice-2.result.now (g.O.Sink.written c.args.out.now) (g.O.Sink.written l.out)
    (g.O.Sink.written c.write_all.new.sink) c.write_all.result (g.O.Sink.faults c.args.out.now) (g.O.Sink.faults l.out)
    (g.O.Sink.faults c.write_all.new.sink)
    (c.as_slice-2.ensures.value ∙ sym (left_last (entry_text declared) entries l.entry-index held (omega arith)))
    l.invariant.counted c.write_all.ensures.counted l.invariant.took c.write_all.ensures.wrote
