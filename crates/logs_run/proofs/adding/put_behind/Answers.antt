use Rattle.std.proofs.Common.{◌≡◌, ◌∙◌, ◌++◌, ◌∷◌, ◌<◌, List, [], ap, append_assoc, length, sym, arith}
use Rattle.std.proofs.lemmas.Grind.{common_steps}
use Rattle.std.proofs.lemmas.List.{append-nil}
use Rattle.log_frames.specs.declared.line.LogLine.{LogLine}
use Rattle.logs_run.proofs.Seating.{front}
use Rattle.logs_run.proofs.adding.put_behind.Goals as goal

pub loop-rest-preserved : goal.loop-rest-preserved
loop-rest-preserved c =
    let cut = c.remove-line.ensures in let few = c.loop-rest.rest.ok in let cut_len = cut.len in
    let some : 0 < length c.loop-rest.rest.items = omega (arith, few, cut_len) in
    let head = front c.loop-rest.rest.items c.remove-line.new.self.items c.remove-line.result some cut.value cut.items in
    ap (λ (l : List LogLine). l ++ c.remove-line.new.self.items) c.in_ok-push.ensures.ok
    ∙ append_assoc c.loop-rest.lines (c.remove-line.result ∷ []) c.remove-line.new.self.items
    ∙ ap (λ (l : List LogLine). c.loop-rest.lines ++ l) (sym head)
    ∙ c.loop-rest.invariant

pub returns : goal.returns
returns c =
    let none : c.loop-rest.rest.items ≡ [] = grind (arith, common_steps) in
    sym (append-nil c.loop-rest.lines) ∙ ap (λ (l : List LogLine). c.loop-rest.lines ++ l) (sym none) ∙ c.loop-rest.invariant
