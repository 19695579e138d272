use Rattle.std.proofs.Common.{◌≡◌, ◌∙◌, ◌<◌, ◌++◌, ◌∷◌, [], Bor, length, map, ap, arith}
use Rattle.std.proofs.lemmas.List.{map-append}
use Rattle.named_items.proofs.Firsts.{known_step, new_step}
use Rattle.named_items.proofs.distinct.firsts.Goals as goal
use Rattle.named_items.proofs.distinct.firsts.Goals.{then-branch+in_ok-push, else-branch}

pub loop-item-preserved : goal.loop-item-preserved
loop-item-preserved g c =
    let i = c.loop-item.item-index in
    let known = g.T.Named.known in
    let within : i < length c.args.items.now = omega arith in
    let named : c.in_ok-name.name ≡ known c.item-item.result = c.in_ok-name.ensures ∙ c.known_as.ensures in
    let before = map (λ (row : Bor g.row.T.Denot). row.now) c.loop-item.rows.items in
    let after = map (λ (row : Bor g.row.T.Denot). row.now) c.if-branch.rows.items in
    elim c.if-branch.branch [
      | then-branch+in_ok-push w ↦
          let grown : after ≡ before ++ c.item-item.result ∷ [] =
          rw w.rows-is (ap (map (λ (row : Bor g.row.T.Denot). row.now)) w.in_ok-push.ensures.items ∙ map-append (λ (row : Bor g.row.T.Denot). row.now) c.loop-item.rows.items _) in
          let step = new_step known c.args.items.now i c.item-item.result within c.item-item.is c.loop-item.names.keys before c.loop-item.invariant.rows c.loop-item.invariant.names
          c.in_ok-name.name named c.in_ok-insert.field-0 c.in_ok-insert.ensures.added c.insert.new.self.keys c.in_ok-insert.ensures.keys w.if-branch.true after grown in
          record { rows = step.0; names = step.1 }
      | else-branch w ↦
          let same : after ≡ before = rw w.rows-is in
          let step = known_step known c.args.items.now i c.item-item.result within c.item-item.is c.loop-item.names.keys before c.loop-item.invariant.rows c.loop-item.invariant.names
          c.in_ok-name.name named c.in_ok-insert.field-0 c.in_ok-insert.ensures.added c.insert.new.self.keys c.in_ok-insert.ensures.keys w.if-branch.false after same in
          record { rows = step.0; names = step.1 }
    ]
