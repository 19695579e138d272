use Rattle.std.proofs.Common.{◌≡◌, ◌≤◌, List, [], ◌∷◌, ◌++◌, ap, ◌∙◌, arith}
use Rattle.engine_types.specs.declared.Entry.{Entry}
use Rattle.ledger_start.proofs.Starts.{ledger, planned}
use Rattle.ledger_start.proofs.beginning.opened.Goals as goal

pub of-requires-clause-ledger : goal.of-requires-clause-ledger
of-requires-clause-ledger c =
    let pushed : c.push.new.self.items ≡ c.args.opening.journal.items ++ Entry.Seen c.args.observed ∷ [] = rw (c.unwrap.ensures, c.holding.ensures) at c.push.ensures.ok in
    let items : c.push.new.self.items ≡ Entry.Seen c.args.observed ∷ [] = pushed ∙ ap (λ (js : List Entry). js ++ Entry.Seen c.args.observed ∷ []) c.requires.opening.empty in
    let room = c.requires.opening.room in
    let kept = c.push.ensures.spare in
    let spare : 32 ≤ c.push.new.self.spare = omega (arith, room, kept) in
    ledger c.args.declared c.args.observed c.args.plan c.args.limits c.requires.may c.args.opening.started c.requires.opening.started c.push.new.self items spare

pub of-requires-clause-planned : goal.of-requires-clause-planned
of-requires-clause-planned c =
    let pushed : c.push.new.self.items ≡ c.args.opening.journal.items ++ Entry.Seen c.args.observed ∷ [] = rw (c.unwrap.ensures, c.holding.ensures) at c.push.ensures.ok in
    let items : c.push.new.self.items ≡ Entry.Seen c.args.observed ∷ [] = pushed ∙ ap (λ (js : List Entry). js ++ Entry.Seen c.args.observed ∷ []) c.requires.opening.empty in
    planned c.args.declared c.args.observed c.args.plan c.args.limits c.requires.may c.args.opening.started c.requires.opening.started c.push.new.self items
