use Rattle.std.proofs.Common.{◌≡◌, ℕ, Option, List, map, set, sym, ap, ◌∙◌}
use Rattle.std.proofs.lemmas.List.{map-set}
use Rattle.slot_rows.specs.Keys.{slot_key}
use Rattle.slot_rows.proofs.slot_rows.SlotRows.set.Goals as goal

pub invariant_of-self : goal.invariant_of-self
invariant_of-self c =
    c.put.ensures ∙ ap (λ (o : Option ℕ). set c.self.inside.watch c.args.slot o) c.key_of.ensures
    ∙ ap (λ (ks : List (Option ℕ)). set ks c.args.slot (slot_key c.args.row)) c.self.invariant
    ∙ sym (map-set slot_key c.self.inside.rows.items c.args.slot c.args.row)
