use Rattle.std.proofs.Common.{◌≡◌, ◌∙◌, ap, sym, true}
use Rattle.std.specs.List.{list_all}
use Rattle.std.specs.Map.{keys_of}
use Rattle.merge_rules.specs.Laws.{are_apart, own_keys}
use Rattle.project_keys.proofs.Apart.{map_owns, seq_owns}
use Rattle.project_keys.proofs.own_keys.+keys.Goals as goal

pub show_own_keys-returns-in-Map : goal.show_own_keys-returns-in-Map
show_own_keys-returns-in-Map t c =
    ap own_keys c.in-Map.is ∙ map_owns c.in-Map.entries (ap (λ es. are_apart (keys_of es)) (sym c.get.ensures) ∙ c.show_keys_apart.ensures) (ap (list_all own_keys) (sym c.values.ensures) ∙ c.show_all_own_keys.ensures)

pub show_own_keys-returns-in-Seq : goal.show_own_keys-returns-in-Seq
show_own_keys-returns-in-Seq t c =
    ap own_keys c.in-Seq.is ∙ seq_owns c.in-Seq.items (ap (list_all own_keys) (sym c.as_slice.ensures) ∙ c.show_all_own_keys-in-Seq.ensures)
