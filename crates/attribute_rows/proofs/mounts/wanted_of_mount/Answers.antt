use Rattle.std.proofs.Common.{◌∙◌, ◌∷◌, [], Bool, ap, codes, sym}
use Rattle.std.specs.Prelude.{if◌then◌else◌}
use Rattle.attribute_rows.proofs.mounts.wanted_of_mount.Goals as goal

pub returns-then-is_bind : goal.returns-then-is_bind
returns-then-is_bind c =
    ap (λ (b : Bool). if b then (codes "source" ∷ codes "target" ∷ codes "type" ∷ []) else (codes "target" ∷ codes "type" ∷ [])) (sym c.if-is_bind.true ∙ c.is_bind.ensures)

pub returns-else-is_bind : goal.returns-else-is_bind
returns-else-is_bind c =
    ap (λ (b : Bool). if b then (codes "source" ∷ codes "target" ∷ codes "type" ∷ []) else (codes "target" ∷ codes "type" ∷ [])) (sym c.if-is_bind.false ∙ c.is_bind.ensures)
