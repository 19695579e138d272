use Rattle.std.proofs.Common.{◌≡◌, ◌∙◌, ℕ, List, [], Some, IfOk, Result, Ok, Err, map, ap, sym}
use Rattle.std.specs.Option.{option_map_or}
use Rattle.engine_json.proofs.Bodies.{listed_items}
use Rattle.response_rules.specs.Json.{listed}
use Rattle.serde_json.specs.Data.{Data}
use Rattle.serde_json.specs.Find.{as_array}
use Rattle.serde_json.specs.View.{items_view, view}
use Rattle.serde_json.specs.declared.value.Value.{Value}
use Rattle.tree_base.specs.declared.Memory.{Memory}
use Rattle.volume_notes.specs.Volumes.{Declared, foreign_among, foreign_names}
use Rattle.volume_notes.proofs.volumes.foreign_among.Goals as goal

rows_listed : (project : List ℕ) (declared : Declared) (d : Data) (items seen : List Value) (result : Result (List ℕ) Memory) → Some (items_view items) ≡ as_array d → seen ≡ items
    → IfOk result (λ names. names ≡ foreign_names project declared (map view seen)) → IfOk result (λ names. names ≡ foreign_among project declared d)
rows_listed project declared d items seen (Ok names) at is read =
    read
    ∙ ap (λ vs. foreign_names project declared (map view vs)) is
    ∙ ap (foreign_names project declared) (sym (listed_items (map view items)))
    ∙ ap (λ o. option_map_or (λ rows. foreign_names project declared (listed rows)) o []) at
rows_listed project declared d items seen (Err refusal) at is read = tt

pub returns-in-Some : goal.returns-in-Some
returns-in-Some c =
    rows_listed c.args.project.now c.args.declared.now (view c.args.volumes.now) c.in-Some.rows.now.items c.deref.result.now c.foreign_names.result c.in-Some.ensures c.deref.ensures.value c.foreign_names.ensures
