use Rattle.std.proofs.Common.{◌≡◌, ◌∙◌, ◌+◌, ◌∷◌, [], ◌++◌, Some, ap, arith, drop, map, sym}
use Rattle.std.proofs.lemmas.List.{drop_more}
use Rattle.std.specs.Option.{option_map}
use Rattle.response_rules.specs.Json.{of_each}
use Rattle.response_rules.specs.Replies.{container_of}
use Rattle.serde_json.specs.View.{view}
use Rattle.engine_json.proofs.Bodies.{one_more}
use Rattle.engine_json.proofs.rows.containers_each.Goals as goal

pub loop-item-preserved : goal.loop-item-preserved
loop-item-preserved c =
    let l = c.loop-item in
    let item = c.item-item.result in
    let rest = drop (l.item-index + 1) c.args.items.now in
    let here : drop l.item-index c.args.items.now ≡ item ∷ rest = drop_more c.args.items.now l.item-index item (omega arith) ∙ ap (λ y. y ∷ rest) (sym c.item-item.is) in
    let pushed : c.push.new.self ≡ l.found ++ c.in-Some.row ∷ [] = c.in_ok-push.ensures.ok in
    let read : Some c.in-Some.row ≡ container_of (view item) = sym c.in-Some.is ∙ c.in_ok-row.ensures in
    ap (λ found. option_map (λ rows. found ++ rows) (of_each container_of (map view rest))) pushed
    ∙ one_more container_of (view item) (map view rest) c.in-Some.row l.found read
    ∙ ap (λ items. option_map (λ rows. l.found ++ rows) (of_each container_of (map view items))) (sym here)
    ∙ l.invariant
