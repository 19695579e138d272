use Rattle.std.proofs.Common.{[], ◌≡◌, ◌∙◌, ap, sym, subst, refl, Ok, Some, List, ℕ, length, slice_get, arith}
use Rattle.std.proofs.lemmas.Option.{slice_get_read}
use Rattle.attribute_paths.specs.Patterns.{below_key}
use Rattle.merge_tables.specs.Attributes.{JoiningRules}
use Rattle.tree_base.specs.declared.Tree.{Tree}
use Rattle.merge_rules.specs.Alone.{StandsAlone}
use Rattle.merge_rules.specs.Overlay.{entries_over, layers}
use Rattle.merge_tables.specs.Spots.{rules_of}
use Rattle.merge_rules.proofs.AloneSteps.{entries_stay, item_stays, map_stays, value_stays, values_stay}
use Rattle.merge_rules.proofs.alone.+alone.Goals as goal

pub map_stands-returns-else-len-eq0 : goal.map_stands-returns-else-len-eq0
map_stands-returns-else-len-eq0 t c is =
    entries_stay (rules_of c.args.spot) c.args.entries.now c.keys.result.now c.values.result.now c.keys.ensures c.values.ensures (c.values_stand.ensures is)

pub stands-returns-in-Map : goal.stands-returns-in-Map
stands-returns-in-Map t c is =
    let lines = rules_of c.args.spot in
    let stays = subst (λ (es : List (List ℕ × Tree)). entries_over lines (layers es) [] ≡ Ok es) c.get.ensures (c.map_stands.ensures is) in
    subst (StandsAlone lines) (sym c.in-Map.is) (map_stays lines c.in-Map.entries stays)

pub items_stand-loop-at-preserved : goal.items_stand-loop-at-preserved
items_stand-loop-at-preserved t c =
    let items = c.args.items.now in
    let l = c.loop-at in
    let item = c.index-items-at.result in
    let at : slice_get items l.at ≡ Some item = slice_get_read items (length items) l.at item refl (omega arith) c.index-items-at.is in
    item_stays c.args.joining items l.at item at (c.if-not-stands.ensures refl) (c.if-not-is_new.ensures refl) ∙ l.invariant

pub values_stand-loop-at-preserved : goal.values_stand-loop-at-preserved
values_stand-loop-at-preserved t c =
    let lines = rules_of c.args.spot in
    let keys = c.args.keys.now in
    let values = c.args.values.now in
    let l = c.loop-at in
    let key = c.index-keys-at.result in
    let value = c.index-values-at.result in
    let same = c.requires.same in
    let k : slice_get keys l.at ≡ Some key = slice_get_read keys (length keys) l.at key refl (omega arith) c.index-keys-at.is in
    let v : slice_get values l.at ≡ Some value = slice_get_read values (length values) l.at value refl (omega arith) c.index-values-at.is in
    let below = c.spot_below.ensures ∙ ap (λ (q : List ℕ). below_key q lines) c.as_str.ensures.value in
    value_stays lines keys values l.at key value c.requires.distinct k v (subst (λ (at : JoiningRules). StandsAlone at value) below (c.if-not-stands.ensures refl))
    ∙ l.invariant

pub values_stand-returns : goal.values_stand-returns
values_stand-returns t c is =
    sym c.loop-at.invariant ∙ values_stay (rules_of c.args.spot) c.args.keys.now c.args.values.now c.loop-at.at c.loop-at-test.false
