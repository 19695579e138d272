use Rattle.std.proofs.Common.{◌≡◌, ◌∙◌, ap, sym, subst, refl, [], Ok, Some, List, ℕ, length, map, slice_get, arith, rules}
use Rattle.std.proofs.lemmas.Option.{slice_get_read}
use Rattle.attribute_paths.specs.Patterns.{below_key, here}
use Rattle.tree_base.specs.declared.Tree.{Tree}
use Rattle.file_paths.specs.PathRules.{PathRules}
use Rattle.file_paths.specs.Resolving.{Entries, entries_homed, items_homed, resolved_by}
use Rattle.file_paths.specs.Spots.{rules_of}
use Rattle.file_paths.specs.declared.spot.PathKind.{PathKind}
use Rattle.file_paths.specs.declared.spot.PathSpot.{PathSpot}
use Rattle.std.proofs.Common.{Option}
use Rattle.file_paths.proofs.KeptSteps.{item_keeps, items_keep, map_keeps, override_keeps, value_keeps, values_keep}
use Rattle.file_paths.proofs.Walking.{seq_done, stays}
use Rattle.file_paths.proofs.kept.+keeps.Goals as goal

pub keeps-returns-in-Plain : goal.keeps-returns-in-Plain
keeps-returns-in-Plain t c is home =
    let tree = c.args.tree.now in
    ap (λ (s : PathSpot). resolved_by home tree (rules_of s)) c.in-Plain.is ∙ stays home tree

pub keeps_items-loop-item-preserved : goal.keeps_items-loop-item-preserved
keeps_items-loop-item-preserved t c = λ home.
    let items = c.args.items.now in
    let l = c.loop-item in
    let item = c.item-item.result in
    let at : slice_get items l.item-index ≡ Some item = slice_get_read items (length items) l.item-index item refl (omega arith) c.item-item.is in
    item_keeps home (rules_of c.args.spot) items l.item-index item at (c.if-not-keeps.ensures refl home) ∙ l.invariant home

pub keeps_items-returns : goal.keeps_items-returns
keeps_items-returns t c is home =
    sym (c.loop-item.invariant home) ∙ items_keep home (rules_of c.args.spot) c.args.items.now c.loop-item.item-index (omega arith)

pub keeps_values-loop-at-preserved : goal.keeps_values-loop-at-preserved
keeps_values-loop-at-preserved t c = λ home.
    let lines = rules_of c.args.spot in
    let keys = c.args.keys.now in
    let values = c.args.values.now in
    let l = c.loop-at in
    let key = c.index-keys-at.result in
    let value = c.index-values-at.result in
    let same : length keys ≡ length values = search rules in
    let k : slice_get keys l.at ≡ Some key = slice_get_read keys (length keys) l.at key refl (omega arith) c.index-keys-at.is in
    let v : slice_get values l.at ≡ Some value = slice_get_read values (length values) l.at value refl (omega arith) c.index-values-at.is in
    let below = c.spot_below.ensures ∙ ap (λ (q : List ℕ). below_key q lines) c.as_str.ensures.value in
    value_keeps home lines keys values l.at key value k v (subst (λ (at : PathRules). resolved_by home value at ≡ Ok value) below (c.if-not-keeps.ensures refl home))
    ∙ l.invariant home

pub keeps_values-returns : goal.keeps_values-returns
keeps_values-returns t c is home =
    sym (c.loop-at.invariant home) ∙ values_keep home (rules_of c.args.spot) c.args.keys.now c.args.values.now c.loop-at.at (omega arith)

pub keeps_parts-returns-then-keeps_entries : goal.keeps_parts-returns-then-keeps_entries
keeps_parts-returns-then-keeps_entries t c is home =
    let lines = rules_of c.args.spot in
    let own : (all : Entries) → entries_homed home (here lines) all ≡ Ok all =
    λ all. ap (λ (kind : Option PathKind). entries_homed home kind all) (sym c.kind_at-in-Map.ensures) ∙ c.if-keeps_entries.ensures refl home all in
    subst (λ (tree : Tree). resolved_by home tree lines ≡ Ok tree) (sym c.in-Map.is)
    (map_keeps home lines c.in-Map.entries c.keys.result.now c.values.result.now c.keys.ensures c.values.ensures own (c.keeps_values.ensures is home))

pub keeps_parts-returns-in-Seq : goal.keeps_parts-returns-in-Seq
keeps_parts-returns-in-Seq t c is home =
    let lines = rules_of c.args.spot in
    let items = c.in-Seq.items in
    let kept = subst (λ (xs : List Tree). items_homed (rules_of c.spot_of_items.result) [] (map (resolved_by home) xs) ≡ Ok xs) c.as_slice.ensures (c.keeps_items.ensures is home) in
    subst (λ (tree : Tree). resolved_by home tree lines ≡ Ok tree) (sym c.in-Seq.is)
    (seq_done home items lines items (subst (λ (ls : PathRules). items_homed ls [] (map (resolved_by home) items) ≡ Ok items) c.spot_of_items.ensures kept))

pub keeps_parts-returns-in-Override : goal.keeps_parts-returns-in-Override
keeps_parts-returns-in-Override t c is home =
    let lines = rules_of c.args.spot in
    let kept = subst (λ (tree : Tree). resolved_by home tree lines ≡ Ok tree) c.get.ensures (c.keeps.ensures is home) in
    subst (λ (tree : Tree). resolved_by home tree lines ≡ Ok tree) (sym c.in-Override.is) (override_keeps home lines c.in-Override.inner kept)
