use Rattle.std.proofs.Common.{◌≡◌, ◌∙◌, ◌+◌, ap, sym, subst, Ok, List, ℕ, [], length, map, drop, slice_get, slice_set, Some, Option, unwrap_or, refl, arith, rules}
use Rattle.std.specs.List.{zip}
use Rattle.std.proofs.lemmas.Result.{err_from_is_err_and}
use Rattle.std.proofs.lemmas.Option.{slice_get_read}
use Rattle.tree_base.specs.declared.Tree.{Tree, Map, Null}
use Rattle.tree_base.specs.declared.Step.TheVariants.{Index}
use Rattle.merge_tables.specs.declared.rules.Standing.TheVariants.{Item}
use Rattle.merge_tables.specs.Answers.{place, turned, under}
use Rattle.merge_rules.specs.Overlay.{Lay, entries_laid, entries_over, entry_over, item_joined, items_joined, laid, layers}
use Rattle.attribute_paths.specs.Patterns.{below_key}
use Rattle.merge_tables.specs.Spots.{rules_of}
use Rattle.merge_tables.specs.Parts.{or_null}
use Rattle.merge_tables.proofs.Answering.{fails_on, goes_on, same_fails}
use Rattle.attribute_paths.proofs.Walks.{entry_next, item_next, no_entry, set_twice}
use Rattle.merge_rules.specs.Marks.{AreNoted}
use Rattle.merge_rules.proofs.EntryPlaces.{set_noted}
use Rattle.merge_rules.proofs.Laying.{entry_goes, item_fails, map_goes, map_lays}
use Rattle.merge_rules.proofs.layers.+lay.Goals as goal

pub lay_parts-returns-in-Map : goal.lay_parts-returns-in-Map
lay_parts-returns-in-Map t c =
    let lines = rules_of c.args.spot in
    let opens : laid c.args.over.now c.args.standing lines c.args.base ≡ entries_laid lines (layers c.get.result.now) c.args.base =
    ap (λ (tree : Tree). laid tree c.args.standing lines c.args.base) c.in-Map.is
    ∙ map_lays c.args.standing lines c.args.base c.in-Map.entries
    ∙ ap (λ (es : List (List ℕ × Tree)). entries_laid lines (layers es) c.args.base) (sym c.get.ensures) in
    rw opens c.lay_map.ensures

pub lay_map-returns-in_err-all : goal.lay_map-returns-in_err-all
lay_map-returns-in_err-all t c =
    let lines = rules_of c.args.spot in
    let p = err_from_is_err_and c.from_residual-in_err-all.result c.from_residual-in_err-all.ensures.1 in
    let e = turned c.in_err-all.field-0.0 in
    rw (p.1, p.2) (same_fails e _ _ (sym (map_goes lines c.args.entries.now c.keys.result.now c.values.result.now c.args.base c.in_ok-below.below c.keys.ensures c.values.ensures c.in_ok-below.ensures))
    (fails_on e (entries_over lines (zip c.keys.result.now (map laid c.values.result.now)) c.in_ok-below.below) (λ all. Ok (Some (Map all))) c.in_err-all.ensures))

pub lay_map-returns : goal.lay_map-returns
lay_map-returns t c =
    let lines = rules_of c.args.spot in
    map_goes lines c.args.entries.now c.keys.result.now c.values.result.now c.args.base c.in_ok-below.below c.keys.ensures c.values.ensures c.in_ok-below.ensures
    ∙ goes_on _ (λ all. Ok (Some (Map all))) c.in_ok-all.all c.in_ok-all.ensures
    ∙ ap (λ (tree : Tree). Ok (Some tree)) (sym c.in_ok-mapping.ensures)

pub lay_entry-returns : goal.lay_entry-returns
lay_entry-returns t c =
    let base = c.args.base in
    let k = c.args.key.now in
    let lines = rules_of c.args.spot in
    entry_goes lines (rules_of c.spot_below.result) base k c.args.value.now c.in_ok-old.old c.in_ok-new.new c.in_ok-old.ensures.value
    (c.spot_below.ensures ∙ ap (λ (q : List ℕ). below_key q lines) c.as_str.ensures.value)
    c.in_ok-new.ensures
    ∙ ap Ok (sym (c.in_ok-put_value.ensures ∙ c.in_ok-old.ensures.left c.in_ok-new.new))

pub lay_entries-returns-in_err-all : goal.lay_entries-returns-in_err-all
lay_entries-returns-in_err-all t c =
    let lines = rules_of c.args.spot in
    let keys = c.args.keys.now in
    let values = c.args.values.now in
    let l = c.loop-at in
    let key = c.index-keys-at.result in
    let value = c.index-values-at.result in
    let same : length keys ≡ length values = search rules in
    let k : slice_get keys l.at ≡ Some key = slice_get_read keys (length keys) l.at key refl (omega arith) c.index-keys-at.is in
    let v : slice_get values l.at ≡ Some value = slice_get_read values (length values) l.at value refl (omega arith) c.index-values-at.is in
    let next = entry_next laid keys values l.at key value k v in
    let p = err_from_is_err_and c.from_residual.result c.from_residual.ensures.1 in
    let e = turned c.in_err-all.field-0.0 in
    rw (p.1, p.2) (same_fails e _ _ (sym (ap (λ (es : List (List ℕ × Lay)). entries_over lines es l.all) next) ∙ l.invariant)
    (fails_on e (entry_over lines l.all (key, laid value)) (entries_over lines (drop (l.at + 1) (zip keys (map laid values)))) c.in_err-all.ensures))

pub lay_entries-loop-at-preserved : goal.lay_entries-loop-at-preserved
lay_entries-loop-at-preserved t c =
    let lines = rules_of c.args.spot in
    let keys = c.args.keys.now in
    let values = c.args.values.now in
    let l = c.loop-at in
    let key = c.index-keys-at.result in
    let value = c.index-values-at.result in
    let same : length keys ≡ length values = search rules in
    let k : slice_get keys l.at ≡ Some key = slice_get_read keys (length keys) l.at key refl (omega arith) c.index-keys-at.is in
    let v : slice_get values l.at ≡ Some value = slice_get_read values (length values) l.at value refl (omega arith) c.index-values-at.is in
    let next = entry_next laid keys values l.at key value k v in
    sym (goes_on (entry_over lines l.all (key, laid value)) (entries_over lines (drop (l.at + 1) (zip keys (map laid values)))) c.in_ok-all.all c.in_ok-all.ensures)
    ∙ sym (ap (λ (es : List (List ℕ × Lay)). entries_over lines es l.all) next) ∙ l.invariant

pub lay_entries-returns : goal.lay_entries-returns
lay_entries-returns t c =
    let lines = rules_of c.args.spot in
    let l = c.loop-at in
    sym l.invariant ∙ ap (λ (es : List (List ℕ × Lay)). entries_over lines es l.all) (no_entry laid c.args.keys.now c.args.values.now l.at (omega arith))

pub lay_items-returns-in_err-all : goal.lay_items-returns-in_err-all
lay_items-returns-in_err-all t c =
    let joining = c.args.joining in
    let items = c.args.items.now in
    let l = c.loop-item in
    let item = c.item-item.result in
    let at : slice_get items l.item-index ≡ Some item = slice_get_read items (length items) l.item-index item refl (omega arith) c.item-item.is in
    let next = item_next laid items l.item-index item at in
    let p = err_from_is_err_and c.from_residual-in_err-all.result c.from_residual-in_err-all.ensures.1 in
    let e = turned c.in_err-all.field-0.0 in
    rw (p.1, p.2) (same_fails e _ _ (sym (ap (λ (ls : List Lay). items_joined joining ls l.all) next) ∙ l.invariant.0)
    (fails_on e (item_joined joining l.all (laid item)) (items_joined joining (drop (l.item-index + 1) (map laid items))) c.in_err-all.ensures.joins))

pub lay_items-loop-item-preserved : goal.lay_items-loop-item-preserved
lay_items-loop-item-preserved t c =
    let joining = c.args.joining in
    let items = c.args.items.now in
    let l = c.loop-item in
    let item = c.item-item.result in
    let at : slice_get items l.item-index ≡ Some item = slice_get_read items (length items) l.item-index item refl (omega arith) c.item-item.is in
    let next = item_next laid items l.item-index item at in
    let rest = drop (l.item-index + 1) (map laid items) in (
      sym (goes_on (item_joined joining l.all (laid item)) (items_joined joining rest) c.in_ok-all.all c.in_ok-all.ensures.joins)
          ∙ sym (ap (λ (ls : List Lay). items_joined joining ls l.all) next) ∙ l.invariant.0,
      c.in_ok-all.ensures.noted,
    )

pub lay_item-returns-in_err-entry-clause-joins : goal.lay_item-returns-in_err-entry-clause-joins
lay_item-returns-in_err-entry-clause-joins t c =
    let p = err_from_is_err_and c.from_residual.result c.from_residual.ensures.1 in
    let e = turned c.in_err-entry.field-0.0 in
    rw (p.1, p.2) (item_fails c.args.joining c.args.items (laid c.args.item.now) e c.in_err-entry.ensures)

pub merge_at-returns-in_ok-note-in-Ok-clause-joins : goal.merge_at-returns-in_ok-note-in-Ok-clause-joins
merge_at-returns-in_ok-note-in-Ok-clause-joins t c =
    let items = c.args.items in
    let at = c.args.at in
    let lay = laid c.args.item.now in
    let old : or_null (slice_get items at) ≡ c.replace-old.result = ap or_null c.replace-old.ensures.old in
    let got : under (Index (place at)) (lay Item [] (or_null (slice_get items at))) ≡ Ok c.in-Ok.merged =
    ap (λ (o : Tree). under (Index (place at)) (lay Item [] o)) old ∙ c.in-Ok.ensures in
    goes_on _ (λ (merged : Option Tree). Ok (slice_set items at (unwrap_or merged c.args.entry))) c.in-Ok.merged got
    ∙ ap Ok (sym (c.replace.ensures.new ∙ (λ i. slice_set (c.replace-old.ensures.new i) at (c.unwrap_or-merged.ensures i)) ∙ set_twice items at Null (unwrap_or c.in-Ok.merged c.args.entry)))

pub merge_at-returns-in_ok-note-in-Ok-clause-noted : goal.merge_at-returns-in_ok-note-in-Ok-clause-noted
merge_at-returns-in_ok-note-in-Ok-clause-noted t c =
    let items = c.args.items in
    let at = c.args.at in
    let merged = c.unwrap_or-merged.result in
    subst (AreNoted c.args.kind c.note.new.firsts)
    (sym (c.replace.ensures.new ∙ ap (λ (l : List Tree). slice_set l at merged) c.replace-old.ensures.new ∙ set_twice items at Null merged))
    (set_noted c.args.kind c.args.firsts.now c.note.new.firsts c.note.ensures.stays items at merged c.requires.noted c.in_ok-note-in-Ok.ensures.noted)

pub merge_at-returns-in-Err-clause-joins : goal.merge_at-returns-in-Err-clause-joins
merge_at-returns-in-Err-clause-joins t c =
    let items = c.args.items in
    let at = c.args.at in
    let lay = laid c.args.item.now in
    let e = turned c.in-Err.refusal in
    fails_on e (under (Index (place at)) (lay Item [] (or_null (slice_get items at)))) (λ (merged : Option Tree). Ok (slice_set items at (unwrap_or merged c.args.entry)))
    (same_fails e _ _ (ap (λ (o : Tree). under (Index (place at)) (lay Item [] o)) (sym (ap or_null c.replace-old.ensures.old))) c.in-Err.ensures)
