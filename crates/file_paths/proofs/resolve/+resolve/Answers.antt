use Rattle.std.proofs.Common.{◌≡◌, ◌∙◌, ◌+◌, ◌<◌, [], ap, sym, Ok, List, ℕ, length, map, take, drop, slice_get, Some, refl, arith, rules}
use Rattle.std.specs.List.{zip}
use Rattle.std.specs.Map.{keys_of}
use Rattle.std.proofs.lemmas.Result.{err_from_is_err_and}
use Rattle.std.proofs.lemmas.List.{length-set, take_all, take_more_set}
use Rattle.std.proofs.lemmas.Option.{slice_get_read}
use Rattle.file_paths.specs.Paths.{homed}
use Rattle.attribute_paths.specs.Patterns.{below_key, here}
use Rattle.attribute_paths.proofs.Walks.{entry_next, item_next, no_entry}
use Rattle.file_paths.specs.PathRules.{PathRules}
use Rattle.file_paths.specs.Resolving.{entries_homed, items_homed, resolved_by, values_homed}
use Rattle.file_paths.specs.Spots.{rules_of}
use Rattle.attribute_paths.proofs.Places.{behind_stays, item_below, put_back}
use Rattle.file_paths.proofs.Walking.{items_fail, items_go, map_done, map_fails, mount_fails, same_fails, seq_done, seq_fails, values_fail, values_go}
use Rattle.tree_base.specs.declared.Tree.{Tree, Null, size-Tree}
use Rattle.file_paths.proofs.resolve.+resolve.Goals as goal

pub resolve_values-resolve-requires : goal.resolve_values-resolve-requires
resolve_values-resolve-requires t c =
    let l = c.loop-at in
    let value = c.replace-value.result in
    (item_below size-Tree c.args.values l.at value t 1 2 (sym (l.invariant.rest l.at (omega arith)) ∙ c.replace-value.ensures.old) c.decreases (omega arith), tt)

pub resolve_items-resolve-requires : goal.resolve_items-resolve-requires
resolve_items-resolve-requires t c =
    let l = c.loop-at in
    let item = c.replace-item.result in
    (item_below size-Tree c.args.items l.at item t 1 2 (sym (l.invariant.rest l.at (omega arith)) ∙ c.replace-item.ensures.old) c.decreases (omega arith), tt)

pub resolve_values-returns-in_err-made-clause-value : goal.resolve_values-returns-in_err-made-clause-value
resolve_values-returns-in_err-made-clause-value t c =
    let a = c.args in
    let l = c.loop-at in
    let home = homed a.directory.now a.env.now in
    let whole = resolved_by home in
    let lines = rules_of a.spot in
    let key = c.index-keys-at.result in
    let value = c.replace-value.result in
    let k : slice_get a.keys.now l.at ≡ Some key = slice_get_read a.keys.now (length a.keys.now) l.at key refl (omega arith) c.index-keys-at.is in
    let v : slice_get a.values l.at ≡ Some value = sym (l.invariant.rest l.at (omega arith)) ∙ c.replace-value.ensures.old in
    let next = entry_next whole a.keys.now a.values l.at key value k v in
    let below = c.spot_below-below.ensures ∙ ap (λ (text : List ℕ). below_key text lines) c.as_str.ensures.value in
    let p = err_from_is_err_and c.from_residual.result c.from_residual.ensures.1 in
    let e = c.in_err-made.field-0.0 in
    rw (p.1, p.2) (same_fails e _ _ (sym (ap (values_homed lines (take l.at l.done)) next) ∙ l.invariant.value)
    (values_fail home lines (take l.at l.done) key value (drop (l.at + 1) (zip a.keys.now (map whole a.values))) e
    (same_fails e _ _ (ap (whole value) below) c.in_err-made.ensures)))

pub resolve_values-loop-at-preserved : goal.resolve_values-loop-at-preserved
resolve_values-loop-at-preserved t c =
    let a = c.args in
    let l = c.loop-at in
    let home = homed a.directory.now a.env.now in
    let whole = resolved_by home in
    let lines = rules_of a.spot in
    let key = c.index-keys-at.result in
    let value = c.replace-value.result in
    let made = c.in_ok-made.made in
    let within : l.at < length l.done = search rules in
    let k : slice_get a.keys.now l.at ≡ Some key = slice_get_read a.keys.now (length a.keys.now) l.at key refl (omega arith) c.index-keys-at.is in
    let v : slice_get a.values l.at ≡ Some value = sym (l.invariant.rest l.at (omega arith)) ∙ c.replace-value.ensures.old in
    let next = entry_next whole a.keys.now a.values l.at key value k v in
    let below = c.spot_below-below.ensures ∙ ap (λ (text : List ℕ). below_key text lines) c.as_str.ensures.value in
    let rest = drop (l.at + 1) (zip a.keys.now (map whole a.values)) in
    let put = put_back l.done c.replace-value.new.self c.replace.new.self l.at Null made c.replace-value.ensures.new c.replace.ensures.new in
    record {
      len = ap length put ∙ length-set l.done l.at made ∙ l.invariant.len;
      rest = λ i h. ap (λ (done : List Tree). slice_get done i) put ∙ behind_stays l.done l.at i made (omega arith) ∙ l.invariant.rest i (omega arith);
      value = ap (λ (done : List Tree). values_homed lines (take (l.at + 1) done) rest) put
          ∙ ap (λ (done : List Tree). values_homed lines done rest) (take_more_set l.done l.at made within)
          ∙ sym (values_go home lines (take l.at l.done) key value made rest (sym (ap (whole value) below) ∙ c.in_ok-made.ensures))
          ∙ sym (ap (values_homed lines (take l.at l.done)) next) ∙ l.invariant.value;
    }

pub resolve_values-returns-clause-value : goal.resolve_values-returns-clause-value
resolve_values-returns-clause-value t c =
    let a = c.args in
    let l = c.loop-at in
    let none = no_entry (resolved_by (homed a.directory.now a.env.now)) a.keys.now a.values l.at (omega arith) in
    sym l.invariant.value ∙ ap (values_homed (rules_of a.spot) (take l.at l.done)) none ∙ ap Ok (take_all l.at l.done (search rules))

pub resolve_map-returns-in_err-done : goal.resolve_map-returns-in_err-done
resolve_map-returns-in_err-done t c =
    let a = c.args in
    let p = err_from_is_err_and c.from_residual.result c.from_residual.ensures.1 in
    rw (p.1, p.2) (map_fails (homed a.directory.now a.env.now) a.entries c.as_slice.result.now c.into_parts-keys.result.1 (rules_of a.spot)
    (c.as_slice.ensures.keys ∙ c.into_parts-keys.ensures.keys) c.into_parts-keys.ensures.values
    c.in_err-done.field-0.0 c.in_err-done.ensures.value)

pub resolve_map-returns-in_err-whole : goal.resolve_map-returns-in_err-whole
resolve_map-returns-in_err-whole t c =
    let a = c.args in
    let home = homed a.directory.now a.env.now in
    let rules = rules_of a.spot in
    let done = c.in_ok-done.done in
    let kind = c.kind_at.ensures in
    let entries = c.from_parts-all.ensures ∙ ap (λ (keys : List (List ℕ)). zip keys done) c.into_parts-keys.ensures.keys in
    let e = c.in_err-whole.field-0.0 in
    let p = err_from_is_err_and c.from_residual-in_err-whole.result c.from_residual-in_err-whole.ensures.1 in
    rw (p.1, p.2) (mount_fails home a.entries c.as_slice.result.now c.into_parts-keys.result.1 rules
    (c.as_slice.ensures.keys ∙ c.into_parts-keys.ensures.keys) c.into_parts-keys.ensures.values e done c.in_ok-done.ensures.value
    (same_fails e _ _ (λ i. entries_homed home (kind i) (entries i)) c.in_err-whole.ensures))

pub resolve_map-returns : goal.resolve_map-returns
resolve_map-returns t c =
    let a = c.args in
    let home = homed a.directory.now a.env.now in
    let rules = rules_of a.spot in
    let done = c.in_ok-done.done in
    let kind = sym c.kind_at.ensures in
    let entries = sym (c.from_parts-all.ensures ∙ ap (λ (keys : List (List ℕ)). zip keys done) c.into_parts-keys.ensures.keys) in
    let there : entries_homed home (here rules) (zip (keys_of a.entries) done) ≡ Ok c.in_ok-whole.whole =
    (λ i. entries_homed home (kind i) (entries i)) ∙ c.in_ok-whole.ensures in
    map_done home a.entries c.as_slice.result.now c.into_parts-keys.result.1 rules
    (c.as_slice.ensures.keys ∙ c.into_parts-keys.ensures.keys) c.into_parts-keys.ensures.values done c.in_ok-whole.whole c.in_ok-done.ensures.value there
    ∙ ap Ok (sym c.in_ok-mapping.ensures)

pub resolve_seq-returns-in_err-all : goal.resolve_seq-returns-in_err-all
resolve_seq-returns-in_err-all t c =
    let a = c.args in
    let home = homed a.directory.now a.env.now in
    let e = c.in_err-all.field-0.0 in
    let p = err_from_is_err_and c.from_residual.result c.from_residual.ensures.1 in
    rw (p.1, p.2) (seq_fails home a.items (rules_of a.spot) e
    (same_fails e _ _ (ap (λ (lines : PathRules). items_homed lines [] (map (resolved_by home) a.items)) c.spot_of_items.ensures) c.in_err-all.ensures))

pub resolve_seq-returns : goal.resolve_seq-returns
resolve_seq-returns t c =
    let a = c.args in
    let home = homed a.directory.now a.env.now in
    seq_done home a.items (rules_of a.spot) c.in_ok-all.all (sym (ap (λ (lines : PathRules). items_homed lines [] (map (resolved_by home) a.items)) c.spot_of_items.ensures) ∙ c.in_ok-all.ensures)
    ∙ ap Ok (sym c.in_ok-sequence.ensures)

pub resolve_items-returns-in_err-made : goal.resolve_items-returns-in_err-made
resolve_items-returns-in_err-made t c =
    let a = c.args in
    let l = c.loop-at in
    let home = homed a.directory.now a.env.now in
    let whole = resolved_by home in
    let lines = rules_of a.spot in
    let item = c.replace-item.result in
    let v : slice_get a.items l.at ≡ Some item = sym (l.invariant.rest l.at (omega arith)) ∙ c.replace-item.ensures.old in
    let next = item_next whole a.items l.at item v in
    let p = err_from_is_err_and c.from_residual.result c.from_residual.ensures.1 in
    let e = c.in_err-made.field-0.0 in
    rw (p.1, p.2) (same_fails e _ _ (sym (ap (items_homed lines (take l.at l.done)) next) ∙ l.invariant.value)
    (items_fail home lines (take l.at l.done) item (drop (l.at + 1) (map whole a.items)) e c.in_err-made.ensures))

pub resolve_items-loop-at-preserved : goal.resolve_items-loop-at-preserved
resolve_items-loop-at-preserved t c =
    let a = c.args in
    let l = c.loop-at in
    let home = homed a.directory.now a.env.now in
    let whole = resolved_by home in
    let lines = rules_of a.spot in
    let item = c.replace-item.result in
    let made = c.in_ok-made.made in
    let within : l.at < length l.done = search rules in
    let v : slice_get a.items l.at ≡ Some item = sym (l.invariant.rest l.at (omega arith)) ∙ c.replace-item.ensures.old in
    let next = item_next whole a.items l.at item v in
    let rest = drop (l.at + 1) (map whole a.items) in
    let put = put_back l.done c.replace-item.new.self c.replace.new.self l.at Null made c.replace-item.ensures.new c.replace.ensures.new in
    record {
      len = ap length put ∙ length-set l.done l.at made ∙ l.invariant.len;
      rest = λ i h. ap (λ (done : List Tree). slice_get done i) put ∙ behind_stays l.done l.at i made (omega arith) ∙ l.invariant.rest i (omega arith);
      value = ap (λ (done : List Tree). items_homed lines (take (l.at + 1) done) rest) put
          ∙ ap (λ (done : List Tree). items_homed lines done rest) (take_more_set l.done l.at made within)
          ∙ sym (items_go home lines (take l.at l.done) item made rest c.in_ok-made.ensures)
          ∙ sym (ap (items_homed lines (take l.at l.done)) next) ∙ l.invariant.value;
    }
