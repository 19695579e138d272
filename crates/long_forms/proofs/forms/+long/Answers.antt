use Rattle.std.proofs.Common.{◌≡◌, ◌∙◌, ◌+◌, ◌<◌, ap, sym, subst, Ok, List, ℕ, length, map, take, drop, slice_get, Some, Option, Result, refl, arith, rules}
use Rattle.std.specs.List.{zip}
use Rattle.std.specs.Map.{values_of}
use Rattle.std.proofs.lemmas.Result.{err_from_is_err_and}
use Rattle.std.proofs.lemmas.List.{length-set, take_all, take_more_set}
use Rattle.std.proofs.lemmas.Option.{slice_get_read}
use Rattle.tree_base.specs.declared.Tree.{Tree, Map, Null, size-Tree}
use Rattle.merge_tables.specs.declared.refusal.MergeRefusal.{MergeRefusal}
use Rattle.merge_tables.specs.declared.rules.ShortForm.{ShortForm}
use Rattle.merge_tables.specs.Answers.{UpGives, turned}
use Rattle.long_forms.specs.LongForms.{lengthened, list_long, values_long}
use Rattle.merge_tables.specs.Spots.{forms_of}
use Rattle.merge_tables.proofs.Answering.{same_fails}
use Rattle.attribute_paths.proofs.Places.{all_below, behind_stays, item_below, put_back}
use Rattle.attribute_paths.proofs.Walks.{entry_next, no_entry}
use Rattle.long_forms.proofs.Lengthening.{map_done, map_fails, seq_long, values_fail, values_go}
use Rattle.long_forms.proofs.forms.+long.Goals as goal

pub lengthen_values-lengthen_value-requires : goal.lengthen_values-lengthen_value-requires
lengthen_values-lengthen_value-requires t c =
    let l = c.loop-at in
    let value = c.replace-value.result in
    (item_below size-Tree c.args.values l.at value t 1 2 (sym (l.invariant.rest l.at (omega arith)) ∙ c.replace-value.ensures.old) c.decreases (omega arith), tt)

pub lengthen_map-lengthen_values-requires : goal.lengthen_map-lengthen_values-requires
lengthen_map-lengthen_values-requires t c = (all_below size-Tree c.into_parts-keys.result.1 (values_of c.args.entries) t 2 3 c.into_parts-keys.ensures.values c.decreases (omega arith), ap length c.as_slice.ensures.keys ∙ c.into_parts-keys.ensures.length)

pub lengthen-returns-in-Seq : goal.lengthen-returns-in-Seq
lengthen-returns-in-Seq t c =
    let lines = forms_of c.args.spot in
    subst (λ (a : Result Tree MergeRefusal). UpGives c.list_long.result a)
    (ap (λ (form : Option ShortForm). list_long form c.in-Seq.items) c.form_at-form.ensures ∙ sym (seq_long c.in-Seq.items lines) ∙ ap (λ (tree : Tree). lengthened tree lines) (sym c.in-Seq.is))
    c.list_long.ensures

pub lengthen_values-returns-in_err-made-clause-value : goal.lengthen_values-returns-in_err-made-clause-value
lengthen_values-returns-in_err-made-clause-value t c =
    let a = c.args in
    let l = c.loop-at in
    let lines = forms_of a.spot in
    let key = c.index-keys-at.result in
    let value = c.replace-value.result in
    let k : slice_get a.keys.now l.at ≡ Some key = slice_get_read a.keys.now (length a.keys.now) l.at key refl (omega arith) c.index-keys-at.is in
    let v : slice_get a.values l.at ≡ Some value = sym (l.invariant.rest l.at (omega arith)) ∙ c.replace-value.ensures.old in
    let next = entry_next lengthened a.keys.now a.values l.at key value k v in
    let p = err_from_is_err_and c.from_residual.result c.from_residual.ensures.1 in
    let e = turned c.in_err-made.field-0.0 in
    rw (p.1, p.2) (same_fails e _ _ (sym (ap (values_long lines (take l.at l.done)) next) ∙ l.invariant.value)
    (values_fail lines (take l.at l.done) key value (drop (l.at + 1) (zip a.keys.now (map lengthened a.values))) e c.in_err-made.ensures))

pub lengthen_values-loop-at-preserved : goal.lengthen_values-loop-at-preserved
lengthen_values-loop-at-preserved t c =
    let a = c.args in
    let l = c.loop-at in
    let lines = forms_of a.spot in
    let key = c.index-keys-at.result in
    let value = c.replace-value.result in
    let made = c.in_ok-made.made in
    let within : l.at < length l.done = search rules in
    let k : slice_get a.keys.now l.at ≡ Some key = slice_get_read a.keys.now (length a.keys.now) l.at key refl (omega arith) c.index-keys-at.is in
    let v : slice_get a.values l.at ≡ Some value = sym (l.invariant.rest l.at (omega arith)) ∙ c.replace-value.ensures.old in
    let next = entry_next lengthened a.keys.now a.values l.at key value k v in
    let rest = drop (l.at + 1) (zip a.keys.now (map lengthened a.values)) in
    let put = put_back l.done c.replace-value.new.self c.replace.new.self l.at Null made c.replace-value.ensures.new c.replace.ensures.new in
    record {
      len = ap length put ∙ length-set l.done l.at made ∙ l.invariant.len;
      rest = λ i h. ap (λ (done : List Tree). slice_get done i) put ∙ behind_stays l.done l.at i made (omega arith) ∙ l.invariant.rest i (omega arith);
      value = ap (λ (done : List Tree). values_long lines (take (l.at + 1) done) rest) put
          ∙ ap (λ (done : List Tree). values_long lines done rest) (take_more_set l.done l.at made within)
          ∙ sym (values_go lines (take l.at l.done) key value made rest c.in_ok-made.ensures)
          ∙ sym (ap (values_long lines (take l.at l.done)) next) ∙ l.invariant.value;
    }

pub lengthen_values-returns-clause-value : goal.lengthen_values-returns-clause-value
lengthen_values-returns-clause-value t c =
    let a = c.args in
    let l = c.loop-at in
    let none = no_entry lengthened a.keys.now a.values l.at (omega arith) in
    sym l.invariant.value ∙ ap (values_long (forms_of a.spot) (take l.at l.done)) none ∙ ap Ok (take_all l.at l.done (search rules))

pub lengthen_map-returns-in_err-done : goal.lengthen_map-returns-in_err-done
lengthen_map-returns-in_err-done t c =
    let a = c.args in
    let p = err_from_is_err_and c.from_residual.result c.from_residual.ensures.1 in
    let e = turned c.in_err-done.field-0.0 in
    rw (p.1, p.2) (map_fails a.entries c.as_slice.result.now c.into_parts-keys.result.1 (forms_of a.spot)
    (c.as_slice.ensures.keys ∙ c.into_parts-keys.ensures.keys) c.into_parts-keys.ensures.values e c.in_err-done.ensures.value)

pub lengthen_map-returns : goal.lengthen_map-returns
lengthen_map-returns t c =
    let a = c.args in
    let done = c.in_ok-done.done in
    let entries = c.from_parts.ensures ∙ ap (λ (keys : List (List ℕ)). zip keys done) c.into_parts-keys.ensures.keys in
    map_done a.entries c.as_slice.result.now c.into_parts-keys.result.1 (forms_of a.spot)
    (c.as_slice.ensures.keys ∙ c.into_parts-keys.ensures.keys) c.into_parts-keys.ensures.values done c.in_ok-done.ensures.value
    ∙ ap (λ (es : List (List ℕ × Tree)). Ok (Map es)) (sym entries)
    ∙ ap Ok (sym c.in_ok-mapping.ensures)
