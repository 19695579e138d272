use Rattle.std.proofs.Common.{◌≡◌, ◌∙◌, ap, sym, subst, refl, Ok, Some, Option, List, ℕ, length, slice_get, arith, rules}
use Rattle.std.proofs.lemmas.Option.{slice_get_read}
use Rattle.attribute_paths.specs.Patterns.{below_key}
use Rattle.tree_base.specs.declared.Tree.{Tree, Seq}
use Rattle.merge_tables.specs.declared.rules.ShortForm.{ShortForm}
use Rattle.merge_tables.specs.declared.short_spot.ShortSpot.{ShortSpot}
use Rattle.merge_tables.specs.Attributes.{ShortRules}
use Rattle.long_forms.specs.LongForms.{lengthened, list_long}
use Rattle.merge_tables.specs.Spots.{forms_of}
use Rattle.long_forms.proofs.Lengthening.{seq_long, stays}
use Rattle.long_forms.proofs.StayLongSteps.{long_map, long_value, long_values}
use Rattle.long_forms.proofs.stay_long.+stays.Goals as goal

pub are_long-loop-at-preserved : goal.are_long-loop-at-preserved
are_long-loop-at-preserved t c =
    let lines = forms_of c.args.spot in
    let keys = c.args.keys.now in
    let values = c.args.values.now in
    let l = c.loop-at in
    let key = c.index-keys-at.result in
    let value = c.index-values-at.result in
    let same : length keys ≡ length values = search rules in
    let k : slice_get keys l.at ≡ Some key = slice_get_read keys (length keys) l.at key refl (omega arith) c.index-keys-at.is in
    let v : slice_get values l.at ≡ Some value = slice_get_read values (length values) l.at value refl (omega arith) c.index-values-at.is in
    let below = c.short_spot_below.ensures ∙ ap (λ (q : List ℕ). below_key q lines) c.as_str.ensures.value in
    long_value lines keys values l.at key value k v (subst (λ (at : ShortRules). lengthened value at ≡ Ok value) below (c.if-not-is_long.ensures refl))
    ∙ l.invariant

pub are_long-returns : goal.are_long-returns
are_long-returns t c is =
    sym c.loop-at.invariant ∙ long_values (forms_of c.args.spot) c.args.keys.now c.args.values.now c.loop-at.at c.loop-at-test.false

pub has_long_parts-returns-in-Map : goal.has_long_parts-returns-in-Map
has_long_parts-returns-in-Map t c is =
    let lines = forms_of c.args.spot in
    subst (λ (tree : Tree). lengthened tree lines ≡ Ok tree) (sym c.in-Map.is)
    (long_map lines c.in-Map.entries c.keys.result.now c.values.result.now c.keys.ensures c.values.ensures (c.are_long.ensures is))

pub has_long_parts-returns-in-Seq : goal.has_long_parts-returns-in-Seq
has_long_parts-returns-in-Seq t c is =
    let lines = forms_of c.args.spot in
    let kept = subst (λ (xs : List Tree). list_long c.form_at-in-Seq.result xs ≡ Ok (Seq xs)) c.as_slice.ensures (c.keeps_items.ensures is) in
    subst (λ (tree : Tree). lengthened tree lines ≡ Ok tree) (sym c.in-Seq.is)
    (seq_long c.in-Seq.items lines ∙ ap (λ (form : Option ShortForm). list_long form c.in-Seq.items) (sym c.form_at-in-Seq.ensures) ∙ kept)

pub is_long-returns-in-Plain : goal.is_long-returns-in-Plain
is_long-returns-in-Plain t c is =
    let tree = c.args.tree.now in
    ap (λ (s : ShortSpot). lengthened tree (forms_of s)) c.in-Plain.is ∙ stays tree
