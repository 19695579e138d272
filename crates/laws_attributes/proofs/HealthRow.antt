-- How health is asked is read again.
use Rattle.std.proofs.Common.{◌≡◌, ◌∙◌, ℕ, Bool, true, false, List, [], ◌∷◌, codes, Some, Ok, unwrap_or, refl, ap, sym, subst}
use Rattle.std.specs.Prelude.{Option}
use Rattle.std.specs.Option.{option_map}
use Rattle.short_forms.specs.Durations.{duration_of}
use Rattle.tree_base.specs.Answers.{◌>>=◌}
use Rattle.tree_base.specs.declared.tree.Tree.{Tree, out-Tree}
use Rattle.tree_base.specs.declared.tree.Tree.TheOpen.{Tree-F}
use Rattle.attribute_types.specs.Lookups.{as_bool, as_number, as_texts, bool_at, number_at, texts_at}
use Rattle.attribute_types.specs.Tables.{health_lines, line_of}
use Rattle.attribute_types.specs.Values.{value_at}
use Rattle.attribute_types.specs.declared.attribute.Attribute.{Attribute}
use Rattle.attribute_types.specs.declared.attribute.Value.{Value}
use Rattle.attribute_types.specs.declared.form.Plain.{Plain}
use Rattle.attribute_types.specs.declared.form.Row.{Row}
use Rattle.attribute_types.specs.declared.rows.HealthCheck.{HealthCheck}
use Rattle.attribute_scalars.specs.Lists.{as_test}
use Rattle.attribute_scalars.specs.Scalars.{bool_of, num_of, written}
use Rattle.attribute_scalars.specs.Walks.{Entries, Read}
use Rattle.attribute_values.specs.Fields.{fields_of}
use Rattle.attribute_values.specs.Forms.{test_of}
use Rattle.attribute_rows.specs.Rows.{check_from, check_or_none, health_from, health_of, in_mapping, no_check}
use Rattle.laws_attributes.proofs.Gifts.{shown_by}
use Rattle.laws_attributes.proofs.PlainForms.{Back, bound_given, kept_back, map_there, seq_there, texts_back}
use Rattle.laws_attributes.proofs.RowFields.{LeafAt, made_at, mapped_row, rows_back}
use Rattle.laws_attributes.proofs.RowForms.{RowAgain, argv_made, bool_made, duration_made, found_at, makes_kept, none_left, num_made, present_found}
use Rattle.laws_attributes.proofs.RowWalks.{mapping_again, mapping_read}
use Rattle.laws_attributes.proofs.Shown.{check_rows, leaf, present, texts_tree}

disable_line : line_of health_lines (codes "disable") ≡ Some Plain.Bool
unfolding health_lines
disable_line = refl

interval_line : line_of health_lines (codes "interval") ≡ Some Plain.Duration
unfolding health_lines
interval_line = refl

retries_line : line_of health_lines (codes "retries") ≡ Some Plain.Num
unfolding health_lines
retries_line = refl

start_interval_line : line_of health_lines (codes "start_interval") ≡ Some Plain.Duration
unfolding health_lines
start_interval_line = refl

start_period_line : line_of health_lines (codes "start_period") ≡ Some Plain.Duration
unfolding health_lines
start_period_line = refl

test_line : line_of health_lines (codes "test") ≡ Some Plain.Test
unfolding health_lines
test_line = refl

timeout_line : line_of health_lines (codes "timeout") ≡ Some Plain.Duration
unfolding health_lines
timeout_line = refl

-- what is there is read again by its form
abbrev IsBack : {X : Type 0} → Plain → (X → Value) → Option X → Type 0
IsBack {X} plain make o = (x : X) → o ≡ Some x → Back plain (make x)

-- a check whose parts are each read again, and which isn't disabled
record IsCheck (check : HealthCheck) : Type 0 where
  disable : IsBack Plain.Bool Value.Bool check.disable
  interval : IsBack Plain.Duration Value.Duration check.interval
  retries : IsBack Plain.Num Value.Num check.retries
  start_interval : IsBack Plain.Duration Value.Duration check.start_interval
  start_period : IsBack Plain.Duration Value.Duration check.start_period
  test : IsBack Plain.Test Value.Argv check.test
  timeout : IsBack Plain.Duration Value.Duration check.timeout
  enabled : unwrap_or check.disable false ≡ false

-- what is made of attributes, of which there are some
abbrev check_by : List Attribute → HealthCheck
check_by l = check_or_none (unwrap_or (bool_at l (codes "disable")) false) l

from_some : (l : List Attribute) → (l ≡ [] → ⊥) → health_from l ≡ Some (Value.HealthCheck (check_by l))
from_some [] some = absurd (some refl)
from_some (a ∷ others) some = refl

from_given : (l : List Attribute) (v : Value) → health_from l ≡ Some v → (l ≡ [] → ⊥) × (Value.HealthCheck (check_by l) ≡ v)
from_given [] v e = absurd (cc e)
from_given (a ∷ others) v e = (λ none. cc none, cc e)

module _ (check : HealthCheck) (is : IsCheck check) where
  abbrev again : List Attribute
  again = present (check_rows check)

  read : fields_of health_lines [] (shown_by leaf again) ≡ Ok again
  read =
      rows_back health_lines [] (check_rows check) refl tt (
        mapped_row (LeafAt health_lines) (codes "disable") Value.Bool check.disable (λ x e. (Plain.Bool, disable_line, is.disable x e, refl)),
        (
          mapped_row (LeafAt health_lines) (codes "interval") Value.Duration check.interval (λ x e. (Plain.Duration, interval_line, is.interval x e, refl)),
          (
            mapped_row (LeafAt health_lines) (codes "retries") Value.Num check.retries (λ x e. (Plain.Num, retries_line, is.retries x e, refl)),
            (
              mapped_row (LeafAt health_lines) (codes "start_interval") Value.Duration check.start_interval (λ x e. (Plain.Duration, start_interval_line, is.start_interval x e, refl)),
              (
                mapped_row (LeafAt health_lines) (codes "start_period") Value.Duration check.start_period (λ x e. (Plain.Duration, start_period_line, is.start_period x e, refl)),
                (
                  mapped_row (LeafAt health_lines) (codes "test") Value.Argv check.test (λ x e. (Plain.Test, test_line, is.test x e, refl)),
                  (mapped_row (LeafAt health_lines) (codes "timeout") Value.Duration check.timeout (λ x e. (Plain.Duration, timeout_line, is.timeout x e, refl)), tt),
                ),
              ),
            ),
          ),
        ),
      )

  disable_again : bool_at again (codes "disable") ≡ check.disable
  disable_again = present_found as_bool Value.Bool bool_made (check_rows check) (codes "disable") check.disable refl

  interval_again : number_at again (codes "interval") ≡ check.interval
  interval_again = present_found as_number Value.Duration duration_made (check_rows check) (codes "interval") check.interval refl

  retries_again : number_at again (codes "retries") ≡ check.retries
  retries_again = present_found as_number Value.Num num_made (check_rows check) (codes "retries") check.retries refl

  start_interval_again : number_at again (codes "start_interval") ≡ check.start_interval
  start_interval_again = present_found as_number Value.Duration duration_made (check_rows check) (codes "start_interval") check.start_interval refl

  start_period_again : number_at again (codes "start_period") ≡ check.start_period
  start_period_again = present_found as_number Value.Duration duration_made (check_rows check) (codes "start_period") check.start_period refl

  test_again : texts_at again (codes "test") ≡ check.test
  test_again = present_found as_texts Value.Argv argv_made (check_rows check) (codes "test") check.test refl

  timeout_again : number_at again (codes "timeout") ≡ check.timeout
  timeout_again = present_found as_number Value.Duration duration_made (check_rows check) (codes "timeout") check.timeout refl

  from_again : check_by again ≡ check
  from_again =
      ap (λ b. check_or_none (unwrap_or b false) again) disable_again
      ∙ ap (λ b. check_or_none b again) is.enabled
      ∙ (λ i. record {
        test = test_again i;
        interval = interval_again i;
        timeout = timeout_again i;
        start_period = start_period_again i;
        start_interval = start_interval_again i;
        retries = retries_again i;
        disable = disable_again i;
      })

  check_again : (again ≡ [] → ⊥) → RowAgain Row.HealthCheck (Value.HealthCheck check)
  check_again some = (
    map_there _,
    ap (λ r. r >>= λ l. ok_value (health_from l)) (mapping_again (fields_of health_lines []) (shown_by leaf again) again read)
        ∙ ap ok_value (from_some again some ∙ ap (λ c. Some (Value.HealthCheck c)) from_again),
  )
    where
      ok_value : Option Value → Read (Option Value)
      ok_value o = Ok o

-- no check is read again as none
none_back : Back Plain.Test (Value.Argv (codes "NONE" ∷ []))
none_back = (seq_there _, λ beside. kept_back Value.Argv (test_of (out-Tree (texts_tree (codes "NONE" ∷ [])))) (codes "NONE" ∷ []) (ap (λ r. r >>= as_test) (texts_back (codes "NONE" ∷ []))))

no_check_is : IsCheck no_check
no_check_is = record {
  disable = λ x e. absurd (cc e);
  interval = λ x e. absurd (cc e);
  retries = λ x e. absurd (cc e);
  start_interval = λ x e. absurd (cc e);
  start_period = λ x e. absurd (cc e);
  test = λ x e. (let same : codes "NONE" ∷ [] ≡ x = cc e in subst (λ (t : List (List ℕ)). Back Plain.Test (Value.Argv t)) same none_back);
  timeout = λ x e. absurd (cc e);
  enabled = refl;
}

no_check_again : RowAgain Row.HealthCheck (Value.HealthCheck no_check)
no_check_again = check_again no_check no_check_is (λ none. cc none)

-- a part that attributes have, by its form
abbrev Part : {X : Type 0} → List Attribute → List ℕ → Plain → (X → Value) → Type 0
Part {X} attributes k plain make = (o : Option X) × (value_at attributes k ≡ option_map make o) × IsBack plain make o

module _ (es : Entries) (attributes : List Attribute) (f : fields_of health_lines [] es ≡ Ok attributes)
    (d : Part {X = Bool} attributes (codes "disable") Plain.Bool Value.Bool) (n : Part {X = ℕ} attributes (codes "interval") Plain.Duration Value.Duration)
    (r : Part {X = ℕ} attributes (codes "retries") Plain.Num Value.Num) (si : Part {X = ℕ} attributes (codes "start_interval") Plain.Duration Value.Duration)
    (sp : Part {X = ℕ} attributes (codes "start_period") Plain.Duration Value.Duration) (t : Part {X = List (List ℕ)} attributes (codes "test") Plain.Test Value.Argv)
    (to : Part {X = ℕ} attributes (codes "timeout") Plain.Duration Value.Duration) where
  abbrev made : HealthCheck
  made = record { test = t.0; interval = n.0; timeout = to.0; start_period = sp.0; start_interval = si.0; retries = r.0; disable = d.0 }

  made_is : check_from attributes ≡ made
  made_is = (λ i. record {
    test = found_at as_texts Value.Argv argv_made attributes (codes "test") t.0 t.1 i;
    interval = found_at as_number Value.Duration duration_made attributes (codes "interval") n.0 n.1 i;
    timeout = found_at as_number Value.Duration duration_made attributes (codes "timeout") to.0 to.1 i;
    start_period = found_at as_number Value.Duration duration_made attributes (codes "start_period") sp.0 sp.1 i;
    start_interval = found_at as_number Value.Duration duration_made attributes (codes "start_interval") si.0 si.1 i;
    retries = found_at as_number Value.Num num_made attributes (codes "retries") r.0 r.1 i;
    disable = found_at as_bool Value.Bool bool_made attributes (codes "disable") d.0 d.1 i;
  })

  disable_is : bool_at attributes (codes "disable") ≡ d.0
  disable_is = found_at as_bool Value.Bool bool_made attributes (codes "disable") d.0 d.1

  enabled_check : unwrap_or d.0 false ≡ false → IsCheck made
  enabled_check enabled = record { disable = d.2; interval = n.2; retries = r.2; start_interval = si.2; start_period = sp.2; test = t.2; timeout = to.2; enabled = enabled }

  none_again : (enabled : unwrap_or d.0 false ≡ false) → present (check_rows made) ≡ [] → attributes ≡ []
  unfolding health_lines
  none_again enabled none =
      let is = enabled_check enabled in
      none_left health_lines [] es attributes f (
        d.1 ∙ ap (option_map Value.Bool) (sym (disable_again made is) ∙ ap (λ l. bool_at l (codes "disable")) none),
        (
          n.1 ∙ ap (option_map Value.Duration) (sym (interval_again made is) ∙ ap (λ l. number_at l (codes "interval")) none),
          (
            r.1 ∙ ap (option_map Value.Num) (sym (retries_again made is) ∙ ap (λ l. number_at l (codes "retries")) none),
            (
              si.1 ∙ ap (option_map Value.Duration) (sym (start_interval_again made is) ∙ ap (λ l. number_at l (codes "start_interval")) none),
              (
                sp.1 ∙ ap (option_map Value.Duration) (sym (start_period_again made is) ∙ ap (λ l. number_at l (codes "start_period")) none),
                (
                  t.1 ∙ ap (option_map Value.Argv) (sym (test_again made is) ∙ ap (λ l. texts_at l (codes "test")) none),
                  (to.1 ∙ ap (option_map Value.Duration) (sym (timeout_again made is) ∙ ap (λ l. number_at l (codes "timeout")) none), tt),
                ),
              ),
            ),
          ),
        ),
      )

  parts_again : (attributes ≡ [] → ⊥) → (v : Value) → Value.HealthCheck (check_by attributes) ≡ v → RowAgain Row.HealthCheck v
  parts_again some v is = by (unwrap_or d.0 false) refl
    where
      by : (b : Bool) → unwrap_or d.0 false ≡ b → RowAgain Row.HealthCheck v
      by true e =
          let none : check_by attributes ≡ no_check = ap (λ o. check_or_none (unwrap_or o false) attributes) disable_is ∙ ap (λ b. check_or_none b attributes) e in
          subst (RowAgain Row.HealthCheck) (ap (λ c. Value.HealthCheck c) (sym none) ∙ is) no_check_again
      by false e =
          let whole : check_by attributes ≡ made = ap (λ o. check_or_none (unwrap_or o false) attributes) disable_is ∙ ap (λ b. check_or_none b attributes) e ∙ made_is in
          subst (RowAgain Row.HealthCheck) (ap (λ c. Value.HealthCheck c) (sym whole) ∙ is) (check_again made (enabled_check e) (λ none. some (none_again e none)))

pub health_again : (s : Tree-F Tree) (v : Value) → health_of s ≡ Ok (Some v) → RowAgain Row.HealthCheck v
health_again s v e =
    let b = bound_given (in_mapping (fields_of health_lines []) s) (λ attributes. ok_value (health_from attributes)) (Some v) e in
    let m = mapping_read (fields_of health_lines []) s b.0 b.1 in
    let g = from_given b.0 v (let same : health_from b.0 ≡ Some v = cc b.2 in same) in
    let d = made_at health_lines [] m.0 b.0 m.1 Value.Bool (λ x. Back Plain.Bool (Value.Bool x)) (codes "disable") Plain.Bool disable_line (makes_kept Plain.Bool m.0 Value.Bool (λ tree. written bool_of (out-Tree tree)) refl (λ tree. refl)) in
    let n = made_at health_lines [] m.0 b.0 m.1 Value.Duration (λ x. Back Plain.Duration (Value.Duration x)) (codes "interval") Plain.Duration interval_line (makes_kept Plain.Duration m.0 Value.Duration (λ tree. written duration_of (out-Tree tree)) refl (λ tree. refl)) in
    let r = made_at health_lines [] m.0 b.0 m.1 Value.Num (λ x. Back Plain.Num (Value.Num x)) (codes "retries") Plain.Num retries_line (makes_kept Plain.Num m.0 Value.Num (λ tree. written num_of (out-Tree tree)) refl (λ tree. refl)) in
    let si = made_at health_lines [] m.0 b.0 m.1 Value.Duration (λ x. Back Plain.Duration (Value.Duration x)) (codes "start_interval") Plain.Duration start_interval_line (makes_kept Plain.Duration m.0 Value.Duration (λ tree. written duration_of (out-Tree tree)) refl (λ tree. refl)) in
    let sp = made_at health_lines [] m.0 b.0 m.1 Value.Duration (λ x. Back Plain.Duration (Value.Duration x)) (codes "start_period") Plain.Duration start_period_line (makes_kept Plain.Duration m.0 Value.Duration (λ tree. written duration_of (out-Tree tree)) refl (λ tree. refl)) in
    let t = made_at health_lines [] m.0 b.0 m.1 Value.Argv (λ x. Back Plain.Test (Value.Argv x)) (codes "test") Plain.Test test_line (makes_kept Plain.Test m.0 Value.Argv (λ tree. test_of (out-Tree tree)) refl (λ tree. refl)) in
    let to = made_at health_lines [] m.0 b.0 m.1 Value.Duration (λ x. Back Plain.Duration (Value.Duration x)) (codes "timeout") Plain.Duration timeout_line (makes_kept Plain.Duration m.0 Value.Duration (λ tree. written duration_of (out-Tree tree)) refl (λ tree. refl)) in
    parts_again m.0 b.0 m.1 d n r si sp t to g.0 v g.1
  where
    ok_value : Option Value → Read (Option Value)
    ok_value o = Ok o
