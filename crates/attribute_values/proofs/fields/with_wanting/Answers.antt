use Rattle.std.proofs.Common.{◌∙◌, ◌+◌, ℕ, List, [], drop, get_or, map, ap, sym, arith}
use Rattle.std.proofs.lemmas.Option.{slice_get-get_or}
use denote.Ref.{Bor}
use Rattle.attribute_scalars.specs.Views.{seen_entry}
use Rattle.attribute_scalars.specs.Walks.{with_wanting}
use Rattle.attribute_scalars.proofs.Walks.{item_next, none_past}
use Rattle.attribute_values.proofs.fields.with_wanting.Goals as goal

abbrev text_of : Bor (List ℕ) → List ℕ
text_of name = name.now

abbrev no_name : Bor (List ℕ)
no_name = record { ref_ptr = (0, 0); now = [] }

pub loop-name-preserved : goal.loop-name-preserved
loop-name-preserved c =
    let names = c.args.wanted.now in
    let i = c.loop-name.name-index in
    let old = map seen_entry c.loop-name.all.items in
    let rest = drop (i + 1) (map text_of names) in
    let next = item_next text_of names i (get_or names i no_name) (slice_get-get_or names i no_name (omega arith)) in
    record {
      value = ap (with_wanting rest) c.in_ok-put_wanting.ensures.value
          ∙ ap (λ (l : List (List ℕ)). with_wanting l old) (sym next)
          ∙ c.loop-name.invariant.value;
      distinct = c.in_ok-put_wanting.ensures.distinct;
    }

pub returns-clause-value : goal.returns-clause-value
returns-clause-value c =
    ap (λ (l : List (List ℕ)). with_wanting l (map seen_entry c.loop-name.all.items)) (sym (none_past text_of c.args.wanted.now c.loop-name.name-index (omega arith)))
    ∙ c.loop-name.invariant.value
