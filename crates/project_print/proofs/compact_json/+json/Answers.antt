use Rattle.std.proofs.Common.{◌∙◌, ◌++◌, ◌<◌, ◌≤◌, codes, length, map, sym, ap, arith}
use Rattle.std.proofs.lemmas.Result.{on_ok_weaker}
use Rattle.std.specs.List.{zip}
use Rattle.json.specs.Print.{quoted}
use Rattle.project_print.specs.Json.{json_of, member}
use Rattle.project_print.specs.Written.{listed_from, members_text}
use Rattle.project_print.proofs.Commas.{element_step, listed_done, map_json, member_step, seq_json, wrapped}
use Rattle.project_print.proofs.Places.{next_of_both, next_of_one, none_of_both}
use Rattle.project_print.proofs.compact_json.+json.Goals as goal

pub put_json-returns-in_ok-put_members-in-Map : goal.put_json-returns-in_ok-put_members-in-Map
put_json-returns-in_ok-put_members-in-Map t c =
    let whole =
    (λ i. codes "{" ++ (members_text (zip (c.keys.ensures i) (map (json_of c.args.dollars) (c.values.ensures i))) ++ codes "}"))
    ∙ map_json c.args.dollars c.in-Map.entries
    ∙ ap (json_of c.args.dollars) (sym c.in-Map.is) in
    on_ok_weaker c.push_str-in-Map-2.result (λ e. wrapped _ _ _ _ (codes "{") _ (codes "}") _ c.in_ok-push_str-in-Map.ensures.ok c.in_ok-put_members-in-Map.ensures e whole) c.push_str-in-Map-2.ensures.ok

pub put_json-returns-in_ok-put_elements-in-Seq : goal.put_json-returns-in_ok-put_elements-in-Seq
put_json-returns-in_ok-put_elements-in-Seq t c =
    let whole =
    ap (λ xs. codes "[" ++ (listed_from 0 (map (json_of c.args.dollars) xs) ++ codes "]")) c.as_slice.ensures
    ∙ seq_json c.args.dollars c.in-Seq.items
    ∙ ap (json_of c.args.dollars) (sym c.in-Seq.is) in
    on_ok_weaker c.push_str-in-Seq-2.result (λ e. wrapped _ _ _ _ (codes "[") _ (codes "]") _ c.in_ok-push_str-in-Seq.ensures.ok c.in_ok-put_elements-in-Seq.ensures e whole) c.push_str-in-Seq-2.ensures.ok

pub put_members-loop-at-preserved : goal.put_members-loop-at-preserved
put_members-loop-at-preserved t c =
    let within : c.loop-at.at < length c.args.values.now = omega arith in
    member_step c.loop-at.at c.loop-at.out _ _ _ _ _ c.index-keys-at.result (json_of c.args.dollars c.index-values-at.result) _ _
    c.in_ok-put_comma.ensures (c.in_ok-put_string.ensures ∙ ap (λ k. c.put_comma.new.out ++ quoted k) c.as_str.ensures.value) c.in_ok-push_str.ensures.ok c.in_ok-put_json.ensures
    (next_of_both member (json_of c.args.dollars) c.args.keys.now c.args.values.now c.loop-at.at c.index-keys-at.result c.index-values-at.result c.requires within c.index-keys-at.is c.index-values-at.is)
    c.loop-at.invariant

pub put_members-returns : goal.put_members-returns
put_members-returns t c =
    let past : length c.args.values.now ≤ c.loop-at.at = omega arith in
    listed_done c.loop-at.at c.loop-at.out _ _ (none_of_both member (json_of c.args.dollars) c.args.keys.now c.args.values.now c.loop-at.at past) c.loop-at.invariant

pub put_elements-loop-at-preserved : goal.put_elements-loop-at-preserved
put_elements-loop-at-preserved t c =
    let within : c.loop-at.at < length c.args.items.now = omega arith in
    element_step c.loop-at.at c.loop-at.out _ _ _ (json_of c.args.dollars c.index-items-at.result) _ _
    c.in_ok-put_comma.ensures c.in_ok-put_json.ensures
    (next_of_one (json_of c.args.dollars) c.args.items.now c.loop-at.at c.index-items-at.result within c.index-items-at.is)
    c.loop-at.invariant
