use Rattle.std.proofs.Common.{◌∙◌, ◌++◌, flat_map, map, ap, sym}
use Rattle.std.proofs.lemmas.Result.{on_ok_weaker}
use Rattle.unset_variables.specs.Unset.{texts_in}
use Rattle.unset_variables.proofs.Texts.{map_texts, seq_texts}
use Rattle.unset_variables.proofs.tree.+texts.Goals as goal

pub push_texts-returns-in-Map : goal.push_texts-returns-in-Map
push_texts-returns-in-Map t c =
    let before = map (λ text. text.now) c.args.texts.now.items in
    let all = ap (flat_map texts_in) c.values.ensures ∙ map_texts c.in-Map.entries ∙ ap texts_in (sym c.in-Map.is) in
    on_ok_weaker c.push_all.result (λ e. e ∙ ap (λ texts. before ++ texts) all) c.push_all.ensures

pub push_texts-returns-in-Seq : goal.push_texts-returns-in-Seq
push_texts-returns-in-Seq t c =
    let before = map (λ text. text.now) c.args.texts.now.items in
    let all = ap (flat_map texts_in) c.as_slice.ensures ∙ seq_texts c.in-Seq.items ∙ ap texts_in (sym c.in-Seq.is) in
    on_ok_weaker c.push_all-in-Seq.result (λ e. e ∙ ap (λ texts. before ++ texts) all) c.push_all-in-Seq.ensures
