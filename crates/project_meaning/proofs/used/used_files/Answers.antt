use Rattle.std.proofs.Common.{◌∙◌, List, ap, rules, tests}
use Rattle.std.specs.Prelude.{filter}
use Rattle.std.proofs.lemmas.Fn.{filter_same}
use Rattle.attribute_scalars.specs.Walks.{is_in}
use Rattle.typed_project.specs.declared.project.FileItem.{FileItem}
use Rattle.project_meaning.proofs.used.used_files.Goals as goal

pub returns : goal.returns
returns c =
    let kept = filter_same _ (λ (file : FileItem). is_in c.args.used.now file.key) _ (λ x b f' k. search (rules, tests, c.requires)) _ _ c.retain.ensures.filtered in
    c.from_vec.ensures ∙ kept ∙ ap (λ (l : List FileItem). filter (λ (file : FileItem). is_in c.args.used.now file.key) l) (c.into_vec-items.ensures)
