use Rattle.std.proofs.Common.{◌∙◌, ap}
use Rattle.std.proofs.lemmas.Str.Pattern.{contains_text}
use Rattle.std.specs.Prelude.{codes}
use Rattle.file_paths.specs.Resolving.{has_scheme}
use Rattle.file_paths.proofs.Schemes.{scheme_is}
use Rattle.file_paths.proofs.text.has_scheme.Goals as goal

pub returns : goal.returns
returns c =
    let s = c.as_str.result.now in
    scheme_is c.contains.result s (contains_text c.contains.result (codes "://") s c.contains.ensures.cases) ∙ ap has_scheme c.as_str.ensures.value
