use Rattle.std.proofs.Common.{◌∙◌, sym}
use Rattle.std.specs.Str.{bytes_eq}
use Rattle.project_meaning.specs.Completing.{default_key}
use Rattle.project_meaning.proofs.Searching.{any_mapped}
use Rattle.project_meaning.proofs.used.is_declared.Goals as goal

pub returns : goal.returns
returns c = c.has_default.ensures ∙ sym (any_mapped (bytes_eq default_key) (λ network. network.key) c.args.networks.now)
