use Rattle.std.proofs.Common.{◌∙◌, sym, ap}
use Rattle.tree_base.specs.Entries.{value_at}
use Rattle.dotenv.specs.Variables.{Entries, value}
use Rattle.dotenv.proofs.Puts.{put_sees}
use Rattle.dotenv.proofs.file.put.Goals as goal

pub returns-clause-sees : goal.returns-clause-sees
returns-clause-sees c =
    let a = c.args in
    λ name. ap (λ (es : Entries). value_at es name) c.in_ok-see.ensures
    ∙ put_sees a.outer.now a.given.now.env a.seen.now a.key a.value c.requires name
    ∙ ap (λ (es : Entries). value a.outer.now es name) (sym c.in_ok-put.ensures.ok)
