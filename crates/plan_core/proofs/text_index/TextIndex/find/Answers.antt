-- What the groups hold under the text.
use Rattle.std.proofs.Common.{◌∙◌, ℕ, List, [], Option, Vec, Global, ap}
use Rattle.std.specs.Option.{option_map_or}
use Rattle.plan_core.specs.Index.{numbers_under}
use Rattle.plan_core.proofs.Index.{held_under}
use Rattle.plan_core.proofs.text_index.TextIndex.find.Goals as goal

pub returns-in-Some : goal.returns-in-Some
returns-in-Some c =
    c.as_slice.ensures.value ∙ ap (λ (held : Option (Vec ℕ Global)). option_map_or (λ (numbers : Vec ℕ Global). numbers.items) held []) c.in-Some.ensures.value
    ∙ c.self.invariant c.args.text.now ∙ held_under c.self.inside.entries.items c.args.text.now
    ∙ ap (λ (entries : List (List ℕ × ℕ)). numbers_under entries c.args.text.now) c.self.view_is

pub returns-in-None : goal.returns-in-None
returns-in-None c =
    ap (λ (held : Option (Vec ℕ Global)). option_map_or (λ (numbers : Vec ℕ Global). numbers.items) held []) c.in-None.ensures.value
    ∙ c.self.invariant c.args.text.now ∙ held_under c.self.inside.entries.items c.args.text.now
    ∙ ap (λ (entries : List (List ℕ × ℕ)). numbers_under entries c.args.text.now) c.self.view_is
