use Rattle.std.specs.Prelude.{codes, List, ℕ}
use Rattle.std.proofs.Common.{◌≡◌, ◌∙◌, refl, sym, ap, []}
use Rattle.merge_tables.specs.Attributes.{overlay_rules}
use Rattle.attribute_paths.specs.Patterns.{below_key}
use Rattle.merge_tables.specs.Spots.{rules_of, services_rules}
use Rattle.merge_tables.specs.declared.spot.Spot.{Spot}
use Rattle.attribute_paths.proofs.Lines.{apart, none_below}
use Rattle.merge_tables.proofs.spot.spot_below.Goals as goal

pub returns-in-services : goal.returns-in-services
unfolding services_rules
returns-in-services c = rw (c.in-services.is, c.in-Root.is) refl

no_root : (key : List ℕ) → (key ≡ codes "services" → ⊥) → [] ≡ below_key key overlay_rules
unfolding overlay_rules services_rules
no_root key differ = sym (none_below key (codes "services") services_rules (apart (codes "services") key differ))

pub returns-in_default : goal.returns-in_default
returns-in_default c = no_root c.args.key.now c.in_default.not-services ∙ ap (λ (s : Spot). below_key c.args.key.now (rules_of s)) (sym c.in-Root.is)
