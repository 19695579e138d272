use Rattle.std.specs.Prelude.{codes, List, ℕ}
use Rattle.std.proofs.Common.{◌≡◌, ◌∙◌, ◌++◌, refl, sym, ap, []}
use Rattle.merge_tables.specs.Attributes.{short_rules}
use Rattle.attribute_paths.specs.Patterns.{below_key}
use Rattle.merge_tables.specs.Spots.{forms_of, resources_forms, services_forms}
use Rattle.merge_tables.specs.declared.short_spot.ShortSpot.{ShortSpot}
use Rattle.attribute_paths.proofs.Lines.{apart, in_front, none_below, none_both}
use Rattle.merge_tables.proofs.short_spot.short_spot_below.Goals as goal

pub returns-in-services : goal.returns-in-services
unfolding services_forms
returns-in-services c = rw (c.in-services.is, c.in-Root.is) refl

pub returns-in-networks : goal.returns-in-networks
unfolding resources_forms
returns-in-networks c = rw (c.in-networks.is, c.in-Root.is) refl

pub returns-in-volumes : goal.returns-in-volumes
unfolding resources_forms short_rules
returns-in-volumes c = rw (c.in-volumes.is, c.in-Root.is) refl

-- no line of the table holds under another key
no_root : (key : List ℕ) → (key ≡ codes "services" → ⊥) → (key ≡ codes "networks" → ⊥) → (key ≡ codes "volumes" → ⊥) → [] ≡ below_key key short_rules
unfolding short_rules services_forms resources_forms
no_root key no_service no_network no_volume =
    sym (none_both key (in_front (codes "services") services_forms) (in_front (codes "networks") resources_forms ++ in_front (codes "volumes") resources_forms)
    (none_below key (codes "services") services_forms (apart (codes "services") key no_service))
    (none_both key (in_front (codes "networks") resources_forms) (in_front (codes "volumes") resources_forms)
    (none_below key (codes "networks") resources_forms (apart (codes "networks") key no_network))
    (none_below key (codes "volumes") resources_forms (apart (codes "volumes") key no_volume))))

pub returns-in_default : goal.returns-in_default
returns-in_default c =
    let n = c.in_default in
    no_root c.args.key.now n.not-services n.not-networks n.not-volumes ∙ ap (λ (s : ShortSpot). below_key c.args.key.now (forms_of s)) (sym c.in-Root.is)
