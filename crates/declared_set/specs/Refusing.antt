-- For what a project's declared set is refused.
use Rattle.std.specs.Prelude.{ℕ, nat_le, List, Option, Some, None, flat_map, if◌then◌else◌, map}
use Rattle.std.specs.List.{range_with_len}
use Rattle.std.specs.Option.{option_map, option_or}
use Rattle.tree_base.specs.Limits.{most_needs}
use Rattle.compose_words.specs.declared.options.Scale.{Scale}
use Rattle.declared_slots.specs.Counts.{ranges_of, scale_of}
use Rattle.declared_slots.specs.Named.{name_of}
use Rattle.declared_slots.specs.Needs.{need_count}
use Rattle.declared_slots.specs.Refusing.{twice_named, unknown_scale}
use Rattle.typed_project.specs.declared.project.Project.{Project}
use Rattle.typed_project.specs.declared.service.Service.{Service}
use Rattle.declared_set.specs.declared.refusal.IdentityRefusal.{IdentityRefusal}

-- too many needs
abbrev pub too_many : ℕ → Option IdentityRefusal
too_many count = if nat_le count most_needs then None else Some (IdentityRefusal.TooManyNeeds count)

-- the names of a service's containers
abbrev pub names_in : Project → List Scale → Service → List (List ℕ)
names_in project scales service =
    map (name_of project.name service) (range_with_len 1 (scale_of scales service))

-- the names of all containers
abbrev pub names_of : Project → List Scale → List (List ℕ)
names_of project scales = flat_map (names_in project scales) project.services

-- the refusal: first a scale of a service that isn't there, then too many needs, then two slots of one name
abbrev pub refusal_of : Project → List Scale → Option IdentityRefusal
refusal_of project scales =
    option_or (option_map IdentityRefusal.UnknownScale (unknown_scale scales (map (λ service. service.key) project.services)))
    (option_or (too_many (need_count (ranges_of scales project.services) project.services))
    (option_map IdentityRefusal.NameTwice (twice_named (names_of project scales))))
