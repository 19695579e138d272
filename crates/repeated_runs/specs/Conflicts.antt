-- Runs that ended since a create was refused whose name is used.
use Rattle.std.specs.Prelude.{◌≡◌, Bool, false, ◌&&◌, if◌then◌else◌, List, [], ◌∷◌, Option, Some, None}
use Rattle.std.specs.List.{list_any}
use Rattle.std.specs.Option.{option_map_or}
use Rattle.engine_types.specs.declared.Request.{Request}
use Rattle.name_conflicts.specs.Conflicts.{is_conflict, is_create, is_same_create}
use Rattle.refusals.specs.declared.Refusal.{Refusal}
use Rattle.repeated_runs.specs.declared.attempt.Attempt.{Attempt}
use Rattle.run_model.specs.EngineRules.{Among}

-- the create that a run was refused since its name is used
abbrev pub conflict_of : Option Refusal → Option Request
conflict_of (Some (Refusal.Request request outcome)) =
    if is_create request && is_conflict outcome then Some request else None
conflict_of _ = None

-- whether a run was refused such a create of what a request makes
abbrev pub is_refused_of : Request → Option Refusal → Bool
is_refused_of request refusal = option_map_or (is_same_create request) (conflict_of refusal) false

-- whether a run was made again for what a request makes
abbrev pub was_repeated_for : {H : Type 0} → List (Attempt H) → Request → Bool
was_repeated_for earlier request =
    list_any (λ attempt. is_refused_of request attempt.ended.refusal) earlier

-- whether both were refused a create of one thing
abbrev pub is_repeated : Option Refusal → Option Refusal → Bool
is_repeated later earlier = option_map_or (λ request. is_refused_of request earlier) (conflict_of later) false

-- runs of which no two were refused a create of one thing
abbrev pub AreApart : {H : Type 0} → List (Attempt H) → Type 0
AreApart [] = Unit {0}
AreApart {H} (attempt ∷ rest) =
    ((other : Attempt H) → Among rest other
    → is_repeated other.ended.refusal attempt.ended.refusal ≡ false) × AreApart rest
