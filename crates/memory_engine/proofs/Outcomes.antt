-- What holds of each outcome of a request holds of its outcome.
use Rattle.std.proofs.Common.{◌≡◌, ℕ, List, Option, Some, None, Bor, refl}
use Rattle.std.specs.Prelude.{is_none, is_some}
use Rattle.std.specs.Option.{option_copied, option_map_or}
use Rattle.engine_types.specs.declared.ContainerRow.{ContainerRow}
use Rattle.engine_types.specs.declared.Engine.{Engine}
use Rattle.engine_types.specs.declared.Reply.{Reply}
use Rattle.run_model.specs.EngineRules.{container_at}
use Rattle.memory_engine.specs.Serving.{not_found, on_container}

-- by what an option holds
pub option_both : {X Y : Type 0} (P : Y → Type 0) (f : X → Y) (y : Y) (o : Option X)
    → (o ≡ None → P y) → ((x : X) → o ≡ Some x → P (f x)) → P (option_map_or f o y)
option_both P f y None none some = none refl
option_both P f y (Some x) none some = some x refl

-- by the container that a request is on
pub on_container_both : (P : Reply × Engine → Type 0) (engine : Engine) (id : List ℕ) (act : ContainerRow → Reply × Engine)
    → P (not_found, engine) → ((row : ContainerRow) → container_at engine id ≡ Some row → P (act row)) → P (on_container engine id act)
on_container_both P engine id act none some =
    option_both P act (not_found, engine) (container_at engine id) (λ _. none) some

-- what references point to is there where they are
pub none_copied : {T : Type 0} (o : Option (Bor T)) → is_none (option_copied o) ≡ is_none o
none_copied None = refl
none_copied (Some x) = refl

pub some_copied : {T : Type 0} (o : Option (Bor T)) → is_some (option_copied o) ≡ is_some o
some_copied None = refl
some_copied (Some x) = refl
