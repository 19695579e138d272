-- What an Engine in memory keeps true of what it holds.
use mathlib.Core.Bool.{Bool-set}
use Rattle.std.specs.Prelude.{◌≡◌, ℕ, ◌^◌, ◌<◌, ◌≤◌, Bool, true, ◌&&◌, List, map, is_none}
use Rattle.std.specs.List.{IsDistinct, IsDistinct-prop}
use Rattle.std.specs.Str.{bytes_eq}
use Rattle.engine_types.specs.declared.ContainerRow.{ContainerRow}
use Rattle.engine_types.specs.declared.Engine.{Engine}
use Rattle.run_model.specs.EngineRules.{IsSound, container_at, network_at}
use Rattle.memory_engine.specs.Ids.{id_text}

-- ids tell containers apart
abbrev pub HasOwnIds : List ContainerRow → Type 0
HasOwnIds rows = IsDistinct bytes_eq (map (λ row. row.id) rows)

-- whether an id is neither a container's nor a network's
abbrev pub is_free : Engine → List ℕ → Bool
is_free engine id = is_none (container_at engine id) && is_none (network_at engine id)

-- the Engine is sound, and each id of 64 hexadecimal digits in it spells a number below the next one
pub record IsKept (engine : Engine) : Type 0 where
  pub sound : IsSound engine
  pub numbered : (n : ℕ) → engine.next ≤ n → n < 16 ^ 64 → is_free engine (id_text n) ≡ true

-- an Engine is sound in one way
pub IsSound-prop : (engine : Engine) → IsProp (IsSound engine)
IsSound-prop engine a b = λ i. record {
  container_ids = IsDistinct-prop bytes_eq (map (λ row. row.id) engine.containers) a.container_ids b.container_ids i;
  container_names = IsDistinct-prop bytes_eq (map (λ row. row.name) engine.containers) a.container_names b.container_names i;
  network_ids = IsDistinct-prop bytes_eq (map (λ row. row.id) engine.networks) a.network_ids b.network_ids i;
  volume_names = IsDistinct-prop bytes_eq engine.volumes a.volume_names b.volume_names i;
  image_names = IsDistinct-prop bytes_eq (map (λ row. row.name) engine.images) a.image_names b.image_names i;
  attached = Bool-set _ _ a.attached b.attached i;
}

-- and keeps its ids in one way
pub IsKept-prop : (engine : Engine) → IsProp (IsKept engine)
IsKept-prop engine a b = λ i. record {
  sound = IsSound-prop engine a.sound b.sound i;
  numbered = λ n above short. Bool-set _ _ (a.numbered n above short) (b.numbered n above short) i;
}
