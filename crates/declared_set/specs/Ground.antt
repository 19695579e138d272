-- What the slots of a project are made of.
use Rattle.std.specs.Prelude.{◌≡◌, ℕ, List}
use Rattle.attribute_scalars.specs.Walks.{is_in}
use Rattle.compose_words.specs.declared.options.Scale.{Scale}
use Rattle.declared_resources.specs.Resources.{networks_of}
use Rattle.declared_slots.specs.Counts.{ranges_of}
use Rattle.declared_slots.specs.Goals.{is_awaited}
use Rattle.declared_set.specs.declared.slots.Ground.{Ground}

-- the slots, the networks and the services that are waited for are the project's
pub record IsGround (scales : List Scale) (ground : Ground) : Type 0 where
  pub ranges : ground.ranges.now ≡ ranges_of scales ground.loaded.now.project.services
  pub networks : ground.networks.now ≡ networks_of ground.loaded.now.project
  pub awaited : (key : List ℕ) → is_in ground.awaited.now.keys key
      ≡ is_awaited scales ground.loaded.now.project.services key
