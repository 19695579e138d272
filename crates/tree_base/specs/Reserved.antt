-- A list beside the room that it has.
use Rattle.std.specs.Prelude.{ℕ, List}

-- the items, and how many pushes can't fail
pub record Reserved (T : Type 0) : Type 0 where
  pub items : List T
  pub spare : ℕ
