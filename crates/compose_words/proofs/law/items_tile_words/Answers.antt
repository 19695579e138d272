use Rattle.compose_words.proofs.TilingLemmas.{items_tile, only_items}
use Rattle.compose_words.proofs.law.items_tile_words.Goals as goal

pub returns-clause-tiling : goal.returns-clause-tiling
returns-clause-tiling c = items_tile

pub returns-clause-alone : goal.returns-clause-alone
returns-clause-alone c = only_items
