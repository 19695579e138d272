use Rattle.laws_pages.proofs.Loaded.{pages_loaded}
use Rattle.laws_pages.proofs.loaded_pages.pages_are_loaded.Goals as goal

pub returns : goal.returns
returns c = pages_loaded
