use Rattle.compose_config.proofs.PlainWords.{plain_pages}
use Rattle.compose_config.proofs.laws.plain_pages_are_files.Goals as goal

pub returns : goal.returns
returns c = plain_pages
