use Rattle.laws_pages.proofs.JsonNodePages.{page_words}
use Rattle.laws_pages.proofs.json_nodes.page_words_are_numbers_and_flags.Goals as goal

pub returns : goal.returns
returns c = page_words
