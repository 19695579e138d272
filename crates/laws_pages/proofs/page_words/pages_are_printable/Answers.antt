use Rattle.laws_pages.proofs.WordPageWords.{pages_printable}
use Rattle.laws_pages.proofs.page_words.pages_are_printable.Goals as goal

pub returns : goal.returns
returns c = pages_printable
