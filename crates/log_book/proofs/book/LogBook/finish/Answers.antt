use Rattle.std.proofs.Common.{subst}
use Rattle.log_book.specs.Books.{Book, IsBook}
use Rattle.log_book.proofs.book.LogBook.finish.Goals as goal

pub returns-clause-book : goal.returns-clause-book
returns-clause-book c = subst (λ (b : Book). IsBook b) c.self.view_is c.self.invariant.book
