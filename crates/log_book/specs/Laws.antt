-- What is proved of books, whatever they are.
use Rattle.std.specs.Prelude.{◌≡◌, ℕ, ◌%◌}
use Rattle.turn_ledger.specs.Own.{own}
use Rattle.log_book.specs.Books.{Book, IsBook, of_container}

-- the entries of a container are those that one worker added, in that worker's order
abbrev pub ContainersHaveOneWorker : Type 0
ContainersHaveOneWorker =
    (book : Book) (container : ℕ) → IsBook book
    → of_container container (own (λ e. e.worker) (container % book.workers) book.entries)
    ≡ of_container container book.entries
