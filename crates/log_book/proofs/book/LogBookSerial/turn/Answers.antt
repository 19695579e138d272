use Rattle.std.proofs.Common.{arith}
use Rattle.log_book.proofs.Counting.{few_entries}
use Rattle.log_book.proofs.book.LogBookSerial.turn.Goals as goal

pub returns-clause-room : goal.returns-clause-room
returns-clause-room c =
    let book = c.add.ensures.book in
    let few = few_entries c.add.new.self book in
    let numbered = book.numbered in omega (arith, few, numbered)
