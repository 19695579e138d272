-- What is left, and what the lines that are left need, make the room.
use Rattle.std.proofs.Common.{◌≡◌, ◌+◌, drop}
use Rattle.log_book.specs.Books.{bytes_in}
use Rattle.log_book.proofs.sizes.room_behind.Given as goal

abbrev pub invariant-loop-line : goal.invariant-loop-line
invariant-loop-line l = l.left + bytes_in l.lines ≡ l.room + bytes_in (drop l.line-index l.lines)
