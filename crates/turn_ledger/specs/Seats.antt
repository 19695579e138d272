-- What contracts see of the turns and of a seat.
use Rattle.std.specs.Prelude.{◌≡◌, ℕ, ◌<◌, [], ◌-◌, ◌⊎◌, Some}
use Rattle.atomic_table.specs.Seated.{TableId}
use Rattle.turn_ledger.specs.declared.view.View.{View}
use Rattle.turn_ledger.specs.Own.{HasNumber}

-- turns: which table it is, the object as it was opened, and the number of seats
pub record Opened (Q : Type 0) : Type 0 where
  pub table : TableId
  pub object : Q
  pub seats : ℕ

-- a seat: the table that it is of, and what it knows
pub record Sitting (Q E : Type 0) : Type 0 where
  pub table : TableId
  pub view : View Q E

-- the seat is one of these turns
abbrev pub IsOf : {Q E : Type 0} → Opened Q → Sitting Q E → Type 0
IsOf turns seat =
    (seat.table ≡ turns.table) × (seat.view.opened ≡ Some turns.object)
    × (seat.view.seats ≡ turns.seats)

-- a first seat, which has seen nothing
abbrev pub IsFirst : {Q E : Type 0} → Q → ℕ → View Q E → Type 0
IsFirst q seats v =
    (v.opened ≡ Some q) × (v.seats ≡ seats) × (v.number ≡ 0) × (v.seen ≡ []) × (v.mine ≡ [])
    × (v.joined ≡ []) × (v.left ≡ seats - 1)

-- each number that is made is the seat's own, or was joined
abbrev pub Covers : {Q E : Type 0} → View Q E → Type 0
Covers v = (n : ℕ) → n < v.seats - v.left → (n ≡ v.number) ⊎ HasNumber n v.joined
