-- Where actions are claimed and slots polled.
use Rattle.std.specs.Prelude.{ℕ, Bool, false, if◌then◌else◌, List, [], ◌∷◌, Option, Some, None, ◌==◌}
use Rattle.std.specs.List.{list_any, position_or_len}
use Rattle.engine_types.specs.declared.Entry.{Entry}

-- whether an entry is a claim of this action
abbrev pub is_claim_of : ℕ → Entry → Bool
is_claim_of a (Entry.Claim v b) = b == a
is_claim_of a _ = false

-- whether an action was claimed
abbrev pub was_claimed : List Entry → ℕ → Bool
was_claimed past a = list_any (is_claim_of a) past

-- the place of an action's first claim in a journal, oldest entry first; the journal's length where there is none
abbrev pub claim_place : List Entry → ℕ → ℕ
claim_place journal a = position_or_len (is_claim_of a) journal

-- the entries before the latest claim of an action
abbrev pub before_claim : List Entry → ℕ → Option (List Entry)
before_claim [] a = None
before_claim (Entry.Claim v b ∷ past) a = if b == a then Some past else before_claim past a
before_claim (_ ∷ past) a = before_claim past a

-- the slot that a worker polls by this entry
abbrev pub slot_polled : ℕ → Entry → Option ℕ
slot_polled w (Entry.Poll v s) = if v == w then Some s else None
slot_polled w _ = None

-- the entries before a worker's latest poll, with the slot that it polled
abbrev pub before_poll : List Entry → ℕ → Option (List Entry × ℕ)
before_poll [] w = None
before_poll (Entry.Poll v s ∷ past) w = if v == w then Some (past, s) else before_poll past w
before_poll (_ ∷ past) w = before_poll past w
