-- The first entry of a journal that has begun tells what was seen.
use Rattle.std.proofs.Common.{◌≡◌, true, List, [], ◌∷◌, ◌++◌, Some, reverse, slice_get, refl, sym, subst}
use Rattle.std.proofs.lemmas.List.{reverse-append, reverse-reverse}
use Rattle.std.specs.Prelude.{is_some}
use Rattle.engine_types.specs.declared.Aim.{Aim}
use Rattle.engine_types.specs.declared.Entry.{Entry}
use Rattle.engine_types.specs.declared.Exchange.{Exchange}
use Rattle.engine_types.specs.declared.SeenEnd.{SeenEnd}
use Rattle.run_model.specs.Journals.{Setup, seen_in}
use Rattle.run_model.specs.Legal.{IsLegal}
use Rattle.journal_laws.specs.Courses.{first_seen}
use Rattle.ledger_core.specs.Seeing.{seen_at}

-- a list's first entry tells what was seen first
abbrev BeginsWell : List Entry → Type 0
BeginsWell items = seen_at (slice_get items 0) ≡ Some (first_seen items)

still : (items : List Entry) (entry : Entry) → BeginsWell items → BeginsWell (items ++ entry ∷ [])
still [] entry e = absurd (cc e)
still (Entry.Seen observed ∷ items) entry e = e
still (x ∷ items) entry e = e

alone : (exchanges : List Exchange) (end : SeenEnd) → is_some (seen_in (Entry.Seen (record { exchanges = exchanges; end = end }) ∷ [])) ≡ true → BeginsWell (Entry.Seen (record { exchanges = exchanges; end = end }) ∷ [])
alone exchanges (SeenEnd.Good seen) h = refl
alone exchanges (SeenEnd.Bad fault) h = absurd (cc h)

begins : (aim : Aim) (setup : Setup) (past : List Entry) → IsLegal aim setup past → is_some (seen_in past) ≡ true → BeginsWell (reverse past)
begins aim setup [] legal h = absurd (cc h)
begins aim setup (Entry.Seen observed ∷ past) legal h = subst (λ (p : List Entry). BeginsWell (reverse (Entry.Seen observed ∷ p))) (sym legal.1.0) (alone observed.exchanges observed.end h)
begins aim setup (entry ∷ past) legal h = subst BeginsWell (sym (reverse-append (entry ∷ []) past)) (still (reverse past) entry (begins aim setup past legal.0 h))

pub begins_well : (aim : Aim) (setup : Setup) (items : List Entry) → IsLegal aim setup (reverse items) → is_some (seen_in (reverse items)) ≡ true → seen_at (slice_get items 0) ≡ Some (first_seen items)
begins_well aim setup items legal h = subst BeginsWell (reverse-reverse items) (begins aim setup (reverse items) legal h)
