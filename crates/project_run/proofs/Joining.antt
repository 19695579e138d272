-- A journal that goes on: what was seen stays.
use Rattle.std.proofs.Common.{◌≡◌, List, [], ◌∷◌, ◌++◌, Some, reverse, ap, ◌∙◌}
use Rattle.std.proofs.lemmas.List.{reverse-append}
use Rattle.engine_types.specs.declared.Aim.{Aim}
use Rattle.engine_types.specs.declared.Entry.{Entry}
use Rattle.engine_types.specs.declared.Seen.{Seen}
use Rattle.ledger_run.specs.Works.{GoesOn}
use Rattle.run_model.specs.Journals.{Setup, seen_in}
use Rattle.run_model.specs.Legal.{IsLegal}

-- no list with entries in front of one that saw something is empty
not_empty : (xs ys : List Entry) (seen : Seen) → xs ++ ys ≡ [] → seen_in ys ≡ Some seen → ⊥
not_empty [] [] seen e s = cc s
not_empty [] (y ∷ ys) seen e s = cc e
not_empty (x ∷ xs) ys seen e s = cc e

-- what was seen stays
seen_on : (aim : Aim) (setup : Setup) (xs ys : List Entry) (seen : Seen) → IsLegal aim setup (xs ++ ys) → seen_in ys ≡ Some seen → seen_in (xs ++ ys) ≡ Some seen
seen_on aim setup [] ys seen legal e = e
seen_on aim setup (Entry.Seen observation ∷ xs) ys seen legal e = absurd (not_empty xs ys seen legal.1.0 e)
seen_on aim setup (Entry.Claim w a ∷ xs) ys seen legal e = seen_on aim setup xs ys seen legal.0 e
seen_on aim setup (Entry.Poll w s ∷ xs) ys seen legal e = seen_on aim setup xs ys seen legal.0 e
seen_on aim setup (Entry.Ended w outcome ∷ xs) ys seen legal e = seen_on aim setup xs ys seen legal.0 e
seen_on aim setup (Entry.Idle w ∷ xs) ys seen legal e = seen_on aim setup xs ys seen legal.0 e
seen_on aim setup (Entry.Leave w ∷ xs) ys seen legal e = seen_on aim setup xs ys seen legal.0 e
seen_on aim setup (Entry.Stop w ∷ xs) ys seen legal e = seen_on aim setup xs ys seen legal.0 e
seen_on aim setup (Entry.Late w why ∷ xs) ys seen legal e = seen_on aim setup xs ys seen legal.0 e
seen_on aim setup (Entry.Short w ∷ xs) ys seen legal e = seen_on aim setup xs ys seen legal.0 e

-- what a journal saw that another goes on from, the other saw too
pub seen_after : (aim : Aim) (setup : Setup) (old new : List Entry) (seen : Seen) → GoesOn old new → IsLegal aim setup (reverse new) → seen_in (reverse old) ≡ Some seen
    → seen_in (reverse new) ≡ Some seen
seen_after aim setup old new seen more legal e =
    let back : reverse new ≡ reverse more.0 ++ reverse old = ap reverse more.1 ∙ reverse-append old more.0 in
    let there : IsLegal aim setup (reverse more.0 ++ reverse old) = rw back at legal in
    ap seen_in back ∙ seen_on aim setup (reverse more.0) (reverse old) seen there e
