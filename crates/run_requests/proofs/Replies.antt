-- What the replies to a run's actions tell.
use Rattle.std.proofs.Common.{◌≡◌, ℕ, Bool, true, false, List, [], ◌∷◌, Option, Some, refl, ap}
use Rattle.std.proofs.lemmas.Bool.{eqb-true}
use Rattle.std.specs.Prelude.{if◌then◌else◌, ◌==◌}
use Rattle.engine_types.specs.declared.ActionKind.{ActionKind}
use Rattle.engine_types.specs.declared.ActionKind.TheVariants.{CreateSlot, MakeNetwork}
use Rattle.engine_types.specs.declared.Entry.{Entry}
use Rattle.engine_types.specs.declared.Outcome.{Outcome}
use Rattle.engine_types.specs.declared.Reply.{Reply}
use Rattle.run_model.specs.Journals.{Badly, Out, Setup, Well, ended_as, holding, is_good, is_work_on, standing}
use Rattle.run_model.specs.Plans.{is_create_of, is_make_of, kind_of}

-- an action that ended well has a good reply
pub well_is_good : (setup : Setup) (past : List Entry) (a : ℕ) (reply : Reply) (kind : ActionKind) → kind_of setup.actions a ≡ Some kind → standing setup past a ≡ Well reply → is_good kind reply ≡ true
well_is_good setup [] a reply kind k e = absurd (cc e)
well_is_good setup (Entry.Claim v b ∷ past) a reply kind k e = at (b == a) e (well_is_good setup past a reply kind k)
  where
    at : (t : Bool) → (if t then Out else standing setup past a) ≡ Well reply → (standing setup past a ≡ Well reply → is_good kind reply ≡ true) → is_good kind reply ≡ true
    at true h rest = absurd (cc h)
    at false h rest = rest h
well_is_good setup (Entry.Ended v outcome ∷ past) a reply kind k e = at (is_work_on a (holding past v)) e (well_is_good setup past a reply kind k)
  where
    ended : (o : Outcome) → ended_as (Some kind) o ≡ Well reply → is_good kind reply ≡ true
    ended (Outcome.Answered other) h = by (is_good kind other) refl h
      where
        by : (t : Bool) → is_good kind other ≡ t → (if t then Well other else Badly) ≡ Well reply → is_good kind reply ≡ true
        by true g f = let same : other ≡ reply = cc f in rw (← same) g
        by false g f = absurd (cc f)
    ended (Outcome.Lost cause) h = absurd (cc h)
    ended Outcome.NotSent h = absurd (cc h)
    ended Outcome.Memory h = absurd (cc h)

    at : (t : Bool) → (if t then ended_as (kind_of setup.actions a) outcome else standing setup past a) ≡ Well reply → (standing setup past a ≡ Well reply → is_good kind reply ≡ true) → is_good kind reply ≡ true
    at true h rest = ended outcome (rw k at h)
    at false h rest = rest h
well_is_good setup (Entry.Seen observation ∷ past) a reply kind k e = well_is_good setup past a reply kind k e
well_is_good setup (Entry.Poll v s ∷ past) a reply kind k e = well_is_good setup past a reply kind k e
well_is_good setup (Entry.Idle v ∷ past) a reply kind k e = well_is_good setup past a reply kind k e
well_is_good setup (Entry.Leave v ∷ past) a reply kind k e = well_is_good setup past a reply kind k e
well_is_good setup (Entry.Stop v ∷ past) a reply kind k e = well_is_good setup past a reply kind k e
well_is_good setup (Entry.Late v why ∷ past) a reply kind k e = well_is_good setup past a reply kind k e
well_is_good setup (Entry.Short v ∷ past) a reply kind k e = well_is_good setup past a reply kind k e

-- kinds whose good replies tell an id
abbrev pub Tells : ActionKind → Type 0
Tells kind = (reply : Reply) → is_good kind reply ≡ true → (id : List ℕ) × (reply ≡ Reply.Made id)

pub create_tells : (s : ℕ) → Tells (CreateSlot s)
create_tells s (Reply.Made id) e = (id, refl)
create_tells s _ e = absurd (cc e)

pub make_tells : (n : ℕ) → Tells (MakeNetwork n)
make_tells n (Reply.Made id) e = (id, refl)
make_tells n _ e = absurd (cc e)

-- tests of kinds
pub finds_create : (s : ℕ) (kind : Option ActionKind) → is_create_of s kind ≡ true → kind ≡ Some (CreateSlot s)
finds_create s (Some (CreateSlot t)) e = let same : t ≡ s = eqb-true t s e in ap (λ (u : ℕ). Some (CreateSlot u)) same
finds_create s _ e = absurd (cc e)

pub finds_make : (n : ℕ) (kind : Option ActionKind) → is_make_of n kind ≡ true → kind ≡ Some (MakeNetwork n)
finds_make n (Some (MakeNetwork m)) e = let same : m ≡ n = eqb-true m n e in ap (λ (u : ℕ). Some (MakeNetwork u)) same
finds_make n _ e = absurd (cc e)
