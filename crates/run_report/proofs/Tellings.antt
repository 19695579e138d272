-- How an action stands is said by the latest entry that claims it or ends it.
use Rattle.std.proofs.Common.{◌≡◌, ℕ, Bool, true, false, List, [], ◌∷◌, Option, Some, None, refl, sym, ap, ◌∙◌}
use Rattle.std.specs.Option.{option_map_or}
use Rattle.std.specs.Prelude.{if◌then◌else◌}
use Rattle.engine_types.specs.declared.Entry.{Entry}
use Rattle.run_model.specs.Journals.{Free, Setup, Standing, standing}
use Rattle.run_report.specs.Telling.{decides, latest_deciding, standing_by}

standing_is : (setup : Setup) (past : List Entry) (entry : Entry) (a : ℕ)
    → standing setup (entry ∷ past) a ≡ (if decides past entry a then standing_by setup.actions entry a else standing setup past a)
standing_is setup past (Entry.Claim v b) a = refl
standing_is setup past (Entry.Ended v outcome) a = refl
standing_is setup past (Entry.Poll v s) a = refl
standing_is setup past (Entry.Seen observed) a = refl
standing_is setup past (Entry.Idle v) a = refl
standing_is setup past (Entry.Leave v) a = refl
standing_is setup past (Entry.Stop v) a = refl
standing_is setup past (Entry.Late v why) a = refl
standing_is setup past (Entry.Short v) a = refl

-- how an action stands by the entry that says so, if any
abbrev stands : Setup → ℕ → Option Entry → Standing
stands setup a o = option_map_or (λ (entry : Entry). standing_by setup.actions entry a) o Free

chosen : (setup : Setup) (a : ℕ) (b : Bool) (entry : Entry) (o : Option Entry) → (if b then standing_by setup.actions entry a else stands setup a o) ≡ stands setup a (if b then Some entry else o)
chosen setup a true entry o = refl
chosen setup a false entry o = refl

latest_stands : (setup : Setup) (past : List Entry) (a : ℕ) → standing setup past a ≡ stands setup a (latest_deciding past a)
latest_stands setup [] a = refl
latest_stands setup (entry ∷ past) a =
    standing_is setup past entry a
    ∙ ap (λ (s : Standing). if decides past entry a then standing_by setup.actions entry a else s) (latest_stands setup past a)
    ∙ chosen setup a (decides past entry a) entry (latest_deciding past a)

pub stands_by : (setup : Setup) (past : List Entry) (a : ℕ) (entry : Entry) → Some entry ≡ latest_deciding past a → standing_by setup.actions entry a ≡ standing setup past a
stands_by setup past a entry e = sym (latest_stands setup past a ∙ ap (stands setup a) (sym e))

pub stands_free : (setup : Setup) (past : List Entry) (a : ℕ) → None ≡ latest_deciding past a → Free ≡ standing setup past a
stands_free setup past a e = sym (latest_stands setup past a ∙ ap (stands setup a) (sym e))
