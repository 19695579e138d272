-- A worker holds what its latest claim, poll or end says.
use Rattle.std.proofs.Common.{◌≡◌, ℕ, Bool, true, false, List, [], ◌∷◌, Option, Some, refl, ap, ◌∙◌}
use Rattle.std.specs.Prelude.{find, if◌then◌else◌, ◌==◌}
use Rattle.engine_types.specs.declared.Entry.{Entry}
use Rattle.run_model.specs.Journals.{Holding, Nothing, Watch, Work, holding}
use Rattle.run_report.specs.Permits.{is_turn_of, permit_of}

chosen : (b : Bool) (entry : Entry) (o : Option Entry) → (if b then permit_of (Some entry) else permit_of o) ≡ permit_of (if b then Some entry else o)
chosen true entry o = refl
chosen false entry o = refl

pub holding_is : (past : List Entry) (w : ℕ) → holding past w ≡ permit_of (find (is_turn_of w) past)
holding_is [] w = refl
holding_is (Entry.Claim v a ∷ past) w =
    ap (λ (h : Holding). if v == w then Work a else h) (holding_is past w) ∙ chosen (v == w) (Entry.Claim v a) (find (is_turn_of w) past)
holding_is (Entry.Poll v s ∷ past) w =
    ap (λ (h : Holding). if v == w then Watch s else h) (holding_is past w) ∙ chosen (v == w) (Entry.Poll v s) (find (is_turn_of w) past)
holding_is (Entry.Ended v outcome ∷ past) w =
    ap (λ (h : Holding). if v == w then Nothing else h) (holding_is past w) ∙ chosen (v == w) (Entry.Ended v outcome) (find (is_turn_of w) past)
holding_is (Entry.Seen observed ∷ past) w = holding_is past w
holding_is (Entry.Idle v ∷ past) w = holding_is past w
holding_is (Entry.Leave v ∷ past) w = holding_is past w
holding_is (Entry.Stop v ∷ past) w = holding_is past w
holding_is (Entry.Late v why ∷ past) w = holding_is past w
holding_is (Entry.Short v ∷ past) w = holding_is past w
