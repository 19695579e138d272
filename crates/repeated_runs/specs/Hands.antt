-- The hands of a call: new ones, and those of a call that sent nothing.
use Rattle.std.specs.Prelude.{◌≡◌, List, []}
use Rattle.compose_cli.specs.declared.Ended.{Ended}
use Rattle.engine_types.specs.declared.Exchange.{Exchange}
use Rattle.ledger_run.specs.Tellings.{Telling}
use Rattle.outside_api.specs.Clock.{new_clock}
use Rattle.outside_api.specs.Hands.{HeardNothing}
use Rattle.run_model.specs.EngineRules.{Among}

-- a hand that tells this is new: its log is empty, it heard nothing and counted no fault, and its clock was never used
pub record IsNew (told : Telling) : Type 0 where
  pub unused : told.log ≡ []
  pub unheard : HeardNothing told.heard
  pub faultless : told.faults ≡ 0
  pub unread : told.clock ≡ new_clock

-- each of these hands is new
abbrev pub AreNew : {H : Type 0} → (H → Telling) → List H → Type 0
AreNew {H} tell hands = (hand : H) → Among hands hand → IsNew (tell hand)

-- the journal is empty, and no hand that was made sent anything
abbrev pub NoneSent : {H : Type 0} → (H → List Exchange) → Ended H → Type 0
NoneSent {H} log ended =
    (ended.journal ≡ []) × ((hand : H) → Among ended.hands hand → log hand ≡ [])
