use Rattle.std.proofs.Common.{◌∙◌, List, Result, ap, map, subst, arith}
use Rattle.engine_types.specs.declared.Listed.{Listed}
use Rattle.outside_api.specs.Accounts.{account}
use Rattle.logs_run.specs.Listing.{ListsWith}
use Rattle.engine_types.specs.declared.LogsRefusal.{LogsRefusal}
use Rattle.logs_run.proofs.Gathering.{clocks_listed, listed_badly, listed_well}
use Rattle.logs_run.proofs.whole_run.logs_run.Goals as goal

pub returns-in-Ok-clause-logged : goal.returns-in-Ok-clause-logged
returns-in-Ok-clause-logged g c =
    listed_well (λ h. account (g.H.Hand.log h) (g.H.Hand.heard h) (g.H.Hand.faults h)) (λ h. g.H.Hand.clock h) c.args.declared.now c.in-Ok.rows c.args.hands c.list_with-hands.result.0 _ _ _ (omega arith)
    (subst (λ (r : Result (List Listed) LogsRefusal). ListsWith (λ h. account (g.H.Hand.log h) (g.H.Hand.heard h) (g.H.Hand.faults h)) (λ h. g.H.Hand.clock h) c.args.declared.now r c.args.hands c.list_with-hands.result.0) c.in-Ok.is c.list_with-hands.ensures.lists) c.fetch_all.ensures.logged

pub returns-in-Ok-clause-clocks : goal.returns-in-Ok-clause-clocks
returns-in-Ok-clause-clocks g c =
    c.fetch_all.ensures.clocks ∙ clocks_listed (λ h. account (g.H.Hand.log h) (g.H.Hand.heard h) (g.H.Hand.faults h)) (λ h. g.H.Hand.clock h) c.args.declared.now c.list_with-hands.result.1 c.args.hands c.list_with-hands.result.0 c.list_with-hands.ensures.lists

pub returns-in-Err-clause-logged : goal.returns-in-Err-clause-logged
returns-in-Err-clause-logged g c =
    listed_badly (λ h. account (g.H.Hand.log h) (g.H.Hand.heard h) (g.H.Hand.faults h)) (λ h. g.H.Hand.clock h) c.args.declared.now c.in-Err.refusal c.args.hands c.list_with-hands.result.0 _ _ _ (omega arith)
    (subst (λ (r : Result (List Listed) LogsRefusal). ListsWith (λ h. account (g.H.Hand.log h) (g.H.Hand.heard h) (g.H.Hand.faults h)) (λ h. g.H.Hand.clock h) c.args.declared.now r c.args.hands c.list_with-hands.result.0) c.in-Err.is c.list_with-hands.ensures.lists) (ap (λ hs. map (λ h. account (g.H.Hand.log h) (g.H.Hand.heard h) (g.H.Hand.faults h)) hs) c.ended-in-Err.ensures.hands) c.ended-in-Err.ensures.refusal (c.ended-in-Err.ensures.entries ∙ c.new-in-Err.ensures)

pub returns-in-Err-clause-clocks : goal.returns-in-Err-clause-clocks
returns-in-Err-clause-clocks g c =
    ap (λ hs. map (λ h. g.H.Hand.clock h) hs) c.ended-in-Err.ensures.hands
    ∙ clocks_listed (λ h. account (g.H.Hand.log h) (g.H.Hand.heard h) (g.H.Hand.faults h)) (λ h. g.H.Hand.clock h) c.args.declared.now c.list_with-hands.result.1 c.args.hands c.list_with-hands.result.0 c.list_with-hands.ensures.lists
