use Rattle.std.proofs.Common.{Some, [], ap, map, arith}
use Rattle.std.proofs.lemmas.List.{length-map}
use Rattle.outside_api.specs.Accounts.{account}
use Rattle.engine_types.specs.declared.LogsRefusal.{LogsRefusal}
use Rattle.logs_run.proofs.Gathering.{logged_so, nobody}
use Rattle.logs_run.proofs.whole_run.fetch_all.Goals as goal

pub returns-in_default-clause-logged : goal.returns-in_default-clause-logged
returns-in_default-clause-logged g c =
    let some = c.requires.some in let few = c.requires.few in let long = length-map c.args.hands (λ h. account (g.H.Hand.log h) (g.H.Hand.heard h) (g.H.Hand.faults h)) in
    logged_so c.args.declared.now c.args.rows (map (λ h. account (g.H.Hand.log h) (g.H.Hand.heard h) (g.H.Hand.faults h)) c.args.hands) (map (λ h. account (g.H.Hand.log h) (g.H.Hand.heard h) (g.H.Hand.faults h)) c.args.hands) _ (Some LogsRefusal.Memory) _ [] _ (ap (λ hs. map (λ h. account (g.H.Hand.log h) (g.H.Hand.heard h) (g.H.Hand.faults h)) hs) c.unfetched.ensures.hands) c.unfetched.ensures.refusal c.unfetched.ensures.entries
    (nobody c.args.declared.now c.args.rows (map (λ h. account (g.H.Hand.log h) (g.H.Hand.heard h) (g.H.Hand.faults h)) c.args.hands) (omega (arith, some, long)) (omega (arith, few, long)) c.requires.slots)

pub returns-in_default-all_tasks-clause-logged : goal.returns-in_default-all_tasks-clause-logged
returns-in_default-all_tasks-clause-logged g c =
    let some = c.requires.some in let few = c.requires.few in let long = length-map c.args.hands (λ h. account (g.H.Hand.log h) (g.H.Hand.heard h) (g.H.Hand.faults h)) in
    logged_so c.args.declared.now c.args.rows (map (λ h. account (g.H.Hand.log h) (g.H.Hand.heard h) (g.H.Hand.faults h)) c.args.hands) (map (λ h. account (g.H.Hand.log h) (g.H.Hand.heard h) (g.H.Hand.faults h)) c.args.hands) _ (Some LogsRefusal.Memory) _ [] _ (ap (λ hs. map (λ h. account (g.H.Hand.log h) (g.H.Hand.heard h) (g.H.Hand.faults h)) hs) c.unfetched-in_default-all_tasks.ensures.hands) c.unfetched-in_default-all_tasks.ensures.refusal c.unfetched-in_default-all_tasks.ensures.entries
    (nobody c.args.declared.now c.args.rows (map (λ h. account (g.H.Hand.log h) (g.H.Hand.heard h) (g.H.Hand.faults h)) c.args.hands) (omega (arith, some, long)) (omega (arith, few, long)) c.requires.slots)

pub returns-in_default-begin-clause-logged : goal.returns-in_default-begin-clause-logged
returns-in_default-begin-clause-logged g c =
    let some = c.requires.some in let few = c.requires.few in let long = length-map c.args.hands (λ h. account (g.H.Hand.log h) (g.H.Hand.heard h) (g.H.Hand.faults h)) in
    logged_so c.args.declared.now c.args.rows (map (λ h. account (g.H.Hand.log h) (g.H.Hand.heard h) (g.H.Hand.faults h)) c.args.hands) (map (λ h. account (g.H.Hand.log h) (g.H.Hand.heard h) (g.H.Hand.faults h)) c.args.hands) _ (Some LogsRefusal.Memory) _ [] _ (ap (λ hs. map (λ h. account (g.H.Hand.log h) (g.H.Hand.heard h) (g.H.Hand.faults h)) hs) c.unfetched-in_default-begin.ensures.hands) c.unfetched-in_default-begin.ensures.refusal c.unfetched-in_default-begin.ensures.entries
    (nobody c.args.declared.now c.args.rows (map (λ h. account (g.H.Hand.log h) (g.H.Hand.heard h) (g.H.Hand.faults h)) c.args.hands) (omega (arith, some, long)) (omega (arith, few, long)) c.requires.slots)

pub returns-in-Err-clause-logged : goal.returns-in-Err-clause-logged
returns-in-Err-clause-logged g c =
    let some = c.requires.some in let few = c.requires.few in let long = length-map c.args.hands (λ h. account (g.H.Hand.log h) (g.H.Hand.heard h) (g.H.Hand.faults h)) in
    logged_so c.args.declared.now c.args.rows (map (λ h. account (g.H.Hand.log h) (g.H.Hand.heard h) (g.H.Hand.faults h)) c.args.hands) (map (λ h. account (g.H.Hand.log h) (g.H.Hand.heard h) (g.H.Hand.faults h)) c.args.hands) _ (Some LogsRefusal.Memory) _ [] _ (ap (λ hs. map (λ h. account (g.H.Hand.log h) (g.H.Hand.heard h) (g.H.Hand.faults h)) hs) c.unfetched-in-Err.ensures.hands) c.unfetched-in-Err.ensures.refusal c.unfetched-in-Err.ensures.entries
    (nobody c.args.declared.now c.args.rows (map (λ h. account (g.H.Hand.log h) (g.H.Hand.heard h) (g.H.Hand.faults h)) c.args.hands) (omega (arith, some, long)) (omega (arith, few, long)) c.requires.slots)
