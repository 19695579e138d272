use Rattle.std.proofs.Common.{◌≡◌, ◌++◌, ap, ◌∙◌}
use Rattle.observe_project.proofs.Ends.{cause_of_end, observation_of}
use Rattle.observe_project.proofs.observing.observe.Goals as goal

pub returns-clause-observed : goal.returns-clause-observed
returns-clause-observed g c =
    let s = c.see-seen.ensures in
    let are : c.into_list.result ≡ s.made = c.into_list.ensures ∙ s.kept ∙ ap (λ k. k ++ s.made) c.new-exchanges.ensures in
    observation_of c.args.declared.now c.args.purpose s.made c.see-seen.result s.leads c.into_list.result c.end_of.result are c.end_of.ensures

pub returns-clause-log : goal.returns-clause-log
returns-clause-log g c =
    let s = c.see-seen.ensures in
    let are : c.into_list.result ≡ s.made = c.into_list.ensures ∙ s.kept ∙ ap (λ k. k ++ s.made) c.new-exchanges.ensures in
    rw are s.makes.log

pub returns-clause-told : goal.returns-clause-told
returns-clause-told g c =
    let s = c.see-seen.ensures in
    let are : c.into_list.result ≡ s.made = c.into_list.ensures ∙ s.kept ∙ ap (λ k. k ++ s.made) c.new-exchanges.ensures in
    rw are s.makes.told

pub returns-clause-cause : goal.returns-clause-cause
returns-clause-cause g c = rw c.end_of.ensures (cause_of_end _ _ _ c.see-seen.result c.see-seen.ensures.cause)

pub returns-clause-caused : goal.returns-clause-caused
returns-clause-caused g c =
    let s = c.see-seen.ensures in
    let are : c.into_list.result ≡ s.made = c.into_list.ensures ∙ s.kept ∙ ap (λ k. k ++ s.made) c.new-exchanges.ensures in
    rw are s.makes.caused

pub returns-clause-clock : goal.returns-clause-clock
returns-clause-clock g c = c.see-seen.ensures.makes.clock
