use Rattle.std.proofs.Common.{◌∙◌, ◌∷◌, [], ℕ, List, codes, sym}
use Rattle.engine_types.specs.declared.ContainerState.{ContainerState}
use Rattle.engine_json.proofs.Bodies.{passed_over}
use Rattle.engine_json.proofs.words.state_of.Goals as goal

pub returns-in_default : goal.returns-in_default
returns-in_default c =
    let word = c.args.word.now in
    let Rows : Type 0 = List (List ℕ × ContainerState) in
    let past_dead : Rows = [] in
    let past_exited : Rows = (codes "dead", ContainerState.Dead) ∷ past_dead in
    let past_removing : Rows = (codes "exited", ContainerState.Exited) ∷ past_exited in
    let past_restarting : Rows = (codes "removing", ContainerState.Removing) ∷ past_removing in
    let past_paused : Rows = (codes "restarting", ContainerState.Restarting) ∷ past_restarting in
    let past_running : Rows = (codes "paused", ContainerState.Paused) ∷ past_paused in
    let past_created : Rows = (codes "running", ContainerState.Running) ∷ past_running in
    sym (passed_over (codes "created") word ContainerState.Created past_created c.in_default.not-created
    ∙ passed_over (codes "running") word ContainerState.Running past_running c.in_default.not-running
    ∙ passed_over (codes "paused") word ContainerState.Paused past_paused c.in_default.not-paused
    ∙ passed_over (codes "restarting") word ContainerState.Restarting past_restarting c.in_default.not-restarting
    ∙ passed_over (codes "removing") word ContainerState.Removing past_removing c.in_default.not-removing
    ∙ passed_over (codes "exited") word ContainerState.Exited past_exited c.in_default.not-exited
    ∙ passed_over (codes "dead") word ContainerState.Dead past_dead c.in_default.not-dead)
