-- What an Engine answers to a request is a reply of that request, and so is what a script is let answer.
use Rattle.std.proofs.Common.{◌≡◌, true}
use Rattle.engine_types.specs.declared.Engine.{Engine}
use Rattle.engine_types.specs.declared.Reply.{Reply}
use Rattle.engine_types.specs.declared.Request.{Request}
use Rattle.outside_api.specs.Rows.{IsOfRow}
use Rattle.run_model.specs.EngineRules.{Answers}
use Rattle.engine_hand.specs.ScriptHands.{is_of_row}

pub answers_fit : (old : Engine) (request : Request) (reply : Reply) (new : Engine) → Answers old request reply new → IsOfRow request reply
answers_fit old request (Reply.Refused status message) new h = tt
answers_fit old (Request.ListContainers project) (Reply.Containers rows) new h = tt
answers_fit old (Request.Inspect id) (Reply.State report) new h = tt
answers_fit old (Request.Logs id) (Reply.Bytes bytes) new h = tt
answers_fit old (Request.Create name spec) (Reply.Made id) new h = tt
answers_fit old (Request.Start id) Reply.Done new h = tt
answers_fit old (Request.Start id) Reply.Already new h = tt
answers_fit old (Request.Stop id seconds) Reply.Done new h = tt
answers_fit old (Request.Stop id seconds) Reply.Already new h = tt
answers_fit old (Request.Remove id) Reply.Done new h = tt
answers_fit old Request.ListNetworks (Reply.Networks rows) new h = tt
answers_fit old (Request.MakeNetwork spec) (Reply.Made id) new h = tt
answers_fit old (Request.Connect network container aliases) Reply.Done new h = tt
answers_fit old (Request.RemoveNetwork id) Reply.Done new h = tt
answers_fit old Request.ListVolumes (Reply.Volumes names) new h = tt
answers_fit old (Request.MakeVolume spec) Reply.Done new h = tt
answers_fit old (Request.RemoveVolume name) Reply.Done new h = tt
answers_fit old (Request.Image name) (Reply.ImageId id) new h = tt
answers_fit old (Request.Pull name) Reply.Pulled new h = tt
answers_fit old (Request.Pull name) (Reply.PullFailed message) new h = tt
answers_fit old request reply new h = absurd h

pub fits : (request : Request) (reply : Reply) → is_of_row request reply ≡ true → IsOfRow request reply
fits request (Reply.Refused status message) h = tt
fits (Request.ListContainers project) (Reply.Containers rows) h = tt
fits (Request.Inspect id) (Reply.State report) h = tt
fits (Request.Logs id) (Reply.Bytes bytes) h = tt
fits (Request.Create name spec) (Reply.Made id) h = tt
fits (Request.Start id) Reply.Done h = tt
fits (Request.Start id) Reply.Already h = tt
fits (Request.Stop id seconds) Reply.Done h = tt
fits (Request.Stop id seconds) Reply.Already h = tt
fits (Request.Remove id) Reply.Done h = tt
fits Request.ListNetworks (Reply.Networks rows) h = tt
fits (Request.MakeNetwork spec) (Reply.Made id) h = tt
fits (Request.Connect network container aliases) Reply.Done h = tt
fits (Request.RemoveNetwork id) Reply.Done h = tt
fits Request.ListVolumes (Reply.Volumes names) h = tt
fits (Request.MakeVolume spec) Reply.Done h = tt
fits (Request.RemoveVolume name) Reply.Done h = tt
fits (Request.Image name) (Reply.ImageId id) h = tt
fits (Request.Pull name) Reply.Pulled h = tt
fits (Request.Pull name) (Reply.PullFailed message) h = tt
fits request reply h = absurd (cc h)
