-- Which replies a request of the Docker Engine API may have.
use Rattle.engine_types.specs.declared.Reply.{Reply}
use Rattle.engine_types.specs.declared.Request.{Request}

-- a reply is one of its request's: a refusal, which every request may have, or what this one gives at a good status
abbrev pub IsOfRow : Request → Reply → Type 0
IsOfRow request (Reply.Refused status message) = Unit {0}
IsOfRow (Request.ListContainers project) (Reply.Containers rows) = Unit {0}
IsOfRow (Request.Inspect id) (Reply.State report) = Unit {0}
IsOfRow (Request.Logs id) (Reply.Bytes bytes) = Unit {0}
IsOfRow (Request.Create name spec) (Reply.Made id) = Unit {0}
IsOfRow (Request.Start id) Reply.Done = Unit {0}
IsOfRow (Request.Start id) Reply.Already = Unit {0}
IsOfRow (Request.Stop id seconds) Reply.Done = Unit {0}
IsOfRow (Request.Stop id seconds) Reply.Already = Unit {0}
IsOfRow (Request.Remove id) Reply.Done = Unit {0}
IsOfRow Request.ListNetworks (Reply.Networks rows) = Unit {0}
IsOfRow (Request.MakeNetwork spec) (Reply.Made id) = Unit {0}
IsOfRow (Request.Connect network container aliases) Reply.Done = Unit {0}
IsOfRow (Request.RemoveNetwork id) Reply.Done = Unit {0}
IsOfRow Request.ListVolumes (Reply.Volumes names) = Unit {0}
IsOfRow (Request.MakeVolume spec) Reply.Done = Unit {0}
IsOfRow (Request.RemoveVolume name) Reply.Done = Unit {0}
IsOfRow (Request.Image name) (Reply.ImageId id) = Unit {0}
IsOfRow (Request.Pull name) Reply.Pulled = Unit {0}
IsOfRow (Request.Pull name) (Reply.PullFailed message) = Unit {0}
IsOfRow _ _ = ⊥
