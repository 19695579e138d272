-- What a text begins with, as the parts of `interpolate`.
use Rattle.interpolate.specs.declared.part.Action.{Action}
use Rattle.interpolate.specs.declared.part.Action.TheVariants as actions
use Rattle.interpolate.specs.Shapes.{Part, Literal, Dollar, Name, Value, Form, Unclosed, Wrong}
use Rattle.unset_variables.specs.declared.part.Head.{Head}
use Rattle.unset_variables.specs.declared.part.Head.TheVariants as heads
use Rattle.unset_variables.specs.declared.part.Taking.{Taking}
use Rattle.unset_variables.specs.declared.part.Taking.TheVariants as takings

-- an operator
abbrev pub action_of : Taking → Action
action_of takings.Default = actions.Default
action_of takings.Require = actions.Require
action_of takings.Replace = actions.Replace

-- a part
abbrev pub part_of : Head → Part
part_of (heads.Literal len) = Literal len
part_of heads.Dollar = Dollar
part_of (heads.Name len) = Name len
part_of (heads.Value len) = Value len
part_of (heads.Form name colon taking tail) = Form name colon (action_of taking) tail
part_of heads.Unclosed = Unclosed
part_of heads.Wrong = Wrong
