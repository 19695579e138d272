-- An object that is made member by member.
use Rattle.std.specs.Prelude.{◌≡◌, false, List, fold}
use Rattle.serde_json.specs.Data.{Members}
use Rattle.serde_json.specs.View.{members_view}
use Rattle.engine_replies.specs.declared.objects.Object.{Object}
use Rattle.engine_bodies.specs.Json.{Member, with_member}

-- its members so far
abbrev pub members_of : Object → Members
members_of object = members_view object.members.entries

-- an object got these members more, unless memory was wanting for one of them
pub record Adds (old new : Object) (added : List Member) : Type 0 where
  pub kept : new.failed ≡ false → old.failed ≡ false
  pub members : new.failed ≡ false → members_of new ≡ fold with_member (members_of old) added
