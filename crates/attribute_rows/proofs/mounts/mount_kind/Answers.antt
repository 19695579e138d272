use Rattle.std.proofs.Common.{◌∙◌, Bool, ap, codes, refl, sym}
use Rattle.std.specs.Prelude.{if◌then◌else◌}
use Rattle.std.specs.Str.{bytes_eq}
use Rattle.short_forms.specs.declared.mounts.MountKind.{MountKind}
use Rattle.attribute_rows.proofs.Words.{differs}
use Rattle.attribute_rows.proofs.mounts.mount_kind.Goals as goal

pub returns-in-bind : goal.returns-in-bind
returns-in-bind c = rw c.in-bind.is refl

pub returns-in-tmpfs : goal.returns-in-tmpfs
returns-in-tmpfs c = rw c.in-tmpfs.is refl

pub returns-in_default : goal.returns-in_default
returns-in_default c =
    let word = c.args.word.now in
    sym (ap (λ (b : Bool). if b then MountKind.Bind else (if bytes_eq word (codes "tmpfs") then MountKind.Tmpfs else MountKind.Volume)) (differs word (codes "bind") c.in_default.not-bind)
    ∙ ap (λ (b : Bool). if b then MountKind.Tmpfs else MountKind.Volume) (differs word (codes "tmpfs") c.in_default.not-tmpfs))
