-- Entries in their long forms, as they are put one by one.
use Rattle.std.proofs.Common.{◌≡◌, ℕ, List, [], ◌∷◌, Option, None, Some, refl}
use Rattle.std.specs.Prelude.{codes}
use Rattle.tree_base.specs.Entries.{with_entry}
use Rattle.tree_base.specs.declared.Tree.{Scalar}
use Rattle.short_forms.specs.LongForms.{with_text}
use Rattle.short_forms.specs.MountLaws.{with_label}
use Rattle.long_forms.specs.Fields.{with_given, with_labelled}

-- the entries of a port
pub port_entries : (target protocol : List ℕ) (published host : Option (List ℕ)) → with_given (with_given (with_entry (with_entry [] (codes "target") (Scalar target)) (codes "protocol") (Scalar protocol)) (codes "published") published) (codes "host_ip") host
    ≡ (codes "target", Scalar target) ∷ (codes "protocol", Scalar protocol) ∷ with_text (codes "published") published (with_text (codes "host_ip") host [])
port_entries target protocol None None = refl
port_entries target protocol None (Some host) = refl
port_entries target protocol (Some published) None = refl
port_entries target protocol (Some published) (Some host) = refl

-- the entries of a mount
pub mount_entries : (kind target flag : List ℕ) (source label : Option (List ℕ)) → with_labelled (with_entry (with_given (with_entry (with_entry [] (codes "type") (Scalar kind)) (codes "target") (Scalar target)) (codes "source") source) (codes "read_only") (Scalar flag)) label
    ≡ (codes "type", Scalar kind) ∷ (codes "target", Scalar target) ∷ with_text (codes "source") source ((codes "read_only", Scalar flag) ∷ with_label label)
mount_entries kind target flag None None = refl
mount_entries kind target flag None (Some label) = refl
mount_entries kind target flag (Some source) None = refl
mount_entries kind target flag (Some source) (Some label) = refl
