use Rattle.std.proofs.Common.{◌≡◌, length}
use denote.Shadow.{shadow}
use denote.Text.{Utf8}
use Rattle.short_forms.specs.Cuts.{parts_at}
use Rattle.short_forms.specs.Mounts.{mode_behind, mode_of}
use Rattle.short_forms.proofs.mounts.read_mode.Given as goal

-- the words that are left, behind the mode so far, say what all words say
abbrev pub invariant-loop-word : goal.invariant-loop-word
invariant-loop-word l = shadow (Utf8 l.rest) × (mode_behind l.mode (parts_at 44 l.rest) ≡ mode_of l.text)

abbrev pub decreases-loop-word : goal.decreases-loop-word
decreases-loop-word l = length l.rest
