-- What a call is refused with tells the refusal of files that it comes from.
use Rattle.std.proofs.Common.{◌≡◌, ◌∙◌, refl, sym, ap}
use Rattle.loaded_files.specs.declared.LoadRefusal.{LoadRefusal}
use Rattle.refusals.specs.Origins.{load_refusal}
use Rattle.refusals.specs.declared.refusal.Refusal.{Refusal}

-- the refusal of files that a call is refused with, where it is one
abbrev of_load : Refusal → LoadRefusal
of_load (Refusal.Load refusal) = refusal
of_load _ = LoadRefusal.Memory

comes_back : (refusal : LoadRefusal) → of_load (load_refusal refusal) ≡ refusal
comes_back (LoadRefusal.NotFound path) = refl
comes_back (LoadRefusal.ReadFault path) = refl
comes_back (LoadRefusal.FileTooLarge path) = refl
comes_back (LoadRefusal.TooManyFiles path) = refl
comes_back (LoadRefusal.NoHome path) = refl
comes_back (LoadRefusal.Yaml path cause) = refl
comes_back (LoadRefusal.EnvFile path cause) = refl
comes_back (LoadRefusal.Subst path cause) = refl
comes_back (LoadRefusal.Merge path cause) = refl
comes_back (LoadRefusal.BadShape at) = refl
comes_back (LoadRefusal.ExtendsCycle services) = refl
comes_back (LoadRefusal.NoSuchBase file service) = refl
comes_back (LoadRefusal.IncludeCycle files) = refl
comes_back (LoadRefusal.Conflict kind key file) = refl
comes_back LoadRefusal.Memory = refl

-- two refusals of files that a call is refused with alike are the same
pub one_load : (first second : LoadRefusal) → load_refusal first ≡ load_refusal second → first ≡ second
one_load first second e = sym (comes_back first) ∙ ap of_load e ∙ comes_back second
