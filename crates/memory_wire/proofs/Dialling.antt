-- What is taken first of a list stands before what is left.
use Rattle.std.proofs.Common.{◌≡◌, List, [], ◌∷◌, Some, sym, ap, ◌∙◌}
use Rattle.std.specs.Prelude.{slice_get}
use Rattle.std.specs.List.{remove}
use Rattle.memory_wire.specs.declared.memory_pipe.MemoryPipe.{MemoryPipe}

pub first_removed : (pipes rest : List MemoryPipe) (first : MemoryPipe) → slice_get pipes 0 ≡ Some first → rest ≡ remove pipes 0 → pipes ≡ first ∷ rest
first_removed [] rest first is left = absurd (cc)
first_removed (pipe ∷ pipes) rest first is left =
    let same : pipe ≡ first = cc in
    ap (λ (p : MemoryPipe). p ∷ pipes) same ∙ ap (λ (l : List MemoryPipe). first ∷ l) (sym left)
