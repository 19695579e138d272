-- Pieces that are written one after another.
use Rattle.std.proofs.Common.{ℕ, ◌+◌, List, ◌++◌, take, drop, Option, Some, None, refl, sym, ap, ◌∙◌, subst}
use Rattle.std.proofs.Math.Seq.{take-add}
use Rattle.std.proofs.lemmas.List.{append-nil, append_assoc}
use Rattle.outside_api.specs.Pipes.{Talk, ToldBy, after_write}

pub written_more : (a b c : Option Talk) (bytes : List ℕ) (i k : ℕ) → ToldBy (after_write (take i bytes)) a b
    → ToldBy (after_write (take k (drop i bytes))) b c → ToldBy (after_write (take (i + k) bytes)) a c
written_more None b c bytes i k w h =
    let on : ToldBy (after_write (take k (drop i bytes))) None c = subst (λ (t : Option Talk). ToldBy (after_write (take k (drop i bytes))) t c) w h in on
written_more (Some talk) b c bytes i k w h =
    let on : ToldBy (after_write (take k (drop i bytes))) (Some (after_write (take i bytes) talk)) c =
    subst (λ (t : Option Talk). ToldBy (after_write (take k (drop i bytes))) t c) w h in
    on
    ∙ ap (λ (s : List ℕ). Some (record talk { written = s }))
    (append_assoc talk.written (take i bytes) (take k (drop i bytes)) ∙ ap (λ (s : List ℕ). talk.written ++ s) (sym (take-add i k bytes)))

pub nothing_written : (a : Option Talk) (bytes : List ℕ) → ToldBy (after_write (take 0 bytes)) a a
nothing_written None bytes = refl
nothing_written (Some talk) bytes = ap (λ (s : List ℕ). Some (record talk { written = s })) (sym (append-nil talk.written))
