-- What an exchange of each fate comes to is determined, where no memory is wanted.
use Rattle.std.proofs.Common.{◌≡◌, ◌∙◌, false, ap, sym}
use Rattle.std.specs.Prelude.{if◌then◌else◌}
use Rattle.engine_types.specs.declared.Engine.{Engine}
use Rattle.engine_types.specs.declared.Outcome.{Outcome}
use Rattle.engine_types.specs.declared.Reply.{Reply}
use Rattle.engine_types.specs.declared.Request.{Request}
use Rattle.engine_types.specs.declared.WireEnd.{WireEnd}
use Rattle.engine_hand.specs.Fates.{ComesTo, fate_of, lacks_id}
use Rattle.engine_hand.specs.declared.fate.Fate.{Fate}
use Rattle.memory_engine.specs.Serving.{served}
use Rattle.memory_engine.specs.declared.catalogue.Catalogue.{Catalogue}
use Rattle.outside_files.specs.Counts.{one_more}
use Rattle.run_model.specs.Logs.{is_memory}
use Rattle.deterministic_runs.specs.MemoryRules.{MemoryIsDetermined, coming}

-- an outcome with the Engine after it
abbrev both : Outcome → Engine → Outcome × Engine
both outcome engine = (outcome, engine)

same : (a b : Outcome) (x y : Engine) → a ≡ b → x ≡ y → both b y ≡ both a x
same a b x y e f = ap (λ (o : Outcome). both o y) (sym e) ∙ ap (λ (z : Engine). both a z) (sym f)

by_fate : (fate : Fate) (catalogue : Catalogue) (old : Engine) (request : Request) (outcome : Outcome) (new : Engine)
    → is_memory outcome ≡ false → ComesTo fate catalogue old request outcome new → coming fate catalogue old request ≡ both outcome new
by_fate Fate.Answered catalogue old request (Outcome.Answered reply) new ample comes =
    ap (λ (p : Reply × Engine). both (Outcome.Answered p.0) p.1) comes
by_fate Fate.Answered catalogue old request (Outcome.Lost cause) new ample comes = absurd comes
by_fate Fate.Answered catalogue old request Outcome.NotSent new ample comes = absurd comes
by_fate Fate.Answered catalogue old request Outcome.Memory new ample comes = absurd (cc ample)
by_fate Fate.LostAfter catalogue old request (Outcome.Answered reply) new ample comes = absurd (cc comes.0)
by_fate Fate.LostAfter catalogue old request (Outcome.Lost cause) new ample comes =
    same (Outcome.Lost cause) (Outcome.Lost WireEnd.Fault) new (if lacks_id old request then old else (served catalogue old request).1) comes.0 comes.1
by_fate Fate.LostAfter catalogue old request Outcome.NotSent new ample comes = absurd (cc comes.0)
by_fate Fate.LostAfter catalogue old request Outcome.Memory new ample comes = absurd (cc ample)
by_fate Fate.LostBefore catalogue old request outcome new ample comes = same outcome (Outcome.Lost WireEnd.Fault) new old comes.0 comes.1
by_fate Fate.NotSent catalogue old request outcome new ample comes = same outcome Outcome.NotSent new old comes.0 comes.1

pub memory_is_determined : MemoryIsDetermined
memory_is_determined catalogue plan stand request outcome new ample comes =
    by_fate (fate_of plan (one_more stand.made)) catalogue stand.engine request outcome new ample comes
