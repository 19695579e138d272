use Rattle.std.proofs.Common.{◌≡◌, ap, length, subst, sym}
use Rattle.std.specs.Prelude.{Result, Err, IfErr}
use Rattle.std.proofs.lemmas.Result.{err_from_is_err_and}
use Rattle.compose_words.specs.declared.refusal.WordsRefusal.{WordsRefusal}
use Rattle.compose_words.proofs.RefusalLemmas.{answers_words, items_or_refusal-words, options_of_items-words, and_then-given}
use Rattle.compose_words.proofs.BoundLemmas.{answer-bounded, options_of-bounded}
use Rattle.compose_words.proofs.PlaceLemmas.{answer-placed, items_or_refusal-placed, options_of-placed}
use Rattle.compose_words.specs.Bounds.{IsWithin}
use Rattle.compose_words.specs.declared.options.Options.{Options}
use Rattle.compose_words.specs.Reading.{IsUnlessMemory, items_or_refusal, options_of, options_of_items}
use Rattle.compose_words.proofs.read.read_words.Goals as goal

pub returns-in_err-items-clause-host : goal.returns-in_err-items-clause-host
returns-in_err-items-clause-host c = λ e.
    let from = err_from_is_err_and c.from_residual.result c.from_residual.ensures.1 in
    let same : c.in_err-items.field-0.0 ≡ WordsRefusal.BadHost = cc (from.1, from.2) in
    answers_words (Err c.in_err-items.field-0.0) _ c.in_err-items.ensures (items_or_refusal-words c.args.words.now) (ap Err same)

pub returns-clause-host : goal.returns-clause-host
returns-clause-host c =
    let read : IsUnlessMemory c.options_of_items.result (options_of_items c.in_ok-items.items) = rw (← c.as_slice.ensures) c.options_of_items.ensures in
    answers_words c.options_of_items.result (options_of_items c.in_ok-items.items) read (options_of_items-words c.in_ok-items.items)

pub returns-clause-bounds : goal.returns-clause-bounds
returns-clause-bounds c =
    let words = c.args.words.now in
    let answer = c.options_of_items.result in
    let read : IsUnlessMemory answer (options_of_items c.in_ok-items.items) = rw (← c.as_slice.ensures) c.options_of_items.ensures in
    let meant = and_then-given options_of_items (items_or_refusal words) c.in_ok-items.items answer c.in_ok-items.ensures read in
    answer-bounded answer (options_of words) meant (options_of-bounded words)

pub returns-in_err-items-clause-places : goal.returns-in_err-items-clause-places
returns-in_err-items-clause-places c =
    let words = c.args.words.now in
    let refusal = c.in_err-items.field-0.0 in
    let from = err_from_is_err_and c.from_residual.result c.from_residual.ensures.1 in
    let placed : IsWithin (length words) refusal = answer-placed (length words) (Err refusal) _ c.in_err-items.ensures (items_or_refusal-placed words) in
    let is : c.from_residual.result ≡ Err refusal = cc (from.1, from.2) in
    subst (λ (r : Result Options WordsRefusal). IfErr r (IsWithin (length words))) (sym is) placed

pub returns-clause-places : goal.returns-clause-places
returns-clause-places c =
    let words = c.args.words.now in
    let answer = c.options_of_items.result in
    let read : IsUnlessMemory answer (options_of_items c.in_ok-items.items) = rw (← c.as_slice.ensures) c.options_of_items.ensures in
    let meant = and_then-given options_of_items (items_or_refusal words) c.in_ok-items.items answer c.in_ok-items.ensures read in
    answer-placed (length words) answer (options_of words) meant (options_of-placed words)
