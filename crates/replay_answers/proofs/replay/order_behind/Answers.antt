use Rattle.std.proofs.Common.{◌≡◌, ◌+◌, Some, drop, rules, sym, ap, ◌∙◌, subst}
use Rattle.std.specs.Prelude.{slice_get}
use Rattle.std.proofs.lemmas.Option.{slice_get-get_or}
use Rattle.journal.specs.OrderText.{IsOrder}
use Rattle.journal.specs.OrderFaults.{IsRefusedOrNoMemory}
use Rattle.replay_answers.specs.Replay.{order_start}
use Rattle.replay_answers.proofs.Marks.{marked, unordered_lines}
use Rattle.replay_answers.proofs.replay.order_behind.Goals as goal

pub returns-in-Ok-clause-ok : goal.returns-in-Ok-clause-ok
returns-in-Ok-clause-ok c =
    let bytes = c.args.bytes.now in
    let there : Some c.in-Some.byte.now ≡ slice_get bytes (c.args.source + 1) = ap Some c.in-Some.ensures.lookup.1 ∙ sym (slice_get-get_or bytes (c.args.source + 1) c.in-Some.byte.now c.in-Some.ensures.lookup.3.0) in
    let newline : c.in-Some.byte.now ≡ 10 = search rules in
    record {
      order = drop (c.args.source + 2) bytes;
      marked = marked bytes c.args.source c.in-Some.byte.now c.requires.source there newline;
      spelled = subst (λ n. IsOrder (n + 2) (drop (c.args.source + 2) bytes) c.in-Ok.order.items) c.requires.source c.in-Ok.ensures.ok;
    }

pub returns-in-Err-clause-err : goal.returns-in-Err-clause-err
returns-in-Err-clause-err c =
    let bytes = c.args.bytes.now in
    let there : Some c.in-Some.byte.now ≡ slice_get bytes (c.args.source + 1) = ap Some c.in-Some.ensures.lookup.1 ∙ sym (slice_get-get_or bytes (c.args.source + 1) c.in-Some.byte.now c.in-Some.ensures.lookup.3.0) in
    let newline : c.in-Some.byte.now ≡ 10 = search rules in
    unordered_lines bytes (drop (c.args.source + 2) bytes) c.refused_order.result
    (marked bytes c.args.source c.in-Some.byte.now c.requires.source there newline)
    (c.refused_order.ensures (order_start bytes) (drop (c.args.source + 2) bytes) (subst (λ n. IsRefusedOrNoMemory (n + 2) (drop (c.args.source + 2) bytes) c.in-Err.error) c.requires.source c.in-Err.ensures.err))
