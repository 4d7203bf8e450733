use Rattle.std.proofs.Common.{◌≤◌, arith, subst, string_bytes, length, take}
use Rattle.std.proofs.lemmas.List.Folds.{length-prefix_len}
use Rattle.std.proofs.lemmas.List.Sums.{prefix_len-le-length}
use Rattle.fr_syntax.specs.Meanings.{term_of}
use Rattle.fr_meaning.specs.PoolView.{whole_of}
use Rattle.replay_answers.specs.Replay.{is_of_source, source_in}
use Rattle.source_front.specs.Typed.{IsTyped}
use Rattle.replay_answers.proofs.Stepping.{few_at_start}
use Rattle.replay_answers.proofs.Unfollowed.{unfollowed_answer}
use Rattle.replay_answers.proofs.Following.{all_replayed}
use Rattle.replay_answers.proofs.replay.follow_source.Goals as goal

pub follow_order-requires : goal.follow_order-requires
follow_order-requires c =
    let bytes = c.args.bytes.now in
    let t = term_of c.in_ok-checked.checked.arena in
    let typed : IsTyped (source_in bytes) t = subst (λ n. IsTyped (take n bytes) t) c.source_length-source.ensures.length c.in_ok-checked.ensures.typed in
    let short : length (source_in bytes) ≤ 1048576 = omega (arith, c.requires, length-prefix_len is_of_source bytes, prefix_len-le-length is_of_source bytes) in
    record { few = few_at_start (source_in bytes) t c.in_ok-pool.pool typed short c.in_ok-pool.ensures.start }

pub returns-clause-replays : goal.returns-clause-replays
returns-clause-replays c =
    let bytes = c.args.bytes.now in
    let t = term_of c.in_ok-checked.checked.arena in
    let typed : IsTyped (source_in bytes) t = subst (λ n. IsTyped (take n bytes) t) c.source_length-source.ensures.length c.in_ok-checked.ensures.typed in
    all_replayed bytes t c.in_ok-order.order.items (whole_of c.in_ok-pool.pool) c.follow_order.result (λ r. r.0) (λ r. string_bytes r.1) typed c.in_ok-order.ensures.ok c.in_ok-pool.ensures.start c.follow_order.ensures.replays

pub returns-clause-refused : goal.returns-clause-refused
returns-clause-refused c =
    let bytes = c.args.bytes.now in
    let t = term_of c.in_ok-checked.checked.arena in
    let typed : IsTyped (source_in bytes) t = subst (λ n. IsTyped (take n bytes) t) c.source_length-source.ensures.length c.in_ok-checked.ensures.typed in
    unfollowed_answer bytes t c.in_ok-order.order.items (whole_of c.in_ok-pool.pool) c.follow_order.result typed c.in_ok-order.ensures.ok c.in_ok-pool.ensures.start c.follow_order.ensures.stopped
