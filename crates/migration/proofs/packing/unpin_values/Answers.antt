use Rattle.std.proofs.Common.{rules, arith, ◌≡◌, ◌<◌, ◌+◌, suc, length, drop, slice_index_or, slice_set, ap, subst, ◌∙◌}
use Rattle.migration.specs.Packing.{unpin_all, pinned_words}
use Rattle.migration.proofs.PinLemmas.{value_at, value_users, value_ended, value_set, done_all, done_to}
use Rattle.migration.proofs.packing.unpin_values.Goals as goal

pub unpin_value-requires : goal.unpin_value-requires
unpin_value-requires c =
    let low : c.values.at < length c.args.values.now.items = search rules in
    let here : c.index.result.now ≡ slice_index_or c.values.values.items c.values.at c.index.result.now = search rules in
    let at = value_at c.values.at c.args.values.now.items c.values.values.items c.index.result.now c.values.invariant.values here low in
    record { users = value_users c.values.at c.args.values.now.items c.index.result.now c.values.cache.state _ at low c.values.invariant.state c.requires.users }

pub values-preserved : goal.values-preserved
values-preserved c =
    let low : c.values.at < length c.args.values.now.items = search rules in
    let here : c.index.result.now ≡ slice_index_or c.values.values.items c.values.at c.index.result.now = search rules in
    let at = value_at c.values.at c.args.values.now.items c.values.values.items c.index.result.now c.values.invariant.values here low in
    let more : suc c.values.at ≡ c.values.at + 1 = omega arith in
    record {
      values = subst (λ n. slice_set c.values.values.items c.values.at c.unpin_value.result ≡ done_to n c.args.values.now.items) more (value_set c.values.at c.args.values.now.items c.values.values.items c.index.result.now c.unpin_value.result c.values.invariant.values at low c.unpin_value.ensures.value);
      state = subst (λ n. unpin_all (pinned_words (drop n c.args.values.now.items)) c.unpin_value.new.cache.state ≡ unpin_all (pinned_words c.args.values.now.items) c.args.cache.now.state) more (value_ended c.values.at c.args.values.now.items c.index.result.now c.values.cache.state c.unpin_value.new.cache.state _ at low c.values.invariant.state c.unpin_value.ensures.state);
      rooms = c.unpin_value.ensures.rooms ∙ c.values.invariant.rooms;
    }

pub returns-clause-values : goal.returns-clause-values
returns-clause-values c =
    let end : c.values.at ≡ length c.args.values.now.items = search rules in
    c.values.invariant.values ∙ ap (λ n. done_to n c.args.values.now.items) end ∙ done_all c.args.values.now.items
