use Rattle.std.proofs.Common.{◌≡◌, List, All, subst, sym}
use Rattle.std.specs.Prelude.{Some, IsSome, false}
use Rattle.thread_state.specs.View.{ThreadView, is_pinned}
use Rattle.migration.specs.Packing.{unpin_all, pinned_words, used_words}
use Rattle.migration.proofs.PinLemmas.{some_front, some_two, some_three, all_three, uses_end, none_pinned, packs, packs_seen}
use Rattle.migration.proofs.packing.unpin_thread.Goals as goal

pub unpin_words-requires : goal.unpin_words-requires
unpin_words-requires c =
    let cs = c.args.cache.now.state in
    let used = subst (λ (x : ThreadView). IsSome (unpin_all (used_words x.state) cs)) (sym c.thread.view_is) (uses_end c.args.thread.now.state cs c.requires.users) in
    record { users = subst (λ (ws : List _). IsSome (unpin_all ws cs)) (sym c.deref.ensures.value) (some_front c.thread.inside.walk.items (pinned_words c.thread.inside.slots.items) cs (some_front _ (pinned_words c.thread.inside.temps.items) cs used)) }

pub unpin_values-requires : goal.unpin_values-requires
unpin_values-requires c =
    let cs = c.args.cache.now.state in
    let used = subst (λ (x : ThreadView). IsSome (unpin_all (used_words x.state) cs)) (sym c.thread.view_is) (uses_end c.args.thread.now.state cs c.requires.users) in
    let first = subst (λ (ws : List _). unpin_all ws cs ≡ Some c.unpin_words.new.cache.state) c.deref.ensures.value c.unpin_words.ensures.state in
    record { users = some_two c.thread.inside.walk.items (pinned_words c.thread.inside.slots.items) (pinned_words c.thread.inside.temps.items) cs _ used first }

pub unpin_values-requires-2 : goal.unpin_values-requires-2
unpin_values-requires-2 c =
    let cs = c.args.cache.now.state in
    let used = subst (λ (x : ThreadView). IsSome (unpin_all (used_words x.state) cs)) (sym c.thread.view_is) (uses_end c.args.thread.now.state cs c.requires.users) in
    let first = subst (λ (ws : List _). unpin_all ws cs ≡ Some c.unpin_words.new.cache.state) c.deref.ensures.value c.unpin_words.ensures.state in
    record { users = some_three c.thread.inside.walk.items (pinned_words c.thread.inside.slots.items) (pinned_words c.thread.inside.temps.items) cs _ _ used first c.unpin_values.ensures.state }

pub returns-clause-free : goal.returns-clause-free
returns-clause-free c = record {
  walk = c.clear.ensures.items;
  slots = subst (All (λ v. is_pinned v ≡ false)) (sym c.unpin_values.ensures.values) (none_pinned c.thread.inside.slots.items);
  temps = subst (All (λ v. is_pinned v ≡ false)) (sym c.unpin_values-2.ensures.values) (none_pinned c.thread.inside.temps.items);
}

pub returns-clause-packed : goal.returns-clause-packed
returns-clause-packed c =
    let cs = c.args.cache.now.state in
    let first = subst (λ (ws : List _). unpin_all ws cs ≡ Some c.unpin_words.new.cache.state) c.deref.ensures.value c.unpin_words.ensures.state in
    let all = all_three c.thread.inside.walk.items (pinned_words c.thread.inside.slots.items) (pinned_words c.thread.inside.temps.items) cs _ _ _ first c.unpin_values.ensures.state c.unpin_values-2.ensures.state in
    packs_seen cs c.thread.view_is (packs _ cs _ all c.clear.ensures.items c.unpin_values.ensures.values c.unpin_values-2.ensures.values)
