-- Gifts: what a thread waited for comes to it, and its step takes it.
use Rattle.std.proofs.Common.{◌≡◌, ℕ, List, [], ◌∷◌, ◌++◌, Option, Some, None, refl, sym, subst}
use Rattle.coherent_memory.specs.Below.fr_base.declared.name.MutexNo.{MutexNo}
use Rattle.coherent_memory.specs.Below.heap_partition.declared.value.Owned.{Owned}
use Rattle.coherent_memory.specs.Below.heap_partition.declared.value.Owned.TheVariants as owned
use Rattle.coherent_memory.specs.Below.thread_state.View.{ThreadState}
use Rattle.coherent_memory.specs.Below.thread_state.declared.phase.Phase.TheVariants as phase
use Rattle.coherent_memory.specs.Below.server_msgs.declared.message.Message.TheVariants as message
use Rattle.coherent_memory.specs.Below.server_model.Work.{Hand}
use Rattle.coherent_memory.specs.Below.server_model.Sharing.{given, waits_for_lock, deliver_granted, waits_for_dup, deliver_dupped}
use Rattle.coherent_memory.specs.Below.server_model.Joining.{waits_for_join, deliver_joined}
use Rattle.coherent_memory.specs.Below.server_model.Commit.{take_gift}
use Rattle.coherent_memory.specs.Things.{Thing, Spot, in_hand, as_gift, as_content, as_result, holds, sent, gift_things, walk_things, slot_things, temp_things, things_at}
use Rattle.law_counts_sums.specs.Laws.{Gives}
use Rattle.law_counts_sums.proofs.Trades.{Trade, trade_right, trade_whole}
use Rattle.law_counts_sums.proofs.Rules.{Rule, hands_on, takes_share, padded_news, Kept}
use Rattle.law_counts_sums.proofs.Results.{test_gives}
use Rattle.law_counts_sums.proofs.Bags.{HandOk, had_by}
use Rattle.law_counts_sums.proofs.Objects.{one_goes, one_comes}
use Rattle.law_counts_sums.proofs.Values.{thread_trades}

-- all but the gift
abbrev beside_gift : ℕ → ThreadState → List Thing → List Thing
beside_gift n t g = g ++ things_at (walk_things n) 0 t.walk ++ things_at (slot_things n t.number) 0 t.slots ++ things_at (temp_things n t.number) 0 t.temps

gift_trade : (n : ℕ) (t : ThreadState) (a b : List Thing) → Trade (beside_gift n t a) a b (beside_gift n t b)
gift_trade n t a b = trade_right (things_at (temp_things n t.number) 0 t.temps) (trade_right (things_at (slot_things n t.number) 0 t.slots) (trade_right (things_at (walk_things n) 0 t.walk) (trade_whole a b)))

module _ {K : List Thing → Type 0} (k : Kept K) (n e t : ℕ) where
  -- what comes from the hand is a gift
  gives_gift : {others others2 : List Thing} (v : Owned) (o : Option Owned) (h : Hand) {olds : List Thing} → h.thread.gift ≡ o → Trade others olds [] others2 → ((p : Spot) → Rule olds (holds p v ∷ []))
      → HandOk K n e t others h → Gives (HandOk K n e t others2) (given v o h)
  gives_gift v None h q u r g =
      let t2 = record h.thread { gift = Some v; phase = phase.Got } in
      let come : Trade (had_by n h.thread) [] (holds (as_gift h.thread.number) v ∷ []) (had_by n t2) =
      subst (λ x. Trade (beside_gift n h.thread (gift_things h.thread.number x)) [] (holds (as_gift h.thread.number) v ∷ []) (had_by n t2)) (sym q) (gift_trade n h.thread [] (holds (as_gift h.thread.number) v ∷ [])) in
      thread_trades k n e t h t2 refl come u (padded_news (r (as_gift h.thread.number))) g
  gives_gift v (Some w) h q u r g = tt

  pub granted_comes : (others : List Thing) (m : MutexNo) (v : Owned) (h : Hand) → HandOk K n e t (holds (as_content m) v ∷ others) h → Gives (HandOk K n e t others) (deliver_granted m v h)
  granted_comes others m v h g =
      test_gives (HandOk K n e t others) (waits_for_lock h.thread.phase m) _ (λ on. gives_gift v h.thread.gift h refl (one_goes (holds (as_content m) v) others) (λ p. hands_on (as_content m) p v) g)

  pub joined_comes : (others : List Thing) (u : ℕ) (v : Owned) (h : Hand) → HandOk K n e t (holds (as_result u) v ∷ others) h → Gives (HandOk K n e t others) (deliver_joined u v h)
  joined_comes others u v h g =
      test_gives (HandOk K n e t others) (waits_for_join h.thread.phase u) _ (λ on. gives_gift v h.thread.gift h refl (one_goes (holds (as_result u) v) others) (λ p. hands_on (as_result u) p v) g)

  pub dupped_comes : (others : List Thing) (r : ℕ) (m : MutexNo) (h : Hand) → HandOk K n e t (sent r (message.Dupped m t) ∷ others) h → Gives (HandOk K n e t others) (deliver_dupped m h)
  dupped_comes others r m h g =
      test_gives (HandOk K n e t others) (waits_for_dup h.thread.phase m) _ (λ on. gives_gift (owned.Mutex m) h.thread.gift h refl (one_goes (sent r (message.Dupped m t)) others) (λ p. takes_share r t m p) g)

  -- the gift goes to the hand
  pub takes_gift : (others : List Thing) (v : Owned) (h : Hand) → h.thread.gift ≡ Some v → HandOk K n e t others h → HandOk K n e t (holds in_hand v ∷ others) (take_gift h)
  takes_gift others v h q g =
      let t2 = record h.thread { gift = None } in
      let away : Trade (had_by n h.thread) (holds (as_gift h.thread.number) v ∷ []) [] (had_by n t2) =
      subst (λ x. Trade (beside_gift n h.thread (gift_things h.thread.number x)) (holds (as_gift h.thread.number) v ∷ []) [] (had_by n t2)) (sym q) (gift_trade n h.thread (holds (as_gift h.thread.number) v ∷ []) []) in
      thread_trades k n e t h t2 refl away (one_comes (holds in_hand v) others) (hands_on (as_gift h.thread.number) in_hand v) g
