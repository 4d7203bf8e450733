-- Making a place ready is the same with other messages in front.
use Rattle.std.proofs.Common.{◌≡◌, ℕ, zero, suc, ◌+◌, ◌==◌, Bool, true, false, List, Option, Some, None, refl, ap, ◌∙◌}
use Rattle.std.specs.Prelude.{option_map, nat_lt}
use Rattle.law_runs_whole.specs.Below.fr_base.declared.place.Lval.{Lval}
use Rattle.global_addr.specs.Words.{colour_of, server_of}
use Rattle.law_runs_whole.specs.Below.heap_partition.declared.value.BoxPtr.{BoxPtr}
use Rattle.law_runs_whole.specs.Below.mut_borrow.Refs.{cleaned_answer, finish_word}
use Rattle.law_runs_whole.specs.Below.mut_borrow.declared.shared.SharedRef.{SharedRef}
use Rattle.law_runs_whole.specs.Below.mut_borrow.declared.mutable.MutRef.{MutRef}
use Rattle.law_runs_whole.specs.Below.mut_borrow.declared.mutable.Cleaned.{Cleaned}
use Rattle.law_runs_whole.specs.Below.mut_borrow.declared.mutable.Cleaned.TheVariants.{Same, Tinted, MustRenew}
use Rattle.law_runs_whole.specs.Below.read_cache.Cache.{can_pin, pin}
use Rattle.law_runs_whole.specs.Below.fr_base.Lists.{is_in}
use Rattle.law_runs_whole.specs.Below.thread_state.declared.phase.Phase.TheVariants as phase
use Rattle.law_runs_whole.specs.Below.thread_state.declared.value.Value.{Value}
use Rattle.law_runs_whole.specs.Below.thread_state.declared.value.Value.TheVariants as value
use Rattle.law_runs_coherent.specs.Below.server_msgs.declared.message.Message.{Message}
use Rattle.law_runs_coherent.specs.Below.server_msgs.declared.message.Message.TheVariants as message
use Rattle.law_runs_whole.specs.Below.journal.declared.act.Act.TheVariants as act
use Rattle.place_walk.specs.declared.hop.Hop.{Hop}
use Rattle.place_walk.specs.declared.hop.Hop.TheVariants as hop
use Rattle.place_walk.specs.Hops.{read_hop, write_hop}
use Rattle.law_runs_whole.specs.Below.server_model.Servers.{Sent}
use Rattle.law_runs_whole.specs.Below.server_model.Work.{Hand, note, then_some, with_phase, with_cache, working}
use Rattle.law_runs_whole.specs.Below.server_model.NewWords.{NewWord, issue_tint, issue_renewal, issue_colour}
use Rattle.law_runs_whole.specs.Below.server_model.Places.{Spot, in_slot, in_cell, in_copy, value_at, load_at, pointer_of, put_word, slot_in}
use Rattle.law_runs_whole.specs.Below.server_model.Prepare.{Access, ReadTo, ReadPointer, WriteTo, LendTo, EndRef, Prepared, ready, requested, nothing, and_then, ready_at, ask_copy, ask_object, request_by, box_of, clean_last, cleaned_by, clean, clean_value, pinned_once, use_copy, hopped, local, hit_by, read_by, read_value, read_clean, tinted_first, read_star, read_stars, passing, box_ready, colour_box, write_by, pass_by, write_value, write_star, write_stars, read_pointer, is_taken, lend_by, lend_value, lend_pointer, follow_holder, follow_ended, unlabelled, end_ref, prepare}
use Rattle.law_runs_rounds.proofs.rounds.Chains.{then_by, if_same, if_either}
use Rattle.law_runs_rounds.proofs.rounds.Behind.{work_behind, hand_behind, word_behind, hand_sends, uses_once, renews, colours, value_same, loads, puts, puts_word}

module _ (ms : List Message) (xs : List Sent) where
  abbrev behind : Hand → Hand
  behind h = hand_behind ms xs h

  abbrev pub prepared_behind : Prepared → Prepared
  prepared_behind (ready h s) = ready (hand_behind ms xs h) s
  prepared_behind (requested h) = requested (hand_behind ms xs h)
  prepared_behind nothing = nothing

  abbrev Alike : (Hand → Prepared) → Hand → Type 0
  Alike f h = f (behind h) ≡ prepared_behind (f h)

  then_ready : (go go2 : Hand → Spot → Prepared) (p : Prepared) → ((h : Hand) (s : Spot) → go2 (behind h) s ≡ prepared_behind (go h s)) → and_then go2 (prepared_behind p) ≡ prepared_behind (and_then go p)
  then_ready go go2 (ready h s) e = e h s
  then_ready go go2 (requested h) e = refl
  then_ready go go2 nothing e = refl

  after : (go go2 : Hand → Spot → Prepared) (p2 p : Prepared) → p2 ≡ prepared_behind p → ((h : Hand) (s : Spot) → go2 (behind h) s ≡ prepared_behind (go h s)) → and_then go2 p2 ≡ prepared_behind (and_then go p)
  after go go2 p2 p first e = ap (and_then go2) first ∙ then_ready go go2 p e

  is_ready_at : (s : Spot) (o : Option Hand) → ready_at s (option_map behind o) ≡ prepared_behind (ready_at s o)
  is_ready_at s None = refl
  is_ready_at s (Some h) = refl

  ready_by : (s : Spot) (o2 o : Option Hand) → o2 ≡ option_map behind o → ready_at s o2 ≡ prepared_behind (ready_at s o)
  ready_by s o2 o e = ap (ready_at s) e ∙ is_ready_at s o

  -- REQUESTS

  pub asks_copy : (p : BoxPtr) (h : Hand) → ask_copy p (behind h) ≡ behind (ask_copy p h)
  asks_copy p h = ap (with_phase (phase.WaitCell p.word)) (hand_sends ms xs (server_of p.word) (message.Fetch p.word p.object h.work.rest.number h.thread.number) (act.Ask p.object p.word) h)

  pub asks_object : (p : BoxPtr) (h : Hand) → ask_object p (behind h) ≡ behind (ask_object p h)
  asks_object p h = ap (with_phase (phase.WaitCell p.word)) (hand_sends ms xs (server_of p.word) (message.Move p.word p.object h.work.rest.number h.thread.number) (act.Pull p.object p.word) h)

  requests : (f : BoxPtr → Hand → Hand) → ((p : BoxPtr) (h : Hand) → f p (behind h) ≡ behind (f p h)) → (h : Hand) (o : Option BoxPtr) → request_by f (behind h) o ≡ prepared_behind (request_by f h o)
  requests f e h None = refl
  requests f e h (Some p) = ap requested (e p h)

  -- CLEANING

  cleans_last : (s : Spot) (r : MutRef) (h : Hand) → Alike (clean_last s r) h
  cleans_last s r h =
      if_either prepared_behind (server_of r.word == h.work.rest.number) (ready_at s (then_some (issue_renewal (box_of r) h.work) (λ n. put_word s n h))) (requested (ask_object (box_of r) h))
      (ready_at s (then_some (issue_renewal (box_of r) (work_behind ms xs h.work)) (λ n. put_word s n (behind h)))) (requested (ask_object (box_of r) (behind h)))
      (ready_by s _ _ (then_by (word_behind ms xs) behind _ _ _ _ (renews ms xs (box_of r) h.work) (λ n. puts_word ms xs s n h))) (ap requested (asks_object (box_of r) h))

  cleans_by : (a : Cleaned) (s : Spot) (r : MutRef) (h : Hand) → Alike (cleaned_by a s r) h
  cleans_by Same s r h = refl
  cleans_by (Tinted w) s r h = ready_by s _ _ (puts_word ms xs s (issue_tint (box_of r) h.work) h)
  cleans_by MustRenew s r h = cleans_last s r h

  cleans : (s : Spot) (r : MutRef) (h : Hand) → Alike (clean s r) h
  cleans s r h =
      if_either prepared_behind (nat_lt (colour_of r.word) h.work.rest.partition.limit) (cleaned_by (cleaned_answer h.work.rest.partition.limit r) s r h) nothing
      (cleaned_by (cleaned_answer h.work.rest.partition.limit r) s r (behind h)) nothing (cleans_by (cleaned_answer h.work.rest.partition.limit r) s r h) refl

  cleans_value : (s : Spot) (v : Option Value) (h : Hand) → Alike (clean_value s v) h
  cleans_value s (Some (value.Mut r)) h = cleans s r h
  cleans_value s None h = refl
  cleans_value s (Some _) h = refl

  -- READING

  pins_once : (s : Spot) (r : SharedRef) (b : Bool) (h : Hand) → pinned_once s r b (behind h) ≡ option_map behind (pinned_once s r b h)
  pins_once s r true h = refl
  pins_once s r false h = if_same behind (can_pin h.work.rest.cache r.word) _ _ (puts ms xs s (value.Shared (record r { pinned = true })) (working (with_cache (pin h.work.rest.cache r.word)) h))

  uses_copy : (s : Spot) (v : Value) (w : ℕ) (h : Hand) → use_copy s v w (behind h) ≡ option_map behind (use_copy s v w h)
  uses_copy s (value.Shared r) w h = pins_once s r r.pinned h
  uses_copy s _ w h = uses_once ms xs w (is_in w h.thread.walk) h

  is_local : (v : Value) (h : Hand) → local v (behind h) ≡ behind (local v h)
  is_local v h = by (pointer_of v)
    where
      by : (o : Option BoxPtr) → hopped (λ p. note (act.Local p.object p.word)) o (behind h) ≡ behind (hopped (λ p. note (act.Local p.object p.word)) o h)
      by None = refl
      by (Some p) = refl

  hits_by : (v : Value) (h : Hand) → hit_by v (behind h) ≡ behind (hit_by v h)
  hits_by v h = by (pointer_of v)
    where
      by : (o : Option BoxPtr) → hopped (λ p. note (act.Hit p.object p.word)) o (behind h) ≡ behind (hopped (λ p. note (act.Hit p.object p.word)) o h)
      by None = refl
      by (Some p) = refl

  reads_by : (s : Spot) (v : Value) (k : Option Hop) (h : Hand) → Alike (read_by s v k) h
  reads_by s v (Some (hop.Slot i)) h = refl
  reads_by s v (Some (hop.Direct w)) h = ap (λ x. ready x (in_cell w None)) (is_local v h)
  reads_by s v (Some (hop.Hit w)) h = ready_by (in_copy w) _ _ (ap (use_copy s v w) (hits_by v h) ∙ uses_copy s v w (hit_by v h))
  reads_by s v (Some (hop.NeedCopy w)) h = requests ask_copy asks_copy h (pointer_of v)
  reads_by s v None h = refl
  reads_by s v (Some _) h = refl

  reads_value : (s : Spot) (o : Option Value) (h : Hand) → Alike (read_value s o) h
  reads_value s None h = refl
  reads_value s (Some v) h = reads_by s v (read_hop h.work.rest.number h.work.rest.cache v) h

  reads_clean : (s : Spot) (v : Value) (k : Option Hop) (h : Hand) → Alike (read_clean s v k) h
  reads_clean s v (Some (hop.NeedTint w)) h = cleans_value s (Some v) h
  reads_clean s v None h = refl
  reads_clean s v (Some _) h = refl

  tints_first : (s : Spot) (o : Option Value) (h : Hand) → Alike (tinted_first s o) h
  tints_first s None h = refl
  tints_first s (Some v) h = reads_clean s v (read_hop h.work.rest.number h.work.rest.cache v) h

  reads_star : (h : Hand) (s : Spot) → read_star (behind h) s ≡ prepared_behind (read_star h s)
  reads_star h s =
      after (λ h2 s2. read_value s2 (value_at h2 s2) h2) (λ h2 s2. read_value s2 (value_at h2 s2) h2) (tinted_first s (value_at (behind h) s) (load_at s (behind h))) (tinted_first s (value_at h s) (load_at s h))
      (ap (λ o. tinted_first s o (load_at s (behind h))) (value_same ms xs h s) ∙ ap (tinted_first s (value_at h s)) (loads ms xs s h) ∙ tints_first s (value_at h s) (load_at s h))
      (λ h2 s2. ap (λ o. read_value s2 o (behind h2)) (value_same ms xs h2 s2) ∙ reads_value s2 (value_at h2 s2) h2)

  reads : (d : ℕ) (h : Hand) (s : Spot) → read_stars d (behind h) s ≡ prepared_behind (read_stars d h s)
  reads zero h s = refl
  reads (suc d) h s = after (read_stars d) (read_stars d) (read_star (behind h) s) (read_star h s) (reads_star h s) (reads d)

  -- WRITING

  boxes_ready : (s : Spot) (o : Option NewWord) (h : Hand) → box_ready s (option_map (word_behind ms xs) o) (behind h) ≡ prepared_behind (box_ready s o h)
  boxes_ready s None h = refl
  boxes_ready s (Some n) h = ready_by (in_cell n.word None) _ _ (puts_word ms xs s n h)

  colours_box : (s : Spot) (o : Option BoxPtr) (h : Hand) → Alike (colour_box s o) h
  colours_box s None h = refl
  colours_box s (Some p) h = ap (λ n. box_ready s n (behind h)) (colours ms xs p h.work) ∙ boxes_ready s (issue_colour p h.work) h

  writes_by : (k : ℕ) (s : Spot) (v : Value) (o : Option Hop) (h : Hand) → Alike (write_by k s v o) h
  writes_by k s v (Some (hop.Slot i)) h = refl
  writes_by k s v (Some (hop.NeedTint w)) h = colours_box s (pointer_of v) (passing (k + 1) h)
  writes_by k s v (Some (hop.AtCell w)) h = ap (λ x. ready (passing (k + 1) x) (in_cell w (slot_in s))) (is_local v h)
  writes_by k s v (Some (hop.NeedMove w)) h = requests ask_object asks_object h (pointer_of v)
  writes_by k s v None h = refl
  writes_by k s v (Some _) h = refl

  passes_by : (s : Spot) (v : Value) (o : Option Hop) (h : Hand) → Alike (pass_by s v o) h
  passes_by s v (Some (hop.Slot i)) h = refl
  passes_by s v (Some (hop.NeedTint w)) h = refl
  passes_by s v (Some (hop.AtCell w)) h = ap (λ x. ready x (in_cell w (slot_in s))) (is_local v h)
  passes_by s v None h = refl
  passes_by s v (Some _) h = refl

  writes_value : (k : ℕ) (s : Spot) (o : Option Value) (h : Hand) → Alike (write_value k s o) h
  writes_value k s None h = refl
  writes_value k s (Some v) h =
      let o = write_hop h.work.rest.number v in
      if_either prepared_behind (nat_lt k h.thread.passed) (pass_by s v o h) (write_by k s v o h) (pass_by s v o (behind h)) (write_by k s v o (behind h)) (passes_by s v o h) (writes_by k s v o h)

  writes_star : (k : ℕ) (h : Hand) (s : Spot) → write_star k (behind h) s ≡ prepared_behind (write_star k h s)
  writes_star k h s = ap (λ o. write_value k s o (load_at s (behind h))) (value_same ms xs h s) ∙ ap (write_value k s (value_at h s)) (loads ms xs s h) ∙ writes_value k s (value_at h s) (load_at s h)

  pub writes : (d k : ℕ) (h : Hand) (s : Spot) → write_stars d k (behind h) s ≡ prepared_behind (write_stars d k h s)
  writes zero k h s = refl
  writes (suc d) k h s = after (write_stars d (k + 1)) (write_stars d (k + 1)) (write_star k (behind h) s) (write_star k h s) (writes_star k h s) (writes d (k + 1))

  -- BORROWS, AND ENDS OF MUTABLE REFERENCES

  reads_pointer : (w : Lval) (d : ℕ) (h : Hand) → Alike (read_pointer w d) h
  reads_pointer w zero h = refl
  reads_pointer w (suc d) h =
      after (λ h2 s. clean_value s (value_at h2 s) (load_at s h2)) (λ h2 s. clean_value s (value_at h2 s) (load_at s h2)) (read_stars d (behind h) (in_slot w.slot)) (read_stars d h (in_slot w.slot)) (reads d h (in_slot w.slot))
      (λ h2 s. ap (λ o. clean_value s o (load_at s (behind h2))) (value_same ms xs h2 s) ∙ ap (clean_value s (value_at h2 s)) (loads ms xs s h2) ∙ cleans_value s (value_at h2 s) (load_at s h2))

  lends_by : (s : Spot) (v : Value) (o : Option Hop) (h : Hand) → Alike (lend_by s v o) h
  lends_by s v None h = refl
  lends_by s v (Some (hop.NeedMove w)) h =
      if_either prepared_behind (is_taken h.thread.phase) (ready h s) (request_by ask_object h (pointer_of v)) (ready (behind h) s) (request_by ask_object (behind h) (pointer_of v)) refl (requests ask_object asks_object h (pointer_of v))
  lends_by s v (Some _) h = refl

  lends_value : (s : Spot) (o : Option Value) (h : Hand) → Alike (lend_value s o) h
  lends_value s None h = refl
  lends_value s (Some v) h = lends_by s v (write_hop h.work.rest.number v) h

  lends_pointer : (w : Lval) (d : ℕ) (h : Hand) → Alike (lend_pointer w d) h
  lends_pointer w zero h = refl
  lends_pointer w (suc d) h =
      after (λ h2 s. lend_value s (value_at h2 s) (load_at s h2)) (λ h2 s. lend_value s (value_at h2 s) (load_at s h2)) (read_stars d (behind h) (in_slot w.slot)) (read_stars d h (in_slot w.slot)) (reads d h (in_slot w.slot))
      (λ h2 s. ap (λ o. lend_value s o (load_at s (behind h2))) (value_same ms xs h2 s) ∙ ap (lend_value s (value_at h2 s)) (loads ms xs s h2) ∙ lends_value s (value_at h2 s) (load_at s h2))

  follows_holder : (r : MutRef) (o : Option ℕ) (h : Hand) → Alike (follow_holder r o) h
  follows_holder r None h = refl
  follows_holder r (Some w) h = writes r.holder.depth 0 h (in_slot r.holder.slot)

  follows_ended : (o : Option Value) (h : Hand) → Alike (follow_ended o) h
  follows_ended (Some (value.Mut r)) h = follows_holder r (finish_word r) h
  follows_ended None h = refl
  follows_ended (Some _) h = refl

  ends_ref : (s : Spot) (h : Hand) → Alike (end_ref s) h
  ends_ref s h =
      let first = λ (h2 : Hand) (s2 : Spot). follow_ended (value_at h2 s2) h2 in
      after unlabelled unlabelled (and_then first (clean_value s (value_at (behind h) s) (behind h))) (and_then first (clean_value s (value_at h s) h))
      (after first first (clean_value s (value_at (behind h) s) (behind h)) (clean_value s (value_at h s) h)
      (ap (λ o. clean_value s o (behind h)) (value_same ms xs h s) ∙ cleans_value s (value_at h s) h)
      (λ h2 s2. ap (λ o. follow_ended o (behind h2)) (value_same ms xs h2 s2) ∙ follows_ended (value_at h2 s2) h2))
      (λ h2 s2. refl)

  -- ALL ACCESSES

  pub prepares : (x : Option Access) (h : Hand) → Alike (prepare x) h
  prepares None h = refl
  prepares (Some (ReadTo w)) h = reads w.depth h (in_slot w.slot)
  prepares (Some (ReadPointer w)) h = reads_pointer w w.depth h
  prepares (Some (WriteTo w)) h = writes w.depth 0 h (in_slot w.slot)
  prepares (Some (LendTo w)) h = lends_pointer w w.depth h
  prepares (Some (EndRef s)) h = ends_ref s h
