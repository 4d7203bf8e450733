-- Making a place ready: reads, writes, borrows and ends, one lemma for each function.
use Rattle.std.proofs.Common.{◌≡◌, ℕ, zero, suc, ◌+◌, ◌==◌, Bool, true, false, nat_lt, if◌then◌else◌, List, [], ◌∷◌, ◌++◌, Option, Some, None, refl, sym, ap, subst, ◌∙◌}
use Rattle.std.specs.Bool.{⊤}
use Rattle.coherent_memory.specs.Below.fr_base.declared.place.Lval.{Lval}
use Rattle.coherent_memory.specs.Below.global_addr.Words.{colour_of, server_of}
use Rattle.coherent_memory.specs.Below.heap_partition.declared.value.BoxPtr.{BoxPtr}
use Rattle.coherent_memory.specs.Below.read_cache.Cache.{can_pin, pin}
use Rattle.coherent_memory.specs.Below.mut_borrow.Refs.{cleaned_answer, finish_word}
use Rattle.coherent_memory.specs.Below.mut_borrow.declared.shared.SharedRef.{SharedRef}
use Rattle.coherent_memory.specs.Below.mut_borrow.declared.mutable.MutRef.{MutRef}
use Rattle.coherent_memory.specs.Below.mut_borrow.declared.mutable.Cleaned.{Cleaned}
use Rattle.coherent_memory.specs.Below.mut_borrow.declared.mutable.Cleaned.TheVariants as cleaned
use Rattle.coherent_memory.specs.Below.thread_state.declared.phase.Phase.TheVariants as phase
use Rattle.coherent_memory.specs.Below.thread_state.declared.value.Value.{Value}
use Rattle.coherent_memory.specs.Below.thread_state.declared.value.Value.TheVariants as value
use Rattle.coherent_memory.specs.Below.server_msgs.declared.message.Message.TheVariants as message
use Rattle.coherent_memory.specs.Below.journal.declared.act.Act.{Act}
use Rattle.coherent_memory.specs.Below.journal.declared.act.Act.TheVariants as act
use Rattle.coherent_memory.specs.Below.place_walk.declared.hop.Hop.{Hop}
use Rattle.coherent_memory.specs.Below.place_walk.declared.hop.Hop.TheVariants as hop
use Rattle.coherent_memory.specs.Below.place_walk.Hops.{read_hop, write_hop}
use Rattle.coherent_memory.specs.Below.server_model.Work.{Hand, send, note, with_cache, working, then_some}
use Rattle.coherent_memory.specs.Below.server_model.NewWords.{NewWord, issue_tint, issue_renewal, issue_colour}
use Rattle.coherent_memory.specs.Below.server_model.Places.{Spot, in_slot, on_top, in_cell, in_copy, nowhere, value_at, load_at, put_at, pointer_of, put_word}
use Rattle.coherent_memory.specs.Below.server_model.Prepare.{Access, ReadTo, ReadPointer, WriteTo, LendTo, EndRef, Prepared, ready, requested, nothing, and_then, ready_at, ask_copy, ask_object, request_by, box_of, clean_last, cleaned_by, clean_value, pinned_once, use_copy, hopped, local, hit_by, read_by, read_value, read_clean, tinted_first, read_star, read_stars, passing, box_ready, colour_box, write_by, pass_by, write_value, write_star, write_stars, read_pointer, is_taken, lend_by, lend_value, lend_pointer, follow_holder, follow_ended, unlabelled, end_ref, prepare}
use Rattle.coherent_memory.specs.Things.{Thing, Location, shares, uses, pin_things, value_things}
use Rattle.coherent_memory.specs.Things as things
use Rattle.law_counts_sums.specs.Laws.{Gives}
use Rattle.law_counts_sums.proofs.Rules.{Rule, comes, goes, turned, beside, in_turn, Kept}
use Rattle.law_counts_sums.proofs.Results.{test_gives, bind_gives}
use Rattle.law_counts_sums.proofs.Bags.{HandOk}
use Rattle.law_counts_sums.proofs.Chains.{phase_changes, hand_sends}
use Rattle.law_counts_sums.proofs.Objects.{one_goes}
use Rattle.law_counts_sums.proofs.Values.{puts_at}
use Rattle.law_counts_sums.proofs.Uses.{hand_begins, uses_word}
use Rattle.law_counts_sums.proofs.NewWords.{hand_renews, hand_colours, puts_word}
use Rattle.law_counts_sums.proofs.ObjectMessages.{passes}

-- kept, where something is prepared
abbrev pub PreparedOk : (Hand → Type 0) → Prepared → Type 0
PreparedOk P (ready h s) = P h
PreparedOk P (requested h) = P h
PreparedOk P nothing = ⊤

-- a reference that isn't pinned is, with a use that was in the hand
pin_rule : (n : ℕ) (r : SharedRef) → r.pinned ≡ false → (p : things.Spot) (l : Location) → Rule (value_things n p l (value.Shared r) ++ uses n r.word ∷ []) (value_things n p l (value.Shared (record r { pinned = true })) ++ [])
pin_rule n r q p l =
    let none : pin_things n r ≡ [] = ap (λ b. if b then uses n r.word ∷ [] else []) q in
    subst (λ g. Rule (shares l r ∷ (g ++ uses n r.word ∷ [])) (shares l (record r { pinned = true }) ∷ uses n r.word ∷ [])) (sym none)
    (beside (in_turn (goes (shares l r) refl) (comes (shares l (record r { pinned = true })) refl)) (turned (uses n r.word ∷ []) (uses n r.word ∷ []) (λ f. refl)))

module _ {K : List Thing → Type 0} (k : Kept K) (n e t : ℕ) (others : List Thing) where
  abbrev Ok : Hand → Type 0
  Ok = HandOk K n e t others

  abbrev Fine : Prepared → Type 0
  Fine = PreparedOk (HandOk K n e t others)

  then_fine : (x : Prepared) (go : Hand → Spot → Prepared) → Fine x → ((h : Hand) (s : Spot) → Ok h → Fine (go h s)) → Fine (and_then go x)
  then_fine (ready h s) go g w = w h s g
  then_fine (requested h) go g w = g
  then_fine nothing go g w = tt

  ready_fine : (s : Spot) (o : Option Hand) → Gives Ok o → Fine (ready_at s o)
  ready_fine s None g = tt
  ready_fine s (Some h) g = g

  if_fine : (b : Bool) (x y : Prepared) → Fine x → Fine y → Fine (if b then x else y)
  if_fine true x y f g = f
  if_fine false x y f g = g

  -- what is noted and labelled changes no thing
  noted : (a : Act) (h : Hand) → Ok h → Ok (working (note a) h)
  noted a h g = record { number = g.number; thread = g.thread; bag = g.bag }

  loaded : (s : Spot) (h : Hand) → Ok h → Ok (load_at s h)
  loaded s h g = record { number = g.number; thread = g.thread; bag = g.bag }

  -- REQUESTS

  copy_asked : (p : BoxPtr) (h : Hand) → Ok h → Ok (ask_copy p h)
  copy_asked p h g =
      let m = message.Fetch p.word p.object h.work.rest.number h.thread.number in
      phase_changes k n e t others (phase.WaitCell p.word) (working (send (server_of p.word) m) (working (note (act.Ask p.object p.word)) h))
      (hand_sends k n e t others (server_of p.word) m (working (note (act.Ask p.object p.word)) h) refl refl (noted (act.Ask p.object p.word) h g))

  object_asked : (p : BoxPtr) (h : Hand) → Ok h → Ok (ask_object p h)
  object_asked p h g =
      let m = message.Move p.word p.object h.work.rest.number h.thread.number in
      phase_changes k n e t others (phase.WaitCell p.word) (working (send (server_of p.word) m) (working (note (act.Pull p.object p.word)) h))
      (hand_sends k n e t others (server_of p.word) m (working (note (act.Pull p.object p.word)) h) refl refl (noted (act.Pull p.object p.word) h g))

  asked_fine : (request : BoxPtr → Hand → Hand) → ((p : BoxPtr) (h : Hand) → Ok h → Ok (request p h)) → (h : Hand) (o : Option BoxPtr) → Ok h → Fine (request_by request h o)
  asked_fine request w h None g = tt
  asked_fine request w h (Some p) g = w p h g

  -- CLEANING

  last_cleans : (s : Spot) (r : MutRef) (h : Hand) → Ok h → Fine (clean_last s r h)
  last_cleans s r h g =
      if_fine (server_of r.word == h.work.rest.number) (ready_at s (then_some (issue_renewal (box_of r) h.work) (λ m. put_word s m h))) (requested (ask_object (box_of r) h))
      (ready_fine s (then_some (issue_renewal (box_of r) h.work) (λ m. put_word s m h))
      (bind_gives (λ (m : NewWord). Ok (record h { work = m.work })) Ok (issue_renewal (box_of r) h.work) (λ m. put_word s m h) (hand_renews k n e t others (box_of r) h g) (λ m u. puts_word k n e t others s m h u)))
      (object_asked (box_of r) h g)

  cleans_by : (a : Cleaned) (s : Spot) (r : MutRef) (h : Hand) → Ok h → Fine (cleaned_by a s r h)
  cleans_by cleaned.Same s r h g = g
  cleans_by (cleaned.Tinted w) s r h g = ready_fine s (put_word s (issue_tint (box_of r) h.work) h) (puts_word k n e t others s (issue_tint (box_of r) h.work) h (record { number = g.number; thread = g.thread; bag = g.bag }))
  cleans_by cleaned.MustRenew s r h g = last_cleans s r h g

  cleans : (s : Spot) (v : Option Value) (h : Hand) → Ok h → Fine (clean_value s v h)
  cleans s (Some (value.Mut r)) h g =
      if_fine (nat_lt (colour_of r.word) h.work.rest.partition.limit) (cleaned_by (cleaned_answer h.work.rest.partition.limit r) s r h) nothing (cleans_by (cleaned_answer h.work.rest.partition.limit r) s r h g) tt
  cleans s _ h g = g

  -- READING

  pins_at : (s : Spot) (r : SharedRef) (h : Hand) → r.pinned ≡ false → value_at h s ≡ Some (value.Shared r) → HandOk K n e t (uses n r.word ∷ others) (working (with_cache (pin h.work.rest.cache r.word)) h)
      → Gives Ok (put_at s (value.Shared (record r { pinned = true })) (working (with_cache (pin h.work.rest.cache r.word)) h))
  pins_at (in_slot i) r h b q g = puts_at k n e t (in_slot i) (value.Shared r) (value.Shared (record r { pinned = true })) (working (with_cache (pin h.work.rest.cache r.word)) h) q (one_goes (uses n r.word) others) (pin_rule n r b) g
  pins_at on_top r h b q g = puts_at k n e t on_top (value.Shared r) (value.Shared (record r { pinned = true })) (working (with_cache (pin h.work.rest.cache r.word)) h) q (one_goes (uses n r.word) others) (pin_rule n r b) g
  pins_at (in_cell w through) r h b q g = tt
  pins_at (in_copy w) r h b q g = tt
  pins_at nowhere r h b q g = tt

  pins_once : (s : Spot) (r : SharedRef) (b : Bool) (h : Hand) → r.pinned ≡ b → value_at h s ≡ Some (value.Shared r) → Ok h → Gives Ok (pinned_once s r b h)
  pins_once s r true h b q g = g
  pins_once s r false h b q g = test_gives Ok (can_pin h.work.rest.cache r.word) _ (λ on. pins_at s r h b q (hand_begins k n e t others h r.word on g))

  copy_used : (s : Spot) (v : Value) (w : ℕ) (h : Hand) → value_at h s ≡ Some v → Ok h → Gives Ok (use_copy s v w h)
  copy_used s (value.Shared r) w h q g = pins_once s r r.pinned h refl q g
  copy_used s _ w h q g = uses_word k n e t others w h g

  hops : (f : BoxPtr → Act) (o : Option BoxPtr) (h : Hand) → Ok h → Ok (hopped (λ p. note (f p)) o h)
  hops f None h g = g
  hops f (Some p) h g = noted (f p) h g

  -- acts change no value
  value_noted : (s : Spot) (f : BoxPtr → Act) (o : Option BoxPtr) (h : Hand) → value_at (hopped (λ p. note (f p)) o h) s ≡ value_at h s
  value_noted s f None h = refl
  value_noted (in_slot i) f (Some p) h = refl
  value_noted on_top f (Some p) h = refl
  value_noted (in_cell w through) f (Some p) h = refl
  value_noted (in_copy w) f (Some p) h = refl
  value_noted nowhere f (Some p) h = refl

  reads_by : (s : Spot) (v : Value) (o : Option Hop) (h : Hand) → value_at h s ≡ Some v → Ok h → Fine (read_by s v o h)
  reads_by s v (Some (hop.Slot i)) h q g = g
  reads_by s v (Some (hop.Direct w)) h q g = hops (λ p. act.Local p.object p.word) (pointer_of v) h g
  reads_by s v (Some (hop.Hit w)) h q g =
      ready_fine (in_copy w) (use_copy s v w (hit_by v h)) (copy_used s v w (hit_by v h) (value_noted s (λ p. act.Hit p.object p.word) (pointer_of v) h ∙ q) (hops (λ p. act.Hit p.object p.word) (pointer_of v) h g))
  reads_by s v (Some (hop.NeedCopy w)) h q g = asked_fine ask_copy copy_asked h (pointer_of v) g
  reads_by s v _ h q g = tt

  reads_value : (s : Spot) (v : Option Value) (h : Hand) → value_at h s ≡ v → Ok h → Fine (read_value s v h)
  reads_value s None h q g = tt
  reads_value s (Some v) h q g = reads_by s v (read_hop h.work.rest.number h.work.rest.cache v) h q g

  reads_clean : (s : Spot) (v : Value) (o : Option Hop) (h : Hand) → Ok h → Fine (read_clean s v o h)
  reads_clean s v (Some (hop.NeedTint w)) h g = cleans s (Some v) h g
  reads_clean s v _ h g = g

  tints_first : (s : Spot) (v : Option Value) (h : Hand) → Ok h → Fine (tinted_first s v h)
  tints_first s None h g = tt
  tints_first s (Some v) h g = reads_clean s v (read_hop h.work.rest.number h.work.rest.cache v) h g

  reads_star : (h : Hand) (s : Spot) → Ok h → Fine (read_star h s)
  reads_star h s g = then_fine (tinted_first s (value_at h s) (load_at s h)) _ (tints_first s (value_at h s) (load_at s h) (loaded s h g)) (λ h2 s2 u. reads_value s2 (value_at h2 s2) h2 refl u)

  reads_stars : (d : ℕ) (h : Hand) (s : Spot) → Ok h → Fine (read_stars d h s)
  reads_stars zero h s g = g
  reads_stars (suc d) h s g = then_fine (read_star h s) (read_stars d) (reads_star h s g) (λ h2 s2 u. reads_stars d h2 s2 u)

  -- WRITING

  boxes_ready : (s : Spot) (o : Option NewWord) (h : Hand) → Gives (λ (m : NewWord). Ok (record h { work = m.work })) o → Fine (box_ready s o h)
  boxes_ready s None h g = tt
  boxes_ready s (Some m) h g = ready_fine (in_cell m.word None) (put_word s m h) (puts_word k n e t others s m h g)

  colours_box : (s : Spot) (o : Option BoxPtr) (h : Hand) → Ok h → Fine (colour_box s o h)
  colours_box s None h g = tt
  colours_box s (Some p) h g = boxes_ready s (issue_colour p h.work) h (hand_colours k n e t others p h g)

  local_kept : (v : Value) (h : Hand) → Ok h → Ok (local v h)
  local_kept v h g = hops (λ p. act.Local p.object p.word) (pointer_of v) h g

  writes_by : (m : ℕ) (s : Spot) (v : Value) (o : Option Hop) (h : Hand) → Ok h → Fine (write_by m s v o h)
  writes_by m s v (Some (hop.Slot i)) h g = passes k n e t others (m + 1) h g
  writes_by m s v (Some (hop.NeedTint w)) h g = colours_box s (pointer_of v) (passing (m + 1) h) (passes k n e t others (m + 1) h g)
  writes_by m s v (Some (hop.AtCell w)) h g = passes k n e t others (m + 1) (local v h) (local_kept v h g)
  writes_by m s v (Some (hop.NeedMove w)) h g = asked_fine ask_object object_asked h (pointer_of v) g
  writes_by m s v _ h g = tt

  passes_by : (s : Spot) (v : Value) (o : Option Hop) (h : Hand) → Ok h → Fine (pass_by s v o h)
  passes_by s v (Some (hop.Slot i)) h g = g
  passes_by s v (Some (hop.NeedTint w)) h g = g
  passes_by s v (Some (hop.AtCell w)) h g = local_kept v h g
  passes_by s v _ h g = tt

  writes_value : (m : ℕ) (s : Spot) (v : Option Value) (h : Hand) → Ok h → Fine (write_value m s v h)
  writes_value m s None h g = tt
  writes_value m s (Some v) h g =
      let o = write_hop h.work.rest.number v in
      if_fine (nat_lt m h.thread.passed) (pass_by s v o h) (write_by m s v o h) (passes_by s v o h g) (writes_by m s v o h g)

  writes_stars : (d m : ℕ) (h : Hand) (s : Spot) → Ok h → Fine (write_stars d m h s)
  writes_stars zero m h s g = g
  writes_stars (suc d) m h s g = then_fine (write_star m h s) (write_stars d (m + 1)) (writes_value m s (value_at h s) (load_at s h) (loaded s h g)) (λ h2 s2 u. writes_stars d (m + 1) h2 s2 u)

  -- BORROWS AND ENDS

  reads_pointer : (w : Lval) (d : ℕ) (h : Hand) → Ok h → Fine (read_pointer w d h)
  reads_pointer w zero h g = g
  reads_pointer w (suc d) h g = then_fine (read_stars d h (in_slot w.slot)) _ (reads_stars d h (in_slot w.slot) g) (λ h2 s u. cleans s (value_at h2 s) (load_at s h2) (loaded s h2 u))

  lends_by : (s : Spot) (v : Value) (o : Option Hop) (h : Hand) → Ok h → Fine (lend_by s v o h)
  lends_by s v None h g = tt
  lends_by s v (Some (hop.NeedMove w)) h g = if_fine (is_taken h.thread.phase) (ready h s) (request_by ask_object h (pointer_of v)) g (asked_fine ask_object object_asked h (pointer_of v) g)
  lends_by s v (Some _) h g = g

  lends_value : (s : Spot) (v : Option Value) (h : Hand) → Ok h → Fine (lend_value s v h)
  lends_value s None h g = tt
  lends_value s (Some v) h g = lends_by s v (write_hop h.work.rest.number v) h g

  lends_pointer : (w : Lval) (d : ℕ) (h : Hand) → Ok h → Fine (lend_pointer w d h)
  lends_pointer w zero h g = g
  lends_pointer w (suc d) h g = then_fine (read_stars d h (in_slot w.slot)) _ (reads_stars d h (in_slot w.slot) g) (λ h2 s u. lends_value s (value_at h2 s) (load_at s h2) (loaded s h2 u))

  follows_holder : (r : MutRef) (o : Option ℕ) (h : Hand) → Ok h → Fine (follow_holder r o h)
  follows_holder r None h g = g
  follows_holder r (Some w) h g = writes_stars r.holder.depth 0 h (in_slot r.holder.slot) g

  follows_ended : (v : Option Value) (h : Hand) → Ok h → Fine (follow_ended v h)
  follows_ended (Some (value.Mut r)) h g = follows_holder r (finish_word r) h g
  follows_ended _ h g = tt

  ends_ref : (s : Spot) (h : Hand) → Ok h → Fine (end_ref s h)
  ends_ref s h g =
      then_fine (and_then (λ h2 s2. follow_ended (value_at h2 s2) h2) (clean_value s (value_at h s) h)) unlabelled
      (then_fine (clean_value s (value_at h s) h) _ (cleans s (value_at h s) h g) (λ h2 s2 u. follows_ended (value_at h2 s2) h2 u)) (λ h2 s2 u. record { number = u.number; thread = u.thread; bag = u.bag })

  -- any access is made ready
  pub prepares : (a : Option Access) (h : Hand) → Ok h → Fine (prepare a h)
  prepares None h g = g
  prepares (Some (ReadTo w)) h g = reads_stars w.depth h (in_slot w.slot) g
  prepares (Some (ReadPointer w)) h g = reads_pointer w w.depth h g
  prepares (Some (WriteTo w)) h g = writes_stars w.depth 0 h (in_slot w.slot) g
  prepares (Some (LendTo w)) h g = lends_pointer w w.depth h g
  prepares (Some (EndRef s)) h g = ends_ref s h g
