-- Steps in which a reference goes leave cells and changed references.
use Rattle.std.proofs.Common.{◌≡◌, ℕ, suc, ◌-◌, Bool, true, false, List, [], ◌∷◌, ◌++◌, Some, None, refl, sym, ap, subst, ◌∙◌}
use Rattle.std.specs.Prelude.{slice_get, length}
use Rattle.law_words_borrows.specs.Below.fr_base.declared.place.Lval.{Lval}
use Rattle.law_words_borrows.specs.Below.fr_base.declared.instruction.Operand.{Operand}
use Rattle.law_words_borrows.specs.Below.fr_base.declared.instruction.Instr.{Instr}
use Rattle.law_words_borrows.specs.Below.fr_base.declared.instruction.Instr.TheVariants as instr
use Rattle.law_words_borrows.specs.Below.fr_base.declared.step.Fresh.TheVariants as fresh
use Rattle.law_words_borrows.specs.Below.journal.View.{EntryView}
use Rattle.law_words_borrows.specs.Below.mut_borrow.declared.mutable.MutRef.{MutRef}
use Rattle.law_words_borrows.specs.Below.thread_state.View.{ThreadState}
use Rattle.law_words_borrows.specs.Below.thread_state.declared.phase.Phase.{Phase}
use Rattle.law_words_borrows.specs.Below.thread_state.declared.phase.Phase.TheVariants as phase
use Rattle.law_words_borrows.specs.Below.thread_state.declared.value.Value.{Value}
use Rattle.law_words_borrows.specs.Below.thread_state.declared.value.Value.TheVariants as value
use Rattle.law_words_borrows.specs.Below.server_model.declared.event.What.TheVariants.{Step}
use Rattle.law_words_borrows.specs.Below.server_model.Servers.{Server, Cluster, server_at}
use Rattle.law_words_borrows.specs.Below.server_model.Work.{Hand, front_of, with_slots, with_temps, thread_in, without_thread, then_some, pop}
use Rattle.law_words_borrows.specs.Below.server_model.Clusters.{apply}
use Rattle.law_words_borrows.specs.Below.server_model.Places.{Spot, nowhere as no_spot, in_slot as spot_slot, on_top}
use Rattle.law_words_borrows.specs.Below.server_model.Prepare.{ending, assigned, prepare, read_or_taken, read_stars}
use Rattle.law_words_borrows.specs.Below.server_model.Commit.{goes_on, assign, replace_slot, read, discard, drop_slot}
use Rattle.law_words_borrows.specs.Below.server_model.Events.{can_step, has_phase, enabled, does, Stepped, committed, prepared, step}
use Rattle.law_words_borrows.specs.Below.coherent_memory.Things.{at_slot, servers_things}
use Rattle.law_words_borrows.specs.Below.coherent_memory.Follow.{Standing}
use Rattle.law_words_borrows.specs.Below.coherent_memory.Sight.{sight}
use Rattle.law_words_borrows.specs.Below.coherent_memory.Coherent.{IsSound}
use Rattle.law_words_borrows.specs.Below.coherent_types.ClusterTypes.{IsCoherent}
use Rattle.law_words_borrows.specs.Below.law_words_paths.paths.HeapStore.{GoesOn, HasPaths}
use Rattle.law_words_borrows.specs.Below.law_words_paths.paths.Pointing.{moves as moves_from, assigns as assigns_to}
use Rattle.law_words_borrows.proofs.Below.law_words_paths.paths.Alike.{coherent_has_paths}
use Rattle.law_words_borrows.proofs.Below.law_words_paths.paths.Contained.{among_thread}
use Rattle.law_copies_kept.specs.Below.law_words_kept.ends.Dropped.{GivesUp, written, dropped}
use Rattle.law_copies_kept.proofs.Below.law_words_kept.ends.Given.{given_up_may_be}
use Rattle.law_copies_kept.specs.Below.law_words_paths.words.Unmoved.{taking_by}
use Rattle.law_words_borrows.specs.Below.law_counts_sums.Kinds.{instr_kind}
use Rattle.law_words_borrows.specs.Below.law_counts_sums.Laws.{Gives, FewEvents}
use Rattle.law_words_borrows.proofs.Below.law_counts_sums.Proved.{IsProvedKind}
use Rattle.law_words_borrows.proofs.Below.law_counts_sums.RulesKeep.{sums_kept, sums_spend}
use Rattle.law_words_borrows.proofs.Below.law_counts_sums.Bags.{all_standing}
use Rattle.law_words_borrows.proofs.Below.law_counts_sums.Events.{others_of}
use Rattle.law_words_borrows.proofs.Below.law_counts_sums.Steps.{step_keeps}
use Rattle.law_words_borrows.proofs.Below.law_counts_sums.ThreadThere.{thread_there}
use Rattle.law_words_borrows.proofs.Below.law_counts_sums.Values.{last_split}
use Rattle.law_copies_kept.proofs.Below.law_words_kept.stays.Steps.{TakesNoneHere, hand_itself}
use Rattle.law_copies_kept.proofs.Below.law_words_kept.prepared.Hands.{calm_goes}
use Rattle.law_copies_kept.proofs.Below.law_words_kept.prepared.Asking.{found_number}
use Rattle.law_copies_kept.proofs.Below.law_words_values.carried.Passing.{Here, slot, temp, Passes}
use Rattle.law_copies_kept.proofs.Below.law_words_values.carried.Places.{end_is}
use Rattle.law_copies_kept.proofs.Below.law_words_values.carried.Replaced.{cells_same}
use Rattle.law_copies_kept.proofs.Below.law_words_values.carried.Hands.{ThereBy, Ok, Moved, seen, h0, first_ok, each_together, moved_goes, moved_over, places, left_by, step_by}
use Rattle.law_copies_kept.proofs.Below.law_words_values.carried.Steps.{goes_over}
use Rattle.law_words_borrows.specs.Below.law_words_values.references.Unpassed.{IsUnpassed}
use Rattle.law_words_borrows.specs.Below.law_words_values.references.Fewer.{IsRanked}
use Rattle.law_words_borrows.specs.Below.law_words_values.references.Gone.{IsLight, to_slot, to_slot_mutably, shared_to, GivesReference, moves, drops, discards, assigns}
use Rattle.law_words_borrows.proofs.Below.law_words_values.references.Unpassed.{unnamed_are_unpassed}
use Rattle.law_words_borrows.proofs.Below.law_words_values.references.Ranks.{types_rank}
use Rattle.law_words_borrows.proofs.Below.law_words_values.references.RefPlaces.{Loses, is_fewer, slot_moves, newest_moves, top_lost}
use Rattle.law_words_borrows.proofs.Below.law_words_values.references.Chains.{OnWay, cluster, with_thread, firsts, split, on_start, unpassed_at_start, ranked_at_start, slot_carries, slot_gives, slot_ranks, less_goes, way_leaves}
use Rattle.law_words_borrows.proofs.Below.law_words_values.references.RefSteps.{slot_drops, top_drops, moves_out, moved_out, emptied, puts_over}
use Rattle.law_copies_kept.proofs.copies.Clean.{KeepsClean, Leaves, clean_goes, all_goes}
use Rattle.law_copies_kept.proofs.references.Changed.{clean_where, clean_chain}

-- A STEP AS A CHAIN OF SMALL ONES

module _ (k : Cluster) (sound : IsSound k) (s : Server) (here : server_at k.servers s.rest.number ≡ Some s) (t : ℕ) (y : ThreadState) (at : thread_in s.threads t ≡ Some y) where
  abbrev n : ℕ
  n = s.rest.number

  abbrev put : Hand → Cluster
  put h = cluster k sound s here t y at h

  abbrev set : Hand → ThreadState → Hand
  set h x = with_thread k sound s here t y at h x

  -- a hand on the way, up to which words, cells and changed references stay
  pub record Way (h : Hand) : Type 0 where
    pub words : OnWay k sound s here t y at h
    pub clean : KeepsClean k (put h)

  pub starts : Way (h0 k sound s here t y at)
  starts = record {
    words = on_start k sound s here t y at;
    clean = moved_goes k sound s here t y at clean_goes (h0 k sound s here t y at) (first_ok k sound s here t y at) (seen (each_together (hand_itself k.code n (h0 k sound s here t y at))));
  }

  -- a slot that no holder passes gives its value
  pub gives : (h : Hand) (x : ThreadState) (w : Way h) (i : ℕ) (to : Here) (p : Passes k.code n h.thread x (slot i) to) (away : (j : ℕ) → slot j ≡ to → ⊥) (unpassed : IsUnpassed (put h) (at_slot h.thread.number i)) → Way (set h x)
  gives h x w i to p away unpassed =
      let next = slot_gives k sound s here t y at h x w.words i to p away unpassed in record {
        words = next;
        clean = clean_chain w.clean (clean_goes.carried (put h) (put (set h x)) _ _ w.words.places next.places (firsts k sound s here t y at h w.words)
            (cells_same (put h) (put (set h x)) n h.thread x p.number (split k sound s here t y at h x w.words p.number) w.words.places next.places) (slot_carries k sound s here t y at h x w.words i to p away unpassed));
      }

  -- a pointer is lost
  pub loses : (h : Hand) (x : ThreadState) → Way h → IsRanked (put h) → Loses k.code n h.thread x → Way (set h x)
  loses h x w ranked p =
      let next = less_goes k sound s here t y at h x w.words ranked p in
      let parts = split k sound s here t y at h x w.words p.number in
      let fewer = is_fewer (put h) (put (set h x)) n h.thread x p parts refl w.words.places next.places in record {
        words = next;
        clean = clean_chain w.clean (clean_where (put h) (put (set h x)) w.words.places next.places (cells_same (put h) (put (set h x)) n h.thread x p.number parts w.words.places next.places) (record { stands = fewer.stands; takes = fewer.takes; took = fewer.took }));
      }

  -- and what is left of the step moves one value, or none
  pub ends : (h h2 : Hand) → Way h → Ok k sound s here t y at h2 → Moved k.code n h h2 → Leaves k (put h2)
  ends h h2 w ok m = (
    way_leaves k sound s here t y at h h2 w.words ok m,
    clean_chain w.clean (moved_over k sound s here t y at clean_goes h h2 w.words.number w.words.named w.words.places (places k sound s here t y at h2 ok) w.words.rooted (firsts k sound s here t y at h w.words) m),
  )

-- WHICH INSTRUCTIONS TAKE NOTHING

drop_takes : (t : ℕ) (p : Phase) → taking_by t p (Some instr.DropSlot) ≡ None
drop_takes t (phase.Taken w) = refl
drop_takes t _ = refl

discard_takes : (t : ℕ) (p : Phase) → taking_by t p (Some instr.Discard) ≡ None
discard_takes t (phase.Taken w) = refl
discard_takes t _ = refl

read_takes : (t : ℕ) (p : Phase) (w : Lval) (b : Bool) → taking_by t p (Some (instr.Read w b)) ≡ None
read_takes t (phase.Taken v) w b = refl
read_takes t _ w b = refl

assign_takes : (t : ℕ) (p : Phase) (w : Lval) (o : Operand) → taking_by t p (Some (instr.Assign w o)) ≡ None
assign_takes t (phase.Taken v) w o = refl
assign_takes t _ w o = refl

-- what goes so is no mutable reference to an object
light_no_mut : (v : Value) → IsLight v → (r : MutRef) → v ≡ value.Mut r → ⊥
light_no_mut _ (to_slot i) r e = absurd cc
light_no_mut _ (to_slot_mutably i) r e = absurd cc
light_no_mut _ (shared_to q) r e = absurd cc

pub light_calm : (spot : Spot) (v : Value) → IsLight v → ending spot (Some v) ≡ None
light_calm spot _ (to_slot i) = refl
light_calm spot _ (to_slot_mutably i) = refl
light_calm spot _ (shared_to q) = refl

no_slot_temp : (i j : ℕ) → slot i ≡ temp j → ⊥
no_slot_temp i j e = absurd cc

length_end : {A : Type 0} (xs : List A) (v : A) → length (xs ++ v ∷ []) ≡ suc (length xs)
length_end [] v = refl
length_end (x ∷ xs) v = ap suc (length_end xs v)

module _ (k : Cluster) (coherent : IsCoherent k) (s : Server) (here : server_at k.servers s.rest.number ≡ Some s) (t : ℕ) (y : ThreadState) (at : thread_in s.threads t ≡ Some y) (on : enabled k.options s (Step t) ≡ true) where
  abbrev sn : ℕ
  sn = s.rest.number

  abbrev hand : Hand
  hand = h0 k coherent.sound s here t y at

  abbrev OnIts : Hand → Type 0
  OnIts = Way k coherent.sound s here t y at

  abbrev Done : Hand → Instr → Type 0
  Done h i = Gives (λ (d : Stepped). Moved k.code sn h d.hand) (step k.options.servers i hand)

  abbrev me : Standing
  me = record { server = sn; packed = false; thread = y }

  going : GoesOn k me
  going = record { among = (among_thread (sight k).ground.threads t me (thread_there k coherent.sound sn s here t y at)).0; going = calm_goes y.phase (subst (λ o. has_phase can_step o ≡ true) at on) }

  paths : HasPaths k
  paths = coherent_has_paths k coherent

  start : OnIts hand
  start = starts k coherent.sound s here t y at

  -- no holder passes a slot of which the value is given up
  unpassed : (i : Instr) (w : Lval) → slice_get k.code y.pc ≡ Some i → GivesUp y i w → IsUnpassed (cluster k coherent.sound s here t y at hand) (at_slot y.number w.slot)
  unpassed i w code up = unpassed_at_start k coherent.sound s here t y at (at_slot y.number w.slot) (unnamed_are_unpassed k paths y.number w.slot (given_up_may_be k paths me i w going code up).free)

  untaken : (i : Instr) → slice_get k.code y.pc ≡ Some i → taking_by y.number y.phase (Some i) ≡ None → TakesNoneHere k.code y
  untaken i code e = subst (λ j. taking_by y.number y.phase j ≡ None) (sym code) e

  ranked : IsRanked (cluster k coherent.sound s here t y at hand)
  ranked = ranked_at_start k coherent.sound s here t y at (types_rank k paths)

  -- a slot's value is among the temporary ones
  module _ (i : ℕ) (v : Value) (stood : slice_get y.slots i ≡ Some v) (x : ThreadState) (p : Passes k.code sn y x (slot i) (temp (length y.temps))) (free : IsUnpassed (cluster k coherent.sound s here t y at hand) (at_slot y.number i)) where
    gives_it : OnIts (record hand { thread = x })
    gives_it = gives k coherent.sound s here t y at hand x start i (temp (length y.temps)) p (λ j q. no_slot_temp j (length y.temps) q) free

    -- and lost from there, where it is light
    loses_it : IsLight v → (z : ThreadState) → Loses k.code sn x z → OnIts (record hand { thread = z })
    loses_it light z lost =
        loses k coherent.sound s here t y at (record hand { thread = x }) z gives_it
        (slot_ranks k coherent.sound s here t y at hand x (on_start k coherent.sound s here t y at) i (temp (length y.temps)) p (λ j q. no_slot_temp j (length y.temps) q) free v stood (λ r q. light_no_mut v light r q) ranked) lost

  -- what is left of the step, from a hand on the way
  ends_there : (i : Instr) → slice_get k.code y.pc ≡ Some i → IsProvedKind (instr_kind i) → (h : Hand) → OnIts h → Done h i → Gives (ThereBy Leaves k s) (does k.code k.options s (Step t))
  ends_there i code p h w g =
      step_by Leaves k coherent.sound s here t y at i code (Moved k.code sn h) (λ h2 ok m. ends k coherent.sound s here t y at h h2 w ok m)
      (step_keeps sums_kept sn s.events t (all_standing sn (without_thread s.threads t) ++ servers_things (others_of k.servers sn)) k.options.servers i hand p (λ z. sums_spend) (first_ok k coherent.sound s here t y at)) g

  all_there : (i : Instr) → GivesReference y i → slice_get k.code y.pc ≡ Some i → Gives (ThereBy Leaves k s) (does k.code k.options s (Step t))
  all_there _ (moves w v flat e) code =
      let none = untaken (instr.Read w true) code (read_takes y.number y.phase w true) in
      let h : Hand = moved_out k.code sn hand none w.slot v in
      ends_there (instr.Read w true) code tt h (gives_it w.slot v e h.thread (slot_moves k.code sn y none w.slot v e) (unpassed (instr.Read w true) w code (written moves_from)))
      (subst (λ d. Gives (λ (d : Stepped). Moved k.code sn h d.hand) (prepared k.options.servers (instr.Read w true) (prepare (Some (read_or_taken w d true)) hand))) (sym flat)
      (subst (λ d. Gives (λ (d : Stepped). Moved k.code sn h d.hand) (prepared k.options.servers (instr.Read w true) (read_stars d hand (spot_slot w.slot)))) (sym flat)
      (goes_over k.code sn h fresh.None (read true (spot_slot w.slot) hand) (moves_out k.code sn hand none w.slot v e))))
  all_there _ (drops v e light) code =
      let none = untaken instr.DropSlot code (drop_takes y.number y.phase) in
      let ss = front_of y.slots in
      let parts : y.slots ≡ ss ++ v ∷ [] = last_split y.slots v e in
      let h2 : Hand = with_slots ss hand in
      let h1 : ThreadState = record y { slots = ss; temps = y.temps ++ v ∷ [] } in
      ends_there instr.DropSlot code tt h2
      (loses_it (length ss) v (ap (λ vs. slice_get vs (length ss)) parts ∙ end_is ss v) h1 (newest_moves k.code sn y none ss v parts) (unpassed instr.DropSlot (record { slot = length ss; depth = 0 }) code (dropped (length ss) (ap length parts ∙ length_end ss v))) light h2.thread
      (top_lost k.code sn h1 none y.temps v refl light))
      (subst (λ o. Gives (λ (d : Stepped). Moved k.code sn h2 d.hand) (prepared k.options.servers instr.DropSlot (prepare (ending (spot_slot (length y.slots - 1)) o) hand))) (sym e)
      (subst (λ a. Gives (λ (d : Stepped). Moved k.code sn h2 d.hand) (prepared k.options.servers instr.DropSlot (prepare a hand))) (sym (light_calm (spot_slot (length y.slots - 1)) v light))
      (goes_over k.code sn h2 fresh.None (drop_slot no_spot hand) (slot_drops k.code sn hand none v e light))))
  all_there _ (discards v e light) code =
      let none = untaken instr.Discard code (discard_takes y.number y.phase) in
      let h : Hand = with_temps (front_of y.temps) hand in
      ends_there instr.Discard code tt h (loses k coherent.sound s here t y at hand h.thread start ranked (top_lost k.code sn y none (front_of y.temps) v (last_split y.temps v e) light))
      (subst (λ o. Gives (λ (d : Stepped). Moved k.code sn h d.hand) (prepared k.options.servers instr.Discard (prepare (ending on_top o) hand))) (sym e)
      (subst (λ a. Gives (λ (d : Stepped). Moved k.code sn h d.hand) (prepared k.options.servers instr.Discard (prepare a hand))) (sym (light_calm on_top v light))
      (goes_over k.code sn h fresh.None (discard no_spot hand) (top_drops k.code sn hand none v e light))))
  all_there _ (assigns w o v flat e light) code =
      let none = untaken (instr.Assign w o) code (assign_takes y.number y.phase w o) in
      let h1 : Hand = moved_out k.code sn hand none w.slot v in
      let h2 : Hand = emptied k.code sn hand none w.slot in
      ends_there (instr.Assign w o) code tt h2
      (loses_it w.slot v e h1.thread (slot_moves k.code sn y none w.slot v e) (unpassed (instr.Assign w o) w code (written assigns_to)) light h2.thread (top_lost k.code sn h1.thread none y.temps v refl light))
      (subst (λ d. Gives (λ (x : Stepped). Moved k.code sn h2 x.hand) (prepared k.options.servers (instr.Assign w o) (prepare (assigned w d y) hand))) (sym flat)
      (subst (λ a. Gives (λ (x : Stepped). Moved k.code sn h2 x.hand) (prepared k.options.servers (instr.Assign w o) (prepare a hand))) (sym (ap (ending (spot_slot w.slot)) e))
      (subst (λ a. Gives (λ (x : Stepped). Moved k.code sn h2 x.hand) (prepared k.options.servers (instr.Assign w o) (prepare a hand))) (sym (light_calm (spot_slot w.slot) v light))
      (subst (λ d. Gives (λ (x : Stepped). Moved k.code sn h2 x.hand) (committed (goes_on (assign w d o no_spot hand)))) (sym flat)
      (goes_over k.code sn h2 fresh.None (then_some (pop o hand) (λ u. replace_slot w.slot no_spot u.item u.hand)) (puts_over k.code sn hand none w.slot v e light o))))))

-- in its cluster words, cells and changed references stay
pub references_leave : (k : Cluster) (number t : ℕ) (s : Server) (y : ThreadState) (i : Instr) → IsCoherent k → FewEvents k → server_at k.servers number ≡ Some s → thread_in s.threads t ≡ Some y → slice_get k.code y.pc ≡ Some i → GivesReference y i
    → Gives (λ (d : Cluster × EntryView). Leaves k d.0) (apply k (record { server = number; what = Step t }))
references_leave k number t s y i coherent few here at code g =
    subst (λ n. server_at k.servers n ≡ Some s → Gives (λ (d : Cluster × EntryView). Leaves k d.0) (apply k (record { server = n; what = Step t }))) (found_number number k.servers s here)
    (λ h. left_by all_goes k s t coherent.sound few h (λ on. all_there k coherent s h t y at on i g code)) here
