-- Steps in which a reference goes, in their cluster.
use Rattle.std.proofs.Common.{◌≡◌, ℕ, suc, ◌-◌, Bool, true, false, List, [], ◌∷◌, ◌++◌, Some, None, refl, sym, ap, subst, ◌∙◌}
use Rattle.std.specs.Prelude.{slice_get, length}
use Rattle.law_words_values.specs.Below.fr_base.declared.place.Lval.{Lval}
use Rattle.law_words_values.specs.Below.fr_base.declared.instruction.Operand.{Operand}
use Rattle.law_words_values.specs.Below.fr_base.declared.instruction.Instr.{Instr}
use Rattle.law_words_values.specs.Below.fr_base.declared.instruction.Instr.TheVariants as instr
use Rattle.law_words_values.specs.Below.fr_base.declared.step.Fresh.TheVariants as fresh
use Rattle.law_words_values.specs.Below.journal.View.{EntryView}
use Rattle.law_words_values.specs.Below.mut_borrow.declared.mutable.MutRef.{MutRef}
use Rattle.law_words_values.specs.Below.thread_state.View.{ThreadState}
use Rattle.law_words_values.specs.Below.thread_state.declared.phase.Phase.{Phase}
use Rattle.law_words_values.specs.Below.thread_state.declared.phase.Phase.TheVariants as phase
use Rattle.law_words_values.specs.Below.thread_state.declared.value.Value.{Value}
use Rattle.law_words_values.specs.Below.thread_state.declared.value.Value.TheVariants as value
use Rattle.law_words_values.specs.Below.server_model.declared.event.What.TheVariants.{Step}
use Rattle.law_words_values.specs.Below.server_model.Servers.{Server, Cluster, server_at}
use Rattle.law_words_values.specs.Below.server_model.Work.{Hand, last_of, front_of, with_slots, with_temps, thread_in, without_thread, then_some, pop}
use Rattle.law_words_values.specs.Below.server_model.Clusters.{apply}
use Rattle.law_words_values.specs.Below.server_model.Places.{Spot, nowhere as no_spot, in_slot as spot_slot, on_top}
use Rattle.law_words_values.specs.Below.server_model.Prepare.{ending, assigned, prepare, read_or_taken, read_stars}
use Rattle.law_words_values.specs.Below.server_model.Commit.{goes_on, assign, replace_slot, read, discard, drop_slot}
use Rattle.law_words_values.specs.Below.server_model.Events.{can_step, has_phase, enabled, does, Stepped, committed, prepared, step}
use Rattle.law_words_values.specs.Below.coherent_memory.Things.{at_slot, servers_things}
use Rattle.law_words_values.specs.Below.coherent_memory.Follow.{Standing}
use Rattle.law_words_values.specs.Below.coherent_memory.Sight.{sight}
use Rattle.law_words_values.specs.Below.coherent_types.ClusterTypes.{IsCoherent}
use Rattle.law_words_values.specs.Below.law_words_paths.paths.HeapStore.{GoesOn, HasPaths}
use Rattle.law_words_values.specs.Below.law_words_paths.paths.Pointing.{moves as moves_from, assigns as assigns_to}
use Rattle.law_words_values.proofs.Below.law_words_paths.paths.Alike.{coherent_has_paths}
use Rattle.law_words_values.proofs.Below.law_words_paths.paths.Contained.{among_thread}
use Rattle.law_words_values.specs.Below.law_words_kept.ends.Dropped.{GivesUp, written, dropped}
use Rattle.law_words_values.proofs.Below.law_words_kept.ends.Given.{given_up_may_be}
use Rattle.law_words_values.specs.Below.law_words_paths.words.Unmoved.{taking_by, LeavesWords}
use Rattle.law_words_values.specs.Below.law_counts_sums.Kinds.{instr_kind}
use Rattle.law_words_values.specs.Below.law_counts_sums.Laws.{Gives}
use Rattle.law_words_values.proofs.Below.law_counts_sums.Proved.{IsProvedKind}
use Rattle.law_words_values.proofs.Below.law_counts_sums.RulesKeep.{sums_kept, sums_spend}
use Rattle.law_words_values.proofs.Below.law_counts_sums.Bags.{all_standing}
use Rattle.law_words_values.proofs.Below.law_counts_sums.Events.{others_of}
use Rattle.law_words_values.proofs.Below.law_counts_sums.Steps.{step_keeps}
use Rattle.law_words_values.proofs.Below.law_counts_sums.ThreadThere.{thread_there}
use Rattle.law_words_values.proofs.Below.law_counts_sums.Values.{last_split}
use Rattle.law_words_values.proofs.Below.law_words_kept.stays.Steps.{TakesNoneHere}
use Rattle.law_words_values.proofs.Below.law_words_kept.prepared.Hands.{calm_goes}
use Rattle.law_words_values.proofs.Below.law_words_kept.prepared.Asking.{found_number}
use Rattle.law_words_values.proofs.carried.Passing.{slot, temp}
use Rattle.law_words_values.proofs.carried.Places.{end_is}
use Rattle.law_words_values.proofs.carried.Hands.{There, Ok, Moved, h0, first_ok, left_where, step_there}
use Rattle.law_words_values.proofs.carried.Steps.{goes_over}
use Rattle.law_words_values.specs.references.Unpassed.{IsUnpassed}
use Rattle.law_words_values.specs.references.Gone.{IsLight, to_slot, to_slot_mutably, shared_to, GivesReference, moves, drops, discards, assigns, ReferencesGo}
use Rattle.law_words_values.proofs.references.Unpassed.{unnamed_are_unpassed}
use Rattle.law_words_values.proofs.references.Ranks.{types_rank}
use Rattle.law_words_values.proofs.references.RefPlaces.{slot_moves, newest_moves, top_lost}
use Rattle.law_words_values.proofs.references.Chains.{OnWay, on_start, unpassed_at_start, ranked_at_start, slot_gives, slot_ranks, less_goes, way_leaves}
use Rattle.law_words_values.proofs.references.RefSteps.{slot_drops, top_drops, moves_out, moved_out, emptied, puts_over}

-- WHICH INSTRUCTIONS TAKE NOTHING

drop_takes : (t : ℕ) (p : Phase) → taking_by t p (Some instr.DropSlot) ≡ None
drop_takes t (phase.Taken w) = refl
drop_takes t _ = refl

discard_takes : (t : ℕ) (p : Phase) → taking_by t p (Some instr.Discard) ≡ None
discard_takes t (phase.Taken w) = refl
discard_takes t _ = refl

read_takes : (t : ℕ) (p : Phase) (w : Lval) (b : Bool) → taking_by t p (Some (instr.Read w b)) ≡ None
read_takes t (phase.Taken v) w b = refl
read_takes t _ w b = refl

assign_takes : (t : ℕ) (p : Phase) (w : Lval) (o : Operand) → taking_by t p (Some (instr.Assign w o)) ≡ None
assign_takes t (phase.Taken v) w o = refl
assign_takes t _ w o = refl

-- a reference that isn't mutable to an object
light_no_mut : (v : Value) → IsLight v → (r : MutRef) → v ≡ value.Mut r → ⊥
light_no_mut _ (to_slot i) r e = absurd cc
light_no_mut _ (to_slot_mutably i) r e = absurd cc
light_no_mut _ (shared_to q) r e = absurd cc

light_calm : (spot : Spot) (v : Value) → IsLight v → ending spot (Some v) ≡ None
light_calm spot _ (to_slot i) = refl
light_calm spot _ (to_slot_mutably i) = refl
light_calm spot _ (shared_to q) = refl

no_slot_temp : (i j : ℕ) → slot i ≡ temp j → ⊥
no_slot_temp i j e = absurd cc

length_end : {A : Type 0} (xs : List A) (v : A) → length (xs ++ v ∷ []) ≡ suc (length xs)
length_end [] v = refl
length_end (x ∷ xs) v = ap suc (length_end xs v)

module _ (k : Cluster) (coherent : IsCoherent k) (s : Server) (here : server_at k.servers s.rest.number ≡ Some s) (t : ℕ) (y : ThreadState) (at : thread_in s.threads t ≡ Some y) (on : enabled k.options s (Step t) ≡ true) where
  abbrev n : ℕ
  n = s.rest.number

  abbrev hand : Hand
  hand = h0 k coherent.sound s here t y at

  abbrev me : Standing
  me = record { server = n; packed = false; thread = y }

  going : GoesOn k me
  going = record { among = (among_thread (sight k).ground.threads t me (thread_there k coherent.sound n s here t y at)).0; going = calm_goes y.phase (subst (λ o. has_phase can_step o ≡ true) at on) }

  paths : HasPaths k
  paths = coherent_has_paths k coherent

  -- no holder passes a slot of which the value is given up
  given_unpassed : (i : Instr) (w : Lval) → slice_get k.code y.pc ≡ Some i → GivesUp y i w → IsUnpassed k (at_slot y.number w.slot)
  given_unpassed i w code gives = unnamed_are_unpassed k paths y.number w.slot (given_up_may_be k paths me i w going code gives).free

  untaken : (i : Instr) → slice_get k.code y.pc ≡ Some i → taking_by y.number y.phase (Some i) ≡ None → TakesNoneHere k.code y
  untaken i code e = subst (λ j. taking_by y.number y.phase j ≡ None) (sym code) e

  ok_steps : (i : Instr) → IsProvedKind (instr_kind i) → Gives (λ (d : Stepped). Ok k coherent.sound s here t y at d.hand) (step k.options.servers i hand)
  ok_steps i p = step_keeps sums_kept n s.events t (all_standing n (without_thread s.threads t) ++ servers_things (others_of k.servers n)) k.options.servers i hand p (λ z. sums_spend) (first_ok k coherent.sound s here t y at)

  -- what is left of the step once words stay up to a hand on its way
  from_way : (i : Instr) → slice_get k.code y.pc ≡ Some i → IsProvedKind (instr_kind i) → (h : Hand) → OnWay k coherent.sound s here t y at h → Gives (λ (d : Stepped). Moved k.code n h d.hand) (step k.options.servers i hand) → Gives (There k s) (does k.code k.options s (Step t))
  from_way i code p h w g = step_there k coherent.sound s here t y at i code (Moved k.code n h) (λ h2 ok m. way_leaves k coherent.sound s here t y at h h2 w ok m) (ok_steps i p) g

  -- A MOVE OUT OF A VARIABLE

  moves_there : (w : Lval) (v : Value) → w.depth ≡ 0 → slice_get y.slots w.slot ≡ Some v → slice_get k.code y.pc ≡ Some (instr.Read w true) → Gives (There k s) (does k.code k.options s (Step t))
  moves_there w v flat e code =
      let none = untaken (instr.Read w true) code (read_takes y.number y.phase w true) in
      let h : Hand = moved_out k.code n hand none w.slot v in
      let way : OnWay k coherent.sound s here t y at h = slot_gives k coherent.sound s here t y at hand h.thread (on_start k coherent.sound s here t y at) w.slot (temp (length y.temps)) (slot_moves k.code n y none w.slot v e) (λ j q. no_slot_temp j (length y.temps) q)
      (unpassed_at_start k coherent.sound s here t y at (at_slot y.number w.slot) (given_unpassed (instr.Read w true) w code (written moves_from))) in
      from_way (instr.Read w true) code tt h way
      (subst (λ d. Gives (λ (d : Stepped). Moved k.code n h d.hand) (prepared k.options.servers (instr.Read w true) (prepare (Some (read_or_taken w d true)) hand))) (sym flat)
      (subst (λ d. Gives (λ (d : Stepped). Moved k.code n h d.hand) (prepared k.options.servers (instr.Read w true) (read_stars d hand (spot_slot w.slot)))) (sym flat)
      (goes_over k.code n h fresh.None (read true (spot_slot w.slot) hand) (moves_out k.code n hand none w.slot v e))))

  -- A LIGHT REFERENCE GOES WITH ITS SLOT

  drops_there : (v : Value) → last_of y.slots ≡ Some v → IsLight v → slice_get k.code y.pc ≡ Some instr.DropSlot → Gives (There k s) (does k.code k.options s (Step t))
  drops_there v e light code =
      from_way instr.DropSlot code tt h2 way
      (subst (λ o. Gives (λ (d : Stepped). Moved k.code n h2 d.hand) (prepared k.options.servers instr.DropSlot (prepare (ending (spot_slot (length y.slots - 1)) o) hand))) (sym e)
      (subst (λ a. Gives (λ (d : Stepped). Moved k.code n h2 d.hand) (prepared k.options.servers instr.DropSlot (prepare a hand))) (sym (light_calm (spot_slot (length y.slots - 1)) v light))
      (goes_over k.code n h2 fresh.None (drop_slot no_spot hand) (slot_drops k.code n hand none v e light))))
    where
      none : TakesNoneHere k.code y
      none = untaken instr.DropSlot code (drop_takes y.number y.phase)

      ss : List Value
      ss = front_of y.slots

      split : y.slots ≡ ss ++ v ∷ []
      split = last_split y.slots v e

      h1 : Hand
      h1 = record hand { thread = record y { slots = ss; temps = y.temps ++ v ∷ [] } }

      h2 : Hand
      h2 = with_slots ss hand

      unpassed : IsUnpassed k (at_slot y.number (length ss))
      unpassed = given_unpassed instr.DropSlot (record { slot = length ss; depth = 0 }) code (dropped (length ss) (ap length split ∙ length_end ss v))

      stood : slice_get y.slots (length ss) ≡ Some v
      stood = ap (λ vs. slice_get vs (length ss)) split ∙ end_is ss v

      way1 : OnWay k coherent.sound s here t y at h1
      way1 = slot_gives k coherent.sound s here t y at hand h1.thread (on_start k coherent.sound s here t y at) (length ss) (temp (length y.temps)) (newest_moves k.code n y none ss v split) (λ j q. no_slot_temp j (length y.temps) q) (unpassed_at_start k coherent.sound s here t y at (at_slot y.number (length ss)) unpassed)

      way : OnWay k coherent.sound s here t y at h2
      way =
          less_goes k coherent.sound s here t y at h1 h2.thread way1
          (slot_ranks k coherent.sound s here t y at hand h1.thread (on_start k coherent.sound s here t y at) (length ss) (temp (length y.temps)) (newest_moves k.code n y none ss v split) (λ j q. no_slot_temp j (length y.temps) q) (unpassed_at_start k coherent.sound s here t y at (at_slot y.number (length ss)) unpassed)
          v stood (λ r q. light_no_mut v light r q) (ranked_at_start k coherent.sound s here t y at (types_rank k paths)))
          (top_lost k.code n h1.thread none y.temps v refl light)

  -- FROM THE HAND

  discards_there : (v : Value) → last_of y.temps ≡ Some v → IsLight v → slice_get k.code y.pc ≡ Some instr.Discard → Gives (There k s) (does k.code k.options s (Step t))
  discards_there v e light code =
      let none = untaken instr.Discard code (discard_takes y.number y.phase) in
      let h : Hand = with_temps (front_of y.temps) hand in
      let way : OnWay k coherent.sound s here t y at h = less_goes k coherent.sound s here t y at hand h.thread (on_start k coherent.sound s here t y at) (ranked_at_start k coherent.sound s here t y at (types_rank k paths)) (top_lost k.code n y none (front_of y.temps) v (last_split y.temps v e) light) in
      from_way instr.Discard code tt h way
      (subst (λ o. Gives (λ (d : Stepped). Moved k.code n h d.hand) (prepared k.options.servers instr.Discard (prepare (ending on_top o) hand))) (sym e)
      (subst (λ a. Gives (λ (d : Stepped). Moved k.code n h d.hand) (prepared k.options.servers instr.Discard (prepare a hand))) (sym (light_calm on_top v light))
      (goes_over k.code n h fresh.None (discard no_spot hand) (top_drops k.code n hand none v e light))))

  -- AND WHERE IT IS ASSIGNED OVER

  assigns_there : (w : Lval) (o : Operand) (v : Value) → w.depth ≡ 0 → slice_get y.slots w.slot ≡ Some v → IsLight v → slice_get k.code y.pc ≡ Some (instr.Assign w o) → Gives (There k s) (does k.code k.options s (Step t))
  assigns_there w o v flat e light code =
      from_way (instr.Assign w o) code tt h2 way
      (subst (λ d. Gives (λ (x : Stepped). Moved k.code n h2 x.hand) (prepared k.options.servers (instr.Assign w o) (prepare (assigned w d y) hand))) (sym flat)
      (subst (λ a. Gives (λ (x : Stepped). Moved k.code n h2 x.hand) (prepared k.options.servers (instr.Assign w o) (prepare a hand))) (sym (ap (ending (spot_slot w.slot)) e))
      (subst (λ a. Gives (λ (x : Stepped). Moved k.code n h2 x.hand) (prepared k.options.servers (instr.Assign w o) (prepare a hand))) (sym (light_calm (spot_slot w.slot) v light))
      (subst (λ d. Gives (λ (x : Stepped). Moved k.code n h2 x.hand) (committed (goes_on (assign w d o no_spot hand)))) (sym flat)
      (goes_over k.code n h2 fresh.None (then_some (pop o hand) (λ u. replace_slot w.slot no_spot u.item u.hand)) (puts_over k.code n hand none w.slot v e light o))))))
    where
      none : TakesNoneHere k.code y
      none = untaken (instr.Assign w o) code (assign_takes y.number y.phase w o)

      h1 : Hand
      h1 = moved_out k.code n hand none w.slot v

      h2 : Hand
      h2 = emptied k.code n hand none w.slot

      unpassed : IsUnpassed k (at_slot y.number w.slot)
      unpassed = given_unpassed (instr.Assign w o) w code (written assigns_to)

      way1 : OnWay k coherent.sound s here t y at h1
      way1 = slot_gives k coherent.sound s here t y at hand h1.thread (on_start k coherent.sound s here t y at) w.slot (temp (length y.temps)) (slot_moves k.code n y none w.slot v e) (λ j q. no_slot_temp j (length y.temps) q) (unpassed_at_start k coherent.sound s here t y at (at_slot y.number w.slot) unpassed)

      way : OnWay k coherent.sound s here t y at h2
      way =
          less_goes k coherent.sound s here t y at h1 h2.thread way1
          (slot_ranks k coherent.sound s here t y at hand h1.thread (on_start k coherent.sound s here t y at) w.slot (temp (length y.temps)) (slot_moves k.code n y none w.slot v e) (λ j q. no_slot_temp j (length y.temps) q) (unpassed_at_start k coherent.sound s here t y at (at_slot y.number w.slot) unpassed)
          v e (λ r q. light_no_mut v light r q) (ranked_at_start k coherent.sound s here t y at (types_rank k paths)))
          (top_lost k.code n h1.thread none y.temps v refl light)

  all_there : (i : Instr) → GivesReference y i → slice_get k.code y.pc ≡ Some i → Gives (There k s) (does k.code k.options s (Step t))
  all_there _ (moves w v flat e) code = moves_there w v flat e code
  all_there _ (drops v e light) code = drops_there v e light code
  all_there _ (discards v e light) code = discards_there v e light code
  all_there _ (assigns w o v flat e light) code = assigns_there w o v flat e light code

pub references_go : ReferencesGo
references_go k number t s y i coherent few here at code g =
    subst (λ n. server_at k.servers n ≡ Some s → Gives (λ (d : Cluster × EntryView). LeavesWords k d.0) (apply k (record { server = n; what = Step t }))) (found_number number k.servers s here)
    (λ h. left_where k s t coherent.sound few h (λ on. all_there k coherent s h t y at on i g code)) here
