-- A mutable reference ends in its cluster, where nothing is cleaned and no star is followed.
use Rattle.std.proofs.Common.{◌≡◌, inl, inr, ℕ, zero, suc, ◌+◌, ◌-◌, Bool, true, false, if◌then◌else◌, List, [], ◌∷◌, ◌++◌, Some, None, refl, sym, ap, subst, ◌∙◌, arith}
use Rattle.std.specs.Prelude.{nat_lt, slice_get, length}
use Rattle.law_words_borrows.specs.Below.fr_base.declared.place.Lval.{Lval}
use Rattle.law_words_borrows.specs.Below.fr_base.declared.instruction.Operand.{Operand}
use Rattle.law_words_borrows.specs.Below.fr_base.declared.instruction.Instr.{Instr}
use Rattle.law_words_borrows.specs.Below.fr_base.declared.instruction.Instr.TheVariants as instr
use Rattle.law_words_borrows.specs.Below.global_addr.Words.{colour_of, next_word}
use Rattle.law_words_borrows.specs.Below.journal.View.{EntryView}
use Rattle.law_words_borrows.specs.Below.mut_borrow.declared.mutable.MutRef.{MutRef}
use Rattle.law_words_borrows.specs.Below.mut_borrow.declared.mutable.Cleaned.TheVariants.{Same, Tinted, MustRenew}
use Rattle.law_words_borrows.specs.Below.mut_borrow.Refs.{cleaned_answer}
use Rattle.law_words_borrows.specs.Below.thread_state.View.{ThreadState}
use Rattle.law_words_borrows.specs.Below.thread_state.declared.phase.Phase.{Phase}
use Rattle.law_words_borrows.specs.Below.thread_state.declared.phase.Phase.TheVariants as phase
use Rattle.law_words_borrows.specs.Below.thread_state.declared.value.Value.{Value}
use Rattle.law_words_borrows.specs.Below.thread_state.declared.value.Value.TheVariants as value
use Rattle.law_words_borrows.specs.Below.server_model.declared.event.What.TheVariants.{Step}
use Rattle.law_words_borrows.specs.Below.server_model.Servers.{Server, Cluster, server_at}
use Rattle.law_words_borrows.specs.Below.server_model.Work.{Hand, last_of, front_of, thread_in, without_thread}
use Rattle.law_words_borrows.specs.Below.server_model.Clusters.{apply}
use Rattle.law_words_borrows.specs.Below.server_model.Places.{Spot, nowhere as no_spot, in_slot as spot_slot, on_top, value_at}
use Rattle.law_words_borrows.specs.Below.server_model.Prepare.{EndRef, Prepared, nothing, and_then, unlabelled, clean_value, cleaned_by, ending, assigned, prepare}
use Rattle.law_words_borrows.specs.Below.server_model.Commit.{commit}
use Rattle.law_words_borrows.specs.Below.server_model.Events.{can_step, has_phase, enabled, does, Stepped, committed, prepared, step}
use Rattle.law_words_borrows.specs.Below.coherent_memory.Names.{Among}
use Rattle.law_words_borrows.specs.Below.coherent_memory.Things.{Location, at_slot, at_temp, in_cell, servers_things, things_of}
use Rattle.law_words_borrows.specs.Below.coherent_memory.Follow.{Standing, Ground, slot_of, temp_of, value_in}
use Rattle.law_words_borrows.specs.Below.coherent_memory.Stale.{Reference, references, holder_of, is_among, with_place, one_star_less, lent_places}
use Rattle.law_words_borrows.specs.Below.coherent_memory.Sight.{sight}
use Rattle.law_words_borrows.specs.Below.coherent_memory.Paths.{ends, path_of, assigning, ending as path_ending}
use Rattle.law_words_borrows.specs.Below.coherent_memory.Walking.{path}
use Rattle.law_words_borrows.specs.Below.coherent_memory.Coherent.{Holds, first_at_holder}
use Rattle.law_words_borrows.specs.Below.coherent_types.ClusterTypes.{IsCoherent}
use Rattle.law_words_borrows.specs.Below.law_words_paths.paths.HeapStore.{GoesOn, HasPaths}
use Rattle.law_words_borrows.specs.Below.law_words_paths.paths.Pointing.{assigns as assigns_to}
use Rattle.law_words_borrows.proofs.Below.law_words_paths.paths.Alike.{coherent_has_paths}
use Rattle.law_words_borrows.proofs.Below.law_words_paths.paths.Contained.{among_thread}
use Rattle.law_words_borrows.proofs.Below.law_words_paths.paths.Shown.{stands_there}
use Rattle.law_words_borrows.specs.Below.law_words_kept.ends.Dropped.{GivesUp, written, dropped}
use Rattle.law_words_borrows.proofs.Below.law_words_kept.ends.Given.{given_up_may_be}
use Rattle.law_words_borrows.specs.Below.law_words_paths.words.Reworded.{HasPlaces}
use Rattle.law_words_borrows.specs.Below.law_words_paths.words.Unmoved.{seen_at, taking_by, takings, Untouched, LeavesWords}
use Rattle.law_words_borrows.proofs.Below.law_words_paths.words.Follows.{seen_places_lead}
use Rattle.law_words_borrows.proofs.Below.law_words_paths.words.Takings.{reference_at, lents_are, lent_by, lent_listed, lent_told}
use Rattle.law_words_borrows.proofs.Below.law_words_paths.words.Unmoved.{reference, stale_at}
use Rattle.law_words_borrows.specs.Below.law_counts_sums.Kinds.{instr_kind}
use Rattle.law_words_borrows.specs.Below.law_counts_sums.Laws.{Gives}
use Rattle.law_words_borrows.proofs.Below.law_counts_sums.Proved.{IsProvedKind}
use Rattle.law_words_borrows.proofs.Below.law_counts_sums.RulesKeep.{sums_kept, sums_spend}
use Rattle.law_words_borrows.proofs.Below.law_counts_sums.Bags.{all_standing}
use Rattle.law_words_borrows.proofs.Below.law_counts_sums.Events.{others_of}
use Rattle.law_words_borrows.proofs.Below.law_counts_sums.Steps.{step_keeps}
use Rattle.law_words_borrows.proofs.Below.law_counts_sums.ThreadThere.{thread_there}
use Rattle.law_words_borrows.proofs.Below.law_counts_sums.Values.{last_split}
use Rattle.law_words_borrows.proofs.Below.law_words_kept.stays.Steps.{TakesNoneHere}
use Rattle.law_words_borrows.proofs.Below.law_words_kept.prepared.Hands.{calm_goes}
use Rattle.law_words_borrows.proofs.Below.law_words_kept.prepared.Asking.{found_number}
use Rattle.law_words_borrows.proofs.Below.law_words_values.carried.Passing.{no_temp}
use Rattle.law_words_borrows.proofs.Below.law_words_values.carried.Places.{end_is}
use Rattle.law_words_borrows.proofs.Below.law_words_values.carried.Hands.{leaves_chain, There, Ok, h0, first_ok, left_where, step_there}
use Rattle.law_words_borrows.specs.Below.law_words_values.references.Unpassed.{IsUnpassed}
use Rattle.law_words_borrows.proofs.Below.law_words_values.references.Unpassed.{unnamed_are_unpassed}
use Rattle.law_words_borrows.proofs.Below.law_words_values.references.Fewer.{slots_lead, cells_lead, holders_lead}
use Rattle.law_words_borrows.proofs.Below.law_words_values.references.Chains.{held_there, OnWay, cluster, first_seen, first_places, on_start, unpassed_at_start, firsts, with_thread}
use Rattle.law_words_ends.specs.variables.Ends.{EndsReference, drops, discards, assigns, EndsAtHand, EndsAtHandLeaveWords}
use Rattle.law_words_borrows.specs.Below.law_words_kept.prepared.Requests.{WordsRise}
use Rattle.law_words_borrows.proofs.Below.law_words_kept.prepared.Rising.{rise_itself}
use Rattle.law_words_borrows.proofs.Below.law_words_values.carried.Locks.{holds_on}
use Rattle.law_words_ends.proofs.variables.EndHands.{newest_there, SpotIs, Base, AtEnd, Past, past_leaves, slot_ends, top_ends, variable_ends, follow, ready_end}
use Rattle.law_words_ends.proofs.variables.EndTypes.{alone, fresh as fresh_there, only as only_there, untaken as untaken_there}

-- at the drop of a slot no thread has taken an object
pub drop_takes : (t : ℕ) (p : Phase) → taking_by t p (Some instr.DropSlot) ≡ None
drop_takes t (phase.Taken w) = refl
drop_takes t _ = refl

-- nor at a discard
pub discard_takes : (t : ℕ) (p : Phase) → taking_by t p (Some instr.Discard) ≡ None
discard_takes t (phase.Taken w) = refl
discard_takes t _ = refl

-- nor at an assignment
pub assign_takes : (t : ℕ) (p : Phase) (w : Lval) (o : Operand) → taking_by t p (Some (instr.Assign w o)) ≡ None
assign_takes t (phase.Taken v) w o = refl
assign_takes t _ w o = refl

module _ (k : Cluster) (coherent : IsCoherent k) (s : Server) (here_it : server_at k.servers s.rest.number ≡ Some s) (t : ℕ) (y : ThreadState) (at : thread_in s.threads t ≡ Some y) (on : enabled k.options s (Step t) ≡ true) where
  abbrev pub n : ℕ
  n = s.rest.number

  abbrev pub hand : Hand
  hand = h0 k coherent.sound s here_it t y at

  abbrev pub me : Standing
  me = record { server = n; packed = false; thread = y }

  abbrev pub ground : Ground
  ground = (sight k).ground

  abbrev pub first_cluster : Cluster
  first_cluster = cluster k coherent.sound s here_it t y at hand

  abbrev pub ga : Ground
  ga = (sight first_cluster).ground

  abbrev changed_to : ThreadState → Hand
  changed_to x = with_thread k coherent.sound s here_it t y at hand x

  abbrev Way : Hand → Type 0
  Way h = OnWay k coherent.sound s here_it t y at h

  -- the thread goes on
  pub going : GoesOn k me
  going = record { among = (among_thread ground.threads t me (thread_there k coherent.sound n s here_it t y at)).0; going = calm_goes y.phase (subst (λ o. has_phase can_step o ≡ true) at on) }

  -- the cluster has paths
  pub paths : HasPaths k
  paths = coherent_has_paths k coherent

  -- and places
  pub places : HasPlaces k
  places = record { numbers_differ = coherent.sound.names.numbers_differ; home_of_each = coherent.sound.one_home.home_of_each; owner_of_each = coherent.sound.one_owner.owner_of_each }

  -- words see the same in the cluster of the hand
  pub seen_first : Untouched k first_cluster
  seen_first = first_seen k coherent.sound s here_it t y at

  -- the hand at the start
  pub started : Way hand
  started = on_start k coherent.sound s here_it t y at

  -- references know the words at their holders there
  firsts_then : Holds first_cluster first_at_holder
  firsts_then = firsts k coherent.sound s here_it t y at hand started

  -- no holder's place passes what is given up
  pub given_unpassed : (i : Instr) (w : Lval) → slice_get k.code y.pc ≡ Some i → GivesUp y i w → IsUnpassed k (at_slot y.number w.slot)
  given_unpassed i w code gives = unnamed_are_unpassed k paths y.number w.slot (given_up_may_be k paths me i w going code gives).free

  -- nor a temporary value
  pub temp_unpassed : (i : ℕ) → IsUnpassed k (at_temp y.number i)
  temp_unpassed i (at_slot u j) m r d e held le there = no_temp ground u r.holder.slot d y.number i there
  temp_unpassed i (at_temp u j) m r d e held le there = no_temp ground u r.holder.slot d y.number i there
  temp_unpassed i (in_cell o) m r d e held le there = absurd cc

  -- what stands in a slot
  pub slot_stands : (i : ℕ) (v : Value) → slice_get y.slots i ≡ Some v → value_in ground (at_slot y.number i) ≡ Some v
  slot_stands i v e = ap (λ o. slot_of o i) (stands_there k paths me going) ∙ e

  -- and in the hand
  pub temp_stands : (i : ℕ) (v : Value) → slice_get y.temps i ≡ Some v → value_in ground (at_temp y.number i) ≡ Some v
  temp_stands i v e = ap (λ o. temp_of o i) (stands_there k paths me going) ∙ e

  -- who has taken from a place had taken from it
  lent_before : (m : Location) → is_among m (lent_places first_cluster.code ga ga.threads) ≡ true → is_among m (lent_places k.code ground ground.threads) ≡ true
  lent_before m e =
      let z = lent_told ga m (takings first_cluster.code ga.threads) (sym (ap (is_among m) (lents_are first_cluster.code ga ga.threads)) ∙ e) in
      let same : lent_by ground z.taking ≡ lent_by ga z.taking = less z.taking.thread z.taking.place.slot z.taking.place.depth in
      ap (is_among m) (lents_are k.code ground ground.threads) ∙ lent_listed ground m z.taking (takings k.code ground.threads) (seen_first.takes z.taking z.among) (ap (λ o. is_among m (with_place o [])) same ∙ z.at)
    where
      less : (u i d : ℕ) → one_star_less ground u i d ≡ one_star_less ga u i d
      less u i zero = refl
      less u i (suc d) = sym (seen_places_lead ground ga (slots_lead k first_cluster seen_first.stands) (cells_lead k first_cluster seen_first.stands) u i d)

  -- the words hold at the start
  seen_words : WordsRise k first_cluster
  seen_words = holds_on started.leaves (rise_itself k coherent.sound)

  -- so the reference ends from there
  pub base : Base k coherent.sound s here_it t y at hand
  base = record { number = refl; named = started.named; places = started.places; rooted = started.rooted; words = seen_words }

  -- a reference was one
  was_reference : (q : Reference) → Among q (references ga (things_of first_cluster)) → Among q (references ground (things_of k))
  was_reference q m = reference first_cluster k (first_places k coherent.sound s here_it t y at) (λ j. sym (seen_first.stands j)) seen_first.takes q m

  -- THE REFERENCE THAT ENDS

  module _ (l : Location) (r : MutRef) (stood : value_in ground l ≡ Some (value.Mut r)) (does_end : path (sight k) me ≡ ends r) (unpassed : IsUnpassed k l) where
    -- the reference has a holder
    pub its_holder : (m : Location) × (holder_of ground l r.holder ≡ Some m)
    its_holder = held_there k coherent.sound.words.first_at_holder l r stood

    abbrev pub h : Location
    h = its_holder.0

    -- no reference was made from it
    pub unheld : (j : Location) (q : MutRef) → value_in ground j ≡ Some (value.Mut q) → holder_of ground j q.holder ≡ Some l → ⊥
    unheld j q e w = unpassed j l q q.holder.depth e w (omega arith) w

    -- what types tell of it
    at_end : r.dirty ≡ false → AtEnd k coherent.sound s here_it t y at hand l h r
    at_end clean = record {
      clean = clean;
      stood = reference_at l (value_in ga l) r (seen_first.stands l ∙ ap (seen_at l) stood);
      held = holders_lead k first_cluster seen_first.stands l r.holder ∙ its_holder.1;
      fresh = λ z. fresh_there k paths places coherent.sound.words.first_at_holder me going r l h stood its_holder.1 does_end unheld (stale_at first_cluster k started.places (λ j. sym (seen_first.stands j)) seen_first.takes (Some l) z);
      only = λ q m e. only_there k paths places coherent.sound.words.first_at_holder me going r l h stood its_holder.1 does_end unheld q (was_reference q m) e;
      untaken = λ e. untaken_there k paths places coherent.sound.words.first_at_holder me going r l h stood its_holder.1 does_end unheld (lent_before h e);
      unmade = λ q m e. (alone k paths places coherent.sound.words.first_at_holder me going r l h stood its_holder.1 does_end unheld).none_made q (was_reference q m) e;
      unpassed = unpassed_at_start k coherent.sound s here_it t y at l unpassed;
    }

  -- THE STEP

  abbrev Done : Hand → Type 0
  Done = Past k coherent.sound s here_it t y at hand

  -- the sums stay
  pub ok_steps : (i : Instr) → IsProvedKind (instr_kind i) → Gives (λ (d : Stepped). Ok k coherent.sound s here_it t y at d.hand) (step k.options.servers i hand)
  ok_steps i p = step_keeps sums_kept n s.events t (all_standing n (without_thread s.threads t) ++ servers_things (others_of k.servers n)) k.options.servers i hand p (λ z. sums_spend) (first_ok k coherent.sound s here_it t y at)

  -- the thread has taken nothing
  pub untaken_here : (i : Instr) → slice_get k.code y.pc ≡ Some i → taking_by y.number y.phase (Some i) ≡ None → TakesNoneHere k.code y
  untaken_here i code e = subst (λ j. taking_by y.number y.phase j ≡ None) (sym code) e

  -- the step leaves the words
  done_there : (i : Instr) → IsProvedKind (instr_kind i) → slice_get k.code y.pc ≡ Some i → Gives (λ (d : Stepped). Done d.hand) (step k.options.servers i hand) → Gives (There k s) (does k.code k.options s (Step t))
  done_there i kind code g =
      step_there k coherent.sound s here_it t y at i code Done (λ h2 ok p. leaves_chain started.leaves (past_leaves k coherent.sound s here_it t y at hand base h2 ok p)) (ok_steps i kind) g

  -- the place is ready: nothing is cleaned, and the holder is a variable or isn't followed
  clean_end : (i : Instr) (sp : Spot) (r : MutRef) → value_at hand sp ≡ Some (value.Mut r) → EndsAtHand r → ((z : Spot) → SpotIs r z → Gives (λ (d : Stepped). Done d.hand) (committed (commit k.options.servers i z hand)))
      → Gives (λ (d : Stepped). Done d.hand) (prepared k.options.servers i (prepare (Some (EndRef sp)) hand))
  clean_end i sp r there near goes =
      subst (λ o. Goal (and_then follow (clean_value sp o hand))) (sym there) (at_colour (nat_lt (colour_of r.word) hand.work.rest.partition.limit))
    where
      Goal : Prepared → Type 0
      Goal p = Gives (λ (d : Stepped). Done d.hand) (prepared k.options.servers i (and_then unlabelled p))

      followed : Goal (follow hand sp)
      followed = ready_end k.options.servers i hand sp r there near.near (λ (d : Stepped). Done d.hand) (λ e. goes no_spot (inl (e, refl))) (λ e d. goes (spot_slot r.holder.slot) (inr (e, d, refl)))

      at_clean : Goal (and_then follow (cleaned_by (cleaned_answer hand.work.rest.partition.limit r) sp r hand))
      at_clean = subst (λ b. Goal (and_then follow (cleaned_by (if b then (if nat_lt (colour_of r.word + 1) hand.work.rest.partition.limit then Tinted (next_word r.word) else MustRenew) else Same) sp r hand))) (sym near.clean) followed

      at_colour : (b : Bool) → Goal (and_then follow (if b then cleaned_by (cleaned_answer hand.work.rest.partition.limit r) sp r hand else nothing))
      at_colour true = at_clean
      at_colour false = tt

  -- the newest slot goes
  drops_there : (r : MutRef) → last_of y.slots ≡ Some (value.Mut r) → EndsAtHand r → slice_get k.code y.pc ≡ Some instr.DropSlot → Gives (There k s) (does k.code k.options s (Step t))
  drops_there r e near code =
      let l : Location = at_slot y.number (length (front_of y.slots)) in
      let here = newest_there y.slots (value.Mut r) e in
      let number : length y.slots - 1 ≡ length (front_of y.slots) = (let z = here.1 in omega (arith, z)) in
      let stood = slot_stands (length (front_of y.slots)) (value.Mut r) here.0 in
      let ended : path (sight k) me ≡ ends r = ap (λ o. path_of o y) code ∙ ap path_ending e in
      let unpassed = given_unpassed instr.DropSlot (record { slot = length (front_of y.slots); depth = 0 }) code (dropped (length (front_of y.slots)) here.1) in
      done_there instr.DropSlot tt code
      (subst (λ o. Gives (λ (d : Stepped). Done d.hand) (prepared k.options.servers instr.DropSlot (prepare (ending (spot_slot (length y.slots - 1)) o) hand))) (sym e)
      (clean_end instr.DropSlot (spot_slot (length y.slots - 1)) r (ap (slice_get y.slots) number ∙ here.0) near
      (slot_ends k coherent.sound s here_it t y at hand base (untaken_here instr.DropSlot code (drop_takes y.number y.phase)) (h l r stood ended unpassed) r e (at_end l r stood ended unpassed near.clean))))

  -- the top of the hand goes
  discards_there : (r : MutRef) → last_of y.temps ≡ Some (value.Mut r) → EndsAtHand r → slice_get k.code y.pc ≡ Some instr.Discard → Gives (There k s) (does k.code k.options s (Step t))
  discards_there r e near code =
      let ts : List Value = front_of y.temps in
      let l : Location = at_temp y.number (length ts) in
      let parts : y.temps ≡ ts ++ value.Mut r ∷ [] = last_split y.temps (value.Mut r) e in
      let stood = temp_stands (length ts) (value.Mut r) (ap (λ vs. slice_get vs (length ts)) parts ∙ end_is ts (value.Mut r)) in
      let ended : path (sight k) me ≡ ends r = ap (λ o. path_of o y) code ∙ ap path_ending e in
      let unpassed = temp_unpassed (length ts) in
      done_there instr.Discard tt code
      (subst (λ o. Gives (λ (d : Stepped). Done d.hand) (prepared k.options.servers instr.Discard (prepare (ending on_top o) hand))) (sym e)
      (clean_end instr.Discard on_top r e near
      (top_ends k coherent.sound s here_it t y at hand base (untaken_here instr.Discard code (discard_takes y.number y.phase)) (h l r stood ended unpassed) r e (at_end l r stood ended unpassed near.clean))))

  -- a variable is assigned
  assigns_there : (w : Lval) (o : Operand) (r : MutRef) → w.depth ≡ 0 → slice_get y.slots w.slot ≡ Some (value.Mut r) → EndsAtHand r → slice_get k.code y.pc ≡ Some (instr.Assign w o) → Gives (There k s) (does k.code k.options s (Step t))
  assigns_there w o r flat_place e near code =
      let l : Location = at_slot y.number w.slot in
      let stood = slot_stands w.slot (value.Mut r) e in
      let ended : path (sight k) me ≡ ends r = ap (λ z. path_of z y) code ∙ ap (λ d. assigning y.slots w d) flat_place ∙ ap path_ending e in
      let unpassed = given_unpassed (instr.Assign w o) w code (written assigns_to) in
      done_there (instr.Assign w o) tt code
      (subst (λ d. Gives (λ (x : Stepped). Done x.hand) (prepared k.options.servers (instr.Assign w o) (prepare (assigned w d y) hand))) (sym flat_place)
      (subst (λ a. Gives (λ (x : Stepped). Done x.hand) (prepared k.options.servers (instr.Assign w o) (prepare (ending (spot_slot w.slot) a) hand))) (sym e)
      (clean_end (instr.Assign w o) (spot_slot w.slot) r e near
      (variable_ends k coherent.sound s here_it t y at hand base (untaken_here (instr.Assign w o) code (assign_takes y.number y.phase w o)) (h l r stood ended unpassed) r w.slot e (at_end l r stood ended unpassed near.clean) k.options.servers w o refl flat_place))))

  -- each of the three
  all_there : (r : MutRef) (i : Instr) → EndsReference y r i → EndsAtHand r → slice_get k.code y.pc ≡ Some i → Gives (There k s) (does k.code k.options s (Step t))
  all_there r _ (drops e) near code = drops_there r e near code
  all_there r _ (discards e) near code = discards_there r e near code
  all_there r _ (assigns w o flat_place e) near code = assigns_there w o r flat_place e near code

pub ends_at_hand_leave_words : EndsAtHandLeaveWords
ends_at_hand_leave_words k number t s y i r coherent few here_it at code ends_it near =
    subst (λ n. server_at k.servers n ≡ Some s → Gives (λ (d : Cluster × EntryView). LeavesWords k d.0) (apply k (record { server = n; what = Step t }))) (found_number number k.servers s here_it)
    (λ h. left_where k s t coherent.sound few h (λ on. all_there k coherent s h t y at on r i ends_it near code)) here_it
