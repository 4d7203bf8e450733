-- Each discard and each drop of the newest slot that is done has a legal entry: by what goes.
use Rattle.std.proofs.Common.{◌≡◌, ℕ, ◌-◌, true, false, length, Option, Some, None, is_some, option_map, refl, sym, subst}
use Rattle.std.specs.Prelude.{slice_get}
use Rattle.law_entries_reads.specs.Below.law_entries_variables.Below.law_words_ends.Below.fr_base.declared.instruction.Instr.{Instr}
use Rattle.law_entries_reads.specs.Below.law_entries_variables.Below.law_words_ends.Below.fr_base.declared.instruction.Instr.TheVariants as instr
use Rattle.law_entries_reads.specs.Below.law_entries_variables.Below.law_words_ends.Below.fr_base.declared.instruction.Operand.{Operand}
use Rattle.law_entries_reads.specs.Below.law_entries_variables.Below.law_words_ends.Below.fr_base.declared.name.MutexNo.{MutexNo}
use Rattle.law_entries_reads.specs.Below.law_entries_variables.Below.law_words_ends.Below.fr_base.declared.place.Lval.{Lval}
use Rattle.law_entries_reads.specs.Below.law_entries_variables.Below.law_words_ends.Below.journal.View.{EntryView}
use Rattle.law_entries_reads.specs.Below.law_entries_variables.Below.law_words_ends.Below.mut_borrow.declared.mutable.MutRef.{MutRef}
use Rattle.law_entries_reads.specs.Below.law_entries_variables.Below.law_words_ends.Below.thread_state.View.{ThreadState, is_over}
use Rattle.law_entries_reads.specs.Below.law_entries_variables.Below.law_words_ends.Below.thread_state.declared.value.Value.{Value}
use Rattle.law_entries_reads.specs.Below.law_entries_variables.Below.law_words_ends.Below.thread_state.declared.value.Value.TheVariants as value
use Rattle.law_entries_reads.specs.Below.law_entries_variables.Below.law_words_ends.Below.server_model.declared.event.What.TheVariants.{Step}
use Rattle.law_entries_reads.specs.Below.law_entries_variables.Below.law_words_ends.Below.server_model.Servers.{Server, Cluster, server_at}
use Rattle.law_entries_reads.specs.Below.law_entries_variables.Below.law_words_ends.Below.server_model.Work.{Hand, Popped, last_of, front_of, with_slots, with_temps, then_some, thread_in}
use Rattle.law_entries_reads.specs.Below.law_entries_variables.Below.law_words_ends.Below.server_model.Clusters.{apply}
use Rattle.law_entries_reads.specs.Below.law_entries_variables.Below.law_words_ends.Below.server_model.Places.{in_slot, on_top, nowhere}
use Rattle.law_entries_reads.specs.Below.law_entries_variables.Below.law_words_ends.Below.server_model.Drop.{drop_value}
use Rattle.law_entries_reads.specs.Below.law_entries_variables.Below.law_words_ends.Below.server_model.Prepare.{ending, prepare}
use Rattle.law_entries_reads.specs.Below.law_entries_variables.Below.law_words_ends.Below.server_model.Commit.{goes_on, label_dropped}
use Rattle.law_entries_reads.specs.Below.law_entries_variables.Below.law_words_ends.Below.server_model.Events.{can_step, has_phase, enabled, begin_work, Stepped, committed, prepared, step}
use Rattle.law_entries_writes.specs.Below.law_entries_variables.Below.coloured_heap.Heap.{Coloured}
use Rattle.law_entries_reads.specs.Below.law_entries_variables.Below.law_words_ends.Below.coherent_memory.Colours.{StandsColoured}
use Rattle.law_entries_reads.specs.Below.law_entries_variables.Below.law_words_ends.Below.coherent_types.ClusterTypes.{IsCoherent}
use Rattle.law_entries_reads.specs.Below.law_entries_variables.Below.law_words_ends.Below.law_counts_sums.Laws.{Gives, FewEvents}
use Rattle.law_entries_reads.proofs.Below.law_entries_variables.Below.law_words_ends.Below.law_counts_sums.GiftsTaken.{gift_fits}
use Rattle.law_entries_reads.proofs.Below.law_entries_variables.Below.law_words_ends.Below.law_counts_sums.Results.{weaker}
use Rattle.law_heap_writes.specs.Below.law_words_writes.Below.law_words_kept.ends.Dropped.{dropped}
use Rattle.law_heap_writes.proofs.Below.law_words_writes.Below.law_words_kept.ends.Given.{given_up_may_be}
use Rattle.law_heap_writes.proofs.Below.law_words_writes.Below.law_words_kept.prepared.Asking.{found_number}
use Rattle.law_entries_reads.proofs.Below.law_entries_variables.Below.law_words_ends.variables.EndHands.{newest_there}
use Rattle.law_entries_reads.proofs.Below.law_entries_variables.Below.law_words_ends.variables.EndEvents.{me, going, paths, ok_steps}
use Rattle.law_entries_writes.specs.Below.law_entries_variables.deliveries.Entries.{LeadsOn, EntryLegal}
use Rattle.law_entries_writes.proofs.Below.law_entries_variables.still.PlainSteps.{lives}
use Rattle.law_entries_reads.specs.places.Reads.{DoneLegal, DoneStepsLegal}
use Rattle.law_entries_reads.proofs.places.EachKind.{goes_further}
use Rattle.law_entries_reads.specs.Below.law_entries_variables.variables.Steps.{DropsPlain, discards, drops}
use Rattle.law_entries_reads.proofs.Below.law_entries_variables.variables.InStep.{by_number}
use Rattle.law_entries_reads.proofs.Below.law_entries_variables.variables.Tops.{top_unmarked}
use Rattle.law_entries_reads.proofs.Below.law_entries_variables.variables.Drops.{plain_drops_legal}
use Rattle.law_entries_writes.proofs.Below.law_entries_reads.asks.Ending.{IsOk}
use Rattle.law_entries_writes.specs.ends.Going.{EndsMutable, discards_mutable, drops_mutable, assigns_mutable, LetsGo, lets_top, lets_newest, DropsContinue}
use Rattle.law_entries_writes.proofs.ends.Ending.{AsksOrEnds, Done, done_ends}
use Rattle.law_entries_writes.proofs.ends.Finishing.{discards_close, drops_close, assigns_close}
use Rattle.law_entries_writes.proofs.ends.Ways.{prepared_given}

-- A MUTABLE REFERENCE

module _ (k : Cluster) (coherent : IsCoherent k) (few : FewEvents k) (s : Server) (here : server_at k.servers s.rest.number ≡ Some s) (t : ℕ) (y : ThreadState) (at : thread_in s.threads t ≡ Some y) (c0 : Coloured) (is_coloured : StandsColoured k c0) where
  live : enabled k.options s (Step t) ≡ true → is_over y.phase ≡ false
  live on = lives y.phase (subst (λ o. has_phase can_step o ≡ true) at on)

  top_ends : (r : MutRef) → last_of y.temps ≡ Some (value.Mut r) → (code : slice_get k.code y.pc ≡ Some instr.Discard) → Gives (Done k coherent s here t y at c0 few instr.Discard code) (apply k (record { server = s.rest.number; what = Step t }))
  top_ends r e code =
      done_ends k coherent s here t y at c0 few instr.Discard code (λ on. ok_steps k coherent s here t y at on instr.Discard tt)
      (λ on. discards_close k coherent few s here t y at on c0 is_coloured (live on) (gift_fits k coherent.sound s.rest.number s here t y at instr.Discard code).0 r e code (λ sp other en. prepared_given k coherent few s here t y at on c0 is_coloured instr.Discard code r sp other en))

  newest_ends : (r : MutRef) → last_of y.slots ≡ Some (value.Mut r) → (code : slice_get k.code y.pc ≡ Some instr.DropSlot) → Gives (Done k coherent s here t y at c0 few instr.DropSlot code) (apply k (record { server = s.rest.number; what = Step t }))
  newest_ends r e code =
      done_ends k coherent s here t y at c0 few instr.DropSlot code (λ on. ok_steps k coherent s here t y at on instr.DropSlot tt)
      (λ on. drops_close k coherent few s here t y at on c0 is_coloured (live on) (gift_fits k coherent.sound s.rest.number s here t y at instr.DropSlot code).0 r e code (λ sp other en. prepared_given k coherent few s here t y at on c0 is_coloured instr.DropSlot code r sp other en))

  variable_ends : (w : Lval) (o : Operand) (r : MutRef) → w.depth ≡ 0 → slice_get y.slots w.slot ≡ Some (value.Mut r) → (code : slice_get k.code y.pc ≡ Some (instr.Assign w o)) → Gives (Done k coherent s here t y at c0 few (instr.Assign w o) code) (apply k (record { server = s.rest.number; what = Step t }))
  variable_ends w o r flat e code =
      done_ends k coherent s here t y at c0 few (instr.Assign w o) code (λ on. ok_steps k coherent s here t y at on (instr.Assign w o) tt)
      (λ on. assigns_close k coherent few s here t y at on c0 is_coloured (live on) (gift_fits k coherent.sound s.rest.number s here t y at (instr.Assign w o) code).0 r w o flat e code
      (λ sp other en. prepared_given k coherent few s here t y at on c0 is_coloured (instr.Assign w o) code r sp other en))

  -- NOTHING COMES OF IT

  abbrev start : Hand
  start = record { work = begin_work s.rest; thread = y }

  unfinished : (i : Instr) (code : slice_get k.code y.pc ≡ Some i) → (enabled k.options s (Step t) ≡ true → Gives (λ (d : Stepped). ⊥) (step k.options.servers i start)) → Gives (Done k coherent s here t y at c0 few i code) (apply k (record { server = s.rest.number; what = Step t }))
  unfinished i code none =
      done_ends k coherent s here t y at c0 few i code (λ on. weaker (λ (d : Stepped). ⊥) (λ (d : Stepped). IsOk k coherent s here t y at c0 d.hand) (step k.options.servers i start) (none on) (λ d f. absurd f))
      (λ on. weaker (λ (d : Stepped). ⊥) (AsksOrEnds k coherent s here t y at c0) (step k.options.servers i start) (none on) (λ d f. absurd f))

  -- nothing is on top
  no_top : last_of y.temps ≡ None → (code : slice_get k.code y.pc ≡ Some instr.Discard) → Gives (Done k coherent s here t y at c0 few instr.Discard code) (apply k (record { server = s.rest.number; what = Step t }))
  no_top e code =
      unfinished instr.Discard code
      (λ on. subst (λ o. Gives (λ (d : Stepped). ⊥) (prepared k.options.servers instr.Discard (prepare (ending on_top o) start))) (sym e)
      (subst (λ o. Gives (λ (d : Stepped). ⊥) (committed (goes_on (then_some {X = Popped Value} (option_map (λ w. record { item = w; hand = with_temps (front_of y.temps) start }) o) (λ z. drop_value nowhere z.item (label_dropped z.item z.hand)))))) (sym e) tt))

  -- there is no slot
  no_newest : last_of y.slots ≡ None → (code : slice_get k.code y.pc ≡ Some instr.DropSlot) → Gives (Done k coherent s here t y at c0 few instr.DropSlot code) (apply k (record { server = s.rest.number; what = Step t }))
  no_newest e code =
      unfinished instr.DropSlot code
      (λ on. subst (λ o. Gives (λ (d : Stepped). ⊥) (prepared k.options.servers instr.DropSlot (prepare (ending (in_slot (length y.slots - 1)) o) start))) (sym e)
      (subst (λ o. Gives (λ (d : Stepped). ⊥) (committed (goes_on (then_some {X = Popped Value} (option_map (λ w. record { item = w; hand = with_slots (front_of y.slots) start }) o) (λ z. drop_value nowhere z.item (label_dropped z.item z.hand)))))) (sym e) tt))

  -- by types a lock's mark stands in no slot that is dropped
  marked_newest : (m : MutexNo) → last_of y.slots ≡ Some (value.Held m) → (code : slice_get k.code y.pc ≡ Some instr.DropSlot) → Gives (Done k coherent s here t y at c0 few instr.DropSlot code) (apply k (record { server = s.rest.number; what = Step t }))
  marked_newest m e code =
      unfinished instr.DropSlot code
      (λ on.
      let new = newest_there y.slots (value.Held m) e in
      let w : Lval = record { slot = length (front_of y.slots); depth = 0 } in
      absurd ((given_up_may_be k (paths k coherent s here t y at on) (me k coherent s here t y at on) instr.DropSlot w (going k coherent s here t y at on) code (dropped (length (front_of y.slots)) new.1)).unmarked m new.0))

-- at the server with its number
at_its : (k : Cluster) (number t : ℕ) (s : Server) (c0 : Coloured) → server_at k.servers number ≡ Some s
    → (server_at k.servers s.rest.number ≡ Some s → Gives (λ (d : Cluster × EntryView). is_some d.1.done ≡ true → LeadsOn k.options d.1 c0 d.0) (apply k (record { server = s.rest.number; what = Step t })))
    → Gives (λ (d : Cluster × EntryView). is_some d.1.done ≡ true → LeadsOn k.options d.1 c0 d.0) (apply k (record { server = number; what = Step t }))
at_its k number t s c0 here go =
    subst (λ m. server_at k.servers m ≡ Some s → Gives (λ (d : Cluster × EntryView). is_some d.1.done ≡ true → LeadsOn k.options d.1 c0 d.0) (apply k (record { server = m; what = Step t }))) (found_number number k.servers s here) go here

pub mutable_ends_legal : DoneStepsLegal EndsMutable
mutable_ends_legal k number t s y _ coherent few here at code (discards_mutable r e) c0 is_coloured = at_its k number t s c0 here (λ h. top_ends k coherent few s h t y at c0 is_coloured r e code)
mutable_ends_legal k number t s y _ coherent few here at code (drops_mutable r e) c0 is_coloured = at_its k number t s c0 here (λ h. newest_ends k coherent few s h t y at c0 is_coloured r e code)
mutable_ends_legal k number t s y _ coherent few here at code (assigns_mutable w o r flat e) c0 is_coloured = at_its k number t s c0 here (λ h. variable_ends k coherent few s h t y at c0 is_coloured w o r flat e code)

-- WHATEVER GOES

-- a legal entry is so where it is done
done_of : (k : Cluster) (number t : ℕ) → EntryLegal k (record { server = number; what = Step t }) → DoneLegal k (record { server = number; what = Step t })
done_of k number t legal c0 is_coloured =
    weaker (λ (d : Cluster × EntryView). LeadsOn k.options d.1 c0 d.0) (λ (d : Cluster × EntryView). is_some d.1.done ≡ true → LeadsOn k.options d.1 c0 d.0) (apply k (record { server = number; what = Step t })) (legal c0 is_coloured) (λ d l done. l)

module _ (k : Cluster) (number t : ℕ) (s : Server) (y : ThreadState) (coherent : IsCoherent k) (few : FewEvents k) (here : server_at k.servers number ≡ Some s) (at : thread_in s.threads t ≡ Some y) where
  plain_top : (code : slice_get k.code y.pc ≡ Some instr.Discard) → DropsPlain y instr.Discard → DoneLegal k (record { server = number; what = Step t })
  plain_top code p = done_of k number t (plain_drops_legal k number t s y instr.Discard coherent few here at code p)

  top_goes : slice_get k.code y.pc ≡ Some instr.Discard → DoneLegal k (record { server = number; what = Step t })
  top_goes code = by (last_of y.temps) refl
    where
      by : (o : Option Value) → last_of y.temps ≡ o → DoneLegal k (record { server = number; what = Step t })
      by (Some (value.Mut r)) e = mutable_ends_legal k number t s y instr.Discard coherent few here at code (discards_mutable r e)
      by (Some (value.Held m)) e = absurd (top_unmarked k coherent.sound number s here y (by_number s t y at) (value.Held m) e)
      by (Some (value.Shared r)) e = plain_top code (discards (value.Shared r) e tt)
      by (Some (value.Own u)) e = plain_top code (discards (value.Own u) e tt)
      by (Some value.Gone) e = plain_top code (discards value.Gone e tt)
      by (Some (value.SharedSlot j)) e = plain_top code (discards (value.SharedSlot j) e tt)
      by (Some (value.MutSlot j)) e = plain_top code (discards (value.MutSlot j) e tt)
      by None e = λ c0 is_coloured. at_its k number t s c0 here (λ h. no_top k coherent few s h t y at c0 is_coloured e code)

  plain_newest : (code : slice_get k.code y.pc ≡ Some instr.DropSlot) → DropsPlain y instr.DropSlot → DoneLegal k (record { server = number; what = Step t })
  plain_newest code p = done_of k number t (plain_drops_legal k number t s y instr.DropSlot coherent few here at code p)

  newest_goes : slice_get k.code y.pc ≡ Some instr.DropSlot → DoneLegal k (record { server = number; what = Step t })
  newest_goes code = by (last_of y.slots) refl
    where
      by : (o : Option Value) → last_of y.slots ≡ o → DoneLegal k (record { server = number; what = Step t })
      by (Some (value.Mut r)) e = mutable_ends_legal k number t s y instr.DropSlot coherent few here at code (drops_mutable r e)
      by (Some (value.Held m)) e = λ c0 is_coloured. at_its k number t s c0 here (λ h. marked_newest k coherent few s h t y at c0 is_coloured m e code)
      by (Some (value.Shared r)) e = plain_newest code (drops (value.Shared r) e tt)
      by (Some (value.Own u)) e = plain_newest code (drops (value.Own u) e tt)
      by (Some value.Gone) e = plain_newest code (drops value.Gone e tt)
      by (Some (value.SharedSlot j)) e = plain_newest code (drops (value.SharedSlot j) e tt)
      by (Some (value.MutSlot j)) e = plain_newest code (drops (value.MutSlot j) e tt)
      by None e = λ c0 is_coloured. at_its k number t s c0 here (λ h. no_newest k coherent few s h t y at c0 is_coloured e code)

pub drops_legal : DoneStepsLegal LetsGo
drops_legal k number t s y _ coherent few here at code lets_top = top_goes k number t s y coherent few here at code
drops_legal k number t s y _ coherent few here at code lets_newest = newest_goes k number t s y coherent few here at code

-- so a legal journal goes on
pub drops_continue : DropsContinue
drops_continue k number t s y i es coherent few here at code p left = goes_further k (record { server = number; what = Step t }) es (drops_legal k number t s y i coherent few here at code p) left
