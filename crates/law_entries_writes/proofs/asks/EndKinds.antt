-- A mutable reference that ends with its slot, from the hand, or where it is assigned over: where something is asked for, the entry leads on.
use Rattle.std.proofs.Common.{◌≡◌, inl, inr, ℕ, ◌-◌, true, false, List, [], ◌∷◌, ◌++◌, length, Option, Some, None, refl, sym, ap, ap₂, subst, ◌∙◌, arith}
use Rattle.std.specs.Prelude.{slice_get, slice_set}
use Rattle.law_copies_writes.specs.Below.fr_base.declared.place.Lval.{Lval}
use Rattle.law_copies_writes.specs.Below.fr_base.declared.instruction.Operand.{Operand}
use Rattle.law_copies_writes.specs.Below.fr_base.declared.instruction.Instr.{Instr}
use Rattle.law_copies_writes.specs.Below.fr_base.declared.instruction.Instr.TheVariants as instr
use Rattle.law_copies_writes.specs.Below.fr_store.Keys.{slot_k, temp_k}
use Rattle.law_copies_writes.specs.Below.fr_store.Typed.{KeyTypes, Unnamed}
use Rattle.law_copies_writes.specs.Below.mut_borrow.declared.mutable.MutRef.{MutRef}
use Rattle.law_copies_writes.specs.Below.thread_state.View.{ThreadState, is_over}
use Rattle.law_copies_writes.specs.Below.thread_state.declared.value.Value.{Value}
use Rattle.law_copies_writes.specs.Below.thread_state.declared.value.Value.TheVariants as value
use Rattle.law_copies_writes.specs.Below.server_model.declared.event.What.TheVariants.{Step}
use Rattle.law_copies_writes.specs.Below.server_model.Servers.{Server, Cluster, server_at}
use Rattle.law_copies_writes.specs.Below.server_model.Work.{Hand, last_of, front_of, thread_in}
use Rattle.law_copies_writes.specs.Below.server_model.Places.{Spot, in_slot, on_top, value_at}
use Rattle.law_copies_writes.specs.Below.server_model.Prepare.{EndRef, Prepared, ready, requested, nothing, and_then, clean_value, follow_ended, unlabelled, ending, prepare}
use Rattle.law_copies_writes.specs.Below.server_model.Events.{can_step, has_phase, enabled, begin_work}
use Rattle.law_entries_writes.specs.Below.law_entries_variables.Below.coloured_heap.Heap.{Coloured}
use Rattle.law_copies_writes.specs.Below.coherent_memory.Things.{at_slot, at_temp}
use Rattle.law_copies_writes.specs.Below.coherent_memory.Follow.{Standing, slot_of, temp_of}
use Rattle.law_copies_writes.specs.Below.coherent_memory.Paths.{ends, path_of, assigning, ending as path_ending}
use Rattle.law_copies_writes.specs.Below.coherent_memory.Sight.{sight}
use Rattle.law_copies_writes.specs.Below.coherent_memory.Walking.{path}
use Rattle.law_copies_writes.specs.Below.coherent_memory.Colours.{StandsColoured}
use Rattle.law_copies_writes.specs.Below.coherent_types.ClusterTypes.{IsCoherent}
use Rattle.law_copies_writes.specs.Below.law_words_paths.paths.HeapStore.{HasPaths, GoesOn}
use Rattle.law_copies_writes.specs.Below.law_words_paths.paths.Pointing.{assigns as assigns_to}
use Rattle.law_copies_writes.proofs.Below.law_words_paths.paths.FreshPaths.{slot_there, temp_there}
use Rattle.law_copies_writes.proofs.Below.law_words_paths.paths.Pointers.{temp_unnamed}
use Rattle.law_copies_writes.proofs.Below.law_words_paths.paths.Shown.{stands_there}
use Rattle.law_copies_writes.specs.Below.law_words_kept.ends.Dropped.{written, dropped}
use Rattle.law_copies_writes.proofs.Below.law_words_kept.ends.Ends.{EndsAt, key_of}
use Rattle.law_copies_writes.proofs.Below.law_words_kept.ends.Given.{given_up_may_be}
use Rattle.law_copies_writes.proofs.Below.law_words_paths.words.Slots.{set_other}
use Rattle.law_copies_writes.specs.Below.law_counts_sums.Laws.{FewEvents}
use Rattle.law_copies_writes.proofs.Below.law_counts_sums.Objects.{length_set}
use Rattle.law_copies_writes.proofs.Below.law_counts_sums.Values.{last_split}
use Rattle.law_copies_writes.proofs.Below.law_words_kept.stays.Steps.{TakesNoneHere}
use Rattle.law_copies_writes.proofs.Below.law_words_kept.prepared.Hands.{calm_goes}
use Rattle.law_copies_writes.proofs.Below.law_results_reads.Known.{Steps, standing, paths, goes}
use Rattle.law_copies_writes.specs.Below.law_words_ends.Below.law_words_values.references.Unpassed.{IsUnpassed}
use Rattle.law_copies_writes.specs.Below.law_words_ends.variables.Ends.{EndsReference, drops, discards, assigns}
use Rattle.law_copies_writes.proofs.Below.law_words_ends.variables.EndHands.{length_end, newest_there}
use Rattle.law_copies_writes.proofs.Below.law_words_ends.variables.EndEvents.{drop_takes, discard_takes, assign_takes, given_unpassed, temp_unpassed, untaken_here}
use Rattle.law_copies_writes.proofs.Below.law_words_ends.variables.DirtyEnds.{slot_place, top_place}
use Rattle.law_copies_writes.proofs.Below.law_words_ends.stars.Cleaned.{steps, End}
use Rattle.law_entries_writes.specs.Below.law_entries_variables.Below.law_heap_still.events.Shows.{mutable_object, frame_of}
use Rattle.law_entries_writes.proofs.Below.law_entries_reads.asks.Frames.{SameFrames}
use Rattle.law_entries_writes.proofs.Below.law_entries_reads.asks.KeptRest.{set_frames}
use Rattle.law_entries_writes.proofs.Below.law_entries_reads.asks.BorrowKinds.{Well}
use Rattle.law_entries_writes.proofs.asks.Asked.{wish_ends}
use Rattle.law_entries_writes.proofs.asks.Following.{EndAsks, end_asks}

one_thread : {t u i j : ℕ} → slot_k t i ≡ slot_k u j → t ≡ u
one_thread e = cc

temp_no_slot : {t u i j : ℕ} → temp_k t i ≡ slot_k u j → ⊥
temp_no_slot e = absurd (cc e)

-- a reference with the same object and holder shows the same
shows_same : (r q : MutRef) → q.object ≡ r.object → q.holder ≡ r.holder → frame_of (value.Mut q) ≡ frame_of (value.Mut r)
shows_same r q e f = ap₂ (λ o w. mutable_object o w) e f

module _ (k : Cluster) (coherent : IsCoherent k) (few : FewEvents k) (s : Server) (here_it : server_at k.servers s.rest.number ≡ Some s) (t : ℕ) (y : ThreadState) (at : thread_in s.threads t ≡ Some y) (on : enabled k.options s (Step t) ≡ true) (c0 : Coloured) (is_coloured : StandsColoured k c0) where
  abbrev n : ℕ
  n = s.rest.number

  abbrev start : Hand
  start = record { work = begin_work s.rest; thread = y }

  able : can_step y.phase ≡ true
  able = subst (λ o. has_phase can_step o ≡ true) at on

  pub live : is_over y.phase ≡ false
  live = calm_goes y.phase able

  module _ (i : Instr) (code : slice_get k.code y.pc ≡ Some i) where
    abbrev z : Steps k n t s y i
    z = steps k coherent few s here_it t y at on i code

    abbrev c : HasPaths k
    c = paths k n t s y i z

    abbrev x : Standing
    x = standing k n t s y i z

    abbrev g : GoesOn k x
    g = goes k n t s y i z

    abbrev E : KeyTypes
    E = c.types.typing.exact

    abbrev WellHere : Prepared → Type 0
    WellHere = Well k coherent few s here_it t y at i code c0

    -- THE REFERENCE IN THE THREAD

    abbrev slot_at : (j : ℕ) (r : MutRef) → slice_get y.slots j ≡ Some (value.Mut r) → Unnamed E (slot_k y.number j) → EndsAt k c x g r
    slot_at j r e free = record {
      at = at_slot y.number j;
      stands = ap (λ o. slot_of o j) (stands_there k c x g) ∙ e;
      there = slot_there k c x g j r e;
      free = subst (Unnamed E) (key_of (slot_there k c x g j r e).is) free;
      own = λ a b f. sym (one_thread (key_of (slot_there k c x g j r e).is ∙ f));
    }

    abbrev temp_at : (j : ℕ) (r : MutRef) → slice_get y.temps j ≡ Some (value.Mut r) → EndsAt k c x g r
    temp_at j r e = record {
      at = at_temp y.number j;
      stands = ap (λ o. temp_of o j) (stands_there k c x g) ∙ e;
      there = temp_there k c x g j r e;
      free = subst (Unnamed E) (key_of (temp_there k c x g j r e).is) (temp_unnamed k c y.number j);
      own = λ a b f. absurd (temp_no_slot (key_of (temp_there k c x g j r e).is ∙ f));
    }

    abbrev In : ℕ → MutRef → ThreadState
    In j q = record y { slots = slice_set y.slots j (value.Mut q) }

    abbrev On : List Value → MutRef → ThreadState
    On ts q = record y { temps = ts ++ value.Mut q ∷ [] }

    abbrev slot_end : (j : ℕ) (r : MutRef) (e : slice_get y.slots j ≡ Some (value.Mut r)) → EndsReference y r i → path (sight k) x ≡ ends r → Unnamed E (slot_k y.number j) → IsUnpassed k (at_slot y.number j) → TakesNoneHere k.code y → End k coherent few s here_it t y at on i code r (in_slot j) (In j)
    slot_end j r e ends_it is free unpassed none = record {
      ends_it = ends_it;
      is = is;
      it = slot_at j r e free;
      unpassed = unpassed;
      untaken = none;
      form = inl (j, refl, refl);
      place = slot_place k coherent few s here_it t y at on j r e;
      thread = λ q. refl;
      slots = λ q m ne. set_other y.slots j m (value.Mut q) (λ f. ne (ap (at_slot y.number) (sym f)));
      slots_size = λ q. length_set y.slots j (value.Mut q);
      temps_size = λ q. refl;
    }

    abbrev temp_end : (r : MutRef) (e : last_of y.temps ≡ Some (value.Mut r)) → EndsReference y r i → path (sight k) x ≡ ends r → TakesNoneHere k.code y → End k coherent few s here_it t y at on i code r on_top (On (front_of y.temps))
    temp_end r e ends_it is none =
        let ts : List Value = front_of y.temps in
        let new = newest_there y.temps (value.Mut r) e in
        record {
          ends_it = ends_it;
          is = is;
          it = temp_at (length ts) r new.0;
          unpassed = temp_unpassed k coherent s here_it t y at on (length ts);
          untaken = none;
          form = inr refl;
          place = top_place k coherent few s here_it t y at on ts r (last_split y.temps (value.Mut r) e) refl e;
          thread = λ q. refl;
          slots = λ q m ne. refl;
          slots_size = λ q. refl;
          temps_size = λ q. length_end ts (value.Mut q) ∙ sym new.1;
        }

    -- what is asked for is a legal end
    end_well : (r : MutRef) (sp : Spot) (other : MutRef → ThreadState) (e : End k coherent few s here_it t y at on i code r sp other) → ((q : MutRef) → q.object ≡ r.object → q.holder ≡ r.holder → SameFrames (other q).slots y.slots) → WellHere (prepare (Some (EndRef sp)) start)
    end_well r sp other e alike = by (and_then (λ h2 s2. follow_ended (value_at h2 s2) h2) (clean_value sp (value_at start sp) start)) (end_asks k coherent few s here_it t y at on i code r sp other e alike c0 is_coloured)
      where
        by : (p : Prepared) → EndAsks k coherent few s here_it t y at on i code r sp other e alike c0 is_coloured p → WellHere (and_then unlabelled p)
        by (ready h b) q = tt
        by (requested h) q = wish_ends k coherent s here_it t y at c0 is_coloured live h q
        by nothing q = tt

  -- THE THREE INSTRUCTIONS

  -- the newest slot goes
  pub drops_well : (code : slice_get k.code y.pc ≡ Some instr.DropSlot) → Well k coherent few s here_it t y at instr.DropSlot code c0 (prepare (ending (in_slot (length y.slots - 1)) (last_of y.slots)) start)
  drops_well code = by (last_of y.slots) refl
    where
      i : Instr
      i = instr.DropSlot

      it_ends : (r : MutRef) → last_of y.slots ≡ Some (value.Mut r) → Well k coherent few s here_it t y at i code c0 (prepare (Some (EndRef (in_slot (length y.slots - 1)))) start)
      it_ends r e =
          let j : ℕ = length (front_of y.slots) in
          let new = newest_there y.slots (value.Mut r) e in
          let number : length y.slots - 1 ≡ j = (let a = new.1 in omega (arith, a)) in
          let w : Lval = record { slot = j; depth = 0 } in
          let is : path (sight k) (x i code) ≡ ends r = ap (λ o. path_of o y) code ∙ ap path_ending e in
          let free = (given_up_may_be k (c i code) (x i code) i w (g i code) code (dropped j new.1)).free in
          let en = slot_end i code j r new.0 (drops e) is free (given_unpassed k coherent s here_it t y at on i w code (dropped j new.1)) (untaken_here k coherent s here_it t y at on i code (drop_takes y.number y.phase)) in
          subst (λ b. Well k coherent few s here_it t y at i code c0 (prepare (Some (EndRef (in_slot b))) start)) (sym number)
          (end_well i code r (in_slot j) (In i code j) en (λ q o h. set_frames y.slots j (value.Mut r) (value.Mut q) new.0 (shows_same r q o h)))

      by : (o : Option Value) → last_of y.slots ≡ o → Well k coherent few s here_it t y at i code c0 (prepare (ending (in_slot (length y.slots - 1)) o) start)
      by (Some (value.Mut r)) e = it_ends r e
      by (Some value.Gone) e = tt
      by (Some (value.Own v)) e = tt
      by (Some (value.SharedSlot v)) e = tt
      by (Some (value.MutSlot v)) e = tt
      by (Some (value.Shared v)) e = tt
      by (Some (value.Held v)) e = tt
      by None e = tt

  -- the top of the hand goes
  pub discards_well : (code : slice_get k.code y.pc ≡ Some instr.Discard) → Well k coherent few s here_it t y at instr.Discard code c0 (prepare (ending on_top (last_of y.temps)) start)
  discards_well code = by (last_of y.temps) refl
    where
      i : Instr
      i = instr.Discard

      it_ends : (r : MutRef) → last_of y.temps ≡ Some (value.Mut r) → Well k coherent few s here_it t y at i code c0 (prepare (Some (EndRef on_top)) start)
      it_ends r e =
          let is : path (sight k) (x i code) ≡ ends r = ap (λ o. path_of o y) code ∙ ap path_ending e in
          let en = temp_end i code r e (discards e) is (untaken_here k coherent s here_it t y at on i code (discard_takes y.number y.phase)) in
          end_well i code r on_top (On i code (front_of y.temps)) en (λ q o h. refl)

      by : (o : Option Value) → last_of y.temps ≡ o → Well k coherent few s here_it t y at i code c0 (prepare (ending on_top o) start)
      by (Some (value.Mut r)) e = it_ends r e
      by (Some value.Gone) e = tt
      by (Some (value.Own v)) e = tt
      by (Some (value.SharedSlot v)) e = tt
      by (Some (value.MutSlot v)) e = tt
      by (Some (value.Shared v)) e = tt
      by (Some (value.Held v)) e = tt
      by None e = tt

  -- a variable is assigned
  pub assigns_well : (w : Lval) (o : Operand) (flat : w.depth ≡ 0) (code : slice_get k.code y.pc ≡ Some (instr.Assign w o)) → Well k coherent few s here_it t y at (instr.Assign w o) code c0 (prepare (ending (in_slot w.slot) (slice_get y.slots w.slot)) start)
  assigns_well w o flat code = by (slice_get y.slots w.slot) refl
    where
      i : Instr
      i = instr.Assign w o

      it_ends : (r : MutRef) → slice_get y.slots w.slot ≡ Some (value.Mut r) → Well k coherent few s here_it t y at i code c0 (prepare (Some (EndRef (in_slot w.slot))) start)
      it_ends r e =
          let j : ℕ = w.slot in
          let is : path (sight k) (x i code) ≡ ends r = ap (λ b. path_of b y) code ∙ ap (λ d. assigning y.slots w d) flat ∙ ap path_ending e in
          let free = (given_up_may_be k (c i code) (x i code) i w (g i code) code (written assigns_to)).free in
          let en = slot_end i code j r e (assigns w o flat e) is free (given_unpassed k coherent s here_it t y at on i w code (written assigns_to)) (untaken_here k coherent s here_it t y at on i code (assign_takes y.number y.phase w o)) in
          end_well i code r (in_slot j) (In i code j) en (λ q a h. set_frames y.slots j (value.Mut r) (value.Mut q) e (shows_same r q a h))

      by : (v : Option Value) → slice_get y.slots w.slot ≡ v → Well k coherent few s here_it t y at i code c0 (prepare (ending (in_slot w.slot) v) start)
      by (Some (value.Mut r)) e = it_ends r e
      by (Some value.Gone) e = tt
      by (Some (value.Own v)) e = tt
      by (Some (value.SharedSlot v)) e = tt
      by (Some (value.MutSlot v)) e = tt
      by (Some (value.Shared v)) e = tt
      by (Some (value.Held v)) e = tt
      by None e = tt
