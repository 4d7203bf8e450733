-- Copies are right after each end of a mutable reference, wherever its holder's pointer stands.
use Rattle.std.proofs.Common.{◌≡◌, inl, inr, ⊎_elim, ℕ, ◌+◌, ◌-◌, ◌==◌, true, false, List, [], ◌∷◌, ◌++◌, length, Option, Some, None, refl, sym, ap, subst, ◌∙◌, arith}
use Rattle.std.specs.Prelude.{slice_get, slice_set}
use Rattle.law_copies_writes.specs.Below.fr_base.declared.place.Lval.{Lval}
use Rattle.law_copies_writes.specs.Below.fr_base.declared.instruction.Operand.{Operand}
use Rattle.law_copies_writes.specs.Below.fr_base.declared.instruction.Instr.{Instr}
use Rattle.law_copies_writes.specs.Below.fr_base.declared.instruction.Instr.TheVariants as instr
use Rattle.law_copies_writes.specs.Below.fr_store.Keys.{slot_k, temp_k}
use Rattle.law_copies_writes.specs.Below.fr_store.Typed.{KeyTypes, Unnamed}
use Rattle.law_copies_writes.specs.Below.mut_borrow.declared.mutable.MutRef.{MutRef}
use Rattle.law_copies_writes.specs.Below.thread_state.View.{ThreadState}
use Rattle.law_copies_writes.specs.Below.thread_state.declared.value.Value.{Value}
use Rattle.law_copies_writes.specs.Below.thread_state.declared.value.Value.TheVariants as value
use Rattle.law_copies_writes.specs.Below.server_model.declared.event.What.TheVariants.{Step}
use Rattle.law_copies_writes.specs.Below.server_model.Servers.{Server, Cluster, server_at}
use Rattle.law_copies_writes.specs.Below.server_model.Work.{Hand, last_of, front_of, with_slots, thread_in}
use Rattle.law_copies_writes.specs.Below.server_model.Places.{Spot, in_slot, on_top, in_cell, nowhere as no_spot}
use Rattle.law_copies_writes.specs.Below.server_model.Prepare.{EndRef, Prepared, ready, requested, nothing, and_then, clean_value, follow_ended, unlabelled, ending, assigned, prepare}
use Rattle.law_copies_writes.specs.Below.server_model.Commit.{commit}
use Rattle.law_copies_writes.specs.Below.server_model.Places.{value_at}
use Rattle.law_copies_writes.specs.Below.server_model.Events.{enabled, begin_work, Stepped, committed, prepared, step}
use Rattle.law_copies_writes.specs.Below.coherent_memory.Things.{Location, at_slot, at_temp, in_cell as in_object}
use Rattle.law_copies_writes.specs.Below.coherent_memory.Follow.{Standing, slot_of, temp_of, value_in}
use Rattle.law_copies_writes.specs.Below.coherent_memory.Paths.{ends, path_of, assigning, ending as path_ending}
use Rattle.law_copies_writes.specs.Below.coherent_memory.Sight.{sight}
use Rattle.law_copies_writes.specs.Below.coherent_memory.Walking.{path}
use Rattle.law_copies_writes.specs.Below.coherent_types.ClusterTypes.{IsCoherent}
use Rattle.law_copies_writes.specs.Below.law_words_paths.paths.HeapStore.{HasPaths, GoesOn}
use Rattle.law_copies_writes.specs.Below.law_words_paths.paths.Pointing.{assigns as assigns_to}
use Rattle.law_copies_writes.proofs.Below.law_words_paths.paths.FreshPaths.{slot_there, temp_there}
use Rattle.law_copies_writes.proofs.Below.law_words_paths.paths.Pointers.{temp_unnamed}
use Rattle.law_copies_writes.proofs.Below.law_words_paths.paths.Shown.{stands_there}
use Rattle.law_copies_writes.proofs.Below.law_words_paths.paths.Sole.{some_is}
use Rattle.law_copies_writes.specs.Below.law_words_kept.ends.Dropped.{written, dropped}
use Rattle.law_copies_writes.proofs.Below.law_words_kept.ends.Ends.{EndsAt, key_of}
use Rattle.law_copies_writes.proofs.Below.law_words_kept.ends.Given.{given_up_may_be}
use Rattle.law_copies_writes.proofs.Below.law_words_paths.words.Slots.{set_other}
use Rattle.law_copies_writes.proofs.Below.law_words_paths.words.Tints.{slot_stands}
use Rattle.law_copies_writes.specs.Below.law_counts_sums.Kinds.{instr_kind}
use Rattle.law_copies_writes.specs.Below.law_counts_sums.Laws.{Gives, FewEvents}
use Rattle.law_copies_writes.proofs.Below.law_counts_sums.Objects.{length_set}
use Rattle.law_copies_writes.proofs.Below.law_counts_sums.Proved.{IsProvedKind}
use Rattle.law_copies_writes.proofs.Below.law_counts_sums.Results.{weaker, both_give}
use Rattle.law_copies_writes.proofs.Below.law_counts_sums.Values.{last_split}
use Rattle.law_copies_writes.proofs.Below.law_words_kept.stays.Steps.{TakesNoneHere}
use Rattle.law_copies_writes.proofs.Below.law_words_kept.prepared.Hands.{put, places, stands}
use Rattle.law_copies_writes.proofs.Below.law_words_kept.prepared.Asking.{found_number}
use Rattle.law_copies_writes.proofs.Below.law_words_values.carried.Hands.{Ok}
use Rattle.law_copies_writes.proofs.Below.law_words_values.carried.Passing.{Here, slot, temp, nowhere, located, here}
use Rattle.law_copies_writes.proofs.Below.law_results_reads.Known.{Steps, standing, paths, goes}
use Rattle.law_copies_writes.proofs.Below.law_results_events.writes.Holders.{route}
use Rattle.law_copies_writes.proofs.Below.law_words_asked.writes.Onward.{Lies}
use Rattle.law_copies_writes.proofs.Below.law_words_asked.writes.Passing.{State}
use Rattle.law_copies_writes.proofs.Below.law_words_writes.Marking.{mark_state}
use Rattle.law_words_ends.specs.Below.law_words_values.references.Unpassed.{IsUnpassed}
use Rattle.law_words_ends.specs.variables.Ends.{EndsReference, drops, discards, assigns}
use Rattle.law_words_ends.proofs.variables.EndHands.{length_end, newest_there, bare, Base, AtEnd}
use Rattle.law_words_ends.proofs.variables.EndEvents.{drop_takes, discard_takes, assign_takes, given_unpassed, temp_unpassed, untaken_here, ok_steps}
use Rattle.law_words_ends.proofs.variables.DirtyEnds.{slot_place, top_place, temp_stands}
use Rattle.law_words_ends.proofs.stars.Cleaned.{steps, End, lies}
use Rattle.law_words_ends.proofs.stars.Following.{leads, AtHolder, holder_slot, holder_cell, Ready, EndFine, prepared_so}
use Rattle.law_words_ends.proofs.stars.EndStates.{base, at_end}
use Rattle.law_words_ends.proofs.stars.Returns.{marks, noted, marks_other}
use Rattle.law_copies_writes.specs.Below.server_model.Servers.{Rest}
use Rattle.law_copies_writes.proofs.Below.law_results_events.writes.Holders.{TakesWord}
use Rattle.law_copies_writes.proofs.Below.law_copies_kept.references.Asked.{ready_asks}
use Rattle.law_copies_writes.specs.Below.law_copies_kept.objects.Fresh.{LeavesRight}
use Rattle.law_copies_writes.proofs.Below.law_copies_kept.objects.Turned.{none_or_idle}
use Rattle.law_copies_writes.proofs.Below.law_copies_kept.hidden.Handed.{Left as Left_at, Sends, settled_by}
use Rattle.law_copies_writes.proofs.writes.Hops.{Now, SentBy}
use Rattle.law_copies_writes.proofs.writes.Marked.{CoveredNow}
use Rattle.law_copies_writes.specs.ends.Close.{EndsKeepCopies}
use Rattle.law_copies_writes.proofs.ends.Preparing.{ReadyNow, EndNow, prepared_now}
use Rattle.law_copies_writes.proofs.ends.Finishing.{back_first, back_slot}
use Rattle.law_copies_writes.proofs.ends.CellFinishing.{back_cell}
use Rattle.law_copies_writes.proofs.ends.Backs.{Back}
use Rattle.law_copies_writes.proofs.ends.Commits.{Past, past_now, slot_ends, top_ends, variable_ends}

-- what is shown under a premise
under_premise : {A : Type 0} {X : Type 0} (P : X → Type 0) (o : Option X) → (A → Gives P o) → Gives (λ x. A → P x) o
under_premise P None f = tt
under_premise P (Some x) f = f

one_thread : {t u i j : ℕ} → slot_k t i ≡ slot_k u j → t ≡ u
one_thread e = cc

temp_no_slot : {t u i j : ℕ} → temp_k t i ≡ slot_k u j → ⊥
temp_no_slot e = absurd (cc e)

module _ (k : Cluster) (coherent : IsCoherent k) (few : FewEvents k) (s : Server) (here_it : server_at k.servers s.rest.number ≡ Some s) (t : ℕ) (y : ThreadState) (at : thread_in s.threads t ≡ Some y) (on : enabled k.options s (Step t) ≡ true) where
  abbrev n : ℕ
  n = s.rest.number

  abbrev start : Hand
  start = record { work = begin_work s.rest; thread = y }

  abbrev P : Hand → Cluster
  P = put k coherent s here_it t y at

  abbrev IsOk : Hand → Type 0
  IsOk = Ok k coherent.sound s here_it t y at

  abbrev St : Hand → Type 0
  St = State k coherent s here_it t y at

  abbrev N : Hand → Type 0
  N = Now k coherent s here_it t y at

  -- an end of the event: each object is what it was there, or covered
  abbrev Left : Hand → Type 0
  Left h = IsOk h → N h

  abbrev Mails : Rest → Type 0
  Mails = SentBy k coherent s here_it t y at

  -- and nothing was asked for but an object
  abbrev Sent : Stepped → Type 0
  Sent d = Mails s.rest → Mails d.hand.work.rest

  abbrev Done : Stepped → Type 0
  Done d = Left d.hand × Sent d

  -- what stands in the hand stands there in its cluster
  here_now : (h : Hand) → IsOk h → (from : Here) (l : Location) (v : Value) → located h.thread.number from ≡ Some l → here h.thread from ≡ Some v → value_in (sight (P h)).ground l ≡ Some v
  here_now h ok (slot j) l v place is =
      ap (value_in (sight (P h)).ground) (sym (some_is place)) ∙ slot_stands k n s.threads (s.events + 1) h j v (stands k coherent s here_it t y at h ok) (places k coherent s here_it t y at h ok) is
  here_now h ok (temp j) l v place is =
      ap (value_in (sight (P h)).ground) (sym (some_is place)) ∙ temp_stands k n s.threads (s.events + 1) h j v (stands k coherent s here_it t y at h ok) (places k coherent s here_it t y at h ok) is
  here_now h ok nowhere l v place is = absurd (cc place)

  -- labels are no matter
  bare_state : (h : Hand) → St h → St (bare h)
  bare_state h st = record { ok = record { number = st.ok.number; thread = st.ok.thread; bag = st.ok.bag }; onward = st.onward; untaken = st.untaken }

  module _ (i : Instr) (code : slice_get k.code y.pc ≡ Some i) where
    abbrev z : Steps k n t s y i
    z = steps k coherent few s here_it t y at on i code

    abbrev c : HasPaths k
    c = paths k n t s y i z

    abbrev x : Standing
    x = standing k n t s y i z

    abbrev g : GoesOn k x
    g = goes k n t s y i z

    abbrev E : KeyTypes
    E = c.types.typing.exact

    -- THE REFERENCE IN THE THREAD

    abbrev slot_at : (j : ℕ) (r : MutRef) → slice_get y.slots j ≡ Some (value.Mut r) → Unnamed E (slot_k y.number j) → EndsAt k c x g r
    slot_at j r e free = record {
      at = at_slot y.number j;
      stands = ap (λ o. slot_of o j) (stands_there k c x g) ∙ e;
      there = slot_there k c x g j r e;
      free = subst (Unnamed E) (key_of (slot_there k c x g j r e).is) free;
      own = λ a b f. sym (one_thread (key_of (slot_there k c x g j r e).is ∙ f));
    }

    abbrev temp_at : (j : ℕ) (r : MutRef) → slice_get y.temps j ≡ Some (value.Mut r) → EndsAt k c x g r
    temp_at j r e = record {
      at = at_temp y.number j;
      stands = ap (λ o. temp_of o j) (stands_there k c x g) ∙ e;
      there = temp_there k c x g j r e;
      free = subst (Unnamed E) (key_of (temp_there k c x g j r e).is) (temp_unnamed k c y.number j);
      own = λ a b f. absurd (temp_no_slot (key_of (temp_there k c x g j r e).is ∙ f));
    }

    abbrev In : ℕ → MutRef → ThreadState
    In j q = record y { slots = slice_set y.slots j (value.Mut q) }

    abbrev On : List Value → MutRef → ThreadState
    On ts q = record y { temps = ts ++ value.Mut q ∷ [] }

    abbrev slot_end : (j : ℕ) (r : MutRef) (e : slice_get y.slots j ≡ Some (value.Mut r)) → EndsReference y r i → path (sight k) x ≡ ends r → Unnamed E (slot_k y.number j) → IsUnpassed k (at_slot y.number j) → TakesNoneHere k.code y → End k coherent few s here_it t y at on i code r (in_slot j) (In j)
    slot_end j r e ends_it is free unpassed none = record {
      ends_it = ends_it;
      is = is;
      it = slot_at j r e free;
      unpassed = unpassed;
      untaken = none;
      form = inl (j, refl, refl);
      place = slot_place k coherent few s here_it t y at on j r e;
      thread = λ q. refl;
      slots = λ q m ne. set_other y.slots j m (value.Mut q) (λ f. ne (ap (at_slot y.number) (sym f)));
      slots_size = λ q. length_set y.slots j (value.Mut q);
      temps_size = λ q. refl;
    }

    abbrev temp_end : (r : MutRef) (e : last_of y.temps ≡ Some (value.Mut r)) → EndsReference y r i → path (sight k) x ≡ ends r → TakesNoneHere k.code y → End k coherent few s here_it t y at on i code r on_top (On (front_of y.temps))
    temp_end r e ends_it is none =
        let ts : List Value = front_of y.temps in
        let new = newest_there y.temps (value.Mut r) e in
        record {
          ends_it = ends_it;
          is = is;
          it = temp_at (length ts) r new.0;
          unpassed = temp_unpassed k coherent s here_it t y at on (length ts);
          untaken = none;
          form = inr refl;
          place = top_place k coherent few s here_it t y at on ts r (last_split y.temps (value.Mut r) e) refl e;
          thread = λ q. refl;
          slots = λ q m ne. refl;
          slots_size = λ q. refl;
          temps_size = λ q. length_end ts (value.Mut q) ∙ sym new.1;
        }

    module _ (r : MutRef) (sp : Spot) (other : MutRef → ThreadState) (e : End k coherent few s here_it t y at on i code r sp other) where
      abbrev IsReady : Hand → Spot → Type 0
      IsReady = Ready k coherent few s here_it t y at on i code r sp other e

      abbrev place_of : ℕ → Option Location
      place_of = leads k coherent few s here_it t y at on i code r sp other e

      -- WHERE ALL IS READY

      -- a base, and what the end does from there
      pub record Ending (h : Hand) (end : Spot) (q : MutRef) (from : Here) : Type 0 where
        pub hb : Hand
        pub base_there : Base k coherent.sound s here_it t y at hb
        pub back : Back k coherent s here_it t y at (bare h) q hb end from

      module _ (h : Hand) (end : Spot) (rd : IsReady h end) (rn : ReadyNow k coherent few s here_it t y at on i code r sp other e h end) (from : Here) (place : located h.thread.number from ≡ Some e.it.at) (is : here h.thread from ≡ Some (value.Mut rd.reference)) where
        abbrev q : MutRef
        q = rd.reference

        abbrev H : Hand
        H = bare h

        st : St H
        st = bare_state h rd.state

        ended : (hl : Location) → place_of r.holder.depth ≡ Some hl → AtEnd k coherent.sound s here_it t y at H e.it.at hl q
        ended hl final = at_end k coherent few s here_it t y at on i code r sp other e hl final H st q rd.clean rd.holder (here_now H st.ok from e.it.at (value.Mut q) place is)

        base_H : (hl : Location) → place_of r.holder.depth ≡ Some hl → Base k coherent.sound s here_it t y at H
        base_H hl final = base k coherent few s here_it t y at on i code r sp other e hl final H st

        -- its slot is none of these
        not_from : (m : ℕ) → (e.it.at ≡ at_slot y.number m → ⊥) → slot m ≡ from → ⊥
        not_from m ne f = ne (some_is (sym place ∙ ap (located h.thread.number) (sym f)) ∙ ap (λ b. at_slot b m) rd.number)

        in_slots : (m : ℕ) (v : Value) → (q.word == q.first) ≡ false → end ≡ in_slot m → place_of r.holder.depth ≡ Some (at_slot y.number m) → (e.it.at ≡ at_slot y.number m → ⊥) → slice_get h.thread.slots m ≡ Some v → TakesWord v → Ending h end q from
        in_slots m v word at_m final away there takes =
            let u = takes q.word in
            let bs = base_H (at_slot y.number m) final in
            let en = ended (at_slot y.number m) final in
            record {
              hb = H;
              base_there = bs;
              back = subst (λ b. Back k coherent s here_it t y at H q H b from) (sym at_m)
                  (back_slot k coherent s here_it t y at H q bs st.untaken from e.it.at (at_slot y.number m) place is en rn.now m v u.0 word (ap (λ b. at_slot b m) (sym rd.number)) (not_from m away) there u.1);
            }

        in_cells : (b : ℕ) (w : Option ℕ) (d : Rattle.law_copies_writes.specs.Below.heap_partition.declared.value.Cell.Cell) (p : Rattle.law_copies_writes.specs.Below.heap_partition.declared.value.BoxPtr.BoxPtr) → (q.word == q.first) ≡ false → end ≡ in_cell b w → place_of r.holder.depth ≡ Some (in_object d.object)
            → Rattle.law_copies_writes.proofs.Below.law_results_events.writes.Memory.Leads h.work.rest.partition b d → d.value ≡ Rattle.law_copies_writes.specs.Below.heap_partition.declared.value.Owned.TheVariants.Box p → Rattle.law_copies_writes.proofs.Below.law_words_asked.writes.Hops.Walk k coherent s here_it t y at h (in_cell b w) → ((m : ℕ) → w ≡ Some m → e.it.at ≡ at_slot y.number m → ⊥) → Ending h end q from
        in_cells b w d p word at_b final lead boxed walk away =
            record {
              hb = hb;
              base_there = base_b;
              back = subst (λ v. Back k coherent s here_it t y at H q hb v from) (sym at_b) (back_cell k coherent s here_it t y at H q w stb.ok base_b stb.untaken from e.it.at place (λ m f. not_from m (away m f)) lies_it b d p ended_b lead boxed word covered_b);
            }
          where
            hb : Hand
            hb = with_slots (marks w h.thread.slots) H

            stb : St hb
            stb = bare_state (with_slots (marks w h.thread.slots) h) (subst St (noted w h) (mark_state k coherent s here_it t y at h b w walk))

            base_b : Base k coherent.sound s here_it t y at hb
            base_b = base k coherent few s here_it t y at on i code r sp other e (in_object d.object) final hb stb

            still : (f : Here) → ((m : ℕ) → w ≡ Some m → slot m ≡ f → ⊥) → here h.thread f ≡ Some (value.Mut q) → here hb.thread f ≡ Some (value.Mut q)
            still (slot j) ne v = marks_other w h.thread.slots j (λ u. ne j u refl) ∙ v
            still (temp j) ne v = v
            still nowhere ne v = v

            ended_b : AtEnd k coherent.sound s here_it t y at hb e.it.at (in_object d.object) q
            ended_b = at_end k coherent few s here_it t y at on i code r sp other e (in_object d.object) final hb stb q rd.clean rd.holder (here_now hb stb.ok from e.it.at (value.Mut q) place (still from (λ m f. not_from m (away m f)) is))

            covered_b : CoveredNow k coherent s here_it t y at hb d.object
            covered_b = let a = subst (λ v. CoveredNow k coherent s here_it t y at v d.object) (noted w h) (rn.covers b w d at_b final) in record { now = a.now; covered = a.covered }

            lies_it : Lies (P hb) q.object
            lies_it =
                let u = lies k coherent few s here_it t y at on i code r sp other e in
                subst (Lies (P hb)) (sym rd.object) (stb.onward.lies_on r.object (record { server = u.server; address = u.address; there = u.there }))

        pub ending_so : Ending h end q from
        ending_so = ⊎_elim first (λ (f : ((q.word == q.first) ≡ false) × AtHolder k coherent few s here_it t y at on i code r sp other e h end). by f.0 f.1) rd.back
          where
            first : ((q.word == q.first) ≡ true) × (end ≡ no_spot) → Ending h end q from
            first f =
                let hl = (route k n t s y i z r e.is e.it).leads_there r.holder.depth (omega arith) in
                let bs = base_H hl.0 hl.1 in
                let en = ended hl.0 hl.1 in
                record {
                  hb = H;
                  base_there = bs;
                  back = subst (λ b. Back k coherent s here_it t y at H q H b from) (sym f.1) (back_first k coherent s here_it t y at H q bs st.untaken from e.it.at hl.0 place is en rn.now f.0);
                }

            by : (q.word == q.first) ≡ false → AtHolder k coherent few s here_it t y at on i code r sp other e h end → Ending h end q from
            by word (holder_slot m v at_m final away there takes) = in_slots m v word at_m final away there takes
            by word (holder_cell b w d p at_b final lead boxed walk away) = in_cells b w d p word at_b final lead boxed walk away

      -- THE STEP

      -- the place is prepared, and where it is ready the plain step is done
      pub prepared_end : (servers : ℕ) → ((h : Hand) (end : Spot) → IsReady h end → ReadyNow k coherent few s here_it t y at on i code r sp other e h end → Gives (λ (d : Stepped). Left d.hand) (committed (commit servers i end (bare h))))
          → Gives Done (prepared servers i (prepare (Some (EndRef sp)) start))
      prepared_end servers go = by (and_then (λ h2 s2. follow_ended (value_at h2 s2) h2) (clean_value sp (value_at start sp) start)) (prepared_so k coherent few s here_it t y at on i code r sp other e) (prepared_now k coherent few s here_it t y at on i code r sp other e)
        where
          both : (h : Hand) (end : Spot) → (Mails s.rest → Mails h.work.rest) → Gives (λ (d : Stepped). Left d.hand) (committed (commit servers i end (bare h))) → Gives Done (committed (commit servers i end (bare h)))
          both h end mails g =
              both_give (λ (d : Stepped). Left d.hand) Sent Done (committed (commit servers i end (bare h))) g (under_premise (λ (d : Stepped). Mails d.hand.work.rest) (committed (commit servers i end (bare h))) (λ mail. ready_asks (none_or_idle k) servers n s.rest.outbox i end (bare h) (mails mail)))
              (λ d a b. (a, b))

          by : (p : Prepared) → EndFine k coherent few s here_it t y at on i code r sp other e p → EndNow k coherent few s here_it t y at on i code r sp other e p → Gives Done (prepared servers i (and_then unlabelled p))
          by (ready h end) f g = both h end g.mails (go h end f g)
          by (requested h) f g = (λ ok. g.0, g.1)
          by nothing f g = tt

      -- a step that has ended the reference
      pub left_by : (h : Hand) (end : Spot) (rd : IsReady h end) (from : Here) (w : Ending h end rd.reference from) (o : Option Stepped) → Gives (λ (d : Stepped). Past k coherent s here_it t y at (bare h) rd.reference w.hb end d.hand) o → Gives (λ (d : Stepped). Left d.hand) o
      left_by h end rd from w o m =
          weaker (λ (d : Stepped). Past k coherent s here_it t y at (bare h) rd.reference w.hb end d.hand) (λ (d : Stepped). Left d.hand) o m (λ d p ok. past_now k coherent s here_it t y at (bare h) rd.reference w.hb end w.base_there d.hand ok p)

  -- THE EVENT

  -- the newest slot goes
  drops_there : (r : MutRef) → last_of y.slots ≡ Some (value.Mut r) → slice_get k.code y.pc ≡ Some instr.DropSlot → Gives Done (step k.options.servers instr.DropSlot start)
  drops_there r e code =
      let i : Instr = instr.DropSlot in
      let j : ℕ = length (front_of y.slots) in
      let new = newest_there y.slots (value.Mut r) e in
      let number : length y.slots - 1 ≡ j = (let a = new.1 in omega (arith, a)) in
      let w : Lval = record { slot = j; depth = 0 } in
      let is : path (sight k) (x i code) ≡ ends r = ap (λ o. path_of o y) code ∙ ap path_ending e in
      let free = (given_up_may_be k (c i code) (x i code) i w (g i code) code (dropped j new.1)).free in
      let en = slot_end i code j r new.0 (drops e) is free (given_unpassed k coherent s here_it t y at on i w code (dropped j new.1)) (untaken_here k coherent s here_it t y at on i code (drop_takes y.number y.phase)) in
      (subst (λ o. Gives Done (prepared k.options.servers i (prepare (ending (in_slot (length y.slots - 1)) o) start))) (sym e)
      (subst (λ b. Gives Done (prepared k.options.servers i (prepare (Some (EndRef (in_slot b))) start))) (sym number)
      (prepared_end i code r (in_slot j) (In i code j) en k.options.servers
      (λ h end rd rn.
      let q : MutRef = rd.reference in
      let size : length h.thread.slots - 1 ≡ j = (let a = rd.slots_size in let b = new.1 in omega (arith, a, b)) in
      let last : last_of h.thread.slots ≡ Some (value.Mut q) = ap (slice_get h.thread.slots) size ∙ rd.there in
      let same : length (front_of h.thread.slots) ≡ j = (let a = (newest_there h.thread.slots (value.Mut q) last).1 in let b = rd.slots_size in let d = new.1 in omega (arith, a, b, d)) in
      let ends_so = ending_so i code r (in_slot j) (In i code j) en h end rd rn (slot (length (front_of h.thread.slots))) (ap (λ m. Some (at_slot h.thread.number m)) same ∙ ap (λ m. Some (at_slot m j)) rd.number) (newest_there h.thread.slots (value.Mut q) last).0 in
      left_by i code r (in_slot j) (In i code j) en h end rd (slot (length (front_of h.thread.slots))) ends_so (committed (commit k.options.servers i end (bare h)))
      (slot_ends k coherent s here_it t y at (bare h) q ends_so.hb end rd.state.untaken last ends_so.back)))))

  -- the top of the hand goes
  discards_there : (r : MutRef) → last_of y.temps ≡ Some (value.Mut r) → slice_get k.code y.pc ≡ Some instr.Discard → Gives Done (step k.options.servers instr.Discard start)
  discards_there r e code =
      let i : Instr = instr.Discard in
      let ts : List Value = front_of y.temps in
      let new = newest_there y.temps (value.Mut r) e in
      let is : path (sight k) (x i code) ≡ ends r = ap (λ o. path_of o y) code ∙ ap path_ending e in
      let en = temp_end i code r e (discards e) is (untaken_here k coherent s here_it t y at on i code (discard_takes y.number y.phase)) in
      (subst (λ o. Gives Done (prepared k.options.servers i (prepare (ending on_top o) start))) (sym e)
      (prepared_end i code r on_top (On i code ts) en k.options.servers
      (λ h end rd rn.
      let q : MutRef = rd.reference in
      let last : last_of h.thread.temps ≡ Some (value.Mut q) = rd.there in
      let same : length (front_of h.thread.temps) ≡ length ts = (let a = (newest_there h.thread.temps (value.Mut q) last).1 in let b = rd.temps_size in let d = new.1 in omega (arith, a, b, d)) in
      let ends_so = ending_so i code r on_top (On i code ts) en h end rd rn (temp (length (front_of h.thread.temps))) (ap (λ m. Some (at_temp h.thread.number m)) same ∙ ap (λ m. Some (at_temp m (length ts))) rd.number) (newest_there h.thread.temps (value.Mut q) last).0 in
      left_by i code r on_top (On i code ts) en h end rd (temp (length (front_of h.thread.temps))) ends_so (committed (commit k.options.servers i end (bare h)))
      (top_ends k coherent s here_it t y at (bare h) q ends_so.hb end rd.state.untaken last ends_so.back))))

  -- a variable is assigned
  assigns_there : (w : Lval) (o : Operand) (r : MutRef) → w.depth ≡ 0 → slice_get y.slots w.slot ≡ Some (value.Mut r) → slice_get k.code y.pc ≡ Some (instr.Assign w o) → Gives Done (step k.options.servers (instr.Assign w o) start)
  assigns_there w o r flat e code =
      let i : Instr = instr.Assign w o in
      let j : ℕ = w.slot in
      let is : path (sight k) (x i code) ≡ ends r = ap (λ b. path_of b y) code ∙ ap (λ d. assigning y.slots w d) flat ∙ ap path_ending e in
      let free = (given_up_may_be k (c i code) (x i code) i w (g i code) code (written assigns_to)).free in
      let en = slot_end i code j r e (assigns w o flat e) is free (given_unpassed k coherent s here_it t y at on i w code (written assigns_to)) (untaken_here k coherent s here_it t y at on i code (assign_takes y.number y.phase w o)) in
      (subst (λ d. Gives Done (prepared k.options.servers i (prepare (assigned w d y) start))) (sym flat)
      (subst (λ a. Gives Done (prepared k.options.servers i (prepare (ending (in_slot j) a) start))) (sym e)
      (prepared_end i code r (in_slot j) (In i code j) en k.options.servers
      (λ h end rd rn.
      let q : MutRef = rd.reference in
      let ends_so = ending_so i code r (in_slot j) (In i code j) en h end rd rn (slot j) (ap (λ m. Some (at_slot m j)) rd.number) rd.there in
      left_by i code r (in_slot j) (In i code j) en h end rd (slot j) ends_so (committed (commit k.options.servers i end (bare h)))
      (variable_ends k coherent s here_it t y at (bare h) q ends_so.hb end rd.state.untaken j rd.there ends_so.back k.options.servers w o refl flat)))))

  -- each of the three
  all_there : (r : MutRef) (i : Instr) → EndsReference y r i → slice_get k.code y.pc ≡ Some i → Gives Done (step k.options.servers i start)
  all_there r _ (drops e) code = drops_there r e code
  all_there r _ (discards e) code = discards_there r e code
  all_there r _ (assigns w o flat e) code = assigns_there w o r flat e code

  -- what its step leaves
  pub ends_left : (r : MutRef) (i : Instr) → EndsReference y r i → (code : slice_get k.code y.pc ≡ Some i) → Gives (Left_at k coherent.sound few s here_it t y at i code) (step k.options.servers i start)
  ends_left r i ends_it code =
      both_give (λ (d : Stepped). IsOk d.hand) Done (Left_at k coherent.sound few s here_it t y at i code) (step k.options.servers i start) (ok_steps k coherent s here_it t y at on i (kind_so r i ends_it)) (all_there r i ends_it code)
      (λ d ok a. let spread = places k coherent s here_it t y at d.hand ok in (a.0 ok, spread))
    where
      kind_so : (r : MutRef) (i : Instr) → EndsReference y r i → IsProvedKind (instr_kind i)
      kind_so r _ (drops e) = tt
      kind_so r _ (discards e) = tt
      kind_so r _ (assigns w o flat e) = tt

  pub ends_send : (r : MutRef) (i : Instr) → EndsReference y r i → (code : slice_get k.code y.pc ≡ Some i) → Mails s.rest → Gives (Sends k coherent.sound few s here_it t y at i code) (step k.options.servers i start)
  ends_send r i ends_it code mail = weaker Done (Sends k coherent.sound few s here_it t y at i code) (step k.options.servers i start) (all_there r i ends_it code) (λ d a. a.1 mail)

-- THE LAW
pub ends_keep : EndsKeepCopies
ends_keep k number t s y i r ends_it coherent few here_it at code =
    subst (λ m. server_at k.servers m ≡ Some s → LeavesRight k (record { server = m; what = Step t })) (found_number number k.servers s here_it)
    (λ h. settled_by k coherent.sound few s h t y at i code (λ on. ends_left k coherent few s h t y at on r i ends_it code) (λ on mail. ends_send k coherent few s h t y at on r i ends_it code mail)) here_it
