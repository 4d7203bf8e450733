-- A mutable reference ends with its slot, from the hand, or where it is assigned over, and its holder's place is ready: words are those that objects were given, and the entry leads on.
use Rattle.std.proofs.Common.{◌≡◌, inl, inr, ⊎_elim, ℕ, ◌+◌, ◌-◌, ◌==◌, true, false, List, [], ◌∷◌, ◌++◌, length, Option, Some, None, refl, sym, ap, subst, ◌∙◌, arith}
use Rattle.std.specs.Prelude.{⊤, slice_get, slice_set}
use Rattle.law_entries_reads.specs.Below.law_entries_variables.Below.law_words_ends.Below.fr_base.declared.instruction.Instr.{Instr}
use Rattle.law_entries_reads.specs.Below.law_entries_variables.Below.law_words_ends.Below.fr_base.declared.instruction.Instr.TheVariants as instr
use Rattle.law_entries_reads.specs.Below.law_entries_variables.Below.law_words_ends.Below.fr_base.declared.instruction.Operand.{Operand}
use Rattle.law_entries_reads.specs.Below.law_entries_variables.Below.law_words_ends.Below.fr_base.declared.place.Lval.{Lval}
use Rattle.law_entries_reads.specs.Below.law_entries_variables.Below.law_words_ends.Below.fr_store.Keys.{slot_k, temp_k}
use Rattle.law_entries_reads.specs.Below.law_entries_variables.Below.law_words_ends.Below.fr_store.Typed.{KeyTypes, Unnamed}
use Rattle.law_entries_reads.specs.Below.law_entries_variables.Below.law_words_ends.Below.heap_partition.declared.value.BoxPtr.{BoxPtr}
use Rattle.law_entries_reads.specs.Below.law_entries_variables.Below.law_words_ends.Below.heap_partition.declared.value.Cell.{Cell}
use Rattle.law_entries_reads.specs.Below.law_entries_variables.Below.law_words_ends.Below.heap_partition.declared.value.Owned.TheVariants as owned
use Rattle.law_entries_reads.specs.Below.law_entries_variables.Below.law_words_ends.Below.mut_borrow.declared.mutable.MutRef.{MutRef}
use Rattle.law_entries_reads.specs.Below.law_entries_variables.Below.law_words_ends.Below.thread_state.View.{ThreadState, is_over}
use Rattle.law_entries_reads.specs.Below.law_entries_variables.Below.law_words_ends.Below.thread_state.declared.value.Value.{Value}
use Rattle.law_entries_reads.specs.Below.law_entries_variables.Below.law_words_ends.Below.thread_state.declared.value.Value.TheVariants as value
use Rattle.law_entries_reads.specs.Below.law_entries_variables.Below.law_words_ends.Below.server_model.declared.event.What.TheVariants.{Step}
use Rattle.law_entries_reads.specs.Below.law_entries_variables.Below.law_words_ends.Below.server_model.Servers.{Server, Cluster, server_at}
use Rattle.law_entries_reads.specs.Below.law_entries_variables.Below.law_words_ends.Below.server_model.Work.{Hand, last_of, front_of, with_slots, thread_in}
use Rattle.law_entries_reads.specs.Below.law_entries_variables.Below.law_words_ends.Below.server_model.Places.{Spot, in_slot, on_top, in_cell, nowhere as no_spot, value_at}
use Rattle.law_entries_reads.specs.Below.law_entries_variables.Below.law_words_ends.Below.server_model.Prepare.{EndRef, Prepared, ready, requested, nothing, and_then, clean_value, follow_ended, unlabelled, ending, assigned, prepare}
use Rattle.law_entries_reads.specs.Below.law_entries_variables.Below.law_words_ends.Below.server_model.Commit.{commit}
use Rattle.law_entries_reads.specs.Below.law_entries_variables.Below.law_words_ends.Below.server_model.Events.{enabled, begin_work, Stepped, committed, prepared, step, stepped}
use Rattle.law_entries_writes.specs.Below.law_entries_variables.Below.coloured_heap.Heap.{Coloured}
use Rattle.law_entries_reads.specs.Below.law_entries_variables.Below.law_words_ends.Below.coherent_memory.Things.{Location, at_slot, at_temp, in_cell as in_object}
use Rattle.law_entries_reads.specs.Below.law_entries_variables.Below.law_words_ends.Below.coherent_memory.Follow.{Standing, slot_of, temp_of, value_in}
use Rattle.law_entries_reads.specs.Below.law_entries_variables.Below.law_words_ends.Below.coherent_memory.Paths.{ends, path_of, assigning, ending as path_ending}
use Rattle.law_entries_reads.specs.Below.law_entries_variables.Below.law_words_ends.Below.coherent_memory.Sight.{sight}
use Rattle.law_entries_reads.specs.Below.law_entries_variables.Below.law_words_ends.Below.coherent_memory.Walking.{path}
use Rattle.law_entries_reads.specs.Below.law_entries_variables.Below.law_words_ends.Below.coherent_memory.Words.{HasWords}
use Rattle.law_entries_reads.specs.Below.law_entries_variables.Below.law_words_ends.Below.coherent_memory.Colours.{StandsColoured}
use Rattle.law_entries_reads.specs.Below.law_entries_variables.Below.law_words_ends.Below.coherent_types.ClusterTypes.{IsCoherent}
use Rattle.law_entries_reads.specs.Below.law_entries_variables.Below.law_words_ends.Below.law_words_paths.paths.HeapStore.{HasPaths, GoesOn}
use Rattle.law_entries_reads.proofs.Below.law_entries_variables.Below.law_words_ends.Below.law_words_paths.paths.FreshPaths.{slot_there, temp_there}
use Rattle.law_entries_reads.proofs.Below.law_entries_variables.Below.law_words_ends.Below.law_words_paths.paths.Pointers.{temp_unnamed}
use Rattle.law_entries_reads.proofs.Below.law_entries_variables.Below.law_words_ends.Below.law_words_paths.paths.Shown.{stands_there}
use Rattle.law_entries_reads.proofs.Below.law_entries_variables.Below.law_words_ends.Below.law_words_paths.paths.Sole.{some_is}
use Rattle.law_entries_reads.specs.Below.law_entries_variables.Below.law_words_ends.Below.law_words_paths.paths.Pointing.{assigns as assigns_to}
use Rattle.law_heap_writes.specs.Below.law_words_writes.Below.law_words_kept.ends.Dropped.{written, dropped}
use Rattle.law_heap_writes.proofs.Below.law_words_writes.Below.law_words_kept.ends.Ends.{EndsAt, key_of}
use Rattle.law_heap_writes.proofs.Below.law_words_writes.Below.law_words_kept.ends.Given.{given_up_may_be}
use Rattle.law_entries_reads.proofs.Below.law_entries_variables.Below.law_words_ends.Below.law_words_paths.words.Slots.{set_other}
use Rattle.law_entries_reads.proofs.Below.law_entries_variables.Below.law_words_ends.Below.law_words_paths.words.Tints.{slot_stands}
use Rattle.law_entries_reads.specs.Below.law_entries_variables.Below.law_words_ends.Below.law_counts_sums.Laws.{Gives, FewEvents}
use Rattle.law_entries_reads.proofs.Below.law_entries_variables.Below.law_words_ends.Below.law_counts_sums.Objects.{length_set}
use Rattle.law_entries_reads.proofs.Below.law_entries_variables.Below.law_words_ends.Below.law_counts_sums.Results.{both_give}
use Rattle.law_entries_reads.proofs.Below.law_entries_variables.Below.law_words_ends.Below.law_counts_sums.Values.{last_split}
use Rattle.law_heap_writes.proofs.Below.law_words_writes.Below.law_words_kept.stays.Steps.{TakesNoneHere}
use Rattle.law_heap_writes.proofs.Below.law_words_writes.Below.law_words_kept.prepared.Hands.{put, places, stands}
use Rattle.law_heap_writes.proofs.Below.law_words_writes.Below.law_words_values.carried.Hands.{Ok}
use Rattle.law_heap_writes.proofs.Below.law_words_writes.Below.law_words_values.carried.Passing.{Here, slot, temp, nowhere, located, here}
use Rattle.law_entries_reads.proofs.Below.law_entries_variables.Below.law_words_ends.Below.law_results_reads.Known.{Steps, standing, paths, goes}
use Rattle.law_heap_writes.proofs.Below.law_results_events.writes.Holders.{TakesWord, route}
use Rattle.law_heap_writes.proofs.Below.law_results_events.writes.Memory.{Leads}
use Rattle.law_heap_writes.proofs.Below.law_words_writes.Below.law_words_asked.writes.Onward.{Lies}
use Rattle.law_heap_writes.proofs.Below.law_words_writes.Below.law_words_asked.writes.Passing.{State}
use Rattle.law_heap_writes.proofs.Below.law_words_writes.Below.law_words_asked.writes.Hops.{Walk}
use Rattle.law_heap_writes.proofs.Below.law_words_writes.Marking.{mark_state}
use Rattle.law_entries_reads.specs.Below.law_entries_variables.Below.law_words_ends.Below.law_words_values.references.Unpassed.{IsUnpassed}
use Rattle.law_entries_reads.specs.Below.law_entries_variables.Below.law_words_ends.variables.Ends.{EndsReference, drops, discards, assigns}
use Rattle.law_entries_reads.proofs.Below.law_entries_variables.Below.law_words_ends.variables.EndHands.{length_end, newest_there, bare, Base, AtEnd}
use Rattle.law_entries_reads.proofs.Below.law_entries_variables.Below.law_words_ends.variables.EndEvents.{drop_takes, discard_takes, assign_takes, given_unpassed, temp_unpassed, untaken_here}
use Rattle.law_entries_reads.proofs.Below.law_entries_variables.Below.law_words_ends.variables.DirtyEnds.{slot_place, top_place, temp_stands}
use Rattle.law_copies_writes.proofs.Below.law_words_ends.stars.Cleaned.{steps, End, lies}
use Rattle.law_copies_writes.proofs.Below.law_words_ends.stars.Following.{leads, AtHolder, holder_slot, holder_cell, Ready, EndFine, prepared_so}
use Rattle.law_copies_writes.proofs.Below.law_words_ends.stars.EndStates.{base, at_end}
use Rattle.law_copies_writes.proofs.Below.law_words_ends.stars.Returns.{marks, noted, marks_other, Returns, returns_first, returns_slot, returns_cell}
use Rattle.law_copies_writes.proofs.Below.law_words_ends.stars.Commits.{Past, past_leaves, slot_ends, top_ends, variable_ends}
use Rattle.law_entries_reads.proofs.Below.law_entries_variables.variables.Slots.{IsUnmarked}
use Rattle.law_entries_reads.proofs.Below.law_entries_variables.variables.Led.{LedWith}
use Rattle.law_entries_writes.proofs.Below.law_entries_reads.asks.Recoloured.{NewWords}
use Rattle.law_entries_writes.proofs.Below.law_entries_reads.asks.Agreeing.{Rewords}
use Rattle.law_entries_writes.proofs.walks.Given.{Given, reworded_on}
use Rattle.law_entries_writes.proofs.ends.Ending.{AsksOrEnds}
use Rattle.law_entries_writes.proofs.ends.Closing.{Known, discard_leads, drop_leads, assign_leads}
use Rattle.law_entries_writes.proofs.ends.Marks.{marked_words}

pub one_thread : {t u i j : ℕ} → slot_k t i ≡ slot_k u j → t ≡ u
one_thread e = cc

pub temp_no_slot : {t u i j : ℕ} → temp_k t i ≡ slot_k u j → ⊥
temp_no_slot e = absurd (cc e)

module _ (k : Cluster) (coherent : IsCoherent k) (few : FewEvents k) (s : Server) (here_it : server_at k.servers s.rest.number ≡ Some s) (t : ℕ) (y : ThreadState) (at : thread_in s.threads t ≡ Some y) (on : enabled k.options s (Step t) ≡ true) (c0 : Coloured) (is_coloured : StandsColoured k c0) where
  abbrev n : ℕ
  n = s.rest.number

  abbrev start : Hand
  start = record { work = begin_work s.rest; thread = y }

  abbrev P : Hand → Cluster
  P = put k coherent s here_it t y at

  abbrev before : HasWords (sight k)
  before = coherent.sound.words.have_words

  abbrev IsOk : Hand → Type 0
  IsOk = Ok k coherent.sound s here_it t y at

  abbrev St : Hand → Type 0
  St = State k coherent s here_it t y at

  -- objects got words
  pub record GivesWords (h : Hand) : Type 0 where
    pub words : NewWords
    pub given : Given k coherent s here_it t y at c0 is_coloured h words
    -- no lock's mark is in the hand
    pub tops : (v : Value) → last_of h.thread.temps ≡ Some v → IsUnmarked v

  -- so where the place is ready
  abbrev pub GivenFine : Prepared → Type 0
  GivenFine (ready h sp) = GivesWords h
  GivenFine (requested h) = ⊤
  GivenFine nothing = ⊤

  -- what stands in the hand stands there in its cluster
  here_now : (h : Hand) → IsOk h → (from : Here) (l : Location) (v : Value) → located h.thread.number from ≡ Some l → here h.thread from ≡ Some v → value_in (sight (P h)).ground l ≡ Some v
  here_now h ok (slot j) l v place is =
      ap (value_in (sight (P h)).ground) (sym (some_is place)) ∙ slot_stands k n s.threads (s.events + 1) h j v (stands k coherent s here_it t y at h ok) (places k coherent s here_it t y at h ok) is
  here_now h ok (temp j) l v place is =
      ap (value_in (sight (P h)).ground) (sym (some_is place)) ∙ temp_stands k n s.threads (s.events + 1) h j v (stands k coherent s here_it t y at h ok) (places k coherent s here_it t y at h ok) is
  here_now h ok nowhere l v place is = absurd (cc place)

  -- labels are no matter
  bare_state : (h : Hand) → St h → St (bare h)
  bare_state h st = record { ok = record { number = st.ok.number; thread = st.ok.thread; bag = st.ok.bag }; onward = st.onward; untaken = st.untaken }

  module _ (i : Instr) (code : slice_get k.code y.pc ≡ Some i) where
    abbrev z : Steps k n t s y i
    z = steps k coherent few s here_it t y at on i code

    abbrev c : HasPaths k
    c = paths k n t s y i z

    abbrev x : Standing
    x = standing k n t s y i z

    abbrev g : GoesOn k x
    g = goes k n t s y i z

    abbrev E : KeyTypes
    E = c.types.typing.exact

    -- THE REFERENCE IN THE THREAD

    abbrev slot_at : (j : ℕ) (r : MutRef) → slice_get y.slots j ≡ Some (value.Mut r) → Unnamed E (slot_k y.number j) → EndsAt k c x g r
    slot_at j r e free = record {
      at = at_slot y.number j;
      stands = ap (λ o. slot_of o j) (stands_there k c x g) ∙ e;
      there = slot_there k c x g j r e;
      free = subst (Unnamed E) (key_of (slot_there k c x g j r e).is) free;
      own = λ a b f. sym (one_thread (key_of (slot_there k c x g j r e).is ∙ f));
    }

    abbrev temp_at : (j : ℕ) (r : MutRef) → slice_get y.temps j ≡ Some (value.Mut r) → EndsAt k c x g r
    temp_at j r e = record {
      at = at_temp y.number j;
      stands = ap (λ o. temp_of o j) (stands_there k c x g) ∙ e;
      there = temp_there k c x g j r e;
      free = subst (Unnamed E) (key_of (temp_there k c x g j r e).is) (temp_unnamed k c y.number j);
      own = λ a b f. absurd (temp_no_slot (key_of (temp_there k c x g j r e).is ∙ f));
    }

    abbrev pub In : ℕ → MutRef → ThreadState
    In j q = record y { slots = slice_set y.slots j (value.Mut q) }

    abbrev pub On : List Value → MutRef → ThreadState
    On ts q = record y { temps = ts ++ value.Mut q ∷ [] }

    abbrev pub slot_end : (j : ℕ) (r : MutRef) (e : slice_get y.slots j ≡ Some (value.Mut r)) → EndsReference y r i → path (sight k) x ≡ ends r → Unnamed E (slot_k y.number j) → IsUnpassed k (at_slot y.number j) → TakesNoneHere k.code y → End k coherent few s here_it t y at on i code r (in_slot j) (In j)
    slot_end j r e ends_it is free unpassed none = record {
      ends_it = ends_it;
      is = is;
      it = slot_at j r e free;
      unpassed = unpassed;
      untaken = none;
      form = inl (j, refl, refl);
      place = slot_place k coherent few s here_it t y at on j r e;
      thread = λ q. refl;
      slots = λ q m ne. set_other y.slots j m (value.Mut q) (λ f. ne (ap (at_slot y.number) (sym f)));
      slots_size = λ q. length_set y.slots j (value.Mut q);
      temps_size = λ q. refl;
    }

    abbrev pub temp_end : (r : MutRef) (e : last_of y.temps ≡ Some (value.Mut r)) → EndsReference y r i → path (sight k) x ≡ ends r → TakesNoneHere k.code y → End k coherent few s here_it t y at on i code r on_top (On (front_of y.temps))
    temp_end r e ends_it is none =
        let ts : List Value = front_of y.temps in
        let new = newest_there y.temps (value.Mut r) e in
        record {
          ends_it = ends_it;
          is = is;
          it = temp_at (length ts) r new.0;
          unpassed = temp_unpassed k coherent s here_it t y at on (length ts);
          untaken = none;
          form = inr refl;
          place = top_place k coherent few s here_it t y at on ts r (last_split y.temps (value.Mut r) e) refl e;
          thread = λ q. refl;
          slots = λ q m ne. refl;
          slots_size = λ q. refl;
          temps_size = λ q. length_end ts (value.Mut q) ∙ sym new.1;
        }

    module _ (r : MutRef) (sp : Spot) (other : MutRef → ThreadState) (e : End k coherent few s here_it t y at on i code r sp other) where
      abbrev IsReady : Hand → Spot → Type 0
      IsReady = Ready k coherent few s here_it t y at on i code r sp other e

      abbrev place_of : ℕ → Option Location
      place_of = leads k coherent few s here_it t y at on i code r sp other e

      -- WHERE ALL IS READY

      -- a base, in which objects have these words, and what the end does from there
      record Closing (h : Hand) (end : Spot) (q : MutRef) (from : Here) (l : NewWords) : Type 0 where
        hb : Hand
        base_there : Base k coherent.sound s here_it t y at hb
        returns : Returns k coherent.sound s here_it t y at (bare h) q hb end from
        words : Rewords k (P hb) l before

      module _ (h : Hand) (end : Spot) (rd : IsReady h end) (gw : GivesWords h) (from : Here) (place : located h.thread.number from ≡ Some e.it.at) (is : here h.thread from ≡ Some (value.Mut rd.reference)) where
        abbrev q : MutRef
        q = rd.reference

        abbrev H : Hand
        H = bare h

        abbrev l : NewWords
        l = gw.words

        st : St H
        st = bare_state h rd.state

        ended : (hl : Location) → place_of r.holder.depth ≡ Some hl → AtEnd k coherent.sound s here_it t y at H e.it.at hl q
        ended hl final = at_end k coherent few s here_it t y at on i code r sp other e hl final H st q rd.clean rd.holder (here_now H st.ok from e.it.at (value.Mut q) place is)

        base_H : (hl : Location) → place_of r.holder.depth ≡ Some hl → Base k coherent.sound s here_it t y at H
        base_H hl final = base k coherent few s here_it t y at on i code r sp other e hl final H st

        -- its slot is none of these
        not_from : (m : ℕ) → (e.it.at ≡ at_slot y.number m → ⊥) → slot m ≡ from → ⊥
        not_from m ne f = ne (some_is (sym place ∙ ap (located h.thread.number) (sym f)) ∙ ap (λ b. at_slot b m) rd.number)

        in_slots : (m : ℕ) (v : Value) → (q.word == q.first) ≡ false → end ≡ in_slot m → place_of r.holder.depth ≡ Some (at_slot y.number m) → (e.it.at ≡ at_slot y.number m → ⊥) → slice_get h.thread.slots m ≡ Some v → TakesWord v → Closing h end q from l
        in_slots m v word at_m final away there takes =
            let u = takes q.word in
            record {
              hb = H;
              base_there = base_H (at_slot y.number m) final;
              returns = subst (λ b. Returns k coherent.sound s here_it t y at H q H b from) (sym at_m)
                  (returns_slot k coherent.sound s here_it t y at H q (base_H (at_slot y.number m) final) st.untaken from e.it.at (at_slot y.number m) place is (ended (at_slot y.number m) final) m v u.0 word (ap (λ b. at_slot b m) (sym rd.number)) (not_from m away) there u.1);
              words = gw.given.rewords;
            }

        in_cells : (b : ℕ) (w : Option ℕ) (d : Cell) (p : BoxPtr) → (q.word == q.first) ≡ false → end ≡ in_cell b w → place_of r.holder.depth ≡ Some (in_object d.object) → Leads h.work.rest.partition b d → d.value ≡ owned.Box p → Walk k coherent s here_it t y at h (in_cell b w)
            → ((m : ℕ) → w ≡ Some m → e.it.at ≡ at_slot y.number m → ⊥) → Closing h end q from l
        in_cells b w d p word at_b final lead boxed walk away =
            record {
              hb = hb;
              base_there = base_b;
              returns = subst (λ v. Returns k coherent.sound s here_it t y at H q hb v from) (sym at_b)
                  (returns_cell k coherent.sound s here_it t y at H q w stb.ok base_b stb.untaken from e.it.at place (λ m f. not_from m (away m f)) lies_it b d p ended_b lead boxed word);
              words = subst (λ v. Rewords k (P v) l before) (noted w h) (marked_words k coherent s here_it t y at c0 is_coloured h b gw.words gw.given w walk);
            }
          where
            hb : Hand
            hb = with_slots (marks w h.thread.slots) H

            stb : St hb
            stb = bare_state (with_slots (marks w h.thread.slots) h) (subst St (noted w h) (mark_state k coherent s here_it t y at h b w walk))

            base_b : Base k coherent.sound s here_it t y at hb
            base_b = base k coherent few s here_it t y at on i code r sp other e (in_object d.object) final hb stb

            still : (f : Here) → ((m : ℕ) → w ≡ Some m → slot m ≡ f → ⊥) → here h.thread f ≡ Some (value.Mut q) → here hb.thread f ≡ Some (value.Mut q)
            still (slot j) ne v = marks_other w h.thread.slots j (λ u. ne j u refl) ∙ v
            still (temp j) ne v = v
            still nowhere ne v = v

            ended_b : AtEnd k coherent.sound s here_it t y at hb e.it.at (in_object d.object) q
            ended_b = at_end k coherent few s here_it t y at on i code r sp other e (in_object d.object) final hb stb q rd.clean rd.holder (here_now hb stb.ok from e.it.at (value.Mut q) place (still from (λ m f. not_from m (away m f)) is))

            lies_it : Lies (P hb) q.object
            lies_it =
                let u = lies k coherent few s here_it t y at on i code r sp other e in
                subst (Lies (P hb)) (sym rd.object) (stb.onward.lies_on r.object (record { server = u.server; address = u.address; there = u.there }))

        closing_so : Closing h end q from l
        closing_so = ⊎_elim first (λ (f : ((q.word == q.first) ≡ false) × AtHolder k coherent few s here_it t y at on i code r sp other e h end). by f.0 f.1) rd.back
          where
            first : ((q.word == q.first) ≡ true) × (end ≡ no_spot) → Closing h end q from l
            first f =
                let hl = (route k n t s y i z r e.is e.it).leads_there r.holder.depth (omega arith) in
                record {
                  hb = H;
                  base_there = base_H hl.0 hl.1;
                  returns = subst (λ b. Returns k coherent.sound s here_it t y at H q H b from) (sym f.1) (returns_first k coherent.sound s here_it t y at H q (base_H hl.0 hl.1) st.untaken from e.it.at hl.0 place is (ended hl.0 hl.1) f.0);
                  words = gw.given.rewords;
                }

            by : (q.word == q.first) ≡ false → AtHolder k coherent few s here_it t y at on i code r sp other e h end → Closing h end q from l
            by word (holder_slot m v at_m final away there takes) = in_slots m v word at_m final away there takes
            by word (holder_cell b w d p at_b final lead boxed walk away) = in_cells b w d p word at_b final lead boxed walk away

        abbrev Comes_to : Stepped → Type 0
        Comes_to = AsksOrEnds k coherent s here_it t y at c0

        -- the end behind it, with words that stay, and the entry that leads on
        closed : (live : is_over y.phase ≡ false) (free : y.gift ≡ None) (u : Closing h end q from l) (o : Option Stepped) → Gives (λ (d : Stepped). Past k coherent.sound s here_it t y at H q u.hb end d.hand) o
            → Gives (λ (d : Stepped). LedWith (Known k coherent s here_it t y at c0 is_coloured live free h gw.words gw.given) k s c0 (stepped s d)) o → Gives Comes_to o
        closed live free u o past led =
            both_give (λ (d : Stepped). Past k coherent.sound s here_it t y at H q u.hb end d.hand) (λ (d : Stepped). LedWith (Known k coherent s here_it t y at c0 is_coloured live free h gw.words gw.given) k s c0 (stepped s d)) Comes_to o past led
            (λ d p v. inr (λ ok. record { words = l; left = reworded_on k (P u.hb) (P d.hand) l before u.words (past_leaves k coherent.sound s here_it t y at H q u.hb end u.base_there d.hand ok p); leads = v }))

      -- the place is prepared, and where it is ready the plain step is done
      prepared_end : (servers : ℕ) → GivenFine (and_then (λ h2 s2. follow_ended (value_at h2 s2) h2) (clean_value sp (value_at start sp) start))
          → ((h : Hand) (end : Spot) → IsReady h end → GivesWords h → Gives (AsksOrEnds k coherent s here_it t y at c0) (committed (commit servers i end (bare h)))) → Gives (AsksOrEnds k coherent s here_it t y at c0) (prepared servers i (prepare (Some (EndRef sp)) start))
      prepared_end servers given go = by (and_then (λ h2 s2. follow_ended (value_at h2 s2) h2) (clean_value sp (value_at start sp) start)) (prepared_so k coherent few s here_it t y at on i code r sp other e) given
        where
          by : (p : Prepared) → EndFine k coherent few s here_it t y at on i code r sp other e p → GivenFine p → Gives (AsksOrEnds k coherent s here_it t y at c0) (prepared servers i (and_then unlabelled p))
          by (ready h end) f u = go h end f u
          by (requested h) f u = inl refl
          by nothing f u = tt

  -- EACH INSTRUCTION

  module _ (live : is_over y.phase ≡ false) (free : y.gift ≡ None) (r : MutRef) where
    -- the newest slot goes
    pub drops_close : last_of y.slots ≡ Some (value.Mut r) → (code : slice_get k.code y.pc ≡ Some instr.DropSlot)
        → ((sp : Spot) (other : MutRef → ThreadState) → End k coherent few s here_it t y at on instr.DropSlot code r sp other → GivenFine (and_then (λ h2 s2. follow_ended (value_at h2 s2) h2) (clean_value sp (value_at start sp) start)))
        → Gives (AsksOrEnds k coherent s here_it t y at c0) (step k.options.servers instr.DropSlot start)
    drops_close e code given =
        let i : Instr = instr.DropSlot in
        let j : ℕ = length (front_of y.slots) in
        let new = newest_there y.slots (value.Mut r) e in
        let number : length y.slots - 1 ≡ j = (let a = new.1 in omega (arith, a)) in
        let is : path (sight k) (x i code) ≡ ends r = ap (λ o. path_of o y) code ∙ ap path_ending e in
        let unnamed = (given_up_may_be k (c i code) (x i code) i (record { slot = j; depth = 0 }) (g i code) code (dropped j new.1)).free in
        let en = slot_end i code j r new.0 (drops e) is unnamed (given_unpassed k coherent s here_it t y at on i (record { slot = j; depth = 0 }) code (dropped j new.1)) (untaken_here k coherent s here_it t y at on i code (drop_takes y.number y.phase)) in
        subst (λ o. Gives (AsksOrEnds k coherent s here_it t y at c0) (prepared k.options.servers i (prepare (ending (in_slot (length y.slots - 1)) o) start))) (sym e)
        (subst (λ b. Gives (AsksOrEnds k coherent s here_it t y at c0) (prepared k.options.servers i (prepare (Some (EndRef (in_slot b))) start))) (sym number)
        (prepared_end i code r (in_slot j) (In i code j) en k.options.servers (given (in_slot j) (In i code j) en)
        (λ h end rd gw.
        let q : MutRef = rd.reference in
        let size : length h.thread.slots - 1 ≡ j = (let a = rd.slots_size in let b = new.1 in omega (arith, a, b)) in
        let last : last_of h.thread.slots ≡ Some (value.Mut q) = ap (slice_get h.thread.slots) size ∙ rd.there in
        let same : length (front_of h.thread.slots) ≡ j = (let a = (newest_there h.thread.slots (value.Mut q) last).1 in let b = rd.slots_size in let d = new.1 in omega (arith, a, b, d)) in
        let place = ap (λ (m : ℕ). Some (at_slot h.thread.number m)) same ∙ ap (λ (m : ℕ). Some (at_slot m j)) rd.number in
        let stands_so = (newest_there h.thread.slots (value.Mut q) last).0 in
        let from : Here = slot (length (front_of h.thread.slots)) in
        let so = closing_so i code r (in_slot j) (In i code j) en h end rd gw from place stands_so in
        closed i code r (in_slot j) (In i code j) en h end rd gw from place stands_so live free so (committed (commit k.options.servers i end (bare h))) (slot_ends k coherent.sound s here_it t y at (bare h) q so.hb end rd.state.untaken last so.returns)
        (drop_leads k coherent s here_it t y at c0 is_coloured live free h gw.words gw.given k.options.servers end q last))))

    -- the top of the hand goes
    pub discards_close : last_of y.temps ≡ Some (value.Mut r) → (code : slice_get k.code y.pc ≡ Some instr.Discard)
        → ((sp : Spot) (other : MutRef → ThreadState) → End k coherent few s here_it t y at on instr.Discard code r sp other → GivenFine (and_then (λ h2 s2. follow_ended (value_at h2 s2) h2) (clean_value sp (value_at start sp) start)))
        → Gives (AsksOrEnds k coherent s here_it t y at c0) (step k.options.servers instr.Discard start)
    discards_close e code given =
        let i : Instr = instr.Discard in
        let ts : List Value = front_of y.temps in
        let new = newest_there y.temps (value.Mut r) e in
        let is : path (sight k) (x i code) ≡ ends r = ap (λ o. path_of o y) code ∙ ap path_ending e in
        let en = temp_end i code r e (discards e) is (untaken_here k coherent s here_it t y at on i code (discard_takes y.number y.phase)) in
        subst (λ o. Gives (AsksOrEnds k coherent s here_it t y at c0) (prepared k.options.servers i (prepare (ending on_top o) start))) (sym e)
        (prepared_end i code r on_top (On i code ts) en k.options.servers (given on_top (On i code ts) en)
        (λ h end rd gw.
        let q : MutRef = rd.reference in
        let last : last_of h.thread.temps ≡ Some (value.Mut q) = rd.there in
        let same : length (front_of h.thread.temps) ≡ length ts = (let a = (newest_there h.thread.temps (value.Mut q) last).1 in let b = rd.temps_size in let d = new.1 in omega (arith, a, b, d)) in
        let place = ap (λ (m : ℕ). Some (at_temp h.thread.number m)) same ∙ ap (λ (m : ℕ). Some (at_temp m (length ts))) rd.number in
        let stands_so = (newest_there h.thread.temps (value.Mut q) last).0 in
        let from : Here = temp (length (front_of h.thread.temps)) in
        let so = closing_so i code r on_top (On i code ts) en h end rd gw from place stands_so in
        closed i code r on_top (On i code ts) en h end rd gw from place stands_so live free so (committed (commit k.options.servers i end (bare h))) (top_ends k coherent.sound s here_it t y at (bare h) q so.hb end rd.state.untaken last so.returns)
        (discard_leads k coherent s here_it t y at c0 is_coloured live free h gw.words gw.given k.options.servers end q last)))

    -- a variable is assigned
    pub assigns_close : (w : Lval) (o : Operand) → w.depth ≡ 0 → slice_get y.slots w.slot ≡ Some (value.Mut r) → (code : slice_get k.code y.pc ≡ Some (instr.Assign w o))
        → ((sp : Spot) (other : MutRef → ThreadState) → End k coherent few s here_it t y at on (instr.Assign w o) code r sp other → GivenFine (and_then (λ h2 s2. follow_ended (value_at h2 s2) h2) (clean_value sp (value_at start sp) start)))
        → Gives (AsksOrEnds k coherent s here_it t y at c0) (step k.options.servers (instr.Assign w o) start)
    assigns_close w o flat e code given =
        let i : Instr = instr.Assign w o in
        let j : ℕ = w.slot in
        let is : path (sight k) (x i code) ≡ ends r = ap (λ b. path_of b y) code ∙ ap (λ d. assigning y.slots w d) flat ∙ ap path_ending e in
        let unnamed = (given_up_may_be k (c i code) (x i code) i w (g i code) code (written assigns_to)).free in
        let en = slot_end i code j r e (assigns w o flat e) is unnamed (given_unpassed k coherent s here_it t y at on i w code (written assigns_to)) (untaken_here k coherent s here_it t y at on i code (assign_takes y.number y.phase w o)) in
        subst (λ d. Gives (AsksOrEnds k coherent s here_it t y at c0) (prepared k.options.servers i (prepare (assigned w d y) start))) (sym flat)
        (subst (λ a. Gives (AsksOrEnds k coherent s here_it t y at c0) (prepared k.options.servers i (prepare (ending (in_slot j) a) start))) (sym e)
        (prepared_end i code r (in_slot j) (In i code j) en k.options.servers (given (in_slot j) (In i code j) en)
        (λ h end rd gw.
        let q : MutRef = rd.reference in
        let place = ap (λ (m : ℕ). Some (at_slot m j)) rd.number in
        let from : Here = slot j in
        let so = closing_so i code r (in_slot j) (In i code j) en h end rd gw from place rd.there in
        closed i code r (in_slot j) (In i code j) en h end rd gw from place rd.there live free so (committed (commit k.options.servers i end (bare h))) (variable_ends k coherent.sound s here_it t y at (bare h) q so.hb end rd.state.untaken j rd.there so.returns k.options.servers w o refl flat)
        (assign_leads k coherent s here_it t y at c0 is_coloured live free h gw.words gw.given k.options.servers w o end q flat rd.there gw.tops))))
