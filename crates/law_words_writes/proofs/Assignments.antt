-- An assignment through stars, whether it is done or asks.
use Rattle.std.proofs.Common.{◌≡◌, ℕ, suc, nat_lt, Bool, true, false, if◌then◌else◌, List, length, Option, Some, None, option_map, refl, sym, ap, subst, ◌∙◌}
use Rattle.std.specs.Prelude.{slice_get, slice_set}
use Rattle.law_words_asked.specs.Below.fr_base.declared.place.Lval.{Lval}
use Rattle.law_words_asked.specs.Below.fr_base.declared.instruction.Operand.{Operand as Item}
use Rattle.law_words_asked.specs.Below.fr_base.declared.instruction.Operand.TheVariants as operand
use Rattle.law_words_asked.specs.Below.fr_base.declared.instruction.Instr.{Instr}
use Rattle.law_words_asked.specs.Below.fr_base.declared.instruction.Instr.TheVariants as instr
use Rattle.law_words_asked.specs.Below.heap_partition.declared.value.Cell.{Cell}
use Rattle.law_words_asked.specs.Below.heap_partition.declared.value.Owned.{Owned}
use Rattle.law_words_asked.specs.Below.heap_partition.declared.value.Owned.TheVariants as owned
use Rattle.law_words_asked.specs.Below.owner_box.Partition.{stored}
use Rattle.law_words_asked.specs.Below.thread_state.View.{ThreadState}
use Rattle.law_words_asked.specs.Below.thread_state.declared.value.Value.{Value}
use Rattle.law_words_asked.specs.Below.thread_state.declared.value.Value.TheVariants as value
use Rattle.law_words_asked.specs.Below.server_model.declared.event.What.TheVariants.{Step}
use Rattle.law_words_asked.specs.Below.server_model.Servers.{Server, Cluster, server_at}
use Rattle.law_words_asked.specs.Below.server_model.Work.{Hand, Popped, Work, label_all, owned_of, pop_owned, taken_as, thread_in, with_partition, with_slots, with_temps, working, last_of, front_of, then_some}
use Rattle.law_words_asked.specs.Below.server_model.Places.{Spot, in_slot, in_cell, nowhere as no_spot, cell_at, value_in as cell_value, value_at, note_write}
use Rattle.law_words_asked.specs.Below.server_model.Drop.{give_up, drop_value}
use Rattle.law_words_asked.specs.Below.server_model.Commit.{label_dropped, store_labels, store_at, replace_at, assign}
use Rattle.law_words_asked.specs.Below.server_model.Events.{enabled, begin_work}
use Rattle.law_words_asked.specs.Below.coherent_memory.Things.{Location, at_slot, in_cell as in_object}
use Rattle.law_words_asked.specs.Below.coherent_types.ClusterTypes.{IsCoherent}
use Rattle.law_words_asked.proofs.Below.law_words_paths.paths.Sole.{some_is}
use Rattle.law_words_asked.specs.Below.law_counts_sums.Laws.{Gives, FewEvents}
use Rattle.law_words_asked.proofs.Below.law_words_kept.stays.Steps.{TakesNoneHere}
use Rattle.law_words_asked.specs.Below.law_words_kept.prepared.Requests.{WordsRise}
use Rattle.law_words_asked.proofs.Below.law_words_kept.prepared.Hands.{put}
use Rattle.law_words_values.proofs.carried.Hands.{Together, each_together, together_chain, puts_alike}
use Rattle.law_words_values.proofs.carried.Places.{set_twice}
use Rattle.law_words_asked.proofs.Below.law_results_events.writes.Memory.{Leads, looks, leads_on}
use Rattle.law_words_asked.proofs.Below.law_results_events.writes.Route.{Writing, At, a_slot, a_cell}
use Rattle.law_words_asked.proofs.Below.law_results_events.writes.Writes.{Light, owned_value, nothing_left}
use Rattle.law_words_asked.specs.writes.Writing.{assigns}
use Rattle.law_words_asked.proofs.writes.Passing.{State, Fits}
use Rattle.law_words_asked.proofs.writes.Hops.{Walk}
use Rattle.law_words_asked.proofs.writes.Ways.{cell_there, place}
use Rattle.law_words_asked.proofs.writes.Asking.{steps}
use Rattle.law_words_writes.specs.Stored.{AssignmentsKeep}
use Rattle.law_words_writes.proofs.Doing.{hold_on, Holds, free_at_start, untaken_at_start, Does, kept_so}
use Rattle.law_words_writes.proofs.EndTypes.{end_alone, end_apart}
use Rattle.law_words_writes.proofs.Light.{light_end}
use Rattle.law_words_writes.proofs.Marking.{noted_work, noted_thread, noted_same, together_by, mark_state}
use Rattle.law_words_writes.proofs.Storing.{Tip}
use Rattle.law_words_writes.proofs.Putting.{Operand, on_top, plain, give_same, stored_hand, stored_ok, stored_so}
use Rattle.law_words_writes.proofs.Filling.{filled_ok, filled_so, without_slot, without_ok, without_so, rooted_without}

-- THE OPERAND

-- an operand that is owned, whatever it is
operand_is : (o : Item) (h : Hand) (Q : Hand → Type 0) (f : Owned → Hand → Option Hand) → ((v : Owned) (ts : List Value) → Operand h.thread v ts → Gives Q (f v (with_temps ts h))) → Gives Q (then_some (pop_owned o h) (λ u. f u.item u.hand))
operand_is (operand.Const i) h Q f go = go (owned.Int i) h.thread.temps (plain refl)
operand_is operand.Unit h Q f go = go owned.Unit h.thread.temps (plain refl)
operand_is operand.Pop h Q f go = by (last_of h.thread.temps) refl
  where
    h1 : Hand
    h1 = with_temps (front_of h.thread.temps) h

    own_is : (v : Value) (u : Owned) → owned_of v ≡ Some u → v ≡ value.Own u
    own_is (value.Own w) u e = ap (λ z. value.Own z) (some_is e)
    own_is value.Gone u e = absurd (cc e)
    own_is (value.SharedSlot i) u e = absurd (cc e)
    own_is (value.MutSlot i) u e = absurd (cc e)
    own_is (value.Shared r) u e = absurd (cc e)
    own_is (value.Mut r) u e = absurd (cc e)
    own_is (value.Held m) u e = absurd (cc e)

    as_owned : (v : Value) → last_of h.thread.temps ≡ Some v → (o : Option Owned) → owned_of v ≡ o → Gives Q (then_some {X = Popped Owned} (option_map (λ u. record { item = u; hand = with_temps (front_of h.thread.temps) h }) o) (λ u. f u.item u.hand))
    as_owned v e None q = tt
    as_owned v e (Some u) q = go u (front_of h.thread.temps) (on_top (e ∙ ap Some (own_is v u q)))

    by : (o : Option Value) → last_of h.thread.temps ≡ o → Gives Q (then_some {X = Popped Owned} (then_some {X = Popped Value} (option_map (λ v. record { item = v; hand = with_temps (front_of h.thread.temps) h }) o) (taken_as owned_of)) (λ u. f u.item u.hand))
    by None e = tt
    by (Some v) e = as_owned v e (owned_of v) refl

-- other temporary values under a mark
noted_temps : (q : Option ℕ) (h : Hand) (ts : List Value) → (note_write q (with_temps ts h)).thread ≡ record (note_write q h).thread { temps = ts }
noted_temps None h ts = refl
noted_temps (Some i) h ts = refl

module _ (k : Cluster) (coherent : IsCoherent k) (few : FewEvents k) (s : Server) (here : server_at k.servers s.rest.number ≡ Some s) (t : ℕ) (y : ThreadState) (at : thread_in s.threads t ≡ Some y)
    (on : enabled k.options s (Step t) ≡ true) (w : Lval) (d : ℕ) (o : Item) (code : slice_get k.code y.pc ≡ Some (instr.Assign w o)) (depth : w.depth ≡ suc d) where
  abbrev n : ℕ
  n = s.rest.number

  abbrev i : Instr
  i = instr.Assign w o

  abbrev O : Hand → Type 0
  O = Fits k coherent s here t y at

  abbrev P : Hand → Cluster
  P = put k coherent s here t y at

  abbrev h0 : Hand
  h0 = record { work = begin_work s.rest; thread = y }

  abbrev z : Rattle.law_words_asked.proofs.Below.law_results_reads.Known.Steps k n t s y i
  z = steps k coherent few s here t y at on i code w d (assigns o depth)

  abbrev Cells : Rattle.law_words_asked.specs.Below.fr_base.declared.name.ObjNo.ObjNo → Option Cell
  Cells = cell_there k n t s y i z w d (assigns o depth)

  abbrev leads : ℕ → Option Location
  leads = place k n t s y i z w d (assigns o depth)

  abbrev H : Hand → Type 0
  H = Holds k coherent few s here t y at on i code w d (assigns o depth)

  untaken_here : TakesNoneHere k.code y
  untaken_here = untaken_at_start k coherent few s here t y at on i code w d (assigns o depth)

  -- WHERE THE PLACE IS READY

  module _ (h : Hand) (way : Writing s.rest y Cells leads w.depth h) where
    free : h.thread.gift ≡ None
    free = ap (λ (x : ThreadState). x.gift) way.thread ∙ free_at_start k coherent few s here t y at on i code w d (assigns o depth)

    -- in a cell
    module _ (b : ℕ) (q : Option ℕ) (c : Cell) (walk : Walk k coherent s here t y at h (in_cell b q)) (leads_it : Leads h.work.rest.partition b c) (ends : leads w.depth ≡ Some (in_object c.object)) where
      abbrev hm : Hand
      hm = note_write q h

      st : State k coherent s here t y at hm
      st = mark_state k coherent s here t y at h b q walk

      free_m : hm.thread.gift ≡ None
      free_m = ap (λ (x : ThreadState). x.gift) (noted_thread q h) ∙ free

      leads_m : Leads hm.work.rest.partition b c
      leads_m = subst (λ (x : Work). Leads x.rest.partition b c) (sym (noted_work q h)) leads_it

      tip : Tip k coherent s here t y at c.object
      tip = record { alone = end_alone k n t s y i z w d (assigns o depth) (in_object c.object) ends; apart = λ a f. end_apart k n t s y i z w d (assigns o depth) c.object ends untaken_here a f }

      operand_m : (v : Owned) (ts : List Value) → Operand h.thread v ts → Operand hm.thread v ts
      operand_m v _ (on_top last) = subst (λ x. Operand x v (front_of h.thread.temps)) (sym (noted_thread q h)) (on_top last)
      operand_m v _ (plain own) = subst (λ x. Operand x v h.thread.temps) (sym (noted_thread q h)) (plain own)

      module _ (v : Owned) (ts : List Value) (op : Operand h.thread v ts) where
        there : value_at (with_temps ts h) (in_cell b q) ≡ Some (value.Own c.value)
        there = ap cell_value (looks h.work.rest.partition b c leads_it)

        abbrev hs : Hand
        hs = working (with_partition (stored h.work.rest.partition b v)) (working (label_all (store_labels (cell_at (label_dropped (value.Own c.value) (with_temps ts h)) (in_cell b q)) v)) (label_dropped (value.Own c.value) (with_temps ts h)))

        abbrev final : Hand
        final = working (give_up c.value) (note_write q hs)

        abbrev goal : Hand
        goal = stored_hand k coherent s here t y at hm st free_m b c leads_m tip v ts (operand_m v ts op)

        same_thread : final.thread ≡ goal.thread
        same_thread = noted_same q (with_temps ts h) hs refl ∙ noted_temps q h ts

        same_rest : final.work.rest ≡ goal.work.rest
        same_rest =
            give_same c.value (record hm.work { rest = record hm.work.rest { partition = stored hm.work.rest.partition b v } }) (note_write q hs).work
            (ap (λ (x : Work). x.rest) (noted_work q hs) ∙ ap (λ (x : Work). record x.rest { partition = stored x.rest.partition b v }) (sym (noted_work q h)))

        cell_done : H final
        cell_done = record {
          reached = goal;
          words = hold_on (stored_so k coherent s here t y at hm st free_m b c leads_m tip v ts (operand_m v ts op)) st.onward.words;
          fits = stored_ok k coherent s here t y at hm st free_m b c leads_m tip v ts (operand_m v ts op);
          same = together_by goal final same_thread same_rest;
          untaken = subst (λ x. TakesNoneHere k.code x) (sym same_thread) st.untaken;
        }

        cell_stored : Gives H (replace_at (in_cell b q) v (with_temps ts h))
        cell_stored =
            subst (λ m. Gives H (then_some m (λ old. then_some (store_at (in_cell b q) v (label_dropped old (with_temps ts h))) (drop_value no_spot old)))) (sym there)
            (subst (λ m. Gives H (then_some (if m then Some (note_write q hs) else None) (drop_value no_spot (value.Own c.value)))) (sym (leads_on h.work.rest.partition b c leads_it)) cell_done)

    -- in a slot
    module _ (m : ℕ) (walk : Walk k coherent s here t y at h (in_slot m)) (ends : leads w.depth ≡ Some (at_slot y.number m)) where
      st_here : State k coherent s here t y at h
      st_here = walk.state

      named : h.thread.number ≡ y.number
      named = ap (λ (x : ThreadState). x.number) way.thread

      alone : Rattle.law_words_values.proofs.carried.Owned.OwnsAlone k (at_slot h.thread.number m)
      alone = subst (λ a. Rattle.law_words_values.proofs.carried.Owned.OwnsAlone k (at_slot a m)) (sym named) (end_alone k n t s y i z w d (assigns o depth) (at_slot y.number m) ends)

      module _ (u v : Owned) (ts : List Value) (stood : slice_get h.thread.slots m ≡ Some (value.Own u)) (op : Operand h.thread v ts) where
        abbrev put_there : Hand
        put_there = with_slots (slice_set h.thread.slots m (value.Own v)) (working (label_all (store_labels None v)) (label_dropped (value.Own u) (with_temps ts h)))

        abbrev h2 : Hand
        h2 = without_slot k coherent s here t y at h st_here free m u stood alone

        ok2 : O h2
        ok2 = without_ok k coherent s here t y at h st_here free m u stood alone

        gone : slice_get h2.thread.slots m ≡ Some value.Gone
        gone = Rattle.law_words_asked.proofs.Below.law_words_paths.words.Slots.set_same h.thread.slots m (value.Own u) value.Gone stood

        firsts : Rattle.law_words_asked.specs.Below.coherent_memory.Coherent.Holds (P h2) Rattle.law_words_asked.specs.Below.coherent_memory.Coherent.first_at_holder
        firsts = (without_so k coherent s here t y at h st_here free m u stood alone).holders st_here.onward.words.first_at_holder

        root : Rattle.law_words_values.proofs.carried.Hands.RootedIn (P h2)
        root = rooted_without k coherent s here t y at h st_here free m u stood alone

        op2 : (rs : List Value) → Operand h.thread v rs → Operand h2.thread v rs
        op2 _ (on_top last) = on_top last
        op2 _ (plain own) = plain own

        abbrev over_it : Hand
        over_it = record h2 { thread = record h2.thread { temps = ts; slots = slice_set h2.thread.slots m (value.Own v) } }

        words : WordsRise k (P over_it)
        words = hold_on (filled_so k coherent s here t y at h2 ok2 free st_here.untaken firsts root m gone v ts (op2 ts op)) (hold_on (without_so k coherent s here t y at h st_here free m u stood alone) st_here.onward.words)

        over_thread : (working (give_up u) put_there).thread ≡ over_it.thread
        over_thread = ap (λ vs. record h.thread { temps = ts; slots = vs }) (sym (set_twice h.thread.slots m value.Gone (value.Own v)))

        over_rest : (working (give_up u) put_there).work.rest ≡ over_it.work.rest
        over_rest = give_same u h.work put_there.work refl

        slot_over : Gives H (replace_at (in_slot m) v (with_temps ts h))
        slot_over =
            subst (λ e. Gives H (then_some e (λ old. then_some (store_at (in_slot m) v (label_dropped old (with_temps ts h))) (drop_value no_spot old)))) (sym stood) (by (nat_lt m (length h.thread.slots)))
          where
            by : (b : Bool) → Gives H (then_some (if b then Some put_there else None) (drop_value no_spot (value.Own u)))
            by false = tt
            by true = record {
              reached = over_it;
              words = words;
              fits = filled_ok k coherent s here t y at h2 ok2 free st_here.untaken firsts root m gone v ts (op2 ts op);
              same = together_by over_it (working (give_up u) put_there) over_thread over_rest;
              untaken = st_here.untaken;
            }

      module _ (v : Owned) (ts : List Value) (gone_there : slice_get h.thread.slots m ≡ Some value.Gone) (op : Operand h.thread v ts) where
        abbrev put_here : Hand
        put_here = with_slots (slice_set h.thread.slots m (value.Own v)) (working (label_all (store_labels None v)) (label_dropped value.Gone (with_temps ts h)))

        rooted_here : Rattle.law_words_values.proofs.carried.Hands.RootedIn (P h)
        rooted_here = Rattle.law_words_writes.proofs.EndTypes.rooted_on k (P h) st_here.onward.outlines refl (Rattle.law_words_values.proofs.carried.Hands.rooted k coherent.sound)

        abbrev filled_it : Hand
        filled_it = record h { thread = record h.thread { temps = ts; slots = slice_set h.thread.slots m (value.Own v) } }

        slot_fills : Gives H (replace_at (in_slot m) v (with_temps ts h))
        slot_fills =
            subst (λ e. Gives H (then_some e (λ old. then_some (store_at (in_slot m) v (label_dropped old (with_temps ts h))) (drop_value no_spot old)))) (sym gone_there) (by (nat_lt m (length h.thread.slots)))
          where
            by : (b : Bool) → Gives H (then_some (if b then Some put_here else None) (drop_value no_spot value.Gone))
            by false = tt
            by true = record {
              reached = filled_it;
              words = hold_on (filled_so k coherent s here t y at h st_here.ok free st_here.untaken st_here.onward.words.first_at_holder rooted_here m gone_there v ts op) st_here.onward.words;
              fits = filled_ok k coherent s here t y at h st_here.ok free st_here.untaken st_here.onward.words.first_at_holder rooted_here m gone_there v ts op;
              same = together_by filled_it put_here refl refl;
              untaken = st_here.untaken;
            }

      slot_stored : (v : Owned) (ts : List Value) (old : Value) → slice_get h.thread.slots m ≡ Some old → Light old → Operand h.thread v ts → Gives H (replace_at (in_slot m) v (with_temps ts h))
      slot_stored v ts _ stood (owned_value u) op = slot_over u v ts stood op
      slot_stored v ts _ stood nothing_left op = slot_fills v ts stood op

    -- wherever it is
    stores : (sp : Spot) (l : Location) → leads w.depth ≡ Some l → At s.rest y Cells leads h.work.rest.partition w.depth sp l → Walk k coherent s here t y at h sp → (v : Owned) (ts : List Value) → Operand h.thread v ts → Gives H (replace_at sp v (with_temps ts h))
    stores _ _ ends (a_slot m) walk v ts op =
        let e = light_end k n t s y w d o z depth h (in_slot m) (at_slot y.number m) ends (a_slot m) way in
        slot_stored m walk ends v ts e.0 e.1 e.2 op
    stores _ _ ends (a_cell b q o2 c leads_it there object behind) walk v ts op = cell_stored b q c walk leads_it (ends ∙ ap (λ x. Some (in_object x)) (sym object)) v ts op

    pub puts : (sp : Spot) (l : Location) → leads w.depth ≡ Some l → At s.rest y Cells leads h.work.rest.partition w.depth sp l → Walk k coherent s here t y at h sp → Gives H (assign w w.depth o sp h)
    puts sp l ends spot walk = subst (λ m. Gives H (assign w m o sp h)) (sym depth) (operand_is o h H (replace_at sp) (λ v ts op. stores sp l ends spot walk v ts op))

  -- THE STEP

  assignment : Does k coherent few s here t y at on i code w d (assigns o depth)
  assignment = record { does_it = λ sp h. assign w w.depth o sp h; commits = λ servers sp h. refl; holds = λ h sp l ends spot way walk. puts h way sp l ends spot walk }

pub assignments_keep : AssignmentsKeep
assignments_keep k number t s y w d o coherent few here at code depth = kept_so k number t s y (instr.Assign w o) w d coherent few here at code (assigns o depth) (λ h on. assignment k coherent few s h t y at on w d o code depth)
