-- An object that comes: the pointer at which the thread waits gets a word that wasn't issued, and what the thread has passed are boxes with good words.
use Rattle.std.proofs.Common.{◌≡◌, ◌⊎◌, inl, inr, ℕ, zero, suc, ◌+◌, ◌-◌, ◌≤◌, ◌==◌, nat_le, Bool, true, false, if◌then◌else◌, List, length, Option, Some, None, refl, sym, ap, subst, ◌∙◌, arith}
use Rattle.std.specs.Prelude.{slice_get}
use Rattle.law_copies_kept.specs.Below.fr_base.Lists.{last_of}
use Rattle.law_copies_kept.specs.Below.fr_base.declared.name.ObjNo.{ObjNo}
use Rattle.law_copies_kept.specs.Below.fr_base.declared.place.Lval.{Lval}
use Rattle.law_copies_kept.specs.Below.fr_base.declared.instruction.Instr.{Instr}
use Rattle.law_copies_kept.specs.Below.fr_base.declared.instruction.Instr.TheVariants as instr
use Rattle.law_copies_kept.specs.Below.heap_partition.declared.value.Cell.{Cell}
use Rattle.law_copies_kept.specs.Below.mut_borrow.declared.mutable.MutRef.{MutRef}
use Rattle.law_copies_kept.specs.Below.owner_box.View.{PartitionState}
use Rattle.law_copies_kept.specs.Below.owner_box.Partition.{made, new_word}
use Rattle.law_copies_kept.specs.Below.thread_state.View.{ThreadState}
use Rattle.law_copies_kept.specs.Below.thread_state.declared.phase.Phase.TheVariants as phase
use Rattle.law_copies_kept.specs.Below.thread_state.declared.value.Value.{Value}
use Rattle.law_copies_kept.specs.Below.thread_state.declared.value.Value.TheVariants as value
use Rattle.law_copies_kept.specs.Below.journal.declared.act.Act.TheVariants as act
use Rattle.law_copies_kept.specs.Below.server_model.Servers.{Rest, Server, Cluster, server_at}
use Rattle.law_copies_kept.specs.Below.server_model.Work.{Work, Hand, receive, thread_in, then_some, with_phase}
use Rattle.law_copies_kept.specs.Below.server_model.NewWords.{NewWord, can_grow, issue_placed}
use Rattle.law_copies_kept.specs.Below.server_model.Places.{Spot, in_slot, on_top, value_at, set_pointer}
use Rattle.law_copies_kept.specs.Below.server_model.Prepare as steps_of
use Rattle.law_copies_kept.specs.Below.server_model.Prepare.{Access, ReadTo, ReadPointer, WriteTo, LendTo, EndRef, Prepared, ready, requested, nothing, access_of, passing, write_stars}
use Rattle.law_copies_kept.specs.Below.server_model.Objects.{waits_for_cell, chased, waits_under, arrived_at, arrived_slot, passed_spot, arrived_write, arrived_lend, arrived_end, arrived, instr_access, deliver_moved}
use Rattle.law_copies_kept.specs.Below.server_model.Events.{received}
use Rattle.law_copies_kept.specs.Below.coherent_memory.Names.{other}
use Rattle.law_copies_kept.specs.Below.coherent_memory.Things.{Location, at_slot}
use Rattle.law_copies_kept.specs.Below.coherent_memory.Follow.{Standing, Ground, cell_of, locate}
use Rattle.law_copies_kept.specs.Below.coherent_memory.Paths as paths_of
use Rattle.law_copies_kept.specs.Below.coherent_memory.Paths.{path_of, written_place}
use Rattle.law_copies_kept.specs.Below.coherent_memory.Sight.{sight}
use Rattle.law_copies_kept.specs.Below.coherent_memory.Walking.{path, hop_count, too_far}
use Rattle.law_copies_kept.proofs.Below.coherent_memory.Words.{none_at}
use Rattle.law_copies_kept.specs.Below.coherent_types.ClusterTypes.{IsCoherent}
use Rattle.law_copies_kept.specs.Below.law_counts_sums.Laws.{Gives, FewEvents}
use Rattle.law_copies_kept.proofs.Below.law_counts_sums.Each.{at_most}
use Rattle.law_copies_kept.proofs.Below.law_counts_sums.Results.{map_gives, test_gives, bind_gives, given_by}
use Rattle.law_copies_kept.specs.Below.law_words_paths.paths.HeapStore.{GoesOn, HasPaths}
use Rattle.law_copies_kept.proofs.Below.law_words_paths.paths.Alike.{coherent_has_paths}
use Rattle.law_copies_kept.proofs.Below.law_words_paths.paths.Sole.{some_is}
use Rattle.law_walks_others.proofs.Below.law_words_kept.ends.Fresh.{writing}
use Rattle.law_walks_others.proofs.Below.law_results_events.writes.Memory.{Leads, made_leads, made_longer}
use Rattle.law_walks_others.proofs.Below.law_results_events.writes.Route.{Route, begins, At, a_slot, a_cell, Fine, Writing, all_hops, rerouted}
use Rattle.law_walks_others.proofs.Below.law_results_events.writes.Routes.{road, sane_at, roomy_at}
use Rattle.law_walks_others.proofs.Below.law_results_events.writes.Written.{IsFollowed, follows, short_place, may_pass, passed_lies}
use Rattle.law_walks_others.proofs.Below.law_results_events.writes.Passed.{on}
use Rattle.law_walks_own.proofs.passed.Good.{GoodAt, GoodCell, sets_slot, sets_cell, Keeps, sets_keep, sets_any}

-- WHICH PLACE IS WRITTEN

same_place : {v w : Lval} → Some (WriteTo v) ≡ Some (WriteTo w) → v ≡ w
same_place e = cc

ending_writes : (s : Spot) (v : Option Value) (w : Lval) → steps_of.ending s v ≡ Some (WriteTo w) → ⊥
ending_writes s (Some (value.Mut r)) w e = cc e
ending_writes s None w e = cc e
ending_writes s (Some _) w e = cc e

-- an access that writes is that of a path that writes the same place
writes_place : (i : Instr) (t : ThreadState) (w : Lval) → access_of i t ≡ Some (WriteTo w) → written_place (path_of (Some i) t) ≡ Some w
writes_place (instr.Assign v o) t w e = by v.depth e
  where
    by : (d : ℕ) → steps_of.assigned v d t ≡ Some (WriteTo w) → written_place (paths_of.assigning t.slots v d) ≡ Some w
    by zero f = absurd (ending_writes (in_slot v.slot) (slice_get t.slots v.slot) w f)
    by (suc d) f = ap (λ x. Some x) (same_place f)
writes_place (instr.Read v true) t w e = by v.depth e
  where
    by : (d : ℕ) → Some (steps_of.read_or_taken v d true) ≡ Some (WriteTo w) → written_place (paths_of.taking v d) ≡ Some w
    by zero f = absurd (cc f)
    by (suc d) f = ap (λ x. Some x) (same_place f)
writes_place (instr.Read v false) t w e = absurd (by v.depth e)
  where
    by : (d : ℕ) → Some (steps_of.read_or_taken v d false) ≡ Some (WriteTo w) → ⊥
    by zero f = cc f
    by (suc d) f = cc f
writes_place instr.Discard t w e = absurd (ending_writes on_top (last_of t.temps) w e)
writes_place instr.DropSlot t w e = absurd (ending_writes (in_slot (length t.slots - 1)) (last_of t.slots) w e)
writes_place i t w e = absurd (cc e)

-- and one that ends a reference is that of a path that ends it
ending_spot : (s : Spot) (v : Option Value) (s2 : Spot) → steps_of.ending s v ≡ Some (EndRef s2) → s2 ≡ s
ending_spot s (Some (value.Mut r)) s2 e = cc
ending_spot s None s2 e = absurd (cc e)
ending_spot s (Some _) s2 e = absurd (cc e)

ended_place : (v : Option Value) (r : MutRef) → v ≡ Some (value.Mut r) → written_place (paths_of.ending v) ≡ Some r.holder
ended_place v r e = ap (λ q. written_place (paths_of.ending q)) e

ends_place : (i : Instr) (h : Hand) (s : Spot) (r : MutRef) → access_of i h.thread ≡ Some (EndRef s) → value_at h s ≡ Some (value.Mut r) → written_place (path_of (Some i) h.thread) ≡ Some r.holder
ends_place (instr.Assign v o) h s r e there = by v.depth e
  where
    by : (d : ℕ) → steps_of.assigned v d h.thread ≡ Some (EndRef s) → written_place (paths_of.assigning h.thread.slots v d) ≡ Some r.holder
    by zero f = ended_place (slice_get h.thread.slots v.slot) r (ap (value_at h) (sym (ending_spot (in_slot v.slot) (slice_get h.thread.slots v.slot) s f)) ∙ there)
    by (suc d) f = absurd (cc f)
ends_place (instr.Read v take) h s r e there = absurd (by v.depth take e)
  where
    by : (d : ℕ) (b : Bool) → Some (steps_of.read_or_taken v d b) ≡ Some (EndRef s) → ⊥
    by zero true f = cc f
    by (suc d) true f = cc f
    by zero false f = cc f
    by (suc d) false f = cc f
ends_place instr.Discard h s r e there = ended_place (last_of h.thread.temps) r (ap (value_at h) (sym (ending_spot on_top (last_of h.thread.temps) s e)) ∙ there)
ends_place instr.DropSlot h s r e there = ended_place (last_of h.thread.slots) r (ap (value_at h) (sym (ending_spot (in_slot (length h.thread.slots - 1)) (last_of h.thread.slots) s e)) ∙ there)
ends_place i h s r e there = absurd (cc e)

-- THE DELIVERY

module _ (k : Cluster) (co : IsCoherent k) (few : FewEvents k) (number i : ℕ) (s : Server) (here : server_at k.servers number ≡ Some s) (old : ℕ) (cell : Cell) (t : ℕ) (y : ThreadState) (at_it : thread_in s.threads t ≡ Some y) (waiting : y.phase ≡ phase.WaitCell old) (Good : ℕ → Type 0) (good : Good (new_word s.rest.partition)) where
  abbrev P : PartitionState
  P = s.rest.partition

  abbrev pub me : Standing
  me = record { server = s.rest.number; packed = false; thread = y }

  abbrev g : Ground
  g = (sight k).ground

  c : HasPaths k
  c = coherent_has_paths k co

  goes : GoesOn k me
  goes = on k co few number i s here old cell t y at_it waiting

  -- what is known of the pointer at which it waited, where that is passed
  abbrev pub Anew : ℕ → PartitionState → List Value → Type 0
  Anew m p vs = (m ≡ y.passed) ⊎ ((m ≡ y.passed + 1) × ((w : Lval) → written_place (path (sight k) (record { server = s.rest.number; packed = false; thread = y })) ≡ Some w → (l : Location) → locate (sight k).ground y.number w.slot y.passed ≡ Some l → GoodAt Good p vs l))

  pub record HandSo (x : Hand) : Type 0 where
    pub named : x.thread.number ≡ y.number
    pub server : x.work.rest.number ≡ s.rest.number
    pub before : (l : Location) → GoodAt Good (made s.rest.partition cell) y.slots l → GoodAt Good x.work.rest.partition x.thread.slots l
    pub anew : Anew x.thread.passed x.work.rest.partition x.thread.slots

  -- THE HOPS THAT ARE PASSED

  module _ (w : Lval) (is_written : written_place (path (sight k) (record { server = s.rest.number; packed = false; thread = y })) ≡ Some w) where
    followed : IsFollowed k c me w
    followed = follows k c me goes w (writing k me w is_written)

    short : w.depth ≤ 8
    short = short_place k c me goes co.sound.parts.holders_short w (writing k me w is_written)

    pub within : y.passed ≤ w.depth
    within =
        let far : other (nat_le y.passed (hop_count (written_place (path (sight k) me)))) ≡ 0 = none_at (too_far (sight k)) me g.threads co.sound.walks.passed_within goes.among in
        at_most y.passed w.depth (sym (ap (λ u. other (nat_le y.passed (hop_count u))) is_written) ∙ far)

    pub its_road : Route s.rest y (cell_of (sight k).ground.cells) (locate (sight k).ground y.number w.slot) y.passed
    its_road =
        road k co few number s here c y goes w is_written short followed.base followed.boxes followed.type followed.resolves followed.unmarked y.passed within
        (λ j less l v p located stands pointer. passed_lies k co.sound.words.have_words s.rest.number l v p stands pointer (may_pass k me goes co.sound.walks.have_passed w is_written j less l v located stands))

  module _ (new : ℕ) (is_new : new ≡ new_word s.rest.partition) (work : Work) (rest : work.rest ≡ record (receive s.rest i) { partition = made s.rest.partition cell }) where
    abbrev h : Hand
    h = record { work = work; thread = y }

    part : work.rest.partition ≡ made P cell
    part = ap (λ (z : Rest). z.partition) rest

    good_word : Good new
    good_word = subst Good (sym is_new) good

    -- the hand as it is but for what the thread has passed
    abbrev hm : ℕ → Hand
    hm m = record { work = work; thread = record y { passed = m } }

    at_spot : (m : ℕ) (sp : Spot) → ((h2 : Hand) → set_pointer sp new (hm m) ≡ Some h2 → Anew m h2.work.rest.partition h2.thread.slots) → Gives HandSo (arrived_at sp new (hm m))
    at_spot m sp anew = map_gives HandSo (set_pointer sp new (hm m)) (with_phase phase.Got) (λ h2 e.
        (let a = given_by (Keeps (hm m)) (set_pointer sp new (hm m)) h2 (sets_keep sp new (hm m)) e in
        record {
          named = a.named;
          server = a.server ∙ ap (λ (z : Rest). z.number) rest;
          before = λ l b. sets_any Good sp new (hm m) h2 good_word e l (subst (λ p. GoodAt Good p y.slots l) (sym part) b);
          anew = subst (λ n. Anew n h2.work.rest.partition h2.thread.slots) (sym a.passed) (anew h2 e);
        }))

    slot_so : (j : ℕ) → Gives HandSo (arrived_slot old new j h)
    slot_so j = test_gives HandSo (waits_under old (slice_get y.slots j)) _ (λ z. at_spot y.passed (in_slot j) (λ h2 e. inl refl))

    -- nothing is put
    taken_so : (v : ℕ) → HandSo (with_phase (phase.Taken v) h)
    taken_so v = record { named = refl; server = ap (λ (z : Rest). z.number) rest; before = λ l b. subst (λ p. GoodAt Good p y.slots l) (sym part) b; anew = inl refl }

    lend_so : (slot d : ℕ) → Gives HandSo (arrived_lend slot d old new h)
    lend_so slot zero = tt
    lend_so slot (suc zero) = taken_so new
    lend_so slot (suc (suc d)) = by (waits_under old (slice_get y.slots (chased d y.slots slot)))
      where
        by : (b : Bool) → Gives HandSo (if b then arrived_at (in_slot (chased d y.slots slot)) new h else Some (with_phase (phase.Taken new) h))
        by true = at_spot y.passed (in_slot (chased d y.slots slot)) (λ h2 e. inl refl)
        by false = taken_so new

    -- A WRITE

    module _ (w : Lval) (is_written : written_place (path (sight k) me) ≡ Some w) where
      abbrev C : ObjNo → Option Cell
      C = cell_of g.cells

      abbrev at : ℕ → Option Location
      at = locate g y.number w.slot

      abbrev r3 : Rest
      r3 = record (receive s.rest i) { partition = made P cell }

      again : Route r3 y C at y.passed
      again =
          rerouted s.rest y C at y.passed (its_road w is_written) r3 refl y.slots y.temps (λ m j less located. refl) (λ j v d le located l. made_leads P cell (sane_at k co few number s here) v d l) (λ less. absurd (omega (arith, less)))
          (let b = roomy_at k co few number s here in let e = made_longer P cell in omega (arith, b, e, within w is_written, short w is_written))

      fine : Fine r3 y C at ⊥ y.passed (write_stars y.passed 0 h (in_slot w.slot))
      fine = all_hops r3 y C at ⊥ y.passed again (λ j less le. absurd (omega (arith, less, le))) y.passed 0 (omega arith) h (in_slot w.slot) (at_slot y.number w.slot) refl (a_slot w.slot) (begins r3 y C at h rest refl)

      -- the pointer at the spot is that at the next hop
      next_so : (h3 : Hand) (sp : Spot) (l : Location) → at y.passed ≡ Some l → At r3 y C at h3.work.rest.partition y.passed sp l → Writing r3 y C at y.passed h3 → (h2 : Hand) → set_pointer sp new (hm (y.passed + 1)) ≡ Some h2 → Anew (y.passed + 1) h2.work.rest.partition h2.thread.slots
      next_so h3 sp l located spot a h2 e = inr (refl, λ v is m f. as_it v (place_is (sym is ∙ is_written)) m f)
        where
          place_is : {a b : Lval} → Some a ≡ Some b → a ≡ b
          place_is q = cc

          there : (sp : Spot) (l : Location) → At r3 y C at h3.work.rest.partition y.passed sp l → set_pointer sp new (hm (y.passed + 1)) ≡ Some h2 → GoodAt Good h2.work.rest.partition h2.thread.slots l
          there _ _ (a_slot m) q = let b = sets_slot Good m new (hm (y.passed + 1)) h2 good_word q in b.here
          there _ _ (a_cell u z o d leads there_it object behind) q =
              let on_it : Leads work.rest.partition u d = subst (λ p. Leads p u d) (a.unmoved (omega arith) ∙ sym part) leads in
              let b = sets_cell Good u z new d (hm (y.passed + 1)) h2 on_it good_word q in
              subst (GoodCell Good h2.work.rest.partition) object b.here

          as_it : (v : Lval) → v ≡ w → (m : Location) → locate g y.number v.slot y.passed ≡ Some m → GoodAt Good h2.work.rest.partition h2.thread.slots m
          as_it v same m f = subst (GoodAt Good h2.work.rest.partition h2.thread.slots) (some_is (sym located ∙ ap (λ (z : Lval). locate g y.number z.slot y.passed) (sym same) ∙ f)) (there sp l spot e)

      write_so : Gives HandSo (arrived_write w new h)
      write_so = by (write_stars y.passed 0 h (in_slot w.slot)) fine
        where
          by : (p : Prepared) → Fine r3 y C at ⊥ y.passed p → Gives HandSo (then_some (passed_spot p) (λ z. arrived_at z new (passing (y.passed + 1) h)))
          by (ready h3 sp) f = at_spot (y.passed + 1) sp (λ h2 e. next_so h3 sp f.0 f.1 f.2 f.3 h2 e)
          by (requested h3) f = absurd f
          by nothing f = absurd f

    -- WHATEVER IT WAITS WITH

    end_so : (j : Instr) → slice_get k.code y.pc ≡ Some j → (sp : Spot) → access_of j y ≡ Some (EndRef sp) → (v : Option Value) → value_at h sp ≡ v → Gives HandSo (arrived_end sp v old new h)
    end_so j code sp e (Some (value.Mut r)) stands = by (r.word == old)
      where
        by : (b : Bool) → Gives HandSo (if b then arrived_at sp new h else arrived_write r.holder new h)
        by true = at_spot y.passed sp (λ h2 q. inl refl)
        by false = write_so r.holder (ap (λ z. written_place (path_of z y)) code ∙ ends_place j h sp r e stands)
    end_so j code sp e None stands = tt
    end_so j code sp e (Some value.Gone) stands = tt
    end_so j code sp e (Some (value.Own u)) stands = tt
    end_so j code sp e (Some (value.SharedSlot u)) stands = tt
    end_so j code sp e (Some (value.MutSlot u)) stands = tt
    end_so j code sp e (Some (value.Shared u)) stands = tt
    end_so j code sp e (Some (value.Held u)) stands = tt

    access_so : (o : Option Instr) → slice_get k.code y.pc ≡ o → Gives HandSo (arrived (instr_access h o) old new h)
    access_so None code = tt
    access_so (Some j) code = by (access_of j y) refl
      where
        by : (q : Option Access) → access_of j y ≡ q → Gives HandSo (arrived q old new h)
        by None e = tt
        by (Some (ReadTo w)) e = slot_so (chased (w.depth - 1) y.slots w.slot)
        by (Some (ReadPointer w)) e = slot_so (chased (w.depth - 1) y.slots w.slot)
        by (Some (LendTo w)) e = lend_so w.slot w.depth
        by (Some (EndRef sp)) e = end_so j code sp e (value_at h sp) refl
        by (Some (WriteTo w)) e = write_so w (ap (λ z. written_place (path_of z y)) code ∙ writes_place j y w e)

  pub moved_so : Gives HandSo (deliver_moved k.code old cell (record { work = (received i s).work; thread = y }))
  moved_so =
      test_gives HandSo (waits_for_cell y.phase old) _ (λ z.
      bind_gives (λ (m : NewWord). (m.word ≡ new_word P) × (m.work.rest ≡ record (receive s.rest i) { partition = made P cell })) HandSo (issue_placed (act.Take cell.object old) cell (received i s).work) _
      (test_gives (λ (m : NewWord). (m.word ≡ new_word P) × (m.work.rest ≡ record (receive s.rest i) { partition = made P cell })) (can_grow P) _ (λ p. (refl, refl)))
      (λ m e. access_so m.word e.0 m.work e.1 (slice_get k.code y.pc) refl))
