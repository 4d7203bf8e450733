-- An object lands: of its server the partition alone is another, and there at most one box gets another word, one to that object.
use Rattle.std.proofs.Common.{inl, inr, ◌⊎◌, ◌≡◌, ◌≤◌, ℕ, zero, suc, ◌+◌, ◌-◌, ◌==◌, nat_lt, Bool, true, false, if◌then◌else◌, List, length, Option, Some, None, option_map, refl, sym, ap, subst, ◌∙◌, arith}
use Rattle.std.specs.Prelude.{slice_get, remove}
use Rattle.law_counts_waiting.specs.Below.fr_base.Lists.{last_of}
use Rattle.law_counts_waiting.specs.Below.fr_base.declared.name.ObjNo.{ObjNo}
use Rattle.law_counts_waiting.specs.Below.fr_base.declared.place.Lval.{Lval}
use Rattle.law_counts_waiting.specs.Below.fr_base.declared.instruction.Instr.{Instr}
use Rattle.law_counts_waiting.specs.Below.fr_base.declared.instruction.Instr.TheVariants as instr
use Rattle.law_counts_waiting.specs.Below.heap_partition.declared.value.BoxPtr.{BoxPtr}
use Rattle.law_counts_waiting.specs.Below.heap_partition.declared.value.Cell.{Cell}
use Rattle.law_counts_waiting.specs.Below.heap_partition.declared.value.Owned.{Owned}
use Rattle.law_counts_waiting.specs.Below.heap_partition.declared.value.Owned.TheVariants as owned
use Rattle.law_counts_waiting.specs.Below.mut_borrow.declared.mutable.MutRef.{MutRef}
use Rattle.law_counts_waiting.specs.Below.owner_box.View.{PartitionState}
use Rattle.law_counts_waiting.specs.Below.owner_box.Partition.{made, stored}
use Rattle.law_counts_waiting.specs.Below.thread_state.View.{ThreadState}
use Rattle.law_counts_waiting.specs.Below.thread_state.declared.phase.Phase.{Phase}
use Rattle.law_counts_waiting.specs.Below.thread_state.declared.phase.Phase.TheVariants as phase
use Rattle.law_counts_waiting.specs.Below.thread_state.declared.value.Value.{Value}
use Rattle.law_counts_waiting.specs.Below.thread_state.declared.value.Value.TheVariants as value
use Rattle.law_counts_waiting.specs.Below.journal.declared.act.Act.TheVariants as act
use Rattle.law_counts_waiting.specs.Below.server_model.Servers.{Rest, Server, Cluster, server_at}
use Rattle.law_counts_waiting.specs.Below.server_model.Work.{Work, Hand, front_of, leads_here, look, receive, thread_in, then_some, with_partition, with_phase, with_slots}
use Rattle.law_counts_waiting.specs.Below.server_model.NewWords.{NewWord, can_grow, issue_placed}
use Rattle.law_counts_waiting.specs.Below.server_model.Places.{Spot, in_slot, on_top, in_cell, in_copy, nowhere, value_at, value_in as cell_value, note_slot, note_write, put_at, set_pointer, with_word}
use Rattle.law_counts_waiting.specs.Below.server_model.Prepare as steps_of
use Rattle.law_counts_waiting.specs.Below.server_model.Prepare.{Access, ReadTo, ReadPointer, WriteTo, LendTo, EndRef, Prepared, ready, requested, nothing, access_of, passing, write_stars}
use Rattle.law_counts_waiting.specs.Below.server_model.Objects.{waits_for_cell, chased, waits_under, arrived_at, arrived_slot, passed_spot, arrived_write, arrived_lend, arrived_end, arrived, instr_access, deliver_moved}
use Rattle.law_counts_waiting.specs.Below.server_model.Events.{received}
use Rattle.law_counts_waiting.specs.Below.coherent_memory.Names.{Among}
use Rattle.law_counts_waiting.specs.Below.coherent_memory.Things.{Location, at_slot, in_cell as in_object}
use Rattle.law_counts_waiting.specs.Below.coherent_memory.Follow.{Standing, Ground, cell_of, value_in, value_of, value_behind, locate, hop_at}
use Rattle.law_counts_waiting.specs.Below.coherent_memory.Paths as paths_of
use Rattle.law_counts_waiting.specs.Below.coherent_memory.Paths.{Path, lends, writes, ends, path_of, Awaited, to_write, written_place}
use Rattle.law_counts_waiting.specs.Below.coherent_memory.Sight.{sight}
use Rattle.law_counts_waiting.specs.Below.coherent_memory.Turn.{InTurn, by_write, by_end, by_holder, NextHop}
use Rattle.law_counts_waiting.specs.Below.coherent_memory.Walking.{path, waits_for_lent}
use Rattle.law_counts_waiting.proofs.Below.coherent_memory.Passing.{paths_law}
use Rattle.law_counts_waiting.specs.Below.coherent_types.ClusterTypes.{IsCoherent}
use Rattle.law_counts_waiting.specs.Below.law_counts_sums.Laws.{Gives, FewEvents}
use Rattle.law_counts_waiting.proofs.Below.law_counts_sums.Results.{then_gives, over_gives, test_gives, bind_gives}
use Rattle.law_counts_waiting.specs.Below.law_words_paths.paths.HeapStore.{GoesOn, HasPaths}
use Rattle.law_counts_waiting.proofs.Below.law_words_paths.paths.Alike.{coherent_has_paths}
use Rattle.law_counts_waiting.proofs.Below.law_words_paths.paths.Sole.{some_is}
use Rattle.law_counts_waiting.proofs.Below.law_words_kept.ends.Fresh.{writing}
use Rattle.law_counts_waiting.specs.Below.law_words_asked.arrivals.Awaited.{Awaits}
use Rattle.law_counts_waiting.proofs.Below.law_words_asked.arrivals.Awaited.{arrivals_awaited}
use Rattle.law_counts_waiting.proofs.Below.law_results_events.writes.Memory.{Leads, looks, made_leads, made_longer}
use Rattle.law_counts_waiting.proofs.Below.law_results_events.writes.Route.{Route, begins, At, a_slot, a_cell, Fine, Writing, all_hops, rerouted}
use Rattle.law_counts_waiting.proofs.Below.law_results_events.writes.Routes.{road, sane_at, roomy_at}
use Rattle.law_counts_waiting.proofs.Below.law_results_events.writes.Written.{IsFollowed, follows, short_place, may_pass, passed_lies}
use Rattle.law_counts_waiting.proofs.Below.law_results_events.writes.Passed.{on}
use Rattle.law_counts_waiting.proofs.Below.law_counts_sums.Objects.{length_set}
use Rattle.law_walks_others.proofs.still.Filled.{waits_cell}
use Rattle.law_walks_others.proofs.arrivals.Unworded.{unworded, word_unseen, set_unseen, note_unseen, last_pushed, LeadsAlike}
use Rattle.law_walks_others.proofs.arrivals.Lent.{Pulls, Chases, lent_turn}

-- WHICH PATH AN ACCESS HAS

same_place : {v w : Lval} → WriteTo v ≡ WriteTo w → v ≡ w
same_place e = cc

same_access : {a b : Access} → Some a ≡ Some b → a ≡ b
same_access e = cc

same_spot : {a b : Spot} → EndRef a ≡ EndRef b → a ≡ b
same_spot e = cc

ending_writes : (s : Spot) (v : Option Value) (w : Lval) → steps_of.ending s v ≡ Some (WriteTo w) → ⊥
ending_writes s (Some (value.Mut r)) w e = cc e
ending_writes s None w e = cc e
ending_writes s (Some _) w e = cc e

assigned_writes : (v w : Lval) (d : ℕ) (t : ThreadState) → steps_of.assigned v d t ≡ Some (WriteTo w) → paths_of.assigning t.slots v d ≡ writes w
assigned_writes v w zero t e = absurd (ending_writes (in_slot v.slot) (slice_get t.slots v.slot) w e)
assigned_writes v w (suc d) t e = ap writes (same_place (same_access e))

taken_writes : (v w : Lval) (d : ℕ) (take : Bool) (t : ThreadState) → Some (steps_of.read_or_taken v d take) ≡ Some (WriteTo w) → path_of (Some (instr.Read v take)) t ≡ path_of (Some (instr.Read v take)) t → (take ≡ true) × (paths_of.taking v d ≡ writes w)
taken_writes v w zero true t e q = absurd (cc e)
taken_writes v w (suc d) true t e q = (refl, ap writes (same_place (same_access e)))
taken_writes v w zero false t e q = absurd (cc e)
taken_writes v w (suc d) false t e q = absurd (cc e)

-- an access that writes is that of a path that writes the same place
writes_path : (i : Instr) (t : ThreadState) (w : Lval) → access_of i t ≡ Some (WriteTo w) → path_of (Some i) t ≡ writes w
writes_path (instr.Assign v o) t w e = assigned_writes v w v.depth t e
writes_path (instr.Read v true) t w e = (taken_writes v w v.depth true t e refl).1
writes_path (instr.Read v false) t w e = let no : false ≡ true = (taken_writes v w v.depth false t e refl).0 in absurd (cc no)
writes_path instr.Discard t w e = absurd (ending_writes on_top (last_of t.temps) w e)
writes_path instr.DropSlot t w e = absurd (ending_writes (in_slot (length t.slots - 1)) (last_of t.slots) w e)
writes_path i t w e = absurd (cc e)

-- one that lends is that of a path that lends it
lends_path : (i : Instr) (t : ThreadState) (w : Lval) → access_of i t ≡ Some (LendTo w) → path_of (Some i) t ≡ lends w
lends_path (instr.BorrowMut v) t w e = ap lends (same_lent (same_access e))
  where
    same_lent : {a b : Lval} → LendTo a ≡ LendTo b → a ≡ b
    same_lent f = cc
lends_path (instr.Assign v o) t w e = absurd (by v.depth e)
  where
    none : (s : Spot) (u : Option Value) → steps_of.ending s u ≡ Some (LendTo w) → ⊥
    none s (Some (value.Mut r)) f = cc f
    none s None f = cc f
    none s (Some _) f = cc f

    by : (d : ℕ) → steps_of.assigned v d t ≡ Some (LendTo w) → ⊥
    by zero f = none (in_slot v.slot) (slice_get t.slots v.slot) f
    by (suc d) f = cc f
lends_path (instr.Read v take) t w e = absurd (by v.depth take e)
  where
    by : (d : ℕ) (b : Bool) → Some (steps_of.read_or_taken v d b) ≡ Some (LendTo w) → ⊥
    by zero true f = cc f
    by (suc d) true f = cc f
    by zero false f = cc f
    by (suc d) false f = cc f
lends_path instr.Discard t w e = absurd (by (last_of t.temps) e)
  where
    by : (u : Option Value) → steps_of.ending on_top u ≡ Some (LendTo w) → ⊥
    by (Some (value.Mut r)) f = cc f
    by None f = cc f
    by (Some _) f = cc f
lends_path instr.DropSlot t w e = absurd (by (last_of t.slots) e)
  where
    by : (u : Option Value) → steps_of.ending (in_slot (length t.slots - 1)) u ≡ Some (LendTo w) → ⊥
    by (Some (value.Mut r)) f = cc f
    by None f = cc f
    by (Some _) f = cc f
lends_path i t w e = absurd (cc e)

-- a spot of the thread's own
pub data IsOwn : Spot → Type 0 where
  a_slot_of : (j : ℕ) → IsOwn (in_slot j)
  its_top : IsOwn on_top

-- at which stands what the path ends
abbrev EndsPath : ThreadState → Path → Spot → Type 0
EndsPath t p s = IsOwn s × ((h : Hand) (r : MutRef) → h.thread ≡ t → value_at h s ≡ Some (value.Mut r) → p ≡ ends r)

ending_so : (s : Spot) (v : Option Value) (s2 : Spot) → steps_of.ending s v ≡ Some (EndRef s2) → (s ≡ s2) × ((r : MutRef) → v ≡ Some (value.Mut r) → paths_of.ending v ≡ ends r)
ending_so s (Some (value.Mut r)) s2 e = (same_spot (same_access e), λ q f. ap paths_of.ending f)
ending_so s None s2 e = absurd (cc e)
ending_so s (Some _) s2 e = absurd (cc e)

slot_ends : (t : ThreadState) (j : ℕ) (v : Option Value) → slice_get t.slots j ≡ v → (s : Spot) → steps_of.ending (in_slot j) v ≡ Some (EndRef s) → EndsPath t (paths_of.ending v) s
slot_ends t j v is s e =
    let a = ending_so (in_slot j) v s e in
    subst (EndsPath t (paths_of.ending v)) a.0 (a_slot_of j, λ h r same stands. a.1 r (sym is ∙ ap (λ (z : ThreadState). slice_get z.slots j) (sym same) ∙ stands))

top_ends : (t : ThreadState) (s : Spot) → steps_of.ending on_top (last_of t.temps) ≡ Some (EndRef s) → EndsPath t (paths_of.ending (last_of t.temps)) s
top_ends t s e =
    let a = ending_so on_top (last_of t.temps) s e in
    subst (EndsPath t (paths_of.ending (last_of t.temps))) a.0 (its_top, λ h r same stands. a.1 r (ap (λ (z : ThreadState). last_of z.temps) (sym same) ∙ stands))

assigned_ends : (v : Lval) (d : ℕ) (t : ThreadState) (s : Spot) → steps_of.assigned v d t ≡ Some (EndRef s) → EndsPath t (paths_of.assigning t.slots v d) s
assigned_ends v zero t s e = slot_ends t v.slot (slice_get t.slots v.slot) refl s e
assigned_ends v (suc d) t s e = absurd (cc e)

taken_ends : (v : Lval) (d : ℕ) (take : Bool) (s : Spot) → Some (steps_of.read_or_taken v d take) ≡ Some (EndRef s) → ⊥
taken_ends v zero true s e = cc e
taken_ends v (suc d) true s e = cc e
taken_ends v zero false s e = cc e
taken_ends v (suc d) false s e = cc e

ends_path : (i : Instr) (t : ThreadState) (s : Spot) → access_of i t ≡ Some (EndRef s) → EndsPath t (path_of (Some i) t) s
ends_path (instr.Assign v o) t s e = assigned_ends v v.depth t s e
ends_path (instr.Read v take) t s e = absurd (taken_ends v v.depth take s e)
ends_path instr.Discard t s e = top_ends t s e
ends_path instr.DropSlot t s e = slot_ends t (length t.slots - 1) (last_of t.slots) refl s e
ends_path i t s e = absurd (cc e)

-- WHAT A WRITE WAITS FOR

writes_same : {v w : Lval} → writes v ≡ writes w → v ≡ w
writes_same e = cc

ends_same : {q r : MutRef} → ends q ≡ ends r → q ≡ r
ends_same e = cc

write_next : (k : Cluster) (z : Standing) (old : ℕ) (a : Awaited) (w : Lval) (p : Path) → p ≡ writes w → InTurn (sight k) z old a p → NextHop (sight k) z w a
write_next k z old a w _ e (by_write v next) = subst (λ q. NextHop (sight k) z q a) (writes_same e) next
write_next k z old a w _ e _ = absurd (cc e)

holder_next : (k : Cluster) (z : Standing) (old : ℕ) (a : Awaited) (r : MutRef) (p : Path) → p ≡ ends r → (r.word ≡ old → ⊥) → InTurn (sight k) z old a p → NextHop (sight k) z r.holder a
holder_next k z old a r _ e ne (by_holder q other next) = subst (λ (m : MutRef). NextHop (sight k) z m.holder a) (ends_same e) next
holder_next k z old a r _ e ne (by_end q same m) = absurd (ne (ap (λ (m : MutRef). m.word) (sym (ends_same e)) ∙ same))
holder_next k z old a r _ e ne _ = absurd (cc e)

-- a box or a mutable reference to the object
pub data PointsTo (o : ObjNo) : Value → Type 0 where
  by_box : (b : BoxPtr) → b.object ≡ o → PointsTo o (value.Own (owned.Box b))
  by_reference : (r : MutRef) → r.object ≡ o → PointsTo o (value.Mut r)

points : (v : Value) (a : Awaited) → Among a (to_write (Some v)) → PointsTo a.object v
points (value.Own (owned.Box b)) a (inl e) = by_box b (ap (λ (z : Awaited). z.object) e)
points (value.Own (owned.Box b)) a (inr h) = absurd h
points (value.Mut r) a (inl e) = by_reference r (ap (λ (z : Awaited). z.object) e)
points (value.Mut r) a (inr h) = absurd h
points (value.Own owned.Nothing) a h = absurd h
points (value.Own owned.Unit) a h = absurd h
points (value.Own (owned.Int i)) a h = absurd h
points (value.Own (owned.Mutex m)) a h = absurd h
points (value.Own (owned.Task t)) a h = absurd h
points value.Gone a h = absurd h
points (value.SharedSlot i) a h = absurd h
points (value.MutSlot i) a h = absurd h
points (value.Shared r) a h = absurd h
points (value.Held m) a h = absurd h

-- the slots where a write is noted are as many
noted_size : (vs : List Value) (i : ℕ) (o : Option Value) → length (note_slot vs i o) ≡ length vs
noted_size vs i None = refl
noted_size vs i (Some v) = length_set vs i (Rattle.law_counts_waiting.specs.Below.server_model.Places.written v)

-- a box that is waited for is one to that object
boxed : (u : Owned) (a : Awaited) (q : Owned) → Among a (to_write (Some (value.Own u))) → (b : BoxPtr) → u ≡ owned.Box b → b.object ≡ a.object
boxed u a q m b e = by (subst (λ z. Among a (to_write (Some (value.Own z)))) e m)
  where
    by : Among a (to_write (Some (value.Own (owned.Box b)))) → b.object ≡ a.object
    by (inl f) = ap (λ (z : Awaited). z.object) f
    by (inr f) = absurd f

-- THE DELIVERY

module _ (k : Cluster) (co : IsCoherent k) (few : FewEvents k) (number i : ℕ) (s : Server) (here : server_at k.servers number ≡ Some s) (old : ℕ) (cell : Cell) (t : ℕ) (y : ThreadState) (at_it : thread_in s.threads t ≡ Some y) where
  abbrev n : ℕ
  n = s.rest.number

  abbrev P : PartitionState
  P = s.rest.partition

  -- the partition has the object, and at most one box to it got another word
  pub data Put : PartitionState → Type 0 where
    as_made : Put (made P cell)
    reworded : (w new : ℕ) (d : Cell) (b : BoxPtr) → look (made P cell) w ≡ Some d → d.value ≡ owned.Box b → b.object ≡ cell.object → Put (stored (made P cell) w (owned.Box (record b { word = new })))

  abbrev its : Standing
  its = record { server = s.rest.number; packed = false; thread = y }

  -- how many hops it has passed then: as many as before, or that of the pointer to the object more
  pub data Passes (m : ℕ) : Type 0 where
    as_before : m ≡ y.passed → Passes m
    one_more : m ≡ y.passed + 1 → (w : Lval) → written_place (path (sight k) its) ≡ Some w → (v : Value) → hop_at (sight k).ground y.number w y.passed ≡ Some v → PointsTo cell.object v → Passes m

  -- it has got what it waited for, or has taken it
  pub data Goes (th : ThreadState) : Type 0 where
    has_got : th.phase ≡ phase.Got → Passes th.passed → Goes th
    has_taken : (v : ℕ) → th ≡ record y { phase = phase.Taken v } → waits_for_lent (sight k) its (path (sight k) its) old ≡ true → Goes th

  -- what is left of the thread
  pub record ThreadSo (th : ThreadState) : Type 0 where
    pub named : th.number ≡ y.number
    pub awake : waits_cell th.phase ≡ false
    pub gift : th.gift ≡ y.gift
    pub pc : th.pc ≡ y.pc
    pub alike : LeadsAlike th y
    pub goes : Goes th

  -- what is left of the server, and of the thread
  pub record Landed (h : Hand) : Type 0 where
    pub server : h.work.rest.number ≡ n
    pub inbox : h.work.rest.inbox ≡ remove s.rest.inbox i
    pub outbox : h.work.rest.outbox ≡ s.rest.outbox
    pub named : h.thread.number ≡ y.number
    pub waited : waits_cell y.phase ≡ true
    pub awake : waits_cell h.thread.phase ≡ false
    pub partition : Put h.work.rest.partition
    pub thread : ThreadSo h.thread
    pub untouched : (v : ℕ) → h.thread.phase ≡ phase.Taken v → h.work.rest.partition ≡ made P cell

  module _ (waiting : y.phase ≡ phase.WaitCell old) (message_there : slice_get s.rest.inbox i ≡ Some (Rattle.law_counts_waiting.specs.Below.server_msgs.declared.message.Message.TheVariants.Moved old cell t)) (new : ℕ) (work : Work) (rest : work.rest ≡ record (receive s.rest i) { partition = made P cell }) where
    abbrev me : Standing
    me = record { server = s.rest.number; packed = false; thread = y }

    abbrev g : Ground
    g = (sight k).ground

    c : HasPaths k
    c = coherent_has_paths k co

    goes : GoesOn k me
    goes = on k co few number i s here old cell t y at_it waiting

    awaits : Awaits k me old cell
    awaits = arrivals_awaited k number i old t s cell y co.sound here message_there at_it waiting

    abbrev h : Hand
    h = record { work = work; thread = y }

    part : work.rest.partition ≡ made P cell
    part = ap (λ (z : Rest). z.partition) rest

    -- something is put elsewhere than in a cell
    pub lands : (th : ThreadState) → ThreadSo th → (x2 : Work) → x2.rest ≡ work.rest → Landed (record { work = x2; thread = th })
    lands th so x2 same = record {
      server = ap (λ (z : Rest). z.number) (same ∙ rest);
      inbox = ap (λ (z : Rest). z.inbox) (same ∙ rest);
      outbox = ap (λ (z : Rest). z.outbox) (same ∙ rest);
      named = so.named;
      waited = ap waits_cell waiting;
      awake = so.awake;
      partition = subst Put (sym (ap (λ (z : Rest). z.partition) same ∙ part)) as_made;
      thread = so;
      untouched = λ v e. ap (λ (z : Rest). z.partition) same ∙ part;
    }

    -- the hand as it is but for what the thread has passed
    module _ (m : ℕ) (pm : Passes m) where
      abbrev hm : Hand
      hm = record { work = work; thread = record y { passed = m } }

      -- what is put
      abbrev Puts : Hand → Type 0
      Puts h2 = (h2.work ≡ work) × ThreadSo (record h2.thread { phase = phase.Got })

      in_slots : (j : ℕ) → Gives Landed (arrived_at (in_slot j) new hm)
      in_slots j =
          over_gives Puts Landed (set_pointer (in_slot j) new hm) _
          (then_gives Puts (value_at hm (in_slot j)) _ (λ v q. then_gives Puts (with_word new v) _ (λ u e. test_gives Puts (nat_lt j (length y.slots)) _ (λ z. (
            refl,
            record {
              named = refl;
              awake = refl;
              gift = refl;
              pc = refl;
              alike = record { slots = λ i2. set_unseen y.slots j i2 v u q (word_unseen new v u e); size = length_set y.slots j u; top = refl };
              goes = has_got refl pm;
            },
          )))))
          (λ h2 a. lands (record h2.thread { phase = phase.Got }) a.1 h2.work (ap (λ (z : Work). z.rest) a.0))

      on_its_top : Gives Landed (arrived_at on_top new hm)
      on_its_top =
          over_gives Puts Landed (set_pointer on_top new hm) _
          (then_gives Puts (value_at hm on_top) _ (λ v q. then_gives Puts (with_word new v) _ (λ u e. (
            refl,
            record {
              named = refl;
              awake = refl;
              gift = refl;
              pc = refl;
              alike = record { slots = λ i2. refl; size = refl; top = ap unworded (last_pushed (front_of y.temps) u) ∙ word_unseen new v u e ∙ ap unworded (sym q) };
              goes = has_got refl pm;
            },
          ))))
          (λ h2 a. lands (record h2.thread { phase = phase.Got }) a.1 h2.work (ap (λ (z : Work). z.rest) a.0))

      own_spot : (sp : Spot) → IsOwn sp → Gives Landed (arrived_at sp new hm)
      own_spot _ (a_slot_of j) = in_slots j
      own_spot _ its_top = on_its_top

      -- a box in a cell to the object
      in_cells : (w : ℕ) (q : Option ℕ) (d : Cell) → look (made P cell) w ≡ Some d → ((b : BoxPtr) → d.value ≡ owned.Box b → b.object ≡ cell.object) → Gives Landed (arrived_at (in_cell w q) new hm)
      in_cells w q d there to_it = by (look work.rest.partition w) refl
        where
          puts : (z : Option ℕ) (b : BoxPtr) → d.value ≡ owned.Box b → (w2 : Work) → w2.rest ≡ record work.rest { partition = stored work.rest.partition w (owned.Box (record b { word = new })) } → Landed (with_phase phase.Got (note_write z (record { work = w2; thread = record y { passed = m } })))
          puts z b is w2 same = record {
            server = noted z (λ x2. x2.work.rest.number) (λ v. refl) ∙ ap (λ (x2 : Rest). x2.number) same ∙ ap (λ (x2 : Rest). x2.number) rest;
            inbox = noted z (λ x2. x2.work.rest.inbox) (λ v. refl) ∙ ap (λ (x2 : Rest). x2.inbox) same ∙ ap (λ (x2 : Rest). x2.inbox) rest;
            outbox = noted z (λ x2. x2.work.rest.outbox) (λ v. refl) ∙ ap (λ (x2 : Rest). x2.outbox) same ∙ ap (λ (x2 : Rest). x2.outbox) rest;
            named = noted z (λ x2. x2.thread.number) (λ v. refl);
            waited = ap waits_cell waiting;
            awake = refl;
            partition = subst Put (sym (noted z (λ x2. x2.work.rest.partition) (λ v. refl) ∙ ap (λ (x2 : Rest). x2.partition) same ∙ ap (λ (p : PartitionState). stored p w (owned.Box (record b { word = new }))) part)) (reworded w new d b there is (to_it b is));
            thread = record {
              named = noted z (λ x2. x2.thread.number) (λ v. refl);
              awake = refl;
              gift = noted z (λ x2. x2.thread.gift) (λ v. refl);
              pc = noted z (λ x2. x2.thread.pc) (λ v. refl);
              alike = record { slots = λ i2. slots_noted z i2; size = size_noted z; top = noted z (λ x2. unworded (last_of x2.thread.temps)) (λ v. refl) };
              goes = has_got refl (subst Passes (sym (noted z (λ x2. x2.thread.passed) (λ v. refl))) pm);
            };
            untouched = λ v e. absurd (cc e);
          }
            where
              noted : {A : Type 0} (z : Option ℕ) (f : Hand → A) → ((vs : List Value) → f (with_slots vs (record { work = w2; thread = record y { passed = m } })) ≡ f (record { work = w2; thread = record y { passed = m } })) → f (note_write z (record { work = w2; thread = record y { passed = m } })) ≡ f (record { work = w2; thread = record y { passed = m } })
              noted None f e = refl
              noted (Some j) f e = e (note_slot y.slots j (slice_get y.slots j))

              slots_noted : (z : Option ℕ) (i2 : ℕ) → unworded (slice_get (note_write z (record { work = w2; thread = record y { passed = m } })).thread.slots i2) ≡ unworded (slice_get y.slots i2)
              slots_noted None i2 = refl
              slots_noted (Some j) i2 = note_unseen y.slots j i2 (slice_get y.slots j) refl

              size_noted : (z : Option ℕ) → length (note_write z (record { work = w2; thread = record y { passed = m } })).thread.slots ≡ length y.slots
              size_noted None = refl
              size_noted (Some j) = noted_size y.slots j (slice_get y.slots j)

          worded : (u : Owned) → d.value ≡ u → Gives Landed (option_map (with_phase phase.Got) (then_some (with_word new (value.Own u)) (λ v. put_at (in_cell w q) v hm)))
          worded (owned.Box b) is = over_gives (λ (h2 : Hand). Landed (with_phase phase.Got h2)) Landed (put_at (in_cell w q) (value.Own (owned.Box (record b { word = new }))) hm) _ (test_gives (λ (h2 : Hand). Landed (with_phase phase.Got h2)) (leads_here work.rest.partition w) _ (λ z. puts q b is (with_partition (stored work.rest.partition w (owned.Box (record b { word = new }))) work) refl)) (λ h2 a. a)
          worded owned.Nothing is = tt
          worded owned.Unit is = tt
          worded (owned.Int x2) is = tt
          worded (owned.Mutex x2) is = tt
          worded (owned.Task x2) is = tt

          by : (z : Option Cell) → look work.rest.partition w ≡ z → Gives Landed (option_map (with_phase phase.Got) (then_some (cell_value z) (λ v. then_some (with_word new v) (λ u. put_at (in_cell w q) u hm))))
          by None e = tt
          by (Some d2) e =
              let same : d ≡ d2 = some_is (sym there ∙ ap (λ p. look p w) (sym part) ∙ e) in
              subst (λ (z : Cell). Gives Landed (option_map (with_phase phase.Got) (then_some (with_word new (value.Own z.value)) (λ u. put_at (in_cell w q) u hm)))) same (worded d.value refl)

    -- A WRITE

    module _ (w : Lval) (is_written : written_place (path (sight k) me) ≡ Some w) (a : Awaited) (next : NextHop (sight k) me w a) (same_object : a.object ≡ cell.object) where
      abbrev C : ObjNo → Option Cell
      C = cell_of g.cells

      abbrev at : ℕ → Option Location
      at = locate g y.number w.slot

      abbrev r3 : Rest
      r3 = record (receive s.rest i) { partition = made P cell }

      followed : IsFollowed k c me w
      followed = follows k c me goes w (writing k me w is_written)

      short : w.depth ≤ 8
      short = short_place k c me goes co.sound.parts.holders_short w (writing k me w is_written)

      within : y.passed ≤ w.depth
      within = let l = next.within in omega (arith, l)

      its_road : Route s.rest y C at y.passed
      its_road =
          road k co few number s here c y goes w is_written short followed.base followed.boxes followed.type followed.resolves followed.unmarked y.passed within
          (λ j less l v p located stands pointer. passed_lies k co.sound.words.have_words s.rest.number l v p stands pointer (may_pass k me goes co.sound.walks.have_passed w is_written j less l v located stands))

      again : Route r3 y C at y.passed
      again =
          rerouted s.rest y C at y.passed its_road r3 refl y.slots y.temps (λ m j less located. refl) (λ j v d le located l. made_leads P cell (sane_at k co few number s here) v d l) (λ less. absurd (omega (arith, less)))
          (let b = roomy_at k co few number s here in let e = made_longer P cell in omega (arith, b, e, within, short))

      fine : Fine r3 y C at ⊥ y.passed (write_stars y.passed 0 h (in_slot w.slot))
      fine = all_hops r3 y C at ⊥ y.passed again (λ j less le. absurd (omega (arith, less, le))) y.passed 0 (omega arith) h (in_slot w.slot) (at_slot y.number w.slot) refl (a_slot w.slot) (begins r3 y C at h rest refl)

      stands_so : (l : Location) → at y.passed ≡ Some l → value_in g l ≡ Some next.asked.value
      stands_so l located =
          let same : next.asked.location ≡ l = some_is (sym (paths_law.locates g y.number w.slot y.passed next.asked.location next.asked.hop.path) ∙ located) in
          ap (value_in g) (sym same) ∙ next.asked.hop.stands

      -- the hop of the pointer to the object is passed
      passes_it : (l : Location) → at y.passed ≡ Some l → Passes (y.passed + 1)
      passes_it l located = one_more refl w is_written next.asked.value (ap (value_behind g) located ∙ stands_so l located) (subst (λ q. PointsTo q next.asked.value) same_object (points next.asked.value a next.asked.asked))

      takes : (h2 : Hand) (sp : Spot) (l : Location) → at y.passed ≡ Some l → At r3 y C at h2.work.rest.partition y.passed sp l → Writing r3 y C at y.passed h2 → Gives Landed (arrived_at sp new (passing (y.passed + 1) h))
      takes h2 _ _ located (a_slot m) a2 = in_slots (y.passed + 1) (passes_it (at_slot y.number m) located) m
      takes h2 _ _ located (a_cell b q o d leads there object behind) a2 =
          let is : next.asked.value ≡ value.Own d.value = some_is (sym (stands_so (in_object o) located) ∙ ap value_of there) in
          let found : look (made P cell) b ≡ Some d = looks (made P cell) b d (subst (λ z. Leads z b d) (a2.unmoved (omega arith)) leads) in
          in_cells (y.passed + 1) (passes_it (in_object o) located) b q d found (λ p boxed_there. boxed d.value a d.value (subst (λ v. Among a (to_write (Some v))) is next.asked.asked) p boxed_there ∙ same_object)

      write_lands : Gives Landed (arrived_write w new h)
      write_lands = by (write_stars y.passed 0 h (in_slot w.slot)) fine
        where
          by : (p : Prepared) → Fine r3 y C at ⊥ y.passed p → Gives Landed (then_some (passed_spot p) (λ z. arrived_at z new (passing (y.passed + 1) h)))
          by (ready h2 sp) f = takes h2 sp f.0 f.1 f.2 f.3
          by (requested h2) f = absurd f
          by nothing f = absurd f

    -- THE OTHER ACCESSES

    slot_lands : (j : ℕ) → Gives Landed (arrived_slot old new j h)
    slot_lands j = test_gives Landed (waits_under old (slice_get y.slots j)) _ (λ z. in_slots y.passed (as_before refl) j)

    -- what a mutable borrow waits for
    module _ (w : Lval) (is : path (sight k) me ≡ lends w) where
      turn : Pulls k c me goes old w ⊎ Chases k c me goes old w
      turn = lent_turn k c me goes old w (path (sight k) me) is awaits.awaited awaits.comes awaits.word awaits.turn

      taken_lands : Pulls k c me goes old w → Landed (with_phase (phase.Taken new) h)
      taken_lands pull = lands (record y { phase = phase.Taken new }) (record {
        named = refl;
        awake = refl;
        gift = refl;
        pc = refl;
        alike = record { slots = λ i2. refl; size = refl; top = refl };
        goes = has_taken new refl (ap (λ q. waits_for_lent (sight k) me q old) is ∙ pull);
      }) work refl

      lend_lands : (d : ℕ) → w.depth ≡ d → Gives Landed (arrived_lend w.slot d old new h)
      lend_lands zero deep = tt
      lend_lands (suc zero) deep = by turn
        where
          by : Pulls k c me goes old w ⊎ Chases k c me goes old w → Landed (with_phase (phase.Taken new) h)
          by (inl pull) = taken_lands pull
          by (inr chase) = absurd (omega (arith, chase.0, deep))
      lend_lands (suc (suc d)) deep = by (waits_under old (slice_get y.slots (chased d y.slots w.slot))) refl
        where
          pulled : waits_under old (slice_get y.slots (chased d y.slots w.slot)) ≡ false → Pulls k c me goes old w ⊎ Chases k c me goes old w → Landed (with_phase (phase.Taken new) h)
          pulled f (inl pull) = taken_lands pull
          pulled f (inr chase) = absurd (cc (sym (chase.1 d deep) ∙ f))

          by : (b : Bool) → waits_under old (slice_get y.slots (chased d y.slots w.slot)) ≡ b → Gives Landed (if b then arrived_at (in_slot (chased d y.slots w.slot)) new h else Some (with_phase (phase.Taken new) h))
          by true f = in_slots y.passed (as_before refl) (chased d y.slots w.slot)
          by false f = pulled f turn

    end_lands : (j : Instr) → slice_get k.code y.pc ≡ Some j → (sp : Spot) → access_of j y ≡ Some (EndRef sp) → (v : Option Value) → value_at h sp ≡ v → Gives Landed (arrived_end sp v old new h)
    end_lands j code sp e (Some (value.Mut r)) stands = by (r.word == old) refl
      where
        own : EndsPath y (path_of (Some j) y) sp
        own = ends_path j y sp e

        is : path (sight k) me ≡ ends r
        is = ap (λ z. path_of z y) code ∙ own.1 h r refl stands

        by : (b : Bool) → (r.word == old) ≡ b → Gives Landed (if b then arrived_at sp new h else arrived_write r.holder new h)
        by true f = own_spot y.passed (as_before refl) sp own.0
        by false f =
            let ne : r.word ≡ old → ⊥ = λ q. (let yes : true ≡ false = sym (Rattle.std.proofs.lemmas.Bool.eq-eqb r.word old q) ∙ f in absurd (cc yes)) in
            write_lands r.holder (ap written_place is) awaits.awaited (holder_next k me old awaits.awaited r (path (sight k) me) is ne awaits.turn) awaits.object
    end_lands j code sp e None stands = tt
    end_lands j code sp e (Some value.Gone) stands = tt
    end_lands j code sp e (Some (value.Own u)) stands = tt
    end_lands j code sp e (Some (value.SharedSlot u)) stands = tt
    end_lands j code sp e (Some (value.MutSlot u)) stands = tt
    end_lands j code sp e (Some (value.Shared u)) stands = tt
    end_lands j code sp e (Some (value.Held u)) stands = tt

    access_lands : (o : Option Instr) → slice_get k.code y.pc ≡ o → Gives Landed (arrived (instr_access h o) old new h)
    access_lands None code = tt
    access_lands (Some j) code = by (access_of j y) refl
      where
        by : (q : Option Access) → access_of j y ≡ q → Gives Landed (arrived q old new h)
        by None e = tt
        by (Some (ReadTo w)) e = slot_lands (chased (w.depth - 1) y.slots w.slot)
        by (Some (ReadPointer w)) e = slot_lands (chased (w.depth - 1) y.slots w.slot)
        by (Some (LendTo w)) e = lend_lands w (ap (λ z. path_of z y) code ∙ lends_path j y w e) w.depth refl
        by (Some (EndRef sp)) e = end_lands j code sp e (value_at h sp) refl
        by (Some (WriteTo w)) e =
            let is : path (sight k) me ≡ writes w = ap (λ z. path_of z y) code ∙ writes_path j y w e in
            write_lands w (ap written_place is) awaits.awaited (write_next k me old awaits.awaited w (path (sight k) me) is awaits.turn) awaits.object

  waits_is : (p : Phase) → waits_for_cell p old ≡ true → p ≡ phase.WaitCell old
  waits_is (phase.WaitCell v) e = ap phase.WaitCell (Rattle.std.proofs.lemmas.Bool.eqb-true v old e)
  waits_is p e = absurd (cc e)

  pub moved_lands : slice_get s.rest.inbox i ≡ Some (Rattle.law_counts_waiting.specs.Below.server_msgs.declared.message.Message.TheVariants.Moved old cell t) → Gives Landed (deliver_moved k.code old cell (record { work = (received i s).work; thread = y }))
  moved_lands message_there =
      test_gives Landed (waits_for_cell y.phase old) _ (λ z.
      bind_gives (λ (m : NewWord). m.work.rest ≡ record (receive s.rest i) { partition = made P cell }) Landed (issue_placed (act.Take cell.object old) cell (received i s).work) _
      (test_gives (λ (m : NewWord). m.work.rest ≡ record (receive s.rest i) { partition = made P cell }) (can_grow P) _ (λ p. refl))
      (λ m e. access_lands (waits_is y.phase z) message_there m.word m.work e (slice_get k.code y.pc) refl))
