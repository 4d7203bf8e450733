-- Each delivery of an object that comes has a result.
use Rattle.std.proofs.Common.{◌≡◌, ◌≤◌, ◌<◌, ℕ, zero, suc, ◌-◌, ◌^◌, ◌==◌, nat_le, Bool, true, false, if◌then◌else◌, length, Option, Some, None, IsSome, refl, sym, ap, subst, ◌∙◌, arith}
use Rattle.std.specs.Prelude.{slice_get}
use Rattle.std.proofs.lemmas.Bool.{eqb-true, eq-eqb}
use Rattle.std.proofs.lemmas.Bool.Decides.{nat_tests}
use Rattle.law_results_reads.specs.Below.fr_base.Lists.{last_of}
use Rattle.law_results_reads.specs.Below.fr_base.declared.place.Lval.{Lval}
use Rattle.law_results_reads.specs.Below.fr_base.declared.instruction.Instr.{Instr}
use Rattle.law_results_reads.specs.Below.fr_base.declared.instruction.Instr.TheVariants as instr
use Rattle.law_results_reads.specs.Below.heap_partition.declared.value.Cell.{Cell}
use Rattle.law_results_reads.specs.Below.mut_borrow.declared.mutable.MutRef.{MutRef}
use Rattle.law_results_reads.specs.Below.thread_state.View.{ThreadState}
use Rattle.law_results_reads.specs.Below.thread_state.declared.phase.Phase.{Phase}
use Rattle.law_results_reads.specs.Below.thread_state.declared.phase.Phase.TheVariants as phase
use Rattle.law_results_reads.specs.Below.thread_state.declared.value.Value.{Value}
use Rattle.law_results_reads.specs.Below.thread_state.declared.value.Value.TheVariants as value
use Rattle.law_results_reads.specs.Below.server_msgs.declared.message.Message.TheVariants as message
use Rattle.law_results_reads.specs.Below.server_model.declared.event.What.TheVariants.{Deliver}
use Rattle.law_results_reads.specs.Below.server_model.Servers.{Server, Cluster, server_at}
use Rattle.law_results_reads.specs.Below.server_model.Work.{Work, Hand, thread_in, with_phase, then_some}
use Rattle.law_results_reads.specs.Below.server_model.NewWords.{can_grow}
use Rattle.law_results_reads.specs.Below.server_model.Places.{Spot, in_slot, on_top, value_at, with_word, put_at, set_pointer}
use Rattle.law_results_reads.specs.Below.server_model.Prepare.{Access, WriteTo, EndRef, access_of}
use Rattle.law_results_reads.specs.Below.server_model.Prepare as ready_for
use Rattle.law_results_reads.specs.Below.server_model.Objects.{waits_for_cell, arrived_at, arrived_write, arrived_end, arrived, instr_access, came, deliver_moved}
use Rattle.law_results_reads.specs.Below.server_model.Events.{received}
use Rattle.law_results_reads.specs.Below.coherent_memory.Names.{tot, other}
use Rattle.law_results_reads.specs.Below.coherent_memory.Things.{things_of}
use Rattle.law_results_reads.specs.Below.coherent_memory.Follow.{Standing, threads_in, thread_at}
use Rattle.law_results_reads.specs.Below.coherent_memory.Sight.{sight}
use Rattle.law_results_reads.specs.Below.coherent_memory.Paths.{Path, no_path, reads, shares, lends, writes, ends, path_of, written_place, Awaited}
use Rattle.law_results_reads.specs.Below.coherent_memory.Paths as on_path
use Rattle.law_results_reads.specs.Below.coherent_memory.Turn.{InTurn, by_read, by_share, by_lend, by_write, by_end, by_holder, NextHop, WaitsFor}
use Rattle.law_results_reads.specs.Below.coherent_memory.Walking.{path, hop_count, too_far, sum_threads}
use Rattle.law_results_reads.specs.Below.coherent_memory.Requests.{is_cell, in_phase, in_server, carries, lost}
use Rattle.law_results_reads.specs.Below.coherent_memory.Follow.{Standing}
use Rattle.law_results_reads.specs.Below.coherent_memory.Coherent.{IsSound}
use Rattle.law_results_reads.proofs.Below.coherent_memory.Names.{and_left, and_right}
use Rattle.law_results_reads.specs.Below.law_counts_sums.Laws.{FewEvents, HasResult}
use Rattle.law_results_reads.proofs.Below.law_counts_sums.Askers.{other_none}
use Rattle.law_results_reads.proofs.Below.law_counts_sums.HaveResults.{some_map, some_if, arrives}
use Rattle.law_results_reads.proofs.Below.law_counts_sums.AnswerResults.{at_it}
use Rattle.law_results_reads.proofs.Below.law_counts_sums.MovedResults.{moved_have_results}
use Rattle.law_results_reads.proofs.Below.law_counts_sums.MutexResults.{has}
use Rattle.law_results_reads.proofs.Below.law_counts_sums.StandsHere.{IsWaiting, stands_here}
use Rattle.law_results_reads.proofs.Below.law_counts_sums.GiftsTaken.{none_here}
use Rattle.law_results_reads.specs.Below.coherent_types.ClusterTypes.{IsCoherent}
use Rattle.law_results_events.specs.writes.Deliveries.{MovedHaveResults}
use Rattle.law_results_events.proofs.writes.Passed.{a_reference, slot_takes, x, on, r2, arrives_so}
use Rattle.law_results_events.proofs.writes.Routes.{roomy_at}

is_waiting : (p : Phase) (w : ℕ) → is_cell w p ≡ true → p ≡ phase.WaitCell w
is_waiting (phase.WaitCell v) w e = ap phase.WaitCell (eqb-true v w e)
is_waiting _ w e = absurd (cc e)

cell_waits : (w : ℕ) → IsWaiting (is_cell w)
cell_waits w = record { unready = by; ungot = by2 }
  where
    by : (p : Phase) → is_cell w p ≡ true → Rattle.law_results_reads.specs.Below.coherent_memory.Walking.is_ready p ≡ false
    by (phase.WaitCell v) e = refl
    by _ e = absurd (cc e)

    by2 : (p : Phase) → is_cell w p ≡ true → Rattle.law_results_reads.specs.Below.coherent_memory.Requests.is_got p ≡ false
    by2 (phase.WaitCell v) e = refl
    by2 _ e = absurd (cc e)

-- WHICH PLACE IS FOLLOWED

-- an instruction on whose path a place is written follows it for writing
same_place : {v w : Lval} → writes v ≡ writes w → v ≡ w
same_place e = cc

same_reference : {q r : MutRef} → ends q ≡ ends r → q ≡ r
same_reference e = cc

module _ (y : ThreadState) (h : Hand) (mine : h.thread ≡ y) where
  -- a spot of the thread's own at which the reference stands
  data StandsAt (r : MutRef) : Spot → Type 0 where
    in_its_slot : (j : ℕ) → slice_get y.slots j ≡ Some (value.Mut r) → StandsAt r (in_slot j)
    on_its_top : last_of y.temps ≡ Some (value.Mut r) → StandsAt r on_top

  abbrev Writes : Lval → Option Access → Type 0
  Writes w o = o ≡ Some (WriteTo w)

  assigned_writes : (v w : Lval) (d : ℕ) → on_path.assigning y.slots v d ≡ writes w → Writes w (ready_for.assigned v d y)
  assigned_writes v w zero e = absurd (none (slice_get y.slots v.slot) e)
    where
      none : (o : Option Value) → on_path.ending o ≡ writes w → ⊥
      none (Some (value.Mut r)) e = cc e
      none None e = cc e
      none (Some _) e = cc e
  assigned_writes v w (suc d) e = ap (λ z. Some (WriteTo z)) (same_place e)

  taken_writes : (v w : Lval) (d : ℕ) → on_path.taking v d ≡ writes w → Writes w (Some (ready_for.read_or_taken v d true))
  taken_writes v w zero e = absurd (cc e)
  taken_writes v w (suc d) e = ap (λ z. Some (WriteTo z)) (same_place e)

  ending_no_write : (w : Lval) (o : Option Value) → on_path.ending o ≡ writes w → ⊥
  ending_no_write w (Some (value.Mut r)) e = cc e
  ending_no_write w None e = cc e
  ending_no_write w (Some _) e = cc e

  writes_so : (w : Lval) (o : Option Instr) → path_of o y ≡ writes w → (j : Instr) × (o ≡ Some j) × Writes w (access_of j y)
  writes_so w (Some (instr.Assign v a)) e = (instr.Assign v a, refl, assigned_writes v w v.depth e)
  writes_so w (Some (instr.Read v true)) e = (instr.Read v true, refl, taken_writes v w v.depth e)
  writes_so w (Some instr.DropSlot) e = absurd (ending_no_write w (last_of y.slots) e)
  writes_so w (Some instr.Discard) e = absurd (ending_no_write w (last_of y.temps) e)
  writes_so w None e = absurd (cc e)
  writes_so w (Some (instr.Read v false)) e = absurd (cc e)
  writes_so w (Some (instr.Dup v)) e = absurd (cc e)
  writes_so w (Some (instr.Lock v)) e = absurd (cc e)
  writes_so w (Some (instr.Borrow v)) e = absurd (cc e)
  writes_so w (Some (instr.BorrowMut v)) e = absurd (cc e)
  writes_so w (Some (instr.Let o)) e = absurd (cc e)
  writes_so w (Some (instr.Box o)) e = absurd (cc e)
  writes_so w (Some (instr.Arith f a b)) e = absurd (cc e)
  writes_so w (Some (instr.Print o)) e = absurd (cc e)
  writes_so w (Some (instr.Spawn cs b)) e = absurd (cc e)
  writes_so w (Some (instr.Join o)) e = absurd (cc e)
  writes_so w (Some (instr.Mutex o)) e = absurd (cc e)
  writes_so w (Some instr.Unlock) e = absurd (cc e)
  writes_so w (Some (instr.Par cs b ds d)) e = absurd (cc e)
  writes_so w (Some instr.ParEnd) e = absurd (cc e)
  writes_so w (Some (instr.End o)) e = absurd (cc e)

  abbrev Ends : MutRef → Option Access → Type 0
  Ends r o = (sp : Spot) × (o ≡ Some (EndRef sp)) × StandsAt r sp

  ended_value : (r : MutRef) (o : Option Value) → on_path.ending o ≡ ends r → o ≡ Some (value.Mut r)
  ended_value r (Some (value.Mut q)) e = ap (λ z. Some (value.Mut z)) (same_reference e)
  ended_value r None e = absurd (cc e)
  ended_value r (Some value.Gone) e = absurd (cc e)
  ended_value r (Some (value.Own u)) e = absurd (cc e)
  ended_value r (Some (value.SharedSlot j)) e = absurd (cc e)
  ended_value r (Some (value.MutSlot j)) e = absurd (cc e)
  ended_value r (Some (value.Shared q)) e = absurd (cc e)
  ended_value r (Some (value.Held m)) e = absurd (cc e)

  slot_ended : (r : MutRef) (j : ℕ) (o : Option Value) → slice_get y.slots j ≡ o → on_path.ending o ≡ ends r → Ends r (ready_for.ending (in_slot j) o)
  slot_ended r j o there e = let v = ended_value r o e in (in_slot j, ap (ready_for.ending (in_slot j)) v, in_its_slot j (there ∙ v))

  top_ended : (r : MutRef) → on_path.ending (last_of y.temps) ≡ ends r → Ends r (ready_for.ending on_top (last_of y.temps))
  top_ended r e = let v = ended_value r (last_of y.temps) e in (on_top, ap (ready_for.ending on_top) v, on_its_top v)

  assigned_ends : (r : MutRef) (v : Lval) (d : ℕ) → on_path.assigning y.slots v d ≡ ends r → Ends r (ready_for.assigned v d y)
  assigned_ends r v zero e = slot_ended r v.slot (slice_get y.slots v.slot) refl e
  assigned_ends r v (suc d) e = absurd (cc e)

  taken_ends : (r : MutRef) (v : Lval) (d : ℕ) → on_path.taking v d ≡ ends r → ⊥
  taken_ends r v zero e = cc e
  taken_ends r v (suc d) e = cc e

  ends_so : (r : MutRef) (o : Option Instr) → path_of o y ≡ ends r → (j : Instr) × (o ≡ Some j) × Ends r (access_of j y)
  ends_so r (Some (instr.Assign v a)) e = (instr.Assign v a, refl, assigned_ends r v v.depth e)
  ends_so r (Some (instr.Read v true)) e = absurd (taken_ends r v v.depth e)
  ends_so r (Some instr.DropSlot) e = (instr.DropSlot, refl, slot_ended r (length y.slots - 1) (last_of y.slots) refl e)
  ends_so r (Some instr.Discard) e = (instr.Discard, refl, top_ended r e)
  ends_so r None e = absurd (cc e)
  ends_so r (Some (instr.Read v false)) e = absurd (cc e)
  ends_so r (Some (instr.Dup v)) e = absurd (cc e)
  ends_so r (Some (instr.Lock v)) e = absurd (cc e)
  ends_so r (Some (instr.Borrow v)) e = absurd (cc e)
  ends_so r (Some (instr.BorrowMut v)) e = absurd (cc e)
  ends_so r (Some (instr.Let o)) e = absurd (cc e)
  ends_so r (Some (instr.Box o)) e = absurd (cc e)
  ends_so r (Some (instr.Arith f a b)) e = absurd (cc e)
  ends_so r (Some (instr.Print o)) e = absurd (cc e)
  ends_so r (Some (instr.Spawn cs b)) e = absurd (cc e)
  ends_so r (Some (instr.Join o)) e = absurd (cc e)
  ends_so r (Some (instr.Mutex o)) e = absurd (cc e)
  ends_so r (Some instr.Unlock) e = absurd (cc e)
  ends_so r (Some (instr.Par cs b ds d)) e = absurd (cc e)
  ends_so r (Some instr.ParEnd) e = absurd (cc e)
  ends_so r (Some (instr.End o)) e = absurd (cc e)

  -- the reference itself takes the word
  itself_takes : (r : MutRef) (sp : Spot) (new : ℕ) → StandsAt r sp → IsSome (set_pointer sp new h)
  itself_takes r _ new (in_its_slot j e) = slot_takes h j new (value.Mut r) (ap (λ (z : ThreadState). slice_get z.slots j) mine ∙ e) (a_reference r)
  itself_takes r _ new (on_its_top e) =
      let top : last_of h.thread.temps ≡ Some (value.Mut r) = ap (λ (z : ThreadState). last_of z.temps) mine ∙ e in
      subst (λ o. IsSome (then_some o (λ v. then_some (with_word new v) (λ u. put_at on_top u h)))) (sym top) refl

  value_there : (r : MutRef) (sp : Spot) → StandsAt r sp → value_at h sp ≡ Some (value.Mut r)
  value_there r _ (in_its_slot j e) = ap (λ (z : ThreadState). slice_get z.slots j) mine ∙ e
  value_there r _ (on_its_top e) = ap (λ (z : ThreadState). last_of z.temps) mine ∙ e

-- THE DELIVERY

placed : {X Y : Type 0} (b : Bool) (v : X) (go : X → Option Y) → b ≡ true → IsSome (go v) → IsSome (then_some (if b then Some v else None) go)
placed true v go e s = s
placed false v go e s = absurd (cc e)

module _ (k : Cluster) (co : IsCoherent k) (few : FewEvents k) (number i : ℕ) (s : Server) (here : server_at k.servers number ≡ Some s) (old : ℕ) (cell : Cell) (t : ℕ) (y : ThreadState) (at : thread_in s.threads t ≡ Some y) (waiting : y.phase ≡ phase.WaitCell old) (some_passed : 1 ≤ y.passed) where
  abbrev me : Standing
  me = x k co few number i s here old cell t y at waiting

  turn : WaitsFor (sight k) me old
  turn = co.sound.walks.wait_in_turn me old (on k co few number i s here old cell t y at waiting).among waiting

  -- a thread that has passed some hop writes
  no_write : (p : Path) → path (sight k) me ≡ p → written_place p ≡ None → ⊥
  no_write p is none =
      let all : too_far (sight k) me ≡ 0 = none_here k co.sound number s here t y at (too_far (sight k)) (Rattle.law_results_reads.specs.Below.coherent_memory.Coherent.Walks.passed_within co.sound.walks) in
      let test : nat_le y.passed (hop_count (written_place (path (sight k) me))) ≡ true = other_none _ all in
      let le : y.passed ≤ hop_count (written_place (path (sight k) me)) = grind (arith, nat_tests, test) in
      let count : hop_count (written_place (path (sight k) me)) ≡ 0 = ap (λ z. hop_count (written_place z)) is ∙ ap hop_count none in
      omega (arith, le, count, some_passed)

  module _ (new : ℕ) (work : Work) (rest : work.rest ≡ r2 k co few number i s here old cell t y at waiting) where
    abbrev h : Hand
    h = record { work = work; thread = y }

    write_arrives : (w : Lval) → written_place (path (sight k) me) ≡ Some w → (a : Awaited) → NextHop (sight k) me w a → IsSome (arrived_write w new h)
    write_arrives w is a next = arrives_so k co few number i s here old cell t y at waiting w is a next new work rest

    end_arrives : (r : MutRef) (sp : Spot) → StandsAt y h refl r sp → path (sight k) me ≡ ends r → ((r.word ≡ old → ⊥) → (a : Awaited) × NextHop (sight k) me r.holder a) → IsSome (arrived_end sp (Some (value.Mut r)) old new h)
    end_arrives r sp stands is next = by (r.word == old) refl
      where
        by : (b : Bool) → (r.word == old) ≡ b → IsSome (if b then arrived_at sp new h else arrived_write r.holder new h)
        by true e = some_map (with_phase phase.Got) (set_pointer sp new h) (itself_takes y h refl r sp new stands)
        by false e =
            let other_word : r.word ≡ old → ⊥ = λ f. (let same : true ≡ false = sym (eq-eqb r.word old f) ∙ e in cc same) in
            let n = next other_word in
            write_arrives r.holder (ap written_place is) n.0 n.1

    its_access : IsSome (arrived (instr_access h (slice_get k.code y.pc)) old new h)
    its_access = by (path (sight k) me) refl turn.turn
      where
        for_write : (w : Lval) → path (sight k) me ≡ writes w → NextHop (sight k) me w turn.awaited → IsSome (arrived (instr_access h (slice_get k.code y.pc)) old new h)
        for_write w is next =
            let j = writes_so y h refl w (slice_get k.code y.pc) is in
            subst (λ o. IsSome (arrived (instr_access h o) old new h)) (sym j.1)
            (subst (λ o. IsSome (arrived o old new h)) (sym j.2) (write_arrives w (ap written_place is) turn.awaited next))

        for_end : (r : MutRef) → path (sight k) me ≡ ends r → ((r.word ≡ old → ⊥) → (a : Awaited) × NextHop (sight k) me r.holder a) → IsSome (arrived (instr_access h (slice_get k.code y.pc)) old new h)
        for_end r is next =
            let j = ends_so y h refl r (slice_get k.code y.pc) is in
            let e = j.2 in
            subst (λ o. IsSome (arrived (instr_access h o) old new h)) (sym j.1)
            (subst (λ o. IsSome (arrived o old new h)) (sym e.1)
            (subst (λ o. IsSome (arrived_end e.0 o old new h)) (sym (value_there y h refl r e.0 e.2)) (end_arrives r e.0 e.2 is next)))

        by : (p : Path) → path (sight k) me ≡ p → InTurn (sight k) me old turn.awaited p → IsSome (arrived (instr_access h (slice_get k.code y.pc)) old new h)
        by _ is (by_read w f) = absurd (no_write (reads w) is refl)
        by _ is (by_share w f) = absurd (no_write (shares w) is refl)
        by _ is (by_lend w f) = absurd (no_write (lends w) is refl)
        by _ is (by_write w next) = for_write w is next
        by _ is (by_end r word m) = for_end r is (λ ne. absurd (ne word))
        by _ is (by_holder r ne next) = for_end r is (λ f. (turn.awaited, next))

  delivered : IsSome (deliver_moved k.code old cell (record { work = (received i s).work; thread = y }))
  delivered =
      let h1 : Hand = record { work = (received i s).work; thread = y } in
      let grows : can_grow s.rest.partition ≡ true = (let l = roomy_at k co few number s here in let m : length s.rest.partition.cells < 2 ^ 40 = omega (arith, l) in grind (arith, nat_tests, m)) in
      some_if (waits_for_cell y.phase old) (came k.code old cell h1) (ap (λ p. waits_for_cell p old) waiting ∙ eq-eqb old old refl) (placed (can_grow s.rest.partition) _ _ grows (its_access _ _ refl))

pub each_moved : MovedHaveResults
each_moved k number i s w c t co few here on_it q =
    let m = message.Moved w c t in
    let sound : IsSound k = co.sound in
    let n = s.rest.number in
    let carried : tot (carries (sight k)) (things_of k) ≡ 0 = sound.requests.carry_what_is_asked in
    let returned : tot (lost (sight k)) (things_of k) ≡ 0 = sound.requests.return_right in
    let a : other (in_phase (is_cell w) (thread_at (threads_in (things_of k)) t)) ≡ 0 = omega (arith, carried, has k sound number s here i m q (carries (sight k))) in
    let b : other (in_server n (thread_at (threads_in (things_of k)) t)) ≡ 0 = omega (arith, returned, has k sound number s here i m q (lost (sight k))) in
    let it = stands_here k sound number s here t (is_cell w) (cell_waits w) (other_none _ b) (other_none _ a) in
    let y = it.0 in
    let there : is_cell w y.phase ≡ true = and_left (is_cell w y.phase) _ (and_right (n == n) _ it.2) in
    by y it.1 (is_waiting y.phase w there) y.passed refl
  where
    by : (y : ThreadState) → thread_in s.threads t ≡ Some y → y.phase ≡ phase.WaitCell w → (p : ℕ) → y.passed ≡ p → HasResult k number (Deliver i)
    by y at waiting zero e = moved_have_results k number i s w c t y co.sound few here on_it q at e
    by y at waiting (suc p) e = arrives k number i s (message.Moved w c t) here on_it q (at_it s i t (deliver_moved k.code w c) y at (delivered k co few number i s here w c t y at waiting (omega (arith, e))))
