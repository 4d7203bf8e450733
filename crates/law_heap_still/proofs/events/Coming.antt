-- An object that comes shows what it showed.
use Rattle.std.proofs.Common.{◌≡◌, ℕ, zero, suc, ◌+◌, ◌-◌, ◌==◌, Bool, true, false, if◌then◌else◌, List, ◌∷◌, [], Option, Some, None, refl, sym, subst, arith}
use Rattle.std.specs.Prelude.{slice_get}
use Rattle.law_counts_sums.specs.Below.fr_base.declared.place.Lval.{Lval}
use Rattle.law_counts_sums.specs.Below.heap_partition.declared.value.Cell.{Cell}
use Rattle.law_counts_sums.specs.Below.owner_box.View.{PartitionState}
use Rattle.law_counts_sums.specs.Below.owner_box.Partition.{made}
use Rattle.law_counts_sums.specs.Below.thread_state.declared.phase.Phase.TheVariants as phase
use Rattle.law_counts_sums.specs.Below.thread_state.declared.value.Value.{Value}
use Rattle.law_counts_sums.specs.Below.thread_state.declared.value.Value.TheVariants as value
use Rattle.law_counts_sums.specs.Below.server_msgs.declared.message.Message.TheVariants as message
use Rattle.law_counts_sums.specs.Below.journal.declared.act.Act.TheVariants as act
use Rattle.law_counts_sums.specs.Below.server_model.declared.event.What.TheVariants.{Deliver}
use Rattle.law_counts_sums.specs.Below.server_model.Servers.{Rest, Server, Cluster, server_at}
use Rattle.law_counts_sums.specs.Below.server_model.Work.{Hand, with_phase}
use Rattle.law_counts_sums.specs.Below.server_model.NewWords.{NewWord, can_grow, issue_placed}
use Rattle.law_counts_sums.specs.Below.server_model.Places.{Spot, in_slot, value_at, set_pointer}
use Rattle.law_counts_sums.specs.Below.server_model.Prepare.{Access, ReadTo, ReadPointer, WriteTo, LendTo, EndRef, passing, write_stars}
use Rattle.law_counts_sums.specs.Below.server_model.Objects.{waits_for_cell, chased, waits_under, arrived_at, arrived_slot, passed_spot, arrived_write, arrived_lend, arrived_end, arrived, instr_access, deliver_moved}
use Rattle.law_counts_sums.specs.Below.server_model.Events.{received, does}
use Rattle.law_counts_sums.specs.Below.coherent_memory.Things.{Thing, thread_things, message_things}
use Rattle.law_counts_sums.specs.Below.coherent_memory.Coherent.{IsSound}
use Rattle.law_counts_sums.specs.Laws.{Gives}
use Rattle.law_counts_sums.proofs.Trades.{tot-append}
use Rattle.law_counts_sums.proofs.Results.{then_gives, over_gives, test_gives, bind_gives, weaker}
use Rattle.law_counts_sums.proofs.Bags.{rest_things, of_partition}
use Rattle.law_counts_sums.proofs.Objects.{makes, free_place}
use Rattle.law_heap_still.specs.events.Shows.{sign_of}
use Rattle.law_heap_still.proofs.events.Sites.{ServerStill, deliveries}
use Rattle.law_heap_still.proofs.events.Hands.{HandStill, then_hand, thread_still, IsQuiet, phased, got_quiet, cell_quiet}
use Rattle.law_heap_still.proofs.events.Leaving.{others, placed_here}
use Rattle.law_heap_still.proofs.events.Addresses.{no_vacancy}
use Rattle.law_heap_still.proofs.events.Readied.{Kept, passes_ready, set_ready, ready_still, phase_stays}

-- AN OBJECT COMES

got_at : (s : Spot) (u : ℕ) (h : Hand) → IsQuiet h.thread.phase → Gives (HandStill [] h) (arrived_at s u h)
got_at s u h a =
    over_gives (Kept h) (HandStill [] h) (set_pointer s u h) (with_phase phase.Got) (set_ready s u h)
    (λ h2 g. then_hand [] h h2 (with_phase phase.Got h2) (ready_still h h2 g.0) (phased h2 phase.Got (subst IsQuiet (sym (phase_stays h h2 g.0)) a) got_quiet))

taken_quiet : (u : ℕ) → IsQuiet (phase.Taken u)
taken_quiet u = record { goes_on = refl; alone = refl; unpaired = refl }

got_slot : (old u i : ℕ) (h : Hand) → IsQuiet h.thread.phase → Gives (HandStill [] h) (arrived_slot old u i h)
got_slot old u i h a = test_gives (HandStill [] h) (waits_under old (slice_get h.thread.slots i)) _ (λ on. got_at (in_slot i) u h a)

got_write : (w : Lval) (u : ℕ) (h : Hand) → IsQuiet h.thread.phase → Gives (HandStill [] h) (arrived_write w u h)
got_write w u h a =
    then_gives (HandStill [] h) (passed_spot (write_stars h.thread.passed 0 h (in_slot w.slot))) _ (λ s q.
    let h1 = passing (h.thread.passed + 1) h in
    weaker (HandStill [] h1) (HandStill [] h) (arrived_at s u h1) (got_at s u h1 a) (λ h2 g. then_hand [] h h1 h2 (ready_still h h1 (passes_ready (h.thread.passed + 1) h).0) g))

got_lend : (slot d old u : ℕ) (h : Hand) → IsQuiet h.thread.phase → Gives (HandStill [] h) (arrived_lend slot d old u h)
got_lend slot zero old u h a = tt
got_lend slot (suc zero) old u h a = phased h (phase.Taken u) a (taken_quiet u)
got_lend slot (suc (suc d)) old u h a = by (waits_under old (slice_get h.thread.slots (chased d h.thread.slots slot)))
  where
    by : (b : Bool) → Gives (HandStill [] h) (if b then arrived_at (in_slot (chased d h.thread.slots slot)) u h else Some (with_phase (phase.Taken u) h))
    by true = got_at (in_slot (chased d h.thread.slots slot)) u h a
    by false = phased h (phase.Taken u) a (taken_quiet u)

got_end : (s : Spot) (v : Option Value) (old u : ℕ) (h : Hand) → IsQuiet h.thread.phase → Gives (HandStill [] h) (arrived_end s v old u h)
got_end s (Some (value.Mut r)) old u h a = by (r.word == old)
  where
    by : (b : Bool) → Gives (HandStill [] h) (if b then arrived_at s u h else arrived_write r.holder u h)
    by true = got_at s u h a
    by false = got_write r.holder u h a
got_end s _ old u h a = tt

got_for : (x : Option Access) (old u : ℕ) (h : Hand) → IsQuiet h.thread.phase → Gives (HandStill [] h) (arrived x old u h)
got_for None old u h a = tt
got_for (Some (ReadTo w)) old u h a = got_slot old u (chased (w.depth - 1) h.thread.slots w.slot) h a
got_for (Some (ReadPointer w)) old u h a = got_slot old u (chased (w.depth - 1) h.thread.slots w.slot) h a
got_for (Some (WriteTo w)) old u h a = got_write w u h a
got_for (Some (LendTo w)) old u h a = got_lend w.slot w.depth old u h a
got_for (Some (EndRef s)) old u h a = got_end s (value_at h s) old u h a

module _ (k : Cluster) (sound : IsSound k) (number : ℕ) (s : Server) (here : server_at k.servers number ≡ Some s) where
  lands : (old : ℕ) (c : Cell) (t : ℕ) (h : Hand) → h.work.rest.number ≡ s.rest.number → h.work.rest.partition ≡ s.rest.partition
      → Gives (λ (m : NewWord). HandStill (message_things s.rest.number (message.Moved old c t)) h (record h { work = m.work })) (issue_placed (act.Take c.object old) c h.work)
  lands old c t h e f =
      test_gives (λ (m : NewWord). HandStill (message_things s.rest.number (message.Moved old c t)) h (record h { work = m.work })) (can_grow h.work.rest.partition) _ (λ on. record {
        number = refl;
        thread = refl;
        alike = λ w z.
            let g : Thing → ℕ = λ x. w (sign_of x) in
            let n = h.work.rest.number in
            let q = h.work.rest.partition in
            let r2 : Rest = record h.work.rest { partition = made q c } in
            let place : (pair : ℕ × ℕ) (rest : List (ℕ × ℕ)) → q.free ≡ pair ∷ rest → slice_get q.cells pair.0 ≡ Some None =
            subst (λ (v : PartitionState). (pair : ℕ × ℕ) (rest : List (ℕ × ℕ)) → v.free ≡ pair ∷ rest → slice_get v.cells pair.0 ≡ Some None) (sym f) (free_place s.rest.number s.events s.rest (others k sound number s here) (placed_here k sound number s here)) in
            let u = of_partition n 0 h.work.rest (made q c) (makes n q c q.free place) in
            omega (arith, z, u.before g, u.after g, no_vacancy w z n q.free, tot-append g (thread_things n false h.thread) (rest_things n 0 h.work.rest), tot-append g (thread_things n false h.thread) (rest_things n 0 r2));
      })

  comes : (old : ℕ) (c : Cell) (t : ℕ) (h : Hand) → h.work.rest.number ≡ s.rest.number → h.work.rest.partition ≡ s.rest.partition
      → Gives (HandStill (message_things s.rest.number (message.Moved old c t)) h) (deliver_moved k.code old c h)
  comes old c t h e f =
      let gone = message_things s.rest.number (message.Moved old c t) in
      test_gives (HandStill gone h) (waits_for_cell h.thread.phase old) _ (λ on.
      bind_gives (λ (m : NewWord). HandStill gone h (record h { work = m.work })) (HandStill gone h) (issue_placed (act.Take c.object old) c h.work) _ (lands old c t h e f) (λ m g.
      let h1 : Hand = record h { work = m.work } in
      weaker (HandStill [] h1) (HandStill gone h) (arrived (instr_access h (slice_get k.code h.thread.pc)) old m.word h1) (got_for (instr_access h (slice_get k.code h.thread.pc)) old m.word h1 (cell_quiet h.thread.phase old on))
      (λ h2 x. then_hand gone h h1 h2 g x)))

  pub objects_come : (i old : ℕ) (c : Cell) (t : ℕ) → slice_get s.rest.inbox i ≡ Some (message.Moved old c t) → Gives (ServerStill k s) (does k.code k.options s (Deliver i))
  objects_come i old c t q =
      deliveries k s i (message.Moved old c t) q (thread_still (message_things s.rest.number (message.Moved old c t)) t (deliver_moved k.code old c) (received i s) (λ y e. comes old c t (record { work = (received i s).work; thread = y }) refl refl))
