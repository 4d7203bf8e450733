-- A thread that has taken an object for its mutable borrow asks for nothing on the way to its pointer, as what it passes is at hand.
use Rattle.std.proofs.Common.{◌≡◌, ◌≤◌, ◌<◌, ℕ, suc, ◌-◌, true, Some, refl, sym, ap, subst, ◌∙◌, arith}
use Rattle.std.specs.Prelude.{slice_get}
use Rattle.law_heap_steps.specs.Below.fr_base.declared.place.Lval.{Lval}
use Rattle.law_heap_steps.specs.Below.fr_base.declared.instruction.Instr.{Instr}
use Rattle.law_heap_steps.specs.Below.fr_base.declared.instruction.Instr.TheVariants as instr
use Rattle.law_heap_steps.specs.Below.fr_code.CodeTypes.{Entry, Table, InstrTypes, i_borrow_mut}
use Rattle.law_heap_steps.specs.Below.migration.Packing.{used_words}
use Rattle.law_heap_steps.specs.Below.thread_state.View.{ThreadState}
use Rattle.law_heap_steps.specs.Below.thread_state.declared.phase.Phase.TheVariants as phase
use Rattle.law_heap_steps.specs.Below.thread_state.declared.value.Value.{Value}
use Rattle.law_heap_steps.specs.Below.server_model.declared.event.What.TheVariants.{Step}
use Rattle.law_heap_steps.specs.Below.server_model.Servers.{Server, Cluster, server_at}
use Rattle.law_heap_steps.specs.Below.server_model.Work.{thread_in}
use Rattle.law_heap_steps.specs.Below.server_model.Places.{in_slot}
use Rattle.law_heap_steps.specs.Below.server_model.Prepare.{read_stars}
use Rattle.law_heap_steps.specs.Below.server_model.Events.{enabled, begin_work}
use Rattle.law_heap_steps.specs.Below.coherent_memory.Things.{Location, at_slot}
use Rattle.law_heap_steps.specs.Below.coherent_memory.Follow.{Standing, value_in, locate}
use Rattle.law_heap_steps.specs.Below.coherent_memory.Passing.{followed_place}
use Rattle.law_heap_steps.specs.Below.coherent_memory.Paths.{path_of}
use Rattle.law_heap_steps.specs.Below.coherent_memory.Sight.{sight}
use Rattle.law_heap_steps.specs.Below.coherent_memory.Walking.{loose_hop, has_followed}
use Rattle.law_heap_steps.proofs.Below.coherent_memory.Passing.{paths_law}
use Rattle.law_words_values.specs.Below.coherent_types.ClusterTypes.{IsCoherent}
use Rattle.law_words_values.specs.Below.law_words_paths.paths.HeapStore.{GoesOn, HasPaths}
use Rattle.law_words_values.specs.Below.law_words_paths.paths.Pointing.{MayWrite, lends}
use Rattle.law_words_values.proofs.Below.law_words_paths.paths.MayWrites.{may_write_there}
use Rattle.law_words_values.proofs.Below.law_words_paths.paths.Sole.{some_is}
use Rattle.law_heap_steps.specs.Below.law_counts_sums.Laws.{FewEvents}
use Rattle.law_counts_asking.proofs.Below.law_results_reads.Known.{Steps, hand, standing, paths, goes, entry, typed, types}
use Rattle.law_counts_asking.proofs.Below.law_results_reads.Followed.{Place}
use Rattle.law_counts_asking.proofs.Below.law_results_reads.Starred.{a_slot}
use Rattle.law_counts_asking.proofs.Below.law_results_reads.Readers.{IsFree, begins, to_entry}
use Rattle.law_counts_asking.proofs.Below.law_results_reads.Mutables.{apart}
use Rattle.law_counts_asking.proofs.Unasked.{Unasked, stars_near}

-- a place that may be lent is short
lendable : (table : Table) (e e2 : Entry) (w : Lval) → InstrTypes table e (instr.BorrowMut w) e2 → w.depth ≤ 8
lendable table _ _ w (i_borrow_mut waits has unlent) = has.short

module _ (k : Cluster) (coherent : IsCoherent k) (few : FewEvents k) (s : Server) (here : server_at k.servers s.rest.number ≡ Some s) (t : ℕ) (y : ThreadState) (at : thread_in s.threads t ≡ Some y)
    (on : enabled k.options s (Step t) ≡ true) (w : Lval) (d : ℕ) (depth : w.depth ≡ suc d) (code : slice_get k.code y.pc ≡ Some (instr.BorrowMut w)) (v : ℕ) (has : y.phase ≡ phase.Taken v) where
  abbrev n : ℕ
  n = s.rest.number

  abbrev i : Instr
  i = instr.BorrowMut w

  abbrev pub z : Steps k n t s y i
  z = record { coherent = coherent; few = few; here = here; on = on; at = at; code = code }

  abbrev pub x : Standing
  x = standing k n t s y i z

  abbrev pub c : HasPaths k
  c = paths k n t s y i z

  abbrev going : GoesOn k x
  going = goes k n t s y i z

  -- so it is here
  pub short : w.depth ≤ 8
  short =
      let at_it = typed k n t s y i z in
      let to = to_entry (types k n t s y i z).table y.pc (entry k n t s y i z) i at_it.0 at_it.1 (λ o e. cc) in
      lendable (types k n t s y i z).table (entry k n t s y i z) to.0 w to.1

  -- the thread may write there
  may : MayWrite k c.types x w
  may = may_write_there k c x going i w code lends

  -- the place is one that is followed
  pub place : Place k c x true w
  place = record { free = λ j u is. may.free j true u is; base = may.base; boxes = may.boxes; type = may.type; resolves = may.resolves; unmarked = may.unmarked }

  -- what the thread has taken is the last pointer, and none before it
  pub before_it : IsFree k n t s y i z true w place d
  before_it e lt under l located m u stands leads_on a p stars taken its depth2 there =
      let same_code : instr.BorrowMut w ≡ instr.BorrowMut p = some_is (sym code ∙ its) in
      let same : w ≡ p = cc in
      let depths : w.depth ≡ p.depth = ap (λ (q : Lval). q.depth) same in
      let so_many : stars ≡ d = omega (arith, depth, depth2, depths) in
      apart k c x going w.slot w.depth place.base place.boxes place.type place.resolves e d under (omega (arith, depth)) l located (subst (λ (q : Lval). locate (sight k).ground y.number q.slot d ≡ Some l) (sym same) (subst (λ j. locate (sight k).ground y.number p.slot j ≡ Some l) so_many there))

  -- each pointer that it passes is at hand
  near : (e : ℕ) (l : Location) (u : Value) → e < d → locate (sight k).ground y.number w.slot e ≡ Some l → value_in (sight k).ground l ≡ Some u → loose_hop n (used_words y) (Some u) ≡ 0
  near e l u lt there stands =
      coherent.sound.walks.have_followed x (record { slot = w.slot; depth = w.depth - 1 }) e l u going.among (ap (has_followed (sight k) x) has) (ap (λ j. followed_place (path_of j y)) code) (omega (arith, depth, lt)) (record { path = paths_law.located (sight k).ground y.number w.slot e l there; stands = stands })

  -- so nothing is asked for
  pub unasked : Unasked (read_stars d (record { work = begin_work s.rest; thread = y }) (in_slot w.slot))
  unasked = stars_near k n t s y i z true w place short d (omega (arith, depth)) before_it near d 0 (omega arith) (hand k n t s y i z) (in_slot w.slot) (at_slot y.number w.slot) refl (a_slot w.slot) (begins k n t s y i z)
