-- The object at the end of a place that a thread writes: it is in the state, and no place of a lock passes it, with its cell in front of all other things too.
use Rattle.std.proofs.Common.{◌≡◌, ℕ, not, Bool, true, false, Option, Some, None, option_map, refl, ap, subst, ◌∙◌}
use Rattle.std.specs.Prelude.{slice_get}
use Rattle.law_heap_writes.specs.Below.fr_base.declared.label.Plain.{Plain}
use Rattle.law_heap_writes.specs.Below.fr_base.declared.place.Lval.{Lval}
use Rattle.law_heap_writes.specs.Below.fr_base.declared.instruction.Instr.{Instr}
use Rattle.law_heap_writes.specs.Below.fr_base.declared.instruction.Instr.TheVariants as instr
use Rattle.law_heap_writes.specs.Below.heap_partition.declared.value.Cell.{Cell}
use Rattle.law_heap_writes.specs.Below.thread_state.View.{ThreadState}
use Rattle.law_heap_writes.specs.Below.server_model.declared.event.Event.{Event}
use Rattle.law_heap_writes.specs.Below.server_model.Servers.{Server, Cluster}
use Rattle.law_heap_writes.specs.Below.server_model.Work.{look}
use Rattle.law_heap_writes.specs.Below.coherent_memory.Names.{same_object}
use Rattle.law_heap_writes.specs.Below.coherent_memory.Things.{in_cell, things_of}
use Rattle.law_heap_writes.specs.Below.coherent_memory.Follow.{Standing, threads_in, thread_at, locate}
use Rattle.law_heap_writes.specs.Below.coherent_memory.Sight.{Sight, sight, with_things}
use Rattle.law_heap_writes.specs.Below.coherent_memory.Walking.{instr_of}
use Rattle.law_heap_writes.specs.Below.coherent_memory.Requests.{is_par_end}
use Rattle.law_heap_writes.specs.Below.coherent_memory.OneHeap.{object_n, is_in_state, if_in, cell_value, first_shown}
use Rattle.law_heap_writes.specs.Below.coherent_types.ClusterTypes.{IsCoherent}
use Rattle.law_heap_writes.specs.Below.law_counts_sums.Laws.{FewEvents}
use Rattle.law_words_writes.specs.Below.law_heap_still.events.Shows.{ShownThread}
use Rattle.law_words_writes.proofs.Below.law_heap_still.events.Alike.{SeenAt, LocksSeeIn}
use Rattle.law_words_writes.proofs.Below.law_heap_still.events.PlainValues.{shown_of}
use Rattle.law_heap_writes.proofs.Below.law_heap_steps.turns.Events.{AtStep}
use Rattle.law_heap_writes.proofs.Below.law_heap_steps.mutexes.ThreadTurns.{quiet}
use Rattle.law_words_writes.specs.Below.law_words_asked.writes.Writing.{WritesThrough, assigns, moves}
use Rattle.law_heap_writes.proofs.writes.CellApart as apart
use Rattle.law_heap_writes.proofs.writes.Readies as readies
use Rattle.law_heap_writes.proofs.writes.Untouched.{locks_pass_by}

-- such an instruction ends no pair
pub single : (i : Instr) (w : Lval) (d : ℕ) → WritesThrough i w d → is_par_end (Some i) ≡ false
single _ w d (assigns o f) = refl
single _ w d (moves f) = refl

shown_in : (s : Sight) (p : Plain) (v : Option Plain) (b : Bool) → if_in b v ≡ Some p → b ≡ true
shown_in s p v true e = refl
shown_in s p v false e = absurd (cc e)

module _ (k : Cluster) (co : IsCoherent k) (few : FewEvents k) (e : Event) (i : Instr) (s : Server) (t : ℕ) (y : ThreadState) (a : AtStep k e i s t y) (w : Lval) (d : ℕ) (through : WritesThrough i w d) (bare : y.gift ≡ None) (u : ℕ) (c : Cell) (there : look s.rest.partition u ≡ Some c)
    (ends : locate (sight k).ground y.number w.slot w.depth ≡ Some (in_cell c.object)) (one : is_par_end (Some i) ≡ false) where
  abbrev s1 : Sight
  s1 = with_things k (apart.a k co.sound e i one s t y a bare u c there)

  pub inner_at : is_in_state s1 (object_n c.object) ≡ true
  inner_at =
      let p = readies.end_shown k co few e i s t y a w d through c.object ends in
      shown_in s1 p.0 (first_shown (cell_value c.object) s1.things) (is_in_state s1 (object_n c.object)) ((apart.state_before k co.sound e i one s t y a bare u c there).objects c.object ∙ p.1)

  pub locks_at : LocksSeeIn (λ q. not (same_object q c.object)) s1
  locks_at v x p found f m l = by (thread_at (threads_in (things_of k)) v) refl (apart.threads_before k co.sound e i one s t y a bare u c there v ∙ ap (option_map shown_of) found)
    where
      by : (z : Option Standing) → thread_at (threads_in (things_of k)) v ≡ z → option_map shown_of z ≡ Some (shown_of x) → SeenAt (λ q. not (same_object q c.object)) (locate s1.ground x.thread.number p.slot m)
      by None q g = absurd (cc g)
      by (Some z) q g =
          let same : shown_of z ≡ shown_of x = cc in
          let number : z.thread.number ≡ x.thread.number = ap (λ (b : ShownThread). b.number) same in
          let code : instr_of (sight k) z ≡ Some (instr.Lock p) = ap (λ (b : ShownThread). slice_get k.code b.pc) same ∙ f in
          let it : SeenAt (λ q. not (same_object q c.object)) (locate (sight k).ground z.thread.number p.slot m) = locks_pass_by k e.server t s y i (readies.step_here k co few e i s t y a w d through) w d through (quiet k co.sound e i one s t y a).alone c.object ends v z p q code m l in
          subst (λ b. SeenAt (λ q. not (same_object q c.object)) b) (ap (λ b. locate (sight k).ground b p.slot m) number ∙ apart.places_before k co.sound e i one s t y a bare u c there x.thread.number p.slot m) it
