-- The place that a thread of a coherent cluster writes through stars: each pointer that it follows to an object is the one through which that is written.
use Rattle.std.proofs.Common.{◌≡◌, ◌≤◌, ◌<◌, ℕ, suc, ◌-◌, true, Option, Some, None, refl, ap, ◌∙◌, arith}
use Rattle.law_results_events.specs.Below.fr_base.declared.name.ObjNo.{ObjNo}
use Rattle.law_results_events.specs.Below.fr_base.declared.place.Lval.{Lval}
use Rattle.law_results_events.specs.Below.fr_base.declared.instruction.Operand.{Operand}
use Rattle.law_results_events.specs.Below.fr_base.declared.instruction.Instr.{Instr}
use Rattle.law_results_events.specs.Below.fr_base.declared.instruction.Instr.TheVariants as instr
use Rattle.law_results_events.specs.Below.fr_code.CodeTypes.{Entry, Table, InstrTypes, i_assign, i_move}
use Rattle.law_results_events.specs.Below.fr_store.Keys.{slot_k}
use Rattle.law_results_events.specs.Below.heap_partition.declared.value.BoxPtr.{BoxPtr}
use Rattle.law_results_events.specs.Below.heap_partition.declared.value.Cell.{Cell}
use Rattle.law_results_events.specs.Below.heap_partition.declared.value.Owned.TheVariants as owned
use Rattle.law_results_events.specs.Below.thread_state.View.{ThreadState}
use Rattle.law_results_events.specs.Below.thread_state.declared.phase.Phase.{Phase}
use Rattle.law_results_events.specs.Below.thread_state.declared.phase.Phase.TheVariants as phase
use Rattle.law_results_events.specs.Below.thread_state.declared.value.Value.{Value}
use Rattle.law_results_events.specs.Below.thread_state.declared.value.Value.TheVariants as value
use Rattle.law_results_events.specs.Below.server_model.Servers.{Server, Cluster}
use Rattle.law_results_events.specs.Below.server_model.Places.{pointer_of}
use Rattle.law_results_events.specs.Below.coherent_memory.Things.{Location, in_cell}
use Rattle.law_results_events.specs.Below.coherent_memory.Follow.{Standing, Ground, value_in, value_of, slot_of, leads}
use Rattle.law_results_events.specs.Below.coherent_memory.Paths.{path_of, assigning, taking, written_place}
use Rattle.law_results_events.specs.Below.coherent_memory.Sight.{sight}
use Rattle.law_results_events.specs.Below.coherent_memory.Walking.{path}
use Rattle.law_results_events.specs.Below.coherent_memory.Words.{IsStale}
use Rattle.law_results_events.specs.Below.law_words_paths.paths.HeapStore.{HasPaths, GoesOn}
use Rattle.law_results_events.specs.Below.law_words_paths.paths.Pointing.{MayWrite, WritesTo, assigns as assigns_to, moves as moves_from}
use Rattle.law_results_events.proofs.Below.law_words_paths.paths.Circles.{shorter}
use Rattle.law_results_events.proofs.Below.law_words_paths.paths.MayWrites.{may_write_there}
use Rattle.law_results_events.proofs.Below.law_words_paths.paths.Shown.{stands_there}
use Rattle.law_results_events.specs.Below.law_words_paths.words.Unmoved.{taking_by}
use Rattle.law_results_events.proofs.Below.law_words_paths.words.Alone.{written_are_sole}
use Rattle.law_results_events.specs.Below.law_words_kept.reads.Reading.{LiesUnder}
use Rattle.law_results_events.proofs.Below.law_words_kept.reads.Homes.{fresh_word}
use Rattle.law_results_events.proofs.Below.law_words_kept.ends.Fresh.{writes_are_fresh}
use Rattle.law_results_events.proofs.Below.law_words_kept.ends.Lying.{written_lie_there}
use Rattle.law_results_events.proofs.Below.law_results_reads.Followed.{hop_from}
use Rattle.law_results_events.proofs.Below.law_results_reads.Known.{Steps, standing, paths, goes, types, entry, typed}
use Rattle.law_results_events.proofs.Below.law_results_reads.Readers.{to_entry}
use Rattle.law_results_events.proofs.writes.Route.{Route}
use Rattle.law_results_events.proofs.writes.StepRoutes.{awake, C, at, its_route}
use Rattle.law_words_asked.specs.writes.Writing.{WritesThrough, assigns, moves}
use Rattle.law_words_asked.proofs.writes.Onward.{IsWritten}
use Rattle.law_words_asked.proofs.writes.Walks.{BoxAt, in_a_slot, in_a_cell}

-- what leads to an object is a pointer to it
pub leads_pointer : (t : ℕ) (v : Value) (o : ObjNo) → leads t (Some v) ≡ Some (in_cell o) → (p : BoxPtr) × (pointer_of v ≡ Some p) × (p.object ≡ o)
leads_pointer t (value.Own (owned.Box p)) o e = (p, refl, cc)
leads_pointer t (value.Shared r) o e = (record { word = r.word; object = r.object }, refl, cc)
leads_pointer t (value.Mut r) o e = (record { word = r.word; object = r.object }, refl, cc)
leads_pointer t (value.SharedSlot i) o e = absurd (cc e)
leads_pointer t (value.MutSlot i) o e = absurd (cc e)
leads_pointer t (value.Own owned.Nothing) o e = absurd (cc e)
leads_pointer t (value.Own owned.Unit) o e = absurd (cc e)
leads_pointer t (value.Own (owned.Int m)) o e = absurd (cc e)
leads_pointer t (value.Own (owned.Mutex m)) o e = absurd (cc e)
leads_pointer t (value.Own (owned.Task m)) o e = absurd (cc e)
leads_pointer t value.Gone o e = absurd (cc e)
leads_pointer t (value.Held m) o e = absurd (cc e)

-- THE INSTRUCTION

pub writes_to : (i : Instr) (w : Lval) (d : ℕ) → WritesThrough i w d → WritesTo i w
writes_to _ w d (assigns o e) = assigns_to
writes_to _ w d (moves e) = moves_from

pub takes_none : (t : ℕ) (p : Phase) (i : Instr) (w : Lval) (d : ℕ) → WritesThrough i w d → taking_by t p (Some i) ≡ None
takes_none t (phase.Taken v) _ w d (assigns o e) = refl
takes_none t (phase.Taken v) _ w d (moves e) = refl
takes_none t _ _ w d (assigns o e) = refl
takes_none t _ _ w d (moves e) = refl

pub deep : (i : Instr) (w : Lval) (d : ℕ) → WritesThrough i w d → w.depth ≡ suc d
deep _ w d (assigns o e) = e
deep _ w d (moves e) = e

pub ends_none : (i : Instr) (w : Lval) (d : ℕ) → WritesThrough i w d → (p : Operand) → i ≡ instr.End p → ⊥
ends_none _ w d (assigns o e) p f = absurd (cc f)
ends_none _ w d (moves e) p f = absurd (cc f)

short_typed : (table : Table) (e e2 : Entry) (i : Instr) (w : Lval) (d : ℕ) → WritesThrough i w d → InstrTypes table e i e2 → w.depth ≤ 8
short_typed table _ _ _ w d (assigns o q) (i_assign takes has opens kept shape below) = has.short
short_typed table _ _ _ w d (moves q) (i_move waits has moved free own_path) = has.short

module _ (k : Cluster) (n t : ℕ) (s : Server) (y : ThreadState) (i : Instr) (z : Steps k n t s y i) (w : Lval) (d : ℕ) (through : WritesThrough i w d) where
  abbrev x : Standing
  x = standing k n t s y i z

  abbrev c : HasPaths k
  c = paths k n t s y i z

  abbrev on : GoesOn k x
  on = goes k n t s y i z

  abbrev g : Ground
  g = (sight k).ground

  pub may : MayWrite k c.types x w
  may = may_write_there k c x on i w z.code (writes_to i w d through)

  pub short : w.depth ≤ 8
  short =
      let at_it = typed k n t s y i z in
      let to = to_entry (types k n t s y i z).table y.pc (entry k n t s y i z) i at_it.0 at_it.1 (ends_none i w d through) in
      short_typed (types k n t s y i z).table (entry k n t s y i z) to.0 i w d through to.1

  pub writes : written_place (path (sight k) x) ≡ Some w
  writes = ap (λ b. written_place (path_of b y)) z.code ∙ by i through
    where
      by : (i : Instr) → WritesThrough i w d → written_place (path_of (Some i) y) ≡ Some w
      by _ (assigns o e) = ap (λ m. written_place (assigning y.slots w m)) e
      by _ (moves e) = ap (λ m. written_place (taking w m)) e

  abbrev pub cell_there : ObjNo → Option Cell
  cell_there = C k n t s y i z w writes short may.base may.boxes may.type may.resolves may.unmarked

  abbrev pub place : ℕ → Option Location
  place = at k n t s y i z w writes short may.base may.boxes may.type may.resolves may.unmarked

  pub route : Route s.rest y cell_there place w.depth
  route = its_route k n t s y i z w writes short may.base may.boxes may.type may.resolves may.unmarked

  fresh_there : (j : ℕ) → j < w.depth → (l : Location) → place j ≡ Some l → IsStale (sight k) (Some l) → ⊥
  fresh_there j lt l located = writes_are_fresh k c x w j l on writes lt located

  -- the place with fewer stars
  may_so : (e : ℕ) → e ≤ w.depth → MayWrite k c.types x (record { slot = w.slot; depth = e })
  may_so e le =
      let q = shorter c.types.typing.exact true (slot_k y.number w.slot) (w.depth - e) w.depth e may.base may.boxes may.type (omega (arith, le)) may.resolves in
      record { free = may.free; base = q.base; boxes = q.boxes; type = q.type; resolves = q.res; unmarked = may.unmarked }

  pub written_there : (j : ℕ) → j < w.depth → (l : Location) (o : ObjNo) → place j ≡ Some l → place (suc j) ≡ Some (in_cell o) → IsWritten k l o
  written_there j lt l o located next =
      let fresh = fresh_there j lt l located in
      let h = hop_from g y.number w.slot j l (in_cell o) located next in
      let p = leads_pointer y.number h.0 o h.2 in
      let u : LiesUnder k p.0 = written_lie_there k z.coherent x w j l h.0 p.0 on (awake k n t s y i z) writes lt located h.1 p.1 in
      record {
        sole = written_are_sole k c x (record { slot = w.slot; depth = suc j }) l o on (may_so (suc j) (omega (arith, lt))) (record { stars = j; last = refl; pointer = located; leads = next }) fresh;
        fresh = fresh;
        lies = record { server = u.server; address = u.address; there = record { cell = u.there.cell; among = u.there.among; object = u.there.object ∙ p.2 } };
      }

  pub words_there : (j : ℕ) → j < w.depth → (l : Location) (p : BoxPtr) → place j ≡ Some l → place (suc j) ≡ Some (in_cell p.object) → BoxAt y cell_there l p → p.word ≡ z.coherent.sound.words.have_words.word p.object
  words_there j lt l p located next box = fresh_word k z.coherent.sound.words.have_words l (value.Own (owned.Box p)) p (stands box) refl (fresh_there j lt l located)
    where
      stands : BoxAt y cell_there l p → value_in g l ≡ Some (value.Own (owned.Box p))
      stands (in_a_slot m from e) = ap (value_in g) from ∙ ap (λ o. slot_of o m) (stands_there k c x on) ∙ e
      stands (in_a_cell o b from has boxed) = ap (value_in g) from ∙ ap value_of has ∙ ap (λ v. Some (value.Own v)) boxed
