-- A thread of the plain machine goes on while the value of one object changes: a move out of a cell, and an assignment to one, which drops what was there.
use Rattle.std.proofs.Common.{◌≡◌, ◌≢◌, ℕ, if◌then◌else◌, List, ◌++◌, Some, None, refl, sym, ap, ap₂, ◌∙◌}
use Rattle.std.specs.Prelude.{slice_get}
use Rattle.law_heap_writes.proofs.Below.fr_store.Keys.{object_cases}
use Rattle.law_heap_writes.specs.Below.fr_base.declared.label.Label.{Label}
use Rattle.law_heap_writes.specs.Below.fr_base.declared.label.Plain.{Plain}
use Rattle.law_heap_writes.specs.Below.fr_base.declared.label.Plain.TheVariants as plain
use Rattle.law_heap_writes.specs.Below.fr_base.declared.name.MutexNo.{MutexNo}
use Rattle.law_heap_writes.specs.Below.fr_base.declared.name.ObjNo.{ObjNo}
use Rattle.law_heap_writes.specs.Below.fr_base.declared.step.Fresh.TheVariants as fresh
use Rattle.law_heap_writes.specs.Below.fr_base.declared.instruction.Instr.{Instr}
use Rattle.law_heap_writes.specs.Below.fr_plain.declared.value.Value.{Value}
use Rattle.law_heap_writes.specs.Below.fr_plain.declared.value.Value.TheVariants.{Own}
use Rattle.law_heap_writes.specs.Below.fr_plain.Heap.{Heap, cell_at, with_cell}
use Rattle.law_heap_writes.specs.Below.fr_plain.State.{without}
use Rattle.law_heap_writes.specs.Below.fr_plain.MachineActs.{act, drops_last, end_of}
use Rattle.law_heap_writes.specs.Below.fr_plain.MachineThreads.{going, Move, with_thread, pair_of, count_both, dropped}
use Rattle.law_heap_writes.specs.Below.fr_plain.Machine.{prints, done_act, alone_stepped, stepped, then_released, step_of}
use Rattle.law_heap_writes.specs.Below.fr_plain.PlainState.{SameState, two_of, plain_state}
use Rattle.law_heap_writes.proofs.Below.fr_plain.HeapLemmas.{live_made, cell_same, cell_other, made_kept}
use Rattle.law_heap_writes.specs.Below.fr_code.Machine.{CodeLife, CodeThread, CodeWhole, CodeStepped, CodeRunning, CodeState}
use Rattle.law_heap_writes.specs.Below.fr_code.Steps.{Place, CodeAct, code_move, code_moves, over_at}
use Rattle.law_heap_writes.specs.Below.law_heap_steps.turns.Turns.{StepsTo}
use Rattle.law_heap_writes.proofs.Below.law_heap_steps.turns.OneTurn.{Going}
use Rattle.law_heap_writes.proofs.Below.law_heap_steps.turns.PlainTurn.{thread_as, settled_as, state_at, none_released}
use Rattle.law_heap_writes.proofs.Below.law_heap_steps.mutexes.OneThread.{GoesOn}
use Rattle.law_heap_writes.proofs.Below.law_heap_steps.mutexes.PlainMutex.{found, acts, move_as, thread_same, over_same}

-- the thread has gone on, with that heap
abbrev pub goes_with_heap : CodeWhole → Going → ℕ → CodeRunning → Heap → List Label → CodeWhole
goes_with_heap c g t q h ls = record c { threads = with_thread c.threads (thread_as g t q); heap = h; output = c.output ++ prints ls }

module _ (code : List Instr) (c : CodeWhole) (g : Going) (t : ℕ) (p : CodeRunning) (a : CodeAct) (plug : Value → Place) (v : Value) (slots : List Value) (h : Heap) (ls : List Label) (now : over_at (slice_get code p.place.pc) p.place.temps ≡ going)
    (move : code_move code p.place.pc p.place.temps ≡ Some (record { act = a; plug = plug }))
    (lone : (z : CodeThread) (m : Move Place CodeLife) → done_act (code_moves code) c z fresh.None m a ≡ alone_stepped (code_moves code) c z m a) where
  abbrev acted : CodeLife → Heap → CodeWhole
  acted l z = record c { threads = with_thread c.threads (record { number = t; life = l; slots = slots }); heap = z; output = c.output ++ prints ls }

  -- nothing is dropped
  pub moves_then : act a (state_at c t p.slots) ≡ Some (record { value = v; state = record { thread = t; slots = slots; heap = h }; labels = ls }) → drops_last a (state_at c t p.slots) ≡ plain.Nothing
      → step_of (code_moves code) c fresh.None (Some (thread_as g t p)) ≡ Some (record { state = goes_with_heap c g t (record { place = plug v; slots = slots }) h ls; labels = ls })
  moves_then did last =
      let z = goes_with_heap c g t (record { place = plug v; slots = slots }) h ls in
      acts code p a plug now move g c t fresh.None ∙ lone (thread_as g t p) (move_as g a plug)
      ∙ ap₂ (λ d l. then_released l (stepped (code_moves code) c (thread_as g t p) (move_as g a plug) d)) did last
      ∙ ap (λ l. then_released plain.Nothing (Some (record { state = acted l h; labels = ls }))) (settled_as code g (plug v))
      ∙ ap (λ (r : CodeWhole). Some (labelled r)) (none_released (count_both z.mutexes z.threads) z)
    where
      labelled : CodeWhole → CodeStepped
      labelled r = record { state = r; labels = ls }

  -- or a value, from that heap
  pub drops_from : (old : Plain) → act a (state_at c t p.slots) ≡ Some (record { value = v; state = record { thread = t; slots = slots; heap = without h (Own old) }; labels = ls }) → drops_last a (state_at c t p.slots) ≡ end_of h (Own old)
      → step_of (code_moves code) c fresh.None (Some (thread_as g t p)) ≡ Some (record { state = dropped (goes_with_heap c g t (record { place = plug v; slots = slots }) h ls) old; labels = ls })
  drops_from old did last =
      acts code p a plug now move g c t fresh.None ∙ lone (thread_as g t p) (move_as g a plug)
      ∙ ap₂ (λ d l. then_released l (stepped (code_moves code) c (thread_as g t p) (move_as g a plug) d)) did last
      ∙ ap (λ l. then_released (end_of h (Own old)) (Some (record { state = acted l (without h (Own old)); labels = ls }))) (settled_as code g (plug v))

-- the thread has gone on in a state that shows all else as before, but for one object
module _ (code : List Instr) (c : CodeWhole) (t : ℕ) (p q : CodeRunning) (a b : CodeState) (o : ObjNo) (old new : Plain) (turn : GoesOn t p q a b) (same : SameState (plain_state c) a) (made : (u : ℕ) → a.made u ≡ b.made u)
    (it_before : a.object o ≡ Some old) (it_then : b.object o ≡ Some new) (others : (x : ObjNo) → x ≢ o → a.object x ≡ b.object x) (mutexes : (m : MutexNo) → a.mutex m ≡ b.mutex m) (given : (m : MutexNo) → a.is_given m ≡ b.is_given m) (ls : List Label) where
  abbrev pub heap_then : Heap
  heap_then = with_cell c.heap o (Some new)

  objects : (x : ObjNo) → cell_at heap_then x ≡ b.object x
  objects x =
      object_cases (λ r. cell_at heap_then x ≡ b.object x) x o (λ e. ap (cell_at heap_then) e ∙ cell_same c.heap o (Some new) (live_made c.heap o old (same.objects o ∙ it_before)) ∙ sym it_then ∙ ap (λ z. b.object z) (sym e))
      (λ ne. cell_other c.heap o x (Some new) ne ∙ same.objects x ∙ others x ne)

  pub heap_shows : SameState (plain_state (goes_with_heap c turn.way t q heap_then ls)) b
  heap_shows = record {
    threads = thread_same code c t p q a b turn same;
    made = λ u. ap₂ (λ r l. if r then 0 else l) (over_same code c t p q a b turn same u) (made_kept c.heap o (Some new) u) ∙ same.made u ∙ made u;
    pairs = λ u. ap (λ r. if r then None else two_of (pair_of c.pairs u)) (over_same code c t p q a b turn same u) ∙ same.pairs u ∙ turn.pairs u;
    objects = objects;
    mutexes = λ m. same.mutexes m ∙ mutexes m;
    given = λ m. same.given m ∙ given m;
  }

  -- its step leads there
  pub steps_there : step_of (code_moves code) c fresh.None (Some (thread_as turn.way t p)) ≡ Some (record { state = goes_with_heap c turn.way t q heap_then ls; labels = ls }) → StepsTo code c t fresh.None b ls
  steps_there does = record {
    after = record { state = goes_with_heap c turn.way t q heap_then ls; labels = ls };
    steps = ap (step_of (code_moves code) c fresh.None) (found code c t p q a b turn same) ∙ does;
    same = heap_shows;
    labelled = refl;
  }
