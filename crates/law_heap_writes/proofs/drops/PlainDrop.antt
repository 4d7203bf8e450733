-- A step of the plain machine that drops an owned value: the thread goes on, and then the value goes.
use Rattle.std.proofs.Common.{◌≡◌, ℕ, if◌then◌else◌, List, [], ◌∷◌, ◌++◌, length, Option, Some, None, ap, ap₂, ◌∙◌}
use Rattle.std.specs.Prelude.{slice_get}
use Rattle.law_words_writes.specs.Below.law_results_reads.Below.fr_base.declared.label.Label.{Label}
use Rattle.law_words_writes.specs.Below.law_results_reads.Below.fr_base.declared.label.Label.TheVariants as label
use Rattle.law_words_writes.specs.Below.law_results_reads.Below.fr_base.declared.label.Plain.{Plain}
use Rattle.law_words_writes.specs.Below.law_results_reads.Below.fr_base.declared.name.MutexNo.{MutexNo}
use Rattle.law_words_writes.specs.Below.law_results_reads.Below.fr_base.declared.name.ObjNo.{ObjNo}
use Rattle.law_words_writes.specs.Below.law_results_reads.Below.fr_base.declared.step.Fresh.TheVariants as fresh
use Rattle.law_words_writes.specs.Below.law_results_reads.Below.fr_base.declared.instruction.Instr.{Instr}
use Rattle.law_words_writes.specs.Below.law_results_reads.Below.fr_plain.declared.value.Value.{Value}
use Rattle.law_words_writes.specs.Below.law_results_reads.Below.fr_plain.declared.value.Value.TheVariants.{Own, Held}
use Rattle.law_words_writes.specs.Below.law_results_reads.Below.fr_plain.Heap.{made_by}
use Rattle.law_words_writes.specs.Below.law_results_reads.Below.fr_plain.State.{without}
use Rattle.law_words_writes.specs.Below.law_results_reads.Below.fr_plain.MachineActs.{act, drops_last, end_of, unit, do_unlock}
use Rattle.law_words_writes.specs.Below.law_results_reads.Below.fr_plain.MachineThreads.{mutex_there, going, with_thread, pair_of, dropped}
use Rattle.law_words_writes.specs.Below.law_results_reads.Below.fr_plain.Machine.{unlocked, given_back, goes_on as machine_goes, prints, done_act, alone_stepped, stepped, then_released, step_of}
use Rattle.law_words_writes.specs.Below.law_results_reads.Below.fr_plain.PlainState.{SameState, two_of, plain_state}
use Rattle.law_words_writes.specs.Below.law_results_reads.Below.fr_code.Machine.{CodeLife, CodeWhole, CodeStepped, CodeRunning, CodeState}
use Rattle.law_words_writes.specs.Below.law_results_reads.Below.fr_code.Steps.{Place, CodeAct, code_move, code_moves, over_at}
use Rattle.law_heap_steps.proofs.turns.OneTurn.{Going}
use Rattle.law_heap_steps.proofs.turns.PlainTurn.{thread_as, settled_as, state_at}
use Rattle.law_heap_steps.proofs.mutexes.OneThread.{GoesOn}
use Rattle.law_heap_steps.proofs.mutexes.PlainMutex.{acts, move_as, thread_same, over_same}

-- the thread has gone on, and the value isn't dropped yet
abbrev pub goes_first : CodeWhole → Going → ℕ → CodeRunning → List Label → CodeWhole
goes_first c g t q ls = record c { threads = with_thread c.threads (thread_as g t q); output = c.output ++ prints ls }

module _ (code : List Instr) (c : CodeWhole) (g : Going) (t : ℕ) (p : CodeRunning) (a : CodeAct) (plug : Value → Place) (slots : List Value) (ls : List Label) (v : Plain) (now : over_at (slice_get code p.place.pc) p.place.temps ≡ going)
    (move : code_move code p.place.pc p.place.temps ≡ Some (record { act = a; plug = plug }))
    (lone : done_act (code_moves code) c (thread_as g t p) fresh.None (move_as g a plug) a ≡ alone_stepped (code_moves code) c (thread_as g t p) (move_as g a plug) a)
    (did : act a (state_at c t p.slots) ≡ Some (record { value = unit; state = record { thread = t; slots = slots; heap = without c.heap (Own v) }; labels = ls })) (last : drops_last a (state_at c t p.slots) ≡ end_of c.heap (Own v)) where
  abbrev acted : CodeLife → CodeWhole
  acted l = record c { threads = with_thread c.threads (record { number = t; life = l; slots = slots }); heap = without c.heap (Own v); output = c.output ++ prints ls }

  pub drops_then : step_of (code_moves code) c fresh.None (Some (thread_as g t p)) ≡ Some (record { state = dropped (goes_first c g t (record { place = plug unit; slots = slots }) ls) v; labels = ls })
  drops_then =
      acts code p a plug now move g c t fresh.None ∙ lone
      ∙ ap₂ (λ d l. then_released l (stepped (code_moves code) c (thread_as g t p) (move_as g a plug) d)) did last
      ∙ ap (λ l. then_released (end_of c.heap (Own v)) (Some (record { state = acted l; labels = ls }))) (settled_as code g (plug unit))

-- the thread has gone on in a state that shows all else as before
module _ (code : List Instr) (c : CodeWhole) (t : ℕ) (p q : CodeRunning) (a b : CodeState) (turn : GoesOn t p q a b) (same : SameState (plain_state c) a) (made : (u : ℕ) → a.made u ≡ b.made u) (objects : (o : ObjNo) → a.object o ≡ b.object o)
    (mutexes : (m : MutexNo) → a.mutex m ≡ b.mutex m) (given : (m : MutexNo) → a.is_given m ≡ b.is_given m) (ls : List Label) where
  pub first_shows : SameState (plain_state (goes_first c turn.way t q ls)) b
  first_shows = record {
    threads = thread_same code c t p q a b turn same;
    made = λ u. ap (λ r. if r then 0 else length (made_by c.heap u)) (over_same code c t p q a b turn same u) ∙ same.made u ∙ made u;
    pairs = λ u. ap (λ r. if r then None else two_of (pair_of c.pairs u)) (over_same code c t p q a b turn same u) ∙ same.pairs u ∙ turn.pairs u;
    objects = λ o. same.objects o ∙ objects o;
    mutexes = λ m. same.mutexes m ∙ mutexes m;
    given = λ m. same.given m ∙ given m;
  }

-- A CONTENT WHOSE MUTEX IS GONE

-- the thread has gone on past the unlock, and the content isn't dropped yet
abbrev pub unlocks_first : CodeWhole → Going → ℕ → CodeRunning → CodeWhole
unlocks_first c g t q = record c { threads = with_thread c.threads (thread_as g t q) }

module _ (code : List Instr) (c : CodeWhole) (g : Going) (t : ℕ) (p : CodeRunning) (plug : Value → Place) (m : MutexNo) (v : Plain) (rest : List Value) (slots : p.slots ≡ Own v ∷ Held m ∷ rest) (now : over_at (slice_get code p.place.pc) p.place.temps ≡ going)
    (move : code_move code p.place.pc p.place.temps ≡ Some (record { act = do_unlock; plug = plug })) (none : mutex_there c.mutexes m ≡ None) where
  abbrev then_gone : CodeLife → Option CodeStepped
  then_gone l = Some (record { state = dropped (record c { threads = with_thread c.threads (record { number = t; life = l; slots = rest }) }) v; labels = label.Unlock m ∷ [] })

  pub unlocks_then : step_of (code_moves code) c fresh.None (Some (thread_as g t p)) ≡ Some (record { state = dropped (unlocks_first c g t (record { place = plug unit; slots = rest })) v; labels = label.Unlock m ∷ [] })
  unlocks_then =
      let ms = code_moves code in
      let T = thread_as g t p in
      let M = move_as g do_unlock plug in
      acts code p do_unlock plug now move g c t fresh.None ∙ ap (unlocked ms c T M) slots ∙ ap (λ o. Some (record { state = given_back ms (machine_goes ms c T M unit rest) m v o; labels = label.Unlock m ∷ [] })) none ∙ ap then_gone (settled_as code g (plug unit))

module _ (code : List Instr) (c : CodeWhole) (t : ℕ) (p q : CodeRunning) (a b : CodeState) (turn : GoesOn t p q a b) (same : SameState (plain_state c) a) (made : (u : ℕ) → a.made u ≡ b.made u) (objects : (o : ObjNo) → a.object o ≡ b.object o)
    (mutexes : (m : MutexNo) → a.mutex m ≡ b.mutex m) (given : (m : MutexNo) → a.is_given m ≡ b.is_given m) where
  pub unlocks_shows : SameState (plain_state (unlocks_first c turn.way t q)) b
  unlocks_shows = record {
    threads = thread_same code c t p q a b turn same;
    made = λ u. ap (λ r. if r then 0 else length (made_by c.heap u)) (over_same code c t p q a b turn same u) ∙ same.made u ∙ made u;
    pairs = λ u. ap (λ r. if r then None else two_of (pair_of c.pairs u)) (over_same code c t p q a b turn same u) ∙ same.pairs u ∙ turn.pairs u;
    objects = λ o. same.objects o ∙ objects o;
    mutexes = λ m. same.mutexes m ∙ mutexes m;
    given = λ m. same.given m ∙ given m;
  }
