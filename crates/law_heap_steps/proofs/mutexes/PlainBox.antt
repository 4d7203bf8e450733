-- A new object on the plain machine: the thread has made one more, and a box of it is its value.
use Rattle.std.proofs.Common.{◌≡◌, ◌≢◌, ℕ, ◌+◌, false, if◌then◌else◌, List, [], ◌∷◌, ◌++◌, length, Some, None, sym, ap, ◌∙◌, subst}
use Rattle.std.specs.Prelude.{slice_get}
use Rattle.std.proofs.lemmas.List.{length-append}
use Rattle.law_heap_steps.proofs.Below.fr_typing.PlaceLemmas.{eq_cases}
use Rattle.law_heap_steps.proofs.Below.fr_store.Keys.{object_cases}
use Rattle.law_heap_steps.specs.Below.fr_base.declared.name.MutexNo.{MutexNo}
use Rattle.law_heap_steps.specs.Below.fr_base.declared.name.ObjNo.{ObjNo}
use Rattle.law_heap_steps.specs.Below.fr_base.declared.label.Label.TheVariants as label
use Rattle.law_heap_steps.specs.Below.fr_base.declared.label.Plain.{Plain}
use Rattle.law_heap_steps.specs.Below.fr_base.declared.label.Plain.TheVariants as plain
use Rattle.law_heap_steps.specs.Below.fr_base.declared.step.Fresh.TheVariants as fresh
use Rattle.law_heap_steps.specs.Below.fr_base.declared.instruction.Instr.{Instr}
use Rattle.law_heap_steps.specs.Below.fr_plain.declared.value.Value.{Value}
use Rattle.law_heap_steps.specs.Below.fr_plain.declared.value.Value.TheVariants.{Own}
use Rattle.law_heap_steps.specs.Below.fr_plain.Heap.{Heap, made_by, cell_at, next_object, with_object}
use Rattle.law_heap_steps.specs.Below.fr_plain.MachineActs.{do_box}
use Rattle.law_heap_steps.specs.Below.fr_plain.MachineThreads.{going, thread_at, with_thread, pair_of, count_both}
use Rattle.law_heap_steps.specs.Below.fr_plain.Machine.{step_of, then_released}
use Rattle.law_heap_steps.specs.Below.fr_plain.PlainState.{SameState, is_over_in, two_of, plain_state}
use Rattle.law_heap_steps.proofs.Below.fr_plain.HeapLemmas.{made_same, made_other, new_same, new_other}
use Rattle.law_heap_steps.specs.Below.fr_code.Machine.{CodeLife, CodeWhole, CodeStepped, CodeRunning, CodeState}
use Rattle.law_heap_steps.specs.Below.fr_code.Steps.{Place, code_move, code_moves, over_at}
use Rattle.law_heap_steps.specs.turns.Turns.{StepsTo}
use Rattle.law_heap_steps.proofs.turns.PlainTurn.{thread_as, goes_as, settled_as, none_released}
use Rattle.law_heap_steps.proofs.mutexes.OneThread.{GoesOn}
use Rattle.law_heap_steps.proofs.mutexes.PlainMutex.{acts, found, thread_same, over_same}

module _ (code : List Instr) (c : CodeWhole) (t count : ℕ) (v : Plain) (p : CodeRunning) (plug : Value → Place) (a b : CodeState) (O : ObjNo) (named : O ≡ record { thread = t; count = count })
    (turn : GoesOn t p (record { place = plug (Own (plain.Box O)); slots = p.slots }) a b) (same : SameState (plain_state c) a)
    (now : over_at (slice_get code p.place.pc) p.place.temps ≡ going) (move : code_move code p.place.pc p.place.temps ≡ Some (record { act = do_box (Own v); plug = plug }))
    (made_before : a.made t ≡ count) (made_then : b.made t ≡ count + 1) (made_others : (u : ℕ) → t ≢ u → a.made u ≡ b.made u)
    (it_then : b.object O ≡ Some v) (others : (q : ObjNo) → q ≢ O → a.object q ≡ b.object q) (mutexes : (m : MutexNo) → a.mutex m ≡ b.mutex m) (given : (m : MutexNo) → a.is_given m ≡ b.is_given m) where
  abbrev q : CodeRunning
  q = record { place = plug (Own (plain.Box O)); slots = p.slots }

  there : thread_at c.threads t ≡ Some (thread_as turn.way t p)
  there = found code c t p q a b turn same

  goes : is_over_in (thread_at c.threads t) ≡ false
  goes = ap is_over_in there ∙ goes_as turn.way p.place

  abbrev named_as : ℕ → ℕ → ObjNo
  named_as u j = record { thread = u; count = j }

  abbrev stepped_to : CodeWhole → CodeStepped
  stepped_to r = record { state = r; labels = label.Make (next_object c.heap t) v ∷ [] }

  so_many : length (made_by c.heap t) ≡ count
  so_many = sym (ap (λ r. if r then 0 else length (made_by c.heap t)) goes) ∙ same.made t ∙ made_before

  name_is : next_object c.heap t ≡ O
  name_is = ap (λ (j : ℕ). named_as t j) so_many ∙ sym named

  abbrev h2 : Heap
  h2 = with_object c.heap t v

  abbrev to : Place → CodeStepped
  to z = record { state = record c { threads = with_thread c.threads (thread_as turn.way t (record { place = z; slots = p.slots })); heap = h2; output = c.output ++ [] }; labels = label.Make (next_object c.heap t) v ∷ [] }

  abbrev settled : CodeLife → CodeStepped
  settled l = record { state = record c { threads = with_thread c.threads (record { number = t; life = l; slots = p.slots }); heap = h2; output = c.output ++ [] }; labels = label.Make (next_object c.heap t) v ∷ [] }

  does : step_of (code_moves code) c fresh.None (Some (thread_as turn.way t p)) ≡ Some (to (plug (Own (plain.Box O))))
  does =
      let z = to (plug (Own (plain.Box O))) in
      acts code p (do_box (Own v)) plug now move turn.way c t fresh.None
      ∙ ap (λ l. then_released plain.Nothing (Some (settled l))) (settled_as code turn.way (plug (Own (plain.Box (next_object c.heap t)))))
      ∙ ap (λ r. then_released plain.Nothing (Some (to (plug (Own (plain.Box r)))))) name_is
      ∙ ap (λ (r : CodeWhole). Some (stepped_to r)) (none_released (count_both z.state.mutexes z.state.threads) z.state)

  made_here : length (made_by h2 t) ≡ count + 1
  made_here = ap length (made_same c.heap t (made_by c.heap t ++ Some v ∷ [])) ∙ length-append (made_by c.heap t) (Some v ∷ []) ∙ ap (λ j. j + 1) so_many

  ends : (u : ℕ) → is_over_in (thread_at (with_thread c.threads (thread_as turn.way t q)) u) ≡ is_over_in (thread_at c.threads u)
  ends = over_same code c t p q a b turn same

  made_all : (u : ℕ) → (if is_over_in (thread_at (with_thread c.threads (thread_as turn.way t q)) u) then 0 else length (made_by h2 u)) ≡ b.made u
  made_all u =
      ap (λ r. if r then 0 else length (made_by h2 u)) (ends u)
      ∙ eq_cases (λ r. (if is_over_in (thread_at c.threads u) then 0 else length (made_by h2 u)) ≡ b.made u) t u
      (λ e. subst (λ w. (if is_over_in (thread_at c.threads w) then 0 else length (made_by h2 w)) ≡ b.made w) e (ap (λ r. if r then 0 else length (made_by h2 t)) goes ∙ made_here ∙ sym made_then))
      (λ ne. ap (λ l. if is_over_in (thread_at c.threads u) then 0 else length l) (made_other c.heap t u (made_by c.heap t ++ Some v ∷ []) (λ e. ne (sym e))) ∙ same.made u ∙ made_others u ne)

  objects_all : (x : ObjNo) → cell_at h2 x ≡ b.object x
  objects_all x =
      object_cases (λ r. cell_at h2 x ≡ b.object x) x O (λ e. ap (cell_at h2) (e ∙ sym name_is) ∙ new_same c.heap t v ∙ sym it_then ∙ ap (λ z. b.object z) (sym e))
      (λ ne. new_other c.heap t x v (λ e. ne (e ∙ name_is)) ∙ same.objects x ∙ others x ne)

  pub box_steps : StepsTo code c t fresh.None b (label.Make O v ∷ [])
  box_steps = record {
    after = to (plug (Own (plain.Box O)));
    steps = ap (step_of (code_moves code) c fresh.None) there ∙ does;
    same = record {
      threads = thread_same code c t p q a b turn same;
      made = made_all;
      pairs = λ u. ap (λ r. if r then None else two_of (pair_of c.pairs u)) (ends u) ∙ same.pairs u ∙ turn.pairs u;
      objects = objects_all;
      mutexes = λ m. same.mutexes m ∙ mutexes m;
      given = λ m. same.given m ∙ given m;
    };
    labelled = ap (λ r. label.Make r v ∷ []) name_is;
  }
