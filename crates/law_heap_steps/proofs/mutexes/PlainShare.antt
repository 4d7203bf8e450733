-- A dropped value of a mutex on the plain machine: where another share is left, the mutex has one share less.
use Rattle.std.proofs.Common.{◌≡◌, ℕ, zero, suc, ◌≤◌, ◌==◌, Bool, true, false, if◌then◌else◌, List, [], ◌∷◌, ◌++◌, length, Option, Some, refl, ap, ap₂, ◌∙◌, arith}
use Rattle.std.specs.Prelude.{slice_get}
use Rattle.std.proofs.lemmas.List.{append-nil}
use Rattle.law_heap_steps.specs.Below.fr_base.declared.label.Plain.TheVariants as plain
use Rattle.law_heap_steps.specs.Below.fr_base.declared.name.MutexNo.{MutexNo}
use Rattle.law_heap_steps.specs.Below.fr_base.declared.step.Fresh.TheVariants as fresh
use Rattle.law_heap_steps.specs.Below.fr_base.declared.instruction.Instr.{Instr}
use Rattle.law_heap_steps.specs.Below.fr_plain.declared.value.Value.{Value}
use Rattle.law_heap_steps.specs.Below.fr_plain.declared.value.Value.TheVariants.{Own}
use Rattle.law_heap_steps.specs.Below.fr_plain.Heap.{Heap, live, drop_links, last_link}
use Rattle.law_heap_steps.specs.Below.fr_plain.State.{without}
use Rattle.law_heap_steps.specs.Below.fr_plain.MachineActs.{act, drops_last, end_of, unit}
use Rattle.law_heap_steps.specs.Below.fr_plain.MachineThreads.{Mutex, Shared, going, thread_at, with_thread, with_mutex, mutex_there, release_by, share_released, share_gone, count_both}
use Rattle.law_heap_steps.specs.Below.fr_plain.Machine.{step_of, done_act, alone_stepped, stepped, then_released}
use Rattle.law_heap_steps.specs.Below.fr_code.Machine.{CodeLife, CodeThread, CodeWhole, CodeStepped, CodeRunning}
use Rattle.law_heap_steps.specs.Below.fr_code.Steps.{Place, CodeAct, code_move, code_moves, over_at}
use Rattle.law_heap_steps.proofs.turns.OneTurn.{Going}
use Rattle.law_heap_steps.proofs.turns.PlainTurn.{thread_as, settled_as, state_at}
use Rattle.law_heap_steps.proofs.mutexes.PlainMutex.{acts, move_as, goes_with}

-- it takes no object along
no_object : (n : ℕ) (h : Heap) (m : MutexNo) → drop_links n h (plain.Mutex m) ≡ h
no_object zero h m = refl
no_object (suc n) h m = refl

itself_last : (n : ℕ) (h : Heap) (m : MutexNo) → last_link n h (plain.Mutex m) ≡ plain.Mutex m
itself_last zero h m = refl
itself_last (suc n) h m = refl

-- where two shares are there, one goes
released : (n : ℕ) (z : CodeWhole) (m : MutexNo) (x : Shared) (j : ℕ) → mutex_there z.mutexes m ≡ Some x → x.shares ≡ suc (suc j) → 1 ≤ n → release_by n z (plain.Mutex m) ≡ record z { mutexes = with_mutex z.mutexes m (Some (record x { shares = suc j })) }
released zero z m x j e f l = absurd (omega (arith, l))
released (suc n) z m x j e f l = ap (share_released (release_by n) z m) e ∙ ap (share_gone (release_by n) z m x) f

-- some thread is there
counted : (ms : List Mutex) (ts : List CodeThread) (t : ℕ) (T w : CodeThread) → thread_at ts t ≡ Some T → 1 ≤ count_both ms (with_thread ts w)
counted (m ∷ ms) ts t T w e = omega arith
counted [] [] t T w e = absurd (cc e)
counted [] (x ∷ xs) t T w e = by (x.number == w.number)
  where
    by : (b : Bool) → 1 ≤ length (if b then w ∷ xs else x ∷ with_thread xs w)
    by true = omega arith
    by false = omega arith

module _ (code : List Instr) (c : CodeWhole) (g : Going) (t : ℕ) (p : CodeRunning) (a : CodeAct) (plug : Value → Place) (slots : List Value) (m : MutexNo) (x : Shared) (j : ℕ) (now : over_at (slice_get code p.place.pc) p.place.temps ≡ going)
    (move : code_move code p.place.pc p.place.temps ≡ Some (record { act = a; plug = plug })) (T : CodeThread) (it : thread_at c.threads t ≡ Some T) (there : mutex_there c.mutexes m ≡ Some x) (shares : x.shares ≡ suc (suc j))
    (lone : done_act (code_moves code) c (thread_as g t p) fresh.None (move_as g a plug) a ≡ alone_stepped (code_moves code) c (thread_as g t p) (move_as g a plug) a)
    (did : act a (state_at c t p.slots) ≡ Some (record { value = unit; state = record { thread = t; slots = slots; heap = without c.heap (Own (plain.Mutex m)) }; labels = [] })) (last : drops_last a (state_at c t p.slots) ≡ end_of c.heap (Own (plain.Mutex m))) where
  abbrev w : CodeThread
  w = thread_as g t (record { place = plug unit; slots = slots })

  abbrev acted : CodeLife → Heap → CodeWhole
  acted l h = record c { threads = with_thread c.threads (record { number = t; life = l; slots = slots }); heap = h; output = c.output ++ [] }

  abbrev stepped_to : CodeWhole → Option CodeStepped
  stepped_to z = Some (record { state = z; labels = [] })

  -- the thread goes on, with that share gone
  pub share_goes : step_of (code_moves code) c fresh.None (Some (thread_as g t p)) ≡ Some (goes_with c g t (record { place = plug unit; slots = slots }) (with_mutex c.mutexes m (Some (record x { shares = suc j }))) [])
  share_goes =
      let z : CodeWhole = acted w.life c.heap in
      acts code p a plug now move g c t fresh.None ∙ lone
      ∙ ap₂ (λ d l. then_released l (stepped (code_moves code) c (thread_as g t p) (move_as g a plug) d)) did (last ∙ itself_last (live c.heap) c.heap m)
      ∙ ap₂ (λ l h. then_released (plain.Mutex m) (stepped_to (acted l h))) (settled_as code g (plug unit)) (no_object (live c.heap) c.heap m)
      ∙ ap stepped_to (released (count_both z.mutexes z.threads) z m x j there shares (counted c.mutexes c.threads t T w it))
      ∙ ap (λ out. stepped_to (record c { threads = with_thread c.threads w; mutexes = with_mutex c.mutexes m (Some (record x { shares = suc j })); output = out })) (append-nil c.output)
