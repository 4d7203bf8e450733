-- A turn of one thread of the plain machine, with what that thread alone does.
use Rattle.std.proofs.Common.{◌≡◌, ℕ, zero, suc, false, if◌then◌else◌, List, ◌++◌, length, Option, Some, None, refl, sym, ap, ap₂, ◌∙◌, subst}
use Rattle.std.specs.Prelude.{slice_get}
use Rattle.law_words_kept.proofs.Below.fr_typing.PlaceLemmas.{eq_cases}
use Rattle.law_words_kept.specs.Below.fr_base.declared.label.Label.{Label}
use Rattle.law_words_kept.specs.Below.fr_base.declared.label.Plain.TheVariants as plain
use Rattle.law_words_kept.specs.Below.fr_base.declared.step.Fresh.TheVariants as fresh
use Rattle.law_words_kept.specs.Below.fr_base.declared.instruction.Instr.{Instr}
use Rattle.law_words_kept.specs.Below.fr_plain.declared.value.Value.{Value}
use Rattle.law_words_kept.specs.Below.fr_plain.Heap.{made_by}
use Rattle.law_words_kept.specs.Below.fr_plain.State.{State}
use Rattle.law_words_kept.specs.Below.fr_plain.MachineActs.{act, drops_last, do_end, do_finish, do_leave}
use Rattle.law_words_kept.specs.Below.fr_plain.MachineThreads.{alive, over, owing, loose, ended, going, on_value, alone, next, Move, thread_at, with_thread, is_over, pair_of, release_by, count_both, settle_life, life_move}
use Rattle.law_words_kept.specs.Below.fr_plain.Machine.{prints, alone_stepped, done_act, moved, then_released, stepped, step_of}
use Rattle.law_words_kept.specs.Below.fr_plain.PlainState.{SameState, running, running_in, is_over_in, two_of, plain_state}
use Rattle.law_words_kept.proofs.Below.fr_plain.ByName.{put_in, put_at, put_off, found_number}
use Rattle.law_words_kept.specs.Below.fr_code.Machine.{CodeLife, CodeThread, CodeWhole, CodeStepped, CodeRunning, CodeState}
use Rattle.law_words_kept.specs.Below.fr_code.Steps.{Place, CodeAct, code_move, code_moves, over_at}
use Rattle.law_heap_steps.specs.turns.Turns.{StepsTo}
use Rattle.law_heap_steps.proofs.turns.OneTurn.{Going, as_main, as_owing, as_loose, life_as, TurnOf}

-- THE THREAD

-- a thread that goes on so
abbrev pub thread_as : Going → ℕ → CodeRunning → CodeThread
thread_as g t p = record { number = t; life = life_as g p.place; slots = p.slots }

abbrev thread_of : ℕ → CodeLife → List Value → CodeThread
thread_of t l slots = record { number = t; life = l; slots = slots }

abbrev running_of : Place → List Value → CodeRunning
running_of p slots = record { place = p; slots = slots }

pub running_as : (g : Going) (p : CodeRunning) → running p.slots (life_as g p.place) ≡ life_as g p
running_as as_main p = refl
running_as as_owing p = refl
running_as as_loose p = refl

pub goes_as : (g : Going) (p : Place) → is_over (life_as g p) ≡ false
goes_as as_main p = refl
goes_as as_owing p = refl
goes_as as_loose p = refl

pub settled_as : (code : List Instr) (g : Going) (p : Place) → settle_life (code_moves code) (life_as g p) ≡ life_as g p
settled_as code as_main p = refl
settled_as code as_owing p = refl
settled_as code as_loose p = refl

of_running : (l : CodeLife) (slots : List Value) (g : Going) (p : CodeRunning) (t : ℕ) → running slots l ≡ life_as g p → thread_of t l slots ≡ thread_as g t p
of_running (alive q) slots as_main p t e = let same : running_of q slots ≡ p = cc in ap (thread_as as_main t) same
of_running (owing q) slots as_owing p t e = let same : running_of q slots ≡ p = cc in ap (thread_as as_owing t) same
of_running (loose q) slots as_loose p t e = let same : running_of q slots ≡ p = cc in ap (thread_as as_loose t) same
of_running (alive q) slots as_owing p t e = absurd (cc e)
of_running (alive q) slots as_loose p t e = absurd (cc e)
of_running (owing q) slots as_main p t e = absurd (cc e)
of_running (owing q) slots as_loose p t e = absurd (cc e)
of_running (loose q) slots as_main p t e = absurd (cc e)
of_running (loose q) slots as_owing p t e = absurd (cc e)
of_running over slots as_main p t e = absurd (cc e)
of_running over slots as_owing p t e = absurd (cc e)
of_running over slots as_loose p t e = absurd (cc e)
of_running (ended v) slots as_main p t e = absurd (cc e)
of_running (ended v) slots as_owing p t e = absurd (cc e)
of_running (ended v) slots as_loose p t e = absurd (cc e)

-- a thread that is shown so is that one
pub found_as : (c : CodeWhole) (t : ℕ) (g : Going) (p : CodeRunning) → running_in (thread_at c.threads t) ≡ Some (life_as g p) → thread_at c.threads t ≡ Some (thread_as g t p)
found_as c t g p e = by (thread_at c.threads t) refl e
  where
    by : (o : Option CodeThread) → thread_at c.threads t ≡ o → running_in o ≡ Some (life_as g p) → o ≡ Some (thread_as g t p)
    by None q e = absurd (cc e)
    by (Some z) q e =
        let same : running z.slots z.life ≡ life_as g p = cc in
        let number : z.number ≡ t = found_number c.threads t z q in
        ap Some (ap (λ n. thread_of n z.life z.slots) number ∙ of_running z.life z.slots g p t same)

-- THE STEP

-- the thread is there, and these labels were added
abbrev pub turned_to : CodeWhole → Going → ℕ → CodeRunning → List Label → CodeStepped
turned_to c g t q ls = record { state = record c { threads = with_thread c.threads (thread_as g t q); output = c.output ++ prints ls }; labels = ls }

-- from one place a thread comes to the other, whatever there is beside it
abbrev pub Does : List Instr → CodeRunning → CodeRunning → List Label → Type 0
Does code p q ls = (g : Going) (c : CodeWhole) (t : ℕ) → step_of (code_moves code) c fresh.None (Some (thread_as g t p)) ≡ Some (turned_to c g t q ls)

-- the same of thread t, in each state of the plain machine that shows this one
abbrev pub DoesIn : CodeState → List Instr → ℕ → CodeRunning → CodeRunning → List Label → Type 0
DoesIn a code t p q ls = (g : Going) (c : CodeWhole) → SameState (plain_state c) a → step_of (code_moves code) c fresh.None (Some (thread_as g t p)) ≡ Some (turned_to c g t q ls)

-- nothing is let go
pub none_released : (n : ℕ) (c : CodeWhole) → release_by n c plain.Nothing ≡ c
none_released zero c = refl
none_released (suc n) c = refl

abbrev pub state_at : CodeWhole → ℕ → List Value → State
state_at c t slots = record { thread = t; slots = slots; heap = c.heap }

-- an act of the thread alone that changes its slots, and drops nothing
module _ (code : List Instr) (p : CodeRunning) (a : CodeAct) (plug : Value → Place) (v : Value) (slots : List Value) (ls : List Label) (now : over_at (slice_get code p.place.pc) p.place.temps ≡ going)
    (move : code_move code p.place.pc p.place.temps ≡ Some (record { act = a; plug = plug }))
    (lone : (c : CodeWhole) (x : CodeThread) (m : Move Place CodeLife) → done_act (code_moves code) c x fresh.None m a ≡ alone_stepped (code_moves code) c x m a) where
  alone_at : (g : Going) (c : CodeWhole) (t : ℕ) → act a (state_at c t p.slots) ≡ Some (record { value = v; state = state_at c t slots; labels = ls }) → ((n : ℕ) (z : CodeWhole) → release_by n z (drops_last a (state_at c t p.slots)) ≡ z)
      → step_of (code_moves code) c fresh.None (Some (thread_as g t p)) ≡ Some (turned_to c g t (record { place = plug v; slots = slots }) ls)
  alone_at g c t did last =
      let m : Move Place CodeLife = record { act = a; plug = λ w. life_as g (plug w) } in
      let x : CodeThread = thread_as g t p in
      let going_on : life_move (code_moves code) (life_as g p.place) ≡ Some m = moves g in
      let acted : CodeLife → CodeStepped = λ l. record { state = record c { threads = with_thread c.threads (record { number = t; life = l; slots = slots }); output = c.output ++ prints ls }; labels = ls } in
      ap (moved (code_moves code) c x fresh.None) going_on ∙ lone c x m
      ∙ ap (λ d. then_released (drops_last a (state_at c t p.slots)) (stepped (code_moves code) c x m d)) did
      ∙ ap (λ l. then_released (drops_last a (state_at c t p.slots)) (Some (acted l))) (settled_as code g (plug v))
      ∙ ap (λ s. Some (record { state = s; labels = ls })) (last (count_both (acted (life_as g (plug v))).state.mutexes (acted (life_as g (plug v))).state.threads) (acted (life_as g (plug v))).state)
    where
      moves : (g : Going) → life_move (code_moves code) (life_as g p.place) ≡ Some (record { act = a; plug = λ w. life_as g (plug w) })
      moves as_main =
          ap₂ (λ n m. on_value n (λ v. alone (λ x. over) (do_end v)) (next alive m)) now move
      moves as_owing =
          ap₂ (λ n m. on_value n (λ v. alone ended (do_finish v)) (next owing m)) now move
      moves as_loose =
          ap₂ (λ n m. on_value n (λ v. alone (λ x. over) (do_leave v)) (next loose m)) now move

  pub alone_does : ((c : CodeWhole) (t : ℕ) → act a (state_at c t p.slots) ≡ Some (record { value = v; state = state_at c t slots; labels = ls })) → ((c : CodeWhole) (t : ℕ) → drops_last a (state_at c t p.slots) ≡ plain.Nothing)
      → Does code p (record { place = plug v; slots = slots }) ls
  alone_does did last g c t = alone_at g c t (did c t) (λ n z. ap (release_by n z) (last c t) ∙ none_released n z)

  -- where that depends on the heap
  pub alone_does_in : (b : CodeState) (t : ℕ) → ((c : CodeWhole) → SameState (plain_state c) b → act a (state_at c t p.slots) ≡ Some (record { value = v; state = state_at c t slots; labels = ls }))
      → ((c : CodeWhole) → drops_last a (state_at c t p.slots) ≡ plain.Nothing) → DoesIn b code t p (record { place = plug v; slots = slots }) ls
  alone_does_in b t did last g c same = alone_at g c t (did c same) (λ n z. ap (release_by n z) (last c) ∙ none_released n z)

  -- where what is dropped lets nothing go
  pub alone_drops_in : (b : CodeState) (t : ℕ) → ((c : CodeWhole) → SameState (plain_state c) b → act a (state_at c t p.slots) ≡ Some (record { value = v; state = state_at c t slots; labels = ls }))
      → ((c : CodeWhole) (n : ℕ) (z : CodeWhole) → release_by n z (drops_last a (state_at c t p.slots)) ≡ z) → DoesIn b code t p (record { place = plug v; slots = slots }) ls
  alone_drops_in b t did last g c same = alone_at g c t (did c same) (last c)

-- THE STATE

module _ (code : List Instr) (c : CodeWhole) (t : ℕ) (p q : CodeRunning) (a b : CodeState) (turn : TurnOf t p q a b) (same : SameState (plain_state c) a) where
  g : Going
  g = turn.way

  found : thread_at c.threads t ≡ Some (thread_as turn.way t p)
  found = found_as c t turn.way p (same.threads t ∙ turn.before)

  abbrev w : CodeThread
  w = thread_as turn.way t q

  put : thread_at (with_thread c.threads w) t ≡ Some w
  put = put_at c.threads w t refl ∙ ap (put_in w) found

  thread_same : (u : ℕ) → running_in (thread_at (with_thread c.threads w) u) ≡ b.thread u
  thread_same u =
      eq_cases (λ r. running_in (thread_at (with_thread c.threads w) u) ≡ b.thread u) t u
      (λ e. subst (λ v. running_in (thread_at (with_thread c.threads w) v) ≡ b.thread v) e (ap running_in put ∙ ap Some (running_as turn.way q) ∙ sym turn.afterwards))
      (λ ne. ap running_in (put_off c.threads w u ne) ∙ same.threads u ∙ turn.others u ne)

  over_same : (u : ℕ) → is_over_in (thread_at (with_thread c.threads w) u) ≡ is_over_in (thread_at c.threads u)
  over_same u =
      eq_cases (λ r. is_over_in (thread_at (with_thread c.threads w) u) ≡ is_over_in (thread_at c.threads u)) t u
      (λ e. subst (λ v. is_over_in (thread_at (with_thread c.threads w) v) ≡ is_over_in (thread_at c.threads v)) e
      (ap is_over_in put ∙ goes_as turn.way q.place ∙ sym (ap is_over_in found ∙ goes_as turn.way p.place)))
      (λ ne. ap is_over_in (put_off c.threads w u ne))

  -- a thread that does that on the plain machine takes the one state to the other
  pub turned : (ls : List Label) → DoesIn a code t p q ls → StepsTo code c t fresh.None b ls
  turned ls does = record {
    after = turned_to c turn.way t q ls;
    steps = ap (step_of (code_moves code) c fresh.None) found ∙ does turn.way c same;
    same = record {
      threads = thread_same;
      made = λ u. ap (λ r. if r then 0 else length (made_by c.heap u)) (over_same u) ∙ same.made u ∙ turn.made u;
      pairs = λ u. ap (λ r. if r then None else two_of (pair_of c.pairs u)) (over_same u) ∙ same.pairs u ∙ turn.pairs u;
      objects = λ o. same.objects o ∙ turn.objects o;
      mutexes = λ m. same.mutexes m ∙ turn.mutexes m;
      given = λ m. same.given m ∙ turn.given m;
    };
    labelled = refl;
  }
