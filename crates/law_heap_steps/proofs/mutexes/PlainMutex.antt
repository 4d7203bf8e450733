-- A thread of the plain machine goes on by an act at a mutex: the mutexes change, and the heap stays.
use Rattle.std.proofs.Common.{◌≡◌, ◌≢◌, ℕ, ◌+◌, Bool, true, false, if◌then◌else◌, List, [], ◌∷◌, ◌++◌, length, Option, Some, None, is_some, refl, sym, ap, ap₂, ◌∙◌, subst}
use Rattle.std.specs.Prelude.{slice_get}
use Rattle.law_heap_steps.proofs.Below.fr_typing.PlaceLemmas.{eq_cases}
use Rattle.law_heap_steps.specs.Below.fr_base.declared.label.Label.{Label}
use Rattle.law_heap_steps.specs.Below.fr_base.declared.label.Label.TheVariants as label
use Rattle.law_heap_steps.specs.Below.fr_base.declared.label.Plain.{Plain}
use Rattle.law_heap_steps.specs.Below.fr_base.declared.label.Plain.TheVariants as plain
use Rattle.law_heap_steps.specs.Below.fr_base.declared.name.MutexNo.{MutexNo}
use Rattle.law_heap_steps.specs.Below.fr_base.declared.name.ObjNo.{ObjNo}
use Rattle.law_heap_steps.specs.Below.fr_base.declared.place.Lval.{Lval}
use Rattle.law_heap_steps.specs.Below.fr_base.declared.step.Fresh.{Fresh}
use Rattle.law_heap_steps.specs.Below.fr_base.declared.step.Fresh.TheVariants as fresh
use Rattle.law_heap_steps.specs.Below.fr_base.declared.instruction.Instr.{Instr}
use Rattle.law_heap_steps.specs.Below.fr_plain.declared.value.Value.{Value}
use Rattle.law_heap_steps.specs.Below.fr_plain.declared.value.Value.TheVariants.{Own, Held}
use Rattle.law_heap_steps.specs.Below.fr_plain.Heap.{made_by}
use Rattle.law_heap_steps.specs.Below.fr_plain.MachineActs.{do_end, do_finish, do_leave, do_mutex, do_dup, do_lock, do_unlock, unit}
use Rattle.law_heap_steps.specs.Below.fr_plain.MachineThreads.{over, owing, loose, alive, ended, going, on_value, alone, next, Move, Mutex, Shared, thread_at, with_thread, with_mutex, mutex_at, mutex_there, pair_of, settle_life, life_move}
use Rattle.law_heap_steps.specs.Below.fr_plain.Machine.{done_act, moved, step_of, at_mutex, where_there, mutex_behind, shared, locked, locked_with, unlocked, given_back, goes_on}
use Rattle.law_heap_steps.specs.Below.fr_plain.PlainState.{SameState, running_in, is_over_in, two_of, plain_state}
use Rattle.law_heap_steps.proofs.Below.fr_plain.ByName.{there_of, put_in, put_at, put_off}
use Rattle.law_plain_values.proofs.acts.Mutexes.{mutex_cases, there_set, there_off, made_at, made_off}
use Rattle.law_heap_steps.specs.Below.fr_code.Machine.{CodeLife, CodeThread, CodeWhole, CodeStepped, CodeRunning, CodeState}
use Rattle.law_heap_steps.specs.Below.fr_code.Steps.{Place, CodeAct, code_move, code_moves, over_at}
use Rattle.law_heap_steps.specs.turns.Turns.{StepsTo}
use Rattle.law_heap_steps.proofs.turns.OneTurn.{Going, as_main, as_owing, as_loose, life_as}
use Rattle.law_heap_steps.proofs.turns.PlainTurn.{thread_as, running_as, goes_as, settled_as, found_as, state_at}
use Rattle.law_heap_steps.proofs.mutexes.OneThread.{GoesOn}

-- the thread goes on, with these mutexes
abbrev pub goes_with : CodeWhole → Going → ℕ → CodeRunning → List Mutex → List Label → CodeStepped
goes_with c g t q ms ls = record { state = record c { threads = with_thread c.threads (thread_as g t q); mutexes = ms }; labels = ls }

abbrev stepped_to : CodeWhole → List Label → Option CodeStepped
stepped_to c ls = Some (record { state = c; labels = ls })

-- THE STATE

module _ (code : List Instr) (c : CodeWhole) (t : ℕ) (p q : CodeRunning) (a b : CodeState) (turn : GoesOn t p q a b) (same : SameState (plain_state c) a) where
  pub found : thread_at c.threads t ≡ Some (thread_as turn.way t p)
  found = found_as c t turn.way p (same.threads t ∙ turn.before)

  abbrev w : CodeThread
  w = thread_as turn.way t q

  put : thread_at (with_thread c.threads w) t ≡ Some w
  put = put_at c.threads w t refl ∙ ap (put_in w) found

  pub thread_same : (u : ℕ) → running_in (thread_at (with_thread c.threads w) u) ≡ b.thread u
  thread_same u =
      eq_cases (λ r. running_in (thread_at (with_thread c.threads w) u) ≡ b.thread u) t u
      (λ e. subst (λ v. running_in (thread_at (with_thread c.threads w) v) ≡ b.thread v) e (ap running_in put ∙ ap Some (running_as turn.way q) ∙ sym turn.afterwards))
      (λ ne. ap running_in (put_off c.threads w u ne) ∙ same.threads u ∙ turn.others u ne)

  pub over_same : (u : ℕ) → is_over_in (thread_at (with_thread c.threads w) u) ≡ is_over_in (thread_at c.threads u)
  over_same u =
      eq_cases (λ r. is_over_in (thread_at (with_thread c.threads w) u) ≡ is_over_in (thread_at c.threads u)) t u
      (λ e. subst (λ v. is_over_in (thread_at (with_thread c.threads w) v) ≡ is_over_in (thread_at c.threads v)) e
      (ap is_over_in put ∙ goes_as turn.way q.place ∙ sym (ap is_over_in found ∙ goes_as turn.way p.place)))
      (λ ne. ap is_over_in (put_off c.threads w u ne))

  -- a thread that goes on so, with mutexes that show what is shown afterwards, takes the one state to the other
  pub steps_with : (names : Fresh) (ms : List Mutex) (ls : List Label) → step_of (code_moves code) c names (Some (thread_as turn.way t p)) ≡ Some (goes_with c turn.way t q ms ls)
      → ((u : ℕ) → a.made u ≡ b.made u) → ((o : ObjNo) → a.object o ≡ b.object o) → ((m : MutexNo) → mutex_there ms m ≡ b.mutex m) → ((m : MutexNo) → is_some (mutex_at ms m) ≡ b.is_given m) → StepsTo code c t names b ls
  steps_with names ms ls does made objects mutexes given = record {
    after = goes_with c turn.way t q ms ls;
    steps = ap (step_of (code_moves code) c names) found ∙ does;
    same = record {
      threads = thread_same;
      made = λ u. ap (λ r. if r then 0 else length (made_by c.heap u)) (over_same u) ∙ same.made u ∙ made u;
      pairs = λ u. ap (λ r. if r then None else two_of (pair_of c.pairs u)) (over_same u) ∙ same.pairs u ∙ turn.pairs u;
      objects = λ o. same.objects o ∙ objects o;
      mutexes = mutexes;
      given = given;
    };
    labelled = refl;
  }

-- THE ACTS

abbrev pub move_as : Going → CodeAct → (Value → Place) → Move Place CodeLife
move_as g a plug = record { act = a; plug = λ w. life_as g (plug w) }

module _ (code : List Instr) (p : CodeRunning) (a : CodeAct) (plug : Value → Place) (now : over_at (slice_get code p.place.pc) p.place.temps ≡ going)
    (move : code_move code p.place.pc p.place.temps ≡ Some (record { act = a; plug = plug })) where
  moves : (g : Going) → life_move (code_moves code) (life_as g p.place) ≡ Some (move_as g a plug)
  moves as_main = ap₂ (λ n m. on_value n (λ v. alone (λ x. over) (do_end v)) (next alive m)) now move
  moves as_owing = ap₂ (λ n m. on_value n (λ v. alone ended (do_finish v)) (next owing m)) now move
  moves as_loose = ap₂ (λ n m. on_value n (λ v. alone (λ x. over) (do_leave v)) (next loose m)) now move

  -- the step is that act
  pub acts : (g : Going) (c : CodeWhole) (t : ℕ) (names : Fresh) → step_of (code_moves code) c names (Some (thread_as g t p)) ≡ done_act (code_moves code) c (thread_as g t p) names (move_as g a plug) a
  acts g c t names = ap (moved (code_moves code) c (thread_as g t p) names) (moves g)

module _ (code : List Instr) (c : CodeWhole) (g : Going) (t : ℕ) (p : CodeRunning) (plug : Value → Place) where
  abbrev went_on : CodeLife → List Value → List Mutex → List Label → Option CodeStepped
  went_on l slots ms ls = Some (record { state = record c { threads = with_thread c.threads (record { number = t; life = l; slots = slots }); mutexes = ms }; labels = ls })

  settles : (v : Value) (slots : List Value) (ms : List Mutex) (ls : List Label)
      → went_on (settle_life (code_moves code) (life_as g (plug v))) slots ms ls ≡ Some (goes_with c g t (record { place = plug v; slots = slots }) ms ls)
  settles v slots ms ls =
      ap (λ l. went_on l slots ms ls) (settled_as code g (plug v))

  -- a dup: one share more
  pub dups : (w : Lval) (m : MutexNo) (ls : List Label) (x : Shared) → mutex_behind (state_at c t p.slots) w ≡ Some (m, ls) → mutex_there c.mutexes m ≡ Some x
      → done_act (code_moves code) c (thread_as g t p) fresh.None (move_as g (do_dup w) plug) (do_dup w)
      ≡ Some (goes_with c g t (record { place = plug (Own (plain.Mutex m)); slots = p.slots }) (with_mutex c.mutexes m (Some (record x { shares = x.shares + 1 }))) ls)
  dups w m ls x at there =
      let go = shared (code_moves code) c (thread_as g t p) (move_as g (do_dup w) plug) in
      ap (λ o. at_mutex (code_moves code) c o go) at ∙ ap (λ o. where_there (code_moves code) o (go m ls)) there ∙ settles (Own (plain.Mutex m)) p.slots (with_mutex c.mutexes m (Some (record x { shares = x.shares + 1 }))) ls

  -- a lock: the content comes out, behind the mark
  pub locks : (w : Lval) (m : MutexNo) (ls : List Label) (x : Shared) (v : Plain) → mutex_behind (state_at c t p.slots) w ≡ Some (m, ls) → mutex_there c.mutexes m ≡ Some x → x.content ≡ Some v
      → done_act (code_moves code) c (thread_as g t p) fresh.None (move_as g (do_lock w) plug) (do_lock w)
      ≡ Some (goes_with c g t (record { place = plug unit; slots = Own v ∷ Held m ∷ p.slots }) (with_mutex c.mutexes m (Some (record x { content = None }))) (ls ++ label.Lock m ∷ []))
  locks w m ls x v at there content =
      let go = locked (code_moves code) c (thread_as g t p) (move_as g (do_lock w) plug) in
      ap (λ o. at_mutex (code_moves code) c o go) at ∙ ap (λ o. where_there (code_moves code) o (go m ls)) there
      ∙ ap (locked_with (code_moves code) c (thread_as g t p) (move_as g (do_lock w) plug) m ls x) content ∙ settles unit (Own v ∷ Held m ∷ p.slots) (with_mutex c.mutexes m (Some (record x { content = None }))) (ls ++ label.Lock m ∷ [])

  -- an unlock: the content goes back, and its slot and the mark go
  pub unlocks : (m : MutexNo) (x : Shared) (v : Plain) (rest : List Value) → p.slots ≡ Own v ∷ Held m ∷ rest → mutex_there c.mutexes m ≡ Some x
      → done_act (code_moves code) c (thread_as g t p) fresh.None (move_as g do_unlock plug) do_unlock
      ≡ Some (goes_with c g t (record { place = plug unit; slots = rest }) (with_mutex c.mutexes m (Some (record x { content = Some v }))) (label.Unlock m ∷ []))
  unlocks m x v rest slots there =
      let ms = code_moves code in
      let T = thread_as g t p in
      let M = move_as g do_unlock plug in
      ap (unlocked ms c T M) slots ∙ ap (λ o. stepped_to (given_back ms (goes_on ms c T M unit rest) m v o) (label.Unlock m ∷ [])) there
      ∙ settles unit rest (with_mutex c.mutexes m (Some (record x { content = Some v }))) (label.Unlock m ∷ [])

  -- a new mutex
  pub makes : (m : MutexNo) (v : Plain) → is_some (mutex_at c.mutexes m) ≡ false
      → done_act (code_moves code) c (thread_as g t p) (fresh.Mutex m) (move_as g (do_mutex (Own v)) plug) (do_mutex (Own v))
      ≡ Some (goes_with c g t (record { place = plug (Own (plain.Mutex m)); slots = p.slots }) (c.mutexes ++ record { number = m; there = Some (record { content = Some v; shares = 1 }) } ∷ []) [])
  makes m v new =
      let ms2 = c.mutexes ++ record { number = m; there = Some (record { content = Some v; shares = 1 }) } ∷ [] in
      let T = thread_as g t p in
      let M = move_as g (do_mutex (Own v)) plug in
      ap (λ b. if b then None else stepped_to (record (goes_on (code_moves code) c T M (Own (plain.Mutex m)) p.slots) { mutexes = ms2 }) []) new ∙ settles (Own (plain.Mutex m)) p.slots ms2 []

-- THE MUTEXES

-- one mutex is changed
pub set_shows : (xs : List Mutex) (m : MutexNo) (new : Option Shared) (x : Shared) (then_at : MutexNo → Option Shared) → mutex_there xs m ≡ Some x → then_at m ≡ new → ((w : MutexNo) → w ≢ m → mutex_there xs w ≡ then_at w) → (w : MutexNo)
    → mutex_there (with_mutex xs m new) w ≡ then_at w
set_shows xs m new x then_at there e others w =
    mutex_cases (λ b. mutex_there (with_mutex xs m new) w ≡ then_at w) w m (λ f. ap (mutex_there (with_mutex xs m new)) f ∙ there_set xs m new x there ∙ sym e ∙ ap then_at (sym f)) (λ ne. there_off xs m new w ne ∙ others w ne)

-- one mutex is new
pub more_shows : (xs : List Mutex) (m : MutexNo) (new : Option Shared) (then_at : MutexNo → Option Shared) → mutex_at xs m ≡ None → then_at m ≡ new → ((w : MutexNo) → w ≢ m → mutex_there xs w ≡ then_at w) → (w : MutexNo)
    → mutex_there (xs ++ record { number = m; there = new } ∷ []) w ≡ then_at w
more_shows xs m new then_at none e others w =
    let it : Mutex = record { number = m; there = new } in
    mutex_cases (λ b. mutex_there (xs ++ it ∷ []) w ≡ then_at w) w m (λ f. ap (mutex_there (xs ++ it ∷ [])) f ∙ ap there_of (made_at xs it none) ∙ sym e ∙ ap then_at (sym f)) (λ ne. ap there_of (made_off xs it w ne) ∙ others w ne)

pub more_given : (xs : List Mutex) (m : MutexNo) (new : Option Shared) (given : MutexNo → Bool) → mutex_at xs m ≡ None → given m ≡ true → ((w : MutexNo) → w ≢ m → is_some (mutex_at xs w) ≡ given w) → (w : MutexNo)
    → is_some (mutex_at (xs ++ record { number = m; there = new } ∷ []) w) ≡ given w
more_given xs m new given none e others w =
    let it : Mutex = record { number = m; there = new } in
    mutex_cases (λ b. is_some (mutex_at (xs ++ it ∷ []) w) ≡ given w) w m (λ f. ap (λ v. is_some (mutex_at (xs ++ it ∷ []) v)) f ∙ ap is_some (made_at xs it none) ∙ sym e ∙ ap given (sym f)) (λ ne. ap is_some (made_off xs it w ne) ∙ others w ne)
