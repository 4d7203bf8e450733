-- A thread starts another one on the plain machine.
use Rattle.std.proofs.Common.{◌≡◌, ◌≢◌, ℕ, if◌then◌else◌, List, [], ◌∷◌, ◌++◌, length, Option, Some, None, is_some, refl, sym, ap, ap₂, ◌∙◌, subst}
use Rattle.std.specs.Prelude.{slice_get}
use Rattle.law_heap_steps.proofs.Below.fr_typing.PlaceLemmas.{eq_cases}
use Rattle.law_heap_steps.specs.Below.fr_base.declared.name.MutexNo.{MutexNo}
use Rattle.law_heap_steps.specs.Below.fr_base.declared.name.ObjNo.{ObjNo}
use Rattle.law_heap_steps.specs.Below.fr_base.declared.label.Label.TheVariants as label
use Rattle.law_heap_steps.specs.Below.fr_base.declared.label.Plain.TheVariants as plain
use Rattle.law_heap_steps.specs.Below.fr_base.declared.step.Fresh.TheVariants as fresh
use Rattle.law_heap_steps.specs.Below.fr_base.declared.instruction.Instr.{Instr}
use Rattle.law_heap_steps.specs.Below.fr_plain.declared.value.Value.{Value}
use Rattle.law_heap_steps.specs.Below.fr_plain.declared.value.Value.TheVariants.{Own}
use Rattle.law_heap_steps.specs.Below.fr_plain.Heap.{made_by}
use Rattle.law_heap_steps.specs.Below.fr_plain.MachineActs.{Capture, do_spawn}
use Rattle.law_heap_steps.specs.Below.fr_plain.MachineThreads.{owing, going, pass, thread_at, with_thread, pair_of}
use Rattle.law_heap_steps.specs.Below.fr_plain.Machine.{step_of, started_with}
use Rattle.law_heap_steps.specs.Below.fr_plain.PlainState.{SameState, running_in, is_over_in, two_of, plain_state}
use Rattle.law_heap_steps.proofs.Below.fr_plain.ByName.{or_else, put_in, put_at, put_off, thread_more}
use Rattle.law_heap_steps.specs.Below.fr_code.Machine.{CodeLife, CodeThread, CodeWhole, CodeStepped, CodeRunning, CodeState}
use Rattle.law_heap_steps.specs.Below.fr_code.Steps.{Place, code_move, code_moves, over_at}
use Rattle.law_heap_steps.specs.turns.Turns.{StepsTo}
use Rattle.law_heap_steps.proofs.turns.OneTurn.{Going, life_as}
use Rattle.law_heap_steps.proofs.turns.PlainTurn.{thread_as, running_as, goes_as, settled_as, found_as}
use Rattle.law_heap_steps.proofs.mutexes.PlainMutex.{acts, move_as}

-- a thread goes on, and another one is new and owing, and the others are as they were
pub record Starts (t u : ℕ) (p q z : CodeRunning) (a b : CodeState) : Type 0 where
  pub way : Going
  pub before : a.thread t ≡ Some (life_as way p)
  pub afterwards : b.thread t ≡ Some (life_as way q)
  pub differ : t ≢ u
  pub unknown : a.thread u ≡ None
  pub started : b.thread u ≡ Some (owing z)
  pub others : (r : ℕ) → t ≢ r → u ≢ r → a.thread r ≡ b.thread r
  pub made : (r : ℕ) → a.made r ≡ b.made r
  pub pairs : (r : ℕ) → a.pair r ≡ b.pair r
  pub objects : (o : ObjNo) → a.object o ≡ b.object o
  pub mutexes : (m : MutexNo) → a.mutex m ≡ b.mutex m
  pub given : (m : MutexNo) → a.is_given m ≡ b.is_given m

module _ (code : List Instr) (c : CodeWhole) (t u : ℕ) (p : CodeRunning) (plug : Value → Place) (cs : List Capture) (body : Place) (left new : List Value) (a b : CodeState)
    (turn : Starts t u p (record { place = plug (Own (plain.Task u)); slots = left }) (record { place = body; slots = new }) a b) (same : SameState (plain_state c) a)
    (now : over_at (slice_get code p.place.pc) p.place.temps ≡ going) (move : code_move code p.place.pc p.place.temps ≡ Some (record { act = do_spawn cs body; plug = plug }))
    (passed : pass cs p.slots [] ≡ Some (record { left = left; new = new })) where
  abbrev q : CodeRunning
  q = record { place = plug (Own (plain.Task u)); slots = left }

  found : thread_at c.threads t ≡ Some (thread_as turn.way t p)
  found = found_as c t turn.way p (same.threads t ∙ turn.before)

  abbrev w : CodeThread
  w = thread_as turn.way t q

  abbrev one_new : CodeThread
  one_new = record { number = u; life = owing body; slots = new }

  abbrev inner : List CodeThread
  inner = with_thread c.threads w

  abbrev threads : List CodeThread
  threads = inner ++ one_new ∷ []

  none_there : (o : Option CodeThread) → running_in o ≡ None → o ≡ None
  none_there None e = refl
  none_there (Some x) e = absurd (cc e)

  unknown : thread_at c.threads u ≡ None
  unknown = none_there (thread_at c.threads u) (same.threads u ∙ turn.unknown)

  put : thread_at inner t ≡ Some w
  put = put_at c.threads w t refl ∙ ap (put_in w) found

  itself : thread_at threads t ≡ Some w
  itself = thread_more inner (one_new ∷ []) t ∙ ap (λ o. or_else o (thread_at (one_new ∷ []) t)) put

  the_new : thread_at threads u ≡ Some one_new
  the_new =
      thread_more inner (one_new ∷ []) u ∙ ap (λ o. or_else o (thread_at (one_new ∷ []) u)) (put_off c.threads w u turn.differ ∙ unknown)
      ∙ eq_cases (λ m. (if m then Some one_new else None) ≡ Some one_new) u u (λ _. refl) (λ ne. absurd (ne refl))

  other : (r : ℕ) → t ≢ r → u ≢ r → thread_at threads r ≡ thread_at c.threads r
  other r ne nu =
      thread_more inner (one_new ∷ []) r ∙ ap₂ or_else (put_off c.threads w r ne) (eq_cases (λ m. (if m then Some one_new else None) ≡ None) u r (λ e. absurd (nu e)) (λ _. refl)) ∙ none_else (thread_at c.threads r)
    where
      none_else : (o : Option CodeThread) → or_else o None ≡ o
      none_else None = refl
      none_else (Some x) = refl

  -- what is so of both and of each other one is so of all
  by_thread : (P : ℕ → Type 0) → P t → P u → ((r : ℕ) → t ≢ r → u ≢ r → P r) → (r : ℕ) → P r
  by_thread P it new_one others r = eq_cases (λ m. P r) t r (λ e. subst P e it) (λ ne. eq_cases (λ m. P r) u r (λ e. subst P e new_one) (λ nu. others r ne nu))

  over_same : (r : ℕ) → is_over_in (thread_at threads r) ≡ is_over_in (thread_at c.threads r)
  over_same =
      by_thread (λ r. is_over_in (thread_at threads r) ≡ is_over_in (thread_at c.threads r)) (ap is_over_in itself ∙ goes_as turn.way q.place ∙ sym (ap is_over_in found ∙ goes_as turn.way p.place)) (ap is_over_in the_new ∙ sym (ap is_over_in unknown))
      (λ r ne nu. ap is_over_in (other r ne nu))

  abbrev went_on : CodeLife → Option CodeStepped
  went_on l = Some (record { state = record c { threads = with_thread c.threads (record { number = t; life = l; slots = left }) ++ one_new ∷ [] }; labels = label.Start u ∷ [] })

  does : step_of (code_moves code) c (fresh.Thread u) (Some (thread_as turn.way t p)) ≡ went_on w.life
  does =
      let ms = code_moves code in
      let T = thread_as turn.way t p in
      let M = move_as turn.way (do_spawn cs body) plug in
      acts code p (do_spawn cs body) plug now move turn.way c t (fresh.Thread u)
      ∙ ap (λ m. if m then None else started_with ms c T M body u (pass cs p.slots [])) (ap is_some unknown) ∙ ap (started_with ms c T M body u) passed ∙ ap went_on (settled_as code turn.way (plug (Own (plain.Task u))))

  pub spawn_steps : StepsTo code c t (fresh.Thread u) b (label.Start u ∷ [])
  spawn_steps = record {
    after = record { state = record c { threads = threads }; labels = label.Start u ∷ [] };
    steps = ap (step_of (code_moves code) c (fresh.Thread u)) found ∙ does;
    same = record {
      threads = by_thread (λ r. running_in (thread_at threads r) ≡ b.thread r) (ap running_in itself ∙ ap Some (running_as turn.way q) ∙ sym turn.afterwards) (ap running_in the_new ∙ sym turn.started)
          (λ r ne nu. ap running_in (other r ne nu) ∙ same.threads r ∙ turn.others r ne nu);
      made = λ r. ap (λ m. if m then 0 else length (made_by c.heap r)) (over_same r) ∙ same.made r ∙ turn.made r;
      pairs = λ r. ap (λ m. if m then None else two_of (pair_of c.pairs r)) (over_same r) ∙ same.pairs r ∙ turn.pairs r;
      objects = λ o. same.objects o ∙ turn.objects o;
      mutexes = λ m. same.mutexes m ∙ turn.mutexes m;
      given = λ m. same.given m ∙ turn.given m;
    };
    labelled = refl;
  }
