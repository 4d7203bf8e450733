-- A thread starts a pair of threads on the plain machine, and waits for both.
use Rattle.std.proofs.Common.{◌≡◌, ◌≢◌, ℕ, ◌==◌, ◌||◌, false, if◌then◌else◌, List, [], ◌∷◌, ◌++◌, length, Option, Some, None, is_some, refl, sym, ap, ap₂, ◌∙◌, subst}
use Rattle.std.specs.Prelude.{slice_get}
use Rattle.law_heap_steps.proofs.Below.fr_typing.PlaceLemmas.{eq_cases}
use Rattle.law_heap_steps.specs.Below.fr_base.declared.name.MutexNo.{MutexNo}
use Rattle.law_heap_steps.specs.Below.fr_base.declared.name.ObjNo.{ObjNo}
use Rattle.law_heap_steps.specs.Below.fr_base.declared.label.Label.TheVariants as label
use Rattle.law_heap_steps.specs.Below.fr_base.declared.step.Fresh.TheVariants as fresh
use Rattle.law_heap_steps.specs.Below.fr_base.declared.instruction.Instr.{Instr}
use Rattle.law_heap_steps.specs.Below.fr_plain.declared.value.Value.{Value}
use Rattle.law_heap_steps.specs.Below.fr_plain.Heap.{made_by}
use Rattle.law_heap_steps.specs.Below.fr_plain.MachineActs.{Capture, do_par, unit}
use Rattle.law_heap_steps.specs.Below.fr_plain.MachineThreads.{Pair, owing, going, pass, thread_at, with_thread, pair_of}
use Rattle.law_heap_steps.specs.Below.fr_plain.Machine.{step_of, second_of, two_with}
use Rattle.law_heap_steps.specs.Below.fr_plain.PlainState.{SameState, running_in, is_over_in, two_of, plain_state}
use Rattle.law_heap_steps.proofs.Below.fr_plain.ByName.{or_else, put_in, put_at, put_off, thread_more}
use Rattle.law_heap_steps.specs.Below.fr_code.Machine.{CodeLife, CodeThread, CodeWhole, CodeStepped, CodeRunning, CodeState}
use Rattle.law_heap_steps.specs.Below.fr_code.Steps.{Place, code_move, code_moves, over_at}
use Rattle.law_heap_steps.specs.turns.Turns.{StepsTo}
use Rattle.law_heap_steps.proofs.turns.OneTurn.{Going, life_as}
use Rattle.law_heap_steps.proofs.turns.PlainTurn.{thread_as, running_as, goes_as, settled_as, found_as}
use Rattle.law_heap_steps.proofs.mutexes.PlainMutex.{acts, move_as}

-- a thread goes on and waits for two that are new and owing, and the others are as they were
pub record PairStarts (t u v : ℕ) (p q z y : CodeRunning) (a b : CodeState) : Type 0 where
  pub way : Going
  pub before : a.thread t ≡ Some (life_as way p)
  pub afterwards : b.thread t ≡ Some (life_as way q)
  pub first_differs : t ≢ u
  pub second_differs : t ≢ v
  pub two_differ : u ≢ v
  pub first_unknown : a.thread u ≡ None
  pub second_unknown : a.thread v ≡ None
  pub first_started : b.thread u ≡ Some (owing z)
  pub second_started : b.thread v ≡ Some (owing y)
  pub others : (r : ℕ) → t ≢ r → u ≢ r → v ≢ r → a.thread r ≡ b.thread r
  pub made : (r : ℕ) → a.made r ≡ b.made r
  pub waits : b.pair t ≡ Some (u, v)
  pub pairs : (r : ℕ) → t ≢ r → a.pair r ≡ b.pair r
  pub objects : (o : ObjNo) → a.object o ≡ b.object o
  pub mutexes : (m : MutexNo) → a.mutex m ≡ b.mutex m
  pub given : (m : MutexNo) → a.is_given m ≡ b.is_given m

module _ (code : List Instr) (c : CodeWhole) (t u v : ℕ) (p : CodeRunning) (plug : Value → Place) (cs : List Capture) (body : Place) (ds : List Capture) (body2 : Place) (mid left vs us : List Value) (a b : CodeState)
    (turn : PairStarts t u v p (record { place = plug unit; slots = left }) (record { place = body; slots = vs }) (record { place = body2; slots = us }) a b) (same : SameState (plain_state c) a)
    (now : over_at (slice_get code p.place.pc) p.place.temps ≡ going) (move : code_move code p.place.pc p.place.temps ≡ Some (record { act = do_par cs body ds body2; plug = plug }))
    (passed : pass cs p.slots [] ≡ Some (record { left = mid; new = vs })) (passed2 : pass ds mid [] ≡ Some (record { left = left; new = us })) where
  abbrev q : CodeRunning
  q = record { place = plug unit; slots = left }

  found : thread_at c.threads t ≡ Some (thread_as turn.way t p)
  found = found_as c t turn.way p (same.threads t ∙ turn.before)

  abbrev w : CodeThread
  w = thread_as turn.way t q

  abbrev new1 : CodeThread
  new1 = record { number = u; life = owing body; slots = vs }

  abbrev new2 : CodeThread
  new2 = record { number = v; life = owing body2; slots = us }

  abbrev inner : List CodeThread
  inner = with_thread c.threads w

  abbrev news : List CodeThread
  news = new1 ∷ new2 ∷ []

  abbrev threads : List CodeThread
  threads = inner ++ news

  none_there : (o : Option CodeThread) → running_in o ≡ None → o ≡ None
  none_there None e = refl
  none_there (Some x) e = absurd (cc e)

  none1 : thread_at c.threads u ≡ None
  none1 = none_there (thread_at c.threads u) (same.threads u ∙ turn.first_unknown)

  none2 : thread_at c.threads v ≡ None
  none2 = none_there (thread_at c.threads v) (same.threads v ∙ turn.second_unknown)

  itself : thread_at threads t ≡ Some w
  itself = thread_more inner news t ∙ ap (λ o. or_else o (thread_at news t)) (put_at c.threads w t refl ∙ ap (put_in w) found)

  the_first : thread_at threads u ≡ Some new1
  the_first =
      thread_more inner news u ∙ ap (λ o. or_else o (thread_at news u)) (put_off c.threads w u turn.first_differs ∙ none1)
      ∙ eq_cases (λ m. (if m then Some new1 else thread_at (new2 ∷ []) u) ≡ Some new1) u u (λ _. refl) (λ ne. absurd (ne refl))

  the_second : thread_at threads v ≡ Some new2
  the_second =
      thread_more inner news v ∙ ap (λ o. or_else o (thread_at news v)) (put_off c.threads w v turn.second_differs ∙ none2)
      ∙ eq_cases (λ m. (if m then Some new1 else thread_at (new2 ∷ []) v) ≡ Some new2) u v (λ e. absurd (turn.two_differ e)) (λ _. eq_cases (λ m. (if m then Some new2 else None) ≡ Some new2) v v (λ _. refl) (λ ne. absurd (ne refl)))

  other : (r : ℕ) → t ≢ r → u ≢ r → v ≢ r → thread_at threads r ≡ thread_at c.threads r
  other r ne nu nv =
      thread_more inner news r
      ∙ ap₂ or_else (put_off c.threads w r ne) (eq_cases (λ m. (if m then Some new1 else thread_at (new2 ∷ []) r) ≡ None) u r (λ e. absurd (nu e)) (λ _. eq_cases (λ m. (if m then Some new2 else None) ≡ None) v r (λ e. absurd (nv e)) (λ _. refl))) ∙ none_else (thread_at c.threads r)
    where
      none_else : (o : Option CodeThread) → or_else o None ≡ o
      none_else None = refl
      none_else (Some x) = refl

  -- what is so of these three and of each other one is so of all
  by_thread : (P : ℕ → Type 0) → P t → P u → P v → ((r : ℕ) → t ≢ r → u ≢ r → v ≢ r → P r) → (r : ℕ) → P r
  by_thread P it first second others r =
      eq_cases (λ m. P r) t r (λ e. subst P e it) (λ ne. eq_cases (λ m. P r) u r (λ e. subst P e first) (λ nu. eq_cases (λ m. P r) v r (λ e. subst P e second) (λ nv. others r ne nu nv)))

  over_same : (r : ℕ) → is_over_in (thread_at threads r) ≡ is_over_in (thread_at c.threads r)
  over_same =
      by_thread (λ r. is_over_in (thread_at threads r) ≡ is_over_in (thread_at c.threads r)) (ap is_over_in itself ∙ goes_as turn.way q.place ∙ sym (ap is_over_in found ∙ goes_as turn.way p.place)) (ap is_over_in the_first ∙ sym (ap is_over_in none1))
      (ap is_over_in the_second ∙ sym (ap is_over_in none2)) (λ r ne nu nv. ap is_over_in (other r ne nu nv))

  abbrev one_pair : Pair
  one_pair = record { parent = t; first = u; second = v }

  abbrev went_on : CodeLife → Option CodeStepped
  went_on l = Some (record { state = record c { threads = with_thread c.threads (record { number = t; life = l; slots = left }) ++ news; pairs = one_pair ∷ c.pairs }; labels = label.Start u ∷ label.Start v ∷ [] })

  all_new : u == v || is_some (thread_at c.threads u) || is_some (thread_at c.threads v) ≡ false
  all_new = ap₂ (λ x y. x || is_some y || is_some (thread_at c.threads v)) (eq_cases (λ m. m ≡ false) u v (λ e. absurd (turn.two_differ e)) (λ _. refl)) none1 ∙ ap is_some none2

  does : step_of (code_moves code) c (fresh.Threads u v) (Some (thread_as turn.way t p)) ≡ went_on w.life
  does =
      let ms = code_moves code in
      let T = thread_as turn.way t p in
      let M = move_as turn.way (do_par cs body ds body2) plug in
      acts code p (do_par cs body ds body2) plug now move turn.way c t (fresh.Threads u v)
      ∙ ap (λ m. if m then None else second_of ms c T M u body ds v body2 (pass cs p.slots [])) all_new ∙ ap (second_of ms c T M u body ds v body2) passed ∙ ap (two_with ms c T M u body vs v body2) passed2 ∙ ap went_on (settled_as code turn.way (plug unit))

  pub par_steps : StepsTo code c t (fresh.Threads u v) b (label.Start u ∷ label.Start v ∷ [])
  par_steps = record {
    after = record { state = record c { threads = threads; pairs = one_pair ∷ c.pairs }; labels = label.Start u ∷ label.Start v ∷ [] };
    steps = ap (step_of (code_moves code) c (fresh.Threads u v)) found ∙ does;
    same = record {
      threads = by_thread (λ r. running_in (thread_at threads r) ≡ b.thread r) (ap running_in itself ∙ ap Some (running_as turn.way q) ∙ sym turn.afterwards) (ap running_in the_first ∙ sym turn.first_started) (ap running_in the_second ∙ sym turn.second_started)
          (λ r ne nu nv. ap running_in (other r ne nu nv) ∙ same.threads r ∙ turn.others r ne nu nv);
      made = λ r. ap (λ m. if m then 0 else length (made_by c.heap r)) (over_same r) ∙ same.made r ∙ turn.made r;
      pairs = λ r.
          eq_cases (λ m. (if is_over_in (thread_at threads r) then None else two_of (if m then Some one_pair else pair_of c.pairs r)) ≡ b.pair r) t r
          (λ e. subst (λ z. (if is_over_in (thread_at threads z) then None else Some (u, v)) ≡ b.pair z) e (ap (λ m. if m then None else Some (u, v)) (ap is_over_in itself ∙ goes_as turn.way q.place) ∙ sym turn.waits))
          (λ ne. ap (λ m. if m then None else two_of (pair_of c.pairs r)) (over_same r) ∙ same.pairs r ∙ turn.pairs r ne);
      objects = λ o. same.objects o ∙ turn.objects o;
      mutexes = λ m. same.mutexes m ∙ turn.mutexes m;
      given = λ m. same.given m ∙ turn.given m;
    };
    labelled = refl;
  }
