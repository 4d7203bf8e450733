-- A join on the plain machine: the thread goes on with the result, and the thread that it joined is over.
use Rattle.std.proofs.Common.{◌≡◌, ℕ, ◌==◌, true, false, if◌then◌else◌, List, [], length, Option, Some, None, refl, sym, ap, ap₂, ◌∙◌}
use Rattle.std.specs.Prelude.{slice_get}
use Rattle.std.proofs.lemmas.Bool.{eqb-true}
use Rattle.law_heap_steps.proofs.Below.fr_typing.PlaceLemmas.{eq_cases}
use Rattle.law_heap_steps.specs.Below.fr_base.declared.label.Plain.{Plain}
use Rattle.law_heap_steps.specs.Below.fr_base.declared.label.Plain.TheVariants as plain
use Rattle.law_heap_steps.specs.Below.fr_base.declared.step.Fresh.TheVariants as fresh
use Rattle.law_heap_steps.specs.Below.fr_base.declared.instruction.Instr.{Instr}
use Rattle.law_heap_steps.specs.Below.fr_plain.declared.value.Value.{Value}
use Rattle.law_heap_steps.specs.Below.fr_plain.declared.value.Value.TheVariants.{Own}
use Rattle.law_heap_steps.specs.Below.fr_plain.Heap.{made_by}
use Rattle.law_heap_steps.specs.Below.fr_plain.MachineActs.{do_join}
use Rattle.law_heap_steps.specs.Below.fr_plain.MachineThreads.{over, going, thread_at, with_thread, with_life, pair_of, result_in, result_of_life}
use Rattle.law_heap_steps.specs.Below.fr_plain.Machine.{step_of, joined_with}
use Rattle.law_heap_steps.specs.Below.fr_plain.PlainState.{SameState, running_in, is_over_in, two_of, plain_state}
use Rattle.law_heap_steps.proofs.Below.fr_plain.ByName.{put_in, put_at, put_off, found_number}
use Rattle.law_heap_steps.specs.Below.fr_code.Machine.{CodeLife, CodeThread, CodeWhole, CodeStepped, CodeRunning, CodeState}
use Rattle.law_heap_steps.specs.Below.fr_code.Steps.{Place, code_move, code_moves, over_at}
use Rattle.law_heap_steps.specs.turns.Turns.{StepsTo}
use Rattle.law_heap_steps.proofs.turns.PlainTurn.{thread_as, settled_as}
use Rattle.law_heap_steps.proofs.mutexes.PlainMutex.{acts, move_as}
use Rattle.law_heap_steps.proofs.threads.Taken.{ResultsTaken}
use Rattle.law_heap_steps.proofs.threads.PlainTaken.{Ended, ended_there, found, thread_same, over_same}

module _ (code : List Instr) (c : CodeWhole) (t u : ℕ) (v : Plain) (p : CodeRunning) (plug : Value → Place) (a b : CodeState) (turn : ResultsTaken t (λ r. r == u) v p (record { place = plug (Own v); slots = p.slots }) a b) (same : SameState (plain_state c) a)
    (alone : a.pair t ≡ None) (now : over_at (slice_get code p.place.pc) p.place.temps ≡ going) (move : code_move code p.place.pc p.place.temps ≡ Some (record { act = do_join (Own (plain.Task u)); plug = plug })) where
  abbrev q : CodeRunning
  q = record { place = plug (Own v); slots = p.slots }

  abbrev T : CodeThread
  T = thread_as turn.way t p

  abbrev w : CodeThread
  w = thread_as turn.way t q

  itself : (u == u) ≡ true
  itself = eq_cases (λ m. m ≡ true) u u (λ _. refl) (λ ne. absurd (ne refl))

  X : Ended v (thread_at c.threads u)
  X = ended_there c t (λ r. r == u) v p q a b turn same u itself

  abbrev gone : CodeThread
  gone = with_life X.thread over

  abbrev inner : List CodeThread
  inner = with_thread c.threads gone

  number : X.thread.number ≡ u
  number = found_number c.threads u X.thread X.there

  off : (r : ℕ) → (r == u) ≡ false → thread_at inner r ≡ thread_at c.threads r
  off r m = put_off c.threads gone r (λ e. cc (sym m ∙ ap (λ z. z == u) (sym (sym number ∙ e)) ∙ itself))

  its : (r : ℕ) → (r == u) ≡ true → (running_in (thread_at inner r) ≡ Some over) × (is_over_in (thread_at inner r) ≡ true)
  its r m =
      let there : thread_at inner r ≡ Some gone = put_at c.threads gone r (number ∙ sym (eqb-true r u m)) ∙ ap (put_in gone) (ap (thread_at c.threads) (eqb-true r u m) ∙ X.there) in
      (ap running_in there, ap is_over_in there)

  abbrev threads : List CodeThread
  threads = with_thread inner w

  ends : (r : ℕ) → is_over_in (thread_at threads r) ≡ is_over_in (thread_at c.threads r)
  ends = over_same c t (λ r. r == u) v p q a b turn same inner off its

  pair_same : (r : ℕ) → (if is_over_in (thread_at threads r) then None else two_of (pair_of c.pairs r)) ≡ b.pair r
  pair_same r =
      ap (λ m. if m then None else two_of (pair_of c.pairs r)) (ends r) ∙ same.pairs r
      ∙ eq_cases (λ m. a.pair r ≡ b.pair r) t r (λ e. ap (λ z. a.pair z) (sym e) ∙ alone ∙ sym turn.alone ∙ ap (λ z. b.pair z) e) (λ ne. turn.pairs r ne)

  abbrev went_on : CodeLife → Option CodeStepped
  went_on l = Some (record { state = record c { threads = with_thread inner (record { number = t; life = l; slots = p.slots }) }; labels = [] })

  does : step_of (code_moves code) c fresh.None (Some T) ≡ went_on w.life
  does =
      acts code p (do_join (Own (plain.Task u))) plug now move turn.way c t fresh.None
      ∙ ap₂ (joined_with (code_moves code) c T (move_as turn.way (do_join (Own (plain.Task u))) plug)) X.there (ap result_in X.there ∙ ap result_of_life X.life) ∙ ap went_on (settled_as code turn.way (plug (Own v)))

  pub join_steps : StepsTo code c t fresh.None b []
  join_steps = record {
    after = record { state = record c { threads = threads }; labels = [] };
    steps = ap (step_of (code_moves code) c fresh.None) (found c t (λ r. r == u) v p q a b turn same) ∙ does;
    same = record {
      threads = thread_same c t (λ r. r == u) v p q a b turn same inner off its;
      made = λ r. ap (λ m. if m then 0 else length (made_by c.heap r)) (ends r) ∙ same.made r ∙ turn.made r;
      pairs = pair_same;
      objects = λ o. same.objects o ∙ turn.objects o;
      mutexes = λ m. same.mutexes m ∙ turn.mutexes m;
      given = λ m. same.given m ∙ turn.given m;
    };
    labelled = refl;
  }
