-- The end of a thread of the plain machine whose result nobody will have: the thread is over, and then the result goes.
use Rattle.std.proofs.Common.{◌≡◌, ◌≢◌, ℕ, true, if◌then◌else◌, List, [], ◌∷◌, ◌++◌, length, Option, Some, None, refl, sym, ap, ◌∙◌, subst}
use Rattle.std.specs.Prelude.{slice_get}
use Rattle.law_words_writes.proofs.Below.law_results_reads.Below.fr_typing.PlaceLemmas.{eq_cases}
use Rattle.law_words_writes.specs.Below.law_results_reads.Below.fr_base.declared.label.Label.{Label}
use Rattle.law_words_writes.specs.Below.law_results_reads.Below.fr_base.declared.label.Label.TheVariants as label
use Rattle.law_words_writes.specs.Below.law_results_reads.Below.fr_base.declared.label.Plain.{Plain}
use Rattle.law_words_writes.specs.Below.law_results_reads.Below.fr_base.declared.step.Fresh.TheVariants as fresh
use Rattle.law_words_writes.specs.Below.law_results_reads.Below.fr_base.declared.instruction.Instr.{Instr}
use Rattle.law_words_writes.specs.Below.law_results_reads.Below.fr_plain.declared.value.Value.{Value}
use Rattle.law_words_writes.specs.Below.law_results_reads.Below.fr_plain.declared.value.Value.TheVariants.{Own}
use Rattle.law_words_writes.specs.Below.law_results_reads.Below.fr_plain.Heap.{made_by}
use Rattle.law_words_writes.specs.Below.law_results_reads.Below.fr_plain.State.{drops}
use Rattle.law_words_writes.specs.Below.law_results_reads.Below.fr_plain.MachineActs.{do_end, do_leave}
use Rattle.law_words_writes.specs.Below.law_results_reads.Below.fr_plain.MachineThreads.{over, alive, loose, on_value, alone, next, Move, thread_at, with_thread, is_over, pair_of, dropped}
use Rattle.law_words_writes.specs.Below.law_results_reads.Below.fr_plain.Machine.{prints, moved, step_of}
use Rattle.law_words_writes.specs.Below.law_results_reads.Below.fr_plain.PlainState.{SameState, running, running_in, is_over_in, two_of, plain_state}
use Rattle.law_words_writes.proofs.Below.law_results_reads.Below.fr_plain.ByName.{put_in, put_at, put_off}
use Rattle.law_words_writes.specs.Below.law_results_reads.Below.fr_code.Machine.{CodeLife, CodeThread, CodeWhole, CodeRunning, CodeState}
use Rattle.law_words_writes.specs.Below.law_results_reads.Below.fr_code.Steps.{Place, code_moves, over_at}
use Rattle.law_heap_steps.proofs.turns.OneTurn.{Going, as_main, as_owing, as_loose}
use Rattle.law_heap_steps.proofs.turns.PlainTurn.{thread_as, found_as}
use Rattle.law_heap_steps.proofs.threads.ThreadEnds.{Ends, end_as}

ended_over : (g : Going) (v : Plain) → is_over {P = Place} (end_as g v) ≡ true
ended_over as_main v = refl
ended_over as_owing v = refl
ended_over as_loose v = refl

ended_shown : (slots : List Value) (g : Going) (v : Plain) → running {P = Place} slots (end_as g v) ≡ end_as g v
ended_shown slots as_main v = refl
ended_shown slots as_owing v = refl
ended_shown slots as_loose v = refl

-- the labels of the end: main's result is dropped by it
abbrev pub end_labels : Going → ℕ → Plain → List Label
end_labels as_main t v = drops (Own v) ++ label.End t ∷ []
end_labels g t v = label.End t ∷ []

module _ (code : List Instr) (c : CodeWhole) (t : ℕ) (v : Plain) (p : CodeRunning)
    (now : (f : Value → Option (Move Place CodeLife)) (z : Option (Move Place CodeLife)) → on_value (over_at (slice_get code p.place.pc) p.place.temps) f z ≡ f (Own v)) where
  abbrev ended_thread : Going → CodeThread
  ended_thread g = record { number = t; life = end_as g v; slots = p.slots }

  -- the thread has ended, and its result isn't dropped yet
  abbrev pub ends_first : Going → CodeWhole
  ends_first g = record c { threads = with_thread c.threads (ended_thread g); output = c.output ++ prints (end_labels g t v) }

  pub ends_then : (g : Going) → (g ≡ as_owing → ⊥) → step_of (code_moves code) c fresh.None (Some (thread_as g t p)) ≡ Some (record { state = dropped (ends_first g) v; labels = end_labels g t v })
  ends_then as_main not = ap (moved (code_moves code) c (thread_as as_main t p) fresh.None) (now (λ w. alone (λ x. over) (do_end w)) (next alive ((code_moves code).move p.place)))
  ends_then as_loose not = ap (moved (code_moves code) c (thread_as as_loose t p) fresh.None) (now (λ w. alone (λ x. over) (do_leave w)) (next loose ((code_moves code).move p.place)))
  ends_then as_owing not = absurd (not refl)

  module _ (a b : CodeState) (turn : Ends t v p a b) (same : SameState (plain_state c) a) where
    pub found : thread_at c.threads t ≡ Some (thread_as turn.way t p)
    found = found_as c t turn.way p (same.threads t ∙ turn.before)

    abbrev w : CodeThread
    w = ended_thread turn.way

    put : thread_at (with_thread c.threads w) t ≡ Some w
    put = put_at c.threads w t refl ∙ ap (put_in w) found

    -- what is so of this thread and of each other one is so of all
    by_thread : (P : ℕ → Type 0) → P t → ((u : ℕ) → t ≢ u → P u) → (u : ℕ) → P u
    by_thread P it others u = eq_cases (λ r. P u) t u (λ e. subst P e it) (others u)

    off : (u : ℕ) → t ≢ u → thread_at (with_thread c.threads w) u ≡ thread_at c.threads u
    off u ne = put_off c.threads w u ne

    over_it : is_over_in (thread_at (with_thread c.threads w) t) ≡ true
    over_it = ap is_over_in put ∙ ended_over turn.way v

    pub end_shows : SameState (plain_state (ends_first turn.way)) b
    end_shows = record {
      threads = by_thread (λ u. running_in (thread_at (with_thread c.threads w) u) ≡ b.thread u) (ap running_in put ∙ ap Some (ended_shown p.slots turn.way v) ∙ sym turn.afterwards) (λ u ne. ap running_in (off u ne) ∙ same.threads u ∙ turn.others u ne);
      made = by_thread (λ u. (if is_over_in (thread_at (with_thread c.threads w) u) then 0 else length (made_by c.heap u)) ≡ b.made u) (ap (λ r. if r then 0 else length (made_by c.heap t)) over_it ∙ sym turn.unmade)
          (λ u ne. ap (λ z. if is_over_in z then 0 else length (made_by c.heap u)) (off u ne) ∙ same.made u ∙ turn.made u ne);
      pairs = by_thread (λ u. (if is_over_in (thread_at (with_thread c.threads w) u) then None else two_of (pair_of c.pairs u)) ≡ b.pair u) (ap (λ r. if r then None else two_of (pair_of c.pairs t)) over_it ∙ sym turn.alone)
          (λ u ne. ap (λ z. if is_over_in z then None else two_of (pair_of c.pairs u)) (off u ne) ∙ same.pairs u ∙ turn.pairs u ne);
      objects = λ o. same.objects o ∙ turn.objects o;
      mutexes = λ m. same.mutexes m ∙ turn.mutexes m;
      given = λ m. same.given m ∙ turn.given m;
    }
