-- The end of a thread on the plain machine: main's result goes, that of a thread whose task somebody has is kept, and that of a thread that was let go goes too.
use Rattle.std.proofs.Common.{◌≡◌, ◌≢◌, ◌⊎◌, inl, inr, ℕ, true, if◌then◌else◌, List, [], ◌∷◌, ◌++◌, length, Option, Some, None, refl, sym, ap, ap₂, ◌∙◌, subst}
use Rattle.std.specs.Prelude.{slice_get}
use Rattle.law_heap_steps.proofs.Below.fr_typing.PlaceLemmas.{eq_cases}
use Rattle.law_heap_steps.specs.Below.fr_base.declared.label.Label.{Label}
use Rattle.law_heap_steps.specs.Below.fr_base.declared.label.Label.TheVariants as label
use Rattle.law_heap_steps.specs.Below.fr_base.declared.label.Plain.{Plain}
use Rattle.law_heap_steps.specs.Below.fr_base.declared.step.Fresh.TheVariants as fresh
use Rattle.law_heap_steps.specs.Below.fr_base.declared.instruction.Instr.{Instr}
use Rattle.law_heap_steps.specs.Below.fr_plain.declared.value.Value.{Value}
use Rattle.law_heap_steps.specs.Below.fr_plain.declared.value.Value.TheVariants.{Own}
use Rattle.law_heap_steps.specs.Below.fr_plain.Heap.{Heap, made_by}
use Rattle.law_heap_steps.specs.Below.fr_plain.MachineActs.{do_end, do_finish, do_leave, end_of}
use Rattle.law_heap_steps.specs.Below.fr_plain.MachineThreads.{Move, over, ended, owing, loose, alive, on_value, alone, next, thread_at, with_thread, is_over, pair_of, count_both}
use Rattle.law_heap_steps.specs.Below.fr_plain.Machine.{step_of, moved, prints, then_released}
use Rattle.law_heap_steps.specs.Below.fr_plain.PlainState.{SameState, running, running_in, is_over_in, two_of, plain_state}
use Rattle.law_heap_steps.proofs.Below.fr_plain.ByName.{put_in, put_at, put_off}
use Rattle.law_heap_steps.specs.Below.fr_code.Machine.{CodeLife, CodeThread, CodeWhole, CodeStepped, CodeRunning, CodeState}
use Rattle.law_heap_steps.specs.Below.fr_code.Steps.{Place, code_moves, over_at}
use Rattle.law_heap_steps.specs.turns.Turns.{StepsTo}
use Rattle.law_heap_steps.proofs.turns.OneTurn.{Going, as_main, as_owing, as_loose}
use Rattle.law_heap_steps.proofs.turns.PlainTurn.{thread_as, found_as, none_released}
use Rattle.law_heap_steps.proofs.turns.DropLines.{keeps_all, heap_stays, no_drops, none_last}
use Rattle.law_heap_steps.proofs.threads.ThreadEnds.{end_as, Ends}

ended_over : (g : Going) (v : Plain) → is_over {P = Place} (end_as g v) ≡ true
ended_over as_main v = refl
ended_over as_owing v = refl
ended_over as_loose v = refl

ended_shown : (slots : List Value) (g : Going) (v : Plain) → running {P = Place} slots (end_as g v) ≡ end_as g v
ended_shown slots as_main v = refl
ended_shown slots as_owing v = refl
ended_shown slots as_loose v = refl

module _ (code : List Instr) (c : CodeWhole) (t : ℕ) (v : Plain) (p : CodeRunning)
    (now : (f : Value → Option (Move Place CodeLife)) (z : Option (Move Place CodeLife)) → on_value (over_at (slice_get code p.place.pc) p.place.temps) f z ≡ f (Own v)) where
  abbrev ended_thread : Going → CodeThread
  ended_thread g = record { number = t; life = end_as g v; slots = p.slots }

  abbrev to : Going → Heap → List Label → CodeStepped
  to g h ls = record { state = record c { threads = with_thread c.threads (ended_thread g); heap = h; output = c.output ++ prints ls }; labels = ls }

  abbrev labelled_as : List Label → CodeWhole → Option CodeStepped
  labelled_as ls z = Some (record { state = z; labels = ls })

  abbrev End : List Label
  End = label.End t ∷ []

  -- where its drop lets nothing go, or it is kept
  ends_so : (g : Going) → (keeps_all (Own v) ≡ true) ⊎ (g ≡ as_owing) → step_of (code_moves code) c fresh.None (Some (thread_as g t p)) ≡ Some (to g c.heap End)
  ends_so as_owing q =
      let z = (to as_owing c.heap End).state in
      ap (moved (code_moves code) c (thread_as as_owing t p) fresh.None) (now (λ w. alone ended (do_finish w)) (next owing ((code_moves code).move p.place)))
      ∙ ap (labelled_as End) (none_released (count_both z.mutexes z.threads) z)
  ends_so as_main (inr d) = absurd (cc d)
  ends_so as_loose (inr d) = absurd (cc d)
  ends_so as_main (inl e) =
      let z = (to as_main c.heap End).state in
      ap (moved (code_moves code) c (thread_as as_main t p) fresh.None) (now (λ w. alone (λ x. over) (do_end w)) (next alive ((code_moves code).move p.place)))
      ∙ ap₂ (λ h ds. then_released (end_of c.heap (Own v)) (Some (to as_main h (ds ++ End)))) (heap_stays c.heap (Own v) e) (no_drops (Own v) e)
      ∙ ap (labelled_as End) (none_last (count_both z.mutexes z.threads) z c.heap (Own v) e)
  ends_so as_loose (inl e) =
      let z = (to as_loose c.heap End).state in
      ap (moved (code_moves code) c (thread_as as_loose t p) fresh.None) (now (λ w. alone (λ x. over) (do_leave w)) (next loose ((code_moves code).move p.place)))
      ∙ ap (λ h. then_released (end_of c.heap (Own v)) (Some (to as_loose h End))) (heap_stays c.heap (Own v) e)
      ∙ ap (labelled_as End) (none_last (count_both z.mutexes z.threads) z c.heap (Own v) e)

  module _ (a b : CodeState) (turn : Ends t v p a b) (same : SameState (plain_state c) a) (free : (keeps_all (Own v) ≡ true) ⊎ (turn.way ≡ as_owing)) where
    found : thread_at c.threads t ≡ Some (thread_as turn.way t p)
    found = found_as c t turn.way p (same.threads t ∙ turn.before)

    abbrev w : CodeThread
    w = ended_thread turn.way

    put : thread_at (with_thread c.threads w) t ≡ Some w
    put = put_at c.threads w t refl ∙ ap (put_in w) found

    -- what is so of this thread and of each other one is so of all
    by_thread : (P : ℕ → Type 0) → P t → ((u : ℕ) → t ≢ u → P u) → (u : ℕ) → P u
    by_thread P it others u = eq_cases (λ r. P u) t u (λ e. subst P e it) (others u)

    off : (u : ℕ) → t ≢ u → thread_at (with_thread c.threads w) u ≡ thread_at c.threads u
    off u ne = put_off c.threads w u ne

    over_it : is_over_in (thread_at (with_thread c.threads w) t) ≡ true
    over_it = ap is_over_in put ∙ ended_over turn.way v

    pub end_steps : StepsTo code c t fresh.None b End
    end_steps = record {
      after = to turn.way c.heap End;
      steps = ap (step_of (code_moves code) c fresh.None) found ∙ ends_so turn.way free;
      same = record {
        threads = by_thread (λ u. running_in (thread_at (with_thread c.threads w) u) ≡ b.thread u) (ap running_in put ∙ ap Some (ended_shown p.slots turn.way v) ∙ sym turn.afterwards) (λ u ne. ap running_in (off u ne) ∙ same.threads u ∙ turn.others u ne);
        made = by_thread (λ u. (if is_over_in (thread_at (with_thread c.threads w) u) then 0 else length (made_by c.heap u)) ≡ b.made u) (ap (λ r. if r then 0 else length (made_by c.heap t)) over_it ∙ sym turn.unmade)
            (λ u ne. ap (λ z. if is_over_in z then 0 else length (made_by c.heap u)) (off u ne) ∙ same.made u ∙ turn.made u ne);
        pairs = by_thread (λ u. (if is_over_in (thread_at (with_thread c.threads w) u) then None else two_of (pair_of c.pairs u)) ≡ b.pair u) (ap (λ r. if r then None else two_of (pair_of c.pairs t)) over_it ∙ sym turn.alone)
            (λ u ne. ap (λ z. if is_over_in z then None else two_of (pair_of c.pairs u)) (off u ne) ∙ same.pairs u ∙ turn.pairs u ne);
        objects = λ o. same.objects o ∙ turn.objects o;
        mutexes = λ m. same.mutexes m ∙ turn.mutexes m;
        given = λ m. same.given m ∙ turn.given m;
      };
      labelled = refl;
    }
