-- Two clusters that show alike: what a sum over threads sees of each thread but for words, marks and pins is the same in both.
use Rattle.std.proofs.Common.{◌≡◌, ℕ, ◌+◌, ◌==◌, ◌≤◌, Bool, true, false, not, ◌&&◌, List, [], ◌∷◌, reverse, map, Option, Some, None, option_map, refl, sym, ap, ap₂, ◌∙◌, arith}
use Rattle.std.specs.Bool.{⊤}
use Rattle.law_heap_still.specs.Below.fr_base.declared.name.ObjNo.{ObjNo}
use Rattle.law_heap_still.specs.Below.fr_base.declared.label.Plain.{Plain}
use Rattle.law_heap_still.specs.Below.thread_state.View.{ThreadState, is_over}
use Rattle.law_heap_still.specs.Below.thread_state.declared.phase.Phase.{Phase}
use Rattle.law_heap_still.specs.Below.thread_state.declared.phase.Phase.TheVariants as phase
use Rattle.law_heap_still.specs.Below.fr_code.CodeTypes.{Entry, Table}
use Rattle.law_heap_still.specs.Below.server_model.Servers.{Cluster}
use Rattle.law_heap_still.specs.Below.coherent_memory.Names.{tot, one, other, if_so}
use Rattle.law_heap_still.specs.Below.coherent_memory.Things.{Thing, stands, noted, things_of}
use Rattle.law_heap_still.specs.Below.coherent_memory.Follow.{Standing, threads_in}
use Rattle.law_heap_still.specs.Below.coherent_memory.Sight.{sight}
use Rattle.law_heap_still.specs.Below.coherent_memory.OneHeap.{two_in}
use Rattle.law_heap_still.specs.Below.coherent_types.Names.{NameTypes}
use Rattle.law_heap_still.specs.Below.coherent_types.ClusterTypes.{entry_wrong, forms_of, forms_wrong, slots_wrong, temps_wrong, locked_of, locked_wrong, gives_other, ends_wrong}
use Rattle.law_heap_still.proofs.Below.law_counts_sums.KnownSound.{on_standing, sum_standing}
use Rattle.law_heap_still.specs.events.Shows.{ShownThread, Sign, nothing, a_thread, frame_of, has_both, shown_thread, sign_of}
use Rattle.law_heap_still.proofs.events.Told.{tot_same}
use Rattle.law_heap_still.proofs.events.PlainValues.{unnoted, shown_of}
use Rattle.law_heap_still.proofs.events.Counting.{no_values}
use Rattle.law_heap_still.proofs.events.Alike.{HeedAlike}
use Rattle.law_types_still.proofs.threads.Bare.{bare, all_bared, bared_twice, reversed, slots_bare, temps_bare, locked_bare}

-- A THREAD WITHOUT WHAT ISN'T SHOWN

abbrev phase_of : Bool → Option (ℕ × ℕ) → Phase
phase_of true p = phase.Over
phase_of false None = phase.Ready
phase_of false (Some p) = phase.WaitPar p.0 p.1

abbrev pub bare_thread : ShownThread → ThreadState
bare_thread y = record {
  number = y.number;
  pc = y.pc;
  slots = map bare y.slots;
  temps = map bare y.temps;
  phase = phase_of y.is_over y.pair;
  passed = 0;
  walk = [];
  gift = None;
  made = y.made;
  moved_since_step = false;
  home = 0;
}

abbrev pub bare_standing : ShownThread → Standing
bare_standing y = record { server = 0; packed = false; thread = bare_thread y }

-- a weight of threads that sees no more
abbrev pub SeesFrames : (Standing → ℕ) → Type 0
SeesFrames f = (x : Standing) → f x ≡ f (bare_standing (shown_of x))

pub over_shown : (p : Phase) → is_over (phase_of (is_over p) (two_in p)) ≡ is_over p
over_shown phase.Ready = refl
over_shown (phase.WaitCell w) = refl
over_shown phase.Got = refl
over_shown (phase.Taken w) = refl
over_shown (phase.WaitLock m) = refl
over_shown (phase.WaitDup m) = refl
over_shown (phase.WaitJoin u) = refl
over_shown (phase.WaitPar a b) = refl
over_shown (phase.GotPar a b) = refl
over_shown phase.Over = refl

-- SUMS

module _ (k z : Cluster) (seen : ObjNo → Bool) (alike : HeedAlike seen (sight k) (things_of k) (things_of z)) where
  abbrev weight : (ShownThread → ℕ) → Sign → ℕ
  weight f (a_thread y q) = f y
  weight f x = 0

  is_weight : (f : ShownThread → ℕ) (x : Thing) → on_standing (λ s. f (shown_of s)) x ≡ weight f (sign_of x)
  is_weight f (stands r p t) = refl
  is_weight f (noted r x) = unnoted (weight f) refl (λ t d. refl) x.thread x.state
  is_weight f _ = refl

  in_signs : (f : ShownThread → ℕ) (c : Cluster) → tot (λ s. f (shown_of s)) (threads_in (things_of c)) ≡ tot (λ x. weight f (sign_of x)) (things_of c)
  in_signs f c = sym (sum_standing (λ s. f (shown_of s)) (things_of c)) ∙ tot_same (on_standing (λ s. f (shown_of s))) (λ x. weight f (sign_of x)) (is_weight f) (things_of c)

  pub same_shown : (f : ShownThread → ℕ) → tot (λ s. f (shown_of s)) (threads_in (things_of z)) ≡ tot (λ s. f (shown_of s)) (threads_in (things_of k))
  same_shown f =
      in_signs f z ∙ sym (alike (weight f) refl (no_values (sight k) (weight f) (λ p v. refl) (λ t d. refl) (λ y. refl), λ o v e. refl)) ∙ sym (in_signs f k)

  pub same_sum : (f : Standing → ℕ) → SeesFrames f → tot f (threads_in (things_of z)) ≡ tot f (threads_in (things_of k))
  same_sum f e =
      let g : Standing → ℕ = λ s. f (bare_standing (shown_of s)) in
      tot_same f g e (threads_in (things_of z)) ∙ same_shown (λ y. f (bare_standing y)) ∙ sym (tot_same f g e (threads_in (things_of k)))

  -- FORMS, LOCKS AND ENDS

  -- a sentence of a thread that isn't over, at its entry
  pub at_entry : (table : Table) (f : Standing → Entry → ℕ) → ((y : Entry) → SeesFrames (λ x. f x y)) → SeesFrames (λ x. if_so (not (is_over x.thread.phase)) (entry_wrong (f x) (table x.thread.pc)))
  at_entry table f e x = ap₂ (λ q n. if_so (not q) n) (sym (over_shown x.thread.phase)) (by (table x.thread.pc))
    where
      by : (o : Option Entry) → entry_wrong (f x) o ≡ entry_wrong (f (bare_standing (shown_of x))) o
      by None = refl
      by (Some y) = e y x

  forms_see : (n : NameTypes) (y : Entry) → SeesFrames (λ x. forms_of n x.thread y)
  forms_see n y x =
      ap₂ (λ a b. a + b) (slots_bare n y.env (reverse x.thread.slots) ∙ ap (λ l. slots_wrong n y.env l) (reversed x.thread.slots ∙ ap reverse (sym (bared_twice x.thread.slots))))
      (temps_bare n y.temps (reverse x.thread.temps) ∙ ap (λ l. temps_wrong n y.temps l) (reversed x.thread.temps ∙ ap reverse (sym (bared_twice x.thread.temps))))

  locked_sees : (n : NameTypes) (y : Entry) → SeesFrames (λ x. locked_of n y.env (reverse x.thread.slots))
  locked_sees n y x = locked_bare n y.env (reverse x.thread.slots) ∙ ap (λ l. locked_of n y.env l) (reversed x.thread.slots ∙ ap reverse (sym (bared_twice x.thread.slots)))

  pub same_forms : (table : Table) (n : NameTypes) → forms_wrong table n (sight z) ≡ forms_wrong table n (sight k)
  same_forms table n = same_sum (λ x. if_so (not (is_over x.thread.phase)) (entry_wrong (λ y. forms_of n x.thread y) (table x.thread.pc))) (at_entry table (λ x y. forms_of n x.thread y) (forms_see n))

  pub same_locked : (table : Table) (n : NameTypes) → locked_wrong table n (sight z) ≡ locked_wrong table n (sight k)
  same_locked table n =
      same_sum (λ x. if_so (not (is_over x.thread.phase)) (entry_wrong (λ y. locked_of n y.env (reverse x.thread.slots)) (table x.thread.pc)))
      (at_entry table (λ x y. locked_of n y.env (reverse x.thread.slots)) (locked_sees n))

  pub same_ends : (table : Table) (n : NameTypes) → ends_wrong table n (sight z) ≡ ends_wrong table n (sight k)
  same_ends table n = same_sum (λ x. entry_wrong (gives_other n x.thread.number) (table x.thread.pc)) (λ x. refl)
