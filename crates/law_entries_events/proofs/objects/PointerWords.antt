-- The word of each pointer stands in a thing.
use Rattle.std.proofs.Common.{◌≤◌, inl, inr, ⊎_elim, ℕ, ◌+◌, List, [], ◌∷◌, Option, Some, None, refl, subst, arith}
use Rattle.std.specs.Prelude.{slice_get}
use Rattle.law_runs_whole.specs.Below.law_words_ends.Below.fr_base.declared.instruction.Instr.{Instr}
use Rattle.law_runs_whole.specs.Below.law_words_ends.Below.fr_base.declared.instruction.Instr.TheVariants as instr
use Rattle.law_runs_whole.specs.Below.law_words_ends.Below.heap_partition.declared.value.Owned.{Owned}
use Rattle.law_runs_whole.specs.Below.law_words_ends.Below.heap_partition.declared.value.Owned.TheVariants as owned
use Rattle.law_runs_whole.specs.Below.law_words_ends.Below.thread_state.View.{ThreadState}
use Rattle.law_runs_whole.specs.Below.law_words_ends.Below.thread_state.declared.phase.Phase.{Phase}
use Rattle.law_runs_whole.specs.Below.law_words_ends.Below.thread_state.declared.phase.Phase.TheVariants as phase
use Rattle.law_runs_whole.specs.Below.law_words_ends.Below.server_msgs.declared.message.Message.{Message}
use Rattle.law_runs_whole.specs.Below.law_words_ends.Below.server_msgs.declared.message.Message.TheVariants as message
use Rattle.law_runs_whole.specs.Below.server_model.Servers.{Cluster}
use Rattle.law_runs_whole.specs.Below.coherent_memory.Names.{tot, Among}
use Rattle.law_runs_whole.specs.Below.coherent_memory.Things.{Location, in_cell, at_slot, at_temp, Thing, holds, shares, borrows, lies, flies, copied, uses, sent, stands, things_of}
use Rattle.law_runs_whole.specs.Below.coherent_memory.Follow.{Standing, Ground, threads_in, place_at}
use Rattle.law_runs_whole.specs.Below.coherent_memory.Sight.{Pointer, pointer_in, location_of, dropped_pointer, pointers_of, pointers_in, taken_object, taken_of, taken_pointers, sight}
use Rattle.law_runs_whole.specs.Below.coherent_memory.Placing.{owned_word, message_word, phase_word, words}
use Rattle.law_runs_whole.specs.Below.coherent_memory.Words.{all_pointers}
use Rattle.law_runs_whole.proofs.Below.law_words_ends.Below.coherent_memory.Bags.{among_split}
use Rattle.law_runs_whole.proofs.Below.law_words_ends.Below.law_heap_still.events.Told.{at_most}

module _ (g : ℕ → ℕ) where
  of_box : (l : Option Location) (v : Owned) (p : Pointer) → Among p (pointer_in l v) → g p.word ≤ owned_word g v
  of_box l (owned.Box b) p (inl e) = subst (λ z. g z.word ≤ g b.word) e (omega arith)
  of_box l (owned.Box b) p (inr h) = absurd h
  of_box l owned.Nothing p h = absurd h
  of_box l owned.Unit p h = absurd h
  of_box l (owned.Int i) p h = absurd h
  of_box l (owned.Mutex m) p h = absurd h
  of_box l (owned.Task t) p h = absurd h

  of_message : (m : Message) (p : Pointer) → Among p (dropped_pointer m) → g p.word ≤ message_word g m
  of_message (message.Drop w o) p (inl e) = subst (λ z. g z.word ≤ g w) e (omega arith)
  of_message (message.Drop w o) p (inr h) = absurd h
  of_message _ p h = absurd h

  of_thing : (x : Thing) (p : Pointer) → Among p (pointers_of x) → g p.word ≤ words g x
  of_thing (holds q v) p h = of_box (location_of q) v p h
  of_thing (shares l r) p (inl e) = subst (λ z. g z.word ≤ g r.word) e (omega arith)
  of_thing (shares l r) p (inr h) = absurd h
  of_thing (borrows l r) p (inl e) = subst (λ z. g z.word ≤ g r.word + g r.first) e (omega arith)
  of_thing (borrows l r) p (inr h) = absurd h
  of_thing (lies s a c) p h = of_box (Some (in_cell c.object)) c.value p h
  of_thing (flies w c) p (inl e) = subst (λ z. g z.word ≤ g w + owned_word g c.value) e (omega arith)
  of_thing (flies w c) p (inr h) = omega (arith, of_box (Some (in_cell c.object)) c.value p h)
  of_thing (sent s m) p h = of_message m p h
  of_thing _ p h = absurd h

  of_things : (b : List Thing) (p : Pointer) → Among p (pointers_in b) → g p.word ≤ tot (words g) b
  of_things [] p h = absurd h
  of_things (x ∷ b) p h =
      ⊎_elim (λ (y : Among p (pointers_of x)). let l = of_thing x p y in let m : g p.word ≤ words g x + tot (words g) b = omega (arith, l) in m)
      (λ (y : Among p (pointers_in b)). let l = of_things b p y in let m : g p.word ≤ words g x + tot (words g) b = omega (arith, l) in m) (among_split p (pointers_of x) (pointers_in b) h)

  -- what threads have taken
  of_place : (w : ℕ) (l : Option Location) (p : Pointer) → Among p (taken_object w l) → g p.word ≤ g w
  of_place w (Some (in_cell o)) p (inl e) = subst (λ z. g z.word ≤ g w) e (omega arith)
  of_place w (Some (in_cell o)) p (inr h) = absurd h
  of_place w (Some (at_slot t i)) p h = absurd h
  of_place w (Some (at_temp t i)) p h = absurd h
  of_place w None p h = absurd h

  of_thread : (gr : Ground) (t : ThreadState) (q : Phase) (i : Option Instr) (p : Pointer) → Among p (taken_of gr t q i) → g p.word ≤ phase_word g q
  of_thread gr t (phase.Taken w) (Some (instr.BorrowMut l)) p h = of_place w (place_at gr t.number l) p h
  of_thread gr t _ _ p h = absurd h

  standing_words : (b : List Thing) (x : Standing) → Among x (threads_in b) → phase_word g x.thread.phase ≤ tot (words g) b
  standing_words [] x h = absurd h
  standing_words (stands s p t ∷ b) x (inl e) = subst (λ (z : Standing). phase_word g z.thread.phase ≤ phase_word g t.phase + tot (words g) b) e (omega arith)
  standing_words (stands s p t ∷ b) x (inr h) = omega (arith, standing_words b x h)
  standing_words (_ ∷ b) x h = omega (arith, standing_words b x h)

  abbrev Taken : Pointer → List Standing → Type 0
  Taken p xs = (z : Standing) × Among z xs × (g p.word ≤ phase_word g z.thread.phase)

  of_taken : (code : List Instr) (gr : Ground) (xs : List Standing) (p : Pointer) → Among p (taken_pointers code gr xs) → Taken p xs
  of_taken code gr [] p h = absurd h
  of_taken code gr (x ∷ xs) p h =
      ⊎_elim (λ (y : Among p (taken_of gr x.thread x.thread.phase (slice_get code x.thread.pc))). here y) (λ (y : Among p (taken_pointers code gr xs)). later (of_taken code gr xs p y))
      (among_split p (taken_of gr x.thread x.thread.phase (slice_get code x.thread.pc)) (taken_pointers code gr xs) h)
    where
      here : Among p (taken_of gr x.thread x.thread.phase (slice_get code x.thread.pc)) → Taken p (x ∷ xs)
      here y = (x, inl refl, of_thread gr x.thread x.thread.phase (slice_get code x.thread.pc) p y)

      later : Taken p xs → Taken p (x ∷ xs)
      later r = (r.0, inr r.1, r.2)

  pub pointer_words : (z : Cluster) (p : Pointer) → Among p (all_pointers (sight z)) → g p.word ≤ tot (words g) (things_of z)
  pointer_words z p h =
      ⊎_elim (λ (y : Among p (pointers_in (things_of z))). of_things (things_of z) p y)
      (λ (y : Among p (taken_pointers (sight z).code (sight z).ground (sight z).ground.threads)). taken_so y) (among_split p (pointers_in (things_of z)) (taken_pointers (sight z).code (sight z).ground (sight z).ground.threads) h)
    where
      taken_so : Among p (taken_pointers (sight z).code (sight z).ground (sight z).ground.threads) → g p.word ≤ tot (words g) (things_of z)
      taken_so y = let r = of_taken (sight z).code (sight z).ground (sight z).ground.threads p y in let l = standing_words (things_of z) r.0 r.1 in let m = r.2 in omega (arith, l, m)

-- WHERE EACH WORD WEIGHS LESS

module _ (g h : ℕ → ℕ) (less : (u : ℕ) → g u ≤ h u) where
  owned_less : (v : Owned) → owned_word g v ≤ owned_word h v
  owned_less (owned.Box b) = less b.word
  owned_less v = omega arith

  message_less : (m : Message) → message_word g m ≤ message_word h m
  message_less (message.Fetch w o s t) = less w
  message_less (message.Fetched w c t) = omega (arith, less w, owned_less c.value)
  message_less (message.Move w o s t) = less w
  message_less (message.Drop w o) = less w
  message_less m = omega arith

  phase_less : (p : Phase) → phase_word g p ≤ phase_word h p
  phase_less (phase.WaitCell w) = less w
  phase_less (phase.Taken w) = less w
  phase_less p = omega arith

  thing_less : (x : Thing) → words g x ≤ words h x
  thing_less (holds p v) = owned_less v
  thing_less (shares l r) = less r.word
  thing_less (borrows l r) = omega (arith, less r.word, less r.first)
  thing_less (lies s a c) = owned_less c.value
  thing_less (flies w c) = omega (arith, less w, owned_less c.value)
  thing_less (copied s c) = omega (arith, less c.word, owned_less c.cell.value)
  thing_less (uses s w) = less w
  thing_less (sent s m) = message_less m
  thing_less (stands s p t) = phase_less t.phase
  thing_less x = omega arith

  pub words_less : (b : List Thing) → tot (words g) b ≤ tot (words h) b
  words_less b = at_most (words g) (words h) thing_less b
