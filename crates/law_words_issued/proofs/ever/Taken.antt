-- Of a thread that has taken an object the pointer from which it took it has a word that had been issued, where the pointers on its way are what they were.
use Rattle.std.proofs.Common.{◌≡◌, ℕ, zero, suc, Option, Some, None, List, [], ◌∷◌, refl, sym, ap, ◌∙◌, arith}
use Rattle.std.specs.Prelude.{slice_get}
use Rattle.std.proofs.lemmas.Bool.{eq-eqb}
use Rattle.law_words_issued.specs.Below.fr_base.declared.instruction.Instr.{Instr}
use Rattle.law_words_issued.specs.Below.fr_base.declared.instruction.Instr.TheVariants as instr
use Rattle.law_words_issued.specs.Below.fr_base.declared.place.Lval.{Lval}
use Rattle.law_words_issued.specs.Below.heap_partition.declared.value.Owned.TheVariants as owned
use Rattle.law_words_issued.specs.Below.thread_state.View.{is_over}
use Rattle.law_words_issued.specs.Below.thread_state.declared.phase.Phase.{Phase}
use Rattle.law_words_issued.specs.Below.thread_state.declared.phase.Phase.TheVariants as phase
use Rattle.law_words_issued.specs.Below.thread_state.declared.value.Value.{Value}
use Rattle.law_words_issued.specs.Below.thread_state.declared.value.Value.TheVariants as value
use Rattle.law_words_issued.specs.Below.server_model.Servers.{Cluster}
use Rattle.law_words_issued.specs.Below.coherent_memory.Names.{Among, tot, one}
use Rattle.law_words_issued.specs.Below.coherent_memory.Things.{Location}
use Rattle.law_words_issued.specs.Below.coherent_memory.Follow.{Standing, Ground, value_in, value_behind, locate, hop_at}
use Rattle.law_words_issued.specs.Below.coherent_memory.Sight.{Sight, sight}
use Rattle.law_words_issued.specs.Below.coherent_memory.Stale.{one_star_less, lent_place, with_place, lent_places}
use Rattle.law_words_issued.specs.Below.coherent_memory.Walking.{instr_of}
use Rattle.law_words_issued.specs.Below.coherent_memory.Coherent.{Holds, are_issued}
use Rattle.law_words_issued.proofs.Below.coherent_memory.Words.{none_all}
use Rattle.law_words_issued.specs.Below.law_words_paths.paths.HeapStore.{GoesOn}
use Rattle.law_words_issued.specs.Below.law_words_paths.words.Unmoved.{pointing}
use Rattle.law_walks_own.proofs.Below.law_walks_others.pointers.Sentences.{SameHops}
use Rattle.law_walks_own.proofs.taken.Stands.{took, took_it}
use Rattle.law_words_issued.specs.old.Old.{unissued, pointer_word, lent_words}
use Rattle.law_words_issued.proofs.old.Stood.{stood_behind}

-- the word of the pointer from which the thread has taken an object
abbrev pub lent_by : (ℕ → ℕ) → Sight → Standing → ℕ
lent_by f s x = pointer_word f (value_behind s.ground (lent_place s.ground x.thread.number x.thread.phase (slice_get s.code x.thread.pc)))

-- thread by thread
listed_none : (f : ℕ → ℕ) (code : List Instr) (g : Ground) (xs : List Standing) → tot (λ x. pointer_word f (value_behind g (lent_place g x.thread.number x.thread.phase (slice_get code x.thread.pc)))) xs ≡ 0 → tot (λ l. pointer_word f (value_in g l)) (lent_places code g xs) ≡ 0
listed_none f code g [] z = refl
listed_none f code g (x ∷ xs) z = by (lent_place g x.thread.number x.thread.phase (slice_get code x.thread.pc)) refl (listed_none f code g xs (omega (arith, z)))
  where
    by : (o : Option Location) → lent_place g x.thread.number x.thread.phase (slice_get code x.thread.pc) ≡ o → tot (λ l. pointer_word f (value_in g l)) (lent_places code g xs) ≡ 0 → tot (λ l. pointer_word f (value_in g l)) (with_place o (lent_places code g xs)) ≡ 0
    by None e rest = rest
    by (Some l) e rest = let mine : pointer_word f (value_behind g (lent_place g x.thread.number x.thread.phase (slice_get code x.thread.pc))) ≡ pointer_word f (value_in g l) = ap (λ o. pointer_word f (value_behind g o)) e in omega (arith, z, mine, rest)

pub each_none : (f : ℕ → ℕ) (z : Cluster) → ((x : Standing) → Among x (sight z).ground.threads → lent_by f (sight z) x ≡ 0) → lent_words f (sight z) ≡ 0
each_none f z h = listed_none f z.code (sight z).ground (sight z).ground.threads (none_all (lent_by f (sight z)) (sight z).ground.threads h)

-- only in `Taken` something is said
pub idle : (f : ℕ → ℕ) (g : Ground) (t : ℕ) (q : Phase) (i : Option Instr) → ((w : ℕ) → q ≡ phase.Taken w → pointer_word f (value_behind g (lent_place g t (phase.Taken w) i)) ≡ 0) → pointer_word f (value_behind g (lent_place g t q i)) ≡ 0
idle f g t (phase.Taken w) i h = h w refl
idle f g t phase.Ready i h = refl
idle f g t phase.Got i h = refl
idle f g t (phase.WaitCell w) i h = refl
idle f g t (phase.WaitLock m) i h = refl
idle f g t (phase.WaitDup m) i h = refl
idle f g t (phase.WaitJoin u) i h = refl
idle f g t (phase.WaitPar a b) i h = refl
idle f g t (phase.GotPar a b) i h = refl
idle f g t phase.Over i h = refl

-- and only at a mutable borrow
pub borrows_only : (f : ℕ → ℕ) (g : Ground) (t w : ℕ) (i : Option Instr) → ((p : Lval) (m : ℕ) → i ≡ Some (instr.BorrowMut p) → p.depth ≡ suc m → pointer_word f (hop_at g t p m) ≡ 0) → pointer_word f (value_behind g (lent_place g t (phase.Taken w) i)) ≡ 0
borrows_only f g t w (Some (instr.BorrowMut p)) h = by p.depth refl
  where
    by : (d : ℕ) → p.depth ≡ d → pointer_word f (value_behind g (one_star_less g t p.slot d)) ≡ 0
    by zero e = refl
    by (suc m) e = h p m refl e
borrows_only f g t w None h = refl
borrows_only f g t w (Some (instr.Let o)) h = refl
borrows_only f g t w (Some (instr.Assign p o)) h = refl
borrows_only f g t w (Some (instr.Read p b)) h = refl
borrows_only f g t w (Some (instr.Borrow p)) h = refl
borrows_only f g t w (Some (instr.Box o)) h = refl
borrows_only f g t w (Some (instr.Arith a b c)) h = refl
borrows_only f g t w (Some (instr.Print o)) h = refl
borrows_only f g t w (Some instr.Discard) h = refl
borrows_only f g t w (Some instr.DropSlot) h = refl
borrows_only f g t w (Some (instr.Spawn cs pc)) h = refl
borrows_only f g t w (Some (instr.Join o)) h = refl
borrows_only f g t w (Some (instr.Mutex o)) h = refl
borrows_only f g t w (Some (instr.Dup p)) h = refl
borrows_only f g t w (Some (instr.Lock p)) h = refl
borrows_only f g t w (Some instr.Unlock) h = refl
borrows_only f g t w (Some (instr.Par cs pc ds other)) h = refl
borrows_only f g t w (Some instr.ParEnd) h = refl
borrows_only f g t w (Some (instr.End o)) h = refl

-- a pointer's word is seen where its pin isn't
pointed : (f : ℕ → ℕ) (v : Option Value) → pointer_word f (pointing v) ≡ pointer_word f v
pointed f None = refl
pointed f (Some (value.Own (owned.Box p))) = refl
pointed f (Some (value.Own v)) = refl
pointed f (Some (value.Mut r)) = refl
pointed f (Some v) = refl

module _ (k : Cluster) (all : Holds k are_issued) where
  -- who had taken something, and stands as it stood
  pub kept : (z : Cluster) → z.code ≡ k.code → (x y : Standing) → Among x (sight k).ground.threads → ((g : Standing → ℕ) → g y ≡ g x)
      → ((p : Lval) → GoesOn k x → instr_of (sight k) x ≡ Some (instr.BorrowMut p) → SameHops k z x.thread.number p) → lent_by (unissued k) (sight z) y ≡ 0
  kept z code x y listed same hops =
      idle (unissued k) (sight z).ground y.thread.number y.thread.phase (slice_get z.code y.thread.pc) (λ w is.
      let was : x.thread.phase ≡ phase.Taken w = took_it w x.thread.phase (sym (same (λ q. took w q.thread.phase)) ∙ ap (took w) is ∙ ap one (eq-eqb w w refl)) in
      let goes : GoesOn k x = record { among = listed; going = ap is_over was } in
      let number : y.thread.number ≡ x.thread.number = same (λ v. v.thread.number) in
      let pc : y.thread.pc ≡ x.thread.pc = same (λ v. v.thread.pc) in
      borrows_only (unissued k) (sight z).ground y.thread.number w (slice_get z.code y.thread.pc) (λ p m at deep.
      let at_then : instr_of (sight k) x ≡ Some (instr.BorrowMut p) = sym (ap (slice_get k.code) pc) ∙ sym (ap (λ cs. slice_get cs y.thread.pc) code) ∙ at in
      let hop = hops p goes at_then m (omega (arith, deep)) in
      ap (λ n. pointer_word (unissued k) (hop_at (sight z).ground n p m)) number
      ∙ sym (pointed (unissued k) (hop_at (sight z).ground x.thread.number p m)) ∙ ap (pointer_word (unissued k)) hop ∙ pointed (unissued k) (hop_at (sight k).ground x.thread.number p m)
      ∙ stood_behind k (unissued k) all (locate (sight k).ground x.thread.number p.slot m)))
