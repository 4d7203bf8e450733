-- The turns of the loop over the threads that wait.
use Rattle.std.proofs.Common.{◌≡◌, ℕ, zero, suc, ◌+◌, ◌<◌, ◌≤◌, List, [], ◌∷◌, ◌++◌, length, get_or, Some, refl, sym, ap, ap₂, ◌∙◌, subst, arith}
use Rattle.std.specs.Prelude.{slice_get}
use Rattle.fr_base.specs.declared.instruction.Instr.{Instr}
use Rattle.fr_plain.specs.Run.{Run, steps_left}
use Rattle.fr_forms.specs.declared.forms.Form.{Form}
use Rattle.law_plain_table.specs.Bare.{bare}
use Rattle.law_plain_table.specs.CodeOf.{thread, code_of}
use Rattle.fr_compile.specs.declared.waiting.Waiting.{Waiting}
use Rattle.fr_compile.specs.Filling.{filled, waits}
use Rattle.fr_compile.specs.Emitting.{wait_of, waits_of, AllInside, IsAdded, IsPlaced}
use Rattle.fr_compile.proofs.Queue.{IsQueued, left, main_queued, all_steps, starts_within, one_more, fewer_left, all_queued}

module _ (fs : List Form) where
  -- main and the first so many threads have their code, and there is a form for each body
  abbrev pub AreTaken : List Instr → List Waiting → ℕ → Run → Type 0
  AreTaken c bs k r = IsQueued c (waits_of fs bs) k r × AllInside (length fs) bs

  waits_of_long : (bs : List Waiting) → length (waits_of fs bs) ≡ length bs
  waits_of_long [] = refl
  waits_of_long (b ∷ bs) = ap suc (waits_of_long bs)

  wait_at : (bs : List Waiting) (k : ℕ) (d : Waiting) → k < length bs → slice_get (waits_of fs bs) k ≡ Some (wait_of fs (get_or bs k d))
  wait_at [] k d lt = absurd (omega (arith, lt))
  wait_at (b ∷ bs) zero d lt = refl
  wait_at (b ∷ bs) (suc k) d lt = wait_at bs k d (omega (arith, lt))

  pub inside_at : (n : ℕ) (bs : List Waiting) (k : ℕ) (d : Waiting) → k < length bs → AllInside n bs → (get_or bs k d).body < n
  inside_at n [] k d lt h = absurd (omega (arith, lt))
  inside_at n (b ∷ bs) zero d lt h = h.0
  inside_at n (b ∷ bs) (suc k) d lt h = inside_at n bs k d (omega (arith, lt)) h.1

  empty : (a : List Instr) → length a ≡ 0 → a ≡ []
  empty [] h = refl
  empty (i ∷ a) h = absurd (omega (arith, h))

  -- main has its code
  pub main_taken : (a f : List Instr) (bs cs : List Waiting) (r : Run) → length a ≡ 0 → bs ≡ [] → IsAdded fs a f bs cs (thread r) → AreTaken f cs 0 r
  main_taken a f bs cs r none alone h =
      (main_queued f (waits_of fs cs) r (h.code ∙ ap (λ is. bare is ++ filled [] (thread r)) (empty a none)) (h.queue ∙ ap₂ (λ (us : List Waiting) (n : ℕ). waits_of fs us ++ waits n (thread r)) alone none), h.inside (subst (AllInside (length fs)) (sym alone) tt))

  -- the code is no longer than the program
  pub code_few : (c : List Instr) (bs : List Waiting) (k : ℕ) (r : Run) → AreTaken c bs k r → length c ≤ steps_left r + 1
  code_few c bs k r t = let l = all_steps c (waits_of fs bs) k r t.0 in omega (arith, l)

  module _ (c : List Instr) (bs : List Waiting) (k : ℕ) (r : Run) (d : Waiting) (lt : k < length bs) (t : AreTaken c bs k r) where
    -- the instruction that starts the next thread is there. That its place is within the code is known before the thread's code is added
    pub start_there : (get_or bs k d).start < length c
    start_there =
        let w = wait_of fs (get_or bs k d) in
        starts_within c (waits_of fs bs) k r w t.0 (wait_at bs k d lt)

    module _ (f : List Instr) (cs : List Waiting) (p : IsPlaced fs c f bs cs (get_or bs k d)) where
      pub next_taken : AreTaken f cs (k + 1) r
      next_taken = (one_more c f (waits_of fs bs) (waits_of fs cs) k r (wait_of fs (get_or bs k d)) t.0 (wait_at bs k d lt) p.code p.queue, p.inside t.1)

      pub next_fewer : left (waits_of fs cs) (k + 1) < left (waits_of fs bs) k
      next_fewer = fewer_left c f (waits_of fs bs) (waits_of fs cs) k r (wait_of fs (get_or bs k d)) t.0 (wait_at bs k d lt) p.code p.queue

  -- no thread waits
  pub all_taken : (c : List Instr) (bs : List Waiting) (k : ℕ) (r : Run) → length bs ≤ k → AreTaken c bs k r → bare c ≡ code_of r
  all_taken c bs k r done t = all_queued c (waits_of fs bs) k r t.0 (let l = waits_of_long bs in omega (arith, l, done))
