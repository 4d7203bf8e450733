-- The end of a drop of the task of a thread that goes on: nobody owns that thread any more.
use Rattle.std.proofs.Common.{◌≡◌, ◌≢◌, ⊎_elim, ◌∙◌, ℕ, ◌<◌, Some, None, refl, sym, ap, subst}
use Rattle.fr_base.specs.declared.label.Plain.{Plain}
use Rattle.fr_base.specs.declared.label.Plain.TheVariants as plain
use Rattle.fr_base.specs.declared.name.ObjNo.{ObjNo}
use Rattle.fr_base.specs.declared.name.MutexNo.{MutexNo}
use Rattle.fr_typing.specs.Kinds.{Piece}
use Rattle.fr_store.specs.Keys.{slot_k}
use Rattle.fr_store.specs.Store.{task_v}
use Rattle.fr_store.specs.Typed.{Tree, hole, owns}
use Rattle.fr_store.specs.Below.{tree_of}
use Rattle.fr_store.specs.Rows.{with_type}
use Rattle.fr_store.proofs.Keys.{decide_number}
use Rattle.fr_plain.specs.MachineThreads.{owing, loose, ended}
use Rattle.fr_plain.specs.PlainState.{Running, PlainState, place_in}
use Rattle.fr_sound.specs.States.{Typing, content_val, result_val, IsKept}
use Rattle.law_plain_values.specs.acts.Positions.{Position, temps_of, PositionTypes}
use Rattle.law_plain_values.proofs.acts.OneThread.{typing_with}
use Rattle.law_plain_values.proofs.drops.Carrier.{Carries}
use Rattle.law_plain_values.proofs.drops.Leaves.{carrier_leaves, kept_off, none_off}
use Rattle.law_plain_values.proofs.acts.Refs.{NoneNew, none_owns}

module _ {y : Typing} {a : PlainState Position} {u : ℕ} {p : Piece} {n : ℕ} (c : Carries y a u p (plain.Task n)) (x : Running Position) (was : a.thread n ≡ Some (owing x)) (a2 : PlainState Position) (none : a2.thread u ≡ None) (now : a2.thread n ≡ Some (loose x)) (others : (k : ℕ) → k ≢ u → k ≢ n → a2.thread k ≡ a.thread k) (pairs : (k : ℕ) → a2.pair k ≡ a.pair k)
    (mutexes : (m : MutexNo) → a2.mutex m ≡ a.mutex m) (given : (m : MutexNo) → a2.is_given m ≡ a.is_given m) (objects : (b : ObjNo) → a2.object b ≡ a.object b) (made : (b : ObjNo) (w : Plain) (z : Running Position) → a2.object b ≡ Some w → place_in (a2.thread b.thread) ≡ Some z → b.count < a2.made b.thread) where
  abbrev R : Tree
  R = tree_of (y.gives.result n)

  not_n_two : (k : ℕ) → IsKept (a2.thread k) → k ≢ n
  not_n_two k h e = subst IsKept now (subst (λ i. IsKept (a2.thread i)) e h)

  places : (k : ℕ) → k ≢ u → place_in (a2.thread k) ≡ place_in (a.thread k)
  places k ne = ⊎_elim (λ (e : k ≡ n). ap (λ z. place_in (a2.thread z)) e ∙ ap place_in now ∙ sym (ap place_in was) ∙ ap (λ z. place_in (a.thread z)) (sym e)) (λ (q : k ≢ n). ap place_in (others k ne q)) (decide_number k n)

  results : (k : ℕ) → result_val temps_of y k (a2.thread k) ≡ result_val temps_of y k (a.thread k)
  results k =
      ⊎_elim (λ (e : k ≡ u). ap (λ i. result_val temps_of y i (a2.thread i)) e ∙ ap (result_val temps_of y u) none ∙ sym (ap (result_val temps_of y u) c.here) ∙ ap (λ i. result_val temps_of y i (a.thread i)) (sym e))
      (λ (nu : k ≢ u). ⊎_elim (λ (e : k ≡ n). ap (λ i. result_val temps_of y i (a2.thread i)) e ∙ ap (result_val temps_of y n) now ∙ sym (ap (result_val temps_of y n) was) ∙ ap (λ i. result_val temps_of y i (a.thread i)) (sym e)) (λ (nn : k ≢ n). ap (result_val temps_of y k) (others k nu nn)) (decide_number k n)) (decide_number k u)

  pub task_leaves : (z : Typing) × PositionTypes z a2 × (z.gives ≡ y.gives) × NoneNew y.exact z.exact
  task_leaves = (
    typing_with y (with_type y.exact (slot_k u 0) (owns hole)) y.marks,
    carrier_leaves c a2 none places results pairs (λ m. ap (content_val y.gives) (mutexes m)) given objects made
        (λ k r e. sym (others k (λ f. let g : None ≡ Some (ended r) = sym none ∙ ap a2.thread (sym f) ∙ e in cc) (λ f. let g : Some (loose x) ≡ Some (ended r) = sym now ∙ ap a2.thread (sym f) ∙ e in cc)) ∙ e)
        (λ o e. cc)
        (λ k h ne. subst IsKept (sym (others k (kept_off c k h) (λ f. ne R (ap (λ i. task_v i R) (sym f))))) h)
        (λ k h. (subst IsKept (others k (none_off a2 u none k h) (not_n_two k h)) h, λ r e. let g : k ≡ n = cc in not_n_two k h g))
        (λ m ne. mutexes m)
        (λ m d e. cc)
        (λ m d e. cc),
    refl,
    none_owns y.exact (slot_k u 0) hole,
  )
