-- A typed pool steps, and stays typed.
use Rattle.std.proofs.Common.{◌≡◌, ℕ, ◌+◌, List, [], Result, Ok, Err, Option, Some, None, refl, sym, ◌∙◌, subst}
use Rattle.std.specs.Prelude.{IsSome, IfOk, OnOk, OnErr, option_map}
use Rattle.fr_base.specs.declared.label.Label.{Label}
use Rattle.fr_base.specs.Rooms.{WithRoom}
use Rattle.fr_base.specs.declared.step.Fresh.{Fresh}
use Rattle.fr_plain.specs.Resolve.{program}
use Rattle.fr_plain.specs.Run.{Run}
use Rattle.fr_plain.specs.Whole.{Whole, Stepped, Refusal, refused, step, start}
use Rattle.fr_terms.specs.Terms as terms
use Rattle.fr_terms.specs.Terms.{block_t, let_t, assign_t, read_t, borrow_t, borrow_mut_t, number_t, unit_t, box_t, print_t, arith_t, join_t, mutex_t, dup_t, lock_t, spawn_t, par_t, Items, IsBlock}
use Rattle.fr_typing.specs.Laws.{IsTyped}
use Rattle.fr_terms.specs.Limits.{HasShortPlaces}
use Rattle.law_plain_threads.specs.steps.TypedTerms.{AreTypedTerms, TermsStepOn}
use Rattle.law_plain_threads.proofs.steps.Programs.{programs_start_typed, typed_terms_step_on}
use Rattle.fr_forms.specs.declared.forms.Form.{Form}
use Rattle.fr_forms.specs.FormTerms.{root_of}
use Rattle.fr_meaning.specs.PoolView.{error_of, refusal, total_left}
use Rattle.fr_meaning.proofs.TotalLeft.{step_total}

free_of : (o : Option Refusal) → option_map error_of o ≡ None → o ≡ None
free_of None h = refl
free_of (Some r) h = cc

-- a thread that isn't refused steps, to a typed state
typed_step : (s : Whole) (t : ℕ) (names : Fresh) → AreTypedTerms s → refusal s t names ≡ None → TermsStepOn s t names
typed_step s t names y h = typed_terms_step_on s y t names (free_of (refused s t names) h)

-- so its step can be done
pub typed_goes : (s : Whole) (t : ℕ) (names : Fresh) → AreTypedTerms s → refusal s t names ≡ None → IsSome (step s t names)
typed_goes s t names y h = subst (λ (o : Option Stepped). IsSome o) (sym (typed_step s t names y h).is) refl

some_same : (a b : Stepped) → Some a ≡ Some b → a ≡ b
some_same a b h = cc

-- and the state that it leads to is typed
typed_kept : (s new : Whole) (t : ℕ) (names : Fresh) (labels : List Label) → AreTypedTerms s → refusal s t names ≡ None → step s t names ≡ Some (record { state = new; labels = labels }) → AreTypedTerms new
typed_kept s new t names labels y h e =
    let z = typed_step s t names y h in
    subst (λ (x : Stepped). AreTypedTerms x.state) (some_same z.next (record { state = new; labels = labels }) (sym z.is ∙ e)) z.typed

-- THE START

-- what holds of blocks holds of a term that is one
of_block : (P : terms.Term → Type 0) (t : terms.Term) → IsBlock t → ((at : ℕ) (ts : Items) → P (block_t at ts)) → P t
of_block P (block_t at ts) b h = h at ts
of_block P (let_t at x t) b h = absurd b
of_block P (assign_t at w t) b h = absurd b
of_block P (read_t at w) b h = absurd b
of_block P (borrow_t at w) b h = absurd b
of_block P (borrow_mut_t at w) b h = absurd b
of_block P (number_t at n) b h = absurd b
of_block P (unit_t at) b h = absurd b
of_block P (box_t at t) b h = absurd b
of_block P (print_t at t) b h = absurd b
of_block P (arith_t at op l r) b h = absurd b
of_block P (join_t at t) b h = absurd b
of_block P (mutex_t at t) b h = absurd b
of_block P (dup_t at w) b h = absurd b
of_block P (lock_t at w x t) b h = absurd b
of_block P (spawn_t at cs t) b h = absurd b
of_block P (par_t at cs t ds u) b h = absurd b

-- a checked program starts typed
pub root_starts : (fs : List Form) (t : terms.Term) → IsBlock t → HasShortPlaces t → IsTyped [] t → root_of fs ≡ program t → AreTypedTerms (start (root_of fs))
root_starts fs t b ok h e =
    subst (λ (r : Run). AreTypedTerms (start r)) (sym e)
    (of_block (λ x. HasShortPlaces x → IsTyped [] x → AreTypedTerms (start (program x))) t b (λ at ts ok h. programs_start_typed at ts h.kind h.after ok h.types) ok h)

-- AFTER A STEP

module _ {E : Type 0} where
  -- where nothing is changed it is typed still
  pub typed_either : (r : Result (WithRoom Label) E) (s new : Whole) (t : ℕ) (names : Fresh) → AreTypedTerms s → refusal s t names ≡ None → IfOk r (λ (l : WithRoom Label). step s t names ≡ Some (record { state = new; labels = l.items })) → OnErr r (new ≡ s) → AreTypedTerms new
  typed_either (Ok l) s new t names y h e k = typed_kept s new t names l.items y h e
  typed_either (Err x) s new t names y h e k = subst AreTypedTerms (sym k) y

  -- a step is one of those that are left
  pub left_of : (r : Result (WithRoom Label) E) (s new : Whole) (t : ℕ) (names : Fresh) → IfOk r (λ (l : WithRoom Label). step s t names ≡ Some (record { state = new; labels = l.items })) → OnOk r (total_left new.threads + 1 ≡ total_left s.threads)
  left_of (Ok l) s new t names e = step_total s t names (record { state = new; labels = l.items }) e
  left_of (Err x) s new t names e = e
