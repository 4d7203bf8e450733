-- States of the machine beside a carrier: what they show of its thread and of others.
use Rattle.std.proofs.Common.{◌≡◌, ◌≢◌, ⊎_elim, ◌∙◌, ℕ, List, Some, None, refl, sym, ap, subst}
use Rattle.std.specs.Prelude.{if◌then◌else◌}
use Rattle.fr_base.specs.declared.label.Plain.{Plain}
use Rattle.fr_typing.specs.Kinds.{Owned, unit, int, box, mutex, task, Piece}
use Rattle.fr_typing.proofs.PlaceLemmas.{eq_cases}
use Rattle.fr_store.specs.Keys.{result_k}
use Rattle.fr_store.specs.Store.{Location, gone_v, ref_v}
use Rattle.fr_store.specs.Typed.{TopFits}
use Rattle.fr_store.specs.Below.{tree_of}
use Rattle.fr_store.proofs.Keys.{decide_number}
use Rattle.fr_store.proofs.Rows.{top_fits}
use Rattle.fr_plain.specs.declared.value.Value.{Value}
use Rattle.fr_plain.specs.declared.value.Value.TheVariants.{Own, ToSlot, ToObject, Held}
use Rattle.fr_plain.specs.MachineThreads.{Life, loose, ended, Thread, Whole, thread_at, with_thread, with_life}
use Rattle.fr_plain.specs.PlainState.{PlainState, running_in, is_over_in, plain_state}
use Rattle.fr_plain.proofs.ByName.{put_in, put_at, put_off}
use Rattle.fr_sound.specs.States.{Typing, result_val}
use Rattle.law_plain_values.specs.acts.Positions.{Position, temps_of, PositionTypes}
use Rattle.law_plain_values.proofs.acts.OneThread.{store}
use Rattle.law_plain_values.proofs.acts.Threads.{pairs_by}
use Rattle.law_plain_values.specs.drops.Drops.{carrying, carries, with_carrier}

module _ (s : Whole Position) (u : ℕ) (p : Piece) (g : Owned) (v : Plain) where
  pub carrier_at : thread_at (with_carrier s u p g v).threads u ≡ Some (carrying u p g v)
  carrier_at = eq_cases (λ b. (if b then Some (carrying u p g v) else thread_at s.threads u) ≡ Some (carrying u p g v)) u u (λ e. refl) (λ ne. absurd (ne refl))

  pub carrier_off : (n : ℕ) → n ≢ u → thread_at (with_carrier s u p g v).threads n ≡ thread_at s.threads n
  carrier_off n ne = eq_cases (λ b. (if b then Some (carrying u p g v) else thread_at s.threads n) ≡ thread_at s.threads n) u n (λ e. absurd (ne (sym e))) (λ z. refl)

  pub carrier_here : (plain_state (with_carrier s u p g v)).thread u ≡ Some (loose (carries p g v))
  carrier_here = ap running_in carrier_at

  pub carrier_other : (n : ℕ) → n ≢ u → (plain_state (with_carrier s u p g v)).thread n ≡ (plain_state s).thread n
  carrier_other n ne = ap running_in (carrier_off n ne)

  -- PAIRS are those that they were

  -- where there is a carrier after the step too
  pub pairs_carried : (s2 : Whole Position) (q : Piece) (w : Plain) → s2.pairs ≡ s.pairs → ((n : ℕ) → is_over_in (thread_at s2.threads n) ≡ is_over_in (thread_at s.threads n)) → (n : ℕ) → (plain_state (with_carrier s2 u q g w)).pair n ≡ (plain_state (with_carrier s u p g v)).pair n
  pairs_carried s2 q w ps same = pairs_by (with_carrier s u p g v) (with_carrier s2 u q g w) ps (λ n. eq_cases (λ b. is_over_in (if b then Some (carrying u q g w) else thread_at s2.threads n) ≡ is_over_in (if b then Some (carrying u p g v) else thread_at s.threads n)) u n (λ e. refl) (λ ne. same n))

  -- or none any more
  pub pairs_left : (s2 : Whole Position) → thread_at s2.threads u ≡ None → s2.pairs ≡ s.pairs → ((n : ℕ) → is_over_in (thread_at s2.threads n) ≡ is_over_in (thread_at s.threads n)) → (n : ℕ) → (plain_state s2).pair n ≡ (plain_state (with_carrier s u p g v)).pair n
  pairs_left s2 none ps same = pairs_by (with_carrier s u p g v) s2 ps (λ n. ⊎_elim (λ (e : n ≡ u). ap (λ z. is_over_in (thread_at s2.threads z)) e ∙ ap is_over_in none ∙ sym (ap is_over_in carrier_at) ∙ ap (λ z. is_over_in (thread_at (with_carrier s u p g v).threads z)) (sym e)) (λ (ne : n ≢ u). same n ∙ sym (ap is_over_in (carrier_off n ne))) (decide_number n u))

-- A THREAD WITH ANOTHER LIFE

module _ (ts : List (Thread Position)) (n : ℕ) (x : Thread Position) (l : Life Position) (found : thread_at ts n ≡ Some x) (number : x.number ≡ n) where
  pub relived_here : thread_at (with_thread ts (with_life x l)) n ≡ Some (with_life x l)
  relived_here = put_at ts (with_life x l) n number ∙ ap (put_in (with_life x l)) found

  pub relived_off : (k : ℕ) → k ≢ n → thread_at (with_thread ts (with_life x l)) k ≡ thread_at ts k
  relived_off k ne = put_off ts (with_life x l) k (λ e. ne (sym e ∙ number))

  pub relived_over : is_over_in (Some (with_life x l)) ≡ is_over_in (Some x) → (k : ℕ) → is_over_in (thread_at (with_thread ts (with_life x l)) k) ≡ is_over_in (thread_at ts k)
  relived_over same k = ⊎_elim (λ (e : k ≡ n). ap (λ z. is_over_in (thread_at (with_thread ts (with_life x l)) z)) e ∙ ap is_over_in relived_here ∙ same ∙ sym (ap is_over_in found) ∙ ap (λ z. is_over_in (thread_at ts z)) (sym e)) (λ (ne : k ≢ n). ap is_over_in (relived_off k ne)) (decide_number k n)

-- RESULTS are owned

not_ref : (o : Owned) (l : Location) → TopFits (tree_of o) (ref_v l) → ⊥
not_ref unit l f = cc
not_ref int l f = let g = f.1 in cc
not_ref (box o) l f = let g = f.1 in cc
not_ref (mutex o) l f = let g = f.1 in cc
not_ref (task o) l f = let g = f.1 in cc

not_gone : (o : Owned) → TopFits (tree_of o) gone_v → ⊥
not_gone unit f = cc
not_gone int f = let g = f.1 in cc
not_gone (box o) f = let g = f.1 in cc
not_gone (mutex o) f = let g = f.1 in cc
not_gone (task o) f = let g = f.1 in cc

pub own_result : (y : Typing) (a : PlainState Position) (n : ℕ) (v : Value) → PositionTypes y a → a.thread n ≡ Some (ended v) → (w : Plain) × (v ≡ Own w)
own_result y a n v st e = by v (subst (TopFits (tree_of (y.gives.result n))) (ap (result_val temps_of y n) e) (top_fits y.rank y.exact (store y a) st.typed (result_k n) (tree_of (y.gives.result n)) (st.results n v e)))
  where
    by : (v : Value) → TopFits (tree_of (y.gives.result n)) (result_val temps_of y n (Some (ended v))) → (w : Plain) × (v ≡ Own w)
    by (Own w) f = (w, refl)
    by (ToSlot i) f = absurd (not_ref (y.gives.result n) _ f)
    by (ToObject o) f = absurd (not_ref (y.gives.result n) _ f)
    by (Held m) f = absurd (not_gone (y.gives.result n) f)
