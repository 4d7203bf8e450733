-- A plain state in which main is the only thread.
use Rattle.std.proofs.Common.{◌≡◌, ◌≢◌, ◌∙◌, ℕ, zero, suc, Some, None, sym, ap, subst}
use Rattle.coherent_memory.specs.Below.fr_plain.declared.value.Value.{Value}
use Rattle.coherent_memory.specs.Below.fr_plain.MachineThreads.{alive, ended}
use Rattle.coherent_memory.specs.Below.fr_plain.PlainState.{place_in}
use Rattle.coherent_memory.specs.Below.fr_code.Machine.{CodeRunning, CodeState}
use Rattle.coherent_memory.specs.Below.fr_sound.States.{Typing, IsKept, IsOwed, IsBranch}

no_some : {A : Type 0} {x : A} → None ≡ Some x → ⊥
no_some e = absurd cc

module _ (a : CodeState) (x : CodeRunning) (main : a.thread 0 ≡ Some (alive x)) (others : (t : ℕ) → a.thread (suc t) ≡ None) where
  same_main : (z : CodeRunning) → place_in (a.thread 0) ≡ Some z → x ≡ z
  same_main z e =
      let f : Some x ≡ Some z = sym (ap place_in main) ∙ e in
      cc

  -- what holds of main holds of each thread that goes on
  pub each : (Q : ℕ → CodeRunning → Type 0) → Q 0 x → (t : ℕ) (z : CodeRunning) → place_in (a.thread t) ≡ Some z → Q t z
  each Q h zero z e = subst (Q 0) (same_main z e) h
  each Q h (suc t) z e = let f : None ≡ Some z = sym (ap place_in (others t)) ∙ e in absurd cc

  pub none_ended : (t : ℕ) (v : Value) → a.thread t ≡ Some (ended v) → ⊥
  none_ended zero v e = let f : Some (alive x) ≡ Some (ended v) = sym main ∙ e in absurd cc
  none_ended (suc t) v e = let f : None ≡ Some (ended v) = sym (others t) ∙ e in absurd cc

  pub none_owed : (t : ℕ) → IsOwed a t → ⊥
  none_owed zero h = subst IsKept main h.kept
  none_owed (suc t) h = subst IsKept (others t) h.kept

  pub no_pairs : ((t : ℕ) → a.pair t ≡ None) → (y : Typing) (p b c : ℕ) → a.pair p ≡ Some (b, c) → (b ≢ c) × IsBranch y a p b × IsBranch y a p c
  no_pairs none y p b c e =
      let two : ℕ × ℕ = (b, c) in
      let g : None ≡ Some two = sym (none p) ∙ e in
      absurd (no_some g)

  pub no_parents : ((t : ℕ) → a.pair t ≡ None) → (p b c : ℕ) → a.pair p ≡ Some (b, c) → (z : CodeRunning) × (place_in (a.thread p) ≡ Some z)
  no_parents none p b c e =
      let two : ℕ × ℕ = (b, c) in
      let g : None ≡ Some two = sym (none p) ∙ e in
      absurd (no_some g)
