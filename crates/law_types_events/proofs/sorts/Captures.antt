-- What is captured leaves slots that suit what is left of the environment.
use Rattle.std.proofs.Common.{◌≡◌, ℕ, not, Bool, true, false, List, [], ◌∷◌, ◌++◌, Option, Some, None, refl, sym, ap, subst, ◌∙◌}
use Rattle.std.specs.Prelude.{slice_get, slice_set}
use Rattle.law_types_still.specs.Below.fr_terms.Terms.{Captured}
use Rattle.law_types_still.specs.Below.fr_typing.Kinds.{Owned, Kind, own, shared, mutable, view, whole, gone, map_some, copies}
use Rattle.law_types_still.specs.Below.fr_typing.Places.{Slot, Env, heap_type, slot_of, put_at}
use Rattle.law_types_still.specs.Below.fr_typing.Checks.{place_of}
use Rattle.law_types_still.specs.Below.fr_typing.Captures.{Capturer, by_spawn, by_par, spot_of, captured_kind, captured_slot, Captures, captures_copy, captures_move}
use Rattle.law_types_still.specs.Below.fr_code.CodeTypes.{SlotPasses, passes, SlotsPass, pass_none, pass_next}
use Rattle.law_types_still.specs.Below.thread_state.declared.value.Value.{Value}
use Rattle.law_types_still.specs.Below.thread_state.declared.value.Value.TheVariants as value
use Rattle.law_types_still.specs.Below.server_model.Start.{captured, left_after, capture_from, capture}
use Rattle.law_types_still.specs.Below.law_counts_sums.Laws.{Gives}
use Rattle.law_types_still.proofs.Below.law_counts_sums.Results.{then_gives}
use Rattle.law_types_events.proofs.sorts.Parts.{suits, put_here}
use Rattle.law_types_events.proofs.sorts.Suited.{Suited, set_suited}
use Rattle.law_types_still.specs.Below.fr_base.declared.name.ObjNo.{ObjNo}

module _ (sees : ObjNo → Bool) where
  -- a captured type is copied where the variable's is
  kind_same : (by : Capturer) (e : Env) (k l : Kind) → captured_kind by e k ≡ Some l → copies l ≡ copies k
  kind_same by e (own o) l h = let z : own o ≡ l = cc in ap copies (sym z)
  kind_same by_par e (view o) l h = let z : view o ≡ l = cc in ap copies (sym z)
  kind_same by_par e (shared us) l h = by (heap_type e us) h
    where
      by : (o : Option Owned) → map_some view o ≡ Some l → copies l ≡ true
      by None f = absurd cc
      by (Some o) f = let z : view o ≡ l = cc in ap copies (sym z)
  kind_same by_par e (mutable us) l h = absurd cc
  kind_same by_spawn e (view o) l h = absurd cc
  kind_same by_spawn e (shared us) l h = absurd cc
  kind_same by_spawn e (mutable us) l h = absurd cc

  some_number : {a b : ℕ} → Some a ≡ Some b → a ≡ b
  some_number e = cc

  -- a slot that is moved away is `Gone`
  moved_suits : (e : Env) (c : Captured) (s : ℕ) (k : Kind) (i : ℕ) (vs : List Value) → i ≡ s → Suited sees e vs → Suited sees (put_at e (place_of (spot_of c) s) (gone k)) (slice_set vs i value.Gone)
  moved_suits e c s k i vs same g =
      set_suited sees e (put_at e (place_of (spot_of c) s) (gone k)) vs i value.Gone
      (λ l j here there. put_here e (place_of (spot_of c) s) (gone k) refl j l (λ q. subst (λ x. suits (gone k) x ≡ true) (sym (here (q ∙ sym same))) refl) (λ ne. there (λ q. ne (q ∙ same)))) g

  -- what a capture leaves
  leaves : (by : Capturer) (e n e1 n1 : Env) (x : ℕ × Bool) → SlotPasses by e n x e1 n1 → (vs : List Value) → Suited sees e vs → Suited sees e1 (left_after x.1 vs x.0)
  leaves by e n e1 _ _ (passes {n1 = n1} {s = s} {i = i} {take = take} {k = k} c named caps part takes) vs g = by_capture s caps named part
    where
      same_kind : (l m : Kind) → whole l ≡ whole m → l ≡ m
      same_kind l m q = cc

      by_capture : (s : Slot) → {n3 e1 : Env} → Captures by e n c e1 (s ∷ n3) → slot_of e c.name ≡ Some i → s.part ≡ whole k → Suited sees e1 (left_after take vs i)
      by_capture s {n3} taking named part = at taking refl
        where
          at : {e1 n2 : Env} → Captures by e n c e1 n2 → n2 ≡ s ∷ n3 → Suited sees e1 (left_after take vs i)
          at (captures_copy {s = r} {k = m} {l = l} may twice free new) q =
              let slot : captured_slot c l ≡ s = cc in
              let same : l ≡ k = same_kind l k (ap (λ (z : Slot). z.part) slot ∙ part) in
              let stays : take ≡ false = takes ∙ ap (λ z. not (copies z)) (sym same) ∙ ap not (kind_same by e m l may.becomes ∙ twice) in
              subst (λ b. Suited sees e (left_after b vs i)) (sym stays) g
          at (captures_move {s = r} {k = m} {l = l} may once free new) q =
              let slot : captured_slot c l ≡ s = cc in
              let same : l ≡ k = same_kind l k (ap (λ (z : Slot). z.part) slot ∙ part) in
              let goes : take ≡ true = takes ∙ ap (λ z. not (copies z)) (sym same) ∙ ap not (kind_same by e m l may.becomes ∙ once) in
              let number : i ≡ r = some_number (sym named ∙ (let h = may.is in h.named)) in
              subst (λ b. Suited sees (put_at e (place_of (spot_of c) r) (gone m)) (left_after b vs i)) (sym goes) (moved_suits e c r m i vs number g)

  -- capture by capture
  captures_from : (by : Capturer) (branch : Bool) (e n e1 n1 : Env) (cs : List (ℕ × Bool)) → SlotsPass by e n cs e1 n1 → (new vs : List Value) → Suited sees e vs → Gives (λ (p : List Value × List Value). Suited sees e1 p.1) (capture_from branch new cs vs)
  captures_from by branch e n _ _ _ pass_none new vs g = g
  captures_from by branch e n e2 n2 _ (pass_next {e1 = e1} {n1 = n1} {x = x} {xs = xs} one more) new vs g =
      then_gives (λ (p : List Value × List Value). Suited sees e2 p.1) (slice_get vs x.0) _ (λ v q. then_gives (λ (p : List Value × List Value). Suited sees e2 p.1) (captured branch x.1 v) _ (λ u f.
      captures_from by branch e1 n1 e2 n2 xs more (new ++ u ∷ []) (left_after x.1 vs x.0) (leaves by e n e1 n1 x one vs g)))

  pub captures_fit : (by : Capturer) (branch : Bool) (e e1 n : Env) (cs : List (ℕ × Bool)) → SlotsPass by e [] cs e1 n → (vs : List Value) → Suited sees e vs → Gives (λ (p : List Value × List Value). Suited sees e1 p.1) (capture branch cs vs)
  captures_fit by branch e e1 n cs pass vs g = captures_from by branch e [] e1 n cs pass [] vs g
