-- Values that have the forms of an entry, and of which the views are seen, suit it.
use Rattle.std.proofs.Common.{◌≡◌, ◌≢◌, ℕ, suc, ◌+◌, ◌==◌, Bool, true, false, if◌then◌else◌, List, [], ◌∷◌, reverse, length, Option, Some, None, is_some, refl, sym, ap, subst, ◌∙◌, arith}
use Rattle.std.proofs.lemmas.List.{length-reverse, reverse-append}
use Rattle.law_types_still.specs.Below.fr_base.Lists.{last_of}
use Rattle.law_types_still.specs.Below.fr_base.declared.name.ObjNo.{ObjNo}
use Rattle.law_types_still.specs.Below.fr_typing.Kinds.{Owned as OwnedType, box, Kind, own, shared, mutable, view, Piece, whole, gone, boxed, map_some}
use Rattle.law_types_still.specs.Below.fr_typing.Places.{Slot, Env}
use Rattle.law_types_still.proofs.Below.fr_typing.PlaceLemmas.{eq_cases}
use Rattle.law_types_still.specs.Below.fr_sound.States.{env_at, owned_part}
use Rattle.law_types_still.specs.Below.fr_code.CodeTypes.{Entry}
use Rattle.law_types_still.specs.Below.heap_partition.declared.value.Owned.{Owned}
use Rattle.law_types_still.specs.Below.heap_partition.declared.value.Owned.TheVariants as owned
use Rattle.law_types_still.specs.Below.mut_borrow.declared.shared.SharedRef.{SharedRef}
use Rattle.law_types_still.specs.Below.thread_state.View.{ThreadState}
use Rattle.law_types_still.specs.Below.thread_state.declared.value.Value.{Value}
use Rattle.law_types_still.specs.Below.thread_state.declared.value.Value.TheVariants as value
use Rattle.law_types_still.specs.Below.server_model.Work.{front_of}
use Rattle.law_types_still.specs.Below.coherent_memory.Names.{some}
use Rattle.law_types_still.specs.Below.coherent_memory.Sight.{Sight}
use Rattle.law_types_still.specs.Below.coherent_memory.Walking.{sum_threads}
use Rattle.law_types_still.specs.Below.coherent_types.Names.{NameTypes, fits_some}
use Rattle.law_types_still.specs.Below.coherent_types.ClusterTypes.{has_form, slot_form, slots_wrong, temps_wrong, forms_of, unseen, unseen_slots, unseen_temps, parent_sees}
use Rattle.law_types_events.proofs.Below.law_words_paths.paths.Shown.{none_else, at_behind, behind_is}
use Rattle.law_types_events.proofs.Below.law_words_paths.paths.Sole.{some_is}
use Rattle.law_types_still.proofs.Below.law_counts_sums.Values.{last_split}
use Rattle.law_types_events.proofs.Below.law_results_reads.Operands.{top_of}
use Rattle.law_types_events.proofs.sorts.Parts.{shared_any, view_seen, seen_look, a_nothing, look_of, suits, suits_named, suits_slot, suits_at}
use Rattle.law_types_events.proofs.sorts.Suited.{unsuited_of, from_none, to_other, top_suits, Suited, Topped, by_last}

module _ (sees : ObjNo → Bool) where
  -- FORMS

  some_part : (o : Option OwnedType) (n : NameTypes) (v : Owned) → fits_some n o v ≡ true → is_some o ≡ true
  some_part (Some a) n v e = refl
  some_part None n v e = absurd cc

  some_boxed : (o : Option OwnedType) → is_some (map_some box o) ≡ true → is_some o ≡ true
  some_boxed (Some a) e = refl
  some_boxed None e = absurd cc

  boxed_part : (n : NameTypes) (p : Piece) (v : Owned) (b : Bool) → (if b then fits_some n (owned_part (boxed p)) v else false) ≡ true → is_some (owned_part p) ≡ true
  boxed_part n p v true e = some_boxed (owned_part p) (some_part (owned_part (boxed p)) n v e)
  boxed_part n p v false e = absurd cc

  there_and : (n : NameTypes) (p : Piece) (v : Owned) → has_form n (boxed p) (value.Own v) ≡ true → is_some (owned_part p) ≡ true
  there_and n p owned.Nothing e = absurd cc
  there_and n p owned.Unit e = boxed_part n p owned.Unit true e
  there_and n p (owned.Int i) e = boxed_part n p (owned.Int i) true e
  there_and n p (owned.Box b) e = boxed_part n p (owned.Box b) true e
  there_and n p (owned.Mutex m) e = boxed_part n p (owned.Mutex m) true e
  there_and n p (owned.Task t) e = boxed_part n p (owned.Task t) true e

  -- a value that has the form of a part suits it
  pub form_suits : (n : NameTypes) (p : Piece) (v : Value) → has_form n p v ≡ true → ((o : OwnedType) (r : SharedRef) → p ≡ whole (view o) → v ≡ value.Shared r → sees r.object ≡ true) → suits p (look_of sees v) ≡ true
  form_suits n (whole (own o)) v e seen = refl
  form_suits n (whole (shared us)) (value.SharedSlot i) e seen = refl
  form_suits n (whole (shared us)) (value.Shared r) e seen = shared_any us (sees r.object)
  form_suits n (whole (shared us)) value.Gone e seen = absurd cc
  form_suits n (whole (shared us)) (value.Own v) e seen = absurd cc
  form_suits n (whole (shared us)) (value.MutSlot i) e seen = absurd cc
  form_suits n (whole (shared us)) (value.Mut r) e seen = absurd cc
  form_suits n (whole (shared us)) (value.Held m) e seen = absurd cc
  form_suits n (whole (mutable us)) (value.MutSlot i) e seen = refl
  form_suits n (whole (mutable us)) (value.Mut r) e seen = refl
  form_suits n (whole (mutable us)) value.Gone e seen = absurd cc
  form_suits n (whole (mutable us)) (value.Own v) e seen = absurd cc
  form_suits n (whole (mutable us)) (value.SharedSlot i) e seen = absurd cc
  form_suits n (whole (mutable us)) (value.Shared r) e seen = absurd cc
  form_suits n (whole (mutable us)) (value.Held m) e seen = absurd cc
  form_suits n (whole (view o)) (value.Shared r) e seen = view_seen o (sees r.object) (seen o r refl refl)
  form_suits n (whole (view o)) value.Gone e seen = absurd cc
  form_suits n (whole (view o)) (value.Own v) e seen = absurd cc
  form_suits n (whole (view o)) (value.SharedSlot i) e seen = absurd cc
  form_suits n (whole (view o)) (value.MutSlot i) e seen = absurd cc
  form_suits n (whole (view o)) (value.Mut r) e seen = absurd cc
  form_suits n (whole (view o)) (value.Held m) e seen = absurd cc
  form_suits n (gone q) value.Gone e seen = refl
  form_suits n (gone q) (value.Own v) e seen = absurd cc
  form_suits n (gone q) (value.SharedSlot i) e seen = absurd cc
  form_suits n (gone q) (value.MutSlot i) e seen = absurd cc
  form_suits n (gone q) (value.Shared r) e seen = absurd cc
  form_suits n (gone q) (value.Mut r) e seen = absurd cc
  form_suits n (gone q) (value.Held m) e seen = absurd cc
  form_suits n (boxed p) (value.Own v) e seen = there_and n p v e
  form_suits n (boxed p) value.Gone e seen = absurd cc
  form_suits n (boxed p) (value.SharedSlot i) e seen = absurd cc
  form_suits n (boxed p) (value.MutSlot i) e seen = absurd cc
  form_suits n (boxed p) (value.Shared r) e seen = absurd cc
  form_suits n (boxed p) (value.Mut r) e seen = absurd cc
  form_suits n (boxed p) (value.Held m) e seen = absurd cc

  no_nothing : (b : Bool) → seen_look b ≡ a_nothing → ⊥
  no_nothing true e = cc
  no_nothing false e = cc

  -- and is there
  pub form_there : (n : NameTypes) (k : Kind) (v : Value) → has_form n (whole k) v ≡ true → look_of sees v ≢ a_nothing
  form_there n (own o) (value.Own owned.Nothing) e l = let z : has_form n (whole (own o)) (value.Own owned.Nothing) ≡ true = e in cc
  form_there n (shared us) (value.Own owned.Nothing) e l = let z : has_form n (whole (shared us)) (value.Own owned.Nothing) ≡ true = e in cc
  form_there n (mutable us) (value.Own owned.Nothing) e l = let z : has_form n (whole (mutable us)) (value.Own owned.Nothing) ≡ true = e in cc
  form_there n (view o) (value.Own owned.Nothing) e l = let z : has_form n (whole (view o)) (value.Own owned.Nothing) ≡ true = e in cc
  form_there n k (value.Own owned.Unit) e l = cc
  form_there n k (value.Own (owned.Int i)) e l = cc
  form_there n k (value.Own (owned.Box b)) e l = cc
  form_there n k (value.Own (owned.Mutex m)) e l = cc
  form_there n k (value.Own (owned.Task t)) e l = cc
  form_there n k value.Gone e l = cc
  form_there n k (value.SharedSlot i) e l = cc
  form_there n k (value.MutSlot i) e l = cc
  form_there n k (value.Shared r) e l = no_nothing (sees r.object) l
  form_there n k (value.Mut r) e l = cc
  form_there n k (value.Held m) e l = cc

  pub slots_length : (n : NameTypes) (e : Env) (vs : List Value) → slots_wrong n e vs ≡ 0 → length vs ≡ length e
  slots_length n [] [] z = refl
  slots_length n [] (v ∷ vs) z = absurd cc
  slots_length n (s ∷ e) [] z = absurd cc
  slots_length n (s ∷ e) (v ∷ vs) z = ap suc (slots_length n e vs (omega (arith, z)))

  -- who sees what parents that wait see
  abbrev pub Links : Sight → ℕ → Type 0
  Links s t = (o : ObjNo) → some (sum_threads s (parent_sees t o)) ≡ true → sees o ≡ true

  seen_one : (s : Sight) (t : ℕ) → Links s t → (p : Piece) (v : Value) → unseen s t p v ≡ 0 → (o : OwnedType) (r : SharedRef) → p ≡ whole (view o) → v ≡ value.Shared r → sees r.object ≡ true
  seen_one s t link p v z o r e f =
      let none : unseen s t (whole (view o)) (value.Shared r) ≡ 0 = subst (λ q. unseen s t q (value.Shared r) ≡ 0) e (subst (λ w. unseen s t p w ≡ 0) f z) in
      link r.object (none_else (some (sum_threads s (parent_sees t r.object))) none)

  slot_suits : (n : NameTypes) (x : Slot) (b : Bool) (v : Value) → slot_form n x b v ≡ true → ((o : OwnedType) (r : SharedRef) → x.part ≡ whole (view o) → v ≡ value.Shared r → sees r.object ≡ true) → suits_named b x.part (look_of sees v) ≡ true
  slot_suits n x true v e seen = form_suits n x.part v e seen
  slot_suits n x false v e seen = refl

  -- slots that have the forms of an environment, and whose views are seen, suit it
  slots_suit : (s : Sight) (t : ℕ) → Links s t → (n : NameTypes) (e : Env) (vs : List Value) → slots_wrong n e vs ≡ 0 → unseen_slots s t e vs ≡ 0 → (i : ℕ) (v : Value) → at_behind vs i ≡ Some v → suits_at e i (look_of sees v) ≡ true
  slots_suit s t link n [] vs z u i v h = refl
  slots_suit s t link n (x ∷ e) [] z u i v h = absurd cc
  slots_suit s t link n (x ∷ e) (w ∷ vs) z u i v h =
      let same : length vs ≡ length e = slots_length n e vs (omega (arith, z)) in
      let here = slot_suits n x (is_some x.name) w (none_else (slot_form n x (is_some x.name) w) (omega (arith, z))) (seen_one s t link x.part w (omega (arith, u))) in
      let below = slots_suit s t link n e vs (omega (arith, z)) (omega (arith, u)) i v in
      subst (λ m. suits_slot (if i == m then Some x else env_at e i) (look_of sees v) ≡ true) same
      (eq_cases (λ b. (if b then Some w else at_behind vs i) ≡ Some v → suits_slot (if b then Some x else env_at e i) (look_of sees v) ≡ true) i (length vs) (λ q f. subst (λ a. suits_slot (Some x) (look_of sees a) ≡ true) (some_is f) here) (λ ne f. below f) h)

  suited_before : (s : Sight) (t : ℕ) → Links s t → (n : NameTypes) (e : Env) (vs : List Value) → slots_wrong n e (reverse vs) ≡ 0 → unseen_slots s t e (reverse vs) ≡ 0 → Suited sees e vs
  suited_before s t link n e vs z u j v q = slots_suit s t link n e (reverse vs) z u j v (behind_is vs j ∙ q)

  temps_length : (n : NameTypes) (ks : List Kind) (vs : List Value) → temps_wrong n ks vs ≡ 0 → length vs ≡ length ks
  temps_length n [] [] z = refl
  temps_length n [] (v ∷ vs) z = absurd cc
  temps_length n (q ∷ ks) [] z = absurd cc
  temps_length n (q ∷ ks) (v ∷ vs) z = ap suc (temps_length n ks vs (omega (arith, z)))

  -- the value on top has the form of its type
  pub top_form : (n : NameTypes) (ks : List Kind) (vs : List Value) → temps_wrong n ks (reverse vs) ≡ 0 → (v : Value) → last_of vs ≡ Some v → (q : Kind) × (rest : List Kind) × (ks ≡ q ∷ rest) × (has_form n (whole q) v ≡ true)
  top_form n [] [] z v e = absurd cc
  top_form n [] (x ∷ vs) z v e = let a = temps_length n [] (reverse (x ∷ vs)) z in let b = length-reverse (x ∷ vs) in absurd (omega (arith, a, b))
  top_form n (q ∷ rest) vs z v e = let t = top_of n q rest vs z in (q, rest, refl, subst (λ w. has_form n (whole q) w ≡ true) (some_is (sym t.last ∙ e)) t.form)

  -- and so does that on top
  topped_before : (s : Sight) (t : ℕ) → Links s t → (n : NameTypes) (ks : List Kind) (vs : List Value) → temps_wrong n ks (reverse vs) ≡ 0 → unseen_temps s t ks (reverse vs) ≡ 0 → Topped sees ks vs
  topped_before s t link n ks vs z u =
      by_last sees ks vs (λ q rest v same last.
      let zero : temps_wrong n (q ∷ rest) (reverse vs) ≡ 0 = subst (λ ts. temps_wrong n ts (reverse vs) ≡ 0) same z in
      let unseen_none : unseen_temps s t (q ∷ rest) (reverse vs) ≡ 0 = subst (λ ts. unseen_temps s t ts (reverse vs) ≡ 0) same u in
      let top = top_of n q rest vs zero in
      let is : top.item ≡ v = some_is (sym top.last ∙ last) in
      let turned : reverse vs ≡ v ∷ reverse (front_of vs) = ap reverse (last_split vs v last) ∙ reverse-append (front_of vs) (v ∷ []) in
      let first : unseen s t (whole q) v + unseen_temps s t rest (reverse (front_of vs)) ≡ 0 = sym (ap (unseen_temps s t (q ∷ rest)) turned) ∙ unseen_none in
      form_suits n (whole q) v (subst (λ w. has_form n (whole q) w ≡ true) is top.form) (seen_one s t link (whole q) v (omega (arith, first))))

  -- so a thread's values suit its entry where they have its forms and its views are seen
  pub entry_suits : (s : Sight) (n : NameTypes) (t : ThreadState) (x : Entry) → Links s t.number → forms_of n t x ≡ 0 → unseen_slots s t.number x.env (reverse t.slots) + unseen_temps s t.number x.temps (reverse t.temps) ≡ 0 → unsuited_of sees t x ≡ 0
  entry_suits s n t x link z u =
      let slots = from_none sees x.env 0 t.slots (λ j v q. (let m : j ≡ 0 + j = omega arith in subst (λ i. suits_at x.env i (look_of sees v) ≡ true) m (suited_before s t.number link n x.env t.slots (omega (arith, z)) (omega (arith, u)) j v q))) in
      let top = to_other sees (top_suits sees x.temps (last_of t.temps)) (topped_before s t.number link n x.temps t.temps (omega (arith, z)) (omega (arith, u))) in
      omega (arith, slots, top)
