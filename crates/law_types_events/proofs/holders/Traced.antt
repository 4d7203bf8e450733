-- Holders are right afterwards, where they came from where the act of the step takes mutable references, and so did the exact types.
use Rattle.std.proofs.Common.{◌≡◌, inl, inr, ℕ, zero, suc, ◌+◌, ◌-◌, ◌<◌, ◌==◌, ◌&&◌, Bool, true, false, List, [], ◌∷◌, length, Option, Some, None, refl, sym, ap, subst, ◌∙◌, arith}
use Rattle.std.proofs.lemmas.Option.{slice_get_within}
use Rattle.std.proofs.lemmas.Bool.Decides.{nat_tests}
use Rattle.law_types_events.specs.Below.fr_base.declared.place.Lval.{Lval}
use Rattle.law_types_events.specs.Below.fr_store.Keys.{Key, slot_k, temp_k, content_k, result_k, hand_k}
use Rattle.law_types_events.specs.Below.fr_store.Store.{Place}
use Rattle.law_types_events.specs.Below.fr_store.Typed.{Exact, owns, refers, KeyTypes}
use Rattle.law_types_events.specs.Below.fr_store.Thread.{place_of}
use Rattle.law_types_events.specs.Below.law_plain_values.acts.Keeps.{OnReferences, rests, binds, takes, lends, puts, CameFrom, KeepsReferences}
use Rattle.law_types_events.specs.Below.thread_state.declared.value.Value.{Value}
use Rattle.law_types_events.specs.Below.thread_state.declared.value.Value.TheVariants as value
use Rattle.law_types_events.specs.Below.coherent_memory.Names.{other, if_so}
use Rattle.law_types_events.specs.Below.coherent_memory.Follow.{Ground}
use Rattle.law_types_events.specs.Below.coherent_types.ClusterTypes.{is_held_at, astray_from, astray, all_astray}
use Rattle.law_types_events.specs.Below.law_types_still.heap.Counted.{holder_off_from, holder_off, all_off}
use Rattle.law_types_events.proofs.holders.Holding.{holder_of, held, top_held, value_held}
use Rattle.law_types_events.proofs.holders.Came.{SlotCame, TempCame, Came}

-- AS A NUMBER

-- the holder isn't the place with one star less, where that is one of the thread
abbrev pub place_off : ℕ → Key → ℕ → Lval → ℕ
place_off t (slot_k u i) n w = if_so (u == t) (other (is_held_at i n w))
place_off t (temp_k u i) n w = 0
place_off t (content_k a b) n w = 0
place_off t (result_k u) n w = 0
place_off t (hand_k u) n w = 0

-- so of a key with the exact type of a mutable reference
abbrev pub lent_off : ℕ → Exact → Option Lval → ℕ
lent_off t (owns x) o = 0
lent_off t (refers false u) o = 0
lent_off t (refers true u) None = 0
lent_off t (refers true u) (Some w) = place_off t u.key u.depth w

abbrev pub all_lent : KeyTypes → ℕ → (ℕ → Key) → ℕ → List Value → ℕ
all_lent exact t key i [] = 0
all_lent exact t key i (v ∷ vs) = lent_off t (exact (key i)) (holder_of v) + all_lent exact t key (i + 1) vs

-- the holders among these values are right where their exact types are those of mutable references
abbrev pub AreRight : KeyTypes → ℕ → (ℕ → Key) → List Value → Type 0
AreRight exact t key vs = (j : ℕ) (w : Lval) (u : Place) → held vs j ≡ Some w → exact (key j) ≡ refers true u → place_off t u.key u.depth w ≡ 0

module _ (exact : KeyTypes) (t : ℕ) (key : ℕ → Key) where
  one_lent : (e : Exact) (o : Option Lval) → ((w : Lval) (u : Place) → o ≡ Some w → e ≡ refers true u → place_off t u.key u.depth w ≡ 0) → lent_off t e o ≡ 0
  one_lent (owns x) o go = refl
  one_lent (refers false u) o go = refl
  one_lent (refers true u) None go = refl
  one_lent (refers true u) (Some w) go = go w u refl refl

  lent_from : (i : ℕ) (vs : List Value) → ((j : ℕ) (w : Lval) (u : Place) → held vs j ≡ Some w → exact (key (i + j)) ≡ refers true u → place_off t u.key u.depth w ≡ 0) → all_lent exact t key i vs ≡ 0
  lent_from i [] go = refl
  lent_from i (v ∷ vs) go =
      let here = one_lent (exact (key i)) (holder_of v) (λ w u e f. go 0 w u e (let n : i ≡ i + 0 = omega arith in subst (λ m. exact (key m) ≡ refers true u) n f)) in
      let later = lent_from (i + 1) vs (λ j w u e f. go (suc j) w u e (let n : i + 1 + j ≡ i + suc j = omega arith in subst (λ m. exact (key m) ≡ refers true u) n f)) in
      omega (arith, here, later)

  -- as a number, and back
  pub right_lent : (vs : List Value) → AreRight exact t key vs → all_lent exact t key 0 vs ≡ 0
  right_lent vs go = lent_from 0 vs (λ j w u e f. go j w u e (let n : 0 + j ≡ j = omega arith in subst (λ m. exact (key m) ≡ refers true u) n f))

  from_lent : (i : ℕ) (vs : List Value) → all_lent exact t key i vs ≡ 0 → (j : ℕ) (w : Lval) (u : Place) → held vs j ≡ Some w → exact (key (i + j)) ≡ refers true u → place_off t u.key u.depth w ≡ 0
  from_lent i [] z j w u e f = absurd cc
  from_lent i (v ∷ vs) z zero w u e f =
      let n : i + 0 ≡ i = omega arith in
      let at : exact (key i) ≡ refers true u = subst (λ m. exact (key m) ≡ refers true u) n f in
      let here : lent_off t (exact (key i)) (holder_of v) ≡ 0 = omega (arith, z) in
      sym (ap (λ x. lent_off t x (Some w)) at) ∙ sym (ap (lent_off t (exact (key i))) e) ∙ here
  from_lent i (v ∷ vs) z (suc j) w u e f = let n : i + suc j ≡ i + 1 + j = omega arith in from_lent (i + 1) vs (omega (arith, z)) j w u e (subst (λ m. exact (key m) ≡ refers true u) n f)

  pub lent_right : (vs : List Value) → all_lent exact t key 0 vs ≡ 0 → AreRight exact t key vs
  lent_right vs z j w u e f = from_lent 0 vs z j w u e (let n : j ≡ 0 + j = omega arith in subst (λ m. exact (key m) ≡ refers true u) n f)

  -- where references lead as their exact types, holders are right
  and_second : (a b : Bool) → other (a && b) ≡ 0 → other b ≡ 0
  and_second true b e = e
  and_second false b e = absurd cc

  if_second : (q a b : Bool) → if_so q (other (a && b)) ≡ 0 → if_so q (other b) ≡ 0
  if_second true a b e = and_second a b e
  if_second false a b e = refl

  one_leads : (g : Ground) (v : Value) (h : Key) (n : ℕ) (w : Lval) → holder_of v ≡ Some w → astray_from g t h n v ≡ 0 → place_off t h n w ≡ 0
  one_leads g (value.Mut r) (slot_k u i) n w e z =
      let same : r.holder ≡ w = cc in
      subst (λ x. if_so (u == t) (other (is_held_at i n x)) ≡ 0) same (if_second (u == t) _ (is_held_at i n r.holder) z)
  one_leads g v (temp_k u i) n w e z = refl
  one_leads g v (content_k a b) n w e z = refl
  one_leads g v (result_k u) n w e z = refl
  one_leads g v (hand_k u) n w e z = refl
  one_leads g value.Gone (slot_k u i) n w e z = absurd cc
  one_leads g (value.Own x) (slot_k u i) n w e z = absurd cc
  one_leads g (value.SharedSlot j) (slot_k u i) n w e z = absurd cc
  one_leads g (value.MutSlot j) (slot_k u i) n w e z = absurd cc
  one_leads g (value.Shared r) (slot_k u i) n w e z = absurd cc
  one_leads g (value.Held m) (slot_k u i) n w e z = absurd cc

  leads_from : (g : Ground) (i : ℕ) (vs : List Value) → all_astray exact g t key i vs ≡ 0 → (j : ℕ) (w : Lval) (u : Place) → held vs j ≡ Some w → exact (key (i + j)) ≡ refers true u → place_off t u.key u.depth w ≡ 0
  leads_from g i [] z j w u e f = absurd cc
  leads_from g i (v ∷ vs) z zero w u e f =
      let n : i + 0 ≡ i = omega arith in
      let at : exact (key i) ≡ refers true u = subst (λ m. exact (key m) ≡ refers true u) n f in
      let here : astray g t (exact (key i)) v ≡ 0 = omega (arith, z) in
      one_leads g v u.key u.depth w e (sym (ap (λ x. astray g t x v) at) ∙ here)
  leads_from g i (v ∷ vs) z (suc j) w u e f = let n : i + suc j ≡ i + 1 + j = omega arith in leads_from g (i + 1) vs (omega (arith, z)) j w u e (subst (λ m. exact (key m) ≡ refers true u) n f)

  pub leads_right : (g : Ground) (vs : List Value) → all_astray exact g t key 0 vs ≡ 0 → AreRight exact t key vs
  leads_right g vs z j w u e f = leads_from g 0 vs z j w u e (let n : j ≡ 0 + j = omega arith in subst (λ m. exact (key m) ≡ refers true u) n f)

  -- and none is off where each value with a holder has the exact type of a mutable reference, if that of a reference
  one_off : (e : Exact) (v : Value) → ((w : Lval) (m : Bool) (u : Place) → holder_of v ≡ Some w → e ≡ refers m u → place_off t u.key u.depth w ≡ 0) → holder_off t e v ≡ 0
  one_off (owns x) v go = refl
  one_off (refers m u) v go = by v u.key (λ w e. go w m u e refl)
    where
      by : (v : Value) (h : Key) → ((w : Lval) → holder_of v ≡ Some w → place_off t h u.depth w ≡ 0) → holder_off_from t h u.depth v ≡ 0
      by (value.Mut r) (slot_k x i) go = go r.holder refl
      by value.Gone (slot_k x i) go = refl
      by (value.Own y) (slot_k x i) go = refl
      by (value.SharedSlot j) (slot_k x i) go = refl
      by (value.MutSlot j) (slot_k x i) go = refl
      by (value.Shared r) (slot_k x i) go = refl
      by (value.Held n) (slot_k x i) go = refl
      by v (temp_k x i) go = refl
      by v (content_k a b) go = refl
      by v (result_k x) go = refl
      by v (hand_k x) go = refl

  off_from : (i : ℕ) (vs : List Value) → ((j : ℕ) (w : Lval) (m : Bool) (u : Place) → held vs j ≡ Some w → exact (key (i + j)) ≡ refers m u → place_off t u.key u.depth w ≡ 0) → all_off exact t key i vs ≡ 0
  off_from i [] go = refl
  off_from i (v ∷ vs) go =
      let here = one_off (exact (key i)) v (λ w m u e f. go 0 w m u e (let n : i ≡ i + 0 = omega arith in subst (λ a. exact (key a) ≡ refers m u) n f)) in
      let later = off_from (i + 1) vs (λ j w m u e f. go (suc j) w m u e (let n : i + 1 + j ≡ i + suc j = omega arith in subst (λ a. exact (key a) ≡ refers m u) n f)) in
      omega (arith, here, later)

  pub none_off : (vs : List Value) → ((j : ℕ) (w : Lval) (m : Bool) (u : Place) → held vs j ≡ Some w → exact (key j) ≡ refers m u → m ≡ true) → AreRight exact t key vs → all_off exact t key 0 vs ≡ 0
  none_off vs true_so right =
      off_from 0 vs (λ j w m u e f. (let n : 0 + j ≡ j = omega arith in
      let at : exact (key j) ≡ refers m u = subst (λ a. exact (key a) ≡ refers m u) n f in
      right j w u e (at ∙ ap (λ b. refers b u) (true_so j w m u e at))))

-- ONE STEP

-- what an act does that leaves no reference at hand
abbrev pub Clears : OnReferences → Type 0
Clears (takes w) = Unit {0}
Clears (lends w) = Unit {0}
Clears (puts w) = (n : ℕ) × (w.depth ≡ suc n)
Clears rests = ⊥
Clears binds = ⊥

-- of a thread with these slots and temporary values before its step: holders are right, references stand in slots and on top, none is at hand where a place is lent or moved, or
-- written through a star, and none is moved through
pub record Traces (on : OnReferences) (t : ℕ) (exact : KeyTypes) (vs ts : List Value) : Type 0 where
  pub slots : AreRight exact t (slot_k t) vs
  pub temps : AreRight exact t (temp_k t) ts
  pub within : (j : ℕ) (m : Bool) (u : Place) → exact (slot_k t j) ≡ refers m u → j < length vs
  pub on_top : (j : ℕ) (m : Bool) (u : Place) → exact (temp_k t j) ≡ refers m u → suc j ≡ length ts
  pub typed : (j : ℕ) (w : Lval) → held ts j ≡ Some w → (m : Bool) × (u : Place) × (exact (temp_k t j) ≡ refers m u)
  pub clear : Clears on → (j : ℕ) (m : Bool) (u : Place) → exact (temp_k t j) ≡ refers m u → ⊥
  pub over_boxes : (w : Lval) (n : ℕ) → on ≡ takes w → w.depth ≡ suc n → (m : Bool) (u : Place) → exact (slot_k t w.slot) ≡ refers m u → ⊥

short : (vs : List Value) (j : ℕ) (w : Lval) → held vs j ≡ Some w → j < length vs
short vs j w e = let v = value_held vs j w e in slice_get_within vs j v.0 v.1

module _ (on : OnReferences) (t : ℕ) (before after : KeyTypes) (vs ts us ss : List Value) (tr : Traces on t before vs ts) (kept : KeepsReferences on t (length vs) before after) (came : Came on vs ts us ss) where
  -- what was on top had the holder of its exact type
  at_top : (j : ℕ) (w : Lval) (u : Place) → top_held ts ≡ Some w → before (temp_k t j) ≡ refers true u → place_off t u.key u.depth w ≡ 0
  at_top j w u top is = let last : suc j ≡ length ts = tr.on_top j true u is in tr.temps j w u (let n : length ts - 1 ≡ j = omega (arith, last) in subst (λ m. held ts m ≡ Some w) n top) is

  idle : Clears on → (j : ℕ) (w : Lval) → held ts j ≡ Some w → ⊥
  idle clears j w e = let x = tr.typed j w e in tr.clear clears j x.0 x.1 x.2

  past : (j : ℕ) (m : Bool) (u : Place) → before (temp_k t j) ≡ refers m u → j ≡ length ts → ⊥
  past j m u is e = omega (arith, e, tr.on_top j m u is)

  one_slot : {a b : ℕ} → slot_k t a ≡ slot_k t b → a ≡ b
  one_slot e = cc

  no_slot : {a b : ℕ} → temp_k t a ≡ slot_k t b → ⊥
  no_slot e = cc

  no_temp : {a b : ℕ} → slot_k t a ≡ temp_k t b → ⊥
  no_temp e = cc

  slot_by : (on : OnReferences) → Traces on t before vs ts → (j : ℕ) (w : Lval) (u : Place) → SlotCame on vs ts j w → CameFrom on t (length vs) before (slot_k t j) u → place_off t u.key u.depth w ≡ 0
  slot_by rests r j w u c e = r.slots j w u c e
  slot_by binds r j w u (inl c) (inl e) = r.slots j w u c e
  slot_by binds r j w u (inr c) (inl e) = absurd (omega (arith, c.0, r.within j true u e))
  slot_by binds r j w u (inl c) (inr e) = absurd (omega (arith, short vs j w c, one_slot e.0))
  slot_by binds r j w u (inr c) (inr e) = at_top e.1.0 w u c.1 e.1.1
  slot_by (takes p) r j w u c (inl e) = r.slots j w u c e
  slot_by (takes p) r j w u c (inr e) = absurd (no_temp e.1)
  slot_by (lends p) r j w u c (inl e) = r.slots j w u c e
  slot_by (lends p) r j w u c (inr e) = absurd (no_temp e.1)
  slot_by (puts p) r j w u (inl c) (inl e) = r.slots j w u c.0 e.0
  slot_by (puts p) r j w u (inr c) (inl e) = absurd (e.1 c.1 (ap (slot_k t) c.0))
  slot_by (puts p) r j w u (inr c) (inr e) = at_top e.1.0 w u c.2 e.1.1
  slot_by (puts p) r j w u (inl c) (inr e) = by p.depth refl
    where
      by : (d : ℕ) → p.depth ≡ d → place_off t u.key u.depth w ≡ 0
      by zero z = absurd (c.1 z (one_slot e.0))
      by (suc n) z = absurd (r.clear (n, z) e.1.0 true u e.1.1)

  number_itself : (n : ℕ) → (n == n) ≡ true
  number_itself n = grind (arith, nat_tests)

  lent_right_off : (p w : Lval) (n : ℕ) (u : Place) → p.depth ≡ suc n → w ≡ (record p { depth = n }) → u ≡ place_of (slot_k t) p → place_off t u.key u.depth w ≡ 0
  lent_right_off p w n u d x e = subst (λ (a : Place). place_off t a.key a.depth w ≡ 0) (sym e) (subst (λ m. place_off t (slot_k t p.slot) m w ≡ 0) (sym d) (subst (λ a. place_off t (slot_k t p.slot) (suc n) a ≡ 0) (sym x) (by (t == t) (p.slot == p.slot) (n == n) (number_itself p.slot) (number_itself n))))
    where
      by : (a b c : Bool) → b ≡ true → c ≡ true → if_so a (other (b && c)) ≡ 0
      by true true true e f = refl
      by false b c e f = refl
      by true false c e f = absurd cc
      by true true false e f = absurd cc

  temp_by : (on : OnReferences) → Traces on t before vs ts → (Clears on → (j : ℕ) (w : Lval) → held ts j ≡ Some w → ⊥) → (j : ℕ) (w : Lval) (u : Place) → TempCame on vs ts j w → CameFrom on t (length vs) before (temp_k t j) u → place_off t u.key u.depth w ≡ 0
  temp_by rests r none j w u c e = r.temps j w u c e
  temp_by binds r none j w u c (inl e) = r.temps j w u c e
  temp_by binds r none j w u c (inr e) = absurd (no_slot e.0)
  temp_by (puts p) r none j w u c (inl e) = r.temps j w u c e.0
  temp_by (puts p) r none j w u c (inr e) = absurd (no_slot e.0)
  temp_by (takes p) r none j w u (inl c) e = absurd (none tt j w c)
  temp_by (takes p) r none j w u (inr c) (inl e) = absurd (past j true u e c.0)
  temp_by (takes p) r none j w u (inr c) (inr e) = by p.depth refl
    where
      by : (d : ℕ) → p.depth ≡ d → place_off t u.key u.depth w ≡ 0
      by zero z = r.slots p.slot w u (c.1 z) e.2
      by (suc n) z = absurd (r.over_boxes p n refl z true u e.2)
  temp_by (lends p) r none j w u (inl c) e = absurd (none tt j w c)
  temp_by (lends p) r none j w u (inr c) (inl e) = absurd (past j true u e c.0)
  temp_by (lends p) r none j w u (inr c) (inr e) = let x = c.1 in lent_right_off p w x.0 u x.1 x.2 e.2

  -- so holders are right afterwards
  pub slots_right : AreRight after t (slot_k t) us
  slots_right j w u e f = slot_by on tr j w u (came.slots j w e) (kept (slot_k t j) u f)

  pub temps_right : AreRight after t (temp_k t) ss
  temps_right j w u e f = temp_by on tr idle j w u (came.temps j w e) (kept (temp_k t j) u f)
