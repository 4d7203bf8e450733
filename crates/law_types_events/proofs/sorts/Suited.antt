-- Slots whose values suit an environment, and the temporary value on top: where a value is put, comes or goes, and where values look as they did.
use Rattle.std.proofs.Common.{◌≡◌, ◌≢◌, ◌⊎◌, inl, inr, ℕ, zero, suc, ◌+◌, ◌-◌, ◌<◌, Bool, true, false, if◌then◌else◌, List, [], ◌∷◌, ◌++◌, length, map, Option, Some, None, refl, sym, ap, subst, ◌∙◌, arith}
use Rattle.std.specs.Prelude.{slice_get, slice_set}
use Rattle.std.proofs.lemmas.List.{length-map}
use Rattle.law_types_still.specs.Below.fr_base.Lists.{last_of}
use Rattle.law_types_still.specs.Below.fr_typing.Kinds.{Kind, own, shared, mutable, view, whole, SetTest, join_kind}
use Rattle.law_types_still.specs.Below.fr_typing.Places.{Slot, Env}
use Rattle.law_types_still.specs.Below.fr_typing.Checks.{is_int, is_owned}
use Rattle.law_types_still.proofs.Below.fr_typing.PlaceLemmas.{eq_cases}
use Rattle.law_types_still.specs.Below.fr_sound.States.{env_at}
use Rattle.law_types_still.specs.Below.fr_code.Joins.{and_temp, join_temps}
use Rattle.law_types_still.specs.Below.thread_state.declared.value.Value.{Value}
use Rattle.law_types_still.specs.Below.server_model.Work.{front_of}
use Rattle.law_types_still.specs.Below.coherent_memory.Names.{other}
use Rattle.law_types_still.proofs.Below.law_counts_sums.Values.{last_split}
use Rattle.law_types_still.specs.Below.fr_code.CodeTypes.{Entry}
use Rattle.law_types_still.specs.Below.thread_state.View.{ThreadState}
use Rattle.law_types_events.proofs.sorts.Parts.{Look, another, look_of, suits, suits_slot, suits_at, slot_other, kind_join}
use Rattle.law_types_still.specs.Below.fr_base.declared.name.ObjNo.{ObjNo}

module _ (sees : ObjNo → Bool) where
  -- each slot's value suits it
  abbrev pub Suited : Env → List Value → Type 0
  Suited e vs = (j : ℕ) (v : Value) → slice_get vs j ≡ Some v → suits_at e j (look_of sees v) ≡ true

  -- the temporary value on top suits its type
  abbrev pub top_suits : List Kind → Option Value → Bool
  top_suits (k ∷ ks) (Some v) = suits (whole k) (look_of sees v)
  top_suits ks o = true

  abbrev pub Topped : List Kind → List Value → Type 0
  Topped ts vs = top_suits ts (last_of vs) ≡ true

  -- LISTS

  some_same : {X : Type 0} {a b : X} → Some a ≡ Some b → a ≡ b
  some_same e = cc

  -- what stands in a list with one more at its end
  get_push : (vs : List Value) (v u : Value) (j : ℕ) → slice_get (vs ++ v ∷ []) j ≡ Some u → (slice_get vs j ≡ Some u) ⊎ ((j ≡ length vs) × (v ≡ u))
  get_push [] v u zero e = inr (refl, some_same e)
  get_push [] v u (suc j) e = absurd cc
  get_push (x ∷ vs) v u zero e = inl e
  get_push (x ∷ vs) v u (suc j) e = by (get_push vs v u j e)
    where
      by : (slice_get vs j ≡ Some u) ⊎ ((j ≡ length vs) × (v ≡ u)) → (slice_get vs j ≡ Some u) ⊎ ((suc j ≡ suc (length vs)) × (v ≡ u))
      by (inl h) = inl h
      by (inr h) = inr (ap suc h.0, h.1)

  -- and in one where something was put
  get_set : (vs : List Value) (i : ℕ) (v u : Value) (j : ℕ) → slice_get (slice_set vs i v) j ≡ Some u → ((j ≡ i) × (v ≡ u)) ⊎ ((j ≢ i) × (slice_get vs j ≡ Some u))
  get_set [] i v u j e = absurd cc
  get_set (x ∷ vs) zero v u zero e = inl (refl, some_same e)
  get_set (x ∷ vs) zero v u (suc j) e = inr (λ q. omega (arith, q), e)
  get_set (x ∷ vs) (suc i) v u zero e = inr (λ q. omega (arith, q), e)
  get_set (x ∷ vs) (suc i) v u (suc j) e = by (get_set vs i v u j e)
    where
      by : ((j ≡ i) × (v ≡ u)) ⊎ ((j ≢ i) × (slice_get vs j ≡ Some u)) → ((suc j ≡ suc i) × (v ≡ u)) ⊎ ((suc j ≢ suc i) × (slice_get vs j ≡ Some u))
      by (inl h) = inl (ap suc h.0, h.1)
      by (inr h) = inr (λ q. h.0 (omega (arith, q)), h.1)

  -- where something was put something stood
  set_old : (vs : List Value) (i : ℕ) (v u : Value) → slice_get (slice_set vs i v) i ≡ Some u → (old : Value) × (slice_get vs i ≡ Some old)
  set_old [] i v u e = absurd cc
  set_old (x ∷ vs) zero v u e = (x, refl)
  set_old (x ∷ vs) (suc i) v u e = set_old vs i v u e

  within : (vs : List Value) (j : ℕ) (v : Value) → slice_get vs j ≡ Some v → j < length vs
  within [] j v e = absurd cc
  within (x ∷ vs) zero v e = omega arith
  within (x ∷ vs) (suc j) v e = omega (arith, within vs j v e)

  get_more : (vs us : List Value) (j : ℕ) (v : Value) → slice_get vs j ≡ Some v → slice_get (vs ++ us) j ≡ Some v
  get_more [] us j v e = absurd cc
  get_more (x ∷ vs) us zero v e = e
  get_more (x ∷ vs) us (suc j) v e = get_more vs us j v e

  -- without its last item
  get_front : (vs : List Value) (v : Value) → last_of vs ≡ Some v → (j : ℕ) (u : Value) → slice_get (front_of vs) j ≡ Some u → slice_get vs j ≡ Some u
  get_front vs v last j u e = subst (λ l. slice_get l j ≡ Some u) (sym (last_split vs v last)) (get_more (front_of vs) (v ∷ []) j u e)

  pub push_length : (vs : List Value) (v : Value) → length (vs ++ v ∷ []) ≡ suc (length vs)
  push_length [] v = refl
  push_length (x ∷ vs) v = ap suc (push_length vs v)

  front_length : (vs : List Value) (v : Value) → last_of vs ≡ Some v → length vs ≡ suc (length (front_of vs))
  front_length vs v last = ap (λ (l : List Value). length l) (last_split vs v last) ∙ push_length (front_of vs) v

  -- VALUES THAT LOOK AS OTHERS DO

  abbrev pub Alike : List Value → List Value → Type 0
  Alike vs us = map (look_of sees) vs ≡ map (look_of sees) us

  -- one stands where the other did
  pub alike_at : (vs us : List Value) → Alike vs us → (j : ℕ) (v : Value) → slice_get vs j ≡ Some v → (u : Value) × (slice_get us j ≡ Some u) × (look_of sees u ≡ look_of sees v)
  alike_at [] us h j v e = absurd cc
  alike_at (x ∷ vs) [] h j v e = absurd cc
  alike_at (x ∷ vs) (y ∷ us) h zero v e =
      let same : look_of sees x ≡ look_of sees y = cc in
      (y, refl, sym same ∙ ap (look_of sees) (some_same e))
  alike_at (x ∷ vs) (y ∷ us) h (suc j) v e = let rest : map (look_of sees) vs ≡ map (look_of sees) us = cc in alike_at vs us rest j v e

  pub alike_length : (vs us : List Value) → Alike vs us → length vs ≡ length us
  alike_length vs us h = sym (length-map vs (look_of sees)) ∙ ap (λ (l : List Look). length l) h ∙ length-map us (look_of sees)

  pub alike_suited : (e : Env) (vs us : List Value) → Alike vs us → Suited e us → Suited e vs
  alike_suited e vs us h g j v q = let a = alike_at vs us h j v q in subst (λ l. suits_at e j l ≡ true) a.2 (g j a.0 a.1)

  -- the last one looks as the other one's last
  pub alike_last : (vs us : List Value) → Alike vs us → (v : Value) → last_of vs ≡ Some v → (u : Value) × (last_of us ≡ Some u) × (look_of sees u ≡ look_of sees v)
  alike_last vs us h v e =
      let a = alike_at vs us h (length vs - 1) v e in
      (a.0, subst (λ n. slice_get us (n - 1) ≡ Some a.0) (alike_length vs us h) a.1, a.2)

  pub by_last : (ts : List Kind) (vs : List Value) → ((k : Kind) (ks : List Kind) (v : Value) → ts ≡ k ∷ ks → last_of vs ≡ Some v → suits (whole k) (look_of sees v) ≡ true) → Topped ts vs
  by_last [] vs go = refl
  by_last (k ∷ ks) vs go = by (last_of vs) (λ v q. go k ks v refl q)
    where
      by : (o : Option Value) → ((v : Value) → o ≡ Some v → suits (whole k) (look_of sees v) ≡ true) → top_suits (k ∷ ks) o ≡ true
      by None h = refl
      by (Some v) h = h v refl

  pub topped_last : (k : Kind) (ks : List Kind) (vs : List Value) (v : Value) → Topped (k ∷ ks) vs → last_of vs ≡ Some v → suits (whole k) (look_of sees v) ≡ true
  topped_last k ks vs v g e = subst (λ o. top_suits (k ∷ ks) o ≡ true) e g

  pub alike_topped : (ts : List Kind) (vs us : List Value) → Alike vs us → Topped ts us → Topped ts vs
  alike_topped [] vs us h g = refl
  alike_topped (k ∷ ks) vs us h g =
      by_last (k ∷ ks) vs (λ l ls v q e.
      let a = alike_last vs us h v e in
      let same : k ≡ l = cc in
      subst (λ m. suits (whole m) (look_of sees v) ≡ true) same (subst (λ x. suits (whole k) x ≡ true) a.2 (topped_last k ks us a.0 g a.1)))

  -- VALUES THAT ARE PUT

  -- a new slot
  pub push_suited : (s : Slot) (e : Env) (vs : List Value) (v : Value) → length vs ≡ length e → suits_slot (Some s) (look_of sees v) ≡ true → Suited e vs → Suited (s ∷ e) (vs ++ v ∷ [])
  push_suited s e vs v long here g j u q = by (get_push vs v u j q)
    where
      by : (slice_get vs j ≡ Some u) ⊎ ((j ≡ length vs) × (v ≡ u)) → suits_at (s ∷ e) j (look_of sees u) ≡ true
      by (inl h) =
          let short = within vs j u h in
          eq_cases (λ b. suits_slot (if b then Some s else env_at e j) (look_of sees u) ≡ true) j (length e) (λ f. absurd (omega (arith, short, long, f))) (λ ne. g j u h)
      by (inr h) =
          eq_cases (λ b. suits_slot (if b then Some s else env_at e j) (look_of sees u) ≡ true) j (length e) (λ f. subst (λ w. suits_slot (Some s) (look_of sees w) ≡ true) h.1 here) (λ ne. absurd (ne (h.0 ∙ long)))

  -- the last slot goes
  pub pop_suited : (s : Slot) (e : Env) (vs : List Value) (v : Value) → length vs ≡ suc (length e) → last_of vs ≡ Some v → Suited (s ∷ e) vs → Suited e (front_of vs)
  pop_suited s e vs v long last g j u q =
      let short = within (front_of vs) j u q in
      let fewer = front_length vs v last in
      let there = g j u (get_front vs v last j u q) in
      eq_cases (λ b. suits_slot (if b then Some s else env_at e j) (look_of sees u) ≡ true → suits_at e j (look_of sees u) ≡ true) j (length e) (λ f. absurd (omega (arith, short, fewer, long, f))) (λ ne h. h) there

  pub pop_length : (vs : List Value) (v : Value) (n : ℕ) → length vs ≡ suc n → last_of vs ≡ Some v → length (front_of vs) ≡ n
  pop_length vs v n long last = omega (arith, long, front_length vs v last)

  -- what is there, and no reference, may be put anywhere
  pub set_other : (e : Env) (vs : List Value) (i : ℕ) (v : Value) → look_of sees v ≡ another → Suited e vs → Suited e (slice_set vs i v)
  set_other e vs i v look g j u q = by (get_set vs i v u j q) q
    where
      by : ((j ≡ i) × (v ≡ u)) ⊎ ((j ≢ i) × (slice_get vs j ≡ Some u)) → slice_get (slice_set vs i v) j ≡ Some u → suits_at e j (look_of sees u) ≡ true
      by (inr h) q = g j u h.1
      by (inl h) q =
          let old = set_old vs i v u (subst (λ n. slice_get (slice_set vs i v) n ≡ Some u) h.0 q) in
          let was : suits_at e j (look_of sees old.0) ≡ true = g j old.0 (subst (λ n. slice_get vs n ≡ Some old.0) (sym h.0) old.1) in
          subst (λ l. suits_at e j l ≡ true) (sym look ∙ ap (look_of sees) h.1) (slot_other (env_at e j) (look_of sees old.0) was)

  -- another environment, at one slot
  pub set_suited : (e f : Env) (vs : List Value) (i : ℕ) (v : Value) → ((l : Look) (j : ℕ) → (j ≡ i → l ≡ look_of sees v) → (j ≢ i → suits_at e j l ≡ true) → suits_at f j l ≡ true) → Suited e vs → Suited f (slice_set vs i v)
  set_suited e f vs i v go g j u q = by (get_set vs i v u j q)
    where
      by : ((j ≡ i) × (v ≡ u)) ⊎ ((j ≢ i) × (slice_get vs j ≡ Some u)) → suits_at f j (look_of sees u) ≡ true
      by (inr h) = go (look_of sees u) j (λ q. absurd (h.0 q)) (λ ne. g j u h.1)
      by (inl h) = go (look_of sees u) j (λ q. sym (ap (look_of sees) h.1)) (λ ne. absurd (ne h.0))

  pub to_suited : (e f : Env) (vs : List Value) → ((j : ℕ) (l : Look) → suits_at e j l ≡ true → suits_at f j l ≡ true) → Suited e vs → Suited f vs
  to_suited e f vs go g j u q = go j (look_of sees u) (g j u q)

  -- a new temporary value
  last_push : (vs : List Value) (v : Value) → last_of (vs ++ v ∷ []) ≡ Some v
  last_push vs v = subst (λ n. slice_get (vs ++ v ∷ []) (n - 1) ≡ Some v) (sym (push_length vs v)) (at vs)
    where
      at : (vs : List Value) → slice_get (vs ++ v ∷ []) (suc (length vs) - 1) ≡ Some v
      at vs = subst (λ n. slice_get (vs ++ v ∷ []) n ≡ Some v) (omega arith) (there vs)
        where
          there : (vs : List Value) → slice_get (vs ++ v ∷ []) (length vs) ≡ Some v
          there [] = refl
          there (x ∷ vs) = there vs

  pub push_topped : (k : Kind) (ks : List Kind) (vs : List Value) (v : Value) → suits (whole k) (look_of sees v) ≡ true → Topped (k ∷ ks) (vs ++ v ∷ [])
  push_topped k ks vs v e = subst (λ o. top_suits (k ∷ ks) o ≡ true) (sym (last_push vs v)) e

  -- KINDS THAT ANYTHING SUITS

  own_top : (k : Kind) (ks : List Kind) (o : Option Value) → is_owned k ≡ true → top_suits (k ∷ ks) o ≡ true
  own_top (own x) ks None e = refl
  own_top (own x) ks (Some v) e = refl
  own_top (shared us) ks o e = absurd cc
  own_top (mutable us) ks o e = absurd cc
  own_top (view x) ks o e = absurd cc

  int_owned : (k : Kind) → is_int k ≡ true → is_owned k ≡ true
  int_owned (own x) e = refl
  int_owned (shared us) e = absurd cc
  int_owned (mutable us) e = absurd cc
  int_owned (view x) e = absurd cc

  pub owned_topped : (k : Kind) (ks : List Kind) (vs : List Value) → is_owned k ≡ true → Topped (k ∷ ks) vs
  owned_topped k ks vs e = own_top k ks (last_of vs) e

  pub int_topped : (k : Kind) (ks : List Kind) (vs : List Value) → is_int k ≡ true → Topped (k ∷ ks) vs
  int_topped k ks vs e = own_top k ks (last_of vs) (int_owned k e)

  -- AS NUMBERS

  abbrev pub unsuited_from : Env → ℕ → List Value → ℕ
  unsuited_from e i [] = 0
  unsuited_from e i (v ∷ vs) = other (suits_at e i (look_of sees v)) + unsuited_from e (suc i) vs

  pub from_other : (b : Bool) → other b ≡ 0 → b ≡ true
  from_other true e = refl
  from_other false e = absurd cc

  pub to_other : (b : Bool) → b ≡ true → other b ≡ 0
  to_other true e = refl
  to_other false e = absurd cc

  pub none_from : (e : Env) (i : ℕ) (vs : List Value) → unsuited_from e i vs ≡ 0 → (j : ℕ) (v : Value) → slice_get vs j ≡ Some v → suits_at e (i + j) (look_of sees v) ≡ true
  none_from e i [] z j v q = absurd cc
  none_from e i (x ∷ vs) z zero v q =
      let here : suits_at e i (look_of sees x) ≡ true = from_other (suits_at e i (look_of sees x)) (omega (arith, z)) in
      let number : i ≡ i + 0 = omega arith in
      subst (λ n. suits_at e n (look_of sees v) ≡ true) number (subst (λ w. suits_at e i (look_of sees w) ≡ true) (some_same q) here)
  none_from e i (x ∷ vs) z (suc j) v q =
      let number : suc i + j ≡ i + suc j = omega arith in
      subst (λ n. suits_at e n (look_of sees v) ≡ true) number (none_from e (suc i) vs (omega (arith, z)) j v q)

  pub from_none : (e : Env) (i : ℕ) (vs : List Value) → ((j : ℕ) (v : Value) → slice_get vs j ≡ Some v → suits_at e (i + j) (look_of sees v) ≡ true) → unsuited_from e i vs ≡ 0
  from_none e i [] g = refl
  from_none e i (x ∷ vs) g =
      let number : i + 0 ≡ i = omega arith in
      let here : suits_at e i (look_of sees x) ≡ true = subst (λ n. suits_at e n (look_of sees x) ≡ true) number (g 0 x refl) in
      let later : unsuited_from e (suc i) vs ≡ 0 = from_none e (suc i) vs (λ j v q. (let n : i + suc j ≡ suc i + j = omega arith in subst (λ m. suits_at e m (look_of sees v) ≡ true) n (g (suc j) v q))) in
      omega (arith, to_other (suits_at e i (look_of sees x)) here, later)

  -- a value is put over one that looks as it
  pub set_alike : (e : Env) (vs : List Value) (i : ℕ) (old v : Value) → slice_get vs i ≡ Some old → look_of sees v ≡ look_of sees old → Suited e vs → Suited e (slice_set vs i v)
  set_alike e vs i old v at same g j u q = by (get_set vs i v u j q)
    where
      by : ((j ≡ i) × (v ≡ u)) ⊎ ((j ≢ i) × (slice_get vs j ≡ Some u)) → suits_at e j (look_of sees u) ≡ true
      by (inr h) = g j u h.1
      by (inl h) = subst (λ l. suits_at e j l ≡ true) (sym same ∙ ap (look_of sees) h.1) (g j old (subst (λ n. slice_get vs n ≡ Some old) (sym h.0) at))

  -- JOINS

  -- what suits one of two types suits their join
  pub join_topped : (same : SetTest) (ks ls zs : List Kind) (vs : List Value) → join_temps same ks ls ≡ Some zs → (Topped ks vs → Topped zs vs) × (Topped ls vs → Topped zs vs)
  join_topped same [] [] zs vs j = let z : [] ≡ zs = cc in (λ g. subst (λ ts. Topped ts vs) z refl, λ g. subst (λ ts. Topped ts vs) z refl)
  join_topped same [] (l ∷ ls) zs vs j = absurd cc
  join_topped same (k ∷ ks) [] zs vs j = absurd cc
  join_topped same (k ∷ ks) (l ∷ ls) zs vs j = by (join_kind same k l) (join_temps same ks ls) refl j
    where
      of : (m : Kind) (rest : List Kind) → join_kind same k l ≡ Some m → (o : Option Value) → (top_suits (k ∷ ks) o ≡ true → top_suits (m ∷ rest) o ≡ true) × (top_suits (l ∷ ls) o ≡ true → top_suits (m ∷ rest) o ≡ true)
      of m rest e None = (λ g. refl, λ g. refl)
      of m rest e (Some v) = kind_join same (look_of sees v) k l m e

      by : (a : Option Kind) (b : Option (List Kind)) → join_kind same k l ≡ a → and_temp a b ≡ Some zs → (Topped (k ∷ ks) vs → Topped zs vs) × (Topped (l ∷ ls) vs → Topped zs vs)
      by None b e f = absurd cc
      by (Some m) None e f = absurd cc
      by (Some m) (Some rest) e f =
          let z : m ∷ rest ≡ zs = cc in
          let g = of m rest e (last_of vs) in
          (λ q. subst (λ ts. Topped ts vs) z (g.0 q), λ q. subst (λ ts. Topped ts vs) z (g.1 q))

  -- what of a thread's values doesn't suit its entry
  abbrev pub unsuited_of : ThreadState → Entry → ℕ
  unsuited_of t x = unsuited_from x.env 0 t.slots + other (top_suits x.temps (last_of t.temps))
