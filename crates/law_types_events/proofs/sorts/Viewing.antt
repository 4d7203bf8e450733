-- A view leads to no slot of its own thread: its place starts at a slot of one that waits above the thread, and leads on to slots of those who wait above that one.
use Rattle.std.proofs.Common.{◌≡◌, ◌⊎◌, inl, inr, ℕ, ◌<◌, Bool, Some, refl, sym, ap, subst, ◌∙◌, arith}
use Rattle.law_types_still.specs.Below.fr_typing.Kinds.{Owned as OwnedType}
use Rattle.law_types_still.specs.Below.fr_store.Keys.{Key, slot_k}
use Rattle.law_types_still.specs.Below.fr_store.Store.{at_key, ref_v, Store, Place}
use Rattle.law_types_still.specs.Below.fr_store.Typed.{Exact, refers, KeyTypes, Resolves, here, through}
use Rattle.law_types_still.specs.Below.fr_store.Below.{Seen}
use Rattle.law_types_still.proofs.Below.fr_store.Sound.{ref_at}
use Rattle.law_types_still.proofs.Below.fr_store.Chains.{unique}
use Rattle.law_types_still.specs.Below.fr_sound.States.{thread_of_key, IsNear, WaitsFor, WaitsAbove, directly, Typing}
use Rattle.law_types_still.specs.Below.fr_sound.States as states
use Rattle.law_types_still.specs.Below.fr_code.Machine.{CodeState}
use Rattle.law_types_still.specs.Below.server_model.Servers.{Cluster}
use Rattle.law_types_still.specs.Below.coherent_memory.OneHeap.{one_heap}
use Rattle.law_types_events.proofs.Below.law_types_still.heap.Following.{HasHeap, heap_of}

module _ (k : Cluster) (c : HasHeap k) where
  abbrev a : CodeState
  a = one_heap k

  abbrev y : Typing
  y = c.typing

  abbrev E : KeyTypes
  E = c.typing.exact

  abbrev st : Store
  st = heap_of k c

  -- who waits for a thread stands below it in the order
  waits_below : (p t : ℕ) → WaitsFor a p t → y.order p < y.order t
  waits_below p t w = let b = c.state.pairs p w.first w.second w.pair in by w.one b.1.below b.2.below
    where
      by : (t ≡ w.first) ⊎ (t ≡ w.second) → y.order p < y.order w.first → y.order p < y.order w.second → y.order p < y.order t
      by (inl e) l m = subst (λ i. y.order p < y.order i) (sym e) l
      by (inr e) l m = subst (λ i. y.order p < y.order i) (sym e) m

  above_below : (p t : ℕ) → WaitsAbove a p t → y.order p < y.order t
  above_below p t (directly w) = waits_below p t w
  above_below p t (states.through {q = q} w more) = omega (arith, waits_below p q w, above_below q t more)

  -- a thread or one that waits above it
  abbrev AtMost : ℕ → ℕ → Type 0
  AtMost p t = (p ≡ t) ⊎ (y.order p < y.order t)

  then_most : (p q t : ℕ) → AtMost p q → AtMost q t → AtMost p t
  then_most p q t (inl e) b = subst (λ i. AtMost i t) (sym e) b
  then_most p q t (inr l) (inl e) = inr (subst (λ i. y.order p < y.order i) e l)
  then_most p q t (inr l) (inr m) = inr (omega (arith, l, m))

  -- what a key of a thread names is of that one or of one above it
  pub record Named (t : ℕ) (u : Place) : Type 0 where
    pub owner : ℕ
    pub slot : ℕ
    pub is : u.key ≡ slot_k owner slot
    pub near : AtMost owner t

  some_number : {m n : ℕ} → Some m ≡ Some n → m ≡ n
  some_number e = cc

  named : (h : Key) (t : ℕ) (m : Bool) (u : Place) → thread_of_key h ≡ Some t → E h ≡ refers m u → Named t u
  named h t m u of e =
      let n = c.state.near h m u e in
      let same : n.thread ≡ t = some_number (sym n.of ∙ of) in
      record { owner = n.owner; slot = n.slot; is = n.is; near = subst (AtMost n.owner) same (by n.owner n.thread n.near) }
    where
      by : (p q : ℕ) → (p ≡ q) ⊎ WaitsAbove a p q → AtMost p q
      by p q (inl e) = inl e
      by p q (inr w) = inr (above_below p q w)

  -- so a place leads to slots of those
  base_near : (only : Bool) (h : Key) (d : ℕ) (b : Key) (n : ℕ) (p : Exact) → Resolves E only h d b n p → (t i : ℕ) → h ≡ slot_k t i → (o : ℕ) × (j : ℕ) × (b ≡ slot_k o j) × AtMost o t
  base_near only h d _ _ p (here e) t i is = (t, i, is, inl refl)
  base_near only h d b n p (through m u x e o de r) t i is =
      let w = named h t m u (ap thread_of_key is) e in
      let g = base_near only u.key _ b n p r w.owner w.slot w.is in
      (g.0, g.1, g.2, then_most g.0 w.owner t g.3 w.near)

  slot_thread : (s t i j : ℕ) → slot_k s i ≡ slot_k t j → s ≡ t
  slot_thread s t i j e = cc

  pub views_lead : (t : ℕ) (h : Key) → thread_of_key h ≡ Some t → (o : OwnedType) (m : Bool) (u : Place) → E h ≡ refers m u → Seen (slot_k t) E o u → (j : ℕ) → st.at h ≡ ref_v (at_key (slot_k t j)) → ⊥
  views_lead t h of o m u e seen j at =
      let f = ref_at y.rank E st c.state.typed h m u e in
      let target : at_key (slot_k t j) ≡ f.target = (let z : ref_v (at_key (slot_k t j)) ≡ ref_v f.target = sym at ∙ f.is in cc) in
      let one = unique st c.state.typed.owner f.base (slot_k t j) f.boxes 0 (at_key (slot_k t j)) (f.leads ∙ ap Some (sym target)) refl in
      let w = named h t m u of e in
      let g = base_near m u.key u.depth f.base f.boxes f.type f.res w.owner w.slot w.is in
      let same : g.0 ≡ t = slot_thread g.0 t g.1 j (sym g.2 ∙ one.0) in
      by w.owner w.slot w.is (subst (λ i. AtMost i w.owner) same g.3) w.near
    where
      by : (p i : ℕ) → u.key ≡ slot_k p i → AtMost t p → AtMost p t → ⊥
      by p i is up (inl q) = seen.foreign i (is ∙ ap (λ r. slot_k r i) q)
      by p i is (inl q) (inr l) = seen.foreign i (is ∙ ap (λ r. slot_k r i) (sym q))
      by p i is (inr l) (inr r) = omega (arith, l, r)
