-- Chasing references to slots finds the mutable reference to an object that a place follows: it stands in a slot at the end of a chain of slots.
use Rattle.std.proofs.Common.{◌≡◌, ◌⊎◌, inl, inr, ◌≤◌, ℕ, zero, suc, ◌+◌, ◌-◌, List, Option, Some, None, refl, sym, ap, subst, ◌∙◌, arith}
use Rattle.std.specs.Prelude.{slice_get}
use Rattle.law_words_asked.specs.Below.heap_partition.declared.value.Cell.{Cell}
use Rattle.law_words_asked.specs.Below.heap_partition.declared.value.Owned.{Owned}
use Rattle.law_words_asked.specs.Below.heap_partition.declared.value.Owned.TheVariants as owned
use Rattle.law_words_asked.specs.Below.mut_borrow.declared.mutable.MutRef.{MutRef}
use Rattle.law_words_asked.specs.Below.thread_state.declared.value.Value.{Value}
use Rattle.law_words_asked.specs.Below.thread_state.declared.value.Value.TheVariants as value
use Rattle.law_words_asked.specs.Below.server_model.Objects.{chased, chased_from}
use Rattle.law_words_asked.specs.Below.coherent_memory.Things.{Location, at_slot, at_temp, in_cell}
use Rattle.law_words_asked.specs.Below.coherent_memory.Follow.{Standing, Ground, thread_at, cell_of, slot_of, value_of, value_in, value_behind, leads, locate}

-- a reference to a slot
abbrev ToSlot : Option Value → ℕ → Type 0
ToSlot v j = (v ≡ Some (value.SharedSlot j)) ⊎ (v ≡ Some (value.MutSlot j))

to_slot : (t : ℕ) (v : Option Value) (u j : ℕ) → leads t v ≡ Some (at_slot u j) → (u ≡ t) × ToSlot v j
to_slot t (Some (value.SharedSlot i)) u j e = let same : i ≡ j = cc in (cc, inl (ap (λ x. Some (value.SharedSlot x)) same))
to_slot t (Some (value.MutSlot i)) u j e = let same : i ≡ j = cc in (cc, inr (ap (λ x. Some (value.MutSlot x)) same))
to_slot t (Some (value.Own (owned.Box p))) u j e = absurd (cc e)
to_slot t (Some (value.Own owned.Nothing)) u j e = absurd (cc e)
to_slot t (Some (value.Own owned.Unit)) u j e = absurd (cc e)
to_slot t (Some (value.Own (owned.Int n))) u j e = absurd (cc e)
to_slot t (Some (value.Own (owned.Mutex n))) u j e = absurd (cc e)
to_slot t (Some (value.Own (owned.Task n))) u j e = absurd (cc e)
to_slot t (Some (value.Shared r)) u j e = absurd (cc e)
to_slot t (Some (value.Mut r)) u j e = absurd (cc e)
to_slot t (Some value.Gone) u j e = absurd (cc e)
to_slot t (Some (value.Held m)) u j e = absurd (cc e)
to_slot t None u j e = absurd (cc e)

no_temp : (t : ℕ) (v : Option Value) (u m : ℕ) → leads t v ≡ Some (at_temp u m) → ⊥
no_temp t (Some (value.SharedSlot i)) u m e = cc e
no_temp t (Some (value.MutSlot i)) u m e = cc e
no_temp t (Some (value.Own (owned.Box p))) u m e = cc e
no_temp t (Some (value.Own owned.Nothing)) u m e = cc e
no_temp t (Some (value.Own owned.Unit)) u m e = cc e
no_temp t (Some (value.Own (owned.Int n))) u m e = cc e
no_temp t (Some (value.Own (owned.Mutex n))) u m e = cc e
no_temp t (Some (value.Own (owned.Task n))) u m e = cc e
no_temp t (Some (value.Shared r)) u m e = cc e
no_temp t (Some (value.Mut r)) u m e = cc e
no_temp t (Some value.Gone) u m e = cc e
no_temp t (Some (value.Held n)) u m e = cc e
no_temp t None u m e = cc e

-- what stands in a cell is owned
cell_owns : (o : Option Cell) (v : Value) → value_of o ≡ Some v → ((u : Owned) → v ≡ value.Own u → ⊥) → ⊥
cell_owns None v e f = cc e
cell_owns (Some c) v e f = f c.value cc

module _ (g : Ground) (t : ℕ) (me : Standing) (here : thread_at g.threads t ≡ Some me) where
  abbrev slots : List Value
  slots = me.thread.slots

  -- what isn't owned stands in a slot of the thread
  pub in_its_slot : (slot i : ℕ) (l : Location) (v : Value) → locate g t slot i ≡ Some l → value_in g l ≡ Some v → ((u : Owned) → v ≡ value.Own u → ⊥) → (j : ℕ) × (l ≡ at_slot t j) × (slice_get slots j ≡ Some v)
  in_its_slot slot i (in_cell o) v located e free = absurd (cell_owns (cell_of g.cells o) v e free)
  in_its_slot slot zero (at_temp u m) v located e free = absurd (cc located)
  in_its_slot slot (suc i) (at_temp u m) v located e free = absurd (no_temp t (value_behind g (locate g t slot i)) u m located)
  in_its_slot slot i (at_slot u j) v located e free =
      let mine = its_own i located in
      (j, ap (λ x. at_slot x j) mine, sym (ap (λ o. slot_of o j) here) ∙ subst (λ x. value_in g (at_slot x j) ≡ Some v) mine e)
    where
      its_own : (i : ℕ) → locate g t slot i ≡ Some (at_slot u j) → u ≡ t
      its_own zero q = cc
      its_own (suc i) q = (to_slot t (value_behind g (locate g t slot i)) u j q).0

  not_owned : (j : ℕ) (v : Value) → ((v ≡ value.SharedSlot j) ⊎ (v ≡ value.MutSlot j)) → (u : Owned) → v ≡ value.Own u → ⊥
  not_owned j v (inl e) u f = let no : value.SharedSlot j ≡ value.Own u = sym e ∙ f in absurd (cc no)
  not_owned j v (inr e) u f = let no : value.MutSlot j ≡ value.Own u = sym e ∙ f in absurd (cc no)

  -- a longer chain of slots passes one before
  passed : (slot i j : ℕ) → locate g t slot (suc i) ≡ Some (at_slot t j) → (m : ℕ) × (locate g t slot i ≡ Some (at_slot t m)) × ((d : ℕ) → chased (suc d) slots m ≡ chased d slots j)
  passed slot i j e = by (locate g t slot i) refl (to_slot t (value_behind g (locate g t slot i)) t j e).1
    where
      by : (o : Option Location) → locate g t slot i ≡ o → ToSlot (value_behind g o) j → (m : ℕ) × (locate g t slot i ≡ Some (at_slot t m)) × ((d : ℕ) → chased (suc d) slots m ≡ chased d slots j)
      by None q (inl f) = absurd (cc f)
      by None q (inr f) = absurd (cc f)
      by (Some l) q (inl f) =
          let a = in_its_slot slot i l (value.SharedSlot j) q f (not_owned j (value.SharedSlot j) (inl refl)) in
          (a.0, q ∙ ap (λ x. Some x) a.1, λ d. ap (chased_from (chased d slots) a.0) a.2)
      by (Some l) q (inr f) =
          let a = in_its_slot slot i l (value.MutSlot j) q f (not_owned j (value.MutSlot j) (inr refl)) in
          (a.0, q ∙ ap (λ x. Some x) a.1, λ d. ap (chased_from (chased d slots) a.0) a.2)

  -- chasing goes where the place leads
  chases : (slot i j d : ℕ) → locate g t slot i ≡ Some (at_slot t j) → chased (i + d) slots slot ≡ chased d slots j
  chases slot zero j d e =
      let same : slot ≡ j = cc in
      let none : 0 + d ≡ d = omega arith in
      ap (λ z. chased z slots slot) none ∙ ap (chased d slots) same
  chases slot (suc i) j d e =
      let a = passed slot i j e in
      let number : suc i + d ≡ i + suc d = omega arith in
      ap (λ z. chased z slots slot) number ∙ chases slot i a.0 (suc d) a.1 ∙ a.2 d

  -- and stays at a mutable reference to an object
  stays : (d j : ℕ) (r : MutRef) → slice_get slots j ≡ Some (value.Mut r) → chased d slots j ≡ j
  stays zero j r e = refl
  stays (suc d) j r e = ap (chased_from (chased d slots) j) e

  pub chased_there : (slot i j d : ℕ) (r : MutRef) → i ≤ d → locate g t slot i ≡ Some (at_slot t j) → slice_get slots j ≡ Some (value.Mut r) → chased d slots slot ≡ j
  chased_there slot i j d r le located e =
      let whole : d ≡ i + (d - i) = omega (arith, le) in
      ap (λ z. chased z slots slot) whole ∙ chases slot i j (d - i) located ∙ stays (d - i) j r e

  -- chasing stays on the place, as far as it goes
  pub chased_on : (d slot n m : ℕ) → locate g t slot n ≡ Some (at_slot t m) → (j : ℕ) × (j ≤ n + d) × (locate g t slot j ≡ Some (at_slot t (chased d slots m)))
  chased_on zero slot n m e = (n, omega arith, e)
  chased_on (suc d) slot n m e = by (slice_get slots m) refl (λ j f. chased_on d slot (suc n) j f)
    where
      next : (v : Value) (j : ℕ) → slice_get slots m ≡ Some v → leads t (Some v) ≡ Some (at_slot t j) → locate g t slot (suc n) ≡ Some (at_slot t j)
      next v j f q = ap (λ o. leads t (value_behind g o)) e ∙ ap (λ o. leads t (slot_of o m)) here ∙ ap (leads t) f ∙ q

      later : (j : ℕ) → (q : ℕ) × (q ≤ suc n + d) × (locate g t slot q ≡ Some (at_slot t (chased d slots j))) → (q : ℕ) × (q ≤ n + suc d) × (locate g t slot q ≡ Some (at_slot t (chased d slots j)))
      later j a = (a.0, omega (arith, a.1), a.2)

      by : (o : Option Value) → slice_get slots m ≡ o → ((j : ℕ) → locate g t slot (suc n) ≡ Some (at_slot t j) → (q : ℕ) × (q ≤ suc n + d) × (locate g t slot q ≡ Some (at_slot t (chased d slots j))))
          → (j : ℕ) × (j ≤ n + suc d) × (locate g t slot j ≡ Some (at_slot t (chased_from (chased d slots) m o)))
      by (Some (value.SharedSlot j)) f go = later j (go j (next (value.SharedSlot j) j f refl))
      by (Some (value.MutSlot j)) f go = later j (go j (next (value.MutSlot j) j f refl))
      by None f go = (n, omega arith, e)
      by (Some (value.Own u)) f go = (n, omega arith, e)
      by (Some value.Gone) f go = (n, omega arith, e)
      by (Some (value.Shared r)) f go = (n, omega arith, e)
      by (Some (value.Mut r)) f go = (n, omega arith, e)
      by (Some (value.Held u)) f go = (n, omega arith, e)
