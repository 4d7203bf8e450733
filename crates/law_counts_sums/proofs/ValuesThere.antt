-- An owned value at a place of a thread is one of those that stand in the cluster.
use Rattle.std.proofs.Common.{◌≡◌, ℕ, zero, suc, ◌+◌, ◌≤◌, ◌==◌, Bool, true, false, if◌then◌else◌, List, [], ◌∷◌, ◌++◌, Option, Some, None, inl, inr, refl, ap, subst, arith}
use Rattle.std.specs.Prelude.{slice_get}
use Rattle.coherent_memory.specs.Below.fr_base.declared.name.ObjNo.{ObjNo}
use Rattle.coherent_memory.specs.Below.heap_partition.declared.value.Cell.{Cell}
use Rattle.coherent_memory.specs.Below.heap_partition.declared.value.Owned.{Owned}
use Rattle.coherent_memory.specs.Below.thread_state.View.{ThreadState}
use Rattle.coherent_memory.specs.Below.thread_state.declared.value.Value.{Value}
use Rattle.coherent_memory.specs.Below.thread_state.declared.value.Value.TheVariants as value
use Rattle.coherent_memory.specs.Below.server_model.Servers.{Cluster}
use Rattle.coherent_memory.specs.Names.{tot, same_object, Among}
use Rattle.coherent_memory.specs.Things.{Thing, Spot, Location, at_slot, at_temp, in_cell, holds, lies, flies, things_at, value_things, gift_things, walk_things, slot_things, temp_things, thread_things, things_of}
use Rattle.coherent_memory.specs.Follow.{Standing, threads_in, thread_at, cells_in, cell_of, value_of, slot_of, temp_of, value_behind}
use Rattle.coherent_memory.specs.Sight.{sight}
use Rattle.coherent_memory.proofs.Bags.{cluster_whole}
use Rattle.law_counts_sums.proofs.Trades.{tot-append}

-- a weight that sees an owned value wherever it stands
pub record SeesOwned (f : Thing → ℕ) (g : Owned → ℕ) : Type 0 where
  pub outside : (p : Spot) (v : Owned) → f (holds p v) ≡ g v
  pub lying : (s a : ℕ) (c : Cell) → f (lies s a c) ≡ g c.value
  pub flying : (w : ℕ) (c : Cell) → f (flies w c) ≡ g c.value

some_same : {X : Type 0} {a b : X} → Some a ≡ Some b → a ≡ b
some_same e = cc

among_found : (xs : List Standing) (t : ℕ) (x : Standing) → thread_at xs t ≡ Some x → Among x xs
among_found [] t x e = absurd (cc e)
among_found (y ∷ xs) t x e = by (y.thread.number == t) (among_found xs t x) e
  where
    by : (b : Bool) → (thread_at xs t ≡ Some x → Among x xs) → (if b then Some y else thread_at xs t) ≡ Some x → Among x (y ∷ xs)
    by true go d = let same : y ≡ x = some_same d in inl same
    by false go d = inr (go d)

module _ (f : Thing → ℕ) (g : Owned → ℕ) (sees : SeesOwned f g) where
  listed : (s : ℕ) (place : ℕ → Spot) (at : ℕ → Location) (j i : ℕ) (vs : List Value) (v : Owned) → slice_get vs i ≡ Some (value.Own v) → g v ≤ tot f (things_at (λ k x. value_things s (place k) (at k) x) j vs)
  listed s place at j i [] v e = absurd (cc e)
  listed s place at j zero (x ∷ vs) v e =
      let here : tot f (value_things s (place j) (at j) x) ≡ tot f (value_things s (place j) (at j) (value.Own v)) = ap (λ y. tot f (value_things s (place j) (at j) y)) (some_same e) in
      omega (arith, here, sees.outside (place j) v, tot-append f (value_things s (place j) (at j) x) (things_at (λ k x. value_things s (place k) (at k) x) (j + 1) vs))
  listed s place at j (suc i) (x ∷ vs) v e = omega (arith, listed s place at (j + 1) i vs v e, tot-append f (value_things s (place j) (at j) x) (things_at (λ k x. value_things s (place k) (at k) x) (j + 1) vs))

  parts : (s : ℕ) (p : Bool) (t : ThreadState) → tot f (things_at (slot_things s t.number) 0 t.slots) + tot f (things_at (temp_things s t.number) 0 t.temps) ≤ tot f (thread_things s p t)
  parts s p t =
      let a = gift_things t.number t.gift in
      let w = things_at (walk_things s) 0 t.walk in
      let slots = things_at (slot_things s t.number) 0 t.slots in
      let temps = things_at (temp_things s t.number) 0 t.temps in
      omega (arith, tot-append f (a ++ w ++ slots) temps, tot-append f (a ++ w) slots)

  celled : (o : ObjNo) (c : Cell) (b : List Thing) → cell_of (cells_in b) o ≡ Some c → g c.value ≤ tot f b
  celled o c [] e = absurd (cc e)
  celled o c (lies s a d ∷ b) e = by (same_object d.object o) (celled o c b) e
    where
      by : (q : Bool) → (cell_of (cells_in b) o ≡ Some c → g c.value ≤ tot f b) → (if q then Some d else cell_of (cells_in b) o) ≡ Some c → g c.value ≤ f (lies s a d) + tot f b
      by true go h = let same : g d.value ≡ g c.value = ap (λ (z : Cell). g z.value) (some_same h) in omega (arith, same, sees.lying s a d)
      by false go h = omega (arith, go h)
  celled o c (flies w d ∷ b) e = by (same_object d.object o) (celled o c b) e
    where
      by : (q : Bool) → (cell_of (cells_in b) o ≡ Some c → g c.value ≤ tot f b) → (if q then Some d else cell_of (cells_in b) o) ≡ Some c → g c.value ≤ f (flies w d) + tot f b
      by true go h = let same : g d.value ≡ g c.value = ap (λ (z : Cell). g z.value) (some_same h) in omega (arith, same, sees.flying w d)
      by false go h = omega (arith, go h)
  celled o c (_ ∷ b) e = omega (arith, celled o c b e)

  module _ (k : Cluster) where
    of_slot : (t i : ℕ) (o : Option Standing) (v : Owned) → thread_at (threads_in (things_of k)) t ≡ o → slot_of o i ≡ Some (value.Own v) → g v ≤ tot f (things_of k)
    of_slot t i None v h e = absurd (cc e)
    of_slot t i (Some x) v h e =
        let y = x.thread in
        omega (arith, listed x.server (λ j. Rattle.coherent_memory.specs.Things.in_slot y.number j) (λ j. at_slot y.number j) 0 i y.slots v e, parts x.server x.packed y, (cluster_whole k).has x (among_found (threads_in (things_of k)) t x h) f)

    of_temp : (t i : ℕ) (o : Option Standing) (v : Owned) → thread_at (threads_in (things_of k)) t ≡ o → temp_of o i ≡ Some (value.Own v) → g v ≤ tot f (things_of k)
    of_temp t i None v h e = absurd (cc e)
    of_temp t i (Some x) v h e =
        let y = x.thread in
        omega (arith, listed x.server (λ j. Rattle.coherent_memory.specs.Things.in_temp y.number j) (λ j. at_temp y.number j) 0 i y.temps v e, parts x.server x.packed y, (cluster_whole k).has x (among_found (threads_in (things_of k)) t x h) f)

    of_cell : (o : ObjNo) (c : Option Cell) (v : Owned) → cell_of (cells_in (things_of k)) o ≡ c → value_of c ≡ Some (value.Own v) → g v ≤ tot f (things_of k)
    of_cell o None v h e = absurd (cc e)
    of_cell o (Some c) v h e =
        let same : c.value ≡ v = owned_same (some_same e) in
        subst (λ z. g z ≤ tot f (things_of k)) same (celled o c (things_of k) h)
      where
        owned_same : {a b : Owned} → value.Own a ≡ value.Own b → a ≡ b
        owned_same d = cc

    pub value_there : (l : Option Location) (v : Owned) → value_behind (sight k).ground l ≡ Some (value.Own v) → g v ≤ tot f (things_of k)
    value_there None v e = absurd (cc e)
    value_there (Some (at_slot t i)) v e = of_slot t i (thread_at (threads_in (things_of k)) t) v refl e
    value_there (Some (at_temp t i)) v e = of_temp t i (thread_at (threads_in (things_of k)) t) v refl e
    value_there (Some (in_cell o)) v e = of_cell o (cell_of (cells_in (things_of k)) o) v refl e
