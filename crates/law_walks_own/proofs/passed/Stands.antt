-- Where what a thread has passed are boxes with good words in its slots and cells, none of them has a copy.
use Rattle.std.proofs.Common.{◌≡◌, ℕ, zero, suc, ◌<◌, ◌≤◌, List, Option, Some, None, refl, sym, ap, subst, ◌∙◌, arith}
use Rattle.std.specs.Prelude.{slice_get}
use Rattle.law_copies_kept.specs.Below.fr_base.declared.name.ObjNo.{ObjNo}
use Rattle.law_copies_kept.specs.Below.heap_partition.declared.value.Cell.{Cell}
use Rattle.law_copies_kept.specs.Below.heap_partition.declared.value.Owned.TheVariants as owned
use Rattle.law_copies_kept.specs.Below.owner_box.View.{PartitionState}
use Rattle.law_copies_kept.specs.Below.thread_state.declared.value.Value.{Value}
use Rattle.law_copies_kept.specs.Below.thread_state.declared.value.Value.TheVariants as value
use Rattle.law_copies_kept.specs.Below.server_model.Servers.{Cluster}
use Rattle.law_copies_kept.specs.Below.coherent_memory.Names.{tot}
use Rattle.law_copies_kept.specs.Below.coherent_memory.Things.{Location, at_slot, in_cell, things_of}
use Rattle.law_copies_kept.specs.Below.coherent_memory.Follow.{Ground, cell_of, value_of, value_in, value_behind, locate}
use Rattle.law_copies_kept.specs.Below.coherent_memory.Sight.{sight}
use Rattle.law_copies_kept.specs.Below.coherent_memory.Walking.{over_hops, copied_box}
use Rattle.law_copies_kept.specs.Below.coherent_memory.Weights.{copies}
use Rattle.law_walks_others.proofs.Below.law_results_events.writes.Memory.{Leads}
use Rattle.law_walks_own.proofs.passed.Good.{GoodValue, GoodSlot, GoodAt}

-- no copy is under the word
abbrev pub NoCopy : Cluster → ℕ → Type 0
NoCopy c w = tot (copies w) (things_of c) ≡ 0

-- a slot of the thread, or the cell of an object
pub data IsOwn (t : ℕ) : Location → Type 0 where
  own_slot : (m : ℕ) → IsOwn t (at_slot t m)
  a_cell : (o : ObjNo) → IsOwn t (in_cell o)

module _ (c : Cluster) where
  none_copied : (r : ℕ) (l : Option Location) (v : Value) → GoodValue (NoCopy c) v → copied_box (sight c) r l (Some v) ≡ 0
  none_copied r l (value.Own (owned.Box p)) g = g p refl
  none_copied r l (value.Own owned.Nothing) g = refl
  none_copied r l (value.Own owned.Unit) g = refl
  none_copied r l (value.Own (owned.Int i)) g = refl
  none_copied r l (value.Own (owned.Mutex i)) g = refl
  none_copied r l (value.Own (owned.Task i)) g = refl
  none_copied r l value.Gone g = refl
  none_copied r l (value.SharedSlot i) g = refl
  none_copied r l (value.MutSlot i) g = refl
  none_copied r l (value.Shared q) g = refl
  none_copied r l (value.Mut q) g = refl
  none_copied r l (value.Held i) g = refl

  -- told by what the thread has in its slots, and its server in cells
  module _ (t slot r : ℕ) (at : ℕ → Option Location) (vs : List Value) (p : PartitionState) (slot_now : (m : ℕ) → value_in (sight c).ground (at_slot t m) ≡ slice_get vs m)
      (cell_now : (u : ℕ) (d : Cell) → Leads p u d → value_of (cell_of (sight c).ground.cells d.object) ≡ Some (value.Own d.value)) (n : ℕ)
      (same : (i : ℕ) → i < n → (l : Location) × (at i ≡ Some l) × (locate (sight c).ground t slot i ≡ Some l) × IsOwn t l) (good : (i : ℕ) → i < n → (l : Location) → at i ≡ Some l → GoodAt (NoCopy c) p vs l) where
    abbrev G : Ground
    G = (sight c).ground

    slot_so : (m : ℕ) (l : Option Location) → GoodSlot (NoCopy c) vs m → (o : Option Value) → slice_get vs m ≡ o → copied_box (sight c) r l o ≡ 0
    slot_so m l g None e = refl
    slot_so m l g (Some v) e = none_copied r l v (g v e)

    at_it : (l : Location) → IsOwn t l → GoodAt (NoCopy c) p vs l → copied_box (sight c) r (Some l) (value_in G l) ≡ 0
    at_it _ (own_slot m) g = ap (copied_box (sight c) r (Some (at_slot t m))) (slot_now m) ∙ slot_so m (Some (at_slot t m)) g (slice_get vs m) refl
    at_it _ (a_cell o) g =
        let there : value_in G (in_cell o) ≡ Some (value.Own g.cell.value) = subst (λ q. value_of (cell_of G.cells q) ≡ Some (value.Own g.cell.value)) g.object (cell_now g.word g.cell g.leads) in
        ap (copied_box (sight c) r (Some (in_cell o))) there ∙ none_copied r (Some (in_cell o)) (value.Own g.cell.value) g.good

    hop_so : (i : ℕ) → i < n → copied_box (sight c) r (locate G t slot i) (value_behind G (locate G t slot i)) ≡ 0
    hop_so i lt =
        let q = same i lt in
        subst (λ o. copied_box (sight c) r o (value_behind G o) ≡ 0) (sym q.2) (at_it q.0 q.3 (good i lt q.0 q.1))

    over_so : (a : ℕ) → a ≤ n → over_hops G t slot (copied_box (sight c) r) a ≡ 0
    over_so zero le = refl
    over_so (suc a) le = omega (arith, hop_so a (omega (arith, le)), over_so a (omega (arith, le)))

    pub none_over : over_hops (sight c).ground t slot (copied_box (sight c) r) n ≡ 0
    none_over = over_so n (omega arith)
