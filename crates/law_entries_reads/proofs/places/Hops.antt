-- How a value is followed by a read, and stars one by one, the last one last.
use Rattle.std.proofs.Common.{◌≡◌, ℕ, zero, suc, ◌==◌, Bool, true, false, if◌then◌else◌, List, Option, Some, None, refl, sym, ap, ◌∙◌}
use Rattle.std.proofs.lemmas.Bool.{eqb-true}
use Rattle.law_copies_kept.specs.Below.global_addr.Words.{server_of}
use Rattle.law_copies_kept.specs.Below.heap_partition.declared.value.BoxPtr.{BoxPtr}
use Rattle.law_copies_kept.specs.Below.heap_partition.declared.value.Owned.TheVariants as owned
use Rattle.law_copies_kept.specs.Below.read_cache.Cache.{Copy, is_cached}
use Rattle.law_copies_kept.specs.Below.mut_borrow.declared.mutable.MutRef.{MutRef}
use Rattle.law_copies_kept.specs.Below.place_walk.declared.hop.Hop.{Hop}
use Rattle.law_copies_kept.specs.Below.place_walk.declared.hop.Hop.TheVariants as hop
use Rattle.law_copies_kept.specs.Below.place_walk.Hops.{by_copy, clean_hop, dirty_hop, read_hop}
use Rattle.law_copies_kept.specs.Below.thread_state.declared.value.Value.{Value}
use Rattle.law_copies_kept.specs.Below.thread_state.declared.value.Value.TheVariants as value
use Rattle.law_copies_kept.specs.Below.server_model.Work.{Hand}
use Rattle.law_copies_kept.specs.Below.server_model.Places.{Spot, pointer_of}
use Rattle.law_copies_kept.specs.Below.server_model.Prepare.{Prepared, ready, requested, nothing, and_then, clean, read_star, read_stars}

-- HOPS

-- one pointer
some_box : {a b : BoxPtr} → Some a ≡ Some b → a ≡ b
some_box e = cc

-- how a value is followed by a read: no way, to a slot, to an object here, to a copy, to what has to be asked for, or it has to be cleaned first
pub data Hops (n : ℕ) (cs : List Copy) (v : Value) : Option Hop → Type 0 where
  no_way : Hops n cs v None
  to_slot : (j : ℕ) → Hops n cs v (Some (hop.Slot j))
  to_cell : (p : BoxPtr) → pointer_of v ≡ Some p → server_of p.word ≡ n → Hops n cs v (Some (hop.Direct p.word))
  to_copy : (p : BoxPtr) → pointer_of v ≡ Some p → ((q : MutRef) → v ≡ value.Mut q → q.dirty ≡ false) → is_cached cs p.word ≡ true → Hops n cs v (Some (hop.Hit p.word))
  asks : (u : ℕ) → Hops n cs v (Some (hop.NeedCopy u))
  cleans : (q : MutRef) → v ≡ value.Mut q → q.dirty ≡ true → (server_of q.word == n) ≡ false → Hops n cs v (Some (hop.NeedTint q.word))

module _ (n : ℕ) (cs : List Copy) where
  -- a pointer that shows all changes of its object
  cleanly : (v : Value) (p : BoxPtr) → pointer_of v ≡ Some p → ((q : MutRef) → v ≡ value.Mut q → q.dirty ≡ false) → Hops n cs v (Some (clean_hop n cs p.word))
  cleanly v p pointer clean = by (server_of p.word == n) refl
    where
      cached : (b : Bool) → is_cached cs p.word ≡ b → Hops n cs v (Some (if b then hop.Hit p.word else hop.NeedCopy p.word))
      cached true e = to_copy p pointer clean e
      cached false e = asks p.word

      by : (b : Bool) → (server_of p.word == n) ≡ b → Hops n cs v (Some (if b then hop.Direct p.word else by_copy cs p.word))
      by true e = to_cell p pointer (eqb-true (server_of p.word) n e)
      by false e = cached (is_cached cs p.word) refl

  -- a reference through which its object was written
  dirtily : (q : MutRef) → q.dirty ≡ true → Hops n cs (value.Mut q) (Some (dirty_hop n q.word))
  dirtily q dirty = by (server_of q.word == n) refl
    where
      by : (b : Bool) → (server_of q.word == n) ≡ b → Hops n cs (value.Mut q) (Some (if b then hop.Direct q.word else hop.NeedTint q.word))
      by true e = to_cell (record { word = q.word; object = q.object }) refl (eqb-true (server_of q.word) n e)
      by false e = cleans q refl dirty e

  -- each value
  pub hops_of : (v : Value) → Hops n cs v (read_hop n cs v)
  hops_of (value.SharedSlot j) = to_slot j
  hops_of (value.MutSlot j) = to_slot j
  hops_of (value.Own (owned.Box p)) = cleanly (value.Own (owned.Box p)) p refl (λ q e. absurd (cc e))
  hops_of (value.Shared r) = cleanly (value.Shared r) (record { word = r.word; object = r.object }) refl (λ q e. absurd (cc e))
  hops_of (value.Mut q) = by q.dirty refl
    where
      one : (a b : MutRef) → value.Mut a ≡ value.Mut b → a ≡ b
      one a b e = cc

      by : (b : Bool) → q.dirty ≡ b → Hops n cs (value.Mut q) (Some (if b then dirty_hop n q.word else clean_hop n cs q.word))
      by true e = dirtily q e
      by false e = cleanly (value.Mut q) (record { word = q.word; object = q.object }) refl (λ r f. ap (λ (z : MutRef). z.dirty) (sym (one q r f)) ∙ e)
  hops_of (value.Own owned.Nothing) = no_way
  hops_of (value.Own owned.Unit) = no_way
  hops_of (value.Own (owned.Int j)) = no_way
  hops_of (value.Own (owned.Mutex m)) = no_way
  hops_of (value.Own (owned.Task u)) = no_way
  hops_of value.Gone = no_way
  hops_of (value.Held m) = no_way

-- ONE STAR MORE

-- what goes on goes on
and_then_again : (x : Prepared) (f g : Hand → Spot → Prepared) → and_then g (and_then f x) ≡ and_then (λ h s. and_then g (f h s)) x
and_then_again (ready h s) f g = refl
and_then_again (requested h) f g = refl
and_then_again nothing f g = refl

-- the same goes on
and_then_same : (x : Prepared) (f g : Hand → Spot → Prepared) → ((h : Hand) (s : Spot) → f h s ≡ g h s) → and_then f x ≡ and_then g x
and_then_same (ready h s) f g e = e h s
and_then_same (requested h) f g e = refl
and_then_same nothing f g e = refl

-- where nothing is done
pub and_then_ready : (x : Prepared) → and_then ready x ≡ x
and_then_ready (ready h s) = refl
and_then_ready (requested h) = refl
and_then_ready nothing = refl

-- the last star last
pub stars_end : (m : ℕ) (h : Hand) (s : Spot) → read_stars (suc m) h s ≡ and_then read_star (read_stars m h s)
stars_end zero h s = and_then_same (read_star h s) (read_stars zero) ready (λ h2 s2. refl) ∙ and_then_ready (read_star h s)
stars_end (suc m) h s = and_then_same (read_star h s) (read_stars (suc m)) (λ h2 s2. and_then read_star (read_stars m h2 s2)) (stars_end m) ∙ sym (and_then_again (read_star h s) (read_stars m) read_star)
