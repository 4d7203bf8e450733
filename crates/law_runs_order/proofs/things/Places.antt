-- Where threads and cells are found alike, places lead alike.
use Rattle.std.proofs.Common.{◌≡◌, ℕ, zero, suc, ◌-◌, ◌∷◌, ◌++◌, reverse, Option, Some, None, refl, ap, ap₂, ◌∙◌}
use Rattle.law_runs_rounds.specs.Below.law_runs_coherent.Below.fr_base.declared.name.ObjNo.{ObjNo}
use Rattle.law_runs_rounds.specs.Below.law_runs_coherent.Below.fr_base.declared.place.Lval.{Lval}
use Rattle.law_runs_rounds.specs.Below.law_runs_coherent.Below.thread_state.declared.value.Value.{Value}
use Rattle.law_runs_rounds.specs.Below.law_runs_coherent.Below.thread_state.declared.value.Value.TheVariants as value
use Rattle.law_runs_rounds.specs.Below.law_runs_coherent.Below.coherent_memory.Things.{Location, at_slot, at_temp, in_cell}
use Rattle.law_runs_rounds.specs.Below.law_runs_coherent.Below.coherent_memory.Follow.{Ground, thread_at, cell_of, slot_of, temp_of, value_of, value_in, value_behind, leads, locate, place_at, value_at, hop_at, hops_from, hops}
use Rattle.law_runs_rounds.specs.Below.law_runs_coherent.Below.coherent_memory.Paths.{Path, no_path, reads, shares, lends, writes, ends, to_read, to_write, to_clean, all_to, borrow_to, awaited, followed}
use Rattle.law_runs_rounds.specs.Below.law_runs_coherent.Below.coherent_memory.Stale.{holder_of}

module _ (g h : Ground) (threads : (t : ℕ) → thread_at g.threads t ≡ thread_at h.threads t) (cells : (o : ObjNo) → cell_of g.cells o ≡ cell_of h.cells o) where
  pub value_same : (l : Location) → value_in g l ≡ value_in h l
  value_same (at_slot t i) = ap (λ o. slot_of o i) (threads t)
  value_same (at_temp t i) = ap (λ o. temp_of o i) (threads t)
  value_same (in_cell o) = ap value_of (cells o)

  pub behind_same : (o : Option Location) → value_behind g o ≡ value_behind h o
  behind_same None = refl
  behind_same (Some l) = value_same l

  pub located_same : (t slot n : ℕ) → locate g t slot n ≡ locate h t slot n
  located_same t slot zero = refl
  located_same t slot (suc n) = ap (leads t) (behind_same (locate g t slot n)) ∙ ap (λ o. leads t (value_behind h o)) (located_same t slot n)

  pub found_same : (t slot n : ℕ) → value_behind g (locate g t slot n) ≡ value_behind h (locate h t slot n)
  found_same t slot n = behind_same (locate g t slot n) ∙ ap (value_behind h) (located_same t slot n)

  pub place_same : (t : ℕ) (w : Lval) → place_at g t w ≡ place_at h t w
  place_same t w = located_same t w.slot w.depth

  pub at_place_same : (t : ℕ) (w : Lval) → value_at g t w ≡ value_at h t w
  at_place_same t w = found_same t w.slot w.depth

  pub hop_same : (t : ℕ) (w : Lval) (n : ℕ) → hop_at g t w n ≡ hop_at h t w n
  hop_same t w n = found_same t w.slot n

  hops_from_same : (t : ℕ) (w : Lval) (n : ℕ) → hops_from g t w n ≡ hops_from h t w n
  hops_from_same t w zero = refl
  hops_from_same t w (suc n) = ap₂ (λ (v : Option Value) vs. v ∷ vs) (hop_same t w n) (hops_from_same t w n)

  pub hops_same : (t : ℕ) (w : Lval) (n : ℕ) → hops g t w n ≡ hops h t w n
  hops_same t w n = ap reverse (hops_from_same t w n)

  pub awaited_same : (colours t : ℕ) (p : Path) → awaited colours g t p ≡ awaited colours h t p
  awaited_same colours t no_path = refl
  awaited_same colours t (reads w) = ap (all_to (to_read colours)) (hops_same t w w.depth)
  awaited_same colours t (shares w) = ap (borrow_to colours (to_clean colours)) (hops_same t w w.depth)
  awaited_same colours t (lends w) = ap (borrow_to colours to_write) (hops_same t w w.depth)
  awaited_same colours t (writes w) = ap (all_to to_write) (hops_same t w w.depth)
  awaited_same colours t (ends r) = ap (λ vs. to_write (Some (value.Mut r)) ++ all_to to_write vs) (hops_same t r.holder r.holder.depth)

  pub followed_same : (t : ℕ) (p : Path) → followed g t p ≡ followed h t p
  followed_same t (reads w) = hops_same t w w.depth
  followed_same t (lends w) = hops_same t w (w.depth - 1)
  followed_same t _ = refl

  pub holder_same : (l : Location) (w : Lval) → holder_of g l w ≡ holder_of h l w
  holder_same (at_slot t i) w = place_same t w
  holder_same (at_temp t i) w = place_same t w
  holder_same (in_cell o) w = refl
