-- Values at spots, and words that lead to cells here.
use Rattle.std.proofs.Common.{◌≡◌, is_some, true≢false, ℕ, zero, suc, ◌+◌, ◌-◌, ◌<◌, ◌&&◌, Bool, true, false, ◌==◌, nat_lt, if◌then◌else◌, List, [], ◌∷◌, ◌++◌, length, take, slice_get, slice_set, None, IsSome, refl, sym, ap, arith}
use Rattle.std.proofs.lemmas.Bool.{eq-eqb, eqb-true, ltb-true, lt-ltb}
use Rattle.global_addr.specs.Words.{colour_of, server_of}
use Rattle.owner_box.specs.View.{PartitionState}
use Rattle.owner_box.specs.Partition.{LeadsTo, cell_of}
use Rattle.thread_state.specs.declared.value.Value.{Value}
use Rattle.server_model.specs.Work.{Hand, leads_here, look, front_of}
use Rattle.server_model.specs.Places.{Spot, in_slot, on_top, in_cell, in_copy, nowhere, value_at}
use Rattle.server_parts.specs.Spots.{has_top}

and_left : (a b : Bool) → (a && b) ≡ true → a ≡ true
and_left true b h = refl
and_left false b h = absurd (true≢false (sym h))

and_right : (a b : Bool) → (a && b) ≡ true → b ≡ true
and_right true b h = h
and_right false b h = absurd (true≢false (sym h))

-- a word that may be handed to the partition leads to a cell there
pub here_leads : (p : PartitionState) (w : ℕ) → leads_here p w ≡ true → LeadsTo p w
here_leads p w h =
    let front = and_left ((server_of w == p.server) && is_some (cell_of p w)) (nat_lt (colour_of w) p.limit) h in
    record {
      here = eqb-true (server_of w) p.server (and_left (server_of w == p.server) (is_some (cell_of p w)) front);
      live = and_right (server_of w == p.server) (is_some (cell_of p w)) front;
      colour = ltb-true (colour_of w) p.limit (and_right ((server_of w == p.server) && is_some (cell_of p w)) (nat_lt (colour_of w) p.limit) h);
    }

-- and the other way round
pub leads_here_by : (p : PartitionState) (w : ℕ) → LeadsTo p w → leads_here p w ≡ true
leads_here_by p w h = rw (eq-eqb (server_of w) p.server h.here, h.live, lt-ltb (colour_of w) p.limit h.colour) refl

pub looked_up : (p : PartitionState) (w : ℕ) → LeadsTo p w → look p w ≡ cell_of p w
looked_up p w h = rw (leads_here_by p w h) refl

pub not_found : (p : PartitionState) (w : ℕ) → (LeadsTo p w → ⊥) → look p w ≡ None
not_found p w h = by (leads_here p w) refl
  where
    by : (b : Bool) → leads_here p w ≡ b → (if b then cell_of p w else None) ≡ None
    by true e = absurd (h (here_leads p w e))
    by false e = refl

-- a value on top stands on some list of them
pub top_there : (vs : List Value) → has_top on_top vs ≡ true → 0 < length vs
top_there [] h = absurd (true≢false (sym h))
top_there (v ∷ vs) h = omega arith

set_at : (vs : List Value) (n : ℕ) (v : Value) → length vs ≡ n + 1 → slice_set vs n v ≡ take n vs ++ v ∷ []
set_at [] n v h = absurd (omega (arith, h))
set_at (x ∷ []) zero v h = refl
set_at (x ∷ y ∷ vs) zero v h = absurd (omega (arith, h))
set_at (x ∷ vs) (suc n) v h = ap (λ l. x ∷ l) (set_at vs n v (omega (arith, h)))

-- the last value becomes another one
pub set_last : (vs : List Value) (v : Value) → 0 < length vs → slice_set vs (length vs - 1) v ≡ front_of vs ++ v ∷ []
set_last vs v h = set_at vs (length vs - 1) v (omega (arith, h))

-- where a value stands on top, there is a temporary value
pub value_there : (h : Hand) (s : Spot) → IsSome (value_at h s) → has_top s h.thread.temps ≡ true
value_there h (in_slot i) v = refl
value_there h on_top v = by h.thread.temps v
  where
    by : (vs : List Value) → IsSome (slice_get vs (length vs - 1)) → has_top on_top vs ≡ true
    by [] v = cc
    by (x ∷ vs) v = refl
value_there h (in_cell w through) v = refl
value_there h (in_copy w) v = refl
value_there h nowhere v = refl
