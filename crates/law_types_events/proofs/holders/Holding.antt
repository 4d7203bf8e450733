-- The holders of mutable references to objects in a list of values: where a value is put, comes or goes, and where words, marks and pins change.
use Rattle.std.proofs.Common.{◌≡◌, ◌≢◌, ◌⊎◌, inl, inr, ℕ, zero, suc, ◌-◌, List, [], ◌∷◌, ◌++◌, length, map, take, Option, Some, None, refl, sym, ap, subst, ◌∙◌, arith}
use Rattle.std.specs.Prelude.{slice_get, slice_set}
use Rattle.std.proofs.lemmas.List.{length-map}
use Rattle.law_types_events.specs.Below.fr_base.Lists.{last_of}
use Rattle.law_types_events.specs.Below.fr_base.declared.place.Lval.{Lval}
use Rattle.law_types_events.specs.Below.thread_state.declared.value.Value.{Value}
use Rattle.law_types_events.specs.Below.thread_state.declared.value.Value.TheVariants as value
use Rattle.law_types_events.specs.Below.server_model.Work.{front_of, then_some}
use Rattle.law_types_events.specs.Below.law_heap_still.events.Shows.{Frame, mutable_object, moved_out, owning, shared_slot, mutable_slot, shared_object, marking, frame_of}

-- the holder of a mutable reference to an object
abbrev pub holder_of : Value → Option Lval
holder_of (value.Mut r) = Some r.holder
holder_of v = None

-- the holder of the one of that number, where it is such
abbrev pub held : List Value → ℕ → Option Lval
held vs j = then_some (slice_get vs j) holder_of

-- and of the last one
abbrev pub top_held : List Value → Option Lval
top_held vs = then_some (last_of vs) holder_of

-- each one there stood in the other list, with its holder
abbrev pub Fewer : List Value → List Value → Type 0
Fewer vs us = (j : ℕ) (w : Lval) → held us j ≡ Some w → held vs j ≡ Some w

-- the value that has the holder
pub value_held : (vs : List Value) (j : ℕ) (w : Lval) → held vs j ≡ Some w → (v : Value) × (slice_get vs j ≡ Some v) × (holder_of v ≡ Some w)
value_held vs j w e = by (slice_get vs j) refl e
  where
    by : (o : Option Value) → slice_get vs j ≡ o → then_some o holder_of ≡ Some w → (v : Value) × (slice_get vs j ≡ Some v) × (holder_of v ≡ Some w)
    by None q f = absurd cc
    by (Some v) q f = (v, q, f)

-- with one value more
pub push_held : (vs : List Value) (v : Value) (j : ℕ) (w : Lval) → held (vs ++ v ∷ []) j ≡ Some w → (held vs j ≡ Some w) ⊎ ((j ≡ length vs) × (holder_of v ≡ Some w))
push_held [] v zero w e = inr (refl, e)
push_held [] v (suc j) w e = absurd cc
push_held (x ∷ vs) v zero w e = inl e
push_held (x ∷ vs) v (suc j) w e = by (push_held vs v j w e)
  where
    by : (held vs j ≡ Some w) ⊎ ((j ≡ length vs) × (holder_of v ≡ Some w)) → (held vs j ≡ Some w) ⊎ ((suc j ≡ suc (length vs)) × (holder_of v ≡ Some w))
    by (inl h) = inl h
    by (inr h) = inr (ap suc h.0, h.1)

-- with another value at a place
pub set_held : (vs : List Value) (i : ℕ) (v : Value) (j : ℕ) (w : Lval) → held (slice_set vs i v) j ≡ Some w → ((j ≡ i) × (holder_of v ≡ Some w)) ⊎ ((j ≢ i) × (held vs j ≡ Some w))
set_held [] i v j w e = absurd cc
set_held (x ∷ vs) zero v zero w e = inl (refl, e)
set_held (x ∷ vs) zero v (suc j) w e = inr (λ q. omega (arith, q), e)
set_held (x ∷ vs) (suc i) v zero w e = inr (λ q. omega (arith, q), e)
set_held (x ∷ vs) (suc i) v (suc j) w e = by (set_held vs i v j w e)
  where
    by : ((j ≡ i) × (holder_of v ≡ Some w)) ⊎ ((j ≢ i) × (held vs j ≡ Some w)) → ((suc j ≡ suc i) × (holder_of v ≡ Some w)) ⊎ ((suc j ≢ suc i) × (held vs j ≡ Some w))
    by (inl h) = inl (ap suc h.0, h.1)
    by (inr h) = inr (λ q. h.0 (omega (arith, q)), h.1)

-- with a value there that has no holder, or the one that stood there
pub set_fewer : (vs : List Value) (i : ℕ) (v : Value) → ((w : Lval) → holder_of v ≡ Some w → held vs i ≡ Some w) → Fewer vs (slice_set vs i v)
set_fewer vs i v old j w e = by (set_held vs i v j w e)
  where
    by : ((j ≡ i) × (holder_of v ≡ Some w)) ⊎ ((j ≢ i) × (held vs j ≡ Some w)) → held vs j ≡ Some w
    by (inl h) = subst (λ n. held vs n ≡ Some w) (sym h.0) (old w h.1)
    by (inr h) = h.1

-- with one more that has none
pub push_fewer : (vs us : List Value) (v : Value) → holder_of v ≡ None → Fewer vs us → Fewer vs (us ++ v ∷ [])
push_fewer vs us v none less j w e = by (push_held us v j w e)
  where
    by : (held us j ≡ Some w) ⊎ ((j ≡ length us) × (holder_of v ≡ Some w)) → held vs j ≡ Some w
    by (inl h) = less j w h
    by (inr h) = let z : None ≡ Some w = sym none ∙ h.1 in absurd cc

-- without the last ones
take_fewer : (n : ℕ) (vs : List Value) → Fewer vs (take n vs)
take_fewer zero vs j w e = absurd cc
take_fewer (suc n) [] j w e = absurd cc
take_fewer (suc n) (x ∷ vs) zero w e = e
take_fewer (suc n) (x ∷ vs) (suc j) w e = take_fewer n vs j w e

pub front_fewer : (vs : List Value) → Fewer vs (front_of vs)
front_fewer vs = take_fewer (length vs - 1) vs

-- FRAMES

abbrev frame_holder : Frame → Option Lval
frame_holder (mutable_object o w) = Some w
frame_holder moved_out = None
frame_holder (owning v) = None
frame_holder (shared_slot i) = None
frame_holder (mutable_slot i) = None
frame_holder (shared_object o) = None
frame_holder (marking m) = None

holder_framed : (v : Value) → holder_of v ≡ frame_holder (frame_of v)
holder_framed value.Gone = refl
holder_framed (value.Own v) = refl
holder_framed (value.SharedSlot i) = refl
holder_framed (value.MutSlot i) = refl
holder_framed (value.Shared r) = refl
holder_framed (value.Mut r) = refl
holder_framed (value.Held m) = refl

all_framed : (vs : List Value) (j : ℕ) → held vs j ≡ then_some (slice_get (map frame_of vs) j) frame_holder
all_framed [] j = refl
all_framed (v ∷ vs) zero = holder_framed v
all_framed (v ∷ vs) (suc j) = all_framed vs j

-- values of the same frames have the same holders
pub framed_held : (vs us : List Value) → map frame_of us ≡ map frame_of vs → (j : ℕ) → held us j ≡ held vs j
framed_held vs us e j = all_framed us j ∙ ap (λ l. then_some (slice_get l j) frame_holder) e ∙ sym (all_framed vs j)

pub framed_length : (vs us : List Value) → map frame_of us ≡ map frame_of vs → length us ≡ length vs
framed_length vs us e = sym (length-map us frame_of) ∙ ap (λ (l : List Frame). length l) e ∙ length-map vs frame_of

pub framed_top : (vs us : List Value) → map frame_of us ≡ map frame_of vs → top_held us ≡ top_held vs
framed_top vs us e = framed_held vs us e (length us - 1) ∙ ap (λ n. held vs (n - 1)) (framed_length vs us e)
