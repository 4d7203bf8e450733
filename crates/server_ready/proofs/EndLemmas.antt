-- A mutable reference that ends: cleaning it leaves its holder.
use Rattle.std.proofs.Common.{◌≡◌, ℕ, zero, suc, ◌+◌, ◌-◌, ◌<◌, ◌==◌, Bool, true, false, nat_lt, if◌then◌else◌, List, [], ◌∷◌, ◌++◌, length, slice_get, slice_set, Option, None, Some, refl, ap, arith}
use Rattle.std.specs.Bool.{⊤}
use Rattle.std.proofs.lemmas.Bool.{ltb-true}
use Rattle.std.proofs.lemmas.List.{length_push}
use Rattle.global_addr.specs.Words.{colour_of, server_of}
use Rattle.heap_partition.specs.declared.value.Cell.{Cell}
use Rattle.mut_borrow.specs.Refs.{cleaned_answer}
use Rattle.mut_borrow.specs.declared.mutable.MutRef.{MutRef}
use Rattle.mut_borrow.specs.declared.mutable.Cleaned.{Cleaned}
use Rattle.mut_borrow.specs.declared.mutable.Cleaned.TheVariants.{Same, Tinted, MustRenew}
use Rattle.thread_state.specs.declared.value.Value.{Value}
use Rattle.thread_state.specs.declared.value.Value.TheVariants as value
use Rattle.server_model.specs.Work.{Hand, front_of, last_of, then_some, with_slots}
use Rattle.server_model.specs.NewWords.{NewWord, issue_tint, issue_renewal}
use Rattle.server_model.specs.Places.{Spot, in_slot, on_top, in_cell, in_copy, nowhere, cell_at, value_at, value_in, put_word, took}
use Rattle.server_model.specs.Prepare.{Prepared, ready, requested, nothing, ready_at, ask_object, box_of, clean, clean_value, cleaned_by}
use Rattle.server_ready.specs.Stars.{ended_stars, own_value}

-- the reference at the spot has so many stars, where something is ready there
abbrev pub EndsAt : ℕ → Prepared → Type 0
EndsAt n (ready h s) = ended_stars (value_at h s) ≡ n
EndsAt n (requested h) = ⊤
EndsAt n nothing = ⊤

cell_ends : (o : Option Cell) → ended_stars (value_in o) ≡ 0
cell_ends None = refl
cell_ends (Some c) = refl

-- a cell has no reference
pub own_ended : (s : Spot) (h : Hand) → ended_stars (value_at h s) ≡ ended_stars (own_value s h.thread)
own_ended (in_slot i) h = refl
own_ended on_top h = refl
own_ended (in_cell w through) h = cell_ends (cell_at h (in_cell w through))
own_ended (in_copy w) h = cell_ends (cell_at h (in_copy w))
own_ended nowhere h = refl

get_set : (vs : List Value) (i : ℕ) (v : Value) → i < length vs → slice_get (slice_set vs i v) i ≡ Some v
get_set [] i v h = absurd (omega (arith, h))
get_set (x ∷ vs) zero v h = refl
get_set (x ∷ vs) (suc n) v h = get_set vs n v (omega (arith, h))

get_pushed : (vs : List Value) (v : Value) → slice_get (vs ++ v ∷ []) (length vs) ≡ Some v
get_pushed [] v = refl
get_pushed (x ∷ vs) v = get_pushed vs v

last_pushed : (vs : List Value) (v : Value) → last_of (vs ++ v ∷ []) ≡ Some v
last_pushed vs v =
    let e : length (vs ++ v ∷ []) - 1 ≡ length vs = omega (arith, length_push vs v) in
    rw e (get_pushed vs v)

-- what a new word at the spot leaves
abbrev PutEnds : ℕ → Spot → Hand → Type 0
PutEnds n s h = (new : NewWord) → EndsAt n (ready_at s (put_word s new h))

slot_put : (i : ℕ) (r : MutRef) (h : Hand) → slice_get h.thread.slots i ≡ Some (value.Mut r) → PutEnds (r.holder.depth + 1) (in_slot i) h
slot_put i r h e new = rw e (by (nat_lt i (length h.thread.slots)) refl)
  where
    by : (b : Bool) → nat_lt i (length h.thread.slots) ≡ b
        → EndsAt (r.holder.depth + 1) (ready_at (in_slot i) (if b then Some (with_slots (slice_set h.thread.slots i (value.Mut (took r new.word))) (record h { work = new.work })) else None))
    by true q = ap ended_stars (get_set h.thread.slots i (value.Mut (took r new.word)) (ltb-true i (length h.thread.slots) q))
    by false q = tt

top_put : (r : MutRef) (h : Hand) → last_of h.thread.temps ≡ Some (value.Mut r) → PutEnds (r.holder.depth + 1) on_top h
top_put r h e new = rw e (ap ended_stars (last_pushed (front_of h.thread.temps) (value.Mut (took r new.word))))

clean_ends : (n : ℕ) (s : Spot) (r : MutRef) (h : Hand) → ended_stars (value_at h s) ≡ n → PutEnds n s h → EndsAt n (clean s r h)
clean_ends n s r h at put = by (nat_lt (colour_of r.word) h.work.rest.partition.limit) (cleaned_answer h.work.rest.partition.limit r)
  where
    last : (b : Bool) (o : Option NewWord) → EndsAt n (if b then ready_at s (then_some o (λ new. put_word s new h)) else requested (ask_object (box_of r) h))
    last true None = tt
    last true (Some new) = put new
    last false o = tt

    by : (b : Bool) (c : Cleaned) → EndsAt n (if b then cleaned_by c s r h else nothing)
    by false c = tt
    by true Same = at
    by true (Tinted w) = put (issue_tint (box_of r) h.work)
    by true MustRenew = last (server_of r.word == h.work.rest.number) (issue_renewal (box_of r) h.work)

value_ends : (s : Spot) (h : Hand) (o : Option Value) → value_at h s ≡ o → ((r : MutRef) → value_at h s ≡ Some (value.Mut r) → PutEnds (r.holder.depth + 1) s h) → EndsAt (ended_stars o) (clean_value s o h)
value_ends s h None e put = ap ended_stars e
value_ends s h (Some value.Gone) e put = ap ended_stars e
value_ends s h (Some (value.Own v)) e put = ap ended_stars e
value_ends s h (Some (value.SharedSlot i)) e put = ap ended_stars e
value_ends s h (Some (value.MutSlot i)) e put = ap ended_stars e
value_ends s h (Some (value.Shared r)) e put = ap ended_stars e
value_ends s h (Some (value.Mut r)) e put = clean_ends (r.holder.depth + 1) s r h (ap ended_stars e) (put r e)
value_ends s h (Some (value.Held m)) e put = ap ended_stars e

cell_kept : (s : Spot) (h : Hand) (o : Option Cell) → ended_stars (value_at h s) ≡ 0 → EndsAt 0 (clean_value s (value_in o) h)
cell_kept s h None e = e
cell_kept s h (Some c) e = e

-- a reference that was cleaned has its holder still
pub cleaned_ends : (s : Spot) (h : Hand) → EndsAt (ended_stars (own_value s h.thread)) (clean_value s (value_at h s) h)
cleaned_ends (in_slot i) h = value_ends (in_slot i) h (slice_get h.thread.slots i) refl (λ r e. slot_put i r h e)
cleaned_ends on_top h = value_ends on_top h (last_of h.thread.temps) refl (λ r e. top_put r h e)
cleaned_ends (in_cell w through) h = cell_kept (in_cell w through) h (cell_at h (in_cell w through)) (cell_ends (cell_at h (in_cell w through)))
cleaned_ends (in_copy w) h = cell_kept (in_copy w) h (cell_at h (in_copy w)) (cell_ends (cell_at h (in_copy w)))
cleaned_ends nowhere h = refl
