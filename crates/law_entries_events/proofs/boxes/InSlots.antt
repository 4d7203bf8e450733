-- A place that is followed for reading: as long as it leads from slot to slot, nothing happens to the hand.
use Rattle.std.proofs.Common.{◌≡◌, ℕ, zero, suc, ◌==◌, nat_lt, Bool, true, false, if◌then◌else◌, Option, Some, None, refl, sym, ap, subst, ◌∙◌}
use Rattle.std.specs.Prelude.{⊤, slice_get}
use Rattle.law_entries_writes.specs.Below.law_entries_reads.Below.law_words_borrows.Below.global_addr.Words.{colour_of, server_of}
use Rattle.law_entries_writes.specs.Below.law_entries_reads.Below.law_words_borrows.Below.heap_partition.declared.value.BoxPtr.{BoxPtr}
use Rattle.law_entries_writes.specs.Below.law_entries_reads.Below.law_words_borrows.Below.heap_partition.declared.value.Cell.{Cell}
use Rattle.law_entries_writes.specs.Below.law_entries_reads.Below.law_words_borrows.Below.heap_partition.declared.value.Owned.{Owned}
use Rattle.law_entries_writes.specs.Below.law_entries_reads.Below.law_words_borrows.Below.heap_partition.declared.value.Owned.TheVariants as owned
use Rattle.law_entries_writes.specs.Below.law_copies_kept.Below.read_cache.Cache.{is_cached}
use Rattle.law_entries_writes.specs.Below.law_entries_reads.Below.law_words_borrows.Below.mut_borrow.Refs.{cleaned_answer}
use Rattle.law_entries_writes.specs.Below.law_entries_reads.Below.law_words_borrows.Below.mut_borrow.declared.mutable.MutRef.{MutRef}
use Rattle.law_entries_writes.specs.Below.law_entries_reads.Below.law_words_borrows.Below.mut_borrow.declared.mutable.Cleaned.{Cleaned}
use Rattle.law_entries_writes.specs.Below.law_entries_reads.Below.law_words_borrows.Below.mut_borrow.declared.mutable.Cleaned.TheVariants as cleaned
use Rattle.law_entries_writes.specs.Below.law_copies_kept.Below.place_walk.declared.hop.Hop.{Hop}
use Rattle.law_entries_writes.specs.Below.law_copies_kept.Below.place_walk.declared.hop.Hop.TheVariants as hop
use Rattle.law_entries_writes.specs.Below.law_copies_kept.Below.place_walk.Hops.{clean_hop, dirty_hop, read_hop}
use Rattle.law_entries_writes.specs.Below.law_entries_reads.Below.law_words_borrows.Below.thread_state.View.{ThreadState}
use Rattle.law_entries_writes.specs.Below.law_entries_reads.Below.law_words_borrows.Below.thread_state.declared.value.Value.{Value}
use Rattle.law_entries_writes.specs.Below.law_entries_reads.Below.law_words_borrows.Below.thread_state.declared.value.Value.TheVariants as value
use Rattle.law_entries_writes.specs.Below.law_entries_reads.Below.law_words_borrows.Below.server_model.Servers.{Rest}
use Rattle.law_entries_writes.specs.Below.law_entries_reads.Below.law_words_borrows.Below.server_model.Work.{Hand, then_some}
use Rattle.law_entries_writes.specs.Below.law_entries_reads.Below.law_words_borrows.Below.server_model.NewWords.{NewWord, issue_tint, issue_renewal}
use Rattle.law_entries_writes.specs.Below.law_entries_reads.Below.law_words_borrows.Below.server_model.Places.{Spot, in_slot, on_top, in_cell, in_copy, nowhere, cell_at, value_in, value_at, load_at, pointer_of, took, put_word}
use Rattle.law_entries_writes.specs.Below.law_entries_reads.Below.law_words_borrows.Below.server_model.Prepare.{Prepared, ready, requested, nothing, and_then, ready_at, ask_copy, ask_object, request_by, box_of, cleaned_by, clean_value, use_copy, hit_by, read_by, read_value, read_clean, tinted_first, read_star, read_stars}
use Rattle.law_entries_writes.specs.Below.law_entries_reads.Below.law_words_borrows.Below.server_model.Events.{begin_work}
use Rattle.law_entries_writes.proofs.Below.law_entries_reads.Below.law_words_borrows.Below.law_words_paths.words.Slots.{set_same}
use Rattle.law_entries_writes.proofs.Below.law_entries_reads.Below.law_words_borrows.Below.law_words_paths.words.Tints.{word_put}
use Rattle.law_entries_writes.proofs.Below.law_entries_reads.asks.ReadWalk.{loaded_at}
use Rattle.law_entries_writes.proofs.Below.law_entries_reads.places.Hops.{stars_end}

-- a hand at a slot is the one from before; at an object any
abbrev pub InSlots : Hand → Prepared → Type 0
InSlots first (ready h (in_slot j)) = h ≡ first
InSlots first (ready h (in_cell w through)) = ⊤
InSlots first (ready h (in_copy w)) = ⊤
InSlots first (ready h on_top) = ⊥
InSlots first (ready h nowhere) = ⊥
InSlots first (requested h) = ⊤
InSlots first nothing = ⊤

-- at an object, or not at all
abbrev Off : Prepared → Type 0
Off (ready h (in_slot j)) = ⊥
Off (ready h (in_cell w through)) = ⊤
Off (ready h (in_copy w)) = ⊤
Off (ready h on_top) = ⊥
Off (ready h nowhere) = ⊥
Off (requested h) = ⊤
Off nothing = ⊤

off_slots : (first : Hand) (p : Prepared) → Off p → InSlots first p
off_slots first (ready h (in_slot j)) q = absurd q
off_slots first (ready h (in_cell w through)) q = tt
off_slots first (ready h (in_copy w)) q = tt
off_slots first (ready h on_top) q = absurd q
off_slots first (ready h nowhere) q = absurd q
off_slots first (requested h) q = tt
off_slots first nothing q = tt

abbrev next : Hand → Spot → Prepared
next h s = read_value s (value_at h s) h

-- POINTERS TO OBJECTS

copy_off : (w : ℕ) (o : Option Hand) → Off (ready_at (in_copy w) o)
copy_off w None = tt
copy_off w (Some h) = tt

asks_off : (h : Hand) (o : Option BoxPtr) → Off (request_by ask_copy h o)
asks_off h None = tt
asks_off h (Some p) = tt

-- to an object here, to a copy, or a copy is asked for
clean_off : (s : Spot) (v : Value) (w : ℕ) (h : Hand) (a b : Bool) → Off (read_by s v (Some (if a then hop.Direct w else (if b then hop.Hit w else hop.NeedCopy w))) h)
clean_off s v w h true b = tt
clean_off s v w h false true = copy_off w (use_copy s v w (hit_by v h))
clean_off s v w h false false = asks_off h (pointer_of v)

-- a hop that isn't a tint's leaves the hand
clean_stays : (s : Spot) (v : Value) (w : ℕ) (h : Hand) (a b : Bool) → read_clean s v (Some (if a then hop.Direct w else (if b then hop.Hit w else hop.NeedCopy w))) h ≡ ready h s
clean_stays s v w h true b = refl
clean_stays s v w h false true = refl
clean_stays s v w h false false = refl

-- from a pointer that shows all changes
clean_read : (s : Spot) (v : Value) (w : ℕ) (h : Hand) → value_at h s ≡ Some v → read_hop h.work.rest.number h.work.rest.cache v ≡ Some (clean_hop h.work.rest.number h.work.rest.cache w) → Off (and_then next (read_clean s v (Some (clean_hop h.work.rest.number h.work.rest.cache w)) h))
clean_read s v w h there pointer =
    subst (λ p. Off (and_then next p)) (sym (clean_stays s v w h (server_of w == h.work.rest.number) (is_cached h.work.rest.cache w)))
    (subst (λ o. Off (read_value s o h)) (sym there) (subst (λ o. Off (read_by s v o h)) (sym pointer) (clean_off s v w h (server_of w == h.work.rest.number) (is_cached h.work.rest.cache w))))

-- from what is owned
owned_read : (s : Spot) (u : Owned) (h : Hand) → value_at h s ≡ Some (value.Own u) → Off (and_then next (tinted_first s (Some (value.Own u)) h))
owned_read s (owned.Box p) h e = clean_read s (value.Own (owned.Box p)) p.word h e refl
owned_read s owned.Nothing h e = subst (λ o. Off (read_value s o h)) (sym e) tt
owned_read s owned.Unit h e = subst (λ o. Off (read_value s o h)) (sym e) tt
owned_read s (owned.Int i) h e = subst (λ o. Off (read_value s o h)) (sym e) tt
owned_read s (owned.Mutex m) h e = subst (λ o. Off (read_value s o h)) (sym e) tt
owned_read s (owned.Task t) h e = subst (λ o. Off (read_value s o h)) (sym e) tt

-- from an object
cell_read : (h : Hand) (s : Spot) (o : Option Cell) → value_at h s ≡ value_in o → Off (read_star h s)
cell_read h s o e = subst (λ v. Off (and_then next (tinted_first s v (load_at s h)))) (sym e) (by o e)
  where
    by : (c : Option Cell) → value_at h s ≡ value_in c → Off (and_then next (tinted_first s (value_in c) (load_at s h)))
    by None f = tt
    by (Some c) f = owned_read s c.value (load_at s h) (loaded_at h s ∙ f)

-- FROM A SLOT

module _ (r : Rest) (y : ThreadState) where
  abbrev first : Hand
  first = record { work = begin_work r; thread = y }

  module _ (j : ℕ) (q : MutRef) (at : slice_get y.slots j ≡ Some (value.Mut q)) where
    -- a mutable reference to an object
    lent_off : (h : Hand) (p : MutRef) → Off (read_value (in_slot j) (Some (value.Mut p)) h)
    lent_off h p = by p.dirty
      where
        dirty : (b : Bool) → Off (read_by (in_slot j) (value.Mut p) (Some (if b then hop.Direct p.word else hop.NeedTint p.word)) h)
        dirty true = tt
        dirty false = tt

        by : (b : Bool) → Off (read_by (in_slot j) (value.Mut p) (Some (if b then dirty_hop h.work.rest.number p.word else clean_hop h.work.rest.number h.work.rest.cache p.word)) h)
        by true = dirty (server_of p.word == h.work.rest.number)
        by false = clean_off (in_slot j) (value.Mut p) p.word h (server_of p.word == h.work.rest.number) (is_cached h.work.rest.cache p.word)

    as_it_is : Off (next first (in_slot j))
    as_it_is = subst (λ o. Off (read_value (in_slot j) o first)) (sym at) (lent_off first q)

    -- with another word
    worded : (new : NewWord) (o : Option Hand) → put_word (in_slot j) new first ≡ o → Off (and_then next (ready_at (in_slot j) o))
    worded new None e = tt
    worded new (Some h) e =
        let wrote = word_put (record first { work = new.work }) h j new.word (value.Mut q) at e in
        let now : slice_get h.thread.slots j ≡ Some (value.Mut (took q new.word)) = ap (λ (z : ThreadState). slice_get z.slots j) wrote.thread ∙ set_same y.slots j (value.Mut q) wrote.new at ∙ sym wrote.worded in
        subst (λ v. Off (read_value (in_slot j) v h)) (sym now) (lent_off h (took q new.word))

    renewed : (o : Option NewWord) → Off (and_then next (ready_at (in_slot j) (then_some o (λ new. put_word (in_slot j) new first))))
    renewed None = tt
    renewed (Some new) = worded new (put_word (in_slot j) new first) refl

    by_answer : (c : Cleaned) → Off (and_then next (cleaned_by c (in_slot j) q first))
    by_answer cleaned.Same = as_it_is
    by_answer (cleaned.Tinted w) = worded (issue_tint (box_of q) first.work) (put_word (in_slot j) (issue_tint (box_of q) first.work) first) refl
    by_answer cleaned.MustRenew = by (server_of q.word == r.number)
      where
        by : (b : Bool) → Off (and_then next (if b then ready_at (in_slot j) (then_some (issue_renewal (box_of q) first.work) (λ new. put_word (in_slot j) new first)) else requested (ask_object (box_of q) first)))
        by true = renewed (issue_renewal (box_of q) first.work)
        by false = tt

    cleans : Off (and_then next (clean_value (in_slot j) (Some (value.Mut q)) first))
    cleans = by (nat_lt (colour_of q.word) r.partition.limit)
      where
        by : (b : Bool) → Off (and_then next (if b then cleaned_by (cleaned_answer r.partition.limit q) (in_slot j) q first else nothing))
        by true = by_answer (cleaned_answer r.partition.limit q)
        by false = tt

    lent_read : Off (and_then next (tinted_first (in_slot j) (Some (value.Mut q)) first))
    lent_read = by (read_hop r.number r.cache (value.Mut q))
      where
        by : (o : Option Hop) → Off (and_then next (read_clean (in_slot j) (value.Mut q) o first))
        by None = as_it_is
        by (Some (hop.NeedTint c)) = cleans
        by (Some (hop.Slot c)) = as_it_is
        by (Some (hop.Direct c)) = as_it_is
        by (Some (hop.Hit c)) = as_it_is
        by (Some (hop.NeedCopy c)) = as_it_is
        by (Some (hop.NeedMove c)) = as_it_is
        by (Some (hop.AtCell c)) = as_it_is

  -- from whatever stands in a slot
  slot_star : (j : ℕ) → InSlots first (read_star first (in_slot j))
  slot_star j = by (slice_get y.slots j) refl
    where
      by : (o : Option Value) → slice_get y.slots j ≡ o → InSlots first (and_then next (tinted_first (in_slot j) o first))
      by None e = tt
      by (Some (value.SharedSlot i)) e = subst (λ o. InSlots first (read_value (in_slot j) o first)) (sym e) refl
      by (Some (value.MutSlot i)) e = subst (λ o. InSlots first (read_value (in_slot j) o first)) (sym e) refl
      by (Some value.Gone) e = subst (λ o. InSlots first (read_value (in_slot j) o first)) (sym e) tt
      by (Some (value.Held m)) e = subst (λ o. InSlots first (read_value (in_slot j) o first)) (sym e) tt
      by (Some (value.Own u)) e = off_slots first (and_then next (tinted_first (in_slot j) (Some (value.Own u)) first)) (owned_read (in_slot j) u first e)
      by (Some (value.Shared q)) e = off_slots first (and_then next (tinted_first (in_slot j) (Some (value.Shared q)) first)) (clean_read (in_slot j) (value.Shared q) q.word first e refl)
      by (Some (value.Mut q)) e = off_slots first (and_then next (tinted_first (in_slot j) (Some (value.Mut q)) first)) (lent_read j q e)

  star_more : (p : Prepared) → InSlots first p → InSlots first (and_then read_star p)
  star_more (ready h (in_slot j)) e = subst (λ z. InSlots first (read_star z (in_slot j))) (sym e) (slot_star j)
  star_more (ready h (in_cell w through)) e = off_slots first (read_star h (in_cell w through)) (cell_read h (in_cell w through) (cell_at h (in_cell w through)) refl)
  star_more (ready h (in_copy w)) e = off_slots first (read_star h (in_copy w)) (cell_read h (in_copy w) (cell_at h (in_copy w)) refl)
  star_more (ready h on_top) e = absurd e
  star_more (ready h nowhere) e = absurd e
  star_more (requested h) e = tt
  star_more nothing e = tt

  -- all stars
  pub in_slots : (slot d : ℕ) → InSlots first (read_stars d first (in_slot slot))
  in_slots slot zero = refl
  in_slots slot (suc d) = subst (InSlots first) (sym (stars_end d first (in_slot slot))) (star_more (read_stars d first (in_slot slot)) (in_slots slot d))
