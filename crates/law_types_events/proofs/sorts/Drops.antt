-- What is kept of how values look where a place is made ready, where a value is dropped, and where an owned one is put.
use Rattle.std.proofs.Common.{◌≡◌, ℕ, Bool, true, false, nat_lt, if◌then◌else◌, List, [], ◌∷◌, length, map, Option, Some, None, refl, sym, ap, ap₂, ◌∙◌}
use Rattle.std.specs.Prelude.{slice_get}
use Rattle.law_types_still.specs.Below.fr_base.declared.label.Plain.{Plain}
use Rattle.law_types_still.specs.Below.fr_base.declared.label.Plain.TheVariants as plain
use Rattle.law_types_still.specs.Below.fr_typing.Kinds.{Kind}
use Rattle.law_types_still.specs.Below.fr_typing.Places.{Env}
use Rattle.law_types_still.specs.Below.heap_partition.declared.value.Owned.{Owned}
use Rattle.law_types_still.specs.Below.heap_partition.declared.value.Owned.TheVariants as owned
use Rattle.law_types_still.specs.Below.owner_box.Partition.{stored}
use Rattle.law_types_still.specs.Below.read_cache.Cache.{can_unpin}
use Rattle.law_types_still.specs.Below.mut_borrow.Refs.{finish_word}
use Rattle.law_types_still.specs.Below.mut_borrow.declared.shared.SharedRef.{SharedRef}
use Rattle.law_types_still.specs.Below.mut_borrow.declared.mutable.MutRef.{MutRef}
use Rattle.law_types_still.specs.Below.thread_state.View.{ThreadState}
use Rattle.law_types_still.specs.Below.thread_state.declared.value.Value.{Value}
use Rattle.law_types_still.specs.Below.thread_state.declared.value.Value.TheVariants as value
use Rattle.law_types_still.specs.Below.server_model.Work.{Hand, working, with_partition, leads_here}
use Rattle.law_types_still.specs.Below.server_model.Places.{Spot, in_slot, on_top, in_cell, in_copy, nowhere, note_slot, note_write, put_at, written}
use Rattle.law_types_still.specs.Below.server_model.Drop.{unpin_ref, finished_at, drop_value}
use Rattle.law_types_still.specs.Below.law_counts_sums.Laws.{Gives}
use Rattle.law_types_still.proofs.Below.law_counts_sums.Results.{test_gives, weaker}
use Rattle.law_types_still.specs.Below.law_heap_still.events.Shows.{Frame, moved_out, owning, shared_slot, mutable_slot, shared_object, mutable_object, marking, frame_of}
use Rattle.law_types_still.proofs.Below.law_heap_still.events.Readied.{Readied, Kept, set_ready}
use Rattle.law_types_events.proofs.sorts.Parts.{Look, seen_look, a_nothing, a_slot, a_mutable, another, look_of}
use Rattle.law_types_events.proofs.sorts.Suited.{Suited, Topped, Alike, alike_suited, alike_topped, set_other, set_alike}
use Rattle.law_types_still.specs.Below.fr_base.declared.name.ObjNo.{ObjNo}

module _ (sees : ObjNo → Bool) where
  -- FRAMES

  abbrev owned_look : Plain → Look
  owned_look plain.Nothing = a_nothing
  owned_look v = another

  abbrev frame_look : Frame → Look
  frame_look moved_out = another
  frame_look (owning v) = owned_look v
  frame_look (shared_slot i) = a_slot
  frame_look (mutable_slot i) = a_mutable
  frame_look (shared_object o) = seen_look (sees o)
  frame_look (mutable_object o w) = a_mutable
  frame_look (marking m) = another

  -- how a value looks is seen in its frame
  look_framed : (v : Value) → look_of sees v ≡ frame_look (frame_of v)
  look_framed value.Gone = refl
  look_framed (value.Own owned.Nothing) = refl
  look_framed (value.Own owned.Unit) = refl
  look_framed (value.Own (owned.Int i)) = refl
  look_framed (value.Own (owned.Box p)) = refl
  look_framed (value.Own (owned.Mutex m)) = refl
  look_framed (value.Own (owned.Task t)) = refl
  look_framed (value.SharedSlot i) = refl
  look_framed (value.MutSlot i) = refl
  look_framed (value.Shared r) = refl
  look_framed (value.Mut r) = refl
  look_framed (value.Held m) = refl

  all_framed : (vs : List Value) → map (look_of sees) vs ≡ map frame_look (map frame_of vs)
  all_framed [] = refl
  all_framed (v ∷ vs) = ap₂ (λ (l : Look) ls. l ∷ ls) (look_framed v) (all_framed vs)

  pub framed_alike : (vs us : List Value) → map frame_of vs ≡ map frame_of us → Alike sees vs us
  framed_alike vs us e = all_framed vs ∙ ap (map frame_look) e ∙ sym (all_framed us)

  -- a hand that is ready looks as it did
  pub ready_slots : {h h2 : Hand} → Readied h h2 → Alike sees h2.thread.slots h.thread.slots
  ready_slots {h} {h2} r = framed_alike h2.thread.slots h.thread.slots (ap (λ (t : ThreadState). map frame_of t.slots) r.thread ∙ r.slots_framed)

  pub ready_temps : {h h2 : Hand} → Readied h h2 → Alike sees h2.thread.temps h.thread.temps
  ready_temps {h} {h2} r = framed_alike h2.thread.temps h.thread.temps (ap (λ (t : ThreadState). map frame_of t.temps) r.thread ∙ r.temps_framed)

  written_look : (v : Value) → look_of sees (written v) ≡ look_of sees v
  written_look (value.Mut r) = refl
  written_look value.Gone = refl
  written_look (value.Own v) = refl
  written_look (value.SharedSlot i) = refl
  written_look (value.MutSlot i) = refl
  written_look (value.Shared r) = refl
  written_look (value.Held m) = refl

  module _ (e : Env) (ts : List Kind) where
    -- a thread's slots suit the environment, and the value on top its type
    abbrev pub Fit : Hand → Type 0
    Fit h = Suited sees e h.thread.slots × Topped sees ts h.thread.temps

    pub fit_ready : (h h2 : Hand) → Readied h h2 → Fit h → Fit h2
    fit_ready h h2 r g = (alike_suited sees e h2.thread.slots h.thread.slots (ready_slots r) g.0, alike_topped sees ts h2.thread.temps h.thread.temps (ready_temps r) g.1)

    -- VALUES THAT GO

    unpins : (q : SharedRef) (b : Bool) (h : Hand) → Fit h → Gives Fit (unpin_ref q b h)
    unpins q false h g = g
    unpins q true h g = test_gives Fit (can_unpin h.work.rest.cache q.word) _ (λ on. g)

    finishes_at : (holder : Spot) (o : Option ℕ) (h : Hand) → Fit h → Gives Fit (finished_at holder o h)
    finishes_at holder None h g = g
    finishes_at holder (Some w) h g = weaker (Kept h) Fit _ (set_ready holder w h) (λ h2 k. fit_ready h h2 k.0 g)

    finishes : (holder : Spot) (q : MutRef) (b : Bool) (h : Hand) → Fit h → Gives Fit (if b then None else finished_at holder (finish_word q) h)
    finishes holder q true h g = tt
    finishes holder q false h g = finishes_at holder (finish_word q) h g

    pub drops : (holder : Spot) (v : Value) (h : Hand) → Fit h → Gives Fit (drop_value holder v h)
    drops holder (value.Own v) h g = g
    drops holder (value.Shared q) h g = unpins q q.pinned h g
    drops holder (value.Mut q) h g = finishes holder q q.dirty h g
    drops holder value.Gone h g = g
    drops holder (value.SharedSlot j) h g = g
    drops holder (value.MutSlot j) h g = g
    drops holder (value.Held m) h g = g

  module _ (e : Env) where
    abbrev pub Slots : Hand → Type 0
    Slots h = Suited sees e h.thread.slots

    -- VALUES THAT ARE PUT

    noted : (through : Option ℕ) (h : Hand) → Slots h → Slots (note_write through h)
    noted None h g = g
    noted (Some i) h g = by (slice_get h.thread.slots i) refl
      where
        by : (o : Option Value) → slice_get h.thread.slots i ≡ o → Suited sees e (note_slot h.thread.slots i o)
        by None q = g
        by (Some v) q = set_alike sees e h.thread.slots i v (written v) q (written_look v) g

    -- an owned value that is there may be put anywhere
    pub puts_owned : (s : Spot) (v : Owned) (h : Hand) → look_of sees (value.Own v) ≡ another → Slots h → Gives Slots (put_at s (value.Own v) h)
    puts_owned (in_slot i) v h l g = test_gives Slots (nat_lt i (length h.thread.slots)) _ (λ on. set_other sees e h.thread.slots i (value.Own v) l g)
    puts_owned on_top v h l g = g
    puts_owned (in_cell w through) v h l g = test_gives Slots (leads_here h.work.rest.partition w) _ (λ on. noted through (working (with_partition (stored h.work.rest.partition w v)) h) g)
    puts_owned (in_copy w) v h l g = tt
    puts_owned nowhere v h l g = tt

    -- and nothing into a cell
    pub puts_cell : (w : ℕ) (through : Option ℕ) (v : Owned) (h : Hand) → Slots h → Gives Slots (put_at (in_cell w through) (value.Own v) h)
    puts_cell w through v h g = test_gives Slots (leads_here h.work.rest.partition w) _ (λ on. noted through (working (with_partition (stored h.work.rest.partition w v)) h) g)
