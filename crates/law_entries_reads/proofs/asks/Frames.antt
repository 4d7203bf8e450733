-- A thread of which only words, marks and pins in slots change: what the coloured heap sees of it, and that gifts are the contents that they were.
use Rattle.std.proofs.Common.{◌≡◌, ℕ, ◌+◌, ◌==◌, Bool, false, List, [], ◌∷◌, ◌++◌, Option, Some, None, refl, ap, ap₂, ◌∙◌, arith}
use Rattle.std.specs.Prelude.{map}
use Rattle.law_entries_reads.specs.Below.law_copies_kept.Below.fr_base.declared.name.MutexNo.{MutexNo}
use Rattle.law_entries_reads.specs.Below.law_copies_kept.Below.fr_base.declared.name.ObjNo.{ObjNo}
use Rattle.law_entries_reads.specs.Below.law_copies_kept.Below.fr_base.declared.label.Plain.{Plain}
use Rattle.law_entries_reads.specs.Below.law_copies_kept.Below.thread_state.View.{ThreadState}
use Rattle.law_entries_reads.specs.Below.law_copies_kept.Below.thread_state.declared.value.Value.{Value}
use Rattle.law_entries_reads.specs.Below.law_copies_kept.Below.thread_state.declared.value.Value.TheVariants as value
use Rattle.law_entries_reads.specs.Below.law_copies_kept.Below.journal.declared.act.Act.{Act}
use Rattle.law_entries_reads.specs.Below.law_copies_kept.Below.server_model.Servers.{Cluster}
use Rattle.law_entries_reads.specs.Below.law_copies_kept.Below.server_model.Work.{Work, Site, thread_in, set_thread}
use Rattle.law_entries_reads.specs.Below.law_entries_variables.Below.coloured_heap.Heap.{Place}
use Rattle.law_entries_reads.specs.Below.law_copies_kept.Below.coherent_memory.Names.{tot, one, if_so}
use Rattle.law_entries_reads.specs.Below.law_copies_kept.Below.coherent_memory.Things.{in_slot, at_slot, Thing, locks, stands, things_at, slot_things}
use Rattle.law_entries_reads.specs.Below.law_copies_kept.Below.coherent_memory.Follow.{Standing}
use Rattle.law_entries_reads.specs.Below.law_copies_kept.Below.coherent_memory.Sight.{sight}
use Rattle.law_entries_reads.specs.Below.law_copies_kept.Below.coherent_memory.Weights.{is_thread}
use Rattle.law_entries_reads.specs.Below.law_copies_kept.Below.coherent_memory.Sharing.{gift_content}
use Rattle.law_entries_reads.specs.Below.law_copies_kept.Below.coherent_memory.Coherent.{IsSound}
use Rattle.law_entries_reads.proofs.Below.law_copies_kept.Below.law_counts_sums.Trades.{tot-append}
use Rattle.law_entries_reads.proofs.Below.law_copies_kept.Below.law_counts_sums.Bags.{all_standing, rest_things, thread_number, tot-without, tot-set}
use Rattle.law_entries_reads.specs.Below.law_entries_variables.Below.law_heap_still.events.Shows.{Frame, marking, ShownThread, frame_of}
use Rattle.law_entries_reads.proofs.Below.law_copies_kept.Below.law_heap_still.events.Told.{told, at_thread}
use Rattle.law_entries_reads.proofs.Below.law_entries_variables.deliveries.Weighed.{Seen, WorkTurns, SiteTurns, marks_of, thread_seen, pins_unseen}
use Rattle.law_entries_reads.proofs.Below.law_entries_variables.deliveries.Shown.{placed_in}
use Rattle.law_entries_reads.proofs.Below.law_entries_variables.deliveries.Live.{placed_seen}
use Rattle.law_entries_reads.proofs.Below.law_entries_variables.deliveries.After.{Follows}
use Rattle.law_entries_variables.proofs.still.Kept.{masked_of, cells_placed, numbered_seen, slots_seen, gifts_placed}

-- values that show the same but for words, marks and pins
abbrev pub SameFrames : List Value → List Value → Type 0
SameFrames xs ys = map frame_of xs ≡ map frame_of ys

pub heads : {A : Type 0} {x y : A} {xs ys : List A} → x ∷ xs ≡ y ∷ ys → (x ≡ y) × (xs ≡ ys)
heads e = (cc, cc)

-- MARKS OF LOCKS

abbrev mark_of : Frame → Option MutexNo
mark_of (marking m) = Some m
mark_of x = None

module _ (f : Thing → ℕ) (h : Seen f) where
  marked : (n t i : ℕ) (v : Value) → tot f (slot_things n t i v) ≡ told (λ m. f (locks (at_slot t i) m)) (mark_of (frame_of v))
  marked n t i value.Gone = refl
  marked n t i (value.Own v) = omega (arith, h.held (in_slot t i) v)
  marked n t i (value.SharedSlot j) = refl
  marked n t i (value.MutSlot j) = refl
  marked n t i (value.Shared r) = omega (arith, h.shared (at_slot t i) r, pins_unseen f h n r)
  marked n t i (value.Mut r) = omega (arith, h.lent (at_slot t i) r)
  marked n t i (value.Held m) = omega arith

  pub marks_same : (n t i : ℕ) (xs ys : List Value) → SameFrames xs ys → tot f (things_at (slot_things n t) i xs) ≡ tot f (things_at (slot_things n t) i ys)
  marks_same n t i [] [] e = refl
  marks_same n t i [] (y ∷ ys) e = absurd cc
  marks_same n t i (x ∷ xs) [] e = absurd cc
  marks_same n t i (x ∷ xs) (y ∷ ys) e =
      let q = heads e in
      omega (
        arith,
        marked n t i x,
        marked n t i y,
        ap (λ v. told (λ m. f (locks (at_slot t i) m)) (mark_of v)) q.0,
        marks_same n t (i + 1) xs ys q.1,
        tot-append f (slot_things n t i x) (things_at (slot_things n t) (i + 1) xs),
        tot-append f (slot_things n t i y) (things_at (slot_things n t) (i + 1) ys),
      )

-- a thread changes but for the marks in its slots
pub frames_turn : (x : Site) (t : ℕ) (y z : ThreadState) (olds news : List Thing) (acts : List Act) (w : Work) → thread_in x.threads t ≡ Some y → z.number ≡ y.number → SameFrames z.slots y.slots → WorkTurns x.work olds news acts w
    → SiteTurns x (stands x.work.rest.number false y ∷ olds) (stands x.work.rest.number false z ∷ news) acts (record { work = w; threads = set_thread x.threads z })
frames_turn x t y z olds news acts w q same slots b = record {
  number = b.number;
  noted = b.noted;
  labels = b.labels;
  things = λ f h.
      let n = x.work.rest.number in
      let ts = set_thread x.threads z in
      let there : tot f (all_standing w.rest.number ts ++ rest_things w.rest.number 0 w.rest) ≡ tot f (all_standing n ts ++ rest_things n 0 w.rest) = ap (λ i. tot f (all_standing i ts ++ rest_things i 0 w.rest)) b.number in
      let marks : marks_of f h z ≡ marks_of f h y = ap (λ i. tot f (things_at (slot_things 0 i) 0 z.slots)) same ∙ marks_same f h 0 y.number 0 z.slots y.slots slots in
      omega (
        arith,
        there,
        marks,
        b.things f h,
        thread_seen f h n false y,
        thread_seen f h n false z,
        tot-without n f x.threads t y q,
        tot-set n f x.threads t y z q (same ∙ thread_number x.threads t y q),
        tot-append f (all_standing n x.threads) (rest_things n 0 x.work.rest),
        tot-append f (all_standing n ts) (rest_things n 0 w.rest),
      );
}

-- GIFTS

-- beside that thread things come that are no threads and no objects
pub gifts_unchanged : (k c : Cluster) → IsSound k → (r : ℕ) (p q : Bool) (y z : ThreadState) (more : List Thing) → ((t : ℕ) → tot (is_thread t) more ≡ 0) → ((h : ShownThread → ℕ) (t : ℕ) → tot (at_thread (λ v. h (masked_of v)) t) more ≡ 0)
    → ((o : ObjNo) (w : Plain × Place → ℕ) → tot (λ v. told w (placed_in o v)) more ≡ 0) → z.number ≡ y.number → SameFrames z.slots y.slots → Follows k c (stands r p y ∷ []) (stands r q z ∷ more)
    → (m : MutexNo) (x : Standing) → gift_content (sight c) m x ≡ gift_content (sight k) m x
gifts_unchanged k c sound r p q y z more no_threads no_slots no_objects named slots f =
    gifts_placed k c sound f.code (record {
      threads = λ t. let same : one (z.number == t) ≡ one (y.number == t) = ap (λ i. one (i == t)) named in omega (arith, f.things (is_thread t) (numbered_seen t), same, no_threads t);
      slots = λ h t.
          let same : if_so (z.number == t) (h (of z.number (map frame_of z.slots))) ≡ if_so (y.number == t) (h (of y.number (map frame_of y.slots))) = ap₂ (λ i l. if_so (i == t) (h (of i l))) named slots in
          omega (arith, f.things (at_thread (λ v. h (masked_of v)) t) (slots_seen h t), same, no_slots h t);
      cells = λ o g. let w : Plain × Place → ℕ = (λ v. g v.0) in omega (arith, cells_placed o g k, cells_placed o g c, f.things (λ v. told w (placed_in o v)) (placed_seen o w), no_objects o w);
    })
  where
    of : ℕ → List Frame → ShownThread
    of i l = record { number = i; is_over = false; pair = None; pc = 0; temps = []; slots = l; made = 0 }
