-- A thread whose step ends in a request for a copy or an object has the marks in its slots that it had.
use Rattle.std.proofs.Common.{◌≡◌, ℕ, ◌+◌, false, List, [], ◌∷◌, refl, arith}
use Rattle.law_counts_waiting.specs.Below.fr_base.declared.name.MutexNo.{MutexNo}
use Rattle.law_counts_waiting.specs.Below.join_home.Tasks.{TaskState, going, let_go, kept, asked, in_pair}
use Rattle.law_counts_waiting.specs.Below.thread_state.View.{ThreadState}
use Rattle.law_counts_waiting.specs.Below.thread_state.declared.value.Value.{Value}
use Rattle.law_counts_waiting.specs.Below.thread_state.declared.value.Value.TheVariants as value
use Rattle.law_counts_waiting.specs.Below.server_model.Work.{Hand}
use Rattle.law_counts_waiting.specs.Below.coherent_memory.Names.{tot}
use Rattle.law_counts_waiting.specs.Below.coherent_memory.Things.{at_slot, at_temp, in_cell, Thing, holds, shares, borrows, locks, lies, flies, vacant, retired, copied, uses, sent, stands, at_home, queued, noted, counts, thread_things}
use Rattle.law_counts_waiting.specs.Below.coherent_memory.Sharing.{spot_mutex}
use Rattle.law_counts_waiting.proofs.Below.coherent_memory.Sums.{tot-append}
use Rattle.law_counts_waiting.proofs.Below.law_counts_sums.Bags.{rest_things}
use Rattle.law_counts_waiting.specs.Below.law_heap_still.events.Shows.{Sign, a_value, a_thread, sign_of, note_sign}
use Rattle.law_counts_waiting.proofs.Below.law_heap_still.events.Sites.{shown}
use Rattle.law_counts_waiting.proofs.Below.law_heap_still.events.Hands.{hand_things, HandStill}
use Rattle.law_counts_waiting.proofs.contents.Weigh.{mark, weight_of, weigh, body, thread_sum, rest_sum}
use Rattle.law_counts_waiting.proofs.contents.Marks.{frame_mark, framed_all}
use Rattle.law_counts_waiting.proofs.contents.Says.{Light}

module _ (c : MutexNo → ℕ) where
  -- what is shown weighs the contents, and a thread the marks in its slots
  abbrev sign_weight : Sign → ℕ
  sign_weight (a_value p v) = spot_mutex c p
  sign_weight (a_thread z q) = tot (frame_mark c) z.slots
  sign_weight s = 0

  abbrev none : MutexNo → ℕ
  none n = 0

  abbrev held : ThreadState → ℕ
  held t = tot (mark c) t.slots

  -- a note weighs nothing
  note_none : (t : ℕ) (x : TaskState) → sign_weight (note_sign t x) ≡ 0
  note_none t going = refl
  note_none t let_go = refl
  note_none t (kept v) = refl
  note_none t (asked s u) = refl
  note_none t (in_pair p o) = refl

  -- what a thing shows weighs what it does
  shows : (x : Thing) → sign_weight (sign_of x) ≡ weigh c none held x
  shows (holds p v) = refl
  shows (shares p r) = refl
  shows (borrows p r) = refl
  shows (locks (at_slot t i) m) = refl
  shows (locks (at_temp t i) m) = refl
  shows (locks (in_cell o) m) = refl
  shows (lies s a d) = refl
  shows (flies w d) = refl
  shows (vacant s a n) = refl
  shows (retired s a) = refl
  shows (copied s d) = refl
  shows (uses s w) = refl
  shows (sent t m) = refl
  shows (stands s p t) = omega (arith, framed_all c t.slots)
  shows (at_home s m) = refl
  shows (queued m s t) = refl
  shows (noted s t) = omega (arith, note_none t.thread t.state)
  shows (counts s a d e f g) = refl

  -- so do all things
  all_show : (xs : List Thing) → shown sign_weight xs ≡ tot (weigh c none held) xs
  all_show [] = refl
  all_show (x ∷ xs) = omega (arith, shows x, all_show xs)

  -- marks that weigh nothing
  no_marks : (vs : List Value) → tot (mark none) vs ≡ 0
  no_marks [] = refl
  no_marks (value.Gone ∷ vs) = omega (arith, no_marks vs)
  no_marks (value.Own v ∷ vs) = omega (arith, no_marks vs)
  no_marks (value.SharedSlot i ∷ vs) = omega (arith, no_marks vs)
  no_marks (value.MutSlot i ∷ vs) = omega (arith, no_marks vs)
  no_marks (value.Shared r ∷ vs) = omega (arith, no_marks vs)
  no_marks (value.Mut r ∷ vs) = omega (arith, no_marks vs)
  no_marks (value.Held m ∷ vs) = omega (arith, no_marks vs)

  -- a hand weighs the marks in its slots, and what its server says
  hand_sum : (n : ℕ) (h : Hand) → shown sign_weight (hand_things n h) ≡ held h.thread + weight_of c (body none held) h.work.rest
  hand_sum n h =
      omega (
        arith,
        all_show (hand_things n h),
        tot-append (weigh c none held) (thread_things n false h.thread) (rest_things n 0 h.work.rest),
        thread_sum c none held n false h.thread,
        no_marks h.thread.slots,
        rest_sum c none held n 0 h.work.rest,
      )

  -- where the hand shows what it showed, and what was said weighs nothing
  pub asked_held : (h h2 : Hand) (y : ThreadState) → HandStill [] h h2 → Light h.work.rest y h2.work.rest h2.thread.gift → tot (mark c) h2.thread.slots ≡ tot (mark c) h.thread.slots
  asked_held h h2 y still light =
      let n = h.work.rest.number in
      omega (arith, still.alike sign_weight refl, hand_sum n h, hand_sum n h2, light.weighs c (body none held))
