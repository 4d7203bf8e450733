-- Copies, dups and locks, once their place is ready: one value of the thread moves at most.
use Rattle.std.proofs.Common.{◌≡◌, ◌⊎◌, inl, inr, ℕ, zero, suc, ◌+◌, Bool, true, false, if◌then◌else◌, List, [], ◌∷◌, ◌++◌, length, Option, Some, None, option_map, refl, sym, ap, subst, ◌∙◌}
use Rattle.std.specs.Prelude.{slice_get}
use Rattle.law_words_borrows.specs.Below.fr_base.declared.name.MutexNo.{MutexNo}
use Rattle.law_words_borrows.specs.Below.fr_base.declared.instruction.Instr.{Instr}
use Rattle.law_words_borrows.specs.Below.fr_base.declared.step.Fresh.TheVariants as fresh
use Rattle.law_words_borrows.specs.Below.heap_partition.declared.value.Owned.{Owned}
use Rattle.law_words_borrows.specs.Below.mut_borrow.declared.shared.SharedRef.{SharedRef}
use Rattle.law_words_borrows.specs.Below.journal.declared.act.Act.{Act}
use Rattle.law_words_borrows.specs.Below.journal.declared.act.Act.TheVariants as act
use Rattle.law_words_borrows.specs.Below.thread_state.View.{ThreadState}
use Rattle.law_words_borrows.specs.Below.thread_state.declared.phase.Phase.{Phase}
use Rattle.law_words_borrows.specs.Below.thread_state.declared.phase.Phase.TheVariants as phase
use Rattle.law_words_borrows.specs.Below.thread_state.declared.value.Value.{Value}
use Rattle.law_words_borrows.specs.Below.thread_state.declared.value.Value.TheVariants as value
use Rattle.law_words_borrows.specs.Below.server_msgs.declared.message.Message.{Message}
use Rattle.law_words_borrows.specs.Below.server_msgs.declared.message.Message.TheVariants as message
use Rattle.law_words_borrows.specs.Below.server_model.Work.{Hand, note, send, working, with_phase, push_temp}
use Rattle.law_words_borrows.specs.Below.server_model.Places.{Spot, value_at, load_at, owns_nothing, second_of}
use Rattle.law_words_borrows.specs.Below.server_model.Commit.{goes_on, waiting, take_gift, push_content, ask_dup, ask_lock, mutex_at, dup, lock, read, read_as}
use Rattle.law_words_borrows.specs.Below.server_model.Events.{Stepped, wait_step, committed}
use Rattle.law_words_borrows.specs.Below.coherent_memory.Names.{Among}
use Rattle.law_words_borrows.specs.Below.coherent_memory.Things.{Location, at_slot, at_temp, Thing, shares, sent, slot_things, temp_things, thread_things, message_things, things_at}
use Rattle.law_words_borrows.specs.Below.coherent_memory.Sight.{Pointer, pointers_of}
use Rattle.law_words_borrows.proofs.Below.law_words_paths.paths.Origins.{among_first, among_second}
use Rattle.law_copies_kept.specs.Below.law_words_paths.words.Unmoved.{pointing}
use Rattle.law_copies_kept.proofs.Below.law_words_paths.words.Standing.{standing_among}
use Rattle.law_words_borrows.specs.Below.law_counts_sums.Laws.{Gives}
use Rattle.law_words_borrows.proofs.Below.law_counts_sums.Results.{then_gives, map_gives}
use Rattle.law_words_borrows.proofs.Below.law_counts_sums.Bags.{body_things, sent_number}
use Rattle.law_copies_kept.proofs.Below.law_words_kept.stays.Alike.{Alike, Within, Seen, itself, turned, chain, beside, joined, seen_itself, within_both, within_first, blank, goes}
use Rattle.law_copies_kept.proofs.Below.law_words_kept.stays.Servers.{held_if, sends}
use Rattle.law_copies_kept.proofs.Below.law_words_kept.stays.Threads.{slots_of, temps_of, thread_alike, values_alike, TakesNone}
use Rattle.law_copies_kept.proofs.Below.law_words_kept.stays.Sites.{HandAlike}
use Rattle.law_copies_kept.proofs.Below.law_words_kept.stays.Steps.{IsUnseen, shared_slot_unseen, owned_unseen, last_points, TakesNoneHere, pushes}
use Rattle.law_copies_kept.proofs.Below.law_words_kept.prepared.Copying.{end_things}
use Rattle.law_copies_kept.proofs.Below.law_words_values.carried.Passing.{slot, temp, nowhere}
use Rattle.law_copies_kept.proofs.Below.law_words_values.carried.Places.{gift_to_temp}
use Rattle.law_copies_kept.proofs.Below.law_words_values.carried.Hands.{Moved, seen, passed, each_together}
use Rattle.law_copies_kept.proofs.Below.law_words_values.carried.Locks.{content_taken}
use Rattle.law_copies_kept.proofs.Below.law_words_values.carried.Steps.{Does, goes_over}

-- A SHARED REFERENCE ONCE MORE

-- its thing among those of the slots
slot_listed : (n t i : ℕ) (xs : List Value) (j : ℕ) (r : SharedRef) → slice_get xs j ≡ Some (value.Shared r) → (l : Location) × Among (shares l r) (things_at (slot_things n t) i xs)
slot_listed n t i [] j r e = absurd cc
slot_listed n t i (x ∷ xs) zero r e =
    let s : x ≡ value.Shared r = cc in
    (at_slot t i, among_first (shares (at_slot t i) r) (slot_things n t i x) (things_at (slot_things n t) (i + 1) xs) (subst (λ v. Among (shares (at_slot t i) r) (slot_things n t i v)) (sym s) (inl refl)))
slot_listed n t i (x ∷ xs) (suc j) r e = let q = slot_listed n t (i + 1) xs j r e in (q.0, among_second (shares q.0 r) (slot_things n t i x) (things_at (slot_things n t) (i + 1) xs) q.1)

-- what is seen among others anyway
extra_seen : {code : List Instr} (a b : List Thing) → Within code b a → Alike code (a ++ b) a
extra_seen {code = code} a b w = record { on = within_both code a b a (λ y h. seen_itself code a y h) w; back = within_first code a a b (λ y h. seen_itself code a y h) }

shared_again : (code : List Instr) (l m : Location) (r : SharedRef) (a : List Thing) → Among (shares m r) a → Within code (shares l (record r { pinned = false }) ∷ []) a
shared_again code l m r a h y (inl e) = subst (λ z. Seen code a z) e (λ p n q. standing_among p (shares m r) a h q)
shared_again code l m r a h y (inr g) = absurd g

module _ (code : List Instr) (n : ℕ) (h : Hand) (none : TakesNoneHere code h.thread) where
  abbrev x : ThreadState
  x = h.thread

  shared_pushed : (j : ℕ) (r : SharedRef) → slice_get x.slots j ≡ Some (value.Shared r) → HandAlike code n [] h (push_temp (value.Shared (record r { pinned = false })) h)
  shared_pushed j r e = record {
    number = refl;
    named = refl;
    thread = values_alike n x z (record { number = refl; taking = refl; slots = λ i. refl; temps = last_points x.temps v refl }) values refl;
    rest = itself (body_things n h.work.rest);
  }
    where
      v : Value
      v = value.Shared (record r { pinned = false })

      z : ThreadState
      z = record x { temps = x.temps ++ v ∷ [] }

      f : ℕ → Value → List Thing
      f = temp_things n x.number

      values : Alike code (slots_of n x ++ temps_of n x) (slots_of n x ++ things_at f 0 (x.temps ++ v ∷ []))
      values =
          let q = end_things {code = code} f 0 x.temps v in
          let m = slot_listed n x.number 0 x.slots j r e in
          let there : Among (shares m.0 r) (slots_of n x ++ temps_of n x) = among_first (shares m.0 r) (slots_of n x) (temps_of n x) m.1 in
          chain (turned (extra_seen (slots_of n x ++ temps_of n x) (f q.0 v) (shared_again code (at_temp x.number q.0) m.0 r (slots_of n x ++ temps_of n x) there)))
          (chain (turned (joined (slots_of n x) (temps_of n x) (f q.0 v))) (beside (itself (slots_of n x)) (turned q.1)))

  -- what goes on so has moved nothing
  stays_so : (h2 : Hand) → HandAlike code n [] h h2 → TakesNoneHere code h2.thread → Does code n h h2
  stays_so h2 a untaken = record { moved = seen (each_together a); untaken = untaken }

  -- a second value of one at a spot is pushed
  pub second_pushed : (sp : Spot) (v u : Value) → second_of v ≡ Some u → ((r : SharedRef) → v ≡ value.Shared r → (j : ℕ) × (slice_get x.slots j ≡ Some v)) → Does code n h (push_temp u (load_at sp h))
  second_pushed sp v u two where_it = over_load (by v u two where_it)
    where
      over_load : HandAlike code n [] h (push_temp u h) → Does code n h (push_temp u (load_at sp h))
      over_load a = stays_so (push_temp u (load_at sp h)) (record { number = a.number; named = a.named; thread = a.thread; rest = a.rest }) none

      plain : (w z : Value) → IsUnseen w → w ≡ z → HandAlike code n [] h (push_temp z h)
      plain w z q e = subst (λ b. HandAlike code n [] h (push_temp b h)) e (pushes code n h w q none).alike

      own : (o : Owned) (z : Value) (b : Bool) → owns_nothing o ≡ b → (if b then Some (value.Own o) else None) ≡ Some z → HandAlike code n [] h (push_temp z h)
      own o z true q e = plain (value.Own o) z (owned_unseen o q) (let w : value.Own o ≡ z = cc in w)
      own o z false q e = absurd cc

      by : (v z : Value) → second_of v ≡ Some z → ((r : SharedRef) → v ≡ value.Shared r → (j : ℕ) × (slice_get x.slots j ≡ Some v)) → HandAlike code n [] h (push_temp z h)
      by (value.Own o) z e q = own o z (owns_nothing o) refl e
      by (value.SharedSlot i) z e q = plain (value.SharedSlot i) z (shared_slot_unseen i) (let w : value.SharedSlot i ≡ z = cc in w)
      by (value.Shared r) z e q = let at = q r refl in let w : value.Shared (record r { pinned = false }) ≡ z = cc in subst (λ b. HandAlike code n [] h (push_temp b h)) w (shared_pushed at.0 r at.1)
      by (value.MutSlot i) z e q = absurd cc
      by (value.Mut r) z e q = absurd cc
      by value.Gone z e q = absurd cc
      by (value.Held c) z e q = absurd cc

  -- a gift is taken, and comes on top
  pub gift_pushed : (sp : Spot) (v : Owned) → x.gift ≡ Some v → Does code n h (push_temp (value.Own v) (load_at sp (take_gift h)))
  gift_pushed sp v given = record {
    moved = passed x z refl (itself (thread_things n false x)) (λ o. refl) (gift_to_temp code n x none v given) blind (record { number = refl; named = refl; alike = itself (thread_things n false z ++ body_things n h.work.rest) });
    untaken = none;
  }
    where
      z : ThreadState
      z = record x { gift = None; temps = x.temps ++ value.Own v ∷ [] }

      blind : (i : ℕ) → (slot i ≡ nowhere) ⊎ (slot i ≡ temp (length x.temps)) → pointing (slice_get x.slots i) ≡ None
      blind i (inl q) = absurd cc
      blind i (inr q) = absurd cc

  -- a request is sent
  pub asks_so : (a : Act) (target : ℕ) (m : Message) (p : Phase) → h.work.rest.number ≡ n → message_things target m ≡ sent target m ∷ [] → ((q : Pointer) → q.at ≡ None → Among q (pointers_of (sent target m)) → ⊥) → TakesNone p
      → HandAlike code n [] h (with_phase p (working (send target m) (working (note a) h)))
  asks_so a target m p number alone_it quiet free =
      let gone : Alike code (message_things target m) [] = subst (λ l. Alike code l []) (sym alone_it) (blank (sent target m) quiet) in
      record {
        number = sent_number h.work.rest target m;
        named = refl;
        thread = thread_alike n n false false x (record x { phase = p }) [] [] (record { number = refl; taking = free x.number (slice_get code x.pc) ∙ sym none; slots = λ i. refl; temps = λ i. refl }) (itself (slots_of n x)) (itself (temps_of n x)) (itself (held_if x.gift));
        rest = chain (turned (goes gone)) (sends n h.work.rest number target m);
      }

  abbrev After : Stepped → Type 0
  After d = Moved code n h d.hand

  -- it waits then
  waits_so : (h2 : Hand) → HandAlike code n [] h h2 → Moved code n h (wait_step h2).hand
  waits_so h2 a = seen (each_together (record { number = a.number; named = a.named; thread = a.thread; rest = a.rest }))

  module _ (number : h.work.rest.number ≡ n) where
    -- A COPY

    pub copied : (sp : Spot) → ((r : SharedRef) → value_at h sp ≡ Some (value.Shared r) → (j : ℕ) × (slice_get x.slots j ≡ Some (value.Shared r))) → Gives After (committed (goes_on (read false sp h)))
    copied sp where_it =
        goes_over code n h fresh.None (read false sp h)
        (then_gives (Does code n h) (value_at h sp) (λ v. read_as false sp v (load_at sp h)) (λ v e. map_gives (Does code n h) (second_of v) (λ u. push_temp u (load_at sp h)) (λ u q.
        second_pushed sp v u q (λ r same. let at = where_it r (e ∙ ap Some same) in (at.0, at.1 ∙ ap Some (sym same))))))

    -- A DUP

    pub dupped : (sp : Spot) (g : Option Owned) → x.gift ≡ g → Gives After (committed (dup sp g h))
    dupped sp None e = by (mutex_at h sp)
      where
        by : (o : Option MutexNo) → Gives After (committed (waiting (option_map (ask_dup h) o)))
        by None = tt
        by (Some c) = waits_so (ask_dup h c) (asks_so (act.AskDup c) c.home (message.Dup c h.work.rest.number h.thread.number) (phase.WaitDup c) number refl (λ q e z. z) (λ a j. refl))
    dupped sp (Some v) e = goes_over code n h fresh.None (option_map (λ c. push_temp (value.Own v) (load_at sp (take_gift h))) (mutex_at h sp)) (map_gives (Does code n h) (mutex_at h sp) (λ c. push_temp (value.Own v) (load_at sp (take_gift h))) (λ c q. gift_pushed sp v e))

    -- A LOCK

    pub locked : (sp : Spot) (g : Option Owned) → x.gift ≡ g → Gives After (committed (lock sp g h))
    locked sp None e = by (mutex_at h sp)
      where
        by : (o : Option MutexNo) → Gives After (committed (waiting (option_map (ask_lock h) o)))
        by None = tt
        by (Some c) = waits_so (ask_lock h c) (asks_so (act.AskLock c) c.home (message.Lock c h.work.rest.number h.thread.number) (phase.WaitLock c) number refl (λ q e z. z) (λ a j. refl))
    locked sp (Some v) e = goes_over code n h fresh.None (option_map (push_content v (load_at sp (take_gift h))) (mutex_at h sp)) (map_gives (Does code n h) (mutex_at h sp) (push_content v (load_at sp (take_gift h))) (λ c q. content_taken code n h none c v e sp))
