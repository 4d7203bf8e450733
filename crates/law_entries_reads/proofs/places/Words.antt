-- Words see nothing of uses of copies and of what a read pushes: a value that owns nothing, or a shared reference once more.
use Rattle.std.proofs.Common.{◌≡◌, inl, inr, ℕ, zero, suc, ◌+◌, Bool, true, false, if◌then◌else◌, List, [], ◌∷◌, ◌++◌, map, Option, Some, None, refl, sym, ap, subst}
use Rattle.std.specs.Prelude.{slice_get}
use Rattle.law_copies_kept.specs.Below.fr_base.declared.settings.Options.{Options}
use Rattle.law_copies_kept.specs.Below.fr_base.declared.instruction.Instr.{Instr}
use Rattle.law_copies_kept.specs.Below.fr_base.declared.name.MutexNo.{MutexNo}
use Rattle.law_copies_kept.specs.Below.heap_partition.declared.value.Cell.{Cell}
use Rattle.law_copies_kept.specs.Below.heap_partition.declared.value.Owned.TheVariants as owned
use Rattle.law_copies_kept.specs.Below.mut_borrow.declared.shared.SharedRef.{SharedRef}
use Rattle.law_copies_kept.specs.Below.migration.Packing.{unpinned}
use Rattle.law_copies_kept.specs.Below.thread_state.View.{ThreadState}
use Rattle.law_copies_kept.specs.Below.thread_state.declared.value.Value.{Value}
use Rattle.law_copies_kept.specs.Below.thread_state.declared.value.Value.TheVariants as value
use Rattle.law_copies_kept.specs.Below.server_model.Servers.{Rest, Server}
use Rattle.law_copies_kept.specs.Below.server_model.Work.{Hand, push_temp}
use Rattle.law_copies_kept.specs.Below.server_model.Commit.{take_gift}
use Rattle.law_copies_kept.specs.Below.server_model.Places.{Spot, in_slot, on_top, in_cell, in_copy, nowhere, owns_nothing, cell_at, value_in, value_at, load_at, second_of}
use Rattle.law_copies_kept.specs.Below.server_model.Events.{begin_work}
use Rattle.law_entries_variables.specs.Below.coloured_heap.Heap.{Coloured}
use Rattle.law_copies_kept.specs.Below.coherent_memory.Names.{Among}
use Rattle.law_copies_kept.specs.Below.coherent_memory.Things.{Location, at_slot, at_temp, in_hand, Thing, holds, shares, things_at, slot_things, temp_things, thread_things}
use Rattle.law_copies_kept.proofs.Below.law_counts_sums.Bags.{body_things}
use Rattle.law_copies_kept.proofs.Below.law_words_paths.paths.Origins.{among_first, among_second}
use Rattle.law_copies_kept.proofs.Below.law_words_paths.words.Standing.{standing_among}
use Rattle.law_copies_kept.proofs.Below.law_words_kept.stays.Alike.{Alike, Within, Seen, itself, turned, chain, beside, joined, blank, seen_itself, within_both, within_first}
use Rattle.law_copies_kept.proofs.Below.law_words_kept.stays.Servers.{held_if, other_copies}
use Rattle.law_copies_kept.proofs.Below.law_words_kept.stays.Threads.{slots_of, temps_of, thread_alike, values_alike, packed_alike}
use Rattle.law_copies_kept.proofs.Below.law_words_kept.stays.Sites.{HandAlike}
use Rattle.law_copies_kept.proofs.Below.law_words_kept.stays.Steps.{IsUnseen, shared_slot_unseen, owned_unseen, last_points, TakesNoneHere, Goes, hand_chain, pushes}
use Rattle.law_copies_kept.proofs.Below.law_words_kept.prepared.Copying.{end_things}
use Rattle.law_entries_reads.proofs.places.Still.{Still}

-- USES

-- a thread whose slots are the same but for pins
pub thread_unpinned : (code : List Instr) (n : ℕ) (y : ThreadState) (vs : List Value) (ws : List ℕ) → map unpinned vs ≡ map unpinned y.slots → Alike code (thread_things n false y) (thread_things n false (record y { slots = vs; walk = ws }))
thread_unpinned code n y vs ws e =
    chain (packed_alike n n false false false y [])
    (subst (λ l. Alike code (thread_things n false (record y { walk = []; slots = l; temps = map unpinned y.temps; moved_since_step = false })) (thread_things n false (record y { slots = vs; walk = ws }))) e
    (turned (packed_alike n n false false false (record y { slots = vs; walk = ws }) [])))

module _ (code : List Instr) (o : Options) (c0 : Coloured) (s : Server) (y : ThreadState) where
  abbrev n : ℕ
  n = s.rest.number

  abbrev h0 : Hand
  h0 = record { work = begin_work s.rest; thread = y }

  -- a place was followed
  pub walk_unseen : (h : Hand) → Still o c0 s y h → HandAlike code n [] h0 h
  walk_unseen h q = record {
    number = ap (λ (r : Rest). r.number) q.rest;
    named = ap (λ (z : ThreadState). z.number) q.thread;
    thread = subst (λ z. Alike code (thread_things n false y) (thread_things n false z)) (sym q.thread) (thread_unpinned code n y h.thread.slots h.thread.walk q.slots);
    rest = subst (λ r. Alike code (body_things n s.rest) (body_things n r)) (sym q.rest) (other_copies n s.rest h.work.rest.cache);
  }

  -- nothing is taken still
  pub still_untaken : (h : Hand) → Still o c0 s y h → TakesNoneHere code y → TakesNoneHere code h.thread
  still_untaken h q none = subst (λ z. TakesNoneHere code z) (sym q.thread) none

  -- then another hand that shows the same
  pub then_goes : (h h2 : Hand) → Still o c0 s y h → Goes code n h h2 → Goes code n h0 h2
  then_goes h h2 q g = record { alike = hand_chain code n h0 h h2 (walk_unseen h q) g.alike; untaken = g.untaken }

-- what is loaded is noted alone
pub over_load : (code : List Instr) (n : ℕ) (p : Spot) (h h2 : Hand) → Goes code n (load_at p h) h2 → Goes code n h h2
over_load code n p h h2 g = record { alike = record { number = g.alike.number; named = g.alike.named; thread = g.alike.thread; rest = g.alike.rest }; untaken = g.untaken }

-- A MUTEX

-- a mutex is no pointer
mutex_unseen : (m : MutexNo) → IsUnseen (value.Own (owned.Mutex m))
mutex_unseen m = record { points = refl; things = λ n p l. blank (holds p (owned.Mutex m)) (λ q e h. h) }

-- a gift that is a mutex is taken, and comes on top
pub gift_pushed : (code : List Instr) (n : ℕ) (m : MutexNo) (p : Spot) (h : Hand) → h.thread.gift ≡ Some (owned.Mutex m) → TakesNoneHere code h.thread → Goes code n h (push_temp (value.Own (owned.Mutex m)) (load_at p (take_gift h)))
gift_pushed code n m p h e none =
    let h2 = load_at p (take_gift h) in
    let taken : HandAlike code n [] h h2 = record {
      number = refl;
      named = refl;
      thread = thread_alike n n false false h.thread (record h.thread { gift = None }) [] [] (record { number = refl; taking = refl; slots = λ i. refl; temps = λ i. refl }) (itself (slots_of n h.thread)) (itself (temps_of n h.thread))
          (subst (λ g. Alike code (held_if g) []) (sym e) (blank (holds in_hand (owned.Mutex m)) (λ q x z. z)));
      rest = itself (body_things n h.work.rest);
    } in
    let g = pushes code n h2 (value.Own (owned.Mutex m)) (mutex_unseen m) none in
    record { alike = hand_chain code n h h2 (push_temp (value.Own (owned.Mutex m)) h2) taken g.alike; untaken = g.untaken }

-- A SHARED REFERENCE ONCE MORE

-- its thing among those of the slots
slot_listed : (n t i : ℕ) (xs : List Value) (j : ℕ) (r : SharedRef) → slice_get xs j ≡ Some (value.Shared r) → (l : Location) × Among (shares l r) (things_at (slot_things n t) i xs)
slot_listed n t i [] j r e = absurd (cc e)
slot_listed n t i (x ∷ xs) zero r e =
    let same : x ≡ value.Shared r = cc in
    (at_slot t i, among_first (shares (at_slot t i) r) (slot_things n t i x) (things_at (slot_things n t) (i + 1) xs) (subst (λ v. Among (shares (at_slot t i) r) (slot_things n t i v)) (sym same) (inl refl)))
slot_listed n t i (x ∷ xs) (suc j) r e = let q = slot_listed n t (i + 1) xs j r e in (q.0, among_second (shares q.0 r) (slot_things n t i x) (things_at (slot_things n t) (i + 1) xs) q.1)

-- what is seen among others anyway
extra_seen : {code : List Instr} (a b : List Thing) → Within code b a → Alike code (a ++ b) a
extra_seen {code = code} a b w = record { on = within_both code a b a (λ y h. seen_itself code a y h) w; back = within_first code a a b (λ y h. seen_itself code a y h) }

-- a shared reference that stands among them
shared_again : (code : List Instr) (l m : Location) (r : SharedRef) (a : List Thing) → Among (shares m r) a → Within code (shares l (record r { pinned = false }) ∷ []) a
shared_again code l m r a h y (inl e) = subst (λ z. Seen code a z) e (λ p n q. standing_among p (shares m r) a h q)
shared_again code l m r a h y (inr g) = absurd g

-- a shared reference that stands in a slot comes on top too
pub shared_pushed : (code : List Instr) (n j : ℕ) (r : SharedRef) (h : Hand) → slice_get h.thread.slots j ≡ Some (value.Shared r) → TakesNoneHere code h.thread → Goes code n h (push_temp (value.Shared (record r { pinned = false })) h)
shared_pushed code n j r h e none = record {
  alike = record {
    number = refl;
    named = refl;
    thread = values_alike n x z (record { number = refl; taking = refl; slots = λ i. refl; temps = last_points x.temps v refl }) values refl;
    rest = itself (body_things n h.work.rest);
  };
  untaken = none;
}
  where
    v : Value
    v = value.Shared (record r { pinned = false })

    x : ThreadState
    x = h.thread

    z : ThreadState
    z = record x { temps = x.temps ++ v ∷ [] }

    f : ℕ → Value → List Thing
    f = temp_things n x.number

    values : Alike code (slots_of n x ++ temps_of n x) (slots_of n x ++ things_at f 0 (x.temps ++ v ∷ []))
    values =
        let q = end_things {code = code} f 0 x.temps v in
        let m = slot_listed n x.number 0 x.slots j r e in
        let there : Among (shares m.0 r) (slots_of n x ++ temps_of n x) = among_first (shares m.0 r) (slots_of n x) (temps_of n x) m.1 in
        chain (turned (extra_seen (slots_of n x ++ temps_of n x) (f q.0 v) (shared_again code (at_temp x.number q.0) m.0 r (slots_of n x ++ temps_of n x) there)))
        (chain (turned (joined (slots_of n x) (temps_of n x) (f q.0 v))) (beside (itself (slots_of n x)) (turned q.1)))

-- A COPY ON TOP

-- no cell has a shared reference
no_shared_cell : (f : Option Cell) (r : SharedRef) → value_in f ≡ Some (value.Shared r) → ⊥
no_shared_cell None r e = cc e
no_shared_cell (Some c) r e = cc e

module _ (code : List Instr) (n : ℕ) (h : Hand) (none : TakesNoneHere code h.thread) where
  -- a value that words don't see
  unseen_copy : (p : Spot) (u v : Value) → IsUnseen v → v ≡ u → Goes code n h (push_temp u (load_at p h))
  unseen_copy p u v x e = subst (λ q. Goes code n h (push_temp q (load_at p h))) e (over_load code n p h (push_temp v (load_at p h)) (pushes code n (load_at p h) v x none))

  -- a second value like the one that stands at the spot
  pub second_pushed : (p : Spot) (v u : Value) → (p ≡ on_top → ⊥) → value_at h p ≡ Some v → second_of v ≡ Some u → Goes code n h (push_temp u (load_at p h))
  second_pushed p (value.Own o) u off e q = by (owns_nothing o) refl q
    where
      by : (b : Bool) → owns_nothing o ≡ b → (if b then Some (value.Own o) else None) ≡ Some u → Goes code n h (push_temp u (load_at p h))
      by true x f = unseen_copy p u (value.Own o) (owned_unseen o x) (let z : value.Own o ≡ u = cc in z)
      by false x f = absurd (cc f)
  second_pushed p (value.SharedSlot i) u off e q = unseen_copy p u (value.SharedSlot i) (shared_slot_unseen i) (let z : value.SharedSlot i ≡ u = cc in z)
  second_pushed (in_slot j) (value.Shared r) u off e q =
      let z : value.Shared (record r { pinned = false }) ≡ u = cc in
      subst (λ x. Goes code n h (push_temp x (load_at (in_slot j) h))) z (over_load code n (in_slot j) h (push_temp (value.Shared (record r { pinned = false })) (load_at (in_slot j) h)) (shared_pushed code n j r (load_at (in_slot j) h) e none))
  second_pushed on_top (value.Shared r) u off e q = absurd (off refl)
  second_pushed (in_cell w f) (value.Shared r) u off e q = absurd (no_shared_cell (cell_at h (in_cell w f)) r e)
  second_pushed (in_copy w) (value.Shared r) u off e q = absurd (no_shared_cell (cell_at h (in_copy w)) r e)
  second_pushed nowhere (value.Shared r) u off e q = absurd (cc e)
  second_pushed p (value.MutSlot i) u off e q = absurd (cc q)
  second_pushed p (value.Mut r) u off e q = absurd (cc q)
  second_pushed p value.Gone u off e q = absurd (cc q)
  second_pushed p (value.Held m) u off e q = absurd (cc q)
