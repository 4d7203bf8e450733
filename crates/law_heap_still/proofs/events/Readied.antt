-- What making a place ready changes of the hand: words, marks and pins of its thread, copies and addresses of its server. All of it shows what it showed.
use Rattle.std.proofs.Common.{◌≡◌, ℕ, zero, suc, ◌+◌, nat_lt, Bool, false, List, [], ◌∷◌, ◌++◌, length, map, Option, Some, None, refl, sym, ap, ap₂, subst, ◌∙◌, arith}
use Rattle.std.specs.Prelude.{slice_get, slice_set}
use Rattle.law_counts_sums.specs.Below.fr_base.Lists.{last_of}
use Rattle.law_counts_sums.specs.Below.heap_partition.Plain.{plain_of}
use Rattle.law_counts_sums.specs.Below.heap_partition.declared.value.Cell.{Cell}
use Rattle.law_counts_sums.specs.Below.heap_partition.declared.value.Owned.{Owned}
use Rattle.law_counts_sums.specs.Below.heap_partition.declared.value.Owned.TheVariants as owned
use Rattle.law_counts_sums.specs.Below.global_addr.Words.{address_of}
use Rattle.law_counts_sums.specs.Below.owner_box.Partition.{stored}
use Rattle.law_counts_sums.specs.Below.mut_borrow.declared.shared.SharedRef.{SharedRef}
use Rattle.law_counts_sums.specs.Below.read_cache.Cache.{Copy}
use Rattle.law_counts_sums.specs.Below.thread_state.View.{ThreadState}
use Rattle.law_counts_sums.specs.Below.thread_state.declared.value.Value.{Value}
use Rattle.law_counts_sums.specs.Below.thread_state.declared.value.Value.TheVariants as value
use Rattle.law_counts_sums.specs.Below.server_model.Servers.{Rest}
use Rattle.law_counts_sums.specs.Below.server_model.Work.{Work, Hand, with_partition, with_cache, working, with_slots, with_temps, front_of, look, leads_here}
use Rattle.law_counts_sums.specs.Below.server_model.Places.{Spot, in_slot, on_top, in_cell, in_copy, nowhere, value_in, value_at, written, note_slot, note_write, put_cell, put_at, with_word, set_pointer}
use Rattle.law_counts_sums.specs.Below.server_model.Prepare.{passing}
use Rattle.law_counts_sums.specs.Below.coherent_memory.Things as things
use Rattle.law_counts_sums.specs.Below.coherent_memory.Things.{Thing, Location, at_slot, at_temp, stands, things_at, value_things, slot_things, temp_things, thread_things}
use Rattle.law_counts_sums.specs.Below.coherent_memory.OneHeap.{plain_value}
use Rattle.law_counts_sums.specs.Laws.{Gives}
use Rattle.law_counts_sums.proofs.Trades.{tot-append, tot-push, trade_at, trade_whole}
use Rattle.law_counts_sums.proofs.Results.{then_gives, test_gives}
use Rattle.law_counts_sums.proofs.Bags.{rest_things, of_partition}
use Rattle.law_counts_sums.proofs.Values.{last_split, stores}
use Rattle.law_heap_still.specs.events.Shows.{Frame, frame_of, Sign, nothing, an_object, a_thread, has_both, sign_of, shown_thread}
use Rattle.law_heap_still.proofs.events.PlainValues.{shown_by_frame, shown_by_frames}
use Rattle.law_heap_still.proofs.events.Sites.{shown, Moves}
use Rattle.law_heap_still.proofs.events.Arrivals.{thread_parts, cache_shown, no_pin}
use Rattle.law_heap_still.proofs.events.Hands.{hand_things, HandStill}
use Rattle.law_heap_still.proofs.events.Addresses.{InPlace, stored_places}

-- the rest of a server shows what it showed, with other words, copies and addresses; and the thread is as it was but for its walk and the words, marks
-- and pins of its slots and temporary values
pub record Readied (h h2 : Hand) : Type 0 where
  pub moves : Moves [] [] h.work.rest h2.work.rest
  pub slots : List Value
  pub temps : List Value
  pub walk : List ℕ
  pub passed : ℕ
  pub thread : h2.thread ≡ record h.thread { slots = slots; temps = temps; walk = walk; passed = passed }
  pub slots_framed : map frame_of slots ≡ map frame_of h.thread.slots
  pub temps_framed : map frame_of temps ≡ map frame_of h.thread.temps
  pub slots_shown : (w : Sign → ℕ) → w nothing ≡ 0 → (n t : ℕ) → shown w (things_at (slot_things n t) 0 slots) ≡ shown w (things_at (slot_things n t) 0 h.thread.slots)
  pub temps_shown : (w : Sign → ℕ) → w nothing ≡ 0 → (n t : ℕ) → shown w (things_at (temp_things n t) 0 temps) ≡ shown w (things_at (temp_things n t) 0 h.thread.temps)

-- so they show what they showed
pub readied_slots : {h h2 : Hand} → Readied h h2 → map plain_value h2.thread.slots ≡ map plain_value h.thread.slots
readied_slots {h} {h2} r = ap (λ (t : ThreadState). map plain_value t.slots) r.thread ∙ shown_by_frames r.slots h.thread.slots r.slots_framed

pub readied_temps : {h h2 : Hand} → Readied h h2 → map plain_value h2.thread.temps ≡ map plain_value h.thread.temps
readied_temps {h} {h2} r = ap (λ (t : ThreadState). map plain_value t.temps) r.thread ∙ shown_by_frames r.temps h.thread.temps r.temps_framed

-- each address of the hand's server has one state
abbrev pub IsPlaced : Hand → Type 0
IsPlaced h = InPlace h.work.rest.number h.work.rest.partition

-- the same, and addresses keep their states
abbrev pub Kept : Hand → Hand → Type 0
Kept h h2 = Readied h h2 × (IsPlaced h → IsPlaced h2)

-- TOGETHER

pub same_rest : (r : Rest) → Moves [] [] r r
same_rest r = record { number = refl; alike = λ w z. refl }

then_moves : (a b c : Rest) → Moves [] [] a b → Moves [] [] b c → Moves [] [] a c
then_moves a b c x y = record { number = y.number ∙ x.number; alike = λ w z. x.alike w z ∙ subst (λ m. shown w (rest_things m 0 b) ≡ shown w (rest_things m 0 c)) x.number (y.alike w z) }

pub same_ready : (h : Hand) → Readied h h
same_ready h = record {
  moves = same_rest h.work.rest;
  slots = h.thread.slots;
  temps = h.thread.temps;
  walk = h.thread.walk;
  passed = h.thread.passed;
  thread = refl;
  slots_framed = refl;
  temps_framed = refl;
  slots_shown = λ w z n t. refl;
  temps_shown = λ w z n t. refl;
}

pub then_ready : (a b c : Hand) → Readied a b → Readied b c → Readied a c
then_ready a b c x y =
    let slots : b.thread.slots ≡ x.slots = ap (λ (t : ThreadState). t.slots) x.thread in
    let temps : b.thread.temps ≡ x.temps = ap (λ (t : ThreadState). t.temps) x.thread in record {
      moves = then_moves a.work.rest b.work.rest c.work.rest x.moves y.moves;
      slots = y.slots;
      temps = y.temps;
      walk = y.walk;
      passed = y.passed;
      thread = y.thread ∙ ap (λ (t : ThreadState). record t { slots = y.slots; temps = y.temps; walk = y.walk; passed = y.passed }) x.thread;
      slots_framed = y.slots_framed ∙ ap (map frame_of) slots ∙ x.slots_framed;
      temps_framed = y.temps_framed ∙ ap (map frame_of) temps ∙ x.temps_framed;
      slots_shown = λ w z n t. y.slots_shown w z n t ∙ ap (λ l. shown w (things_at (slot_things n t) 0 l)) slots ∙ x.slots_shown w z n t;
      temps_shown = λ w z n t. y.temps_shown w z n t ∙ ap (λ l. shown w (things_at (temp_things n t) 0 l)) temps ∙ x.temps_shown w z n t;
    }

pub then_kept : (a b c : Hand) → Kept a b → Kept b c → Kept a c
then_kept a b c x y = (then_ready a b c x.0 y.0, λ p. y.1 (x.1 p))

-- the hand shows what it showed
pub ready_still : (h h2 : Hand) → Readied h h2 → HandStill [] h h2
ready_still h h2 r = record {
  number = r.moves.number;
  thread = ap (λ (t : ThreadState). t.number) r.thread;
  alike = λ w z.
      let f : Thing → ℕ = λ x. w (sign_of x) in
      let n = h.work.rest.number in
      let y = h.thread in
      let y2 : ThreadState = record y { slots = r.slots; temps = r.temps; walk = r.walk; passed = r.passed } in
      let there : shown w (hand_things n h2) ≡ shown w (thread_things n false y2 ++ rest_things n 0 h2.work.rest) = ap (λ (t : ThreadState). shown w (thread_things n false t ++ rest_things n 0 h2.work.rest)) r.thread in
      let shows : w (sign_of (stands n false y2)) ≡ w (sign_of (stands n false y)) = ap₂ (λ a b. w (a_thread (record (shown_thread y) { slots = a; temps = b }) (has_both y.phase))) r.slots_framed r.temps_framed in
      omega (
        arith,
        there,
        shows,
        r.moves.alike w z,
        r.slots_shown w z n y.number,
        r.temps_shown w z n y.number,
        thread_parts w z n false y,
        thread_parts w z n false y2,
        tot-append f (thread_things n false y) (rest_things n 0 h.work.rest),
        tot-append f (thread_things n false y2) (rest_things n 0 h2.work.rest),
      );
}

pub phase_stays : (h h2 : Hand) → Readied h h2 → h2.thread.phase ≡ h.thread.phase
phase_stays h h2 r = ap (λ (t : ThreadState). t.phase) r.thread

-- THE SERVER

-- beside the thread; acts and labels aren't shown
pub work_ready : (h : Hand) (w : Work) → Moves [] [] h.work.rest w.rest → Readied h (record h { work = w })
work_ready h w m = record {
  moves = m;
  slots = h.thread.slots;
  temps = h.thread.temps;
  walk = h.thread.walk;
  passed = h.thread.passed;
  thread = refl;
  slots_framed = refl;
  temps_framed = refl;
  slots_shown = λ w z n t. refl;
  temps_shown = λ w z n t. refl;
}

-- other copies and another walk
pub copies_ready : (h : Hand) (cs : List Copy) (walk : List ℕ) → Kept h (record { work = with_cache cs h.work; thread = record h.thread { walk = walk } })
copies_ready h cs walk = (
  record {
    moves = record { number = refl; alike = cache_shown h.work.rest cs };
    slots = h.thread.slots;
    temps = h.thread.temps;
    walk = walk;
    passed = h.thread.passed;
    thread = refl;
    slots_framed = refl;
    temps_framed = refl;
    slots_shown = λ w z n t. refl;
    temps_shown = λ w z n t. refl;
  },
  λ p. p,
)

pub passes_ready : (m : ℕ) (h : Hand) → Kept h (passing m h)
passes_ready m h = (
  record {
    moves = same_rest h.work.rest;
    slots = h.thread.slots;
    temps = h.thread.temps;
    walk = h.thread.walk;
    passed = m;
    thread = refl;
    slots_framed = refl;
    temps_framed = refl;
    slots_shown = λ w z n t. refl;
    temps_shown = λ w z n t. refl;
  },
  λ p. p,
)

-- ANOTHER VALUE THAT SHOWS THE SAME

pub record Rewords (v new : Value) : Type 0 where
  pub frame : frame_of new ≡ frame_of v
  pub things : (w : Sign → ℕ) → w nothing ≡ 0 → (n : ℕ) (p : things.Spot) (l : Location) → shown w (value_things n p l new) ≡ shown w (value_things n p l v)

some_same : {a b : Value} → Some a ≡ Some b → a ≡ b
some_same e = cc

worded : (u : ℕ) (v new : Value) → with_word u v ≡ Some new → Rewords v new
worded u (value.Own (owned.Box b)) new e = subst (Rewords (value.Own (owned.Box b))) (some_same e) (record { frame = refl; things = λ w z n p l. refl })
worded u (value.Mut r) new e = subst (Rewords (value.Mut r)) (some_same e) (record { frame = refl; things = λ w z n p l. refl })
worded u v new e = absurd (cc e)

marked : (v : Value) → Rewords v (written v)
marked (value.Mut r) = record { frame = refl; things = λ w z n p l. refl }
marked value.Gone = record { frame = refl; things = λ w z n p l. refl }
marked (value.Own v) = record { frame = refl; things = λ w z n p l. refl }
marked (value.SharedSlot i) = record { frame = refl; things = λ w z n p l. refl }
marked (value.MutSlot i) = record { frame = refl; things = λ w z n p l. refl }
marked (value.Shared r) = record { frame = refl; things = λ w z n p l. refl }
marked (value.Held m) = record { frame = refl; things = λ w z n p l. refl }

-- a reference that pins its copy
pub pinned : (r : SharedRef) (b : Bool) → Rewords (value.Shared r) (value.Shared (record r { pinned = b }))
pinned r b = record { frame = refl; things = λ w z n p l. omega (arith, no_pin w z n r, no_pin w z n (record r { pinned = b })) }

map_set : (xs : List Value) (i : ℕ) (v new : Value) → slice_get xs i ≡ Some v → frame_of new ≡ frame_of v → map frame_of (slice_set xs i new) ≡ map frame_of xs
map_set [] i v new e p = cc
map_set (x ∷ xs) zero v new e p = let same : v ≡ x = cc in ap (λ (y : Frame). y ∷ map frame_of xs) (p ∙ ap frame_of same)
map_set (x ∷ xs) (suc i) v new e p = ap (λ ys. frame_of x ∷ ys) (map_set xs i v new e p)

map_last : (xs : List Value) (v new : Value) → frame_of new ≡ frame_of v → map frame_of (xs ++ new ∷ []) ≡ map frame_of (xs ++ v ∷ [])
map_last [] v new p = ap (λ (y : Frame). y ∷ []) p
map_last (x ∷ xs) v new p = ap (λ ys. frame_of x ∷ ys) (map_last xs v new p)

slot_ready : (h : Hand) (i : ℕ) (v new : Value) → slice_get h.thread.slots i ≡ Some v → Rewords v new → Readied h (with_slots (slice_set h.thread.slots i new) h)
slot_ready h i v new e r = record {
  moves = same_rest h.work.rest;
  slots = slice_set h.thread.slots i new;
  temps = h.thread.temps;
  walk = h.thread.walk;
  passed = h.thread.passed;
  thread = refl;
  slots_framed = map_set h.thread.slots i v new e r.frame;
  temps_framed = refl;
  slots_shown = λ w z n t.
      let f : Thing → ℕ = λ x. w (sign_of x) in
      let g = slot_things n t in
      let u = trade_at g h.thread.slots 0 i v new (g (0 + i) v) (g (0 + i) new) e (trade_whole (g (0 + i) v) (g (0 + i) new)) in
      omega (arith, u.before f, u.after f, r.things w z n (things.in_slot t (0 + i)) (at_slot t (0 + i)));
  temps_shown = λ w z n t. refl;
}

top_ready : (h : Hand) (v new : Value) → last_of h.thread.temps ≡ Some v → Rewords v new → Readied h (with_temps (front_of h.thread.temps ++ new ∷ []) h)
top_ready h v new e r =
    let front = front_of h.thread.temps in
    let split = last_split h.thread.temps v e in record {
      moves = same_rest h.work.rest;
      slots = h.thread.slots;
      temps = front ++ new ∷ [];
      walk = h.thread.walk;
      passed = h.thread.passed;
      thread = refl;
      slots_framed = refl;
      temps_framed = map_last front v new r.frame ∙ ap (map frame_of) (sym split);
      slots_shown = λ w z n t. refl;
      temps_shown = λ w z n t.
          let f : Thing → ℕ = λ x. w (sign_of x) in
          let g = temp_things n t in
          let i = 0 + length front in
          omega (arith, ap (λ l. shown w (things_at g 0 l)) split, tot-push g f front 0 v, tot-push g f front 0 new, r.things w z n (things.in_temp t i) (at_temp t i));
    }

owned_plain : (x v : Owned) → plain_value (value.Own x) ≡ plain_value (value.Own v) → plain_of x ≡ plain_of v
owned_plain x v e = cc

cell_moves : (r : Rest) (u : ℕ) (c : Cell) (x : Owned) → look r.partition u ≡ Some c → plain_of x ≡ plain_of c.value → Moves [] [] r (record r { partition = stored r.partition u x })
cell_moves r u c x e p = record {
  number = refl;
  alike = λ w z.
      let f : Thing → ℕ = λ x. w (sign_of x) in
      let t = of_partition r.number 0 r (stored r.partition u x) (stores r.number r.partition u c x e) in
      let shows : w (sign_of (things.lies r.number (address_of u) (record c { value = x }))) ≡ w (sign_of (things.lies r.number (address_of u) c)) = ap (λ v. w (an_object c.object v)) p in
      omega (arith, t.before f, t.after f, shows);
}

noted_ready : (through : Option ℕ) (h : Hand) → Kept h (note_write through h)
noted_ready None h = (same_ready h, λ p. p)
noted_ready (Some i) h = by (slice_get h.thread.slots i) refl
  where
    by : (o : Option Value) → slice_get h.thread.slots i ≡ o → Kept h (with_slots (note_slot h.thread.slots i o) h)
    by None e = (same_ready h, λ p. p)
    by (Some v) e = (slot_ready h i v (written v) e (marked v), λ p. p)

-- it is put where a value stands
pub put_ready : (s : Spot) (v new : Value) (h : Hand) → value_at h s ≡ Some v → Rewords v new → Gives (Kept h) (put_at s new h)
put_ready (in_slot i) v new h e r = test_gives (Kept h) (nat_lt i (length h.thread.slots)) _ (λ on. (slot_ready h i v new e r, λ p. p))
put_ready on_top v new h e r = (top_ready h v new e r, λ p. p)
put_ready (in_cell u through) v (value.Own x) h e r = by (look h.work.rest.partition u) refl e
  where
    by : (o : Option Cell) → look h.work.rest.partition u ≡ o → value_in o ≡ Some v → Gives (Kept h) (put_cell u through x h)
    by None b d = absurd (cc d)
    by (Some c) b d =
        let same : v ≡ value.Own c.value = cc in
        let q = h.work.rest.partition in
        let plain : plain_of x ≡ plain_of c.value = owned_plain x c.value (shown_by_frame (value.Own x) (value.Own c.value) (r.frame ∙ ap frame_of same)) in
        let h1 = working (with_partition (stored q u x)) h in
        test_gives (Kept h) (leads_here q u) _ (λ on. then_kept h h1 (note_write through h1) (work_ready h h1.work (cell_moves h.work.rest u c x b plain), stored_places h.work.rest.number q u c x b) (noted_ready through h1))
put_ready (in_cell u through) v value.Gone h e r = tt
put_ready (in_cell u through) v (value.SharedSlot i) h e r = tt
put_ready (in_cell u through) v (value.MutSlot i) h e r = tt
put_ready (in_cell u through) v (value.Shared q) h e r = tt
put_ready (in_cell u through) v (value.Mut q) h e r = tt
put_ready (in_cell u through) v (value.Held m) h e r = tt
put_ready (in_copy u) v new h e r = tt
put_ready nowhere v new h e r = tt

-- a pointer gets another word
pub set_ready : (s : Spot) (u : ℕ) (h : Hand) → Gives (Kept h) (set_pointer s u h)
set_ready s u h = then_gives (Kept h) (value_at h s) _ (λ v e. then_gives (Kept h) (with_word u v) _ (λ new f. put_ready s v new h e (worded u v new f)))
