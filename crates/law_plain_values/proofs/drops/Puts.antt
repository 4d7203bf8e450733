-- A thread writes what a carrier owns to a place over boxes alone: the state is typed where the carrier has what stood there.
use Rattle.std.proofs.Common.{◌≡◌, ◌≢◌, ⊎_elim, ◌∙◌, ap₂, ℕ, ℤ, ◌<◌, ◌≤◌, suc, Bool, true, false, List, length, Option, Some, None, refl, sym, ap, subst, arith}
use Rattle.fr_base.specs.declared.label.Plain.{Plain}
use Rattle.fr_base.specs.declared.name.ObjNo.{ObjNo}
use Rattle.fr_base.specs.declared.name.MutexNo.{MutexNo}
use Rattle.fr_base.specs.declared.place.Lval.{Lval}
use Rattle.fr_typing.specs.Kinds.{Owned, Kind, own, Piece, whole}
use Rattle.fr_typing.specs.Places.{Env, IsNested, AreBelow, piece_places}
use Rattle.fr_store.specs.Keys.{Key, slot_k, temp_k, content_k, result_k, hand_k}
use Rattle.fr_store.specs.Store.{locate as store_locate}
use Rattle.fr_store.specs.Store.{Location, at_key, at_object, Val, gone_v, ref_v, Store, value_at, Place, swap}
use Rattle.fr_store.specs.Changes.{SameButTwo}
use Rattle.fr_store.specs.Typed.{Tree, hole, unit_tree, int_tree, mutex_tree, task_tree, box_tree, TopFits, owns, refers, KeyTypes, Typed, Unnamed}
use Rattle.fr_store.specs.Below.{TreeOf, SlotsBelow}
use Rattle.fr_store.specs.Thread.{place_of}
use Rattle.fr_store.proofs.Keys.{decide_number}
use Rattle.fr_store.proofs.Rows.{same_store}
use Rattle.fr_plain.specs.declared.value.Value.{Value}
use Rattle.fr_plain.specs.declared.value.Value.TheVariants.{Own, ToSlot, ToObject, Held}
use Rattle.fr_plain.specs.Heap.{Heap, cell_at}
use Rattle.fr_plain.specs.State.{State, Spot, in_slot, in_cell, Reached, owned, stars, slot_at, with_value}
use Rattle.fr_plain.specs.State as machine
use Rattle.fr_plain.specs.MachineThreads.{Life, Thread, Whole as Machine, thread_at, with_thread}
use Rattle.fr_plain.proofs.ByName.{put_in, put_at, put_off}
use Rattle.fr_plain.specs.PlainState.{Running, PlainState, place_in, plain_state}
use Rattle.fr_sound.specs.Entries.{Entry, going}
use Rattle.fr_sound.specs.Seen.{Gives, owned_val, val_of, seen_cell, location_of}
use Rattle.fr_sound.specs.States.{Typing, RunningTyped, slot_val, temp_val, result_val, content_val, env_at, part_at, is_hidden, is_held}
use Rattle.fr_code.specs.CodeTypes.{is_variable}
use Rattle.fr_sound.proofs.SeenLemmas.{slot_there}
use Rattle.fr_code.specs.CodeTypes.{wait}
use Rattle.law_plain_values.specs.acts.Positions.{Position, Knows, temps_of}
use Rattle.law_plain_values.specs.acts.Keeps.{GoesOn}
use Rattle.law_plain_values.proofs.acts.Lower.{seen_as, seen_is}
use Rattle.law_plain_values.proofs.acts.OneThread.{store, typing_with, with_running, runs_still}
use Rattle.law_plain_values.proofs.acts.Raised.{raised, raised_typing}
use Rattle.law_plain_values.proofs.acts.Focus.{top_none, Focus, temp_is}
use Rattle.law_plain_values.proofs.acts.AtHand.{Only, result_same}
use Rattle.law_plain_values.proofs.acts.Hand.{At, with_twice}
use Rattle.law_plain_values.proofs.acts.Slots.{owned_in, focus_at, lock_with}
use Rattle.law_plain_values.proofs.acts.Done.{runs_here, only_here}
use Rattle.law_plain_values.proofs.acts.SlotTurn.{alike_swap}
use Rattle.law_plain_values.proofs.acts.Places.{variable_seen, Leads, leads, value_there, slot_here, cell_here}
use Rattle.law_plain_values.proofs.acts.Written.{Writes, slots_same, objects_same, spot_same, still_there, was_there, slots_many, made_many, held_same, mark_same, mark_was}
use Rattle.law_plain_values.specs.drops.Drops.{with_carrier}
use Rattle.law_plain_values.proofs.drops.Carrier.{Carries, carrier_slot, carrier_temp, carrier_value}
use Rattle.law_plain_values.proofs.drops.After.{After, after_carries}
use Rattle.law_plain_values.proofs.drops.Prepared.{IsBeside, beside}
use Rattle.law_plain_values.proofs.drops.Exchanged.{exchanged}
use Rattle.law_plain_values.proofs.drops.Dropped.{Dropping}

-- WHAT STANDS WHERE

no_ref : (t : Tree) (l : Location) → TopFits t (ref_v l) → ⊥
no_ref hole l f = cc
no_ref unit_tree l f = cc
no_ref int_tree l f = let g = f.1 in cc
no_ref (mutex_tree c) l f = let g = f.1 in cc
no_ref (task_tree c) l f = let g = f.1 in cc
no_ref (box_tree c) l f = let g = f.1 in cc

-- a value that is no mark, where an owned one fits, is owned
owned_there : (g : Gives) (t : ℕ) (tr : Tree) (v : Value) → is_held (Some v) ≡ false → TopFits tr (val_of g t v) → (w : Plain) × (v ≡ Own w)
owned_there g t tr (Own w) h f = (w, refl)
owned_there g t tr (ToSlot i) h f = absurd (no_ref tr _ f)
owned_there g t tr (ToObject o) h f = absurd (no_ref tr _ f)
owned_there g t tr (Held m) h f = absurd (let q : true ≡ false = h in cc)

-- the states before the write and after it, both beside the carrier
module _ (y : Typing) (a0 a1 a2 b1 b2 : PlainState Position) (t u : ℕ) (x0 x1 x2 : Running Position) (q p : Piece) (v w : Plain) (E2 : KeyTypes) (runs : place_in (a0.thread t) ≡ Some x0) (only1 : Only a0 a1 t x1) (only2 : Only a0 a2 t x2) (k : Carries y b1 u q v) (c1 : IsBeside a1 b1 u q (y.gives.result u) v) (c2 : IsBeside a2 b2 u p (y.gives.result u) w) (differ : t ≢ u)
    (temps : x2.place.temps ≡ x1.place.temps) where
  abbrev from : Store
  from = store y b1

  abbrev into : Store
  into = store (typing_with y E2 y.marks) b2

  pub now_two : b2.thread t ≡ with_running (b1.thread t) x2
  now_two = c2.others t differ ∙ only2.now ∙ sym (with_twice (a0.thread t) x1 x2) ∙ ap (λ l. with_running l x2) (sym only1.now ∙ sym (c1.others t differ))

  pub runs_one : place_in (b1.thread t) ≡ Some x1
  runs_one = ap place_in (c1.others t differ ∙ only1.now) ∙ runs_still (a0.thread t) x0 x1 runs

  pub runs_two : place_in (b2.thread t) ≡ Some x2
  runs_two = ap place_in (c2.others t differ ∙ only2.now) ∙ runs_still (a0.thread t) x0 x2 runs

  pub others_two : (n : ℕ) → n ≢ t → n ≢ u → b2.thread n ≡ b1.thread n
  others_two n nt nu = c2.others n nu ∙ only2.others n nt ∙ sym (only1.others n nt) ∙ sym (c1.others n nu)

  after : After y b2 u E2 (owned_val y.gives w)
  after = after_carries y b2 u E2 p (y.gives.result u) w c2.here

  pub carrier_two : (store (typing_with y E2 y.marks) b2).at (slot_k u 0) ≡ owned_val y.gives w
  carrier_two = after.now

  pub slot_two : (i : ℕ) → (store (typing_with y E2 y.marks) b2).at (slot_k t i) ≡ seen_as y.gives t (ref_v (y.marks t i)) (slot_at x2.slots i)
  slot_two i = ap (slot_val temps_of (typing_with y E2 y.marks) t i) runs_two ∙ seen_is temps_of (typing_with y E2 y.marks) t i x2

  slot_one : (i : ℕ) → from.at (slot_k t i) ≡ seen_as y.gives t (ref_v (y.marks t i)) (slot_at x1.slots i)
  slot_one i = ap (slot_val temps_of y t i) runs_one ∙ seen_is temps_of y t i x1

  temp_two : (i : ℕ) → into.at (temp_k t i) ≡ from.at (temp_k t i)
  temp_two i = ap (temp_val temps_of (typing_with y E2 y.marks) t i) runs_two ∙ temp_is (typing_with y E2 y.marks) t i x2 ∙ ap (λ z. seen_as y.gives t gone_v (slot_at z i)) temps ∙ sym (temp_is y t i x1) ∙ sym (ap (temp_val temps_of y t i) runs_one)

  -- all but the place and the carrier
  pub same_two : (l : Location) → ((i : ℕ) → at_key (slot_k t i) ≢ l → slot_at x2.slots i ≡ slot_at x1.slots i) → ((o : ObjNo) → at_object o ≢ l → b2.object o ≡ b1.object o) → SameButTwo (at_key (slot_k u 0)) l (store y b1) (store (typing_with y E2 y.marks) b2)
  same_two l slots objects (at_object o) nh nl = ap (seen_cell y.gives) (objects o nl)
  same_two l slots objects (at_key j) nh nl = ap Some (by j nh nl)
    where
      by : (j : Key) → at_key j ≢ at_key (slot_k u 0) → at_key j ≢ l → into.at j ≡ from.at j
      by (slot_k n i) nh nl =
          ⊎_elim (λ (z : n ≡ t). ap (λ d. into.at (slot_k d i)) z ∙ slot_two i ∙ ap (seen_as y.gives t (ref_v (y.marks t i))) (slots i (λ f. nl (ap (λ d. at_key (slot_k d i)) z ∙ f))) ∙ sym (slot_one i) ∙ ap (λ d. from.at (slot_k d i)) (sym z))
          (λ (nt : n ≢ t). ⊎_elim (λ (z : n ≡ u). let ne : i ≢ 0 = λ f. nh (ap at_key (ap₂ slot_k z f)) in ap (λ d. into.at (slot_k d i)) z ∙ after.slots i ne ∙ sym (carrier_slot k i ne) ∙ ap (λ d. from.at (slot_k d i)) (sym z)) (λ (nu : n ≢ u). ap (λ d. slot_val temps_of y n i (place_in d)) (others_two n nt nu)) (decide_number n u)) (decide_number n t)
      by (temp_k n i) nh nl =
          ⊎_elim (λ (z : n ≡ t). ap (λ d. into.at (temp_k d i)) z ∙ temp_two i ∙ ap (λ d. from.at (temp_k d i)) (sym z))
          (λ (nt : n ≢ t). ⊎_elim (λ (z : n ≡ u). ap (λ d. into.at (temp_k d i)) z ∙ after.temps i ∙ sym (carrier_temp k i) ∙ ap (λ d. from.at (temp_k d i)) (sym z)) (λ (nu : n ≢ u). ap (λ d. temp_val temps_of y n i (place_in d)) (others_two n nt nu)) (decide_number n u)) (decide_number n t)
      by (content_k m c) nh nl = let n : MutexNo = record { home = m; count = c } in ap (content_val y.gives) (c2.mutexes n ∙ only2.mutexes n ∙ sym (only1.mutexes n) ∙ sym (c1.mutexes n))
      by (result_k n) nh nl =
          ⊎_elim (λ (z : n ≡ t). ap (λ d. into.at (result_k d)) z ∙ ap (result_val temps_of y t) now_two ∙ result_same y t (b1.thread t) x1 x2 runs_one ∙ ap (λ d. from.at (result_k d)) (sym z))
          (λ (nt : n ≢ t). ⊎_elim (λ (z : n ≡ u). ap (λ d. into.at (result_k d)) z ∙ after.result ∙ sym (ap (result_val temps_of y u) k.here) ∙ ap (λ d. from.at (result_k d)) (sym z)) (λ (nu : n ≢ u). ap (result_val temps_of y n) (others_two n nt nu)) (decide_number n u)) (decide_number n t)
      by (hand_k n) nh nl = refl

-- A PLACE THAT IS WRITTEN

-- what a place finds, and the types once that and what the carrier owns have changed places
pub record Target (y : Typing) (a : PlainState Position) (t u : ℕ) (e e2 : Env) (w : Lval) : Type 0 where
  pub loc : Location
  pub value : Val
  pub tree : Tree
  pub part : Piece
  pub types : KeyTypes
  pub at : store_locate (store y a) (place_of (slot_k t) w) ≡ Some loc
  pub there : value_at (store y a) loc ≡ Some value
  pub fits : TopFits tree value
  pub of : TreeOf part tree
  pub low : AreBelow 0 (piece_places part)
  pub apart : loc ≢ at_key (slot_k u 0)
  pub stands : (i : ℕ) → loc ≡ at_key (slot_k t i) → value ≡ gone_v → i < length e
  pub typed : Typed y.rank types (swap (store y a) (slot_k u 0) loc)
  pub full : types (slot_k u 0) ≡ owns tree
  pub refs : (j : Key) (m : Bool) (z : Place) → types j ≡ refers m z → y.exact j ≡ refers m z
  -- no mutable reference stands in a variable that is written
  pub kept : (z : Place) → w.depth ≡ 0 → types (slot_k t w.slot) ≡ refers true z → ⊥
  pub off : (j : Key) → j ≢ slot_k u 0 → ((i : ℕ) → j ≢ slot_k t i) → types j ≡ y.exact j
  pub nested : IsNested e2
  pub below : SlotsBelow (slot_k t) types e2
  pub above : (i : ℕ) → length e2 ≤ i → types (slot_k t i) ≡ owns hole
  pub long : length e2 ≡ length e
  pub hidden : (i : ℕ) → is_hidden (env_at e2 i) ≡ is_hidden (env_at e i)
  pub parts : (i : ℕ) → owned_in (part_at e2 i) ≡ owned_in (part_at e i)
  pub away : (n i : ℕ) (m : MutexNo) (z : Running Position) → place_in (a.thread n) ≡ Some z → slot_at z.slots i ≡ Some (Held m) → y.marks n i ≢ loc

-- a spot that is a slot in use, or that holds something, has a value in the machine
spot_value : (y : Typing) (a : PlainState Position) (t : ℕ) (x : Running Position) (heap : Heap) (e : Env) (slots : length x.slots ≡ length e) (slot_is : (i : ℕ) → (store y a).at (slot_k t i) ≡ seen_as y.gives t (ref_v (y.marks t i)) (slot_at x.slots i)) (cell_is : (o : ObjNo) → (store y a).heap o ≡ seen_cell y.gives (cell_at heap o)) (p : Spot) (v : Val)
    → value_at (store y a) (location_of t p) ≡ Some v → ((i : ℕ) → location_of t p ≡ at_key (slot_k t i) → v ≡ gone_v → i < length e) → (z : Value) × (machine.value_at (record { thread = t; slots = x.slots; heap = heap }) p ≡ Some z)
spot_value y a t x heap e slots slot_is cell_is (in_slot i) v f stands = by (slot_at x.slots i) refl
  where
    by : (o : Option Value) → slot_at x.slots i ≡ o → (z : Value) × (slot_at x.slots i ≡ Some z)
    by None q =
        let h : Some gone_v ≡ Some v = ap Some (sym (slot_is i ∙ ap (seen_as y.gives t (ref_v (y.marks t i))) q)) ∙ f in
        let gone : v ≡ gone_v = cc in
        slot_there x.slots i (subst (λ n. i < n) (sym slots) (stands i refl gone))
    by (Some z) q = (z, q)
spot_value y a t x heap e slots slot_is cell_is (in_cell o) v f stands = by (cell_at heap o) refl
  where
    by : (c : Option Plain) → cell_at heap o ≡ c → (z : Value) × (owned (cell_at heap o) ≡ Some z)
    by None q = let h : None ≡ Some v = sym (cell_is o ∙ ap (seen_cell y.gives) q) ∙ f in absurd cc
    by (Some w) q = (Own w, ap owned q)

-- where the machine comes to, and the owned value that it finds there
pub record Standing (g : Gives) (st : State) (w : Lval) (loc : Location) (value : Val) : Type 0 where
  pub reached : Reached
  pub is : stars st w.slot w.depth ≡ Some reached
  pub spot : location_of st.thread reached.spot ≡ loc
  pub old : Plain
  pub stands : machine.value_at st reached.spot ≡ Some (Own old)
  pub seen : value ≡ owned_val g old

some_val : {p q : Val} → Some p ≡ Some q → p ≡ q
some_val e = cc

-- THE WRITE

-- where the thread of a state goes on at that entry beside a carrier, and writes what that has to the place
module _ (s : Machine Position) (t : Thread Position) (p : Position) (wrap : Position → Life Position) (goes : GoesOn wrap) (found : thread_at s.threads t.number ≡ Some t) (at : t.life ≡ wrap p) (e e2 : Env) (us : List Kind) (g : Owned) (ws : List Value) (waits : wait us ≡ true) where
  abbrev n : ℕ
  n = t.number

  abbrev q1 : Position
  q1 = record { entry = going e us g; temps = ws }

  abbrev q2 : Position
  q2 = record { entry = going e2 us g; temps = ws }

  abbrev new : List Value → Position → Thread Position
  new slots q = record { number = t.number; life = wrap q; slots = slots }

  -- before it
  abbrev pub before : List ℤ → Machine Position
  before out = record s { threads = with_thread s.threads (record { number = t.number; life = wrap (record { entry = going e us g; temps = ws }); slots = t.slots }); heap = s.heap; output = out }

  module _ (out : List ℤ) {y : Typing} {u : ℕ} {x : Owned} {v : Plain} (d : Dropping u (before out) y (whole (own x)) v) where
    abbrev x1 : Running Position
    x1 = record { place = q1; slots = t.slots }

    abbrev a1 : PlainState Position
    a1 = plain_state (with_carrier (before out) u (whole (own x)) (y.gives.result u) v)

    only1 : Only (plain_state s) (plain_state (before out)) n x1
    only1 = only_here s t p wrap goes found at q1 t.slots s.heap out (λ z. omega arith)

    stands : thread_at (before out).threads n ≡ Some (new t.slots q1)
    stands = put_at s.threads (new t.slots q1) n refl ∙ ap (put_in (new t.slots q1)) found

    differ : n ≢ u
    differ z = let f : None ≡ Some (new t.slots q1) = sym d.none ∙ ap (thread_at (before out).threads) (sym z) ∙ stands in cc

    c1 : IsBeside (plain_state (before out)) a1 u (whole (own x)) (y.gives.result u) v
    c1 = beside (before out) u (whole (own x)) (y.gives.result u) v d.none

    -- ranks that suit
    abbrev pub high : ℕ
    high = suc (y.rank (slot_k t.number (length e)))

    abbrev z : Typing
    z = raised_typing high y

    one_runs : place_in (a1.thread n) ≡ Some x1
    one_runs = ap place_in (c1.others n differ ∙ only1.now) ∙ runs_still ((plain_state s).thread n) (record { place = p; slots = t.slots }) x1 (runs_here s t p wrap goes found at)

    pub at_before : At (raised_typing (suc (y.rank (slot_k t.number (length e)))) y) a1 n x1 e us g
    at_before = record { state = raised high y a1 d.carries.state; runs = one_runs; entry = refl }

    pub focus_before : Focus (raised_typing (suc (y.rank (slot_k t.number (length e)))) y) a1 n e us None
    focus_before = focus_at y a1 n x1 e us us None g (record { state = d.carries.state; runs = one_runs; entry = refl }) top_none waits

    pub carries_before : Carries (raised_typing (suc (y.rank (slot_k t.number (length e)))) y) a1 u (whole (own x)) v
    carries_before = record { state = at_before.state; here = d.carries.here }

    pub differ_before : t.number ≢ u
    differ_before = differ

    module _ (w : Lval) (named : is_variable e w.slot ≡ true) (target : Target (raised_typing (suc (y.rank (slot_k t.number (length e)))) y) (plain_state (with_carrier (before out) u (whole (own x)) (y.gives.result u) v)) t.number u e e2 w) where
      abbrev s1 : Store
      s1 = store z a1

      run : RunningTyped Knows temps_of z s1 n (a1.pair n) x1
      run = at_before.state.threads n x1 one_runs

      e_is : run.entry ≡ going e us g
      e_is = sym run.known

      unnamed : (i : ℕ) (m : MutexNo) → slot_at x1.slots i ≡ Some (Held m) → Unnamed z.exact (slot_k n i)
      unnamed i m h = (run.marked i m h).unnamed

      clear : is_held (slot_at x1.slots w.slot) ≡ false
      clear = sym (run.hidden w.slot) ∙ ap (λ (r : Entry). is_hidden (env_at r.env w.slot)) e_is ∙ variable_seen e w.slot named

      led : Leads z a1 n x1 s.heap one_runs (λ o. refl) at_before.state.typed unnamed w.slot w.depth target.loc
      led = leads z a1 n x1 s.heap one_runs (λ o. refl) at_before.state.typed unnamed w.slot w.depth target.loc clear target.at

      abbrev st : State
      st = record { thread = t.number; slots = t.slots; heap = s.heap }

      stands_at : value_at s1 (location_of n led.reached.spot) ≡ Some target.value
      stands_at = ap (value_at s1) led.spot ∙ target.there

      many : length t.slots ≡ length e
      many = run.all_slots ∙ ap (λ (r : Entry). length r.env) e_is

      val : (b : Value) × (machine.value_at st led.reached.spot ≡ Some b)
      val = spot_value z a1 n x1 s.heap e many (slot_here z a1 n x1 s.heap one_runs (λ o. refl) at_before.state.typed unnamed) (cell_here z a1 n x1 s.heap one_runs (λ o. refl) at_before.state.typed unnamed) led.reached.spot target.value stands_at (λ i f. target.stands i (sym led.spot ∙ f))

      clear_old : is_held (Some val.0) ≡ false
      clear_old = sym (ap is_held val.1) ∙ led.clear

      there : value_at s1 (location_of n led.reached.spot) ≡ Some (val_of z.gives n val.0)
      there = value_there z a1 n x1 s.heap one_runs (λ o. refl) at_before.state.typed unnamed led.reached.spot val.0 val.1 led.clear

      old : (b : Plain) × (val.0 ≡ Own b)
      old = owned_there z.gives n target.tree val.0 clear_old (subst (TopFits target.tree) (some_val (sym stands_at ∙ there)) target.fits)

      pub standing : Standing y.gives (record { thread = t.number; slots = t.slots; heap = s.heap }) w target.loc target.value
      standing = record { reached = led.reached; is = led.is; spot = led.spot; old = old.0; stands = val.1 ∙ ap Some old.1; seen = some_val (sym stands_at ∙ there) ∙ ap (val_of z.gives n) old.1 }

      abbrev spot : Spot
      spot = standing.reached.spot

      abbrev old_value : Plain
      old_value = standing.old

      wr : Writes st spot (Own v) (Own old_value)
      wr = record { is = standing.stands; clear = refl; new_clear = refl; cell = λ o f. (v, refl) }

      abbrev st2 : State
      st2 = with_value st spot (Own v)

      module _ (out2 : List ℤ) where
        -- after it
        abbrev pub written : Machine Position
        written = record s { threads = with_thread s.threads (record { number = t.number; life = wrap (record { entry = going e2 us g; temps = ws }); slots = (with_value (record { thread = t.number; slots = t.slots; heap = s.heap }) standing.reached.spot (Own v)).slots }); heap = (with_value (record { thread = t.number; slots = t.slots; heap = s.heap }) standing.reached.spot (Own v)).heap; output = out2 }

        abbrev x2 : Running Position
        x2 = record { place = q2; slots = st2.slots }

        abbrev y2 : Typing
        y2 = typing_with z target.types z.marks

        abbrev a2 : PlainState Position
        a2 = plain_state (with_carrier written u target.part (z.gives.result u) old_value)

        only2 : Only (plain_state s) (plain_state written) n x2
        only2 = only_here s t p wrap goes found at q2 st2.slots st2.heap out2 (λ b. let f = made_many st (Own v) (Own old_value) spot b in omega (arith, f))

        free : thread_at written.threads u ≡ None
        free = put_off s.threads (new st2.slots q2) u differ ∙ sym (put_off s.threads (new t.slots q1) u differ) ∙ d.none

        c2 : IsBeside (plain_state written) a2 u target.part (z.gives.result u) old_value
        c2 = beside written u target.part (z.gives.result u) old_value free

        abbrev s2 : Store
        s2 = store y2 a2

        two : SameButTwo (at_key (slot_k u 0)) target.loc s1 s2
        two =
            same_two z (plain_state s) (plain_state (before out)) (plain_state written) a1 a2 n u (record { place = p; slots = t.slots }) x1 x2 (whole (own x)) target.part v old_value target.types (runs_here s t p wrap goes found at) only1 only2 carries_before c1 c2 differ refl target.loc
            (λ i ne. slots_same st (Own v) (Own old_value) spot i (λ f. ne (f ∙ standing.spot))) (λ o ne. objects_same st (Own v) (Own old_value) spot o (λ f. ne (f ∙ standing.spot)))

        slot_now : (i : ℕ) → s2.at (slot_k n i) ≡ seen_as z.gives n (ref_v (z.marks n i)) (slot_at x2.slots i)
        slot_now = slot_two z (plain_state s) (plain_state (before out)) (plain_state written) a1 a2 n u (record { place = p; slots = t.slots }) x1 x2 (whole (own x)) target.part v old_value target.types (runs_here s t p wrap goes found at) only1 only2 carries_before c1 c2 differ refl

        spot_now : (b : Spot) → machine.value_at st2 b ≡ Some (Own v) → value_at s2 (location_of n b) ≡ Some (owned_val z.gives v)
        spot_now (in_slot i) f = ap Some (slot_now i ∙ ap (seen_as z.gives n (ref_v (z.marks n i))) f)
        spot_now (in_cell o) f = by (cell_at st2.heap o) f
          where
            by : (c : Option Plain) → owned c ≡ Some (Own v) → seen_cell z.gives c ≡ Some (owned_val z.gives v)
            by None h = cc
            by (Some b) h = let same : b ≡ v = cc in ap (λ r. Some (owned_val z.gives r)) same

        to : value_at s2 target.loc ≡ Some (s1.at (slot_k u 0))
        to = ap (value_at s2) (sym standing.spot) ∙ spot_now spot (spot_same st (Own v) (Own old_value) spot wr) ∙ ap Some (sym (carrier_value carries_before))

        carrier_now : s2.at (slot_k u 0) ≡ owned_val z.gives old_value
        carrier_now = carrier_two z (plain_state s) (plain_state (before out)) (plain_state written) a1 a2 n u (record { place = p; slots = t.slots }) x1 x2 (whole (own x)) target.part v old_value target.types (runs_here s t p wrap goes found at) only1 only2 carries_before c1 c2 differ refl

        pub put_down : Dropping u written (typing_with (raised_typing (suc (y.rank (slot_k t.number (length e)))) y) target.types y.marks) target.part standing.old
        put_down = record {
          none = free;
          carries = exchanged at_before focus_before waits carries_before differ (record {
            here = c2.here;
            now = now_two z (plain_state s) (plain_state (before out)) (plain_state written) a1 a2 n u (record { place = p; slots = t.slots }) x1 x2 (whole (own x)) target.part v old_value target.types (runs_here s t p wrap goes found at) only1 only2 carries_before c1 c2 differ refl;
            others = others_two z (plain_state s) (plain_state (before out)) (plain_state written) a1 a2 n u (record { place = p; slots = t.slots }) x1 x2 (whole (own x)) target.part v old_value target.types (runs_here s t p wrap goes found at) only1 only2 carries_before c1 c2 differ refl;
            pairs = λ i. c2.pairs i ∙ only2.pairs i ∙ sym (only1.pairs i) ∙ sym (c1.pairs i);
            mutexes = λ m. refl;
            given = λ m. refl;
            made = c2.made;
            objects = still_there st (Own v) (Own old_value) spot wr;
            before = was_there st (Own v) (Own old_value) spot wr;
            entry = refl;
            temps = refl;
            slots = slots_many st (Own v) (Own old_value) spot ∙ many ∙ sym target.long;
            long = target.long;
            two = two;
            to = to;
            back = ap Some carrier_now ∙ sym (target.there ∙ ap Some standing.seen);
            typed = same_store z.rank target.types target.types (swap s1 (slot_k u 0) target.loc) s2 target.typed (λ j. refl) (alike_swap s1 s2 (slot_k u 0) target.loc target.value target.apart target.there two to (carrier_now ∙ sym standing.seen));
            refs = target.refs;
            off = target.off;
            full = target.full;
            part = target.of;
            low = target.low;
            nested = target.nested;
            below = target.below;
            above = target.above;
            hidden = λ i. target.hidden i ∙ ap (λ (r : Entry). is_hidden (env_at r.env i)) (sym e_is) ∙ run.hidden i ∙ sym (held_same st (Own v) (Own old_value) spot wr i);
            marked = mark_was st (Own v) (Own old_value) spot wr;
            still = mark_same st (Own v) (Own old_value) spot wr;
            content = λ b i m lock. lock_with (target.parts (suc i)) lock;
            away = target.away;
          });
        }
