-- What a thread owns afterwards is in the one heap, and so is the object at the end of a place that was assigned: the boxes that lead there from the thread's slots are as they were.
use Rattle.std.proofs.Common.{◌≡◌, ◌⊎◌, inl, inr, ℕ, zero, suc, ◌+◌, ◌≤◌, ◌||◌, not, Bool, true, false, if◌then◌else◌, List, [], ◌∷◌, ◌++◌, length, Option, Some, None, refl, sym, ap, subst, ◌∙◌, arith}
use Rattle.law_types_still.specs.Below.fr_base.declared.name.ObjNo.{ObjNo}
use Rattle.law_types_still.specs.Below.fr_base.declared.label.Plain.{Plain}
use Rattle.law_types_still.specs.Below.fr_base.declared.label.Plain.TheVariants as plain
use Rattle.law_types_still.specs.Below.heap_partition.Plain.{plain_of}
use Rattle.law_types_still.specs.Below.heap_partition.declared.value.BoxPtr.{BoxPtr}
use Rattle.law_types_still.specs.Below.heap_partition.declared.value.Cell.{Cell}
use Rattle.law_types_still.specs.Below.heap_partition.declared.value.Owned.{Owned}
use Rattle.law_types_still.specs.Below.heap_partition.declared.value.Owned.TheVariants as owned
use Rattle.law_types_still.specs.Below.thread_state.View.{ThreadState}
use Rattle.law_types_still.specs.Below.thread_state.declared.value.Value.{Value}
use Rattle.law_types_still.specs.Below.thread_state.declared.value.Value.TheVariants as value
use Rattle.law_types_still.specs.Below.server_model.Servers.{Cluster}
use Rattle.law_types_still.specs.Below.coherent_memory.Names.{tot, one, other, if_so, Among, boxes, same_object}
use Rattle.law_types_still.specs.Below.coherent_memory.Things.{Spot, in_slot, in_temp, as_gift, as_content, as_result, in_hand, Thing, holds, lies, flies, noted, things_at, slot_things, temp_things, gift_things, walk_things, thread_things, things_of}
use Rattle.law_types_still.specs.Below.coherent_memory.Follow.{cells_in, cell_of}
use Rattle.law_types_still.specs.Below.coherent_memory.Sight.{Sight, sight}
use Rattle.law_types_still.specs.Below.coherent_memory.Weights.{owners, cells}
use Rattle.law_types_still.specs.fits.Fits.{StandsOnce}
use Rattle.law_types_still.specs.Below.coherent_memory.OneHeap.{Node, object_n, owns, inside, names, owner_of, owner_in, named_in, any_named, in_state_by, is_in_state}
use Rattle.law_types_still.proofs.Below.coherent_memory.Names.{if_none}
use Rattle.law_types_still.proofs.Below.coherent_memory.Words.{itself}
use Rattle.law_types_still.proofs.Below.law_counts_sums.Trades.{tot-append}
use Rattle.law_types_still.proofs.Below.law_words_paths.paths.InState.{only_one}
use Rattle.law_types_still.proofs.Below.law_words_paths.paths.Shown.{none_else}
use Rattle.law_types_events.proofs.Below.law_words_paths.words.Standing.{CellOf, lying, flying, cell_among}
use Rattle.law_types_still.proofs.Below.law_heap_still.events.PlainValues.{unnoted}
use Rattle.law_types_still.proofs.Below.law_heap_still.events.Rounds.{enough}
use Rattle.law_types_events.proofs.Below.law_heap_steps.turns.Parts.{value_owns, owned_in}
use Rattle.law_types_events.proofs.Below.law_heap_steps.mutexes.Places.{slot_owned}
use Rattle.law_types_events.proofs.Below.law_heap_writes.drops.Under.{node_is}
use Rattle.law_types_events.proofs.Below.law_heap_writes.writes.Chains.{Chain, in_slot as from_slot, in_cell as from_cell}
use Rattle.law_types_events.proofs.Below.law_results_reads.Flights.{has_weight}
use Rattle.law_types_still.proofs.fits.Chains.{named_by}
use Rattle.law_types_still.proofs.fits.Fits.{nothing}
use Rattle.law_types_events.proofs.outside.Walk.{Weighs, weight, f}

-- THINGS WITH A WEIGHT

pub record Weighing (g : Thing → ℕ) (b : List Thing) : Type 0 where
  pub thing : Thing
  pub among : Among thing b
  pub weighs : 1 ≤ g thing

thing_with : (g : Thing → ℕ) (b : List Thing) → 1 ≤ tot g b → Weighing g b
thing_with g [] l = absurd (omega (arith, l))
thing_with g (x ∷ b) l = by (g x) refl (λ e. thing_with g b (omega (arith, l, e)))
  where
    by : (n : ℕ) → g x ≡ n → (g x ≡ 0 → Weighing g b) → Weighing g (x ∷ b)
    by zero e go = let w = go e in record { thing = w.thing; among = inr w.among; weighs = w.weighs }
    by (suc n) e go = record { thing = x; among = inl refl; weighs = omega (arith, e) }

one_true : (q : Bool) → 1 ≤ one q → q ≡ true
one_true true l = refl
one_true false l = absurd (omega (arith, l))

-- IN THE STATE

any_of : (s : Sight) (g : Node → Bool) (q : Node) (x : Thing) (b : List Thing) → Among x b → names q x ≡ true → owner_in g (owner_of s x) ≡ true → any_named s g q b ≡ true
any_of s g q x [] a nm ow = absurd a
any_of s g q x (z ∷ b) (inl e) nm ow = ap (λ r. r || any_named s g q b) (ap (λ u. named_in (names q u) g (owner_of s u)) e ∙ ap (λ r. named_in r g (owner_of s x)) nm ∙ ow)
any_of s g q x (z ∷ b) (inr a) nm ow = or_second (named_in (names q z) g (owner_of s z)) (any_named s g q b) (any_of s g q x b a nm ow)
  where
    or_second : (p r : Bool) → r ≡ true → p || r ≡ true
    or_second true r e = refl
    or_second false r e = e

-- what something names that is owned in the state is in the state
pub named_in_state : (s : Sight) (q : Node) (x : Thing) → Among x s.things → names q x ≡ true → owner_in (is_in_state s) (owner_of s x) ≡ true → is_in_state s q ≡ true
named_in_state s q x a nm ow = enough s (suc (length s.things)) q (any_of s (is_in_state s) q x s.things a nm ow)

-- who names what is in the state
record NamedBy (s : Sight) (q : Node) : Type 0 where
  thing : Thing
  among : Among thing s.things
  names_it : names q thing ≡ true

named_there : (s : Sight) (q : Node) → is_in_state s q ≡ true → NamedBy s q
named_there s q e = by (length s.things) refl
  where
    by : (i : ℕ) → length s.things ≡ i → NamedBy s q
    by zero l = absurd (let z : false ≡ true = sym (ap (λ j. in_state_by j s q) l) ∙ e in cc)
    by (suc i) l = let n = named_by s (in_state_by i s) q s.things (sym (ap (λ j. in_state_by j s q) l) ∙ e) in record { thing = n.thing; among = n.among; names_it = n.names_it }

-- WHAT THREADS OWN

-- a slot or a temporary value owns it
abbrev pub own_names : Node → Thing → ℕ
own_names q (holds (in_slot t i) v) = one (owns q v)
own_names q (holds (in_temp t i) v) = one (owns q v)
own_names q x = 0

module _ (q : Node) where
  slots_own : (s t i : ℕ) (vs : List Value) → owned_in q vs ≤ tot (own_names q) (things_at (slot_things s t) i vs)
  slots_own s t i [] = omega arith
  slots_own s t i (v ∷ vs) = omega (arith, by v, slots_own s t (i + 1) vs, tot-append (own_names q) (slot_things s t i v) (things_at (slot_things s t) (i + 1) vs))
    where
      by : (v : Value) → one (value_owns q v) ≤ tot (own_names q) (slot_things s t i v)
      by (value.Own v) = omega arith
      by value.Gone = omega arith
      by (value.SharedSlot j) = omega arith
      by (value.MutSlot j) = omega arith
      by (value.Shared r) = omega arith
      by (value.Mut r) = omega arith
      by (value.Held m) = omega arith

  temps_own : (s t i : ℕ) (vs : List Value) → owned_in q vs ≤ tot (own_names q) (things_at (temp_things s t) i vs)
  temps_own s t i [] = omega arith
  temps_own s t i (v ∷ vs) = omega (arith, by v, temps_own s t (i + 1) vs, tot-append (own_names q) (temp_things s t i v) (things_at (temp_things s t) (i + 1) vs))
    where
      by : (v : Value) → one (value_owns q v) ≤ tot (own_names q) (temp_things s t i v)
      by (value.Own v) = omega arith
      by value.Gone = omega arith
      by (value.SharedSlot j) = omega arith
      by (value.MutSlot j) = omega arith
      by (value.Shared r) = omega arith
      by (value.Mut r) = omega arith
      by (value.Held m) = omega arith

  pub thread_owns : (s : ℕ) (p : Bool) (x : ThreadState) → owned_in q x.slots + owned_in q x.temps ≤ tot (own_names q) (thread_things s p x)
  thread_owns s p x =
      let g = gift_things x.number x.gift in
      let u = things_at (walk_things s) 0 x.walk in
      let a = things_at (slot_things s x.number) 0 x.slots in
      let b = things_at (temp_things s x.number) 0 x.temps in
      omega (arith, slots_own s x.number 0 x.slots, temps_own s x.number 0 x.temps, tot-append (own_names q) (g ++ u ++ a) b, tot-append (own_names q) (g ++ u) a)

-- so it is in the state
pub owned_in_state : (s : Sight) (q : Node) → 1 ≤ tot (own_names q) s.things → is_in_state s q ≡ true
owned_in_state s q l = let x = thing_with (own_names q) s.things l in by x.thing x.among x.weighs
  where
    held : (p : Spot) (v : Owned) → Among (holds p v) s.things → 1 ≤ own_names q (holds p v) → is_in_state s q ≡ true
    held (in_slot t i) v a w = named_in_state s q (holds (in_slot t i) v) a (one_true (owns q v) w) refl
    held (in_temp t i) v a w = named_in_state s q (holds (in_temp t i) v) a (one_true (owns q v) w) refl
    held (as_gift t) v a w = absurd (omega (arith, w))
    held (as_content m) v a w = absurd (omega (arith, w))
    held (as_result t) v a w = absurd (omega (arith, w))
    held in_hand v a w = absurd (omega (arith, w))

    by : (x : Thing) → Among x s.things → 1 ≤ own_names q x → is_in_state s q ≡ true
    by (holds p v) a w = held p v a w
    by _ a w = absurd (omega (arith, w))

-- BOXES ON THE WAY

abbrev is_box : ObjNo → Plain → Bool
is_box o (plain.Box p) = same_object p o
is_box o v = false

-- what isn't the box that stands there
abbrev wants_box : Owned → Plain → ℕ
wants_box (owned.Box b) v = other (is_box b.object v)
wants_box c v = 0

abbrev wants : Option Cell → Plain → ℕ
wants None v = 0
wants (Some c) v = wants_box c.value v

-- objects but for that one that don't hold the box that they held in the cluster
abbrev pub chaining : Cluster → ObjNo → Weighs
chaining k o = record { content = λ m v. 0; result = λ t v. 0; object = λ p v. if_so (not (same_object p o)) (wants (cell_of (sight k).ground.cells p) v) }

module _ (k : Cluster) (each_once : StandsOnce k) (o : ObjNo) where
  abbrev b : List Thing
  b = things_of k

  has_cell : (c : List Thing) (p : ObjNo) → 1 ≤ tot (cells p) c → (d : Cell) × (cell_of (cells_in c) p ≡ Some d)
  has_cell [] p l = absurd (omega (arith, l))
  has_cell (lies r j d ∷ c) p l = by (same_object d.object p) l (has_cell c p)
    where
      by : (q : Bool) → 1 ≤ one q + tot (cells p) c → (1 ≤ tot (cells p) c → (z : Cell) × (cell_of (cells_in c) p ≡ Some z)) → (z : Cell) × ((if q then Some d else cell_of (cells_in c) p) ≡ Some z)
      by true m go = (d, refl)
      by false m go = go (omega (arith, m))
  has_cell (flies w d ∷ c) p l = by (same_object d.object p) l (has_cell c p)
    where
      by : (q : Bool) → 1 ≤ one q + tot (cells p) c → (1 ≤ tot (cells p) c → (z : Cell) × (cell_of (cells_in c) p ≡ Some z)) → (z : Cell) × ((if q then Some d else cell_of (cells_in c) p) ≡ Some z)
      by true m go = (d, refl)
      by false m go = go (omega (arith, m))
  has_cell (_ ∷ c) p l = has_cell c p (omega (arith, l))

  counts : (c : Cell) (x : Thing) → CellOf c x → 1 ≤ cells c.object x
  counts c _ (lying r j) = omega (arith, ap one (itself c.object c.object refl))
  counts c _ (flying w) = omega (arith, ap one (itself c.object c.object refl))

  same_lying : {r r2 j j2 : ℕ} {c d : Cell} → lies r j c ≡ lies r2 j2 d → c ≡ d
  same_lying e = cc

  same_flying : {r r2 : ℕ} {c d : Cell} → flies r c ≡ flies r2 d → c ≡ d
  same_flying e = cc

  no_lying : {r j w : ℕ} {c d : Cell} → lies r j c ≡ flies w d → ⊥
  no_lying e = cc

  same_cell : (c d : Cell) (x z : Thing) → CellOf c x → CellOf d z → x ≡ z → c ≡ d
  same_cell c d _ _ (lying r j) (lying r2 j2) e = same_lying e
  same_cell c d _ _ (flying w) (flying w2) e = same_flying e
  same_cell c d _ _ (lying r j) (flying w) e = absurd (no_lying e)
  same_cell c d _ _ (flying w) (lying r j) e = absurd (no_lying (sym e))

  -- the cell of an object is the one that is found
  found_cell : (c : Cell) (x : Thing) → CellOf c x → Among x b → cell_of (cells_in b) c.object ≡ Some c
  found_cell c x is a =
      let l = has_weight (cells c.object) x b a in
      let one_it = counts c x is in
      let d = has_cell b c.object (omega (arith, l, one_it)) in
      let at = cell_among c.object d.0 b d.1 in
      let mine = counts d.0 at.thing at.is in
      let weighs : 1 ≤ cells c.object at.thing = subst (λ p. 1 ≤ cells p at.thing) at.object mine in
      let same = only_one (cells c.object) x at.thing b (each_once.home_of_each c.object) a at.among one_it weighs in
      d.1 ∙ ap Some (sym (same_cell c d.0 x at.thing is at.is same))

  itself_wants : (v : Owned) → wants_box v (plain_of v) ≡ 0
  itself_wants (owned.Box p) = ap other (itself p.object p.object refl)
  itself_wants owned.Nothing = refl
  itself_wants owned.Unit = refl
  itself_wants (owned.Int i) = refl
  itself_wants (owned.Mutex m) = refl
  itself_wants (owned.Task t) = refl

  cell_none : (c : Cell) (x : Thing) → CellOf c x → Among x b → if_so (not (same_object c.object o)) (wants (cell_of (cells_in b) c.object) (plain_of c.value)) ≡ 0
  cell_none c x is a = if_none (not (same_object c.object o)) _ (ap (λ d. wants d (plain_of c.value)) (found_cell c x is a) ∙ itself_wants c.value)

  thing_none : (x : Thing) → Among x b → f (chaining k o) x ≡ 0
  thing_none (holds p v) a = by p
    where
      by : (p : Spot) → f (chaining k o) (holds p v) ≡ 0
      by (as_content m) = refl
      by (as_result t) = refl
      by (as_gift t) = refl
      by (in_slot t i) = refl
      by (in_temp t i) = refl
      by in_hand = refl
  thing_none (lies r j c) a = cell_none c (lies r j c) (lying r j) a
  thing_none (flies w c) a = cell_none c (flies w c) (flying w) a
  thing_none (noted r x) a = sym (unnoted (weight (chaining k o)) refl (λ t d. refl) x.thread x.state)
  thing_none _ a = refl

  pub chains_before : tot (f (chaining k o)) b ≡ 0
  chains_before = nothing (f (chaining k o)) b (λ x a. thing_none x a)

  -- AFTERWARDS

  module _ (slots : List Value) (after : Cluster) (safe : StandsOnce after) (own : (q : Node) → 1 ≤ owned_in q slots → is_in_state (sight after) q ≡ true) (same : tot (f (chaining k o)) (things_of after) ≡ 0) where
    abbrev s : Sight
    s = sight after

    owned_one : (p : ObjNo) (v : Owned) → owns (object_n p) v ≡ true → 1 ≤ boxes p v
    owned_one p (owned.Box q) e = let y : one (same_object q.object p) ≡ 1 = ap one e in omega (arith, y)
    owned_one p owned.Nothing e = absurd cc
    owned_one p owned.Unit e = absurd cc
    owned_one p (owned.Int i) e = absurd cc
    owned_one p (owned.Mutex m) e = absurd cc
    owned_one p (owned.Task t) e = absurd cc

    names_owner : (p : ObjNo) (x : Thing) → names (object_n p) x ≡ true → 1 ≤ owners p x
    names_owner p (holds w v) e = owned_one p v e
    names_owner p (lies r a c) e = owned_one p c.value e
    names_owner p (flies w c) e = owned_one p c.value e
    names_owner p _ e = absurd cc

    same_objects : (p q : ObjNo) → same_object p q ≡ true → p ≡ q
    same_objects p q e = let n = node_is (object_n p) (object_n q) e in cc

    -- what a cell that should hold the box names
    boxed : (q : ObjNo) (v : Owned) → is_box q (plain_of v) ≡ true → owns (object_n q) v ≡ true
    boxed q (owned.Box p) e = e
    boxed q owned.Nothing e = absurd cc
    boxed q owned.Unit e = absurd cc
    boxed q (owned.Int i) e = absurd cc
    boxed q (owned.Mutex m) e = absurd cc
    boxed q (owned.Task t) e = absurd cc

    abbrev In : ObjNo → Type 0
    In p = is_in_state s (object_n p) ≡ true

    -- one box more
    next : (p : ObjNo) (d : Cell) (box : BoxPtr) → cell_of (sight k).ground.cells p ≡ Some d → d.value ≡ owned.Box box → In p → (In box.object) ⊎ (In o)
    next p d box e g here =
        let n = named_there s (object_n p) here in
        let l = has_weight (owners p) n.thing s.things n.among in
        let m = names_owner p n.thing n.names_it in
        let x = thing_with (cells p) s.things (omega (arith, l, m, safe.owner_of_each p)) in
        of x.thing x.among x.weighs
      where
        with_cell : (c : Cell) (x : Thing) → CellOf c x → Among x s.things → same_object c.object p ≡ true → if_so (not (same_object c.object o)) (wants (cell_of (sight k).ground.cells c.object) (plain_of c.value)) ≡ 0
            → owner_of s x ≡ inside (object_n c.object) → (owns (object_n box.object) c.value ≡ true → names (object_n box.object) x ≡ true) → (In box.object) ⊎ (In o)
        with_cell c x is a it z owner tells = by (same_object c.object o) refl
          where
            object : c.object ≡ p
            object = same_objects c.object p it

            by : (b : Bool) → same_object c.object o ≡ b → (In box.object) ⊎ (In o)
            by true q = inr (subst In (sym object ∙ same_objects c.object o q) here)
            by false q =
                let bare : wants (cell_of (sight k).ground.cells c.object) (plain_of c.value) ≡ 0 = sym (ap (λ b. if_so (not b) (wants (cell_of (sight k).ground.cells c.object) (plain_of c.value))) q) ∙ z in
                let there : wants_box d.value (plain_of c.value) ≡ 0 = sym (ap (λ y. wants y (plain_of c.value)) (ap (cell_of (sight k).ground.cells) object ∙ e)) ∙ bare in
                let holds_it : other (is_box box.object (plain_of c.value)) ≡ 0 = subst (λ v. wants_box v (plain_of c.value) ≡ 0) g there in
                let own_it = boxed box.object c.value (none_else (is_box box.object (plain_of c.value)) holds_it) in
                inl (named_in_state s (object_n box.object) x a (tells own_it) (ap (owner_in (is_in_state s)) owner ∙ subst In (sym object) here))

        of : (x : Thing) → Among x s.things → 1 ≤ cells p x → (In box.object) ⊎ (In o)
        of (lies r j c) a w = with_cell c (lies r j c) (lying r j) a (one_true (same_object c.object p) w) (let z = has_weight (f (chaining k o)) (lies r j c) s.things a in omega (arith, z, same)) refl (λ h. h)
        of (flies u c) a w = with_cell c (flies u c) (flying u) a (one_true (same_object c.object p) w) (let z = has_weight (f (chaining k o)) (flies u c) s.things a in omega (arith, z, same)) refl (λ h. h)
        of _ a w = absurd (omega (arith, w))

    -- what is on a chain from the slots is in the state, or the one object is
    follow : (p : ObjNo) (xs : List ObjNo) → Chain slots (cell_of (sight k).ground.cells) p xs → (In p) ⊎ (In o)
    follow _ _ (from_slot j box e) = inl (own (object_n box.object) (let l = slot_owned (object_n box.object) slots j (value.Own (owned.Box box)) e in omega (arith, l, ap one (itself box.object box.object refl))))
    follow _ _ (from_cell {p} {xs} d box chain e g) = by (follow p xs chain)
      where
        by : (In p) ⊎ (In o) → (In box.object) ⊎ (In o)
        by (inl here) = next p d box e g here
        by (inr it) = inr it

    -- so is the one object at its end
    pub end_in : (xs : List ObjNo) → Chain slots (cell_of (sight k).ground.cells) o xs → is_in_state s (object_n o) ≡ true
    end_in xs chain = by (follow o xs chain)
      where
        by : (In o) ⊎ (In o) → In o
        by (inl e) = e
        by (inr e) = e
