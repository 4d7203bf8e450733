-- A pointer that stands at a location is told by what stands there, and the other way round.
use Rattle.std.proofs.Common.{◌≡◌, inl, inr, ⊎_elim, ℕ, ◌+◌, ◌≤◌, Bool, true, false, if◌then◌else◌, List, [], ◌∷◌, ◌++◌, Option, Some, None, refl, sym, ap, subst, ◌∙◌, arith}
use Rattle.law_words_paths.specs.Below.fr_base.declared.name.ObjNo.{ObjNo}
use Rattle.law_words_paths.specs.Below.heap_partition.declared.value.Cell.{Cell}
use Rattle.law_words_paths.specs.Below.heap_partition.declared.value.Owned.{Owned}
use Rattle.law_words_paths.specs.Below.heap_partition.declared.value.Owned.TheVariants as owned
use Rattle.law_words_paths.specs.Below.mut_borrow.declared.mutable.MutRef.{MutRef}
use Rattle.law_words_paths.specs.Below.thread_state.declared.value.Value.{Value}
use Rattle.law_words_paths.specs.Below.thread_state.declared.value.Value.TheVariants as value
use Rattle.law_words_paths.specs.Below.server_msgs.declared.message.Message.{Message}
use Rattle.law_words_paths.specs.Below.server_msgs.declared.message.Message.TheVariants.{Drop}
use Rattle.law_words_paths.specs.Below.server_model.Servers.{Cluster}
use Rattle.law_words_paths.specs.Below.coherent_memory.Names.{tot, one, Among, same_object}
use Rattle.law_words_paths.specs.Below.coherent_memory.Things.{Location, at_slot, at_temp, in_cell, Spot, in_slot, in_temp, as_gift, as_content, as_result, in_hand, Thing, holds, shares, borrows, lies, flies, sent, stands, things_at, slot_things, temp_things, gift_things, walk_things, things_of}
use Rattle.law_words_paths.specs.Below.coherent_memory.Follow.{Standing, thread_at, cells_in, cell_of, slot_of, temp_of, value_of, value_in}
use Rattle.law_words_paths.specs.Below.coherent_memory.Weights.{cells}
use Rattle.law_words_paths.specs.Below.coherent_memory.Placing.{standing_of, standing_in}
use Rattle.law_words_paths.specs.Below.coherent_memory.Sight.{sight, Pointer, pointer_in, location_of, dropped_pointer, pointers_of, pointers_in}
use Rattle.law_words_paths.proofs.Below.coherent_memory.Words.{itself, named}
use Rattle.law_words_paths.specs.Below.mut_borrow.declared.shared.SharedRef.{SharedRef}
use Rattle.law_words_paths.proofs.Below.coherent_types.Branches.{found}
use Rattle.law_words_paths.proofs.Below.coherent_memory.Bags.{among_split}
use Rattle.law_words_paths.proofs.paths.Sole.{some_is}
use Rattle.law_words_paths.proofs.paths.Origins.{placed, Origin, of_thread, of_none, origin, Listed, in_slots, borrow_value, share_value, own_value, among_first, among_second}
use Rattle.law_words_paths.proofs.paths.Contained.{among_thread, listed_in, servers_contain}
use Rattle.law_words_paths.specs.words.Reworded.{HasPlaces}

-- the pointer that a value at a location is
abbrev pub pointer_at : Location → Value → List Pointer
pointer_at l (value.Own v) = pointer_in (Some l) v
pointer_at l (value.Mut r) = record { at = Some l; word = r.word; object = r.object } ∷ []
pointer_at l v = []

-- what stands where the pointer does, and is that pointer
pub record Tells (k : Cluster) (l : Location) (p : Pointer) : Type 0 where
  pub value : Value
  pub stands : value_in (sight k).ground l ≡ Some value
  pub pointer : Among p (pointer_at l value)

no_place : (l : Location) (at : Option Location) → at ≡ None → at ≡ Some l → ⊥
no_place l at e f = let z : None ≡ Some l = sym e ∙ f in absurd cc

boxed_nowhere : (p : Pointer) (l : Location) (v : Owned) → Among p (pointer_in None v) → p.at ≡ Some l → ⊥
boxed_nowhere p l (owned.Box b) (inl e) f = no_place l p.at (sym (ap (λ (q : Pointer). q.at) e)) f
boxed_nowhere p l (owned.Box b) (inr h) f = h
boxed_nowhere p l owned.Nothing h f = h
boxed_nowhere p l owned.Unit h f = h
boxed_nowhere p l (owned.Int n) h f = h
boxed_nowhere p l (owned.Mutex m) h f = h
boxed_nowhere p l (owned.Task t) h f = h

-- a box at a location is a pointer there
boxed_there : (p : Pointer) (l m : Location) (v : Owned) → Among p (pointer_in (Some m) v) → p.at ≡ Some l → (m ≡ l) × Among p (pointer_in (Some l) v)
boxed_there p l m v h f = let e = at_of v h in (e, subst (λ n. Among p (pointer_in (Some n) v)) e h)
  where
    at_of : (u : Owned) → Among p (pointer_in (Some m) u) → m ≡ l
    at_of (owned.Box b) (inl e) = some_is (ap (λ (q : Pointer). q.at) e ∙ f)
    at_of (owned.Box b) (inr x) = absurd x
    at_of owned.Nothing x = absurd x
    at_of owned.Unit x = absurd x
    at_of (owned.Int n) x = absurd x
    at_of (owned.Mutex n) x = absurd x
    at_of (owned.Task t) x = absurd x

dropped_nowhere : (m : Message) (p : Pointer) (l : Location) → Among p (dropped_pointer m) → p.at ≡ Some l → ⊥
dropped_nowhere (Drop w o) p l (inl e) f = no_place l p.at (sym (ap (λ (q : Pointer). q.at) e)) f
dropped_nowhere (Drop w o) p l (inr h) f = h
dropped_nowhere _ p l h f = h

-- CELLS

-- what a thing with a cell is
pub data CellOf (c : Cell) : Thing → Type 0 where
  lying : (r a : ℕ) → CellOf c (lies r a c)
  flying : (w : ℕ) → CellOf c (flies w c)

weighs : (c : Cell) (y : Thing) → CellOf c y → cells c.object y ≡ 1
weighs c _ (lying r a) = ap one (itself c.object c.object refl)
weighs c _ (flying w) = ap one (itself c.object c.object refl)

among_weight : (f : Thing → ℕ) (y : Thing) (b : List Thing) → Among y b → f y ≤ tot f b
among_weight f y [] h = absurd h
among_weight f y (x ∷ b) (inl e) = let s : f x ≡ f y = ap f e in omega (arith, s)
among_weight f y (x ∷ b) (inr h) = let l = among_weight f y b h in omega (arith, l)

-- an object's cell is the one that is found
past : (c d : Cell) (b : List Thing) (q : Bool) → one q + tot (cells c.object) b ≤ 1 → 1 ≤ tot (cells c.object) b → cell_of (cells_in b) c.object ≡ Some c → (if q then Some d else cell_of (cells_in b) c.object) ≡ Some c
past c d b true l m e = absurd (omega (arith, l, m))
past c d b false l m e = e

pub cell_found : (c : Cell) (y : Thing) (b : List Thing) → tot (cells c.object) b ≤ 1 → CellOf c y → Among y b → cell_of (cells_in b) c.object ≡ Some c
cell_found c y [] l is h = absurd h
cell_found c _ (x ∷ b) l (lying r a) (inl e) = subst (λ z. cell_of (cells_in (z ∷ b)) c.object ≡ Some c) (sym e) (ap (λ (q : Bool). if q then Some c else cell_of (cells_in b) c.object) (itself c.object c.object refl))
cell_found c _ (x ∷ b) l (flying w) (inl e) = subst (λ z. cell_of (cells_in (z ∷ b)) c.object ≡ Some c) (sym e) (ap (λ (q : Bool). if q then Some c else cell_of (cells_in b) c.object) (itself c.object c.object refl))
cell_found c y (lies s a d ∷ b) l is (inr h) =
    let m = among_weight (cells c.object) y b h in
    past c d b (same_object d.object c.object) l (omega (arith, m, weighs c y is)) (cell_found c y b (omega (arith, l)) is h)
cell_found c y (flies w d ∷ b) l is (inr h) =
    let m = among_weight (cells c.object) y b h in
    past c d b (same_object d.object c.object) l (omega (arith, m, weighs c y is)) (cell_found c y b (omega (arith, l)) is h)
cell_found c y (_ ∷ b) l is (inr h) = cell_found c y b (omega (arith, l)) is h

-- the cell that is found is among the things
pub record InCell (o : ObjNo) (c : Cell) (b : List Thing) : Type 0 where
  pub object : c.object ≡ o
  pub thing : Thing
  pub among : Among thing b
  pub is : CellOf c thing

later_cell : (o : ObjNo) (c : Cell) (x : Thing) (b : List Thing) → InCell o c b → InCell o c (x ∷ b)
later_cell o c x b i = record { object = i.object; thing = i.thing; among = inr i.among; is = i.is }

cell_by : (o : ObjNo) (c d : Cell) (x : Thing) (b : List Thing) → CellOf d x → (q : Bool) → same_object d.object o ≡ q → (cell_of (cells_in b) o ≡ Some c → InCell o c b) → (if q then Some d else cell_of (cells_in b) o) ≡ Some c → InCell o c (x ∷ b)
cell_by o c d x b is true e go f = subst (λ y. InCell o y (x ∷ b)) (some_is f) (record { object = named d.object o e; thing = x; among = inl refl; is = is })
cell_by o c d x b is false e go f = later_cell o c x b (go f)

pub cell_among : (o : ObjNo) (c : Cell) (b : List Thing) → cell_of (cells_in b) o ≡ Some c → InCell o c b
cell_among o c [] e = absurd cc
cell_among o c (lies s a d ∷ b) e = cell_by o c d (lies s a d) b (lying s a) (same_object d.object o) refl (cell_among o c b) e
cell_among o c (flies w d ∷ b) e = cell_by o c d (flies w d) b (flying w) (same_object d.object o) refl (cell_among o c b) e
cell_among o c (x ∷ b) e = later_cell o c x b (cell_among o c b e)

-- and so is the pointer in it
in_it : (p : Pointer) (c : Cell) (y : Thing) → CellOf c y → Among p (pointer_in (Some (in_cell c.object)) c.value) → Among p (standing_of y)
in_it p c _ (lying r a) h = h
in_it p c _ (flying w) h = h

-- a pointer is of a thing
pub record OfThing (p : Pointer) (b : List Thing) : Type 0 where
  pub thing : Thing
  pub among : Among thing b
  pub pointer : Among p (pointers_of thing)

pub of_thing : (p : Pointer) (b : List Thing) → Among p (pointers_in b) → OfThing p b
of_thing p [] h = absurd h
of_thing p (x ∷ b) h =
    ⊎_elim (λ (l : Among p (pointers_of x)). record { thing = x; among = inl refl; pointer = l }) (λ (r : Among p (pointers_in b)). let q = of_thing p b r in record { thing = q.thing; among = inr q.among; pointer = q.pointer })
    (among_split p (pointers_of x) (pointers_in b) h)

slots_same : (t i u j : ℕ) → in_slot t i ≡ in_slot u j → at_slot t i ≡ at_slot u j
slots_same t i u j e = cc

temps_same : (t i u j : ℕ) → in_temp t i ≡ in_temp u j → at_temp t i ≡ at_temp u j
temps_same t i u j e = cc

slot_no_temp : (t i u j : ℕ) → in_slot t i ≡ in_temp u j → ⊥
slot_no_temp t i u j e = absurd cc

-- all pointers of a thing among these
pub pointers_among : (p : Pointer) (y : Thing) (b : List Thing) → Among y b → Among p (pointers_of y) → Among p (pointers_in b)
pointers_among p y [] h q = absurd h
pointers_among p y (x ∷ b) (inl e) q = among_first p (pointers_of x) (pointers_in b) (subst (λ z. Among p (pointers_of z)) (sym e) q)
pointers_among p y (x ∷ b) (inr h) q = among_second p (pointers_of x) (pointers_in b) (pointers_among p y b h q)

pub standing_among : (p : Pointer) (y : Thing) (b : List Thing) → Among y b → Among p (standing_of y) → Among p (standing_in b)
standing_among p y [] h q = absurd h
standing_among p y (x ∷ b) (inl e) q = among_first p (standing_of x) (standing_in b) (subst (λ z. Among p (standing_of z)) (sym e) q)
standing_among p y (x ∷ b) (inr h) q = among_second p (standing_of x) (standing_in b) (standing_among p y b h q)

-- what stands is a pointer
pub stands_of : (p : Pointer) (y : Thing) → Among p (standing_of y) → Among p (pointers_of y)
stands_of p (flies w c) h = inr h
stands_of p _ h = h

pub stands_in : (p : Pointer) (b : List Thing) → Among p (standing_in b) → Among p (pointers_in b)
stands_in p [] h = absurd h
stands_in p (x ∷ b) h =
    ⊎_elim (λ (l : Among p (standing_of x)). among_first p (pointers_of x) (pointers_in b) (stands_of p x l)) (λ (r : Among p (standing_in b)). among_second p (pointers_of x) (pointers_in b) (stands_in p b r))
    (among_split p (standing_of x) (standing_in b) h)

module _ (k : Cluster) where
  -- WHAT STANDS AT A LOCATION IS AMONG THE THINGS

  pub slot_among : (t i : ℕ) (v : Value) → value_in (sight k).ground (at_slot t i) ≡ Some v → (y : Thing) → ((s : ℕ) → Among y (slot_things s t i v)) → Among y (things_of k)
  slot_among t i v e y has = by (thread_at (sight k).ground.threads t) refl e
    where
      by : (o : Option Standing) → thread_at (sight k).ground.threads t ≡ o → slot_of o i ≡ Some v → Among y (things_of k)
      by None at f = absurd cc
      by (Some x) at f =
          let q = among_thread (sight k).ground.threads t x at in
          let number : 0 + i ≡ i = omega arith in
          let here_it : Among y (slot_things x.server x.thread.number (0 + i) v) = subst (λ n. Among y (slot_things x.server x.thread.number n v)) (sym number) (subst (λ n. Among y (slot_things x.server n i v)) (sym q.1) (has x.server)) in
          let slots = things_at (slot_things x.server x.thread.number) 0 x.thread.slots in
          let temps = things_at (temp_things x.server x.thread.number) 0 x.thread.temps in
          let w = stands x.server x.packed x.thread ∷ gift_things x.thread.number x.thread.gift ++ things_at (walk_things x.server) 0 x.thread.walk in
          servers_contain k.servers x q.0 y (among_first y (w ++ slots) temps (among_second y w slots (listed_in (slot_things x.server x.thread.number) y 0 i x.thread.slots v f here_it)))

  pub temp_among : (t i : ℕ) (v : Value) → value_in (sight k).ground (at_temp t i) ≡ Some v → (y : Thing) → ((s : ℕ) → Among y (temp_things s t i v)) → Among y (things_of k)
  temp_among t i v e y has = by (thread_at (sight k).ground.threads t) refl e
    where
      by : (o : Option Standing) → thread_at (sight k).ground.threads t ≡ o → temp_of o i ≡ Some v → Among y (things_of k)
      by None at f = absurd cc
      by (Some x) at f =
          let q = among_thread (sight k).ground.threads t x at in
          let number : 0 + i ≡ i = omega arith in
          let here_it : Among y (temp_things x.server x.thread.number (0 + i) v) = subst (λ n. Among y (temp_things x.server x.thread.number n v)) (sym number) (subst (λ n. Among y (temp_things x.server n i v)) (sym q.1) (has x.server)) in
          let slots = things_at (slot_things x.server x.thread.number) 0 x.thread.slots in
          let temps = things_at (temp_things x.server x.thread.number) 0 x.thread.temps in
          let w = stands x.server x.packed x.thread ∷ gift_things x.thread.number x.thread.gift ++ things_at (walk_things x.server) 0 x.thread.walk in
          servers_contain k.servers x q.0 y (among_second y (w ++ slots) temps (listed_in (temp_things x.server x.thread.number) y 0 i x.thread.temps v f here_it))

  slot_pointer : (t i : ℕ) (v : Value) (p : Pointer) → value_in (sight k).ground (at_slot t i) ≡ Some v → Among p (pointer_at (at_slot t i) v) → Among p (standing_in (things_of k))
  slot_pointer t i (value.Own u) p e h = standing_among p (holds (in_slot t i) u) (things_of k) (slot_among t i (value.Own u) e (holds (in_slot t i) u) (λ s. inl refl)) h
  slot_pointer t i (value.Mut r) p e h = standing_among p (borrows (at_slot t i) r) (things_of k) (slot_among t i (value.Mut r) e (borrows (at_slot t i) r) (λ s. inl refl)) h
  slot_pointer t i value.Gone p e h = absurd h
  slot_pointer t i (value.SharedSlot j) p e h = absurd h
  slot_pointer t i (value.MutSlot j) p e h = absurd h
  slot_pointer t i (value.Shared r) p e h = absurd h
  slot_pointer t i (value.Held m) p e h = absurd h

  temp_pointer : (t i : ℕ) (v : Value) (p : Pointer) → value_in (sight k).ground (at_temp t i) ≡ Some v → Among p (pointer_at (at_temp t i) v) → Among p (standing_in (things_of k))
  temp_pointer t i (value.Own u) p e h = standing_among p (holds (in_temp t i) u) (things_of k) (temp_among t i (value.Own u) e (holds (in_temp t i) u) (λ s. inl refl)) h
  temp_pointer t i (value.Mut r) p e h = standing_among p (borrows (at_temp t i) r) (things_of k) (temp_among t i (value.Mut r) e (borrows (at_temp t i) r) (λ s. inl refl)) h
  temp_pointer t i value.Gone p e h = absurd h
  temp_pointer t i (value.SharedSlot j) p e h = absurd h
  temp_pointer t i (value.MutSlot j) p e h = absurd h
  temp_pointer t i (value.Shared r) p e h = absurd h
  temp_pointer t i (value.Held m) p e h = absurd h

  cell_pointer : (o : ObjNo) (v : Value) (p : Pointer) (d : Option Cell) → cell_of (sight k).ground.cells o ≡ d → value_of d ≡ Some v → Among p (pointer_at (in_cell o) v) → Among p (standing_in (things_of k))
  cell_pointer o v p None at e h = absurd cc
  cell_pointer o v p (Some d) at e h =
      let i = cell_among o d (things_of k) at in
      let same : value.Own d.value ≡ v = some_is e in
      let here_it : Among p (pointer_in (Some (in_cell o)) d.value) = subst (λ u. Among p (pointer_at (in_cell o) u)) (sym same) h in
      standing_among p i.thing (things_of k) i.among (in_it p d i.thing i.is (subst (λ n. Among p (pointer_in (Some (in_cell n)) d.value)) (sym i.object) here_it))

  pub told_standing : (l : Location) (v : Value) (p : Pointer) → value_in (sight k).ground l ≡ Some v → Among p (pointer_at l v) → Among p (standing_in (things_of k))
  told_standing (at_slot t i) v p e h = slot_pointer t i v p e h
  told_standing (at_temp t i) v p e h = temp_pointer t i v p e h
  told_standing (in_cell o) v p e h = cell_pointer o v p (cell_of (sight k).ground.cells o) refl e h

  pub told : (l : Location) (v : Value) (p : Pointer) → value_in (sight k).ground l ≡ Some v → Among p (pointer_at l v) → Among p (pointers_in (things_of k))
  told l v p e h = stands_in p (things_of k) (told_standing l v p e h)

  -- A POINTER THAT STANDS AT A LOCATION

  module _ (c : HasPlaces k) where
    -- what stands in a slot or a temporary value of a thread
    placed_value : (y : Thing) (l : Location) (v : Value) → placed y ≡ 1 → Among y (things_of k)
        → ((s t i : ℕ) (u : Value) → Among y (slot_things s t i u) → (u ≡ v) × (l ≡ at_slot t i))
        → ((s t i : ℕ) (u : Value) → Among y (temp_things s t i u) → (u ≡ v) × (l ≡ at_temp t i))
        → value_in (sight k).ground l ≡ Some v
    placed_value y l v one h slots temps = by (origin k y h)
      where
        there : (x : Standing) → Among x (sight k).ground.threads → thread_at (sight k).ground.threads x.thread.number ≡ Some x
        there x hx = found x (things_of k) (c.numbers_differ x.thread.number) hx

        in_slot_so : (x : Standing) → Among x (sight k).ground.threads → Listed (slot_things x.server x.thread.number) y 0 x.thread.slots → value_in (sight k).ground l ≡ Some v
        in_slot_so x hx q =
            let r = slots x.server x.thread.number (0 + q.number) q.element q.among in
            let number : 0 + q.number ≡ q.number = omega arith in
            ap (value_in (sight k).ground) (r.1 ∙ ap (at_slot x.thread.number) number) ∙ ap (λ o. slot_of o q.number) (there x hx) ∙ q.is ∙ ap Some r.0

        in_temp_so : (x : Standing) → Among x (sight k).ground.threads → Listed (temp_things x.server x.thread.number) y 0 x.thread.temps → value_in (sight k).ground l ≡ Some v
        in_temp_so x hx q =
            let r = temps x.server x.thread.number (0 + q.number) q.element q.among in
            let number : 0 + q.number ≡ q.number = omega arith in
            ap (value_in (sight k).ground) (r.1 ∙ ap (at_temp x.thread.number) number) ∙ ap (λ o. temp_of o q.number) (there x hx) ∙ q.is ∙ ap Some r.0

        by : Origin (things_of k) y → value_in (sight k).ground l ≡ Some v
        by (of_none z) = absurd (omega (arith, one, z))
        by (of_thread x hx q) = ⊎_elim (λ (a : Listed (slot_things x.server x.thread.number) y 0 x.thread.slots). in_slot_so x hx a) (λ (b : Listed (temp_things x.server x.thread.number) y 0 x.thread.temps). in_temp_so x hx b) (in_slots x.server x.packed x.thread y one q)

    pub borrow_stands : (l : Location) (r : MutRef) → Among (borrows l r) (things_of k) → value_in (sight k).ground l ≡ Some (value.Mut r)
    borrow_stands l r h =
        placed_value (borrows l r) l (value.Mut r) refl h (λ s t i u q. borrow_value s (in_slot t i) (at_slot t i) l r u q) (λ s t i u q. borrow_value s (in_temp t i) (at_temp t i) l r u q)

    pub share_stands : (l : Location) (r : SharedRef) → Among (shares l r) (things_of k) → value_in (sight k).ground l ≡ Some (value.Shared r)
    share_stands l r h =
        placed_value (shares l r) l (value.Shared r) refl h (λ s t i u q. share_value s (in_slot t i) (at_slot t i) l r u q) (λ s t i u q. share_value s (in_temp t i) (at_temp t i) l r u q)

    slot_owned : (t i : ℕ) (v : Owned) → Among (holds (in_slot t i) v) (things_of k) → value_in (sight k).ground (at_slot t i) ≡ Some (value.Own v)
    slot_owned t i v h =
        placed_value (holds (in_slot t i) v) (at_slot t i) (value.Own v) refl h
        (λ s n j u q. let r = own_value s (in_slot n j) (in_slot t i) (at_slot n j) v u q in (r.0, slots_same t i n j r.1))
        (λ s n j u q. let r = own_value s (in_temp n j) (in_slot t i) (at_temp n j) v u q in absurd (slot_no_temp t i n j r.1))

    temp_owned : (t i : ℕ) (v : Owned) → Among (holds (in_temp t i) v) (things_of k) → value_in (sight k).ground (at_temp t i) ≡ Some (value.Own v)
    temp_owned t i v h =
        placed_value (holds (in_temp t i) v) (at_temp t i) (value.Own v) refl h
        (λ s n j u q. let r = own_value s (in_slot n j) (in_temp t i) (at_slot n j) v u q in absurd (slot_no_temp n j t i (sym r.1)))
        (λ s n j u q. let r = own_value s (in_temp n j) (in_temp t i) (at_temp n j) v u q in (r.0, temps_same t i n j r.1))

    in_a_cell : (p : Pointer) (l : Location) (d : Cell) (y : Thing) → CellOf d y → Among y (things_of k) → Among p (pointer_in (Some (in_cell d.object)) d.value) → p.at ≡ Some l → Tells k l p
    in_a_cell p l d y is h q f =
        let b = boxed_there p l (in_cell d.object) d.value q f in
        let at : value_in (sight k).ground (in_cell d.object) ≡ Some (value.Own d.value) = ap value_of (cell_found d y (things_of k) (c.home_of_each d.object) is h) in
        record { value = value.Own d.value; stands = subst (λ n. value_in (sight k).ground n ≡ Some (value.Own d.value)) b.0 at; pointer = b.1 }

    held_there : (p : Pointer) (l : Location) (sp : Spot) (v : Owned) → Among (holds sp v) (things_of k) → Among p (pointer_in (location_of sp) v) → p.at ≡ Some l → Tells k l p
    held_there p l (in_slot t i) v h q f =
        let b = boxed_there p l (at_slot t i) v q f in
        record { value = value.Own v; stands = subst (λ n. value_in (sight k).ground n ≡ Some (value.Own v)) b.0 (slot_owned t i v h); pointer = b.1 }
    held_there p l (in_temp t i) v h q f =
        let b = boxed_there p l (at_temp t i) v q f in
        record { value = value.Own v; stands = subst (λ n. value_in (sight k).ground n ≡ Some (value.Own v)) b.0 (temp_owned t i v h); pointer = b.1 }
    held_there p l (as_gift t) v h q f = absurd (boxed_nowhere p l v q f)
    held_there p l (as_content m) v h q f = absurd (boxed_nowhere p l v q f)
    held_there p l (as_result t) v h q f = absurd (boxed_nowhere p l v q f)
    held_there p l in_hand v h q f = absurd (boxed_nowhere p l v q f)

    tells_by : (y : Thing) (p : Pointer) (l : Location) → Among y (things_of k) → Among p (pointers_of y) → p.at ≡ Some l → Tells k l p
    tells_by (holds sp v) p l h q f = held_there p l sp v h q f
    tells_by (shares m r) p l h (inl e) f = absurd (no_place l p.at (sym (ap (λ (q : Pointer). q.at) e)) f)
    tells_by (shares m r) p l h (inr q) f = absurd q
    tells_by (borrows m r) p l h (inl e) f =
        let same : m ≡ l = some_is (ap (λ (q : Pointer). q.at) e ∙ f) in record {
          value = value.Mut r;
          stands = borrow_stands l r (subst (λ n. Among (borrows n r) (things_of k)) same h);
          pointer = inl (ap (λ n. record { at = Some n; word = r.word; object = r.object }) (sym same) ∙ e);
        }
    tells_by (borrows m r) p l h (inr q) f = absurd q
    tells_by (lies s a d) p l h q f = in_a_cell p l d (lies s a d) (lying s a) h q f
    tells_by (flies w d) p l h (inl e) f = absurd (no_place l p.at (sym (ap (λ (q : Pointer). q.at) e)) f)
    tells_by (flies w d) p l h (inr q) f = in_a_cell p l d (flies w d) (flying w) h q f
    tells_by (sent s m) p l h q f = absurd (dropped_nowhere m p l q f)
    tells_by _ p l h q f = absurd q

    pub tells : (p : Pointer) (l : Location) → Among p (pointers_in (things_of k)) → p.at ≡ Some l → Tells k l p
    tells p l h f = let q = of_thing p (things_of k) h in tells_by q.thing p l q.among q.pointer f
