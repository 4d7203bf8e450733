-- The pointers that a thread follows which steps: none is stale, their objects lie somewhere, and their words lead there.
use Rattle.std.proofs.Common.{◌≡◌, inl, inr, ◌≤◌, ◌<◌, ℕ, zero, suc, ◌+◌, ◌-◌, ◌||◌, Bool, true, false, List, [], ◌∷◌, Option, Some, None, refl, sym, ap, subst, ◌∙◌, arith}
use Rattle.std.specs.Prelude.{slice_get}
use Rattle.law_counts_sums.specs.Below.fr_base.declared.name.ObjNo.{ObjNo}
use Rattle.law_counts_sums.specs.Below.fr_base.declared.place.Lval.{Lval}
use Rattle.law_counts_sums.specs.Below.fr_base.declared.instruction.Instr.{Instr}
use Rattle.law_counts_sums.specs.Below.fr_base.declared.instruction.Instr.TheVariants as instr
use Rattle.law_counts_sums.specs.Below.fr_store.Keys.{Key, slot_k}
use Rattle.law_counts_sums.specs.Below.fr_store.Store.{at_key, at_object, Store, walk, below_key}
use Rattle.law_counts_sums.specs.Below.fr_store.Typed.{Exact, KeyTypes, Resolves, Unlent}
use Rattle.law_counts_sums.proofs.Below.fr_store.Sound.{sound}
use Rattle.law_counts_sums.specs.Below.global_addr.Words.{colour_of, server_of, next_word}
use Rattle.law_counts_sums.specs.Below.heap_partition.declared.value.Cell.{Cell}
use Rattle.law_counts_sums.specs.Below.heap_partition.declared.value.Owned.TheVariants as owned
use Rattle.law_counts_sums.specs.Below.mut_borrow.declared.mutable.MutRef.{MutRef}
use Rattle.law_counts_sums.specs.Below.read_cache.Cache.{hit, is_cached}
use Rattle.law_counts_sums.specs.Below.thread_state.View.{is_over}
use Rattle.law_counts_sums.specs.Below.thread_state.declared.value.Value.{Value}
use Rattle.law_counts_sums.specs.Below.thread_state.declared.value.Value.TheVariants as value
use Rattle.law_counts_sums.specs.Below.thread_state.declared.phase.Phase.{Phase}
use Rattle.law_counts_sums.specs.Below.thread_state.declared.phase.Phase.TheVariants as phase
use Rattle.law_counts_sums.specs.Below.server_model.Servers.{Server, Cluster, server_at}
use Rattle.law_counts_sums.specs.Below.server_model.Work.{look}
use Rattle.law_counts_sums.specs.Below.server_model.Events.{can_step}
use Rattle.law_counts_sums.specs.Below.coherent_memory.Names.{Among}
use Rattle.law_counts_sums.specs.Below.coherent_memory.Things.{Location, in_cell, lies, flies, things_of}
use Rattle.law_counts_sums.specs.Below.coherent_memory.Follow.{Standing, Ground, thread_at, cell_of, value_in, value_behind, value_of, slot_of, leads, locate}
use Rattle.law_counts_sums.specs.Below.coherent_memory.Stale.{same_location, is_among, one_star_less, lent_place, with_place, lent_places, changed_above, stale_above, taken_above}
use Rattle.law_counts_sums.specs.Below.coherent_memory.Sight.{Pointer, sight}
use Rattle.law_counts_sums.specs.Below.coherent_memory.Words.{IsStale}
use Rattle.law_counts_sums.specs.Below.coherent_memory.Coherent.{IsSound}
use Rattle.law_words_paths.specs.paths.HeapStore.{in_store, heap_store, GoesOn, IsUnmarked, HasPaths}
use Rattle.law_words_paths.specs.paths.Pointing.{lends}
use Rattle.law_words_paths.proofs.paths.Alike.{leads_in_heap, IsShown, a_slot, an_object, lead_alike}
use Rattle.law_words_paths.proofs.paths.Circles.{shorter}
use Rattle.law_words_paths.proofs.paths.FreshPaths.{same_is}
use Rattle.law_words_paths.proofs.paths.MayWrites.{may_write_there}
use Rattle.law_words_paths.proofs.paths.Shown.{stands_there, object_shown}
use Rattle.law_words_paths.proofs.paths.Sole.{some_is}
use Rattle.law_results_reads.proofs.Made.{Reads, none_made, OwnedBy, own_path}
use Rattle.law_results_reads.proofs.Near.{base_mine, one_reaches}
use Rattle.law_results_reads.proofs.Awaits.{comes_to}
use Rattle.law_results_reads.proofs.Pointing.{pointer_at, Stands, slot_pointer, cell_pointer, HomeOf, lies_there, flies_there, home_of_cell, its_colour, leads_home}
use Rattle.law_results_reads.proofs.Copied.{copy_is, new_colour}

-- a place that a thread may follow: no type lends its variable mutably, and types resolve it
pub record Place (k : Cluster) (c : HasPaths k) (x : Standing) (only : Bool) (w : Lval) : Type 0 where
  pub free : Unlent c.types.typing.exact (slot_k x.thread.number w.slot)
  pub base : Key
  pub boxes : ℕ
  pub type : Exact
  pub resolves : Resolves c.types.typing.exact only (slot_k x.thread.number w.slot) w.depth base boxes type
  pub unmarked : IsUnmarked x w.slot

-- what a pointer leads to
abbrev pub object_at : Location → Value → Option ObjNo
object_at l (value.Own (owned.Box p)) = Some p.object
object_at l (value.Shared r) = Some r.object
object_at l (value.Mut r) = Some r.object
object_at l v = None

-- WHERE A PLACE LEADS ON ITS WAY

record Hop (g : Ground) (t slot i : ℕ) (m : Location) : Type 0 where
  from : Location
  located : locate g t slot i ≡ Some from
  value : Value
  stands : value_in g from ≡ Some value
  leads_on : leads t (Some value) ≡ Some m

hop_of : (g : Ground) (t slot i : ℕ) (m : Location) → locate g t slot (suc i) ≡ Some m → Hop g t slot i m
hop_of g t slot i m e = by (locate g t slot i) refl e
  where
    by_value : (l : Location) → locate g t slot i ≡ Some l → (v : Option Value) → value_in g l ≡ v → leads t v ≡ Some m → Hop g t slot i m
    by_value l q None s f = absurd cc
    by_value l q (Some v) s f = record { from = l; located = q; value = v; stands = s; leads_on = f }

    by : (o : Option Location) → locate g t slot i ≡ o → leads t (value_behind g o) ≡ Some m → Hop g t slot i m
    by None q f = absurd cc
    by (Some l) q f = by_value l q (value_in g l) refl f

-- what the next star follows, from where so many lead
pub hop_from : (g : Ground) (t slot i : ℕ) (l m : Location) → locate g t slot i ≡ Some l → locate g t slot (suc i) ≡ Some m → (v : Value) × (value_in g l ≡ Some v) × (leads t (Some v) ≡ Some m)
hop_from g t slot i l m e f =
    let h = hop_of g t slot i m f in
    (h.value, ap (value_in g) (some_is (sym e ∙ h.located)) ∙ h.stands, h.leads_on)

-- each place with fewer stars leads somewhere too
prefix : (g : Ground) (t slot j d : ℕ) (m : Location) → locate g t slot (j + d) ≡ Some m → (l : Location) × (locate g t slot d ≡ Some l)
prefix g t slot zero d m e = let same : zero + d ≡ d = omega arith in (m, sym (ap (locate g t slot) same) ∙ e)
prefix g t slot (suc j) d m e =
    let same : suc j + d ≡ suc (j + d) = omega arith in
    let h = hop_of g t slot (j + d) m (sym (ap (locate g t slot) same) ∙ e) in
    prefix g t slot j d h.from h.located

-- a pointer leads to an object whoever follows it
to_cell : (t u : ℕ) (v : Value) (o : ObjNo) → leads t (Some v) ≡ Some (in_cell o) → leads u (Some v) ≡ Some (in_cell o)
to_cell t u (value.Own (owned.Box p)) o e = e
to_cell t u (value.Own owned.Nothing) o e = absurd cc
to_cell t u (value.Own owned.Unit) o e = absurd cc
to_cell t u (value.Own (owned.Int n)) o e = absurd cc
to_cell t u (value.Own (owned.Mutex n)) o e = absurd cc
to_cell t u (value.Own (owned.Task n)) o e = absurd cc
to_cell t u (value.Shared r) o e = e
to_cell t u (value.Mut r) o e = e
to_cell t u (value.SharedSlot j) o e = absurd cc
to_cell t u (value.MutSlot j) o e = absurd cc
to_cell t u value.Gone o e = absurd cc
to_cell t u (value.Held n) o e = absurd cc

-- A THREAD THAT STEPS

module _ (k : Cluster) (sound_there : IsSound k) (c : HasPaths k) (number : ℕ) (s : Server) (here : server_at k.servers number ≡ Some s) (x : Standing) (g : GoesOn k x) (able : can_step x.thread.phase ≡ true) where
  abbrev t : ℕ
  t = x.thread.number

  abbrev ground : Ground
  ground = (sight k).ground

  abbrev st : Store
  st = heap_store k c.types

  abbrev E : KeyTypes
  E = c.types.typing.exact

  module _ (only : Bool) (w : Lval) (place : Place k c x only w) where
    -- where the place leads with so many stars
    pub at : (d : ℕ) → d ≤ w.depth → (l : Location) × (locate ground t w.slot d ≡ Some l)
    at d le =
        let end = lead_alike.in_cluster k c x w only place.base place.boxes place.type g place.unmarked place.resolves in
        let same : w.depth ≡ (w.depth - d) + d = omega (arith, le) in
        prefix ground t w.slot (w.depth - d) d end.0 (sym (ap (locate ground t w.slot) same) ∙ end.1)

    module _ (i : ℕ) (lt : i < w.depth) (l m : Location) (v : Value) (located : locate ground t w.slot i ≡ Some l) (stands : value_in ground l ≡ Some v) (leads_on : leads t (Some v) ≡ Some m) where
      next : locate ground t w.slot (suc i) ≡ Some m
      next = ap (λ o. leads t (value_behind ground o)) located ∙ ap (leads t) stands ∙ leads_on

      -- the thread follows it
      followed : Reads k c x l
      followed =
          let q = shorter E only (slot_k t w.slot) (w.depth - i) w.depth i place.base place.boxes place.type (omega (arith, lt)) place.resolves in
          record { goes = g; slot = w.slot; stars = i; free = place.free; only = only; base = q.base; boxes = q.boxes; type = q.type; resolves = q.res; located = located }

      -- of an object in whose slot a thread has it that waits for no pair, that thread is this one
      reached_alone : (o : ObjNo) → m ≡ in_cell o → (z : Standing) → GoesOn k z → ((d e : ℕ) → z.thread.phase ≡ phase.WaitPar d e → ⊥) → ((d e : ℕ) → z.thread.phase ≡ phase.GotPar d e → ⊥) → OwnedBy k c z.thread.number o → x ≡ z
      reached_alone o e z h nw ng own =
          let q = shorter E only (slot_k t w.slot) (w.depth - suc i) w.depth (suc i) place.base place.boxes place.type (omega (arith, lt)) place.resolves in
          let b = base_mine k c t only (slot_k t w.slot) (suc i) q.base q.boxes q.type (t, refl, inl refl) q.res in
          let there : walk st (suc i) (at_key (slot_k t w.slot)) ≡ Some (at_object o) = (leads_in_heap k c x g w.slot (suc i) m next).0 ∙ ap (λ a. Some (in_store a)) e in
          let chain : below_key st q.base q.boxes ≡ Some (at_object o) = sym (sound c.types.typing.rank E st c.types.state.typed only (slot_k t w.slot) (suc i) q.base q.boxes q.type q.res) ∙ there in
          let one = one_reaches k c t z h nw ng o q.base q.boxes b chain own in
          some_is (sym (stands_there k c x g) ∙ ap (thread_at ground.threads) (sym one) ∙ stands_there k c z h)

      -- its object isn't under way
      lands : (o : ObjNo) → m ≡ in_cell o → (u : ℕ) (d : Cell) → Among (flies u d) (things_of k) → d.object ≡ o → ⊥
      lands o e u d flying_there object =
          let a = comes_to k c sound_there u d o flying_there object in
          let one = reached_alone o e a.thread a.goes (λ p q f. let n : phase.WaitCell a.word ≡ phase.WaitPar p q = sym a.waits_there ∙ f in cc) (λ p q f. let n : phase.WaitCell a.word ≡ phase.GotPar p q = sym a.waits_there ∙ f in cc) a.owned_there in
          let waiting : can_step (phase.WaitCell a.word) ≡ true = sym (ap can_step a.waits_there) ∙ ap (λ (y : Standing). can_step y.thread.phase) (sym one) ∙ able in
          absurd cc

      -- THREADS THAT HAVE TAKEN AN OBJECT

      record HasTaken (z : Standing) : Type 0 where
        word : ℕ
        taken : z.thread.phase ≡ phase.Taken word
        its : Lval
        at_borrow : slice_get (sight k).code z.thread.pc ≡ Some (instr.BorrowMut its)
        stars : ℕ
        depth : its.depth ≡ suc stars
        located_there : locate ground z.thread.number its.slot stars ≡ Some l

      taken_of : (z : Standing) (a : Location) → lent_place ground z.thread.number z.thread.phase (slice_get (sight k).code z.thread.pc) ≡ Some a → a ≡ l → HasTaken z
      taken_of z a e same = by z.thread.phase refl (slice_get (sight k).code z.thread.pc) refl e
        where
          at_depth : (u : ℕ) (p : Lval) → z.thread.phase ≡ phase.Taken u → slice_get (sight k).code z.thread.pc ≡ Some (instr.BorrowMut p) → (d : ℕ) → p.depth ≡ d → one_star_less ground z.thread.number p.slot d ≡ Some a → HasTaken z
          at_depth u p q j zero r f = absurd cc
          at_depth u p q j (suc n) r f = record { word = u; taken = q; its = p; at_borrow = j; stars = n; depth = r; located_there = f ∙ ap Some same }

          by : (p : Phase) → z.thread.phase ≡ p → (j : Option Instr) → slice_get (sight k).code z.thread.pc ≡ j → lent_place ground z.thread.number p j ≡ Some a → HasTaken z
          by (phase.Taken u) q (Some (instr.BorrowMut p)) j f = at_depth u p q j p.depth refl f
          by _ q _ j f = absurd cc

      taken_among : (xs : List Standing) → is_among l (lent_places (sight k).code ground xs) ≡ true → (z : Standing) × Among z xs × HasTaken z
      taken_among [] e = absurd cc
      taken_among (z ∷ xs) e = by (lent_place ground z.thread.number z.thread.phase (slice_get (sight k).code z.thread.pc)) refl e (taken_among xs)
        where
          first : (a : Location) (b : Bool) → same_location a l ≡ b → lent_place ground z.thread.number z.thread.phase (slice_get (sight k).code z.thread.pc) ≡ Some a → b || is_among l (lent_places (sight k).code ground xs) ≡ true
              → (is_among l (lent_places (sight k).code ground xs) ≡ true → (y : Standing) × Among y xs × HasTaken y) → (y : Standing) × Among y (z ∷ xs) × HasTaken y
          first a true q f h go = (z, inl refl, taken_of z a f (same_is a l q))
          first a false q f h go = let r = go h in (r.0, inr r.1, r.2)

          by : (o : Option Location) → lent_place ground z.thread.number z.thread.phase (slice_get (sight k).code z.thread.pc) ≡ o → is_among l (with_place o (lent_places (sight k).code ground xs)) ≡ true
              → (is_among l (lent_places (sight k).code ground xs) ≡ true → (y : Standing) × Among y xs × HasTaken y) → (y : Standing) × Among y (z ∷ xs) × HasTaken y
          by None f h go = let r = go h in (r.0, inr r.1, r.2)
          by (Some a) f h go = first a (same_location a l) refl f h go

      -- the thread itself hasn't taken the object from here
      abbrev pub Untaken : Type 0
      Untaken = (u : ℕ) (p : Lval) (stars : ℕ) → x.thread.phase ≡ phase.Taken u → slice_get (sight k).code x.thread.pc ≡ Some (instr.BorrowMut p) → p.depth ≡ suc stars → locate ground t p.slot stars ≡ Some l → ⊥

      none_taken : (o : ObjNo) → m ≡ in_cell o → Untaken → is_among l (lent_places (sight k).code ground ground.threads) ≡ true → ⊥
      none_taken o e free a =
          let h = taken_among ground.threads a in
          let z = h.0 in
          let taken = h.2 in
          let goes : GoesOn k z = record { among = h.1; going = ap is_over taken.taken } in
          let may = may_write_there k c z goes (instr.BorrowMut taken.its) taken.its taken.at_borrow lends in
          let more : taken.its.depth ≡ suc taken.stars = taken.depth in
          let q = shorter E true (slot_k z.thread.number taken.its.slot) 0 taken.its.depth (suc taken.stars) may.base may.boxes may.type (omega (arith, more)) may.resolves in
          -- the value there leads to the object, whoever follows it
          let behind : locate ground z.thread.number taken.its.slot (suc taken.stars) ≡ Some (in_cell o) = ap (λ b. leads z.thread.number (value_behind ground b)) taken.located_there ∙ ap (leads z.thread.number) stands ∙ to_cell t z.thread.number v o (leads_on ∙ ap Some e) in
          let own = own_path k c z goes taken.its.slot (suc taken.stars) q.base q.boxes q.type o q.res (leads_in_heap k c z goes taken.its.slot (suc taken.stars) (in_cell o) behind).0 in
          let one = reached_alone o e z goes (λ p r f. let n : phase.Taken taken.word ≡ phase.WaitPar p r = sym taken.taken ∙ f in cc) (λ p r f. let n : phase.Taken taken.word ≡ phase.GotPar p r = sym taken.taken ∙ f in cc) own in
          free taken.word taken.its taken.stars (ap (λ (b : Standing). b.thread.phase) one ∙ taken.taken) (ap (λ (b : Standing). slice_get (sight k).code b.thread.pc) one ∙ taken.at_borrow) taken.depth
          (ap (λ (b : Standing). locate ground b.thread.number taken.its.slot taken.stars) one ∙ taken.located_there)

      -- a box or a mutable reference there isn't stale
      fresh_there : (o : ObjNo) → m ≡ in_cell o → Untaken → IsStale (sight k) (Some l) → ⊥
      fresh_there o e free (changed_above r among held ch) = none_made k c x l r followed among held
      fresh_there o e free (stale_above r among held q) = none_made k c x l r followed among held
      fresh_there o e free (taken_above a) = none_taken o e free a

      -- where it stands, and that it is a pointer of the cluster
      stands_as : (p : Pointer) → pointer_at l v ≡ Some p → Stands k p
      stands_as p is = by l v refl (leads_in_heap k c x g w.slot i l located).1 stands is
        where
          cell_value : (q : ObjNo) (o : Option Cell) (v : Value) → cell_of ground.cells q ≡ o → value_of o ≡ Some v → pointer_at (in_cell q) v ≡ Some p → Stands k p
          cell_value q None v f e is = absurd cc
          cell_value q (Some d) v f e is = cell_pointer k q d p f (ap (pointer_at (in_cell q)) (some_is e) ∙ is)

          by : (a : Location) (v : Value) → a ≡ l → IsShown k c x g a → value_in ground a ≡ Some v → pointer_at a v ≡ Some p → Stands k p
          by _ v same (a_slot j) e is = slot_pointer k x j v p g.among (sym (ap (λ o. slot_of o j) (stands_there k c x g)) ∙ e) is
          by _ v same (an_object q u h) e is = cell_value q (cell_of ground.cells q) v refl e is

      -- WHAT THE POINTER TELLS

      pub record Told (p : Pointer) : Type 0 where
        pub cell : Cell
        pub there : cell_of ground.cells p.object ≡ Some cell
        pub server : ℕ
        pub address : ℕ
        pub lies_it : Among (lies server address cell) (things_of k)
        pub object : cell.object ≡ p.object
        -- here it leads to the cell
        pub home : server_of p.word ≡ s.rest.number → look s.rest.partition p.word ≡ Some cell
        pub colour : colour_of p.word < k.options.colours
        -- a copy under its word is the cell, where it is no dirty reference
        pub copied : ((r : MutRef) → v ≡ value.Mut r → r.dirty ≡ true → ⊥) → (d : Cell) → hit s.rest.cache p.word ≡ Some d → d ≡ cell
        -- under the next colour there is no copy
        pub new : is_cached s.rest.cache (next_word p.word) ≡ false

      shown_cell : (o : ObjNo) → IsShown k c x g (in_cell o) → (d : Cell) × (cell_of ground.cells o ≡ Some d)
      shown_cell _ (an_object o u h) = by (Rattle.law_counts_sums.specs.Below.coherent_memory.OneHeap.object_value (sight k) o) refl h
        where
          by : (p : Option Rattle.law_counts_sums.specs.Below.fr_base.declared.label.Plain.Plain) → Rattle.law_counts_sums.specs.Below.coherent_memory.OneHeap.object_value (sight k) o ≡ p → Rattle.law_words_paths.specs.Below.fr_sound.Seen.seen_cell c.types.typing.gives p ≡ Some u → (d : Cell) × (cell_of ground.cells o ≡ Some d)
          by None q f = absurd cc
          by (Some p) q f = let r = object_shown (sight k) o p q in (r.0, r.1)

      at_none : (p : Pointer) → pointer_at l v ≡ Some p → (IsStale (sight k) (Some l) → ⊥) → IsStale (sight k) p.at → ⊥
      at_none p is fresh stale = by v is
        where
          go : (q : Pointer) → q.at ≡ Some l → Some q ≡ Some p → ⊥
          go q e f = fresh (subst (IsStale (sight k)) (sym (ap (λ (z : Pointer). z.at) (some_is f)) ∙ e) stale)

          none : (q : Pointer) → q.at ≡ None → Some q ≡ Some p → ⊥
          none q e f = subst (IsStale (sight k)) (sym (ap (λ (z : Pointer). z.at) (some_is f)) ∙ e) stale

          by : (v : Value) → pointer_at l v ≡ Some p → ⊥
          by (value.Own (owned.Box b)) f = go _ refl f
          by (value.Own owned.Nothing) f = absurd cc
          by (value.Own owned.Unit) f = absurd cc
          by (value.Own (owned.Int n)) f = absurd cc
          by (value.Own (owned.Mutex n)) f = absurd cc
          by (value.Own (owned.Task n)) f = absurd cc
          by (value.Shared r) f = none _ refl f
          by (value.Mut r) f = go _ refl f
          by value.Gone f = absurd cc
          by (value.SharedSlot j) f = absurd cc
          by (value.MutSlot j) f = absurd cc
          by (value.Held n) f = absurd cc

      -- a pointer that is dirty is a mutable reference there
      no_dirty : (p : Pointer) → pointer_at l v ≡ Some p → ((r : MutRef) → v ≡ value.Mut r → r.dirty ≡ true → ⊥) → (a : Location) (r : MutRef) → p.at ≡ Some a → value_in ground a ≡ Some (value.Mut r) → r.dirty ≡ true → ⊥
      no_dirty p is clean a r at_it e dirty = by v refl is
        where
          at_l : (q : Pointer) → q.at ≡ Some l → Some q ≡ Some p → a ≡ l
          at_l q f h = some_is (sym at_it ∙ ap (λ (z : Pointer). z.at) (sym (some_is h)) ∙ f)

          its_value : (u : Value) → v ≡ u → (q : Pointer) → q.at ≡ Some l → Some q ≡ Some p → u ≡ value.Mut r
          its_value u same q f h = sym same ∙ some_is (sym stands ∙ ap (value_in ground) (sym (at_l q f h)) ∙ e)

          by : (u : Value) → v ≡ u → pointer_at l u ≡ Some p → ⊥
          by (value.Own (owned.Box b)) same f = let no = its_value (value.Own (owned.Box b)) same _ refl f in absurd cc
          by (value.Own owned.Nothing) same f = absurd cc
          by (value.Own owned.Unit) same f = absurd cc
          by (value.Own (owned.Int n)) same f = absurd cc
          by (value.Own (owned.Mutex n)) same f = absurd cc
          by (value.Own (owned.Task n)) same f = absurd cc
          by (value.Shared q) same f = let no : None ≡ Some a = ap (λ (z : Pointer). z.at) (some_is f) ∙ at_it in absurd cc
          by (value.Mut q) same f = clean r (same ∙ its_value (value.Mut q) same _ refl f) dirty
          by value.Gone same f = absurd cc
          by (value.SharedSlot j) same f = absurd cc
          by (value.MutSlot j) same f = absurd cc
          by (value.Held n) same f = absurd cc

      pub told : (p : Pointer) → pointer_at l v ≡ Some p → m ≡ in_cell p.object → Untaken → Told p
      told p is e free =
          let o = p.object in
          let stale = at_none p is (fresh_there o e free) in
          let standing = stands_as p is in
          let shown = subst (IsShown k c x g) e (leads_in_heap k c x g w.slot (suc i) m next).1 in
          let d = shown_cell o shown in
          by d.0 d.1 (home_of_cell (things_of k) o d.0 d.1).0 (home_of_cell (things_of k) o d.0 d.1).1 stale standing
        where
          by : (d : Cell) → cell_of ground.cells p.object ≡ Some d → HomeOf (things_of k) d → d.object ≡ p.object → (IsStale (sight k) p.at → ⊥) → Stands k p → Told p
          by d there (lies_there r a h) object stale standing = record {
            cell = d;
            there = there;
            server = r;
            address = a;
            lies_it = h;
            object = object;
            home = λ q. leads_home k sound_there number s here p standing stale d r a h object q;
            colour = its_colour k sound_there number s here p standing stale;
            copied = λ clean f q. copy_is k c sound_there number s here p standing stale d there (no_dirty p is clean) f q;
            new = new_colour k c sound_there number s here p standing stale r a d h object;
          }
          by d there (flies_there u h) object stale standing = absurd (lands p.object e u d h object)
