-- The place of the holder of a mutable reference that a step ends: it is a route, at whose end the pointer stands that the reference was made from; and neither the
-- reference nor its object is on the way.
use Rattle.std.proofs.Common.{◌≡◌, inl, ◌≤◌, ℕ, suc, ◌-◌, nat_le, Bool, true, Option, Some, None, refl, sym, ap, subst, ◌∙◌, arith}
use Rattle.std.specs.Prelude.{slice_get}
use Rattle.std.proofs.lemmas.Bool.Decides.{nat_tests}
use Rattle.law_results_reads.specs.Below.fr_base.declared.name.ObjNo.{ObjNo}
use Rattle.law_results_reads.specs.Below.fr_base.declared.instruction.Instr.{Instr}
use Rattle.law_results_reads.specs.Below.fr_store.Keys.{Key, slot_k}
use Rattle.law_results_reads.specs.Below.fr_store.Store.{at_key, at_object, Store, Place as StorePlace, below_key}
use Rattle.law_results_reads.specs.Below.fr_store.Typed.{Exact, KeyTypes, Resolves, here, through, RefFits, Unnamed}
use Rattle.law_results_reads.proofs.Below.fr_store.Chains.{unique}
use Rattle.law_results_reads.proofs.Below.fr_store.Sound.{ref_at, sound}
use Rattle.law_results_reads.specs.Below.heap_partition.declared.value.BoxPtr.{BoxPtr}
use Rattle.law_results_reads.specs.Below.heap_partition.declared.value.Cell.{Cell}
use Rattle.law_results_reads.specs.Below.heap_partition.declared.value.Owned.{Owned}
use Rattle.law_results_reads.specs.Below.heap_partition.declared.value.Owned.TheVariants as owned
use Rattle.law_results_reads.specs.Below.mut_borrow.declared.mutable.MutRef.{MutRef}
use Rattle.law_results_reads.specs.Below.thread_state.View.{ThreadState}
use Rattle.law_results_reads.specs.Below.thread_state.declared.value.Value.{Value}
use Rattle.law_results_reads.specs.Below.thread_state.declared.value.Value.TheVariants as value
use Rattle.law_results_reads.specs.Below.server_model.Servers.{Server, Cluster}
use Rattle.law_results_reads.specs.Below.server_model.Places.{with_word}
use Rattle.law_results_reads.specs.Below.coherent_memory.Names.{tot, Among}
use Rattle.law_results_reads.specs.Below.coherent_memory.Things.{Location, at_slot, at_temp, in_cell as in_object, borrows, things_of}
use Rattle.law_results_reads.specs.Below.coherent_memory.Follow.{Standing, Ground, cell_of, value_in, value_of, slot_of, leads, locate}
use Rattle.law_results_reads.specs.Below.coherent_memory.Naming.{most_stars, long_holder}
use Rattle.law_results_reads.specs.Below.coherent_memory.Paths.{ends, written_place}
use Rattle.law_results_reads.specs.Below.coherent_memory.Sight.{sight}
use Rattle.law_results_reads.specs.Below.coherent_memory.Walking.{path}
use Rattle.law_results_reads.proofs.Below.coherent_memory.Words.{none_at}
use Rattle.law_results_reads.proofs.Below.law_counts_sums.Askers.{other_none}
use Rattle.law_results_reads.specs.Below.law_words_paths.paths.HeapStore.{heap_store, GoesOn, IsUnmarked, HasPaths}
use Rattle.law_results_reads.proofs.Below.law_words_paths.paths.Alike.{leads_in_heap, IsShown, a_slot, an_object, lead_alike, mark_unnamed}
use Rattle.law_results_reads.proofs.Below.law_words_paths.paths.Circles.{shorter, Shorter}
use Rattle.law_results_reads.proofs.Below.law_words_paths.paths.Climbs.{one_location, ref_is}
use Rattle.law_results_reads.proofs.Below.law_words_paths.paths.FreshPaths.{MutThere}
use Rattle.law_results_reads.proofs.Below.law_words_paths.paths.Shown.{stands_there}
use Rattle.law_results_reads.proofs.Below.law_words_paths.paths.Sole.{some_is}
use Rattle.law_words_kept.proofs.Below.law_words_paths.words.Standing.{slot_among, temp_among}
use Rattle.law_words_kept.proofs.ends.Alone.{holder_stars}
use Rattle.law_words_kept.proofs.ends.Ends.{EndsAt}
use Rattle.law_results_reads.proofs.Known.{Steps, standing, paths, goes}
use Rattle.law_results_reads.proofs.Followed.{hop_from}
use Rattle.law_results_reads.proofs.Mutables.{apart, not_shared}
use Rattle.law_results_events.proofs.writes.Route.{Route}
use Rattle.law_results_events.proofs.writes.StepRoutes.{its_route}

-- who comes to a key that no type names began there
not_reached : (E : KeyTypes) (only : Bool) (k : Key) (d : ℕ) (b : Key) (n : ℕ) (p : Exact) → Unnamed E b → Resolves E only k d b n p → k ≡ b
not_reached E only k d _ _ p free (here e) = refl
not_reached E only k d b n p free (through m u e is o de r) = absurd (free k m u is (not_reached E only u.key _ b n p free r))

-- a pointer that takes a word
abbrev pub TakesWord : Value → Type 0
TakesWord v = (w : ℕ) → (u : Value) × (with_word w v ≡ Some u)

module _ (k : Cluster) (n t : ℕ) (s : Server) (y : ThreadState) (i : Instr) (z : Steps k n t s y i) (r : MutRef) (is : path (sight k) (standing k n t s y i z) ≡ ends r) (it : EndsAt k (paths k n t s y i z) (standing k n t s y i z) (goes k n t s y i z) r) where
  abbrev x : Standing
  x = standing k n t s y i z

  abbrev c : HasPaths k
  c = paths k n t s y i z

  abbrev on : GoesOn k x
  on = goes k n t s y i z

  abbrev g : Ground
  g = (sight k).ground

  abbrev tn : ℕ
  tn = y.number

  abbrev st : Store
  st = heap_store k c.types

  abbrev E : KeyTypes
  E = c.types.typing.exact

  abbrev slot : ℕ
  slot = r.holder.slot

  abbrev depth : ℕ
  depth = r.holder.depth

  abbrev pub C : ObjNo → Option Cell
  C = cell_of g.cells

  abbrev pub at : ℕ → Option Location
  at = locate g tn slot

  abbrev m : MutThere k c x it.at r
  m = it.there

  abbrev u : StorePlace
  u = record { key = slot_k tn m.place.slot; depth = m.place.depth }

  f : RefFits E st true u (st.at m.key)
  f = ref_at c.types.typing.rank E st c.types.state.typed m.key true u m.exact

  target : f.target ≡ at_object r.object
  target = ref_is (sym f.is ∙ m.shown)

  -- the place with one star more leads to the object
  more : Resolves E true (slot_k tn slot) (suc depth) f.base f.boxes f.type
  more =
      let h = holder_stars k c x on r is it in
      subst (λ q. Resolves E true (slot_k tn q) (suc depth) f.base f.boxes f.type) (sym h.2) (subst (λ q. Resolves E true u.key q f.base f.boxes f.type) (h.1 ∙ ap suc (sym h.3)) f.res)

  less : Shorter E true (slot_k tn slot) depth
  less = shorter E true (slot_k tn slot) 1 (suc depth) depth f.base f.boxes f.type (omega arith) more

  unmarked : IsUnmarked x slot
  unmarked b there =
      let h = holder_stars k c x on r is it in
      mark_unnamed k c x on m.place.slot b (subst (λ q. slice_get y.slots q ≡ Some (value.Held b)) h.2 there) m.key true u m.exact refl

  writes : written_place (path (sight k) x) ≡ Some r.holder
  writes = ap written_place is

  -- it is among the things
  its_thing : Among (borrows it.at r) (things_of k)
  its_thing = by it.at it.stands
    where
      cell_value : (o : Option Cell) → value_of o ≡ Some (value.Mut r) → ⊥
      cell_value None e = cc e
      cell_value (Some d) e = cc e

      by : (l : Location) → value_in g l ≡ Some (value.Mut r) → Among (borrows l r) (things_of k)
      by (at_slot a b) e = slot_among k a b (value.Mut r) e (borrows (at_slot a b) r) (λ q. inl refl)
      by (at_temp a b) e = temp_among k a b (value.Mut r) e (borrows (at_temp a b) r) (λ q. inl refl)
      by (in_object o) e = absurd (cell_value (C o) e)

  pub short_holder : depth ≤ 8
  short_holder =
      let all : tot long_holder (things_of k) ≡ 0 = z.coherent.sound.parts.holders_short in
      let test : nat_le depth most_stars ≡ true = other_none (nat_le depth most_stars) (none_at long_holder (borrows it.at r) (things_of k) all its_thing) in
      grind (arith, nat_tests, test)

  pub route : Route s.rest y C at depth
  route = its_route k n t s y i z r.holder writes short_holder less.base less.boxes less.type less.res unmarked

  pub to_object : at (suc depth) ≡ Some (in_object r.object)
  to_object =
      let q = lead_alike.in_cluster k c x (record { slot = slot; depth = suc depth }) true f.base f.boxes f.type on unmarked more in
      let heap = (leads_in_heap k c x on slot (suc depth) q.0 q.1).0 in
      let below_it = sound c.types.typing.rank E st c.types.state.typed true (slot_k tn slot) (suc depth) f.base f.boxes f.type more ∙ f.leads ∙ ap Some target in
      q.1 ∙ ap Some (one_location q.0 (in_object r.object) (some_is (sym heap ∙ below_it)))

  -- its object isn't on the way
  pub object_away : (j : ℕ) → j ≤ depth → at j ≡ Some (in_object r.object) → ⊥
  object_away j le e = apart k c x on slot (suc depth) f.base f.boxes f.type more j (suc depth) (omega (arith, le)) (omega arith) (in_object r.object) e to_object

  -- nor is the slot in which it stands
  pub slot_away : (b j : ℕ) → it.at ≡ at_slot tn b → j ≤ depth → at j ≡ Some (at_slot tn b) → ⊥
  slot_away b j here_it le e =
      let h = holder_stars k c x on r is it in
      let q = shorter E true (slot_k tn slot) (suc depth - j) (suc depth) j f.base f.boxes f.type (omega (arith, le)) more in
      let heap = (leads_in_heap k c x on slot j (at_slot tn b) e).0 in
      let below_it : below_key st q.base q.boxes ≡ Some (at_key (slot_k tn b)) = sym (sound c.types.typing.rank E st c.types.state.typed true (slot_k tn slot) j q.base q.boxes q.type q.res) ∙ heap in
      let one = unique st c.types.state.typed.owner q.base (slot_k tn b) q.boxes 0 (at_key (slot_k tn b)) below_it refl in
      let key : slot_k tn b ≡ m.key = keys (ap Rattle.law_results_reads.specs.Below.law_words_paths.paths.HeapStore.in_store (sym here_it) ∙ m.is) in
      let free : Unnamed E q.base = subst (Unnamed E) (sym (one.0 ∙ key)) it.free in
      let began : slot_k tn slot ≡ q.base = not_reached E true (slot_k tn slot) j q.base q.boxes q.type free q.res in
      it.free m.key true u m.exact (ap (slot_k tn) (sym h.2) ∙ began ∙ one.0 ∙ key)
    where
      keys : {a b : Key} → at_key a ≡ at_key b → a ≡ b
      keys e = cc

  -- WHAT STANDS AT THE END OF THE PLACE

  pub data Last : Location → Type 0 where
    last_slot : (j : ℕ) (v : Value) → slice_get y.slots j ≡ Some v → TakesWord v → Last (at_slot tn j)
    last_cell : (o : ObjNo) (d : Cell) (p : BoxPtr) → C o ≡ Some d → d.value ≡ owned.Box p → Last (in_object o)

  pub last_there : (l : Location) → at depth ≡ Some l → Last l
  last_there l located =
      let e = hop_from g tn slot depth l (in_object r.object) located to_object in
      by l refl (leads_in_heap k c x on slot depth l located).1 e.0 e.1 e.2
    where
      in_slot_there : (b : ℕ) (v : Value) → l ≡ at_slot tn b → value_in g (at_slot tn b) ≡ Some v → slice_get y.slots b ≡ Some v → leads tn (Some v) ≡ Some (in_object r.object) → Last (at_slot tn b)
      in_slot_there b (value.Own (owned.Box p)) here_it stands there e = last_slot b (value.Own (owned.Box p)) there (λ w. (_, refl))
      in_slot_there b (value.Mut q) here_it stands there e = last_slot b (value.Mut q) there (λ w. (_, refl))
      in_slot_there b (value.Shared q) here_it stands there e = absurd (not_shared k c x on slot (suc depth) f.base f.boxes f.type more depth (omega arith) b q (located ∙ ap Some here_it) stands)
      in_slot_there b (value.MutSlot a) here_it stands there e = absurd (cc e)
      in_slot_there b (value.SharedSlot a) here_it stands there e = absurd (cc e)
      in_slot_there b (value.Own owned.Nothing) here_it stands there e = absurd (cc e)
      in_slot_there b (value.Own owned.Unit) here_it stands there e = absurd (cc e)
      in_slot_there b (value.Own (owned.Int a)) here_it stands there e = absurd (cc e)
      in_slot_there b (value.Own (owned.Mutex a)) here_it stands there e = absurd (cc e)
      in_slot_there b (value.Own (owned.Task a)) here_it stands there e = absurd (cc e)
      in_slot_there b value.Gone here_it stands there e = absurd (cc e)
      in_slot_there b (value.Held a) here_it stands there e = absurd (cc e)

      in_cell_there : (o : ObjNo) (d : Cell) → C o ≡ Some d → (v : Owned) → d.value ≡ v → leads tn (Some (value.Own v)) ≡ Some (in_object r.object) → Last (in_object o)
      in_cell_there o d has (owned.Box p) same e = last_cell o d p has same
      in_cell_there o d has owned.Nothing same e = absurd (cc e)
      in_cell_there o d has owned.Unit same e = absurd (cc e)
      in_cell_there o d has (owned.Int a) same e = absurd (cc e)
      in_cell_there o d has (owned.Mutex a) same e = absurd (cc e)
      in_cell_there o d has (owned.Task a) same e = absurd (cc e)

      cell_end : (o : ObjNo) (q : Option Cell) (v : Value) → C o ≡ q → value_of q ≡ Some v → leads tn (Some v) ≡ Some (in_object r.object) → Last (in_object o)
      cell_end o None v has stands e = absurd (cc stands)
      cell_end o (Some d) v has stands e = in_cell_there o d has d.value refl (ap (leads tn) stands ∙ e)

      by : (a : Location) → l ≡ a → IsShown k c x on a → (v : Value) → value_in g l ≡ Some v → leads tn (Some v) ≡ Some (in_object r.object) → Last l
      by _ e (a_slot b) v stands leads_on =
          let at_it : value_in g (at_slot tn b) ≡ Some v = ap (value_in g) (sym e) ∙ stands in
          subst Last (sym e) (in_slot_there b v e at_it (sym (ap (λ o. slot_of o b) (stands_there k c x on)) ∙ at_it) leads_on)
      by _ e (an_object o a h) v stands leads_on = subst Last (sym e) (cell_end o (C o) v refl (ap (value_in g) (sym e) ∙ stands) leads_on)
