-- The mutex to which a thread's place leads is in the state.
use Rattle.std.proofs.Common.{◌≡◌, inl, inr, ℕ, zero, suc, ◌+◌, ◌≤◌, Bool, true, false, List, [], ◌∷◌, Option, Some, None, refl, sym, ap, ◌∙◌, subst, arith}
use Rattle.std.specs.Prelude.{slice_get}
use Rattle.law_heap_steps.specs.Below.fr_base.declared.name.MutexNo.{MutexNo}
use Rattle.law_heap_steps.specs.Below.fr_base.declared.name.ObjNo.{ObjNo}
use Rattle.law_heap_steps.specs.Below.fr_base.declared.label.Plain.{Plain}
use Rattle.law_heap_steps.specs.Below.fr_base.declared.instruction.Instr.{Instr}
use Rattle.law_heap_steps.specs.Below.fr_plain.MachineThreads.{Shared}
use Rattle.law_heap_still.specs.Below.fr_sound.Seen.{seen_cell}
use Rattle.law_heap_steps.specs.Below.heap_partition.declared.value.Cell.{Cell}
use Rattle.law_heap_steps.specs.Below.heap_partition.declared.value.Owned.TheVariants as owned
use Rattle.law_heap_steps.specs.Below.thread_state.View.{ThreadState}
use Rattle.law_heap_steps.specs.Below.thread_state.declared.value.Value.{Value}
use Rattle.law_heap_steps.specs.Below.thread_state.declared.value.Value.TheVariants as value
use Rattle.law_heap_steps.specs.Below.server_model.declared.event.Event.{Event}
use Rattle.law_heap_steps.specs.Below.server_model.Servers.{Server, Cluster}
use Rattle.law_heap_steps.specs.Below.coherent_memory.Names.{one, some, same_mutex, Among}
use Rattle.law_heap_steps.specs.Below.coherent_memory.Things.{Location, Thing, things_of}
use Rattle.law_heap_steps.specs.Below.coherent_memory.Follow.{Standing, cell_of, slot_of, value_of, value_in, locate}
use Rattle.law_heap_steps.specs.Below.coherent_memory.Sight.{Sight, sight}
use Rattle.law_heap_steps.specs.Below.coherent_memory.Requests.{is_par_end}
use Rattle.law_heap_steps.specs.Below.coherent_memory.OneHeap.{Node, object_n, mutex_n, inside, owner_of, names, owns, named_in, any_named, is_in_state, if_in, cell_value, first_shown, object_value, if_there}
use Rattle.law_heap_still.specs.Below.coherent_types.ClusterTypes.{IsCoherent}
use Rattle.law_heap_still.specs.Below.law_words_paths.paths.HeapStore.{HasPaths}
use Rattle.law_heap_still.proofs.Below.law_words_paths.paths.Alike.{IsShown, a_slot, an_object, coherent_has_paths}
use Rattle.law_heap_still.proofs.Below.law_words_paths.paths.Shown.{stands_there}
use Rattle.law_heap_steps.proofs.Below.law_words_paths.words.Standing.{CellOf, lying, flying, InCell, cell_among}
use Rattle.law_plain_values.proofs.acts.Mutexes.{mutex_cases}
use Rattle.law_heap_steps.proofs.turns.Parts.{value_owns, owned_in}
use Rattle.law_heap_steps.proofs.turns.Events.{AtStep}
use Rattle.law_heap_steps.proofs.turns.StarLines.{x as standing, goes}
use Rattle.law_heap_steps.proofs.turns.PlainReads.{shown_there}
use Rattle.law_heap_steps.proofs.mutexes.Reach.{or_left, or_right, closes, here}
use Rattle.law_heap_steps.proofs.mutexes.Beside.{mine, any_mine}
use Rattle.law_heap_steps.proofs.mutexes.Changed.{state_before}
use Rattle.law_heap_steps.proofs.mutexes.ThreadTurns.{G, R, before}

some_is : {A : Type 0} {a b : A} → Some a ≡ Some b → a ≡ b
some_is e = cc

any_among : (s : Sight) (f : Node → Bool) (q : Node) (th : Thing) (xs : List Thing) → Among th xs → named_in (names q th) f (owner_of s th) ≡ true → any_named s f q xs ≡ true
any_among s f q th [] h n = absurd h
any_among s f q th (x ∷ xs) (inl e) n =
    or_left (named_in (names q x) f (owner_of s x)) (any_named s f q xs) (subst (λ z. named_in (names q z) f (owner_of s z) ≡ true) (sym e) n)
any_among s f q th (x ∷ xs) (inr h) n = or_right (named_in (names q x) f (owner_of s x)) (any_named s f q xs) (any_among s f q th xs h n)

pub itself_named : (m : MutexNo) → same_mutex m m ≡ true
itself_named m = mutex_cases (λ b. b ≡ true) m m (λ _. refl) (λ ne. absurd (ne refl))

pub slot_owned : (q : Node) (vs : List Value) (i : ℕ) (v : Value) → slice_get vs i ≡ Some v → one (value_owns q v) ≤ owned_in q vs
slot_owned q [] i v e = absurd (cc e)
slot_owned q (x ∷ xs) zero v e = let same : x ≡ v = some_is e in omega (arith, ap (λ w. one (value_owns q w)) same)
slot_owned q (x ∷ xs) (suc i) v e = omega (arith, slot_owned q xs i v e)

shown_in : (s : Sight) (o : ObjNo) (p : Plain) → object_value s o ≡ Some p → is_in_state s (object_n o) ≡ true
shown_in s o p e = by (is_in_state s (object_n o)) (first_shown (cell_value o) s.things) e
  where
    by : (b : Bool) (v : Option Plain) → if_in b v ≡ Some p → b ≡ true
    by true v d = refl
    by false v d = absurd (cc d)

cell_names : (s : Sight) (c : Cell) (th : Thing) (m : MutexNo) → CellOf c th → c.value ≡ owned.Mutex m → is_in_state s (object_n c.object) ≡ true → named_in (names (mutex_n m) th) (is_in_state s) (owner_of s th) ≡ true
cell_names s c _ m (lying r a) e i = ap (λ b. named_in b (is_in_state s) (inside (object_n c.object))) (ap (owns (mutex_n m)) e ∙ itself_named m) ∙ i
cell_names s c _ m (flying w) e i = ap (λ b. named_in b (is_in_state s) (inside (object_n c.object))) (ap (owns (mutex_n m)) e ∙ itself_named m) ∙ i

-- where the state is the same, so is who is in it
pub there_too : (p q : Bool) (x y : Shared) → if_there p x ≡ if_there q y → q ≡ true → p ≡ true
there_too true q x y e f = refl
there_too false true x y e f = absurd (cc e)
there_too false false x y e f = f

module _ (k : Cluster) (co : IsCoherent k) (e : Event) (i : Instr) (single : is_par_end (Some i) ≡ false) (s : Server) (t : ℕ) (y : ThreadState) (at : AtStep k e i s t y) where
  abbrev c : HasPaths k
  c = coherent_has_paths k co

  abbrev X : Standing
  X = standing k co e i s t y at

  abbrev s1 : Sight
  s1 = before k co.sound e i single s t y at

  abbrev Shown : Location → Type 0
  Shown = IsShown k c X (goes k co e i s t y at)

  by_slots : (m : MutexNo) (j : ℕ) → slice_get y.slots j ≡ Some (value.Own (owned.Mutex m)) → is_in_state s1 (mutex_n m) ≡ true
  by_slots m j e1 =
      let q = mutex_n m in
      let g1 = G k co.sound e i single s t y at in
      let l = slot_owned q y.slots j (value.Own (owned.Mutex m)) e1 in
      here k (mine s.rest.number y g1) (R k co.sound e i single s t y at) q
      (any_mine s.rest.number y g1 s1 (is_in_state s1) q ∙ or_right (any_named s1 (is_in_state s1) q g1) (some (owned_in q y.slots + owned_in q y.temps)) (more (owned_in q y.slots + owned_in q y.temps) (omega (arith, l, ap one (itself_named m)))))
    where
      more : (u : ℕ) → 1 ≤ u → some u ≡ true
      more zero l = absurd (omega (arith, l))
      more (suc u) l = refl

  by_cell : (m : MutexNo) (o : ObjNo) (d : Cell) → cell_of (sight k).ground.cells o ≡ Some d → d.value ≡ owned.Mutex m → is_in_state (sight k) (object_n o) ≡ true → is_in_state s1 (mutex_n m) ≡ true
  by_cell m o d f g inner =
      let j : InCell o d (things_of k) = cell_among o d (things_of k) f in
      let there = closes (sight k) (mutex_n m) (any_among (sight k) (is_in_state (sight k)) (mutex_n m) j.thing (things_of k) j.among (cell_names (sight k) d j.thing m j.is g (subst (λ v. is_in_state (sight k) (object_n v) ≡ true) (sym j.object) inner))) in
      there_too (is_in_state s1 (mutex_n m)) (is_in_state (sight k) (mutex_n m)) _ _ ((state_before k co.sound e s at.here t y at.at at.number).mutexes m) there

  by_location : (m : MutexNo) (l : Location) → Shown l → value_in (sight k).ground l ≡ Some (value.Own (owned.Mutex m)) → is_in_state s1 (mutex_n m) ≡ true
  by_location m _ (a_slot j) f = by_slots m j (sym (ap (λ o. slot_of o j) (stands_there k c X (goes k co e i s t y at))) ∙ f)
  by_location m _ (an_object o v h) f = in_cell_by (cell_of (sight k).ground.cells o) refl f
    where
      inner : (p : Option Plain) → object_value (sight k) o ≡ p → seen_cell c.types.typing.gives p ≡ Some v → is_in_state (sight k) (object_n o) ≡ true
      inner None q d = absurd (cc d)
      inner (Some p) q d = shown_in (sight k) o p q

      of_cell : (d : Cell) → cell_of (sight k).ground.cells o ≡ Some d → value.Own d.value ≡ value.Own (owned.Mutex m) → is_in_state s1 (mutex_n m) ≡ true
      of_cell d q f = let same : d.value ≡ owned.Mutex m = cc in by_cell m o d q same (inner (object_value (sight k) o) refl h)

      in_cell_by : (z : Option Cell) → cell_of (sight k).ground.cells o ≡ z → value_of z ≡ Some (value.Own (owned.Mutex m)) → is_in_state s1 (mutex_n m) ≡ true
      in_cell_by None q f = absurd (cc f)
      in_cell_by (Some d) q f = of_cell d q (some_is f)

  -- the mutex at a place
  pub place_in : (m : MutexNo) (slot d : ℕ) (l : Location) → locate (sight k).ground y.number slot d ≡ Some l → value_in (sight k).ground l ≡ Some (value.Own (owned.Mutex m)) → is_in_state s1 (mutex_n m) ≡ true
  place_in m slot d l p f = by_location m l (shown_there k co X (goes k co e i s t y at) slot d l p) f
