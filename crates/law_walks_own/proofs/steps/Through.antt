-- A place that is followed for writing stops at the first hop that isn't passed: what the hop was at the start is what it is there, and each hop that is passed anew leads to an object here.
use Rattle.std.proofs.Common.{◌≡◌, ℕ, zero, suc, ◌+◌, ◌<◌, ◌≤◌, ◌==◌, nat_lt, Bool, true, false, [], ◌∷◌, Option, Some, None, refl, sym, ap, subst, ◌∙◌, arith}
use Rattle.std.specs.Prelude.{slice_get}
use Rattle.std.specs.Bool.{⊤}
use Rattle.std.proofs.lemmas.Bool.Decides.{nat_tests}
use Rattle.law_walks_others.specs.Below.fr_base.declared.name.ObjNo.{ObjNo}
use Rattle.law_walks_others.specs.Below.global_addr.Words.{server_of}
use Rattle.law_walks_others.specs.Below.heap_partition.declared.value.BoxPtr.{BoxPtr}
use Rattle.law_walks_others.specs.Below.heap_partition.declared.value.Cell.{Cell}
use Rattle.law_walks_others.specs.Below.thread_state.View.{ThreadState}
use Rattle.law_walks_others.specs.Below.thread_state.declared.value.Value.{Value}
use Rattle.law_walks_others.specs.Below.server_model.Servers.{Rest}
use Rattle.law_walks_others.specs.Below.server_model.Work.{Hand}
use Rattle.law_walks_others.specs.Below.server_model.Places.{Spot, in_slot, value_in, value_at, load_at, pointer_of}
use Rattle.law_walks_others.specs.Below.server_model.Prepare.{ready, requested, ask_object, write_star, write_stars}
use Rattle.law_walks_others.specs.Below.coherent_memory.Things.{Location, at_slot, at_temp, in_cell as in_object}
use Rattle.law_walks_others.specs.Below.coherent_memory.Follow.{value_of}
use Rattle.law_walks_others.specs.Below.coherent_memory.Paths.{to_write}
use Rattle.law_walks_others.proofs.Below.law_results_events.writes.Memory.{looks}
use Rattle.law_walks_others.proofs.Below.law_results_events.writes.Route.{Route, Writing, At, a_slot, a_cell, Fine, begins, all_hops}
use Rattle.law_walks_others.proofs.pointers.Steps.{less_far}
use Rattle.law_walks_own.proofs.steps.Stops.{all_written, write_stops}
use Rattle.law_walks_own.proofs.steps.WriteStars.{AsksAt, write_asks, AtHome, GoesAt, write_goes}

-- along a route, from the hand h1
module _ (r : Rest) (y : ThreadState) (C : ObjNo → Option Cell) (at : ℕ → Option Location) (d : ℕ) (route : Route r y C at d) (h1 : Hand) (rest_is : h1.work.rest ≡ r) (thread_is : h1.thread ≡ y) (slot : ℕ) (from : at 0 ≡ Some (at_slot y.number slot)) where
  abbrev tn : ℕ
  tn = y.number

  -- what stands at a location of the route at the start
  abbrev pub stood : Location → Option Value
  stood (at_slot u m) = slice_get y.slots m
  stood (at_temp u m) = None
  stood (in_object o) = value_of (C o)

  abbrev Arrived : ℕ → Hand → Spot → Type 0
  Arrived j h sp = (l : Location) × (at j ≡ Some l) × At r y C at h.work.rest.partition j sp l × Writing r y C at j h

  arrives : (j : ℕ) → j ≤ d → (h : Hand) (sp : Spot) → write_stars j 0 h1 (in_slot slot) ≡ ready h sp → Arrived j h sp
  arrives j le h sp e =
      subst (Fine r y C at ⊤ j) e (all_hops r y C at ⊤ j (less_far r y C at d j le route) (λ a less more. tt) j 0 (omega arith) h1 (in_slot slot) (at_slot tn slot) from (a_slot slot) (begins r y C at h1 rest_is thread_is))

  -- it is what stands there in the hand
  stands_still : (j : ℕ) → j ≤ d → (h : Hand) (sp : Spot) (l : Location) → at j ≡ Some l → At r y C at h.work.rest.partition j sp l → Writing r y C at j h → value_at h sp ≡ stood l
  stands_still j le h _ _ located (a_slot m) w = w.slots m (λ i lt e. route.apart j i lt le (at_slot tn m) e located)
  stands_still j le h _ _ located (a_cell u q o c leads there object behind) w = ap value_in (looks h.work.rest.partition u c leads) ∙ sym (ap value_of there)

  pub record Stops (h2 : Hand) : Type 0 where
    pub number : ℕ
    pub less : number < d
    pub location : Location
    pub located : at number ≡ Some location
    pub hand : Hand
    pub spot : Spot
    pub spotted : At r y C at hand.work.rest.partition number spot location
    pub writing : Writing r y C at number hand
    pub pointed : Value
    pub pointer : BoxPtr
    pub held : value_at hand spot ≡ Some pointed
    pub stands : stood location ≡ Some pointed
    pub points : pointer_of pointed ≡ Some pointer
    pub awaited : to_write (Some pointed) ≡ record { word = pointer.word; object = pointer.object; comes = true; by_copy = false } ∷ []
    pub elsewhere : (server_of pointer.word == r.number) ≡ false
    pub passed : h2.thread.passed ≡ number
    pub asked : h2 ≡ ask_object pointer (load_at spot hand)
    pub framed : write_stars number 0 h1 (in_slot slot) ≡ ready hand spot
    -- what is passed anew leads to an object here
    pub before : (i : ℕ) → i < number → y.passed ≤ i → (l : Location) (v : Value) → at i ≡ Some l → stood l ≡ Some v → AtHome r.number v

  zero_more : (i : ℕ) → 0 + i ≡ i
  zero_more i = omega arith

  pub stops : (h2 : Hand) → write_stars d 0 h1 (in_slot slot) ≡ requested h2 → Stops h2
  stops h2 e =
      let b = write_stops d 0 h1 (in_slot slot) h2 e in
      let j : ℕ = b.number in
      let less : j < d = b.less in
      let a = arrives j (omega (arith, less)) b.hand b.spot b.so_far in
      let asks : AsksAt j b.hand b.spot h2 = write_asks j b.hand b.spot h2 (subst (λ q. write_star q b.hand b.spot ≡ requested h2) (zero_more j) b.asks) in
      let number_is : b.hand.work.rest.number ≡ r.number = ap (λ (x : Rest). x.number) (let w = a.3 in w.rest) in record {
        number = j;
        less = less;
        location = a.0;
        located = a.1;
        hand = b.hand;
        spot = b.spot;
        spotted = a.2;
        writing = a.3;
        pointed = asks.pointed;
        pointer = asks.pointer;
        held = asks.stands;
        stands = sym (stands_still j (omega (arith, less)) b.hand b.spot a.0 a.1 a.2 a.3) ∙ asks.stands;
        points = asks.points;
        awaited = asks.awaited;
        elsewhere = subst (λ u. (server_of asks.pointer.word == u) ≡ false) number_is asks.elsewhere;
        passed = ap (λ (x : Hand). x.thread.passed) asks.asked ∙ exactly j b.hand b.spot b.so_far asks.new;
        asked = asks.asked;
        framed = b.so_far;
        before = at_home j (omega (arith, less)) b.hand b.spot b.so_far;
      }
    where
      -- as many are passed as were ready
      exactly : (j : ℕ) (h : Hand) (sp : Spot) → write_stars j 0 h1 (in_slot slot) ≡ ready h sp → nat_lt j h.thread.passed ≡ false → h.thread.passed ≡ j
      exactly zero h sp e new = let le : h.thread.passed ≤ 0 = grind (arith, nat_tests, new) in omega (arith, le)
      exactly (suc j) h sp e new =
          let le : h.thread.passed ≤ suc j = grind (arith, nat_tests, new) in
          let q = all_written (suc j) 0 h1 (in_slot slot) h sp e j (omega arith) in
          let goes : GoesAt j q.hand q.spot q.next = write_goes j q.hand q.spot q.next q.behind (subst (λ u. write_star u q.hand q.spot ≡ ready q.next q.behind) (zero_more j) q.star) in
          let same : q.next ≡ h = ready_same (sym q.one_more ∙ e) in
          let more = goes.passed in
          let same_passed = ap (λ (x : Hand). x.thread.passed) same in
          omega (arith, le, more, same_passed)
        where
          ready_same : {a c : Hand} {u w : Spot} → ready a u ≡ ready c w → a ≡ c
          ready_same f = cc

      at_home : (j : ℕ) → j ≤ d → (h : Hand) (sp : Spot) → write_stars j 0 h1 (in_slot slot) ≡ ready h sp → (i : ℕ) → i < j → y.passed ≤ i → (l : Location) (v : Value) → at i ≡ Some l → stood l ≡ Some v → AtHome r.number v
      at_home j le h sp e i lt some l v located there =
          let q = all_written j 0 h1 (in_slot slot) h sp e i lt in
          let a = arrives i (omega (arith, lt, le)) q.hand q.spot q.so_far in
          let w : Writing r y C at i q.hand = a.3 in
          let goes : GoesAt i q.hand q.spot q.next = write_goes i q.hand q.spot q.next q.behind (subst (λ u. write_star u q.hand q.spot ≡ ready q.next q.behind) (zero_more i) q.star) in
          let same_location : a.0 ≡ l = some_same (sym a.1 ∙ located) in
          let stands : stood a.0 ≡ Some goes.pointed = sym (stands_still i (omega (arith, lt, le)) q.hand q.spot a.0 a.1 a.2 w) ∙ goes.stands in
          let same : goes.pointed ≡ v = some_same (sym stands ∙ ap stood same_location ∙ there) in
          let new : nat_lt i q.hand.thread.passed ≡ false = not_yet q.hand.thread.passed (λ less. w.passed i (omega arith) less) in
          let number_is : q.hand.work.rest.number ≡ r.number = ap (λ (x : Rest). x.number) w.rest in
          subst (AtHome r.number) same (subst (λ u. AtHome u goes.pointed) number_is (goes.here new))
        where
          some_same : {X : Type 0} {a c : X} → Some a ≡ Some c → a ≡ c
          some_same f = cc

          not_yet : (p : ℕ) → (i < p → i < y.passed) → nat_lt i p ≡ false
          not_yet p f = by (nat_lt i p) refl
            where
              by : (b : Bool) → nat_lt i p ≡ b → b ≡ false
              by true q = let less : i < p = grind (arith, nat_tests, q) in let bad = f less in absurd (omega (arith, bad, some))
              by false q = refl
