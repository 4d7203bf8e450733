-- What the thread has passed for its write after its own step that asks for something lies at its server.
use Rattle.std.proofs.Common.{◌≡◌, ℕ, zero, suc, ◌<◌, ◌≤◌, ◌==◌, ◌&&◌, nat_lt, Bool, true, false, Option, Some, None, option_map, refl, sym, ap, subst, ◌∙◌, arith}
use Rattle.std.specs.Prelude.{slice_get}
use Rattle.std.specs.Bool.{⊤}
use Rattle.std.proofs.lemmas.Bool.Decides.{nat_tests}
use Rattle.law_walks_others.specs.Below.fr_base.declared.name.ObjNo.{ObjNo}
use Rattle.law_walks_others.specs.Below.fr_base.declared.place.Lval.{Lval}
use Rattle.law_walks_others.specs.Below.global_addr.Words.{server_of}
use Rattle.law_walks_others.specs.Below.heap_partition.declared.value.BoxPtr.{BoxPtr}
use Rattle.law_walks_others.specs.Below.heap_partition.declared.value.Cell.{Cell}
use Rattle.law_walks_others.specs.Below.heap_partition.declared.value.Owned.{Owned}
use Rattle.law_walks_others.specs.Below.heap_partition.declared.value.Owned.TheVariants as owned
use Rattle.law_walks_others.specs.Below.thread_state.View.{ThreadState}
use Rattle.law_walks_others.specs.Below.thread_state.declared.value.Value.{Value}
use Rattle.law_walks_others.specs.Below.thread_state.declared.value.Value.TheVariants as value
use Rattle.law_walks_others.specs.Below.journal.View.{EntryView}
use Rattle.law_walks_others.specs.Below.server_model.Servers.{Server, Cluster}
use Rattle.law_walks_others.specs.Below.server_model.Work.{Hand}
use Rattle.law_walks_others.specs.Below.server_model.Prepare.{requested, access_of, prepare}
use Rattle.law_walks_others.specs.Below.server_model.Events.{Stepped, begin_work, wait_step}
use Rattle.law_walks_others.specs.Below.fr_base.Names.{same_object}
use Rattle.law_walks_others.specs.Below.coherent_memory.Names.{tot, one, other, some, Among}
use Rattle.law_walks_others.specs.Below.coherent_memory.Things.{Location, at_slot, in_cell, lies, things_of}
use Rattle.law_walks_others.specs.Below.coherent_memory.Follow.{Standing, Ground, thread_at, cell_of, value_of, value_in, value_behind, slot_of, leads, locate}
use Rattle.law_walks_others.specs.Below.coherent_memory.Paths.{written_place}
use Rattle.law_walks_others.specs.Below.coherent_memory.Passing.{MayPass, over_box, over_reference, to_slot, to_lent_slot, IsPassed}
use Rattle.law_walks_others.specs.Below.coherent_memory.Sight.{sight}
use Rattle.law_walks_others.specs.Below.coherent_memory.Weights.{lies_at}
use Rattle.law_walks_others.specs.Below.coherent_memory.Walking.{path, over_hops, away}
use Rattle.law_walks_others.proofs.Below.coherent_memory.Passing.{paths_law}
use Rattle.law_walks_others.proofs.Below.coherent_memory.Words.{itself}
use Rattle.law_walks_others.specs.Below.law_words_paths.paths.HeapStore.{GoesOn, HasPaths}
use Rattle.law_walks_others.proofs.Below.law_words_paths.paths.Alike.{IsShown, a_slot, an_object, leads_in_heap}
use Rattle.law_walks_others.proofs.Below.law_words_paths.paths.Shown.{stands_there}
use Rattle.law_walks_others.proofs.Below.law_words_paths.paths.Sole.{some_is}
use Rattle.law_words_ends.specs.Below.law_words_paths.words.Reworded.{HasPlaces}
use Rattle.law_walks_others.proofs.Below.law_counts_sums.Bags.{thread_number}
use Rattle.law_walks_others.specs.Below.law_heap_still.events.Shows.{frame_of}
use Rattle.law_words_ends.proofs.Below.law_words_kept.ends.Lying.{written_lie_there}
use Rattle.law_words_ends.specs.Below.law_words_kept.reads.Reading.{LiesUnder}
use Rattle.law_walks_others.proofs.Below.law_results_reads.Known.{Steps, standing, paths, goes}
use Rattle.law_walks_others.proofs.Below.law_results_reads.Followed.{hop_from}
use Rattle.law_walks_others.proofs.Below.law_counts_waiting.waits.Found.{among_weighs}
use Rattle.law_walks_others.specs.Below.law_counts_waiting.waits.Places.{LeadsAsItDid}
use Rattle.law_walks_others.proofs.Below.law_results_events.writes.StepRoutes.{awake}
use Rattle.law_walks_own.proofs.steps.Own.{Own, slot_is}
use Rattle.law_walks_own.proofs.steps.Kept.{still_lies}
use Rattle.law_walks_own.proofs.steps.WriteStars.{AtHome}

both : (p q : Bool) → p ≡ true → q ≡ true → (p && q) ≡ true
both true q a b = b
both false q a b = absurd (cc a)

-- a value that leads to an object at that server, or to a slot
abbrev Object : ℕ → Cluster → Value → Type 0
Object r k (value.Own (owned.Box p)) = 1 ≤ tot (lies_at r p.object) (things_of k)
Object r k (value.Mut q) = 1 ≤ tot (lies_at r q.object) (things_of k)
Object r k (value.SharedSlot i) = ⊤
Object r k (value.MutSlot i) = ⊤
Object r k v = ⊥

one_some : (m : ℕ) → 1 ≤ m → other (some m) ≡ 0
one_some zero l = absurd (omega (arith, l))
one_some (suc m) l = refl

not_away : (r : ℕ) (c : Cluster) (l : Option Location) (v : Value) → Object r c v → away (sight c) r l (Some v) ≡ 0
not_away r c l (value.Own (owned.Box p)) o = one_some (tot (lies_at r p.object) (things_of c)) o
not_away r c l (value.Mut q) o = one_some (tot (lies_at r q.object) (things_of c)) o
not_away r c l (value.SharedSlot i) o = refl
not_away r c l (value.MutSlot i) o = refl
not_away r c l value.Gone o = absurd o
not_away r c l (value.Own owned.Nothing) o = absurd o
not_away r c l (value.Own owned.Unit) o = absurd o
not_away r c l (value.Own (owned.Int i)) o = absurd o
not_away r c l (value.Own (owned.Mutex i)) o = absurd o
not_away r c l (value.Own (owned.Task i)) o = absurd o
not_away r c l (value.Shared q) o = absurd o
not_away r c l (value.Held i) o = absurd o

-- an owned value that leads to an object is a box of it
box_there : (r : ℕ) (c : Cluster) (t : ℕ) (o : Option Value) (q : ObjNo) (l : Option Location) → ((v : Value) → o ≡ Some v → (u : Owned) × (v ≡ value.Own u)) → leads t o ≡ Some (in_cell q) → 1 ≤ tot (lies_at r q) (things_of c) → away (sight c) r l o ≡ 0
box_there r c t None q l own e z = absurd (cc e)
box_there r c t (Some v) q l own e z = let u = own v refl in by v u.0 u.1 e
  where
    by : (v : Value) (u : Owned) → v ≡ value.Own u → leads t (Some v) ≡ Some (in_cell q) → away (sight c) r l (Some v) ≡ 0
    by (value.Own (owned.Box p)) u f g = let same : p.object ≡ q = cc in one_some (tot (lies_at r p.object) (things_of c)) (subst (λ a. 1 ≤ tot (lies_at r a) (things_of c)) (sym same) z)
    by (value.Own owned.Nothing) u f g = absurd (cc g)
    by (value.Own owned.Unit) u f g = absurd (cc g)
    by (value.Own (owned.Int i)) u f g = absurd (cc g)
    by (value.Own (owned.Mutex i)) u f g = absurd (cc g)
    by (value.Own (owned.Task i)) u f g = absurd (cc g)
    by value.Gone u f g = absurd (cc f)
    by (value.SharedSlot i) u f g = absurd (cc f)
    by (value.MutSlot i) u f g = absurd (cc f)
    by (value.Shared i) u f g = absurd (cc f)
    by (value.Mut i) u f g = absurd (cc f)
    by (value.Held i) u f g = absurd (cc f)

-- a value of the same frame leads to the same object
framed_so : (r : ℕ) (k c : Cluster) (u v : Value) → frame_of u ≡ frame_of v → ((q : ObjNo) → 1 ≤ tot (lies_at r q) (things_of k) → 1 ≤ tot (lies_at r q) (things_of c)) → Object r k v → Object r c u
framed_so r k c (value.Own (owned.Box p)) (value.Own (owned.Box q)) e f o = let same : p.object ≡ q.object = cc in subst (λ a. 1 ≤ tot (lies_at r a) (things_of c)) (sym same) (f q.object o)
framed_so r k c (value.Mut p) (value.Mut q) e f o = let same : p.object ≡ q.object = cc in subst (λ a. 1 ≤ tot (lies_at r a) (things_of c)) (sym same) (f q.object o)
framed_so r k c (value.SharedSlot i) v e f o = tt
framed_so r k c (value.MutSlot i) v e f o = tt
framed_so r k c u value.Gone e f o = absurd o
framed_so r k c u (value.Shared q) e f o = absurd o
framed_so r k c u (value.Held i) e f o = absurd o
framed_so r k c u (value.Own owned.Nothing) e f o = absurd o
framed_so r k c u (value.Own owned.Unit) e f o = absurd o
framed_so r k c u (value.Own (owned.Int i)) e f o = absurd o
framed_so r k c u (value.Own (owned.Mutex i)) e f o = absurd o
framed_so r k c u (value.Own (owned.Task i)) e f o = absurd o
framed_so r k c u v e f o = absurd (cc e)

-- WHAT IS PASSED

-- what is known of the hops that a write has passed, in the hand that asked for something: at its own slots the frames are what they were, and each hop that is passed anew leads to an object here
pub record Walked (k : Cluster) (n t : ℕ) (s : Server) (y : ThreadState) (w : Lval) (h : Hand) : Type 0 where
  pub within : h.thread.passed ≤ w.depth
  pub framed : (i j : ℕ) → i < h.thread.passed → locate (sight k).ground y.number w.slot i ≡ Some (at_slot y.number j) → option_map frame_of (slice_get h.thread.slots j) ≡ option_map frame_of (slice_get y.slots j)
  pub homes : (i : ℕ) → i < h.thread.passed → y.passed ≤ i → (l : Location) (v : Value) → locate (sight k).ground y.number w.slot i ≡ Some l → value_in (sight k).ground l ≡ Some v → AtHome s.rest.number v

module _ (k c : Cluster) (v : EntryView) (t : ℕ) (o : Own k c v t) (after : HasPlaces c) (h : Hand) (asked : prepare (access_of o.instruction o.thread) (record { work = begin_work o.server.rest; thread = o.thread }) ≡ requested h) (is : o.result ≡ wait_step h)
    (w : Lval) (writes : written_place (path (sight k) (standing k o.number t o.server o.thread o.instruction o.steps)) ≡ Some w) (leads_so : LeadsAsItDid k c o.thread.number w)
    (there : (i : ℕ) → i ≤ w.depth → (l : Location) × (locate (sight k).ground o.thread.number w.slot i ≡ Some l)) (walked : Walked k o.number t o.server o.thread w h) where
  abbrev n : ℕ
  n = o.number

  abbrev s : Server
  s = o.server

  abbrev y : ThreadState
  y = o.thread

  abbrev z : Steps k n t s y o.instruction
  z = o.steps

  abbrev m : ℕ
  m = s.rest.number

  abbrev tn : ℕ
  tn = y.number

  abbrev x : Standing
  x = standing k n t s y o.instruction z

  abbrev p : HasPaths k
  p = paths k n t s y o.instruction z

  abbrev on : GoesOn k x
  on = goes k n t s y o.instruction z

  abbrev G : Ground
  G = (sight k).ground

  abbrev G2 : Ground
  G2 = (sight c).ground

  lies_so : (r : ℕ) (q : ObjNo) (a : ℕ) (d : Cell) → r ≡ m → d.object ≡ q → Among (lies r a d) (things_of k) → 1 ≤ tot (lies_at m q) (things_of k)
  lies_so r q a d e f among =
      let here : (r == m) ≡ true = grind (arith, nat_tests, e) in
      let weighs : lies_at m q (lies r a d) ≡ 1 = ap one (both (r == m) (same_object d.object q) here (itself d.object q f)) in
      omega (arith, weighs, among_weighs (lies_at m q) (lies r a d) (things_of k) among)

  by_pass : (l : Location) (u : Value) → MayPass (sight k) m l u → Object m k u
  by_pass l _ (over_box b a none f) = lies_so m b.object a.address a.cell refl a.object a.among
  by_pass l _ (over_reference q a f) = lies_so m q.object a.address a.cell refl a.object a.among
  by_pass l _ (to_slot i) = tt
  by_pass l _ (to_lent_slot i) = tt

  under : (b : BoxPtr) → LiesUnder k b → server_of b.word ≡ m → 1 ≤ tot (lies_at m b.object) (things_of k)
  under b u e = lies_so u.server b.object u.address u.there.cell (sym (let q = u.leads in q.server) ∙ e) u.there.object u.there.among

  by_home : (i : ℕ) → i < w.depth → (l : Location) (u : Value) → locate G tn w.slot i ≡ Some l → value_in G l ≡ Some u → AtHome m u → Object m k u
  by_home i lt l (value.Own (owned.Box b)) located stands a = under b (written_lie_there k (let q = z in q.coherent) x w i l (value.Own (owned.Box b)) b on (awake k n t s y o.instruction z) writes lt located stands refl) a
  by_home i lt l (value.Mut q) located stands a = under (record { word = q.word; object = q.object }) (written_lie_there k (let b = z in b.coherent) x w i l (value.Mut q) (record { word = q.word; object = q.object }) on (awake k n t s y o.instruction z) writes lt located stands refl) a
  by_home i lt l (value.MutSlot j) located stands a = tt
  by_home i lt l (value.SharedSlot j) located stands a = tt
  by_home i lt l value.Gone located stands a = absurd a
  by_home i lt l (value.Own owned.Nothing) located stands a = absurd a
  by_home i lt l (value.Own owned.Unit) located stands a = absurd a
  by_home i lt l (value.Own (owned.Int j)) located stands a = absurd a
  by_home i lt l (value.Own (owned.Mutex j)) located stands a = absurd a
  by_home i lt l (value.Own (owned.Task j)) located stands a = absurd a
  by_home i lt l (value.Shared q) located stands a = absurd a
  by_home i lt l (value.Held j) located stands a = absurd a

  -- each hop that is passed leads to an object here, or to a slot
  object_at : (i : ℕ) → i < h.thread.passed → (l : Location) (u : Value) → locate G tn w.slot i ≡ Some l → value_in G l ≡ Some u → Object m k u
  object_at i lt l u located stands = by (nat_lt i y.passed) refl
    where
      by : (b : Bool) → nat_lt i y.passed ≡ b → Object m k u
      by true e =
          let zz = z in
          let q : IsPassed (sight k) x w i = zz.coherent.sound.walks.have_passed x w i on.among writes (grind (arith, nat_tests, e)) in
          let same_location : q.location ≡ l = some_is (sym (paths_law.locates G tn w.slot i q.location q.hop.path) ∙ located) in
          let same_value : q.value ≡ u = some_is (sym q.hop.stands ∙ ap (value_in G) same_location ∙ stands) in
          by_pass l u (subst (MayPass (sight k) m l) same_value (subst (λ a. MayPass (sight k) m a q.value) same_location q.passes))
      by false e =
          let le : y.passed ≤ i = grind (arith, nat_tests, e) in
          let all = walked.within in
          by_home i (omega (arith, lt, all)) l u located stands (walked.homes i lt le l u located stands)

  goes_over : (q : ObjNo) → 1 ≤ tot (lies_at m q) (things_of k) → 1 ≤ tot (lies_at m q) (things_of c)
  goes_over q l = still_lies k c v t o after h asked is q l

  pub its_number : t ≡ tn
  its_number = let zz = z in sym (thread_number s.threads t y zz.at)

  -- what its slots have afterwards
  pub slot_then : (j : ℕ) → value_in G2 (at_slot tn j) ≡ slice_get h.thread.slots j
  slot_then j = ap (λ q. slot_of (thread_at G2.threads q) j) (sym its_number) ∙ slot_is k c v t o after j ∙ ap (λ (d : Stepped). slice_get d.hand.thread.slots j) is

  owned_there : (q : Option Cell) (u : Value) → value_of q ≡ Some u → (a : Owned) × (u ≡ value.Own a)
  owned_there None u e = absurd (cc e)
  owned_there (Some d) u e = (d.value, some_is (sym e))

  at_slot_so : (i j : ℕ) → i < h.thread.passed → locate G tn w.slot i ≡ Some (at_slot tn j) → (u : Value) → value_in G (at_slot tn j) ≡ Some u → (o2 : Option Value) → slice_get h.thread.slots j ≡ o2 → away (sight c) m (Some (at_slot tn j)) o2 ≡ 0
  at_slot_so i j lt located u stands o2 e = by o2 framed
    where
      framed : option_map frame_of o2 ≡ Some (frame_of u)
      framed = ap (option_map frame_of) (sym e) ∙ walked.framed i j lt located ∙ ap (option_map frame_of) (sym (ap (λ q. slot_of q j) (stands_there k p x on)) ∙ stands)

      by : (o2 : Option Value) → option_map frame_of o2 ≡ Some (frame_of u) → away (sight c) m (Some (at_slot tn j)) o2 ≡ 0
      by None f = absurd (cc f)
      by (Some u2) f = not_away m c (Some (at_slot tn j)) u2 (framed_so m k c u2 u (some_is f) goes_over (object_at i lt (at_slot tn j) u located stands))

  at_cell_so : (i : ℕ) (q : ObjNo) (l : Location) → i < h.thread.passed → locate G tn w.slot i ≡ Some (in_cell q) → (u : Value) → value_in G (in_cell q) ≡ Some u → leads tn (Some u) ≡ Some l → leads tn (value_in G2 (in_cell q)) ≡ Some l → away (sight c) m (Some (in_cell q)) (value_in G2 (in_cell q)) ≡ 0
  at_cell_so i q l lt located u stands on_it then =
      let a = owned_there (cell_of G.cells q) u stands in
      by a.0 (object_at i lt (in_cell q) (value.Own a.0) located (stands ∙ ap (λ b. Some b) a.1)) (sym (ap (λ b. leads tn (Some b)) a.1) ∙ on_it)
    where
      by : (a : Owned) → Object m k (value.Own a) → leads tn (Some (value.Own a)) ≡ Some l → away (sight c) m (Some (in_cell q)) (value_in G2 (in_cell q)) ≡ 0
      by (owned.Box b) ob e = box_there m c tn (value_in G2 (in_cell q)) b.object (Some (in_cell q)) (owned_there (cell_of G2.cells q)) (then ∙ sym e) (goes_over b.object ob)
      by owned.Nothing ob e = absurd ob
      by owned.Unit ob e = absurd ob
      by (owned.Int b) ob e = absurd ob
      by (owned.Mutex b) ob e = absurd ob
      by (owned.Task b) ob e = absurd ob

  hop_so : (i : ℕ) → i < h.thread.passed → away (sight c) m (locate G2 tn w.slot i) (value_behind G2 (locate G2 tn w.slot i)) ≡ 0
  hop_so i lt =
      let all = walked.within in
      let now = there i (omega (arith, lt, all)) in
      let next = there (suc i) (omega (arith, lt, all)) in
      let e = hop_from G tn w.slot i now.0 next.0 now.1 next.1 in
      let same : locate G2 tn w.slot i ≡ Some now.0 = leads_so i (omega (arith, lt, all)) ∙ now.1 in
      let then : leads tn (value_in G2 now.0) ≡ Some next.0 = ap (λ q. leads tn (value_behind G2 q)) (sym same) ∙ leads_so (suc i) (omega (arith, lt, all)) ∙ next.1 in
      subst (λ q. away (sight c) m q (value_behind G2 q) ≡ 0) (sym same) (by now.0 (leads_in_heap k p x on w.slot i now.0 now.1).1 now.1 e.0 e.1 next.0 e.2 then)
    where
      by : (l : Location) → IsShown k p x on l → locate G tn w.slot i ≡ Some l → (u : Value) → value_in G l ≡ Some u → (l2 : Location) → leads tn (Some u) ≡ Some l2 → leads tn (value_in G2 l) ≡ Some l2 → away (sight c) m (Some l) (value_in G2 l) ≡ 0
      by _ (a_slot j) located u stands l2 e f = subst (λ q. away (sight c) m (Some (at_slot tn j)) q ≡ 0) (sym (slot_then j)) (at_slot_so i j lt located u stands (slice_get h.thread.slots j) refl)
      by _ (an_object q a b) located u stands l2 e f = at_cell_so i q l2 lt located u stands e f

  over_so : (a : ℕ) → a ≤ h.thread.passed → over_hops G2 tn w.slot (away (sight c) m) a ≡ 0
  over_so zero le = refl
  over_so (suc a) le = omega (arith, hop_so a (omega (arith, le)), over_so a (omega (arith, le)))

  pub has_passed : over_hops (sight c).ground o.thread.number w.slot (away (sight c) o.server.rest.number) h.thread.passed ≡ 0
  has_passed = over_so h.thread.passed (omega arith)
