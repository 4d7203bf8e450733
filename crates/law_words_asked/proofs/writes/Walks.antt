-- A place is followed for writing, hop by hop, until it is ready or a request is sent: the words hold all the way.
use Rattle.std.proofs.Common.{◌≡◌, ℕ, zero, suc, ◌+◌, ◌<◌, ◌≤◌, ◌==◌, nat_lt, Bool, true, false, if◌then◌else◌, Option, Some, None, refl, sym, ap, subst, ◌∙◌, arith}
use Rattle.std.specs.Prelude.{⊤, slice_get}
use Rattle.std.proofs.lemmas.Bool.Decides.{nat_tests}
use Rattle.law_results_events.specs.Below.fr_base.declared.name.ObjNo.{ObjNo}
use Rattle.law_results_events.specs.Below.global_addr.Words.{server_of}
use Rattle.law_results_events.specs.Below.heap_partition.declared.value.BoxPtr.{BoxPtr}
use Rattle.law_results_events.specs.Below.heap_partition.declared.value.Cell.{Cell}
use Rattle.law_results_events.specs.Below.heap_partition.declared.value.Owned.TheVariants as owned
use Rattle.law_results_events.specs.Below.mut_borrow.declared.mutable.MutRef.{MutRef}
use Rattle.law_results_events.specs.Below.owner_box.View.{PartitionState}
use Rattle.law_results_events.specs.Below.journal.declared.act.Act.TheVariants as act
use Rattle.law_results_events.specs.Below.thread_state.View.{ThreadState}
use Rattle.law_results_events.specs.Below.thread_state.declared.phase.Phase.TheVariants as phase
use Rattle.law_results_events.specs.Below.thread_state.declared.value.Value.{Value}
use Rattle.law_results_events.specs.Below.thread_state.declared.value.Value.TheVariants as value
use Rattle.law_results_events.specs.Below.server_msgs.declared.message.Message.TheVariants as message
use Rattle.law_results_events.specs.Below.place_walk.declared.hop.Hop.TheVariants as jump
use Rattle.law_results_events.specs.Below.place_walk.Hops.{write_hop}
use Rattle.law_results_events.specs.Below.server_model.Servers.{Rest, Server, Cluster, server_at}
use Rattle.law_results_events.specs.Below.server_model.Work.{Hand, thread_in}
use Rattle.law_results_events.specs.Below.server_model.NewWords.{issue_colour}
use Rattle.law_results_events.specs.Below.server_model.Places.{Spot, in_slot, in_cell, value_in, value_at, load_at}
use Rattle.law_results_events.specs.Below.server_model.Prepare.{Prepared, ready, requested, nothing, and_then, ask_object, box_of, local, passing, box_ready, write_by, pass_by, write_value, write_star, write_stars}
use Rattle.law_results_events.specs.Below.coherent_memory.Things.{Location, at_slot, in_cell as in_object}
use Rattle.law_results_events.specs.Below.coherent_types.ClusterTypes.{IsCoherent}
use Rattle.law_results_events.proofs.Below.law_words_paths.paths.Sole.{some_is}
use Rattle.law_results_events.proofs.writes.Memory.{Leads, looks}
use Rattle.law_results_events.proofs.writes.Route.{LeadsBy, Hop, by_slot, by_reference, by_box, by_cell, Route, Writing, At, a_slot, a_cell, Fine, hop_star}
use Rattle.law_words_asked.proofs.writes.Onward.{IsWritten}
use Rattle.law_words_asked.proofs.writes.Passing.{State, Asked, loaded, noted, passed, requests}
use Rattle.law_words_asked.proofs.writes.Hops.{Through, Walk, Mine, Boxed, first_words, slot_box, cell_box}

-- a box stands there, in a slot or in the cell of an object
pub data BoxAt (y : ThreadState) (C : ObjNo → Option Cell) (l : Location) (p : BoxPtr) : Type 0 where
  in_a_slot : (m : ℕ) → l ≡ at_slot y.number m → slice_get y.slots m ≡ Some (value.Own (owned.Box p)) → BoxAt y C l p
  in_a_cell : (o : ObjNo) (c : Cell) → l ≡ in_object o → C o ≡ Some c → c.value ≡ owned.Box p → BoxAt y C l p

module _ (k : Cluster) (coherent : IsCoherent k) (s : Server) (here : server_at k.servers s.rest.number ≡ Some s) (t : ℕ) (y : ThreadState) (at : thread_in s.threads t ≡ Some y)
    (r : Rest) (z : ThreadState) (C : ObjNo → Option Cell) (place : ℕ → Option Location) (d : ℕ) (route : Route r z C place d)
    (written : (j : ℕ) → j < d → (l : Location) (o : ObjNo) → place j ≡ Some l → place (suc j) ≡ Some (in_object o) → IsWritten k l o)
    (words_are : (j : ℕ) → j < d → (l : Location) (p : BoxPtr) → place j ≡ Some l → place (suc j) ≡ Some (in_object p.object) → BoxAt z C l p → p.word ≡ (first_words k coherent s here t y at).word p.object) where
  abbrev S : Hand → Type 0
  S = State k coherent s here t y at

  abbrev M : Prepared → Type 0
  M = Mine k coherent s here t y at

  abbrev W : Hand → Spot → Type 0
  W = Walk k coherent s here t y at

  abbrev Way : ℕ → Hand → Type 0
  Way = Writing r z C place

  abbrev Spotted : PartitionState → ℕ → Spot → Location → Type 0
  Spotted = At r z C place

  load : (sp : Spot) (h : Hand) → S h → S (load_at sp h)
  load sp h g = loaded k coherent s here t y at sp h g

  pass : (m : ℕ) (h : Hand) → S h → S (passing m h)
  pass m h g = passed k coherent s here t y at m h g

  -- the hop counts
  local_state : (v : Value) (h : Hand) → S h → S (local v h)
  local_state v h g = by (Rattle.law_results_events.specs.Below.server_model.Places.pointer_of v)
    where
      by : (o : Option BoxPtr) → S (Rattle.law_results_events.specs.Below.server_model.Prepare.hopped (λ p. Rattle.law_results_events.specs.Below.server_model.Work.note (act.Local p.object p.word)) o h)
      by None = g
      by (Some p) = noted k coherent s here t y at (act.Local p.object p.word) h g

  asks_object : (p : BoxPtr) (h : Hand) → S h → Asked k coherent s here t y at (ask_object p h)
  asks_object p h g = requests k coherent s here t y at (act.Pull p.object p.word) (server_of p.word) (message.Move p.word p.object h.work.rest.number h.thread.number) (phase.WaitCell p.word) h refl refl (λ q e x. x) (λ c j. refl) g

  -- what is passed changes no slot
  through_passed : (x : ThreadState) (m : ℕ) (q : Option ℕ) → Through k coherent s here t y at x q → Through k coherent s here t y at (record x { passed = m }) q
  through_passed x m None u = tt
  through_passed x m (Some i) u = u

  -- ONE HOP

  module _ (j : ℕ) (lt : j < d) (l m : Location) (located : place j ≡ Some l) (next : place (suc j) ≡ Some m) (h : Hand) (w : Way j h) where
    abbrev N : ℕ
    N = h.work.rest.number

    number : N ≡ r.number
    number = ap (λ (x : Rest). x.number) w.rest

    named : h.thread.number ≡ z.number
    named = ap (λ (x : ThreadState). x.number) w.thread

    -- an object that comes next lies where it lay
    ahead : (word : ℕ) (o : ObjNo) (b : LeadsBy r z C place j word o) → m ≡ in_object o → server_of word ≡ N → Leads h.work.rest.partition word b.cell
    ahead word o b is mine =
        w.cells word b.cell (b.home (mine ∙ number)) (λ i le e. route.apart (suc j) i (omega (arith, le)) (omega (arith, lt)) m (e ∙ ap (λ x. Some (in_object x)) b.object ∙ ap Some (sym is)) next)

    not_yet : h.thread.passed ≤ j → z.passed ≤ j
    not_yet le = by (nat_lt j z.passed) refl
      where
        by : (b : Bool) → nat_lt j z.passed ≡ b → z.passed ≤ j
        by true e = let less : j < h.thread.passed = w.still j (grind (arith, nat_tests, e)) in absurd (omega (arith, le, less))
        by false e = grind (arith, nat_tests, e)

    written_to : (o : ObjNo) → m ≡ in_object o → IsWritten k l o
    written_to o is = written j lt l o located (next ∙ ap Some is)

    module _ (sp : Spot) (v : Value) (stands : value_at h sp ≡ Some v) where
      star : ((b : Bool) → (b ≡ false → z.passed ≤ j) → M (if b then pass_by sp v (write_hop N v) (load_at sp h) else write_by j sp v (write_hop N v) (load_at sp h))) → M (write_star j h sp)
      star go = subst (λ o. M (write_value j sp o (load_at sp h))) (sym stands) (go (nat_lt j h.thread.passed) (λ e. not_yet (grind (arith, nat_tests, e))))

    -- a mutable reference to a slot
    slot_star : (sp : Spot) (i : ℕ) → W h sp → value_at h sp ≡ Some (value.MutSlot i) → M (write_star j h sp)
    slot_star sp i walk stands = star sp (value.MutSlot i) stands by
      where
        by : (b : Bool) → (b ≡ false → z.passed ≤ j) → M (if b then pass_by sp (value.MutSlot i) (write_hop N (value.MutSlot i)) (load_at sp h) else write_by j sp (value.MutSlot i) (write_hop N (value.MutSlot i)) (load_at sp h))
        by true f = record { state = load sp h walk.state; later = walk.later; through = tt }
        by false f = record { state = pass (j + 1) (load_at sp h) (load sp h walk.state); later = walk.later; through = tt }

    -- a mutable reference to an object
    reference_star : (i : ℕ) (q : MutRef) → W h (in_slot i) → slice_get h.thread.slots i ≡ Some (value.Mut q) → l ≡ at_slot z.number i → m ≡ in_object q.object → M (write_star j h (in_slot i))
    reference_star i q walk stands from is = star (in_slot i) (value.Mut q) stands by
      where
        h1 : Hand
        h1 = load_at (in_slot i) h

        st1 : S h1
        st1 = load (in_slot i) h walk.state

        there : IsWritten k (at_slot h.thread.number i) q.object
        there = subst (λ a. IsWritten k a q.object) (from ∙ ap (λ a. at_slot a i) (sym named)) (written_to q.object is)

        by : (b : Bool) → (b ≡ false → z.passed ≤ j) → M (if b then pass_by (in_slot i) (value.Mut q) (write_hop N (value.Mut q)) h1 else write_by j (in_slot i) (value.Mut q) (write_hop N (value.Mut q)) h1)
        by true f = at_it (server_of q.word == N)
          where
            at_it : (c : Bool) → M (pass_by (in_slot i) (value.Mut q) (Some (if c then jump.AtCell q.word else jump.NeedMove q.word)) h1)
            at_it true = record { state = local_state (value.Mut q) h1 st1; later = walk.later; through = (q, stands, there) }
            at_it false = tt
        by false f = at_it (server_of q.word == N)
          where
            at_it : (c : Bool) → M (write_by j (in_slot i) (value.Mut q) (Some (if c then jump.AtCell q.word else jump.NeedMove q.word)) h1)
            at_it true = record { state = pass (j + 1) (local (value.Mut q) h1) (local_state (value.Mut q) h1 st1); later = walk.later; through = (q, stands, there) }
            at_it false = asks_object (box_of q) h1 st1

    -- a box
    module _ (sp : Spot) (p : BoxPtr) (walk : W h sp) (stands : value_at h sp ≡ Some (value.Own (owned.Box p))) (is : m ≡ in_object p.object) (b : LeadsBy r z C place j p.word p.object) (box : BoxAt z C l p) where
      abbrev h1 : Hand
      h1 = load_at sp h

      st1 : S h1
      st1 = load sp h walk.state

      -- what is known of it, where its object is here
      its_box : z.passed ≤ j → server_of p.word ≡ N → Boxed k coherent s here t y at (passing (j + 1) h1) p b.cell
      its_box le mine = record {
        state = pass (j + 1) h1 st1;
        later = walk.later;
        word = words_are j lt l p located (next ∙ ap Some is) box;
        leads = ahead p.word p.object b is mine;
        object = b.object;
        sane = w.sane (route.sane (omega (arith, lt, le)));
        room = (let a = w.long in let c = route.room in omega (arith, a, c, lt));
      }

      box_star : (Boxed k coherent s here t y at (passing (j + 1) h1) p b.cell → M (box_ready sp (issue_colour p (passing (j + 1) h1).work) (passing (j + 1) h1))) → M (write_star j h sp)
      box_star puts = star sp (value.Own (owned.Box p)) stands by
        where
          by : (c : Bool) → (c ≡ false → z.passed ≤ j) → M (if c then pass_by sp (value.Own (owned.Box p)) (write_hop N (value.Own (owned.Box p))) h1 else write_by j sp (value.Own (owned.Box p)) (write_hop N (value.Own (owned.Box p))) h1)
          by true f = at_it (server_of p.word == N)
            where
              at_it : (c : Bool) → M (pass_by sp (value.Own (owned.Box p)) (Some (if c then jump.NeedTint p.word else jump.NeedMove p.word)) h1)
              at_it true = record { state = st1; later = walk.later; through = tt }
              at_it false = tt
          by false f = at_it (server_of p.word == N) refl
            where
              at_it : (c : Bool) → (server_of p.word == N) ≡ c → M (write_by j sp (value.Own (owned.Box p)) (Some (if c then jump.NeedTint p.word else jump.NeedMove p.word)) h1)
              at_it true e = puts (its_box (f refl) (grind (arith, nat_tests, e)))
              at_it false e = asks_object p h1 st1

    box_in_slot : (i : ℕ) (p : BoxPtr) → W h (in_slot i) → slice_get h.thread.slots i ≡ Some (value.Own (owned.Box p)) → l ≡ at_slot z.number i → m ≡ in_object p.object → LeadsBy r z C place j p.word p.object → BoxAt z C l p → M (write_star j h (in_slot i))
    box_in_slot i p walk stands from is b box =
        box_star (in_slot i) p walk stands is b box
        (λ known. slot_box k coherent s here t y at (passing (j + 1) (load_at (in_slot i) h)) i p b.cell known stands (subst (λ a. IsWritten k a p.object) (from ∙ ap (λ a. at_slot a i) (sym named)) (written_to p.object is)))

    box_in_cell : (word : ℕ) (q : Option ℕ) (o : ObjNo) (c : Cell) (p : BoxPtr) → W h (in_cell word q) → Leads h.work.rest.partition word c → c.object ≡ o → c.value ≡ owned.Box p → l ≡ in_object o → m ≡ in_object p.object → LeadsBy r z C place j p.word p.object → BoxAt z C l p
        → M (write_star j h (in_cell word q))
    box_in_cell word q o c p walk leads object boxed from is b box =
        box_star (in_cell word q) p walk (ap value_in (looks h.work.rest.partition word c leads) ∙ ap (λ x. Some (value.Own x)) boxed) is b box
        (λ known. cell_box k coherent s here t y at (passing (j + 1) (load_at (in_cell word q) h)) word q c p b.cell known (through_passed h.thread (j + 1) q walk.through) leads boxed other
        (subst (λ a. IsWritten k a p.object) (from ∙ ap in_object (sym object)) (written_to p.object is)))
      where
        -- the object isn't the next one
        other : c.object ≡ p.object → ⊥
        other e = route.apart (suc j) j (omega arith) (omega (arith, lt)) m (located ∙ ap Some from ∙ ap (λ x. Some (in_object x)) (sym object ∙ e) ∙ ap Some (sym is)) next

    -- whatever stands there
    pub one_hop : (sp : Spot) → Spotted h.work.rest.partition j sp l → W h sp → M (write_star j h sp)
    one_hop sp spot walk = by l l m refl refl refl sp spot walk (route.hop j lt l m located next)
      where
        slot_value : (i : ℕ) (v : Value) → l ≡ at_slot z.number i → slice_get z.slots i ≡ Some v → slice_get h.thread.slots i ≡ Some v
        slot_value i v from e = w.slots i (λ k less f. route.apart j k less (omega (arith, lt)) l (f ∙ ap Some (sym from)) located) ∙ e

        same_slot : {a b : ℕ} → at_slot z.number a ≡ at_slot z.number b → a ≡ b
        same_slot e = cc

        same_object : {a b : ObjNo} → in_object a ≡ in_object b → a ≡ b
        same_object e = cc

        no_object : {a : ℕ} {o : ObjNo} → at_slot z.number a ≡ in_object o → ⊥
        no_object e = absurd (cc e)

        by : (a a2 b : Location) → l ≡ a → l ≡ a2 → m ≡ b → (sp : Spot) → Spotted h.work.rest.partition j sp a → W h sp → Hop r z C place j a2 b → M (write_star j h sp)
        by _ _ _ from from2 to _ (a_slot i) walk (by_slot i2 b e) = let same : i ≡ i2 = same_slot (sym from ∙ from2) in slot_star (in_slot i) b walk (slot_value i (value.MutSlot b) from (ap (slice_get z.slots) same ∙ e))
        by _ _ _ from from2 to _ (a_slot i) walk (by_reference i2 q e b) = let same : i ≡ i2 = same_slot (sym from ∙ from2) in reference_star i q walk (slot_value i (value.Mut q) from (ap (slice_get z.slots) same ∙ e)) from to
        by _ _ _ from from2 to _ (a_slot i) walk (by_box i2 p e b) =
            let same : i ≡ i2 = same_slot (sym from ∙ from2) in
            box_in_slot i p walk (slot_value i (value.Own (owned.Box p)) from (ap (slice_get z.slots) same ∙ e)) from to b (in_a_slot i2 from2 e)
        by _ _ _ from from2 to _ (a_slot i) walk (by_cell o c p there boxed b) = absurd (no_object (sym from ∙ from2))
        by _ _ _ from from2 to _ (a_cell word q o c leads there object behind) walk (by_slot i2 b e) = absurd (no_object (sym from2 ∙ from))
        by _ _ _ from from2 to _ (a_cell word q o c leads there object behind) walk (by_reference i2 x e b) = absurd (no_object (sym from2 ∙ from))
        by _ _ _ from from2 to _ (a_cell word q o c leads there object behind) walk (by_box i2 p e b) = absurd (no_object (sym from2 ∙ from))
        by _ _ _ from from2 to _ (a_cell word q o c leads there object behind) walk (by_cell o2 c2 p there2 boxed b) =
            let same : o ≡ o2 = same_object (sym from ∙ from2) in
            let one : c ≡ c2 = some_is (sym there ∙ ap C same ∙ there2) in
            box_in_cell word q o c p walk leads object (ap (λ (x : Cell). x.value) one ∙ boxed) from to b (in_a_cell o2 c2 from2 there2 boxed)

  -- ALL HOPS

  abbrev Ready : ℕ → Prepared → Type 0
  Ready = Fine r z C place ⊤

  then_mine : (j : ℕ) (go : Hand → Spot → Prepared) (x : Prepared) → Ready j x → M x → ((h : Hand) (sp : Spot) (l : Location) → place j ≡ Some l → Spotted h.work.rest.partition j sp l → Way j h → W h sp → M (go h sp)) → M (and_then go x)
  then_mine j go (ready h sp) f g on = on h sp f.0 f.1 f.2 f.3 g
  then_mine j go (requested h) f g on = g
  then_mine j go nothing f g on = tt

  pub all_mine : (more j : ℕ) → j + more ≡ d → (h : Hand) (sp : Spot) (l : Location) → place j ≡ Some l → Spotted h.work.rest.partition j sp l → Way j h → W h sp → M (write_stars more j h sp)
  all_mine zero j e h sp l located spot w walk = walk
  all_mine (suc more) j e h sp l located spot w walk =
      let lt : j < d = omega (arith, e) in
      let m = route.leads_there (suc j) (omega (arith, lt)) in
      let one : suc j ≡ j + 1 = omega arith in
      then_mine (suc j) (write_stars more (j + 1)) (write_star j h sp) (hop_star r z C place ⊤ d route (λ i less le. tt) j lt l m.0 located m.1 h w sp spot) (one_hop j lt l m.0 located m.1 h w sp spot walk)
      (λ h2 sp2 l2 located2 spot2 w2 walk2. subst (λ n. M (write_stars more n h2 sp2)) one (all_mine more (suc j) (omega (arith, e)) h2 sp2 l2 located2 spot2 w2 walk2))
