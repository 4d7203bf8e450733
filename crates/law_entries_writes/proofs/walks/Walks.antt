-- A place is followed for writing, star by star, until it is ready or an object is asked for: which objects got which words, and that the coloured heap allows each act on the way.
use Rattle.std.proofs.Common.{◌≡◌, ℕ, zero, suc, ◌+◌, ◌<◌, ◌≤◌, ◌==◌, nat_lt, Bool, true, false, if◌then◌else◌, Option, Some, None, refl, sym, ap, subst, ◌∙◌, arith}
use Rattle.std.specs.Prelude.{⊤, slice_get}
use Rattle.std.proofs.lemmas.Bool.Decides.{nat_tests}
use Rattle.law_heap_writes.specs.Below.fr_base.declared.name.ObjNo.{ObjNo}
use Rattle.law_heap_writes.specs.Below.global_addr.Words.{server_of}
use Rattle.law_heap_writes.specs.Below.heap_partition.declared.value.BoxPtr.{BoxPtr}
use Rattle.law_heap_writes.specs.Below.heap_partition.declared.value.Cell.{Cell}
use Rattle.law_heap_writes.specs.Below.heap_partition.declared.value.Owned.TheVariants as owned
use Rattle.law_heap_writes.specs.Below.mut_borrow.declared.mutable.MutRef.{MutRef}
use Rattle.law_heap_writes.specs.Below.owner_box.View.{PartitionState}
use Rattle.law_heap_writes.specs.Below.journal.declared.act.Act.TheVariants as act
use Rattle.law_heap_writes.specs.Below.thread_state.View.{ThreadState}
use Rattle.law_heap_writes.specs.Below.thread_state.declared.value.Value.{Value}
use Rattle.law_heap_writes.specs.Below.thread_state.declared.value.Value.TheVariants as value
use Rattle.law_entries_reads.specs.Below.law_copies_kept.Below.place_walk.declared.hop.Hop.TheVariants as jump
use Rattle.law_entries_reads.specs.Below.law_copies_kept.Below.place_walk.Hops.{write_hop}
use Rattle.law_heap_writes.specs.Below.server_model.Servers.{Rest, Server, Cluster, server_at}
use Rattle.law_heap_writes.specs.Below.server_model.Work.{Hand, thread_in}
use Rattle.law_heap_writes.specs.Below.server_model.NewWords.{issue_colour}
use Rattle.law_heap_writes.specs.Below.server_model.Places.{Spot, in_slot, in_cell, value_in, value_at, load_at}
use Rattle.law_heap_writes.specs.Below.server_model.Prepare.{Prepared, ready, requested, nothing, and_then, ask_object, box_of, local, passing, box_ready, write_by, pass_by, write_value, write_star, write_stars}
use Rattle.law_entries_reads.specs.Below.law_entries_variables.Below.coloured_heap.Heap.{Coloured}
use Rattle.law_heap_writes.specs.Below.coherent_memory.Names.{tot}
use Rattle.law_heap_writes.specs.Below.coherent_memory.Things.{Location, at_slot, in_cell as in_object, things_of}
use Rattle.law_heap_writes.specs.Below.coherent_memory.Follow.{value_in as value_there}
use Rattle.law_heap_writes.specs.Below.coherent_memory.Sight.{sight}
use Rattle.law_heap_writes.specs.Below.coherent_memory.Words.{LeadsTo}
use Rattle.law_heap_writes.specs.Below.coherent_memory.Colours.{StandsColoured}
use Rattle.law_heap_writes.specs.Below.coherent_types.ClusterTypes.{IsCoherent}
use Rattle.law_heap_writes.proofs.Below.law_words_paths.paths.Sole.{some_is}
use Rattle.law_heap_writes.proofs.Below.law_words_paths.words.Tints.{slot_stands}
use Rattle.law_heap_writes.proofs.Below.law_words_asked.Below.law_words_kept.prepared.Hands.{put, places, stands}
use Rattle.law_heap_writes.proofs.Below.law_results_events.writes.Memory.{Leads, looks}
use Rattle.law_heap_writes.proofs.Below.law_results_events.writes.Route.{LeadsBy, Hop, by_slot, by_reference, by_box, by_cell, Route, Writing, At, a_slot, a_cell, Fine, hop_star}
use Rattle.law_heap_writes.proofs.Below.law_words_asked.writes.Onward.{IsWritten}
use Rattle.law_heap_writes.proofs.Below.law_words_asked.writes.Passing.{State, loaded, noted, passed}
use Rattle.law_heap_writes.proofs.Below.law_words_asked.writes.Hops.{Through, Walk, Mine, Boxed, cell_stands}
use Rattle.law_heap_writes.proofs.Below.law_words_asked.writes.Walks.{BoxAt, in_a_slot, in_a_cell, one_hop as walk_hop}
use Rattle.law_entries_reads.proofs.Below.law_entries_variables.deliveries.Shown.{dropped_by}
use Rattle.law_entries_reads.proofs.asks.Recoloured.{NewWords, recoloured}
use Rattle.law_entries_reads.proofs.asks.Pointed.{Pointed}
use Rattle.law_entries_writes.proofs.walks.Acts.{local_allowed}
use Rattle.law_entries_writes.proofs.walks.Given.{words_by, q0, Given, named_now, lies_so, given_noted, given_loaded, given_passed}
use Rattle.law_entries_writes.proofs.walks.Hops.{word_now, Led, Wishes, LedAll}
use Rattle.law_entries_writes.proofs.walks.Boxes.{slot_led, cell_led}

-- a pointer through which an object is written, and whose object isn't given up
pub pointed_by : (k : Cluster) (coherent : IsCoherent k) (l : Location) (p : BoxPtr) → IsWritten k l p.object → p.word ≡ coherent.sound.words.have_words.word p.object → tot (dropped_by p.object) (things_of k) ≡ 0 → Pointed k coherent p
pointed_by k coherent l p written word kept = record {
  server = written.lies.server;
  address = written.lies.address;
  there = written.lies.there;
  leads =
      subst (LeadsTo written.lies.server written.lies.address) (ap coherent.sound.words.have_words.word written.lies.there.object ∙ sym word)
      (coherent.sound.words.have_words.home written.lies.server written.lies.address written.lies.there.cell written.lies.there.among);
  word = word;
  kept = kept;
}

module _ (k : Cluster) (coherent : IsCoherent k) (s : Server) (here : server_at k.servers s.rest.number ≡ Some s) (t : ℕ) (y : ThreadState) (at : thread_in s.threads t ≡ Some y) (c0 : Coloured) (is_coloured : StandsColoured k c0)
    (r : Rest) (z : ThreadState) (C : ObjNo → Option Cell) (place : ℕ → Option Location) (d : ℕ) (route : Route r z C place d)
    (written : (j : ℕ) → j < d → (l : Location) (o : ObjNo) → place j ≡ Some l → place (suc j) ≡ Some (in_object o) → IsWritten k l o)
    (words_are : (j : ℕ) → j < d → (l : Location) (p : BoxPtr) → place j ≡ Some l → place (suc j) ≡ Some (in_object p.object) → BoxAt z C l p → p.word ≡ coherent.sound.words.have_words.word p.object)
    (refs_are : (j : ℕ) → j < d → (i : ℕ) (q : MutRef) → place j ≡ Some (at_slot z.number i) → place (suc j) ≡ Some (in_object q.object) → slice_get z.slots i ≡ Some (value.Mut q) → q.word ≡ coherent.sound.words.have_words.word q.object)
    (kept : (j : ℕ) → j < d → (o : ObjNo) → place (suc j) ≡ Some (in_object o) → tot (dropped_by o) (things_of k) ≡ 0) where
  abbrev n : ℕ
  n = s.rest.number

  abbrev P : Hand → Cluster
  P = put k coherent s here t y at

  abbrev S : Hand → Type 0
  S = State k coherent s here t y at

  abbrev M : Location → Prepared → Type 0
  M = LedAll k coherent s here t y at c0 is_coloured

  abbrev W : Hand → Spot → Type 0
  W = Walk k coherent s here t y at

  abbrev F : Hand → Spot → Location → Type 0
  F = Led k coherent s here t y at c0 is_coloured

  abbrev G : Hand → NewWords → Type 0
  G = Given k coherent s here t y at c0 is_coloured

  abbrev Way : ℕ → Hand → Type 0
  Way = Writing r z C place

  abbrev Spotted : PartitionState → ℕ → Spot → Location → Type 0
  Spotted = At r z C place

  load : (sp : Spot) (h : Hand) → S h → S (load_at sp h)
  load sp h g = loaded k coherent s here t y at sp h g

  -- ONE HOP

  module _ (j : ℕ) (lt : j < d) (l m : Location) (located : place j ≡ Some l) (next : place (suc j) ≡ Some m) (h : Hand) (w : Way j h) where
    abbrev number_now : ℕ
    number_now = h.work.rest.number

    number : number_now ≡ r.number
    number = ap (λ (x : Rest). x.number) w.rest

    named : h.thread.number ≡ z.number
    named = ap (λ (x : ThreadState). x.number) w.thread

    -- an object that comes next lies where it lay
    ahead : (word : ℕ) (o : ObjNo) (b : LeadsBy r z C place j word o) → m ≡ in_object o → server_of word ≡ number_now → Leads h.work.rest.partition word b.cell
    ahead word o b is mine =
        w.cells word b.cell (b.home (mine ∙ number)) (λ i le e. route.apart (suc j) i (omega (arith, le)) (omega (arith, lt)) m (e ∙ ap (λ x. Some (in_object x)) b.object ∙ ap Some (sym is)) next)

    not_yet : h.thread.passed ≤ j → z.passed ≤ j
    not_yet le = by (nat_lt j z.passed) refl
      where
        by : (b : Bool) → nat_lt j z.passed ≡ b → z.passed ≤ j
        by true e = let less : j < h.thread.passed = w.still j (grind (arith, nat_tests, e)) in absurd (omega (arith, le, less))
        by false e = grind (arith, nat_tests, e)

    written_to : (o : ObjNo) → m ≡ in_object o → IsWritten k l o
    written_to o is = written j lt l o located (next ∙ ap Some is)

    point_to : (p : BoxPtr) → m ≡ in_object p.object → p.word ≡ coherent.sound.words.have_words.word p.object → Pointed k coherent p
    point_to p is word = pointed_by k coherent l p (written_to p.object is) word (kept j lt p.object (next ∙ ap Some is))

    -- a request for an object
    asks : (p : BoxPtr) (h1 : Hand) → S h1 → (ws : NewWords) → G h1 ws → Pointed k coherent p → p.word ≡ words_by k coherent s here t y at c0 is_coloured ws p.object → (server_of p.word == h1.work.rest.number) ≡ false → M m (requested (ask_object p h1))
    asks p h1 st ws g pt now far = record {
      pointer = p;
      hand = h1;
      asks = refl;
      state = st;
      words = ws;
      given = g;
      named = named_now k coherent s here t y at c0 is_coloured ws p pt now;
      away = lies_so k coherent s here t y at c0 is_coloured p pt h1.work.rest.number n false (sym st.ok.number) far;
    }

    module _ (sp : Spot) (v : Value) (stands_so : value_at h sp ≡ Some v) where
      star : ((b : Bool) → (b ≡ false → z.passed ≤ j) → M m (if b then pass_by sp v (write_hop number_now v) (load_at sp h) else write_by j sp v (write_hop number_now v) (load_at sp h))) → M m (write_star j h sp)
      star go = subst (λ o. M m (write_value j sp o (load_at sp h))) (sym stands_so) (go (nat_lt j h.thread.passed) (λ e. not_yet (grind (arith, nat_tests, e))))

    -- a mutable reference to a slot
    slot_star : (sp : Spot) (i : ℕ) → W h sp → F h sp l → value_at h sp ≡ Some (value.MutSlot i) → M m (write_star j h sp)
    slot_star sp i walk led stands_so = star sp (value.MutSlot i) stands_so by
      where
        g1 : G (load_at sp h) led.words
        g1 = given_loaded k coherent s here t y at c0 is_coloured sp h led.words led.given

        by : (b : Bool) → (b ≡ false → z.passed ≤ j) → M m (if b then pass_by sp (value.MutSlot i) (write_hop number_now (value.MutSlot i)) (load_at sp h) else write_by j sp (value.MutSlot i) (write_hop number_now (value.MutSlot i)) (load_at sp h))
        by true f = record { words = led.words; given = g1; word = tt }
        by false f = record { words = led.words; given = given_passed k coherent s here t y at c0 is_coloured (j + 1) (load_at sp h) (load sp h walk.state) led.words g1; word = tt }

    -- a mutable reference to an object
    reference_star : (i : ℕ) (q : MutRef) → W h (in_slot i) → F h (in_slot i) l → slice_get h.thread.slots i ≡ Some (value.Mut q) → slice_get z.slots i ≡ Some (value.Mut q) → l ≡ at_slot z.number i → m ≡ in_object q.object → M m (write_star j h (in_slot i))
    reference_star i q walk led stands_so stood from is = star (in_slot i) (value.Mut q) stands_so by
      where
        h1 : Hand
        h1 = load_at (in_slot i) h

        st1 : S h1
        st1 = load (in_slot i) h walk.state

        ws : NewWords
        ws = led.words

        g1 : G h1 ws
        g1 = given_loaded k coherent s here t y at c0 is_coloured (in_slot i) h ws led.given

        there : IsWritten k (at_slot h.thread.number i) q.object
        there = subst (λ a. IsWritten k a q.object) (from ∙ ap (λ a. at_slot a i) (sym named)) (written_to q.object is)

        stands_now : value_there (sight (P h)).ground (at_slot h.thread.number i) ≡ Some (value.Mut q)
        stands_now = slot_stands k n s.threads (s.events + 1) h i (value.Mut q) (stands k coherent s here t y at h walk.state.ok) (places k coherent s here t y at h walk.state.ok) stands_so

        pt : Pointed k coherent (box_of q)
        pt = point_to (box_of q) is (refs_are j lt i q (located ∙ ap Some from) (next ∙ ap Some is) stood)

        now : q.word ≡ words_by k coherent s here t y at c0 is_coloured ws q.object
        now = word_now k coherent s here t y at c0 is_coloured h walk.state ws led.given (at_slot h.thread.number i) (value.Mut q) (box_of q) there stands_now refl

        word_is : (o : ObjNo) → m ≡ in_object o → q.word ≡ words_by k coherent s here t y at c0 is_coloured ws o
        word_is o f = let e : in_object q.object ≡ in_object o = sym is ∙ f in let same : q.object ≡ o = cc in now ∙ ap (words_by k coherent s here t y at c0 is_coloured ws) same

        hop_given : (server_of q.word == number_now) ≡ true → G (local (value.Mut q) h1) ws
        hop_given mine =
            given_noted k coherent s here t y at c0 is_coloured (act.Local q.object q.word) h1 ws g1
            (λ ev own e f.
            local_allowed k.options ev e (recoloured ws (q0 k coherent s here t y at c0 is_coloured)) q.object q.word f (named_now k coherent s here t y at c0 is_coloured ws (box_of q) pt now)
            (lies_so k coherent s here t y at c0 is_coloured (box_of q) pt number_now ev.server true (own ∙ sym walk.state.ok.number) mine))

        by : (b : Bool) → (b ≡ false → z.passed ≤ j) → M m (if b then pass_by (in_slot i) (value.Mut q) (write_hop number_now (value.Mut q)) h1 else write_by j (in_slot i) (value.Mut q) (write_hop number_now (value.Mut q)) h1)
        by true f = at_it (server_of q.word == number_now) refl
          where
            at_it : (c : Bool) → (server_of q.word == number_now) ≡ c → M m (pass_by (in_slot i) (value.Mut q) (Some (if c then jump.AtCell q.word else jump.NeedMove q.word)) h1)
            at_it true e = record { words = ws; given = hop_given e; word = word_is }
            at_it false e = tt
        by false f = at_it (server_of q.word == number_now) refl
          where
            at_it : (c : Bool) → (server_of q.word == number_now) ≡ c → M m (write_by j (in_slot i) (value.Mut q) (Some (if c then jump.AtCell q.word else jump.NeedMove q.word)) h1)
            at_it true e = record { words = ws; given = given_passed k coherent s here t y at c0 is_coloured (j + 1) (local (value.Mut q) h1) (noted k coherent s here t y at (act.Local q.object q.word) h1 st1) ws (hop_given e); word = word_is }
            at_it false e = asks (box_of q) h1 st1 ws g1 pt now e

    -- a box
    module _ (sp : Spot) (p : BoxPtr) (walk : W h sp) (led : F h sp l) (stands_so : value_at h sp ≡ Some (value.Own (owned.Box p))) (is : m ≡ in_object p.object) (b : LeadsBy r z C place j p.word p.object) (box : BoxAt z C l p)
        (stood_now : value_there (sight (P h)).ground l ≡ Some (value.Own (owned.Box p))) where
      abbrev h1 : Hand
      h1 = load_at sp h

      abbrev ws : NewWords
      ws = led.words

      st1 : S h1
      st1 = load sp h walk.state

      g1 : G h1 ws
      g1 = given_loaded k coherent s here t y at c0 is_coloured sp h ws led.given

      its_word : p.word ≡ coherent.sound.words.have_words.word p.object
      its_word = words_are j lt l p located (next ∙ ap Some is) box

      pt : Pointed k coherent p
      pt = point_to p is its_word

      now : p.word ≡ words_by k coherent s here t y at c0 is_coloured ws p.object
      now = word_now k coherent s here t y at c0 is_coloured h walk.state ws led.given l (value.Own (owned.Box p)) p (written_to p.object is) stood_now refl

      -- what is known of it, where its object is here
      its_box : z.passed ≤ j → server_of p.word ≡ number_now → Boxed k coherent s here t y at (passing (j + 1) h1) p b.cell
      its_box le mine = record {
        state = passed k coherent s here t y at (j + 1) h1 st1;
        later = walk.later;
        word = its_word;
        leads = ahead p.word p.object b is mine;
        object = b.object;
        sane = w.sane (route.sane (omega (arith, lt, le)));
        room = (let a = w.long in let c = route.room in omega (arith, a, c, lt));
      }

      box_star : (G (passing (j + 1) h1) ws → Pointed k coherent p → Boxed k coherent s here t y at (passing (j + 1) h1) p b.cell → M m (box_ready sp (issue_colour p (passing (j + 1) h1).work) (passing (j + 1) h1))) → M m (write_star j h sp)
      box_star puts = star sp (value.Own (owned.Box p)) stands_so by
        where
          by : (c : Bool) → (c ≡ false → z.passed ≤ j) → M m (if c then pass_by sp (value.Own (owned.Box p)) (write_hop number_now (value.Own (owned.Box p))) h1 else write_by j sp (value.Own (owned.Box p)) (write_hop number_now (value.Own (owned.Box p))) h1)
          by true f = at_it (server_of p.word == number_now)
            where
              at_it : (c : Bool) → M m (pass_by sp (value.Own (owned.Box p)) (Some (if c then jump.NeedTint p.word else jump.NeedMove p.word)) h1)
              at_it true = record {
                words = ws;
                given = g1;
                word = λ o g. (let e : in_object p.object ≡ in_object o = sym is ∙ g in let same : p.object ≡ o = cc in now ∙ ap (words_by k coherent s here t y at c0 is_coloured ws) same);
              }
              at_it false = tt
          by false f = at_it (server_of p.word == number_now) refl
            where
              at_it : (c : Bool) → (server_of p.word == number_now) ≡ c → M m (write_by j sp (value.Own (owned.Box p)) (Some (if c then jump.NeedTint p.word else jump.NeedMove p.word)) h1)
              at_it true g = puts (given_passed k coherent s here t y at c0 is_coloured (j + 1) h1 st1 ws g1) pt (its_box (f refl) (grind (arith, nat_tests, g)))
              at_it false g = asks p h1 st1 ws g1 pt now g

    box_in_slot : (i : ℕ) (p : BoxPtr) → W h (in_slot i) → F h (in_slot i) l → slice_get h.thread.slots i ≡ Some (value.Own (owned.Box p)) → l ≡ at_slot z.number i → m ≡ in_object p.object → LeadsBy r z C place j p.word p.object → BoxAt z C l p → M m (write_star j h (in_slot i))
    box_in_slot i p walk led stands_so from is b box =
        box_star (in_slot i) p walk led stands_so is b box
        (ap (value_there (sight (P h)).ground) (from ∙ ap (λ a. at_slot a i) (sym named)) ∙ slot_stands k n s.threads (s.events + 1) h i (value.Own (owned.Box p)) (stands k coherent s here t y at h walk.state.ok) (places k coherent s here t y at h walk.state.ok) stands_so)
        (λ gave pt known. slot_led k coherent s here t y at c0 is_coloured (passing (j + 1) (load_at (in_slot i) h)) i p b.cell known led.words gave pt stands_so (subst (λ a. IsWritten k a p.object) (from ∙ ap (λ a. at_slot a i) (sym named)) (written_to p.object is)) m is)

    box_in_cell : (word : ℕ) (q : Option ℕ) (o : ObjNo) (c : Cell) (p : BoxPtr) → W h (in_cell word q) → F h (in_cell word q) l → Leads h.work.rest.partition word c → c.object ≡ o → c.value ≡ owned.Box p → l ≡ in_object o → m ≡ in_object p.object → LeadsBy r z C place j p.word p.object → BoxAt z C l p
        → M m (write_star j h (in_cell word q))
    box_in_cell word q o c p walk led leads object boxed from is b box =
        box_star (in_cell word q) p walk led (ap value_in (looks h.work.rest.partition word c leads) ∙ ap (λ x. Some (value.Own x)) boxed) is b box
        (ap (value_there (sight (P h)).ground) cell_is ∙ cell_stands k coherent s here t y at h walk.state.ok word c leads ∙ ap (λ x. Some (value.Own x)) boxed)
        (λ gave pt known.
        cell_led k coherent s here t y at c0 is_coloured (passing (j + 1) (load_at (in_cell word q) h)) word q c p b.cell known led.words gave pt (through_passed q walk.through) leads boxed other (subst (λ a. IsWritten k a p.object) cell_is (written_to p.object is)) m is)
      where
        cell_is : l ≡ in_object c.object
        cell_is = from ∙ ap in_object (sym object)

        -- the object isn't the next one
        other : c.object ≡ p.object → ⊥
        other e = route.apart (suc j) j (omega arith) (omega (arith, lt)) m (located ∙ ap Some cell_is ∙ ap (λ x. Some (in_object x)) e ∙ ap Some (sym is)) next

        -- what is passed changes no slot
        through_passed : (q : Option ℕ) → Through k coherent s here t y at h.thread q → Through k coherent s here t y at (record h.thread { passed = j + 1 }) q
        through_passed None u = tt
        through_passed (Some i) u = u

    -- whatever stands there
    pub one_led : (sp : Spot) → Spotted h.work.rest.partition j sp l → W h sp → F h sp l → M m (write_star j h sp)
    one_led sp spot walk led = by l l m refl refl refl sp spot walk led (route.hop j lt l m located next)
      where
        slot_value : (i : ℕ) (v : Value) → l ≡ at_slot z.number i → slice_get z.slots i ≡ Some v → slice_get h.thread.slots i ≡ Some v
        slot_value i v from e = w.slots i (λ q less f. route.apart j q less (omega (arith, lt)) l (f ∙ ap Some (sym from)) located) ∙ e

        same_slot : {a b : ℕ} → at_slot z.number a ≡ at_slot z.number b → a ≡ b
        same_slot e = cc

        same_object : {a b : ObjNo} → in_object a ≡ in_object b → a ≡ b
        same_object e = cc

        no_object : {a : ℕ} {o : ObjNo} → at_slot z.number a ≡ in_object o → ⊥
        no_object e = absurd (cc e)

        by : (a a2 b : Location) → l ≡ a → l ≡ a2 → m ≡ b → (sp : Spot) → Spotted h.work.rest.partition j sp a → W h sp → F h sp l → Hop r z C place j a2 b → M m (write_star j h sp)
        by _ _ _ from from2 to _ (a_slot i) walk led (by_slot i2 b e) = let same : i ≡ i2 = same_slot (sym from ∙ from2) in slot_star (in_slot i) b walk led (slot_value i (value.MutSlot b) from (ap (slice_get z.slots) same ∙ e))
        by _ _ _ from from2 to _ (a_slot i) walk led (by_reference i2 q e b) =
            let same : i ≡ i2 = same_slot (sym from ∙ from2) in
            let stood : slice_get z.slots i ≡ Some (value.Mut q) = ap (slice_get z.slots) same ∙ e in
            reference_star i q walk led (slot_value i (value.Mut q) from stood) stood from to
        by _ _ _ from from2 to _ (a_slot i) walk led (by_box i2 p e b) =
            let same : i ≡ i2 = same_slot (sym from ∙ from2) in
            box_in_slot i p walk led (slot_value i (value.Own (owned.Box p)) from (ap (slice_get z.slots) same ∙ e)) from to b (in_a_slot i2 from2 e)
        by _ _ _ from from2 to _ (a_slot i) walk led (by_cell o c p there boxed b) = absurd (no_object (sym from ∙ from2))
        by _ _ _ from from2 to _ (a_cell word q o c leads there object behind) walk led (by_slot i2 b e) = absurd (no_object (sym from2 ∙ from))
        by _ _ _ from from2 to _ (a_cell word q o c leads there object behind) walk led (by_reference i2 x e b) = absurd (no_object (sym from2 ∙ from))
        by _ _ _ from from2 to _ (a_cell word q o c leads there object behind) walk led (by_box i2 p e b) = absurd (no_object (sym from2 ∙ from))
        by _ _ _ from from2 to _ (a_cell word q o c leads there object behind) walk led (by_cell o2 c2 p there2 boxed b) =
            let same : o ≡ o2 = same_object (sym from ∙ from2) in
            let one : c ≡ c2 = some_is (sym there ∙ ap C same ∙ there2) in
            box_in_cell word q o c p walk led leads object (ap (λ (x : Cell). x.value) one ∙ boxed) from to b (in_a_cell o2 c2 from2 there2 boxed)

  -- ALL HOPS

  abbrev Ready : ℕ → Prepared → Type 0
  Ready = Fine r z C place ⊤

  -- ready at the end of the place, or an object was asked for
  pub data AllLed : Prepared → Type 0 where
    ready_led : {h : Hand} {sp : Spot} (l : Location) → place d ≡ Some l → Spotted h.work.rest.partition d sp l → Way d h → W h sp → F h sp l → AllLed (ready h sp)
    asks_led : {h : Hand} → Wishes k coherent s here t y at c0 is_coloured h → AllLed (requested h)
    no_led : AllLed nothing

  then_led : (j : ℕ) (l : Location) → place j ≡ Some l → (go : Hand → Spot → Prepared) (x : Prepared) → Ready j x → Mine k coherent s here t y at x → M l x
      → ((h : Hand) (sp : Spot) → Spotted h.work.rest.partition j sp l → Way j h → W h sp → F h sp l → AllLed (go h sp)) → AllLed (and_then go x)
  then_led j l located go (ready h sp) f g led on = let same : f.0 ≡ l = some_is (sym f.1 ∙ located) in on h sp (subst (Spotted h.work.rest.partition j sp) same f.2) f.3 g led
  then_led j l located go (requested h) f g led on = asks_led led
  then_led j l located go nothing f g led on = no_led

  pub all_led : (more j : ℕ) → j + more ≡ d → (h : Hand) (sp : Spot) (l : Location) → place j ≡ Some l → Spotted h.work.rest.partition j sp l → Way j h → W h sp → F h sp l → AllLed (write_stars more j h sp)
  all_led zero j e h sp l located spot w walk led = let same : j ≡ d = omega (arith, e) in ready_led l (ap place (sym same) ∙ located) (subst (λ i. Spotted h.work.rest.partition i sp l) same spot) (subst (λ i. Way i h) same w) walk led
  all_led (suc more) j e h sp l located spot w walk led =
      let lt : j < d = omega (arith, e) in
      let m = route.leads_there (suc j) (omega (arith, lt)) in
      let one : suc j ≡ j + 1 = omega arith in
      then_led (suc j) m.0 m.1 (write_stars more (j + 1)) (write_star j h sp) (hop_star r z C place ⊤ d route (λ i less le. tt) j lt l m.0 located m.1 h w sp spot)
      (walk_hop k coherent s here t y at r z C place d route written words_are j lt l m.0 located m.1 h w sp spot walk) (one_led j lt l m.0 located m.1 h w sp spot walk led)
      (λ h2 sp2 spot2 w2 walk2 led2. subst (λ i. AllLed (write_stars more i h2 sp2)) one (all_led more (suc j) (omega (arith, e)) h2 sp2 m.0 m.1 spot2 w2 walk2 led2))
