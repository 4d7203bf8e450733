-- A place is followed for writing, hop by hop, until it is ready or a request is sent: each object is what it was, or covered, all the way.
use Rattle.std.proofs.Common.{◌≡◌, ℕ, zero, suc, ◌+◌, ◌<◌, ◌≤◌, ◌==◌, nat_lt, Bool, true, false, if◌then◌else◌, Option, Some, None, refl, sym, ap, subst, ◌∙◌, arith}
use Rattle.std.specs.Prelude.{⊤, slice_get}
use Rattle.std.proofs.lemmas.Bool.Decides.{nat_tests}
use Rattle.law_counts_waiting.specs.Below.fr_base.declared.name.ObjNo.{ObjNo}
use Rattle.law_counts_waiting.specs.Below.global_addr.Words.{server_of}
use Rattle.law_counts_waiting.specs.Below.heap_partition.declared.value.BoxPtr.{BoxPtr}
use Rattle.law_counts_waiting.specs.Below.heap_partition.declared.value.Cell.{Cell}
use Rattle.law_counts_waiting.specs.Below.heap_partition.declared.value.Owned.TheVariants as owned
use Rattle.law_counts_waiting.specs.Below.mut_borrow.declared.mutable.MutRef.{MutRef}
use Rattle.law_counts_waiting.specs.Below.owner_box.View.{PartitionState}
use Rattle.law_counts_waiting.specs.Below.journal.declared.act.Act.TheVariants as act
use Rattle.law_counts_waiting.specs.Below.thread_state.View.{ThreadState}
use Rattle.law_counts_waiting.specs.Below.thread_state.declared.value.Value.{Value}
use Rattle.law_counts_waiting.specs.Below.thread_state.declared.value.Value.TheVariants as value
use Rattle.law_counts_waiting.specs.Below.server_msgs.declared.message.Message.TheVariants as message
use Rattle.law_counts_waiting.specs.Below.place_walk.declared.hop.Hop.TheVariants as jump
use Rattle.law_counts_waiting.specs.Below.place_walk.Hops.{write_hop}
use Rattle.law_counts_waiting.specs.Below.server_model.Servers.{Rest, Server, Cluster, server_at}
use Rattle.law_counts_waiting.specs.Below.server_model.Work.{Hand, thread_in}
use Rattle.law_counts_waiting.specs.Below.server_model.NewWords.{issue_colour}
use Rattle.law_counts_waiting.specs.Below.server_model.Places.{Spot, in_slot, in_cell, value_in, value_at, load_at, pointer_of}
use Rattle.law_counts_waiting.specs.Below.server_model.Prepare.{Prepared, ready, requested, nothing, and_then, ask_object, box_of, local, passing, box_ready, write_by, pass_by, write_value, write_star, write_stars}
use Rattle.law_counts_waiting.specs.Below.coherent_memory.Things.{Location, at_slot, in_cell as in_object}
use Rattle.law_counts_waiting.specs.Below.coherent_memory.Follow.{value_in as value_there}
use Rattle.law_counts_waiting.specs.Below.coherent_memory.Sight.{sight}
use Rattle.law_counts_waiting.specs.Below.coherent_types.ClusterTypes.{IsCoherent}
use Rattle.law_counts_waiting.proofs.Below.law_words_paths.paths.Sole.{some_is}
use Rattle.law_words_ends.proofs.Below.law_words_paths.words.Tints.{slot_stands}
use Rattle.law_counts_waiting.proofs.Below.law_counts_things.things.Mail.{mail_sent}
use Rattle.law_counts_waiting.proofs.Below.law_counts_things.things.Messages.{Light}
use Rattle.law_words_ends.proofs.Below.law_words_kept.reads.Homes.{fresh_word}
use Rattle.law_words_ends.proofs.Below.law_words_kept.prepared.Hands.{put, places, stands}
use Rattle.law_words_ends.proofs.Below.law_results_events.writes.Memory.{Leads, looks}
use Rattle.law_words_ends.proofs.Below.law_results_events.writes.Route.{LeadsBy, Hop, by_slot, by_reference, by_box, by_cell, Route, Writing, At, a_slot, a_cell, Fine, hop_star}
use Rattle.law_words_ends.proofs.Below.law_words_asked.writes.Onward.{IsWritten}
use Rattle.law_words_ends.proofs.Below.law_words_asked.writes.Passing.{State, loaded, noted, passed}
use Rattle.law_words_ends.proofs.Below.law_words_asked.writes.Hops.{Walk, Mine, Boxed, cell_stands}
use Rattle.law_words_ends.proofs.Below.law_words_asked.writes.Walks.{BoxAt, in_a_slot, in_a_cell, one_hop as walk_hop}
use Rattle.law_copies_kept.proofs.references.Asked.{asking}
use Rattle.law_copies_kept.proofs.objects.Turned.{none_or_idle}
use Rattle.law_copies_kept.specs.hidden.Hidden.{NoneUnder}
use Rattle.law_copies_kept.proofs.hidden.Settled.{uncopied}
use Rattle.law_copies_writes.proofs.writes.Hops.{Now, SentBy, CoveredAt, Fair, FairAll, HadCell, passes_on, passes_fair, asks_on, slot_fair, cell_fair}

module _ (k : Cluster) (coherent : IsCoherent k) (s : Server) (here : server_at k.servers s.rest.number ≡ Some s) (t : ℕ) (y : ThreadState) (at : thread_in s.threads t ≡ Some y)
    (r : Rest) (z : ThreadState) (C : ObjNo → Option Cell) (place : ℕ → Option Location) (d : ℕ) (route : Route r z C place d)
    (written : (j : ℕ) → j < d → (l : Location) (o : ObjNo) → place j ≡ Some l → place (suc j) ≡ Some (in_object o) → IsWritten k l o)
    (words_are : (j : ℕ) → j < d → (l : Location) (p : BoxPtr) → place j ≡ Some l → place (suc j) ≡ Some (in_object p.object) → BoxAt z C l p → p.word ≡ coherent.sound.words.have_words.word p.object)
    (refs_are : (j : ℕ) → j < d → (i : ℕ) (q : MutRef) → place j ≡ Some (at_slot z.number i) → place (suc j) ≡ Some (in_object q.object) → slice_get z.slots i ≡ Some (value.Mut q) → q.word ≡ coherent.sound.words.have_words.word q.object)
    (had : (j : ℕ) → j ≤ d → (o : ObjNo) → place j ≡ Some (in_object o) → HadCell k coherent s here t y at o)
    (none_under : (j : ℕ) → j < d → j < z.passed → (l : Location) (p : BoxPtr) → place j ≡ Some l → place (suc j) ≡ Some (in_object p.object) → BoxAt z C l p → NoneUnder k p.word) where
  abbrev n : ℕ
  n = s.rest.number

  abbrev P : Hand → Cluster
  P = put k coherent s here t y at

  abbrev S : Hand → Type 0
  S = State k coherent s here t y at

  abbrev M : Location → Prepared → Type 0
  M = FairAll k coherent s here t y at r

  abbrev W : Hand → Spot → Type 0
  W = Walk k coherent s here t y at

  abbrev F : Hand → Spot → Location → Type 0
  F = Fair k coherent s here t y at

  abbrev N : Hand → Type 0
  N = Now k coherent s here t y at

  abbrev Way : ℕ → Hand → Type 0
  Way = Writing r z C place

  abbrev Spotted : PartitionState → ℕ → Spot → Location → Type 0
  Spotted = At r z C place

  load : (sp : Spot) (h : Hand) → S h → S (load_at sp h)
  load sp h g = loaded k coherent s here t y at sp h g

  -- the hop counts
  local_state : (v : Value) (h : Hand) → S h → S (local v h)
  local_state v h g = by (pointer_of v)
    where
      by : (o : Option BoxPtr) → S (Rattle.law_counts_waiting.specs.Below.server_model.Prepare.hopped (λ p. Rattle.law_counts_waiting.specs.Below.server_model.Work.note (act.Local p.object p.word)) o h)
      by None = g
      by (Some p) = noted k coherent s here t y at (act.Local p.object p.word) h g

  -- ONE HOP

  module _ (j : ℕ) (lt : j < d) (l m : Location) (located : place j ≡ Some l) (next : place (suc j) ≡ Some m) (h : Hand) (w : Way j h) where
    abbrev number_now : ℕ
    number_now = h.work.rest.number

    number : number_now ≡ r.number
    number = ap (λ (x : Rest). x.number) w.rest

    named : h.thread.number ≡ z.number
    named = ap (λ (x : ThreadState). x.number) w.thread

    -- an object that comes next lies where it lay
    ahead : (word : ℕ) (o : ObjNo) (b : LeadsBy r z C place j word o) → m ≡ in_object o → server_of word ≡ number_now → Leads h.work.rest.partition word b.cell
    ahead word o b is mine =
        w.cells word b.cell (b.home (mine ∙ number)) (λ i le e. route.apart (suc j) i (omega (arith, le)) (omega (arith, lt)) m (e ∙ ap (λ x. Some (in_object x)) b.object ∙ ap Some (sym is)) next)

    not_yet : h.thread.passed ≤ j → z.passed ≤ j
    not_yet le = by (nat_lt j z.passed) refl
      where
        by : (b : Bool) → nat_lt j z.passed ≡ b → z.passed ≤ j
        by true e = let less : j < h.thread.passed = w.still j (grind (arith, nat_tests, e)) in absurd (omega (arith, le, less))
        by false e = grind (arith, nat_tests, e)

    written_to : (o : ObjNo) → m ≡ in_object o → IsWritten k l o
    written_to o is = written j lt l o located (next ∙ ap Some is)

    next_cell : (o : ObjNo) → m ≡ in_object o → HadCell k coherent s here t y at o
    next_cell o is = had (suc j) (omega (arith, lt)) o (next ∙ ap Some is)

    -- a request for an object
    asks : (p : BoxPtr) (h1 : Hand) → S h1 → N h1 → h1.work.rest ≡ h.work.rest → M m (requested (ask_object p h1))
    asks p h1 st now same = (
      asks_on k coherent s here t y at p h1 st now,
      λ mail.
          mail_sent (Light (asking (none_or_idle k))) n s.rest.outbox h1.work.rest (server_of p.word) (message.Move p.word p.object h1.work.rest.number h1.thread.number) refl
          (subst (SentBy k coherent s here t y at) (sym (same ∙ w.rest)) mail),
    )

    module _ (sp : Spot) (v : Value) (stands_so : value_at h sp ≡ Some v) where
      star : ((b : Bool) → (b ≡ true → j < z.passed) → (b ≡ false → z.passed ≤ j) → M m (if b then pass_by sp v (write_hop number_now v) (load_at sp h) else write_by j sp v (write_hop number_now v) (load_at sp h))) → M m (write_star j h sp)
      star go =
          subst (λ o. M m (write_value j sp o (load_at sp h))) (sym stands_so)
          (go (nat_lt j h.thread.passed) (λ e. w.passed j (omega arith) (grind (arith, nat_tests, e))) (λ e. not_yet (grind (arith, nat_tests, e))))

    -- a mutable reference to a slot
    slot_star : (sp : Spot) (i : ℕ) → W h sp → N h → value_at h sp ≡ Some (value.MutSlot i) → M m (write_star j h sp)
    slot_star sp i walk now stands_so = star sp (value.MutSlot i) stands_so by
      where
        by : (b : Bool) → (b ≡ true → j < z.passed) → (b ≡ false → z.passed ≤ j) → M m (if b then pass_by sp (value.MutSlot i) (write_hop number_now (value.MutSlot i)) (load_at sp h) else write_by j sp (value.MutSlot i) (write_hop number_now (value.MutSlot i)) (load_at sp h))
        by true e f = record { now = now; covered = tt }
        by false e f = record { now = passes_on k coherent s here t y at (j + 1) (load_at sp h) (load sp h walk.state) now; covered = tt }

    -- a mutable reference to an object
    reference_star : (i : ℕ) (q : MutRef) → W h (in_slot i) → N h → slice_get h.thread.slots i ≡ Some (value.Mut q) → slice_get z.slots i ≡ Some (value.Mut q) → l ≡ at_slot z.number i → m ≡ in_object q.object → M m (write_star j h (in_slot i))
    reference_star i q walk now stands_so stood from is = star (in_slot i) (value.Mut q) stands_so by
      where
        h1 : Hand
        h1 = load_at (in_slot i) h

        st1 : S h1
        st1 = load (in_slot i) h walk.state

        there : IsWritten k (at_slot h.thread.number i) q.object
        there = subst (λ a. IsWritten k a q.object) (from ∙ ap (λ a. at_slot a i) (sym named)) (written_to q.object is)

        its_word : q.word ≡ coherent.sound.words.have_words.word q.object
        its_word = refs_are j lt i q (located ∙ ap Some from) (next ∙ ap Some is) stood

        same_object : (o : ObjNo) → m ≡ in_object o → q.object ≡ o
        same_object o f = let e : in_object q.object ≡ in_object o = sym is ∙ f in cc

        by : (b : Bool) → (b ≡ true → j < z.passed) → (b ≡ false → z.passed ≤ j) → M m (if b then pass_by (in_slot i) (value.Mut q) (write_hop number_now (value.Mut q)) h1 else write_by j (in_slot i) (value.Mut q) (write_hop number_now (value.Mut q)) h1)
        by true e f = at_it (server_of q.word == number_now)
          where
            at_it : (c : Bool) → M m (pass_by (in_slot i) (value.Mut q) (Some (if c then jump.AtCell q.word else jump.NeedMove q.word)) h1)
            at_it true = record { now = now; covered = (q, stands_so, its_word, there, same_object) }
            at_it false = tt
        by false e f = at_it (server_of q.word == number_now)
          where
            at_it : (c : Bool) → M m (write_by j (in_slot i) (value.Mut q) (Some (if c then jump.AtCell q.word else jump.NeedMove q.word)) h1)
            at_it true = record { now = passes_on k coherent s here t y at (j + 1) (local (value.Mut q) h1) (local_state (value.Mut q) h1 st1) now; covered = (q, stands_so, its_word, there, same_object) }
            at_it false = asks (box_of q) h1 st1 now refl

    -- a box
    module _ (sp : Spot) (p : BoxPtr) (walk : W h sp) (fair : F h sp l) (stands_so : value_at h sp ≡ Some (value.Own (owned.Box p))) (is : m ≡ in_object p.object) (b : LeadsBy r z C place j p.word p.object) (box : BoxAt z C l p)
        (stood_now : value_there (sight (P h)).ground l ≡ Some (value.Own (owned.Box p))) where
      abbrev h1 : Hand
      h1 = load_at sp h

      st1 : S h1
      st1 = load sp h walk.state

      its_word : p.word ≡ coherent.sound.words.have_words.word p.object
      its_word = words_are j lt l p located (next ∙ ap Some is) box

      -- what is known of it, where its object is here
      its_box : z.passed ≤ j → server_of p.word ≡ number_now → Boxed k coherent s here t y at (passing (j + 1) h1) p b.cell
      its_box le mine = record {
        state = passed k coherent s here t y at (j + 1) h1 st1;
        later = walk.later;
        word = its_word;
        leads = ahead p.word p.object b is mine;
        object = b.object;
        sane = w.sane (route.sane (omega (arith, lt, le)));
        room = (let a = w.long in let c = route.room in omega (arith, a, c, lt));
      }

      abbrev now : N h
      now = fair.now

      -- reading what stands there changes nothing
      loaded_fair : F h1 sp l
      loaded_fair = record { now = fair.now; covered = fair.covered }

      -- its word today is the one that it had
      word_now : p.word ≡ (fair.now).after.word p.object
      word_now = fresh_word (P h) (fair.now).after l (value.Own (owned.Box p)) p stood_now refl (let u = written_to p.object is in walk.state.onward.fresh l p.object u.sole u.fresh)

      box_star : (F (passing (j + 1) h1) sp l → Boxed k coherent s here t y at (passing (j + 1) h1) p b.cell → M m (box_ready sp (issue_colour p (passing (j + 1) h1).work) (passing (j + 1) h1))) → M m (write_star j h sp)
      box_star puts = star sp (value.Own (owned.Box p)) stands_so by
        where
          by : (c : Bool) → (c ≡ true → j < z.passed) → (c ≡ false → z.passed ≤ j) → M m (if c then pass_by sp (value.Own (owned.Box p)) (write_hop number_now (value.Own (owned.Box p))) h1 else write_by j sp (value.Own (owned.Box p)) (write_hop number_now (value.Own (owned.Box p))) h1)
          by true e f = at_it (server_of p.word == number_now)
            where
              at_it : (c : Bool) → M m (pass_by sp (value.Own (owned.Box p)) (Some (if c then jump.NeedTint p.word else jump.NeedMove p.word)) h1)
              at_it true = record {
                now = now;
                covered = λ o same.
                    (let object : p.object ≡ o = (let g : in_object p.object ≡ in_object o = sym is ∙ same in cc) in
                    uncopied (subst (NoneUnder k) (word_now ∙ ap (fair.now).after.word object) (none_under j lt (e refl) l p located (next ∙ ap Some is) box)));
              }
              at_it false = tt
          by false e f = at_it (server_of p.word == number_now) refl
            where
              at_it : (c : Bool) → (server_of p.word == number_now) ≡ c → M m (write_by j sp (value.Own (owned.Box p)) (Some (if c then jump.NeedTint p.word else jump.NeedMove p.word)) h1)
              at_it true g = puts (passes_fair k coherent s here t y at (j + 1) h1 st1 sp l loaded_fair) (its_box (f refl) (grind (arith, nat_tests, g)))
              at_it false g = asks p h1 st1 now refl

    box_in_slot : (i : ℕ) (p : BoxPtr) → W h (in_slot i) → F h (in_slot i) l → slice_get h.thread.slots i ≡ Some (value.Own (owned.Box p)) → l ≡ at_slot z.number i → m ≡ in_object p.object → LeadsBy r z C place j p.word p.object → BoxAt z C l p → M m (write_star j h (in_slot i))
    box_in_slot i p walk fair stands_so from is b box =
        box_star (in_slot i) p walk fair stands_so is b box
        (ap (value_there (sight (P h)).ground) (from ∙ ap (λ a. at_slot a i) (sym named)) ∙ slot_stands k n s.threads (s.events + 1) h i (value.Own (owned.Box p)) (stands k coherent s here t y at h walk.state.ok) (places k coherent s here t y at h walk.state.ok) stands_so)
        (λ fair2 known. slot_fair k coherent s here t y at (passing (j + 1) (load_at (in_slot i) h)) i p b.cell known fair2.now stands_so (subst (λ a. IsWritten k a p.object) (from ∙ ap (λ a. at_slot a i) (sym named)) (written_to p.object is)) (next_cell p.object is) r m is)

    box_in_cell : (word : ℕ) (q : Option ℕ) (o : ObjNo) (c : Cell) (p : BoxPtr) → W h (in_cell word q) → F h (in_cell word q) l → Leads h.work.rest.partition word c → c.object ≡ o → c.value ≡ owned.Box p → l ≡ in_object o → m ≡ in_object p.object → LeadsBy r z C place j p.word p.object → BoxAt z C l p
        → M m (write_star j h (in_cell word q))
    box_in_cell word q o c p walk fair leads object boxed from is b box =
        box_star (in_cell word q) p walk fair (ap value_in (looks h.work.rest.partition word c leads) ∙ ap (λ x. Some (value.Own x)) boxed) is b box
        (ap (value_there (sight (P h)).ground) cell_is ∙ cell_stands k coherent s here t y at h walk.state.ok word c leads ∙ ap (λ x. Some (value.Own x)) boxed)
        (λ fair2 known. cell_fair k coherent s here t y at (passing (j + 1) (load_at (in_cell word q) h)) word q c p b.cell known fair2.now leads boxed other (subst (λ a. IsWritten k a p.object) cell_is (written_to p.object is))
        (subst (CoveredAt k coherent s here t y at (passing (j + 1) (load_at (in_cell word q) h)) (fair2.now).after (in_cell word q)) cell_is fair2.covered) (had j (omega (arith, lt)) c.object (located ∙ ap Some cell_is)) (next_cell p.object is) r m is)
      where
        cell_is : l ≡ in_object c.object
        cell_is = from ∙ ap in_object (sym object)

        -- the object isn't the next one
        other : c.object ≡ p.object → ⊥
        other e = route.apart (suc j) j (omega arith) (omega (arith, lt)) m (located ∙ ap Some cell_is ∙ ap (λ x. Some (in_object x)) e ∙ ap Some (sym is)) next

    -- whatever stands there
    pub one_fair : (sp : Spot) → Spotted h.work.rest.partition j sp l → W h sp → F h sp l → M m (write_star j h sp)
    one_fair sp spot walk fair = by l l m refl refl refl sp spot walk fair (route.hop j lt l m located next)
      where
        slot_value : (i : ℕ) (v : Value) → l ≡ at_slot z.number i → slice_get z.slots i ≡ Some v → slice_get h.thread.slots i ≡ Some v
        slot_value i v from e = w.slots i (λ q less f. route.apart j q less (omega (arith, lt)) l (f ∙ ap Some (sym from)) located) ∙ e

        same_slot : {a b : ℕ} → at_slot z.number a ≡ at_slot z.number b → a ≡ b
        same_slot e = cc

        same_object : {a b : ObjNo} → in_object a ≡ in_object b → a ≡ b
        same_object e = cc

        no_object : {a : ℕ} {o : ObjNo} → at_slot z.number a ≡ in_object o → ⊥
        no_object e = absurd (cc e)

        by : (a a2 b : Location) → l ≡ a → l ≡ a2 → m ≡ b → (sp : Spot) → Spotted h.work.rest.partition j sp a → W h sp → F h sp l → Hop r z C place j a2 b → M m (write_star j h sp)
        by _ _ _ from from2 to _ (a_slot i) walk fair (by_slot i2 b e) = let same : i ≡ i2 = same_slot (sym from ∙ from2) in slot_star (in_slot i) b walk fair.now (slot_value i (value.MutSlot b) from (ap (slice_get z.slots) same ∙ e))
        by _ _ _ from from2 to _ (a_slot i) walk fair (by_reference i2 q e b) =
            let same : i ≡ i2 = same_slot (sym from ∙ from2) in
            let stood = ap (slice_get z.slots) same ∙ e in
            reference_star i q walk fair.now (slot_value i (value.Mut q) from stood) stood from to
        by _ _ _ from from2 to _ (a_slot i) walk fair (by_box i2 p e b) =
            let same : i ≡ i2 = same_slot (sym from ∙ from2) in
            box_in_slot i p walk fair (slot_value i (value.Own (owned.Box p)) from (ap (slice_get z.slots) same ∙ e)) from to b (in_a_slot i2 from2 e)
        by _ _ _ from from2 to _ (a_slot i) walk fair (by_cell o c p there boxed b) = absurd (no_object (sym from ∙ from2))
        by _ _ _ from from2 to _ (a_cell word q o c leads there object behind) walk fair (by_slot i2 b e) = absurd (no_object (sym from2 ∙ from))
        by _ _ _ from from2 to _ (a_cell word q o c leads there object behind) walk fair (by_reference i2 x e b) = absurd (no_object (sym from2 ∙ from))
        by _ _ _ from from2 to _ (a_cell word q o c leads there object behind) walk fair (by_box i2 p e b) = absurd (no_object (sym from2 ∙ from))
        by _ _ _ from from2 to _ (a_cell word q o c leads there object behind) walk fair (by_cell o2 c2 p there2 boxed b) =
            let same : o ≡ o2 = same_object (sym from ∙ from2) in
            let one : c ≡ c2 = some_is (sym there ∙ ap C same ∙ there2) in
            box_in_cell word q o c p walk fair leads object (ap (λ (x : Cell). x.value) one ∙ boxed) from to b (in_a_cell o2 c2 from2 there2 boxed)

  -- ALL HOPS

  abbrev Ready : ℕ → Prepared → Type 0
  Ready = Fine r z C place ⊤

  -- what is known where it is ready at the end
  pub data AllFair : Prepared → Type 0 where
    ready_fair : {h : Hand} {sp : Spot} (l : Location) → place d ≡ Some l → Spotted h.work.rest.partition d sp l → Way d h → W h sp → F h sp l → AllFair (ready h sp)
    asks_fair : {h : Hand} → N h → (SentBy k coherent s here t y at r → SentBy k coherent s here t y at h.work.rest) → AllFair (requested h)
    no_fair : AllFair nothing

  then_fair : (j : ℕ) (l : Location) → place j ≡ Some l → (go : Hand → Spot → Prepared) (x : Prepared) → Ready j x → Mine k coherent s here t y at x → M l x
      → ((h : Hand) (sp : Spot) → Spotted h.work.rest.partition j sp l → Way j h → W h sp → F h sp l → AllFair (go h sp)) → AllFair (and_then go x)
  then_fair j l located go (ready h sp) f g fair on = let same : f.0 ≡ l = some_is (sym f.1 ∙ located) in on h sp (subst (Spotted h.work.rest.partition j sp) same f.2) f.3 g fair
  then_fair j l located go (requested h) f g fair on = asks_fair fair.0 fair.1
  then_fair j l located go nothing f g fair on = no_fair

  pub all_fair : (more j : ℕ) → j + more ≡ d → (h : Hand) (sp : Spot) (l : Location) → place j ≡ Some l → Spotted h.work.rest.partition j sp l → Way j h → W h sp → F h sp l → AllFair (write_stars more j h sp)
  all_fair zero j e h sp l located spot w walk fair = let same : j ≡ d = omega (arith, e) in ready_fair l (ap place (sym same) ∙ located) (subst (λ i. Spotted h.work.rest.partition i sp l) same spot) (subst (λ i. Way i h) same w) walk fair
  all_fair (suc more) j e h sp l located spot w walk fair =
      let lt : j < d = omega (arith, e) in
      let m = route.leads_there (suc j) (omega (arith, lt)) in
      let one : suc j ≡ j + 1 = omega arith in
      then_fair (suc j) m.0 m.1 (write_stars more (j + 1)) (write_star j h sp) (hop_star r z C place ⊤ d route (λ i less le. tt) j lt l m.0 located m.1 h w sp spot)
      (walk_hop k coherent s here t y at r z C place d route written words_are j lt l m.0 located m.1 h w sp spot walk) (one_fair j lt l m.0 located m.1 h w sp spot walk fair)
      (λ h2 sp2 spot2 w2 walk2 fair2. subst (λ i. AllFair (write_stars more i h2 sp2)) one (all_fair more (suc j) (omega (arith, e)) h2 sp2 m.0 m.1 spot2 w2 walk2 fair2))
