-- A place that is followed for writing, star by star: each box that is passed has a good word, as the words that are issued on the way are good, and those of boxes that were passed before.
use Rattle.std.proofs.Common.{◌≡◌, ℕ, zero, suc, ◌+◌, ◌<◌, ◌≤◌, ◌^◌, ◌==◌, nat_lt, Bool, true, false, if◌then◌else◌, length, Option, Some, None, refl, sym, ap, subst, ◌∙◌, arith}
use Rattle.std.specs.Bool.{⊤}
use Rattle.std.proofs.lemmas.Bool.Decides.{nat_tests}
use Rattle.law_copies_kept.specs.Below.fr_base.declared.name.ObjNo.{ObjNo}
use Rattle.law_copies_kept.specs.Below.global_addr.Words.{colour_of, server_of, next_word}
use Rattle.law_copies_kept.specs.Below.heap_partition.declared.value.BoxPtr.{BoxPtr}
use Rattle.law_copies_kept.specs.Below.heap_partition.declared.value.Cell.{Cell}
use Rattle.law_copies_kept.specs.Below.heap_partition.declared.value.Owned.TheVariants as owned
use Rattle.law_copies_kept.specs.Below.owner_box.View.{PartitionState}
use Rattle.law_copies_kept.specs.Below.owner_box.Partition.{freed, new_word}
use Rattle.law_copies_kept.specs.Below.thread_state.View.{ThreadState}
use Rattle.law_copies_kept.specs.Below.thread_state.declared.value.Value.{Value}
use Rattle.law_copies_kept.specs.Below.thread_state.declared.value.Value.TheVariants as value
use Rattle.law_copies_kept.specs.Below.journal.declared.act.Act.TheVariants as act
use Rattle.law_copies_kept.specs.Below.place_walk.declared.hop.Hop.{Hop as Jump}
use Rattle.law_copies_kept.specs.Below.place_walk.declared.hop.Hop.TheVariants as jump
use Rattle.law_copies_kept.specs.Below.place_walk.Hops.{write_hop}
use Rattle.law_copies_kept.specs.Below.server_model.Servers.{Rest}
use Rattle.law_copies_kept.specs.Below.server_model.Work.{Hand, note}
use Rattle.law_copies_kept.specs.Below.server_model.NewWords.{NewWord, issue_tint, issue_renewal, issue_colour}
use Rattle.law_copies_kept.specs.Below.server_model.Places.{Spot, in_slot, in_cell, value_in, value_at, load_at, pointer_of, put_word}
use Rattle.law_copies_kept.specs.Below.server_model.Prepare.{ready, ready_at, hopped, local, passing, box_ready, write_by, pass_by, write_value, write_star, write_stars}
use Rattle.law_copies_kept.specs.Below.coherent_memory.Things.{Location, at_slot, at_temp, in_cell as in_object}
use Rattle.law_copies_kept.specs.Below.coherent_memory.Follow.{value_of}
use Rattle.law_copies_kept.proofs.Below.law_words_paths.paths.Sole.{some_is}
use Rattle.law_walks_own.proofs.Below.law_walks_others.pointers.Steps.{less_far}
use Rattle.law_walks_others.proofs.Below.law_results_events.writes.Memory.{Leads, looks, Sane, Issues, colour_issued}
use Rattle.law_walks_others.proofs.Below.law_results_events.writes.Route.{Route, Hop, LeadsBy, by_slot, by_reference, by_box, by_cell, Writing, At, a_slot, a_cell, Fine, begins, all_hops}
use Rattle.law_walks_others.proofs.Below.law_words_asked.writes.Later.{Later, later_stored, later_renewed}
use Rattle.law_walks_others.proofs.Below.law_words_asked.writes.Hops.{renewed_work}
use Rattle.law_walks_own.proofs.steps.Stops.{all_written}
use Rattle.law_walks_own.proofs.steps.Through.{stood}
use Rattle.law_walks_own.proofs.passed.Good.{GoodValue, GoodSlot, GoodCell, GoodAt, SetsSlot, sets_slot, SetsCell, sets_cell}

module _ (r : Rest) (y : ThreadState) (C : ObjNo → Option Cell) (at : ℕ → Option Location) (d : ℕ) (route : Route r y C at d) (h1 : Hand) (rest_is : h1.work.rest ≡ r) (thread_is : h1.thread ≡ y) (slot : ℕ) (from : at 0 ≡ Some (at_slot y.number slot)) (P : PartitionState) (Good : ℕ → Type 0) where
  abbrev pub Stood : Location → Option Value
  Stood l = stood r y C at d route h1 rest_is thread_is slot from l

  -- which words are good: the next colours of the boxes on the way, those of new addresses, and those of boxes that were passed before
  pub record Words : Type 0 where
    pub later : Later P r.partition
    pub next : (j : ℕ) (l : Location) (p : BoxPtr) → j < d → at j ≡ Some l → stood r y C at d route h1 rest_is thread_is slot from l ≡ Some (value.Own (owned.Box p)) → Good (next_word p.word)
    pub renewed : (q : PartitionState) (w : ℕ) → Later P q → Sane q → length q.cells < 2 ^ 40 → colour_of w + 1 ≡ q.limit → Good (new_word (freed q w))
    pub before : (j : ℕ) (l : Location) (p : BoxPtr) → j < y.passed → j < d → at j ≡ Some l → stood r y C at d route h1 rest_is thread_is slot from l ≡ Some (value.Own (owned.Box p)) → Good p.word

  module _ (words : Words) where
    abbrev tn : ℕ
    tn = y.number

    -- THE HANDS ON THE WAY

    abbrev Arrived : ℕ → Hand → Spot → Type 0
    Arrived j h sp = (l : Location) × (at j ≡ Some l) × At r y C at h.work.rest.partition j sp l × Writing r y C at j h

    arrives : (j : ℕ) → j ≤ d → (h : Hand) (sp : Spot) → write_stars j 0 h1 (in_slot slot) ≡ ready h sp → Arrived j h sp
    arrives j le h sp e =
        subst (Fine r y C at ⊤ j) e (all_hops r y C at ⊤ j (less_far r y C at d j le route) (λ a less more. tt) j 0 (omega arith) h1 (in_slot slot) (at_slot tn slot) from (a_slot slot) (begins r y C at h1 rest_is thread_is))

    stands_still : (j : ℕ) → j ≤ d → (h : Hand) (sp : Spot) (l : Location) → at j ≡ Some l → At r y C at h.work.rest.partition j sp l → Writing r y C at j h → value_at h sp ≡ Stood l
    stands_still j le h _ _ located (a_slot m) w = w.slots m (λ i lt e. route.apart j i lt le (at_slot tn m) e located)
    stands_still j le h _ _ located (a_cell u q o c leads there object behind) w = ap value_in (looks h.work.rest.partition u c leads) ∙ sym (ap value_of there)

    -- each box behind has a good word
    pub record Behind (j : ℕ) (h : Hand) : Type 0 where
      pub later : Later P h.work.rest.partition
      pub good : (i : ℕ) → i < j → (l : Location) → at i ≡ Some l → GoodAt Good h.work.rest.partition h.thread.slots l

    -- ONE STAR

    ready_is : {a b : Hand} {s u : Spot} → ready a s ≡ ready b u → b ≡ a
    ready_is e = cc

    no_object : {t m : ℕ} {o : ObjNo} → at_slot t m ≡ in_object o → ⊥
    no_object e = absurd (cc e)

    module _ (j : ℕ) (lt : j < d) (h : Hand) (sp : Spot) (l : Location) (located : at j ≡ Some l) (spot : At r y C at h.work.rest.partition j sp l) (w : Writing r y C at j h) (behind : Behind j h) (h2 : Hand) where
      abbrev N : ℕ
      N = h.work.rest.number

      abbrev Q : PartitionState
      Q = h.work.rest.partition

      still : value_at h sp ≡ Stood l
      still = stands_still j (omega (arith, lt)) h sp l located spot w

      -- what stands there has a good word
      good_here : (v : Value) → value_at h sp ≡ Some v → GoodValue Good v → GoodAt Good Q h.thread.slots l
      good_here v e g = by sp l spot e
        where
          by : (sp : Spot) (l : Location) → At r y C at Q j sp l → value_at h sp ≡ Some v → GoodAt Good Q h.thread.slots l
          by _ _ (a_slot m) f = λ v2 q. subst (GoodValue Good) (some_is (sym f ∙ q)) g
          by _ _ (a_cell u q o c leads there object b) f =
              let same : v ≡ value.Own c.value = some_is (sym f ∙ ap value_in (looks Q u c leads)) in
              record { word = u; cell = c; leads = leads; object = object; good = subst (GoodValue Good) same g }

      -- where nothing moves
      unmoved : (v : Value) → value_at h sp ≡ Some v → GoodValue Good v → (a : Hand) → h2 ≡ a → a.work.rest.partition ≡ Q → a.thread.slots ≡ h.thread.slots → Behind (suc j) h2
      unmoved v e g a is part slots = record {
        later = subst (Later P) (sym same_part) behind.later;
        good = λ i less m f. subst (λ vs. GoodAt Good h2.work.rest.partition vs m) (sym same_slots) (subst (λ x. GoodAt Good x h.thread.slots m) (sym same_part) (each i less m f (nat_lt i j) refl));
      }
        where
          same_part : h2.work.rest.partition ≡ Q
          same_part = ap (λ (x : Hand). x.work.rest.partition) is ∙ part

          same_slots : h2.thread.slots ≡ h.thread.slots
          same_slots = ap (λ (x : Hand). x.thread.slots) is ∙ slots

          each : (i : ℕ) → i < suc j → (m : Location) → at i ≡ Some m → (b : Bool) → nat_lt i j ≡ b → GoodAt Good Q h.thread.slots m
          each i less m f true q = behind.good i (grind (arith, nat_tests, q)) m f
          each i less m f false q =
              let le : j ≤ i = grind (arith, nat_tests, q) in
              let same : i ≡ j = omega (arith, le, less) in
              let at_it : l ≡ m = some_is (sym located ∙ ap at (sym same) ∙ f) in
              subst (GoodAt Good Q h.thread.slots) at_it (good_here v e g)

      local_partition : (v : Value) (a : Hand) → (local v a).work.rest.partition ≡ a.work.rest.partition
      local_partition v a = by (pointer_of v)
        where
          by : (o : Option BoxPtr) → (hopped (λ p. note (act.Local p.object p.word)) o a).work.rest.partition ≡ a.work.rest.partition
          by None = refl
          by (Some p) = refl

      local_slots : (v : Value) (a : Hand) → (local v a).thread.slots ≡ a.thread.slots
      local_slots v a = by (pointer_of v)
        where
          by : (o : Option BoxPtr) → (hopped (λ p. note (act.Local p.object p.word)) o a).thread.slots ≡ a.thread.slots
          by None = refl
          by (Some p) = refl

      abbrev h0 : Hand
      h0 = load_at sp h

      -- a hop that was passed before
      passes : (v : Value) → value_at h sp ≡ Some v → j < y.passed → (sp2 : Spot) (o : Option Jump) → pass_by sp v o h0 ≡ ready h2 sp2 → Behind (suc j) h2
      passes v e less sp2 o f = by o f
        where
          good : GoodValue Good v
          good p is = words.before j l p less lt located (sym still ∙ e ∙ ap (λ x. Some x) is)

          by : (o : Option Jump) → pass_by sp v o h0 ≡ ready h2 sp2 → Behind (suc j) h2
          by (Some (jump.Slot i)) f = unmoved v e good h0 (ready_is f) refl refl
          by (Some (jump.NeedTint u)) f = unmoved v e good h0 (ready_is f) refl refl
          by (Some (jump.AtCell u)) f = unmoved v e good (local v h0) (ready_is f) (local_partition v h0) (local_slots v h0)
          by (Some (jump.Direct u)) f = absurd (cc f)
          by (Some (jump.Hit u)) f = absurd (cc f)
          by (Some (jump.NeedCopy u)) f = absurd (cc f)
          by (Some (jump.NeedMove u)) f = absurd (cc f)
          by None f = absurd (cc f)

      -- A BOX GETS ITS WORD

      module _ (p : BoxPtr) (stands : value_at h sp ≡ Some (value.Own (owned.Box p))) (here : server_of p.word ≡ N) (ahead_of : y.passed ≤ j) where
        stood_so : Stood l ≡ Some (value.Own (owned.Box p))
        stood_so = sym still ∙ stands

        way : (m : Location) × (at (suc j) ≡ Some m)
        way = route.leads_there (suc j) (omega (arith, lt))

        abbrev m : Location
        m = way.0

        next : at (suc j) ≡ Some m
        next = way.1

        led : LeadsBy r y C at j p.word p.object × (m ≡ in_object p.object)
        led = by l m (route.hop j lt l m located next) stood_so
          where
            box_same : {a b : BoxPtr} → Some (value.Own (owned.Box a)) ≡ Some (value.Own (owned.Box b)) → a ≡ b
            box_same e = cc

            as_it : (b : BoxPtr) → b ≡ p → LeadsBy r y C at j b.word b.object → LeadsBy r y C at j p.word p.object × (in_object b.object ≡ in_object p.object)
            as_it b e x = (subst (λ (q : BoxPtr). LeadsBy r y C at j q.word q.object) e x, ap (λ (q : BoxPtr). in_object q.object) e)

            by : (a c : Location) → Hop r y C at j a c → Stood a ≡ Some (value.Own (owned.Box p)) → LeadsBy r y C at j p.word p.object × (c ≡ in_object p.object)
            by _ _ (by_slot i k e) f = let no = sym e ∙ f in absurd (cc no)
            by _ _ (by_reference i q e b) f = let no = sym e ∙ f in absurd (cc no)
            by _ _ (by_box i b e x) f = as_it b (box_same (sym e ∙ f)) x
            by _ _ (by_cell o c b there boxed x) f = as_it b (box_same (sym (ap (λ u. Some (value.Own u)) boxed) ∙ sym (ap value_of there) ∙ f)) x

        abbrev b : LeadsBy r y C at j p.word p.object
        b = led.0

        number : N ≡ r.number
        number = ap (λ (x : Rest). x.number) w.rest

        to_it : at (suc j) ≡ Some (in_object p.object)
        to_it = next ∙ ap (λ x. Some x) led.1

        ahead : Leads Q p.word b.cell
        ahead = w.cells p.word b.cell (b.home (here ∙ number)) (λ i le e. route.apart (suc j) i (omega (arith, le)) (omega (arith, lt)) (in_object p.object) (e ∙ ap (λ x. Some (in_object x)) b.object) to_it)

        sane : Sane Q
        sane = w.sane (route.sane (omega (arith, lt, ahead_of)))

        room : length Q.cells < 2 ^ 40
        room = let a = w.long in let c = route.room in omega (arith, a, c, lt)

        abbrev h3 : Hand
        h3 = passing (j + 1) h0

        issued : (n : NewWord) × (issue_colour p h3.work ≡ Some n) × Issues h3.work b.cell n
        issued = colour_issued p h3.work b.cell sane ahead room

        abbrev n : NewWord
        n = issued.0

        -- the word is good
        word_so : Good n.word × Later P n.work.rest.partition
        word_so = by (nat_lt (colour_of p.word + 1) Q.limit) issued.1
          where
            same_word : {a c : NewWord} → Some a ≡ Some c → c ≡ a
            same_word e = cc

            by : (t : Bool) → (if t then Some (issue_tint p h3.work) else issue_renewal p h3.work) ≡ Some n → Good n.word × Later P n.work.rest.partition
            by true e = let same : n ≡ issue_tint p h3.work = same_word e in subst (λ (x : NewWord). Good x.word × Later P x.work.rest.partition) (sym same) (words.next j l p lt located stood_so, behind.later)
            by false e =
                let left = renewed_work p h3.work n e in (
                  subst Good (sym left.0) (words.renewed Q p.word behind.later sane room left.2),
                  subst (Later P) (sym (ap (λ (x : Rest). x.partition) left.1)) (later_renewed P Q p.word left.2 behind.later),
                )

        -- an object behind isn't the next one
        not_next : (i : ℕ) → i < suc j → (o : ObjNo) → at i ≡ Some (in_object o) → o ≡ b.cell.object → ⊥
        not_next i less o e same = route.apart (suc j) i less (omega (arith, lt)) (in_object p.object) (e ∙ ap (λ x. Some (in_object x)) (same ∙ b.object)) to_it

        issued_on : (o : ObjNo) → (o ≡ b.cell.object → ⊥) → GoodCell Good Q o → GoodCell Good n.work.rest.partition o
        issued_on o ne a = let given = (issued.2).given in record { word = a.word; cell = a.cell; leads = given.others a.word a.cell a.leads (λ f. ne (sym a.object ∙ f)); object = a.object; good = a.good }

        abbrev hm : Hand
        hm = record h3 { work = n.work }

        in_a_slot : (i : ℕ) → l ≡ at_slot tn i → SetsSlot Good hm h2 i → Behind (suc j) h2
        in_a_slot i is s = record {
          later = subst (Later P) (sym s.partition) word_so.1;
          good = λ q less a f. each q less a f (nat_lt q j) refl;
        }
          where
            was : (a : Location) (q : ℕ) → q < j → at q ≡ Some a → GoodAt Good Q h.thread.slots a → GoodAt Good h2.work.rest.partition h2.thread.slots a
            was (at_slot t k) q less f g = s.slots k g
            was (at_temp t k) q less f g = tt
            was (in_object o) q less f g = subst (λ x. GoodCell Good x o) (sym s.partition) (issued_on o (not_next q (omega (arith, less)) o f) g)

            each : (q : ℕ) → q < suc j → (a : Location) → at q ≡ Some a → (t : Bool) → nat_lt q j ≡ t → GoodAt Good h2.work.rest.partition h2.thread.slots a
            each q less a f true e = let small : q < j = grind (arith, nat_tests, e) in was a q small f (behind.good q small a f)
            each q less a f false e =
                let le : j ≤ q = grind (arith, nat_tests, e) in
                let same : q ≡ j = omega (arith, le, less) in
                let at_it : at_slot tn i ≡ a = sym is ∙ some_is (sym located ∙ ap at (sym same) ∙ f) in
                subst (GoodAt Good h2.work.rest.partition h2.thread.slots) at_it s.here

        in_a_cell : (u : ℕ) (c : Cell) → l ≡ in_object c.object → SetsCell Good hm h2 u c → Behind (suc j) h2
        in_a_cell u c is s = record {
          later = subst (Later P) (sym s.partition) (later_stored P n.work.rest.partition u s.value word_so.1);
          good = λ q less a f. each q less a f (nat_lt q j) refl;
        }
          where
            not_this : (q : ℕ) → q < j → (o : ObjNo) → at q ≡ Some (in_object o) → o ≡ c.object → ⊥
            not_this q less o f same = route.apart j q less (omega (arith, lt)) l (f ∙ ap (λ x. Some (in_object x)) same ∙ ap (λ x. Some x) (sym is)) located

            was : (a : Location) (q : ℕ) → q < j → at q ≡ Some a → GoodAt Good Q h.thread.slots a → GoodAt Good h2.work.rest.partition h2.thread.slots a
            was (at_slot t k) q less f g = s.slots k g
            was (at_temp t k) q less f g = tt
            was (in_object o) q less f g = s.others o (not_this q less o f) (issued_on o (not_next q (omega (arith, less)) o f) g)

            each : (q : ℕ) → q < suc j → (a : Location) → at q ≡ Some a → (t : Bool) → nat_lt q j ≡ t → GoodAt Good h2.work.rest.partition h2.thread.slots a
            each q less a f true e = let small : q < j = grind (arith, nat_tests, e) in was a q small f (behind.good q small a f)
            each q less a f false e =
                let le : j ≤ q = grind (arith, nat_tests, e) in
                let same : q ≡ j = omega (arith, le, less) in
                let at_it : in_object c.object ≡ a = sym is ∙ some_is (sym located ∙ ap at (sym same) ∙ f) in
                subst (GoodAt Good h2.work.rest.partition h2.thread.slots) at_it s.here

        put_so : put_word sp n h3 ≡ Some h2 → Behind (suc j) h2
        put_so e = by sp l refl spot e
          where
            by : (a : Spot) (c : Location) → l ≡ c → At r y C at Q j a c → put_word a n h3 ≡ Some h2 → Behind (suc j) h2
            by _ _ is (a_slot i) f = in_a_slot i is (sets_slot Good i n.word hm h2 word_so.0 f)
            by _ _ is (a_cell u q o c leads there object bh) f =
                let given = (issued.2).given in
                let on : Leads n.work.rest.partition u c = given.others u c leads (not_next j (omega arith) c.object (located ∙ ap (λ x. Some x) is ∙ ap (λ x. Some (in_object x)) (sym object))) in
                in_a_cell u c (is ∙ ap in_object (sym object)) (sets_cell Good u q n.word c hm h2 on word_so.0 f)

        box_so : (sp2 : Spot) → box_ready sp (issue_colour p h3.work) h3 ≡ ready h2 sp2 → Behind (suc j) h2
        box_so sp2 e = by (put_word sp n h3) refl (sym (ap (λ o. box_ready sp o h3) issued.1) ∙ e)
          where
            by : (o : Option Hand) → put_word sp n h3 ≡ o → ready_at (in_cell n.word None) o ≡ ready h2 sp2 → Behind (suc j) h2
            by None q f = absurd (cc f)
            by (Some a) q f = put_so (q ∙ ap (λ x. Some x) (sym (ready_is f)))

      -- a hop that no event made ready yet
      goes : (v : Value) → value_at h sp ≡ Some v → y.passed ≤ j → (sp2 : Spot) → write_by j sp v (write_hop N v) h0 ≡ ready h2 sp2 → Behind (suc j) h2
      goes (value.Own (owned.Box p)) e le sp2 f = by (server_of p.word == N) refl f
        where
          by : (t : Bool) → (server_of p.word == N) ≡ t → write_by j sp (value.Own (owned.Box p)) (Some (if t then jump.NeedTint p.word else jump.NeedMove p.word)) h0 ≡ ready h2 sp2 → Behind (suc j) h2
          by true q g = box_so p e (grind (arith, nat_tests, q)) le sp2 g
          by false q g = absurd (cc g)
      goes (value.Mut q) e le sp2 f = by (server_of q.word == N) f
        where
          by : (t : Bool) → write_by j sp (value.Mut q) (Some (if t then jump.AtCell q.word else jump.NeedMove q.word)) h0 ≡ ready h2 sp2 → Behind (suc j) h2
          by true g = unmoved (value.Mut q) e (λ p is. absurd (cc is)) (passing (j + 1) (local (value.Mut q) h0)) (ready_is g) (local_partition (value.Mut q) h0) (local_slots (value.Mut q) h0)
          by false g = absurd (cc g)
      goes (value.MutSlot i) e le sp2 f = unmoved (value.MutSlot i) e (λ p is. absurd (cc is)) (passing (j + 1) h0) (ready_is f) refl refl
      goes (value.Own owned.Nothing) e le sp2 f = absurd (cc f)
      goes (value.Own owned.Unit) e le sp2 f = absurd (cc f)
      goes (value.Own (owned.Int i)) e le sp2 f = absurd (cc f)
      goes (value.Own (owned.Mutex i)) e le sp2 f = absurd (cc f)
      goes (value.Own (owned.Task i)) e le sp2 f = absurd (cc f)
      goes value.Gone e le sp2 f = absurd (cc f)
      goes (value.SharedSlot i) e le sp2 f = absurd (cc f)
      goes (value.Shared q) e le sp2 f = absurd (cc f)
      goes (value.Held i) e le sp2 f = absurd (cc f)

      one_star : (sp2 : Spot) → write_star j h sp ≡ ready h2 sp2 → Behind (suc j) h2
      one_star sp2 e = by (value_at h sp) refl e
        where
          not_yet : nat_lt j h.thread.passed ≡ false → y.passed ≤ j
          not_yet q = at_it (nat_lt j y.passed) refl
            where
              at_it : (t : Bool) → nat_lt j y.passed ≡ t → y.passed ≤ j
              at_it true f = let more : j < h.thread.passed = w.still j (grind (arith, nat_tests, f)) in let le : h.thread.passed ≤ j = grind (arith, nat_tests, q) in absurd (omega (arith, more, le))
              at_it false f = grind (arith, nat_tests, f)

          tested : (v : Value) → value_at h sp ≡ Some v → (t : Bool) → nat_lt j h.thread.passed ≡ t → (if t then pass_by sp v (write_hop N v) h0 else write_by j sp v (write_hop N v) h0) ≡ ready h2 sp2 → Behind (suc j) h2
          tested v q true f g = passes v q (w.passed j (omega arith) (grind (arith, nat_tests, f))) sp2 (write_hop N v) g
          tested v q false f g = goes v q (not_yet f) sp2 g

          by : (o : Option Value) → value_at h sp ≡ o → write_value j sp o h0 ≡ ready h2 sp2 → Behind (suc j) h2
          by None q f = absurd (cc f)
          by (Some v) q f = tested v q (nat_lt j h.thread.passed) refl f

    -- ALL STARS

    pub all_good : (j : ℕ) → j ≤ d → (h : Hand) (sp : Spot) → write_stars j 0 h1 (in_slot slot) ≡ ready h sp → Behind j h
    all_good zero le h sp e = record { later = subst (λ (x : Rest). Later P x.partition) (sym rest_is ∙ ap (λ (x : Hand). x.work.rest) (sym (ready_is e))) words.later; good = λ i lt. absurd (omega (arith, lt)) }
    all_good (suc j) le h sp e =
        let q = all_written (suc j) 0 h1 (in_slot slot) h sp e j (omega arith) in
        let a = arrives j (omega (arith, le)) q.hand q.spot q.so_far in
        let less : j < d = omega (arith, le) in
        let zero_more : 0 + j ≡ j = omega arith in
        let before = all_good j (omega (arith, le)) q.hand q.spot q.so_far in
        let done = one_star j less q.hand q.spot a.0 a.1 a.2 a.3 before q.next q.behind (subst (λ i. write_star i q.hand q.spot ≡ ready q.next q.behind) zero_more q.star) in
        subst (Behind (suc j)) (sym (ready_is (sym q.one_more ∙ e))) done

  -- WHERE NOTHING IS PASSED ANEW

  module _ (before : (j : ℕ) (l : Location) (p : BoxPtr) → j < y.passed → j < d → at j ≡ Some l → stood r y C at d route h1 rest_is thread_is slot from l ≡ Some (value.Own (owned.Box p)) → Good p.word) where
    slot_was : (i m : ℕ) → i < y.passed → i < d → at i ≡ Some (at_slot y.number m) → GoodSlot Good y.slots m
    slot_was i m less lt e v f p is = before i (at_slot y.number m) p less lt e (f ∙ ap (λ x. Some x) is)

    cell_was : (i word : ℕ) (o : ObjNo) → suc i < y.passed → suc i < d → at (suc i) ≡ Some (in_object o) → LeadsBy r y C at i word o → GoodCell Good r.partition o
    cell_was i word o less lt e b = record {
      word = word;
      cell = b.cell;
      leads = b.home (b.passed (omega (arith, less)));
      object = b.object;
      good = λ p is. before (suc i) (in_object o) p less lt e (ap value_of b.there ∙ ap (λ x. Some x) is);
    }

    pub were_good : (i : ℕ) → i < y.passed → i < d → (l : Location) → at i ≡ Some l → GoodAt Good r.partition y.slots l
    were_good zero less lt l e = subst (GoodAt Good r.partition y.slots) (some_is (sym from ∙ e)) (slot_was zero slot less lt from)
    were_good (suc i) less lt l e =
        let a = route.leads_there i (omega (arith, lt)) in
        by a.0 l (route.hop i (omega (arith, lt)) a.0 l a.1 e) e
      where
        by : (a b : Location) → Hop r y C at i a b → at (suc i) ≡ Some b → GoodAt Good r.partition y.slots b
        by _ _ (by_slot m k f) g = slot_was (suc i) k less lt g
        by _ _ (by_reference m q f x) g = cell_was i q.word q.object less lt g x
        by _ _ (by_box m p f x) g = cell_was i p.word p.object less lt g x
        by _ _ (by_cell o c p there boxed x) g = cell_was i p.word p.object less lt g x
