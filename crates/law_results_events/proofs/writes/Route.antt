-- A place that is followed for writing: whatever words its pointers get on the way, what lies ahead is as it was, so each hop is ready or its object is asked for.
use Rattle.std.proofs.Common.{◌≡◌, ℕ, zero, suc, ◌+◌, ◌<◌, ◌≤◌, ◌^◌, ◌==◌, nat_lt, Bool, true, false, if◌then◌else◌, List, [], ◌∷◌, length, Option, Some, None, refl, sym, ap, subst, ◌∙◌, arith}
use Rattle.std.specs.Prelude.{slice_get, slice_set}
use Rattle.std.specs.Bool.{⊤}
use Rattle.std.proofs.lemmas.Option.{slice_get_within}
use Rattle.std.proofs.lemmas.Bool.Decides.{nat_tests}
use Rattle.law_results_reads.specs.Below.fr_base.declared.label.Label.{Label}
use Rattle.law_results_reads.specs.Below.fr_base.declared.name.ObjNo.{ObjNo}
use Rattle.law_results_reads.specs.Below.global_addr.Words.{server_of}
use Rattle.law_results_reads.specs.Below.heap_partition.declared.value.BoxPtr.{BoxPtr}
use Rattle.law_results_reads.specs.Below.heap_partition.declared.value.Cell.{Cell}
use Rattle.law_results_reads.specs.Below.heap_partition.declared.value.Owned.{Owned}
use Rattle.law_results_reads.specs.Below.heap_partition.declared.value.Owned.TheVariants as owned
use Rattle.law_results_reads.specs.Below.mut_borrow.declared.mutable.MutRef.{MutRef}
use Rattle.law_results_reads.specs.Below.owner_box.View.{PartitionState}
use Rattle.law_results_reads.specs.Below.owner_box.Partition.{stored}
use Rattle.law_results_reads.specs.Below.journal.declared.act.Act.{Act}
use Rattle.law_results_reads.specs.Below.thread_state.View.{ThreadState}
use Rattle.law_results_reads.specs.Below.thread_state.declared.value.Value.{Value}
use Rattle.law_results_reads.specs.Below.thread_state.declared.value.Value.TheVariants as value
use Rattle.law_results_reads.specs.Below.place_walk.declared.hop.Hop.TheVariants as jump
use Rattle.law_results_reads.specs.Below.place_walk.Hops.{write_hop}
use Rattle.law_results_reads.specs.Below.server_model.Servers.{Rest}
use Rattle.law_results_reads.specs.Below.server_model.Work.{Hand, with_slots, with_partition, working, then_some}
use Rattle.law_results_reads.specs.Below.server_model.NewWords.{NewWord}
use Rattle.law_results_reads.specs.Below.server_model.Places.{Spot, in_slot, in_cell, value_in, value_at, load_at, written, note_slot, note_write, put_at, with_word, put_word}
use Rattle.law_results_reads.specs.Below.server_model.Prepare.{Prepared, ready, requested, nothing, and_then, ready_at, local, passing, box_ready, write_by, pass_by, write_value, write_star, write_stars}
use Rattle.law_results_reads.specs.Below.coherent_memory.Things.{Location, at_slot, in_cell as in_object}
use Rattle.law_results_reads.proofs.Below.law_words_paths.paths.Sole.{some_is}
use Rattle.law_results_reads.proofs.Below.law_counts_sums.Objects.{length_set}
use Rattle.law_results_events.proofs.writes.Memory.{Leads, leads_on, looks, Sane, stored_elsewhere, stored_sane, Issues, colour_issued}

pub set_other : (vs : List Value) (i m : ℕ) (v : Value) → (m ≡ i → ⊥) → slice_get (slice_set vs i v) m ≡ slice_get vs m
set_other [] i m v ne = refl
set_other (x ∷ vs) zero zero v ne = absurd (ne refl)
set_other (x ∷ vs) zero (suc m) v ne = refl
set_other (x ∷ vs) (suc i) zero v ne = refl
set_other (x ∷ vs) (suc i) (suc m) v ne = set_other vs i m v (λ e. ne (ap suc e))

-- the mark of a write on the reference in a slot
abbrev marks : Option ℕ → List Value → List Value
marks None vs = vs
marks (Some i) vs = note_slot vs i (slice_get vs i)

noted : (q : Option ℕ) (h : Hand) → note_write q h ≡ with_slots (marks q h.thread.slots) h
noted None h = refl
noted (Some i) h = refl

marks_size : (q : Option ℕ) (vs : List Value) → length (marks q vs) ≡ length vs
marks_size None vs = refl
marks_size (Some i) vs = by (slice_get vs i)
  where
    by : (o : Option Value) → length (note_slot vs i o) ≡ length vs
    by None = refl
    by (Some v) = length_set vs i (written v)

marks_other : (q : Option ℕ) (vs : List Value) (m : ℕ) → (q ≡ Some m → ⊥) → slice_get (marks q vs) m ≡ slice_get vs m
marks_other None vs m ne = refl
marks_other (Some i) vs m ne = by (slice_get vs i)
  where
    by : (o : Option Value) → slice_get (note_slot vs i o) m ≡ slice_get vs m
    by None = refl
    by (Some v) = set_other vs i m (written v) (λ e. ne (ap Some (sym e)))

-- from the server r and the thread y on; C are the cells of all objects, and the place leads with so many stars to `at`
module _ (r : Rest) (y : ThreadState) (C : ObjNo → Option Cell) (at : ℕ → Option Location) where
  abbrev P : PartitionState
  P = r.partition

  abbrev tn : ℕ
  tn = y.number

  -- THE ROUTE

  -- a word of hop number i leads to the object, where it is of this server; that of a hop that an earlier event made ready is
  pub record LeadsBy (i word : ℕ) (o : ObjNo) : Type 0 where
    pub cell : Cell
    pub object : cell.object ≡ o
    pub there : C o ≡ Some cell
    pub home : server_of word ≡ r.number → Leads P word cell
    pub passed : i < y.passed → server_of word ≡ r.number

  -- what stands at a hop, and where it leads
  pub data Hop (i : ℕ) : Location → Location → Type 0 where
    by_slot : (m j : ℕ) → slice_get y.slots m ≡ Some (value.MutSlot j) → Hop i (at_slot tn m) (at_slot tn j)
    by_reference : (m : ℕ) (q : MutRef) → slice_get y.slots m ≡ Some (value.Mut q) → LeadsBy i q.word q.object → Hop i (at_slot tn m) (in_object q.object)
    by_box : (m : ℕ) (p : BoxPtr) → slice_get y.slots m ≡ Some (value.Own (owned.Box p)) → LeadsBy i p.word p.object → Hop i (at_slot tn m) (in_object p.object)
    by_cell : (o : ObjNo) (d : Cell) (p : BoxPtr) → C o ≡ Some d → d.value ≡ owned.Box p → LeadsBy i p.word p.object → Hop i (in_object o) (in_object p.object)

  pub record Route (d : ℕ) : Type 0 where
    pub leads_there : (i : ℕ) → i ≤ d → (l : Location) × (at i ≡ Some l)
    pub hop : (i : ℕ) → i < d → (l m : Location) → at i ≡ Some l → at (suc i) ≡ Some m → Hop i l m
    -- places with different counts of stars lead apart
    pub apart : (i e : ℕ) → e < i → i ≤ d → (l : Location) → at e ≡ Some l → at i ≡ Some l → ⊥
    pub sane : y.passed < d → Sane P
    pub room : length P.cells + d < 2 ^ 40

  -- THE HAND ON THE WAY

  -- so many hops are behind: of the server the partition alone is another, of the thread its slots and what it has passed; and what lies ahead is as it was
  pub record Writing (j : ℕ) (h : Hand) : Type 0 where
    pub rest : h.work.rest ≡ record r { partition = h.work.rest.partition }
    pub thread : h.thread ≡ record y { slots = h.thread.slots; passed = h.thread.passed }
    pub server : h.work.rest.partition.server ≡ P.server
    pub limit : h.work.rest.partition.limit ≡ P.limit
    pub sane : Sane P → Sane h.work.rest.partition
    pub long : length h.work.rest.partition.cells ≤ length P.cells + j
    pub size : length h.thread.slots ≡ length y.slots
    pub slots : (m : ℕ) → ((i : ℕ) → i < j → at i ≡ Some (at_slot tn m) → ⊥) → slice_get h.thread.slots m ≡ slice_get y.slots m
    pub cells : (v : ℕ) (d : Cell) → Leads P v d → ((i : ℕ) → i ≤ j → at i ≡ Some (in_object d.object) → ⊥) → Leads h.work.rest.partition v d
    pub passed : (m : ℕ) → j ≤ m → m < h.thread.passed → m < y.passed
    pub still : (m : ℕ) → m < y.passed → m < h.thread.passed
    -- over hops that were ready already nothing moves
    pub unmoved : j ≤ y.passed → h.work.rest.partition ≡ P

  pub begins : (h : Hand) → h.work.rest ≡ r → h.thread ≡ y → Writing 0 h
  begins h same_rest same_thread =
      let p : h.work.rest.partition ≡ P = ap (λ (x : Rest). x.partition) same_rest in
      record {
        rest = same_rest ∙ ap (λ q. record r { partition = q }) (sym p);
        thread = same_thread ∙ sym (ap (λ (x : ThreadState). record y { slots = x.slots; passed = x.passed }) same_thread);
        server = ap (λ (q : PartitionState). q.server) p;
        limit = ap (λ (q : PartitionState). q.limit) p;
        sane = λ a. subst Sane (sym p) a;
        long = (let e = ap (λ (q : PartitionState). length q.cells) p in omega (arith, e));
        size = ap (λ (x : ThreadState). length x.slots) same_thread;
        slots = λ m ahead. ap (λ (x : ThreadState). slice_get x.slots m) same_thread;
        cells = λ v d l ahead. subst (λ q. Leads q v d) (sym p) l;
        passed = λ m le lt. (let e = ap (λ (x : ThreadState). x.passed) same_thread in omega (arith, e, lt));
        still = λ m lt. (let e = ap (λ (x : ThreadState). x.passed) same_thread in omega (arith, e, lt));
        unmoved = λ le. p;
      }

  -- what one more hop may change
  record Step (j : ℕ) (h h2 : Hand) : Type 0 where
    rest : h2.work.rest ≡ record h.work.rest { partition = h2.work.rest.partition }
    thread : h2.thread ≡ record h.thread { slots = h2.thread.slots; passed = h2.thread.passed }
    server : h2.work.rest.partition.server ≡ h.work.rest.partition.server
    limit : h2.work.rest.partition.limit ≡ h.work.rest.partition.limit
    sane : Sane h.work.rest.partition → Sane h2.work.rest.partition
    long : length h2.work.rest.partition.cells ≤ length h.work.rest.partition.cells + 1
    size : length h2.thread.slots ≡ length h.thread.slots
    slots : (m : ℕ) → ((i : ℕ) → i < suc j → at i ≡ Some (at_slot tn m) → ⊥) → slice_get h2.thread.slots m ≡ slice_get h.thread.slots m
    cells : (v : ℕ) (d : Cell) → Leads h.work.rest.partition v d → ((i : ℕ) → i ≤ suc j → at i ≡ Some (in_object d.object) → ⊥) → Leads h2.work.rest.partition v d
    passed : (m : ℕ) → suc j ≤ m → m < h2.thread.passed → m < y.passed
    still : (m : ℕ) → m < y.passed → m < h2.thread.passed
    unmoved : suc j ≤ y.passed → h2.work.rest.partition ≡ h.work.rest.partition

  onward : (j : ℕ) (h h2 : Hand) → Writing j h → Step j h h2 → Writing (suc j) h2
  onward j h h2 w s = record {
    rest = s.rest ∙ ap (λ (x : Rest). record x { partition = h2.work.rest.partition }) w.rest;
    thread = s.thread ∙ ap (λ (x : ThreadState). record x { slots = h2.thread.slots; passed = h2.thread.passed }) w.thread;
    server = s.server ∙ w.server;
    limit = s.limit ∙ w.limit;
    sane = λ a. s.sane (w.sane a);
    long = (let a = s.long in let b = w.long in omega (arith, a, b));
    size = s.size ∙ w.size;
    slots = λ m ahead. s.slots m ahead ∙ w.slots m (λ i lt. ahead i (omega (arith, lt)));
    cells = λ v d l ahead. s.cells v d (w.cells v d l (λ i le. ahead i (omega (arith, le)))) ahead;
    passed = s.passed;
    still = s.still;
    unmoved = λ le. s.unmoved le ∙ w.unmoved (omega (arith, le));
  }

  -- what is noted and labelled makes no difference
  quiet : (j : ℕ) (h : Hand) (acts : List Act) (labels : List Label) (n : ℕ) → Writing j h → ((m : ℕ) → suc j ≤ m → m < n → m < y.passed) → ((m : ℕ) → m < y.passed → m < n)
      → Writing (suc j) (record { work = record h.work { acts = acts; labels = labels }; thread = record h.thread { passed = n } })
  quiet j h acts labels n w passed still = onward j h (record { work = record h.work { acts = acts; labels = labels }; thread = record h.thread { passed = n } }) w (record {
    rest = refl;
    thread = refl;
    server = refl;
    limit = refl;
    sane = λ a. a;
    long = omega arith;
    size = refl;
    slots = λ m ahead. refl;
    cells = λ v d l ahead. l;
    passed = passed;
    still = still;
    unmoved = λ le. refl;
  })

  -- the reference that led straight to a cell stands in the slot of a hop behind
  abbrev Behind : ℕ → Option ℕ → Type 0
  Behind j None = ⊤
  Behind j (Some m) = (i : ℕ) × (i < j) × (at i ≡ Some (at_slot tn m))

  behind_is : (j : ℕ) (q : Option ℕ) (m : ℕ) → Behind j q → q ≡ Some m → (i : ℕ) × (i < j) × (at i ≡ Some (at_slot tn m))
  behind_is j None m b e = absurd (cc e)
  behind_is j (Some i) m b e = subst (λ x. (k : ℕ) × (k < j) × (at k ≡ Some (at_slot tn x))) (some_is e) b

  -- where a spot of the hand stands for a location ahead
  pub data At (p : PartitionState) (j : ℕ) : Spot → Location → Type 0 where
    a_slot : (m : ℕ) → At p j (in_slot m) (at_slot tn m)
    a_cell : (w : ℕ) (q : Option ℕ) (o : ObjNo) (d : Cell) → Leads p w d → C o ≡ Some d → d.object ≡ o → Behind j q → At p j (in_cell w q) (in_object o)

  -- ready where the place leads with so many stars, or something was asked for, which tells Q
  abbrev pub Fine : Type 0 → ℕ → Prepared → Type 0
  Fine Q n (ready h sp) = (l : Location) × (at n ≡ Some l) × At h.work.rest.partition n sp l × Writing n h
  Fine Q n (requested h) = Q
  Fine Q n nothing = ⊥

  -- ONE HOP

  module _ (Q : Type 0) (d : ℕ) (route : Route d) (asks : (i : ℕ) → i < d → y.passed ≤ i → Q) (j : ℕ) (lt : j < d) (l m : Location) (located : at j ≡ Some l) (next : at (suc j) ≡ Some m) (h : Hand) (w : Writing j h) where
    abbrev N : ℕ
    N = h.work.rest.number

    number : N ≡ r.number
    number = ap (λ (x : Rest). x.number) w.rest

    -- an object that comes next lies where it lay
    ahead : (word : ℕ) (o : ObjNo) (b : LeadsBy j word o) → m ≡ in_object o → server_of word ≡ N → Leads h.work.rest.partition word b.cell
    ahead word o b is here =
        w.cells word b.cell (b.home (here ∙ number)) (λ i le e. route.apart (suc j) i (omega (arith, le)) (omega (arith, lt)) m (e ∙ ap (λ x. Some (in_object x)) b.object ∙ ap Some (sym is)) next)

    -- what is behind isn't passed again
    done_so : (k : ℕ) → suc j ≤ k → k < j + 1 → k < y.passed
    done_so k le less = absurd (omega (arith, le, less))

    was_passed : (k : ℕ) → suc j ≤ k → k < h.thread.passed → k < y.passed
    was_passed k le less = w.passed k (omega (arith, le)) less

    still_done : y.passed ≤ j → (k : ℕ) → k < y.passed → k < j + 1
    still_done le k less = omega (arith, le, less)

    -- the test of what is passed, and the value that is followed
    module _ (sp : Spot) (v : Value) (stands : value_at h sp ≡ Some v) where
      abbrev h1 : Hand
      h1 = load_at sp h

      star : ((b : Bool) → (b ≡ true → j < y.passed) → (b ≡ false → y.passed ≤ j) → Fine Q (suc j) (if b then pass_by sp v (write_hop N v) h1 else write_by j sp v (write_hop N v) h1)) → Fine Q (suc j) (write_star j h sp)
      star go =
          subst (λ o. Fine Q (suc j) (write_value j sp o h1)) (sym stands)
          (go (nat_lt j h.thread.passed) (λ e. w.passed j (omega arith) (grind (arith, nat_tests, e))) (λ e. not_yet (grind (arith, nat_tests, e))))
        where
          not_yet : h.thread.passed ≤ j → y.passed ≤ j
          not_yet le = by (nat_lt j y.passed) refl
            where
              by : (b : Bool) → nat_lt j y.passed ≡ b → y.passed ≤ j
              by true e = let less : j < h.thread.passed = w.still j (grind (arith, nat_tests, e)) in absurd (omega (arith, le, less))
              by false e = grind (arith, nat_tests, e)

    -- a mutable reference to a slot
    slot_star : (sp : Spot) (i : ℕ) → value_at h sp ≡ Some (value.MutSlot i) → m ≡ at_slot tn i → Fine Q (suc j) (write_star j h sp)
    slot_star sp i stands is = star sp (value.MutSlot i) stands by
      where
        spot : {p : PartitionState} → At p (suc j) (in_slot i) m
        spot {p} = subst (At p (suc j) (in_slot i)) (sym is) (a_slot i)

        by : (b : Bool) → (b ≡ true → j < y.passed) → (b ≡ false → y.passed ≤ j) → Fine Q (suc j) (if b then pass_by sp (value.MutSlot i) (write_hop N (value.MutSlot i)) (load_at sp h) else write_by j sp (value.MutSlot i) (write_hop N (value.MutSlot i)) (load_at sp h))
        by true e f = (m, next, spot, quiet j h h.work.acts (load_at sp h).work.labels h.thread.passed w was_passed w.still)
        by false e f = (m, next, spot, quiet j h h.work.acts (load_at sp h).work.labels (j + 1) w done_so (still_done (f refl)))

    -- a mutable reference to an object
    reference_star : (i : ℕ) (q : MutRef) → value_at h (in_slot i) ≡ Some (value.Mut q) → l ≡ at_slot tn i → m ≡ in_object q.object → LeadsBy j q.word q.object → Fine Q (suc j) (write_star j h (in_slot i))
    reference_star i q stands from is b = star (in_slot i) (value.Mut q) stands by
      where
        h1 : Hand
        h1 = load_at (in_slot i) h

        spot : server_of q.word ≡ N → At h.work.rest.partition (suc j) (in_cell q.word (Some i)) m
        spot here = subst (At h.work.rest.partition (suc j) (in_cell q.word (Some i))) (sym is) (a_cell q.word (Some i) q.object b.cell (ahead q.word q.object b is here) b.there b.object (j, omega arith, located ∙ ap Some from))

        by : (c : Bool) → (c ≡ true → j < y.passed) → (c ≡ false → y.passed ≤ j) → Fine Q (suc j) (if c then pass_by (in_slot i) (value.Mut q) (write_hop N (value.Mut q)) h1 else write_by j (in_slot i) (value.Mut q) (write_hop N (value.Mut q)) h1)
        by true e f =
            let here : server_of q.word ≡ N = b.passed (e refl) ∙ sym number in
            let test : (server_of q.word == N) ≡ true = grind (arith, nat_tests, here) in
            subst (λ t. Fine Q (suc j) (pass_by (in_slot i) (value.Mut q) (Some (if t then jump.AtCell q.word else jump.NeedMove q.word)) h1)) (sym test)
            (m, next, spot here, quiet j h (local (value.Mut q) h1).work.acts h1.work.labels h.thread.passed w was_passed w.still)
        by false e f = here_or_not (server_of q.word == N) refl
          where
            here_or_not : (t : Bool) → (server_of q.word == N) ≡ t → Fine Q (suc j) (write_by j (in_slot i) (value.Mut q) (Some (if t then jump.AtCell q.word else jump.NeedMove q.word)) h1)
            here_or_not true r2 = (m, next, spot (grind (arith, nat_tests, r2)), quiet j h (local (value.Mut q) h1).work.acts h1.work.labels (j + 1) w done_so (still_done (f refl)))
            here_or_not false r2 = asks j lt (f refl)

    -- a box, at a spot where its new word can be put
    box_star : (sp : Spot) (p : BoxPtr) → value_at h sp ≡ Some (value.Own (owned.Box p)) → m ≡ in_object p.object → (b : LeadsBy j p.word p.object)
        → ((n : NewWord) → Issues h.work b.cell n → y.passed ≤ j → Fine Q (suc j) (ready_at (in_cell n.word None) (put_word sp n (passing (j + 1) (load_at sp h))))) → Fine Q (suc j) (write_star j h sp)
    box_star sp p stands is b puts = star sp (value.Own (owned.Box p)) stands by
      where
        h1 : Hand
        h1 = load_at sp h

        room : length h.work.rest.partition.cells < 2 ^ 40
        room = let a = w.long in let c = route.room in omega (arith, a, c, lt)

        spot : server_of p.word ≡ N → At h.work.rest.partition (suc j) (in_cell p.word None) m
        spot here = subst (At h.work.rest.partition (suc j) (in_cell p.word None)) (sym is) (a_cell p.word None p.object b.cell (ahead p.word p.object b is here) b.there b.object tt)

        by : (c : Bool) → (c ≡ true → j < y.passed) → (c ≡ false → y.passed ≤ j) → Fine Q (suc j) (if c then pass_by sp (value.Own (owned.Box p)) (write_hop N (value.Own (owned.Box p))) h1 else write_by j sp (value.Own (owned.Box p)) (write_hop N (value.Own (owned.Box p))) h1)
        by true e f =
            let here : server_of p.word ≡ N = b.passed (e refl) ∙ sym number in
            let test : (server_of p.word == N) ≡ true = grind (arith, nat_tests, here) in
            subst (λ t. Fine Q (suc j) (pass_by sp (value.Own (owned.Box p)) (Some (if t then jump.NeedTint p.word else jump.NeedMove p.word)) h1)) (sym test)
            (m, next, spot here, quiet j h h.work.acts h1.work.labels h.thread.passed w was_passed w.still)
        by false e f = here_or_not (server_of p.word == N) refl
          where
            here_or_not : (t : Bool) → (server_of p.word == N) ≡ t → Fine Q (suc j) (write_by j sp (value.Own (owned.Box p)) (Some (if t then jump.NeedTint p.word else jump.NeedMove p.word)) h1)
            here_or_not true r2 =
                let n = colour_issued p (passing (j + 1) h1).work b.cell (w.sane (route.sane (let le = f refl in omega (arith, lt, le)))) (ahead p.word p.object b is (grind (arith, nat_tests, r2))) room in
                subst (λ o. Fine Q (suc j) (box_ready sp o (passing (j + 1) h1))) (sym n.1) (puts n.0 (record { rest = n.2.rest; given = n.2.given }) (f refl))
            here_or_not false r2 = asks j lt (f refl)

    -- that stands in a slot
    box_in_slot : (i : ℕ) (p : BoxPtr) → value_at h (in_slot i) ≡ Some (value.Own (owned.Box p)) → l ≡ at_slot tn i → m ≡ in_object p.object → LeadsBy j p.word p.object → Fine Q (suc j) (write_star j h (in_slot i))
    box_in_slot i p stands from is b = box_star (in_slot i) p stands is b puts
      where
        within : i < length h.thread.slots
        within = slice_get_within h.thread.slots i (value.Own (owned.Box p)) stands

        puts : (n : NewWord) → Issues h.work b.cell n → y.passed ≤ j → Fine Q (suc j) (ready_at (in_cell n.word None) (put_word (in_slot i) n (passing (j + 1) (load_at (in_slot i) h))))
        puts n issues le =
            let new : Value = value.Own (owned.Box (record p { word = n.word })) in
            let h2 : Hand = with_slots (slice_set h.thread.slots i new) (record (passing (j + 1) (load_at (in_slot i) h)) { work = n.work }) in
            let test : nat_lt i (length h.thread.slots) ≡ true = grind (arith, nat_tests, within) in
            let puts_it : put_word (in_slot i) n (passing (j + 1) (load_at (in_slot i) h)) ≡ Some h2 =
            ap (λ o. then_some o (λ v. then_some (with_word n.word v) (λ x. put_at (in_slot i) x (record (passing (j + 1) (load_at (in_slot i) h)) { work = n.work })))) stands ∙ ap (λ t. if t then Some h2 else None) test in
            subst (λ o. Fine Q (suc j) (ready_at (in_cell n.word None) o)) (sym puts_it) (
              m,
              next,
              subst (At n.work.rest.partition (suc j) (in_cell n.word None)) (sym is) (a_cell n.word None p.object b.cell issues.given.new b.there b.object tt),
              onward j h h2 w (record {
                rest = issues.rest;
                thread = refl;
                server = issues.given.server;
                limit = issues.given.limit;
                sane = λ a. issues.given.sane;
                long = issues.given.longer;
                size = length_set h.thread.slots i new;
                slots = λ k away. set_other h.thread.slots i k new (λ e. away j (omega arith) (located ∙ ap Some from ∙ ap (λ x. Some (at_slot tn x)) (sym e)));
                cells = λ v c leads away. issues.given.others v c leads (λ e. away (suc j) (omega arith) (next ∙ ap Some is ∙ ap (λ x. Some (in_object x)) (sym b.object ∙ sym e)));
                passed = done_so;
                still = still_done le;
                unmoved = λ more. absurd (omega (arith, le, more));
              }),
            )

    -- or in a cell here
    box_in_cell : (word : ℕ) (q : Option ℕ) (o : ObjNo) (c : Cell) (p : BoxPtr) → Leads h.work.rest.partition word c → c.object ≡ o → Behind j q → c.value ≡ owned.Box p → l ≡ in_object o → m ≡ in_object p.object → LeadsBy j p.word p.object
        → Fine Q (suc j) (write_star j h (in_cell word q))
    box_in_cell word q o c p leads object behind boxed from is b = box_star (in_cell word q) p stands is b puts
      where
        stands : value_at h (in_cell word q) ≡ Some (value.Own (owned.Box p))
        stands = ap value_in (looks h.work.rest.partition word c leads) ∙ ap (λ x. Some (value.Own x)) boxed

        -- the object isn't the next one
        other : (c.object ≡ b.cell.object → ⊥)
        other e = route.apart (suc j) j (omega arith) (omega (arith, lt)) m (located ∙ ap Some from ∙ ap (λ x. Some (in_object x)) (sym object ∙ e ∙ b.object) ∙ ap Some (sym is)) next

        puts : (n : NewWord) → Issues h.work b.cell n → y.passed ≤ j → Fine Q (suc j) (ready_at (in_cell n.word None) (put_word (in_cell word q) n (passing (j + 1) (load_at (in_cell word q) h))))
        puts n issues le =
            let p2 : PartitionState = n.work.rest.partition in
            let h0 : Hand = passing (j + 1) (load_at (in_cell word q) h) in
            let leads2 : Leads p2 word c = issues.given.others word c leads other in
            let new : Owned = owned.Box (record p { word = n.word }) in
            let p3 : PartitionState = stored p2 word new in
            let h3 : Hand = working (with_partition p3) (record h0 { work = n.work }) in
            let h2 : Hand = with_slots (marks q h.thread.slots) h3 in
            let value_there : value_at (record h0 { work = n.work }) (in_cell word q) ≡ Some (value.Own (owned.Box p)) = ap value_in (looks p2 word c leads2) ∙ ap (λ x. Some (value.Own x)) boxed in
            let puts_it : put_word (in_cell word q) n h0 ≡ Some h2 =
            ap (λ x. then_some x (λ v. then_some (with_word n.word v) (λ u. put_at (in_cell word q) u (record h0 { work = n.work })))) value_there ∙ ap (λ t. if t then Some (note_write q h3) else None) (leads_on p2 word c leads2) ∙ ap Some (noted q h3) in
            let led : Leads p3 n.word b.cell = stored_elsewhere p2 word n.word c b.cell new leads2 issues.given.new (λ e. other (sym e)) in
            subst (λ x. Fine Q (suc j) (ready_at (in_cell n.word None) x)) (sym puts_it) (
              m,
              next,
              subst (At p3 (suc j) (in_cell n.word None)) (sym is) (a_cell n.word None p.object b.cell led b.there b.object tt),
              onward j h h2 w (record {
                rest = ap (λ (x : Rest). record x { partition = p3 }) issues.rest;
                thread = refl;
                server = issues.given.server;
                limit = issues.given.limit;
                sane = λ a. stored_sane p2 word c new leads2 issues.given.sane;
                long = (let a = issues.given.longer in let e = length_set p2.cells (Rattle.law_results_reads.specs.Below.global_addr.Words.address_of word) (Rattle.law_results_reads.specs.Below.owner_box.Partition.with_value new (Rattle.law_results_reads.specs.Below.owner_box.Partition.cell_of p2 word)) in omega (arith, a, e));
                size = marks_size q h.thread.slots;
                slots = λ k away. marks_other q h.thread.slots k (λ e. let r2 = behind_is j q k behind e in away r2.0 (let lt2 = r2.1 in omega (arith, lt2)) r2.2);
                cells = λ v e lead away.
                    stored_elsewhere p2 word v c e new leads2 (issues.given.others v e lead (λ f. away (suc j) (omega arith) (next ∙ ap Some is ∙ ap (λ x. Some (in_object x)) (sym b.object ∙ sym f))))
                    (λ f. away j (omega arith) (located ∙ ap Some from ∙ ap (λ x. Some (in_object x)) (sym object ∙ sym f)));
                passed = done_so;
                still = still_done le;
                unmoved = λ more. absurd (omega (arith, le, more));
              }),
            )

    -- whatever stands there
    pub hop_star : (sp : Spot) → At h.work.rest.partition j sp l → Fine Q (suc j) (write_star j h sp)
    hop_star sp spot = by l l m refl refl refl sp spot (route.hop j lt l m located next)
      where
        slot_value : (i : ℕ) (v : Value) → l ≡ at_slot tn i → slice_get y.slots i ≡ Some v → value_at h (in_slot i) ≡ Some v
        slot_value i v from e = w.slots i (λ k less f. route.apart j k less (omega (arith, lt)) l (f ∙ ap Some (sym from)) located) ∙ e

        cell_same : (o : ObjNo) (c d : Cell) → C o ≡ Some c → C o ≡ Some d → c ≡ d
        cell_same o c d e f = some_is (sym e ∙ f)

        same_slot : {a b : ℕ} → at_slot tn a ≡ at_slot tn b → a ≡ b
        same_slot e = cc

        same_object : {a b : ObjNo} → in_object a ≡ in_object b → a ≡ b
        same_object e = cc

        no_object : {a : ℕ} {o : ObjNo} → at_slot tn a ≡ in_object o → ⊥
        no_object e = absurd (cc e)

        by : (a a2 b : Location) → l ≡ a → l ≡ a2 → m ≡ b → (sp : Spot) → At h.work.rest.partition j sp a → Hop j a2 b → Fine Q (suc j) (write_star j h sp)
        by _ _ _ from from2 to _ (a_slot i) (by_slot i2 k e) = let same : i ≡ i2 = same_slot (sym from ∙ from2) in slot_star (in_slot i) k (slot_value i (value.MutSlot k) from (ap (slice_get y.slots) same ∙ e)) to
        by _ _ _ from from2 to _ (a_slot i) (by_reference i2 q e b) = let same : i ≡ i2 = same_slot (sym from ∙ from2) in reference_star i q (slot_value i (value.Mut q) from (ap (slice_get y.slots) same ∙ e)) from to b
        by _ _ _ from from2 to _ (a_slot i) (by_box i2 p e b) = let same : i ≡ i2 = same_slot (sym from ∙ from2) in box_in_slot i p (slot_value i (value.Own (owned.Box p)) from (ap (slice_get y.slots) same ∙ e)) from to b
        by _ _ _ from from2 to _ (a_slot i) (by_cell o c2 p there2 boxed b) = absurd (no_object (sym from ∙ from2))
        by _ _ _ from from2 to _ (a_cell word q o c leads there object behind) (by_slot i2 k e) = absurd (no_object (sym from2 ∙ from))
        by _ _ _ from from2 to _ (a_cell word q o c leads there object behind) (by_reference i2 r2 e b) = absurd (no_object (sym from2 ∙ from))
        by _ _ _ from from2 to _ (a_cell word q o c leads there object behind) (by_box i2 p e b) = absurd (no_object (sym from2 ∙ from))
        by _ _ _ from from2 to _ (a_cell word q o c leads there object behind) (by_cell o2 c2 p there2 boxed b) =
            let same : o ≡ o2 = same_object (sym from ∙ from2) in
            box_in_cell word q o c p leads object behind (ap (λ (x : Cell). x.value) (cell_same o c c2 there (ap C same ∙ there2)) ∙ boxed) from to b

  -- ALL HOPS

  then_fine : (Q : Type 0) (j n : ℕ) (go : Hand → Spot → Prepared) (p : Prepared) → Fine Q j p → ((h : Hand) (sp : Spot) (l : Location) → at j ≡ Some l → At h.work.rest.partition j sp l → Writing j h → Fine Q n (go h sp)) → Fine Q n (and_then go p)
  then_fine Q j n go (ready h sp) f on = on h sp f.0 f.1 f.2 f.3
  then_fine Q j n go (requested h) f on = f
  then_fine Q j n go nothing f on = absurd f

  pub all_hops : (Q : Type 0) (d : ℕ) → Route d → ((i : ℕ) → i < d → y.passed ≤ i → Q) → (more j : ℕ) → j + more ≡ d → (h : Hand) (sp : Spot) (l : Location) → at j ≡ Some l → At h.work.rest.partition j sp l → Writing j h → Fine Q d (write_stars more j h sp)
  all_hops Q d route asks zero j e h sp l located spot w = let same : j ≡ d = omega (arith, e) in subst (λ n. Fine Q n (ready h sp)) same (l, located, spot, w)
  all_hops Q d route asks (suc more) j e h sp l located spot w =
      let lt : j < d = omega (arith, e) in
      let m = route.leads_there (suc j) (omega (arith, lt)) in
      let one : suc j ≡ j + 1 = omega arith in
      then_fine Q (suc j) d (write_stars more (j + 1)) (write_star j h sp) (hop_star Q d route asks j lt l m.0 located m.1 h w sp spot)
      (λ h2 sp2 l2 located2 spot2 w2. subst (λ n. Fine Q d (write_stars more n h2 sp2)) one (all_hops Q d route asks more (suc j) (omega (arith, e)) h2 sp2 l2 located2 spot2 w2))

-- THE SAME PLACE FROM ANOTHER HAND

-- with another partition, other slots and temporary values, where the slots on the way and the cells on it are the same
module _ (r : Rest) (y : ThreadState) (C : ObjNo → Option Cell) (at : ℕ → Option Location) (d : ℕ) (route : Route r y C at d) (r2 : Rest) (number : r2.number ≡ r.number) (vs ts : List Value)
    (slots_same : (m i : ℕ) → i < d → at i ≡ Some (at_slot y.number m) → slice_get vs m ≡ slice_get y.slots m)
    (cells_same : (i v : ℕ) (c : Cell) → i ≤ d → at i ≡ Some (in_object c.object) → Leads r.partition v c → Leads r2.partition v c) (sane_there : y.passed < d → Sane r2.partition) (roomy : length r2.partition.cells + d < 2 ^ 40) where
  abbrev y2 : ThreadState
  y2 = record y { slots = vs; temps = ts }

  leads_again : (i : ℕ) → i < d → (word : ℕ) (o : ObjNo) → at (suc i) ≡ Some (in_object o) → LeadsBy r y C at i word o → LeadsBy r2 y2 C at i word o
  leads_again i lt word o next b = record {
    cell = b.cell;
    object = b.object;
    there = b.there;
    home = λ mine. cells_same (suc i) word b.cell (omega (arith, lt)) (next ∙ ap (λ x. Some (in_object x)) (sym b.object)) (b.home (mine ∙ number));
    passed = λ less. b.passed less ∙ sym number;
  }

  hop_again : (i : ℕ) → i < d → (l m : Location) → at i ≡ Some l → at (suc i) ≡ Some m → Hop r y C at i l m → Hop r2 y2 C at i l m
  hop_again i lt _ _ located next (by_slot m j e) = by_slot m j (slots_same m i lt located ∙ e)
  hop_again i lt _ _ located next (by_reference m p e b) = by_reference m p (slots_same m i lt located ∙ e) (leads_again i lt p.word p.object next b)
  hop_again i lt _ _ located next (by_box m p e b) = by_box m p (slots_same m i lt located ∙ e) (leads_again i lt p.word p.object next b)
  hop_again i lt _ _ located next (by_cell o c p there boxed b) = by_cell o c p there boxed (leads_again i lt p.word p.object next b)

  pub rerouted : Route r2 y2 C at d
  rerouted = record {
    leads_there = route.leads_there;
    hop = λ i lt l m located next. hop_again i lt l m located next (route.hop i lt l m located next);
    apart = route.apart;
    sane = sane_there;
    room = roomy;
  }
