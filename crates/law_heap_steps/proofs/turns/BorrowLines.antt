-- Shared and mutable borrows through stars, at the server and on the plain machine.
use Rattle.std.proofs.Common.{◌≡◌, ℕ, suc, ◌+◌, ◌==◌, ◌&&◌, nat_lt, Bool, true, false, if◌then◌else◌, ◌++◌, length, Option, Some, None, option_map, refl, sym, ap, ap₂, subst, ◌∙◌, arith}
use Rattle.std.specs.Prelude.{slice_set}
use Rattle.std.specs.Bool.{⊤}
use Rattle.law_words_kept.specs.Below.fr_base.declared.label.Plain.TheVariants as plain
use Rattle.law_words_kept.specs.Below.fr_base.declared.place.Lval.{Lval}
use Rattle.law_words_kept.specs.Below.fr_base.declared.instruction.Instr.{Instr}
use Rattle.law_words_kept.specs.Below.fr_base.declared.instruction.Instr.TheVariants as instr
use Rattle.law_words_kept.specs.Below.fr_plain.declared.value.Value.{Value as PlainValue}
use Rattle.law_words_kept.specs.Below.fr_plain.declared.value.Value.TheVariants as plain_v
use Rattle.law_words_kept.specs.Below.fr_plain.MachineActs.{do_borrow, reference}
use Rattle.law_words_kept.specs.Below.fr_plain.MachineThreads.{going}
use Rattle.law_words_kept.specs.Below.fr_code.Steps.{over_at, loud, run_instr}
use Rattle.law_words_kept.specs.Below.global_addr.Words.{colour_of, server_of}
use Rattle.law_words_kept.specs.Below.heap_partition.declared.value.Cell.{Cell}
use Rattle.law_words_kept.specs.Below.heap_partition.declared.value.Owned.TheVariants as owned
use Rattle.law_words_kept.specs.Below.heap_partition.declared.value.BoxPtr.{BoxPtr}
use Rattle.law_words_kept.specs.Below.owner_box.Partition.{freed, renewed, new_word}
use Rattle.law_words_kept.specs.Below.read_cache.Cache.{hit}
use Rattle.law_words_kept.specs.Below.migration.Packing.{unpinned}
use Rattle.law_words_kept.specs.Below.journal.declared.act.Act.TheVariants as act
use Rattle.law_words_kept.specs.Below.mut_borrow.Refs.{cleaned_answer}
use Rattle.law_words_kept.specs.Below.mut_borrow.declared.mutable.MutRef.{MutRef}
use Rattle.law_words_kept.specs.Below.mut_borrow.declared.mutable.Cleaned.{Cleaned}
use Rattle.law_words_kept.specs.Below.mut_borrow.declared.mutable.Cleaned.TheVariants as cleaned
use Rattle.law_words_kept.specs.Below.place_walk.declared.hop.Hop.{Hop}
use Rattle.law_words_kept.specs.Below.place_walk.declared.hop.Hop.TheVariants as hop
use Rattle.law_words_kept.specs.Below.place_walk.Hops.{write_hop}
use Rattle.law_words_kept.specs.Below.thread_state.View.{ThreadState}
use Rattle.law_words_kept.specs.Below.thread_state.declared.phase.Phase.{Phase}
use Rattle.law_words_kept.specs.Below.thread_state.declared.phase.Phase.TheVariants as phase
use Rattle.law_words_kept.specs.Below.thread_state.declared.value.Value.{Value}
use Rattle.law_words_kept.specs.Below.thread_state.declared.value.Value.TheVariants as value
use Rattle.law_words_kept.specs.Below.server_model.declared.event.Event.{Event}
use Rattle.law_words_kept.specs.Below.server_model.Servers.{Server, Cluster}
use Rattle.law_words_kept.specs.Below.server_model.Work.{Hand, with_slots, push_temp, then_some}
use Rattle.law_words_kept.specs.Below.server_model.NewWords.{NewWord, issue_tint, issue_renewal, can_grow, is_last}
use Rattle.law_words_kept.specs.Below.server_model.Work as work
use Rattle.law_words_kept.specs.Below.server_model.Places.{Spot, in_slot, on_top, in_cell, in_copy, nowhere, value_in as cell_value, value_at, load_at, pointer_of, took, put_word, put_slot, with_word}
use Rattle.law_words_kept.specs.Below.server_model.Prepare.{ReadPointer, LendTo, Prepared, ready, requested, nothing, and_then, ready_at, ask_object, request_by, box_of, clean_last, cleaned_by, clean, clean_value, read_stars, read_pointer, is_taken, lend_by, lend_value, lend_pointer, prepare}
use Rattle.law_words_kept.specs.Below.server_model.Commit.{goes_on, shared_from, lent_word, mutable_from, borrow_from, borrow_mut_from}
use Rattle.law_words_kept.specs.Below.server_model.Events.{committed, prepared, step}
use Rattle.law_words_kept.specs.Below.coherent_memory.Things.{Location, at_slot, in_cell as at_cell}
use Rattle.law_words_kept.specs.Below.coherent_memory.Follow.{Ground, value_in, value_behind, leads, locate}
use Rattle.law_words_kept.specs.Below.coherent_memory.Sight.{sight}
use Rattle.law_words_kept.specs.Below.coherent_memory.OneHeap.{Node, one_heap, plain_value}
use Rattle.law_words_kept.specs.Below.coherent_types.ClusterTypes.{IsCoherent}
use Rattle.law_words_kept.specs.Below.law_counts_sums.Laws.{Gives}
use Rattle.law_words_kept.proofs.Below.law_counts_sums.Results.{then_gives, over_gives, weaker}
use Rattle.law_words_kept.specs.reads.Reading.{Reads, shares, lends}
use Rattle.law_heap_still.proofs.events.Prepares.{Fine}
use Rattle.law_heap_still.proofs.events.Readied.{Readied}
use Rattle.law_heap_steps.proofs.turns.Parts.{value_owns}
use Rattle.law_heap_steps.proofs.turns.PlainTurn.{state_at}
use Rattle.law_heap_steps.proofs.turns.Instructions.{shown_last, TurnIn}
use Rattle.law_heap_steps.proofs.turns.ReadWalk.{Finds, At, Comes, reads as walk, seen_value, passed_loads, loads_behind, value_loaded, set_there}
use Rattle.law_heap_steps.proofs.turns.PlainReads.{plain_spot, borrow_shown}
use Rattle.law_heap_steps.proofs.turns.StarSteps.{QuickIn, settles_in}
use Rattle.law_heap_steps.proofs.turns.StarLines.{same_shown, h0, x, goes, finds, shows, Wanted, pushes_in}
use Rattle.law_heap_steps.proofs.turns.Events.{AtStep}

-- A REFERENCE FROM A POINTER

-- the reference to what a pointer leads to, on the plain machine
abbrev target : PlainValue → Option PlainValue
target (plain_v.Own (plain.Box o)) = Some (plain_v.ToObject o)
target (plain_v.ToSlot i) = Some (plain_v.ToSlot i)
target (plain_v.ToObject o) = Some (plain_v.ToObject o)
target v = None

-- a new reference from the pointer
record New (v u : Value) : Type 0 where
  shown : target (plain_value v) ≡ Some (plain_value u)
  bare : (q : Node) → value_owns q u ≡ false

shared_new : (v : Value) → Gives (New v) (shared_from v)
shared_new (value.SharedSlot i) = record { shown = refl; bare = λ q. refl }
shared_new (value.MutSlot i) = record { shown = refl; bare = λ q. refl }
shared_new (value.Own (owned.Box p)) = record { shown = refl; bare = λ q. refl }
shared_new (value.Shared r) = record { shown = refl; bare = λ q. refl }
shared_new (value.Mut r) = record { shown = refl; bare = λ q. refl }
shared_new (value.Own owned.Nothing) = tt
shared_new (value.Own owned.Unit) = tt
shared_new (value.Own (owned.Int n)) = tt
shared_new (value.Own (owned.Mutex m)) = tt
shared_new (value.Own (owned.Task t)) = tt
shared_new value.Gone = tt
shared_new (value.Held m) = tt

lent_object : (p : Phase) (r : MutRef) → (lent_word p r).object ≡ r.object
lent_object (phase.Taken w) r = refl
lent_object _ r = refl

mutable_new : (p : Phase) (holder : Lval) (v : Value) → Gives (New v) (mutable_from p holder v)
mutable_new p holder (value.MutSlot i) = record { shown = refl; bare = λ q. refl }
mutable_new p holder (value.Own (owned.Box b)) =
    record { shown = ap (λ o. Some (plain_v.ToObject o)) (sym (lent_object p (record { word = b.word; first = b.word; object = b.object; dirty = false; holder = holder }))); bare = λ q. refl }
mutable_new p holder (value.Mut r) =
    record { shown = ap (λ o. Some (plain_v.ToObject o)) (sym (lent_object p (record { word = r.word; first = r.word; object = r.object; dirty = r.dirty; holder = holder }))); bare = λ q. refl }
mutable_new p holder (value.Own owned.Nothing) = tt
mutable_new p holder (value.Own owned.Unit) = tt
mutable_new p holder (value.Own (owned.Int n)) = tt
mutable_new p holder (value.Own (owned.Mutex m)) = tt
mutable_new p holder (value.Own (owned.Task t)) = tt
mutable_new p holder (value.SharedSlot i) = tt
mutable_new p holder (value.Shared r) = tt
mutable_new p holder value.Gone = tt
mutable_new p holder (value.Held m) = tt

some_is : {a b : PlainValue} → Some a ≡ Some b → a ≡ b
some_is q = cc

-- where the pointer leads in the cluster
leads_to : (t : ℕ) (v : Value) (z : PlainValue) → target (plain_value v) ≡ Some z → (l : Location) × (leads t (Some v) ≡ Some l) × (z ≡ reference (plain_spot l))
leads_to t (value.Own (owned.Box p)) z e = (at_cell p.object, refl, some_is (sym e))
leads_to t (value.SharedSlot i) z e = (at_slot t i, refl, some_is (sym e))
leads_to t (value.MutSlot i) z e = (at_slot t i, refl, some_is (sym e))
leads_to t (value.Shared r) z e = (at_cell r.object, refl, some_is (sym e))
leads_to t (value.Mut r) z e = (at_cell r.object, refl, some_is (sym e))
leads_to t (value.Own owned.Nothing) z e = absurd (cc e)
leads_to t (value.Own owned.Unit) z e = absurd (cc e)
leads_to t (value.Own (owned.Int n)) z e = absurd (cc e)
leads_to t (value.Own (owned.Mutex m)) z e = absurd (cc e)
leads_to t (value.Own (owned.Task u)) z e = absurd (cc e)
leads_to t value.Gone z e = absurd (cc e)
leads_to t (value.Held m) z e = absurd (cc e)

-- WHAT A BORROW COMES TO

module _ (k : Cluster) (co : IsCoherent k) (e : Event) (i : Instr) (s : Server) (t : ℕ) (y : ThreadState) (a : AtStep k e i s t y) (w : Lval) (d : ℕ) (reads : Reads i w d) (deep : w.depth ≡ suc d) where
  abbrev g : Ground
  g = (sight k).ground

  abbrev found : Finds g y s.rest w d
  found = finds k co e i s t y a w d reads

  abbrev start : Hand
  start = h0 k co e i s t y a

  -- the pointer that is borrowed from, as it stands in the cluster
  record Points (h : Hand) (sp : Spot) : Type 0 where
    location : Location
    located : locate g y.number w.slot d ≡ Some location
    value : Value
    stands : value_in g location ≡ Some value
    labels : h.work.labels ≡ passed_loads g y.number w.slot (suc d)
    shown : (v : Value) → value_at h sp ≡ Some v → plain_value v ≡ plain_value value

  abbrev Pointed : Prepared → Type 0
  Pointed (ready h sp) = (v : Value) → value_at h sp ≡ Some v → Points h sp
  Pointed (requested h) = ⊤
  Pointed nothing = ⊤

  one_value : (v u : Value) → Some v ≡ Some u → v ≡ u
  one_value v u q = cc

  -- as it is read
  loaded : (h : Hand) (sp : Spot) (v : Value) → At g y s.rest w d found d h sp → value_at h sp ≡ Some v → Points (load_at sp h) sp
  loaded h sp v at there =
      let it = seen_value (value_in g at.location) v (sym (ap (option_map unpinned) there) ∙ at.seen) in record {
        location = at.location;
        located = at.located;
        value = it.0;
        stands = it.1;
        labels = ap₂ (λ m n. m ++ n) at.labels at.loads ∙ ap (λ o. passed_loads g y.number w.slot d ++ loads_behind g o) (sym at.located);
        shown = λ u q. ap plain_value (one_value u v (sym q ∙ value_loaded sp h ∙ there)) ∙ same_shown v it.0 it.2;
      }

  abbrev Came : Hand → Spot → Type 0
  Came h sp = (v : Value) → value_at h sp ≡ Some v → At g y s.rest w d found d h sp

  loaded_if : (h : Hand) (sp : Spot) → Came h sp → Pointed (ready (load_at sp h) sp)
  loaded_if h sp c = λ v q. (let there = sym (value_loaded sp h) ∙ q in loaded h sp v (c v there) there)

  -- A SHARED BORROW CLEANS IT

  nowhere_there : (o : Option Cell) (q : MutRef) → cell_value o ≡ Some (value.Mut q) → ⊥
  nowhere_there None q e = cc e
  nowhere_there (Some c) q e = cc e

  ready_pointed : (sp : Spot) (o : Option Hand) → Gives (λ h. Points h sp) o → Pointed (ready_at sp o)
  ready_pointed sp None e = tt
  ready_pointed sp (Some h) e = λ v q. e

  -- with a new word it leads where it led
  puts : (sp : Spot) (h : Hand) (q : MutRef) (n : NewWord) → value_at h sp ≡ Some (value.Mut q) → (sp ≡ on_top → ⊥) → Points h sp → n.work.labels ≡ h.work.labels → Gives (λ h3. Points h3 sp) (put_word sp n h)
  puts (in_slot j) h q n there off p ls =
      subst (λ o. Gives (λ h3. Points h3 (in_slot j)) (then_some o (λ v. then_some (with_word n.word v) (λ new. put_slot j new (record h { work = n.work }))))) (sym there) (by (nat_lt j (length h.thread.slots)))
    where
      by : (b : Bool) → Gives (λ h3. Points h3 (in_slot j)) (if b then Some (with_slots (slice_set h.thread.slots j (value.Mut (took q n.word))) (record h { work = n.work })) else None)
      by true = record {
        location = p.location;
        located = p.located;
        value = p.value;
        stands = p.stands;
        labels = ls ∙ p.labels;
        shown = λ v z. ap plain_value (one_value v (value.Mut (took q n.word)) (sym z ∙ set_there h.thread.slots j (value.Mut q) (value.Mut (took q n.word)) there)) ∙ p.shown (value.Mut q) there;
      }
      by false = tt
  puts on_top h q n there off p ls = absurd (off refl)
  puts (in_cell u z) h q n there off p ls = absurd (nowhere_there (work.look h.work.rest.partition u) q there)
  puts (in_copy u) h q n there off p ls = absurd (nowhere_there (hit h.work.rest.cache u) q there)
  puts nowhere h q n there off p ls = absurd (nowhere_there None q there)

  module _ (h : Hand) (sp : Spot) (q : MutRef) (there : value_at h sp ≡ Some (value.Mut q)) (off : sp ≡ on_top → ⊥) (p : Points h sp) where
    renews : Pointed (ready_at sp (then_some (issue_renewal (box_of q) h.work) (λ n. put_word sp n h)))
    renews = by (work.leads_here h.work.rest.partition q.word && (is_last h.work.rest.partition q.word && can_grow h.work.rest.partition))
      where
        by : (b : Bool) → Pointed (ready_at sp (then_some (if b then Some (record {
          word = new_word (freed h.work.rest.partition q.word);
          work = work.note (act.Renew q.object q.word (new_word (freed h.work.rest.partition q.word))) (work.with_partition (renewed h.work.rest.partition q.word) h.work);
        }) else None) (λ n. put_word sp n h)))
        by true = ready_pointed sp _ (puts sp h q _ there off p refl)
        by false = tt

    last : Pointed (clean_last sp q h)
    last = by (server_of q.word == h.work.rest.number)
      where
        by : (b : Bool) → Pointed (if b then ready_at sp (then_some (issue_renewal (box_of q) h.work) (λ n. put_word sp n h)) else requested (ask_object (box_of q) h))
        by true = renews
        by false = tt

    cleans_by : (c : Cleaned) → Pointed (cleaned_by c sp q h)
    cleans_by cleaned.Same = λ v z. p
    cleans_by (cleaned.Tinted u) = ready_pointed sp (put_word sp (issue_tint (box_of q) h.work) h) (puts sp h q (issue_tint (box_of q) h.work) there off p refl)
    cleans_by cleaned.MustRenew = last

    cleans : Pointed (clean sp q h)
    cleans = by (nat_lt (colour_of q.word) h.work.rest.partition.limit)
      where
        by : (b : Bool) → Pointed (if b then cleaned_by (cleaned_answer h.work.rest.partition.limit q) sp q h else nothing)
        by true = cleans_by (cleaned_answer h.work.rest.partition.limit q)
        by false = tt

  clean_pointed : (h : Hand) (sp : Spot) → Came h sp → (o : Option Value) → value_at h sp ≡ o → Pointed (clean_value sp o (load_at sp h))
  clean_pointed h sp c (Some (value.Mut q)) there =
      let at = c (value.Mut q) there in
      cleans (load_at sp h) sp q (value_loaded sp h ∙ there) at.off_top (loaded h sp (value.Mut q) at there)
  clean_pointed h sp c None there = loaded_if h sp c
  clean_pointed h sp c (Some _) there = loaded_if h sp c

  then_pointed : (p : Prepared) (go : Hand → Spot → Prepared) → Comes g y s.rest w d found d p → ((h : Hand) (sp : Spot) → Came h sp → Pointed (go h sp)) → Pointed (and_then go p)
  then_pointed (ready h sp) go c f = f h sp c
  then_pointed (requested h) go c f = tt
  then_pointed nothing go c f = tt

  abbrev followed : Comes g y s.rest w d found d (read_stars d start (in_slot w.slot))
  followed = walk g y s.rest w d found d (omega arith)

  share_pointed : Pointed (read_pointer w (suc d) start)
  share_pointed = then_pointed (read_stars d start (in_slot w.slot)) (λ h2 sp. clean_value sp (value_at h2 sp) (load_at sp h2)) followed (λ h sp c. clean_pointed h sp c (value_at h sp) refl)

  -- OF A MUTABLE ONE THE OBJECT COMES

  lend_pointed : (h : Hand) (sp : Spot) → Came h sp → (o : Option Value) → Pointed (lend_value sp o (load_at sp h))
  lend_pointed h sp c None = tt
  lend_pointed h sp c (Some v) = by (write_hop h.work.rest.number v)
    where
      asks : (o : Option BoxPtr) → Pointed (request_by ask_object (load_at sp h) o)
      asks None = tt
      asks (Some p) = tt

      moves : (b : Bool) → Pointed (if b then ready (load_at sp h) sp else request_by ask_object (load_at sp h) (pointer_of v))
      moves true = loaded_if h sp c
      moves false = asks (pointer_of v)

      by : (o : Option Hop) → Pointed (lend_by sp v o (load_at sp h))
      by None = tt
      by (Some (hop.NeedMove u)) = moves (is_taken h.thread.phase)
      by (Some _) = loaded_if h sp c

  lend_there : Pointed (lend_pointer w (suc d) start)
  lend_there = then_pointed (read_stars d start (in_slot w.slot)) (λ h2 sp. lend_value sp (value_at h2 sp) (load_at sp h2)) followed (λ h sp c. lend_pointed h sp c (value_at h sp))

  -- THE STEP

  borrowed : (is_mut : Bool) (h : Hand) (sp : Spot) (v u : Value) → over_at (Some i) (shown_last y.temps) ≡ going
      → run_instr (Some i) y.pc (shown_last y.temps) ≡ loud (y.pc + 1) (shown_last y.temps) (do_borrow w is_mut)
      → Readied start h → Points h sp → value_at h sp ≡ Some v → New v u → QuickIn (one_heap k) k.code s.rest y (push_temp u h)
  borrowed is_mut h sp v u now move ready_h p there new =
      let it = leads_to y.number p.value (plain_value u) (ap target (sym (p.shown v there)) ∙ new.shown) in
      let next : locate g y.number w.slot (suc d) ≡ Some it.0 = ap (λ o. leads y.number (value_behind g o)) p.located ∙ ap (leads y.number) p.stands ∙ it.1 in
      let whole : locate g y.number w.slot w.depth ≡ Some it.0 = ap (locate g y.number w.slot) deep ∙ next in
      pushes_in k co e i s t y a (do_borrow w is_mut) h (push_temp u h) u (passed_loads g y.number w.slot w.depth) ready_h now move (λ c z m. refl)
      (λ c same. borrow_shown k co (x k co e i s t y a) (goes k co e i s t y a) c same w is_mut it.0 whole ∙ ap (λ z. Some (record { value = z; state = state_at c y.number (shown_last y.slots); labels = passed_loads g y.number w.slot w.depth })) (sym it.2))
      (λ c. refl) new.bare refl refl (p.labels ∙ ap (passed_loads g y.number w.slot) (sym deep))

  -- of a place that is ready
  borrow_turns : (is_mut : Bool) (from : Hand → Value → Option Value) → ((h : Hand) (v : Value) → Gives (New v) (from h v)) → over_at (Some i) (shown_last y.temps) ≡ going
      → run_instr (Some i) y.pc (shown_last y.temps) ≡ loud (y.pc + 1) (shown_last y.temps) (do_borrow w is_mut)
      → ((h : Hand) (sp : Spot) → prepared k.options.servers i (ready h sp) ≡ committed (goes_on (then_some (value_at h sp) (λ v. option_map (λ u. push_temp u h) (from h v)))))
      → (p : Prepared) → Pointed p → Fine start p → Gives (Wanted k co e i s t y a) (prepared k.options.servers i p)
  borrow_turns is_mut from news now move commits nothing c f = tt
  borrow_turns is_mut from news now move commits (requested h) c f = λ names q. absurd (cc q)
  borrow_turns is_mut from news now move commits (ready h sp) c f =
      let made : Option Hand = then_some (value_at h sp) (λ v. option_map (λ u. push_temp u h) (from h v)) in
      subst (λ o. Gives (Wanted k co e i s t y a) o) (sym (commits h sp))
      (weaker (TurnIn (one_heap k) k.code s.rest y) (Wanted k co e i s t y a) (committed (goes_on made))
      (settles_in (one_heap k) k.code s.rest y made
      (then_gives (QuickIn (one_heap k) k.code s.rest y) (value_at h sp) (λ v. option_map (λ u. push_temp u h) (from h v)) (λ v q.
      over_gives (New v) (QuickIn (one_heap k) k.code s.rest y) (from h v) (λ u. push_temp u h) (news h v) (λ u new. borrowed is_mut h sp v u now move f.0 (c v q) q new))))
      (λ d turn names q. turn))

-- THE LINES

module _ (k : Cluster) (co : IsCoherent k) (e : Event) (w : Lval) (d : ℕ) (deep : w.depth ≡ suc d) (s : Server) (t : ℕ) (y : ThreadState) where
  pub shared_line : (a : AtStep k e (instr.Borrow w) s t y) → Gives (Wanted k co e (instr.Borrow w) s t y a) (step k.options.servers (instr.Borrow w) (h0 k co e (instr.Borrow w) s t y a))
  shared_line a =
      let i = instr.Borrow w in
      let start = h0 k co e i s t y a in
      let same : prepare (Some (ReadPointer w)) start ≡ read_pointer w (suc d) start = ap (λ z. read_pointer w z start) deep in
      borrow_turns k co e i s t y a w d (shares deep) deep false (λ h v. shared_from v) (λ h v. shared_new v) refl refl (λ h sp. ap (λ z. committed (goes_on (borrow_from w z sp h))) deep) (prepare (Some (ReadPointer w)) start)
      (subst (Pointed k co e i s t y a w d (shares deep) deep) (sym same) (share_pointed k co e i s t y a w d (shares deep) deep)) (shows k co e i s t y a (Some (ReadPointer w)))

  pub mutable_line : (a : AtStep k e (instr.BorrowMut w) s t y) → Gives (Wanted k co e (instr.BorrowMut w) s t y a) (step k.options.servers (instr.BorrowMut w) (h0 k co e (instr.BorrowMut w) s t y a))
  mutable_line a =
      let i = instr.BorrowMut w in
      let start = h0 k co e i s t y a in
      let same : prepare (Some (LendTo w)) start ≡ lend_pointer w (suc d) start = ap (λ z. lend_pointer w z start) deep in
      borrow_turns k co e i s t y a w d (lends deep) deep true (λ h v. mutable_from h.thread.phase (record w { depth = d }) v) (λ h v. mutable_new h.thread.phase (record w { depth = d }) v) refl refl
      (λ h sp. ap (λ z. committed (goes_on (borrow_mut_from w z sp h))) deep) (prepare (Some (LendTo w)) start)
      (subst (Pointed k co e i s t y a w d (lends deep) deep) (sym same) (lend_there k co e i s t y a w d (lends deep) deep)) (shows k co e i s t y a (Some (LendTo w)))
