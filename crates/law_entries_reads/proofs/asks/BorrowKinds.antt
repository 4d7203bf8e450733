-- A borrow that ends in a request: on the way, or for the object of the pointer from which it borrows.
use Rattle.std.proofs.Common.{◌≡◌, ◌⊎◌, inl, inr, ⊎_elim, ℕ, zero, suc, ◌==◌, Bool, true, false, nat_lt, if◌then◌else◌, ◌++◌, Option, Some, None, refl, sym, ap, ap₂, subst}
use Rattle.std.specs.Bool.{⊤}
use Rattle.std.specs.Prelude.{slice_get}
use Rattle.law_entries_reads.specs.Below.law_copies_kept.Below.fr_base.declared.name.ObjNo.{ObjNo}
use Rattle.law_entries_reads.specs.Below.law_copies_kept.Below.fr_base.declared.place.Lval.{Lval}
use Rattle.law_entries_reads.specs.Below.law_copies_kept.Below.fr_base.declared.instruction.Instr.{Instr}
use Rattle.law_entries_reads.specs.Below.law_copies_kept.Below.fr_base.declared.instruction.Instr.TheVariants as instr
use Rattle.law_entries_reads.specs.Below.law_copies_kept.Below.fr_base.declared.step.Fresh.TheVariants as fresh
use Rattle.law_entries_reads.specs.Below.law_copies_kept.Below.global_addr.Words.{colour_of, server_of}
use Rattle.law_entries_reads.specs.Below.law_copies_kept.Below.heap_partition.declared.value.BoxPtr.{BoxPtr}
use Rattle.law_entries_reads.specs.Below.law_copies_kept.Below.heap_partition.declared.value.Owned.TheVariants as owned
use Rattle.law_entries_reads.specs.Below.law_copies_kept.Below.mut_borrow.Refs.{cleaned_answer}
use Rattle.law_entries_reads.specs.Below.law_copies_kept.Below.mut_borrow.declared.mutable.MutRef.{MutRef}
use Rattle.law_entries_reads.specs.Below.law_copies_kept.Below.mut_borrow.declared.mutable.Cleaned.{Cleaned}
use Rattle.law_entries_reads.specs.Below.law_copies_kept.Below.mut_borrow.declared.mutable.Cleaned.TheVariants as cleaned
use Rattle.law_entries_reads.specs.Below.law_copies_kept.Below.place_walk.declared.hop.Hop.{Hop}
use Rattle.law_entries_reads.specs.Below.law_copies_kept.Below.place_walk.declared.hop.Hop.TheVariants as hop
use Rattle.law_entries_reads.specs.Below.law_copies_kept.Below.place_walk.Hops.{write_hop}
use Rattle.law_entries_reads.specs.Below.law_copies_kept.Below.thread_state.View.{ThreadState}
use Rattle.law_entries_reads.specs.Below.law_copies_kept.Below.thread_state.declared.phase.Phase.{Phase}
use Rattle.law_entries_reads.specs.Below.law_copies_kept.Below.thread_state.declared.phase.Phase.TheVariants as phase
use Rattle.law_entries_reads.specs.Below.law_copies_kept.Below.thread_state.declared.value.Value.{Value}
use Rattle.law_entries_reads.specs.Below.law_copies_kept.Below.thread_state.declared.value.Value.TheVariants as value
use Rattle.law_entries_reads.specs.Below.law_copies_kept.Below.journal.View.{EntryView}
use Rattle.law_entries_reads.specs.Below.law_copies_kept.Below.server_model.declared.event.What.TheVariants.{Step}
use Rattle.law_entries_reads.specs.Below.law_copies_kept.Below.server_model.Servers.{Rest, Server, Cluster, server_at}
use Rattle.law_entries_reads.specs.Below.law_copies_kept.Below.server_model.Work.{Hand, thread_in, without_thread, then_some}
use Rattle.law_entries_reads.specs.Below.law_copies_kept.Below.server_model.NewWords.{issue_tint, issue_renewal}
use Rattle.law_entries_reads.specs.Below.law_copies_kept.Below.server_model.Places.{Spot, in_slot, value_at, load_at, pointer_of, put_word}
use Rattle.law_entries_reads.specs.Below.law_copies_kept.Below.server_model.Prepare.{Prepared, ready, requested, nothing, ReadTo, and_then, ready_at, ask_object, request_by, box_of, cleaned_by, clean_value, read_stars, read_pointer, is_taken, lend_by, lend_value, lend_pointer}
use Rattle.law_entries_reads.specs.Below.law_copies_kept.Below.server_model.Commit.{goes_on, go_on, settle, borrow, borrow_mut, commit}
use Rattle.law_entries_reads.specs.Below.law_copies_kept.Below.server_model.Events.{enabled, begin_work, Stepped, wait_step, done_step, committed, prepared, step}
use Rattle.law_entries_reads.specs.Below.law_copies_kept.Below.server_model.Clusters.{apply}
use Rattle.law_entries_reads.specs.Below.law_entries_variables.Below.coloured_heap.Heap.{Coloured}
use Rattle.law_entries_reads.specs.Below.law_copies_kept.Below.coherent_memory.Things.{Location, servers_things}
use Rattle.law_entries_reads.specs.Below.law_copies_kept.Below.coherent_memory.Follow.{locate}
use Rattle.law_entries_reads.specs.Below.law_copies_kept.Below.coherent_memory.Sight.{sight}
use Rattle.law_entries_reads.specs.Below.law_copies_kept.Below.coherent_memory.Colours.{StandsColoured}
use Rattle.law_entries_reads.specs.Below.law_copies_kept.Below.coherent_types.ClusterTypes.{IsCoherent}
use Rattle.law_entries_reads.proofs.Below.law_copies_kept.Below.law_words_paths.paths.Sole.{some_is}
use Rattle.law_copies_kept.specs.Below.law_words_kept.reads.Reading.{Reads, shares, lends}
use Rattle.law_entries_reads.specs.Below.law_copies_kept.Below.law_counts_sums.Laws.{Gives, FewEvents}
use Rattle.law_entries_reads.specs.Below.law_copies_kept.Below.law_counts_sums.Kinds.{instr_kind}
use Rattle.law_entries_reads.proofs.Below.law_copies_kept.Below.law_counts_sums.Proved.{IsProvedKind}
use Rattle.law_entries_reads.proofs.Below.law_copies_kept.Below.law_counts_sums.Results.{map_gives}
use Rattle.law_entries_reads.proofs.Below.law_copies_kept.Below.law_counts_sums.RulesKeep.{sums_kept, sums_spend}
use Rattle.law_entries_reads.proofs.Below.law_copies_kept.Below.law_counts_sums.Bags.{all_standing}
use Rattle.law_entries_reads.proofs.Below.law_copies_kept.Below.law_counts_sums.Events.{others_of}
use Rattle.law_entries_reads.proofs.Below.law_copies_kept.Below.law_counts_sums.Steps.{step_keeps}
use Rattle.law_entries_reads.proofs.Below.law_copies_kept.Below.law_results_reads.Known.{Steps}
use Rattle.law_entries_reads.proofs.Below.law_copies_kept.Below.law_results_reads.Reading.{Reading}
use Rattle.law_entries_reads.proofs.Below.law_copies_kept.Below.law_results_reads.Starred.{bound, At, Fine, loaded}
use Rattle.law_copies_kept.proofs.Below.law_words_kept.prepared.Asking.{found_number}
use Rattle.law_copies_kept.proofs.Below.law_words_kept.prepared.Untaken.{not_taken}
use Rattle.law_entries_reads.proofs.Below.law_copies_kept.Below.law_words_values.carried.Hands.{first_ok}
use Rattle.law_entries_reads.proofs.Below.law_copies_kept.references.ReadAsks.{Known}
use Rattle.law_copies_kept.proofs.Below.law_words_borrows.Below.law_counts_asking.Unasked.{Unasked}
use Rattle.law_copies_kept.proofs.Below.law_words_borrows.AtHand.{unasked}
use Rattle.law_copies_kept.proofs.Below.law_words_borrows.Sources as sources
use Rattle.law_entries_reads.proofs.Below.law_copies_kept.Below.law_counts_things.things.Small.{Small, Made, prepare_makes}
use Rattle.law_entries_reads.proofs.Below.law_copies_kept.Below.law_counts_things.things.Goes.{puts_by, Any, AnyWord}
use Rattle.law_entries_reads.proofs.Below.law_copies_kept.objects.Following as following
use Rattle.law_entries_reads.specs.Below.law_entries_variables.deliveries.Entries.{LeadsOn}
use Rattle.law_entries_reads.specs.asks.Asking.{SharedBorrowsThatAskLegal, MutableBorrowsThatAskLegal}
use Rattle.law_entries_reads.proofs.asks.Pointed.{Pointed, pointed}
use Rattle.law_entries_reads.proofs.asks.ReadWalk.{OnlyHops, WantedSo, loaded_at, spot_value}
use Rattle.law_entries_reads.proofs.asks.Ending.{IsOk, Ends, DoneOrEnds, ends_with}
use Rattle.law_entries_reads.proofs.asks.ReadRequests.{X, wanted, known_all, object_ends, wanted_ends}

-- where an object has to come to be written the pointer leads elsewhere
move_needed : (n c : ℕ) (u : Value) (b : BoxPtr) → write_hop n u ≡ Some (hop.NeedMove c) → pointer_of u ≡ Some b → (server_of b.word == n) ≡ false
move_needed n c u b e f = by u e f
  where
    Far : ℕ → Type 0
    Far w = (server_of w == n) ≡ false

    two : (w : ℕ) (x : Hop) → (x ≡ hop.NeedMove c → ⊥) → Some (if server_of w == n then x else hop.NeedMove w) ≡ Some (hop.NeedMove c) → Far w
    two w x other q = split (server_of w == n) refl q
      where
        split : (a : Bool) → (server_of w == n) ≡ a → Some (if a then x else hop.NeedMove w) ≡ Some (hop.NeedMove c) → Far w
        split true z r = absurd (other (some_is r))
        split false z r = z

    by : (v : Value) → write_hop n v ≡ Some (hop.NeedMove c) → pointer_of v ≡ Some b → Far b.word
    by (value.Own (owned.Box p)) q r = subst (λ (x : BoxPtr). Far x.word) (some_is r) (two p.word (hop.NeedTint p.word) (λ g. absurd cc) q)
    by (value.Mut p) q r = subst (λ (x : BoxPtr). Far x.word) (some_is r) (two p.word (hop.AtCell p.word) (λ g. absurd cc) q)
    by (value.Shared p) q r = absurd cc
    by (value.Own owned.Nothing) q r = absurd cc
    by (value.Own owned.Unit) q r = absurd cc
    by (value.Own (owned.Int m)) q r = absurd cc
    by (value.Own (owned.Mutex m)) q r = absurd cc
    by (value.Own (owned.Task m)) q r = absurd cc
    by (value.SharedSlot j) q r = absurd cc
    by (value.MutSlot j) q r = absurd cc
    by value.Gone q r = absurd cc
    by (value.Held m) q r = absurd cc

module _ (k : Cluster) (coherent : IsCoherent k) (few : FewEvents k) (s : Server) (here : server_at k.servers s.rest.number ≡ Some s) (t : ℕ) (y : ThreadState) (at : thread_in s.threads t ≡ Some y) (on : enabled k.options s (Step t) ≡ true)
    (w : Lval) (i : Instr) (m : ℕ) (reading : Reads i w m) (deep : w.depth ≡ suc m) (code : slice_get k.code y.pc ≡ Some i) (free : (v : ℕ) → y.phase ≡ phase.Taken v → ⊥) (c0 : Coloured) (is_coloured : StandsColoured k c0) where
  abbrev n : ℕ
  n = s.rest.number

  abbrev start : Hand
  start = record { work = begin_work s.rest; thread = y }

  abbrev z : Steps k n t s y i
  z = following.its k coherent few s here t y at on w i m reading code free

  abbrev Known_so : Hand → Type 0
  Known_so = X k coherent few s here t y at on w i m reading code free c0 is_coloured

  abbrev Reads_so : Hand → Type 0
  Reads_so h = Reading y s.rest (bound k n t s y i z) m h

  abbrev EndsSo : Stepped → Type 0
  EndsSo = Ends k coherent s here t y at c0

  -- what is asked for is a legal end
  abbrev AsksWell : Prepared → Type 0
  AsksWell (ready h sp) = ⊤
  AsksWell (requested h) = EndsSo (wait_step h)
  AsksWell nothing = ⊤

  if_well : (b : Bool) (p q : Prepared) → AsksWell p → AsksWell q → AsksWell (if b then p else q)
  if_well true p q f g = f
  if_well false p q f g = g

  ready_well : (sp : Spot) (o : Option Hand) → AsksWell (ready_at sp o)
  ready_well sp None = tt
  ready_well sp (Some h) = tt

  -- THE POINTER FROM WHICH IS BORROWED

  module _ (h : Hand) (sp : Spot) (l : Location) (located : locate (sight k).ground y.number w.slot m ≡ Some l) (spot : At k n t s y i z sp l) (known : Known_so h) (hops : OnlyHops h) (a : Reads_so h) (u : Value) (at_hand : value_at h sp ≡ Some u) where
    points : (b : BoxPtr) → pointer_of u ≡ Some b → Pointed k coherent b
    points b e =
        let stood = spot_value k n t s y i z m h sp l u a spot at_hand in
        let p = (stood.2).pointer b e in
        let fresh = sources.fresh_there k coherent s here t y at on i code w m reading deep free l located in
        let under = sources.under_there k coherent s here t y at on i code w m reading deep free l stood.0 p.0 located stood.1 p.1 in
        subst (Pointed k coherent) (ap₂ box_as p.2 p.3) (pointed k coherent y.number l stood.0 p.0 stood.1 p.1 fresh under)
      where
        box_as : ℕ → ObjNo → BoxPtr
        box_as v o = record { word = v; object = o }

    asks_it : (b : BoxPtr) → pointer_of u ≡ Some b → (server_of b.word == h.work.rest.number) ≡ false → EndsSo (wait_step (ask_object b h))
    asks_it b e far = object_ends k coherent few s here t y at on w i m reading code free c0 is_coloured m h b known hops a (points b e) far

  -- a reference is cleaned, or its object asked for
  module _ (h : Hand) (sp : Spot) (l : Location) (located : locate (sight k).ground y.number w.slot m ≡ Some l) (spot : At k n t s y i z sp l) (known : Known_so h) (hops : OnlyHops h) (a : Reads_so h) where
    cleans_by : (q : MutRef) → value_at h sp ≡ Some (value.Mut q) → (c : Cleaned) → AsksWell (cleaned_by c sp q h)
    cleans_by q e cleaned.Same = tt
    cleans_by q e (cleaned.Tinted v) = ready_well sp (put_word sp (issue_tint (box_of q) h.work) h)
    cleans_by q e cleaned.MustRenew = by (server_of q.word == h.work.rest.number) refl
      where
        by : (b : Bool) → (server_of q.word == h.work.rest.number) ≡ b → AsksWell (if b then ready_at sp (then_some (issue_renewal (box_of q) h.work) (λ c. put_word sp c h)) else requested (ask_object (box_of q) h))
        by true f = ready_well sp (then_some (issue_renewal (box_of q) h.work) (λ c. put_word sp c h))
        by false f = asks_it h sp l located spot known hops a (value.Mut q) e (box_of q) refl f

    cleans : (o : Option Value) → value_at h sp ≡ o → AsksWell (clean_value sp o h)
    cleans (Some (value.Mut q)) e = if_well (nat_lt (colour_of q.word) h.work.rest.partition.limit) (cleaned_by (cleaned_answer h.work.rest.partition.limit q) sp q h) nothing (cleans_by q e (cleaned_answer h.work.rest.partition.limit q)) tt
    cleans (Some (value.Own v)) e = tt
    cleans (Some (value.SharedSlot v)) e = tt
    cleans (Some (value.MutSlot v)) e = tt
    cleans (Some (value.Shared v)) e = tt
    cleans (Some value.Gone) e = tt
    cleans (Some (value.Held v)) e = tt
    cleans None e = tt

    -- an object that is elsewhere is asked for
    moves : (u : Value) → value_at h sp ≡ Some u → (c : ℕ) → write_hop h.work.rest.number u ≡ Some (hop.NeedMove c) → (o : Option BoxPtr) → pointer_of u ≡ o → AsksWell (request_by ask_object h o)
    moves u e c f None g = tt
    moves u e c f (Some b) g = asks_it h sp l located spot known hops a u e b g (move_needed h.work.rest.number c u b f g)

    lends_by : (u : Value) → value_at h sp ≡ Some u → (o : Option Hop) → write_hop h.work.rest.number u ≡ o → AsksWell (lend_by sp u o h)
    lends_by u e None f = tt
    lends_by u e (Some (hop.NeedMove c)) f = if_well (is_taken h.thread.phase) (ready h sp) (request_by ask_object h (pointer_of u)) tt (moves u e c f (pointer_of u) refl)
    lends_by u e (Some (hop.Slot c)) f = tt
    lends_by u e (Some (hop.Direct c)) f = tt
    lends_by u e (Some (hop.Hit c)) f = tt
    lends_by u e (Some (hop.NeedCopy c)) f = tt
    lends_by u e (Some (hop.NeedTint c)) f = tt
    lends_by u e (Some (hop.AtCell c)) f = tt

    lends_it : (o : Option Value) → value_at h sp ≡ o → AsksWell (lend_value sp o h)
    lends_it None e = tt
    lends_it (Some u) e = lends_by u e (write_hop h.work.rest.number u) refl

  -- THE WAY

  then_well : (p : Prepared) (go : Hand → Spot → Prepared) → WantedSo k n t s y i z Known_so w m p → Fine k n t s y i z w.slot m p → Known k n t s y i z Known_so p
      → ((h : Hand) (sp : Spot) (l : Location) → locate (sight k).ground y.number w.slot m ≡ Some l → At k n t s y i z sp l → Known_so (load_at sp h) → OnlyHops h → Reads_so h → AsksWell (go h sp)) → AsksWell (and_then go p)
  then_well (ready h sp) go a f c next = next h sp f.0 f.1 f.2 c a f.3
  then_well (requested h) go a f c next = wanted_ends k coherent few s here t y at on w i m reading code free c0 is_coloured h a
  then_well nothing go a f c next = tt

  abbrev so_far : WantedSo k n t s y i z Known_so w m (read_stars m start (in_slot w.slot))
  so_far = wanted k coherent few s here t y at on w i m reading code free c0 is_coloured

  abbrev fine_so : Fine k n t s y i z w.slot m (read_stars m start (in_slot w.slot))
  fine_so = following.fine k coherent few s here t y at on w i m reading code free

  abbrev known_so : Known k n t s y i z Known_so (read_stars m start (in_slot w.slot))
  known_so = known_all k coherent few s here t y at on w i m reading code free c0 is_coloured

  pub shared_asks : AsksWell (read_pointer w (suc m) start)
  shared_asks =
      then_well (read_stars m start (in_slot w.slot)) (λ h2 sp. clean_value sp (value_at h2 sp) (load_at sp h2)) so_far fine_so known_so
      (λ h sp l located spot c hops a. cleans (load_at sp h) sp l located spot c hops (loaded k n t s y i z m h sp a) (value_at h sp) (loaded_at h sp))

  pub mutable_asks : AsksWell (lend_pointer w (suc m) start)
  mutable_asks =
      then_well (read_stars m start (in_slot w.slot)) (λ h2 sp. lend_value sp (value_at h2 sp) (load_at sp h2)) so_far fine_so known_so
      (λ h sp l located spot c hops a. lends_it (load_at sp h) sp l located spot c hops (loaded k n t s y i z m h sp a) (value_at h sp) (loaded_at h sp))

-- THE STEP

module _ (k : Cluster) (coherent : IsCoherent k) (few : FewEvents k) (s : Server) (here : server_at k.servers s.rest.number ≡ Some s) (t : ℕ) (y : ThreadState) (at : thread_in s.threads t ≡ Some y) (i : Instr) (code : slice_get k.code y.pc ≡ Some i) (c0 : Coloured) where
  abbrev begun : Hand
  begun = record { work = begin_work s.rest; thread = y }

  abbrev Outcome : Stepped → Type 0
  Outcome = DoneOrEnds k coherent s here t y at c0

  pub done_so : (o : Option Hand) → Gives Outcome (committed (goes_on o))
  done_so None = tt
  done_so (Some h2) = map_gives Outcome (settle (go_on h2)) (done_step fresh.None) (λ h3 e. inl (λ none. absurd (cc none)))

  abbrev pub Well : Prepared → Type 0
  Well (ready h sp) = ⊤
  Well (requested h) = Ends k coherent s here t y at c0 (wait_step h)
  Well nothing = ⊤

  pub prepared_so : (p : Prepared) → Well p → ((h : Hand) (sp : Spot) → Gives Outcome (committed (commit k.options.servers i sp h))) → Gives Outcome (prepared k.options.servers i p)
  prepared_so (ready h sp) g f = f h sp
  prepared_so (requested h) g f = inr g
  prepared_so nothing g f = tt

  pub ok_steps : IsProvedKind (instr_kind i) → Gives (λ (d : Stepped). IsOk k coherent s here t y at c0 d.hand) (step k.options.servers i begun)
  ok_steps p = step_keeps sums_kept s.rest.number s.events t (all_standing s.rest.number (without_thread s.threads t) ++ servers_things (others_of k.servers s.rest.number)) k.options.servers i begun p (λ q. sums_spend) (first_ok k coherent.sound s here t y at)

module _ (k : Cluster) (coherent : IsCoherent k) (few : FewEvents k) (s : Server) (here : server_at k.servers s.rest.number ≡ Some s) (t : ℕ) (y : ThreadState) (at : thread_in s.threads t ≡ Some y) (on : enabled k.options s (Step t) ≡ true) (w : Lval) (c0 : Coloured) (is_coloured : StandsColoured k c0) where
  shared_so : (code : slice_get k.code y.pc ≡ Some (instr.Borrow w)) (free : (v : ℕ) → y.phase ≡ phase.Taken v → ⊥) → Gives (DoneOrEnds k coherent s here t y at c0) (step k.options.servers (instr.Borrow w) (record { work = begin_work s.rest; thread = y }))
  shared_so code free = prepared_so k coherent few s here t y at (instr.Borrow w) code c0 (read_pointer w w.depth (record { work = begin_work s.rest; thread = y })) (by w.depth refl) (λ h sp. done_so k coherent few s here t y at (instr.Borrow w) code c0 (borrow w sp h))
    where
      by : (d : ℕ) → w.depth ≡ d → Well k coherent few s here t y at (instr.Borrow w) code c0 (read_pointer w d (record { work = begin_work s.rest; thread = y }))
      by zero e = tt
      by (suc m) e = lifted (read_pointer w (suc m) (record { work = begin_work s.rest; thread = y })) (shared_asks k coherent few s here t y at on w (instr.Borrow w) m (shares e) e code free c0 is_coloured)
        where
          lifted : (p : Prepared) → AsksWell k coherent few s here t y at on w (instr.Borrow w) m (shares e) e code free c0 is_coloured p → Well k coherent few s here t y at (instr.Borrow w) code c0 p
          lifted (ready h sp) q = tt
          lifted (requested h) q = q
          lifted nothing q = tt

  mutable_so : (code : slice_get k.code y.pc ≡ Some (instr.BorrowMut w)) (free : (v : ℕ) → y.phase ≡ phase.Taken v → ⊥) → Gives (DoneOrEnds k coherent s here t y at c0) (step k.options.servers (instr.BorrowMut w) (record { work = begin_work s.rest; thread = y }))
  mutable_so code free = prepared_so k coherent few s here t y at (instr.BorrowMut w) code c0 (lend_pointer w w.depth (record { work = begin_work s.rest; thread = y })) (by w.depth refl) (λ h sp. done_so k coherent few s here t y at (instr.BorrowMut w) code c0 (borrow_mut w sp h))
    where
      by : (d : ℕ) → w.depth ≡ d → Well k coherent few s here t y at (instr.BorrowMut w) code c0 (lend_pointer w d (record { work = begin_work s.rest; thread = y }))
      by zero e = tt
      by (suc m) e = lifted (lend_pointer w (suc m) (record { work = begin_work s.rest; thread = y })) (mutable_asks k coherent few s here t y at on w (instr.BorrowMut w) m (lends e) e code free c0 is_coloured)
        where
          lifted : (p : Prepared) → AsksWell k coherent few s here t y at on w (instr.BorrowMut w) m (lends e) e code free c0 is_coloured p → Well k coherent few s here t y at (instr.BorrowMut w) code c0 p
          lifted (ready h sp) q = tt
          lifted (requested h) q = q
          lifted nothing q = tt

-- A THREAD THAT HAS TAKEN ITS OBJECT asks for nothing: what its place passes is at hand
module _ (k : Cluster) (coherent : IsCoherent k) (few : FewEvents k) (s : Server) (here : server_at k.servers s.rest.number ≡ Some s) (t : ℕ) (y : ThreadState) (at : thread_in s.threads t ≡ Some y) (on : enabled k.options s (Step t) ≡ true) (w : Lval) (code : slice_get k.code y.pc ≡ Some (instr.BorrowMut w)) (v : ℕ)
    (has : y.phase ≡ phase.Taken v) (c0 : Coloured) where
  abbrev Still : Rest → ThreadState → Type 0
  Still r u = u.phase ≡ phase.Taken v

  small : Small Still (λ r u. ⊤) Any AnyWord
  small = record {
    places = record {
      spot = λ q x h g e. tt;
      puts = λ q x h l a g. puts_by Still (λ vs r u g2. g2) (λ vs r u g2. g2) (λ h2 b x2 g2. g2) q x h g;
      worded = λ b x new l a e. tt;
      word_of = λ r a. tt;
      points = λ x p a e. tt;
    };
    tints = λ p h a g e. tt;
    renews = λ p h a g e. (tt, g);
    pinned = λ r a. tt;
    pins = λ b h e g. g;
    uses = λ b h e g. g;
    asks_copy = λ p h a e g. tt;
    asks_object = λ p h a e g. tt;
  }

  -- nothing is asked for
  abbrev Quiet : Prepared → Type 0
  Quiet (ready h sp) = ⊤
  Quiet (requested h) = ⊥
  Quiet nothing = ⊤

  lends_here : (h : Hand) (sp : Spot) → h.thread.phase ≡ phase.Taken v → Quiet (lend_value sp (value_at h sp) (load_at sp h))
  lends_here h sp still = by (value_at h sp)
    where
      by_hop : (u : Value) (o : Option Hop) → Quiet (lend_by sp u o (load_at sp h))
      by_hop u None = tt
      by_hop u (Some (hop.NeedMove c)) = subst (λ b. Quiet (if b then ready (load_at sp h) sp else request_by ask_object (load_at sp h) (pointer_of u))) (sym (ap is_taken still)) tt
      by_hop u (Some (hop.Slot c)) = tt
      by_hop u (Some (hop.Direct c)) = tt
      by_hop u (Some (hop.Hit c)) = tt
      by_hop u (Some (hop.NeedCopy c)) = tt
      by_hop u (Some (hop.NeedTint c)) = tt
      by_hop u (Some (hop.AtCell c)) = tt

      by : (o : Option Value) → Quiet (lend_value sp o (load_at sp h))
      by None = tt
      by (Some u) = by_hop u (write_hop h.work.rest.number u)

  then_quiet : (p : Prepared) → Unasked p → Made Still (λ r u. ⊤) p → Quiet (and_then (λ h2 sp. lend_value sp (value_at h2 sp) (load_at sp h2)) p)
  then_quiet (ready h sp) a g = lends_here h sp g
  then_quiet (requested h) a g = a
  then_quiet nothing a g = tt

  quiet_well : (p : Prepared) → Quiet p → Well k coherent few s here t y at (instr.BorrowMut w) code c0 p
  quiet_well (ready h sp) q = tt
  quiet_well (requested h) q = absurd q
  quiet_well nothing q = tt

  pub taken_so : Gives (DoneOrEnds k coherent s here t y at c0) (step k.options.servers (instr.BorrowMut w) (record { work = begin_work s.rest; thread = y }))
  taken_so = prepared_so k coherent few s here t y at (instr.BorrowMut w) code c0 (lend_pointer w w.depth (record { work = begin_work s.rest; thread = y })) (by w.depth refl) (λ h sp. done_so k coherent few s here t y at (instr.BorrowMut w) code c0 (borrow_mut w sp h))
    where
      by : (d : ℕ) → w.depth ≡ d → Well k coherent few s here t y at (instr.BorrowMut w) code c0 (lend_pointer w d (record { work = begin_work s.rest; thread = y }))
      by zero e = tt
      by (suc m) e =
          quiet_well (lend_pointer w (suc m) (record { work = begin_work s.rest; thread = y }))
          (then_quiet (read_stars m (record { work = begin_work s.rest; thread = y }) (in_slot w.slot)) (unasked k coherent few s here t y at on w m e code v has)
          (prepare_makes (Some (ReadTo (record w { depth = m }))) (record { work = begin_work s.rest; thread = y }) (λ q. small) (λ q c h g. g) has))

-- an object was taken, or none was
taken_or_free : (p : Phase) → ((v : ℕ) × (p ≡ phase.Taken v)) ⊎ ((v : ℕ) → p ≡ phase.Taken v → ⊥)
taken_or_free (phase.Taken v) = inl (v, refl)
taken_or_free phase.Ready = inr (λ v e. absurd cc)
taken_or_free (phase.WaitCell a) = inr (λ v e. absurd cc)
taken_or_free phase.Got = inr (λ v e. absurd cc)
taken_or_free (phase.WaitLock a) = inr (λ v e. absurd cc)
taken_or_free (phase.WaitDup a) = inr (λ v e. absurd cc)
taken_or_free (phase.WaitJoin a) = inr (λ v e. absurd cc)
taken_or_free (phase.WaitPar a b) = inr (λ v e. absurd cc)
taken_or_free (phase.GotPar a b) = inr (λ v e. absurd cc)
taken_or_free phase.Over = inr (λ v e. absurd cc)

pub shared_legal : SharedBorrowsThatAskLegal
shared_legal k number t s y w coherent few here at code c0 is_coloured =
    subst (λ n. server_at k.servers n ≡ Some s → Gives (λ (d : Cluster × EntryView). d.1.done ≡ None → LeadsOn k.options d.1 c0 d.0) (apply k (record { server = n; what = Step t }))) (found_number number k.servers s here)
    (λ h.
    let free : (v : ℕ) → y.phase ≡ phase.Taken v → ⊥ = not_taken k coherent.sound s.rest.number s h t y at (instr.Borrow w) code refl in
    ends_with k coherent s h t y at c0 few (instr.Borrow w) code (λ on. ok_steps k coherent few s h t y at (instr.Borrow w) code c0 tt) (λ on. shared_so k coherent few s h t y at on w c0 is_coloured code free)) here

pub mutable_legal : MutableBorrowsThatAskLegal
mutable_legal k number t s y w coherent few here at code c0 is_coloured =
    subst (λ n. server_at k.servers n ≡ Some s → Gives (λ (d : Cluster × EntryView). d.1.done ≡ None → LeadsOn k.options d.1 c0 d.0) (apply k (record { server = n; what = Step t }))) (found_number number k.servers s here)
    (λ h. ends_with k coherent s h t y at c0 few (instr.BorrowMut w) code (λ on. ok_steps k coherent few s h t y at (instr.BorrowMut w) code c0 tt) (λ on.
    ⊎_elim (λ (p : (v : ℕ) × (y.phase ≡ phase.Taken v)). taken_so k coherent few s h t y at on w code p.0 p.1 c0) (λ (free : (v : ℕ) → y.phase ≡ phase.Taken v → ⊥). mutable_so k coherent few s h t y at on w c0 is_coloured code free) (taken_or_free y.phase))) here
