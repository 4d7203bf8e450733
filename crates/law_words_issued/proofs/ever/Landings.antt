-- Where an object comes: a thread that takes it leaves its pointers what they were, and so do the pointers on the way of each other thread stay.
use Rattle.std.proofs.Common.{◌≡◌, ◌⊎◌, inl, inr, ℕ, ◌==◌, ◌&&◌, ◌+◌, ◌≤◌, Bool, true, false, Option, Some, None, refl, sym, ap, subst, ◌∙◌, arith}
use Rattle.std.specs.Prelude.{slice_get}
use Rattle.std.proofs.lemmas.Bool.{eqb-true}
use Rattle.law_words_issued.proofs.Below.fr_typing.PlaceLemmas.{eq_cases}
use Rattle.law_words_issued.specs.Below.fr_base.Names.{same_object}
use Rattle.law_words_issued.specs.Below.fr_base.declared.name.ObjNo.{ObjNo}
use Rattle.law_words_issued.specs.Below.fr_base.declared.label.Plain.{Plain}
use Rattle.law_words_issued.specs.Below.fr_base.declared.instruction.Instr.TheVariants as instr
use Rattle.law_words_issued.specs.Below.fr_sound.Seen.{seen_cell}
use Rattle.law_words_issued.specs.Below.heap_partition.declared.value.Cell.{Cell}
use Rattle.law_words_issued.specs.Below.thread_state.View.{ThreadState, is_over}
use Rattle.law_words_issued.specs.Below.thread_state.declared.phase.Phase.{Phase}
use Rattle.law_words_issued.specs.Below.thread_state.declared.phase.Phase.TheVariants as phase
use Rattle.law_words_issued.specs.Below.thread_state.declared.value.Value.TheVariants as value
use Rattle.law_words_issued.specs.Below.journal.View.{EntryView}
use Rattle.law_words_issued.specs.Below.server_msgs.declared.message.Message.{Message}
use Rattle.law_words_issued.specs.Below.server_msgs.declared.message.Message.TheVariants as message
use Rattle.law_words_issued.specs.Below.server_model.declared.event.Event.{Event}
use Rattle.law_words_issued.specs.Below.server_model.Servers.{Server, Cluster}
use Rattle.law_words_issued.specs.Below.server_model.Clusters.{apply}
use Rattle.law_words_issued.specs.Below.coherent_memory.Names.{Among, tot, other}
use Rattle.law_words_issued.specs.Below.coherent_memory.Things.{Location, at_slot, in_cell, Thing, sent, message_things, things_of}
use Rattle.law_words_issued.specs.Below.coherent_memory.Follow.{Standing, Ground, thread_at, cell_of, slot_of, value_of, value_in, value_behind, locate}
use Rattle.law_words_issued.specs.Below.coherent_memory.OneHeap.{object_value, two_in}
use Rattle.law_words_issued.specs.Below.coherent_memory.Paths.{path_of}
use Rattle.law_words_issued.specs.Below.coherent_memory.Sight.{sight}
use Rattle.law_words_issued.specs.Below.coherent_memory.Walking.{instr_of, path, asks_for, asked_for}
use Rattle.law_words_issued.specs.Below.coherent_memory.Requests.{is_cell, in_phase, carries}
use Rattle.law_words_issued.proofs.Below.coherent_memory.Names.{and_left, and_right}
use Rattle.law_words_issued.proofs.Below.coherent_memory.Words.{named, itself}
use Rattle.law_words_issued.specs.Below.law_counts_sums.Laws.{FewEvents}
use Rattle.law_words_issued.proofs.Below.law_counts_sums.Askers.{other_none}
use Rattle.law_words_issued.proofs.Below.law_counts_sums.Bags.{thread_number}
use Rattle.law_words_issued.proofs.Below.law_counts_sums.MutexResults.{has}
use Rattle.law_words_issued.proofs.Below.law_counts_sums.Results.{both_give}
use Rattle.law_words_issued.proofs.Below.law_counts_sums.ThreadThere.{thread_there}
use Rattle.law_words_issued.specs.Below.coherent_types.ClusterTypes.{IsCoherent}
use Rattle.law_words_issued.specs.Below.law_words_paths.paths.HeapStore.{GoesOn, HasPaths}
use Rattle.law_words_issued.specs.Below.law_words_paths.paths.Pointing.{lends}
use Rattle.law_words_issued.proofs.Below.law_words_paths.paths.Alike.{IsShown, a_slot, an_object, leads_in_heap, coherent_has_paths}
use Rattle.law_words_issued.proofs.Below.law_words_paths.paths.Contained.{among_thread}
use Rattle.law_words_issued.proofs.Below.law_words_paths.paths.Shown.{object_shown}
use Rattle.law_words_issued.proofs.Below.law_words_paths.paths.Sole.{some_is}
use Rattle.law_words_issued.specs.Below.law_words_paths.words.Reworded.{HasPlaces}
use Rattle.law_words_issued.specs.Below.law_words_paths.words.Unmoved.{Delivers}
use Rattle.law_words_issued.proofs.Below.law_words_kept.reads.FreshReads.{chain_apart}
use Rattle.law_words_issued.proofs.Below.law_heap_still.events.Told.{told, same_told, found}
use Rattle.law_words_issued.proofs.Below.law_results_reads.Alone.{strays, all_less, needed_less, is_asked}
use Rattle.law_words_issued.proofs.Below.law_results_reads.Awaits.{awaited_mine}
use Rattle.law_words_issued.proofs.Below.law_results_reads.Made.{OwnedBy}
use Rattle.law_words_issued.specs.Below.law_counts_waiting.waits.Places.{writes}
use Rattle.law_words_issued.proofs.Below.law_counts_waiting.waits.Written.{Written}
use Rattle.law_walks_own.proofs.Below.law_walks_others.pointers.Cells.{Seeing, cell_weight}
use Rattle.law_walks_own.proofs.Below.law_walks_others.pointers.Sentences.{SameOn}
use Rattle.law_walks_own.proofs.Below.law_walks_others.pointers.Still.{places_of}
use Rattle.law_walks_own.proofs.Below.law_walks_others.pointers.Tests.{same_value, values}
use Rattle.law_walks_own.proofs.Below.law_walks_others.arrivals.Others.{Stood, stood, same_there}
use Rattle.law_walks_own.proofs.Below.law_walks_others.arrivals.Seen.{Leaves, leaves}
use Rattle.law_walks_own.proofs.taken.Landed.{new, Lands, gain, loss, Ends, gets_there, takes_there, Landed}
use Rattle.law_walks_own.proofs.taken.After.{Stays, own_stays, cell_kept}
use Rattle.law_walks_own.proofs.taken.Moved.{Known, known}
use Rattle.law_words_issued.specs.old.Old.{unissued, pointer_word, lent_words}
use Rattle.law_words_issued.specs.ever.Lent.{LandingsLeaveLent}
use Rattle.law_words_issued.proofs.old.Stood.{stood_behind}
use Rattle.law_words_issued.proofs.ever.Taken.{lent_by, each_none, idle, borrows_only, kept}

standing_of : (f : Phase → Bool) (o : Option Standing) → in_phase f o ≡ true → (x : Standing) × (o ≡ Some x) × (f x.thread.phase ≡ true)
standing_of f None e = absurd (cc e)
standing_of f (Some x) e = (x, refl, e)

is_waiting : (p : Phase) (w : ℕ) → is_cell w p ≡ true → p ≡ phase.WaitCell w
is_waiting (phase.WaitCell v) w e = ap phase.WaitCell (eqb-true v w e)
is_waiting _ w e = absurd (cc e)

module _ (k : Cluster) (e : Event) (old : ℕ) (cell : Cell) (t : ℕ) (d : Delivers k e (message.Moved old cell t)) (co : IsCoherent k) (few : FewEvents k) where
  p : HasPaths k
  p = coherent_has_paths k co

  abbrev m : Message
  m = message.Moved old cell t

  abbrev n : ℕ
  n = d.server.rest.number

  -- what is wrong with no message isn't with this one
  unbroken : (g : Thing → ℕ) → tot g (things_of k) ≡ 0 → g (sent n m) ≡ 0
  unbroken g z = let all : tot g (message_things n m) ≤ tot g (things_of k) = has k co.sound e.server d.server d.there d.place m d.message g in omega (arith, z, all)

  -- the object stands in a chain of its thread's own slots, where no other thread reads
  written_there : Written k p t cell.object
  written_there =
      let carried : other (in_phase (is_cell old) (thread_at (sight k).ground.threads t)) ≡ 0 = unbroken (carries (sight k)) co.sound.requests.carry_what_is_asked in
      let z = standing_of (is_cell old) (thread_at (sight k).ground.threads t) (other_none (in_phase (is_cell old) (thread_at (sight k).ground.threads t)) carried) in
      let among = among_thread (sight k).ground.threads t z.0 z.1 in
      let waits_now = is_waiting z.0.thread.phase old z.2 in
      let goes : GoesOn k z.0 = record { among = among.0; going = ap is_over waits_now } in
      let turn = co.sound.walks.wait_in_turn z.0 old among.0 waits_now in
      let a = turn.awaited in
      let asked : 1 ≤ tot (asked_for t a) (things_of k) = subst (λ u. 1 ≤ tot (asked_for u a) (things_of k)) among.1 turn.asked in
      let none : tot (strays t a cell.object) (things_of k) ≡ 0 = omega (arith, asked, all_less t a cell.object (things_of k), co.sound.requests.one_answer t, needed_less t a cell.object (things_of k), co.sound.names.numbers_differ t) in
      let its : strays t a cell.object (sent n m) ≡ 0 = unbroken (strays t a cell.object) none in
      let asks : asks_for t a m ≡ true = is_asked t (same_object cell.object cell.object) (asks_for t a m) (itself cell.object cell.object refl) its in
      let mine : (t == t && a.comes) ≡ true = and_left (t == t && a.comes) (a.word == old && same_object cell.object a.object) asks in
      let brings : (a.word == old && same_object cell.object a.object) ≡ true = and_right (t == t && a.comes) (a.word == old && same_object cell.object a.object) asks in
      let object : a.object ≡ cell.object = sym (named cell.object a.object (and_right (a.word == old) (same_object cell.object a.object) brings)) in
      let owned : OwnedBy k p z.0.thread.number cell.object = subst (OwnedBy k p z.0.thread.number) object (awaited_mine k p z.0 goes (path (sight k) z.0) refl old a (and_right (t == t) a.comes mine) turn.turn) in
      subst (λ u. Written k p u cell.object) among.1 (record {
        chain = record { slot = owned.slot; boxes = owned.boxes; leads_there = owned.leads };
        unread = λ x reads. chain_apart k p z.0 goes (ap two_in waits_now) x (in_cell cell.object) reads owned.slot owned.boxes owned.leads;
      })

  module _ (z : Cluster) (a : Known k e old t cell z) (left : Leaves k n cell t z) where
    abbrev G : Ground
    G = (sight k).ground

    abbrev G2 : Ground
    G2 = (sight z).ground

    abbrev l : Landed k e old t cell z
    l = a.landed

    abbrev s : Server
    s = l.server

    abbrev y : ThreadState
    y = l.thread

    abbrev f : ℕ → ℕ
    f = unissued k

    abbrev wrong : Standing → ℕ
    wrong x = lent_by f (sight z) x

    -- OTHER THREADS

    others_none : (u : Standing) → Among u G2.threads → (u.thread.number ≡ t → ⊥) → wrong u ≡ 0
    others_none u among ne =
        let st : Stood k z n cell t (places_of co) a.places left u = stood k z n cell t (places_of co) a.places left u among (λ h. ne (sym h)) in
        let on : SameOn k z st.standing.thread.number (path (sight k) st.standing) = same_there k z n cell t (places_of co) a.places left p written_there u st among (λ h. ne (sym h)) in
        kept k co.sound.words.are_issued z a.code st.standing u st.among st.same (λ q goes at. subst (λ i. SameOn k z st.standing.thread.number (path_of i st.standing.thread)) at on)

    -- THE THREAD THAT IS ANSWERED

    abbrev own_x : Standing
    own_x = record { server = s.rest.number; packed = false; thread = y }

    own_there : thread_at G.threads t ≡ Some own_x
    own_there = thread_there k co.sound e.server s l.here t y l.at

    own_number : y.number ≡ t
    own_number = thread_number s.threads t y l.at

    own_at : thread_at G.threads y.number ≡ Some own_x
    own_at = ap (thread_at G.threads) own_number ∙ own_there

    own_goes : GoesOn k own_x
    own_goes = record { among = (among_thread G.threads t own_x own_there).0; going = (let c = l.comes in ap is_over c.waited) }

    abbrev w1 : ℕ
    w1 = new k.code s old t cell y

    abbrev taker : ThreadState
    taker = record y { phase = phase.Taken w1 }

    -- where it takes the object its slots, and the cells on its way, have what they had
    module _ (more : (w : (see : Seeing) × Lands k.code s old t cell y see) → tot (cell_weight w.0) (things_of k) + gain k.code s old t cell y w.0 ≤ tot (cell_weight w.0) (things_of z) + loss k.code s old t cell y w.0) (st : Stays z (record { server = s.rest.number; packed = false; thread = taker })) where
      slots : (i : ℕ) → value_in G2 (at_slot y.number i) ≡ value_in G (at_slot y.number i)
      slots i =
          ap (λ o. slot_of o i) st.found
          ∙ same_told same_value values (slice_get st.standing.thread.slots i) (slice_get y.slots i) (λ g. st.same (λ q. told g (slice_get q.thread.slots i)))
          ∙ sym (ap (λ o. slot_of o i) own_at)

      cell_same : (o : ObjNo) (b : Cell) → cell_of G.cells o ≡ Some b → value_in G2 (in_cell o) ≡ value_in G (in_cell o)
      cell_same o b at = let r = cell_kept k z (places_of co) a.places k.code s old t cell y l.comes o b at more in by r.cell r.there r.has
        where
          by : (c : Cell) → cell_of G2.cells o ≡ Some c → (c.value ≡ b.value) ⊎ (false ≡ true) → value_in G2 (in_cell o) ≡ value_in G (in_cell o)
          by c h (inl same) = ap value_of h ∙ ap (λ v. Some (value.Own v)) same ∙ sym (ap value_of at)
          by c h (inr never) = absurd (cc never)

      shown_same : (m : Location) → IsShown k p own_x own_goes m → value_in G2 m ≡ value_in G m
      shown_same _ (a_slot i) = slots i
      shown_same _ (an_object o v h) = by (object_value (sight k) o) refl h
        where
          by : (q : Option Plain) → object_value (sight k) o ≡ q → seen_cell p.types.typing.gives q ≡ Some v → value_in G2 (in_cell o) ≡ value_in G (in_cell o)
          by None q i = absurd (cc i)
          by (Some b) q i = let r = object_shown (sight k) o b q in cell_same o r.0 r.1

      behind_none : (slot i : ℕ) (o : Option Location) → locate G y.number slot i ≡ o → pointer_word f (value_behind G2 o) ≡ 0
      behind_none slot i None h = refl
      behind_none slot i (Some m) h = ap (pointer_word f) (shown_same m (leads_in_heap k p own_x own_goes slot i m h).1) ∙ stood_behind k f co.sound.words.are_issued (Some m)

      taker_none : wrong (record { server = s.rest.number; packed = false; thread = taker }) ≡ 0
      taker_none = borrows_only f G2 y.number w1 (slice_get z.code y.pc) (λ q i at deep.
          let code : instr_of (sight k) own_x ≡ Some (instr.BorrowMut q) = sym (ap (λ cs. slice_get cs y.pc) a.code) ∙ at in
          let leads_so = a.leads (record { thread = own_x; place = q; goes = own_goes; follows = writes (instr.BorrowMut q) code lends }) i (omega (arith, deep)) in
          ap (λ o. pointer_word f (value_behind G2 o)) leads_so ∙ behind_none q.slot i (locate G y.number q.slot i) refl)

    own_ends : (u : ThreadState) → Ends k.code s old t cell y u (things_of k) (things_of z) → Stays z (record { server = s.rest.number; packed = false; thread = u }) → wrong (record { server = s.rest.number; packed = false; thread = u }) ≡ 0
    own_ends u (gets_there got more) st = idle f G2 u.number u.phase (slice_get z.code u.pc) (λ w is. (let no : phase.Got ≡ phase.Taken w = sym got ∙ is in absurd (cc no)))
    own_ends u (takes_there untold takes more) st =
        subst (λ (v : ThreadState). Stays z (record { server = s.rest.number; packed = false; thread = v }) → wrong (record { server = s.rest.number; packed = false; thread = v }) ≡ 0) (sym takes) (λ now. taker_none more now) st

    own_none : (x : Standing) → Among x G2.threads → x.thread.number ≡ t → wrong x ≡ 0
    own_none x among number =
        let c = l.comes in
        let places : HasPlaces z = a.places in
        let st = own_stays k z (places_of co) a.places k.code s old t cell y c in
        let here : thread_at G2.threads x.thread.number ≡ Some x = found x (things_of z) (places.numbers_differ x.thread.number) among in
        let same : st.standing ≡ x = some_is (sym st.found ∙ ap (thread_at G2.threads) (c.number ∙ sym number) ∙ here) in
        ap wrong (sym same) ∙ st.same wrong ∙ own_ends c.thread c.ends st

    landing_none : (x : Standing) → Among x G2.threads → wrong x ≡ 0
    landing_none x among = eq_cases (λ b. wrong x ≡ 0) x.thread.number t (λ number. own_none x among number) (λ ne. others_none x among ne)

pub landings_leave_lent : LandingsLeaveLent
landings_leave_lent k e old cell t d co few =
    both_give (λ (r : Cluster × EntryView). Known k e old t cell r.0) (λ (r : Cluster × EntryView). Leaves k d.server.rest.number cell t r.0) (λ (r : Cluster × EntryView). lent_words (unissued k) (sight r.0) ≡ 0) (apply k e) (known k e old t cell d co few)
    (leaves k e old cell t d co few) (λ r a left. each_none (unissued k) r.0 (landing_none k e old cell t d co few r.0 a left))
