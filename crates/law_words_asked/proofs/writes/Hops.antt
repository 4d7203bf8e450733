-- One hop of a write that is made ready: a box gets the next colour, or its object another address, and the reference that led there is marked.
use Rattle.std.proofs.Common.{◌≡◌, inl, inr, ⊎_elim, ℕ, ◌+◌, ◌<◌, ◌≤◌, ◌^◌, ◌&&◌, nat_lt, Bool, true, false, if◌then◌else◌, List, ◌++◌, Option, Some, None, option_map, refl, sym, ap, subst, ◌∙◌, arith, length}
use Rattle.std.specs.Prelude.{⊤, slice_get}
use Rattle.std.proofs.lemmas.Bool.Decides.{nat_tests}
use Rattle.law_results_events.specs.Below.fr_base.declared.name.ObjNo.{ObjNo}
use Rattle.law_results_events.specs.Below.global_addr.Words.{colour_of, server_of, address_of, next_word}
use Rattle.law_results_events.specs.Below.heap_partition.declared.value.BoxPtr.{BoxPtr}
use Rattle.law_results_events.specs.Below.heap_partition.declared.value.Cell.{Cell}
use Rattle.law_results_events.specs.Below.heap_partition.declared.value.Owned.TheVariants as owned
use Rattle.law_results_events.specs.Below.mut_borrow.declared.mutable.MutRef.{MutRef}
use Rattle.law_results_events.specs.Below.owner_box.View.{PartitionState}
use Rattle.law_results_events.specs.Below.owner_box.Partition.{cell_of as cell_under, freed, renewed, next_place, new_word}
use Rattle.law_results_events.specs.Below.journal.declared.act.Act.TheVariants as act
use Rattle.law_results_events.specs.Below.thread_state.View.{ThreadState}
use Rattle.law_results_events.specs.Below.thread_state.declared.value.Value.{Value}
use Rattle.law_results_events.specs.Below.thread_state.declared.value.Value.TheVariants as value
use Rattle.law_results_events.specs.Below.server_model.Servers.{Server, Cluster, server_at}
use Rattle.law_results_events.specs.Below.server_model.Work.{Hand, Work, note, with_partition, look, leads_here, thread_in, set_thread, without_thread}
use Rattle.law_results_events.specs.Below.server_model.NewWords.{NewWord, is_last, can_grow, issue_tint, issue_renewal, issue_colour}
use Rattle.law_results_events.specs.Below.server_model.Places.{Spot, in_slot, in_cell, note_write, put_word}
use Rattle.law_results_events.specs.Below.server_model.Prepare.{Prepared, ready, requested, nothing, ready_at, box_of, box_ready}
use Rattle.law_results_events.specs.Below.coherent_memory.Names.{Among, one, same_object}
use Rattle.law_results_events.specs.Below.coherent_memory.Things.{Location, at_slot, in_cell as in_object, lies, servers_things, things_of}
use Rattle.law_results_events.specs.Below.coherent_memory.Follow.{value_in, value_of}
use Rattle.law_results_events.specs.Below.coherent_memory.Sight.{Pointer, pointers_in, taken_pointers, sight, issued}
use Rattle.law_results_events.specs.Below.coherent_memory.Weights.{cells}
use Rattle.law_results_events.specs.Below.coherent_memory.Words.{all_pointers, IsStale, HasWords, LeadsTo}
use Rattle.law_results_events.proofs.Below.coherent_memory.Words.{itself}
use Rattle.law_results_events.specs.Below.coherent_types.ClusterTypes.{IsCoherent}
use Rattle.law_results_events.proofs.Below.law_words_paths.paths.InState.{only_one}
use Rattle.law_results_events.proofs.Below.law_words_paths.paths.Origins.{among_first}
use Rattle.law_results_events.proofs.Below.law_words_paths.paths.Sole.{some_is}
use Rattle.law_results_events.specs.Below.law_words_paths.words.Reworded.{HasPlaces, Reworded}
use Rattle.law_results_events.specs.Below.law_words_paths.words.PutBack.{StandsHere, LeadsHome}
use Rattle.law_results_events.specs.Below.law_words_paths.words.WordsAfter.{IsNoFirst}
use Rattle.law_results_events.proofs.Below.law_words_paths.words.Standing.{lying, cell_found, told}
use Rattle.law_results_events.proofs.Below.law_words_paths.words.Tints.{SlotPut, word_put, slot_stands, tint_rewords}
use Rattle.law_results_events.proofs.Below.law_words_paths.words.Cells.{CellPut, cell_put, cells_reword}
use Rattle.law_results_events.proofs.Below.law_words_paths.words.Marks.{mark_rewords}
use Rattle.law_results_events.proofs.Below.law_words_paths.words.NewWord.{is_new}
use Rattle.law_results_events.proofs.Below.law_words_paths.words.Past.{are_no_firsts}
use Rattle.law_results_events.proofs.Below.law_counts_sums.Results.{given_by}
use Rattle.law_results_events.proofs.Below.law_counts_sums.RulesKeep.{sums_kept}
use Rattle.law_results_events.proofs.Below.law_counts_sums.Bags.{all_standing}
use Rattle.law_results_events.proofs.Below.law_counts_sums.Events.{others_of}
use Rattle.law_results_events.proofs.Below.law_counts_sums.NewWords.{hand_renews, puts_word}
use Rattle.law_results_events.proofs.Below.law_words_kept.reads.Homes.{fresh_word}
use Rattle.law_results_events.proofs.Below.law_words_kept.reads.Lookups.{one_state}
use Rattle.law_results_events.proofs.Below.law_results_reads.Pointing.{its_partition}
use Rattle.law_results_events.specs.Below.law_words_kept.moves.Relaid.{Renewal}
use Rattle.law_results_events.proofs.Below.law_words_kept.moves.Relaid.{at_lies, renewals_reword}
use Rattle.law_results_events.proofs.Below.law_words_kept.prepared.Hands.{put, places, stands}
use Rattle.law_results_events.proofs.writes.Memory.{Leads, looks, Sane, Given, renewal_issued}
use Rattle.law_words_asked.proofs.writes.Onward.{Lies, IsWritten, Onward, no_first, onward_reworded}
use Rattle.law_words_asked.proofs.writes.Later.{Later, later_stored, later_renewed, renewal_unissued, next_vacant, partition_among}
use Rattle.law_words_asked.proofs.writes.Passing.{there_among, Fits, State, Asked}

no_reference : (u : Rattle.law_results_events.specs.Below.heap_partition.declared.value.Owned.Owned) (r : MutRef) → value.Own u ≡ value.Mut r → ⊥
no_reference u r e = absurd (cc e)

-- what a renewal leaves
pub renewed_work : (p : BoxPtr) (x : Work) (nw : NewWord) → issue_renewal p x ≡ Some nw → (nw.word ≡ new_word (freed x.rest.partition p.word)) × (nw.work.rest ≡ record x.rest { partition = renewed x.rest.partition p.word }) × (colour_of p.word + 1 ≡ x.rest.partition.limit)
renewed_work p x nw e = by (leads_here x.rest.partition p.word) (is_last x.rest.partition p.word) (can_grow x.rest.partition) refl e
  where
    by : (a b c : Bool) → is_last x.rest.partition p.word ≡ b
        → (if a && (b && c) then Some (record { word = new_word (freed x.rest.partition p.word); work = note (act.Renew p.object p.word (new_word (freed x.rest.partition p.word))) (with_partition (renewed x.rest.partition p.word) x) }) else None) ≡ Some nw
        → (nw.word ≡ new_word (freed x.rest.partition p.word)) × (nw.work.rest ≡ record x.rest { partition = renewed x.rest.partition p.word }) × (colour_of p.word + 1 ≡ x.rest.partition.limit)
    by true true true q f = let s = some_is f in (ap (λ (v : NewWord). v.word) (sym s), ap (λ (v : NewWord). v.work.rest) (sym s), grind (arith, nat_tests, q))
    by true true false q f = absurd (cc f)
    by true false c q f = absurd (cc f)
    by false b c q f = absurd (cc f)

module _ (k : Cluster) (coherent : IsCoherent k) (s : Server) (here : server_at k.servers s.rest.number ≡ Some s) (t : ℕ) (y : ThreadState) (at : thread_in s.threads t ≡ Some y) where
  abbrev n : ℕ
  n = s.rest.number

  abbrev e : ℕ
  e = s.events + 1

  abbrev O : Hand → Type 0
  O = Fits k coherent s here t y at

  abbrev P : Hand → Cluster
  P = put k coherent s here t y at

  abbrev St : Hand → Type 0
  St = State k coherent s here t y at

  abbrev spread : (h : Hand) → O h → HasPlaces (P h)
  spread h g = places k coherent s here t y at h g

  abbrev stand : (h : Hand) → O h → StandsHere k n s.threads h
  stand h g = stands k coherent s here t y at h g

  abbrev pub first_words : HasWords (sight k)
  first_words = coherent.sound.words.have_words

  begun : HasPlaces k
  begun = record { numbers_differ = coherent.sound.names.numbers_differ; home_of_each = coherent.sound.one_home.home_of_each; owner_of_each = coherent.sound.one_owner.owner_of_each }

  -- the reference in that slot led straight to what is written, and is the pointer through which it is
  abbrev pub Through : ThreadState → Option ℕ → Type 0
  Through x None = ⊤
  Through x (Some i) = (r : MutRef) × (slice_get x.slots i ≡ Some (value.Mut r)) × IsWritten k (at_slot x.number i) r.object

  abbrev pub ThroughSpot : ThreadState → Spot → Type 0
  ThroughSpot x (in_cell w q) = Through x q
  ThroughSpot x sp = ⊤

  -- what is known where a hop is ready
  pub record Walk (h : Hand) (sp : Spot) : Type 0 where
    pub state : St h
    pub later : Later s.rest.partition h.work.rest.partition
    pub through : ThroughSpot h.thread sp

  abbrev pub Mine : Prepared → Type 0
  Mine (ready h sp) = Walk h sp
  Mine (requested h) = Asked k coherent s here t y at h
  Mine nothing = ⊤

  -- HOMES

  -- a pointer in a slot of the hand, or in a cell, has its object's word, which leads to it
  module _ (h : Hand) (st : St h) (l : Location) (v : Value) (p : BoxPtr) (written : IsWritten k l p.object) (stood : value_in (sight (P h)).ground l ≡ Some v) (pointer : Rattle.law_results_events.specs.Below.server_model.Places.pointer_of v ≡ Some p) where
    words_now : HasWords (sight (P h))
    words_now = st.onward.words.has_words

    word_is : p.word ≡ words_now.word p.object
    word_is = fresh_word (P h) words_now l v p stood pointer (st.onward.fresh l p.object written.sole written.fresh)

    lies_now : Lies (P h) p.object
    lies_now = st.onward.lies_on p.object written.lies

    pub home_now : LeadsHome (P h) p
    home_now = record { server = lies_now.server; address = lies_now.address; lying = lies_now.there; leads = λ r a c q f. subst (λ v. LeadsTo r a v) (ap words_now.word f ∙ sym word_is) (words_now.home r a c q) }

  -- A CELL OF THE SERVER

  -- a cell at a word's address lies here
  pub lies_under : (h : Hand) → O h → (w : ℕ) (c : Cell) → cell_under h.work.rest.partition w ≡ Some c → Among (lies n (address_of w) c) (things_of (P h))
  lies_under h g w c there =
      subst (λ m. Among (lies m (address_of w) c) (things_of (P h))) g.number
      (there_among n k.servers (record { rest = h.work.rest; threads = set_thread s.threads h.thread; events = e }) (lies h.work.rest.number (address_of w) c) (stand h g).server
      (partition_among (record { rest = h.work.rest; threads = set_thread s.threads h.thread; events = e }) (lies h.work.rest.number (address_of w) c) (at_lies h.work.rest.number h.work.rest.partition (address_of w) c there)))

  -- so does one to which a word leads
  pub lies_here : (h : Hand) → O h → (w : ℕ) (c : Cell) → Leads h.work.rest.partition w c → Among (lies n (address_of w) c) (things_of (P h))
  lies_here h g w c l = lies_under h g w c l.there

  pub cell_stands : (h : Hand) → O h → (w : ℕ) (c : Cell) → Leads h.work.rest.partition w c → value_in (sight (P h)).ground (in_object c.object) ≡ Some (value.Own c.value)
  cell_stands h g w c l = ap value_of (cell_found c (lies n (address_of w) c) (things_of (P h)) ((spread h g).home_of_each c.object) (lying n (address_of w)) (lies_here h g w c l))

  -- the object lies there alone
  pub home_under : (h : Hand) → O h → (w : ℕ) (c : Cell) (o : ObjNo) → c.object ≡ o → cell_under h.work.rest.partition w ≡ Some c → server_of w ≡ n → LeadsHome (P h) (record { word = w; object = o })
  home_under h g w c o object l server = record {
    server = n;
    address = address_of w;
    lying = record { cell = c; among = lies_under h g w c l; object = object };
    leads = λ r a d q f.
        let same : lies n (address_of w) c ≡ lies r a d = only_one (cells o) (lies n (address_of w) c) (lies r a d) (things_of (P h)) ((spread h g).home_of_each o) (lies_under h g w c l) q (its c object) (its d f) in
        record { server = server ∙ same_server same; address = same_address same };
  }
    where
      its : (d : Cell) → d.object ≡ o → 1 ≤ one (same_object d.object o)
      its d f = subst (λ b. 1 ≤ one b) (sym (itself d.object o f)) (omega arith)

      same_server : {q b r a : ℕ} {c d : Cell} → lies q b c ≡ lies r a d → q ≡ r
      same_server f = cc

      same_address : {q b r a : ℕ} {c d : Cell} → lies q b c ≡ lies r a d → b ≡ a
      same_address f = cc

  home_here : (h : Hand) → O h → (w : ℕ) (c : Cell) (o : ObjNo) → c.object ≡ o → Leads h.work.rest.partition w c → server_of w ≡ n → LeadsHome (P h) (record { word = w; object = o })
  home_here h g w c o object l server = home_under h g w c o object l.there server

  -- A NEW WORD

  -- a word of the object, which wasn't issued when the event began, put in the pointer through which it is written
  worded : (h h2 : Hand) (st : St h) (g2 : O h2) (l : Location) (o : ObjNo) (w : ℕ) → IsWritten k l o → issued (sight k) w ≡ false → h2.thread.number ≡ h.thread.number → Reworded (P h) (P h2) l o w → Onward k (P h2)
  worded h h2 st g2 l o w written new named r =
      onward_reworded k (P h) (P h2) l o w begun (spread h st.ok) (spread h2 g2) st.onward written (inr new) (no_first k (P h) w o coherent.sound.words.are_issued new (spread h st.ok) st.onward) r

  -- the next colour of the object's first word wasn't issued
  tint_unissued : (p : BoxPtr) → p.word ≡ first_words.word p.object → Lies k p.object → issued (sight k) (next_word p.word) ≡ false
  tint_unissued p same l = ap (λ v. issued (sight k) (next_word v)) same ∙ is_new k first_words (one_state k coherent.sound) l.server l.address p.object l.there

  -- the mark of the reference that led there
  pub marked : (h : Hand) (v : ℕ) (q : Option ℕ) → St h → Later s.rest.partition h.work.rest.partition → Through h.thread q → O (note_write q h) → Walk (note_write q h) (in_cell v None)
  marked h v None st l through ok = record { state = st; later = l; through = tt }
  marked h v (Some i) st l through ok = record { state = record { ok = ok; onward = onward_reworded k (P h) (P h2) m r.object r.word begun (spread h st.ok) (spread h2 ok) st.onward written (inl now_its) no_past reworded; untaken = st.untaken }; later = l; through = tt }
    where
      h2 : Hand
      h2 = note_write (Some i) h

      r : MutRef
      r = through.0

      slot : slice_get h.thread.slots i ≡ Some (value.Mut r)
      slot = through.1

      written : IsWritten k (at_slot h.thread.number i) r.object
      written = through.2

      m : Location
      m = at_slot h.thread.number i

      there : value_in (sight (P h)).ground m ≡ Some (value.Mut r)
      there = slot_stands k n s.threads e h i (value.Mut r) (stand h st.ok) (spread h st.ok) slot

      reworded : Reworded (P h) (P h2) m r.object r.word
      reworded = mark_rewords k n s.threads e h i r (stand h st.ok) slot (spread h st.ok) (spread h2 ok) (home_now h st m (value.Mut r) (box_of r) written there refl)

      pointer : Pointer
      pointer = record { at = Some m; word = r.word; object = r.object }

      among : Among pointer (all_pointers (sight (P h)))
      among = among_first pointer (pointers_in (things_of (P h))) (taken_pointers (sight (P h)).code (sight (P h)).ground (sight (P h)).ground.threads) (told (P h) m (value.Mut r) pointer there (inl refl))

      fresh : IsStale (sight (P h)) (Some m) → ⊥
      fresh = st.onward.fresh m r.object written.sole written.fresh

      -- it has its object's word
      now_its : r.word ≡ st.onward.words.has_words.word r.object
      now_its = ⊎_elim (λ (s2 : IsStale (sight (P h)) (Some m)). absurd (fresh s2)) (λ (f : r.word ≡ st.onward.words.has_words.word r.object). f) (st.onward.words.has_words.same pointer among)

      no_past : IsNoFirst (P h) r.object r.word
      no_past = are_no_firsts.present (P h) pointer st.onward.words.past_words among fresh

  -- A BOX

  abbrev others : List Rattle.law_results_events.specs.Below.coherent_memory.Things.Thing
  others = all_standing n (without_thread s.threads t) ++ servers_things (others_of k.servers n)

  -- a word that is put leaves the sums
  puts : (sp : Spot) (nw : NewWord) (h h2 : Hand) → O (record h { work = nw.work }) → put_word sp nw h ≡ Some h2 → O h2
  puts sp nw h h2 g q = given_by O (put_word sp nw h) h2 (puts_word sums_kept n s.events t others sp nw h g) q

  tint_ok : (p : BoxPtr) (h : Hand) → O h → O (record h { work = (issue_tint p h.work).work })
  tint_ok p h g = record { number = g.number; thread = g.thread; bag = g.bag }

  -- a box whose object lies here, in a hand, with what is known of it when the event began
  pub record Boxed (h : Hand) (p : BoxPtr) (c : Cell) : Type 0 where
    pub state : St h
    pub later : Later s.rest.partition h.work.rest.partition
    pub word : p.word ≡ first_words.word p.object
    pub leads : Leads h.work.rest.partition p.word c
    pub object : c.object ≡ p.object
    pub sane : Sane h.work.rest.partition
    pub room : length h.work.rest.partition.cells < 2 ^ 40

  -- its object gets another address
  module _ (h : Hand) (p : BoxPtr) (c : Cell) (b : Boxed h p c) (nw : NewWord) (issued_so : issue_renewal p h.work ≡ Some nw) where
    abbrev Q : PartitionState
    Q = h.work.rest.partition

    abbrev hm : Hand
    hm = record h { work = nw.work }

    left : (nw.word ≡ new_word (freed Q p.word)) × (nw.work.rest ≡ record h.work.rest { partition = renewed Q p.word }) × (colour_of p.word + 1 ≡ Q.limit)
    left = renewed_work p h.work nw issued_so

    vacant_next : Rattle.law_results_events.specs.Below.law_words_kept.moves.Relaid.NextIsVacant (freed Q p.word)
    vacant_next = next_vacant Q p.word b.sane left.2

    given : Given Q nw.work.rest.partition nw.word c
    given =
        let r = renewal_issued p h.work c b.sane b.leads left.2 b.room in
        let same : r.0 ≡ nw = some_is (sym r.1 ∙ issued_so) in
        subst (λ (x : NewWord). Given Q x.work.rest.partition x.word c) same r.2.given

    moved_ok : O hm
    moved_ok = given_by (λ (m : NewWord). O (record h { work = m.work })) (issue_renewal p h.work) nw (hand_renews sums_kept n s.events t others p h b.state.ok) issued_so

    its_server : server_of nw.word ≡ n
    its_server = given.new.server ∙ given.server ∙ b.later.server ∙ (its_partition k coherent.sound n s here).0

    renewal : Renewal k n s.threads e h p nw
    renewal = record {
      stands = stand h b.state.ok;
      cell = c;
      here = looks Q p.word c b.leads;
      object = b.object;
      room = vacant_next;
      issued = issued_so;
      before = spread h b.state.ok;
      moved = spread hm moved_ok;
      home = home_here hm moved_ok nw.word c p.object b.object given.new its_server;
    }

    new : issued (sight k) nw.word ≡ false
    new =
        let as_long : length (freed Q p.word).cells ≡ length Q.cells = Rattle.std.proofs.lemmas.List.length-set Q.cells (address_of p.word) None in
        let within : (next_place (freed Q p.word)).0 < 2 ^ 40 = (let l = vacant_next.within in let m = b.room in omega (arith, l, m, as_long)) in
        ap (issued (sight k)) left.0 ∙ renewal_unissued k coherent.sound n s here Q p.word b.later left.2 b.sane.small within

    later_now : Later s.rest.partition nw.work.rest.partition
    later_now = subst (Later s.rest.partition) (sym (ap (λ (x : Rattle.law_results_events.specs.Below.server_model.Servers.Rest). x.partition) left.1)) (later_renewed s.rest.partition Q p.word left.2 b.later)

  module _ (h : Hand) (i : ℕ) (p : BoxPtr) (c : Cell) (b : Boxed h p c) (slot : slice_get h.thread.slots i ≡ Some (value.Own (owned.Box p))) (written : IsWritten k (at_slot h.thread.number i) p.object) where
    abbrev m : Location
    m = at_slot h.thread.number i

    abbrev v : Value
    v = value.Own (owned.Box p)

    there : value_in (sight (P h)).ground m ≡ Some v
    there = slot_stands k n s.threads e h i v (stand h b.state.ok) (spread h b.state.ok) slot

    home : LeadsHome (P h) p
    home = home_now h b.state m v p written there refl

    no_mutable : (w : ℕ) (r : MutRef) → v ≡ value.Mut r → w ≡ r.first → ⊥
    no_mutable w r f = absurd (no_reference (owned.Box p) r f)

    tinted : (o : Option Hand) → put_word (in_slot i) (issue_tint p h.work) h ≡ o → Mine (ready_at (in_cell (next_word p.word) None) o)
    tinted None q = tt
    tinted (Some h2) q =
        let g2 : O h2 = puts (in_slot i) (issue_tint p h.work) h h2 (tint_ok p h b.state.ok) q in
        let w : SlotPut h h2 i (next_word p.word) v = Rattle.law_results_events.proofs.Below.law_words_paths.words.Tints.slot_put h h2 i v p slot q in
        let r : Reworded (P h) (P h2) m p.object (next_word p.word) =
        tint_rewords k n s.threads e h h2 i v p (stand h b.state.ok) slot refl q (spread h b.state.ok) (spread h2 g2) home (no_mutable (next_word p.word)) in
        record {
          state = record {
            ok = g2;
            onward = worded h h2 b.state g2 m p.object (next_word p.word) written (tint_unissued p b.word written.lies) (ap (λ (x : ThreadState). x.number) w.thread) r;
            untaken = subst (λ x. Rattle.law_results_events.proofs.Below.law_words_kept.stays.Steps.TakesNoneHere k.code x) (sym w.thread) b.state.untaken;
          };
          later = subst (Later s.rest.partition) (sym (ap (λ (x : Rattle.law_results_events.specs.Below.server_model.Servers.Rest). x.partition) w.rest)) b.later;
          through = tt;
        }

    relaid : (nw : NewWord) → issue_renewal p h.work ≡ Some nw → (o : Option Hand) → put_word (in_slot i) nw h ≡ o → Mine (ready_at (in_cell nw.word None) o)
    relaid nw f None q = tt
    relaid nw f (Some h2) q =
        let g2 : O h2 = puts (in_slot i) nw h h2 (moved_ok h p c b nw f) q in
        let w : SlotPut (record h { work = nw.work }) h2 i nw.word v = word_put (record h { work = nw.work }) h2 i nw.word v slot q in
        let r : Reworded (P h) (P h2) m p.object nw.word = renewals_reword.slot k n s.threads e h h2 p nw i v (renewal h p c b nw f) slot refl q (spread h2 g2) (no_mutable nw.word) in
        record {
          state = record {
            ok = g2;
            onward = worded h h2 b.state g2 m p.object nw.word written (new h p c b nw f) (ap (λ (x : ThreadState). x.number) w.thread) r;
            untaken = subst (λ x. Rattle.law_results_events.proofs.Below.law_words_kept.stays.Steps.TakesNoneHere k.code x) (sym w.thread) b.state.untaken;
          };
          later = subst (Later s.rest.partition) (sym (ap (λ (x : Rattle.law_results_events.specs.Below.server_model.Servers.Rest). x.partition) w.rest)) (later_now h p c b nw f);
          through = tt;
        }

    renewed_box : (o : Option NewWord) → issue_renewal p h.work ≡ o → Mine (box_ready (in_slot i) o h)
    renewed_box None f = tt
    renewed_box (Some nw) f = relaid nw f (put_word (in_slot i) nw h) refl

    -- in a slot
    pub slot_box : Mine (box_ready (in_slot i) (issue_colour p h.work) h)
    slot_box = by (nat_lt (colour_of p.word + 1) h.work.rest.partition.limit)
      where
        by : (a : Bool) → Mine (box_ready (in_slot i) (if a then Some (issue_tint p h.work) else issue_renewal p h.work) h)
        by true = tinted (put_word (in_slot i) (issue_tint p h.work) h) refl
        by false = renewed_box (issue_renewal p h.work) refl

  module _ (h : Hand) (word : ℕ) (q : Option ℕ) (c0 : Cell) (p : BoxPtr) (c : Cell) (b : Boxed h p c) (through : Through h.thread q) (leads : Leads h.work.rest.partition word c0) (boxed : c0.value ≡ owned.Box p) (other : c0.object ≡ p.object → ⊥)
      (written : IsWritten k (in_object c0.object) p.object) where
    abbrev u : Location
    u = in_object c0.object

    there_in : value_in (sight (P h)).ground u ≡ Some (value.Own (owned.Box p))
    there_in = cell_stands h b.state.ok word c0 leads ∙ ap (λ x. Some (value.Own x)) boxed

    home_in : LeadsHome (P h) p
    home_in = home_now h b.state u (value.Own (owned.Box p)) p written there_in refl

    -- the cell has the word: then the reference is marked
    then_marked : (nw : NewWord) (h2 : Hand) → O (record h { work = nw.work }) → Later s.rest.partition nw.work.rest.partition → look nw.work.rest.partition word ≡ Some c0 → put_word (in_cell word None) nw h ≡ Some h2 → issued (sight k) nw.word ≡ false
        → ((g2 : O h2) → Reworded (P h) (P h2) u p.object nw.word) → Mine (ready_at (in_cell nw.word None) (put_word (in_cell word q) nw h))
    then_marked nw h2 g l found put_so none r =
        let both : put_word (in_cell word q) nw h ≡ Some (note_write q h2) = cells_reword.in_two word q nw h ∙ ap (option_map (note_write q)) put_so in
        let g2 : O h2 = puts (in_cell word None) nw h h2 g put_so in
        let g3 : O (note_write q h2) = puts (in_cell word q) nw h (note_write q h2) g both in
        let w : CellPut (record h { work = nw.work }) h2 word nw.word p = cell_put (record h { work = nw.work }) h2 word nw.word c0 p found boxed put_so in
        let st2 : St h2 = record {
          ok = g2;
          onward = worded h h2 b.state g2 u p.object nw.word written none (ap (λ (x : ThreadState). x.number) w.thread) (r g2);
          untaken = subst (λ x. Rattle.law_results_events.proofs.Below.law_words_kept.stays.Steps.TakesNoneHere k.code x) (sym w.thread) b.state.untaken;
        } in
        let l2 : Later s.rest.partition h2.work.rest.partition =
        subst (Later s.rest.partition) (sym (ap (λ (x : Rattle.law_results_events.specs.Below.server_model.Servers.Rest). x.partition) w.rest)) (later_stored s.rest.partition nw.work.rest.partition word (owned.Box (record p { word = nw.word })) l) in
        subst (λ o. Mine (ready_at (in_cell nw.word None) o)) (sym both) (marked h2 nw.word q st2 l2 (subst (λ x. Through x q) (sym w.thread) through) g3)

    cell_tinted : (o : Option Hand) → put_word (in_cell word None) (issue_tint p h.work) h ≡ o → Mine (ready_at (in_cell (next_word p.word) None) (put_word (in_cell word q) (issue_tint p h.work) h))
    cell_tinted None f = subst (λ o. Mine (ready_at (in_cell (next_word p.word) None) o)) (sym (cells_reword.in_two word q (issue_tint p h.work) h ∙ ap (option_map (note_write q)) f)) tt
    cell_tinted (Some h2) f =
        then_marked (issue_tint p h.work) h2 (tint_ok p h b.state.ok) b.later (looks h.work.rest.partition word c0 leads) f (tint_unissued p b.word written.lies)
        (λ g2. cells_reword.tint k n s.threads e h h2 word c0 p (stand h b.state.ok) (looks h.work.rest.partition word c0 leads) boxed f (spread h b.state.ok) (spread h2 g2) home_in)

    cell_relaid : (nw : NewWord) → issue_renewal p h.work ≡ Some nw → (o : Option Hand) → put_word (in_cell word None) nw h ≡ o → Mine (ready_at (in_cell nw.word None) (put_word (in_cell word q) nw h))
    cell_relaid nw i None f = subst (λ o. Mine (ready_at (in_cell nw.word None) o)) (sym (cells_reword.in_two word q nw h ∙ ap (option_map (note_write q)) f)) tt
    cell_relaid nw i (Some h2) f =
        let found : look nw.work.rest.partition word ≡ Some c0 = looks nw.work.rest.partition word c0 ((given h p c b nw i).others word c0 leads (λ z. other (z ∙ b.object))) in
        then_marked nw h2 (moved_ok h p c b nw i) (later_now h p c b nw i) found f (new h p c b nw i) (λ g2. renewals_reword.in_cells k n s.threads e h h2 p nw word c0 (renewal h p c b nw i) found boxed f (spread h2 g2))

    renewed_in : (o : Option NewWord) → issue_renewal p h.work ≡ o → Mine (box_ready (in_cell word q) o h)
    renewed_in None f = tt
    renewed_in (Some nw) f = cell_relaid nw f (put_word (in_cell word None) nw h) refl

    -- or in a cell here
    pub cell_box : Mine (box_ready (in_cell word q) (issue_colour p h.work) h)
    cell_box = by (nat_lt (colour_of p.word + 1) h.work.rest.partition.limit)
      where
        by : (a : Bool) → Mine (box_ready (in_cell word q) (if a then Some (issue_tint p h.work) else issue_renewal p h.work) h)
        by true = cell_tinted (put_word (in_cell word None) (issue_tint p h.work) h) refl
        by false = renewed_in (issue_renewal p h.work) refl
