-- One hop of a write that is made ready: a box that gets a word, or a reference its mark, leaves each object what it was, or covered.
use Rattle.std.proofs.Common.{◌≡◌, inr, ℕ, ◌+◌, ◌<◌, ◌^◌, nat_lt, Bool, true, false, if◌then◌else◌, List, [], ◌∷◌, ◌++◌, Option, Some, None, option_map, refl, sym, ap, subst, ◌∙◌, arith, length}
use Rattle.std.specs.Prelude.{⊤, slice_get}
use Rattle.std.proofs.lemmas.List.{length-set}
use Rattle.law_counts_waiting.specs.Below.fr_base.declared.name.ObjNo.{ObjNo}
use Rattle.law_counts_waiting.specs.Below.global_addr.Words.{colour_of, server_of, address_of, next_word}
use Rattle.law_counts_waiting.specs.Below.heap_partition.declared.value.BoxPtr.{BoxPtr}
use Rattle.law_counts_waiting.specs.Below.heap_partition.declared.value.Cell.{Cell}
use Rattle.law_counts_waiting.specs.Below.heap_partition.declared.value.Owned.{Owned}
use Rattle.law_counts_waiting.specs.Below.heap_partition.declared.value.Owned.TheVariants as owned
use Rattle.law_counts_waiting.specs.Below.mut_borrow.declared.mutable.MutRef.{MutRef}
use Rattle.law_counts_waiting.specs.Below.owner_box.View.{PartitionState}
use Rattle.law_counts_waiting.specs.Below.owner_box.Partition.{freed, renewed, next_place, new_word}
use Rattle.law_counts_waiting.specs.Below.journal.declared.act.Act.TheVariants as act
use Rattle.law_counts_waiting.specs.Below.thread_state.View.{ThreadState}
use Rattle.law_counts_waiting.specs.Below.thread_state.declared.phase.Phase.TheVariants as phase
use Rattle.law_counts_waiting.specs.Below.thread_state.declared.value.Value.{Value}
use Rattle.law_counts_waiting.specs.Below.thread_state.declared.value.Value.TheVariants as value
use Rattle.law_counts_waiting.specs.Below.server_msgs.declared.message.Message.TheVariants as message
use Rattle.law_counts_waiting.specs.Below.server_model.Servers.{Rest, Server, Cluster, server_at}
use Rattle.law_counts_waiting.specs.Below.server_model.Work.{Hand, look, thread_in, without_thread}
use Rattle.law_counts_waiting.specs.Below.server_model.NewWords.{NewWord, issue_tint, issue_renewal, issue_colour}
use Rattle.law_counts_waiting.specs.Below.server_model.Places.{Spot, in_slot, on_top, in_cell, in_copy, nowhere, note_slot, note_write, put_word}
use Rattle.law_counts_waiting.specs.Below.server_model.Prepare.{Prepared, ready, requested, nothing, ready_at, box_of, box_ready, passing, ask_object}
use Rattle.law_counts_waiting.specs.Below.coherent_memory.Names.{Among}
use Rattle.law_counts_waiting.specs.Below.coherent_memory.Things.{Location, Thing, at_slot, in_cell as in_object, sent, servers_things, things_of}
use Rattle.law_counts_waiting.specs.Below.coherent_memory.Follow.{cells_in, value_in}
use Rattle.law_counts_waiting.specs.Below.coherent_memory.Sight.{sight, issued}
use Rattle.law_counts_waiting.specs.Below.coherent_memory.Words.{IsStale, HasWords}
use Rattle.law_counts_waiting.specs.Below.coherent_types.ClusterTypes.{IsCoherent}
use Rattle.law_counts_waiting.proofs.Below.law_words_paths.paths.Sole.{some_is}
use Rattle.law_words_ends.specs.Below.law_words_paths.words.Reworded.{HasPlaces, Reworded}
use Rattle.law_words_ends.specs.Below.law_words_paths.words.PutBack.{StandsHere, LeadsHome}
use Rattle.law_words_ends.specs.Below.law_words_paths.words.WordsAfter.{Rewrites}
use Rattle.law_words_ends.proofs.Below.law_words_paths.words.Only.{are_only}
use Rattle.law_words_ends.proofs.Below.law_words_paths.words.Outlines.{soles_stay}
use Rattle.law_words_ends.proofs.Below.law_words_paths.words.Slots.{set_same}
use Rattle.law_words_ends.proofs.Below.law_words_paths.words.Words.{fresh_go_on}
use Rattle.law_words_ends.proofs.Below.law_words_paths.words.Tints.{slot_stands, tint_rewords}
use Rattle.law_words_ends.proofs.Below.law_words_paths.words.Cells.{CellPut, cell_put, cells_reword}
use Rattle.law_words_ends.proofs.Below.law_words_paths.words.Marks.{mark_rewords}
use Rattle.law_words_ends.proofs.Below.law_words_paths.words.NewWord.{is_new}
use Rattle.law_counts_waiting.proofs.Below.law_counts_sums.Results.{given_by}
use Rattle.law_counts_waiting.proofs.Below.law_counts_sums.RulesKeep.{sums_kept}
use Rattle.law_counts_waiting.proofs.Below.law_counts_sums.Bags.{all_standing, body_things, sent_number}
use Rattle.law_counts_waiting.proofs.Below.law_counts_sums.Events.{others_of}
use Rattle.law_counts_waiting.proofs.Below.law_counts_sums.NewWords.{hand_renews, puts_word}
use Rattle.law_counts_waiting.proofs.Below.law_counts_things.things.Mail.{Mailed}
use Rattle.law_counts_waiting.proofs.Below.law_counts_things.things.Messages.{Light}
use Rattle.law_words_ends.proofs.Below.law_words_kept.reads.Lookups.{one_state}
use Rattle.law_counts_waiting.proofs.Below.law_results_reads.Pointing.{its_partition}
use Rattle.law_words_ends.proofs.Below.law_words_kept.stays.Alike.{Alike, itself, turned, chain, blank, goes as goes_unseen}
use Rattle.law_words_ends.proofs.Below.law_words_kept.stays.Servers.{held_if, sends}
use Rattle.law_words_ends.proofs.Below.law_words_kept.stays.Sites.{HandAlike}
use Rattle.law_words_ends.proofs.Below.law_words_kept.stays.Steps.{TakesNoneHere}
use Rattle.law_words_ends.proofs.Below.law_words_kept.stays.Threads.{slots_of, temps_of, thread_alike}
use Rattle.law_words_ends.specs.Below.law_words_kept.moves.Relaid.{Renewal, NextIsVacant}
use Rattle.law_words_ends.proofs.Below.law_words_kept.moves.Relaid.{renewals_reword}
use Rattle.law_words_ends.proofs.Below.law_words_kept.prepared.Hands.{put, places, stands}
use Rattle.law_words_ends.proofs.Below.law_results_events.writes.Memory.{Leads, looks, Given, renewal_issued}
use Rattle.law_words_ends.proofs.Below.law_words_asked.writes.Onward.{Lies, IsWritten, no_first, onward_reworded}
use Rattle.law_words_ends.proofs.Below.law_words_asked.writes.Later.{renewal_unissued, next_vacant}
use Rattle.law_words_ends.proofs.Below.law_words_asked.writes.Passing.{Fits, State, passed as passed_state, requests, hands_alike}
use Rattle.law_words_ends.proofs.Below.law_words_asked.writes.Hops.{renewed_work, home_now, home_under, cell_stands, Boxed}
use Rattle.law_copies_kept.proofs.copies.Clean.{all_goes}
use Rattle.law_copies_kept.proofs.references.Asked.{asking}
use Rattle.law_copies_kept.proofs.objects.Turned.{none_or_idle}
use Rattle.law_copies_kept.proofs.hidden.Settled.{Covers, by_word, Settled, GoesOn, settled_goes, settled_on}
use Rattle.law_copies_kept.proofs.hidden.Reworded.{but_any, NotAsked, Turns, settles_word, settles_mark}

no_reference : (u : Owned) (r : MutRef) → value.Own u ≡ value.Mut r → ⊥
no_reference u r e = absurd (cc e)

in_object_is : {a b : ObjNo} → in_object a ≡ in_object b → a ≡ b
in_object_is e = cc

no_cell : {t i : ℕ} {o : ObjNo} → at_slot t i ≡ in_object o → ⊥
no_cell e = absurd (cc e)

module _ (k : Cluster) (coherent : IsCoherent k) (s : Server) (here : server_at k.servers s.rest.number ≡ Some s) (t : ℕ) (y : ThreadState) (at : thread_in s.threads t ≡ Some y) where
  abbrev n : ℕ
  n = s.rest.number

  abbrev e : ℕ
  e = s.events + 1

  abbrev O : Hand → Type 0
  O = Fits k coherent s here t y at

  abbrev P : Hand → Cluster
  P = put k coherent s here t y at

  abbrev St : Hand → Type 0
  St = State k coherent s here t y at

  abbrev spread : (h : Hand) → O h → HasPlaces (P h)
  spread h g = places k coherent s here t y at h g

  abbrev stand : (h : Hand) → O h → StandsHere k n s.threads h
  stand h g = stands k coherent s here t y at h g

  abbrev pub before : HasWords (sight k)
  before = coherent.sound.words.have_words

  begun : HasPlaces k
  begun = record { numbers_differ = coherent.sound.names.numbers_differ; home_of_each = coherent.sound.one_home.home_of_each; owner_of_each = coherent.sound.one_owner.owner_of_each }

  -- with the hand's thread put back each object is what it was, or covered
  abbrev pub Now : Hand → Type 0
  Now h = Settled k (P h) coherent.sound.words.have_words

  -- nothing is sent that asks for a copy that may not be asked for
  abbrev pub SentBy : Rest → Type 0
  SentBy r = Mailed (Light (asking (none_or_idle k))) n s.rest.outbox r

  -- WHERE WORDS SEE THE SAME

  pub alike_on : (h h2 : Hand) → O h → O h2 → HandAlike k.code n [] h h2 → Now h → Now h2
  alike_on h h2 g g2 a now =
      settled_on k (P h) (P h2) (spread h g) (spread h2 g2) coherent.sound.words.have_words now (all_goes.seen (P h) (P h2) (spread h g) (spread h2 g2) refl (hands_alike k coherent s here t y at h h2 g g2 a))

  passing_alike : (m : ℕ) (h : Hand) → HandAlike k.code n [] h (passing m h)
  passing_alike m h = record {
    number = refl;
    named = refl;
    thread = thread_alike n n false false h.thread (record h.thread { passed = m }) [] [] (record { number = refl; taking = refl; slots = λ i. refl; temps = λ i. refl }) (itself (slots_of n h.thread)) (itself (temps_of n h.thread)) (itself (held_if h.thread.gift));
    rest = itself (body_things n h.work.rest);
  }

  pub passes_on : (m : ℕ) (h : Hand) → St h → Now h → Now (passing m h)
  passes_on m h st now = alike_on h (passing m h) st.ok (passed_state k coherent s here t y at m h st).ok (passing_alike m h) now

  pub asks_on : (p : BoxPtr) (h : Hand) → St h → Now h → Now (ask_object p h)
  asks_on p h st now =
      let m = message.Move p.word p.object h.work.rest.number h.thread.number in
      let target = server_of p.word in
      let g2 : O (ask_object p h) = (requests k coherent s here t y at (act.Pull p.object p.word) target m (phase.WaitCell p.word) h refl refl (λ q f x. x) (λ c j. refl) st).ok in
      let gone : Alike k.code (sent target m ∷ []) [] = blank (sent target m) (λ q f x. x) in
      alike_on h (ask_object p h) st.ok g2 (record {
        number = sent_number h.work.rest target m;
        named = refl;
        thread = thread_alike n n false false h.thread (record h.thread { phase = phase.WaitCell p.word }) [] [] (record { number = refl; taking = sym st.untaken; slots = λ i. refl; temps = λ i. refl }) (itself (slots_of n h.thread)) (itself (temps_of n h.thread)) (itself (held_if h.thread.gift));
        rest = chain (turned (goes_unseen gone)) (sends n h.work.rest st.ok.number target m);
      }) now

  -- WHAT IS KNOWN WHERE A PLACE LEADS

  -- the object of a cell there is covered, or the reference that led to it is the one through which it is written, with its word
  abbrev pub CoveredAt : (h : Hand) → HasWords (sight (P h)) → Spot → Location → Type 0
  CoveredAt h after (in_cell w None) l = (o : ObjNo) → l ≡ in_object o → Covers k (P h) coherent.sound.words.have_words after o
  CoveredAt h after (in_cell w (Some i)) l =
      (q : MutRef) × (slice_get h.thread.slots i ≡ Some (value.Mut q)) × (q.word ≡ coherent.sound.words.have_words.word q.object) × IsWritten k (at_slot h.thread.number i) q.object × ((o : ObjNo) → l ≡ in_object o → q.object ≡ o)
  CoveredAt h after sp l = ⊤

  pub record Fair (h : Hand) (sp : Spot) (l : Location) : Type 0 where
    pub now : Now h
    pub covered : CoveredAt h now.after sp l

  -- ready so, or asked for what is no copy; r is what the server has beside
  abbrev pub FairAll : Rest → Location → Prepared → Type 0
  FairAll r l (ready h sp) = Fair h sp l
  FairAll r l (requested h) = Now h × (SentBy r → SentBy h.work.rest)
  FairAll r l nothing = ⊤

  -- a cell that the object had, of which no copy was asked for
  pub record HadCell (o : ObjNo) : Type 0 where
    pub cell : Cell
    pub object : cell.object ≡ o
    pub among : Among cell (cells_in (things_of k))
    pub unasked : NotAsked k coherent.sound.words.have_words o

  -- what is passed changes nothing of it
  pub passes_fair : (m : ℕ) (h : Hand) → St h → (sp : Spot) (l : Location) → Fair h sp l → Fair (passing m h) sp l
  passes_fair m h st sp l fair = record { now = went.settled; covered = by sp fair.covered }
    where
      h2 : Hand
      h2 = passing m h

      g2 : O h2
      g2 = (passed_state k coherent s here t y at m h st).ok

      went : GoesOn k (P h) (P h2) (spread h st.ok) (spread h2 g2) coherent.sound.words.have_words fair.now (all_goes.seen (P h) (P h2) (spread h st.ok) (spread h2 g2) refl (hands_alike k coherent s here t y at h h2 st.ok g2 (passing_alike m h)))
      went = settled_goes k (P h) (P h2) (spread h st.ok) (spread h2 g2) coherent.sound.words.have_words fair.now (all_goes.seen (P h) (P h2) (spread h st.ok) (spread h2 g2) refl (hands_alike k coherent s here t y at h h2 st.ok g2 (passing_alike m h)))

      by : (sp : Spot) → CoveredAt h (fair.now).after sp l → CoveredAt h2 (went.settled).after sp l
      by (in_cell w None) f = λ o e. went.covers o (f o e)
      by (in_cell w (Some i)) f = f
      by (in_slot i) f = tt
      by on_top f = tt
      by (in_copy w) f = tt
      by nowhere f = tt

  -- A POINTER GETS A WORD

  -- the pointer through which an object is written, in the hand's cluster
  pub rewrites : (h h2 : Hand) (st : St h) → O h2 → (l : Location) (o : ObjNo) (w : ℕ) → IsWritten k l o → Reworded (P h) (P h2) l o w → Rewrites (P h) (P h2) l o w
  rewrites h h2 st g2 l o w written r = record {
    before = spread h st.ok;
    only = are_only.soles (P h) l o (soles_stay.soles k (P h) l o begun (spread h st.ok) st.onward.outlines written.sole);
    fresh = st.onward.fresh l o written.sole written.fresh;
    firsts = st.onward.words.first_at_holder;
    places = spread h2 g2;
    reworded = r;
  }

  -- the next colour of the object's first word wasn't issued
  pub tint_unissued : (p : BoxPtr) → p.word ≡ coherent.sound.words.have_words.word p.object → Lies k p.object → issued (sight k) (next_word p.word) ≡ false
  tint_unissued p same l = ap (λ v. issued (sight k) (next_word v)) same ∙ is_new k coherent.sound.words.have_words (one_state k coherent.sound) l.server l.address p.object l.there

  abbrev others : List Thing
  others = all_standing n (without_thread s.threads t) ++ servers_things (others_of k.servers n)

  puts : (sp : Spot) (nw : NewWord) (h h2 : Hand) → O (record h { work = nw.work }) → put_word sp nw h ≡ Some h2 → O h2
  puts sp nw h h2 g q = given_by O (put_word sp nw h) h2 (puts_word sums_kept n s.events t others sp nw h g) q

  tint_ok : (p : BoxPtr) (h : Hand) → O h → O (record h { work = (issue_tint p h.work).work })
  tint_ok p h g = record { number = g.number; thread = g.thread; bag = g.bag }

  abbrev Known : Hand → BoxPtr → Cell → Type 0
  Known = Boxed k coherent s here t y at

  -- ITS OBJECT GETS ANOTHER ADDRESS

  module _ (h : Hand) (p : BoxPtr) (c : Cell) (b : Known h p c) (nw : NewWord) (issued_so : issue_renewal p h.work ≡ Some nw) where
    abbrev Q : PartitionState
    Q = h.work.rest.partition

    abbrev hm : Hand
    hm = record h { work = nw.work }

    left : (nw.word ≡ new_word (freed Q p.word)) × (nw.work.rest ≡ record h.work.rest { partition = renewed Q p.word }) × (colour_of p.word + 1 ≡ Q.limit)
    left = renewed_work p h.work nw issued_so

    vacant_next : NextIsVacant (freed Q p.word)
    vacant_next = next_vacant Q p.word b.sane left.2

    given : Given Q nw.work.rest.partition nw.word c
    given =
        let r = renewal_issued p h.work c b.sane b.leads left.2 b.room in
        let same : r.0 ≡ nw = some_is (sym r.1 ∙ issued_so) in
        subst (λ (x : NewWord). Given Q x.work.rest.partition x.word c) same r.2.given

    moved_ok : O hm
    moved_ok = given_by (λ (m : NewWord). O (record h { work = m.work })) (issue_renewal p h.work) nw (hand_renews sums_kept n s.events t others p h b.state.ok) issued_so

    its_server : server_of nw.word ≡ n
    its_server = given.new.server ∙ given.server ∙ b.later.server ∙ (its_partition k coherent.sound n s here).0

    renewal : Renewal k n s.threads e h p nw
    renewal = record {
      stands = stand h b.state.ok;
      cell = c;
      here = looks Q p.word c b.leads;
      object = b.object;
      room = vacant_next;
      issued = issued_so;
      before = spread h b.state.ok;
      moved = spread hm moved_ok;
      home = home_under k coherent s here t y at hm moved_ok nw.word c p.object b.object given.new.there its_server;
    }

    pub new : issued (sight k) nw.word ≡ false
    new =
        let as_long : length (freed Q p.word).cells ≡ length Q.cells = length-set Q.cells (address_of p.word) None in
        let within : (next_place (freed Q p.word)).0 < 2 ^ 40 = (let l = vacant_next.within in let m = b.room in omega (arith, l, m, as_long)) in
        ap (issued (sight k)) left.0 ∙ renewal_unissued k coherent.sound n s here Q p.word b.later left.2 b.sane.small within

  -- A BOX IN A SLOT

  module _ (h : Hand) (i : ℕ) (p : BoxPtr) (c : Cell) (b : Known h p c) (now : Now h) (slot : slice_get h.thread.slots i ≡ Some (value.Own (owned.Box p))) (written : IsWritten k (at_slot h.thread.number i) p.object) (had : HadCell p.object)
      (r0 : Rest) (m : Location) (is : m ≡ in_object p.object) where
    abbrev l : Location
    l = at_slot h.thread.number i

    abbrev v : Value
    v = value.Own (owned.Box p)

    there : value_in (sight (P h)).ground l ≡ Some v
    there = slot_stands k n s.threads e h i v (stand h b.state.ok) (spread h b.state.ok) slot

    home : LeadsHome (P h) p
    home = home_now k coherent s here t y at h b.state l v p written there refl

    no_mutable : (w : ℕ) (r : MutRef) → v ≡ value.Mut r → w ≡ r.first → ⊥
    no_mutable w r f = absurd (no_reference (owned.Box p) r f)

    -- a word that wasn't issued is put
    worded : (h2 : Hand) (w : ℕ) → O h2 → issued (sight k) w ≡ false → Reworded (P h) (P h2) l p.object w → Fair h2 (in_cell w None) m
    worded h2 w g2 unissued r =
        let q = settles_word k (P h) (P h2) coherent.sound.words.have_words l p.object w (rewrites h h2 b.state g2 l p.object w written r) (λ o. ⊥) (but_any k (P h) coherent.sound.words.have_words (λ o. ⊥) now) (λ o f out. absurd (no_cell f)) unissued had.unasked in
        record {
          now = record { after = (q.settled).after; each = λ o. (q.settled).each o (λ f. f) };
          covered = λ o f. by_word (ap (issued (sight k)) (ap ((q.settled).after).word (sym (in_object_is (sym is ∙ f))) ∙ q.its_word) ∙ unissued);
        }

    tinted : (o : Option Hand) → put_word (in_slot i) (issue_tint p h.work) h ≡ o → FairAll r0 m (ready_at (in_cell (next_word p.word) None) o)
    tinted None q = tt
    tinted (Some h2) q =
        let g2 : O h2 = puts (in_slot i) (issue_tint p h.work) h h2 (tint_ok p h b.state.ok) q in
        worded h2 (next_word p.word) g2 (tint_unissued p b.word written.lies) (tint_rewords k n s.threads e h h2 i v p (stand h b.state.ok) slot refl q (spread h b.state.ok) (spread h2 g2) home (no_mutable (next_word p.word)))

    relaid : (nw : NewWord) → issue_renewal p h.work ≡ Some nw → (o : Option Hand) → put_word (in_slot i) nw h ≡ o → FairAll r0 m (ready_at (in_cell nw.word None) o)
    relaid nw f None q = tt
    relaid nw f (Some h2) q =
        let g2 : O h2 = puts (in_slot i) nw h h2 (moved_ok h p c b nw f) q in
        worded h2 nw.word g2 (new h p c b nw f) (renewals_reword.slot k n s.threads e h h2 p nw i v (renewal h p c b nw f) slot refl q (spread h2 g2) (no_mutable nw.word))

    renewed_box : (o : Option NewWord) → issue_renewal p h.work ≡ o → FairAll r0 m (box_ready (in_slot i) o h)
    renewed_box None f = tt
    renewed_box (Some nw) f = relaid nw f (put_word (in_slot i) nw h) refl

    pub slot_fair : FairAll r0 m (box_ready (in_slot i) (issue_colour p h.work) h)
    slot_fair = by (nat_lt (colour_of p.word + 1) h.work.rest.partition.limit)
      where
        by : (a : Bool) → FairAll r0 m (box_ready (in_slot i) (if a then Some (issue_tint p h.work) else issue_renewal p h.work) h)
        by true = tinted (put_word (in_slot i) (issue_tint p h.work) h) refl
        by false = renewed_box (issue_renewal p h.work) refl

  -- A BOX IN A CELL

  module _ (h : Hand) (word : ℕ) (q : Option ℕ) (c0 : Cell) (p : BoxPtr) (c : Cell) (b : Known h p c) (now : Now h) (leads : Leads h.work.rest.partition word c0) (boxed : c0.value ≡ owned.Box p) (other : c0.object ≡ p.object → ⊥)
      (written : IsWritten k (in_object c0.object) p.object) (covered : CoveredAt h now.after (in_cell word q) (in_object c0.object)) (mine : HadCell c0.object) (had : HadCell p.object) (r0 : Rest) (m : Location) (is : m ≡ in_object p.object) where
    abbrev u : Location
    u = in_object c0.object

    there_in : value_in (sight (P h)).ground u ≡ Some (value.Own (owned.Box p))
    there_in = cell_stands k coherent s here t y at h b.state.ok word c0 leads ∙ ap (λ x. Some (value.Own x)) boxed

    home_in : LeadsHome (P h) p
    home_in = home_now k coherent s here t y at h b.state u (value.Own (owned.Box p)) p written there_in refl

    -- what is known then
    fair_by : (h2 : Hand) (w : ℕ) (now2 : Now h2) → issued (sight k) w ≡ false → now2.after.word p.object ≡ w → Fair h2 (in_cell w None) m
    fair_by h2 w now2 unissued same = record {
      now = now2;
      covered = λ o f. by_word (ap (issued (sight k)) (ap now2.after.word (sym (in_object_is (sym is ∙ f))) ∙ same) ∙ unissued);
    }

    -- the cell has the word, and no reference led there
    unmarked : (h2 : Hand) (w : ℕ) → O h2 → issued (sight k) w ≡ false → Reworded (P h) (P h2) u p.object w → ((o : ObjNo) → u ≡ in_object o → Covers k (P h) coherent.sound.words.have_words now.after o) → Fair h2 (in_cell w None) m
    unmarked h2 w g2 unissued r cover =
        let a = settles_word k (P h) (P h2) coherent.sound.words.have_words u p.object w (rewrites h h2 b.state g2 u p.object w written r) (λ o. ⊥) (but_any k (P h) coherent.sound.words.have_words (λ o. ⊥) now)
        (λ o f out. record { covers = cover o f; unasked = subst (λ x. NotAsked k coherent.sound.words.have_words x) (in_object_is f) mine.unasked }) unissued had.unasked in
        fair_by h2 w (record { after = (a.settled).after; each = λ o. (a.settled).each o (λ f. f) }) unissued a.its_word

    -- the cell has the word, and then the reference that led there has its mark
    module _ (h2 : Hand) (w i : ℕ) (a : MutRef) (g2 : O h2) (g3 : O (note_write (Some i) h2)) (st2 : St h2) (unissued : issued (sight k) w ≡ false) (r : Reworded (P h) (P h2) u p.object w) (slot2 : slice_get h2.thread.slots i ≡ Some (value.Mut a)) (same : a.word ≡ coherent.sound.words.have_words.word a.object)
        (through : IsWritten k (at_slot h2.thread.number i) a.object) (object : a.object ≡ c0.object) where
      abbrev h3 : Hand
      h3 = note_write (Some i) h2

      abbrev l2 : Location
      l2 = at_slot h2.thread.number i

      abbrev E : ObjNo → Type 0
      E o = o ≡ a.object

      middle : Turns k (P h) (P h2) coherent.sound.words.have_words u p.object w (rewrites h h2 b.state g2 u p.object w written r) E (but_any k (P h) coherent.sound.words.have_words E now) E
      middle =
          settles_word k (P h) (P h2) coherent.sound.words.have_words u p.object w (rewrites h h2 b.state g2 u p.object w written r) E (but_any k (P h) coherent.sound.words.have_words E now) (λ o f out. absurd (out (sym (in_object_is f) ∙ sym object))) unissued had.unasked

      stood : value_in (sight (P h2)).ground l2 ≡ Some (value.Mut a)
      stood = slot_stands k n s.threads e h2 i (value.Mut a) (stand h2 g2) (spread h2 g2) slot2

      mark : Reworded (P h2) (P h3) l2 a.object a.word
      mark = mark_rewords k n s.threads e h2 i a (stand h2 g2) slot2 (spread h2 g2) (spread h3 g3) (home_now k coherent s here t y at h2 st2 l2 (value.Mut a) (box_of a) through stood refl)

      again : Rewrites (P h2) (P h3) l2 a.object a.word
      again = rewrites h2 h3 st2 g3 l2 a.object a.word through mark

      marked_slot : slice_get h3.thread.slots i ≡ Some (value.Mut (record a { dirty = true }))
      marked_slot = subst (λ o. slice_get (note_slot h2.thread.slots i o) i ≡ Some (value.Mut (record a { dirty = true }))) (sym slot2) (set_same h2.thread.slots i (value.Mut a) (value.Mut (record a { dirty = true })) slot2)

      now_there : value_in (sight (P h3)).ground l2 ≡ Some (value.Mut (record a { dirty = true }))
      now_there = slot_stands k n s.threads e h3 i (value.Mut (record a { dirty = true })) (stand h3 g3) (spread h3 g3) marked_slot

      still_fresh : IsStale (sight (P h3)) (Some l2) → ⊥
      still_fresh f =
          fresh_go_on (P h2) (P h3) l2 a.object a.word again l2 a.object (soles_stay.soles k (P h2) l2 a.object begun (spread h2 g2) st2.onward.outlines through.sole) (st2.onward.fresh l2 a.object through.sole through.fresh) f

      then_marked : Fair h3 (in_cell w None) m
      then_marked =
          let all = settles_mark k (P h2) (P h3) coherent.sound.words.have_words l2 a.object a.word again E middle.settled (λ o f out. absurd (no_cell f)) (record a { dirty = true }) now_there still_fresh refl refl same mine.cell (mine.object ∙ sym object) mine.among
          (subst (λ x. NotAsked k coherent.sound.words.have_words x) (sym object) mine.unasked) (λ o. ⊥) (λ o away out f. away f) in
          let q = all.turns in
          fair_by h3 w (record { after = (q.settled).after; each = λ o. (q.settled).each o (λ f. f) }) unissued (q.others p.object (λ f. other (sym object ∙ sym f)) ∙ middle.its_word)

    -- by the slot of a reference that led there
    by_through : (o : Option ℕ) → q ≡ o → (nw : NewWord) (h2 : Hand) → O (record h { work = nw.work }) → look nw.work.rest.partition word ≡ Some c0 → put_word (in_cell word None) nw h ≡ Some h2 → issued (sight k) nw.word ≡ false
        → (g2 : O h2) → St h2 → Reworded (P h) (P h2) u p.object nw.word → O (note_write o h2) → CoveredAt h now.after (in_cell word o) u → h2.thread ≡ h.thread → Fair (note_write o h2) (in_cell nw.word None) m
    by_through None f nw h2 g found put_so unissued g2 st2 r g3 cover same = unmarked h2 nw.word g2 unissued r cover
    by_through (Some i) f nw h2 g found put_so unissued g2 st2 r g3 cover same =
        then_marked h2 nw.word i cover.0 g2 g3 st2 unissued r (ap (λ (x : ThreadState). slice_get x.slots i) same ∙ cover.1) cover.2 (subst (λ (x : ThreadState). IsWritten k (at_slot x.number i) (cover.0).object) (sym same) cover.3) (cover.4 c0.object refl)

    put_fair : (nw : NewWord) (h2 : Hand) → O (record h { work = nw.work }) → look nw.work.rest.partition word ≡ Some c0 → put_word (in_cell word None) nw h ≡ Some h2 → issued (sight k) nw.word ≡ false → (St2 : (g2 : O h2) → Reworded (P h) (P h2) u p.object nw.word)
        → FairAll r0 m (ready_at (in_cell nw.word None) (put_word (in_cell word q) nw h))
    put_fair nw h2 g found put_so unissued r =
        let both : put_word (in_cell word q) nw h ≡ Some (note_write q h2) = cells_reword.in_two word q nw h ∙ ap (option_map (note_write q)) put_so in
        let g2 : O h2 = puts (in_cell word None) nw h h2 g put_so in
        let g3 : O (note_write q h2) = puts (in_cell word q) nw h (note_write q h2) g both in
        let w : CellPut (record h { work = nw.work }) h2 word nw.word p = cell_put (record h { work = nw.work }) h2 word nw.word c0 p found boxed put_so in
        let st2 : St h2 = record {
          ok = g2;
          onward = onward_reworded k (P h) (P h2) u p.object nw.word begun (spread h b.state.ok) (spread h2 g2) b.state.onward written (inr unissued)
              (no_first k (P h) nw.word p.object coherent.sound.words.are_issued unissued (spread h b.state.ok) b.state.onward) (r g2);
          untaken = subst (λ x. TakesNoneHere k.code x) (sym w.thread) b.state.untaken;
        } in
        subst (λ o. FairAll r0 m (ready_at (in_cell nw.word None) o)) (sym both) (by_through q refl nw h2 g found put_so unissued g2 st2 (r g2) g3 covered w.thread)

    cell_tinted : (o : Option Hand) → put_word (in_cell word None) (issue_tint p h.work) h ≡ o → FairAll r0 m (ready_at (in_cell (next_word p.word) None) (put_word (in_cell word q) (issue_tint p h.work) h))
    cell_tinted None f = subst (λ o. FairAll r0 m (ready_at (in_cell (next_word p.word) None) o)) (sym (cells_reword.in_two word q (issue_tint p h.work) h ∙ ap (option_map (note_write q)) f)) tt
    cell_tinted (Some h2) f =
        put_fair (issue_tint p h.work) h2 (tint_ok p h b.state.ok) (looks h.work.rest.partition word c0 leads) f (tint_unissued p b.word written.lies)
        (λ g2. cells_reword.tint k n s.threads e h h2 word c0 p (stand h b.state.ok) (looks h.work.rest.partition word c0 leads) boxed f (spread h b.state.ok) (spread h2 g2) home_in)

    cell_relaid : (nw : NewWord) → issue_renewal p h.work ≡ Some nw → (o : Option Hand) → put_word (in_cell word None) nw h ≡ o → FairAll r0 m (ready_at (in_cell nw.word None) (put_word (in_cell word q) nw h))
    cell_relaid nw i None f = subst (λ o. FairAll r0 m (ready_at (in_cell nw.word None) o)) (sym (cells_reword.in_two word q nw h ∙ ap (option_map (note_write q)) f)) tt
    cell_relaid nw i (Some h2) f =
        let found : look nw.work.rest.partition word ≡ Some c0 = looks nw.work.rest.partition word c0 ((given h p c b nw i).others word c0 leads (λ z. other (z ∙ b.object))) in
        put_fair nw h2 (moved_ok h p c b nw i) found f (new h p c b nw i) (λ g2. renewals_reword.in_cells k n s.threads e h h2 p nw word c0 (renewal h p c b nw i) found boxed f (spread h2 g2))

    renewed_in : (o : Option NewWord) → issue_renewal p h.work ≡ o → FairAll r0 m (box_ready (in_cell word q) o h)
    renewed_in None f = tt
    renewed_in (Some nw) f = cell_relaid nw f (put_word (in_cell word None) nw h) refl

    pub cell_fair : FairAll r0 m (box_ready (in_cell word q) (issue_colour p h.work) h)
    cell_fair = by (nat_lt (colour_of p.word + 1) h.work.rest.partition.limit)
      where
        by : (a : Bool) → FairAll r0 m (box_ready (in_cell word q) (if a then Some (issue_tint p h.work) else issue_renewal p h.work) h)
        by true = cell_tinted (put_word (in_cell word None) (issue_tint p h.work) h) refl
        by false = renewed_in (issue_renewal p h.work) refl
