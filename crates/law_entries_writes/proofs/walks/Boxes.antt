-- A box in a slot or in a cell gets a word: the hand that follows it is led on in the coloured heap.
use Rattle.std.proofs.Common.{◌≡◌, inr, ℕ, ◌+◌, nat_lt, Bool, true, false, if◌then◌else◌, List, ◌∷◌, ◌++◌, Option, Some, None, option_map, refl, sym, ap, ap₂, subst, ◌∙◌}
use Rattle.std.specs.Prelude.{slice_get, slice_set, map}
use Rattle.law_heap_writes.specs.Below.fr_base.declared.name.ObjNo.{ObjNo}
use Rattle.law_heap_writes.specs.Below.global_addr.Words.{colour_of, next_word}
use Rattle.law_heap_writes.specs.Below.heap_partition.Plain.{plain_of}
use Rattle.law_heap_writes.specs.Below.heap_partition.declared.value.BoxPtr.{BoxPtr}
use Rattle.law_heap_writes.specs.Below.heap_partition.declared.value.Cell.{Cell}
use Rattle.law_heap_writes.specs.Below.heap_partition.declared.value.Owned.TheVariants as owned
use Rattle.law_heap_writes.specs.Below.mut_borrow.declared.mutable.MutRef.{MutRef}
use Rattle.law_heap_writes.specs.Below.owner_box.Partition.{stored}
use Rattle.law_heap_writes.specs.Below.thread_state.View.{ThreadState}
use Rattle.law_heap_writes.specs.Below.thread_state.declared.value.Value.{Value}
use Rattle.law_heap_writes.specs.Below.thread_state.declared.value.Value.TheVariants as value
use Rattle.law_heap_writes.specs.Below.server_model.Servers.{Rest, Server, Cluster, server_at}
use Rattle.law_heap_writes.specs.Below.server_model.Work.{Hand, look, thread_in, without_thread}
use Rattle.law_heap_writes.specs.Below.server_model.NewWords.{NewWord, issue_tint, issue_renewal, issue_colour}
use Rattle.law_heap_writes.specs.Below.server_model.Places.{Spot, in_slot, in_cell, note_write, with_word, put_word}
use Rattle.law_heap_writes.specs.Below.server_model.Prepare.{Prepared, ready_at, box_of, box_ready}
use Rattle.law_entries_reads.specs.Below.law_entries_variables.Below.coloured_heap.Heap.{Coloured}
use Rattle.law_heap_writes.specs.Below.coherent_memory.Names.{tot}
use Rattle.law_heap_writes.specs.Below.coherent_memory.Things.{Location, Thing, at_slot, in_cell as in_object, partition_things, servers_things}
use Rattle.law_heap_writes.specs.Below.coherent_memory.Follow.{value_in}
use Rattle.law_heap_writes.specs.Below.coherent_memory.Sight.{sight, issued}
use Rattle.law_heap_writes.specs.Below.coherent_memory.Colours.{StandsColoured}
use Rattle.law_heap_writes.proofs.Below.law_words_asked.Below.coherent_memory.Words.{itself}
use Rattle.law_heap_writes.specs.Below.coherent_types.ClusterTypes.{IsCoherent}
use Rattle.law_heap_writes.specs.Below.law_words_paths.words.Reworded.{HasPlaces, Reworded}
use Rattle.law_heap_writes.specs.Below.law_words_paths.words.PutBack.{StandsHere, LeadsHome}
use Rattle.law_heap_writes.proofs.Below.law_words_paths.words.Tints.{SlotPut, slot_put, word_put, slot_stands, tint_rewords}
use Rattle.law_heap_writes.proofs.Below.law_words_paths.words.Cells.{CellPut, cell_put, cells_reword}
use Rattle.law_heap_writes.proofs.Below.law_words_paths.words.Marks.{mark_rewords}
use Rattle.law_heap_writes.proofs.Below.law_counts_sums.Results.{given_by}
use Rattle.law_heap_writes.proofs.Below.law_counts_sums.RulesKeep.{sums_kept}
use Rattle.law_heap_writes.proofs.Below.law_counts_sums.Bags.{all_standing}
use Rattle.law_heap_writes.proofs.Below.law_counts_sums.Events.{others_of}
use Rattle.law_heap_writes.proofs.Below.law_counts_sums.NewWords.{puts_word}
use Rattle.law_heap_writes.proofs.Below.law_results_reads.Pointing.{its_partition}
use Rattle.law_heap_writes.proofs.Below.law_words_asked.Below.law_words_kept.stays.Steps.{TakesNoneHere}
use Rattle.law_heap_writes.proofs.Below.law_words_asked.Below.law_words_kept.moves.Relaid.{renewals_reword}
use Rattle.law_heap_writes.proofs.Below.law_words_asked.Below.law_words_kept.prepared.Hands.{put, places, stands}
use Rattle.law_heap_writes.proofs.Below.law_results_events.writes.Memory.{Leads, looks}
use Rattle.law_heap_writes.specs.Below.law_words_asked.Below.law_heap_still.events.Shows.{frame_of}
use Rattle.law_heap_writes.proofs.Below.law_words_asked.writes.Onward.{IsWritten, no_first, onward_reworded}
use Rattle.law_heap_writes.proofs.Below.law_words_asked.writes.Passing.{Fits, State}
use Rattle.law_heap_writes.proofs.Below.law_words_asked.writes.Hops.{home_now, cell_stands, Through, Boxed}
use Rattle.law_entries_reads.proofs.Below.law_entries_variables.deliveries.Live.{issued_by}
use Rattle.law_entries_reads.proofs.asks.Recoloured.{NewWords}
use Rattle.law_entries_reads.proofs.asks.Frames.{SameFrames}
use Rattle.law_entries_reads.proofs.asks.KeptRest.{set_frames}
use Rattle.law_entries_reads.proofs.asks.Pointed.{Pointed, next_unissued as next_was}
use Rattle.law_entries_writes.proofs.walks.Partitions.{stored_blind, stored_issues}
use Rattle.law_entries_writes.proofs.walks.Given.{words_by, Given, given_marked}
use Rattle.law_entries_writes.proofs.walks.Hops.{no_reference, in_object_is, put_acts, box_frame, marked_frames, rewrites, word_now, Led, LedAll, tint_comes, left, given, moved_ok, renewal, renewed_was, renewal_comes}

module _ (k : Cluster) (coherent : IsCoherent k) (s : Server) (here : server_at k.servers s.rest.number ≡ Some s) (t : ℕ) (y : ThreadState) (at : thread_in s.threads t ≡ Some y) (c0 : Coloured) (is_coloured : StandsColoured k c0) where
  abbrev n : ℕ
  n = s.rest.number

  abbrev e : ℕ
  e = s.events + 1

  abbrev O : Hand → Type 0
  O = Fits k coherent s here t y at

  abbrev P : Hand → Cluster
  P = put k coherent s here t y at

  abbrev St : Hand → Type 0
  St = State k coherent s here t y at

  abbrev G : Hand → NewWords → Type 0
  G = Given k coherent s here t y at c0 is_coloured

  abbrev W : NewWords → ObjNo → ℕ
  W = words_by k coherent s here t y at c0 is_coloured

  abbrev L : Location → Prepared → Type 0
  L = LedAll k coherent s here t y at c0 is_coloured

  abbrev spread : (h : Hand) → O h → HasPlaces (P h)
  spread h g = places k coherent s here t y at h g

  abbrev stand : (h : Hand) → O h → StandsHere k n s.threads h
  stand h g = stands k coherent s here t y at h g

  begun : HasPlaces k
  begun = record { numbers_differ = coherent.sound.names.numbers_differ; home_of_each = coherent.sound.one_home.home_of_each; owner_of_each = coherent.sound.one_owner.owner_of_each }

  abbrev others : List Thing
  others = all_standing n (without_thread s.threads t) ++ servers_things (others_of k.servers n)

  puts : (sp : Spot) (nw : NewWord) (h h2 : Hand) → O (record h { work = nw.work }) → put_word sp nw h ≡ Some h2 → O h2
  puts sp nw h h2 g q = given_by O (put_word sp nw h) h2 (puts_word sums_kept n s.events t others sp nw h g) q

  tint_ok : (p : BoxPtr) (h : Hand) → O h → O (record h { work = (issue_tint p h.work).work })
  tint_ok p h g = record { number = g.number; thread = g.thread; bag = g.bag }

  abbrev Known : Hand → BoxPtr → Cell → Type 0
  Known = Boxed k coherent s here t y at

  -- the word of a spot that an object just got
  new_at : (l : NewWords) (p : BoxPtr) (w : ℕ) (m : Location) → m ≡ in_object p.object → (o : ObjNo) → m ≡ in_object o → w ≡ W ((p.object, w) ∷ l) o
  new_at l p w m is o f = sym (ap (λ b. if b then w else W l o) (itself o p.object (in_object_is (sym f ∙ is))))

  -- IN A SLOT

  module _ (h : Hand) (i : ℕ) (p : BoxPtr) (c : Cell) (b : Known h p c) (l : NewWords) (g : G h l) (pt : Pointed k coherent p) (slot : slice_get h.thread.slots i ≡ Some (value.Own (owned.Box p))) (written : IsWritten k (at_slot h.thread.number i) p.object)
      (m : Location) (is : m ≡ in_object p.object) where
    abbrev u : Location
    u = at_slot h.thread.number i

    abbrev v : Value
    v = value.Own (owned.Box p)

    there : value_in (sight (P h)).ground u ≡ Some v
    there = slot_stands k n s.threads e h i v (stand h b.state.ok) (spread h b.state.ok) slot

    home : LeadsHome (P h) p
    home = home_now k coherent s here t y at h b.state u v p written there refl

    now : p.word ≡ W l p.object
    now = word_now k coherent s here t y at c0 is_coloured h b.state l g u v p written there refl

    no_mutable : (w : ℕ) (r : MutRef) → v ≡ value.Mut r → w ≡ r.first → ⊥
    no_mutable w r f = absurd (no_reference (owned.Box p) r f)

    slot_frames : (h2 : Hand) (new : Value) (w : ℕ) → with_word w v ≡ Some new → h2.thread ≡ record h.thread { slots = slice_set h.thread.slots i new } → SameFrames h2.thread.slots h.thread.slots
    slot_frames h2 new w worded same = ap (λ (x : ThreadState). map frame_of x.slots) same ∙ set_frames h.thread.slots i v new slot (box_frame p w new worded)

    slot_thread : (h2 : Hand) (new : Value) → h2.thread ≡ record h.thread { slots = slice_set h.thread.slots i new } → h2.thread ≡ record h.thread { slots = h2.thread.slots; temps = h2.thread.temps }
    slot_thread h2 new same = same ∙ ap₂ (λ vs ts. record h.thread { slots = vs; temps = ts }) (sym (ap (λ (x : ThreadState). x.slots) same)) (sym (ap (λ (x : ThreadState). x.temps) same))

    tinted : nat_lt (colour_of p.word + 1) h.work.rest.partition.limit ≡ true → (o : Option Hand) → put_word (in_slot i) (issue_tint p h.work) h ≡ o → L m (ready_at (in_cell (next_word p.word) None) o)
    tinted low None q = tt
    tinted low (Some h2) q =
        let g2 : O h2 = puts (in_slot i) (issue_tint p h.work) h h2 (tint_ok p h b.state.ok) q in
        let w : SlotPut h h2 i (next_word p.word) v = slot_put h h2 i v p slot q in
        let parts : h2.work.rest.partition ≡ h.work.rest.partition = ap (λ (x : Rest). x.partition) w.rest in
        record {
          words = (p.object, next_word p.word) ∷ l;
          given =
              tint_comes k coherent s here t y at c0 is_coloured h h2 b.state l g g2 p pt now u (rewrites k coherent s here t y at c0 is_coloured h h2 b.state g2 u p.object (next_word p.word) written (tint_rewords k n s.threads e h h2 i v p (stand h b.state.ok) slot refl q (spread h b.state.ok) (spread h2 g2) home (no_mutable (next_word p.word)))) (b.state.onward.lies_on p.object written.lies)
              low (b.later.limit ∙ (its_partition k coherent.sound n s here).1) (put_acts (in_slot i) (issue_tint p h.work) h h2 q) (λ f d. ap (λ z. tot f (partition_things n z)) parts) (λ j x. ap (λ z. tot (issued_by j k.options.colours x) (partition_things n z)) parts)
              (slot_frames h2 w.new (next_word p.word) w.worded w.thread) (w.rest ∙ ap (λ z. record h.work.rest { partition = z }) (sym parts)) (slot_thread h2 w.new w.thread);
          word = new_at l p (next_word p.word) m is;
        }

    relaid : (nw : NewWord) → issue_renewal p h.work ≡ Some nw → (o : Option Hand) → put_word (in_slot i) nw h ≡ o → L m (ready_at (in_cell nw.word None) o)
    relaid nw f None q = tt
    relaid nw f (Some h2) q =
        let ok = moved_ok k coherent s here t y at c0 is_coloured h p c b nw f in
        let g2 : O h2 = puts (in_slot i) nw h h2 ok q in
        let w : SlotPut (record h { work = nw.work }) h2 i nw.word v = word_put (record h { work = nw.work }) h2 i nw.word v slot q in
        let parts : h2.work.rest.partition ≡ nw.work.rest.partition = ap (λ (x : Rest). x.partition) w.rest in
        let its = left k coherent s here t y at c0 is_coloured h p c b nw f in
        record {
          words = (p.object, nw.word) ∷ l;
          given =
              renewal_comes k coherent s here t y at c0 is_coloured h p c b nw f h2 l g g2 pt now u
              (rewrites k coherent s here t y at c0 is_coloured h h2 b.state g2 u p.object nw.word written (renewals_reword.slot k n s.threads e h h2 p nw i v (renewal k coherent s here t y at c0 is_coloured h p c b nw f) slot refl q (spread h2 g2) (no_mutable nw.word))) (put_acts (in_slot i) nw h h2 q)
              (λ d x. ap (λ z. tot d (partition_things n z)) parts) (λ j x. ap (λ z. tot (issued_by j k.options.colours x) (partition_things n z)) parts) (slot_frames h2 w.new nw.word w.worded w.thread)
              (w.rest ∙ its.1 ∙ ap (λ z. record h.work.rest { partition = z }) (sym (parts ∙ ap (λ (x : Rest). x.partition) its.1))) (slot_thread h2 w.new w.thread);
          word = new_at l p nw.word m is;
        }

    renewed_box : (o : Option NewWord) → issue_renewal p h.work ≡ o → L m (box_ready (in_slot i) o h)
    renewed_box None f = tt
    renewed_box (Some nw) f = relaid nw f (put_word (in_slot i) nw h) refl

    pub slot_led : L m (box_ready (in_slot i) (issue_colour p h.work) h)
    slot_led = by (nat_lt (colour_of p.word + 1) h.work.rest.partition.limit) refl
      where
        by : (a : Bool) → nat_lt (colour_of p.word + 1) h.work.rest.partition.limit ≡ a → L m (box_ready (in_slot i) (if a then Some (issue_tint p h.work) else issue_renewal p h.work) h)
        by true low = tinted low (put_word (in_slot i) (issue_tint p h.work) h) refl
        by false low = renewed_box (issue_renewal p h.work) refl

  -- IN A CELL

  module _ (h : Hand) (word : ℕ) (q : Option ℕ) (cell : Cell) (p : BoxPtr) (c : Cell) (b : Known h p c) (l : NewWords) (g : G h l) (pt : Pointed k coherent p) (through : Through k coherent s here t y at h.thread q) (leads : Leads h.work.rest.partition word cell)
      (boxed : cell.value ≡ owned.Box p) (other : cell.object ≡ p.object → ⊥) (written : IsWritten k (in_object cell.object) p.object) (m : Location) (is : m ≡ in_object p.object) where
    abbrev uc : Location
    uc = in_object cell.object

    there_in : value_in (sight (P h)).ground uc ≡ Some (value.Own (owned.Box p))
    there_in = cell_stands k coherent s here t y at h b.state.ok word cell leads ∙ ap (λ x. Some (value.Own x)) boxed

    home_in : LeadsHome (P h) p
    home_in = home_now k coherent s here t y at h b.state uc (value.Own (owned.Box p)) p written there_in refl

    now_in : p.word ≡ W l p.object
    now_in = word_now k coherent s here t y at c0 is_coloured h b.state l g uc (value.Own (owned.Box p)) p written there_in refl

    -- the mark of the reference that led there
    marked : (o : Option ℕ) (h2 : Hand) (w : ℕ) → O h2 → St h2 → O (note_write o h2) → Through k coherent s here t y at h2.thread o → G h2 ((p.object, w) ∷ l) → Led k coherent s here t y at c0 is_coloured (note_write o h2) (in_cell w None) m
    marked None h2 w g2 st2 g3 th gave = record { words = (p.object, w) ∷ l; given = gave; word = new_at l p w m is }
    marked (Some i) h2 w g2 st2 g3 th gave = record {
      words = (p.object, w) ∷ l;
      given =
          given_marked k coherent s here t y at c0 is_coloured h2 h3 ((p.object, w) ∷ l) gave g2 g3 l2 a.object a.word (rewrites k coherent s here t y at c0 is_coloured h2 h3 st2 g3 l2 a.object a.word (th.2) mark)
          (word_now k coherent s here t y at c0 is_coloured h2 st2 ((p.object, w) ∷ l) gave l2 (value.Mut a) (box_of a) th.2 stood refl) refl (marked_frames h2.thread.slots i a th.1) refl;
      word = new_at l p w m is;
    }
      where
        a : MutRef
        a = th.0

        h3 : Hand
        h3 = note_write (Some i) h2

        l2 : Location
        l2 = at_slot h2.thread.number i

        stood : value_in (sight (P h2)).ground l2 ≡ Some (value.Mut a)
        stood = slot_stands k n s.threads e h2 i (value.Mut a) (stand h2 g2) (spread h2 g2) th.1

        mark : Reworded (P h2) (P h3) l2 a.object a.word
        mark = mark_rewords k n s.threads e h2 i a (stand h2 g2) th.1 (spread h2 g2) (spread h3 g3) (home_now k coherent s here t y at h2 st2 l2 (value.Mut a) (box_of a) th.2 stood refl)

    -- the cell has the word, then the mark comes
    put_led : (nw : NewWord) (h2 : Hand) → O (record h { work = nw.work }) → put_word (in_cell word None) nw h ≡ Some h2 → CellPut (record h { work = nw.work }) h2 word nw.word p → issued (sight k) nw.word ≡ false → Reworded (P h) (P h2) uc p.object nw.word → ((g2 : O h2) → G h2 ((p.object, nw.word) ∷ l))
        → L m (ready_at (in_cell nw.word None) (put_word (in_cell word q) nw h))
    put_led nw h2 ok put_so w unissued r gave =
        let both : put_word (in_cell word q) nw h ≡ Some (note_write q h2) = cells_reword.in_two word q nw h ∙ ap (option_map (note_write q)) put_so in
        let g2 : O h2 = puts (in_cell word None) nw h h2 ok put_so in
        let g3 : O (note_write q h2) = puts (in_cell word q) nw h (note_write q h2) ok both in
        let st2 : St h2 = record {
          ok = g2;
          onward = onward_reworded k (P h) (P h2) uc p.object nw.word begun (spread h b.state.ok) (spread h2 g2) b.state.onward written (inr unissued) (no_first k (P h) nw.word p.object coherent.sound.words.are_issued unissued (spread h b.state.ok) b.state.onward) r;
          untaken = subst (λ x. TakesNoneHere k.code x) (sym w.thread) b.state.untaken;
        } in
        subst (λ o. L m (ready_at (in_cell nw.word None) o)) (sym both) (marked q h2 nw.word g2 st2 g3 (subst (λ x. Through k coherent s here t y at x q) (sym w.thread) through) (gave g2))

    cell_frames : (h2 : Hand) → h2.thread ≡ h.thread → SameFrames h2.thread.slots h.thread.slots
    cell_frames h2 same = ap (λ (x : ThreadState). map frame_of x.slots) same

    cell_thread : (h2 : Hand) → h2.thread ≡ h.thread → h2.thread ≡ record h.thread { slots = h2.thread.slots; temps = h2.thread.temps }
    cell_thread h2 same = same ∙ ap₂ (λ vs ts. record h.thread { slots = vs; temps = ts }) (sym (ap (λ (x : ThreadState). x.slots) same)) (sym (ap (λ (x : ThreadState). x.temps) same))

    cell_tinted : nat_lt (colour_of p.word + 1) h.work.rest.partition.limit ≡ true → (o : Option Hand) → put_word (in_cell word None) (issue_tint p h.work) h ≡ o → L m (ready_at (in_cell (next_word p.word) None) (put_word (in_cell word q) (issue_tint p h.work) h))
    cell_tinted low None f = subst (λ o. L m (ready_at (in_cell (next_word p.word) None) o)) (sym (cells_reword.in_two word q (issue_tint p h.work) h ∙ ap (option_map (note_write q)) f)) tt
    cell_tinted low (Some h2) f =
        let found : look h.work.rest.partition word ≡ Some cell = looks h.work.rest.partition word cell leads in
        let ok = tint_ok p h b.state.ok in
        let g2 : O h2 = puts (in_cell word None) (issue_tint p h.work) h h2 ok f in
        let w : CellPut (record h { work = (issue_tint p h.work).work }) h2 word (next_word p.word) p = cell_put (record h { work = (issue_tint p h.work).work }) h2 word (next_word p.word) cell p found boxed f in
        let parts : h2.work.rest.partition ≡ stored h.work.rest.partition word (owned.Box (record p { word = next_word p.word })) = ap (λ (x : Rest). x.partition) w.rest in
        let r : Reworded (P h) (P h2) uc p.object (next_word p.word) = cells_reword.tint k n s.threads e h h2 word cell p (stand h b.state.ok) found boxed f (spread h b.state.ok) (spread h2 g2) home_in in
        put_led (issue_tint p h.work) h2 ok f w (next_was k coherent p pt) r
        (λ g2.
        tint_comes k coherent s here t y at c0 is_coloured h h2 b.state l g g2 p pt now_in uc (rewrites k coherent s here t y at c0 is_coloured h h2 b.state g2 uc p.object (next_word p.word) written r) (b.state.onward.lies_on p.object written.lies) low (b.later.limit ∙ (its_partition k coherent.sound n s here).1) (put_acts (in_cell word None) (issue_tint p h.work) h h2 f)
        (λ d x. ap (λ z. tot d (partition_things n z)) parts ∙ stored_blind d x n h.work.rest.partition word cell (owned.Box (record p { word = next_word p.word })) found (ap plain_of (sym boxed)))
        (λ j x. ap (λ z. tot (issued_by j k.options.colours x) (partition_things n z)) parts ∙ stored_issues j k.options.colours x n h.work.rest.partition word cell (owned.Box (record p { word = next_word p.word })) found) (cell_frames h2 w.thread)
        (w.rest ∙ ap (λ z. record h.work.rest { partition = z }) (sym parts)) (cell_thread h2 w.thread))

    cell_relaid : (nw : NewWord) → issue_renewal p h.work ≡ Some nw → (o : Option Hand) → put_word (in_cell word None) nw h ≡ o → L m (ready_at (in_cell nw.word None) (put_word (in_cell word q) nw h))
    cell_relaid nw i None f = subst (λ o. L m (ready_at (in_cell nw.word None) o)) (sym (cells_reword.in_two word q nw h ∙ ap (option_map (note_write q)) f)) tt
    cell_relaid nw i (Some h2) f =
        let given_so = given k coherent s here t y at c0 is_coloured h p c b nw i in
        let found : look nw.work.rest.partition word ≡ Some cell = looks nw.work.rest.partition word cell (given_so.others word cell leads (λ z. other (z ∙ b.object))) in
        let ok = moved_ok k coherent s here t y at c0 is_coloured h p c b nw i in
        let g2 : O h2 = puts (in_cell word None) nw h h2 ok f in
        let w : CellPut (record h { work = nw.work }) h2 word nw.word p = cell_put (record h { work = nw.work }) h2 word nw.word cell p found boxed f in
        let parts : h2.work.rest.partition ≡ stored nw.work.rest.partition word (owned.Box (record p { word = nw.word })) = ap (λ (x : Rest). x.partition) w.rest in
        let its = left k coherent s here t y at c0 is_coloured h p c b nw i in
        let r : Reworded (P h) (P h2) uc p.object nw.word = renewals_reword.in_cells k n s.threads e h h2 p nw word cell (renewal k coherent s here t y at c0 is_coloured h p c b nw i) found boxed f (spread h2 g2) in
        put_led nw h2 ok f w (renewed_was k coherent s here t y at c0 is_coloured h p c b nw i) r
        (λ g2.
        renewal_comes k coherent s here t y at c0 is_coloured h p c b nw i h2 l g g2 pt now_in uc (rewrites k coherent s here t y at c0 is_coloured h h2 b.state g2 uc p.object nw.word written r) (put_acts (in_cell word None) nw h h2 f)
        (λ d x. ap (λ z. tot d (partition_things n z)) parts ∙ stored_blind d x n nw.work.rest.partition word cell (owned.Box (record p { word = nw.word })) found (ap plain_of (sym boxed)))
        (λ j x. ap (λ z. tot (issued_by j k.options.colours x) (partition_things n z)) parts ∙ stored_issues j k.options.colours x n nw.work.rest.partition word cell (owned.Box (record p { word = nw.word })) found) (cell_frames h2 w.thread)
        (w.rest ∙ ap (λ (x : Rest). record x { partition = stored nw.work.rest.partition word (owned.Box (record p { word = nw.word })) }) its.1 ∙ ap (λ z. record h.work.rest { partition = z }) (sym parts)) (cell_thread h2 w.thread))

    renewed_in : (o : Option NewWord) → issue_renewal p h.work ≡ o → L m (box_ready (in_cell word q) o h)
    renewed_in None f = tt
    renewed_in (Some nw) f = cell_relaid nw f (put_word (in_cell word None) nw h) refl

    pub cell_led : L m (box_ready (in_cell word q) (issue_colour p h.work) h)
    cell_led = by (nat_lt (colour_of p.word + 1) h.work.rest.partition.limit) refl
      where
        by : (a : Bool) → nat_lt (colour_of p.word + 1) h.work.rest.partition.limit ≡ a → L m (box_ready (in_cell word q) (if a then Some (issue_tint p h.work) else issue_renewal p h.work) h)
        by true low = cell_tinted low (put_word (in_cell word None) (issue_tint p h.work) h) refl
        by false low = renewed_in (issue_renewal p h.work) refl
