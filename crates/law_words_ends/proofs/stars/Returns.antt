-- The end of a reference, as a hand sees it: what the word that its holder's pointer gets changes, in a slot or in a cell, and that the words stay, however the reference goes.
use Rattle.std.proofs.Common.{◌≡◌, ◌≢◌, inl, ℕ, zero, suc, ◌+◌, ◌==◌, nat_lt, Bool, true, false, if◌then◌else◌, List, [], ◌∷◌, ◌++◌, Option, Some, None, refl, sym, ap, subst, ◌∙◌, arith}
use Rattle.std.proofs.lemmas.Bool.Decides.{nat_tests}
use Rattle.std.specs.Prelude.{slice_get, slice_set, length}
use Rattle.law_words_ends.specs.Below.global_addr.Words.{address_of}
use Rattle.law_words_ends.specs.Below.heap_partition.declared.value.BoxPtr.{BoxPtr}
use Rattle.law_words_ends.specs.Below.heap_partition.declared.value.Cell.{Cell}
use Rattle.law_words_ends.specs.Below.heap_partition.declared.value.Owned.{Owned}
use Rattle.law_words_ends.specs.Below.heap_partition.declared.value.Owned.TheVariants as owned
use Rattle.law_words_ends.specs.Below.mut_borrow.declared.mutable.MutRef.{MutRef}
use Rattle.law_words_ends.specs.Below.mut_borrow.Refs.{finish_word}
use Rattle.law_words_ends.specs.Below.owner_box.View.{PartitionState}
use Rattle.law_words_ends.specs.Below.owner_box.Partition.{stored}
use Rattle.law_words_ends.specs.Below.thread_state.View.{ThreadState}
use Rattle.law_words_ends.specs.Below.thread_state.declared.value.Value.{Value}
use Rattle.law_words_ends.specs.Below.thread_state.declared.value.Value.TheVariants as value
use Rattle.law_words_ends.specs.Below.server_model.Servers.{Rest, Server, Cluster, server_at}
use Rattle.law_words_ends.specs.Below.server_model.Work.{Hand, with_slots, with_partition, working, thread_in, set_thread, without_thread, then_some}
use Rattle.law_words_ends.specs.Below.server_model.Places.{Spot, in_slot as spot_slot, in_cell as cell_spot, nowhere as no_spot, value_in as cell_value, value_at, with_word, written, note_slot, note_write, put_at, set_pointer}
use Rattle.law_words_ends.specs.Below.server_model.Drop.{finish, finished_at}
use Rattle.law_words_ends.specs.Below.coherent_memory.Names.{Among, other, same_object}
use Rattle.law_words_ends.specs.Below.coherent_memory.Things.{Location, at_slot, in_cell as in_object, lies, thread_things, servers_things, things_of}
use Rattle.law_words_ends.specs.Below.coherent_memory.Follow.{Ground, value_in, value_of, value_behind}
use Rattle.law_words_ends.specs.Below.coherent_memory.Stale.{Reference, references, holder_of}
use Rattle.law_words_ends.specs.Below.coherent_memory.Sight.{sight}
use Rattle.law_words_ends.specs.Below.coherent_memory.Placing.{is_first, other_first}
use Rattle.law_words_ends.specs.Below.coherent_memory.Words.{HasWords, LeadsTo}
use Rattle.law_words_ends.specs.Below.coherent_memory.Coherent.{IsSound}
use Rattle.law_words_ends.proofs.Below.coherent_memory.Words.{named, none_at}
use Rattle.law_words_ends.proofs.Below.law_words_paths.paths.Climbs.{and_second}
use Rattle.law_words_ends.proofs.Below.law_words_paths.paths.Contained.{reference_there}
use Rattle.law_words_ends.specs.Below.law_words_paths.words.Reworded.{HasPlaces, Reworded}
use Rattle.law_words_ends.specs.Below.law_words_paths.words.PutBack.{StandsHere, LeadsHome}
use Rattle.law_words_ends.proofs.Below.law_words_paths.words.Cells.{cells_reword}
use Rattle.law_words_ends.proofs.Below.law_words_paths.words.Put.{Split, put_split, servers_split}
use Rattle.law_words_ends.proofs.Below.law_words_paths.words.Slots.{set_other}
use Rattle.law_words_ends.proofs.Below.law_words_paths.words.Standing.{lying, cell_found}
use Rattle.law_words_ends.specs.Below.law_counts_sums.Laws.{Gives}
use Rattle.law_words_ends.proofs.Below.law_counts_sums.Results.{given_by}
use Rattle.law_words_ends.proofs.Below.law_counts_sums.RulesKeep.{sums_kept}
use Rattle.law_words_ends.proofs.Below.law_counts_sums.Bags.{all_standing}
use Rattle.law_words_ends.proofs.Below.law_counts_sums.Events.{others_of}
use Rattle.law_words_ends.proofs.Below.law_counts_sums.Objects.{length_set}
use Rattle.law_words_ends.proofs.Below.law_counts_sums.Pointers.{sets_pointer}
use Rattle.law_words_writes.proofs.Below.law_words_kept.stays.Steps.{TakesNoneHere}
use Rattle.law_words_writes.proofs.Below.law_words_values.carried.Hands.{Ok, places as then_places, stands_here}
use Rattle.law_words_writes.proofs.Below.law_words_values.carried.Passing.{Here, slot, temp, located, here}
use Rattle.law_words_writes.proofs.Below.law_words_values.carried.Places.{end_other}
use Rattle.law_words_writes.proofs.Below.law_words_values.carried.Replaced.{places_on}
use Rattle.law_words_ends.proofs.Below.law_words_kept.reads.Homes.{fresh_word}
use Rattle.law_words_ends.proofs.Below.law_words_values.references.Chains.{cluster}
use Rattle.law_words_writes.proofs.Below.law_results_events.writes.Memory.{Leads, looks, leads_on}
use Rattle.law_words_writes.proofs.Below.law_words_asked.writes.Onward.{Lies}
use Rattle.law_words_writes.proofs.Emptying.{stored_split, part_among}
use Rattle.law_words_ends.proofs.variables.EndHands.{set_apart, is_so, Base, AtEnd, Goes, finishes}
use Rattle.law_words_ends.proofs.variables.EndPlaces.{Without, newest_without, emptied_without, top_without, first_finishes, word_finishes}
use Rattle.law_words_ends.proofs.stars.CellEnds.{rooted_after, cell_end_leaves}

-- THE MARK OF A WRITE in a list of slots

abbrev pub marks : Option ℕ → List Value → List Value
marks None vs = vs
marks (Some i) vs = note_slot vs i (slice_get vs i)

pub noted : (q : Option ℕ) (h : Hand) → note_write q h ≡ with_slots (marks q h.thread.slots) h
noted None h = refl
noted (Some i) h = refl

pub marks_size : (q : Option ℕ) (vs : List Value) → length (marks q vs) ≡ length vs
marks_size None vs = refl
marks_size (Some i) vs = by (slice_get vs i)
  where
    by : (o : Option Value) → length (note_slot vs i o) ≡ length vs
    by None = refl
    by (Some v) = length_set vs i (written v)

-- another slot is as it was
pub marks_other : (q : Option ℕ) (vs : List Value) (m : ℕ) → (q ≡ Some m → ⊥) → slice_get (marks q vs) m ≡ slice_get vs m
marks_other None vs m ne = refl
marks_other (Some i) vs m ne = by (slice_get vs i)
  where
    by : (o : Option Value) → slice_get (note_slot vs i o) m ≡ slice_get vs m
    by None = refl
    by (Some v) = set_other vs i m (written v) (λ e. ne (ap Some (sym e)))

set_end : (ss : List Value) (v : Value) (i : ℕ) (u : Value) → (i ≡ length ss → ⊥) → slice_set (ss ++ v ∷ []) i u ≡ slice_set ss i u ++ v ∷ []
set_end [] v zero u ne = absurd (ne refl)
set_end [] v (suc i) u ne = refl
set_end (x ∷ ss) v zero u ne = refl
set_end (x ∷ ss) v (suc i) u ne = ap (λ l. x ∷ l) (set_end ss v i u (λ e. ne (ap suc e)))

-- below the newest slot
marks_end : (q : Option ℕ) (ss : List Value) (v : Value) → (q ≡ Some (length ss) → ⊥) → marks q (ss ++ v ∷ []) ≡ marks q ss ++ v ∷ []
marks_end None ss v ne = refl
marks_end (Some i) ss v ne = ap (note_slot (ss ++ v ∷ []) i) (end_other ss v i (λ e. ne (ap Some e))) ∙ by (slice_get ss i)
  where
    by : (o : Option Value) → note_slot (ss ++ v ∷ []) i o ≡ note_slot ss i o ++ v ∷ []
    by None = refl
    by (Some u) = set_end ss v i (written u) (λ e. ne (ap Some e))

-- beside another slot that is set
marks_set : (q : Option ℕ) (vs : List Value) (i : ℕ) (v : Value) → (q ≡ Some i → ⊥) → marks q (slice_set vs i v) ≡ slice_set (marks q vs) i v
marks_set None vs i v ne = refl
marks_set (Some j) vs i v ne = ap (note_slot (slice_set vs i v) j) (set_other vs i j v (λ e. ne (ap Some e))) ∙ by (slice_get vs j)
  where
    by : (o : Option Value) → note_slot (slice_set vs i v) j o ≡ slice_set (note_slot vs j o) i v
    by None = refl
    by (Some u) = set_apart vs i j v (written u) (λ e. ne (ap Some (sym e)))

-- WORDS

same_word : (r : MutRef) → (r.word == r.first) ≡ true → r.word ≡ r.first
same_word r e = grind (arith, nat_tests, e)

other_word : (r : MutRef) → (r.word == r.first) ≡ false → r.word ≢ r.first
other_word r e = λ q. (let z : true ≡ false = grind (arith, nat_tests, e, q) in absurd (cc z))

-- with its first word nothing is put back
finish_first : (r : MutRef) (h : Hand) → r.dirty ≡ false → (r.word == r.first) ≡ true → finish no_spot r h ≡ Some h
finish_first r h clean e = ap (λ b. if b then None else finished_at no_spot (finish_word r) h) clean ∙ ap (λ b. finished_at no_spot (if b then None else Some r.word) h) e

-- with another one the holder's pointer gets it
finish_word_at : (r : MutRef) (sp : Spot) (h : Hand) → r.dirty ≡ false → (r.word == r.first) ≡ false → finish sp r h ≡ set_pointer sp r.word h
finish_word_at r sp h clean e = ap (λ b. if b then None else finished_at sp (finish_word r) h) clean ∙ ap (λ b. finished_at sp (if b then None else Some r.word) h) e

module _ (k : Cluster) (sound : IsSound k) (s : Server) (here_it : server_at k.servers s.rest.number ≡ Some s) (t : ℕ) (y : ThreadState) (at : thread_in s.threads t ≡ Some y) (H : Hand) (r : MutRef) where
  abbrev n : ℕ
  n = s.rest.number

  abbrev x0 : ThreadState
  x0 = H.thread

  -- how the reference goes from the thread
  pub data Shape : ThreadState → Here → Type 0 where
    newest : (ss : List Value) → x0.slots ≡ ss ++ value.Mut r ∷ [] → Shape (record x0 { slots = ss }) (slot (length ss))
    top : (ts : List Value) → x0.temps ≡ ts ++ value.Mut r ∷ [] → Shape (record x0 { temps = ts }) (temp (length ts))
    emptied : (i : ℕ) → slice_get x0.slots i ≡ Some (value.Mut r) → Shape (record x0 { slots = slice_set x0.slots i value.Gone }) (slot i)

  -- the hand then
  abbrev pub after : Rest → (List Value → List Value) → ThreadState → Hand
  after rest slots x = record { work = record H.work { rest = rest }; thread = record x { slots = slots x.slots } }

  -- what becomes of the server and of the slots, wherever a hand with the same server and slots stands; and that the words stay from a base
  pub record Returns (base : Hand) (sp : Spot) (from : Here) : Type 0 where
    pub rest : Rest
    pub slots : List Value → List Value
    pub finish_so : (F : Hand) → F.work.rest ≡ H.work.rest → ((m : ℕ) → (slot m ≡ from → ⊥) → slice_get F.thread.slots m ≡ slice_get x0.slots m)
        → Gives (λ (h2 : Hand). (h2.work.rest ≡ rest) × (h2.thread ≡ record F.thread { slots = slots F.thread.slots })) (finish sp r F)
    pub leaves : (x : ThreadState) → Shape x from → Goes k sound s here_it t y at base (after rest slots x)
    pub commutes : (i : ℕ) (vs : List Value) (v : Value) → slot i ≡ from → slots (slice_set vs i v) ≡ slice_set (slots vs) i v
    pub beside : (i : ℕ) (vs : List Value) → slot i ≡ from → slice_get (slots vs) i ≡ slice_get vs i

  -- WHERE A SLOT HAS THE HOLDER'S POINTER, OR NOTHING IS PUT BACK

  module _ (base : Base k sound s here_it t y at H) (none : TakesNoneHere k.code x0) (from : Here) (l h : Location) (place : located x0.number from ≡ Some l) (is : here x0 from ≡ Some (value.Mut r)) (ended : AtEnd k sound s here_it t y at H l h r) where
    without : (x : ThreadState) (f : Here) → Shape x f → Without k.code n x0 x f
    without _ _ (newest ss e) = newest_without k.code n x0 none r ss e
    without _ _ (top ts e) = top_without k.code n x0 none r ts e
    without _ _ (emptied i e) = emptied_without k.code n x0 none r i e

    pub returns_first : (r.word == r.first) ≡ true → Returns H no_spot from
    returns_first e = record {
      rest = H.work.rest;
      slots = λ vs. vs;
      finish_so = λ F same kept. subst (λ o. Gives (λ (h2 : Hand). (h2.work.rest ≡ H.work.rest) × (h2.thread ≡ F.thread)) o) (sym (finish_first r F ended.clean e)) (same, refl);
      leaves = λ x w. finishes k sound s here_it t y at H base from l h r place is ended x (first_finishes k.code n x0 x from l h r none place is (without x from w) (same_word r e));
      commutes = λ i vs v q. refl;
      beside = λ i vs q. refl;
    }

    pub returns_slot : (j : ℕ) (v u : Value) → (r.word == r.first) ≡ false → h ≡ at_slot x0.number j → (slot j ≡ from → ⊥) → slice_get x0.slots j ≡ Some v → with_word r.word v ≡ Some u → Returns H (spot_slot j) from
    returns_slot j v u e there away stands worded = record {
      rest = H.work.rest;
      slots = λ vs. slice_set vs j u;
      finish_so = puts;
      leaves = λ x w.
          finishes k sound s here_it t y at H base from l h r place is ended (record x { slots = slice_set x.slots j u })
          (word_finishes k.code n x0 x from l h r none place is (without x from w) j v u away there ((without x from w).slots j away ∙ stands) worded (other_word r e));
      commutes = λ i vs w q. set_apart vs i j w u (λ f. away (ap slot (sym f) ∙ q));
      beside = λ i vs q. set_other vs j i u (λ f. away (ap slot (sym f) ∙ q));
    }
      where
        puts : (F : Hand) → F.work.rest ≡ H.work.rest → ((m : ℕ) → (slot m ≡ from → ⊥) → slice_get F.thread.slots m ≡ slice_get x0.slots m)
            → Gives (λ (h2 : Hand). (h2.work.rest ≡ H.work.rest) × (h2.thread ≡ record F.thread { slots = slice_set F.thread.slots j u })) (finish (spot_slot j) r F)
        puts F same kept =
            subst (λ o. Gives Done o) (sym (finish_word_at r (spot_slot j) F ended.clean e))
            (subst (λ o. Gives Done (then_some o (λ a. then_some (with_word r.word a) (λ b. put_at (spot_slot j) b F)))) (sym (kept j away ∙ stands))
            (subst (λ o. Gives Done (then_some o (λ b. put_at (spot_slot j) b F))) (sym worded) (by (nat_lt j (length F.thread.slots)))))
          where
            Done : Hand → Type 0
            Done h2 = (h2.work.rest ≡ H.work.rest) × (h2.thread ≡ record F.thread { slots = slice_set F.thread.slots j u })

            by : (b : Bool) → Gives Done (if b then Some (with_slots (slice_set F.thread.slots j u) F) else None)
            by true = (same, refl)
            by false = tt

  -- WHERE A CELL HAS IT

  module _ (q : Option ℕ) where
    abbrev pub hb : Hand
    hb = with_slots (marks q x0.slots) H

    abbrev xb : ThreadState
    xb = hb.thread

    abbrev P : Hand → Cluster
    P b = cluster k sound s here_it t y at b

    -- the thread without the reference, marked
    without_marked : TakesNoneHere k.code xb → (x : ThreadState) (f : Here) → Shape x f → ((m : ℕ) → q ≡ Some m → slot m ≡ f → ⊥) → Without k.code n xb (record x { slots = marks q x.slots }) f
    without_marked none _ _ (newest ss e) away =
        subst (λ m. Without k.code n xb (record xb { slots = marks q ss }) (slot m)) (marks_size q ss) (newest_without k.code n xb none r (marks q ss) (ap (marks q) e ∙ marks_end q ss (value.Mut r) (λ f. away (length ss) f refl)))
    without_marked none _ _ (top ts e) away = top_without k.code n xb none r ts e
    without_marked none _ _ (emptied i e) away =
        subst (λ vs. Without k.code n xb (record xb { slots = vs }) (slot i)) (sym (marks_set q x0.slots i value.Gone (λ f. away i f refl))) (emptied_without k.code n xb none r i (marks_other q x0.slots i (λ f. away i f refl) ∙ e))

    module _ (ok : Ok k sound s here_it t y at hb) (base : Base k sound s here_it t y at hb) (none : TakesNoneHere k.code xb) (from : Here) (l : Location) (place : located xb.number from ≡ Some l) (away : (m : ℕ) → q ≡ Some m → slot m ≡ from → ⊥) (lies_it : Lies (P hb) r.object)
        (w : ℕ) (c : Cell) (p : BoxPtr) (ended : AtEnd k sound s here_it t y at hb l (in_object c.object) r) (leads : Leads H.work.rest.partition w c) (boxed : c.value ≡ owned.Box p) (word : (r.word == r.first) ≡ false) where
      abbrev new : Owned
      new = owned.Box (record p { word = r.word })

      abbrev d : Cell
      d = record c { value = new }

      abbrev part : PartitionState
      part = stored H.work.rest.partition w new

      -- the hand with the box's word, and the reference
      abbrev K : Hand
      K = working (with_partition part) hb

      abbrev gb : Ground
      gb = (sight (P hb)).ground

      in_it : value_at hb (cell_spot w None) ≡ Some (value.Own (owned.Box p))
      in_it = ap cell_value (looks H.work.rest.partition w c leads) ∙ ap (λ v. Some (value.Own v)) boxed

      put_so : set_pointer (cell_spot w None) r.word hb ≡ Some K
      put_so = ap (λ o. then_some o (λ v. then_some (with_word r.word v) (λ u. put_at (cell_spot w None) u hb))) in_it ∙ ap (λ b. if b then Some K else None) (leads_on H.work.rest.partition w c leads)

      K_ok : Ok k sound s here_it t y at K
      K_ok = given_by (Ok k sound s here_it t y at) (set_pointer (cell_spot w None) r.word hb) K (sets_pointer sums_kept n s.events t (all_standing n (without_thread s.threads t) ++ servers_things (others_of k.servers n)) (cell_spot w None) r.word hb ok) put_so

      K_places : HasPlaces (P K)
      K_places = then_places k sound s here_it t y at K K_ok

      stands_b : StandsHere k n s.threads hb
      stands_b = stands_here k sound s here_it t y at hb base.number base.named

      cell_part : Split (things_of (P hb)) (things_of (P K)) (lies n (address_of w) c ∷ []) (lies n (address_of w) d ∷ [])
      cell_part =
          subst (λ m. Split (things_of (P hb)) (things_of (P K)) (lies m (address_of w) c ∷ []) (lies m (address_of w) d ∷ [])) base.number
          (servers_split n k.servers (record { rest = hb.work.rest; threads = set_thread s.threads hb.thread; events = s.events + 1 }) (record { rest = K.work.rest; threads = set_thread s.threads hb.thread; events = s.events + 1 }) (lies hb.work.rest.number (address_of w) c ∷ [])
          (lies hb.work.rest.number (address_of w) d ∷ []) stands_b.server (stored_split hb.work.rest (set_thread s.threads hb.thread) (s.events + 1) w c new leads.there))

      cell_among : Among (lies n (address_of w) c) (things_of (P hb))
      cell_among = part_among (things_of (P hb)) (things_of (P K)) (lies n (address_of w) c ∷ []) (lies n (address_of w) d ∷ []) cell_part (lies n (address_of w) c) (inl refl)

      -- the box is of the reference's object
      object_same : r.object ≡ p.object
      object_same =
          let stood : value_in gb (in_object c.object) ≡ Some (value.Own (owned.Box p)) = ap value_of (cell_found c (lies n (address_of w) c) (things_of (P hb)) (base.places.home_of_each c.object) (lying n (address_of w)) cell_among) ∙ ap (λ v. Some (value.Own v)) boxed in
          let its_own : Reference = record { at = l; holder = holder_of gb l r.holder; reference = r } in
          let known : is_first r (value_in gb (in_object c.object)) ≡ true =
          is_so (is_first r (value_in gb (in_object c.object)))
          (subst (λ o. other (is_first r (value_behind gb o)) ≡ 0) ended.held (none_at (other_first gb) its_own (references gb (things_of (P hb))) base.words.first_at_holder (reference_there (P hb) l r ended.stood))) in
          named r.object p.object (and_second (r.first == p.word) (same_object r.object p.object) (sym (ap (is_first r) stood) ∙ known))

      -- its word leads to where that lies
      home : LeadsHome (P hb) (record p { word = r.word })
      home =
          let words : HasWords (sight (P hb)) = base.words.has_words in
          let its_word : r.word ≡ words.word r.object = fresh_word (P hb) words l (value.Mut r) (record { word = r.word; object = r.object }) ended.stood refl ended.fresh in
          subst (λ o. LeadsHome (P hb) (record { word = r.word; object = o })) object_same
          (record { server = lies_it.server; address = lies_it.address; lying = lies_it.there; leads = λ m a b i f. subst (λ v. LeadsTo m a v) (ap words.word f ∙ sym its_word) (words.home m a b i) })

      reworded : Reworded (P hb) (P K) (in_object c.object) r.object r.word
      reworded =
          subst (λ o. Reworded (P hb) (P K) (in_object c.object) o r.word) (sym object_same)
          (cells_reword.put k n s.threads (s.events + 1) hb K w r.word c p stands_b (looks H.work.rest.partition w c leads) boxed put_so base.places K_places home)

      module _ (x : ThreadState) (shape : Shape x from) where
        abbrev G : Hand
        G = after (record H.work.rest { partition = part }) (marks q) x

        gone : Without k.code n xb G.thread from
        gone = without_marked none x from shape away

        parts : Split (things_of (P K)) (things_of (P G)) (thread_things n false xb) (thread_things n false G.thread)
        parts = put_split k n s.threads (s.events + 1) K G (stands_here k sound s here_it t y at K base.number base.named) refl gone.number

        places_G : HasPlaces (P G)
        places_G = places_on (P K) (P G) n xb G.thread gone.number parts gone.owns K_places

        cell_leaves : Goes k sound s here_it t y at hb G
        cell_leaves = record {
          number = base.number;
          named = gone.number ∙ base.named;
          places = places_G;
          rooted = rooted_after (P hb) (P K) (P G) n (address_of w) c d xb G.thread from l r gone none place reworded refl cell_part cell_among parts refl refl base.places K_places places_G base.words.first_at_holder base.rooted ended.unpassed ended.stood ended.held (other_word r word);
          leaves = cell_end_leaves (P hb) (P K) (P G) n (address_of w) c d xb G.thread from l r gone none place reworded refl cell_part cell_among parts refl refl base.places K_places places_G base.words.first_at_holder base.rooted ended.unpassed ended.stood ended.held
              (other_word r word) ended.clean ended.fresh ended.only ended.untaken ended.unmade base.words.has_words base.words.past_words;
        }

      pub returns_cell : Returns hb (cell_spot w q) from
      returns_cell = record { rest = record H.work.rest { partition = part }; slots = marks q; finish_so = puts; leaves = cell_leaves; commutes = λ i vs v f. marks_set q vs i v (λ g. away i g f); beside = λ i vs f. marks_other q vs i (λ g. away i g f) }
        where
          puts : (F : Hand) → F.work.rest ≡ H.work.rest → ((m : ℕ) → (slot m ≡ from → ⊥) → slice_get F.thread.slots m ≡ slice_get x0.slots m)
              → Gives (λ (h2 : Hand). (h2.work.rest ≡ record H.work.rest { partition = part }) × (h2.thread ≡ record F.thread { slots = marks q F.thread.slots })) (finish (cell_spot w q) r F)
          puts F same kept =
              let lead : Leads F.work.rest.partition w c = subst (λ (b : Rest). Leads b.partition w c) (sym same) leads in
              let F2 : Hand = working (with_partition (stored F.work.rest.partition w new)) F in
              let stood : value_at F (cell_spot w q) ≡ Some (value.Own (owned.Box p)) = ap cell_value (looks F.work.rest.partition w c lead) ∙ ap (λ v. Some (value.Own v)) boxed in
              subst (λ o. Gives Done o) (sym (finish_word_at r (cell_spot w q) F ended.clean word))
              (subst (λ o. Gives Done (then_some o (λ a. then_some (with_word r.word a) (λ b. put_at (cell_spot w q) b F)))) (sym stood)
              (subst (λ b. Gives Done (if b then Some (note_write q F2) else None)) (sym (leads_on F.work.rest.partition w c lead)) (subst Done (sym (noted q F2)) (ap (λ (b : Rest). record b { partition = stored b.partition w new }) same, refl))))
            where
              Done : Hand → Type 0
              Done h2 = (h2.work.rest ≡ record H.work.rest { partition = part }) × (h2.thread ≡ record F.thread { slots = marks q F.thread.slots })
