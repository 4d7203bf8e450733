-- A dirty reference on the way of a place that is read gets the next colour: its object has that word then, and isn't changed through it any more.
use Rattle.std.proofs.Common.{◌≡◌, inl, ⊎_elim, ℕ, ◌+◌, ◌<◌, true, false, [], ◌++◌, Some, refl, sym, ap, subst, ◌∙◌}
use Rattle.std.specs.Prelude.{slice_get}
use Rattle.law_words_borrows.specs.Below.fr_base.declared.place.Lval.{Lval}
use Rattle.law_words_borrows.specs.Below.fr_base.declared.instruction.Instr.{Instr}
use Rattle.law_words_borrows.specs.Below.global_addr.Words.{server_of, next_word}
use Rattle.law_words_borrows.specs.Below.heap_partition.declared.value.Cell.{Cell}
use Rattle.law_words_borrows.specs.Below.mut_borrow.declared.mutable.MutRef.{MutRef}
use Rattle.law_words_borrows.specs.Below.journal.declared.act.Act.TheVariants as act
use Rattle.law_words_borrows.specs.Below.thread_state.View.{ThreadState}
use Rattle.law_words_borrows.specs.Below.thread_state.declared.phase.Phase.TheVariants as phase
use Rattle.law_words_borrows.specs.Below.thread_state.declared.value.Value.TheVariants as value
use Rattle.law_words_borrows.specs.Below.server_msgs.declared.message.Message.TheVariants as message
use Rattle.law_words_borrows.specs.Below.server_model.declared.event.What.TheVariants.{Step}
use Rattle.law_words_borrows.specs.Below.server_model.Servers.{Server, Cluster, server_at}
use Rattle.law_words_borrows.specs.Below.server_model.Work.{Hand, thread_in, without_thread}
use Rattle.law_words_borrows.specs.Below.server_model.NewWords.{issue_tint}
use Rattle.law_words_borrows.specs.Below.server_model.Places.{in_slot, took, put_word}
use Rattle.law_words_borrows.specs.Below.server_model.Prepare.{box_of, ask_copy}
use Rattle.law_words_borrows.specs.Below.server_model.Events.{can_step, has_phase, enabled}
use Rattle.law_words_borrows.specs.Below.coherent_memory.Names.{Among}
use Rattle.law_words_borrows.specs.Below.coherent_memory.Things.{Location, at_slot, lies, servers_things, things_of}
use Rattle.law_words_borrows.specs.Below.coherent_memory.Follow.{Standing, value_in, cells_in, locate}
use Rattle.law_words_borrows.specs.Below.coherent_memory.Stale.{Reference, references, holder_of, is_held_at}
use Rattle.law_words_borrows.specs.Below.coherent_memory.Sight.{Pointer, pointers_in, taken_pointers, is_object_among, sight, issued}
use Rattle.law_words_borrows.specs.Below.coherent_memory.Words.{IsStale, HasWords, LeadsTo}
use Rattle.law_words_borrows.specs.Below.coherent_memory.Dirty.{DirtyAlone}
use Rattle.law_words_borrows.specs.Below.coherent_memory.Coherent.{Holds, first_at_holder}
use Rattle.law_words_borrows.specs.Below.coherent_types.ClusterTypes.{IsCoherent}
use Rattle.law_words_borrows.proofs.Below.law_words_paths.paths.Origins.{among_first}
use Rattle.law_words_borrows.proofs.Below.law_words_paths.paths.Contained.{reference_there}
use Rattle.law_words_borrows.proofs.Below.law_words_paths.paths.FreshPaths.{same_is}
use Rattle.law_copies_kept.specs.Below.law_words_paths.words.Reworded.{HasPlaces, LiesThere, Reworded}
use Rattle.law_copies_kept.specs.Below.law_words_paths.words.PutBack.{LeadsHome}
use Rattle.law_copies_kept.specs.Below.law_words_paths.words.WordsAfter.{WordsAfter, Rewrites}
use Rattle.law_copies_kept.proofs.Below.law_words_paths.words.Standing.{lying, borrow_stands, told, told_standing}
use Rattle.law_copies_kept.proofs.Below.law_words_paths.words.Grounds.{of_borrows, still_stale}
use Rattle.law_copies_kept.proofs.Below.law_words_paths.words.Put.{put_split}
use Rattle.law_copies_kept.proofs.Below.law_words_paths.words.Slots.{set_same}
use Rattle.law_copies_kept.proofs.Below.law_words_paths.words.Tints.{SlotPut, slot_put, slot_stands, tint_rewords}
use Rattle.law_copies_kept.proofs.Below.law_words_paths.words.NewWord.{is_new}
use Rattle.law_copies_kept.proofs.Below.law_words_paths.words.Only.{are_only}
use Rattle.law_copies_kept.proofs.Below.law_words_paths.words.Past.{first_issued}
use Rattle.law_copies_kept.proofs.Below.law_words_paths.words.Words.{words_go_on, changed_rewords}
use Rattle.law_words_borrows.specs.Below.law_counts_sums.Laws.{FewEvents}
use Rattle.law_words_borrows.proofs.Below.law_counts_sums.Results.{given_by}
use Rattle.law_words_borrows.proofs.Below.law_counts_sums.RulesKeep.{sums_kept}
use Rattle.law_words_borrows.proofs.Below.law_counts_sums.Bags.{all_standing}
use Rattle.law_words_borrows.proofs.Below.law_counts_sums.Events.{others_of}
use Rattle.law_words_borrows.proofs.Below.law_counts_sums.NewWords.{puts_word}
use Rattle.law_copies_kept.specs.Below.law_words_kept.reads.Reading.{LiesUnder}
use Rattle.law_copies_kept.proofs.Below.law_words_kept.reads.FreshReads.{read_are_fresh}
use Rattle.law_copies_kept.proofs.Below.law_words_kept.reads.Homes.{read_lie_there}
use Rattle.law_copies_kept.proofs.Below.law_words_kept.reads.Lookups.{one_state}
use Rattle.law_words_borrows.proofs.Below.law_results_reads.Known.{standing, paths, goes}
use Rattle.law_words_borrows.proofs.Below.law_results_reads.Reading.{Reading}
use Rattle.law_words_borrows.proofs.Below.law_results_reads.Starred.{bound}
use Rattle.law_copies_kept.proofs.Below.law_words_kept.stays.Alike.{chain}
use Rattle.law_copies_kept.proofs.Below.law_words_kept.stays.Sites.{HandAlike}
use Rattle.law_copies_kept.proofs.Below.law_words_kept.stays.Steps.{TakesNoneHere}
use Rattle.law_copies_kept.proofs.Below.law_words_kept.prepared.Along.{Along, dirty_changed}
use Rattle.law_copies_kept.proofs.Below.law_words_kept.prepared.Hands.{State, unseen, first_hand, calm_waits}
use Rattle.law_copies_kept.proofs.Below.law_words_values.carried.Replaced.{cells_same}
use Rattle.law_copies_kept.proofs.Below.law_words_values.carried.Hands.{places, stands_here, each_together, puts_alike}
use Rattle.law_copies_kept.proofs.copies.Clean.{Found, Leaves, thing_cell, all_goes}
use Rattle.law_copies_kept.specs.references.Clean.{ReadsAll}
use Rattle.law_copies_kept.proofs.references.ReadCommits.{asks_so}
use Rattle.law_copies_kept.proofs.references.Worded.{Worded, worded_on, dirty_found}
use Rattle.law_copies_kept.proofs.references.ReadSteps.{reads_of, X, Put, IsOk, its, alike_to, none_then, alike_leaves}

module _ (k : Cluster) (coherent : IsCoherent k) (few : FewEvents k) (s : Server) (here : server_at k.servers s.rest.number ≡ Some s) (t : ℕ) (y : ThreadState) (at : thread_in s.threads t ≡ Some y) (on : enabled k.options s (Step t) ≡ true)
    (w : Lval) (i : Instr) (reading : ReadsAll w i) (code : slice_get k.code y.pc ≡ Some i) (free : (v : ℕ) → y.phase ≡ phase.Taken v → ⊥)
    (d : ℕ) (h h3 : Hand) (stars j : ℕ) (q : MutRef) (known : X k coherent few s here t y at on w i reading code free h) (a : Reading y s.rest (bound k s.rest.number t s y i (its k coherent few s here t y at on w i reading code free)) d h)
    (lt : stars < w.depth) (located : locate (sight k).ground y.number w.slot stars ≡ Some (at_slot y.number j)) (e : slice_get h.thread.slots j ≡ Some (value.Mut q)) (stood : value_in (sight k).ground (at_slot y.number j) ≡ Some (value.Mut q)) (dirty : q.dirty ≡ true)
    (worded : put_word (in_slot j) (issue_tint (box_of q) h.work) h ≡ Some h3) where
  abbrev n : ℕ
  n = s.rest.number

  abbrev Ok : Hand → Type 0
  Ok = IsOk k coherent few s here t y at on w i reading code free

  abbrev put : Hand → Cluster
  put = Put k coherent few s here t y at on w i reading code free

  abbrev new_word : ℕ
  new_word = next_word q.word

  g : Ok h
  g = known.0

  pub g3 : Ok h3
  g3 =
      given_by Ok (put_word (in_slot j) (issue_tint (box_of q) h.work) h) h3
      (puts_word sums_kept n s.events t (all_standing n (without_thread s.threads t) ++ servers_things (others_of k.servers n)) (in_slot j) (issue_tint (box_of q) h.work) h (record { number = (known.0).number; thread = (known.0).thread; bag = (known.0).bag })) worded

  placed : HasPlaces (put h)
  placed = places k coherent.sound s here t y at h g

  placed_3 : HasPlaces (put h3)
  placed_3 = places k coherent.sound s here t y at h3 g3

  abbrev l : Location
  l = at_slot h.thread.number j

  -- BEFORE IT

  was : value_in (sight k).ground l ≡ Some (value.Mut q)
  was = ap (λ m. value_in (sight k).ground (at_slot m j)) a.id ∙ stood

  at_l : locate (sight k).ground y.number w.slot stars ≡ Some l
  at_l = located ∙ ap (λ m. Some (at_slot m j)) (sym a.id)

  there : value_in (sight (put h)).ground l ≡ Some (value.Mut q)
  there = slot_stands k n s.threads (s.events + 1) h j (value.Mut q) (stands_here k coherent.sound s here t y at h (known.0).number (known.0).thread) placed e

  abbrev x : Standing
  x = standing k n t s y i (its k coherent few s here t y at on w i reading code free)

  fresh : IsStale (sight k) (Some l) → ⊥
  fresh = read_are_fresh k (paths k n t s y i (its k coherent few s here t y at on w i reading code free)) x i w w.depth stars l (goes k n t s y i (its k coherent few s here t y at on w i reading code free)) code (reads_of w i reading) lt at_l

  pub under : LiesUnder k (box_of q)
  under =
      read_lie_there k coherent x i w w.depth stars l (value.Mut q) (box_of q) (goes k n t s y i (its k coherent few s here t y at on w i reading code free)) code (reads_of w i reading) lt
      (λ u. calm_waits y.phase u (subst (λ o. has_phase can_step o ≡ true) at on)) at_l was refl

  state : State k coherent s here t y at h
  state = unseen k coherent s here t y at _ h (first_hand k coherent s here t y at) g (alike_to k coherent few s here t y at on w i reading code free h known (d, a))

  along : Along k (put h)
  along = state.along

  fresh_h : IsStale (sight (put h)) (Some l) → ⊥
  fresh_h z = fresh (along.fresher l z)

  abbrev leaves : Leaves k (put h)
  leaves = alike_leaves k coherent few s here t y at on w i reading code free h g (alike_to k coherent few s here t y at on w i reading code free h known (d, a))

  abbrev words_k : HasWords (sight k)
  words_k = coherent.sound.words.have_words

  abbrev words_h : HasWords (sight (put h))
  words_h = ((leaves.0).words words_k).after

  alone : DirtyAlone (sight (put h))
  alone = (leaves.0).dirty coherent.sound.words.dirty_alone

  firsts : Holds (put h) first_at_holder
  firsts = (leaves.0).holders coherent.sound.words.first_at_holder

  abbrev pointer : Pointer
  pointer = record { at = Some l; word = q.word; object = q.object }

  word_in : (c : Cluster) (b : HasWords (sight c)) → value_in (sight c).ground l ≡ Some (value.Mut q) → (IsStale (sight c) (Some l) → ⊥) → q.word ≡ b.word q.object
  word_in c b f z =
      ⊎_elim (λ (p : IsStale (sight c) (Some l)). absurd (z p)) (λ (p : q.word ≡ b.word q.object). p)
      (b.same (record { at = Some l; word = q.word; object = q.object })
      (among_first (record { at = Some l; word = q.word; object = q.object }) (pointers_in (things_of c)) (taken_pointers (sight c).code (sight c).ground (sight c).ground.threads) (told c l (value.Mut q) (record { at = Some l; word = q.word; object = q.object }) f (inl refl))))

  -- the word is a new one
  pub unissued : issued (sight k) new_word ≡ false
  unissued = ap (λ v. issued (sight k) (next_word v)) (word_in k words_k was fresh) ∙ is_new k words_k (one_state k coherent.sound) under.server under.address q.object under.there

  -- the object's cell is there
  pub its_cell : (c : Cell) × Among c (cells_in (things_of k)) × (c.object ≡ q.object)
  its_cell = let p = under.there in (p.cell, thing_cell (things_of k) p.cell (lies under.server under.address p.cell) (lying under.server under.address) p.among, p.object)

  -- which is changed through the reference
  pub was_dirty : is_object_among q.object (sight k).dirty ≡ true
  was_dirty = dirty_found k q q.object (record { reference = record { at = l; holder = holder_of (sight k).ground l q.holder; reference = q }; among = reference_there k l q was; same = refl; fresh = fresh }) refl dirty

  -- THE WORD IS PUT

  lies_now : LiesThere (put h) under.server under.address q.object
  lies_now = along.lies_on under.server under.address q.object under.there

  its_word : q.word ≡ words_h.word q.object
  its_word = word_in (put h) words_h there fresh_h

  home : LeadsHome (put h) (box_of q)
  home = record { server = under.server; address = under.address; lying = lies_now; leads = λ r b c m f. subst (λ v. LeadsTo r b v) (ap words_h.word f ∙ sym its_word) (words_h.home r b c m) }

  first_known : issued (sight k) q.first ≡ true
  first_known =
      first_issued k coherent.sound.words.are_issued l q
      (of_borrows (sight k).ground (record { at = l; holder = holder_of (sight k).ground l q.holder; reference = q }) (things_of k) (reference_there k l q was)).among

  not_first : (r : MutRef) → value.Mut q ≡ value.Mut r → next_word q.word ≡ r.first → ⊥
  not_first r f z =
      let same : q ≡ r = cc in
      let no : true ≡ false = sym first_known ∙ ap (issued (sight k)) (ap (λ (b : MutRef). b.first) same ∙ sym z) ∙ unissued in
      absurd cc

  pub wrote : SlotPut h h3 j (next_word q.word) (value.Mut q)
  wrote = slot_put h h3 j (value.Mut q) (box_of q) e worded

  reworded : Reworded (put h) (put h3) l q.object (next_word q.word)
  reworded = tint_rewords k n s.threads (s.events + 1) h h3 j (value.Mut q) (box_of q) (stands_here k coherent.sound s here t y at h (known.0).number (known.0).thread) e refl worded placed placed_3 home not_first

  rewrites : Rewrites (put h) (put h3) l q.object (next_word q.word)
  rewrites = record { before = placed; only = are_only.dirty (put h) l q placed alone there dirty fresh_h; fresh = fresh_h; firsts = firsts; places = placed_3; reworded = reworded }

  same_number : h3.thread.number ≡ h.thread.number
  same_number = ap (λ (th : ThreadState). th.number) wrote.thread

  slot_now : slice_get h3.thread.slots j ≡ Some (value.Mut (took q (next_word q.word)))
  slot_now = ap (λ (th : ThreadState). slice_get th.slots j) wrote.thread ∙ set_same h.thread.slots j (value.Mut q) wrote.new e ∙ sym wrote.worded

  now : value_in (sight (put h3)).ground l ≡ Some (value.Mut (took q (next_word q.word)))
  now =
      ap (λ m. value_in (sight (put h3)).ground (at_slot m j)) (sym same_number)
      ∙ slot_stands k n s.threads (s.events + 1) h3 j (value.Mut (took q (next_word q.word))) (stands_here k coherent.sound s here t y at h3 g3.number g3.thread) placed_3 slot_now

  cells : cells_in (things_of (put h3)) ≡ cells_in (things_of (put h))
  cells =
      cells_same (put h) (put h3) n h.thread h3.thread same_number
      (put_split k n s.threads (s.events + 1) h h3 (stands_here k coherent.sound s here t y at h (known.0).number (known.0).thread) wrote.rest same_number) placed placed_3

  after : WordsAfter (sight (put h)) (sight (put h3)) q.object (next_word q.word) words_h
  after = words_go_on (put h) (put h3) l q.object (next_word q.word) rewrites words_h

  -- another object's reference stays
  stays : (r : Reference) → Among r (references (sight k).ground (things_of k)) → (IsStale (sight k) (Some r.at) → ⊥) → (r.reference.object ≡ q.object → ⊥) → Found (put h3) r.reference
  stays r m f away =
      let p = (leaves.1).changed_on r m f in
      let at_p = p.reference.at in
      let it = p.reference.reference in
      let stands : value_in (sight (put h)).ground at_p ≡ Some (value.Mut it) = borrow_stands (put h) placed at_p it (of_borrows (sight (put h)).ground p.reference (things_of (put h)) p.among).among in
      let apart : at_p ≡ l → ⊥ = λ z.
      (let both : Some (value.Mut it) ≡ Some (value.Mut q) = sym stands ∙ ap (value_in (sight (put h)).ground) z ∙ there in
      let same : it ≡ q = cc in
      away (ap (λ (b : MutRef). b.object) (sym p.same ∙ same))) in
      let stands_3 : value_in (sight (put h3)).ground at_p ≡ Some (value.Mut it) = reworded.elsewhere at_p apart ∙ stands in
      record {
        reference = record { at = at_p; holder = holder_of (sight (put h3)).ground at_p it.holder; reference = it };
        among = reference_there (put h3) at_p it stands_3;
        same = p.same;
        fresh = λ z. p.fresh (changed_rewords (put h) (put h3) l q.object (next_word q.word) rewrites q there (dirty_changed q dirty) at_p z);
      }

  -- and a dirty one that isn't stale was there, and is another object's
  stood_so : (r : Reference) → Among r (references (sight (put h3)).ground (things_of (put h3))) → (IsStale (sight (put h3)) (Some r.at) → ⊥) → r.reference.dirty ≡ true → (r.reference.object ≡ q.object → ⊥) × Found k r.reference
  stood_so r m f its_mark =
      let stands : value_in (sight (put h3)).ground r.at ≡ Some (value.Mut r.reference) = borrow_stands (put h3) placed_3 r.at r.reference (of_borrows (sight (put h3)).ground r (things_of (put h3)) m).among in
      let apart : r.at ≡ l → ⊥ = λ z.
      (let both : Some (value.Mut r.reference) ≡ Some (value.Mut (took q (next_word q.word))) = sym stands ∙ ap (value_in (sight (put h3)).ground) z ∙ now in
      let same : r.reference ≡ took q (next_word q.word) = cc in
      let no : true ≡ false = sym its_mark ∙ ap (λ (b : MutRef). b.dirty) same in
      absurd cc) in
      let before : value_in (sight (put h)).ground r.at ≡ Some (value.Mut r.reference) = sym (reworded.elsewhere r.at apart) ∙ stands in
      let r2 : Reference = record { at = r.at; holder = holder_of (sight (put h)).ground r.at r.reference.holder; reference = r.reference } in
      let among_2 : Among r2 (references (sight (put h)).ground (things_of (put h))) = reference_there (put h) r.at r.reference before in
      let fresh_2 : IsStale (sight (put h)) (Some r.at) → ⊥ = λ z. f (still_stale (put h) (put h3) l q.object (next_word q.word) reworded placed placed_3 r.at z) in
      let alone_2 = alone r2 among_2 its_mark fresh_2 in (
        λ same. ⊎_elim (λ (z : IsStale (sight (put h)) (Some l)). fresh_h z) (λ (z : is_held_at r.at (Some l) ≡ true). apart (sym (same_is l r.at z)))
            (alone_2.sole pointer (among_first pointer _ (taken_pointers (sight (put h)).code (sight (put h)).ground (sight (put h)).ground.threads) (told_standing (put h) l (value.Mut q) pointer there (inl refl))) (sym same)),
        (leaves.1).changed_back r2 among_2 fresh_2,
      )

  has_word : Worded k (put h3) q.object (next_word q.word) coherent.sound.words.have_words
  has_word = record {
    after = after.after;
    new = after.new;
    others = λ p f. after.others p f ∙ ((leaves.0).words words_k).same p;
    on = λ c m. subst (λ b. Among c b) (sym cells) ((leaves.1).on c m);
    back = λ c m. (leaves.1).back c (subst (λ b. Among c b) cells m);
    changed_on = stays;
    changed_back = stood_so;
  }

  -- THE COPY IS ASKED FOR

  asking_alike : HandAlike k.code n [] h3 (ask_copy (record { word = next_word q.word; object = q.object }) h3)
  asking_alike =
      asks_so k.code n h3 (subst (λ th. TakesNoneHere k.code th) (sym wrote.thread) (none_then k coherent few s here t y at on w i reading code free h known (d, a)))
      (act.Ask q.object (next_word q.word)) (server_of (next_word q.word)) (message.Fetch (next_word q.word) q.object h3.work.rest.number h3.thread.number) (phase.WaitCell (next_word q.word)) g3.number refl (λ p f z. z) (λ c m. refl)

  -- and so it is in the cluster with the hand put back
  pub asked_worded : (h2 : Hand) → Ok h2 → HandAlike k.code n [] (ask_copy (record { word = next_word q.word; object = q.object }) h3) h2 → Worded k (put h2) q.object (next_word q.word) coherent.sound.words.have_words
  asked_worded h2 g2 same =
      worded_on has_word (all_goes.seen (put h3) (put h2) placed_3 (places k coherent.sound s here t y at h2 g2) refl
      (puts_alike k coherent.sound s here t y at h3 h2 g3.number g3.thread (each_together (record {
        number = same.number ∙ asking_alike.number;
        named = same.named ∙ asking_alike.named;
        thread = chain asking_alike.thread same.thread;
        rest = chain asking_alike.rest same.rest;
      }))))
