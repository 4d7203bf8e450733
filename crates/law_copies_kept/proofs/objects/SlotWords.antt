-- A dirty reference in a slot that isn't stale gets the next colour, or at the last colour a new address: its object has a word then that wasn't issued, and isn't changed through it any more.
use Rattle.std.proofs.Common.{◌≡◌, inl, ⊎_elim, ℕ, ◌+◌, ◌==◌, ◌&&◌, nat_lt, Bool, true, false, if◌then◌else◌, ◌∷◌, ◌++◌, Some, None, refl, sym, ap, ap₂, subst, ◌∙◌, arith}
use Rattle.std.specs.Prelude.{slice_get, length}
use Rattle.std.proofs.lemmas.Bool.Decides.{nat_tests}
use Rattle.law_copies_kept.specs.Below.global_addr.Words.{word_of, colour_of, server_of, address_of, next_word}
use Rattle.law_copies_kept.specs.Below.heap_partition.declared.value.Cell.{Cell}
use Rattle.law_copies_kept.specs.Below.colour_retire.Colours.{picked}
use Rattle.law_copies_kept.specs.Below.owner_box.View.{PartitionState}
use Rattle.law_copies_kept.specs.Below.owner_box.Partition.{next_place, freed, renewed, new_word}
use Rattle.law_copies_kept.specs.Below.mut_borrow.declared.mutable.MutRef.{MutRef}
use Rattle.law_copies_kept.specs.Below.journal.declared.act.Act.TheVariants as act
use Rattle.law_copies_kept.specs.Below.thread_state.View.{ThreadState}
use Rattle.law_copies_kept.specs.Below.thread_state.declared.value.Value.TheVariants as value
use Rattle.law_copies_kept.specs.Below.server_model.Servers.{Server, Cluster, server_at}
use Rattle.law_copies_kept.specs.Below.server_model.Work.{Hand, leads_here, note, with_partition, thread_in, without_thread}
use Rattle.law_copies_kept.specs.Below.server_model.NewWords.{NewWord, can_grow, is_last, issue_tint, issue_renewal}
use Rattle.law_copies_kept.specs.Below.server_model.Places.{in_slot, took, put_word}
use Rattle.law_copies_kept.specs.Below.server_model.Prepare.{box_of}
use Rattle.law_copies_kept.specs.Below.coherent_memory.Names.{Among}
use Rattle.law_copies_kept.specs.Below.coherent_memory.Things.{Location, at_slot, lies, servers_things, things_of}
use Rattle.law_copies_kept.specs.Below.coherent_memory.Follow.{cells_in, value_in}
use Rattle.law_copies_kept.specs.Below.coherent_memory.Stale.{holder_of}
use Rattle.law_copies_kept.specs.Below.coherent_memory.Sight.{pointers_in, taken_pointers, is_object_among, sight, issued}
use Rattle.law_copies_kept.specs.Below.coherent_memory.Words.{IsStale, HasWords, LeadsTo}
use Rattle.law_copies_kept.proofs.Below.coherent_memory.Names.{and_left, and_right}
use Rattle.law_copies_kept.specs.Below.coherent_types.ClusterTypes.{IsCoherent}
use Rattle.law_copies_kept.proofs.Below.law_words_paths.paths.Origins.{among_first}
use Rattle.law_copies_kept.proofs.Below.law_words_paths.paths.Contained.{reference_there}
use Rattle.law_words_borrows.specs.Below.law_words_paths.words.Reworded.{HasPlaces, LiesThere, Reworded}
use Rattle.law_words_borrows.specs.Below.law_words_paths.words.PutBack.{LeadsHome}
use Rattle.law_words_borrows.proofs.Below.law_words_paths.words.Standing.{lying, told}
use Rattle.law_words_borrows.proofs.Below.law_words_paths.words.Grounds.{of_borrows}
use Rattle.law_words_borrows.proofs.Below.law_words_paths.words.Slots.{set_same}
use Rattle.law_words_borrows.proofs.Below.law_words_paths.words.Tints.{SlotPut, slot_put, slot_stands, tint_rewords}
use Rattle.law_words_borrows.proofs.Below.law_words_paths.words.NewWord.{is_new}
use Rattle.law_words_borrows.proofs.Below.law_words_paths.words.Past.{first_issued}
use Rattle.law_copies_kept.specs.Below.law_counts_sums.Laws.{FewEvents}
use Rattle.law_copies_kept.proofs.Below.law_counts_sums.Results.{given_by}
use Rattle.law_copies_kept.proofs.Below.law_counts_sums.RulesKeep.{sums_kept}
use Rattle.law_copies_kept.proofs.Below.law_counts_sums.Bags.{all_standing}
use Rattle.law_copies_kept.proofs.Below.law_counts_sums.Events.{others_of}
use Rattle.law_copies_kept.proofs.Below.law_counts_sums.Objects.{length_set}
use Rattle.law_copies_kept.proofs.Below.law_counts_sums.NewWords.{puts_word, hand_renews}
use Rattle.law_words_borrows.specs.Below.law_words_kept.reads.Reading.{LiesUnder}
use Rattle.law_words_borrows.proofs.Below.law_words_kept.reads.Lookups.{one_state}
use Rattle.law_words_borrows.proofs.Below.law_words_kept.prepared.Hands.{Ok, put, places, stands, Walks}
use Rattle.law_words_borrows.proofs.Below.law_words_values.made.Servers.{NextWord, next_word_is}
use Rattle.law_words_borrows.proofs.Renews.{renewed_so}
use Rattle.law_copies_kept.proofs.copies.Clean.{Leaves, thing_cell}
use Rattle.law_copies_kept.proofs.references.Worded.{Worded, dirty_found}
use Rattle.law_copies_kept.proofs.objects.Cleaned.{cleaned}

-- what a test gives was tested
issued_so : (b : Bool) (x w : NewWord) → (if b then Some x else None) ≡ Some w → (b ≡ true) × (x ≡ w)
issued_so true x w e = (refl, cc)
issued_so false x w e = absurd cc

-- what is equal isn't less
not_less : (a b : ℕ) → (a == b) ≡ true → nat_lt a b ≡ false
not_less a b e = by (nat_lt a b) refl
  where
    by : (c : Bool) → nat_lt a b ≡ c → c ≡ false
    by true q = absurd (grind (arith, nat_tests, e, q))
    by false q = refl

module _ (k : Cluster) (coherent : IsCoherent k) (few : FewEvents k) (s : Server) (here : server_at k.servers s.rest.number ≡ Some s) (t : ℕ) (y : ThreadState) (at : thread_in s.threads t ≡ Some y)
    (h : Hand) (walks : Walks k coherent s here t y at h) (stay : Leaves k (put k coherent s here t y at h)) (j : ℕ) (q : MutRef) (e : slice_get h.thread.slots j ≡ Some (value.Mut q)) (dirty : q.dirty ≡ true)
    (awake : IsStale (sight k) (Some (at_slot h.thread.number j)) → ⊥) (under : LiesUnder k (box_of q)) where
  abbrev n : ℕ
  n = s.rest.number

  abbrev IsOk : Hand → Type 0
  IsOk = Ok k coherent s here t y at

  abbrev Put : Hand → Cluster
  Put = put k coherent s here t y at

  abbrev before : HasWords (sight k)
  before = coherent.sound.words.have_words

  abbrev l : Location
  l = at_slot h.thread.number j

  g : IsOk h
  g = walks.state.ok

  placed : HasPlaces (Put h)
  placed = places k coherent s here t y at h g

  -- BEFORE IT

  there : value_in (sight (Put h)).ground l ≡ Some (value.Mut q)
  there = slot_stands k n s.threads (s.events + 1) h j (value.Mut q) (stands k coherent s here t y at h g) placed e

  was : value_in (sight k).ground l ≡ Some (value.Mut q)
  was = walks.state.along.dirty_was l q there dirty

  awake_h : IsStale (sight (Put h)) (Some l) → ⊥
  awake_h z = awake (walks.state.along.fresher l z)

  word_in : (c : Cluster) (b : HasWords (sight c)) → value_in (sight c).ground l ≡ Some (value.Mut q) → (IsStale (sight c) (Some l) → ⊥) → q.word ≡ b.word q.object
  word_in c b f z =
      ⊎_elim (λ (p : IsStale (sight c) (Some l)). absurd (z p)) (λ (p : q.word ≡ b.word q.object). p)
      (b.same (record { at = Some l; word = q.word; object = q.object })
      (among_first (record { at = Some l; word = q.word; object = q.object }) (pointers_in (things_of c)) (taken_pointers (sight c).code (sight c).ground (sight c).ground.threads) (told c l (value.Mut q) (record { at = Some l; word = q.word; object = q.object }) f (inl refl))))

  -- the object's cell is there
  pub its_cell : (c : Cell) × Among c (cells_in (things_of k)) × (c.object ≡ q.object)
  its_cell = let p = under.there in (p.cell, thing_cell (things_of k) p.cell (lies under.server under.address p.cell) (lying under.server under.address) p.among, p.object)

  first_known : issued (sight k) q.first ≡ true
  first_known =
      first_issued k coherent.sound.words.are_issued l q (of_borrows (sight k).ground (record { at = l; holder = holder_of (sight k).ground l q.holder; reference = q }) (things_of k) (reference_there k l q was)).among

  not_first : (w : ℕ) → issued (sight k) w ≡ false → (r : MutRef) → value.Mut q ≡ value.Mut r → w ≡ r.first → ⊥
  not_first w new r f z =
      let same : q ≡ r = cc in
      let no : true ≡ false = sym first_known ∙ ap (issued (sight k)) (ap (λ (b : MutRef). b.first) same ∙ sym z) ∙ new in
      absurd cc

  -- THE NEXT COLOUR

  -- that word is a new one
  pub next_is_new : issued (sight k) (next_word q.word) ≡ false
  next_is_new = ap (λ v. issued (sight k) (next_word v)) (word_in k before was awake) ∙ is_new k before (one_state k coherent.sound) under.server under.address q.object under.there

  module _ (h3 : Hand) (worded : put_word (in_slot j) (issue_tint (box_of q) h.work) h ≡ Some h3) where
    pub tint_ok : IsOk h3
    tint_ok =
        given_by IsOk (put_word (in_slot j) (issue_tint (box_of q) h.work) h) h3
        (puts_word sums_kept n s.events t (all_standing n (without_thread s.threads t) ++ servers_things (others_of k.servers n)) (in_slot j) (issue_tint (box_of q) h.work) h (record { number = g.number; thread = g.thread; bag = g.bag })) worded

    placed_3 : HasPlaces (Put h3)
    placed_3 = places k coherent s here t y at h3 tint_ok

    lies_now : LiesThere (Put h) under.server under.address q.object
    lies_now = walks.state.along.lies_on under.server under.address q.object under.there

    words_h : HasWords (sight (Put h))
    words_h = walks.state.along.words.has_words

    home : LeadsHome (Put h) (box_of q)
    home = record { server = under.server; address = under.address; lying = lies_now; leads = λ r b c m f. subst (λ v. LeadsTo r b v) (ap words_h.word f ∙ sym (word_in (Put h) words_h there awake_h)) (words_h.home r b c m) }

    pub tint_wrote : SlotPut h h3 j (next_word q.word) (value.Mut q)
    tint_wrote = slot_put h h3 j (value.Mut q) (box_of q) e worded

    reworded : Reworded (Put h) (Put h3) l q.object (next_word q.word)
    reworded = tint_rewords k n s.threads (s.events + 1) h h3 j (value.Mut q) (box_of q) (stands k coherent s here t y at h g) e refl worded placed placed_3 home (not_first (next_word q.word) next_is_new)

    same_number : h3.thread.number ≡ h.thread.number
    same_number = ap (λ (th : ThreadState). th.number) tint_wrote.thread

    pub tint_slot : slice_get h3.thread.slots j ≡ Some (value.Mut (took q (next_word q.word)))
    tint_slot = ap (λ (th : ThreadState). slice_get th.slots j) tint_wrote.thread ∙ set_same h.thread.slots j (value.Mut q) tint_wrote.new e ∙ sym tint_wrote.worded

    now : value_in (sight (Put h3)).ground l ≡ Some (value.Mut (took q (next_word q.word)))
    now =
        ap (λ m. value_in (sight (Put h3)).ground (at_slot m j)) (sym same_number)
        ∙ slot_stands k n s.threads (s.events + 1) h3 j (value.Mut (took q (next_word q.word))) (stands k coherent s here t y at h3 tint_ok) placed_3 tint_slot

    pub tint_worded : Worded k (Put h3) q.object (next_word q.word) before
    tint_worded = cleaned k (Put h) (Put h3) coherent.sound placed placed_3 stay l q (next_word q.word) there dirty awake_h reworded now

  -- the object was changed through it
  pub was_dirty : is_object_among q.object (sight k).dirty ≡ true
  was_dirty = dirty_found k q q.object (record { reference = record { at = l; holder = holder_of (sight k).ground l q.holder; reference = q }; among = reference_there k l q was; same = refl; fresh = awake }) refl dirty

  -- A NEW ADDRESS

  module _ (nw : NewWord) (h3 : Hand) (part : h.work.rest.partition ≡ s.rest.partition) (mine : (server_of q.word == h.work.rest.number) ≡ true) (issues : issue_renewal (box_of q) h.work ≡ Some nw) (puts : put_word (in_slot j) nw h ≡ Some h3) where
    abbrev p : PartitionState
    p = s.rest.partition

    abbrev r : PartitionState
    r = h.work.rest.partition

    tested : ((leads_here r q.word && (is_last r q.word && can_grow r)) ≡ true) × (record { word = new_word (freed r q.word); work = note (act.Renew q.object q.word (new_word (freed r q.word))) (with_partition (renewed r q.word) h.work) } ≡ nw)
    tested = issued_so (leads_here r q.word && (is_last r q.word && can_grow r)) _ nw issues

    -- nothing was sent
    pub renewed_rest : nw.work.rest ≡ record h.work.rest { partition = renewed r q.word }
    renewed_rest = ap (λ (x : NewWord). x.work.rest) (sym tested.1)

    last : (colour_of q.word + 1 == r.limit) ≡ true
    last = and_left (is_last r q.word) (can_grow r) (and_right (leads_here r q.word) (is_last r q.word && can_grow r) tested.0)

    grows : can_grow r ≡ true
    grows = and_right (is_last r q.word) (can_grow r) (and_right (leads_here r q.word) (is_last r q.word && can_grow r) tested.0)

    same_free : (freed r q.word).free ≡ r.free
    same_free = ap (λ b. if b then (address_of q.word, colour_of q.word + 1) ∷ r.free else r.free) (not_less (colour_of q.word + 1) r.limit last)

    same_next : next_place (freed r q.word) ≡ picked p.free (length p.cells)
    same_next = ap₂ picked same_free (length_set r.cells (address_of q.word) None) ∙ ap (λ (x : PartitionState). picked x.free (length x.cells)) part

    word_is : nw.word ≡ new_word p
    word_is =
        ap (λ (x : NewWord). x.word) (sym tested.1) ∙ ap (λ (x : ℕ × ℕ). word_of x.1 r.server x.0) same_next ∙ ap (λ (x : PartitionState). word_of (picked p.free (length p.cells)).1 x.server (picked p.free (length p.cells)).0) part

    next : NextWord k s
    next = next_word_is k coherent.sound s here few (ap can_grow (sym part) ∙ grows)

    pub renewed_is_new : issued (sight k) nw.word ≡ false
    renewed_is_new = ap (issued (sight k)) word_is ∙ next.fresh

    pub renew_ok : IsOk h3
    renew_ok =
        let b = all_standing n (without_thread s.threads t) ++ servers_things (others_of k.servers n) in
        let gm : IsOk (record h { work = nw.work }) = given_by (λ (u : NewWord). IsOk (record h { work = u.work })) (issue_renewal (box_of q) h.work) nw (hand_renews sums_kept n s.events t b (box_of q) h g) issues in
        given_by IsOk (put_word (in_slot j) nw h) h3 (puts_word sums_kept n s.events t b (in_slot j) nw h gm) puts

    pub renew_worded : Worded k (Put h3) q.object nw.word before
    renew_worded =
        let it = renewed_so k coherent few s here t y at h h3 j q nw walks renew_ok part e dirty awake under mine issues puts in
        cleaned k (Put h) (Put h3) coherent.sound placed (places k coherent s here t y at h3 renew_ok) stay l q nw.word there dirty awake_h it.reworded it.now
