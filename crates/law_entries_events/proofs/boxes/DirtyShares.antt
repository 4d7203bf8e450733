-- A shared borrow of a dirty reference in a slot, done: the reference gets another word first, the next colour or a new address, and then a shared one of that word is on top.
use Rattle.std.proofs.Common.{◌≡◌, ℕ, suc, ◌+◌, ◌==◌, ◌||◌, Bool, true, false, nat_lt, if◌then◌else◌, List, [], ◌∷◌, Option, Some, None, option_map, refl, sym, ap, ap₂, subst, ◌∙◌, arith}
use Rattle.std.specs.Prelude.{slice_get, slice_set, length}
use Rattle.law_entries_writes.specs.Below.law_entries_reads.Below.law_words_borrows.Below.fr_base.Lists.{is_in}
use Rattle.law_entries_writes.specs.Below.law_entries_reads.Below.law_words_borrows.Below.fr_base.Names.{same_object}
use Rattle.law_entries_writes.specs.Below.law_entries_reads.Below.law_words_borrows.Below.fr_base.declared.name.ObjNo.{ObjNo}
use Rattle.law_entries_writes.specs.Below.law_entries_reads.Below.law_words_borrows.Below.fr_base.declared.place.Lval.{Lval}
use Rattle.law_entries_writes.specs.Below.law_entries_reads.Below.law_words_borrows.Below.fr_base.declared.instruction.Instr.{Instr}
use Rattle.law_entries_writes.specs.Below.law_entries_reads.Below.law_words_borrows.Below.fr_base.declared.instruction.Instr.TheVariants as instr
use Rattle.law_entries_writes.specs.Below.law_entries_reads.Below.law_words_borrows.Below.fr_base.declared.step.Fresh.TheVariants as fresh
use Rattle.law_entries_writes.specs.Below.law_entries_reads.Below.law_words_borrows.Below.global_addr.Words.{colour_of, server_of, next_word}
use Rattle.law_entries_writes.specs.Below.law_entries_reads.Below.law_words_borrows.Below.mut_borrow.Refs.{cleaned_answer}
use Rattle.law_entries_writes.specs.Below.law_entries_reads.Below.law_words_borrows.Below.mut_borrow.declared.mutable.MutRef.{MutRef}
use Rattle.law_entries_writes.specs.Below.law_entries_reads.Below.law_words_borrows.Below.mut_borrow.declared.mutable.Cleaned.TheVariants as cleaned
use Rattle.law_entries_writes.specs.Below.law_entries_reads.Below.law_words_borrows.Below.mut_borrow.declared.shared.SharedRef.{SharedRef}
use Rattle.law_entries_writes.specs.Below.law_entries_reads.Below.law_words_borrows.Below.owner_box.View.{PartitionState}
use Rattle.law_entries_writes.specs.Below.law_entries_reads.Below.law_words_borrows.Below.thread_state.View.{ThreadState, is_over}
use Rattle.law_entries_writes.specs.Below.law_entries_reads.Below.law_words_borrows.Below.thread_state.declared.phase.Phase.TheVariants as phase
use Rattle.law_entries_writes.specs.Below.law_entries_reads.Below.law_words_borrows.Below.thread_state.declared.value.Value.{Value}
use Rattle.law_entries_writes.specs.Below.law_entries_reads.Below.law_words_borrows.Below.thread_state.declared.value.Value.TheVariants as value
use Rattle.law_entries_writes.specs.Below.law_entries_reads.Below.law_words_borrows.Below.journal.View.{EntryView}
use Rattle.law_entries_writes.specs.Below.law_entries_reads.Below.law_words_borrows.Below.journal.declared.act.Act.{Act}
use Rattle.law_entries_writes.specs.Below.law_entries_reads.Below.law_words_borrows.Below.journal.declared.act.Act.TheVariants as act
use Rattle.law_entries_writes.specs.Below.law_entries_reads.Below.law_words_borrows.Below.server_model.declared.event.What.TheVariants.{Step}
use Rattle.law_entries_writes.specs.Below.law_entries_reads.Below.law_words_borrows.Below.server_model.Servers.{Server, Cluster, server_at}
use Rattle.law_entries_writes.specs.Below.law_entries_reads.Below.law_words_borrows.Below.server_model.Work.{Hand, push_temp, thread_in, then_some}
use Rattle.law_entries_writes.specs.Below.law_entries_reads.Below.law_words_borrows.Below.server_model.NewWords.{NewWord, issue_tint, issue_renewal}
use Rattle.law_entries_writes.specs.Below.law_entries_reads.Below.law_words_borrows.Below.server_model.Places.{in_slot, took, with_word, put_slot, put_word}
use Rattle.law_entries_writes.specs.Below.law_entries_reads.Below.law_words_borrows.Below.server_model.Prepare.{requested, nothing, ready_at, ask_object, box_of, cleaned_by, clean_value}
use Rattle.law_entries_writes.specs.Below.law_entries_reads.Below.law_words_borrows.Below.server_model.Commit.{goes_on, shared_from, borrow_from, commit}
use Rattle.law_entries_writes.specs.Below.law_entries_reads.Below.law_words_borrows.Below.server_model.Events.{can_step, has_phase, enabled, begin_work, Stepped, committed, prepared, stepped}
use Rattle.law_entries_writes.specs.Below.law_entries_variables.Below.coloured_heap.Heap.{Coloured}
use Rattle.law_entries_writes.specs.Below.law_entries_reads.Below.law_words_borrows.Below.coherent_memory.Names.{tot, some}
use Rattle.law_entries_writes.specs.Below.law_entries_reads.Below.law_words_borrows.Below.coherent_memory.Things.{Location, at_slot, Thing, stands, things_of}
use Rattle.law_entries_writes.specs.Below.law_entries_reads.Below.law_words_borrows.Below.coherent_memory.Follow.{value_in, locate}
use Rattle.law_entries_writes.specs.Below.law_entries_reads.Below.law_words_borrows.Below.coherent_memory.Sight.{sight, issued}
use Rattle.law_entries_writes.specs.Below.law_entries_reads.Below.law_words_borrows.Below.coherent_memory.Words.{IsStale, HasWords}
use Rattle.law_entries_writes.specs.Below.law_entries_reads.Below.law_words_borrows.Below.coherent_memory.Colours.{StandsColoured}
use Rattle.law_entries_writes.specs.Below.law_entries_reads.Below.law_words_borrows.Below.coherent_memory.Coherent.{IsSound}
use Rattle.law_entries_writes.specs.Below.law_entries_reads.Below.law_words_borrows.Below.coherent_types.ClusterTypes.{IsCoherent}
use Rattle.law_entries_writes.specs.Below.law_entries_reads.Below.law_words_borrows.Below.law_counts_sums.Laws.{Gives, FewEvents}
use Rattle.law_entries_writes.specs.Below.law_entries_reads.Below.law_words_borrows.Below.law_words_paths.words.Reworded.{HasPlaces}
use Rattle.law_entries_writes.specs.Below.law_entries_reads.Below.law_words_borrows.Below.law_words_paths.words.Unmoved.{LeavesWords}
use Rattle.law_entries_writes.specs.Below.law_entries_reads.Below.law_words_borrows.Below.law_words_kept.reads.Reading.{Reads, LiesUnder, shares as shares_it}
use Rattle.law_entries_writes.proofs.Below.law_entries_variables.Below.coherent_memory.Words.{named, itself}
use Rattle.law_entries_writes.proofs.Below.law_entries_reads.Below.law_words_borrows.Below.law_counts_sums.Results.{weaker, both_give}
use Rattle.law_entries_writes.proofs.Below.law_entries_reads.Below.law_words_borrows.Below.law_counts_sums.GiftsTaken.{gift_fits}
use Rattle.law_entries_writes.proofs.Below.law_copies_kept.Below.law_words_paths.paths.Sole.{some_is}
use Rattle.law_entries_writes.proofs.Below.law_entries_reads.Below.law_words_borrows.Below.law_results_reads.Pointing.{its_partition}
use Rattle.law_entries_writes.proofs.Below.law_entries_reads.Below.law_words_borrows.Below.law_words_paths.words.OneMore.{one_more_stays}
use Rattle.law_entries_writes.proofs.Below.law_entries_reads.Below.law_words_borrows.Below.law_words_paths.words.Slots.{set_same}
use Rattle.law_entries_writes.proofs.Below.law_entries_reads.Below.law_words_borrows.Below.law_words_kept.stays.Alike.{chain, turned as turned_round}
use Rattle.law_entries_writes.proofs.Below.law_entries_reads.Below.law_words_borrows.Below.law_words_kept.stays.Sites.{HandAlike}
use Rattle.law_entries_writes.proofs.Below.law_entries_reads.Below.law_words_borrows.Below.law_words_kept.stays.Steps.{TakesNoneHere, shared_slot_unseen, untaken_here, hand_itself, pushes, goes_over}
use Rattle.law_entries_writes.proofs.Below.law_entries_reads.Below.law_words_borrows.Below.law_words_kept.prepared.Hands.{Ok, Walks, put, places, first_hand, cleans_at}
use Rattle.law_entries_writes.proofs.Below.law_entries_reads.Below.law_words_borrows.Below.law_words_kept.prepared.Untaken.{not_taken}
use Rattle.law_entries_writes.proofs.Below.law_entries_reads.Below.law_words_borrows.OneShare.{shared_pointer, share_more}
use Rattle.law_entries_writes.proofs.Below.law_entries_reads.Below.law_words_borrows.Pushed.{May, to_slot, to_object, may, coming, shared_on_top, hands_alike}
use Rattle.law_entries_writes.proofs.Below.law_entries_reads.Below.law_words_borrows.Renews.{Renewed, renewed_so}
use Rattle.law_entries_writes.proofs.Below.law_entries_reads.Below.law_words_borrows.Sources as sources
use Rattle.law_entries_writes.proofs.Below.law_copies_kept.copies.Clean.{Leaves, all_goes}
use Rattle.law_entries_writes.proofs.Below.law_copies_kept.references.Worded.{Worded}
use Rattle.law_entries_writes.proofs.Below.law_copies_kept.objects.SlotWords.{tint_ok, tint_worded, renew_ok, renew_worded}
use Rattle.law_entries_writes.proofs.Below.law_copies_kept.objects.Following as following
use Rattle.law_entries_writes.proofs.Below.law_entries_variables.Below.law_heap_still.events.Tests.{numbers}
use Rattle.law_entries_writes.proofs.Below.law_entries_variables.deliveries.Answers.{Answers, answers_of, Fits, fits, Allowed}
use Rattle.law_entries_writes.proofs.Below.law_entries_variables.deliveries.Weighed.{WorkTurns}
use Rattle.law_entries_writes.proofs.Below.law_entries_variables.deliveries.Live.{issued_by, issued_seen, issued_told}
use Rattle.law_entries_writes.proofs.Below.law_entries_variables.deliveries.After.{Follows}
use Rattle.law_entries_writes.proofs.Below.law_entries_variables.deliveries.Runs.{runs_one}
use Rattle.law_entries_writes.proofs.Below.law_entries_variables.deliveries.Applied.{server_there}
use Rattle.law_entries_writes.proofs.Below.law_entries_variables.still.PlainSteps.{lives}
use Rattle.law_entries_writes.proofs.Below.law_entries_reads.asks.Recoloured.{NewWords, given_words, recoloured, none_given, tint_allowed}
use Rattle.law_entries_writes.proofs.Below.law_entries_reads.asks.Frames.{SameFrames, marks_same}
use Rattle.law_entries_writes.proofs.Below.law_entries_reads.asks.KeptRest.{set_frames}
use Rattle.law_entries_writes.proofs.Below.law_entries_reads.asks.Agreeing.{Rewords}
use Rattle.law_entries_writes.proofs.Below.law_entries_reads.asks.Pointed.{Pointed, pointed, is_named, next_unissued, next_issued}
use Rattle.law_entries_writes.proofs.Below.law_entries_variables.variables.Turning.{Turning, begins, rethreaded, slots_alike, worked}
use Rattle.law_entries_writes.proofs.Below.law_entries_variables.variables.Led.{done_entry, done_leads, LedWith, Steps, goes_on_led}
use Rattle.law_entries_writes.proofs.Below.law_entries_variables.variables.InStep.{by_number}
use Rattle.law_entries_writes.proofs.Below.law_entries_variables.variables.Quiets.{names_none, running_here, it_runs}
use Rattle.law_entries_events.proofs.boxes.Reworded.{Moved, none_moves, agrees}
use Rattle.law_entries_events.proofs.boxes.Renewal as renewal
use Rattle.law_entries_events.proofs.boxes.Ended.{Outcome}

-- one object has another word
worded_so : (k c : Cluster) (before : HasWords (sight k)) (o : ObjNo) (w : ℕ) → Worded k c o w before → Rewords k c ((o, w) ∷ []) before
worded_so k c before o w u = record {
  after = u.after;
  word = λ x. by x (same_object x o) refl;
}
  where
    by : (x : ObjNo) (b : Bool) → same_object x o ≡ b → (u.after).word x ≡ (if b then w else before.word x)
    by x true e = ap (u.after).word (named x o e) ∙ u.new
    by x false e = u.others x (λ h. let t : true ≡ false = sym (itself x o h) ∙ e in absurd (cc t))

module _ (k : Cluster) (coherent : IsCoherent k) (few : FewEvents k) (s : Server) (here : server_at k.servers s.rest.number ≡ Some s) (t : ℕ) (y : ThreadState) (at : thread_in s.threads t ≡ Some y) (on : enabled k.options s (Step t) ≡ true)
    (w : Lval) (m : ℕ) (deep : w.depth ≡ suc m) (code : slice_get k.code y.pc ≡ Some (instr.Borrow w)) (c0 : Coloured) (is_coloured : StandsColoured k c0)
    (j : ℕ) (r : MutRef) (located : locate (sight k).ground y.number w.slot m ≡ Some (at_slot y.number j)) (stood : slice_get y.slots j ≡ Some (value.Mut r)) (there : value_in (sight k).ground (at_slot y.number j) ≡ Some (value.Mut r)) (dirty : r.dirty ≡ true) where
  abbrev sound : IsSound k
  sound = coherent.sound

  abbrev n : ℕ
  n = s.rest.number

  abbrev p : PartitionState
  p = s.rest.partition

  abbrev i : Instr
  i = instr.Borrow w

  abbrev reads : Reads i w m
  reads = shares_it deep

  abbrev first : Hand
  first = record { work = begin_work s.rest; thread = y }

  abbrev IsOk : Hand → Type 0
  IsOk = Ok k coherent s here t y at

  abbrev Put : Hand → Cluster
  Put = put k coherent s here t y at

  abbrev before : HasWords (sight k)
  before = sound.words.have_words

  abbrev l : Location
  l = at_slot y.number j

  abbrev Left : Stepped → Type 0
  Left = Outcome k coherent s here t y at c0 few i code

  -- THE THREAD

  live : is_over y.phase ≡ false
  live = lives y.phase (subst (λ x. has_phase can_step x ≡ true) at on)

  untouched : (v : ℕ) → y.phase ≡ phase.Taken v → ⊥
  untouched = not_taken k sound n s here t y at i code refl

  none : TakesNoneHere k.code y
  none = untaken_here y.number y.phase (slice_get k.code y.pc) untouched

  bare : y.gift ≡ None
  bare = (gift_fits k sound n s here t y at i code).0

  own : thread_in s.threads y.number ≡ Some y
  own = by_number s t y at

  walks : Walks k coherent s here t y at first
  walks = record { state = first_hand k coherent s here t y at; untaken = λ e. e; gift = refl }

  stay : Leaves k (Put first)
  stay = following.alike_leaves k coherent few s here t y at on w i m reads code untouched first walks.state.ok (hand_itself k.code n first)

  placed : (h : Hand) → IsOk h → HasPlaces (Put h)
  placed h q = places k coherent s here t y at h q

  -- THE REFERENCE

  awake : IsStale (sight k) (Some l) → ⊥
  awake = sources.fresh_there k coherent s here t y at on i code w m reads deep untouched l located

  under : LiesUnder k (box_of r)
  under = sources.under_there k coherent s here t y at on i code w m reads deep untouched l (value.Mut r) (box_of r) located there refl

  its : Pointed k coherent (box_of r)
  its = pointed k coherent y.number l (value.Mut r) (box_of r) there refl awake under

  -- with another word
  abbrev wordy : NewWord → Hand
  wordy nw = record { work = nw.work; thread = record y { slots = slice_set y.slots j (value.Mut (took r nw.word)) } }

  put_is : (nw : NewWord) (h : Hand) → put_word (in_slot j) nw first ≡ Some h → h ≡ wordy nw
  put_is nw h e = by (nat_lt j (length y.slots)) (subst (λ o. then_some o (λ v. then_some (with_word nw.word v) (λ new. put_slot j new (record first { work = nw.work }))) ≡ Some h) stood e)
    where
      by : (b : Bool) → (if b then Some (wordy nw) else None) ≡ Some h → h ≡ wordy nw
      by true f = sym (some_is f)
      by false f = absurd (cc f)

  -- it isn't dirty any more
  is_clean : (v : ℕ) (q : MutRef) → value.Mut (took r v) ≡ value.Mut q → q.dirty ≡ true → ⊥
  is_clean v q a d = let z : took r v ≡ q = cc in let no : false ≡ true = ap (λ (u : MutRef). u.dirty) z ∙ d in absurd cc

  -- FROM A NEW WORD ON

  module _ (nw : NewWord) (a : Act) (gone come : List Thing) (turn : WorkTurns (begin_work s.rest) gone come (a ∷ []) nw.work) (moved : Moved gone come) (ok : IsOk (wordy nw)) (worded : Worded k (Put (wordy nw)) r.object nw.word before)
      (allows : May (Put (wordy nw)) (value.Shared (record { word = nw.word; object = r.object; pinned = false }))) (allowed : (e : EntryView) → e.server ≡ n → Allowed k.options e c0 a (recoloured ((r.object, nw.word) ∷ []) (answers_of (sight k))))
      (issues : (c : Cluster) (z : ThreadState) → Follows k c (stands n false y ∷ gone) (stands n false z ∷ come) → (words : Rewords k c ((r.object, nw.word) ∷ []) before) → (v : ℕ) → is_in v (given_words ((r.object, nw.word) ∷ [])) || issued (sight k) v ≡ issued (sight c) v) where
    abbrev ls : NewWords
    ls = (r.object, nw.word) ∷ []

    abbrev new : Value
    new = value.Mut (took r nw.word)

    abbrev ref : SharedRef
    ref = record { word = nw.word; object = r.object; pinned = false }

    abbrev h3 : Hand
    h3 = wordy nw

    abbrev h4 : Hand
    h4 = push_temp (value.Shared ref) h3

    frames : SameFrames (slice_set y.slots j new) y.slots
    frames = set_frames y.slots j (value.Mut r) new stood refl

    -- its entry leads on
    steps : Steps (λ c. Rewords k c ls before) k s y c0 fresh.None false h4
    steps =
        let h1 : Hand = record first { work = nw.work } in
        let t1 : Turning s y gone come (a ∷ []) h1 = worked s y [] [] [] first (begins s y) nw.work gone come (a ∷ []) turn in
        let t2 : Turning s y gone come (a ∷ []) h3 = slots_alike s y gone come (a ∷ []) h1 t1 (slice_set y.slots j new) (λ f q. marks_same f q 0 y.number 0 (slice_set y.slots j new) y.slots frames) in
        let t3 : Turning s y gone come (a ∷ []) h4 = rethreaded s y gone come (a ∷ []) h3 t2 h4.thread refl refl in record {
          olds = gone;
          news = come;
          acts = a ∷ [];
          turned = t3;
          gift = bare;
          leads = λ c z named free live_then f words.
              let q0 : Answers = answers_of (sight k) in
              let all : Fits q0 c0 = fits (sight k) c0 is_coloured in
              let q1 : Answers = recoloured ls q0 in
              let e : EntryView = done_entry n y.number fresh.None (a ∷ []) h4.work.labels in
              done_leads k.options n y.number fresh.None (a ∷ []) h4.work.labels c0 q0 q1 q1 c t3.labels all (server_there k sound n s here).0 (running_here k sound n s here c0 is_coloured y own live) (it_runs k sound n s here c0 is_coloured y own live) (numbers.itself n)
              (runs_one k.options e a c0 q1 (allowed e refl)) (names_none n y.number (a ∷ []) h4.work.labels q1) (agrees k c sound n s here y own live bare c0 is_coloured z named free live_then gone come moved f ls words (issues c z f words));
        }

    -- words stay where such a reference is pushed
    pushed : (u : Value) → May (Put h3) u → Gives (λ (d : Stepped). IsOk d.hand → LeavesWords (Put h3) (Put d.hand)) (committed (goes_on (Some (push_temp u h3))))
    pushed _ (to_slot q) =
        weaker (λ (d : Stepped). HandAlike k.code n [] h3 d.hand) (λ (d : Stepped). IsOk d.hand → LeavesWords (Put h3) (Put d.hand)) (committed (goes_on (Some (push_temp (value.SharedSlot q) h3))))
        (goes_over k.code n h3 (Some (push_temp (value.SharedSlot q) h3)) (pushes k.code n h3 (value.SharedSlot q) (shared_slot_unseen q) none))
        (λ d al ok2. (all_goes.seen (Put h3) (Put d.hand) (placed h3 ok) (placed d.hand ok2) refl (turned_round (hands_alike k coherent s here t y at [] h3 d.hand ok ok2 al))).0)
    pushed _ (to_object q beside clean) =
        let h5 : Hand = push_temp (value.Shared q) h3 in
        let top = shared_on_top k.code n q h3 in
        weaker (λ (d : Stepped). HandAlike k.code n [] h5 d.hand) (λ (d : Stepped). IsOk d.hand → LeavesWords (Put h3) (Put d.hand)) (committed (goes_on (Some h5))) (goes_over k.code n h5 (Some h5) (record { alike = hand_itself k.code n h5; untaken = none }))
        (λ d al ok2.
        let over : HandAlike k.code n (coming top.location q) h3 d.hand = record { number = al.number ∙ top.alike.number; named = al.named ∙ top.alike.named; thread = chain top.alike.thread al.thread; rest = chain top.alike.rest al.rest } in
        one_more_stays (Put h3) (Put d.hand) (shared_pointer q) (placed h3 ok) (placed d.hand ok2)
        (share_more (Put h3) (Put d.hand) (placed h3 ok) (placed d.hand ok2) refl top.location (record q { pinned = false }) (hands_alike k coherent s here t y at (coming top.location q) h3 d.hand ok ok2 over) beside clean))

    -- the reference is made
    made : Gives Left (committed (goes_on (Some h4)))
    made =
        both_give (λ (d : Stepped). LedWith (λ c. Rewords k c ls before) k s c0 (stepped s d)) (λ (d : Stepped). IsOk d.hand → LeavesWords (Put h3) (Put d.hand)) Left (committed (goes_on (Some h4)))
        (goes_on_led (λ c. Rewords k c ls before) k s y own c0 fresh.None (Some h4) steps) (pushed (value.Shared ref) allows)
        (λ d led leaves done ok2. record {
          words = ls;
          left = (let u = worded_so k (Put h3) before r.object nw.word worded in let x = (leaves ok2).words u.after in record { after = x.after; word = λ o. x.same o ∙ u.word o });
          leads = led;
        })

    borrowed : (servers : ℕ) → Gives Left (committed (commit servers i (in_slot j) h3))
    borrowed servers =
        subst (λ d. Gives Left (committed (goes_on (borrow_from w d (in_slot j) h3)))) (sym deep)
        (subst (λ o. Gives Left (committed (goes_on (then_some o (λ v. option_map (λ u. push_temp u h3) (shared_from v)))))) (sym (set_same y.slots j (value.Mut r) new stood)) made)

  -- THE NEXT COLOUR

  limit_is : p.limit ≡ k.options.colours
  limit_is = (its_partition k sound n s here).1

  tints : (servers : ℕ) → nat_lt (colour_of r.word + 1) p.limit ≡ true → (o : Option Hand) → put_word (in_slot j) (issue_tint (box_of r) first.work) first ≡ o → Gives Left (prepared servers i (ready_at (in_slot j) o))
  tints servers low None e = tt
  tints servers low (Some h) e =
      subst (λ x. Gives Left (committed (commit servers i (in_slot j) x))) (sym is)
      (borrowed nw (act.Tint r.object r.word (next_word r.word)) [] [] (record { number = refl; noted = refl; labels = refl; things = λ f q. refl }) none_moves ok (tint_worded k coherent few s here t y at first walks stay j r stood dirty awake under (wordy nw) puts)
      (may (Put (wordy nw)) (placed (wordy nw) ok) after.state.along.words l (λ b. awake (after.state.along.fresher l b)) (value.Mut (took r nw.word)) (value.Shared (record { word = nw.word; object = r.object; pinned = false }))
      (sources.it_stands k coherent s here t y at on i code w m reads deep j located (wordy nw) ok (value.Mut (took r nw.word)) (set_same y.slots j (value.Mut r) (value.Mut (took r nw.word)) stood)) (is_clean nw.word) refl)
      (λ entry same. tint_allowed k.options entry c0 (answers_of (sight k)) [] r.object r.word (none_given c0 (answers_of (sight k)) (fits (sight k) c0 is_coloured)) (is_named k coherent (box_of r) its) refl low_colour (next_unissued k coherent (box_of r) its)) issues servers)
    where
      nw : NewWord
      nw = issue_tint (box_of r) first.work

      is : h ≡ wordy nw
      is = put_is nw h e

      puts : put_word (in_slot j) nw first ≡ Some (wordy nw)
      puts = e ∙ ap (λ x. Some x) is

      ok : IsOk (wordy nw)
      ok = tint_ok k coherent few s here t y at first walks stay j r stood dirty awake under (wordy nw) puts

      after : Walks k coherent s here t y at (wordy nw)
      after = cleans_at k coherent s here t y at first (wordy nw) j r walks ok stood dirty awake under puts

      low_colour : nat_lt (colour_of (next_word r.word)) k.options.colours ≡ true
      low_colour = let one_more : colour_of (next_word r.word) ≡ colour_of r.word + 1 = omega arith in ap₂ (λ u v. nat_lt u v) one_more (sym limit_is) ∙ low

      issues : (c : Cluster) (z : ThreadState) → Follows k c (stands n false y ∷ []) (stands n false z ∷ []) → (words : Rewords k c ((r.object, nw.word) ∷ []) before) → (v : ℕ) → is_in v (given_words ((r.object, nw.word) ∷ [])) || issued (sight k) v ≡ issued (sight c) v
      issues c z f words v =
          next_issued k coherent (box_of r) its words.after.word words.word v
          ∙ sym (issued_told c words.after v ∙ ap (λ o. some (tot (issued_by words.after.word o.colours v) (things_of c))) f.options ∙ ap some (omega (arith, f.things (issued_by words.after.word k.options.colours v) (issued_seen words.after.word k.options.colours v))))

  -- A NEW ADDRESS

  renews : (servers : ℕ) → (server_of r.word == n) ≡ true → (nw : NewWord) → issue_renewal (box_of r) first.work ≡ Some nw → (o : Option Hand) → put_word (in_slot j) nw first ≡ o → Gives Left (prepared servers i (ready_at (in_slot j) o))
  renews servers mine nw given None e = tt
  renews servers mine nw given (Some h) e =
      subst (λ x. Gives Left (committed (commit servers i (in_slot j) x))) (sym is)
      (borrowed nw (act.Renew r.object r.word nw.word) (renewal.gone k coherent few s here (box_of r) its mine nw given) (renewal.come k coherent few s here (box_of r) its mine nw given) (renewal.turns k coherent few s here (box_of r) its mine nw given)
      (renewal.moved k coherent few s here (box_of r) its mine nw given) ok (renew_worded k coherent few s here t y at first walks stay j r stood dirty awake under nw (wordy nw) refl mine given puts)
      (may (Put (wordy nw)) (placed (wordy nw) ok) it.words l it.fresh (value.Mut (took r nw.word)) (value.Shared (record { word = nw.word; object = r.object; pinned = false })) it.now (is_clean nw.word) refl)
      (renewal.allowed k coherent few s here (box_of r) its mine nw given c0 is_coloured) (λ c z f words. renewal.one_more k coherent few s here (box_of r) its mine nw given (stands n false y) (stands n false z) c f (λ q u v. refl) words) servers)
    where
      is : h ≡ wordy nw
      is = put_is nw h e

      puts : put_word (in_slot j) nw first ≡ Some (wordy nw)
      puts = e ∙ ap (λ x. Some x) is

      ok : IsOk (wordy nw)
      ok = renew_ok k coherent few s here t y at first walks stay j r stood dirty awake under nw (wordy nw) refl mine given puts

      it : Renewed k coherent few s here t y at first (wordy nw) l r nw.word
      it = renewed_so k coherent few s here t y at first (wordy nw) j r nw walks ok refl stood dirty awake under mine given puts

  renewals : (servers : ℕ) → (server_of r.word == n) ≡ true → (o : Option NewWord) → issue_renewal (box_of r) first.work ≡ o → Gives Left (prepared servers i (ready_at (in_slot j) (then_some o (λ nw. put_word (in_slot j) nw first))))
  renewals servers mine None e = tt
  renewals servers mine (Some nw) e = renews servers mine nw e (put_word (in_slot j) nw first) refl

  -- THE STEP FROM THERE

  last : (servers : ℕ) (b : Bool) → (server_of r.word == n) ≡ b → Gives Left (prepared servers i (if b then ready_at (in_slot j) (then_some (issue_renewal (box_of r) first.work) (λ nw. put_word (in_slot j) nw first)) else requested (ask_object (box_of r) first)))
  last servers true e = renewals servers e (issue_renewal (box_of r) first.work) refl
  last servers false e = λ done. absurd (cc done)

  by_colour : (servers : ℕ) (b : Bool) → nat_lt (colour_of r.word + 1) p.limit ≡ b → Gives Left (prepared servers i (cleaned_by (if b then cleaned.Tinted (next_word r.word) else cleaned.MustRenew) (in_slot j) r first))
  by_colour servers true e = tints servers e (put_word (in_slot j) (issue_tint (box_of r) first.work) first) refl
  by_colour servers false e = last servers (server_of r.word == n) refl

  pub cleaned_ends : (servers : ℕ) → Gives Left (prepared servers i (clean_value (in_slot j) (slice_get y.slots j) first))
  cleaned_ends servers = subst (λ o. Gives Left (prepared servers i (clean_value (in_slot j) o first))) (sym stood) (by (nat_lt (colour_of r.word) p.limit))
    where
      by : (b : Bool) → Gives Left (prepared servers i (if b then cleaned_by (cleaned_answer p.limit r) (in_slot j) r first else nothing))
      by true =
          subst (λ d. Gives Left (prepared servers i (cleaned_by (if d then (if nat_lt (colour_of r.word + 1) p.limit then cleaned.Tinted (next_word r.word) else cleaned.MustRenew) else cleaned.Same) (in_slot j) r first))) (sym dirty)
          (by_colour servers (nat_lt (colour_of r.word + 1) p.limit) refl)
      by false = tt
