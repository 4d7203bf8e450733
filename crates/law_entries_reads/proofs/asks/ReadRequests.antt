-- A step that reads the pointers of its place, and asks for a copy or an object: its entry leads on.
use Rattle.std.proofs.Common.{◌≡◌, ℕ, ◌+◌, ◌<◌, ◌≤◌, ◌==◌, ◌&&◌, nat_lt, Bool, true, false, if◌then◌else◌, List, [], ◌∷◌, ◌++◌, Some, None, is_some, refl, sym, ap, ap₂, subst, ◌∙◌, arith, append_assoc}
use Rattle.std.specs.Bool.{⊤}
use Rattle.std.specs.Prelude.{slice_get, map, length}
use Rattle.law_entries_reads.specs.Below.law_copies_kept.Below.fr_base.Names.{same_object}
use Rattle.law_entries_reads.specs.Below.law_copies_kept.Below.fr_base.declared.name.ObjNo.{ObjNo}
use Rattle.law_entries_reads.specs.Below.law_copies_kept.Below.fr_base.declared.place.Lval.{Lval}
use Rattle.law_entries_reads.specs.Below.law_copies_kept.Below.fr_base.declared.instruction.Instr.{Instr}
use Rattle.law_entries_reads.specs.Below.law_copies_kept.Below.fr_base.declared.instruction.Instr.TheVariants as instr
use Rattle.law_entries_reads.specs.Below.law_copies_kept.Below.fr_base.declared.instruction.Operand.{Operand}
use Rattle.law_copies_kept.specs.Below.fr_code.CodeTypes.{Entry, Table, InstrTypes, i_copy, i_dup, i_lock, i_borrow, i_borrow_mut}
use Rattle.law_entries_reads.specs.Below.law_copies_kept.Below.global_addr.Words.{colour_of, server_of, next_word}
use Rattle.law_entries_reads.specs.Below.law_copies_kept.Below.heap_partition.declared.value.BoxPtr.{BoxPtr}
use Rattle.law_entries_reads.specs.Below.law_copies_kept.Below.owner_box.View.{PartitionState}
use Rattle.law_entries_reads.specs.Below.law_copies_kept.Below.mut_borrow.declared.mutable.MutRef.{MutRef}
use Rattle.law_entries_reads.specs.Below.law_copies_kept.Below.read_cache.Cache.{is_cached}
use Rattle.law_entries_reads.specs.Below.law_copies_kept.Below.thread_state.View.{ThreadState, is_over}
use Rattle.law_entries_reads.specs.Below.law_copies_kept.Below.thread_state.declared.phase.Phase.TheVariants as phase
use Rattle.law_entries_reads.specs.Below.law_copies_kept.Below.thread_state.declared.value.Value.TheVariants as value
use Rattle.law_entries_reads.specs.Below.law_copies_kept.Below.server_msgs.declared.message.Message.{Message}
use Rattle.law_entries_reads.specs.Below.law_copies_kept.Below.server_msgs.declared.message.Message.TheVariants as message
use Rattle.law_entries_reads.specs.Below.law_copies_kept.Below.journal.declared.act.Act.{Act}
use Rattle.law_entries_reads.specs.Below.law_copies_kept.Below.journal.declared.act.Act.TheVariants as act
use Rattle.law_entries_reads.specs.Below.law_copies_kept.Below.server_model.declared.event.What.TheVariants.{Step}
use Rattle.law_entries_reads.specs.Below.law_copies_kept.Below.server_model.Servers.{Rest, Server, Cluster, server_at}
use Rattle.law_entries_reads.specs.Below.law_copies_kept.Below.server_model.Work.{Hand, thread_in, without_thread, without_hops}
use Rattle.law_entries_reads.specs.Below.law_copies_kept.Below.server_model.NewWords.{issue_tint}
use Rattle.law_entries_reads.specs.Below.law_copies_kept.Below.server_model.Places.{in_slot, took, with_word, put_word}
use Rattle.law_entries_reads.specs.Below.law_copies_kept.Below.server_model.Prepare.{Prepared, ready, requested, nothing, ReadTo, box_of, ask_copy, ask_object, prepare, read_stars}
use Rattle.law_entries_reads.specs.Below.law_copies_kept.Below.server_model.Events.{can_step, has_phase, enabled, begin_work, wait_step, stepped}
use Rattle.law_entries_reads.specs.Below.law_entries_variables.Below.coloured_heap.Heap.{Coloured, Wish, ForCopy, ForObject}
use Rattle.law_entries_reads.specs.Below.law_copies_kept.Below.coherent_memory.Names.{tot, one, some}
use Rattle.law_entries_reads.specs.Below.law_copies_kept.Below.coherent_memory.Things.{Location, Thing, lies, at_slot, servers_things, things_of}
use Rattle.law_entries_reads.specs.Below.law_copies_kept.Below.coherent_memory.Follow.{Standing, locate, value_in}
use Rattle.law_entries_reads.specs.Below.law_copies_kept.Below.coherent_memory.Sight.{is_spot, colour_up_to, sight, issued}
use Rattle.law_entries_reads.specs.Below.law_copies_kept.Below.coherent_memory.Words.{IsStale, HasWords}
use Rattle.law_entries_reads.specs.Below.law_copies_kept.Below.coherent_memory.Colours.{copy_of, StandsColoured}
use Rattle.law_entries_reads.proofs.Below.law_copies_kept.Below.coherent_memory.Words.{named, itself}
use Rattle.law_entries_reads.specs.Below.law_copies_kept.Below.coherent_types.ClusterTypes.{IsCoherent}
use Rattle.law_entries_reads.proofs.Below.law_copies_kept.Below.law_words_paths.paths.Sole.{some_is}
use Rattle.law_entries_reads.proofs.Below.law_copies_kept.Below.law_words_paths.words.Tints.{SlotPut}
use Rattle.law_copies_kept.specs.Below.law_words_kept.reads.Reading.{MayRead, Reads, copies, shares, lends, dups, locks, LiesUnder}
use Rattle.law_copies_kept.proofs.Below.law_words_kept.reads.ReadPlaces.{may_read_so}
use Rattle.law_copies_kept.proofs.Below.law_words_kept.reads.FreshReads.{read_are_fresh}
use Rattle.law_copies_kept.proofs.Below.law_words_kept.reads.Homes.{read_lie_there}
use Rattle.law_entries_reads.specs.Below.law_copies_kept.Below.law_counts_sums.Laws.{Gives, FewEvents}
use Rattle.law_entries_reads.proofs.Below.law_copies_kept.Below.law_counts_sums.Results.{then_gives, test_gives, given_by}
use Rattle.law_entries_reads.proofs.Below.law_copies_kept.Below.law_counts_sums.RulesKeep.{sums_kept}
use Rattle.law_entries_reads.proofs.Below.law_copies_kept.Below.law_counts_sums.Bags.{all_standing, rest_things, sent_number}
use Rattle.law_entries_reads.proofs.Below.law_copies_kept.Below.law_counts_sums.Events.{others_of}
use Rattle.law_entries_reads.proofs.Below.law_copies_kept.Below.law_counts_sums.Prepares.{PreparedOk, prepares}
use Rattle.law_entries_reads.proofs.Below.law_copies_kept.Below.law_counts_things.things.Small.{Made}
use Rattle.law_entries_reads.proofs.Below.law_copies_kept.Below.law_results_reads.Known.{Steps, standing, paths, goes, entry, typed, types}
use Rattle.law_entries_reads.proofs.Below.law_copies_kept.Below.law_results_reads.Followed.{Place}
use Rattle.law_entries_reads.proofs.Below.law_copies_kept.Below.law_results_reads.Reading.{Reading, cached_hit}
use Rattle.law_entries_reads.proofs.Below.law_copies_kept.Below.law_results_reads.Starred.{bound}
use Rattle.law_entries_reads.proofs.Below.law_copies_kept.Below.law_results_reads.Readers.{IsFree, to_entry}
use Rattle.law_entries_reads.proofs.Below.law_copies_kept.Below.law_results_reads.Pointing.{its_partition}
use Rattle.law_entries_reads.proofs.Below.law_copies_kept.Below.law_words_kept.stays.Sites.{HandAlike}
use Rattle.law_entries_reads.proofs.Below.law_copies_kept.Below.law_words_kept.stays.Steps.{TakesNoneHere}
use Rattle.law_copies_kept.proofs.Below.law_words_kept.prepared.Hands.{Walks, calm_goes, calm_waits}
use Rattle.law_entries_reads.proofs.Below.law_copies_kept.Below.law_words_values.carried.Hands.{places, first_ok, each_together, puts_alike}
use Rattle.law_entries_reads.proofs.Below.law_copies_kept.copies.Clean.{Leaves, all_goes}
use Rattle.law_entries_reads.proofs.Below.law_copies_kept.references.ReadHands.{IsCalm, calm_start, calm_ready}
use Rattle.law_entries_reads.proofs.Below.law_copies_kept.references.ReadAsks.{Followed, Known}
use Rattle.law_entries_reads.proofs.Below.law_copies_kept.references.ReadCommits.{asks_so}
use Rattle.law_entries_reads.proofs.Below.law_copies_kept.references.Worded.{Worded, worded_on}
use Rattle.law_entries_reads.proofs.Below.law_copies_kept.objects.Askers.{reads_within}
use Rattle.law_entries_reads.proofs.Below.law_copies_kept.objects.SlotWords.{tint_ok, tint_wrote, tint_worded}
use Rattle.law_entries_reads.proofs.Below.law_copies_kept.objects.Following as following
use Rattle.law_entries_reads.proofs.Below.law_entries_variables.deliveries.Answers.{Answers, answers_of, fits}
use Rattle.law_entries_reads.proofs.Below.law_entries_variables.deliveries.Weighed.{Seen}
use Rattle.law_entries_reads.proofs.Below.law_entries_variables.deliveries.Runs.{silent, runs_act, runs_one}
use Rattle.law_entries_reads.proofs.Below.law_entries_variables.deliveries.Live.{issued_by, issued_told}
use Rattle.law_entries_reads.proofs.Below.law_entries_variables.deliveries.Applied.{Afterwards}
use Rattle.law_entries_reads.proofs.Below.law_copies_kept.Below.law_heap_still.events.Told.{tot_same}
use Rattle.law_entries_reads.specs.Below.law_entries_variables.Below.law_heap_still.events.Shows.{frame_of}
use Rattle.law_entries_reads.proofs.asks.Recoloured.{recoloured, wishing, none_given, tint_allowed, ask_allowed, pull_allowed}
use Rattle.law_entries_reads.proofs.asks.Frames.{SameFrames}
use Rattle.law_entries_reads.proofs.asks.KeptRest.{Kept, kept_start, kept_ready, seen_as_was, unpinned_frames, set_frames}
use Rattle.law_entries_reads.proofs.asks.Uncached.{uncached}
use Rattle.law_entries_reads.proofs.asks.Agreeing.{Asks, a_copy, an_object, Rewords, issued_as}
use Rattle.law_entries_reads.proofs.asks.Requests.{Requested, sends_one, request_led, follows as followed_by}
use Rattle.law_entries_reads.proofs.asks.Pointed.{Pointed, pointed, is_named, is_renamed, away, next_unissued, next_issued}
use Rattle.law_entries_reads.proofs.asks.ReadWalk.{OnlyHops, noted_after, Wanted, for_copy, for_object, for_tinted, WantedSo, stars_want}
use Rattle.law_entries_reads.proofs.asks.Ending.{Ends, unwaited}

-- WHAT TYPING TELLS

ends_none : (w : Lval) (i : Instr) (m : ℕ) → Reads i w m → (o : Operand) → i ≡ instr.End o → ⊥
ends_none w _ m (copies q) o e = absurd cc
ends_none w _ m (shares q) o e = absurd cc
ends_none w _ m (lends q) o e = absurd cc
ends_none w _ m (dups q) o e = absurd cc
ends_none w _ m (locks q) o e = absurd cc

-- its place is short
short_place : (table : Table) (e e2 : Entry) (w : Lval) (i : Instr) (m : ℕ) → Reads i w m → InstrTypes table e i e2 → w.depth ≤ 8
short_place table _ _ w _ m (copies q) (i_copy waits has twice free) = has.short
short_place table _ _ w _ m (shares q) (i_borrow waits has free) = has.short
short_place table _ _ w _ m (lends q) (i_borrow_mut waits has unlent) = has.short
short_place table _ _ w _ m (dups q) (i_dup waits has free) = has.short
short_place table _ _ w _ m (locks q) (i_lock name waits has free new) = has.short

-- what a tint notes
tint_noted : (h h3 : Hand) (j : ℕ) (q : MutRef) → put_word (in_slot j) (issue_tint (box_of q) h.work) h ≡ Some h3 → h3.work.acts ≡ h.work.acts ++ act.Tint q.object q.word (next_word q.word) ∷ []
tint_noted h h3 j q e = given_by Noted (put_word (in_slot j) (issue_tint (box_of q) h.work) h) h3 all e
  where
    Noted : Hand → Type 0
    Noted u = u.work.acts ≡ h.work.acts ++ act.Tint q.object q.word (next_word q.word) ∷ []

    all : Gives Noted (put_word (in_slot j) (issue_tint (box_of q) h.work) h)
    all = then_gives Noted (slice_get h.thread.slots j) _ (λ v at. then_gives Noted (with_word (next_word q.word) v) _ (λ new worded. test_gives Noted (nat_lt j (length h.thread.slots)) _ (λ low. refl)))

-- words from before stay, or one object has another one
pub stay_reworded : (k c : Cluster) (before : HasWords (sight k)) → Leaves k c → Rewords k c [] before
stay_reworded k c before l = let w = (l.0).words before in record { after = w.after; word = w.same }

worded_so : (k c : Cluster) (before : HasWords (sight k)) (o : ObjNo) (w : ℕ) → Worded k c o w before → Rewords k c ((o, w) ∷ []) before
worded_so k c before o w u = record {
  after = u.after;
  word = λ x. by x (same_object x o) refl;
}
  where
    by : (x : ObjNo) (b : Bool) → same_object x o ≡ b → (u.after).word x ≡ (if b then w else before.word x)
    by x true e = ap (u.after).word (named x o e) ∙ u.new
    by x false e = u.others x (λ s. let t : true ≡ false = sym (itself x o s) ∙ e in absurd (cc t))

module _ (k : Cluster) (coherent : IsCoherent k) (few : FewEvents k) (s : Server) (here : server_at k.servers s.rest.number ≡ Some s) (t : ℕ) (y : ThreadState) (at : thread_in s.threads t ≡ Some y) (on : enabled k.options s (Step t) ≡ true)
    (w : Lval) (i : Instr) (most : ℕ) (reading : Reads i w most) (code : slice_get k.code y.pc ≡ Some i) (free : (v : ℕ) → y.phase ≡ phase.Taken v → ⊥) (c0 : Coloured) (is_coloured : StandsColoured k c0) where
  abbrev n : ℕ
  n = s.rest.number

  abbrev start : Hand
  start = record { work = begin_work s.rest; thread = y }

  abbrev z : Steps k n t s y i
  z = following.its k coherent few s here t y at on w i most reading code free

  abbrev x : Standing
  x = standing k n t s y i z

  abbrev Put : Hand → Cluster
  Put = following.Put k coherent few s here t y at on w i most reading code free

  abbrev IsOk : Hand → Type 0
  IsOk = following.IsOk k coherent few s here t y at on w i most reading code free

  abbrev before : HasWords (sight k)
  before = coherent.sound.words.have_words

  -- what is known of a hand that reads
  abbrev Follows : Hand → Type 0
  Follows = following.X k coherent few s here t y at on w i most reading code free

  abbrev pub X : Hand → Type 0
  X h = Follows h × Kept s.rest y h.work.rest h.thread

  known : (d : ℕ) → Known k n t s y i z X (read_stars d start (in_slot w.slot))
  known d =
      let a = Some (ReadTo (record w { depth = d })) in
      both (prepare a start) (prepares sums_kept n s.events t (all_standing n (without_thread s.threads t) ++ servers_things (others_of k.servers n)) a start (first_ok k coherent.sound s here t y at)) (calm_ready s.rest y a start (calm_start s.rest y)) (kept_ready s.rest y a start (kept_start s.rest y))
    where
      both : (p : Prepared) → PreparedOk IsOk p → Made (IsCalm s.rest y) (λ r v. ⊤) p → Made (Kept s.rest y) (λ r v. ⊤) p → Known k n t s y i z X p
      both (ready h sp) a b c = ((record { number = a.number; thread = a.thread; bag = a.bag }, b), record { rest = c.rest; copies = c.copies; pc = c.pc })
      both (requested h) a b c = tt
      both nothing a b c = tt

  -- also of that in which the place is ready
  pub known_all : Known k n t s y i z X (read_stars most start (in_slot w.slot))
  known_all = known most

  -- THE PLACE

  may : MayRead k (paths k n t s y i z).types x w
  may = may_read_so k (paths k n t s y i z) x i w most (goes k n t s y i z) code reading

  its_place : Place k (paths k n t s y i z) x false w
  its_place = record { free = may.free; base = may.base; boxes = may.boxes; type = may.type; resolves = may.resolves; unmarked = may.unmarked }

  short : w.depth ≤ 8
  short =
      let leads_on = typed k n t s y i z in
      let to = to_entry (types k n t s y i z).table y.pc (entry k n t s y i z) i leads_on.0 leads_on.1 (ends_none w i most reading) in
      short_place (types k n t s y i z).table (entry k n t s y i z) to.0 w i most reading to.1

  le : most ≤ w.depth
  le = reads_within i w most reading

  unheld : IsFree k n t s y i z false w its_place most
  unheld d lt under l located m v stands leads_on u p so_many taken there depth last = free u taken

  abbrev pub AllStars : Prepared
  AllStars = read_stars most start (in_slot w.slot)

  -- where the place is ready only hops were noted, or something is asked for
  pub wanted : WantedSo k n t s y i z X w most AllStars
  wanted = stars_want k n t s y i z X false w its_place short most le unheld known most (omega arith)

  -- THE THREAD

  able : can_step y.phase ≡ true
  able = subst (λ o. has_phase can_step o ≡ true) at on

  pub live : is_over y.phase ≡ false
  live = calm_goes y.phase able

  awake : (u : ℕ) → y.phase ≡ phase.WaitCell u → ⊥
  awake u = calm_waits y.phase u able

  -- POINTERS ON THE WAY

  points : (b : BoxPtr) → Followed k n t s y i z w most b → (p : BoxPtr) × Pointed k coherent p × (p.word ≡ b.word) × (p.object ≡ b.object)
  points b f =
      let fresh : IsStale (sight k) (Some f.location) → ⊥ = read_are_fresh k (paths k n t s y i z) x i w most f.stars f.location (goes k n t s y i z) code reading f.under f.located in
      let under : LiesUnder k f.pointer = read_lie_there k coherent x i w most f.stars f.location f.value f.pointer (goes k n t s y i z) code reading f.under awake f.located f.stood f.points in
      (f.pointer, pointed k coherent y.number f.location f.value f.pointer f.stood f.points fresh under, f.word, f.object)

  abbrev box_as : ℕ → ObjNo → BoxPtr
  box_as u o = record { word = u; object = o }

  pointed_so : (b : BoxPtr) → Followed k n t s y i z w most b → Pointed k coherent b
  pointed_so b f = let p = points b f in subst (Pointed k coherent) (ap₂ box_as p.2 p.3) p.1

  -- THE HAND

  Reads_so : ℕ → Hand → Type 0
  Reads_so d h = Reading y s.rest (bound k n t s y i z) d h

  pub rest_as_was : (d : ℕ) (h : Hand) → X h → Reading y s.rest (bound k n t s y i z) d h → (f : Thing → ℕ) → Seen f → tot f (rest_things n 0 h.work.rest) ≡ tot f (rest_things n 0 s.rest)
  rest_as_was d h c a = seen_as_was s.rest y h.work.rest h.thread c.1 a.partition

  pub frames_as_were : (d : ℕ) (h : Hand) → Reading y s.rest (bound k n t s y i z) d h → SameFrames h.thread.slots y.slots
  frames_as_were d h a = unpinned_frames h.thread.slots y.slots a.slots

  -- no copy is there under a word of which none is at hand
  none_there : (d : ℕ) (h : Hand) → Reading y s.rest (bound k n t s y i z) d h → (v : ℕ) → is_cached h.work.rest.cache v ≡ false → copy_of (sight k) n v ≡ None
  none_there d h a v e = uncached k coherent.sound n s here v (cached_hit s.rest.cache v ∙ ap is_some (sym (a.hits v)) ∙ sym (cached_hit h.work.rest.cache v) ∙ e)

  abbrev q0 : Answers
  q0 = answers_of (sight k)

  -- no word is given, so those that were issued are
  pub still_issued : (h2 : Hand) (target : ℕ) (m : Message) (e : Wish) (asks : Asks m e) (acts : List Act) (q : Requested s y h2 target m acts) (cl : Cluster) → Afterwards k s (stepped s (wait_step h2)).0 cl → (r : Rewords k cl [] before) → (v : ℕ) → issued (sight k) v ≡ issued (sight cl) v
  still_issued h2 target m e asks acts q cl after r v =
      issued_told k before v ∙ ap some (tot_same (issued_by before.word k.options.colours v) (issued_by (r.after).word k.options.colours v) each (things_of k))
      ∙ sym (issued_as k cl coherent.sound n y h2.thread q.waits target m e asks (followed_by k coherent.sound n s here c0 is_coloured t y at live h2 target m e asks acts [] q cl after) r.after v)
    where
      each : (u : Thing) → issued_by before.word k.options.colours v u ≡ issued_by (r.after).word k.options.colours v u
      each (lies p j e2) = ap (λ o. one (is_spot p j v && colour_up_to (Some o) v)) (sym (r.word e2.object))
      each _ = refl

  -- A COPY

  module _ (d : ℕ) (h1 : Hand) (b : BoxPtr) (c : X h1) (hops : OnlyHops h1) (a : Reading y s.rest (bound k n t s y i z) d h1) (its : Pointed k coherent b) (far : (server_of b.word == h1.work.rest.number) ≡ false) where
    abbrev copy_sent : Message
    copy_sent = message.Fetch b.word b.object h1.work.rest.number h1.thread.number

    abbrev object_sent : Message
    object_sent = message.Move b.word b.object h1.work.rest.number h1.thread.number

    copy_requested : Requested s y (ask_copy b h1) (server_of b.word) copy_sent (act.Ask b.object b.word ∷ [])
    copy_requested = record {
      number = sent_number h1.work.rest (server_of b.word) copy_sent ∙ a.number;
      rest = sends_one s h1.work.rest (server_of b.word) copy_sent a.number (rest_as_was d h1 c a);
      noted = noted_after h1 hops (act.Ask b.object b.word ∷ []);
      waits = record { number = a.id; frames = frames_as_were d h1 a; gift = a.gift; pc = (c.1).pc; over = sym live };
    }

    object_requested : Requested s y (ask_object b h1) (server_of b.word) object_sent (act.Pull b.object b.word ∷ [])
    object_requested = record {
      number = sent_number h1.work.rest (server_of b.word) object_sent ∙ a.number;
      rest = sends_one s h1.work.rest (server_of b.word) object_sent a.number (rest_as_was d h1 c a);
      noted = noted_after h1 hops (act.Pull b.object b.word ∷ []);
      waits = record { number = a.id; frames = frames_as_were d h1 a; gift = a.gift; pc = (c.1).pc; over = sym live };
    }

    asks_it : Asks copy_sent (ForCopy b.object b.word n)
    asks_it = subst (λ r. Asks copy_sent (ForCopy b.object b.word r)) a.number a_copy

    pulls_it : Asks object_sent (ForObject b.object b.word n)
    pulls_it = subst (λ r. Asks object_sent (ForObject b.object b.word r)) a.number an_object

    copy_ends : is_cached h1.work.rest.cache b.word ≡ false → Ends k coherent s here t y at c0 (wait_step (ask_copy b h1))
    copy_ends none = λ ok. record {
      words = [];
      left = stay_reworded k (Put (ask_copy b h1)) before (following.alike_leaves k coherent few s here t y at on w i most reading code free (ask_copy b h1) (unwaited k coherent s here t y at c0 (ask_copy b h1) ok) (following.copy_alike k coherent few s here t y at on w i most reading code free d h1 b c.0 a));
      leads = λ cl after r.
          request_led k coherent.sound n s here c0 is_coloured t y at live (ask_copy b h1) (server_of b.word) copy_sent (ForCopy b.object b.word n) asks_it (act.Ask b.object b.word ∷ []) [] copy_requested
          (runs_one k.options (silent n (Some y.number) (act.Ask b.object b.word ∷ [])) (act.Ask b.object b.word) c0 (wishing (ForCopy b.object b.word n) (recoloured [] q0))
          (ask_allowed k.options (silent n (Some y.number) (act.Ask b.object b.word ∷ [])) c0 (recoloured [] q0) b.object b.word (none_given c0 q0 (fits (sight k) c0 is_coloured)) (is_named k coherent b its) (away k coherent b its h1.work.rest.number n a.number far) (none_there d h1 a b.word none))) cl after r
          (still_issued (ask_copy b h1) (server_of b.word) copy_sent (ForCopy b.object b.word n) asks_it (act.Ask b.object b.word ∷ []) copy_requested cl after r);
    }

    pub object_ends : Ends k coherent s here t y at c0 (wait_step (ask_object b h1))
    object_ends = λ ok. record {
      words = [];
      left = stay_reworded k (Put (ask_object b h1)) before (following.alike_leaves k coherent few s here t y at on w i most reading code free (ask_object b h1) (unwaited k coherent s here t y at c0 (ask_object b h1) ok) (following.object_alike k coherent few s here t y at on w i most reading code free d h1 b c.0 a));
      leads = λ cl after r.
          request_led k coherent.sound n s here c0 is_coloured t y at live (ask_object b h1) (server_of b.word) object_sent (ForObject b.object b.word n) pulls_it (act.Pull b.object b.word ∷ []) [] object_requested
          (runs_one k.options (silent n (Some y.number) (act.Pull b.object b.word ∷ [])) (act.Pull b.object b.word) c0 (wishing (ForObject b.object b.word n) (recoloured [] q0))
          (pull_allowed k.options (silent n (Some y.number) (act.Pull b.object b.word ∷ [])) c0 (recoloured [] q0) b.object b.word (none_given c0 q0 (fits (sight k) c0 is_coloured)) (is_named k coherent b its) (away k coherent b its h1.work.rest.number n a.number far))) cl after r
          (still_issued (ask_object b h1) (server_of b.word) object_sent (ForObject b.object b.word n) pulls_it (act.Pull b.object b.word ∷ []) object_requested cl after r);
    }

  -- A COPY UNDER THE NEXT COLOUR

  module _ (d : ℕ) (h1 h3 : Hand) (j : ℕ) (q : MutRef) (c : X h1) (hops : OnlyHops h1) (a : Reading y s.rest (bound k n t s y i z) d h1) (lt : d < most) (located : locate (sight k).ground y.number w.slot d ≡ Some (at_slot y.number j)) (e : slice_get h1.thread.slots j ≡ Some (value.Mut q))
      (stood : value_in (sight k).ground (at_slot y.number j) ≡ Some (value.Mut q)) (dirty : q.dirty ≡ true) (far : (server_of q.word == h1.work.rest.number) ≡ false) (low : nat_lt (colour_of q.word + 1) h1.work.rest.partition.limit ≡ true)
      (worded : put_word (in_slot j) (issue_tint (box_of q) h1.work) h1 ≡ Some h3) (none : is_cached h3.work.rest.cache (next_word q.word) ≡ false) where
    abbrev b : BoxPtr
    b = box_of q

    abbrev b2 : BoxPtr
    b2 = record { word = next_word q.word; object = q.object }

    abbrev next : ℕ
    next = next_word q.word

    abbrev l : Location
    l = at_slot h1.thread.number j

    at_l : locate (sight k).ground y.number w.slot d ≡ Some l
    at_l = located ∙ ap (λ m. Some (at_slot m j)) (sym a.id)

    fresh : IsStale (sight k) (Some l) → ⊥
    fresh = read_are_fresh k (paths k n t s y i z) x i w most d l (goes k n t s y i z) code reading lt at_l

    under : LiesUnder k b
    under = read_lie_there k coherent x i w most d (at_slot y.number j) (value.Mut q) b (goes k n t s y i z) code reading lt awake located stood refl

    its_pointer : Pointed k coherent b
    its_pointer = pointed k coherent y.number (at_slot y.number j) (value.Mut q) b stood refl (read_are_fresh k (paths k n t s y i z) x i w most d (at_slot y.number j) (goes k n t s y i z) code reading lt located) under

    walks : Walks k coherent s here t y at h1
    walks = following.walks_there k coherent few s here t y at on w i most reading code free h1 c.0 (d, a)

    stay : Leaves k (Put h1)
    stay = following.alike_leaves k coherent few s here t y at on w i most reading code free h1 (c.0).0 (following.alike_to k coherent few s here t y at on w i most reading code free h1 c.0 (d, a))

    g3 : IsOk h3
    g3 = tint_ok k coherent few s here t y at h1 walks stay j q e dirty fresh under h3 worded

    wrote : SlotPut h1 h3 j next (value.Mut q)
    wrote = tint_wrote k coherent few s here t y at h1 walks stay j q e dirty fresh under h3 worded

    abbrev asking : Hand
    asking = ask_copy b2 h3

    asking_alike : HandAlike k.code n [] h3 asking
    asking_alike =
        asks_so k.code n h3 (subst (λ th. TakesNoneHere k.code th) (sym wrote.thread) (following.none_then k coherent few s here t y at on w i most reading code free h1 c.0 (d, a)))
        (act.Ask q.object next) (server_of next) (message.Fetch next q.object h3.work.rest.number h3.thread.number) (phase.WaitCell next) g3.number refl (λ p f v. v) (λ v m. refl)

    has_word : IsOk asking → Worded k (Put asking) q.object next before
    has_word fine =
        worded_on (tint_worded k coherent few s here t y at h1 walks stay j q e dirty fresh under h3 worded)
        (all_goes.seen (Put h3) (Put asking) (places k coherent.sound s here t y at h3 g3) (places k coherent.sound s here t y at asking fine) refl (puts_alike k coherent.sound s here t y at h3 asking g3.number g3.thread (each_together asking_alike)))

    abbrev sent_so : Message
    sent_so = message.Fetch next q.object h3.work.rest.number h3.thread.number

    same_number : h3.work.rest.number ≡ n
    same_number = ap (λ (r : Rest). r.number) wrote.rest ∙ a.number

    new_frame : frame_of wrote.new ≡ frame_of (value.Mut q)
    new_frame = let same : value.Mut (took q next) ≡ wrote.new = some_is wrote.worded in ap frame_of (sym same)

    noted_both : h3.work.acts ≡ h1.work.acts ++ act.Tint q.object q.word next ∷ []
    noted_both = tint_noted h1 h3 j q worded

    acts_so : without_hops asking.work.acts ≡ act.Tint q.object q.word next ∷ act.Ask q.object next ∷ []
    acts_so =
        ap (λ m. without_hops (m ++ act.Ask q.object next ∷ [])) noted_both ∙ ap without_hops (append_assoc h1.work.acts (act.Tint q.object q.word next ∷ []) (act.Ask q.object next ∷ []))
        ∙ noted_after h1 hops (act.Tint q.object q.word next ∷ act.Ask q.object next ∷ [])

    requested_so : Requested s y asking (server_of next) sent_so (act.Tint q.object q.word next ∷ act.Ask q.object next ∷ [])
    requested_so = record {
      number = sent_number h3.work.rest (server_of next) sent_so ∙ same_number;
      rest = sends_one s h3.work.rest (server_of next) sent_so same_number (λ f g. ap (λ r. tot f (rest_things n 0 r)) wrote.rest ∙ rest_as_was d h1 c a f g);
      noted = acts_so;
      waits = record {
        number = ap (λ (th : ThreadState). th.number) wrote.thread ∙ a.id;
        frames = ap (λ (th : ThreadState). map frame_of th.slots) wrote.thread ∙ set_frames h1.thread.slots j (value.Mut q) wrote.new e new_frame ∙ frames_as_were d h1 a;
        gift = ap (λ (th : ThreadState). th.gift) wrote.thread ∙ a.gift;
        pc = ap (λ (th : ThreadState). th.pc) wrote.thread ∙ (c.1).pc;
        over = sym live;
      };
    }

    asks_next : Asks sent_so (ForCopy q.object next n)
    asks_next = subst (λ r. Asks sent_so (ForCopy q.object next r)) same_number a_copy

    low_colour : nat_lt (colour_of next) k.options.colours ≡ true
    low_colour =
        let limit : h1.work.rest.partition.limit ≡ k.options.colours = ap (λ (p : PartitionState). p.limit) a.partition ∙ (its_partition k coherent.sound n s here).1 in
        let colour : colour_of next ≡ colour_of q.word + 1 = omega arith in
        ap₂ (λ u v. nat_lt u v) colour (sym limit) ∙ low

    none_now : copy_of (sight k) n next ≡ None
    none_now = none_there d h1 a next (ap (λ (r : Rest). is_cached r.cache next) (sym wrote.rest) ∙ none)

    still_far : (server_of next == n) ≡ false
    still_far = let same : server_of next ≡ server_of q.word = omega arith in ap₂ (λ u v. u == v) same (sym a.number) ∙ far

    tint_ends : Ends k coherent s here t y at c0 (wait_step asking)
    tint_ends = λ ok. record {
      words = (q.object, next) ∷ [];
      left = worded_so k (Put asking) before q.object next (has_word (unwaited k coherent s here t y at c0 asking ok));
      leads = λ cl after r.
          request_led k coherent.sound n s here c0 is_coloured t y at live asking (server_of next) sent_so (ForCopy q.object next n) asks_next (act.Tint q.object q.word next ∷ act.Ask q.object next ∷ []) ((q.object, next) ∷ []) requested_so
          (runs_act k.options (silent n (Some y.number) (act.Tint q.object q.word next ∷ act.Ask q.object next ∷ [])) (act.Tint q.object q.word next) (act.Ask q.object next ∷ []) c0 (recoloured ((q.object, next) ∷ []) q0) (wishing (ForCopy q.object next n) (recoloured ((q.object, next) ∷ []) q0))
          (tint_allowed k.options (silent n (Some y.number) (act.Tint q.object q.word next ∷ act.Ask q.object next ∷ [])) c0 q0 [] q.object q.word (none_given c0 q0 (fits (sight k) c0 is_coloured)) (is_named k coherent b its_pointer) refl low_colour (next_unissued k coherent b its_pointer))
          (λ c1 g. runs_one k.options (silent n (Some y.number) (act.Tint q.object q.word next ∷ act.Ask q.object next ∷ [])) (act.Ask q.object next) c1 (wishing (ForCopy q.object next n) (recoloured ((q.object, next) ∷ []) q0))
          (ask_allowed k.options (silent n (Some y.number) (act.Tint q.object q.word next ∷ act.Ask q.object next ∷ [])) c1 (recoloured ((q.object, next) ∷ []) q0) q.object next g (is_renamed k coherent b its_pointer next) (away k coherent b its_pointer h1.work.rest.number n a.number far) none_now))) cl after r
          (λ v. next_issued k coherent b its_pointer (r.after).word r.word v
          ∙ sym (issued_as k cl coherent.sound n y asking.thread requested_so.waits (server_of next) sent_so (ForCopy q.object next n) asks_next
          (followed_by k coherent.sound n s here c0 is_coloured t y at live asking (server_of next) sent_so (ForCopy q.object next n) asks_next (act.Tint q.object q.word next ∷ act.Ask q.object next ∷ []) ((q.object, next) ∷ []) requested_so cl after) r.after v));
    }

  -- WHAT IS ASKED FOR

  pub wanted_ends : (h : Hand) → Wanted k n t s y i z X w most h → Ends k coherent s here t y at c0 (wait_step h)
  wanted_ends h (for_copy d h1 b c hops a f far none e) = subst (λ v. Ends k coherent s here t y at c0 (wait_step v)) (sym e) (copy_ends d h1 b c hops a (pointed_so b f) far none)
  wanted_ends h (for_object d h1 b c hops a f far e) = subst (λ v. Ends k coherent s here t y at c0 (wait_step v)) (sym e) (object_ends d h1 b c hops a (pointed_so b f) far)
  wanted_ends h (for_tinted d h1 h3 j q c hops a lt located slot stood dirty far low worded none e) = subst (λ v. Ends k coherent s here t y at c0 (wait_step v)) (sym e) (tint_ends d h1 h3 j q c hops a lt located slot stood dirty far low worded none)
