-- After the step of a thread, done or not, no copy exists of what it has passed, and so of what any thread has.
use Rattle.std.proofs.Common.{◌≡◌, ℕ, false, Some, None, refl, sym, ap, ◌∙◌}
use Rattle.std.specs.Prelude.{slice_get}
use Rattle.law_copies_kept.proofs.Below.fr_typing.PlaceLemmas.{eq_cases}
use Rattle.law_copies_kept.specs.Below.fr_base.declared.instruction.Instr.{Instr}
use Rattle.law_copies_kept.specs.Below.fr_base.declared.place.Lval.{Lval}
use Rattle.law_copies_kept.specs.Below.thread_state.View.{ThreadState}
use Rattle.law_copies_kept.specs.Below.thread_state.declared.phase.Phase.{Phase}
use Rattle.law_copies_kept.specs.Below.thread_state.declared.phase.Phase.TheVariants as phase
use Rattle.law_copies_kept.specs.Below.journal.View.{EntryView}
use Rattle.law_copies_kept.specs.Below.server_model.declared.event.Event.{Event}
use Rattle.law_copies_kept.specs.Below.server_model.declared.event.What.TheVariants.{Step}
use Rattle.law_copies_kept.specs.Below.server_model.Servers.{Server, Cluster}
use Rattle.law_copies_kept.specs.Below.server_model.Clusters.{apply}
use Rattle.law_copies_kept.specs.Below.server_model.Work.{Hand}
use Rattle.law_copies_kept.specs.Below.server_model.Prepare.{requested, access_of, prepare}
use Rattle.law_copies_kept.specs.Below.server_model.Events.{Stepped, begin_work, wait_step}
use Rattle.law_copies_kept.specs.Below.coherent_memory.Names.{tot, Among}
use Rattle.law_copies_kept.specs.Below.coherent_memory.Things.{things_of}
use Rattle.law_copies_kept.specs.Below.coherent_memory.Follow.{Standing}
use Rattle.law_copies_kept.specs.Below.coherent_memory.Paths.{Path, reads, shares, lends, path_of, written_place}
use Rattle.law_copies_kept.specs.Below.coherent_memory.Sight.{sight, issued}
use Rattle.law_copies_kept.specs.Below.coherent_memory.Coherent.{Sentence, Holds, passed_in_a_walk, gifts_got, passed_not_copied}
use Rattle.law_copies_kept.specs.Below.coherent_memory.Walking.{path, in_walk, early, over_place, over_passed, copied_box}
use Rattle.law_copies_kept.specs.Below.coherent_memory.Weights.{copies}
use Rattle.law_copies_kept.proofs.Below.coherent_memory.Words.{none_at, none_all}
use Rattle.law_copies_kept.specs.Below.coherent_types.ClusterTypes.{IsCoherent}
use Rattle.law_copies_kept.specs.Below.law_words_paths.paths.HeapStore.{GoesOn}
use Rattle.law_walks_own.specs.Below.law_words_paths.words.Reworded.{HasPlaces}
use Rattle.law_copies_kept.specs.Below.law_counts_sums.Laws.{Gives, FewEvents}
use Rattle.law_copies_kept.proofs.Below.law_counts_sums.Results.{both_give, weaker}
use Rattle.law_copies_kept.proofs.Below.law_counts_sums.Sending.{applied_part}
use Rattle.law_walks_own.proofs.Below.law_counts_things.things.Sentences.{passed_kept}
use Rattle.law_copies_kept.proofs.Below.law_results_reads.Known.{Steps}
use Rattle.law_walks_own.proofs.Below.law_counts_asking.GiftsGot.{gifts_got_kept}
use Rattle.law_walks_own.specs.Below.law_counts_waiting.waits.Places.{LeadsAsItDid}
use Rattle.law_walks_own.proofs.Below.law_counts_waiting.waits.Stay.{undone_leave}
use Rattle.law_walks_own.proofs.Below.law_walks_others.pointers.Followed.{same_settings}
use Rattle.law_walks_own.proofs.taken.Landed.{all_give}
use Rattle.law_walks_own.specs.steps.Steps.{OwnStepsKeep, StepsKeep}
use Rattle.law_walks_own.proofs.steps.Cell.{waits_there}
use Rattle.law_walks_own.proofs.steps.EndKinds.{ends_of}
use Rattle.law_walks_own.proofs.steps.Outcomes.{IsCalm, AsksHome, a_lock, a_dup, a_join, Outcome, is_done, has_asked, asks_home, outcome}
use Rattle.law_walks_own.proofs.steps.Own.{Own, OwnIn, own_step, me, it_is}
use Rattle.law_walks_own.proofs.steps.OwnSteps.{Facts, Asking, by_write, by_reading, by_share, by_lend, by_end, asking, leads_by}
use Rattle.law_walks_own.proofs.passed.Passed.{passed_uncopied}
use Rattle.law_walks_own.proofs.passed.Copied.{new_uncopied}
use Rattle.law_walks_own.proofs.passed.Then.{unpassed, none_passed, OnePassed}
use Rattle.law_walks_own.proofs.passed.Others.{others_passed}
use Rattle.law_walks_own.proofs.passed.Start.{Bare}
use Rattle.law_walks_own.proofs.passed.Writes.{write_bare}
use Rattle.law_walks_own.proofs.passed.Ends.{end_bare}

-- a thread at rest, or that waits for an answer, is in no walk
calm_still : (p : Phase) → IsCalm p → in_walk p ≡ false
calm_still phase.Ready c = refl
calm_still phase.Over c = refl
calm_still (phase.WaitPar a b) c = refl
calm_still phase.Got c = absurd c
calm_still (phase.Taken w) c = absurd c
calm_still (phase.WaitCell w) c = absurd c
calm_still (phase.WaitLock m) c = absurd c
calm_still (phase.WaitDup m) c = absurd c
calm_still (phase.WaitJoin u) c = absurd c
calm_still (phase.GotPar a b) c = absurd c

home_still : (i : Instr) (a h : Hand) → AsksHome i a h → in_walk h.thread.phase ≡ false
home_still i a _ (a_lock w m e) = refl
home_still i a _ (a_dup w m e) = refl
home_still i a _ (a_join o u e) = refl

module _ (k c : Cluster) (v : EntryView) (t : ℕ) (f : Facts k c v t) (bare : Bare k c) (none : early (me k c v t f.own f.places) ≡ 0) where
  abbrev o : Own k c v t
  o = f.own

  abbrev s : Server
  s = o.server

  abbrev y : ThreadState
  y = o.thread

  abbrev i : Instr
  i = o.instruction

  abbrev z : Steps k o.number t s y i
  z = o.steps

  abbrev h0 : Hand
  h0 = record { work = begin_work s.rest; thread = y }

  abbrev it_now : Standing
  it_now = me k c v t o f.places

  abbrev IsBare : Type 0
  IsBare = over_passed (sight c) (copied_box (sight c)) it_now ≡ 0

  -- in no walk it has passed nothing
  still : in_walk o.result.hand.thread.phase ≡ false → IsBare
  still e = none_passed (sight c) (sight c) it_now (unpassed o.result.hand.thread.phase o.result.hand.thread.passed e none)

  -- where it reads it writes nothing
  path_then : (h : Hand) → prepare (access_of i y) h0 ≡ requested h → o.result ≡ wait_step h → path (sight c) it_now ≡ path_of (Some i) o.result.hand.thread
  path_then h asked is =
      let zz = z in
      let pc : o.result.hand.thread.pc ≡ y.pc = ap (λ (d : Stepped). d.hand.thread.pc) is ∙ (waits_there (access_of i y) h0 h asked).0 in
      ap (λ cs. path_of (slice_get cs o.result.hand.thread.pc) o.result.hand.thread) f.code ∙ ap (λ u. path_of (slice_get k.code u) o.result.hand.thread) pc ∙ ap (λ u. path_of u o.result.hand.thread) zz.code

  unwritten : (q : Path) → path (sight c) it_now ≡ q → written_place q ≡ None → IsBare
  unwritten q e none_there = ap (λ u. over_place (sight c).ground o.result.hand.thread.number o.result.hand.thread.passed (copied_box (sight c) s.rest.number) u) (ap written_place e ∙ none_there)

  asks : (h : Hand) → prepare (access_of i y) h0 ≡ requested h → o.result ≡ wait_step h → Asking y i h0 h → IsBare
  asks h asked is (by_write w d through) = write_bare k c v t f.code o f.places bare h asked is w d through (leads_by k c v t f h is w)
  asks h asked is (by_reading w r e on_path stopped) = unwritten (reads w) (path_then h asked is ∙ on_path o.result.hand.thread) refl
  asks h asked is (by_share w d deep e) = unwritten (shares w) (path_then h asked is ∙ ap (λ u. path_of (Some u) o.result.hand.thread) e) refl
  asks h asked is (by_lend w d deep e) = unwritten (lends w) (path_then h asked is ∙ ap (λ u. path_of (Some u) o.result.hand.thread) e) refl
  asks h asked is (by_end sp r e g then kind) = let q = ends_of k o.number t s y i z kind h asked in end_bare k c v t f bare h asked is q.reference q.ended q.it q.spot q.at_it q.access q.path_by

  own_bare : IsBare
  own_bare = by (outcome k.options.servers i h0 o.result o.is)
    where
      by : Outcome i h0 o.result → IsBare
      by (is_done calm) = still (calm_still o.result.hand.thread.phase calm)
      by (has_asked h asked is) = asks h asked is (asking y i h0 h refl asked)
      by (asks_home a h sp e home is) = still (ap (λ (d : Stepped). in_walk d.hand.thread.phase) is ∙ home_still i a h home)

-- THE EVENT

-- a place of a thread that goes on
pub record Placed (k : Cluster) : Type 0 where
  pub owner : Standing
  pub place : Lval
  pub on : GoesOn k owner

-- where no plain step is done each of these leads where it led
abbrev pub AllLead : Cluster → Cluster × EntryView → Type 0
AllLead k d = (a : Placed k) → d.1.done ≡ None → LeadsAsItDid k d.0 a.owner.thread.number a.place

pub all_lead : (k : Cluster) (e : Event) → IsCoherent k → FewEvents k → Gives (AllLead k) (apply k e)
all_lead k e coherent few = all_give (λ (a : Placed k) (d : Cluster × EntryView). d.1.done ≡ None → LeadsAsItDid k d.0 a.owner.thread.number a.place) (apply k e) (λ a. undone_leave k e coherent few a.owner a.place a.on)

-- a word that wasn't issued
record Unissued (k : Cluster) : Type 0 where
  word : ℕ
  unissued : issued (sight k) word ≡ false

-- what is known of copies after each event
pub all_bare : (k : Cluster) (e : Event) → IsCoherent k → FewEvents k → Gives (λ (d : Cluster × EntryView). Bare k d.0) (apply k e)
all_bare k e coherent few =
    both_give (λ (d : Cluster × EntryView). (q : OnePassed k) → tot (copies q.pointer.word) (things_of d.0) ≡ 0) (λ (d : Cluster × EntryView). (q : Unissued k) → tot (copies q.word) (things_of d.0) ≡ 0) (λ (d : Cluster × EntryView). Bare k d.0) (apply k e)
    (all_give (λ (q : OnePassed k) (d : Cluster × EntryView). tot (copies q.pointer.word) (things_of d.0) ≡ 0) (apply k e) (λ q. passed_uncopied k e coherent few q.thread q.pointer q.passed))
    (all_give (λ (q : Unissued k) (d : Cluster × EntryView). tot (copies q.word) (things_of d.0) ≡ 0) (apply k e) (λ q. new_uncopied k e coherent.sound few q.word q.unissued))
    (λ d a b. record { passed = a; new = λ w q. b (record { word = w; unissued = q }) })

module _ (k : Cluster) (e : Event) (t : ℕ) (is : e.what ≡ Step t) (coherent : IsCoherent k) (few : FewEvents k) where
  abbrev D : Type 0
  D = Cluster × EntryView

  with_it : (P Q : D → Type 0) → Gives P (apply k e) → Gives Q (apply k e) → Gives (λ d. P d × Q d) (apply k e)
  with_it P Q p q = both_give P Q (λ d. P d × Q d) (apply k e) p q (λ d a b. (a, b))

  abbrev Settings : D → Type 0
  Settings d = (d.0.code ≡ k.code) × (d.0.options ≡ k.options)

  abbrev Is : Sentence → D → Type 0
  Is n d = Holds d.0 n

  abbrev Places : D → Type 0
  Places d = HasPlaces d.0

  facts : Gives (λ (d : D). Facts k d.0 d.1 t × Bare k d.0) (apply k e)
  facts =
      both_give (λ d. (OwnIn k e coherent few d × Places d) × ((Settings d × AllLead k d) × (Is passed_in_a_walk d × Is gifts_got d))) (λ (d : D). Bare k d.0) (λ (d : D). Facts k d.0 d.1 t × Bare k d.0) (apply k e)
      (with_it (λ d. OwnIn k e coherent few d × Places d) (λ d. (Settings d × AllLead k d) × (Is passed_in_a_walk d × Is gifts_got d))
      (with_it (OwnIn k e coherent few) Places (own_step k e coherent few) (applied_part HasPlaces (λ c g. record { numbers_differ = g.numbers_differ; home_of_each = g.home_of_each; owner_of_each = g.owner_of_each }) k e coherent.sound few))
      (with_it (λ d. Settings d × AllLead k d) (λ d. Is passed_in_a_walk d × Is gifts_got d)
      (with_it Settings (AllLead k) (same_settings k e) (all_lead k e coherent few))
      (with_it (Is passed_in_a_walk) (Is gifts_got) (passed_kept k e coherent.sound few) (gifts_got_kept k e coherent few))))
      (all_bare k e coherent few)
      (λ d u b. (
        record { own = u.0.0 t is; places = u.0.1; code = u.1.0.0.0; options = u.1.0.0.1; walks = u.1.1.0; gifts = u.1.1.1; leads = λ done y w g. u.1.0.1 (record { owner = y; place = w; on = g }) done },
        b,
      ))

  own_steps : Gives (λ (d : D). (x : Standing) → Among x (sight d.0).ground.threads → x.thread.number ≡ t → over_passed (sight d.0) (copied_box (sight d.0)) x ≡ 0) (apply k e)
  own_steps =
      weaker (λ (d : D). Facts k d.0 d.1 t × Bare k d.0) (λ (d : D). (x : Standing) → Among x (sight d.0).ground.threads → x.thread.number ≡ t → over_passed (sight d.0) (copied_box (sight d.0)) x ≡ 0) (apply k e) facts (λ d u x among number.
      let f : Facts k d.0 d.1 t = u.0 in
      let same = it_is k d.0 d.1 t f.own f.places x among number in
      let none : early (me k d.0 d.1 t f.own f.places) ≡ 0 = sym (same early) ∙ none_at early x (sight d.0).ground.threads f.walks among in
      same (over_passed (sight d.0) (copied_box (sight d.0))) ∙ own_bare k d.0 d.1 t f u.1 none)

pub own_uncopied : OwnStepsKeep (λ s x. over_passed s (copied_box s) x)
own_uncopied k e t is coherent few = own_steps k e t is coherent few

pub steps_bare : StepsKeep passed_not_copied
steps_bare k e t is coherent few =
    both_give (λ (d : Cluster × EntryView). (x : Standing) → Among x (sight d.0).ground.threads → x.thread.number ≡ t → over_passed (sight d.0) (copied_box (sight d.0)) x ≡ 0) (λ (d : Cluster × EntryView). (x : Standing) → Among x (sight d.0).ground.threads → (x.thread.number ≡ t → ⊥) → over_passed (sight d.0) (copied_box (sight d.0)) x ≡ 0)
    (λ (d : Cluster × EntryView). Holds d.0 passed_not_copied) (apply k e) (own_uncopied k e t is coherent few) (others_passed k e t is coherent few)
    (λ d a b. none_all (over_passed (sight d.0) (copied_box (sight d.0))) (sight d.0).ground.threads (λ x among. eq_cases (λ q. over_passed (sight d.0) (copied_box (sight d.0)) x ≡ 0) x.thread.number t (a x among) (b x among)))
