-- The sentences one by one, each for the instructions for which it is shown; and of all threads.
use Rattle.std.proofs.Common.{◌≡◌, ℕ, false, Option, Some, None, refl, sym, ap, ◌∙◌}
use Rattle.std.specs.Prelude.{slice_get}
use Rattle.law_walks_others.specs.Below.fr_base.declared.place.Lval.{Lval}
use Rattle.law_walks_others.specs.Below.fr_base.declared.instruction.Instr.{Instr}
use Rattle.law_walks_others.specs.Below.journal.View.{EntryView}
use Rattle.law_walks_others.specs.Below.thread_state.View.{ThreadState}
use Rattle.law_walks_others.specs.Below.thread_state.declared.phase.Phase.TheVariants as phase
use Rattle.law_walks_others.specs.Below.thread_state.declared.value.Value.{Value}
use Rattle.law_walks_others.specs.Below.thread_state.declared.value.Value.TheVariants as value
use Rattle.law_walks_others.specs.Below.server_model.declared.event.Event.{Event}
use Rattle.law_walks_others.specs.Below.server_model.declared.event.What.TheVariants.{Step}
use Rattle.law_walks_others.specs.Below.server_model.Servers.{Server, Cluster}
use Rattle.law_walks_others.specs.Below.server_model.Clusters.{apply}
use Rattle.law_walks_others.specs.Below.server_model.Work.{Hand}
use Rattle.law_walks_others.specs.Below.server_model.Prepare.{requested, access_of, prepare}
use Rattle.law_walks_others.specs.Below.server_model.Events.{Stepped, begin_work, wait_step}
use Rattle.law_walks_others.specs.Below.coherent_memory.Names.{tot, if_so, Among}
use Rattle.law_walks_others.specs.Below.coherent_memory.Follow.{Standing}
use Rattle.law_walks_others.specs.Below.coherent_memory.Paths.{Path, no_path, reads, shares, lends, writes, ends, path_of, written_place, followed}
use Rattle.law_walks_others.specs.Below.coherent_memory.Paths as paths_of
use Rattle.law_walks_others.specs.Below.coherent_memory.Sight.{Sight, sight}
use Rattle.law_walks_others.specs.Below.coherent_memory.Coherent.{Sentence, Holds, passed_in_a_walk, gifts_got, passed_lie_here, place_followed, waits_in_turn}
use Rattle.law_walks_others.specs.Below.coherent_memory.Requests.{early_gift}
use Rattle.law_walks_others.specs.Below.coherent_memory.Walking.{path, words_kept, loose_hop, early, over_place, over_passed, away, has_followed, waits_for_lent, lost_place, out_of_turn}
use Rattle.law_walks_others.proofs.Below.coherent_memory.Words.{none_at, none_all}
use Rattle.law_walks_others.specs.Below.coherent_types.ClusterTypes.{IsCoherent}
use Rattle.law_walks_others.specs.Below.law_words_paths.paths.HeapStore.{GoesOn}
use Rattle.law_words_ends.specs.Below.law_words_paths.words.Reworded.{HasPlaces}
use Rattle.law_walks_others.specs.Below.law_counts_sums.Laws.{Gives, FewEvents}
use Rattle.law_walks_others.proofs.Below.law_counts_sums.Results.{both_give, weaker}
use Rattle.law_walks_others.proofs.Below.law_counts_sums.Sending.{applied_part}
use Rattle.law_words_ends.proofs.Below.law_counts_things.things.Sentences.{passed_kept}
use Rattle.law_walks_others.proofs.Below.law_results_reads.Known.{Steps, standing}
use Rattle.law_words_ends.proofs.Below.law_words_borrows.Below.law_counts_asking.GiftsGot.{gifts_got_kept}
use Rattle.law_walks_others.specs.Below.law_counts_waiting.waits.Places.{LeadsAsItDid}
use Rattle.law_walks_others.proofs.Below.law_counts_waiting.waits.Stay.{undone_leave}
use Rattle.law_walks_others.specs.pointers.Pointers.{OthersStepsKeep}
use Rattle.law_walks_others.proofs.pointers.Followed.{same_settings, others_followed, others_wait, others_passed}
use Rattle.law_walks_own.specs.steps.Steps.{OwnStepsKeep, StepsKeep}
use Rattle.law_walks_own.proofs.steps.Borrows.{shares_right, lends_right}
use Rattle.law_walks_own.proofs.steps.Cell.{waits_there}
use Rattle.law_walks_own.proofs.steps.EndKinds.{ends_of}
use Rattle.law_walks_own.proofs.steps.EndWalks.{end_passed, end_turn}
use Rattle.law_walks_own.proofs.steps.LendFollows.{lend_follows}
use Rattle.law_walks_own.proofs.steps.Outcomes.{Outcome, is_done, has_asked, asks_home, outcome}
use Rattle.law_walks_own.proofs.steps.Own.{Own, OwnIn, own_step, me, it_is}
use Rattle.law_walks_own.proofs.steps.OwnSteps.{Facts, Fine, rests_fine, calm_rests, Asking, by_write, by_reading, by_share, by_lend, by_end, asking, reads_fine, write_fine, home_asks}

module _ (k c : Cluster) (v : EntryView) (t : ℕ) (f : Facts k c v t) (none : early (me k c v t f.own f.places) ≡ 0) (gift : early_gift (me k c v t f.own f.places) ≡ 0) where
  abbrev o : Own k c v t
  o = f.own

  abbrev s : Server
  s = o.server

  abbrev y : ThreadState
  y = o.thread

  abbrev i : Instr
  i = o.instruction

  abbrev z : Steps k o.number t s y i
  z = o.steps

  abbrev h0 : Hand
  h0 = record { work = begin_work s.rest; thread = y }

  abbrev x : Standing
  x = standing k o.number t s y i z

  abbrev it_now : Standing
  it_now = me k c v t o f.places

  -- a step that asks on its way, by what asks
  by_outcome : (P : Type 0) → (Fine c it_now → P) → ((h : Hand) → prepare (access_of i y) h0 ≡ requested h → o.result ≡ wait_step h → Asking y i h0 h → P) → P
  by_outcome P fine go = by (outcome k.options.servers i h0 o.result o.is)
    where
      by : Outcome i h0 o.result → P
      by (is_done calm) = fine (rests_fine c it_now none gift o.result.hand.thread.phase refl (calm_rests o.result.hand.thread.phase calm))
      by (has_asked h asked is) = go h asked is (asking y i h0 h refl asked)
      by (asks_home a h sp e asks is) = fine (home_asks k c v t f none gift a h sp e asks is)

  -- it is at its instruction, and waits for a cell
  path_then : (h : Hand) → prepare (access_of i y) h0 ≡ requested h → o.result ≡ wait_step h → path (sight c) it_now ≡ path_of (Some i) o.result.hand.thread
  path_then h asked is =
      let zz = z in
      let pc : o.result.hand.thread.pc ≡ y.pc = ap (λ (d : Stepped). d.hand.thread.pc) is ∙ (waits_there (access_of i y) h0 h asked).0 in
      ap (λ cs. path_of (slice_get cs o.result.hand.thread.pc) o.result.hand.thread) f.code ∙ ap (λ u. path_of (slice_get k.code u) o.result.hand.thread) pc ∙ ap (λ u. path_of u o.result.hand.thread) zz.code

  -- where it writes nothing it has passed nothing
  unwritten : (q : Path) → path (sight c) it_now ≡ q → written_place q ≡ None → over_passed (sight c) (away (sight c)) it_now ≡ 0
  unwritten q e n = ap (λ u. over_place (sight c).ground o.result.hand.thread.number o.result.hand.thread.passed (away (sight c) s.rest.number) u) (ap written_place e ∙ n)

  -- where it lends nothing it has followed nothing
  unlent : (h : Hand) → prepare (access_of i y) h0 ≡ requested h → o.result ≡ wait_step h → (q : Path) → path (sight c) it_now ≡ q → ((w : ℕ) → waits_for_lent (sight c) it_now q w ≡ false) → lost_place (sight c) it_now ≡ 0
  unlent h asked is q e n =
      let wait = (waits_there (access_of i y) h0 h asked).1 in
      let phase_is : o.result.hand.thread.phase ≡ phase.WaitCell wait.0 = ap (λ (d : Stepped). d.hand.thread.phase) is ∙ wait.1 in
      ap (λ u. if_so (has_followed (sight c) it_now u) (tot (loose_hop s.rest.number (words_kept o.result.hand.thread)) (followed (sight c).ground o.result.hand.thread.number (path (sight c) it_now)))) phase_is
      ∙ ap (λ b. if_so b (tot (loose_hop s.rest.number (words_kept o.result.hand.thread)) (followed (sight c).ground o.result.hand.thread.number (path (sight c) it_now)))) (ap (λ u. waits_for_lent (sight c) it_now u wait.0) e ∙ n wait.0)

  end_lends : (r : Option Value) (w : ℕ) → waits_for_lent (sight c) it_now (paths_of.ending r) w ≡ false
  end_lends None w = refl
  end_lends (Some value.Gone) w = refl
  end_lends (Some (value.Own u)) w = refl
  end_lends (Some (value.SharedSlot j)) w = refl
  end_lends (Some (value.MutSlot j)) w = refl
  end_lends (Some (value.Shared u)) w = refl
  end_lends (Some (value.Mut u)) w = refl
  end_lends (Some (value.Held u)) w = refl

  pub passed_fine : over_passed (sight c) (away (sight c)) it_now ≡ 0
  passed_fine = by_outcome (over_passed (sight c) (away (sight c)) it_now ≡ 0) (λ u. u.0) by
    where
      by : (h : Hand) → prepare (access_of i y) h0 ≡ requested h → o.result ≡ wait_step h → Asking y i h0 h → over_passed (sight c) (away (sight c)) it_now ≡ 0
      by h asked is (by_write w d thr) = (write_fine k c v t f w d thr h asked is).0
      by h asked is (by_reading w r e on_path stopped) = (reads_fine k c v t f w r on_path h asked is stopped).0
      by h asked is (by_share w d deep e) = unwritten (shares w) (path_then h asked is ∙ ap (λ u. path_of (Some u) o.result.hand.thread) e) refl
      by h asked is (by_lend w d deep e) = unwritten (lends w) (path_then h asked is ∙ ap (λ u. path_of (Some u) o.result.hand.thread) e) refl
      by h asked is (by_end sp r e g then kind) = let q = ends_of k o.number t s y i z kind h asked in end_passed k c v t f h asked is q.reference q.ended q.it q.spot q.at_it q.access q.path_by

  pub followed_fine : lost_place (sight c) it_now ≡ 0
  followed_fine = by_outcome (lost_place (sight c) it_now ≡ 0) (λ u. u.2) by
    where
      by : (h : Hand) → prepare (access_of i y) h0 ≡ requested h → o.result ≡ wait_step h → Asking y i h0 h → lost_place (sight c) it_now ≡ 0
      by h asked is (by_write w d thr) = (write_fine k c v t f w d thr h asked is).2
      by h asked is (by_reading w r e on_path stopped) = (reads_fine k c v t f w r on_path h asked is stopped).2
      by h asked is (by_share w d deep e) = unlent h asked is (shares w) (path_then h asked is ∙ ap (λ u. path_of (Some u) o.result.hand.thread) e) (λ u. refl)
      by h asked is (by_lend w d deep e) = lend_follows k c v t f h asked is w d deep e (path_then h asked is ∙ ap (λ u. path_of (Some u) o.result.hand.thread) e)
      by h asked is (by_end sp r e g then kind) = let a = then o.result.hand.thread in unlent h asked is (paths_of.ending a.0) (path_then h asked is ∙ a.1) (end_lends a.0)

  pub turn_fine : out_of_turn (sight c) it_now o.result.hand.thread.phase ≡ 0
  turn_fine = by_outcome (out_of_turn (sight c) it_now o.result.hand.thread.phase ≡ 0) (λ u. u.1) by
    where
      by : (h : Hand) → prepare (access_of i y) h0 ≡ requested h → o.result ≡ wait_step h → Asking y i h0 h → out_of_turn (sight c) it_now o.result.hand.thread.phase ≡ 0
      by h asked is (by_write w d thr) = (write_fine k c v t f w d thr h asked is).1
      by h asked is (by_reading w r e on_path stopped) = (reads_fine k c v t f w r on_path h asked is stopped).1
      by h asked is (by_share w d deep e) = shares_right k c v t f h asked is w d deep e (path_then h asked is ∙ ap (λ u. path_of (Some u) o.result.hand.thread) e)
      by h asked is (by_lend w d deep e) = lends_right k c v t f h asked is w d deep e (path_then h asked is ∙ ap (λ u. path_of (Some u) o.result.hand.thread) e)
      by h asked is (by_end sp r e g then kind) = let q = ends_of k o.number t s y i z kind h asked in end_turn k c v t f h asked is q.reference q.ended q.it q.spot q.at_it q.access q.path_by

-- THE EVENT

all_give : {A X : Type 0} (P : A → X → Type 0) (o : Option X) → ((a : A) → Gives (P a) o) → Gives (λ x. (a : A) → P a x) o
all_give P None g = tt
all_give P (Some x) g = λ a. g a

-- a place of a thread that goes on
record Placed (k : Cluster) : Type 0 where
  standing_it : Standing
  place : Lval
  on : GoesOn k standing_it

module _ (k : Cluster) (e : Event) (t : ℕ) (is : e.what ≡ Step t) (coherent : IsCoherent k) (few : FewEvents k) where
  abbrev D : Type 0
  D = Cluster × EntryView

  with_it : (P Q : D → Type 0) → Gives P (apply k e) → Gives Q (apply k e) → Gives (λ d. P d × Q d) (apply k e)
  with_it P Q p q = both_give P Q (λ d. P d × Q d) (apply k e) p q (λ d a b. (a, b))

  abbrev Settings : D → Type 0
  Settings d = (d.0.code ≡ k.code) × (d.0.options ≡ k.options)

  abbrev Leads : D → Type 0
  Leads d = (a : Placed k) → d.1.done ≡ None → LeadsAsItDid k d.0 a.standing_it.thread.number a.place

  abbrev Is : Sentence → D → Type 0
  Is n d = Holds d.0 n

  abbrev Places : D → Type 0
  Places d = HasPlaces d.0

  facts : Gives (λ (d : D). Facts k d.0 d.1 t) (apply k e)
  facts =
      weaker (λ d. (OwnIn k e coherent few d × Places d) × ((Settings d × Leads d) × (Is passed_in_a_walk d × Is gifts_got d))) (λ (d : D). Facts k d.0 d.1 t) (apply k e)
      (with_it (λ d. OwnIn k e coherent few d × Places d) (λ d. (Settings d × Leads d) × (Is passed_in_a_walk d × Is gifts_got d))
      (with_it (OwnIn k e coherent few) Places (own_step k e coherent few) (applied_part HasPlaces (λ c g. record { numbers_differ = g.numbers_differ; home_of_each = g.home_of_each; owner_of_each = g.owner_of_each }) k e coherent.sound few))
      (with_it (λ d. Settings d × Leads d) (λ d. Is passed_in_a_walk d × Is gifts_got d)
      (with_it Settings Leads (same_settings k e) (all_give (λ (a : Placed k) (d : D). d.1.done ≡ None → LeadsAsItDid k d.0 a.standing_it.thread.number a.place) (apply k e) (λ a. undone_leave k e coherent few a.standing_it a.place a.on)))
      (with_it (Is passed_in_a_walk) (Is gifts_got) (passed_kept k e coherent.sound few) (gifts_got_kept k e coherent few))))
      (λ d u. record { own = u.0.0 t is; places = u.0.1; code = u.1.0.0.0; options = u.1.0.0.1; walks = u.1.1.0; gifts = u.1.1.1; leads = λ done y w g. u.1.0.1 (record { standing_it = y; place = w; on = g }) done })

  -- so nothing is wrong of the own thread
  own_kept : (wrong : Sight → Standing → ℕ)
      → ((c : Cluster) (v : EntryView) (f : Facts k c v t) → early (me k c v t f.own f.places) ≡ 0 → early_gift (me k c v t f.own f.places) ≡ 0 → wrong (sight c) (me k c v t f.own f.places) ≡ 0)
      → Gives (λ (d : D). (x : Standing) → Among x (sight d.0).ground.threads → x.thread.number ≡ t → wrong (sight d.0) x ≡ 0) (apply k e)
  own_kept wrong go =
      weaker (λ (d : D). Facts k d.0 d.1 t) (λ (d : D). (x : Standing) → Among x (sight d.0).ground.threads → x.thread.number ≡ t → wrong (sight d.0) x ≡ 0) (apply k e) facts (λ d f x among number.
      let same = it_is k d.0 d.1 t f.own f.places x among number in
      let none : early (me k d.0 d.1 t f.own f.places) ≡ 0 = sym (same early) ∙ none_at early x (sight d.0).ground.threads f.walks among in
      let gift : early_gift (me k d.0 d.1 t f.own f.places) ≡ 0 = sym (same early_gift) ∙ none_at early_gift x (sight d.0).ground.threads f.gifts among in
      same (wrong (sight d.0)) ∙ go d.0 d.1 f none gift)

pub own_passed : OwnStepsKeep (λ s x. over_passed s (away s) x)
own_passed k e t is coherent few = own_kept k e t is coherent few (λ s x. over_passed s (away s) x) (λ c v f none gift. passed_fine k c v t f none gift)

pub own_followed : OwnStepsKeep lost_place
own_followed k e t is coherent few = own_kept k e t is coherent few lost_place (λ c v f none gift. followed_fine k c v t f none gift)

pub own_turn : OwnStepsKeep (λ s x. out_of_turn s x x.thread.phase)
own_turn k e t is coherent few = own_kept k e t is coherent few (λ s x. out_of_turn s x x.thread.phase) (λ c v f none gift. turn_fine k c v t f none gift)

-- OF ALL THREADS

either : (P : ℕ → Type 0) (n t : ℕ) → (n ≡ t → P n) → ((n ≡ t → ⊥) → P n) → P n
either P n t f g = Rattle.law_walks_others.proofs.Below.fr_typing.PlaceLemmas.eq_cases (λ b. P n) n t f g

together : (wrong : Sight → Standing → ℕ) → OwnStepsKeep wrong → OthersStepsKeep wrong → (k : Cluster) (e : Event) (t : ℕ) → e.what ≡ Step t → IsCoherent k → FewEvents k
    → Gives (λ (d : Cluster × EntryView). tot (wrong (sight d.0)) (sight d.0).ground.threads ≡ 0) (apply k e)
together wrong own others k e t is coherent few =
    both_give (λ (d : Cluster × EntryView). (x : Standing) → Among x (sight d.0).ground.threads → x.thread.number ≡ t → wrong (sight d.0) x ≡ 0) (λ (d : Cluster × EntryView). (x : Standing) → Among x (sight d.0).ground.threads → (x.thread.number ≡ t → ⊥) → wrong (sight d.0) x ≡ 0)
    (λ (d : Cluster × EntryView). tot (wrong (sight d.0)) (sight d.0).ground.threads ≡ 0) (apply k e) (own k e t is coherent few) (others k e t is coherent few)
    (λ d a b. none_all (wrong (sight d.0)) (sight d.0).ground.threads (λ x among. Rattle.law_walks_others.proofs.Below.fr_typing.PlaceLemmas.eq_cases (λ q. wrong (sight d.0) x ≡ 0) x.thread.number t (a x among) (b x among)))

pub steps_passed : StepsKeep passed_lie_here
steps_passed k e t is coherent few = together (λ s x. over_passed s (away s) x) own_passed others_passed k e t is coherent few

pub steps_followed : StepsKeep place_followed
steps_followed k e t is coherent few = together lost_place own_followed others_followed k e t is coherent few

pub steps_turn : StepsKeep waits_in_turn
steps_turn k e t is coherent few = together (λ s x. out_of_turn s x x.thread.phase) own_turn others_wait k e t is coherent few
