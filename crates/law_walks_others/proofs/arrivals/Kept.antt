-- What other threads have passed, followed, taken and wait for where an object comes.
use Rattle.std.proofs.Common.{◌≡◌, ◌≤◌, ℕ, ◌==◌, ◌&&◌, Bool, true, false, Option, Some, None, refl, sym, ap, subst, ◌∙◌, arith}
use Rattle.std.proofs.lemmas.Bool.{eqb-true}
use Rattle.std.proofs.lemmas.Bool.Decides.{nat_tests}
use Rattle.law_counts_waiting.specs.Below.fr_base.Names.{same_object}
use Rattle.law_counts_waiting.specs.Below.heap_partition.declared.value.Cell.{Cell}
use Rattle.law_counts_waiting.specs.Below.thread_state.View.{is_over}
use Rattle.law_counts_waiting.specs.Below.thread_state.declared.phase.Phase.{Phase}
use Rattle.law_counts_waiting.specs.Below.thread_state.declared.phase.Phase.TheVariants as phase
use Rattle.law_counts_waiting.specs.Below.server_msgs.declared.message.Message.{Message}
use Rattle.law_counts_waiting.specs.Below.server_msgs.declared.message.Message.TheVariants as message
use Rattle.law_counts_waiting.specs.Below.journal.View.{EntryView}
use Rattle.law_counts_waiting.specs.Below.server_model.declared.event.Event.{Event}
use Rattle.law_counts_waiting.specs.Below.server_model.declared.event.What.TheVariants.{Deliver}
use Rattle.law_counts_waiting.specs.Below.server_model.Servers.{Server, Cluster}
use Rattle.law_counts_waiting.specs.Below.server_model.Clusters.{apply}
use Rattle.law_counts_waiting.specs.Below.coherent_memory.Names.{tot, other, Among}
use Rattle.law_counts_waiting.specs.Below.coherent_memory.Things.{Thing, in_cell, sent, message_things, things_of}
use Rattle.law_counts_waiting.specs.Below.coherent_memory.Follow.{Standing, threads_in, thread_at}
use Rattle.law_counts_waiting.specs.Below.coherent_memory.OneHeap.{two_in}
use Rattle.law_counts_waiting.specs.Below.coherent_memory.Passing.{FollowedLaw, PassedLaw}
use Rattle.law_counts_waiting.specs.Below.coherent_memory.Turn.{TurnLaw}
use Rattle.law_counts_waiting.specs.Below.coherent_memory.Sight.{sight}
use Rattle.law_counts_waiting.specs.Below.coherent_memory.Walking.{path, asks_for, asked_for, lost_place, out_of_turn, over_passed, away, too_far}
use Rattle.law_counts_waiting.specs.Below.coherent_memory.Requests.{is_cell, in_phase, carries, old_word}
use Rattle.law_counts_waiting.proofs.Below.coherent_memory.Names.{and_left, and_right}
use Rattle.law_counts_waiting.specs.Below.coherent_memory.Coherent.{Holds, passed_lie_here, place_followed, waits_in_turn}
use Rattle.law_counts_waiting.proofs.Below.coherent_memory.Words.{named, itself, none_at, none_all}
use Rattle.law_counts_waiting.proofs.Below.coherent_memory.Followed.{followed_law}
use Rattle.law_counts_waiting.proofs.Below.coherent_memory.Passing.{passed_law}
use Rattle.law_counts_waiting.proofs.Below.coherent_memory.Turn.{turn_law}
use Rattle.law_counts_waiting.specs.Below.coherent_types.ClusterTypes.{IsCoherent}
use Rattle.law_counts_waiting.specs.Below.law_counts_sums.Laws.{Gives, FewEvents}
use Rattle.law_counts_waiting.proofs.Below.law_counts_sums.Results.{both_give, weaker}
use Rattle.law_counts_waiting.proofs.Below.law_counts_sums.MutexResults.{has}
use Rattle.law_counts_waiting.proofs.Below.law_counts_sums.Sending.{applied_part}
use Rattle.law_counts_waiting.specs.Below.law_words_paths.paths.HeapStore.{GoesOn, HasPaths}
use Rattle.law_counts_waiting.proofs.Below.law_words_paths.paths.Alike.{coherent_has_paths}
use Rattle.law_counts_waiting.proofs.Below.law_words_paths.paths.Contained.{among_thread}
use Rattle.law_counts_waiting.proofs.Below.law_words_kept.reads.FreshReads.{chain_apart}
use Rattle.law_counts_waiting.proofs.Below.law_results_reads.Alone.{strays, all_less, needed_less, is_asked}
use Rattle.law_counts_waiting.proofs.Below.law_results_reads.Awaits.{awaited_mine}
use Rattle.law_counts_waiting.proofs.Below.law_results_reads.Made.{OwnedBy}
use Rattle.law_counts_waiting.specs.Below.law_words_paths.words.Reworded.{HasPlaces}
use Rattle.law_counts_waiting.specs.Below.law_words_paths.words.Unmoved.{Delivers}
use Rattle.law_walks_others.proofs.Below.law_counts_waiting.waits.Written.{Written}
use Rattle.law_walks_others.proofs.pointers.Still.{places_of}
use Rattle.law_walks_others.proofs.pointers.Sentences.{SameOn, lost_same, turn_kept, old_same}
use Rattle.law_walks_others.proofs.pointers.Followed.{same_settings}
use Rattle.law_walks_others.proofs.still.Asked.{NoStep, lost_of, lost_by}
use Rattle.law_walks_others.proofs.still.Filled.{few_wait, unwaiting}
use Rattle.law_walks_others.proofs.still.Turn.{But, others_asked, none_else, unwaiting as unwaiting_turn}
use Rattle.law_walks_others.proofs.still.Passing.{away_still}
use Rattle.law_walks_others.specs.arrivals.Landed.{OthersWhereItComesKeep}
use Rattle.law_walks_others.proofs.arrivals.Seen.{Leaves, leaves}
use Rattle.law_walks_others.proofs.arrivals.Own.{OwnLeft, own_left}
use Rattle.law_walks_others.proofs.arrivals.OwnKept.{own_followed, own_passed}
use Rattle.law_walks_others.proofs.arrivals.Others.{Stood, stood, same_there, lies_left}

none_true : (b : Bool) → other b ≡ 0 → b ≡ true
none_true true z = refl
none_true false z = absurd (cc z)

-- WHO WAITS FOR IT

standing_of : (f : Phase → Bool) (o : Option Standing) → in_phase f o ≡ true → (x : Standing) × (o ≡ Some x) × (f x.thread.phase ≡ true)
standing_of f None e = absurd (cc e)
standing_of f (Some x) e = (x, refl, e)

is_waiting : (p : Phase) (w : ℕ) → is_cell w p ≡ true → p ≡ phase.WaitCell w
is_waiting (phase.WaitCell v) w e = ap phase.WaitCell (eqb-true v w e)
is_waiting _ w e = absurd (cc e)

module _ (k : Cluster) (e : Event) (old : ℕ) (cell : Cell) (t : ℕ) (d : Delivers k e (message.Moved old cell t)) (co : IsCoherent k) (few : FewEvents k) where
  p : HasPaths k
  p = coherent_has_paths k co

  abbrev m : Message
  m = message.Moved old cell t

  abbrev n : ℕ
  n = d.server.rest.number

  -- what is wrong with no message isn't with this one
  unbroken : (g : Thing → ℕ) → tot g (things_of k) ≡ 0 → g (sent n m) ≡ 0
  unbroken g z = let all : tot g (message_things n m) ≤ tot g (things_of k) = has k co.sound e.server d.server d.there d.place m d.message g in omega (arith, z, all)

  -- in a chain of its own slots the object stands, where no other thread reads
  written_there : Written k p t cell.object
  written_there =
      let carried : other (in_phase (is_cell old) (thread_at (sight k).ground.threads t)) ≡ 0 = unbroken (carries (sight k)) co.sound.requests.carry_what_is_asked in
      let z = standing_of (is_cell old) (thread_at (sight k).ground.threads t) (none_true (in_phase (is_cell old) (thread_at (sight k).ground.threads t)) carried) in
      let among = among_thread (sight k).ground.threads t z.0 z.1 in
      let waits_now = is_waiting z.0.thread.phase old z.2 in
      let goes : GoesOn k z.0 = record { among = among.0; going = ap is_over waits_now } in
      let turn = co.sound.walks.wait_in_turn z.0 old among.0 waits_now in
      let a = turn.awaited in
      let asked : 1 ≤ tot (asked_for t a) (things_of k) = subst (λ u. 1 ≤ tot (asked_for u a) (things_of k)) among.1 turn.asked in
      let none : tot (strays t a cell.object) (things_of k) ≡ 0 = omega (arith, asked, all_less t a cell.object (things_of k), co.sound.requests.one_answer t, needed_less t a cell.object (things_of k), co.sound.names.numbers_differ t) in
      let its : strays t a cell.object (sent n m) ≡ 0 = unbroken (strays t a cell.object) none in
      let asks : asks_for t a m ≡ true = is_asked t (same_object cell.object cell.object) (asks_for t a m) (itself cell.object cell.object refl) its in
      let mine : (t == t && a.comes) ≡ true = and_left (t == t && a.comes) (a.word == old && same_object cell.object a.object) asks in
      let brings : (a.word == old && same_object cell.object a.object) ≡ true = and_right (t == t && a.comes) (a.word == old && same_object cell.object a.object) asks in
      let object : a.object ≡ cell.object = sym (named cell.object a.object (and_right (a.word == old) (same_object cell.object a.object) brings)) in
      let owned : OwnedBy k p z.0.thread.number cell.object = subst (OwnedBy k p z.0.thread.number) object (awaited_mine k p z.0 goes (path (sight k) z.0) refl old a (and_right (t == t) a.comes mine) turn.turn) in
      subst (λ u. Written k p u cell.object) among.1 (record {
        chain = record { slot = owned.slot; boxes = owned.boxes; leads_there = owned.leads };
        unread = λ x reads. chain_apart k p z.0 goes (ap two_in waits_now) x (in_cell cell.object) reads owned.slot owned.boxes owned.leads;
      })

  -- WHAT IS KNOWN AFTERWARDS

  still : NoStep e.what
  still = subst NoStep (sym d.what) tt

  same : {X : Type 0} {a b : X} → Some a ≡ Some b → a ≡ b
  same f = cc

  asked : Gives (But k e co.sound few still t) (apply k e)
  asked = others_asked k e co.sound few still t (λ u b ne s2 there.
      ap (λ w. lost_by u b w s2) d.what ∙ ap (λ (z : Server). lost_by u b (Deliver d.place) z) (same (sym there ∙ d.there)) ∙ ap (lost_of u b) d.message ∙ none_else t u b.comes (b.word == old && same_object cell.object b.object) ne)

  abbrev Settings : Cluster × EntryView → Type 0
  Settings r = (r.0.code ≡ k.code) × (r.0.options ≡ k.options)

  abbrev Places : Cluster × EntryView → Type 0
  Places r = HasPlaces r.0

  abbrev Known : Cluster × EntryView → Type 0
  Known r = (Settings r × Places r) × (Leaves k n cell t r.0 × But k e co.sound few still t r)

  places : Gives Places (apply k e)
  places = applied_part HasPlaces (λ c s. record { numbers_differ = s.numbers_differ; home_of_each = s.home_of_each; owner_of_each = s.owner_of_each }) k e co.sound few

  known : Gives Known (apply k e)
  known =
      both_give (λ r. Settings r × Places r) (λ r. Leaves k n cell t r.0 × But k e co.sound few still t r) Known (apply k e) (both_give Settings Places (λ r. Settings r × Places r) (apply k e) (same_settings k e) places (λ r a b. (a, b)))
      (both_give (λ r. Leaves k n cell t r.0) (But k e co.sound few still t) (λ r. Leaves k n cell t r.0 × But k e co.sound few still t r) (apply k e) (leaves k e old cell t d co few) asked (λ r a b. (a, b))) (λ r a b. (a, b))

  -- OTHER THREADS

  module _ (r : Cluster × EntryView) (a : Known r) (y : Standing) (among : Among y (sight r.0).ground.threads) (ne : y.thread.number ≡ t → ⊥) where
    abbrev c : Cluster
    c = r.0

    s : Stood k c n cell t (places_of co) a.0.1 a.1.0 y
    s = stood k c n cell t (places_of co) a.0.1 a.1.0 y among (λ f. ne (sym f))

    abbrev x : Standing
    x = s.standing

    on : SameOn k c x.thread.number (path (sight k) x)
    on = same_there k c n cell t (places_of co) a.0.1 a.1.0 p written_there y s among (λ f. ne (sym f))

    followed_other : lost_place (sight c) y ≡ 0
    followed_other =
        let before : lost_place (sight k) x ≡ 0 = none_at (lost_place (sight k)) x (sight k).ground.threads (let law : FollowedLaw = followed_law in law.none_counted (sight k) co.sound.walks.have_followed) s.among in
        s.same (lost_place (sight c)) ∙ lost_same k c x a.0.0.0 a.0.0.1 on ∙ before

    waits_other : out_of_turn (sight c) y y.thread.phase ≡ 0
    waits_other =
        let before : out_of_turn (sight k) x x.thread.phase ≡ 0 = none_at (λ z. out_of_turn (sight k) z z.thread.phase) x (sight k).ground.threads (let law : TurnLaw = turn_law in law.none_counted (sight k) co.sound.walks.wait_in_turn) s.among in
        s.same (λ z. out_of_turn (sight c) z z.thread.phase) ∙ turn_kept k c x a.0.0.0 a.0.0.1 on (λ b. a.1.1 x.thread.number b (λ f. ne (sym (f ∙ s.number)))) x.thread.phase before

    taken_other : old_word (sight c) y y.thread.phase ≡ 0
    taken_other =
        let before : old_word (sight k) x x.thread.phase ≡ 0 = none_at (λ z. old_word (sight k) z z.thread.phase) x (sight k).ground.threads co.sound.requests.taken_is_new s.among in
        s.same (λ z. old_word (sight c) z z.thread.phase) ∙ old_same k c x a.0.0.0 a.0.0.1 on x.thread.phase ∙ before

    passed_other : over_passed (sight c) (away (sight c)) y ≡ 0
    passed_other =
        let law : PassedLaw = passed_law in
        let none = law.none_counted k co.sound.walks.have_passed in
        let before : over_passed (sight k) (away (sight k)) x ≡ 0 = none_at (over_passed (sight k) (away (sight k))) x (sight k).ground.threads (omega (arith, none)) s.among in
        let far : too_far (sight k) x ≡ 0 = none_at (too_far (sight k)) x (sight k).ground.threads co.sound.walks.passed_within s.among in
        s.same (over_passed (sight c) (away (sight c))) ∙ away_still k c x a.0.0.0 on (λ w is i q lt led l. omega (arith, l, lies_left k c n cell t (places_of co) a.0.1 a.1.0 x.server q)) far before

  -- WHO WAITS

  -- the thread itself doesn't any more
  own_waits : (r : Cluster × EntryView) → Known r → (y : Standing) → Among y (sight r.0).ground.threads → y.thread.number ≡ t → out_of_turn (sight r.0) y y.thread.phase ≡ 0
  own_waits r a y among own =
      let left : Leaves k n cell t r.0 = a.1.0 in
      unwaiting_turn (sight r.0) y y.thread.phase (unwaiting t r.0 (omega (arith, left.awake, few_wait t (things_of k), co.sound.names.numbers_differ t)) y among own)

  -- of each thread, where it is so of the others and of the thread itself
  of_all : (r : Cluster × EntryView) (wrong : Standing → ℕ) → ((y : Standing) → Among y (sight r.0).ground.threads → (y.thread.number ≡ t → ⊥) → wrong y ≡ 0) → ((y : Standing) → Among y (sight r.0).ground.threads → y.thread.number ≡ t → wrong y ≡ 0)
      → tot wrong (threads_in (things_of r.0)) ≡ 0
  of_all r wrong others own = none_all wrong (threads_in (things_of r.0)) (λ y among. by y among (y.thread.number == t) refl)
    where
      differs : (y : Standing) → y.thread.number ≡ t → (y.thread.number == t) ≡ false → ⊥
      differs y same2 f = let equal : (y.thread.number == t) ≡ true = grind (arith, nat_tests, same2) in absurd (cc (sym equal ∙ f))

      by : (y : Standing) → Among y (sight r.0).ground.threads → (b : Bool) → (y.thread.number == t) ≡ b → wrong y ≡ 0
      by y among true f = own y among (grind (arith, nat_tests, f))
      by y among false f = others y among (λ same2. differs y same2 f)

  pub all_wait : Gives (λ (r : Cluster × EntryView). Holds r.0 waits_in_turn) (apply k e)
  all_wait = weaker Known (λ (r : Cluster × EntryView). Holds r.0 waits_in_turn) (apply k e) known (λ r a. of_all r (λ y. out_of_turn (sight r.0) y y.thread.phase) (λ y among ne. waits_other r a y among ne) (λ y among own. own_waits r a y among own))

  own_known : Gives (λ (r : Cluster × EntryView). OwnLeft k e old cell t d co few r.0) (apply k e)
  own_known = own_left k e old cell t d co few

  pub all_followed : Gives (λ (r : Cluster × EntryView). Holds r.0 place_followed) (apply k e)
  all_followed =
      both_give Known (λ (r : Cluster × EntryView). OwnLeft k e old cell t d co few r.0) (λ (r : Cluster × EntryView). Holds r.0 place_followed) (apply k e) known own_known
      (λ r a b. of_all r (lost_place (sight r.0)) (λ y among ne. followed_other r a y among ne) (λ y among own. own_followed k e old cell t d co few r.0 a.0.0.0 a.0.0.1 a.0.1 a.1.0 b y among own))

  pub all_lie : Gives (λ (r : Cluster × EntryView). Holds r.0 passed_lie_here) (apply k e)
  all_lie =
      both_give Known (λ (r : Cluster × EntryView). OwnLeft k e old cell t d co few r.0) (λ (r : Cluster × EntryView). Holds r.0 passed_lie_here) (apply k e) known own_known
      (λ r a b. of_all r (over_passed (sight r.0) (away (sight r.0))) (λ y among ne. passed_other r a y among ne) (λ y among own. own_passed k e old cell t d co few r.0 a.0.0.0 a.0.0.1 a.0.1 a.1.0 b y among own))

pub others_followed : OthersWhereItComesKeep lost_place
others_followed k e old c t d co few = weaker (Known k e old c t d co few) (λ (r : Cluster × EntryView). (x : Standing) → Among x (sight r.0).ground.threads → (x.thread.number ≡ t → ⊥) → lost_place (sight r.0) x ≡ 0) (apply k e) (known k e old c t d co few) (λ r a y among ne. followed_other k e old c t d co few r a y among ne)

pub others_wait : OthersWhereItComesKeep (λ s x. out_of_turn s x x.thread.phase)
others_wait k e old c t d co few = weaker (Known k e old c t d co few) (λ (r : Cluster × EntryView). (x : Standing) → Among x (sight r.0).ground.threads → (x.thread.number ≡ t → ⊥) → out_of_turn (sight r.0) x x.thread.phase ≡ 0) (apply k e) (known k e old c t d co few) (λ r a y among ne. waits_other k e old c t d co few r a y among ne)

pub others_taken : OthersWhereItComesKeep (λ s x. old_word s x x.thread.phase)
others_taken k e old c t d co few = weaker (Known k e old c t d co few) (λ (r : Cluster × EntryView). (x : Standing) → Among x (sight r.0).ground.threads → (x.thread.number ≡ t → ⊥) → old_word (sight r.0) x x.thread.phase ≡ 0) (apply k e) (known k e old c t d co few) (λ r a y among ne. taken_other k e old c t d co few r a y among ne)

pub others_passed : OthersWhereItComesKeep (λ s x. over_passed s (away s) x)
others_passed k e old c t d co few = weaker (Known k e old c t d co few) (λ (r : Cluster × EntryView). (x : Standing) → Among x (sight r.0).ground.threads → (x.thread.number ≡ t → ⊥) → over_passed (sight r.0) (away (sight r.0)) x ≡ 0) (apply k e) (known k e old c t d co few) (λ r a y among ne. passed_other k e old c t d co few r a y among ne)
