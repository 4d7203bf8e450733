-- From an instruction's line to the event: it is that plain step on the cluster's one heap.
use Rattle.std.proofs.Common.{◌≡◌, ℕ, ◌+◌, ◌≤◌, ◌==◌, ◌&&◌, ◌||◌, not, Bool, true, false, if◌then◌else◌, List, [], ◌∷◌, ◌++◌, length, take, drop, Option, Some, None, is_some, option_map, refl, sym, ap, ap₂, ◌∙◌, subst, arith}
use Rattle.std.specs.Prelude.{slice_get}
use Rattle.law_words_kept.proofs.Below.fr_typing.PlaceLemmas.{eq_cases}
use Rattle.law_words_kept.specs.Below.fr_base.declared.step.Fresh.{Fresh}
use Rattle.law_words_kept.specs.Below.fr_base.declared.step.Fresh.TheVariants as fresh
use Rattle.law_words_kept.specs.Below.fr_base.declared.instruction.Instr.{Instr}
use Rattle.law_words_kept.specs.Below.fr_plain.PlainState.{SameState, plain_state}
use Rattle.law_words_kept.specs.Below.fr_code.Machine.{CodeState}
use Rattle.law_words_kept.specs.Below.join_home.Tasks.{Task, TaskState, going, let_go, kept, asked, in_pair}
use Rattle.law_words_kept.specs.Below.journal.View.{EntryView}
use Rattle.law_words_kept.specs.Below.server_msgs.declared.message.Message.{Message}
use Rattle.law_words_kept.specs.Below.server_msgs.declared.message.Message.TheVariants as message
use Rattle.law_words_kept.specs.Below.heap_partition.declared.value.Owned.{Owned}
use Rattle.law_words_kept.specs.Below.thread_state.View.{ThreadState, is_over}
use Rattle.law_words_kept.specs.Below.thread_state.declared.phase.Phase.{Phase}
use Rattle.law_words_kept.specs.Below.thread_state.declared.phase.Phase.TheVariants as phase
use Rattle.law_words_kept.specs.Below.server_model.declared.event.Event.{Event}
use Rattle.law_words_kept.specs.Below.server_model.declared.event.What.{What}
use Rattle.law_words_kept.specs.Below.server_model.declared.event.What.TheVariants.{Step, Deliver, Evict, Migrate}
use Rattle.law_words_kept.specs.Below.server_model.Servers.{Rest, Server, Cluster, server_at}
use Rattle.law_words_kept.specs.Below.server_model.Work.{thread_in, set_thread, put_back, then_some}
use Rattle.law_words_kept.specs.Below.server_model.Events.{Stepped, can_step, has_phase, enabled, begin_work, step, step_in, stepped, does}
use Rattle.law_words_kept.specs.Below.server_model.Clusters.{with_server, hand_over_newer, done_at, apply}
use Rattle.law_words_kept.specs.Below.coherent_memory.Names.{tot, one, other, some, if_so}
use Rattle.law_words_kept.specs.Below.coherent_memory.Things.{Spot, in_slot, in_temp, as_gift, as_content, as_result, in_hand, Thing, holds, sent, stands, noted, thread_things, server_things, things_of}
use Rattle.law_words_kept.specs.Below.coherent_memory.Sight.{sight, with_things}
use Rattle.law_words_kept.specs.Below.coherent_memory.Requests.{home_of, is_par, is_par_end, same_truth, par_end}
use Rattle.law_words_kept.specs.Below.coherent_memory.Naming.{count_of, threads, started_at, uncounted_thread, zeroth_thread, named_mutexes, uncounted_mutex, zeroth_mutex}
use Rattle.law_words_kept.specs.Below.coherent_memory.Weights.{is_thread}
use Rattle.law_words_kept.specs.Below.coherent_memory.OneHeap.{two_in, is_given_thread, running_at, one_heap, state_of}
use Rattle.law_words_kept.specs.Below.coherent_memory.Coherent.{IsSound}
use Rattle.law_words_kept.specs.Below.law_counts_sums.Laws.{Gives, GoTo, FewEvents}
use Rattle.law_words_kept.proofs.Below.law_counts_sums.Trades.{tot-append}
use Rattle.law_words_kept.proofs.Below.law_counts_sums.Bags.{all_standing, rest_things}
use Rattle.law_words_kept.proofs.Below.law_counts_sums.Events.{tot-server}
use Rattle.law_words_kept.proofs.Below.law_counts_sums.Applied.{go_with}
use Rattle.law_words_kept.proofs.Below.law_counts_sums.Handing.{hand_over_newer_law}
use Rattle.law_words_kept.proofs.Below.law_counts_sums.Sending.{each_event_sends}
use Rattle.law_words_kept.proofs.Below.law_counts_sums.GiftsTaken.{none_here, gift_fits}
use Rattle.law_words_kept.proofs.Below.law_counts_sums.QuietSteps.{GiftFits}
use Rattle.law_words_kept.proofs.Below.law_counts_sums.Results.{both_give, then_gives, over_gives, test_gives, weaker}
use Rattle.law_heap_still.specs.events.Shows.{sign_of, ShowAlike}
use Rattle.law_heap_still.proofs.events.Alike.{Once, same_heap}
use Rattle.law_heap_still.proofs.events.Gifts.{placed, telling, places_told}
use Rattle.law_heap_still.proofs.events.Once.{shown_once}
use Rattle.law_heap_still.proofs.events.Sites.{begins, ends}
use Rattle.law_heap_steps.specs.turns.Turns.{StepsTo, IsPlainStep, instr_at, instr_of}
use Rattle.law_heap_steps.proofs.turns.Parts.{Own}
use Rattle.law_heap_steps.proofs.turns.OneTurn.{Calm, of_thread, tot_it, after, TurnOf, turn_of, once_too}
use Rattle.law_heap_steps.proofs.turns.PlainTurn.{turned}
use Rattle.law_heap_steps.proofs.turns.Instructions.{Turn, TurnIn, turn_in}
use Rattle.law_heap_steps.proofs.turns.Within.{Within, with_turn, servers_within}

-- NOTHING ELSE IS OF THE THREAD

abbrev nought : {A : Type 0} → A → ℕ
nought x = 0

abbrev pub gift_at : ℕ → ℕ → ℕ
gift_at t u = one (u == t)

abbrev pub placed_at : ℕ → Thing → ℕ
placed_at t = placed nought nought (gift_at t)

abbrev pub told_at : ℕ → Thing → ℕ
told_at t = telling nought nought (gift_at t)

so_at_most : (q : Bool) (n : ℕ) → if_so q n ≤ n
so_at_most true n = omega arith
so_at_most false n = omega arith

unkept : (t : ℕ) (r : Task) (n : ℕ) → told_at t (noted n r) ≡ 0
unkept t r n = by r.state
  where
    by : (x : TaskState) → told_at t (noted n (record { thread = r.thread; state = x })) ≡ 0
    by (kept v) = refl
    by going = refl
    by let_go = refl
    by (asked a b) = refl
    by (in_pair a b) = refl

unsent : (t n : ℕ) (m : Message) → told_at t (sent n m) ≡ 0
unsent t n (message.Finished u v) = refl
unsent t n (message.Joined u v b) = refl
unsent t n _ = refl

told_one : (t : ℕ) (x : Thing) → told_at t x ≤ is_thread t x
told_one t (stands s p z) = so_at_most (is_some z.gift) (one (z.number == t))
told_one t (noted n r) = omega (arith, unkept t r n)
told_one t (sent n m) = omega (arith, unsent t n m)
told_one t (holds p v) = by p
  where
    by : (p : Spot) → told_at t (holds p v) ≤ 0
    by (as_gift u) = omega arith
    by (in_slot u i) = omega arith
    by (in_temp u i) = omega arith
    by (as_content m) = omega arith
    by (as_result u) = omega arith
    by in_hand = omega arith
told_one t _ = omega arith

pub told_by : (t : ℕ) (xs : List Thing) → tot (told_at t) xs ≤ tot (is_thread t) xs
told_by t [] = omega arith
told_by t (x ∷ xs) = omega (arith, told_one t x, told_by t xs)

of_both : (t : ℕ) (x : Thing) → of_thread t x ≤ is_thread t x + placed_at t x
of_both t (stands s p z) = omega arith
of_both t (holds p v) = omega (arith, by p)
  where
    by : (p : Spot) → of_thread t (holds p v) ≤ placed_at t (holds p v)
    by (as_gift u) = omega arith
    by (in_slot u i) = omega arith
    by (in_temp u i) = omega arith
    by (as_content m) = omega arith
    by (as_result u) = omega arith
    by in_hand = omega arith
of_both t _ = omega arith

pub all_of : (t : ℕ) (xs : List Thing) → tot (of_thread t) xs ≤ tot (is_thread t) xs + tot (placed_at t) xs
all_of t [] = omega arith
all_of t (x ∷ xs) = omega (arith, of_both t x, all_of t xs)

pub itself_counts : (t : ℕ) → one (t == t) ≡ 1
itself_counts t = eq_cases (λ b. one b ≡ 1) t t (λ _. refl) (λ ne. absurd (ne refl))

-- a name that is counted, and not from 0, was given
pub given_by_count : (q r b : Bool) → one (q && not r) ≡ 0 → other b ≡ 0 → r || (not q && b) ≡ true
given_by_count q true b z w = refl
given_by_count true false b z w = absurd (cc z)
given_by_count false false true z w = refl
given_by_count false false false z w = absurd (cc w)

-- a thread without a gift stands once, and no gift is its
module _ (k : Cluster) (sound : IsSound k) (A B : List Thing) (n : ℕ) (x : ThreadState) (bare : x.gift ≡ None) (things : things_of k ≡ A ++ (thread_things n false x ++ B)) where
  abbrev tx : ℕ
  tx = x.number

  alone_there : tot (is_thread tx) A + tot (is_thread tx) B ≡ 0
  alone_there =
      let differ : tot (is_thread tx) (things_of k) ≤ 1 = sound.names.numbers_differ tx in
      let here : tot (is_thread tx) (things_of k) ≡ tot (is_thread tx) (A ++ (thread_things n false x ++ B)) = ap (tot (is_thread tx)) things in
      omega (arith, differ, here, itself_counts tx, tot_it A B n x bare (is_thread tx) (record { slots = λ u i v. refl; temps = λ u i v. refl; shared = λ l r. refl; lent = λ l r. refl; marks = λ l m. refl; used = λ u w. refl }))

  ungifted : tot (placed_at tx) A + tot (placed_at tx) B ≡ 0
  ungifted =
      let places : tot (placed_at tx) (things_of k) ≡ tot (told_at tx) (things_of k) = places_told nought nought (gift_at tx) k in
      let a : tot (placed_at tx) (things_of k) ≡ tot (placed_at tx) (A ++ (thread_things n false x ++ B)) = ap (tot (placed_at tx)) things in
      let b : tot (told_at tx) (things_of k) ≡ tot (told_at tx) (A ++ (thread_things n false x ++ B)) = ap (tot (told_at tx)) things in
      let mine : told_at tx (stands n false x) ≡ 0 = ap (λ o. if_so (is_some o) (one (tx == tx))) bare in
      let flat : Own (λ v. placed_at tx v ≡ 0) = record { slots = λ u i v. refl; temps = λ u i v. refl; shared = λ l r. refl; lent = λ l r. refl; marks = λ l m. refl; used = λ u w. refl } in
      let quiet : Own (λ v. told_at tx v ≡ 0) = record { slots = λ u i v. refl; temps = λ u i v. refl; shared = λ l r. refl; lent = λ l r. refl; marks = λ l m. refl; used = λ u w. refl } in
      omega (arith, places, a, b, mine, alone_there, told_by tx A, told_by tx B, tot_it A B n x bare (placed_at tx) flat, tot_it A B n x bare (told_at tx) quiet)

  lone : tot (of_thread tx) A + tot (of_thread tx) B ≡ 0
  lone = omega (arith, alone_there, ungifted, all_of tx A, all_of tx B)

  -- ITS NAME WAS GIVEN

  counted : (f : Thing → ℕ) → tot f (things_of k) ≡ 0 → f (stands n false x) ≡ 0
  counted f z =
      let here : tot f (things_of k) ≡ tot f (A ++ (thread_things n false x ++ B)) = ap (tot f) things in
      omega (arith, z, here, tot-append f A (thread_things n false x ++ B), tot-append f (thread_things n false x) B)

  given : is_given_thread (sight k) tx ≡ true
  given =
      let b : tot (threads (uncounted_thread (sight k))) (things_of k) + tot (named_mutexes (uncounted_mutex (sight k))) (things_of k) ≡ 0 = sound.names.names_counted in
      let c : tot (threads zeroth_thread) (things_of k) + tot (named_mutexes zeroth_mutex) (things_of k) ≡ 0 = sound.names.counts_from_one in
      let named : threads (uncounted_thread (sight k)) (stands n false x) ≡ 0 = counted (threads (uncounted_thread (sight k))) (omega (arith, b)) in
      let first : threads zeroth_thread (stands n false x) ≡ 0 = counted (threads zeroth_thread) (omega (arith, c)) in
      given_by_count (count_of tx == 0) (tx == 0) (some (tot (started_at (home_of tx) (count_of tx)) (things_of k))) (omega (arith, first)) (omega (arith, named))

-- THE CLUSTER AFTERWARDS

pub then_same : (a b c : CodeState) → SameState a b → SameState c b → SameState a c
then_same a b c p q = record {
  threads = λ u. p.threads u ∙ sym (q.threads u);
  made = λ u. p.made u ∙ sym (q.made u);
  pairs = λ u. p.pairs u ∙ sym (q.pairs u);
  objects = λ u. p.objects u ∙ sym (q.objects u);
  mutexes = λ u. p.mutexes u ∙ sym (q.mutexes u);
  given = λ u. p.given u ∙ sym (q.given u);
}

false_par : (i : Bool) → i ≡ false → (p : Bool) → other (same_truth i p) ≡ 0 → p ≡ false
false_par false e false z = refl
false_par false e true z = absurd (cc z)
false_par true e p z = absurd (cc e)

no_pair : (p : Phase) → is_par p ≡ false → two_in p ≡ None
no_pair (phase.WaitPar a b) e = absurd (cc e)
no_pair (phase.GotPar a b) e = absurd (cc e)
no_pair _ e = refl

pub not_over : (p : Phase) → can_step p ≡ true → is_over p ≡ false
not_over phase.Over e = absurd (cc e)
not_over _ e = refl

module _ (k : Cluster) (e : Event) (sound : IsSound k) (i : Instr) (s : Server) (here : server_at k.servers e.server ≡ Some s) (t : ℕ) (x : ThreadState) (at : thread_in s.threads t ≡ Some x) (number : x.number ≡ t) (on : can_step x.phase ≡ true)
    (code : slice_get k.code x.pc ≡ Some i) (plain_one : is_par_end (Some i) ≡ false) where
  abbrev n : ℕ
  n = s.rest.number

  pub calm : Calm x.phase
  calm = record {
    alone =
        let wrong : par_end (sight k) (record { server = n; packed = false; thread = x }) ≡ 0 = none_here k sound e.server s here t x at (par_end (sight k)) sound.requests.par_ends in
        let par : other (same_truth (is_par_end (Some i)) (is_par x.phase)) ≡ 0 = subst (λ j. other (same_truth (is_par_end j) (is_par x.phase)) ≡ 0) code wrong in
        no_pair x.phase (false_par (is_par_end (Some i)) plain_one (is_par x.phase) par);
    goes = not_over x.phase on;
  }

  module _ (bare : x.gift ≡ None) (d : Stepped) (turn : TurnIn (one_heap k) k.code s.rest x d) (sends : GoTo (with_server k.servers e.server (stepped s d).0) (drop (length s.rest.outbox) (stepped s d).0.rest.outbox)) where
    abbrev y : ThreadState
    y = after x turn.pc turn.slots turn.temps

    there : thread_in s.threads x.number ≡ Some x
    there = subst (λ u. thread_in s.threads u ≡ Some x) (sym number) at

    -- the server with the turn alone, and after the event
    abbrev s2 : Server
    s2 = with_turn s x y there

    abbrev s3 : Server
    s3 = (stepped s d).0

    abbrev k2 : Cluster
    k2 = record k { servers = with_server k.servers e.server s2 }

    abbrev k3 : Cluster
    k3 = record k { servers = hand_over_newer e.server (length s.rest.outbox) s3 k.servers }

    within : Within (thread_things n false x) (thread_things n false y) (things_of k) (things_of k2)
    within = servers_within s x y there k.servers e.server here

    lone_there : tot (of_thread x.number) within.front + tot (of_thread x.number) within.back ≡ 0
    lone_there = lone k sound within.front within.back n x bare within.before

    turns : TurnOf x.number (running_at x) (running_at y) (one_heap k) (one_heap k2)
    turns =
        let f = within.front in
        let r = within.back in
        let named : is_given_thread (with_things k (f ++ (thread_things n false x ++ r))) x.number ≡ true = subst (λ l. is_given_thread (with_things k l) x.number ≡ true) within.before (given k sound f r n x bare within.before) in
        let both : TurnOf x.number (running_at x) (running_at y) (state_of (with_things k (f ++ (thread_things n false x ++ r)))) (state_of (with_things k (f ++ (thread_things n false y ++ r)))) =
        turn_of k f r n x turn.pc turn.slots turn.temps bare calm (omega (arith, lone_there)) (omega (arith, lone_there)) turn.even named in
        subst (λ l. TurnOf x.number (running_at x) (running_at y) (state_of (with_things k l)) (one_heap k2)) (sym within.before)
        (subst (λ l. TurnOf x.number (running_at x) (running_at y) (state_of (with_things k (f ++ (thread_things n false x ++ r)))) (state_of (with_things k l))) (sym within.afterwards) both)

    once : Once (sight k2)
    once =
        let f = within.front in
        let r = within.back in
        subst (λ l. Once (with_things k l)) (sym within.afterwards)
        (once_too k f r n x turn.pc turn.slots turn.temps bare calm (omega (arith, lone_there)) (omega (arith, lone_there)) turn.even (subst (λ l. Once (with_things k l)) within.before (shown_once k sound)))

    -- the rest of the server shows the same
    server_alike : ShowAlike (server_things s2) (server_things s3)
    server_alike w z =
        let g : Thing → ℕ = λ v. w (sign_of v) in
        let r2 = d.hand.work.rest in
        let ts = set_thread s.threads y in
        let site : tot g (all_standing r2.number (set_thread s.threads d.hand.thread) ++ rest_things r2.number 0 r2) ≡ tot g (all_standing n ts ++ rest_things n 0 r2) =
        ap₂ (λ (m : ℕ) (v : ThreadState). tot g (all_standing m (set_thread s.threads v) ++ rest_things m 0 r2)) turn.moves.number turn.thread in
        let rest : tot g (rest_things n 0 s.rest) ≡ tot g (rest_things n 0 r2) = turn.moves.alike w z in
        omega (
          arith,
          begins s2 w z,
          ends s.events (Some d.hand.thread.number) d.names (put_back s.threads d.hand) w z,
          site,
          rest,
          tot-append g (all_standing n ts) (rest_things n 0 s.rest),
          tot-append g (all_standing n ts) (rest_things n 0 r2),
        )

    alike : ShowAlike (things_of k2) (things_of k3)
    alike w z =
        let g : Thing → ℕ = λ v. w (sign_of v) in
        let older = length s.rest.outbox in
        let goes = go_with k.servers e.server s3 (take older s3.rest.outbox) (drop older s3.rest.outbox) sends in
        omega (arith, hand_over_newer_law g e.server older s s3 k.servers here goes, (tot-server g k.servers e.server s s3 here).1, (tot-server g k.servers e.server s s2 here).1, server_alike w z)

    heap_same : SameState (one_heap k3) (one_heap k2)
    heap_same = same_heap k2 k3 refl once alike

    -- the event is that step
    pub is_step : IsPlainStep k (k3, (stepped s d).1)
    is_step u names who done c same =
        let own : x.number ≡ u = sym (ap (λ (v : ThreadState). v.number) turn.thread) ∙ (let r : d.hand.thread.number ≡ u = cc in r) in
        let quiet : names ≡ fresh.None = (let r : Some names ≡ Some fresh.None = sym done ∙ turn.named in cc) in
        let steps : StepsTo k.code c x.number fresh.None (one_heap k2) d.hand.work.labels = turned k.code c x.number (running_at x) (running_at y) (one_heap k) (one_heap k2) turns same d.hand.work.labels turn.does in
        let at_end : StepsTo k.code c x.number fresh.None (one_heap k3) d.hand.work.labels = record { after = steps.after; steps = steps.steps; same = then_same (plain_state steps.after.state) (one_heap k2) (one_heap k3) steps.same heap_same; labelled = steps.labelled } in
        subst (λ v. StepsTo k.code c v names (one_heap k3) d.hand.work.labels) own (subst (λ f. StepsTo k.code c x.number f (one_heap k3) d.hand.work.labels) (sym quiet) at_end)

-- FROM THE LINE TO THE EVENT

numbered : (ts : List ThreadState) (t : ℕ) (x : ThreadState) → thread_in ts t ≡ Some x → x.number ≡ t
numbered [] t x h = absurd (cc h)
numbered (z ∷ ts) t x h = eq_cases (λ q. (if q then Some z else thread_in ts t) ≡ Some x → x.number ≡ t) z.number t (λ f g. let same : z ≡ x = cc in subst (λ (v : ThreadState). v.number ≡ t) same f) (λ _ g. numbered ts t x g) h

-- a thread that is about to step the instruction at the event's server
pub record AtStep (k : Cluster) (e : Event) (i : Instr) (s : Server) (t : ℕ) (x : ThreadState) : Type 0 where
  pub here : server_at k.servers e.server ≡ Some s
  pub at : thread_in s.threads t ≡ Some x
  pub number : x.number ≡ t
  pub on : can_step x.phase ≡ true
  pub code : slice_get k.code x.pc ≡ Some i
  pub what : e.what ≡ Step t

-- what an instruction's line says: a step that is done is such a turn
abbrev pub Line : Cluster → Event → Instr → Type 0
Line k e i =
    (s : Server) (t : ℕ) (x : ThreadState) → AtStep k e i s t x
    → Gives (λ (d : Stepped). (names : Fresh) → d.names ≡ Some names → TurnIn (one_heap k) k.code s.rest x d) (step k.options.servers i (record { work = begin_work s.rest; thread = x }))

-- a line that needs nothing of the cluster
pub own_line : (k : Cluster) (e : Event) (i : Instr) → ((r : Rest) (x : ThreadState) → slice_get k.code x.pc ≡ Some i → Gives (Turn k.code r x) (step k.options.servers i (record { work = begin_work r; thread = x }))) → Line k e i
own_line k e i line s t x a =
    weaker (Turn k.code s.rest x) (λ (d : Stepped). (names : Fresh) → d.names ≡ Some names → TurnIn (one_heap k) k.code s.rest x d) (step k.options.servers i (record { work = begin_work s.rest; thread = x })) (line s.rest x a.code)
    (λ d turn names done. turn_in (one_heap k) k.code s.rest x d turn)

-- where its messages go to servers of the run
abbrev pub Sends : Cluster → Event → Server → Server × EntryView → Type 0
Sends k e s r = GoTo (with_server k.servers e.server r.0) (drop (length s.rest.outbox) r.0.rest.outbox)

-- what an instruction's line leads to: that of the event
abbrev pub LineOf : (Cluster × EntryView → Type 0) → Cluster → Event → Instr → Type 0
LineOf P k e i =
    (s : Server) (t : ℕ) (x : ThreadState) → AtStep k e i s t x
    → Gives (λ (d : Stepped). Sends k e s (stepped s d) → P (record k { servers = hand_over_newer e.server (length s.rest.outbox) (stepped s d).0 k.servers }, (stepped s d).1)) (step k.options.servers i (record { work = begin_work s.rest; thread = x }))

module _ (P : Cluster × EntryView → Type 0) (k : Cluster) (e : Event) (i : Instr) (sound : IsSound k) (few : FewEvents k) (line : LineOf P k e i) where
  abbrev Goes : Server → Server × EntryView → Type 0
  Goes s r = Sends k e s r

  abbrev Done : Server → Server × EntryView → Type 0
  Done s r = Goes s r → P (record k { servers = hand_over_newer e.server (length s.rest.outbox) r.0 k.servers }, r.1)

  of_thread_there : (s : Server) → server_at k.servers e.server ≡ Some s → (t : ℕ) → e.what ≡ Step t → enabled k.options s (Step t) ≡ true → (o : Option ThreadState) → thread_in s.threads t ≡ o → then_some o (λ x. slice_get k.code x.pc) ≡ Some i
      → Gives (Done s) (option_map (stepped s) (then_some (option_map (λ x. record { work = begin_work s.rest; thread = x }) o) (step_in k.code k.options.servers)))
  of_thread_there s h t what on None a j = tt
  of_thread_there s h t what on (Some x) a j =
      let able : can_step x.phase ≡ true = subst (λ o. has_phase can_step o ≡ true) a on in
      let number = numbered s.threads t x a in
      subst (λ o. Gives (Done s) (option_map (stepped s) (then_some o (λ z. step k.options.servers z (record { work = begin_work s.rest; thread = x }))))) (sym j)
      (over_gives (λ (d : Stepped). Done s (stepped s d)) (Done s) (step k.options.servers i (record { work = begin_work s.rest; thread = x })) (stepped s)
      (line s t x (record { here = h; at = a; number = number; on = able; code = j; what = what })) (λ d done. done))

  of_what : (s : Server) → server_at k.servers e.server ≡ Some s → (w : What) → e.what ≡ w → instr_at k w s ≡ Some i → Gives (Done s) (done_at k w s)
  of_what s h (Step t) what j = test_gives (Done s) (enabled k.options s (Step t)) (does k.code k.options s (Step t)) (λ on. of_thread_there s h t what on (thread_in s.threads t) refl j)
  of_what s h (Deliver m) what j = absurd (cc j)
  of_what s h (Evict c) what j = absurd (cc j)
  of_what s h (Migrate t g) what j = absurd (cc j)

  of_server : (s : Server) → server_at k.servers e.server ≡ Some s → instr_at k e.what s ≡ Some i → Gives (P) (option_map (λ d. (record k { servers = hand_over_newer e.server (length s.rest.outbox) d.0 k.servers }, d.1)) (done_at k e.what s))
  of_server s h j =
      over_gives (λ r. Goes s r × Done s r) (P) (done_at k e.what s) _
      (both_give (Goes s) (Done s) (λ r. Goes s r × Done s r) (done_at k e.what s) (each_event_sends k e sound few s h) (of_what s h e.what refl j) (λ r a b. (a, b))) (λ r g. g.1 g.0)

  -- where the line stands, so is each event that steps the instruction
  pub events_are : instr_of k e ≡ Some i → Gives (P) (apply k e)
  events_are q = then_gives (P) (server_at k.servers e.server) _ (λ s h. of_server s h (subst (λ o. then_some o (instr_at k e.what) ≡ Some i) h q))

-- the event is that plain step
abbrev pub PlainLine : Cluster → Event → Instr → Type 0
PlainLine k e i = LineOf (IsPlainStep k) k e i

pub events_are_plain : (k : Cluster) (e : Event) (i : Instr) → IsSound k → FewEvents k → PlainLine k e i → instr_of k e ≡ Some i → Gives (IsPlainStep k) (apply k e)
events_are_plain k e i sound few line = events_are (IsPlainStep k) k e i sound few line

-- the same where the thread has no gift and all but it stays
pub steps_are_plain : (k : Cluster) (e : Event) (i : Instr) → IsSound k → FewEvents k → is_par_end (Some i) ≡ false → ((g : Option Owned) → GiftFits i g → g ≡ None) → Line k e i → instr_of k e ≡ Some i → Gives (IsPlainStep k) (apply k e)
steps_are_plain k e i sound few p bare line =
    events_are_plain k e i sound few (λ s t x a.
    let fit = gift_fits k sound e.server s a.here t x a.at i a.code in
    weaker (λ (d : Stepped). (names : Fresh) → d.names ≡ Some names → TurnIn (one_heap k) k.code s.rest x d)
    (λ (d : Stepped). Sends k e s (stepped s d) → IsPlainStep k (record k { servers = hand_over_newer e.server (length s.rest.outbox) (stepped s d).0 k.servers }, (stepped s d).1)) (step k.options.servers i (record { work = begin_work s.rest; thread = x }))
    (line s t x a) (λ d turn sends u names who done. is_step k e sound i s a.here t x a.at a.number a.on a.code p (bare x.gift fit.0) d (turn names done) sends u names who done))
