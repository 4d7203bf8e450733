-- A thread of a pair ends with unit, in each message that tells its end, after each event of a coherent cluster.
use Rattle.std.proofs.Common.{◌≡◌, inl, inr, ℕ, zero, suc, ◌+◌, ◌*◌, ◌^◌, ◌≤◌, ◌<◌, ◌==◌, ◌&&◌, nat_le, Bool, true, false, if◌then◌else◌, List, [], ◌∷◌, Option, Some, None, option_map, refl, sym, ap, subst, ◌∙◌, arith}
use Rattle.std.specs.Prelude.{slice_get}
use Rattle.std.proofs.lemmas.Bool.{eqb-true, eq-eqb}
use Rattle.std.proofs.lemmas.Bool.Decides.{nat_tests}
use Rattle.law_results_reads.proofs.Below.fr_typing.PlaceLemmas.{eq_cases}
use Rattle.law_results_reads.specs.Below.fr_base.Rooms.{WithRoom}
use Rattle.law_results_reads.specs.Below.fr_base.declared.step.Fresh.{Fresh}
use Rattle.law_results_reads.specs.Below.fr_base.declared.instruction.Instr.{Instr}
use Rattle.law_results_reads.specs.Below.fr_base.declared.instruction.Instr.TheVariants as instr
use Rattle.law_results_reads.specs.Below.join_home.Tasks.{Task, TaskState, in_pair}
use Rattle.law_results_reads.specs.Below.migration.Packing.{unpin_all}
use Rattle.law_results_reads.specs.Below.read_cache.Cache.{Copy}
use Rattle.law_results_reads.specs.Below.thread_state.View.{ThreadState}
use Rattle.law_results_reads.specs.Below.thread_state.declared.phase.Phase.{Phase}
use Rattle.law_results_reads.specs.Below.thread_state.declared.phase.Phase.TheVariants as phase
use Rattle.law_results_reads.specs.Below.journal.View.{EntryView}
use Rattle.law_results_reads.specs.Below.server_model.declared.event.Event.{Event}
use Rattle.law_results_reads.specs.Below.server_model.declared.event.What.{What}
use Rattle.law_results_reads.specs.Below.server_model.Servers.{Server, Cluster, server_at}
use Rattle.law_results_reads.specs.Below.server_model.Work.{Hand, thread_in, with_cache}
use Rattle.law_results_reads.specs.Below.server_model.Start.{next_thread, capture}
use Rattle.law_results_reads.specs.Below.server_model.Commit.{done_where, pair_begun}
use Rattle.law_results_reads.specs.Below.server_model.Events.{Stepped, begin_work, done_step, committed, step}
use Rattle.law_results_reads.specs.Below.server_model.Clusters.{apply}
use Rattle.law_results_reads.specs.Below.coherent_memory.Names.{tot, one, other, if_so, some, Among}
use Rattle.law_results_reads.specs.Below.coherent_memory.Things.{Thing, noted, stands, things_of}
use Rattle.law_results_reads.specs.Below.coherent_memory.Follow.{Standing, threads_in, thread_at}
use Rattle.law_results_reads.specs.Below.coherent_memory.Sight.{Sight, sight}
use Rattle.law_results_reads.specs.Below.coherent_memory.OneHeap.{pair_note, in_pair_of, is_branch}
use Rattle.law_results_reads.specs.Below.coherent_memory.Weights.{is_thread}
use Rattle.law_results_reads.specs.Below.coherent_memory.Naming.{count_of, started_at}
use Rattle.law_results_reads.specs.Below.coherent_memory.Requests.{home_of, Branch, half_noted, pair_notes, pair_places, branch_places}
use Rattle.law_results_reads.specs.Below.coherent_memory.Coherent.{IsSound}
use Rattle.law_results_reads.specs.Below.law_counts_sums.Laws.{Gives, FewEvents, PairsNoted, NumbersDiffer}
use Rattle.law_results_reads.proofs.Below.law_counts_sums.Results.{then_gives, over_gives, test_gives, weaker, both_give}
use Rattle.law_results_reads.proofs.Below.law_counts_sums.Each.{names_left}
use Rattle.law_results_reads.proofs.Below.law_counts_sums.Elsewhere.{here_alone}
use Rattle.law_results_reads.proofs.Below.law_counts_sums.StandsHere.{found_none}
use Rattle.law_counts_things.proofs.things.Goes.{Goes, IsGotten, on, waits_pair, is_over, asks_cell, asks_home, gets_cell, gets_gift, goes_pair, AsksHome, HasCell, thread_goes}
use Rattle.law_counts_things.proofs.things.Threads.{Ways}
use Rattle.law_counts_things.proofs.things.Handed.{Stood, InParcel, threads_go, known}
use Rattle.law_counts_things.proofs.names.Named.{home_is, count_is, started_plain}
use Rattle.law_counts_things.proofs.names.Counts.{counts_alone}
use Rattle.law_counts_asking.proofs.PairsOver.{waits_for, total_le, all_nothing}

-- a thread keeps its number
pub same_number : (code : List Instr) (y y2 : ThreadState) → Goes code y y2 → y2.number ≡ y.number
same_number code y y2 (on i at o pc p passed walk g s) = s.number
same_number code y y2 (waits_pair cs pc ds other a b at q p passed walk g s) = s.number
same_number code y y2 (is_over o at pc p passed walk slots temps g s) = s.number
same_number code y y2 (asks_cell i w at f pc p g s) = s.number
same_number code y y2 (asks_home i q at a pc p g passed walk s) = s.number
same_number code y y2 (gets_cell w was p pc g s) = s.number
same_number code y y2 (gets_gift was p pc passed walk temps shares s) = s.number
same_number code y y2 (goes_pair a b was p pc g passed walk s) = s.number

-- PHASES OF A STEP

-- after a par its thread waits for the next two threads of its server
par_pairs : (servers : ℕ) (cs : WithRoom (ℕ × Bool)) (pc : ℕ) (ds : WithRoom (ℕ × Bool)) (to : ℕ) (h : Hand)
    → Gives (λ (d : Stepped). d.hand.thread.phase ≡ phase.WaitPar (next_thread h.work.rest) (next_thread h.work.rest + 1)) (step servers (instr.Par cs pc ds to) h)
par_pairs servers cs pc ds to h =
    settles _ _
    (then_gives At (capture true cs.items h.thread.slots) _ (λ first p. then_gives At (capture true ds.items first.1) _ (λ second q.
    over_gives (λ (h2 : Hand). Unit {0}) At (pair_begun h u (u + 1)) _ (test_gives (λ (h2 : Hand). Unit {0}) (Rattle.law_results_reads.specs.Below.join_home.Tasks.can_begin_pair h.work.rest.tasks h.thread.number u (u + 1)) _ (λ z. tt)) (λ h2 z. refl))))
  where
    u : ℕ
    u = next_thread h.work.rest

    At : Hand → Type 0
    At h2 = h2.thread.phase ≡ phase.WaitPar (next_thread h.work.rest) (next_thread h.work.rest + 1)

    settles : (names : Fresh) (o : Option Hand) → Gives At o → Gives (λ (d : Stepped). d.hand.thread.phase ≡ phase.WaitPar (next_thread h.work.rest) (next_thread h.work.rest + 1)) (committed (done_where names o))
    settles names None g = tt
    settles names (Some h2) g = by (unpin_all h2.thread.walk h2.work.rest.cache)
      where
        by : (l : Option (List Copy)) → Gives (λ (d : Stepped). d.hand.thread.phase ≡ phase.WaitPar (next_thread h.work.rest) (next_thread h.work.rest + 1)) (option_map (done_step names) (option_map (λ es. record { work = with_cache es h2.work; thread = record h2.thread { passed = 0; walk = []; moved_since_step = false } }) l))
        by None = tt
        by (Some es) = g

-- THREADS THAT ARE BRANCHES

-- a server of the cluster has started the thread
abbrev pub is_counted : Sight → ℕ → Bool
is_counted s t = some (tot (started_at (home_of t) (count_of t)) s.things)

-- the notes of a thread in the pair of a parent
abbrev pub pair_of : ℕ → ℕ → Thing → ℕ
pair_of p t (noted r x) = if_so (x.thread == t) (one (half_noted x.state p))
pair_of p t x = 0

-- it was started and isn't noted so
abbrev pub unpaired : Sight → ℕ → ℕ → ℕ
unpaired s p t = if_so (is_counted s t) (other (some (tot (pair_of p t) s.things)))

-- no thread of that number stands there
abbrev pub missing : Sight → ℕ → ℕ
missing s p = other (some (tot (is_thread p) s.things))

-- what is wrong of a parent that waits for a pair: it didn't stand, or one of the two was started and wasn't noted in its pair
abbrev pub waits_unpaired : Sight → ℕ → Phase → ℕ
waits_unpaired s p (phase.WaitPar a b) = missing s p + (unpaired s p a + unpaired s p b)
waits_unpaired s p q = 0

-- what is more than nothing is some
some_true : (m : ℕ) → 1 ≤ m → some m ≡ true
some_true zero l = absurd (omega (arith, l))
some_true (suc m) l = refl

-- and some is more than nothing
pub is_some_number : (m : ℕ) → some m ≡ true → 1 ≤ m
is_some_number zero e = absurd (cc e)
is_some_number (suc m) e = omega arith

-- nothing, whether it counts or not
if_nothing : (b : Bool) (n : ℕ) → n ≡ 0 → if_so b n ≡ 0
if_nothing true n e = e
if_nothing false n e = refl

-- a note in a pair, wherever it stands
noted_pair : (r p t : ℕ) (x : Thing) → pair_notes (record { server = r; parent = p; thread = t }) x ≤ pair_of p t x
noted_pair r p t (noted q x) = by (q == r) (x.thread == t) (half_noted x.state p)
  where
    by : (a b c : Bool) → one ((a && b) && c) ≤ if_so b (one c)
    by true true c = omega arith
    by true false c = omega arith
    by false true true = omega arith
    by false true false = omega arith
    by false false c = omega arith
noted_pair r p t _ = omega arith

-- and it tells a branch
pair_branch : (p t : ℕ) (x : Thing) → pair_of p t x ≤ in_pair_of t x
pair_branch p t (noted q x) = by (x.thread == t) x.state
  where
    at_most : (c : Bool) → one c ≤ 1
    at_most true = omega arith
    at_most false = omega arith

    by : (b : Bool) (z : TaskState) → if_so b (one (half_noted z p)) ≤ if_so b (pair_note z)
    by true (in_pair parent o) = at_most (parent == p)
    by true z = omega arith
    by false z = omega arith
pair_branch p t _ = omega arith

-- a branch has a note
pub record HasNote (b : List Thing) (t : ℕ) : Type 0 where
  pub server : ℕ
  pub note : Task
  pub parent : ℕ
  pub over : Bool
  pub among : Among (noted server note) b
  pub named : note.thread ≡ t
  pub paired : note.state ≡ in_pair parent over

-- a branch that is counted has a note
pub found_note : (t : ℕ) (b : List Thing) → 1 ≤ tot (in_pair_of t) b → HasNote b t
found_note t [] l = absurd (omega (arith, l))
found_note t (noted r x ∷ b) l = by (found_note t b) (x.thread == t) refl x.state refl l
  where
    later : HasNote b t → HasNote (noted r x ∷ b) t
    later g = record { server = g.server; note = g.note; parent = g.parent; over = g.over; among = inr g.among; named = g.named; paired = g.paired }

    by : (1 ≤ tot (in_pair_of t) b → HasNote b t) → (c : Bool) → (x.thread == t) ≡ c → (z : TaskState) → x.state ≡ z → 1 ≤ if_so c (pair_note z) + tot (in_pair_of t) b → HasNote (noted r x ∷ b) t
    by go true e (in_pair p o) f m = record { server = r; note = x; parent = p; over = o; among = inl refl; named = eqb-true x.thread t e; paired = f }
    by go true e z f m = later (go (omega (arith, m)))
    by go false e z f m = later (go (omega (arith, m)))
found_note t (_ ∷ b) l = let g = found_note t b (omega (arith, l)) in record { server = g.server; note = g.note; parent = g.parent; over = g.over; among = inr g.among; named = g.named; paired = g.paired }

module _ (k0 : Cluster) where
  abbrev weight : Standing → ℕ
  weight x = waits_unpaired (sight k0) x.thread.number x.thread.phase

  -- who is waited for is a branch
  branch_waited : (k : Cluster) → IsSound k → (s : ℕ) (p : Bool) (x : ThreadState) → ((g : Thing → ℕ) → g (stands s p x) ≤ tot g (things_of k)) → (q : Phase) → x.phase ≡ q → waits_unpaired (sight k) x.number q ≡ 0
  branch_waited k sound s p x has (phase.WaitPar a b) e = omega (arith, stood, paired a (omega (arith, ap one (eq-eqb a a refl))), paired b (omega (arith, ap one (eq-eqb b b refl))))
    where
      stood : missing (sight k) x.number ≡ 0
      stood =
          let mine : one (x.number == x.number) ≡ 1 = ap one (eq-eqb x.number x.number refl) in
          ap other (some_true (tot (is_thread x.number) (things_of k)) (omega (arith, mine, has (is_thread x.number))))

      paired : (t : ℕ) → 1 ≤ one (a == t) + one (b == t) → unpaired (sight k) x.number t ≡ 0
      paired t l =
          let places = pair_places (record { server = s; parent = x.number; thread = t }) in
          let is : places (stands s p x) ≡ one (a == t) + one (b == t) =
          ap (λ z. if_so (s == s && x.number == x.number) (branch_places t z)) e ∙ ap (λ c. if_so (c && x.number == x.number) (one (a == t) + one (b == t))) (eq-eqb s s refl) ∙ ap (λ c. if_so c (one (a == t) + one (b == t))) (eq-eqb x.number x.number refl) in
          let some_note : 1 ≤ tot (pair_of x.number t) (things_of k) =
          omega (arith, l, is, has places, sound.requests.pairs_noted (record { server = s; parent = x.number; thread = t }), total_le _ _ (noted_pair s x.number t) (things_of k)) in
          if_nothing (is_counted (sight k) t) (other (some (tot (pair_of x.number t) (things_of k)))) (ap other (some_true (tot (pair_of x.number t) (things_of k)) some_note))
  branch_waited k sound s p x has q e = refl

  -- in a sound cluster no thread waits for one that isn't noted
  unpaired_before : IsSound k0 → tot weight (threads_in (things_of k0)) ≡ 0
  unpaired_before sound = all_nothing weight (things_of k0) (things_of k0) (λ g. omega arith) (λ s p x has. branch_waited k0 sound s p x has x.phase refl)

  -- the next threads of a server aren't started
  module _ (sound : IsSound k0) (few : FewEvents k0) (number : ℕ) (s : Server) (here : server_at k0.servers number ≡ Some s) where
    not_counted : (c : ℕ) → s.rest.started < c → c < 2 ^ 32 → is_counted (sight k0) (s.rest.number * 2 ^ 32 + c) ≡ false
    not_counted c l m =
        let n = s.rest.number in
        let w = started_at n c in
        let plain : (x : Thing) → Rattle.law_counts_things.proofs.names.Counts.Plain x → w x ≡ 0 = started_plain n c in
        let alone = here_alone k0 sound number s here w (λ x q. omega (arith, counts_alone w plain x, ap (λ b. one (b && nat_le c x.rest.started)) q)) in
        let late : nat_le c s.rest.started ≡ false = grind (arith, nat_tests, l) in
        let none : one (n == n && nat_le c s.rest.started) ≡ 0 = ap (λ b. one (n == n && b)) late ∙ nothing (n == n) in
        let z : tot w (things_of k0) ≡ 0 = omega (arith, alone, counts_alone w plain s, none) in
        let at_home : tot (started_at (home_of (n * 2 ^ 32 + c)) (count_of (n * 2 ^ 32 + c))) (things_of k0) ≡ 0 = subst (λ i. tot (started_at i (count_of (n * 2 ^ 32 + c))) (things_of k0) ≡ 0) (sym (home_is n c m)) (subst (λ i. tot (started_at n i) (things_of k0) ≡ 0) (sym (count_is n c m)) z) in
        ap some at_home
      where
        nothing : (b : Bool) → one (b && false) ≡ 0
        nothing true = refl
        nothing false = refl

    new_unpaired : (p u : ℕ) → is_counted (sight k0) u ≡ false → unpaired (sight k0) p u ≡ 0
    new_unpaired p u e = ap (λ b. if_so b (other (some (tot (pair_of p u) (things_of k0))))) e

    -- a thread that is found stands
    stands_there : (t : ℕ) (y : ThreadState) → thread_in s.threads t ≡ Some y → missing (sight k0) y.number ≡ 0
    stands_there t y there =
        known k0 sound number s here t y there (λ x. missing (sight k0) x.thread.number)
        (all_nothing (λ x. missing (sight k0) x.thread.number) (things_of k0) (things_of k0) (λ g. omega arith)
        (λ r q x has. let mine : one (x.number == x.number) ≡ 1 = ap one (eq-eqb x.number x.number refl) in ap other (some_true (tot (is_thread x.number) (things_of k0)) (omega (arith, mine, has (is_thread x.number))))))

    pair_new : (p : ℕ) → missing (sight k0) p ≡ 0 → waits_unpaired (sight k0) p (phase.WaitPar (next_thread s.rest) (next_thread s.rest + 1)) ≡ 0
    pair_new p stood =
        let left = names_left k0 sound.names.few_names few number s here in
        let second : is_counted (sight k0) (s.rest.number * 2 ^ 32 + (s.rest.started + 2)) ≡ false = not_counted (s.rest.started + 2) (omega arith) (omega (arith, left)) in
        let named : s.rest.number * 2 ^ 32 + (s.rest.started + 2) ≡ next_thread s.rest + 1 = omega arith in
        omega (
          arith,
          stood,
          new_unpaired p (next_thread s.rest) (not_counted (s.rest.started + 1) (omega arith) (omega (arith, left))),
          new_unpaired p (next_thread s.rest + 1) (subst (λ u. is_counted (sight k0) u ≡ false) named second),
        )

    abbrev P : ThreadState → Type 0
    P = Stood weight s.rest.number

    -- of what its thread is now nothing is wrong
    abbrev Fine : ThreadState → Type 0
    Fine t = waits_unpaired (sight k0) t.number t.phase ≡ 0

    in_phase : (t : ThreadState) (q : Phase) → t.phase ≡ q → waits_unpaired (sight k0) t.number q ≡ 0 → Fine t
    in_phase t q e z = ap (waits_unpaired (sight k0) t.number) e ∙ z

    asks_none : (n : ℕ) (i : Instr) (p : Phase) → AsksHome i p → waits_unpaired (sight k0) n p ≡ 0
    asks_none n (instr.Join o) (phase.WaitJoin u) a = refl
    asks_none n (instr.Dup w) (phase.WaitDup m) a = refl
    asks_none n (instr.Lock w) (phase.WaitLock m) a = refl
    asks_none n i p a = absurd a

    cell_none : (n : ℕ) (p : Phase) → HasCell p → waits_unpaired (sight k0) n p ≡ 0
    cell_none n phase.Got h = refl
    cell_none n (phase.Taken w) h = refl
    cell_none n p h = absurd h

    -- an instruction other than a par has no pair
    abbrev is_par : Instr → Bool
    is_par (instr.Par cs pc ds to) = true
    is_par i = false

    some_same : {a b : Instr} → Some a ≡ Some b → a ≡ b
    some_same e = cc

    other_goes : (y y2 : ThreadState) (i : Instr) → slice_get k0.code y.pc ≡ Some i → is_par i ≡ false → Goes k0.code y y2 → Fine y2
    other_goes y y2 i code f (on j at o pc q passed walk g same) = in_phase y2 phase.Ready q refl
    other_goes y y2 i code f (waits_pair cs pc ds to a b at m q passed walk g same) = let no : false ≡ true = sym f ∙ ap is_par (some_same (sym code ∙ at)) in absurd (cc no)
    other_goes y y2 i code f (is_over o at pc q passed walk slots temps g same) = in_phase y2 phase.Over q refl
    other_goes y y2 i code f (asks_cell j w at g pc q h same) = in_phase y2 (phase.WaitCell w) q refl
    other_goes y y2 i code f (asks_home j m at a pc q g passed walk same) = in_phase y2 m q (asks_none y2.number j m a)
    other_goes y y2 i code f (gets_cell w was q pc g same) = cell_none y2.number y2.phase q
    other_goes y y2 i code f (gets_gift was q pc passed walk temps shares same) = in_phase y2 phase.Got q refl
    other_goes y y2 i code f (goes_pair a b was q pc g passed walk same) = in_phase y2 (phase.GotPar a b) q refl

    got_goes : (y y2 : ThreadState) (g : Goes k0.code y y2) → IsGotten g → Fine y2
    got_goes y y2 (gets_cell w was q pc g same) got = cell_none y2.number y2.phase q
    got_goes y y2 (gets_gift was q pc passed walk temps shares same) got = in_phase y2 phase.Got q refl
    got_goes y y2 (goes_pair a b was q pc g passed walk same) got = in_phase y2 (phase.GotPar a b) q refl
    got_goes y y2 g got = absurd got

    steps : (t : ℕ) (y : ThreadState) (i : Instr) → thread_in s.threads t ≡ Some y → slice_get k0.code y.pc ≡ Some i → Gives (λ (d : Stepped). Fine d.hand.thread) (step k0.options.servers i (record { work = begin_work s.rest; thread = y }))
    steps t y (instr.Par cs pc ds to) there e =
        let h : Hand = record { work = begin_work s.rest; thread = y } in
        both_give (λ (d : Stepped). d.hand.thread.phase ≡ phase.WaitPar (next_thread s.rest) (next_thread s.rest + 1)) (λ (d : Stepped). Goes k0.code y d.hand.thread) (λ (d : Stepped). Fine d.hand.thread) (step k0.options.servers (instr.Par cs pc ds to) h)
        (par_pairs k0.options.servers cs pc ds to h) (thread_goes k0.code k0.options.servers (instr.Par cs pc ds to) y e s.rest h refl)
        (λ d g x. in_phase d.hand.thread (phase.WaitPar (next_thread s.rest) (next_thread s.rest + 1)) g (pair_new d.hand.thread.number (subst (λ n. missing (sight k0) n ≡ 0) (sym (same_number k0.code y d.hand.thread x)) (stands_there t y there))))
    steps t y i there e =
        weaker (λ (d : Stepped). Goes k0.code y d.hand.thread) (λ (d : Stepped). Fine d.hand.thread) _ (thread_goes k0.code k0.options.servers i y e s.rest (record { work = begin_work s.rest; thread = y }) refl) (λ d g. other_goes y d.hand.thread i e refl g)

    pub pair_ways : (what : What) → Ways k0.code k0.options.servers s what P (InParcel weight)
    pair_ways what = record {
      steps = λ t y i is on_it there p code. steps t y i there code;
      goes = λ t y y2 there p g got. got_goes y y2 g got;
      arrives = λ t q. q;
      starts = λ t n y i u pc vs there p at d. refl;
      leaves = λ t n y there p r. p;
    }

  -- no thread waits for one that was started and is no branch
  pub unpaired_after : (e : Event) → IsSound k0 → FewEvents k0 → Gives (λ (d : Cluster × EntryView). tot (λ (x : Standing). waits_unpaired (sight k0) x.thread.number x.thread.phase) (threads_in (things_of d.0)) ≡ 0) (apply k0 e)
  unpaired_after e sound few = threads_go weight k0 e sound few (unpaired_before sound) (λ s here. pair_ways sound few e.server s here e.what)

-- BRANCHES AFTERWARDS

-- a thread that is found has the number
pub found_number : (t : ℕ) (xs : List Standing) (x : Standing) → thread_at xs t ≡ Some x → x.thread.number ≡ t
found_number t [] x e = absurd (cc e)
found_number t (y ∷ xs) x e =
    eq_cases (λ b. (if b then Some y else thread_at xs t) ≡ Some x → x.thread.number ≡ t) y.thread.number t
    (λ q d. let same : y ≡ x = cc in subst (λ (w : Standing). w.thread.number ≡ t) same q) (λ ne d. found_number t xs x d) e

-- a note in a pair counts there
pair_of_note : (t r p : ℕ) (x : Task) (o : Bool) → x.thread ≡ t → x.state ≡ in_pair p o → pair_notes (record { server = r; parent = p; thread = t }) (noted r x) ≡ 1
pair_of_note t r p x o e f =
    ap (λ z. one ((r == r && x.thread == t) && half_noted z p)) f ∙ ap (λ b. one ((b && x.thread == t) && p == p)) (eq-eqb r r refl) ∙ ap (λ b. one ((true && b) && p == p)) (eq-eqb x.thread t e) ∙ ap (λ b. one ((true && true) && b)) (eq-eqb p p refl)

-- a thing of a list weighs no more than the list
has_among : (f : Thing → ℕ) (x : Thing) (b : List Thing) → Among x b → f x ≤ tot f b
has_among f x [] a = absurd a
has_among f x (y ∷ b) (inl e) = let same = ap f e in omega (arith, same)
has_among f x (y ∷ b) (inr a) = omega (arith, has_among f x b a)

-- who waits for a branch that is noted
pub record ParentOf (k0 c : Cluster) (p t : ℕ) : Type 0 where
  pub stood : missing (sight k0) p ≡ 0
  pub paired : unpaired (sight k0) p t ≡ 0

-- what is known of a note of a pair afterwards: its parent stood there before, and where the thread was started it was noted so
pub parent_of : (k0 c : Cluster) → tot (λ (x : Standing). waits_unpaired (sight k0) x.thread.number x.thread.phase) (threads_in (things_of c)) ≡ 0 → PairsNoted c → NumbersDiffer c → (r p : ℕ) (x : Task) (o : Bool) → Among (noted r x) (things_of c) → x.state ≡ in_pair p o
    → ParentOf k0 c p x.thread
parent_of k0 c none pairs differ r p x o among paired =
    let b = things_of c in
    let t = x.thread in
    let place : Branch = record { server = r; parent = p; thread = t } in
    let notes : 1 ≤ tot (pair_notes place) b = omega (arith, pair_of_note t r p x o refl paired, has_among (pair_notes place) (noted r x) b among) in
    let waits = waits_for r p t b (differ p) (omega (arith, notes, pairs place)) in
    let weighs : waits_unpaired (sight k0) waits.parent.thread.number waits.parent.thread.phase ≡ 0 = found_none (λ x. waits_unpaired (sight k0) x.thread.number x.thread.phase) p (threads_in b) waits.parent none waits.found in
    by waits.parent.thread.phase (subst (λ n. waits_unpaired (sight k0) n waits.parent.thread.phase ≡ 0) (found_number p (threads_in b) waits.parent waits.found) weighs) waits.among
  where
    by : (q : Phase) → waits_unpaired (sight k0) p q ≡ 0 → 1 ≤ branch_places x.thread q → ParentOf k0 c p x.thread
    by (phase.WaitPar f g) z l = record {
      stood = omega (arith, z);
      paired =
          eq_cases (λ d. 1 ≤ one d + one (g == x.thread) → unpaired (sight k0) p x.thread ≡ 0) f x.thread (λ e m. subst (λ u. unpaired (sight k0) p u ≡ 0) e (omega (arith, z)))
          (λ ne m. eq_cases (λ d. 1 ≤ 0 + one d → unpaired (sight k0) p x.thread ≡ 0) g x.thread (λ e n. subst (λ u. unpaired (sight k0) p u ≡ 0) e (omega (arith, z))) (λ off n. absurd (omega (arith, n))) m) l;
    }
    by q z l = absurd (omega (arith, l))

-- where it was started, its note in that pair was there
pub noted_before : (k0 c : Cluster) (p t : ℕ) → ParentOf k0 c p t → is_counted (sight k0) t ≡ true → 1 ≤ tot (pair_of p t) (things_of k0)
noted_before k0 c p t it counted = is_some_number (tot (pair_of p t) (things_of k0)) (truly (some (tot (pair_of p t) (things_of k0))) (sym (ap (λ b. if_so b (other (some (tot (pair_of p t) (things_of k0))))) counted) ∙ it.paired))
  where
    truly : (b : Bool) → other b ≡ 0 → b ≡ true
    truly true y = refl
    truly false y = absurd (cc y)

-- a thread that was started before and is a branch afterwards was one before
pub branch_before : (k0 c : Cluster) → tot (λ (x : Standing). waits_unpaired (sight k0) x.thread.number x.thread.phase) (threads_in (things_of c)) ≡ 0 → PairsNoted c → NumbersDiffer c → (t : ℕ) → is_counted (sight k0) t ≡ true → is_branch (sight c) t ≡ true
    → is_branch (sight k0) t ≡ true
branch_before k0 c none pairs differ t counted branch =
    let b = things_of c in
    let it = found_note t b (is_some_number (tot (in_pair_of t) b) branch) in
    let its = parent_of k0 c none pairs differ it.server it.parent it.note it.over it.among it.paired in
    let note = noted_before k0 c it.parent it.note.thread its (subst (λ u. is_counted (sight k0) u ≡ true) (sym it.named) counted) in
    let there : 1 ≤ tot (pair_of it.parent t) (things_of k0) = subst (λ u. 1 ≤ tot (pair_of it.parent u) (things_of k0)) it.named note in
    some_true (tot (in_pair_of t) (things_of k0)) (omega (arith, there, total_le _ _ (pair_branch it.parent t) (things_of k0)))
