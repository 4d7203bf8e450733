-- A balance of a run under way has a result, and it is under way again.
use Rattle.std.proofs.Common.{◌≡◌, ◌≢◌, ℕ, zero, suc, ◌+◌, ◌<◌, ◌≤◌, ◌==◌, ◌&&◌, not, nat_lt, Bool, true, false, if◌then◌else◌, List, [], ◌∷◌, ◌++◌, length, Option, Some, None, refl, sym, ap, subst, ◌∙◌, arith, append-nil, length-append}
use Rattle.std.specs.Prelude.{◌%◌, slice_get, slice_set, option_map, take, drop}
use Rattle.std.proofs.lemmas.Bool.Decides.{nat_tests}
use Rattle.law_runs_whole.proofs.Below.fr_typing.PlaceLemmas.{eq_cases}
use Rattle.law_runs_whole.specs.Below.fr_base.declared.instruction.Instr.{Instr}
use Rattle.law_runs_whole.specs.Below.fr_base.declared.settings.Options.{Options}
use Rattle.law_runs_whole.specs.Below.thread_state.View.{ThreadState}
use Rattle.law_runs_whole.specs.Below.journal.View.{EntryView}
use Rattle.law_runs_whole.specs.Below.server_model.declared.event.What.{What}
use Rattle.law_runs_whole.specs.Below.server_model.declared.event.What.TheVariants.{Migrate}
use Rattle.law_runs_whole.specs.Below.server_model.Servers.{Sent, Server, Cluster, start_of, server_at}
use Rattle.law_runs_whole.specs.Below.server_model.Work.{then_some, thread_in}
use Rattle.law_runs_whole.specs.Below.server_model.Questions.{movable, movable_in}
use Rattle.law_runs_whole.specs.Below.server_model.Events.{is_ready, has_phase, enabled, does}
use Rattle.law_runs_whole.specs.Below.server_model.Clusters.{with_server, accept_all, with_outbox, emptied, outboxes, hand_over, hand_over_newer, done_at, apply}
use Rattle.law_runs_whole.specs.Below.server_model.Laws.{messages_to}
use Rattle.drive_model.specs.Balance.{Shift, loads, balance}
use Rattle.drive_model.specs.Laws.{candidate_in, BalanceMoves}
use Rattle.drive_model.specs.Rounds.{Run, events_left, shifted, is_balanced, balanced}
use Rattle.law_runs_whole.specs.Below.coherent_memory.Names.{other}
use Rattle.law_runs_whole.specs.Below.coherent_memory.Sight.{Sight, sight}
use Rattle.law_runs_whole.specs.Below.coherent_memory.Walking.{sum_threads}
use Rattle.law_runs_whole.specs.Below.coherent_memory.Naming.{rising, rising_from, numbers_of, servers_wrong, pinned_parcel}
use Rattle.law_runs_whole.specs.Below.coherent_memory.Coherent.{IsSound}
use Rattle.law_runs_whole.proofs.Below.coherent_memory.Names.{left_none, right_none}
use Rattle.law_counts_limits.proofs.Below.law_counts_sums.Askers.{other_none}
use Rattle.law_runs_whole.specs.runs.Runs.{run_of, EachKeepsCoherence}
use Rattle.law_runs_whole.specs.Below.law_counts_sums.Laws.{Gives}
use Rattle.law_runs_rounds.specs.rounds.Order.{AreSameServers}
use Rattle.law_runs_rounds.specs.rounds.Choosing.{IsChosen, IsChosenIn, AreChosen}
use Rattle.law_runs_rounds.specs.rounds.UnderWay.{IsUnderWay, CanMove}
use Rattle.law_runs_rounds.proofs.rounds.Items.{at_end}
use Rattle.law_runs_rounds.proofs.rounds.Numbered.{AreFrom, found_there, changed_there, number_kept, all_waiting, all_come, outboxes_more}
use Rattle.law_runs_rounds.proofs.rounds.Mirrored.{mirrored}
use Rattle.law_runs_rounds.proofs.rounds.Standing.{AllStand, all_stand, cluster, One, one}
use Rattle.law_runs_rounds.proofs.rounds.Works.{AreWays}
use Rattle.law_runs_rounds.proofs.rounds.OneRound.{first_none, second_none, runs_on, chosen_on, stand_both, Split, split}
use Rattle.law_runs_rounds.proofs.rounds.Clusters.{finish, numbered_too, handed, handed_sent, handed_length}
use Rattle.law_runs_rounds.proofs.rounds.Chosen.{IsInOrder, sound_order, sound_numbers}
use Rattle.law_runs_rounds.proofs.rounds.UnderWay.{Laws, Led, ways, in_order_too, Onward, led, leads, stand, turns_in_range}

-- THE THREAD THAT MOVES

-- where threads stand by rising number, the one that may be moved is ready
ready_from : (n : ℕ) (ts : List ThreadState) (t : ℕ) → rising_from n (numbers_of (λ x. x.number) ts) ≡ 0 → movable_in ts ≡ Some t → (n < t) × (has_phase is_ready (thread_in ts t) ≡ true)
ready_from n [] t z e = absurd (cc e)
ready_from n (x ∷ ts) t z e = by (is_ready x.phase) x.moved_since_step refl e (ready_from x.number ts t (right_none (other (nat_lt n x.number)) (rising_from x.number (numbers_of (λ y. y.number) ts)) z))
  where
    less : n < x.number
    less = let so = other_none (nat_lt n x.number) (left_none (other (nat_lt n x.number)) (rising_from x.number (numbers_of (λ y. y.number) ts)) z) in grind (arith, nat_tests, so)

    later : (movable_in ts ≡ Some t → (x.number < t) × (has_phase is_ready (thread_in ts t) ≡ true)) → movable_in ts ≡ Some t → (n < t) × (has_phase is_ready (thread_in (x ∷ ts) t) ≡ true)
    later go h =
        let more = go h in
        let l = less in
        let m = more.0 in
        (omega (arith, l, m), eq_cases (λ b. has_phase is_ready (if b then Some x else thread_in ts t) ≡ true) x.number t (λ same. absurd (omega (arith, m, same))) (λ ne. more.1))

    by : (b c : Bool) → is_ready x.phase ≡ b → (if b && not c then Some x.number else movable_in ts) ≡ Some t → (movable_in ts ≡ Some t → (x.number < t) × (has_phase is_ready (thread_in ts t) ≡ true))
        → (n < t) × (has_phase is_ready (thread_in (x ∷ ts) t) ≡ true)
    by true false q h go =
        let same : x.number ≡ t = cc in
        let l = less in
        (omega (arith, l, same), eq_cases (λ b. has_phase is_ready (if b then Some x else thread_in ts t) ≡ true) x.number t (λ _. q) (λ ne. absurd (ne same)))
    by true true q h go = later go h
    by false c q h go = later go h

it_is_ready : (ts : List ThreadState) (t : ℕ) → rising (numbers_of (λ x. x.number) ts) ≡ 0 → movable_in ts ≡ Some t → has_phase is_ready (thread_in ts t) ≡ true
it_is_ready [] t z e = absurd (cc e)
it_is_ready (x ∷ ts) t z e = by (is_ready x.phase) x.moved_since_step refl e
  where
    later : movable_in ts ≡ Some t → has_phase is_ready (thread_in (x ∷ ts) t) ≡ true
    later h =
        let more = ready_from x.number ts t z h in
        let m = more.0 in
        eq_cases (λ b. has_phase is_ready (if b then Some x else thread_in ts t) ≡ true) x.number t (λ same. absurd (omega (arith, m, same))) (λ ne. more.1)

    by : (b c : Bool) → is_ready x.phase ≡ b → (if b && not c then Some x.number else movable_in ts) ≡ Some t → has_phase is_ready (thread_in (x ∷ ts) t) ≡ true
    by true false q h = let same : x.number ≡ t = cc in eq_cases (λ b. has_phase is_ready (if b then Some x else thread_in ts t) ≡ true) x.number t (λ _. q) (λ ne. absurd (ne same))
    by true true q h = later h
    by false c q h = later h

-- the server whose candidate it is, with those before and after it
record Source (ss : List Server) (i t : ℕ) : Type 0 where
  pub before : List Server
  pub mine : Server
  pub after : List Server
  pub is : ss ≡ before ++ mine ∷ after
  pub place : length before ≡ i
  pub moves : movable mine ≡ Some t

source : (ss : List Server) (i t : ℕ) → candidate_in (slice_get (loads ss) i) ≡ Some t → Source ss i t
source [] i t e = absurd (cc e)
source (s ∷ ss) zero t e = record { before = []; mine = s; after = ss; is = refl; place = refl; moves = e }
source (s ∷ ss) (suc i) t e = let p = source ss i t e in record { before = s ∷ p.before; mine = p.mine; after = p.after; is = ap (λ l. s ∷ l) p.is; place = ap suc p.place; moves = p.moves }

put_there : (ps : List Server) (s new : Server) (rest : List Server) → slice_set (ps ++ s ∷ rest) (length ps) new ≡ ps ++ new ∷ rest
put_there [] s new rest = refl
put_there (p ∷ ps) s new rest = ap (λ l. p ∷ l) (put_there ps s new rest)

loads_length : (ss : List Server) → length (loads ss) ≡ length ss
loads_length [] = refl
loads_length (s ∷ ss) = ap suc (loads_length ss)

-- servers by rising number stand at their numbers
at_number : (n : ℕ) (ps : List Server) (s : Server) (rest : List Server) → AreFrom n (ps ++ s ∷ rest) → s.rest.number ≡ n + length ps
at_number n [] s rest a = let first = a.0 in omega (arith, first)
at_number n (p ∷ ps) s rest a = let more = at_number (suc n) ps s rest a.1 in omega (arith, more)

reaches : (q : Sight) (m : ℕ) (ss : List Server) → servers_wrong q m ss ≡ 0 → m + length ss ≡ q.options.servers
reaches q m [] z = let so = other_none (m == q.options.servers) z in grind (arith, nat_tests, so)
reaches q m (x ∷ ss) z = let more = reaches q (m + 1) ss (omega (arith, z)) in omega (arith, more)

as_many_as_asked : (k : Cluster) → IsSound k → length k.servers ≡ k.options.servers
as_many_as_asked k sound =
    let all = reaches (sight k) 0 k.servers (left_none (servers_wrong (sight k) 0 k.servers) (sum_threads (sight k) pinned_parcel) sound.parts.parts_are_typed) in
    omega (arith, all)

-- NO MESSAGE BUT THE EVENT'S

emptied_quiet : (ss : List Server) → outboxes ss ≡ [] → emptied ss ≡ ss
emptied_quiet [] q = refl
emptied_quiet (s ∷ ss) q =
    ap (λ l. with_outbox l s ∷ emptied ss) (sym (first_none s.rest.outbox (outboxes ss) q)) ∙ ap (λ l. s ∷ l) (emptied_quiet ss (second_none s.rest.outbox (outboxes ss) q))

emptied_more : (ss zs : List Server) → emptied (ss ++ zs) ≡ emptied ss ++ emptied zs
emptied_more [] zs = refl
emptied_more (s ∷ ss) zs = ap (λ l. with_outbox [] s ∷ l) (emptied_more ss zs)

-- the outbox of the one in the middle, and of the others
middle : (ss : List Server) (s : Server) (zs : List Server) → outboxes (ss ++ s ∷ zs) ≡ [] → (outboxes ss ≡ []) × (s.rest.outbox ≡ []) × (outboxes zs ≡ [])
middle [] s zs q = (refl, first_none s.rest.outbox (outboxes zs) q, second_none s.rest.outbox (outboxes zs) q)
middle (x ∷ ss) s zs q =
    let rest = middle ss s zs (second_none x.rest.outbox (outboxes (ss ++ s ∷ zs)) q) in
    (ap (λ l. l ++ outboxes ss) (first_none x.rest.outbox (outboxes (ss ++ s ∷ zs)) q) ∙ rest.0, rest.1, rest.2)

same_length : (xs : List Sent) (ss zs : List Server) → AllStand xs ss zs → length zs ≡ length ss
same_length xs [] [] a = refl
same_length xs (s ∷ ss) (z ∷ zs) a = ap suc (same_length xs ss zs a.1)
same_length xs [] (z ∷ zs) a = absurd a
same_length xs (s ∷ ss) [] a = absurd a

-- THE MOVE

module _ (l : Laws) (keeps : EachKeepsCoherence) (r : Run) (u : IsUnderWay r) where
  abbrev code : List Instr
  code = r.cluster.code

  abbrev o : Options
  o = r.cluster.options

  abbrev Good : ℕ → List Server → Type 0
  Good = Led l keeps code o u.within

  abbrev its_ways : AreWays code o Good 1000000000
  its_ways = ways l keeps code o u.within

  -- one of its servers, between others, and what stands for it
  module _ (before : List Server) (s : Server) (after : List Server) (is : r.cluster.servers ≡ before ++ s ∷ after) where
    stood : Split [] before s after u.ran.servers
    stood = split [] before s after u.ran.servers (subst (λ ss. AllStand [] ss u.ran.servers) is (stand l keeps r u))

    abbrev ran : List Server
    ran = stood.front ++ stood.mine ∷ stood.back

    good : Good (length r.journal) ran
    good = subst (Good (length r.journal)) stood.is (led l keeps r u)

    ran_from : AreFrom 0 ran
    ran_from = sound_numbers (cluster code o ran) good.coherent.sound

    there : server_at ran stood.mine.rest.number ≡ Some stood.mine
    there = found_there 0 stood.front stood.mine stood.back ran_from

    from : AreFrom 0 (before ++ s ∷ after)
    from = subst (AreFrom 0) is (numbered_too [] 0 r.cluster.servers u.ran.servers (stand l keeps r u) (subst (AreFrom 0) (sym stood.is) ran_from))

    order : IsInOrder s
    order = in_order_too l keeps code o u.within stood.mine s stood.stands.same (sound_order (cluster code o ran) good.coherent.sound stood.mine.rest.number stood.mine there)

    -- as many servers as the options ask for
    pub all_there : length r.cluster.servers ≡ o.servers
    all_there =
        let same = same_length [] r.cluster.servers u.ran.servers (stand l keeps r u) in
        let long = ap length stood.is in
        let all = as_many_as_asked (cluster code o ran) good.coherent.sound in
        sym same ∙ long ∙ all

    -- its thread leaves where it may be moved
    leaves_on : (t target : ℕ) → movable s ≡ Some t → target < o.servers → target ≢ s.rest.number → enabled o s (Migrate t target) ≡ true
    leaves_on t target e less ne =
        let ready = it_is_ready s.threads t order.rise e in
        let within : nat_lt target o.servers ≡ true = grind (arith, nat_tests, less) in
        let other_one : not (target == s.rest.number) ≡ true = eq_cases (λ b. not b ≡ true) target s.rest.number (λ same. absurd (ne same)) (λ _. refl) in
        ap (λ b. b && (nat_lt target o.servers && not (target == s.rest.number))) ready ∙ ap (λ b. b && not (target == s.rest.number)) within ∙ other_one

    module _ (w : What) (on : enabled o s w ≡ true) (few : length r.journal < 1000000000) where
      it : One code o [] stood.front stood.back s stood.mine w
      it =
          let m = mirrored code o (messages_to s.rest.number []) s stood.mine stood.stands.same stood.stands.waiting w on in
          one code o its_ways.numbers [] stood.front stood.back s stood.mine ran_from stood.stands w m (its_ways.results (length r.journal) ran stood.mine m.what good few there m.on)

      abbrev moved : List Server
      moved = all_waiting it.more (emptied (before ++ it.new ∷ after))

      abbrev then_run : Run
      then_run = record r { cluster = record r.cluster { servers = moved }; journal = r.journal ++ it.entry ∷ [] }

      quiet : (outboxes before ≡ []) × (s.rest.outbox ≡ []) × (outboxes after ≡ [])
      quiet = middle before s after (ap outboxes (sym is) ∙ u.sent)

      sends : it.new.rest.outbox ≡ it.more
      sends = it.sent ∙ ap (λ xs. xs ++ it.more) quiet.1

      -- all messages of the event are handed over
      come : hand_over_newer s.rest.number (length s.rest.outbox) it.new (before ++ s ∷ after) ≡ moved
      come =
          let old = before ++ s ∷ after in
          let kept = with_outbox [] it.new in
          let rest : before ++ kept ∷ after ≡ emptied (before ++ it.new ∷ after) =
          ap (λ b. b ++ kept ∷ after) (sym (emptied_quiet before quiet.0)) ∙ ap (λ b. emptied before ++ kept ∷ b) (sym (emptied_quiet after quiet.2)) ∙ sym (emptied_more before (it.new ∷ after)) in
          ap (λ xs. accept_all (with_server old s.rest.number (with_outbox (take (length xs) it.new.rest.outbox) it.new)) (drop (length xs) it.new.rest.outbox)) quiet.1
          ∙ ap (λ b. accept_all b it.new.rest.outbox) (changed_there 0 before s after kept from)
          ∙ ap (λ xs. accept_all (before ++ kept ∷ after) xs) sends
          ∙ all_come 0 it.more (before ++ kept ∷ after) (number_kept 0 before s kept after (its_ways.numbers s it.new it.entry w it.done) from)
          ∙ ap (all_waiting it.more) rest

      abbrev handing : Server × EntryView → Cluster × EntryView
      handing d = (record r.cluster { servers = hand_over_newer s.rest.number (length s.rest.outbox) d.0 (before ++ s ∷ after) }, d.1)

      applied : apply r.cluster (record { server = s.rest.number; what = w }) ≡ Some (record r.cluster { servers = moved }, it.entry)
      applied =
          let k0 : Cluster = record r.cluster { servers = before ++ s ∷ after } in
          let same : r.cluster ≡ k0 = ap (λ b. record r.cluster { servers = b }) is in
          ap (λ k. apply k (record { server = s.rest.number; what = w })) same
          ∙ ap (λ y. then_some y (λ z. option_map (λ d. (record r.cluster { servers = hand_over_newer s.rest.number (length z.rest.outbox) d.0 (before ++ s ∷ after) }, d.1)) (done_at k0 w z))) (found_there 0 before s after from)
          ∙ ap (λ b. option_map handing (if b then does code o s w else None)) on
          ∙ ap (option_map handing) it.done
          ∙ ap (λ b. Some (record r.cluster { servers = b }, it.entry)) come

      abbrev new_ran : List Server
      new_ran = all_waiting it.more stood.front ++ it.mine ∷ all_waiting it.more stood.back

      still_same : AreSameServers moved new_ran
      still_same =
          finish it.more (before ++ it.new ∷ after) new_ran
          (stand_both it.more before (it.new ∷ after) (all_waiting it.more stood.front) (it.mine ∷ all_waiting it.more stood.back) (all_stand [] it.more before stood.front stood.before) (it.stands, all_stand [] it.more after stood.back stood.after))

      run_to : run_of (cluster code o u.ran.servers) (it.event ∷ []) ≡ Some (cluster code o new_ran, it.entry ∷ [])
      run_to = ap (λ b. run_of (cluster code o b) (it.event ∷ [])) stood.is ∙ ap (λ y. then_some y (λ (d : Cluster × EntryView). Some (d.0, d.1 ∷ []))) it.applied

      -- a driver chooses it there
      chosen_there : IsChosen o s w → AreChosen (it.event ∷ []) (cluster code o u.ran.servers)
      chosen_there c = subst (λ b. AreChosen (it.event ∷ []) (cluster code o b)) (sym stood.is) (first, subst (λ y. Gives (λ (d : Cluster × EntryView). AreChosen [] d.0) y) (sym it.applied) tt)
        where
          first : IsChosenIn (cluster code o ran) it.event
          first y found =
              let one : Some stood.mine ≡ Some y = sym there ∙ ap (λ i. server_at ran i) (sym it.at) ∙ found in
              let same : stood.mine ≡ y = cc in
              subst (λ b. IsChosen o b it.event.what) same (it.chosen c)

      as_long : length r.generators ≡ length moved
      as_long =
          let a = length-append before (s ∷ after) in
          let b = length-append before (it.new ∷ after) in
          let c = ap length is in
          let d = handed_length it.more (before ++ it.new ∷ after) in
          let e = u.generators in
          omega (arith, a, b, c, d, e)

      pub event_goes_on : IsChosen o s w → length r.journal + 1 ≤ o.turns → Onward r (option_map (λ d. record r { cluster = d.0; journal = r.journal ++ d.1 ∷ [] }) (apply r.cluster (record { server = s.rest.number; what = w })))
      event_goes_on chosen less =
          let entries = length-append r.journal (it.entry ∷ []) in
          record {
            run = then_run;
            is = ap (option_map (λ (d : Cluster × EntryView). record r { cluster = d.0; journal = r.journal ++ d.1 ∷ [] })) applied;
            under_way = record {
              events = u.events ++ it.event ∷ [];
              ran = cluster code o new_ran;
              leads = runs_on u.events (it.event ∷ []) (start_of code o) (cluster code o u.ran.servers) (cluster code o new_ran) r.journal (it.entry ∷ []) (leads l keeps r u) run_to;
              coherent = (its_ways.keeps (length r.journal) ran new_ran it.event it.entry good few it.applied).coherent;
              chosen = chosen_on u.events (it.event ∷ []) (start_of code o) (cluster code o u.ran.servers) r.journal (leads l keeps r u) u.chosen (chosen_there chosen);
              same = record { code = refl; options = refl; servers = still_same };
              sent = handed_sent it.more (before ++ it.new ∷ after);
              generators = as_long;
              turns = omega (arith, entries, less);
              within = u.within;
            };
            longer = omega (arith, entries);
            options = refl;
          }

      -- as where all messages are handed over
      abbrev after_event : Cluster
      after_event = record r.cluster { servers = before ++ it.new ∷ after }

      new_from : AreFrom 0 (before ++ it.new ∷ after)
      new_from = number_kept 0 before s it.new after (its_ways.numbers s it.new it.entry w it.done) from

      all_sent : outboxes (before ++ it.new ∷ after) ≡ it.more
      all_sent =
          outboxes_more before (it.new ∷ after) ∙ ap (λ xs. xs ++ (it.new.rest.outbox ++ outboxes after)) quiet.0 ∙ ap (λ xs. it.new.rest.outbox ++ xs) quiet.2 ∙ append-nil it.new.rest.outbox ∙ sends

      handed_over : apply r.cluster (record { server = s.rest.number; what = w }) ≡ Some (hand_over after_event, it.entry)
      handed_over = applied ∙ ap (λ c. Some (c, it.entry)) (sym (handed after_event new_from ∙ ap (λ xs. record r.cluster { servers = all_waiting xs (emptied (before ++ it.new ∷ after)) }) all_sent))

  -- A BALANCE

  stays : Onward r (Some r)
  stays = record { run = r; is = refl; under_way = u; longer = omega arith; options = refl }

  one_left : (n : ℕ) → is_balanced n r ≡ true → 1 ≤ events_left r
  one_left n h = by (nat_lt 0 o.balance) (n % o.balance == 0) (nat_lt 0 (events_left r)) refl h
    where
      by : (a b c : Bool) → nat_lt 0 (events_left r) ≡ c → (a && (b && c)) ≡ true → 1 ≤ events_left r
      by true true true e g = grind (arith, nat_tests, e)
      by true true false e g = absurd (cc g)
      by true false c e g = absurd (cc g)
      by false b c e g = absurd (cc g)

  shift_goes_on : BalanceMoves → 1 ≤ events_left r → (x : Option Shift) → balance (loads r.cluster.servers) ≡ x → Onward r (shifted r x)
  shift_goes_on moves left None e = stays
  shift_goes_on moves left (Some x) e =
      let move = moves (loads r.cluster.servers) x e in
      let p = source r.cluster.servers x.source x.thread move.candidate in
      let place = p.place in
      let number = at_number 0 p.before p.mine p.after (from p.before p.mine p.after p.is) in
      let same : p.mine.rest.number ≡ x.source = omega (arith, number, place) in
      let all = all_there p.before p.mine p.after p.is in
      let loaded = loads_length r.cluster.servers in
      let target = move.target in
      let turns = u.turns in
      let range = turns_in_range o u.within in
      let on = leaves_on p.before p.mine p.after p.is x.thread x.target p.moves (omega (arith, target, loaded, all)) (λ q. move.apart (q ∙ same)) in
      subst (λ i. Onward r (option_map (λ d. record r { cluster = d.0; journal = r.journal ++ d.1 ∷ [] }) (apply r.cluster (record { server = i; what = Migrate x.thread x.target })))) same
      (event_goes_on p.before p.mine p.after p.is (Migrate x.thread x.target) on (omega (arith, turns, range, left)) p.moves (omega (arith, turns, left)))

  pub shift_can_move : BalanceMoves → 1 ≤ events_left r → (x : Shift) → balance (loads r.cluster.servers) ≡ Some x → CanMove r x
  shift_can_move moves left x e =
      let move = moves (loads r.cluster.servers) x e in
      let p = source r.cluster.servers x.source x.thread move.candidate in
      let place = p.place in
      let number = at_number 0 p.before p.mine p.after (from p.before p.mine p.after p.is) in
      let same : p.mine.rest.number ≡ x.source = omega (arith, number, place) in
      let all = all_there p.before p.mine p.after p.is in
      let loaded = loads_length r.cluster.servers in
      let target = move.target in
      let turns = u.turns in
      let range = turns_in_range o u.within in
      let few : length r.journal < 1000000000 = omega (arith, turns, range, left) in
      let w = Migrate x.thread x.target in
      let on = leaves_on p.before p.mine p.after p.is x.thread x.target p.moves (omega (arith, target, loaded, all)) (λ q. move.apart (q ∙ same)) in
      let n = it p.before p.mine p.after p.is w on few in
      let set : slice_set r.cluster.servers x.source n.new ≡ p.before ++ n.new ∷ p.after = ap (λ ss. slice_set ss x.source n.new) p.is ∙ ap (λ i. slice_set (p.before ++ p.mine ∷ p.after) i n.new) (sym place) ∙ put_there p.before p.mine n.new p.after in
      let event = λ (i : ℕ). apply r.cluster (record { server = i; what = w }) in
      let entered = λ (d : Cluster × EntryView). record r { cluster = d.0; journal = r.journal ++ d.1 ∷ [] } in
      record {
        server = p.mine;
        there = ap (λ ss. slice_get ss x.source) p.is ∙ ap (λ i. slice_get (p.before ++ p.mine ∷ p.after) i) (sym place) ∙ at_end p.before p.after p.mine;
        counts = its_ways.small (length r.journal) (ran p.before p.mine p.after p.is) (stood p.before p.mine p.after p.is).mine p.mine (good p.before p.mine p.after p.is) few (there p.before p.mine p.after p.is) (stood p.before p.mine p.after p.is).stands.same;
        on = on;
        after = n.new;
        entry = n.entry;
        done = n.done;
        moved =
            ap (λ i. option_map entered (event i)) (sym same) ∙ ap (option_map entered) (handed_over p.before p.mine p.after p.is w on few)
            ∙ ap (λ ss. Some (record r { cluster = hand_over (record r.cluster { servers = ss }); journal = r.journal ++ n.entry ∷ [] })) (sym set);
      }

  pub balance_goes_on : BalanceMoves → (n : ℕ) → Onward r (balanced n r)
  balance_goes_on moves n = by (is_balanced n r) refl
    where
      by : (b : Bool) → is_balanced n r ≡ b → Onward r (if b then shifted r (balance (loads r.cluster.servers)) else Some r)
      by true e = shift_goes_on moves (one_left n e) (balance (loads r.cluster.servers)) refl
      by false e = stays
