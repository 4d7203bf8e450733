-- A run under way: a round and a balance of it have a result, and it is under way again.
use Rattle.std.proofs.Common.{◌≡◌, ℕ, zero, suc, ◌+◌, ◌<◌, ◌≤◌, ◌&&◌, nat_le, List, [], ◌∷◌, ◌++◌, length, Option, Some, refl, sym, ap, subst, ◌∙◌, arith, length-append}
use Rattle.std.specs.Prelude.{min, slice_get, option_map}
use Rattle.std.proofs.lemmas.Bool.Decides.{nat_tests}
use Rattle.std.proofs.Math.Nat.{min-le_right}
use Rattle.rand_pcg.specs.Lcg.{Lcg}
use Rattle.law_runs_whole.specs.Below.fr_base.declared.instruction.Instr.{Instr}
use Rattle.law_runs_whole.specs.Below.fr_base.declared.settings.Options.{Options}
use Rattle.law_runs_whole.specs.Below.fr_code.CodeTable.{IsTable}
use Rattle.law_runs_whole.specs.Below.journal.View.{EntryView}
use Rattle.law_runs_whole.specs.Below.server_model.declared.event.Event.{Event}
use Rattle.law_runs_whole.specs.Below.server_model.Servers.{Server, Cluster, start_of, server_at}
use Rattle.law_runs_whole.specs.Below.server_model.Work.{then_some, thread_in}
use Rattle.law_runs_whole.specs.Below.server_model.Events.{does}
use Rattle.law_runs_whole.specs.Below.server_model.Clusters.{apply, outboxes}
use Rattle.drive_model.specs.Rounds.{Run, events_left, after_round, round}
use Rattle.law_runs_whole.specs.Below.coherent_memory.Names.{tot}
use Rattle.law_runs_whole.specs.Below.coherent_memory.Sight.{sight}
use Rattle.law_runs_whole.specs.Below.coherent_memory.Naming.{between, rising, numbers_of, cached_twice, options_out, events_of}
use Rattle.law_runs_whole.proofs.Below.coherent_memory.Names.{and_left, and_right}
use Rattle.law_counts_limits.proofs.Below.law_counts_sums.Askers.{other_none}
use Rattle.law_runs_coherent.specs.Below.coherent_types.ClusterTypes.{IsCoherent}
use Rattle.law_counts_limits.specs.Below.law_counts_sums.Laws.{FewEvents}
use Rattle.law_counts_limits.proofs.Below.law_counts_sums.Results.{given_by}
use Rattle.law_results_events.specs.enabled.Events.{EventsHaveResults}
use Rattle.law_counts_limits.specs.limits.Counts.{events_in, CountsAreSmall}
use Rattle.law_counts_limits.specs.limits.Sending.{SendsFew, EventsSendFew}
use Rattle.law_runs_whole.specs.runs.Runs.{run_of, EachKeepsCoherence, IsLed, RunsLead}
use Rattle.law_runs_rounds.specs.rounds.Order.{AreSameServers}
use Rattle.law_runs_rounds.specs.rounds.Working.{HasSmallCounts, CanWork}
use Rattle.law_runs_rounds.specs.rounds.UnderWay.{IsUnderWay}
use Rattle.law_runs_rounds.proofs.rounds.Numbered.{AreFrom}
use Rattle.law_runs_rounds.proofs.rounds.Mirrored.{bare}
use Rattle.law_runs_rounds.proofs.rounds.Standing.{AllStand, cluster}
use Rattle.law_runs_rounds.proofs.rounds.Works.{AreWays, works}
use Rattle.law_runs_rounds.proofs.rounds.OneRound.{runs_on, chosen_on, as_many, none_behind, split, Rounds, rounds_of}
use Rattle.law_runs_rounds.proofs.rounds.Clusters.{begin, finish, numbered_too, handed, handed_sent, handed_length}
use Rattle.law_runs_rounds.proofs.rounds.Chosen.{IsInOrder, next_enabled, sound_order, sound_numbers}

-- what the laws below say of events and runs
pub record Laws : Type 0 where
  pub results : EventsHaveResults
  pub sends : EventsSendFew
  pub counts : CountsAreSmall
  pub led : RunsLead
  pub counted : (k : Cluster) → events_of (sight k) ≡ events_in k.servers

-- WHERE A RUN OF EVENTS COMES TO

module _ (l : Laws) (keeps : EachKeepsCoherence) (code : List Instr) (o : Options) (within : options_out o ≡ 0) where
  -- after so many events from the start
  pub record Led (n : ℕ) (zs : List Server) : Type 0 where
    pub events : List Event
    pub journal : List EntryView
    pub leads : run_of (start_of code o) events ≡ Some (cluster code o zs, journal)
    pub count : length events ≡ n
    pub coherent : IsCoherent (cluster code o zs)

  abbrev most : ℕ
  most = 1000000000

  pub done : (n : ℕ) (zs : List Server) → Led n zs → n < most → events_of (sight (cluster code o zs)) ≡ n
  done n zs d few =
      let table = d.coherent.types.table in
      let is_table : IsTable code table = d.coherent.types.is_table in
      let count = d.count in
      let led = given_by IsLed (run_of (start_of code o) d.events) (cluster code o zs, d.journal) (l.led keeps code table o d.events is_table within (omega (arith, few, count))) d.leads in
      let events = led.left.events in
      let long = as_many d.events (start_of code o) (cluster code o zs) d.journal d.leads in
      omega (arith, events, long, count)

  pub few_then : (n : ℕ) (zs : List Server) → Led n zs → n < most → FewEvents (cluster code o zs)
  few_then n zs d few = let count = done n zs d few in omega (arith, count, few)

  -- of a server that differs in its messages alone
  pub in_order_too : (z s : Server) → bare z ≡ bare s → IsInOrder z → IsInOrder s
  in_order_too z s same h = record {
    once = subst (λ (b : Server). tot (cached_twice b.rest.cache) b.rest.cache ≡ 0) same h.once;
    rise = subst (λ (b : Server). rising (numbers_of (λ x. x.number) b.threads) ≡ 0) same h.rise;
  }

  small_too : (n : ℕ) (zs : List Server) (z s : Server) → Led n zs → n < most → server_at zs z.rest.number ≡ Some z → bare z ≡ bare s → HasSmallCounts code s
  small_too n zs z s d few there same =
      let small = l.counts (cluster code o zs) z.rest.number z d.coherent there in
      let count = done n zs d few in
      let counted = l.counted (cluster code o zs) in
      let started : z.rest.started ≡ s.rest.started = ap (λ (b : Server). b.rest.started) same in
      let events : z.events ≡ s.events = ap (λ (b : Server). b.events) same in
      let first = small.started in
      let second = small.events in
      record {
        started = omega (arith, first, started, count, counted, few);
        events = omega (arith, second, events, count, counted, few);
        threads = λ t y h. (let x = small.threads t y (ap (λ (b : Server). thread_in b.threads t) same ∙ h) in let made = x.made in record { pc = x.pc; made = omega (arith, made, count, counted, few); passed = x.passed; slots = x.slots });
      }

  one_further : (n : ℕ) (zs zs2 : List Server) (e : Event) (x : EntryView) → Led n zs → n < most → apply (cluster code o zs) e ≡ Some (cluster code o zs2, x) → Led (suc n) zs2
  one_further n zs zs2 e x d few h =
      let count = d.count in
      let more = length-append d.events (e ∷ []) in
      record {
        events = d.events ++ e ∷ [];
        journal = d.journal ++ x ∷ [];
        leads = runs_on d.events (e ∷ []) (start_of code o) (cluster code o zs) (cluster code o zs2) d.journal (x ∷ []) d.leads (ap (λ y. then_some y (λ (r : Cluster × EntryView). Some (r.0, r.1 ∷ []))) h);
        count = omega (arith, count, more);
        coherent = given_by (λ (r : Cluster × EntryView). IsCoherent r.0) (apply (cluster code o zs) e) (cluster code o zs2, x) (keeps (cluster code o zs) e d.coherent (few_then n zs d few)) h;
      }

  pub ways : AreWays code o Led most
  ways = record {
    numbered = λ n zs d. sound_numbers (cluster code o zs) d.coherent.sound;
    numbers = λ s new e w h. (given_by (λ (r : Server × EntryView). SendsFew 2 s.rest r.0.rest) (does code o s w) (new, e) (l.sends code o s w) h).same;
    chosen = λ n zs z s g x d there same h. next_enabled o s (in_order_too z s same (sound_order (cluster code o zs) d.coherent.sound z.rest.number z there)) g x h;
    small = small_too;
    results = λ n zs z w d few there on. l.results (cluster code o zs) z.rest.number w z d.coherent (few_then n zs d few) there on;
    keeps = one_further;
  }

-- A RUN

-- where a run goes on to
pub record Onward (r : Run) (o : Option Run) : Type 0 where
  pub run : Run
  pub is : o ≡ Some run
  pub under_way : IsUnderWay run
  pub longer : length r.journal ≤ length run.journal
  pub options : run.cluster.options ≡ r.cluster.options

-- a number that is between two others
pub in_range : (n a b : ℕ) → between a b n ≡ 0 → (a ≤ n) × (n ≤ b)
in_range n a b z =
    let so = other_none (nat_le a n && nat_le n b) z in
    let low = and_left (nat_le a n) (nat_le n b) so in
    let high = and_right (nat_le a n) (nat_le n b) so in
    (grind (arith, nat_tests, low), grind (arith, nat_tests, high))

pub turns_in_range : (o : Options) → options_out o ≡ 0 → o.turns ≤ 1000000000
turns_in_range o z = (in_range o.turns 1 1000000000 (omega (arith, z))).1

pub quantum_in_range : (o : Options) → options_out o ≡ 0 → 1 ≤ o.quantum
quantum_in_range o z = (in_range o.quantum 1 1024 (omega (arith, z))).0

module _ (l : Laws) (keeps : EachKeepsCoherence) (r : Run) (u : IsUnderWay r) where
  abbrev code : List Instr
  code = r.cluster.code

  abbrev o : Options
  o = r.cluster.options

  abbrev ss : List Server
  ss = r.cluster.servers

  abbrev zs : List Server
  zs = u.ran.servers

  ran_is : u.ran ≡ cluster code o zs
  ran_is = ap (λ c. record u.ran { code = c }) u.same.code ∙ ap (λ x. record { code = code; options = x; servers = zs }) u.same.options

  pub leads : run_of (start_of code o) u.events ≡ Some (cluster code o zs, r.journal)
  leads = u.leads ∙ ap (λ k. Some (k, r.journal)) ran_is

  pub led : Led l keeps code o u.within (length r.journal) zs
  led = record {
    events = u.events;
    journal = r.journal;
    leads = leads;
    count = sym (as_many u.events (start_of code o) (cluster code o zs) r.journal leads);
    coherent = subst IsCoherent ran_is u.coherent;
  }

  pub stand : AllStand [] ss zs
  stand = begin ss zs u.sent u.same.servers

  few : length r.journal + events_left r ≤ 1000000000
  few = let turns = u.turns in let range = turns_in_range o u.within in omega (arith, turns, range)

  abbrev its_ways : AreWays code o (Led l keeps code o u.within) 1000000000
  its_ways = ways l keeps code o u.within

  -- A ROUND

  all_work : Rounds code o (Led l keeps code o u.within) 1000000000 its_ways (events_left r) (length r.journal) [] [] ss [] zs r.generators
  all_work = rounds_of code o (Led l keeps code o u.within) 1000000000 its_ways ss r.generators (events_left r) (length r.journal) [] [] [] zs u.generators u.sent tt stand few led

  round_after : (x : Rounds code o (Led l keeps code o u.within) 1000000000 its_ways (events_left r) (length r.journal) [] [] ss [] zs r.generators) → Onward r (round r)
  round_after x =
      let worked = x.round.servers in
      let k : Cluster = record r.cluster { servers = worked } in
      let alone : x.before ≡ [] = none_behind x.more x.before x.stand_before in
      let after : x.before ++ x.after ≡ x.after = ap (λ b. b ++ x.after) alone in
      let numbers : AreFrom 0 x.after = subst (AreFrom 0) after (sound_numbers (cluster code o (x.before ++ x.after)) x.good.coherent.sound) in
      let from : AreFrom 0 worked = numbered_too x.more 0 worked x.after x.stand_after numbers in
      let over = handed k from in
      let stood : AllStand (outboxes worked) worked x.after = subst (λ xs. AllStand xs worked x.after) (sym x.sent) x.stand_after in
      let runs : run_of (cluster code o zs) x.events ≡ Some (cluster code o x.after, x.round.entries) = x.runs ∙ ap (λ b. Some (cluster code o b, x.round.entries)) after in
      let turns = u.turns in
      let less = x.few in
      let entries = length-append r.journal x.round.entries in
      record {
        run = after_round r x.round;
        is = ap (option_map (after_round r)) x.is;
        under_way = record {
          events = u.events ++ x.events;
          ran = cluster code o x.after;
          leads = runs_on u.events x.events (start_of code o) (cluster code o zs) (cluster code o x.after) r.journal x.round.entries leads runs;
          coherent = subst (λ b. IsCoherent (cluster code o b)) after x.good.coherent;
          chosen = chosen_on u.events x.events (start_of code o) (cluster code o zs) r.journal leads u.chosen x.chosen;
          same = record { code = refl; options = refl; servers = subst (λ (c : Cluster). AreSameServers c.servers x.after) (sym over) (finish (outboxes worked) worked x.after stood) };
          sent = subst (λ (c : Cluster). outboxes c.servers ≡ []) (sym over) (handed_sent (outboxes worked) worked);
          generators = x.generators ∙ subst (λ (c : Cluster). length worked ≡ length c.servers) (sym over) (sym (handed_length (outboxes worked) worked));
          turns = omega (arith, turns, less, entries);
          within = u.within;
        };
        longer = omega (arith, entries);
        options = refl;
      }

  pub round_goes_on : Onward r (round r)
  round_goes_on = round_after all_work

  -- ONE SERVER IN IT

  its_place : (ts : List Server) (i : ℕ) (s : Server) → slice_get ts i ≡ Some s → (ps : List Server) × (rest : List Server) × (ts ≡ ps ++ s ∷ rest)
  its_place [] i s h = absurd (cc h)
  its_place (t ∷ ts) zero s h = let same : t ≡ s = cc in ([], ts, ap (λ x. x ∷ ts) same)
  its_place (t ∷ ts) (suc i) s h = let p = its_place ts i s h in (t ∷ p.0, p.1, ap (λ x. t ∷ x) p.2)

  pub can_work : (i : ℕ) (s : Server) (g : Lcg) → slice_get ss i ≡ Some s → CanWork code o (min o.quantum (events_left r)) s g
  can_work i s g h =
      let p = its_place ss i s h in
      let a = split [] p.0 s p.1 zs (subst (λ x. AllStand [] x zs) p.2 stand) in
      let capped = min-le_right o.quantum (events_left r) in
      let budget = few in
      (works code o (Led l keeps code o u.within) 1000000000 its_ways (min o.quantum (events_left r)) (length r.journal) [] p.0 p.1 a.front a.back s a.mine g (omega (arith, budget, capped))
      (subst (λ x. Led l keeps code o u.within (length r.journal) x) a.is led) a.stands a.before a.after).can
