-- A whole run in rounds: it begins under way, each round does an event until it is done, and so it ends.
use Rattle.std.proofs.Common.{◌≡◌, ℕ, zero, suc, ◌+◌, ◌<◌, ◌≤◌, ◌==◌, ◌||◌, not, nat_lt, Bool, true, false, if◌then◌else◌, List, [], ◌∷◌, length, Option, Some, None, refl, sym, ap, subst, ◌∙◌, arith, length-append}
use Rattle.std.specs.Prelude.{slice_get, option_map}
use Rattle.std.proofs.lemmas.Bool.Decides.{nat_tests}
use Rattle.std.proofs.lemmas.Option.{slice_get_within}
use Rattle.law_runs_whole.proofs.Below.fr_typing.PlaceLemmas.{eq_cases}
use Rattle.law_runs_whole.specs.Below.fr_base.declared.settings.Options.{Options}
use Rattle.law_runs_whole.specs.Below.fr_base.declared.step.Ending3.{Ending3}
use Rattle.law_runs_whole.specs.Below.fr_base.declared.step.Ending3.TheVariants.{Finished, Deadlocked, Going}
use Rattle.law_runs_coherent.specs.Below.server_msgs.declared.message.Message.{Message}
use Rattle.law_runs_whole.specs.Below.server_model.declared.event.What.{What}
use Rattle.law_runs_whole.specs.Below.server_model.declared.event.What.TheVariants.{Step, Deliver, Evict, Migrate}
use Rattle.law_runs_whole.specs.Below.server_model.Servers.{Server, start_of, server_at, empty_servers, with_main}
use Rattle.law_runs_whole.specs.Below.server_model.Work.{then_some, thread_in}
use Rattle.law_runs_whole.specs.Below.server_model.Events.{can_step, has_phase, enabled}
use Rattle.drive_model.specs.Ending.{ending, is_going}
use Rattle.drive_model.specs.Choice.{candidates}
use Rattle.drive_model.specs.Laws.{BalanceMoves}
use Rattle.drive_model.specs.Rounds.{Run, Round, generators_from, run_start, round_of, events_left, after_round, round, balanced, is_done, rounds_from}
use Rattle.law_runs_whole.specs.ends.Going.{goes_on, CanGoOn, GoingCan}
use Rattle.law_runs_coherent.specs.starts.Starts.{StartsAreCoherent}
use Rattle.law_runs_whole.specs.runs.Runs.{EachKeepsCoherence}
use Rattle.law_runs_whole.proofs.going.Outboxes.{start_outboxes}
use Rattle.law_runs_rounds.specs.rounds.Order.{SameItems, IsSameServer, AreSameServers}
use Rattle.law_runs_rounds.specs.rounds.UnderWay.{IsUnderWay, HasEnded, StartsAreUnderWay, RoundsGrow, RoundsEnd, EndsAreExact}
use Rattle.law_runs_rounds.proofs.rounds.Items.{stands_there}
use Rattle.law_runs_rounds.proofs.rounds.Clusters.{servers_themselves, sent_too, same_ending, ended_quiet, one_order}
use Rattle.law_runs_rounds.proofs.rounds.Growing.{some_next, some_runs, round_grows}
use Rattle.law_runs_rounds.proofs.rounds.UnderWay.{Laws, round_goes_on, quantum_in_range}
use Rattle.law_runs_rounds.proofs.rounds.Balances.{balance_goes_on}

-- A SERVER THAT GOES ON

place_of : (ss : List Server) (n : ℕ) (z : Server) → server_at ss n ≡ Some z → (i : ℕ) × (slice_get ss i ≡ Some z)
place_of [] n z e = absurd (cc e)
place_of (s ∷ ss) n z e =
    eq_cases (λ b. (if b then Some s else server_at ss n) ≡ Some z → (i : ℕ) × (slice_get (s ∷ ss) i ≡ Some z)) s.rest.number n (λ _ h. (zero, h)) (λ _ h. let p = place_of ss n z h in (suc p.0, p.1)) e

same_there : (ss zs : List Server) (i : ℕ) (z : Server) → AreSameServers ss zs → slice_get zs i ≡ Some z → (s : Server) × (slice_get ss i ≡ Some s) × IsSameServer s z
same_there ss [] i z a e = absurd (cc e)
same_there [] (y ∷ zs) i z a e = absurd a
same_there (s ∷ ss) (y ∷ zs) zero z a e = let same : y ≡ z = cc in (s, refl, subst (IsSameServer s) same a.0)
same_there (s ∷ ss) (y ∷ zs) (suc i) z a e = same_there ss zs i z a.1 e

some_item : (xs ys : List Message) (i : ℕ) → SameItems xs ys → nat_lt i (length ys) ≡ true → 1 ≤ length xs
some_item [] ys i s l =
    let less : i < length ys = grind (arith, nat_tests, l) in
    let none : length ys ≡ 0 = ap length s in
    absurd (omega (arith, less, none))
some_item (x ∷ xs) ys i s l = omega arith

-- one that can step or deliver draws an event
can_draw : (o : Options) (w : What) (s z : Server) → goes_on w ≡ true → enabled o z w ≡ true → IsSameServer s z → 1 ≤ candidates s
can_draw o (Step t) s z k e h = let some = some_runs s.threads t (ap (λ (x : Server). has_phase can_step (thread_in x.threads t)) (sym h.same) ∙ e) in omega (arith, some)
can_draw o (Deliver i) s z k e h = let some = some_item s.rest.inbox z.rest.inbox i h.waiting e in omega (arith, some)
can_draw o (Evict w) s z k e h = absurd (cc k)
can_draw o (Migrate t target) s z k e h = absurd (cc k)

-- ROUNDS THAT GROW

going : (e : Ending3) → is_going e ≡ true → e ≡ Going
going Going h = refl
going Finished h = absurd (cc h)
going Deadlocked h = absurd (cc h)

-- a run that isn't done is going, and may do an event
not_done : (r : Run) → is_done r ≡ false → (is_going (ending r.cluster) ≡ true) × (1 ≤ events_left r)
not_done r e = by (is_going (ending r.cluster)) (events_left r == 0) refl refl e
  where
    by : (g z : Bool) → is_going (ending r.cluster) ≡ g → (events_left r == 0) ≡ z → not g || z ≡ false → (is_going (ending r.cluster) ≡ true) × (1 ≤ events_left r)
    by true false q p h = (q, grind (arith, nat_tests, p))
    by true true q p h = absurd (cc h)
    by false z q p h = absurd (cc h)

pub rounds_grow : GoingCan → RoundsGrow
rounds_grow goes r x u e is = after (round_of r.cluster.code r.cluster.options (events_left r) r.cluster.servers r.generators) refl is
  where
    open_still : (is_going (ending r.cluster) ≡ true) × (1 ≤ events_left r)
    open_still = not_done r e

    can : CanGoOn u.ran
    can = goes u.ran u.coherent.sound (sent_too r.cluster.servers u.ran.servers u.same.servers ∙ u.sent) (same_ending r.cluster u.ran u.same ∙ going (ending r.cluster) open_still.0)

    some_entry : (v : Round) → round_of r.cluster.code r.cluster.options (events_left r) r.cluster.servers r.generators ≡ Some v → 1 ≤ length v.entries
    some_entry v h =
        let p = place_of u.ran.servers can.event.server can.server can.there in
        let s = same_there r.cluster.servers u.ran.servers p.0 can.server u.same.servers p.1 in
        let g = stands_there r.generators p.0 (let within = slice_get_within r.cluster.servers p.0 s.0 s.1 in let long = u.generators in omega (arith, within, long)) in
        let d = some_next r.cluster.options s.0 g.0 (can_draw u.ran.options can.event.what s.0 can.server can.kind can.on s.2) in
        round_grows r.cluster.code r.cluster.options r.cluster.servers r.generators p.0 (events_left r) s.0 g.0 d.0 v (quantum_in_range r.cluster.options u.within) open_still.1 s.1 g.1 d.1 h

    after : (o : Option Round) → round_of r.cluster.code r.cluster.options (events_left r) r.cluster.servers r.generators ≡ o → option_map (after_round r) o ≡ Some x → length r.journal < length x.journal
    after None q h = absurd (cc h)
    after (Some v) q h =
        let same : after_round r v ≡ x = cc in
        let entries = length-append r.journal v.entries in
        let some = some_entry v q in
        subst (λ (y : Run). length r.journal < length y.journal) same (omega (arith, entries, some))

-- WHOLE RUNS

generators_as_many : (choice s n : ℕ) → length (generators_from choice s n) ≡ n
generators_as_many choice s zero = refl
generators_as_many choice s (suc n) = ap suc (generators_as_many choice (s + 1) n)

servers_as_many : (o : Options) (s n : ℕ) → length (empty_servers o s n) ≡ n
servers_as_many o s zero = refl
servers_as_many o s (suc n) = ap suc (servers_as_many o (s + 1) n)

main_as_many : (ss : List Server) → length (with_main ss) ≡ length ss
main_as_many [] = refl
main_as_many (s ∷ ss) = refl

pub starts_under_way : StartsAreCoherent → StartsAreUnderWay
starts_under_way starts code table o is_table within = record {
  events = [];
  ran = start_of code o;
  leads = refl;
  coherent = starts code table o is_table within;
  chosen = tt;
  same = record { code = refl; options = refl; servers = servers_themselves (start_of code o).servers };
  sent = start_outboxes o;
  generators = generators_as_many o.choice 0 o.servers ∙ sym (main_as_many (empty_servers o 0 o.servers) ∙ servers_as_many o 0 o.servers);
  turns = omega arith;
  within = within;
}

-- with no event left it is done
none_left : (r : Run) → events_left r ≡ 0 → is_done r ≡ true
none_left r e = ap (λ n. not (is_going (ending r.cluster)) || n == 0) e ∙ by (not (is_going (ending r.cluster)))
  where
    by : (b : Bool) → b || true ≡ true
    by true = refl
    by false = refl

module _ (l : Laws) (keeps : EachKeepsCoherence) (goes : GoingCan) (moves : BalanceMoves) where
  abbrev Ends : ℕ → Type 0
  Ends k = (n : ℕ) (r : Run) → IsUnderWay r → r.cluster.options.turns ≤ length r.journal + k → HasEnded (rounds_from k n r)

  -- a round, a balance, and the rest of the run
  goes_further : (k : ℕ) → Ends k → (n : ℕ) (r : Run) (u : IsUnderWay r) → r.cluster.options.turns ≤ length r.journal + suc k → is_done r ≡ false → HasEnded (then_some (round r) (λ x. then_some (balanced n x) (rounds_from k (n + 1))))
  goes_further k go n r u few open_still =
      let a = round_goes_on l keeps r u in
      let b = balance_goes_on l keeps a.run a.under_way moves n in
      let more = rounds_grow goes r a.run u open_still a.is in
      let longer = b.longer in
      let turns : b.run.cluster.options.turns ≡ r.cluster.options.turns = ap (λ (o : Options). o.turns) (b.options ∙ a.options) in
      let end = go (n + 1) b.run b.under_way (omega (arith, few, more, longer, turns)) in
      record { run = end.run; is = ap (λ y. then_some y (λ x. then_some (balanced n x) (rounds_from k (n + 1)))) a.is ∙ ap (λ y. then_some y (rounds_from k (n + 1))) b.is ∙ end.is; under_way = end.under_way; done = end.done }

  ends_at : (k n : ℕ) (r : Run) (u : IsUnderWay r) (o : Option Run) → (is_done r ≡ false → HasEnded o) → HasEnded (if is_done r then Some r else o)
  ends_at k n r u o go = by (is_done r) refl go
    where
      by : (b : Bool) → is_done r ≡ b → (is_done r ≡ false → HasEnded o) → HasEnded (if b then Some r else o)
      by true q h = record { run = r; is = refl; under_way = u; done = q }
      by false q h = h q

  ends : (k : ℕ) → Ends k
  ends zero n r u few = record { run = r; is = refl; under_way = u; done = none_left r (omega (arith, few)) }
  ends (suc k) n r u few = ends_at k n r u (then_some (round r) (λ x. then_some (balanced n x) (rounds_from k (n + 1)))) (goes_further k (ends k) n r u few)

pub rounds_end : Laws → StartsAreCoherent → GoingCan → BalanceMoves → RoundsEnd
rounds_end l starts goes moves keeps code table o is_table within = ends l keeps goes moves o.turns 1 (run_start code o) (starts_under_way starts code table o is_table within) (omega arith)

pub ends_exact : EndsAreExact
ends_exact r u e =
    let servers = one_order r.cluster.servers u.ran.servers (ended_quiet r.cluster e) u.same.servers in
    ap (λ c. record u.ran { code = c }) u.same.code ∙ ap (λ x. record { code = r.cluster.code; options = x; servers = u.ran.servers }) u.same.options ∙ ap (λ ss. record r.cluster { servers = ss }) servers
