-- So rounds and whole runs do the same.
use Rattle.std.proofs.Common.{◌≡◌, ℕ, zero, suc, ◌+◌, ◌-◌, Bool, true, false, List, [], ◌∷◌, ◌++◌, length, Option, None, Some, refl, sym, ap, ◌∙◌, if◌then◌else◌}
use Rattle.std.specs.Prelude.{min, option_map}
use Rattle.fr_base.specs.declared.instruction.Instr.{Instr}
use Rattle.fr_base.specs.declared.settings.Options.{Options}
use Rattle.rand_pcg.specs.Lcg.{Lcg}
use Rattle.journal.specs.View.{EntryView}
use Rattle.server_model.specs.declared.event.Event.{Event}
use Rattle.server_model.specs.declared.event.What.{What}
use Rattle.server_model.specs.declared.event.What.TheVariants.{Migrate}
use Rattle.server_model.specs.Servers.{Server, Cluster, server_at}
use Rattle.server_model.specs.Work.{then_some}
use Rattle.server_model.specs.Events.{enabled, does}
use Rattle.server_model.specs.Clusters.{hand_over_newer, done_at, apply}
use Rattle.drive_model.specs.Balance.{Shift, loads, balance}
use Rattle.drive_model.specs.Choice.{Drawn, next}
use Rattle.drive_model.specs.Rounds.{Run, Worked, Round, after_entry, work_on, work, before_round, round_of, events_left, after_round, round, shifted, is_balanced, balanced, is_done, rounds_from, rounds, run_start}
use Rattle.law_runs_whole.specs.Below.law_plain_table.Bare.{bare}
use Rattle.law_runs_rounds.specs.room.Rooms.{bare_run, RunsKnowNoRoom, RunsAreOne}
use Rattle.law_runs_rounds.proofs.room.Steps.{then_same, does_bare}

-- A ROUND

-- what a server goes on with after an event
abbrev goes : List Instr → Options → ℕ → Drawn → Server × EntryView → Option Worked
goes code o n d e = option_map (after_entry e.1) (work code o n e.0 d.generator)

work_on_bare : (code : List Instr) (o : Options) (n : ℕ) → ((s : Server) (g : Lcg) → work (bare code) o n s g ≡ work code o n s g) → (s : Server) (g : Lcg) (d : Option Drawn) → work_on (work (bare code) o n) (bare code) o s g d ≡ work_on (work code o n) code o s g d
work_on_bare code o n more s g None = refl
work_on_bare code o n more s g (Some d) =
    ap (λ e. then_some e (goes (bare code) o n d)) (does_bare code o s d.what)
    ∙ then_same (does code o s d.what) (goes (bare code) o n d) (goes code o n d) (λ e. ap (option_map (after_entry e.1)) (more e.0 d.generator))

work_bare : (code : List Instr) (o : Options) (n : ℕ) (s : Server) (g : Lcg) → work (bare code) o n s g ≡ work code o n s g
work_bare code o zero s g = refl
work_bare code o (suc n) s g = work_on_bare code o n (work_bare code o n) s g (next o s g)

round_of_bare : (code : List Instr) (o : Options) (left : ℕ) (ss : List Server) (gs : List Lcg) → round_of (bare code) o left ss gs ≡ round_of code o left ss gs
round_of_bare code o left [] gs = refl
round_of_bare code o left (s ∷ ss) [] = refl
round_of_bare code o left (s ∷ ss) (g ∷ gs) =
    ap (λ w. then_some w (go (bare code))) (work_bare code o (min o.quantum left) s g)
    ∙ then_same (work code o (min o.quantum left) s g) (go (bare code)) (go code) (λ w. ap (option_map (before_round w)) (round_of_bare code o (left - length w.entries) ss gs))
  where
    go : List Instr → Worked → Option Round
    go c w = option_map (before_round w) (round_of c o (left - length w.entries) ss gs)

round_bare : (r : Run) → round (bare_run r) ≡ option_map bare_run (round r)
round_bare r =
    ap (option_map (after_round (bare_run r))) (round_of_bare r.cluster.code r.cluster.options (events_left r) r.cluster.servers r.generators)
    ∙ after (round_of r.cluster.code r.cluster.options (events_left r) r.cluster.servers r.generators)
  where
    after : (x : Option Round) → option_map (after_round (bare_run r)) x ≡ option_map bare_run (option_map (after_round r) x)
    after None = refl
    after (Some x) = refl

-- A BALANCE

abbrev bare_cluster : Cluster → Cluster
bare_cluster k = record k { code = bare k.code }

done_bare : (k : Cluster) (w : What) (s : Server) → done_at (bare_cluster k) w s ≡ done_at k w s
done_bare k w s = ap (λ d. if enabled k.options s w then d else None) (does_bare k.code k.options s w)

apply_bare : (k : Cluster) (e : Event) → apply (bare_cluster k) e ≡ option_map (λ d. (bare_cluster d.0, d.1)) (apply k e)
apply_bare k e = at_it (server_at k.servers e.server)
  where
    after : Cluster → Server → Server × EntryView → Cluster × EntryView
    after c s d = (record c { servers = hand_over_newer e.server (length s.rest.outbox) d.0 c.servers }, d.1)

    done : (s : Server) (d : Option (Server × EntryView)) → option_map (after (bare_cluster k) s) d ≡ option_map (λ x. (bare_cluster x.0, x.1)) (option_map (after k s) d)
    done s None = refl
    done s (Some d) = refl

    at_it : (o : Option Server) → then_some o (λ s. option_map (after (bare_cluster k) s) (done_at (bare_cluster k) e.what s)) ≡ option_map (λ x. (bare_cluster x.0, x.1)) (then_some o (λ s. option_map (after k s) (done_at k e.what s)))
    at_it None = refl
    at_it (Some s) = ap (option_map (after (bare_cluster k) s)) (done_bare k e.what s) ∙ done s (done_at k e.what s)

shifted_bare : (r : Run) (x : Option Shift) → shifted (bare_run r) x ≡ option_map bare_run (shifted r x)
shifted_bare r None = refl
shifted_bare r (Some x) = ap (option_map (after (bare_run r))) (apply_bare r.cluster e) ∙ moved (apply r.cluster e)
  where
    e : Event
    e = record { server = x.source; what = Migrate x.thread x.target }

    after : Run → Cluster × EntryView → Run
    after q d = record q { cluster = d.0; journal = q.journal ++ d.1 ∷ [] }

    moved : (d : Option (Cluster × EntryView)) → option_map (after (bare_run r)) (option_map (λ y. (bare_cluster y.0, y.1)) d) ≡ option_map bare_run (option_map (after r) d)
    moved None = refl
    moved (Some d) = refl

balanced_bare : (n : ℕ) (r : Run) → balanced n (bare_run r) ≡ option_map bare_run (balanced n r)
balanced_bare n r = by (is_balanced n r)
  where
    by : (b : Bool) → (if b then shifted (bare_run r) (balance (loads r.cluster.servers)) else Some (bare_run r)) ≡ option_map bare_run (if b then shifted r (balance (loads r.cluster.servers)) else Some r)
    by true = shifted_bare r (balance (loads r.cluster.servers))
    by false = refl

-- WHOLE RUNS

-- a balance after a round, and what comes then
abbrev onward : ℕ → ℕ → Run → Option Run
onward k n x = then_some (balanced n x) (rounds_from k (n + 1))

rest_bare : (k n : ℕ) → ((r : Run) → rounds_from k n (bare_run r) ≡ option_map bare_run (rounds_from k n r)) → (o : Option Run) → then_some (option_map bare_run o) (rounds_from k n) ≡ option_map bare_run (then_some o (rounds_from k n))
rest_bare k n more None = refl
rest_bare k n more (Some x) = more x

onward_bare : (k n : ℕ) → ((r : Run) → rounds_from k (n + 1) (bare_run r) ≡ option_map bare_run (rounds_from k (n + 1) r)) → (o : Option Run) → then_some (option_map bare_run o) (onward k n) ≡ option_map bare_run (then_some o (onward k n))
onward_bare k n more None = refl
onward_bare k n more (Some x) = ap (λ o. then_some o (rounds_from k (n + 1))) (balanced_bare n x) ∙ rest_bare k (n + 1) more (balanced n x)

goes_on_bare : (k n : ℕ) → ((r : Run) → rounds_from k (n + 1) (bare_run r) ≡ option_map bare_run (rounds_from k (n + 1) r)) → (r : Run) (b : Bool) → (if b then Some (bare_run r) else then_some (round (bare_run r)) (onward k n)) ≡ option_map bare_run (if b then Some r else then_some (round r) (onward k n))
goes_on_bare k n more r true = refl
goes_on_bare k n more r false = ap (λ o. then_some o (onward k n)) (round_bare r) ∙ onward_bare k n more (round r)

rounds_bare : (k n : ℕ) (r : Run) → rounds_from k n (bare_run r) ≡ option_map bare_run (rounds_from k n r)
rounds_bare zero n r = refl
rounds_bare (suc k) n r = goes_on_bare k n (rounds_bare k (n + 1)) r (is_done r)

pub runs_know : RunsKnowNoRoom
runs_know code o = rounds_bare o.turns 1 (run_start code o)

pub runs_one : RunsAreOne
runs_one c d o q r e a b =
    let first : rounds (bare c) o ≡ Some (bare_run q) = runs_know c o ∙ ap (option_map bare_run) a in
    let second : rounds (bare d) o ≡ Some (bare_run r) = runs_know d o ∙ ap (option_map bare_run) b in
    let whole : Some (bare_run q) ≡ Some (bare_run r) = sym first ∙ ap (λ c. rounds c o) e ∙ second in
    let same : bare_run q ≡ bare_run r = cc in
    record { servers = ap (λ x. x.cluster.servers) same; options = ap (λ x. x.cluster.options) same; journal = ap (λ x. x.journal) same }
