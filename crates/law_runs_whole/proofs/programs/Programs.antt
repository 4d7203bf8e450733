-- Whole runs of programs are right, as each event keeps coherence.
use Rattle.std.proofs.Common.{◌≡◌, ℕ, ◌+◌, ◌<◌, ◌^◌, List, [], length, arith, subst, refl, sym, ◌∙◌, ◌∷◌}
use Rattle.std.specs.Prelude.{take}
use Rattle.law_plain_table.specs.Below.fr_base.declared.instruction.Instr.{Instr}
use Rattle.law_plain_table.specs.Below.fr_terms.Terms.{block_t}
use Rattle.law_plain_table.specs.Below.fr_plain.Resolve.{program}
use Rattle.law_plain_table.specs.Below.fr_code.StandsFor.{IsCodeOf}
use Rattle.law_plain_table.specs.Tables.{HasTable, ProgramsHaveTables}
use Rattle.law_runs_coherent.specs.Below.journal.View.{EntryView}
use Rattle.law_runs_coherent.specs.Below.journal.Journals.{order, labels}
use Rattle.law_runs_coherent.specs.Below.server_model.declared.event.Event.{Event}
use Rattle.law_runs_coherent.specs.Below.server_model.Servers.{Cluster, start_of}
use Rattle.law_runs_coherent.specs.Below.server_model.Clusters.{apply}
use Rattle.law_runs_coherent.specs.Below.coherent_memory.Sight.{sight}
use Rattle.law_runs_coherent.specs.Below.coherent_memory.Naming.{events_of}
use Rattle.law_runs_coherent.specs.Below.coherent_types.ClusterTypes.{IsCoherent}
use Rattle.law_runs_coherent.specs.Below.law_counts_sums.Laws.{Gives}
use Rattle.law_runs_coherent.proofs.Below.law_counts_sums.Results.{then_gives, over_gives, given_by, weaker, both_give}
use Rattle.law_runs_coherent.proofs.Below.law_counts_sums.KnownSound.{servers_between}
use Rattle.law_runs_coherent.specs.starts.Starts.{StartsAreCoherent}
use Rattle.law_runs_whole.specs.Below.code_meaning.Laws.{RunsAlike}
use Rattle.law_runs_whole.specs.Below.code_meaning.LeftByItsCode.{LeftByItsCode}
use Rattle.law_runs_whole.proofs.Below.code_meaning.StartLeft.{starts_left}
use Rattle.law_runs_whole.proofs.Below.code_meaning.AsProgram.{alike}
use Rattle.law_runs_whole.specs.runs.Runs.{run_of, IsLed, PlainlyLeft, EachKeepsCoherence}
use Rattle.law_runs_whole.proofs.runs.Counting.{same_code}
use Rattle.law_runs_whole.proofs.runs.Following.{runs_lead}
use Rattle.law_runs_whole.proofs.runs.Colouring.{runs_are_left}
use Rattle.law_runs_whole.specs.going.Going.{IsOnItsWay}
use Rattle.law_runs_whole.proofs.going.Going.{runs_go_on}
use Rattle.law_runs_coherent.proofs.Below.law_counts_limits.sendings.Events.{events_count_messages}
use Rattle.law_runs_whole.specs.programs.Programs.{Given, RunsRight, ProgramsRunRight, ProgramsAreLeft}
use Rattle.law_runs_whole.proofs.programs.Messages.{Counted, counted}

-- THE CODE STAYS

abbrev HasCode : List Instr → Cluster × List EntryView → Type 0
HasCode code d = d.0.code ≡ code

code_stays : (code : List Instr) (es : List Event) (k : Cluster) → k.code ≡ code → Gives (HasCode code) (run_of k es)
code_stays code [] k e = e
code_stays code (x ∷ es) k e =
    then_gives (HasCode code) (apply k x) _ (λ d q. over_gives (HasCode code) (HasCode code) (run_of d.0 es) (λ r. (r.0, d.1 ∷ r.1)) (code_stays code es d.0 (given_by (λ (y : Cluster × EntryView). y.0.code ≡ k.code) (apply k x) d (same_code k x) q ∙ e)) (λ r f. f))

-- the program's own run
alike_by : (g : Given) (d : Cluster × List EntryView) → d.0.code ≡ g.code → PlainlyLeft d.0 d.1 → RunsAlike (program (block_t g.at g.items)) d.1
alike_by g d e l =
    let r = program (block_t g.at g.items) in
    let is : IsCodeOf d.0.code r = subst (λ c. IsCodeOf c r) (sym e) g.is in
    let plain = l.plain in record {
      whole = alike d.0.code r is (order d.1) plain.state (labels d.1) plain.runs;
      beginning = λ n. let s = l.labelled n in alike d.0.code r is (order (take n d.1)) s.state (labels (take n d.1)) s.runs;
    }

module _ (keeps : EachKeepsCoherence) (starts : StartsAreCoherent) (tables : ProgramsHaveTables) (g : Given) where
  table : HasTable g.code g.kind
  table = tables g.code g.at g.items g.kind g.env g.short g.typed g.is g.laid

  abbrev start : Cluster
  start = start_of g.code g.options

  coherent : IsCoherent start
  coherent = let t = table in starts g.code t.table g.options t.is g.within

  left : LeftByItsCode start []
  left = let co = coherent in starts_left g.code g.options (servers_between start co.sound).0

  runs_right : (es : List Event) → length es + 1 < 2 ^ 31 → Gives (RunsRight g) (run_of start es)
  runs_right es few =
      let t = table in
      let none = left in
      both_give (λ (d : Cluster × List EntryView). IsLed d × IsOnItsWay d.0) (λ (d : Cluster × List EntryView). HasCode g.code d × Counted start d) (RunsRight g) (run_of start es)
      (both_give IsLed (λ (d : Cluster × List EntryView). IsOnItsWay d.0) (λ (d : Cluster × List EntryView). IsLed d × IsOnItsWay d.0) (run_of start es)
      (runs_lead starts keeps g.code t.table g.options es t.is g.within (omega (arith, few))) (runs_go_on starts keeps g.code t.table g.options es t.is g.within few) (λ d a b. (a, b)))
      (both_give (HasCode g.code) (Counted start) (λ (d : Cluster × List EntryView). HasCode g.code d × Counted start d) (run_of start es) (code_stays g.code es start refl)
      (counted keeps events_count_messages es start coherent (omega (arith, none.events, few))) (λ d a b. (a, b)))
      (λ d a b. let led = a.0 in record { coherent = led.coherent; left = led.left; alike = alike_by g d b.0 led.left; messages = omega (arith, b.1, none.messages); on = a.1 })

pub programs_run_right : EachKeepsCoherence → StartsAreCoherent → ProgramsHaveTables → ProgramsRunRight
programs_run_right keeps starts tables g es few = runs_right keeps starts tables g es few

pub programs_are_left : EachKeepsCoherence → StartsAreCoherent → ProgramsHaveTables → ProgramsAreLeft
programs_are_left keeps starts tables leads g es few =
    let t = table keeps starts tables g in
    weaker (λ (d : Cluster × List EntryView). IsCoherent d.0 × LeftByItsCode d.0 d.1) (λ (d : Cluster × List EntryView). LeftByItsCode d.0 d.1) (run_of (start_of g.code g.options) es)
    (runs_are_left starts (record { keeps = keeps; leads = leads; counts = λ k e co few. events_count_messages k e co.sound few }) g.code t.table g.options es t.is g.within few) (λ d a. a.1)
