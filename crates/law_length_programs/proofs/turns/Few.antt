-- The steps and threads of a program's run are few, and so are its entries.
use Rattle.std.proofs.Common.{◌≡◌, ◌≤◌, ◌<◌, ◌+◌, ◌*◌, ◌^◌, true, List, [], ◌∷◌, length, Option, Some, None, refl, ◌∙◌, subst, arith}
use Rattle.law_plain_table.specs.Below.fr_base.declared.settings.Options.{Options}
use Rattle.law_plain_table.specs.Below.fr_terms.Terms.{block_t}
use Rattle.law_plain_table.specs.Below.fr_plain.Resolve.{program}
use Rattle.law_plain_table.specs.Below.fr_plain.Whole as term
use Rattle.law_plain_table.specs.Tables.{HasTable, ProgramsHaveTables}
use Rattle.law_length_programs.specs.sizes.Size.{nodes_of, HaveBlocks}
use Rattle.law_runs_right.specs.Below.law_runs_whole.Below.journal.View.{EntryView}
use Rattle.law_runs_right.specs.Below.law_runs_whole.Below.journal.Journals.{order, labels}
use Rattle.law_runs_right.specs.Below.law_runs_whole.Below.coloured_heap.Heap.{start}
use Rattle.law_runs_right.specs.Below.law_runs_whole.Below.coloured_heap.Driven.{is_driven}
use Rattle.law_runs_right.specs.Below.law_runs_whole.Below.server_model.declared.event.Event.{Event}
use Rattle.law_runs_right.specs.Below.law_runs_whole.Below.server_model.Servers.{Cluster, start_of}
use Rattle.law_runs_right.specs.Below.law_runs_whole.Below.server_model.Clusters.{apply}
use Rattle.law_runs_right.specs.Below.law_runs_whole.Below.coherent_memory.Sight.{sight}
use Rattle.law_runs_right.specs.Below.law_runs_whole.Below.coherent_memory.Naming.{events_of}
use Rattle.law_runs_right.specs.Below.law_counts_things.Below.coherent_types.ClusterTypes.{IsCoherent}
use Rattle.law_runs_right.specs.Below.law_runs_whole.Below.law_counts_sums.Laws.{Gives, FewEvents}
use Rattle.law_runs_right.proofs.Below.law_runs_whole.Below.law_counts_sums.Results.{then_gives, over_gives, both_give, given_by}
use Rattle.law_runs_right.proofs.Below.law_runs_whole.Below.law_counts_sums.KnownSound.{servers_between}
use Rattle.law_runs_coherent.specs.starts.Starts.{StartsAreCoherent}
use Rattle.law_runs_right.specs.Below.law_runs_whole.runs.Runs.{run_of, EachKeepsCoherence}
use Rattle.law_runs_right.proofs.Below.law_runs_whole.Below.code_meaning.StartLeft.{starts_left}
use Rattle.law_runs_right.proofs.Below.law_runs_whole.runs.Counting.{one_more}
use Rattle.law_runs_right.specs.Below.law_runs_whole.Below.code_meaning.Laws.{IsRunWith}
use Rattle.law_runs_right.specs.Below.law_runs_whole.programs.Programs.{Given, RunsRight, ProgramsRunRight}
use Rattle.law_runs_right.specs.Below.law_length_runs.worth.Driving.{plain_steps}
use Rattle.law_runs_right.specs.Below.law_length_runs.asked.Resting.{threads_in}
use Rattle.law_runs_right.specs.Below.law_length_runs.short.Short.{RunsOfProgramsAreShort}
use Rattle.law_length_programs.specs.orders.Orders.{OrdersAreShort}
use Rattle.law_runs_right.proofs.Below.law_length_runs.driven.Driving.{same_options}
use Rattle.law_length_programs.specs.turns.Turns.{StepsAndThreadsAreFew, JournalsAreShort}
use Rattle.law_length_programs.proofs.turns.Entries.{IsFine, AreFine, entry_fine, Told, journal_told}

abbrev Few : Cluster → List Event → Type 0
Few k es = events_of (sight k) + length es < 2 ^ 31

abbrev Fine : Options → Cluster × List EntryView → Type 0
Fine o d = AreFine o d.1

-- along a run from a coherent cluster each entry is fine
all_fine : EachKeepsCoherence → (o : Options) (es : List Event) (k : Cluster) → k.options ≡ o → IsCoherent k → Few k es → Gives (Fine o) (run_of k es)
all_fine keeps o [] k same co few = tt
all_fine keeps o (e ∷ es) k same co few =
    then_gives (Fine o) (apply k e) _ (λ d q.
    let coherent : IsCoherent d.0 = given_by (λ (x : Cluster × EntryView). IsCoherent x.0) (apply k e) d (keeps k e co less) q in
    let once : events_of (sight d.0) ≡ events_of (sight k) + 1 = given_by (λ (x : Cluster × EntryView). events_of (sight x.0) ≡ events_of (sight k) + 1) (apply k e) d (one_more k e) q in
    let kept : d.0.options ≡ o = given_by (λ (x : Cluster × EntryView). x.0.options ≡ k.options) (apply k e) d (same_options k e) q ∙ same in
    let fine : IsFine o d.1 = subst (λ p. IsFine p d.1) same (given_by (λ (x : Cluster × EntryView). IsFine k.options x.1) (apply k e) d (entry_fine k e co.sound) q) in
    over_gives (Fine o) (Fine o) (run_of d.0 es) (λ r. (r.0, d.1 ∷ r.1)) (all_fine keeps o es d.0 kept coherent (omega (arith, once, few))) (λ r a. (fine, a)))
  where
    less : FewEvents k
    less = omega (arith, few)

module _ (keeps : EachKeepsCoherence) (starts : StartsAreCoherent) (tables : ProgramsHaveTables) (rights : ProgramsRunRight) (short : OrdersAreShort) where
  -- where the program's own run is there, its order is short
  by_order : (g : Given) → HaveBlocks g.items → (d : Cluster × List EntryView) → Fine g.options d → RunsRight g d → is_driven g.options d.1 ≡ true → plain_steps d.1 + threads_in d.1 ≤ 2 * nodes_of (block_t g.at g.items)
  by_order g blocks d fine right driven =
      let told : Told d.1 = journal_told g.options start [] d.1 fine driven in
      by (term.plain (program (block_t g.at g.items)) (order d.1)) refl right.alike.whole told
    where
      by : (o : Option term.Stepped) → term.plain (program (block_t g.at g.items)) (order d.1) ≡ o → IsRunWith o (labels d.1) → Told d.1 → plain_steps d.1 + threads_in d.1 ≤ 2 * nodes_of (block_t g.at g.items)
      by None q h told = absurd h
      by (Some x) q h told = let few = short g.at g.items (order d.1) x blocks q in omega (arith, few, told.steps, told.threads)

  pub steps_and_threads_are_few : StepsAndThreadsAreFew
  steps_and_threads_are_few g es blocks few =
      let t : HasTable g.code g.kind = tables g.code g.at g.items g.kind g.env g.short g.typed g.is g.laid in
      let co = starts g.code t.table g.options t.is g.within in
      let left = starts_left g.code g.options (servers_between (start_of g.code g.options) co.sound).0 in
      let none : events_of (sight (start_of g.code g.options)) ≡ 0 = left.events in
      both_give (Fine g.options) (RunsRight g) _ (run_of (start_of g.code g.options) es) (all_fine keeps g.options es (start_of g.code g.options) refl co (omega (arith, none, few))) (rights g es few) (λ d a b driven. by_order g blocks d a b driven)

pub journals_are_short : StepsAndThreadsAreFew → RunsOfProgramsAreShort → JournalsAreShort
journals_are_short few short g es blocks less =
    both_give (λ (d : Cluster × List EntryView). is_driven g.options d.1 ≡ true → plain_steps d.1 + threads_in d.1 ≤ 2 * nodes_of (block_t g.at g.items))
    (λ (d : Cluster × List EntryView). is_driven g.options d.1 ≡ true → length d.1 ≤ 100 * (plain_steps d.1 + threads_in d.1)) _ (run_of (start_of g.code g.options) es) (few g es blocks less) (short g es (omega (arith, less)))
    (λ d a b driven. (let m = a driven in let n = b driven in omega (arith, m, n)))
