-- A run in rounds has turns left where its journal is short, so it isn't going at its end.
use Rattle.std.proofs.Common.{◌≡◌, ◌≤◌, ℕ, ◌+◌, ◌*◌, ◌==◌, ◌||◌, not, Bool, true, false, List, [], length, Some, refl, sym, ap, ◌∙◌, subst, arith}
use Rattle.std.proofs.lemmas.Bool.Decides.{nat_tests}
use Rattle.law_plain_table.specs.Below.fr_base.declared.instruction.Instr.{Instr}
use Rattle.law_plain_table.specs.Below.fr_base.declared.settings.Options.{Options}
use Rattle.law_plain_table.specs.Below.fr_terms.Terms.{Term, block_t, let_t, assign_t, read_t, borrow_t, borrow_mut_t, number_t, unit_t, box_t, print_t, arith_t, join_t, mutex_t, dup_t, lock_t, spawn_t, par_t, IsBlock}
use Rattle.law_plain_table.specs.Below.fr_terms.Limits.{HasShortPlaces}
use Rattle.law_plain_table.specs.Below.fr_typing.Kinds.{Kind}
use Rattle.law_plain_table.specs.Below.fr_typing.Places.{Env}
use Rattle.law_plain_table.specs.Below.fr_typing.Typing.{Types}
use Rattle.law_plain_table.specs.Below.fr_plain.Resolve.{program}
use Rattle.law_plain_table.specs.Bare.{bare}
use Rattle.law_plain_table.specs.CodeOf.{code_of}
use Rattle.law_plain_table.specs.Tables.{HasTable, ProgramsHaveTables}
use Rattle.law_plain_table.proofs.Generations.{its_code}
use Rattle.law_plain_table.proofs.SourceTerms.{resolve_source}
use Rattle.law_length_programs.specs.sizes.Size.{nodes_of, HasBlocks, HaveBlocks}
use Rattle.law_runs_right.specs.Below.law_runs_whole.Below.journal.View.{EntryView}
use Rattle.law_runs_right.specs.Below.law_runs_whole.Below.coloured_heap.Driven.{is_driven}
use Rattle.law_runs_right.specs.Below.law_runs_whole.Below.server_model.Servers.{Cluster, start_of}
use Rattle.law_runs_right.specs.Below.law_runs_whole.Below.coherent_memory.Naming.{options_out}
use Rattle.law_runs_right.proofs.Below.law_runs_whole.Below.law_counts_sums.Results.{given_by}
use Rattle.drive_model.specs.Ending.{ending, is_going}
use Rattle.drive_model.specs.Laws.{JournalsBounded}
use Rattle.drive_model.specs.Rounds.{Run, events_left, is_done, rounds}
use Rattle.law_runs_right.specs.Below.law_runs_whole.runs.Runs.{run_of, EachKeepsCoherence, EachEventIsRight}
use Rattle.law_runs_right.proofs.Below.law_counts_limits.sendings.Events.{events_count_messages}
use Rattle.law_runs_right.specs.Below.law_runs_rounds.rounds.UnderWay.{IsUnderWay, HasEnded, RoundsEnd}
use Rattle.law_runs_right.proofs.Below.law_runs_rounds.rounds.OneRound.{as_many}
use Rattle.law_runs_right.proofs.Below.law_runs_rounds.rounds.UnderWay.{turns_in_range}
use Rattle.law_runs_right.proofs.right.Kept.{Keeps, rounds_keep}
use Rattle.law_runs_right.specs.Below.law_runs_whole.programs.Programs.{Given}
use Rattle.law_runs_right.specs.Below.law_length_runs.driven.Driving.{RunsInRoundsAreDriven}
use Rattle.law_length_programs.specs.turns.Turns.{JournalsAreShort, RunsInRoundsComeToAnEnd}

-- a run that is done and has a turn left isn't going
not_going : (g : Bool) (n : ℕ) → not g || n == 0 ≡ true → 1 ≤ n → g ≡ false
not_going false n e l = refl
not_going true n e l = absurd (let z : n ≡ 0 = grind (arith, nat_tests, e) in omega (arith, l, z))

module _ (keeps : EachKeepsCoherence) (bounded : JournalsBounded) (tables : ProgramsHaveTables) (ends : RoundsEnd) (driven : RunsInRoundsAreDriven) (short : JournalsAreShort) (right : EachEventIsRight) where
  -- a run of a program with its code
  given_ends : (g : Given) (r : Run) → HaveBlocks g.items → 100 * (2 * nodes_of (block_t g.at g.items) + 1) ≤ g.options.turns → rounds g.code g.options ≡ Some r → is_going (ending r.cluster) ≡ false
  given_ends g r blocks turns there =
      let t : HasTable g.code g.kind = tables g.code g.at g.items g.kind g.env g.short g.typed g.is g.laid in
      let all : HasEnded (Some r) = subst HasEnded there (ends keeps g.code t.table g.options t.is g.within) in
      let same : all.run ≡ r = (let e : Some r ≡ Some all.run = all.is in cc) in
      by (subst IsUnderWay same all.under_way) (ap is_done (sym same) ∙ all.done) (rounds_keep bounded g.code g.options r there)
    where
      by : IsUnderWay r → is_done r ≡ true → Keeps g.code g.options r → is_going (ending r.cluster) ≡ false
      by u done kept =
          let led : run_of (start_of g.code g.options) u.events ≡ Some (u.ran, r.journal) =
          ap (λ c. run_of (start_of c g.options) u.events) (sym kept.coded) ∙ ap (λ q. run_of (start_of r.cluster.code q) u.events) (sym kept.options) ∙ u.leads in
          let long = as_many u.events (start_of g.code g.options) u.ran r.journal led in
          let range = turns_in_range g.options g.within in
          let its = driven right r u in
          let its_own : is_driven g.options r.journal ≡ true = subst (λ q. is_driven q r.journal ≡ true) kept.options its in
          let few = given_by (λ (d : Cluster × List EntryView). is_driven g.options d.1 ≡ true → length d.1 ≤ 100 * (2 * nodes_of (block_t g.at g.items))) (run_of (start_of g.code g.options) u.events) (u.ran, r.journal)
          (short g u.events blocks (let l = kept.entries in omega (arith, long, l, range))) led its_own in
          let limit : r.cluster.options.turns ≡ g.options.turns = ap (λ (q : Options). q.turns) kept.options in
          not_going (is_going (ending r.cluster)) (events_left r) done (omega (arith, few, turns, limit))

  pub runs_come_to_an_end : (t : Term) (code : List Instr) (o : Options) (kind : Kind) (env : Env) (r : Run) → IsBlock t → HasBlocks t → HasShortPlaces t → Types [] t kind env → bare code ≡ code_of (program t) → options_out o ≡ 0
      → 100 * (2 * nodes_of t + 1) ≤ o.turns → rounds code o ≡ Some r → is_going (ending r.cluster) ≡ false
  runs_come_to_an_end (block_t at items) code o kind env r b blocks near typed is within turns there =
      let its = its_code code (program (block_t at items)) (resolve_source (block_t at items) []) is in
      given_ends (record { code = code; at = at; items = items; kind = kind; env = env; options = o; short = near; typed = typed; is = its.is; laid = its.laid; within = within }) r blocks turns there
  runs_come_to_an_end (let_t at x t) code o kind env r b blocks near typed is within turns there = absurd b
  runs_come_to_an_end (assign_t at w t) code o kind env r b blocks near typed is within turns there = absurd b
  runs_come_to_an_end (read_t at w) code o kind env r b blocks near typed is within turns there = absurd b
  runs_come_to_an_end (borrow_t at w) code o kind env r b blocks near typed is within turns there = absurd b
  runs_come_to_an_end (borrow_mut_t at w) code o kind env r b blocks near typed is within turns there = absurd b
  runs_come_to_an_end (number_t at n) code o kind env r b blocks near typed is within turns there = absurd b
  runs_come_to_an_end (unit_t at) code o kind env r b blocks near typed is within turns there = absurd b
  runs_come_to_an_end (box_t at t) code o kind env r b blocks near typed is within turns there = absurd b
  runs_come_to_an_end (print_t at t) code o kind env r b blocks near typed is within turns there = absurd b
  runs_come_to_an_end (arith_t at op t u) code o kind env r b blocks near typed is within turns there = absurd b
  runs_come_to_an_end (join_t at t) code o kind env r b blocks near typed is within turns there = absurd b
  runs_come_to_an_end (mutex_t at t) code o kind env r b blocks near typed is within turns there = absurd b
  runs_come_to_an_end (dup_t at w) code o kind env r b blocks near typed is within turns there = absurd b
  runs_come_to_an_end (lock_t at w x t) code o kind env r b blocks near typed is within turns there = absurd b
  runs_come_to_an_end (spawn_t at cs t) code o kind env r b blocks near typed is within turns there = absurd b
  runs_come_to_an_end (par_t at cs t ds u) code o kind env r b blocks near typed is within turns there = absurd b

pub runs_in_rounds_come_to_an_end : EachKeepsCoherence → JournalsBounded → ProgramsHaveTables → RoundsEnd → RunsInRoundsAreDriven → JournalsAreShort → EachEventIsRight → RunsInRoundsComeToAnEnd
runs_in_rounds_come_to_an_end keeps bounded tables ends driven short right = runs_come_to_an_end keeps bounded tables ends driven short right
