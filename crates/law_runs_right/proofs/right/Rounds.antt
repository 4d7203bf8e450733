-- A run in rounds of a typed program is right.
use Rattle.std.proofs.Common.{◌≡◌, suc, ◌+◌, ◌==◌, ◌<◌, ◌≤◌, ◌^◌, ◌&&◌, ◌||◌, not, nat_le, Bool, true, false, List, [], ◌∷◌, Some, length, refl, sym, ap, ◌∙◌, subst, arith}
use Rattle.std.proofs.lemmas.Bool.{leb-true, eqb-true}
use Rattle.law_plain_table.specs.Below.fr_base.declared.instruction.Instr.{Instr}
use Rattle.law_plain_table.specs.Below.fr_base.declared.settings.Options.{Options}
use Rattle.law_plain_table.specs.Below.fr_terms.Terms.{Term, block_t, let_t, assign_t, read_t, borrow_t, borrow_mut_t, number_t, unit_t, box_t, print_t, arith_t, join_t, mutex_t, dup_t, lock_t, spawn_t, par_t, IsBlock}
use Rattle.law_plain_table.specs.Below.fr_terms.Limits.{HasShortPlaces}
use Rattle.law_plain_table.specs.Below.fr_typing.Kinds.{Kind}
use Rattle.law_plain_table.specs.Below.fr_typing.Places.{Env}
use Rattle.law_plain_table.specs.Below.fr_typing.Typing.{Types}
use Rattle.law_plain_table.specs.Below.fr_plain.Resolve.{program}
use Rattle.law_plain_table.specs.Bare.{bare}
use Rattle.law_plain_table.specs.CodeOf.{code_of}
use Rattle.law_plain_table.proofs.Generations.{its_code}
use Rattle.law_plain_table.proofs.SourceTerms.{resolve_source}
use Rattle.law_plain_table.specs.Tables.{ProgramsHaveTables}
use Rattle.law_plain_table.specs.Below.fr_code.CodeTable.{IsTable}
use Rattle.law_plain_table.specs.Below.fr_code.StandsFor.{IsCodeOf}
use Rattle.law_entries_events.specs.Below.law_runs_whole.Below.journal.View.{EntryView}
use Rattle.law_entries_events.specs.Below.law_runs_whole.Below.server_model.declared.event.Event.{Event}
use Rattle.law_entries_events.specs.Below.law_runs_whole.Below.server_model.Servers.{Cluster, start_of}
use Rattle.law_entries_events.specs.Below.law_runs_whole.Below.server_model.Clusters.{apply}
use Rattle.drive_model.specs.Ending.{ending as ending_of, is_going}
use Rattle.drive_model.specs.Laws.{JournalsBounded}
use Rattle.drive_model.specs.Rounds.{Run, events_left, is_done}
use Rattle.law_entries_events.specs.Below.law_runs_whole.Below.coherent_memory.Naming.{options_out}
use Rattle.law_entries_events.specs.Below.law_runs_whole.Below.coherent_memory.Names.{other}
use Rattle.law_entries_events.specs.Below.law_runs_whole.Below.law_counts_sums.Laws.{Gives}
use Rattle.law_entries_events.proofs.Below.law_runs_whole.Below.law_counts_sums.Results.{given_by, then_gives, over_gives}
use Rattle.law_entries_events.specs.Below.law_runs_whole.runs.Runs.{run_of, EachKeepsCoherence, EachEventIsRight}
use Rattle.law_length_runs.specs.Below.law_runs_rounds.rounds.UnderWay.{IsUnderWay, HasEnded, RoundsEnd}
use Rattle.law_entries_events.specs.Below.law_runs_whole.programs.Programs.{Given, RunsRight, ProgramsRunRight}
use Rattle.law_entries_events.specs.Below.code_meaning.LeftByItsCode.{LeftByItsCode}
use Rattle.law_entries_events.specs.Below.coloured_heap.Driven.{is_driven}
use Rattle.law_entries_events.specs.events.Leads.{EachProgramIsLeft}
use Rattle.law_runs_right.specs.order.Laws.{RightInAnyOrder, LeftInAnyOrder}
use Rattle.law_length_runs.specs.driven.Driving.{RunsInRoundsAreDriven}
use Rattle.law_runs_whole.specs.waits.Stands.{WaitsThere, EndsThere, ProgramsStandThere, DeadlocksWaitThere, ProgramsEndThere}
use Rattle.law_runs_right.specs.right.Right.{IsRight, RunsInRoundsAreRight}
use Rattle.law_runs_right.proofs.right.Kept.{Keeps, rounds_keep}

-- a typed program with its code
record IsGiven (t : Term) (code : List Instr) (o : Options) : Type 0 where
  pub given : Given
  pub term : block_t given.at given.items ≡ t
  pub coded : given.code ≡ code
  pub options : given.options ≡ o

given_as : (code : List Instr) (o : Options) (kind : Kind) (env : Env) (t : Term) → IsBlock t → HasShortPlaces t → Types [] t kind env → bare code ≡ code_of (program t) → options_out o ≡ 0 → IsGiven t code o
given_as code o kind env (block_t at items) b short typed is within =
    let its = its_code code (program (block_t at items)) (resolve_source (block_t at items) []) is in record {
      given = record { code = code; at = at; items = items; kind = kind; env = env; options = o; short = short; typed = typed; is = its.is; laid = its.laid; within = within };
      term = refl;
      coded = refl;
      options = refl;
    }
given_as code o kind env (let_t at x t) b short typed is within = absurd b
given_as code o kind env (assign_t at w t) b short typed is within = absurd b
given_as code o kind env (read_t at w) b short typed is within = absurd b
given_as code o kind env (borrow_t at w) b short typed is within = absurd b
given_as code o kind env (borrow_mut_t at w) b short typed is within = absurd b
given_as code o kind env (number_t at n) b short typed is within = absurd b
given_as code o kind env (unit_t at) b short typed is within = absurd b
given_as code o kind env (box_t at t) b short typed is within = absurd b
given_as code o kind env (print_t at t) b short typed is within = absurd b
given_as code o kind env (arith_t at op t u) b short typed is within = absurd b
given_as code o kind env (join_t at t) b short typed is within = absurd b
given_as code o kind env (mutex_t at t) b short typed is within = absurd b
given_as code o kind env (dup_t at w) b short typed is within = absurd b
given_as code o kind env (lock_t at w x t) b short typed is within = absurd b
given_as code o kind env (spawn_t at cs t) b short typed is within = absurd b
given_as code o kind env (par_t at cs t ds u) b short typed is within = absurd b

-- AS MANY ENTRIES AS EVENTS

entries_long : (es : List Event) (k : Cluster) → Gives (λ (d : Cluster × List EntryView). length d.1 ≡ length es) (run_of k es)
entries_long [] k = refl
entries_long (x ∷ es) k =
    then_gives (λ (d : Cluster × List EntryView). length d.1 ≡ length (x ∷ es)) (apply k x) _
    (λ d q. over_gives (λ (r : Cluster × List EntryView). length r.1 ≡ length es) (λ (r : Cluster × List EntryView). length r.1 ≡ length (x ∷ es)) (run_of d.0 es) (λ r. (r.0, d.1 ∷ r.1)) (entries_long es d.0) (λ r f. ap suc f))

-- THE OPTIONS OF A RUN

few_turns : (o : Options) → options_out o ≡ 0 → o.turns ≤ 1000000000
few_turns o h = by (nat_le 1 o.turns) (nat_le o.turns 1000000000) refl refl
  where
    by : (a b : Bool) → nat_le 1 o.turns ≡ a → nat_le o.turns 1000000000 ≡ b → o.turns ≤ 1000000000
    by a true e f = leb-true o.turns 1000000000 f
    by true false e f = absurd (omega (arith, h, ap (λ b. other (b && nat_le o.turns 1000000000)) e, ap (λ b. other (true && b)) f))
    by false false e f = absurd (omega (arith, h, ap (λ b. other (b && nat_le o.turns 1000000000)) e))

-- RIGHT

abbrev Led : Type 0
Led = Cluster × List EntryView

last_turn : (r : Run) → is_done r ≡ true → is_going (ending_of r.cluster) ≡ true → events_left r ≡ 0
last_turn r done going = eqb-true (events_left r) 0 (sym (ap (λ b. not b || events_left r == 0) going) ∙ done)

module _ (bounded : JournalsBounded) (keeps : EachKeepsCoherence) (tables : ProgramsHaveTables) (ends : RoundsEnd) (rights : ProgramsRunRight) (events : EachEventIsRight) (lefts : EachProgramIsLeft) (right_too : RightInAnyOrder) (left_too : LeftInAnyOrder) (drives : RunsInRoundsAreDriven) (stand : ProgramsStandThere) (wait : DeadlocksWaitThere) (stop : ProgramsEndThere) where
  -- a run in rounds that has ended, of a given program
  by_end : (t : Term) (o : Options) (code : List Instr) (run : Run) (g : IsGiven t code o) (e : HasEnded (Some run)) → e.run ≡ run → Keeps code o run → options_out o ≡ 0 → IsRight t o run.cluster run.journal
  by_end t o code run g e same kept within =
      let u : IsUnderWay run = subst IsUnderWay same e.under_way in
      let done : is_done run ≡ true = ap is_done (sym same) ∙ e.done in
      let led : run_of (start_of g.given.code g.given.options) u.events ≡ Some (u.ran, run.journal) =
      ap (λ c. run_of (start_of c g.given.options) u.events) (g.coded ∙ sym kept.coded) ∙ ap (λ q. run_of (start_of run.cluster.code q) u.events) (g.options ∙ sym kept.options) ∙ u.leads in
      let long : length run.journal ≡ length u.events = given_by (λ (d : Led). length d.1 ≡ length u.events) (run_of (start_of g.given.code g.given.options) u.events) (u.ran, run.journal) (entries_long u.events (start_of g.given.code g.given.options)) led in
      let few : length u.events + 1 < 2 ^ 31 = omega (arith, long, kept.entries, few_turns o within) in
      let there : RunsRight g.given (u.ran, run.journal) = given_by (RunsRight g.given) (run_of (start_of g.given.code g.given.options) u.events) (u.ran, run.journal) (rights g.given u.events few) led in
      let right : RunsRight g.given (run.cluster, run.journal) = right_too g.given run.cluster u.ran run.journal u.same (omega (arith, there.left.events, long, few)) there in
      let left : LeftByItsCode run.cluster run.journal =
      left_too run.cluster u.ran run.journal u.same there.coherent (given_by (λ (d : Led). LeftByItsCode d.0 d.1) (run_of (start_of g.given.code g.given.options) u.events) (u.ran, run.journal) (lefts g.given u.events (omega (arith, few))) led) in
      let coded : IsCodeOf run.cluster.code (program t) = subst (λ c. IsCodeOf c (program t)) (g.coded ∙ sym kept.coded) (subst (λ b. IsCodeOf g.given.code (program b)) g.term g.given.is) in
      record {
        given = g.given;
        term = g.term;
        options = g.options;
        right = right;
        left = left;
        stands = stand (program t) run.cluster run.journal coded left.plain;
        driven = ap (λ (q : Options). is_driven q run.journal) (sym kept.options) ∙ drives events run u;
        ends = λ over. stop (program t) run.cluster run.journal coded left.plain right.coherent over;
        waits = λ dead. wait (program t) run.cluster run.journal coded left.plain right.coherent dead;
        turns = λ going.
            let none = last_turn run done going in
            let limit : run.cluster.options.turns ≡ o.turns = ap (λ (q : Options). q.turns) kept.options in
            omega (arith, none, limit, kept.entries);
      }

  pub rounds_right : RunsInRoundsAreRight
  rounds_right t code o kind env r block short typed is within there =
      let g = given_as code o kind env t block short typed is within in
      let table = tables g.given.code g.given.at g.given.items g.given.kind g.given.env g.given.short g.given.typed g.given.is g.given.laid in
      let listed : IsTable code table.table = subst (λ c. IsTable c table.table) g.coded table.is in
      let all : HasEnded (Some r) = subst HasEnded there (ends keeps code table.table o listed within) in
      by_end t o code r g all (let e : Some r ≡ Some all.run = all.is in let f : all.run ≡ r = cc in f) (rounds_keep bounded code o r there) within
