-- A run in rounds of a source's program is right.
use Rattle.std.proofs.Common.{◌≡◌, ◌≢◌, ℕ, false, List, sym, subst, ap, ◌∙◌}
use Rattle.std.specs.Prelude.{Result, Ok, Err, IfOk}
use Rattle.fr_base.specs.declared.settings.Options.{Options}
use Rattle.fr_base.specs.declared.step.Ending.TheVariants as end
use Rattle.fr_base.specs.declared.step.Ending3.{Ending3}
use Rattle.fr_base.specs.declared.step.Ending3.TheVariants.{Finished, Deadlocked, Going}
use Rattle.fr_base.specs.declared.memory.NoMemory.{NoMemory}
use Rattle.borrow_check.specs.Programs.{Program}
use Rattle.law_length_programs.specs.Below.law_runs_right.Below.fr_terms.Terms.{Term}
use Rattle.law_length_programs.specs.Below.law_runs_right.Below.drive_model.Ending.{ending, is_going}
use Rattle.law_length_programs.specs.Below.law_runs_right.Below.coherent_memory.Naming.{options_out}
use Rattle.law_length_programs.specs.Below.law_runs_right.right.Right.{RunsInRoundsAreRight}
use Rattle.law_length_programs.specs.Below.law_runs_right.right.Right as run_law
use Rattle.drust_run.specs.declared.ran.Ran.{Ran}
use Rattle.drust_run.specs.Runs.{ended}
use Rattle.drust_run.specs.Runs as left
use Rattle.source_front.specs.Below.fr_syntax.Meanings.{term_of}
use Rattle.source_front.specs.Typed.{IsTyped}
use Rattle.law_length_programs.specs.orders.Sources.{ProgramsHaveBlocks}
use Rattle.law_length_programs.specs.turns.Turns.{RunsInRoundsComeToAnEnd}
use Rattle.server_answers.specs.Runs.{IsRunOf, IsRight}

-- what a run leaves is the run of its program
pub is_run : (p q : Program) (o : Options) (r : Result Ran NoMemory) → p ≡ q → IfOk r (λ x. left.IsRunOf p o x.cluster.state x.journal.items) → IfOk r (λ x. x.ending ≡ ended (ending x.cluster.state)) → IfOk r (IsRunOf (term_of q.arena) o)
is_run p q o (Ok x) same is ends =
    subst (λ (y : Program). IsRunOf (term_of y.arena) o x) same (record {
      code = is.code;
      stands = is.bare;
      run = is.run;
      is = is.is;
      cluster = is.cluster;
      entries = is.entries;
      ends = ends;
    })
is_run p q o (Err e) same is ends = tt

-- a run whose cluster isn't going has ended
has_ended : (e : Ending3) → is_going e ≡ false → ended e ≢ end.Unfinished
has_ended Finished still = λ same. absurd (cc same)
has_ended Deadlocked still = λ same. absurd (cc same)
has_ended Going still = absurd cc

is_right : RunsInRoundsAreRight → RunsInRoundsComeToAnEnd → ProgramsHaveBlocks → (bytes : List ℕ) (t : Term) (o : Options) (r : Ran) → IsTyped bytes t → IsRunOf t o r → options_out o ≡ 0 → IsRight bytes o r
is_right law ends blocks bytes t o r typed is within =
    let program = typed.source.program in
    let right = law t is.code o typed.kind typed.after is.run program.grammar.0 program.limits.places typed.types is.stands within is.is in
    let body = blocks typed.source.names typed.source.ts t program.grammar in
    record {
      term = t;
      source = typed;
      right = subst (λ es. run_law.IsRight t o r.cluster.state es) is.entries (subst (λ k. run_law.IsRight t o k is.run.journal) is.cluster right);
      enough = λ turns.
          let still = ends t is.code o typed.kind typed.after is.run program.grammar.0 body program.limits.places typed.types is.stands within turns is.is in
          let there : is_going (ending r.cluster.state) ≡ false = ap (λ k. is_going (ending k)) (sym is.cluster) ∙ still in
          λ same. has_ended (ending r.cluster.state) there (sym is.ends ∙ same);
    }

-- the same of what a call gives
pub all_right : RunsInRoundsAreRight → RunsInRoundsComeToAnEnd → ProgramsHaveBlocks → (bytes : List ℕ) (t : Term) (o : Options) (r : Result Ran NoMemory) → IsTyped bytes t → IfOk r (IsRunOf t o) → options_out o ≡ 0 → IfOk r (IsRight bytes o)
all_right law ends blocks bytes t o (Ok x) typed is within = is_right law ends blocks bytes t o x typed is within
all_right law ends blocks bytes t o (Err e) typed is within = tt
