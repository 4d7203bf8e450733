use Rattle.law_results_reads.proofs.laws.steps_of_variables.Goals as goal
use Rattle.law_counts_sums.specs.Kinds.{step_let, step_assign, step_read, step_borrow, step_borrow_mut, step_box, step_arith, step_print, step_discard, step_drop_slot, step_mutex, step_dup, step_lock, step_unlock, step_end}
use Rattle.law_results_reads.proofs.Variables.{quiet_steps, join_steps, pair_steps}

pub returns : goal.returns
returns c = record {
  lets = quiet_steps step_let tt (λ e. cc);
  assignments = quiet_steps step_assign tt (λ e. cc);
  reads = quiet_steps step_read tt (λ e. cc);
  borrows = quiet_steps step_borrow tt (λ e. cc);
  lends = quiet_steps step_borrow_mut tt (λ e. cc);
  boxes = quiet_steps step_box tt (λ e. cc);
  sums = quiet_steps step_arith tt (λ e. cc);
  prints = quiet_steps step_print tt (λ e. cc);
  discards = quiet_steps step_discard tt (λ e. cc);
  drops = quiet_steps step_drop_slot tt (λ e. cc);
  joins = join_steps;
  mutexes = quiet_steps step_mutex tt (λ e. cc);
  dups = quiet_steps step_dup tt (λ e. cc);
  locks = quiet_steps step_lock tt (λ e. cc);
  unlocks = quiet_steps step_unlock tt (λ e. cc);
  pair_ends = pair_steps;
  ends = quiet_steps step_end tt (λ e. cc);
}
