-- WHAT IS TOLD OF ANSWERS: that each waiting thread has one coming, for what its phase and its turn name.
use Rattle.law_counts_sums.specs.Below.server_model.Servers.{Cluster}
use Rattle.law_counts_sums.specs.Below.coherent_memory.Things.{things_of}
use Rattle.law_counts_sums.specs.Below.coherent_memory.Balances.{Agree, AtMostOne}
use Rattle.law_counts_sums.specs.Below.coherent_memory.Weights.{is_thread}
use Rattle.law_counts_sums.specs.Below.coherent_memory.Requests.{halves_to, halves_needed}
use Rattle.law_counts_sums.specs.Below.coherent_memory.Sight.{sight}
use Rattle.law_counts_sums.specs.Below.coherent_memory.Turn.{WaitInTurn}
use Rattle.law_counts_sums.specs.Below.coherent_memory.Coherent.{Holds, carry_what_is_asked}

-- some sentences of a sound cluster: on numbers, answers, what they carry, and what a thread waits for in turn
pub record AnswersTold (k : Cluster) : Type 0 where
  pub numbers_differ : AtMostOne is_thread (things_of k)
  pub one_answer : Agree halves_to halves_needed (things_of k)
  pub carry_what_is_asked : Holds k carry_what_is_asked
  pub wait_in_turn : WaitInTurn (sight k)
