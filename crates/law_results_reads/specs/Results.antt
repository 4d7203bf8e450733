-- THAT AN ENABLED EVENT HAS A RESULT: from a coherent cluster nothing that a server needs on the way of an event is missing (this project's rule).
use Rattle.std.specs.Prelude.{◌≡◌, ℕ, ⊤, true, Option, Some, None, slice_get}
use Rattle.law_counts_sums.specs.Below.fr_base.declared.place.Lval.{Lval}
use Rattle.law_counts_sums.specs.Below.fr_base.declared.instruction.Instr.{Instr}
use Rattle.law_counts_sums.specs.Below.thread_state.View.{ThreadState}
use Rattle.law_counts_sums.specs.Below.server_model.declared.event.What.TheVariants.{Step}
use Rattle.law_counts_sums.specs.Below.server_model.Servers.{Server, Cluster, server_at}
use Rattle.law_counts_sums.specs.Below.server_model.Work.{thread_in}
use Rattle.law_counts_sums.specs.Below.server_model.Prepare.{Access, ReadTo, ReadPointer, LendTo, access_of}
use Rattle.law_counts_sums.specs.Below.server_model.Events.{enabled}
use Rattle.law_counts_sums.specs.Kinds.{Kind, instr_kind}
use Rattle.law_counts_sums.specs.Laws.{FewEvents, HasResult}
use Rattle.law_words_paths.specs.Below.coherent_types.ClusterTypes.{IsCoherent}

-- no pointer is followed: there is no place, or it is a variable without a star
pub data FollowsNone : Option Access → Type 0 where
  no_place : FollowsNone None
  reads_variable : {w : Lval} → w.depth ≡ 0 → FollowsNone (Some (ReadTo w))
  shares_variable : {w : Lval} → w.depth ≡ 0 → FollowsNone (Some (ReadPointer w))
  lends_variable : {w : Lval} → w.depth ≡ 0 → FollowsNone (Some (LendTo w))

-- a place is read, with however many stars
pub data ReadsPlace : Option Access → Type 0 where
  reads : {w : Lval} → ReadsPlace (Some (ReadTo w))

-- places are followed in whatever way
abbrev pub Anyhow : Option Access → Type 0
Anyhow a = ⊤

-- in a coherent cluster where few events were done, each enabled step of an instruction of that kind has a result, where it follows places so
abbrev pub StepsHaveResults : Kind → (Option Access → Type 0) → Type 0
StepsHaveResults kind Follows =
    (k : Cluster) (n t : ℕ) (s : Server) (y : ThreadState) (i : Instr) → IsCoherent k → FewEvents k → server_at k.servers n ≡ Some s → enabled k.options s (Step t) ≡ true → thread_in s.threads t ≡ Some y
    → slice_get k.code y.pc ≡ Some i → instr_kind i ≡ kind → Follows (access_of i y) → HasResult k n (Step t)
