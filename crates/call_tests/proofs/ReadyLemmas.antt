-- In a coherent cluster where few events were done each server is ready for what is enabled.
use Rattle.std.proofs.Common.{◌≡◌, ℕ, ◌<◌, List, Option, Some, None, refl, ap, subst, ◌∙◌}
use Rattle.std.specs.Prelude.{slice_get, IfSome}
use Rattle.borrow_check.specs.Programs.{Program}
use Rattle.server_model.specs.declared.event.What.{What}
use Rattle.coherent_types.specs.ClusterTypes.{IsCoherent}
use Rattle.server_core.specs.Servers.{ServerView}
use Rattle.cluster_core.specs.Views.{states, events_in, cluster_of, AreServersOf}
use Rattle.cluster_core.specs.Applying.{can_do, CanAct}
use Rattle.cluster_core.proofs.DefinedLemmas.{able}
use Rattle.call_tests.specs.Ready.{IsReady}

pub are_ready : (p : Program) (vs : List ServerView) (n : ℕ) (w : What) → AreServersOf p vs → IsCoherent (cluster_of vs) → events_in (states vs) < 1000000000 → IfSome (slice_get vs n) (IsReady w)
are_ready p vs n w are coherent few = by (slice_get vs n) refl
  where
    by : (o : Option ServerView) → slice_get vs n ≡ o → IfSome o (IsReady w)
    by None e = tt
    by (Some v) e = λ q. subst (λ o. IfSome o (CanAct w)) e (able p vs n w are coherent few (ap (can_do w) e ∙ q))
