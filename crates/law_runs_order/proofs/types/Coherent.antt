-- A cluster is coherent, and stands for the same one heap, where one with the same things is and does.
use Rattle.std.proofs.Common.{◌≡◌, List, refl, sym, ap₂, subst, ◌∙◌}
use Rattle.std.proofs.Math.Path.{fun_ext}
use Rattle.law_runs_rounds.specs.Below.law_runs_coherent.Below.fr_plain.PlainState.{SameState}
use Rattle.law_runs_rounds.specs.Below.law_runs_coherent.Below.fr_code.Machine.{CodeState}
use Rattle.law_runs_rounds.specs.Below.law_runs_coherent.Below.server_model.Servers.{Server, Cluster}
use Rattle.law_runs_rounds.specs.Below.law_runs_coherent.Below.coherent_memory.Things.{servers_things, things_of}
use Rattle.law_runs_rounds.specs.Below.law_runs_coherent.Below.coherent_memory.OneHeap.{one_heap}
use Rattle.law_runs_rounds.specs.Below.law_runs_coherent.Below.coherent_memory.Coherent.{IsSound}
use Rattle.law_runs_rounds.specs.Below.law_runs_coherent.Below.law_heap_still.events.Shows.{sign_of}
use Rattle.law_runs_rounds.proofs.Below.law_runs_coherent.Below.law_heap_still.events.Alike.{same_heap}
use Rattle.law_runs_rounds.proofs.Below.law_runs_coherent.Below.law_heap_still.events.Once.{shown_once}
use Rattle.law_runs_rounds.specs.Below.law_runs_coherent.Below.coherent_types.Names.{names_of}
use Rattle.law_runs_rounds.specs.Below.law_runs_coherent.Below.coherent_types.ClusterTypes.{CodeStateTypes, Types, IsCoherent}
use Rattle.law_runs_order.specs.things.SameThings.{AreSameBeside}
use Rattle.law_runs_order.specs.things.SameThings.{Reordered}
use Rattle.law_runs_order.proofs.things.Sights.{Apart}
use Rattle.law_runs_order.proofs.things.Sound.{sound_too, with_servers}
use Rattle.law_runs_order.specs.types.Laws.{OneHeapWithSameThings, CoherentWithSameThings}
use Rattle.law_runs_order.proofs.types.Types.{misfits_same, forms_same, marks_same, ends_same, views_same, leads_wrong_same}

-- states that show the same are the same
pub same_is : (a b : CodeState) → SameState a b → a ≡ b
same_is a b h =
    ap₂ (λ f g. (let s : CodeState = record a { thread = f; made = g } in s)) (fun_ext h.threads) (fun_ext h.made)
    ∙ ap₂ (λ f g. (let s : CodeState = record b { pair = f; object = g; mutex = a.mutex; is_given = a.is_given } in s)) (fun_ext h.pairs) (fun_ext h.objects)
    ∙ ap₂ (λ f g. (let s : CodeState = record b { mutex = f; is_given = g } in s)) (fun_ext h.mutexes) (fun_ext h.given)

module _ (k : Cluster) (servers : List Server) (same : AreSameBeside k.servers servers) (r : Reordered (things_of k) (servers_things servers)) where
  abbrev z : Cluster
  z = record k { servers = servers }

  pub heap_too : IsSound z → SameState (one_heap k) (one_heap z)
  heap_too sound = same_heap z k refl (shown_once z sound) (λ weight e. sym (r.sums (λ x. weight (sign_of x))))

  module _ (h : IsCoherent z) where
    once : Apart (servers_things servers)
    once = record { threads = h.sound.names.numbers_differ; cells = h.sound.one_home.home_of_each }

    types : Types k
    types = record {
      table = h.types.table;
      is_table = h.types.is_table;
      object = h.types.object;
      typing = h.types.typing;
      state = subst (CodeStateTypes h.types.table h.types.typing) (sym (same_is (one_heap k) (one_heap z) (heap_too h.sound))) h.types.state;
      agree = misfits_same k servers r once (names_of h.types.object h.types.typing.gives) ∙ h.types.agree;
      forms = forms_same k servers r once h.types.table (names_of h.types.object h.types.typing.gives) ∙ h.types.forms;
      locked = marks_same k servers r once h.types.table (names_of h.types.object h.types.typing.gives) ∙ h.types.locked;
      lead = leads_wrong_same k servers r once h.types.typing.exact ∙ h.types.lead;
      views = views_same k servers r once h.types.table ∙ h.types.views;
      ends = ends_same k servers r once h.types.table (names_of h.types.object h.types.typing.gives) ∙ h.types.ends;
    }

    pub coherent_too : IsCoherent k
    coherent_too = record { sound = sound_too k servers same r h.sound; types = types }

pub one_heap_with_same_things : OneHeapWithSameThings
one_heap_with_same_things k z same h =
    let e = with_servers k z same in
    subst (λ (y : Cluster). SameState (one_heap k) (one_heap y)) (sym e) (heap_too k z.servers same.servers same.things (subst IsSound e h))

pub coherent_with_same_things : CoherentWithSameThings
coherent_with_same_things k z same h = coherent_too k z.servers same.servers same.things (subst IsCoherent (with_servers k z same) h)
