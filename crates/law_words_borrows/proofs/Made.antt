-- What a mutable borrow makes its reference from; and where words hold with each reference that it makes, they hold after it.
use Rattle.std.proofs.Common.{◌≡◌, ℕ, suc, List, [], ◌++◌, Option, Some, None, option_map, refl, sym, subst, ◌∙◌}
use Rattle.law_heap_steps.specs.Below.fr_base.declared.place.Lval.{Lval}
use Rattle.law_heap_steps.specs.Below.fr_base.declared.instruction.Instr.{Instr}
use Rattle.law_heap_steps.specs.Below.fr_base.declared.instruction.Instr.TheVariants as instr
use Rattle.law_heap_steps.specs.Below.heap_partition.declared.value.BoxPtr.{BoxPtr}
use Rattle.law_heap_steps.specs.Below.heap_partition.declared.value.Owned.TheVariants as owned
use Rattle.law_heap_steps.specs.Below.mut_borrow.declared.mutable.MutRef.{MutRef}
use Rattle.law_heap_steps.specs.Below.thread_state.View.{ThreadState}
use Rattle.law_heap_steps.specs.Below.thread_state.declared.phase.Phase.{Phase}
use Rattle.law_heap_steps.specs.Below.thread_state.declared.value.Value.{Value}
use Rattle.law_heap_steps.specs.Below.thread_state.declared.value.Value.TheVariants as value
use Rattle.law_heap_steps.specs.Below.server_model.Servers.{Server, Cluster, server_at}
use Rattle.law_heap_steps.specs.Below.server_model.Work.{Hand, push_temp, thread_in, without_thread, then_some}
use Rattle.law_heap_steps.specs.Below.server_model.Places.{Spot, value_at}
use Rattle.law_heap_steps.specs.Below.server_model.Prepare.{nothing}
use Rattle.law_heap_steps.specs.Below.server_model.Commit.{go_on, goes_on, mutable_from, borrow_mut, borrow_mut_from, commit}
use Rattle.law_heap_steps.specs.Below.server_model.Events.{Stepped, committed}
use Rattle.law_heap_steps.specs.Below.coherent_memory.Things.{Thing, servers_things}
use Rattle.law_words_values.specs.Below.coherent_types.ClusterTypes.{IsCoherent}
use Rattle.law_words_kept.specs.Below.law_words_paths.words.Reworded.{HasPlaces}
use Rattle.law_words_kept.proofs.Below.law_words_paths.words.Unmoved.{untouched_stays}
use Rattle.law_heap_steps.specs.Below.law_counts_sums.Laws.{Gives}
use Rattle.law_heap_steps.proofs.Below.law_counts_sums.Results.{both_give}
use Rattle.law_heap_steps.proofs.Below.law_counts_sums.RulesKeep.{sums_kept}
use Rattle.law_heap_steps.proofs.Below.law_counts_sums.Bags.{all_standing}
use Rattle.law_heap_steps.proofs.Below.law_counts_sums.Events.{others_of}
use Rattle.law_heap_steps.proofs.Below.law_counts_sums.AllSteps.{commits}
use Rattle.law_heap_steps.proofs.Below.law_counts_sums.Commits.{CommittedOk}
use Rattle.law_heap_steps.proofs.Below.law_counts_sums.Steps.{SteppedOk, committed_keeps}
use Rattle.law_words_values.proofs.Below.law_words_kept.stays.Alike.{turned}
use Rattle.law_words_values.proofs.Below.law_words_kept.stays.Seen.{seen_alike}
use Rattle.law_words_values.proofs.Below.law_words_kept.stays.Sites.{HandAlike}
use Rattle.law_words_values.specs.Below.law_words_kept.stays.Laws.{mutable}
use Rattle.law_words_values.specs.Below.law_words_kept.prepared.Requests.{WordsRise}
use Rattle.law_words_values.proofs.Below.law_words_kept.prepared.Hands.{Ok, put, places}
use Rattle.law_words_values.proofs.carried.Locks.{holds_on}
use Rattle.law_words_borrows.proofs.Pushed.{hands_alike}

-- WHAT IS LENT AGAIN

-- from what is no pointer nothing is made
none_lent : (v u : Value) (p : Phase) (w : Lval) → mutable_from p w v ≡ None → mutable_from p w v ≡ Some u → ⊥
none_lent v u p w e f = let z : None ≡ Some u = sym e ∙ f in absurd cc

-- what a mutable reference is made from
pub data Lendable : Value → Type 0 where
  slot : (j : ℕ) → Lendable (value.MutSlot j)
  box : (p : BoxPtr) → Lendable (value.Own (owned.Box p))
  reference : (r : MutRef) → Lendable (value.Mut r)

-- from nothing else one is made
pub lendable : (p : Phase) (w : Lval) (v u : Value) → mutable_from p w v ≡ Some u → Lendable v
lendable p w (value.MutSlot j) u made = slot j
lendable p w (value.Own (owned.Box c)) u made = box c
lendable p w (value.Mut r) u made = reference r
lendable p w value.Gone u made = absurd (none_lent value.Gone u p w refl made)
lendable p w (value.SharedSlot j) u made = absurd (none_lent (value.SharedSlot j) u p w refl made)
lendable p w (value.Shared r) u made = absurd (none_lent (value.Shared r) u p w refl made)
lendable p w (value.Held c) u made = absurd (none_lent (value.Held c) u p w refl made)
lendable p w (value.Own owned.Nothing) u made = absurd (none_lent (value.Own owned.Nothing) u p w refl made)
lendable p w (value.Own owned.Unit) u made = absurd (none_lent (value.Own owned.Unit) u p w refl made)
lendable p w (value.Own (owned.Int z)) u made = absurd (none_lent (value.Own (owned.Int z)) u p w refl made)
lendable p w (value.Own (owned.Mutex z)) u made = absurd (none_lent (value.Own (owned.Mutex z)) u p w refl made)
lendable p w (value.Own (owned.Task z)) u made = absurd (none_lent (value.Own (owned.Task z)) u p w refl made)

-- THE BORROW

module _ (k : Cluster) (coherent : IsCoherent k) (s : Server) (here : server_at k.servers s.rest.number ≡ Some s) (t : ℕ) (y : ThreadState) (at : thread_in s.threads t ≡ Some y) (w : Lval) (m : ℕ) (deep : w.depth ≡ suc m) where
  abbrev n : ℕ
  n = s.rest.number

  abbrev i : Instr
  i = instr.BorrowMut w

  abbrev IsOk : Hand → Type 0
  IsOk = Ok k coherent s here t y at

  abbrev Put : Hand → Cluster
  Put = put k coherent s here t y at

  abbrev b : List Thing
  b = all_standing n (without_thread s.threads t) ++ servers_things (others_of k.servers n)

  abbrev holder : Lval
  holder = record w { depth = m }

  -- the hand's cluster has places
  placed : (h : Hand) → IsOk h → HasPlaces (Put h)
  placed h q = places k coherent s here t y at h q

  -- words hold in a hand of which words see the same
  pub record Ended (h2 : Hand) : Type 0 where
    pub middle : Hand
    pub ok : IsOk middle
    pub words : WordsRise k (Put middle)
    pub alike : HandAlike k.code n [] middle h2

  abbrev pub Ends : Stepped → Type 0
  Ends d = Ended d.hand

  -- from what stands there a reference is made, and with each one words hold: so they do with its thread put back
  module _ (h : Hand) (sp : Spot) (ok : IsOk h) (X : Value → Type 0) (found : (v : Value) → value_at h sp ≡ Some v → X v)
      (pushed : (v u : Value) → X v → mutable_from h.thread.phase holder v ≡ Some u → IsOk (go_on (push_temp u h)) → Gives Ends (committed (goes_on (Some (push_temp u h))))) where
    -- where one is made
    made_from : (v : Value) → value_at h sp ≡ Some v → (o : Option Value) → mutable_from h.thread.phase holder v ≡ o → CommittedOk IsOk (goes_on (option_map (λ u. push_temp u h) o)) → Gives Ends (committed (goes_on (option_map (λ u. push_temp u h) o)))
    made_from v e None f after = tt
    made_from v e (Some u) f after = pushed v u (found v e) f after

    -- where one stands
    by_value : (o : Option Value) → value_at h sp ≡ o → CommittedOk IsOk (goes_on (then_some o (λ v. option_map (λ u. push_temp u h) (mutable_from h.thread.phase holder v))))
        → Gives Ends (committed (goes_on (then_some o (λ v. option_map (λ u. push_temp u h) (mutable_from h.thread.phase holder v)))))
    by_value None e after = tt
    by_value (Some v) e after = made_from v e (mutable_from h.thread.phase holder v) refl after

    -- the sums afterwards
    all_ok : CommittedOk IsOk (goes_on (borrow_mut w sp h))
    all_ok = commits sums_kept n s.events t b 0 i sp h tt (λ z. absurd z) ok

    -- the borrow ends so
    ended : Gives Ends (committed (goes_on (borrow_mut w sp h)))
    ended =
        subst (λ d. CommittedOk IsOk (goes_on (borrow_mut_from w d sp h)) → Gives Ends (committed (goes_on (borrow_mut_from w d sp h)))) (sym deep) (by_value (value_at h sp) refl) all_ok

    -- with its thread put back
    pub left : Gives (λ (d : Stepped). WordsRise k (Put d.hand) × HasPlaces (Put d.hand)) (committed (commit 0 i sp h))
    left =
        both_give (SteppedOk sums_kept n s.events t b) Ends (λ (d : Stepped). WordsRise k (Put d.hand) × HasPlaces (Put d.hand)) (committed (goes_on (borrow_mut w sp h)))
        (committed_keeps sums_kept n s.events t b (goes_on (borrow_mut w sp h)) all_ok) ended
        (λ d after x. (
          holds_on
              (untouched_stays (Put x.middle) (Put d.hand) (placed x.middle x.ok) (placed d.hand after)
              (seen_alike (Put x.middle) (Put d.hand) (placed x.middle x.ok) (placed d.hand after) refl (turned (hands_alike k coherent s here t y at [] x.middle d.hand x.ok after x.alike)))) x.words,
          placed d.hand after,
        ))
