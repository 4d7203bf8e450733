-- What a thread's gift at a lock or a dup, and the counts of its server, show in the one heap.
use Rattle.std.proofs.Common.{◌≡◌, ℕ, ◌||◌, Bool, true, false, List, [], ◌∷◌, ◌++◌, Option, Some, None, is_some, refl, sym, ap, ◌∙◌, subst, arith}
use Rattle.law_heap_steps.specs.Below.fr_base.declared.name.MutexNo.{MutexNo}
use Rattle.law_heap_steps.specs.Below.fr_base.declared.instruction.Instr.{Instr}
use Rattle.law_heap_steps.specs.Below.heap_partition.Plain.{plain_of}
use Rattle.law_heap_steps.specs.Below.heap_partition.declared.value.Owned.{Owned}
use Rattle.law_heap_steps.specs.Below.thread_state.View.{ThreadState}
use Rattle.law_heap_steps.specs.Below.server_model.declared.event.Event.{Event}
use Rattle.law_heap_steps.specs.Below.server_model.Servers.{Server, Cluster}
use Rattle.law_heap_steps.specs.Below.server_model.Work.{thread_in}
use Rattle.law_heap_steps.specs.Below.coherent_memory.Names.{tot, one, some, if_so}
use Rattle.law_heap_steps.specs.Below.coherent_memory.Things.{as_gift, Thing, holds, gift_things}
use Rattle.law_heap_steps.specs.Below.coherent_memory.Follow.{Standing, thread_at}
use Rattle.law_heap_steps.specs.Below.coherent_memory.Sight.{Sight, sight}
use Rattle.law_heap_steps.specs.Below.coherent_memory.Paths.{joined_thread}
use Rattle.law_heap_steps.specs.Below.coherent_memory.Requests.{is_mutex, is_task, locked_mutex, is_par_end}
use Rattle.law_heap_steps.specs.Below.coherent_memory.Naming.{started_at, made_at}
use Rattle.law_heap_steps.specs.Below.coherent_memory.OneHeap.{Node, mutex_n, gift_owner, gift_owner_of, spot_owner, owns, owner_in, named_in, any_named, is_in_state, if_in, or_else, first_shown, content_value, is_gift_of, is_joined_by, result_value, share_in}
use Rattle.law_heap_steps.specs.Below.coherent_memory.Coherent.{IsSound}
use Rattle.law_heap_steps.proofs.Below.law_counts_sums.Bags.{counts_of}
use Rattle.law_heap_steps.proofs.Below.law_counts_sums.ThreadThere.{thread_there}
use Rattle.law_heap_steps.proofs.turns.Events.{AtStep}
use Rattle.law_heap_steps.proofs.mutexes.Beside.{IsBeside, IsLoose, loose_beside, all_so, gift_uncounted, itself}
use Rattle.law_heap_steps.proofs.mutexes.ThreadTurns.{G, R, before, loose}
use Rattle.law_heap_steps.proofs.mutexes.Changed.{spots_before}

pub or_false : (b : Bool) → b || false ≡ b
or_false true = refl
or_false false = refl

none_else : {A : Type 0} (o : Option A) → or_else o None ≡ o
none_else None = refl
none_else (Some a) = refl

pub none_if : (b : Bool) → if_so b 0 ≡ 0
none_if true = refl
none_if false = refl

module _ (k : Cluster) (sound : IsSound k) (e : Event) (i : Instr) (single : is_par_end (Some i) ≡ false) (s : Server) (t : ℕ) (x : ThreadState) (at : AtStep k e i s t x) where
  abbrev g1 : List Thing
  g1 = G k sound e i single s t x at

  abbrev s1 : Sight
  s1 = before k sound e i single s t x at

  abbrev counts_here : Thing
  counts_here = counts_of s.rest.number s.events s.rest

  abbrev it : Standing
  it = record { server = s.rest.number; packed = false; thread = x }

  abbrev with_gift : Owned → List Thing
  with_gift v = holds (as_gift x.number) v ∷ counts_here ∷ []

  pub found : thread_at s1.ground.threads x.number ≡ Some it
  found = itself s.rest.number x g1 (R k sound e i single s t x at) (all_so IsLoose IsBeside loose_beside g1 (loose k sound e i single s t x at))

  -- the gift's owner
  pub owner_there : spot_owner s1 (as_gift x.number) ≡ gift_owner (sight k) it (Some i)
  owner_there =
      sym (spots_before k sound e s at.here t x at.at at.number (as_gift x.number)) ∙ ap (gift_owner_of (sight k)) (thread_there k sound e.server s at.here x.number x (subst (λ u. thread_in s.threads u ≡ Some x) (sym at.number) at.at)) ∙ ap (gift_owner (sight k) it) at.code

  module _ (v : Owned) (gift : x.gift ≡ Some v) where
    pub is_it : g1 ≡ with_gift v
    is_it = ap (λ g. gift_things x.number g ++ counts_here ∷ []) gift

    pub gift_names : (f : Node → Bool) (q : Node) → any_named s1 f q g1 ≡ named_in (owns q v) f (spot_owner s1 (as_gift x.number))
    gift_names f q = ap (any_named s1 f q) is_it ∙ or_false (named_in (owns q v) f (spot_owner s1 (as_gift x.number)))

    pub gift_shares : (w : MutexNo) → tot (share_in s1 w) g1 ≡ if_so (owns (mutex_n w) v) (one (owner_in (is_in_state s1) (spot_owner s1 (as_gift x.number))))
    gift_shares w = ap (tot (share_in s1 w)) is_it ∙ omega arith

    pub gift_result : (r : ℕ) → first_shown (result_value s1 r) g1 ≡ if_in (some (one (is_task r (joined_thread (Some i) x)))) (Some (plain_of v))
    gift_result r =
        ap (first_shown (result_value s1 r)) is_it ∙ none_else (if_in (is_joined_by s1 r (thread_at s1.ground.threads x.number)) (Some (plain_of v))) ∙ ap (λ o. if_in (is_joined_by s1 r o) (Some (plain_of v))) found
        ∙ ap (λ j. if_in (some (if_so (is_some x.gift) (one (is_task r (joined_thread j x))))) (Some (plain_of v))) at.code
        ∙ ap (λ g. if_in (some (if_so (is_some g) (one (is_task r (joined_thread (Some i) x))))) (Some (plain_of v))) gift

    pub gift_results : joined_thread (Some i) x ≡ None → (r : ℕ) → first_shown (result_value s1 r) g1 ≡ None
    gift_results alone r = gift_result r ∙ ap (λ j. if_in (some (one (is_task r j))) (Some (plain_of v))) alone

    pub gift_contents : (w : MutexNo) → first_shown (content_value s1 w) g1 ≡ if_in (some (one (is_mutex w (locked_mutex s1 it (Some i))))) (Some (plain_of v))
    gift_contents w =
        ap (first_shown (content_value s1 w)) is_it ∙ none_else (if_in (is_gift_of s1 w (thread_at s1.ground.threads x.number)) (Some (plain_of v))) ∙ ap (λ o. if_in (is_gift_of s1 w o) (Some (plain_of v))) found
        ∙ ap (λ j. if_in (some (if_so (is_some x.gift) (one (is_mutex w (locked_mutex s1 it j))))) (Some (plain_of v))) at.code
        ∙ ap (λ g. if_in (some (if_so (is_some g) (one (is_mutex w (locked_mutex s1 it (Some i)))))) (Some (plain_of v))) gift

  -- THE COUNTS

  pub started_here : (h c : ℕ) → tot (started_at h c) g1 ≡ started_at h c counts_here
  started_here h c = gift_uncounted (started_at h c) x.number counts_here (λ v. refl) x.gift

  pub made_here : (h c : ℕ) → tot (made_at h c) g1 ≡ made_at h c counts_here
  made_here h c = gift_uncounted (made_at h c) x.number counts_here (λ v. refl) x.gift
