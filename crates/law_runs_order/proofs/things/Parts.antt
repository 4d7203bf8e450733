-- The sentences of mutexes, tasks, owners and names, over things in another order.
use Rattle.std.proofs.Common.{◌≡◌, ℕ, ◌+◌, not, List, [], ◌∷◌, Option, Some, None, refl, sym, ap, ap₂, ◌∙◌}
use Rattle.std.specs.Prelude.{is_some}
use Rattle.std.proofs.Math.Path.{fun_ext}
use Rattle.law_runs_rounds.specs.Below.law_runs_coherent.Below.fr_base.declared.name.MutexNo.{MutexNo}
use Rattle.law_runs_rounds.specs.Below.law_runs_coherent.Below.fr_base.declared.instruction.Instr.{Instr}
use Rattle.law_runs_rounds.specs.Below.law_runs_coherent.Below.fr_base.declared.instruction.Instr.TheVariants as instr
use Rattle.law_runs_rounds.specs.Below.law_runs_coherent.Below.thread_state.declared.phase.Phase.{Phase}
use Rattle.law_runs_rounds.specs.Below.law_runs_coherent.Below.thread_state.declared.phase.Phase.TheVariants as phase
use Rattle.law_runs_rounds.specs.Below.law_runs_coherent.Below.server_msgs.declared.message.Message.{Message}
use Rattle.law_runs_rounds.specs.Below.law_runs_coherent.Below.server_msgs.declared.message.Message.TheVariants.{Finished}
use Rattle.law_runs_rounds.specs.Below.law_runs_coherent.Below.server_model.Servers.{Server, Cluster}
use Rattle.law_runs_rounds.specs.Below.law_runs_coherent.Below.coherent_memory.Names.{tot, one, other, if_so, some}
use Rattle.law_runs_rounds.specs.Below.law_runs_coherent.Below.coherent_memory.Things.{Spot, as_gift, Thing, holds, lies, flies, sent, stands, servers_things, things_of}
use Rattle.law_runs_rounds.specs.Below.law_runs_coherent.Below.coherent_memory.Follow.{Standing}
use Rattle.law_runs_rounds.specs.Below.law_runs_coherent.Below.coherent_memory.Sight.{Sight, sight}
use Rattle.law_runs_rounds.specs.Below.law_runs_coherent.Below.coherent_memory.Weights.{tasks_of}
use Rattle.law_runs_rounds.specs.Below.law_runs_coherent.Below.coherent_memory.Walking.{instr_of}
use Rattle.law_runs_rounds.specs.Below.law_runs_coherent.Below.coherent_memory.Requests.{is_mutex}
use Rattle.law_runs_rounds.specs.Below.law_runs_coherent.Below.coherent_memory.Sharing.{mutexes, there_at, named_wrong, gift_content, contents, named_pair, got_pairs_wrong}
use Rattle.law_runs_rounds.specs.Below.law_runs_coherent.Below.coherent_memory.OneHeap.{content_owner, gift_owner, gift_owner_of, spot_owner, in_pair_of}
use Rattle.law_runs_rounds.specs.Below.law_runs_coherent.Below.coherent_memory.Rooted.{ownings_of, is_unit, branch_result, other_result, branches_wrong}
use Rattle.law_runs_rounds.specs.Below.law_runs_coherent.Below.coherent_memory.Naming.{was_made, not_made, made_wrong, threads, named_mutexes, started_at, made_at, count_of, uncounted_thread, uncounted_mutex, counted_wrong, event_count, many_names, names_count_wrong, large_counts, large_wrong, is_retired, server_wrong, servers_wrong}
use Rattle.law_runs_rounds.specs.Below.law_runs_coherent.Below.coherent_memory.Requests.{home_of}
use Rattle.law_runs_order.specs.things.SameThings.{Reordered, with_messages, AreSameBeside}
use Rattle.law_runs_order.proofs.things.Sights.{Apart, thread_same}
use Rattle.law_runs_order.proofs.things.Memory.{over_things, over_threads}
use Rattle.law_runs_order.proofs.things.Asked.{locked_same}

module _ (k : Cluster) (servers : List Server) (r : Reordered (things_of k) (servers_things servers)) (once : Apart (servers_things servers)) where
  abbrev s : Sight
  s = sight k

  abbrev t : Sight
  t = sight (record k { servers = servers })

  -- MUTEXES AND TASKS

  pub named_same : named_wrong s ≡ named_wrong t
  named_same = ap (λ (i : MutexNo → ℕ). tot (mutexes i) s.things) (fun_ext (λ m. ap (λ n. other (some n)) (r.sums (there_at m.home m)))) ∙ r.sums (mutexes (λ m. other (some (tot (there_at m.home m) t.things))))

  pub gift_content_same : (m : MutexNo) (x : Standing) → gift_content s m x ≡ gift_content t m x
  gift_content_same m x = ap (λ o. if_so (is_some x.thread.gift) (one (is_mutex m o))) (locked_same k servers r once x (instr_of s x))

  content_same : (m : MutexNo) (x : Thing) → contents s m x ≡ contents t m x
  content_same m (stands n p x) = gift_content_same m (record { server = n; packed = p; thread = x })
  content_same m _ = refl

  pub contents_same : (m : MutexNo) → tot (contents s m) s.things ≡ tot (contents t m) t.things
  contents_same m = over_things k servers r once (contents s m) (contents t m) (content_same m)

  pair_same : (p : Phase) → named_pair s p ≡ named_pair t p
  pair_same (phase.GotPar u v) = ap₂ (λ m n. other (not (some (m + n)))) (r.sums (tasks_of u)) (r.sums (tasks_of v))
  pair_same _ = refl

  pub got_pairs_same : got_pairs_wrong s ≡ got_pairs_wrong t
  got_pairs_same = over_threads k servers r once (λ x. named_pair s x.thread.phase) (λ x. named_pair t x.thread.phase) (λ x. pair_same x.thread.phase)

  -- OWNERS

  owner_same : (x : Standing) (i : Option Instr) → gift_owner s x i ≡ gift_owner t x i
  owner_same x (Some (instr.Lock w)) = ap content_owner (locked_same k servers r once x (Some (instr.Lock w)))
  owner_same x _ = refl

  owner_of_same : (o : Option Standing) → gift_owner_of s o ≡ gift_owner_of t o
  owner_of_same None = refl
  owner_of_same (Some x) = owner_same x (instr_of s x)

  pub spot_same : (p : Spot) → spot_owner s p ≡ spot_owner t p
  spot_same (as_gift n) = owner_of_same _ ∙ ap (gift_owner_of t) (thread_same k servers r once n)
  spot_same _ = refl

  pub owning_same : (x : Thing) → ownings_of s x ≡ ownings_of t x
  owning_same (holds p v) = rw (spot_same p) refl
  owning_same _ = refl

  unit_same : (m : Message) → branch_result s m ≡ branch_result t m
  unit_same (Finished u v) = ap (λ n. if_so (some n) (other (is_unit v))) (r.sums (in_pair_of u))
  unit_same _ = refl

  result_same : (x : Thing) → other_result s x ≡ other_result t x
  result_same (sent n m) = unit_same m
  result_same _ = refl

  pub branches_same : branches_wrong s ≡ branches_wrong t
  branches_same = over_things k servers r once (other_result s) (other_result t) result_same

  -- NAMES

  made_at_same : (x : Thing) → not_made s x ≡ not_made t x
  made_at_same (lies n i c) = ap (λ o. other (was_made c.object o)) (thread_same k servers r once c.object.thread)
  made_at_same (flies w c) = ap (λ o. other (was_made c.object o)) (thread_same k servers r once c.object.thread)
  made_at_same _ = refl

  pub made_same : made_wrong s ≡ made_wrong t
  made_same = over_things k servers r once (not_made s) (not_made t) made_at_same

  pub counted_same : counted_wrong s ≡ counted_wrong t
  counted_same =
      ap₂ (λ m n. m + n) (ap (λ (f : ℕ → ℕ). tot (threads f) s.things) (fun_ext (λ n. ap (λ i. other (some i)) (r.sums (started_at (home_of n) (count_of n))))) ∙ r.sums (threads (uncounted_thread t)))
      (ap (λ (f : MutexNo → ℕ). tot (named_mutexes f) s.things) (fun_ext (λ m. ap (λ i. other (some i)) (r.sums (made_at m.home m.count)))) ∙ r.sums (named_mutexes (uncounted_mutex t)))

  pub names_count_same : names_count_wrong s ≡ names_count_wrong t
  names_count_same = ap (λ n. tot (many_names n) s.things) (r.sums event_count) ∙ r.sums (many_names (tot event_count t.things))

  pub large_same : large_wrong s ≡ large_wrong t
  large_same = ap (λ n. tot (large_counts n) s.things) (r.sums event_count) ∙ r.sums (large_counts (tot event_count t.things))

  -- THE PARTS OF SERVERS

  server_same : (n : ℕ) (x y : Server) → y ≡ with_messages y.rest.inbox y.rest.outbox x → server_wrong s n x ≡ server_wrong t n y
  server_same n x y e = rw (r.sums (is_retired n)) (sym (ap (server_wrong t n) e))

  pub servers_same : (n : ℕ) (xs ys : List Server) → AreSameBeside xs ys → servers_wrong s n xs ≡ servers_wrong t n ys
  servers_same n [] [] a = refl
  servers_same n (x ∷ xs) (y ∷ ys) a = ap₂ (λ i j. i + j) (server_same n x y a.0) (servers_same (n + 1) xs ys a.1)
  servers_same n [] (y ∷ ys) a = absurd a
  servers_same n (x ∷ xs) [] a = absurd a
