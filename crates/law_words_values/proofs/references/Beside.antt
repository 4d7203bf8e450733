-- Clusters on the way of an event whose server has other threads standing than it had: how words stay from one to the next.
use Rattle.std.proofs.Common.{◌≡◌, ℕ, ◌+◌, false, List, [], ◌∷◌, ◌++◌, length, Option, Some, IsSome, refl, sym, subst, ◌∙◌}
use Rattle.law_words_values.specs.Below.mut_borrow.declared.mutable.MutRef.{MutRef}
use Rattle.law_words_values.specs.Below.thread_state.View.{ThreadState}
use Rattle.law_words_values.specs.Below.thread_state.declared.value.Value.TheVariants as value
use Rattle.law_words_values.specs.Below.server_model.Servers.{Rest, Cluster, server_at}
use Rattle.law_words_values.specs.Below.server_model.Clusters.{with_server}
use Rattle.law_words_values.specs.Below.coherent_memory.Things.{Location, Thing, counts, partition_things, copy_things, mutex_things, task_things, waiting_things, leaving_things, things_at, standing_things, thread_things, server_things, things_of}
use Rattle.law_words_values.specs.Below.coherent_memory.Follow.{value_in}
use Rattle.law_words_values.specs.Below.coherent_memory.Sight.{sight}
use Rattle.law_words_values.specs.Below.coherent_memory.Coherent.{Holds, first_at_holder, IsSound}
use Rattle.law_words_values.specs.Below.law_words_paths.words.Reworded.{HasPlaces}
use Rattle.law_words_values.specs.Below.law_words_paths.words.Unmoved.{Untouched, LeavesWords}
use Rattle.law_words_values.proofs.Below.law_words_paths.words.Put.{Split, split_whole, split_left, split_right, servers_split}
use Rattle.law_words_values.proofs.Below.law_words_paths.words.Follows.{seen_places_lead}
use Rattle.law_words_values.proofs.Below.law_words_paths.words.Unmoved.{untouched_stays}
use Rattle.law_words_values.specs.carried.Carried.{Carried}
use Rattle.law_words_values.proofs.carried.Carrying.{carried_stays}
use Rattle.law_words_values.proofs.carried.Hands.{leaves_chain, RootedIn, rooted}
use Rattle.law_words_values.specs.references.Unpassed.{IsUnpassed}
use Rattle.law_words_values.proofs.references.Fewer.{slots_lead, cells_lead}
use Rattle.law_words_values.proofs.references.QuietSlots.{Steady}
use Rattle.law_words_values.proofs.references.Chains.{rooted_over, stood_there, held_there}

-- A SERVER WITH OTHER THREADS

abbrev pub with_threads : Cluster → ℕ → Rest → ℕ → List ThreadState → Cluster
with_threads k n r e ts = record k { servers = with_server k.servers n (record { rest = r; threads = ts; events = e }) }

threads_split : (n i : ℕ) (l rs : List ThreadState) (x y : ThreadState) → Split (things_at (standing_things n) i (l ++ (x ∷ rs))) (things_at (standing_things n) i (l ++ (y ∷ rs))) (thread_things n false x) (thread_things n false y)
threads_split n i [] rs x y = split_right (things_at (standing_things n) (i + 1) rs) (split_whole (thread_things n false x) (thread_things n false y))
threads_split n i (z ∷ l) rs x y = split_left (thread_things n false z) (threads_split n (i + 1) l rs x y)

server_split : (r : Rest) (ts us : List ThreadState) (e : ℕ) (c d : List Thing) → Split (things_at (standing_things r.number) 0 ts) (things_at (standing_things r.number) 0 us) c d
    → Split (server_things (record { rest = r; threads = ts; events = e })) (server_things (record { rest = r; threads = us; events = e })) c d
server_split r ts us e c d s =
    let n = r.number in
    split_right (things_at leaving_things 0 r.outbox)
    (split_right (things_at (waiting_things n) 0 r.inbox)
    (split_left (counts n (length r.partition.cells) r.partition.retired r.started r.mutexes.made e ∷ partition_things n r.partition ++ things_at (copy_things n) 0 r.cache ++ things_at (mutex_things n) 0 r.mutexes.there ++ things_at (task_things n) 0 r.tasks) s))

pub one_changes : (k : Cluster) (n : ℕ) (r : Rest) (e : ℕ) (l rs : List ThreadState) (x y : ThreadState) → IsSome (server_at k.servers n) → r.number ≡ n
    → Split (things_of (with_threads k n r e (l ++ (x ∷ rs)))) (things_of (with_threads k n r e (l ++ (y ∷ rs)))) (thread_things n false x) (thread_things n false y)
one_changes k n r e l rs x y h q =
    servers_split n k.servers (record { rest = r; threads = l ++ (x ∷ rs); events = e }) (record { rest = r; threads = l ++ (y ∷ rs); events = e }) (thread_things n false x) (thread_things n false y) h
    (server_split r (l ++ (x ∷ rs)) (l ++ (y ∷ rs)) e (thread_things n false x) (thread_things n false y)
    (subst (λ m. Split (things_at (standing_things m) 0 (l ++ (x ∷ rs))) (things_at (standing_things m) 0 (l ++ (y ∷ rs))) (thread_things n false x) (thread_things n false y)) (sym q) (threads_split n 0 l rs x y)))

-- A CLUSTER TO WHICH THE WORDS STAY

pub record Reached (k a : Cluster) : Type 0 where
  pub places : HasPlaces a
  pub rooted : RootedIn a
  pub leaves : LeavesWords k a

pub reached_itself : (k : Cluster) → IsSound k → Reached k k
reached_itself k sound = record {
  places = record { numbers_differ = sound.names.numbers_differ; home_of_each = sound.one_home.home_of_each; owner_of_each = sound.one_owner.owner_of_each };
  rooted = rooted k sound;
  leaves = record { words = λ b. record { after = b; same = λ p. refl }; holders = λ h. h; dirty = λ h. h; past = λ h. h };
}

-- words see the same of the next one
pub reached_same : (k a b : Cluster) → Reached k a → HasPlaces b → Untouched a b → Reached k b
reached_same k a b w d u = record {
  places = d;
  rooted = rooted_over a b u.takes (λ t m. seen_places_lead (sight a).ground (sight b).ground (slots_lead a b u.stands) (cells_lead a b u.stands) t.thread t.place.slot t.place.depth) w.rooted;
  leaves = leaves_chain w.leaves (untouched_stays a b w.places d u);
}

-- a value goes from one place to another
pub reached_carried : (k a b : Cluster) (f g : Option Location) → Holds a first_at_holder → Reached k a → HasPlaces b → Carried a b f g → Reached k b
reached_carried k a b f g firsts w d u = record {
  places = d;
  rooted = rooted_over a b u.takes (λ t m. (u.taken t m).0) w.rooted;
  leaves = leaves_chain w.leaves (carried_stays a b f g w.places d firsts u);
}

-- no holder passes the slot afterwards, where references and their holders are where they were
pub unpassed_over : (a b : Cluster) (f g : Option Location) (s : Location) → Carried a b f g → Holds a first_at_holder → ((l : Location) (r : MutRef) → f ≡ Some l → value_in (sight a).ground l ≡ Some (value.Mut r) → ⊥) → Steady a b → IsUnpassed a s → IsUnpassed b s
unpassed_over a b f g s u firsts other_kind steady go l m r d e held le there =
    let stood = stood_there a b f g u firsts other_kind l r e in
    let h = held_there a firsts l r stood in
    go l h.0 r d stood h.1 le (sym (steady l h.0 r d stood h.1 le) ∙ there)
