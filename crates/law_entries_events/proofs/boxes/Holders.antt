-- Who holds a mutex, where gifts of threads stay but for some that have none afterwards.
use Rattle.std.proofs.Common.{◌≡◌, ℕ, ◌+◌, ◌≤◌, ◌==◌, Bool, true, false, List, [], ◌∷◌, Option, Some, None, is_some, refl, sym, ap, ◌∙◌, arith}
use Rattle.law_entries_writes.specs.Below.law_entries_reads.Below.law_words_borrows.Below.fr_base.declared.name.MutexNo.{MutexNo}
use Rattle.law_entries_writes.specs.Below.law_entries_reads.Below.law_words_borrows.Below.thread_state.View.{ThreadState}
use Rattle.law_entries_writes.specs.Below.law_entries_reads.Below.law_words_borrows.Below.server_model.Servers.{Server, Cluster, server_at}
use Rattle.law_entries_writes.specs.Below.law_entries_reads.Below.law_words_borrows.Below.server_model.Work.{thread_in}
use Rattle.law_entries_writes.proofs.Below.law_entries_variables.Below.coloured_heap.ShownNames.{number_itself}
use Rattle.law_entries_writes.specs.Below.law_entries_reads.Below.law_words_borrows.Below.coherent_memory.Names.{tot, one, some, if_so}
use Rattle.law_entries_writes.specs.Below.law_entries_reads.Below.law_words_borrows.Below.coherent_memory.Things.{Thing, stands, things_of}
use Rattle.law_entries_writes.specs.Below.law_entries_reads.Below.law_words_borrows.Below.coherent_memory.Follow.{Standing}
use Rattle.law_entries_writes.specs.Below.law_entries_reads.Below.law_words_borrows.Below.coherent_memory.Sight.{sight}
use Rattle.law_entries_writes.specs.Below.law_entries_reads.Below.law_words_borrows.Below.coherent_memory.Requests.{is_mutex, locked_mutex}
use Rattle.law_entries_writes.specs.Below.law_entries_reads.Below.law_words_borrows.Below.coherent_memory.Walking.{instr_of}
use Rattle.law_entries_writes.specs.Below.law_entries_reads.Below.law_words_borrows.Below.coherent_memory.Sharing.{gift_content}
use Rattle.law_entries_writes.specs.Below.law_entries_reads.Below.law_words_borrows.Below.coherent_memory.OneHeap.{or_else, first_shown}
use Rattle.law_entries_writes.specs.Below.law_entries_reads.Below.law_words_borrows.Below.coherent_memory.Colours.{holder_of}
use Rattle.law_entries_writes.specs.Below.law_entries_reads.Below.law_words_borrows.Below.coherent_memory.Coherent.{IsSound}
use Rattle.law_entries_writes.proofs.Below.law_entries_reads.Below.law_words_borrows.Below.law_counts_sums.ThreadThere.{thread_there}
use Rattle.law_entries_writes.proofs.Below.law_entries_variables.Below.law_heap_still.events.Tests.{numbers}
use Rattle.law_entries_writes.proofs.Below.law_entries_variables.Below.law_heap_still.events.Told.{told, ones, tot_same, tot_but, at_thread, thread_told}
use Rattle.law_entries_writes.proofs.Below.law_entries_variables.deliveries.Weighed.{Seen}
use Rattle.law_entries_writes.proofs.Below.law_entries_variables.deliveries.Shown.{if_some, holder_by, holder_is, shown_still}
use Rattle.law_entries_writes.proofs.Below.law_entries_variables.deliveries.HeldOnce.{holders_once}
use Rattle.law_entries_writes.proofs.Below.law_entries_variables.deliveries.After.{Follows}
use Rattle.law_entries_writes.proofs.Below.law_entries_variables.variables.Holders.{gifted, gifted_seen, ungifted}
use Rattle.law_entries_writes.proofs.Below.law_entries_variables.variables.Aside.{only}

holder_seen : (k : Cluster) (m : MutexNo) (g : ℕ → ℕ) → Seen (λ x. told g (holder_by (sight k) m x))
holder_seen k m g = record { held = λ p v. refl; shared = λ l q. refl; lent = λ l q. refl; flown = λ v c. refl; used = λ r v. refl; loose = λ u i o. refl; counted = λ r b q s o e. refl; unused = λ i d u. refl }

-- the same is shown first, but for what isn't there
first_but : {A : Type 0} (none : Thing → ℕ) (f g : Thing → Option A) → ((x : Thing) → none x ≡ 0 → f x ≡ g x) → (b : List Thing) → tot none b ≡ 0 → first_shown f b ≡ first_shown g b
first_but none f g e [] z = refl
first_but none f g e (x ∷ b) z = ap (λ o. or_else o (first_shown f b)) (e x (omega (arith, z))) ∙ ap (or_else (g x)) (first_but none f g e b (omega (arith, z)))

module _ (k c : Cluster) (olds news : List Thing) (sound : IsSound k) (f : Follows k c olds news) (mine : ℕ → Bool) (kept : (m : MutexNo) (x : Standing) → mine x.thread.number ≡ false → gift_content (sight c) m x ≡ gift_content (sight k) m x) (bare : tot (gifted mine) (things_of c) ≡ 0) where
  gift_kept : (m : MutexNo) (x : Standing) (b : Bool) → mine x.thread.number ≡ b → if_so b (one (is_some x.thread.gift)) ≡ 0 → gift_content (sight c) m x ≡ gift_content (sight k) m x
  gift_kept m x false e z = kept m x e
  gift_kept m x true e z = ungifted x.thread.gift z (one (is_mutex m (locked_mutex (sight c) x (instr_of (sight c) x)))) ∙ sym (ungifted x.thread.gift z (one (is_mutex m (locked_mutex (sight k) x (instr_of (sight k) x)))))

  holder_kept : (m : MutexNo) (x : Thing) → gifted mine x ≡ 0 → holder_by (sight c) m x ≡ holder_by (sight k) m x
  holder_kept m (stands r p x) z = ap (λ n. if_some (some n) x.number) (gift_kept m (record { server = r; packed = p; thread = x }) (mine x.number) refl z)
  holder_kept m _ z = refl

  -- where these are the same it is who held it
  pub holder_stays : (m : MutexNo) → ((g : ℕ → ℕ) → tot (λ x. told g (holder_by (sight k) m x)) olds ≡ tot (λ x. told g (holder_by (sight k) m x)) news) → holder_of (sight k) m ≡ holder_of (sight c) m
  holder_stays m e =
      holder_is k m few ∙ sym (shown_still (λ (i j : ℕ). i == j) numbers (holder_by (sight k) m) (things_of k) olds news (things_of c) change few e)
      ∙ sym (first_but (gifted mine) (holder_by (sight c) m) (holder_by (sight k) m) (holder_kept m) (things_of c) bare) ∙ sym (holder_is c m few_then)
    where
      few : tot (λ x. told ones (holder_by (sight k) m x)) (things_of k) ≤ 1
      few = holders_once k m sound

      change : (g : ℕ → ℕ) → tot (λ x. told g (holder_by (sight k) m x)) (things_of c) + tot (λ x. told g (holder_by (sight k) m x)) olds ≡ tot (λ x. told g (holder_by (sight k) m x)) (things_of k) + tot (λ x. told g (holder_by (sight k) m x)) news
      change g = f.things (λ x. told g (holder_by (sight k) m x)) (holder_seen k m g)

      few_then : tot (λ x. told ones (holder_by (sight c) m x)) (things_of c) ≤ 1
      few_then =
          let same : tot (λ x. told ones (holder_by (sight c) m x)) (things_of c) ≡ tot (λ x. told ones (holder_by (sight k) m x)) (things_of c) =
          tot_but (gifted mine) (λ x. told ones (holder_by (sight c) m x)) (λ x. told ones (holder_by (sight k) m x)) (λ x z. ap (told ones) (holder_kept m x z)) (things_of c) bare in
          omega (arith, same, change ones, e ones, few)

-- ONE THREAD THAT HAS NO GIFT AFTERWARDS

gift_at : (t : ℕ) (x : Thing) → gifted (only t) x ≡ at_thread (λ v. one (is_some v.thread.gift)) t x
gift_at t (stands r p x) = refl
gift_at t _ = refl

-- beside things that are no threads
pub bare_then : (k c : Cluster) → IsSound k → (number : ℕ) (s : Server) → server_at k.servers number ≡ Some s → (y : ThreadState) → thread_in s.threads y.number ≡ Some y → (z : ThreadState) → z.gift ≡ None → (olds news : List Thing)
    → Follows k c (stands s.rest.number false y ∷ olds) (stands s.rest.number false z ∷ news) → tot (gifted (only y.number)) olds ≡ 0 → tot (gifted (only y.number)) news ≡ 0 → tot (gifted (only y.number)) (things_of c) ≡ 0
bare_then k c sound number s here y at z free olds news f none none2 =
    let g : ThreadState → ℕ = λ x. one (is_some x.gift) in
    let before : tot (gifted (only y.number)) (things_of k) ≡ g y =
    tot_same (gifted (only y.number)) (at_thread (λ x. g x.thread) y.number) (gift_at y.number) (things_of k) ∙ thread_told (λ x. g x.thread) y.number (things_of k) (sound.names.numbers_differ y.number) ∙ ap (told (λ x. g x.thread)) (thread_there k sound number s here y.number y at) in
    let mine : gifted (only y.number) (stands s.rest.number false y) ≡ g y = ap (λ b. if_so b (g y)) (number_itself y.number) in
    let its : gifted (only y.number) (stands s.rest.number false z) ≡ if_so (only y.number z.number) 0 = ap (λ o. if_so (only y.number z.number) (one (is_some o))) free in
    omega (arith, f.things (gifted (only y.number)) (gifted_seen (only y.number)), before, mine, its, nought (only y.number z.number), none, none2)
  where
    nought : (b : Bool) → if_so b 0 ≡ 0
    nought true = refl
    nought false = refl
