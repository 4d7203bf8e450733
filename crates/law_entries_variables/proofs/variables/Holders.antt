-- Who holds a mutex, where the slots of some threads change that have no gift afterwards: a gift of another thread is the content that it was.
use Rattle.std.proofs.Common.{◌≡◌, ℕ, ◌+◌, ◌≤◌, ◌==◌, Bool, true, false, List, [], ◌∷◌, Option, Some, None, is_some, refl, sym, ap, ◌∙◌, arith}
use Rattle.law_words_ends.specs.Below.fr_base.declared.name.MutexNo.{MutexNo}
use Rattle.law_words_ends.specs.Below.heap_partition.declared.value.Owned.{Owned}
use Rattle.law_words_ends.specs.Below.server_model.Servers.{Cluster}
use Rattle.law_words_ends.specs.Below.coherent_memory.Names.{tot, one, some, if_so}
use Rattle.law_words_ends.specs.Below.coherent_memory.Things.{Thing, stands, things_of}
use Rattle.law_words_ends.specs.Below.coherent_memory.Follow.{Standing}
use Rattle.law_words_ends.specs.Below.coherent_memory.Sight.{sight}
use Rattle.law_words_ends.specs.Below.coherent_memory.Requests.{is_mutex, locked_mutex}
use Rattle.law_words_ends.specs.Below.coherent_memory.Walking.{instr_of}
use Rattle.law_words_ends.specs.Below.coherent_memory.Sharing.{gift_content}
use Rattle.law_words_ends.specs.Below.coherent_memory.OneHeap.{or_else, first_shown}
use Rattle.law_words_ends.specs.Below.coherent_memory.Colours.{holder_of}
use Rattle.law_words_ends.specs.Below.coherent_memory.Coherent.{IsSound}
use Rattle.law_entries_variables.proofs.Below.law_heap_still.events.Tests.{numbers}
use Rattle.law_entries_variables.proofs.Below.law_heap_still.events.Told.{told, ones, tot_but, first_told}
use Rattle.law_entries_variables.proofs.deliveries.Weighed.{Seen}
use Rattle.law_entries_variables.proofs.deliveries.Shown.{if_some, holder_by, holder_is, shown_after}
use Rattle.law_entries_variables.proofs.deliveries.HeldOnce.{holders_once}
use Rattle.law_entries_variables.proofs.deliveries.After.{Follows}
use Rattle.law_entries_variables.proofs.still.Kept.{Staying, gifts_by}

-- the same is shown first, but for what isn't there
first_but : {A : Type 0} (none : Thing → ℕ) (f g : Thing → Option A) → ((x : Thing) → none x ≡ 0 → f x ≡ g x) → (b : List Thing) → tot none b ≡ 0 → first_shown f b ≡ first_shown g b
first_but none f g e [] z = refl
first_but none f g e (x ∷ b) z = ap (λ o. or_else o (first_shown f b)) (e x (omega (arith, z))) ∙ ap (or_else (g x)) (first_but none f g e b (omega (arith, z)))

-- a gift of one of these threads
abbrev pub gifted : (ℕ → Bool) → Thing → ℕ
gifted mine (stands r p x) = if_so (mine x.number) (one (is_some x.gift))
gifted mine x = 0

-- the coloured heap sees gifts
pub gifted_seen : (mine : ℕ → Bool) → Seen (gifted mine)
gifted_seen mine = record { held = λ p v. refl; shared = λ l q. refl; lent = λ l q. refl; flown = λ v c. refl; used = λ r v. refl; loose = λ u i o. refl; counted = λ r b q s o e. refl; unused = λ i d u. refl }

holder_seen : (k : Cluster) (m : MutexNo) (g : ℕ → ℕ) → Seen (λ x. told g (holder_by (sight k) m x))
holder_seen k m g = record { held = λ p v. refl; shared = λ l q. refl; lent = λ l q. refl; flown = λ v c. refl; used = λ r v. refl; loose = λ u i o. refl; counted = λ r b q s o e. refl; unused = λ i d u. refl }

-- without a gift nothing is held by one
pub ungifted : (g : Option Owned) → one (is_some g) ≡ 0 → (n : ℕ) → if_so (is_some g) n ≡ 0
ungifted None z n = refl
ungifted (Some v) z n = absurd (cc z)

-- what happens to the slots of all threads but these, and to objects, doesn't show; and afterwards these have no gift
pub record Others (k c : Cluster) (olds news : List Thing) (mine : ℕ → Bool) : Type 0 where
  pub staying : (t : ℕ) → mine t ≡ false → Staying t olds news
  pub bare : tot (gifted mine) (things_of c) ≡ 0

module _ (k c : Cluster) (olds news : List Thing) (sound : IsSound k) (f : Follows k c olds news) (mine : ℕ → Bool) (others : Others k c olds news mine) where
  gift_kept : (m : MutexNo) (x : Standing) (b : Bool) → mine x.thread.number ≡ b → if_so b (one (is_some x.thread.gift)) ≡ 0 → gift_content (sight c) m x ≡ gift_content (sight k) m x
  gift_kept m x false e z = gifts_by k c sound olds news f m x (others.staying x.thread.number e)
  gift_kept m x true e z = ungifted x.thread.gift z (one (is_mutex m (locked_mutex (sight c) x (instr_of (sight c) x)))) ∙ sym (ungifted x.thread.gift z (one (is_mutex m (locked_mutex (sight k) x (instr_of (sight k) x)))))

  holder_kept : (m : MutexNo) (x : Thing) → gifted mine x ≡ 0 → holder_by (sight c) m x ≡ holder_by (sight k) m x
  holder_kept m (stands r p x) z = ap (λ n. if_some (some n) x.number) (gift_kept m (record { server = r; packed = p; thread = x }) (mine x.number) refl z)
  holder_kept m _ z = refl

  -- who holds a mutex is told by sums of what went and came
  pub holder_after : (m : MutexNo) (p : Option ℕ) → ((g : ℕ → ℕ) → told g p + tot (λ x. told g (holder_by (sight k) m x)) olds ≡ told g (holder_of (sight k) m) + tot (λ x. told g (holder_by (sight k) m x)) news) → p ≡ holder_of (sight c) m
  holder_after m p e =
      sym (holder_is c m few2 ∙ first_but (gifted mine) (holder_by (sight c) m) (holder_by (sight k) m) (holder_kept m) (things_of c) others.bare ∙ there)
    where
      few : tot (λ x. told ones (holder_by (sight k) m x)) (things_of k) ≤ 1
      few = holders_once k m sound

      was : holder_of (sight k) m ≡ first_shown (holder_by (sight k) m) (things_of k)
      was = holder_is k m few

      change : (g : ℕ → ℕ) → told g p + tot (λ x. told g (holder_by (sight k) m x)) olds ≡ told g (first_shown (holder_by (sight k) m) (things_of k)) + tot (λ x. told g (holder_by (sight k) m x)) news
      change g = e g ∙ ap (λ o. told g o + tot (λ x. told g (holder_by (sight k) m x)) news) was

      there : first_shown (holder_by (sight k) m) (things_of c) ≡ p
      there = shown_after (λ (i j : ℕ). i == j) numbers (holder_by (sight k) m) (things_of k) olds news (things_of c) (λ g. f.things (λ x. told g (holder_by (sight k) m x)) (holder_seen k m g)) few p change

      most : (o : Option ℕ) → told ones o ≤ 1
      most None = omega arith
      most (Some x) = omega arith

      count : tot (λ x. told ones (holder_by (sight k) m x)) (things_of c) ≤ 1
      count = omega (arith, f.things (λ x. told ones (holder_by (sight k) m x)) (holder_seen k m ones), change ones, first_told (holder_by (sight k) m) ones (things_of k) few, most p)

      few2 : tot (λ x. told ones (holder_by (sight c) m x)) (things_of c) ≤ 1
      few2 =
          let same : tot (λ x. told ones (holder_by (sight c) m x)) (things_of c) ≡ tot (λ x. told ones (holder_by (sight k) m x)) (things_of c) =
          tot_but (gifted mine) (λ x. told ones (holder_by (sight c) m x)) (λ x. told ones (holder_by (sight k) m x)) (λ x z. ap (told ones) (holder_kept m x z)) (things_of c) others.bare in
          omega (arith, same, count)

  -- where these are the same it is who held it
  pub holder_still : (m : MutexNo) → ((g : ℕ → ℕ) → tot (λ x. told g (holder_by (sight k) m x)) olds ≡ tot (λ x. told g (holder_by (sight k) m x)) news) → holder_of (sight k) m ≡ holder_of (sight c) m
  holder_still m e = holder_after m (holder_of (sight k) m) (λ g. ap (λ n. told g (holder_of (sight k) m) + n) (e g))
