-- Who holds a mutex, where one object gets another value that no place of a lock passes, and the slots of one thread change that has no gift.
use Rattle.std.proofs.Common.{◌≡◌, inl, inr, ℕ, ◌+◌, ◌≤◌, ◌==◌, Bool, true, false, if◌then◌else◌, List, [], ◌∷◌, Option, Some, is_some, refl, sym, ap, ap₂, subst, ◌∙◌, arith}
use Rattle.law_entries_reads.specs.Below.law_entries_variables.Below.law_words_ends.Below.fr_base.declared.name.MutexNo.{MutexNo}
use Rattle.law_entries_reads.specs.Below.law_entries_variables.Below.law_words_ends.Below.fr_base.declared.name.ObjNo.{ObjNo}
use Rattle.law_entries_reads.specs.Below.law_entries_variables.Below.law_words_ends.Below.fr_base.declared.label.Plain.{Plain}
use Rattle.law_entries_reads.specs.Below.law_entries_variables.Below.law_words_ends.Below.thread_state.View.{ThreadState}
use Rattle.law_entries_reads.specs.Below.law_entries_variables.Below.law_words_ends.Below.server_model.Servers.{Cluster}
use Rattle.law_entries_writes.specs.Below.law_entries_variables.Below.coloured_heap.Heap.{Place}
use Rattle.law_entries_reads.specs.Below.law_entries_variables.Below.law_words_ends.Below.coherent_memory.Names.{Among, tot, one, some, if_so}
use Rattle.law_entries_reads.specs.Below.law_entries_variables.Below.law_words_ends.Below.coherent_memory.Things.{Thing, stands, things_of}
use Rattle.law_entries_reads.specs.Below.law_entries_variables.Below.law_words_ends.Below.coherent_memory.Follow.{Standing, threads_in, thread_at}
use Rattle.law_entries_reads.specs.Below.law_entries_variables.Below.law_words_ends.Below.coherent_memory.Sight.{sight}
use Rattle.law_entries_reads.specs.Below.law_entries_variables.Below.law_words_ends.Below.coherent_memory.Weights.{is_thread}
use Rattle.law_entries_reads.specs.Below.law_entries_variables.Below.law_words_ends.Below.coherent_memory.Requests.{is_mutex, locked_mutex}
use Rattle.law_entries_reads.specs.Below.law_entries_variables.Below.law_words_ends.Below.coherent_memory.Walking.{instr_of}
use Rattle.law_entries_reads.specs.Below.law_entries_variables.Below.law_words_ends.Below.coherent_memory.Sharing.{gift_content}
use Rattle.law_entries_reads.specs.Below.law_entries_variables.Below.law_words_ends.Below.coherent_memory.OneHeap.{or_else, first_shown}
use Rattle.law_entries_reads.specs.Below.law_entries_variables.Below.law_words_ends.Below.coherent_memory.Colours.{holder_of}
use Rattle.law_entries_reads.specs.Below.law_entries_variables.Below.law_words_ends.Below.coherent_memory.Coherent.{IsSound}
use Rattle.law_entries_writes.specs.Below.law_entries_variables.Below.law_heap_still.events.Shows.{ShownThread}
use Rattle.law_entries_writes.proofs.Below.law_entries_variables.Below.law_heap_still.events.Alike.{LocksSee}
use Rattle.law_entries_writes.proofs.Below.law_entries_variables.Below.law_heap_still.events.Tests.{numbers}
use Rattle.law_entries_writes.proofs.Below.law_entries_variables.Below.law_heap_still.events.Told.{told, ones, at_thread}
use Rattle.law_entries_writes.proofs.Below.law_entries_variables.Below.coloured_heap.ShownNames.{number_itself}
use Rattle.law_entries_writes.proofs.Below.law_entries_variables.deliveries.Shown.{if_some, placed_in, holder_by, holder_is, shown_after}
use Rattle.law_entries_writes.proofs.Below.law_entries_variables.deliveries.HeldOnce.{holders_once}
use Rattle.law_entries_writes.proofs.Below.law_entries_variables.deliveries.Live.{placed_seen}
use Rattle.law_entries_writes.proofs.Below.law_entries_variables.deliveries.After.{Follows}
use Rattle.law_entries_writes.proofs.Below.law_entries_variables.deliveries.Weighed.{Seen}
use Rattle.law_entries_writes.proofs.Below.law_entries_variables.still.Kept.{masked_of, cells_placed, numbered_seen, slots_seen}
use Rattle.law_entries_reads.proofs.Below.law_entries_variables.variables.Holders.{gifted, ungifted}
use Rattle.law_entries_writes.proofs.stores.Places.{Spares, gift_spared}

-- MEMBERS

-- the same of each thing that is there
tot_members : (f g : Thing → ℕ) (b : List Thing) → ((x : Thing) → Among x b → f x ≡ g x) → tot f b ≡ tot g b
tot_members f g [] e = refl
tot_members f g (x ∷ b) e = ap₂ (λ m n. m + n) (e x (inl refl)) (tot_members f g b (λ y m. e y (inr m)))

first_members : {A : Type 0} (f g : Thing → Option A) (b : List Thing) → ((x : Thing) → Among x b → f x ≡ g x) → first_shown f b ≡ first_shown g b
first_members f g [] e = refl
first_members f g (x ∷ b) e = ap₂ (λ m n. or_else m n) (e x (inl refl)) (first_members f g b (λ y m. e y (inr m)))

-- a thing counts among those that are there
none_of_it : (f : Thing → ℕ) (x : Thing) (b : List Thing) → Among x b → tot f b ≡ 0 → f x ≡ 0
none_of_it f x [] m z = absurd m
none_of_it f x (y ∷ b) (inl e) z = ap f (sym e) ∙ omega (arith, z)
none_of_it f x (y ∷ b) (inr m) z = none_of_it f x b m (omega (arith, z))

-- a thread that stands there counts
counts_there : (r : ℕ) (p : Bool) (x : ThreadState) (b : List Thing) → Among (stands r p x) b → 1 ≤ tot (is_thread x.number) b
counts_there r p x [] m = absurd m
counts_there r p x (z ∷ b) (inl e) = let mine : is_thread x.number z ≡ 1 = ap (is_thread x.number) e ∙ ap one (number_itself x.number) in omega (arith, mine)
counts_there r p x (z ∷ b) (inr n) = omega (arith, counts_there r p x b n)

-- what is found behind another thing
behind : (r : ℕ) (p : Bool) (x : ThreadState) (b : List Thing) → 1 ≤ tot (is_thread x.number) b → (y : Thing) → is_thread x.number y + tot (is_thread x.number) b ≤ 1 → thread_at (threads_in b) x.number ≡ Some (record { server = r; packed = p; thread = x })
    → thread_at (threads_in (y ∷ b)) x.number ≡ Some (record { server = r; packed = p; thread = x })
behind r p x b counts (stands q o z) few go_on = tested (z.number == x.number) refl few
  where
    tested : (t : Bool) → (z.number == x.number) ≡ t → one t + tot (is_thread x.number) b ≤ 1 → (if t then Some (record { server = q; packed = o; thread = z }) else thread_at (threads_in b) x.number) ≡ Some (record { server = r; packed = p; thread = x })
    tested true e l = absurd (omega (arith, l, counts))
    tested false e l = go_on
behind r p x b counts _ few go_on = go_on

-- a thread that stands there is found by its number
found_there : (r : ℕ) (p : Bool) (x : ThreadState) (b : List Thing) → tot (is_thread x.number) b ≤ 1 → Among (stands r p x) b → thread_at (threads_in b) x.number ≡ Some (record { server = r; packed = p; thread = x })
found_there r p x [] few m = absurd m
found_there r p x (y ∷ b) few (inl e) =
    subst (λ z. thread_at (threads_in (z ∷ b)) x.number ≡ Some (record { server = r; packed = p; thread = x })) (sym e) (ap (λ t. if t then Some (record { server = r; packed = p; thread = x }) else thread_at (threads_in b) x.number) (number_itself x.number))
found_there r p x (y ∷ b) few (inr m) = behind r p x b (counts_there r p x b m) y few (found_there r p x b (omega (arith, few)) m)

-- who holds by a thing, as a weight
holder_seen : (k : Cluster) (m : MutexNo) (g : ℕ → ℕ) → Seen (λ x. told g (holder_by (sight k) m x))
holder_seen k m g = record { held = λ p v. refl; shared = λ l q. refl; lent = λ l q. refl; flown = λ v c. refl; used = λ r v. refl; loose = λ u i o. refl; counted = λ r b q s o e. refl; unused = λ i d u. refl }

-- WHO HOLDS

-- what went and what came shows the same of the slots of all threads but these, and of objects that are spared; and these had no gift
pub record Beside (k : Cluster) (olds news : List Thing) (mine : ℕ → Bool) (spared : ObjNo → Bool) : Type 0 where
  pub threads : (t : ℕ) → tot (is_thread t) olds ≡ tot (is_thread t) news
  pub slots : (t : ℕ) → mine t ≡ false → (h : ShownThread → ℕ) → tot (at_thread (λ y. h (masked_of y)) t) olds ≡ tot (at_thread (λ y. h (masked_of y)) t) news
  pub objects : (o : ObjNo) → spared o ≡ true → (w : Plain × Place → ℕ) → tot (λ v. told w (placed_in o v)) olds ≡ tot (λ v. told w (placed_in o v)) news
  pub bare : tot (gifted mine) (things_of k) ≡ 0

module _ (k c : Cluster) (olds news : List Thing) (sound : IsSound k) (f : Follows k c olds news) (mine : ℕ → Bool) (spared : ObjNo → Bool) (beside : Beside k olds news mine spared) (paths : LocksSee spared k) where
  spares : (t : ℕ) → mine t ≡ false → Spares spared t (things_of k) (things_of c)
  spares t e = record {
    thread = omega (arith, f.things (is_thread t) (numbered_seen t), beside.threads t);
    slots = λ h. omega (arith, f.things (at_thread (λ v. h (masked_of v)) t) (slots_seen h t), beside.slots t e h);
    cells = λ o s g. let w : Plain × Place → ℕ = (λ v. g v.0) in omega (arith, cells_placed o g k, cells_placed o g c, f.things (λ v. told w (placed_in o v)) (placed_seen o w), beside.objects o s w);
  }

  gift_kept : (m : MutexNo) (r : ℕ) (p : Bool) (x : ThreadState) → Among (stands r p x) (things_of k) → (b : Bool) → mine x.number ≡ b → if_so b (one (is_some x.gift)) ≡ 0
      → gift_content (sight c) m (record { server = r; packed = p; thread = x }) ≡ gift_content (sight k) m (record { server = r; packed = p; thread = x })
  gift_kept m r p x among false e z =
      let me : Standing = record { server = r; packed = p; thread = x } in
      gift_spared spared k c sound f.code m me (spares x.number e) (λ w at n l. paths x.number me w (found_there r p x (things_of k) (sound.names.numbers_differ x.number) among) at n l)
  gift_kept m r p x among true e z =
      let me : Standing = record { server = r; packed = p; thread = x } in
      ungifted x.gift z (one (is_mutex m (locked_mutex (sight c) me (instr_of (sight c) me)))) ∙ sym (ungifted x.gift z (one (is_mutex m (locked_mutex (sight k) me (instr_of (sight k) me)))))

  holder_kept : (m : MutexNo) (x : Thing) → Among x (things_of k) → holder_by (sight c) m x ≡ holder_by (sight k) m x
  holder_kept m (stands r p x) among = ap (λ n. if_some (some n) x.number) (gift_kept m r p x among (mine x.number) refl (none_of_it (gifted mine) (stands r p x) (things_of k) among beside.bare))
  holder_kept m _ among = refl

  -- by what the cluster afterwards says of what went and came
  pub holder_still : (m : MutexNo) → ((g : ℕ → ℕ) → tot (λ x. told g (holder_by (sight c) m x)) olds ≡ tot (λ x. told g (holder_by (sight c) m x)) news) → holder_of (sight k) m ≡ holder_of (sight c) m
  holder_still m e = sym (holder_is c m few2 ∙ there)
    where
      few : tot (λ x. told ones (holder_by (sight k) m x)) (things_of k) ≤ 1
      few = holders_once k m sound

      same : (g : ℕ → ℕ) → tot (λ x. told g (holder_by (sight c) m x)) (things_of k) ≡ tot (λ x. told g (holder_by (sight k) m x)) (things_of k)
      same g = tot_members (λ x. told g (holder_by (sight c) m x)) (λ x. told g (holder_by (sight k) m x)) (things_of k) (λ x a. ap (told g) (holder_kept m x a))

      change : (g : ℕ → ℕ) → tot (λ x. told g (holder_by (sight c) m x)) (things_of c) + tot (λ x. told g (holder_by (sight c) m x)) olds ≡ tot (λ x. told g (holder_by (sight c) m x)) (things_of k) + tot (λ x. told g (holder_by (sight c) m x)) news
      change g = f.things (λ x. told g (holder_by (sight c) m x)) (holder_seen c m g)

      was : holder_of (sight k) m ≡ first_shown (holder_by (sight c) m) (things_of k)
      was = holder_is k m few ∙ sym (first_members (holder_by (sight c) m) (holder_by (sight k) m) (things_of k) (λ x a. holder_kept m x a))

      there : first_shown (holder_by (sight c) m) (things_of c) ≡ holder_of (sight k) m
      there =
          shown_after (λ (i j : ℕ). i == j) numbers (holder_by (sight c) m) (things_of k) olds news (things_of c) change (omega (arith, few, same ones)) (holder_of (sight k) m)
          (λ g. ap (λ o. told g o + tot (λ x. told g (holder_by (sight c) m x)) olds) was ∙ ap (λ n. told g (first_shown (holder_by (sight c) m) (things_of k)) + n) (e g))

      few2 : tot (λ x. told ones (holder_by (sight c) m x)) (things_of c) ≤ 1
      few2 = omega (arith, few, same ones, change ones, e ones)
