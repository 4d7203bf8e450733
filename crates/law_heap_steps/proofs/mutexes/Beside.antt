-- One thread's things among others, with some things beside it: contents, gifts, cells and counts.
use Rattle.std.proofs.Common.{◌≡◌, ◌≢◌, ℕ, ◌+◌, ◌==◌, ◌||◌, Bool, true, false, if◌then◌else◌, List, [], ◌∷◌, ◌++◌, Option, Some, None, refl, ap, ◌∙◌, arith}
use Rattle.std.specs.Bool.{⊤}
use Rattle.std.specs.List.{AllByRecursion}
use Rattle.std.proofs.lemmas.List.{append_assoc}
use Rattle.law_heap_steps.proofs.Below.fr_typing.PlaceLemmas.{eq_cases}
use Rattle.law_heap_steps.specs.Below.fr_base.declared.name.MutexNo.{MutexNo}
use Rattle.law_heap_steps.specs.Below.heap_partition.declared.value.Owned.{Owned}
use Rattle.law_heap_steps.specs.Below.thread_state.View.{ThreadState}
use Rattle.law_heap_steps.specs.Below.coherent_memory.Names.{tot, one, some, if_so}
use Rattle.law_heap_steps.specs.Below.coherent_memory.Things.{as_gift, Thing, holds, stands, noted, lies, flies, things_at, walk_things, slot_things, temp_things, gift_things, thread_things}
use Rattle.law_heap_steps.specs.Below.coherent_memory.Follow.{Standing, threads_in, thread_at, cells_in}
use Rattle.law_heap_steps.specs.Below.coherent_memory.Sight.{Sight}
use Rattle.law_heap_steps.specs.Below.coherent_memory.OneHeap.{Node, mutex_n, a_thread, owns, names, owner_of, named_in, any_named, pair_over, or_else, first_shown, share_in}
use Rattle.law_heap_steps.proofs.Below.law_counts_sums.Bags.{had_by}
use Rattle.law_heap_steps.proofs.Below.law_counts_sums.Trades.{tot-append}
use Rattle.law_heap_steps.proofs.turns.Parts.{shown_both, any_both, Own, own_all, none_shown, none_counted, same_counted, no_threads, no_cells, any_told, owned_in, own_named}

-- without its gift
abbrev pub giftless : ThreadState → ThreadState
giftless z = record z { gift = None }

-- no thread, nor a note of one that has ended
abbrev pub IsBeside : Thing → Type 0
IsBeside (stands s p z) = ⊥
IsBeside (noted s z) = pair_over z.state ≡ None
IsBeside x = ⊤

-- nor a cell
abbrev pub IsLoose : Thing → Type 0
IsLoose (stands s p z) = ⊥
IsLoose (noted s z) = ⊥
IsLoose (lies s a c) = ⊥
IsLoose (flies w c) = ⊥
IsLoose x = ⊤

pub all_so : (P Q : Thing → Type 0) → ((x : Thing) → P x → Q x) → (xs : List Thing) → AllByRecursion P xs → AllByRecursion Q xs
all_so P Q f [] h = tt
all_so P Q f (x ∷ xs) h = (f x h.0, all_so P Q f xs h.1)

pub loose_beside : (x : Thing) → IsLoose x → IsBeside x
loose_beside (stands s p z) h = absurd h
loose_beside (noted s z) h = absurd h
loose_beside (lies s a c) h = absurd h
loose_beside (flies w c) h = absurd h
loose_beside _ h = tt

beside_threads : (x : Thing) → IsBeside x → (l : List Thing) → threads_in (x ∷ l) ≡ threads_in l
beside_threads (stands s p z) h l = absurd h
beside_threads _ h l = refl

loose_cells : (x : Thing) → IsLoose x → (l : List Thing) → cells_in (x ∷ l) ≡ cells_in l
loose_cells (lies s a c) h l = absurd h
loose_cells (flies w c) h l = absurd h
loose_cells _ h l = refl

named_thread : (q : Bool) (go : Node → Bool) → named_in q go a_thread ≡ q
named_thread true go = refl
named_thread false go = refl

pub so_one : (q : Bool) → if_so q 1 ≡ one q
so_one true = refl
so_one false = refl

-- what a gift doesn't weigh
pub gift_uncounted : (f : Thing → ℕ) (t : ℕ) (c : Thing) → ((v : Owned) → f (holds (as_gift t) v) ≡ 0) → (g : Option Owned) → tot f (gift_things t g ++ c ∷ []) ≡ f c
gift_uncounted f t c h None = omega arith
gift_uncounted f t c h (Some v) = omega (arith, h v)

-- a thread's things: itself, its gift, and what else it has
module _ (n : ℕ) (z : ThreadState) where
  pub thread_parted : (f : Thing → ℕ) → tot f (thread_things n false z) ≡ f (stands n false z) + (tot f (gift_things z.number z.gift) + tot f (had_by n (giftless z)))
  thread_parted f =
      let gift = gift_things z.number z.gift in
      let ws = things_at (walk_things n) 0 z.walk in
      let ss = things_at (slot_things n z.number) 0 z.slots in
      let ts = things_at (temp_things n z.number) 0 z.temps in
      let front : tot f (thread_things n false z) ≡ f (stands n false z) + tot f (((gift ++ ws) ++ ss) ++ ts) = refl in
      let had : tot f (had_by n (giftless z)) ≡ tot f ((ws ++ ss) ++ ts) = refl in
      omega (arith, front, had, tot-append f ((gift ++ ws) ++ ss) ts, tot-append f (gift ++ ws) ss, tot-append f gift ws, tot-append f (ws ++ ss) ts, tot-append f ws ss)

-- the thread z at server n, the things G beside it, and the others
module _ (n : ℕ) (z : ThreadState) (G : List Thing) where
  abbrev pub mine : List Thing
  mine = stands n false z ∷ (G ++ had_by n (giftless z))

  abbrev pub me : Standing
  me = record { server = n; packed = false; thread = z }

  abbrev had : List Thing
  had = had_by n (giftless z)

  -- what such things name, whatever is in the state
  pub any_mine : (s : Sight) (go : Node → Bool) (q : Node) → any_named s go q mine ≡ any_named s go q G || some (owned_in q z.slots + owned_in q z.temps)
  any_mine s go q =
      let own : Own (λ x. named_in (names q x) go (owner_of s x) ≡ names q x) = record {
        slots = λ t i v. named_thread (owns q v) go;
        temps = λ t i v. named_thread (owns q v) go;
        shared = λ p r. refl;
        lent = λ p r. refl;
        marks = λ p m. refl;
        used = λ a w. refl;
      } in
      let told : any_named s go q had ≡ some (owned_in q z.slots + owned_in q z.temps) =
      any_told s go q had (own_all (λ x. named_in (names q x) go (owner_of s x) ≡ names q x) own n (giftless z) refl) ∙ ap some (own_named q n (giftless z) refl) in
      any_both s go q G had ∙ ap (λ b. any_named s go q G || b) told

  module _ (R : List Thing) where
    abbrev pub all_of : List Thing
    all_of = mine ++ R

    parted : all_of ≡ stands n false z ∷ (G ++ (had ++ R))
    parted = ap (λ l. stands n false z ∷ l) (append_assoc G had R)

    -- what only these show
    pub first_of : {A : Type 0} (f : Thing → Option A) → Own (λ x. f x ≡ None) → f (stands n false z) ≡ None → first_shown f all_of ≡ or_else (first_shown f G) (first_shown f R)
    first_of f own e =
        let none : first_shown f had ≡ None = none_shown f had (own_all (λ x. f x ≡ None) own n (giftless z) refl) in
        ap (first_shown f) parted ∙ ap (λ o. or_else o (first_shown f (G ++ (had ++ R)))) e ∙ shown_both f G (had ++ R) ∙ ap (or_else (first_shown f G)) (shown_both f had R ∙ ap (λ o. or_else o (first_shown f R)) none)

    -- the same where the thread itself shows something
    pub first_with : {A : Type 0} (f : Thing → Option A) → Own (λ x. f x ≡ None) → first_shown f all_of ≡ or_else (f (stands n false z)) (or_else (first_shown f G) (first_shown f R))
    first_with f own =
        let none : first_shown f had ≡ None = none_shown f had (own_all (λ x. f x ≡ None) own n (giftless z) refl) in
        ap (first_shown f) parted ∙ ap (or_else (f (stands n false z))) (shown_both f G (had ++ R) ∙ ap (or_else (first_shown f G)) (shown_both f had R ∙ ap (λ o. or_else o (first_shown f R)) none))

    pub tot_of : (f : Thing → ℕ) → Own (λ x. f x ≡ 0) → tot f all_of ≡ f (stands n false z) + (tot f G + tot f R)
    tot_of f own =
        let none : tot f had ≡ 0 = none_counted f had (own_all (λ x. f x ≡ 0) own n (giftless z) refl) in
        omega (arith, none, ap (tot f) parted, tot-append f G (had ++ R), tot-append f had R)

    -- its shares of a mutex
    pub shares_of : (s : Sight) (m : MutexNo) → tot (share_in s m) all_of ≡ tot (share_in s m) G + (owned_in (mutex_n m) z.slots + owned_in (mutex_n m) z.temps) + tot (share_in s m) R
    shares_of s m =
        let q = mutex_n m in
        let own : Own (λ x. share_in s m x ≡ one (names q x)) = record {
          slots = λ t i v. so_one (owns q v);
          temps = λ t i v. so_one (owns q v);
          shared = λ p r. refl;
          lent = λ p r. refl;
          marks = λ p r. refl;
          used = λ a w. refl;
        } in
        let told : tot (share_in s m) had ≡ tot (λ x. one (names q x)) had = same_counted (share_in s m) (λ x. one (names q x)) had (own_all (λ x. share_in s m x ≡ one (names q x)) own n (giftless z) refl) in
        omega (arith, told, own_named q n (giftless z) refl, ap (tot (share_in s m)) parted, tot-append (share_in s m) G (had ++ R), tot-append (share_in s m) had R)

    module _ (beside : AllByRecursion IsBeside G) where
      pub threads_of : threads_in all_of ≡ me ∷ threads_in R
      threads_of =
          ap threads_in parted ∙ ap (λ l. me ∷ l) (no_threads G (had ++ R) (all_so IsBeside (λ x. (l : List Thing) → threads_in (x ∷ l) ≡ threads_in l) beside_threads G beside)
          ∙ no_threads had R (own_all (λ x. (l : List Thing) → threads_in (x ∷ l) ≡ threads_in l) (record { slots = λ t i v l. refl; temps = λ t i v l. refl; shared = λ p r l. refl; lent = λ p r l. refl; marks = λ p m l. refl; used = λ s w l. refl }) n (giftless z) refl))

      pub seen : (u : ℕ) → thread_at (threads_in all_of) u ≡ (if z.number == u then Some me else thread_at (threads_in R) u)
      seen u = ap (λ l. thread_at l u) threads_of

      pub itself : thread_at (threads_in all_of) z.number ≡ Some me
      itself = seen z.number ∙ eq_cases (λ b. (if b then Some me else thread_at (threads_in R) z.number) ≡ Some me) z.number z.number (λ _. refl) (λ ne. absurd (ne refl))

      pub besides : (u : ℕ) → z.number ≢ u → thread_at (threads_in all_of) u ≡ thread_at (threads_in R) u
      besides u ne = seen u ∙ eq_cases (λ b. (if b then Some me else thread_at (threads_in R) u) ≡ thread_at (threads_in R) u) z.number u (λ e. absurd (ne e)) (λ _. refl)

    pub cells_of : AllByRecursion IsLoose G → cells_in all_of ≡ cells_in R
    cells_of loose =
        ap cells_in parted ∙ no_cells G (had ++ R) (all_so IsLoose (λ x. (l : List Thing) → cells_in (x ∷ l) ≡ cells_in l) loose_cells G loose)
        ∙ no_cells had R (own_all (λ x. (l : List Thing) → cells_in (x ∷ l) ≡ cells_in l) (record { slots = λ t i v l. refl; temps = λ t i v l. refl; shared = λ p r l. refl; lent = λ p r l. refl; marks = λ p m l. refl; used = λ s w l. refl }) n (giftless z) refl)
