-- What the entries and the waiting threads of a home's store stand for, once one of them is found or changed.
use Rattle.std.proofs.Common.{◌≡◌, ◌≢◌, ℕ, zero, suc, ◌+◌, ◌-◌, ◌<◌, ◌≤◌, Bool, true, false, true≢false, ◌==◌, cond, List, [], ◌∷◌, ◌++◌, length, slice_get, slice_index_or, slice_set, Option, None, Some, IsSome, refl, sym, ap, ap₂, ◌∙◌, arith}
use Rattle.std.proofs.lemmas.Bool.{eq-eqb, eqb-true}
use Rattle.std.proofs.lemmas.List.{get_or-set_other}
use Rattle.std.proofs.lemmas.Option.{slice_get_within}
use Rattle.fr_base.specs.declared.name.MutexNo.{MutexNo}
use Rattle.heap_partition.specs.declared.value.Owned.{Owned}
use Rattle.slab.specs.Slab.{Slab, get}
use Rattle.mutex_home.specs.declared.parts.Entry.{Entry}
use Rattle.mutex_home.specs.declared.parts.Store.{Store}
use Rattle.mutex_home.specs.Mutexes.{Mutex, mutex_in, with_mutex, without_mutex}
use Rattle.mutex_home.specs.Queues.{queue_at, with_last, first_taken, taken_from}
use Rattle.mutex_home.specs.Stores.{queue_of, mutex_of, mutex_at, mutexes_by, mutexes_in, queued, queued_at, first_out, first_at, first_from}
use Rattle.mutex_home.proofs.MutexLemmas.{differ, Named, found_at, found, none_below, none_elsewhere, put, gone, made_last}

-- another queue of one mutex leaves those of the others as they were
pub queue_other : (lists : List (List (ℕ × ℕ))) (i c : ℕ) (who : List (ℕ × ℕ)) → c ≢ suc i → queue_of (slice_set lists i who) c ≡ queue_of lists c
queue_other lists i zero who d = refl
queue_other lists i (suc c) who d = get_or-set_other lists i c who [] (λ e. d (ap suc e))

pub queue_same : (lists : List (List (ℕ × ℕ))) (i : ℕ) (who : List (ℕ × ℕ)) → i < length lists → queue_of (slice_set lists i who) (suc i) ≡ who
queue_same [] i who l = absurd (omega (arith, l))
queue_same (x ∷ lists) zero who l = refl
queue_same (x ∷ lists) (suc i) who l = queue_same lists i who (omega (arith, l))

-- nobody waits for a mutex that wasn't made yet
made_none : (lists : List (List (ℕ × ℕ))) (i : ℕ) → slice_index_or (lists ++ [] ∷ []) i [] ≡ slice_index_or lists i []
made_none [] zero = refl
made_none [] (suc i) = refl
made_none (x ∷ lists) zero = refl
made_none (x ∷ lists) (suc i) = made_none lists i

pub queue_made : (lists : List (List (ℕ × ℕ))) (c : ℕ) → queue_of (lists ++ [] ∷ []) c ≡ queue_of lists c
queue_made lists zero = refl
queue_made lists (suc i) = made_none lists i

pub queue_new : (lists : List (List (ℕ × ℕ))) → queue_of lists (suc (length lists)) ≡ []
queue_new [] = refl
queue_new (x ∷ lists) = queue_new lists

-- a mutex that is there: its key, and what that leads to
pub record Placed (s : Store) (m : MutexNo) : Type 0 where
  pub key : ℕ
  pub entry : Entry
  pub home : s.home ≡ m.home
  pub place : m.count ≡ 1 + (m.count - 1)
  pub key_is : slice_get s.keys.items (m.count - 1) ≡ Some key
  pub entry_is : get s.entries key ≡ Some entry
  pub count_is : entry.count ≡ m.count
  pub mutex_is : mutex_in (mutexes_in s) m ≡ Some (mutex_of m s.waits.lists entry)

abbrev pub at_of : ℕ → List (List (ℕ × ℕ)) → Slab Entry → ℕ → ℕ → Option Mutex
at_of home ws entries count key = mutex_at home ws count (get entries key)

pub named_at : (home : ℕ) (ws : List (List (ℕ × ℕ))) (entries : Slab Entry) → Named home (at_of home ws entries)
named_at home ws entries count key x h = by (get entries key) h
  where
    test : (e : Entry) (q : Bool) → cond q (Some (mutex_of (record { home = home; count = count }) ws e)) None ≡ Some x → x.number ≡ record { home = home; count = count }
    test e true g = cc
    test e false g = absurd cc

    by : (o : Option Entry) → mutex_at home ws count o ≡ Some x → x.number ≡ record { home = home; count = count }
    by None g = absurd cc
    by (Some e) g = test e (e.count == count) g

nothing : (o : Option Mutex) → o ≡ None → IsSome o → (m : MutexNo) (s : Store) → Placed s m
nothing None e h m s = absurd (true≢false (sym h))
nothing (Some x) e h m s = absurd cc

not_zero : (n : ℕ) → (n == 0) ≡ false → n ≡ 1 + (n - 1)
not_zero zero h = absurd (true≢false h)
not_zero (suc n) h = omega arith

pub placed : (s : Store) (m : MutexNo) → IsSome (mutex_in (mutexes_in s) m) → Placed s m
placed s m h = home_by (s.home == m.home) refl
  where
    named : Named s.home (at_of s.home s.waits.lists s.entries)
    named = named_at s.home s.waits.lists s.entries

    entry_by : s.home ≡ m.home → m.count ≡ 1 + (m.count - 1) → (key : ℕ) → slice_get s.keys.items (m.count - 1) ≡ Some key
        → (e : Entry) → get s.entries key ≡ Some e → (q : Bool) → (e.count == m.count) ≡ q
        → mutex_in (mutexes_in s) m ≡ cond q (Some (mutex_of m s.waits.lists e)) None → Placed s m
    entry_by i d key k e g true p f = record { key = key; entry = e; home = i; place = d; key_is = k; entry_is = g; count_is = eqb-true e.count m.count p; mutex_is = f }
    entry_by i d key k e g false p f = nothing (mutex_in (mutexes_in s) m) f h m s

    slot_by : s.home ≡ m.home → m.count ≡ 1 + (m.count - 1) → (key : ℕ) → slice_get s.keys.items (m.count - 1) ≡ Some key
        → (o : Option Entry) → get s.entries key ≡ o → mutex_in (mutexes_in s) m ≡ mutex_at m.home s.waits.lists m.count o → Placed s m
    slot_by i d key k None g f = nothing (mutex_in (mutexes_in s) m) f h m s
    slot_by i d key k (Some e) g f = entry_by i d key k e g (e.count == m.count) refl f

    key_by : s.home ≡ m.home → m.count ≡ 1 + (m.count - 1) → (o : Option ℕ) → slice_get s.keys.items (m.count - 1) ≡ o
        → mutex_in (mutexes_in s) m ≡ found_at (at_of m.home s.waits.lists s.entries) m.count o → Placed s m
    key_by i d None k f = nothing (mutex_in (mutexes_in s) m) f h m s
    key_by i d (Some key) k f = slot_by i d key k (get s.entries key) refl f

    here : s.home ≡ m.home → m.count ≡ 1 + (m.count - 1) → mutex_in (mutexes_in s) m ≡ found_at (at_of m.home s.waits.lists s.entries) m.count (slice_get s.keys.items (m.count - 1))
    here i d =
        let whole : m ≡ record { home = s.home; count = 1 + (m.count - 1) } = ap₂ (λ a b. record { home = a; count = b }) (sym i) d in
        ap (mutex_in (mutexes_in s)) whole
        ∙ found s.home (at_of s.home s.waits.lists s.entries) named s.keys.items 1 (m.count - 1)
        ∙ ap₂ (λ a b. found_at (at_of a s.waits.lists s.entries) b (slice_get s.keys.items (m.count - 1))) i (sym d)

    count_by : s.home ≡ m.home → (b : Bool) → (m.count == 0) ≡ b → Placed s m
    count_by i true p = let z = eqb-true m.count 0 p in nothing (mutex_in (mutexes_in s) m) (none_below s.home (at_of s.home s.waits.lists s.entries) named s.keys.items 1 m (omega (arith, z))) h m s
    count_by i false p = let d = not_zero m.count p in key_by i d (slice_get s.keys.items (m.count - 1)) refl (here i d)

    home_by : (b : Bool) → (s.home == m.home) ≡ b → Placed s m
    home_by true p = count_by (eqb-true s.home m.home p) (m.count == 0) refl
    home_by false p = nothing (mutex_in (mutexes_in s) m) (none_elsewhere s.home (at_of s.home s.waits.lists s.entries) named s.keys.items 1 m p) h m s

-- an entry stands for nothing under another count
silent : (home : ℕ) (ws : List (List (ℕ × ℕ))) (count : ℕ) (e : Entry) → e.count ≢ count → mutex_at home ws count (Some e) ≡ None
silent home ws count e d = rw (differ e.count count d) refl

shown : (home : ℕ) (ws : List (List (ℕ × ℕ))) (count : ℕ) (e : Entry) → e.count ≡ count → mutex_at home ws count (Some e) ≡ Some (mutex_of (record { home = home; count = count }) ws e)
shown home ws count e d = rw (eq-eqb e.count count d) refl

same_queue : (home : ℕ) (ws vs : List (List (ℕ × ℕ))) (count : ℕ) (o : Option Entry) → queue_of ws count ≡ queue_of vs count → mutex_at home ws count o ≡ mutex_at home vs count o
same_queue home ws vs count None q = refl
same_queue home ws vs count (Some e) q = by (e.count == count)
  where
    by : (b : Bool) → cond b (Some (mutex_of (record { home = home; count = count }) ws e)) None ≡ cond b (Some (mutex_of (record { home = home; count = count }) vs e)) None
    by true = ap (λ qs. Some (record { number = record { home = home; count = count }; content = e.content; shares = e.shares; queue = qs })) q
    by false = refl

-- the slab has this at the key, and else what it had
abbrev pub Elsewhere : Slab Entry → Slab Entry → ℕ → Type 0
Elsewhere s t key = (other : ℕ) → other ≢ key → get t other ≡ get s other

-- what another count's key leads to stands for the same, whatever happened to one count
stays : (home : ℕ) (ws vs : List (List (ℕ × ℕ))) (s t : Slab Entry) (c key : ℕ) → ((count : ℕ) → count ≢ c → mutex_at home vs count (get s key) ≡ None) → ((count : ℕ) → count ≢ c → mutex_at home ws count (get t key) ≡ None)
    → Elsewhere s t key → ((count : ℕ) → count ≢ c → queue_of ws count ≡ queue_of vs count) → (count other : ℕ) → count ≢ c → at_of home ws t count other ≡ at_of home vs s count other
stays home ws vs s t c key was is others queues count other d = by (other == key) refl
  where
    by : (b : Bool) → (other == key) ≡ b → at_of home ws t count other ≡ at_of home vs s count other
    by true p = let e = eqb-true other key p in rw e (is count d ∙ sym (was count d))
    by false p = ap (mutex_at home ws count) (others other (λ e. true≢false (sym (eq-eqb other key e) ∙ p))) ∙ same_queue home ws vs count (get s other) (queues count d)

number_is : (s : Store) (m : MutexNo) → s.home ≡ m.home → record { home = s.home; count = m.count } ≡ m
number_is s m h = ap (λ a. record { home = a; count = m.count }) h

-- another content, other shares or another queue of one mutex
pub changed : (s : Store) (m : MutexNo) (p : Placed s m) (ws : List (List (ℕ × ℕ))) (t : Slab Entry) (e : Entry) → e.count ≡ m.count → get t p.key ≡ Some e → Elsewhere s.entries t p.key
    → ((count : ℕ) → count ≢ m.count → queue_of ws count ≡ queue_of s.waits.lists count)
    → mutexes_by (at_of s.home ws t) 1 s.keys.items ≡ with_mutex (mutexes_in s) (mutex_of m ws e)
changed s m p ws t e n g others queues =
    put s.home (at_of s.home s.waits.lists s.entries) (named_at s.home s.waits.lists s.entries) (at_of s.home ws t) m.count
    (stays s.home ws s.waits.lists s.entries t m.count p.key was is others queues)
    s.keys.items 1 (m.count - 1) p.key (mutex_of (record { home = s.home; count = m.count }) s.waits.lists p.entry) (mutex_of m ws e) p.place p.key_is
    (ap (mutex_at s.home s.waits.lists m.count) p.entry_is ∙ shown s.home s.waits.lists m.count p.entry p.count_is)
    (ap (mutex_at s.home ws m.count) g ∙ shown s.home ws m.count e n ∙ ap (λ i. Some (mutex_of i ws e)) (number_is s m p.home))
    (sym (number_is s m p.home))
  where
    was : (count : ℕ) → count ≢ m.count → mutex_at s.home s.waits.lists count (get s.entries p.key) ≡ None
    was count d = ap (mutex_at s.home s.waits.lists count) p.entry_is ∙ silent s.home s.waits.lists count p.entry (λ i. d (sym i ∙ p.count_is))

    is : (count : ℕ) → count ≢ m.count → mutex_at s.home ws count (get t p.key) ≡ None
    is count d = ap (mutex_at s.home ws count) g ∙ silent s.home ws count e (λ i. d (sym i ∙ n))

pub ended : (s : Store) (m : MutexNo) (p : Placed s m) (t : Slab Entry) → get t p.key ≡ None → Elsewhere s.entries t p.key
    → mutexes_by (at_of s.home s.waits.lists t) 1 s.keys.items ≡ without_mutex (mutexes_in s) m
ended s m p t g others =
    gone s.home (at_of s.home s.waits.lists s.entries) (named_at s.home s.waits.lists s.entries) (at_of s.home s.waits.lists t) m.count
    (stays s.home s.waits.lists s.waits.lists s.entries t m.count p.key was is others (λ count d. refl))
    s.keys.items 1 (m.count - 1) p.key (mutex_of (record { home = s.home; count = m.count }) s.waits.lists p.entry) p.place p.key_is
    (ap (mutex_at s.home s.waits.lists m.count) p.entry_is ∙ shown s.home s.waits.lists m.count p.entry p.count_is)
    (ap (mutex_at s.home s.waits.lists m.count) g)
    ∙ ap (without_mutex (mutexes_in s)) (number_is s m p.home)
  where
    was : (count : ℕ) → count ≢ m.count → mutex_at s.home s.waits.lists count (get s.entries p.key) ≡ None
    was count d = ap (mutex_at s.home s.waits.lists count) p.entry_is ∙ silent s.home s.waits.lists count p.entry (λ i. d (sym i ∙ p.count_is))

    is : (count : ℕ) → count ≢ m.count → mutex_at s.home s.waits.lists count (get t p.key) ≡ None
    is count d = ap (mutex_at s.home s.waits.lists count) g

pub added : (s : Store) (t : Slab Entry) (key count : ℕ) (content : Owned) → count ≡ length s.keys.items + 1 → length s.waits.lists ≡ length s.keys.items
    → get s.entries key ≡ None → get t key ≡ Some (record { count = count; content = Some content; shares = 1 }) → Elsewhere s.entries t key
    → mutexes_by (at_of s.home (s.waits.lists ++ [] ∷ []) t) 1 (s.keys.items ++ key ∷ [])
    ≡ mutexes_in s ++ record { number = record { home = s.home; count = count }; content = Some content; shares = 1; queue = [] } ∷ []
added s t key count content n made free g others =
    made_last s.home (at_of s.home s.waits.lists s.entries) (named_at s.home s.waits.lists s.entries) (at_of s.home lists t) count
    (stays s.home lists s.waits.lists s.entries t count key was is others (λ c d. queue_made s.waits.lists c))
    s.keys.items 1 key (record { number = record { home = s.home; count = count }; content = Some content; shares = 1; queue = [] }) (omega (arith, n))
    (ap (mutex_at s.home lists count) g ∙ shown s.home lists count new refl ∙ ap (λ qs. Some (record { number = record { home = s.home; count = count }; content = Some content; shares = 1; queue = qs })) no_queue)
  where
    lists : List (List (ℕ × ℕ))
    lists = s.waits.lists ++ [] ∷ []

    new : Entry
    new = record { count = count; content = Some content; shares = 1 }

    next : count ≡ suc (length s.waits.lists)
    next = omega (arith, n, made)

    no_queue : queue_of lists count ≡ []
    no_queue = queue_made s.waits.lists count ∙ ap (queue_of s.waits.lists) next ∙ queue_new s.waits.lists

    was : (c : ℕ) → c ≢ count → mutex_at s.home s.waits.lists c (get s.entries key) ≡ None
    was c d = ap (mutex_at s.home s.waits.lists c) free

    is : (c : ℕ) → c ≢ count → mutex_at s.home lists c (get t key) ≡ None
    is c d = ap (mutex_at s.home lists c) g ∙ silent s.home lists c (record { count = count; content = Some content; shares = 1 }) (λ i. d (sym i))

pub some_same : {a b : ℕ} {o : Option ℕ} → o ≡ Some a → o ≡ Some b → a ≡ b
some_same f g = cc

pub same_entry : {a b : Entry} {o : Option Entry} → Some a ≡ o → o ≡ Some b → a ≡ b
same_entry f g = cc

-- the same, where the key is known
abbrev pub placed_at : (s : Store) (m : MutexNo) → IsSome (mutex_in (mutexes_in s) m) → (key : ℕ) → slice_get s.keys.items (m.count - 1) ≡ Some key → Placed s m
placed_at s m h key k =
    record { key = key; entry = (placed s m h).entry; home = (placed s m h).home; place = (placed s m h).place; key_is = k; entry_is = ap (get s.entries) (some_same k (placed s m h).key_is) ∙ (placed s m h).entry_is; count_is = (placed s m h).count_is; mutex_is = (placed s m h).mutex_is }

pub made_before : (s : Store) (m : MutexNo) → Placed s m → m.count ≤ length s.keys.items
made_before s m p = let l = slice_get_within s.keys.items (m.count - 1) p.key p.key_is in let e = p.place in omega (arith, l, e)

count_is : (s : Store) (m : MutexNo) → Placed s m → m.count ≡ suc (m.count - 1)
count_is s m p = let e = p.place in omega (arith, e)

-- a mutex with another queue
pub requeued : (s : Store) (m : MutexNo) (p : Placed s m) (who : List (ℕ × ℕ)) → length s.waits.lists ≡ length s.keys.items
    → mutexes_by (at_of s.home (slice_set s.waits.lists (m.count - 1) who) s.entries) 1 s.keys.items ≡ with_mutex (mutexes_in s) (record { number = m; content = p.entry.content; shares = p.entry.shares; queue = who })
requeued s m p who made =
    changed s m p (slice_set s.waits.lists (m.count - 1) who) s.entries p.entry p.count_is p.entry_is (λ other d. refl)
    (λ count d. queue_other s.waits.lists (m.count - 1) count who (λ e. d (e ∙ sym (count_is s m p))))
    ∙ ap (λ qs. with_mutex (mutexes_in s) (record { number = m; content = p.entry.content; shares = p.entry.shares; queue = qs }))
    (ap (queue_of (slice_set s.waits.lists (m.count - 1) who)) (count_is s m p) ∙ queue_same s.waits.lists (m.count - 1) who within)
  where
    within : m.count - 1 < length s.waits.lists
    within = let l = made_before s m p in let e = p.place in omega (arith, l, e, made)

pub its_queue : (s : Store) (m : MutexNo) → Placed s m → queue_of s.waits.lists m.count ≡ queue_at s.waits.lists (m.count - 1)
its_queue s m p = ap (queue_of s.waits.lists) (count_is s m p)

pub queues : (s : Store) (m : MutexNo) → Placed s m → (server thread : ℕ) → length s.waits.lists ≡ length s.keys.items
    → mutexes_by (at_of s.home (with_last s.waits.lists (m.count - 1) (server, thread)) s.entries) 1 s.keys.items ≡ queued (mutexes_in s) m (server, thread)
queues s m p server thread made =
    requeued s m p (queue_at s.waits.lists (m.count - 1) ++ (server, thread) ∷ []) made
    ∙ ap (λ qs. with_mutex (mutexes_in s) (record { number = m; content = p.entry.content; shares = p.entry.shares; queue = qs ++ (server, thread) ∷ [] })) (sym (its_queue s m p))
    ∙ sym (ap (queued_at (mutexes_in s) (server, thread)) p.mutex_is)

pub takes : (s : Store) (m : MutexNo) → Placed s m → length s.waits.lists ≡ length s.keys.items → (new : List (List (ℕ × ℕ))) (first : Option (ℕ × ℕ)) → first_taken s.waits.lists (m.count - 1) ≡ (new, first)
    → first_out (mutexes_in s) m ≡ (mutexes_by (at_of s.home new s.entries) 1 s.keys.items, first)
takes s m p made new first g = by (queue_at s.waits.lists (m.count - 1)) refl ∙ ap left g
  where
    left : List (List (ℕ × ℕ)) × Option (ℕ × ℕ) → List Mutex × Option (ℕ × ℕ)
    left l = (mutexes_by (at_of s.home l.0 s.entries) 1 s.keys.items, l.1)

    by : (who : List (ℕ × ℕ)) → queue_at s.waits.lists (m.count - 1) ≡ who → first_out (mutexes_in s) m ≡ left (first_taken s.waits.lists (m.count - 1))
    by [] h =
        ap (first_at (mutexes_in s)) p.mutex_is
        ∙ ap (first_from (mutexes_in s) (mutex_of m s.waits.lists p.entry)) (its_queue s m p ∙ h)
        ∙ sym (ap (λ who. left (taken_from s.waits.lists (m.count - 1) who)) h)
    by (one ∷ rest) h =
        ap (first_at (mutexes_in s)) p.mutex_is
        ∙ ap (first_from (mutexes_in s) (mutex_of m s.waits.lists p.entry)) (its_queue s m p ∙ h)
        ∙ ap (λ xs. (xs, Some one)) (sym (requeued s m p rest made))
        ∙ sym (ap (λ who. left (taken_from s.waits.lists (m.count - 1) who)) h)
