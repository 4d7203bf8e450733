-- What counts of a server each small change raises, and how far: next and retired addresses, users of a copy, shares of a mutex.
use Rattle.std.proofs.Common.{◌≡◌, ◌≤◌, ℕ, suc, ◌+◌, ◌-◌, ◌^◌, ◌==◌, ◌&&◌, Bool, true, false, nat_lt, if◌then◌else◌, List, [], ◌∷◌, ◌++◌, length, Option, Some, None, subst, arith, length-append}
use Rattle.std.specs.Prelude.{slice_set}
use Rattle.std.specs.List.{AllByRecursion}
use Rattle.law_counts_things.specs.Below.fr_base.declared.name.MutexNo.{MutexNo}
use Rattle.law_counts_things.specs.Below.global_addr.Words.{colour_of, address_of}
use Rattle.law_counts_things.specs.Below.heap_partition.declared.value.Cell.{Cell}
use Rattle.law_counts_things.specs.Below.heap_partition.declared.value.Owned.{Owned}
use Rattle.law_counts_things.specs.Below.owner_box.View.{PartitionState}
use Rattle.law_counts_things.specs.Below.owner_box.Partition.{cell_of, with_value, stored, next_place, put_cell, made, freed, made_again, renewed}
use Rattle.law_counts_things.specs.Below.read_cache.Cache.{Copy, copy_of, users_in, users, with_users, fill, pin, can_unpin, unpin, without_copy, can_evict, evict}
use Rattle.law_counts_things.specs.Below.migration.Packing.{unpin_all}
use Rattle.law_counts_things.specs.Below.mutex_home.Mutexes.{Mutex, Mutexes, mutex_in, put_mutex, end_mutex, make, asked_of, asked_in, ask, back_to, back_out, back_in, give_back, more_in, more, last_less, less_of, less_in, less}
use Rattle.law_counts_things.specs.Below.mutex_home.declared.answers.Asked.{Asked}
use Rattle.law_counts_things.specs.Below.mutex_home.declared.answers.Back.{Back}
use Rattle.law_counts_things.specs.Below.mutex_home.declared.answers.Back.TheVariants.{Kept, Ended}
use Rattle.law_counts_things.specs.Below.server_msgs.declared.message.Message.{Message}
use Rattle.law_counts_things.specs.Below.server_model.Servers.{Rest}
use Rattle.law_counts_things.specs.Below.server_model.Work.{sent_from}
use Rattle.law_counts_things.specs.Below.law_counts_sums.Laws.{Gives}
use Rattle.law_counts_things.proofs.Below.law_counts_sums.Results.{test_gives}
use Rattle.law_counts_things.proofs.Below.law_counts_sums.Known.{all_append}
use Rattle.law_counts_things.proofs.Below.law_counts_sums.Objects.{length_set}
use Rattle.law_counts_things.proofs.things.MutexLists.{found, put_all, ends_all, given}
use Rattle.law_counts_things.proofs.names.Fit.{all_map}

-- a copy has at most so many users, a mutex at most so many shares
abbrev pub FewUsers : ℕ → Copy → Type 0
FewUsers n c = c.users ≤ n

abbrev pub FewShares : ℕ → Mutex → Type 0
FewShares n m = m.shares ≤ n

-- at most so many addresses, users of each copy and shares of each mutex
pub record Counted (addresses most_users most_shares next old : ℕ) (cs : List Copy) (ms : List Mutex) : Type 0 where
  pub next_few : next ≤ addresses
  pub old_few : old ≤ addresses
  pub users_few : AllByRecursion (FewUsers most_users) cs
  pub shares_few : AllByRecursion (FewShares most_shares) ms

abbrev pub Few : ℕ → ℕ → ℕ → Rest → Type 0
Few a u m r = Counted a u m (length r.partition.cells) r.partition.retired r.cache r.mutexes.there

-- where more may be
pub fewer : (a u m b v n : ℕ) {next old : ℕ} {cs : List Copy} {ms : List Mutex} → a ≤ b → u ≤ v → m ≤ n → Counted a u m next old cs ms → Counted b v n next old cs ms
fewer a u m b v n {next} {old} {cs} {ms} p q s g = record {
  next_few = omega (arith, p, g.next_few);
  old_few = omega (arith, p, g.old_few);
  users_few = all_map (FewUsers u) (FewUsers v) (λ c l. omega (arith, l, q)) cs g.users_few;
  shares_few = all_map (FewShares m) (FewShares n) (λ x l. omega (arith, l, s)) ms g.shares_few;
}

-- PARTITIONS

-- after a cell is put there is at most one address more
put_few : (cells : List (Option Cell)) (a : ℕ) (c : Cell) → length (put_cell cells a c) ≤ suc (length cells)
put_few cells a c = by (a == length cells)
  where
    by : (b : Bool) → length (if b then cells ++ Some c ∷ [] else slice_set cells a (Some c)) ≤ suc (length cells)
    by true = omega (arith, length-append cells (Some c ∷ []))
    by false = omega (arith, length_set cells a (Some c))

-- one object more takes one address at most
made_few : (p : PartitionState) (c : Cell) → length ((made p c).cells) ≤ suc (length p.cells)
made_few p c = put_few p.cells (next_place p).0 c

-- an address that is freed is one retired more at most
freed_few : (p : PartitionState) (w : ℕ) → (freed p w).retired ≤ suc p.retired
freed_few p w = by (nat_lt (colour_of w + 1) p.limit)
  where
    by : (b : Bool) → (if b then p.retired else p.retired + 1) ≤ suc p.retired
    by true = omega arith
    by false = omega arith

-- a renewal takes one address at most, and retires one at most
record Renewed (p q : PartitionState) : Type 0 where
  cells_few : length q.cells ≤ suc (length p.cells)
  old_few : q.retired ≤ suc p.retired

renewed_few : (p : PartitionState) (w : ℕ) → Renewed p (renewed p w)
renewed_few p w = by (cell_of p w)
  where
    lengths : length ((freed p w).cells) ≡ length p.cells
    lengths = length_set p.cells (address_of w) None

    by : (c : Option Cell) → Renewed p (made_again (freed p w) c)
    by None = record { cells_few = omega (arith, lengths); old_few = freed_few p w }
    by (Some c) = record { cells_few = omega (arith, lengths, made_few (freed p w) c); old_few = freed_few p w }

-- COPIES

-- users of a word are no more than those of some copy
users_least : (n : ℕ) (cs : List Copy) (w : ℕ) → AllByRecursion (FewUsers n) cs → users cs w ≤ n
users_least n [] w a = omega arith
users_least n (c ∷ cs) w a = by (c.word == w) (users_least n cs w a.1)
  where
    by : (b : Bool) → users cs w ≤ n → users_in (if b then Some c else copy_of cs w) ≤ n
    by true l = a.0
    by false l = l

-- a copy that gets so many users, where these are few
set_users : (n : ℕ) (cs : List Copy) (w m : ℕ) → m ≤ n → AllByRecursion (FewUsers n) cs → AllByRecursion (FewUsers n) (with_users cs w m)
set_users n [] w m l a = tt
set_users n (c ∷ cs) w m l a = by (c.word == w) (set_users n cs w m l a.1)
  where
    by : (b : Bool) → AllByRecursion (FewUsers n) (with_users cs w m) → AllByRecursion (FewUsers n) (if b then record c { users = m } ∷ cs else c ∷ with_users cs w m)
    by true g = (l, a.1)
    by false g = (a.0, g)

-- so many are at most one more
more_users : (n : ℕ) (cs : List Copy) → AllByRecursion (FewUsers n) cs → AllByRecursion (FewUsers (suc n)) cs
more_users n cs a = all_map (FewUsers n) (FewUsers (suc n)) (λ c l. omega (arith, l)) cs a

-- a use more raises one copy by one
pinned_few : (n : ℕ) (cs : List Copy) (w : ℕ) → AllByRecursion (FewUsers n) cs → AllByRecursion (FewUsers (suc n)) (pin cs w)
pinned_few n cs w a = let l = users_least n cs w a in set_users (suc n) cs w (users cs w + 1) (omega (arith, l)) (more_users n cs a)

-- a use less raises none
unpinned_few : (n : ℕ) (cs : List Copy) (w : ℕ) → AllByRecursion (FewUsers n) cs → AllByRecursion (FewUsers n) (unpin cs w)
unpinned_few n cs w a = let l = users_least n cs w a in set_users n cs w (users cs w - 1) (omega (arith, l)) a

-- nor do several
all_unpinned_few : (n : ℕ) (ws : List ℕ) (cs ds : List Copy) → unpin_all ws cs ≡ Some ds → AllByRecursion (FewUsers n) cs → AllByRecursion (FewUsers n) ds
all_unpinned_few n [] cs ds e a = let same : cs ≡ ds = cc in subst (AllByRecursion (FewUsers n)) same a
all_unpinned_few n (v ∷ ws) cs ds e a = by (can_unpin cs v) (λ d. all_unpinned_few n ws (unpin cs v) ds d (unpinned_few n cs v a)) e
  where
    by : (b : Bool) → (unpin_all ws (unpin cs v) ≡ Some ds → AllByRecursion (FewUsers n) ds) → (if b then unpin_all ws (unpin cs v) else None) ≡ Some ds → AllByRecursion (FewUsers n) ds
    by true go d = go d
    by false go d = absurd (cc d)

-- a new copy has no user
filled_few : (n : ℕ) (cs : List Copy) (w : ℕ) (c : Cell) → AllByRecursion (FewUsers n) cs → AllByRecursion (FewUsers n) (fill cs w c)
filled_few n [] w c a = (omega arith, tt)
filled_few n (x ∷ cs) w c a = by (x.word == w) (filled_few n cs w c a.1)
  where
    by : (b : Bool) → AllByRecursion (FewUsers n) (fill cs w c) → AllByRecursion (FewUsers n) (if b then x ∷ cs else x ∷ fill cs w c)
    by true g = a
    by false g = (a.0, g)

-- a copy less
without_few : (n : ℕ) (cs : List Copy) (w : ℕ) → AllByRecursion (FewUsers n) cs → AllByRecursion (FewUsers n) (without_copy cs w)
without_few n [] w a = tt
without_few n (x ∷ cs) w a = by (x.word == w) (without_few n cs w a.1)
  where
    by : (b : Bool) → AllByRecursion (FewUsers n) (without_copy cs w) → AllByRecursion (FewUsers n) (if b then cs else x ∷ without_copy cs w)
    by true g = a.1
    by false g = (a.0, g)

-- an eviction takes one out, or none
evicted_few : (n : ℕ) (cs : List Copy) (w : ℕ) → AllByRecursion (FewUsers n) cs → AllByRecursion (FewUsers n) (evict cs w)
evicted_few n cs w a = by (can_evict cs w)
  where
    by : (b : Bool) → AllByRecursion (FewUsers n) (if b then without_copy cs w else cs)
    by true = without_few n cs w a
    by false = a

-- MUTEXES

module _ (n : ℕ) where
  abbrev AllFew : Mutexes → Type 0
  AllFew ms = AllByRecursion (FewShares n) ms.there

  abbrev Left : {X : Type 0} → Mutexes × X → Type 0
  Left p = AllFew p.0

  -- a lock, an unlock and a share less leave no more shares
  asks : (ms : Mutexes) (m : MutexNo) (s t : ℕ) → AllFew ms → Gives Left (ask ms m s t)
  asks ms m s t a = by (mutex_in ms.there m) (found (FewShares n) ms.there m a)
    where
      of : (x : Mutex) (c : Option Owned) → FewShares n x → Left (asked_of ms s t c x)
      of x None l = put_all (FewShares n) ms.there (record x { queue = x.queue ++ (s, t) ∷ [] }) a l
      of x (Some v) l = put_all (FewShares n) ms.there (record x { content = None }) a l

      by : (o : Option Mutex) → Gives (FewShares n) o → Gives Left (asked_in ms s t o)
      by None l = tt
      by (Some x) l = of x x.content l

  backs : (ms : Mutexes) (m : MutexNo) (v : Owned) → AllFew ms → Gives Left (give_back ms m v)
  backs ms m v a = by (mutex_in ms.there m) (found (FewShares n) ms.there m a)
    where
      alone : (x : Mutex) (b : Bool) → FewShares n x → Left (if b then (end_mutex ms x.number, Ended v) else (put_mutex ms (record x { content = Some v }), Kept))
      alone x true l = ends_all (FewShares n) ms.there x.number a
      alone x false l = put_all (FewShares n) ms.there (record x { content = Some v }) a l

      queue : (x : Mutex) (l : List (ℕ × ℕ)) → FewShares n x → Left (back_to ms v x l)
      queue x [] l = alone x (x.shares == 0) l
      queue x (first ∷ rest) l = put_all (FewShares n) ms.there (record x { queue = rest }) a l

      content : (x : Mutex) (c : Option Owned) → FewShares n x → Gives Left (back_out ms v x c)
      content x None l = queue x x.queue l
      content x (Some u) l = tt

      by : (o : Option Mutex) → Gives (FewShares n) o → Gives Left (back_in ms v o)
      by None l = tt
      by (Some x) l = content x x.content l

  lesses : (ms : Mutexes) (m : MutexNo) → AllFew ms → Gives Left (less ms m)
  lesses ms m a = by (mutex_in ms.there m) (found (FewShares n) ms.there m a)
    where
      last : (x : Mutex) (c : Option Owned) → FewShares n x → Left (last_less ms x c)
      last x None l = put_all (FewShares n) ms.there (record x { shares = 0 }) a (omega arith)
      last x (Some v) l = ends_all (FewShares n) ms.there x.number a

      one : (x : Mutex) (b : Bool) → FewShares n x → Left (if b then last_less ms x x.content else (put_mutex ms (record x { shares = x.shares - 1 }), None))
      one x true l = last x x.content l
      one x false l = put_all (FewShares n) ms.there (record x { shares = x.shares - 1 }) a (omega (arith, l))

      by : (o : Option Mutex) → Gives (FewShares n) o → Gives Left (less_in ms o)
      by None l = tt
      by (Some x) l = test_gives Left (nat_lt 0 x.shares) (Some (less_of ms x)) (λ z. one x (x.shares == 1) l)

-- so many are at most one more
more_shares : (n : ℕ) (ms : List Mutex) → AllByRecursion (FewShares n) ms → AllByRecursion (FewShares (suc n)) ms
more_shares n ms a = all_map (FewShares n) (FewShares (suc n)) (λ c l. omega (arith, l)) ms a

-- a share more is one more of one mutex
mores : (n : ℕ) (ms : Mutexes) (m : MutexNo) → AllFew n ms → Gives (AllFew (suc n)) (more ms m)
mores n ms m a = by (mutex_in ms.there m) (found (FewShares n) ms.there m a)
  where
    by : (o : Option Mutex) → Gives (FewShares n) o → Gives (AllFew (suc n)) (more_in ms o)
    by None l = tt
    by (Some x) l =
        test_gives (AllFew (suc n)) (nat_lt 0 x.shares && nat_lt x.shares (2 ^ 64 - 1)) _ (λ z. put_all (FewShares (suc n)) ms.there (record x { shares = x.shares + 1 }) (more_shares n ms.there a) (omega (arith, l)))

-- CHANGES OF A SERVER

module _ (a u m : ℕ) where
  -- a message changes no count
  pub sends : (r : Rest) (t : ℕ) (x : Message) → Few a u m r → Few a u m (sent_from r t x)
  sends r t x g = by (t == r.number)
    where
      by : (b : Bool) → Few a u m (if b then record r { inbox = r.inbox ++ x ∷ [] } else record r { outbox = r.outbox ++ record { target = t; message = x } ∷ [] })
      by true = g
      by false = g

  module _ {cs : List Copy} {ms : List Mutex} (p : PartitionState) where
    pub stores : (w : ℕ) (v : Owned) → Counted a u m (length (p.cells)) (p.retired) cs ms → Counted a u m (length ((stored p w v).cells)) ((stored p w v).retired) cs ms
    stores w v g = record { next_few = omega (arith, g.next_few, length_set p.cells (address_of w) (with_value v (cell_of p w))); old_few = g.old_few; users_few = g.users_few; shares_few = g.shares_few }

    pub makes : (c : Cell) → Counted a u m (length (p.cells)) (p.retired) cs ms → Counted (suc a) u m (length ((made p c).cells)) ((made p c).retired) cs ms
    makes c g = record { next_few = omega (arith, g.next_few, made_few p c); old_few = omega (arith, g.old_few); users_few = g.users_few; shares_few = g.shares_few }

    pub frees : (w : ℕ) → Counted a u m (length (p.cells)) (p.retired) cs ms → Counted (suc a) u m (length ((freed p w).cells)) ((freed p w).retired) cs ms
    frees w g = record { next_few = omega (arith, g.next_few, length_set p.cells (address_of w) None); old_few = omega (arith, g.old_few, freed_few p w); users_few = g.users_few; shares_few = g.shares_few }

    pub renews : (w : ℕ) → Counted a u m (length (p.cells)) (p.retired) cs ms → Counted (suc a) u m (length ((renewed p w).cells)) ((renewed p w).retired) cs ms
    renews w g = let n = renewed_few p w in record { next_few = omega (arith, g.next_few, n.cells_few); old_few = omega (arith, g.old_few, n.old_few); users_few = g.users_few; shares_few = g.shares_few }

  module _ {next old : ℕ} {ms : List Mutex} (cs : List Copy) where
    changed : (v : ℕ) (ds : List Copy) → AllByRecursion (FewUsers v) ds → Counted a u m next old cs ms → Counted a v m next old ds ms
    changed v ds l g = record { next_few = g.next_few; old_few = g.old_few; users_few = l; shares_few = g.shares_few }

    pub pins : (w : ℕ) → Counted a u m next old cs ms → Counted a (suc u) m next old (pin cs w) ms
    pins w g = changed (suc u) (pin cs w) (pinned_few u cs w g.users_few) g

    pub unpins : (w : ℕ) → Counted a u m next old cs ms → Counted a u m next old (unpin cs w) ms
    unpins w g = changed u (unpin cs w) (unpinned_few u cs w g.users_few) g

    pub unpins_all : (ws : List ℕ) (ds : List Copy) → unpin_all ws cs ≡ Some ds → Counted a u m next old cs ms → Counted a u m next old ds ms
    unpins_all ws ds e g = changed u ds (all_unpinned_few u ws cs ds e g.users_few) g

    pub fills : (w : ℕ) (c : Cell) → Counted a u m next old cs ms → Counted a u m next old (fill cs w c) ms
    fills w c g = changed u (fill cs w c) (filled_few u cs w c g.users_few) g

    pub evicts : (w : ℕ) → Counted a u m next old cs ms → Counted a u m next old (evict cs w) ms
    evicts w g = changed u (evict cs w) (evicted_few u cs w g.users_few) g

  module _ {next old : ℕ} {cs : List Copy} (ms : Mutexes) where
    having : (n : ℕ) (ns : Mutexes) → AllFew n ns → Counted a u m next old cs (ms.there) → Counted a u n next old cs (ns.there)
    having n ns l g = record { next_few = g.next_few; old_few = g.old_few; users_few = g.users_few; shares_few = l }

    pub mutex : (v : Owned) → Counted a u m next old cs (ms.there) → Counted a u (suc m) next old cs ((make ms v).there)
    mutex v g = having (suc m) (make ms v) (all_append (FewShares (suc m)) ms.there _ (more_shares m ms.there g.shares_few) (omega arith, tt)) g

    pub asked : (x : MutexNo) (s t : ℕ) (p : Mutexes × Asked) → ask ms x s t ≡ Some p → Counted a u m next old cs (ms.there) → Counted a u m next old cs (p.0.there)
    asked x s t p e g = having m p.0 (given (Left m) (ask ms x s t) p (asks m ms x s t g.shares_few) e) g

    pub gave : (x : MutexNo) (v : Owned) (p : Mutexes × Back) → give_back ms x v ≡ Some p → Counted a u m next old cs (ms.there) → Counted a u m next old cs (p.0.there)
    gave x v p e g = having m p.0 (given (Left m) (give_back ms x v) p (backs m ms x v g.shares_few) e) g

    pub shared : (x : MutexNo) (ns : Mutexes) → more ms x ≡ Some ns → Counted a u m next old cs (ms.there) → Counted a u (suc m) next old cs (ns.there)
    shared x ns e g = having (suc m) ns (given (AllFew (suc m)) (more ms x) ns (mores m ms x g.shares_few) e) g

    pub less_shared : (x : MutexNo) (p : Mutexes × Option Owned) → less ms x ≡ Some p → Counted a u m next old cs (ms.there) → Counted a u m next old cs (p.0.there)
    less_shared x p e g = having m p.0 (given (Left m) (less ms x) p (lesses m ms x g.shares_few) e) g
