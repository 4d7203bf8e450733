-- Each rule keeps the sums.
use Rattle.std.proofs.Common.{◌≡◌, ℕ, ◌+◌, ◌≤◌, ◌==◌, ◌&&◌, Bool, true, false, List, [], ◌∷◌, ◌++◌, refl, sym, ap, ◌∙◌, arith}
use Rattle.std.specs.Prelude.{nat_lt}
use Rattle.std.proofs.lemmas.Bool.Decides.{nat_tests}
use Rattle.coherent_memory.specs.Below.fr_base.declared.name.ObjNo.{ObjNo}
use Rattle.coherent_memory.specs.Below.fr_base.declared.name.MutexNo.{MutexNo}
use Rattle.coherent_memory.specs.Below.fr_base.declared.release.Released.TheVariants as released
use Rattle.coherent_memory.specs.Below.global_addr.Words.{server_of}
use Rattle.coherent_memory.specs.Below.heap_partition.declared.value.BoxPtr.{BoxPtr}
use Rattle.coherent_memory.specs.Below.heap_partition.declared.value.Owned.{Owned}
use Rattle.coherent_memory.specs.Below.heap_partition.declared.value.Owned.TheVariants as owned
use Rattle.coherent_memory.specs.Below.mutex_home.Mutexes.{Mutex}
use Rattle.coherent_memory.specs.Below.thread_state.declared.value.Value.{Value}
use Rattle.coherent_memory.specs.Below.thread_state.declared.value.Value.TheVariants as value
use Rattle.coherent_memory.specs.Below.server_msgs.declared.message.Message.{Message}
use Rattle.coherent_memory.specs.Below.server_msgs.declared.message.Message.TheVariants as message
use Rattle.coherent_memory.specs.Below.server_model.Drop.{home_of}
use Rattle.coherent_memory.specs.Names.{tot, one, if_so, same_mutex, boxes, mutex_values, task_values}
use Rattle.coherent_memory.specs.Things.{Thing, Location, Spot, in_hand, holds, shares, borrows, locks, lies, flies, vacant, retired, copied, uses, sent, stands, at_home, counts, value_things}
use Rattle.coherent_memory.specs.Weights.{cells, owners, states, below, uses_of, users_of, shares_of, shares_at_home, tasks_of, is_thread}
use Rattle.law_counts_sums.specs.Sums.{Sums, is_server}
use Rattle.law_counts_sums.proofs.Trades.{Trade, Same, tot-append}
use Rattle.law_counts_sums.proofs.Rules.{Rule, none, both, next, turned, comes, goes, carries, hands_on, recolours, exchanges, drops, unmarks, lifts, lifts_last, lands, grows, buries, fills, evicts, begins_use, ends_use, sends, receives, changes, turns_mutex, queues, dequeues, counts_on, marks, makes_mutex, dups, takes_share, less_share, closes, notes, unnotes, packs, is_loose, is_plain, dropped, Kept, Spends}

-- a weight that doesn't see where a value stands
pub record Blind (f : Thing → ℕ) : Type 0 where
  pub owned : (p q : Spot) (v : Owned) → f (holds p v) ≡ f (holds q v)
  pub shared : (l m : Location) (r : Rattle.coherent_memory.specs.Below.mut_borrow.declared.shared.SharedRef.SharedRef) → f (shares l r) ≡ f (shares m r)
  pub borrowed : (l m : Location) (r : Rattle.coherent_memory.specs.Below.mut_borrow.declared.mutable.MutRef.MutRef) → f (borrows l r) ≡ f (borrows m r)
  pub locked : (l m : Location) (n : MutexNo) → f (locks l n) ≡ f (locks m n)

carried : (f : Thing → ℕ) → Blind f → (s : ℕ) (p q : Spot) (l m : Location) (v : Value) → tot f (value_things s q m v) ≡ tot f (value_things s p l v)
carried f b s p q l m value.Gone = refl
carried f b s p q l m (value.Own v) = omega (arith, b.owned p q v)
carried f b s p q l m (value.SharedSlot i) = refl
carried f b s p q l m (value.MutSlot i) = refl
carried f b s p q l m (value.Shared r) = omega (arith, b.shared l m r)
carried f b s p q l m (value.Mut r) = omega (arith, b.borrowed l m r)
carried f b s p q l m (value.Held n) = omega (arith, b.locked l m n)

-- SUMS SIDE BY SIDE AND IN TURN

beside_fair : (f g : Thing → ℕ) (a b c d : List Thing) → tot f b + tot g a ≡ tot f a + tot g b → tot f d + tot g c ≡ tot f c + tot g d → tot f (b ++ d) + tot g (a ++ c) ≡ tot f (a ++ c) + tot g (b ++ d)
beside_fair f g a b c d p q = omega (arith, p, q, tot-append f b d, tot-append g a c, tot-append f a c, tot-append g b d)

then_fair : (f g : Thing → ℕ) (a b c : List Thing) → tot f b + tot g a ≡ tot f a + tot g b → tot f c + tot g b ≡ tot f b + tot g c → tot f c + tot g a ≡ tot f a + tot g c
then_fair f g a b c p q = omega (arith, p, q)

same_fair : (f g : Thing → ℕ) (a b : List Thing) → tot f a ≡ tot f b → tot g a ≡ tot g b → tot f b + tot g a ≡ tot f a + tot g b
same_fair f g a b p q = omega (arith, p, q)

beside_falls : (f : Thing → ℕ) (a b c d : List Thing) → tot f b ≤ tot f a → tot f d ≤ tot f c → tot f (b ++ d) ≤ tot f (a ++ c)
beside_falls f a b c d p q = omega (arith, p, q, tot-append f b d, tot-append f a c)

beside_same : (f : Thing → ℕ) (a b c d : List Thing) → tot f b ≡ tot f a → tot f d ≡ tot f c → tot f (b ++ d) ≡ tot f (a ++ c)
beside_same f a b c d p q = omega (arith, p, q, tot-append f b d, tot-append f a c)

-- a weight that sees messages that own something alone
abbrev SeesNoPlain : (Thing → ℕ) → Type 0
SeesNoPlain f = (t : ℕ) (m : Message) → is_plain m ≡ true → f (sent t m) ≡ 0

-- a weight that sees no message
abbrev SeesNoMessage : (Thing → ℕ) → Type 0
SeesNoMessage f = (t : ℕ) (m : Message) → f (sent t m) ≡ 0

drop_unseen : (f : Thing → ℕ) → SeesNoMessage f → (v : Owned) → tot f (dropped v) ≡ 0
drop_unseen f z owned.Nothing = refl
drop_unseen f z owned.Unit = refl
drop_unseen f z (owned.Int n) = refl
drop_unseen f z (owned.Box p) = omega (arith, z (server_of p.word) (message.Drop p.word p.object))
drop_unseen f z (owned.Mutex m) = omega (arith, z m.home (message.Release (released.Mutex m)))
drop_unseen f z (owned.Task t) = omega (arith, z (home_of t) (message.Release (released.Task t)))

-- what a weight of owned values sees of one that is dropped
drop_seen : (f : Thing → ℕ) (g : Owned → ℕ) → g owned.Nothing ≡ 0 → g owned.Unit ≡ 0 → ((n : Rattle.std.specs.Prelude.ℤ) → g (owned.Int n) ≡ 0)
    → ((p : BoxPtr) → f (sent (server_of p.word) (message.Drop p.word p.object)) ≡ g (owned.Box p)) → ((m : MutexNo) → f (sent m.home (message.Release (released.Mutex m))) ≡ g (owned.Mutex m))
    → ((t : ℕ) → f (sent (home_of t) (message.Release (released.Task t))) ≡ g (owned.Task t)) → (v : Owned) → tot f (dropped v) ≡ g v
drop_seen f g n u i b m t owned.Nothing = sym n
drop_seen f g n u i b m t owned.Unit = sym u
drop_seen f g n u i b m t (owned.Int k) = sym (i k)
drop_seen f g n u i b m t (owned.Box p) = omega (arith, b p)
drop_seen f g n u i b m t (owned.Mutex p) = omega (arith, m p)
drop_seen f g n u i b m t (owned.Task p) = omega (arith, t p)

-- what owns nothing weighs nothing
abbrev SeesNoLoose : (Thing → ℕ) → Type 0
SeesNoLoose f = (x : Thing) → is_loose x ≡ true → f x ≡ 0

counted_use : (b b2 : Bool) (k m : ℕ) → b2 ≡ b → m ≡ k + 1 → if_so b2 m ≡ if_so b2 k + one b
counted_use true true k m e h = h
counted_use true false k m e h = cc
counted_use false true k m e h = cc
counted_use false false k m e h = omega arith

no_users : (b : Bool) (n : ℕ) → n ≡ 0 → if_so b n ≡ 0
no_users true n e = e
no_users false n e = refl

counted_share : (b : Bool) (n : ℕ) → n ≡ 1 → if_so b n ≡ one b
counted_share true n e = e
counted_share false n e = refl

other_shares : (x y : Mutex) (m : MutexNo) → y.number ≡ x.number → if_so (same_mutex y.number m) y.shares ≡ if_so (same_mutex x.number m) y.shares
other_shares x y m e = ap (λ n. if_so (same_mutex n m) y.shares) e

one_more : (q : Bool) (a m : ℕ) → one (q && nat_lt a (m + 1)) ≡ one (q && nat_lt a m) + one (q && m == a)
one_more false a m = omega arith
one_more true a m = by (nat_lt a (m + 1)) (nat_lt a m) (m == a) refl refl refl
  where
    by : (x y z : Bool) → nat_lt a (m + 1) ≡ x → nat_lt a m ≡ y → (m == a) ≡ z → one x ≡ one y + one z
    by true true true e f g = absurd (grind (arith, nat_tests, e, f, g))
    by true true false e f g = omega arith
    by true false true e f g = omega arith
    by true false false e f g = absurd (grind (arith, nat_tests, e, f, g))
    by false true true e f g = absurd (grind (arith, nat_tests, e, f, g))
    by false true false e f g = absurd (grind (arith, nat_tests, e, f, g))
    by false false true e f g = absurd (grind (arith, nat_tests, e, f, g))
    by false false false e f g = omega arith

-- WHAT EACH WEIGHT DOES NOT SEE

cell_blind : (o : ObjNo) → Blind (cells o)
cell_blind o = record { owned = λ p q v. refl; shared = λ l q r. refl; borrowed = λ l q r. refl; locked = λ l q n. refl }

cell_loose : (o : ObjNo) → SeesNoLoose (cells o)
cell_loose o (lies r x c) e = absurd (cc e)
cell_loose o (flies w c) e = absurd (cc e)
cell_loose o _ e = refl

owner_blind : (o : ObjNo) → Blind (owners o)
owner_blind o = record { owned = λ p q v. refl; shared = λ l q r. refl; borrowed = λ l q r. refl; locked = λ l q n. refl }

owner_loose : (o : ObjNo) → SeesNoLoose (owners o)
owner_loose o (holds in_hand (owned.Box p)) e = absurd (cc e)
owner_loose o (holds in_hand v) e = refl
owner_loose o (holds p v) e = absurd (cc e)
owner_loose o (lies r x c) e = absurd (cc e)
owner_loose o (flies w c) e = absurd (cc e)
owner_loose o (sent x y) e = absurd (cc e)
owner_loose o _ e = refl

state_blind : (at : ℕ × ℕ) → Blind (states at)
state_blind at = record { owned = λ p q v. refl; shared = λ l q r. refl; borrowed = λ l q r. refl; locked = λ l q n. refl }

state_loose : (at : ℕ × ℕ) → SeesNoLoose (states at)
state_loose at (lies r x c) e = absurd (cc e)
state_loose at (vacant r x y) e = absurd (cc e)
state_loose at (retired r x) e = absurd (cc e)
state_loose at _ e = refl

below_blind : (at : ℕ × ℕ) → Blind (below at)
below_blind at = record { owned = λ p q v. refl; shared = λ l q r. refl; borrowed = λ l q r. refl; locked = λ l q n. refl }

below_loose : (at : ℕ × ℕ) → SeesNoLoose (below at)
below_loose at (counts r x y z u v) e = absurd (cc e)
below_loose at _ e = refl

use_blind : (at : ℕ × ℕ) → Blind (uses_of at)
use_blind at = record { owned = λ p q v. refl; shared = λ l q r. refl; borrowed = λ l q r. refl; locked = λ l q n. refl }

use_loose : (at : ℕ × ℕ) → SeesNoLoose (uses_of at)
use_loose at (uses r w) e = absurd (cc e)
use_loose at _ e = refl

users_blind : (at : ℕ × ℕ) → Blind (users_of at)
users_blind at = record { owned = λ p q v. refl; shared = λ l q r. refl; borrowed = λ l q r. refl; locked = λ l q n. refl }

users_loose : (at : ℕ × ℕ) → SeesNoLoose (users_of at)
users_loose at (copied r c) e = absurd (cc e)
users_loose at _ e = refl

share_blind : (m : MutexNo) → Blind (shares_of m)
share_blind m = record { owned = λ p q v. refl; shared = λ l q r. refl; borrowed = λ l q r. refl; locked = λ l q n. refl }

share_loose : (m : MutexNo) → SeesNoLoose (shares_of m)
share_loose m (holds in_hand (owned.Mutex p)) e = absurd (cc e)
share_loose m (holds in_hand v) e = refl
share_loose m (holds p v) e = absurd (cc e)
share_loose m (lies r x c) e = absurd (cc e)
share_loose m (flies w c) e = absurd (cc e)
share_loose m (sent x y) e = absurd (cc e)
share_loose m _ e = refl

shares_home_blind : (m : MutexNo) → Blind (shares_at_home m)
shares_home_blind m = record { owned = λ p q v. refl; shared = λ l q r. refl; borrowed = λ l q r. refl; locked = λ l q n. refl }

shares_home_loose : (m : MutexNo) → SeesNoLoose (shares_at_home m)
shares_home_loose m (at_home r x) e = absurd (cc e)
shares_home_loose m _ e = refl

task_blind : (t : ℕ) → Blind (tasks_of t)
task_blind t = record { owned = λ p q v. refl; shared = λ l q r. refl; borrowed = λ l q r. refl; locked = λ l q n. refl }

task_loose : (t : ℕ) → SeesNoLoose (tasks_of t)
task_loose t (holds in_hand (owned.Task p)) e = absurd (cc e)
task_loose t (holds in_hand v) e = refl
task_loose t (holds p v) e = absurd (cc e)
task_loose t (lies r x c) e = absurd (cc e)
task_loose t (flies w c) e = absurd (cc e)
task_loose t (sent x y) e = absurd (cc e)
task_loose t _ e = refl

thread_blind : (t : ℕ) → Blind (is_thread t)
thread_blind t = record { owned = λ p q v. refl; shared = λ l q r. refl; borrowed = λ l q r. refl; locked = λ l q n. refl }

thread_loose : (t : ℕ) → SeesNoLoose (is_thread t)
thread_loose t (stands r p x) e = absurd (cc e)
thread_loose t _ e = refl

server_blind : (n : ℕ) → Blind (is_server n)
server_blind n = record { owned = λ p q v. refl; shared = λ l q r. refl; borrowed = λ l q r. refl; locked = λ l q n. refl }

server_loose : (n : ℕ) → SeesNoLoose (is_server n)
server_loose n (counts r x y z u v) e = absurd (cc e)
server_loose n _ e = refl

owner_plain : (o : ObjNo) → SeesNoPlain (owners o)
owner_plain o t (message.Drop w p) e = absurd (cc e)
owner_plain o t _ e = refl

share_plain : (m : MutexNo) → SeesNoPlain (shares_of m)
share_plain m t (message.Release r) e = absurd (cc e)
share_plain m t (message.Dupped n x) e = absurd (cc e)
share_plain m t _ e = refl

task_plain : (t : ℕ) → SeesNoPlain (tasks_of t)
task_plain t x (message.Release r) e = absurd (cc e)
task_plain t x _ e = refl

owner_dropped : (o : ObjNo) (v : Owned) → tot (owners o) (dropped v) ≡ boxes o v
owner_dropped o v = drop_seen (owners o) (boxes o) refl refl (λ n. refl) (λ p. refl) (λ m. refl) (λ t. refl) v

share_dropped : (m : MutexNo) (v : Owned) → tot (shares_of m) (dropped v) ≡ mutex_values m v
share_dropped m v = drop_seen (shares_of m) (mutex_values m) refl refl (λ n. refl) (λ p. refl) (λ m. refl) (λ t. refl) v

task_dropped : (t : ℕ) (v : Owned) → tot (tasks_of t) (dropped v) ≡ task_values t v
task_dropped t v = drop_seen (tasks_of t) (task_values t) refl refl (λ n. refl) (λ p. refl) (λ m. refl) (λ t. refl) v

pub owner_fair : (o : ObjNo) (olds news : List Thing) → Rule olds news → tot (owners o) news + tot (cells o) olds ≡ tot (owners o) olds + tot (cells o) news
owner_fair o _ _ (both x y z u r q) = beside_fair (owners o) (cells o) x y z u (owner_fair o x y r) (owner_fair o z u q)
owner_fair o _ _ (next x y z r q) = then_fair (owners o) (cells o) x y z (owner_fair o x y r) (owner_fair o y z q)
owner_fair o _ _ (turned x y e) = same_fair (owners o) (cells o) x y (e (owners o)) (e (cells o))
owner_fair o _ _ none = refl
owner_fair o _ _ (comes x e) = omega (arith, owner_loose o x e, cell_loose o x e)
owner_fair o _ _ (goes x e) = omega (arith, owner_loose o x e, cell_loose o x e)
owner_fair o _ _ (carries s p q l j v) = omega (arith, carried (owners o) (owner_blind o) s p q l j v, carried (cells o) (cell_blind o) s p q l j v)
owner_fair o _ _ (hands_on p q v) = omega arith
owner_fair o _ _ (recolours p b w) = omega arith
owner_fair o _ _ (exchanges s a c p v) = omega arith
owner_fair o _ _ (drops p v) = omega (arith, owner_dropped o v, drop_unseen (cells o) (λ t m. refl) v)
owner_fair o _ _ (unmarks l j) = omega arith
owner_fair o _ _ (lifts s a x w c) = omega arith
owner_fair o _ _ (lifts_last s a w c) = omega arith
owner_fair o _ _ (lands s a x w c) = omega arith
owner_fair o _ _ (grows s x y z u v w c) = omega arith
owner_fair o _ _ (buries t2 w u c p) = omega arith
owner_fair o _ _ (fills s w c) = omega arith
owner_fair o _ _ (evicts s c e) = omega arith
owner_fair o _ _ (begins_use s w c x e h) = omega arith
owner_fair o _ _ (ends_use s w c x e h) = omega arith
owner_fair o _ _ (sends s x e) = omega (arith, owner_plain o s x e)
owner_fair o _ _ (receives s x e) = omega (arith, owner_plain o s x e)
owner_fair o _ _ (changes s p x y e) = omega arith
owner_fair o _ _ (turns_mutex s x y e h) = omega arith
owner_fair o _ _ (queues j s x) = omega arith
owner_fair o _ _ (dequeues j s x) = omega arith
owner_fair o _ _ (counts_on s x y z u v y2 z2 u2 v2) = omega arith
owner_fair o _ _ (marks l j) = omega arith
owner_fair o _ _ (makes_mutex s p x e) = omega arith
owner_fair o _ _ (dups s r i x y e h) = omega arith
owner_fair o _ _ (takes_share r i j p) = omega arith
owner_fair o _ _ (less_share s r x y e h) = omega arith
owner_fair o _ _ (closes s x e) = omega arith
owner_fair o _ _ (notes s x) = omega arith
owner_fair o _ _ (unnotes s x) = omega arith
owner_fair o _ _ (packs s r p q x y e) = omega arith

pub state_fair : (at : ℕ × ℕ) (olds news : List Thing) → Rule olds news → tot (states at) news + tot (below at) olds ≡ tot (states at) olds + tot (below at) news
state_fair at _ _ (both x y z u r q) = beside_fair (states at) (below at) x y z u (state_fair at x y r) (state_fair at z u q)
state_fair at _ _ (next x y z r q) = then_fair (states at) (below at) x y z (state_fair at x y r) (state_fair at y z q)
state_fair at _ _ (turned x y e) = same_fair (states at) (below at) x y (e (states at)) (e (below at))
state_fair at _ _ none = refl
state_fair at _ _ (comes x e) = omega (arith, state_loose at x e, below_loose at x e)
state_fair at _ _ (goes x e) = omega (arith, state_loose at x e, below_loose at x e)
state_fair at _ _ (carries s p q l j v) = omega (arith, carried (states at) (state_blind at) s p q l j v, carried (below at) (below_blind at) s p q l j v)
state_fair at _ _ (hands_on p q v) = omega arith
state_fair at _ _ (recolours p b w) = omega arith
state_fair at _ _ (exchanges s a c p v) = omega arith
state_fair at _ _ (drops p v) = omega (arith, drop_unseen (states at) (λ t m. refl) v, drop_unseen (below at) (λ t m. refl) v)
state_fair at _ _ (unmarks l j) = omega arith
state_fair at _ _ (lifts s a x w c) = omega arith
state_fair at _ _ (lifts_last s a w c) = omega arith
state_fair at _ _ (lands s a x w c) = omega arith
state_fair at _ _ (grows s x y z u v w c) = omega (arith, one_more (s == at.0) at.1 x)
state_fair at _ _ (buries t2 w u c p) = omega arith
state_fair at _ _ (fills s w c) = omega arith
state_fair at _ _ (evicts s c e) = omega arith
state_fair at _ _ (begins_use s w c x e h) = omega arith
state_fair at _ _ (ends_use s w c x e h) = omega arith
state_fair at _ _ (sends s x e) = omega arith
state_fair at _ _ (receives s x e) = omega arith
state_fair at _ _ (changes s p x y e) = omega arith
state_fair at _ _ (turns_mutex s x y e h) = omega arith
state_fair at _ _ (queues j s x) = omega arith
state_fair at _ _ (dequeues j s x) = omega arith
state_fair at _ _ (counts_on s x y z u v y2 z2 u2 v2) = omega arith
state_fair at _ _ (marks l j) = omega arith
state_fair at _ _ (makes_mutex s p x e) = omega arith
state_fair at _ _ (dups s r i x y e h) = omega arith
state_fair at _ _ (takes_share r i j p) = omega arith
state_fair at _ _ (less_share s r x y e h) = omega arith
state_fair at _ _ (closes s x e) = omega arith
state_fair at _ _ (notes s x) = omega arith
state_fair at _ _ (unnotes s x) = omega arith
state_fair at _ _ (packs s r p q x y e) = omega arith

pub user_fair : (at : ℕ × ℕ) (olds news : List Thing) → Rule olds news → tot (uses_of at) news + tot (users_of at) olds ≡ tot (uses_of at) olds + tot (users_of at) news
user_fair at _ _ (both x y z u r q) = beside_fair (uses_of at) (users_of at) x y z u (user_fair at x y r) (user_fair at z u q)
user_fair at _ _ (next x y z r q) = then_fair (uses_of at) (users_of at) x y z (user_fair at x y r) (user_fair at y z q)
user_fair at _ _ (turned x y e) = same_fair (uses_of at) (users_of at) x y (e (uses_of at)) (e (users_of at))
user_fair at _ _ none = refl
user_fair at _ _ (comes x e) = omega (arith, use_loose at x e, users_loose at x e)
user_fair at _ _ (goes x e) = omega (arith, use_loose at x e, users_loose at x e)
user_fair at _ _ (carries s p q l j v) = omega (arith, carried (uses_of at) (use_blind at) s p q l j v, carried (users_of at) (users_blind at) s p q l j v)
user_fair at _ _ (hands_on p q v) = omega arith
user_fair at _ _ (recolours p b w) = omega arith
user_fair at _ _ (exchanges s a c p v) = omega arith
user_fair at _ _ (drops p v) = omega (arith, drop_unseen (uses_of at) (λ t m. refl) v, drop_unseen (users_of at) (λ t m. refl) v)
user_fair at _ _ (unmarks l j) = omega arith
user_fair at _ _ (lifts s a x w c) = omega arith
user_fair at _ _ (lifts_last s a w c) = omega arith
user_fair at _ _ (lands s a x w c) = omega arith
user_fair at _ _ (grows s x y z u v w c) = omega arith
user_fair at _ _ (buries t2 w u c p) = omega arith
user_fair at _ _ (fills s w c) = omega (arith, no_users (s == at.0 && w == at.1) 0 refl)
user_fair at _ _ (evicts s c e) = omega (arith, no_users (s == at.0 && c.word == at.1) c.users e)
user_fair at _ _ (begins_use s w c x e h) = omega (arith, counted_use (s == at.0 && w == at.1) (s == at.0 && c.word == at.1) c.users x (ap (λ n. s == at.0 && n == at.1) e) h)
user_fair at _ _ (ends_use s w c x e h) = omega (arith, counted_use (s == at.0 && w == at.1) (s == at.0 && c.word == at.1) x c.users (ap (λ n. s == at.0 && n == at.1) e) h)
user_fair at _ _ (sends s x e) = omega arith
user_fair at _ _ (receives s x e) = omega arith
user_fair at _ _ (changes s p x y e) = omega arith
user_fair at _ _ (turns_mutex s x y e h) = omega arith
user_fair at _ _ (queues j s x) = omega arith
user_fair at _ _ (dequeues j s x) = omega arith
user_fair at _ _ (counts_on s x y z u v y2 z2 u2 v2) = omega arith
user_fair at _ _ (marks l j) = omega arith
user_fair at _ _ (makes_mutex s p x e) = omega arith
user_fair at _ _ (dups s r i x y e h) = omega arith
user_fair at _ _ (takes_share r i j p) = omega arith
user_fair at _ _ (less_share s r x y e h) = omega arith
user_fair at _ _ (closes s x e) = omega arith
user_fair at _ _ (notes s x) = omega arith
user_fair at _ _ (unnotes s x) = omega arith
user_fair at _ _ (packs s r p q x y e) = omega arith

pub share_fair : (m : MutexNo) (olds news : List Thing) → Rule olds news → tot (shares_of m) news + tot (shares_at_home m) olds ≡ tot (shares_of m) olds + tot (shares_at_home m) news
share_fair m _ _ (both x y z u r q) = beside_fair (shares_of m) (shares_at_home m) x y z u (share_fair m x y r) (share_fair m z u q)
share_fair m _ _ (next x y z r q) = then_fair (shares_of m) (shares_at_home m) x y z (share_fair m x y r) (share_fair m y z q)
share_fair m _ _ (turned x y e) = same_fair (shares_of m) (shares_at_home m) x y (e (shares_of m)) (e (shares_at_home m))
share_fair m _ _ none = refl
share_fair m _ _ (comes x e) = omega (arith, share_loose m x e, shares_home_loose m x e)
share_fair m _ _ (goes x e) = omega (arith, share_loose m x e, shares_home_loose m x e)
share_fair m _ _ (carries s p q l j v) = omega (arith, carried (shares_of m) (share_blind m) s p q l j v, carried (shares_at_home m) (shares_home_blind m) s p q l j v)
share_fair m _ _ (hands_on p q v) = omega arith
share_fair m _ _ (recolours p b w) = omega arith
share_fair m _ _ (exchanges s a c p v) = omega arith
share_fair m _ _ (drops p v) = omega (arith, share_dropped m v, drop_unseen (shares_at_home m) (λ t m. refl) v)
share_fair m _ _ (unmarks l j) = omega arith
share_fair m _ _ (lifts s a x w c) = omega arith
share_fair m _ _ (lifts_last s a w c) = omega arith
share_fair m _ _ (lands s a x w c) = omega arith
share_fair m _ _ (grows s x y z u v w c) = omega arith
share_fair m _ _ (buries t2 w u c p) = omega arith
share_fair m _ _ (fills s w c) = omega arith
share_fair m _ _ (evicts s c e) = omega arith
share_fair m _ _ (begins_use s w c x e h) = omega arith
share_fair m _ _ (ends_use s w c x e h) = omega arith
share_fair m _ _ (sends s x e) = omega (arith, share_plain m s x e)
share_fair m _ _ (receives s x e) = omega (arith, share_plain m s x e)
share_fair m _ _ (changes s p x y e) = omega arith
share_fair m _ _ (turns_mutex s x y e h) = (let i : if_so (same_mutex y.number m) y.shares ≡ if_so (same_mutex x.number m) x.shares = ap (λ n. if_so (same_mutex n m) y.shares) e ∙ ap (λ n. if_so (same_mutex x.number m) n) h in omega (arith, i))
share_fair m _ _ (queues j s x) = omega arith
share_fair m _ _ (dequeues j s x) = omega arith
share_fair m _ _ (counts_on s x y z u v y2 z2 u2 v2) = omega arith
share_fair m _ _ (marks l j) = omega arith
share_fair m _ _ (makes_mutex s p x e) = omega (arith, counted_share (same_mutex x.number m) x.shares e)
share_fair m _ _ (dups s r i x y e h) = omega (arith, other_shares x y m e, counted_use (same_mutex x.number m) (same_mutex x.number m) x.shares y.shares refl h)
share_fair m _ _ (takes_share r i j p) = omega arith
share_fair m _ _ (less_share s r x y e h) = omega (arith, other_shares x y m e, counted_use (same_mutex x.number m) (same_mutex x.number m) y.shares x.shares refl h)
share_fair m _ _ (closes s x e) = omega (arith, no_users (same_mutex x.number m) x.shares e)
share_fair m _ _ (notes s x) = omega arith
share_fair m _ _ (unnotes s x) = omega arith
share_fair m _ _ (packs s r p q x y e) = omega arith

pub cell_falls : (o : ObjNo) (olds news : List Thing) → Rule olds news → tot (cells o) news ≤ tot (cells o) olds
cell_falls o _ _ (both x y z u r q) = beside_falls (cells o) x y z u (cell_falls o x y r) (cell_falls o z u q)
cell_falls o _ _ (next x y z r q) = omega (arith, cell_falls o x y r, cell_falls o y z q)
cell_falls o _ _ (turned x y e) = omega (arith, e (cells o))
cell_falls o _ _ none = omega arith
cell_falls o _ _ (comes x e) = omega (arith, cell_loose o x e)
cell_falls o _ _ (goes x e) = omega (arith, cell_loose o x e)
cell_falls o _ _ (carries s p q l j v) = omega (arith, carried (cells o) (cell_blind o) s p q l j v)
cell_falls o _ _ (hands_on p q v) = omega arith
cell_falls o _ _ (recolours p b w) = omega arith
cell_falls o _ _ (exchanges s a c p v) = omega arith
cell_falls o _ _ (drops p v) = omega (arith, drop_unseen (cells o) (λ t m. refl) v)
cell_falls o _ _ (unmarks l j) = omega arith
cell_falls o _ _ (lifts s a x w c) = omega arith
cell_falls o _ _ (lifts_last s a w c) = omega arith
cell_falls o _ _ (lands s a x w c) = omega arith
cell_falls o _ _ (grows s x y z u v w c) = omega arith
cell_falls o _ _ (buries t2 w u c p) = omega arith
cell_falls o _ _ (fills s w c) = omega arith
cell_falls o _ _ (evicts s c e) = omega arith
cell_falls o _ _ (begins_use s w c x e h) = omega arith
cell_falls o _ _ (ends_use s w c x e h) = omega arith
cell_falls o _ _ (sends s x e) = omega arith
cell_falls o _ _ (receives s x e) = omega arith
cell_falls o _ _ (changes s p x y e) = omega arith
cell_falls o _ _ (turns_mutex s x y e h) = omega arith
cell_falls o _ _ (queues j s x) = omega arith
cell_falls o _ _ (dequeues j s x) = omega arith
cell_falls o _ _ (counts_on s x y z u v y2 z2 u2 v2) = omega arith
cell_falls o _ _ (marks l j) = omega arith
cell_falls o _ _ (makes_mutex s p x e) = omega arith
cell_falls o _ _ (dups s r i x y e h) = omega arith
cell_falls o _ _ (takes_share r i j p) = omega arith
cell_falls o _ _ (less_share s r x y e h) = omega arith
cell_falls o _ _ (closes s x e) = omega arith
cell_falls o _ _ (notes s x) = omega arith
cell_falls o _ _ (unnotes s x) = omega arith
cell_falls o _ _ (packs s r p q x y e) = omega arith

-- no task value goes or comes
pub task_same : (t : ℕ) (olds news : List Thing) → Rule olds news → tot (tasks_of t) news ≡ tot (tasks_of t) olds
task_same t _ _ (both x y z u r q) = beside_same (tasks_of t) x y z u (task_same t x y r) (task_same t z u q)
task_same t _ _ (next x y z r q) = omega (arith, task_same t x y r, task_same t y z q)
task_same t _ _ (turned x y e) = omega (arith, e (tasks_of t))
task_same t _ _ none = omega arith
task_same t _ _ (comes x e) = omega (arith, task_loose t x e)
task_same t _ _ (goes x e) = omega (arith, task_loose t x e)
task_same t _ _ (carries s p q l j v) = omega (arith, carried (tasks_of t) (task_blind t) s p q l j v)
task_same t _ _ (hands_on p q v) = omega arith
task_same t _ _ (recolours p b w) = omega arith
task_same t _ _ (exchanges s a c p v) = omega arith
task_same t _ _ (drops p v) = omega (arith, task_dropped t v)
task_same t _ _ (unmarks l j) = omega arith
task_same t _ _ (lifts s a x w c) = omega arith
task_same t _ _ (lifts_last s a w c) = omega arith
task_same t _ _ (lands s a x w c) = omega arith
task_same t _ _ (grows s x y z u v w c) = omega arith
task_same t _ _ (buries t2 w u c p) = omega arith
task_same t _ _ (fills s w c) = omega arith
task_same t _ _ (evicts s c e) = omega arith
task_same t _ _ (begins_use s w c x e h) = omega arith
task_same t _ _ (ends_use s w c x e h) = omega arith
task_same t _ _ (sends s x e) = omega (arith, task_plain t s x e)
task_same t _ _ (receives s x e) = omega (arith, task_plain t s x e)
task_same t _ _ (changes s p x y e) = omega arith
task_same t _ _ (turns_mutex s x y e h) = omega arith
task_same t _ _ (queues j s x) = omega arith
task_same t _ _ (dequeues j s x) = omega arith
task_same t _ _ (counts_on s x y z u v y2 z2 u2 v2) = omega arith
task_same t _ _ (marks l j) = omega arith
task_same t _ _ (makes_mutex s p x e) = omega arith
task_same t _ _ (dups s r i x y e h) = omega arith
task_same t _ _ (takes_share r i j p) = omega arith
task_same t _ _ (less_share s r x y e h) = omega arith
task_same t _ _ (closes s x e) = omega arith
task_same t _ _ (notes s x) = omega arith
task_same t _ _ (unnotes s x) = omega arith
task_same t _ _ (packs s r p q x y e) = omega arith

pub thread_falls : (t : ℕ) (olds news : List Thing) → Rule olds news → tot (is_thread t) news ≤ tot (is_thread t) olds
thread_falls t _ _ (both x y z u r q) = beside_falls (is_thread t) x y z u (thread_falls t x y r) (thread_falls t z u q)
thread_falls t _ _ (next x y z r q) = omega (arith, thread_falls t x y r, thread_falls t y z q)
thread_falls t _ _ (turned x y e) = omega (arith, e (is_thread t))
thread_falls t _ _ none = omega arith
thread_falls t _ _ (comes x e) = omega (arith, thread_loose t x e)
thread_falls t _ _ (goes x e) = omega (arith, thread_loose t x e)
thread_falls t _ _ (carries s p q l j v) = omega (arith, carried (is_thread t) (thread_blind t) s p q l j v)
thread_falls t _ _ (hands_on p q v) = omega arith
thread_falls t _ _ (recolours p b w) = omega arith
thread_falls t _ _ (exchanges s a c p v) = omega arith
thread_falls t _ _ (drops p v) = omega (arith, drop_unseen (is_thread t) (λ t m. refl) v)
thread_falls t _ _ (unmarks l j) = omega arith
thread_falls t _ _ (lifts s a x w c) = omega arith
thread_falls t _ _ (lifts_last s a w c) = omega arith
thread_falls t _ _ (lands s a x w c) = omega arith
thread_falls t _ _ (grows s x y z u v w c) = omega arith
thread_falls t _ _ (buries t2 w u c p) = omega arith
thread_falls t _ _ (fills s w c) = omega arith
thread_falls t _ _ (evicts s c e) = omega arith
thread_falls t _ _ (begins_use s w c x e h) = omega arith
thread_falls t _ _ (ends_use s w c x e h) = omega arith
thread_falls t _ _ (sends s x e) = omega arith
thread_falls t _ _ (receives s x e) = omega arith
thread_falls t _ _ (changes s p x y e) = (let i : one (y.number == t) ≡ one (x.number == t) = ap (λ n. one (n == t)) e in omega (arith, i))
thread_falls t _ _ (turns_mutex s x y e h) = omega arith
thread_falls t _ _ (queues j s x) = omega arith
thread_falls t _ _ (dequeues j s x) = omega arith
thread_falls t _ _ (counts_on s x y z u v y2 z2 u2 v2) = omega arith
thread_falls t _ _ (marks l j) = omega arith
thread_falls t _ _ (makes_mutex s p x e) = omega arith
thread_falls t _ _ (dups s r i x y e h) = omega arith
thread_falls t _ _ (takes_share r i j p) = omega arith
thread_falls t _ _ (less_share s r x y e h) = omega arith
thread_falls t _ _ (closes s x e) = omega arith
thread_falls t _ _ (notes s x) = omega arith
thread_falls t _ _ (unnotes s x) = omega arith
thread_falls t _ _ (packs s r p q x y e) = (let j : one (y.number == t) ≡ one (x.number == t) = ap (λ n. one (n == t)) e in omega (arith, j))

pub server_falls : (n : ℕ) (olds news : List Thing) → Rule olds news → tot (is_server n) news ≤ tot (is_server n) olds
server_falls n _ _ (both x y z u r q) = beside_falls (is_server n) x y z u (server_falls n x y r) (server_falls n z u q)
server_falls n _ _ (next x y z r q) = omega (arith, server_falls n x y r, server_falls n y z q)
server_falls n _ _ (turned x y e) = omega (arith, e (is_server n))
server_falls n _ _ none = omega arith
server_falls n _ _ (comes x e) = omega (arith, server_loose n x e)
server_falls n _ _ (goes x e) = omega (arith, server_loose n x e)
server_falls n _ _ (carries s p q l j v) = omega (arith, carried (is_server n) (server_blind n) s p q l j v)
server_falls n _ _ (hands_on p q v) = omega arith
server_falls n _ _ (recolours p b w) = omega arith
server_falls n _ _ (exchanges s a c p v) = omega arith
server_falls n _ _ (drops p v) = omega (arith, drop_unseen (is_server n) (λ t m. refl) v)
server_falls n _ _ (unmarks l j) = omega arith
server_falls n _ _ (lifts s a x w c) = omega arith
server_falls n _ _ (lifts_last s a w c) = omega arith
server_falls n _ _ (lands s a x w c) = omega arith
server_falls n _ _ (grows s x y z u v w c) = omega arith
server_falls n _ _ (buries t2 w u c p) = omega arith
server_falls n _ _ (fills s w c) = omega arith
server_falls n _ _ (evicts s c e) = omega arith
server_falls n _ _ (begins_use s w c x e h) = omega arith
server_falls n _ _ (ends_use s w c x e h) = omega arith
server_falls n _ _ (sends s x e) = omega arith
server_falls n _ _ (receives s x e) = omega arith
server_falls n _ _ (changes s p x y e) = omega arith
server_falls n _ _ (turns_mutex s x y e h) = omega arith
server_falls n _ _ (queues j s x) = omega arith
server_falls n _ _ (dequeues j s x) = omega arith
server_falls n _ _ (counts_on s x y z u v y2 z2 u2 v2) = omega arith
server_falls n _ _ (marks l j) = omega arith
server_falls n _ _ (makes_mutex s p x e) = omega arith
server_falls n _ _ (dups s r i x y e h) = omega arith
server_falls n _ _ (takes_share r i j p) = omega arith
server_falls n _ _ (less_share s r x y e h) = omega arith
server_falls n _ _ (closes s x e) = omega arith
server_falls n _ _ (notes s x) = omega arith
server_falls n _ _ (unnotes s x) = omega arith
server_falls n _ _ (packs s r p q x y e) = omega arith

-- THE SUMS ARE KEPT

sums_same : (a b : List Thing) → Same a b → Sums a → Sums b
sums_same a b e k = record {
  home_of_each = λ o. omega (arith, e (cells o), k.home_of_each o);
  owner_of_each = λ o. omega (arith, e (owners o), e (cells o), k.owner_of_each o);
  one_state = λ at. omega (arith, e (states at), e (below at), k.one_state at);
  users_counted = λ at. omega (arith, e (uses_of at), e (users_of at), k.users_counted at);
  shares_counted = λ m. omega (arith, e (shares_of m), e (shares_at_home m), k.shares_counted m);
  one_task_value = λ t. omega (arith, e (tasks_of t), k.one_task_value t);
  numbers_differ = λ t. omega (arith, e (is_thread t), k.numbers_differ t);
  servers_differ = λ n. omega (arith, e (is_server n), k.servers_differ n);
}

sums_trade : {a olds news b : List Thing} → Trade a olds news b → Rule olds news → Sums a → Sums b
sums_trade {olds = olds} {news = news} t r k = record {
  home_of_each = λ o. omega (arith, t.before (cells o), t.after (cells o), cell_falls o olds news r, k.home_of_each o);
  owner_of_each = λ o. omega (arith, t.before (owners o), t.before (cells o), t.after (owners o), t.after (cells o), owner_fair o olds news r, k.owner_of_each o);
  one_state = λ at. omega (arith, t.before (states at), t.before (below at), t.after (states at), t.after (below at), state_fair at olds news r, k.one_state at);
  users_counted = λ at. omega (arith, t.before (uses_of at), t.before (users_of at), t.after (uses_of at), t.after (users_of at), user_fair at olds news r, k.users_counted at);
  shares_counted = λ m. omega (arith, t.before (shares_of m), t.before (shares_at_home m), t.after (shares_of m), t.after (shares_at_home m), share_fair m olds news r, k.shares_counted m);
  one_task_value = λ i. omega (arith, t.before (tasks_of i), t.after (tasks_of i), task_same i olds news r, k.one_task_value i);
  numbers_differ = λ i. omega (arith, t.before (is_thread i), t.after (is_thread i), thread_falls i olds news r, k.numbers_differ i);
  servers_differ = λ n. omega (arith, t.before (is_server n), t.after (is_server n), server_falls n olds news r, k.servers_differ n);
}

pub sums_kept : Kept Sums
sums_kept = record { same = sums_same; trades = sums_trade; placed = λ b k. record { one_state = k.one_state; servers_differ = k.servers_differ } }

-- one task value less, and nothing else
sums_spent : {a b : List Thing} (x : Thing) → ((o : ObjNo) → owners o x ≡ 0) → ((m : MutexNo) → shares_of m x ≡ 0) → ((o : ObjNo) → cells o x ≡ 0) → ((at : ℕ × ℕ) → states at x ≡ 0) → ((at : ℕ × ℕ) → below at x ≡ 0) → ((at : ℕ × ℕ) → uses_of at x ≡ 0) → ((at : ℕ × ℕ) → users_of at x ≡ 0)
    → ((m : MutexNo) → shares_at_home m x ≡ 0) → Trade a (x ∷ []) [] b → Sums a → Sums b
sums_spent x owner share cell state low used user home t k = record {
  home_of_each = λ o. omega (arith, t.before (cells o), t.after (cells o), k.home_of_each o);
  owner_of_each = λ o. omega (arith, t.before (owners o), t.before (cells o), t.after (owners o), t.after (cells o), owner o, cell o, k.owner_of_each o);
  one_state = λ at. omega (arith, t.before (states at), t.before (below at), t.after (states at), t.after (below at), state at, low at, k.one_state at);
  users_counted = λ at. omega (arith, t.before (uses_of at), t.before (users_of at), t.after (uses_of at), t.after (users_of at), used at, user at, k.users_counted at);
  shares_counted = λ m. omega (arith, t.before (shares_of m), t.before (shares_at_home m), t.after (shares_of m), t.after (shares_at_home m), share m, home m, k.shares_counted m);
  one_task_value = λ i. omega (arith, t.before (tasks_of i), t.after (tasks_of i), k.one_task_value i);
  numbers_differ = λ i. omega (arith, t.before (is_thread i), t.after (is_thread i), k.numbers_differ i);
  servers_differ = λ n. omega (arith, t.before (is_server n), t.after (is_server n), k.servers_differ n);
}

pub sums_spend : Spends Sums
sums_spend = record {
  joined = λ p i t k. sums_spent (holds p (owned.Task i)) (λ o. refl) (λ m. refl) (λ o. refl) (λ at. refl) (λ at. refl) (λ at. refl) (λ at. refl) (λ m. refl) t k;
  let_go = λ r i t k. sums_spent (sent r (message.Release (released.Task i))) (λ o. refl) (λ m. refl) (λ o. refl) (λ at. refl) (λ at. refl) (λ at. refl) (λ at. refl) (λ m. refl) t k;
}

-- THE NUMBER OF TASK VALUES

-- the sums, and of each thread so many task values
pub record Counted (c : ℕ → ℕ) (b : List Thing) : Type 0 where
  pub sums : Sums b
  pub tasks : (t : ℕ) → tot (tasks_of t) b ≡ c t

pub counted_kept : (c : ℕ → ℕ) → Kept (Counted c)
counted_kept c = record {
  same = λ a b e k. record { sums = sums_same a b e k.sums; tasks = λ i. omega (arith, e (tasks_of i), k.tasks i) };
  trades = λ t r k. record { sums = sums_trade t r k.sums; tasks = λ i. omega (arith, t.before (tasks_of i), t.after (tasks_of i), task_same i _ _ r, k.tasks i) };
  placed = λ b k. record { one_state = k.sums.one_state; servers_differ = k.sums.servers_differ };
}
