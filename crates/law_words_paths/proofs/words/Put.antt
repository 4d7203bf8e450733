-- What a cluster with a thread put back has: what the thread has, between what doesn't depend on it.
use Rattle.std.proofs.Common.{◌≡◌, ℕ, ◌+◌, ◌==◌, Bool, true, false, if◌then◌else◌, List, [], ◌∷◌, ◌++◌, Some, IsSome, refl, sym, ap, subst, ◌∙◌}
use Rattle.std.specs.Prelude.{length}
use Rattle.std.proofs.lemmas.List.{append_assoc}
use Rattle.law_words_paths.specs.Below.thread_state.View.{ThreadState}
use Rattle.law_words_paths.specs.Below.server_model.Servers.{Rest, Server, Cluster, server_at}
use Rattle.law_words_paths.specs.Below.server_model.Work.{Hand, thread_in, set_thread}
use Rattle.law_words_paths.specs.Below.server_model.Clusters.{with_server}
use Rattle.law_words_paths.specs.Below.coherent_memory.Things.{Thing, counts, things_at, thread_things, standing_things, partition_things, copy_things, mutex_things, task_things, waiting_things, leaving_things, server_things, servers_things, things_of}
use Rattle.law_words_paths.specs.words.PutBack.{put_in, StandsHere}

-- the same on both sides of what differs
pub record Split (a b c d : List Thing) : Type 0 where
  pub left : List Thing
  pub right : List Thing
  pub before : a ≡ left ++ c ++ right
  pub after : b ≡ left ++ d ++ right

pub split_whole : (c d : List Thing) → Split c d c d
split_whole c d = record { left = []; right = []; before = sym (nil_right c); after = sym (nil_right d) }
  where
    nil_right : (l : List Thing) → l ++ [] ≡ l
    nil_right [] = refl
    nil_right (x ∷ l) = ap (λ m. x ∷ m) (nil_right l)

pub split_left : (r : List Thing) {a b c d : List Thing} → Split a b c d → Split (r ++ a) (r ++ b) c d
split_left r {a = a} {b = b} {c = c} {d = d} s = record { left = r ++ s.left; right = s.right; before = over a c s.before; after = over b d s.after }
  where
    over : (x y : List Thing) → x ≡ s.left ++ y ++ s.right → r ++ x ≡ r ++ s.left ++ y ++ s.right
    over x y e = ap (λ l. r ++ l) e ∙ sym (append_assoc r (s.left ++ y) s.right) ∙ ap (λ l. l ++ s.right) (sym (append_assoc r s.left y))

pub split_right : (r : List Thing) {a b c d : List Thing} → Split a b c d → Split (a ++ r) (b ++ r) c d
split_right r {a = a} {b = b} {c = c} {d = d} s = record { left = s.left; right = s.right ++ r; before = over a c s.before; after = over b d s.after }
  where
    over : (x y : List Thing) → x ≡ s.left ++ y ++ s.right → x ++ r ≡ s.left ++ y ++ (s.right ++ r)
    over x y e = ap (λ l. l ++ r) e ∙ append_assoc (s.left ++ y) s.right r

-- THREADS

standing_split : (n i t : ℕ) (xs : List ThreadState) (x y : ThreadState) → x.number ≡ t → y.number ≡ t → IsSome (thread_in xs t)
    → Split (things_at (standing_things n) i (set_thread xs x)) (things_at (standing_things n) i (set_thread xs y)) (thread_things n false x) (thread_things n false y)
standing_split n i t [] x y e f h = absurd cc
standing_split n i t (z ∷ xs) x y e f h = by (z.number == t) refl h (standing_split n (i + 1) t xs x y e f)
  where
    rest : List Thing
    rest = things_at (standing_things n) (i + 1) xs

    tested : (w : ThreadState) → w.number ≡ t → (b : Bool) → (z.number == t) ≡ b → set_thread (z ∷ xs) w ≡ (if b then w ∷ xs else z ∷ set_thread xs w)
    tested w g b q = ap (λ m. if z.number == m then w ∷ xs else z ∷ set_thread xs w) g ∙ ap (λ c. if c then w ∷ xs else z ∷ set_thread xs w) q

    by : (b : Bool) → (z.number == t) ≡ b → IsSome (if b then Some z else thread_in xs t)
        → (IsSome (thread_in xs t) → Split (things_at (standing_things n) (i + 1) (set_thread xs x)) (things_at (standing_things n) (i + 1) (set_thread xs y)) (thread_things n false x) (thread_things n false y))
        → Split (things_at (standing_things n) i (set_thread (z ∷ xs) x)) (things_at (standing_things n) i (set_thread (z ∷ xs) y)) (thread_things n false x) (thread_things n false y)
    by true q g go = rw (tested x e true q) (rw (tested y f true q) (split_right rest (split_whole (thread_things n false x) (thread_things n false y))))
    by false q g go = rw (tested x e false q) (rw (tested y f false q) (split_left (thread_things n false z) (go g)))

-- SERVERS

server_split : (r : Rest) (ts us : List ThreadState) (e : ℕ) (c d : List Thing) → Split (things_at (standing_things r.number) 0 ts) (things_at (standing_things r.number) 0 us) c d
    → Split (server_things (record { rest = r; threads = ts; events = e })) (server_things (record { rest = r; threads = us; events = e })) c d
server_split r ts us e c d s =
    let n = r.number in
    split_right (things_at leaving_things 0 r.outbox)
    (split_right (things_at (waiting_things n) 0 r.inbox)
    (split_left (counts n (length r.partition.cells) r.partition.retired r.started r.mutexes.made e ∷ partition_things n r.partition ++ things_at (copy_things n) 0 r.cache ++ things_at (mutex_things n) 0 r.mutexes.there ++ things_at (task_things n) 0 r.tasks) s))

pub servers_split : (n : ℕ) (ss : List Server) (x y : Server) (c d : List Thing) → IsSome (server_at ss n) → Split (server_things x) (server_things y) c d → Split (servers_things (with_server ss n x)) (servers_things (with_server ss n y)) c d
servers_split n [] x y c d h s = absurd cc
servers_split n (z ∷ ss) x y c d h s = by (z.rest.number == n) refl h (λ g. servers_split n ss x y c d g s)
  where
    by : (b : Bool) → (z.rest.number == n) ≡ b → IsSome (if b then Some z else server_at ss n) → (IsSome (server_at ss n) → Split (servers_things (with_server ss n x)) (servers_things (with_server ss n y)) c d) → Split (servers_things (with_server (z ∷ ss) n x)) (servers_things (with_server (z ∷ ss) n y)) c d
    by true q g go = rw q (split_right (servers_things ss) s)
    by false q g go = rw q (split_left (server_things z) (go g))

-- A CLUSTER WITH THE THREAD OF A HAND, and with another state of that thread
pub put_split : (k : Cluster) (n : ℕ) (ts : List ThreadState) (e : ℕ) (h h2 : Hand) → StandsHere k n ts h → h2.work.rest ≡ h.work.rest → h2.thread.number ≡ h.thread.number
    → Split (things_of (put_in k n ts e h)) (things_of (put_in k n ts e h2)) (thread_things n false h.thread) (thread_things n false h2.thread)
put_split k n ts e h h2 s same named =
    let standing : Split (things_at (standing_things n) 0 (set_thread ts h.thread)) (things_at (standing_things n) 0 (set_thread ts h2.thread)) (thread_things n false h.thread) (thread_things n false h2.thread) = standing_split n 0 h.thread.number ts h.thread h2.thread refl named s.thread in
    let server : Split (server_things (record { rest = h.work.rest; threads = set_thread ts h.thread; events = e })) (server_things (record { rest = h.work.rest; threads = set_thread ts h2.thread; events = e })) (thread_things n false h.thread) (thread_things n false h2.thread) =
    server_split h.work.rest (set_thread ts h.thread) (set_thread ts h2.thread) e (thread_things n false h.thread) (thread_things n false h2.thread)
    (subst (λ m. Split (things_at (standing_things m) 0 (set_thread ts h.thread)) (things_at (standing_things m) 0 (set_thread ts h2.thread)) (thread_things n false h.thread) (thread_things n false h2.thread)) (sym s.number) standing) in
    let there : Split (servers_things (with_server k.servers n (record { rest = h.work.rest; threads = set_thread ts h.thread; events = e }))) (servers_things (with_server k.servers n (record { rest = h.work.rest; threads = set_thread ts h2.thread; events = e }))) (thread_things n false h.thread) (thread_things n false h2.thread) =
    servers_split n k.servers (record { rest = h.work.rest; threads = set_thread ts h.thread; events = e }) (record { rest = h.work.rest; threads = set_thread ts h2.thread; events = e }) (thread_things n false h.thread) (thread_things n false h2.thread) s.server server in
    subst (λ (r : Rest). Split (things_of (put_in k n ts e h)) (servers_things (with_server k.servers n (record { rest = r; threads = set_thread ts h2.thread; events = e }))) (thread_things n false h.thread) (thread_things n false h2.thread)) (sym same) there
