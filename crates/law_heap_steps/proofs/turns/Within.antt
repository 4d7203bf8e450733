-- A thread's things among those of its cluster: where the thread changes in its place, all others stay where they are.
use Rattle.std.proofs.Common.{◌≡◌, ℕ, ◌+◌, false, if◌then◌else◌, List, [], ◌∷◌, ◌++◌, Some, refl, sym, ap, ◌∙◌, subst}
use Rattle.std.proofs.lemmas.List.{append_assoc}
use Rattle.law_words_kept.proofs.Below.fr_typing.PlaceLemmas.{eq_cases}
use Rattle.law_words_kept.specs.Below.thread_state.View.{ThreadState}
use Rattle.law_words_kept.specs.Below.server_model.Servers.{Server, server_at}
use Rattle.law_words_kept.specs.Below.server_model.Work.{thread_in, set_thread}
use Rattle.law_words_kept.specs.Below.server_model.Clusters.{with_server}
use Rattle.law_words_kept.specs.Below.coherent_memory.Things.{Thing, things_at, partition_things, copy_things, mutex_things, task_things, thread_things, standing_things, waiting_things, leaving_things, server_things, servers_things}
use Rattle.law_words_kept.proofs.Below.law_counts_sums.Bags.{counts_of}

-- one list has the first things, and the other the second ones, between the same things
pub record Within (x y a b : List Thing) : Type 0 where
  pub front : List Thing
  pub back : List Thing
  pub before : a ≡ front ++ (x ++ back)
  pub afterwards : b ≡ front ++ (y ++ back)

module _ (x y : List Thing) where
  wide_left : (l a b : List Thing) → Within x y a b → Within x y (l ++ a) (l ++ b)
  wide_left l a b w = record {
    front = l ++ w.front;
    back = w.back;
    before = ap (λ r. l ++ r) w.before ∙ sym (append_assoc l w.front (x ++ w.back));
    afterwards = ap (λ r. l ++ r) w.afterwards ∙ sym (append_assoc l w.front (y ++ w.back));
  }

  wide_right : (r a b : List Thing) → Within x y a b → Within x y (a ++ r) (b ++ r)
  wide_right r a b w = record {
    front = w.front;
    back = w.back ++ r;
    before = ap (λ l. l ++ r) w.before ∙ append_assoc w.front (x ++ w.back) r ∙ ap (λ l. w.front ++ l) (append_assoc x w.back r);
    afterwards = ap (λ l. l ++ r) w.afterwards ∙ append_assoc w.front (y ++ w.back) r ∙ ap (λ l. w.front ++ l) (append_assoc y w.back r);
  }

module _ (n : ℕ) (x y : ThreadState) where
  abbrev olds : List Thing
  olds = thread_things n false x

  abbrev news : List Thing
  news = thread_things n false y

  threads_within : (ts : List ThreadState) (i : ℕ) → thread_in ts y.number ≡ Some x → Within olds news (things_at (standing_things n) i ts) (things_at (standing_things n) i (set_thread ts y))
  threads_within [] i h = absurd (cc h)
  threads_within (z ∷ ts) i h =
      eq_cases (λ q. (if q then Some z else thread_in ts y.number) ≡ Some x → Within olds news (things_at (standing_things n) i (z ∷ ts)) (things_at (standing_things n) i (if q then y ∷ ts else z ∷ set_thread ts y))) z.number y.number
      (λ e g. let same : z ≡ x = cc in record { front = []; back = things_at (standing_things n) (i + 1) ts; before = ap (λ v. thread_things n false v ++ things_at (standing_things n) (i + 1) ts) same; afterwards = refl })
      (λ ne g. wide_left olds news (thread_things n false z) (things_at (standing_things n) (i + 1) ts) (things_at (standing_things n) (i + 1) (set_thread ts y)) (threads_within ts (i + 1) g)) h

module _ (s : Server) (x y : ThreadState) (there : thread_in s.threads y.number ≡ Some x) where
  abbrev m : ℕ
  m = s.rest.number

  abbrev pub with_turn : Server
  with_turn = record s { threads = set_thread s.threads y }

  server_within : Within (thread_things m false x) (thread_things m false y) (server_things s) (server_things with_turn)
  server_within =
      let l = counts_of m s.events s.rest ∷ partition_things m s.rest.partition ++ things_at (copy_things m) 0 s.rest.cache ++ things_at (mutex_things m) 0 s.rest.mutexes.there ++ things_at (task_things m) 0 s.rest.tasks in
      let a = things_at (standing_things m) 0 s.threads in
      let b = things_at (standing_things m) 0 (set_thread s.threads y) in
      let r = things_at (waiting_things m) 0 s.rest.inbox in
      let u = things_at leaving_things 0 s.rest.outbox in
      let olds = thread_things m false x in
      let news = thread_things m false y in
      wide_right olds news u (l ++ a ++ r) (l ++ b ++ r) (wide_right olds news r (l ++ a) (l ++ b) (wide_left olds news l a b (threads_within m x y s.threads 0 there)))

  -- so it is in the whole run
  pub servers_within : (ss : List Server) (n : ℕ) → server_at ss n ≡ Some s → Within (thread_things m false x) (thread_things m false y) (servers_things ss) (servers_things (with_server ss n with_turn))
  servers_within [] n h = absurd (cc h)
  servers_within (z ∷ ss) n h =
      let olds = thread_things m false x in
      let news = thread_things m false y in
      eq_cases (λ q. (if q then Some z else server_at ss n) ≡ Some s → Within olds news (servers_things (z ∷ ss)) (servers_things (if q then with_turn ∷ ss else z ∷ with_server ss n with_turn))) z.rest.number n
      (λ e g. let same : s ≡ z = cc in subst (λ v. Within olds news (server_things v ++ servers_things ss) (server_things with_turn ++ servers_things ss)) same (wide_right olds news (servers_things ss) (server_things s) (server_things with_turn) server_within))
      (λ ne g. wide_left olds news (server_things z) (servers_things ss) (servers_things (with_server ss n with_turn)) (servers_within ss n g)) h
