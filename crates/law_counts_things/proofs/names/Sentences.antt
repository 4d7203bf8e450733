-- The sentences on names: colours below the limit, counts from 1 and no further than a server has come, and few names.
use Rattle.std.proofs.Common.{◌≡◌, ℕ, zero, suc, ◌+◌, ◌*◌, ◌≤◌, ◌==◌, ◌&&◌, ◌||◌, not, nat_lt, nat_le, List, [], ◌∷◌, refl, sym, subst, arith}
use Rattle.std.proofs.lemmas.Bool.Decides.{nat_tests}
use Rattle.law_counts_things.specs.Below.fr_base.declared.name.MutexNo.{MutexNo}
use Rattle.law_counts_things.specs.Below.fr_base.declared.name.ObjNo.{ObjNo}
use Rattle.law_counts_things.specs.Below.fr_base.declared.instruction.Instr.{Instr}
use Rattle.law_counts_things.specs.Below.thread_state.View.{ThreadState, is_over}
use Rattle.law_counts_things.specs.Below.global_addr.Words.{colour_of}
use Rattle.law_counts_things.specs.Below.thread_state.declared.value.Value.{Value}
use Rattle.law_counts_things.specs.Below.thread_state.declared.value.Value.TheVariants as value
use Rattle.law_counts_things.specs.Below.journal.View.{EntryView}
use Rattle.law_counts_things.specs.Below.server_model.declared.event.Event.{Event}
use Rattle.law_counts_things.specs.Below.server_model.Servers.{Server, Cluster, server_at}
use Rattle.law_counts_things.specs.Below.server_model.Clusters.{apply}
use Rattle.law_counts_things.specs.Below.coherent_memory.Names.{tot, other, some}
use Rattle.law_counts_things.specs.Below.coherent_memory.Things.{Thing, at_slot, at_temp, in_cell, borrows, locks, lies, vacant, stands, counts, things_of}
use Rattle.law_counts_things.specs.Below.coherent_memory.Sight.{sight}
use Rattle.law_counts_things.specs.Below.coherent_memory.Placing.{words, next_colours}
use Rattle.law_counts_things.specs.Below.coherent_memory.Requests.{home_of}
use Rattle.law_counts_things.specs.Below.coherent_memory.Naming.{threads, named_mutexes, count_of, started_at, made_at, uncounted_thread, uncounted_mutex, zeroth_thread, zeroth_mutex, events_of, many_names}
use Rattle.law_counts_things.specs.Below.coherent_memory.Coherent.{Holds, IsSound, below_limit, names_counted, counts_from_one, few_names}
use Rattle.law_counts_things.proofs.Below.coherent_memory.Names.{and_left, and_right, if_none}
use Rattle.law_counts_things.specs.Below.law_counts_sums.Laws.{Gives, FewEvents}
use Rattle.law_counts_things.proofs.Below.law_counts_sums.Results.{weaker}
use Rattle.law_counts_things.proofs.Below.law_counts_sums.Boxes.{tot_le}
use Rattle.law_counts_things.proofs.Below.law_counts_sums.Askers.{other_none}
use Rattle.law_counts_things.specs.things.Laws.{EachEventKeeps}
use Rattle.law_counts_things.proofs.names.Fit.{Weights, marks, Base}
use Rattle.law_counts_things.proofs.names.Sums.{holder_of, loose, asked_of, no_asker, cell_object, going_of, copy_of, no_copy, stray}
use Rattle.law_counts_things.proofs.names.Split.{two_le, threads_split, mutexes_split}
use Rattle.law_counts_things.proofs.names.Named.{Also, above_less, some_le, names, counted}
use Rattle.law_counts_things.proofs.names.Kept.{Coded, Before, GoneOn, ends_as, gone_on}

-- SUMS

tot_both : (f g : Thing → ℕ) (b : List Thing) → tot (λ x. f x + g x) b ≡ tot f b + tot g b
tot_both f g [] = refl
tot_both f g (x ∷ b) = omega (arith, tot_both f g b)

pub no_holder : (b : List Thing) → tot (holder_of (λ m. 0)) b ≡ 0
no_holder [] = refl
no_holder (x ∷ b) = omega (arith, none x, no_holder b)
  where
    none : (x : Thing) → holder_of (λ m. 0) x ≡ 0
    none (borrows l r) = refl
    none x = refl

pub no_mark : (b : List Thing) → tot (loose 0) b ≡ 0
no_mark [] = refl
no_mark (x ∷ b) = omega (arith, none x, no_mark b)
  where
    none : (x : Thing) → loose 0 x ≡ 0
    none (locks (at_temp t i) m) = refl
    none (locks (at_slot t i) m) = refl
    none (locks (in_cell o) m) = refl
    none x = refl

-- WHAT NO NAME BREAKS

module _ (k : Cluster) (also : Also) (j : Base) (c : Cluster) (g : GoneOn k also j c) where
  abbrev w : Weights
  w = names k also j

  abbrev b : List Thing
  b = things_of c

  abbrev word_out : ℕ → ℕ
  word_out v = other (nat_lt (colour_of v) k.options.colours)

  coloured : (x : Thing) → words word_out x + next_colours k.options.colours x ≤ stray w x
  coloured (vacant s a m) = omega arith
  coloured x = omega arith

  limit_kept : Holds c below_limit
  limit_kept =
      subst (λ o. tot (words (λ v. other (nat_lt (colour_of v) o.colours))) b + tot (next_colours o.colours) b ≡ 0) (sym g.same_options)
      (omega (arith, two_le (words word_out) (next_colours k.options.colours) (stray w) coloured b, g.none))

  -- twice a weight that is nothing
  twice : tot (λ x. stray w x + stray w x) b ≡ 0
  twice = omega (arith, tot_both (stray w) (stray w) b, g.none)

  from_one : (x : Thing) → threads zeroth_thread x + named_mutexes zeroth_mutex x ≤ stray w x + stray w x
  from_one x = omega (arith, threads_split zeroth_thread w.thread w.thread (λ t. omega arith) x, mutexes_split zeroth_mutex w.mutex w.mutex (λ m. omega arith) x)

  from_one_kept : Holds c counts_from_one
  from_one_kept = omega (arith, two_le (threads zeroth_thread) (named_mutexes zeroth_mutex) (λ x. stray w x + stray w x) from_one b, twice)

  thread_there : (t : ℕ) → w.thread t ≡ 0 → 1 ≤ tot (started_at (home_of t) (count_of t)) b
  thread_there t z = by (tot (started_at (home_of t) (count_of t)) (things_of k)) refl (omega (arith, z))
    where
      by : (m : ℕ) → tot (started_at (home_of t) (count_of t)) (things_of k) ≡ m → other (some m || (home_of t == j.number && nat_le (count_of t) j.started)) ≡ 0 → 1 ≤ tot (started_at (home_of t) (count_of t)) b
      by (suc m) e q = omega (arith, e, g.started (home_of t) (count_of t))
      by zero e q =
          let is = other_none (home_of t == j.number && nat_le (count_of t) j.started) q in
          let a = and_left (home_of t == j.number) (nat_le (count_of t) j.started) is in
          let l = and_right (home_of t == j.number) (nat_le (count_of t) j.started) is in
          let home : j.number ≡ home_of t = grind (arith, nat_tests, a) in
          let low : count_of t ≤ j.started = grind (arith, nat_tests, l) in
          subst (λ s. 1 ≤ tot (started_at s (count_of t)) b) home (g.reached (count_of t) low)

  mutex_there : (m : MutexNo) → w.mutex m ≡ 0 → 1 ≤ tot (made_at m.home m.count) b
  mutex_there m z = by (tot (made_at m.home m.count) (things_of k)) refl (omega (arith, z))
    where
      by : (p : ℕ) → tot (made_at m.home m.count) (things_of k) ≡ p → other (some p || (m.home == j.number && nat_le m.count j.made)) ≡ 0 → 1 ≤ tot (made_at m.home m.count) b
      by (suc p) e q = omega (arith, e, g.made m.home m.count)
      by zero e q =
          let is = other_none (m.home == j.number && nat_le m.count j.made) q in
          let a = and_left (m.home == j.number) (nat_le m.count j.made) is in
          let l = and_right (m.home == j.number) (nat_le m.count j.made) is in
          let home : j.number ≡ m.home = grind (arith, nat_tests, a) in
          let low : m.count ≤ j.made = grind (arith, nat_tests, l) in
          subst (λ s. 1 ≤ tot (made_at s m.count) b) home (g.reached_made m.count low)

  thread_le : (t : ℕ) → uncounted_thread (sight c) t ≤ w.thread t + w.thread t
  thread_le t = omega (arith, some_le (tot (started_at (home_of t) (count_of t)) b) (w.thread t) (thread_there t))

  mutex_le : (m : MutexNo) → uncounted_mutex (sight c) m ≤ w.mutex m + w.mutex m
  mutex_le m = omega (arith, some_le (tot (made_at m.home m.count) b) (w.mutex m) (mutex_there m))

  counted_so : (x : Thing) → threads (uncounted_thread (sight c)) x + named_mutexes (uncounted_mutex (sight c)) x ≤ stray w x + stray w x
  counted_so x = omega (arith, threads_split (uncounted_thread (sight c)) w.thread w.thread thread_le x, mutexes_split (uncounted_mutex (sight c)) w.mutex w.mutex mutex_le x)

  counted_kept : Holds c names_counted
  counted_kept = omega (arith, two_le (threads (uncounted_thread (sight c))) (named_mutexes (uncounted_mutex (sight c))) (λ x. stray w x + stray w x) counted_so b, twice)

  abbrev soon : ℕ
  soon = events_of (sight k) + 1

  few_so : (x : Thing) → many_names (events_of (sight c)) x ≤ counted soon x + stray w x
  few_so (counts r next old started made events) =
      omega (arith, above_less started (2 * soon) (2 * events_of (sight c)) (omega (arith, g.more)), above_less made (2 * soon) (2 * events_of (sight c)) (omega (arith, g.more)))
  few_so (stands s p t) = omega (arith, above_less t.made (2 * soon) (2 * events_of (sight c)) (omega (arith, g.more)))
  few_so x = omega arith

  few_kept : Holds c few_names
  few_kept = omega (arith, tot_le (many_names (events_of (sight c))) (λ x. counted soon x + stray w x) few_so b, tot_both (counted soon) (stray w) b, g.few, g.none)

  held_so : (x : Thing) → holder_of also.holder x ≤ stray w x
  held_so x = omega arith

  pub holders_kept : tot (holder_of also.holder) b ≡ 0
  holders_kept = omega (arith, tot_le (holder_of also.holder) (stray w) held_so b, g.none)

  marked_so : (x : Thing) → loose also.mark x ≤ stray w x
  marked_so x = omega arith

  pub marks_kept : tot (loose also.mark) b ≡ 0
  marks_kept = omega (arith, tot_le (loose also.mark) (stray w) marked_so b, g.none)

  asked_so : (x : Thing) → asked_of also.asker x ≤ stray w x
  asked_so x = omega arith

  pub askers_kept : tot (asked_of also.asker) b ≡ 0
  askers_kept = omega (arith, tot_le (asked_of also.asker) (stray w) asked_so b, g.none)

-- FROM A SOUND CLUSTER

abbrev pub nothing : ℕ → ℕ
nothing m = 0

abbrev pub nobody : ℕ → ℕ → ℕ
nobody r t = 0

abbrev pub no_object : ObjNo → ℕ
no_object o = 0

pub no_objects : (b : List Thing) → tot (cell_object no_object) b ≡ 0
no_objects [] = refl
no_objects (x ∷ b) = omega (arith, none x, no_objects b)
  where
    none : (x : Thing) → cell_object no_object x ≡ 0
    none (lies s a c) = refl
    none x = refl

pub no_going : (b : List Thing) → tot (going_of nobody) b ≡ 0
no_going [] = refl
no_going (x ∷ b) = omega (arith, none x, no_going b)
  where
    none : (x : Thing) → going_of nobody x ≡ 0
    none (stands s p t) = if_none (not (is_over t.phase)) 0 refl
    none x = refl

pub no_copies : (b : List Thing) → tot (copy_of (λ v c. 0) (λ v. 0)) b ≡ 0
no_copies [] = refl
no_copies (x ∷ b) = omega (arith, no_copy x, no_copies b)

-- weights of askers alone, of holders and marks alone, and none at all
abbrev pub asking : (ℕ → ℕ → ℕ) → Also
asking ask = record { holder = nothing; mark = 0; asker = ask; object = no_object; going = nobody; copy = λ v c. 0; wanted = nothing }

abbrev pub holding : (ℕ → ℕ) → ℕ → Also
holding d n = record { holder = d; mark = n; asker = nobody; object = no_object; going = nobody; copy = λ v c. 0; wanted = nothing }

abbrev pub none_else : Also
none_else = asking nobody

pub asking_before : (k : Cluster) (ask : ℕ → ℕ → ℕ) → tot (asked_of ask) (things_of k) ≡ 0 → Before k (asking ask)
asking_before k ask z = record { holders = no_holder (things_of k); marks_none = no_mark (things_of k); askers = z; objects = no_objects (things_of k); lives = no_going (things_of k); copies = no_copies (things_of k); served = λ n s h i v o r t c q z. refl }

pub no_askers : (b : List Thing) → tot (asked_of nobody) b ≡ 0
no_askers [] = refl
no_askers (x ∷ b) = omega (arith, no_asker x, no_askers b)

-- no value is a mark that weighs something
pub unmarked_by : (k : Cluster) (also : Also) (j : Base) (v : Value) → also.mark ≡ 0 → marks (names k also j) v ≡ 0
unmarked_by k also j (value.Held m) z = z
unmarked_by k also j value.Gone z = refl
unmarked_by k also j (value.Own v) z = refl
unmarked_by k also j (value.SharedSlot i) z = refl
unmarked_by k also j (value.MutSlot i) z = refl
unmarked_by k also j (value.Shared r) z = refl
unmarked_by k also j (value.Mut r) z = refl

pub plain_step : (k : Cluster) (ask : ℕ → ℕ → ℕ) (s : Server) (i : Instr) (y : ThreadState) → ask s.rest.number y.number ≡ 0 → Coded k (asking ask) s i y
plain_step k ask s i y z = record { stands = z; lives = λ e. refl; boxed = λ o e. (refl, refl); young = λ c l m. refl; lends = λ p m c z. refl; asks = λ f p. refl; moves = λ j p c h h2 x v q z u. unmarked_by k (asking ask) j v refl }

kept_by : (P : Cluster → Type 0) → ((k : Cluster) (j : Base) (c : Cluster) → GoneOn k none_else j c → P c) → (k : Cluster) (e : Event) → IsSound k → FewEvents k → Gives (λ (x : Cluster × EntryView). P x.0) (apply k e)
kept_by P go k e sound few =
    weaker (λ (x : Cluster × EntryView). GoneOn k none_else (ends_as k e (server_at k.servers e.server)) x.0) (λ (x : Cluster × EntryView). P x.0) (apply k e)
    (gone_on k e none_else sound few (asking_before k nobody (no_askers (things_of k))) (λ s here t y i q there at on. plain_step k nobody s i y refl))
    (λ x g. go k (ends_as k e (server_at k.servers e.server)) x.0 g)

pub limits_kept : EachEventKeeps below_limit
limits_kept = kept_by (λ c. Holds c below_limit) (λ k j c g. limit_kept k none_else j c g)

pub counts_kept : EachEventKeeps counts_from_one
counts_kept = kept_by (λ c. Holds c counts_from_one) (λ k j c g. from_one_kept k none_else j c g)

pub names_kept : EachEventKeeps names_counted
names_kept = kept_by (λ c. Holds c names_counted) (λ k j c g. counted_kept k none_else j c g)

pub fews_kept : EachEventKeeps few_names
fews_kept = kept_by (λ c. Holds c few_names) (λ k j c g. few_kept k none_else j c g)
