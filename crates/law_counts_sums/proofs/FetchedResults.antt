-- In a sound cluster with few events the delivery of a `fetched` has a result: its thread waits for it, and a copy that is there is the same.
use Rattle.std.proofs.Common.{◌≡◌, ℕ, ℤ, ◌*◌, ◌-◌, ◌^◌, ◌≤◌, ◌<◌, ◌==◌, ◌&&◌, nat_lt, is_some, Bool, true, false, if◌then◌else◌, List, [], ◌∷◌, Option, Some, None, IsSome, refl, sym, subst, ◌∙◌, arith}
use Rattle.std.specs.Prelude.{slice_get}
use Rattle.std.specs.Ordering.{int_eq}
use Rattle.std.proofs.lemmas.Cmp.{int_eq_equiv}
use Rattle.std.proofs.lemmas.Bool.{eqb-true, eq-eqb}
use Rattle.std.proofs.lemmas.Bool.Decides.{nat_tests}
use Rattle.coherent_memory.proofs.Below.fr_typing.PlaceLemmas.{eq_cases}
use Rattle.coherent_memory.specs.Below.fr_base.Lists.{is_in}
use Rattle.coherent_memory.specs.Below.fr_base.Names.{same_object, same_mutex}
use Rattle.coherent_memory.specs.Below.fr_base.declared.name.ObjNo.{ObjNo}
use Rattle.coherent_memory.specs.Below.fr_base.declared.name.MutexNo.{MutexNo}
use Rattle.coherent_memory.specs.Below.heap_partition.Same.{same_box, same_owned, same_cell}
use Rattle.coherent_memory.specs.Below.heap_partition.declared.value.BoxPtr.{BoxPtr}
use Rattle.coherent_memory.specs.Below.heap_partition.declared.value.Cell.{Cell}
use Rattle.coherent_memory.specs.Below.heap_partition.declared.value.Owned.{Owned}
use Rattle.coherent_memory.specs.Below.heap_partition.declared.value.Owned.TheVariants as owned
use Rattle.coherent_memory.specs.Below.read_cache.Cache.{Copy, copy_of, cell_in, users, users_in, is_cached, can_fill, same_or_absent, fill, can_pin}
use Rattle.coherent_memory.specs.Below.thread_state.View.{ThreadState}
use Rattle.coherent_memory.specs.Below.thread_state.declared.phase.Phase.{Phase}
use Rattle.coherent_memory.specs.Below.thread_state.declared.phase.Phase.TheVariants as phase
use Rattle.coherent_memory.specs.Below.server_msgs.declared.message.Message.{Message}
use Rattle.coherent_memory.specs.Below.server_msgs.declared.message.Message.TheVariants as message
use Rattle.coherent_memory.specs.Below.server_model.Servers.{Server, Cluster, server_at}
use Rattle.coherent_memory.specs.Below.server_model.Work.{Hand, used_once, with_cache, working}
use Rattle.coherent_memory.specs.Below.server_model.Objects.{waits_for_cell, filled, deliver_fetched}
use Rattle.coherent_memory.specs.Below.server_model.Events.{received}
use Rattle.coherent_memory.specs.Names.{tot, other}
use Rattle.coherent_memory.specs.Things.{copied, sent, things_of}
use Rattle.coherent_memory.specs.Follow.{threads_in, thread_at}
use Rattle.coherent_memory.specs.Sight.{sight}
use Rattle.coherent_memory.specs.Placing.{other_cell, clean_cell, other_copy, unclean}
use Rattle.coherent_memory.specs.Walking.{is_ready}
use Rattle.coherent_memory.specs.Requests.{is_cell, is_got, in_server, in_phase, carries, lost}
use Rattle.coherent_memory.specs.Naming.{events_of, large_counts}
use Rattle.coherent_memory.specs.Coherent.{IsSound}
use Rattle.coherent_memory.proofs.Names.{and_left, and_right, same_mutexes}
use Rattle.coherent_memory.proofs.Sums.{server_parts}
use Rattle.law_counts_sums.specs.Laws.{FewEvents, FetchedHaveResults}
use Rattle.law_counts_sums.proofs.Copies.{copy_word, copy_goes}
use Rattle.law_counts_sums.proofs.Events.{tot-server}
use Rattle.law_counts_sums.proofs.Each.{at_most}
use Rattle.law_counts_sums.proofs.Askers.{other_none}
use Rattle.law_counts_sums.proofs.HaveResults.{some_map, some_if, arrives}
use Rattle.law_counts_sums.proofs.AnswerResults.{at_it}
use Rattle.law_counts_sums.proofs.StandsHere.{IsWaiting, stands_here}
use Rattle.law_counts_sums.proofs.MutexResults.{mutex_self, has}

-- TWO THAT ARE THE SAME AS A THIRD ONE ARE THE SAME

both : (a b : Bool) → a ≡ true → b ≡ true → (a && b) ≡ true
both true true e h = refl
both true false e h = absurd (cc h)
both false b e h = absurd (cc e)

numbers : (a b d : ℕ) → (a == d) ≡ true → (b == d) ≡ true → (a == b) ≡ true
numbers a b d e h = eq-eqb a b (eqb-true a d e ∙ sym (eqb-true b d h))

objects : (a b d : ObjNo) → same_object a d ≡ true → same_object b d ≡ true → same_object a b ≡ true
objects a b d e h =
    both (a.thread == b.thread) (a.count == b.count) (numbers a.thread b.thread d.thread (and_left (a.thread == d.thread) (a.count == d.count) e) (and_left (b.thread == d.thread) (b.count == d.count) h))
    (numbers a.count b.count d.count (and_right (a.thread == d.thread) (a.count == d.count) e) (and_right (b.thread == d.thread) (b.count == d.count) h))

boxes : (a b d : BoxPtr) → same_box a d ≡ true → same_box b d ≡ true → same_box a b ≡ true
boxes a b d e h =
    both (a.word == b.word) (same_object a.object b.object) (numbers a.word b.word d.word (and_left (a.word == d.word) (same_object a.object d.object) e) (and_left (b.word == d.word) (same_object b.object d.object) h))
    (objects a.object b.object d.object (and_right (a.word == d.word) (same_object a.object d.object) e) (and_right (b.word == d.word) (same_object b.object d.object) h))

mutexes : (a b d : MutexNo) → same_mutex a d ≡ true → same_mutex b d ≡ true → same_mutex a b ≡ true
mutexes a b d e h = let same : a ≡ b = same_mutexes a d e ∙ sym (same_mutexes b d h) in subst (λ x. same_mutex a x ≡ true) same (mutex_self a)

ints : (a b d : ℤ) → int_eq a d ≡ true → int_eq b d ≡ true → int_eq a b ≡ true
ints a b d e h = let laws = int_eq_equiv in laws.congr a d b e ∙ laws.symm d b ∙ h

values : (a b d : Owned) → same_owned a d ≡ true → same_owned b d ≡ true → same_owned a b ≡ true
values a b owned.Nothing e h = by a b e h
  where
    by : (a b : Owned) → same_owned a owned.Nothing ≡ true → same_owned b owned.Nothing ≡ true → same_owned a b ≡ true
    by owned.Nothing owned.Nothing e h = refl
    by owned.Nothing _ e h = absurd (cc h)
    by _ b e h = absurd (cc e)
values a b owned.Unit e h = by a b e h
  where
    by : (a b : Owned) → same_owned a owned.Unit ≡ true → same_owned b owned.Unit ≡ true → same_owned a b ≡ true
    by owned.Unit owned.Unit e h = refl
    by owned.Unit _ e h = absurd (cc h)
    by _ b e h = absurd (cc e)
values a b (owned.Int d) e h = by a b e h
  where
    by : (a b : Owned) → same_owned a (owned.Int d) ≡ true → same_owned b (owned.Int d) ≡ true → same_owned a b ≡ true
    by (owned.Int x) (owned.Int y) e h = ints x y d e h
    by (owned.Int x) _ e h = absurd (cc h)
    by _ b e h = absurd (cc e)
values a b (owned.Box d) e h = by a b e h
  where
    by : (a b : Owned) → same_owned a (owned.Box d) ≡ true → same_owned b (owned.Box d) ≡ true → same_owned a b ≡ true
    by (owned.Box x) (owned.Box y) e h = boxes x y d e h
    by (owned.Box x) _ e h = absurd (cc h)
    by _ b e h = absurd (cc e)
values a b (owned.Mutex d) e h = by a b e h
  where
    by : (a b : Owned) → same_owned a (owned.Mutex d) ≡ true → same_owned b (owned.Mutex d) ≡ true → same_owned a b ≡ true
    by (owned.Mutex x) (owned.Mutex y) e h = mutexes x y d e h
    by (owned.Mutex x) _ e h = absurd (cc h)
    by _ b e h = absurd (cc e)
values a b (owned.Task d) e h = by a b e h
  where
    by : (a b : Owned) → same_owned a (owned.Task d) ≡ true → same_owned b (owned.Task d) ≡ true → same_owned a b ≡ true
    by (owned.Task x) (owned.Task y) e h = numbers x y d e h
    by (owned.Task x) _ e h = absurd (cc h)
    by _ b e h = absurd (cc e)

cells : (a b d : Cell) → same_cell a d ≡ true → same_cell b d ≡ true → same_cell a b ≡ true
cells a b d e h =
    both (same_object a.object b.object) (same_owned a.value b.value) (objects a.object b.object d.object (and_left (same_object a.object d.object) (same_owned a.value d.value) e) (and_left (same_object b.object d.object) (same_owned b.value d.value) h))
    (values a.value b.value d.value (and_right (same_object a.object d.object) (same_owned a.value d.value) e) (and_right (same_object b.object d.object) (same_owned b.value d.value) h))

-- where the present cell is there, two that don't differ from it are the same
same_present : (a b : Cell) (o : Option Cell) → is_some o ≡ true → other_cell a o ≡ 0 → other_cell b o ≡ 0 → same_cell a b ≡ true
same_present a b None there e h = absurd (cc there)
same_present a b (Some d) there e h = cells a b d (other_none (same_cell a d) e) (other_none (same_cell b d) h)

-- WHAT A FILLED CACHE HAS

fill_users : (cs : List Copy) (w : ℕ) (c : Cell) → users (fill cs w c) w ≡ users cs w
fill_users [] w c = let x : Copy = record { word = w; cell = c; users = 0 } in eq_cases (λ b. users_in (if b then Some x else None) ≡ 0) w w (λ e. refl) (λ ne. refl)
fill_users (x ∷ cs) w c =
    eq_cases (λ b. users (if b then x ∷ cs else x ∷ fill cs w c) w ≡ users_in (if b then Some x else copy_of cs w)) x.word w
    (λ e. eq_cases (λ b. users_in (if b then Some x else copy_of cs w) ≡ x.users) x.word w (λ d. refl) (λ ne. absurd (ne e)))
    (λ ne. eq_cases (λ b. users_in (if b then Some x else copy_of (fill cs w c) w) ≡ users cs w) x.word w (λ d. absurd (ne d)) (λ q. fill_users cs w c))

fill_there : (cs : List Copy) (w : ℕ) (c : Cell) → is_cached (fill cs w c) w ≡ true
fill_there [] w c = let x : Copy = record { word = w; cell = c; users = 0 } in eq_cases (λ b. is_some (if b then Some x else None) ≡ true) w w (λ e. refl) (λ ne. absurd (ne refl))
fill_there (x ∷ cs) w c =
    eq_cases (λ b. is_cached (if b then x ∷ cs else x ∷ fill cs w c) w ≡ true) x.word w
    (λ e. eq_cases (λ b. is_some (if b then Some x else copy_of cs w) ≡ true) x.word w (λ d. refl) (λ ne. absurd (ne e)))
    (λ ne. eq_cases (λ b. is_some (if b then Some x else copy_of (fill cs w c) w) ≡ true) x.word w (λ d. refl) (λ q. fill_there cs w c))

-- WHO WAITS

cell_waits : (w : ℕ) → IsWaiting (is_cell w)
cell_waits w = record { unready = by; ungot = by2 }
  where
    by : (p : Phase) → is_cell w p ≡ true → is_ready p ≡ false
    by (phase.WaitCell v) e = refl
    by _ e = absurd (cc e)

    by2 : (p : Phase) → is_cell w p ≡ true → is_got p ≡ false
    by2 (phase.WaitCell v) e = refl
    by2 _ e = absurd (cc e)

waits : (p : Phase) (w : ℕ) → is_cell w p ≡ true → waits_for_cell p w ≡ true
waits (phase.WaitCell v) w e = e
waits _ w e = absurd (cc e)

module _ (k : Cluster) (sound : IsSound k) (few : FewEvents k) (number i : ℕ) (s : Server) (here : server_at k.servers number ≡ Some s) (w : ℕ) (c : Cell) (t : ℕ) (q : slice_get s.rest.inbox i ≡ Some (message.Fetched w c t)) where
  abbrev n : ℕ
  n = s.rest.number

  abbrev m : Message
  m = message.Fetched w c t

  abbrev cs : List Copy
  cs = s.rest.cache

  present : is_some (clean_cell (sight k) w) ≡ true
  present = let all : tot (unclean (sight k)) (things_of k) ≡ 0 = sound.copies.served_are_clean in other_none _ (omega (arith, all, has k sound number s here i m q (unclean (sight k))))

  agree : tot (other_copy (sight k)) (things_of k) ≡ 0
  agree = sound.copies.copies_agree

  its_cell : other_cell c (clean_cell (sight k) w) ≡ 0
  its_cell = omega (arith, agree, has k sound number s here i m q (other_copy (sight k)))

  -- a copy that is there weighs no more than all
  copy_less : (x : Copy) → copy_of cs w ≡ Some x → (f : Rattle.coherent_memory.specs.Things.Thing → ℕ) → f (copied n x) ≤ tot f (things_of k)
  copy_less x e f = let t = copy_goes n cs w x e in omega (arith, (tot-server f k.servers number s s here).0, server_parts f s, t.before f)

  fits : (o : Option Copy) → copy_of cs w ≡ o → same_or_absent (cell_in o) c ≡ true
  fits None e = refl
  fits (Some x) e =
      let mine : other_cell x.cell (clean_cell (sight k) x.word) ≡ 0 = omega (arith, agree, copy_less x e (other_copy (sight k))) in
      same_present x.cell c (clean_cell (sight k) w) present (subst (λ v. other_cell x.cell (clean_cell (sight k) v) ≡ 0) (copy_word cs w x e) mine) its_cell

  users_few : (o : Option Copy) → copy_of cs w ≡ o → users_in o ≤ 16 * events_of (sight k)
  users_few None e = omega arith
  users_few (Some x) e =
      let all : tot (large_counts (events_of (sight k))) (things_of k) ≡ 0 = sound.names.counts_bounded in
      at_most x.users (16 * events_of (sight k)) (omega (arith, all, copy_less x e (large_counts (events_of (sight k)))))

  pins : can_pin (fill cs w c) w ≡ true
  pins =
      let below : users (fill cs w c) w < 2 ^ 64 - 1 = omega (arith, fill_users cs w c, users_few (copy_of cs w) refl, few) in
      both (is_cached (fill cs w c) w) (nat_lt (users (fill cs w c) w) (2 ^ 64 - 1)) (fill_there cs w c) (grind (arith, nat_tests, below))

  uses : (h : Hand) → h.work.rest.cache ≡ fill cs w c → (b : Bool) → IsSome (used_once w b h)
  uses h e true = refl
  uses h e false = some_if (can_pin h.work.rest.cache w) _ (subst (λ x. can_pin x w ≡ true) (sym e) pins) refl

  delivered : (y : ThreadState) → waits_for_cell y.phase w ≡ true → IsSome (deliver_fetched w c (record { work = (received i s).work; thread = y }))
  delivered y e =
      let h : Hand = record { work = (received i s).work; thread = y } in
      some_if (waits_for_cell y.phase w) _ e (some_map _ (filled w c h) (some_if (can_fill cs w c) _ (fits (copy_of cs w) refl) (uses (working (with_cache (fill cs w c)) h) refl (is_in w y.walk))))

  result : IsSome (Rattle.coherent_memory.specs.Below.server_model.Events.deliver_message k.code m (received i s))
  result =
      let carried : tot (carries (sight k)) (things_of k) ≡ 0 = sound.requests.carry_what_is_asked in
      let returned : tot (lost (sight k)) (things_of k) ≡ 0 = sound.requests.return_right in
      let a : other (in_phase (is_cell w) (thread_at (threads_in (things_of k)) t)) ≡ 0 = omega (arith, carried, has k sound number s here i m q (carries (sight k))) in
      let b : other (in_server n (thread_at (threads_in (things_of k)) t)) ≡ 0 = omega (arith, returned, has k sound number s here i m q (lost (sight k))) in
      let it = stands_here k sound number s here t (is_cell w) (cell_waits w) (other_none _ b) (other_none _ a) in
      let y = it.0 in
      let there : is_cell w y.phase ≡ true = and_left (is_cell w y.phase) _ (and_right (n == n) _ it.2) in
      at_it s i t (deliver_fetched w c) y it.1 (delivered y (waits y.phase w there))

pub fetched_have_results : FetchedHaveResults
fetched_have_results k number i s w c t sound few here on q = arrives k number i s (message.Fetched w c t) here on q (result k sound few number i s here w c t q)
