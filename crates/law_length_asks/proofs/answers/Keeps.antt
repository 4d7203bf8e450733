-- No event but a step of the thread itself gives a thread more asks.
use Rattle.std.proofs.Common.{◌≡◌, ◌≤◌, ℕ, ◌+◌, ◌-◌, ◌==◌, ◌&&◌, not, is_some, nat_lt, Bool, true, false, Option, Some, None, option_map, refl, sym, ap, subst, ◌∙◌, arith}
use Rattle.std.specs.Prelude.{slice_get, length}
use Rattle.std.proofs.lemmas.Bool.{eqb-true, eq-eqb}
use Rattle.law_length_asks.proofs.Below.law_walks_others.Below.fr_typing.PlaceLemmas.{eq_cases}
use Rattle.law_length_asks.specs.Below.law_walks_others.Below.heap_partition.declared.value.Cell.{Cell}
use Rattle.law_length_asks.specs.Below.law_walks_others.Below.heap_partition.declared.value.Owned.{Owned}
use Rattle.law_length_asks.specs.Below.law_walks_others.Below.journal.View.{EntryView}
use Rattle.law_length_asks.specs.Below.law_walks_others.Below.migration.Packing.{packed}
use Rattle.law_length_asks.specs.Below.law_walks_others.Below.thread_state.View.{ThreadState}
use Rattle.law_length_asks.specs.Below.law_walks_others.Below.thread_state.declared.phase.Phase.{Phase}
use Rattle.law_length_asks.specs.Below.law_walks_others.Below.thread_state.declared.phase.Phase.TheVariants as phase
use Rattle.law_length_asks.specs.Below.law_walks_others.Below.server_msgs.declared.message.Message.{Message}
use Rattle.law_length_asks.specs.Below.law_walks_others.Below.server_msgs.declared.message.Message.TheVariants as message
use Rattle.law_length_asks.specs.Below.law_walks_others.Below.server_model.declared.event.Event.{Event}
use Rattle.law_length_asks.specs.Below.law_walks_others.Below.server_model.declared.event.What.{What}
use Rattle.law_length_asks.specs.Below.law_walks_others.Below.server_model.declared.event.What.TheVariants.{Step, Deliver, Evict, Migrate}
use Rattle.law_length_asks.specs.Below.law_walks_others.Below.server_model.Servers.{Server, Cluster, server_at}
use Rattle.law_length_asks.specs.Below.law_walks_others.Below.server_model.Work.{Hand, then_some, thread_in}
use Rattle.law_length_asks.specs.Below.law_walks_others.Below.server_model.Objects.{deliver_fetched, deliver_moved}
use Rattle.law_length_asks.specs.Below.law_walks_others.Below.server_model.Events.{has_phase, enabled, is_ready, received, does}
use Rattle.law_length_asks.specs.Below.law_walks_others.Below.server_model.Clusters.{hand_over_newer, done_at, apply}
use Rattle.law_length_asks.specs.Below.law_walks_others.Below.coherent_memory.Names.{tot, other, if_so, Among}
use Rattle.law_length_asks.specs.Below.law_walks_others.Below.coherent_memory.Things.{things_of}
use Rattle.law_length_asks.specs.Below.law_walks_others.Below.coherent_memory.Follow.{Standing, threads_in, thread_at}
use Rattle.law_length_asks.specs.Below.law_walks_others.Below.coherent_memory.Paths.{Path, no_path, reads, shares, lends, writes, ends}
use Rattle.law_length_asks.specs.Below.law_walks_others.Below.coherent_memory.Sight.{Sight, sight}
use Rattle.law_length_asks.specs.Below.law_walks_others.Below.coherent_memory.Walking.{busy_parcel, path}
use Rattle.law_length_asks.specs.Below.law_walks_others.Below.coherent_memory.Walking as walking
use Rattle.law_length_asks.proofs.Below.law_walks_others.Below.coherent_memory.Names.{and_left}
use Rattle.law_length_asks.proofs.Below.law_walks_others.Below.coherent_memory.Words.{none_at, none_all}
use Rattle.law_length_asks.specs.Below.law_walks_others.Below.coherent_types.ClusterTypes.{IsCoherent}
use Rattle.law_length_asks.specs.Below.law_walks_others.Below.law_words_paths.paths.HeapStore.{GoesOn}
use Rattle.law_length_asks.proofs.Below.law_walks_others.Below.law_words_paths.paths.Contained.{among_thread}
use Rattle.law_length_asks.specs.Below.law_words_borrows.Below.law_words_paths.words.Reworded.{HasPlaces}
use Rattle.law_length_asks.specs.Below.law_words_borrows.Below.law_words_paths.words.Unmoved.{Delivers}
use Rattle.law_length_asks.specs.Below.law_walks_others.Below.law_counts_sums.Kinds.{fetched, message_kind, kind_at}
use Rattle.law_length_asks.specs.Below.law_walks_others.Below.law_counts_sums.Laws.{Gives, FewEvents}
use Rattle.law_length_asks.proofs.Below.law_walks_others.Below.law_counts_sums.Bags.{thread_number}
use Rattle.law_length_asks.proofs.Below.law_walks_others.Below.law_counts_sums.Results.{given_by, weaker, then_gives, over_gives, test_gives}
use Rattle.law_length_asks.proofs.Below.law_walks_others.Below.law_counts_sums.ThreadThere.{thread_there}
use Rattle.law_length_asks.proofs.Below.law_walks_others.Below.law_counts_things.things.Goes.{Goes, IsGotten, IsAsking, moved_goes, fetched_goes}
use Rattle.law_length_asks.proofs.Below.law_walks_others.Below.law_counts_things.things.Handed.{Stood as StandsThere, InParcel}
use Rattle.law_length_asks.proofs.Below.law_walks_others.Below.law_heap_still.events.Told.{found}
use Rattle.law_length_asks.proofs.Below.law_words_borrows.Below.law_counts_things.names.Stays.{Leaves}
use Rattle.law_length_asks.proofs.Below.law_walks_others.Below.law_counts_waiting.waits.Fates.{Fates}
use Rattle.law_length_asks.proofs.Below.law_walks_others.pointers.Clusters.{goes_number}
use Rattle.law_length_asks.proofs.Below.law_walks_others.pointers.Followed.{same_settings}
use Rattle.law_length_asks.proofs.Below.law_walks_others.pointers.Still.{places_of}
use Rattle.law_length_asks.proofs.Below.law_walks_others.arrivals.Own.{OwnLeft, own_left}
use Rattle.law_length_asks.proofs.Below.law_walks_others.arrivals.Waiter.{waits_under_it}
use Rattle.law_length_asks.proofs.Below.law_walks_others.arrivals.Itself.{goes_on, goes}
use Rattle.law_length_asks.specs.ahead.Ahead.{ahead_on, ahead, SameAhead}
use Rattle.law_length_asks.proofs.ahead.Events.{steady_leave}
use Rattle.law_length_asks.specs.hops.Beside.{IsBeside}
use Rattle.law_length_asks.proofs.hops.Beside.{events_beside_leave}
use Rattle.law_length_asks.specs.left.Left.{eight, to_come, asks_by, asks_of, asks_at, left}
use Rattle.law_length_asks.proofs.left.Few.{come_few, at_few}
use Rattle.law_length_asks.proofs.left.Beside.{asks_same, is_calm, calm_all, going, others_steps}
use Rattle.law_length_asks.specs.answers.Events.{EventsLeaveAsks}
use Rattle.law_length_asks.proofs.answers.Stand.{stands_still}
use Rattle.law_length_asks.proofs.answers.Unstarted.{quiet, no_start, NoStep, moved_quiet, fated_quiet}
use Rattle.law_length_asks.proofs.answers.Comes.{moved_comes}
use Rattle.law_length_asks.proofs.answers.Fills.{fetched_comes}

-- A THREAD OUT OF ITS PARCEL

abbrev bare : Standing → Standing
bare x = record { server = x.server; packed = false; thread = x.thread }

ahead_bare : (s : Sight) (x : Standing) (p : Path) → ahead_on s (bare x) p ≡ ahead_on s x p
ahead_bare s x no_path = refl
ahead_bare s x (reads w) = refl
ahead_bare s x (shares w) = refl
ahead_bare s x (lends w) = refl
ahead_bare s x (writes w) = refl
ahead_bare s x (ends r) = refl

come_bare : (s : Sight) (x : Standing) → to_come s (bare x) ≡ to_come s x
come_bare s x = let a = ap eight (ahead_bare s x (path s x)) in omega (arith, a)

by_bare : (s : Sight) (x : Standing) (p : Phase) (g : Option Owned) → asks_by s (bare x) p g ≡ asks_by s x p g
by_bare s x (phase.WaitCell w) g = come_bare s x
by_bare s x phase.Got None = ap (λ n. n + 1) (come_bare s x)
by_bare s x phase.Got (Some v) = refl
by_bare s x (phase.Taken w) g = refl
by_bare s x (phase.WaitLock m) g = refl
by_bare s x (phase.WaitDup m) g = refl
by_bare s x (phase.WaitJoin u) g = refl
by_bare s x phase.Ready g = refl
by_bare s x phase.Over g = refl
by_bare s x (phase.WaitPar a b) g = refl
by_bare s x (phase.GotPar a b) g = refl

asks_bare : (s : Sight) (x : Standing) → asks_of s (bare x) ≡ asks_of s x
asks_bare s x = by_bare s x x.thread.phase x.thread.gift

-- WHO HAS MORE

abbrev is_waiting : Phase → Bool
is_waiting (phase.WaitCell w) = true
is_waiting p = false

-- who waits for a cell may be let out
abbrev rest : Bool → Bool → ℕ → ℕ
rest true true m = 0
rest b w m = m

rest_less : (b w : Bool) (m : ℕ) → m ≡ 0 → rest b w m ≡ 0
rest_less true true m z = refl
rest_less true false m z = z
rest_less false w m z = z

rest_all : (b : Bool) (m : ℕ) → rest b false m ≡ m
rest_all true m = refl
rest_all false m = refl

rest_none : (w : Bool) (m : ℕ) → rest false w m ≡ m
rest_none true m = refl
rest_none false m = refl

if_none : (b : Bool) (m : ℕ) → m ≡ 0 → if_so b m ≡ 0
if_none true m z = z
if_none false m z = refl

asking_one : (s : Sight) (x : Standing) (p : Phase) (g : Option Owned) → IsAsking p → asks_by s x p g ≡ 1
asking_one s x (phase.WaitLock m) g a = refl
asking_one s x (phase.WaitDup m) g a = refl
asking_one s x (phase.WaitJoin u) g a = refl
asking_one s x p g a = absurd a

asking_still : (p : Phase) → IsAsking p → is_waiting p ≡ false
asking_still (phase.WaitLock m) a = refl
asking_still (phase.WaitDup m) a = refl
asking_still (phase.WaitJoin u) a = refl
asking_still p a = absurd a

ready_is : (p : Phase) → is_ready p ≡ true → p ≡ phase.Ready
ready_is phase.Ready e = refl
ready_is p e = absurd (cc e)

calm_still : (p : Phase) → is_calm p ≡ true → is_waiting p ≡ false
calm_still (phase.WaitCell w) e = absurd (cc e)
calm_still p e = refl

-- what has come on doesn't wait
on_still : (p : Phase) → goes_on p ≡ true → is_waiting p ≡ false
on_still (phase.WaitCell w) e = absurd (cc e)
on_still p e = refl

not_parcel : (b : Bool) (p : Phase) → is_calm p ≡ false → if_so b (other (walking.is_ready p)) ≡ 0 → b ≡ false
not_parcel false p e z = refl
not_parcel true phase.Ready e z = absurd (cc e)
not_parcel true phase.Over e z = absurd (cc e)
not_parcel true (phase.WaitPar a b) e z = absurd (cc e)
not_parcel true (phase.GotPar a b) e z = absurd (cc e)
not_parcel true phase.Got e z = absurd (cc z)
not_parcel true (phase.Taken w) e z = absurd (cc z)
not_parcel true (phase.WaitCell w) e z = absurd (cc z)
not_parcel true (phase.WaitLock m) e z = absurd (cc z)
not_parcel true (phase.WaitDup m) e z = absurd (cc z)
not_parcel true (phase.WaitJoin u) e z = absurd (cc z)

-- in the middle of a step a thread has less than all
busy_few : (s : Sight) (x : Standing) (p : Phase) (g : Option Owned) → is_calm p ≡ false → asks_by s x p g ≤ 19
busy_few s x (phase.WaitCell w) g e = omega (arith, come_few s x)
busy_few s x phase.Got None e = omega (arith, come_few s x)
busy_few s x phase.Got (Some v) e = omega arith
busy_few s x (phase.Taken w) g e = omega arith
busy_few s x (phase.WaitLock m) g e = omega arith
busy_few s x (phase.WaitDup m) g e = omega arith
busy_few s x (phase.WaitJoin u) g e = omega arith
busy_few s x phase.Ready g e = absurd (cc e)
busy_few s x phase.Over g e = absurd (cc e)
busy_few s x (phase.WaitPar a b) g e = absurd (cc e)
busy_few s x (phase.GotPar a b) g e = absurd (cc e)

module _ (c : Cluster) (t B : ℕ) (skip : Bool) where
  -- a thread of that number that has more
  abbrev weigh : Standing → ℕ
  weigh z = if_so (z.thread.number == t) (rest skip (is_waiting z.thread.phase) (asks_of (sight c) (bare z) - B))

  off : (z : Standing) → (z.thread.number ≡ t → ⊥) → weigh z ≡ 0
  off z ne = eq_cases (λ b. if_so b (rest skip (is_waiting z.thread.phase) (asks_of (sight c) (bare z) - B)) ≡ 0) z.thread.number t (λ same. absurd (ne same)) (λ n. refl)

  few_enough : (z : Standing) → asks_of (sight c) (bare z) ≤ B → weigh z ≡ 0
  few_enough z l = if_none (z.thread.number == t) (rest skip (is_waiting z.thread.phase) (asks_of (sight c) (bare z) - B)) (rest_less skip (is_waiting z.thread.phase) (asks_of (sight c) (bare z) - B) (omega (arith, l)))

  -- two of the same number, neither of which waits for a cell, that have as many
  alike : (z z2 : Standing) (m : ℕ) → z2.thread.number ≡ z.thread.number → is_waiting z.thread.phase ≡ false → is_waiting z2.thread.phase ≡ false → asks_of (sight c) (bare z) ≡ m → asks_of (sight c) (bare z2) ≡ m → weigh z ≡ 0 → weigh z2 ≡ 0
  alike z z2 m number still still2 e f w =
      let one : weigh z ≡ if_so (z.thread.number == t) (m - B) = ap (λ b. if_so (z.thread.number == t) (rest skip b (asks_of (sight c) (bare z) - B))) still ∙ ap (if_so (z.thread.number == t)) (rest_all skip (asks_of (sight c) (bare z) - B)) ∙ ap (λ a. if_so (z.thread.number == t) (a - B)) e in
      let two : weigh z2 ≡ if_so (z2.thread.number == t) (m - B) = ap (λ b. if_so (z2.thread.number == t) (rest skip b (asks_of (sight c) (bare z2) - B))) still2 ∙ ap (if_so (z2.thread.number == t)) (rest_all skip (asks_of (sight c) (bare z2) - B)) ∙ ap (λ a. if_so (z2.thread.number == t) (a - B)) f in
      two ∙ ap (λ u. if_so (u == t) (m - B)) number ∙ sym one ∙ w

  -- a thread of that number has no more where it weighs nothing
  no_more : (z : Standing) → z.thread.number ≡ t → rest skip (is_waiting z.thread.phase) (asks_of (sight c) (bare z) - B) ≡ asks_of (sight c) (bare z) - B → weigh z ≡ 0 → asks_of (sight c) z ≤ B
  no_more z named let_in w =
      let mine : weigh z ≡ rest skip (is_waiting z.thread.phase) (asks_of (sight c) (bare z) - B) = eq_cases (λ b. if_so b (rest skip (is_waiting z.thread.phase) (asks_of (sight c) (bare z) - B)) ≡ rest skip (is_waiting z.thread.phase) (asks_of (sight c) (bare z) - B)) z.thread.number t (λ same. refl) (λ ne. absurd (ne named)) in
      omega (arith, w, mine, let_in, asks_bare (sight c) z)

-- AN EVENT THAT IS NO STEP

module _ (k : Cluster) (e : Event) (co : IsCoherent k) (few : FewEvents k) (still : NoStep e.what) (t : ℕ) (x : Standing) (there : thread_at (sight k).ground.threads t ≡ Some x) (busy : is_calm x.thread.phase ≡ false)
    (d : Cluster × EntryView) (is : apply k e ≡ Some d) (after : IsCoherent d.0) where
  abbrev c : Cluster
  c = d.0

  abbrev B : ℕ
  B = asks_of (sight k) x

  code : c.code ≡ k.code
  code = (given_by (λ (r : Cluster × EntryView). (r.0.code ≡ k.code) × (r.0.options ≡ k.options)) (apply k e) d (same_settings k e) is).0

  listed : Among x (sight k).ground.threads × (x.thread.number ≡ t)
  listed = among_thread (sight k).ground.threads t x there

  on : GoesOn k x
  on = record { among = listed.0; going = going x.thread.phase busy }

  whole : x.packed ≡ false
  whole = not_parcel x.packed x.thread.phase busy (none_at busy_parcel x (sight k).ground.threads co.sound.walks.parcels_ready listed.0)

  unpacked : bare x ≡ x
  unpacked = ap (λ (b : Bool). record { server = x.server; packed = b; thread = x.thread }) (sym whole)

  -- it doesn't move, as it isn't ready
  stays_put : (s : Server) → server_at k.servers e.server ≡ Some s → (w : What) → enabled k.options s w ≡ true → Leaves t w → ⊥
  stays_put s here (Step u) able l = l
  stays_put s here (Deliver i) able l = l
  stays_put s here (Evict v) able l = l
  stays_put s here (Migrate u target) able l = by (thread_in s.threads u) refl (and_left (has_phase is_ready (thread_in s.threads u)) (nat_lt target k.options.servers && not (target == s.rest.number)) able)
    where
      same_standing : {a b : Standing} → Some a ≡ Some b → a ≡ b
      same_standing g = cc

      by : (o : Option ThreadState) → thread_in s.threads u ≡ o → has_phase is_ready o ≡ true → ⊥
      by None g h = cc h
      by (Some y) g h =
          let here_it : thread_at (sight k).ground.threads t ≡ Some (record { server = s.rest.number; packed = false; thread = y }) = subst (λ n. thread_at (sight k).ground.threads n ≡ Some (record { server = s.rest.number; packed = false; thread = y })) l (thread_there k co.sound e.server s here u y g) in
          let same : x ≡ record { server = s.rest.number; packed = false; thread = y } = same_standing (sym there ∙ here_it) in
          let calm : is_calm x.thread.phase ≡ true = ap (λ (z : Standing). is_calm z.thread.phase) same ∙ ap is_calm (ready_is y.phase h) in
          cc (sym busy ∙ calm)

  no_move : Leaves t e.what → ⊥
  no_move = given_by (λ (r : Cluster × EntryView). Leaves t e.what → ⊥) (apply k e) d never is
    where
      any : {X : Type 0} (o : Option X) → (Leaves t e.what → ⊥) → Gives (λ (r : X). Leaves t e.what → ⊥) o
      any None f = tt
      any (Some r) f = f

      never : Gives (λ (r : Cluster × EntryView). Leaves t e.what → ⊥) (apply k e)
      never =
          then_gives (λ (r : Cluster × EntryView). Leaves t e.what → ⊥) (server_at k.servers e.server) _ (λ s here.
          over_gives (λ (r : Server × EntryView). Leaves t e.what → ⊥) (λ (r : Cluster × EntryView). Leaves t e.what → ⊥) (done_at k e.what s) _
          (test_gives (λ (r : Server × EntryView). Leaves t e.what → ⊥) (enabled k.options s e.what) (does k.code k.options s e.what) (λ able. any (does k.code k.options s e.what) (stays_put s here e.what able))) (λ r a. a))

  module _ (skip : Bool) (first : weigh c t B skip x ≡ 0)
      (own_comes : (s : Server) → server_at k.servers e.server ≡ Some s → (i v : ℕ) (cell : Cell) (y : ThreadState) → e.what ≡ Deliver i → slice_get s.rest.inbox i ≡ Some (message.Moved v cell t) → thread_in s.threads t ≡ Some y
      → Gives (λ (h : Hand). weigh c t B skip (record { server = s.rest.number; packed = false; thread = h.thread }) ≡ 0) (deliver_moved (quiet k.code) v cell (record { work = (received i s).work; thread = y })))
      (own_copied : (s : Server) → server_at k.servers e.server ≡ Some s → (i v : ℕ) (cell : Cell) (y : ThreadState) → e.what ≡ Deliver i → slice_get s.rest.inbox i ≡ Some (message.Fetched v cell t) → thread_in s.threads t ≡ Some y
      → Gives (λ (h : Hand). weigh c t B skip (record { server = s.rest.number; packed = false; thread = h.thread }) ≡ 0) (deliver_fetched v cell (record { work = (received i s).work; thread = y }))) where
    abbrev f : Standing → ℕ
    f = weigh c t B skip

    before : tot f (threads_in (things_of k)) ≡ 0
    before = none_all f (threads_in (things_of k)) each
      where
        each : (z : Standing) → Among z (threads_in (things_of k)) → f z ≡ 0
        each z among =
            eq_cases (λ b. f z ≡ 0) z.thread.number t
            (λ same.
            let here : thread_at (sight k).ground.threads t ≡ Some z = subst (λ n. thread_at (sight k).ground.threads n ≡ Some z) same (found z (things_of k) (co.sound.names.numbers_differ z.thread.number) among) in
            let it : x ≡ z = cc in
            subst (λ (u : Standing). f u ≡ 0) it first) (λ ne. off c t B skip z ne)

    module _ (s : Server) (here : server_at k.servers e.server ≡ Some s) where
      abbrev st : ThreadState → Standing
      st y = record { server = s.rest.number; packed = false; thread = y }

      abbrev Good : Hand → Type 0
      Good h = f (st h.thread) ≡ 0

      -- of another number nothing is asked
      of_other : (t2 : ℕ) (y y2 : ThreadState) → thread_in s.threads t2 ≡ Some y → y2.number ≡ y.number → (t2 ≡ t → ⊥) → f (st y2) ≡ 0
      of_other t2 y y2 at same ne = off c t B skip (st y2) (λ g. ne (sym (thread_number s.threads t2 y at) ∙ sym same ∙ g))

      abbrev Gets : ThreadState → Hand → Type 0
      Gets y h = (g : Goes k.code y h.thread) × IsGotten g

      comes : (i t2 v : ℕ) (cell : Cell) (y : ThreadState) → e.what ≡ Deliver i → slice_get s.rest.inbox i ≡ Some (message.Moved v cell t2) → thread_in s.threads t2 ≡ Some y → Gives Good (deliver_moved (quiet k.code) v cell (record { work = (received i s).work; thread = y }))
      comes i t2 v cell y g m at =
          eq_cases (λ b. Gives Good (deliver_moved (quiet k.code) v cell (record { work = (received i s).work; thread = y }))) t2 t
          (λ same. own_comes s here i v cell y g (subst (λ u. slice_get s.rest.inbox i ≡ Some (message.Moved v cell u)) same m) (subst (λ u. thread_in s.threads u ≡ Some y) same at))
          (λ ne.
          subst (Gives Good) (sym (moved_quiet k.code v cell (record { work = (received i s).work; thread = y })))
          (weaker (Gets y) Good (deliver_moved k.code v cell (record { work = (received i s).work; thread = y })) (moved_goes k.code y v cell (record { work = (received i s).work; thread = y }) refl) (λ h a. of_other t2 y h.thread at (goes_number a.0) ne)))

      copied : (i t2 v : ℕ) (cell : Cell) (y : ThreadState) → e.what ≡ Deliver i → slice_get s.rest.inbox i ≡ Some (message.Fetched v cell t2) → thread_in s.threads t2 ≡ Some y → Gives Good (deliver_fetched v cell (record { work = (received i s).work; thread = y }))
      copied i t2 v cell y g m at =
          eq_cases (λ b. Gives Good (deliver_fetched v cell (record { work = (received i s).work; thread = y }))) t2 t
          (λ same. own_copied s here i v cell y g (subst (λ u. slice_get s.rest.inbox i ≡ Some (message.Fetched v cell u)) same m) (subst (λ u. thread_in s.threads u ≡ Some y) same at))
          (λ ne. weaker (Gets y) Good (deliver_fetched v cell (record { work = (received i s).work; thread = y })) (fetched_goes k.code y v cell (record { work = (received i s).work; thread = y }) refl) (λ h a. of_other t2 y h.thread at (goes_number a.0) ne))

      no_step : (u : ℕ) → e.what ≡ Step u → ⊥
      no_step u g = subst NoStep g still

      fates : Fates (quiet k.code) k.options s e.what (StandsThere f s.rest.number) (InParcel f)
      fates = record {
        steps = λ t2 y i g able at p code_at. absurd (no_step t2 g);
        comes = λ i t2 v cell y g m at p. comes i t2 v cell y g m at;
        copied = λ i t2 v cell y g m at p. copied i t2 v cell y g m at;
        given_it = λ t2 y v at p a.
            alike c t B skip (st y) (st (record y { gift = Some v; phase = phase.Got })) 1 refl (asking_still y.phase a) refl (asking_one (sight c) (st y) y.phase y.gift a) refl p;
        paired = λ t2 a b y at p g.
            alike c t B skip (st y) (st (record y { phase = phase.GotPar a b })) 20 refl (ap is_waiting g) refl (ap (λ q. asks_by (sight c) (st y) q y.gift) g) refl p;
        arrives = λ y q. q;
        starts = λ t2 n y i u pc vs at p code_at starts. absurd (no_start k.code y.pc i pc code_at starts);
        leaves = λ t2 n y at p r. (
            let ready : y.phase ≡ phase.Ready = ready_is y.phase r in
            let z : Standing = record { server = n; packed = true; thread = packed (record y { moved_since_step = true }) } in
            alike c t B skip (st y) z 20 refl (ap is_waiting ready) (ap is_waiting ready) (ap (λ q. asks_by (sight c) (st y) q y.gift) ready) (ap (λ q. asks_by (sight c) (bare z) q z.thread.gift) ready) p);
      }

    none_after : tot f (threads_in (things_of c)) ≡ 0
    none_after = given_by (λ (r : Cluster × EntryView). tot f (threads_in (things_of r.0)) ≡ 0) (apply k e) d (fated_quiet f k e co.sound few still before (λ s here. fates s here)) is

    -- so the thread that stands there has no more
    pub has_few : ((z : Standing) → thread_at (sight c).ground.threads t ≡ Some z → rest skip (is_waiting z.thread.phase) (asks_of (sight c) (bare z) - B) ≡ asks_of (sight c) (bare z) - B) → left c t ≤ B
    has_few let_in = by (thread_at (sight c).ground.threads t) refl (given_by (λ (r : Cluster × EntryView). HasPlaces r.0 → is_some (thread_at (sight r.0).ground.threads t) ≡ true) (apply k e) d (stands_still k e t co.sound few x there whole no_move) is (places_of after))
      where
        by : (o : Option Standing) → thread_at (sight c).ground.threads t ≡ o → is_some o ≡ true → asks_at (sight c) o ≤ B
        by None g h = absurd (cc h)
        by (Some z) g h = (let a = among_thread (sight c).ground.threads t z g in no_more c t B skip z a.1 (let_in z g) (none_at f z (threads_in (things_of c)) none_after a.0))

  -- WHAT THE EVENT BRINGS

  same_thread : (s : Server) (here : server_at k.servers e.server ≡ Some s) (y : ThreadState) → thread_in s.threads t ≡ Some y → x ≡ record { server = s.rest.number; packed = false; thread = y }
  same_thread s here y at = some_standing (sym there ∙ thread_there k co.sound e.server s here t y at)
    where
      some_standing : {a b : Standing} → Some a ≡ Some b → a ≡ b
      some_standing g = cc

  -- no object comes to the thread
  module _ (none : (old : ℕ) (cell : Cell) → Delivers k e (message.Moved old cell t) → ⊥) where
    beside : IsBeside k e x.thread.number
    beside = record {
      no_step = λ f. subst NoStep f still;
      no_object = λ old cell a. none old cell (subst (λ u. Delivers k e (message.Moved old cell u)) listed.1 a);
    }

    same_ahead : ahead (sight c) x ≡ ahead (sight k) x
    same_ahead = given_by (SameAhead k x) (apply k e) d (events_beside_leave k e co few x on beside) is

    first_less : asks_of (sight c) (bare x) ≤ B
    first_less = (let a = asks_bare (sight c) x in let b = asks_same k c x code same_ahead in omega (arith, a, b))

    no_object_less : left c t ≤ B
    no_object_less =
        has_few false (few_enough c t B false x first_less)
        (λ s here i v cell y g m at. absurd (none v cell (record { place = i; what = g; server = s; there = here; message = m })))
        (λ s here i v cell y g m at.
        weaker (λ (h : Hand). asks_of (sight c) (record { server = s.rest.number; packed = false; thread = h.thread }) ≤ B) (λ (h : Hand). weigh c t B false (record { server = s.rest.number; packed = false; thread = h.thread }) ≡ 0) (deliver_fetched v cell (record { work = (received i s).work; thread = y }))
        (subst (λ (z : Standing). Gives (λ (h : Hand). asks_of (sight c) (record { server = s.rest.number; packed = false; thread = h.thread }) ≤ asks_of (sight k) z) (deliver_fetched v cell (record { work = (received i s).work; thread = y }))) (sym (same_thread s here y at))
        (fetched_comes k c co code e.server i s here v t cell m y at (λ u.
        given_by (SameAhead k (record { server = s.rest.number; packed = false; thread = u })) (apply k e) d (steady_leave fetched tt k e (ap (λ o. then_some o (kind_at k e.what)) here ∙ ap (λ w. kind_at k w s) g ∙ ap (option_map message_kind) m) co.sound few (record { server = s.rest.number; packed = false; thread = u })) is)))
        (λ h l. few_enough c t B false (record { server = s.rest.number; packed = false; thread = h.thread }) l))
        (λ z g. rest_none (is_waiting z.thread.phase) (asks_of (sight c) (bare z) - B))

  -- an object comes to it
  module _ (old : ℕ) (cell : Cell) (brings : Delivers k e (message.Moved old cell t)) where
    same_server : {a b : Server} → Some a ≡ Some b → a ≡ b
    same_server g = cc

    -- the message is that one
    only_it : (s : Server) → server_at k.servers e.server ≡ Some s → (i : ℕ) (m : Message) → e.what ≡ Deliver i → slice_get s.rest.inbox i ≡ Some m → message.Moved old cell t ≡ m
    only_it s here i m g q =
        let b = brings in
        let server : b.server ≡ s = same_server (sym b.there ∙ here) in
        let place : b.place ≡ i = same_place (sym b.what ∙ g) in
        same_message (sym (subst (λ (z : Server). slice_get z.rest.inbox b.place ≡ Some (message.Moved old cell t)) server b.message) ∙ ap (slice_get s.rest.inbox) place ∙ q)
      where
        same_place : {a b : ℕ} → Deliver a ≡ Deliver b → a ≡ b
        same_place f = cc

        same_message : {a b : Message} → Some a ≡ Some b → a ≡ b
        same_message f = cc

    waiting : x.thread.phase ≡ phase.WaitCell old
    waiting =
        let b = brings in
        by (thread_in b.server.threads t) refl
      where
        by : (o : Option ThreadState) → thread_in brings.server.threads t ≡ o → x.thread.phase ≡ phase.WaitCell old
        by None g = absurd (nobody g)
          where
            nobody : thread_in brings.server.threads t ≡ None → ⊥
            nobody g2 = (let l = given_by (λ (r : Cluster × EntryView). OwnLeft k e old cell t brings co few r.0) (apply k e) d (own_left k e old cell t brings co few) is in cc (sym l.at ∙ g2))
        by (Some y) g =
            let b = brings in
            ap (λ (z : Standing). z.thread.phase) (same_thread b.server b.there y g) ∙ waits_under_it k co.sound e.server b.server b.there b.place old cell t b.message y g

    object_less : left c t ≤ B
    object_less =
        has_few true (if_none (x.thread.number == t) (rest true (is_waiting x.thread.phase) (asks_of (sight c) (bare x) - B)) (ap (λ p. rest true (is_waiting p) (asks_of (sight c) (bare x) - B)) waiting))
        (λ s here i v cl y g m at.
        weaker (λ (h : Hand). asks_of (sight c) (record { server = s.rest.number; packed = false; thread = h.thread }) ≤ B) (λ (h : Hand). weigh c t B true (record { server = s.rest.number; packed = false; thread = h.thread }) ≡ 0) (deliver_moved (quiet k.code) v cl (record { work = (received i s).work; thread = y }))
        (subst (Gives (λ (h : Hand). asks_of (sight c) (record { server = s.rest.number; packed = false; thread = h.thread }) ≤ B)) (sym (moved_quiet k.code v cl (record { work = (received i s).work; thread = y })))
        (subst (λ (z : Standing). Gives (λ (h : Hand). asks_of (sight c) (record { server = s.rest.number; packed = false; thread = h.thread }) ≤ asks_of (sight k) z) (deliver_moved k.code v cl (record { work = (received i s).work; thread = y }))) (sym (same_thread s here y at))
        (moved_comes k c co few code e.server i s here v t y at cl)))
        (λ h l. few_enough c t B true (record { server = s.rest.number; packed = false; thread = h.thread }) l))
        (λ s here i v cl y g m at. absurd (cc (only_it s here i (message.Fetched v cl t) g m)))
        (λ z g.
        let a = among_thread (sight c).ground.threads t z g in
        let l = given_by (λ (r : Cluster × EntryView). OwnLeft k e old cell t brings co few r.0) (apply k e) d (own_left k e old cell t brings co few) is in
        ap (λ b. rest true b (asks_of (sight c) (bare z) - B)) (on_still z.thread.phase (goes k e old cell t brings co few c (places_of after) l z a.0 a.1)))

  -- ONE OR THE OTHER

  abbrev brings_it : Message → Bool
  brings_it (message.Moved old cell u) = u == t
  brings_it m = false

  moved_is : (m : Message) → brings_it m ≡ true → (old : ℕ) × (cell : Cell) × (m ≡ message.Moved old cell t)
  moved_is (message.Moved old cell u) g = (old, cell, ap (message.Moved old cell) (eqb-true u t g))
  moved_is m g = absurd (cc g)

  by_message : (s : Server) → server_at k.servers e.server ≡ Some s → (i : ℕ) → e.what ≡ Deliver i → (m : Message) → slice_get s.rest.inbox i ≡ Some m → (b : Bool) → brings_it m ≡ b → left c t ≤ B
  by_message s here i g m q true h =
      let o = moved_is m h in
      object_less o.0 o.1 (record { place = i; what = g; server = s; there = here; message = q ∙ ap (λ z. Some z) o.2 })
  by_message s here i g m q false h = no_object_less (λ old cell a. (let same = only_it old cell a s here i m g q in cc (sym itself ∙ ap brings_it same ∙ h)))
    where
      itself : (t == t) ≡ true
      itself = eq-eqb t t refl

  by_what : (s : Server) → server_at k.servers e.server ≡ Some s → (w : What) → e.what ≡ w → left c t ≤ B
  by_what s here (Step u) g = absurd (subst NoStep g still)
  by_what s here (Evict v) g = no_object_less (λ old cell a. (let f : Evict v ≡ Deliver a.place = sym g ∙ a.what in cc f))
  by_what s here (Migrate u target) g = no_object_less (λ old cell a. (let f : Migrate u target ≡ Deliver a.place = sym g ∙ a.what in cc f))
  by_what s here (Deliver i) g = by (slice_get s.rest.inbox i) refl
    where
      by : (o : Option Message) → slice_get s.rest.inbox i ≡ o → left c t ≤ B
      by None q = no_object_less (λ old cell a. (let b = a in absurd (lost b.place (same_place (sym b.what ∙ g)) (same_server (sym b.there ∙ here)) b.message)))
        where
          same_place : {a b : ℕ} → Deliver a ≡ Deliver b → a ≡ b
          same_place f = cc

          same_server : {a b : Server} → Some a ≡ Some b → a ≡ b
          same_server f = cc

          lost : {z : Server} {old : ℕ} {cell : Cell} (place : ℕ) → place ≡ i → z ≡ s → slice_get z.rest.inbox place ≡ Some (message.Moved old cell t) → ⊥
          lost {z} place p1 p2 m = cc (sym q ∙ ap (slice_get s.rest.inbox) (sym p1) ∙ ap (λ (v : Server). slice_get v.rest.inbox place) (sym p2) ∙ m)
      by (Some m) q = by_message s here i g m q (brings_it m) refl

  unstepped : left c t ≤ left k t
  unstepped = (let l = by (server_at k.servers e.server) refl in let all : left k t ≡ B = ap (asks_at (sight k)) there in omega (arith, l, all))
    where
      by : (o : Option Server) → server_at k.servers e.server ≡ o → left c t ≤ B
      by None g = absurd (nothing g)
        where
          nothing : server_at k.servers e.server ≡ None → ⊥
          nothing g2 = cc (sym is ∙ ap (λ o. then_some o (λ s. option_map (λ (r : Server × EntryView). (record k { servers = hand_over_newer e.server (length s.rest.outbox) r.0 k.servers }, r.1)) (done_at k e.what s))) g2)
      by (Some s) g = by_what s g e.what refl

-- ANY EVENT

each_gives : {X : Type 0} (P : X → Type 0) (o : Option X) → ((r : X) → o ≡ Some r → P r) → Gives P o
each_gives P None f = tt
each_gives P (Some r) f = f r refl

no_steps : (k : Cluster) (e : Event) (t : ℕ) → NoStep e.what → IsCoherent k → FewEvents k → Gives (λ (d : Cluster × EntryView). IsCoherent d.0 → left d.0 t ≤ left k t) (apply k e)
no_steps k e t still co few = each_gives (λ (d : Cluster × EntryView). IsCoherent d.0 → left d.0 t ≤ left k t) (apply k e) (λ d is after. by d is after (thread_at (sight k).ground.threads t) refl)
  where
    full : (d : Cluster × EntryView) → left k t ≡ 20 → left d.0 t ≤ left k t
    full d g = (let l = at_few (sight d.0) (thread_at (sight d.0).ground.threads t) in omega (arith, l, g))

    standing : (d : Cluster × EntryView) → apply k e ≡ Some d → IsCoherent d.0 → (x : Standing) → thread_at (sight k).ground.threads t ≡ Some x → (b : Bool) → is_calm x.thread.phase ≡ b → left d.0 t ≤ left k t
    standing d is after x there true calm = full d (ap (asks_at (sight k)) there ∙ calm_all (sight k) x x.thread.phase x.thread.gift calm)
    standing d is after x there false busy = unstepped k e co few still t x there busy d is after

    by : (d : Cluster × EntryView) → apply k e ≡ Some d → IsCoherent d.0 → (o : Option Standing) → thread_at (sight k).ground.threads t ≡ o → left d.0 t ≤ left k t
    by d is after None there = full d (ap (asks_at (sight k)) there)
    by d is after (Some x) there = standing d is after x there (is_calm x.thread.phase) refl

pub events_leave : EventsLeaveAsks
events_leave k e t no_step co few = by e.what refl
  where
    by : (w : What) → e.what ≡ w → Gives (λ (d : Cluster × EntryView). IsCoherent d.0 → left d.0 t ≤ left k t) (apply k e)
    by (Step u) g = others_steps k e u t g (λ same. no_step (g ∙ ap Step (sym same))) co few
    by (Deliver i) g = no_steps k e t (subst NoStep (sym g) tt) co few
    by (Evict v) g = no_steps k e t (subst NoStep (sym g) tt) co few
    by (Migrate u target) g = no_steps k e t (subst NoStep (sym g) tt) co few
