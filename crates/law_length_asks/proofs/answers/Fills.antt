-- A copy that comes to its thread takes one from the asks that it has left.
use Rattle.std.proofs.Common.{◌≡◌, ◌≤◌, ℕ, ◌+◌, ◌==◌, ◌&&◌, ◌||◌, Bool, true, false, List, [], ◌∷◌, ◌++◌, Option, Some, None, refl, sym, ap, subst, ◌∙◌, arith}
use Rattle.std.specs.Prelude.{slice_get}
use Rattle.law_length_asks.specs.Below.law_walks_others.Below.fr_base.Lists.{is_in}
use Rattle.law_length_asks.specs.Below.law_walks_others.Below.fr_base.declared.instruction.Instr.{Instr}
use Rattle.law_length_asks.specs.Below.law_walks_others.Below.fr_base.declared.instruction.Instr.TheVariants as instr
use Rattle.law_length_asks.specs.Below.law_walks_others.Below.global_addr.Words.{server_of}
use Rattle.law_length_asks.specs.Below.law_walks_others.Below.heap_partition.declared.value.Cell.{Cell}
use Rattle.law_length_asks.specs.Below.law_walks_others.Below.migration.Packing.{pinned_words}
use Rattle.law_length_asks.specs.Below.law_walks_others.Below.thread_state.View.{ThreadState, is_over}
use Rattle.law_length_asks.specs.Below.law_walks_others.Below.thread_state.declared.phase.Phase.{Phase}
use Rattle.law_length_asks.specs.Below.law_walks_others.Below.thread_state.declared.phase.Phase.TheVariants as phase
use Rattle.law_length_asks.specs.Below.law_walks_others.Below.thread_state.declared.value.Value.{Value}
use Rattle.law_length_asks.specs.Below.law_walks_others.Below.thread_state.declared.value.Value.TheVariants as value
use Rattle.law_length_asks.specs.Below.law_walks_others.Below.server_msgs.declared.message.Message.TheVariants as message
use Rattle.law_length_asks.specs.Below.law_walks_others.Below.server_model.Servers.{Server, Cluster, server_at}
use Rattle.law_length_asks.specs.Below.law_walks_others.Below.server_model.Work.{Hand, thread_in, used_once}
use Rattle.law_length_asks.specs.Below.law_walks_others.Below.server_model.Objects.{waits_for_cell, filled, deliver_fetched}
use Rattle.law_length_asks.specs.Below.law_walks_others.Below.server_model.Events.{received}
use Rattle.law_length_asks.specs.Below.law_walks_others.Below.read_cache.Cache.{can_fill, can_pin}
use Rattle.law_length_asks.specs.Below.law_walks_others.Below.coherent_memory.Names.{if_so, Among}
use Rattle.law_length_asks.specs.Below.law_walks_others.Below.coherent_memory.Follow.{Standing}
use Rattle.law_length_asks.specs.Below.law_walks_others.Below.coherent_memory.Paths.{Path, no_path, reads, shares, lends, writes, ends, path_of, Awaited, is_readable}
use Rattle.law_length_asks.specs.Below.law_walks_others.Below.coherent_memory.Requests.{early_gift, is_got}
use Rattle.law_length_asks.specs.Below.law_walks_others.Below.coherent_memory.Sight.{Sight, sight}
use Rattle.law_length_asks.specs.Below.law_walks_others.Below.coherent_memory.Walking.{instr_of, path, words_kept}
use Rattle.law_length_asks.proofs.Below.law_walks_others.Below.coherent_memory.Turn.{turn_law}
use Rattle.law_length_asks.proofs.Below.law_walks_others.Below.coherent_memory.Words.{none_at}
use Rattle.law_length_asks.specs.Below.law_walks_others.Below.coherent_types.ClusterTypes.{IsCoherent}
use Rattle.law_length_asks.specs.Below.law_walks_others.Below.law_words_paths.paths.HeapStore.{GoesOn}
use Rattle.law_length_asks.proofs.Below.law_walks_others.Below.law_words_paths.paths.Contained.{among_thread}
use Rattle.law_length_asks.specs.Below.law_walks_others.Below.law_counts_sums.Laws.{Gives}
use Rattle.law_length_asks.proofs.Below.law_walks_others.Below.law_counts_sums.Bags.{thread_number}
use Rattle.law_length_asks.proofs.Below.law_walks_others.Below.law_counts_sums.Results.{over_gives, test_gives}
use Rattle.law_length_asks.proofs.Below.law_walks_others.Below.law_counts_sums.ThreadThere.{thread_there}
use Rattle.law_length_asks.specs.ahead.Ahead.{ahead_on, ahead, with_copy}
use Rattle.law_length_asks.proofs.ahead.Eight.{eight_ahead}
use Rattle.law_length_asks.proofs.ahead.Lists.{copy_leads}
use Rattle.law_length_asks.specs.left.Left.{may_come, is_far, toll, pulls, asks_last, to_come, asks_by, asks_of}
use Rattle.law_length_asks.proofs.answers.Comes.{less_far, no_gift, eight_more, waits_is}
use Rattle.law_length_asks.proofs.answers.Copies.{turn, a, its_word, may_read, unread}

-- what is kept in front is kept
in_front : (v : ℕ) (xs ys : List ℕ) → is_in v xs ≡ true → is_in v (xs ++ ys) ≡ true
in_front v [] ys e = absurd (cc e)
in_front v (x ∷ xs) ys e = by (x == v) e (in_front v xs ys)
  where
    by : (b : Bool) → (b || is_in v xs) ≡ true → (is_in v xs ≡ true → is_in v (xs ++ ys) ≡ true) → (b || is_in v (xs ++ ys)) ≡ true
    by true q go = refl
    by false q go = go q

-- so it can be read by a copy
readable : (kept : List ℕ) (n : ℕ) (b : Awaited) → b.by_copy ≡ true → is_in b.word kept ≡ true → is_readable kept n b ≡ true
readable kept n b copy has = by (server_of b.word == n) b.by_copy (is_in b.word kept) copy has
  where
    by : (p q r : Bool) → q ≡ true → r ≡ true → (p || (q && r)) ≡ true
    by true q r e f = refl
    by false true r e f = f
    by false false r e f = absurd (cc e)

-- the path sees neither walk nor phase
path_walked : (o : Option Instr) (y : ThreadState) (ws : List ℕ) (p : Phase) → path_of o (record y { walk = ws; phase = p }) ≡ path_of o y
path_walked None y ws p = refl
path_walked (Some (instr.Read w true)) y ws p = refl
path_walked (Some (instr.Read w false)) y ws p = refl
path_walked (Some i) y ws p = refl

-- what is ahead doesn't see the phase
ahead_phase : (s : Sight) (n : ℕ) (y : ThreadState) (p : Phase) (way : Path) → ahead_on s (record { server = n; packed = false; thread = record y { phase = p } }) way ≡ ahead_on s (record { server = n; packed = false; thread = y }) way
ahead_phase s n y p no_path = refl
ahead_phase s n y p (reads w) = refl
ahead_phase s n y p (shares w) = refl
ahead_phase s n y p (lends w) = refl
ahead_phase s n y p (writes w) = refl
ahead_phase s n y p (ends r) = refl

-- nor is anything farther once it doesn't wait
got_far : (n w m : ℕ) (v : Option Value) → if_so (is_far n phase.Got v) m ≤ if_so (is_far n (phase.WaitCell w) v) m
got_far n w m (Some (value.Mut r)) = less_far n w m r r refl
got_far n w m None = omega arith
got_far n w m (Some value.Gone) = omega arith
got_far n w m (Some (value.Own v)) = omega arith
got_far n w m (Some (value.SharedSlot v)) = omega arith
got_far n w m (Some (value.MutSlot v)) = omega arith
got_far n w m (Some (value.Shared v)) = omega arith
got_far n w m (Some (value.Held v)) = omega arith

module _ (k c : Cluster) (co : IsCoherent k) (code : c.code ≡ k.code) (number i : ℕ) (s : Server) (here : server_at k.servers number ≡ Some s) (w t : ℕ) (cell : Cell) (q : slice_get s.rest.inbox i ≡ Some (message.Fetched w cell t)) (y : ThreadState) (at : thread_in s.threads t ≡ Some y)
    (same : (u : ThreadState) → ahead (sight c) (record { server = s.rest.number; packed = false; thread = u }) ≡ ahead (sight k) (record { server = s.rest.number; packed = false; thread = u })) where
  abbrev n : ℕ
  n = s.rest.number

  abbrev st : ThreadState → Standing
  st u = record { server = n; packed = false; thread = u }

  abbrev x : Standing
  x = st y

  abbrev B : ℕ
  B = asks_of (sight k) x

  abbrev Good : Hand → Type 0
  Good h = asks_of (sight c) (st h.thread) ≤ B

  listed : Among x (sight k).ground.threads
  listed = (among_thread (sight k).ground.threads t x (thread_there k co.sound number s here t y at)).0

  named : y.number ≡ t
  named = thread_number s.threads t y at

  module _ (waiting : y.phase ≡ phase.WaitCell w) where
    on : GoesOn k x
    on = record { among = listed; going = ap is_over waiting }

    was : B ≡ to_come (sight k) x
    was = ap (λ p. asks_by (sight k) x p y.gift) waiting

    bare : y.gift ≡ None
    bare =
        let z : early_gift x ≡ 0 = none_at early_gift x (sight k).ground.threads co.sound.requests.gifts_got listed in
        no_gift y.gift y.phase (ap is_got waiting) z

    -- what it waits for
    abbrev its : Awaited
    its = a k co number s here i w cell t q x on named waiting

    by_copy : its.by_copy ≡ true
    by_copy = may_read k co number s here i w cell t q x on named waiting

    word_is : its.word ≡ w
    word_is = its_word k co number s here i w cell t q x on named waiting

    -- it doesn't use that copy yet
    unused : is_in w y.walk ≡ true → ⊥
    unused e =
        let kept : is_in its.word (words_kept y) ≡ true = subst (λ v. is_in v (words_kept y) ≡ true) (sym word_is) (in_front w (y.walk ++ pinned_words y.slots) (pinned_words y.temps) (in_front w y.walk (pinned_words y.slots) e)) in
        cc (sym (unread k co number s here i w cell t q x on named waiting) ∙ readable (words_kept y) n its by_copy kept)

    -- with the copy fewer are ahead
    abbrev copied : ThreadState
    copied = record y { walk = y.walk ++ w ∷ []; phase = phase.Got }

    instr_same : instr_of (sight c) (st copied) ≡ instr_of (sight k) x
    instr_same = ap (λ cs. slice_get cs y.pc) code

    path_same : path (sight c) (st copied) ≡ path (sight k) x
    path_same = ap (λ o. path_of o copied) instr_same ∙ path_walked (instr_of (sight k) x) y (y.walk ++ w ∷ []) phase.Got

    fewer_ahead : ahead (sight c) (st copied) + 1 ≤ ahead (sight k) x
    fewer_ahead =
        let walked : ThreadState = record y { walk = y.walk ++ w ∷ [] } in
        let turns = turn_law.told (sight k) x w its (let u = turn k co number s here i w cell t q x on named waiting in u.turn) in
        let leads = copy_leads (sight k) x w its (path (sight k) x) turns by_copy in
        let word : ahead_on (sight k) (with_copy its.word x) (path (sight k) x) ≡ ahead_on (sight k) (st walked) (path (sight k) x) = ap (λ v. ahead_on (sight k) (with_copy v x) (path (sight k) x)) word_is in
        let one = same copied in
        let two : ahead (sight k) (st copied) ≡ ahead_on (sight k) (st walked) (path (sight k) x) = ap (ahead_on (sight k) (st copied)) (path_walked (instr_of (sight k) x) y (y.walk ++ w ∷ []) phase.Got) ∙ ahead_phase (sight k) n walked phase.Got (path (sight k) x) in
        omega (arith, leads, word, one, two)

    less : asks_of (sight c) (st copied) ≤ B
    less =
        let now : asks_of (sight c) (st copied) ≡ to_come (sight c) (st copied) + 1 = ap (asks_by (sight c) (st copied) phase.Got) bare in
        let last = ap asks_last instr_same in
        let pulled : pulls (sight c) (st copied) ≡ if_so (is_far n phase.Got (may_come (path (sight k) x) y.slots)) (toll (path (sight k) x)) = ap (λ p. if_so (is_far n phase.Got (may_come p y.slots)) (toll p)) path_same in
        let pulled_was : pulls (sight k) x ≡ if_so (is_far n (phase.WaitCell w) (may_come (path (sight k) x) y.slots)) (toll (path (sight k) x)) = ap (λ p. if_so (is_far n p (may_come (path (sight k) x) y.slots)) (toll (path (sight k) x))) waiting in
        let far = got_far n w (toll (path (sight k) x)) (may_come (path (sight k) x) y.slots) in
        let eights = eight_more (ahead (sight c) (st copied)) (ahead (sight k) x) fewer_ahead (eight_ahead k co x listed) in
        omega (arith, now, was, last, pulled, pulled_was, far, eights)

    -- the copy is used
    uses : (b : Bool) → is_in w y.walk ≡ b → (h : Hand) → h.thread ≡ y → Gives (λ (h2 : Hand). h2.thread ≡ record y { walk = y.walk ++ w ∷ [] }) (used_once w b h)
    uses true e h same_thread = absurd (unused e)
    uses false e h same_thread = test_gives (λ (h2 : Hand). h2.thread ≡ record y { walk = y.walk ++ w ∷ [] }) (can_pin h.work.rest.cache w) _ (λ on2. ap (λ (u : ThreadState). record u { walk = u.walk ++ w ∷ [] }) same_thread)

    fills : Gives (λ (h2 : Hand). h2.thread ≡ record y { walk = y.walk ++ w ∷ [] }) (filled w cell (record { work = (received i s).work; thread = y }))
    fills = test_gives (λ (h2 : Hand). h2.thread ≡ record y { walk = y.walk ++ w ∷ [] }) (can_fill s.rest.cache w cell) _ (λ on2. uses (is_in w y.walk) refl _ refl)

  pub fetched_comes : Gives Good (deliver_fetched w cell (record { work = (received i s).work; thread = y }))
  fetched_comes =
      test_gives Good (waits_for_cell y.phase w) _ (λ z.
      let waiting = waits_is y.phase w z in
      over_gives (λ (h2 : Hand). h2.thread ≡ record y { walk = y.walk ++ w ∷ [] }) Good (filled w cell (record { work = (received i s).work; thread = y })) _ (fills waiting)
      (λ h2 threads. subst (λ (u : ThreadState). asks_of (sight c) (st (record u { phase = phase.Got })) ≤ B) (sym threads) (less waiting)))
