-- A copy that comes is one that its thread may read: the pointer that it waits at is no dirty reference.
use Rattle.std.proofs.Common.{◌≡◌, ◌≤◌, ℕ, zero, suc, ◌+◌, ◌*◌, ◌<◌, ◌==◌, ◌&&◌, not, is_some, Bool, true, false, if◌then◌else◌, List, [], ◌∷◌, Option, Some, None, inl, inr, refl, sym, ap, subst, ◌∙◌, arith}
use Rattle.std.specs.Prelude.{slice_get}
use Rattle.law_length_asks.proofs.Below.law_walks_others.Below.fr_typing.PlaceLemmas.{eq_cases}
use Rattle.law_length_asks.specs.Below.law_walks_others.Below.fr_base.Names.{same_object}
use Rattle.law_length_asks.specs.Below.law_walks_others.Below.heap_partition.Same.{same_cell}
use Rattle.law_length_asks.specs.Below.law_walks_others.Below.fr_base.declared.place.Lval.{Lval}
use Rattle.law_length_asks.specs.Below.law_walks_others.Below.fr_base.declared.instruction.Instr.{Instr}
use Rattle.law_length_asks.specs.Below.law_walks_others.Below.heap_partition.declared.value.Cell.{Cell}
use Rattle.law_length_asks.specs.Below.law_walks_others.Below.heap_partition.declared.value.Owned.TheVariants as owned
use Rattle.law_length_asks.specs.Below.law_walks_others.Below.thread_state.declared.phase.Phase.TheVariants as phase
use Rattle.law_length_asks.specs.Below.law_walks_others.Below.thread_state.declared.value.Value.{Value}
use Rattle.law_length_asks.specs.Below.law_walks_others.Below.thread_state.declared.value.Value.TheVariants as value
use Rattle.law_length_asks.specs.Below.law_walks_others.Below.server_msgs.declared.message.Message.{Message}
use Rattle.law_length_asks.specs.Below.law_walks_others.Below.server_msgs.declared.message.Message.TheVariants as message
use Rattle.law_length_asks.specs.Below.law_walks_others.Below.server_model.Servers.{Server, Cluster, server_at}
use Rattle.law_length_asks.specs.Below.law_walks_others.Below.server_model.Prepare.{Access, access_of}
use Rattle.law_length_asks.specs.Below.law_walks_others.Below.coherent_memory.Names.{tot, one, other, if_so, Among}
use Rattle.law_length_asks.specs.Below.law_walks_others.Below.coherent_memory.Things.{Thing, sent, message_things, things_of}
use Rattle.law_length_asks.specs.Below.law_walks_others.Below.coherent_memory.Follow.{Standing, Ground, value_in, locate}
use Rattle.law_length_asks.specs.Below.law_walks_others.Below.coherent_memory.Paths.{Path, no_path, reads, shares, lends, writes, ends, Awaited, to_read, to_write, to_clean, is_spent, is_readable, path_of}
use Rattle.law_length_asks.specs.Below.law_walks_others.Below.coherent_memory.Placing.{clean_cell, other_cell, unclean, other_copy}
use Rattle.law_length_asks.specs.Below.law_walks_others.Below.coherent_memory.Requests.{halves, halves_to, message_answer}
use Rattle.law_length_asks.specs.Below.law_walks_others.Below.coherent_memory.Sight.{sight, is_object_among}
use Rattle.law_length_asks.specs.Below.law_walks_others.Below.coherent_memory.Turn.{IsAsked, AwaitsAt, read_at, before_share, at_share, before_lend, at_lend, InTurn, by_read, by_share, by_lend, by_write, by_end, by_holder, WaitsFor}
use Rattle.law_length_asks.specs.Below.law_walks_others.Below.coherent_memory.Walking.{instr_of, path, words_kept, asks_for, asked_for}
use Rattle.law_length_asks.specs.Below.law_walks_others.Below.coherent_memory.Stale.{holder_of}
use Rattle.law_length_asks.specs.Below.law_walks_others.Below.coherent_memory.Coherent.{IsSound}
use Rattle.law_length_asks.proofs.Below.law_walks_others.Below.coherent_memory.Names.{and_left, and_right}
use Rattle.law_length_asks.proofs.Below.law_walks_others.Below.coherent_memory.Passing.{paths_law}
use Rattle.law_length_asks.proofs.Below.law_walks_others.Below.coherent_memory.Words.{named}
use Rattle.law_length_asks.specs.Below.law_walks_others.Below.coherent_types.ClusterTypes.{IsCoherent}
use Rattle.law_length_asks.specs.Below.law_walks_others.Below.law_words_paths.paths.HeapStore.{GoesOn, HasPaths}
use Rattle.law_length_asks.proofs.Below.law_walks_others.Below.law_words_paths.paths.Alike.{coherent_has_paths}
use Rattle.law_length_asks.proofs.Below.law_walks_others.Below.law_words_paths.paths.Contained.{reference_there}
use Rattle.law_length_asks.proofs.Below.law_walks_others.Below.law_counts_sums.Askers.{other_none}
use Rattle.law_length_asks.proofs.Below.law_walks_others.Below.law_counts_sums.MutexResults.{has}
use Rattle.law_length_asks.specs.Below.law_words_borrows.Below.law_words_kept.reads.Reading as reading
use Rattle.law_length_asks.specs.Below.law_words_borrows.Below.law_words_kept.reads.Reading.{Reads}
use Rattle.law_length_asks.proofs.Below.law_words_borrows.Below.law_words_kept.reads.FreshReads.{read_are_fresh}
use Rattle.law_length_asks.proofs.Below.law_walks_others.Below.law_results_reads.Alone.{needed_less}
use Rattle.law_length_asks.proofs.Below.law_walks_others.Below.law_results_reads.Pointing.{same_cells}
use Rattle.law_walks_own.proofs.Below.law_copies_kept.copies.Clean.{Found}
use Rattle.law_walks_own.proofs.Below.law_copies_kept.references.Worded.{dirty_found, clean_told}
use Rattle.law_length_asks.proofs.answers.Follows.{Follows, reads_all, takes_slot, shares_one, lends_one, writes_all, ends_one, no_place, follows}

-- THE MESSAGE IS WHAT THE THREAD ASKS FOR

module _ (t : ℕ) (a : Awaited) where
  -- a copy that comes to the thread without being what it asks for
  abbrev strays_in : Message → ℕ
  strays_in (message.Fetched w c u) = one ((u == t) && not (asks_for t a (message.Fetched w c u)))
  strays_in m = 0

  abbrev strays : Thing → ℕ
  strays (sent r m) = strays_in m
  strays x = 0

  asked_less : (p q r : Bool) → 2 * one ((p && q) && r) ≤ if_so p 2
  asked_less true q r = by (q && r)
    where
      by : (b : Bool) → 2 * one b ≤ 2
      by true = omega arith
      by false = omega arith
  asked_less false q r = omega arith

  fetched_less : (p q r : Bool) → 2 * one ((p && q) && r) + 2 * one (p && not ((p && q) && r)) ≤ if_so p 2
  fetched_less true q r = by (q && r)
    where
      by : (b : Bool) → 2 * one b + 2 * one (not b) ≤ 2
      by true = omega arith
      by false = omega arith
  fetched_less false q r = omega arith

  message_counts : (m : Message) → 2 * one (asks_for t a m) + 2 * strays_in m ≤ halves t (message_answer m)
  message_counts (message.Fetch w p s u) = omega (arith, asked_less (u == t) (not a.comes) (a.word == w && same_object p a.object))
  message_counts (message.Fetched w c u) = fetched_less (u == t) (not a.comes) (a.word == w && same_object c.object a.object)
  message_counts (message.Move w p s u) = omega (arith, asked_less (u == t) a.comes (a.word == w && same_object p a.object))
  message_counts (message.Moved w c u) = omega (arith, asked_less (u == t) a.comes (a.word == w && same_object c.object a.object))
  message_counts _ = omega arith

  counts_less : (x : Thing) → 2 * asked_for t a x + 2 * strays x ≤ halves_to t x
  counts_less (sent r m) = message_counts m
  counts_less _ = omega arith

  all_less : (b : List Thing) → 2 * tot (asked_for t a) b + 2 * tot strays b ≤ tot (halves_to t) b
  all_less [] = omega arith
  all_less (x ∷ b) = omega (arith, counts_less x, all_less b)

not_stray : (t : ℕ) (q : Bool) → one ((t == t) && not q) ≡ 0 → q ≡ true
not_stray t q z = by q (eq_cases (λ b. one (b && not q) ≡ 0 → one (not q) ≡ 0) t t (λ e y. y) (λ ne y. absurd (ne refl)) z)
  where
    by : (q : Bool) → one (not q) ≡ 0 → q ≡ true
    by true y = refl
    by false y = absurd (cc y)

not_true : (b : Bool) → not b ≡ true → b ≡ false
not_true true e = absurd (cc e)
not_true false e = refl

clean_is : (x : Option Cell) (c : Cell) → other (is_some x) ≡ 0 → other_cell c x ≡ 0 → x ≡ Some c
clean_is None c e d = absurd (cc e)
clean_is (Some b) c e d = ap (λ z. Some z) (sym (same_cells c b (other_none (same_cell c b) d)))

-- what comes is no copy
comes_no : {a b : Awaited} → a ≡ b → a.comes ≡ true → b.comes ≡ false → ⊥
comes_no e f g = let no : true ≡ false = sym f ∙ ap (λ (x : Awaited). x.comes) e ∙ g in cc no

write_comes : (v : Value) (a : Awaited) → Among a (to_write (Some v)) → a.comes ≡ false → ⊥
write_comes (value.Own (owned.Box p)) a (inl e) g = comes_no e refl g
write_comes (value.Own (owned.Box p)) a (inr h) g = h
write_comes (value.Mut r) a (inl e) g = comes_no e refl g
write_comes (value.Mut r) a (inr h) g = h
write_comes (value.Own owned.Nothing) a h g = h
write_comes (value.Own owned.Unit) a h g = h
write_comes (value.Own (owned.Int i)) a h g = h
write_comes (value.Own (owned.Mutex m)) a h g = h
write_comes (value.Own (owned.Task t)) a h g = h
write_comes value.Gone a h g = h
write_comes (value.SharedSlot i) a h g = h
write_comes (value.MutSlot i) a h g = h
write_comes (value.Shared r) a h g = h
write_comes (value.Held m) a h g = h

clean_comes : (c : ℕ) (v : Value) (a : Awaited) → Among a (to_clean c (Some v)) → a.comes ≡ false → ⊥
clean_comes c (value.Mut r) a h g = by (is_spent c r) h
  where
    by : (b : Bool) → Among a (if b then record { word = r.word; object = r.object; comes = true; by_copy = false } ∷ [] else []) → ⊥
    by true (inl e) = comes_no e refl g
    by true (inr h) = h
    by false h = h
clean_comes c (value.Own u) a h g = h
clean_comes c value.Gone a h g = h
clean_comes c (value.SharedSlot i) a h g = h
clean_comes c (value.MutSlot i) a h g = h
clean_comes c (value.Shared r) a h g = h
clean_comes c (value.Held m) a h g = h

copied_by : {a b : Awaited} → a ≡ b → a.by_copy ≡ true → b.by_copy ≡ true
copied_by e f = sym (ap (λ (x : Awaited). x.by_copy) e) ∙ f

module _ (k : Cluster) (coherent : IsCoherent k) (number : ℕ) (s : Server) (here : server_at k.servers number ≡ Some s) (i w : ℕ) (c : Cell) (t : ℕ) (q : slice_get s.rest.inbox i ≡ Some (message.Fetched w c t))
    (x : Standing) (on : GoesOn k x) (named_it : x.thread.number ≡ t) (waiting : x.thread.phase ≡ phase.WaitCell w) where
  abbrev sound : IsSound k
  sound = coherent.sound

  abbrev n : ℕ
  n = s.rest.number

  abbrev m : Message
  m = message.Fetched w c t

  abbrev p : HasPaths k
  p = coherent_has_paths k coherent

  abbrev G : Ground
  G = (sight k).ground

  unbroken : (g : Thing → ℕ) → tot g (things_of k) ≡ 0 → g (sent n m) ≡ 0
  unbroken g z = let all : tot g (message_things n m) ≤ tot g (things_of k) = has k sound number s here i m q g in omega (arith, z, all)

  pub turn : WaitsFor (sight k) x w
  turn = sound.walks.wait_in_turn x w on.among waiting

  abbrev pub a : Awaited
  a = (let u = turn in u.awaited)

  asks : asks_for t a m ≡ true
  asks =
      let u = turn in
      let asked : 1 ≤ tot (asked_for t a) (things_of k) = subst (λ v. 1 ≤ tot (asked_for v a) (things_of k)) named_it u.asked in
      let none : tot (strays t a) (things_of k) ≡ 0 = omega (arith, asked, all_less t a (things_of k), sound.requests.one_answer t, needed_less t a c.object (things_of k), sound.names.numbers_differ t) in
      not_stray t (asks_for t a m) (unbroken (strays t a) none)

  stays_away : a.comes ≡ false
  stays_away = not_true a.comes (and_right (t == t) (not a.comes) (and_left (t == t && not a.comes) (a.word == w && same_object c.object a.object) asks))

  pub its_word : a.word ≡ w
  its_word = (let u = turn in u.word)

  object : c.object ≡ a.object
  object = named c.object a.object (and_right (a.word == w) (same_object c.object a.object) (and_right (t == t && not a.comes) (a.word == w && same_object c.object a.object) asks))

  -- its object has no dirty reference that isn't stale
  undirty : is_object_among c.object (sight k).dirty ≡ false
  undirty = (clean_told (sight k) w c (clean_is (clean_cell (sight k) w) c (unbroken (unclean (sight k)) sound.copies.served_are_clean) (unbroken (other_copy (sight k)) sound.copies.copies_agree))).1

  -- so the pointer is none
  by_pointer : (j : Instr) (v : Lval) (many d : ℕ) → instr_of (sight k) x ≡ Some j → Reads j v many → d < many → IsAsked (sight k) x v d (to_read (sight k).options.colours) a → a.by_copy ≡ true
  by_pointer j v many d at r_it lt f = of f.value f.asked (let h = f.hop in h.stands)
    where
      located : locate G x.thread.number v.slot d ≡ Some f.location
      located = (let h = f.hop in paths_law.locates G x.thread.number v.slot d f.location h.path)

      of : (u : Value) → Among a (to_read (sight k).options.colours (Some u)) → value_in G f.location ≡ Some u → a.by_copy ≡ true
      of (value.Own (owned.Box b)) (inl e) g = copied_by e refl
      of (value.Own (owned.Box b)) (inr h) g = absurd h
      of (value.Shared r) (inl e) g = copied_by e refl
      of (value.Shared r) (inr h) g = absurd h
      of (value.Mut r) (inl e) g = by r.dirty refl
        where
          by : (b : Bool) → r.dirty ≡ b → a.by_copy ≡ true
          by false d2 = copied_by e (ap not d2)
          by true d2 =
              let same : r.object ≡ c.object = ap (λ (y : Awaited). y.object) e ∙ sym object in
              let found : Found k r = record {
                reference = record { at = f.location; holder = holder_of G f.location r.holder; reference = r };
                among = reference_there k f.location r g;
                same = refl;
                fresh = λ stale. read_are_fresh k p x j v many d f.location on at r_it lt located stale;
              } in
              absurd (cc (sym (dirty_found k r c.object found same d2) ∙ undirty))
      of (value.Mut r) (inr h) g = absurd h
      of (value.Own owned.Nothing) h g = absurd h
      of (value.Own owned.Unit) h g = absurd h
      of (value.Own (owned.Int u)) h g = absurd h
      of (value.Own (owned.Mutex u)) h g = absurd h
      of (value.Own (owned.Task u)) h g = absurd h
      of value.Gone h g = absurd h
      of (value.SharedSlot u) h g = absurd h
      of (value.MutSlot u) h g = absurd h
      of (value.Held u) h g = absurd h

  -- hops are awaited on a path that reads alone
  abbrev is_reading : Path → Bool
  is_reading (reads v) = true
  is_reading (shares v) = true
  is_reading (lends v) = true
  is_reading way = false

  awaits_reading : (way : Path) (d : ℕ) → AwaitsAt (sight k) x way d a → is_reading way ≡ true
  awaits_reading _ d (read_at _ _ _ lt f) = refl
  awaits_reading _ d (before_share _ _ _ lt f) = refl
  awaits_reading _ d (at_share _ _ _ lt f) = refl
  awaits_reading _ d (before_lend _ _ _ lt f) = refl
  awaits_reading _ d (at_lend _ _ _ lt f) = refl

  -- by its instruction
  at_hop : (j : Instr) → instr_of (sight k) x ≡ Some j → (way : Path) (acc : Option Access) → Follows j x.thread way acc → (d : ℕ) → AwaitsAt (sight k) x way d a → a.by_copy ≡ true
  at_hop j at _ _ (reads_all v r same) d (read_at _ _ _ lt f) = by_pointer j v v.depth d at r lt f
  at_hop j at _ _ (shares_one v e) d (before_share _ _ _ lt f) = shared v.depth refl
    where
      shared : (depth : ℕ) → v.depth ≡ depth → a.by_copy ≡ true
      shared zero deep = absurd (omega (arith, lt, deep))
      shared (suc many) deep = by_pointer j v many d at (subst (λ u. Reads u v many) (sym e) (reading.shares deep)) (omega (arith, lt, deep)) f
  at_hop j at _ _ (shares_one v e) d (at_share _ _ _ lt f) = absurd (clean_comes (sight k).options.colours f.value a f.asked stays_away)
  at_hop j at _ _ (lends_one v e) d (before_lend _ _ _ lt f) = lent v.depth refl
    where
      lent : (depth : ℕ) → v.depth ≡ depth → a.by_copy ≡ true
      lent zero deep = absurd (omega (arith, lt, deep))
      lent (suc many) deep = by_pointer j v many d at (subst (λ u. Reads u v many) (sym e) (reading.lends deep)) (omega (arith, lt, deep)) f
  at_hop j at _ _ (lends_one v e) d (at_lend _ _ _ lt f) = absurd (write_comes f.value a f.asked stays_away)
  at_hop j at _ _ (takes_slot v) d h = absurd (cc (awaits_reading no_path d h))
  at_hop j at _ _ (writes_all v e) d h = absurd (cc (awaits_reading (writes v) d h))
  at_hop j at _ _ (ends_one r sp e) d h = absurd (cc (awaits_reading (ends r) d h))
  at_hop j at _ _ no_place d h = absurd (cc (awaits_reading no_path d h))

  in_turn_so : (j : Instr) → instr_of (sight k) x ≡ Some j → (way : Path) (acc : Option Access) → Follows j x.thread way acc → InTurn (sight k) x w a way → a.by_copy ≡ true
  in_turn_so j at _ acc f (by_read v first) = at_hop j at (reads v) acc f first.number first.at
  in_turn_so j at _ acc f (by_share v first) = at_hop j at (shares v) acc f first.number first.at
  in_turn_so j at _ acc f (by_lend v first) = at_hop j at (lends v) acc f first.number first.at
  in_turn_so j at _ acc f (by_write v next) = (let g = next.asked in absurd (write_comes g.value a g.asked stays_away))
  in_turn_so j at _ acc f (by_end r same among) = absurd (write_comes (value.Mut r) a among stays_away)
  in_turn_so j at _ acc f (by_holder r ne next) = (let g = next.asked in absurd (write_comes g.value a g.asked stays_away))

  pub may_read : a.by_copy ≡ true
  may_read = by (instr_of (sight k) x) refl
    where
      by : (o : Option Instr) → instr_of (sight k) x ≡ o → a.by_copy ≡ true
      by None e = absurd (none (path (sight k) x) (ap (λ o. path_of o x.thread) e) (let u = turn in u.turn))
        where
          none : (way : Path) → way ≡ no_path → InTurn (sight k) x w a way → ⊥
          none _ f (by_read v first) = cc f
          none _ f (by_share v first) = cc f
          none _ f (by_lend v first) = cc f
          none _ f (by_write v next) = cc f
          none _ f (by_end r same among) = cc f
          none _ f (by_holder r ne next) = cc f
      by (Some j) e = in_turn_so j e (path_of (Some j) x.thread) (access_of j x.thread) (follows j x.thread) (subst (λ o. InTurn (sight k) x w a (path_of o x.thread)) e (let u = turn in u.turn))

  -- and it can't read that pointer before
  unread_in : (way : Path) → InTurn (sight k) x w a way → is_readable (words_kept x.thread) x.server a ≡ false
  unread_in _ (by_read v first) = first.unread
  unread_in _ (by_share v first) = first.unread
  unread_in _ (by_lend v first) = first.unread
  unread_in _ (by_write v next) = (let g = next.asked in absurd (write_comes g.value a g.asked stays_away))
  unread_in _ (by_end r same among) = absurd (write_comes (value.Mut r) a among stays_away)
  unread_in _ (by_holder r ne next) = (let g = next.asked in absurd (write_comes g.value a g.asked stays_away))

  pub unread : is_readable (words_kept x.thread) x.server a ≡ false
  unread = unread_in (path (sight k) x) (let u = turn in u.turn)
