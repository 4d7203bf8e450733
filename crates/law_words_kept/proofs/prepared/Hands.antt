-- A thread in the hand of a step: small steps that words don't see, and the cleaning of a reference.
use Rattle.std.proofs.Common.{◌≡◌, inl, ⊎_elim, ℕ, zero, suc, ◌+◌, ◌<◌, Bool, true, false, if◌then◌else◌, List, [], ◌∷◌, ◌++◌, Some, None, IsSome, refl, sym, ap, subst, ◌∙◌, arith}
use Rattle.std.specs.Prelude.{slice_get, slice_set, nat_lt, length}
use Rattle.law_words_kept.specs.Below.fr_base.Lists.{is_in}
use Rattle.law_words_kept.specs.Below.fr_base.declared.name.ObjNo.{ObjNo}
use Rattle.law_words_kept.specs.Below.fr_base.declared.place.Lval.{Lval}
use Rattle.law_words_kept.specs.Below.fr_base.declared.instruction.Instr.{Instr}
use Rattle.law_words_kept.proofs.Below.fr_typing.PlaceLemmas.{eq_cases}
use Rattle.law_words_kept.specs.Below.global_addr.Words.{next_word}
use Rattle.law_words_kept.specs.Below.heap_partition.declared.value.Cell.{Cell}
use Rattle.law_words_kept.specs.Below.read_cache.Cache.{can_pin, pin}
use Rattle.law_words_kept.specs.Below.mut_borrow.declared.shared.SharedRef.{SharedRef}
use Rattle.law_words_kept.specs.Below.mut_borrow.declared.mutable.MutRef.{MutRef}
use Rattle.law_words_kept.specs.Below.journal.declared.act.Act.{Act}
use Rattle.law_words_kept.specs.Below.thread_state.View.{ThreadState, is_over}
use Rattle.law_words_kept.specs.Below.thread_state.declared.phase.Phase.{Phase}
use Rattle.law_words_kept.specs.Below.thread_state.declared.phase.Phase.TheVariants as phase
use Rattle.law_words_kept.specs.Below.thread_state.declared.value.Value.{Value}
use Rattle.law_words_kept.specs.Below.thread_state.declared.value.Value.TheVariants as value
use Rattle.law_words_kept.specs.Below.server_msgs.declared.message.Message.{Message}
use Rattle.law_words_kept.specs.Below.server_model.declared.event.What.TheVariants.{Step}
use Rattle.law_words_kept.specs.Below.server_model.Servers.{Server, Cluster, server_at}
use Rattle.law_words_kept.specs.Below.server_model.Work.{Hand, note, send, working, with_cache, with_phase, used_once, use_word, thread_in, set_thread, without_thread, put_back}
use Rattle.law_words_kept.specs.Below.server_model.NewWords.{issue_tint}
use Rattle.law_words_kept.specs.Below.server_model.Places.{Spot, in_slot, took, put_slot, put_word, load_at}
use Rattle.law_words_kept.specs.Below.server_model.Prepare.{box_of, pinned_once}
use Rattle.law_words_kept.specs.Below.server_model.Events.{can_step, has_phase, enabled, begin_work, begin_at}
use Rattle.law_words_kept.specs.Below.coherent_memory.Names.{Among}
use Rattle.law_words_kept.specs.Below.coherent_memory.Things as things
use Rattle.law_words_kept.specs.Below.coherent_memory.Things.{Location, at_slot, Thing, lies, shares, sent, uses, things_at, pin_things, value_things, slot_things, thread_things, message_things, server_things, servers_things, things_of}
use Rattle.law_words_kept.specs.Below.coherent_memory.Follow.{Standing, value_in, cells_in, locate}
use Rattle.law_words_kept.specs.Below.coherent_memory.Sight.{Pointer, pointers_of, pointers_in, taken_pointers, sight, issued}
use Rattle.law_words_kept.specs.Below.coherent_memory.Words.{IsStale, HasWords, LeadsTo}
use Rattle.law_words_kept.proofs.Below.coherent_memory.Bags.{among_split}
use Rattle.law_words_kept.specs.Below.coherent_types.ClusterTypes.{IsCoherent}
use Rattle.law_words_kept.specs.Below.law_words_paths.paths.HeapStore.{GoesOn}
use Rattle.law_words_kept.proofs.Below.law_words_paths.paths.Alike.{coherent_has_paths}
use Rattle.law_words_kept.proofs.Below.law_words_paths.paths.Contained.{among_thread, reference_there}
use Rattle.law_words_kept.proofs.Below.law_words_paths.paths.Origins.{among_first, among_second}
use Rattle.law_words_kept.specs.Below.law_words_paths.words.Reworded.{HasPlaces, LiesThere, Reworded}
use Rattle.law_words_kept.specs.Below.law_words_paths.words.Unmoved.{pointing}
use Rattle.law_words_kept.specs.Below.law_words_paths.words.PutBack.{put_in, StandsHere, LeadsHome}
use Rattle.law_words_kept.proofs.Below.law_words_paths.words.Standing.{told}
use Rattle.law_words_kept.proofs.Below.law_words_paths.words.Grounds.{of_borrows}
use Rattle.law_words_kept.proofs.Below.law_words_paths.words.Put.{Split, put_split}
use Rattle.law_words_kept.proofs.Below.law_words_paths.words.Slots.{set_same, set_other, thread_cells, lying_in}
use Rattle.law_words_kept.proofs.Below.law_words_paths.words.Tints.{SlotPut, slot_put, slot_stands, tint_rewords}
use Rattle.law_words_kept.proofs.Below.law_words_paths.words.NewWord.{is_new}
use Rattle.law_words_kept.proofs.Below.law_words_paths.words.Past.{first_issued}
use Rattle.law_words_kept.specs.Below.law_counts_sums.Laws.{Gives}
use Rattle.law_words_kept.specs.Below.law_counts_sums.Sums.{Sums}
use Rattle.law_words_kept.proofs.Below.law_counts_sums.Results.{test_gives, both_give}
use Rattle.law_words_kept.proofs.Below.law_counts_sums.Rules.{Rule, comes, goes, turned as rule_turned, beside as rules_beside, in_turn, is_plain}
use Rattle.law_words_kept.proofs.Below.law_counts_sums.RulesKeep.{sums_kept}
use Rattle.law_words_kept.proofs.Below.law_counts_sums.Trades.{tot-append}
use Rattle.law_words_kept.proofs.Below.law_counts_sums.Sound.{sound_has_sums}
use Rattle.law_words_kept.proofs.Below.law_counts_sums.Bags.{HandOk, all_standing, sent_number, thread_number}
use Rattle.law_words_kept.proofs.Below.law_counts_sums.Chains.{takes, puts_back, phase_changes, hand_sends}
use Rattle.law_words_kept.proofs.Below.law_counts_sums.Events.{others_of, tot-server, begins_site, ends_site}
use Rattle.law_words_kept.proofs.Below.law_counts_sums.Objects.{one_goes}
use Rattle.law_words_kept.proofs.Below.law_counts_sums.Values.{puts_at}
use Rattle.law_words_kept.proofs.Below.law_counts_sums.Uses.{hand_begins, uses_word}
use Rattle.law_words_kept.proofs.Below.law_counts_sums.ThreadThere.{thread_there}
use Rattle.law_words_kept.specs.reads.Reading.{Reads, LiesUnder}
use Rattle.law_words_kept.proofs.reads.FreshReads.{read_are_fresh}
use Rattle.law_words_kept.proofs.reads.Homes.{read_lie_there}
use Rattle.law_words_kept.proofs.reads.Lookups.{one_state}
use Rattle.law_words_kept.proofs.stays.Alike.{Alike, itself, turned, chain, beside, blank, goes as goes_unseen}
use Rattle.law_words_kept.proofs.stays.Lists.{thread_set, taken_alike}
use Rattle.law_words_kept.proofs.stays.Servers.{held_if, other_copies, sends}
use Rattle.law_words_kept.proofs.stays.Threads.{slots_of, temps_of, thread_alike, TakesNone, value_alike}
use Rattle.law_words_kept.proofs.stays.Sites.{HandAlike, put_alike, begun_alike, ends_alike, servers_alike, replaced}
use Rattle.law_words_kept.proofs.stays.Steps.{TakesNoneHere, hand_itself}
use Rattle.law_words_kept.proofs.prepared.Along.{Along, along_itself, along_alike, along_cleaned}

-- A REFERENCE THAT KEEPS ITS COPY IN USE

pin_rule : (n : ℕ) (r : SharedRef) → r.pinned ≡ false → (p : things.Spot) (l : Location) → Rule (value_things n p l (value.Shared r) ++ uses n r.word ∷ []) (value_things n p l (value.Shared (record r { pinned = true })) ++ [])
pin_rule n r q p l =
    let none : pin_things n r ≡ [] = ap (λ b. if b then uses n r.word ∷ [] else []) q in
    subst (λ g. Rule (shares l r ∷ (g ++ uses n r.word ∷ [])) (shares l (record r { pinned = true }) ∷ uses n r.word ∷ [])) (sym none)
    (rules_beside (in_turn (goes (shares l r) refl) (comes (shares l (record r { pinned = true })) refl)) (rule_turned (uses n r.word ∷ []) (uses n r.word ∷ []) (λ f. refl)))

pinned_alike : {code : List Instr} (n : ℕ) (p : things.Spot) (l : Location) (r : SharedRef) → Alike code (value_things n p l (value.Shared r)) (value_things n p l (value.Shared (record r { pinned = true })))
pinned_alike n p l r = chain (value_alike n n p l (value.Shared r)) (turned (value_alike n n p l (value.Shared (record r { pinned = true }))))

-- another value in a list, of which words see the same
set_alike : {code : List Instr} (f : ℕ → Value → List Thing) (i j : ℕ) (xs : List Value) (old new : Value) → slice_get xs j ≡ Some old → ((m : ℕ) → Alike code (f m old) (f m new)) → Alike code (things_at f i xs) (things_at f i (slice_set xs j new))
set_alike f i j [] old new e a = absurd cc
set_alike {code = code} f i zero (x ∷ xs) old new e a = let s : x ≡ old = cc in beside (subst (λ v. Alike code (f i v) (f i new)) (sym s) (a i)) (itself (things_at f (i + 1) xs))
set_alike f i (suc j) (x ∷ xs) old new e a = beside (itself (f i x)) (set_alike f (i + 1) j xs old new e a)

set_points : (xs : List Value) (i j : ℕ) (old new : Value) → slice_get xs j ≡ Some old → pointing (Some new) ≡ pointing (Some old) → pointing (slice_get (slice_set xs j new) i) ≡ pointing (slice_get xs i)
set_points xs i j old new e p = eq_cases (λ b. pointing (slice_get (slice_set xs j new) i) ≡ pointing (slice_get xs i)) i j (λ s. rw s (ap pointing (set_same xs j old new e) ∙ p ∙ sym (ap pointing e))) (λ n. ap pointing (set_other xs j i new n))

-- WHAT LIES, WITH ANOTHER STATE OF A THREAD

split_lies : (a b c d : List Thing) → Split a b c d → cells_in c ≡ [] → (j g : ℕ) (z : Cell) → Among (lies j g z) a → Among (lies j g z) b
split_lies a b c d s none j g z h =
    subst (λ q. Among (lies j g z) q) (sym s.after)
    (⊎_elim
    (λ (q : Among (lies j g z) (s.left ++ c)).
    among_first (lies j g z) (s.left ++ d) s.right
    (⊎_elim (λ (x : Among (lies j g z) s.left). among_first (lies j g z) s.left d x)
    (λ (x : Among (lies j g z) c). let y : Among z [] = subst (λ cs. Among z cs) none (lying_in j g z c x) in absurd y) (among_split (lies j g z) s.left c q)))
    (λ (q : Among (lies j g z) s.right). among_second (lies j g z) (s.left ++ d) s.right q)
    (among_split (lies j g z) (s.left ++ c) s.right (subst (λ q. Among (lies j g z) q) s.before h)))

pub calm_goes : (p : Phase) → can_step p ≡ true → is_over p ≡ false
calm_goes phase.Ready e = refl
calm_goes phase.Got e = refl
calm_goes (phase.Taken w) e = refl
calm_goes (phase.GotPar a b) e = refl
calm_goes _ e = absurd cc

pub calm_waits : (p : Phase) (u : ℕ) → can_step p ≡ true → p ≡ phase.WaitCell u → ⊥
calm_waits p u e f = let z : can_step (phase.WaitCell u) ≡ true = subst (λ q. can_step q ≡ true) f e in absurd cc

module _ (k : Cluster) (coherent : IsCoherent k) (s : Server) (here : server_at k.servers s.rest.number ≡ Some s) (t : ℕ) (y : ThreadState) (at : thread_in s.threads t ≡ Some y) where
  abbrev n : ℕ
  n = s.rest.number

  abbrev others : List Thing
  others = servers_things (others_of k.servers n)

  abbrev pub Ok : Hand → Type 0
  Ok = HandOk Sums n s.events t (all_standing n (without_thread s.threads t) ++ others)

  abbrev with_hand : Hand → Server
  with_hand h = record { rest = h.work.rest; threads = set_thread s.threads h.thread; events = s.events + 1 }

  abbrev pub put : Hand → Cluster
  put h = put_in k n s.threads (s.events + 1) h

  pub places : (h : Hand) → Ok h → HasPlaces (put h)
  places h g =
      let site = puts_back sums_kept n s.events others t s.threads y at h g in
      let left : Sums (server_things (with_hand h) ++ others) = ends_site sums_kept n s.events others None None (put_back s.threads h) site in
      let sums : Sums (things_of (put h)) = sums_kept.same (server_things (with_hand h) ++ others) (things_of (put h)) (λ f. omega (arith, (tot-server f k.servers n s (with_hand h) here).1, tot-append f (server_things (with_hand h)) others)) left in
      record { numbers_differ = sums.numbers_differ; home_of_each = sums.home_of_each; owner_of_each = sums.owner_of_each }

  pub stands : (h : Hand) → Ok h → StandsHere k n s.threads h
  stands h g = record {
    server = subst (λ o. IsSome o) (sym here) refl;
    number = g.number;
    thread = subst (λ m. IsSome (thread_in s.threads m)) (sym g.thread) (subst (λ o. IsSome o) (sym at) refl);
  }

  -- what holds of the hand, with its thread put back
  pub record State (h : Hand) : Type 0 where
    pub ok : Ok h
    pub along : Along k (put h)

  hands_alike : (h h2 : Hand) → Ok h → Ok h2 → HandAlike k.code n [] h h2 → Alike k.code (things_of (put h)) (things_of (put h2))
  hands_alike h h2 g g2 a =
      replaced n k.servers s (with_hand h) (with_hand h2) [] here
      (chain (turned (ends_alike n s.events None None (put_back s.threads h) g.number)) (chain (beside standing a.rest) (ends_alike n s.events None None (put_back s.threads h2) g2.number)))
    where
      standing : Alike k.code (all_standing n (set_thread s.threads h.thread)) (all_standing n (set_thread s.threads h2.thread))
      standing =
          chain (taken_alike (thread_things n false) 0 0 (thread_set s.threads t y h.thread at g.thread))
          (chain (beside a.thread (itself (all_standing n (without_thread s.threads t)))) (turned (taken_alike (thread_things n false) 0 0 (thread_set s.threads t y h2.thread at g2.thread))))

  pub unseen : (h h2 : Hand) → State h → Ok h2 → HandAlike k.code n [] h h2 → State h2
  unseen h h2 st g2 a = record { ok = g2; along = along_alike k (put h) (put h2) (places h st.ok) (places h2 g2) refl (hands_alike h h2 st.ok g2 a) st.along }

  -- the event begins
  pub first_hand : State (record { work = begin_work s.rest; thread = y })
  first_hand = record { ok = g; along = along_alike k k (put h) before (places h g) refl alike (along_itself k coherent.sound) }
    where
      h : Hand
      h = record { work = begin_work s.rest; thread = y }

      sums : Sums (server_things s ++ others)
      sums = sums_kept.same (things_of k) (server_things s ++ others) (λ f. omega (arith, (tot-server f k.servers n s s here).0, tot-append f (server_things s) others)) (sound_has_sums k coherent.sound)

      g : Ok h
      g = takes sums_kept n s.events others t (begin_at s) y at (begins_site sums_kept others s sums)

      before : HasPlaces k
      before = record { numbers_differ = coherent.sound.names.numbers_differ; home_of_each = coherent.sound.one_home.home_of_each; owner_of_each = coherent.sound.one_owner.owner_of_each }

      alike : Alike k.code (things_of k) (things_of (put h))
      alike = servers_alike n k.servers s (with_hand h) here (begun_alike s s.events None None (put_back s.threads h) (put_alike k.code [] t (begin_at s) y at h (hand_itself k.code n h)))

  pub noted : (a : Act) (h : Hand) → State h → State (working (note a) h)
  noted a h st = record { ok = record { number = st.ok.number; thread = st.ok.thread; bag = st.ok.bag }; along = st.along }

  pub loaded : (sp : Spot) (h : Hand) → State h → State (load_at sp h)
  loaded sp h st = record { ok = record { number = st.ok.number; thread = st.ok.thread; bag = st.ok.bag }; along = st.along }

  -- the thread has taken nothing, where it hadn't at the start
  abbrev pub Untaken : Hand → Type 0
  Untaken h = TakesNoneHere k.code y → TakesNoneHere k.code h.thread

  -- a state whose thread has taken nothing if it hadn't, and has the gift that it had
  pub record Walks (h : Hand) : Type 0 where
    pub state : State h
    pub untaken : Untaken h
    pub gift : h.thread.gift ≡ y.gift

  -- USES

  pub uses_copy : (v : ℕ) (h : Hand) → Walks h → Gives Walks (use_word v h)
  uses_copy v h w =
      both_give Ok (λ (h2 : Hand). HandAlike k.code n [] h h2 × Untaken h2 × (h2.thread.gift ≡ y.gift)) Walks (use_word v h) (uses_word sums_kept n s.events t (all_standing n (without_thread s.threads t) ++ others) v h w.state.ok) (by (is_in v h.thread.walk))
      (λ h2 g a. record { state = unseen h h2 w.state g a.0; untaken = a.1; gift = a.2 })
    where
      by : (b : Bool) → Gives (λ (h2 : Hand). HandAlike k.code n [] h h2 × Untaken h2 × (h2.thread.gift ≡ y.gift)) (used_once v b h)
      by true = (hand_itself k.code n h, w.untaken, w.gift)
      by false =
          test_gives (λ (h2 : Hand). HandAlike k.code n [] h h2 × Untaken h2 × (h2.thread.gift ≡ y.gift)) (can_pin h.work.rest.cache v) _
          (λ on. (
            record {
              number = refl;
              named = refl;
              thread = thread_alike n n false false h.thread (record h.thread { walk = h.thread.walk ++ v ∷ [] }) [] [] (record { number = refl; taking = refl; slots = λ i. refl; temps = λ i. refl }) (itself (slots_of n h.thread)) (itself (temps_of n h.thread)) (itself (held_if h.thread.gift));
              rest = other_copies n h.work.rest (pin h.work.rest.cache v);
            },
            w.untaken,
            w.gift,
          ))

  pub pins_copy : (j : ℕ) (r : SharedRef) (b : Bool) (h : Hand) → r.pinned ≡ b → slice_get h.thread.slots j ≡ Some (value.Shared r) → Walks h → Gives Walks (pinned_once (in_slot j) r b h)
  pins_copy j r true h q e w = w
  pins_copy j r false h q e w =
      test_gives Walks (can_pin h.work.rest.cache r.word) _
      (λ on. both_give Ok (λ (h2 : Hand). HandAlike k.code n [] h h2 × Untaken h2 × (h2.thread.gift ≡ y.gift)) Walks (put_slot j new (working (with_cache (pin h.work.rest.cache r.word)) h))
      (puts_at sums_kept n s.events t (in_slot j) (value.Shared r) new (working (with_cache (pin h.work.rest.cache r.word)) h) e (one_goes (uses n r.word) (all_standing n (without_thread s.threads t) ++ others)) (pin_rule n r q)
      (hand_begins sums_kept n s.events t (all_standing n (without_thread s.threads t) ++ others) h r.word on w.state.ok))
      (test_gives (λ (h2 : Hand). HandAlike k.code n [] h h2 × Untaken h2 × (h2.thread.gift ≡ y.gift)) (nat_lt j (length h.thread.slots)) _
      (λ in_range. (
        record {
          number = refl;
          named = refl;
          thread = thread_alike n n false false h.thread (record h.thread { slots = slice_set h.thread.slots j new }) [] [] (record { number = refl; taking = refl; slots = λ i. set_points h.thread.slots i j (value.Shared r) new e refl; temps = λ i. refl })
              (set_alike (slot_things n h.thread.number) 0 j h.thread.slots (value.Shared r) new e (λ m. pinned_alike n (things.in_slot h.thread.number m) (at_slot h.thread.number m) r)) (itself (temps_of n h.thread)) (itself (held_if h.thread.gift));
          rest = other_copies n h.work.rest (pin h.work.rest.cache r.word);
        },
        w.untaken,
        w.gift,
      )))
      (λ h2 g a. record { state = unseen h h2 w.state g a.0; untaken = a.1; gift = a.2 }))
    where
      new : Value
      new = value.Shared (record r { pinned = true })

  -- REQUESTS

  pub requests : (a : Act) (target : ℕ) (m : Message) (p : Phase) (h : Hand) → message_things target m ≡ sent target m ∷ [] → is_plain m ≡ true → ((q : Pointer) → q.at ≡ None → Among q (pointers_of (sent target m)) → ⊥) → TakesNone p → TakesNoneHere k.code y → Walks h
      → State (with_phase p (working (send target m) (working (note a) h)))
  requests a target m p h alone plain quiet none free w =
      let b = all_standing n (without_thread s.threads t) ++ others in
      let h1 = working (note a) h in
      let g1 : Ok h1 = record { number = w.state.ok.number; thread = w.state.ok.thread; bag = w.state.ok.bag } in
      let h2 = with_phase p (working (send target m) h1) in
      let g2 : Ok h2 = phase_changes sums_kept n s.events t b p (working (send target m) h1) (hand_sends sums_kept n s.events t b target m h1 alone plain g1) in
      let gone : Alike k.code (message_things target m) [] = subst (λ l. Alike k.code l []) (sym alone) (blank (sent target m) quiet) in
      unseen h h2 w.state g2 (record {
        number = sent_number h.work.rest target m;
        named = refl;
        thread = thread_alike n n false false h.thread (record h.thread { phase = p }) [] [] (record { number = refl; taking = none h.thread.number (slice_get k.code h.thread.pc) ∙ sym (w.untaken free); slots = λ i. refl; temps = λ i. refl })
            (itself (slots_of n h.thread)) (itself (temps_of n h.thread)) (itself (held_if h.thread.gift));
        rest = chain (turned (goes_unseen gone)) (sends n h.work.rest w.state.ok.number target m);
      })

  -- CLEANING

  -- a dirty reference in a slot, which isn't stale and whose object lies, gets the next colour
  pub cleans_at : (h h2 : Hand) (j : ℕ) (r : MutRef) → Walks h → Ok h2 → slice_get h.thread.slots j ≡ Some (value.Mut r) → r.dirty ≡ true → (IsStale (sight k) (Some (at_slot h.thread.number j)) → ⊥) → LiesUnder k (box_of r)
      → put_word (in_slot j) (issue_tint (box_of r) h.work) h ≡ Some h2 → Walks h2
  cleans_at h h2 j r walks g2 e dirty fresh under worded = record {
    state = record { ok = g2; along = along_cleaned k (put h) (put h2) l r (next_word r.word) issued_all new (places h g) (places h2 g2) walks.state.along there dirty fresh reworded now still };
    untaken = λ e. subst (λ th. TakesNoneHere k.code th) (sym wrote.thread) (walks.untaken e);
    gift = ap (λ (th : ThreadState). th.gift) wrote.thread ∙ walks.gift;
  }
    where
      g : Ok h
      g = walks.state.ok

      l : Location
      l = at_slot h.thread.number j

      there : value_in (sight (put h)).ground l ≡ Some (value.Mut r)
      there = slot_stands k n s.threads (s.events + 1) h j (value.Mut r) (stands h g) (places h g) e

      was : value_in (sight k).ground l ≡ Some (value.Mut r)
      was = walks.state.along.dirty_was l r there dirty

      pointer : Pointer
      pointer = record { at = Some l; word = r.word; object = r.object }

      word_in : (c : Cluster) (b : HasWords (sight c)) → value_in (sight c).ground l ≡ Some (value.Mut r) → (IsStale (sight c) (Some l) → ⊥) → r.word ≡ b.word r.object
      word_in c b f z =
          ⊎_elim (λ (q : IsStale (sight c) (Some l)). absurd (z q)) (λ (q : r.word ≡ b.word r.object). q)
          (b.same pointer (among_first pointer (pointers_in (things_of c)) (taken_pointers (sight c).code (sight c).ground (sight c).ground.threads) (told c l (value.Mut r) pointer f (inl refl))))

      issued_all : Rattle.law_words_kept.specs.Below.coherent_memory.Coherent.Holds k Rattle.law_words_kept.specs.Below.coherent_memory.Coherent.are_issued
      issued_all = coherent.sound.words.are_issued

      words_k : HasWords (sight k)
      words_k = coherent.sound.words.have_words

      words_h : HasWords (sight (put h))
      words_h = walks.state.along.words.has_words

      new : issued (sight k) (next_word r.word) ≡ false
      new = ap (λ v. issued (sight k) (next_word v)) (word_in k words_k was fresh) ∙ is_new k words_k (one_state k coherent.sound) under.server under.address r.object under.there

      lies_now : LiesThere (put h) under.server under.address r.object
      lies_now = walks.state.along.lies_on under.server under.address r.object under.there

      its_word : r.word ≡ words_h.word r.object
      its_word = word_in (put h) words_h there (λ z. fresh (walks.state.along.fresher l z))

      home : LeadsHome (put h) (box_of r)
      home = record { server = under.server; address = under.address; lying = lies_now; leads = λ a b c q f. subst (λ v. LeadsTo a b v) (ap words_h.word f ∙ sym its_word) (words_h.home a b c q) }

      not_first : (q : MutRef) → value.Mut r ≡ value.Mut q → next_word r.word ≡ q.first → ⊥
      not_first q f z =
          let same : r ≡ q = cc in
          let known : issued (sight k) r.first ≡ true = first_issued k issued_all l r (of_borrows (sight k).ground (record { at = l; holder = Rattle.law_words_kept.specs.Below.coherent_memory.Stale.holder_of (sight k).ground l r.holder; reference = r }) (things_of k) (reference_there k l r was)).among in
          let no : true ≡ false = sym known ∙ ap (issued (sight k)) (ap (λ (a : MutRef). a.first) same ∙ sym z) ∙ new in
          absurd cc

      wrote : SlotPut h h2 j (next_word r.word) (value.Mut r)
      wrote = slot_put h h2 j (value.Mut r) (box_of r) e worded

      reworded : Reworded (put h) (put h2) l r.object (next_word r.word)
      reworded = tint_rewords k n s.threads (s.events + 1) h h2 j (value.Mut r) (box_of r) (stands h g) e refl worded (places h g) (places h2 g2) home not_first

      same_number : h2.thread.number ≡ h.thread.number
      same_number = ap (λ (th : ThreadState). th.number) wrote.thread

      slot_now : slice_get h2.thread.slots j ≡ Some (value.Mut (took r (next_word r.word)))
      slot_now = ap (λ (th : ThreadState). slice_get th.slots j) wrote.thread ∙ set_same h.thread.slots j (value.Mut r) wrote.new e ∙ sym wrote.worded

      now : value_in (sight (put h2)).ground l ≡ Some (value.Mut (took r (next_word r.word)))
      now = ap (λ q. value_in (sight (put h2)).ground (at_slot q j)) (sym same_number) ∙ slot_stands k n s.threads (s.events + 1) h2 j (value.Mut (took r (next_word r.word))) (stands h2 g2) (places h2 g2) slot_now

      split : Split (things_of (put h)) (things_of (put h2)) (thread_things n false h.thread) (thread_things n false h2.thread)
      split = put_split k n s.threads (s.events + 1) h h2 (stands h g) wrote.rest same_number

      still : (a b : ℕ) (o : ObjNo) → LiesThere (put h) a b o → LiesThere (put h2) a b o
      still a b o q =
          record { cell = q.cell; among = split_lies (things_of (put h)) (things_of (put h2)) (thread_things n false h.thread) (thread_things n false h2.thread) split (thread_cells n h.thread) a b q.cell q.among; object = q.object }

  -- THE THREAD READS

  module _ (on : enabled k.options s (Step t) ≡ true) (i : Instr) (code : slice_get k.code y.pc ≡ Some i) (w : Lval) (m : ℕ) (reads : Reads i w m) where
    abbrev x : Standing
    x = record { server = n; packed = false; thread = y }

    calm : can_step y.phase ≡ true
    calm = subst (λ o. has_phase can_step o ≡ true) at on

    going : GoesOn k x
    going = record { among = (among_thread (sight k).ground.threads t x (thread_there k coherent.sound n s here t y at)).0; going = calm_goes y.phase calm }

    -- a dirty reference in a slot that its place passes gets the next colour
    pub cleans_slot : (h h2 : Hand) (j d : ℕ) (r : MutRef) → Walks h → Ok h2 → slice_get h.thread.slots j ≡ Some (value.Mut r) → r.dirty ≡ true → d < m → locate (sight k).ground y.number w.slot d ≡ Some (at_slot y.number j)
        → put_word (in_slot j) (issue_tint (box_of r) h.work) h ≡ Some h2 → Walks h2
    cleans_slot h h2 j d r walks g2 e dirty lt located worded = cleans_at h h2 j r walks g2 e dirty fresh under worded
      where
        l : Location
        l = at_slot h.thread.number j

        g : Ok h
        g = walks.state.ok

        at_l : locate (sight k).ground y.number w.slot d ≡ Some l
        at_l = located ∙ ap (λ q. Some (at_slot q j)) (sym (g.thread ∙ sym (thread_number s.threads t y at)))

        was : value_in (sight k).ground l ≡ Some (value.Mut r)
        was = walks.state.along.dirty_was l r (slot_stands k n s.threads (s.events + 1) h j (value.Mut r) (stands h g) (places h g) e) dirty

        fresh : IsStale (sight k) (Some l) → ⊥
        fresh = read_are_fresh k (coherent_has_paths k coherent) x i w m d l going code reads lt at_l

        under : LiesUnder k (box_of r)
        under = read_lie_there k coherent x i w m d l (value.Mut r) (box_of r) going code reads lt (λ u. calm_waits y.phase u calm) at_l was refl
