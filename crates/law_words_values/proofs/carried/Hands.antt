-- A step that moves one value of its thread, or none that words see, leaves the words.
use Rattle.std.proofs.Common.{◌≡◌, ◌⊎◌, ℕ, true, ◌+◌, false, List, [], ◌++◌, Option, Some, None, IsSome, option_map, refl, sym, ap, subst, ◌∙◌, arith}
use Rattle.std.specs.Prelude.{slice_get, take, drop as drop_first, length}
use Rattle.law_words_kept.specs.Below.fr_base.declared.instruction.Instr.{Instr}
use Rattle.law_words_kept.specs.Below.fr_base.declared.instruction.Instr.TheVariants as instr
use Rattle.law_words_kept.specs.Below.fr_base.declared.name.ObjNo.{ObjNo}
use Rattle.law_words_kept.specs.Below.fr_base.declared.place.Lval.{Lval}
use Rattle.law_words_kept.specs.Below.journal.View.{EntryView}
use Rattle.law_words_kept.specs.Below.thread_state.View.{ThreadState}
use Rattle.law_words_kept.specs.Below.thread_state.declared.phase.Phase.{Phase}
use Rattle.law_words_kept.specs.Below.thread_state.declared.phase.Phase.TheVariants as phase
use Rattle.law_words_kept.specs.Below.thread_state.declared.value.Value.TheVariants as value
use Rattle.law_words_kept.specs.Below.heap_partition.declared.value.Owned.{Owned}
use Rattle.law_words_kept.specs.Below.server_model.declared.event.What.TheVariants.{Step}
use Rattle.law_words_kept.specs.Below.server_model.Servers.{Server, Cluster, server_at}
use Rattle.law_words_kept.specs.Below.server_model.Work.{Hand, thread_in, set_thread, without_thread, put_back, then_some}
use Rattle.law_words_kept.specs.Below.server_model.Clusters.{with_server, hand_over_newer, done_at, apply}
use Rattle.law_words_kept.specs.Below.server_model.Events.{enabled, begin_work, begin_at, Stepped, step, step_in, stepped, does}
use Rattle.law_words_kept.specs.Below.coherent_memory.Names.{Among, tot, other}
use Rattle.law_words_kept.specs.Below.coherent_memory.Things.{Location, at_slot, in_cell, Thing, thread_things, server_things, servers_things, things_of}
use Rattle.law_words_kept.specs.Below.coherent_memory.Follow.{Standing, cells_in, value_in, leads, place_at}
use Rattle.law_words_kept.specs.Below.coherent_memory.Sight.{sight}
use Rattle.law_words_kept.specs.Below.coherent_memory.Requests.{lies_here, taken_there, taken_phase, lent_place as taken_place}
use Rattle.law_words_kept.specs.Below.coherent_memory.Weights.{owners}
use Rattle.law_words_kept.specs.Below.coherent_memory.Coherent.{Holds, first_at_holder, IsSound}
use Rattle.law_words_kept.proofs.Below.coherent_memory.Words.{none_at}
use Rattle.law_words_kept.proofs.Below.law_words_paths.paths.Sole.{some_is}
use Rattle.law_words_kept.specs.Below.law_words_paths.words.Reworded.{HasPlaces}
use Rattle.law_words_kept.specs.Below.law_words_paths.words.Unmoved.{pointing, Taking, taking_by, takings, Untouched, LeavesWords}
use Rattle.law_words_kept.specs.Below.law_words_paths.words.PutBack.{put_in, StandsHere}
use Rattle.law_words_kept.proofs.Below.law_words_paths.words.Put.{Split, put_split}
use Rattle.law_words_kept.proofs.Below.law_words_paths.words.Takings.{leads_pointing}
use Rattle.law_words_kept.proofs.Below.law_words_paths.words.Follows.{seen_places_lead}
use Rattle.law_words_kept.proofs.Below.law_words_paths.words.Unmoved.{untouched_stays}
use Rattle.law_words_kept.specs.Below.law_counts_sums.Laws.{Gives, GoTo, FewEvents}
use Rattle.law_words_kept.specs.Below.law_counts_sums.Sums.{Sums}
use Rattle.law_words_kept.proofs.Below.law_counts_sums.Results.{over_gives, test_gives, both_give}
use Rattle.law_words_kept.proofs.Below.law_counts_sums.RulesKeep.{sums_kept}
use Rattle.law_words_kept.proofs.Below.law_counts_sums.Trades.{tot-append}
use Rattle.law_words_kept.proofs.Below.law_counts_sums.Sound.{sound_has_sums}
use Rattle.law_words_kept.proofs.Below.law_counts_sums.Bags.{HandOk, all_standing, body_things, thread_number}
use Rattle.law_words_kept.proofs.Below.law_counts_sums.Chains.{takes, puts_back}
use Rattle.law_words_kept.proofs.Below.law_counts_sums.Events.{others_of, tot-server, begins_site, ends_site}
use Rattle.law_words_kept.proofs.Below.law_counts_sums.Applied.{go_with}
use Rattle.law_words_kept.proofs.Below.law_counts_sums.Sending.{applied_part, each_event_sends}
use Rattle.law_words_kept.proofs.stays.Alike.{Alike, itself, turned, chain, beside, exchanged, joined}
use Rattle.law_words_kept.proofs.stays.Lists.{thread_set, taken_alike}
use Rattle.law_words_kept.proofs.stays.Sites.{HandAlike, put_alike, begun_alike, ends_alike, servers_alike, replaced, handed_over}
use Rattle.law_words_kept.proofs.stays.Steps.{hand_itself}
use Rattle.law_words_kept.proofs.stays.Seen.{seen_alike}
use Rattle.law_words_values.specs.carried.Carried.{Carried}
use Rattle.law_words_values.proofs.carried.Carrying.{carried_stays}
use Rattle.law_words_values.proofs.carried.Replaced.{tail_of, cells_same, places_on}
use Rattle.law_words_values.proofs.carried.Taken.{taker_of}
use Rattle.law_words_values.proofs.carried.Owned.{OwnsAlone, owned_quiet, owns_on}
use Rattle.law_words_values.proofs.carried.Passing.{Here, slot, nowhere, located, Passes, is_carried, is_quiet}

-- ONE AFTER ANOTHER

pub leaves_chain : {a b c : Cluster} → LeavesWords a b → LeavesWords b c → LeavesWords a c
leaves_chain p q = record {
  words = λ h. (let x = p.words h in let y = q.words x.after in record { after = y.after; same = λ o. y.same o ∙ x.same o });
  holders = λ h. q.holders (p.holders h);
  dirty = λ h. q.dirty (p.dirty h);
  past = λ h. q.past (p.past h);
}

-- a relation of clusters that goes on from one to the next, where words see the same of both, and where one value goes from one place to another
pub record GoesOver (R : Cluster → Cluster → Type 0) : Type 0 where
  pub chain : (a b c : Cluster) → R a b → R b c → R a c
  pub seen : (a b : Cluster) → HasPlaces a → HasPlaces b → b.code ≡ a.code → Alike a.code (things_of a) (things_of b) → R a b
  pub carried : (a b : Cluster) (f g : Option Location) → HasPlaces a → HasPlaces b → Holds a first_at_holder → cells_in (things_of b) ≡ cells_in (things_of a) → Carried a b f g → R a b

-- words do
pub words_go : GoesOver LeavesWords
words_go = record { chain = λ a b c p q. leaves_chain p q; seen = λ a b c d e s. untouched_stays a b c d (seen_alike a b c d e s); carried = λ a b f g c d firsts cells u. carried_stays a b f g c d firsts u }

-- HANDS

-- words see the same of the thread and of its server, taken together
pub record Together (code : List Instr) (n : ℕ) (h h2 : Hand) : Type 0 where
  pub number : h2.work.rest.number ≡ h.work.rest.number
  pub named : h2.thread.number ≡ h.thread.number
  pub alike : Alike code (thread_things n false h.thread ++ body_things n h.work.rest) (thread_things n false h2.thread ++ body_things n h2.work.rest)

pub each_together : {code : List Instr} {n : ℕ} {h h2 : Hand} → HandAlike code n [] h h2 → Together code n h h2
each_together a = record { number = a.number; named = a.named; alike = beside a.thread a.rest }

pub together_chain : {code : List Instr} {n : ℕ} {h h2 h3 : Hand} → Together code n h h2 → Together code n h2 h3 → Together code n h h3
together_chain a b = record { number = b.number ∙ a.number; named = b.named ∙ a.named; alike = chain a.alike b.alike }

-- one value of the thread moves at most; before that the thread changes where words don't see it
pub data Moved (code : List Instr) (n : ℕ) (h h2 : Hand) : Type 0 where
  seen : Together code n h h2 → Moved code n h h2
  passed : {from to : Here} (x y : ThreadState) → x.number ≡ h.thread.number → Alike code (thread_things n false h.thread) (thread_things n false x) → ((o : ObjNo) → tot (owners o) (tail_of n x) ≡ tot (owners o) (tail_of n h.thread)) → Passes code n x y from to
      → ((i : ℕ) → (slot i ≡ from) ⊎ (slot i ≡ to) → pointing (slice_get x.slots i) ≡ None) → Together code n (record h { thread = y }) h2 → Moved code n h h2

pub moved_on : {code : List Instr} {n : ℕ} {h h2 h3 : Hand} → Moved code n h h2 → Together code n h2 h3 → Moved code n h h3
moved_on (seen a) b = seen (together_chain a b)
moved_on (passed x y e a o p w t) b = passed x y e a o p w (together_chain t b)

-- what a slot owns goes to the thread's gift or its temporary values
pub record Given (code : List Instr) (n : ℕ) (h h2 : Hand) : Type 0 where
  pub index : ℕ
  pub content : Owned
  pub to : Here
  pub after : ThreadState
  pub stood : slice_get h.thread.slots index ≡ Some (value.Own content)
  pub away : (j : ℕ) → slot j ≡ to → ⊥
  pub passes : Passes code n h.thread after (slot index) to
  pub together : Together code n (record h { thread = after }) h2

-- what a slot owns is given away, and then one value of the thread moves at most
pub record Assigned (code : List Instr) (n : ℕ) (h h2 : Hand) : Type 0 where
  pub index : ℕ
  pub content : Owned
  pub after : ThreadState
  pub stood : slice_get h.thread.slots index ≡ Some (value.Own content)
  pub passes : Passes code n h.thread after (slot index) nowhere
  pub next : Moved code n (record h { thread = after }) h2

-- WHAT THREADS HAVE TAKEN STANDS AT A PLACE

module _ (k : Cluster) (x : Standing) (t : Taking) where
  placed : (w : ℕ) (p : Lval) → other (lies_here (sight k) x.server w (place_at (sight k).ground x.thread.number p)) ≡ 0 → (l : Location) × (place_at (sight k).ground x.thread.number p ≡ Some l)
  placed w p z = by (place_at (sight k).ground x.thread.number p) refl z
    where
      by : (o : Option Location) → place_at (sight k).ground x.thread.number p ≡ o → other (lies_here (sight k) x.server w o) ≡ 0 → (l : Location) × (place_at (sight k).ground x.thread.number p ≡ Some l)
      by None e f = absurd cc
      by (Some l) e f = (l, e)

  taker_placed : (p : Phase) (i : Option Instr) → slice_get k.code x.thread.pc ≡ i → taking_by x.thread.number p i ≡ Some t → taken_phase (sight k) x p ≡ 0 → (l : Location) × (place_at (sight k).ground t.thread t.place ≡ Some l)
  taker_placed (phase.Taken w) (Some (instr.BorrowMut q)) code e z =
      let there : other (lies_here (sight k) x.server w (place_at (sight k).ground x.thread.number q)) ≡ 0 = subst (λ j. taken_there (sight k) x w (taken_place j) ≡ 0) code z in
      let is : record { thread = x.thread.number; place = q; word = w } ≡ t = some_is e in
      let l = placed w q there in
      (l.0, ap (λ (a : Taking). place_at (sight k).ground a.thread a.place) (sym is) ∙ l.1)
  taker_placed _ _ code e z = absurd cc

-- of all that was taken
abbrev pub RootedIn : Cluster → Type 0
RootedIn k = (t : Taking) → Among t (takings k.code (sight k).ground.threads) → (l : Location) × (place_at (sight k).ground t.thread t.place ≡ Some l)

pub rooted : (k : Cluster) → IsSound k → RootedIn k
rooted k sound t h =
    let q = taker_of k.code (sight k).ground.threads t h in
    taker_placed k q.taker t q.taker.thread.phase (slice_get k.code q.taker.thread.pc) refl q.taking (none_at (λ (x : Standing). taken_phase (sight k) x x.thread.phase) q.taker (sight k).ground.threads sound.requests.taken_stands q.among)

-- it stays so where nothing changes that words see
pub rooted_on : (k z : Cluster) → z.code ≡ k.code → Untouched k z → RootedIn k → RootedIn z
rooted_on k z code u go t h =
    let q = go t (u.takes t h) in
    (q.0, seen_places_lead (sight k).ground (sight z).ground in_slots in_cells t.thread t.place.slot t.place.depth ∙ q.1)
  where
    in_slots : (t v i : ℕ) → leads t (value_in (sight z).ground (at_slot v i)) ≡ leads t (value_in (sight k).ground (at_slot v i))
    in_slots t v i = sym (leads_pointing t (value_in (sight z).ground (at_slot v i))) ∙ ap (leads t) (u.stands (at_slot v i)) ∙ leads_pointing t (value_in (sight k).ground (at_slot v i))

    in_cells : (t : ℕ) (o : ObjNo) → leads t (value_in (sight z).ground (in_cell o)) ≡ leads t (value_in (sight k).ground (in_cell o))
    in_cells t o = sym (leads_pointing t (value_in (sight z).ground (in_cell o))) ∙ ap (leads t) (u.stands (in_cell o)) ∙ leads_pointing t (value_in (sight k).ground (in_cell o))

module _ (k : Cluster) (sound : IsSound k) (s : Server) (here : server_at k.servers s.rest.number ≡ Some s) (t : ℕ) (y : ThreadState) (at : thread_in s.threads t ≡ Some y) where
  abbrev n : ℕ
  n = s.rest.number

  abbrev pub others : List Thing
  others = servers_things (others_of k.servers n)

  abbrev pub Ok : Hand → Type 0
  Ok = HandOk Sums n s.events t (all_standing n (without_thread s.threads t) ++ others)

  abbrev pub with_hand : Hand → Server
  with_hand h = record { rest = h.work.rest; threads = set_thread s.threads h.thread; events = s.events + 1 }

  abbrev pub put : Hand → Cluster
  put h = put_in k n s.threads (s.events + 1) h

  pub places : (h : Hand) → Ok h → HasPlaces (put h)
  places h g =
      let site = puts_back sums_kept n s.events others t s.threads y at h g in
      let left : Sums (server_things (with_hand h) ++ others) = ends_site sums_kept n s.events others None None (put_back s.threads h) site in
      let sums : Sums (things_of (put h)) = sums_kept.same (server_things (with_hand h) ++ others) (things_of (put h)) (λ f. omega (arith, (tot-server f k.servers n s (with_hand h) here).1, tot-append f (server_things (with_hand h)) others)) left in
      record { numbers_differ = sums.numbers_differ; home_of_each = sums.home_of_each; owner_of_each = sums.owner_of_each }

  pub stands_here : (h : Hand) → h.work.rest.number ≡ n → h.thread.number ≡ t → StandsHere k n s.threads h
  stands_here h e f = record {
    server = subst (λ o. IsSome o) (sym here) refl;
    number = e;
    thread = subst (λ m. IsSome (thread_in s.threads m)) (sym f) (subst (λ o. IsSome o) (sym at) refl);
  }

  abbrev pub h0 : Hand
  h0 = record { work = begin_work s.rest; thread = y }

  pub its_number : y.number ≡ t
  its_number = thread_number s.threads t y at

  pub first_ok : Ok h0
  first_ok =
      let sums : Sums (server_things s ++ others) = sums_kept.same (things_of k) (server_things s ++ others) (λ f. omega (arith, (tot-server f k.servers n s s here).0, tot-append f (server_things s) others)) (sound_has_sums k sound) in
      takes sums_kept n s.events others t (begin_at s) y at (begins_site sums_kept others s sums)

  pub before : HasPlaces k
  before = record { numbers_differ = sound.names.numbers_differ; home_of_each = sound.one_home.home_of_each; owner_of_each = sound.one_owner.owner_of_each }

  first_alike : Alike k.code (things_of k) (things_of (put h0))
  first_alike = servers_alike n k.servers s (with_hand h0) here (begun_alike s s.events None None (put_back s.threads h0) (put_alike k.code [] t (begin_at s) y at h0 (hand_itself k.code n h0)))

  -- the third of three becomes the second
  aside : (a w b : List Thing) → Alike k.code (a ++ w ++ b) (a ++ b ++ w)
  aside a w b = chain (turned (joined a w b)) (chain (beside (itself a) (exchanged w b)) (joined a b w))

  pub site_of : (h : Hand) → h.thread.number ≡ t → Alike k.code (all_standing n (set_thread s.threads h.thread) ++ body_things n h.work.rest) (thread_things n false h.thread ++ body_things n h.work.rest ++ all_standing n (without_thread s.threads t))
  site_of h f =
      let w = all_standing n (without_thread s.threads t) in
      chain (beside (taken_alike (thread_things n false) 0 0 (thread_set s.threads t y h.thread at f)) (itself (body_things n h.work.rest))) (aside (thread_things n false h.thread) w (body_things n h.work.rest))

  pub puts_alike : (h h2 : Hand) → h.work.rest.number ≡ n → h.thread.number ≡ t → Together k.code n h h2 → Alike k.code (things_of (put h)) (things_of (put h2))
  puts_alike h h2 e f a =
      replaced n k.servers s (with_hand h) (with_hand h2) [] here
      (chain (turned (ends_alike n s.events None None (put_back s.threads h) e))
      (chain (site_of h f) (chain (beside a.alike (itself (all_standing n (without_thread s.threads t)))) (chain (turned (site_of h2 (a.named ∙ f))) (ends_alike n s.events None None (put_back s.threads h2) (a.number ∙ e))))))

  pub first_seen : Untouched k (put h0)
  first_seen = seen_alike k (put h0) before (places h0 first_ok) refl first_alike

  pub first_leaves : LeavesWords k (put h0)
  first_leaves = untouched_stays k (put h0) before (places h0 first_ok) first_seen

  first_holders : Holds (put h0) first_at_holder
  first_holders = first_leaves.holders sound.words.first_at_holder

  pub first_rooted : RootedIn (put h0)
  first_rooted = rooted_on k (put h0) refl first_seen (rooted k sound)

  module _ {R : Cluster → Cluster → Type 0} (go : GoesOver R) where
    -- so what goes on does so from one hand to the other
    pub moved_over : (h1 h : Hand) → h1.work.rest.number ≡ n → h1.thread.number ≡ t → HasPlaces (put h1) → HasPlaces (put h) → RootedIn (put h1) → Holds (put h1) first_at_holder → Moved k.code n h1 h → R (put h1) (put h)
    moved_over h1 h e1 f1 place_1 place_h root firsts (seen a) = go.seen (put h1) (put h) place_1 place_h refl (puts_alike h1 h e1 f1 a)
    moved_over h1 h e1 f1 place_1 place_h root firsts (passed x z e a owns p blind b) = go.chain (put h1) (put ha) (put h) first (go.chain (put ha) (put hb) (put h) second third)
      where
        ha : Hand
        ha = record h1 { thread = x }

        hb : Hand
        hb = record h1 { thread = z }

        place_a : HasPlaces (put ha)
        place_a = places_on (put h1) (put ha) n h1.thread x e (put_split k n s.threads (s.events + 1) h1 ha (stands_here h1 e1 f1) refl e) owns place_1

        alike_a : Alike k.code (things_of (put h1)) (things_of (put ha))
        alike_a = puts_alike h1 ha e1 f1 (record { number = refl; named = e; alike = beside a (itself (body_things n h1.work.rest)) })

        seen_a : Untouched (put h1) (put ha)
        seen_a = seen_alike (put h1) (put ha) place_1 place_a refl alike_a

        holders : Holds (put ha) first_at_holder
        holders = (untouched_stays (put h1) (put ha) place_1 place_a seen_a).holders firsts

        first : R (put h1) (put ha)
        first = go.seen (put h1) (put ha) place_1 place_a refl alike_a

        split : Split (things_of (put ha)) (things_of (put hb)) (thread_things n false x) (thread_things n false z)
        split = put_split k n s.threads (s.events + 1) ha hb (stands_here ha e1 (e ∙ f1)) refl p.number

        place_b : HasPlaces (put hb)
        place_b = places_on (put ha) (put hb) n x z p.number split p.owns place_a

        second : R (put ha) (put hb)
        second =
            go.carried (put ha) (put hb) _ _ place_a place_b holders (cells_same (put ha) (put hb) n x z p.number split place_a place_b)
            (is_carried (put ha) (put hb) n x z _ _ p split refl place_a place_b (is_quiet (put ha) (put hb) n x z _ _ p split refl place_a place_b blind holders (rooted_on (put h1) (put ha) refl seen_a root)))

        third : R (put hb) (put h)
        third = go.seen (put hb) (put h) place_b place_h refl (puts_alike hb h e1 (p.number ∙ e ∙ f1) b)

    first_goes : R k (put h0)
    first_goes = go.seen k (put h0) before (places h0 first_ok) refl first_alike

    -- and so from the event's start
    pub moved_goes : (h : Hand) → Ok h → Moved k.code n h0 h → R k (put h)
    moved_goes h g m = go.chain k (put h0) (put h) first_goes (moved_over h0 h refl its_number (places h0 first_ok) (places h g) first_rooted first_holders m)

    -- where what a slot owns goes, which was owned alone
    module _ (index : ℕ) (content : Owned) (to : Here) (after : ThreadState) (stood : slice_get y.slots index ≡ Some (value.Own content)) (away : (j : ℕ) → slot j ≡ to → ⊥) (p : Passes k.code n y after (slot index) to) (alone : OwnsAlone k (at_slot y.number index)) where
      abbrev hb : Hand
      hb = record h0 { thread = after }

      split : Split (things_of (put h0)) (things_of (put hb)) (thread_things n false y) (thread_things n false after)
      split = put_split k n s.threads (s.events + 1) h0 hb (stands_here h0 refl its_number) refl p.number

      place_b : HasPlaces (put hb)
      place_b = places_on (put h0) (put hb) n y after p.number split p.owns (places h0 first_ok)

      carried_out : Carried (put h0) (put hb) (located y.number (slot index)) (located y.number to)
      carried_out =
          is_carried (put h0) (put hb) n y after (slot index) to p split refl (places h0 first_ok) place_b
          (owned_quiet (put h0) (put hb) n y after index to p split refl (places h0 first_ok) place_b content stood away (owns_on k (put h0) first_seen y.number index alone) first_holders first_rooted)

      goes_out : R (put h0) (put hb)
      goes_out = go.carried (put h0) (put hb) _ _ (places h0 first_ok) place_b first_holders (cells_same (put h0) (put hb) n y after p.number split (places h0 first_ok) place_b) carried_out

      holders_out : Holds (put hb) first_at_holder
      holders_out = (carried_stays (put h0) (put hb) _ _ (places h0 first_ok) place_b first_holders carried_out).holders first_holders

      rooted_out : RootedIn (put hb)
      rooted_out v w = let a = carried_out.takes v w in let r = first_rooted v a in (r.0, (carried_out.taken v a).0 ∙ r.1)

    -- what goes on does so there
    pub given_goes : (h : Hand) → Ok h → (q : Given k.code n h0 h) → OwnsAlone k (at_slot y.number q.index) → R k (put h)
    given_goes h g q alone =
        let b = record h0 { thread = q.after } in
        go.chain k (put h0) (put h) first_goes
        (go.chain (put h0) (put b) (put h) (goes_out q.index q.content q.to q.after q.stood q.away q.passes alone)
        (go.seen (put b) (put h) (place_b q.index q.content q.to q.after q.stood q.away q.passes alone) (places h g) refl (puts_alike b h refl (q.passes.number ∙ its_number) q.together)))

    -- and so it does where another value comes then
    pub assigned_goes : (h : Hand) → Ok h → (q : Assigned k.code n h0 h) → OwnsAlone k (at_slot y.number q.index) → R k (put h)
    assigned_goes h g q alone =
        let b = record h0 { thread = q.after } in
        let away : (j : ℕ) → slot j ≡ nowhere → ⊥ = λ j w. absurd cc in
        go.chain k (put h0) (put h) first_goes
        (go.chain (put h0) (put b) (put h) (goes_out q.index q.content nowhere q.after q.stood away q.passes alone)
        (moved_over b h refl (q.passes.number ∙ its_number) (place_b q.index q.content nowhere q.after q.stood away q.passes alone) (places h g) (rooted_out q.index q.content nowhere q.after q.stood away q.passes alone) (holders_out q.index q.content nowhere q.after q.stood away q.passes alone) q.next))

  -- so the words stay
  pub moved_from : (h1 h : Hand) → h1.work.rest.number ≡ n → h1.thread.number ≡ t → HasPlaces (put h1) → HasPlaces (put h) → RootedIn (put h1) → Holds (put h1) first_at_holder → Moved k.code n h1 h → LeavesWords (put h1) (put h)
  moved_from = moved_over words_go

  pub moved_leaves : (h : Hand) → Ok h → Moved k.code n h0 h → LeavesWords k (put h)
  moved_leaves = moved_goes words_go

  pub given_leaves : (h : Hand) → Ok h → (q : Given k.code n h0 h) → OwnsAlone k (at_slot y.number q.index) → LeavesWords k (put h)
  given_leaves = given_goes words_go

  pub assigned_leaves : (h : Hand) → Ok h → (q : Assigned k.code n h0 h) → OwnsAlone k (at_slot y.number q.index) → LeavesWords k (put h)
  assigned_leaves = assigned_goes words_go

-- IN ITS CLUSTER

-- what goes on holds with the server put back
abbrev pub ThereBy : (Cluster → Cluster → Type 0) → Cluster → Server → Server × EntryView → Type 0
ThereBy R k s r = R k (record k { servers = with_server k.servers s.rest.number r.0 }) × HasPlaces (record k { servers = with_server k.servers s.rest.number r.0 })

abbrev pub There : Cluster → Server → Server × EntryView → Type 0
There k s r = ThereBy LeavesWords k s r

module _ {R : Cluster → Cluster → Type 0} (go : GoesOver R) where
  handed : (k : Cluster) (s : Server) → server_at k.servers s.rest.number ≡ Some s → (o : Option (Server × EntryView)) → Gives (ThereBy R k s) o
      → Gives (λ (r : Server × EntryView). GoTo (with_server k.servers s.rest.number r.0) (drop_first (length s.rest.outbox) r.0.rest.outbox)) o
      → Gives (λ (d : Cluster × EntryView). HasPlaces d.0 → R k d.0) (option_map (λ r. (record k { servers = hand_over_newer s.rest.number (length s.rest.outbox) r.0 k.servers }, r.1)) o)
  handed k s here None a g = tt
  handed k s here (Some r) a g = λ q.
      let n = s.rest.number in
      let older = length s.rest.outbox in
      let mid : Cluster = record k { servers = with_server k.servers n r.0 } in
      let end : Cluster = record k { servers = hand_over_newer n older r.0 k.servers } in
      let alike : Alike k.code (things_of mid) (things_of end) = handed_over n older s r.0 k.servers here (go_with k.servers n r.0 (take older r.0.rest.outbox) (drop_first older r.0.rest.outbox) g) in
      go.chain k mid end a.0 (go.seen mid end a.1 q refl alike)

  -- and once messages are handed over
  pub left_by : (k : Cluster) (s : Server) (t : ℕ) → IsSound k → FewEvents k → server_at k.servers s.rest.number ≡ Some s → (enabled k.options s (Step t) ≡ true → Gives (ThereBy R k s) (does k.code k.options s (Step t))) → Gives (λ (d : Cluster × EntryView). R k d.0) (apply k (record { server = s.rest.number; what = Step t }))
  left_by k s t sound few h f =
      both_give (λ (d : Cluster × EntryView). HasPlaces d.0 → R k d.0) (λ (d : Cluster × EntryView). HasPlaces d.0) (λ (d : Cluster × EntryView). R k d.0) (apply k (record { server = s.rest.number; what = Step t }))
      (subst (λ o. Gives (λ (d : Cluster × EntryView). HasPlaces d.0 → R k d.0) (then_some o (λ x. option_map (λ d. (record k { servers = hand_over_newer s.rest.number (length x.rest.outbox) d.0 k.servers }, d.1)) (done_at k (Step t) x)))) (sym h)
      (handed k s h (done_at k (Step t) s) (test_gives (ThereBy R k s) (enabled k.options s (Step t)) (does k.code k.options s (Step t)) f) (each_event_sends k (record { server = s.rest.number; what = Step t }) sound few s h)))
      (applied_part HasPlaces (λ c g. record { numbers_differ = g.numbers_differ; home_of_each = g.home_of_each; owner_of_each = g.owner_of_each }) k (record { server = s.rest.number; what = Step t }) sound few)
      (λ d a c. a c)

-- a step of its thread, of which something is shown from which it goes on
pub step_by : (R : Cluster → Cluster → Type 0) (k : Cluster) (sound : IsSound k) (s : Server) (here : server_at k.servers s.rest.number ≡ Some s) (t : ℕ) (y : ThreadState) (at : thread_in s.threads t ≡ Some y) (i : Instr) → slice_get k.code y.pc ≡ Some i
    → (P : Hand → Type 0) → ((h : Hand) → Ok k sound s here t y at h → P h → R k (put k sound s here t y at h))
    → Gives (λ (d : Stepped). Ok k sound s here t y at d.hand) (step k.options.servers i (h0 k sound s here t y at))
    → Gives (λ (d : Stepped). P d.hand) (step k.options.servers i (h0 k sound s here t y at))
    → Gives (ThereBy R k s) (does k.code k.options s (Step t))
step_by R k sound s here t y at i code P leaves ok moved =
    subst (λ o. Gives (ThereBy R k s) (option_map (stepped s) (then_some (option_map (λ v. record { work = begin_work s.rest; thread = v }) o) (step_in k.code k.options.servers)))) (sym at)
    (subst (λ o. Gives (ThereBy R k s) (option_map (stepped s) (then_some o (λ j. step k.options.servers j (h0 k sound s here t y at))))) (sym code)
    (over_gives (λ (d : Stepped). Ok k sound s here t y at d.hand × P d.hand) (ThereBy R k s) (step k.options.servers i (h0 k sound s here t y at)) (stepped s)
    (both_give (λ (d : Stepped). Ok k sound s here t y at d.hand) (λ (d : Stepped). P d.hand) (λ (d : Stepped). Ok k sound s here t y at d.hand × P d.hand) (step k.options.servers i (h0 k sound s here t y at)) ok moved (λ d a b. (a, b)))
    (λ d g. (leaves d.hand g.0 g.1, places k sound s here t y at d.hand g.0))))

-- so the words stay
pub left_where : (k : Cluster) (s : Server) (t : ℕ) → IsSound k → FewEvents k → server_at k.servers s.rest.number ≡ Some s → (enabled k.options s (Step t) ≡ true → Gives (There k s) (does k.code k.options s (Step t))) → Gives (λ (d : Cluster × EntryView). LeavesWords k d.0) (apply k (record { server = s.rest.number; what = Step t }))
left_where = left_by words_go

pub step_there : (k : Cluster) (sound : IsSound k) (s : Server) (here : server_at k.servers s.rest.number ≡ Some s) (t : ℕ) (y : ThreadState) (at : thread_in s.threads t ≡ Some y) (i : Instr) → slice_get k.code y.pc ≡ Some i
    → (P : Hand → Type 0) → ((h : Hand) → Ok k sound s here t y at h → P h → LeavesWords k (put k sound s here t y at h))
    → Gives (λ (d : Stepped). Ok k sound s here t y at d.hand) (step k.options.servers i (h0 k sound s here t y at))
    → Gives (λ (d : Stepped). P d.hand) (step k.options.servers i (h0 k sound s here t y at))
    → Gives (There k s) (does k.code k.options s (Step t))
step_there = step_by LeavesWords
