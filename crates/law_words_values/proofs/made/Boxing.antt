-- A hand that makes an object: what its value was becomes the thread's gift, then a cell lies with it and its box is the gift, and then the box is on top.
use Rattle.std.proofs.Common.{◌≡◌, ◌⊎◌, inl, inr, ℕ, ◌+◌, ◌≤◌, ◌&&◌, not, true, false, List, [], ◌∷◌, ◌++◌, Some, None, refl, sym, ap, ap₂, subst, ◌∙◌, arith}
use Rattle.std.specs.Prelude.{slice_get, length}
use Rattle.std.proofs.lemmas.Bool.{eq-eqb}
use Rattle.law_counts_things.specs.Below.fr_base.declared.name.ObjNo.{ObjNo}
use Rattle.law_counts_things.specs.Below.heap_partition.declared.value.BoxPtr.{BoxPtr}
use Rattle.law_counts_things.specs.Below.heap_partition.declared.value.Cell.{Cell}
use Rattle.law_counts_things.specs.Below.heap_partition.declared.value.Owned.{Owned}
use Rattle.law_counts_things.specs.Below.heap_partition.declared.value.Owned.TheVariants as owned
use Rattle.law_counts_things.specs.Below.colour_retire.Colours.{picked}
use Rattle.law_counts_things.specs.Below.owner_box.View.{PartitionState}
use Rattle.law_counts_things.specs.Below.owner_box.Partition.{new_word, made}
use Rattle.law_counts_things.specs.Below.thread_state.View.{ThreadState, is_over}
use Rattle.law_counts_things.specs.Below.thread_state.declared.value.Value.{Value}
use Rattle.law_counts_things.specs.Below.thread_state.declared.value.Value.TheVariants as value
use Rattle.law_counts_things.specs.Below.journal.declared.act.Act.TheVariants as act
use Rattle.law_counts_things.specs.Below.server_model.Servers.{Rest, Server, Cluster, server_at}
use Rattle.law_counts_things.specs.Below.server_model.Work.{Hand, last_of, front_of, thread_in, without_thread, put_back, note, with_partition}
use Rattle.law_counts_things.specs.Below.server_model.NewWords.{NewWord, can_grow, issue_placed}
use Rattle.law_counts_things.specs.Below.server_model.Commit.{push_box, make_box}
use Rattle.law_counts_things.specs.Below.coherent_memory.Names.{Among, tot, one}
use Rattle.law_counts_things.specs.Below.coherent_memory.Things.{at_temp, in_hand, Thing, holds, lies, flies, stands, things_at, standing_things, thread_things, things_of}
use Rattle.law_counts_things.specs.Below.coherent_memory.Follow.{Standing, threads_in, cells_in}
use Rattle.law_counts_things.specs.Below.coherent_memory.Sight.{issued, sight}
use Rattle.law_counts_things.specs.Below.coherent_memory.Weights.{cells}
use Rattle.law_counts_things.specs.Below.coherent_memory.Words.{HasWords}
use Rattle.law_counts_things.specs.Below.coherent_memory.Coherent.{Holds, first_at_holder, IsSound}
use Rattle.law_counts_things.specs.Below.coherent_types.ClusterTypes.{IsCoherent}
use Rattle.law_counts_things.proofs.Below.law_words_paths.paths.Contained.{among_thread}
use Rattle.law_counts_things.specs.Below.law_counts_sums.Laws.{Gives, FewEvents}
use Rattle.law_counts_things.proofs.Below.law_counts_sums.Trades.{tot-append}
use Rattle.law_counts_things.proofs.Below.law_counts_sums.Results.{over_gives, test_gives}
use Rattle.law_counts_things.proofs.Below.law_counts_sums.Values.{last_split}
use Rattle.law_counts_things.proofs.Below.law_counts_sums.Bags.{all_standing, body_things, rest_things, server_same}
use Rattle.law_counts_things.proofs.Below.law_counts_sums.Boxes.{goes_as, all_new}
use Rattle.law_counts_things.proofs.Below.law_counts_sums.Events.{tot-server}
use Rattle.law_counts_things.proofs.Below.law_counts_sums.Sound.{sound_has_sums}
use Rattle.law_counts_things.proofs.Below.law_counts_sums.ThreadThere.{thread_there}
use Rattle.law_words_values.specs.Below.law_words_paths.words.Reworded.{HasPlaces}
use Rattle.law_words_values.specs.Below.law_words_paths.words.Unmoved.{pointing, LeavesWords}
use Rattle.law_words_values.specs.Below.law_words_paths.words.WordsAfter.{KeepsWords}
use Rattle.law_words_values.proofs.Below.law_words_paths.words.Put.{Split, put_split}
use Rattle.law_words_values.proofs.Below.law_words_paths.words.Slots.{thread_cells}
use Rattle.law_words_values.proofs.Below.law_words_kept.stays.Alike.{Alike, itself, turned, chain, beside, joined, in_front, goes}
use Rattle.law_words_values.proofs.Below.law_words_kept.stays.Servers.{held, held_if}
use Rattle.law_words_values.proofs.Below.law_words_kept.stays.Threads.{slots_of, temps_of, thread_alike}
use Rattle.law_words_values.proofs.Below.law_words_kept.stays.Sites.{ends_alike, replaced}
use Rattle.law_words_values.proofs.Below.law_words_kept.stays.Steps.{TakesNoneHere}
use Rattle.law_words_values.specs.carried.Carried.{Carried}
use Rattle.law_words_values.specs.carried.Made.{Made}
use Rattle.law_words_values.proofs.carried.Carrying.{carried_stays}
use Rattle.law_words_values.proofs.carried.Making.{made_keeps}
use Rattle.law_words_values.proofs.carried.Replaced.{places_on}
use Rattle.law_words_values.proofs.carried.Passing.{slot, temp, nowhere, Passes, is_carried, is_quiet}
use Rattle.law_words_values.proofs.carried.Places.{temp_to_gift, gift_to_temp}
use Rattle.law_words_values.proofs.carried.Hands.{RootedIn, leaves_chain, put, with_hand, places, stands_here, h0, its_number, first_ok, before, site_of, first_seen, first_leaves, first_rooted}
use Rattle.law_words_values.proofs.carried.Far.{thread_thing}
use Rattle.law_words_values.proofs.made.Unnamed.{NonePoints, no_value, none_points, none_untouched, none_carried}
use Rattle.law_words_values.proofs.made.Partition.{body_comes}
use Rattle.law_words_values.proofs.made.NewCell.{is_made}
use Rattle.law_words_values.proofs.made.Servers.{vacant_there, NextWord, next_word_is}

-- ONE AFTER ANOTHER

pub leaves_keeps : {a b c : Cluster} {o : ObjNo} {w : ℕ} {start : HasWords (sight a)} → (p : LeavesWords a b) → KeepsWords b c o w (p.words start).after → KeepsWords a c o w start
leaves_keeps {start = start} p q =
    let x = q.words in
    let y = p.words start in record { words = record { after = x.after; new = x.new; others = λ n away. x.others n away ∙ y.same n }; holders = q.holders; dirty = λ h. q.dirty (p.dirty h); past = λ h. q.past (p.past h) }

pub keeps_leaves : {a b c : Cluster} {o : ObjNo} {w : ℕ} {start : HasWords (sight a)} → KeepsWords a b o w start → LeavesWords b c → KeepsWords a c o w start
keeps_leaves {o = o} p q =
    let x = p.words in
    let y = q.words x.after in record { words = record { after = y.after; new = y.same o ∙ x.new; others = λ n away. y.same n ∙ x.others n away }; holders = q.holders p.holders; dirty = λ h. q.dirty (p.dirty h); past = λ h. q.past (p.past h) }

-- SUMS OF CELLS

no_cells : (o : ObjNo) (l : List Thing) → cells_in l ≡ [] → tot (cells o) l ≡ 0
no_cells o [] e = refl
no_cells o (lies r g z ∷ l) e = absurd cc
no_cells o (flies w z ∷ l) e = absurd cc
no_cells o (_ ∷ l) e = let w = no_cells o l e in omega (arith, w)

no_standing : (o : ObjNo) (n i : ℕ) (ts : List ThreadState) → tot (cells o) (things_at (standing_things n) i ts) ≡ 0
no_standing o n i [] = refl
no_standing o n i (t ∷ ts) = omega (arith, tot-append (cells o) (thread_things n false t) (things_at (standing_things n) (i + 1) ts), no_cells o (thread_things n false t) (thread_cells n t), no_standing o n (i + 1) ts)

weighs_among : (f : Thing → ℕ) (x : Thing) (b : List Thing) → Among x b → f x ≤ tot f b
weighs_among f x [] h = absurd h
weighs_among f x (y ∷ b) (inl e) = let s : f y ≡ f x = ap f e in omega (arith, s)
weighs_among f x (y ∷ b) (inr h) = let l = weighs_among f x b h in omega (arith, l)

goes_on_as : (n : ℕ) (y : ThreadState) → is_over y.phase ≡ false → goes_as y.number y.made (stands n false y) ≡ 1
goes_on_as n y e = ap₂ (λ p q. one (p && q)) (eq-eqb y.number y.number refl) (ap₂ (λ p q. p && not q) (eq-eqb y.made y.made refl) e)

module _ (k : Cluster) (coherent : IsCoherent k) (few : FewEvents k) (s : Server) (here : server_at k.servers s.rest.number ≡ Some s) (t : ℕ) (y : ThreadState) (at : thread_in s.threads t ≡ Some y) (going : is_over y.phase ≡ false)
    (none : TakesNoneHere k.code y) (free : y.gift ≡ None) (start : HasWords (sight k)) where
  abbrev sound : IsSound k
  sound = coherent.sound

  abbrev n : ℕ
  n = s.rest.number

  abbrev Put : Hand → Cluster
  Put = put k sound s here t y at

  abbrev first : Hand
  first = h0 k sound s here t y at

  abbrev pub name : ObjNo
  name = record { thread = y.number; count = y.made }

  number_is : y.number ≡ t
  number_is = its_number k sound s here t y at

  -- THE NAME IS NEW

  pub none_named : tot (cells name) (things_of k) ≡ 0
  none_named =
      let me : Standing = record { server = n; packed = false; thread = y } in
      let among = thread_thing me (things_of k) (among_thread (threads_in (things_of k)) t me (thread_there k sound n s here t y at)).0 in
      let weight = weighs_among (goes_as y.number y.made) (stands n false y) (things_of k) among in
      let mine = goes_on_as n y going in
      all_new (sight k) refl (sound_has_sums k sound) sound.names.objects_made y.number y.made (omega (arith, weight, mine))

  -- nor is there a cell while the server's rest is as it was
  none_put : (h : Hand) → h.work.rest ≡ s.rest → tot (cells name) (things_of (Put h)) ≡ 0
  none_put h e =
      let f = cells name in
      let x = with_hand k sound s here t y at h in
      let both = tot-server f k.servers n s x here in
      let body : tot f (body_things h.work.rest.number h.work.rest) ≡ tot f (body_things n s.rest) = ap (λ (r : Rest). tot f (body_things r.number r)) e in
      omega (
        arith,
        none_named,
        both.0,
        both.1,
        server_same s f,
        server_same x f,
        tot-append f (all_standing n s.threads) (rest_things n s.events s.rest),
        tot-append f (all_standing x.rest.number x.threads) (rest_things x.rest.number x.events x.rest),
        no_standing name n 0 s.threads,
        no_standing name x.rest.number 0 x.threads,
        body,
      )

  unnamed : NonePoints k name
  unnamed = none_points k coherent name none_named

  -- WHAT IS BESIDE A CLUSTER

  beside_put : (h1 h2 : Hand) (gone : List Thing) → h1.work.rest.number ≡ n → h1.thread.number ≡ t → h2.work.rest.number ≡ n → h2.thread.number ≡ t
      → Alike k.code (thread_things n false h1.thread ++ body_things n h1.work.rest) (gone ++ (thread_things n false h2.thread ++ body_things n h2.work.rest)) → Alike k.code (things_of (Put h1)) (gone ++ things_of (Put h2))
  beside_put h1 h2 gone e1 f1 e2 f2 a =
      let w = all_standing n (without_thread s.threads t) in
      replaced n k.servers s (with_hand k sound s here t y at h1) (with_hand k sound s here t y at h2) gone here
      (chain (turned (ends_alike n s.events None None (put_back s.threads h1) e1))
      (chain (site_of k sound s here t y at h1 f1)
      (chain (beside a (itself w))
      (chain (turned (joined gone (thread_things n false h2.thread ++ body_things n h2.work.rest) w))
      (beside (itself gone) (chain (turned (site_of k sound s here t y at h2 f2)) (ends_alike n s.events None None (put_back s.threads h2) e2)))))))

  -- the hand that has popped
  abbrev popped : List Value → Hand
  popped ts = record first { thread = record y { temps = ts } }

  -- THE VALUE IS GIVEN

  pub record Given (u : Owned) (ts : List Value) : Type 0 where
    thread : ThreadState
    named : thread.number ≡ y.number
    places : HasPlaces (Put (record first { thread = thread }))
    leaves : LeavesWords k (Put (record first { thread = thread }))
    rooted : RootedIn (Put (record first { thread = thread }))
    unnamed : NonePoints (Put (record first { thread = thread })) name
    alike : Alike k.code (things_of (Put (record first { thread = thread }))) (holds in_hand u ∷ things_of (Put (popped ts)))

  place_first : HasPlaces (Put first)
  place_first = places k sound s here t y at first (first_ok k sound s here t y at)

  -- a value that words don't see
  pub unseen_given : (u : Owned) → Alike k.code (held u) [] → Given u y.temps
  unseen_given u a = record {
    thread = y;
    named = refl;
    places = place_first;
    leaves = first_leaves k sound s here t y at;
    rooted = first_rooted k sound s here t y at;
    unnamed = none_untouched k (Put first) name (before k sound s here t y at) place_first (first_seen k sound s here t y at) unnamed;
    alike = turned (goes a);
  }

  -- what was on top
  pub top_given : (u : Owned) → last_of y.temps ≡ Some (value.Own u) → Given u (front_of y.temps)
  top_given u e = record {
    thread = x;
    named = refl;
    places = place_a;
    leaves = leaves_chain (first_leaves k sound s here t y at) (carried_stays (Put first) (Put ha) _ _ place_first place_a firsts carried);
    rooted = λ v i. (let a = carried.takes v i in let r = first_rooted k sound s here t y at v a in (r.0, (carried.taken v a).0 ∙ r.1));
    unnamed = none_carried (Put first) (Put ha) name _ place_first place_a carried (none_untouched k (Put first) name (before k sound s here t y at) place_first (first_seen k sound s here t y at) unnamed);
    alike = beside_put ha (popped ts) (held u) refl number_is refl number_is (chain (beside away (itself (body_things n s.rest))) (turned (joined (held u) (thread_things n false (record y { temps = ts })) (body_things n s.rest))));
  }
    where
      ts : List Value
      ts = front_of y.temps

      x : ThreadState
      x = record y { temps = ts; gift = Some u }

      ha : Hand
      ha = record first { thread = x }

      passes : Passes k.code n y x (temp (length ts)) nowhere
      passes = temp_to_gift k.code n y none ts u (last_split y.temps (value.Own u) e) free

      split : Split (things_of (Put first)) (things_of (Put ha)) (thread_things n false y) (thread_things n false x)
      split = put_split k n s.threads (s.events + 1) first ha (stands_here k sound s here t y at first refl number_is) refl refl

      place_a : HasPlaces (Put ha)
      place_a = places_on (Put first) (Put ha) n y x refl split passes.owns place_first

      firsts : Holds (Put first) first_at_holder
      firsts = let l = first_leaves k sound s here t y at in l.holders sound.words.first_at_holder

      blind : (i : ℕ) → (slot i ≡ temp (length ts)) ⊎ (slot i ≡ nowhere) → pointing (slice_get y.slots i) ≡ None
      blind i (inl q) = absurd cc
      blind i (inr q) = absurd cc

      carried : Carried (Put first) (Put ha) (Some (at_temp y.number (length ts))) None
      carried =
          is_carried (Put first) (Put ha) n y x (temp (length ts)) nowhere passes split refl place_first place_a
          (is_quiet (Put first) (Put ha) n y x (temp (length ts)) nowhere passes split refl place_first place_a blind firsts (first_rooted k sound s here t y at))

      away : Alike k.code (thread_things n false x) (held u ++ thread_things n false (record y { temps = ts }))
      away =
          thread_alike n n false false x (record y { temps = ts }) [] (held u) (record { number = refl; taking = refl; slots = λ i. refl; temps = λ i. refl }) (itself (slots_of n x)) (itself (temps_of n x))
          (subst (λ g. Alike k.code (held u) (held u ++ held_if g)) (sym free) (itself (held u)))

  -- THE OBJECT IS MADE

  -- a box of it is on top
  pub record Boxed (h : Hand) : Type 0 where
    pub word : ℕ
    pub new : issued (sight k) word ≡ false
    pub keeps : KeepsWords k (Put h) name word start
    pub rest_number : h.work.rest.number ≡ n
    pub thread_number : h.thread.number ≡ t
    pub untaken : TakesNoneHere k.code h.thread

  module _ (u : Owned) (ts : List Value) (given : Given u ts) (grows : can_grow s.rest.partition ≡ true) where
    abbrev p : PartitionState
    p = s.rest.partition

    abbrev cell : Cell
    cell = record { object = name; value = u }

    abbrev address : ℕ
    address = (picked p.free (length p.cells)).0

    abbrev word : ℕ
    word = new_word p

    abbrev box : BoxPtr
    box = record { word = word; object = name }

    abbrev new : NewWord
    new = record { word = word; work = note (act.Make name word) (with_partition (made p cell) first.work) }

    -- the hand afterwards
    abbrev pub last : Hand
    last = push_box u new (popped ts)

    -- before that the box is the gift
    abbrev gifted : ThreadState
    gifted = record y { made = y.made + 1; temps = ts; gift = Some (owned.Box box) }

    abbrev hb : Hand
    hb = record last { thread = gifted }

    abbrev ungifted : ThreadState
    ungifted = record gifted { gift = None; temps = ts ++ value.Own (owned.Box box) ∷ [] }

    abbrev hz : Hand
    hz = record last { thread = ungifted }

    hz_is : hz ≡ last
    hz_is = ap (λ g. record last { thread = record ungifted { gift = g } }) (sym free)

    alike_b : Alike k.code (things_of (Put hb)) (holds in_hand (owned.Box box) ∷ lies n address cell ∷ things_of (Put (popped ts)))
    alike_b =
        let h = held (owned.Box box) in
        let l : List Thing = lies n address cell ∷ [] in
        let b = body_things n s.rest in
        let th = thread_things n false (record y { temps = ts }) in
        let threads : Alike k.code (thread_things n false gifted) (h ++ th) =
        thread_alike n n false false gifted (record y { temps = ts }) [] h (record { number = refl; taking = refl; slots = λ i. refl; temps = λ i. refl }) (itself (slots_of n gifted)) (itself (temps_of n gifted))
        (subst (λ g. Alike k.code h (h ++ held_if g)) (sym free) (itself h)) in
        let bodies : Alike k.code (body_things n hb.work.rest) (l ++ b) = body_comes n s.rest cell (vacant_there k sound s here) in
        beside_put hb (popped ts) (h ++ l) refl number_is refl number_is
        (chain (beside threads bodies) (chain (turned (joined h th (l ++ b))) (chain (beside (itself h) (in_front th l b)) (joined h l (th ++ b)))))

    abbrev is_new : NextWord k s
    is_new = next_word_is k sound s here few grows

    -- the box becomes the value on top
    passes : Passes k.code n gifted ungifted nowhere (temp (length ts))
    passes = gift_to_temp k.code n gifted none (owned.Box box) refl

    pub is_boxed : HasPlaces (Put last) → Boxed last
    is_boxed place_last = record { word = word; new = is_new.fresh; keeps = subst (λ h. KeepsWords k (Put h) name word start) hz_is all; rest_number = refl; thread_number = number_is; untaken = none }
      where
        ha : Hand
        ha = record first { thread = given.thread }

        place_z : HasPlaces (Put hz)
        place_z = subst (λ h. HasPlaces (Put h)) (sym hz_is) place_last

        back : Split (things_of (Put hz)) (things_of (Put hb)) (thread_things n false ungifted) (thread_things n false gifted)
        back = put_split k n s.threads (s.events + 1) hz hb (stands_here k sound s here t y at hz refl number_is) refl refl

        split : Split (things_of (Put hb)) (things_of (Put hz)) (thread_things n false gifted) (thread_things n false ungifted)
        split = put_split k n s.threads (s.events + 1) hb hz (stands_here k sound s here t y at hb refl number_is) refl refl

        place_b : HasPlaces (Put hb)
        place_b = places_on (Put hz) (Put hb) n ungifted gifted refl back (λ o. sym (passes.owns o)) place_z

        made_so : Made (Put ha) (Put hb) name word
        made_so =
            is_made (Put ha) (Put hb) given.places place_b refl (things_of (Put (popped ts))) n address word cell (none_put (popped ts) refl) given.alike alike_b
            (no_value (Put ha) name (none_put ha refl)) given.unnamed given.rooted is_new.leads

        start_a : HasWords (sight (Put ha))
        start_a = (given.leaves.words start).after

        kept : KeepsWords (Put ha) (Put hb) name word start_a
        kept = made_keeps (Put ha) (Put hb) name word given.places place_b (given.leaves.holders sound.words.first_at_holder) made_so start_a

        rooted_b : RootedIn (Put hb)
        rooted_b v i = let a = made_so.takes v i in let r = given.rooted v a in (r.0, (made_so.taken v a).0 ∙ r.1)

        blind : (i : ℕ) → (slot i ≡ nowhere) ⊎ (slot i ≡ temp (length ts)) → pointing (slice_get gifted.slots i) ≡ None
        blind i (inl q) = absurd cc
        blind i (inr q) = absurd cc

        on_top : LeavesWords (Put hb) (Put hz)
        on_top =
            carried_stays (Put hb) (Put hz) _ _ place_b place_z kept.holders
            (is_carried (Put hb) (Put hz) n gifted ungifted nowhere (temp (length ts)) passes split refl place_b place_z
            (is_quiet (Put hb) (Put hz) n gifted ungifted nowhere (temp (length ts)) passes split refl place_b place_z blind kept.holders rooted_b))

        all : KeepsWords k (Put hz) name word start
        all = keeps_leaves (leaves_keeps given.leaves kept) on_top

  -- so a hand with a value makes an object
  pub makes : (u : Owned) (ts : List Value) → Given u ts → Gives (λ (h : Hand). HasPlaces (Put h) → Boxed h) (make_box u (popped ts))
  makes u ts given =
      over_gives (λ (m : NewWord). HasPlaces (Put (push_box u m (popped ts))) → Boxed (push_box u m (popped ts))) (λ (h : Hand). HasPlaces (Put h) → Boxed h) (issue_placed (act.Make name) (record { object = name; value = u }) first.work) (λ m. push_box u m (popped ts))
      (test_gives (λ (m : NewWord). HasPlaces (Put (push_box u m (popped ts))) → Boxed (push_box u m (popped ts))) (can_grow s.rest.partition) _ (λ grows. is_boxed u ts given grows)) (λ m g. g)
