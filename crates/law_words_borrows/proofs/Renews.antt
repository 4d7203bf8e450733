-- A dirty reference in a slot gets a new word at a new address: the words hold, and it isn't stale.
use Rattle.std.proofs.Common.{◌≡◌, ◌≢◌, inr, ℕ, zero, suc, ◌+◌, ◌<◌, ◌≤◌, ◌==◌, ◌&&◌, nat_lt, Bool, true, false, if◌then◌else◌, List, [], ◌∷◌, ◌++◌, Option, Some, None, is_some, refl, sym, ap, ap₂, subst, ◌∙◌, arith}
use Rattle.std.specs.Prelude.{slice_get, slice_set, slice_index_or, length}
use Rattle.std.proofs.lemmas.Bool.{eq-eqb}
use Rattle.std.proofs.lemmas.Bool.Decides.{nat_tests}
use Rattle.law_heap_steps.specs.Below.global_addr.Words.{word_of, colour_of, server_of, address_of}
use Rattle.law_heap_steps.specs.Below.heap_partition.declared.value.Cell.{Cell}
use Rattle.law_heap_steps.specs.Below.colour_retire.Colours.{picked}
use Rattle.law_heap_steps.specs.Below.owner_box.View.{PartitionState}
use Rattle.law_heap_steps.specs.Below.owner_box.Partition.{cell_of as cell_under, next_place, freed, made, renewed, made_again, new_word}
use Rattle.law_heap_steps.specs.Below.mut_borrow.declared.mutable.MutRef.{MutRef}
use Rattle.law_heap_steps.specs.Below.journal.declared.act.Act.TheVariants as act
use Rattle.law_heap_steps.specs.Below.thread_state.View.{ThreadState}
use Rattle.law_heap_steps.specs.Below.thread_state.declared.value.Value.TheVariants as value
use Rattle.law_heap_steps.specs.Below.server_model.Servers.{Rest, Server, Cluster, server_at}
use Rattle.law_heap_steps.specs.Below.server_model.Work.{Hand, look, leads_here, note, with_partition, thread_in, set_thread, without_thread}
use Rattle.law_heap_steps.specs.Below.server_model.NewWords.{NewWord, can_grow, is_last, issue_renewal}
use Rattle.law_heap_steps.specs.Below.server_model.Places.{in_slot, took, put_word}
use Rattle.law_heap_steps.specs.Below.server_model.Prepare.{box_of}
use Rattle.law_heap_steps.specs.Below.coherent_memory.Names.{Among, one}
use Rattle.law_heap_steps.specs.Below.coherent_memory.Things.{Location, at_slot, lies, partition_things, servers_things, things_of}
use Rattle.law_heap_steps.specs.Below.coherent_memory.Follow.{value_in}
use Rattle.law_heap_steps.specs.Below.coherent_memory.Stale.{holder_of}
use Rattle.law_heap_steps.specs.Below.coherent_memory.Sight.{issued, sight}
use Rattle.law_heap_steps.specs.Below.coherent_memory.Weights.{cells, states}
use Rattle.law_heap_steps.specs.Below.coherent_memory.Words.{IsStale, LeadsTo}
use Rattle.law_heap_steps.specs.Below.coherent_memory.Coherent.{Holds, are_issued, IsSound}
use Rattle.law_heap_steps.proofs.Below.coherent_memory.Names.{same_number, and_left, and_right}
use Rattle.law_heap_steps.proofs.Below.coherent_memory.Words.{itself}
use Rattle.law_words_values.specs.Below.coherent_types.ClusterTypes.{IsCoherent}
use Rattle.law_words_values.proofs.Below.law_words_paths.paths.InState.{only_one}
use Rattle.law_words_values.proofs.Below.law_words_paths.paths.Contained.{reference_there}
use Rattle.law_heap_steps.specs.Below.law_counts_sums.Laws.{FewEvents}
use Rattle.law_heap_steps.proofs.Below.law_counts_sums.Results.{given_by}
use Rattle.law_heap_steps.proofs.Below.law_counts_sums.RulesKeep.{sums_kept}
use Rattle.law_heap_steps.proofs.Below.law_counts_sums.Bags.{all_standing}
use Rattle.law_heap_steps.proofs.Below.law_counts_sums.Events.{others_of}
use Rattle.law_heap_steps.proofs.Below.law_counts_sums.Objects.{length_set}
use Rattle.law_heap_steps.proofs.Below.law_counts_sums.NewWords.{hand_renews}
use Rattle.law_heap_steps.specs.Below.law_words_kept.reads.Reading.{LiesUnder}
use Rattle.law_heap_steps.proofs.Below.law_words_kept.reads.Lookups.{one_state}
use Rattle.law_words_kept.specs.Below.law_words_paths.words.Reworded.{HasPlaces, Reworded}
use Rattle.law_words_kept.specs.Below.law_words_paths.words.PutBack.{LeadsHome}
use Rattle.law_words_kept.specs.Below.law_words_paths.words.WordsAfter.{Rewrites}
use Rattle.law_words_kept.proofs.Below.law_words_paths.words.Only.{are_only}
use Rattle.law_words_kept.proofs.Below.law_words_paths.words.Past.{first_issued, past_goes_on}
use Rattle.law_words_kept.proofs.Below.law_words_paths.words.Words.{words_go_on, changed_rewords}
use Rattle.law_words_kept.proofs.Below.law_words_paths.words.Beside.{holders_go_on, dirty_goes_on}
use Rattle.law_words_kept.proofs.Below.law_words_paths.words.Tints.{SlotPut, word_put, slot_stands}
use Rattle.law_words_kept.proofs.Below.law_words_paths.words.Slots.{set_same}
use Rattle.law_words_kept.proofs.Below.law_words_paths.words.Grounds.{of_borrows}
use Rattle.law_words_kept.specs.moves.Relaid.{NextIsVacant, Renewal}
use Rattle.law_words_kept.proofs.moves.Relaid.{at_lies, put_here, renewals_reword}
use Rattle.law_words_values.specs.Below.law_words_kept.prepared.Requests.{WordsRise}
use Rattle.law_words_values.proofs.Below.law_words_kept.prepared.Rising.{rise_changed}
use Rattle.law_words_values.proofs.Below.law_words_kept.prepared.Along.{no_first, dirty_changed}
use Rattle.law_words_values.proofs.Below.law_words_kept.prepared.Hands.{Ok, put, places, stands, Walks}
use Rattle.law_words_values.proofs.made.Listed.{of_server, of_placed, of_partition}
use Rattle.law_words_values.proofs.made.Servers.{vacant_there, NextWord, next_word_is}

-- LISTS

index_end : (xs : List (Option Cell)) → slice_index_or xs (length xs) None ≡ None
index_end [] = refl
index_end (x ∷ xs) = index_end xs

-- what is none is in the list
index_none : (xs : List (Option Cell)) (i : ℕ) → slice_get xs i ≡ Some None → (i < length xs) × (slice_index_or xs i None ≡ None)
index_none [] i e = absurd cc
index_none (x ∷ xs) zero e = let is : x ≡ None = cc in (omega arith, is)
index_none (x ∷ xs) (suc i) e = let q = index_none xs i e in (omega (arith, q.0), q.1)

-- and stays none where another is set
set_none : (xs : List (Option Cell)) (i j : ℕ) → slice_index_or xs i None ≡ None → slice_index_or (slice_set xs j None) i None ≡ None
set_none [] i j e = refl
set_none (x ∷ xs) zero zero e = refl
set_none (x ∷ xs) zero (suc j) e = e
set_none (x ∷ xs) (suc i) zero e = e
set_none (x ∷ xs) (suc i) (suc j) e = set_none xs i j e

-- what a test gives was tested
issued_so : (b : Bool) (x w : NewWord) → (if b then Some x else None) ≡ Some w → (b ≡ true) × (x ≡ w)
issued_so true x w e = (refl, cc)
issued_so false x w e = absurd cc

-- what is some is one
has_cell : (o : Option Cell) → is_some o ≡ true → (c : Cell) × (o ≡ Some c)
has_cell None e = absurd (cc e)
has_cell (Some c) e = (c, refl)

-- one cell at one address
same_cell_there : (r a s d : ℕ) (c e : Cell) → lies r a c ≡ lies s d e → (r ≡ s) × (a ≡ d) × (c ≡ e)
same_cell_there r a s d c e f = (cc, cc, cc)

-- what is equal isn't less
not_less : (a b : ℕ) → (a == b) ≡ true → nat_lt a b ≡ false
not_less a b e = by (nat_lt a b) refl
  where
    by : (c : Bool) → nat_lt a b ≡ c → c ≡ false
    by true q = absurd (grind (arith, nat_tests, e, q))
    by false q = refl

-- a cell weighs at its address
spot_weighs : (r a : ℕ) (c : Cell) (s d : ℕ) → r ≡ s → a ≡ d → 1 ≤ states (s, d) (lies r a c)
spot_weighs r a c s d e f = let w : one (r == s && a == d) ≡ 1 = ap₂ (λ p q. one (p && q)) (eq-eqb r s e) (eq-eqb a d f) in omega (arith, w)

module _ (k : Cluster) (coherent : IsCoherent k) (few : FewEvents k) (s : Server) (here : server_at k.servers s.rest.number ≡ Some s) (t : ℕ) (y : ThreadState) (at : thread_in s.threads t ≡ Some y) where
  abbrev n : ℕ
  n = s.rest.number

  -- the cluster is sound
  abbrev sound : IsSound k
  sound = coherent.sound

  abbrev p : PartitionState
  p = s.rest.partition

  abbrev Put : Hand → Cluster
  Put = put k coherent s here t y at

  -- the reference has the word, and the words hold
  pub record Renewed (h h2 : Hand) (l : Location) (r : MutRef) (w : ℕ) : Type 0 where
    pub words : WordsRise k (Put h2)
    pub fresh : IsStale (sight (Put h2)) (Some l) → ⊥
    pub now : value_in (sight (Put h2)).ground l ≡ Some (value.Mut (took r w))
    pub reworded : Reworded (Put h) (Put h2) l r.object w

  -- whatever the place where it stands
  module _ (h h2 : Hand) (l : Location) (r : MutRef) (nw : NewWord) (walks : Walks k coherent s here t y at h) (g2 : Ok k coherent s here t y at h2) (part : h.work.rest.partition ≡ p) (there : value_in (sight (Put h)).ground l ≡ Some (value.Mut r)) (dirty : r.dirty ≡ true)
      (fresh : IsStale (sight k) (Some l) → ⊥) (under : LiesUnder k (box_of r)) (mine : (server_of r.word == h.work.rest.number) ≡ true) (issues : issue_renewal (box_of r) h.work ≡ Some nw)
      (rewords : Renewal k n s.threads (s.events + 1) h (box_of r) nw → HasPlaces (Put h2) → nw.word ≢ r.first → Reworded (Put h) (Put h2) l r.object nw.word) (now : value_in (sight (Put h2)).ground l ≡ Some (value.Mut (took r nw.word))) where
    -- the sums of the hand
    g : Ok k coherent s here t y at h
    g = walks.state.ok

    abbrev q : PartitionState
    q = h.work.rest.partition

    -- the renewal was tested
    tested : ((leads_here q r.word && (is_last q r.word && can_grow q)) ≡ true) × (record { word = new_word (freed q r.word); work = note (act.Renew r.object r.word (new_word (freed q r.word))) (with_partition (renewed q r.word) h.work) } ≡ nw)
    tested = issued_so (leads_here q r.word && (is_last q r.word && can_grow q)) _ nw issues

    -- the word has the last colour
    last : (colour_of r.word + 1 == q.limit) ≡ true
    last = and_left (is_last q r.word) (can_grow q) (and_right (leads_here q r.word) (is_last q r.word && can_grow q) tested.0)

    -- an address is left
    grows : can_grow q ≡ true
    grows = and_right (is_last q r.word) (can_grow q) (and_right (leads_here q r.word) (is_last q r.word && can_grow q) tested.0)

    -- the word leads here
    leads : leads_here q r.word ≡ true
    leads = and_left (leads_here q r.word) (is_last q r.word && can_grow q) tested.0

    -- its cell
    found : (c : Cell) × (cell_under q r.word ≡ Some c)
    found = has_cell (cell_under q r.word) (and_right (server_of r.word == q.server) (is_some (cell_under q r.word)) (and_left ((server_of r.word == q.server) && is_some (cell_under q r.word)) (nat_lt (colour_of r.word) q.limit) leads))

    abbrev c : Cell
    c = found.0

    -- its cell is found
    looked : look q r.word ≡ Some c
    looked = ap (λ b. if b then cell_under q r.word else None) leads ∙ found.1

    -- at this server
    its_server : server_of r.word ≡ n
    its_server = same_number (server_of r.word) h.work.rest.number mine ∙ g.number

    -- it is the object's
    object : c.object ≡ r.object
    object =
        let there : cell_under p r.word ≡ Some c = subst (λ x. cell_under x r.word ≡ Some c) part found.1 in
        let mine_there = of_server (lies n (address_of r.word) c) n k.servers s here (of_partition (lies n (address_of r.word) c) s (at_lies n p (address_of r.word) c there)) in
        let it = under.there in
        let same = only_one (states (n, address_of r.word)) (lies n (address_of r.word) c) (lies under.server under.address it.cell) (things_of k) (one_state k sound (n, address_of r.word)) mine_there it.among (spot_weighs n (address_of r.word) c n (address_of r.word) refl refl)
        (spot_weighs under.server under.address it.cell n (address_of r.word) (sym under.leads.server ∙ its_server) (sym under.leads.address)) in
        ap (λ (x : Cell). x.object) (same_cell_there n (address_of r.word) under.server under.address c it.cell same).2 ∙ it.object

    -- the next place is the one of before
    same_free : (freed q r.word).free ≡ q.free
    same_free = ap (λ b. if b then (address_of r.word, colour_of r.word + 1) ∷ q.free else q.free) (not_less (colour_of r.word + 1) q.limit last)

    same_next : next_place (freed q r.word) ≡ picked p.free (length p.cells)
    same_next = ap₂ picked same_free (length_set q.cells (address_of r.word) None) ∙ ap (λ (x : PartitionState). picked x.free (length x.cells)) part

    -- it is vacant
    next_in : (fl : List (ℕ × ℕ)) → p.free ≡ fl → ((picked fl (length p.cells)).0 ≤ length p.cells) × (slice_index_or p.cells (picked fl (length p.cells)).0 None ≡ None)
    next_in [] f = (omega arith, index_end p.cells)
    next_in (pair ∷ rest) f = let x = index_none p.cells pair.0 (vacant_there k sound s here pair rest f) in (omega (arith, x.0), x.1)

    next_there : ((picked p.free (length p.cells)).0 ≤ length p.cells) × (slice_index_or p.cells (picked p.free (length p.cells)).0 None ≡ None)
    next_there = next_in p.free refl

    -- that is the new address
    address_is : (next_place (freed q r.word)).0 ≡ (picked p.free (length p.cells)).0
    address_is = ap (λ (x : ℕ × ℕ). x.0) same_next

    -- so there is room
    room : NextIsVacant (freed q r.word)
    room = record {
      within =
          let a = next_there.0 in
          let b = length_set q.cells (address_of r.word) None in
          let d : length q.cells ≡ length p.cells = ap (λ (x : PartitionState). length x.cells) part in
          omega (arith, a, b, d, address_is);
      vacant = set_none q.cells (next_place (freed q r.word)).0 (address_of r.word) (ap₂ (λ (x : PartitionState) i. slice_index_or x.cells i None) part address_is ∙ next_there.1);
    }

    -- the new word is that of the next object
    word_is : nw.word ≡ new_word p
    word_is =
        ap (λ (x : NewWord). x.word) (sym tested.1) ∙ ap (λ (x : ℕ × ℕ). word_of x.1 q.server x.0) same_next ∙ ap (λ (x : PartitionState). word_of (picked p.free (length p.cells)).1 x.server (picked p.free (length p.cells)).0) part

    -- of which is told
    next_word : NextWord k s
    next_word = next_word_is k sound s here few (ap can_grow (sym part) ∙ grows)

    -- that it wasn't issued
    new : issued (sight k) nw.word ≡ false
    new = ap (issued (sight k)) word_is ∙ next_word.fresh

    -- the hand with the object at its new address
    abbrev hm : Hand
    hm = record h { work = nw.work }

    -- what the server has then
    rest_is : nw.work.rest ≡ record h.work.rest { partition = renewed q r.word }
    rest_is = ap (λ (x : NewWord). x.work.rest) (sym tested.1)

    -- the sums of that hand
    gm : Ok k coherent s here t y at hm
    gm = given_by (λ (m : NewWord). Ok k coherent s here t y at (record h { work = m.work })) (issue_renewal (box_of r) h.work) nw (hand_renews sums_kept n s.events t (all_standing n (without_thread s.threads t) ++ servers_things (others_of k.servers n)) (box_of r) h g) issues

    -- the hand's cluster has places
    place_h : HasPlaces (Put h)
    place_h = places k coherent s here t y at h g

    -- with the object moved too
    place_m : HasPlaces (Put hm)
    place_m = places k coherent s here t y at hm gm

    -- and with the word put
    place_2 : HasPlaces (Put h2)
    place_2 = places k coherent s here t y at h2 g2

    abbrev a2 : ℕ
    a2 = (next_place (freed q r.word)).0

    -- the object lies there
    lies_new : Among (lies n a2 c) (things_of (Put hm))
    lies_new =
        let p2 : PartitionState = renewed q r.word in
        let made_again_is : renewed q r.word ≡ made (freed q r.word) c = ap (made_again (freed q r.word)) found.1 in
        let cell_there : slice_index_or (made (freed q r.word) c).cells a2 None ≡ Some c = put_here (freed q r.word).cells a2 c room.within in
        let listed : Among (lies n a2 c) (partition_things n (made (freed q r.word) c)) = at_lies n (made (freed q r.word) c) a2 c cell_there in
        let x : Server = record { rest = nw.work.rest; threads = set_thread s.threads h.thread; events = s.events + 1 } in
        let number : x.rest.number ≡ n = ap (λ (z : Rest). z.number) rest_is ∙ g.number in
        let partition : x.rest.partition ≡ made (freed q r.word) c = ap (λ (z : Rest). z.partition) rest_is ∙ made_again_is in
        of_placed (lies n a2 c) n k.servers s x here (of_partition (lies n a2 c) x (subst (λ (z : PartitionState). Among (lies n a2 c) (partition_things x.rest.number z)) (sym partition) (subst (λ i. Among (lies n a2 c) (partition_things i (made (freed q r.word) c))) (sym number) listed)))

    -- the word leads there
    leads_new : LeadsTo n a2 nw.word
    leads_new = subst (λ i. LeadsTo n i nw.word) (sym address_is) (subst (λ v. LeadsTo n (picked p.free (length p.cells)).0 v) (sym word_is) next_word.leads)

    -- so it leads home
    home : LeadsHome (Put hm) (record { word = nw.word; object = r.object })
    home = record {
      server = n;
      address = a2;
      lying = record { cell = c; among = lies_new; object = object };
      leads = λ m a d i o.
          (let mine_one = ap one (itself c.object r.object object) in
          let its_one = ap one (itself d.object r.object o) in
          let same = only_one (cells r.object) (lies n a2 c) (lies m a d) (things_of (Put hm)) (place_m.home_of_each r.object) lies_new i (omega (arith, mine_one)) (omega (arith, its_one)) in
          let z = same_cell_there n a2 m a c d same in
          record { server = leads_new.server ∙ z.0; address = leads_new.address ∙ z.1 });
    }

    -- all of a renewal
    renewal : Renewal k n s.threads (s.events + 1) h (box_of r) nw
    renewal = record {
      stands = stands k coherent s here t y at h g;
      cell = c;
      here = looked;
      object = object;
      room = room;
      issued = issues;
      before = place_h;
      moved = place_m;
      home = home;
    }

    -- IT STANDS THERE

    -- as it stood at the start
    was : value_in (sight k).ground l ≡ Some (value.Mut r)
    was = walks.state.along.dirty_was l r there dirty

    -- all words were issued
    issued_all : Holds k are_issued
    issued_all = sound.words.are_issued

    -- the word is no first word of the reference
    not_first : nw.word ≢ r.first
    not_first z =
        let known : issued (sight k) r.first ≡ true = first_issued k issued_all l r (of_borrows (sight k).ground (record { at = l; holder = holder_of (sight k).ground l r.holder; reference = r }) (things_of k) (reference_there k l r was)).among in
        let no : true ≡ false = sym known ∙ ap (issued (sight k)) (sym z) ∙ new in
        absurd (cc no)

    -- one pointer gets another word
    reworded : Reworded (Put h) (Put h2) l r.object nw.word
    reworded = rewords renewal place_2 not_first

    -- which is alone
    rewrites : Rewrites (Put h) (Put h2) l r.object nw.word
    rewrites = record {
      before = place_h;
      only = are_only.dirty (Put h) l r place_h walks.state.along.words.dirty_alone there dirty (λ x. fresh (walks.state.along.fresher l x));
      fresh = λ x. fresh (walks.state.along.fresher l x);
      firsts = walks.state.along.words.first_at_holder;
      places = place_2;
      reworded = reworded;
    }

    -- so the words hold
    pub renewed_at : Renewed h h2 l r nw.word
    renewed_at = record {
      words =
          rise_changed k (Put h) (Put h2) r.object nw.word walks.state.along.words (words_go_on (Put h) (Put h2) l r.object nw.word rewrites walks.state.along.words.has_words) (inr new) (holders_go_on (Put h) (Put h2) l r.object nw.word rewrites)
          (dirty_goes_on (Put h) (Put h2) l r.object nw.word rewrites walks.state.along.words.dirty_alone)
          (past_goes_on (Put h) (Put h2) l r.object nw.word rewrites (no_first k (Put h) nw.word r.object issued_all new place_h walks.state.along) walks.state.along.words.past_words);
      fresh = λ x. fresh (walks.state.along.fresher l (changed_rewords (Put h) (Put h2) l r.object nw.word rewrites r there (dirty_changed r dirty) l x));
      now = now;
      reworded = reworded;
    }

  -- in a slot
  module _ (h h2 : Hand) (j : ℕ) (r : MutRef) (nw : NewWord) (walks : Walks k coherent s here t y at h) (g2 : Ok k coherent s here t y at h2) (part : h.work.rest.partition ≡ p) (e : slice_get h.thread.slots j ≡ Some (value.Mut r)) (dirty : r.dirty ≡ true)
      (fresh : IsStale (sight k) (Some (at_slot h.thread.number j)) → ⊥) (under : LiesUnder k (box_of r)) (mine : (server_of r.word == h.work.rest.number) ≡ true) (issues : issue_renewal (box_of r) h.work ≡ Some nw) (puts : put_word (in_slot j) nw h ≡ Some h2) where
    abbrev here_slot : Location
    here_slot = at_slot h.thread.number j

    -- in that slot
    wrote : SlotPut (record h { work = nw.work }) h2 j nw.word (value.Mut r)
    wrote = word_put (record h { work = nw.work }) h2 j nw.word (value.Mut r) e puts

    -- the thread has its number
    same_named : h2.thread.number ≡ h.thread.number
    same_named = ap (λ (th : ThreadState). th.number) wrote.thread

    -- there it stands with its word
    slot_now : slice_get h2.thread.slots j ≡ Some (value.Mut (took r nw.word))
    slot_now = ap (λ (th : ThreadState). slice_get th.slots j) wrote.thread ∙ set_same h.thread.slots j (value.Mut r) wrote.new e ∙ sym wrote.worded

    -- so it is renewed there
    pub renewed_so : Renewed h h2 here_slot r nw.word
    renewed_so =
        renewed_at h h2 here_slot r nw walks g2 part (slot_stands k n s.threads (s.events + 1) h j (value.Mut r) (stands k coherent s here t y at h walks.state.ok) (places k coherent s here t y at h walks.state.ok) e) dirty fresh under mine issues
        (λ renewal there other. renewals_reword.slot k n s.threads (s.events + 1) h h2 (box_of r) nw j (value.Mut r) renewal e refl puts there (λ x f z. (let same : r ≡ x = cc in other (z ∙ sym (ap (λ (a : MutRef). a.first) same)))))
        (ap (λ i. value_in (sight (Put h2)).ground (at_slot i j)) (sym same_named) ∙ slot_stands k n s.threads (s.events + 1) h2 j (value.Mut (took r nw.word)) (stands k coherent s here t y at h2 g2) (places k coherent s here t y at h2 g2) slot_now)
