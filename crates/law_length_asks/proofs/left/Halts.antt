-- A thread that reads so many stars and asks for something: each pointer that was at hand with those before it is at hand then, its slots are kin to what they were, and it waits for an object elsewhere.
use Rattle.std.proofs.Common.{◌≡◌, ℕ, zero, suc, ◌<◌, ◌≤◌, ◌==◌, ◌&&◌, ◌||◌, not, nat_lt, Bool, true, false, List, [], ◌∷◌, Option, Some, None, option_map, refl, sym, ap, subst, ◌∙◌, arith}
use Rattle.std.specs.Prelude.{slice_get, slice_set}
use Rattle.std.proofs.lemmas.Bool.Decides.{nat_tests}
use Rattle.std.proofs.lemmas.Option.{slice_get-map}
use Rattle.law_length_asks.proofs.Below.law_walks_others.Below.fr_typing.PlaceLemmas.{eq_cases}
use Rattle.law_length_asks.specs.Below.law_walks_others.Below.fr_base.Lists.{is_in}
use Rattle.law_length_asks.specs.Below.law_walks_others.Below.fr_base.declared.name.ObjNo.{ObjNo}
use Rattle.law_length_asks.specs.Below.law_walks_others.Below.fr_base.declared.place.Lval.{Lval}
use Rattle.law_length_asks.specs.Below.law_walks_others.Below.fr_base.declared.instruction.Instr.{Instr}
use Rattle.law_length_asks.specs.Below.law_walks_others.Below.global_addr.Words.{server_of, next_word}
use Rattle.law_length_asks.specs.Below.law_walks_others.Below.heap_partition.declared.value.BoxPtr.{BoxPtr}
use Rattle.law_length_asks.specs.Below.law_walks_others.Below.heap_partition.declared.value.Cell.{Cell}
use Rattle.law_length_asks.specs.Below.law_walks_others.Below.journal.View.{EntryView}
use Rattle.law_length_asks.specs.Below.law_walks_others.Below.migration.Packing.{unpinned, used_words}
use Rattle.law_length_asks.specs.Below.law_walks_others.Below.mut_borrow.declared.mutable.MutRef.{MutRef}
use Rattle.law_length_asks.specs.Below.law_walks_others.Below.thread_state.View.{ThreadState}
use Rattle.law_length_asks.specs.Below.law_walks_others.Below.thread_state.declared.phase.Phase.TheVariants as phase
use Rattle.law_length_asks.specs.Below.law_walks_others.Below.thread_state.declared.value.Value.{Value}
use Rattle.law_length_asks.specs.Below.law_walks_others.Below.thread_state.declared.value.Value.TheVariants as value
use Rattle.law_length_asks.specs.Below.law_walks_others.Below.server_model.Servers.{Server, Cluster}
use Rattle.law_length_asks.specs.Below.law_walks_others.Below.server_model.Work.{Hand}
use Rattle.law_length_asks.specs.Below.law_walks_others.Below.server_model.Places.{Spot, in_slot, value_at, load_at, took}
use Rattle.law_length_asks.specs.Below.law_walks_others.Below.server_model.Prepare.{Prepared, ready, requested, nothing, and_then, ask_object, access_of, prepare, read_star, read_stars}
use Rattle.law_length_asks.specs.Below.law_walks_others.Below.server_model.Events.{begin_work, wait_step}
use Rattle.law_length_asks.specs.Below.law_walks_others.Below.coherent_memory.Names.{other}
use Rattle.law_length_asks.specs.Below.law_walks_others.Below.coherent_memory.Things.{Location, at_slot}
use Rattle.law_length_asks.specs.Below.law_walks_others.Below.coherent_memory.Follow.{Standing, Ground, cell_of, value_of, value_behind, locate, hop_at}
use Rattle.law_length_asks.specs.Below.law_walks_others.Below.coherent_memory.Paths.{is_at_hand}
use Rattle.law_length_asks.specs.Below.law_walks_others.Below.coherent_memory.Sight.{sight}
use Rattle.law_length_asks.specs.Below.law_walks_others.Below.coherent_memory.Walking.{words_kept, loose_hop}
use Rattle.law_length_asks.proofs.Below.law_walks_others.Below.law_words_paths.paths.Sole.{some_is}
use Rattle.law_walks_own.specs.Below.law_words_paths.words.Reworded.{HasPlaces}
use Rattle.law_walks_own.specs.Below.law_words_kept.reads.Reading.{Reads, MayRead}
use Rattle.law_walks_own.proofs.Below.law_words_kept.reads.ReadPlaces.{may_read_there}
use Rattle.law_length_asks.proofs.Below.law_walks_others.Below.law_results_reads.Followed.{Place}
use Rattle.law_length_asks.proofs.Below.law_walks_others.Below.law_results_reads.Known.{Steps, goes, paths, standing}
use Rattle.law_length_asks.proofs.Below.law_walks_others.Below.law_results_reads.Readers.{IsFree, begins}
use Rattle.law_length_asks.proofs.Below.law_walks_others.Below.law_results_reads.Reading.{Alike, equal, both_shared, alike_of, Reading, parts, pinned_set}
use Rattle.law_length_asks.proofs.Below.law_walks_others.Below.law_results_reads.Starred.{bound, At, a_slot, a_cell, a_copy, seen}
use Rattle.law_length_asks.proofs.Below.law_walks_others.Below.law_results_reads.Usable.{times}
use Rattle.law_length_asks.proofs.Below.law_walks_others.Below.law_results_events.writes.Route.{set_other}
use Rattle.law_walks_own.proofs.Below.law_copies_kept.Below.law_words_borrows.Below.law_counts_asking.Unasked.{Unasked, stars_near}
use Rattle.law_length_asks.specs.Below.law_walks_others.Below.law_counts_waiting.waits.Places.{LeadsAsItDid}
use Rattle.law_length_asks.proofs.Below.law_walks_own.steps.Own.{Own}
use Rattle.law_length_asks.proofs.Below.law_walks_own.steps.Stops.{ReadStops, read_stops}
use Rattle.law_length_asks.proofs.Below.law_walks_own.steps.ReadStars.{Grows, ReadAsks, for_copy, for_tint, for_object, read_asks}
use Rattle.law_length_asks.proofs.Below.law_walks_own.steps.ReadWalk.{alike_reference, reaches, hop_there, placed_so, untinted_so, near, short, under}
use Rattle.law_length_asks.proofs.Below.law_walks_own.steps.ReadCells.{on_way, cell_stays}
use Rattle.law_length_asks.proofs.Below.law_walks_own.steps.Behind.{behind_so}
use Rattle.law_length_asks.proofs.left.Kin.{Kin, same, pins, cleans, AllKin}

-- KIN SLOTS

pinned_kin : (u v : Option Value) → option_map unpinned u ≡ option_map unpinned v → Kin v u
pinned_kin None None e = same
pinned_kin None (Some v) e = absurd (cc e)
pinned_kin (Some u) None e = absurd (cc e)
pinned_kin (Some u) (Some v) e = by u v (alike_of u v (bare e))
  where
    bare : {a b : Value} → Some a ≡ Some b → a ≡ b
    bare f = cc

    by : (u v : Value) → Alike u v → Kin (Some v) (Some u)
    by u _ equal = same
    by _ _ (both_shared q r a b) = pins r q (sym a) (sym b)

-- in one slot a reference got another word
set_there : (xs : List Value) (i : ℕ) (v u : Value) → slice_get xs i ≡ Some v → slice_get (slice_set xs i u) i ≡ Some u
set_there [] i v u e = absurd (cc e)
set_there (x ∷ xs) zero v u e = refl
set_there (x ∷ xs) (suc i) v u e = set_there xs i v u e

-- what such a step leaves of its thread
pub record Halted (k c : Cluster) (v : EntryView) (t : ℕ) (o : Own k c v t) (w : Lval) (m : ℕ) (h : Hand) : Type 0 where
  pub near : (d : ℕ) → d < m → ((e : ℕ) → e < suc d → loose_hop o.server.rest.number (words_kept o.thread) (hop_at (sight k).ground o.thread.number w e) ≡ 0) → loose_hop o.server.rest.number (words_kept h.thread) (hop_at (sight c).ground o.thread.number w d) ≡ 0
  pub kin : AllKin o.thread.slots h.thread.slots
  pub word : ℕ
  pub waits : h.thread.phase ≡ phase.WaitCell word
  pub away : (server_of word == o.server.rest.number) ≡ false

ready_hand : {a b : Hand} {s u : Spot} → ready a s ≡ ready b u → a ≡ b
ready_hand e = cc

ready_spot : {a b : Hand} {s u : Spot} → ready a s ≡ ready b u → s ≡ u
ready_spot e = cc

-- the star that asks is asked for with those before it
one_more_asks : (j : ℕ) (h : Hand) (s : Spot) (a : Hand) (sp : Spot) (h2 : Hand) → read_stars j h s ≡ ready a sp → read_star a sp ≡ requested h2 → read_stars (suc j) h s ≡ requested h2
one_more_asks zero h s a sp h2 e f =
    let one = ready_hand e in
    let two = ready_spot e in
    ap (and_then (read_stars zero)) (ap (λ q. read_star q s) one ∙ ap (read_star a) two ∙ f)
one_more_asks (suc j) h s a sp h2 e f = by (read_star h s) refl e (λ h1 s1 g. one_more_asks j h1 s1 a sp h2 g f)
  where
    by : (p : Prepared) → read_star h s ≡ p → and_then (read_stars j) p ≡ ready a sp → ((h1 : Hand) (s1 : Spot) → read_stars j h1 s1 ≡ ready a sp → read_stars (suc j) h1 s1 ≡ requested h2) → and_then (read_stars (suc j)) (read_star h s) ≡ requested h2
    by (ready h1 s1) q g go = ap (and_then (read_stars (suc j))) q ∙ go h1 s1 g
    by (requested h1) q g go = absurd (cc g)
    by nothing q g go = absurd (cc g)

module _ (k c : Cluster) (v : EntryView) (t : ℕ) (o : Own k c v t) (after : HasPlaces c) (w : Lval) (m : ℕ) (reads : Reads o.instruction w m) (h : Hand)
    (asked : prepare (access_of o.instruction o.thread) (record { work = begin_work o.server.rest; thread = o.thread }) ≡ requested h) (is : o.result ≡ wait_step h) (leads_so : LeadsAsItDid k c o.thread.number w)
    (untaken : (u : ℕ) → o.thread.phase ≡ phase.Taken u → ⊥) where
  abbrev n : ℕ
  n = o.number

  abbrev s : Server
  s = o.server

  abbrev y : ThreadState
  y = o.thread

  abbrev i : Instr
  i = o.instruction

  abbrev z : Steps k n t s y i
  z = o.steps

  abbrev r : ℕ
  r = s.rest.number

  abbrev h0 : Hand
  h0 = record { work = begin_work s.rest; thread = y }

  abbrev G : Ground
  G = (sight k).ground

  abbrev tn : ℕ
  tn = y.number

  abbrev x : Standing
  x = standing k n t s y i z

  may : MayRead k (paths k n t s y i z).types x w
  may = may_read_there k (paths k n t s y i z) x (goes k n t s y i z) i w m (let q = z in q.code) reads

  place : Place k (paths k n t s y i z) x false w
  place = record { free = may.free; base = may.base; boxes = may.boxes; type = may.type; resolves = may.resolves; unmarked = may.unmarked }

  free : (q : ℕ) → IsFree k n t s y i z false w place q
  free q d lt less l located m2 v2 stands leads_on u p2 so_many taken code depth there = untaken u taken

  -- where the pointers that so many stars follow are at hand none of these asks
  prefix : (q : ℕ) → q ≤ m → ((d : ℕ) → d < q → loose_hop r (words_kept y) (hop_at G tn w d) ≡ 0) → (h2 : Hand) → read_stars q h0 (in_slot w.slot) ≡ requested h2 → ⊥
  prefix q le all h2 e =
      subst Unasked e
      (stars_near k n t s y i z false w place (short k n t s y i z w m reads) q (let u = under k n t s y i z w m reads in omega (arith, le, u)) (free q) (λ d l u lt located stands. ap (loose_hop r (words_kept y)) (sym (ap (value_behind G) located ∙ stands)) ∙ all d lt) q 0 (omega arith) h0
      (in_slot w.slot) (at_slot tn w.slot) refl (a_slot w.slot) (begins k n t s y i z))

  cells : (q : ObjNo) (e : Cell) → cell_of G.cells q ≡ Some e → value_of (cell_of (sight c).ground.cells q) ≡ Some (value.Own e.value)
  cells = cell_stays k c v t o after w m reads h (on_way asked) is

  -- with what is pinned the slots are kin
  reading_kin : (j : ℕ) (a : Hand) → Reading y s.rest (bound k n t s y i z) j a → AllKin y.slots a.thread.slots
  reading_kin j a reading b =
      let slots = reading.slots in
      pinned_kin (slice_get a.thread.slots b) (slice_get y.slots b) (sym (slice_get-map unpinned a.thread.slots b) ∙ ap (λ l. slice_get l b) slots ∙ slice_get-map unpinned y.slots b)

  -- WHERE ALL STARS ARE READY and what is behind them is asked for

  pub last_halts : (a : Hand) (sp : Spot) → read_stars m (record { work = begin_work o.server.rest; thread = o.thread }) (in_slot w.slot) ≡ ready a sp → (p : BoxPtr) → h ≡ ask_object p (load_at sp a) → (server_of p.word == a.work.rest.number) ≡ false → Halted k c v t o w m h
  last_halts a sp reached p asks away =
      let at_it = reaches k n t s y i z w m reads m (omega arith) a sp reached in
      let reading = at_it.3 in
      let threads : h.thread ≡ record a.thread { phase = phase.WaitCell p.word } = ap (λ (u : Hand). u.thread) asks in
      record {
        near = λ d lt all. behind_so k c v t o after w m reads h is leads_so cells m (omega arith) a sp reached (subst (λ (u : ThreadState). Grows a.thread u) (sym threads) (λ b. omega arith)) (λ i2 l b e. ap (λ (u : ThreadState). slice_get u.slots b) threads) d lt;
        kin = λ b. subst (λ (u : ThreadState). Kin (slice_get y.slots b) (slice_get u.slots b)) (sym threads) (reading_kin m a reading b);
        word = p.word;
        waits = ap (λ (u : ThreadState). u.phase) threads;
        away = subst (λ u. (server_of p.word == u) ≡ false) reading.number away;
      }

  -- WHERE IT STOPS AT A STAR

  module _ (stopped : read_stars m h0 (in_slot w.slot) ≡ requested h) where
    abbrev J : ReadStops m h0 (in_slot w.slot) h
    J = read_stops m h0 (in_slot w.slot) h stopped

    abbrev a : Hand
    a = (let j = J in j.hand)

    abbrev sp : Spot
    sp = (let j = J in j.spot)

    abbrev number : ℕ
    number = (let j = J in j.number)

    less : number < m
    less = (let j = J in j.less)

    so_far : read_stars number h0 (in_slot w.slot) ≡ ready a sp
    so_far = (let j = J in j.so_far)

    asks : read_star a sp ≡ requested h
    asks = (let j = J in j.asks)

    below : number ≤ m
    below = omega (arith, less)

    at_it : (l : Location) × (locate G tn w.slot number ≡ Some l) × At k n t s y i z sp l × Reading y s.rest (bound k n t s y i z) number a
    at_it = reaches k n t s y i z w m reads number below a sp so_far

    -- where the pointers that so many stars follow are at hand none of these asks, so it stops behind each pointer that was at hand with those before it
    behind : (d : ℕ) → d < m → ((e : ℕ) → e < suc d → loose_hop r (words_kept y) (hop_at G tn w e) ≡ 0) → d < number
    behind d lt all = by (nat_lt d number) refl
      where
        by : (b : Bool) → nat_lt d number ≡ b → d < number
        by true e = grind (arith, nat_tests, e)
        by false e =
            let not_less : number ≤ d = grind (arith, nat_tests, e) in
            absurd (prefix (suc number) (omega (arith, less)) (λ e2 lt2. all e2 (omega (arith, lt2, not_less))) h (one_more_asks number h0 (in_slot w.slot) a sp h so_far asks))

    slot_located : (b : ℕ) (l : Location) → At k n t s y i z sp l → sp ≡ in_slot b → l ≡ at_slot tn b
    slot_located b l spot e = by sp l spot e
      where
        by : (sp : Spot) (l : Location) → At k n t s y i z sp l → sp ≡ in_slot b → l ≡ at_slot tn b
        by _ _ (a_slot b2) f = let same_slot : b2 ≡ b = cc in ap (at_slot tn) same_slot
        by _ _ (a_cell u q ob d f has) g = absurd (cc g)
        by _ _ (a_copy u ob d f has) g = absurd (cc g)

    -- a star that is behind is over another pointer than a dirty reference to an object elsewhere
    behind_dirty : (i2 : ℕ) → i2 < number → (b : ℕ) → locate G tn w.slot i2 ≡ Some (at_slot tn b) → at_it.0 ≡ at_slot tn b → (q : MutRef) → q.dirty ≡ true → (server_of q.word == r) ≡ false → value_at a sp ≡ Some (value.Mut q) → ⊥
    behind_dirty i2 lt b f same_place q dirty away there =
        let e = hop_there k n t s y i z w m reads number less at_it.0 at_it.1 in
        let u = seen k n t s y i z number a sp at_it.0 e.0 at_it.3 at_it.2 e.1 in
        let same_value : u.0 ≡ value.Mut q = some_is (sym u.1 ∙ there) in
        let it_is : e.0 ≡ value.Mut q = alike_reference q e.0 (subst (λ d. Alike d e.0) same_value u.2) in
        let none = near k n t s y i z w m reads number below a sp so_far i2 lt at_it.0 e.0 (f ∙ ap (λ d. Some d) (sym same_place)) e.1 in
        let none_so : loose_hop r (used_words a.thread) (Some (value.Mut q)) ≡ 0 = subst (λ d. loose_hop r (used_words a.thread) (Some d) ≡ 0) it_is none in
        let some_so : loose_hop r (used_words a.thread) (Some (value.Mut q)) ≡ 1 = ap (λ d. other (is_at_hand (used_words a.thread) r (not d) q.word)) dirty ∙ ap (λ d. other (d || (false && is_in q.word (used_words a.thread)))) away in
        omega (arith, none_so, some_so)

    -- WHAT THE REQUEST LEAVES

    record Left : Type 0 where
      grows : Grows a.thread h.thread
      like : (i2 : ℕ) → i2 < number → (b : ℕ) → locate G tn w.slot i2 ≡ Some (at_slot tn b) → slice_get h.thread.slots b ≡ slice_get a.thread.slots b
      kin : AllKin y.slots h.thread.slots
      word : ℕ
      waits : h.thread.phase ≡ phase.WaitCell word
      away : (server_of word == r) ≡ false

    kin_there : AllKin y.slots a.thread.slots
    kin_there = reading_kin number a at_it.3

    number_is : a.work.rest.number ≡ r
    number_is = (let reading = at_it.3 in reading.number)

    -- a thread that only waits
    only_waits : (word : ℕ) → h.thread ≡ record a.thread { phase = phase.WaitCell word } → (server_of word == a.work.rest.number) ≡ false → Left
    only_waits word e away = record {
      grows = subst (λ (u : ThreadState). Grows a.thread u) (sym e) (λ b. omega arith);
      like = λ i2 lt b f. ap (λ (u : ThreadState). slice_get u.slots b) e;
      kin = λ b. subst (λ (u : ThreadState). Kin (slice_get y.slots b) (slice_get u.slots b)) (sym e) (kin_there b);
      word = word;
      waits = ap (λ (u : ThreadState). u.phase) e;
      away = subst (λ u. (server_of word == u) ≡ false) number_is away;
    }

    reference : {p q : MutRef} → Some (value.Mut p) ≡ Some (value.Mut q) → p ≡ q
    reference e = cc

    -- the reference is kin to what it was, and each other slot is as it was
    was : (q : MutRef) → q.dirty ≡ true → server_of (next_word q.word) ≡ server_of q.word → (u v2 : Option Value) → Kin u v2 → v2 ≡ Some (value.Mut q) → Kin u (Some (value.Mut (took q (next_word q.word))))
    was q dirty servers u _ same e = subst (λ d. Kin d (Some (value.Mut (took q (next_word q.word))))) (sym e) (cleans q (took q (next_word q.word)) dirty refl servers)
    was q dirty servers _ _ (pins p p2 e f) g = absurd (cc g)
    was q dirty servers _ _ (cleans p p2 d c2 e) g =
        let is_it : p2 ≡ q = reference g in
        let no : true ≡ false = sym dirty ∙ ap (λ (u : MutRef). u.dirty) (sym is_it) ∙ c2 in
        absurd (cc no)

    retaken : (q : MutRef) (b : ℕ) → slice_get a.thread.slots b ≡ Some (value.Mut q) → q.dirty ≡ true → server_of (next_word q.word) ≡ server_of q.word → AllKin y.slots (slice_set a.thread.slots b (value.Mut (took q (next_word q.word))))
    retaken q b stands dirty servers b2 =
        let new : Value = value.Mut (took q (next_word q.word)) in
        eq_cases (λ e. Kin (slice_get y.slots b2) (slice_get (slice_set a.thread.slots b new) b2)) b2 b
        (λ e. subst (λ j. Kin (slice_get y.slots j) (slice_get (slice_set a.thread.slots b new) j)) (sym e)
        (subst (λ u. Kin (slice_get y.slots b) u) (sym (set_there a.thread.slots b (value.Mut q) new stands)) (was q dirty servers (slice_get y.slots b) (slice_get a.thread.slots b) (kin_there b) stands)))
        (λ ne. subst (λ u. Kin (slice_get y.slots b2) u) (sym (set_other a.thread.slots b b2 new ne)) (kin_there b2))

    left_by : ReadAsks a sp h → Left
    left_by (for_copy u p2 clean there away lacks e) = only_waits p2.word (ap (λ (d : Hand). d.thread) e) away
    left_by (for_object q b at there dirty away below_it last e) = only_waits q.word (ap (λ (d : Hand). d.thread) e) away
    left_by (for_tint q b at there dirty away colour e) =
        let new : MutRef = took q (next_word q.word) in
        let slots : List Value = slice_set a.thread.slots b (value.Mut new) in
        let changed : ThreadState = record a.thread { slots = slots; phase = phase.WaitCell (next_word q.word) } in
        let threads : h.thread ≡ changed = ap (λ (d : Hand). d.thread) e in
        let stands : slice_get a.thread.slots b ≡ Some (value.Mut q) = sym (ap (value_at a) at) ∙ there in
        let as_many : (d : ℕ) → times d (used_words changed) ≡ times d (used_words a.thread) = λ d. (let f = parts changed d in let g = parts a.thread d in let l = pinned_set d a.thread.slots b (value.Mut q) (value.Mut new) stands in omega (arith, f, g, l)) in
        let spot = at_it.2 in
        let place_is : at_it.0 ≡ at_slot tn b = slot_located b at_it.0 spot at in
        let far : (server_of q.word == r) ≡ false = ap (λ d. server_of q.word == d) (sym number_is) ∙ away in
        let same_server : server_of (next_word q.word) ≡ server_of q.word = omega arith in
        record {
          grows = subst (λ (u : ThreadState). Grows a.thread u) (sym threads) (λ d. (let f = as_many d in omega (arith, f)));
          like = λ i2 lt b2 f. ap (λ (u : ThreadState). slice_get u.slots b2) threads ∙ set_other a.thread.slots b b2 (value.Mut new) (λ same_slot. behind_dirty i2 lt b2 f (subst (λ d. at_it.0 ≡ at_slot tn d) (sym same_slot) place_is) q dirty far there);
          kin = λ b2. subst (λ (u : ThreadState). Kin (slice_get y.slots b2) (slice_get u.slots b2)) (sym threads) (retaken q b stands dirty same_server b2);
          word = next_word q.word;
          waits = ap (λ (u : ThreadState). u.phase) threads;
          away = ap (λ u. u == r) same_server ∙ far;
        }

    left : Left
    left = left_by (read_asks a sp h (placed_so k n t s y i z w m reads number a sp at_it.0 at_it.2 at_it.3) (untinted_so k n t s y i z w m reads number less a sp at_it.0 at_it.1 at_it.2 at_it.3) asks)

    pub star_halts : Halted k c v t o w m h
    star_halts = (let e = left in record {
      near = λ d lt all. behind_so k c v t o after w m reads h is leads_so cells number below a sp so_far e.grows e.like d (behind d lt all);
      kin = e.kin;
      word = e.word;
      waits = e.waits;
      away = e.away;
    })
