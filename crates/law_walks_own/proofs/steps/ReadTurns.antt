-- A read that stops on its way: the pointer at which it stops is the first that the thread can't read, and it asks for what that pointer leads to.
use Rattle.std.proofs.Common.{◌≡◌, inl, ℕ, zero, suc, ◌+◌, ◌<◌, ◌≤◌, ◌==◌, ◌&&◌, ◌||◌, not, nat_lt, true, false, List, [], ◌∷◌, length, Option, Some, refl, sym, ap, subst, ◌∙◌, arith}
use Rattle.std.specs.Prelude.{slice_get, slice_set}
use Rattle.std.proofs.lemmas.Option.{slice_get_within}
use Rattle.std.proofs.lemmas.Bool.Decides.{nat_tests}
use Rattle.law_walks_others.specs.Below.fr_base.Lists.{is_in}
use Rattle.law_walks_others.specs.Below.fr_base.declared.name.ObjNo.{ObjNo}
use Rattle.law_walks_others.specs.Below.fr_base.declared.place.Lval.{Lval}
use Rattle.law_walks_others.specs.Below.fr_base.declared.instruction.Instr.{Instr}
use Rattle.law_walks_others.specs.Below.global_addr.Words.{colour_of, server_of, address_of, next_word}
use Rattle.law_walks_others.specs.Below.heap_partition.declared.value.BoxPtr.{BoxPtr}
use Rattle.law_walks_others.specs.Below.heap_partition.declared.value.Cell.{Cell}
use Rattle.law_walks_others.specs.Below.journal.View.{EntryView}
use Rattle.law_walks_others.specs.Below.migration.Packing.{used_words}
use Rattle.law_walks_others.specs.Below.mut_borrow.declared.mutable.MutRef.{MutRef}
use Rattle.law_walks_others.specs.Below.read_cache.Cache.{is_cached}
use Rattle.law_walks_others.specs.Below.server_msgs.declared.message.Message.TheVariants as message
use Rattle.law_walks_others.specs.Below.thread_state.View.{ThreadState}
use Rattle.law_walks_others.specs.Below.thread_state.declared.phase.Phase.TheVariants as phase
use Rattle.law_walks_others.specs.Below.thread_state.declared.value.Value.{Value}
use Rattle.law_walks_others.specs.Below.thread_state.declared.value.Value.TheVariants as value
use Rattle.law_walks_others.specs.Below.server_model.Servers.{Server, Cluster, Rest}
use Rattle.law_walks_others.specs.Below.server_model.Work.{Hand}
use Rattle.law_walks_others.specs.Below.server_model.Places.{Spot, in_slot, value_at, value_in as cell_value, load_at, pointer_of, took}
use Rattle.law_walks_others.specs.Below.server_model.Prepare.{ReadTo, ready, requested, access_of, prepare, ask_copy, ask_object, box_of, read_stars}
use Rattle.law_walks_others.specs.Below.server_model.Events.{Stepped, begin_work, wait_step}
use Rattle.law_walks_others.specs.Below.coherent_memory.Names.{tot, one, other, Among}
use Rattle.law_walks_others.specs.Below.coherent_memory.Things.{Location, at_slot, things_of}
use Rattle.law_walks_others.specs.Below.coherent_memory.Follow.{Standing, Ground, cell_of, value_of, value_in, locate}
use Rattle.law_walks_others.specs.Below.coherent_memory.Paths.{Awaited, to_read, is_at_hand, is_readable}
use Rattle.law_walks_others.specs.Below.coherent_memory.Sight.{sight}
use Rattle.law_walks_others.specs.Below.coherent_memory.Walking.{words_kept, loose_hop, asked_for, asks_for}
use Rattle.law_walks_others.specs.Below.coherent_memory.Turn.{IsAsked}
use Rattle.law_walks_others.proofs.Below.coherent_memory.Passing.{paths_law}
use Rattle.law_walks_others.proofs.Below.law_words_paths.paths.Sole.{some_is}
use Rattle.law_words_ends.specs.Below.law_words_paths.words.Reworded.{HasPlaces}
use Rattle.law_words_ends.specs.Below.law_words_kept.reads.Reading.{Reads}
use Rattle.law_walks_others.proofs.Below.law_results_reads.Known.{Steps}
use Rattle.law_walks_others.proofs.Below.law_results_reads.Pointing.{its_partition}
use Rattle.law_walks_others.proofs.Below.law_results_reads.Reading.{Alike, equal, both_shared, Reading, parts, pinned_set}
use Rattle.law_walks_others.proofs.Below.law_results_reads.Starred.{bound, At, a_slot, a_cell, a_copy, seen}
use Rattle.law_walks_others.proofs.Below.law_results_reads.Usable.{times}
use Rattle.law_walks_others.specs.Below.law_counts_waiting.waits.Places.{LeadsAsItDid}
use Rattle.law_walks_others.proofs.Below.law_results_events.writes.Route.{set_other}
use Rattle.law_walks_own.proofs.steps.Own.{Own, me}
use Rattle.law_walks_own.proofs.steps.There.{sent_is}
use Rattle.law_walks_own.proofs.steps.Stops.{read_stops}
use Rattle.law_walks_own.proofs.steps.ReadStars.{Clean, by_box, by_shared, by_reference, Grows, tinted_hand, ReadAsks, for_copy, for_tint, for_object, read_asks}
use Rattle.law_walks_others.proofs.Below.law_heap_still.events.Addresses.{in_place}
use Rattle.law_walks_others.proofs.Below.law_heap_still.events.Leaving.{others, placed_here}
use Rattle.law_walks_others.proofs.Below.law_heap_still.events.Prepares.{prepare_shows, Fine as Shows}
use Rattle.law_walks_own.proofs.steps.ReadWalk.{alike_reference, under, reaches, hop_deep, hop_there, placed_so, untinted_so, near}
use Rattle.law_walks_own.proofs.steps.ReadCells.{on_way, cell_stays}
use Rattle.law_walks_own.proofs.steps.Behind.{not_kept, number_then, slot_then, can_read}
use Rattle.law_walks_own.proofs.steps.Asked.{pull_asks, copy_asks}

set_there : (xs : List Value) (i : ℕ) (v : Value) → i < length xs → slice_get (slice_set xs i v) i ≡ Some v
set_there [] i v l = absurd (omega (arith, l))
set_there (x ∷ xs) zero v l = refl
set_there (x ∷ xs) (suc i) v l = set_there xs i v (omega (arith, l))

-- a pointer of which a copy may be read is waited for as that
clean_awaits : (colours : ℕ) (v : Value) (p : BoxPtr) → Clean v p → to_read colours (Some v) ≡ record { word = p.word; object = p.object; comes = false; by_copy = true } ∷ []
clean_awaits colours _ _ (by_box p) = refl
clean_awaits colours _ _ (by_shared r) = refl
clean_awaits colours _ _ (by_reference r e) = ap (λ b. record { word = r.word; object = r.object; comes = b && (colour_of r.word + 1 == colours); by_copy = not b } ∷ []) e

-- of an object elsewhere no copy is kept
far_away : (r : ℕ) (kept : List ℕ) (w : ℕ) → (server_of w == r) ≡ false → is_in w kept ≡ false → is_at_hand kept r true w ≡ false
far_away r kept w e f = ap (λ b. b || (true && is_in w kept)) e ∙ f

spent_one : (colours : ℕ) (r : MutRef) → r.dirty ≡ true → (colour_of r.word + 1 == colours) ≡ true → to_read colours (Some (value.Mut r)) ≡ record { word = r.word; object = r.object; comes = true; by_copy = false } ∷ []
spent_one colours r e f =
    ap (λ b. record { word = r.word; object = r.object; comes = b && (colour_of r.word + 1 == colours); by_copy = not b } ∷ []) e ∙ ap (λ b. record { word = r.word; object = r.object; comes = b; by_copy = false } ∷ []) f

clean_pointer : (v : Value) (p : BoxPtr) → Clean v p → pointer_of v ≡ Some p
clean_pointer _ _ (by_box p) = refl
clean_pointer _ _ (by_shared r) = refl
clean_pointer _ _ (by_reference r e) = refl

-- alike pointers have the same word
alike_pointer : (u v : Value) (p : BoxPtr) → Alike u v → pointer_of u ≡ Some p → (b : BoxPtr) × (pointer_of v ≡ Some b) × (p.word ≡ b.word)
alike_pointer u _ p equal e = (p, e, refl)
alike_pointer _ _ p (both_shared q r words objects) e =
    let first : record { word = q.word; object = q.object } ≡ p = some_is e in
    (record { word = r.word; object = r.object }, refl, sym (ap (λ (x : BoxPtr). x.word) first) ∙ words)

listed : (xs : List Awaited) (a : Awaited) → xs ≡ a ∷ [] → Among a xs
listed xs a e = subst (Among a) (sym e) (inl refl)

module _ (k c : Cluster) (v : EntryView) (t : ℕ) (options : c.options ≡ k.options) (o : Own k c v t) (after : HasPlaces c) (w : Lval) (m : ℕ) (reads : Reads o.instruction w m) (h : Hand)
    (asked : prepare (access_of o.instruction o.thread) (record { work = begin_work o.server.rest; thread = o.thread }) ≡ requested h) (is : o.result ≡ wait_step h) (leads_so : LeadsAsItDid k c o.thread.number w) where
  abbrev n : ℕ
  n = o.number

  abbrev s : Server
  s = o.server

  abbrev y : ThreadState
  y = o.thread

  abbrev i : Instr
  i = o.instruction

  abbrev z : Steps k n t s y i
  z = o.steps

  abbrev r : ℕ
  r = s.rest.number

  abbrev h0 : Hand
  h0 = record { work = begin_work s.rest; thread = y }

  abbrev G : Ground
  G = (sight k).ground

  abbrev G2 : Ground
  G2 = (sight c).ground

  abbrev tn : ℕ
  tn = y.number

  abbrev pub it_now : Standing
  it_now = me k c v t o after

  abbrev Slots_like : ℕ → Hand → Type 0
  Slots_like j a = (i2 : ℕ) → i2 < j → (b : ℕ) → locate G tn w.slot i2 ≡ Some (at_slot tn b) → slice_get h.thread.slots b ≡ slice_get a.thread.slots b

  cells : (q : ObjNo) (e : Cell) → cell_of G.cells q ≡ Some e → value_of (cell_of G2.cells q) ≡ Some (value.Own e.value)
  cells = cell_stays k c v t o after w m reads h (on_way asked) is

  abbrev colours : ℕ
  colours = (sight c).options.colours

  limit_is : s.rest.partition.limit ≡ colours
  limit_is = let zz = z in (its_partition k zz.coherent.sound n s zz.here).1 ∙ sym (ap (λ (q : Rattle.law_walks_others.specs.Below.fr_base.declared.settings.Options.Options). q.colours) options)

  -- a pointer stood there, and the word leads to the same address
  pub record Source (place : Location) (word : ℕ) : Type 0 where
    pub pointed : Value
    pub pointer : BoxPtr
    pub stood : value_in (sight k).ground place ≡ Some pointed
    pub points : pointer_of pointed ≡ Some pointer
    pub same_server : server_of word ≡ server_of pointer.word
    pub same_address : address_of word ≡ address_of pointer.word

  -- what it waits for at that pointer
  pub record WaitsAt (f : Option Value → List Awaited) (number : ℕ) : Type 0 where
    pub awaited : Awaited
    pub asks : IsAsked (sight c) (me k c v t o after) w number f awaited
    pub unread : is_readable (words_kept o.result.hand.thread) o.server.rest.number awaited ≡ false
    pub before : (i2 : ℕ) → i2 < number → (b : Awaited) → IsAsked (sight c) (me k c v t o after) w i2 (to_read (sight c).options.colours) b → is_readable (words_kept o.result.hand.thread) o.server.rest.number b ≡ true
    pub phase_is : o.result.hand.thread.phase ≡ phase.WaitCell awaited.word
    pub sent_it : 1 ≤ tot (asked_for o.result.hand.thread.number awaited) (things_of c)
    pub pc : o.result.hand.thread.pc ≡ o.thread.pc
    -- its word is that of the pointer that stood there, or of the same address
    pub place : Location
    pub at_place : locate (sight k).ground o.thread.number w.slot number ≡ Some place
    pub source : Source place awaited.word

  module _ (j : ℕ) (le : j ≤ m) (deep : j < w.depth) (a : Hand) (sp : Spot) (reached : read_stars j h0 (in_slot w.slot) ≡ ready a sp) (l : Location) (located : locate G tn w.slot j ≡ Some l) (spot : At k n t s y i z sp l) (reading : Reading y s.rest (bound k n t s y i z) j a) where
    thread_is : o.result.hand.thread ≡ h.thread
    thread_is = ap (λ (q : Stepped). q.hand.thread) is

    -- in memory, and in a slot that is as it was, what is followed is what stands there
    pub exact : h.thread.slots ≡ a.thread.slots → (u : Value) → value_at a sp ≡ Some u → value_in G2 l ≡ Some u
    exact slots u there = by sp l spot there
      where
        by : (sp : Spot) (l : Location) → At k n t s y i z sp l → value_at a sp ≡ Some u → value_in G2 l ≡ Some u
        by _ _ (a_slot b) e = slot_then k c v t o after h is b ∙ ap (λ vs. slice_get vs b) slots ∙ e
        by _ _ (a_cell u2 q ob d f has) e = cells ob d has ∙ sym (ap cell_value (ap (λ q. Rattle.law_walks_others.specs.Below.server_model.Work.look q u2) reading.partition ∙ f)) ∙ e
        by _ _ (a_copy u2 ob d f has) e = cells ob d has ∙ sym (ap cell_value (reading.hits u2 ∙ f)) ∙ e

    -- a slot that is followed
    slot_located : (b : ℕ) → sp ≡ in_slot b → l ≡ at_slot tn b
    slot_located b e = by sp l spot e
      where
        by : (sp : Spot) (l : Location) → At k n t s y i z sp l → sp ≡ in_slot b → l ≡ at_slot tn b
        by _ _ (a_slot b2) f = let same : b2 ≡ b = cc in ap (at_slot tn) same
        by _ _ (a_cell u q ob d f has) g = absurd (cc g)
        by _ _ (a_copy u ob d f has) g = absurd (cc g)

    words_now : List ℕ
    words_now = words_kept o.result.hand.thread

    -- what is known where the pointer there is this one, and so is what is awaited
    finish : (f : Option Value → List Awaited) (aw : Awaited) (u : Value) → value_in G2 l ≡ Some u → f (Some u) ≡ aw ∷ [] → is_readable (words_kept h.thread) r aw ≡ false → Grows a.thread h.thread → Slots_like j a → h.thread.phase ≡ phase.WaitCell aw.word → h.thread.pc ≡ y.pc
        → 1 ≤ tot (asked_for o.result.hand.thread.number aw) (things_of c) → Source l aw.word → WaitsAt f j
    finish f aw u there awaits unread grows like phase_so pc_so sent from = record {
      awaited = aw;
      asks = record {
        location = l;
        value = u;
        hop = record { path = paths_law.located G2 o.result.hand.thread.number w.slot j l (ap (λ q. locate G2 q w.slot j) (number_then k c v t o) ∙ leads_so j (omega (arith, deep)) ∙ located); stands = there };
        asked = listed (f (Some u)) aw awaits;
      };
      unread = subst (λ (q : ThreadState). is_readable (words_kept q) r aw ≡ false) (sym thread_is) unread;
      before = λ i2 lt b q. subst (λ (e : ThreadState). is_readable (words_kept e) r b ≡ true) (sym thread_is) (can_read k c v t o after w m reads h is leads_so cells j le a sp reached grows like i2 lt b q);
      phase_is = ap (λ (q : ThreadState). q.phase) thread_is ∙ phase_so;
      sent_it = sent;
      pc = ap (λ (q : ThreadState). q.pc) thread_is ∙ pc_so;
      place = l;
      at_place = located;
      source = from;
    }

    -- the pointer that stood there
    source_of : (u : Value) (p2 : BoxPtr) (word : ℕ) → value_at a sp ≡ Some u → pointer_of u ≡ Some p2 → server_of word ≡ server_of p2.word → address_of word ≡ address_of p2.word → Source l word
    source_of u p2 word there points server address =
        let e = hop_deep k n t s y i z w m reads j deep l located in
        let q = seen k n t s y i z j a sp l e.0 reading spot e.1 in
        let b = alike_pointer u e.0 p2 (subst (λ x. Alike x e.0) (some_is (sym q.1 ∙ there)) q.2) points in
        record { pointed = e.0; pointer = b.0; stood = e.1; points = b.1; same_server = server ∙ ap server_of b.2; same_address = address ∙ ap address_of b.2 }

    -- the message
    rest_is : (target : ℕ) (x : Rattle.law_walks_others.specs.Below.server_msgs.declared.message.Message.Message) (e : Rest) → h.work.rest ≡ Rattle.law_walks_others.specs.Below.server_model.Work.sent_from e target x → e.number ≡ r → (aw : Awaited) → one (asks_for o.result.hand.thread.number aw x) ≡ 1 → 1 ≤ tot (asked_for o.result.hand.thread.number aw) (things_of c)
    rest_is target x e f g aw one_is = let there = sent_is k c v t o after e target x (ap (λ (q : Stepped). q.hand.work.rest) is ∙ f) g (asked_for o.result.hand.thread.number aw) in omega (arith, there, one_is)

    same_id : h.thread.number ≡ o.result.hand.thread.number
    same_id = ap (λ (q : ThreadState). q.number) (sym thread_is)

    pc_there : a.thread.pc ≡ y.pc
    pc_there = (let zz = z in let good = subst (Shows h0) reached (prepare_shows h0 (Some (ReadTo (record { slot = w.slot; depth = j }))) (in_place s.rest.number s.events s.rest (others k zz.coherent.sound n s zz.here) (placed_here k zz.coherent.sound n s zz.here))) in let ready_so = good.0 in ap (λ (q : ThreadState). q.pc) ready_so.thread)

    -- a star that is behind is over another pointer than a dirty reference to an object elsewhere
    behind_dirty : j < m → (i2 : ℕ) → i2 < j → (b : ℕ) → locate G tn w.slot i2 ≡ Some (at_slot tn b) → l ≡ at_slot tn b → (q : MutRef) → q.dirty ≡ true → (server_of q.word == r) ≡ false → value_at a sp ≡ Some (value.Mut q) → ⊥
    behind_dirty less i2 lt b f same q dirty away there =
        let e = hop_there k n t s y i z w m reads j less l located in
        let u = seen k n t s y i z j a sp l e.0 reading spot e.1 in
        let same_value : u.0 ≡ value.Mut q = some_is (sym u.1 ∙ there) in
        let it_is : e.0 ≡ value.Mut q = alike_reference q e.0 (subst (λ x. Alike x e.0) same_value u.2) in
        let none = near k n t s y i z w m reads j le a sp reached i2 lt l e.0 (f ∙ ap (λ x. Some x) (sym same)) e.1 in
        let none_so : loose_hop r (used_words a.thread) (Some (value.Mut q)) ≡ 0 = subst (λ x. loose_hop r (used_words a.thread) (Some x) ≡ 0) it_is none in
        let some_so : loose_hop r (used_words a.thread) (Some (value.Mut q)) ≡ 1 = ap (λ d. other (is_at_hand (used_words a.thread) r (not d) q.word)) dirty ∙ ap (λ d. other (d || (false && is_in q.word (used_words a.thread)))) away in
        omega (arith, none_so, some_so)

    grown : (q : ThreadState) → q ≡ h.thread → Grows a.thread q → Grows a.thread h.thread
    grown q e g = subst (λ (b : ThreadState). Grows a.thread b) e g

    lacks_word : (word : ℕ) (q : ThreadState) → ((b : ℕ) → times b (used_words q) ≤ times b (used_words a.thread)) → is_cached a.work.rest.cache word ≡ false → is_in word (used_words q) ≡ false
    lacks_word word q le none = not_kept a.work.rest.cache word (used_words q) (let b = reading.usable word in let d = le word in omega (arith, b, d)) none

    copies_so : (u : Value) (p2 : BoxPtr) → Clean u p2 → value_at a sp ≡ Some u → (server_of p2.word == a.work.rest.number) ≡ false → is_cached a.work.rest.cache p2.word ≡ false → h ≡ ask_copy p2 (load_at sp a) → WaitsAt (to_read colours) j
    copies_so u p2 clean there away lacks e =
        let aw : Awaited = record { word = p2.word; object = p2.object; comes = false; by_copy = true } in
        let threads : h.thread ≡ record a.thread { phase = phase.WaitCell p2.word } = ap (λ (q : Hand). q.thread) e in
        let elsewhere : (server_of p2.word == r) ≡ false = ap (λ q. server_of p2.word == q) (sym reading.number) ∙ away in
        let lacking : is_in p2.word (words_kept h.thread) ≡ false = ap (λ (q : ThreadState). is_in p2.word (words_kept q)) threads ∙ lacks_word p2.word a.thread (λ b. omega arith) lacks in
        finish (to_read colours) aw u (exact (ap (λ (q : ThreadState). q.slots) threads) u there) (clean_awaits colours u p2 clean) (far_away r (words_kept h.thread) p2.word elsewhere lacking) (grown (record a.thread { phase = phase.WaitCell p2.word }) (sym threads) (λ b. omega arith)) (λ i2 lt b f. ap (λ (q : ThreadState). slice_get q.slots b) threads)
        (ap (λ (q : ThreadState). q.phase) threads) (ap (λ (q : ThreadState). q.pc) threads ∙ pc_there)
        (rest_is (server_of p2.word) (message.Fetch p2.word p2.object a.work.rest.number a.thread.number) a.work.rest (ap (λ (q : Hand). q.work.rest) e) reading.number aw
        (ap (λ q. one (asks_for o.result.hand.thread.number aw (message.Fetch p2.word p2.object a.work.rest.number q))) (sym (ap (λ (q : ThreadState). q.number) threads) ∙ same_id) ∙ copy_asks o.result.hand.thread.number aw a.work.rest.number refl)) (source_of u p2 p2.word there (clean_pointer u p2 clean) refl refl)

    -- an object that comes
    pub pulls : (f : Option Value → List Awaited) (u : Value) (p2 : BoxPtr) → f (Some u) ≡ record { word = p2.word; object = p2.object; comes = true; by_copy = false } ∷ [] → pointer_of u ≡ Some p2 → value_at a sp ≡ Some u → (server_of p2.word == a.work.rest.number) ≡ false → h ≡ ask_object p2 (load_at sp a) → WaitsAt f j
    pulls f u p2 awaits points there away e =
        let aw : Awaited = record { word = p2.word; object = p2.object; comes = true; by_copy = false } in
        let threads : h.thread ≡ record a.thread { phase = phase.WaitCell p2.word } = ap (λ (q : Hand). q.thread) e in
        let elsewhere : (server_of p2.word == r) ≡ false = ap (λ q. server_of p2.word == q) (sym reading.number) ∙ away in
        finish f aw u (exact (ap (λ (q : ThreadState). q.slots) threads) u there) awaits (ap (λ q. q || (false && is_in p2.word (words_kept h.thread))) elsewhere) (grown (record a.thread { phase = phase.WaitCell p2.word }) (sym threads) (λ q. omega arith))
        (λ i2 lt b2 g. ap (λ (q : ThreadState). slice_get q.slots b2) threads) (ap (λ (q : ThreadState). q.phase) threads) (ap (λ (q : ThreadState). q.pc) threads ∙ pc_there)
        (rest_is (server_of p2.word) (message.Move p2.word p2.object a.work.rest.number a.thread.number) a.work.rest (ap (λ (q : Hand). q.work.rest) e) reading.number aw
        (ap (λ q. one (asks_for o.result.hand.thread.number aw (message.Move p2.word p2.object a.work.rest.number q))) (sym (ap (λ (q : ThreadState). q.number) threads) ∙ same_id) ∙ pull_asks o.result.hand.thread.number aw a.work.rest.number refl)) (source_of u p2 p2.word there points refl refl)

    -- the last colour
    pub spent_here : (q : MutRef) → nat_lt (colour_of q.word) a.work.rest.partition.limit ≡ true → nat_lt (colour_of q.word + 1) a.work.rest.partition.limit ≡ false → (colour_of q.word + 1 == (sight c).options.colours) ≡ true
    spent_here q below last =
        let limit : a.work.rest.partition.limit ≡ colours = ap (λ (u : Rattle.law_walks_others.specs.Below.owner_box.View.PartitionState). u.limit) reading.partition ∙ limit_is in
        let one_way : colour_of q.word < a.work.rest.partition.limit = grind (arith, nat_tests, below) in
        let other_way : a.work.rest.partition.limit ≤ colour_of q.word + 1 = grind (arith, nat_tests, last) in
        let whole : colour_of q.word + 1 ≡ colours = omega (arith, one_way, other_way, limit) in
        grind (arith, nat_tests, whole)

    tints_so : j < m → (q : MutRef) (b : ℕ) → sp ≡ in_slot b → value_at a sp ≡ Some (value.Mut q) → q.dirty ≡ true → (server_of q.word == a.work.rest.number) ≡ false → h ≡ ask_copy (box_of (took q (next_word q.word))) (tinted_hand b q (load_at sp a)) → WaitsAt (to_read colours) j
    tints_so less q b at there dirty away e =
        let new : MutRef = took q (next_word q.word) in
        let word : ℕ = next_word q.word in
        let aw : Awaited = record { word = word; object = q.object; comes = false; by_copy = true } in
        let slots : List Value = slice_set a.thread.slots b (value.Mut new) in
        let changed : ThreadState = record a.thread { slots = slots; phase = phase.WaitCell word } in
        let threads : h.thread ≡ changed = ap (λ (u : Hand). u.thread) e in
        let stands : slice_get a.thread.slots b ≡ Some (value.Mut q) = sym (ap (value_at a) at) ∙ there in
        let within : b < length a.thread.slots = slice_get_within a.thread.slots b (value.Mut q) stands in
        let same_server : server_of word ≡ server_of q.word = omega arith in
        let elsewhere : (server_of word == r) ≡ false = ap (λ u. u == r) same_server ∙ ap (λ u. server_of q.word == u) (sym reading.number) ∙ away in
        let as_many : (x : ℕ) → times x (used_words changed) ≡ times x (used_words a.thread) = λ x. (let d = parts changed x in let f = parts a.thread x in let g = pinned_set x a.thread.slots b (value.Mut q) (value.Mut new) stands in omega (arith, d, f, g)) in
        let none : is_cached a.work.rest.cache word ≡ false = untinted_so k n t s y i z w m reads j less a sp l located spot reading q there dirty in
        let lacking : is_in word (words_kept h.thread) ≡ false = ap (λ (u : ThreadState). is_in word (words_kept u)) threads ∙ lacks_word word changed (λ x. (let d = as_many x in omega (arith, d))) none in
        let place : l ≡ at_slot tn b = slot_located b at in
        let found : value_in G2 l ≡ Some (value.Mut new) = ap (value_in G2) place ∙ slot_then k c v t o after h is b ∙ ap (λ (u : ThreadState). slice_get u.slots b) threads ∙ set_there a.thread.slots b (value.Mut new) within in
        finish (to_read colours) aw (value.Mut new) found refl (far_away r (words_kept h.thread) word elsewhere lacking) (grown changed (sym threads) (λ x. (let d = as_many x in omega (arith, d))))
        (λ i2 lt b2 f. ap (λ (u : ThreadState). slice_get u.slots b2) threads ∙ set_other a.thread.slots b b2 (value.Mut new) (λ same. behind_dirty less i2 lt b2 f (subst (λ u. l ≡ at_slot tn u) (sym same) place) q dirty (ap (λ u. server_of q.word == u) (sym reading.number) ∙ away) there))
        (ap (λ (u : ThreadState). u.phase) threads) (ap (λ (u : ThreadState). u.pc) threads ∙ pc_there)
        (rest_is (server_of word) (message.Fetch word q.object a.work.rest.number a.thread.number) a.work.rest (ap (λ (u : Hand). u.work.rest) e) reading.number aw
        (ap (λ u. one (asks_for o.result.hand.thread.number aw (message.Fetch word q.object a.work.rest.number u))) (sym (ap (λ (u : ThreadState). u.number) threads) ∙ same_id) ∙ copy_asks o.result.hand.thread.number aw a.work.rest.number refl))
        (source_of (value.Mut q) (box_of q) word there refl same_server (let same_address : address_of word ≡ address_of q.word = omega arith in same_address))

    by_asks : j < m → ReadAsks a sp h → WaitsAt (to_read colours) j
    by_asks less (for_copy u p2 clean there away lacks e) = copies_so u p2 clean there away lacks e
    by_asks less (for_tint q b at there dirty away colour e) = tints_so less q b at there dirty away e
    by_asks less (for_object q b at there dirty away below last e) = pulls (to_read colours) (value.Mut q) (box_of q) (spent_one colours q dirty (spent_here q below last)) refl there away e

  pub waits_at : read_stars m (record { work = begin_work o.server.rest; thread = o.thread }) (in_slot w.slot) ≡ requested h → (j : ℕ) × (j < m) × WaitsAt (to_read (sight c).options.colours) j
  waits_at stopped =
      let st = read_stops m h0 (in_slot w.slot) h stopped in
      let less = st.less in
      let at_it = reaches k n t s y i z w m reads st.number (omega (arith, less)) st.hand st.spot st.so_far in (
        st.number,
        less,
        by_asks st.number (omega (arith, less)) (let q = under k n t s y i z w m reads in omega (arith, less, q)) st.hand st.spot st.so_far at_it.0 at_it.1 at_it.2 at_it.3 less
            (read_asks st.hand st.spot h (placed_so k n t s y i z w m reads st.number st.hand st.spot at_it.0 at_it.2 at_it.3) (untinted_so k n t s y i z w m reads st.number less st.hand st.spot at_it.0 at_it.1 at_it.2 at_it.3) st.asks),
      )
