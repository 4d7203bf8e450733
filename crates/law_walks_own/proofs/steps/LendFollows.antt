-- A mutable borrow that waits for its own object has followed its place: one that waits for an object or a copy before that waits under another word than its last pointer's.
use Rattle.std.proofs.Common.{◌≡◌, ℕ, zero, suc, ◌+◌, ◌-◌, ◌<◌, ◌≤◌, ◌==◌, ◌&&◌, Bool, true, false, List, [], ◌∷◌, ◌++◌, Option, Some, None, refl, sym, ap, subst, ◌∙◌, arith}
use Rattle.std.specs.Prelude.{slice_get}
use Rattle.std.proofs.lemmas.Bool.Decides.{nat_tests}
use Rattle.law_walks_others.specs.Below.fr_base.declared.name.ObjNo.{ObjNo}
use Rattle.law_walks_others.specs.Below.fr_base.declared.place.Lval.{Lval}
use Rattle.law_walks_others.specs.Below.fr_base.declared.instruction.Instr.{Instr}
use Rattle.law_walks_others.specs.Below.fr_base.declared.instruction.Instr.TheVariants as instr
use Rattle.law_walks_others.specs.Below.global_addr.Words.{server_of, address_of}
use Rattle.law_walks_others.specs.Below.heap_partition.declared.value.BoxPtr.{BoxPtr}
use Rattle.law_walks_others.specs.Below.heap_partition.declared.value.Cell.{Cell}
use Rattle.law_walks_others.specs.Below.heap_partition.declared.value.Owned.{Owned}
use Rattle.law_walks_others.specs.Below.heap_partition.declared.value.Owned.TheVariants as owned
use Rattle.law_walks_others.specs.Below.journal.View.{EntryView}
use Rattle.law_walks_others.specs.Below.thread_state.View.{ThreadState}
use Rattle.law_walks_others.specs.Below.thread_state.declared.phase.Phase.{Phase}
use Rattle.law_walks_others.specs.Below.thread_state.declared.phase.Phase.TheVariants as phase
use Rattle.law_walks_others.specs.Below.thread_state.declared.value.Value.{Value}
use Rattle.law_walks_others.specs.Below.thread_state.declared.value.Value.TheVariants as value
use Rattle.law_walks_others.specs.Below.server_model.Servers.{Server, Cluster}
use Rattle.law_walks_others.specs.Below.server_model.Work.{Hand}
use Rattle.law_walks_others.specs.Below.server_model.Places.{Spot, in_slot, value_at, load_at, pointer_of}
use Rattle.law_walks_others.specs.Below.server_model.Prepare.{ready, requested, access_of, prepare, read_stars, lend_value, lend_pointer}
use Rattle.law_walks_others.specs.Below.server_model.Events.{Stepped, begin_work, wait_step}
use Rattle.law_walks_others.specs.Below.coherent_memory.Names.{tot, if_so, Among}
use Rattle.law_walks_others.specs.Below.coherent_memory.Things.{Location, in_cell, lies, things_of}
use Rattle.law_walks_others.specs.Below.coherent_memory.Follow.{Standing, Ground, cell_of, value_of, value_in, leads, locate, hop_at, hops}
use Rattle.law_walks_others.specs.Below.coherent_memory.Paths.{Path, lends, Awaited, to_read, to_write, borrow_to, awaited, followed}
use Rattle.law_walks_others.specs.Below.coherent_memory.Sight.{sight}
use Rattle.law_walks_others.specs.Below.coherent_memory.Weights.{states}
use Rattle.law_walks_others.specs.Below.coherent_memory.Walking.{path, words_kept, loose_hop, is_pull, has_followed, waits_for_lent, lost_place}
use Rattle.law_walks_others.proofs.Below.coherent_memory.Passing.{paths_law, one_more}
use Rattle.law_walks_others.specs.Below.law_words_paths.paths.HeapStore.{GoesOn, HasPaths}
use Rattle.law_walks_others.specs.Below.law_words_paths.paths.Pointing.{lends as lends_it}
use Rattle.law_walks_others.proofs.Below.law_words_paths.paths.Alike.{coherent_has_paths}
use Rattle.law_walks_others.proofs.Below.law_words_paths.paths.FreshPaths.{HasTaken}
use Rattle.law_walks_others.proofs.Below.law_words_paths.paths.InState.{only_one}
use Rattle.law_walks_others.proofs.Below.law_words_paths.paths.MayWrites.{may_write_there}
use Rattle.law_walks_others.proofs.Below.law_words_paths.paths.Sole.{some_is}
use Rattle.law_walks_others.proofs.Below.law_counts_sums.Cells.{self_state}
use Rattle.law_words_ends.specs.Below.law_words_kept.reads.Reading as reading
use Rattle.law_words_ends.specs.Below.law_words_kept.reads.Reading.{Reads, LiesUnder}
use Rattle.law_words_ends.proofs.Below.law_words_kept.reads.Homes.{read_lie_there, pointer_leads}
use Rattle.law_words_ends.proofs.Below.law_words_kept.reads.Lookups.{one_state}
use Rattle.law_walks_others.proofs.Below.law_results_reads.Known.{Steps, standing, paths, goes}
use Rattle.law_walks_others.proofs.Below.law_results_reads.Mutables.{apart}
use Rattle.law_walks_others.proofs.Below.law_results_events.writes.StepRoutes.{awake}
use Rattle.law_words_ends.proofs.Below.law_words_borrows.Lasts.{under_last}
use Rattle.law_walks_own.proofs.steps.Own.{Own, me}
use Rattle.law_walks_own.proofs.steps.ReadStars.{Grows}
use Rattle.law_walks_own.proofs.steps.ReadWalk.{hop_deep, hop_there, never_asked}
use Rattle.law_walks_own.proofs.steps.ReadCells.{on_way, cell_stays}
use Rattle.law_walks_own.proofs.steps.Behind.{hops_sum, number_then, same_place, behind_so}
use Rattle.law_walks_own.proofs.steps.ReadTurns.{WaitsAt, waits_at}
use Rattle.law_walks_own.proofs.steps.Borrows.{lend_asks, split}
use Rattle.law_walks_own.proofs.steps.OwnSteps.{Facts, leads_by}

-- THE LAST THAT IS AWAITED

pull_last : (ys : List Awaited) (a : Awaited) (w : ℕ) → is_pull (ys ++ a ∷ []) w ≡ (a.comes && a.word == w)
pull_last [] a w = refl
pull_last (b ∷ []) a w = refl
pull_last (b ∷ c ∷ ys) a w = pull_last (c ∷ ys) a w

append_all : (xs ys zs : List Awaited) → xs ++ (ys ++ zs) ≡ (xs ++ ys) ++ zs
append_all [] ys zs = refl
append_all (x ∷ xs) ys zs = ap (λ q. x ∷ q) (append_all xs ys zs)

-- of a borrow it is that of the last pointer
last_of_borrow : (colours : ℕ) (f : Option Value → List Awaited) (xs : List (Option Value)) (v : Option Value) (a : Awaited) → f v ≡ a ∷ [] → (ys : List Awaited) × (borrow_to colours f (xs ++ v ∷ []) ≡ ys ++ a ∷ [])
last_of_borrow colours f [] v a e = ([], e)
last_of_borrow colours f (x ∷ []) v a e = (to_read colours x, ap (λ q. to_read colours x ++ q) e)
last_of_borrow colours f (x ∷ y ∷ xs) v a e =
    let q = last_of_borrow colours f (y ∷ xs) v a e in
    (to_read colours x ++ q.0, ap (λ u. to_read colours x ++ u) q.1 ∙ append_all (to_read colours x) q.0 (a ∷ []))

-- AT ONE ADDRESS

same_cell : {r q a b : ℕ} {d e : Cell} → lies r a d ≡ lies q b e → d ≡ e
same_cell e = cc

weighs_one : (r a : ℕ) (d : Cell) → 1 ≤ states (r, a) (lies r a d)
weighs_one r a d = let e = self_state r a in omega (arith, e)

taken_no : (p : Phase) → ((u : ℕ) → p ≡ phase.Taken u → ⊥) → (u : ℕ) → p ≡ phase.Taken u → ⊥
taken_no p f = f

module _ (k c : Cluster) (v : EntryView) (t : ℕ) (f : Facts k c v t) (h : Hand) (asked : prepare (access_of f.own.instruction f.own.thread) (record { work = begin_work f.own.server.rest; thread = f.own.thread }) ≡ requested h) (is : f.own.result ≡ wait_step h)
    (w : Lval) (d : ℕ) (deep : w.depth ≡ suc d) (borrows : f.own.instruction ≡ instr.BorrowMut w) (path_now : path (sight c) (me k c v t f.own f.places) ≡ lends w) where
  abbrev o : Own k c v t
  o = f.own

  abbrev n : ℕ
  n = o.number

  abbrev s : Server
  s = o.server

  abbrev y : ThreadState
  y = o.thread

  abbrev i : Instr
  i = o.instruction

  abbrev z : Steps k n t s y i
  z = o.steps

  abbrev x : Standing
  x = standing k n t s y i z

  abbrev p : HasPaths k
  p = paths k n t s y i z

  abbrev on : GoesOn k x
  on = goes k n t s y i z

  abbrev h0 : Hand
  h0 = record { work = begin_work s.rest; thread = y }

  abbrev G : Ground
  G = (sight k).ground

  abbrev G2 : Ground
  G2 = (sight c).ground

  abbrev tn : ℕ
  tn = y.number

  abbrev it_now : Standing
  it_now = me k c v t o f.places

  reads : Reads i w d
  reads = subst (λ u. Reads u w d) (sym borrows) (reading.lends deep)

  lt : d < w.depth
  lt = omega (arith, deep)

  abbrev Lost : Type 0
  Lost = lost_place (sight c) it_now ≡ 0

  abbrev all_loose : ℕ
  all_loose = tot (loose_hop s.rest.number (words_kept o.result.hand.thread)) (followed G2 o.result.hand.thread.number (path (sight c) it_now))

  -- WHERE ITS OWN OBJECT IS ASKED FOR

  last_asks : (a : Hand) (sp : Spot) → read_stars d h0 (in_slot w.slot) ≡ ready a sp → lend_value sp (value_at a sp) (load_at sp a) ≡ requested h → Lost
  last_asks a sp reached asks =
      let q = lend_asks sp (value_at a sp) (load_at sp a) h asks in
      let leads_so = leads_by k c v t f h is w in
      let threads : h.thread ≡ record a.thread { phase = phase.WaitCell q.pointer.word } = ap (λ (u : Hand). u.thread) q.asked in
      let words : words_kept o.result.hand.thread ≡ words_kept h.thread = ap (λ (e : Stepped). words_kept e.hand.thread) is in
      let shorter : w.depth - 1 ≡ d = omega (arith, deep) in
      let behind : tot (loose_hop s.rest.number (words_kept h.thread)) (hops G2 tn w d) ≡ 0 =
      hops_sum (loose_hop s.rest.number (words_kept h.thread)) G2 tn w d
      (behind_so k c v t o f.places w d reads h is leads_so (cell_stays k c v t o f.places w d reads h (on_way asked) is) d (omega arith) a sp reached (subst (λ (u : ThreadState). Grows a.thread u) (sym threads) (λ b. omega arith)) (λ i2 l b e. ap (λ (u : ThreadState). slice_get u.slots b) threads)) in
      let all : all_loose ≡ 0 =
      ap (λ e. tot (loose_hop s.rest.number (words_kept o.result.hand.thread)) (followed G2 o.result.hand.thread.number e)) path_now ∙ ap (λ e. tot (loose_hop s.rest.number (words_kept o.result.hand.thread)) (hops G2 o.result.hand.thread.number w e)) shorter
      ∙ ap (λ e. tot (loose_hop s.rest.number (words_kept o.result.hand.thread)) (hops G2 e w d)) (number_then k c v t o) ∙ ap (λ e. tot (loose_hop s.rest.number e) (hops G2 tn w d)) words ∙ behind in
      none_if (has_followed (sight c) it_now o.result.hand.thread.phase) all
    where
      none_if : (b : Bool) {m : ℕ} → m ≡ 0 → if_so b m ≡ 0
      none_if true e = e
      none_if false e = refl

  -- WHERE IT STOPS BEFORE

  module _ (stopped : read_stars d h0 (in_slot w.slot) ≡ requested h) where
    -- it hasn't taken an object, as it would have all at hand
    untaken : (u : ℕ) → y.phase ≡ phase.Taken u → ⊥
    untaken u e =
        let zz = z in
        let has : has_followed (sight k) x y.phase ≡ true = ap (has_followed (sight k) x) e in
        let on_path : path (sight k) x ≡ lends w = ap (λ q. Rattle.law_walks_others.specs.Below.coherent_memory.Paths.path_of q y) (zz.code ∙ ap (λ q. Some q) borrows) in
        let place_is : Rattle.law_walks_others.specs.Below.coherent_memory.Passing.followed_place (path (sight k) x) ≡ Some (record { slot = w.slot; depth = w.depth - 1 }) = ap Rattle.law_walks_others.specs.Below.coherent_memory.Passing.followed_place on_path in
        never_asked k n t s y i z w d reads
        (λ j l b less located stands. zz.coherent.sound.walks.have_followed x (record { slot = w.slot; depth = w.depth - 1 }) j l b on.among has place_is (omega (arith, less, deep)) (record { path = paths_law.located G tn w.slot j l located; stands = stands })) h stopped

    none_taken : (l : Location) → HasTaken k (coherent_has_paths k (let zz = z in zz.coherent)) x l → ⊥
    none_taken l q = untaken q.word q.taken

    -- behind an object there are objects alone
    in_memory : (l : Location) (u : Value) (l2 : Location) → (q : ObjNo) → l ≡ in_cell q → value_in G l ≡ Some u → leads tn (Some u) ≡ Some l2 → (b : BoxPtr) × (u ≡ value.Own (owned.Box b)) × (l2 ≡ in_cell b.object)
    in_memory l u l2 q e stands on_it = by (cell_of G.cells q) (sym (ap (value_in G) e) ∙ stands)
      where
        by_owned : (a : Owned) → u ≡ value.Own a → (b : BoxPtr) × (u ≡ value.Own (owned.Box b)) × (l2 ≡ in_cell b.object)
        by_owned (owned.Box b) g = (b, g, some_is (sym on_it ∙ ap (λ r. leads tn (Some r)) g))
        by_owned owned.Nothing g = absurd (cc (sym on_it ∙ ap (λ r. leads tn (Some r)) g))
        by_owned owned.Unit g = absurd (cc (sym on_it ∙ ap (λ r. leads tn (Some r)) g))
        by_owned (owned.Int b) g = absurd (cc (sym on_it ∙ ap (λ r. leads tn (Some r)) g))
        by_owned (owned.Mutex b) g = absurd (cc (sym on_it ∙ ap (λ r. leads tn (Some r)) g))
        by_owned (owned.Task b) g = absurd (cc (sym on_it ∙ ap (λ r. leads tn (Some r)) g))

        by : (r : Option Cell) → value_of r ≡ Some u → (b : BoxPtr) × (u ≡ value.Own (owned.Box b)) × (l2 ≡ in_cell b.object)
        by None g = absurd (cc g)
        by (Some a) g = by_owned a.value (sym (some_is g))

    -- each pointer behind the one that it waits at stands in an object
    memory_from : (j : ℕ) (q : ObjNo) → locate G tn w.slot (suc j) ≡ Some (in_cell q) → (m : ℕ) → suc j + m ≤ d → (b : ObjNo) × (locate G tn w.slot (suc j + m) ≡ Some (in_cell b))
    memory_from j q e zero le = (q, subst (λ u. locate G tn w.slot u ≡ Some (in_cell q)) (let g : suc j ≡ suc j + 0 = omega arith in g) e)
    memory_from j q e (suc m) le =
        let before = memory_from j q e m (omega (arith, le)) in
        let hop = hop_there k n t s y i z w d reads (suc j + m) (omega (arith, le)) (in_cell before.0) before.1 in
        let r = in_memory (in_cell before.0) hop.0 hop.2.0 before.0 refl hop.1 hop.2.2 in
        let one : suc (suc j + m) ≡ suc j + suc m = omega arith in
        (r.0.object, subst (λ u. locate G tn w.slot u ≡ Some (in_cell r.0.object)) one (hop.2.1 ∙ ap (λ u. Some u) r.2))

    -- who waits for an object of one pointer doesn't wait for that of another one
    other_word : (j : ℕ) → j < d → (l : Location) (u : Value) (b : BoxPtr) → locate G tn w.slot j ≡ Some l → value_in G l ≡ Some u → pointer_of u ≡ Some b → (l2 : Location) (u2 : Value) (b2 : BoxPtr) → locate G tn w.slot d ≡ Some l2 → value_in G l2 ≡ Some u2 → pointer_of u2 ≡ Some b2
        → server_of b2.word ≡ server_of b.word → address_of b2.word ≡ address_of b.word → ⊥
    other_word j less l u b located stands points l2 u2 b2 located2 stands2 points2 same_server same_address =
        let zz = z in
        let first : LiesUnder k b = read_lie_there k zz.coherent x i w d j l u b on zz.code reads less (awake k n t s y i z) located stands points in
        let second : LiesUnder k b2 = under_last k zz.coherent x on i w d reads deep zz.code none_taken (awake k n t s y i z) l2 u2 b2 located2 stands2 points2 in
        let servers : second.server ≡ first.server = sym second.leads.server ∙ same_server ∙ first.leads.server in
        let addresses : second.address ≡ first.address = sym second.leads.address ∙ same_address ∙ first.leads.address in
        let among : Among (lies first.server first.address second.there.cell) (things_of k) = subst (λ a. Among (lies first.server a second.there.cell) (things_of k)) addresses (subst (λ r. Among (lies r second.address second.there.cell) (things_of k)) servers second.there.among) in
        let one : lies first.server first.address first.there.cell ≡ lies first.server first.address second.there.cell =
        only_one (states (first.server, first.address)) (lies first.server first.address first.there.cell) (lies first.server first.address second.there.cell) (things_of k) (one_state k zz.coherent.sound (first.server, first.address)) first.there.among among
        (weighs_one first.server first.address first.there.cell) (weighs_one first.server first.address second.there.cell) in
        let objects : b.object ≡ b2.object = sym first.there.object ∙ ap (λ (e : Cell). e.object) (same_cell one) ∙ second.there.object in
        let to_first : locate G tn w.slot (suc j) ≡ Some (in_cell b.object) = led_on j l u b located stands points in
        let to_second : locate G tn w.slot (suc d) ≡ Some (in_cell b2.object) = led_on d l2 u2 b2 located2 stands2 points2 in
        let wr = may_write_there k p x on (instr.BorrowMut w) w (zz.code ∙ ap (λ q. Some q) borrows) lends_it in
        apart k p x on w.slot w.depth wr.base wr.boxes wr.type wr.resolves (suc j) (suc d) (omega (arith, less)) (omega (arith, deep)) (in_cell b.object) to_first (to_second ∙ ap (λ e. Some (in_cell e)) (sym objects))
      where
        led_on : (m : ℕ) (l : Location) (u : Value) (b : BoxPtr) → locate G tn w.slot m ≡ Some l → value_in G l ≡ Some u → pointer_of u ≡ Some b → locate G tn w.slot (suc m) ≡ Some (in_cell b.object)
        led_on m l u b e g q = ap (λ r. leads tn (Rattle.law_walks_others.specs.Below.coherent_memory.Follow.value_behind G r)) e ∙ ap (leads tn) g ∙ pointer_leads tn u b q

    -- what the last pointer is afterwards
    last_then : (q : ObjNo) → locate G tn w.slot d ≡ Some (in_cell q) → (u : Value) → value_in G (in_cell q) ≡ Some u → hop_at G2 o.result.hand.thread.number w d ≡ Some u
    last_then q located u stands =
        ap (λ r. hop_at G2 r w d) (number_then k c v t o) ∙ same_place k c tn w (leads_by k c v t f h is w) d (omega (arith, deep)) (in_cell q) located ∙ by (cell_of G.cells q) refl stands
      where
        by : (e : Option Cell) → cell_of G.cells q ≡ e → value_of e ≡ Some u → value_in G2 (in_cell q) ≡ Some u
        by None e g = absurd (cc g)
        by (Some a) e g = cell_stays k c v t o f.places w d reads h (on_way asked) is q a e ∙ g

    -- so it doesn't wait for its own object
    not_its_own : (j : ℕ) (less : j < d) (wa : WaitsAt k c v t f.options o f.places w d reads h asked is (leads_by k c v t f h is w) (to_read (sight c).options.colours) j) → waits_for_lent (sight c) it_now (lends w) wa.awaited.word ≡ false
    not_its_own j less wa =
        let from = wa.source in
        let hop = hop_there k n t s y i z w d reads j less wa.place wa.at_place in
        let same_value : hop.0 ≡ from.pointed = some_is (sym hop.1 ∙ from.stood) in
        let next_cell : locate G tn w.slot (suc j) ≡ Some (in_cell from.pointer.object) = hop.2.1 ∙ sym hop.2.2 ∙ ap (λ q. leads tn (Some q)) same_value ∙ pointer_leads tn from.pointed from.pointer from.points in
        let far = memory_from j from.pointer.object next_cell (d - suc j) (omega (arith, less)) in
        let sum : suc j + (d - suc j) ≡ d = omega (arith, less) in
        let last : locate G tn w.slot d ≡ Some (in_cell far.0) = subst (λ u. locate G tn w.slot u ≡ Some (in_cell far.0)) sum far.1 in
        let deepest = hop_deep k n t s y i z w d reads d lt (in_cell far.0) last in
        let boxed = in_memory (in_cell far.0) deepest.0 deepest.2.0 far.0 refl deepest.1 deepest.2.2 in
        let b : BoxPtr = boxed.0 in
        let u : Value = value.Own (owned.Box b) in
        let stands : value_in G (in_cell far.0) ≡ Some u = deepest.1 ∙ ap (λ q. Some q) boxed.1 in
        let a : Awaited = record { word = b.word; object = b.object; comes = true; by_copy = false } in
        let number = o.result.hand.thread.number in
        let colours = (sight c).options.colours in
        let listed = last_of_borrow colours to_write (hops G2 number w d) (hop_at G2 number w d) a (ap to_write (last_then far.0 last u stands)) in
        let list_is : awaited colours G2 number (lends w) ≡ listed.0 ++ a ∷ [] = ap (λ q. borrow_to colours to_write (hops G2 number w q)) deep ∙ ap (borrow_to colours to_write) (one_more G2 number w d) ∙ listed.1 in
        ap (λ q. is_pull q wa.awaited.word) list_is ∙ pull_last listed.0 a wa.awaited.word
        ∙ apart_words b.word wa.awaited.word (λ e. other_word j less wa.place from.pointed from.pointer wa.at_place from.stood from.points (in_cell far.0) u b last stands refl (ap server_of e ∙ from.same_server) (ap address_of e ∙ from.same_address))
      where
        apart_words : (a b : ℕ) → (a ≡ b → ⊥) → (a == b) ≡ false
        apart_words a b ne = by (a == b) refl
          where
            by : (q : Bool) → (a == b) ≡ q → q ≡ false
            by true e = absurd (ne (grind (arith, nat_tests, e)))
            by false e = refl

    stops_before : Lost
    stops_before =
        let q = waits_at k c v t f.options o f.places w d reads h asked is (leads_by k c v t f h is w) stopped in
        let wa = q.2 in
        ap (λ u. if_so (has_followed (sight c) it_now u) all_loose) wa.phase_is ∙ ap (λ u. if_so (waits_for_lent (sight c) it_now u wa.awaited.word) all_loose) path_now ∙ ap (λ b. if_so b all_loose) (not_its_own q.0 q.1 wa)

  pub lend_follows : Lost
  lend_follows =
      split (read_stars d h0 (in_slot w.slot)) (λ h2 sp. lend_value sp (value_at h2 sp) (load_at sp h2)) h Lost (sym (ap (λ u. prepare (access_of u y) h0) borrows ∙ ap (λ u. lend_pointer w u h0) deep) ∙ asked) stops_before last_asks
