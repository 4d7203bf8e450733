-- After the step of a thread its own walk stands as it should: what it has passed lies at its server, what it has followed is at hand, and it waits in turn.
use Rattle.std.proofs.Common.{◌≡◌, ℕ, zero, suc, ◌-◌, ◌<◌, ◌==◌, ◌&&◌, not, is_some, Bool, true, false, Option, Some, None, refl, sym, ap, subst, ◌∙◌, arith}
use Rattle.std.specs.Prelude.{slice_get, length}
use Rattle.std.specs.Bool.{⊤}
use Rattle.std.proofs.lemmas.Bool.Decides.{nat_tests}
use Rattle.law_walks_others.specs.Below.fr_base.Lists.{last_of}
use Rattle.law_walks_others.specs.Below.fr_base.declared.place.Lval.{Lval}
use Rattle.law_walks_others.specs.Below.fr_base.declared.instruction.Instr.{Instr}
use Rattle.law_walks_others.specs.Below.fr_base.declared.instruction.Instr.TheVariants as instr
use Rattle.law_walks_others.specs.Below.heap_partition.declared.value.Owned.{Owned}
use Rattle.law_walks_others.specs.Below.journal.View.{EntryView}
use Rattle.law_walks_others.specs.Below.thread_state.View.{ThreadState}
use Rattle.law_walks_others.specs.Below.thread_state.declared.phase.Phase.{Phase}
use Rattle.law_walks_others.specs.Below.thread_state.declared.phase.Phase.TheVariants as phase
use Rattle.law_walks_others.specs.Below.thread_state.declared.value.Value.{Value}
use Rattle.law_walks_others.specs.Below.server_model.Servers.{Server, Cluster}
use Rattle.law_walks_others.specs.Below.server_model.Work.{Hand}
use Rattle.law_walks_others.specs.Below.server_model.Places.{Spot, in_slot, on_top}
use Rattle.law_walks_others.specs.Below.server_model.Prepare.{Access, ReadTo, EndRef, Prepared, ready, requested, ending, assigned, read_or_taken, access_of, prepare, read_stars}
use Rattle.law_walks_others.specs.Below.server_model.Events.{Stepped, begin_work, wait_step}
use Rattle.law_walks_others.specs.Below.coherent_memory.Names.{tot, one, if_so}
use Rattle.law_walks_others.specs.Below.coherent_memory.Follow.{Standing, hops}
use Rattle.law_walks_others.specs.Below.coherent_memory.Paths.{Path, no_path, reads, shares, lends, writes, ends, path_of, assigning, taking, written_place, to_read, followed}
use Rattle.law_walks_others.specs.Below.coherent_memory.Paths as paths_of
use Rattle.law_walks_others.specs.Below.coherent_memory.Sight.{Sight, sight}
use Rattle.law_walks_others.specs.Below.coherent_memory.Coherent.{Holds, passed_in_a_walk, gifts_got}
use Rattle.law_walks_others.specs.Below.coherent_memory.Requests.{is_got, early_gift}
use Rattle.law_walks_others.specs.Below.coherent_memory.Turn.{InTurn, by_read, FirstUnread, AwaitsAt, read_at}
use Rattle.law_walks_others.specs.Below.coherent_memory.Walking.{instr_of, path, words_kept, loose_hop, in_walk, early, over_place, over_passed, away, has_gift_there, has_followed, waits_for_lent, lost_place, out_of_turn}
use Rattle.law_walks_others.proofs.Below.coherent_memory.Turn.{turn_law}
use Rattle.law_walks_others.specs.Below.law_words_paths.paths.HeapStore.{GoesOn}
use Rattle.law_words_ends.specs.Below.law_words_paths.words.Reworded.{HasPlaces}
use Rattle.law_walks_others.proofs.Below.law_heap_still.events.Addresses.{in_place}
use Rattle.law_walks_others.proofs.Below.law_heap_still.events.Leaving.{others, placed_here}
use Rattle.law_walks_others.proofs.Below.law_heap_still.events.Prepares.{prepare_shows, Fine as Shows}
use Rattle.law_words_ends.specs.Below.law_words_kept.reads.Reading.{Reads, copies, dups, locks}
use Rattle.law_walks_others.proofs.Below.law_results_reads.Known.{Steps, standing, goes}
use Rattle.law_walks_others.specs.Below.law_counts_waiting.waits.Places.{LeadsAsItDid}
use Rattle.law_walks_others.specs.Below.law_words_asked.writes.Writing.{WritesThrough, assigns, moves}
use Rattle.law_walks_own.proofs.steps.Outcomes.{IsCalm, AsksHome, a_lock, a_dup, a_join}
use Rattle.law_walks_own.proofs.steps.EndKinds.{MayEnd, an_assignment, a_discard, a_drop}
use Rattle.law_walks_own.proofs.steps.Own.{Own, me}
use Rattle.law_walks_own.proofs.steps.ReadStars.{Grows}
use Rattle.law_walks_own.proofs.steps.ReadCells.{AsksSo, at_end, cell_stays}
use Rattle.law_walks_own.proofs.steps.Behind.{hops_sum, number_then, behind_so}
use Rattle.law_walks_own.proofs.steps.ReadTurns.{waits_at}
use Rattle.law_walks_own.proofs.steps.Asked.{waits_right}
use Rattle.law_walks_own.proofs.steps.Writes as through

-- what is known of the cluster afterwards
pub record Facts (k c : Cluster) (v : EntryView) (t : ℕ) : Type 0 where
  pub own : Own k c v t
  pub places : HasPlaces c
  pub code : c.code ≡ k.code
  pub options : c.options ≡ k.options
  pub walks : Holds c passed_in_a_walk
  pub gifts : Holds c gifts_got
  pub leads : v.done ≡ None → (x : Standing) (w : Lval) → GoesOn k x → LeadsAsItDid k c x.thread.number w

-- WHO IS IN NO WALK

not_walking : (p : Phase) (n : ℕ) → in_walk p ≡ false → one (not (in_walk p) && not (n == 0)) ≡ 0 → n ≡ 0
not_walking p n e z = by (n == 0) refl (subst (λ b. one (not b && not (n == 0)) ≡ 0) e z)
  where
    by : (b : Bool) → (n == 0) ≡ b → one (not b) ≡ 0 → n ≡ 0
    by true q y = grind (arith, nat_tests, q)
    by false q y = absurd (cc y)

none_passed : (s : Sight) (t r : ℕ) (o : Option Lval) → over_place s.ground t 0 (away s r) o ≡ 0
none_passed s t r None = refl
none_passed s t r (Some w) = refl

no_gift : (g : Option Owned) (p : Phase) → is_got p ≡ false → one (is_some g && not (is_got p)) ≡ 0 → g ≡ None
no_gift None p e z = refl
no_gift (Some v) p e z = absurd (cc (sym (ap (λ b. one (true && not b)) e) ∙ z))

-- what may be wrong of a thread
abbrev pub Fine : Cluster → Standing → Type 0
Fine c x = (over_passed (sight c) (away (sight c)) x ≡ 0) × (out_of_turn (sight c) x x.thread.phase ≡ 0) × (lost_place (sight c) x ≡ 0)

-- a thread at rest, or that waits for a result
abbrev pub Rests : Phase → Type 0
Rests phase.Ready = ⊤
Rests phase.Over = ⊤
Rests (phase.WaitPar a b) = ⊤
Rests (phase.WaitJoin u) = ⊤
Rests p = ⊥

pub calm_rests : (p : Phase) → IsCalm p → Rests p
calm_rests phase.Ready c = tt
calm_rests phase.Over c = tt
calm_rests (phase.WaitPar a b) c = tt
calm_rests phase.Got c = absurd c
calm_rests (phase.Taken w) c = absurd c
calm_rests (phase.WaitCell w) c = absurd c
calm_rests (phase.WaitLock m) c = absurd c
calm_rests (phase.WaitDup m) c = absurd c
calm_rests (phase.WaitJoin u) c = absurd c
calm_rests (phase.GotPar a b) c = absurd c

pub rests_fine : (c : Cluster) (x : Standing) → early x ≡ 0 → early_gift x ≡ 0 → (p : Phase) → x.thread.phase ≡ p → Rests p → Fine c x
rests_fine c x z g p e rests = (passed p e rests, turn p e rests, lost p e rests)
  where
    none : (p : Phase) → x.thread.phase ≡ p → in_walk p ≡ false → x.thread.passed ≡ 0
    none p e f = not_walking p x.thread.passed f (subst (λ q. one (not (in_walk q) && not (x.thread.passed == 0)) ≡ 0) e z)

    still : (p : Phase) → Rests p → in_walk p ≡ false
    still phase.Ready r = refl
    still phase.Over r = refl
    still (phase.WaitPar a b) r = refl
    still (phase.WaitJoin u) r = refl
    still phase.Got r = absurd r
    still (phase.Taken w) r = absurd r
    still (phase.WaitCell w) r = absurd r
    still (phase.WaitLock m) r = refl
    still (phase.WaitDup m) r = refl
    still (phase.GotPar a b) r = refl

    passed : (p : Phase) → x.thread.phase ≡ p → Rests p → over_passed (sight c) (away (sight c)) x ≡ 0
    passed p e r = ap (λ n. over_place (sight c).ground x.thread.number n (away (sight c) x.server) (written_place (path (sight c) x))) (none p e (still p r)) ∙ none_passed (sight c) x.thread.number x.server (written_place (path (sight c) x))

    turn : (p : Phase) → x.thread.phase ≡ p → Rests p → out_of_turn (sight c) x x.thread.phase ≡ 0
    turn phase.Ready f r = ap (out_of_turn (sight c) x) f
    turn phase.Over f r = ap (out_of_turn (sight c) x) f
    turn (phase.WaitPar a b) f r = ap (out_of_turn (sight c) x) f
    turn (phase.WaitJoin u) f r = ap (out_of_turn (sight c) x) f
    turn phase.Got f r = absurd r
    turn (phase.Taken w) f r = absurd r
    turn (phase.WaitCell w) f r = absurd r
    turn (phase.WaitLock m) f r = absurd r
    turn (phase.WaitDup m) f r = absurd r
    turn (phase.GotPar a b) f r = absurd r

    abbrev_sum : ℕ
    abbrev_sum = tot (loose_hop x.server (words_kept x.thread)) (followed (sight c).ground x.thread.number (path (sight c) x))

    gone : (p : Phase) → x.thread.phase ≡ p → is_got p ≡ false → x.thread.gift ≡ None
    gone p f q = no_gift x.thread.gift p q (subst (λ u. one (is_some x.thread.gift && not (is_got u)) ≡ 0) f g)

    lost_by : (p : Phase) → x.thread.phase ≡ p → is_got p ≡ false → has_followed (sight c) x p ≡ has_gift_there x.thread.gift (instr_of (sight c) x) → lost_place (sight c) x ≡ 0
    lost_by p f q has =
        ap (λ u. if_so (has_followed (sight c) x u) (tot (loose_hop x.server (words_kept x.thread)) (followed (sight c).ground x.thread.number (path (sight c) x)))) f
        ∙ ap (λ b. if_so b (tot (loose_hop x.server (words_kept x.thread)) (followed (sight c).ground x.thread.number (path (sight c) x)))) (has ∙ ap (λ u. has_gift_there u (instr_of (sight c) x)) (gone p f q))

    lost : (p : Phase) → x.thread.phase ≡ p → Rests p → lost_place (sight c) x ≡ 0
    lost phase.Ready f r = lost_by phase.Ready f refl refl
    lost phase.Over f r = lost_by phase.Over f refl refl
    lost (phase.WaitPar a b) f r = lost_by (phase.WaitPar a b) f refl refl
    lost (phase.WaitJoin u) f r = lost_by (phase.WaitJoin u) f refl refl
    lost phase.Got f r = absurd r
    lost (phase.Taken w) f r = absurd r
    lost (phase.WaitCell w) f r = absurd r
    lost (phase.WaitLock m) f r = absurd r
    lost (phase.WaitDup m) f r = absurd r
    lost (phase.GotPar a b) f r = absurd r

-- who waits for a home has followed its place
homes_fine : (c : Cluster) (x : Standing) → early x ≡ 0 → (p : Phase) → x.thread.phase ≡ p → in_walk p ≡ false → out_of_turn (sight c) x p ≡ 0 → lost_place (sight c) x ≡ 0 → Fine c x
homes_fine c x z p e still turn lost =
    let none : x.thread.passed ≡ 0 = not_walking p x.thread.passed still (subst (λ q. one (not (in_walk q) && not (x.thread.passed == 0)) ≡ 0) e z) in
    (ap (λ n. over_place (sight c).ground x.thread.number n (away (sight c) x.server) (written_place (path (sight c) x))) none ∙ none_passed (sight c) x.thread.number x.server (written_place (path (sight c) x)), ap (out_of_turn (sight c) x) e ∙ turn, lost)

-- WHAT ASKS ON ITS WAY

-- by its instruction and its thread
pub data Asking (y : ThreadState) (i : Instr) (h0 h : Hand) : Type 0 where
  by_write : (w : Lval) (d : ℕ) → WritesThrough i w d → Asking y i h0 h
  by_reading : (w : Lval) → Reads i w w.depth → path_of (Some i) y ≡ reads w → ((u : ThreadState) → path_of (Some i) u ≡ reads w) → read_stars w.depth h0 (in_slot w.slot) ≡ requested h → Asking y i h0 h
  by_share : (w : Lval) (d : ℕ) → w.depth ≡ suc d → i ≡ instr.Borrow w → Asking y i h0 h
  by_lend : (w : Lval) (d : ℕ) → w.depth ≡ suc d → i ≡ instr.BorrowMut w → Asking y i h0 h
  by_end : (sp : Spot) (v : Option Value) → access_of i y ≡ ending sp v → path_of (Some i) y ≡ paths_of.ending v → ((u : ThreadState) → (q : Option Value) × (path_of (Some i) u ≡ paths_of.ending q)) → MayEnd i → Asking y i h0 h

read_all : (w : Lval) (d : ℕ) (h : Hand) → prepare (Some (read_or_taken w d false)) h ≡ read_stars w.depth h (in_slot w.slot)
read_all w zero h = refl
read_all w (suc d) h = refl

pub no_request : {h : Hand} {a : Hand} {s : Spot} → ready a s ≡ requested h → ⊥
no_request e = absurd (cc e)

pub asking : (y : ThreadState) (i : Instr) (h0 h : Hand) → h0.thread ≡ y → prepare (access_of i y) h0 ≡ requested h → Asking y i h0 h
asking y (instr.Read w false) h0 h is e = by_reading w (copies refl) refl (λ u. refl) (sym (read_all w w.depth h0) ∙ e)
asking y (instr.Dup w) h0 h is e = by_reading w (dups refl) refl (λ u. refl) e
asking y (instr.Lock w) h0 h is e = by_reading w (locks refl) refl (λ u. refl) e
asking y (instr.Read w true) h0 h is e = by w.depth refl
  where
    by : (d : ℕ) → w.depth ≡ d → Asking y (instr.Read w true) h0 h
    by zero f = absurd (no_request (sym (ap (λ d. prepare (Some (read_or_taken w d true)) h0) f ∙ ap (λ d. read_stars d h0 (in_slot w.slot)) f) ∙ e))
    by (suc d) f = by_write w d (moves f)
asking y (instr.Borrow w) h0 h is e = by w.depth refl
  where
    by : (d : ℕ) → w.depth ≡ d → Asking y (instr.Borrow w) h0 h
    by zero f = absurd (no_request (sym (ap (λ d. Rattle.law_walks_others.specs.Below.server_model.Prepare.read_pointer w d h0) f) ∙ e))
    by (suc d) f = by_share w d f refl
asking y (instr.BorrowMut w) h0 h is e = by w.depth refl
  where
    by : (d : ℕ) → w.depth ≡ d → Asking y (instr.BorrowMut w) h0 h
    by zero f = absurd (no_request (sym (ap (λ d. Rattle.law_walks_others.specs.Below.server_model.Prepare.lend_pointer w d h0) f) ∙ e))
    by (suc d) f = by_lend w d f refl
asking y (instr.Assign w p) h0 h is e = by w.depth refl
  where
    by : (d : ℕ) → w.depth ≡ d → Asking y (instr.Assign w p) h0 h
    by zero f = by_end (in_slot w.slot) (slice_get y.slots w.slot) (ap (λ d. assigned w d y) f) (ap (assigning y.slots w) f) (λ u. (slice_get u.slots w.slot, ap (assigning u.slots w) f)) (an_assignment w p refl f)
    by (suc d) f = by_write w d (assigns p f)
asking y instr.Discard h0 h is e = by_end on_top (last_of y.temps) refl refl (λ u. (last_of u.temps, refl)) (a_discard refl)
asking y instr.DropSlot h0 h is e = by_end (in_slot (length y.slots - 1)) (last_of y.slots) refl refl (λ u. (last_of u.slots, refl)) (a_drop refl)
asking y (instr.Let p) h0 h is e = absurd (no_request e)
asking y (instr.Box p) h0 h is e = absurd (no_request e)
asking y (instr.Arith f a b) h0 h is e = absurd (no_request e)
asking y (instr.Print p) h0 h is e = absurd (no_request e)
asking y (instr.Spawn cs pc) h0 h is e = absurd (no_request e)
asking y (instr.Join p) h0 h is e = absurd (no_request e)
asking y (instr.Mutex p) h0 h is e = absurd (no_request e)
asking y instr.Unlock h0 h is e = absurd (no_request e)
asking y (instr.Par cs pc ds r) h0 h is e = absurd (no_request e)
asking y instr.ParEnd h0 h is e = absurd (no_request e)
asking y (instr.End p) h0 h is e = absurd (no_request e)

-- THE OWN THREAD

module _ (k c : Cluster) (v : EntryView) (t : ℕ) (f : Facts k c v t) where
  abbrev o : Own k c v t
  o = f.own

  abbrev after : HasPlaces c
  after = f.places

  abbrev s : Server
  s = o.server

  abbrev y : ThreadState
  y = o.thread

  abbrev i : Instr
  i = o.instruction

  abbrev z : Steps k o.number t s y i
  z = o.steps

  abbrev h0 : Hand
  h0 = record { work = begin_work s.rest; thread = y }

  abbrev x : Standing
  x = standing k o.number t s y i z

  abbrev it_now : Standing
  it_now = me k c v t o after

  -- where it asks for something no plain step is done
  pub leads_by : (h : Hand) → o.result ≡ wait_step h → (w : Lval) → LeadsAsItDid k c y.number w
  leads_by h is w = (let q = f in q.leads (o.done ∙ ap (λ (d : Stepped). d.names) is) x w (goes k o.number t s y i z))

  pub reads_fine : (w : Lval) → Reads i w w.depth → ((u : ThreadState) → path_of (Some i) u ≡ reads w) → (h : Hand) → prepare (access_of i y) h0 ≡ requested h → o.result ≡ wait_step h → read_stars w.depth h0 (in_slot w.slot) ≡ requested h → Fine c it_now
  reads_fine w r on_path h asked is stopped =
      let q = waits_at k c v t f.options o after w w.depth r h asked is (leads_by h is w) stopped in
      let j : ℕ = q.0 in
      let less : j < w.depth = q.1 in
      let wa = q.2 in
      let zz = z in
      let path_now : path (sight c) it_now ≡ reads w = ap (λ cs. path_of (slice_get cs o.result.hand.thread.pc) o.result.hand.thread) f.code ∙ ap (λ u. path_of (slice_get k.code u) o.result.hand.thread) wa.pc ∙ ap (λ u. path_of u o.result.hand.thread) zz.code ∙ on_path o.result.hand.thread in
      let first : FirstUnread (sight c) it_now (reads w) wa.awaited = record { number = j; at = read_at w j wa.awaited less wa.asks; unread = wa.unread; before = λ i2 b lt at. wa.before i2 lt b (asked_there w i2 b at) } in
      let turn : InTurn (sight c) it_now wa.awaited.word wa.awaited (path (sight c) it_now) = subst (InTurn (sight c) it_now wa.awaited.word wa.awaited) (sym path_now) (by_read w first) in
      let right = waits_right (sight c) it_now wa.awaited.word wa.awaited (turn_law.told (sight c) it_now wa.awaited.word wa.awaited turn) refl wa.sent_it in (
        ap (λ u. over_place (sight c).ground o.result.hand.thread.number o.result.hand.thread.passed (away (sight c) s.rest.number) (written_place u)) path_now,
        ap (out_of_turn (sight c) it_now) wa.phase_is ∙ right,
        ap (λ u. if_so (has_followed (sight c) it_now u) (tot (loose_hop s.rest.number (words_kept o.result.hand.thread)) (followed (sight c).ground o.result.hand.thread.number (path (sight c) it_now)))) wa.phase_is
            ∙ ap (λ u. if_so (waits_for_lent (sight c) it_now u wa.awaited.word) (tot (loose_hop s.rest.number (words_kept o.result.hand.thread)) (followed (sight c).ground o.result.hand.thread.number (path (sight c) it_now)))) path_now,
      )
    where
      asked_there : (w : Lval) (i2 : ℕ) (b : Rattle.law_walks_others.specs.Below.coherent_memory.Paths.Awaited) → AwaitsAt (sight c) it_now (reads w) i2 b → Rattle.law_walks_others.specs.Below.coherent_memory.Turn.IsAsked (sight c) it_now w i2 (to_read (sight c).options.colours) b
      asked_there _ _ _ (read_at w i2 b lt q) = q

  -- a place that is ready for a lock or a dup
  home_fine : (w : Lval) → Reads i w w.depth → ((u : ThreadState) → path_of (Some i) u ≡ reads w) → (a : Hand) (sp : Spot) → read_stars w.depth h0 (in_slot w.slot) ≡ ready a sp → (h : Hand) → AsksSo i h0 h → o.result ≡ wait_step h → early it_now ≡ 0
      → (p : Phase) → h.thread ≡ record a.thread { phase = p } → in_walk p ≡ false → out_of_turn (sight c) it_now p ≡ 0 → ((q : Path) → path (sight c) it_now ≡ q → has_followed (sight c) it_now p ≡ true) → Fine c it_now
  home_fine w r on_path a sp reached h asks is none p threads still turn has =
      let zz = z in
      let leads_so = leads_by h is w in
      let thread_is : o.result.hand.thread ≡ record a.thread { phase = p } = ap (λ (d : Stepped). d.hand.thread) is ∙ threads in
      let good = subst (Shows h0) reached (prepare_shows h0 (Some (ReadTo w)) (in_place s.rest.number s.events s.rest (others k zz.coherent.sound o.number s zz.here) (placed_here k zz.coherent.sound o.number s zz.here))) in
      let ready_so = good.0 in
      let pc : o.result.hand.thread.pc ≡ y.pc = ap (λ (u : ThreadState). u.pc) thread_is ∙ ap (λ (u : ThreadState). u.pc) ready_so.thread in
      let path_now : path (sight c) it_now ≡ reads w = ap (λ cs. path_of (slice_get cs o.result.hand.thread.pc) o.result.hand.thread) f.code ∙ ap (λ u. path_of (slice_get k.code u) o.result.hand.thread) pc ∙ ap (λ u. path_of u o.result.hand.thread) zz.code ∙ on_path o.result.hand.thread in
      let words : words_kept o.result.hand.thread ≡ words_kept h.thread = ap (λ (d : Stepped). words_kept d.hand.thread) is in
      let behind : tot (loose_hop s.rest.number (words_kept h.thread)) (hops (sight c).ground y.number w w.depth) ≡ 0 =
      hops_sum (loose_hop s.rest.number (words_kept h.thread)) (sight c).ground y.number w w.depth
      (behind_so k c v t o after w w.depth r h is leads_so (cell_stays k c v t o after w w.depth r h asks is) w.depth (omega arith) a sp reached (subst (λ (u : ThreadState). Grows a.thread u) (sym threads) (λ b. omega arith)) (λ i2 lt b e. ap (λ (u : ThreadState). slice_get u.slots b) threads)) in
      let all : tot (loose_hop s.rest.number (words_kept o.result.hand.thread)) (followed (sight c).ground o.result.hand.thread.number (path (sight c) it_now)) ≡ 0 =
      ap (λ q. tot (loose_hop s.rest.number (words_kept o.result.hand.thread)) (followed (sight c).ground o.result.hand.thread.number q)) path_now
      ∙ ap (λ q. tot (loose_hop s.rest.number (words_kept o.result.hand.thread)) (hops (sight c).ground q w w.depth)) (number_then k c v t o) ∙ ap (λ q. tot (loose_hop s.rest.number q) (hops (sight c).ground y.number w w.depth)) words ∙ behind in
      homes_fine c it_now none p (ap (λ (u : ThreadState). u.phase) thread_is) still turn (none_if (has_followed (sight c) it_now o.result.hand.thread.phase) all)
    where
      none_if : (b : Bool) {n : ℕ} → n ≡ 0 → if_so b n ≡ 0
      none_if true e = e
      none_if false e = refl

  pub write_fine : (w : Lval) (d : ℕ) → WritesThrough i w d → (h : Hand) → prepare (access_of i y) h0 ≡ requested h → o.result ≡ wait_step h → Fine c it_now
  write_fine w d thr h asked is = (
    through.passed_so k c v t f.code o after h asked is w d thr (leads_by h is w),
    through.turn_so k c v t f.code o after h asked is w d thr (leads_by h is w),
    through.lost_so k c v t f.code o after h asked is w d thr (leads_by h is w),
  )

  module _ (none : early it_now ≡ 0) (gift : early_gift it_now ≡ 0) where
    -- a lock, or a dup, that asks its home
    pub home_asks : (a h : Hand) (sp : Spot) → prepare (access_of i y) h0 ≡ ready a sp → AsksHome i a h → o.result ≡ wait_step h → Fine c it_now
    home_asks a h sp e asks is = by h asks is refl
      where
        by : (h2 : Hand) → AsksHome i a h2 → o.result ≡ wait_step h2 → h2 ≡ h → Fine c it_now
        by _ (a_lock w m q) is2 same =
            let access : access_of i y ≡ Some (ReadTo w) = ap (λ u. access_of u y) q in
            home_fine w (subst (λ u. Reads u w w.depth) (sym q) (locks refl)) (λ u. ap (λ b. path_of (Some b) u) q) a sp (sym (ap (λ u. prepare u h0) access) ∙ e) h (at_end a sp e asks) is none (phase.WaitLock m) (ap (λ (u : Hand). u.thread) (sym same)) refl refl (λ b g. refl)
        by _ (a_dup w m q) is2 same =
            let access : access_of i y ≡ Some (ReadTo w) = ap (λ u. access_of u y) q in
            home_fine w (subst (λ u. Reads u w w.depth) (sym q) (dups refl)) (λ u. ap (λ b. path_of (Some b) u) q) a sp (sym (ap (λ u. prepare u h0) access) ∙ e) h (at_end a sp e asks) is none (phase.WaitDup m) (ap (λ (u : Hand). u.thread) (sym same)) refl refl (λ b g. refl)
        by _ (a_join p u q) is2 same = rests_fine c it_now none gift (phase.WaitJoin u) (ap (λ (d : Stepped). d.hand.thread.phase) is2) tt
