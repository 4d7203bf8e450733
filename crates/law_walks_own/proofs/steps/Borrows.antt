-- A borrow that asks for something waits in turn: for the first pointer before the last that it can't read, or for the last one in its own way.
use Rattle.std.proofs.Common.{◌≡◌, ℕ, zero, suc, ◌+◌, ◌<◌, ◌==◌, ◌&&◌, nat_lt, Bool, true, false, if◌then◌else◌, [], ◌∷◌, Option, Some, None, refl, sym, ap, subst, ◌∙◌, arith}
use Rattle.law_walks_others.specs.Below.fr_base.declared.place.Lval.{Lval}
use Rattle.law_walks_others.specs.Below.fr_base.declared.instruction.Instr.{Instr}
use Rattle.law_walks_others.specs.Below.fr_base.declared.instruction.Instr.TheVariants as instr
use Rattle.law_walks_others.specs.Below.global_addr.Words.{colour_of, server_of, next_word}
use Rattle.law_walks_others.specs.Below.heap_partition.declared.value.BoxPtr.{BoxPtr}
use Rattle.law_walks_others.specs.Below.heap_partition.declared.value.Owned.TheVariants as owned
use Rattle.law_walks_others.specs.Below.journal.View.{EntryView}
use Rattle.law_walks_others.specs.Below.mut_borrow.Refs.{cleaned_answer}
use Rattle.law_walks_others.specs.Below.mut_borrow.declared.mutable.Cleaned.TheVariants as cleaned
use Rattle.law_walks_others.specs.Below.mut_borrow.declared.mutable.MutRef.{MutRef}
use Rattle.law_walks_others.specs.Below.place_walk.declared.hop.Hop.TheVariants as jump
use Rattle.law_walks_others.specs.Below.thread_state.View.{ThreadState}
use Rattle.law_walks_others.specs.Below.thread_state.declared.value.Value.{Value}
use Rattle.law_walks_others.specs.Below.thread_state.declared.value.Value.TheVariants as value
use Rattle.law_walks_others.specs.Below.server_model.Servers.{Server, Cluster}
use Rattle.law_walks_others.specs.Below.server_model.Work.{Hand, then_some}
use Rattle.law_walks_others.specs.Below.server_model.NewWords.{issue_tint, issue_renewal}
use Rattle.law_walks_others.specs.Below.server_model.Places.{Spot, in_slot, value_at, load_at, put_word, pointer_of}
use Rattle.law_walks_others.specs.Below.server_model.Prepare.{Prepared, ready, requested, nothing, and_then, ready_at, box_of, cleaned_by, clean_value, ask_object, is_taken, lend_by, lend_value, access_of, prepare, read_stars, read_pointer, lend_pointer}
use Rattle.law_walks_others.specs.Below.server_model.Events.{begin_work, wait_step}
use Rattle.law_walks_others.specs.Below.coherent_memory.Follow.{Standing}
use Rattle.law_walks_others.specs.Below.coherent_memory.Paths.{Path, shares, lends, Awaited, to_read, to_write, to_clean}
use Rattle.law_walks_others.specs.Below.coherent_memory.Sight.{sight}
use Rattle.law_walks_others.specs.Below.coherent_memory.Turn.{IsAsked, InTurn, by_share as in_share, by_lend as in_lend, AwaitsAt, before_share, at_share, before_lend, at_lend}
use Rattle.law_walks_others.specs.Below.coherent_memory.Walking.{path, out_of_turn}
use Rattle.law_walks_others.proofs.Below.coherent_memory.Turn.{turn_law}
use Rattle.law_words_ends.specs.Below.law_words_kept.reads.Reading as reading
use Rattle.law_words_ends.specs.Below.law_words_kept.reads.Reading.{Reads}
use Rattle.law_walks_own.proofs.steps.Own.{Own, me}
use Rattle.law_walks_own.proofs.steps.ReadWalk.{reaches}
use Rattle.law_walks_own.proofs.steps.ReadTurns.{WaitsAt, waits_at, pulls, spent_here}
use Rattle.law_walks_own.proofs.steps.Asked.{waits_right}
use Rattle.law_walks_own.proofs.steps.OwnSteps.{Facts, leads_by}

-- WHAT THE LAST STAR ASKS FOR

asked_is : {a b : Hand} → requested a ≡ requested b → b ≡ a
asked_is e = cc

no_request : (s : Spot) (o : Option Hand) (h2 : Hand) → ready_at s o ≡ requested h2 → ⊥
no_request s None h2 e = absurd (cc e)
no_request s (Some h) h2 e = absurd (cc e)

-- a reference without another colour, to an object elsewhere
pub record CleansBy (q : MutRef) (h h2 : Hand) : Type 0 where
  pub dirty : q.dirty ≡ true
  pub below : nat_lt (colour_of q.word) h.work.rest.partition.limit ≡ true
  pub last : nat_lt (colour_of q.word + 1) h.work.rest.partition.limit ≡ false
  pub away : (server_of q.word == h.work.rest.number) ≡ false
  pub asked : h2 ≡ ask_object (box_of q) h

clean_asks : (sp : Spot) (q : MutRef) (h h2 : Hand) → clean_value sp (Some (value.Mut q)) h ≡ requested h2 → CleansBy q h h2
clean_asks sp q h h2 e = by_limit (nat_lt (colour_of q.word) h.work.rest.partition.limit) refl e
  where
    limit : ℕ
    limit = h.work.rest.partition.limit

    by_server : q.dirty ≡ true → nat_lt (colour_of q.word) h.work.rest.partition.limit ≡ true → nat_lt (colour_of q.word + 1) h.work.rest.partition.limit ≡ false → (b : Bool) → (server_of q.word == h.work.rest.number) ≡ b
        → (if b then ready_at sp (then_some (issue_renewal (box_of q) h.work) (λ n. put_word sp n h)) else requested (ask_object (box_of q) h)) ≡ requested h2 → CleansBy q h h2
    by_server d l m true f g = absurd (no_request sp (then_some (issue_renewal (box_of q) h.work) (λ n. put_word sp n h)) h2 g)
    by_server d l m false f g = record { dirty = d; below = l; last = m; away = f; asked = asked_is g }

    by_colour : q.dirty ≡ true → nat_lt (colour_of q.word) h.work.rest.partition.limit ≡ true → (b : Bool) → nat_lt (colour_of q.word + 1) h.work.rest.partition.limit ≡ b → cleaned_by (if b then cleaned.Tinted (next_word q.word) else cleaned.MustRenew) sp q h ≡ requested h2 → CleansBy q h h2
    by_colour d l true f g = absurd (no_request sp (put_word sp (issue_tint (box_of q) h.work) h) h2 g)
    by_colour d l false f g = by_server d l f (server_of q.word == h.work.rest.number) refl g

    by_dirty : nat_lt (colour_of q.word) h.work.rest.partition.limit ≡ true → (b : Bool) → q.dirty ≡ b
        → cleaned_by (if b then (if nat_lt (colour_of q.word + 1) h.work.rest.partition.limit then cleaned.Tinted (next_word q.word) else cleaned.MustRenew) else cleaned.Same) sp q h ≡ requested h2 → CleansBy q h h2
    by_dirty l true f g = by_colour f l (nat_lt (colour_of q.word + 1) h.work.rest.partition.limit) refl g
    by_dirty l false f g = absurd (cc g)

    by_limit : (b : Bool) → nat_lt (colour_of q.word) h.work.rest.partition.limit ≡ b → (if b then cleaned_by (cleaned_answer h.work.rest.partition.limit q) sp q h else nothing) ≡ requested h2 → CleansBy q h h2
    by_limit true f g = by_dirty f q.dirty refl g
    by_limit false f g = absurd (cc g)

-- the value there, where it is cleaned
pub clean_value_asks : (sp : Spot) (v : Option Value) (h h2 : Hand) → clean_value sp v h ≡ requested h2 → (q : MutRef) × (v ≡ Some (value.Mut q)) × CleansBy q h h2
clean_value_asks sp (Some (value.Mut q)) h h2 e = (q, refl, clean_asks sp q h h2 e)
clean_value_asks sp None h h2 e = absurd (cc e)
clean_value_asks sp (Some value.Gone) h h2 e = absurd (cc e)
clean_value_asks sp (Some (value.Own u)) h h2 e = absurd (cc e)
clean_value_asks sp (Some (value.SharedSlot j)) h h2 e = absurd (cc e)
clean_value_asks sp (Some (value.MutSlot j)) h h2 e = absurd (cc e)
clean_value_asks sp (Some (value.Shared u)) h h2 e = absurd (cc e)
clean_value_asks sp (Some (value.Held u)) h h2 e = absurd (cc e)

-- an object that is lent
pub record Lends (v : Option Value) (h h2 : Hand) : Type 0 where
  pub pointed : Value
  pub pointer : BoxPtr
  pub is : v ≡ Some pointed
  pub points : pointer_of pointed ≡ Some pointer
  pub awaited : to_write (Some pointed) ≡ record { word = pointer.word; object = pointer.object; comes = true; by_copy = false } ∷ []
  pub away : (server_of pointer.word == h.work.rest.number) ≡ false
  pub asked : h2 ≡ ask_object pointer h

pub lend_asks : (sp : Spot) (v : Option Value) (h h2 : Hand) → lend_value sp v h ≡ requested h2 → Lends v h h2
lend_asks sp None h h2 e = absurd (cc e)
lend_asks sp (Some (value.Own (owned.Box p))) h h2 e = by (server_of p.word == h.work.rest.number) refl e
  where
    by_taken : (server_of p.word == h.work.rest.number) ≡ false → (b : Bool) → (if b then ready h sp else requested (ask_object p h)) ≡ requested h2 → Lends (Some (value.Own (owned.Box p))) h h2
    by_taken f true g = absurd (cc g)
    by_taken f false g = record { pointed = value.Own (owned.Box p); pointer = p; is = refl; points = refl; awaited = refl; away = f; asked = asked_is g }

    by : (b : Bool) → (server_of p.word == h.work.rest.number) ≡ b → lend_by sp (value.Own (owned.Box p)) (Some (if b then jump.NeedTint p.word else jump.NeedMove p.word)) h ≡ requested h2 → Lends (Some (value.Own (owned.Box p))) h h2
    by true f g = absurd (cc g)
    by false f g = by_taken f (is_taken h.thread.phase) g
lend_asks sp (Some (value.Mut q)) h h2 e = by (server_of q.word == h.work.rest.number) refl e
  where
    by_taken : (server_of q.word == h.work.rest.number) ≡ false → (b : Bool) → (if b then ready h sp else requested (ask_object (box_of q) h)) ≡ requested h2 → Lends (Some (value.Mut q)) h h2
    by_taken f true g = absurd (cc g)
    by_taken f false g = record { pointed = value.Mut q; pointer = box_of q; is = refl; points = refl; awaited = refl; away = f; asked = asked_is g }

    by : (b : Bool) → (server_of q.word == h.work.rest.number) ≡ b → lend_by sp (value.Mut q) (Some (if b then jump.AtCell q.word else jump.NeedMove q.word)) h ≡ requested h2 → Lends (Some (value.Mut q)) h h2
    by true f g = absurd (cc g)
    by false f g = by_taken f (is_taken h.thread.phase) g
lend_asks sp (Some (value.MutSlot j)) h h2 e = absurd (cc e)
lend_asks sp (Some value.Gone) h h2 e = absurd (cc e)
lend_asks sp (Some (value.Own owned.Nothing)) h h2 e = absurd (cc e)
lend_asks sp (Some (value.Own owned.Unit)) h h2 e = absurd (cc e)
lend_asks sp (Some (value.Own (owned.Int j))) h h2 e = absurd (cc e)
lend_asks sp (Some (value.Own (owned.Mutex j))) h h2 e = absurd (cc e)
lend_asks sp (Some (value.Own (owned.Task j))) h h2 e = absurd (cc e)
lend_asks sp (Some (value.SharedSlot j)) h h2 e = absurd (cc e)
lend_asks sp (Some (value.Shared u)) h h2 e = absurd (cc e)
lend_asks sp (Some (value.Held u)) h h2 e = absurd (cc e)

-- where the walk stops, or what is behind it
pub split : (p : Prepared) (go : Hand → Spot → Prepared) (h : Hand) (P : Type 0) → and_then go p ≡ requested h → (p ≡ requested h → P) → ((a : Hand) (sp : Spot) → p ≡ ready a sp → go a sp ≡ requested h → P) → P
split (ready a sp) go h P e f g = g a sp refl e
split (requested a) go h P e f g = f e
split nothing go h P e f g = absurd (cc e)

spent_list : (colours : ℕ) (q : MutRef) → q.dirty ≡ true → (colour_of q.word + 1 == colours) ≡ true → to_clean colours (Some (value.Mut q)) ≡ record { word = q.word; object = q.object; comes = true; by_copy = false } ∷ []
spent_list colours q d e =
    ap (λ b. if b && (colour_of q.word + 1 == colours) then record { word = q.word; object = q.object; comes = true; by_copy = false } ∷ [] else []) d ∙ ap (λ b. if b then record { word = q.word; object = q.object; comes = true; by_copy = false } ∷ [] else []) e

module _ (k c : Cluster) (v : EntryView) (t : ℕ) (f : Facts k c v t) (h : Hand) (asked : prepare (access_of f.own.instruction f.own.thread) (record { work = begin_work f.own.server.rest; thread = f.own.thread }) ≡ requested h) (is : f.own.result ≡ wait_step h) where
  abbrev o : Own k c v t
  o = f.own

  abbrev s : Server
  s = o.server

  abbrev y : ThreadState
  y = o.thread

  abbrev i : Instr
  i = o.instruction

  abbrev h0 : Hand
  h0 = record { work = begin_work s.rest; thread = y }

  abbrev it_now : Standing
  it_now = me k c v t o f.places

  abbrev Right : Type 0
  Right = out_of_turn (sight c) it_now o.result.hand.thread.phase ≡ 0

  abbrev Waits : (w : Lval) (m : ℕ) → Reads i w m → (Option Value → Rattle.std.proofs.Common.List Awaited) → ℕ → Type 0
  Waits w m r g j = WaitsAt k c v t f.options o f.places w m r h asked is (leads_by k c v t f h is w) g j

  -- what is waited for so is waited for in turn
  right : (w : Lval) (m : ℕ) (r : Reads i w m) (g : Option Value → Rattle.std.proofs.Common.List Awaited) (j : ℕ) (wa : Waits w m r g j) (p : Path) → path (sight c) it_now ≡ p → InTurn (sight c) it_now wa.awaited.word wa.awaited p → Right
  right w m r g j wa p path_now turn =
      ap (out_of_turn (sight c) it_now) wa.phase_is
      ∙ waits_right (sight c) it_now wa.awaited.word wa.awaited (turn_law.told (sight c) it_now wa.awaited.word wa.awaited (subst (InTurn (sight c) it_now wa.awaited.word wa.awaited) (sym path_now) turn)) refl wa.sent_it

  module _ (w : Lval) (d : ℕ) (deep : w.depth ≡ suc d) where
    lt : d < w.depth
    lt = omega (arith, deep)

    -- A SHARED BORROW

    before_shared : (i2 : ℕ) → i2 < d → (b : Awaited) → AwaitsAt (sight c) it_now (shares w) i2 b → IsAsked (sight c) it_now w i2 (to_read (sight c).options.colours) b
    before_shared _ less _ (before_share w i2 b l q) = q
    before_shared _ less _ (at_share w i2 b l q) = absurd (omega (arith, l, less, deep))

    pub shares_right : i ≡ instr.Borrow w → path (sight c) it_now ≡ shares w → Right
    shares_right e path_now =
        split (read_stars d h0 (in_slot w.slot)) (λ h2 sp. clean_value sp (value_at h2 sp) (load_at sp h2)) h Right (sym (ap (λ u. prepare (access_of u y) h0) e ∙ ap (λ u. read_pointer w u h0) deep) ∙ asked)
        (λ stopped.
        let q = waits_at k c v t f.options o f.places w d r h asked is (leads_by k c v t f h is w) stopped in
        let j : ℕ = q.0 in
        let less : j < d = q.1 in
        let wa = q.2 in
        right w d r (to_read (sight c).options.colours) j wa (shares w) path_now
        (in_share w (record { number = j; at = before_share w j wa.awaited (omega (arith, less, deep)) wa.asks; unread = wa.unread; before = λ i2 b l at. wa.before i2 l b (before_shared i2 (omega (arith, l, less)) b at) })))
        (λ a sp reached cleans.
        let z = o.steps in
        let at_it = reaches k o.number t s y i z w d r d (omega arith) a sp reached in
        let q = clean_value_asks sp (value_at a sp) (load_at sp a) h cleans in
        let by = q.2 in
        let awaits = spent_list (sight c).options.colours q.0 by.dirty (spent_here k c v t f.options o f.places w d r h asked is (leads_by k c v t f h is w) d (omega arith) lt a sp reached at_it.0 at_it.1 at_it.2 at_it.3 q.0 by.below by.last) in
        let wa = pulls k c v t f.options o f.places w d r h asked is (leads_by k c v t f h is w) d (omega arith) lt a sp reached at_it.0 at_it.1 at_it.2 at_it.3 (to_clean (sight c).options.colours) (value.Mut q.0) (box_of q.0) awaits refl q.1 by.away by.asked in
        right w d r (to_clean (sight c).options.colours) d wa (shares w) path_now
        (in_share w (record { number = d; at = at_share w d wa.awaited (sym deep) wa.asks; unread = wa.unread; before = λ i2 b l at. wa.before i2 l b (before_shared i2 l b at) })))
      where
        r : Reads i w d
        r = subst (λ u. Reads u w d) (sym e) (reading.shares deep)

    -- A MUTABLE BORROW

    before_lent : (i2 : ℕ) → i2 < d → (b : Awaited) → AwaitsAt (sight c) it_now (lends w) i2 b → IsAsked (sight c) it_now w i2 (to_read (sight c).options.colours) b
    before_lent _ less _ (before_lend w i2 b l q) = q
    before_lent _ less _ (at_lend w i2 b l q) = absurd (omega (arith, l, less, deep))

    pub lends_right : i ≡ instr.BorrowMut w → path (sight c) it_now ≡ lends w → Right
    lends_right e path_now =
        split (read_stars d h0 (in_slot w.slot)) (λ h2 sp. lend_value sp (value_at h2 sp) (load_at sp h2)) h Right (sym (ap (λ u. prepare (access_of u y) h0) e ∙ ap (λ u. lend_pointer w u h0) deep) ∙ asked)
        (λ stopped.
        let q = waits_at k c v t f.options o f.places w d r h asked is (leads_by k c v t f h is w) stopped in
        let j : ℕ = q.0 in
        let less : j < d = q.1 in
        let wa = q.2 in
        right w d r (to_read (sight c).options.colours) j wa (lends w) path_now
        (in_lend w (record { number = j; at = before_lend w j wa.awaited (omega (arith, less, deep)) wa.asks; unread = wa.unread; before = λ i2 b l at. wa.before i2 l b (before_lent i2 (omega (arith, l, less)) b at) })))
        (λ a sp reached asks.
        let z = o.steps in
        let at_it = reaches k o.number t s y i z w d r d (omega arith) a sp reached in
        let q = lend_asks sp (value_at a sp) (load_at sp a) h asks in
        let wa = pulls k c v t f.options o f.places w d r h asked is (leads_by k c v t f h is w) d (omega arith) lt a sp reached at_it.0 at_it.1 at_it.2 at_it.3 to_write q.pointed q.pointer q.awaited q.points q.is q.away q.asked in
        right w d r to_write d wa (lends w) path_now
        (in_lend w (record { number = d; at = at_lend w d wa.awaited (sym deep) wa.asks; unread = wa.unread; before = λ i2 b l at. wa.before i2 l b (before_lent i2 l b at) })))
      where
        r : Reads i w d
        r = subst (λ u. Reads u w d) (sym e) (reading.lends deep)
