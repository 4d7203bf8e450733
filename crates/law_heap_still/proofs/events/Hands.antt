-- What an answer changes of its thread: the thread is in the hand, and shows what it showed.
use Rattle.std.proofs.Common.{◌≡◌, ℕ, Bool, true, false, List, [], ◌∷◌, ◌++◌, Option, Some, None, refl, sym, ap, subst, ◌∙◌, arith}
use Rattle.std.specs.Bool.{⊤}
use Rattle.std.specs.Prelude.{slice_get, option_map}
use Rattle.law_counts_sums.specs.Below.fr_base.Lists.{is_in}
use Rattle.law_counts_sums.specs.Below.heap_partition.declared.value.Cell.{Cell}
use Rattle.law_counts_sums.specs.Below.read_cache.Cache.{Copy, can_fill, fill, can_pin, pin}
use Rattle.law_counts_sums.specs.Below.thread_state.View.{ThreadState, is_over}
use Rattle.law_counts_sums.specs.Below.thread_state.declared.phase.Phase.{Phase}
use Rattle.law_counts_sums.specs.Below.thread_state.declared.phase.Phase.TheVariants as phase
use Rattle.law_counts_sums.specs.Below.server_msgs.declared.message.Message.TheVariants as message
use Rattle.law_counts_sums.specs.Below.journal.declared.act.Act.TheVariants as act
use Rattle.law_counts_sums.specs.Below.server_model.declared.event.What.TheVariants.{Deliver}
use Rattle.law_counts_sums.specs.Below.server_model.Servers.{Rest, Server, Cluster}
use Rattle.law_counts_sums.specs.Below.server_model.Work.{Hand, Site, note, with_cache, working, with_phase, thread_in, set_thread, put_back, at_thread, then_some, used_once}
use Rattle.law_counts_sums.specs.Below.server_model.Objects.{waits_for_cell, filled, deliver_fetched}
use Rattle.law_counts_sums.specs.Below.server_model.Events.{received, does}
use Rattle.law_counts_sums.specs.Below.coherent_memory.Things.{Thing, stands, sent, thread_things, message_things}
use Rattle.law_counts_sums.specs.Below.coherent_memory.OneHeap.{two_in}
use Rattle.law_counts_sums.specs.Laws.{Gives}
use Rattle.law_counts_sums.proofs.Trades.{tot-append}
use Rattle.law_counts_sums.proofs.Results.{over_gives, map_gives, test_gives, given_by, weaker}
use Rattle.law_counts_sums.proofs.Bags.{all_standing, rest_things, thread_number, tot-without, tot-set}
use Rattle.law_heap_still.specs.events.Shows.{Sign, nothing, a_thread, has_both, shown_thread, sign_of, ShowAlike}
use Rattle.law_heap_still.proofs.events.Sites.{shown, site_things, Still, ServerStill, deliveries}
use Rattle.law_heap_still.proofs.events.Arrivals.{thread_parts, cache_shown}

-- server n with a thread in the hand
abbrev pub hand_things : ℕ → Hand → List Thing
hand_things n h = thread_things n false h.thread ++ rest_things n 0 h.work.rest

-- another hand shows the same, with these things beside the first
pub record HandStill (gone : List Thing) (h h2 : Hand) : Type 0 where
  pub number : h2.work.rest.number ≡ h.work.rest.number
  pub thread : h2.thread.number ≡ h.thread.number
  pub alike : ShowAlike (gone ++ hand_things h.work.rest.number h) (hand_things h.work.rest.number h2)

pub then_hand : (gone : List Thing) (h h1 h2 : Hand) → HandStill gone h h1 → HandStill [] h1 h2 → HandStill gone h h2
then_hand gone h h1 h2 a b =
    let there : ShowAlike (hand_things h.work.rest.number h1) (hand_things h.work.rest.number h2) = subst (λ m. ShowAlike (hand_things m h1) (hand_things m h2)) a.number b.alike in
    record { number = b.number ∙ a.number; thread = b.thread ∙ a.thread; alike = λ w z. a.alike w z ∙ there w z }

-- the hand is put back where its thread stood
pub put_still : (gone : List Thing) (t : ℕ) (x : Site) (y : ThreadState) → thread_in x.threads t ≡ Some y → (h : Hand) → HandStill gone (record { work = x.work; thread = y }) h → Still gone x (put_back x.threads h)
put_still gone t x y q h s w z =
    let g : Thing → ℕ = λ u. w (sign_of u) in
    let n = x.work.rest.number in
    let r = rest_things n 0 x.work.rest in
    let r2 = rest_things n 0 h.work.rest in
    let ts = set_thread x.threads h.thread in
    let moved : shown w (site_things (put_back x.threads h)) ≡ shown w (all_standing n ts ++ r2) = ap (λ m. shown w (all_standing m ts ++ rest_things m 0 h.work.rest)) s.number in
    omega (
      arith,
      moved,
      s.alike w z,
      tot-without n g x.threads t y q,
      tot-set n g x.threads t y h.thread q (s.thread ∙ thread_number x.threads t y q),
      tot-append g gone (all_standing n x.threads ++ r),
      tot-append g (all_standing n x.threads) r,
      tot-append g (all_standing n ts) r2,
      tot-append g gone (thread_things n false y ++ r),
      tot-append g (thread_things n false y) r,
      tot-append g (thread_things n false h.thread) r2,
    )

-- so it does what its hand does, and what is known where it does anything
pub thread_knows : (gone : List Thing) (D : Type 0) (t : ℕ) (f : Hand → Option Hand) (x : Site)
    → ((y : ThreadState) → thread_in x.threads t ≡ Some y → Gives (λ h. HandStill gone (record { work = x.work; thread = y }) h × D) (f (record { work = x.work; thread = y })))
    → Gives (λ y. Still gone x y × D) (at_thread t f x)
thread_knows gone D t f x go = by (thread_in x.threads t) refl
  where
    by : (o : Option ThreadState) → thread_in x.threads t ≡ o
        → Gives (λ y. Still gone x y × D) (then_some (option_map (λ y. record { work = x.work; thread = y }) o) (λ h. option_map (put_back x.threads) (f h)))
    by None q = tt
    by (Some y) q =
        over_gives (λ h. HandStill gone (record { work = x.work; thread = y }) h × D) (λ y. Still gone x y × D) (f (record { work = x.work; thread = y })) (put_back x.threads) (go y q)
        (λ h s. (put_still gone t x y q h s.0, s.1))

pub thread_still : (gone : List Thing) (t : ℕ) (f : Hand → Option Hand) (x : Site)
    → ((y : ThreadState) → thread_in x.threads t ≡ Some y → Gives (HandStill gone (record { work = x.work; thread = y })) (f (record { work = x.work; thread = y })))
    → Gives (Still gone x) (at_thread t f x)
thread_still gone t f x go =
    weaker (λ y. Still gone x y × ⊤) (Still gone x) (at_thread t f x)
    (thread_knows gone ⊤ t f x (λ y q. weaker (HandStill gone (record { work = x.work; thread = y })) (λ h. HandStill gone (record { work = x.work; thread = y }) h × ⊤) (f (record { work = x.work; thread = y })) (go y q) (λ h s. (s, tt)))) (λ y s. s.0)

-- A PHASE THAT SHOWS NOTHING

-- it hasn't ended, and has no pair
pub record IsQuiet (p : Phase) : Type 0 where
  pub goes_on : is_over p ≡ false
  pub alone : two_in p ≡ None
  pub unpaired : has_both p ≡ false

pub quiet_shown : (w : Sign → ℕ) (n : ℕ) (y : ThreadState) (p : Phase) → IsQuiet y.phase → IsQuiet p → w (sign_of (stands n false y)) ≡ w (sign_of (stands n false (record y { phase = p })))
quiet_shown w n y p a b = all y.phase a ∙ sym (all p b)
  where
    shape : Bool → Option (ℕ × ℕ) → Bool → ℕ
    shape i j l = w (a_thread (record (shown_thread y) { is_over = i; pair = j }) l)

    all : (q : Phase) → IsQuiet q → shape (is_over q) (two_in q) (has_both q) ≡ shape false None false
    all q c = ap (λ i. shape i (two_in q) (has_both q)) c.goes_on ∙ ap (λ j. shape false j (has_both q)) c.alone ∙ ap (shape false None) c.unpaired

pub got_quiet : IsQuiet phase.Got
got_quiet = record { goes_on = refl; alone = refl; unpaired = refl }

pub cell_quiet : (p : Phase) (v : ℕ) → waits_for_cell p v ≡ true → IsQuiet p
cell_quiet (phase.WaitCell u) v e = record { goes_on = refl; alone = refl; unpaired = refl }
cell_quiet phase.Ready v e = absurd (cc e)
cell_quiet phase.Got v e = absurd (cc e)
cell_quiet (phase.Taken u) v e = absurd (cc e)
cell_quiet (phase.WaitLock m) v e = absurd (cc e)
cell_quiet (phase.WaitDup m) v e = absurd (cc e)
cell_quiet (phase.WaitJoin u) v e = absurd (cc e)
cell_quiet (phase.WaitPar a b) v e = absurd (cc e)
cell_quiet (phase.GotPar a b) v e = absurd (cc e)
cell_quiet phase.Over v e = absurd (cc e)

-- another phase that shows nothing
pub phased : (h : Hand) (p : Phase) → IsQuiet h.thread.phase → IsQuiet p → HandStill [] h (with_phase p h)
phased h p a b = record {
  number = refl;
  thread = refl;
  alike = λ w z.
      let f : Thing → ℕ = λ x. w (sign_of x) in
      let n = h.work.rest.number in
      let y2 : ThreadState = record h.thread { phase = p } in
      omega (arith, thread_parts w z n false h.thread, thread_parts w z n false y2, quiet_shown w n h.thread p a b, tot-append f (thread_things n false h.thread) (rest_things n 0 h.work.rest), tot-append f (thread_things n false y2) (rest_things n 0 h.work.rest));
}

-- the walk of a thread and its phase change, and copies
pub walk_still : (gone : List Thing) → ((w : Sign → ℕ) → w nothing ≡ 0 → shown w gone ≡ 0) → (h : Hand) (cs : List Copy) (walk : List ℕ) (p : Phase) (r2 : Rest) → r2 ≡ record h.work.rest { cache = cs } → IsQuiet h.thread.phase → IsQuiet p
    → (h2 : Hand) → h2.work.rest ≡ r2 → h2.thread ≡ record h.thread { walk = walk; phase = p } → HandStill gone h h2
walk_still gone none h cs walk p r2 e a b h2 f g = record {
  number = ap (λ (r : Rest). r.number) (f ∙ e);
  thread = ap (λ (y : ThreadState). y.number) g;
  alike = λ w z.
      let v : Thing → ℕ = λ u. w (sign_of u) in
      let n = h.work.rest.number in
      let y2 : ThreadState = record h.thread { walk = walk; phase = p } in
      let there : shown w (hand_things n h2) ≡ shown w (thread_things n false y2 ++ rest_things n 0 (record h.work.rest { cache = cs })) =
      ap (λ (y : ThreadState). shown w (thread_things n false y ++ rest_things n 0 h2.work.rest)) g ∙ ap (λ r. shown w (thread_things n false y2 ++ rest_things n 0 r)) (f ∙ e) in
      omega (
        arith,
        there,
        none w z,
        thread_parts w z n false h.thread,
        thread_parts w z n false y2,
        quiet_shown w n h.thread p a b,
        cache_shown h.work.rest cs w z,
        tot-append v gone (thread_things n false h.thread ++ rest_things n 0 h.work.rest),
        tot-append v (thread_things n false h.thread) (rest_things n 0 h.work.rest),
        tot-append v (thread_things n false y2) (rest_things n 0 (record h.work.rest { cache = cs })),
      );
}

-- A COPY COMES

came : (n v : ℕ) (c : Cell) (t : ℕ) (h : Hand) → Gives (HandStill (sent n (message.Fetched v c t) ∷ []) h) (deliver_fetched v c h)
came n v c t h = test_gives (HandStill gone h) (waits_for_cell h.thread.phase v) _ (λ on. map_gives (HandStill gone h) (filled v c h) _ (λ h2 q. by on h2 q))
  where
    gone : List Thing
    gone = sent n (message.Fetched v c t) ∷ []

    quiet : (w : Sign → ℕ) → w nothing ≡ 0 → shown w (sent n (message.Fetched v c t) ∷ []) ≡ 0
    quiet w z = omega (arith, z)

    with_copy : Hand
    with_copy = working (with_cache (fill h.work.rest.cache v c)) h

    -- what using the copy leaves
    Used : Hand → Type 0
    Used h2 = (cs : List Copy) × (walk : List ℕ) × (h2.work.rest ≡ record h.work.rest { cache = cs }) × (h2.thread ≡ record h.thread { walk = walk })

    used : (b : Bool) → Gives Used (used_once v b (working (with_cache (fill h.work.rest.cache v c)) h))
    used true = (fill h.work.rest.cache v c, h.thread.walk, refl, refl)
    used false = test_gives Used (can_pin (fill h.work.rest.cache v c) v) _ (λ on. (pin (fill h.work.rest.cache v c) v, h.thread.walk ++ v ∷ [], refl, refl))

    filled_used : Gives Used (filled v c h)
    filled_used = test_gives Used (can_fill h.work.rest.cache v c) _ (λ on. used (is_in v h.thread.walk))

    by : waits_for_cell h.thread.phase v ≡ true → (h2 : Hand) → filled v c h ≡ Some h2 → HandStill gone h (with_phase phase.Got (working (note (act.Fill c.object v)) h2))
    by on h2 q =
        let u = given_by Used (filled v c h) h2 filled_used q in
        walk_still (sent n (message.Fetched v c t) ∷ []) quiet h u.0 u.1 phase.Got (record h.work.rest { cache = u.0 }) refl (cell_quiet h.thread.phase v on) got_quiet (with_phase phase.Got (working (note (act.Fill c.object v)) h2)) u.2
        (ap (λ (y : ThreadState). record y { phase = phase.Got }) u.3)

pub copies : (k : Cluster) (s : Server) (i v : ℕ) (c : Cell) (t : ℕ) → slice_get s.rest.inbox i ≡ Some (message.Fetched v c t) → Gives (ServerStill k s) (does k.code k.options s (Deliver i))
copies k s i v c t q = deliveries k s i (message.Fetched v c t) q (thread_still (message_things s.rest.number (message.Fetched v c t)) t (deliver_fetched v c) (received i s) (λ y e. came s.rest.number v c t (record { work = (received i s).work; thread = y })))
