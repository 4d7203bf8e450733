-- Where each pointer of a place that is read is at hand, nothing is asked for.
use Rattle.std.proofs.Common.{◌≡◌, ℕ, zero, suc, ◌+◌, ◌≤◌, ◌<◌, ◌==◌, ◌&&◌, ◌||◌, not, is_some, Bool, true, false, if◌then◌else◌, List, [], ◌∷◌, Option, Some, None, refl, sym, ap, subst, ◌∙◌, arith}
use Rattle.std.specs.Bool.{⊤}
use Rattle.law_results_reads.specs.Below.fr_base.Lists.{is_in}
use Rattle.law_results_reads.specs.Below.fr_base.declared.place.Lval.{Lval}
use Rattle.law_results_reads.specs.Below.fr_base.declared.instruction.Instr.{Instr}
use Rattle.law_results_reads.specs.Below.global_addr.Words.{server_of}
use Rattle.law_results_reads.specs.Below.heap_partition.declared.value.Owned.TheVariants as owned
use Rattle.law_results_reads.specs.Below.mut_borrow.declared.mutable.MutRef.{MutRef}
use Rattle.law_results_reads.specs.Below.migration.Packing.{used_words}
use Rattle.law_results_reads.specs.Below.place_walk.declared.hop.Hop.{Hop}
use Rattle.law_results_reads.specs.Below.place_walk.declared.hop.Hop.TheVariants as hop
use Rattle.law_results_reads.specs.Below.place_walk.Hops.{by_copy, clean_hop, dirty_hop, read_hop}
use Rattle.law_results_reads.specs.Below.read_cache.Cache.{Copy, copy_of, is_cached, users, users_in}
use Rattle.law_results_reads.specs.Below.thread_state.View.{ThreadState}
use Rattle.law_results_reads.specs.Below.thread_state.declared.value.Value.{Value}
use Rattle.law_results_reads.specs.Below.thread_state.declared.value.Value.TheVariants as value
use Rattle.law_results_reads.specs.Below.server_model.Servers.{Server, Cluster}
use Rattle.law_results_reads.specs.Below.server_model.Work.{Hand}
use Rattle.law_results_reads.specs.Below.server_model.Places.{Spot, in_slot, in_cell, in_copy, on_top, nowhere, value_at, load_at}
use Rattle.law_results_reads.specs.Below.server_model.Prepare.{Prepared, ready, requested, nothing, and_then, ready_at, use_copy, hit_by, read_by, read_value, read_clean, tinted_first, read_star, read_stars}
use Rattle.law_results_reads.specs.Below.coherent_memory.Names.{one, other}
use Rattle.law_results_reads.specs.Below.coherent_memory.Things.{Location}
use Rattle.law_results_reads.specs.Below.coherent_memory.Follow.{Standing, Ground, value_in, locate}
use Rattle.law_results_reads.specs.Below.coherent_memory.Sight.{sight}
use Rattle.law_results_reads.specs.Below.coherent_memory.Walking.{loose_hop}
use Rattle.law_results_reads.specs.Below.coherent_memory.Paths.{is_at_hand}
use Rattle.law_results_reads.proofs.Below.law_counts_sums.Askers.{other_none}
use Rattle.law_results_reads.proofs.Known.{Steps, able, goes, paths, standing, usable}
use Rattle.law_results_reads.proofs.Usable.{times}
use Rattle.law_results_reads.proofs.Followed.{Place, at, hop_from}
use Rattle.law_results_reads.proofs.Reading.{Alike, equal, both_shared, Reading, cached_hit}
use Rattle.law_results_reads.proofs.Starred.{bound, At, seen, Fine, star}
use Rattle.law_results_reads.proofs.Readers.{IsFree}

-- nothing is asked for
abbrev pub Unasked : Prepared → Type 0
Unasked (ready h s) = ⊤
Unasked (requested h) = ⊥
Unasked nothing = ⊤

-- one hop and then the others
then_unasked : (go : Hand → Spot → Prepared) (p : Prepared) → Unasked p → ((h : Hand) (s : Spot) → p ≡ ready h s → Unasked (go h s)) → Unasked (and_then go p)
then_unasked go (ready h s) u f = f h s refl
then_unasked go (requested h) u f = u
then_unasked go nothing u f = tt

-- ONE HOP

-- a hop that needs no message
abbrev Near : Option Hop → Type 0
Near (Some (hop.NeedCopy w)) = ⊥
Near (Some (hop.NeedTint w)) = ⊥
Near o = ⊤

-- what is ready asks for nothing
ready_unasked : (s : Spot) (o : Option Hand) → Unasked (ready_at s o)
ready_unasked s None = tt
ready_unasked s (Some h) = tt

-- reading a hop that needs no message
reads_near : (s : Spot) (u : Value) (o : Option Hop) (h : Hand) → Near o → Unasked (read_by s u o h)
reads_near s u None h n = tt
reads_near s u (Some (hop.Slot j)) h n = tt
reads_near s u (Some (hop.Direct w)) h n = tt
reads_near s u (Some (hop.Hit w)) h n = ready_unasked (in_copy w) (use_copy s u w (hit_by u h))
reads_near s u (Some (hop.NeedCopy w)) h n = absurd n
reads_near s u (Some (hop.NeedTint w)) h n = absurd n
reads_near s u (Some (hop.NeedMove w)) h n = tt
reads_near s u (Some (hop.AtCell w)) h n = tt

-- nor is it tinted
nothing_cleaned : (s : Spot) (u : Value) (o : Option Hop) (h : Hand) → Near o → read_clean s u o h ≡ ready h s
nothing_cleaned s u None h n = refl
nothing_cleaned s u (Some (hop.Slot j)) h n = refl
nothing_cleaned s u (Some (hop.Direct w)) h n = refl
nothing_cleaned s u (Some (hop.Hit w)) h n = refl
nothing_cleaned s u (Some (hop.NeedCopy w)) h n = absurd n
nothing_cleaned s u (Some (hop.NeedTint w)) h n = absurd n
nothing_cleaned s u (Some (hop.NeedMove w)) h n = refl
nothing_cleaned s u (Some (hop.AtCell w)) h n = refl

-- noting a read changes no value
value_loaded : (h : Hand) (s : Spot) → value_at (load_at s h) s ≡ value_at h s
value_loaded h (in_slot j) = refl
value_loaded h on_top = refl
value_loaded h (in_cell w q) = refl
value_loaded h (in_copy w) = refl
value_loaded h nowhere = refl

-- a star over such a value
star_near : (h : Hand) (s : Spot) (u : Value) → value_at h s ≡ Some u → Near (read_hop h.work.rest.number h.work.rest.cache u) → Unasked (read_star h s)
star_near h s u e n =
    subst (λ o. Unasked (and_then (λ h2 s2. read_value s2 (value_at h2 s2) h2) (tinted_first s o (load_at s h)))) (sym e)
    (subst (λ p. Unasked (and_then (λ h2 s2. read_value s2 (value_at h2 s2) h2) p)) (sym (nothing_cleaned s u (read_hop h.work.rest.number h.work.rest.cache u) (load_at s h) n))
    (subst (λ o. Unasked (read_value s o (load_at s h))) (sym (value_loaded h s ∙ e)) (reads_near s u (read_hop h.work.rest.number h.work.rest.cache u) (load_at s h) n)))

-- WHAT IS AT HAND

module _ (number : ℕ) (cs : List Copy) (kept : List ℕ) (cached : (w : ℕ) → is_in w kept ≡ true → is_cached cs w ≡ true) where
  -- a clean pointer at hand needs no message
  clean_near : (w : ℕ) → other (is_at_hand kept number true w) ≡ 0 → Near (Some (clean_hop number cs w))
  clean_near w z = by (server_of w == number) z
    where
      by_copies : (q : Bool) → q ≡ true → Near (Some (if q then hop.Hit w else hop.NeedCopy w))
      by_copies true e = tt
      by_copies false e = absurd (cc e)

      by : (p : Bool) → other (p || (true && is_in w kept)) ≡ 0 → Near (Some (if p then hop.Direct w else by_copy cs w))
      by true y = tt
      by false y = by_copies (is_cached cs w) (cached w (other_none (is_in w kept) y))

  -- nor does a dirty one
  dirty_near : (w : ℕ) → other (is_at_hand kept number false w) ≡ 0 → Near (Some (dirty_hop number w))
  dirty_near w z = by (server_of w == number) z
    where
      by : (p : Bool) → other (p || (false && is_in w kept)) ≡ 0 → Near (Some (if p then hop.Direct w else hop.NeedTint w))
      by true y = tt
      by false y = absurd (cc y)

  -- nor does a mutable reference at hand
  lent_near : (q : MutRef) → loose_hop number kept (Some (value.Mut q)) ≡ 0 → Near (read_hop number cs (value.Mut q))
  lent_near q z = by q.dirty z
    where
      by : (b : Bool) → other (is_at_hand kept number (not b) q.word) ≡ 0 → Near (Some (if b then dirty_hop number q.word else clean_hop number cs q.word))
      by true y = dirty_near q.word y
      by false y = clean_near q.word y

  -- nor does any value at hand
  pub at_hand_near : (u v : Value) → Alike u v → loose_hop number kept (Some v) ≡ 0 → Near (read_hop number cs u)
  at_hand_near _ _ (both_shared q r e f) z = clean_near q.word (subst (λ w. other (is_at_hand kept number true w) ≡ 0) (sym e) z)
  at_hand_near (value.Own (owned.Box p)) _ equal z = clean_near p.word z
  at_hand_near (value.Shared q) _ equal z = clean_near q.word z
  at_hand_near (value.Mut q) _ equal z = lent_near q z
  at_hand_near (value.Own owned.Nothing) _ equal z = tt
  at_hand_near (value.Own owned.Unit) _ equal z = tt
  at_hand_near (value.Own (owned.Int i)) _ equal z = tt
  at_hand_near (value.Own (owned.Mutex m)) _ equal z = tt
  at_hand_near (value.Own (owned.Task t)) _ equal z = tt
  at_hand_near value.Gone _ equal z = tt
  at_hand_near (value.SharedSlot j) _ equal z = tt
  at_hand_near (value.MutSlot j) _ equal z = tt
  at_hand_near (value.Held m) _ equal z = tt

-- what is used is cached
in_times : (w : ℕ) (ws : List ℕ) → is_in w ws ≡ true → 1 ≤ times w ws
in_times w [] e = absurd (cc e)
in_times w (v ∷ ws) e = by (in_times w ws) (v == w) e
  where
    by : (is_in w ws ≡ true → 1 ≤ times w ws) → (b : Bool) → b || is_in w ws ≡ true → 1 ≤ one b + times w ws
    by go true h = omega arith
    by go false h = omega (arith, go h)

-- a word in use is cached
used_cached : (cs : List Copy) (w : ℕ) → 1 ≤ users cs w → is_cached cs w ≡ true
used_cached cs w l = by (copy_of cs w) l
  where
    by : (o : Option Copy) → 1 ≤ users_in o → is_some o ≡ true
    by None m = absurd (omega (arith, m))
    by (Some c) m = refl

-- ALL STARS

module _ (k : Cluster) (n t : ℕ) (s : Server) (y : ThreadState) (i : Instr) (z : Steps k n t s y i) where
  abbrev x : Standing
  x = standing k n t s y i z

  abbrev g : Ground
  g = (sight k).ground

  abbrev tn : ℕ
  tn = y.number

  abbrev Reads : ℕ → Hand → Type 0
  Reads d h = Reading y s.rest (bound k n t s y i z) d h

  -- what the thread keeps is cached
  kept_cached : (d : ℕ) (h : Hand) → Reads d h → (w : ℕ) → is_in w (used_words y) ≡ true → is_cached h.work.rest.cache w ≡ true
  kept_cached d h a w e =
      let there : is_cached s.rest.cache w ≡ true = used_cached s.rest.cache w (omega (arith, in_times w (used_words y) e, usable k n t s y i z w)) in
      cached_hit h.work.rest.cache w ∙ ap is_some (a.hits w) ∙ sym (cached_hit s.rest.cache w) ∙ there

  -- each pointer that so many stars of the place follow is at hand
  abbrev pub AllAtHand : Lval → ℕ → Type 0
  AllAtHand w most = (d : ℕ) (l : Location) (v : Value) → d < most → locate g tn w.slot d ≡ Some l → value_in g l ≡ Some v → loose_hop s.rest.number (used_words y) (Some v) ≡ 0

  module _ (only : Bool) (w : Lval) (place : Place k (paths k n t s y i z) x only w) (short : w.depth ≤ 8) (most : ℕ) (le : most ≤ w.depth) (free : IsFree k n t s y i z only w place most) (near : AllAtHand w most) where
    one_star : (d : ℕ) → d < most → (h : Hand) (sp : Spot) (l : Location) → locate g tn w.slot d ≡ Some l → At k n t s y i z sp l → Reads d h → Unasked (read_star h sp)
    one_star d lt h sp l located spot a =
        let after = at k z.coherent.sound (paths k n t s y i z) n s z.here x (goes k n t s y i z) (able k n t s y i z) only w place (d + 1) (omega (arith, lt, le)) in
        let one : d + 1 ≡ suc d = omega arith in
        let e = hop_from g tn w.slot d l after.0 located (subst (λ q. locate g tn w.slot q ≡ Some after.0) one after.1) in
        let u = seen k n t s y i z d h sp l e.0 a spot e.1 in
        star_near h sp u.0 u.1
        (at_hand_near h.work.rest.number h.work.rest.cache (used_words y) (kept_cached d h a) u.0 e.0 u.2 (subst (λ m. loose_hop m (used_words y) (Some e.0) ≡ 0) (sym a.number) (near d l e.0 lt located e.1)))

    -- what the first star leads to, the others go on from
    next_stars : (d e : ℕ) (p : Prepared) → Fine k n t s y i z w.slot d p → Unasked p → ((h : Hand) (sp : Spot) (l : Location) → locate g tn w.slot d ≡ Some l → At k n t s y i z sp l → Reads d h → Unasked (read_stars e h sp)) → Unasked (and_then (read_stars e) p)
    next_stars d e (ready h sp) f u go = go h sp f.0 f.1 f.2 f.3
    next_stars d e (requested h) f u go = u
    next_stars d e nothing f u go = tt

    pub stars_near : (e d : ℕ) → d + e ≡ most → (h : Hand) (sp : Spot) (l : Location) → locate g tn w.slot d ≡ Some l → At k n t s y i z sp l → Reads d h → Unasked (read_stars e h sp)
    stars_near zero d q h sp l located spot a = tt
    stars_near (suc e) d q h sp l located spot a =
        let lt : d < most = omega (arith, q) in
        let under : d < w.depth = omega (arith, lt, le) in
        next_stars (d + 1) e (read_star h sp) (star k n t s y i z only w place d under short l located (free d under lt l located) h sp spot a) (one_star d lt h sp l located spot a)
        (λ h2 sp2 l2 located2 spot2 a2. stars_near e (d + 1) (omega (arith, q)) h2 sp2 l2 located2 spot2 a2)
