-- Where the pointers on the way of a thread are what they were, a box that its write has passed has no copy where none came under its word.
use Rattle.std.proofs.Common.{◌≡◌, ℕ, zero, suc, ◌≤◌, ◌==◌, ◌&&◌, nat_le, not, Bool, true, false, Option, Some, None, refl, sym, ap, subst, ◌∙◌, arith}
use Rattle.std.specs.Prelude.{slice_get}
use Rattle.std.proofs.lemmas.Bool.Decides.{nat_tests}
use Rattle.law_copies_kept.specs.Below.fr_base.declared.place.Lval.{Lval}
use Rattle.law_copies_kept.specs.Below.heap_partition.declared.value.BoxPtr.{BoxPtr}
use Rattle.law_copies_kept.specs.Below.heap_partition.declared.value.Owned.TheVariants as owned
use Rattle.law_copies_kept.specs.Below.thread_state.View.{is_over}
use Rattle.law_copies_kept.specs.Below.thread_state.declared.phase.Phase.{Phase}
use Rattle.law_copies_kept.specs.Below.thread_state.declared.phase.Phase.TheVariants as phase
use Rattle.law_copies_kept.specs.Below.thread_state.declared.value.Value.{Value}
use Rattle.law_copies_kept.specs.Below.thread_state.declared.value.Value.TheVariants as value
use Rattle.law_copies_kept.specs.Below.server_model.Servers.{Cluster}
use Rattle.law_copies_kept.specs.Below.coherent_memory.Names.{tot, one, other, Among}
use Rattle.law_copies_kept.specs.Below.coherent_memory.Things.{Location, things_of}
use Rattle.law_copies_kept.specs.Below.coherent_memory.Follow.{Standing, Ground, locate, hop_at}
use Rattle.law_copies_kept.specs.Below.coherent_memory.Paths.{Path, no_path, reads, shares, lends, writes, ends, path_of, written_place}
use Rattle.law_copies_kept.specs.Below.coherent_memory.Sight.{Sight, sight}
use Rattle.law_copies_kept.specs.Below.coherent_memory.Walking.{path, in_walk, early, too_far, hop_count, over_hops, over_place, over_passed, copied_box}
use Rattle.law_copies_kept.specs.Below.coherent_memory.Weights.{copies}
use Rattle.law_copies_kept.proofs.Below.coherent_memory.Words.{none_at}
use Rattle.law_copies_kept.specs.Below.coherent_types.ClusterTypes.{IsCoherent}
use Rattle.law_copies_kept.specs.Below.law_words_paths.paths.HeapStore.{GoesOn}
use Rattle.law_walks_own.specs.Below.law_words_paths.words.Unmoved.{pointing}
use Rattle.law_walks_own.proofs.Below.law_walks_others.pointers.Sentences.{SameHops, SameOn}
use Rattle.law_walks_own.specs.passed.Passed.{HasPassed}

none_true : (b : Bool) → other b ≡ 0 → b ≡ true
none_true true z = refl
none_true false z = absurd (cc z)

-- who isn't in a walk has passed nothing
pub unpassed : (p : Phase) (m : ℕ) → in_walk p ≡ false → one (not (in_walk p) && not (m == 0)) ≡ 0 → m ≡ 0
unpassed p m e z = by (m == 0) refl (subst (λ b. one (not b && not (m == 0)) ≡ 0) e z)
  where
    by : (b : Bool) → (m == 0) ≡ b → one (true && not b) ≡ 0 → m ≡ 0
    by true f y = grind (arith, nat_tests, f)
    by false f y = absurd (cc y)

pub over_walks : (p : Phase) → is_over p ≡ true → in_walk p ≡ false
over_walks phase.Over e = refl
over_walks p e = absurd (cc e)

place_is : {v w : Lval} → Some v ≡ Some w → v ≡ w
place_is e = cc

-- who has passed nothing has passed no copy
pub none_passed : (s s2 : Sight) (x : Standing) → x.thread.passed ≡ 0 → over_passed s (copied_box s2) x ≡ 0
none_passed s s2 x e = by (written_place (path s x))
  where
    by : (o : Option Lval) → over_place s.ground x.thread.number x.thread.passed (copied_box s2 x.server) o ≡ 0
    by None = refl
    by (Some w) = ap (over_hops s.ground x.thread.number w.slot (copied_box s2 x.server)) e

-- it is told by the pointer alone
copied_seen : (s : Sight) (r : ℕ) (l m : Option Location) (v : Option Value) → copied_box s r l (pointing v) ≡ copied_box s r m v
copied_seen s r l m None = refl
copied_seen s r l m (Some (value.Own (owned.Box p))) = refl
copied_seen s r l m (Some (value.Own v)) = refl
copied_seen s r l m (Some v) = refl

copied_same : (s : Sight) (r : ℕ) (l m : Option Location) (u v : Option Value) → pointing u ≡ pointing v → copied_box s r l u ≡ copied_box s r m v
copied_same s r l m u v e = sym (copied_seen s r None l u) ∙ ap (copied_box s r None) e ∙ copied_seen s r None m v

-- where none of what was passed has a copy then

pub record OnePassed (k : Cluster) : Type 0 where
  pub thread : Standing
  pub pointer : BoxPtr
  pub passed : HasPassed k thread pointer

abbrev pub NoneThen : Cluster → Cluster → Type 0
NoneThen k c = (q : OnePassed k) → tot (copies q.pointer.word) (things_of c) ≡ 0

module _ (k c : Cluster) (coherent : IsCoherent k) (none : NoneThen k c) (x : Standing) (among : Among x (sight k).ground.threads) where
  hops_uncopied : (g : GoesOn k x) (w : Lval) → written_place (path (sight k) x) ≡ Some w → (m : ℕ) → m ≤ x.thread.passed → over_hops (sight k).ground x.thread.number w.slot (copied_box (sight c) x.server) m ≡ 0
  hops_uncopied g w e zero le = refl
  hops_uncopied g w e (suc m) le = omega (arith, by (hop_at (sight k).ground x.thread.number w m) refl, hops_uncopied g w e m (omega (arith, le)))
    where
      box : (p : BoxPtr) → hop_at (sight k).ground x.thread.number w m ≡ Some (value.Own (owned.Box p)) → tot (copies p.word) (things_of c) ≡ 0
      box p f = none (record { thread = x; pointer = p; passed = record { goes = g; place = w; writes = e; hop = m; passed = omega (arith, le); stands = f } })

      by : (v : Option Value) → hop_at (sight k).ground x.thread.number w m ≡ v → copied_box (sight c) x.server (locate (sight k).ground x.thread.number w.slot m) v ≡ 0
      by (Some (value.Own (owned.Box p))) f = box p f
      by None f = refl
      by (Some value.Gone) f = refl
      by (Some (value.Own owned.Nothing)) f = refl
      by (Some (value.Own owned.Unit)) f = refl
      by (Some (value.Own (owned.Int i))) f = refl
      by (Some (value.Own (owned.Mutex i))) f = refl
      by (Some (value.Own (owned.Task i))) f = refl
      by (Some (value.SharedSlot j)) f = refl
      by (Some (value.MutSlot j)) f = refl
      by (Some (value.Shared r)) f = refl
      by (Some (value.Mut r)) f = refl
      by (Some (value.Held i)) f = refl

  -- of what it had passed, told by the pointers before
  pub before_uncopied : over_passed (sight k) (copied_box (sight c)) x ≡ 0
  before_uncopied = by (is_over x.thread.phase) refl
    where
      places : (g : GoesOn k x) (o : Option Lval) → written_place (path (sight k) x) ≡ o → over_place (sight k).ground x.thread.number x.thread.passed (copied_box (sight c) x.server) o ≡ 0
      places g None e = refl
      places g (Some w) e = hops_uncopied g w e x.thread.passed (omega arith)

      by : (b : Bool) → is_over x.thread.phase ≡ b → over_passed (sight k) (copied_box (sight c)) x ≡ 0
      by true f = none_passed (sight k) (sight c) x (unpassed x.thread.phase x.thread.passed (over_walks x.thread.phase f) (none_at early x (sight k).ground.threads coherent.sound.walks.passed_in_a_walk among))
      by false f = places (record { among = among; going = f }) (written_place (path (sight k) x)) refl

-- the pointers of a place that is written are the same
pub on_written : (k c : Cluster) (n : ℕ) (q : Path) → SameOn k c n q → (w : Lval) → written_place q ≡ Some w → SameHops k c n w
on_written k c n (writes v) h w e = subst (SameHops k c n) (place_is e) h
on_written k c n (ends m) h w e = subst (SameHops k c n) (place_is e) h
on_written k c n no_path h w e = absurd (cc e)
on_written k c n (reads v) h w e = absurd (cc e)
on_written k c n (shares v) h w e = absurd (cc e)
on_written k c n (lends v) h w e = absurd (cc e)

-- and so told by those afterwards
module _ (k c : Cluster) (x : Standing) (code : c.code ≡ k.code) (same : (w : Lval) → written_place (path (sight k) x) ≡ Some w → SameHops k c x.thread.number w) where
  abbrev G : Ground
  G = (sight k).ground

  abbrev G2 : Ground
  G2 = (sight c).ground

  abbrev n : ℕ
  n = x.thread.number

  abbrev r : ℕ
  r = x.server

  over_on : (w : Lval) → SameHops k c n w → (m : ℕ) → m ≤ w.depth → over_hops G n w.slot (copied_box (sight c) r) m ≡ 0 → over_hops G2 n w.slot (copied_box (sight c) r) m ≡ 0
  over_on w hops zero le z = refl
  over_on w hops (suc m) le z =
      let there = copied_same (sight c) r (locate G2 n w.slot m) (locate G n w.slot m) (hop_at G2 n w m) (hop_at G n w m) (hops m (omega (arith, le))) in
      omega (arith, there, z, over_on w hops m (omega (arith, le)) (omega (arith, z)))

  place_on : (o : Option Lval) → ((w : Lval) → o ≡ Some w → SameHops k c n w) → x.thread.passed ≤ hop_count o → over_place G n x.thread.passed (copied_box (sight c) r) o ≡ 0 → over_place G2 n x.thread.passed (copied_box (sight c) r) o ≡ 0
  place_on None h le z = refl
  place_on (Some w) h le z = over_on w (h w refl) x.thread.passed le z

  within : too_far (sight k) x ≡ 0 → x.thread.passed ≤ hop_count (written_place (path (sight k) x))
  within z = let e = none_true (nat_le x.thread.passed (hop_count (written_place (path (sight k) x)))) z in grind (arith, nat_tests, e)

  pub uncopied_still : too_far (sight k) x ≡ 0 → over_passed (sight k) (copied_box (sight c)) x ≡ 0 → over_passed (sight c) (copied_box (sight c)) x ≡ 0
  uncopied_still far z =
      ap (λ cs. over_place G2 n x.thread.passed (copied_box (sight c) r) (written_place (path_of (slice_get cs x.thread.pc) x.thread))) code ∙ place_on (written_place (path (sight k) x)) same (within far) z
