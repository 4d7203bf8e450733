-- What a thread has passed for a write lies at its server still, where the pointers on its way are the same and their objects lie there.
use Rattle.std.proofs.Common.{◌≡◌, ℕ, zero, suc, ◌≤◌, ◌<◌, nat_le, Bool, true, false, Option, Some, None, refl, sym, ap, ◌∙◌, arith}
use Rattle.std.specs.Prelude.{slice_get}
use Rattle.std.proofs.lemmas.Bool.Decides.{nat_tests}
use Rattle.law_walks_others.specs.Below.fr_base.declared.name.ObjNo.{ObjNo}
use Rattle.law_walks_others.specs.Below.fr_base.declared.place.Lval.{Lval}
use Rattle.law_walks_others.specs.Below.heap_partition.declared.value.Owned.TheVariants as owned
use Rattle.law_walks_others.specs.Below.thread_state.declared.value.Value.{Value}
use Rattle.law_walks_others.specs.Below.thread_state.declared.value.Value.TheVariants as value
use Rattle.law_walks_others.specs.Below.server_model.Servers.{Cluster}
use Rattle.law_walks_others.specs.Below.coherent_memory.Names.{tot, other, some}
use Rattle.law_walks_others.specs.Below.coherent_memory.Things.{Location, in_cell, things_of}
use Rattle.law_walks_others.specs.Below.coherent_memory.Follow.{Standing, Ground, leads, locate, hop_at}
use Rattle.law_walks_others.specs.Below.coherent_memory.Paths.{Path, no_path, reads, shares, lends, writes, ends, path_of, written_place}
use Rattle.law_walks_others.specs.Below.coherent_memory.Sight.{Sight, sight}
use Rattle.law_walks_others.specs.Below.coherent_memory.Weights.{lies_at}
use Rattle.law_walks_others.specs.Below.coherent_memory.Walking.{path, over_hops, over_place, over_passed, away, hop_count, too_far}
use Rattle.law_walks_others.specs.Below.law_words_paths.words.Unmoved.{pointing}
use Rattle.law_walks_others.proofs.pointers.Sentences.{SameHops, SameOn}

none_true : (b : Bool) → other b ≡ 0 → b ≡ true
none_true true z = refl
none_true false z = absurd (cc z)

some_one : (m : ℕ) → some m ≡ true → 1 ≤ m
some_one zero e = absurd (cc e)
some_one (suc m) e = omega arith

one_some : (m : ℕ) → 1 ≤ m → some m ≡ true
one_some zero l = absurd (omega (arith, l))
one_some (suc m) l = refl

-- it is told by where the pointer leads alone
away_seen : (s : Sight) (r : ℕ) (l m : Option Location) (v : Option Value) → away s r l (pointing v) ≡ away s r m v
away_seen s r l m None = refl
away_seen s r l m (Some (value.Own (owned.Box p))) = refl
away_seen s r l m (Some (value.Own v)) = refl
away_seen s r l m (Some v) = refl

away_same : (s : Sight) (r : ℕ) (l m : Option Location) (u v : Option Value) → pointing u ≡ pointing v → away s r l u ≡ away s r m v
away_same s r l m u v e = sym (away_seen s r None l u) ∙ ap (away s r None) e ∙ away_seen s r None m v

module _ (k c : Cluster) (x : Standing) (code : c.code ≡ k.code) (same : SameOn k c x.thread.number (path (sight k) x)) where
  abbrev G : Ground
  G = (sight k).ground

  abbrev G2 : Ground
  G2 = (sight c).ground

  abbrev n : ℕ
  n = x.thread.number

  abbrev r : ℕ
  r = x.server

  abbrev LiesOn : ObjNo → Type 0
  LiesOn o = 1 ≤ tot (lies_at r o) (things_of k) → 1 ≤ tot (lies_at r o) (things_of c)

  -- what the hops that it has passed lead to lies there still
  abbrev pub PassedLie : Lval → Type 0
  PassedLie w = (i : ℕ) (o : ObjNo) → i < x.thread.passed → locate G n w.slot (suc i) ≡ Some (in_cell o) → LiesOn o

  object_on : (o : ObjNo) → LiesOn o → other (some (tot (lies_at r o) (things_of k))) ≡ 0 → other (some (tot (lies_at r o) (things_of c))) ≡ 0
  object_on o on z = ap other (one_some (tot (lies_at r o) (things_of c)) (on (some_one (tot (lies_at r o) (things_of k)) (none_true (some (tot (lies_at r o) (things_of k))) z))))

  away_on : (l : Option Location) (v : Option Value) → ((o : ObjNo) → leads n v ≡ Some (in_cell o) → LiesOn o) → away (sight k) r l v ≡ 0 → away (sight c) r l v ≡ 0
  away_on l (Some (value.Own (owned.Box b))) on z = object_on b.object (on b.object refl) z
  away_on l (Some (value.Mut q)) on z = object_on q.object (on q.object refl) z
  away_on l (Some (value.SharedSlot i)) on z = refl
  away_on l (Some (value.MutSlot i)) on z = refl
  away_on l None on z = absurd (cc z)
  away_on l (Some value.Gone) on z = absurd (cc z)
  away_on l (Some (value.Own v)) on z = absurd (cc z)
  away_on l (Some (value.Shared q)) on z = absurd (cc z)
  away_on l (Some (value.Held m)) on z = absurd (cc z)

  over_on : (w : Lval) → SameHops k c n w → PassedLie w → (m : ℕ) → m ≤ w.depth → m ≤ x.thread.passed → over_hops G n w.slot (away (sight k) r) m ≡ 0 → over_hops G2 n w.slot (away (sight c) r) m ≡ 0
  over_on w hops lie zero le few z = refl
  over_on w hops lie (suc m) le few z =
      let here : away (sight c) r (locate G n w.slot m) (hop_at G n w m) ≡ 0 = away_on (locate G n w.slot m) (hop_at G n w m) (λ o e. lie m o (omega (arith, few)) e) (omega (arith, z)) in
      let there = away_same (sight c) r (locate G2 n w.slot m) (locate G n w.slot m) (hop_at G2 n w m) (hop_at G n w m) (hops m (omega (arith, le))) in
      omega (arith, here, there, over_on w hops lie m (omega (arith, le)) (omega (arith, few)) (omega (arith, z)))

  path_on : (q : Path) → SameOn k c n q → ((w : Lval) → written_place q ≡ Some w → PassedLie w) → x.thread.passed ≤ hop_count (written_place q) → over_place G n x.thread.passed (away (sight k) r) (written_place q) ≡ 0
      → over_place G2 n x.thread.passed (away (sight c) r) (written_place q) ≡ 0
  path_on (writes w) h lie le z = over_on w h (lie w refl) x.thread.passed le (omega arith) z
  path_on (ends m) h lie le z = over_on m.holder h (lie m.holder refl) x.thread.passed le (omega arith) z
  path_on no_path h lie le z = refl
  path_on (reads w) h lie le z = refl
  path_on (shares w) h lie le z = refl
  path_on (lends w) h lie le z = refl

  within : too_far (sight k) x ≡ 0 → x.thread.passed ≤ hop_count (written_place (path (sight k) x))
  within z = let e = none_true (nat_le x.thread.passed (hop_count (written_place (path (sight k) x)))) z in grind (arith, nat_tests, e)

  pub away_still : ((w : Lval) → written_place (path (sight k) x) ≡ Some w → PassedLie w) → too_far (sight k) x ≡ 0 → over_passed (sight k) (away (sight k)) x ≡ 0 → over_passed (sight c) (away (sight c)) x ≡ 0
  away_still lie far z =
      ap (λ cs. over_place G2 n x.thread.passed (away (sight c) r) (written_place (path_of (slice_get cs x.thread.pc) x.thread))) code ∙ path_on (path (sight k) x) same lie (within far) z
