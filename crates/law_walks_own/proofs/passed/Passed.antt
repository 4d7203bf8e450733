-- Of a box that a thread's write has passed no copy is asked for: who waits for one reads a pointer to its object, and none reads what another thread has in its slots.
use Rattle.std.proofs.Common.{◌≡◌, inl, ⊎_elim, ℕ, suc, ◌-◌, ◌≤◌, ◌<◌, ◌==◌, ◌&&◌, nat_le, not, Bool, true, false, Option, Some, None, refl, sym, ap, subst, ◌∙◌, arith}
use Rattle.std.proofs.lemmas.Bool.Decides.{nat_tests}
use Rattle.law_copies_kept.specs.Below.fr_base.declared.place.Lval.{Lval}
use Rattle.law_copies_kept.specs.Below.fr_base.declared.instruction.Instr.{Instr}
use Rattle.law_copies_kept.specs.Below.fr_store.Keys.{slot_k}
use Rattle.law_copies_kept.specs.Below.heap_partition.declared.value.BoxPtr.{BoxPtr}
use Rattle.law_copies_kept.specs.Below.heap_partition.declared.value.Owned.TheVariants as owned
use Rattle.law_copies_kept.specs.Below.thread_state.View.{ThreadState}
use Rattle.law_copies_kept.specs.Below.thread_state.declared.phase.Phase.{Phase}
use Rattle.law_copies_kept.specs.Below.thread_state.declared.phase.Phase.TheVariants as phase
use Rattle.law_copies_kept.specs.Below.thread_state.declared.value.Value.{Value}
use Rattle.law_copies_kept.specs.Below.thread_state.declared.value.Value.TheVariants as value
use Rattle.law_copies_kept.specs.Below.server_model.Servers.{Cluster}
use Rattle.law_copies_kept.specs.Below.coherent_memory.Names.{tot, one, other}
use Rattle.law_copies_kept.specs.Below.coherent_memory.Things.{Location, in_cell, things_of}
use Rattle.law_copies_kept.specs.Below.coherent_memory.Follow.{Standing, Ground, value_in, value_behind, leads, locate}
use Rattle.law_copies_kept.specs.Below.coherent_memory.Paths.{written_place, path_of}
use Rattle.law_copies_kept.specs.Below.coherent_memory.Passing.{MayPass, over_box, over_reference, to_slot, to_lent_slot, NotCopied, LiesAt}
use Rattle.law_copies_kept.specs.Below.coherent_memory.Sight.{Pointer, sight, pointers_in, taken_pointers}
use Rattle.law_copies_kept.specs.Below.coherent_memory.Walking.{instr_of, path, in_walk, early, too_far, hop_count}
use Rattle.law_copies_kept.specs.Below.coherent_memory.Weights.{copies}
use Rattle.law_copies_kept.specs.Below.coherent_memory.Words.{HasWords, IsStale}
use Rattle.law_copies_kept.proofs.Below.coherent_memory.Words.{none_at}
use Rattle.law_copies_kept.specs.Below.coherent_types.ClusterTypes.{IsCoherent}
use Rattle.law_copies_kept.specs.Below.law_words_paths.paths.HeapStore.{HasPaths}
use Rattle.law_copies_kept.proofs.Below.law_words_paths.paths.Alike.{coherent_has_paths, leads_in_heap}
use Rattle.law_copies_kept.proofs.Below.law_words_paths.paths.Circles.{shorter}
use Rattle.law_copies_kept.proofs.Below.law_words_paths.paths.Origins.{among_first}
use Rattle.law_walks_own.specs.Below.law_words_kept.reads.Reading.{Reads, copies as copies_it, shares, lends, dups, locks}
use Rattle.law_walks_others.proofs.Below.law_words_kept.ends.Fresh.{writing}
use Rattle.law_copies_kept.proofs.Below.law_results_reads.Made.{OwnedBy, own_path}
use Rattle.law_walks_own.proofs.Below.law_words_paths.words.Standing.{lying, told}
use Rattle.law_walks_others.proofs.Below.law_results_events.writes.Written.{IsFollowed, follows, may_pass}
use Rattle.law_copies_kept.proofs.copies.Clean.{thing_cell}
use Rattle.law_copies_kept.proofs.objects.Askers.{ReadsUnder, unasked_by, reads_as_owner}
use Rattle.law_copies_kept.proofs.objects.Turned.{Unasked}
use Rattle.law_walks_own.specs.passed.Passed.{HasPassed, PassedStayUncopied}
use Rattle.law_walks_own.proofs.passed.Copied.{none_comes}

-- what is read isn't written
reads_not : (i : Instr) (t : ThreadState) (v w : Lval) (n : ℕ) → Reads i v n → written_place (path_of (Some i) t) ≡ Some w → ⊥
reads_not _ t v w n (copies_it e) f = cc f
reads_not _ t v w n (shares e) f = cc f
reads_not _ t v w n (lends e) f = cc f
reads_not _ t v w n (dups e) f = cc f
reads_not _ t v w n (locks e) f = cc f

behind_is : (g : Ground) (o : Option Location) (v : Value) → value_behind g o ≡ Some v → (l : Location) × (o ≡ Some l) × (value_in g l ≡ Some v)
behind_is g None v e = absurd (cc e)
behind_is g (Some l) v e = (l, refl, e)

-- who has passed something is in a walk
no_pair : (p : Phase) (m n : ℕ) → n < m → one (not (in_walk p) && not (m == 0)) ≡ 0 → ((d f : ℕ) → p ≡ phase.WaitPar d f → ⊥) × ((d f : ℕ) → p ≡ phase.GotPar d f → ⊥)
no_pair (phase.WaitPar a b) m n l z = absurd (unpassed (m == 0) refl z)
  where
    unpassed : (b : Bool) → (m == 0) ≡ b → one (true && not b) ≡ 0 → ⊥
    unpassed true f e = (let same : m ≡ 0 = grind (arith, nat_tests, f) in absurd (omega (arith, l, same)))
    unpassed false f e = cc e
no_pair (phase.GotPar a b) m n l z = absurd (unpassed (m == 0) refl z)
  where
    unpassed : (b : Bool) → (m == 0) ≡ b → one (true && not b) ≡ 0 → ⊥
    unpassed true f e = (let same : m ≡ 0 = grind (arith, nat_tests, f) in absurd (omega (arith, l, same)))
    unpassed false f e = cc e
no_pair phase.Ready m n l z = (λ d f e. cc e, λ d f e. cc e)
no_pair phase.Got m n l z = (λ d f e. cc e, λ d f e. cc e)
no_pair (phase.Taken w) m n l z = (λ d f e. cc e, λ d f e. cc e)
no_pair (phase.WaitCell w) m n l z = (λ d f e. cc e, λ d f e. cc e)
no_pair (phase.WaitLock q) m n l z = (λ d f e. cc e, λ d f e. cc e)
no_pair (phase.WaitDup q) m n l z = (λ d f e. cc e, λ d f e. cc e)
no_pair (phase.WaitJoin u) m n l z = (λ d f e. cc e, λ d f e. cc e)
no_pair phase.Over m n l z = (λ d f e. cc e, λ d f e. cc e)

none_true : (b : Bool) → other b ≡ 0 → b ≡ true
none_true true z = refl
none_true false z = absurd (cc z)

module _ (k : Cluster) (coherent : IsCoherent k) (x : Standing) (p : BoxPtr) (h : HasPassed k x p) where
  abbrev c : HasPaths k
  c = coherent_has_paths k coherent

  abbrev g : Ground
  g = (sight k).ground

  abbrev n : ℕ
  n = x.thread.number

  abbrev w : Lval
  w = h.place

  at : (l : Location) × (locate g n w.slot h.hop ≡ Some l) × (value_in g l ≡ Some (value.Own (owned.Box p)))
  at = behind_is g (locate g n w.slot h.hop) (value.Own (owned.Box p)) h.stands

  abbrev l : Location
  l = at.0

  may : MayPass (sight k) x.server l (value.Own (owned.Box p))
  may = may_pass k x h.goes coherent.sound.walks.have_passed w h.writes h.hop h.passed l (value.Own (owned.Box p)) at.1 at.2

  record Over : Type 0 where
    lies_at : LiesAt (things_of k) x.server p.object
    uncopied : NotCopied (sight k) p.word
    fresh : IsStale (sight k) (Some l) → ⊥

  over : Over
  over = by (value.Own (owned.Box p)) refl may
    where
      same_box : {a b : BoxPtr} → value.Own (owned.Box a) ≡ value.Own (owned.Box b) → a ≡ b
      same_box e = cc

      by : (v : Value) → v ≡ value.Own (owned.Box p) → MayPass (sight k) x.server l v → Over
      by _ e (over_box q lies none fresh) = record { lies_at = subst (λ (b : BoxPtr). LiesAt (things_of k) x.server b.object) (same_box e) lies; uncopied = subst (λ (b : BoxPtr). NotCopied (sight k) b.word) (same_box e) none; fresh = fresh }
      by _ e (over_reference q lies fresh) = absurd (cc e)
      by _ e (to_slot i) = absurd (cc e)
      by _ e (to_lent_slot i) = absurd (cc e)

  abbrev words : HasWords (sight k)
  words = coherent.sound.words.have_words

  -- it has the word of its object
  its : p.word ≡ words.word p.object
  its =
      let pointer : Pointer = record { at = Some l; word = p.word; object = p.object } in
      ⊎_elim (λ (s : IsStale (sight k) (Some l)). absurd (over.fresh s)) (λ (e : p.word ≡ words.word p.object). e)
      (words.same pointer (among_first pointer (pointers_in (things_of k)) (taken_pointers (sight k).code (sight k).ground (sight k).ground.threads) (told k l (value.Own (owned.Box p)) pointer at.2 (inl refl))))

  -- the object is in boxes of the thread's slots
  followed : IsFollowed k c x w
  followed = follows k c x h.goes w (writing k x w h.writes)

  within : h.hop < w.depth
  within =
      let far : too_far (sight k) x ≡ 0 = none_at (too_far (sight k)) x g.threads coherent.sound.walks.passed_within h.goes.among in
      let e = none_true (nat_le x.thread.passed (hop_count (written_place (path (sight k) x)))) far in
      let le : nat_le x.thread.passed w.depth ≡ true = sym (ap (λ o. nat_le x.thread.passed (hop_count o)) h.writes) ∙ e in
      let less : x.thread.passed ≤ w.depth = grind (arith, nat_tests, le) in
      let lt = h.passed in
      omega (arith, less, lt)

  next : locate g n w.slot (suc h.hop) ≡ Some (in_cell p.object)
  next = ap (λ o. leads n (value_behind g o)) at.1 ∙ ap (leads n) at.2

  owned_by : OwnedBy k c n p.object
  owned_by =
      let q = shorter c.types.typing.exact true (slot_k n w.slot) (w.depth - suc h.hop) w.depth (suc h.hop) followed.base followed.boxes followed.type (omega (arith, within)) followed.resolves in
      own_path k c x h.goes w.slot (suc h.hop) q.base q.boxes q.type p.object q.res (leads_in_heap k c x h.goes w.slot (suc h.hop) (in_cell p.object) next).0

  unread : ReadsUnder k c coherent.sound p.word p.object → ⊥
  unread q =
      let walk = no_pair x.thread.phase x.thread.passed h.hop h.passed (none_at early x g.threads coherent.sound.walks.passed_in_a_walk h.goes.among) in
      let same = reads_as_owner k c coherent.sound p.word p.object q x h.goes walk.0 walk.1 owned_by in
      let code : instr_of (sight k) x ≡ Some q.instruction = ap (instr_of (sight k)) (sym same) ∙ q.at in
      reads_not q.instruction x.thread q.place w q.stars q.reads (ap (λ o. written_place (path_of o x.thread)) (sym code) ∙ h.writes)

  unasked : Unasked k p.word
  unasked =
      let lie = over.lies_at in
      let m = thing_cell (things_of k) lie.cell _ (lying x.server lie.address) lie.among in
      let same : words.word lie.cell.object ≡ p.word = ap words.word lie.object ∙ sym its in
      subst (Unasked k) same (unasked_by k c coherent.sound lie.cell m (λ q. unread (subst (λ o. ReadsUnder k c coherent.sound p.word o) lie.object (subst (λ v. ReadsUnder k c coherent.sound v lie.cell.object) same q))))

  pub not_copied : tot (copies p.word) (things_of k) ≡ 0
  not_copied = over.uncopied

  pub not_asked : Unasked k p.word
  not_asked = unasked

pub passed_uncopied : PassedStayUncopied
passed_uncopied k e coherent few x p h = none_comes k e coherent.sound few p.word (not_copied k coherent x p h) (not_asked k coherent x p h)
