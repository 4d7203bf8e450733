-- Of what a thread that waits for an object has in boxes of its slots nobody else has asked for a copy.
use Rattle.std.proofs.Common.{◌≡◌, ◌≤◌, ℕ, suc, ◌-◌, Bool, true, false, Some, refl, sym, ap, subst, ◌∙◌, arith}
use Rattle.law_words_ends.specs.Below.fr_base.declared.name.ObjNo.{ObjNo}
use Rattle.law_words_ends.specs.Below.fr_base.declared.place.Lval.{Lval}
use Rattle.law_words_ends.specs.Below.fr_base.declared.instruction.Instr.{Instr}
use Rattle.law_words_ends.specs.Below.fr_base.declared.instruction.Instr.TheVariants as instr
use Rattle.law_words_ends.specs.Below.fr_store.Keys.{Key, slot_k}
use Rattle.law_words_ends.specs.Below.fr_store.Typed.{Exact, Resolves}
use Rattle.law_words_ends.specs.Below.heap_partition.declared.value.Cell.{Cell}
use Rattle.law_words_ends.specs.Below.thread_state.View.{ThreadState}
use Rattle.law_words_ends.specs.Below.thread_state.declared.phase.Phase.TheVariants as phase
use Rattle.law_words_ends.specs.Below.server_model.Servers.{Cluster}
use Rattle.law_words_ends.specs.Below.coherent_memory.Names.{Among}
use Rattle.law_words_ends.specs.Below.coherent_memory.Things.{in_cell, things_of}
use Rattle.law_words_ends.specs.Below.coherent_memory.Follow.{Standing, Ground, cells_in, value_behind, leads, locate}
use Rattle.law_words_ends.specs.Below.coherent_memory.Paths.{Path, reads, shares, lends, path_of}
use Rattle.law_words_ends.specs.Below.coherent_memory.Sight.{sight}
use Rattle.law_words_ends.specs.Below.coherent_memory.Walking.{instr_of, path}
use Rattle.law_words_ends.specs.Below.coherent_memory.Words.{HasWords}
use Rattle.law_words_ends.specs.Below.coherent_types.ClusterTypes.{IsCoherent}
use Rattle.law_words_ends.specs.Below.law_words_paths.paths.HeapStore.{GoesOn, HasPaths}
use Rattle.law_words_ends.specs.Below.law_words_paths.paths.Pointing.{MayWrite}
use Rattle.law_words_ends.proofs.Below.law_words_paths.paths.Alike.{leads_in_heap}
use Rattle.law_words_ends.proofs.Below.law_words_paths.paths.Circles.{shorter}
use Rattle.law_words_ends.proofs.Below.law_words_paths.paths.Sole.{some_is}
use Rattle.law_words_ends.specs.Below.law_words_kept.reads.Reading.{Reads, copies as copies_it, dups, locks, shares as shares_it, lends as lends_it}
use Rattle.law_words_ends.proofs.Below.law_words_kept.reads.OwnChains.{OwnObject}
use Rattle.law_words_ends.proofs.Below.law_results_reads.Made.{OwnedBy, own_path}
use Rattle.law_words_ends.proofs.Below.law_results_reads.Mutables.{apart}
use Rattle.law_copies_kept.proofs.objects.Turned.{Unasked}
use Rattle.law_copies_kept.proofs.objects.Askers.{ReadsUnder, unasked_by, reads_to, reads_as_owner}

-- a path that is followed for reading
abbrev pub is_reading : Path → Bool
is_reading (reads w) = true
is_reading (shares w) = true
is_reading (lends w) = true
is_reading p = false

reads_so : (i : Instr) (w : Lval) (n : ℕ) (t : ThreadState) → Reads i w n → is_reading (path_of (Some i) t) ≡ true
reads_so _ w n t (copies_it e) = refl
reads_so _ w n t (shares_it e) = refl
reads_so _ w n t (lends_it e) = refl
reads_so _ w n t (dups e) = refl
reads_so _ w n t (locks e) = refl

-- a mutable borrow reads its place without its last star
lent_so : (i : Instr) (w v : Lval) (n : ℕ) → Reads i w n → i ≡ instr.BorrowMut v → (w ≡ v) × (v.depth ≡ suc n)
lent_so _ w v n (copies_it e) f = absurd (cc f)
lent_so _ w v n (shares_it e) f = absurd (cc f)
lent_so _ w v n (lends_it e) f = let same : w ≡ v = cc in (same, sym (ap (λ (z : Lval). z.depth) same) ∙ e)
lent_so _ w v n (dups e) f = absurd (cc f)
lent_so _ w v n (locks e) f = absurd (cc f)

module _ (k : Cluster) (coherent : IsCoherent k) (c : HasPaths k) (x : Standing) (goes : GoesOn k x) (old : ℕ) (waiting : x.thread.phase ≡ phase.WaitCell old) where
  abbrev words : HasWords (sight k)
  words = coherent.sound.words.have_words

  abbrev g : Ground
  g = (sight k).ground

  abbrev t : ℕ
  t = x.thread.number

  abbrev Reader : ObjNo → Type 0
  Reader o = ReadsUnder k c coherent.sound (words.word o) o

  -- what stands in a chain of a slot, and where a place leads over boxes and mutable references
  pub own_object : (o : ObjNo) → OwnObject k c x goes o → OwnedBy k c t o
  own_object o u = record { slot = u.slot; boxes = u.boxes; leads = u.leads_there }

  pub own_hop : (w : Lval) (base : Key) (boxes : ℕ) (type : Exact) (j : ℕ) (o : ObjNo) → Resolves c.types.typing.exact true (slot_k t w.slot) w.depth base boxes type → j ≤ w.depth → locate g t w.slot j ≡ Some (in_cell o) → OwnedBy k c t o
  own_hop w base boxes type j o res le located =
      let s = shorter c.types.typing.exact true (slot_k t w.slot) (w.depth - j) w.depth j base boxes type (omega (arith, le)) res in
      own_path k c x goes w.slot j s.base s.boxes s.type o s.res (leads_in_heap k c x goes w.slot j (in_cell o) located).0

  -- who reads it is the thread
  reader_mine : (o : ObjNo) → OwnedBy k c t o → (q : Reader o) → q.thread ≡ x
  reader_mine o own q = reads_as_owner k c coherent.sound (words.word o) o q x goes (λ d f e. no_pair d f e) (λ d f e. no_got d f e) own
    where
      no_pair : (d f : ℕ) → x.thread.phase ≡ phase.WaitPar d f → ⊥
      no_pair d f e = let no : phase.WaitCell old ≡ phase.WaitPar d f = sym waiting ∙ e in absurd (cc no)

      no_got : (d f : ℕ) → x.thread.phase ≡ phase.GotPar d f → ⊥
      no_got d f e = let no : phase.WaitCell old ≡ phase.GotPar d f = sym waiting ∙ e in absurd (cc no)

  unasked_of : (o : ObjNo) (e : Cell) → e.object ≡ o → Among e (cells_in (things_of k)) → (Reader o → ⊥) → Unasked k (words.word o)
  unasked_of o e same m = subst (λ p. (Reader p → ⊥) → Unasked k (words.word p)) same (unasked_by k c coherent.sound e m)

  -- where the thread doesn't read
  pub unasked_own : (p : Path) → path (sight k) x ≡ p → is_reading p ≡ false → (o : ObjNo) (e : Cell) → e.object ≡ o → Among e (cells_in (things_of k)) → OwnedBy k c t o → Unasked k (words.word o)
  unasked_own p is none o e same m own = unasked_of o e same m not_read
    where
      not_read : Reader o → ⊥
      not_read q =
          let at_x : path (sight k) q.thread ≡ p = ap (path (sight k)) (reader_mine o own q) ∙ is in
          let reads_there : is_reading (path (sight k) q.thread) ≡ true = ap (λ b. is_reading (path_of b q.thread.thread)) q.at ∙ reads_so q.instruction q.place q.stars q.thread.thread q.reads in
          let no : true ≡ false = sym reads_there ∙ ap is_reading at_x ∙ none in
          absurd (cc no)

  -- where it borrows mutably from the object at the end of its place
  pub unasked_lent : (w : Lval) → instr_of (sight k) x ≡ Some (instr.BorrowMut w) → MayWrite k c.types x w → (o : ObjNo) (e : Cell) → e.object ≡ o → Among e (cells_in (things_of k)) → locate g t w.slot w.depth ≡ Some (in_cell o) → Unasked k (words.word o)
  unasked_lent w code may o e same m end = unasked_of o e same m not_read
    where
      own : OwnedBy k c t o
      own = own_hop w may.base may.boxes may.type w.depth o may.resolves (omega arith) end

      not_read : Reader o → ⊥
      not_read q =
          let mine : q.thread ≡ x = reader_mine o own q in
          let i : q.instruction ≡ instr.BorrowMut w = some_is (sym q.at ∙ ap (instr_of (sight k)) mine ∙ code) in
          let l = lent_so q.instruction q.place w q.stars q.reads i in
          let next : locate g q.thread.thread.number q.place.slot (suc q.hop) ≡ Some (in_cell o) = ap (λ b. leads q.thread.thread.number (value_behind g b)) q.located ∙ reads_to k c coherent.sound (words.word o) o q in
          let there : locate g t w.slot (suc q.hop) ≡ Some (in_cell o) = subst (λ (z : Lval). locate g t z.slot (suc q.hop) ≡ Some (in_cell o)) l.0 (subst (λ (z : Standing). locate g z.thread.number q.place.slot (suc q.hop) ≡ Some (in_cell o)) mine next) in
          let u = q.under in
          apart k c x goes w.slot w.depth may.base may.boxes may.type may.resolves (suc q.hop) w.depth (omega (arith, u, l.1)) (omega arith) (in_cell o) there end
