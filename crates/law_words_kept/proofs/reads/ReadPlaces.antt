-- What typing lets an instruction read is a place that the thread may read.
use Rattle.std.proofs.Common.{◌≡◌, ◌⊎◌, inl, inr, ℕ, true, false, Some, refl, sym, ap, subst, ◌∙◌}
use Rattle.law_counts_sums.specs.Below.fr_base.declared.place.Lval.{Lval}
use Rattle.law_counts_sums.specs.Below.fr_base.declared.instruction.Instr.{Instr}
use Rattle.law_counts_sums.specs.Below.fr_base.declared.instruction.Instr.TheVariants as instr
use Rattle.law_counts_sums.specs.Below.fr_typing.Kinds.{own, mutex, Piece, whole}
use Rattle.law_counts_sums.specs.Below.fr_typing.Places.{found, read_blocked}
use Rattle.law_counts_sums.specs.Below.fr_store.Keys.{slot_k}
use Rattle.law_counts_sums.specs.Below.fr_store.Typed.{KeyTypes}
use Rattle.law_counts_sums.proofs.Below.fr_store.Below.{mut_place, resolved}
use Rattle.law_counts_sums.proofs.Below.fr_store.ThreadKept.{unlent_key}
use Rattle.law_words_paths.specs.Below.fr_sound.States.{hand_key, hand_kind}
use Rattle.law_counts_sums.specs.Below.fr_code.CodeTypes.{Entry, Table, HasType, is_variable, wait, InstrTypes, i_copy, i_borrow, i_dup, i_lock}
use Rattle.law_counts_sums.specs.Below.fr_code.CodeTable.{Leads, to_next, ends, Successors}
use Rattle.law_counts_sums.specs.Below.thread_state.declared.value.Value.TheVariants as value
use Rattle.law_counts_sums.specs.Below.server_model.Servers.{Cluster}
use Rattle.law_counts_sums.specs.Below.coherent_memory.Follow.{Standing}
use Rattle.law_counts_sums.specs.Below.coherent_memory.Sight.{sight}
use Rattle.law_counts_sums.specs.Below.coherent_memory.Walking.{instr_of}
use Rattle.law_words_paths.specs.Below.coherent_types.ClusterTypes.{slot_form}
use Rattle.law_words_paths.specs.paths.HeapStore.{heap_store, GoesOn, IsUnmarked, HasPaths}
use Rattle.law_words_paths.specs.paths.Pointing.{MayWrite, lends as lends_to}
use Rattle.law_words_paths.proofs.paths.Sole.{some_is}
use Rattle.law_words_paths.proofs.paths.Forms.{running_typed, slot_part, names}
use Rattle.law_words_paths.proofs.paths.MayWrites.{wait_names, top_free, awake_thread, slot_there, no_mark, may_write_there}
use Rattle.law_words_kept.specs.reads.Reading.{Reads, copies, shares, lends, dups, locks, MayRead, MayReadThere}
use Rattle.law_words_kept.proofs.reads.Meets.{any_way}

-- what the rows of the typing grant a read
record IsReadable (x : Entry) (w : Lval) : Type 0 where
  awake : x.forked ≡ false
  type : Piece
  has : HasType x.env w (found type)
  free : read_blocked x.env w.slot ≡ false
  waits : wait x.temps ≡ true

readable_copy : (table : Table) (x y : Entry) (w : Lval) → InstrTypes table x (instr.Read w false) y → IsReadable x w
readable_copy table _ _ w (i_copy {k = k} waits has may free) = record { awake = refl; type = whole k; has = has; free = free; waits = waits }

readable_borrow : (table : Table) (x y : Entry) (w : Lval) → InstrTypes table x (instr.Borrow w) y → IsReadable x w
readable_borrow table _ _ w (i_borrow {k = k} waits has free) = record { awake = refl; type = whole k; has = has; free = free; waits = waits }

readable_dup : (table : Table) (x y : Entry) (w : Lval) → InstrTypes table x (instr.Dup w) y → IsReadable x w
readable_dup table _ _ w (i_dup {x = o} waits has free) = record { awake = refl; type = whole (own (mutex o)); has = has; free = free; waits = waits }

readable_lock : (table : Table) (x y : Entry) (w : Lval) → InstrTypes table x (instr.Lock w) y → IsReadable x w
readable_lock table _ _ w (i_lock {x = o} name waits has free fresh) = record { awake = refl; type = whole (own (mutex o)); has = has; free = free; waits = waits }

-- a mutable borrow may write what it reads
readable : (table : Table) (x y : Entry) (i : Instr) (w : Lval) (n : ℕ) → InstrTypes table x i y → Reads i w n → IsReadable x w ⊎ (i ≡ instr.BorrowMut w)
readable table x y _ w n typed (copies d) = inl (readable_copy table x y w typed)
readable table x y _ w n typed (shares d) = inl (readable_borrow table x y w typed)
readable table x y _ w n typed (lends d) = inr refl
readable table x y _ w n typed (dups d) = inl (readable_dup table x y w typed)
readable table x y _ w n typed (locks d) = inl (readable_lock table x y w typed)

readable_at : (table : Table) (pc : ℕ) (x : Entry) (i : Instr) (ss : Successors) (w : Lval) (n : ℕ) → Leads table pc x i ss → Reads i w n → IsReadable x w ⊎ (i ≡ instr.BorrowMut w)
readable_at table pc x i _ w n (to_next {y = y} typed) reads = readable table x y i w n typed reads
readable_at table pc _ _ _ w n (ends takes) reads = elim reads [ ]

module _ (k : Cluster) (c : HasPaths k) (x : Standing) (g : GoesOn k x) where
  abbrev n : ℕ
  n = x.thread.number

  abbrev E : KeyTypes
  E = c.types.typing.exact

  abbrev entry : Entry
  entry = (running_typed k c x g).entry

  may_read : (w : Lval) → IsReadable entry w → MayRead k c.types x w
  may_read w may =
      let thread = awake_thread k c x g may.awake in
      let lt = slot_there entry.env w (found_type w may) may.has.is in
      let q = resolved (slot_k n) E (mut_place c.types.typing.rank E (heap_store k c.types) c.types.state.typed) entry.env thread.nested thread.slots w may.type lt may.has.is in
      record {
        free = unlent_key (slot_k n) c.types.typing.rank (hand_key n entry.temps) entry.env E (heap_store k c.types) (hand_kind entry.temps) (running_typed k c x g).keys thread w.slot may.free
            (λ u is. top_free n w.slot E entry.temps thread.temp (wait_names w.slot entry.temps may.waits) true u is);
        base = q.base;
        boxes = q.boxes;
        type = q.type;
        resolves = q.res;
        unmarked = unmarked w.slot may.has.named;
      }
    where
      found_type : (w : Lval) → IsReadable entry w → Piece
      found_type w may = may.type

      unmarked : (i : ℕ) → is_variable entry.env i ≡ true → IsUnmarked x i
      unmarked i named m e =
          let q = slot_part k c x g i (value.Held m) e in
          let form : slot_form (names k c x g) q.slot true (value.Held m) ≡ true = subst (λ b. slot_form (names k c x g) q.slot b (value.Held m) ≡ true) (sym q.variable ∙ named) q.form in
          no_mark (names k c x g) q.slot.part m form

  -- what may be written may be read
  written_too : (w : Lval) → MayWrite k c.types x w → MayRead k c.types x w
  written_too w m = record {
    free = λ j u is. m.free j true u is;
    base = m.base;
    boxes = m.boxes;
    type = m.type;
    resolves = any_way E (slot_k n w.slot) w.depth m.base m.boxes m.type m.resolves;
    unmarked = m.unmarked;
  }

  pub may_read_there : (i : Instr) (w : Lval) (m : ℕ) → instr_of (sight k) x ≡ Some i → Reads i w m → MayRead k c.types x w
  may_read_there i w m at reads =
      let row = c.types.is_table.rows x.thread.pc entry (running_typed k c x g).known in
      let same : row.instruction ≡ i = some_is (sym row.there ∙ at) in
      by (readable_at c.types.table x.thread.pc entry i row.successors w m (subst (λ z. Leads c.types.table x.thread.pc entry z row.successors) same row.leads) reads)
    where
      by : IsReadable entry w ⊎ (i ≡ instr.BorrowMut w) → MayRead k c.types x w
      by (inl r) = may_read w r
      by (inr e) = written_too w (may_write_there k c x g (instr.BorrowMut w) w (at ∙ ap Some e) lends_to)

pub may_read_so : MayReadThere
may_read_so k c x i w n g at reads = may_read_there k c x g i w n at reads
