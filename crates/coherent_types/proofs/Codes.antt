-- The codes of the examples.
use Rattle.std.proofs.Common.{◌≡◌, refl, sym, ap, ◌∙◌, subst, pos, ℕ, ◌+◌, [], ◌∷◌, Option, Some, None, true, arith}
use Rattle.std.specs.Prelude.{slice_get}
use Rattle.coherent_memory.specs.Below.fr_base.declared.instruction.Operand.{Operand}
use Rattle.coherent_memory.specs.Below.fr_base.declared.instruction.Operand.TheVariants as operand
use Rattle.coherent_memory.specs.Below.fr_base.declared.instruction.Instr.{Instr}
use Rattle.coherent_memory.specs.Below.fr_base.declared.instruction.Instr.TheVariants as instr
use Rattle.coherent_memory.specs.Below.fr_typing.Kinds.{Kind, unit, Piece, whole, gone, boxed, join_kind, join_piece, map_some}
use Rattle.coherent_memory.specs.Below.fr_typing.Places.{Slot, Env, found, alike, type_at, put_at}
use Rattle.coherent_memory.specs.Below.fr_store.JoinRows.{join_env}
use Rattle.sample_clusters.specs.Clusters.{place, boxed_code}
use Rattle.coherent_memory.specs.Below.fr_code.CodeTypes.{Table, Entry, going, takes_const, takes_unit, takes_pop, i_let, i_assign, i_copy, i_move, i_box, i_print, i_discard, i_drop}
use Rattle.coherent_memory.specs.Below.fr_code.Joins.{JoinsTo, alone, first, second}
use Rattle.coherent_memory.specs.Below.fr_code.CodeTable.{Successors, Leads, to_next, AllEnter, IsTable}
use Rattle.coherent_memory.proofs.Below.fr_code.Chains.{leads, stops, chained}
use Rattle.coherent_types.specs.Codes.{boxed_entries, boxed_table, moved_code, CodesCompute}

pub boxed_is_typed : IsTable boxed_code boxed_table
boxed_is_typed =
    chained boxed_code boxed_entries unit refl (
      leads (i_box (takes_const refl) refl),
      (
        leads (i_let (120 ∷ []) (takes_pop refl) refl),
        (
          leads (i_assign (takes_const refl) (record { named = refl; short = omega arith; is = refl }) (record { free = refl; path = refl }) refl refl refl),
          (
            leads (i_copy refl (record { named = refl; short = omega arith; is = refl }) refl refl),
            (
              leads (i_print (takes_pop refl)),
              (
                leads (i_drop refl refl refl),
                (stops (takes_unit refl), tt),
              ),
            ),
          ),
        ),
      ),
    )

-- WHERE A PLACE HAS MOVED AWAY

-- no slot; one slot; one slot from which all has moved away
abbrev Bare : Env → Type 0
Bare e = e ≡ []

abbrev One : Env → Type 0
One e = (s : Slot) × (e ≡ s ∷ [])

abbrev Moved : Env → Type 0
Moved e = (s : Slot) × (k : Kind) × (e ≡ s ∷ []) × (s.part ≡ gone k)

bare_first : (e d : Env) → join_env [] e ≡ Some d → Bare d
bare_first [] d h = cc
bare_first (s ∷ e) d h = absurd cc

bare_second : (e d : Env) → join_env e [] ≡ Some d → Bare d
bare_second [] d h = cc
bare_second (s ∷ e) d h = absurd cc

-- one slot's join with another
one_by : (s : Slot) (o : Option Piece) (d : Env) → map_some (λ q. record s { part = q } ∷ []) o ≡ Some d → One d
one_by s None d h = absurd cc
one_by s (Some q) d h = (record s { part = q }, cc)

one_first : (s : Slot) (e d : Env) → join_env (s ∷ []) e ≡ Some d → One d
one_first s [] d h = absurd cc
one_first s (s2 ∷ []) d h = one_by s (join_piece (alike []) s.part s2.part) d h
one_first s (s2 ∷ s3 ∷ e) d h = absurd cc

one_second : (s : Slot) (e d : Env) → join_env e (s ∷ []) ≡ Some d → One d
one_second s [] d h = absurd cc
one_second s (s2 ∷ []) d h = one_by s2 (join_piece (alike []) s2.part s.part) d h
one_second s (s2 ∷ s3 ∷ []) d h = absurd cc
one_second s (s2 ∷ s3 ∷ s4 ∷ e) d h = absurd cc

moved_by : (s : Slot) (o : Option Kind) (d : Env) → map_some (λ q. record s { part = q } ∷ []) (map_some gone o) ≡ Some d → Moved d
moved_by s None d h = absurd cc
moved_by s (Some k) d h = (record s { part = gone k }, k, cc, refl)

moved_first : (s : Slot) (k : Kind) (p : Piece) (d : Env) → map_some (λ q. record s { part = q } ∷ []) (join_piece (alike []) (gone k) p) ≡ Some d → Moved d
moved_first s k (whole l) d h = absurd cc
moved_first s k (gone l) d h = moved_by s (join_kind (alike []) k l) d h
moved_first s k (boxed p) d h = absurd cc

moved_second : (s : Slot) (k : Kind) (p : Piece) (d : Env) → map_some (λ q. record s { part = q } ∷ []) (join_piece (alike []) p (gone k)) ≡ Some d → Moved d
moved_second s k (whole l) d h = absurd cc
moved_second s k (gone l) d h = moved_by s (join_kind (alike []) l k) d h
moved_second s k (boxed p) d h = absurd cc

gone_first : (s : Slot) (k : Kind) → s.part ≡ gone k → (e d : Env) → join_env (s ∷ []) e ≡ Some d → Moved d
gone_first s k g [] d h = absurd cc
gone_first s k g (s2 ∷ []) d h = moved_first s k s2.part d (subst (λ q. map_some (λ r. record s { part = r } ∷ []) (join_piece (alike []) q s2.part) ≡ Some d) g h)
gone_first s k g (s2 ∷ s3 ∷ e) d h = absurd cc

gone_second : (s : Slot) (k : Kind) → s.part ≡ gone k → (e d : Env) → join_env e (s ∷ []) ≡ Some d → Moved d
gone_second s k g [] d h = absurd cc
gone_second s k g (s2 ∷ []) d h = moved_second s2 k s2.part d (subst (λ q. map_some (λ r. record s2 { part = r } ∷ []) (join_piece (alike []) s2.part q) ≡ Some d) g h)
gone_second s k g (s2 ∷ s3 ∷ []) d h = absurd cc
gone_second s k g (s2 ∷ s3 ∷ s4 ∷ e) d h = absurd cc

-- each is kept where ways meet
bare_joins : {x y : Entry} → JoinsTo x y → Bare x.env → Bare y.env
bare_joins alone h = h
bare_joins {y = y} (first other j) h = bare_first other.env y.env (subst (λ e. join_env e other.env ≡ Some y.env) h j.env)
bare_joins {y = y} (second other j) h = bare_second other.env y.env (subst (λ e. join_env other.env e ≡ Some y.env) h j.env)

one_joins : {x y : Entry} → JoinsTo x y → One x.env → One y.env
one_joins alone h = h
one_joins {y = y} (first other j) h = one_first h.0 other.env y.env (subst (λ e. join_env e other.env ≡ Some y.env) h.1 j.env)
one_joins {y = y} (second other j) h = one_second h.0 other.env y.env (subst (λ e. join_env other.env e ≡ Some y.env) h.1 j.env)

moved_joins : {x y : Entry} → JoinsTo x y → Moved x.env → Moved y.env
moved_joins alone h = h
moved_joins {y = y} (first other j) h = gone_first h.0 h.1 h.3 other.env y.env (subst (λ e. join_env e other.env ≡ Some y.env) h.2 j.env)
moved_joins {y = y} (second other j) h = gone_second h.0 h.1 h.3 other.env y.env (subst (λ e. join_env other.env e ≡ Some y.env) h.2 j.env)

-- NO TABLE

-- the table goes on behind the instruction at that place
abbrev Next : Table → ℕ → (Env → Type 0) → Type 0
Next table pc P = (y : Entry) × (table pc ≡ Some y) × P y.env

after_box : {table : Table} {pc : ℕ} {x : Entry} {o : Operand} {ss : Successors} → Leads table pc x (instr.Box o) ss → AllEnter table ss → Bare x.env → Next table (pc + 1) Bare
after_box (to_next (i_box t f)) n h = (n.0.entry, n.0.at, bare_joins n.0.joins h)

after_let : {table : Table} {pc : ℕ} {x : Entry} {o : Operand} {ss : Successors} → Leads table pc x (instr.Let o) ss → AllEnter table ss → Bare x.env → Next table (pc + 1) One
after_let (to_next (i_let {k = k} x t f)) n h = (n.0.entry, n.0.at, one_joins n.0.joins (record { name = Some x; part = whole k }, ap (λ e. record { name = Some x; part = whole k } ∷ e) h))

after_read : {table : Table} {pc : ℕ} {x : Entry} {ss : Successors} → Leads table pc x (instr.Read (place 0 0) true) ss → AllEnter table ss → One x.env → Next table (pc + 1) Moved
after_read (to_next (i_move {k = k} w a c f p)) n h = (n.0.entry, n.0.at, moved_joins n.0.joins (record (h.0) { part = gone k }, k, ap (λ e. put_at e (place 0 0) (gone k)) h.1, refl))

after_discard : {table : Table} {pc : ℕ} {x : Entry} {ss : Successors} → Leads table pc x instr.Discard ss → AllEnter table ss → Moved x.env → Next table (pc + 1) Moved
after_discard (to_next (i_discard t)) n h = (n.0.entry, n.0.at, moved_joins n.0.joins h)

not_gone : {k l : Kind} → found (gone l) ≡ found (whole k) → ⊥
not_gone e = absurd cc

no_second : {table : Table} {pc : ℕ} {x : Entry} {ss : Successors} → Leads table pc x (instr.Read (place 0 0) true) ss → Moved x.env → ⊥
no_second (to_next (i_move {k = k} w a c f p)) h =
    let g : found h.0.part ≡ found (whole k) = sym (ap (λ e. type_at e (place 0 0)) h.2) ∙ a.is in
    not_gone (subst (λ q. found q ≡ found (whole k)) h.3 g)

cc_some : {i j : Instr} → Some i ≡ Some j → i ≡ j
cc_some e = cc

-- what stands at a place leads on from its entry
led : (table : Table) → IsTable moved_code table → (pc : ℕ) (x : Entry) (i : Instr) → table pc ≡ Some x → slice_get moved_code pc ≡ Some i → (ss : Successors) × Leads table pc x i ss × AllEnter table ss
led table t pc x i e f =
    let r = t.rows pc x e in
    let same : r.instruction ≡ i = cc_some (sym r.there ∙ f) in
    (r.successors, subst (λ j. Leads table pc x j r.successors) same r.leads, r.enter)

moved_has_none : (table : Table) → IsTable moved_code table → ⊥
moved_has_none table t =
    let l0 = led table t 0 (going [] [] t.main) (instr.Box (operand.Const (pos 1))) t.starts refl in
    let a = after_box l0.1 l0.2 refl in
    let l1 = led table t 1 a.0 (instr.Let operand.Pop) a.1 refl in
    let b = after_let l1.1 l1.2 a.2 in
    let l2 = led table t 2 b.0 (instr.Read (place 0 0) true) b.1 refl in
    let c = after_read l2.1 l2.2 b.2 in
    let l3 = led table t 3 c.0 instr.Discard c.1 refl in
    let d = after_discard l3.1 l3.2 c.2 in
    let l4 = led table t 4 d.0 (instr.Read (place 0 0) true) d.1 refl in
    no_second l4.1 d.2

pub codes_compute : CodesCompute
codes_compute = record { boxed = boxed_is_typed; moved = moved_has_none }
