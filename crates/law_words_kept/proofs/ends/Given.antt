-- What an instruction gives up stands at a place that the thread may write.
use Rattle.std.proofs.Common.{◌≡◌, ℕ, suc, ◌&&◌, not, Bool, true, false, List, [], ◌∷◌, length, Some, None, refl, sym, ap, subst, ◌∙◌, arith}
use Rattle.std.specs.Prelude.{is_some, if◌then◌else◌}
use Rattle.law_words_kept.proofs.Below.fr_typing.PlaceLemmas.{eq_cases}
use Rattle.std.specs.List.{list_all}
use Rattle.law_words_kept.specs.Below.fr_base.declared.place.Lval.{Lval}
use Rattle.law_words_kept.specs.Below.fr_base.declared.instruction.Operand.{Operand}
use Rattle.law_words_kept.specs.Below.fr_base.declared.instruction.Instr.{Instr}
use Rattle.law_words_kept.specs.Below.fr_base.declared.instruction.Instr.TheVariants as instr
use Rattle.law_words_kept.specs.Below.fr_typing.Kinds.{Kind, own, shared, mutable, view, whole}
use Rattle.law_words_kept.specs.Below.fr_typing.Places.{Slot, Env}
use Rattle.law_words_kept.specs.Below.fr_typing.Checks.{is_owned, names_from}
use Rattle.law_words_kept.specs.Below.fr_store.Keys.{slot_k}
use Rattle.law_words_kept.specs.Below.fr_store.Typed.{KeyTypes, here}
use Rattle.law_words_kept.proofs.Below.fr_store.Below.{part_zero}
use Rattle.law_words_kept.specs.Below.fr_code.CodeTypes.{Entry, Table, is_variable, InstrTypes, i_drop, i_unlock, outlive}
use Rattle.law_words_kept.specs.Below.fr_code.CodeTable.{Leads, to_next, ends, Successors}
use Rattle.law_words_kept.specs.Below.server_model.Servers.{Cluster}
use Rattle.law_words_kept.specs.Below.coherent_memory.Follow.{Standing}
use Rattle.law_words_kept.specs.Below.coherent_memory.Sight.{sight}
use Rattle.law_words_kept.specs.Below.coherent_memory.Walking.{instr_of}
use Rattle.law_words_kept.specs.Below.law_words_paths.paths.HeapStore.{GoesOn, HasPaths}
use Rattle.law_words_kept.specs.Below.law_words_paths.paths.Pointing.{MayWrite}
use Rattle.law_words_kept.proofs.Below.law_words_paths.paths.Sole.{some_is}
use Rattle.law_words_kept.proofs.Below.law_words_paths.paths.Forms.{running_typed}
use Rattle.law_words_kept.proofs.Below.law_words_paths.paths.MayWrites.{variable_unmarked, may_write_there}
use Rattle.law_words_kept.proofs.Below.law_words_paths.paths.Ended.{IsDropped, slots_long, newest_free}
use Rattle.law_words_kept.specs.ends.Dropped.{GivesUp, written, dropped, put_back, GivenUpMayBe}

-- THE NEWEST SLOT

-- it is a variable that may go
record IsNewest (x : Entry) : Type 0 where
  dropped : IsDropped x
  named : is_some dropped.slot.name ≡ true

drop_newest : (table : Table) (x y : Entry) → InstrTypes table x instr.DropSlot y → IsNewest x
drop_newest table _ _ (i_drop {e = e} {s = s} named locked outlives) = record { dropped = record { awake = refl; slot = s; below = e; env = refl; outlives = outlives }; named = named }

-- an owned type names no slot
owned_names : (n : ℕ) (k : Kind) → is_owned k ≡ true → names_from n k ≡ false
owned_names n (own o) e = refl
owned_names n (shared us) e = absurd cc
owned_names n (mutable us) e = absurd cc
owned_names n (view o) e = absurd cc

all_outlive : (n : ℕ) (ts : List Kind) → list_all is_owned ts ≡ true → outlive n ts ≡ true
all_outlive n [] e = refl
all_outlive n (k ∷ ts) e = by (is_owned k) refl e (all_outlive n ts)
  where
    by : (b : Bool) → is_owned k ≡ b → b && list_all is_owned ts ≡ true → (list_all is_owned ts ≡ true → outlive n ts ≡ true) → not (names_from n k) && list_all (λ k. not (names_from n k)) ts ≡ true
    by true is f go = ap (λ b. not b && list_all (λ k. not (names_from n k)) ts) (owned_names n k is) ∙ go f
    by false is f go = absurd cc

unlock_newest : (table : Table) (x y : Entry) → InstrTypes table x instr.Unlock y → IsNewest x
unlock_newest table _ _ (i_unlock {e = e} {ts = ts} {x = o} {w = w} {name = name} owned) = record {
  dropped = record {
    awake = refl;
    slot = record { name = Some name; part = whole (own o) };
    below = record { name = None; part = whole (shared (w ∷ [])) } ∷ e;
    env = refl;
    outlives = all_outlive (length (record { name = None; part = whole (shared (w ∷ [])) } ∷ e)) ts owned;
  };
  named = refl;
}

newest_of : (table : Table) (pc : ℕ) (x : Entry) (i : Instr) (ss : Successors) → Leads table pc x i ss → ((y : Entry) → InstrTypes table x i y → IsNewest x) → ((y : Operand) → i ≡ instr.End y → ⊥) → IsNewest x
newest_of table pc x i _ (to_next {y = y} typed) go other = go y typed
newest_of table pc _ _ _ (ends {o = o} takes) go other = absurd (other o refl)

first_variable : (s : Slot) (e : Env) (i : ℕ) → length e ≡ i → is_some s.name ≡ true → is_variable (s ∷ e) i ≡ true
first_variable s e i same named = eq_cases (λ b. (if b then is_some s.name else is_variable e i) ≡ true) i (length e) (λ y. named) (λ ne. absurd (ne (sym same)))

module _ (k : Cluster) (c : HasPaths k) (x : Standing) (g : GoesOn k x) where
  abbrev E : KeyTypes
  E = c.types.typing.exact

  abbrev entry : Entry
  entry = (running_typed k c x g).entry

  newest : (slot : ℕ) → length x.thread.slots ≡ suc slot → IsNewest entry → MayWrite k c.types x (record { slot = slot; depth = 0 })
  newest slot len d =
      let below : length d.dropped.below ≡ slot = (let l = slots_long k c x g in omega (arith, l, len, ap length d.dropped.env)) in
      let variable : is_variable entry.env slot ≡ true = subst (λ e. is_variable e slot ≡ true) (sym d.dropped.env) (first_variable d.dropped.slot d.dropped.below slot below d.named) in
      record {
        free = newest_free k c x g slot len d.dropped;
        base = slot_k x.thread.number slot;
        boxes = 0;
        type = E (slot_k x.thread.number slot);
        resolves = here (part_zero (E (slot_k x.thread.number slot)));
        unmarked = variable_unmarked k c x g slot variable;
      }

  newest_at : (i : Instr) → instr_of (sight k) x ≡ Some i → ((y : Entry) → InstrTypes c.types.table entry i y → IsNewest entry) → ((y : Operand) → i ≡ instr.End y → ⊥) → IsNewest entry
  newest_at i at go other =
      let row = c.types.is_table.rows x.thread.pc entry (running_typed k c x g).known in
      let same : row.instruction ≡ i = some_is (sym row.there ∙ at) in
      newest_of c.types.table x.thread.pc entry i row.successors (subst (λ z. Leads c.types.table x.thread.pc entry z row.successors) same row.leads) go other

  given : (i : Instr) (w : Lval) → instr_of (sight k) x ≡ Some i → GivesUp x.thread i w → MayWrite k c.types x w
  given i w at (written to) = may_write_there k c x g i w at to
  given _ _ at (dropped slot len) = newest slot len (newest_at instr.DropSlot at (λ y t. drop_newest c.types.table entry y t) (λ o e. absurd cc))
  given _ _ at (put_back slot len) = newest slot len (newest_at instr.Unlock at (λ y t. unlock_newest c.types.table entry y t) (λ o e. absurd cc))

pub given_up_may_be : GivenUpMayBe
given_up_may_be k c x i w g at gives = given k c x g i w at gives
