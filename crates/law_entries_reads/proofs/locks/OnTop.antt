-- A box on top of a thread's temporary values isn't stale, as no place leads there: so its word is its object's.
use Rattle.std.proofs.Common.{◌≡◌, inl, inr, ℕ, zero, suc, ◌||◌, Bool, true, false, List, [], ◌∷◌, Option, Some, None, refl, ap, ◌∙◌}
use Rattle.std.specs.Prelude.{slice_get}
use Rattle.law_entries_reads.specs.Below.law_words_borrows.Below.fr_base.declared.place.Lval.{Lval}
use Rattle.law_entries_reads.specs.Below.law_words_borrows.Below.fr_base.declared.instruction.Instr.{Instr}
use Rattle.law_entries_reads.specs.Below.law_words_borrows.Below.fr_base.declared.instruction.Instr.TheVariants as instr
use Rattle.law_entries_reads.specs.Below.law_words_borrows.Below.thread_state.declared.phase.Phase.{Phase}
use Rattle.law_entries_reads.specs.Below.law_words_borrows.Below.thread_state.declared.phase.Phase.TheVariants as phase
use Rattle.law_entries_reads.specs.Below.law_words_borrows.Below.server_model.Servers.{Cluster}
use Rattle.law_entries_reads.specs.Below.law_words_borrows.Below.coherent_memory.Names.{Among}
use Rattle.law_entries_reads.specs.Below.law_words_borrows.Below.coherent_memory.Things.{Location, at_slot, at_temp, in_cell, Thing, borrows}
use Rattle.law_entries_reads.specs.Below.law_words_borrows.Below.coherent_memory.Follow.{Standing, Ground}
use Rattle.law_entries_reads.specs.Below.law_words_borrows.Below.coherent_memory.Sight.{sight}
use Rattle.law_entries_reads.specs.Below.law_words_borrows.Below.coherent_memory.Stale.{Reference, references, holder_of, is_held_at, same_location, is_among, lent_place, with_place, lent_places, one_star_less, changed_above, stale_above, taken_above}
use Rattle.law_entries_reads.specs.Below.law_words_borrows.Below.coherent_memory.Words.{IsStale}
use Rattle.law_entries_reads.proofs.Below.law_words_values.carried.Passing.{no_temp}

-- a place to which no temporary value belongs
abbrev IsNoTemp : Option Location → Type 0
IsNoTemp o = (u i : ℕ) → o ≡ Some (at_temp u i) → ⊥

-- another location isn't that of a temporary value
no_match : (t j : ℕ) (l : Location) → ((u i : ℕ) → l ≡ at_temp u i → ⊥) → same_location l (at_temp t j) ≡ true → ⊥
no_match t j (at_slot u i) f e = cc e
no_match t j (at_temp u i) f e = f u i refl
no_match t j (in_cell o) f e = cc e

-- no reference was made from there
unheld_temp : (t j : ℕ) (o : Option Location) → IsNoTemp o → is_held_at (at_temp t j) o ≡ true → ⊥
unheld_temp t j None f e = cc e
unheld_temp t j (Some l) f e = no_match t j l (λ u i q. f u i (ap (λ x. Some x) q)) e

holder_no_temp : (g : Ground) (l : Location) (w : Lval) → IsNoTemp (holder_of g l w)
holder_no_temp g (at_slot t i) w u j e = no_temp g t w.slot w.depth u j e
holder_no_temp g (at_temp t i) w u j e = no_temp g t w.slot w.depth u j e
holder_no_temp g (in_cell o) w u j e = cc e

-- of all references
references_no_temp : (g : Ground) (b : List Thing) (r : Reference) → Among r (references g b) → IsNoTemp r.holder
references_no_temp g [] r h = absurd h
references_no_temp g (borrows l x ∷ b) r (inl e) = λ u i q. holder_no_temp g l x.holder u i (ap (λ (z : Reference). z.holder) e ∙ q)
references_no_temp g (borrows l x ∷ b) r (inr h) = references_no_temp g b r h
references_no_temp g (_ ∷ b) r h = references_no_temp g b r h

-- nor was an object taken from there
lent_no_temp : (g : Ground) (t : ℕ) (p : Phase) (i : Option Instr) → IsNoTemp (lent_place g t p i)
lent_no_temp g t (phase.Taken w) (Some (instr.BorrowMut q)) = by q.depth
  where
    by : (d : ℕ) → IsNoTemp (one_star_less g t q.slot d)
    by zero u i e = cc e
    by (suc n) u i e = no_temp g t q.slot n u i e
lent_no_temp g t _ _ = λ u i e. cc e

-- where it isn't among the other places
one_more_place : (t j : ℕ) (ls : List Location) (o : Option Location) → IsNoTemp o → (is_among (at_temp t j) ls ≡ true → ⊥) → is_among (at_temp t j) (with_place o ls) ≡ true → ⊥
one_more_place t j ls None f go e = go e
one_more_place t j ls (Some l) f go e = either (same_location l (at_temp t j)) refl e
  where
    either : (b : Bool) → same_location l (at_temp t j) ≡ b → (b || is_among (at_temp t j) ls) ≡ true → ⊥
    either true q r = no_match t j l (λ u i z. f u i (ap (λ y. Some y) z)) q
    either false q r = go r

untaken_temp : (code : List Instr) (g : Ground) (t j : ℕ) (xs : List Standing) → is_among (at_temp t j) (lent_places code g xs) ≡ true → ⊥
untaken_temp code g t j [] e = cc e
untaken_temp code g t j (x ∷ xs) e =
    let i : Option Instr = slice_get code x.thread.pc in
    one_more_place t j (lent_places code g xs) (lent_place g x.thread.number x.thread.phase i) (lent_no_temp g x.thread.number x.thread.phase i) (untaken_temp code g t j xs) e

-- a temporary value isn't stale
pub temp_fresh : (k : Cluster) (t j : ℕ) → IsStale (sight k) (Some (at_temp t j)) → ⊥
temp_fresh k t j (changed_above r h held changed) = unheld_temp t j r.holder (references_no_temp (sight k).ground (sight k).things r h) held
temp_fresh k t j (stale_above r h held above) = unheld_temp t j r.holder (references_no_temp (sight k).ground (sight k).things r h) held
temp_fresh k t j (taken_above e) = untaken_temp (sight k).code (sight k).ground t j (sight k).ground.threads e
