-- What a write leaves as it was: what is given up is told to whoever has what it leads to, and the server's rest shows what it showed; a mark on a reference isn't shown.
use Rattle.std.proofs.Common.{◌≡◌, ℕ, zero, suc, List, [], ◌∷◌, map, Option, Some, None, refl, ap, ap₂, subst, ◌∙◌, arith}
use Rattle.std.specs.Prelude.{slice_get, slice_set}
use Rattle.law_heap_writes.specs.Below.fr_base.declared.release.Released.TheVariants as released
use Rattle.law_heap_writes.specs.Below.global_addr.Words.{server_of}
use Rattle.law_heap_writes.specs.Below.heap_partition.declared.value.Owned.{Owned}
use Rattle.law_heap_writes.specs.Below.heap_partition.declared.value.Owned.TheVariants as owned
use Rattle.law_heap_writes.specs.Below.journal.declared.act.Act.TheVariants as act
use Rattle.law_heap_writes.specs.Below.server_msgs.declared.message.Message.TheVariants as message
use Rattle.law_heap_writes.specs.Below.thread_state.declared.value.Value.{Value}
use Rattle.law_heap_writes.specs.Below.thread_state.declared.value.Value.TheVariants as value
use Rattle.law_heap_writes.specs.Below.server_model.Servers.{Rest}
use Rattle.law_heap_writes.specs.Below.server_model.Work.{Work, Hand, note, with_temps}
use Rattle.law_heap_writes.specs.Below.server_model.Places.{written, note_slot, note_write}
use Rattle.law_heap_writes.specs.Below.server_model.Drop.{home_of, give_up}
use Rattle.law_words_writes.proofs.Below.law_heap_still.events.Readied.{same_rest}
use Rattle.law_heap_writes.specs.Below.coherent_memory.OneHeap.{plain_value}
use Rattle.law_heap_writes.proofs.Below.law_counts_sums.Bags.{rest_things}
use Rattle.law_words_writes.proofs.Below.law_heap_still.events.Sites.{shown, Moves, sends}

pub gives_up : (v : Owned) (w : Work) → Moves [] [] w.rest (give_up v w).rest
gives_up (owned.Box p) w = sends [] [] w.rest (note (act.Condemn p.object p.word) w) (server_of p.word) (message.Drop p.word p.object) (same_rest w.rest) (λ q z. omega (arith, z))
gives_up (owned.Mutex m) w = sends [] [] w.rest (note (act.LetGo (released.Mutex m)) w) m.home (message.Release (released.Mutex m)) (same_rest w.rest) (λ q z. omega (arith, z))
gives_up (owned.Task u) w = sends [] [] w.rest (note (act.LetGo (released.Task u)) w) (home_of u) (message.Release (released.Task u)) (same_rest w.rest) (λ q z. omega (arith, z))
gives_up owned.Nothing w = same_rest w.rest
gives_up owned.Unit w = same_rest w.rest
gives_up (owned.Int i) w = same_rest w.rest

pub given_labels : (v : Owned) (w : Work) → (give_up v w).labels ≡ w.labels
given_labels (owned.Box p) w = refl
given_labels (owned.Mutex m) w = refl
given_labels (owned.Task u) w = refl
given_labels owned.Nothing w = refl
given_labels owned.Unit w = refl
given_labels (owned.Int i) w = refl

-- one after the other
pub then_moves : (a b c : Rest) → Moves [] [] a b → Moves [] [] b c → Moves [] [] a c
then_moves a b c x y = record { number = y.number ∙ x.number; alike = λ w z. x.alike w z ∙ subst (λ m. shown w (rest_things m 0 b) ≡ shown w (rest_things m 0 c)) x.number (y.alike w z) }

-- another value that shows the same, and a list that shows the same with another value in its place
set_there : (vs : List Value) (j : ℕ) (v new : Value) → slice_get vs j ≡ Some v → plain_value new ≡ plain_value v → map plain_value (slice_set vs j new) ≡ map plain_value vs
set_there [] j v new e f = absurd (cc e)
set_there (x ∷ vs) zero v new e f = let same : v ≡ x = cc in ap (λ u. u ∷ map plain_value vs) (f ∙ ap plain_value same)
set_there (x ∷ vs) (suc j) v new e f = ap (λ l. plain_value x ∷ l) (set_there vs j v new e f)

pub set_alike : (vs us : List Value) (j : ℕ) (v : Value) → map plain_value vs ≡ map plain_value us → map plain_value (slice_set vs j v) ≡ map plain_value (slice_set us j v)
set_alike [] [] j v e = refl
set_alike [] (u ∷ us) j v e = absurd (cc e)
set_alike (x ∷ vs) [] j v e = absurd (cc e)
set_alike (x ∷ vs) (u ∷ us) zero v e = let rest : map plain_value vs ≡ map plain_value us = cc in ap (λ l. plain_value v ∷ l) rest
set_alike (x ∷ vs) (u ∷ us) (suc j) v e =
    let first : plain_value x ≡ plain_value u = cc in
    let rest : map plain_value vs ≡ map plain_value us = cc in
    ap₂ (λ m l. m ∷ l) first (set_alike vs us j v rest)

mark_shows : (v : Value) → plain_value (written v) ≡ plain_value v
mark_shows (value.Mut r) = refl
mark_shows value.Gone = refl
mark_shows (value.Own v) = refl
mark_shows (value.SharedSlot i) = refl
mark_shows (value.MutSlot i) = refl
mark_shows (value.Shared r) = refl
mark_shows (value.Held m) = refl

-- the mark of a write doesn't show
pub noted_plain : (q : Option ℕ) (h : Hand) → map plain_value (note_write q h).thread.slots ≡ map plain_value h.thread.slots
noted_plain None h = refl
noted_plain (Some j) h = by (slice_get h.thread.slots j) refl
  where
    by : (o : Option Value) → slice_get h.thread.slots j ≡ o → map plain_value (note_slot h.thread.slots j o) ≡ map plain_value h.thread.slots
    by None e = refl
    by (Some v) e = set_there h.thread.slots j v (written v) e (mark_shows v)

-- a write is noted on slots alone
pub noted_temps : (q : Option ℕ) (h : Hand) (ts : List Value) → (note_write q (with_temps ts h)).thread ≡ record (note_write q h).thread { temps = ts }
noted_temps None h ts = refl
noted_temps (Some i) h ts = refl
