-- Threads without what room they have, and the plain state.
use Rattle.std.proofs.Common.{◌≡◌, ℕ, ℤ, zero, suc, ◌<◌, List, [], ◌∷◌, length, get_or, Result, Ok, Err, refl, sym, ap, ◌∙◌, subst, arith}
use Rattle.std.specs.Prelude.{slice_set, OnErr}
use Rattle.fr_plain.specs.Whole.{Thread as PlainThread, Whole}
use Rattle.fr_forms.specs.declared.forms.Form.{Form}
use Rattle.fr_meaning.specs.declared.thread.Thread.{Thread}
use Rattle.fr_meaning.specs.Entries.{entry_of, entries_of}
use Rattle.fr_meaning.specs.declared.next.Next.{Next}
use Rattle.fr_meaning.specs.Next.{IsNext}
use Rattle.fr_meaning.specs.PoolView.{Entry, View, threads_in, whole_of}
use Rattle.fr_meaning.specs.Beside.{Beside}
use Rattle.fr_meaning.specs.Threads.{IsWell, thread_of, threads_of, whole, numbers_of, AreWell}
use Rattle.fr_meaning.proofs.ThreadLists.{numbers_set, well_at, well_set}

-- the plain threads
threads_entries : (fs : List Form) (xs : List Thread) → threads_in fs (entries_of xs) ≡ threads_of fs xs
threads_entries fs [] = refl
threads_entries fs (x ∷ xs) = ap (λ (ts : List PlainThread). thread_of fs x ∷ ts) (threads_entries fs xs)

-- the plain state
pub entries_whole : (fs : List Form) (xs : List Thread) (beside : Beside) (output : List ℤ) → whole_of (record { forms = fs; threads = entries_of xs; beside = beside; output = output }) ≡ whole fs xs beside output
entries_whole fs xs beside output = ap (λ ts. whole_with ts) (threads_entries fs xs)
  where
    whole_with : List PlainThread → Whole
    whole_with ts = record { threads = ts; heap = beside.heap; mutexes = beside.mutexes; pairs = beside.pairs; output = output }

-- another thread that is the same without its room
pub entries_set : (xs : List Thread) (i : ℕ) (x y : Thread) → x ≡ get_or xs i x → entry_of y ≡ entry_of x → entries_of (slice_set xs i y) ≡ entries_of xs
entries_set [] i x y is e = refl
entries_set (z ∷ xs) zero x y is e = ap (λ (q : Entry). q ∷ entries_of xs) (e ∙ ap entry_of is)
entries_set (z ∷ xs) (suc i) x y is e = ap (λ (qs : List Entry). entry_of z ∷ qs) (entries_set xs i x y is e)

-- the same place in two lists
pub entries_at : (xs ys : List Thread) (i : ℕ) (x : Thread) → entries_of xs ≡ entries_of ys → i < length xs → x ≡ get_or xs i x → (y : Thread) × (y ≡ get_or ys i y) × (entry_of x ≡ entry_of y)
entries_at [] ys i x e lt is = absurd (omega arith)
entries_at (a ∷ xs) [] i x e lt is = absurd cc
entries_at (a ∷ xs) (b ∷ ys) zero x e lt is = let same : entry_of a ≡ entry_of b = cc in (b, refl, ap entry_of is ∙ same)
entries_at (a ∷ xs) (b ∷ ys) (suc i) x e lt is = let rest : entries_of xs ≡ entries_of ys = cc in entries_at xs ys i x rest (omega arith) is

-- what contracts of a pool see
abbrev pub viewed : List Form → List Thread → Beside → List ℤ → View
viewed fs xs beside output = record { forms = fs; threads = entries_of xs; beside = beside; output = output }

pub view_same : (fs : List Form) (xs ys : List Thread) (beside new : Beside) (output more : List ℤ) → entries_of ys ≡ entries_of xs → new ≡ beside → more ≡ output → viewed fs ys new more ≡ viewed fs xs beside output
view_same fs xs ys beside new output more a b c = ap (λ es. with_entries es new more) a ∙ ap (λ k. with_entries (entries_of xs) k more) b ∙ ap (λ ns. with_entries (entries_of xs) beside ns) c
  where
    with_entries : List Entry → Beside → List ℤ → View
    with_entries es c ns = record { forms = fs; threads = es; beside = c; output = ns }

-- threads that are the same without their room are the same plain threads
pub same_whole : (fs : List Form) (xs ys : List Thread) (beside new : Beside) (output more : List ℤ) → viewed fs ys new more ≡ viewed fs xs beside output → whole fs ys new more ≡ whole fs xs beside output
same_whole fs xs ys beside new output more e = sym (entries_whole fs ys new more) ∙ ap whole_of e ∙ entries_whole fs xs beside output

pub same_entries : (fs : List Form) (xs ys : List Thread) (beside new : Beside) (output more : List ℤ) → viewed fs ys new more ≡ viewed fs xs beside output → entries_of ys ≡ entries_of xs
same_entries fs xs ys beside new output more e = ap (λ (v : View). v.threads) e

-- a thread that only has more room
pub reserved : (fs : List Form) (xs : List Thread) (i : ℕ) (x y : Thread) → i < length xs → x ≡ get_or xs i x → entry_of y ≡ entry_of x → (IsWell fs x → IsWell fs y) → AreWell fs xs → (numbers_of (slice_set xs i y) ≡ numbers_of xs) × AreWell fs (slice_set xs i y)
reserved fs xs i x y lt is e well all = (numbers_set xs i x y is (ap (λ (q : Entry). q.number) e), well_set fs xs i y (well (well_at fs xs i x lt is all)) all)

length_entries : (xs : List Thread) → length (entries_of xs) ≡ length xs
length_entries [] = refl
length_entries (x ∷ xs) = ap suc (length_entries xs)

-- and are as many
pub same_length : (fs : List Form) (xs ys : List Thread) (beside new : Beside) (output more : List ℤ) → viewed fs ys new more ≡ viewed fs xs beside output → length ys ≡ length xs
same_length fs xs ys beside new output more e = sym (length_entries ys) ∙ ap length (same_entries fs xs ys beside new output more e) ∙ length_entries xs

-- what comes next of each is the same
pub same_comes : (n : Next) (xs ys : List Thread) (i : ℕ) → entries_of ys ≡ entries_of xs → i < length ys → ((x : Thread) → x ≡ get_or xs i x → IsNext x.focus x.frames.items n) → (y : Thread) → y ≡ get_or ys i y → IsNext y.focus y.frames.items n
same_comes n xs ys i e lt h y is =
    let k = entries_at ys xs i y e lt is in
    subst (λ (q : Entry). IsNext q.focus q.frames n) (sym k.2) (h k.0 k.1)

-- one thread stands at a place
pub at_same : (xs : List Thread) (i : ℕ) (x y : Thread) → i < length xs → x ≡ get_or xs i x → y ≡ get_or xs i y → x ≡ y
at_same [] i x y lt is same = absurd (omega arith)
at_same (z ∷ xs) zero x y lt is same = is ∙ sym same
at_same (z ∷ xs) (suc i) x y lt is same = at_same xs i x y (omega arith) is same

-- what holds anyhow holds where there is an error
pub on_err : {T E P : Type 0} (r : Result T E) → P → OnErr r P
on_err (Ok x) p = tt
on_err (Err e) p = p
