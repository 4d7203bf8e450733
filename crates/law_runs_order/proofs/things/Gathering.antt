-- The lists that a sight is made of are gathered from things, and what is looked up in them is the first item that passes a test.
use Rattle.std.proofs.Common.{◌≡◌, ℕ, ◌==◌, ◌||◌, ◌&&◌, not, Bool, true, false, if◌then◌else◌, List, [], ◌∷◌, ◌++◌, Option, Some, None, refl, ap, ◌∙◌}
use Rattle.std.specs.Prelude.{slice_get}
use Rattle.law_runs_rounds.specs.Below.law_runs_coherent.Below.fr_base.declared.name.ObjNo.{ObjNo}
use Rattle.law_runs_rounds.specs.Below.law_runs_coherent.Below.fr_base.declared.instruction.Instr.{Instr}
use Rattle.law_runs_rounds.specs.Below.law_runs_coherent.Below.heap_partition.declared.value.Cell.{Cell}
use Rattle.law_runs_rounds.specs.Below.law_runs_coherent.Below.coherent_memory.Names.{same_object}
use Rattle.law_runs_rounds.specs.Below.law_runs_coherent.Below.coherent_memory.Things.{Location, Thing, borrows, lies, flies, stands}
use Rattle.law_runs_rounds.specs.Below.law_runs_coherent.Below.coherent_memory.Follow.{Standing, Ground, threads_in, thread_at, cells_in, cell_of}
use Rattle.law_runs_rounds.specs.Below.law_runs_coherent.Below.coherent_memory.Stale.{same_location, is_among, Reference, holder_of, references, lent_place, with_place, lent_places}
use Rattle.law_runs_rounds.specs.Below.law_runs_coherent.Below.coherent_memory.Sight.{Pointer, pointers_of, pointers_in, taken_of, taken_pointers, is_stale, unless, fresh_ones, word_of_object, is_word, cell_of_word, if_dirty, dirty_objects, is_object_among, is_issued_at, is_issued}
use Rattle.law_runs_rounds.specs.Below.law_runs_coherent.Below.coherent_memory.Placing.{standing_of as standing_pointers_of, standing_in}
use Rattle.law_runs_order.proofs.things.Reordered.{gathered, picked, any}

-- THREADS AND CELLS

abbrev pub thread_in : Thing → List Standing
thread_in (stands s p t) = record { server = s; packed = p; thread = t } ∷ []
thread_in x = []

pub threads_gathered : (b : List Thing) → threads_in b ≡ gathered thread_in b
threads_gathered [] = refl
threads_gathered (stands s p t ∷ b) = ap (λ (l : List Standing). record { server = s; packed = p; thread = t } ∷ l) (threads_gathered b)
threads_gathered (_ ∷ b) = threads_gathered b

abbrev pub cell_in : Thing → List Cell
cell_in (lies s a c) = c ∷ []
cell_in (flies w c) = c ∷ []
cell_in x = []

pub cells_gathered : (b : List Thing) → cells_in b ≡ gathered cell_in b
cells_gathered [] = refl
cells_gathered (lies s a c ∷ b) = ap (λ (l : List Cell). c ∷ l) (cells_gathered b)
cells_gathered (flies w c ∷ b) = ap (λ (l : List Cell). c ∷ l) (cells_gathered b)
cells_gathered (_ ∷ b) = cells_gathered b

-- POINTERS

abbrev pub reference_in : Ground → Thing → List Reference
reference_in g (borrows l r) = record { at = l; holder = holder_of g l r.holder; reference = r } ∷ []
reference_in g x = []

pub references_gathered : (g : Ground) (b : List Thing) → references g b ≡ gathered (reference_in g) b
references_gathered g [] = refl
references_gathered g (borrows l r ∷ b) = ap (λ (rs : List Reference). record { at = l; holder = holder_of g l r.holder; reference = r } ∷ rs) (references_gathered g b)
references_gathered g (_ ∷ b) = references_gathered g b

pub pointers_gathered : (b : List Thing) → pointers_in b ≡ gathered pointers_of b
pointers_gathered [] = refl
pointers_gathered (x ∷ b) = ap (λ l. pointers_of x ++ l) (pointers_gathered b)

pub standing_gathered : (b : List Thing) → standing_in b ≡ gathered standing_pointers_of b
standing_gathered [] = refl
standing_gathered (x ∷ b) = ap (λ l. standing_pointers_of x ++ l) (standing_gathered b)

abbrev pub taken_at : List Instr → Ground → Standing → List Pointer
taken_at code g x = taken_of g x.thread x.thread.phase (slice_get code x.thread.pc)

pub taken_gathered : (code : List Instr) (g : Ground) (xs : List Standing) → taken_pointers code g xs ≡ gathered (taken_at code g) xs
taken_gathered code g [] = refl
taken_gathered code g (x ∷ xs) = ap (λ l. taken_at code g x ++ l) (taken_gathered code g xs)

abbrev pub fresh_one : List Location → Pointer → List Pointer
fresh_one places p = unless (is_stale places p.at) p []

apart : (b : Bool) (p : Pointer) (ps : List Pointer) → unless b p ps ≡ unless b p [] ++ ps
apart true p ps = refl
apart false p ps = refl

pub fresh_gathered : (places : List Location) (ps : List Pointer) → fresh_ones places ps ≡ gathered (fresh_one places) ps
fresh_gathered places [] = refl
fresh_gathered places (p ∷ ps) = apart (is_stale places p.at) p (fresh_ones places ps) ∙ ap (λ l. fresh_one places p ++ l) (fresh_gathered places ps)

abbrev pub lent_at : List Instr → Ground → Standing → List Location
lent_at code g x = with_place (lent_place g x.thread.number x.thread.phase (slice_get code x.thread.pc)) []

placed_apart : (o : Option Location) (ls : List Location) → with_place o ls ≡ with_place o [] ++ ls
placed_apart None ls = refl
placed_apart (Some l) ls = refl

pub lent_gathered : (code : List Instr) (g : Ground) (xs : List Standing) → lent_places code g xs ≡ gathered (lent_at code g) xs
lent_gathered code g [] = refl
lent_gathered code g (x ∷ xs) =
    placed_apart (lent_place g x.thread.number x.thread.phase (slice_get code x.thread.pc)) (lent_places code g xs) ∙ ap (λ l. lent_at code g x ++ l) (lent_gathered code g xs)

abbrev pub dirty_at : List Location → Thing → List ObjNo
dirty_at places (borrows l r) = if_dirty (r.dirty && not (is_among l places)) r.object []
dirty_at places x = []

dirty_apart : (b : Bool) (o : ObjNo) (ps : List ObjNo) → if_dirty b o ps ≡ if_dirty b o [] ++ ps
dirty_apart true o ps = refl
dirty_apart false o ps = refl

pub dirty_gathered : (places : List Location) (b : List Thing) → dirty_objects places b ≡ gathered (dirty_at places) b
dirty_gathered places [] = refl
dirty_gathered places (borrows l r ∷ b) = dirty_apart (r.dirty && not (is_among l places)) r.object (dirty_objects places b) ∙ ap (λ ps. dirty_at places (borrows l r) ++ ps) (dirty_gathered places b)
dirty_gathered places (_ ∷ b) = dirty_gathered places b

-- WHAT IS LOOKED UP

pub thread_picked : (xs : List Standing) (t : ℕ) → thread_at xs t ≡ picked (λ (x : Standing). x.thread.number == t) (λ (x : Standing). x) xs
thread_picked [] t = refl
thread_picked (x ∷ xs) t = ap (λ (o : Option Standing). if x.thread.number == t then Some x else o) (thread_picked xs t)

pub cell_picked : (cs : List Cell) (o : ObjNo) → cell_of cs o ≡ picked (λ (c : Cell). same_object c.object o) (λ (c : Cell). c) cs
cell_picked [] o = refl
cell_picked (c ∷ cs) o = ap (λ (q : Option Cell). if same_object c.object o then Some c else q) (cell_picked cs o)

pub word_picked : (ps : List Pointer) (o : ObjNo) → word_of_object ps o ≡ picked (λ (p : Pointer). same_object p.object o) (λ (p : Pointer). p.word) ps
word_picked [] o = refl
word_picked (p ∷ ps) o = ap (λ (q : Option ℕ). if same_object p.object o then Some p.word else q) (word_picked ps o)

pub cell_word_picked : (ps : List Pointer) (cs : List Cell) (w : ℕ) → cell_of_word ps cs w ≡ picked (λ (c : Cell). is_word (word_of_object ps c.object) w) (λ (c : Cell). c) cs
cell_word_picked ps [] w = refl
cell_word_picked ps (c ∷ cs) w = ap (λ (q : Option Cell). if is_word (word_of_object ps c.object) w then Some c else q) (cell_word_picked ps cs w)

pub among_any : (l : Location) (ls : List Location) → is_among l ls ≡ any (λ x. same_location x l) ls
among_any l [] = refl
among_any l (x ∷ ls) = ap (λ b. same_location x l || b) (among_any l ls)

pub object_any : (o : ObjNo) (os : List ObjNo) → is_object_among o os ≡ any (λ p. same_object p o) os
object_any o [] = refl
object_any o (p ∷ os) = ap (λ b. same_object p o || b) (object_any o os)

pub issued_any : (colours : ℕ) (ps : List Pointer) (b : List Thing) (w : ℕ) → is_issued colours ps b w ≡ any (is_issued_at colours ps w) b
issued_any colours ps [] w = refl
issued_any colours ps (x ∷ b) w = ap (λ q. is_issued_at colours ps w x || q) (issued_any colours ps b w)
