-- Journals of whole runs, each written above by its program. The main thread is 0.
use Rattle.std.specs.Prelude.{ℕ, pos, List, [], ◌∷◌, ◌++◌}
use Rattle.fr_base.specs.declared.label.Label.TheVariants as label
use Rattle.fr_base.specs.declared.name.MutexNo.{MutexNo}
use Rattle.fr_base.specs.declared.name.ObjNo.{ObjNo}
use Rattle.fr_base.specs.declared.release.Released.TheVariants as released
use Rattle.fr_base.specs.declared.step.Fresh.TheVariants as fresh
use Rattle.global_addr.specs.Words.{word_of}
use Rattle.journal.specs.declared.act.Act.TheVariants as act
use Rattle.journal.specs.View.{EntryView}
use Rattle.coloured_heap.specs.Writing.{naming, step, turn, event, object, mutex, int}

-- the first and the second object of the main thread
abbrev pub x : ObjNo
x = object 0 0

abbrev pub y : ObjNo
y = object 0 1

-- the words of an address, of server 0, colour by colour
abbrev pub w : ℕ → ℕ → ℕ
w address colour = word_of colour 0 address

-- the first word of server 1
abbrev pub far : ℕ
far = word_of 0 1 0

abbrev pub m : MutexNo
m = mutex 0 1

-- steps without acts and labels
abbrev quiet : ℕ → ℕ → EntryView
quiet here t = step here t [] []

abbrev prints : ℕ → ℕ → ℕ → EntryView
prints here t n = step here t [] (label.Print (pos n) ∷ [])

abbrev makes : ObjNo → ℕ → ℕ → EntryView
makes p word n = step 0 0 (act.Make p word ∷ []) (label.Make p (int n) ∷ [])

-- an object here is read, or one whose copy is here
abbrev reads : ObjNo → ℕ → ℕ → EntryView
reads p word n = step 0 0 (act.Local p word ∷ []) (label.Load p (int n) ∷ [])

abbrev hits : ℕ → ℕ → ObjNo → ℕ → ℕ → EntryView
hits here t p word n = step here t (act.Hit p word ∷ []) (label.Load p (int n) ∷ [])

-- a variable that owns an object ends, and so does the main thread
abbrev drops : ℕ → ℕ → ObjNo → ℕ → EntryView
drops here t p word = step here t (act.Condemn p word ∷ []) (label.Drop p ∷ [])

abbrev ends : ℕ → EntryView
ends here = step here 0 [] (label.End 0 ∷ [])

-- another thread ends
abbrev finishes : ℕ → ℕ → EntryView
finishes here t = step here t (act.Finish t ∷ []) (label.End t ∷ [])

-- a copy is served from server 0 to a server, and fills the cache there
abbrev fetches : ℕ → ObjNo → ℕ → List EntryView
fetches here p word = event 0 (act.Serve p word here ∷ []) ∷ event here (act.Fill p word ∷ []) ∷ []

-- thread 0.1 starts at server 1, with what it was told
abbrev starts_one : EntryView
starts_one = naming 0 0 (fresh.Thread 1) (act.Start 1 1 ∷ []) (label.Start 1 ∷ [])

-- the main thread joins thread 0.1: it asks, is answered, and goes on
abbrev joins_one : List EntryView
joins_one = quiet 0 0 ∷ turn 0 0 (act.AskJoin 1 ∷ []) ∷ event 0 (act.Answer 1 0 0 ∷ []) ∷ event 0 [] ∷ quiet 0 0 ∷ []

-- { let mut x = box 1; *x = 2; print *x }
abbrev pub boxed : List EntryView
boxed = makes x (w 0 0) 1 ∷ quiet 0 0
    ∷ step 0 0 (act.Tint x (w 0 0) (w 0 1) ∷ []) (label.Store x (int 2) ∷ [])
    ∷ reads x (w 0 1) 2 ∷ prints 0 0 2 ∷ drops 0 0 x (w 0 1) ∷ ends 0 ∷ event 0 (act.Free x (w 0 1) ∷ []) ∷ []

-- the same, but the assignment gives the old word again
abbrev pub not_tinted : List EntryView
not_tinted = makes x (w 0 0) 1 ∷ quiet 0 0
    ∷ step 0 0 (act.Tint x (w 0 0) (w 0 0) ∷ []) (label.Store x (int 2) ∷ [])
    ∷ reads x (w 0 0) 2 ∷ prints 0 0 2 ∷ drops 0 0 x (w 0 0) ∷ ends 0 ∷ event 0 (act.Free x (w 0 0) ∷ []) ∷ []

-- { }
abbrev pub nothing : List EntryView
nothing = ends 0 ∷ []

abbrev tints : ℕ → ℕ → EntryView
tints address n = step 0 0 (act.Tint x (w address 0) (w address 1) ∷ []) (label.Store x (int n) ∷ [])

abbrev renews : ℕ → ℕ → ℕ → EntryView
renews address next n = step 0 0 (act.Renew x (w address 1) (w next 0) ∷ []) (label.Store x (int n) ∷ [])

-- of two colours: { let mut x = box 0; *x = 1; *x = 2; *x = 3; *x = 4; *x = 5; print *x }
abbrev pub renewed : List EntryView
renewed = makes x (w 0 0) 0 ∷ quiet 0 0 ∷ tints 0 1 ∷ renews 0 1 2 ∷ tints 1 3 ∷ renews 1 2 4 ∷ tints 2 5
    ∷ reads x (w 2 1) 5 ∷ prints 0 0 5 ∷ drops 0 0 x (w 2 1) ∷ ends 0 ∷ event 0 (act.Free x (w 2 1) ∷ []) ∷ []

-- at two servers: { let mut x = box 5; let mut h = spawn (x) { print *x; print *x }; join h }
abbrev pub read_far : List EntryView
read_far = makes x (w 0 0) 5 ∷ quiet 0 0 ∷ starts_one ∷ quiet 0 0 ∷ event 1 []
    ∷ turn 1 1 (act.Ask x (w 0 0) ∷ []) ∷ fetches 1 x (w 0 0)
    ++ hits 1 1 x (w 0 0) 5 ∷ prints 1 1 5 ∷ hits 1 1 x (w 0 0) 5 ∷ prints 1 1 5
    ∷ drops 1 1 x (w 0 0) ∷ event 0 (act.Free x (w 0 0) ∷ []) ∷ finishes 1 1 ∷ event 0 [] ∷ joins_one
    ++ quiet 0 0 ∷ quiet 0 0 ∷ ends 0 ∷ []

-- at two servers: { let mut x = box 5; let mut h = spawn (x) { *x = 6; x }; let mut y = join h; print *y }
abbrev pub written_far : List EntryView
written_far = makes x (w 0 0) 5 ∷ quiet 0 0 ∷ starts_one ∷ quiet 0 0 ∷ event 1 []
    ∷ turn 1 1 (act.Pull x (w 0 0) ∷ []) ∷ event 0 (act.Give x (w 0 0) 1 ∷ []) ∷ event 1 (act.Take x (w 0 0) far ∷ [])
    ∷ step 1 1 [] (label.Store x (int 6) ∷ []) ∷ quiet 1 1 ∷ quiet 1 1 ∷ finishes 1 1 ∷ event 0 [] ∷ joins_one
    ++ quiet 0 0 ∷ turn 0 0 (act.Ask x far ∷ []) ∷ event 1 (act.Serve x far 0 ∷ []) ∷ event 0 (act.Fill x far ∷ [])
    ∷ hits 0 0 x far 6 ∷ prints 0 0 6 ∷ drops 0 0 x far ∷ quiet 0 0 ∷ quiet 0 0 ∷ ends 0 ∷ event 1 (act.Free x far ∷ []) ∷ []

-- a branch reads the object at another server than the object's, or at the object's, and finishes
abbrev branch_far : ℕ → ℕ → ℕ → ℕ → List EntryView
branch_far here t word n = event here [] ∷ turn here t (act.Ask x word ∷ []) ∷ fetches here x word
    ++ hits here t x word n ∷ prints here t n ∷ quiet here t ∷ finishes here t ∷ event 0 [] ∷ []

abbrev branch_near : ℕ → ℕ → ℕ → List EntryView
branch_near t word n = event 0 [] ∷ step 0 t (act.Local x word ∷ []) (label.Load x (int n) ∷ []) ∷ prints 0 t n ∷ quiet 0 t ∷ finishes 0 t ∷ event 0 [] ∷ []

abbrev starts_two : ℕ → ℕ → ℕ → ℕ → EntryView
starts_two t here u there = naming 0 0 (fresh.Threads t u) (act.Start t here ∷ act.Start u there ∷ []) (label.Start t ∷ label.Start u ∷ [])

-- at three servers: { let mut x = box 1; { let mut r = &*x; par (r) { print *r } (r) { print *r } }; *x = 2;
-- { let mut s = &*x; par (s) { print *s } (s) { print *s } } }
-- The assignment sends nothing, and server 1 reads the new value although it keeps the old copy.
abbrev pub read_by_two : List EntryView
read_by_two = makes x (w 0 0) 1 ∷ quiet 0 0 ∷ quiet 0 0 ∷ quiet 0 0 ∷ starts_two 1 1 2 2
    ∷ branch_far 1 1 (w 0 0) 1 ++ branch_far 2 2 (w 0 0) 1
    ++ quiet 0 0 ∷ quiet 0 0 ∷ step 0 0 (act.Tint x (w 0 0) (w 0 1) ∷ []) (label.Store x (int 2) ∷ []) ∷ quiet 0 0 ∷ quiet 0 0 ∷ starts_two 3 0 4 1
    ∷ branch_near 3 (w 0 1) 2 ++ branch_far 1 4 (w 0 1) 2
    ++ quiet 0 0 ∷ quiet 0 0 ∷ drops 0 0 x (w 0 1) ∷ ends 0 ∷ event 0 (act.Free x (w 0 1) ∷ []) ∷ []

-- { let mut x = box 1; { let mut r = &mut *x; *r = 2; print *r; *r = 3; print *r }; print *x }
-- at two servers, and the main thread moves to server 1, back to 0 and to 1 again
abbrev pub moved_about : List EntryView
moved_about = makes x (w 0 0) 1 ∷ quiet 0 0 ∷ quiet 0 0 ∷ quiet 0 0
    ∷ step 0 0 (act.Local x (w 0 0) ∷ []) (label.Store x (int 2) ∷ [])
    ∷ turn 0 0 (act.Depart 0 1 ∷ []) ∷ event 1 []
    ∷ turn 1 0 (act.Tint x (w 0 0) (w 0 1) ∷ act.Ask x (w 0 1) ∷ []) ∷ fetches 1 x (w 0 1)
    ++ hits 1 0 x (w 0 1) 2 ∷ prints 1 0 2
    ∷ turn 1 0 (act.Depart 0 0 ∷ []) ∷ event 0 []
    ∷ step 0 0 (act.Local x (w 0 1) ∷ []) (label.Store x (int 3) ∷ [])
    ∷ turn 0 0 (act.Depart 0 1 ∷ []) ∷ event 1 []
    ∷ turn 1 0 (act.Tint x (w 0 1) (w 0 2) ∷ act.Ask x (w 0 2) ∷ []) ∷ fetches 1 x (w 0 2)
    ++ hits 1 0 x (w 0 2) 3 ∷ prints 1 0 3 ∷ quiet 1 0 ∷ hits 1 0 x (w 0 2) 3 ∷ prints 1 0 3
    ∷ drops 1 0 x (w 0 2) ∷ ends 1 ∷ event 0 (act.Free x (w 0 2) ∷ []) ∷ []

-- at two servers with one word in a cache: { let mut x = box 1; let mut y = box 2; let mut a = &*x; let mut b = &*y;
-- par (a, b) { print *a; print *b; print (*a + *b) } () { } }
abbrev pub evicted : List EntryView
evicted = makes x (w 0 0) 1 ∷ quiet 0 0 ∷ makes y (w 1 0) 2 ∷ quiet 0 0 ∷ quiet 0 0 ∷ quiet 0 0 ∷ quiet 0 0 ∷ quiet 0 0
    ∷ starts_two 1 1 2 0 ∷ event 0 [] ∷ finishes 0 2 ∷ event 0 [] ∷ event 1 []
    ∷ turn 1 1 (act.Ask x (w 0 0) ∷ []) ∷ fetches 1 x (w 0 0)
    ++ hits 1 1 x (w 0 0) 1 ∷ prints 1 1 1
    ∷ turn 1 1 (act.Ask y (w 1 0) ∷ []) ∷ fetches 1 y (w 1 0)
    ++ hits 1 1 y (w 1 0) 2 ∷ prints 1 1 2 ∷ hits 1 1 x (w 0 0) 1 ∷ hits 1 1 y (w 1 0) 2 ∷ quiet 1 1 ∷ prints 1 1 3
    ∷ quiet 1 1 ∷ event 1 (act.Evict (w 1 0) ∷ []) ∷ quiet 1 1 ∷ finishes 1 1 ∷ event 0 []
    ∷ quiet 0 0 ∷ quiet 0 0 ∷ quiet 0 0 ∷ drops 0 0 y (w 1 0) ∷ drops 0 0 x (w 0 0) ∷ ends 0
    ∷ event 0 (act.Free y (w 1 0) ∷ []) ∷ event 0 (act.Free x (w 0 0) ∷ []) ∷ []

-- { let mut m = mutex 1; lock m as a { lock m as b { print b } } }, which waits for itself
abbrev pub locked_twice : List EntryView
locked_twice = naming 0 0 (fresh.Mutex m) [] [] ∷ quiet 0 0
    ∷ turn 0 0 (act.AskLock m ∷ []) ∷ event 0 (act.Grant m 0 0 ∷ []) ∷ event 0 [] ∷ step 0 0 [] (label.Lock m ∷ [])
    ∷ turn 0 0 (act.AskLock m ∷ []) ∷ event 0 [] ∷ []

-- at two servers: { let mut m = mutex box 7; let mut h = spawn (m) { lock m as c { *c = 8 } }; join h }
-- The last share is let go before the content is back.
abbrev pub let_go_early : List EntryView
let_go_early = makes x (w 0 0) 7 ∷ naming 0 0 (fresh.Mutex m) [] [] ∷ quiet 0 0 ∷ starts_one ∷ quiet 0 0 ∷ event 1 []
    ∷ turn 1 1 (act.AskLock m ∷ []) ∷ event 0 (act.Grant m 1 1 ∷ []) ∷ event 1 [] ∷ step 1 1 [] (label.Lock m ∷ [])
    ∷ turn 1 1 (act.Pull x (w 0 0) ∷ []) ∷ event 0 (act.Give x (w 0 0) 1 ∷ []) ∷ event 1 (act.Take x (w 0 0) far ∷ [])
    ∷ step 1 1 [] (label.Store x (int 8) ∷ [])
    ∷ step 1 1 (act.GiveBack m ∷ []) (label.Unlock m ∷ [])
    ∷ step 1 1 (act.LetGo (released.Mutex m) ∷ []) [] ∷ finishes 1 1
    ∷ event 0 [] ∷ event 0 (act.Condemn x far ∷ []) ∷ event 1 (act.Free x far ∷ []) ∷ event 0 [] ∷ joins_one
    ++ quiet 0 0 ∷ quiet 0 0 ∷ ends 0 ∷ []

-- { let mut m = mutex 1; let mut n = dup m; print 4 }
abbrev pub shared : List EntryView
shared = naming 0 0 (fresh.Mutex m) [] [] ∷ quiet 0 0
    ∷ turn 0 0 (act.AskDup m ∷ []) ∷ event 0 (act.Dupped m 0 0 ∷ []) ∷ event 0 [] ∷ quiet 0 0 ∷ quiet 0 0 ∷ prints 0 0 4
    ∷ step 0 0 (act.LetGo (released.Mutex m) ∷ []) [] ∷ step 0 0 (act.LetGo (released.Mutex m) ∷ []) [] ∷ ends 0 ∷ event 0 [] ∷ event 0 [] ∷ []
