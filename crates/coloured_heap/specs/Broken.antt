-- For each act, entries that meet its rule and entries that break just that rule; and what isn't reached, and what no driver does.
use Rattle.std.specs.Prelude.{◌≡◌, ℕ, ◌+◌, Bool, true, false, List, [], ◌∷◌, ◌++◌, length, Some, None}
use Rattle.fr_base.specs.declared.label.Label.TheVariants as label
use Rattle.fr_base.specs.declared.release.Released.TheVariants as released
use Rattle.fr_base.specs.declared.settings.Options.{Options}
use Rattle.fr_base.specs.declared.step.Fresh.TheVariants as fresh
use Rattle.journal.specs.declared.act.Act.{Act}
use Rattle.journal.specs.declared.act.Act.TheVariants as act
use Rattle.journal.specs.View.{EntryView}
use Rattle.coloured_heap.specs.Legal.{first_illegal, is_legal}
use Rattle.coloured_heap.specs.Reach.{is_all_reached}
use Rattle.coloured_heap.specs.Driven.{is_driven}
use Rattle.coloured_heap.specs.Writing.{options, naming, step, turn, event, object, thread, mutex, int}
use Rattle.coloured_heap.specs.WholeRuns.{x, y, w, far, m}

-- two servers, three colours, one word in a cache
abbrev run : Options
run = options 2 3 1

-- after these entries this one is legal, or it is the first that isn't
abbrev pub Goes : List EntryView → EntryView → Type 0
Goes before e = first_illegal run (before ++ e ∷ []) ≡ None

abbrev pub Breaks : List EntryView → EntryView → Type 0
Breaks before e = first_illegal run (before ++ e ∷ []) ≡ Some (length before)

-- acts of the main thread's step at server 0, of thread 0.1's step at server 1, and of events there
abbrev main : List Act → EntryView
main acts = step 0 0 acts []

abbrev other : List Act → EntryView
other acts = step 1 1 acts []

-- SCENES

abbrev empty : List EntryView
empty = []

-- thread 0.1 stands at server 1
abbrev started : List EntryView
started = naming 0 0 (fresh.Thread 1) (act.Start 1 1 ∷ []) [] ∷ []

-- the main thread made an object
abbrev made : List EntryView
made = started ++ step 0 0 (act.Make x (w 0 0) ∷ []) (label.Make x (int 5) ∷ []) ∷ []

-- its word has the next colour, and the last
abbrev tinted : List EntryView
tinted = made ++ main (act.Tint x (w 0 0) (w 0 1) ∷ []) ∷ []

abbrev at_last : List EntryView
at_last = tinted ++ main (act.Tint x (w 0 1) (w 0 2) ∷ []) ∷ []

-- server 1 asked for a copy; it was served; it came
abbrev asked : List EntryView
asked = made ++ turn 1 1 (act.Ask x (w 0 0) ∷ []) ∷ []

abbrev served : List EntryView
served = asked ++ event 0 (act.Serve x (w 0 0) 1 ∷ []) ∷ []

abbrev filled : List EntryView
filled = served ++ event 1 (act.Fill x (w 0 0) ∷ []) ∷ []

-- server 1 asked for the object; it left; it came
abbrev pulled : List EntryView
pulled = made ++ turn 1 1 (act.Pull x (w 0 0) ∷ []) ∷ []

abbrev given : List EntryView
given = pulled ++ event 0 (act.Give x (w 0 0) 1 ∷ []) ∷ []

abbrev taken : List EntryView
taken = given ++ event 1 (act.Take x (w 0 0) far ∷ []) ∷ []

-- its pointer was given up; its block was freed
abbrev condemned : List EntryView
condemned = made ++ main (act.Condemn x (w 0 0) ∷ []) ∷ []

abbrev freed : List EntryView
freed = condemned ++ event 0 (act.Free x (w 0 0) ∷ []) ∷ []

-- a mutex of server 0; thread 0.1 asked for its content; it was granted; it was given back
abbrev guarded : List EntryView
guarded = started ++ naming 0 0 (fresh.Mutex m) [] [] ∷ []

abbrev locking : List EntryView
locking = guarded ++ turn 1 1 (act.AskLock m ∷ []) ∷ []

abbrev locked : List EntryView
locked = locking ++ event 0 (act.Grant m 1 1 ∷ []) ∷ []

abbrev unlocked : List EntryView
unlocked = locked ++ other (act.GiveBack m ∷ []) ∷ []

-- thread 0.1 asked for a share
abbrev sharing : List EntryView
sharing = guarded ++ turn 1 1 (act.AskDup m ∷ []) ∷ []

-- thread 0.1 finished; the main thread asks for its result
abbrev finished : List EntryView
finished = started ++ other (act.Finish 1 ∷ []) ∷ []

abbrev joining : List EntryView
joining = finished ++ turn 0 0 (act.AskJoin 1 ∷ []) ∷ []

-- thread 0.1 moved to server 0
abbrev moved : List EntryView
moved = started ++ turn 1 1 (act.Depart 1 0 ∷ []) ∷ []

-- RULES OF OBJECTS

pub record MakeRules : Type 0 where
  pub again : Goes made (main (act.Make y (w 1 0) ∷ []))
  pub issued : Breaks made (main (act.Make y (w 0 0) ∷ []))
  pub issued_before : Breaks tinted (main (act.Make y (w 0 0) ∷ []))
  pub issued_and_freed : Breaks freed (main (act.Make y (w 0 0) ∷ []))
  pub next_colour : Goes freed (main (act.Make y (w 0 1) ∷ []))
  pub elsewhere : Breaks made (main (act.Make y far ∷ []))
  pub of_another : Breaks made (main (act.Make (object 1 0) (w 1 0) ∷ []))
  pub live : Breaks made (main (act.Make x (w 1 0) ∷ []))
  pub no_colour : Breaks made (main (act.Make y (w 1 3) ∷ []))
  pub no_thread : Breaks made (event 0 (act.Make y (w 1 0) ∷ []))

pub record LocalRules : Type 0 where
  pub here : Goes made (main (act.Local x (w 0 0) ∷ []))
  pub old_word : Breaks tinted (main (act.Local x (w 0 0) ∷ []))
  pub elsewhere : Breaks made (other (act.Local x (w 0 0) ∷ []))
  pub flies : Breaks given (main (act.Local x (w 0 0) ∷ []))
  pub given_up : Breaks condemned (main (act.Local x (w 0 0) ∷ []))

pub record HitRules : Type 0 where
  pub cached : Goes filled (other (act.Hit x (w 0 0) ∷ []))
  pub not_cached : Breaks served (other (act.Hit x (w 0 0) ∷ []))
  pub old_word : Breaks (filled ++ main (act.Tint x (w 0 0) (w 0 1) ∷ []) ∷ []) (other (act.Hit x (w 0 0) ∷ []))
  pub new_word : Breaks (filled ++ main (act.Tint x (w 0 0) (w 0 1) ∷ []) ∷ []) (other (act.Hit x (w 0 1) ∷ []))
  pub elsewhere : Breaks filled (main (act.Hit x (w 0 0) ∷ []))

pub record AskRules : Type 0 where
  pub far : Goes made (turn 1 1 (act.Ask x (w 0 0) ∷ []))
  pub here : Breaks made (turn 0 0 (act.Ask x (w 0 0) ∷ []))
  pub cached : Breaks filled (turn 1 1 (act.Ask x (w 0 0) ∷ []))
  pub old_word : Breaks tinted (turn 1 1 (act.Ask x (w 0 0) ∷ []))

pub record ServeRules : Type 0 where
  pub answers : Goes asked (event 0 (act.Serve x (w 0 0) 1 ∷ []))
  pub not_asked : Breaks made (event 0 (act.Serve x (w 0 0) 1 ∷ []))
  pub twice : Breaks served (event 0 (act.Serve x (w 0 0) 1 ∷ []))
  pub another : Breaks asked (event 0 (act.Serve x (w 0 0) 0 ∷ []))
  pub asked_to_come : Breaks pulled (event 0 (act.Serve x (w 0 0) 1 ∷ []))
  pub elsewhere : Breaks asked (event 1 (act.Serve x (w 0 0) 1 ∷ []))
  pub old_word : Breaks (asked ++ main (act.Tint x (w 0 0) (w 0 1) ∷ []) ∷ []) (event 0 (act.Serve x (w 0 0) 1 ∷ []))
  pub new_word : Breaks (asked ++ main (act.Tint x (w 0 0) (w 0 1) ∷ []) ∷ []) (event 0 (act.Serve x (w 0 1) 1 ∷ []))

pub record FillRules : Type 0 where
  pub comes : Goes served (event 1 (act.Fill x (w 0 0) ∷ []))
  pub not_served : Breaks asked (event 1 (act.Fill x (w 0 0) ∷ []))
  pub twice : Breaks filled (event 1 (act.Fill x (w 0 0) ∷ []))
  pub elsewhere : Breaks served (event 0 (act.Fill x (w 0 0) ∷ []))
  pub another_word : Breaks served (event 1 (act.Fill x (w 0 1) ∷ []))
  pub given_up : Breaks (served ++ main (act.Condemn x (w 0 0) ∷ []) ∷ []) (event 1 (act.Fill x (w 0 0) ∷ []))

pub record PullRules : Type 0 where
  pub far : Goes made (turn 1 1 (act.Pull x (w 0 0) ∷ []))
  pub cached : Goes filled (turn 1 1 (act.Pull x (w 0 0) ∷ []))
  pub here : Breaks made (turn 0 0 (act.Pull x (w 0 0) ∷ []))
  pub old_word : Breaks tinted (turn 1 1 (act.Pull x (w 0 0) ∷ []))

pub record GiveRules : Type 0 where
  pub answers : Goes pulled (event 0 (act.Give x (w 0 0) 1 ∷ []))
  pub not_pulled : Breaks made (event 0 (act.Give x (w 0 0) 1 ∷ []))
  pub asked_for_copy : Breaks asked (event 0 (act.Give x (w 0 0) 1 ∷ []))
  pub twice : Breaks given (event 0 (act.Give x (w 0 0) 1 ∷ []))
  pub another : Breaks pulled (event 0 (act.Give x (w 0 0) 0 ∷ []))
  pub elsewhere : Breaks pulled (event 1 (act.Give x (w 0 0) 1 ∷ []))
  pub old_word : Breaks (pulled ++ main (act.Tint x (w 0 0) (w 0 1) ∷ []) ∷ []) (event 0 (act.Give x (w 0 0) 1 ∷ []))

pub record TakeRules : Type 0 where
  pub comes : Goes given (event 1 (act.Take x (w 0 0) far ∷ []))
  pub not_given : Breaks pulled (event 1 (act.Take x (w 0 0) far ∷ []))
  pub twice : Breaks taken (event 1 (act.Take x far (far + 1) ∷ []))
  pub elsewhere : Breaks given (event 0 (act.Take x (w 0 0) (w 1 0) ∷ []))
  pub another_word : Breaks given (event 1 (act.Take x (w 0 1) far ∷ []))
  pub of_another : Breaks given (event 1 (act.Take x (w 0 0) (w 1 0) ∷ []))
  pub issued : Breaks (given ++ other (act.Make (object 1 0) far ∷ []) ∷ []) (event 1 (act.Take x (w 0 0) far ∷ []))
  pub old_word_is_over : Breaks taken (other (act.Local x (w 0 0) ∷ []))

pub record TintRules : Type 0 where
  pub next : Goes made (main (act.Tint x (w 0 0) (w 0 1) ∷ []))
  pub from_afar : Goes made (other (act.Tint x (w 0 0) (w 0 1) ∷ []))
  pub same : Breaks made (main (act.Tint x (w 0 0) (w 0 0) ∷ []))
  pub another_word : Breaks made (main (act.Tint x (w 1 0) (w 1 1) ∷ []))
  pub leaps : Breaks made (main (act.Tint x (w 0 0) (w 0 2) ∷ []))
  pub old_word : Breaks tinted (main (act.Tint x (w 0 0) (w 0 1) ∷ []))
  pub issued : Breaks (made ++ main (act.Make y (w 0 1) ∷ []) ∷ []) (main (act.Tint x (w 0 0) (w 0 1) ∷ []))
  pub past_last : Breaks at_last (main (act.Tint x (w 0 2) (w 0 3) ∷ []))
  pub flies : Breaks given (main (act.Tint x (w 0 0) (w 0 1) ∷ []))

pub record RenewRules : Type 0 where
  pub last : Goes at_last (main (act.Renew x (w 0 2) (w 1 0) ∷ []))
  pub not_last : Breaks tinted (main (act.Renew x (w 0 1) (w 1 0) ∷ []))
  pub elsewhere : Breaks at_last (other (act.Renew x (w 0 2) far ∷ []))
  pub of_another : Breaks at_last (main (act.Renew x (w 0 2) far ∷ []))
  pub issued : Breaks at_last (main (act.Renew x (w 0 2) (w 0 0) ∷ []))
  pub another_word : Breaks at_last (main (act.Renew x (w 1 2) (w 1 0) ∷ []))

pub record CondemnRules : Type 0 where
  pub here : Goes made (main (act.Condemn x (w 0 0) ∷ []))
  pub from_afar : Goes made (other (act.Condemn x (w 0 0) ∷ []))
  pub flies : Goes given (main (act.Condemn x (w 0 0) ∷ []))
  pub twice : Breaks condemned (main (act.Condemn x (w 0 0) ∷ []))
  pub old_word : Breaks tinted (main (act.Condemn x (w 0 0) ∷ []))

pub record FreeRules : Type 0 where
  pub frees : Goes condemned (event 0 (act.Free x (w 0 0) ∷ []))
  pub not_condemned : Breaks made (event 0 (act.Free x (w 0 0) ∷ []))
  pub elsewhere : Breaks condemned (event 1 (act.Free x (w 0 0) ∷ []))
  pub another_word : Breaks condemned (event 0 (act.Free x (w 0 1) ∷ []))
  pub twice : Breaks freed (event 0 (act.Free x (w 0 0) ∷ []))

pub record EvictRules : Type 0 where
  pub cached : Goes filled (event 1 (act.Evict (w 0 0) ∷ []))
  pub not_cached : Breaks served (event 1 (act.Evict (w 0 0) ∷ []))
  pub elsewhere : Breaks filled (event 0 (act.Evict (w 0 0) ∷ []))
  pub twice : Breaks (filled ++ event 1 (act.Evict (w 0 0) ∷ []) ∷ []) (event 1 (act.Evict (w 0 0) ∷ []))

-- RULES OF MUTEXES AND THREADS

pub record LockRules : Type 0 where
  pub asks : Goes guarded (turn 1 1 (act.AskLock m ∷ []))
  pub nobody_asks : Breaks guarded (event 1 (act.AskLock m ∷ []))
  pub not_made : Breaks started (turn 1 1 (act.AskLock m ∷ []))
  pub granted : Goes locking (event 0 (act.Grant m 1 1 ∷ []))
  pub not_asked : Breaks guarded (event 0 (act.Grant m 1 1 ∷ []))
  pub to_another : Breaks locking (event 0 (act.Grant m 0 1 ∷ []))
  pub to_elsewhere : Breaks locking (event 0 (act.Grant m 1 0 ∷ []))
  pub another_mutex : Breaks (locking ++ naming 0 0 (fresh.Mutex (mutex 0 2)) [] [] ∷ []) (event 0 (act.Grant (mutex 0 2) 1 1 ∷ []))
  pub not_home : Breaks locking (event 1 (act.Grant m 1 1 ∷ []))
  pub out : Breaks (locked ++ turn 0 0 (act.AskLock m ∷ []) ∷ []) (event 0 (act.Grant m 0 0 ∷ []))
  pub in_again : Goes (unlocked ++ turn 0 0 (act.AskLock m ∷ []) ∷ []) (event 0 (act.Grant m 0 0 ∷ []))
  pub given_back : Goes locked (other (act.GiveBack m ∷ []))
  pub given_back_twice : Breaks unlocked (other (act.GiveBack m ∷ []))
  pub given_back_by_another : Breaks locked (main (act.GiveBack m ∷ []))

pub record ShareRules : Type 0 where
  pub asks : Goes guarded (turn 1 1 (act.AskDup m ∷ []))
  pub nobody_asks : Breaks guarded (event 1 (act.AskDup m ∷ []))
  pub not_made : Breaks started (turn 1 1 (act.AskDup m ∷ []))
  pub answered : Goes sharing (event 0 (act.Dupped m 1 1 ∷ []))
  pub not_asked : Breaks locking (event 0 (act.Dupped m 1 1 ∷ []))
  pub to_another : Breaks sharing (event 0 (act.Dupped m 0 1 ∷ []))
  pub not_home : Breaks sharing (event 1 (act.Dupped m 1 1 ∷ []))
  pub let_go : Goes guarded (main (act.LetGo (released.Mutex m) ∷ []))
  pub let_go_not_made : Breaks started (main (act.LetGo (released.Mutex m) ∷ []))
  pub task_let_go : Goes started (main (act.LetGo (released.Task 1) ∷ []))
  pub task_not_started : Breaks started (main (act.LetGo (released.Task 2) ∷ []))

pub record StartRules : Type 0 where
  pub second : Goes started (main (act.Start 2 0 ∷ []))
  pub at_another : Goes started (other (act.Start (thread 1 1) 0 ∷ []))
  pub elsewhere : Breaks started (main (act.Start 2 1 ∷ []))
  pub twice : Breaks started (main (act.Start 1 1 ∷ []))
  pub main_again : Breaks started (main (act.Start 0 0 ∷ []))
  pub of_another : Breaks started (main (act.Start (thread 1 1) 0 ∷ []))
  pub nobody : Breaks started (event 0 (act.Start 2 0 ∷ []))

pub record JoinRules : Type 0 where
  pub asks : Goes started (turn 0 0 (act.AskJoin 1 ∷ []))
  pub nobody_asks : Breaks started (event 0 (act.AskJoin 1 ∷ []))
  pub not_started : Breaks started (turn 0 0 (act.AskJoin 2 ∷ []))
  pub answered : Goes joining (event 0 (act.Answer 1 0 0 ∷ []))
  pub not_asked : Breaks finished (event 0 (act.Answer 1 0 0 ∷ []))
  pub twice : Breaks (joining ++ event 0 (act.Answer 1 0 0 ∷ []) ∷ []) (event 0 (act.Answer 1 0 0 ∷ []))
  pub to_another : Breaks joining (event 0 (act.Answer 1 1 0 ∷ []))
  pub to_elsewhere : Breaks joining (event 0 (act.Answer 1 0 1 ∷ []))
  pub not_home : Breaks joining (event 1 (act.Answer 1 0 0 ∷ []))
  pub goes_on : Breaks (started ++ turn 0 0 (act.AskJoin 1 ∷ []) ∷ []) (event 0 (act.Answer 1 0 0 ∷ []))

pub record EndRules : Type 0 where
  pub ends : Goes started (other (act.Finish 1 ∷ []))
  pub twice : Breaks finished (other (act.Finish 1 ∷ []))
  pub of_another : Breaks started (main (act.Finish 1 ∷ []))
  pub of_main : Breaks started (main (act.Finish 0 ∷ []))

pub record DepartRules : Type 0 where
  pub leaves : Goes started (turn 1 1 (act.Depart 1 0 ∷ []))
  pub stays : Breaks started (turn 1 1 (act.Depart 1 1 ∷ []))
  pub nowhere : Breaks started (turn 1 1 (act.Depart 1 2 ∷ []))
  pub of_another : Breaks started (turn 0 0 (act.Depart 1 1 ∷ []))

-- where an entry stands, and which mutex its step may make
pub record PlaceRules : Type 0 where
  pub there : Goes moved (step 0 1 [] [])
  pub not_there : Breaks moved (other [])
  pub not_started : Breaks empty (other [])
  pub no_server : Breaks started (event 2 [])
  pub second_mutex : Goes guarded (naming 0 0 (fresh.Mutex (mutex 0 2)) [] [])
  pub mutex_twice : Breaks guarded (naming 0 0 (fresh.Mutex m) [] [])
  pub mutex_elsewhere : Breaks guarded (naming 0 0 (fresh.Mutex (mutex 1 1)) [] [])

-- REACH

-- after these entries this one is legal, and it reaches what it loads and stores, or it doesn't
abbrev pub Reaches : Bool → List EntryView → EntryView → Type 0
Reaches b before e = (is_legal run (before ++ e ∷ []) ≡ true) × (is_all_reached run (before ++ e ∷ []) ≡ b)

-- the object was written where it lies, under the word that server 1 has a copy under
abbrev written : List EntryView
written = filled ++ step 0 0 [] (label.Store x (int 6) ∷ []) ∷ []

-- it was written under the next colour
abbrev recoloured : List EntryView
recoloured = filled ++ step 0 0 (act.Tint x (w 0 0) (w 0 1) ∷ []) (label.Store x (int 6) ∷ []) ∷ []

-- two copies were asked for by two threads at server 1, and the object was written between the two that were served
abbrev served_twice : List EntryView
served_twice = made ++ naming 0 0 (fresh.Thread 3) (act.Start 3 1 ∷ []) [] ∷ turn 1 1 (act.Ask x (w 0 0) ∷ []) ∷ turn 1 3 (act.Ask x (w 0 0) ∷ [])
    ∷ event 0 (act.Serve x (w 0 0) 1 ∷ []) ∷ step 0 0 [] (label.Store x (int 6) ∷ []) ∷ event 0 (act.Serve x (w 0 0) 1 ∷ [])
    ∷ event 1 (act.Fill x (w 0 0) ∷ []) ∷ []

pub record ReachRules : Type 0 where
  pub here : Reaches true made (step 0 0 [] (label.Load x (int 5) ∷ []))
  pub copied : Reaches true filled (step 1 1 [] (label.Load x (int 5) ∷ []))
  pub old_value : Reaches false written (step 0 0 [] (label.Load x (int 5) ∷ []))
  pub new_value : Reaches true written (step 0 0 [] (label.Load x (int 6) ∷ []))
  pub old_copy : Reaches false written (step 1 1 [] (label.Load x (int 5) ∷ []))
  pub no_copy_of_it : Reaches false written (step 1 1 [] (label.Load x (int 6) ∷ []))
  pub old_word : Reaches false recoloured (step 1 1 [] (label.Load x (int 6) ∷ []))
  pub not_cached : Reaches false served (step 1 1 [] (label.Load x (int 5) ∷ []))
  pub flies : Reaches false given (step 0 0 [] (label.Load x (int 5) ∷ []))
  pub stored : Reaches true made (step 0 0 [] (label.Store x (int 6) ∷ []))
  pub stored_in_copy : Reaches false filled (step 1 1 [] (label.Store x (int 6) ∷ []))
  pub moved_out : Reaches true made (step 0 0 [] (label.Load x (int 5) ∷ label.Store x (int 7) ∷ label.Load x (int 7) ∷ []))
  pub stored_later : Reaches false made (step 0 0 [] (label.Load x (int 7) ∷ label.Store x (int 7) ∷ []))
  pub no_object : Reaches false freed (step 0 0 [] (label.Load x (int 5) ∷ []))
  pub made_of : Reaches true made (step 0 0 (act.Make y (w 1 0) ∷ []) (label.Make y (int 1) ∷ label.Make y (int 2) ∷ label.Load y (int 1) ∷ []))
  -- the copy that was served first comes first, and the later one takes its place
  pub first_served : Reaches false served_twice (step 1 1 [] (label.Load x (int 6) ∷ []))
  pub then_the_later : Reaches true (served_twice ++ event 1 (act.Fill x (w 0 0) ∷ []) ∷ []) (step 1 1 [] (label.Load x (int 6) ∷ []))

-- DRIVERS

-- these entries are legal, and a driver can leave them, or it can't
abbrev pub Drives : Bool → List EntryView → Type 0
Drives b es = (is_legal run es ≡ true) × (is_driven run es ≡ b)

-- server 1 has a second copy too
abbrev filled_twice : List EntryView
filled_twice = filled ++ main (act.Make y (w 1 0) ∷ []) ∷ turn 1 1 (act.Ask y (w 1 0) ∷ []) ∷ event 0 (act.Serve y (w 1 0) 1 ∷ []) ∷ event 1 (act.Fill y (w 1 0) ∷ []) ∷ []

abbrev evict : ℕ → EntryView
evict word = event 1 (act.Evict word ∷ [])

abbrev depart : ℕ → ℕ → EntryView
depart here there = turn here 1 (act.Depart 1 there ∷ [])

pub record DriverRules : Type 0 where
  pub not_due : Drives false (filled ++ evict (w 0 0) ∷ [])
  pub due : Drives true (filled_twice ++ evict (w 0 0) ∷ [])
  pub one_is_enough : Drives false (filled_twice ++ evict (w 0 0) ∷ evict (w 1 0) ∷ [])
  pub moves_on : Drives false (started ++ depart 1 0 ∷ event 0 [] ∷ depart 0 1 ∷ [])
  pub moves_after_a_step : Drives true (started ++ depart 1 0 ∷ event 0 [] ∷ step 0 1 [] [] ∷ depart 0 1 ∷ [])
  pub another_steps : Drives false (started ++ depart 1 0 ∷ step 0 0 [] [] ∷ depart 0 1 ∷ [])
  pub asks_alone : Drives false (made ++ depart 1 0 ∷ turn 0 1 (act.AskJoin 1 ∷ []) ∷ depart 0 1 ∷ [])

pub record RulesRefuse : Type 0 where
  pub make : MakeRules
  pub local : LocalRules
  pub hit : HitRules
  pub ask : AskRules
  pub serve : ServeRules
  pub fill : FillRules
  pub pull : PullRules
  pub give : GiveRules
  pub take : TakeRules
  pub tint : TintRules
  pub renew : RenewRules
  pub condemn : CondemnRules
  pub free : FreeRules
  pub evict : EvictRules
  pub lock : LockRules
  pub share : ShareRules
  pub start : StartRules
  pub join : JoinRules
  pub end : EndRules
  pub depart : DepartRules
  pub place : PlaceRules

pub record ReachAndDrivers : Type 0 where
  pub reach : ReachRules
  pub drivers : DriverRules
